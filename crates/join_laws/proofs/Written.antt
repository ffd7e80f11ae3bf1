-- What a call that joins writes, and what it leaves as it was.
use mathlib.Core.List.{List, [], ◌++◌, map, append-nil}
use mathlib.Core.Path.{◌≡◌, refl, sym, ap, ◌∙◌}
use Prim.Native.Nat.{ℕ, zero, suc, ◌+◌, ◌*◌}
use native.Mathlib.Omega.{arith}
use lib.ListN.{length, replicate, length-append, length-map, length-replicate, drop_of_length-le}
use Rattle.lists.specs.Splice.{splice}
use Rattle.lists.proofs.Splice.{splice_taken, splice_rest, splice_none}
use Rattle.bvh2.specs.Words.{tree_nodes}
use Rattle.bvh2.specs.Causes.{TreeSized}
use Rattle.bvh2.proofs.First.{accepted_sized}
use Rattle.join.specs.Join.{JoinCall, first_leaves, second_leaves, both_leaves, joined_words, joined_indices, marks_needed}
use Rattle.join.specs.Join.{JoinEnd, joined, join_by, join_of}
use Rattle.join_laws.specs.Joined.{Joins, words_given, indices_given, RestKept, NothingWritten}
use Rattle.join_laws.proofs.Joinable.{joins_none, joinable}
use Rattle.join_laws.proofs.UnderRoot.{under_length}

length_none : {A : Type 0} (l : List A) → length l ≡ 0 → l ≡ []
length_none l e = drop_of_length-le l {i = 0} (omega arith)

splice_nothing : {A : Type 0} (s b : List A) → length b ≡ 0 → splice s 0 b ≡ s
splice_nothing s b e = ap (splice s 0) (length_none b e) ∙ splice_none s 0

joined_length : (ws : List ℕ) (n : ℕ) (us : List ℕ) (m : ℕ) → length ws ≡ tree_nodes n * 7 → length us ≡ tree_nodes m * 7
    → length (joined_words ws n us m) ≡ tree_nodes (n + m) * 7
joined_length ws zero us m e f = omega arith
joined_length ws (suc n) us zero e f = omega arith
joined_length ws (suc n) us (suc m) e f = under_length ws (suc n) us (suc m) (omega arith) (omega arith)

-- an empty second leaves the first's words, which are none where that is empty too
second_none : (ws : List ℕ) (n : ℕ) (us : List ℕ) (m : ℕ) → length ws ≡ tree_nodes n * 7 → length us ≡ tree_nodes m * 7 → m ≡ 0
    → joined_words ws n us m ≡ ws
second_none ws zero us m e f z = length_none us (omega arith) ∙ sym (length_none ws (omega arith))
second_none ws (suc n) us zero e f z = refl
second_none ws (suc n) us (suc m) e f z = absurd (omega arith)

indices_length : (l : List ℕ) (panes : ℕ) (k : List ℕ) → length (joined_indices l panes k) ≡ length l + length k
indices_length l panes k = length-append l (map (λ i. i + panes) k) ∙ ap (λ (j : ℕ). length l + j) (length-map k (λ i. i + panes))

-- what is written in front of each slice
module _ (c : JoinCall) where
  abbrev pub all_words : List ℕ
  all_words = joined_words c.first (first_leaves c) c.second (second_leaves c)

  abbrev pub all_indices : List ℕ
  all_indices = joined_indices c.first_indices c.panes c.second_indices

  abbrev pub zeros : List ℕ
  zeros = replicate (marks_needed (first_leaves c) (second_leaves c)) 0

  all_indices_length : length all_indices ≡ both_leaves c
  all_indices_length = indices_length c.first_indices c.panes c.second_indices

  zeros_length : length zeros ≡ marks_needed (first_leaves c) (second_leaves c)
  zeros_length = length-replicate (marks_needed (first_leaves c) (second_leaves c)) 0

  module _ (j : Joins c) where
    first_sized : TreeSized c.first (first_leaves c)
    first_sized = accepted_sized c.first (first_leaves c) (joinable c j).accepted.0

    second_sized : TreeSized c.second (second_leaves c)
    second_sized = accepted_sized c.second (second_leaves c) (joinable c j).accepted.1

    ends : join_of c ≡ join_by 0 c
    unfolding join_of
    ends = ap (λ (k : ℕ). join_by k c) (joins_none c j)

    words_end : (join_of c).words ≡ splice c.words 0 all_words
    unfolding join_by
    words_end = ap (λ (r : JoinEnd). r.words) ends

    indices_end : (join_of c).indices ≡ splice c.indices 0 all_indices
    unfolding join_by
    indices_end = ap (λ (r : JoinEnd). r.indices) ends

    marks_end : (join_of c).marks ≡ splice c.marks 0 zeros
    unfolding join_by
    marks_end = ap (λ (r : JoinEnd). r.marks) ends

    all_words_length : length all_words ≡ tree_nodes (both_leaves c) * 7
    all_words_length = joined_length c.first (first_leaves c) c.second (second_leaves c) first_sized.fit second_sized.fit

    pub words_given_lem : words_given c ≡ all_words
    words_given_lem = rw words_end (splice_taken c.words all_words (tree_nodes (both_leaves c) * 7) all_words_length)

    -- The index words are the first's, then the second's, each counted on from the first's panes.
    pub joined_indices_lem : indices_given c ≡ c.first_indices ++ map (λ k. k + c.panes) c.second_indices
    joined_indices_lem = rw indices_end (splice_taken c.indices all_indices (both_leaves c) all_indices_length)

    -- What lies behind all that is written is as it was, and the marks needed are zero.
    pub joined_rest : RestKept c
    joined_rest = record {
      words = rw words_end (splice_rest c.words all_words (tree_nodes (both_leaves c) * 7) all_words_length);
      indices = rw indices_end (splice_rest c.indices all_indices (both_leaves c) all_indices_length);
      marks = rw marks_end (splice_rest c.marks zeros (marks_needed (first_leaves c) (second_leaves c)) zeros_length);
      zeros = rw marks_end (splice_taken c.marks zeros (marks_needed (first_leaves c) (second_leaves c)) zeros_length);
    }

    -- An empty first gives the second, its index words counted on.
    pub empty_first : first_leaves c ≡ 0 → (words_given c ≡ c.second) × (indices_given c ≡ map (λ k. k + c.panes) c.second_indices)
    empty_first e = (
      words_given_lem ∙ ap (λ (n : ℕ). joined_words c.first n c.second (second_leaves c)) e,
      joined_indices_lem ∙ ap (λ (l : List ℕ). l ++ map (λ k. k + c.panes) c.second_indices) (length_none c.first_indices e),
    )

    -- An empty second gives the first.
    pub empty_second : second_leaves c ≡ 0 → (words_given c ≡ c.first) × (indices_given c ≡ c.first_indices)
    empty_second e = (
      words_given_lem ∙ second_none c.first (first_leaves c) c.second (second_leaves c) first_sized.fit second_sized.fit e,
      joined_indices_lem
          ∙ ap (λ (l : List ℕ). c.first_indices ++ map (λ k. k + c.panes) l) (length_none c.second_indices e)
          ∙ append-nil c.first_indices,
    )

    -- Where both are empty nothing is written.
    pub empty_both : first_leaves c ≡ 0 → second_leaves c ≡ 0 → NothingWritten c
    empty_both e f = record {
      answer = j ∙ ap joined (omega arith);
      marks = marks_end ∙ splice_nothing c.marks zeros (omega (arith, zeros_length));
      words = words_end ∙ splice_nothing c.words all_words (omega (arith, all_words_length));
      indices = indices_end ∙ splice_nothing c.indices all_indices (omega (arith, all_indices_length));
    }
