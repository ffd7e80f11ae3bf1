-- A tree's tables in a slice: every node's row holds its own values, and all other places stay.
use mathlib.Core.Path.{◌≡◌, sym, ◌∙◌}
use mathlib.Core.Logic.{◌⊎◌, inl, inr}
use mathlib.Core.List.{List}
use Prim.Native.Nat.{ℕ, ◌+◌, ◌*◌, ◌<◌, ◌≤◌}
use native.Mathlib.Decide.{dec_lt}
use native.Mathlib.Omega.{arith}
use lib.ListN.{length, get_or}
use Rattle.lists.specs.Counts.{same, count}
use Rattle.lists.proofs.Counts.{same_self}
use Rattle.bvh2.specs.Tree.{Tree, leaf, inner, labels, label_of}
use Rattle.bvh2.specs.Decoded.{LabelsWithin}
use Rattle.bvh2.proofs.Counts.{label_count, count-labels}
use Rattle.cost.specs.Rows.{row, fill, RowsHold}
use Rattle.cost.proofs.Rows.{length-row, row_before, row_after, row_at}

-- two numbers that differ
apart : (x v : ℕ) → same x v ≡ 0 → (x < v) ⊎ (v < x)
unfolding same
apart x v h = pick (dec_lt x v)
  where
    pick : Dec (x < v) → (x < v) ⊎ (v < x)
    pick (yes l) = inl l
    pick (no l) = inr (omega arith)

module _ {A : Type 0} (g : Tree ℕ → ℕ → A) where
  pub length-fill : (t : Tree ℕ) (s : List A) → length (fill g t s) ≡ length s
  unfolding fill
  length-fill (leaf v box p) s = length-row (g (leaf v box p)) (v * 7) 7 s
  length-fill (inner v box a b) s = length-row (g (inner v box a b)) (v * 7) 7 (fill g b (fill g a s)) ∙ length-fill b (fill g a s) ∙ length-fill a s

  other_row : (f : ℕ → A) (v x k : ℕ) (s : List A) (d : A) → same x v ≡ 0 → k < 7 → get_or (row f (v * 7) 7 s) (x * 7 + k) d ≡ get_or s (x * 7 + k) d
  other_row f v x k s d h u = elim (apart x v h) [
    | inl a ↦ row_before f (v * 7) 7 s (x * 7 + k) d (omega arith)
    | inr b ↦ row_after f (v * 7) 7 s (x * 7 + k) d (omega arith)
  ]

  none_below : (t : Tree ℕ) (s : List A) (x k : ℕ) (d : A) → label_count x t ≡ 0 → k < 7 → get_or (fill g t s) (x * 7 + k) d ≡ get_or s (x * 7 + k) d
  unfolding fill label_count
  none_below (leaf v box p) s x k d h u = other_row (g (leaf v box p)) v x k s d h u
  none_below (inner v box a b) s x k d h u =
      other_row (g (inner v box a b)) v x k (fill g b (fill g a s)) d (omega arith) u
      ∙ none_below b (fill g a s) x k d (omega arith) u
      ∙ none_below a s x k d (omega arith) u

  -- a node outside the tree keeps what it had
  pub outside : (t : Tree ℕ) (s : List A) (x k : ℕ) (d : A) → count x (labels t) ≡ 0 → k < 7 → get_or (fill g t s) (x * 7 + k) d
      ≡ get_or s (x * 7 + k) d
  outside t s x k d h u = none_below t s x k d (sym (count-labels x t) ∙ h) u

  -- the root holds its own row
  pub at_root : (t : Tree ℕ) (s : List A) (k : ℕ) (d : A) → label_of t * 7 + 7 ≤ length s → k < 7 → get_or (fill g t s) (label_of t * 7 + k) d ≡ g t k
  unfolding fill label_of
  at_root (leaf v box p) s k d h u = row_at (g (leaf v box p)) (v * 7) 7 s k d u h
  at_root (inner v box a b) s k d h u =
      row_at (g (inner v box a b)) (v * 7) 7 (fill g b (fill g a s)) k d u (rw (length-fill b (fill g a s), length-fill a s) h)

  -- rows stay held while places outside the tree are written
  holds_kept : (t : Tree ℕ) (s s' : List A) (d : A) → ((x k : ℕ) → 1 ≤ label_count x t → k < 7 → get_or s' (x * 7 + k) d ≡ get_or s (x * 7 + k) d)
      → RowsHold g d s t → RowsHold g d s' t
  unfolding RowsHold label_count
  holds_kept (leaf v box p) s s' d e h = λ k u. e v k (omega (arith, same_self v)) u ∙ h k u
  holds_kept (inner v box a b) s s' d e h = (
    (λ k u. e v k (omega (arith, same_self v)) u ∙ h.0 k u),
    holds_kept a s s' d (λ x k w u. e x k (omega arith) u) h.1,
    holds_kept b s s' d (λ x k w u. e x k (omega arith) u) h.2,
  )

  filled_holds : (t : Tree ℕ) (s : List A) (d : A) (m n : ℕ) → ((x : ℕ) → label_count x t ≤ 1) → LabelsWithin m n t → m * 7 ≤ length s
      → RowsHold g d (fill g t s) t
  unfolding fill RowsHold LabelsWithin label_count
  filled_holds (leaf v box p) s d m n o w u = λ k l. row_at (g (leaf v box p)) (v * 7) 7 s k d l (omega arith)
  filled_holds (inner v box a b) s d m n o w u =
      let F = fill g b (fill g a s) in
      let e : length F ≡ length s = length-fill b (fill g a s) ∙ length-fill a s in
      let E = length-fill a s in (
        (λ k l. row_at (g (inner v box a b)) (v * 7) 7 F k d l (omega arith)),
        holds_kept a (fill g a s) (row (g (inner v box a b)) (v * 7) 7 F) d
            (λ x k i l. let j = o x in
            other_row (g (inner v box a b)) v x k F d (omega arith) l ∙ none_below b (fill g a s) x k d (omega arith) l)
            (filled_holds a s d m n (λ x. let j = o x in omega arith) w.1 u),
        holds_kept b F (row (g (inner v box a b)) (v * 7) 7 F) d
            (λ x k i l. let j = o x in other_row (g (inner v box a b)) v x k F d (omega arith) l)
            (filled_holds b (fill g a s) d m n (λ x. let j = o x in omega arith) w.2 (omega arith)),
      )

  -- so does every node, where the labels are distinct and their rows lie in the slice
  pub inside : (t : Tree ℕ) (s : List A) (d : A) (m n : ℕ) → ((x : ℕ) → count x (labels t) ≤ 1) → LabelsWithin m n t → m * 7 ≤ length s
      → RowsHold g d (fill g t s) t
  inside t s d m n o w u = filled_holds t s d m n (λ x. omega (arith, o x, count-labels x t)) w u
