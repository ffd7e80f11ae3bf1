-- Words and nodes moved: what is written for each, and that it fits.
use mathlib.Core.Bool.{Bool, true}
use mathlib.Core.List.{List, [], ◌∷◌, ◌++◌, map}
use mathlib.Core.Path.{◌≡◌, refl, sym, ap, ap₂, subst, ◌∙◌}
use Prim.Native.Nat.{ℕ, suc, ◌+◌, ◌-◌, ◌*◌, ◌/◌, ◌^◌, ◌<◌, ◌≤◌}
use native.Mathlib.Decide.{ℕ_discrete}
use native.Mathlib.Nat.{add-zero}
use native.Mathlib.Omega.{arith}
use lib.ListN.{length, get_or, length-append, length-map, get_or-map}
use lib.Seq.{ext_get_or}
use lib.Dec.{leb}
use borrow.Author.Tests.{le-leb, leb-true}
use Rattle.lists.specs.Splice.{splice}
use Rattle.lists.specs.Values.{values}
use Rattle.lists.proofs.Values.{values_length, values_at}
use Rattle.lists.proofs.Tells.{all_pass, all_at}
use Rattle.bvh2.specs.Words.{tree_nodes, Link, children, position, malformed, link_of, word_at, link_at}
use Rattle.bvh2.specs.Causes.{LinkInside, Accepted}
use Rattle.bvh2.proofs.First.{accepted_facts}
use Rattle.bvh2.proofs.Reading.{word-children, word_position, word_malformed, same-children, same_position, children_position, position_malformed}
use Rattle.tree_words.specs.Nodes.{in_turn}
use Rattle.tree_words.proofs.Nodes.{turn_next}
use Rattle.join.specs.Join.{moved_link, moved_node, sums_fit}

-- ---- a list's words, one by one
pub map-values : (f : ℕ → ℕ) (l : List ℕ) → values (λ i. f (get_or l i 0)) (length l) ≡ map f l
map-values f l =
    let g : ℕ → ℕ = λ i. f (get_or l i 0) in
    let e = values_length g (length l) in
    ext_get_or (f 0) (values g (length l)) (map f l) (e ∙ sym (length-map l f))
    (λ i h. let k : i < length l = omega (arith, h, e) in values_at g (length l) i (f 0) k ∙ sym (get_or-map f l i 0))

-- all of them written
pub all_moved : (l : List ℕ) (by : ℕ) (s : List ℕ) (at : ℕ) (t : List ℕ) (i : ℕ) → t ≡ splice s at (values (λ j. get_or l j 0 + by) i) → i ≡ length l
    → t ≡ splice s at (map (λ k. k + by) l)
all_moved l by s at t i e h =
    e ∙ ap (λ (k : ℕ). splice s at (values (λ j. get_or l j 0 + by) k)) h ∙ ap (splice s at) (map-values (λ k. k + by) l)

-- moved by nothing, a list is itself, and its words fit
pub map_none : (l : List ℕ) → map (λ k. k + 0) l ≡ l
map_none [] = refl
map_none (x ∷ l) = rw (map_none l, add-zero x)

pub none_fits : (l : List ℕ) → ((i : ℕ) → get_or l i 0 < 2 ^ 32) → sums_fit 0 l ≡ true
none_fits l h =
    all_pass (λ i. leb (get_or l i 0 + 0) 0xffff_ffff) (length l) (λ i k. le-leb (get_or l i 0 + 0) 0xffff_ffff (omega (arith, h i)))

-- a word moved so is a word
pub stays_word : (by : ℕ) (l : List ℕ) (i : ℕ) → sums_fit by l ≡ true → i < length l → get_or l i 0 + by < 2 ^ 32
stays_word by l i e h =
    let f : ℕ → Bool = λ k. leb (get_or l k 0 + by) 0xffff_ffff in
    omega (arith, leb-true (get_or l i 0 + by) 0xffff_ffff (all_at f (length l) e i h))

-- ---- links
children_word : (w f : ℕ) → link_of w ≡ children f → w ≡ f
children_word w f e = go (ℕ_discrete (w / 0x4000_0000) 0) (ℕ_discrete (w / 0x4000_0000) 1)
  where
    go : Dec (w / 0x4000_0000 ≡ 0) → Dec (w / 0x4000_0000 ≡ 1) → w ≡ f
    go (yes h) k = let i = same-children e (word-children w h) in omega arith
    go (no h) (yes k) = children_position e (word_position w k)
    go (no h) (no k) = let i = word_malformed w h k in cc

position_word : (w p : ℕ) → link_of w ≡ position p → w ≡ 0x4000_0000 + p
position_word w p e = go (ℕ_discrete (w / 0x4000_0000) 0) (ℕ_discrete (w / 0x4000_0000) 1)
  where
    go : Dec (w / 0x4000_0000 ≡ 0) → Dec (w / 0x4000_0000 ≡ 1) → w ≡ 0x4000_0000 + p
    go (yes h) k = children_position (word-children w h) e
    go (no h) (yes k) = let i = same_position e (word_position w k) in omega arith
    go (no h) (no k) = position_malformed e (word_malformed w h k)

module _ (nodes positions : ℕ) (w : ℕ) where
  pub moved_children : (f : ℕ) → link_of w ≡ children f → f + nodes ≡ moved_link nodes positions w
  unfolding moved_link
  moved_children f e = let h = children_word w f e in rw (moved_link, e) (omega arith)

  pub moved_position : (p : ℕ) → link_of w ≡ position p → 0x4000_0000 + p + positions ≡ moved_link nodes positions w
  unfolding moved_link
  moved_position p e = let h = position_word w p e in rw (moved_link, e) (omega arith)

-- a link inside a tree of at most 65,536 leaves
pub inside_most : (ws : List ℕ) (n v : ℕ) → Accepted ws n → v < tree_nodes n → LinkInside 65536 (link_at ws v)
unfolding LinkInside
inside_most ws n v a l =
    let f = accepted_facts ws n a (omega arith) in
    go f.sized.few (link_at ws v) (f.inside v l)
  where
    go : n ≤ 65536 → (k : Link) → LinkInside n k → LinkInside 65536 k
    go few (children f) i = omega arith
    go few (position p) i = omega arith
    go few malformed i = i

-- ---- nodes
pub moved_seven : (ws : List ℕ) (nodes positions v : ℕ) → length (moved_node ws nodes positions v) ≡ 7
unfolding moved_node
moved_seven ws nodes positions v =
    length-append (values (word_at ws v) 6) (moved_link nodes positions (word_at ws v 6) ∷ [])
    ∙ ap (λ (k : ℕ). k + 1) (values_length (word_at ws v) 6)

-- the node that the code writes
pub node_moved : (ws : List ℕ) (nodes positions v link : ℕ) → link ≡ moved_link nodes positions (word_at ws v 6)
    → values (word_at ws v) 6 ++ (link ∷ []) ≡ moved_node ws nodes positions v
unfolding moved_node
node_moved ws nodes positions v link e = rw e refl

-- all nodes of a tree but its root, up to node v
module _ (ws : List ℕ) (nodes positions : ℕ) where
  abbrev rest_node : ℕ → List ℕ
  rest_node v = moved_node ws nodes positions (v + 1)

  rest_seven : (v : ℕ) → length (rest_node v) ≡ 7
  rest_seven v = moved_seven ws nodes positions (v + 1)

  module _ (s t : List ℕ) (v : ℕ) (h : 1 ≤ v) (e : t ≡ splice s ((1 + nodes) * 7) (in_turn rest_node (v - 1))) where
    pub rest_next : (u : List ℕ) → (v + nodes) * 7 + 7 ≤ length s → u ≡ splice t ((v + nodes) * 7) (moved_node ws nodes positions v)
        → u ≡ splice s ((1 + nodes) * 7) (in_turn rest_node (v + 1 - 1))
    rest_next u k f =
        let place : (v + nodes) * 7 ≡ (1 + nodes) * 7 + (v - 1) * 7 = omega arith in
        let own : v ≡ v - 1 + 1 = omega arith in
        let next : suc (v - 1) ≡ v + 1 - 1 = omega arith in
        subst (λ (j : ℕ). u ≡ splice s ((1 + nodes) * 7) (in_turn rest_node j)) next
        (turn_next rest_node rest_seven s ((1 + nodes) * 7) (v - 1) t u (omega arith) e
        (f ∙ ap₂ (λ (i j : ℕ). splice t i (moved_node ws nodes positions j)) place own))
