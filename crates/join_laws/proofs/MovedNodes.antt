-- What is read of a moved node: its box as it was, its pair of children or its position moved.
use mathlib.Core.List.{List}
use mathlib.Core.Path.{◌≡◌, refl, sym, ap, ◌∙◌}
use Prim.Native.Nat.{ℕ, zero, suc, ◌+◌, ◌/◌, ◌%◌, ◌<◌}
use native.Mathlib.Omega.{arith}
use Rattle.lists.specs.Counts.{upto}
use Rattle.bvh2.specs.Words.{Link, children, position, malformed, link_of, word_at, link_at, box_at}
use Rattle.bvh2.proofs.Reading.{word-children, word_position, word_malformed}
use Rattle.join.specs.Join.{moved_link, moved_node}
use Rattle.join_laws.specs.Joined.{seven_words}
use Rattle.join_laws.proofs.Nodes.{node-word}

-- ---- a node by its seven words
pub node_box : (ws : List ℕ) (v : ℕ) → box_at (seven_words ws v) 0 ≡ box_at ws v
unfolding box_at
node_box ws v = rw (
  node-word ws v 0 (omega arith),
  node-word ws v 1 (omega arith),
  node-word ws v 2 (omega arith),
  node-word ws v 3 (omega arith),
  node-word ws v 4 (omega arith),
  node-word ws v 5 (omega arith),
)

pub node_link : (ws : List ℕ) (v : ℕ) → link_at (seven_words ws v) 0 ≡ link_at ws v
node_link ws v = ap link_of (node-word ws v 6 (omega arith))

-- ---- a moved link
-- the word that a link is read from
unfoldable ReadFrom : Link → ℕ → Type 0
ReadFrom (children f) w = (w ≡ f) × (f < 0x4000_0000)
ReadFrom (position p) w = (w ≡ 0x4000_0000 + p) × (p < 0x4000_0000)
ReadFrom malformed w = Unit {0}

read_from : (w : ℕ) → ReadFrom (link_of w) w
unfolding ReadFrom
read_from w = pick (w / 0x4000_0000) refl
  where
    pick : (k : ℕ) → w / 0x4000_0000 ≡ k → ReadFrom (link_of w) w
    pick zero e = rw (word-children w e) (omega arith)
    pick (suc zero) e = rw (word_position w e) (omega arith)
    pick (suc (suc k)) e = rw (word_malformed w (λ z. omega arith) (λ z. omega arith)) tt

module _ (nodes positions w : ℕ) where
  children_moved : (f : ℕ) → link_of w ≡ children f → f + nodes < 0x4000_0000 → link_of (moved_link nodes positions w) ≡ children (f + nodes)
  unfolding ReadFrom moved_link
  children_moved f e h =
      let r : ReadFrom (children f) w = rw e at (read_from w) in
      let s : (w + nodes) % 0x4000_0000 ≡ f + nodes = omega arith in
      rw (e, moved_link) (word-children (w + nodes) (omega arith) ∙ ap children s)

  position_moved : (p : ℕ) → link_of w ≡ position p → p + positions < 0x4000_0000 → link_of (moved_link nodes positions w) ≡ position (p + positions)
  unfolding ReadFrom moved_link
  position_moved p e h =
      let r : ReadFrom (position p) w = rw e at (read_from w) in
      let s : (w + positions) % 0x4000_0000 ≡ p + positions = omega arith in
      rw (e, moved_link) (word_position (w + positions) (omega arith) ∙ ap position s)

module _ (both ws : List ℕ) (nodes positions u v : ℕ) (e : seven_words both u ≡ moved_node ws nodes positions v) where
  pub moved_box : box_at both u ≡ box_at ws v
  unfolding box_at moved_node upto
  moved_box = sym (node_box both u) ∙ ap (λ (l : List ℕ). box_at l 0) e

  moved_link_lem : link_at both u ≡ link_of (moved_link nodes positions (word_at ws v 6))
  unfolding moved_node upto
  moved_link_lem = sym (node_link both u) ∙ ap (λ (l : List ℕ). link_at l 0) e

  pub moved_pair : (f : ℕ) → link_at ws v ≡ children f → f + nodes < 0x4000_0000 → link_at both u ≡ children (f + nodes)
  moved_pair f l h = moved_link_lem ∙ children_moved nodes positions (word_at ws v 6) f l h

  pub moved_held : (p : ℕ) → link_at ws v ≡ position p → p + positions < 0x4000_0000 → link_at both u ≡ position (p + positions)
  moved_held p l h = moved_link_lem ∙ position_moved nodes positions (word_at ws v 6) p l h
