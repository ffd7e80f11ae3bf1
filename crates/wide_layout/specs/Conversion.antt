-- Internal: a layout as conversion runs (01, "Corners of each file", bvh2_to_cwbvh.rs): a node is written, then its inner children are converted in
-- slot order, and the node count and the index count are handed on. What writing a node does is left open.
use Rattle.std.specs.Prelude.{List, [], ◌∷◌, map, ℕ, ◌+◌}
use Rattle.lists.specs.Splice.{splice}
use Rattle.aabb.specs.declared.Aabb.{Aabb}
use Rattle.wide_layout.specs.Wide.{Slots, end, empty, leaf, inner, Wide}
use Rattle.wide_layout.specs.Sizes.{inner_children, own_positions, own_count}
use Rattle.wide_layout.specs.Layout.{Entry, entry}

-- what was written so far, how many nodes are numbered, and how many positions are written
pub record State (Z : Type 0) : Type 0 where
  pub written : Z
  pub nodes : ℕ
  pub positions : ℕ

module _ {Z : Type 0} (write : Entry → Z → Z) where
  -- write the node of box b and slots t: its inner children take the next numbers, its positions the next places
  abbrev pub enter : Aabb → Slots 8 → (l p k i : ℕ) → State Z → State Z
  enter b t l p k i z = record {
    written = write (entry b t l p k i z.nodes z.positions) z.written;
    nodes = z.nodes + inner_children t;
    positions = z.positions + own_count t;
  }

  -- convert the inner children of the slots from slot k on of node p: they have level l, and the next of them has number i
  unfoldable pub convert : {w : ℕ} → Slots w → (l p k i : ℕ) → State Z → State Z
  convert end l p k i z = z
  convert (empty s) l p k i z = convert s l p (k + 1) i z
  convert (leaf b ps s) l p k i z = convert s l p (k + 1) i z
  convert (inner b t s) l p k i z = convert s l p (k + 1) (i + 1) (convert t (l + 1) i 0 z.nodes (enter b t l p k i z))

  -- convert a node with all below it
  abbrev pub convert_node : Aabb → Slots 8 → (l p k i : ℕ) → State Z → State Z
  convert_node b t l p k i z = convert t (l + 1) i 0 z.nodes (enter b t l p k i z)

  -- the whole tree: the root is numbered before anything is written
  abbrev pub convert_tree : Wide → Z → State Z
  convert_tree t z = convert_node t.box t.slots 0 0 0 0 (record { written = z; nodes = 1; positions = 0 })

  -- nodes written one after another
  abbrev pub write_all : Z → List Entry → Z
  write_all z [] = z
  write_all z (e ∷ r) = write_all (write e z) r

-- writing a node's own positions, each as f gives it, from its position_base on
abbrev pub write_positions : {A : Type 0} → (ℕ → A) → Entry → List A → List A
write_positions f e a = splice a e.position_base (map f (own_positions e.slots))
