-- What lies below a node: the positions below its slots, slot after slot, and some of them below each slot with a child.
use mathlib.Core.List.{List, ◌++◌, append_assoc, append-nil, map-append}
use mathlib.Core.Path.{◌≡◌, refl, sym, ap, ◌∙◌}
use Prim.Native.Nat.{ℕ, zero, suc, ◌+◌, ◌≤◌, ◌<◌}
use native.Mathlib.Omega.{arith}
use lib.ListN.{length}
use Rattle.lists.specs.At.{words_at}
use Rattle.aabb.specs.declared.Aabb.{Aabb}
use Rattle.wide_layout.specs.Wide.{Slots, end, empty, leaf, inner, Wide}
use Rattle.wide_layout.specs.Content.{Content, none, leaf_child, inner_child, content_at}
use Rattle.wide_layout.specs.Sizes.{children, inner_children, nodes_below, own_count, count_below, slots_positions, SmallLeaves, Branching}
use Rattle.wide_layout.specs.Layout.{entries, EachEntry, nodes}
use Rattle.wide_layout.specs.Shape.{layout_entry}
use Rattle.wide_layout.proofs.Sizes.{nodes_few, positions-length}
use Rattle.wide_layout.proofs.Each.{each_append, node_has}
use Rattle.record.specs.Record.{joined_below}
use Rattle.side_table.specs.SideTable.{positions_under, panes_under}

-- ---- slot after slot

joined_front : {A : Type 0} (f : ℕ → List A) (k : ℕ) → joined_below (suc k) f ≡ f 0 ++ joined_below k (λ i. f (suc i))
unfolding joined_below
joined_front f zero = sym (append-nil (f 0))
joined_front f (suc k) = ap (λ (l : List _). l ++ f (suc k)) (joined_front f k) ∙ append_assoc (f 0) (joined_below k (λ i. f (suc i))) (f (suc k))

under_slots : {w : ℕ} (s : Slots w) → joined_below w (λ i. positions_under (content_at s i)) ≡ slots_positions s
unfolding joined_below positions_under content_at
under_slots end = refl
under_slots (empty {w} s) = joined_front (λ i. positions_under (content_at (empty s) i)) w ∙ under_slots s
under_slots (leaf {w} b ps s) =
    joined_front (λ i. positions_under (content_at (leaf b ps s) i)) w ∙ ap (λ (l : List ℕ). ps ++ l) (under_slots s)
under_slots (inner {w} b t s) =
    joined_front (λ i. positions_under (content_at (inner b t s) i)) w ∙ ap (λ (l : List ℕ). slots_positions t ++ l) (under_slots s)

-- the panes below the first k slots
abbrev pub panes_before : {w : ℕ} → (indices : List ℕ) → Slots w → ℕ → List ℕ
panes_before indices s k = joined_below k (panes_under indices s)

module _ {w : ℕ} (indices : List ℕ) (s : Slots w) where
  before_words : (k : ℕ) → panes_before indices s k ≡ words_at indices (joined_below k (λ i. positions_under (content_at s i)))
  unfolding joined_below panes_under
  before_words zero = refl
  before_words (suc k) =
      ap (λ (l : List ℕ). l ++ panes_under indices s k) (before_words k)
      ∙ sym (map-append _ (joined_below k (λ i. positions_under (content_at s i))) (positions_under (content_at s k)))

  pub panes_all : panes_before indices s w ≡ words_at indices (slots_positions s)
  panes_all = before_words w ∙ ap (words_at indices) (under_slots s)

-- ---- some below each child

-- below what stands in a slot, if anything does, there is a position
abbrev pub SomeUnder : Content → Type 0
SomeUnder none = Unit {0}
SomeUnder (leaf_child b ps) = 0 < length ps
SomeUnder (inner_child b t) = 0 < length (slots_positions t)

some_below : (b : Aabb) (t : Slots 8) → SmallLeaves t → Branching t → 2 ≤ children t → 0 < length (slots_positions t)
some_below b t h k two = omega (arith, nodes_few (record { box = b; slots = t }) h k two, positions-length t)

pub some_under : {w : ℕ} (s : Slots w) → SmallLeaves s → Branching s → (k : ℕ) → SomeUnder (content_at s k)
unfolding content_at
some_under end h b k = tt
some_under (empty s) h b zero = tt
some_under (empty s) h b (suc k) = some_under s h b k
some_under (leaf a ps s) h b zero = omega (arith, h.0)
some_under (leaf a ps s) h b (suc k) = some_under s h.2 b k
some_under (inner a t s) h b zero = some_below a t h.0 b.1 b.0
some_under (inner a t s) h b (suc k) = some_under s h.1 b.2 k

branching_below : {w : ℕ} (s : Slots w) (l p k i c q : ℕ) → Branching s → EachEntry (λ e. Branching e.slots) (entries s l p k i c q)
branching_below end l p k i c q h = tt
branching_below (empty s) l p k i c q h = branching_below s l p (k + 1) i c q h
branching_below (leaf b ps s) l p k i c q h = branching_below s l p (k + 1) i c q h
branching_below (inner b t s) l p k i c q h = (
  h.1,
  each_append (λ e. Branching e.slots) (entries t (l + 1) i 0 c (c + inner_children t) (q + own_count t))
      (entries s l p (k + 1) (i + 1) (c + (inner_children t + nodes_below t)) (q + (own_count t + count_below t)))
      (branching_below t (l + 1) i 0 c (c + inner_children t) (q + own_count t) h.1)
      (branching_below s l p (k + 1) (i + 1) (c + (inner_children t + nodes_below t)) (q + (own_count t + count_below t)) h.2),
)

-- each node of a layout has slots that branch, if the tree has
pub node_branching : (t : Wide) → Branching t.slots → (v : ℕ) → v < nodes t → Branching (layout_entry t v).slots
node_branching t h =
    node_has (λ e. Branching e.slots) t (h, branching_below t.slots 1 0 0 1 (1 + inner_children t.slots) (0 + own_count t.slots) h)
