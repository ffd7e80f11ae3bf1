-- The deepest level of a layout's nodes is the wide tree's level.
use mathlib.Core.List.{List}
use mathlib.Core.Path.{◌≡◌}
use Prim.Native.Nat.{ℕ, suc, ◌+◌, ◌<◌, ◌≤◌, max}
use native.Mathlib.Decide.{dec_lt}
use native.Mathlib.Omega.{arith}
use Rattle.wide_layout.specs.Wide.{Slots, end, empty, leaf, inner, Wide}
use Rattle.wide_layout.specs.Sizes.{inner_children, nodes_below, levels_below, own_count, count_below}
use Rattle.wide_layout.specs.Layout.{Entry, entry, entries, layout, EachEntry, level}
use Rattle.wide_layout.proofs.Each.{each_append, each_map, each_left, each_right}

-- no node is deeper
levels_below_lem : {w : ℕ} (s : Slots w) (l p k i c q d : ℕ) → l + levels_below s ≤ d → EachEntry (λ e. e.level < d) (entries s l p k i c q)
levels_below_lem end l p k i c q d h = tt
levels_below_lem (empty s) l p k i c q d h = levels_below_lem s l p (k + 1) i c q d h
levels_below_lem (leaf b ps s) l p k i c q d h = levels_below_lem s l p (k + 1) i c q d h
levels_below_lem (inner b t s) l p k i c q d h = (
  omega arith,
  each_append (λ e. e.level < d) (entries t (l + 1) i 0 c (c + inner_children t) (q + own_count t))
      (entries s l p (k + 1) (i + 1) (c + (inner_children t + nodes_below t)) (q + (own_count t + count_below t)))
      (levels_below_lem t (l + 1) i 0 c (c + inner_children t) (q + own_count t) d (omega arith))
      (levels_below_lem s l p (k + 1) (i + 1) (c + (inner_children t + nodes_below t)) (q + (own_count t + count_below t)) d (omega arith)),
)

pub level_most : (t : Wide) → EachEntry (λ e. e.level ≤ level t) (layout t)
level_most t = (
  omega arith,
  each_map (λ e. e.level < 1 + level t) (λ e. e.level ≤ level t)
      (entries t.slots 1 0 0 1 (1 + inner_children t.slots) (0 + own_count t.slots)) (λ e h. omega arith)
      (levels_below_lem t.slots 1 0 0 1 (1 + inner_children t.slots) (0 + own_count t.slots) (1 + level t) (omega arith)),
)

-- some node is as deep, with whatever every node has
deepest_below : (P : Entry → Type 0) {w : ℕ} (s : Slots w) (l p k i c q : ℕ) → 0 < levels_below s → EachEntry P (entries s l p k i c q) → (e : Entry)
    × (e.level + 1 ≡ l + levels_below s) × P e
deepest_below P end l p k i c q h a = absurd (omega arith)
deepest_below P (empty s) l p k i c q h a = deepest_below P s l p (k + 1) i c q h a
deepest_below P (leaf b ps s) l p k i c q h a = deepest_below P s l p (k + 1) i c q h a
deepest_below P (inner b t s) l p k i c q h a =
    go (dec_lt (levels_below s) (suc (levels_below t))) (dec_lt 0 (levels_below t))
    (λ z. deepest_below P t (l + 1) i 0 c (c + inner_children t) (q + own_count t) z (each_left P first last a.1))
    (λ z. deepest_below P s l p (k + 1) (i + 1) (c + (inner_children t + nodes_below t)) (q + (own_count t + count_below t)) z
    (each_right P first last a.1))
  where
    first : List Entry
    first = entries t (l + 1) i 0 c (c + inner_children t) (q + own_count t)

    last : List Entry
    last = entries s l p (k + 1) (i + 1) (c + (inner_children t + nodes_below t)) (q + (own_count t + count_below t))

    go : Dec (levels_below s < suc (levels_below t)) → Dec (0 < levels_below t)
        → (0 < levels_below t → (e : Entry) × (e.level + 1 ≡ l + 1 + levels_below t) × P e)
        → (0 < levels_below s → (e : Entry) × (e.level + 1 ≡ l + levels_below s) × P e)
        → (e : Entry) × (e.level + 1 ≡ l + max (suc (levels_below t)) (levels_below s)) × P e
    go (yes u) (yes v) f g = let r = f v in (r.0, omega (arith, r.1), r.2)
    go (yes u) (no v) f g = (entry b t l p k i c q, omega arith, a.0)
    go (no u) d f g = let r = g (omega arith) in (r.0, omega (arith, r.1), r.2)

pub level-some : (P : Entry → Type 0) (t : Wide) → EachEntry P (layout t) → (e : Entry) × (e.level ≡ level t) × P e
level-some P t a = go (dec_lt 0 (level t))
  where
    go : Dec (0 < level t) → (e : Entry) × (e.level ≡ level t) × P e
    go (yes h) =
        let r = deepest_below P t.slots 1 0 0 1 (1 + inner_children t.slots) (0 + own_count t.slots) h a.1 in
        (r.0, omega (arith, r.1), r.2)
    go (no h) = (entry t.box t.slots 0 0 0 0 1 0, omega arith, a.0)
