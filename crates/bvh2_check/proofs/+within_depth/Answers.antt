-- A leaf is whole, an inner node as its children are, and one with no edge left is not.
use mathlib.Core.Bool.{Bool, true, false, ◌&&◌}
use mathlib.Core.List.{List}
use mathlib.Core.Path.{◌≡◌, refl, sym, ap, ◌∙◌}
use Prim.Native.Nat.{ℕ, ◌+◌, ◌-◌, ◌<◌}
use native.Mathlib.Omega.{arith}
use Rattle.lists.proofs.Tells.{tells_true, tells_false}
use Rattle.bvh2.specs.Words.{position, children, link_at, tree_at}
use Rattle.bvh2.specs.FirstCause.{is_whole}
use Rattle.bvh2.proofs.Once.{position_tells}
use Rattle.bvh2.proofs.Reading.{children_position, tree_leaf, tree_cut, tree_down}
use Rattle.bvh2.proofs.Subtree.{Inner, inner_link, formed, node}
use Rattle.bvh2_check.specs.Marking.{InTree}
use Rattle.bvh2_check.proofs.+within_depth.Goals as goal

-- ---- by the node's link
leaf_whole : (ws : List ℕ) (d v p : ℕ) → link_at ws v ≡ position p → true ≡ is_whole ws (tree_at ws d v)
unfolding is_whole
leaf_whole ws d v p e = rw (tree_leaf ws d v p e) (sym (tells_true (position_tells p (link_at ws v)) e))

cut_short : (ws : List ℕ) (d v f : ℕ) → link_at ws v ≡ children f → d ≡ 0 → false ≡ is_whole ws (tree_at ws d v)
unfolding is_whole
cut_short ws d v f e z = rw (z, tree_cut ws v f e) (sym (tells_false (position_tells 0 (link_at ws v)) (λ h. children_position e h)))

both_whole : (ws : List ℕ) (d v f : ℕ) → link_at ws v ≡ children f → 0 < d
    → is_whole ws (tree_at ws (d - 1) f) && is_whole ws (tree_at ws (d - 1) (f + 1)) ≡ is_whole ws (tree_at ws d v)
unfolding is_whole
both_whole ws d v f e h = rw (tree_down ws d v f e h) refl

whole_both : (ws : List ℕ) (d v f : ℕ) → link_at ws v ≡ children f → 0 < d → {a b : Bool} → a ≡ is_whole ws (tree_at ws (d - 1) f) → a ≡ true
    → b ≡ is_whole ws (tree_at ws (d - 1) (f + 1)) → b ≡ is_whole ws (tree_at ws d v)
whole_both ws d v f e h {a} {b} p t q = sym (ap (λ (x : Bool). x && b) t) ∙ (λ i. p i && q i) ∙ both_whole ws d v f e h

whole_left : (ws : List ℕ) (d v f : ℕ) → link_at ws v ≡ children f → 0 < d → {a : Bool} → a ≡ is_whole ws (tree_at ws (d - 1) f) → a ≡ false
    → a ≡ is_whole ws (tree_at ws d v)
whole_left ws d v f e h {a} p t =
    t ∙ ap (λ (x : Bool). x && is_whole ws (tree_at ws (d - 1) (f + 1))) (sym t ∙ p) ∙ both_whole ws d v f e h

fork : {ws : List ℕ} {v f : ℕ} (h : InTree ws v) → children f ≡ link_at ws v → Inner ws h.leaves h.edges v f
fork h e = inner_link _ _ _ _ _ h.subtree (sym e)

pub node_link-requires : goal.node_link-requires
node_link-requires t c = let h = (node c.requires.subtree).room in omega arith

pub within_depth-requires : goal.within_depth-requires
within_depth-requires t c = (omega arith, record { leaves = _; edges = _; subtree = (fork c.requires c.in-Children.ensures).left })

pub overflow_add-first : goal.overflow_add-first
overflow_add-first t c =
    let g = fork c.requires c.in-Children.ensures in
    let few = c.requires.subtree.few in
    omega (arith, g.second)

pub within_depth-requires-then-within_depth : goal.within_depth-requires-then-within_depth
within_depth-requires-then-within_depth t c =
    (omega arith, record { leaves = _; edges = _; subtree = (fork c.requires c.in-Children.ensures).right })

pub unreachable-requires : goal.unreachable-requires
unreachable-requires t c = formed _ _ _ (sym c.in-Malformed.ensures) c.requires.subtree.whole

pub returns-in-Children : goal.returns-in-Children
returns-in-Children t c = cut_short _ _ _ _ (sym c.in-Children.ensures) c.if-depth-eq0.true

pub returns-then-within_depth : goal.returns-then-within_depth
returns-then-within_depth t c =
    let g = fork c.requires c.in-Children.ensures in
    whole_both _ _ _ _ g.link (omega arith) c.within_depth.ensures c.if-within_depth.true c.within_depth-then-within_depth.ensures

pub returns-else-within_depth : goal.returns-else-within_depth
returns-else-within_depth t c =
    let g = fork c.requires c.in-Children.ensures in
    whole_left _ _ _ _ g.link (omega arith) c.within_depth.ensures c.if-within_depth.false

pub returns-in-Position : goal.returns-in-Position
returns-in-Position t c = leaf_whole _ _ _ _ (sym c.in-Position.ensures)
