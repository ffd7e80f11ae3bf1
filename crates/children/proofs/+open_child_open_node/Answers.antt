-- What the definitions say one step down is in proofs/Steps.
use mathlib.Core.Logic.{∥∥₁_elim, ∥∥₁_map}
use mathlib.Core.List.{List}
use Prim.Native.Nat.{ℕ}
use native.Mathlib.Omega.{arith}
use Rattle.std.proofs.Props.{props}
use Rattle.bvh2.specs.Tree.{Tree}
use Rattle.cost.specs.Table.{word_of}
use Rattle.cost.specs.Rows.{RowsHold}
use Rattle.children.specs.Gather.{part}
use Rattle.children.specs.Tabled.{Gathered}
use Rattle.children.proofs.Branches.{here, open_at, place_left, divide_at, room_opened, left_shallower, right_shallower, branch_room, of_branch}
use Rattle.children.proofs.Steps.{stay, divides, contributes, not_childless, down}
use Rattle.children.proofs.+open_child_open_node.Goals as goal

pub open_child-unreachable-requires : goal.open_child-unreachable-requires
open_child-unreachable-requires t c = ∥∥₁_elim (open_at c.args.branch c.requires.bound c.requires.room) (hlevel props)
    (λ o. not_childless o.tabled o.entry c.decision.ensures.kind c.in-Distribute.is c.link.ensures.says c.in_default-link.not-Children)

pub open_child-open_node-requires : goal.open_child-open_node-requires
open_child-open_node-requires t c = (
  omega (arith, c.decreases),
  (
    c.requires.in_bounds,
    (
      c.in-Children.ensures.says,
      (
        c.requires.bound,
        ∥∥₁_map (open_at c.args.branch c.requires.bound c.requires.room)
            (λ o. room_opened {b = c.args.branch} (divides o c.decision.ensures.kind c.in-Distribute.is)),
      ),
    ),
  ),
)

pub open_child-returns-in-Children : goal.open_child-returns-in-Children
open_child-returns-in-Children t c = λ limit k. ∥∥₁_elim (open_at c.args.branch c.requires.bound c.requires.room) (hlevel props)
    (λ o. contributes o c.decision.ensures.kind c.in-Distribute.is _ _ _ c.open_node.ensures limit k)

pub open_child-overflow_cast-found : goal.open_child-overflow_cast-found
open_child-overflow_cast-found t c = omega (arith, (here c.args.branch).number)

pub open_child-offset_bounds-found-count : goal.open_child-offset_bounds-found-count
open_child-offset_bounds-found-count t c =
    omega (arith, place_left c.args.branch c.requires.bound c.requires.room c.decision.ensures.kind c.in_default.not-Distribute)

pub open_child-bounds-found-count : goal.open_child-bounds-found-count
open_child-bounds-found-count t c =
    omega (arith, c.requires.in_bounds, place_left c.args.branch c.requires.bound c.requires.room c.decision.ensures.kind c.in_default.not-Distribute)

pub open_child-overflow_add-result : goal.open_child-overflow_add-result
open_child-overflow_add-result t c =
    omega (arith, place_left c.args.branch c.requires.bound c.requires.room c.decision.ensures.kind c.in_default.not-Distribute)

pub open_child-returns-in_default : goal.open_child-returns-in_default
open_child-returns-in_default t c = λ limit k. ∥∥₁_elim (open_at c.args.branch c.requires.bound c.requires.room) (hlevel props)
    (λ o. stay o c.args.found.now (omega arith) c.decision.ensures.kind c.in_default.not-Distribute limit k)

-- what a child contributes, by its decision words and its subtree
abbrev Gives : (l count : ℕ) (before after : List ℕ) (r : ℕ) → List ℕ → Tree ℕ → Type 0
Gives l count before after r ds t = (limit : ℕ) → RowsHold (word_of limit) 0 ds t → Gathered (part limit t l) count before after r

pub open_node-open_child-half-requires : goal.open_node-open_child-half-requires
open_node-open_child-half-requires t c =
    let o = divide_at c.args.branch c.requires.bound c.requires.room in
    let e = c.decision-decision.ensures in (
      omega (arith, c.decreases, left_shallower c.requires.inner c.left-left.ensures),
      (
        c.requires.in_bounds,
        (
          omega (arith, e.few),
          ∥∥₁_map o (λ h. branch_room c.left-left.ensures (down h c.requires.inner e.left e.right).left),
        ),
      ),
    )

pub open_node-open_child-requires : goal.open_node-open_child-requires
open_node-open_child-requires t c =
    let o = divide_at c.args.branch c.requires.bound c.requires.room in
    let e = c.decision-decision.ensures in
    let g = of_branch c.left-left.ensures (Gives _ _ _ _ _) c.open_child-half.ensures in (
      omega (arith, c.decreases, right_shallower c.requires.inner c.right.ensures),
      (
        omega (arith, c.requires.in_bounds, c.open_child-half.auto.found),
        (
          omega (arith, e.few),
          ∥∥₁_map o (λ h. branch_room c.right.ensures ((down h c.requires.inner e.left e.right).right _ _ _ g)),
        ),
      ),
    )

pub open_node-returns : goal.open_node-returns
open_node-returns t c =
    let o = divide_at c.args.branch c.requires.bound c.requires.room in
    let e = c.decision-decision.ensures in
    let g = of_branch c.left-left.ensures (Gives _ _ _ _ _) c.open_child-half.ensures in
    let k = of_branch c.right.ensures (Gives _ _ _ _ _) c.open_child.ensures in
    λ limit z. ∥∥₁_elim o (hlevel props) (λ h. (down h c.requires.inner e.left e.right).joined _ _ _ _ _ (omega arith) g k limit z)
