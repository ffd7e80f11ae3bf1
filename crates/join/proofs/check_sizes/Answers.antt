use mathlib.Core.Path.{◌≡◌, ap₂, ◌∙◌}
use lib.ListN.{length}
use Rattle.std.proofs.Common.{rules}
use Rattle.causes.specs.Refusal.{cause_number, cause_in}
use Rattle.causes.proofs.Refusals.{ok_none, some_number}
use Rattle.bvh2.specs.FirstCause.{sizes_cause}
use Rattle.join.specs.Join.{room_for}
use Rattle.join.specs.Steps.{lesser_cause}
use Rattle.join.proofs.Causes.{sizes_found, sizes_many, sizes_short, sizes_pass}
use Rattle.join.proofs.check_sizes.Goals as goal
use Rattle.join.proofs.check_sizes.Goals.{In_ok-trees, After-has_room}

-- neither tree's sizes are a cause
none : (c : In_ok-trees) → let s = c.args in lesser_cause (sizes_cause (length s.first.now) s.n) (sizes_cause (length s.second.now) s.m) ≡ 0
none c = ok_none c.in_ok-trees.was (c.both.ensures.value ∙ ap₂ lesser_cause c.sizes.ensures.value c.sizes-2.ensures.value)

first_leaves : (c : In_ok-trees) → c.in_ok-trees.trees.first.leaves ≡ c.args.n
first_leaves c = search rules

second_leaves : (c : In_ok-trees) → c.in_ok-trees.trees.second.leaves ≡ c.args.m
second_leaves c = search rules

-- the room for these leaves
room : (c : After-has_room) → c.has_room.result ≡ room_for c.args.n c.args.m c.args.marks c.args.words c.args.indices
room c =
    let t = (goal.at.After-has_room c).In_ok-trees in
    c.has_room.ensures ∙ ap₂ (λ n m. room_for n m c.args.marks c.args.words c.args.indices) (first_leaves t) (second_leaves t)

pub returns-in_err-trees-clause-value : goal.returns-in_err-trees-clause-value
returns-in_err-trees-clause-value c =
    let f = c.in_err-trees.field-0.0 in
    let own : cause_in c.from_residual.result ≡ cause_number f = search rules in
    own
    ∙ sizes_found _ _ _ _ _ _ _ (cause_number f)
    (c.in_err-trees.ensures.value ∙ ap₂ lesser_cause c.sizes.ensures.value c.sizes-2.ensures.value) (some_number f)

pub returns-then-many-clause-value : goal.returns-then-many-clause-value
returns-then-many-clause-value c = sizes_many _ _ _ _ _ _ _ (none (goal.at.returns-then-many-clause-value c).In_ok-trees) c.if-many.true

pub returns-then-not-has_room-clause-value : goal.returns-then-not-has_room-clause-value
returns-then-not-has_room-clause-value c =
    let p = goal.at.returns-then-not-has_room-clause-value c in
    sizes_short _ _ _ _ _ _ _ (none p.In_ok-trees) c.if-many.false _ (room p.After-has_room) c.if-not-has_room.true

pub returns-clause-value : goal.returns-clause-value
returns-clause-value c =
    let p = goal.at.returns-clause-value c in
    sizes_pass _ _ _ _ _ _ _ (none p.In_ok-trees) c.if-many.false _ (room p.After-has_room) c.if-not-has_room.false
