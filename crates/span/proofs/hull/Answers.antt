use mathlib.Core.List.{List, [], ◌∷◌}
use mathlib.Core.Path.{◌≡◌, sym, ap, ap₂, ◌∙◌}
use Prim.Native.Nat.{ℕ, ◌+◌, ◌-◌, ◌<◌}
use native.Mathlib.Nat.{add_comm}
use native.Mathlib.Omega.{arith}
use lib.ListN.{length, take, drop, get_or, length-drop}
use lib.Seq.{length-take-le, get_or-take, get_or-drop}
use Rattle.std.proofs.lemmas.List.{take_more}
use Rattle.span.specs.Span.{span_at}
use Rattle.span.specs.Hull.{hull, joined}
use Rattle.span.proofs.Hulls.{hull_one, hull_append}
use Rattle.span.proofs.hull.Goals as goal
use Rattle.span.proofs.hull.Goals.{In-loop-k}

-- how many panes there are behind the first
behind : (panes : List ℕ) → length (take (length panes - 1) (drop 1 panes)) ≡ length panes - 1
behind panes = length-take-le (length panes - 1) (drop 1 panes) (omega (arith, length-drop 1 panes))

-- pane i of those
pane_behind : (panes : List ℕ) (i : ℕ) → i < length panes - 1 → get_or (take (length panes - 1) (drop 1 panes)) i 0 ≡ get_or panes (i + 1) 0
pane_behind panes i h =
    get_or-take (length panes - 1) (drop 1 panes) i 0 h ∙ get_or-drop 1 panes i 0 ∙ ap (λ (j : ℕ). get_or panes j 0) (add_comm 1 i)

there : (c : In-loop-k) → c.loop-k.k-index < length c.args.panes.now - 1
there c = omega (arith, c.loop-k-test.true, behind c.args.panes.now)

pub loop-k-init : goal.loop-k-init
loop-k-init c =
    let p = c.args.panes.now in
    c.span_at-hull.ensures ∙ sym (hull_one c.args.spans.now (get_or p 0 0)) ∙ ap (hull c.args.spans.now) (sym (take_more p 0 0 c.requires.0))

pub span_at-requires : goal.span_at-requires
span_at-requires c =
    let h = there (goal.at.span_at-requires c).In-loop-k in
    let p = c.args.panes.now in
    let r = c.requires.1 (c.loop-k.k-index + 1) (omega arith) in
    omega (arith, pane_behind p c.loop-k.k-index h)

pub loop-k-preserved : goal.loop-k-preserved
loop-k-preserved c =
    let h = there (goal.at.loop-k-preserved c).In-loop-k in
    let p = c.args.panes.now in
    let s = c.args.spans.now in
    let i = c.loop-k.k-index in
    let k = get_or p (i + 1) 0 in
    let some : 0 < length (take (i + 1) p) = omega (arith, length-take-le (i + 1) p (omega arith)) in
    c.joined-hull.ensures
    ∙ ap₂ joined c.loop-k.invariant (c.span_at.ensures ∙ ap (span_at s) (pane_behind p i h) ∙ sym (hull_one s k))
    ∙ sym (hull_append s (take (i + 1) p) (k ∷ []) some (omega arith))
    ∙ ap (hull s) (sym (take_more p (i + 1) 0 (omega arith)))
