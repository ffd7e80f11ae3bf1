use Rattle.std.proofs.Common.{◌≡◌, List, ℕ, ap, ◌∙◌, rules}
use Rattle.causes.specs.Refusal.{cause_number, cause_in}
use Rattle.gate.specs.Gates.{Gates}
use Rattle.walk.specs.Queries.{closest}
use Rattle.walk_record.proofs.Laws.{bytes_fit}
use Rattle.query.specs.Result.{unanswered}
use Rattle.pane_walk.specs.Panes.{pane_of, nearer, refused_closest, closest_found, gated_closest_walked, closest_answer, closest_given}
use Rattle.pane_walk.proofs.Queries.{Reacts}
use Rattle.pane_walk.proofs.Starts.{Starting, start_ready, start_begun, start_refused, start_walked, start_empty}
use Rattle.pane_walk.proofs.nearest.Goals as goal
use Rattle.pane_walk.proofs.nearest.Goals.{After-begin}

module _ (g : _) (c : After-begin g) where
  abbrev gates : Gates
  gates = g.G.Gate.gates c.args.gate

  -- what is known where the walk begins
  starting : let a = c.args in Starting a.«record».now a.on.indices.now a.on.panes.now a.beam (cause_in a.between) c.begin.result
  starting = record { is = c.begin.ensures.value; walk = c.begin.ensures.walk }

  -- what it does at a position
  abbrev react : Reacts
  react = closest (pane_of c.args.on.indices.now c.args.on.panes.now) nearer

pub returns-in_err-query : goal.returns-in_err-query
unfolding closest_given
returns-in_err-query g c =
    let k = (goal.at.returns-in_err-query g c).After-begin in
    let f = c.in_err-query.field-0.0 in
    let own : closest_given c.from_residual.result ≡ unanswered (refused_closest (cause_number f)) = search rules in
    own ∙ start_refused (gates g k) (starting g k) refused_closest closest_found (react g k) f (ap cause_in c.in_err-query.was)

pub returns-in-None : goal.returns-in-None
unfolding closest_given closest_answer closest_found
returns-in-None g c =
    let k = (goal.at.returns-in-None g c).After-begin in
    let fit = bytes_fit _ (λ j. (c.type_inv.record j).fits) in
    start_empty (gates g k) (starting g k) refused_closest closest_found (react g k) (ap cause_in c.in_ok-query.was) c.requires
    (start_begun (gates g k) (starting g k) c.in_ok-query.was c.in-None.is) fit

pub returns-in-Some : goal.returns-in-Some
returns-in-Some g c =
    let k = (goal.at.returns-in-Some g c).After-begin in
    let I = c.args.on.indices.now in
    let P = c.args.on.panes.now in
    let e = start_begun (gates g k) (starting g k) c.in_ok-query.was c.in-Some.is in
    c.walk_closest.ensures ∙ ap (λ (b : List ℕ). gated_closest_walked (gates g k) b I P c.in-Some.query.aim.ray) e.0
    ∙ ap (gated_closest_walked (gates g k) c.args.«record».now I P) e.2
    ∙ start_walked (gates g k) (starting g k) refused_closest closest_found (react g k) (ap cause_in c.in_ok-query.was)

pub walk_closest-requires-clause-unforged : goal.walk_closest-requires-clause-unforged
walk_closest-requires-clause-unforged g c =
    let k = (goal.at.walk_closest-requires-clause-unforged g c).After-begin in
    start_ready (gates g k) (starting g k) (ap cause_in c.in_ok-query.was) c.requires
