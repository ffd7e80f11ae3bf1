use Rattle.std.proofs.Common.{◌≡◌, true, false, List, ℕ, length, sym, ap, ◌∙◌, rules}
use Rattle.std.specs.Prelude as P
use Rattle.std.specs.Prelude.{Option, Some, None}
use Rattle.causes.specs.Refusal.{cause_number, cause_in}
use Rattle.causes.proofs.Refusals.{some_number, holds_of}
use Rattle.ray.specs.declared.Ray.{Ray}
use Rattle.ray.specs.Ray.{ray_from}
use Rattle.gate.specs.Gates.{Gates}
use Rattle.walk_record.specs.WalkRay.{walk_ray, rays_of}
use Rattle.walk_record.proofs.WalkRay.{gated_forged}
use Rattle.walk_record.proofs.Laws.{bytes_fit}
use Rattle.query.specs.declared.Query.{Query}
use Rattle.query.specs.Begun.{Begun}
use Rattle.query.specs.Entry.{entry_cause}
use Rattle.query.specs.Result.{unanswered}
use Rattle.query.proofs.Entry.{Entered}
use Rattle.query.proofs.Starts.{enters, unforged}
use Rattle.any_hit_walk.specs.AnyHit.{refused, any_hit_answer, walk_of, list_walked, result_of}
use Rattle.any_hit_walk.proofs.Answers.{answers_entry, answers_walk, answers_empty}
use Rattle.any_hit_walk.proofs.any_hit.Goals as goal
use Rattle.any_hit_walk.proofs.any_hit.Goals.{After-begin}

-- ---- on entry

module _ (g : _) (c : After-begin g) where
  -- the gates, the cause of the query's own, and the ray that was asked for
  abbrev gates : Gates
  gates = g.G.Gate.gates c.args.gate

  abbrev between : ℕ
  between = cause_in c.args.between

  abbrev ray : Ray
  ray = ray_from c.args.beam

  -- where nothing refuses it on entry
  module _ (none : cause_in c.begin.result ≡ 0) where
    no_cause : entry_cause true (length c.args.«record».now) c.args.n between ray ≡ 0
    no_cause = sym c.begin.ensures.value ∙ none

    holds : Entered true (length c.args.«record».now) c.args.n between ray
    holds = enters true c.args.beam c.args.«record».now c.args.n between no_cause

    open_gates : gates.forged ≡ false
    open_gates = c.requires holds.none

    accepted : (rays_of gates).forged (walk_ray ray) ≡ false
    accepted = gated_forged gates (walk_ray ray) open_gates (unforged true c.args.beam c.args.«record».now c.args.n between no_cause)

  -- where its walk begins
  abbrev begun_by : Option Query → Type 0
  begun_by = Begun c.args.«record».now c.args.n ray

  begun : (o q : Option Query) → c.begin.result ≡ P.Ok o → o ≡ q → begun_by q
  begun o q e f = holds_of begun_by c.begin.ensures.walk e f

pub returns-in_err-query : goal.returns-in_err-query
unfolding any_hit_answer result_of
returns-in_err-query g c =
    let k = (goal.at.returns-in_err-query g c).After-begin in
    let f = c.in_err-query.field-0.0 in
    let own : result_of c.from_residual.result ≡ unanswered (refused (cause_number f)) = search rules in
    let same : cause_in c.begin.result ≡ cause_number f = ap cause_in c.in_err-query.was in
    let e = answers_entry (gates g k) c.args.«record».now c.args.n (between g k) (ray g k) c.args.list.now (cause_number f)
    (sym same ∙ c.begin.ensures.value) (some_number f) in
    record { result_value = own ∙ e.0; list_after = e.1 }

pub returns-in-None : goal.returns-in-None
unfolding any_hit_answer result_of
returns-in-None g c =
    let a = c.args in
    let k = (goal.at.returns-in-None g c).After-begin in
    let z = ap cause_in c.in_ok-query.was in
    let fit = bytes_fit _ (λ i. (c.type_inv.record i).fits) in
    let e = answers_empty (gates g k) a.«record».now a.n (between g k) (ray g k) a.list.now (no_cause g k z)
    (begun g k _ _ c.in_ok-query.was c.in-None.is) (holds g k z).sizes.few fit (accepted g k z) in
    record { result_value = e.0; list_after = e.1 }

pub walk_whole-requires : goal.walk_whole-requires
walk_whole-requires g c = let k = (goal.at.walk_whole-requires g c).After-begin in open_gates g k (ap cause_in c.in_ok-query.was)

-- what a walk gives is by its record, its positions and its ray
module _ (g : Gates) {bytes : List ℕ} {n : ℕ} {ray : Ray} (list : List ℕ) (q : Query) (b : Begun bytes n ray (Some q)) where
  walk_is : walk_of g q.bvh.bytes.now q.bvh.positions (walk_ray q.aim.ray) (length list) ≡ walk_of g bytes n (walk_ray ray) (length list)
  walk_is = ap (λ (l : List ℕ). walk_of g l q.bvh.positions (walk_ray q.aim.ray) (length list)) b.0
      ∙ ap (λ (k : ℕ). walk_of g bytes k (walk_ray q.aim.ray) (length list)) b.1 ∙ ap (λ (r : Ray). walk_of g bytes n (walk_ray r) (length list)) b.2

  list_is : list_walked g q.bvh.bytes.now q.bvh.positions (walk_ray q.aim.ray) list ≡ list_walked g bytes n (walk_ray ray) list
  list_is = ap (λ (l : List ℕ). list_walked g l q.bvh.positions (walk_ray q.aim.ray) list) b.0
      ∙ ap (λ (k : ℕ). list_walked g bytes k (walk_ray q.aim.ray) list) b.1 ∙ ap (λ (r : Ray). list_walked g bytes n (walk_ray r) list) b.2

pub returns-in-Some : goal.returns-in-Some
returns-in-Some g c =
    let a = c.args in
    let k = (goal.at.returns-in-Some g c).After-begin in
    let b : Begun a.«record».now a.n (ray g k) (Some c.in-Some.query) = begun g k _ _ c.in_ok-query.was c.in-Some.is in
    let w = c.walk_whole.ensures in
    let e = answers_walk (gates g k) a.«record».now a.n (between g k) (ray g k) a.list.now (no_cause g k (ap cause_in c.in_ok-query.was)) (
      w.result_value ∙ walk_is (gates g k) a.list.now c.in-Some.query b,
      w.list_after ∙ list_is (gates g k) a.list.now c.in-Some.query b,
    ) in
    record { result_value = e.0; list_after = e.1 }
