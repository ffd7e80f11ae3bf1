-- Where a query starts: refused on entry, or without nodes, or with a walk.
use mathlib.Core.Bool.{false}
use mathlib.Core.List.{List}
use mathlib.Core.Path.{◌≡◌, sym, ap, ◌∙◌}
use Prim.Native.Nat.{ℕ, ◌%◌}
use native.Mathlib.Omega.{arith}
use lib.Dec.{eqb}
use lib.Ieee.{Float}
use lib.ListN.{length}
use Rattle.std.specs.Prelude as P
use Rattle.std.specs.Prelude.{Option, IfOk}
use Rattle.causes.specs.declared.Refusal.{Refusal}
use Rattle.causes.specs.Refusal.{cause_number, cause_in}
use Rattle.causes.proofs.Refusals.{some_number, holds_of}
use Rattle.ray.specs.declared.Beam.{Beam}
use Rattle.ray.specs.Ray.{ray_from}
use Rattle.gate.specs.Gates.{Gates}
use Rattle.walk.specs.Queries.{Found, none}
use Rattle.walk_record.specs.WalkRay.{walk_ray, rays_of}
use Rattle.walk_record.specs.Record.{FieldsFit}
use Rattle.walk_record.specs.Walk.{query_at}
use Rattle.walk_record.proofs.WalkRay.{gated_forged}
use Rattle.query.specs.declared.Query.{Query}
use Rattle.query.specs.Begun.{Begun}
use Rattle.query.proofs.Entry.{Entered, by_cause, without_cause}
use Rattle.query.proofs.Begins.{query_empty}
use Rattle.query.proofs.Starts.{enters, unforged}
use Rattle.query.specs.Result.{Result, walked, entered}
use Rattle.pane_walk.specs.Panes.{pane_cause_between}
use Rattle.pane_walk.proofs.Queries.{Reacts}

-- what the code finds on entry: a cause, or where the walk begins, if there are nodes
pub record Starting (bytes indices : List ℕ) (panes : List Float) (b : Beam) (between : ℕ) (found : P.Result (Option Query) Refusal) : Type 0 where
  pub is : cause_in found ≡ pane_cause_between bytes indices panes (ray_from b) between
  pub walk : IfOk found (Begun bytes (length indices) (ray_from b))

module _ (g : Gates) {bytes indices : List ℕ} {panes : List Float} {b : Beam} {between : ℕ} {start : P.Result (Option Query) Refusal}
    (s : Starting bytes indices panes b between start) where
  abbrev cause : ℕ
  cause = cause_in start

  -- where a walk begins, or that there are no nodes
  pub start_begun : {o q : Option Query} → start ≡ P.Ok o → o ≡ q → Begun bytes (length indices) (ray_from b) q
  start_begun e f = holds_of (Begun bytes (length indices) (ray_from b)) s.walk e f

  -- without one no walker is forged by the gates, where these have it so without a cause of the query's own
  module _ (none : cause ≡ 0) (ready : between ≡ 0 → g.forged ≡ false) where
    holds : Entered (eqb (length panes % 6) 0) (length bytes) (length indices) between (ray_from b)
    holds = enters _ b bytes (length indices) between (sym s.is ∙ none)

    pub start_ready : g.forged ≡ false
    start_ready = ready holds.none

    accepted : (rays_of g).forged (walk_ray (ray_from b)) ≡ false
    accepted = gated_forged g (walk_ray (ray_from b)) start_ready (unforged _ b bytes (length indices) between (sym s.is ∙ none))

  -- a query by what it does at a position, and by what it makes of a cause and of what it found
  module _ {A : Type 0} (refuse : ℕ → A) (found : Found Float → ℕ → Result A) (react : Reacts) where
    -- what its walk gives
    abbrev walk_by : Result A
    walk_by =
        let w = query_at bytes (rays_of g) react none (length indices) (walk_ray (ray_from b)) in walked refuse found w w.ended

    -- the answer that is asked for
    abbrev asked : Result A
    asked = entered refuse (pane_cause_between bytes indices panes (ray_from b) between) walk_by

    -- a cause found on entry is the answer,
    pub start_refused : (f : Refusal) → cause ≡ cause_number f → record { answer = refuse (cause_number f); tests = 0 } ≡ asked
    start_refused f e = by_cause refuse (cause_number f) _ walk_by (sym e ∙ s.is) (omega (arith, some_number f))

    -- without one the walk's is,
    pub start_walked : cause ≡ 0 → walk_by ≡ asked
    start_walked z = without_cause refuse cause _ walk_by s.is (omega (arith, z))

    -- and where there are no nodes it is done
    pub start_empty : cause ≡ 0 → (between ≡ 0 → g.forged ≡ false) → length bytes ≡ 0 → FieldsFit bytes → found none 0 ≡ asked
    unfolding walked
    start_empty h ready z fit =
        let q = query_empty g bytes (length indices) fit react none (ray_from b) (accepted h ready) (omega arith) (holds h ready).sizes.few in
        let w = query_at bytes (rays_of g) react none (length indices) (walk_ray (ray_from b)) in
        ap (λ (x : Found Float). found x 0) (sym q.accumulator) ∙ ap (found w.accumulator) (sym q.tests)
        ∙ ap (walked refuse found w) (sym q.ended) ∙ start_walked h
