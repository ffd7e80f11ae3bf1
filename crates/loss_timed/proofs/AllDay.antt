-- Over spans of the whole day a loss and a report at quarter hours answer as without, unless they are refused.
use mathlib.Core.Bool.{Bool, true}
use mathlib.Core.List.{List, [], ◌++◌}
use mathlib.Core.Path.{◌≡◌, refl, sym, ap, ◌∙◌, subst}
use Prim.Native.Nat.{ℕ, zero, suc, ◌<◌}
use native.Mathlib.Omega.{arith}
use borrow.Author.Tests.{eqb-true}
use lib.Dec.{eqb}
use lib.Ieee.{Float}
use lib.ListN.{length}
use Rattle.lists.specs.Below.{all_below}
use Rattle.lists.proofs.Tells.{all_at}
use Rattle.causes.specs.Causes.{Condition, first_cause}
use Rattle.causes.proofs.Causes.{Passed, append_first, append_later}
use Rattle.ray.specs.declared.Ray.{Ray}
use Rattle.packed.specs.Packed.{ray_in, ray_count}
use Rattle.gate.specs.Gates.{Gates, all_open}
use Rattle.walk.specs.Step as S
use Rattle.walk.specs.Calls.{Answered}
use Rattle.walk.specs.Queries.{append, Ended}
use Rattle.walk_record.specs.Walk.{any_hit_at}
use Rattle.query.specs.Entry.{entry_cause}
use Rattle.query.specs.Met.{walk_met_by}
use Rattle.query.specs.Result.{Result, entered}
use Rattle.query.proofs.Entry as E
use Rattle.loss_walk.specs.Losses.{LossAnswer, summed, refused, refused_report}
use Rattle.loss_walk.specs.Entry.{own_cause, conditions_between}
use Rattle.loss_walk.specs.Gated.{gated_loss, gated_walks, gated_conditions, gated_totals, gated_report, gated_report_by}
use Rattle.loss_walk.proofs.Alike.{loss_alike, walks_alike, totals_alike}
use Rattle.loss_walk.proofs.Causes.{own_none, none_entering, entry_passed, none_walks, report_totals}
use Rattle.loss_walk.proofs.Faults.{Faultless, sums_faultless, summed_faultless}
use Rattle.loss_walk.proofs.Reports.{walks_none}
use Rattle.loss.specs.Loss.{loss_of, every_open, Report, report_of}
use Rattle.loss.proofs.Causes.{loss_alone, report_alone}
use Rattle.timed.specs.Hours.{Timetable, gates_at}
use Rattle.timed.specs.AllDay.{AllDay}
use Rattle.timed.proofs.AllDay.{all_day_query}
use Rattle.timed_entry.specs.Entry.{timetable, timed_cause}
use Rattle.loss_timed.specs.Timed.{loss_timed_of, timetable_by, gates_by, hours_conditions, report_timed_of}
use Rattle.loss_timed.proofs.Hours.{quarters_entered}

ended_answered : (a : S.Answer) → Ended a → Answered a
ended_answered (S.tested v) e = absurd e
ended_answered (S.position p) e = tt
ended_answered S.done e = tt
ended_answered (S.refused k) e = absurd e

-- a walk that is not refused is the untimed one
walk_day : {bytes : List ℕ} {h : Timetable} → AllDay bytes h → (r : Ray)
    → Ended (walk_met_by (gates_at h) bytes (length h.indices) r).ended
    → walk_met_by (gates_at h) bytes (length h.indices) r ≡ walk_met_by all_open bytes (length h.indices) r
unfolding any_hit_at
walk_day day r e = all_day_query day append [] r (ended_answered _ e)

module _ (bytes side indices : List ℕ) (panes : ℕ) (spans losses : List ℕ) where
  -- ---- one ray

  module _ (quarter : ℕ) (r : Ray) (day : AllDay bytes (timetable side indices panes spans quarter)) where
    abbrev g : Gates
    g = gates_at (timetable side indices panes spans quarter)

    abbrev given : Result LossAnswer
    given = gated_loss g bytes indices panes losses r

    abbrev between : ℕ
    between = timed_cause bytes (timetable side indices panes spans quarter)

    abbrev cause_with : ℕ → ℕ
    cause_with k = entry_cause true (length bytes) (length indices) (own_cause panes losses k) r

    faultless : (a : LossAnswer) → given.answer ≡ a → ((k : ℕ) → a ≡ refused k → ⊥) → Faultless g bytes indices panes losses r
    faultless (summed loss) e f = sums_faultless g bytes indices panes losses r loss e
    faultless (refused k) e f = absurd (f k refl)

    -- A loss at a quarter hour that is not refused is the untimed one, its tests included.
    pub loss_all_day : ((k : ℕ) → (loss_timed_of bytes side indices panes spans losses quarter r).answer ≡ refused k → ⊥)
        → loss_timed_of bytes side indices panes spans losses quarter r ≡ loss_of bytes indices panes losses r
    unfolding loss_timed_of entered
    loss_all_day = go (cause_with between) refl
      where
        go : (c : ℕ) → cause_with between ≡ c → ((k : ℕ) → (entered refused c given).answer ≡ refused k → ⊥)
            → entered refused c given ≡ loss_of bytes indices panes losses r
        go zero e f =
            let own = (E.entered true (length bytes) (length indices) (own_cause panes losses between) r e).none in
            let none = (own_none panes losses between own).1 in
            loss_alike g all_open bytes indices panes losses r (walk_day day r (faultless given.answer refl f).ends)
            ∙ ap (λ (c : ℕ). entered refused c (gated_loss all_open bytes indices panes losses r)) (sym (ap cause_with (sym none) ∙ e))
            ∙ loss_alone bytes indices panes losses r
        go (suc c) e f = absurd (f (suc c) refl)

  -- ---- many rays

  module _ (rays : List Float) (quarters : List ℕ) (day : AllDay bytes (timetable side indices panes spans 0)) (ray_totals pane_totals : List ℕ) where
    abbrev lists : Timetable
    lists = timetable side indices panes spans 0

    abbrev gates : ℕ → Gates
    gates = gates_by lists quarters

    abbrev fits : Bool
    fits = eqb (length quarters) (ray_count rays)

    abbrev unfit : ℕ
    unfit = first_cause (hours_conditions bytes lists quarters)

    abbrev entry_with : Bool → ℕ → List Condition
    entry_with b k = conditions_between b k bytes indices panes losses rays (length ray_totals) (length pane_totals)

    abbrev entry : List Condition
    entry = entry_with fits unfit

    abbrev by_walks : List Condition
    by_walks = gated_conditions gates bytes indices panes losses rays

    -- where no cause holds on entry and no walk has a fault
    module _ (none : first_cause entry ≡ 0) (walk : all_below (gated_walks gates bytes indices panes losses rays) (ray_count rays) ≡ true) where
      others : fits ≡ true
      others = (none_entering fits unfit bytes indices panes losses rays (length ray_totals) (length pane_totals) none).others

      no_own : unfit ≡ 0
      no_own = (none_entering fits unfit bytes indices panes losses rays (length ray_totals) (length pane_totals) none).none

      day_of : (i : ℕ) → i < ray_count rays → AllDay bytes (timetable_by lists quarters i)
      day_of i h = record {
        rows = day.rows;
        slots = day.slots;
        panes = day.panes;
        quarter = quarters_entered bytes side indices panes spans quarters (sym no_own) i (omega (arith, h, eqb-true _ _ others));
      }

      same : (i : ℕ) → i < ray_count rays → walk_met_by (gates i) bytes (length indices) (ray_in rays i)
          ≡ walk_met_by all_open bytes (length indices) (ray_in rays i)
      unfolding gated_walks
      same i h =
          walk_day (day_of i h) (ray_in rays i)
          (summed_faultless (gates i) bytes indices panes losses (ray_in rays i)
          (all_at (gated_walks gates bytes indices panes losses rays) (ray_count rays) walk i h)).ends

      untimed_passed : Passed (entry_with true 0)
      untimed_passed =
          subst (λ (k : ℕ). Passed (entry_with true k)) no_own
          (subst (λ (b : Bool). Passed (entry_with b unfit)) others
          (entry_passed fits unfit bytes indices panes losses rays (length ray_totals) (length pane_totals) none))

      untimed_totals : gated_totals gates bytes indices panes losses rays ray_totals pane_totals
          ≡ report_of bytes indices panes losses rays ray_totals pane_totals
      untimed_totals =
          totals_alike gates every_open bytes indices rays same panes losses ray_totals pane_totals
          ∙ report_totals every_open bytes indices panes losses rays (entry_with true 0) ray_totals pane_totals untimed_passed
          (walks_none every_open bytes indices panes losses rays
          (sym (walks_alike gates every_open bytes indices rays same panes losses) ∙ walk))
          ∙ report_alone bytes indices panes losses rays ray_totals pane_totals

    abbrev by_cause : ℕ → Report
    by_cause k = gated_report_by gates bytes indices panes losses rays k ray_totals pane_totals

    -- A report at quarter hours that is not refused is the untimed one: its answer, and what it leaves of both slices.
    pub report_all_day : ((k : ℕ)
        → (report_timed_of bytes side indices panes spans losses rays quarters ray_totals pane_totals).answer ≡ refused_report k → ⊥)
        → report_timed_of bytes side indices panes spans losses rays quarters ray_totals pane_totals
        ≡ report_of bytes indices panes losses rays ray_totals pane_totals
    unfolding report_timed_of gated_report gated_report_by
    report_all_day = go (first_cause (entry ++ by_walks)) refl
      where
        on_entry : (k : ℕ) → first_cause entry ≡ k → first_cause (entry ++ by_walks) ≡ 0
            → by_cause 0 ≡ report_of bytes indices panes losses rays ray_totals pane_totals
        on_entry zero z e =
            let p = entry_passed fits unfit bytes indices panes losses rays (length ray_totals) (length pane_totals) z in
            untimed_totals z (none_walks gates bytes indices panes losses rays (sym (append_later entry by_walks p) ∙ e))
        on_entry (suc k) z e = absurd (omega (arith, z, e, append_first entry by_walks (λ y. omega (arith, y, z))))

        go : (c : ℕ) → first_cause (entry ++ by_walks) ≡ c → ((k : ℕ) → (by_cause c).answer ≡ refused_report k → ⊥)
            → by_cause c ≡ report_of bytes indices panes losses rays ray_totals pane_totals
        go zero e f = on_entry (first_cause entry) refl e
        go (suc c) e f = absurd (f (suc c) refl)
