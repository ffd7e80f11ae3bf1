use Rattle.std.proofs.Common.{◌≡◌, false, ℕ, length, sym, ap, subst, ◌∙◌}
use Rattle.causes.proofs.Refusals.{some_number}
use Rattle.ray.specs.Ray.{ray_from}
use Rattle.gate.specs.Gates.{all_open}
use Rattle.any_hit_walk.specs.AnyHit.{gated_any_hit, gated_list}
use Rattle.any_hit_walk.proofs.Answers.{own_cause_answer, own_cause_list}
use Rattle.timed.specs.Hours.{Timetable, gates_at}
use Rattle.timed_entry.specs.Entry.{timetable, timed_cause}
use Rattle.timed_entry.proofs.Begun.{timed_begun}
use Rattle.any_hit_timed.specs.Timed.{any_hit_timed_of, list_timed}
use Rattle.any_hit_timed.proofs.any_hit_timed.Goals as goal

pub any_hit-requires : goal.any_hit-requires
any_hit-requires c z =
    subst (λ (h : Timetable). (gates_at h).forged ≡ false) (sym c.in-Ok.ensures.hours) (timed_begun c.args.«record».now _ (sym c.in-Ok.ensures.value))

pub returns-in-Ok : goal.returns-in-Ok
unfolding any_hit_timed_of list_timed
returns-in-Ok c =
    let a = c.args in
    let n = length a.indices.now in
    let given = timetable a.side.now a.indices.now a.panes a.spans.now a.quarter in
    record {
      result_value =
          c.any_hit.ensures.result_value
          ∙ ap (λ (h : Timetable). gated_any_hit (gates_at h) a.«record».now n 0 (ray_from a.beam) (length a.list.now)) c.in-Ok.ensures.hours
          ∙ ap (λ (k : ℕ). gated_any_hit (gates_at given) a.«record».now n k (ray_from a.beam) (length a.list.now)) c.in-Ok.ensures.value;
      list_after =
          c.any_hit.ensures.list_after
          ∙ ap (λ (h : Timetable). gated_list (gates_at h) a.«record».now n 0 (ray_from a.beam) a.list.now) c.in-Ok.ensures.hours
          ∙ ap (λ (k : ℕ). gated_list (gates_at given) a.«record».now n k (ray_from a.beam) a.list.now) c.in-Ok.ensures.value;
    }

pub returns-in-Err : goal.returns-in-Err
unfolding any_hit_timed_of list_timed
returns-in-Err c =
    let a = c.args in
    let n = length a.indices.now in
    let given = timetable a.side.now a.indices.now a.panes a.spans.now a.quarter in
    let cause = c.in-Err.ensures.value in
    let some : timed_cause a.«record».now given ≡ 0 → ⊥ = λ z. some_number c.in-Err.refusal (cause ∙ z) in
    record {
      result_value =
          c.any_hit-in-Err.ensures.result_value
          ∙ ap (λ (k : ℕ). gated_any_hit all_open a.«record».now n k (ray_from a.beam) (length a.list.now)) cause
          ∙ own_cause_answer all_open (gates_at given) a.«record».now n (timed_cause a.«record».now given) (ray_from a.beam) (length a.list.now) some;
      list_after =
          c.any_hit-in-Err.ensures.list_after
          ∙ ap (λ (k : ℕ). gated_list all_open a.«record».now n k (ray_from a.beam) a.list.now) cause
          ∙ own_cause_list all_open (gates_at given) a.«record».now n (timed_cause a.«record».now given) (ray_from a.beam) a.list.now some;
    }
