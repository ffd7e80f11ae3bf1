-- What refuses a report on entry, by the tests that the code makes in turn, and what holds where nothing does.
use mathlib.Core.Bool.{Bool, true, false, ◌&&◌}
use mathlib.Core.List.{List, [], ◌∷◌, ◌++◌}
use mathlib.Core.Path.{◌≡◌, refl, ap, ◌∙◌}
use Prim.Native.Nat.{ℕ, ◌%◌, ◌≤◌}
use lib.Dec.{eqb, leb}
use lib.Ieee.{Float}
use lib.ListN.{length}
use Rattle.causes.specs.Causes.{Condition, ◌unless◌, first_cause}
use Rattle.causes.specs.Sizes.{record_conditions}
use Rattle.causes.proofs.Causes.{given-same, sorted}
use Rattle.causes.proofs.Sizes.{Fit}
use Rattle.ray.specs.declared.Ray.{Ray}
use Rattle.packed.specs.Packed.{ray_count, rays_accepted}
use Rattle.gate.specs.Gates.{all_open}
use Rattle.query.specs.Entry.{entry_cause}
use Rattle.query.specs.Result.{entered}
use Rattle.loss_walk.specs.Entry.{own_cause, conditions_between}
use Rattle.loss_walk.proofs.Causes as C
use Rattle.loss_walk.specs.Gated.{gated_loss_of, gated_report, gated_report_of}
use Rattle.loss.specs.Loss.{refused, every_open, losses_fit, loss_cause, loss_walked, loss_of, report_conditions, walk_conditions, report_by}
use Rattle.loss.specs.Loss.{report_of}

-- no other cause of the call's own is looked at
pub own_alone : (panes : ℕ) (losses : List ℕ) → own_cause panes losses 0 ≡ loss_cause panes losses
unfolding first_cause sorted
own_alone panes losses = given-same (12 unless losses_fit panes losses ∷ []) [] [] tt

and_true : (a : Bool) → a && true ≡ a
and_true true = refl
and_true false = refl

module _ (bytes indices : List ℕ) (panes : ℕ) (losses : List ℕ) (rays : List Float) (rayRoom paneRoom : ℕ) where
  abbrev cause : ℕ
  cause = first_cause (report_conditions bytes indices panes losses rays rayRoom paneRoom)

  -- behind the lengths, up to the losses
  abbrev from_rays : List Condition
  from_rays =
      2 unless leb (ray_count rays) 65536 ∷ 4 unless (leb (ray_count rays) rayRoom && leb panes paneRoom) ∷ 12 unless losses_fit panes losses ∷ []

  abbrev behind : List Condition
  behind = record_conditions (length bytes) (length indices) ++ from_rays

  -- no other list counts, and no other cause, whatever is looked at later
  pub none_between : (later : List Condition)
      → first_cause (conditions_between true 0 bytes indices panes losses rays rayRoom paneRoom ++ later)
      ≡ first_cause (report_conditions bytes indices panes losses rays rayRoom paneRoom ++ later)
  unfolding conditions_between report_conditions record_conditions first_cause sorted
  none_between later =
      ap (λ (b : Bool). first_cause (1 unless b ∷ behind ++ 0 unless true ∷ 9 unless rays_accepted rays ∷ later)) (and_true (eqb (length rays % 8) 0))
      ∙ given-same (1 unless eqb (length rays % 8) 0 ∷ behind) [] (9 unless rays_accepted rays ∷ later) tt

  pub entry_alone : first_cause (conditions_between true 0 bytes indices panes losses rays rayRoom paneRoom) ≡ cause
  unfolding conditions_between report_conditions record_conditions
  entry_alone = none_between []

  -- where nothing refuses it
  abbrev pub Entering : Type 0
  Entering = C.Entering true 0 bytes indices panes losses rays rayRoom paneRoom

  pub none_entering : cause ≡ 0 → Entering
  none_entering e = C.none_entering true 0 bytes indices panes losses rays rayRoom paneRoom (entry_alone ∙ e)

  -- nothing does
  pub cause_none : length rays % 8 ≡ 0 → Fit (length bytes) (length indices) → ray_count rays ≤ 65536 → ray_count rays ≤ rayRoom
      → panes ≤ paneRoom → losses_fit panes losses ≡ true → rays_accepted rays ≡ true → 0 ≡ cause
  cause_none whole fit few ray_room pane_room fitting accepted =
      C.cause_none true 0 bytes indices panes losses rays rayRoom paneRoom whole refl fit few ray_room pane_room fitting refl accepted
      ∙ entry_alone

-- ---- the calls, as calls beside gates that are all open, with no causes of their own

pub loss_alone : (bytes indices : List ℕ) (panes : ℕ) (losses : List ℕ) (r : Ray)
    → gated_loss_of all_open 0 bytes indices panes losses r ≡ loss_of bytes indices panes losses r
unfolding loss_of loss_walked
loss_alone bytes indices panes losses r =
    ap (λ (k : ℕ). entered refused (entry_cause true (length bytes) (length indices) k r) (loss_walked bytes indices panes losses r))
    (own_alone panes losses)

pub report_alone : (bytes indices : List ℕ) (panes : ℕ) (losses : List ℕ) (rays : List Float) (ray_totals pane_totals : List ℕ)
    → gated_report_of every_open bytes indices panes losses rays true 0 ray_totals pane_totals
    ≡ report_of bytes indices panes losses rays ray_totals pane_totals
unfolding report_of gated_report
report_alone bytes indices panes losses rays ray_totals pane_totals =
    ap (λ (k : ℕ). report_by bytes indices panes losses rays k ray_totals pane_totals)
    (none_between bytes indices panes losses rays (length ray_totals) (length pane_totals) (walk_conditions bytes indices panes losses rays))
