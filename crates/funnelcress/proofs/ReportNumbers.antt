-- Every answer of a report, timed or not, fits its number, on any bytes, and no two share one.
use mathlib.Core.Bool.{Bool, true, false, ◌||◌, ◌&&◌}
use mathlib.Core.List.{List, [], ◌++◌}
use mathlib.Core.Logic.{◌⊎◌, inl, inr}
use mathlib.Core.Path.{◌≡◌, refl, sym, ap, subst}
use Prim.Native.Nat.{ℕ, zero, suc, ◌≤◌, ◌<◌}
use native.Mathlib.Omega.{arith}
use borrow.Author.Tests.{leb-true, eq-eqb, eqb-true}
use lib.Dec.{T, eqb, leb}
use lib.Ieee.{Float}
use lib.ListN.{length}
use Rattle.lists.proofs.Sums.{sum_most}
use Rattle.causes.specs.Causes.{Condition, first_cause}
use Rattle.causes.specs.Sizes.{record_conditions}
use Rattle.causes.proofs.Causes.{append_first, all_numbers, first_among}
use Rattle.ray.specs.declared.Ray.{Ray}
use Rattle.packed.specs.Packed.{ray_in, ray_count}
use Rattle.gate.specs.Gates.{Gates}
use Rattle.record_shape.specs.Record.{node_count}
use Rattle.walk.specs.Queries.{steps_for, append}
use Rattle.walk.specs.WordStep.{fresh_words}
use Rattle.walk_record.specs.WalkRay.{walk_ray, rays_of}
use Rattle.walk_record.specs.Record.{node_words_at}
use Rattle.walk_record.specs.Walk.{query_at, any_hit_at}
use Rattle.query.specs.Met.{tests_made_by}
use Rattle.loss_walk.specs.Losses.{ReportAnswer, totalled, refused_report, Report}
use Rattle.loss_walk.specs.Entry.{conditions_between}
use Rattle.loss_walk.specs.Gated.{gated_tests, gated_conditions, gated_totals, gated_report_by, gated_report, gated_report_of}
use Rattle.loss_walk.proofs.Causes.{none_entering}
use Rattle.loss.specs.Loss.{every_open, report_of}
use Rattle.loss.proofs.Causes.{report_alone}
use Rattle.timed.specs.Hours.{Timetable}
use Rattle.timed_entry.specs.Entry.{timetable}
use Rattle.loss_timed.specs.Timed.{gates_by, hours_conditions, report_timed_of}
use Rattle.funnelcress.specs.Reports.{report_number}
use Rattle.funnelcress.proofs.Bounds.{numbers_most, query_few}

-- ---- no two answers share a number

-- tests of a word, and a cause's number of at most so much
unfoldable pub ReportFits : (most : ℕ) → ReportAnswer → Type 0
ReportFits most (totalled tests) = tests < 0x1_0000_0000
ReportFits most (refused_report number) = number ≤ most

-- answers with the same number are the same
pub report_apart : (most : ℕ) (a b : ReportAnswer) → ReportFits most a → ReportFits most b → report_number a ≡ report_number b → a ≡ b
unfolding report_number ReportFits
report_apart most (totalled t) (totalled u) h k e = ap totalled e
report_apart most (totalled t) (refused_report n) h k e = absurd (omega arith)
report_apart most (refused_report m) (totalled u) h k e = absurd (omega arith)
report_apart most (refused_report m) (refused_report n) h k e = ap refused_report (omega arith)

-- ---- every answer fits

-- a walk beside any gates tests no more nodes than there are
tests_few : (g : Gates) (bytes : List ℕ) (n : ℕ) (r : Ray) → node_count bytes ≤ 65535 → tests_made_by g bytes n r ≤ 65535
unfolding any_hit_at query_at
tests_few g bytes n r m =
    let q = query_few (node_count bytes) (node_words_at bytes (rays_of g)) n append (λ f x. Unit {0}) (λ f x h. tt) (λ f p b x l h. tt)
    (steps_for (node_count bytes)) (fresh_words (walk_ray r)) [] (omega arith) tt in
    omega (arith, q.0)

module _ (gates : ℕ → Gates) (fits : Bool) (between : ℕ) (bytes indices : List ℕ) (panes : ℕ) (losses : List ℕ) (rays : List Float)
    (ray_totals pane_totals : List ℕ) where
  abbrev entry : List Condition
  entry = conditions_between fits between bytes indices panes losses rays (length ray_totals) (length pane_totals)

  abbrev conditions : List Condition
  conditions = entry ++ gated_conditions gates bytes indices panes losses rays

  -- a cause is one of the numbers to 12, or the one found between 12 and 9
  abbrev known : ℕ → Bool
  known k = leb k 12 || eqb k between

  own_known : known between ≡ true
  own_known = go (leb between 12)
    where
      go : (b : Bool) → b || eqb between between ≡ true
      go true = refl
      go false = eq-eqb between between refl

  cause_known : (first_cause conditions ≡ 0) ⊎ T (known (first_cause conditions))
  unfolding conditions_between gated_conditions record_conditions all_numbers
  cause_known = first_among known conditions (subst (λ (b : Bool). T (b && true)) (sym own_known) tt)

  cause_most : (most : ℕ) → 12 ≤ most → between ≤ most → first_cause conditions ≤ most
  cause_most most h l = go cause_known
    where
      of_known : (b : Bool) → leb (first_cause conditions) 12 ≡ b → T (b || eqb (first_cause conditions) between) → first_cause conditions ≤ most
      of_known true e t = omega (arith, leb-true (first_cause conditions) 12 e, h)
      of_known false e t = same (eqb (first_cause conditions) between) refl t
        where
          same : (b : Bool) → eqb (first_cause conditions) between ≡ b → T b → first_cause conditions ≤ most
          same true f t = omega (arith, eqb-true (first_cause conditions) between f, l)
          same false f t = absurd t

      go : (first_cause conditions ≡ 0) ⊎ T (known (first_cause conditions)) → first_cause conditions ≤ most
      go (inl e) = omega (arith, e)
      go (inr t) = of_known (leb (first_cause conditions) 12) refl t

  -- not refused: neither too many nodes nor too many rays
  few : first_cause conditions ≡ 0 → (node_count bytes ≤ 65535) × (ray_count rays ≤ 65536)
  few e = go (first_cause entry) refl
    where
      go : (k : ℕ) → first_cause entry ≡ k → (node_count bytes ≤ 65535) × (ray_count rays ≤ 65536)
      go zero z =
          let n = none_entering fits between bytes indices panes losses rays (length ray_totals) (length pane_totals) z in
          (n.sizes.small, n.entered.few)
      go (suc k) z =
          absurd (omega (arith, z, e, append_first entry (gated_conditions gates bytes indices panes losses rays) (λ y. omega (arith, y, z))))

  -- of a report beside any gates
  gated_fits : (most : ℕ) → 12 ≤ most → between ≤ most
      → ReportFits most (gated_report_of gates bytes indices panes losses rays fits between ray_totals pane_totals).answer
  unfolding gated_report gated_report_by gated_totals ReportFits
  gated_fits most h l = go (first_cause conditions) (cause_most most h l) few
    where
      go : (c : ℕ) → c ≤ most → (c ≡ 0 → (node_count bytes ≤ 65535) × (ray_count rays ≤ 65536))
          → ReportFits most (gated_report_by gates bytes indices panes losses rays c ray_totals pane_totals).answer
      go zero l h =
          let f = h refl in
          omega (
            arith,
            f.1,
            sum_most (gated_tests gates bytes indices rays) 65535
                (λ i. tests_few (gates i) bytes (length indices) (ray_in rays i) f.0) (ray_count rays),
          )
      go (suc k) l h = l

pub report_fits : (bytes indices : List ℕ) (panes : ℕ) (losses : List ℕ) (rays : List Float) (ray_totals pane_totals : List ℕ)
    → ReportFits 12 (report_of bytes indices panes losses rays ray_totals pane_totals).answer
report_fits bytes indices panes losses rays ray_totals pane_totals =
    subst (λ (r : Report). ReportFits 12 r.answer) (report_alone bytes indices panes losses rays ray_totals pane_totals)
    (gated_fits every_open true 0 bytes indices panes losses rays ray_totals pane_totals 12 (omega arith) (omega arith))

-- ---- at quarter hours

module _ (bytes side indices : List ℕ) (panes : ℕ) (spans losses : List ℕ) (rays : List Float) (quarters : List ℕ) where
  abbrev lists : Timetable
  lists = timetable side indices panes spans 0

  abbrev hours_cause : ℕ
  hours_cause = first_cause (hours_conditions bytes lists quarters)

  hours_most : hours_cause ≤ 14
  unfolding hours_conditions all_numbers
  hours_most = numbers_most 14 (hours_conditions bytes lists quarters) tt

  pub report_timed_fits : (ray_totals pane_totals : List ℕ)
      → ReportFits 14 (report_timed_of bytes side indices panes spans losses rays quarters ray_totals pane_totals).answer
  unfolding report_timed_of
  report_timed_fits ray_totals pane_totals =
      gated_fits (gates_by lists quarters) (eqb (length quarters) (ray_count rays)) hours_cause bytes indices panes losses rays ray_totals pane_totals
      14 (omega arith) hours_most
