-- A report over many rays beside any gates (02, [3] and [7]): its totals by the rays' own calls and by the positions met, that the two ways of adding
-- up agree, what refuses it once its walks begin, and what it leaves of its slices.
use mathlib.Core.Bool.{Bool, true, false}
use mathlib.Core.List.{List, [], ◌++◌}
use mathlib.Core.Logic.{◌↔◌}
use mathlib.Core.Path.{◌≡◌, refl, sym, ap, ◌∙◌}
use Prim.Native.Nat.{ℕ, zero, suc, ◌*◌, ◌≤◌, ◌<◌}
use native.Mathlib.Omega.{arith}
use lib.Ieee.{Float}
use lib.ListN.{length, get_or, get_or-eq_default}
use Rattle.lists.specs.Below.{all_below}
use Rattle.lists.specs.Counts.{count}
use Rattle.lists.specs.Sums.{sum, sum_over}
use Rattle.lists.proofs.Sums.{sum_cong, sum-zero, sum_term, sum_exchange, sum_scaled}
use Rattle.lists.proofs.Tells.{all_at, all_pass, one_fails, where_fails}
use Rattle.lists.proofs.Values.{front_length, front_at, behind_front}
use Rattle.causes.specs.Causes.{Condition, first_cause}
use Rattle.causes.proofs.Causes.{append_first, append_later}
use Rattle.causes.proofs.Sizes.{sizes_pass}
use Rattle.ray.specs.Ray.{accepted_ray}
use Rattle.packed.specs.Packed.{ray_in, ray_count, rays_accepted}
use Rattle.record_shape.specs.Record.{node_count}
use Rattle.gate.specs.Gates.{Gates}
use Rattle.walk.specs.Queries.{append}
use Rattle.walk_record.specs.WalkRay.{walk_ray, rays_of}
use Rattle.walk_record.specs.Walk.{any_hit_at}
use Rattle.walk_record.proofs.Laws.{bytes_fit}
use Rattle.walk_record.proofs.WalkRay.{gated_forged}
use Rattle.query.specs.Met.{walk_met_by, tests_made_by, panes_met}
use Rattle.query.specs.Result.{Result}
use Rattle.query.proofs.Begins.{Empty, query_empty}
use Rattle.loss_walk.specs.Losses.{LossAnswer, summed, refused, is_summed, loss_at, pane_total, totalled, refused_report, Report}
use Rattle.loss_walk.specs.Entry.{conditions_between}
use Rattle.loss_walk.specs.Gated.{gated_walks, gated_conditions, gated_totals, gated_report_by, gated_report, gated_report_of}
use Rattle.loss_walk.proofs.Causes.{Entering, none_entering, entry_passed, none_walks}
use Rattle.loss_walk.proofs.Faults.{is_summed_lem, whole, Faultless, faultless_sums, summed_faultless, fault_ten}
use Rattle.loss_walk.proofs.Reports.{walks_fault, walks_none}
use Rattle.loss_walk.proofs.There.{by_panes}
use Rattle.demands.specs.Sums.{SumsOwn, FirstRefused, SlicesStay, WritesTotals, ZeroTotals}
use Rattle.demands.proofs.GatedLoss.{entry, by_walk, called, called_walked, entry_free, over_most_lem, met, left, summed_listed}
use Rattle.demands.proofs.Rays.{ray_accepted, not_forged}

-- a refusal is no totals
pub totals_apart : {A : Type 0} {k tests : ℕ} → refused_report k ≡ totalled tests → A
totals_apart e = let z : ◌≡◌ {A = ℕ} 0 1 = cc in absurd (omega arith)

-- A call that walks each ray beside gates of its own: whether its other lists have lengths that fit, what it found between causes 12 and 9, and what
-- the own call of ray i finds there, 0 for none; then what every report is lent.
pub record ReportBeside : Type 0 where
  pub gates : ℕ → Gates
  pub fits : Bool
  pub between : ℕ
  pub betweens : ℕ → ℕ
  pub bytes : List ℕ
  pub indices : List ℕ
  pub panes : ℕ
  pub losses : List ℕ
  pub rays : List Float
  pub ray_totals : List ℕ
  pub pane_totals : List ℕ

module _ (c : ReportBeside) where
  abbrev pub rays_there : ℕ
  rays_there = ray_count c.rays

  -- what it answers and leaves, and what the own call of ray i gives
  abbrev pub asked : Report
  asked = gated_report_of c.gates c.bytes c.indices c.panes c.losses c.rays c.fits c.between c.ray_totals c.pane_totals

  abbrev pub own : ℕ → Result LossAnswer
  own i = called (c.gates i) (c.betweens i) c.bytes c.indices c.panes c.losses (ray_in c.rays i)

  -- the positions that ray i meets, and how often they are those of pane k
  abbrev pub met_of : ℕ → List ℕ
  met_of i = met (c.gates i) (c.betweens i) c.bytes c.indices c.panes c.losses (ray_in c.rays i)

  abbrev pub times_of : (i k : ℕ) → ℕ
  times_of i k = count k (panes_met c.indices (met_of i))

  -- what any-hit beside the same gates leaves in front of a list lent for ray i
  abbrev pub left_of : ℕ → List ℕ → List ℕ
  left_of i before = left (c.gates i) (c.betweens i) c.bytes c.indices c.panes c.losses (ray_in c.rays i) before

  -- the words that it leaves
  abbrev pub ray_word : ℕ → ℕ
  ray_word i = get_or asked.ray_totals i 0

  abbrev pub pane_word : ℕ → ℕ
  pane_word k = get_or asked.pane_totals k 0

  -- what is looked at on entry, and then by the walks
  abbrev pub on_entry : List Condition
  on_entry = conditions_between c.fits c.between c.bytes c.indices c.panes c.losses c.rays (length c.ray_totals) (length c.pane_totals)

  abbrev pub by_walks : List Condition
  by_walks = gated_conditions c.gates c.bytes c.indices c.panes c.losses c.rays

  -- what the call leaves, by the cause that refuses it
  abbrev pub left_by : ℕ → Report
  left_by k = gated_report_by c.gates c.bytes c.indices c.panes c.losses c.rays k c.ray_totals c.pane_totals

  -- whether the walk of ray i has no fault
  abbrev pub walks : ℕ → Bool
  walks = gated_walks c.gates c.bytes c.indices c.panes c.losses c.rays

  -- what holds where nothing refuses it on entry
  abbrev pub Enters : Type 0
  Enters = Entering c.fits c.between c.bytes c.indices c.panes c.losses c.rays (length c.ray_totals) (length c.pane_totals)

  pub none_enters : first_cause on_entry ≡ 0 → Enters
  none_enters = none_entering c.fits c.between c.bytes c.indices c.panes c.losses c.rays (length c.ray_totals) (length c.pane_totals)

  -- then the own call of each ray finds nothing between 12 and 9, and its gates don't forge its walker
  pub record Agrees : Type 0 where
    pub none : Enters → (i : ℕ) → i < rays_there → c.betweens i ≡ 0
    pub begun : Enters → (i : ℕ) → i < rays_there → (c.gates i).forged ≡ false

-- ---- refusals

-- A refusal leaves both slices as they were.
pub refused_leaves : (c : ReportBeside) (k : ℕ) → (asked c).answer ≡ refused_report k → SlicesStay (asked c) c.ray_totals c.pane_totals
unfolding gated_report gated_report_by gated_totals
refused_leaves c k e = go (first_cause (on_entry c ++ by_walks c)) refl e
  where
    go : (j : ℕ) → first_cause (on_entry c ++ by_walks c) ≡ j → (left_by c j).answer ≡ refused_report k
        → SlicesStay (asked c) c.ray_totals c.pane_totals
    go zero z q = totals_apart (sym q)
    go (suc j) z q = let s = ap (left_by c) z in record {
      rays_left = ap (λ (r : Report). r.ray_totals) s;
      panes_left = ap (λ (r : Report). r.pane_totals) s;
    }

module _ (c : ReportBeside) (agrees : Agrees c) where
  module _ (enters : Enters c) where
    pub own_enters : (i : ℕ) → i < rays_there c
        → entry (c.gates i) (c.betweens i) c.bytes c.indices c.panes c.losses (ray_in c.rays i) ≡ 0
    unfolding rays_accepted
    own_enters i h =
        entry_free (c.gates i) (c.betweens i) c.bytes c.indices c.panes c.losses (ray_in c.rays i) enters.sizes enters.fitting
        (agrees.none enters i h)
        (all_at (λ k. accepted_ray (ray_in c.rays k)) (ray_count c.rays) enters.entered.accepted i h)

    -- each ray's own call gives what its walk gives
    pub own_walked : (i : ℕ) → i < rays_there c
        → own c i ≡ by_walk (c.gates i) (c.betweens i) c.bytes c.indices c.panes c.losses (ray_in c.rays i)
    own_walked i h = called_walked (c.gates i) (c.betweens i) c.bytes c.indices c.panes c.losses (ray_in c.rays i) (own_enters i h)

  module _ (none : first_cause (on_entry c) ≡ 0) where
    entering : Enters c
    entering = none_enters c none

    -- by the walks alone
    behind_entry : first_cause (on_entry c ++ by_walks c) ≡ first_cause (by_walks c)
    behind_entry =
        append_later (on_entry c) (by_walks c)
        (entry_passed c.fits c.between c.bytes c.indices c.panes c.losses c.rays (length c.ray_totals) (length c.pane_totals) none)

    walks_total : all_below (walks c) (rays_there c) ≡ true → (tests : ℕ) × ((asked c).answer ≡ totalled tests)
    unfolding gated_report gated_report_by gated_totals
    walks_total e =
        (_, ap (λ (k : ℕ). (left_by c k).answer) (behind_entry ∙ walks_none c.gates c.bytes c.indices c.panes c.losses c.rays e))

    -- where no walk has a fault it gives totals
    pub faultless_totals : ((i : ℕ) → i < rays_there c → Faultless (c.gates i) c.bytes c.indices c.panes c.losses (ray_in c.rays i))
        → (tests : ℕ) × ((asked c).answer ≡ totalled tests)
    unfolding gated_walks is_summed
    faultless_totals f =
        walks_total
        (all_pass (walks c) (rays_there c) (λ i h. ap (λ (r : Result LossAnswer). is_summed r.answer)
        (faultless_sums (c.gates i) c.bytes c.indices c.panes c.losses (ray_in c.rays i) (f i h))))

    fault_refuses : all_below (walks c) (rays_there c) ≡ false → (asked c).answer ≡ refused_report 10
    unfolding gated_report gated_report_by
    fault_refuses e =
        ap (λ (k : ℕ). (left_by c k).answer) (behind_entry ∙ walks_fault c.gates c.bytes c.indices c.panes c.losses c.rays e)

    -- the own call of a ray is refused with 10 if its walk has a fault,
    own_refuses : (i : ℕ) → i < rays_there c → walks c i ≡ false → (own c i).answer ≡ refused 10
    unfolding gated_walks
    own_refuses i h e =
        ap (λ (r : Result LossAnswer). r.answer)
        (own_walked entering i h
        ∙ fault_ten (c.gates i) c.bytes c.indices c.panes c.losses (ray_in c.rays i)
        (sizes_pass (length c.bytes) (length c.indices) entering.sizes) e)

    -- and its walk has one if the call is refused
    refused_walk : (i : ℕ) → i < rays_there c → (k : ℕ) → (own c i).answer ≡ refused k → walks c i ≡ false
    unfolding gated_walks is_summed
    refused_walk i h k e = ap is_summed (sym (ap (λ (r : Result LossAnswer). r.answer) (own_walked entering i h)) ∙ e)

    -- The number of a ray's fault is 10,
    pub refused_number : (k : ℕ) → FirstRefused (rays_there c) (own c) k → k ≡ 10
    refused_number k f =
        let s : refused 10 ≡ refused k = sym (own_refuses f.ray f.there (refused_walk f.ray f.there k f.refuses)) ∙ f.refuses in
        cc

    -- and a report is refused exactly if the own call of some ray is, with the number of the first such ray.
    pub refused_fault : (k : ℕ) → (asked c).answer ≡ refused_report k ↔ FirstRefused (rays_there c) (own c) k
    unfolding gated_walks
    refused_fault k = (to (all_below (walks c) (rays_there c)) refl, from)
      where
        to : (b : Bool) → all_below (walks c) (rays_there c) ≡ b → (asked c).answer ≡ refused_report k → FirstRefused (rays_there c) (own c) k
        to true z e = totals_apart (sym e ∙ (walks_total z).1)
        to false z e =
            let u = where_fails (walks c) (rays_there c) z in
            let s : refused_report 10 ≡ refused_report k = sym (fault_refuses z) ∙ e in
            let t : 10 ≡ k = cc in
            record {
              ray = u.0;
              there = u.1;
              refuses = own_refuses u.0 u.1 u.2 ∙ ap refused t;
              before = λ j h.
                  let v = is_summed_lem (by_walk (c.gates j) (c.betweens j) c.bytes c.indices c.panes c.losses (ray_in c.rays j)).answer (u.3 j h) in
                  (v.0, ap (λ (r : Result LossAnswer). r.answer) (own_walked entering j (omega (arith, u.1, h))) ∙ v.1);
            }

        from : FirstRefused (rays_there c) (own c) k → (asked c).answer ≡ refused_report k
        from f =
            fault_refuses (one_fails (walks c) (rays_there c) f.ray f.there (refused_walk f.ray f.there k f.refuses))
            ∙ ap refused_report (sym (refused_number k f))

-- ---- totals

module _ (c : ReportBeside) (agrees : Agrees c) (tests : ℕ) (given : (asked c).answer ≡ totalled tests) where
  record TotalsGiven : Type 0 where
    pub enters : Enters c
    pub all-walk : all_below (walks c) (rays_there c) ≡ true
    pub leaves : asked c ≡ gated_totals c.gates c.bytes c.indices c.panes c.losses c.rays c.ray_totals c.pane_totals

  T : TotalsGiven
  unfolding gated_report gated_report_by
  T = go (by (first_cause (on_entry c ++ by_walks c)) given)
    where
      by : (k : ℕ) → (left_by c k).answer ≡ totalled tests → k ≡ 0
      by zero q = refl
      by (suc k) q = totals_apart q

      go : first_cause (on_entry c ++ by_walks c) ≡ 0 → TotalsGiven
      go z = front (first_cause (on_entry c)) refl
        where
          front : (k : ℕ) → first_cause (on_entry c) ≡ k → TotalsGiven
          front zero e = record {
            enters = none_enters c e;
            all-walk = none_walks c.gates c.bytes c.indices c.panes c.losses c.rays (sym (behind_entry c agrees e) ∙ z);
            leaves = ap (left_by c) z;
          }
          front (suc k) e = absurd (omega (arith, z, e, append_first (on_entry c) (by_walks c) (λ y. omega (arith, y, e))))

  faultless : (i : ℕ) → i < rays_there c → Faultless (c.gates i) c.bytes c.indices c.panes c.losses (ray_in c.rays i)
  unfolding gated_walks
  faultless i h =
      summed_faultless (c.gates i) c.bytes c.indices c.panes c.losses (ray_in c.rays i) (all_at (walks c) (rays_there c) T.all-walk i h)

  -- a ray's own call
  own_sums : (i : ℕ) → i < rays_there c → own c i ≡ whole (c.gates i) c.bytes c.indices c.panes c.losses (ray_in c.rays i)
  own_sums i h =
      own_walked c agrees T.enters i h ∙ faultless_sums (c.gates i) c.bytes c.indices c.panes c.losses (ray_in c.rays i) (faultless i h)

  unforged : (i : ℕ) → i < rays_there c → (rays_of (c.gates i)).forged (walk_ray (ray_in c.rays i)) ≡ false
  unfolding rays_accepted
  unforged i h =
      gated_forged (c.gates i) (walk_ray (ray_in c.rays i)) (agrees.begun T.enters i h)
      (not_forged (ray_accepted c.rays i
      (all_at (λ k. accepted_ray (ray_in c.rays k)) (rays_there c) T.enters.entered.accepted i h)))

  -- the losses of all positions that ray i meets
  abbrev sum_of : ℕ → ℕ
  sum_of i = sum_over (loss_at c.indices c.losses) (met_of c i)

  ray_word_lem : (i : ℕ) → i < rays_there c → ray_word c i ≡ sum_of i
  unfolding gated_totals
  ray_word_lem i h =
      ap (λ (r : Report). get_or r.ray_totals i 0) T.leaves ∙ front_at c.ray_totals sum_of (rays_there c) T.enters.ray_room i 0 h

  -- Each ray's word is the loss of its own call, and the tests are those of all these calls.
  pub totals_own : SumsOwn (rays_there c) (own c) (asked c) tests
  unfolding gated_totals
  totals_own = record {
    words = λ i h. ap (λ (r : Result LossAnswer). r.answer) (own_sums i h) ∙ ap summed (sym (ray_word_lem i h));
    tests_sum =
        let s : totalled tests ≡ totalled (sum (λ i. tests_made_by (c.gates i) c.bytes (length c.indices) (ray_in c.rays i)) (rays_there c)) =
        sym given ∙ ap (λ (r : Report). r.answer) T.leaves in
        let t : tests ≡ sum (λ i. tests_made_by (c.gates i) c.bytes (length c.indices) (ray_in c.rays i)) (rays_there c) = cc in
        t ∙ sum_cong _ _ (rays_there c) (λ i h. sym (ap (λ (r : Result LossAnswer). r.tests) (own_sums i h)));
  }

  -- Each pane's word is its loss as often as the positions that the rays meet are its own.
  pub totals_panes : (k : ℕ) → k < c.panes → pane_word c k ≡ sum (λ i. times_of c i k) (rays_there c) * get_or c.losses k 0
  unfolding gated_totals
  totals_panes k h =
      ap (λ (r : Report). get_or r.pane_totals k 0) T.leaves
      ∙ front_at c.pane_totals (pane_total c.indices c.losses (met_of c) (rays_there c)) c.panes T.enters.pane_room k 0 h

  -- These are the positions on the lists that any-hit beside the same gates leaves for each ray, lent lists with room for them.
  pub totals_listed : (before : ℕ → List ℕ) → ((i : ℕ) → i < rays_there c → length (met_of c i) ≤ length (before i)) → (k : ℕ) → k < c.panes
      → pane_word c k ≡ sum (λ i. count k (panes_met c.indices (left_of c i (before i)))) (rays_there c) * get_or c.losses k 0
  totals_listed before room k h =
      totals_panes k h
      ∙ ap (λ (x : ℕ). x * get_or c.losses k 0) (sum_cong _ _ (rays_there c) (λ i l. ap (λ (ps : List ℕ). count k (panes_met c.indices ps))
      (sym (summed_listed (c.gates i) (c.betweens i) c.bytes c.indices c.panes c.losses (ray_in c.rays i) (ray_word c i) (totals_own.words i l)
      (before i) (room i l)).list)))

  -- The totals of all rays and those of all panes come to the same.
  pub totals_alike : sum (ray_word c) (rays_there c) ≡ sum (pane_word c) c.panes
  totals_alike =
      sum_cong (ray_word c) (λ i. sum (λ k. times_of c i k * get_or c.losses k 0) c.panes) (rays_there c)
      (λ i h. ray_word_lem i h ∙ by_panes c.panes c.indices c.losses (met_of c i) (faultless i h).there)
      ∙ sum_exchange (λ i k. times_of c i k * get_or c.losses k 0) (rays_there c) c.panes
      ∙ sum_cong (λ k. sum (λ i. times_of c i k * get_or c.losses k 0) (rays_there c)) (pane_word c) c.panes
      (λ k h. sum_scaled (λ i. times_of c i k) (get_or c.losses k 0) (rays_there c) ∙ sym (totals_panes k h))

  -- Where no ray meets more positions than there are its word is at most 1,000,000 for each.
  pub words_most : ((i : ℕ) → i < rays_there c → length (met_of c i) ≤ length c.indices) → (i : ℕ) → i < rays_there c
      → ray_word c i ≤ length c.indices * 1000000
  words_most few i h =
      omega (
        arith,
        ray_word_lem i h,
        over_most_lem (c.gates i) (c.betweens i) c.bytes c.indices c.panes c.losses (ray_in c.rays i) T.enters.fitting,
        few i h,
      )

  -- Only the words of rays and of panes change.
  pub totals_written : WritesTotals (asked c) c.ray_totals c.pane_totals (rays_there c) c.panes
  unfolding gated_totals
  totals_written =
      let e = T.leaves in
      let a = T.enters.ray_room in
      let b = T.enters.pane_room in
      let ps : ℕ → ℕ = pane_total c.indices c.losses (met_of c) (rays_there c) in
      record {
        rays_length = ap (λ (r : Report). length r.ray_totals) e ∙ front_length c.ray_totals sum_of (rays_there c) a;
        panes_length = ap (λ (r : Report). length r.pane_totals) e ∙ front_length c.pane_totals ps c.panes b;
        behind_rays = λ i h. ap (λ (r : Report). get_or r.ray_totals i 0) e ∙ behind_front c.ray_totals sum_of (rays_there c) a i 0 h;
        behind_panes = λ k h. ap (λ (r : Report). get_or r.pane_totals k 0) e ∙ behind_front c.pane_totals ps c.panes b k 0 h;
      }

  -- ---- nothing to add up

  -- where no ray meets a position
  none_met : ((i : ℕ) → i < rays_there c → met_of c i ≡ []) → ZeroTotals (asked c) (rays_there c) c.panes
  unfolding sum_over count
  none_met none = record {
    rays_zero = λ i h. ray_word_lem i h ∙ ap (sum_over (loss_at c.indices c.losses)) (none i h);
    panes_zero = λ k h.
        let s = sum-zero (λ i. times_of c i k) (rays_there c) (λ i l. ap (λ (ps : List ℕ). count k (panes_met c.indices ps)) (none i l)) in
        totals_panes k h ∙ ap (λ (x : ℕ). x * get_or c.losses k 0) s ∙ omega arith;
  }

  -- Without rays every pane's word is 0, and so are the tests.
  pub without_rays : rays_there c ≡ 0 → ZeroTotals (asked c) (rays_there c) c.panes × (tests ≡ 0)
  without_rays z =
      (none_met (λ i h. absurd (omega (arith, z, h))), totals_own.tests_sum ∙ sum-zero _ (rays_there c) (λ i h. absurd (omega (arith, z, h))))

  -- Without panes every ray's word is 0.
  pub without_panes : c.panes ≡ 0 → ZeroTotals (asked c) (rays_there c) c.panes
  without_panes z = record {
    rays_zero = λ i h.
        omega (
          arith,
          sum_term (ray_word c) (rays_there c) i h,
          totals_alike,
          sum-zero (pane_word c) c.panes (λ k l. absurd (omega (arith, z, l))),
        );
    panes_zero = λ k h. absurd (omega (arith, z, h));
  }

  -- Without nodes every word is 0, and so are the tests.
  pub without_nodes : node_count c.bytes ≡ 0 → ZeroTotals (asked c) (rays_there c) c.panes × (tests ≡ 0)
  unfolding any_hit_at
  without_nodes z = (
    none_met (λ i h. (empty i h).accumulator),
    totals_own.tests_sum
        ∙ sum-zero _ (rays_there c) (λ i h. ap (λ (r : Result LossAnswer). r.tests) (own_sums i h) ∙ (empty i h).tests),
  )
    where
      zero-bytes : (i : ℕ) → get_or c.bytes i 0 < 256
      zero-bytes i = omega (arith, get_or-eq_default c.bytes 0 {n = i} (omega (arith, z, T.enters.sizes.whole)))

      empty : (i : ℕ) (h : i < rays_there c)
          → Empty (c.gates i) c.bytes (length c.indices) (bytes_fit c.bytes zero-bytes) append [] (ray_in c.rays i) (unforged i h)
          (walk_met_by (c.gates i) c.bytes (length c.indices) (ray_in c.rays i))
      empty i h =
          query_empty (c.gates i) c.bytes (length c.indices) (bytes_fit c.bytes zero-bytes) append [] (ray_in c.rays i) (unforged i h) z
          T.enters.sizes.few
