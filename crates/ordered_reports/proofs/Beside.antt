-- Over two records to which rays beside gates are alike any-hit gives the same answer, and losses and reports are equal.
use mathlib.Core.Bool.{Bool, true, cond}
use mathlib.Core.List.{List, [], ◌∷◌, ◌++◌, Perm}
use mathlib.Core.Path.{◌≡◌, refl, sym, ap, ap₂, subst, ◌∙◌}
use Prim.Native.Nat.{ℕ, zero, suc, ◌*◌, ◌<◌}
use lib.Ieee.{Float}
use lib.ListN.{length, get_or, length-map}
use Rattle.lists.specs.Splice.{splice}
use Rattle.lists.specs.Sums.{sum, sum_over}
use Rattle.lists.proofs.Perms.{counts_perm, perm_length}
use Rattle.lists.proofs.Rearranged.{sum_rearranged}
use Rattle.lists.proofs.Sums.{sum_cong, over_words}
use Rattle.lists.proofs.Tells.{all_same}
use Rattle.lists.proofs.Values.{values_same}
use Rattle.causes.specs.Causes.{Condition, ◌unless◌, first_cause}
use Rattle.ray.specs.declared.Ray.{Ray}
use Rattle.ray.specs.Ray.{accepted_ray}
use Rattle.packed.specs.Packed.{ray_in, ray_count}
use Rattle.gate.specs.Gates.{Gates}
use Rattle.walk.specs.Queries.{Ended}
use Rattle.walk_record.specs.WalkRay.{walk_ray}
use Rattle.query.specs.Entry.{entry_cause}
use Rattle.query.specs.Met.{walk_met_by, positions_met_by, tests_made_by, panes_met}
use Rattle.query.specs.Result.{Result, unanswered, entered}
use Rattle.query.proofs.Entry.{found_at_end}
use Rattle.query.proofs.Entry as E
use Rattle.any_hit_walk.specs.AnyHit.{fitted, walk_of, gated_any_hit}
use Rattle.any_hit_walk.specs.AnyHit as A
use Rattle.loss_walk.specs.Losses.{LossAnswer, summed, refused, is_summed, all_there, loss_at, ray_total, pane_total, totalled}
use Rattle.loss_walk.specs.Gated.{gated_loss, gated_met, gated_tests, gated_walks, gated_conditions, gated_totals, gated_report_by, gated_report}
use Rattle.ordered_reports.specs.Alike.{SizedAlike, MetAlikeBy}
use Rattle.ordered_reports.proofs.Rearranged.{there_rearranged, behind_same, front_none}

-- ---- on entry

-- Two queries with the same cause on entry, and without one with the same walk, answer the same.
entered_alike : {A : Type 0} (refuse : ℕ → A) (k j : ℕ) (w v : Result A) → k ≡ j → (k ≡ 0 → w ≡ v) → entered refuse k w ≡ entered refuse j v
unfolding entered
entered_alike refuse k j w v e h = go k h ∙ ap (λ (i : ℕ). entered refuse i v) e
  where
    go : (i : ℕ) → (i ≡ 0 → w ≡ v) → entered refuse i w ≡ entered refuse i v
    go zero h = h refl
    go (suc i) h = refl

-- ---- any-hit by the positions that its walk finds, and a loss by the panes that it meets

any_hit_gives : (g : Gates) (bytes : List ℕ) (n : ℕ) (r : Ray) → Ended (walk_met_by g bytes n r).ended → (room : ℕ)
    → walk_of g bytes n (walk_ray r) room ≡ fitted (length (positions_met_by g bytes n r)) (tests_made_by g bytes n r) room
unfolding walk_of entered
any_hit_gives g bytes n r ends room =
    found_at_end A.refused (λ noted tests. fitted (length noted) tests room) 0 (walk_met_by g bytes n r) (walk_met_by g bytes n r).ended refl ends

abbrev by_panes : (panes : ℕ) (losses found : List ℕ) (tests : ℕ) → Result LossAnswer
by_panes panes losses found tests =
    cond (all_there panes found) (record { answer = summed (sum_over (λ k. get_or losses k 0) found); tests = tests }) (unanswered (refused 10))

walk_by_panes : (g : Gates) (bytes list : List ℕ) (panes : ℕ) (losses : List ℕ) (r : Ray) → Ended (walk_met_by g bytes (length list) r).ended
    → gated_loss g bytes list panes losses r
    ≡ by_panes panes losses (panes_met list (positions_met_by g bytes (length list) r)) (tests_made_by g bytes (length list) r)
unfolding gated_loss entered
walk_by_panes g bytes list panes losses r ends =
    let o = walk_met_by g bytes (length list) r in
    let there = all_there panes (panes_met list o.accumulator) in
    ap (λ (x : Result LossAnswer). cond there x (unanswered (refused 10)))
    (found_at_end refused (λ met tests. record { answer = summed (sum_over (loss_at list losses) met); tests = tests }) 0 o o.ended refl ends
    ∙ ap (λ (s : ℕ). record { answer = summed s; tests = o.walker.tests }) (sym (over_words (λ k. get_or losses k 0) list o.accumulator)))

by_panes_same : (panes : ℕ) (losses a b : List ℕ) (s t : ℕ) → Perm a b → s ≡ t → by_panes panes losses a s ≡ by_panes panes losses b t
by_panes_same panes losses a b s t p e = λ i.
    cond (there_rearranged panes a b p i)
    (record { answer = summed (sum_rearranged (λ k. get_or losses k 0) a b p i); tests = e i }) (unanswered (refused 10))

module _ {n : ℕ} {bytes list other_bytes other_list : List ℕ} (sized : SizedAlike n bytes list other_bytes other_list) where
  -- the two lists have one length
  pub lengths : length list ≡ length other_list
  lengths = sized.list_length ∙ sym sized.other_length

  -- the same with j and k for the lengths of the two lists
  record MetAt (g other : Gates) (j k : ℕ) (r : Ray) : Type 0 where
    ends : Ended (walk_met_by g bytes j r).ended
    other_ends : Ended (walk_met_by other other_bytes k r).ended
    panes : Perm (panes_met list (positions_met_by g bytes j r)) (panes_met other_list (positions_met_by other other_bytes k r))
    tests : tests_made_by g bytes j r ≡ tests_made_by other other_bytes k r

  met_at : (g other : Gates) (r : Ray) → MetAlikeBy n bytes list other_bytes other_list g other r
      → MetAt g other (length list) (length other_list) r
  met_at g other r m =
      subst (λ (j : ℕ). MetAt g other j (length other_list) r) (sym sized.list_length)
      (subst (λ (k : ℕ). MetAt g other n k r) (sym sized.other_length)
      (record { ends = m.ends; other_ends = m.other_ends; panes = m.panes; tests = m.tests }))

  -- ---- one ray

  module _ (g other : Gates) (r : Ray) where
    abbrev Met : Type 0
    Met = MetAlikeBy n bytes list other_bytes other_list g other r

    as_many : Met → length (positions_met_by g bytes n r) ≡ length (positions_met_by other other_bytes n r)
    as_many m =
        sym (length-map (positions_met_by g bytes n r) (λ p. get_or list p 0)) ∙ perm_length _ _ m.panes
        ∙ length-map (positions_met_by other other_bytes n r) (λ p. get_or other_list p 0)

    walked_same : (panes : ℕ) (losses : List ℕ) → Met
        → gated_loss g bytes list panes losses r ≡ gated_loss other other_bytes other_list panes losses r
    walked_same panes losses h =
        let m = met_at g other r h in
        walk_by_panes g bytes list panes losses r m.ends ∙ by_panes_same panes losses _ _ _ _ m.panes m.tests
        ∙ sym (walk_by_panes other other_bytes other_list panes losses r m.other_ends)

    -- of a call with some cause between 2 and 9, or none, whose walks meet the same where it is not refused on entry
    module _ (between : ℕ) (met : between ≡ 0 → accepted_ray r ≡ true → Met) where
      -- Any-hit answers the same: the same refusal on entry, or as many positions after as many tests, or the same length that is lacking.
      pub gated_any_hit_alike : (room : ℕ) → gated_any_hit g bytes n between r room ≡ gated_any_hit other other_bytes n between r room
      unfolding gated_any_hit
      gated_any_hit_alike room =
          entered_alike A.refused (entry_cause true (length bytes) n between r) (entry_cause true (length other_bytes) n between r) _ _
          (ap (λ (b : ℕ). entry_cause true b n between r) sized.same_length)
          (λ z. let e = E.entered true (length bytes) n between r z in walked (met e.none e.accepted))
        where
          walked : Met → walk_of g bytes n (walk_ray r) room ≡ walk_of other other_bytes n (walk_ray r) room
          walked m =
              any_hit_gives g bytes n r m.ends room ∙ ap₂ (λ (c t : ℕ). fitted c t room) (as_many m) m.tests
              ∙ sym (any_hit_gives other other_bytes n r m.other_ends room)

      -- A loss is the same, and so is its refusal.
      pub gated_loss_alike : (panes : ℕ) (losses : List ℕ)
          → entered refused (entry_cause true (length bytes) (length list) between r) (gated_loss g bytes list panes losses r)
          ≡ entered refused (entry_cause true (length other_bytes) (length other_list) between r)
          (gated_loss other other_bytes other_list panes losses r)
      gated_loss_alike panes losses =
          entered_alike refused (entry_cause true (length bytes) (length list) between r)
          (entry_cause true (length other_bytes) (length other_list) between r) _ _
          (ap₂ (λ (b k : ℕ). entry_cause true b k between r) sized.same_length lengths)
          (λ z. let e = E.entered true (length bytes) (length list) between r z in walked_same panes losses (met e.none e.accepted))

  -- ---- many rays, each beside gates of its own, that meet the same where nothing refuses them on entry

  module _ (gates others : ℕ → Gates) (panes : ℕ) (losses : List ℕ) (rays : List Float) (entry : List Condition)
      (met : first_cause entry ≡ 0 → (i : ℕ) → i < ray_count rays
      → MetAlikeBy n bytes list other_bytes other_list (gates i) (others i) (ray_in rays i)) (ray_totals pane_totals : List ℕ) where
    abbrev by_walks : List Condition
    by_walks = gated_conditions gates bytes list panes losses rays

    abbrev other_walks : List Condition
    other_walks = gated_conditions others other_bytes other_list panes losses rays

    module _ (none : first_cause entry ≡ 0) where
      met_here : (i : ℕ) → i < ray_count rays → MetAt (gates i) (others i) (length list) (length other_list) (ray_in rays i)
      met_here i h = met_at (gates i) (others i) (ray_in rays i) (met none i h)

      walks_same : by_walks ≡ other_walks
      unfolding gated_conditions gated_walks
      walks_same =
          ap (λ (b : Bool). 10 unless b ∷ [])
          (all_same (gated_walks gates bytes list panes losses rays) (gated_walks others other_bytes other_list panes losses rays) (ray_count rays)
          (λ i h. ap (λ (x : Result LossAnswer). is_summed x.answer)
          (walked_same (gates i) (others i) (ray_in rays i) panes losses (met none i h))))

      -- ray by ray, and pane by pane
      tests_same : sum (gated_tests gates bytes list rays) (ray_count rays) ≡ sum (gated_tests others other_bytes other_list rays) (ray_count rays)
      tests_same = sum_cong _ _ (ray_count rays) (λ i h. (met_here i h).tests)

      ray_same : (i : ℕ) → i < ray_count rays
          → ray_total list losses (gated_met gates bytes list rays) i ≡ ray_total other_list losses (gated_met others other_bytes other_list rays) i
      ray_same i h =
          sym (over_words (λ k. get_or losses k 0) list (gated_met gates bytes list rays i))
          ∙ sum_rearranged (λ k. get_or losses k 0) _ _ (met_here i h).panes
          ∙ over_words (λ k. get_or losses k 0) other_list (gated_met others other_bytes other_list rays i)

      pane_same : (k : ℕ) → pane_total list losses (gated_met gates bytes list rays) (ray_count rays) k
          ≡ pane_total other_list losses (gated_met others other_bytes other_list rays) (ray_count rays) k
      pane_same k =
          ap (λ (t : ℕ). t * get_or losses k 0)
          (sum_cong _ _ (ray_count rays) (λ i h. (counts_perm _ _).0 (met_here i h).panes k))

      totals_same : gated_totals gates bytes list panes losses rays ray_totals pane_totals
          ≡ gated_totals others other_bytes other_list panes losses rays ray_totals pane_totals
      unfolding gated_totals
      totals_same = λ i. record {
        answer = totalled (tests_same i);
        ray_totals = splice ray_totals 0 (values_same _ _ (ray_count rays) ray_same i);
        pane_totals = splice pane_totals 0 (values_same _ _ panes (λ k h. pane_same k) i);
      }

    left_same : (k : ℕ) → first_cause (entry ++ by_walks) ≡ k
        → gated_report_by gates bytes list panes losses rays k ray_totals pane_totals
        ≡ gated_report_by others other_bytes other_list panes losses rays k ray_totals pane_totals
    unfolding gated_report_by
    left_same zero z = totals_same (front_none entry by_walks z)
    left_same (suc k) z = refl

    -- A whole report is the same: its answer, a refusal too, and what it leaves of both slices.
    pub gated_report_alike : gated_report gates bytes list panes losses rays entry ray_totals pane_totals
        ≡ gated_report others other_bytes other_list panes losses rays entry ray_totals pane_totals
    unfolding gated_report
    gated_report_alike =
        left_same (first_cause (entry ++ by_walks)) refl
        ∙ ap (λ (k : ℕ). gated_report_by others other_bytes other_list panes losses rays k ray_totals pane_totals)
        (behind_same entry by_walks other_walks walks_same)
