-- Ordering alters no report (02, [6]): of two calls of the conversion with one tree and one leaf limit, whichever ordering each asks for and whatever
-- slices it is lent. Both are answered with as many nodes and levels, or both are refused with one number. A ray meets the same panes in the two
-- records, each the same number of times, after the same number of node tests, so that any-hit's answers, losses and reports are equal.
use mathlib.Core.Bool.{Bool}
use mathlib.Core.List.{List, ◌∷◌, ◌++◌, [], Perm}
use mathlib.Core.Path.{◌≡◌, refl, sym, ap, ap₂, subst, ◌∙◌}
use Prim.Native.Nat.{ℕ, zero, suc, ◌*◌, ◌<◌}
use native.Mathlib.Omega.{arith}
use lib.Dec.{leb}
use lib.Ieee.{Float}
use lib.ListN.{length}
use Rattle.lists.proofs.Perms.{counts_perm}
use Rattle.causes.specs.Causes.{Condition, ◌unless◌, first_cause}
use Rattle.ray.specs.declared.Ray.{Ray}
use Rattle.ray.specs.declared.Beam.{Beam}
use Rattle.ray.specs.Ray.{ray_from}
use Rattle.query.specs.Met.{positions_met, panes_met}
use Rattle.bvh2.specs.Causes.{Accepted}
use Rattle.bvh2.specs.Decoded.{Decoded}
use Rattle.bvh2.proofs.Decoded.{accepted_decoded}
use Rattle.bvh2.specs.FirstCause.{size_conditions, structure_conditions}
use Rattle.bvh2_tables.specs.Call.{lengths_of}
use Rattle.bvh2_tables.specs.Tables.{slices_fit, prepare_conditions}
use Rattle.bvh2_tables.proofs.Prepared.{prepared}
use Rattle.bvh2_to_cwbvh.specs.Conversion.{index_list_of}
use Rattle.bvh2_to_cwbvh.specs.Conversion.{conversion_conditions, conversion_cause, converted, answer_for, outcome_for, conversion_of}
use Rattle.bvh2_to_cwbvh.proofs.Sizes.{bytes-length, list_length}
use Rattle.bvh2_to_cwbvh.proofs.Answers as A
use Rattle.demands.specs.Call.{Call, Answers, leaf_count, record_at, list_at, defined_record, defined_nodes, deepest_level}
use Rattle.demands.specs.Call.{Convertible}
use Rattle.demands.specs.Walks.{CheckedRecord, AcceptedRay}
use Rattle.demands.specs.Panes.{Panes}
use Rattle.demands.proofs.Answered.{record_is, list_is}
use Rattle.demands.proofs.Panes.{list_good, list_panes}
use Rattle.demands.proofs.Demands.{good_record}
use Rattle.demands.proofs.SoundWalks.{sizes_fit_lem}
use Rattle.ordered_reports.specs.Alike.{SizedAlike, AllMetAlike}
use Rattle.ordered_reports.specs.Ordering.{SameTree, SameRoom, SamePanes, SameTests, SameAnyHit, SameLists, SameLoss}
use Rattle.ordered_reports.specs.Ordering.{SameMiss, SameHit, SameReport}
use Rattle.ordered_reports.proofs.Alike.{any_hit_alike, lists_alike, loss_alike, report_alike}
use Rattle.ordered_reports.proofs.Blocked.{Asked, miss_alike, no_hit_alike}
use Rattle.ordered_reports.proofs.Rearranged.{behind_same}
use Rattle.ordered_reports.proofs.Trees.{records_alike, nodes_same, levels_same}

-- ---- the conversion

module _ (a b : Call) (same : SameTree a b) where
  -- the second call with the first's tree is the second call
  abbrev pub second_call : Call
  second_call = record {
    words = a.words;
    indices = a.indices;
    limit = a.limit;
    ordered = b.ordered;
    decisions = b.decisions;
    costs = b.costs;
    bytes = b.bytes;
    list = b.list;
  }

  pub is_second : second_call ≡ b
  is_second = λ i. record {
    words = same.words i;
    indices = same.indices i;
    limit = same.limit i;
    ordered = b.ordered;
    decisions = b.decisions;
    costs = b.costs;
    bytes = b.bytes;
    list = b.list;
  }

-- an accepted tree's words, decoded
pub decoded_lem : (c : Call) → Accepted c.words (leaf_count c) → 0 < leaf_count c → Decoded c.words (leaf_count c)
decoded_lem c h p = (accepted_decoded c.words (leaf_count c) p).0 h

-- what an answered call left has the defined sizes
pub left_good : (c : Call) (m d : ℕ) → Answers c m d → CheckedRecord (defined_record c) (leaf_count c) d
left_good c m d h = subst (λ (x : List ℕ). CheckedRecord x (leaf_count c) d) (record_is c m d h) (good_record c m d h)

pub record_length : (c : Call) (m d : ℕ) → Answers c m d → length (record_at c m) ≡ 80 * m
record_length c m d h =
    ap length (record_is c m d h) ∙ omega (arith, bytes-length c.words c.limit c.ordered (leaf_count c), (A.answered c m d h).nodes)

pub list_long : (c : Call) (m d : ℕ) → Answers c m d → length (list_at c) ≡ leaf_count c
list_long c m d h = ap length (list_is c m d h) ∙ list_length c.words c.limit c.ordered c.indices (A.answered c m d h).none.accepted

module _ (a b : Call) (same : SameTree a b) where
  abbrev s : Call
  s = second_call a b same

  -- what holds of the second call with the first's tree holds of it
  by_second : (P : Call → Type 0) → P s → P b
  by_second P = subst P (is_second a b same)

  -- ---- what an accepted tree becomes

  nodes_lem : Accepted a.words (leaf_count a) → defined_nodes a ≡ defined_nodes s
  nodes_lem h = nodes_same a.words a.limit a.ordered b.ordered (leaf_count a) (decoded_lem a h)

  levels_lem : Accepted a.words (leaf_count a) → deepest_level a ≡ deepest_level s
  levels_lem h = levels_same a.words a.limit a.ordered b.ordered (leaf_count a) (decoded_lem a h)

  -- Two convertible calls have records of as many nodes, with one deepest level.
  pub ordering_same_shape : Convertible a → (defined_nodes a ≡ defined_nodes b) × (deepest_level a ≡ deepest_level b)
  ordering_same_shape h =
      by_second (λ c. (defined_nodes a ≡ defined_nodes c) × (deepest_level a ≡ deepest_level c)) (nodes_lem h.accepted, levels_lem h.accepted)

  -- ---- the answer

  -- causes 1 to 7, and the last
  abbrev pub early : Call → List Condition
  early c = prepare_conditions c.words (leaf_count c) c.limit (lengths_of c)

  abbrev deep : Call → List Condition
  deep c = 8 unless leb (deepest_level c) 31 ∷ []

  module _ (room : SameRoom a b) where
    pub early_same : early a ≡ early s
    unfolding prepare_conditions
    early_same =
        ap (λ (fit : Bool). size_conditions (length a.words) (leaf_count a) ++ 3 unless leb a.limit 3 ∷ 4 unless fit
        ∷ structure_conditions a.words (leaf_count a)) (room ∙ ap (λ (c : Call). slices_fit (leaf_count c) (lengths_of c)) (sym (is_second a b same)))

    pub cause_same : conversion_cause a ≡ conversion_cause s
    unfolding conversion_conditions
    cause_same =
        behind_same (early a) (deep a) (deep s)
        (λ z. ap (λ (l : ℕ). 8 unless leb l 31 ∷ []) (levels_lem (prepared a.words (leaf_count a) a.limit (lengths_of a) z).accepted))
        ∙ ap (λ (l : List Condition). first_cause (l ++ deep s)) early_same

    answer_same : (k : ℕ) → conversion_cause a ≡ k → answer_for a k ≡ answer_for s k
    unfolding answer_for
    answer_same zero e =
        let h = (A.answered a (defined_nodes a) (deepest_level a) (A.answers_none a e)).none in
        ap₂ (λ (m d : ℕ). converted m d) (nodes_lem h.accepted) (levels_lem h.accepted)
    answer_same (suc k) e = refl

    -- Both calls answer the same, converted or refused, where both have room or neither has.
    pub ordering_same_conversion : (conversion_of a).answer ≡ (conversion_of b).answer
    unfolding conversion_of outcome_for
    ordering_same_conversion =
        by_second (λ c. (conversion_of a).answer ≡ (conversion_of c).answer)
        (answer_same (conversion_cause a) refl ∙ ap (answer_for s) cause_same)

  -- ---- walks over the records

  module _ (m d : ℕ) (answers : Answers a m d) (others : Answers s m d) where
    pub sized : SizedAlike (leaf_count a) (record_at a m) (list_at a) (record_at s m) (list_at s)
    sized = record {
      fit = sizes_fit_lem (good_record a m d answers);
      same_length = record_length a m d answers ∙ sym (record_length s m d others);
      list_length = list_long a m d answers;
      other_length = list_long s m d others;
    }

    alike : AllMetAlike (leaf_count a) (record_at a m) (list_at a) (record_at s m) (list_at s)
    unfolding index_list_of
    alike ray accepted =
        let h = (A.answered a m d answers).none in
        rw (record_is a m d answers, list_is a m d answers, record_is s m d others, list_is s m d others)
        (records_alike a.words a.indices a.limit h.small a.ordered b.ordered (leaf_count a) (decoded_lem a h.accepted)
        (left_good a m d answers) (left_good s m d others) accepted)

-- ---- of two answered calls

module _ (a b : Call) (same : SameTree a b) (m d : ℕ) (answers : Answers a m d) (others : Answers b m d) where
  abbrev second : Call
  second = second_call a b same

  second_answers : Answers second m d
  second_answers = subst (λ (c : Call). Answers c m d) (sym (is_second a b same)) others

  sizes : SizedAlike (leaf_count a) (record_at a m) (list_at a) (record_at second m) (list_at second)
  sizes = sized a b same m d answers second_answers

  all_alike : AllMetAlike (leaf_count a) (record_at a m) (list_at a) (record_at second m) (list_at second)
  all_alike = alike a b same m d answers second_answers

  module _ (ray : Ray) (accepted : AcceptedRay ray) where
    -- A ray meets the same panes, each as often,
    pub ordering_same_panes : SamePanes m a b ray
    ordering_same_panes =
        let p = (all_alike ray accepted).panes in
        by_second a b same (λ c. SamePanes m a c ray) (record { rearranged = p; as_often = (counts_perm _ _).0 p })

    -- after the same number of node tests,
    pub ordering_same_tests : SameTests m a b ray
    ordering_same_tests = by_second a b same (λ c. SameTests m a c ray) (all_alike ray accepted).tests

    -- any-hit's list names the same panes,
    pub ordering_same_lists : SameLists m a b ray
    ordering_same_lists = by_second a b same (λ c. SameLists m a c ray) (lists_alike sizes all_alike ray accepted)

    module _ (panes : List Float) (fine : Panes a.indices panes) where
      asked : (c : Call) → Answers c m d → a.indices ≡ c.indices → Asked (record_at c m) (list_at c) panes ray
      asked c h e = record {
        level = d;
        good = list_good c m d h;
        fine = list_panes c m d h panes (subst (λ (x : List ℕ). Panes x panes) e fine) ray accepted;
        accepted = accepted;
      }

      panes_rearranged : Perm (panes_met (list_at a) (positions_met (record_at a m) (length (list_at a)) ray))
          (panes_met (list_at b) (positions_met (record_at b m) (length (list_at b)) ray))
      panes_rearranged =
          rw (list_long a m d answers, list_long b m d others) ordering_same_panes.rearranged

    -- over panes without a fault miss answers the same,
    pub ordering_same_miss : SameMiss m a b ray
    ordering_same_miss panes fine =
        miss_alike (asked panes fine a answers refl) (asked panes fine b others same.indices) (panes_rearranged panes fine)

    -- and closest has a hit in both records, or in neither.
    pub ordering_same_hit : SameHit m a b ray
    ordering_same_hit panes fine =
        no_hit_alike (asked panes fine a answers refl) (asked panes fine b others same.indices) (panes_rearranged panes fine)

  -- Of any ray that a call asks for, refused or not, any-hit's answer
  pub ordering_same_answer : (beam : Beam) → SameAnyHit m a b (ray_from beam)
  ordering_same_answer beam = by_second a b same (λ c. SameAnyHit m a c (ray_from beam)) (any_hit_alike sizes all_alike beam)

  -- and its loss are the same,
  pub ordering_same_loss : (beam : Beam) → SameLoss m a b (ray_from beam)
  ordering_same_loss beam = by_second a b same (λ c. SameLoss m a c (ray_from beam)) (loss_alike sizes all_alike beam)

  -- and so is a report over any rays.
  pub ordering_same_report : SameReport m a b
  ordering_same_report = by_second a b same (λ c. SameReport m a c) (report_alike sizes all_alike)
