-- Conversion's answers, both ways: converted exactly if none of causes 1 to 7 holds and no level is over 31, refused 8 exactly if only a level is.
use mathlib.Core.Path.{◌≡◌, refl, ap}
use mathlib.Core.Logic.{◌↔◌}
use Prim.Native.Nat.{ℕ, zero, suc, ◌≤◌, ◌<◌}
use native.Mathlib.Decide.{dec_lt}
use native.Mathlib.Omega.{arith}
use Rattle.float.specs.Compare.{plus_zero}
use Rattle.causes.specs.Causes.{first_cause}
use Rattle.lists.specs.Splice.{splice}
use Rattle.cost.specs.Table.{word_of, cost_of}
use Rattle.bvh2_tables.specs.Call.{Call, leaf_count, lengths_of}
use Rattle.bvh2_tables.specs.Tables.{work_after}
use Rattle.bvh2_tables.proofs.Prepared.{prepared, prepared_none}
use Rattle.bvh2_to_cwbvh.specs.Conversion.{defined_record, defined_nodes, deepest_level, defined_list, Convertible, conversion_cause}
use Rattle.bvh2_to_cwbvh.specs.Conversion.{converted, refused, answer_for, output_after, Outcome, outcome_for, conversion_of}
use Rattle.bvh2_to_cwbvh.proofs.Endings.{early, cause_none, cause_eight, cause_early}

module _ (c : Call) where
  -- the outcome where there is no cause
  pub record Converts (m d : ℕ) : Type 0 where
    pub none : Convertible c
    pub low : deepest_level c ≤ 31
    pub nodes : m ≡ defined_nodes c
    pub level : d ≡ deepest_level c
    pub decisions : (conversion_of c).decisions ≡ work_after 0 (word_of c.limit) c.words (leaf_count c) 0 c.decisions
    pub costs : (conversion_of c).costs ≡ work_after plus_zero (cost_of c.limit) c.words (leaf_count c) 0 c.costs
    pub record_is : (conversion_of c).bytes ≡ splice c.bytes 0 (defined_record c)
    pub list_is : (conversion_of c).list ≡ splice c.list 0 (defined_list c)

  -- ---- the cause that an answer tells
  pub zero_cause : (k m d : ℕ) → answer_for c k ≡ converted m d → (k ≡ 0) × (m ≡ defined_nodes c) × (d ≡ deepest_level c)
  unfolding answer_for
  zero_cause zero m d e = (refl, (cc), (cc))
  zero_cause (suc k) m d e = let z : ◌≡◌ {A = ℕ} 0 1 = cc in absurd (omega arith)

  pub some_cause : (k r : ℕ) → answer_for c k ≡ refused r → (k ≡ r) × (0 < r)
  unfolding answer_for
  some_cause zero r e = let z : ◌≡◌ {A = ℕ} 0 1 = cc in absurd (omega arith)
  some_cause (suc k) r e = let f : suc k ≡ r = cc in (f, omega arith)

  pub cause_refuses : (k r : ℕ) → k ≡ r → 0 < r → answer_for c k ≡ refused r
  unfolding answer_for
  cause_refuses k zero e h = absurd (omega arith)
  cause_refuses k (suc r) e h = ap (answer_for c) e

  -- ---- which causes lie behind it
  early_none : conversion_cause c ≡ 0 → first_cause (early c) ≡ 0
  early_none e = pick (first_cause (early c)) refl
    where
      pick : (k : ℕ) → first_cause (early c) ≡ k → first_cause (early c) ≡ 0
      pick zero f = f
      pick (suc k) f = absurd (omega (arith, cause_early c (first_cause (early c)) refl (λ z. omega (arith, z, f)), e, f))

  low_none : first_cause (early c) ≡ 0 → conversion_cause c ≡ 0 → deepest_level c ≤ 31
  low_none f e = pick (dec_lt 31 (deepest_level c))
    where
      pick : Dec (31 < deepest_level c) → deepest_level c ≤ 31
      pick (yes h) = absurd (omega (arith, e, cause_eight c f h))
      pick (no h) = omega arith

  -- ---- converted
  converts : (m d : ℕ) → conversion_cause c ≡ 0 → m ≡ defined_nodes c → d ≡ deepest_level c → Converts m d
  unfolding conversion_of outcome_for output_after
  converts m d e p q =
      let o = ap (outcome_for c) e in
      record {
        none = prepared c.words (leaf_count c) c.limit (lengths_of c) (early_none e);
        low = low_none (early_none e) e;
        nodes = p;
        level = q;
        decisions = ap (λ (x : Outcome). x.decisions) o;
        costs = ap (λ (x : Outcome). x.costs) o;
        record_is = ap (λ (x : Outcome). x.bytes) o;
        list_is = ap (λ (x : Outcome). x.list) o;
      }

  pub answered : (m d : ℕ) → (conversion_of c).answer ≡ converted m d → Converts m d
  unfolding conversion_of outcome_for
  answered m d e = let z = zero_cause (conversion_cause c) m d e in converts m d z.0 z.1 z.2

  pub answers_none : conversion_cause c ≡ 0 → (conversion_of c).answer ≡ converted (defined_nodes c) (deepest_level c)
  unfolding conversion_of outcome_for answer_for
  answers_none e = ap (answer_for c) e

  pub convertible_none : Convertible c → first_cause (early c) ≡ 0
  convertible_none = prepared_none c.words (leaf_count c) c.limit (lengths_of c)

  pub answers : Convertible c → deepest_level c ≤ 31 → (conversion_of c).answer ≡ converted (defined_nodes c) (deepest_level c)
  answers h l = answers_none (cause_none c (convertible_none h) l)

  -- ---- refused 8
  pub refused_eight : Convertible c → (conversion_of c).answer ≡ refused 8 ↔ 31 < deepest_level c
  unfolding conversion_of outcome_for answer_for
  refused_eight h = (to, λ l. ap (answer_for c) (cause_eight c (convertible_none h) l))
    where
      to : answer_for c (conversion_cause c) ≡ refused 8 → 31 < deepest_level c
      to e = pick (dec_lt 31 (deepest_level c)) (some_cause (conversion_cause c) 8 e)
        where
          pick : Dec (31 < deepest_level c) → (conversion_cause c ≡ 8) × (0 < 8) → 31 < deepest_level c
          pick (yes l) k = l
          pick (no l) k = absurd (omega (arith, k.0, cause_none c (convertible_none h) (omega arith)))

  -- ---- refused, for the first cause
  pub refused_cause : (k : ℕ) → (conversion_of c).answer ≡ refused k ↔ ((conversion_cause c ≡ k) × (0 < k))
  unfolding conversion_of outcome_for
  refused_cause k = (some_cause (conversion_cause c) k, λ h. cause_refuses (conversion_cause c) k h.0 h.1)

  -- the slices then: the outputs as they were, the working slices as they were for causes 1 to 4, else cleared
  pub record Kept (o : Outcome) (k : ℕ) : Type 0 where
    pub decisions : o.decisions ≡ work_after 0 (word_of c.limit) c.words (leaf_count c) k c.decisions
    pub costs : o.costs ≡ work_after plus_zero (cost_of c.limit) c.words (leaf_count c) k c.costs
    pub bytes_kept : o.bytes ≡ c.bytes
    pub list_kept : o.list ≡ c.list

  pub cause_keeps : (o : Outcome) (k : ℕ) → o ≡ outcome_for c k → 0 < k → Kept o k
  unfolding outcome_for output_after
  cause_keeps o zero e h = absurd (omega arith)
  cause_keeps o (suc k) e h = record {
    decisions = ap (λ (x : Outcome). x.decisions) e;
    costs = ap (λ (x : Outcome). x.costs) e;
    bytes_kept = ap (λ (x : Outcome). x.bytes) e;
    list_kept = ap (λ (x : Outcome). x.list) e;
  }

  pub refused_keeps : (k : ℕ) → (conversion_of c).answer ≡ refused k → Kept (conversion_of c) k
  unfolding conversion_of
  refused_keeps k e = let h = (refused_cause k).0 e in cause_keeps (conversion_of c) k (ap (outcome_for c) h.0) h.1
