-- The number refused is the first cause's, in the order of causes; and what each refusal leaves.
use mathlib.Core.Bool.{Bool, true, false}
use mathlib.Core.List.{List}
use mathlib.Core.Logic.{◌⊎◌, inl, inr, ◌↔◌}
use mathlib.Core.Path.{◌≡◌, refl, sym, ◌∙◌}
use Prim.Native.Nat.{ℕ, zero, suc, ◌≤◌, ◌<◌}
use native.Mathlib.Decide.{dec_lt}
use native.Mathlib.Omega.{arith}
use lib.Dec.{T, leb}
use lib.ListN.{length}
use borrow.Author.Tests.{lt-leb, leb-false}
use Rattle.lists.proofs.Tells.{clash}
use Rattle.causes.specs.Causes.{Condition, first_cause, place_of}
use Rattle.causes.proofs.Causes.{sorted, all_numbers}
use Rattle.causes.proofs.First.{Shows, Fails, shows_append, shows_as, fails_first, fails_later, fails_parts, found_fails, first_none, first_is}
use Rattle.bvh2.specs.Causes.{Cause}
use Rattle.bvh2.specs.FirstCause.{size_conditions, structure_conditions}
use Rattle.bvh2.proofs.First.{sizes_show, structure_shows, cause_fails}
use Rattle.float.specs.Compare.{plus_zero}
use Rattle.cost.specs.Table.{word_of, cost_of}
use Rattle.bvh2_tables.specs.Call.{Lengths, lengths_of}
use Rattle.bvh2_tables.specs.Tables.{table_size, record_size, slices_fit, prepare_conditions, cleared}
use Rattle.bvh2_tables.proofs.Room.{room_parts, room_enough}
use Rattle.bvh2_tables.proofs.Causes.{rest, work_kept, work_cleared}
use Rattle.bvh2_tables.proofs.Prepared.{prepared, passed_prepared}
use Rattle.bvh2_to_cwbvh.specs.Conversion.{refused, conversion_conditions, conversion_of}
use Rattle.bvh2_to_cwbvh.proofs.Endings.{early, last, cause_none}
use Rattle.bvh2_to_cwbvh.proofs.Answers as A
use Rattle.demands.specs.Call.{Call, Answers, leaf_count, defined_nodes, deepest_level, Convertible}
use Rattle.demands.specs.Refusals.{Refusal, tree_refused, limit_over, decisions_short, costs_short, bytes_short, list_short, level_over}
use Rattle.demands.specs.Refusals.{FirstRefusal}
use Rattle.demands.proofs.Levels.{over_deepest}

-- ---- the list of conditions, with or without leaves
in_order_lem : (ws : List ℕ) (n limit : ℕ) (ordered : Bool) (l : Lengths) → T (sorted 0 (conversion_conditions ws n limit ordered l))
unfolding conversion_conditions size_conditions structure_conditions sorted
in_order_lem ws zero limit ordered l = tt
in_order_lem ws (suc n) limit ordered l = tt

none_after_eight : (ws : List ℕ) (n limit : ℕ) (l : Lengths) → T (all_numbers (λ k. leb (place_of k) (place_of 8)) (prepare_conditions ws n limit l))
unfolding prepare_conditions size_conditions structure_conditions all_numbers place_of
none_after_eight ws zero limit l = tt
none_after_eight ws (suc n) limit l = tt

-- some slice is too short
abbrev Short : ℕ → Lengths → Type 0
Short n l = (l.decisions < table_size n) ⊎ ((l.costs < table_size n) ⊎ ((l.bytes < record_size n) ⊎ (l.list < n)))

-- where there is no room one is,
short : (n : ℕ) (l : Lengths) → slices_fit n l ≡ false → Short n l
short n l e = pick (dec_lt l.decisions (table_size n)) (dec_lt l.costs (table_size n)) (dec_lt l.bytes (record_size n)) (dec_lt l.list n)
  where
    pick : Dec (l.decisions < table_size n) → Dec (l.costs < table_size n) → Dec (l.bytes < record_size n) → Dec (l.list < n) → Short n l
    pick (yes p) q r t = inl p
    pick (no p) (yes q) r t = inr (inl q)
    pick (no p) (no q) (yes r) t = inr (inr (inl r))
    pick (no p) (no q) (no r) (yes t) = inr (inr (inr t))
    pick (no p) (no q) (no r) (no t) = clash (sym e ∙ room_enough n l (omega arith) (omega arith) (omega arith) (omega arith))

-- and the test fails where one is
lacking : (n : ℕ) (l : Lengths)
    → ((table_size n ≤ l.decisions) × (table_size n ≤ l.costs) × (record_size n ≤ l.bytes) × (n ≤ l.list) → ⊥) → slices_fit n l ≡ false
lacking n l h = go (slices_fit n l) refl
  where
    go : (b : Bool) → slices_fit n l ≡ b → slices_fit n l ≡ false
    go true e = absurd (h (room_parts n l e))
    go false e = e

module _ (c : Call) where
  abbrev n : ℕ
  n = leaf_count c

  -- the conditions, and the parts of which they are made
  abbrev all : List Condition
  all = conversion_conditions c.words n c.limit c.ordered (lengths_of c)

  abbrev sizes : List Condition
  sizes = size_conditions (length c.words) n

  abbrev others : List Condition
  others = rest c.words n c.limit (lengths_of c)

  -- ---- a test that fails shows its cause
  room_shows : slices_fit n (lengths_of c) ≡ false → Refusal c 4
  room_shows e = pick (short n (lengths_of c) e)
    where
      pick : Short n (lengths_of c) → Refusal c 4
      pick (inl p) = decisions_short p
      pick (inr (inl p)) = costs_short p
      pick (inr (inr (inl p))) = bytes_short p
      pick (inr (inr (inr p))) = list_short p

  early_shows : Shows (Refusal c) (early c)
  unfolding prepare_conditions
  early_shows =
      let of_Tree = shows_as (Cause c.words n) (Refusal c) (λ k. tree_refused) in
      shows_append (Refusal c) sizes others (of_Tree sizes (sizes_show c.words n))
      (λ p. (
        λ e. limit_over (leb-false c.limit 3 e),
        λ q.
            (room_shows, λ r. of_Tree (structure_conditions c.words n) (structure_shows c.words n)),
      ))

  pub all_shows : Shows (Refusal c) all
  unfolding conversion_conditions
  all_shows =
      shows_append (Refusal c) (early c) (last c) early_shows
      (λ p. let h = passed_prepared c.words n c.limit (lengths_of c) p in
      (λ e. level_over h.accepted ((over_deepest c h).1 (leb-false (deepest_level c) 31 e)), λ q. tt))

  -- ---- a cause that holds makes a test fail, no later than its own
  early_fails : (j : ℕ) → Fails j (early c) → Fails j all
  unfolding conversion_conditions
  early_fails j = fails_first j (early c) (last c)

  tree_fails : (k : ℕ) → Cause c.words n k → Fails k (early c)
  unfolding prepare_conditions
  tree_fails k q = pick (fails_parts k sizes (structure_conditions c.words n) (cause_fails c.words n k q))
    where
      pick : Fails k sizes ⊎ Fails k (structure_conditions c.words n) → Fails k (early c)
      pick (inl f) = fails_first k sizes others f
      pick (inr f) = fails_later k sizes others (inr (inr f))

  limit_fails : 3 < c.limit → Fails 3 (early c)
  unfolding prepare_conditions place_of
  limit_fails h = fails_later 3 sizes others (inl (lt-leb c.limit 3 h, tt))

  room_fails : slices_fit n (lengths_of c) ≡ false → Fails 4 (early c)
  unfolding prepare_conditions place_of
  room_fails e = fails_later 4 sizes others (inr (inl (e, tt)))

  -- a level over 31 is looked for only where none of the other tests fails
  level_fails : (Convertible c → 31 < deepest_level c) → Fails 8 all
  unfolding conversion_conditions place_of
  level_fails h = go (first_cause (early c)) refl
    where
      go : (k : ℕ) → first_cause (early c) ≡ k → Fails 8 all
      go zero e = fails_later 8 (early c) (last c) (inl (lt-leb (deepest_level c) 31 (h (prepared c.words n c.limit (lengths_of c) e)), tt))
      go (suc k) e = early_fails 8 (found_fails 8 (early c) (none_after_eight c.words n c.limit (lengths_of c)) (λ z. omega (arith, e, z)))

  pub fails : (j : ℕ) → Refusal c j → Fails j all
  fails j (tree_refused q) = early_fails j (tree_fails j q)
  fails j (limit_over h) = early_fails 3 (limit_fails h)
  fails j (decisions_short h) = early_fails 4 (room_fails (lacking n (lengths_of c) (λ r. omega (arith, h, r.0))))
  fails j (costs_short h) = early_fails 4 (room_fails (lacking n (lengths_of c) (λ r. omega (arith, h, r.1))))
  fails j (bytes_short h) = early_fails 4 (room_fails (lacking n (lengths_of c) (λ r. omega (arith, h, r.2))))
  fails j (list_short h) = early_fails 4 (room_fails (lacking n (lengths_of c) (λ r. omega (arith, h, r.3))))
  fails j (level_over a h) = level_fails (λ p. (over_deepest c p).0 h)

  -- ---- the first cause
  ordered : T (sorted 0 all)
  ordered = in_order_lem c.words n c.limit c.ordered (lengths_of c)

  -- The call is refused with the number of the first cause that holds,
  pub refused_first : (k : ℕ) → (conversion_of c).answer ≡ refused k ↔ FirstRefusal c k
  refused_first k =
      let r = A.refused_cause c k in
      let f = first_is (Refusal c) all ordered all_shows fails k in
      (λ e. f.0 (r.0 e), λ h. r.1 (f.1 h))

  -- and answered exactly if none does.
  pub answered_none : (m d : ℕ) → Answers c m d → (j : ℕ) → Refusal c j → ⊥
  answered_none m d e =
      let a = A.answered c m d e in
      (first_none (Refusal c) all ordered all_shows fails).0 (cause_none c (A.convertible_none c a.none) a.low)

  pub none_answered : ((j : ℕ) → Refusal c j → ⊥) → Answers c (defined_nodes c) (deepest_level c)
  none_answered h = A.answers_none c ((first_none (Refusal c) all ordered all_shows fails).1 h)

  -- A refusal leaves both outputs as they were;
  pub outputs_stay : (k : ℕ) → (conversion_of c).answer ≡ refused k → ((conversion_of c).bytes ≡ c.bytes) × ((conversion_of c).list ≡ c.list)
  outputs_stay k e =
      let r = A.refused_keeps c k e in
      (r.bytes_kept, r.list_kept)

  -- one of 1 to 4 the working slices too,
  pub working_slices_stay : (k : ℕ) → (conversion_of c).answer ≡ refused k → k ≤ 4
      → ((conversion_of c).decisions ≡ c.decisions) × ((conversion_of c).costs ≡ c.costs)
  working_slices_stay k e l =
      let r = A.refused_keeps c k e in
      let p = ((A.refused_cause c k).0 e).1 in (
        r.decisions ∙ sym (work_kept 0 (word_of c.limit) c.words n k c.decisions p l),
        r.costs ∙ sym (work_kept plus_zero (cost_of c.limit) c.words n k c.costs p l),
      )

  -- and one of 5 to 8 zeroes the part of them that is needed.
  pub working_slices_cleared : (k : ℕ) → (conversion_of c).answer ≡ refused k → 5 ≤ k
      → ((conversion_of c).decisions ≡ cleared 0 (table_size n) c.decisions) × ((conversion_of c).costs ≡ cleared plus_zero (table_size n) c.costs)
  working_slices_cleared k e l =
      let r = A.refused_keeps c k e in (
        r.decisions ∙ work_cleared 0 (word_of c.limit) c.words n k c.decisions l,
        r.costs ∙ work_cleared plus_zero (cost_of c.limit) c.words n k c.costs l,
      )
