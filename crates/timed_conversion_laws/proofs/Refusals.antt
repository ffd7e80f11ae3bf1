-- The timed conversion beside the untimed one: where it is the same; the number refused is the first cause's, in the order of causes; and what each
-- refusal leaves in the five slices.
use mathlib.Core.Bool.{Bool, true, false, ◌&&◌}
use mathlib.Core.List.{List}
use mathlib.Core.Logic.{◌↔◌}
use mathlib.Core.Path.{◌≡◌, refl, sym, ◌∙◌}
use Prim.Native.Nat.{ℕ, zero, suc, ◌≤◌, ◌<◌}
use native.Mathlib.Omega.{arith}
use borrow.Author.Tests.{lt-leb, leb-false, ltb-false}
use lib.Dec.{T, leb, ltb}
use lib.ListN.{length, get_or}
use Rattle.lists.specs.Below.{all_below}
use Rattle.lists.proofs.Tells.{Tells, tells_false, and_tells, ltb_tells, below_tells, where_fails}
use Rattle.causes.specs.Causes.{Condition, order, place_in, place_of}
use Rattle.causes.proofs.Causes.{sorted}
use Rattle.causes.proofs.First.{Shows, Fails, shows_as, first_none, first_is}
use Rattle.float.specs.Compare.{plus_zero}
use Rattle.span.specs.Span.{spans_fit}
use Rattle.bvh2.specs.FirstCause.{size_conditions, structure_conditions}
use Rattle.cost.specs.Table.{word_of, cost_of}
use Rattle.bvh2_tables.specs.Call.{Call, Lengths, leaf_count, lengths_of}
use Rattle.bvh2_tables.specs.Tables.{table_size, prepare_conditions, cleared}
use Rattle.bvh2_tables.proofs.Causes.{work_kept, work_cleared}
use Rattle.bvh2_to_cwbvh.specs.Conversion.{defined_nodes, deepest_level, refused, conversion_conditions, conversion_of}
use Rattle.bvh2_to_cwbvh_timed.specs.TimedConversion.{TimedCall, side_size, panes_fit, put_in_order, timed_conversion_conditions, timed_conversion_of}
use Rattle.bvh2_to_cwbvh_timed.proofs.InOrder.{shows_put, fails_put, fails_beside}
use Rattle.bvh2_to_cwbvh_timed.proofs.Cause.{panes, room}
use Rattle.bvh2_to_cwbvh_timed.proofs.Answers as A
use Rattle.demands.specs.Refusals.{Refusal}
use Rattle.demands.proofs.Refusals.{all_shows, fails}
use Rattle.timed_conversion_laws.specs.TimedCall.{TimedAnswers}
use Rattle.timed_conversion_laws.specs.TimedRefusals.{TimedRefusal, untimed_refused, side_short, spans_refused, no_pane, FirstTimedRefusal}
use Rattle.timed_conversion_laws.proofs.Spans.{AllFit, all_tell, spans_sound, spans_show}

-- ---- the conditions stand in order, with or without leaves
in_order_lem : (r p : Bool) (ws : List ℕ) (n limit : ℕ) (ordered : Bool) (l : Lengths)
    → T (sorted 0 (put_in_order 4 r (put_in_order 14 p (conversion_conditions ws n limit ordered l))))
unfolding conversion_conditions prepare_conditions size_conditions structure_conditions put_in_order sorted place_of order place_in
in_order_lem r p ws zero limit ordered l = tt
in_order_lem r p ws (suc n) limit ordered l = tt

module _ (c : TimedCall) where
  abbrev call : Call
  call = c.untimed

  abbrev n : ℕ
  n = leaf_count call

  abbrev untimed : List Condition
  untimed = conversion_conditions call.words n call.limit call.ordered (lengths_of call)

  -- ---- whether the panes fit
  abbrev named : ℕ → Bool
  named i = ltb (get_or call.indices i 0) c.panes

  abbrev AllNamed : Type 0
  AllNamed = (i : ℕ) → i < n → get_or call.indices i 0 < c.panes

  panes_tell : Tells (AllFit c.panes c.spans × AllNamed) (panes c)
  unfolding panes_fit
  panes_tell =
      and_tells (all_tell c.panes c.spans)
      (below_tells (λ i. get_or call.indices i 0 < c.panes) named (λ i. ltb_tells (get_or call.indices i 0) c.panes) n)

  panes_show : panes c ≡ false → TimedRefusal c 14
  unfolding panes_fit
  panes_show = go (spans_fit c.panes c.spans) refl
    where
      go : (b : Bool) → spans_fit c.panes c.spans ≡ b → b && all_below named n ≡ false → TimedRefusal c 14
      go true f e = let u = where_fails named n e in no_pane u.0 u.1 (omega (arith, ltb-false (get_or call.indices u.0 0) c.panes u.2))
      go false f e = spans_refused (spans_show c.panes c.spans f)

  -- ---- a test that fails shows its cause, and a cause that holds makes a test fail
  shown : Shows (TimedRefusal c) (timed_conversion_conditions c)
  unfolding timed_conversion_conditions
  shown =
      shows_put (TimedRefusal c) 4 (room c) (put_in_order 14 (panes c) untimed) (λ e. side_short (leb-false (side_size n) (length c.side) e))
      (shows_put (TimedRefusal c) 14 (panes c) untimed panes_show
      (shows_as (Refusal call) (TimedRefusal c) (λ k. untimed_refused) untimed (all_shows call)))

  panes_fail : (j : ℕ) → T (leb (place_of 14) (place_of j)) → panes c ≡ false → Fails j (timed_conversion_conditions c)
  unfolding timed_conversion_conditions
  panes_fail j t e = fails_beside j 4 (room c) (put_in_order 14 (panes c) untimed) (fails_put j 14 (panes c) untimed e t)

  met : (j : ℕ) → TimedRefusal c j → Fails j (timed_conversion_conditions c)
  unfolding timed_conversion_conditions place_of order place_in
  met j (untimed_refused r) =
      fails_beside j 4 (room c) (put_in_order 14 (panes c) untimed) (fails_beside j 14 (panes c) untimed (fails call j r))
  met j (side_short h) = fails_put 4 4 (room c) (put_in_order 14 (panes c) untimed) (lt-leb (side_size n) (length c.side) h) tt
  met j (spans_refused r) = panes_fail 14 tt (tells_false panes_tell (λ h. spans_sound c.panes c.spans h.0 r))
  met j (no_pane i l h) = panes_fail 14 tt (tells_false panes_tell (λ f. omega (arith, f.1 i l, h)))

  ordered : T (sorted 0 (timed_conversion_conditions c))
  unfolding timed_conversion_conditions
  ordered = in_order_lem (room c) (panes c) call.words n call.limit call.ordered (lengths_of call)

  -- ---- the first cause
  -- The call is refused with the number of the first cause that holds,
  pub timed_refused_first : (k : ℕ) → (timed_conversion_of c).untimed.answer ≡ refused k ↔ FirstTimedRefusal c k
  timed_refused_first k =
      let r = A.timed_refused_cause c k in
      let f = first_is (TimedRefusal c) (timed_conversion_conditions c) ordered shown met k in
      (λ e. f.0 (r.0 e), λ h. r.1 (f.1 h))

  -- and answered exactly if none does.
  pub timed_answered_none : (m d : ℕ) → TimedAnswers c m d → (j : ℕ) → TimedRefusal c j → ⊥
  timed_answered_none m d e = (first_none (TimedRefusal c) (timed_conversion_conditions c) ordered shown met).0 (A.timed_no_cause c m d e)

  pub timed_none_answered : ((j : ℕ) → TimedRefusal c j → ⊥) → TimedAnswers c (defined_nodes call) (deepest_level call)
  timed_none_answered h = A.timed_answers c ((first_none (TimedRefusal c) (timed_conversion_conditions c) ordered shown met).1 h)

  -- ---- beside the untimed conversion
  room_passes : (TimedRefusal c 4 → ⊥) → room c ≡ true
  room_passes h = go (room c) refl
    where
      go : (b : Bool) → room c ≡ b → room c ≡ true
      go true e = e
      go false e = absurd (h (side_short (leb-false (side_size n) (length c.side) e)))

  -- where 14 does not hold the panes fit
  pub panes_pass : (TimedRefusal c 14 → ⊥) → panes c ≡ true
  panes_pass h = go (panes c) refl
    where
      go : (b : Bool) → panes c ≡ b → panes c ≡ true
      go true e = e
      go false e = absurd (h (panes_show e))

  -- Where neither cause 4 nor cause 14 holds, its answer, record, index list and tables are those of the untimed conversion of the same call.
  pub timed_conversion : (TimedRefusal c 4 → ⊥) → (TimedRefusal c 14 → ⊥) → (timed_conversion_of c).untimed ≡ conversion_of call
  timed_conversion four fourteen = A.timed_alike c (room_passes four) (panes_pass fourteen)

  -- ---- what a refusal leaves
  module _ (k : ℕ) (e : (timed_conversion_of c).untimed.answer ≡ refused k) where
    -- It leaves the three outputs as they were: the record, the index list and the side table;
    pub timed_outputs_stay : let o = timed_conversion_of c in
        (o.untimed.bytes ≡ call.bytes) × (o.untimed.list ≡ call.list) × (o.side ≡ c.side)
    timed_outputs_stay = let r = A.timed_keeps c k e in (r.bytes_kept, r.list_kept, A.side_stays c k e)

    -- one of 1 to 4 the working slices too,
    pub timed_working_slices_stay : k ≤ 4 → let o = (timed_conversion_of c).untimed in
        (o.decisions ≡ call.decisions) × (o.costs ≡ call.costs)
    timed_working_slices_stay l =
        let r = A.timed_keeps c k e in
        let p = ((A.timed_refused_cause c k).0 e).1 in (
          r.decisions ∙ sym (work_kept 0 (word_of call.limit) call.words n k call.decisions p l),
          r.costs ∙ sym (work_kept plus_zero (cost_of call.limit) call.words n k call.costs p l),
        )

    -- and one of 5 to 8 or 14 zeroes the part of them that is needed.
    pub timed_working_slices_cleared : 5 ≤ k → let o = (timed_conversion_of c).untimed in
        (o.decisions ≡ cleared 0 (table_size n) call.decisions) × (o.costs ≡ cleared plus_zero (table_size n) call.costs)
    timed_working_slices_cleared l =
        let r = A.timed_keeps c k e in (
          r.decisions ∙ work_cleared 0 (word_of call.limit) call.words n k call.decisions l,
          r.costs ∙ work_cleared plus_zero (cost_of call.limit) call.words n k call.costs l,
        )
