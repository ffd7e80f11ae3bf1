-- A query with a position in hand that is passed over goes on as without it: for any fields and masks of nodes, any rays and any query.
use mathlib.Core.Bool.{true}
use mathlib.Core.Path.{◌≡◌, refl, sym, ap, ◌∙◌}
use Prim.Native.Nat.{ℕ, zero, suc, ◌<◌}
use native.Mathlib.Omega.{arith}
use Rattle.walk.specs.Step as S
use Rattle.walk.specs.Queries.{Reaction}
use Rattle.walk.specs.Words.{Group, rest_of, first_position}
use Rattle.walk.specs.WordStep.{WalkerWords, SteppedWords, NodeWords, leaving, past_skips, turn_words, advance_words}
use Rattle.walk.specs.WordQueries.{follow_words, query_words}
use Rattle.walk.proofs.Words.{rest_lt, rest_past}
use Rattle.walk.proofs.WordEnds.{steps_left_words, ones_rest}
use Rattle.advance.proofs.Shows.{turn_is_step}
use Rattle.query.specs.Ending.{Ending, ending}
use Rattle.query.proofs.Leads.{Steady, OnWay, Leads, Goes}

module _ {RayData Distance a : Type 0} {m : ℕ} {N : NodeWords RayData Distance} {n : ℕ} {react : ℕ → RayData → a → Reaction Distance a}
    {goal : Ending a} {w : WalkerWords RayData} {x : a} (steady : Steady m N n) (L : Leads m N n react goal w x)
    (skipped : N.skips w.ray (first_position w.positions) ≡ true) (held : 0 < w.positions.bits) where
  -- the walker without it
  abbrev rest : WalkerWords RayData
  rest = record { ray = w.ray; tests = w.tests; positions = rest_of w.positions; current = w.current; depth = w.depth; stack = w.stack }

  way : OnWay m N rest
  way =
      let o = L.way in
      let i = o.range in
      record {
        accepted = o.accepted;
        tests = o.tests;
        deep = o.deep;
        range = record { positions = rest_lt w.positions i.positions; base = i.base; bits = i.bits; room = i.room; words = i.words };
      }

  same_past : past_skips N w ≡ past_skips N rest
  same_past =
      ap (λ (g : Group). record { ray = w.ray; tests = w.tests; positions = g; current = w.current; depth = w.depth; stack = w.stack })
      (rest_past (N.skips w.ray) w.positions skipped held L.way.range.positions)

  -- what follows a step from walker u, by the turn that both make
  abbrev follows : ℕ → WalkerWords RayData → SteppedWords RayData → Ending a
  follows f u r = ending (follow_words m N react r.answer (leaving u r.answer r.walker) x (query_words m N react f n))

  same_end : (f : ℕ) (r : SteppedWords RayData) → follows f rest r ≡ follows f w r
  same_end f r = go r.answer
    where
      go : (b : S.Answer)
          → ending (follow_words m N react b (leaving rest b r.walker) x (query_words m N react f n))
          ≡ ending (follow_words m N react b (leaving w b r.walker) x (query_words m N react f n))
      go (S.tested v) = refl
      go (S.position p) = refl
      go S.done = refl
      go (S.refused k) = refl

  -- by the step
  stepping : (f : ℕ) (u : WalkerWords RayData) → OnWay m N u → ending (query_words m N react (suc f) n u x)
      ≡ follows f u (turn_words m N n (past_skips N u))
  unfolding query_words advance_words
  stepping f u o =
      ap (λ (r : SteppedWords RayData). ending (follow_words m N react r.answer r.walker x (query_words m N react f n)))
      (turn_is_step m N n u steady.nodes steady.positions steady.some o.accepted o.deep o.tests)

  same_query : (k : ℕ) → steps_left_words m w < k → ending (query_words m N react k n rest x) ≡ ending (query_words m N react k n w x)
  same_query zero h = absurd (omega arith)
  same_query (suc f) h =
      stepping f rest way
      ∙ ap (λ (u : WalkerWords RayData). follows f rest (turn_words m N n u)) (sym same_past)
      ∙ same_end f (turn_words m N n (past_skips N w)) ∙ sym (stepping f w L.way)

  pub leads_skips : Goes m N n react goal w rest x
  leads_skips =
      let less : steps_left_words m rest < steps_left_words m w = omega (arith, ones_rest w.positions held L.way.range.positions) in
      record {
        leads = record { way = way; steps = L.steps; enough = omega (arith, L.enough, less); rest = same_query L.steps L.enough ∙ L.rest };
        less = less;
      }
