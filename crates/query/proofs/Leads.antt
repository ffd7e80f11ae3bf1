-- Queries as loops over positions: what is left of a query, run from the walker that a loop holds and with what it has noted, gives the query's
-- outcome.
-- For any fields and masks of nodes, any rays and any query.
use mathlib.Core.Bool.{true, false, ◌&&◌, cond}
use mathlib.Core.List.{List, [], ◌∷◌}
use mathlib.Core.Path.{◌≡◌, refl, sym, ap, ◌∙◌, subst}
use Prim.Native.Nat.{ℕ, zero, suc, ◌≤◌, ◌<◌}
use native.Mathlib.Omega.{arith}
use lib.Dec.{eqb}
use borrow.Author.Tests.{le-leb, lt-leb, lt-ltb, eqb-true}
use Rattle.faststack.specs.Stack.{capacity}
use Rattle.walk.specs.Step as S
use Rattle.walk.specs.Queries.{Reaction, Going}
use Rattle.walk.specs.Words.{Group, first_position}
use Rattle.walk.specs.WordStep.{WalkerWords, SteppedWords, NodeWords, WordsFit, is_test, finds_none, stay_words, after_report_words, tell_words}
use Rattle.walk.specs.WordStep.{report_words, turn_words, advance_words, seek_words, step_words}
use Rattle.walk.specs.WordQueries.{OutcomeWords, told_all_words, follow_words, query_words}
use Rattle.walk.proofs.Cases.{cond_elim}
use Rattle.walk.proofs.Words.{AtFront, empty_front, front_stays}
use Rattle.walk.proofs.WordKept.{unskipped_turn}
use Rattle.walk.proofs.WordEnds.{steps_left_words}
use Rattle.advance.proofs.Shows.{Shows, turn_shows, turn_is_step}
use Rattle.query.specs.Ending.{Ending, ending}

-- what a loop over turns leans on: a step leaves words in range and lowers the number of steps left, and telling makes no ray forged
pub record Steady {RayData Distance : Type 0} (m : ℕ) (N : NodeWords RayData Distance) (n : ℕ) : Type 0 where
  pub some : 0 < m
  pub nodes : m ≤ 65535
  pub positions : n ≤ 65536
  pub range : (w : WalkerWords RayData) → WordsFit w → WordsFit (step_words m N n w).walker
  pub falls : (w : WalkerWords RayData) → WordsFit w → Going (step_words m N n w).answer
      → steps_left_words m (step_words m N n w).walker < steps_left_words m w
  pub told : (x : Distance) (r : RayData) → N.forged r ≡ false → N.forged (N.told x r) ≡ false

-- a walker on its way: it is not forged, and its words are in range
pub record OnWay {RayData Distance : Type 0} (m : ℕ) (N : NodeWords RayData Distance) (w : WalkerWords RayData) : Type 0 where
  pub accepted : N.forged w.ray ≡ false
  pub tests : w.tests ≤ m
  pub deep : w.depth ≤ capacity
  pub range : WordsFit w

-- from this walker, with x noted, the query ends as the goal says, with steps to spare
pub record Leads {RayData Distance a : Type 0} (m : ℕ) (N : NodeWords RayData Distance) (n : ℕ) (react : ℕ → RayData → a → Reaction Distance a)
    (goal : Ending a)
    (w : WalkerWords RayData) (x : a) : Type 0 where
  pub way : OnWay m N w
  pub steps : ℕ
  pub enough : steps_left_words m w < steps
  pub rest : ending (query_words m N react steps n w x) ≡ goal

-- the query goes on from walker w, with y noted and fewer steps left than from u
pub record Goes {RayData Distance a : Type 0} (m : ℕ) (N : NodeWords RayData Distance) (n : ℕ) (react : ℕ → RayData → a → Reaction Distance a)
    (goal : Ending a)
    (u w : WalkerWords RayData) (y : a) : Type 0 where
  pub leads : Leads m N n react goal w y
  pub less : steps_left_words m w < steps_left_words m u

-- ---- telling

module _ {RayData Distance : Type 0} (m : ℕ) (N : NodeWords RayData Distance) (n : ℕ) (steady : Steady m N n) where
  told_way : (l : List Distance) (w : WalkerWords RayData) → OnWay m N w → OnWay m N (told_all_words N l w)
  told_way [] w o = o
  told_way (t ∷ l) w o =
      let i = o.range in
      told_way l (tell_words N t w)
      (record {
        accepted = steady.told t w.ray o.accepted;
        tests = o.tests;
        deep = o.deep;
        range = record { positions = i.positions; base = i.base; bits = i.bits; room = i.room; words = i.words };
      })

  told_left : (l : List Distance) (w : WalkerWords RayData) → steps_left_words m (told_all_words N l w) ≡ steps_left_words m w
  told_left [] w = refl
  told_left (t ∷ l) w = told_left l (tell_words N t w)

-- ---- a turn of a walker on its way

module _ {RayData Distance a : Type 0} {m : ℕ} {N : NodeWords RayData Distance} {n : ℕ} {react : ℕ → RayData → a → Reaction Distance a}
    {goal : Ending a} {w : WalkerWords RayData} {x : a}
    (steady : Steady m N n) (L : Leads m N n react goal w x) where
  abbrev o : OnWay m N w
  o = L.way

  is_step : step_words m N n w ≡ advance_words m N n w
  is_step = turn_is_step m N n w steady.nodes steady.positions steady.some o.accepted o.deep o.tests

  -- what follows the turn, with so many steps
  record Follows (r : SteppedWords RayData) : Type 0 where
    pub spare : ℕ
    pub enough : steps_left_words m w ≤ spare
    pub rest : ending (follow_words m N react r.answer r.walker x (query_words m N react spare n)) ≡ goal

  module _ (r : SteppedWords RayData) (e : r ≡ advance_words m N n w) where
    follows : Follows r
    unfolding query_words
    follows = go L.steps L.enough L.rest
      where
        go : (k : ℕ) → steps_left_words m w < k → ending (query_words m N react k n w x) ≡ goal → Follows r
        go zero h p = absurd (omega arith)
        go (suc f) h p = record {
          spare = f;
          enough = omega arith;
          rest = ap (λ (u : SteppedWords RayData). ending (follow_words m N react u.answer u.walker x (query_words m N react f n)))
              (e ∙ sym is_step) ∙ p;
        }

    shown : Shows m N n w r.answer r.walker
    shown = subst (λ (q : SteppedWords RayData). Shows m N n w q.answer q.walker) (sym e) (turn_shows m N n w o.deep)

    in_range_lem : WordsFit r.walker
    in_range_lem = subst (λ (q : SteppedWords RayData). WordsFit q.walker) (is_step ∙ sym e) (steady.range w o.range)

    falls : Going r.answer → steps_left_words m r.walker < steps_left_words m w
    falls = subst (λ (q : SteppedWords RayData). Going q.answer → steps_left_words m q.walker < steps_left_words m w) (is_step ∙ sym e)
        (steady.falls w o.range)

  -- ---- a position in hand

  -- which is absent, and not passed over, refuses the query
  pub leads_absent : AtFront (N.skips w.ray) w.positions → N.absent w.ray (first_position w.positions) ≡ true → 0 < w.positions.bits
      → record { noted = x; tests = w.tests; ended = S.refused 10 } ≡ goal
  unfolding turn_words
  leads_absent front gone held =
      let e : stay_words w (S.refused 10) ≡ advance_words m N n w = rw (unskipped_turn m N n w front, lt-ltb 0 w.positions.bits held, gone) refl in
      (follows _ e).rest

  -- which is neither passed over nor absent
  module _ (front : AtFront (N.skips w.ray) w.positions) (present : N.absent w.ray (first_position w.positions) ≡ false)
      (held : 0 < w.positions.bits) (p : ℕ) (named : p ≡ first_position w.positions) where
    is_due : report_words n w ≡ advance_words m N n w
    unfolding turn_words
    is_due = rw (unskipped_turn m N n w front, lt-ltb 0 w.positions.bits held, present)

    -- one past the n refuses the query
    pub leads_past : n ≤ p → record { noted = x; tests = w.tests; ended = S.refused 10 } ≡ goal
    unfolding report_words
    leads_past h =
        let e : stay_words w (S.refused 10) ≡ report_words n w = rw (← named, le-leb n p h) in
        (follows _ (e ∙ is_due)).rest

    module _ (there : p < n) where
      -- the walker after its report
      abbrev reported : WalkerWords RayData
      reported = (after_report_words w).walker

      is_report : record { walker = reported; answer = S.position p } ≡ advance_words m N n w
      unfolding report_words
      is_report = let e : record { walker = reported; answer = S.position p } ≡ report_words n w = rw (← named, lt-leb n p there) in e ∙ is_due

      -- what follows the report, by the reaction, with f steps
      followed : ℕ → Reaction Distance a → OutcomeWords RayData a
      followed f r =
          let u = told_all_words N r.tells reported in
          cond r.stop (record { walker = u; accumulator = r.accumulator; ended = S.position p }) (query_words m N react f n u r.accumulator)

      -- the query stops there,
      pub leads_stops : {y : a} {ds : List Distance} → react p w.ray x ≡ record { accumulator = y; tells = ds; stop = true }
          → ending (record { walker = told_all_words N ds reported; accumulator = y; ended = S.position p }) ≡ goal
      unfolding followed
      leads_stops q = let g = follows _ is_report in ap (λ (r : Reaction Distance a). ending (followed g.spare r)) (sym q) ∙ g.rest

      -- or goes on
      pub leads_on : {y : a} {ds : List Distance} → react p w.ray x ≡ record { accumulator = y; tells = ds; stop = false }
          → Goes m N n react goal w (told_all_words N ds reported) y
      unfolding followed
      leads_on {ds = ds} q =
          let g = follows _ is_report in
          let h = falls _ is_report tt in
          let k = told_left m N n steady ds reported in
          record {
            leads = record {
              way = told_way m N n steady ds reported
                  (record { accepted = o.accepted; tests = o.tests; deep = o.deep; range = in_range_lem _ is_report });
              steps = g.spare;
              enough = omega (arith, g.enough);
              rest = ap (λ (r : Reaction Distance a). ending (followed g.spare r)) (sym q) ∙ g.rest;
            };
            less = omega arith;
          }

-- ---- on to the next position

-- how a search for positions leaves a query: it goes on after a test, and ends with done or a refusal
abbrev pub Sought : {RayData Distance a : Type 0} (m : ℕ) (N : NodeWords RayData Distance) (n : ℕ) (react : ℕ → RayData → a → Reaction Distance a)
    (goal : Ending a)
    (w : WalkerWords RayData) (x : a) → S.Answer → WalkerWords RayData → Type 0
Sought m N n react goal w x (S.tested v) u = Goes m N n react goal w u x
Sought m N n react goal w x (S.position p) u = ⊥
Sought m N n react goal w x S.done u = record { noted = x; tests = u.tests; ended = S.done } ≡ goal
Sought m N n react goal w x (S.refused k) u = record { noted = x; tests = u.tests; ended = S.refused k } ≡ goal

-- what a later turn's search gives, a first one gives too
sought_after : {RayData Distance a : Type 0} (m : ℕ) (N : NodeWords RayData Distance) (n : ℕ) (react : ℕ → RayData → a → Reaction Distance a)
    (goal : Ending a) (x : a)
    (w u : WalkerWords RayData) (b : S.Answer) (v : WalkerWords RayData)
    → steps_left_words m u < steps_left_words m w → Sought m N n react goal u x b v → Sought m N n react goal w x b v
sought_after m N n react goal x w u (S.tested j) v l h = record { leads = h.leads; less = omega (arith, l, h.less) }
sought_after m N n react goal x w u (S.position p) v l h = h
sought_after m N n react goal x w u S.done v l h = h
sought_after m N n react goal x w u (S.refused k) v l h = h

module _ {RayData Distance a : Type 0} {m : ℕ} {N : NodeWords RayData Distance} {n : ℕ} {react : ℕ → RayData → a → Reaction Distance a}
    {goal : Ending a} {x : a}
    (steady : Steady m N n) where
  -- one turn without positions in hand
  turn_sought : (w : WalkerWords RayData) → Leads m N n react goal w x → w.positions.bits ≤ 0 → (r : SteppedWords RayData)
      → r ≡ advance_words m N n w
      → Sought m N n react goal w x r.answer r.walker
  turn_sought w L none r e =
      go r.answer r.walker (shown steady L r e) (in_range_lem steady L r e) (falls steady L r e) (follows steady L r e).spare
      (follows steady L r e).enough (follows steady L r e).rest
    where
      go : (b : S.Answer) (u : WalkerWords RayData) → Shows m N n w b u → WordsFit u → (Going b → steps_left_words m u < steps_left_words m w)
          → (k : ℕ)
          → steps_left_words m w ≤ k
          → ending (follow_words m N react b u x (query_words m N react k n)) ≡ goal → Sought m N n react goal w x b u
      go (S.tested v) u h i f k l q = record {
        leads = record {
          way = record { accepted = ap N.forged h.3 ∙ L.way.accepted; tests = omega (arith, h.1, h.4); deep = h.2; range = i };
          steps = k;
          enough = omega (arith, f tt, l);
          rest = q;
        };
        less = f tt;
      }
      go (S.position p) u h i f k l q = absurd (let e = front_stays (N.skips w.ray) 32 w.positions
          (empty_front (N.skips w.ray) w.positions none) in omega (arith, h.0, ap (λ (g : Group). g.bits) e))
      go S.done u h i f k l q = q
      go (S.refused j) u h i f k l q = q

  -- a whole search
  pub seek_sought : (k : ℕ) (w : WalkerWords RayData) → Leads m N n react goal w x → w.positions.bits ≤ 0
      → Sought m N n react goal w x (seek_words m N k n w).answer (seek_words m N k n w).walker
  unfolding seek_words
  seek_sought zero w L none = turn_sought w L none _ refl
  seek_sought (suc k) w L none =
      cond_elim (λ (q : SteppedWords RayData). Sought m N n react goal w x q.answer q.walker) (finds_none (advance_words m N n w)) _ _
      (λ h. again (advance_words m N n w).answer h (turn_sought w L none _ refl) (seek_sought k (advance_words m N n w).walker))
      (λ h. turn_sought w L none _ refl)
    where
      u : WalkerWords RayData
      u = (advance_words m N n w).walker

      again : (b : S.Answer) → is_test b && eqb u.positions.bits 0 ≡ true → Sought m N n react goal w x b u
          → (Leads m N n react goal u x → u.positions.bits ≤ 0
          → Sought m N n react goal u x (seek_words m N k n u).answer (seek_words m N k n u).walker)
          → Sought m N n react goal w x (seek_words m N k n u).answer (seek_words m N k n u).walker
      again (S.tested v) h g rest = sought_after m N n react goal x w u (seek_words m N k n u).answer (seek_words m N k n u).walker g.less
          (rest g.leads (let z = eqb-true u.positions.bits 0 h in omega arith))
      again (S.position p) h g rest = absurd g
      again S.done h g rest = absurd (let z : ◌≡◌ {A = ℕ} 0 1 = cc in omega arith)
      again (S.refused j) h g rest = absurd (let z : ◌≡◌ {A = ℕ} 0 1 = cc in omega arith)
