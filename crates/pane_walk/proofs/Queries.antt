-- Closest and miss at a position in hand: how they go on, and what they answer.
use mathlib.Core.Bool.{Bool, true, false, cond}
use mathlib.Core.List.{List, []}
use mathlib.Core.Logic.{◌⊎◌, inl, inr}
use mathlib.Core.Path.{◌≡◌, refl, sym, ap, ◌∙◌, subst}
use native.Mathlib.Omega.{arith}
use Prim.Native.Nat.{ℕ, ◌≤◌, ◌<◌}
use native.Mathlib.Decide.{dec_lt}
use lib.Ieee.{Float}
use lib.ListN.{length, get_or}
use Rattle.std.specs.Prelude as P
use Rattle.causes.specs.declared.Refusal.{Refusal as Cause}
use Rattle.causes.specs.Refusal.{cause_number}
use Rattle.ray.specs.declared.Ray.{Ray}
use Rattle.ray.specs.Ray.{reaching, counts}
use Rattle.gate.specs.Gates.{Gates, admitted}
use Rattle.walk.specs.Step as Step
use Rattle.walk.specs.Queries.{Reaction, distance, faulty, Found, hit, fault, closest, miss}
use Rattle.record_shape.specs.Record.{node_count}
use Rattle.walk.specs.Words as W
use Rattle.walk.specs.Words.{first_position, rest_of}
use Rattle.walk.specs.WordStep.{WalkerWords, NodeWords, after_report_words}
use Rattle.walk.proofs.WordEnds.{steps_left_words}
use Rattle.walk.specs.WordQueries.{OutcomeWords, told_all_words}
use Rattle.walk_record.specs.WalkRay.{WalkRay, rays_of}
use Rattle.walk_record.specs.Record.{FieldsFit, node_words_at}
use Rattle.advance.specs.declared.Group.{Group}
use Rattle.advance.specs.declared.Walk.{Walk}
use Rattle.advance.specs.Turn.{group_of, walker_of}
use Rattle.query.specs.Result.{Result, walked}
use Rattle.query.specs.Walk.{RecordSized}
use Rattle.query.specs.Ending.{ending}
use Rattle.query.proofs.Leads.{Steady, Leads, Goes}
use Rattle.gate.proofs.Says.{Said, says}
use Rattle.query.proofs.Entry.{ended_refused, ended_stopped}
use Rattle.query.proofs.Gated.{gated_absent, gated_skips, gated_past, gated_stops, gated_on}
use Rattle.query.specs.declared.Query.{Query}
use Rattle.query.proofs.Begins.{steady, sized_of}
use Rattle.pane_walk.proofs.Panes.{position_there, position_past}
use Rattle.pane_walk.specs.Panes.{pane_met, position_met, pane_of, nearer, pane_of_met, gated_closest_walk, gated_miss_walk}
use Rattle.pane_walk.specs.Panes.{blocked, refused_closest, refused_miss, closest_found, miss_found}
use Rattle.pane_walk.proofs.Reactions.{closest_at, closest_faulty, miss_at, miss_faulty}

-- ---- a query on its way

-- what a query does at a position, and what it ends with
abbrev pub Reacts : Type 0
Reacts = ℕ → WalkRay → Found Float → Reaction Float (Found Float)

abbrev pub Ends : Type 0
Ends = OutcomeWords WalkRay (Found Float)

-- from walk v over a record of these bytes and n positions, with x noted, the query ends as the goal says
abbrev pub LeadsBy : Gates → List ℕ → (n octant : ℕ) → Reacts → Ends → Ray → Walk → List ℕ → Found Float → Type 0
LeadsBy g bytes n octant react goal ray v stack x =
    Leads (node_count bytes) (node_words_at bytes (rays_of g)) n react (ending goal) (walker_of ray octant v stack) x

-- the most steps that are left to walk v
abbrev pub steps_by : List ℕ → ℕ → Ray → Walk → List ℕ → ℕ
steps_by bytes octant ray v stack = steps_left_words (node_count bytes) (walker_of ray octant v stack)

-- what a query walks over, beside which gates, and its ray's octant
pub record Setting : Type 0 where
  pub gates : Gates
  pub bytes : List ℕ
  pub indices : List ℕ
  pub panes : List Float
  pub octant : ℕ
  pub sized : RecordSized bytes (length indices)
  pub fit : FieldsFit bytes

abbrev pub setting_over : (g : Gates) (q : Query) (indices : List ℕ) (panes : List Float) (octant : ℕ) → q.bvh.positions ≡ length indices → Setting
setting_over g q indices panes octant e = record {
  gates = g;
  bytes = q.bvh.bytes.now;
  indices = indices;
  panes = panes;
  octant = octant;
  sized = subst (RecordSized q.bvh.bytes.now) e (sized_of q.bvh.bytes.now q.bvh.positions q.bvh.fit q.some);
  fit = q.fields;
}

module _ (S : Setting) where
  -- closest and miss at a position of it
  abbrev pub closest_in : Reacts
  closest_in = closest (pane_of S.indices S.panes) nearer

  abbrev pub miss_in : Reacts
  miss_in = miss (pane_of S.indices S.panes) nearer

  -- and what they end with for a ray
  abbrev pub closest_ends : Ray → Ends
  closest_ends = gated_closest_walk S.gates S.bytes S.indices S.panes

  abbrev pub miss_ends : Ray → Ends
  miss_ends = gated_miss_walk S.gates S.bytes S.indices S.panes

  -- the words of its nodes
  abbrev pub words_in : NodeWords WalkRay Float
  words_in = node_words_at S.bytes (rays_of S.gates)

  -- from walk v, with x noted, the query ends as the goal says
  abbrev pub LeadsIn : Reacts → Ends → Ray → Walk → List ℕ → Found Float → Type 0
  LeadsIn = LeadsBy S.gates S.bytes (length S.indices) S.octant

  -- from walk v it goes on to walk u, with y noted
  abbrev pub GoesIn : Reacts → Ends → (ray : Ray) (v : Walk) (stack : List ℕ) (ray₁ : Ray) (u : Walk) (stack₁ : List ℕ) → Found Float → Type 0
  GoesIn react goal ray v stack ray₁ u stack₁ y =
      Goes (node_count S.bytes) words_in (length S.indices) react (ending goal) (walker_of ray S.octant v stack)
      (walker_of ray₁ S.octant u stack₁) y

-- ---- at a position in hand

-- position p is the first in hand, and the gate says this of it
pub record AtFirst (S : Setting) (react : Reacts) (goal : Ends) (ray : Ray) (v : Walk) (stack : List ℕ) (x : Found Float)
    (p : ℕ) (said : P.Result Bool Cause) : Type 0 where
  pub leads : LeadsIn S react goal ray v stack x
  pub held : 0 < v.positions.bits
  pub named : p ≡ first_position (group_of v.positions)
  pub is : said ≡ admitted S.gates p

module _ {S : Setting} {react : Reacts} {goal : Ends} {ray : Ray} {v : Walk} {stack : List ℕ} {x : Found Float} {p : ℕ}
    {said : P.Result Bool Cause} (A : AtFirst S react goal ray v stack x p said) where
  abbrev n : ℕ
  n = length S.indices

  abbrev w : WalkerWords WalkRay
  w = walker_of ray S.octant v stack

  abbrev beam : WalkRay
  beam = record { ray = ray; octant = S.octant }

  steady_in : Steady (node_count S.bytes) (words_in S) n
  steady_in = steady S.gates S.bytes n S.sized S.fit

  -- the walk after it, where `left` are the others
  abbrev pub after_first : Group → Walk
  after_first left = record { tests = v.tests; positions = left; current = v.current; depth = v.depth }

  says_so : (r : P.Result Bool Cause) → said ≡ r → Said S.gates p r
  says_so r e = says S.gates p r (sym e ∙ A.is)

  -- one that is absent refuses the query,
  pub first_absent : {B : Type 0} (refuse : ℕ → B) (found : Found Float → ℕ → Result B) (f : Cause) → said ≡ P.Err f
      → record { answer = refuse (cause_number f); tests = 0 } ≡ walked refuse found goal goal.ended
  first_absent refuse found f e =
      ended_refused refuse found goal _ _ _ (gated_absent S.gates S.bytes steady_in A.leads A.held p A.named f (says_so (P.Err f) e))

  -- and one that is not admitted is passed over
  pub first_skipped : (left : Group) → group_of left ≡ rest_of (group_of v.positions) → said ≡ P.Ok false
      → GoesIn S react goal ray v stack ray (after_first left) stack x
  first_skipped left rest e =
      subst
      (λ (g : W.Group). Goes (node_count S.bytes) (words_in S) n react (ending goal) w
      (record { ray = beam; tests = v.tests; positions = g; current = group_of v.current; depth = v.depth; stack = stack }) x)
      (sym rest) (gated_skips S.gates S.bytes steady_in A.leads A.held p A.named (says_so (P.Ok false) e))

  -- ---- which is admitted

  module _ (e : said ≡ P.Ok true) where
    admitted_lem : Said S.gates p (P.Ok true)
    admitted_lem = says_so (P.Ok true) e

    first_past : n ≤ p → record { noted = x; tests = v.tests; ended = Step.refused 10 } ≡ ending goal
    first_past = gated_past S.gates S.bytes steady_in A.leads A.held p A.named admitted_lem

    first_stops : {y : Found Float} {ds : List Float} → p < n → react p beam x ≡ record { accumulator = y; tells = ds; stop = true }
        → ending (record { walker = told_all_words (words_in S) ds (after_report_words w).walker; accumulator = y; ended = Step.position p })
        ≡ ending goal
    first_stops there q = gated_stops S.gates S.bytes steady_in A.leads A.held p A.named admitted_lem there q

    first_goes : {y : Found Float} {ds : List Float} (left : Group) → group_of left ≡ rest_of (group_of v.positions) → p < n
        → react p beam x ≡ record { accumulator = y; tells = ds; stop = false }
        → Goes (node_count S.bytes) (words_in S) n react (ending goal) w
        (told_all_words (words_in S) ds (walker_of ray S.octant (after_first left) stack)) y
    first_goes {y = y} {ds = ds} left rest there q =
        subst
        (λ (g : W.Group). Goes (node_count S.bytes) (words_in S) n react (ending goal) w
        (told_all_words (words_in S) ds
        (record { ray = beam; tests = v.tests; positions = g; current = group_of v.current; depth = v.depth; stack = stack })) y)
        (sym rest) (gated_on S.gates S.bytes steady_in A.leads A.held p A.named admitted_lem there q)

-- a pane as it was met, or why it is refused
abbrev pub Met : Type 0
Met = P.Result Float Cause

-- position p is the first in hand, is admitted, and is met so
pub record AtPosition (S : Setting) (react : Reacts) (goal : Ends) (ray : Ray) (v : Walk) (stack : List ℕ) (x : Found Float)
    (p : ℕ) (met : Met) : Type 0 where
  pub said : P.Result Bool Cause
  pub first : AtFirst S react goal ray v stack x p said
  pub admitted : said ≡ P.Ok true
  pub pane : pane_of_met met ≡ position_met S.indices S.panes p ray

module _ {S : Setting} {react : Reacts} {goal : Ends} {ray : Ray} {v : Walk} {stack : List ℕ} {x : Found Float} {p : ℕ} {met : Met}
    (A : AtPosition S react goal ray v stack x p met) where
  abbrev indices : List ℕ
  indices = S.indices

  abbrev panes : List Float
  panes = S.panes

  -- a position met at a distance is there
  pub at_there : (t : Float) → met ≡ P.Ok t → (p < n A.first) × (pane_of indices panes p (beam A.first) ≡ distance t)
  unfolding pane_of pane_of_met
  at_there t q = go (dec_lt p (n A.first))
    where
      go : Dec (p < n A.first) → (p < n A.first) × (pane_met panes (get_or indices p 0) ray ≡ distance t)
      go (yes h) = (h, sym (position_there indices panes p ray h) ∙ sym A.pane ∙ ap pane_of_met q)
      go (no h) =
          let e : distance t ≡ faulty 10 = sym (ap pane_of_met q) ∙ A.pane ∙ position_past indices panes p ray (omega arith) in
          let z : ◌≡◌ {A = ℕ} 0 1 = cc in absurd (omega arith)

  -- one that is refused has a pane at fault, or is not there
  refused_where : (f : Cause) → met ≡ P.Err f
      → ((p < n A.first) × (pane_of indices panes p (beam A.first) ≡ faulty (cause_number f))) ⊎ ((n A.first ≤ p) × (cause_number f ≡ 10))
  unfolding pane_of pane_of_met
  refused_where f q = go (dec_lt p (n A.first))
    where
      go : Dec (p < n A.first)
          → ((p < n A.first) × (pane_met panes (get_or indices p 0) ray ≡ faulty (cause_number f))) ⊎ ((n A.first ≤ p) × (cause_number f ≡ 10))
      go (yes h) = inl (h, sym (position_there indices panes p ray h) ∙ sym A.pane ∙ ap pane_of_met q)
      go (no h) =
          let past : n A.first ≤ p = omega arith in
          let e : faulty (cause_number f) ≡ faulty 10 = sym (ap pane_of_met q) ∙ A.pane ∙ position_past indices panes p ray past in
          inr (past, cc)

  -- what refuses a position refuses the query
  fails : {B : Type 0} (refuse : ℕ → B) (found : Found Float → ℕ → Result B)
      → ((k tests : ℕ) → record { answer = refuse k; tests = 0 } ≡ found (fault k) tests)
      → ((k : ℕ) → pane_of indices panes p (beam A.first) ≡ faulty k
      → react p (beam A.first) x ≡ record { accumulator = fault k; tells = []; stop = true })
      → (f : Cause) → met ≡ P.Err f → record { answer = refuse (cause_number f); tests = 0 } ≡ walked refuse found goal goal.ended
  fails refuse found refuses reacts f q = go (refused_where f q)
    where
      go : ((p < n A.first) × (pane_of indices panes p (beam A.first) ≡ faulty (cause_number f))) ⊎ ((n A.first ≤ p) × (cause_number f ≡ 10))
          → record { answer = refuse (cause_number f); tests = 0 } ≡ walked refuse found goal goal.ended
      go (inl h) =
          refuses (cause_number f) _
          ∙ ended_stopped refuse found goal _ _ _ (first_stops A.first A.admitted h.0 (reacts (cause_number f) h.1))
      go (inr h) =
          ap (λ (j : ℕ). record { answer = refuse j; tests = 0 }) h.1 ∙ ended_refused refuse found goal _ _ _ (first_past A.first A.admitted h.0)

module _ {S : Setting} {goal : Ends} {ray : Ray} {v : Walk} {stack : List ℕ} {x : Found Float} {p : ℕ} {met : Met} where
  module _ (A : AtPosition S (closest_in S) goal ray v stack x p met) where
    -- what refuses a position refuses closest
    pub closest_fails : (f : Cause) → met ≡ P.Err f → record { answer = refused_closest (cause_number f); tests = 0 }
        ≡ walked refused_closest closest_found goal goal.ended
    unfolding closest_found
    closest_fails = fails A refused_closest closest_found (λ k t. refl) (closest_faulty S.indices S.panes p (beam A.first) x)

    module _ (left : Group) (rest : group_of left ≡ rest_of (group_of v.positions)) (d : Float) (f : met ≡ P.Ok d) where
      -- a distance that counts is noted and becomes the reach
      pub closest_lowers : counts ray d ≡ true
          → GoesIn S (closest_in S) goal ray v stack (reaching d ray) (after_first A.first left) stack (hit p d)
      closest_lowers h =
          let t = at_there A d f in
          subst
          (λ (c : Bool). GoesIn S (closest_in S) goal ray v stack (cond c (reaching d ray) ray) (after_first A.first left) stack (hit p d)) h
          (first_goes A.first A.admitted left rest t.0 (closest_at S.indices S.panes p (beam A.first) x d t.1 true h))

      -- any other changes nothing
      pub closest_passes : counts ray d ≡ false → GoesIn S (closest_in S) goal ray v stack ray (after_first A.first left) stack x
      closest_passes h =
          let t = at_there A d f in
          first_goes A.first A.admitted left rest t.0 (closest_at S.indices S.panes p (beam A.first) x d t.1 false h)

  module _ (A : AtPosition S (miss_in S) goal ray v stack x p met) where
    -- what refuses a position refuses miss
    pub miss_fails : (f : Cause) → met ≡ P.Err f → record { answer = refused_miss (cause_number f); tests = 0 }
        ≡ walked refused_miss miss_found goal goal.ended
    unfolding miss_found
    miss_fails = fails A refused_miss miss_found (λ k t. refl) (miss_faulty S.indices S.panes p (beam A.first) x)

    -- a distance that counts ends it
    pub miss_blocks : (d : Float) → met ≡ P.Ok d → counts ray d ≡ true
        → record { answer = blocked; tests = v.tests } ≡ walked refused_miss miss_found goal goal.ended
    unfolding miss_found
    miss_blocks d f h =
        let t = at_there A d f in
        ended_stopped refused_miss miss_found goal _ _ _
        (first_stops A.first A.admitted t.0 (miss_at S.indices S.panes p (beam A.first) x d t.1 true h))

    -- any other changes nothing
    pub miss_passes : (left : Group) → group_of left ≡ rest_of (group_of v.positions) → (d : Float) → met ≡ P.Ok d → counts ray d ≡ false
        → GoesIn S (miss_in S) goal ray v stack ray (after_first A.first left) stack x
    miss_passes left rest d f h =
        let t = at_there A d f in
        first_goes A.first A.admitted left rest t.0 (miss_at S.indices S.panes p (beam A.first) x d t.1 false h)
