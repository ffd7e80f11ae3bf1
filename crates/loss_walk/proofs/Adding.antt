-- A walk that adds losses: what holds whenever its loops come round, from node to node and from position to position, and how it ends.
use mathlib.Core.Bool.{Bool, true, false, ◌&&◌, cond}
use mathlib.Core.List.{List, [], ◌∷◌, ◌++◌, append_assoc, map-append}
use mathlib.Core.Path.{◌≡◌, refl, sym, ap, subst, ◌∙◌}
use Prim.Native.Nat.{ℕ, suc, ◌+◌, ◌*◌, ◌≤◌, ◌<◌}
use native.Mathlib.Decide.{dec_lt}
use native.Mathlib.Omega.{arith}
use borrow.Author.Tests.{lt-ltb, le-ltb}
use lib.Dec.{ltb}
use lib.Ieee.{Float}
use lib.ListN.{length, get_or, set, replicate, length-append, length-map}
use Rattle.lists.specs.Sums.{sum_over}
use Rattle.lists.proofs.Sums.{over_append, over_most}
use Rattle.causes.specs.declared.Refusal.{Refusal}
use Rattle.causes.specs.Refusal.{cause_number}
use Rattle.faststack.specs.Stack.{capacity}
use Rattle.ray.specs.declared.Ray.{Ray}
use Rattle.ray.specs.Ray.{octant_of}
use Rattle.gate.specs.Gates.{Gates}
use Rattle.record_shape.specs.Record.{node_count}
use Rattle.std.specs.Prelude.{Ok, Err}
use Rattle.walk.specs.Step as S
use Rattle.walk.specs.Queries.{append}
use Rattle.walk.specs.Words as W
use Rattle.walk.specs.WordStep.{WalkerWords, SteppedWords, NodeWords, fresh_words, seek_words}
use Rattle.walk.specs.WordQueries.{OutcomeWords}
use Rattle.walk.proofs.Cases.{and-false}
use Rattle.walk.proofs.WordEnds.{steps_left_words}
use Rattle.walk_record.specs.WalkRay.{WalkRay, walk_ray, rays_of}
use Rattle.walk_record.specs.Record.{FieldsFit, node_words_at}
use Rattle.walk_record.specs.Walk.{any_hit_at, query_at}
use Rattle.advance.specs.declared.Walk.{Walk}
use Rattle.advance.specs.declared.Answer.{Answer}
use Rattle.advance.specs.declared.Answer.TheVariants as A
use Rattle.advance.specs.Turn.{step_answer, walker_of, begun}
use Rattle.query.specs.Ending.{Ending, ending}
use Rattle.query.specs.Met.{walk_met_by, panes_met}
use Rattle.query.specs.Result.{Result, unanswered, walked}
use Rattle.query.specs.Walk.{RecordSized}
use Rattle.query.proofs.Begins.{steady, leads_begun, query_empty}
use Rattle.query.proofs.Gathers.{noted_few, leads_front}
use Rattle.query.proofs.Entry.{ended_done, ended_refused}
use Rattle.gate.proofs.Says.{Said}
use Rattle.query.proofs.Gated.{gated_absent, gated_skips, gated_past, gated_on}
use Rattle.query.proofs.Leads.{Steady, Leads, Sought, seek_sought}
use Rattle.loss_walk.specs.Losses.{LossAnswer, summed, refused, losses_fit, loss_at, all_there}
use Rattle.loss_walk.specs.Gated.{gated_loss}
use Rattle.loss_walk.specs.Charged.{charged, pane_at}
use Rattle.loss_walk.proofs.Charged.{fit_most, charged_next, charged_most}

-- ---- panes that are there

there_append : (panes : ℕ) (a b : List ℕ) → all_there panes (a ++ b) ≡ all_there panes a && all_there panes b
unfolding all_there
there_append panes [] b = refl
there_append panes (k ∷ a) b = go (ltb k panes) (there_append panes a b)
  where
    go : (c : Bool) → all_there panes (a ++ b) ≡ all_there panes a && all_there panes b
        → c && all_there panes (a ++ b) ≡ (c && all_there panes a) && all_there panes b
    go true e = e
    go false e = refl

-- ---- a walk

module _ (g : Gates) (bytes indices : List ℕ) (panes : ℕ) (losses : List ℕ) (ray : Ray) where
  abbrev n : ℕ
  n = length indices

  abbrev m : ℕ
  m = node_count bytes

  abbrev N : NodeWords WalkRay Float
  N = node_words_at bytes (rays_of g)

  -- how any-hit's walk ends
  abbrev goal : OutcomeWords WalkRay (List ℕ)
  goal = walk_met_by g bytes n ray

  -- ---- what the walk gives

  abbrev pub given : Bool → OutcomeWords WalkRay (List ℕ) → Result LossAnswer
  given b o =
      cond b (walked refused (λ met tests. record { answer = summed (sum_over (loss_at indices losses) met); tests = tests }) o o.ended)
      (unanswered (refused 10))

  -- where it ended like this, with panes that are there
  abbrev pub ended : WalkerWords WalkRay → List ℕ → S.Answer → OutcomeWords WalkRay (List ℕ)
  ended w noted a = record { walker = w; accumulator = noted; ended = a }

  -- what it found once it has ended
  abbrev finds : List ℕ → ℕ → Result LossAnswer
  finds met tests = record { answer = summed (sum_over (loss_at indices losses) met); tests = tests }

  gives : (x : Ending (List ℕ)) → all_there panes (panes_met indices x.noted) ≡ true → x ≡ ending goal
      → given true goal ≡ gated_loss g bytes indices panes losses ray
  unfolding gated_loss
  gives x h e = ap (λ (b : Bool). given b goal) (sym h ∙ ap (λ (y : Ending (List ℕ)). all_there panes (panes_met indices y.noted)) e)

  walk_done : (noted : List ℕ) (tests : ℕ) → all_there panes (panes_met indices noted) ≡ true
      → record { noted = noted; tests = tests; ended = S.done } ≡ ending goal
      → record { answer = summed (sum_over (loss_at indices losses) noted); tests = tests } ≡ gated_loss g bytes indices panes losses ray
  walk_done noted tests h e = ended_done refused finds goal noted tests e ∙ gives _ h e

  walk_refused : (noted : List ℕ) (tests k : ℕ) → all_there panes (panes_met indices noted) ≡ true
      → record { noted = noted; tests = tests; ended = S.refused k } ≡ ending goal
      → unanswered (refused k) ≡ gated_loss g bytes indices panes losses ray
  walk_refused noted tests k h e = ended_refused refused finds goal noted tests k e ∙ gives _ h e

  -- where a position was met whose pane is not there
  lacks_pane : (noted : List ℕ) (p : ℕ) (later : List ℕ) → goal.accumulator ≡ (noted ++ (p ∷ [])) ++ later → panes ≤ get_or indices p 0
      → gated_loss g bytes indices panes losses ray ≡ unanswered (refused 10)
  unfolding gated_loss all_there
  lacks_pane noted p later e h =
      ap (λ (b : Bool). given b goal)
      (ap (λ (l : List ℕ). all_there panes (panes_met indices l)) (e ∙ append_assoc noted (p ∷ []) later)
      ∙ ap (all_there panes) (map-append (λ q. get_or indices q 0) noted (p ∷ later))
      ∙ there_append panes (panes_met indices noted) (panes_met indices (p ∷ later))
      ∙ ap (λ (b : Bool). all_there panes (panes_met indices noted) && (b && all_there panes (panes_met indices later)))
      (le-ltb (get_or indices p 0) panes h)
      ∙ and-false (all_there panes (panes_met indices noted)))

  -- without nodes nothing is met
  pub walk_empty : FieldsFit bytes → (rays_of g).forged (walk_ray ray) ≡ false → node_count bytes ≡ 0 → n ≤ 65536 → (totals : List ℕ)
      → (record { answer = summed 0; tests = 0 } ≡ gated_loss g bytes indices panes losses ray)
      × (totals ≡ charged losses totals (panes_met indices goal.accumulator))
  unfolding any_hit_at all_there sum_over charged
  walk_empty fit accepted none few totals =
      let q = query_empty g bytes n fit append [] ray accepted none few in (
        walk_done [] 0 refl (λ i. record { noted = sym q.accumulator i; tests = sym q.tests i; ended = sym q.ended i }),
        ap (λ (l : List ℕ). charged losses totals (panes_met indices l)) (sym q.accumulator),
      )

  -- ---- its state

  -- Positions are noted whose panes are there; the sum is theirs, and so are the totals, on top of those before. What is left of any-hit's walk, run
  -- from here, is the whole walk's outcome.
  pub record Adding (w : WalkerWords WalkRay) (sum : ℕ) (before totals : List ℕ) : Type 0 where
    pub noted : List ℕ
    pub leads : Leads m N n append (ending goal) w noted
    pub there : all_there panes (panes_met indices noted) ≡ true
    pub sums : sum ≡ sum_over (loss_at indices losses) noted
    pub charges : totals ≡ charged losses before (panes_met indices noted)

  pub adding_begins : FieldsFit bytes → (rays_of g).forged (walk_ray ray) ≡ false → (octant : ℕ) → octant ≡ octant_of ray.direction
      → (v : Walk) → v ≡ begun → (before : List ℕ) → Adding (walker_of ray octant v (replicate capacity 0)) 0 before before
  unfolding any_hit_at all_there sum_over charged
  adding_begins fit accepted octant e v f before = record {
    noted = [];
    leads = leads_begun g bytes n fit append [] ray accepted octant e v f;
    there = refl;
    sums = refl;
    charges = refl;
  }

  -- a walk notes at most 25 positions a node, and one
  pub met_few : length goal.accumulator ≤ 25 * m + 1
  unfolding any_hit_at query_at
  met_few = omega (arith, noted_few m N n (suc (25 * m)) (fresh_words (walk_ray ray)) [])

  module _ {w : WalkerWords WalkRay} {sum : ℕ} {before totals : List ℕ} (K : Adding w sum before totals) where
    noted_most : length K.noted ≤ 25 * m + 1
    noted_most =
        let f = leads_front m N n K.leads in
        omega (arith, met_few, ap length f.1, length-append K.noted f.0)

    module _ (fit : losses_fit panes losses ≡ true) where
      -- so the sum is bounded,
      pub sum_most : sum ≤ (25 * m + 1) * 1000000
      sum_most =
          let h = over_most (loss_at indices losses) 1000000 (λ p. fit_most panes losses fit (get_or indices p 0)) K.noted in
          omega (arith, K.sums, h, noted_most)

      -- and the totals are
      pub totals_most : (k : ℕ) → get_or totals k 0 ≤ get_or before k 0 + (25 * m + 1) * 1000000
      totals_most k =
          let h = charged_most losses (fit_most panes losses fit) before (panes_met indices K.noted) k in
          let l = length-map K.noted (λ p. get_or indices p 0) in
          omega (arith, ap (λ (t : List ℕ). get_or t k 0) K.charges, h, l, noted_most)

-- ---- on from a walk

module _ {g : Gates} {bytes indices : List ℕ} {panes : ℕ} {losses : List ℕ} {ray : Ray}
    (sized : RecordSized bytes (length indices)) (fit : FieldsFit bytes)
    {w : WalkerWords WalkRay} {sum : ℕ} {before totals : List ℕ} (K : Adding g bytes indices panes losses ray w sum before totals) where
  steadily : Steady (m g bytes indices panes losses ray) (N g bytes indices panes losses ray) (length indices)
  steadily = steady g bytes (length indices) sized fit

  -- ---- a position in hand

  module _ (held : 0 < w.positions.bits) (p : ℕ) (named : p ≡ W.first_position w.positions) where
    -- the walker without its first position
    abbrev pub rest : W.Group → WalkerWords WalkRay
    rest h = record { ray = w.ray; tests = w.tests; positions = h; current = w.current; depth = w.depth; stack = w.stack }

    -- on from there, with so much added
    abbrev pub Onward : W.Group → ℕ → List ℕ → Type 0
    Onward h sum₁ totals₁ =
        Adding g bytes indices panes losses ray (rest h) sum₁ before totals₁
        × (steps_left_words (node_count bytes) (rest h) < steps_left_words (node_count bytes) w)

    -- with pane k's loss added
    abbrev pub Added : W.Group → ℕ → List ℕ → Type 0
    Added h k totals₁ = Onward h (sum + get_or losses k 0) totals₁

    -- one that the gates pass over
    pub adding_skips : Said g p (Ok false) → (h : W.Group) → h ≡ W.rest_of w.positions → Onward h sum totals
    adding_skips s h q =
        let o = gated_skips g bytes steadily K.leads held p named s in
        subst (λ (x : W.Group). Onward x sum totals) (sym q)
        (record { noted = K.noted; leads = o.leads; there = K.there; sums = K.sums; charges = K.charges }, o.less)

    -- one that is absent refuses the ray
    pub adding_absent : (f : Refusal) → Said g p (Err f) → unanswered (refused (cause_number f)) ≡ gated_loss g bytes indices panes losses ray
    adding_absent f s =
        walk_refused g bytes indices panes losses ray K.noted w.tests (cause_number f) K.there
        (gated_absent g bytes steadily K.leads held p named f s)

    -- the panes of the positions noted and of this one
    panes_next : panes_met indices (K.noted ++ (p ∷ [])) ≡ panes_met indices K.noted ++ (get_or indices p 0 ∷ [])
    panes_next = map-append (λ q. get_or indices q 0) K.noted (p ∷ [])

    pub adding_takes : Said g p (Ok true) → (k : ℕ) → k ≡ pane_at indices panes p → k < panes → (h : W.Group) → h ≡ W.rest_of w.positions
        → (totals₁ : List ℕ) → totals₁ ≡ set totals k (get_or totals k 0 + get_or losses k 0) → Added h k totals₁
    unfolding pane_at all_there sum_over
    adding_takes s k e l after q totals₁ t = go (dec_lt p (length indices))
      where
        go : Dec (p < length indices) → Added after k totals₁
        go (no h) = absurd (let z : k ≡ panes = e ∙ ap (λ (b : Bool). cond b (get_or indices p 0) panes) (le-ltb p (length indices) (omega arith)) in
            omega arith)
        go (yes h) =
            let i : k ≡ get_or indices p 0 = e ∙ ap (λ (b : Bool). cond b (get_or indices p 0) panes) (lt-ltb p (length indices) h) in
            let o = gated_on g bytes steadily K.leads held p named s h refl in
            subst (λ (x : W.Group). Added x k totals₁) (sym q) (
              record {
                noted = K.noted ++ (p ∷ []);
                leads = o.leads;
                there = ap (all_there panes) panes_next ∙ there_append panes (panes_met indices K.noted) (get_or indices p 0 ∷ []) ∙ one i;
                sums = summing i;
                charges = t ∙ charging i ∙ ap (charged losses before) (sym panes_next);
              },
              o.less,
            )
          where
            one : k ≡ get_or indices p 0 → all_there panes (panes_met indices K.noted) && all_there panes (get_or indices p 0 ∷ []) ≡ true
            one i =
                ap (λ (b : Bool). b && all_there panes (get_or indices p 0 ∷ [])) K.there
                ∙ ap (λ (b : Bool). b && true) (lt-ltb (get_or indices p 0) panes (omega arith))

            summing : k ≡ get_or indices p 0 → sum + get_or losses k 0 ≡ sum_over (loss_at indices losses) (K.noted ++ (p ∷ []))
            summing i =
                omega (arith, K.sums, over_append (loss_at indices losses) K.noted (p ∷ []), ap (λ (j : ℕ). get_or losses j 0) i)

            charging : k ≡ get_or indices p 0 → set totals k (get_or totals k 0 + get_or losses k 0)
                ≡ charged losses before (panes_met indices K.noted ++ (get_or indices p 0 ∷ []))
            charging i =
                ap (λ (x : List ℕ). set x k (get_or x k 0 + get_or losses k 0)) K.charges
                ∙ sym (charged_next losses before (panes_met indices K.noted) k)
                ∙ ap (λ (j : ℕ). charged losses before (panes_met indices K.noted ++ (j ∷ []))) i

    -- one whose pane is not there, or that is not there itself, refuses the ray
    pub adding_fault : Said g p (Ok true) → (k : ℕ) → k ≡ pane_at indices panes p → panes ≤ k
        → unanswered (refused 10) ≡ gated_loss g bytes indices panes losses ray
    unfolding pane_at
    adding_fault s k e l = go (dec_lt p (length indices))
      where
        go : Dec (p < length indices) → unanswered (refused 10) ≡ gated_loss g bytes indices panes losses ray
        go (yes h) =
            let i : k ≡ get_or indices p 0 = e ∙ ap (λ (b : Bool). cond b (get_or indices p 0) panes) (lt-ltb p (length indices) h) in
            let o = gated_on g bytes steadily K.leads held p named s h refl in
            let f = leads_front (node_count bytes) (node_words_at bytes (rays_of g)) (length indices) o.leads in
            sym (lacks_pane g bytes indices panes losses ray K.noted p f.0 f.1 (omega (arith, i, l)))
        go (no h) =
            walk_refused g bytes indices panes losses ray K.noted w.tests 10 K.there
            (gated_past g bytes steadily K.leads held p named s (omega arith))

  -- ---- on to the next positions

  -- where a search leaves it, at walker u
  abbrev pub After : Answer → WalkerWords WalkRay → Type 0
  After (A.Tested v) u =
      Adding g bytes indices panes losses ray u sum before totals × (steps_left_words (node_count bytes) u < steps_left_words (node_count bytes) w)
  After (A.Position p) u = ⊥
  After A.Done u =
      (record { answer = summed sum; tests = u.tests } ≡ gated_loss g bytes indices panes losses ray)
      × (totals ≡ charged losses before (panes_met indices (walk_met_by g bytes (length indices) ray).accumulator))
  After (A.Refused f) u = unanswered (refused (cause_number f)) ≡ gated_loss g bytes indices panes losses ray

  pub adding_seeks : w.positions.bits ≡ 0 → (k : ℕ) (a : Answer) (u : WalkerWords WalkRay)
      → record { walker = u; answer = step_answer a } ≡ seek_words (node_count bytes) (node_words_at bytes (rays_of g)) k (length indices) w
      → After a u
  unfolding step_answer
  adding_seeks none k a u e =
      go a (subst (λ (r : SteppedWords WalkRay). Seeks r.answer r.walker) (sym e) (seek_sought steadily k w K.leads (omega (arith, none))))
    where
      Seeks : S.Answer → WalkerWords WalkRay → Type 0
      Seeks b v =
          Sought (node_count bytes) (node_words_at bytes (rays_of g)) (length indices) append
          (ending (walk_met_by g bytes (length indices) ray)) w K.noted b v

      go : (b : Answer) → Seeks (step_answer b) u → After b u
      go (A.Tested v) h =
          (record { noted = K.noted; leads = h.leads; there = K.there; sums = K.sums; charges = K.charges }, h.less)
      go (A.Position p) h = h
      go A.Done h = (
        ap (λ (x : ℕ). record { answer = summed x; tests = u.tests }) K.sums ∙ walk_done g bytes indices panes losses ray K.noted u.tests K.there h,
        K.charges ∙ ap (λ (o : Ending (List ℕ)). charged losses before (panes_met indices o.noted)) h,
      )
      go (A.Refused f) h = walk_refused g bytes indices panes losses ray K.noted u.tests (cause_number f) K.there h
