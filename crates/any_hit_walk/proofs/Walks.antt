-- A walk that notes positions: what holds whenever its loops come round, from node to node and from position to position, and how it ends.
use mathlib.Core.Bool.{Bool, true, false}
use mathlib.Core.List.{List, [], ◌∷◌, ◌++◌}
use mathlib.Core.Path.{◌≡◌, refl, sym, ap, subst, ◌∙◌}
use Prim.Native.Nat.{ℕ, ◌+◌, ◌*◌, ◌≤◌, ◌<◌}
use native.Mathlib.Omega.{arith}
use lib.Ieee.{Float}
use lib.ListN.{length, take, set, replicate, length-append}
use lib.Seq.{take_all, take-nil}
use Rattle.std.specs.Prelude.{Result, Ok, Err}
use Rattle.lists.specs.Splice.{splice}
use Rattle.lists.proofs.Splice.{splice_none}
use Rattle.causes.specs.declared.Refusal.{Refusal}
use Rattle.causes.specs.Refusal.{cause_number}
use Rattle.words.specs.Fields.{field}
use Rattle.words.specs.Ones.{ones_below}
use Rattle.faststack.specs.Stack.{capacity}
use Rattle.ray.specs.declared.Ray.{Ray}
use Rattle.ray.specs.Ray.{octant_of}
use Rattle.record_shape.specs.Record.{node_count}
use Rattle.walk.specs.Step as S
use Rattle.walk.specs.Queries.{append}
use Rattle.walk.specs.Words as W
use Rattle.walk.specs.WordStep.{WalkerWords, SteppedWords, NodeWords, seek_words}
use Rattle.walk.proofs.WordEnds.{steps_left_words}
use Rattle.gate.specs.Gates.{Gates}
use Rattle.walk_record.specs.WalkRay.{WalkRay, walk_ray, rays_of}
use Rattle.walk_record.specs.Record.{FieldsFit, node_words_at}
use Rattle.walk_record.specs.Walk.{any_hit_at}
use Rattle.advance.specs.declared.Walk.{Walk}
use Rattle.advance.specs.declared.Answer.{Answer}
use Rattle.advance.specs.declared.Answer.TheVariants as A
use Rattle.advance.specs.Turn.{step_answer, walker_of, begun}
use Rattle.query.specs.Walk.{RecordSized}
use Rattle.query.proofs.Begins.{steady, leads_begun}
use Rattle.query.proofs.Leads.{Steady, Sought, seek_sought}
use Rattle.gate.proofs.Says.{Said}
use Rattle.query.proofs.Gated.{gated_absent, gated_skips, gated_past, gated_on}
use Rattle.query.specs.Ending.{Ending, ending}
use Rattle.any_hit_walk.specs.Gather.{met_in, done_by, any_hit_outcome, Walking, Counted}
use Rattle.any_hit_walk.proofs.Written.{met_next, met_front, met_over, met_kept}
use Rattle.any_hit_walk.proofs.Few.{seek_few}

pub walk_begins : (g : Gates) (bytes : List ℕ) (n : ℕ) (ray : Ray) (before : List ℕ) → FieldsFit bytes
    → (rays_of g).forged (walk_ray ray) ≡ false
    → (octant : ℕ) → octant ≡ octant_of ray.direction → (v : Walk) → v ≡ begun
    → Walking g bytes n ray (walker_of ray octant v (replicate capacity 0)) 0 before before
unfolding any_hit_at ones_below field
walk_begins g bytes n ray before fit accepted octant e v f = record {
  accumulator = [];
  leads = leads_begun g bytes n fit append [] ray accepted octant e v f;
  counted = refl;
  few = rw f (omega arith);
  met = sym (ap (splice before 0) (take-nil (length before)) ∙ splice_none before 0);
}

-- ---- the list that is written to

-- as it is, it may be written to,
pub walk_kept : {g : Gates} {bytes : List ℕ} {n : ℕ} {ray : Ray} {w : WalkerWords WalkRay} {count : ℕ} {before found : List ℕ}
    → Walking g bytes n ray w count before found → Walking g bytes n ray w count found found
walk_kept {before = before} {found = found} K =
    record {
      accumulator = K.accumulator;
      leads = K.leads;
      counted = K.counted;
      few = K.few;
      met = met_kept before K.accumulator found
          K.met;
    }

-- and then it is as if it had been written at once
pub walk_over : {g : Gates} {bytes : List ℕ} {n : ℕ} {ray : Ray} {u w : WalkerWords WalkRay} {less count : ℕ} {before between found : List ℕ}
    → Walking g bytes n ray u less before between → Walking g bytes n ray w count between found → less ≤ count
    → Walking g bytes n ray w count before found
walk_over {before = before} {found = found} J K h = record {
  accumulator = K.accumulator;
  leads = K.leads;
  counted = K.counted;
  few = K.few;
  met = K.met ∙ ap (λ (l : List ℕ). met_in l K.accumulator) J.met ∙ met_over before J.accumulator K.accumulator
      (omega (arith, J.counted, K.counted, h));
}

-- moved to the front of another list, it may be written to there
pub walk_moved : {g : Gates} {bytes : List ℕ} {n : ℕ} {ray : Ray} {w : WalkerWords WalkRay} {count : ℕ} {before found : List ℕ}
    → Walking g bytes n ray w count before found → count ≤ length found
    → (room : List ℕ) → count ≤ length room → (more : List ℕ) → more ≡ splice room 0 (take count found) → Walking g bytes n ray w count more more
walk_moved {count = count} {before = before} {found = found} K h room g more e =
    let f = met_front before K.accumulator found K.met count K.counted h in
    let l : take (length room) K.accumulator ≡ K.accumulator = take_all (length room) K.accumulator (omega (arith, K.counted)) in
    let m : more ≡ met_in room K.accumulator = e ∙ ap (splice room 0) (f ∙ sym l) in
    walk_kept {before = room} (record { accumulator = K.accumulator; leads = K.leads; counted = K.counted; few = K.few; met = m })

-- ---- on from a walk

module _ (g : Gates) {bytes : List ℕ} {n : ℕ} {ray : Ray} (sized : RecordSized bytes n) (fit : FieldsFit bytes)
    {w : WalkerWords WalkRay} {count : ℕ} {before found : List ℕ} (K : Walking g bytes n ray w count before found) where
  abbrev m : ℕ
  m = node_count bytes

  abbrev N : NodeWords WalkRay Float
  N = node_words_at bytes (rays_of g)

  steadily : Steady m N n
  steadily = steady g bytes n sized fit

  -- where a search for positions leaves it, at walker u
  abbrev pub After : Result Bool Refusal → WalkerWords WalkRay → Type 0
  After (Ok true) u = Counted g bytes n ray count u.tests × (found ≡ met_in before (any_hit_outcome g bytes n ray).accumulator)
  After (Ok false) u =
      Walking g bytes n ray u count before found × (steps_left_words m u < steps_left_words m w) × (ones_below 32 u.positions.bits ≤ 24)
  After (Err f) u = (any_hit_outcome g bytes n ray).ended ≡ S.refused (cause_number f)

  -- by the answer
  abbrev Seeks : S.Answer → WalkerWords WalkRay → Type 0
  Seeks b u = Sought m N n append (ending (any_hit_outcome g bytes n ray)) w K.accumulator b u × (ones_below 32 u.positions.bits ≤ 24)

  pub walk_seeks : w.positions.bits ≡ 0 → (k : ℕ) (a : Answer) (u : WalkerWords WalkRay)
      → record { walker = u; answer = step_answer a } ≡ seek_words m N k n w → After (done_by a) u
  unfolding done_by step_answer
  walk_seeks none k a u e =
      let z : w.positions.bits ≤ 0 = omega (arith, none) in
      go a (subst (λ (r : SteppedWords WalkRay). Seeks r.answer r.walker) (sym e) (seek_sought steadily k w K.leads z, seek_few m N n k w z))
    where
      go : (b : Answer) → Seeks (step_answer b) u → After (done_by b) u
      go (A.Tested v) (e, l) =
          let f : count + steps_left_words m u ≤ 25 * m = omega (arith, e.less, K.few) in
          (record { accumulator = K.accumulator; leads = e.leads; counted = K.counted; few = f; met = K.met }, e.less, l)
      go (A.Position p) (e, l) = absurd e
      go A.Done (e, l) = (
        record {
          ended = ap (λ (o : Ending (List ℕ)). o.ended) (sym e);
          all = K.counted ∙ ap (λ (o : Ending (List ℕ)). length o.noted) e;
          tested = ap (λ (o : Ending (List ℕ)). o.tests) e;
        },
        K.met ∙ ap (λ (o : Ending (List ℕ)). met_in before o.noted) e,
      )
      go (A.Refused j) (e, l) = ap (λ (o : Ending (List ℕ)). o.ended) (sym e)

  -- ---- a position in hand

  module _ (held : 0 < w.positions.bits) (p : ℕ) (named : p ≡ W.first_position w.positions) where
    -- one that is absent
    pub walk_absent : (refusal : Refusal) → Said g p (Err refusal) → (any_hit_outcome g bytes n ray).ended ≡ S.refused (cause_number refusal)
    walk_absent refusal s = ap (λ (o : Ending (List ℕ)). o.ended) (sym (gated_absent g bytes steadily K.leads held p named refusal s))

    -- one past the n
    pub walk_past : Said g p (Ok true) → n ≤ p → (any_hit_outcome g bytes n ray).ended ≡ S.refused 10
    walk_past s h = ap (λ (o : Ending (List ℕ)). o.ended) (sym (gated_past g bytes steadily K.leads held p named s h))

    -- the walker without its first position
    abbrev pub rest : W.Group → WalkerWords WalkRay
    rest q = record { ray = w.ray; tests = w.tests; positions = q; current = w.current; depth = w.depth; stack = w.stack }

    abbrev pub Noted : ℕ → W.Group → List ℕ → Type 0
    Noted k q found₁ = Walking g bytes n ray (rest q) k before found₁ × (ones_below 32 q.bits < ones_below 32 w.positions.bits)

    -- one that is passed over is not noted
    pub walk_skips : Said g p (Ok false) → (q : W.Group) → q ≡ W.rest_of w.positions → Noted count q found
    walk_skips s q e =
        let o = gated_skips g bytes steadily K.leads held p named s in
        subst (λ (x : W.Group). Noted count x found) (sym e) (
          record { accumulator = K.accumulator; leads = o.leads; counted = K.counted; few = omega (arith, o.less, K.few); met = K.met },
          omega (arith, o.less),
        )

    pub walk_notes : Said g p (Ok true) → p < n → (q : W.Group) → q ≡ W.rest_of w.positions → (found₁ : List ℕ) → found₁ ≡ set found count p
        → Noted (count + 1) q found₁
    walk_notes s h q f found₁ e =
        let o = gated_on g bytes steadily K.leads held p named s h refl in
        subst (λ (x : W.Group). Noted (count + 1) x found₁) (sym f) (
          record {
            accumulator = K.accumulator ++ (p ∷ []);
            leads = o.leads;
            counted = omega (arith, K.counted, length-append K.accumulator (p ∷ []));
            few = omega (arith, o.less, K.few);
            met = e ∙ met_next before K.accumulator found K.met count p K.counted;
          },
          omega (arith, o.less),
        )
