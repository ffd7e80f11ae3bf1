use Rattle.std.proofs.Common.{◌≡◌, ◌+◌, ◌<◌, ℕ, List, set, Bool, true, false, sym, ap, subst, ◌∙◌, arith, rules}
use Rattle.std.specs.Prelude.{Result, Ok, Err}
use Rattle.causes.specs.declared.Refusal.{Refusal}
use Rattle.record_shape.specs.Record.{node_count}
use Rattle.walk.specs.WordStep.{WalkerWords, SteppedWords, seek_words}
use Rattle.gate.specs.Gates.{Gates}
use Rattle.walk_record.specs.WalkRay.{WalkRay, rays_of}
use Rattle.walk_record.specs.Record.{node_words_at}
use Rattle.advance.specs.declared.Walk.{Walk}
use Rattle.advance.specs.Turn.{step_answer, group_of, walker_of}
use Rattle.advance.proofs.Seeks.{seeking_from}
use Rattle.query.specs.Walk.{RecordSized}
use Rattle.query.specs.declared.Query.{Query}
use Rattle.query.proofs.Begins.{sized_of}
use Rattle.any_hit_walk.specs.Gather.{Gathers, Stands}
use Rattle.any_hit_walk.specs.declared.Gathered.{Gathered}
use Rattle.gate.proofs.Says.{Said, says}
use Rattle.any_hit_walk.proofs.Walks.{walk_kept, walk_over, After, walk_seeks, walk_absent, walk_past, Noted, walk_skips, walk_notes}
use Rattle.any_hit_walk.proofs.gather.Goals as goal
use Rattle.any_hit_walk.proofs.gather.Goals.{After-done_by, After-admits}

-- ---- from node to node

module _ (g : _) (c : After-done_by g) where
  abbrev gates : Gates
  gates = g.G.Gate.gates c.args.gate

  abbrev query : Query
  query = c.args.query

  sized : RecordSized query.bvh.bytes.now query.bvh.positions
  sized = sized_of _ _ query.bvh.fit query.some

  -- the walker after a search
  abbrev u : WalkerWords WalkRay
  u = walker_of query.aim.ray query.aim.octant c.walk_after-walk.result c.seek_on-turn.new.stack

  -- by what is said of its answer
  after : (r : Result Bool Refusal) → c.done_by.result ≡ r → After gates sized query.fields c.loop-count.invariant.2 r u
  after r e =
      let bvh = query.bvh in
      let aim = query.aim in
      let turned : Walk → SteppedWords WalkRay =
      λ v. record { walker = walker_of aim.ray aim.octant v c.seek_on-turn.new.stack; answer = step_answer c.seek_on-turn.result.answer } in
      subst (λ (x : Result Bool Refusal). After gates sized query.fields c.loop-count.invariant.2 x u) (sym c.done_by.ensures ∙ e)
      (walk_seeks gates sized query.fields c.loop-count.invariant.2 c.loop-count.invariant.0 0xffff_ffff c.seek_on-turn.result.answer u
      (ap turned c.walk_after-walk.ensures ∙ c.seek_on-turn.ensures
      ∙ ap (seek_words (node_count bvh.bytes.now) (node_words_at bvh.bytes.now (rays_of gates)) 0xffff_ffff bvh.positions)
      (seeking_from aim.ray aim.octant c.loop-count.stack c.loop-count.walk c.loop-count.invariant.0)))

-- it goes on
goes : (g : _) (c : After-done_by g) → {done : Bool} → c.done_by.result ≡ Ok done → done ≡ false
    → After (gates g c) (sized g c) (query g c).fields c.loop-count.invariant.2 (Ok false) (u g c)
goes g c e h = after g c (Ok false) (e ∙ ap Ok h)

pub returns-in_err-done : goal.returns-in_err-done
returns-in_err-done g c =
    let k = (goal.at.returns-in_err-done g c).After-done_by in
    let q = query g k in
    let f = c.in_err-done.field-0.0 in
    let own : c.from_residual.result ≡ Err f = search rules in
    subst
    (λ (r : Result Gathered Refusal). Gathers (gates g k) q.bvh.bytes.now q.bvh.positions q.aim.ray q.aim.octant c.args.most c.args.found.now r
    c.seek_on-turn.new.stack c.loop-count.found)
    (sym own) (after g k (Err f) c.in_err-done.was)

pub returns-then-done : goal.returns-then-done
returns-then-done g c =
    let k = (goal.at.returns-then-done g c).After-done_by in
    let q = query g k in (
      c.loop-count.invariant.1,
      subst (λ (d : Bool). Stands (gates g k) q.bvh.bytes.now q.bvh.positions q.aim.ray d c.args.most (u g k) c.loop-count.count
          c.args.found.now c.loop-count.found)
          (sym c.if-done.true)
          (after g k (Ok true) (c.in_ok-done.was ∙ ap Ok c.if-done.true)),
    )

pub loop-walk-init : goal.loop-walk-init
loop-walk-init g c =
    let e = goes g (goal.at.loop-walk-init g c).After-done_by c.in_ok-done.was c.if-done.false in
    (omega arith, omega (arith, e.2), omega arith, walk_kept e.0)

pub loop-count-smaller : goal.loop-count-smaller
loop-count-smaller g c =
    let e = goes g (goal.at.loop-count-smaller g c).After-done_by c.in_ok-done.was c.if-done.false in
    omega (arith, e.1, c.loop-walk.invariant.2)

pub loop-count-preserved : goal.loop-count-preserved
loop-count-preserved g c = (
  omega (arith, c.loop-walk-test.false),
  omega (arith, c.loop-walk.invariant.1),
  walk_over c.loop-count.invariant.2 c.loop-walk.invariant.3 c.loop-walk.invariant.0,
)

-- ---- from position to position

module _ (g : _) (c : After-admits g) where
  sized_there : RecordSized c.args.query.bvh.bytes.now c.args.query.bvh.positions
  sized_there = sized_of _ _ c.args.query.bvh.fit c.args.query.some

  abbrev gates_there : Gates
  gates_there = g.G.Gate.gates c.args.gate

  -- what the gate says of it
  said : (r : Result Bool Refusal) → c.admits.result ≡ r → Said gates_there c.first_position-p.result r
  said r e = says gates_there c.first_position-p.result r (sym e ∙ c.admits.ensures)

  -- and then so many are noted
  abbrev NotedThen : ℕ → List ℕ → Type 0
  NotedThen k found =
      Noted gates_there sized_there c.args.query.fields c.loop-walk.invariant.3 c.loop-walk-test.true c.first_position-p.result
      c.first_position-p.ensures k (group_of c.rest_of-walk.result) found

  skips : {b : Bool} → c.admits.result ≡ Ok b → b ≡ false → NotedThen c.loop-walk.count c.loop-walk.found
  skips e f =
      walk_skips gates_there sized_there c.args.query.fields c.loop-walk.invariant.3 c.loop-walk-test.true c.first_position-p.result
      c.first_position-p.ensures (said (Ok false) (e ∙ ap Ok f)) _ c.rest_of-walk.ensures

  notes : {b : Bool} → c.admits.result ≡ Ok b → b ≡ true → c.first_position-p.result < c.args.query.bvh.positions → (found : List ℕ)
      → found ≡ set c.loop-walk.found c.loop-walk.count c.first_position-p.result → NotedThen (c.loop-walk.count + 1) found
  notes e f h found q =
      walk_notes gates_there sized_there c.args.query.fields c.loop-walk.invariant.3 c.loop-walk-test.true c.first_position-p.result
      c.first_position-p.ensures (said (Ok true) (e ∙ ap Ok f)) h _ c.rest_of-walk.ensures found q

pub returns-in_err-admitted : goal.returns-in_err-admitted
returns-in_err-admitted g c =
    let k = (goal.at.returns-in_err-admitted g c).After-admits in
    let q = c.args.query in
    let f = c.in_err-admitted.field-0.0 in
    let own : c.from_residual-in_err-admitted.result ≡ Err f = search rules in
    subst
    (λ (r : Result Gathered Refusal). Gathers (gates_there g k) q.bvh.bytes.now q.bvh.positions q.aim.ray q.aim.octant c.args.most c.args.found.now r
    c.seek_on-turn.new.stack c.loop-walk.found)
    (sym own)
    (walk_absent (gates_there g k) (sized_there g k) q.fields c.loop-walk.invariant.3 c.loop-walk-test.true c.first_position-p.result
    c.first_position-p.ensures f (said g k (Err f) c.in_err-admitted.was))

pub loop-walk-smaller-then-not-admitted : goal.loop-walk-smaller-then-not-admitted
loop-walk-smaller-then-not-admitted g c =
    let h = skips g (goal.at.loop-walk-smaller-then-not-admitted g c).After-admits c.in_ok-admitted.was c.if-not-admitted.true in
    omega (arith, h.1)

pub loop-walk-preserved-then-not-admitted : goal.loop-walk-preserved-then-not-admitted
loop-walk-preserved-then-not-admitted g c =
    let h = skips g (goal.at.loop-walk-preserved-then-not-admitted g c).After-admits c.in_ok-admitted.was c.if-not-admitted.true in
    let i = c.loop-walk.invariant in
    (i.0, omega (arith, h.1, i.1), omega (arith, h.1, i.2), h.0)

pub returns-then-p-query : goal.returns-then-p-query
returns-then-p-query g c =
    let k = (goal.at.returns-then-p-query g c).After-admits in
    walk_past (gates_there g k) (sized_there g k) c.args.query.fields c.loop-walk.invariant.3 c.loop-walk-test.true c.first_position-p.result
    c.first_position-p.ensures (said g k (Ok true) (c.in_ok-admitted.was ∙ ap Ok c.if-not-admitted.false)) c.if-p-query.true

pub loop-walk-smaller : goal.loop-walk-smaller
loop-walk-smaller g c =
    let h = notes g (goal.at.loop-walk-smaller g c).After-admits c.in_ok-admitted.was c.if-not-admitted.false c.if-p-query.false _ c.note.ensures in
    omega (arith, h.1)

pub loop-walk-preserved : goal.loop-walk-preserved
loop-walk-preserved g c =
    let h = notes g (goal.at.loop-walk-preserved g c).After-admits c.in_ok-admitted.was c.if-not-admitted.false c.if-p-query.false _ c.note.ensures in
    let i = c.loop-walk.invariant in
    (omega (arith, i.0), omega (arith, h.1, i.1), omega (arith, h.1, i.2), h.0)

pub returns : goal.returns
returns g c = (c.loop-count.invariant.1, (c.loop-count-test.false, c.loop-count.invariant.0, c.loop-count.invariant.2))
