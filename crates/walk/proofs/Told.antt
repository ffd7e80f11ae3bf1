-- Whatever is told, a list of calls tests and reports only what lies within bounds of all rays that telling makes of the first. So it reports only
-- positions that the ray passes with the reach that it began with, where telling makes a ray find no more of any node.
use mathlib.Core.Bool.{Bool, true, false}
use mathlib.Core.List.{List, [], ◌∷◌, ◌++◌}
use mathlib.Core.Logic.{◌⊎◌, inl, inr}
use mathlib.Core.Path.{◌≡◌, refl, sym, ap, subst}
use Prim.Native.Nat.{ℕ, ◌+◌, ◌<◌}
use native.Mathlib.Omega.{arith}
use lib.Bits.{bit_xor}
use Rattle.lists.proofs.Tells.{told, tells_true}
use Rattle.walk.specs.Tests.{Tests}
use Rattle.walk.specs.Step.{Walker, Answer, tested, position, done, refused, fresh, Stepped, push, step_of, tell_of}
use Rattle.walk.specs.Calls.{All, Op, step, tell, run_ops, reported}
use Rattle.walk.specs.Reports.{tested_nodes}
use Rattle.walk.specs.Listing.{In, flat, ReachedBy, first, child, PassedBy, PassedIn}
use Rattle.walk.specs.Slots.{falling, WalkRecord, child_number, passed_child, passed_position, tests_of}
use Rattle.walk.proofs.Lists.{all_map, in_head, in_tail, in_none, in_one, in_right, in_append}
use Rattle.walk.proofs.Dues.{flats, push_flats, report_hand, test_flat}
use Rattle.walk.proofs.Cases.{step_cases}
use Rattle.walk.proofs.Falling.{in_falling, falling_in}
use Rattle.walk.proofs.Slots.{child_tells, position_tells}

abbrev single : ℕ → List ℕ
single c = c ∷ []

flat_single : (l : List ℕ) → flat single l ≡ l
flat_single [] = refl
flat_single (x ∷ l) = ap (x ∷◌) (flat_single l)

module _ {RayData Distance : Type 0} (m : ℕ) (T : Tests RayData Distance) where
  -- of every node ray q finds no more than ray r
  pub record Fewer (r q : RayData) : Type 0 where
    pub positions : (v p : ℕ) → In p (T.positions q v) → In p (T.positions r v)
    pub children : (v c : ℕ) → In c (T.children q v) → In c (T.children r v)

  -- of every node that it may test ray r finds children and positions of these kinds, and those that are not absent for it are present
  pub record Within (Child Position : ℕ → ℕ → Type 0) (Present : ℕ → Type 0) (r : RayData) : Type 0 where
    pub children : (v c : ℕ) → T.forged r ≡ false → v < m → In c (T.children r v) → Child v c
    pub positions : (v p : ℕ) → T.forged r ≡ false → v < m → In p (T.positions r v) → Position v p
    pub present : (p : ℕ) → T.absent r p ≡ false → Present p

  -- the nodes that a walker holds and has not tested
  abbrev untested : Walker RayData → List ℕ
  untested w = flat single w.group ++ flats single w.stack

  -- ---- whatever is told

  -- Of rays some are kept by telling. What such a ray finds of a node lies within `Child` and `Position`, and a position that is not absent for it is
  -- `Present`.
  module _ (Kept : RayData → Type 0) (kept : (x : Distance) (r : RayData) → Kept r → Kept (T.told x r)) (Child Position : ℕ → ℕ → Type 0)
      (Present : ℕ → Type 0) (within : (r : RayData) → Kept r → Within Child Position Present r) where
    -- what a walker holds that began with such a ray is passed and reached by these
    record Came (w : Walker RayData) : Type 0 where
      pub held : Kept w.ray
      pub positions : (p : ℕ) → In p w.positions → PassedBy m Child Position p
      pub nodes : (c : ℕ) → In c (untested w) → c < m → ReachedBy m Child c

    -- and so is what its answers test and report
    abbrev Meets : Answer → Type 0
    Meets (tested v) = ReachedBy m Child v
    Meets (position p) = PassedBy m Child Position p × Present p
    Meets done = Unit {0}
    Meets (refused e) = Unit {0}

    record Comes (r : Stepped RayData) : Type 0 where
      pub came : Came r.walker
      pub meets : Meets r.answer

    step_comes : (n : ℕ) (w : Walker RayData) → Came w → Comes (step_of m T n w)
    step_comes n w h =
        step_cases m T n w Comes
        (record {
          refuses = λ e c. record { came = h; meets = tt };
          ends = λ f e. record { came = h; meets = tt };
          empties = λ f z o. record {
            came = record { held = h.held; positions = h.positions; nodes = λ c i. h.nodes c (in_right c (flat single w.group) _ i) };
            meets = tt;
          };
          reports = λ p ps q.
              let e = report_hand w.positions w.group w.stack p ps q.is_due in record {
                came = record { held = h.held; positions = λ x i. h.positions x (subst (In x) (sym e) (in_tail x p ps i)); nodes = h.nodes };
                meets = (h.positions p (subst (In p) (sym e) (in_head p ps)), (within w.ray h.held).present p q.present);
              };
          visits = λ c r st q.
              let e = test_flat w.positions w.group w.stack c r st q.is_due single in
              let here = h.nodes c (subst (In c) (sym e) (in_head c (flat single r ++ flats single st))) q.node in record {
                came = record {
                  held = h.held;
                  positions = λ p i. (c, here, (within w.ray h.held).positions c p q.accepted q.node i);
                  nodes = λ x i.
                      below x c r st here q.accepted q.node e (in_append x (flat single (T.children w.ray c)) (flats single (push r st)) i);
                };
                meets = here;
              };
        })
      where
        below : (x c : ℕ) (r : List ℕ) (st : List (List ℕ)) → ReachedBy m Child c → T.forged w.ray ≡ false → c < m
            → untested w ≡ c ∷ (flat single r ++ flats single st)
            → In x (flat single (T.children w.ray c)) ⊎ In x (flats single (push r st)) → x < m → ReachedBy m Child x
        below x c r st here f k e (inl i) l =
            child here ((within w.ray h.held).children c x f k (subst (In x) (flat_single (T.children w.ray c)) i))
        below x c r st here f k e (inr i) l = h.nodes x (subst (In x) (sym e) (in_tail x c _ (subst (In x) (push_flats single r st) i))) l

    tell_came : (x : Distance) (w : Walker RayData) → Came w → Came (tell_of T x w)
    tell_came x w h = record { held = kept x w.ray h.held; positions = h.positions; nodes = h.nodes }

    -- the nodes that a list of calls tests, and the positions that it reports
    record MeetsAll (a : List Answer) : Type 0 where
      pub tests : All (ReachedBy m Child) (tested_nodes a)
      pub reports : All (λ p. PassedBy m Child Position p × Present p) (reported a)

    meets_all : (b : Answer) (a : List Answer) → Meets b → MeetsAll a → MeetsAll (b ∷ a)
    meets_all (tested v) a h k = record { tests = (h, k.tests); reports = k.reports }
    meets_all (position p) a h k = record { tests = k.tests; reports = (h, k.reports) }
    meets_all done a h k = record { tests = k.tests; reports = k.reports }
    meets_all (refused e) a h k = record { tests = k.tests; reports = k.reports }

    run_meets : (l : List (Op Distance)) (w : Walker RayData) → Came w → MeetsAll (run_ops m T l w).answers
    unfolding run_ops
    run_meets [] w h = record { tests = tt; reports = tt }
    run_meets (step n ∷ l) w h =
        let c = step_comes n w h in
        meets_all (step_of m T n w).answer (run_ops m T l (step_of m T n w).walker).answers c.meets (run_meets l (step_of m T n w).walker c.came)
    run_meets (tell x ∷ l) w h = run_meets l (tell_of T x w) (tell_came x w h)

    -- from a walker just begun: each node tested is reached, and each position reported is passed and present
    pub calls_within : (ray : RayData) → Kept ray → (l : List (Op Distance))
        → All (ReachedBy m Child) (tested_nodes (run_ops m T l (fresh ray)).answers)
        × All (λ p. PassedBy m Child Position p × Present p) (reported (run_ops m T l (fresh ray)).answers)
    calls_within ray held l =
        let a =
        run_meets l (fresh ray)
        (record { held = held; positions = λ p i. in_none p i; nodes = λ c i h. let e = in_one c 0 i in first e (omega arith) }) in
        (a.tests, a.reports)

  -- where telling makes a ray find no more of any node, positions are passed by the ray as begun
  pub calls_pass : ((x : Distance) (r : RayData) → Fewer r (T.told x r)) → (ray : RayData) (l : List (Op Distance))
      → All (PassedIn m T ray) (reported (run_ops m T l (fresh ray)).answers)
  calls_pass fewer ray l =
      all_map (λ p q. q.0) (reported (run_ops m T l (fresh ray)).answers)
      (calls_within (Fewer ray) lowered (λ v c. In c (T.children ray v)) (λ v p. In p (T.positions ray v)) (λ p. Unit {0})
      (λ r f. record { positions = λ v p a h i. f.positions v p i; children = λ v c a h i. f.children v c i; present = λ p e. tt })
      ray (record { positions = λ v p i. i; children = λ v c i. i }) l).1
    where
      lowered : (x : Distance) (r : RayData) → Fewer ray r → Fewer ray (T.told x r)
      lowered x r f = record {
        positions = λ v p i. f.positions v p ((fewer x r).positions v p i);
        children = λ v c i. f.children v c ((fewer x r).children v c i);
      }

-- ---- slots

falling_more : (f : ℕ → ℕ) (b c : ℕ → Bool) (w : ℕ) → ((i : ℕ) → b i ≡ true → c i ≡ true) → (x : ℕ) → In x (falling f b w) → In x (falling f c w)
falling_more f b c w h x i =
    let q = in_falling x f b w i in subst (λ (y : ℕ). In y (falling f c w)) (sym q.3) (falling_in f c w q.0 q.1 (h q.0 q.2))

module _ {RayData Distance : Type 0} (W : WalkRecord RayData Distance) where
  -- a ray that was told something passes no more slots and admits no more positions, and has its octant
  pub record Lowers : Type 0 where
    pub passes : (x : Distance) (r : RayData) (v j : ℕ) → W.passes (W.told x r) v j ≡ true → W.passes r v j ≡ true
    pub admits : (x : Distance) (r : RayData) (p : ℕ) → W.admits (W.told x r) p ≡ true → W.admits r p ≡ true
    pub octant : (x : Distance) (r : RayData) → W.octant (W.told x r) ≡ W.octant r

  module _ (lowers : Lowers) where
    child_more : (x : Distance) (r : RayData) (v j : ℕ) → passed_child W (W.told x r) v j ≡ true → passed_child W r v j ≡ true
    child_more x r v j e =
        let t = told (child_tells W (W.told x r) v j) e in tells_true (child_tells W r v j) (t.0, lowers.passes x r v j t.1)

    position_more : (x : Distance) (r : RayData) (v p : ℕ) → passed_position W (W.told x r) v p ≡ true → passed_position W r v p ≡ true
    position_more x r v p e =
        let t = told (position_tells W (W.told x r) v p) e in
        tells_true (position_tells W r v p)
        ((t.0.0, t.0.1, (t.0.2.0, lowers.passes x r v t.0.0 t.0.2.1)), lowers.admits x r p t.1)

    pub slots_fewer : (x : Distance) (r : RayData) → Fewer W.shape.nodes (tests_of W) r (W.told x r)
    slots_fewer x r = record {
      positions = λ v p i. falling_more (λ b. W.position_base v + b) _ _ 24 (λ b e. position_more x r v (W.position_base v + b) e) p i;
      children = λ v c i.
          falling_more (λ k. child_number W v (bit_xor k (W.octant r))) _ _ 8 (λ k e. child_more x r v (bit_xor k (W.octant r)) e) c
          (subst (λ (o : ℕ). In c (falling (λ k. child_number W v (bit_xor k o)) (λ k. passed_child W (W.told x r) v (bit_xor k o)) 8))
          (lowers.octant x r) i);
    }
