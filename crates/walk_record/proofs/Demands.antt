-- Walks over every sound record, of every ray that is not forged, in the words that code computes. What holds on lists is carried across by two
-- equations: a list of calls, and a query, stand for those on lists.
use mathlib.Core.Bool.{Bool, true, false}
use mathlib.Core.List.{List, ◌++◌, Nodup}
use mathlib.Core.Path.{◌≡◌, sym, ap, ◌∙◌, subst}
use Prim.Native.Nat.{ℕ, ◌≤◌, ◌<◌}
use native.Mathlib.Omega.{arith}
use lib.ListN.{length}
use Rattle.soundness.specs.Sound.{Deepest}
use Rattle.record_shape.specs.Record.{Nodes, shape_in, RuleIn, SoundIn}
use Rattle.walk.specs.Tests.{Tests}
use Rattle.walk.specs.Step.{Answer, fresh}
use Rattle.walk.specs.Calls.{All, Op, Run, run_ops, reported, Answered, StepsWith}
use Rattle.walk.specs.Lawful.{SoundTests, Unrefused}
use Rattle.walk.specs.Listing.{flat, listing, reached_from}
use Rattle.walk.specs.Queries.{Reaction, QueryOutcome, query, steps_for, Halted, Ended}
use Rattle.walk.specs.Slots.{WalkRecord, positions_passed, children_passed, tests_of, ReachedBySlots, PassedBySlots, SlotLaws}
use Rattle.walk.specs.WordStep.{fresh_words, decoded_run}
use Rattle.walk.specs.WordQueries.{decoded_outcome}
use Rattle.walk.proofs.Lists.{all_map}
use Rattle.walk.proofs.Once
use Rattle.walk.proofs.Levels
use Rattle.walk.proofs.Valid
use Rattle.walk.proofs.Listing.{listing_is}
use Rattle.walk.proofs.Ends
use Rattle.walk.proofs.AnyHit.{Meets}
use Rattle.walk.proofs.AnyHit
use Rattle.walk.proofs.Slots.{slots_narrow, slots_sound, reached_iff, passed_iff}
use Rattle.walk.proofs.Told.{slots_fewer}
use Rattle.walk.proofs.Told
use Rattle.walk.proofs.Stacks.{groups-length}
use Rattle.walk.proofs.WordRuns.{calls_decoded}
use Rattle.walk.proofs.WordQueries.{fresh_query}
use Rattle.walk_record.specs.Record.{Rays, RayLaws, AllPresent, FieldsFitIn, slot_test, slots_in, node_words_in}
use Rattle.walk_record.specs.Walk.{run_in, query_in, any_hit_in, listing_in}
use Rattle.walk_record.proofs.Laws.{slot_laws}
use Rattle.walk_record.proofs.Steps.{decodes}

-- ---- any record

module _ {RayData Distance : Type 0} (N : Nodes) (R : Rays RayData Distance) (rays : RayLaws R) (fields : FieldsFitIn N) (n : ℕ) (r : RayData)
    (accepted : R.forged r ≡ false) where
  -- the run of a list of calls stands for the run on lists,
  pub run_on_lists : (l : List (Op Distance))
      → decoded_run (node_words_in N R) (run_in N R l (fresh_words r)) ≡ run_ops N.count (tests_of (slots_in N R n)) l (fresh r)
  unfolding run_in
  run_on_lists l = calls_decoded N.count (node_words_in N R) _ _ (decodes N R rays fields n) l r accepted

  module _ {a : Type 0} (react : ℕ → RayData → a → Reaction Distance a) (x : a) where
    -- and a query for the query on lists;
    pub query_on_lists : decoded_outcome (node_words_in N R) (query_in N R react x n r)
        ≡ query N.count (tests_of (slots_in N R n)) react (steps_for N.count) n (fresh r) x
    unfolding query_in
    query_on_lists = fresh_query N.count (node_words_in N R) _ _ (decodes N R rays fields n) react (steps_for N.count) n r x accepted

    -- so every query ends
    pub query_halts : Halted (query_in N R react x n r).ended
    query_halts =
        subst (λ (o : QueryOutcome RayData a). Halted o.ended) (sym query_on_lists)
        (Ends.query_halts N.count (tests_of (slots_in N R n)) (slots_narrow (slots_in N R n) _) react n r x)

-- ---- a sound record

-- What a walk over one needs: lawful rays, fields that fit, a sound record of sizes that fit, no position absent, and a ray that is not forged.
pub record SoundWalk {RayData Distance : Type 0} (N : Nodes) (R : Rays RayData Distance) (n : ℕ) (r : RayData) : Type 0 where
  pub rays : RayLaws R
  pub fields : FieldsFitIn N
  pub sound : SoundIn N n
  pub nodes : N.count ≤ 65535
  pub positions : n ≤ 65536
  pub present : AllPresent R n
  pub accepted : R.forged r ≡ false

module _ {RayData Distance : Type 0} {N : Nodes} {R : Rays RayData Distance} {n : ℕ} {r : RayData} (w : SoundWalk N R n r) where
  abbrev W : WalkRecord RayData Distance
  W = slots_in N R n

  abbrev T : Tests RayData Distance
  T = tests_of W

  laws : SlotLaws W (RuleIn N n)
  laws = slot_laws N R w.rays n

  K : SoundTests (shape_in N n) (RuleIn N n) T
  K = slots_sound W (RuleIn N n) laws w.sound

  U : Unrefused (shape_in N n) T
  unfolding shape_in
  U = record { positions = w.positions; nodes = w.nodes; present = w.present; narrow = slots_narrow W _ }

  -- ---- every list of steps and tellings from a walker just begun, refused steps included

  run_is : (l : List (Op Distance)) → decoded_run (node_words_in N R) (run_in N R l (fresh_words r)) ≡ run_ops N.count T l (fresh r)
  run_is = run_on_lists N R w.rays w.fields n r w.accepted

  -- what holds of the answers on lists holds of the answers
  carried : (P : List Answer → Type 0) (l : List (Op Distance)) → P (run_ops N.count T l (fresh r)).answers
      → P (run_in N R l (fresh_words r)).answers
  carried P l = subst P (sym (ap (λ (q : Run RayData). q.answers) (run_is l)))

  -- no position is reported twice,
  pub calls_report_once : (l : List (Op Distance)) → Nodup (reported (run_in N R l (fresh_words r)).answers)
  unfolding shape_in
  calls_report_once l = carried (λ a. Nodup (reported a)) l (Once.calls_report_once K l r)

  -- and the waiting groups of the walker then held do not outnumber the deepest node's level
  pub calls_wait_few : (e : ℕ) → Deepest (shape_in N n) e → (l : List (Op Distance)) → (run_in N R l (fresh_words r)).walker.depth ≤ e
  unfolding shape_in
  calls_wait_few e deepest l =
      let u = (run_in N R l (fresh_words r)).walker in
      let q = ap (λ (z : Run RayData). length z.walker.stack) (run_is l) in
      omega (arith, groups-length (R.octant u.ray) u.depth u.stack, Levels.calls_wait_few K e deepest l r)

  -- Where telling makes a ray pass no more slots, only positions that the ray as begun passes are reported.
  pub calls_pass : ((x : Distance) (q : RayData) (v j : ℕ) → slot_test N R (R.told x q) v j ≡ true → slot_test N R q v j ≡ true)
      → (l : List (Op Distance)) → All (PassedBySlots W r) (reported (run_in N R l (fresh_words r)).answers)
  unfolding shape_in
  calls_pass lower l =
      carried (λ a. All (PassedBySlots W r) (reported a)) l
      (all_map (λ p. (passed_iff W (RuleIn N n) laws w.sound r w.accepted p).0) (reported (run_ops N.count T l (fresh r)).answers)
      (Told.calls_pass N.count T (slots_fewer W lowers) r l))
    where
      lowers : Told.Lowers W
      lowers = record {
        passes = lower;
        admits = λ x q p e. ap (λ (f : ℕ → Bool). f p) (sym (w.rays.admits_told x q)) ∙ e;
        octant = w.rays.octant_told;
      }

  -- where each step brings the record's own count of positions none is refused
  pub calls_answered : (l : List (Op Distance)) → All (StepsWith n) l → All Answered (run_in N R l (fresh_words r)).answers
  unfolding shape_in
  calls_answered l b = carried (λ a. All Answered a) l (Valid.calls_answered K U l r w.accepted b)

  -- ---- queries

  -- none is refused by the walk
  pub query_answered : {a : Type 0} (react : ℕ → RayData → a → Reaction Distance a) (x : a) → Ended (query_in N R react x n r).ended
  unfolding shape_in
  query_answered {a} react x =
      subst (λ (o : QueryOutcome RayData a). Ended o.ended) (sym (query_on_lists N R w.rays w.fields n r w.accepted react x))
      (Ends.query_answered K U react r w.accepted x)

  -- any-hit lists the first node's listing, each position passed once and no other, after as many tests as nodes are reached
  pub any_hit_meets : Meets n (listing_in N R n r) (ReachedBySlots W r) (PassedBySlots W r) (decoded_outcome (node_words_in N R) (any_hit_in N R n r))
  unfolding shape_in
  any_hit_meets =
      subst (Meets n (listing_in N R n r) (ReachedBySlots W r) (PassedBySlots W r))
      (sym (query_on_lists N R w.rays w.fields n r w.accepted _ _))
      (AnyHit.meets_as (λ v. reached_iff W (RuleIn N n) laws w.sound r w.accepted v)
      (λ p. passed_iff W (RuleIn N n) laws w.sound r w.accepted p) (AnyHit.any_hit_meets K U r w.accepted))

  -- the tests are those of the nodes gathered from the first,
  pub any_hit_tests : (any_hit_in N R n r).walker.tests ≡ length (reached_from N.count T r 0)
  unfolding shape_in
  any_hit_tests =
      ap (λ (o : QueryOutcome RayData (List ℕ)). o.walker.tests) (query_on_lists N R w.rays w.fields n r w.accepted _ _)
      ∙ AnyHit.any_hit_tests K U r w.accepted

  -- and a node lists what the ray passes in it, then what its reached children list, each in the order of the walk
  pub listing_order : (v : ℕ) → v < N.count
      → listing N.count T r v ≡ positions_passed W r v ++ flat (listing N.count T r) (children_passed W r v)
  unfolding shape_in
  listing_order = listing_is K r w.accepted
