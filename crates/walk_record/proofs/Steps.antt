-- Steps on the nodes of any record, sound or not: what they are on lists, what they keep, and a measure for loops over them.
use mathlib.Core.Bool.{true, cond}
use mathlib.Core.Path.{◌≡◌}
use Prim.Native.Nat.{ℕ, ◌<◌}
use Rattle.record_shape.specs.Record.{Nodes, shape_in}
use Rattle.walk.specs.Step.{done, refused, step_of}
use Rattle.causes.specs.Sizes.{sizes_fit}
use Rattle.walk.specs.Queries.{Reaction, Going}
use Rattle.walk.specs.Slots.{positions_passed, children_passed, tests_of}
use Rattle.walk.specs.WordStep.{WalkerWords, stay_words, forged_words, decoded_step, decoded, WordsFit, Decodes}
use Rattle.walk.specs.WordQueries.{query_words}
use Rattle.walk.proofs.Masks.{masks_decode}
use Rattle.walk.proofs.WordStep.{step_decoded}
use Rattle.walk.proofs.WordRuns
use Rattle.walk.proofs.WordEnds.{steps_left_words, words_fall, query_words_enough}
use Rattle.walk.proofs.WordKept.{Finished, LeavesOf, words_leave, finished_step, words_done_stays}
use Rattle.walk_record.specs.Record.{Rays, RayLaws, FieldsFitIn, slots_in, mask_in, node_words_in}
use Rattle.walk_record.specs.Walk.{step_in}
use Rattle.walk_record.proofs.Laws.{mask_laws}

-- ---- for any walker of words

module _ {RayData Distance : Type 0} (N : Nodes) (R : Rays RayData Distance) (n : ℕ) (w : WalkerWords RayData) where
  -- a step that is refused leaves the walker as it was, and one that is done leaves nothing to do;
  pub step_leaves : LeavesOf N.count (node_words_in N R) n w (step_in N R n w)
  unfolding step_in
  step_leaves = words_leave N.count (node_words_in N R) n w

  -- where nothing is left to do every step leaves the walker as it is, done if nothing refuses it;
  pub step_finished : Finished w
      → step_in N R n w
      ≡ cond (sizes_fit N.count n)
      (cond (forged_words N.count (node_words_in N R) w) (stay_words w (refused 10)) (stay_words w done))
      (stay_words w (refused 2))
  unfolding step_in
  step_finished = finished_step N.count (node_words_in N R) n w

  -- and a walker that is done stays so
  pub done_stays : (step_in N R n w).answer ≡ done → (k : ℕ) → sizes_fit N.count k ≡ true
      → step_in N R k (step_in N R n w).walker ≡ stay_words (step_in N R n w).walker done
  unfolding step_in
  done_stays = words_done_stays N.count (node_words_in N R) n w

-- ---- for words in range

module _ {RayData Distance : Type 0} (N : Nodes) (R : Rays RayData Distance) (laws : RayLaws R) (fit : FieldsFitIn N) where
  -- the words of its nodes stand for the positions and children that slot tests find
  pub decodes : (n : ℕ) → Decodes N.count (node_words_in N R) (positions_passed (slots_in N R n)) (children_passed (slots_in N R n))
  unfolding shape_in
  decodes n = masks_decode (slots_in N R n) (mask_in N R) (mask_laws N R laws n fit)

  -- a step is the step on the lists that the walker's words stand for,
  pub step_on_lists : (n : ℕ) (w : WalkerWords RayData) → WordsFit w
      → decoded_step (node_words_in N R) (step_in N R n w) ≡ step_of N.count (tests_of (slots_in N R n)) n (decoded (node_words_in N R) w)
  unfolding step_in
  step_on_lists n w i =
      step_decoded N.count (node_words_in N R) (positions_passed (slots_in N R n)) (children_passed (slots_in N R n)) (decodes n) n w i

  -- leaves words in range,
  pub step_range : (n : ℕ) (w : WalkerWords RayData) → WordsFit w → WordsFit (step_in N R n w).walker
  unfolding step_in
  step_range n w i = WordRuns.step_range N.count (node_words_in N R) (positions_passed (slots_in N R n)) (children_passed (slots_in N R n))
      (decodes n)
      n w i

  -- and, where there is a next one, lowers the number of steps left
  pub step_falls : (n : ℕ) (w : WalkerWords RayData) → WordsFit w → Going (step_in N R n w).answer
      → steps_left_words N.count (step_in N R n w).walker < steps_left_words N.count w
  unfolding step_in
  step_falls n w i = words_fall N.count (node_words_in N R) n w i

  -- so that a query with more steps than are left is always the same
  pub query_enough : {a : Type 0} (react : ℕ → RayData → a → Reaction Distance a) (f g n : ℕ) (w : WalkerWords RayData) (x : a) → WordsFit w
      → steps_left_words N.count w < f → steps_left_words N.count w < g
      → query_words N.count (node_words_in N R) react f n w x ≡ query_words N.count (node_words_in N R) react g n w x
  query_enough react f g n w x i h k =
      query_words_enough N.count (node_words_in N R) (positions_passed (slots_in N R n)) (children_passed (slots_in N R n))
      (decodes n) react f g n w x i h k
