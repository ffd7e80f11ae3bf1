-- Walks computed, over three nodes, the first with a leaf in slot 2 and children in slots 0 and 5.
use mathlib.Core.Bool.{Bool, false, true, not, ◌||◌}
use mathlib.Core.List.{List, [], ◌∷◌, ◌++◌}
use mathlib.Core.Path.{◌≡◌, refl}
use Prim.Native.Nat.{ℕ}
use lib.Count.{count_leading_zeros}
use lib.Dec.{eqb}
use lib.IntN.{pos, negsuc}
use lib.Ieee.{Float, inf, fin, round, of_bits, of_int, add, sub, mul, div, lt, le, eq, is_nan}
use lib.ListN.{replicate}
use Rattle.float.specs.Compare.{min_of, max_of, unsigned_zero, is_minus_zero, in_bounds}
use Rattle.float.specs.PowerOfTwo.{scale_of}
use Rattle.words.specs.Fields.{field}
use Rattle.words.specs.Le.{le_at, sum_of}
use Rattle.words.specs.Ones.{ones_below}
use Rattle.words.specs.Ors.{or_of}
use Rattle.faststack.specs.Stack.{pushed, top_of}
use Rattle.ray.specs.Ray.{safe_inverse, octant_of, unsigned_vec, plain_vec, ray_of, counts, bounded_vec, accepted_ray}
use Rattle.node.specs.Node.{slot_offset, slot_from, node_from, child_index}
use Rattle.node_rule.specs.Rule.{point_ok, exponent_ok, head_ok, children_ok, leaf_top, slot_ok, slots_ok, node_rule}
use Rattle.node_slot.specs.Slot.{near_limit, adjusted_inverse, adjusted_origin, plane_at, near_of, far_of, passes}
use Rattle.node_slot.specs.Mask.{hit_bits, slot_hit, hit_mask}
use Rattle.walk.specs.Step.{tested, position, done, refused}
use Rattle.walk.specs.Calls.{step, tell}
use Rattle.walk.specs.Words.{Group}
use Rattle.walk.specs.WordStep.{WalkerWords, no_group, fresh_words, step_words, advance_words, report_words, visit_words, pop_words, run_words}
use Rattle.walk.specs.WordQueries.{query_words}
use Rattle.walk_record.specs.Record.{Rays}
use Rattle.walk_record.specs.WalkRay.{WalkRay, walk_ray, rays_of, by_boxes}
use Rattle.walk_record.specs.Walk.{run_at, query_at, any_hit_at}

-- a node with this mask, these two bases and these metas; every slot has the whole box
abbrev node : ℕ → ℕ → ℕ → List ℕ → List ℕ
node mask children positions metas =
    replicate 12 0 ++ (120 ∷ 120 ∷ 120 ∷ mask ∷ children ∷ 0 ∷ 0 ∷ 0 ∷ positions ∷ 0 ∷ 0 ∷ 0 ∷ []) ++ metas
    ++ replicate 8 0 ++ replicate 8 255 ++ replicate 8 0 ++ replicate 8 255 ++ replicate 8 0 ++ replicate 8 255

-- positions 0; 1 and 2; 3
abbrev three : List ℕ
three =
    node 33 1 0 (56 ∷ 0 ∷ 32 ∷ 0 ∷ 0 ∷ 61 ∷ 0 ∷ 0 ∷ []) ++ node 0 3 1 (96 ∷ 0 ∷ 0 ∷ 0 ∷ 0 ∷ 0 ∷ 0 ∷ 0 ∷ [])
    ++ node 0 3 3 (32 ∷ 0 ∷ 0 ∷ 0 ∷ 0 ∷ 0 ∷ 0 ∷ 0 ∷ [])

abbrev nought : Float
nought = fin false 0 (pos 0)

abbrev half : Float
half = fin false 1 (negsuc 0)

-- from (x, 0.5, 0.5) along (u, 0, 0), without end
abbrev beam : Float → Float → WalkRay
beam x u = walk_ray (ray_of (record { x = x; y = half; z = half }) (record { x = u; y = nought; z = nought }) nought (inf false))

-- along x, octant 7; and against it, octant 3
abbrev along : WalkRay
along = beam (fin true 1 (pos 0)) (fin false 1 (pos 0))

abbrev against : WalkRay
against = beam (fin false 3 (pos 0)) (fin true 1 (pos 0))

-- a walker without tests that holds these positions and this group
abbrev holds : Group → Group → WalkerWords WalkRay
holds positions current = record { ray = along; tests = 0; positions = positions; current = current; depth = 0; stack = replicate 32 0 }

-- with a test of positions, or with positions that are not there
abbrev with_positions : (ℕ → Bool) → (ℕ → Bool) → Rays WalkRay Float
with_positions admits absent = rays_of (record { opens = λ v k. true; admits = admits; absent = absent; forged = false })

pub record Examples : Type 0 where
  -- slot 0 comes before slot 5 in octant 7, and after it in octant 3; positions fall in both
  pub octant_7 : (any_hit_at three by_boxes 4 along).accumulator ≡ 0 ∷ 2 ∷ 1 ∷ 3 ∷ []
  pub octant_3 : (any_hit_at three by_boxes 4 against).accumulator ≡ 0 ∷ 3 ∷ 2 ∷ 1 ∷ []
  -- a count too small refuses a position and one too large is refused as such, and the walker goes on; a told 0 lets nothing more pass, but what
  -- is in hand is reported and what waits is tested; a walker that is done stays so
  pub mixed :
      (run_at three by_boxes (step 4 ∷ step 0 ∷ step 65537 ∷ step 4 ∷ step 4 ∷ tell nought ∷ step 4 ∷ step 4 ∷ step 4 ∷ step 4 ∷ step 4 ∷ [])
      (fresh_words along)).answers
      ≡ tested 0 ∷ refused 10 ∷ refused 2 ∷ position 0 ∷ tested 1 ∷ position 2 ∷ position 1 ∷ tested 2 ∷ done ∷ done ∷ []
  -- without nodes a position in hand is reported if it is below the count, and a group other than the first node is refused
  pub position_without_nodes :
      (run_at [] by_boxes (step 0 ∷ step 5 ∷ []) (holds (record { base = 0; bits = 1 }) no_group)).answers ≡ refused 10 ∷ position 0 ∷ []
  pub group_without_nodes : (run_at [] by_boxes (step 5 ∷ []) (holds no_group (record { base = 1; bits = 0x8000_0000 }))).answers ≡ refused 10 ∷ []
  -- a walker that was done on a record without nodes is done on one with nodes too
  pub done_elsewhere : (run_at three by_boxes (step 4 ∷ step 4 ∷ []) (run_at [] by_boxes (step 0 ∷ []) (fresh_words along)).walker).answers
      ≡ done ∷ done ∷ []
  -- positions 1 and 2, all of a node's, are passed over by the step that tests the next node; 2 alone by the one that reports 1
  pub both_passed_over :
      (run_at three (with_positions (λ p. eqb p 0 || eqb p 3) (λ p. false)) (step 4 ∷ step 4 ∷ step 4 ∷ step 4 ∷ step 4 ∷ step 4 ∷ [])
      (fresh_words along)).answers
      ≡ tested 0 ∷ position 0 ∷ tested 1 ∷ tested 2 ∷ position 3 ∷ done ∷ []
  pub one_passed_over :
      (any_hit_at three (with_positions (λ p. not (eqb p 2)) (λ p. false)) 4 along).accumulator ≡ 0 ∷ 1 ∷ 3 ∷ []
  -- position 1 is not there: the step is refused, and so is the next, 2 being passed over again
  pub absent_refused :
      (run_at three (with_positions (λ p. not (eqb p 2)) (λ p. eqb p 1)) (step 4 ∷ step 4 ∷ step 4 ∷ step 4 ∷ step 4 ∷ [])
      (fresh_words along)).answers
      ≡ tested 0 ∷ position 0 ∷ tested 1 ∷ refused 10 ∷ refused 10 ∷ []
  -- a walker with another octant than its ray's is forged
  pub forged : (run_at three by_boxes (step 4 ∷ []) (fresh_words (record { ray = along.ray; octant = 3 }))).answers ≡ refused 10 ∷ []

pub examples : Examples
unfolding any_hit_at query_at run_at query_words run_words step_words advance_words report_words visit_words pop_words ray_of counts octant_of
    hit_mask slot_hit
    hit_bits or_of passes near_of far_of max_of min_of plane_at adjusted_inverse adjusted_origin near_limit scale_of node_from le_at sum_of
    slot_from slot_offset
    node_rule head_ok children_ok slots_ok slot_ok leaf_top point_ok exponent_ok in_bounds ones_below field child_index top_of pushed
    count_leading_zeros safe_inverse
    bounded_vec accepted_ray unsigned_vec plain_vec unsigned_zero is_minus_zero round of_bits of_int add sub mul div lt le eq is_nan
examples = record {
  octant_7 = refl;
  octant_3 = refl;
  mixed = refl;
  position_without_nodes = refl;
  group_without_nodes = refl;
  done_elsewhere = refl;
  both_passed_over = refl;
  one_passed_over = refl;
  absent_refused = refl;
  forged = refl;
}
