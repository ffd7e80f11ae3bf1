-- Any-hit over the record of a wide tree: the positions of the tree that it lists are those met of the tree, each as often, and its tests are the
-- first node's and one for each node reached below.
use mathlib.Core.Bool.{Bool}
use mathlib.Core.List.{List, [], ◌∷◌, ◌++◌, Perm}
use mathlib.Core.Path.{◌≡◌, refl, sym, ap, ap₂, ◌∙◌}
use Prim.Native.Nat.{ℕ, zero, suc, ◌+◌, ◌<◌}
use native.Mathlib.Omega.{arith}
use lib.ListN.{length, length-append, get_or}
use Rattle.lists.specs.At.{words_at}
use Rattle.lists.specs.Counts.{same}
use Rattle.lists.specs.Sums.{sum_over}
use Rattle.lists.proofs.Sums.{over_append, over_words}
use Rattle.lists.proofs.Perms.{counts_perm}
use Rattle.aabb.specs.declared.Aabb.{Aabb}
use Rattle.ray.specs.declared.Ray.{Ray}
use Rattle.words.specs.Ones.{ones_below}
use Rattle.node.specs.declared.Node.{Node}
use Rattle.node.specs.Node.{inner_bit, child_index}
use Rattle.wide_layout.specs.Wide.{Wide}
use Rattle.wide_layout.specs.Layout.{index_list, index_count}
use Rattle.wide_layout.specs.Shape.{layout_entry}
use Rattle.wide_layout.specs.Kept.{met_below, reached_below}
use Rattle.wide_layout.proofs.Kept.{every, met_measure}
use Rattle.record.specs.Record.{node_of, record_bytes}
use Rattle.record.specs.Children.{child_bytes}
use Rattle.record_shape.specs.Record.{nodes_at, shape_in, RuleIn}
use Rattle.record_laws.specs.Writable.{Writable}
use Rattle.record_laws.proofs.Codes.{mask_bit, mask_rank}
use Rattle.record_laws.proofs.ShapeRead.{node_read, record_reads}
use Rattle.walk.specs.Listing.{joined, gather_below}
use Rattle.walk.specs.Slots.{WalkRecord, positions_passed, tests_of, SlotLaws}
use Rattle.walk.proofs.Lists.{sum_same}
use Rattle.walk_record.specs.Record.{Rays, slots_in}
use Rattle.walk_record.specs.WalkRay.{walk_ray, by_boxes}
use Rattle.walk_record.specs.Walk.{any_hit_in}
use Rattle.walk_record.proofs.Laws.{slot_laws}
use Rattle.walk_record.proofs.Demands.{SoundWalk, any_hit_meets, any_hit_tests}
use Rattle.record_walk.specs.Kept.{box_kept}
use Rattle.record_walk.proofs.Grid.{slot_kept}
use Rattle.record_walk.proofs.Below.{KeepsChildren, SeesTree, words_gathered, nodes_gathered}

-- ---- a measure of lists that adds up over `++`, of what is gathered

module _ (μ : List ℕ → ℕ) (μ-none : μ [] ≡ 0) (μ-append : (a b : List ℕ) → μ (a ++ b) ≡ μ a + μ b) (next value : ℕ → List ℕ) where
  joined_measure : (f : ℕ → List ℕ) (g : ℕ → ℕ) → ((v : ℕ) → μ (f v) ≡ g v) → (l : List ℕ) → μ (joined [] ◌++◌ f l) ≡ joined 0 ◌+◌ g l
  joined_measure f g h [] = μ-none
  joined_measure f g h (v ∷ l) = μ-append (f v) (joined [] ◌++◌ f l) ∙ ap₂ ◌+◌ (h v) (joined_measure f g h l)

  gather_measure : (k v : ℕ) → μ (gather_below [] ◌++◌ next value k v) ≡ gather_below 0 ◌+◌ next (λ u. μ (value u)) k v
  unfolding gather_below
  gather_measure zero v = μ-none
  gather_measure (suc k) v =
      μ-append (value v) (joined [] ◌++◌ (gather_below [] ◌++◌ next value k) (next v))
      ∙ ap (λ (m : ℕ). μ (value v) + m)
      (joined_measure (gather_below [] ◌++◌ next value k) (gather_below 0 ◌+◌ next (λ u. μ (value u)) k) (gather_measure k) (next v))

-- ---- any rays

-- the test of slots that rays make of the nodes of a wide tree's layout
abbrev pub layout_passes : {RayData Distance : Type 0} → Rays RayData Distance → RayData → Wide → ℕ → ℕ → Bool
layout_passes R r t v j = R.passes r v (node_of (layout_entry t v)) j

module _ {RayData Distance : Type 0} (t : Wide) (h : Writable t) (R : Rays RayData Distance) (r : RayData)
    (w : SoundWalk (nodes_at (record_bytes t)) R (index_count t) r) (keep : Aabb → Aabb → List ℕ → Bool) (own : ℕ → Bool)
    (keeps : KeepsChildren t keep (layout_passes R r t))
    (admitted : (p : ℕ) → p < index_count t → R.admits r p ≡ own (get_or (index_list t) p 0)) where
  abbrev W : WalkRecord RayData Distance
  W = slots_in (nodes_at (record_bytes t)) R (index_count t)

  laws : SlotLaws W (RuleIn (nodes_at (record_bytes t)) (index_count t))
  laws = slot_laws (nodes_at (record_bytes t)) R w.rays (index_count t)

  sees : SeesTree W r t keep own
  unfolding shape_in child_index node_of
  sees = record {
    reads = record_reads t h;
    bits = λ v j l k. ap (λ (n : Node). inner_bit n.imask j) (node_read t h v l) ∙ mask_bit (layout_entry t v).slots j k;
    ranks = λ v j l k. ap (λ (n : Node). n.child_base_idx + ones_below j n.imask) (node_read t h v l)
        ∙ ap (λ (x : ℕ). (layout_entry t v).child_base + x) (mask_rank (layout_entry t v).slots j (omega arith));
    keeps = record {
      leaf_kept = λ v j l k c ps e. ap (λ (n : Node). R.passes r v n j) (node_read t h v l) ∙ keeps.leaf_kept v j l k c ps e;
      inner_kept = λ v j l k c u e. ap (λ (n : Node). R.passes r v n j) (node_read t h v l) ∙ keeps.inner_kept v j l k c u e;
    };
    admitted = admitted;
  }

  abbrev listed : List ℕ
  listed = (any_hit_in (nodes_at (record_bytes t)) R (index_count t) r).accumulator

  words_sum : (f : ℕ → ℕ) → sum_over f (words_at (index_list t) listed) ≡ sum_over f (met_below keep own t.box t.slots)
  unfolding shape_in sum_over
  words_sum f =
      over_words f (index_list t) listed
      ∙ ap (sum_over (λ p. f (get_or (index_list t) p 0))) (any_hit_meets w).lists
      ∙ gather_measure (sum_over (λ p. f (get_or (index_list t) p 0))) refl (over_append (λ p. f (get_or (index_list t) p 0)))
      ((tests_of W).children r) (positions_passed W r) W.shape.nodes 0
      ∙ words_gathered W (RuleIn (nodes_at (record_bytes t)) (index_count t)) laws w.sound r w.accepted t keep own sees f
      ∙ sym (met_measure keep own (sum_over f) refl (over_append f) t.box t.slots)

  -- what it lists is what is met of the tree,
  pub walk_is_met : Perm (words_at (index_list t) listed) (met_below keep own t.box t.slots)
  walk_is_met = (counts_perm (words_at (index_list t) listed) (met_below keep own t.box t.slots)).1
      (λ x. sym (sum_same x (words_at (index_list t) listed)) ∙ words_sum (λ y. same x y) ∙ sum_same x (met_below keep own t.box t.slots))

  -- and it tests the first node and each that is reached below
  pub walk_tests : (any_hit_in (nodes_at (record_bytes t)) R (index_count t) r).walker.tests ≡ 1 + reached_below keep t.box t.slots
  unfolding shape_in
  walk_tests =
      any_hit_tests w
      ∙ gather_measure length refl length-append ((tests_of W).children r) (λ u. u ∷ []) W.shape.nodes 0
      ∙ nodes_gathered W (RuleIn (nodes_at (record_bytes t)) (index_count t)) laws w.sound r w.accepted t keep own sees

-- ---- by boxes

-- a ray keeps children by their boxes on their parents' grids
pub keeps_boxes : (t : Wide) (r : Ray) → KeepsChildren t (λ b c ps. box_kept r b c) (layout_passes by_boxes (walk_ray r) t)
unfolding child_bytes
keeps_boxes t r = record {
  leaf_kept = λ v j l k c ps e. slot_kept (layout_entry t v) j c (ap (child_bytes (layout_entry t v).box) e) r;
  inner_kept = λ v j l k c u e. slot_kept (layout_entry t v) j c (ap (child_bytes (layout_entry t v).box) e) r;
}

module _ (t : Wide) (h : Writable t) (r : Ray) (w : SoundWalk (nodes_at (record_bytes t)) by_boxes (index_count t) (walk_ray r)) where
  pub boxes_met : Perm (words_at (index_list t) (any_hit_in (nodes_at (record_bytes t)) by_boxes (index_count t) (walk_ray r)).accumulator)
      (met_below (λ b c ps. box_kept r b c) every t.box t.slots)
  boxes_met = walk_is_met t h by_boxes (walk_ray r) w (λ b c ps. box_kept r b c) every (keeps_boxes t r) (λ p l. refl)

  pub boxes_tests : (any_hit_in (nodes_at (record_bytes t)) by_boxes (index_count t) (walk_ray r)).walker.tests
      ≡ 1 + reached_below (λ b c ps. box_kept r b c) t.box t.slots
  boxes_tests = walk_tests t h by_boxes (walk_ray r) w (λ b c ps. box_kept r b c) every (keeps_boxes t r) (λ p l. refl)
