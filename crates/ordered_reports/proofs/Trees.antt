-- What a ray meets in a converted tree's record is what it meets of the tree, and so does not depend on the placing.
use mathlib.Core.Bool.{Bool}
use mathlib.Core.List.Perm
use mathlib.Core.List.{List, [], ◌∷◌, Perm}
use mathlib.Core.Path.{◌≡◌, refl, sym, ap, ap₂, subst, ◌∙◌}
use Prim.Native.Nat.{ℕ, zero, suc, ◌+◌, ◌≤◌, ◌<◌}
use native.Mathlib.Omega.{arith}
use lib.ListN.{length, get_or}
use Rattle.std.proofs.lemmas.List.{get_or-map}
use Rattle.lists.specs.At.{words_at}
use Rattle.aabb.specs.declared.Aabb.{Aabb}
use Rattle.ray.specs.declared.Ray.{Ray}
use Rattle.bvh2.specs.Tree.{box_of}
use Rattle.bvh2.specs.Words.{tree_of}
use Rattle.bvh2.specs.Decoded.{Decoded}
use Rattle.wide_layout.specs.Wide.{Wide}
use Rattle.wide_layout.specs.Layout.{index_list, index_count}
use Rattle.wide_layout.specs.Kept.{met_below, reached_below}
use Rattle.wide_layout.proofs.Kept.{every}
use Rattle.wide_layout.proofs.Sizes.{index_length}
use Rattle.wide_tree.specs.WideTree.{wide_of}
use Rattle.wide_tree.specs.Ordered.{placing, wide_tree_of}
use Rattle.wide_tree.proofs.Kept.{Stable, met_any_placing, reached_any_placing, nodes_any_placing}
use Rattle.wide_tree.proofs.Ordered.{places, fine, index_count_lem}
use Rattle.wide_level.proofs.Levels.{wide_level}
use Rattle.record.specs.Record.{record_bytes}
use Rattle.record_shape.specs.Record.{nodes_at, Nodes}
use Rattle.bvh2_to_cwbvh.specs.Conversion.{record_of, nodes_of, level_of, output_positions}
use Rattle.gate.specs.Gates.{Gates, all_open}
use Rattle.record_walk.specs.Kept.{box_kept}
use Rattle.record_walk.proofs.Below.{KeepsChildren}
use Rattle.record_walk.proofs.Walk.{layout_passes, walk_is_met, walk_tests, keeps_boxes}
use Rattle.walk.specs.Calls.{All}
use Rattle.walk.specs.Queries.{Ended, append}
use Rattle.walk_record.specs.WalkRay.{walk_ray, rays_of}
use Rattle.walk_record.specs.Walk.{query_at, any_hit_at}
use Rattle.walk_record.proofs.Demands.{SoundWalk, any_hit_meets}
use Rattle.walk_record.proofs.Runs.{any_hit_is_run, reported_exist}
use Rattle.query.specs.Met.{walk_met_by, positions_met_by, tests_made_by, panes_met}
use Rattle.demands.specs.Walks.{CheckedRecord, AcceptedRay}
use Rattle.demands.proofs.Answered.{wide}
use Rattle.demands.proofs.SoundWalks.{ends_met, walk}
use Rattle.ordered_reports.specs.Alike.{MetAlike, MetAlikeBy}

-- words at places of words at places
words_twice : (indices list ps : List ℕ) → All (λ p. p < length list) ps → words_at (words_at indices list) ps ≡ words_at indices (words_at list ps)
words_twice indices list [] h = refl
words_twice indices list (p ∷ ps) h =
    ap₂ (λ (x : ℕ) (l : List ℕ). x ∷ l) (get_or-map (λ q. get_or indices q 0) list p 0 0 h.0) (words_twice indices list ps h.1)

-- ---- a walk beside gates

module _ (ws indices : List ℕ) (limit : ℕ) (small : limit ≤ 3) {n : ℕ} (h : Decoded ws n) (ray : Ray) (keep : Aabb → Aabb → List ℕ → Bool)
    (own : ℕ → Bool) where
  abbrev tree : Bool → Wide
  tree ordered = wide_tree_of ws ordered limit

  -- A ray's walk beside gates over the record of the tree is sound, keeps the tree's children so, and admits its positions so.
  pub record KeepsTree (ordered : Bool) (g : Gates) : Type 0 where
    pub walk : SoundWalk (nodes_at (record_bytes (tree ordered))) (rays_of g) n (walk_ray ray)
    pub keeps : KeepsChildren (tree ordered) keep (layout_passes (rays_of g) (walk_ray ray) (tree ordered))
    pub admitted : (p : ℕ) → p < n → (rays_of g).admits (walk_ray ray) p ≡ own (get_or (index_list (tree ordered)) p 0)

  module _ (ordered : Bool) (g : Gates) (k : KeepsTree ordered g) where
    abbrev t : Wide
    t = tree ordered

    abbrev N : Nodes
    N = nodes_at (record_bytes t)

    count_is : index_count t ≡ n
    count_is = index_count_lem ordered limit ws n h

    walk_here : SoundWalk N (rays_of g) (index_count t) (walk_ray ray)
    walk_here = subst (λ (m : ℕ). SoundWalk N (rays_of g) m (walk_ray ray)) (sym count_is) k.walk

    admitted_here : (p : ℕ) → p < index_count t → (rays_of g).admits (walk_ray ray) p ≡ own (get_or (index_list t) p 0)
    admitted_here p l = k.admitted p (omega (arith, l, count_is))

    met_ends : Ended (walk_met_by g (record_bytes t) n ray).ended
    unfolding any_hit_at query_at
    met_ends = subst Ended (sym (any_hit_meets k.walk).ends) tt

    met_there : All (λ p. p < n) (positions_met_by g (record_bytes t) n ray)
    unfolding any_hit_at query_at
    met_there =
        subst (All (λ p. p < n)) (sym (any_hit_is_run N (rays_of g) k.walk.rays k.walk.fields n (walk_ray ray) k.walk.accepted))
        (reported_exist N (rays_of g) k.walk.rays k.walk.fields n (walk_ray ray) k.walk.accepted append [])

    -- the panes that it meets in the record are those of the positions met of the tree,
    tree_panes : Perm (panes_met (words_at indices (index_list t)) (positions_met_by g (record_bytes t) n ray))
        (words_at indices (met_below keep own t.box t.slots))
    unfolding any_hit_at query_at
    tree_panes =
        let exist = subst (λ (m : ℕ). All (λ p. p < m) (positions_met_by g (record_bytes t) n ray)) (sym (index_length t ∙ count_is)) met_there in
        let wide_met = walk_is_met t (wide ws limit ordered n h small) (rays_of g) (walk_ray ray) walk_here keep own k.keeps admitted_here in
        subst (λ (l : List ℕ). Perm l (words_at indices (met_below keep own t.box t.slots)))
        (sym (words_twice indices (index_list t) (positions_met_by g (record_bytes t) n ray) exist))
        (Perm.map (λ p. get_or indices p 0)
        (subst (λ (m : ℕ). Perm (words_at (index_list t) (positions_met_by g (record_bytes t) m ray)) (met_below keep own t.box t.slots))
        count_is wide_met))

    -- and its tests are the first node's and those of the nodes reached below
    tree_tests : tests_made_by g (record_bytes t) n ray ≡ 1 + reached_below keep t.box t.slots
    unfolding any_hit_at query_at
    tree_tests =
        subst (λ (m : ℕ). tests_made_by g (record_bytes t) m ray ≡ 1 + reached_below keep t.box t.slots) count_is
        (walk_tests t (wide ws limit ordered n h small) (rays_of g) (walk_ray ray) walk_here keep own k.keeps admitted_here)

  -- so they do not depend on ordering
  pub trees_alike : Stable keep → (x y : Bool) (g other : Gates) → KeepsTree x g → KeepsTree y other
      → MetAlikeBy n (record_bytes (tree x)) (words_at indices (index_list (tree x))) (record_bytes (tree y))
      (words_at indices (index_list (tree y))) g other ray
  unfolding wide_of
  trees_alike stable x y g other kept also = record {
    ends = met_ends x g kept;
    other_ends = met_ends y other also;
    panes = Perm.trans (tree_panes x g kept)
        (Perm.trans (Perm.map (λ p. get_or indices p 0)
        (met_any_placing keep stable limit (placing x) (placing y) (places x) (places y) (tree_of ws) (fine ws n h) (box_of (tree_of ws)) own))
        (Perm.symm (tree_panes y other also)));
    tests = tree_tests x g kept
        ∙ ap (λ (k : ℕ). 1 + k) (reached_any_placing keep stable limit (placing x) (placing y) (places x) (places y) (tree_of ws) (fine ws n h)
        (box_of (tree_of ws)))
        ∙ sym (tree_tests y other also);
  }

-- ---- by boxes alone

-- a ray keeps a child by its box on its parent's grid
abbrev keeps : Ray → Aabb → Aabb → List ℕ → Bool
keeps ray b c ps = box_kept ray b c

boxes_kept : (ws indices : List ℕ) (limit : ℕ) (small : limit ≤ 3) {n : ℕ} (h : Decoded ws n) {ray : Ray} → AcceptedRay ray → (ordered : Bool) {d : ℕ}
    → CheckedRecord (record_bytes (wide_tree_of ws ordered limit)) n d → KeepsTree ws indices limit small h ray (keeps ray) every ordered all_open
boxes_kept ws indices limit small h {ray} accepted ordered good = record {
  walk = walk good accepted;
  keeps = keeps_boxes (wide_tree_of ws ordered limit) ray;
  admitted = λ p l. refl;
}

-- ---- of any number of leaves

-- the records that a tree becomes with ordering and without are alike to every accepted ray
pub records_alike : (ws indices : List ℕ) (limit : ℕ) → limit ≤ 3 → (x y : Bool) {d e : ℕ} (n : ℕ) → (0 < n → Decoded ws n)
    → CheckedRecord (record_of ws n limit x) n d → CheckedRecord (record_of ws n limit y) n e → {ray : Ray} → AcceptedRay ray
    → MetAlike n (record_of ws n limit x) (words_at indices (output_positions ws n limit x)) (record_of ws n limit y)
    (words_at indices (output_positions ws n limit y)) ray
unfolding record_of output_positions
records_alike ws indices limit small x y zero h good other accepted = record {
  ends = ends_met good accepted;
  other_ends = ends_met other accepted;
  panes = Perm.refl _;
  tests = refl;
}
records_alike ws indices limit small x y (suc n) h good other {ray} accepted =
    let d = h (omega arith) in
    trees_alike ws indices limit small d ray (keeps ray) every (λ b c ps qs r. refl) x y all_open all_open
    (boxes_kept ws indices limit small d accepted x good) (boxes_kept ws indices limit small d accepted y other)

-- and they have as many nodes, and as many levels
pub nodes_same : (ws : List ℕ) (limit : ℕ) (x y : Bool) (n : ℕ) → (0 < n → Decoded ws n) → nodes_of ws n limit x ≡ nodes_of ws n limit y
unfolding nodes_of
nodes_same ws limit x y zero h = refl
nodes_same ws limit x y (suc n) h =
    nodes_any_placing limit (placing x) (placing y) (places x) (places y) (tree_of ws) (fine ws (suc n) (h (omega arith)))

pub levels_same : (ws : List ℕ) (limit : ℕ) (x y : Bool) (n : ℕ) → (0 < n → Decoded ws n) → level_of ws n limit x ≡ level_of ws n limit y
unfolding level_of
levels_same ws limit x y zero h = refl
levels_same ws limit x y (suc n) h =
    let o = fine ws (suc n) (h (omega arith)) in
    wide_level (placing x) limit (places x) (tree_of ws) o ∙ sym (wide_level (placing y) limit (places y) (tree_of ws) o)
