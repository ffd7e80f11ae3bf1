-- What a ray meets at a quarter hour in a converted tree's record, beside its side table, does not depend on ordering: a child is kept by its box on
-- its parent's grid and by the narrowest span over the panes below it, and a position by its pane's own span.
use mathlib.Core.Bool.{Bool, true, not, ◌&&◌, ◌||◌}
use mathlib.Core.List.Perm
use mathlib.Core.List.{List}
use mathlib.Core.Path.{◌≡◌, refl, sym, ap, ap₂, subst, ◌∙◌}
use Prim.Native.Nat.{ℕ, zero, suc, ◌/◌, ◌≤◌, ◌<◌}
use native.Mathlib.Omega.{arith}
use borrow.Author.Tests.{lt-ltb}
use lib.ListN.{length, get_or, length-map}
use Rattle.std.proofs.lemmas.List.{get_or-map}
use Rattle.lists.specs.At.{words_at}
use Rattle.aabb.specs.declared.Aabb.{Aabb}
use Rattle.ray.specs.declared.Ray.{Ray}
use Rattle.span.specs.declared.Span.{Span}
use Rattle.span.specs.Span.{holds, span_at, quarter_fits}
use Rattle.span.specs.Hull.{hull}
use Rattle.bvh2.specs.Decoded.{Decoded}
use Rattle.wide_layout.specs.Wide.{Wide}
use Rattle.wide_layout.specs.Content.{Content, content_at}
use Rattle.wide_layout.specs.Layout.{nodes, index_list}
use Rattle.wide_layout.specs.Shape.{layout_entry}
use Rattle.wide_layout.proofs.Sizes.{index_length}
use Rattle.wide_tree.specs.Ordered.{wide_tree_of}
use Rattle.wide_tree.proofs.Kept.{Stable}
use Rattle.wide_tree.proofs.Ordered.{index_count_lem}
use Rattle.record.specs.Record.{record_bytes}
use Rattle.record.specs.Children.{child_bytes}
use Rattle.record_shape.specs.Record.{nodes_at}
use Rattle.record_walk.specs.Kept.{box_kept}
use Rattle.record_walk.proofs.Below.{KeepsChildren}
use Rattle.record_walk.proofs.Grid.{slot_kept}
use Rattle.record_walk.proofs.Walk.{layout_passes}
use Rattle.side_table.specs.SideTable.{positions_under, panes_under, slot_span, side_span}
use Rattle.side_table.proofs.Table.{side_length, side_span_lem}
use Rattle.walk.specs.Queries.{Ended}
use Rattle.walk_record.specs.WalkRay.{walk_ray, rays_of}
use Rattle.walk_record.specs.Walk.{query_at, any_hit_at}
use Rattle.walk_record.proofs.WalkRay.{gated_forged, walk_ray_laws}
use Rattle.walk_record.proofs.Laws.{bytes_fit}
use Rattle.walk_record.proofs.Demands.{SoundWalk, any_hit_meets}
use Rattle.query.specs.Met.{walk_met_by}
use Rattle.timed.specs.Hours.{Timetable, has_row, slot_open, pane_of, present, drawn, gates_at}
use Rattle.timed.specs.Walk.{rays_at}
use Rattle.timed.specs.Converted.{timetable_of_tree}
use Rattle.timed_entry.specs.Entry.{timetable}
use Rattle.bvh2_to_cwbvh.specs.Conversion.{record_of, output_positions}
use Rattle.bvh2_to_cwbvh_timed.specs.TimedConversion.{side_of}
use Rattle.demands.specs.Walks.{CheckedRecord, AcceptedRay}
use Rattle.demands.proofs.Rays.{not_forged}
use Rattle.ordered_reports.specs.Alike.{MetAlikeBy}
use Rattle.ordered_reports.proofs.Trees.{KeepsTree, trees_alike}
use Rattle.span.proofs.Hulls.{hull_rearranged}

-- ---- walks that are not refused

-- as many index words as positions, each naming a pane: no position is absent
all_there : (h : Timetable) (n : ℕ) → length h.indices ≡ n → ((p : ℕ) → p < n → pane_of h p < h.panes) → (p : ℕ) → p < n → present h p ≡ true
all_there h n e named p l = rw (lt-ltb p (length h.indices) (omega (arith, l, e)), lt-ltb (pane_of h p) h.panes (named p l)) refl

module _ {bytes : List ℕ} {n d : ℕ} (good : CheckedRecord bytes n d) (h : Timetable) (e : length h.indices ≡ n)
    (named : (p : ℕ) → p < n → pane_of h p < h.panes) (fits : quarter_fits h.quarter ≡ true) {ray : Ray} (accepted : AcceptedRay ray) where
  sound_walk : SoundWalk (nodes_at bytes) (rays_at h) n (walk_ray ray)
  sound_walk = record {
    rays = walk_ray_laws (gates_at h);
    fields = bytes_fit bytes good.are_bytes;
    sound = good.sound;
    nodes = good.nodes;
    positions = good.positions;
    present = λ b p l. ap not (all_there h n e named p l);
    accepted = gated_forged (gates_at h) (walk_ray ray) (ap not fits) (not_forged accepted);
  }

  walk_ends : Ended (walk_met_by (gates_at h) bytes n ray).ended
  unfolding any_hit_at query_at
  walk_ends = subst Ended (sym (any_hit_meets sound_walk).ends) tt

-- ---- what is kept

module _ (spans indices : List ℕ) (quarter : ℕ) (ray : Ray) where
  -- the narrowest span over the panes below a child holds the quarter hour, and the ray passes the child's box on its parent's grid
  abbrev keeps_at : Aabb → Aabb → List ℕ → Bool
  keeps_at b c ps = holds (hull spans (words_at indices ps)) quarter && box_kept ray b c

  -- the span of a position's pane holds the quarter hour
  abbrev own_at : ℕ → Bool
  own_at p = holds (span_at spans (get_or indices p 0)) quarter

  -- which does not depend on the sequence of the positions below
  keeps_stable : Stable keeps_at
  keeps_stable b c ps qs r =
      ap (λ (s : Span). holds s quarter && box_kept ray b c)
      (hull_rearranged spans (words_at indices ps) (words_at indices qs) (Perm.map (λ p. get_or indices p 0) r))

  module _ (panes : ℕ) (t : Wide) where
    abbrev h : Timetable
    h = timetable_of_tree t indices panes spans quarter

    abbrev content : ℕ → ℕ → Content
    content v j = content_at (layout_entry t v).slots j

    -- a slot is open as the panes below it say
    slot_opens : (v j : ℕ) → v < nodes t → j < 8 → slot_open h v j ≡ holds (hull spans (words_at indices (positions_under (content v j)))) quarter
    unfolding slot_span panes_under
    slot_opens v j l k =
        let row : has_row h v ≡ true = lt-ltb v (length h.side / 16) (omega (arith, l, side_length spans indices t)) in
        ap (λ (b : Bool). b && holds (side_span h.side v j) quarter) row ∙ ap (λ (s : Span). holds s quarter) (side_span_lem spans indices t v j l k)

    keeps_children : KeepsChildren t keeps_at (layout_passes (rays_of (gates_at h)) (walk_ray ray) t)
    unfolding child_bytes positions_under
    keeps_children = record {
      leaf_kept = λ v j l k c ps e.
          ap₂ ◌&&◌ (slot_opens v j l k ∙ ap (λ (x : Content). holds (hull spans (words_at indices (positions_under x))) quarter) e)
          (slot_kept (layout_entry t v) j c (ap (child_bytes (layout_entry t v).box) e) ray);
      inner_kept = λ v j l k c u e.
          ap₂ ◌&&◌ (slot_opens v j l k ∙ ap (λ (x : Content). holds (hull spans (words_at indices (positions_under x))) quarter) e)
          (slot_kept (layout_entry t v) j c (ap (child_bytes (layout_entry t v).box) e) ray);
    }

-- ---- a tree's record beside its side table

module _ (ws indices : List ℕ) (limit : ℕ) (small : limit ≤ 3) (panes : ℕ) (spans : List ℕ) (quarter : ℕ) (fits : quarter_fits quarter ≡ true)
    {ray : Ray} (accepted : AcceptedRay ray) where
  module _ {n : ℕ} (decoded : Decoded ws n) (ordered : Bool) where
    abbrev t : Wide
    t = wide_tree_of ws ordered limit

    abbrev hours : Timetable
    hours = timetable_of_tree t indices panes spans quarter

    abbrev Named : Type 0
    Named = (p : ℕ) → p < n → pane_of hours p < panes

    list_length : length (index_list t) ≡ n
    list_length = index_length t ∙ index_count_lem ordered limit ws n decoded

    as_many : length hours.indices ≡ n
    as_many = length-map (index_list t) (λ p. get_or indices p 0) ∙ list_length

    tree_kept : {d : ℕ} → CheckedRecord (record_bytes t) n d → Named
        → KeepsTree ws indices limit small decoded ray (keeps_at spans indices quarter ray) (own_at spans indices quarter ray) ordered
        (gates_at hours)
    tree_kept good named = record {
      walk = sound_walk good hours as_many named fits accepted;
      keeps = keeps_children spans indices quarter ray panes t;
      admitted = λ p l.
          ap (λ (b : Bool). not b || drawn hours p) (all_there hours n as_many named p l)
          ∙ ap (λ (k : ℕ). holds (span_at spans k) quarter)
          (get_or-map (λ q. get_or indices q 0) (index_list t) p 0 0 (omega (arith, l, list_length)));
    }

  -- ---- of any number of leaves

  module _ (n : ℕ) where
    -- the index list, and what a timed query is asked with
    abbrev pub list_of : Bool → List ℕ
    list_of ordered = words_at indices (output_positions ws n limit ordered)

    abbrev pub hours_of : Bool → Timetable
    hours_of ordered = timetable (side_of spans indices ws n limit ordered) (list_of ordered) panes spans quarter

    abbrev pub AllNamed : Bool → Type 0
    AllNamed ordered = (p : ℕ) → p < n → get_or (list_of ordered) p 0 < panes

  -- The records that a tree becomes with ordering and without, each beside its own side table and index list, are alike to every accepted ray.
  pub timed_records_alike : (x y : Bool) {d e : ℕ} (n : ℕ) → (0 < n → Decoded ws n) → CheckedRecord (record_of ws n limit x) n d
      → CheckedRecord (record_of ws n limit y) n e → AllNamed n x → AllNamed n y
      → MetAlikeBy n (record_of ws n limit x) (list_of n x) (record_of ws n limit y) (list_of n y) (gates_at (hours_of n x))
      (gates_at (hours_of n y)) ray
  unfolding record_of output_positions side_of
  timed_records_alike x y zero decoded good other named also = record {
    ends = walk_ends good (hours_of 0 x) refl named fits accepted;
    other_ends = walk_ends other (hours_of 0 y) refl also fits accepted;
    panes = Perm.refl _;
    tests = refl;
  }
  timed_records_alike x y (suc n) decoded good other named also =
      let d = decoded (omega arith) in
      trees_alike ws indices limit small d ray (keeps_at spans indices quarter ray) (own_at spans indices quarter ray)
      (keeps_stable spans indices quarter ray) x y (gates_at (hours_of (suc n) x)) (gates_at (hours_of (suc n) y)) (tree_kept d x good named)
      (tree_kept d y other also)
