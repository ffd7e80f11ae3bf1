-- No drawn screen is lost by the spans of slots: where those are over the spans of all panes below them, as conversion writes them, any-hit's list at
-- a quarter hour is the untimed call's list without the positions whose own spans do not hold it, in the same sequence.
use mathlib.Core.Bool.{not}
use mathlib.Core.List.{List}
use mathlib.Core.Path.{refl, sym, ap, ◌∙◌, subst}
use Prim.Native.Nat.{ℕ, ◌≤◌}
use native.Mathlib.Omega.{arith}
use lib.ListN.{length}
use Rattle.std.specs.List.{filter}
use Rattle.std.proofs.lemmas.List.Filters.{length-filter_both}
use Rattle.lists.proofs.Perms.{no_duplicates}
use Rattle.ray.specs.declared.Ray.{Ray}
use Rattle.wide_layout.specs.Wide.{Wide}
use Rattle.record.specs.Record.{record_bytes}
use Rattle.record_laws.specs.Writable.{Writable}
use Rattle.walk.specs.Queries.{Ended}
use Rattle.walk.specs.WordQueries.{decoded_outcome}
use Rattle.walk.proofs.AnyHit.{Meets}
use Rattle.walk_record.specs.WalkRay.{walk_ray, by_boxes}
use Rattle.walk_record.specs.Record.{node_words_at}
use Rattle.walk_record.specs.Walk.{any_hit_at, listing_at, Reached, Passed}
use Rattle.walk_record.proofs.Demands as W
use Rattle.timed.specs.Hours.{Timetable, drawn}
use Rattle.timed.specs.Below.{Covers}
use Rattle.timed.specs.Converted.{timetable_of_tree}
use Rattle.timed.proofs.Covered.{untimed_walk, covered_filtered}
use Rattle.timed.proofs.Filtered.{tree_covers}
use Rattle.demands.specs.Walks.{AcceptedRay}
use Rattle.demands.specs.Walks as U
use Rattle.demands.proofs.Rays.{not_forged}
use Rattle.demands.proofs.Listed as L
use Rattle.timed_demands.specs.Walks.{CheckedAt, found, FilteredAt}
use Rattle.timed_demands.proofs.Listed.{sizes_fit_lem, with_room, list_met}

module _ {bytes : List ℕ} {h : Timetable} (good : CheckedAt bytes h) {ray : Ray} (accepted : AcceptedRay ray) where
  abbrev n : ℕ
  n = length h.indices

  untimed_meets : Meets n (listing_at bytes by_boxes n (walk_ray ray)) (Reached bytes n ray) (Passed bytes n ray)
      (decoded_outcome (node_words_at bytes by_boxes) (any_hit_at bytes by_boxes n (walk_ray ray)))
  unfolding any_hit_at
  untimed_meets = W.any_hit_meets (untimed_walk ray good.sound_at (not_forged accepted))

  untimed_ends : Ended (any_hit_at bytes by_boxes n (walk_ray ray)).ended
  untimed_ends = subst Ended (sym untimed_meets.ends) tt

  -- over any side table that loses nothing that is drawn,
  pub covers_filtered : Covers bytes h → (before : List ℕ) → U.LongEnough bytes ray n (length before) → FilteredAt bytes h ray before
  covers_filtered covers before long =
      let met = U.found bytes ray n in
      let same = covered_filtered ray good.sound_at (not_forged accepted) covers in
      let room : length met ≤ length before = long met (no_duplicates met untimed_meets.once) (λ p i. (untimed_meets.exact p).0 i) in
      let less = length-filter_both (drawn h) (λ p. not (drawn h p)) (λ p. refl) met in
      let fits : length (found bytes h ray) ≤ length before = omega (arith, ap length same) in
      record {
        timed = (with_room good accepted before fits).answer;
        untimed = L.answers_listed bytes n ray (sizes_fit_lem good) accepted.accepted untimed_ends before room;
        filtered = list_met good accepted before fits ∙ same
            ∙ ap (filter (drawn h)) (sym (L.list_found bytes n ray (sizes_fit_lem good) accepted.accepted untimed_ends before room));
      }

-- and so over the record, the index list and the side table that conversion writes of a wide tree.
pub timed_is_filtered : (t : Wide) → Writable t → (indices : List ℕ) (panes : ℕ) (spans : List ℕ) (quarter : ℕ)
    → CheckedAt (record_bytes t) (timetable_of_tree t indices panes spans quarter) → (ray : Ray) → AcceptedRay ray → (before : List ℕ)
    → U.LongEnough (record_bytes t) ray (length (timetable_of_tree t indices panes spans quarter).indices) (length before)
    → FilteredAt (record_bytes t) (timetable_of_tree t indices panes spans quarter) ray before
timed_is_filtered t ok indices panes spans quarter good ray accepted =
    covers_filtered good accepted (tree_covers t ok indices panes spans quarter)
