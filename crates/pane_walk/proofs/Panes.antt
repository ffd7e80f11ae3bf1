-- A position and its pane by the tests that the code makes in turn.
use mathlib.Core.Path.{◌≡◌}
use mathlib.Core.Bool.{true, false}
use mathlib.Core.List.{List}
use Prim.Native.Nat.{ℕ, ◌/◌, ◌≤◌, ◌<◌}
use lib.Ieee.{Float}
use lib.ListN.{length, get_or}
use borrow.Author.Tests.{lt-ltb, le-ltb}
use Rattle.ray.specs.declared.Ray.{Ray}
use Rattle.aabb.specs.declared.Aabb.{Aabb}
use Rattle.aabb.specs.Aabb.{accepted_box, entry_distance}
use Rattle.packed.specs.Packed.{box_in}
use Rattle.walk.specs.Queries.{distance, faulty}
use Rattle.pane_walk.specs.Panes.{pane_met, position_met}

module _ (panes : List Float) (k : ℕ) (r : Ray) where
  pub met_nowhere : length panes / 6 ≤ k → faulty 10 ≡ pane_met panes k r
  unfolding pane_met
  met_nowhere h = rw (le-ltb k (length panes / 6) h)

  module _ (there : k < length panes / 6) (b : Aabb) (e : b ≡ box_in panes k) where
    pub met_faulty : accepted_box b ≡ false → faulty 6 ≡ pane_met panes k r
    unfolding pane_met
    met_faulty h = rw (lt-ltb k (length panes / 6) there, rw e at h)

    pub met_at : accepted_box b ≡ true → distance (entry_distance b r) ≡ pane_met panes k r
    unfolding pane_met
    met_at h = rw (lt-ltb k (length panes / 6) there, rw e at h, e)

module _ (indices : List ℕ) (panes : List Float) (p : ℕ) (r : Ray) where
  pub position_there : p < length indices → position_met indices panes p r ≡ pane_met panes (get_or indices p 0) r
  unfolding position_met
  position_there h = rw (lt-ltb p (length indices) h)

  pub position_past : length indices ≤ p → position_met indices panes p r ≡ faulty 10
  unfolding position_met
  position_past h = rw (le-ltb p (length indices) h)
