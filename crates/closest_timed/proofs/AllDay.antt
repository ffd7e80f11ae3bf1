-- Over spans of the whole day closest and miss at a quarter hour answer as without, unless they are refused.
use mathlib.Core.List.{List}
use mathlib.Core.Path.{◌≡◌}
use Prim.Native.Nat.{ℕ, ◌%◌}
use lib.Dec.{eqb}
use lib.Ieee.{Float}
use lib.ListN.{length}
use Rattle.ray.specs.declared.Ray.{Ray}
use Rattle.walk.specs.Queries.{none, closest, miss}
use Rattle.pane_walk.specs.Panes.{pane_of, nearer, refused_closest, refused_miss, closest_found, miss_found}
use Rattle.closest.specs.Panes.{closest_walk, miss_walk, closest_of, miss_of}
use Rattle.timed.specs.AllDay.{AllDay}
use Rattle.timed_entry.proofs.AllDay.{all_day_answer}
use Rattle.closest_timed.specs.Timed.{pane_timetable, closest_timed_of, miss_timed_of}

module _ (bytes side indices : List ℕ) (panes : List Float) (spans : List ℕ) (quarter : ℕ) (r : Ray)
    (day : AllDay bytes (pane_timetable side indices panes spans quarter)) where
  pub closest_all_day : ((k : ℕ) → (closest_timed_of bytes side indices panes spans quarter r).answer ≡ refused_closest k → ⊥)
      → closest_timed_of bytes side indices panes spans quarter r ≡ closest_of bytes indices panes r
  unfolding closest_timed_of closest_of closest_walk
  closest_all_day =
      all_day_answer refused_closest closest_found bytes (pane_timetable side indices panes spans quarter) day
      (closest (pane_of indices panes) nearer) none r (eqb (length panes % 6) 0)

  pub miss_all_day : ((k : ℕ) → (miss_timed_of bytes side indices panes spans quarter r).answer ≡ refused_miss k → ⊥)
      → miss_timed_of bytes side indices panes spans quarter r ≡ miss_of bytes indices panes r
  unfolding miss_timed_of miss_of miss_walk
  miss_all_day =
      all_day_answer refused_miss miss_found bytes (pane_timetable side indices panes spans quarter) day (miss (pane_of indices panes) nearer) none r
      (eqb (length panes % 6) 0)
