-- Which distances count in closest and miss (02, [1]): a pane nearer than the start is passed over, and what they have noted counts for the ray that
-- the walk began with, since telling keeps the start and never raises the reach.
use mathlib.Core.Bool.{Bool, true, false, cond}
use mathlib.Core.List.{List, []}
use mathlib.Core.Path.{◌≡◌, sym, ap, ◌∙◌}
use Prim.Native.Nat.{ℕ}
use lib.Ieee.{Float, lt}
use Rattle.float.proofs.Order.{lt_through}
use Rattle.ray.specs.declared.Ray.{Ray}
use Rattle.ray.specs.Ray.{reaching, counts}
use Rattle.ray.proofs.Counts.{counts_below, counts_from, counts_between, early_not_counted}
use Rattle.walk.specs.Queries.{Reaction, Found, distance, closest, miss}
use Rattle.walk_record.specs.WalkRay.{WalkRay, told_walk_ray}
use Rattle.closest.specs.Panes.{pane_of, nearer}
use Rattle.pane_walk.proofs.Reactions.{closest_at, miss_at}

-- the start is the ray's own with any reach, so what counts up to a lower reach counts
counts_lower : (r : Ray) (t u : Float) → lt t r.tmax ≡ true → counts (reaching t r) u ≡ true → counts r u ≡ true
counts_lower r t u h k =
    counts_between r u (counts_from (reaching t r) u k) (lt_through u t r.tmax (counts_below (reaching t r) u k) h)

-- what counts after a telling that did something counted before
pub told_counts : (t u : Float) (b : WalkRay) → nearer t b ≡ true → nearer u (told_walk_ray t b) ≡ true → nearer u b ≡ true
told_counts t u b h k =
    counts_lower b.ray t u (counts_below b.ray t h)
    (ap (λ (c : Bool). counts (cond c (reaching t b.ray) b.ray) u) (sym h) ∙ k)

-- nothing noted, nothing told, no stop
abbrev pub passes_over : Found Float → Reaction Float (Found Float)
passes_over x = record { accumulator = x; tells = []; stop = false }

-- a pane whose distance is below the ray's start is passed over by both
module _ (indices : List ℕ) (panes : List Float) (p : ℕ) (b : WalkRay) (x : Found Float) (t : Float) (met : pane_of indices panes p b ≡ distance t)
    (early : lt t b.ray.tmin ≡ true) where
  pub closest_passes_over : closest (pane_of indices panes) nearer p b x ≡ passes_over x
  closest_passes_over = closest_at indices panes p b x t met false (early_not_counted b.ray t early)

  pub miss_passes_over : miss (pane_of indices panes) nearer p b x ≡ passes_over x
  miss_passes_over = miss_at indices panes p b x t met false (early_not_counted b.ray t early)
