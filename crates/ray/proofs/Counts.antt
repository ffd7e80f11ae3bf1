-- Which distances count, those from the start and below the reach; and as what they are seen.
use mathlib.Core.Path.{◌≡◌, refl, sym, ◌∙◌}
use mathlib.Core.Bool.{Bool, true, false, not, ◌&&◌, cond}
use lib.Dec.{T}
use lib.Ieee.{Float, nan, inf, fin, lt, is_nan}
use Rattle.lists.proofs.Tells.{clash}
use Rattle.ray.specs.declared.Ray.{Ray}
use Rattle.ray.specs.Ray.{counts, seen_at}

-- nothing lies above infinity
infinity_not_below : (x : Float) → lt (inf false) x ≡ false
unfolding lt
infinity_not_below nan = refl
infinity_not_below (inf true) = refl
infinity_not_below (inf false) = refl
infinity_not_below (fin s m e) = refl

nan_not_below : (x : Float) → lt nan x ≡ false
unfolding lt
nan_not_below x = refl

module _ (r : Ray) (t : Float) where
  -- by the two tests
  pub counts_is : counts r t ≡ not (lt t r.tmin) && lt t r.tmax
  unfolding counts
  counts_is = refl

  pub counts_below : counts r t ≡ true → lt t r.tmax ≡ true
  counts_below e = go (lt t r.tmin) (sym counts_is ∙ e)
    where
      go : (c : Bool) → not c && lt t r.tmax ≡ true → lt t r.tmax ≡ true
      go true e = clash e
      go false e = e

  pub counts_from : counts r t ≡ true → lt t r.tmin ≡ false
  counts_from e = go (lt t r.tmin) refl (sym counts_is ∙ e)
    where
      go : (c : Bool) → lt t r.tmin ≡ c → not c && lt t r.tmax ≡ true → lt t r.tmin ≡ false
      go true h e = clash e
      go false h e = h

  -- these two are all that it takes
  pub counts_between : lt t r.tmin ≡ false → lt t r.tmax ≡ true → counts r t ≡ true
  counts_between e f = counts_is ∙ rw (e, f)

  -- what lies below the start does not count
  pub early_not_counted : lt t r.tmin ≡ true → counts r t ≡ false
  early_not_counted e = counts_is ∙ rw e

  -- a distance counts exactly if it is seen below the reach,
  pub counts-seen : counts r t ≡ lt (seen_at r t) r.tmax
  unfolding seen_at
  counts-seen = counts_is ∙ go (lt t r.tmin)
    where
      go : (c : Bool) → not c && lt t r.tmax ≡ lt (cond c (inf false) t) r.tmax
      go true = sym (infinity_not_below r.tmax)
      go false = refl

  -- and what is seen below anything is seen where it is
  pub seen_itself : (x : Float) → lt (seen_at r t) x ≡ true → seen_at r t ≡ t
  unfolding seen_at
  seen_itself x = go (lt t r.tmin)
    where
      go : (c : Bool) → lt (cond c (inf false) t) x ≡ true → cond c (inf false) t ≡ t
      go true e = clash (sym (infinity_not_below x) ∙ e)
      go false e = refl

  -- a number is seen at a number
  pub seen-number : T (not (is_nan t)) → T (not (is_nan (seen_at r t)))
  unfolding seen_at is_nan
  seen-number h = go (lt t r.tmin)
    where
      go : (c : Bool) → T (not (is_nan (cond c (inf false) t)))
      go true = tt
      go false = h

-- no NaN counts
pub nan_not_counted : (r : Ray) → counts r nan ≡ false
nan_not_counted r = counts_is r nan ∙ rw (nan_not_below r.tmin, nan_not_below r.tmax)
