-- What closest has noted is the nearest of the positions reported, and what miss has noted is the first below the reach, for panes at distances in a
-- strict order.
use mathlib.Core.Bool.{Bool, true, false, cond}
use mathlib.Core.List.{List, [], ◌∷◌}
use mathlib.Core.Path.{◌≡◌, refl, sym, ap, subst, ◌∙◌}
use Prim.Native.Nat.{ℕ}
use Rattle.walk.specs.Tests.{Tests}
use Rattle.walk.specs.Calls.{All}
use Rattle.walk.specs.Queries.{Reaction, Pane, distance, Found, none, hit, closest, miss, lower, lower_at, block_at}
use Rattle.walk.specs.Reports.{Notes, up_to, NoneBelow, Nearest, Blocks}
use Rattle.walk.proofs.Lists.{all_map}
use Rattle.walk.proofs.Hits.{After}
use Rattle.walk.proofs.Nearest.{up_to_same, Order, front_nearest, nearer_later, nearest_stays, blocks_stays}

-- Nearer is seen less far than the ray's reach, and what is seen less far than anything is seen where it is. A distance told that is so seen
-- becomes the reach. Telling moves no pane, and changes nothing of what is seen where.
pub record Reaching {RayData Distance : Type 0} (told : Distance → RayData → RayData) (pane : ℕ → RayData → Pane Distance)
    (nearer : Distance → RayData → Bool) (less : Distance → Distance → Bool) (reach : RayData → Distance) (seen : RayData → Distance → Distance)
    : Type 0 where
  pub nearer_is : (t : Distance) (r : RayData) → nearer t r ≡ less (seen r t) (reach r)
  pub seen_is : (t x : Distance) (r : RayData) → less (seen r t) x ≡ true → seen r t ≡ t
  pub told_reach : (t : Distance) (r : RayData) → less (seen r t) (reach r) ≡ true → reach (told t r) ≡ t
  pub told_pane : (p : ℕ) (t : Distance) (r : RayData) → pane p (told t r) ≡ pane p r
  pub told_seen : (t x : Distance) (r : RayData) → seen (told t r) x ≡ seen r x

-- Position q has a pane, which is seen at the position's distance, and that is a number.
pub record Seen {RayData Distance : Type 0} (pane : ℕ → RayData → Pane Distance) (seen : RayData → Distance → Distance)
    (Number : Distance → Type 0) (distance_of : ℕ → Distance) (r : RayData) (q : ℕ) : Type 0 where
  pub met : Distance
  pub pane_is : pane q r ≡ distance met
  pub seen_is : distance_of q ≡ seen r met
  pub number : Number (distance_of q)

module _ {Distance : Type 0} (less : Distance → Distance → Bool) (distance_of : ℕ → Distance) (reach : Distance) where
  -- From x noted and these positions closest has come to y: it kept x, none being below the reach, or noted the nearest.
  pub data Picks (x y : Found Distance) (l : List ℕ) : Type 0 where
    kept : y ≡ x → NoneBelow less distance_of reach l → Picks x y l
    nearest : (p : ℕ) → y ≡ hit p (distance_of p) → Nearest less distance_of reach l p → Picks x y l

  -- And miss: it kept x likewise, or noted the first below the reach.
  pub data Stops (x y : Found Distance) (l : List ℕ) : Type 0 where
    missed : y ≡ x → NoneBelow less distance_of reach l → Stops x y l
    blocked : (p : ℕ) → y ≡ hit p (distance_of p) → Blocks less distance_of reach l p → Stops x y l

module _ {RayData Distance : Type 0} (m : ℕ) (T : Tests RayData Distance) (pane : ℕ → RayData → Pane Distance) (nearer : Distance → RayData → Bool)
    (less : Distance → Distance → Bool) (reach : RayData → Distance) (seen : RayData → Distance → Distance)
    (R : Reaching T.told pane nearer less reach seen) (Number : Distance → Type 0) (order : Order less Number) (distance_of : ℕ → Distance) where
  abbrev Sees : RayData → ℕ → Type 0
  Sees = Seen pane seen Number distance_of

  abbrev React : Type 0
  React = Reaction Distance (Found Distance)

  -- ---- closest

  told_seen : (t : Distance) (r : RayData) (q : ℕ) → Sees r q → Sees (T.told t r) q
  told_seen t r q h = record {
    met = h.met;
    pane_is = R.told_pane q t r ∙ h.pane_is;
    seen_is = h.seen_is ∙ sym (R.told_seen t h.met r);
    number = h.number;
  }

  -- a pane is nearer by the distance that it is seen at, and one that is nearer is at that distance
  nearer-seen : (p : ℕ) (r : RayData) (h : Sees r p) → nearer h.met r ≡ less (distance_of p) (reach r)
  nearer-seen p r h = R.nearer_is h.met r ∙ ap (λ (t : Distance). less t (reach r)) (sym h.seen_is)

  nearer_at : (p : ℕ) (r : RayData) (h : Sees r p) → less (distance_of p) (reach r) ≡ true → h.met ≡ distance_of p
  nearer_at p r h e =
      sym (R.seen_is h.met (reach r) r (ap (λ (t : Distance). less t (reach r)) (sym h.seen_is) ∙ e)) ∙ sym h.seen_is

  closest_is_lem : (p : ℕ) (r : RayData) (x : Found Distance) → Sees r p
      → closest pane nearer p r x ≡ lower pane nearer (less (distance_of p) (reach r)) p (distance_of p) x
  closest_is_lem p r x h =
      ap (λ (q : Pane Distance). lower_at pane nearer q p r x) h.pane_is
      ∙ ap (λ (c : Bool). lower pane nearer c p h.met x) (nearer-seen p r h)
      ∙ go (less (distance_of p) (reach r)) refl
    where
      go : (c : Bool) → less (distance_of p) (reach r) ≡ c → lower pane nearer c p h.met x ≡ lower pane nearer c p (distance_of p) x
      go true e = ap (λ (t : Distance). lower pane nearer true p t x) (nearer_at p r h e)
      go false e = refl

  -- told, it becomes the reach
  told_at : (p : ℕ) (r : RayData) (h : Sees r p) → less (distance_of p) (reach r) ≡ true → reach (T.told (distance_of p) r) ≡ distance_of p
  told_at p r h e =
      R.told_reach (distance_of p) r
      (ap (λ (t : Distance). less (seen r t) (reach r)) (sym (nearer_at p r h e))
      ∙ ap (λ (t : Distance). less t (reach r)) (sym h.seen_is) ∙ e)

  -- a position below the reach, the others seen from its distance; and one that is not
  lowers : (p : ℕ) (r : Distance) (x y : Found Distance) (l : List ℕ) → less (distance_of p) r ≡ true
      → Picks less distance_of (distance_of p) (hit p (distance_of p)) y l → Picks less distance_of r x y (p ∷ l)
  lowers p r x y l e (kept k h) = nearest p k (front_nearest less distance_of order p l r e h)
  lowers p r x y l e (nearest q k N) = nearest q k (nearer_later less distance_of order p l r e q N)

  passes : (p : ℕ) (r : Distance) (x y : Found Distance) (l : List ℕ) → Number (distance_of p) → less (distance_of p) r ≡ false
      → Picks less distance_of r x y l → Picks less distance_of r x y (p ∷ l)
  passes p r x y l n e (kept k h) = kept k (e, h)
  passes p r x y l n e (nearest q k N) = nearest q k (nearest_stays less distance_of order p l r n e q N)

  pub closest_picks : (l : List ℕ) (r : RayData) (x y : Found Distance) → All (Sees r) l → Notes m T (closest pane nearer) r x l y
      → Picks less distance_of (reach r) x y l
  closest_picks [] r x y h n = kept n tt
  closest_picks (p ∷ l) r x y h n =
      go (less (distance_of p) (reach r)) refl (subst (After m T (closest pane nearer) r l y) (closest_is_lem p r x h.0) n) (closest_picks l)
    where
      go : (c : Bool) → less (distance_of p) (reach r) ≡ c → After m T (closest pane nearer) r l y (lower pane nearer c p (distance_of p) x)
          → ((r : RayData) (x y : Found Distance) → All (Sees r) l → Notes m T (closest pane nearer) r x l y → Picks less distance_of (reach r) x y l)
          → Picks less distance_of (reach r) x y (p ∷ l)
      go true e k f =
          lowers p (reach r) x y l e
          (subst (λ (t : Distance). Picks less distance_of t (hit p (distance_of p)) y l) (told_at p r h.0 e)
          (f (T.told (distance_of p) r) (hit p (distance_of p)) y (all_map (told_seen (distance_of p) r) l h.1) k))
      go false e k f = passes p (reach r) x y l h.0.number e (f r x y h.1 k)

  -- ---- miss

  abbrev blocked_at : Distance → Bool → ℕ → Found Distance → React
  blocked_at t c p x = record { accumulator = cond c (hit p t) x; tells = []; stop = c }

  abbrev blocked_by : Bool → ℕ → Found Distance → React
  blocked_by c p x = blocked_at (distance_of p) c p x

  miss_is_lem : (p : ℕ) (r : RayData) (x : Found Distance) → Sees r p → miss pane nearer p r x ≡ blocked_by (less (distance_of p) (reach r)) p x
  miss_is_lem p r x h =
      ap (λ (q : Pane Distance). block_at pane nearer q p r x) h.pane_is
      ∙ ap (λ (c : Bool). blocked_at h.met c p x) (nearer-seen p r h)
      ∙ go (less (distance_of p) (reach r)) refl
    where
      go : (c : Bool) → less (distance_of p) (reach r) ≡ c → blocked_at h.met c p x ≡ blocked_by c p x
      go true e = ap (λ (t : Distance). blocked_at t true p x) (nearer_at p r h e)
      go false e = refl

  later : (p : ℕ) (r : Distance) (x y : Found Distance) (l : List ℕ) → less (distance_of p) r ≡ false → Stops less distance_of r x y l
      → Stops less distance_of r x y (p ∷ l)
  later p r x y l e (missed k h) = missed k (e, h)
  later p r x y l e (blocked q k B) = blocked q k (blocks_stays less distance_of order p l r e q B)

  pub miss_stops : (l : List ℕ) (r : RayData) (x y : Found Distance) → All (Sees r) l → Notes m T (miss pane nearer) r x l y
      → Stops less distance_of (reach r) x y l
  miss_stops [] r x y h n = missed n tt
  miss_stops (p ∷ l) r x y h n =
      go (less (distance_of p) (reach r)) refl (subst (After m T (miss pane nearer) r l y) (miss_is_lem p r x h.0) n) (miss_stops l r x y h.1)
    where
      go : (c : Bool) → less (distance_of p) (reach r) ≡ c → After m T (miss pane nearer) r l y (blocked_by c p x)
          → (Notes m T (miss pane nearer) r x l y → Stops less distance_of (reach r) x y l) → Stops less distance_of (reach r) x y (p ∷ l)
      go true e k f = blocked p k.1 (record { before = []; last = ap (p ∷◌) k.0; below = e; first = tt })
      go false e k f = later p (reach r) x y l e (f k)

  -- the first position that stops it is the first below the reach
  pub stops_below : (l : List ℕ) (r : RayData) → All (Sees r) l
      → up_to (λ p. (miss pane nearer p r none).stop) l ≡ up_to (λ p. less (distance_of p) (reach r)) l
  stops_below l r h =
      up_to_same (λ p. (miss pane nearer p r none).stop) (λ p. less (distance_of p) (reach r)) l
      (all_map (λ p k. ap (λ (y : React). y.stop) (miss_is_lem p r none k)) l h)
