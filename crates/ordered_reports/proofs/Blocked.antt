-- Where a ray meets the same panes in two records, each as often, miss is blocked in both or in neither, and closest has a hit in both or in neither.
use mathlib.Core.Bool.{false}
use mathlib.Core.List.Perm
use mathlib.Core.List.{List, [], ◌∷◌, Perm}
use mathlib.Core.Logic.{◌⊎◌, inl, inr, ◌↔◌}
use mathlib.Core.Path.{◌≡◌, sym, ◌∙◌}
use Prim.Native.Nat.{ℕ}
use native.Mathlib.Omega.{arith}
use lib.Ieee.{Float, lt}
use lib.ListN.{length}
use Rattle.lists.proofs.Perms.{counts_perm}
use Rattle.ray.specs.declared.Ray.{Ray}
use Rattle.ray.specs.Ray.{seen_at}
use Rattle.aabb.specs.Aabb.{entry_distance}
use Rattle.packed.specs.Packed.{box_in}
use Rattle.walk.specs.Calls.{All}
use Rattle.walk.specs.Listing.{In}
use Rattle.walk.specs.Reports.{NoneBelow}
use Rattle.walk.proofs.Lists.{in_head, in_tail, all_in}
use Rattle.query.specs.Met.{positions_met, panes_met}
use Rattle.closest.specs.Panes.{missed, blocked, no_hit, closest_of, miss_of}
use Rattle.demands.specs.Walks.{CheckedRecord, AcceptedRay}
use Rattle.demands.specs.Panes.{Panes, distance_of}
use Rattle.demands.proofs.SoundPanes.{miss_answers, missed_met}

-- ---- what holds of each member of a list holds of the list rearranged

each_all : (P : ℕ → Type 0) (l : List ℕ) → ((p : ℕ) → In p l → P p) → All P l
each_all P [] h = tt
each_all P (p ∷ l) h = (h p (in_head p l), each_all P l (λ q i. h q (in_tail q p l i)))

all_rearranged : (P : ℕ → Type 0) (a b : List ℕ) → Perm a b → All P a → All P b
all_rearranged P a b r h = each_all P b (λ p i. all_in P a h p (let e = (counts_perm a b).0 r p in omega (arith, i, e)))

module _ (panes : List Float) (ray : Ray) where
  -- pane k is not seen below the reach
  abbrev Unseen : ℕ → Type 0
  Unseen k = lt (seen_at ray (entry_distance (box_in panes k) ray)) ray.tmax ≡ false

  -- so of positions by their panes
  none_by_panes : (list l : List ℕ) → NoneBelow lt (λ p. seen_at ray (distance_of list panes ray p)) ray.tmax l ↔ All Unseen (panes_met list l)
  none_by_panes list l = (to l, from l)
    where
      to : (l : List ℕ) → NoneBelow lt (λ p. seen_at ray (distance_of list panes ray p)) ray.tmax l → All Unseen (panes_met list l)
      to [] h = tt
      to (p ∷ l) h = (h.0, to l h.1)

      from : (l : List ℕ) → All Unseen (panes_met list l) → NoneBelow lt (λ p. seen_at ray (distance_of list panes ray p)) ray.tmax l
      from [] h = tt
      from (p ∷ l) h = (h.0, from l h.1)

-- a record with its index list, panes without a fault, and a ray
pub record Asked (bytes list : List ℕ) (panes : List Float) (ray : Ray) : Type 0 where
  pub level : ℕ
  pub good : CheckedRecord bytes (length list) level
  pub fine : Panes list panes
  pub accepted : AcceptedRay ray

module _ {bytes list other_bytes other_list : List ℕ} {panes : List Float} {ray : Ray} (a : Asked bytes list panes ray)
    (b : Asked other_bytes other_list panes ray)
    (same : Perm (panes_met list (positions_met bytes (length list) ray)) (panes_met other_list (positions_met other_bytes (length other_list) ray)))
  where
    missed_too : (miss_of bytes list panes ray).answer ≡ missed → (miss_of other_bytes other_list panes ray).answer ≡ missed
    missed_too e =
        (missed_met b.good b.fine b.accepted).1 ((none_by_panes panes ray other_list _).1 (all_rearranged (Unseen panes ray) _ _ same
        ((none_by_panes panes ray list _).0 ((missed_met a.good a.fine a.accepted).0 e))))

module _ {bytes list other_bytes other_list : List ℕ} {panes : List Float} {ray : Ray} (a : Asked bytes list panes ray)
    (b : Asked other_bytes other_list panes ray)
    (same : Perm (panes_met list (positions_met bytes (length list) ray)) (panes_met other_list (positions_met other_bytes (length other_list) ray)))
  where
    -- miss answers the same,
    pub miss_alike : (miss_of bytes list panes ray).answer ≡ (miss_of other_bytes other_list panes ray).answer
    miss_alike = go (miss_answers a.good a.fine a.accepted).answers (miss_answers b.good b.fine b.accepted).answers
      where
        go : ((miss_of bytes list panes ray).answer ≡ missed) ⊎ ((miss_of bytes list panes ray).answer ≡ blocked)
            → ((miss_of other_bytes other_list panes ray).answer ≡ missed) ⊎ ((miss_of other_bytes other_list panes ray).answer ≡ blocked)
            → (miss_of bytes list panes ray).answer ≡ (miss_of other_bytes other_list panes ray).answer
        go (inl e) g = e ∙ sym (missed_too a b same e)
        go (inr e) (inl g) = missed_too b a (Perm.symm same) g ∙ sym g
        go (inr e) (inr g) = e ∙ sym g

    -- and closest has a hit in both or in neither
    pub no_hit_alike : (closest_of bytes list panes ray).answer ≡ no_hit ↔ (closest_of other_bytes other_list panes ray).answer ≡ no_hit
    no_hit_alike =
        let m = (miss_answers a.good a.fine a.accepted).missed_no_hit in
        let o = (miss_answers b.good b.fine b.accepted).missed_no_hit in (
          λ e. o.0 (missed_too a b same (m.1 e)),
          λ e. m.0 (missed_too b a (Perm.symm same) (o.1 e)),
        )
