-- Internal: two records with their index lists that are alike to rays, on which any-hit's answers, losses and reports over them rest.
use Rattle.std.specs.Prelude.{◌≡◌, ℕ, length}
use mathlib.Core.List.{List, Perm}
use Rattle.causes.proofs.Sizes.{Fit}
use Rattle.ray.specs.declared.Ray.{Ray}
use Rattle.gate.specs.Gates.{Gates, all_open}
use Rattle.walk.specs.Queries.{Ended}
use Rattle.query.specs.Met.{walk_met_by, positions_met_by, tests_made_by, panes_met}
use Rattle.demands.specs.Walks.{AcceptedRay}

-- two records with their index lists, all taken to have n positions
module _ (n : ℕ) (bytes list other_bytes other_list : List ℕ) where
  -- Both have sizes that queries take, the same for both.
  pub record SizedAlike : Type 0 where
    pub fit : Fit (length bytes) n
    pub same_length : length bytes ≡ length other_bytes
    pub list_length : length list ≡ n
    pub other_length : length other_list ≡ n

  -- A ray's walks, one beside some gates and one beside others, are not refused, and meet the same panes, each as often, after as many node tests.
  pub record MetAlikeBy (g other : Gates) (r : Ray) : Type 0 where
    pub ends : Ended (walk_met_by g bytes n r).ended
    pub other_ends : Ended (walk_met_by other other_bytes n r).ended
    pub panes : Perm (panes_met list (positions_met_by g bytes n r)) (panes_met other_list (positions_met_by other other_bytes n r))
    pub tests : tests_made_by g bytes n r ≡ tests_made_by other other_bytes n r

  -- by boxes alone
  abbrev pub MetAlike : Ray → Type 0
  MetAlike r = MetAlikeBy all_open all_open r

  -- This holds of every accepted ray.
  abbrev pub AllMetAlike : Type 0
  AllMetAlike = (r : Ray) → AcceptedRay r → MetAlike r
