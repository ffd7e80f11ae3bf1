-- Closest and miss over the record and the index list that a converted call left, for every accepted ray and panes without a fault that the tree's
-- index words name.
use mathlib.Core.List.{List, Perm}
use mathlib.Core.Logic.{◌↔◌}
use mathlib.Core.Path.{◌≡◌, sym, subst}
use Prim.Native.Nat.{ℕ, ◌/◌, ◌<◌}
use lib.Ieee.{Float, lt}
use lib.ListN.{length}
use Rattle.lists.proofs.Perms.{perm_length}
use Rattle.ray.specs.declared.Ray.{Ray}
use Rattle.ray.specs.Ray.{seen_at}
use Rattle.walk.specs.Reports.{NoneBelow}
use Rattle.query.specs.Met.{positions_met}
use Rattle.closest.specs.Panes.{missed, miss_of}
use Rattle.demands.specs.Call.{Call, Answers, record_at, list_at}
use Rattle.demands.specs.Walks.{CheckedRecord, AcceptedRay}
use Rattle.demands.specs.Panes.{Panes, distance_of, ClosestAnswers, MissAnswers}
use Rattle.demands.proofs.Words.{words_rearranged}
use Rattle.demands.proofs.Demands.{good_record, index_list_rearranges_words}
use Rattle.demands.proofs.SoundPanes as S

module _ (c : Call) (m d : ℕ) (answers : Answers c m d) where
  pub rearranged : Perm (list_at c) c.indices
  rearranged = index_list_rearranges_words c m d answers

  -- the record is sound for as many positions as the list has words
  pub list_good : CheckedRecord (record_at c m) (length (list_at c)) d
  list_good = subst (λ (n : ℕ). CheckedRecord (record_at c m) n d) (sym (perm_length (list_at c) c.indices rearranged)) (good_record c m d answers)

module _ (c : Call) (m d : ℕ) (answers : Answers c m d) (panes : List Float) (fine : Panes c.indices panes) (ray : Ray)
    (accepted : AcceptedRay ray) where
  -- the index list names the same panes
  pub list_panes : Panes (list_at c) panes
  list_panes = record {
    whole = fine.whole;
    accepted = fine.accepted;
    named = words_rearranged (λ k. k < length panes / 6) (list_at c) c.indices (rearranged c m d answers) fine.named;
  }

  -- Closest is not refused. It hits the nearest of the positions reported that is below the reach, the first met of equal ones; without one it has
  -- no hit.
  pub closest_answers : ClosestAnswers (record_at c m) (list_at c) panes ray
  closest_answers = S.closest_answers (list_good c m d answers) list_panes accepted

  -- Miss is not refused. It is blocked by the first position reported that is below the reach, and so exactly if closest has a hit.
  pub miss_answers : MissAnswers (record_at c m) (list_at c) panes ray
  miss_answers = S.miss_answers (list_good c m d answers) list_panes accepted

  -- It misses exactly if no position that any-hit lists is seen below the reach.
  pub missed_met : (miss_of (record_at c m) (list_at c) panes ray).answer ≡ missed
      ↔ NoneBelow lt (λ p. seen_at ray (distance_of (list_at c) panes ray p)) ray.tmax (positions_met (record_at c m) (length (list_at c)) ray)
  missed_met = S.missed_met (list_good c m d answers) list_panes accepted
