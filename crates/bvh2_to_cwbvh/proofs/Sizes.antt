-- How long the defined record and the defined index list are.
use mathlib.Core.Path.{◌≡◌, refl, ◌∙◌}
use mathlib.Core.Bool.{Bool}
use mathlib.Core.List.{List}
use Prim.Native.Nat.{ℕ, zero, suc, ◌*◌}
use native.Mathlib.Omega.{arith}
use lib.ListN.{length, get_or, length-map}
use Rattle.bvh2.specs.Causes.{Accepted}
use Rattle.bvh2.proofs.Decoded.{accepted_decoded}
use Rattle.wide_layout.proofs.Sizes.{index_length}
use Rattle.wide_tree.proofs.Ordered.{index_count_lem}
use Rattle.wide_tree.specs.Ordered.{wide_tree_of}
use Rattle.record.proofs.Length.{record-length}
use Rattle.bvh2_to_cwbvh.specs.Conversion.{record_of, nodes_of, output_positions, index_list_of}

module _ (ws : List ℕ) (limit : ℕ) (ordered : Bool) where
  -- 80 bytes to a node
  pub bytes-length : (n : ℕ) → length (record_of ws n limit ordered) ≡ 80 * nodes_of ws n limit ordered
  unfolding record_of nodes_of
  bytes-length zero = refl
  bytes-length (suc n) = record-length (wide_tree_of ws ordered limit)

  -- a word for each leaf
  positions-length : (n : ℕ) → Accepted ws n → length (output_positions ws n limit ordered) ≡ n
  unfolding output_positions
  positions-length zero h = refl
  positions-length (suc n) h =
      let d = (accepted_decoded ws (suc n) (omega arith)).0 h in
      index_length (wide_tree_of ws ordered limit) ∙ index_count_lem ordered limit ws (suc n) d

  pub list_length : (indices : List ℕ) → Accepted ws (length indices) → length (index_list_of ws indices limit ordered) ≡ length indices
  unfolding index_list_of
  list_length indices h = length-map (output_positions ws (length indices) limit ordered) (λ p. get_or indices p 0)
      ∙ positions-length (length indices) h
