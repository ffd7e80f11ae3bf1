-- What a convertible call's tree becomes, and what an answered call leaves: the record and the index list of the tree's wide tree.
use mathlib.Core.Bool.{Bool}
use mathlib.Core.List.Perm
use mathlib.Core.List.{List, [], Perm}
use mathlib.Core.Path.{◌≡◌, refl, sym, ap, ◌∙◌, subst}
use Prim.Native.Nat.{ℕ, zero, suc, ◌*◌, ◌≤◌, ◌<◌}
use native.Mathlib.Omega.{arith}
use lib.ListN.{length, take}
use Rattle.lists.specs.Counts.{upto}
use Rattle.lists.proofs.Splice.{splice_taken}
use Rattle.bvh2.specs.Tree.{positions}
use Rattle.bvh2.specs.Words.{tree_of}
use Rattle.bvh2.specs.Decoded.{Decoded}
use Rattle.bvh2.proofs.Decoded.{accepted_decoded, decoded_leaves, positions-length}
use Rattle.wide_layout.specs.Sizes as S
use Rattle.lists.specs.At.{words_at}
use Rattle.wide_tree.specs.WideTree.{wide_of}
use Rattle.wide_tree.specs.Ordered.{placing, wide_tree_of}
use Rattle.wide_tree.proofs.WideTree.{small_leaves}
use Rattle.wide_tree.proofs.Positions.{wide_positions}
use Rattle.wide_tree.proofs.Ordered.{places, fine, index_count_lem, node-count}
use Rattle.record_laws.specs.Writable.{Writable}
use Rattle.bvh2_to_cwbvh.specs.Conversion.{record_of, level_of, output_positions, index_list_of}
use Rattle.bvh2_to_cwbvh.proofs.Answers.{answered}
use Rattle.bvh2_to_cwbvh.proofs.Sizes.{bytes-length, list_length}
use Rattle.demands.specs.Call.{Call, Answers, leaf_count, record_at, list_at, leaf_positions, defined_record, defined_list, deepest_level}
use Rattle.demands.specs.Call.{Convertible}
use Rattle.demands.proofs.Writes.{Writes, nothing, written}
use Rattle.demands.proofs.Boxes.{node_boxes}

module _ (ws : List ℕ) (limit : ℕ) (ordered : Bool) (n : ℕ) (h : Decoded ws n) (small : limit ≤ 3) where
  pub wide : Writable (wide_tree_of ws ordered limit)
  unfolding wide_of
  wide =
      let b = node_boxes ws limit ordered h.boxes in
      let m = node-count ordered limit ws n h small in
      let f = h.few in
      record {
        root = b.0;
        boxes = b.1;
        leaves = small_leaves (placing ordered) limit small (tree_of ws);
        nodes = omega arith;
        positions = omega (arith, index_count_lem ordered limit ws n h);
      }

  held : Perm (S.slots_positions (wide_tree_of ws ordered limit).slots) (positions (tree_of ws))
  unfolding wide_of
  held = wide_positions (placing ordered) limit (places ordered) (tree_of ws) (fine ws n h)

-- the record and the index list of a convertible call's tree are those of its wide tree, whatever its levels
pub defined : (c : Call) → Convertible c
    → Writes (leaf_positions c.words (leaf_count c)) c.indices (defined_record c) (defined_list c) (deepest_level c)
unfolding index_list_of leaf_positions record_of output_positions level_of
defined c h = go (leaf_count c) (λ p. (accepted_decoded c.words (leaf_count c) p).0 h.accepted)
  where
    go : (n : ℕ) → (0 < n → Decoded c.words n)
        → Writes (leaf_positions c.words n) c.indices (record_of c.words n c.limit c.ordered)
        (words_at c.indices (output_positions c.words n c.limit c.ordered)) (level_of c.words n c.limit c.ordered)
    go zero d = nothing refl refl refl refl
    go (suc n) d =
        let t = d (omega arith) in
        written (wide_tree_of c.words c.ordered c.limit) (wide c.words c.limit c.ordered (suc n) t h.small)
        (held c.words c.limit c.ordered (suc n) t h.small) refl refl refl

-- an answered call leaves them in front of its output slices, and its level is at most 31
pub record_is : (c : Call) (m d : ℕ) → Answers c m d → record_at c m ≡ defined_record c
record_is c m d h =
    let r = answered c m d h in
    let e = bytes-length c.words c.limit c.ordered (leaf_count c) in
    ap (take (80 * m)) r.record_is ∙ splice_taken c.bytes (defined_record c) (80 * m) (omega (arith, e, r.nodes))

pub list_is : (c : Call) (m d : ℕ) → Answers c m d → list_at c ≡ defined_list c
list_is c m d h =
    let r = answered c m d h in
    ap (take (leaf_count c)) r.list_is
    ∙ splice_taken c.list (defined_list c) (leaf_count c) (list_length c.words c.limit c.ordered c.indices r.none.accepted)

pub level_low : (c : Call) (m d : ℕ) → Answers c m d → d ≤ 31
level_low c m d h =
    let r = answered c m d h in
    omega (arith, r.level, r.low)

pub writes : (c : Call) (m d : ℕ) → Answers c m d → Writes (leaf_positions c.words (leaf_count c)) c.indices (record_at c m) (list_at c) d
writes c m d h =
    let r = answered c m d h in
    let w : List ℕ → List ℕ → ℕ → Type 0 = Writes (leaf_positions c.words (leaf_count c)) c.indices in
    subst (λ (b : List ℕ). w b (list_at c) d) (sym (record_is c m d h))
    (subst (λ (l : List ℕ). w (defined_record c) l d) (sym (list_is c m d h))
    (subst (λ (x : ℕ). w (defined_record c) (defined_list c) x) (sym r.level) (defined c r.none)))

-- as many positions as leaves, each of 0 .. n − 1 once
positions-count : (ws : List ℕ) (n : ℕ) → (0 < n → Decoded ws n) → length (leaf_positions ws n) ≡ n
unfolding leaf_positions
positions-count ws zero h = refl
positions-count ws (suc n) h = let d = h (omega arith) in positions-length (tree_of ws) ∙ decoded_leaves ws (suc n) d

positions-each : (ws : List ℕ) (n : ℕ) → (0 < n → Decoded ws n) → Perm (leaf_positions ws n) (upto 0 n)
unfolding leaf_positions upto
positions-each ws zero h = Perm.refl []
positions-each ws (suc n) h = (h (omega arith)).held

pub leaf_count_lem : (c : Call) → Convertible c → length (leaf_positions c.words (leaf_count c)) ≡ leaf_count c
leaf_count_lem c h = positions-count c.words (leaf_count c) (λ p. (accepted_decoded c.words (leaf_count c) p).0 h.accepted)

pub leaf_each : (c : Call) → Convertible c → Perm (leaf_positions c.words (leaf_count c)) (upto 0 (leaf_count c))
leaf_each c h = positions-each c.words (leaf_count c) (λ p. (accepted_decoded c.words (leaf_count c) p).0 h.accepted)
