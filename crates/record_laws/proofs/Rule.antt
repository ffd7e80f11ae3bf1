-- Every node of an accepted tree's record meets the node rule.
use mathlib.Core.Path.{◌≡◌, refl, sym, subst}
use mathlib.Core.Bool.{◌&&◌}
use Prim.Native.Nat.{ℕ, zero, suc, ◌+◌, ◌-◌, ◌/◌, ◌^◌, ◌<◌, ◌≤◌}
use native.Mathlib.Omega.{arith}
use lib.Dec.{T}
use lib.Ieee.{Float, binary32, fits, to_bits, of_bits}
use lib.Ieee.Bits.{of_bits-to_bits}
use lib.Ieee.Fits.{and_l, and_r}
use lib.ListN.{length, get_or}
use Rattle.float.specs.Compare.{in_bounds}
use Rattle.ray.specs.declared.Vec3.{Vec3}
use Rattle.ray.specs.Ray.{bounded_vec}
use Rattle.aabb.specs.declared.Aabb.{Aabb}
use Rattle.aabb.specs.Aabb.{accepted_box, in_order}
use Rattle.quantization.proofs.Exponent.{box_in_range}
use Rattle.node.specs.Node as bytes
use Rattle.node.specs.Node.{inner_bit}
use Rattle.node_rule.specs.Rule.{Head, LeafTop, one, two, three, SlotRule, empty, child, leaf, Rule}
use Rattle.wide_layout.specs.Wide.{Slots, Wide}
use Rattle.wide_layout.specs.Sizes.{own_count, own_before, SmallLeaves}
use Rattle.wide_layout.specs.Layout.{Entry, nodes, index_count}
use Rattle.wide_layout.specs.Shape.{layout_entry}
use Rattle.wide_layout.proofs.Sizes.{own_inside}
use Rattle.record.specs.Record.{node_of, metas, inner_mask, record_bytes}
use Rattle.wide_layout.specs.Content.{Content, none, leaf_child, inner_child, content_at}
use Rattle.record.specs.Children.{child_meta, child_inner, child_positions}
use Rattle.record_shape.specs.Record.{RuleAt}
use Rattle.record_laws.specs.Writable.{NodeBox, Writable}
use Rattle.record_laws.proofs.ReadBack.{record-count}
use Rattle.record_laws.proofs.Codes.{Code, code, mask_ones}
use Rattle.record_laws.proofs.Slots.{SmallChild, small_child, own_child, meta_of, bit_of, ends_24}
use Rattle.record_laws.proofs.Range.{node_of_lem}
use Rattle.record_laws.proofs.ShapeRead.{node_read}

-- ---- p and e
point : (x : Float) → T (fits binary32 x) → T (in_bounds x) → T (in_bounds (of_bits binary32 (to_bits binary32 x)))
point x f h = subst (λ (y : Float). T (in_bounds y)) (sym (of_bits-to_bits binary32 x f)) h

lower : (b : Aabb) → T (accepted_box b) → T (bounded_vec b.min)
unfolding accepted_box
lower b t = and_l (bounded_vec b.min) (bounded_vec b.max) (and_l (bounded_vec b.min && bounded_vec b.max) (in_order b) t)

components : (v : Vec3) → T (bounded_vec v) → T (in_bounds v.x) × T (in_bounds v.y) × T (in_bounds v.z)
unfolding bounded_vec
components v t =
    let xy = and_l (in_bounds v.x && in_bounds v.y) (in_bounds v.z) t in (
      and_l (in_bounds v.x) (in_bounds v.y) xy,
      and_r (in_bounds v.x) (in_bounds v.y) xy,
      and_r (in_bounds v.x && in_bounds v.y)
          (in_bounds v.z) t,
    )

head : (e : Entry) → NodeBox e.box → Head (node_of e)
unfolding node_of
head e h =
    let c = components e.box.min (lower e.box h.accepted) in
    let r = box_in_range e.box h.accepted in record {
      px = point e.box.min.x h.x c.0;
      py = point e.box.min.y h.y c.1;
      pz = point e.box.min.z h.z c.2;
      ex = r.x;
      ey = r.y;
      ez = r.z;
    }

-- ---- slots
leaf_top_lem : (count top : ℕ) → 1 ≤ count → count ≤ 3 → top ≡ 2 ^ count - 1 → LeafTop top
leaf_top_lem zero top h l e = absurd (omega arith)
leaf_top_lem (suc zero) top h l e = one e
leaf_top_lem (suc (suc zero)) top h l e = two e
leaf_top_lem (suc (suc (suc zero))) top h l e = three e
leaf_top_lem (suc (suc (suc (suc n)))) top h l e = absurd (omega arith)

leaf_rule : (meta count before i base n : ℕ) → 1 ≤ count → count ≤ 3 → Code meta count before → before + count ≤ 24 → base + (before + count) ≤ n
    → SlotRule meta 0 i base n
leaf_rule meta count before i base n h l c a b =
    leaf (leaf_top_lem count (meta / 32) h l c.top) refl (omega (arith, c.low, c.ones)) (omega (arith, c.low, c.ones))

child_rule : (c : Content) (i before base n : ℕ) → SmallChild c → before + length (child_positions c) ≤ 24
    → base + (before + length (child_positions c)) ≤ n
    → SlotRule (child_meta c i before) (child_inner c) i base n
unfolding child_meta child_inner child_positions
child_rule none i before base n s a b = empty refl refl
child_rule (leaf_child c ps) i before base n s a b =
    leaf_rule _ (length ps) before i base n s.0 s.1 (code (length ps) before s.1 (omega arith)) a b
child_rule (inner_child c t) i before base n s a b = child refl refl

slot : (s : Slots 8) (base n : ℕ) → SmallLeaves s → base + own_count s ≤ n → (k : ℕ) → k < 8
    → SlotRule (get_or (metas s 0 0) k 0) (inner_bit (inner_mask s 0) k) k base n
slot s base n small room k l =
    subst (λ (m : ℕ). SlotRule m (inner_bit (inner_mask s 0) k) k base n) (sym (meta_of s small k l))
    (subst (λ (x : ℕ). SlotRule (child_meta (content_at s k) k (own_before s k)) x k base n) (sym (bit_of s small k l))
    (child_rule (content_at s k) k (own_before s k) base n (small_child s small k)
    (omega (arith, own_child s k, ends_24 s small k l))
    (omega (arith, own_child s k, own_inside s k))))

-- ---- the rule
pub node_rule_lem : (t : Wide) → Writable t → (v : ℕ) → v < nodes t → Rule (node_of (layout_entry t v)) (nodes t) (index_count t) v
unfolding node_of
node_rule_lem t h v l =
    let e = layout_entry t v in
    let r = node_of_lem t h v l in
    let i = r.inside in record {
      head = head e r.box;
      children = record {
        later = λ p. omega (arith, i.later, r.number);
        exist = λ p. omega (arith, i.nodes, mask_ones e.slots);
      };
      slots = λ k m. slot e.slots e.position_base (index_count t) r.small i.positions k m;
    }

-- of the bytes
pub record_rule : (t : Wide) → Writable t → (v : ℕ) → v < nodes t → RuleAt (record_bytes t) (index_count t) v
record_rule t h v l =
    subst (λ (m : ℕ). Rule (bytes.node_at (record_bytes t) v) m (index_count t) v) (sym (record-count t))
    (subst (λ n. Rule n (nodes t) (index_count t) v) (sym (node_read t h v l)) (node_rule_lem t h v l))
