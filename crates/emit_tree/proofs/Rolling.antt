-- One turn of the loop over a node's slots: what is left, converted from here, gives what was to be made.
use mathlib.Core.Path.{◌≡◌, refl, ap, ◌∙◌}
use mathlib.Core.List.{List}
use Prim.Native.Nat.{ℕ, suc, ◌+◌}
use native.Mathlib.Omega.{arith}
use lib.ListN.{length}
use Rattle.aabb.specs.declared.Aabb.{Aabb}
use Rattle.wide_layout.specs.Wide.{Slots, empty, leaf, inner}
use Rattle.wide_layout.specs.Sizes.{inner_children, nodes_below, own_count, count_below}
use Rattle.wide_layout.specs.Conversion.{State, convert, convert_node}
use Rattle.wide_layout.proofs.Conversion.{convert_node_lem}
use Rattle.wide_layout.specs.Content.{Content, none, leaf_child, inner_child}
use Rattle.emit_tree.specs.declared.Next.{Next}
use Rattle.emit_tree.specs.Emission.{Written, write_entry, progress_of, EmitRoom, NodeRoom}

-- a slot before further slots, by what stands in it
abbrev pub put : {w : ℕ} → Content → Slots w → Slots (suc w)
put none s = empty s
put (leaf_child b ps) s = leaf b ps s
put (inner_child b t) s = inner b t s

pub record Rolling (indices : List ℕ) {w : ℕ} (s : Slots w) (l p k : ℕ) (goal : State Written) (m o : ℕ) (bytes out : List ℕ) (f : Next)
    (child : ℕ) : Type 0 where
  pub same : convert (write_entry indices) s l p k child (progress_of bytes out f) ≡ goal
  pub record-length : length bytes ≡ m
  pub list_length : length out ≡ o
  pub room : EmitRoom s m o child f

module _ (indices : List ℕ) {w : ℕ} (s : Slots w) (l p k : ℕ) (goal : State Written) (m o : ℕ) (bytes out : List ℕ) (f : Next) (child : ℕ) where
  -- an inner child: what its own conversion asks, and what is left after it
  pub child_room : (b : Aabb) (t : Slots 8) → Rolling indices (inner b t s) l p k goal m o bytes out f child
      → NodeRoom t (length bytes) (length out) child f
  child_room b t h =
      let r = h.room in
      let e = h.record-length in
      let g = h.list_length in
      record {
        mine = omega (arith, r.mine);
        nodes = omega (arith, r.nodes);
        few = omega (arith, r.few);
        list = omega (arith, r.list);
        short = omega (arith, r.short);
      }

  pub child_done : (b : Aabb) (t : Slots 8) (bytes₁ out₁ : List ℕ) (x : Next) → Rolling indices (inner b t s) l p k goal m o bytes out f child
      → length bytes₁ ≡ length bytes → length out₁ ≡ length out → progress_of bytes₁ out₁ x
      ≡ convert_node (write_entry indices) b t l p k child (progress_of bytes out f)
      → Rolling indices s l p (k + 1) goal m o bytes₁ out₁ x (child + 1)
  unfolding convert
  child_done b t bytes₁ out₁ x h q g e =
      let r = h.room in
      let c = e ∙ convert_node_lem (write_entry indices) b t l p k child (progress_of bytes out f) in
      let u : x.nodes ≡ f.nodes + (inner_children t + nodes_below t) = ap (λ (y : State Written). y.nodes) c in
      let v : x.positions ≡ f.positions + (own_count t + count_below t) = ap (λ (y : State Written). y.positions) c in
      record {
        same = ap (convert (write_entry indices) s l p (k + 1) (child + 1)) e ∙ h.same;
        record-length = q ∙ h.record-length;
        list_length = g ∙ h.list_length;
        room = record {
          mine = omega (arith, r.mine, u);
          nodes = omega (arith, r.nodes, u);
          few = omega (arith, r.few, u);
          list = omega (arith, r.list, v);
          short = omega (arith, r.short, v);
        };
      }

  -- any other slot
  pub other_done : (c : Content) → ((b : Aabb) (t : Slots 8) → c ≡ inner_child b t → ⊥) → Rolling indices (put c s) l p k goal m o bytes out f child
      → Rolling indices s l p (k + 1) goal m o bytes out f child
  unfolding convert
  other_done none n h =
      let r = h.room in
      record {
        same = h.same;
        record-length = h.record-length;
        list_length = h.list_length;
        room =
            record { mine = r.mine; nodes = r.nodes; few = r.few; list = r.list; short = r.short };
      }
  other_done (leaf_child b ps) n h =
      let r = h.room in
      record {
        same = h.same;
        record-length = h.record-length;
        list_length = h.list_length;
        room =
            record { mine = r.mine; nodes = r.nodes; few = r.few; list = r.list; short = r.short };
      }
  other_done (inner_child b t) n h = absurd (n b t refl)
