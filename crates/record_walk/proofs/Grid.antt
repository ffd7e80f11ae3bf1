-- The slot test reads of a node its corner and its exponents, and of a slot its six bytes: so a child is passed or not by its parent's box and its
-- own, whatever slot it stands in.
use mathlib.Core.Path.{◌≡◌, refl, ap, ◌∙◌}
use Prim.Native.Nat.{ℕ}
use Rattle.ray.specs.declared.Ray.{Ray}
use Rattle.aabb.specs.declared.Aabb.{Aabb}
use Rattle.node.specs.declared.Slot.{Slot}
use Rattle.node.specs.declared.Node.{Node}
use Rattle.node_slot.specs.Slot.{passes}
use Rattle.node_slot.specs.Mask.{passes_slot}
use Rattle.wide_layout.specs.Content.{content_at}
use Rattle.wide_layout.specs.Layout.{Entry}
use Rattle.record.specs.Record.{grid_box, node_of}
use Rattle.record.specs.Children.{child_bytes}
use Rattle.record.proofs.Children.{bytes_at}
use Rattle.record_walk.specs.Kept.{bare_node, box_kept}

-- two nodes with one corner and one set of exponents
pub record SameGrid (v u : Node) : Type 0 where
  pub px : v.px ≡ u.px
  pub py : v.py ≡ u.py
  pub pz : v.pz ≡ u.pz
  pub ex : v.ex ≡ u.ex
  pub ey : v.ey ≡ u.ey
  pub ez : v.ez ≡ u.ez

pub passes_by_grid : (v u : Node) → SameGrid v u → (t : Slot) (r : Ray) → passes v t r ≡ passes u t r
unfolding passes
passes_by_grid v u h t r = rw (h.px, h.py, h.pz, h.ex, h.ey, h.ez)

-- a slot with the bytes of box c is passed as the box is
pub slot_kept : (e : Entry) (k : ℕ) (c : Aabb) → child_bytes e.box (content_at e.slots k) ≡ grid_box e.box c → (r : Ray)
    → passes_slot (node_of e) r k ≡ box_kept r e.box c
unfolding node_of bare_node box_kept
slot_kept e k c h r =
    ap (λ (t : Slot). passes (node_of e) t r) (bytes_at e.box e.slots k ∙ h)
    ∙ passes_by_grid (node_of e) (bare_node e.box) (record { px = refl; py = refl; pz = refl; ex = refl; ey = refl; ez = refl }) (grid_box e.box c) r
