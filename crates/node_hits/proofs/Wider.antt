-- A slot whose bytes enclose another's is passed wherever that is: on a node that meets the rule, by an accepted ray without -0 in its direction.
use mathlib.Core.Path.{◌≡◌, sym, subst}
use mathlib.Core.Bool.{true}
use Prim.Native.Nat.{◌≤◌}
use lib.Dec.{T}
use lib.Ieee.{Float, le}
use lib.Ieee.Bits.{is_true}
use Rattle.float.proofs.Order.{le_self, le_transitive}
use Rattle.ray.specs.declared.Ray.{Ray}
use Rattle.ray.specs.Ray.{plain_vec}
use Rattle.ray.proofs.Bounds.{Accepted}
use Rattle.node.specs.declared.Slot.{Slot}
use Rattle.node.specs.declared.Node.{Node}
use Rattle.node_rule.specs.Rule.{Head}
use Rattle.node_slot.specs.Slot.{near_limit, near_x, near_y, near_z, far_x, far_y, far_z, passes}
use Rattle.node_hits.proofs.Limit.{limit_number}
use Rattle.node_hits.proofs.Passing.{AtMostFar, Passing, passes_iff}
use Rattle.node_hits.proofs.Signs.{AxesOrder, axes_order}
use Rattle.node_hits.proofs.Terms.{Inverted, SlotBytes}

-- on each axis u begins no later than t, and ends no earlier
pub record Encloses (u t : Slot) : Type 0 where
  pub min_x : u.min_x ≤ t.min_x
  pub min_y : u.min_y ≤ t.min_y
  pub min_z : u.min_z ≤ t.min_z
  pub max_x : t.max_x ≤ u.max_x
  pub max_y : t.max_y ≤ u.max_y
  pub max_z : t.max_z ≤ u.max_z

module _ (v : Node) (t u : Slot) (r : Ray) (s : AxesOrder v r) (b : SlotBytes t) (c : SlotBytes u) (w : Encloses u t) where
  -- what is at most each far value of t is at most each of u, and so is all that is not greater
  far_wider : (p q : Float) → T (le q p) → AtMostFar v t r p → AtMostFar v u r q
  far_wider p q l h = record {
    x =
        le_transitive q p (far_x v u r) l (le_transitive p (far_x v t r) (far_x v u r) h.x
        (s.x t.min_x t.max_x u.min_x u.max_x w.min_x w.max_x b.min_x c.max_x));
    y =
        le_transitive q p (far_y v u r) l (le_transitive p (far_y v t r) (far_y v u r) h.y
        (s.y t.min_y t.max_y u.min_y u.max_y w.min_y w.max_y b.min_y c.max_y));
    z =
        le_transitive q p (far_z v u r) l (le_transitive p (far_z v t r) (far_z v u r) h.z
        (s.z t.min_z t.max_z u.min_z u.max_z w.min_z w.max_z b.min_z c.max_z));
    tmax = le_transitive q p r.tmax l h.tmax;
  }

  -- each near value of u is at most that of t
  passing_wider : Passing v t r → Passing v u r
  passing_wider h = record {
    near_x_lem =
        far_wider (near_x v t r) (near_x v u r)
        (s.x u.max_x u.min_x t.max_x t.min_x w.max_x w.min_x c.max_x b.min_x) h.near_x_lem;
    near_y_lem =
        far_wider (near_y v t r) (near_y v u r)
        (s.y u.max_y u.min_y t.max_y t.min_y w.max_y w.min_y c.max_y b.min_y) h.near_y_lem;
    near_z_lem =
        far_wider (near_z v t r) (near_z v u r)
        (s.z u.max_z u.min_z t.max_z t.min_z w.max_z w.min_z c.max_z b.min_z) h.near_z_lem;
    limit = far_wider (near_limit r) (near_limit r) (le_self (near_limit r) (limit_number r)) h.limit;
  }

pub passes_wider : (v : Node) (t u : Slot) (r : Ray) → Head v → SlotBytes t → SlotBytes u → Accepted r → Inverted r → plain_vec r.direction ≡ true
    → Encloses u t → passes v t r ≡ true → passes v u r ≡ true
passes_wider v t u r h b c a i p w e =
    is_true (passes v u r)
    ((passes_iff v u r h c a i).1
    (passing_wider v t u r (axes_order v r h a i p) b c w ((passes_iff v t r h b a i).0 (subst T (sym e) tt))))
