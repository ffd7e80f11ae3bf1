-- The lengths that conversion needs, by the tests that the code makes.
use mathlib.Core.Path.{◌≡◌, refl, sym, subst}
use mathlib.Core.Bool.{true, ◌&&◌}
use Prim.Native.Nat.{ℕ, zero, suc, ◌-◌, ◌*◌, ◌≤◌, ◌<◌, max}
use native.Mathlib.Omega.{arith}
use lib.Dec.{T, leb, leb→le}
use lib.Ieee.Fits.{and_l, and_r}
use borrow.Author.Tests.{le-leb}
use Rattle.bvh2_tables.specs.Call.{Lengths}
use Rattle.bvh2_tables.specs.Tables.{table_size, record_size, slices_fit}

pub size_none : record_size 0 ≡ 0
unfolding record_size
size_none = refl

pub size_some : (n : ℕ) → 0 < n → record_size n ≡ 80 * max 1 (n - 1)
unfolding record_size
size_some zero h = absurd (omega arith)
size_some (suc k) h = omega arith

module _ (n : ℕ) (l : Lengths) where
  -- long enough
  pub room_enough : table_size n ≤ l.decisions → table_size n ≤ l.costs → record_size n ≤ l.bytes → n ≤ l.list → slices_fit n l ≡ true
  unfolding slices_fit
  room_enough g h k m =
      rw (le-leb (table_size n) l.decisions g, le-leb (table_size n) l.costs h, le-leb (record_size n) l.bytes k, le-leb n l.list m)

  -- what the test says where it passed
  pub room_parts : slices_fit n l ≡ true → (table_size n ≤ l.decisions) × (table_size n ≤ l.costs) × (record_size n ≤ l.bytes) × (n ≤ l.list)
  unfolding slices_fit
  room_parts e =
      let t = subst T (sym e) tt in
      let x = leb (table_size n) l.decisions in
      let y = leb (table_size n) l.costs in
      let z = leb (record_size n) l.bytes in
      let w = leb n l.list in
      let xyz = and_l (x && y && z) w t in
      let xy = and_l (x && y) z xyz in (
        leb→le (table_size n) l.decisions (and_l x y xy),
        leb→le (table_size n) l.costs (and_r x y xy),
        leb→le (record_size n) l.bytes (and_r (x && y) z xyz),
        leb→le n l.list (and_r (x && y && z) w t),
      )
