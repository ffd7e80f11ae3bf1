-- The lengths that the call needs, where the test passed.
use mathlib.Core.Bool.{true, ◌&&◌}
use mathlib.Core.Path.{◌≡◌, sym, subst}
use Prim.Native.Nat.{ℕ, ◌+◌, ◌*◌, ◌≤◌}
use lib.Dec.{T, leb, leb→le}
use lib.Ieee.Fits.{and_l, and_r}
use Rattle.bvh2.specs.Words.{tree_nodes}
use Rattle.join.specs.Join.{marks_needed, room_for}

module _ (n m marks words indices : ℕ) where
  pub room_parts : room_for n m marks words indices ≡ true → (marks_needed n m ≤ marks) × (tree_nodes (n + m) * 7 ≤ words) × (n + m ≤ indices)
  unfolding room_for
  room_parts e =
      let x = leb (marks_needed n m) marks in
      let y = leb (tree_nodes (n + m) * 7) words in
      let z = leb (n + m) indices in
      let t = subst T (sym e) tt in
      let xy = and_l (x && y) z t in (
        leb→le (marks_needed n m) marks (and_l x y xy),
        leb→le (tree_nodes (n + m) * 7) words (and_r x y xy),
        leb→le (n + m) indices (and_r (x && y) z t),
      )
