-- Laws of the printed lines: their lengths, and the lines one by one.
use mathlib.Core.Path.{◌≡◌, refl, ap}
use mathlib.Core.List.{List, [], ◌++◌}
use Prim.Native.Nat.{ℕ, suc, ◌+◌, ◌-◌, ◌*◌, ◌≤◌, ◌<◌}
use native.Mathlib.Numerals.{add-one}
use native.Mathlib.Omega.{arith}
use lib.ListN.{length, take, drop, get_or, length-append}
use Rattle.text.specs.Text.{chars, decimal}
use Rattle.text.proofs.Hex.{length-hex}
use Rattle.text.proofs.Put.{drop_next}
use Rattle.show.specs.Show.{node_line, node_lines, spaced, indices_line}

pub length_node : (i : ℕ) (node : List ℕ) → length (node_line i node) ≡ length (decimal i) + (2 * length node + 2)
unfolding node_line chars
length_node i node = simp (length-append, length-hex) (omega arith)

pub length_indices : (l : List ℕ) → length (indices_line l) ≡ length (spaced l) + 8
unfolding indices_line chars
length_indices l = simp length-append (omega arith)

-- the next node's line first, its bytes as code cuts them out
pub lines_next : (bytes : List ℕ) (i m : ℕ) → i < m
    → node_lines bytes i (m - i) ≡ node_line i (take (80 * i + 80 - 80 * i) (drop (80 * i) bytes)) ++ node_lines bytes (i + 1) (m - (i + 1))
unfolding node_lines
lines_next bytes i m h =
    let e : m - i ≡ suc (m - (i + 1)) = omega arith in
    let f : 80 * i + 80 - 80 * i ≡ 80 = omega arith in
    rw (e, f, add-one) refl

pub lines_none : (bytes : List ℕ) (i m : ℕ) → m ≤ i → node_lines bytes i (m - i) ≡ []
unfolding node_lines
lines_none bytes i m h =
    let e : m - i ≡ 0 = omega arith in
    rw e refl

-- the next index first
pub spaced_next : (l : List ℕ) (i : ℕ) → i < length l → spaced (drop i l) ≡ (chars " " ++ decimal (get_or l i 0)) ++ spaced (drop (i + 1) l)
unfolding spaced
spaced_next l i h = ap spaced (drop_next l i h)
