-- How long the printed texts are at most.
use mathlib.Core.Path.{◌≡◌, refl}
use mathlib.Core.List.{List, [], ◌∷◌}
use Prim.Native.Nat.{ℕ, zero, suc, ◌+◌, ◌*◌, ◌^◌, ◌≤◌, ◌<◌}
use native.Mathlib.Omega.{arith}
use lib.ListN.{length, take, drop, get_or, length-append, length-take}
use lib.Seq.{length-take-le}
use Rattle.std.specs.Borrow.{MutBor}
use Rattle.text.specs.Put.{Starts, HasRoom}
use Rattle.text.specs.Text.{chars, decimal}
use Rattle.text.specs.declared.Writer.{Writer}
use Rattle.text.proofs.Decimal.{decimal_most, decimal-word}
use Rattle.text.proofs.Put.{starts_room}
use Rattle.show.specs.Show.{node_line, node_lines, spaced, indices_line, record_text, numbered_line}
use Rattle.show.proofs.Lines.{length_node, length_indices}

-- a line has at most five digits of an index, and 160 of 80 bytes
node_most : (i : ℕ) (bytes : List ℕ) → i < 10 ^ 5 → length (node_line i (take 80 bytes)) ≤ 167
node_most i bytes h = omega (arith, length_node i (take 80 bytes), decimal_most 4 i h, length-take 80 bytes)

pub lines_most : (bytes : List ℕ) (k i : ℕ) → i + k ≤ 10 ^ 5 → length (node_lines bytes i k) ≤ 167 * k
unfolding node_lines
lines_most bytes zero i h = omega arith
lines_most bytes (suc k) i h =
    let line = node_most i (drop (80 * i) bytes) (omega arith) in
    let rest = lines_most bytes k (suc i) (omega arith) in
    rw length-append (omega arith)

pub spaced_most : (l : List ℕ) → ((k : ℕ) → get_or l k 0 < 2 ^ 32) → length (spaced l) ≤ 11 * length l
unfolding spaced chars
spaced_most [] h = omega arith
spaced_most (x ∷ l) h =
    let first = decimal-word x (h 0) in
    let rest = spaced_most l (λ k. h (suc k)) in
    omega (arith, length-append (decimal x) (spaced l))

pub record_most : (bytes : List ℕ) (m : ℕ) (l : List ℕ) → m ≤ 65535 → ((k : ℕ) → get_or l k 0 < 2 ^ 32)
    → length (record_text bytes m l) ≤ 167 * m + 11 * length l + 8
unfolding record_text
record_most bytes m l h w =
    let lines = lines_most bytes m 0 (omega arith) in
    let list = spaced_most l w in
    omega (arith, length-append (node_lines bytes 0 m) (indices_line l), length_indices l)

pub length_numbered : (word : List ℕ) (k : ℕ) → length (numbered_line word k) ≡ length word + (length (decimal k) + 1)
unfolding numbered_line chars
length_numbered word k = rw (length-append, length-append) refl

-- a part of words is words
pub take_words : (n : ℕ) (l : List ℕ) → ((k : ℕ) → get_or l k 0 < 2 ^ 32) → (k : ℕ) → get_or (take n l) k 0 < 2 ^ 32
take_words zero l h k = omega arith
take_words (suc n) [] h k = h k
take_words (suc n) (x ∷ l) h zero = h 0
take_words (suc n) (x ∷ l) h (suc k) = take_words n l (λ j. h (suc j)) k

-- a record's text and a line have room in a buffer as long as they are at most
module _ {out : MutBor (List ℕ)} {w : Writer} (starts : Starts out w) where
  pub record_room : (bytes : List ℕ) (m n : ℕ) (l : List ℕ) → m ≤ 65535 → n ≤ length l → ((k : ℕ) → get_or l k 0 < 2 ^ 32)
      → 167 * m + 11 * n + 8 ≤ length out.now → HasRoom w (record_text bytes m (take n l))
  record_room bytes m n l h taken words room =
      let most = record_most bytes m (take n l) h (take_words n l words) in
      starts_room _ starts (omega (arith, room, most, length-take-le n l taken))

  pub numbered_room : (word : List ℕ) (k : ℕ) → k < 2 ^ 32 → length word + 11 ≤ length out.now → HasRoom w (numbered_line word k)
  numbered_room word k h room = starts_room _ starts (omega (arith, room, length_numbered word k, decimal-word k h))
