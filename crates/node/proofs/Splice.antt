-- Stores of bytes as parts of a list replaced.
use mathlib.Core.Path.{◌≡◌, ap, ◌∙◌}
use mathlib.Core.List.{List, [], ◌∷◌, ◌++◌, append_assoc}
use Prim.Native.Nat.{ℕ, suc, ◌+◌, ◌/◌, ◌%◌, ◌≤◌}
use native.Mathlib.Nat.{add-zero}
use native.Mathlib.Omega.{arith}
use lib.ListN.{length, take, drop, set}
use lib.Seq.{sets-eq, drop-drop}
use borrow.Rule.Slice.PartMut.{put_mid}
use Rattle.words.specs.Fields.{field}
use Rattle.words.specs.Le.{store_le}
use Rattle.lists.specs.Splice.{splice}
use Rattle.node.specs.Bytes.{bytes}

-- bytes as code stores them
pub four : (s : List ℕ) (at a b c d : ℕ) → at + 4 ≤ length s → set (set (set (set s at a) (at + 1) b) (at + 2) c) (at + 3) d
    ≡ splice s at (a ∷ b ∷ c ∷ d ∷ [])
unfolding splice
four s at a b c d h =
    let e₁ : at + 1 ≡ suc at = omega arith in
    let e₂ : at + 2 ≡ suc (suc at) = omega arith in
    let e₃ : at + 3 ≡ suc (suc (suc at)) = omega arith in
    rw (e₁, e₂, e₃) (sets-eq (a ∷ b ∷ c ∷ d ∷ []) s at h ∙ append_assoc (take at s) (a ∷ b ∷ c ∷ d ∷ []) (drop (at + 4) s))

pub store-splice : (s : List ℕ) (at v : ℕ) → at + 4 ≤ length s → store_le 4 s at v ≡ splice s at (bytes 4 v)
unfolding store_le field
store-splice s at v h = rw add-zero (four s at (v % 256) (v / 256 % 256) (v / 256 / 256 % 256) (v / 256 / 256 / 256 % 256) h)

-- a part copied over
pub put-splice : (s b : List ℕ) (at k : ℕ) → length b ≡ k → put_mid at k s b ≡ splice s at b
unfolding splice
put-splice s b at k e = rw e (ap (λ (l : List ℕ). take at s ++ (b ++ l)) (drop-drop k at s))
