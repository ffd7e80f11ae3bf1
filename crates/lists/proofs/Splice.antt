-- The laws of `splice`: its length, what stands in it and beside it, and parts written one behind the other.
use mathlib.Core.Path.{◌≡◌, sym, ap, ap₂, ◌∙◌}
use mathlib.Core.List.{List, [], ◌∷◌, ◌++◌, append_assoc}
use Prim.Native.Nat.{ℕ, ◌+◌, ◌-◌, ◌≤◌, ◌<◌}
use native.Mathlib.Nat.{add_assoc, add-zero, zero-add}
use native.Mathlib.Numerals.{add-one}
use native.Mathlib.Omega.{arith}
use lib.ListN.{length, take, drop, set, get_or, length-append, length-drop, take-append-drop, get_or-append}
use lib.Seq.{length-take-le, take_at, drop_at, drop-append-add, drop-drop, get_or-append-add, get_or-take, get_or-drop, set_split}
use Rattle.lists.specs.Splice.{splice}

module _ {A : Type 0} (s : List A) (at : ℕ) (b : List A) (fits : at + length b ≤ length s) where
  front : length (take at s) ≡ at
  front = length-take-le at s (omega arith)

  pub length-splice : length (splice s at b) ≡ length s
  unfolding splice
  length-splice = rw (length-append, length-append, front, length-drop) (omega arith)

  pub splice_in : (i : ℕ) (z : A) → i < length b → get_or (splice s at b) (at + i) z ≡ get_or b i z
  unfolding splice
  splice_in i z h =
      ap (λ (k : ℕ). get_or (take at s ++ (b ++ drop (at + length b) s)) (k + i) z) (sym front)
      ∙ get_or-append-add (take at s) (b ++ drop (at + length b) s) i z ∙ get_or-append b (drop (at + length b) s) z i h

  pub splice_before : (i : ℕ) (z : A) → i < at → get_or (splice s at b) i z ≡ get_or s i z
  unfolding splice
  splice_before i z h =
      get_or-append (take at s) (b ++ drop (at + length b) s) z i (omega (arith, front)) ∙ get_or-take at s i z h

  pub splice_after : (i : ℕ) (z : A) → at + length b ≤ i → get_or (splice s at b) i z ≡ get_or s i z
  unfolding splice
  splice_after i z h =
      let j = i - (at + length b) in
      let e : length (take at s) + (length b + j) ≡ i = omega (arith, front) in
      let f : at + length b + j ≡ i = omega arith in
      ap (λ (k : ℕ). get_or (take at s ++ (b ++ drop (at + length b) s)) k z) (sym e)
      ∙ get_or-append-add (take at s) (b ++ drop (at + length b) s) (length b + j) z
      ∙ get_or-append-add b (drop (at + length b) s) j z ∙ get_or-drop (at + length b) s j z ∙ ap (λ (k : ℕ). get_or s k z) f

-- one behind the other is both at once
pub splice_next : {A : Type 0} (s : List A) (at : ℕ) (a b : List A) → at + (length a + length b) ≤ length s
    → splice (splice s at a) (at + length a) b ≡ splice s at (a ++ b)
unfolding splice
splice_next s at a b h =
    let p : length (take at s ++ a) ≡ at + length a = length-append (take at s) a ∙ ap (λ (k : ℕ). k + length a)
    (length-take-le at s (omega arith)) in
    let r : take at s ++ (a ++ drop (at + length a) s)
    ≡ (take at s ++ a) ++ drop (at + length a) s = sym (append_assoc (take at s) a (drop (at + length a) s)) in
    let t : take (at + length a) (take at s ++ (a ++ drop (at + length a) s))
    ≡ take at s ++ a = ap (take (at + length a)) r ∙ take_at (take at s ++ a) (drop (at + length a) s) (at + length a) p in
    let d : drop (at + length a + length b) (take at s ++ (a ++ drop (at + length a) s)) ≡ drop (at + length (a ++ b)) s =
    ap₂ (λ (k : ℕ) (l : List _). drop (k + length b) l) (sym p) r
    ∙ drop-append-add (take at s ++ a) (drop (at + length a) s) (length b)
    ∙ drop-drop (length b) (at + length a) s
    ∙ ap (λ (k : ℕ). drop k s) (add_assoc at (length a) (length b) ∙ ap (λ (k : ℕ). at + k) (sym (length-append a b))) in
    rw (t, d) (append_assoc (take at s) a (b ++ drop (at + length (a ++ b)) s) ∙ ap (λ (l : List _). take at s ++ l)
    (sym (append_assoc a b (drop (at + length (a ++ b)) s))))

-- the same from the lists that two writes left
pub written_next : {A : Type 0} (s : List A) (at n k : ℕ) (a b t u : List A) → length a ≡ n → length b ≡ k → at + (n + k) ≤ length s
    → t ≡ splice s at a → u ≡ splice t (at + n) b → u ≡ splice s at (a ++ b)
written_next s at n k a b t u p q h e f =
    f ∙ ap₂ (λ (l : List _) (j : ℕ). splice l (at + j) b) e (sym p) ∙ splice_next s at a b (rw (p, q) h)

-- nothing written
pub splice_none : {A : Type 0} (s : List A) (at : ℕ) → splice s at [] ≡ s
unfolding splice
splice_none s at = ap (λ (k : ℕ). take at s ++ drop k s) (add-zero at) ∙ take-append-drop at s

-- one element
pub set-splice : {A : Type 0} (s : List A) (at : ℕ) (v : A) → at < length s → set s at v ≡ splice s at (v ∷ [])
unfolding splice
set-splice s at v h = set_split s at v h ∙ ap (λ (k : ℕ). take at s ++ (v ∷ drop k s)) (sym (add-one at))

-- what was written at the start leaves the rest
pub splice_rest : {A : Type 0} (s b : List A) (n : ℕ) → length b ≡ n → drop n (splice s 0 b) ≡ drop n s
unfolding splice
splice_rest s b n e = drop_at b (drop (0 + length b) s) n e ∙ ap (λ (k : ℕ). drop k s) (zero-add (length b) ∙ e)

-- what was written at the start is read back
pub splice_taken : {A : Type 0} (s b : List A) (n : ℕ) → length b ≡ n → take n (splice s 0 b) ≡ b
unfolding splice
splice_taken s b n e = take_at b (drop (0 + length b) s) n e
