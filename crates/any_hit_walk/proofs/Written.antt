-- Positions written as they are met, in front of what was there, as long as there is room.
use mathlib.Core.List.{List, [], ◌∷◌, ◌++◌}
use mathlib.Core.Path.{◌≡◌, refl, sym, ap, ◌∙◌}
use Prim.Native.Nat.{ℕ, ◌+◌, ◌-◌, ◌≤◌, ◌<◌}
use native.Mathlib.Nat.{zero-add}
use native.Mathlib.Decide.{dec_lt}
use native.Mathlib.Omega.{arith}
use lib.ListN.{length, take, drop, set, length-append, length-take}
use lib.Seq.{take_all, take-append-le, take-append_seam, drop-append-add, drop-drop, set_out}
use Rattle.lists.specs.Splice.{splice}
use Rattle.lists.proofs.Splice.{set-splice, written_next, length-splice}
use Rattle.any_hit_walk.specs.Gather.{met_in}

module _ (before noted found : List ℕ) (e : found ≡ met_in before noted) where
  -- no more is written than there is room for
  pub met_length : length found ≡ length before
  met_length = ap length e ∙ length-splice before 0 (take (length before) noted) (omega (arith, length-take (length before) noted))

  -- the next one is written behind the others, if there is room
  pub met_next : (count p : ℕ) → count ≡ length noted → set found count p ≡ met_in before (noted ++ (p ∷ []))
  met_next count p c = go (dec_lt count (length found))
    where
      go : Dec (count < length found) → set found count p ≡ met_in before (noted ++ (p ∷ []))
      go (yes h) =
          let l = met_length in
          let f : found ≡ splice before 0 noted = e ∙ ap (splice before 0) (take_all (length before) noted (omega arith)) in
          let a : length (noted ++ (p ∷ [])) ≤ length before = omega (arith, length-append noted (p ∷ [])) in
          written_next before 0 count 1 noted (p ∷ []) found (set found count p) (sym c) refl (omega arith) f
          (rw (zero-add count) (set-splice found count p h))
          ∙ ap (splice before 0) (sym (take_all (length before) (noted ++ (p ∷ [])) a))
      go (no h) =
          let l = met_length in
          set_out found count p (omega arith) ∙ e ∙ ap (splice before 0) (sym (take-append-le (length before) noted (p ∷ []) (omega arith)))

  -- they lie in front, where all have room
  pub met_front : (count : ℕ) → count ≡ length noted → count ≤ length found → take count found ≡ noted
  unfolding splice
  met_front count c h =
      let l = met_length in
      let f : found ≡ splice before 0 noted = e ∙ ap (splice before 0) (take_all (length before) noted (omega arith)) in
      rw (f, c) (take-append_seam noted (drop (0 + length noted) before))

-- ---- written over

-- as many or more, written over some
splice_over : (s a b : List ℕ) → length a ≤ length b → splice (splice s 0 a) 0 b ≡ splice s 0 b
unfolding splice
splice_over s a b h =
    let k : length b ≡ length a + (length b - length a) = omega arith in
    let d : drop (length b) (a ++ drop (length a) s) ≡ drop (length b) s =
    ap (λ (x : ℕ). drop x (a ++ drop (length a) s)) k ∙ drop-append-add a (drop (length a) s) (length b - length a)
    ∙ drop-drop (length b - length a) (length a) s
    ∙ ap (λ (x : ℕ). drop x s) (sym k) in
    let z : 0 + length a ≡ length a = zero-add (length a) in
    let y : 0 + length b ≡ length b = zero-add (length b) in
    rw (z, y) (ap (λ (x : List ℕ). b ++ x) d)

pub met_over : (before x y : List ℕ) → length x ≤ length y → met_in (met_in before x) y ≡ met_in before y
met_over before x y h =
    let l = met_length before x (met_in before x) refl in
    ap (λ (k : ℕ). splice (met_in before x) 0 (take k y)) l
    ∙ splice_over before (take (length before) x) (take (length before) y)
    (omega (arith, h, length-take (length before) x, length-take (length before) y))

-- what is written there already may be written again
pub met_kept : (before noted found : List ℕ) → found ≡ met_in before noted → found ≡ met_in found noted
met_kept before noted found e = e ∙ sym (met_over before noted noted (omega arith)) ∙ ap (λ (x : List ℕ). met_in x noted) (sym e)
