-- Words written one behind the other.
use mathlib.Core.List.{List, [], ◌∷◌, ◌++◌, append_assoc}
use mathlib.Core.Path.{◌≡◌, refl, sym, ap, ap₂, ◌∙◌}
use Prim.Native.Nat.{ℕ, ◌+◌, ◌*◌, ◌≤◌, ◌<◌}
use native.Mathlib.Omega.{arith}
use borrow.Rule.Slice.PartMut.{put_mid}
use lib.ListN.{length, set, get_or, take, drop, length-take, length-drop, take-append-drop}
use lib.Seq.{ext_get_or, get_or-take, get_or-drop}
use Rattle.std.proofs.lemmas.Slice.{take-put_mid, drop-put_mid}
use Rattle.lists.specs.Splice.{splice}
use Rattle.lists.specs.Values.{values}
use Rattle.lists.proofs.Splice.{length-splice, set-splice, written_next}
use Rattle.lists.proofs.Values.{values_length, values_at, values_next}
use Rattle.aabb.specs.declared.Aabb.{Aabb}
use Rattle.bvh2.specs.Words.{word_at, corner_words, boxed_words}

-- one more word behind those written
pub write_next : {A : Type 0} (s : List A) (at k : ℕ) (a t : List A) (x : A) → length a ≡ k → at + (k + 1) ≤ length s → t ≡ splice s at a
    → set t (at + k) x ≡ splice s at (a ++ (x ∷ []))
write_next s at k a t x p h e =
    let l : length t ≡ length s = ap length e ∙ length-splice s at a (omega arith) in
    written_next s at k 1 a (x ∷ []) t (set t (at + k) x) p refl h e (set-splice t (at + k) x (omega arith))

-- a function's next value
pub value_next : {A : Type 0} (s : List A) (at k : ℕ) (f : ℕ → A) (t : List A) → at + (k + 1) ≤ length s → t ≡ splice s at (values f k)
    → set t (at + k) (f k) ≡ splice s at (values f (k + 1))
value_next s at k f t h e = rw (values_next f k) (write_next s at k (values f k) t (f k) (values_length f k) h e)

-- a part of a list, as the values that stand there
part_values : (s : List ℕ) (at k : ℕ) → at + k ≤ length s → take k (drop at s) ≡ values (λ i. get_or s (at + i) 0) k
part_values s at k h =
    let f : ℕ → ℕ = λ i. get_or s (at + i) 0 in
    let e : length (take k (drop at s)) ≡ k = omega (arith, length-take k (drop at s), length-drop at s) in
    ext_get_or 0 (take k (drop at s)) (values f k) (e ∙ sym (values_length f k))
    (λ i l. let m : i < k = omega (arith, l, e) in get_or-take k (drop at s) i 0 m ∙ get_or-drop at s i 0 ∙ sym (values_at f k i 0 m))

-- as many elements copied to their place
mid_spliced : {A : Type 0} (s : List A) (at k : ℕ) (b : List A) → at ≤ length s → length b ≡ k → put_mid at k s b ≡ splice s at b
unfolding splice
mid_spliced s at k b h e =
    sym (take-append-drop (at + k) (put_mid at k s b))
    ∙ ap₂ (λ (x y : List _). x ++ y) (take-put_mid at k s b (at + k) (omega (arith, e)) h) (drop-put_mid at k s b (at + k) (omega arith) h e)
    ∙ append_assoc (take at s) b (drop (at + k) s)
    ∙ ap (λ (j : ℕ). take at s ++ (b ++ drop (at + j) s)) (sym e)

-- the box words of another node, and the link
pub node_copied : (from s : List ℕ) (u v link n m : ℕ) (t : List ℕ) → u * 7 + 7 ≤ length from → v * 7 + 7 ≤ length s → n ≡ 6 → m ≡ 6
    → t ≡ take n (drop (u * 7) from)
    → set (put_mid (v * 7) m s t) (v * 7 + 6) link ≡ splice s (v * 7) (values (word_at from u) 6 ++ (link ∷ []))
node_copied from s u v link n m t h g d e f =
    let box = values (word_at from u) 6 in
    let own : t ≡ box = f ∙ ap (λ (k : ℕ). take k (drop (u * 7) from)) d ∙ part_values from (u * 7) 6 (omega arith) in
    let long : length t ≡ m = ap length own ∙ values_length (word_at from u) 6 ∙ sym e in
    write_next s (v * 7) 6 box (put_mid (v * 7) m s t) link (values_length (word_at from u) 6) (omega arith)
    (mid_spliced s (v * 7) m t (omega arith) long ∙ ap (splice s (v * 7)) own)

-- three words
pub three_written : {A : Type 0} (s : List A) (at : ℕ) (x y z : A) → at + 3 ≤ length s
    → set (set (set s at x) (at + 1) y) (at + 2) z ≡ splice s at (x ∷ y ∷ z ∷ [])
three_written s at x y z h =
    let a : set s at x ≡ splice s at (x ∷ []) = set-splice s at x (omega arith) in
    let b = write_next s at 1 (x ∷ []) (set s at x) y refl (omega arith) a in
    write_next s at 2 (x ∷ y ∷ []) (set (set s at x) (at + 1) y) z refl (omega arith) b

-- the words of a node: its corners, then its link
pub node_written : (s : List ℕ) (at : ℕ) (b : Aabb) (link : ℕ) (t u : List ℕ) → at + 7 ≤ length s → t ≡ splice s at (corner_words b.min [])
    → u ≡ splice t (at + 3) (corner_words b.max []) → set u (at + 6) link ≡ splice s at (boxed_words b link)
node_written s at b link t u h e f =
    write_next s at 6 _ u link refl (omega arith)
    (written_next s at 3 3 (corner_words b.min []) (corner_words b.max []) t u refl refl (omega arith) e f)
