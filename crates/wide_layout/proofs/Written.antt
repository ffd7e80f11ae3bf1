-- The index list after all nodes of a layout are written.
use mathlib.Core.List.{List, ◌++◌, map, map-append}
use mathlib.Core.Path.{◌≡◌, refl, sym, ap, ◌∙◌}
use Prim.Native.Nat.{ℕ, ◌+◌, ◌≤◌}
use native.Mathlib.Nat.{zero-add}
use native.Mathlib.Omega.{arith}
use lib.ListN.{length, drop, length-map, length-append}
use Rattle.lists.specs.Splice.{splice}
use Rattle.lists.proofs.Splice.{length-splice, written_next, splice_none}
use Rattle.wide_layout.specs.Wide.{Slots, end, empty, leaf, inner, Wide}
use Rattle.wide_layout.specs.Sizes.{inner_children, nodes_below, own_positions, own_count, positions_below, count_below}
use Rattle.wide_layout.specs.Layout.{entries, layout, index_list, index_count}
use Rattle.wide_layout.specs.Conversion.{write_all, write_positions}
use Rattle.wide_layout.proofs.Sizes.{own_length, below_length, index_length}
use Rattle.wide_layout.proofs.Conversion.{write_append}

module _ {A : Type 0} (f : ℕ → A) where
  mapped_length : (xs : List ℕ) (n : ℕ) → length xs ≡ n → length (map f xs) ≡ n
  mapped_length xs n e = length-map xs f ∙ e

  -- positions written behind others
  behind : (a b : List A) (q m n : ℕ) (xs ys : List ℕ) → length xs ≡ m → length ys ≡ n → q + (m + n) ≤ length a → b
      ≡ splice (splice a q (map f xs)) (q + m) (map f ys) → b ≡ splice a q (map f (xs ++ ys))
  behind a b q m n xs ys e g h k =
      written_next a q m n (map f xs) (map f ys) (splice a q (map f xs)) b (mapped_length xs m e) (mapped_length ys n g) h refl k
      ∙ ap (λ (l : List A). splice a q l) (sym (map-append f xs ys))

  room : (a : List A) (q n : ℕ) (xs : List ℕ) → length xs ≡ n → q + n ≤ length a → length (splice a q (map f xs)) ≡ length a
  room a q n xs e h = length-splice a q (map f xs) (let g = mapped_length xs n e in omega arith)

  positions_below_lem : {w : ℕ} (s : Slots w) (l p k i c q : ℕ) (a : List A) → q + count_below s ≤ length a
      → write_all (write_positions f) a (entries s l p k i c q) ≡ splice a q (map f (positions_below s))
  positions_below_lem end l p k i c q a h = sym (splice_none a q)
  positions_below_lem (empty s) l p k i c q a h = positions_below_lem s l p (k + 1) i c q a h
  positions_below_lem (leaf b ps s) l p k i c q a h = positions_below_lem s l p (k + 1) i c q a h
  positions_below_lem (inner b t s) l p k i c q a h =
      let own = own_positions t in
      let below = positions_below t in
      let m = own_length t in
      let n = below_length t in
      let first = entries t (l + 1) i 0 c (c + inner_children t) (q + own_count t) in
      let last = entries s l p (k + 1) (i + 1) (c + (inner_children t + nodes_below t)) (q + (own_count t + count_below t)) in
      let z = splice a q (map f own) in
      let y = write_all (write_positions f) z first in
      let e : y ≡ splice a q (map f (own ++ below)) = behind a y q (own_count t) (count_below t) own below m n (omega arith)
      (positions_below_lem t (l + 1) i 0 c (c + inner_children t) (q + own_count t) z (omega (arith, room a q (own_count t) own m (omega arith)))) in
      let u : length (own ++ below) ≡ own_count t + count_below t = omega (arith, length-append own below) in
      let v : length y ≡ length a = ap length e ∙ room a q (own_count t + count_below t) (own ++ below) u (omega arith) in
      write_append (write_positions f) z first last
      ∙ behind a (write_all (write_positions f) y last) q (own_count t + count_below t) (count_below s) (own ++ below) (positions_below s) u
      (below_length s) (omega arith)
      (positions_below_lem s l p (k + 1) (i + 1) (c + (inner_children t + nodes_below t)) (q + (own_count t + count_below t)) y (omega arith)
      ∙ ap (λ (x : List A). splice x (q + (own_count t + count_below t)) (map f (positions_below s))) e)

  -- room for all: the index list, then what followed
  pub positions-all : (t : Wide) (a : List A) → index_count t ≤ length a → write_all (write_positions f) a (layout t)
      ≡ map f (index_list t) ++ drop (index_count t) a
  unfolding splice
  positions-all t a h =
      let s = t.slots in
      let z = splice a 0 (map f (own_positions s)) in
      behind a (write_all (write_positions f) a (layout t)) 0 (own_count s) (count_below s) (own_positions s) (positions_below s) (own_length s)
      (below_length s) (omega arith)
      (positions_below_lem s 1 0 0 1 (1 + inner_children s) (0 + own_count s) z
      (omega (arith, room a 0 (own_count s) (own_positions s) (own_length s) (omega arith))))
      ∙ ap (λ (n : ℕ). map f (index_list t) ++ drop n a)
      (zero-add (length (map f (index_list t))) ∙ mapped_length (index_list t) (index_count t) (index_length t))
