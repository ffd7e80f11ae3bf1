-- The leaf range of a slot holds, in the index list, the positions of the leaf child there.
use mathlib.Core.List.{List, [], ◌++◌, append_assoc, append-nil}
use mathlib.Core.Path.{◌≡◌, refl, sym, ap, ◌∙◌}
use Prim.Native.Nat.{ℕ, zero, suc, ◌+◌}
use native.Mathlib.Omega.{arith}
use lib.ListN.{length, take, drop, length-append}
use lib.Seq.{take_at, drop_at}
use Rattle.wide_layout.specs.Wide.{Slots, end, empty, leaf, inner, Wide}
use Rattle.wide_layout.specs.Sizes.{inner_children, nodes_below, own_positions, own_count, own_before, own_at, positions_at, positions_below}
use Rattle.wide_layout.specs.Sizes.{count_below}
use Rattle.wide_layout.specs.Layout.{Entry, entry, entries, layout, EachEntry, index_list}
use Rattle.wide_layout.specs.Ranges.{Holding}
use Rattle.wide_layout.proofs.Sizes.{own_length, below_length}
use Rattle.wide_layout.proofs.Each.{each_append}

pub at_length : {w : ℕ} (s : Slots w) (k : ℕ) → length (positions_at s k) ≡ own_at s k
at_length end k = refl
at_length (empty s) zero = refl
at_length (empty s) (suc k) = at_length s k
at_length (leaf b ps s) zero = refl
at_length (leaf b ps s) (suc k) = at_length s k
at_length (inner b t s) zero = refl
at_length (inner b t s) (suc k) = at_length s k

-- a node's own positions: those before slot k, those of slot k, and the rest
record Split {w : ℕ} (s : Slots w) (k : ℕ) : Type 0 where
  front : List ℕ
  back : List ℕ
  size : length front ≡ own_before s k
  whole : own_positions s ≡ front ++ (positions_at s k ++ back)

split : {w : ℕ} (s : Slots w) (k : ℕ) → Split s k
split end k = record { front = []; back = []; size = refl; whole = refl }
split (empty s) zero = record { front = []; back = own_positions s; size = refl; whole = refl }
split (empty s) (suc k) = let r = split s k in record { front = r.front; back = r.back; size = r.size; whole = r.whole }
split (leaf b ps s) zero = record { front = []; back = own_positions s; size = refl; whole = refl }
split (leaf b ps s) (suc k) =
    let r = split s k in
    record {
      front = ps ++ r.front;
      back = r.back;
      size = omega (arith, length-append ps r.front, r.size);
      whole = ap (λ (l : List ℕ). ps ++ l) r.whole ∙ sym (append_assoc ps r.front (positions_at s k ++ r.back));
    }
split (inner b t s) zero = record { front = []; back = own_positions s; size = refl; whole = refl }
split (inner b t s) (suc k) = let r = split s k in record { front = r.front; back = r.back; size = r.size; whole = r.whole }

holding_here : (e : Entry) (a z xs : List ℕ) → length a ≡ e.position_base → xs ≡ a ++ (own_positions e.slots ++ z) → Holding xs e
holding_here e a z xs h g k =
    let s = e.slots in
    let r = split s k in
    let f : xs ≡ (a ++ r.front) ++ (positions_at s k ++ (r.back ++ z)) = g ∙ ap (λ (l : List ℕ). a ++ (l ++ z)) r.whole ∙ simp append_assoc in
    let n : length (a ++ r.front) ≡ e.position_base + own_before s k = omega (arith, length-append a r.front, r.size) in
    ap (λ (l : List ℕ). take (own_at s k) (drop (e.position_base + own_before s k) l)) f
    ∙ ap (λ (l : List ℕ). take (own_at s k) l) (drop_at (a ++ r.front) (positions_at s k ++ (r.back ++ z)) (e.position_base + own_before s k) n)
    ∙ take_at (positions_at s k) (r.back ++ z) (own_at s k) (at_length s k)

holding_below : {w : ℕ} (s : Slots w) (l p k i c q : ℕ) (a z xs : List ℕ) → length a ≡ q → xs ≡ a ++ (positions_below s ++ z)
    → EachEntry (Holding xs) (entries s l p k i c q)
holding_below end l p k i c q a z xs h g = tt
holding_below (empty s) l p k i c q a z xs h g = holding_below s l p (k + 1) i c q a z xs h g
holding_below (leaf b ps s) l p k i c q a z xs h g = holding_below s l p (k + 1) i c q a z xs h g
holding_below (inner b t s) l p k i c q a z xs h g =
    let A = own_positions t in
    let B = positions_below t in
    let C = positions_below s in
    let m = own_length t in
    let n = below_length t in (
      holding_here (entry b t l p k i c q) a (B ++ (C ++ z)) xs h (g ∙ simp append_assoc),
      each_append (Holding xs) (entries t (l + 1) i 0 c (c + inner_children t) (q + own_count t))
          (entries s l p (k + 1) (i + 1) (c + (inner_children t + nodes_below t)) (q + (own_count t + count_below t)))
          (holding_below t (l + 1) i 0 c (c + inner_children t) (q + own_count t) (a ++ A) (C ++ z) xs (omega (arith, length-append a A))
          (g ∙ simp append_assoc))
          (holding_below s l p (k + 1) (i + 1) (c + (inner_children t + nodes_below t)) (q + (own_count t + count_below t)) (a ++ (A ++ B)) z xs
          (omega (arith, length-append a (A ++ B), length-append A B)) (g ∙ simp append_assoc)),
    )

pub holding : (t : Wide) → EachEntry (Holding (index_list t)) (layout t)
holding t =
    let A = own_positions t.slots in
    let B = positions_below t.slots in (
      holding_here (entry t.box t.slots 0 0 0 0 1 0) [] B (index_list t) refl refl,
      holding_below t.slots 1 0 0 1 (1 + inner_children t.slots) (0 + own_count t.slots) A [] (index_list t)
          (omega (arith, own_length t.slots)) (ap (λ (l : List ℕ). A ++ l) (sym (append-nil B))),
    )
