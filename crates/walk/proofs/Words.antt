-- The list that a word of bits stands for: its highest bit is the list's first, and clearing it leaves the rest. Positions that are passed over are
-- not in it.
use mathlib.Core.Bool.{Bool, true, false, not, ◌&&◌, cond}
use mathlib.Core.List.{List, [], ◌∷◌}
use mathlib.Core.Path.{◌≡◌, refl, sym, ap, ◌∙◌}
use Prim.Native.Nat.{ℕ, zero, suc, ◌+◌, ◌-◌, ◌/◌, ◌%◌, ◌^◌, ◌≤◌, ◌<◌}
use native.Mathlib.Nat.{mod-lt, mod-le, mul-one}
use native.Mathlib.Omega.{arith}
use native.Mathlib.Decide.{dec_lt}
use lib.Bits.{bit_xor, xor_lt}
use lib.Dec.{eqb, ltb}
use lib.Pow.{pow_pos, pow_mono}
use borrow.Author.Tests.{eq-eqb, ne_eqb, lt-ltb, le-ltb, ltb-true}
use Rattle.lists.proofs.Counts.{Same, equal, apart, same?}
use Rattle.words.specs.Fields.{field}
use Rattle.words.specs.Ones.{ones_below}
use Rattle.words.specs.Top.{Top}
use Rattle.words.proofs.HighestBit.{top_is}
use Rattle.words.proofs.Ors.{bit_past, field_cut}
use Rattle.words.proofs.Ranks.{rank_step, top_set}
use Rattle.node.specs.Node.{child_index}
use Rattle.walk.specs.Slots.{falling}
use Rattle.walk.specs.Words.{Group, packed, unpacked, is_set, positions_in, children_in, highest, rest_of, first_position, past_skipped, first_child}
use Rattle.lists.proofs.Tells.{both_pass}
use Rattle.walk.proofs.Cases.{cond_elim, and-false}
use Rattle.walk.proofs.Falling.{falling-same, falling_none, falling_cut, falling_top}

-- ---- bits

pub set_is : (j n : ℕ) → field 1 j n ≡ 1 → is_set j n ≡ true
set_is j n e = eq-eqb (field 1 j n) 1 e

pub clear_is : (j n : ℕ) → field 1 j n ≡ 0 → is_set j n ≡ false
clear_is j n e = ne_eqb (field 1 j n) 1 (λ z. omega arith)

-- past all digits none is set
pub past_clear : (w j n : ℕ) → n < 2 ^ w → w ≤ j → is_set j n ≡ false
past_clear w j n h l = clear_is j n (bit_past w j n h l)

-- a cut keeps the bits below it
cut_bit : (t j n : ℕ) → j < t → field 1 j (n % 2 ^ t) ≡ field 1 j n
cut_bit t j n h = ap (λ (x : ℕ). field 1 j (n % 2 ^ x)) (sym (mul-one t)) ∙ field_cut 1 t j n h

pub cut_set : (t j n : ℕ) → j < t → is_set j (n % 2 ^ t) ≡ is_set j n
cut_set t j n h = ap (λ (x : ℕ). eqb x 1) (cut_bit t j n h)

pub cut_rank : (t j n : ℕ) → j ≤ t → ones_below j (n % 2 ^ t) ≡ ones_below j n
unfolding ones_below
cut_rank t zero n h = refl
cut_rank t (suc j) n h = omega (arith, rank_step j (n % 2 ^ t), rank_step j n, cut_bit t j n (omega arith), cut_rank t j n (omega arith))

-- ---- the highest bit

pub highest_is : (n : ℕ) → 0 < n → n < 2 ^ 32 → Top 32 n (highest n)
highest_is n h l = top_is 31 n h l

top_above : (n t w : ℕ) → Top 32 n t → 2 ^ w ≤ n → w ≤ t
top_above n t w h l = go (dec_lt t w)
  where
    go : Dec (t < w) → w ≤ t
    go (yes k) = absurd (omega (arith, h.upper, pow_mono {i = t + 1} {j = w} (omega arith)))
    go (no k) = omega arith

-- ---- positions

module _ (skips : ℕ → Bool) where
  -- bit b of a group is a position that is not passed over
  abbrev is_held : Group → ℕ → Bool
  is_held g b = not (skips (g.base + b)) && is_set b g.bits

  unset_held : (g : Group) (b : ℕ) → is_set b g.bits ≡ false → is_held g b ≡ false
  unset_held g b e = rw e (and-false (not (skips (g.base + b))))

  pub positions_none : (g : Group) → g.bits ≡ 0 → positions_in skips g ≡ []
  positions_none g e = falling_none (λ b. g.base + b) (is_held g) 32 (λ i l. unset_held g i (past_clear 0 i g.bits (omega arith) (omega arith)))

  module _ (g : Group) (some : 0 < g.bits) (word : g.bits < 2 ^ 32) where
    abbrev top : ℕ
    top = highest g.bits

    top_here : Top 32 g.bits top
    top_here = highest_is g.bits some word

    none_above : (i : ℕ) → top < i → is_held g i ≡ false
    none_above i h = unset_held g i (past_clear (top + 1) i g.bits top_here.upper (omega arith))

    rest_held : positions_in skips (rest_of g) ≡ falling (λ b. g.base + b) (is_held g) top
    rest_held =
        falling_cut (λ b. g.base + b) (is_held (rest_of g)) top 32 (omega (arith, top_here.within))
        (λ i x y. unset_held (rest_of g) i (past_clear top i (rest_of g).bits (mod-lt g.bits (pow_pos top)) x))
        ∙ falling-same (λ b. g.base + b) (λ b. g.base + b) (is_held (rest_of g)) (is_held g) top
        (λ i k. ap (λ (x : Bool). not (skips (g.base + i)) && x) (cut_set top i g.bits k)) (λ i k e. refl)

    -- the highest comes first if it is not passed over,
    pub positions_first : skips (first_position g) ≡ false → positions_in skips g ≡ first_position g ∷ positions_in skips (rest_of g)
    positions_first e =
        falling_top (λ b. g.base + b) (is_held g) 32 top top_here.within held (λ i x y. none_above i x)
        ∙ ap (λ (l : List ℕ). first_position g ∷ l) (sym rest_held)
      where
        held : is_held g top ≡ true
        held = rw (e, set_is top g.bits (top_set 32 g.bits top top_here))

    -- and else those below it are all
    pub positions_past : skips (first_position g) ≡ true → positions_in skips g ≡ positions_in skips (rest_of g)
    positions_past e =
        falling_cut (λ b. g.base + b) (is_held g) top 32 (omega (arith, top_here.within)) (λ i x y. from_top i x (same? i top)) ∙ sym rest_held
      where
        from_top : (i : ℕ) → top ≤ i → Same i top → is_held g i ≡ false
        from_top i h (equal z n) = rw (z, e)
        from_top i h (apart z n) = none_above i (omega arith)

-- what is left of a word is a word
pub rest_lt : (g : Group) → g.bits < 2 ^ 32 → (rest_of g).bits < 2 ^ 32
rest_lt g h = omega (arith, mod-le g.bits (2 ^ highest g.bits))

-- and is below a power of two for each bit less
rest_shorter : (k : ℕ) (g : Group) → suc k ≤ 32 → g.bits < 2 ^ suc k → 0 < g.bits → (rest_of g).bits < 2 ^ k
rest_shorter k g h l p =
    let t = highest_is g.bits p (omega (arith, pow_mono {i = suc k} {j = 32} h)) in
    let i : highest g.bits ≤ k = below (dec_lt k (highest g.bits)) t in
    omega (arith, mod-lt g.bits (pow_pos (highest g.bits)), pow_mono {i = highest g.bits} {j = k} i)
  where
    below : Dec (k < highest g.bits) → Top 32 g.bits (highest g.bits) → highest g.bits ≤ k
    below (yes q) t = absurd (omega (arith, t.low, pow_mono {i = suc k} {j = highest g.bits} q))
    below (no q) t = omega arith

-- ---- positions that are passed over

module _ (skips : ℕ → Bool) where
  -- the first position of a group, if it has one, is not passed over
  abbrev pub AtFront : Group → Type 0
  AtFront g = (skips (first_position g) && ltb 0 g.bits) ≡ false

  pub front_first : (g : Group) → AtFront g → 0 < g.bits → skips (first_position g) ≡ false
  front_first g f h = go (skips (first_position g)) f
    where
      go : (b : Bool) → (b && ltb 0 g.bits) ≡ false → b ≡ false
      go true e = sym (lt-ltb 0 g.bits h) ∙ e
      go false e = refl

  pub empty_front : (g : Group) → g.bits ≤ 0 → AtFront g
  empty_front g h = rw (le-ltb 0 g.bits h) (and-false (skips (first_position g)))

  -- a group of which the first is not passed over stays whole
  pub front_stays : (k : ℕ) (g : Group) → AtFront g → past_skipped skips k g ≡ g
  front_stays zero g f = refl
  front_stays (suc k) g f = rw f

  -- what is left past them stands for the same list,
  pub skipped_same : (k : ℕ) (g : Group) → g.bits < 2 ^ 32 → positions_in skips (past_skipped skips k g) ≡ positions_in skips g
  skipped_same zero g l = refl
  skipped_same (suc k) g l =
      cond_elim (λ (u : Group). positions_in skips u ≡ positions_in skips g) (skips (first_position g) && ltb 0 g.bits)
      (past_skipped skips k (rest_of g)) g
      (λ e. let a = both_pass (skips (first_position g)) (ltb 0 g.bits) e in
      skipped_same k (rest_of g) (rest_lt g l) ∙ sym (positions_past skips g (ltb-true 0 g.bits a.1) l a.0))
      (λ e. refl)

  -- is a word,
  pub skipped_lt : (k : ℕ) (g : Group) → g.bits < 2 ^ 32 → (past_skipped skips k g).bits < 2 ^ 32
  skipped_lt zero g l = l
  skipped_lt (suc k) g l =
      cond_elim (λ (u : Group). u.bits < 2 ^ 32) (skips (first_position g) && ltb 0 g.bits) (past_skipped skips k (rest_of g)) g
      (λ e. skipped_lt k (rest_of g) (rest_lt g l)) (λ e. l)

  -- and begins with one that is not passed over
  pub skipped_front : (k : ℕ) (g : Group) → k ≤ 32 → g.bits < 2 ^ k → AtFront (past_skipped skips k g)
  skipped_front zero g h l = empty_front g (omega arith)
  skipped_front (suc k) g h l =
      cond_elim AtFront (skips (first_position g) && ltb 0 g.bits) (past_skipped skips k (rest_of g)) g
      (λ e. skipped_front k (rest_of g) (omega arith)
      (rest_shorter k g h l (ltb-true 0 g.bits (both_pass (skips (first_position g)) (ltb 0 g.bits) e).1)))
      (λ e. e)

  -- more turns than a group has bits pass over no more
  past_more : (k : ℕ) (g : Group) → k ≤ 32 → g.bits < 2 ^ k → past_skipped skips (suc k) g ≡ past_skipped skips k g
  past_more zero g h l = front_stays 1 g (empty_front g (omega arith))
  past_more (suc k) g h l = go (skips (first_position g) && ltb 0 g.bits) refl (past_more k (rest_of g) (omega arith))
    where
      go : (b : Bool) → (skips (first_position g) && ltb 0 g.bits) ≡ b
          → ((rest_of g).bits < 2 ^ k → past_skipped skips (suc k) (rest_of g) ≡ past_skipped skips k (rest_of g))
          → cond b (past_skipped skips (suc k) (rest_of g)) g ≡ cond b (past_skipped skips k (rest_of g)) g
      go true e more = more (rest_shorter k g h l (ltb-true 0 g.bits (both_pass (skips (first_position g)) (ltb 0 g.bits) e).1))
      go false e more = refl

  -- and once the first is passed over, what follows is the same
  pub rest_past : (g : Group) → skips (first_position g) ≡ true → 0 < g.bits → g.bits < 2 ^ 32
      → past_skipped skips 32 g ≡ past_skipped skips 32 (rest_of g)
  rest_past g e h l =
      let f : (skips (first_position g) && ltb 0 g.bits) ≡ true = rw (e, lt-ltb 0 g.bits h) refl in
      ap (λ (b : Bool). cond b (past_skipped skips 31 (rest_of g)) g) f
      ∙ sym (past_more 31 (rest_of g) (omega arith) (rest_shorter 31 g (omega arith) l h))

-- ---- children

pub children_none : (octant : ℕ) (g : Group) → g.bits < 0x100_0000 → children_in octant g ≡ []
children_none octant g h =
    falling_none (λ k. child_index g.base g.bits (bit_xor k octant)) (λ k. is_set (24 + k) g.bits) 8
    (λ i l. past_clear 24 (24 + i) g.bits h (omega arith))

pub children_first : (octant : ℕ) (g : Group) → octant < 8 → 0x100_0000 ≤ g.bits → g.bits < 2 ^ 32 → children_in octant g
    ≡ first_child octant g ∷ children_in octant (rest_of g)
unfolding child_index
children_first octant g q h l =
    falling_top (number g) (λ k. is_set (24 + k) g.bits) 8 (top - 24) (omega (arith, t.within)) here
    (λ i x y. past_clear (top + 1) (24 + i) g.bits t.upper (omega arith))
    ∙ ap (λ (l : List ℕ). first_child octant g ∷ l) (lower ∙ sym upper)
  where
    top : ℕ
    top = highest g.bits

    number : Group → ℕ → ℕ
    number u k = child_index u.base u.bits (bit_xor k octant)

    t : Top 32 g.bits top
    t = highest_is g.bits (omega arith) l

    high : 24 ≤ top
    high = top_above g.bits top 24 t h

    here : is_set (24 + (top - 24)) g.bits ≡ true
    here = let e : 24 + (top - 24) ≡ top = omega (arith, high) in rw e (set_is top g.bits (top_set 32 g.bits top t))

    lower : falling (number g) (λ k. is_set (24 + k) g.bits) (top - 24)
        ≡ falling (number (rest_of g)) (λ k. is_set (24 + k) (rest_of g).bits) (top - 24)
    lower =
        falling-same (number g) (number (rest_of g)) (λ k. is_set (24 + k) g.bits) (λ k. is_set (24 + k) (rest_of g).bits) (top - 24)
        (λ i k. sym (cut_set top (24 + i) g.bits (omega arith)))
        (λ i k e. ap (λ (x : ℕ). g.base + x) (sym (cut_rank top (bit_xor i octant) g.bits
        (omega (arith, high, t.within, xor_lt 3 i octant (omega (arith, t.within)) q)))))

    upper : children_in octant (rest_of g) ≡ falling (number (rest_of g)) (λ k. is_set (24 + k) (rest_of g).bits) (top - 24)
    upper =
        falling_cut (number (rest_of g)) (λ k. is_set (24 + k) (rest_of g).bits) (top - 24) 8 (omega (arith, t.within))
        (λ i x y. past_clear top (24 + i) (rest_of g).bits (mod-lt g.bits (pow_pos top)) (omega arith))

-- ---- a group as one word

pub unpack_pack : (g : Group) → g.base < 2 ^ 32 → unpacked (packed g) ≡ g
unpack_pack g h =
    let a : packed g % 2 ^ 32 ≡ g.base = omega arith in
    let b : packed g / 2 ^ 32 ≡ g.bits = omega arith in
    λ i. record { base = a i; bits = b i }
