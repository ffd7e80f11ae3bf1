-- The words that a tree is written as decode to the tree, and are accepted if the tree is one that 01 accepts.
use mathlib.Core.Path.{◌≡◌, refl, sym, ap, ◌∙◌}
use mathlib.Core.List.{List, Perm}
use Prim.Native.Nat.{ℕ, ◌+◌, ◌*◌, ◌/◌, ◌%◌, ◌<◌, ◌≤◌}
use native.Mathlib.Decide.{dec_lt}
use native.Mathlib.Omega.{arith}
use lib.ListN.{length, get_or, replicate, length-replicate}
use lib.Dec.{T}
use lib.Ieee.{Float, binary32, of_bits, to_bits, fits}
use lib.Ieee.Bits.{of_bits-to_bits}
use Rattle.lists.specs.Counts.{same, count, upto}
use Rattle.lists.specs.Splice.{splice}
use Rattle.lists.proofs.Counts.{same_self}
use Rattle.lists.proofs.Perms.{perm_upto}
use Rattle.lists.proofs.Splice.{length-splice, splice_in, splice_before, splice_after}
use Rattle.aabb.specs.declared.Aabb.{Aabb}
use Rattle.bvh2.specs.Tree.{Tree, leaf, inner, label_of, box_of, leaves, depth, labels, positions}
use Rattle.bvh2.specs.Words.{children, position, word_at, link_at, float_at, box_at, boxed_words, tree_of}
use Rattle.bvh2.specs.Causes.{Accepted}
use Rattle.bvh2.specs.Decoded.{BoxesAccepted}
use Rattle.bvh2.specs.Encode.{link_word, node_words, store, encode, Fits, Adjacent, Numbered}
use Rattle.bvh2.proofs.Reading.{word-children, word_position}
use Rattle.bvh2.proofs.Counts.{label_count, count-labels}
use Rattle.bvh2.proofs.Stands.{Stands, stands_decodes, stands_accepted}

-- ---- the labels, and what is written at them
-- each label is below m
unfoldable Below : ℕ → Tree ℕ → Type 0
Below m (leaf v b p) = v < m
Below m (inner v b l r) = (v < m) × Below m l × Below m r

counted_below : (m v : ℕ) → (m ≤ v → same v v ≡ 0) → v < m
counted_below m v h = pick (dec_lt v m)
  where
    pick : Dec (v < m) → v < m
    pick (yes l) = l
    pick (no l) = let i = h (omega arith) in let j = same_self v in absurd (omega arith)

labels_below : (m : ℕ) (t : Tree ℕ) → ((x : ℕ) → m ≤ x → label_count x t ≡ 0) → Below m t
unfolding Below label_count
labels_below m (leaf v b p) h = counted_below m v (h v)
labels_below m (inner v b l r) h = (
  counted_below m v (λ i. let j = h v i in omega arith),
  labels_below m l (λ x i. let j = h x i in omega arith),
  labels_below m r (λ x i. let j = h x i in omega arith),
)

words_length : (t : Tree ℕ) → length (node_words t) ≡ 7
unfolding node_words
words_length t = refl

-- one node
module _ (ws : List ℕ) (m v : ℕ) (t : Tree ℕ) (h : v < m) (k : m * 7 ≤ length ws) where
  room : v * 7 + length (node_words t) ≤ length ws
  room = let e = words_length t in omega arith

  node-length : length (splice ws (v * 7) (node_words t)) ≡ length ws
  node-length = length-splice ws (v * 7) (node_words t) room

  node_at_lem : (i : ℕ) → i < 7 → word_at (splice ws (v * 7) (node_words t)) v i ≡ get_or (node_words t) i 0
  node_at_lem i l = splice_in ws (v * 7) (node_words t) room i 0 (let e = words_length t in omega arith)

  node_other : (u i : ℕ) → i < 7 → same u v ≡ 0 → word_at (splice ws (v * 7) (node_words t)) u i ≡ word_at ws u i
  node_other u i l z = pick (dec_lt u v) (dec_lt v u)
    where
      pick : Dec (u < v) → Dec (v < u) → word_at (splice ws (v * 7) (node_words t)) u i ≡ word_at ws u i
      pick (yes a) d = splice_before ws (v * 7) (node_words t) room (u * 7 + i) 0 (omega arith)
      pick (no a) (yes c) = splice_after ws (v * 7) (node_words t) room (u * 7 + i) 0 (let e = words_length t in omega arith)
      pick (no a) (no c) = let e : u ≡ v = omega arith in let s : same u v ≡ 1 = rw e (same_self v) in absurd (omega arith)

-- a whole tree
store_length : (m : ℕ) (t : Tree ℕ) (ws : List ℕ) → Below m t → m * 7 ≤ length ws → length (store ws t) ≡ length ws
unfolding Below store
store_length m (leaf v b p) ws h k = node-length ws m v (leaf v b p) h k
store_length m (inner v b l r) ws h k =
    let x = splice ws (v * 7) (node_words (inner v b l r)) in
    let e : length x ≡ length ws = node-length ws m v (inner v b l r) h.0 k in
    let f = store_length m l x h.1 (omega arith) in
    let g = store_length m r (store x l) h.2 (omega arith) in
    g ∙ f ∙ e

store_other : (m : ℕ) (t : Tree ℕ) (ws : List ℕ) → Below m t → m * 7 ≤ length ws → (u i : ℕ) → i < 7 → label_count u t ≡ 0 → word_at (store ws t) u i
    ≡ word_at ws u i
unfolding Below store label_count
store_other m (leaf v b p) ws h k u i l z = node_other ws m v (leaf v b p) h k u i l z
store_other m (inner v b l r) ws h k u i j z =
    let x = splice ws (v * 7) (node_words (inner v b l r)) in
    let e : length x ≡ length ws = node-length ws m v (inner v b l r) h.0 k in
    let f = store_length m l x h.1 (omega arith) in
    store_other m r (store x l) h.2 (omega arith) u i j (omega arith)
    ∙ store_other m l x h.1 (omega arith) u i j (omega arith)
    ∙ node_other ws m v (inner v b l r) h.0 k u i j (omega arith)

-- each node of the tree stands in the words
abbrev NodeAt : List ℕ → Tree ℕ → Type 0
NodeAt ws t = (i : ℕ) → i < 7 → word_at ws (label_of t) i ≡ get_or (node_words t) i 0

unfoldable Written : List ℕ → Tree ℕ → Type 0
Written ws (leaf v b p) = NodeAt ws (leaf v b p)
Written ws (inner v b l r) = NodeAt ws (inner v b l r) × Written ws l × Written ws r

agree : (ws xs : List ℕ) (t : Tree ℕ) → ((u i : ℕ) → 1 ≤ label_count u t → i < 7 → word_at xs u i ≡ word_at ws u i) → Written ws t → Written xs t
unfolding Written label_count label_of
agree ws xs (leaf v b p) h w = λ i l. h v i (let s = same_self v in omega arith) l ∙ w i l
agree ws xs (inner v b l r) h w = (
  λ i k. h v i (let s = same_self v in omega arith) k ∙ w.0 i k,
  agree ws xs l (λ u i c k. h u i (omega arith) k) w.1,
  agree ws xs r (λ u i c k. h u i (omega arith) k) w.2,
)

written : (m : ℕ) (t : Tree ℕ) (ws : List ℕ) → Below m t → m * 7 ≤ length ws → ((x : ℕ) → label_count x t ≤ 1) → Written (store ws t) t
unfolding Below store Written label_count label_of
written m (leaf v b p) ws h k d = node_at_lem ws m v (leaf v b p) h k
written m (inner v b l r) ws h k d =
    let x = splice ws (v * 7) (node_words (inner v b l r)) in
    let e : length x ≡ length ws = node-length ws m v (inner v b l r) h.0 k in
    let f = store_length m l x h.1 (omega arith) in
    let s = same_self v in
    let q = d v in (
      λ i j.
          store_other m r (store x l) h.2 (omega arith) v i j (omega arith)
          ∙ store_other m l x h.1 (omega arith) v i j (omega arith)
          ∙ node_at_lem ws m v (inner v b l r) h.0 k i j,
      agree (store x l) (store (store x l) r) l (λ u i c j. store_other m r (store x l) h.2 (omega arith) u i j (let y = d u in omega arith))
          (written m l x h.1 (omega arith) (λ y. let z = d y in omega arith)),
      written m r (store x l) h.2 (omega arith) (λ y. let z = d y in omega arith),
    )

-- ---- reading it back
-- the box of a node, from its words
float_back : (ws : List ℕ) (v i : ℕ) (x : Float) → T (fits binary32 x) → word_at ws v i ≡ to_bits binary32 x → float_at ws v i ≡ x
float_back ws v i x f e = ap (of_bits binary32) e ∙ of_bits-to_bits binary32 x f

pub boxed_back : (ws : List ℕ) (v : ℕ) (b : Aabb) (link : ℕ) → ((i : ℕ) → i < 7 → word_at ws v i ≡ get_or (boxed_words b link) i 0) → Fits b.min
    → Fits b.max → box_at ws v ≡ b
unfolding box_at
boxed_back ws v b link h f g =
    let x0 = float_back ws v 0 b.min.x f.0 (h 0 (omega arith)) in
    let y0 = float_back ws v 1 b.min.y f.1 (h 1 (omega arith)) in
    let z0 = float_back ws v 2 b.min.z f.2 (h 2 (omega arith)) in
    let x1 = float_back ws v 3 b.max.x g.0 (h 3 (omega arith)) in
    let y1 = float_back ws v 4 b.max.y g.1 (h 4 (omega arith)) in
    let z1 = float_back ws v 5 b.max.z g.2 (h 5 (omega arith)) in
    λ i. record { min = record { x = x0 i; y = y0 i; z = z0 i }; max = record { x = x1 i; y = y1 i; z = z1 i } }

box_back : (ws : List ℕ) (t : Tree ℕ) → NodeAt ws t → Fits (box_of t).min → Fits (box_of t).max → box_at ws (label_of t) ≡ box_of t
unfolding node_words
box_back ws t h f g = boxed_back ws (label_of t) (box_of t) (link_word t) h f g

link_back : (ws : List ℕ) (t : Tree ℕ) → NodeAt ws t → word_at ws (label_of t) 6 ≡ link_word t
unfolding node_words
link_back ws t h = h 6 (omega arith)

position_back : (w p : ℕ) → w ≡ 0x4000_0000 + p → p < 0x4000_0000 → (w / 0x4000_0000 ≡ 1) × (w % 0x4000_0000 ≡ p)
position_back w p e h = (omega arith, omega arith)

leaf_back : (ws : List ℕ) (v p : ℕ) → word_at ws v 6 ≡ 0x4000_0000 + p → p < 0x4000_0000 → link_at ws v ≡ position p
leaf_back ws v p e h =
    let k = position_back (word_at ws v 6) p e h in
    word_position (word_at ws v 6) k.0 ∙ ap position k.1

inner_back : (ws : List ℕ) (v f : ℕ) → word_at ws v 6 ≡ f → f < 0x4000_0000 → link_at ws v ≡ children f
inner_back ws v f e h =
    let k : word_at ws v 6 % 0x4000_0000 ≡ f = omega arith in
    word-children (word_at ws v 6) (omega arith) ∙ ap children k

written_stands : (ws : List ℕ) (t : Tree ℕ) → Written ws t → Adjacent t → Stands ws t
unfolding Written Adjacent Stands label_of box_of link_word
written_stands ws (leaf v b p) w a =
    let t : Tree ℕ = leaf v b p in
    (box_back ws t w a.1 a.2, leaf_back ws v p (link_back ws t w) a.0)
written_stands ws (inner v b l r) w a =
    let t : Tree ℕ = inner v b l r in (
      box_back ws t w.0 a.2 a.3,
      inner_back ws v (label_of l) (link_back ws t w.0) a.0,
      a.1,
      written_stands ws l w.1 a.4,
      written_stands ws r w.2 a.5,
    )

-- ---- the whole encoding
module _ (t : Tree ℕ) (n : Numbered t) where
  zeros : List ℕ
  zeros = replicate (length (labels t) * 7) 0

  zeros_length : length zeros ≡ length (labels t) * 7
  unfolding zeros
  zeros_length = length-replicate (length (labels t) * 7) 0

  in_words : Below (length (labels t)) t
  in_words =
      let u = (perm_upto (labels t) (length (labels t))).0 n.all in
      labels_below (length (labels t)) t (λ x l. sym (count-labels x t) ∙ u.1 x l)

  distinct : (x : ℕ) → label_count x t ≤ 1
  distinct x = pick (dec_lt x (length (labels t))) ((perm_upto (labels t) (length (labels t))).0 n.all)
    where
      pick : Dec (x < length (labels t))
          → ((x : ℕ) → x < length (labels t) → count x (labels t) ≡ 1) × ((x : ℕ) → length (labels t) ≤ x → count x (labels t) ≡ 0)
          → label_count x t ≤ 1
      pick (yes l) u = let i = u.0 x l in omega (arith, count-labels x t)
      pick (no l) u = let i = u.1 x (omega arith) in omega (arith, count-labels x t)

  encode_written : Written (encode t) t
  unfolding encode zeros
  encode_written = written (length (labels t)) t zeros in_words (let e = zeros_length in omega arith) distinct

  pub encode-length : length (encode t) ≡ length (labels t) * 7
  unfolding encode zeros
  encode-length = store_length (length (labels t)) t zeros in_words (let e = zeros_length in omega arith) ∙ zeros_length

  encode_stands : Stands (encode t) t
  encode_stands = written_stands (encode t) t encode_written n.adjacent

  -- DECODING IS THE IDENTITY
  pub encode_decodes : depth t ≤ 127 → tree_of (encode t) ≡ t
  encode_decodes h = stands_decodes (encode t) t encode_stands n.first h

  -- and the words are accepted, if the tree is one of n leaves that the causes leave standing
  pub encode_accepted : leaves t ≤ 65536 → depth t ≤ 127 → Perm (positions t) (upto 0 (leaves t)) → BoxesAccepted t → Accepted (encode t) (leaves t)
  encode_accepted few h p b = stands_accepted (encode t) t encode_stands n.first h encode-length n.all few p b
