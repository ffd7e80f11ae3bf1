-- The samples of two trees joined (02, [4]). `proofs/Joins.antt` computes them.
use Rattle.std.specs.Prelude.{List, [], ◌∷◌, ◌++◌, ◌≡◌, ℕ, replicate, take}
use Rattle.join.specs.Join.{joined, refused_join, JoinEnd, join_of}
use Rattle.samples.specs.TreeT.{words_t, indices_t}

-- what the slices hold before
abbrev pub nines : ℕ → List ℕ
nines k = replicate k 9

-- how a call ends that has room for four leaves, and a word to spare in each slice
abbrev pub join_with : (first first_indices : List ℕ) → (panes : ℕ) → (second second_indices : List ℕ) → JoinEnd
join_with first first_indices panes second second_indices = join_of (record {
  first = first;
  first_indices = first_indices;
  panes = panes;
  second = second;
  second_indices = second_indices;
  marks = nines 6;
  words = nines 50;
  indices = nines 5;
})

-- refused early, where all is as it was, and late, where so many marks are zero
abbrev pub untouched : ℕ → JoinEnd
untouched number = record { answer = refused_join number; marks = nines 6; words = nines 50; indices = nines 5 }

abbrev pub zeroed : (number marks left : ℕ) → JoinEnd
zeroed number marks left =
    record { answer = refused_join number; marks = replicate marks 0 ++ nines left; words = nines 50; indices = nines 5 }

-- a leaf from (−0, 0, 0) to (1, 1, 1), with a link word
abbrev pub leaf_with : ℕ → List ℕ
leaf_with link = 0x8000_0000 ∷ 0 ∷ 0 ∷ 0x3f80_0000 ∷ 0x3f80_0000 ∷ 0x3f80_0000 ∷ link ∷ []

-- T with its root's link word another: a link outside, and a root that is its own child
abbrev pub root_linked : ℕ → List ℕ
root_linked link = take 6 words_t ++ (link ∷ take 14 (leaf_with 0x4000_0000 ++ leaf_with 0x4000_0001))

pub record JoinSamples : Type 0 where
  -- T with T: seven nodes, the links of pairs and of leaves moved, and the indices counted on from two panes
  pub twice : join_with words_t indices_t 2 words_t indices_t ≡ record {
    answer = joined 4;
    marks = replicate 5 0 ++ nines 1;
    words =
        0 ∷ 0 ∷ 0 ∷ 0x4040_0000 ∷ 0x3f80_0000 ∷ 0x3f80_0000 ∷ 1
        ∷ 0 ∷ 0 ∷ 0 ∷ 0x4040_0000 ∷ 0x3f80_0000 ∷ 0x3f80_0000 ∷ 3
        ∷ 0 ∷ 0 ∷ 0 ∷ 0x4040_0000 ∷ 0x3f80_0000 ∷ 0x3f80_0000 ∷ 5
        ∷ 0 ∷ 0 ∷ 0 ∷ 0x3f80_0000 ∷ 0x3f80_0000 ∷ 0x3f80_0000 ∷ 0x4000_0000
        ∷ 0x4000_0000 ∷ 0 ∷ 0 ∷ 0x4040_0000 ∷ 0x3f80_0000 ∷ 0x3f80_0000 ∷ 0x4000_0001
        ∷ 0 ∷ 0 ∷ 0 ∷ 0x3f80_0000 ∷ 0x3f80_0000 ∷ 0x3f80_0000 ∷ 0x4000_0002
        ∷ 0x4000_0000 ∷ 0 ∷ 0 ∷ 0x4040_0000 ∷ 0x3f80_0000 ∷ 0x3f80_0000 ∷ 0x4000_0003 ∷ nines 1;
    indices = 0 ∷ 1 ∷ 2 ∷ 3 ∷ nines 1;
  }
  -- one leaf with one leaf: the union's −0.0 is +0.0, the old roots keep theirs
  pub leaves : join_with (leaf_with 0x4000_0000) (0 ∷ []) 1 (leaf_with 0x4000_0000) (0 ∷ []) ≡ record {
    answer = joined 2;
    marks = replicate 2 0 ++ nines 4;
    words =
        0 ∷ 0 ∷ 0 ∷ 0x3f80_0000 ∷ 0x3f80_0000 ∷ 0x3f80_0000 ∷ 1
        ∷ 0x8000_0000 ∷ 0 ∷ 0 ∷ 0x3f80_0000 ∷ 0x3f80_0000 ∷ 0x3f80_0000 ∷ 0x4000_0000
        ∷ 0x8000_0000 ∷ 0 ∷ 0 ∷ 0x3f80_0000 ∷ 0x3f80_0000 ∷ 0x3f80_0000 ∷ 0x4000_0001 ∷ nines 29;
    indices = 0 ∷ 1 ∷ nines 3;
  }
  -- an empty first, an empty second whose partner's panes play no part, and both
  pub no_first : join_with [] [] 5 words_t indices_t
      ≡ record { answer = joined 2; marks = replicate 5 0 ++ nines 1; words = words_t ++ nines 29; indices = 5 ∷ 6 ∷ nines 3 }
  pub no_second : join_with words_t indices_t 0x1_0000_0000 [] []
      ≡ record { answer = joined 2; marks = replicate 5 0 ++ nines 1; words = words_t ++ nines 29; indices = 0 ∷ 1 ∷ nines 3 }
  pub neither : join_with [] [] 5 [] [] ≡ record { answer = joined 0; marks = nines 6; words = nines 50; indices = nines 5 }
  -- the greatest index word, and one more
  pub greatest : join_with [] [] 0xffff_ffff (leaf_with 0x4000_0000) (0 ∷ [])
      ≡ record { answer = joined 1; marks = replicate 2 0 ++ nines 4; words = leaf_with 0x4000_0000 ++ nines 43; indices = 0xffff_ffff ∷ nines 4 }
  pub too_great : join_with [] [] 0xffff_ffff (leaf_with 0x4000_0000) (1 ∷ []) ≡ zeroed 13 2 4
  -- words of another length; room for four leaves, and not for five
  pub short : join_with (take 20 words_t) indices_t 2 words_t indices_t ≡ untouched 1
  pub no_room_lem : join_with words_t indices_t 2 (words_t ++ words_t) (0 ∷ 1 ∷ 2 ∷ []) ≡ untouched 1
  -- a link outside in the second comes before a root that is its own child in the first
  pub five_first : join_with (root_linked 0) indices_t 2 (root_linked 2) indices_t ≡ zeroed 5 5 1
  pub own_child : join_with (root_linked 0) indices_t 2 words_t indices_t ≡ zeroed 7 5 1
