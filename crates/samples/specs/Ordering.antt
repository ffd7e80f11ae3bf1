-- The samples of ordering (02, [6]): T, T with one pane twice, T with its leaves exchanged, and nine leaves in a row, each with ordering off and on,
-- along the samples' ray. `proofs/Ordering.antt` computes them.
use Rattle.std.specs.Prelude.{Bool, true, false, List, [], ◌∷◌, ◌++◌, ◌≡◌, ℕ, ◌+◌, ◌*◌, length, take, drop}
use Rattle.std.specs.Float.{binary32}
use Rattle.std.specs.Float.Ieee.{to_bits}
use Rattle.query.specs.Met.{positions_met, tests_made, panes_met}
use Rattle.bvh2_to_cwbvh.specs.Conversion.{record_of, index_list_of}
use Rattle.samples.specs.TreeT.{number, words_t, indices_t}
use Rattle.samples.specs.Samples.{ahead}

-- T with B, of position 1, as the left child
abbrev pub exchanged : List ℕ
exchanged = take 7 words_t ++ (drop 14 words_t ++ take 7 (drop 7 words_t))

-- a node of the row, from so far to so far along x; and leaf k, of length 1, with position k
abbrev pub row_node : (lo hi link : ℕ) → List ℕ
row_node lo hi link =
    let bits : ℕ → ℕ = λ x. to_bits binary32 (number x) in
    bits lo ∷ 0 ∷ 0 ∷ bits hi ∷ bits 1 ∷ bits 1 ∷ link ∷ []

abbrev pub row_leaf : ℕ → List ℕ
row_leaf k = row_node (2 * k) (2 * k + 1) (0x4000_0000 + k)

-- nine leaves in a row
abbrev pub nine_leaves : List ℕ
nine_leaves =
    row_node 0 17 1 ++ (row_node 0 7 3 ++ (row_node 8 17 5 ++ (row_node 0 3 7 ++ (row_node 4 7 9 ++ (row_node 8 11 11 ++ (
    row_node 12 17 13 ++ (row_leaf 0 ++ (row_leaf 1 ++ (row_leaf 2 ++ (row_leaf 3 ++ (row_leaf 4 ++ (row_leaf 5 ++ (row_leaf 6 ++ (
    row_node 14 17 15 ++ (row_leaf 7 ++ row_leaf 8)))))))))))))))

abbrev pub nine_indices : List ℕ
nine_indices = 0 ∷ 1 ∷ 2 ∷ 3 ∷ 4 ∷ 5 ∷ 6 ∷ 7 ∷ 8 ∷ []

module _ (limit : ℕ) (words indices : List ℕ) (ordered : Bool) where
  -- the panes that the ray meets in the record that these words become, in walk order, and the node tests
  abbrev pub panes_along : List ℕ
  panes_along =
      panes_met (index_list_of words indices limit ordered)
      (positions_met (record_of words (length indices) limit ordered) (length indices) ahead)

  abbrev pub tests_along : ℕ
  tests_along = tests_made (record_of words (length indices) limit ordered) (length indices) ahead

pub record OrderingSamples : Type 0 where
  -- panes 0 and 1 once each, by one test
  pub off : (panes_along 3 words_t indices_t false ≡ 1 ∷ 0 ∷ []) × (tests_along 3 words_t indices_t false ≡ 1)
  pub on : (panes_along 3 words_t indices_t true ≡ 1 ∷ 0 ∷ []) × (tests_along 3 words_t indices_t true ≡ 1)
  -- both positions with index word 0: pane 0 twice
  pub twice_off : panes_along 3 words_t (0 ∷ 0 ∷ []) false ≡ 0 ∷ 0 ∷ []
  pub twice_on : panes_along 3 words_t (0 ∷ 0 ∷ []) true ≡ 0 ∷ 0 ∷ []
  -- where the sequence differs: ordering brings A back in front of B
  pub exchanged_off : (panes_along 3 exchanged indices_t false ≡ 0 ∷ 1 ∷ []) × (tests_along 3 exchanged indices_t false ≡ 1)
  pub exchanged_on : (panes_along 3 exchanged indices_t true ≡ 1 ∷ 0 ∷ []) × (tests_along 3 exchanged indices_t true ≡ 1)
  -- a leaf to a leaf child: nine children are too many for one node, so two nodes are tested
  pub row_off : (panes_along 1 nine_leaves nine_indices false ≡ 8 ∷ 7 ∷ 6 ∷ 5 ∷ 4 ∷ 3 ∷ 2 ∷ 1 ∷ 0 ∷ [])
      × (tests_along 1 nine_leaves nine_indices false ≡ 2)
  pub row_on : (panes_along 1 nine_leaves nine_indices true ≡ 5 ∷ 6 ∷ 7 ∷ 8 ∷ 4 ∷ 3 ∷ 2 ∷ 1 ∷ 0 ∷ [])
      × (tests_along 1 nine_leaves nine_indices true ≡ 2)
