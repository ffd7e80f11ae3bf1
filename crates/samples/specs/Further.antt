-- Further samples over T (01, "Walking"; "Causes of refusal"; "Samples"): its decision words, corners of closest and miss, and what `showrecord`
-- prints. `proofs/Further.antt` computes them.
use Rattle.std.specs.Prelude.{◌≡◌, List, [], ◌∷◌, ◌++◌, map, ℕ, replicate}
use Rattle.std.specs.Float.{nan}
use Rattle.bvh2.specs.Words.{tree_of}
use Rattle.cost.specs.Table.{word_of}
use Rattle.node.specs.Bytes.{bytes}
use Rattle.text.specs.Text.{chars}
use Rattle.query.specs.Result.{Result}
use Rattle.closest.specs.Panes.{ClosestAnswer, hit_at, no_hit, refused_closest, MissAnswer, missed, blocked, refused_miss, closest_of, miss_of}
use Rattle.show_text.specs.ShowText.{show_text}
use Rattle.samples.specs.TreeT.{number, words_t, indices_t, panes_t, bytes_t, ray_along}
use Rattle.samples.specs.Samples.{ahead}

abbrev pub closest_is : ClosestAnswer → ℕ → Result ClosestAnswer
closest_is a tests = record { answer = a; tests = tests }

abbrev pub miss_is : MissAnswer → ℕ → Result MissAnswer
miss_is a tests = record { answer = a; tests = tests }

-- words as bytes, the lowest byte of each first
abbrev pub bytes_of : List ℕ → List ℕ
bytes_of [] = []
bytes_of (w ∷ ws) = bytes 4 w ++ bytes_of ws

-- T as `showrecord` reads it, at leaf limit 3
abbrev pub input_t : ℕ → List ℕ
input_t order = bytes_of (2 ∷ 3 ∷ order ∷ (words_t ++ indices_t))

-- what it prints of T in order 0, and in order 1, where B stands in slot 4
abbrev pub text_t : List ℕ
text_t =
    chars "0 00000000000000000000000079787800010000000000000020210000000000000080000000000000"
    ++ chars "40c00000000000000000000000000000808000000000000000000000000000008080000000000000\nindices 0 1\n"

abbrev pub ordered_text_t : List ℕ
ordered_text_t =
    chars "0 00000000000000000000000079787800010000000000000020000000210000000000000080000000"
    ++ chars "40000000c00000000000000000000000800000008000000000000000000000008000000080000000\nindices 0 1\n"

-- the decision words of T's root, entry by entry
abbrev pub root_words : ℕ → List ℕ
root_words limit = map (word_of limit (tree_of words_t)) (0 ∷ 1 ∷ 2 ∷ 3 ∷ 4 ∷ 5 ∷ 6 ∷ [])

pub record Further : Type 0 where
  -- at limit 1 a wide node, and from entry 1 on both leaves in the root's place
  pub words_of_T : root_words 1 ≡ 0x4000_0006 ∷ 0x8000_0000 ∷ 0x8000_0000 ∷ 0x8000_0000 ∷ 0x8000_0000 ∷ 0x8000_0000 ∷ 0x8000_0000 ∷ []
  -- the pane is the one that the index word names
  pub by_index : closest_of bytes_t (1 ∷ 0 ∷ []) panes_t ahead ≡ closest_is (hit_at 1 (number 1)) 1
  -- a tie keeps the first met
  pub tie : closest_of bytes_t (0 ∷ 0 ∷ []) panes_t ahead ≡ closest_is (hit_at 1 (number 1)) 1
  -- a distance equal to the reach is not below it
  pub at_reach : closest_of bytes_t indices_t panes_t (ray_along (number 0) (number 1)) ≡ closest_is no_hit 1
  -- a pane that is not there, a pane whose box is not accepted, half a pane, and a reach of NaN
  pub no_pane : closest_of bytes_t (0 ∷ 2 ∷ []) panes_t ahead ≡ closest_is (refused_closest 10) 0
  pub bad_pane : closest_of bytes_t indices_t (replicate 6 (number 0) ++ (number 1 ∷ replicate 5 (number 0))) ahead ≡ closest_is (refused_closest 6) 0
  pub half_pane : closest_of bytes_t indices_t (replicate 9 (number 0)) ahead ≡ closest_is (refused_closest 1) 0
  pub no_reach : closest_of bytes_t indices_t panes_t (ray_along (number 0) nan) ≡ closest_is (refused_closest 9) 0
  -- miss
  pub is_blocked : miss_of bytes_t indices_t panes_t ahead ≡ miss_is blocked 1
  pub is_missed : miss_of bytes_t indices_t panes_t (ray_along (number 0) (number 1)) ≡ miss_is missed 1
  pub miss_nothing : miss_of [] [] [] ahead ≡ miss_is missed 0
  pub miss_no_pane : miss_of bytes_t (0 ∷ 2 ∷ []) panes_t ahead ≡ miss_is (refused_miss 10) 0
  -- T in both orders
  pub printed_T : show_text (input_t 0) ≡ text_t
  pub printed_ordered_T : show_text (input_t 1) ≡ ordered_text_t
  -- three bytes; n = 257, whatever follows; n = 0 with a byte too many, though the order is 2
  pub printed_short : show_text (0 ∷ 0 ∷ 0 ∷ []) ≡ chars "refused 1\n"
  pub printed_many : show_text (bytes_of (257 ∷ [])) ≡ chars "refused 2\n"
  pub printed_long : show_text (bytes_of (0 ∷ 3 ∷ 2 ∷ []) ++ (0 ∷ [])) ≡ chars "refused 1\n"
  -- order 2, and leaf limit 4
  pub printed_order_2 : show_text (bytes_of (0 ∷ 3 ∷ 2 ∷ [])) ≡ chars "refused 3\n"
  pub printed_limit_4 : show_text (bytes_of (0 ∷ 4 ∷ 0 ∷ [])) ≡ chars "refused 3\n"
  -- n = 0: no nodes and no indices
  pub printed_nothing : show_text (bytes_of (0 ∷ 3 ∷ 0 ∷ [])) ≡ chars "indices\n"
