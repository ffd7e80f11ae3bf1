-- The samples that are checked over the definitions (01, "Samples", those marked P), all of them, and T's cost table beside them: what each says.
-- `proofs/Samples.antt` computes them.
use Rattle.std.specs.Prelude.{◌≡◌, true, false, List, [], ◌∷◌, ℕ, suc, take, drop, replicate, Float}
use Rattle.std.specs.Float.{binary32, inf}
use Rattle.std.specs.Float.Ieee.{of_bits, to_bits}
use Rattle.ray.specs.declared.Ray.{Ray}
use Rattle.quantization.specs.Exponent.{exponent_of}
use Rattle.bvh2.specs.Words.{tree_of}
use Rattle.cost.specs.Table.{word_of, cost_of}
use Rattle.bvh2_to_cwbvh.specs.Conversion.{ConversionAnswer, converted, refused, record_of, index_list_of, conversion_of}
use Rattle.closest.specs.Panes.{hit_at, no_hit, closest_of}
use Rattle.any_hit.specs.AnyHit.{listed, any_hit_of, list_after}
use Rattle.samples.specs.TreeT.{number, minus_zero, words_t, indices_t, panes_t, bytes_t, ray_along}

-- the next f32 above a positive one
abbrev pub next_above : Float → Float
next_above x = of_bits binary32 (suc (to_bits binary32 x))

-- the exponent byte of an axis from 0 to x
abbrev pub extent_byte : Float → ℕ
extent_byte x = exponent_of (number 0) x

-- a conversion's answer for a leaf limit, with room for two leaves
unfoldable pub convert_sample : List ℕ → List ℕ → ℕ → ConversionAnswer
unfolding conversion_of
convert_sample ws indices limit = (conversion_of (record {
  words = ws;
  indices = indices;
  limit = limit;
  ordered = false;
  decisions = replicate 21 0;
  costs = replicate 21 (number 0);
  bytes = replicate 80 0;
  list = replicate 2 0;
})).answer

-- the sample's ray, and its neighbour with −0.0: their reach is without end
abbrev pub ahead : Ray
ahead = ray_along (number 0) (inf false)

abbrev pub beside : Ray
beside = ray_along minus_zero (inf false)

-- entry 0 of T's root: its decision word, and its cost as bits
abbrev pub root_word : ℕ → ℕ
root_word limit = word_of limit (tree_of words_t) 0

abbrev pub root_cost : ℕ → ℕ
root_cost limit = to_bits binary32 (cost_of limit (tree_of words_t) 0)

pub record Samples : Type 0 where
  -- T's record and index list
  pub record_of_T : record_of words_t 2 3 false ≡ bytes_t
  pub list_of_T : index_list_of words_t indices_t 3 false ≡ 0 ∷ 1 ∷ []
  -- the e bytes of T's node
  pub exponents_of_T : take 3 (drop 12 (record_of words_t 2 3 false)) ≡ 121 ∷ 120 ∷ 120 ∷ []
  -- an extent of 255 has the byte 127: its 255th part is a power of two and stays one
  pub extent_255 : extent_byte (number 255) ≡ 127
  -- the next f32 above has 128
  pub extent_above_255 : extent_byte (next_above (number 255)) ≡ 128
  -- 255 × 2 ^ 10, where a rounded logarithm falls short just above
  pub extent_261120 : extent_byte (number 261120) ≡ 137
  pub extent_above_261120 : extent_byte (next_above (number 261120)) ≡ 138
  -- an extent of 0 counts as 1e-20
  pub extent_0 : extent_byte (number 0) ≡ 53
  -- with ordering on, A (position 0) is in slot 0 and B (position 1) in slot 4
  pub ordered_T : take 8 (drop 24 (record_of words_t 2 3 true)) ≡ 0x20 ∷ 0 ∷ 0 ∷ 0 ∷ 0x21 ∷ 0 ∷ 0 ∷ 0 ∷ []
  -- along (1, 0, 0): any-hit lists position 1, then 0, by one test; closest is position 0 at 1.0, by one test
  pub any_hit_T : any_hit_of bytes_t 2 ahead 2 ≡ record { answer = listed 2; tests = 1 }
  pub any_hit_T_list : list_after bytes_t 2 ahead (7 ∷ 7 ∷ 7 ∷ []) ≡ 1 ∷ 0 ∷ 7 ∷ []
  pub closest_T : closest_of bytes_t indices_t panes_t ahead ≡ record { answer = hit_at 0 (number 1); tests = 1 }
  -- along (1, −0.0, 0) both meet the same (02, [2])
  pub any_hit_zero : any_hit_of bytes_t 2 beside 2 ≡ record { answer = listed 2; tests = 1 }
  pub any_hit_zero_list : list_after bytes_t 2 beside (7 ∷ 7 ∷ 7 ∷ []) ≡ 1 ∷ 0 ∷ 7 ∷ []
  pub closest_zero : closest_of bytes_t indices_t panes_t beside ≡ record { answer = hit_at 0 (number 1); tests = 1 }
  -- without leaves there are no nodes, and neither meets anything, without a test
  pub nothing : convert_sample [] [] 3 ≡ converted 0 0
  pub any_hit_nothing : any_hit_of [] 0 ahead 0 ≡ record { answer = listed 0; tests = 0 }
  pub closest_nothing : closest_of [] [] [] ahead ≡ record { answer = no_hit; tests = 0 }
  -- a leaf limit of 3 is accepted, 4 is refused 3, without leaves too
  pub limit_3 : convert_sample words_t indices_t 3 ≡ converted 1 0
  pub limit_4 : convert_sample words_t indices_t 4 ≡ refused 3
  pub limit_4_nothing : convert_sample [] [] 4 ≡ refused 3
  -- T's root, half area 7, over leaves of half area 3. Both as one leaf cost (2 × 7) × 0.3, and a wide node over them 3 × 0.3 + 3 × 0.3 + 7, each
  -- step rounded: the leaf is cheaper where the limit lets it be one. The splits, 0 and 6, are kept.
  pub cost_at_3 : (root_word 3 ≡ 0x0000_0006) × (root_cost 3 ≡ 0x4086_6667)
  pub cost_at_1 : (root_word 1 ≡ 0x4000_0006) × (root_cost 1 ≡ 0x410c_cccd)
