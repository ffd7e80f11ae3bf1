-- Tree T (01, "Samples"), here and nowhere else: its words, its indices, the boxes of its leaves as panes, the bytes that `showrecord` prints of
-- its record, and the rays that are sent through it.
use Rattle.std.specs.Prelude.{List, [], ◌∷◌, ℕ, pos, Float}
use Rattle.std.specs.Float.{binary32}
use Rattle.std.specs.Float.Ieee.{of_int, of_bits}
use Rattle.ray.specs.declared.Ray.{Ray}
use Rattle.ray.specs.Ray.{ray_of}

-- a whole number as an f32, and −0.0
abbrev pub number : ℕ → Float
number n = of_int binary32 (pos n)

abbrev pub minus_zero : Float
minus_zero = of_bits binary32 0x8000_0000

-- 1, 2 and 3 as f32 patterns
abbrev one : ℕ
one = 0x3f80_0000

abbrev two : ℕ
two = 0x4000_0000

abbrev three : ℕ
three = 0x4040_0000

-- the root, an inner node whose children are nodes 1 and 2; leaf A with position 0, leaf B with position 1
abbrev pub words_t : List ℕ
words_t =
    0 ∷ 0 ∷ 0 ∷ three ∷ one ∷ one ∷ 1
    ∷ 0 ∷ 0 ∷ 0 ∷ one ∷ one ∷ one ∷ 0x4000_0000
    ∷ two ∷ 0 ∷ 0 ∷ three ∷ one ∷ one ∷ 0x4000_0001 ∷ []

abbrev pub indices_t : List ℕ
indices_t = 0 ∷ 1 ∷ []

-- the boxes of A and B
abbrev pub panes_t : List Float
panes_t = number 0 ∷ number 0 ∷ number 0 ∷ number 1 ∷ number 1 ∷ number 1 ∷ number 2 ∷ number 0 ∷ number 0 ∷ number 3 ∷ number 1 ∷ number 1 ∷ []

-- limit 3, ordering off
abbrev pub bytes_t : List ℕ
bytes_t =
    0 ∷ 0 ∷ 0 ∷ 0 ∷ 0 ∷ 0 ∷ 0 ∷ 0 ∷ 0 ∷ 0 ∷ 0 ∷ 0 ∷
    0x79 ∷ 0x78 ∷ 0x78 ∷ 0 ∷
    0x01 ∷ 0 ∷ 0 ∷ 0 ∷ 0 ∷ 0 ∷ 0 ∷ 0 ∷
    0x20 ∷ 0x21 ∷ 0 ∷ 0 ∷ 0 ∷ 0 ∷ 0 ∷ 0 ∷
    0 ∷ 0x80 ∷ 0 ∷ 0 ∷ 0 ∷ 0 ∷ 0 ∷ 0 ∷ 0x40 ∷ 0xc0 ∷ 0 ∷ 0 ∷ 0 ∷ 0 ∷ 0 ∷ 0 ∷
    0 ∷ 0 ∷ 0 ∷ 0 ∷ 0 ∷ 0 ∷ 0 ∷ 0 ∷ 0x80 ∷ 0x80 ∷ 0 ∷ 0 ∷ 0 ∷ 0 ∷ 0 ∷ 0 ∷
    0 ∷ 0 ∷ 0 ∷ 0 ∷ 0 ∷ 0 ∷ 0 ∷ 0 ∷ 0x80 ∷ 0x80 ∷ 0 ∷ 0 ∷ 0 ∷ 0 ∷ 0 ∷ 0 ∷ []

-- from (−1, 0.5, 0.5) along (1, y, 0), as far as `reach`
abbrev pub ray_along : Float → Float → Ray
ray_along y reach =
    let half = of_bits binary32 0x3f00_0000 in
    ray_of (record { x = of_bits binary32 0xbf80_0000; y = half; z = half }) (record { x = number 1; y = y; z = number 0 }) (number 0) reach
