-- Lists of boxes and of answers, as they are lent from C or Rust. A box is six floats, a ray eight: origin, direction, tmin, tmax.
use Rattle.std.specs.Prelude.{◌≡◌, ℕ, zero, suc, ◌/◌, ◌%◌, cond, List, [], ◌∷◌, ◌++◌, eqb, leb, length, drop, Float}
use Rattle.aabb.specs.Aabb.{half_area, entry_distance}
use Rattle.packed.specs.Packed.{box_in, ray_in}

-- f 0, f 1, .., f (k − 1)
unfoldable pub firsts : (ℕ → Float) → ℕ → List Float
firsts f zero = []
firsts f (suc k) = firsts f k ++ (f k ∷ [])

-- the list with f of its number in each of its first k places
unfoldable pub filled : (ℕ → Float) → ℕ → List Float → List Float
filled f k s = firsts f k ++ drop k s

-- the list with the answer of its number in each of its first k places, where P says for each number what the answer is
abbrev pub FilledBy : (ℕ → Float → Type 0) → ℕ → List Float → List Float → Type 0
FilledBy P k s t = (f : ℕ → Float) → ((i : ℕ) (x : Float) → P i x → x ≡ f i) → t ≡ filled f k s

-- 1 where a length is no whole number of boxes, else 4 where there is no room for an answer to each, else 0
-- (01, "Causes of refusal", 1 and 4)
unfoldable pub refusal : List Float → List Float → ℕ
refusal boxes out = cond (eqb (length boxes % 6) 0) (cond (leb (length boxes / 6) (length out)) 0 4) 1

-- the answers f of all boxes at the front of a list, unless a number refuses them
unfoldable pub answered : ℕ → (ℕ → Float) → List Float → List Float → List Float
answered number f boxes out = cond (eqb number 0) (filled f (length boxes / 6) out) out

abbrev pub area_at : List Float → ℕ → Float
area_at boxes k = half_area (box_in boxes k)

abbrev pub entry_at : List Float → List Float → ℕ → Float
entry_at boxes ray k = entry_distance (box_in boxes k) (ray_in ray 0)

-- the same, with 1 also for a ray of another length
unfoldable pub ray_refusal : List Float → List Float → List Float → ℕ
ray_refusal boxes ray out = cond (eqb (length ray) 8) (refusal boxes out) 1
