-- Queries as C and Rust call them (01, "Walking"; "Causes of refusal"): a ray is a list of eight floats, and the answer is a number.
use Rattle.std.specs.Prelude.{cond, List, ◌≡◌, ℕ, zero, suc, ◌+◌, ◌*◌, ◌≤◌, ◌<◌, eqb, ltb, length, set, Float}
use Rattle.any_hit.specs.AnyHit.{AnyHitAnswer, listed, refused, lacking, any_hit_of, list_after}
use Rattle.query.specs.Result.{Result, unanswered}
use Rattle.closest.specs.Panes.{ClosestAnswer, hit_at, no_hit, refused_closest, MissAnswer, missed, blocked, refused_miss}
use Rattle.closest.specs.Panes.{pane_cause, closest_of, miss_of}
use Rattle.packed.specs.Packed.{ray_in}

-- a ray is eight floats; a list of another length is refused 1, before anything else
abbrev pub of_eight : {A : Type 0} → List Float → A → A → A
of_eight ray unfit fit = cond (eqb (length ray) 8) fit unfit

-- ---- the answers

unfoldable pub any_hit_by : List ℕ → ℕ → List Float → ℕ → Result AnyHitAnswer
any_hit_by bytes n ray room = of_eight ray (unanswered (refused 1)) (any_hit_of bytes n (ray_in ray 0) room)

-- the list at the end
unfoldable pub list_by : List ℕ → ℕ → List Float → List ℕ → List ℕ
list_by bytes n ray list = of_eight ray list (list_after bytes n (ray_in ray 0) list)

-- what refuses closest where no float is lent for a distance, by the cause that refuses it else (0 for none): 1 or 2 come first, all else after 4
unfoldable pub short_cause : ℕ → ℕ
short_cause zero = 4
short_cause (suc k) = cond (ltb (suc k) 4) (suc k) 4

-- with so many floats lent for a distance
unfoldable pub closest_in : ℕ → (bytes indices : List ℕ) → (panes ray : List Float) → Result ClosestAnswer
unfolding short_cause
closest_in zero bytes indices panes ray = unanswered (refused_closest (short_cause (pane_cause bytes indices panes (ray_in ray 0))))
closest_in (suc room) bytes indices panes ray = closest_of bytes indices panes (ray_in ray 0)

unfoldable pub closest_by : ℕ → (bytes indices : List ℕ) → (panes ray : List Float) → Result ClosestAnswer
unfolding closest_in
closest_by room bytes indices panes ray = of_eight ray (unanswered (refused_closest 1)) (closest_in room bytes indices panes ray)

-- a hit's distance is the first of the floats lent; nothing else is written
unfoldable pub distance_in : ClosestAnswer → List Float → List Float
distance_in (hit_at p t) out = set out 0 t
distance_in no_hit out = out
distance_in (refused_closest number) out = out

unfoldable pub miss_by : (bytes indices : List ℕ) → (panes ray : List Float) → Result MissAnswer
miss_by bytes indices panes ray = of_eight ray (unanswered (refused_miss 1)) (miss_of bytes indices panes (ray_in ray 0))

-- ---- their numbers: node tests times 2^48, the kind of answer times 2^32, and what the answer holds; a refusal's is the record check's

abbrev pub number_of : (tests kind held : ℕ) → ℕ
number_of tests kind held = tests * 0x1_0000_0000_0000 + kind * 0x1_0000_0000 + held

-- kind 0 has listed so many positions, kind 1 is short of the length needed (refused 11)
unfoldable pub any_hit_number : Result AnyHitAnswer → ℕ
any_hit_number r =
    elim r.answer [
      | listed count ↦ number_of r.tests 0 count
      | lacking number needed ↦ number_of r.tests 1 needed
      | refused number ↦ 0x2_0000_0000 + number
    ]

-- kind 0 is a hit with its position, kind 1 no hit
unfoldable pub closest_number : Result ClosestAnswer → ℕ
closest_number r =
    elim r.answer [ hit_at p t ↦ number_of r.tests 0 p | no_hit ↦ number_of r.tests 1 0 | refused_closest number ↦ 0x2_0000_0000 + number ]

-- kind 0 is a miss, kind 1 none
unfoldable pub miss_number : Result MissAnswer → ℕ
miss_number r = elim r.answer [ missed ↦ number_of r.tests 0 0 | blocked ↦ number_of r.tests 1 0 | refused_miss number ↦ 0x2_0000_0000 + number ]

-- ---- what every answer meets: tests of sixteen bits, words, and a cause's number

abbrev pub AnyHitFits : Result AnyHitAnswer → Type 0
AnyHitFits r =
    elim r.answer [
      | listed count ↦ (r.tests ≤ 65535) × (count < 0x1_0000_0000)
      | lacking number needed ↦ (r.tests ≡ 0) × (number ≡ 11) × (needed < 0x1_0000_0000)
      | refused number ↦ (r.tests ≡ 0) × (number ≤ 11)
    ]

abbrev pub ClosestFits : Result ClosestAnswer → Type 0
ClosestFits r =
    elim r.answer [
      | hit_at p t ↦ (r.tests ≤ 65535) × (p < 65536)
      | no_hit ↦ r.tests ≤ 65535
      | refused_closest number ↦ (r.tests ≡ 0) × (number ≤ 11)
    ]

abbrev pub MissFits : Result MissAnswer → Type 0
MissFits r = elim r.answer [ missed ↦ r.tests ≤ 65535 | blocked ↦ r.tests ≤ 65535 | refused_miss number ↦ (r.tests ≡ 0) × (number ≤ 11) ]
