-- Last in, first out: a pushed group is on top of the groups that were there, and they stay.
use mathlib.Core.Path.{◌≡◌}
use mathlib.Core.List.{List, [], ◌∷◌, ◌++◌}
use Prim.Native.Nat.{ℕ, suc, ◌+◌, ◌-◌, ◌≤◌, ◌<◌}
use native.Mathlib.Omega.{arith}
use borrow.Author.Tests.{lt-ltb, le-ltb, le-leb}
use lib.ListN.{length}
use lib.Seq.{take-suc-set, get_or-set_same}
use Rattle.faststack.specs.Stack.{capacity, groups, pushed, top_of}

module _ (words : List ℕ) (d group : ℕ) (room : d < capacity) (long : capacity ≤ length words) where
  pub pushed-groups : groups (pushed words d group) (suc d) ≡ groups words d ++ (group ∷ [])
  unfolding pushed
  pushed-groups = let h : d < length words = omega arith in simp (lt-ltb d capacity room) (take-suc-set words d group h)

  pub top_pushed : top_of (pushed words d group) (d + 1) ≡ group
  unfolding pushed top_of
  top_pushed =
      let h : d < length words = omega arith in
      let i : d + 1 - 1 ≡ d = omega arith in
      simp (lt-ltb d capacity room, lt-ltb 0 (d + 1) (omega arith), le-leb (d + 1) capacity (omega arith), i) (get_or-set_same words d group 0 h)

-- a 33rd group changes nothing
pub full : (words : List ℕ) (d group : ℕ) → capacity ≤ d → pushed words d group ≡ words
unfolding pushed
full words d group h = simp (le-ltb d capacity h)
