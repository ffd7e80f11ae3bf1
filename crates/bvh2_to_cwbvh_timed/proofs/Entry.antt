-- The first of causes 1 to 3 and of 4 for the side table, by the tests that the code makes in turn.
use mathlib.Core.Bool.{true}
use mathlib.Core.List.{List, [], ◌∷◌, ◌++◌}
use mathlib.Core.Logic.{◌⊎◌, inl, inr}
use mathlib.Core.Path.{◌≡◌, sym, ◌∙◌}
use Prim.Native.Nat.{ℕ, ◌≤◌, ◌<◌}
use native.Mathlib.Omega.{arith}
use lib.Dec.{T, leb, leb→le}
use lib.ListN.{length}
use borrow.Author.Tests.{le-leb, lt-leb}
use Rattle.causes.specs.Causes.{Condition, ◌unless◌, first_cause}
use Rattle.causes.proofs.Causes.{first_here, first_later, passed_none, none_passed, sorted, append_first, append_later, all_numbers, first_among}
use Rattle.bvh2.specs.FirstCause.{size_conditions, sizes_cause}
use Rattle.bvh2.proofs.First.{sizes_passed, sizes_none}
use Rattle.bvh2_to_cwbvh_timed.specs.TimedConversion.{side_size}

module _ (ws : List ℕ) (n limit side : ℕ) where
  abbrev others : List Condition
  others = 3 unless leb limit 3 ∷ 4 unless leb (side_size n) side ∷ []

  abbrev pub entry : List Condition
  entry = size_conditions (length ws) n ++ others

  pub entry_sizes : (k : ℕ) → k ≡ sizes_cause (length ws) n → (k ≡ 0 → ⊥) → k ≡ first_cause entry
  entry_sizes k e h = e ∙ sym (append_first (size_conditions (length ws) n) others (λ z. h (e ∙ z)))

  module _ (size : sizes_cause (length ws) n ≡ 0) where
    behind : first_cause entry ≡ first_cause others
    behind = append_later (size_conditions (length ws) n) others (sizes_passed ws n ((sizes_none ws n).0 size))

    pub entry_limit : 3 < limit → 3 ≡ first_cause entry
    entry_limit h = sym (behind ∙ first_here _ (lt-leb limit 3 h))

    pub entry_room : limit ≤ 3 → side < side_size n → 4 ≡ first_cause entry
    entry_room h r = sym (behind ∙ first_later 3 _ (le-leb limit 3 h) ∙ first_here [] (lt-leb (side_size n) side r))

    pub entry_none : limit ≤ 3 → side_size n ≤ side → 0 ≡ first_cause entry
    entry_none h r = sym (behind ∙ passed_none others (le-leb limit 3 h, (le-leb (side_size n) side r, tt)))

  -- it is one of 1 to 4
  pub entry_most : first_cause entry ≤ 4
  unfolding size_conditions all_numbers
  entry_most = go (first_among (λ k. leb k 4) entry tt)
    where
      go : (first_cause entry ≡ 0) ⊎ T (leb (first_cause entry) 4) → first_cause entry ≤ 4
      go (inl e) = omega arith
      go (inr h) = leb→le (first_cause entry) 4 h

  -- where there is none, the side table has room
  pub entry_passed : first_cause entry ≡ 0 → leb (side_size n) side ≡ true
  unfolding size_conditions sorted
  entry_passed e = (none_passed 0 entry tt e).1.1.1.0
