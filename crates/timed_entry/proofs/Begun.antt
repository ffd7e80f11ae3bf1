-- Where cause 14 does not hold, no walker is forged by its quarter hour.
use mathlib.Core.Bool.{false, not}
use mathlib.Core.List.{List}
use mathlib.Core.Path.{◌≡◌, ap}
use Prim.Native.Nat.{ℕ}
use Rattle.causes.specs.Causes.{place_in, place_of, order}
use Rattle.causes.proofs.Causes.{sorted, none_passed}
use Rattle.timed.specs.Hours.{Timetable, gates_at}
use Rattle.timed_entry.specs.Entry.{timed_conditions, timed_cause}

pub timed_begun : (bytes : List ℕ) (h : Timetable) → timed_cause bytes h ≡ 0 → (gates_at h).forged ≡ false
unfolding timed_conditions sorted place_of order place_in
timed_begun bytes h e = ap not (none_passed 0 (timed_conditions bytes h) tt e).1.1.0
