-- `walked`: no more reports than steps.
use Prim.Native.Nat.{◌≤◌}
use Rattle.measured.proofs.walked.Given as goal

abbrev pub invariant-loop-step : goal.invariant-loop-step
invariant-loop-step l = l.reports ≤ l._step
