-- `read_input`: the length held stands for all that was read.
use Rattle.std.proofs.Common.{ℕ, ◌≡◌, ◌+◌, ◌≤◌, List, length}
use Rattle.std.specs.Io.KnownBytes.{Consumes}
use Rattle.check_text.specs.Held.{longest, held_length}
use Rattle.check_text.proofs.input.read_input.Given as goal

abbrev pub invariant-loop : goal.invariant-loop
invariant-loop g l = record {
  within : l.held ≤ longest + 80;
  room : length l.bytes ≡ longest + 80;
  taken : (read : List ℕ) × Consumes (g.R.Read.remaining l.initial.input) (g.R.Read.remaining l.input) read
      × (l.held ≡ held_length (longest + 80 + length read));
}
