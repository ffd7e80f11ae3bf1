-- Internal: r is the place of the highest set digit of n, of w digits.
use Rattle.std.specs.Prelude.{ℕ, ◌+◌, ◌^◌, ◌≤◌, ◌<◌}

pub record Top (w n r : ℕ) : Type 0 where
  pub within : r < w
  pub low : 2 ^ r ≤ n
  pub upper : n < 2 ^ (r + 1)
