use Rattle.std.proofs.Common.{ℕ, sym}
use Rattle.std.proofs.lemmas.List.{length-replicate}
use Rattle.replay_joins.proofs.ruled.sized.Goals as goal

-- the largest space is lent whole: it has too many words to write out
pub slice_bounds-with_few-end : goal.slice_bounds-with_few-end
slice_bounds-with_few-end c = sym (length-replicate {A = ℕ} 917568 0xdead_beef)

pub slice_bounds-with_itself-end-then-is_twice-3 : goal.slice_bounds-with_itself-end-then-is_twice-3
slice_bounds-with_itself-end-then-is_twice-3 c = sym (length-replicate {A = ℕ} 917568 0xdead_beef)
