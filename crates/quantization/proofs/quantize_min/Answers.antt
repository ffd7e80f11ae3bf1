use Rattle.std.proofs.Common.{◌∙◌, arith}
use lib.Ieee.{of_bits}
use Rattle.quantization.proofs.Steps.{Inside, inside, above_minus_one, below_two_64, whole_part, at_the_top, at_the_bottom}
use Rattle.quantization.proofs.quantize_min.Goals as goal
use Rattle.quantization.proofs.quantize_min.Goals.{Then-x-2}

within : (c : Then-x-2) → Inside c.args.x
unfolding of_bits
within c = inside c.args.x c.if-x-2.true c.if-x.false

pub returns-then-x : goal.returns-then-x
unfolding of_bits
returns-then-x c = at_the_top c.args.x c.if-x.true

pub truncating_f32_to_u64-requires : goal.truncating_f32_to_u64-requires
truncating_f32_to_u64-requires c =
    let x = c.args.x in
    record { lower_bound = above_minus_one x (within c); upper_bound = below_two_64 x (within c) }

pub overflow_cast-result : goal.overflow_cast-result
overflow_cast-result c =
    let w = whole_part c.args.x (within (goal.at.overflow_cast-result c).Then-x-2) in
    let e = c.truncating_f32_to_u64.ensures in
    omega arith

pub returns-then-x-2 : goal.returns-then-x-2
returns-then-x-2 c = c.truncating_f32_to_u64.ensures ∙ (whole_part c.args.x (within (goal.at.returns-then-x-2 c).Then-x-2)).0

pub returns-else-x-2 : goal.returns-else-x-2
unfolding of_bits
returns-else-x-2 c = at_the_bottom c.args.x c.if-x-2.false
