use native.Mathlib.Omega.{arith}
use Rattle.show_text.proofs.Inputs.{text_short, text_many, text_unfit, text_disorder, text_tree}
use Rattle.show_text.proofs.show_text.Goals as goal

pub returns-then-input-lt4 : goal.returns-then-input-lt4
returns-then-input-lt4 c = rw (← text_short c.args.input.now c.if-input-lt4.true) c.print_refusal.ensures

pub returns-then-n-gt256 : goal.returns-then-n-gt256
returns-then-n-gt256 c =
    rw (← text_many c.args.input.now _ c.if-input-lt4.false c.load_u32-n.ensures.value c.if-n-gt256.true)
    c.print_refusal-then-n-gt256.ensures

pub returns-then-input-k : goal.returns-then-input-k
returns-then-input-k c =
    rw (← text_unfit c.args.input.now _ c.if-input-lt4.false c.load_u32-n.ensures.value c.if-n-gt256.false _ c.tree_size-k.ensures c.if-input-k.true)
    c.print_refusal-then-input-k.ensures

pub returns-then-order-gt1 : goal.returns-then-order-gt1
returns-then-order-gt1 c =
    rw (← text_disorder c.args.input.now _ c.if-input-lt4.false c.load_u32-n.ensures.value c.if-n-gt256.false _ c.tree_size-k.ensures
    c.if-input-k.false _ _ c.load_u32-limit.ensures.value c.load_u32-order.ensures.value (omega (arith, c.if-order-gt1.true)))
    c.print_refusal-then-order-gt1.ensures

pub returns : goal.returns
returns c =
    rw (← text_tree c.args.input.now _ c.if-input-lt4.false c.load_u32-n.ensures.value c.if-n-gt256.false _ c.tree_size-k.ensures
    c.if-input-k.false _ _ c.load_u32-limit.ensures.value c.load_u32-order.ensures.value (omega (arith, c.if-order-gt1.false)) _ _ _ _
    c.read_words.ensures c.read_words-2.ensures)
    c.tree_text.ensures
