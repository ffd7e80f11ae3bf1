use mathlib.Core.Path.{◌≡◌, refl}
use mathlib.Core.Bool.{Bool, true, false}
use mathlib.Core.List.{List}
use Prim.Native.Nat.{ℕ, ◌+◌, ◌*◌, ◌/◌}
use borrow.Author.Tests.{eq-eqb, ne_eqb}
use lib.ListN.{get_or}
use Rattle.std.proofs.Common.{rules}
use Rattle.cost.specs.declared.Kind.{Kind as Told}
use Rattle.cost.specs.declared.Kind.TheVariants as K
use Rattle.cost.specs.Said.{kind_said, kind_in}
use Rattle.emit.proofs.KindBits.{leaf_bits, node_bits}
use Rattle.emit_tree.specs.Emission.{is_inner}
use Rattle.emit_tree.proofs.is_inner.Goals as goal

-- a child is an inner one where its kind is not Leaf
by_kind : (ds : List ℕ) (v : ℕ) (k : Told) (b : Bool) → (v ≡ 0xffff_ffff → ⊥) → kind_said k ≡ kind_in (get_or ds (v * 7 + 0) 0)
    → (b ≡ false → k ≡ K.Leaf) → (b ≡ true → k ≡ K.Leaf → ⊥) → b ≡ is_inner ds v
unfolding is_inner
by_kind ds v k true n e f g =
    rw (ne_eqb v 0xffff_ffff n, ne_eqb (get_or ds (v * 7) 0 / 0x4000_0000) 0 (node_bits ds v k e (g refl)))
by_kind ds v k false n e f g =
    rw (ne_eqb v 0xffff_ffff n, eq-eqb (get_or ds (v * 7) 0 / 0x4000_0000) 0 (leaf_bits ds v k e (f refl)))

pub returns-then-v-ne4294967295 : goal.returns-then-v-ne4294967295
returns-then-v-ne4294967295 c =
    by_kind c.args.decisions.now c.args.v c.decision_at.result.kind c.ne.result c.if-v-ne4294967295.true c.decision_at.ensures.kind
    (λ z. search rules) (λ z e. search rules)

pub returns-else-v-ne4294967295 : goal.returns-else-v-ne4294967295
unfolding is_inner
returns-else-v-ne4294967295 c = rw (eq-eqb c.args.v 0xffff_ffff c.if-v-ne4294967295.false)
