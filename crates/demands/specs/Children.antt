-- A node's children as its metas say (01, "Words, bytes and bounds"): the slots whose meta is not 0.
use Rattle.std.specs.Prelude.{ℕ, min}
use Rattle.lists.specs.Sums.{sum}
use Rattle.soundness.specs.Shape.{Shape}
use Rattle.node.specs.declared.Node.{Node}
use Rattle.record_shape.specs.Record.{meta_at}

-- how many children a node has
unfoldable pub child_count : Node → ℕ
child_count v = sum (λ s. min 1 (meta_at v s)) 8

-- how many of its slots have a leaf range
unfoldable pub leaf_children : Shape → ℕ → ℕ
leaf_children S v = sum (λ s. min 1 (S.count v s)) 8
