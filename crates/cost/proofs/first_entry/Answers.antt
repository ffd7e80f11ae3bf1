use Rattle.cost.proofs.Entries.{leaf_dearer, leaf_over}
use Rattle.cost.proofs.first_entry.Goals as goal
use Rattle.cost.proofs.first_entry.Goals.{else-count-limit-via-then-count-limit+else-leaf-internal, else-count-limit-via-else-count-limit}

pub returns-else-count-limit : goal.returns-else-count-limit
returns-else-count-limit c =
    let x = c.args in
    elim c.else-count-limit.branch [
      | else-count-limit-via-then-count-limit+else-leaf-internal w ↦
          leaf_dearer x.area x.count x.limit x.s w.if-count-limit.true w.if-leaf-internal.false
      | else-count-limit-via-else-count-limit w ↦ leaf_over x.area x.count x.limit x.s w.if-count-limit.false
    ]
