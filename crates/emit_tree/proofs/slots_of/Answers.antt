use mathlib.Core.Logic.{∥∥₁_elim}
use mathlib.Core.Path.{◌∙◌}
use Rattle.std.proofs.Props.{props}
use Rattle.emit_tree.proofs.Found.{found_few, found_read, found_slots, found_in_order}
use Rattle.emit_tree.proofs.slots_of.Goals as goal

pub returns-then-gathered : goal.returns-then-gathered
returns-then-gathered c = λ limit z. ∥∥₁_elim c.args.branch.tabled (hlevel props)
    (λ h. found_in_order h c.get_children-count.ensures c.args.ordered c.if-gathered.true limit z)

pub child_boxes-boxes-requires : goal.child_boxes-boxes-requires
child_boxes-boxes-requires c = ∥∥₁_elim c.args.branch.tabled (hlevel props)
    (λ h. (found_few h c.get_children-count.ensures, found_read h c.get_children-count.ensures))

pub returns : goal.returns
returns c = λ limit z. ∥∥₁_elim c.args.branch.tabled (hlevel props) (λ h.
    c.order_children.ensures ∙ found_slots h c.get_children-count.ensures c.args.ordered c.if-gathered.false
    c.node_box-parent.result c.child_boxes-boxes.result c.node_box-parent.ensures.value c.child_boxes-boxes.ensures limit z)
