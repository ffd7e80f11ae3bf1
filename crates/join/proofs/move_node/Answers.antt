use mathlib.Core.Path.{sym, ap, subst, ◌∙◌}
use Rattle.bvh2.specs.Causes.{LinkInside}
use Rattle.lists.specs.Splice.{splice}
use Rattle.join.proofs.Moving.{inside_most, node_moved}
use Rattle.join.proofs.move_node.Goals as goal

pub moved_word-link-requires : goal.moved_word-link-requires
moved_word-link-requires c =
    subst (LinkInside 65536) (sym c.node_link.ensures) (inside_most _ _ _ c.args.from.accepted c.requires.0)

pub returns : goal.returns
returns c = c.copy_node.ensures ∙ ap (splice _ _) (node_moved _ _ _ _ _ (c.moved_word-link.ensures _ (sym c.node_link.ensures)))
