use mathlib.Core.Path.{◌≡◌, ap, ap₂, ◌∙◌}
use native.Mathlib.Omega.{arith}
use Rattle.aabb.specs.Aabb.{union_of, accepted_box}
use Rattle.bvh2.specs.Words.{box_at}
use Rattle.join.proofs.Parts.{roots_box, root_room, roots_written, whole_written}
use Rattle.join.proofs.put_under_root.Goals as goal
use Rattle.join.proofs.put_under_root.Goals.{After-union}

-- the new root's box is the union of the old roots'
union-is : (c : After-union) → let t = c.args.trees in c.union.result ≡ union_of (box_at t.first.tree.words.now 0) (box_at t.second.tree.words.now 0)
union-is c = c.union.ensures ∙ ap₂ union_of c.node_box-a.ensures c.node_box-b.ensures

pub node_box-a-requires : goal.node_box-a-requires
node_box-a-requires c = root_room _ _ c.args.trees.first.accepted c.requires.0

pub node_box-b-requires : goal.node_box-b-requires
node_box-b-requires c = root_room _ _ c.args.trees.second.accepted c.requires.1

pub put_node-requires : goal.put_node-requires
put_node-requires c =
    let t = c.args.trees in (
      omega (arith, c.requires.2),
      ap accepted_box (union-is (goal.at.put_node-requires c).After-union)
          ∙ roots_box _ _ _ _ t.first.accepted t.second.accepted c.requires.0 c.requires.1,
    )

pub returns : goal.returns
returns c =
    let t = c.args.trees in
    let a = t.first.tree in
    let b = t.second.tree in
    whole_written a.words.now a.leaves b.words.now b.leaves _ _ _ _ c.requires.0 c.requires.1 c.requires.2
    (roots_written a.words.now a.leaves b.words.now b.leaves _ _ _ _ _ (union-is (goal.at.returns c).After-union) (omega (arith, c.requires.2))
    c.put_node.ensures c.move_node.ensures c.move_node-2.ensures)
    c.move_rest.ensures c.move_rest-2.ensures
