-- The marking walk over a lattice and a cycle takes few calls, though there are many paths.
use mathlib.Core.Path.{◌≡◌, refl}
use mathlib.Core.List.{[]}
use lib.ListN.{replicate}
use Rattle.bvh2.specs.Words.{link_of, read_link, tree_of}
use Rattle.bvh2.specs.FirstCause.{is_position}
use Rattle.bvh2_check.specs.Marking.{walk, mark_calls}
use Rattle.bvh2_samples.specs.Trees.{node, tip, lattice}

-- 97 inner nodes, 50 leaves counted: the walk meets a marked node at the first turn back, after one call a node and one more
lattice_calls : mark_calls (lattice 97 0 (tip 0 (tip 1 []))) 99 (tree_of (lattice 97 0 (tip 0 (tip 1 [])))) (replicate 149 0) ≡ 100
unfolding link_of read_link is_position walk mark_calls
lattice_calls = refl

-- the root is its own first child
cycle_calls : mark_calls (node 0 (tip 0 (tip 1 []))) 3 (tree_of (node 0 (tip 0 (tip 1 [])))) (replicate 5 0) ≡ 2
unfolding link_of read_link is_position walk mark_calls
cycle_calls = refl
