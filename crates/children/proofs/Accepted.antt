-- Every node of an accepted tree reads whole with 127 edges left, as its root does.
use mathlib.Core.Path.{subst}
use mathlib.Core.Logic.{∥∥₁_elim}
use mathlib.Core.List.{List, [], ◌∷◌}
use Prim.Native.Nat.{ℕ, ◌+◌, ◌<◌, ◌≤◌}
use native.Mathlib.Omega.{arith}
use Rattle.std.proofs.Props.{props}
use Rattle.bvh2.specs.Tree.{depth}
use Rattle.bvh2.specs.Words.{tree_nodes, tree_of}
use Rattle.bvh2.specs.Causes.{Turn, left, right, LeadsTo, Accepted}
use Rattle.bvh2.specs.Decoded.{Subtree}
use Rattle.bvh2.proofs.Counts.{count-labels}
use Rattle.bvh2.proofs.Paths.{leads}
use Rattle.bvh2.proofs.PathCounts.{some_path}
use Rattle.bvh2.proofs.Subtree.{root, node}
use Rattle.bvh2.proofs.First.{accepted_sized}
use Rattle.bvh2.proofs.Decoded.{node_once, accepted_decoded}
use Rattle.children.specs.declared.branch.Branch.{Branch}
use Rattle.children.specs.Branches.{words_of, subtree_of}
use Rattle.children.proofs.Deeper.{fork}
use Rattle.children.proofs.Branches.{few_edges}

-- where a path leads to, as many edges are left as where it begins
path_subtree : (ws : List ℕ) (n d u : ℕ) → Subtree ws n d u → (path : List Turn) (v : ℕ) → LeadsTo ws u path v → Subtree ws n d v
unfolding LeadsTo
path_subtree ws n d u s [] v h = subst (λ (x : ℕ). Subtree ws n d x) h s
path_subtree ws n d u s (left ∷ path) v h = path_subtree ws n d h.0 (fork ws n d u h.0 s h.1).left path v h.2
path_subtree ws n d u s (right ∷ path) v h = path_subtree ws n d (h.0 + 1) (fork ws n d u h.0 s h.1).right path v h.2

pub accepted_subtree : (ws : List ℕ) (n v : ℕ) → Accepted ws n → v < tree_nodes n → Subtree ws n 127 v
accepted_subtree ws n v a l =
    let d = (accepted_decoded ws n (omega (arith, l))).0 a in
    let q = some_path (tree_of ws) v (omega (arith, node_once ws n d v l, count-labels v (tree_of ws))) in
    path_subtree ws n 127 0 (root ws n d) q.0 v (leads ws 127 0 q.0 v q.1)

-- so at most 127 edges lie below any branch of one
pub accepted_edges : {n : ℕ} (b : Branch) → Accepted (words_of b) n → depth (subtree_of b) ≤ 127
accepted_edges {n} b a = ∥∥₁_elim b.tabled (hlevel props) (λ h.
    few_edges b (accepted_subtree (words_of b) n b.node a
    (omega (arith, (node h.tree).below, h.tree.fit, (accepted_sized (words_of b) n a).fit))))
