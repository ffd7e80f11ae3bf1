-- An accepted tree whose nodes are moved stands in the words that they are moved to.
use mathlib.Core.List.{List}
use mathlib.Core.Path.{◌≡◌, sym, ap, ◌∙◌}
use Prim.Native.Nat.{ℕ, ◌+◌, ◌<◌, ◌≤◌}
use native.Mathlib.Decide.{dec_lt}
use native.Mathlib.Omega.{arith}
use Rattle.bvh2.specs.Tree.{relabel, reposition}
use Rattle.bvh2.specs.Words.{tree_nodes, children, position, tree_of}
use Rattle.bvh2.specs.Causes.{LinkInside, Accepted}
use Rattle.bvh2.specs.Decoded.{Subtree}
use Rattle.bvh2.proofs.Counts.{label_count, count-labels, label_past}
use Rattle.bvh2.proofs.Decoded.{accepted_decoded}
use Rattle.bvh2.proofs.First.{Facts, accepted_facts}
use Rattle.bvh2.proofs.Moved.{MovedAt, stands_moved}
use Rattle.bvh2.proofs.Reading.{label_is}
use Rattle.bvh2.proofs.Stands.{Stands, whole_stands}
use Rattle.bvh2.proofs.Subtree.{root}
use Rattle.join.specs.Join.{moved_node}
use Rattle.join_laws.specs.Joined.{seven_words, moved_label}
use Rattle.join_laws.proofs.MovedNodes.{moved_box, moved_pair, moved_held}
use Rattle.join_laws.proofs.Tree.{other_label}

module _ (ws : List ℕ) (n : ℕ) (a : Accepted ws n) (p : 0 < n) where
  facts : Facts ws n
  facts = accepted_facts ws n a p

  whole : Subtree ws n 127 0
  whole = root ws n ((accepted_decoded ws n p).0 a)

  label_below : (v : ℕ) → 1 ≤ label_count v (tree_of ws) → v < tree_nodes n
  label_below v c = pick (dec_lt v (tree_nodes n))
    where
      pick : Dec (v < tree_nodes n) → v < tree_nodes n
      pick (yes l) = l
      pick (no l) = absurd (omega (arith, label_past (tree_nodes n) n v (tree_of ws) whole.within (omega arith)))

  module _ (both : List ℕ) (r nodes positions : ℕ) (near : nodes ≤ 131072) (few : positions ≤ 65536)
      (there : (v : ℕ) → v < tree_nodes n → seven_words both (moved_label r nodes v) ≡ moved_node ws nodes positions v) where
    moved_at : (v : ℕ) → v < tree_nodes n → MovedAt ws both (moved_label r nodes) (λ q. q + positions) v
    unfolding LinkInside
    moved_at v h = record {
      box = moved_box both ws nodes positions (moved_label r nodes v) v (there v h);
      pair = λ f low e.
          let i : LinkInside n (children f) = rw e at (facts.inside v h) in
          moved_pair both ws nodes positions (moved_label r nodes v) v (there v h) f e (omega (arith, i, facts.sized.few))
          ∙ ap children (sym (other_label r nodes f low));
      held = λ q e.
          let i : LinkInside n (position q) = rw e at (facts.inside v h) in
          moved_held both ws nodes positions (moved_label r nodes v) v (there v h) q e (omega (arith, i, facts.sized.few));
    }

    pub tree_stands : Stands both (reposition (λ q. q + positions) (relabel (moved_label r nodes) (tree_of ws)))
    tree_stands =
        stands_moved ws both (moved_label r nodes) (λ q. q + positions) pairs (tree_of ws) (whole_stands ws 127 0 whole.whole) (label_is ws 127 0)
        (omega (arith, whole.distinct 0, count-labels 0 (tree_of ws))) (λ v c. moved_at v (label_below v c))
      where
        pairs : (f : ℕ) → 0 < f → moved_label r nodes (f + 1) ≡ moved_label r nodes f + 1
        pairs f h = let e = other_label r nodes f h in other_label r nodes (f + 1) (omega arith) ∙ omega arith
