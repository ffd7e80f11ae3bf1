-- What the level pass and the emission ask holds where none of causes 1 to 7 does.
use denote.Ref.{Bor}
use mathlib.Core.Path.{◌≡◌, refl, sym, subst, ◌∙◌}
use mathlib.Core.List.{List}
use Prim.Native.Nat.{ℕ, ◌*◌, ◌≤◌, ◌<◌}
use native.Mathlib.Omega.{arith}
use lib.ListN.{length}
use Rattle.bvh2.specs.Words.{tree_nodes, tree_at, tree_of}
use Rattle.bvh2.specs.Decoded.{Decoded, Subtree}
use Rattle.bvh2.proofs.Decoded.{accepted_decoded}
use Rattle.bvh2.proofs.Subtree.{root}
use Rattle.cost.specs.Table.{word_of}
use Rattle.cost.specs.Rows.{RowsHold}
use Rattle.children.specs.declared.branch.Branch.{Branch}
use Rattle.children.specs.declared.branch.Bvh2Slices.{Bvh2Slices}
use Rattle.children.specs.Branches.{words_of, decisions_of, subtree_of}
use Rattle.children.specs.Tabled.{most_edges, Tabled}
use Rattle.children.proofs.Deeper.{tree_most}
use Rattle.wide_tree.proofs.Ordered.{index_count_lem, node-count}
use Rattle.emit_tree.specs.Emission.{EmitTree}
use Rattle.bvh2_tables.specs.Call.{Call, leaf_count}
use Rattle.bvh2_tables.specs.Tables.{work_after}
use Rattle.bvh2_tables.proofs.Room.{size_some}
use Rattle.bvh2_tables.proofs.Prepared.{work_length, work_holds}
use Rattle.bvh2_to_cwbvh.specs.Conversion.{Convertible}

-- the branch of the whole tree
pub record IsRoot (b : Branch) (ws ds : List ℕ) : Type 0 where
  pub words : words_of b ≡ ws
  pub decisions : decisions_of b ≡ ds
  pub node : b.node ≡ 0

pub is_root : {t : Bor Bvh2Slices} {h : ∥ Tabled t.now.words.now t.now.decisions.now most_edges 0 ∥₁}
    → IsRoot (record { tree = t; node = 0; tabled = h }) t.now.words.now t.now.decisions.now
is_root = record { words = refl; decisions = refl; node = refl }

-- what holds of the tree's root holds of it
pub of_root : {b : Branch} {ws ds : List ℕ} → IsRoot b ws ds → (P : List ℕ → List ℕ → ℕ → Type 0) → P ws ds 0 → P (words_of b) (decisions_of b) b.node
of_root {b} {ds = ds} r P x =
    subst (P (words_of b) (decisions_of b)) (sym r.node) (subst (λ (d : List ℕ). P (words_of b) d 0) (sym r.decisions)
    (subst (λ (w : List ℕ). P w ds 0) (sym r.words) x))

-- its node reads as the tree's root with any number of edges
pub root_at : {b : Branch} {ws ds : List ℕ} (d : ℕ) → IsRoot b ws ds → tree_at (words_of b) d b.node ≡ tree_at ws d 0
root_at d r = λ i. tree_at (r.words i) d (r.node i)

-- its subtree is the whole tree
pub root_tree : {b : Branch} {ws ds : List ℕ} {n : ℕ} → Subtree ws n 127 0 → IsRoot b ws ds → subtree_of b ≡ tree_of ws
root_tree s r = root_at most_edges r ∙ tree_most s

module _ (c : Call) (ds₁ : List ℕ) (some : 0 < leaf_count c) (parts : Convertible c)
    (filled : ds₁ ≡ work_after 0 (word_of c.limit) c.words (leaf_count c) 0 c.decisions) where
  pub tree : Decoded c.words (leaf_count c)
  tree = (accepted_decoded c.words (leaf_count c) some).0 parts.accepted

  pub subtree : Subtree c.words (leaf_count c) 127 0
  subtree = root c.words (leaf_count c) tree

  -- so the subtree of conversion's root is the whole tree
  pub root_read : {b : Branch} → IsRoot b c.words ds₁ → subtree_of b ≡ tree_of c.words
  root_read r = root_tree subtree r

  pub holds : RowsHold (word_of c.limit) 0 ds₁ (tree_of c.words)
  holds = work_holds 0 (word_of c.limit) c.words (leaf_count c) c.decisions ds₁ some tree filled parts.words 0

  pub room : tree_nodes (leaf_count c) * 7 ≤ length ds₁
  room =
      omega (arith, work_length 0 (word_of c.limit) c.words (leaf_count c) c.decisions ds₁ some tree filled parts.words, parts.words)

  -- the level pass
  pub tabled : Tabled c.words ds₁ 127 0
  tabled = record { n = leaf_count c; tree = subtree; room = room; limit = c.limit; holds = holds }

  -- the emission
  unfoldable pub whole : (b : Branch) → IsRoot b c.words ds₁ → EmitTree b (leaf_count c) 127 c.ordered (length c.bytes) (length c.list)
  whole b r =
      let i = index_count_lem c.ordered c.limit c.words (leaf_count c) tree in
      let m = node-count c.ordered c.limit c.words (leaf_count c) tree parts.small in
      let f = tree.few in
      let e = parts.bytes in
      let s = size_some (leaf_count c) some in
      record {
        at = record {
          tree = of_root r (λ ws ds v. Subtree ws (leaf_count c) 127 v) subtree;
          room = of_root r (λ ws ds v. tree_nodes (leaf_count c) * 7 ≤ length ds) room;
          limit = c.limit;
          small = parts.small;
          holds = of_root r (λ ws ds v. RowsHold (word_of c.limit) 0 ds (tree_at ws 127 v)) holds;
        };
        record_room = rw (root_at 127 r) (omega arith);
        list_room = rw (root_at 127 r) (omega (arith, parts.list));
        few = rw (root_at 127 r) (omega arith);
        short = rw (root_at 127 r) (omega arith);
      }
