-- What is known of a branch, and of those of its node's children.
use mathlib.Core.Path.{◌≡◌, sym, ap, subst}
use mathlib.Core.Bool.{true}
use mathlib.Core.List.{List}
use mathlib.Core.Logic.{∥∥₁_elim, ∥∥₁_map, ∥∥₁_prop}
use Prim.Native.Nat.{ℕ, ◌+◌, ◌*◌, ◌/◌, ◌%◌, ◌^◌, ◌≤◌, ◌<◌}
use native.Mathlib.Omega.{arith}
use lib.ListN.{length, get_or}
use Rattle.std.proofs.Props.{props}
use Rattle.aabb.specs.Aabb.{accepted_box}
use Rattle.bvh2.specs.Tree.{Tree, depth}
use Rattle.bvh2.specs.Words.{children, malformed, link_at, box_at, tree_at}
use Rattle.bvh2.specs.Decoded.{Subtree}
use Rattle.bvh2.proofs.Reading.{depth_most}
use Rattle.bvh2.proofs.Subtree.{node, formed}
use Rattle.cost.specs.declared.Kind.{Kind as Told}
use Rattle.cost.specs.declared.Kind.TheVariants as K
use Rattle.cost.specs.Said.{kind_said, kind_in}
use Rattle.cost.specs.Table.{word_of, table}
use Rattle.cost.specs.Rows.{RowsHold}
use Rattle.cost.proofs.Decisions.{kind_coded}
use Rattle.children.specs.declared.branch.Branch.{Branch}
use Rattle.children.specs.Branches.{words_of, decisions_of, subtree_of, DecidedBy, BranchAt, Room}
use Rattle.children.specs.Gather.{gather, part}
use Rattle.children.specs.Tabled.{most_edges, subtree_at, Tabled}
use Rattle.children.proofs.Deeper.{tree_most, fork}
use Rattle.children.proofs.Steps.{Here, here_tabled, Opens, slot_left, Divides, root_divides, left_tabled, right_tabled, Says, says}

-- where its node stands
pub here : (b : Branch) → Here (length (words_of b)) (length (decisions_of b)) b.node
here b = ∥∥₁_elim b.tabled (hlevel props) here_tabled

-- its box is an accepted one
pub accepted : (b : Branch) → accepted_box (box_at (words_of b) b.node) ≡ true
accepted b = ∥∥₁_elim b.tabled (hlevel props) (λ h. (node h.tree).box)

-- its link is well formed
pub formed_link : (b : Branch) → malformed ≡ link_at (words_of b) b.node → ⊥
formed_link b q = ∥∥₁_elim b.tabled (hlevel props) (λ h. formed (words_of b) most_edges b.node (sym q) h.tree.whole)

-- what the word of an entry says
pub word_says : (b : Branch) (limit : ℕ) → DecidedBy limit b → (i : ℕ) → i ≤ 6
    → Says (get_or (decisions_of b) (b.node * 7 + i) 0) (table limit (subtree_of b) i)
word_says b limit k i u = ∥∥₁_elim b.tabled (hlevel props) (λ h. says h limit k i u)

pub word_kind : (b : Branch) (limit : ℕ) → DecidedBy limit b → (i : ℕ) → i ≤ 6
    → kind_in (get_or (decisions_of b) (b.node * 7 + i) 0) ≡ (table limit (subtree_of b) i).kind
word_kind b limit k i u = kind_coded _ _ (word_says b limit k i u).kind

-- its splits are entries
pub few_splits : (b : Branch) (i : ℕ) → i ≤ 6 → get_or (decisions_of b) (b.node * 7 + i) 0 / 256 % 256 + get_or (decisions_of b)
    (b.node * 7 + i) 0 % 256 ≤ 6
few_splits b i u = ∥∥₁_elim b.tabled (hlevel props) (λ h. let s = says h h.limit h.holds i u in omega (arith, s.left, s.right, s.few))

-- ---- an inner node
pub record Inside (b : Branch) (f : ℕ) : Type 0 where
  pub second : f + 1 < 2 ^ 32
  pub left : ∥ Tabled (words_of b) (decisions_of b) most_edges f ∥₁
  pub right : ∥ Tabled (words_of b) (decisions_of b) most_edges (f + 1) ∥₁

pub inside : (b : Branch) {f : ℕ} → children f ≡ link_at (words_of b) b.node → Inside b f
inside b {f} q = ∥∥₁_elim b.tabled (hlevel props) (λ h.
    let p = fork (words_of b) h.n most_edges b.node f h.tree (sym q) in
    record { second = omega (arith, p.second, h.tree.few); left = ∣ left_tabled h f p ∣₁; right = ∣ right_tabled h f p ∣₁ })

-- no more edges lie below it than its node reads whole with
pub few_edges : {n e : ℕ} (b : Branch) → Subtree (words_of b) n e b.node → depth (subtree_of b) ≤ e
few_edges {e = e} b s = omega (arith, ap depth (tree_most s), depth_most (words_of b) e b.node)

-- below any branch, at most `most_edges`
pub edges_most : (b : Branch) → depth (subtree_of b) ≤ most_edges
edges_most b = depth_most (words_of b) most_edges b.node

-- ---- the branch of another node
pub branch_tree : {b c : Branch} {v : ℕ} → BranchAt b v c → subtree_of c ≡ subtree_at (words_of b) v
branch_tree {b} {c} h = λ i. subtree_at (h.tree i).now.words.now (h.node i)

branch_decisions : {b c : Branch} {v : ℕ} → BranchAt b v c → decisions_of c ≡ decisions_of b
branch_decisions h = λ i. (h.tree i).now.decisions.now

-- what holds of its decision words and its subtree
pub to_branch : {b c : Branch} {v : ℕ} → BranchAt b v c → (P : List ℕ → Tree ℕ → Type 0)
    → P (decisions_of b) (subtree_at (words_of b) v) → P (decisions_of c) (subtree_of c)
to_branch {b} {c} h P x =
    subst (λ (ds : List ℕ). P ds (subtree_of c)) (sym (branch_decisions h)) (subst (P (decisions_of b)) (sym (branch_tree h)) x)

pub of_branch : {b c : Branch} {v : ℕ} → BranchAt b v c → (P : List ℕ → Tree ℕ → Type 0)
    → P (decisions_of c) (subtree_of c) → P (decisions_of b) (subtree_at (words_of b) v)
of_branch {b} {c} h P x =
    subst (P (decisions_of b)) (branch_tree h) (subst (λ (ds : List ℕ). P ds (subtree_of c)) (branch_decisions h) x)

-- fewer edges lie below each of its children
pub left_shallower : {b c : Branch} {f : ℕ} → children f ≡ link_at (words_of b) b.node → BranchAt b f c
    → depth (subtree_of c) < depth (subtree_of b)
left_shallower {b} {f = f} q h = ∥∥₁_elim b.tabled (hlevel props)
    (λ k. omega (arith, (fork (words_of b) k.n most_edges b.node f k.tree (sym q)).left_shallower, ap depth (branch_tree h)))

pub right_shallower : {b c : Branch} {f : ℕ} → children f ≡ link_at (words_of b) b.node → BranchAt b (f + 1) c
    → depth (subtree_of c) < depth (subtree_of b)
right_shallower {b} {f = f} q h = ∥∥₁_elim b.tabled (hlevel props)
    (λ k. omega (arith, (fork (words_of b) k.n most_edges b.node f k.tree (sym q)).right_shallower, ap depth (branch_tree h)))

pub branch_room : {b c : Branch} {v i count : ℕ} → BranchAt b v c → Opens (words_of b) (decisions_of b) most_edges v i count
    → Room c count (λ limit. part limit (subtree_of c) i)
branch_room {i = i} {count = count} h o =
    let l = o.tabled.limit in
    record {
      limit = l;
      decided = to_branch h (λ ds t. RowsHold (word_of l) 0 ds t) o.tabled.holds;
      slots = to_branch h (λ ds t. count + length (part l t i) ≤ 8) o.slots;
    }

-- ---- a branch with room
with_limit : {ws ds : List ℕ} {d v : ℕ} → Tabled ws ds d v → (limit : ℕ) → RowsHold (word_of limit) 0 ds (tree_at ws d v) → Tabled ws ds d v
with_limit h limit k = record { n = h.n; tree = h.tree; room = h.room; limit = limit; holds = k }

pub open_at : (b : Branch) {i count : ℕ} → i ≤ 6 → ∥ Room b count (λ limit. part limit (subtree_of b) i) ∥₁
    → ∥ Opens (words_of b) (decisions_of b) most_edges b.node i count ∥₁
unfolding with_limit
open_at b u r = ∥∥₁_elim r ∥∥₁_prop (λ k. ∥∥₁_map b.tabled (λ h. record { tabled = with_limit h k.limit k.decided; entry = u; slots = k.slots }))

-- a node that stays has a place
pub place_left : (b : Branch) {i count : ℕ} {kind : Told} → i ≤ 6 → ∥ Room b count (λ limit. part limit (subtree_of b) i) ∥₁
    → kind_said kind ≡ kind_in (get_or (decisions_of b) (b.node * 7 + i) 0) → (kind ≡ K.Distribute → ⊥) → count < 8
place_left b u r q z = ∥∥₁_elim (open_at b u r) (hlevel props) (λ o. slot_left o q z)

pub divide_at : (b : Branch) {i count : ℕ} → i ≤ 6 → ∥ Room b count (λ limit. gather limit (subtree_of b) i) ∥₁
    → ∥ Divides (words_of b) (decisions_of b) most_edges b.node i count ∥₁
unfolding with_limit
divide_at b u r = ∥∥₁_elim r ∥∥₁_prop (λ k. ∥∥₁_map b.tabled (λ h. record { tabled = with_limit h k.limit k.decided; entry = u; slots = k.slots }))

pub room_opened : {b : Branch} {i count : ℕ} → Divides (words_of b) (decisions_of b) most_edges b.node i count
    → Room b count (λ limit. gather limit (subtree_of b) i)
room_opened o = record { limit = o.tabled.limit; decided = o.tabled.holds; slots = o.slots }

pub root_room : (b : Branch) → ∥ Room b 0 (λ limit. gather limit (subtree_of b) 0) ∥₁
root_room b = ∥∥₁_map b.tabled (λ h. room_opened {b = b} (root_divides h))
