-- How often a label and a position stand in a tree, by recursion on the tree.
use mathlib.Core.Path.{◌≡◌}
use Prim.Native.Nat.{ℕ, ◌+◌, ◌≤◌, ◌<◌}
use native.Mathlib.Decide.{dec_lt}
use native.Mathlib.Omega.{arith}
use Rattle.lists.specs.Counts.{same, count}
use Rattle.lists.proofs.Counts.{same_self, same_apart, count-append}
use Rattle.bvh2.specs.Tree.{Tree, leaf, inner, label_of, labels, positions}
use Rattle.bvh2.specs.Decoded.{LabelsWithin}

unfoldable pub label_count : ℕ → Tree ℕ → ℕ
label_count x (leaf v b p) = same x v
label_count x (inner v b l r) = same x v + (label_count x l + label_count x r)

unfoldable pub position_count : ℕ → Tree ℕ → ℕ
position_count y (leaf v b p) = same y p
position_count y (inner v b l r) = position_count y l + position_count y r

pub count-labels : (x : ℕ) (t : Tree ℕ) → count x (labels t) ≡ label_count x t
unfolding count labels label_count
count-labels x (leaf v b p) = omega arith
count-labels x (inner v b l r) =
    let h = count-append x (labels l) (labels r) in
    let i = count-labels x l in
    let j = count-labels x r in
    omega arith

pub count-positions : (y : ℕ) (t : Tree ℕ) → count y (positions t) ≡ position_count y t
unfolding count positions position_count
count-positions y (leaf v b p) = omega arith
count-positions y (inner v b l r) =
    let h = count-append y (positions l) (positions r) in
    let i = count-positions y l in
    let j = count-positions y r in
    omega arith

-- the root's label counts
pub root_counts : (t : Tree ℕ) → 1 ≤ label_count (label_of t) t
unfolding label_of label_count
root_counts (leaf v b p) = let i = same_self v in omega arith
root_counts (inner v b l r) = let i = same_self v in omega arith

-- nothing out of range counts
pub label_past : (m n x : ℕ) (t : Tree ℕ) → LabelsWithin m n t → m ≤ x → label_count x t ≡ 0
unfolding LabelsWithin label_count
label_past m n x (leaf v b p) w h = same_apart x v (λ e. omega arith)
label_past m n x (inner v b l r) w h =
    let s = same_apart x v (λ e. omega arith) in
    let i = label_past m n x l w.1 h in
    let j = label_past m n x r w.2 h in
    omega arith

pub position_past : (m n y : ℕ) (t : Tree ℕ) → LabelsWithin m n t → n ≤ y → position_count y t ≡ 0
unfolding LabelsWithin position_count
position_past m n y (leaf v b p) w h = same_apart y p (λ e. omega arith)
position_past m n y (inner v b l r) w h = let i = position_past m n y l w.1 h in let j = position_past m n y r w.2 h in omega arith

-- and where nothing out of range counts, all is in range
below : (k x : ℕ) → (k ≤ x → same x x ≡ 0) → x < k
below k x h = pick (dec_lt x k)
  where
    pick : Dec (x < k) → x < k
    pick (yes l) = l
    pick (no l) = let i = h (omega arith) in let j = same_self x in absurd (omega arith)

pub in_range_lem : (m n : ℕ) (t : Tree ℕ) → ((x : ℕ) → m ≤ x → label_count x t ≡ 0) → ((y : ℕ) → n ≤ y → position_count y t ≡ 0) → LabelsWithin m n t
unfolding LabelsWithin label_count position_count
in_range_lem m n (leaf v b p) h k = (below m v (h v), below n p (k p))
in_range_lem m n (inner v b l r) h k = (
  below m v (λ i. let j = h v i in omega arith),
  in_range_lem m n l (λ x i. let j = h x i in omega arith) (λ y i. let j = k y i in omega arith),
  in_range_lem m n r (λ x i. let j = h x i in omega arith) (λ y i. let j = k y i in omega arith),
)
