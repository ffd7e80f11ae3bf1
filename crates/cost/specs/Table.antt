-- The cost table of a node (01, "Corners of each file", bvh2_to_cwbvh.rs; "Words, bytes and bounds"): seven decisions, each with its cost.
-- Entry i says what becomes of the node where it may give a wide node up to i + 1 children. Each float operation is in the Rust's order.
use Rattle.std.specs.Prelude.{false, ◌&&◌, cond, ℕ, zero, suc, ◌+◌, ◌-◌, ◌*◌, eqb, leb, pos, Float}
use Rattle.std.specs.Float.{inf, binary32}
use Rattle.std.specs.Float.Ieee.{add, mul, lt, of_bits, of_int}
use Rattle.aabb.specs.Aabb.{half_area}
use Rattle.bvh2.specs.Tree.{Tree, leaf, inner, leaves}
use Rattle.cost.specs.declared.Split.{Split}

-- ---- splits
-- nothing found below a cost: the Rust's INVALID stands for both splits
abbrev pub no_split : Float → Split
no_split c = record { cost = c; left = 255; right = 255 }

-- a split takes the place of s only if its cost is strictly smaller: a tie keeps the earlier one
abbrev pub better : Split → Float → ℕ → ℕ → Split
better s c k m = cond (lt c s.cost) (record { cost = c; left = k; right = m }) s

-- the first k splits of n tried in turn from `start` on; split j opens the left child at entry j and the right one at entry n − j
unfoldable pub best_of : (l r : ℕ → Float) → ℕ → Float → ℕ → Split
best_of l r n start zero = no_split start
best_of l r n start (suc k) = better (best_of l r n start k) (add binary32 (l k) (r (n - k))) k (n - k)

-- all splits of n, for children with the costs l and r
abbrev pub best_split : (l r : ℕ → Float) → ℕ → Float → Split
best_split l r n start = best_of l r n start (suc n)

-- ---- decisions
pub data Kind : Type 0 where
  LEAF INTERNAL DISTRIBUTE : Kind

pub record Decision : Type 0 where
  pub cost : Float
  pub kind : Kind
  pub left : ℕ
  pub right : ℕ

-- 0.3, the cost of one primitive
abbrev pub prim_cost : Float
prim_cost = of_bits binary32 0x3e99_999a

-- `count` primitives as one leaf
abbrev pub leaf_cost : Float → ℕ → Float
leaf_cost area count = mul binary32 (mul binary32 (of_int binary32 (pos count)) area) prim_cost

-- a wide node over the children of a split
abbrev pub internal_cost : Float → Split → Float
internal_cost area s = add binary32 s.cost area

-- entry 0 of an inner node: a leaf only if the count is within the limit and that is strictly cheaper; the splits are kept in either case
abbrev pub first_decision : Float → ℕ → ℕ → Split → Decision
first_decision area count limit s =
    cond (leb count limit && lt (leaf_cost area count) (internal_cost area s))
    (record { cost = leaf_cost area count; kind = LEAF; left = s.left; right = s.right })
    (record { cost = internal_cost area s; kind = INTERNAL; left = s.left; right = s.right })

-- a further entry: the split that is cheaper than the entry before, else that entry whole
abbrev pub next_decision : Decision → Split → Decision
next_decision d s = cond (eqb s.left 255) d (record { cost = s.cost; kind = DISTRIBUTE; left = s.left; right = s.right })

-- entry i of an inner node with its half area, its count of leaves and the costs of its children
unfoldable pub decision : Float → ℕ → ℕ → (l r : ℕ → Float) → ℕ → Decision
decision area count limit l r zero = first_decision area count limit (best_split l r 6 (inf false))
decision area count limit l r (suc i) =
    let d = decision area count limit l r i in
    next_decision d (best_split l r i d.cost)

-- every entry of a leaf
abbrev pub leaf_decision : Float → Decision
leaf_decision area = record { cost = mul binary32 (mul binary32 area (of_int binary32 (pos 1))) prim_cost; kind = LEAF; left = 0; right = 0 }

-- entry i of a tree's root
unfoldable pub table : {A : Type 0} → ℕ → Tree A → ℕ → Decision
table limit (leaf v box p) i = leaf_decision (half_area box)
table limit (inner v box a b) i =
    decision (half_area box) (leaves a + leaves b) limit (λ k. (table limit a k).cost) (λ k. (table limit b k).cost) i

-- ---- decision words: the kind in bits 31..30, the left split in bits 15..8, the right one in bits 7..0
abbrev pub code : Kind → ℕ
code LEAF = 0
code INTERNAL = 1
code DISTRIBUTE = 2

abbrev pub word : Decision → ℕ
word d = code d.kind * 0x4000_0000 + (d.left * 256 + d.right)

-- word and cost of entry i
abbrev pub word_of : {A : Type 0} → ℕ → Tree A → ℕ → ℕ
word_of limit t i = word (table limit t i)

abbrev pub cost_of : {A : Type 0} → ℕ → Tree A → ℕ → Float
cost_of limit t i = (table limit t i).cost
