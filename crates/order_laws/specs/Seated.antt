-- What is claimed of the order in which children take their slots (02, [5]; the rule: 01, "Corners of each file", bvh2_to_cwbvh.rs, Ordering). `a` is
-- what `assign` gives for n children.
use Rattle.std.specs.Prelude.{false, true, ◌⊎◌, ◌≡◌, ℕ, suc, ◌≤◌, ◌<◌, get_or, Float}
use Rattle.std.specs.Float.Ieee.{lt}
use Rattle.order.specs.Assign.{Pair, greatest_finite, assigned, slot_of, child_of}
use Rattle.order.specs.Lists.{eight_of}
use Rattle.order.specs.declared.Assignment.{Assignment}

-- the child that round k seated and the slot that this child has, as the arrays say
abbrev pub seated_in : Assignment → ℕ → Pair
seated_in a k = let c = get_or a.seated k 8 in record { child = c; slot = get_or a.slot c 8 }

module _ (cost : Pair → Float) (n : ℕ) (a : Assignment) where
  -- A pair that round k may take: no round before seated the child, none gave the slot away, and the cost is below the greatest f32.
  pub record Free (k : ℕ) (p : Pair) : Type 0 where
    pub child : p.child < n
    pub slot : p.slot < 8
    pub waits : (j : ℕ) → j < k → (seated_in a j).child ≡ p.child → ⊥
    pub free : (j : ℕ) → j < k → (seated_in a j).slot ≡ p.slot → ⊥
    pub below : lt (cost p) greatest_finite ≡ true

  -- By the rule round k takes p: of the pairs that it may take none is cheaper, and of those as cheap p has the lowest child, of these the lowest
  -- slot.
  pub record ByRule (k : ℕ) (p : Pair) : Type 0 where
    pub fits : Free k p
    pub least : (q : Pair) → Free k q → lt (cost q) (cost p) ≡ false
    pub first : (q : Pair) → Free k q → lt (cost p) (cost q) ≡ false → (p.child < q.child) ⊎ ((p.child ≡ q.child) × (p.slot ≤ q.slot))

  -- round after round takes its pair by the rule
  abbrev pub SeatedByRound : Type 0
  SeatedByRound = (k : ℕ) → k < a.count → ByRule k (seated_in a k)

  -- A child stands among those seated exactly if it has a slot, which then has it, and once; behind them stands 8.
  pub record SeatedOnce : Type 0 where
    pub apart : (i j : ℕ) → i < j → j < a.count → (seated_in a i).child ≡ (seated_in a j).child → ⊥
    pub has_slot : (k : ℕ) → k < a.count → ((seated_in a k).child < n) × ((seated_in a k).slot < 8)
    pub has_child : (k : ℕ) → k < a.count → get_or a.child (seated_in a k).slot 8 ≡ (seated_in a k).child
    pub stands : (c : ℕ) → get_or a.slot c 8 < 8 → (k : ℕ) × (k < a.count) × ((seated_in a k).child ≡ c)
    pub behind : (k : ℕ) → a.count ≤ k → get_or a.seated k 8 ≡ 8

  -- The searches stop as soon as every child has a slot: before each of them some child had none; where one is left without a slot, the last search
  -- found nothing, and neither does a further one.
  pub record Stops : Type 0 where
    pub all : ((c : ℕ) → c < n → get_or a.slot c 8 < 8) → (a.rounds ≡ n) × (a.count ≡ n)
    pub left : (c : ℕ) → c < n → get_or a.slot c 8 ≡ 8 → a.rounds ≡ suc a.count
    pub most : a.rounds ≤ n
    pub waits : (k : ℕ) → k < a.rounds → (c : ℕ) × (c < n) × ((j : ℕ) → j < k → (seated_in a j).child ≡ c → ⊥)
    pub none : (p : Pair) → Free a.count p → ⊥

  -- The same slots come out after any number of rounds from there on, those included that find nothing.
  pub record SameSlots : Type 0 where
    pub slots : (m : ℕ) → a.count ≤ m → eight_of (slot_of (assigned cost n m)) ≡ a.slot
    pub children : (m : ℕ) → a.count ≤ m → eight_of (child_of (assigned cost n m)) ≡ a.child
