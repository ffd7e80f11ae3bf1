-- Conversion as C and Rust call it (01, "Causes of refusal"): whether children are ordered is a word, and the answer is a number.
use Rattle.std.specs.Prelude.{Bool, true, false, List, ℕ, zero, suc, ◌+◌, ◌*◌, length, Float}
use Rattle.bvh2.specs.FirstCause.{sizes_cause}
use Rattle.bvh2_tables.specs.Call.{Call, leaf_count}
use Rattle.bvh2_to_cwbvh.specs.Conversion.{ConversionAnswer, converted, refused, Outcome, conversion_of}

-- what refuses an order that is neither 0 nor 1: cause 1 or 2 if there is one, else 3, for so many words and n index words
unfoldable pub order_cause : (words n : ℕ) → ℕ
order_cause words n = elim (sizes_cause words n) [ zero ↦ 3 | suc k ↦ suc k ]

-- By a word of order: what there is with ordering off for 0 and on for 1, and what there is instead for any other.
unfoldable pub by_order : {A : Type 0} → (order : ℕ) → (Bool → A) → A → A
by_order zero either other = either false
by_order (suc zero) either other = either true
by_order (suc (suc k)) either other = other

-- a call whose order is another: refused, and every slice as it was
unfoldable pub order_refused : Call → Outcome
unfolding order_cause
order_refused c = record {
  answer = refused (order_cause (length c.words) (leaf_count c));
  decisions = c.decisions;
  costs = c.costs;
  bytes = c.bytes;
  list = c.list;
}

-- conversion of the call with ordering off for order 0 and on for 1, and such a refusal for any other
unfoldable pub conversion_by : (order : ℕ) → (Bool → Call) → Outcome
unfolding by_order order_refused
conversion_by order call = by_order order (λ ordered. conversion_of (call ordered)) (order_refused (call false))

-- kind 0 is converted, its deepest level above the sixteen bits of its node count; kind 2 is refused with its number, as the record check has it
unfoldable pub conversion_number : ConversionAnswer → ℕ
conversion_number (converted nodes level) = level * 65536 + nodes
conversion_number (refused number) = 0x2_0000_0000 + number

-- what the caller has at the end: that number, and the four lent slices
pub record Handed : Type 0 where
  pub number : ℕ
  pub decisions : List ℕ
  pub costs : List Float
  pub bytes : List ℕ
  pub list : List ℕ

abbrev pub handed : Outcome → Handed
handed o = record { number = conversion_number o.answer; decisions = o.decisions; costs = o.costs; bytes = o.bytes; list = o.list }
