-- Numbers that lie in a list of bytes, the lowest byte first, and the list after a number is stored.
use Rattle.std.specs.Prelude.{ℕ, zero, suc, ◌+◌, ◌*◌, ◌^◌, List, get_or, set}
use Rattle.words.specs.Fields.{field}

-- the sum of f i * 2 ^ (i * k) over i < n: the number whose n fields of k digits f gives
unfoldable pub sum_of : ℕ → ℕ → (ℕ → ℕ) → ℕ
sum_of k zero f = zero
sum_of k (suc n) f = sum_of k n f + f n * 2 ^ (n * k)

-- the number of n bytes at a place of a list
unfoldable pub le_at : ℕ → List ℕ → ℕ → ℕ
unfolding sum_of
le_at n s at = sum_of 8 n (λ i. get_or s (at + i) 0)

-- the list with the n low bytes of v at a place
unfoldable pub store_le : ℕ → List ℕ → ℕ → ℕ → List ℕ
unfolding field
store_le zero s at v = s
store_le (suc n) s at v = set (store_le n s at v) (at + n) (field 8 n v)
