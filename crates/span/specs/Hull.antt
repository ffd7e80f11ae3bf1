-- The narrowest span that holds other spans (02, [7]).
use Rattle.std.specs.Prelude.{List, [], ◌∷◌, ℕ, min, max}
use Rattle.span.specs.declared.Span.{Span}
use Rattle.span.specs.Span.{first_at, last_at}

-- the least value of a function at the members of a list, and the greatest; 0 where it has none
unfoldable pub least_of : (ℕ → ℕ) → List ℕ → ℕ
least_of f [] = 0
least_of f (x ∷ []) = f x
least_of f (x ∷ y ∷ l) = min (f x) (least_of f (y ∷ l))

unfoldable pub greatest_of : (ℕ → ℕ) → List ℕ → ℕ
greatest_of f [] = 0
greatest_of f (x ∷ l) = max (f x) (greatest_of f l)

-- of the spans of some panes: the least first, and the greatest last
unfoldable pub hull : List ℕ → List ℕ → Span
unfolding least_of greatest_of
hull spans ks = record { first = least_of (first_at spans) ks; last = greatest_of (last_at spans) ks }

-- of two spans
unfoldable pub joined : Span → Span → Span
joined a b = record { first = min a.first b.first; last = max a.last b.last }
