-- The narrowest span over panes that are found list by list, and nothing while none are.
use mathlib.Core.List.{List, [], ◌∷◌, ◌++◌, append-nil}
use mathlib.Core.Path.{◌≡◌, refl, sym, ap, ap₂, ◌∙◌, subst}
use Prim.Native.Nat.{ℕ, ◌<◌}
use native.Mathlib.Omega.{arith}
use lib.ListN.{length, length-append}
use Rattle.std.proofs.Common.{Option, Some, None, IfNone, IfSome}
use Rattle.std.specs.Option.{unwrap_or}
use Rattle.span.specs.declared.Span.{Span}
use Rattle.span.specs.Hull.{hull, joined}
use Rattle.span.proofs.Hulls.{hull_none, hull_append}

-- none
no_panes : (ks : List ℕ) → length ks ≡ 0 → ks ≡ []
no_panes [] e = refl
no_panes (k ∷ ks) e = absurd (omega arith)

module _ (spans : List ℕ) where
  abbrev pub FoundOver : Option Span → List ℕ → Type 0
  FoundOver None ks = length ks ≡ 0
  FoundOver (Some s) ks = (0 < length ks) × (s ≡ hull spans ks)

  -- further panes: where nothing was found, their span, else the narrowest that holds both
  pub found_more : (found : Option Span) (a b : List ℕ) (s r : Span) → FoundOver found a → 0 < length b → s ≡ hull spans b
      → IfNone found (r ≡ s) → IfSome found (λ x. r ≡ joined x s) → FoundOver (Some r) (a ++ b)
  found_more None a b s r f h e n j =
      (omega (arith, length-append a b), n ∙ e ∙ ap (λ (l : List ℕ). hull spans (l ++ b)) (sym (no_panes a f)))
  found_more (Some x) a b s r f h e n j =
      (omega (arith, length-append a b), j ∙ ap₂ joined f.1 e ∙ sym (hull_append spans a b f.0 h))

  -- no further ones
  pub found_same : (found : Option Span) (a b : List ℕ) → FoundOver found a → b ≡ [] → FoundOver found (a ++ b)
  found_same found a b f e = subst (FoundOver found) (sym (ap (λ (l : List ℕ). a ++ l) e ∙ append-nil a)) f

  -- over all: 0 and 0 where none were found
  pub found_all : (found : Option Span) (ks : List ℕ) → FoundOver found ks → unwrap_or found (record { first = 0; last = 0 }) ≡ hull spans ks
  found_all None ks f = sym (ap (hull spans) (no_panes ks f) ∙ hull_none spans)
  found_all (Some s) ks f = f.1
