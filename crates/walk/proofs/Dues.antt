-- What is due is the first of what is left: laws of `dueOf`.
use mathlib.Core.List.{List, [], ◌∷◌, ◌++◌, append_assoc}
use mathlib.Core.Path.{◌≡◌, refl, sym, ap, ◌∙◌, subst}
use Prim.Native.Nat.{ℕ, ◌+◌}
use native.Mathlib.Omega.{arith}
use Rattle.lists.specs.Sums.{sum_over}
use Rattle.walk.specs.Listing.{flat}
use Rattle.walk.specs.Step.{Due, report, test, nothing, due_on_stack, due_of, push}

-- ---- sums and lists over groups

abbrev pub sums : (ℕ → ℕ) → List (List ℕ) → ℕ
sums f [] = 0
sums f (g ∷ st) = sum_over f g + sums f st

abbrev pub flats : (ℕ → List ℕ) → List (List ℕ) → List ℕ
flats f [] = []
flats f (g ∷ st) = flat f g ++ flats f st

pub push_sums : (f : ℕ → ℕ) (r : List ℕ) (st : List (List ℕ)) → sums f (push r st) ≡ sum_over f r + sums f st
unfolding sum_over
push_sums f [] st = omega arith
push_sums f (x ∷ r) st = refl

pub push_flats : (f : ℕ → List ℕ) (r : List ℕ) (st : List (List ℕ)) → flats f (push r st) ≡ flat f r ++ flats f st
push_flats f [] st = refl
push_flats f (x ∷ r) st = refl

-- ---- positions in hand

abbrev in_hand : Due → List ℕ
in_hand (report p ps) = p ∷ ps
in_hand (test c r st) = []
in_hand nothing = []

stack_hand : (st : List (List ℕ)) → in_hand (due_on_stack st) ≡ []
stack_hand [] = refl
stack_hand ([] ∷ st) = stack_hand st
stack_hand ((c ∷ r) ∷ st) = refl

hand_is : (h g : List ℕ) (st : List (List ℕ)) → in_hand (due_of h g st) ≡ h
hand_is (p ∷ ps) g st = refl
hand_is [] (c ∷ r) st = refl
hand_is [] [] st = stack_hand st

module _ (h g : List ℕ) (st : List (List ℕ)) where
  pub report_hand : (p : ℕ) (ps : List ℕ) → due_of h g st ≡ report p ps → h ≡ p ∷ ps
  report_hand p ps e = sym (hand_is h g st) ∙ ap in_hand e

  pub test_hand : (c : ℕ) (r : List ℕ) (u : List (List ℕ)) → due_of h g st ≡ test c r u → h ≡ []
  test_hand c r u e = sym (hand_is h g st) ∙ ap in_hand e

  pub none_hand : due_of h g st ≡ nothing → h ≡ []
  none_hand e = sym (hand_is h g st) ∙ ap in_hand e

-- what holds of what is due holds with no position in hand
pub no_hand : (h g : List ℕ) (st : List (List ℕ)) (x : Due) → h ≡ [] → due_of h g st ≡ x → due_of [] g st ≡ x
no_hand h g st x e f = subst (λ (y : List ℕ). due_of y g st ≡ x) e f

-- ---- nodes

abbrev due_sum : (ℕ → ℕ) → Due → ℕ
due_sum f (report p ps) = 0
due_sum f (test c r st) = f c + (sum_over f r + sums f st)
due_sum f nothing = 0

abbrev due_flat : (ℕ → List ℕ) → Due → List ℕ
due_flat f (report p ps) = []
due_flat f (test c r st) = f c ++ (flat f r ++ flats f st)
due_flat f nothing = []

stack_sum : (f : ℕ → ℕ) (st : List (List ℕ)) → sums f st ≡ due_sum f (due_on_stack st)
unfolding sum_over
stack_sum f [] = refl
stack_sum f ([] ∷ st) = omega (arith, stack_sum f st)
stack_sum f ((c ∷ r) ∷ st) = omega arith

sum_is : (f : ℕ → ℕ) (g : List ℕ) (st : List (List ℕ)) → sum_over f g + sums f st ≡ due_sum f (due_of [] g st)
unfolding sum_over
sum_is f (c ∷ r) st = omega arith
sum_is f [] st = omega (arith, stack_sum f st)

stack_flat : (f : ℕ → List ℕ) (st : List (List ℕ)) → flats f st ≡ due_flat f (due_on_stack st)
stack_flat f [] = refl
stack_flat f ([] ∷ st) = stack_flat f st
stack_flat f ((c ∷ r) ∷ st) = append_assoc (f c) (flat f r) (flats f st)

flat_is : (f : ℕ → List ℕ) (g : List ℕ) (st : List (List ℕ)) → flat f g ++ flats f st ≡ due_flat f (due_of [] g st)
flat_is f (c ∷ r) st = append_assoc (f c) (flat f r) (flats f st)
flat_is f [] st = stack_flat f st

module _ (h g : List ℕ) (st : List (List ℕ)) (c : ℕ) (r : List ℕ) (u : List (List ℕ)) (e : due_of h g st ≡ test c r u) where
  pub test_sum : (f : ℕ → ℕ) → sum_over f g + sums f st ≡ f c + (sum_over f r + sums f u)
  test_sum f = sum_is f g st ∙ ap (due_sum f) (no_hand h g st _ (test_hand h g st c r u e) e)

  pub test_flat : (f : ℕ → List ℕ) → flat f g ++ flats f st ≡ f c ++ (flat f r ++ flats f u)
  test_flat f = flat_is f g st ∙ ap (due_flat f) (no_hand h g st _ (test_hand h g st c r u e) e)

pub none_flat : (h g : List ℕ) (st : List (List ℕ)) → due_of h g st ≡ nothing → (f : ℕ → List ℕ) → flat f g ++ flats f st ≡ []
none_flat h g st e f = flat_is f g st ∙ ap (due_flat f) (no_hand h g st _ (none_hand h g st e) e)
