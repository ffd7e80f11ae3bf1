-- The computed number is that of the first cause of specs/Causes, and 0 exactly if the tree is accepted.
use mathlib.Core.Path.{◌≡◌, refl, sym, ◌∙◌}
use mathlib.Core.Logic.{◌⊎◌, inl, inr, ◌↔◌}
use mathlib.Core.Bool.{Bool, true, false}
use mathlib.Core.List.{List}
use Prim.Native.Nat.{ℕ, zero, suc, ◌+◌, ◌*◌, ◌<◌}
use native.Mathlib.Omega.{arith}
use lib.Dec.{T}
use lib.ListN.{length}
use Rattle.lists.proofs.Tells.{Tells, passes, fails, clash, told, denied, tells_true, tells_false, true_tells}
use Rattle.lists.proofs.Tells.{eqb_tells, leb_tells, ltb_tells, below_tells, where_fails}
use Rattle.causes.specs.Causes.{place_of, First}
use Rattle.causes.proofs.Causes.{Passed, passed_none, sorted, none_passed, passed_parts}
use Rattle.causes.proofs.First.{Shows, Fails, passed_fails, shows_append, fails_parts, first_none, first_is}
use Rattle.aabb.specs.Aabb.{accepted_box}
use Rattle.bvh2.specs.Words.{tree_nodes, Link, children, position, malformed, link_at, box_at, tree_of}
use Rattle.bvh2.specs.Causes.{LinkInside, Cause, length_unfit, too_many, link_outside, box_refused, not_one_path, too_deep, not_one_leaf}
use Rattle.bvh2.specs.Causes.{TreeSized}
use Rattle.bvh2.specs.Causes.{Accepted}
use Rattle.bvh2.specs.FirstCause.{size_conditions, is_inside, links_inside, boxes_accepted, is_tree, structure_conditions, tree_conditions}
use Rattle.bvh2.specs.FirstCause.{sizes_cause, structure_cause, tree_cause}
use Rattle.bvh2.proofs.Paths.{AllInside}
use Rattle.bvh2.proofs.Once.{Once, once_tells, no_seven, once_or_seven}

-- every box is accepted: cause 6 does not hold
abbrev pub AllAccepted : List ℕ → ℕ → Type 0
AllAccepted ws n = (v : ℕ) → v < tree_nodes n → accepted_box (box_at ws v) ≡ true

-- ---- what each test tells
pub inside_tells : (n : ℕ) (l : Link) → Tells (LinkInside n l) (is_inside n l)
unfolding LinkInside is_inside
inside_tells n (children f) = ltb_tells (f + 1) (tree_nodes n)
inside_tells n (position p) = ltb_tells p n
inside_tells n malformed = fails (λ h. h)

pub all_inside_tells : (ws : List ℕ) (n : ℕ) → Tells (AllInside ws n) (links_inside ws n)
all_inside_tells ws n = below_tells (λ v. LinkInside n (link_at ws v)) (λ v. is_inside n (link_at ws v)) (λ v. inside_tells n (link_at ws v))
    (tree_nodes n)

pub all_accepted_tells : (ws : List ℕ) (n : ℕ) → Tells (AllAccepted ws n) (boxes_accepted ws n)
all_accepted_tells ws n = below_tells (λ v. accepted_box (box_at ws v) ≡ true) (λ v. accepted_box (box_at ws v))
    (λ v. true_tells (accepted_box (box_at ws v))) (tree_nodes n)

-- ---- causes 1 and 2
pub sizes_passed : (ws : List ℕ) (n : ℕ) → TreeSized ws n → Passed (size_conditions (length ws) n)
unfolding size_conditions
sizes_passed ws n s = (tells_true (eqb_tells (length ws) (tree_nodes n * 7)) s.fit, (tells_true (leb_tells n 65536) s.few, tt))

pub sizes_fit_lem : (ws : List ℕ) (n : ℕ) → Passed (size_conditions (length ws) n) → TreeSized ws n
unfolding size_conditions
sizes_fit_lem ws n p = record { fit = told (eqb_tells (length ws) (tree_nodes n * 7)) p.0; few = told (leb_tells n 65536) p.1.0 }

-- the number of sizes is 0 exactly if neither holds
pub sizes_none : (ws : List ℕ) (n : ℕ) → sizes_cause (length ws) n ≡ 0 ↔ TreeSized ws n
unfolding size_conditions sorted
sizes_none ws n = (
  λ e. sizes_fit_lem ws n (none_passed 0 (size_conditions (length ws) n) tt e),
  λ s. passed_none (size_conditions (length ws) n) (sizes_passed ws n s),
)

-- ---- a test that fails shows its cause
pub sizes_show : (ws : List ℕ) (n : ℕ) → Shows (Cause ws n) (size_conditions (length ws) n)
unfolding size_conditions
sizes_show ws n = (
  λ e. length_unfit (denied (eqb_tells (length ws) (tree_nodes n * 7)) e),
  λ p. (λ e. too_many (omega (arith, denied (leb_tells n 65536) e)), λ q. tt),
)

pub structure_shows : (ws : List ℕ) (n : ℕ) → Shows (Cause ws n) (structure_conditions ws n)
unfolding structure_conditions
structure_shows ws zero = tt
structure_shows ws (suc n) = (five, λ f. (six, λ a. (seven (told (all_inside_tells ws (suc n)) f), λ o. tt)))
  where
    five : links_inside ws (suc n) ≡ false → Cause ws (suc n) 5
    five e =
        let u = where_fails (λ v. is_inside (suc n) (link_at ws v)) (tree_nodes (suc n)) e in
        link_outside u.0 u.1 (denied (inside_tells (suc n) (link_at ws u.0)) u.2)

    six : boxes_accepted ws (suc n) ≡ false → Cause ws (suc n) 6
    six e = let u = where_fails (λ v. accepted_box (box_at ws v)) (tree_nodes (suc n)) e in box_refused u.0 u.1 u.2

    seven : AllInside ws (suc n) → is_tree (suc n) ws (tree_of ws) ≡ false → Cause ws (suc n) 7
    seven f e = pick (once_or_seven ws (suc n) f (omega arith))
      where
        pick : Once ws (suc n) ⊎ Cause ws (suc n) 7 → Cause ws (suc n) 7
        pick (inl o) = absurd (denied (once_tells ws (suc n)) e o)
        pick (inr c) = c

-- ---- a cause that holds makes a test fail, no later than its own
links_fail : (ws : List ℕ) (n v : ℕ) → v < tree_nodes n → (LinkInside n (link_at ws v) → ⊥) → Fails 5 (structure_conditions ws n)
unfolding structure_conditions place_of
links_fail ws zero v l h = absurd (omega arith)
links_fail ws (suc n) v l h = inl (tells_false (all_inside_tells ws (suc n)) (λ f. h (f v l)), tt)

boxes_fail : (ws : List ℕ) (n v : ℕ) → v < tree_nodes n → accepted_box (box_at ws v) ≡ false → Fails 6 (structure_conditions ws n)
unfolding structure_conditions place_of
boxes_fail ws zero v l e = absurd (omega arith)
boxes_fail ws (suc n) v l e = inr (inl (tells_false (all_accepted_tells ws (suc n)) (λ a. clash (sym e ∙ a v l)), tt))

tree_fails : (ws : List ℕ) (n : ℕ) → 0 < n → Cause ws n 7 → Fails 7 (structure_conditions ws n)
unfolding structure_conditions place_of
tree_fails ws zero p c = absurd (omega arith)
tree_fails ws (suc n) p c = go (links_inside ws (suc n)) refl (all_inside_tells ws (suc n))
  where
    go : (b : Bool) → links_inside ws (suc n) ≡ b → Tells (AllInside ws (suc n)) b → Fails 7 (structure_conditions ws (suc n))
    go false e (fails f) = inl (e, tt)
    go true e (passes f) = inr (inr (inl (tells_false (once_tells ws (suc n)) (λ o. no_seven ws (suc n) o f 7 (omega arith) c), tt)))

pub cause_fails : (ws : List ℕ) (n k : ℕ) → Cause ws n k → Fails k (tree_conditions ws n)
unfolding size_conditions place_of
cause_fails ws n k (length_unfit h) = inl (tells_false (eqb_tells (length ws) (tree_nodes n * 7)) h, tt)
cause_fails ws n k (too_many h) = inr (inl (tells_false (leb_tells n 65536) (λ l. omega arith), tt))
cause_fails ws n k (link_outside v l h) = inr (inr (links_fail ws n v l h))
cause_fails ws n k (box_refused v l e) = inr (inr (boxes_fail ws n v l e))
cause_fails ws n k (not_one_path v l h) = inr (inr (tree_fails ws n (omega arith) (not_one_path v l h)))
cause_fails ws n k (too_deep v q l r h) = inr (inr (tree_fails ws n (omega arith) (too_deep v q l r h)))
cause_fails ws n k (not_one_leaf p l h) = inr (inr (tree_fails ws n (omega arith) (not_one_leaf p l h)))

-- ---- both ways
tree_sorted : (ws : List ℕ) (n : ℕ) → T (sorted 0 (tree_conditions ws n))
unfolding size_conditions structure_conditions sorted
tree_sorted ws zero = tt
tree_sorted ws (suc n) = tt

structure_sorted : (ws : List ℕ) (n : ℕ) → T (sorted 0 (structure_conditions ws n))
unfolding structure_conditions sorted
structure_sorted ws zero = tt
structure_sorted ws (suc n) = tt

tree_shows : (ws : List ℕ) (n : ℕ) → Shows (Cause ws n) (tree_conditions ws n)
tree_shows ws n = shows_append (Cause ws n) (size_conditions (length ws) n) (structure_conditions ws n) (sizes_show ws n) (λ p. structure_shows ws n)

pub accepted_none : (ws : List ℕ) (n : ℕ) → tree_cause ws n ≡ 0 ↔ Accepted ws n
accepted_none ws n = first_none (Cause ws n) (tree_conditions ws n) (tree_sorted ws n) (tree_shows ws n) (cause_fails ws n)

pub first_cause_lem : (ws : List ℕ) (n k : ℕ) → 0 < k → tree_cause ws n ≡ k ↔ First (Cause ws n) k
first_cause_lem ws n k p =
    let f = first_is (Cause ws n) (tree_conditions ws n) (tree_sorted ws n) (tree_shows ws n) (cause_fails ws n) k in
    (λ e. f.0 (e, p), λ h. (f.1 h).0)

-- the number of structure, where neither cause 1 nor cause 2 holds
pub structure_none : (ws : List ℕ) (n : ℕ) → TreeSized ws n → structure_cause ws n ≡ 0 ↔ Accepted ws n
structure_none ws n s =
    first_none (Cause ws n) (structure_conditions ws n) (structure_sorted ws n) (structure_shows ws n)
    (λ k c. late k (fails_parts k (size_conditions (length ws) n) (structure_conditions ws n) (cause_fails ws n k c)))
  where
    late : (k : ℕ) → Fails k (size_conditions (length ws) n) ⊎ Fails k (structure_conditions ws n) → Fails k (structure_conditions ws n)
    late k (inl f) = absurd (passed_fails k (size_conditions (length ws) n) (sizes_passed ws n s) f)
    late k (inr f) = f

-- what holds of the words of an accepted tree
pub record Facts (ws : List ℕ) (n : ℕ) : Type 0 where
  pub sized : TreeSized ws n
  pub inside : AllInside ws n
  pub boxes : AllAccepted ws n
  pub once : Once ws n

pub facts_accepted : (ws : List ℕ) (n : ℕ) → Facts ws n → Accepted ws n
unfolding structure_conditions
facts_accepted ws n h = (structure_none ws n h.sized).0 (passed_none (structure_conditions ws n) (passed n h))
  where
    passed : (n : ℕ) → Facts ws n → Passed (structure_conditions ws n)
    passed zero h = tt
    passed (suc n) h =
        let o = tells_true (once_tells ws (suc n)) h.once in
        (tells_true (all_inside_tells ws (suc n)) h.inside, (tells_true (all_accepted_tells ws (suc n)) h.boxes, (o, tt)))

-- an accepted tree meets the causes' opposites, though `Accepted` only denies the causes
accepted_passed : (ws : List ℕ) (n : ℕ) → Accepted ws n → Passed (size_conditions (length ws) n) × Passed (structure_conditions ws n)
accepted_passed ws n a =
    passed_parts (size_conditions (length ws) n) (structure_conditions ws n)
    (none_passed 0 (tree_conditions ws n) (tree_sorted ws n) ((accepted_none ws n).1 a))

pub accepted_sized : (ws : List ℕ) (n : ℕ) → Accepted ws n → TreeSized ws n
accepted_sized ws n a = sizes_fit_lem ws n (accepted_passed ws n a).0

pub accepted_facts : (ws : List ℕ) (n : ℕ) → Accepted ws n → 0 < n → Facts ws n
unfolding structure_conditions
accepted_facts ws zero a p = absurd (omega arith)
accepted_facts ws (suc n) a p =
    let h = (accepted_passed ws (suc n) a).1 in
    record {
      sized = accepted_sized ws (suc n) a;
      inside = told (all_inside_tells ws (suc n)) h.0;
      boxes = told (all_accepted_tells ws (suc n)) h.1.0;
      once = told (once_tells ws (suc n)) h.1.1.0;
    }
