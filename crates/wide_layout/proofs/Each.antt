-- Properties of every node of a list, and nodes found by their numbers.
use mathlib.Core.List.{List, [], ◌∷◌, ◌++◌}
use mathlib.Core.Path.{◌≡◌, refl, sym, ap, ◌∙◌, subst}
use Prim.Native.Nat.{ℕ, ◌<◌, ◌≤◌}
use native.Mathlib.Decide.{ℕ_discrete}
use native.Mathlib.Omega.{arith}
use borrow.Author.Tests.{eq-eqb, ne_eqb}
use Rattle.lists.specs.Counts.{same, count}
use Rattle.lists.proofs.Counts.{same_self, same_apart}
use Rattle.soundness.proofs.Range.{range_most}
use Rattle.wide_layout.specs.Wide.{Wide}
use Rattle.wide_layout.specs.Layout.{Entry, entry, layout, numbers, EachEntry, nodes}
use Rattle.wide_layout.specs.Shape.{entry_numbered, layout_entry}
use Rattle.wide_layout.proofs.Numbers.{numbers_once, number_below}

pub each_append : (P : Entry → Type 0) (a b : List Entry) → EachEntry P a → EachEntry P b → EachEntry P (a ++ b)
each_append P [] b h k = k
each_append P (e ∷ a) b h k = (h.0, each_append P a b h.1 k)

pub each_left : (P : Entry → Type 0) (a b : List Entry) → EachEntry P (a ++ b) → EachEntry P a
each_left P [] b h = tt
each_left P (e ∷ a) b h = (h.0, each_left P a b h.1)

pub each_right : (P : Entry → Type 0) (a b : List Entry) → EachEntry P (a ++ b) → EachEntry P b
each_right P [] b h = h
each_right P (e ∷ a) b h = each_right P a b h.1

pub each_map : (P Q : Entry → Type 0) (r : List Entry) → ((e : Entry) → P e → Q e) → EachEntry P r → EachEntry Q r
each_map P Q [] f h = tt
each_map P Q (e ∷ r) f h = (f e h.0, each_map P Q r f h.1)

pub each_both : (P Q : Entry → Type 0) (r : List Entry) → EachEntry P r → EachEntry Q r → EachEntry (λ e. P e × Q e) r
each_both P Q [] h k = tt
each_both P Q (e ∷ r) h k = ((h.0, k.0), each_both P Q r h.1 k.1)

-- ---- by number

-- a number that is counted is some node's
pub find : (P : Entry → Type 0) (r : List Entry) (v : ℕ) → 0 < count v (numbers r) → EachEntry P r → (e : Entry) × (e.number ≡ v) × P e
unfolding count
find P [] v h k = absurd (omega arith)
find P (e ∷ r) v h k = go (ℕ_discrete v e.number) (find P r v)
  where
    go : Dec (v ≡ e.number) → (0 < count v (numbers r) → EachEntry P r → (x : Entry) × (x.number ≡ v) × P x) → (x : Entry) × (x.number ≡ v) × P x
    go (yes q) f = (e, sym q, k.0)
    go (no q) f = f (omega (arith, same_apart v e.number q)) k.1

pub find_node : (P : Entry → Type 0) (t : Wide) (v : ℕ) → v < nodes t → EachEntry P (layout t) → (e : Entry) × (e.number ≡ v) × P e
find_node P t v h k = find P (layout t) v (omega (arith, number_below t v h)) k

-- no node's number is v
pub none_numbered : (r : List Entry) (v : ℕ) → count v (numbers r) ≡ 0 → EachEntry (λ e. ¬ (e.number ≡ v)) r
unfolding count
none_numbered [] v h = tt
none_numbered (e ∷ r) v h = (λ q. omega (arith, same_self v, ap (λ (x : ℕ). same v x) q), none_numbered r v (omega arith))

numbered_first : (e d : Entry) (r : List Entry) → entry_numbered (e ∷ r) d e.number ≡ e
numbered_first e d r = rw (eq-eqb e.number e.number refl, entry_numbered)

numbered_later : (e d : Entry) (r : List Entry) (v : ℕ) → ¬ (v ≡ e.number) → entry_numbered (e ∷ r) d v ≡ entry_numbered r d v
numbered_later e d r v h = rw (ne_eqb e.number v (λ q. h (sym q)), entry_numbered)

-- where no number is taken twice, a node is found by its number
pub numbered_each : (r : List Entry) (d : Entry) → ((x : ℕ) → count x (numbers r) ≤ 1) → EachEntry (λ e. entry_numbered r d e.number ≡ e) r
unfolding count
numbered_each [] d h = tt
numbered_each (e ∷ r) d h = (
  numbered_first e d r,
  each_map (λ x. (entry_numbered r d x.number ≡ x) × ¬ (x.number ≡ e.number)) (λ x. entry_numbered (e ∷ r) d x.number ≡ x) r
      (λ x k. numbered_later e d r x.number k.1 ∙ k.0)
      (each_both (λ x. entry_numbered r d x.number ≡ x) (λ x. ¬ (x.number ≡ e.number)) r
      (numbered_each r d (λ x. omega (arith, h x)))
      (none_numbered r e.number (omega (arith, h e.number, same_self e.number)))),
)

pub node-each : (t : Wide) → EachEntry (λ e. layout_entry t e.number ≡ e) (layout t)
unfolding layout_entry
node-each t = numbered_each (layout t) (entry t.box t.slots 0 0 0 0 1 0) (λ x. omega (arith, numbers_once t x, range_most x 0 (nodes t)))

-- node v has number v, and what every node has
pub node-number : (t : Wide) (v : ℕ) → v < nodes t → (layout_entry t v).number ≡ v
node-number t v h =
    let r = find_node (λ e. layout_entry t e.number ≡ e) t v h (node-each t) in
    ap (λ (e : Entry). e.number) (ap (layout_entry t) (sym r.1) ∙ r.2) ∙ r.1

pub node_has : (P : Entry → Type 0) (t : Wide) → EachEntry P (layout t) → (v : ℕ) → v < nodes t → P (layout_entry t v)
node_has P t k v h =
    let r = find_node (λ e. (layout_entry t e.number ≡ e) × P e) t v h
    (each_both (λ e. layout_entry t e.number ≡ e) P (layout t) (node-each t) k) in
    subst P (sym (ap (layout_entry t) (sym r.1) ∙ r.2.0)) r.2.1
