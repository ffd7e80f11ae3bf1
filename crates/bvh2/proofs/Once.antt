-- Where no link leads outside, cause 7 fails to hold exactly if the words are read as a tree with each node and each position once.
use mathlib.Core.Path.{◌≡◌, refl, sym, ◌∙◌}
use mathlib.Core.Logic.{◌⊎◌, inl, inr}
use mathlib.Core.Bool.{Bool, true, false}
use mathlib.Core.List.{List}
use Prim.Native.Nat.{ℕ, ◌-◌, ◌<◌}
use native.Mathlib.Omega.{arith}
use lib.Dec.{eqb}
use Rattle.lists.specs.Counts.{count}
use Rattle.lists.proofs.Counts.{Some, none, some, some?}
use Rattle.lists.proofs.Tells.{Tells, fails, told, denied, tells_as, eqb_tells, and_tells, below_tells, where_fails}
use Rattle.bvh2.specs.Tree.{Tree, leaf, inner, labels, positions}
use Rattle.bvh2.specs.Words.{tree_nodes, Link, children, position, malformed, link_at, tree_of}
use Rattle.bvh2.specs.Causes.{Reaches, LeafHolds, ExactlyOne, Cause, length_unfit, too_many, link_outside, box_refused, not_one_path}
use Rattle.bvh2.specs.Causes.{too_deep, not_one_leaf}
use Rattle.bvh2.specs.FirstCause.{is_position, is_whole, each_once, is_tree}
use Rattle.bvh2.specs.Decoded.{AllRead, LabelsWithin}
use Rattle.bvh2.proofs.Reading.{children_position, position_malformed, same_position}
use Rattle.bvh2.proofs.Counts.{label_count, position_count, count-labels, count-positions}
use Rattle.bvh2.proofs.Paths.{AllInside, within_inside, leads, at_path, at_short, Long, whole_or_long}
use Rattle.bvh2.proofs.PathCounts.{at_counts, some_path, one_path, Two, two_paths}
use Rattle.bvh2.proofs.Positions.{keeps_link, at_keeps, keeps_below, keeps_position, some_leaf, one_leaf, two-leaves}

-- a tree with each label below m and each position below n once
pub record Once (ws : List ℕ) (n : ℕ) : Type 0 where
  pub whole : AllRead ws (tree_of ws)
  pub nodes : (v : ℕ) → v < tree_nodes n → count v (labels (tree_of ws)) ≡ 1
  pub held : (p : ℕ) → p < n → count p (positions (tree_of ws)) ≡ 1

-- the tests tell so
pub position_tells : (p : ℕ) (l : Link) → Tells (l ≡ position p) (is_position p l)
unfolding is_position
position_tells p (children f) = fails (λ e. children_position refl e)
position_tells p (position q) = tells_as (eqb_tells p q) (λ e. rw e) (λ e. same_position e refl)
position_tells p malformed = fails (λ e. position_malformed e refl)

pub whole_tells : (ws : List ℕ) (t : Tree ℕ) → Tells (AllRead ws t) (is_whole ws t)
unfolding AllRead is_whole
whole_tells ws (leaf v b p) = position_tells p (link_at ws v)
whole_tells ws (inner v b l r) = and_tells (whole_tells ws l) (whole_tells ws r)

each_tells : (k : ℕ) (l : List ℕ) → Tells ((x : ℕ) → x < k → count x l ≡ 1) (each_once k l)
unfolding each_once
each_tells k l = below_tells (λ x. count x l ≡ 1) (λ x. eqb (count x l) 1) (λ x. eqb_tells (count x l) 1) k

pub once_tells : (ws : List ℕ) (n : ℕ) → Tells (Once ws n) (is_tree n ws (tree_of ws))
unfolding is_tree
once_tells ws n =
    let t = tree_of ws in
    tells_as (and_tells (and_tells (whole_tells ws t) (each_tells (tree_nodes n) (labels t))) (each_tells n (positions t)))
    (λ h. record { whole = h.0.0; nodes = h.0.1; held = h.1 })
    (λ h. ((h.whole, h.nodes), h.held))

-- ---- no cause 7 holds of such a tree
module _ (ws : List ℕ) (n : ℕ) (h : Once ws n) where
  labelled : (v : ℕ) → v < tree_nodes n → label_count v (tree_of ws) ≡ 1
  labelled v l = sym (count-labels v (tree_of ws)) ∙ h.nodes v l

  placed : (p : ℕ) → p < n → position_count p (tree_of ws) ≡ 1
  placed p l = sym (count-positions p (tree_of ws)) ∙ h.held p l

  one_reaches : (v : ℕ) → v < tree_nodes n → ExactlyOne (Reaches ws v)
  one_reaches v l =
      let c = labelled v l in
      let q = some_path (tree_of ws) v (omega arith) in
      (q.0, leads ws 127 0 q.0 v q.1, λ r g. one_path (tree_of ws) v (omega arith) r q.0 (at_path ws 127 0 h.whole r v g) q.1)

  one_holds : (p : ℕ) → AllInside ws n → p < n → ExactlyOne (LeafHolds ws n p)
  one_holds p f l =
      let c = placed p l in
      let x = some_leaf (tree_of ws) p (omega arith) in (
        x.0,
        (
          keeps_below (tree_nodes n) n (tree_of ws) x.0 p (within_inside ws n f 127 0 (omega arith)) x.1,
          keeps_link ws (tree_of ws) h.whole
              x.0 p x.1,
        ),
        λ y g.
            let d = labelled y g.0 in
            let q = some_path (tree_of ws) y (omega arith) in
            one_leaf (tree_of ws) p (omega arith) y x.0 (at_keeps ws 127 0 h.whole q.0 y p q.1 g.1) x.1,
      )

  pub no_seven : AllInside ws n → (k : ℕ) → 6 < k → Cause ws n k → ⊥
  no_seven f k l (length_unfit a) = omega arith
  no_seven f k l (too_many a) = omega arith
  no_seven f k l (link_outside v a b) = omega arith
  no_seven f k l (box_refused v a b) = omega arith
  no_seven f k l (not_one_path v a b) = b (one_reaches v a)
  no_seven f k l (too_deep v q a b c) = let i = at_short ws 127 0 q v (at_path ws 127 0 h.whole q v b) in omega arith
  no_seven f k l (not_one_leaf p a b) = b (one_holds p f a)

-- ---- and it holds of any other
two-one : {A : Type 0} {P : A → Type 0} → Two P → (x : A) → ((y : A) → P y → y ≡ x) → ⊥
two-one t x h = t.differ (h t.first t.has ∙ sym (h t.second t.also))

module _ (ws : List ℕ) (n : ℕ) (f : AllInside ws n) (pos : 0 < n) (w : AllRead ws (tree_of ws)) where
  reached_once : (v : ℕ) → v < tree_nodes n → ExactlyOne (Reaches ws v) → count v (labels (tree_of ws)) ≡ 1
  reached_once v l u = count-labels v (tree_of ws) ∙ pick (some? (label_count v (tree_of ws) - 1))
    where
      pick : Some (label_count v (tree_of ws) - 1) → label_count v (tree_of ws) ≡ 1
      pick (none e) = let low = at_counts (tree_of ws) u.0 v (at_path ws 127 0 w u.0 v u.1) in omega arith
      pick (some e) = absurd (two-one (two_paths (tree_of ws) v (omega arith)) u.0 (λ q a. u.2 q (leads ws 127 0 q v a)))

  held_once : ((v : ℕ) → v < tree_nodes n → count v (labels (tree_of ws)) ≡ 1) → (p : ℕ) → p < n → ExactlyOne (LeafHolds ws n p)
      → count p (positions (tree_of ws)) ≡ 1
  held_once c p l u = count-positions p (tree_of ws) ∙ pick (some? (position_count p (tree_of ws) - 1))
    where
      inside : LabelsWithin (tree_nodes n) n (tree_of ws)
      inside = within_inside ws n f 127 0 (omega arith)

      most : (x : ℕ) → x < tree_nodes n → label_count x (tree_of ws) ≡ 1
      most x k = sym (count-labels x (tree_of ws)) ∙ c x k

      pick : Some (position_count p (tree_of ws) - 1) → position_count p (tree_of ws) ≡ 1
      pick (none e) =
          let d = most u.0 u.1.0 in
          let q = some_path (tree_of ws) u.0 (omega arith) in
          let low = keeps_position (tree_of ws) u.0 p (at_keeps ws 127 0 w q.0 u.0 p q.1 u.1.1) in
          omega arith
      pick (some e) =
          absurd (two-one (two-leaves (tree_nodes n) n (tree_of ws) p inside (λ x k. let d = most x k in omega arith) (omega arith)) u.0
          (λ x k. u.2 x (keeps_below (tree_nodes n) n (tree_of ws) x p inside k, keeps_link ws (tree_of ws) w x p k)))

  whole_cases : Once ws n ⊎ Cause ws n 7
  unfolding each_once
  whole_cases = first (each_once (tree_nodes n) (labels (tree_of ws))) refl (each_once n (positions (tree_of ws))) refl
    where
      first : (a : Bool) → each_once (tree_nodes n) (labels (tree_of ws)) ≡ a → (b : Bool) → each_once n (positions (tree_of ws)) ≡ b
          → Once ws n ⊎ Cause ws n 7
      first true i true j = inl (record {
        whole = w;
        nodes = told (each_tells (tree_nodes n) (labels (tree_of ws))) i;
        held = told
            (each_tells n (positions (tree_of ws))) j;
      })
      first false i b j =
          let u = where_fails (λ x. eqb (count x (labels (tree_of ws))) 1) (tree_nodes n) i in
          inr (not_one_path u.0 u.1 (λ o. denied (eqb_tells (count u.0 (labels (tree_of ws))) 1) u.2 (reached_once u.0 u.1 o)))
      first true i false j =
          let u = where_fails (λ x. eqb (count x (positions (tree_of ws))) 1) n j in
          inr (not_one_leaf u.0 u.1 (λ o. denied (eqb_tells (count u.0 (positions (tree_of ws))) 1) u.2
          (held_once (told (each_tells (tree_nodes n) (labels (tree_of ws))) i) u.0 u.1 o)))

pub once_or_seven : (ws : List ℕ) (n : ℕ) → AllInside ws n → 0 < n → Once ws n ⊎ Cause ws n 7
once_or_seven ws n f pos = pick (whole_or_long ws n f 127 0 (omega arith))
  where
    pick : AllRead ws (tree_of ws) ⊎ Long ws n 127 0 → Once ws n ⊎ Cause ws n 7
    pick (inl w) = whole_cases ws n f pos w
    pick (inr g) = let e = g.edges in inr (too_deep g.end g.path g.node g.goes (omega arith))
