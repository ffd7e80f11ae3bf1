-- The causes of a refused join, and the tests that tell of them: one that fails shows its cause, and one fails where its cause holds.
use mathlib.Core.Bool.{Bool, true, false, ◌&&◌}
use mathlib.Core.List.{List, [], ◌∷◌, ◌++◌}
use mathlib.Core.Logic.{◌⊎◌, inl, inr, ◌↔◌}
use mathlib.Core.Path.{◌≡◌, refl, sym, ap, ◌∙◌}
use Prim.Native.Nat.{ℕ, zero, suc, ◌+◌, ◌*◌, ◌<◌, max}
use native.Mathlib.Decide.{dec_lt}
use native.Mathlib.Omega.{arith}
use borrow.Author.Tests.{leb-false, lt-leb}
use lib.Dec.{T, eqb, leb}
use lib.ListN.{length, get_or}
use Rattle.lists.specs.Below.{all_below}
use Rattle.lists.proofs.Tells.{Tells, passes, both_pass, clash, told, denied, tells_false, tells_as, true_tells}
use Rattle.lists.proofs.Tells.{eqb_tells, leb_tells, and_tells, where_fails, one_fails}
use Rattle.causes.specs.Causes.{Condition, ◌unless◌, place_of}
use Rattle.causes.proofs.Causes.{sorted}
use Rattle.causes.proofs.First.{Shows, Fails, shows_append, fails_first, fails_later, fails_parts}
use Rattle.bvh2.specs.Tree.{depth}
use Rattle.bvh2.specs.Words.{tree_nodes, tree_at, tree_of}
use Rattle.bvh2.specs.Causes.{Cause, length_unfit}
use Rattle.bvh2.specs.FirstCause.{links_inside, boxes_accepted, size_conditions, structure_conditions}
use Rattle.bvh2.specs.Decoded.{AllRead}
use Rattle.bvh2.proofs.First.{structure_shows, cause_fails, all_inside_tells}
use Rattle.bvh2.proofs.Once.{Once, once_tells}
use Rattle.bvh2.proofs.Paths.{AllInside, at_path, at_short, Long, whole_or_long}
use Rattle.bvh2.proofs.Stands.{depth_tells}
use Rattle.join.specs.Join.{JoinCall, first_leaves, second_leaves}
use Rattle.join.specs.Join.{room_for, size_tests, tree_or_none, edge_to_spare, tree_tests, sums_fit, join_tests}
use Rattle.join_laws.specs.Joined.{HasRoom}
use Rattle.join_laws.specs.Refusals.{TooDeep, DeepPath, JoinRefusal, first_refused, second_refused, leaves_over}
use Rattle.join_laws.specs.Refusals.{marks_short, words_short, indices_short, first_deep, second_deep, sum_over_lem}

-- ---- two tests in one

-- it fails if either does,
either_first : {a : Bool} (b : Bool) → a ≡ false → a && b ≡ false
either_first b e = ap (λ (x : Bool). x && b) e

either_second : (a : Bool) {b : Bool} → b ≡ false → a && b ≡ false
either_second a {b} e = tells_false (and_tells (true_tells a) (true_tells b)) (λ h. clash (sym e ∙ h.1))

-- and shows by failing what the first does, or, where that passes, what the second does
either_shows : {A : Type 0} (a b : Bool) → (a ≡ false → A) → (a ≡ true → b ≡ false → A) → a && b ≡ false → A
either_shows true b f g e = g refl e
either_shows false b f g e = f refl

-- ---- a path of more than 126 edges: there is one exactly if the tree is deeper than that

-- the tree is read whole
module _ (ws : List ℕ) (n : ℕ) (whole : AllRead ws (tree_of ws)) where
  deep_path_depth : DeepPath ws n → 126 < depth (tree_of ws)
  deep_path_depth p = go (dec_lt 126 (depth (tree_of ws)))
    where
      go : Dec (126 < depth (tree_of ws)) → 126 < depth (tree_of ws)
      go (yes h) = h
      go (no h) =
          let short = (depth_tells ws 127 126 0 whole).1 (omega arith) in
          let i = at_short ws 126 0 p.path p.node (at_path ws 126 0 short p.path p.node p.leads) in
          absurd (omega (arith, p.edges))

  depth_deep_path : AllInside ws n → 0 < n → 126 < depth (tree_of ws) → DeepPath ws n
  depth_deep_path inside some h = go (whole_or_long ws n inside 126 0 (omega arith))
    where
      go : AllRead ws (tree_at ws 126 0) ⊎ Long ws n 126 0 → DeepPath ws n
      go (inl short) = absurd (omega (arith, (depth_tells ws 127 126 0 whole).0 short))
      go (inr g) = record { node = g.end; path = g.path; there = g.node; leads = g.goes; edges = omega (arith, g.edges) }

-- ---- one list of tests against another

-- each test of the first list has its own in the second, of the same number, which fails wherever it does
abbrev FailsWith : List Condition → List Condition → Type 0
FailsWith [] m = Unit {0}
FailsWith (k unless a ∷ l) [] = ⊥
FailsWith (k unless a ∷ l) (j unless b ∷ m) = (k ≡ j) × (a ≡ false → b ≡ false) × FailsWith l m

fails_with : (i : ℕ) (l m : List Condition) → FailsWith l m → Fails i l → Fails i m
fails_with i [] m w f = absurd f
fails_with i (k unless a ∷ l) [] w f = absurd w
fails_with i (k unless a ∷ l) (j unless b ∷ m) w (inl f) = inl (w.1 f.0, rw w.0 at f.1)
fails_with i (k unless a ∷ l) (j unless b ∷ m) w (inr f) = inr (fails_with i l m w.2 f)

-- ---- one tree by itself

-- 5 to 7: those of `structureConditions`, written for an empty tree too, where all pass
abbrev own_tests : List ℕ → ℕ → List Condition
own_tests ws n = 5 unless links_inside ws n ∷ 6 unless boxes_accepted ws n ∷ 7 unless tree_or_none ws n ∷ []

own_show : (ws : List ℕ) (n : ℕ) → Shows (Cause ws n) (own_tests ws n)
unfolding structure_conditions tree_or_none all_below
own_show ws zero = (λ e. clash (sym e), λ _. (λ e. clash (sym e), λ _. (λ e. clash (sym e), λ _. tt)))
own_show ws (suc n) = structure_shows ws (suc n)

own_fail : (ws : List ℕ) (n k : ℕ) → Fails k (structure_conditions ws n) → Fails k (own_tests ws n)
unfolding structure_conditions tree_or_none
own_fail ws zero k f = absurd f
own_fail ws (suc n) k f = f

-- with leaves it is read once
abbrev pub OnceOrNone : List ℕ → ℕ → Type 0
OnceOrNone ws n = 0 < n → Once ws n

tree_tells : (ws : List ℕ) (n : ℕ) → Tells (OnceOrNone ws n) (tree_or_none ws n)
unfolding tree_or_none
tree_tells ws zero = passes (λ some. absurd (omega arith))
tree_tells ws (suc n) = tells_as (once_tells ws (suc n)) (λ o some. o) (λ f. f (omega arith))

-- there is no edge to spare exactly if both trees have leaves, and the greater depth with the new edge is over 127
edge_lacks : (ws : List ℕ) (n : ℕ) (us : List ℕ) (m : ℕ)
    → edge_to_spare ws n us m ≡ false ↔ (0 < n) × (0 < m) × (127 < suc (max (depth (tree_of ws)) (depth (tree_of us))))
unfolding edge_to_spare
edge_lacks ws zero us m = (λ e. clash (sym e), λ h. absurd (omega (arith, h.0)))
edge_lacks ws (suc n) us zero = (λ e. clash (sym e), λ h. absurd (omega (arith, h.1)))
edge_lacks ws (suc n) us (suc m) =
    let edges = suc (max (depth (tree_of ws)) (depth (tree_of us))) in
    (λ e. (omega arith, omega arith, leb-false edges 127 e), λ h. lt-leb edges 127 h.2)

-- ---- a call

module _ (c : JoinCall) where
  -- the words and the leaves of each tree
  abbrev ws : List ℕ
  ws = c.first

  abbrev n : ℕ
  n = first_leaves c

  abbrev us : List ℕ
  us = c.second

  abbrev m : ℕ
  m = second_leaves c

  -- the tests, in three parts
  abbrev of_sizes : List Condition
  of_sizes = size_tests (length ws) n (length us) m (length c.marks) (length c.words) (length c.indices)

  abbrev of_trees : List Condition
  of_trees = tree_tests ws n us m

  abbrev of_sums : List Condition
  of_sums = 13 unless sums_fit c.panes c.second_indices ∷ []

  pub join_in_order : T (sorted 0 (join_tests c))
  unfolding join_tests size_tests tree_tests sorted
  join_in_order = tt

  -- ---- too deep: by paths and by depths, where each tree that has leaves is read once
  module _ (first_once : OnceOrNone ws n) (second_once : OnceOrNone us m) where
    -- a path of more than 126 edges makes the joined tree too deep,
    pub first_too_deep : 0 < m → DeepPath ws n → TooDeep c
    first_too_deep also p =
        let some : 0 < n = omega (arith, p.there) in
        (some, also, omega (arith, deep_path_depth ws n (first_once some).whole p))

    pub second_too_deep : 0 < n → DeepPath us m → TooDeep c
    second_too_deep some p =
        let also : 0 < m = omega (arith, p.there) in
        (some, also, omega (arith, deep_path_depth us m (second_once also).whole p))

    -- and too deep a tree has one, if no link leads outside
    pub too_deep_refused : AllInside ws n → AllInside us m → TooDeep c → JoinRefusal c 7
    too_deep_refused inside also deep = pick (dec_lt 126 (depth (tree_of ws)))
      where
        pick : Dec (126 < depth (tree_of ws)) → JoinRefusal c 7
        pick (yes h) = first_deep deep.1 (depth_deep_path ws n (first_once deep.0).whole inside deep.0 h)
        pick (no h) = second_deep deep.0 (depth_deep_path us m (second_once deep.1).whole also deep.1 (omega (arith, deep.2)))

  -- ---- a test that fails shows its cause
  sizes_show : Shows (JoinRefusal c) of_sizes
  unfolding size_tests room_for
  sizes_show = (
    either_shows _ _ (λ e. first_refused (length_unfit (denied (eqb_tells _ _) e))) (λ _ e. second_refused (length_unfit (denied (eqb_tells _ _) e))),
    λ _. (
      λ e. leaves_over (leb-false _ _ e),
      λ _. (
        either_shows _ _ (either_shows _ _ (λ e. marks_short (leb-false _ _ e)) (λ _ e. words_short (leb-false _ _ e)))
            (λ _ e. indices_short (leb-false _ _ e)),
        λ _. tt,
      ),
    ),
  )

  edge_shows : (links_inside ws n ≡ true) × (links_inside us m ≡ true) → tree_or_none ws n && tree_or_none us m ≡ true
      → edge_to_spare ws n us m ≡ false → JoinRefusal c 7
  edge_shows links trees e =
      let once = told (and_tells (tree_tells ws n) (tree_tells us m)) trees in
      too_deep_refused once.0 once.1 (told (all_inside_tells ws n) links.0) (told (all_inside_tells us m) links.1)
      ((edge_lacks ws n us m).0 e)

  trees_show : Shows (JoinRefusal c) of_trees
  unfolding tree_tests
  trees_show =
      let f = own_show ws n in
      let s = own_show us m in (
        either_shows _ _ (λ e. first_refused (f.0 e)) (λ _ e. second_refused (s.0 e)),
        λ p. let i = both_pass _ _ p in (
          either_shows _ _ (λ e. first_refused ((f.1 i.0).0 e)) (λ _ e. second_refused ((s.1 i.1).0 e)),
          λ q. let b = both_pass _ _ q in (
            either_shows _ _
                (either_shows _ _ (λ e. first_refused (((f.1 i.0).1 b.0).0 e)) (λ _ e. second_refused (((s.1 i.1).1 b.1).0 e)))
                (edge_shows i),
            λ _. tt,
          ),
        ),
      )

  sums_show : Shows (JoinRefusal c) of_sums
  sums_show = (
    λ e. let u = where_fails (λ i. leb (get_or c.second_indices i 0 + c.panes) 0xffff_ffff) m e in
        sum_over_lem (record { place = u.0; there = u.1; over = leb-false _ _ u.2 }),
    λ _. tt,
  )

  pub join_shows : Shows (JoinRefusal c) (join_tests c)
  unfolding join_tests
  join_shows =
      shows_append (JoinRefusal c) (of_sizes ++ of_trees) of_sums (shows_append (JoinRefusal c) of_sizes of_trees sizes_show (λ _. trees_show))
      (λ _. sums_show)

  -- ---- a cause that holds makes a test fail, no later than its own
  sizes_fail : (k : ℕ) → Fails k of_sizes → Fails k (join_tests c)
  unfolding join_tests
  sizes_fail k f = fails_first k (of_sizes ++ of_trees) of_sums (fails_first k of_sizes of_trees f)

  trees_fail : (k : ℕ) → Fails k of_trees → Fails k (join_tests c)
  unfolding join_tests
  trees_fail k f = fails_first k (of_sizes ++ of_trees) of_sums (fails_later k of_sizes of_trees f)

  -- a cause of one tree, whose own tests have theirs among these
  own_cause_fails : (vs : List ℕ) (k : ℕ) → FailsWith (size_conditions (length vs) k) of_sizes → FailsWith (own_tests vs k) of_trees
      → (j : ℕ) → Cause vs k j → Fails j (join_tests c)
  own_cause_fails vs k sizes trees j q =
      pick (fails_parts j (size_conditions (length vs) k) (structure_conditions vs k) (cause_fails vs k j q))
    where
      pick : Fails j (size_conditions (length vs) k) ⊎ Fails j (structure_conditions vs k) → Fails j (join_tests c)
      pick (inl f) = sizes_fail j (fails_with j (size_conditions (length vs) k) of_sizes sizes f)
      pick (inr f) = trees_fail j (fails_with j (own_tests vs k) of_trees trees (own_fail vs k j f))

  first_fails : (j : ℕ) → Cause ws n j → Fails j (join_tests c)
  unfolding size_conditions size_tests tree_tests
  first_fails =
      own_cause_fails ws n (refl, either_first _, (refl, λ e. lt-leb (n + m) 65536 (omega (arith, leb-false n 65536 e)), tt))
      (refl, either_first _, (refl, either_first _, (refl, λ e. either_first _ (either_first _ e), tt)))

  second_fails : (j : ℕ) → Cause us m j → Fails j (join_tests c)
  unfolding size_conditions size_tests tree_tests
  second_fails =
      own_cause_fails us m
      (refl, either_second (eqb (length ws) (tree_nodes n * 7)), (refl, λ e. lt-leb (n + m) 65536 (omega (arith, leb-false m 65536 e)), tt)) (
        refl,
        either_second (links_inside ws n),
        (refl, either_second (boxes_accepted ws n), (refl, λ e. either_first _ (either_second (tree_or_none ws n) e), tt)),
      )

  -- a path that is too long, where it makes the joined tree too deep
  deep_fails : (OnceOrNone ws n → OnceOrNone us m → TooDeep c) → Fails 7 (join_tests c)
  unfolding tree_tests place_of
  deep_fails h =
      let trees = and_tells (tree_tells ws n) (tree_tells us m) in
      let lacks : OnceOrNone ws n × OnceOrNone us m → edge_to_spare ws n us m ≡ false = λ once. (edge_lacks ws n us m).1 (h once.0 once.1) in
      let seven = tells_false (and_tells trees (true_tells (edge_to_spare ws n us m))) (λ t. clash (sym (lacks t.0) ∙ t.1)) in
      trees_fail 7 (inr (inr (inl (seven, tt))))

  -- a slice that is short
  room_fails : (HasRoom c → ⊥) → Fails 4 (join_tests c)
  unfolding size_tests room_for place_of
  room_fails h =
      let long = and_tells (and_tells (leb_tells _ _) (leb_tells _ _)) (leb_tells _ _) in
      let four = tells_false long (λ r. h (record { marks = r.0.0; words = r.0.1; indices = r.1 })) in
      sizes_fail 4 (inr (inr (inl (four, tt))))

  pub join_fails : (j : ℕ) → JoinRefusal c j → Fails j (join_tests c)
  unfolding join_tests size_tests place_of
  join_fails j (first_refused q) = first_fails j q
  join_fails j (second_refused q) = second_fails j q
  join_fails j (leaves_over h) = sizes_fail 2 (inr (inl (lt-leb (n + m) 65536 h, tt)))
  join_fails j (marks_short h) = room_fails (λ r. omega (arith, h, r.marks))
  join_fails j (words_short h) = room_fails (λ r. omega (arith, h, r.words))
  join_fails j (indices_short h) = room_fails (λ r. omega (arith, h, r.indices))
  join_fails j (first_deep also p) = deep_fails (λ o u. first_too_deep o u also p)
  join_fails j (second_deep some p) = deep_fails (λ o u. second_too_deep o u some p)
  join_fails j (sum_over_lem p) =
      fails_later 13 (of_sizes ++ of_trees) of_sums
      (inl (one_fails (λ i. leb (get_or c.second_indices i 0 + c.panes) 0xffff_ffff) m p.place p.there (lt-leb _ _ p.over), tt))
