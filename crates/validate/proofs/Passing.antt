-- One pass over the nodes in rising order: what the words say after the first i nodes, and what it says of the record where the pass stops.
use mathlib.Core.List.{List}
use mathlib.Core.Logic.{◌⊎◌, inl, inr}
use mathlib.Core.Path.{◌≡◌, refl, sym, ap, ◌∙◌, subst}
use Prim.Native.Nat.{ℕ, zero, suc, ◌+◌, ◌-◌, ◌<◌, ◌≤◌}
use native.Mathlib.Decide.{dec_lt}
use native.Mathlib.Omega.{arith}
use lib.ListN.{get_or}
use Rattle.lists.specs.Sums.{sum}
use Rattle.lists.proofs.Counts.{Same, equal, apart, same?}
use Rattle.lists.proofs.Sums.{sum_cong, sum-zero, sum_grows, sum_stays}
use Rattle.soundness.specs.Range.{in_range}
use Rattle.soundness.specs.Shape.{Shape, ChildOf, parents, positions_held, holders, Level, RangesPlaced}
use Rattle.soundness.specs.Sound.{Sound, Deepest}
use Rattle.soundness.proofs.Range.{in_range_lem, before_range, after_range, range_most, range_none}
use Rattle.soundness.proofs.Once.{one-level}
use Rattle.validate.specs.Marks.{seen, node_marks, NodeMarked, WordTwice}

-- how often the first i nodes mark word k, the first node's own word counted once beforehand
abbrev pub marks : Shape → ℕ → ℕ → ℕ
marks S i k = in_range k 0 1 + sum (λ j. node_marks S j k) i

module _ (S : Shape) where
  -- ---- marks are counts of ranges

  marks_node : (i x : ℕ) → x < S.nodes → marks S i x ≡ in_range x 0 1 + parents S i x
  marks_node i x h =
      ap (λ (z : ℕ). in_range x 0 1 + z)
      (sum_cong (λ j. node_marks S j x) (λ j. in_range x (S.base j) (S.children j)) i
      (λ j l. omega (
        arith,
        sum-zero (λ s. in_range x (S.nodes + S.start j s) (S.count j s)) 8
            (λ s m. before_range x (S.nodes + S.start j s) (S.count j s) (omega arith)),
      )))

  shifted : (m x a n : ℕ) → in_range (m + x) (m + a) n ≡ in_range x a n
  unfolding in_range
  shifted m x a n =
      let e : suc (m + x) - (m + a) ≡ suc x - a = omega arith in
      let f : m + a + n - (m + x) ≡ a + n - x = omega arith in
      rw (e, f)

  -- a range that is empty or ends by m holds nothing from m on
  past : (m x a n : ℕ) → m ≤ x → (0 < n → a + n ≤ m) → in_range x a n ≡ 0
  past m x a zero h f = range_none x a
  past m x a (suc n) h f = after_range x a (suc n) (let z = f (omega arith) in omega arith)

  marks_position : (i x : ℕ) → 0 < S.nodes → ((j : ℕ) → j < i → RangesPlaced S j) → marks S i (S.nodes + x) ≡ holders S i x
  marks_position i x h w =
      let a = after_range (S.nodes + x) 0 1 (omega arith) in
      let b = sum_cong (λ j. node_marks S j (S.nodes + x)) (λ j. positions_held S j x) i
      (λ j l. let c = past S.nodes (S.nodes + x) (S.base j) (S.children j) (omega arith) (w j l).exist in
      let d = sum_cong (λ s. in_range (S.nodes + x) (S.nodes + S.start j s) (S.count j s)) (λ s. in_range x (S.start j s) (S.count j s)) 8
      (λ s m. shifted S.nodes x (S.start j s) (S.count j s)) in
      omega arith) in
      omega arith

  -- nodes from i on have no children up to i
  later : (i x : ℕ) → i ≤ S.nodes → x ≤ i → ((j : ℕ) → j < S.nodes → RangesPlaced S j) → parents S S.nodes x ≡ parents S i x
  later i x h l w =
      sum_stays (λ j. in_range x (S.base j) (S.children j)) i S.nodes h
      (λ j a b. go j a (S.children j) refl (w j b).later)
    where
      go : (j : ℕ) → i ≤ j → (k : ℕ) → S.children j ≡ k → (0 < S.children j → j < S.base j) → in_range x (S.base j) (S.children j) ≡ 0
      go j a zero e f = rw e (range_none x (S.base j))
      go j a (suc k) e f = before_range x (S.base j) (S.children j) (let z = f (omega arith) in omega arith)

module _ (S : Shape) (Rule : ℕ → Type 0) where
  -- after the first i nodes, d being the deepest level so far
  pub record Passed (i : ℕ) (o : List ℕ) (d : ℕ) : Type 0 where
    pub some : 0 < S.nodes
    pub within : i ≤ S.nodes
    pub ruled : (j : ℕ) → j < i → Rule j
    pub marked : (k : ℕ) → seen o k ≡ marks S i k
    pub leveled : (x l : ℕ) → x < S.nodes → get_or o x 0 ≡ suc l → Level S l x
    pub met : (j : ℕ) → j < i → (1 ≤ get_or o j 0) × (get_or o j 0 ≤ 32) × (get_or o j 0 ≤ suc d)
    pub deepest : ((i ≡ 0) × (d ≡ 0)) ⊎ ((j : ℕ) × (j < i) × (get_or o j 0 ≡ suc d))

  pub begins : (o : List ℕ) → 0 < S.nodes → get_or o 0 0 ≡ 1 → ((k : ℕ) → 0 < k → get_or o k 0 ≡ 0) → Passed 0 o 0
  unfolding sum Level
  begins o h a z = record {
    some = h;
    within = omega arith;
    ruled = λ j l. absurd (omega arith);
    marked = λ k. go k (dec_lt 0 k);
    leveled = λ x l b e. level x l e (dec_lt 0 x);
    met = λ j l. absurd (omega arith);
    deepest = inl (refl, refl);
  }
    where
      go : (k : ℕ) → Dec (0 < k) → seen o k ≡ in_range k 0 1 + 0
      go k (yes p) = let e = z k p in let f = after_range k 0 1 (omega arith) in omega arith
      go k (no p) = let e : k ≡ 0 = omega arith in let f = in_range_lem k 0 1 (omega arith) (omega arith) in let g : get_or o k 0
          ≡ 1 = rw e a in omega arith

      level : (x l : ℕ) → get_or o x 0 ≡ suc l → Dec (0 < x) → Level S l x
      level x l e (yes p) = absurd (let q = z x p in omega arith)
      level x zero e (no p) = omega arith
      level x (suc l) e (no p) = absurd (let q : x ≡ 0 = omega arith in let g : get_or o x 0 ≡ 1 = rw q a in omega arith)

module _ (S : Shape) (Rule : ℕ → Type 0) (place : (j : ℕ) → j < S.nodes → Rule j → RangesPlaced S j) where
  -- ---- one node

  -- the words up to a node's own stay as they were
  stays : (i : ℕ) (o q : List ℕ) → i < S.nodes → RangesPlaced S i → NodeMarked S i o q → (j : ℕ) → j ≤ i → get_or q j 0 ≡ get_or o j 0
  stays i o q h w s j l = go (s.sets j (omega arith))
    where
      go : (get_or q j 0 ≡ get_or o j 0) ⊎ (ChildOf S i j × (get_or q j 0 ≡ suc (get_or o i 0))) → get_or q j 0 ≡ get_or o j 0
      go (inl e) = e
      go (inr (c, e)) = let a = c.from in let b = c.before in let z = w.later (omega arith) in absurd (omega arith)

  pub passes_next : (i d e : ℕ) (o q : List ℕ) → Passed S Rule i o d → i < S.nodes → Rule i → 1 ≤ get_or o i 0 → get_or o i 0 ≤ 32
      → NodeMarked S i o q
      → d ≤ e → get_or o i 0 ≤ suc e → (e ≡ d) ⊎ (get_or o i 0 ≡ suc e) → Passed S Rule (suc i) q e
  unfolding sum Level
  passes_next i d e o q b h r lo hi s up top which = record {
    some = b.some;
    within = h;
    ruled = λ j l. rule j (same? j i) l;
    marked = λ k. omega (arith, b.marked k, s.adds k);
    leveled = λ x l m g. level x l m g (s.sets x m);
    met = λ j l. meets j (same? j i) l;
    deepest = deep which b.deepest;
  }
    where
      kept : (j : ℕ) → j ≤ i → get_or q j 0 ≡ get_or o j 0
      kept = stays i o q h (place i h r) s

      rule : (j : ℕ) → Same j i → j < suc i → Rule j
      rule j (equal f g) m = subst Rule (sym f) r
      rule j (apart f g) m = b.ruled j (omega arith)

      level : (x l : ℕ) → x < S.nodes → get_or q x 0 ≡ suc l → (get_or q x 0 ≡ get_or o x 0) ⊎ (ChildOf S i x × (get_or q x 0 ≡ suc (get_or o i 0)))
          → Level S l x
      level x l m g (inl f) = b.leveled x l m (sym f ∙ g)
      level x zero m g (inr (c, f)) = absurd (omega arith)
      level x (suc l) m g (inr (c, f)) = (i, c, b.leveled i l h (omega arith))

      meets : (j : ℕ) → Same j i → j < suc i → (1 ≤ get_or q j 0) × (get_or q j 0 ≤ 32) × (get_or q j 0 ≤ suc e)
      meets j (equal f g) m = let k : get_or q j 0 ≡ get_or o i 0 = kept j (omega arith) ∙ ap (λ (x : ℕ). get_or o x 0) f in
          (omega arith, omega arith, omega arith)
      meets j (apart f g) m =
          let k = kept j (omega arith) in
          let z = b.met j (omega arith) in
          (omega (arith, k, z.0), omega (arith, k, z.1), omega (arith, k, z.2))

      deep : (e ≡ d) ⊎ (get_or o i 0 ≡ suc e) → ((i ≡ 0) × (d ≡ 0)) ⊎ ((j : ℕ) × (j < i) × (get_or o j 0 ≡ suc d))
          → ((suc i ≡ 0) × (e ≡ 0)) ⊎ ((j : ℕ) × (j < suc i) × (get_or q j 0 ≡ suc e))
      deep (inr f) z = inr (i, omega arith, kept i (omega arith) ∙ f)
      deep (inl f) (inl z) = inr (i, omega arith, let k = kept i (omega arith) in let y = z.1 in omega arith)
      deep (inl f) (inr z) = inr (z.0, omega (arith, z.1), let k = kept z.0 (omega (arith, z.1)) in let y = z.2 in omega arith)

  -- ---- all nodes passed and all positions marked: the record is sound

  module _ (d : ℕ) (o : List ℕ) (b : Passed S Rule S.nodes o d) where
    root : parents S S.nodes 0 ≡ 0
    root = omega (arith, b.marked 0, marks_node S S.nodes 0 b.some, in_range_lem 0 0 1 (omega arith) (omega arith))

    most : (x : ℕ) → x < S.nodes → parents S S.nodes x ≤ 1
    most x h = omega (arith, b.marked x, marks_node S S.nodes x h)

    level : (v l : ℕ) → v < S.nodes → Level S l v → (l ≤ 31) × (l ≤ d)
    level v l m h =
        let z = b.met v m in
        let k : ℕ = get_or o v 0 - 1 in
        let e : get_or o v 0 ≡ suc k = omega (arith, z.0) in
        let g = one-level S root most l k v m h (b.leveled v k m e) in
        (omega (arith, z.1), omega (arith, z.2))

    pub ends_sound : ((x : ℕ) → x < S.positions → 0 < get_or o (S.nodes + x) 0) → Sound S Rule
    ends_sound full = record {
      rule = b.ruled;
      first = root;
      others = λ x p h. omega (arith, b.marked x, marks_node S S.nodes x h, after_range x 0 1 (omega arith), (b.met x h).0);
      filled = λ x h. omega (arith, b.marked (S.nodes + x), marks_position S S.nodes x b.some (λ j l. place j l (b.ruled j l)), full x h);
      levels = λ v l m h. (level v l m h).0;
    }

    pub ends_deepest : Deepest S d
    ends_deepest = record { most = λ v l m h. (level v l m h).1; some = deep b.deepest }
      where
        deep : ((S.nodes ≡ 0) × (d ≡ 0)) ⊎ ((j : ℕ) × (j < S.nodes) × (get_or o j 0 ≡ suc d))
            → ((S.nodes ≡ 0) × (d ≡ 0)) ⊎ ((v : ℕ) × (v < S.nodes) × Level S d v)
        deep (inl z) = inl z
        deep (inr z) = inr (z.0, z.1, b.leveled z.0 d z.1 z.2)

    -- a position that is not marked is in no leaf range
    pub not-filled : (x : ℕ) → x < S.positions → get_or o (S.nodes + x) 0 ≡ 0 → Sound S Rule → ⊥
    not-filled x h z s = omega (
      arith,
      b.marked (S.nodes + x),
      marks_position S S.nodes x b.some (λ j l. place j l (s.rule j l)),
      s.filled
          x h,
    )

  -- ---- the places where the pass stops: the record is not sound

  module _ (i d : ℕ) (o : List ℕ) (b : Passed S Rule i o d) (h : i < S.nodes) where
    -- a node that no node before it has as a child
    pub no_parent : get_or o i 0 ≡ 0 → Sound S Rule → ⊥
    no_parent z s = go (dec_lt 0 i)
      where
        e : seen o i ≡ marks S i i
        e = b.marked i

        f : marks S i i ≡ in_range i 0 1 + parents S i i
        f = marks_node S i i h

        go : Dec (0 < i) → ⊥
        go (yes p) = omega (arith, e, f, later S i i (omega arith) (omega arith) (λ j l. place j l (s.rule j l)), s.others i p h)
        go (no p) = omega (arith, e, f, in_range_lem i 0 1 (omega arith) (omega arith))

    pub too_deep : 32 < get_or o i 0 → Sound S Rule → ⊥
    too_deep z s =
        let k : ℕ = get_or o i 0 - 1 in
        let e : get_or o i 0 ≡ suc k = omega arith in
        omega (arith, s.levels i k h (b.leveled i k h e))

    -- in a sound record no word is marked twice
    most_once : (k : ℕ) → Sound S Rule → k < S.nodes + S.positions → marks S S.nodes k ≤ 1
    most_once k s l = go (dec_lt 0 k) (dec_lt k S.nodes)
      where
        go : Dec (0 < k) → Dec (k < S.nodes) → marks S S.nodes k ≤ 1
        go (no p) c = let q : k ≡ 0 = omega arith in let e : parents S S.nodes k
            ≡ 0 = rw q s.first in omega (arith, marks_node S S.nodes k (omega arith), range_most k 0 1)
        go (yes p) (yes m) = omega (arith, marks_node S S.nodes k m, s.others k p m, after_range k 0 1 (omega arith))
        go (yes p) (no m) =
            let q : ℕ = k - S.nodes in
            let a : S.nodes + q ≡ k = omega arith in
            let f : marks S S.nodes k ≡ holders S S.nodes q = subst (λ (x : ℕ). marks S S.nodes x ≡ holders S S.nodes q) a
            (marks_position S S.nodes q b.some (λ j u. place j u (s.rule j u))) in
            omega (arith, f, s.filled q (omega arith))

    pub marked_twice : WordTwice S i o → Sound S Rule → ⊥
    unfolding sum
    marked_twice t s =
        let m = most_once t.word s t.within in
        let up : sum (λ j. node_marks S j t.word) (suc i) ≤ sum (λ j. node_marks S j t.word) S.nodes = sum_grows
        (λ j. node_marks S j t.word) (suc i) S.nodes h in
        let e = b.marked t.word in
        let c = t.count in
        omega (arith, m, up, e, c)
