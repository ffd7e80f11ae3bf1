-- One step of gathering, as the code takes it.
use mathlib.Core.Path.{◌≡◌, refl, sym, ap, ap₂, ◌∙◌}
use mathlib.Core.List.{List, [], ◌∷◌, ◌++◌, map, map-append}
use Prim.Native.Nat.{ℕ, ◌+◌, ◌*◌, ◌/◌, ◌%◌, ◌^◌, ◌≤◌, ◌<◌}
use native.Mathlib.Decide.{ℕ_discrete}
use native.Mathlib.Omega.{arith}
use lib.ListN.{length, get_or, set, length-append, length-map}
use Rattle.lists.specs.Splice.{splice}
use Rattle.lists.proofs.Splice.{splice_next, set-splice}
use Rattle.bvh2.specs.Tree.{Tree, leaf, inner, label_of}
use Rattle.bvh2.specs.declared.Link.{Link as Read}
use Rattle.bvh2.specs.declared.Link.TheVariants as V
use Rattle.bvh2.specs.Said.{said}
use Rattle.bvh2.specs.Words.{Link, children, position, malformed, word_at, link_at, box_at, tree_at}
use Rattle.bvh2.proofs.Decoded.{subtree_leaves}
use Rattle.bvh2.proofs.Reading.{word-children, children_position, tree_leaf, label_is}
use Rattle.bvh2.proofs.Subtree.{node, at_leaf}
use Rattle.cost.specs.declared.Kind.{Kind as Told}
use Rattle.cost.specs.declared.Kind.TheVariants as K
use Rattle.cost.specs.Said.{kind_said, kind_in}
use Rattle.cost.specs.Table.{Kind, LEAF, INTERNAL, DISTRIBUTE, Decision, code, table, word_of}
use Rattle.cost.specs.Rows.{RowsHold}
use Rattle.cost.proofs.Splits.{leaf_distribute, internal_distribute, leaf_kind, splits_few, word_fields}
use Rattle.cost.proofs.Decisions.{kind_coded}
use Rattle.children.specs.Gather.{opened, gather, part}
use Rattle.children.specs.Tabled.{Tabled, Gathered}
use Rattle.children.proofs.Deeper.{Fork, fork}
use Rattle.children.proofs.Gather.{one_child, gather_width}

-- ---- at a node
pub record Here (n m v : ℕ) : Type 0 where
  pub words : v * 7 + 7 ≤ n
  pub decisions : v * 7 + 7 ≤ m
  pub number : v < 2 ^ 32

pub here_tabled : {ws ds : List ℕ} {d v : ℕ} → Tabled ws ds d v → Here (length ws) (length ds) v
here_tabled h =
    let k = node h.tree in
    record { words = k.room; decisions = omega (arith, k.below, h.room); number = omega (arith, k.below, h.tree.few) }

-- what the word of entry i says
pub record Says (w : ℕ) (d : Decision) : Type 0 where
  pub kind : w / 0x4000_0000 ≡ code d.kind
  pub left : w / 256 % 256 ≡ d.left
  pub right : w % 256 ≡ d.right
  pub few : d.left + d.right ≤ 6

word_held : (limit : ℕ) (ds : List ℕ) (t : Tree ℕ) → RowsHold (word_of limit) 0 ds t → (i : ℕ) → i < 7 → get_or ds (label_of t * 7 + i) 0
    ≡ word_of limit t i
unfolding RowsHold label_of
word_held limit ds (leaf v box p) h i u = h i u
word_held limit ds (inner v box a b) h i u = h.0 i u

pub says : {ws ds : List ℕ} {d v : ℕ} → Tabled ws ds d v → (limit : ℕ) → RowsHold (word_of limit) 0 ds (tree_at ws d v) → (i : ℕ) → i ≤ 6
    → Says (get_or ds (v * 7 + i) 0) (table limit (tree_at ws d v) i)
says {ws} {ds} {d} {v} h limit k i u =
    let t = tree_at ws d v in
    let q : get_or ds (v * 7 + i) 0 ≡ word_of limit t i = rw (label_is ws d v) at (word_held limit ds t k i (omega arith)) in
    let f = splits_few limit t h.tree.boxes (omega (arith, subtree_leaves h.tree, h.tree.few)) i u in
    let w = word_fields (table limit t i) (omega arith) in
    record {
      kind = ap (λ (x : ℕ). x / 0x4000_0000) q ∙ w.0;
      left = ap (λ (x : ℕ). x / 256 % 256) q ∙ w.1;
      right = ap (λ (x : ℕ). x % 256) q ∙
          w.2;
      few = f;
    }

-- and the kind that it says
pub told : {ws ds : List ℕ} {d v : ℕ} → Tabled ws ds d v → (limit : ℕ) → RowsHold (word_of limit) 0 ds (tree_at ws d v) → (i : ℕ) → i ≤ 6
    → kind_in (get_or ds (v * 7 + i) 0) ≡ (table limit (tree_at ws d v) i).kind
told {ws} {ds} {d} {v} h limit k i u =
    kind_coded (get_or ds (v * 7 + i) 0) (table limit (tree_at ws d v) i).kind (says h limit k i u).kind

-- ---- what is known where a node is to contribute its part at an entry behind `count` children
pub record Opens (ws ds : List ℕ) (d v i count : ℕ) : Type 0 where
  pub tabled : Tabled ws ds d v
  pub entry : i ≤ 6
  pub slots : count + length (part tabled.limit (tree_at ws d v) i) ≤ 8

-- and where it is opened
pub record Divides (ws ds : List ℕ) (d v i count : ℕ) : Type 0 where
  pub tabled : Tabled ws ds d v
  pub entry : i ≤ 6
  pub slots : count + length (gather tabled.limit (tree_at ws d v) i) ≤ 8

-- ---- a node that stays
alone : (k : Kind) (t : Tree ℕ) (g : List (Tree ℕ)) → (k ≡ DISTRIBUTE → ⊥) → opened k t g ≡ t ∷ []
alone LEAF t g h = refl
alone INTERNAL t g h = refl
alone DISTRIBUTE t g h = absurd (h refl)

-- the code's kind is DISTRIBUTE only where it says so
not_told : {k : Told} {x : Kind} → kind_said k ≡ x → (k ≡ K.Distribute → ⊥) → x ≡ DISTRIBUTE → ⊥
not_told {k = K.Leaf} q z y = leaf_distribute (q ∙ y)
not_told {k = K.Internal} q z y = internal_distribute (q ∙ y)
not_told {k = K.Distribute} q z y = z refl

-- it is one child
one_written : (t : Tree ℕ) (v count : ℕ) (before : List ℕ) (g : List (Tree ℕ)) → label_of t ≡ v → g ≡ t ∷ [] → count < length before
    → Gathered g count before (set before count v) (count + 1)
one_written t v count before g q e u = rw e (record {
  number = refl;
  written = set-splice before count v u ∙ ap
      (λ (x : ℕ). splice before count (x ∷ [])) (sym q);
})

stays : {ws ds : List ℕ} {d v : ℕ} → Tabled ws ds d v → (limit : ℕ) → RowsHold (word_of limit) 0 ds (tree_at ws d v) → (i : ℕ) → i ≤ 6
    → (kind_in (get_or ds (v * 7 + i) 0) ≡ DISTRIBUTE → ⊥) → part limit (tree_at ws d v) i ≡ tree_at ws d v ∷ []
stays {ws} {d = d} {v = v} h limit k i u z =
    alone (table limit (tree_at ws d v) i).kind (tree_at ws d v) (gather limit (tree_at ws d v) i) (λ y. z (told h limit k i u ∙ y))

pub slot_left : {ws ds : List ℕ} {d v i count : ℕ} {kind : Told} → Opens ws ds d v i count → kind_said kind ≡ kind_in (get_or ds (v * 7 + i) 0)
    → (kind ≡ K.Distribute → ⊥) → count < 8
slot_left {i = i} o q z =
    let h = o.tabled in
    omega (arith, o.slots, ap length (stays h h.limit h.holds i o.entry (not_told q z)))

pub stay : {ws ds : List ℕ} {d v i count : ℕ} {kind : Told} → Opens ws ds d v i count → (before : List ℕ) → 8 ≤ length before
    → kind_said kind ≡ kind_in (get_or ds (v * 7 + i) 0) → (kind ≡ K.Distribute → ⊥)
    → (limit : ℕ) → RowsHold (word_of limit) 0 ds (tree_at ws d v)
    → Gathered (part limit (tree_at ws d v) i) count before (set before count v) (count + 1)
stay {ws} {d = d} {v = v} {i = i} {count = count} o before l q z limit k =
    let u = slot_left o q z in
    one_written (tree_at ws d v) v count before (part limit (tree_at ws d v) i) (label_is ws d v)
    (stays o.tabled limit k i o.entry (not_told q z)) (omega arith)

-- ---- a node that is opened: what each call asks, and what they make together
pub record Down (ws ds : List ℕ) (d v f l r count : ℕ) (g : ℕ → List (Tree ℕ)) : Type 0 where
  pub left : Opens ws ds d f l count
  pub right : (before after : List ℕ) (half : ℕ)
      → ((limit : ℕ) → RowsHold (word_of limit) 0 ds (tree_at ws d f) → Gathered (part limit (tree_at ws d f) l) count before after half)
      → Opens ws ds d (f + 1) r half
  pub joined : (s₀ s₁ s₂ : List ℕ) (half end : ℕ) → 8 ≤ length s₀
      → ((limit : ℕ) → RowsHold (word_of limit) 0 ds (tree_at ws d f) → Gathered (part limit (tree_at ws d f) l) count s₀ s₁ half)
      → ((limit : ℕ) → RowsHold (word_of limit) 0 ds (tree_at ws d (f + 1))
      → Gathered (part limit (tree_at ws d (f + 1)) r) half s₁ s₂ end)
      → (limit : ℕ) → RowsHold (word_of limit) 0 ds (tree_at ws d v) → Gathered (g limit) count s₀ s₂ end

both_written : (A B : List (Tree ℕ)) (count half end : ℕ) (s₀ s₁ s₂ : List ℕ) → Gathered A count s₀ s₁ half → Gathered B half s₁ s₂ end
    → end ≤ length s₀ → Gathered (A ++ B) count s₀ s₂ end
both_written A B count half end s₀ s₁ s₂ a b u =
    let a' = map label_of A in
    let b' = map label_of B in
    let x = length-map A label_of in
    let y = length-map B label_of in
    let p = a.number in
    let q = b.number in
    record {
      number = omega (arith, length-append A B);
      written =
          b.written ∙ ap₂ (λ (s : List ℕ) (k : ℕ). splice s k b') a.written (p ∙ ap (λ (k : ℕ). count + k) (sym x))
          ∙ splice_next s₀ count a' b' (omega arith) ∙ ap (splice s₀ count) (sym (map-append label_of A B));
    }

module _ {ws ds : List ℕ} {d v : ℕ} (h : Tabled ws ds d v) (f : ℕ) (p : Fork ws h.n d v f) where
  abbrev L : Tree ℕ
  L = tree_at ws d f

  abbrev R : Tree ℕ
  R = tree_at ws d (f + 1)

  rows_below : (limit : ℕ) → RowsHold (word_of limit) 0 ds (tree_at ws d v) → RowsHold (word_of limit) 0 ds L × RowsHold (word_of limit) 0 ds R
  unfolding RowsHold
  rows_below limit k = let z : RowsHold (word_of limit) 0 ds (inner v (box_at ws v) L R) = rw p.tree at k in (z.1, z.2)

  pub left_tabled : Tabled ws ds d f
  left_tabled = record { n = h.n; tree = p.left; room = h.room; limit = h.limit; holds = (rows_below h.limit h.holds).0 }

  pub right_tabled : Tabled ws ds d (f + 1)
  right_tabled = record { n = h.n; tree = p.right; room = h.room; limit = h.limit; holds = (rows_below h.limit h.holds).1 }

  halves : (i count : ℕ) → i ≤ 6 → (g : ℕ → List (Tree ℕ))
      → ((limit : ℕ) → RowsHold (word_of limit) 0 ds (tree_at ws d v) → g limit
      ≡ part limit L (table limit (tree_at ws d v) i).left ++ part limit R (table limit (tree_at ws d v) i).right)
      → count + length (g h.limit) ≤ 8 → Down ws ds d v f (get_or ds (v * 7 + i) 0 / 256 % 256) (get_or ds (v * 7 + i) 0 % 256) count g
  unfolding left_tabled right_tabled
  halves i count u g is room =
      let l = get_or ds (v * 7 + i) 0 / 256 % 256 in
      let r = get_or ds (v * 7 + i) 0 % 256 in
      let same : (limit : ℕ) → RowsHold (word_of limit) 0 ds (tree_at ws d v) → g limit ≡ part limit L l ++ part limit R r =
      λ limit k. let s = says h limit k i u in rw (s.left, s.right) (is limit k) in
      let s = says h h.limit h.holds i u in
      let x = s.left in
      let y = s.right in
      let z = s.few in
      let m = ap length (same h.limit h.holds) ∙ length-append (part h.limit L l) (part h.limit R r) in
      record {
        left = record { tabled = left_tabled; entry = omega arith; slots = omega arith };
        right = λ before after half G. (let a = (G h.limit (rows_below h.limit h.holds).0).number in
            record { tabled = right_tabled; entry = omega arith; slots = omega arith });
        joined = λ s₀ s₁ s₂ half end q G H limit k. (
            let b = rows_below limit k in
            let b₀ = rows_below h.limit h.holds in
            let a₀ = (G h.limit b₀.0).number in
            let c₀ = (H h.limit b₀.1).number in
            rw (same limit k) (both_written (part limit L l) (part limit R r) count half end s₀ s₁ s₂ (G limit b.0) (H limit b.1)
            (omega arith)));
      }

-- a node that distributes is an inner one
kind_inner : {ws ds : List ℕ} {d v : ℕ} → Tabled ws ds d v → (i : ℕ) → i ≤ 6 → kind_in (get_or ds (v * 7 + i) 0) ≡ DISTRIBUTE
    → word_at ws v 6 / 0x4000_0000
    ≡ 0
kind_inner {ws} {ds} {d} {v} h i u z = pick (ℕ_discrete (word_at ws v 6 / 0x4000_0000) 0)
  where
    no_leaf : (t : Tree ℕ) (box : _) (p : ℕ) → t ≡ leaf v box p → kind_in (get_or ds (v * 7 + i) 0) ≡ (table h.limit t i).kind → ⊥
    no_leaf t box p q s = leaf_distribute (sym (rw q (leaf_kind h.limit v box p i)) ∙ sym s ∙ z)

    pick : Dec (word_at ws v 6 / 0x4000_0000 ≡ 0) → word_at ws v 6 / 0x4000_0000 ≡ 0
    pick (yes q) = q
    pick (no q) = absurd (no_leaf (tree_at ws d v) (box_at ws v) _ (at_leaf h.tree q).tree (told h h.limit h.holds i u))

-- what an inner tree opens into
gather_inner : (limit : ℕ) (t : Tree ℕ) (v : ℕ) (box : _) (a b : Tree ℕ) (i : ℕ) → t ≡ inner v box a b → gather limit t i
    ≡ part limit a (table limit t i).left ++ part limit b (table limit t i).right
unfolding gather
gather_inner limit t v box a b i q = rw q

distributed : (k : Kind) (t : Tree ℕ) (g : List (Tree ℕ)) → k ≡ DISTRIBUTE → opened k t g ≡ g
distributed k t g h = rw h

-- a node that distributes is opened, and contributes what it opens into
pub divides : {ws ds : List ℕ} {d v i count : ℕ} {kind : Told} → Opens ws ds d v i count → kind_said kind ≡ kind_in (get_or ds (v * 7 + i) 0)
    → kind ≡ K.Distribute → Divides ws ds d v i count
divides {ws} {ds} {d} {v} {i} {count} o q y =
    let h = o.tabled in
    let z = sym q ∙ ap kind_said y in
    let g = distributed (table h.limit (tree_at ws d v) i).kind (tree_at ws d v) (gather h.limit (tree_at ws d v) i)
    (sym (told h h.limit h.holds i o.entry) ∙ z) in
    record { tabled = h; entry = o.entry; slots = omega (arith, o.slots, ap length g) }

pub contributes : {ws ds : List ℕ} {d v i count : ℕ} {kind : Told} → Opens ws ds d v i count → kind_said kind ≡ kind_in (get_or ds (v * 7 + i) 0)
    → kind ≡ K.Distribute
    → (before after : List ℕ) (r : ℕ)
    → ((limit : ℕ) → RowsHold (word_of limit) 0 ds (tree_at ws d v) → Gathered (gather limit (tree_at ws d v) i) count before after r)
    → (limit : ℕ) → RowsHold (word_of limit) 0 ds (tree_at ws d v) → Gathered (part limit (tree_at ws d v) i) count before after r
contributes {ws} {d = d} {v = v} {i = i} o q z before after r G limit k =
    rw (distributed (table limit (tree_at ws d v) i).kind (tree_at ws d v) (gather limit (tree_at ws d v) i)
    (sym (told o.tabled limit k i o.entry) ∙ sym q ∙ ap kind_said z)) (G limit k)

-- its link is one to children
children_malformed : {f : ℕ} → malformed ≡ children f → ⊥
children_malformed q = let z : ◌≡◌ {A = ℕ} 0 1 = cc in omega arith

has_children : (ws : List ℕ) (v : ℕ) {l : Link} → l ≡ link_at ws v → word_at ws v 6 / 0x4000_0000 ≡ 0 → l ≡ children (word_at ws v 6 % 0x4000_0000)
has_children ws v q z = q ∙ word-children (word_at ws v 6) z

childless : (ws : List ℕ) (v : ℕ) {l : Read} → word_at ws v 6 / 0x4000_0000 ≡ 0 → said l ≡ link_at ws v → ((f : ℕ) → l ≡ V.Children f → ⊥) → ⊥
childless ws v {l = V.Children f} z q k = k f refl
childless ws v {l = V.Position p} z q k = children_position (has_children ws v q z) refl
childless ws v {l = V.Malformed} z q k = children_malformed (has_children ws v q z)

pub not_childless : {ws ds : List ℕ} {d v i : ℕ} {kind : Told} {l : Read} → Tabled ws ds d v → i ≤ 6
    → kind_said kind ≡ kind_in (get_or ds (v * 7 + i) 0) → kind ≡ K.Distribute → said l ≡ link_at ws v → ((f : ℕ) → l ≡ V.Children f → ⊥) → ⊥
not_childless {ws} {v = v} {i = i} h u q y = childless ws v (kind_inner h i u (sym q ∙ ap kind_said y))

pub down : {ws ds : List ℕ} {d v i count f l r : ℕ} → Divides ws ds d v i count → children f ≡ link_at ws v
    → l ≡ get_or ds (v * 7 + i) 0 / 256 % 256 → r ≡ get_or ds (v * 7 + i) 0 % 256
    → Down ws ds d v f l r count (λ limit. gather limit (tree_at ws d v) i)
down {ws} {ds} {d} {v} {i} {count} {f = f} o q y z =
    let h = o.tabled in
    let p = fork ws h.n d v f h.tree (sym q) in
    rw (y, z) (halves h f p i count o.entry (λ limit. gather limit (tree_at ws d v) i)
    (λ limit k. gather_inner limit (tree_at ws d v) v (box_at ws v) _ _ i p.tree) o.slots)

-- ---- the node whose children are gathered
pub root_divides : {ws ds : List ℕ} {d v : ℕ} → Tabled ws ds d v → Divides ws ds d v 0 0
root_divides {ws} {d = d} {v = v} h =
    let s : length (gather h.limit (tree_at ws d v) 0) ≤ 8 = gather_width h.limit (tree_at ws d v) h.tree.boxes
    (omega (arith, subtree_leaves h.tree, h.tree.few)) in
    record { tabled = h; entry = omega arith; slots = omega arith }

pub root_leaf : (ws : List ℕ) (d v : ℕ) {p : ℕ} → position p ≡ link_at ws v → (before : List ℕ) → 8 ≤ length before
    → (limit : ℕ) → Gathered (gather limit (tree_at ws d v) 0) 0 before (set before 0 v) 1
root_leaf ws d v {p} q before u limit =
    one_written (tree_at ws d v) v 0 before (gather limit (tree_at ws d v) 0) (label_is ws d v)
    (itself limit (tree_at ws d v) (tree_leaf ws d v p (sym q))) (omega arith)
  where
    itself : (limit : ℕ) (t : Tree ℕ) {box : _} {p : ℕ} → t ≡ leaf v box p → gather limit t 0 ≡ t ∷ []
    itself limit t {box} {p} k = rw k (one_child limit v box p 0)
