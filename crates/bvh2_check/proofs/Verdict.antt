-- What the tests and the walk make of the cause, and what is left in the marks.
use mathlib.Core.Path.{◌≡◌, refl, sym, ap, ◌∙◌}
use mathlib.Core.Bool.{Bool, true, false, ◌&&◌}
use mathlib.Core.List.{List, [], ◌∷◌}
use Prim.Native.Nat.{ℕ, zero, suc, ◌<◌}
use native.Mathlib.Omega.{arith}
use lib.ListN.{length, replicate, length-replicate}
use Rattle.lists.proofs.Tells.{told, tells_same}
use Rattle.causes.specs.Causes.{◌unless◌, first_cause}
use Rattle.causes.proofs.Causes.{first_here, first_later}
use Rattle.bvh2.specs.Words.{tree_nodes, tree_at, tree_of}
use Rattle.bvh2.specs.FirstCause.{links_inside, boxes_accepted, is_tree, structure_conditions, structure_cause}
use Rattle.bvh2.proofs.Paths.{AllInside, within_inside}
use Rattle.bvh2.proofs.Once.{once_tells}
use Rattle.bvh2.proofs.First.{all_inside_tells}
use Rattle.bvh2_check.specs.Marking.{mark_count, marking_if, walk, marks_set, MarkReady}
use Rattle.bvh2_check.proofs.Complete.{walk_tells}

-- the links and the boxes
pub judge_5 : (ws : List ℕ) (n : ℕ) → 0 < n → links_inside ws n ≡ false → 5 ≡ structure_cause ws n
unfolding structure_conditions
judge_5 ws zero p e = absurd (omega arith)
judge_5 ws (suc n) p e = sym (first_here _ e)

pub judge_6 : (ws : List ℕ) (n : ℕ) → 0 < n → links_inside ws n ≡ true → boxes_accepted ws n ≡ false → 6 ≡ structure_cause ws n
unfolding structure_conditions
judge_6 ws zero p e f = absurd (omega arith)
judge_6 ws (suc n) p e f = sym (first_later 5 _ e ∙ first_here _ f)

judge_rest : (ws : List ℕ) (n : ℕ) (x : Bool) → 0 < n → links_inside ws n ≡ true → boxes_accepted ws n ≡ true → is_tree n ws (tree_of ws) ≡ x
    → first_cause (7 unless x ∷ []) ≡ structure_cause ws n
unfolding structure_conditions
judge_rest ws zero x p e f g = absurd (omega arith)
judge_rest ws (suc n) x p e f g = sym (first_later 5 _ e ∙ first_later 6 _ f ∙ ap (λ (y : Bool). first_cause (7 unless y ∷ [])) g)

-- what is known when the walk begins
pub record Begun (ws : List ℕ) (n : ℕ) (o : List ℕ) : Type 0 where
  pub pos : 0 < n
  pub zeros : o ≡ replicate (mark_count n) 0
  pub links : links_inside ws n ≡ true
  pub boxes : boxes_accepted ws n ≡ true

marks_length : {ws : List ℕ} {n : ℕ} {o : List ℕ} → Begun ws n o → length o ≡ mark_count n
marks_length {ws} {n} {o} b = ap length b.zeros ∙ length-replicate (mark_count n) 0

inside : {ws : List ℕ} {n : ℕ} {o : List ℕ} → Begun ws n o → AllInside ws n
inside {ws} {n} {o} b = told (all_inside_tells ws n) b.links

pub ready : {ws : List ℕ} {n : ℕ} {o : List ℕ} → Begun ws n o → MarkReady ws n (length o) 0
ready b = let e = marks_length b in let p = b.pos in record { inside = inside b; room = omega arith; node = omega arith }

-- where the walk has gone through or stopped, and all are marked or not
pub ended : {ws : List ℕ} {n : ℕ} {o : List ℕ} → Begun ws n o → (o₁ : List ℕ) (went : Bool)
    → marking_if went o₁ ≡ walk ws (tree_nodes n) (tree_at ws 127 0) o → (k : ℕ) → k ≡ mark_count n → (full : Bool) → full ≡ marks_set k o₁
    → first_cause (7 unless (went && full) ∷ []) ≡ structure_cause ws n
ended {ws} {n} {o} b o₁ went r k j full e =
    let p = b.pos in
    let w = within_inside ws n (inside b) 127 0 (omega arith) in
    let t = walk_tells ws n went o₁ w (rw b.zeros at r) in
    judge_rest ws n (went && full) p b.links b.boxes (rw (e, j) (tells_same (once_tells ws n) t))

-- no nodes, no marks
pub none : (ws : List ℕ) (n : ℕ) → n ≡ 0 → 0 ≡ structure_cause ws n
unfolding structure_conditions first_cause
none ws zero e = refl
none ws (suc n) e = absurd (omega arith)
