-- What holds where none of causes 1 to 7 does: the tree is accepted, there is room, and the decision words are the tree's.
use mathlib.Core.Path.{◌≡◌, sym, subst, ap, ◌∙◌}
use mathlib.Core.List.{List}
use Prim.Native.Nat.{ℕ, zero, suc, ◌≤◌, ◌<◌}
use native.Mathlib.Omega.{arith}
use lib.ListN.{length}
use borrow.Author.Tests.{leb-true}
use Rattle.causes.proofs.Causes.{Passed, passed_none, passed_parts}
use Rattle.bvh2.specs.Tree.{Tree}
use Rattle.bvh2.specs.Words.{tree_nodes, tree_of}
use Rattle.bvh2.specs.Decoded.{Decoded}
use Rattle.bvh2.specs.FirstCause.{size_conditions, structure_conditions}
use Rattle.bvh2.proofs.First.{sizes_fit_lem, sizes_none, structure_none, accepted_sized}
use Rattle.bvh2.proofs.Subtree.{root}
use Rattle.cost.specs.Rows.{fill, RowsHold}
use Rattle.cost.proofs.Fill.{inside, length-fill}
use Rattle.bvh2_tables.specs.Call.{Lengths}
use Rattle.bvh2_tables.specs.Tables.{Prepared, table_size, prepare_conditions, prepare_cause, cleared, tabled, work_after}
use Rattle.bvh2_tables.proofs.Cleared.{cleared-length}
use Rattle.bvh2_tables.proofs.Room.{room_parts, room_enough}
use Rattle.bvh2_tables.proofs.Causes.{rest, cause_structure, prepare_passed}

-- ---- none of causes 1 to 7
module _ (ws : List ℕ) (n limit : ℕ) (l : Lengths) where
  -- from the tests
  pub passed_prepared : Passed (prepare_conditions ws n limit l) → Prepared ws n limit l
  unfolding prepare_conditions
  passed_prepared p =
      let q = passed_parts (size_conditions (length ws) n) (rest ws n limit l) p in
      let s = sizes_fit_lem ws n q.0 in
      let r = room_parts n l q.1.1.0 in
      record {
        accepted = (structure_none ws n s).0 (passed_none (structure_conditions ws n) q.1.1.1);
        small = leb-true limit 3 q.1.0;
        words = r.0;
        costs = r.1;
        bytes = r.2;
        list = r.3;
      }

  pub prepared : prepare_cause ws n limit l ≡ 0 → Prepared ws n limit l
  prepared e = passed_prepared (prepare_passed ws n limit l e)

  pub prepared_none : Prepared ws n limit l → prepare_cause ws n limit l ≡ 0
  prepared_none h =
      let s = accepted_sized ws n h.accepted in
      sym (cause_structure ws n limit l ((sizes_none ws n).1 s) h.small (room_enough n l h.words h.costs h.bytes h.list))
      ∙ (structure_none ws n s).1 h.accepted

-- ---- the tables then
module _ {A : Type 0} (z : A) (g : Tree ℕ → ℕ → A) (ws : List ℕ) (n : ℕ) (s t : List A) (p : 0 < n) (h : Decoded ws n)
    (e : t ≡ work_after z g ws n 0 s) (room : table_size n ≤ length s) where
  filled : (n : ℕ) → 0 < n → t ≡ work_after z g ws n 0 s → t ≡ fill g (tree_of ws) (cleared z (table_size n) s)
  unfolding work_after tabled
  filled zero p e = absurd (omega arith)
  filled (suc n) p e = e

  pub work_length : length t ≡ length s
  work_length = ap length (filled n p e) ∙ length-fill g (tree_of ws) (cleared z (table_size n) s) ∙ cleared-length z (table_size n) s room

  -- every node's row holds its values
  pub work_holds : (d : A) → RowsHold g d t (tree_of ws)
  work_holds d =
      let r = root ws n h in
      subst (λ (x : List A). RowsHold g d x (tree_of ws)) (sym (filled n p e))
      (inside g (tree_of ws) (cleared z (table_size n) s) d (tree_nodes n) n r.distinct r.within
      (subst (λ (k : ℕ). table_size n ≤ k) (sym (cleared-length z (table_size n) s room)) room))
