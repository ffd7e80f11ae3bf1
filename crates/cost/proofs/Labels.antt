-- Tables do not look at labels.
use mathlib.Core.Path.{◌≡◌, refl}
use Prim.Native.Nat.{ℕ}
use Rattle.bvh2.specs.Tree.{Tree, leaf, inner, relabel}
use Rattle.bvh2.proofs.Moved.{leaves-relabel}
use Rattle.cost.specs.Table.{table}

pub table-relabel : {A B : Type 0} (limit : ℕ) (f : A → B) (t : Tree A) (i : ℕ) → table limit (relabel f t) i ≡ table limit t i
unfolding table relabel
table-relabel limit f (leaf v box p) i = refl
table-relabel limit f (inner v box a b) i = rw (leaves-relabel f a, leaves-relabel f b) (simp (table-relabel limit f a, table-relabel limit f b))
