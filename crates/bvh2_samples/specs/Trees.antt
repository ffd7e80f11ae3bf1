-- Words of small trees.
use Rattle.std.specs.Prelude.{List, [], ◌∷◌, ℕ, zero, suc, ◌+◌}

-- a node with a box of no extent and the given link word, before further words
abbrev pub node : ℕ → List ℕ → List ℕ
node w ws = 0 ∷ 0 ∷ 0 ∷ 0 ∷ 0 ∷ 0 ∷ w ∷ ws

-- a leaf with position p
abbrev pub tip : ℕ → List ℕ → List ℕ
tip p ws = node (0x4000_0000 + p) ws

-- a node with a box from 2 down to 0 on x
abbrev pub inverted : ℕ → List ℕ → List ℕ
inverted w ws = 0x4000_0000 ∷ 0 ∷ 0 ∷ 0 ∷ 0 ∷ 0 ∷ w ∷ ws

-- a chain of k inner nodes from node v on, a leaf beside each, the first of them at position p
abbrev pub chain : ℕ → ℕ → ℕ → List ℕ
chain zero v p = tip p []
chain (suc k) v p = node (v + 1) (tip p (chain k (v + 2) (p + 1)))

-- k inner nodes from node v on, each with the two nodes after it as its children: as many paths as Fibonacci's numbers
abbrev pub lattice : ℕ → ℕ → List ℕ → List ℕ
lattice zero v ws = ws
lattice (suc k) v ws = node (v + 1) (lattice k (v + 1) ws)
