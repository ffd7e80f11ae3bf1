-- Internal: what `checkrecord` keeps of input of any length. Past the longest that a record can have no byte matters, and of the length only what is
-- over whole nodes (01, "Causes of refusal": 1 comes before 2).
use Rattle.std.specs.Prelude.{true, false, List, [], ◌∷◌, ◌≡◌, ℕ, ◌+◌, ◌-◌, ◌%◌, eqb, leb, length, take}

-- the bytes of the longest input that its length alone does not refuse: the word n, and 65,535 nodes of 80 bytes
abbrev pub longest : ℕ
longest = 5242804

-- the length that stands for one of any size: the same as far as the longest, and past that one of the 80 next, with as many bytes over whole nodes
unfoldable pub held_length : ℕ → ℕ
held_length long = elim (leb long longest) [ true ↦ long | false ↦ longest + 1 + (long - (longest + 1)) % 80 ]

-- the length held after reads of so many bytes each
unfoldable pub held_after : ℕ → List ℕ → ℕ
unfolding held_length
held_after held [] = held
held_after held (more ∷ rest) = held_after (held_length (held + more)) rest

-- `held` stands for the input: it has the length that stands for the input's, and the same bytes as far as the longest
pub record StandsFor (input held : List ℕ) : Type 0 where
  pub long : length held ≡ held_length (length input)
  pub bytes : take longest held ≡ take longest input

-- the cause that refuses input longer than the longest: 1 where it has bytes over whole nodes, else 2
unfoldable pub over_cause : ℕ → ℕ
over_cause long = elim (eqb ((long - 4) % 80) 0) [ false ↦ 1 | true ↦ 2 ]
