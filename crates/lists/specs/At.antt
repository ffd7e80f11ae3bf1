-- The members of a list at some places.
use Rattle.std.specs.Prelude.{List, map, ℕ, get_or}

abbrev pub words_at : List ℕ → List ℕ → List ℕ
words_at words ps = map (λ p. get_or words p 0) ps
