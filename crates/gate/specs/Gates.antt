-- Internal: what a walk asks of slots and positions beside boxes (01, "Walking"; 02, [7]).
use Rattle.std.specs.Prelude.{Bool, true, false, cond, Result, Ok, Err, ◌≡◌, ℕ, ◌<◌}
use Rattle.words.specs.Fields.{field}
use Rattle.causes.specs.declared.Refusal.{Refusal}
use Rattle.causes.specs.declared.Refusal.TheVariants.{Fault}

pub record Gates : Type 0 where
  -- `opens v k`: slot k of node v is open
  pub opens : ℕ → ℕ → Bool
  -- a position that is not admitted is passed over; one that is absent is a fault, whatever `admits` says
  pub admits : ℕ → Bool
  pub absent : ℕ → Bool
  -- no walker just begun asks this
  pub forged : Bool

-- boxes alone decide
abbrev pub all_open : Gates
all_open = record { opens = λ v k. true; admits = λ p. true; absent = λ p. false; forged = false }

-- of a word with a byte for each slot of node v, the bytes of open slots, and 0 for the others
pub record Opened (g : Gates) (v marks kept : ℕ) : Type 0 where
  pub byte : (k : ℕ) → k < 8 → field 8 k kept ≡ cond (g.opens v k) (field 8 k marks) 0

-- whether a position is admitted
abbrev pub admitted : Gates → ℕ → Result Bool Refusal
admitted g p = cond (g.absent p) (Err Fault) (Ok (g.admits p))
