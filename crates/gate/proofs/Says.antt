-- What a gate's answer says of a position.
use mathlib.Core.Bool.{Bool, true, false}
use mathlib.Core.Path.{◌≡◌, refl}
use Prim.Native.Nat.{ℕ}
use Rattle.std.specs.Prelude.{Result, Ok, Err}
use Rattle.causes.specs.declared.Refusal.{Refusal}
use Rattle.causes.specs.Refusal.{cause_number}
use Rattle.gate.specs.Gates.{Gates, admitted}

-- what an answer says of position p
abbrev pub Said : Gates → ℕ → Result Bool Refusal → Type 0
Said g p (Ok true) = (g.absent p ≡ false) × (g.admits p ≡ true)
Said g p (Ok false) = (g.absent p ≡ false) × (g.admits p ≡ false)
Said g p (Err refusal) = (g.absent p ≡ true) × (cause_number refusal ≡ 10)

pub says : (g : Gates) (p : ℕ) (r : Result Bool Refusal) → r ≡ admitted g p → Said g p r
says g p r e = ends (g.absent p) refl (g.admits p) refl
  where
    ends : (a : Bool) → g.absent p ≡ a → (b : Bool) → g.admits p ≡ b → Said g p r
    ends true f b h = rw (e, f) (f, refl)
    ends false f true h = rw (e, f, h) (f, h)
    ends false f false h = rw (e, f, h) (f, h)

-- where there is an answer the position is there
pub said_there : (g : Gates) (p : ℕ) (b : Bool) → Said g p (Ok b) → g.absent p ≡ false
said_there g p true s = s.0
said_there g p false s = s.0
