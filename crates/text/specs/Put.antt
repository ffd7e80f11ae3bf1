-- Text written into a lent buffer.
use Rattle.std.specs.Prelude.{List, ◌≡◌, ◌≤◌, ℕ, ◌+◌, length}
use Rattle.std.specs.Borrow.{MutBor}
use Rattle.lists.specs.Splice.{splice}
use Rattle.text.specs.declared.Writer.{Writer}

-- the writer is at the start of this buffer
pub record Starts (out : MutBor (List ℕ)) (w : Writer) : Type 0 where
  pub first : w.at ≡ 0
  pub unwritten : w.out.now ≡ out.now
  pub buffer : w.out.ghost_name ≡ out.ghost_name

-- the text fits behind what the writer wrote
abbrev pub HasRoom : Writer → List ℕ → Type 0
HasRoom w text = w.at + length text ≤ length w.out.now

-- the writer put the text behind what it had written, and still writes to the same buffer
pub record Put (w : Writer) (text : List ℕ) (v : Writer) : Type 0 where
  pub behind : v.at ≡ w.at + length text
  pub written : v.out.now ≡ splice w.out.now w.at text
  pub size : length v.out.now ≡ length w.out.now
  pub buffer : v.out.ghost_name ≡ w.out.ghost_name
