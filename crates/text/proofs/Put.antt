-- Laws of writing text part behind part. `Rest` says what is left to write: a loop keeps it, and ends with nothing left.
use mathlib.Core.Path.{◌≡◌, refl, sym, ap, ap₂, ◌∙◌}
use mathlib.Core.List.{List, [], ◌∷◌, ◌++◌}
use Prim.Native.Nat.{ℕ, ◌+◌, ◌≤◌, ◌<◌}
use native.Mathlib.Numerals.{add-one}
use native.Mathlib.Omega.{arith}
use lib.ListN.{length, drop, get_or, length-append}
use lib.Seq.{drop-cons}
use Rattle.std.specs.Borrow.{MutBor}
use Rattle.lists.specs.Splice.{splice}
use Rattle.lists.proofs.Splice.{splice_next, splice_none}
use Rattle.text.specs.Put.{Starts, HasRoom, Put}
use Rattle.text.specs.declared.Writer.{Writer}

-- there is room for the first part
pub room_first : (w : Writer) (a b : List ℕ) → HasRoom w (a ++ b) → HasRoom w a
room_first w a b h = omega (arith, h, length-append a b)

-- and behind it for the next
pub room_next : {w v : Writer} {a : List ℕ} (b : List ℕ) → HasRoom w (a ++ b) → Put w a v → HasRoom v b
room_next {a = a} b h p = omega (arith, h, length-append a b, p.behind, p.size)

-- one part, and then the next, for which there is room
pub put_then : {w v u : Writer} {a b : List ℕ} → HasRoom w (a ++ b) → Put w a v → (HasRoom v b → Put v b u) → Put w (a ++ b) u
put_then {w} {a = a} {b = b} h p f =
    let l = length-append a b in
    let q = f (room_next b h p) in
    record {
      behind = omega (arith, l, p.behind, q.behind);
      written =
          q.written ∙ ap₂ (λ (s : List ℕ) (k : ℕ). splice s k b) p.written p.behind
          ∙ splice_next w.out.now w.at a b (omega (arith, h, l));
      size = q.size ∙ p.size;
      buffer = q.buffer ∙ p.buffer;
    }

-- the buffer's room, at its start
pub starts_room : {out : MutBor (List ℕ)} {w : Writer} (b : List ℕ) → Starts out w → length b ≤ length out.now → HasRoom w b
starts_room b s h = omega (arith, h, s.first, ap length s.unwritten)

-- from the start of a buffer, the place behind the text is its length
pub put_first : {out : MutBor (List ℕ)} {w v : Writer} {b : List ℕ} → Starts out w → Put w b v
    → (v.at ≡ length b) × (v.out.now ≡ splice out.now 0 b) × (out.ghost_name ≡ v.out.ghost_name)
put_first s p = (omega (arith, s.first, p.behind), rw (← s.first, ← s.unwritten) p.written, sym (p.buffer ∙ s.buffer))

-- no text
pub put_none : (w : Writer) → Put w [] w
put_none w = record { behind = omega arith; written = sym (splice_none w.out.now w.at); size = refl; buffer = refl }

-- the next element of what a loop has still to go through
pub drop_next : (l : List ℕ) (i : ℕ) → i < length l → drop i l ≡ get_or l i 0 ∷ drop (i + 1) l
drop_next l i h = rw (add-one, drop-cons l i 0)

-- of the text `whole`, that w is to write, the part `left` is still to be written, by v
pub record Rest (w : Writer) (whole left : List ℕ) (v : Writer) : Type 0 where
  pub room : HasRoom v left
  pub all : (u : Writer) → Put v left u → Put w whole u

module _ {w : Writer} {whole left : List ℕ} {v : Writer} (rest : Rest w whole left v) where
  -- there is room for what comes next
  pub rest_room : (a b : List ℕ) → left ≡ a ++ b → HasRoom v a
  rest_room a b e = room_first v a b (rw e at rest.room)

  -- it was written
  pub rest_put : (a b : List ℕ) → left ≡ a ++ b → {u : Writer} → Put v a u → Rest w whole b u
  rest_put a b e p =
      let h = rw e at rest.room in
      record { room = room_next b h p; all = λ t q. rest.all t (rw e (put_then h p (λ _. q))) }

  -- nothing is left
  pub rest_none : left ≡ [] → Put w whole v
  rest_none e = rest.all v (rw e (put_none v))
