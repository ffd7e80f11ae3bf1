use mathlib.Core.List.{[]}
use mathlib.Core.Path.{◌≡◌, ap, ◌∙◌}
use Prim.Native.Nat.{ℕ, ◌*◌, ◌/◌}
use native.Mathlib.Nat.{zero-add}
use native.Mathlib.Omega.{arith}
use lib.ListN.{length, take, drop, get_or}
use lib.Seq.{get_or-take, get_or-drop}
use Rattle.std.specs.Simd.{first_chunks}
use Rattle.node.proofs.Chunks.{part_at}
use Rattle.node.proofs.RoundTrip.{same-node}
use Rattle.node.proofs.node_ref.Goals as goal

pub returns : goal.returns
returns c =
    let r = c.args.«record».now in
    let o = 80 * c.args.i in
    let b = get_or c.as_chunks.result.0.now c.args.i [] in
    let front : c.as_chunks.result.0.now ≡ first_chunks 80 (length r / 80) r = c.as_chunks.ensures.front in
    let e : b ≡ take 80 (drop o r) = rw front (part_at 80 (length r / 80) c.args.i r [] (omega arith)) in
    same-node b 0 r o (λ k l. ap (λ (x : ℕ). get_or b x 0) (zero-add k) ∙ rw e (get_or-take 80 (drop o r) k 0 l ∙ get_or-drop o r k 0))
