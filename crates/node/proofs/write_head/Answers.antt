use Rattle.std.proofs.Common.{rules}
use mathlib.Core.Path.{◌≡◌, refl, sym, ◌∙◌}
use native.Mathlib.Omega.{arith}
use lib.ListN.{get_or}
use Rattle.node.specs.Node.{eight}
use Rattle.node.proofs.RoundTrip.{eight_list, head_written}
use Rattle.node.proofs.Splice.{put-splice}
use Rattle.node.proofs.write_head.Goals as goal

pub returns : goal.returns
returns c =
    let a = c.args in
    let metas : c.copy_from_slice-2.new.self ≡ eight (λ i. get_or a.n.child_meta i 0) =
    c.copy_from_slice-2.ensures.after ∙ sym (eight_list a.n.child_meta 0 (search rules)) in
    head_written a.bytes.now 0 a.n c.store_u32.new.s c.store_u32-2.new.s c.store_u32-3.new.s _ c.store_u32-4.new.s c.store_u32-5.new.s _
    (omega arith) c.store_u32.ensures c.store_u32-2.ensures c.store_u32-3.ensures
    (rw c.copy_from_slice.ensures.after (put-splice _ _ 12 4 refl)) c.store_u32-4.ensures c.store_u32-5.ensures
    (rw metas (put-splice _ _ 24 8 refl))
