use mathlib.Core.Path.{◌≡◌}
use Prim.Native.Nat.{ℕ, ◌≤◌}
use lib.ListN.{length}
use Rattle.bvh2_tables.specs.Call.{Call, leaf_count}
use Rattle.std.specs.Prelude.{Ok}
use Rattle.bvh2_to_cwbvh.specs.declared.Converted.{Converted}
use Rattle.show_text.specs.ShowText.{most_leaves}
use Rattle.show_text.specs.Room.{TextRoom}
use Rattle.show_text.proofs.Trees.{Converts, converts, print_ready}
use Rattle.show_text.proofs.Texts.{record_shown, refusal_shown}
use Rattle.show_text.proofs.tree_text.Goals as goal
use Rattle.show_text.proofs.tree_text.Goals.{After-bvh2_to_cwbvh-conversion}

-- the call, and what it has converted
abbrev call : After-bvh2_to_cwbvh-conversion → Call
call q =
    let a = q.args in
    record {
      words = a.words.now;
      indices = a.indices.now;
      limit = a.limit;
      ordered = a.ordered;
      decisions = a.decisions.now;
      costs = a.costs.now;
      bytes = a.«record».now;
      list = a.list.now;
    }

abbrev out : After-bvh2_to_cwbvh-conversion → ℕ
out q = length q.args.out.now

few : (q : After-bvh2_to_cwbvh-conversion) → leaf_count (call q) ≤ most_leaves
few q = q.requires.indices_len_bound

room : (q : After-bvh2_to_cwbvh-conversion) → let c = call q in
    TextRoom (length c.decisions) (length c.costs) (length c.bytes) (length c.list) (out q)
room q = q.requires.text_room

converts-at : (q : After-bvh2_to_cwbvh-conversion) (d : Converted) → q.bvh2_to_cwbvh-conversion.result ≡ Ok d
    → let r = q.bvh2_to_cwbvh-conversion in Converts (call q) (out q) (few q) (room q) d.nodes r.new.«record» r.new.list
converts-at q d e =
    let r = q.bvh2_to_cwbvh-conversion in converts (call q) (out q) (few q) (room q) r.result _ _ _ _ r.ensures d e

pub print_record-requires : goal.print_record-requires
print_record-requires c =
    let q = (goal.at.print_record-requires c).After-bvh2_to_cwbvh-conversion in
    let r = q.bvh2_to_cwbvh-conversion in
    let p = print_ready (call q) (out q) (few q) (room q) _ _ _ (converts-at q _ c.in-Ok.is) r.auto.«record» r.auto.list in
    record { m_in_bounds = p.0; n_in_bounds = p.1 }

pub returns-in-Ok : goal.returns-in-Ok
returns-in-Ok c =
    let q = (goal.at.returns-in-Ok c).After-bvh2_to_cwbvh-conversion in
    rw (← record_shown (call q) (out q) (few q) (room q) _ _ _ (converts-at q _ c.in-Ok.is))
    c.print_record.ensures

pub returns-in-Err : goal.returns-in-Err
returns-in-Err c =
    let q = (goal.at.returns-in-Err c).After-bvh2_to_cwbvh-conversion in
    let r = q.bvh2_to_cwbvh-conversion in
    rw (← refusal_shown (call q) (out q) (few q) (room q) r.result _ _ _ _ r.ensures c.in-Err.refusal c.in-Err.is)
    c.print_refusal.ensures
