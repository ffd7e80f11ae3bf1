use mathlib.Core.Path.{◌≡◌, refl, sym, ap, ◌∙◌}
use mathlib.Core.Bool.{true}
use Prim.Native.Nat.{ℕ, suc, ◌+◌, ◌-◌, ◌<◌}
use native.Mathlib.Omega.{arith}
use lib.ListN.{length, get_or}
use Rattle.children.specs.Tabled.{most_edges}
use Rattle.children.specs.Branches.{decisions_of, subtree_of}
use Rattle.wide_layout.specs.Conversion.{convert}
use Rattle.emit_tree.specs.Emission.{wide_slots_at, EmitNode, Emits, EmitRoom, is_inner, slot_words, write_entry}
use Rattle.emit_tree.proofs.Entering.{own_ready, build_asks, free_nodes, node-entered, room_begun}
use Rattle.emit_tree.proofs.Emitting.{Child, Loop, loop_begun, loop_reads, loop_child, loop_inner, loop_other, loop_end, loop_as}
use Rattle.emit_tree.proofs.+emit_node.Goals as goal
use Rattle.emit_tree.proofs.+emit_node.Goals.{After-slots_of-slots, After-write_node, In-loop-w, then-is_inner, else-is_inner}

one_less : (i : ℕ) → i < 8 → 8 - i ≡ suc (8 - (i + 1))
one_less i h = omega arith

-- the slots' words, for whatever tables the decisions are
words_are : (t : ℕ) (c : After-slots_of-slots t) → let s = c.args in (h : EmitNode s.branch (length s.indices.now) most_edges)
    → c.slots_of-slots.result ≡ slot_words s.ordered h.limit (subtree_of s.branch)
words_are t c h = c.slots_of-slots.ensures h.limit h.holds

room_at : (t : ℕ) (c : After-write_node t) → let s = c.args in
    (h : Emits s.branch (length s.indices.now) s.ordered (length s.bytes.now) (length s.out.now) s.number s.next)
    → EmitRoom (wide_slots_at s.branch s.ordered h.at.limit) (length c.write_node.new.s) (length c.build_node-built.new.out)
    s.next.nodes (record { nodes = s.next.nodes + c.build_node-built.result.inner; positions = c.build_node-built.result.at })
room_at t c h =
    let s = c.args in
    room_begun s.branch s.indices.now s.bytes.now s.out.now c.slots_of-slots.result s.number s.ordered s.next h
    (words_are t (goal.at.After-write_node t c).After-slots_of-slots h.at) c.build_node-built.result c.write_node.new.s c.build_node-built.new.out
    c.build_node-built.ensures c.write_node.ensures c.write_node.auto.s c.build_node-built.auto.out

-- the invariant with a slot to go
turn : (t : ℕ) (c : In-loop-w t) → let s = c.args in
    Loop s.branch s.indices.now s.number s.ordered c.write_node.new.s c.build_node-built.new.out
    (record { nodes = s.next.nodes + c.build_node-built.result.inner; positions = c.build_node-built.result.at }) s.next.nodes
    c.loop-w.bytes c.loop-w.out c.loop-w.free c.loop-w.child (suc (8 - (c.loop-w.w-index + 1))) c.loop-w.w-index
turn t c = rw (one_less c.loop-w.w-index c.loop-w-test.true) at c.loop-w.invariant.2

-- what the child's own emission asks
child : (t : ℕ) (c : In-loop-w t) → let s = c.args in let w = get_or c.slots_of-slots.result c.loop-w.w-index 0 in
    is_inner (decisions_of s.branch) w ≡ true
    → Child s.branch w (λ b. Emits b (length s.indices.now) s.ordered (length c.loop-w.bytes) (length c.loop-w.out) c.loop-w.child c.loop-w.free)
child t c =
    let p = goal.at.In-loop-w t c in
    loop_child (turn t c) c.loop-w-test.true (λ h. words_are t p.After-slots_of-slots h) c.requires.at 0 (room_at t p.After-write_node c.requires)

pub build_node-built-requires : goal.build_node-built-requires
build_node-built-requires t c =
    let s = c.args in
    let q = words_are t (goal.at.build_node-built-requires t c).After-slots_of-slots c.requires.at in
    let a = build_asks s.branch s.indices.now s.bytes.now s.out.now c.slots_of-slots.result s.number s.ordered s.next c.requires q in (
      a.0,
      a.1,
      a.2,
      a.3,
      own_ready s.branch s.indices.now s.bytes.now s.out.now c.slots_of-slots.result s.number s.ordered s.next c.requires q,
    )

pub overflow_add-free : goal.overflow_add-free
overflow_add-free t c =
    let s = c.args in
    let e = free_nodes s.branch s.indices.now s.bytes.now s.out.now c.slots_of-slots.result s.number s.ordered s.next
    c.requires (words_are t (goal.at.overflow_add-free t c).After-slots_of-slots c.requires.at) c.build_node-built.result c.write_node.new.s
    c.build_node-built.new.out c.build_node-built.ensures c.write_node.ensures in
    let f = c.requires.room.few in
    omega arith

pub loop-w-init : goal.loop-w-init
loop-w-init t c = (refl, refl, loop_begun _ _ _ _ _ _ _ _)

pub is_inner-requires : goal.is_inner-requires
is_inner-requires t c =
    let p = goal.at.is_inner-requires t c in
    loop_reads (turn t p.In-loop-w) c.loop-w-test.true (λ h. words_are t p.After-slots_of-slots h) c.requires.at

pub invariant_of-below : goal.invariant_of-below
invariant_of-below t c =
    record { tabled = (child t (goal.at.invariant_of-below t c).In-loop-w (sym c.is_inner.ensures ∙ c.if-is_inner.true)).tabled }

pub emit_node-free-requires : goal.emit_node-free-requires
emit_node-free-requires t c =
    let h = child t (goal.at.emit_node-free-requires t c).In-loop-w (sym c.is_inner.ensures ∙ c.if-is_inner.true) in
    (omega (arith, c.decreases, h.shallower), h.asks _)

pub overflow_add-child : goal.overflow_add-child
overflow_add-child t c =
    let h = child t (goal.at.overflow_add-child t c).In-loop-w (sym c.is_inner.ensures ∙ c.if-is_inner.true) in
    let k = h.asks h.tabled in
    omega (arith, k.room.mine, k.room.few)

pub loop-w-preserved : goal.loop-w-preserved
loop-w-preserved t c =
    let p = goal.at.loop-w-preserved t c in
    let h = c.loop-w-test.true in
    elim c.if-is_inner.branch [
      | then-is_inner w ↦ (
        ap length w.bytes-is ∙ w.emit_node-free.auto.bytes ∙ c.loop-w.invariant.0,
        ap length w.out-is ∙ w.emit_node-free.auto.out ∙ c.loop-w.invariant.1,
        loop_as w.bytes-is w.out-is w.free-is w.child-is (loop_inner (turn t p.In-loop-w) h (λ h. words_are t p.After-slots_of-slots h)
            (sym c.is_inner.ensures ∙ w.if-is_inner.true) w.emit_node-free.new.bytes w.emit_node-free.new.out w.emit_node-free.result
            w.emit_node-free.auto.bytes w.emit_node-free.auto.out _ w.emit_node-free.ensures),
      )
      | else-is_inner w ↦ (
        ap length w.bytes-is ∙ c.loop-w.invariant.0,
        ap length w.out-is ∙ c.loop-w.invariant.1,
        loop_as w.bytes-is w.out-is w.free-is w.child-is (loop_other (turn t p.In-loop-w) h (λ h. words_are t p.After-slots_of-slots h)
            (sym c.is_inner.ensures ∙ w.if-is_inner.false)),
      )
    ]

pub returns : goal.returns
returns t c =
    let p = goal.at.returns t c in
    let s = c.args in
    let z : 8 - c.loop-w.w-index ≡ 0 = let h = c.loop-w-test.false in omega arith in
    λ h m q k.
    loop_end s.branch s.indices.now s.number s.ordered c.write_node.new.s c.build_node-built.new.out
    (record { nodes = s.next.nodes + c.build_node-built.result.inner; positions = c.build_node-built.result.at }) s.next.nodes
    c.loop-w.bytes c.loop-w.out c.loop-w.free c.loop-w.child c.loop-w.w-index
    (rw z at c.loop-w.invariant.2) h.at (m + 1) (room_at t p.After-write_node h)
    ∙ ap (convert (write_entry s.indices.now) (wide_slots_at s.branch s.ordered h.at.limit) (m + 1) s.number 0 s.next.nodes)
    (node-entered s.branch s.indices.now s.bytes.now s.out.now c.slots_of-slots.result s.number s.ordered s.next h
    (words_are t p.After-slots_of-slots h.at) c.build_node-built.result c.write_node.new.s c.build_node-built.new.out c.build_node-built.ensures
    c.write_node.ensures m q k)
