-- The levels of the defined record; and a converted record is sound, with conversion's deepest level.
use mathlib.Core.List.{List, [], Perm}
use mathlib.Core.Path.{◌≡◌, refl, sym, ◌∙◌, subst}
use Prim.Native.Nat.{ℕ, ◌+◌, ◌<◌, ◌≤◌}
use native.Mathlib.Omega.{arith}
use lib.ListN.{length}
use Rattle.lists.proofs.Perms.{perm_length}
use Rattle.soundness.specs.Sound.{OneLevel}
use Rattle.soundness.proofs.Once.{empty_sound}
use Rattle.wide_layout.specs.Wide.{Wide}
use Rattle.wide_layout.specs.Sizes.{slots_positions}
use Rattle.wide_layout.specs.Layout.{index_count, level}
use Rattle.wide_layout.proofs.Sizes.{positions-length}
use Rattle.wide_layout.proofs.Shape.{reads_sound, reads_one_level, reads_deepest}
use Rattle.record.specs.Record.{record_bytes}
use Rattle.record_shape.specs.Record.{node_count, shape_in, shape_at, RuleAt, SoundRecord, DeepestLevel}
use Rattle.record_shape.specs.Check.{sound, check_of}
use Rattle.record_shape.proofs.Check.{cause_none, check_sound}
use Rattle.record_laws.specs.Writable.{Writable}
use Rattle.record.proofs.Length.{record-length}
use Rattle.record_laws.proofs.ReadBack.{record-count}
use Rattle.record_laws.proofs.ShapeRead.{record_reads}
use Rattle.record_laws.proofs.Rule.{record_rule}
use Rattle.record_laws.proofs.Bytes.{record-bytes}
use Rattle.demands.specs.Walks.{CheckedRecord}
use Rattle.demands.proofs.Writes.{Writes, nothing, written}

good_none : CheckedRecord [] 0 0
unfolding shape_in
good_none =
    let s : SoundRecord [] 0 × DeepestLevel [] 0 0 = empty_sound (shape_at [] 0) (RuleAt [] 0) refl refl in
    record { sound = s.0; deepest = s.1; layout = refl; nodes = omega arith; positions = omega arith; are_bytes = λ i. omega arith }

held-count : (t : Wide) (leaves : List ℕ) → Perm (slots_positions t.slots) leaves → index_count t ≡ length leaves
held-count t leaves p = sym (positions-length t.slots) ∙ perm_length (slots_positions t.slots) leaves p

-- the levels of a record as conversion writes it, or would: the deepest, and one to each node
pub record Levels (bytes : List ℕ) (n d : ℕ) : Type 0 where
  pub deepest : DeepestLevel bytes n d
  pub one : (v : ℕ) → v < node_count bytes → OneLevel (shape_at bytes n) v

levels_none : Levels [] 0 0
levels_none = record { deepest = good_none.deepest; one = λ v l. absurd (omega arith) }

levels_wide : (t : Wide) → Writable t → Levels (record_bytes t) (index_count t) (level t)
unfolding shape_in
levels_wide t h =
    let S = shape_at (record_bytes t) (index_count t) in
    record { deepest = reads_deepest S t (record_reads t h); one = reads_one_level S t (record_reads t h) }

pub levels : (leaves indices bytes list : List ℕ) (d : ℕ) → Writes leaves indices bytes list d → Levels bytes (length leaves) d
levels leaves indices bytes list d (nothing l b x e) = rw (e, b, l) levels_none
levels leaves indices bytes list d (written t h p b x e) = rw (e, b, ← held-count t leaves p) (levels_wide t h)

good_wide : (t : Wide) → Writable t → level t ≤ 31 → CheckedRecord (record_bytes t) (index_count t) (level t)
unfolding shape_in
good_wide t h low =
    let S = shape_at (record_bytes t) (index_count t) in
    let r = record_reads t h in record {
      sound = reads_sound S t r (RuleAt (record_bytes t) (index_count t))
          (λ v l. record_rule t h v (subst (λ (m : ℕ). v < m) (record-count t) l)) low;
      deepest = reads_deepest S t r;
      layout = omega (arith, record-length t);
      nodes = omega (arith, record-count t, h.nodes);
      positions = h.positions;
      are_bytes = record-bytes t h;
    }

pub good : (leaves indices bytes list : List ℕ) (d : ℕ) → d ≤ 31 → Writes leaves indices bytes list d → CheckedRecord bytes (length leaves) d
good leaves indices bytes list d low (nothing l b x e) = rw (e, b, l) good_none
good leaves indices bytes list d low (written t h p b x e) =
    rw (e, b, ← held-count t leaves p) (good_wide t h (omega arith))

-- the record check, given a working word for each node and each position, answers sound with that level
pub good_check : (bytes : List ℕ) (n d words : ℕ) → CheckedRecord bytes n d → node_count bytes + n ≤ words → check_of bytes n words ≡ sound d
good_check bytes n d words g h =
    check_sound bytes n words
    (cause_none (length bytes) n words (record { whole = g.layout; few = g.positions; small = g.nodes }) h) g.sound d g.deepest
