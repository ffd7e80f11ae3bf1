-- A record and an index list written in front of slices, as emission leaves them, are laid for the side table.
use mathlib.Core.List.{List}
use mathlib.Core.Path.{◌≡◌, ap, ◌∙◌}
use Prim.Native.Nat.{ℕ, ◌+◌, ◌*◌, ◌^◌, ◌<◌}
use native.Mathlib.Omega.{arith}
use lib.ListN.{length, get_or, take, length-map}
use lib.Seq.{get_or-take}
use Rattle.lists.specs.At.{words_at}
use Rattle.lists.specs.Splice.{splice}
use Rattle.lists.proofs.Splice.{splice_taken}
use Rattle.wide_layout.specs.Wide.{Wide}
use Rattle.wide_layout.specs.Sizes.{SmallLeaves, Branching}
use Rattle.wide_layout.specs.Layout.{nodes, index_list, index_count}
use Rattle.wide_layout.proofs.Sizes.{index_length}
use Rattle.record.specs.Record.{record_bytes}
use Rattle.record.proofs.Length.{record-length}
use Rattle.side_table.specs.Laid.{Laid}

module _ (t : Wide) (indices : List ℕ) where
  -- the index words that conversion writes
  abbrev pub written : List ℕ
  written = words_at indices (index_list t)

  pub written_length : length written ≡ index_count t
  written_length = length-map (index_list t) (λ (p : ℕ). get_or indices p 0) ∙ index_length t

  abbrev pub laid_in_front : (bytes list spans old_bytes old_list : List ℕ) (m : ℕ) → SmallLeaves t.slots → Branching t.slots → nodes t < 2 ^ 32
      → index_count t < 2 ^ 32 → m ≡ nodes t → bytes ≡ splice old_bytes 0 (record_bytes t) → list ≡ splice old_list 0 written
      → ((i : ℕ) → i < index_count t → 2 * get_or written i 0 + 1 < length spans) → Laid bytes list spans m
  laid_in_front bytes list spans old_bytes old_list m leaves branching few short n b l panes =
      let list_is : take (index_count t) list ≡ written =
      ap (take (index_count t)) l ∙ splice_taken old_list written (index_count t) written_length in
      record {
        tree = t;
        indices = indices;
        leaves = leaves;
        branching = branching;
        few = few;
        short = short;
        nodes_are = n;
        bytes_are = ap (take (80 * m)) b ∙ splice_taken old_bytes (record_bytes t) (80 * m) (omega (arith, record-length t));
        list_is = list_is;
        panes = λ i h.
            let q = panes i h in
            omega (arith, get_or-take (index_count t) list i 0 h, ap (λ (x : List ℕ). get_or x i 0) list_is);
      }
