-- Why a call of the timed conversion is refused (01, "Causes of refusal"; 02, [7]): each constructor is one way for the cause of that number to hold.
use Rattle.std.specs.Prelude.{List, ◌≡◌, ℕ, ◌*◌, ◌≤◌, ◌<◌, length, get_or}
use Rattle.causes.specs.Causes.{First}
use Rattle.span.specs.Span.{first_at, last_at}
use Rattle.bvh2_tables.specs.Call.{leaf_count}
use Rattle.bvh2_to_cwbvh_timed.specs.TimedConversion.{TimedCall, side_size}
use Rattle.demands.specs.Refusals.{Refusal}

-- of a list of spans, so many panes given: cause 14
pub data SpansRefusal (panes : ℕ) (spans : List ℕ) : Type 0 where
  not_each : ¬ (length spans ≡ 2 * panes) → SpansRefusal panes spans
  first_over_last : (k : ℕ) → k < panes → last_at spans k < first_at spans k → SpansRefusal panes spans
  quarter_over : (i : ℕ) → i < length spans → 95 < get_or spans i 0 → SpansRefusal panes spans

-- of a call
pub data TimedRefusal (c : TimedCall) : ℕ → Type 0 where
  -- 1 to 8: as of the untimed conversion
  untimed_refused : {k : ℕ} → Refusal c.untimed k → TimedRefusal c k
  -- 4
  side_short : length c.side < side_size (leaf_count c.untimed) → TimedRefusal c 4
  -- 14
  spans_refused : SpansRefusal c.panes c.spans → TimedRefusal c 14
  no_pane : (i : ℕ) → i < leaf_count c.untimed → c.panes ≤ get_or c.untimed.indices i 0 → TimedRefusal c 14

-- cause k holds, and none that is looked at before it
abbrev pub FirstTimedRefusal : TimedCall → ℕ → Type 0
FirstTimedRefusal c k = First (TimedRefusal c) k
