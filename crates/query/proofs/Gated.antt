-- A position in hand as a gate has it: absent, passed over, or its query's.
use mathlib.Core.Bool.{Bool, true, false, not, ◌||◌}
use mathlib.Core.List.{List}
use mathlib.Core.Path.{◌≡◌, refl, sym, ap, ◌∙◌}
use Prim.Native.Nat.{ℕ, ◌≤◌, ◌<◌}
use lib.Ieee.{Float}
use Rattle.std.specs.Prelude.{Ok, Err}
use Rattle.causes.specs.declared.Refusal.{Refusal}
use Rattle.causes.specs.Refusal.{cause_number}
use Rattle.gate.specs.Gates.{Gates}
use Rattle.record_shape.specs.Record.{node_count}
use Rattle.walk.specs.Step as S
use Rattle.walk.specs.Queries.{Reaction}
use Rattle.walk.specs.Words.{first_position}
use Rattle.walk.specs.WordStep.{WalkerWords, NodeWords, after_report_words}
use Rattle.walk.specs.WordQueries.{told_all_words}
use Rattle.walk.proofs.Words.{AtFront}
use Rattle.walk_record.specs.WalkRay.{WalkRay, rays_of}
use Rattle.walk_record.specs.Record.{node_words_at}
use Rattle.gate.proofs.Says.{Said}
use Rattle.query.specs.Ending.{Ending, ending}
use Rattle.query.proofs.Leads.{Steady, Leads, Goes, leads_absent, leads_past, leads_stops, leads_on}
use Rattle.query.proofs.Skips.{leads_skips}

module _ {a : Type 0} (g : Gates) (bytes : List ℕ) {n : ℕ} {react : ℕ → WalkRay → a → Reaction Float a} {goal : Ending a} {w : WalkerWords WalkRay}
    {x : a} (steady : Steady (node_count bytes) (node_words_at bytes (rays_of g)) n)
    (L : Leads (node_count bytes) (node_words_at bytes (rays_of g)) n react goal w x)
    (held : 0 < w.positions.bits) (p : ℕ) (named : p ≡ first_position w.positions) where
  abbrev N : NodeWords WalkRay Float
  N = node_words_at bytes (rays_of g)

  skips_is : (b c : Bool) → g.absent p ≡ b → g.admits p ≡ c → N.skips w.ray (first_position w.positions) ≡ not (b || c)
  skips_is b c e f = rw (← named, e, f) refl

  absent_is : (b : Bool) → g.absent p ≡ b → N.absent w.ray (first_position w.positions) ≡ b
  absent_is b e = ap g.absent (sym named) ∙ e

  in_front : N.skips w.ray (first_position w.positions) ≡ false → AtFront (N.skips w.ray) w.positions
  in_front e = rw e refl

  -- it is not there
  pub gated_absent : (refusal : Refusal) → Said g p (Err refusal)
      → record { noted = x; tests = w.tests; ended = S.refused (cause_number refusal) } ≡ goal
  gated_absent refusal s =
      ap (λ (k : ℕ). record { noted = x; tests = w.tests; ended = S.refused k }) s.1
      ∙ leads_absent steady L (in_front (skips_is true (g.admits p) s.0 refl)) (absent_is true s.0) held

  -- it is passed over
  pub gated_skips : Said g p (Ok false)
      → Goes (node_count bytes) N n react goal w
      (record {
        ray = w.ray;
        tests = w.tests;
        positions = (after_report_words w).walker.positions;
        current = w.current;
        depth = w.depth;
        stack = w.stack;
      })
      x
  gated_skips s = leads_skips steady L (skips_is false false s.0 s.1) held

  -- it is one past the n, or is reported
  module _ (s : Said g p (Ok true)) where
    front : AtFront (N.skips w.ray) w.positions
    front = in_front (skips_is false true s.0 s.1)

    present : N.absent w.ray (first_position w.positions) ≡ false
    present = absent_is false s.0

    pub gated_past : n ≤ p → record { noted = x; tests = w.tests; ended = S.refused 10 } ≡ goal
    gated_past = leads_past steady L front present held p named

    pub gated_stops : p < n → {y : a} {ds : List Float} → react p w.ray x ≡ record { accumulator = y; tells = ds; stop = true }
        → ending (record { walker = told_all_words N ds (after_report_words w).walker; accumulator = y; ended = S.position p }) ≡ goal
    gated_stops there q = leads_stops steady L front present held p named there q

    pub gated_on : p < n → {y : a} {ds : List Float} → react p w.ray x ≡ record { accumulator = y; tells = ds; stop = false }
        → Goes (node_count bytes) N n react goal w (told_all_words N ds (after_report_words w).walker) y
    gated_on there q = leads_on steady L front present held p named there q
