-- What refuses a loss and a report before their walks begin (01, "Causes of refusal"; 02, [3] and [7]).
use Rattle.std.specs.Prelude.{Bool, ◌&&◌, Float, List, [], ◌∷◌, ◌++◌, ℕ, ◌%◌, eqb, leb, length}
use Rattle.causes.specs.Causes.{Condition, ◌unless◌, first_cause, given}
use Rattle.causes.specs.Sizes.{record_conditions}
use Rattle.packed.specs.Packed.{ray_count, rays_accepted}
use Rattle.loss_walk.specs.Losses.{losses_fit}

-- of the losses and then of what was found among the causes between 12 and 9, 0 for none: 12, that, or 0
abbrev pub own_cause : (panes : ℕ) → List ℕ → (between : ℕ) → ℕ
own_cause panes losses between = first_cause (12 unless losses_fit panes losses ∷ given between ∷ [])

-- With room for so many ray totals and so many pane totals: whether other lists have lengths that fit, then what every report looks at, with the
-- cause that this one found among those between 12 and 9, 0 for none; for all rays before any walk.
unfoldable pub conditions_between : Bool → (between : ℕ) → (bytes indices : List ℕ) → (panes : ℕ) → (losses : List ℕ) → List Float
    → (rayRoom paneRoom : ℕ) → List Condition
unfolding record_conditions losses_fit rays_accepted
conditions_between fits between bytes indices panes losses rays rayRoom paneRoom =
    1 unless (eqb (length rays % 8) 0 && fits) ∷ record_conditions (length bytes) (length indices) ++ 2 unless leb (ray_count rays) 65536
    ∷ 4 unless (leb (ray_count rays) rayRoom && leb panes paneRoom) ∷ 12 unless losses_fit panes losses ∷ given between
    ∷ 9 unless rays_accepted rays ∷ []
