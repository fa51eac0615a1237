-- The sizes and limits of a configuration, and which media have the slots that it needs.
use Rattle.std.specs.Prelude.{ℕ, suc, ◌==◌, nat_lt, List, [], ◌∷◌, Option, None, Result, Ok, Err, ⊤, slice_index_or, if◌then◌else◌}
use Rattle.vdr_terms.specs.declared.rate.Rate.{Rate}
use Rattle.vdr_terms.specs.Needs.{Sizes, needed_slots, slots_in}
use Rattle.vdr_terms.specs.Rates.{Limit, limit_of}
use Rattle.vdr_config.specs.declared.media.TooSmall.{TooSmall}
use Rattle.vdr_config.specs.Configuration.{Configuration}

-- The window of a medium, in seconds: medium 0 is the capsule, 1 the long-term medium, and 2 the float-free medium.
abbrev pub window_of : Configuration → ℕ → ℕ
window_of c m = if m == 0 then c.capsule_seconds else (if m == 1 then c.long_seconds else c.float_seconds)

abbrev pub sizes_of : Configuration → Sizes
sizes_of c = record {
  groups = c.groups;
  segment = c.segment;
  batch = c.batch;
  seconds = window_of c;
  incident_seconds = c.incident_seconds;
  incidents = c.incident_slots;
}

-- What each group may have recorded, by the rate that stands at its number.
abbrev pub limits_in : List (Option Rate) → ℕ → Limit
limits_in rates g = limit_of (slice_index_or rates g None)

-- What is said of a medium that has too few slots.
abbrev pub too_small : Sizes → ℕ → ℕ → TooSmall
too_small sizes m size = record { medium = m; need = needed_slots sizes m; have = slots_in sizes size }

-- The first of the media from medium m on that has fewer slots than it needs. They have these sizes, in order.
abbrev pub fitting_from : Sizes → (m : ℕ) → List ℕ → Result ⊤ TooSmall
fitting_from sizes m [] = Ok tt
fitting_from sizes m (size ∷ rest) = if nat_lt (slots_in sizes size) (needed_slots sizes m) then Err (too_small sizes m size) else fitting_from sizes (suc m) rest

-- The first medium that has fewer slots than it needs: the capsule, the long-term medium, and then the float-free one.
abbrev pub fitting : Sizes → List ℕ → Result ⊤ TooSmall
fitting sizes each = fitting_from sizes 0 each
