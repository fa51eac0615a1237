-- The lines that tell how a recording fares (this project's profile).
use Rattle.std.specs.Prelude.{ℕ, zero, suc, ℤ, List, [], ◌++◌, codes, decimal, replicate, slice_index_or, Option, None, Some}
use Rattle.vdr_terms.specs.Groups.{group_name}
use Rattle.vdr_entry.specs.Utc.{utc_text}
use Rattle.vdr_capture.specs.declared.sums.GroupSums.{GroupSums}
use Rattle.vdr_health.specs.declared.gauged.GroupGauge.{GroupGauge}
use Rattle.vdr_health.specs.declared.gauged.Gauged.{Gauged}

abbrev pub no_gauge : GroupGauge
no_gauge = record { kernel = None; ago = None }

abbrev pub nothing_gauged : Gauged
nothing_gauged = record { groups = replicate 16 no_gauge; capsule_sync = None; long_term_sync = None }

-- A number, or `-` where none is told.
abbrev pub told_number : Option ℕ → List ℕ
told_number None = codes "-"
told_number (Some n) = decimal n

-- A word, and what stands behind it.
abbrev pub count_text : (word shown : List ℕ) → List ℕ
count_text word shown = word ++ shown

-- The items that a group's port gave, those that are recorded, and the others by what they were missed for.
unfoldable pub sums_text : ℕ → GroupSums → List ℕ
sums_text g sums =
    group_name g
    ++ count_text (codes " taken ") (decimal sums.taken)
    ++ count_text (codes " recorded ") (decimal sums.recorded)
    ++ count_text (codes " full ") (decimal sums.counts.full)
    ++ count_text (codes " rate ") (decimal sums.counts.rate)
    ++ count_text (codes " bad ") (decimal sums.counts.bad)
    ++ count_text (codes " large ") (decimal sums.counts.large)

-- What the host dropped for the group's socket, and how many milliseconds ago its last datagram came.
unfoldable pub gauge_text : GroupGauge → List ℕ
gauge_text gauge = count_text (codes " kernel ") (told_number gauge.kernel) ++ count_text (codes " ago ") (told_number gauge.ago) ++ codes "\n"

-- A group that is not configured has no line.
abbrev pub line_if : ℕ → Option GroupSums → GroupGauge → List ℕ
line_if g None gauge = []
line_if g (Some sums) gauge = sums_text g sums ++ gauge_text gauge

-- The lines of the groups below n, in their order.
abbrev pub lines_below : ℕ → (ℕ → Option GroupSums) → (ℕ → GroupGauge) → List ℕ
lines_below zero sums gauges = []
lines_below (suc g) sums gauges = lines_below g sums gauges ++ line_if g (sums g) (gauges g)

abbrev pub since_text : Option ℤ → List ℕ
since_text None = codes "-"
since_text (Some utc) = utc_text utc

-- The longest sync of each medium in the last minute, in milliseconds, and the stamp of the run's first item.
unfoldable pub ends_text : (since : Option ℤ) → Gauged → List ℕ
ends_text since gauged =
    count_text (codes "capsule sync ") (told_number gauged.capsule_sync)
    ++ count_text (codes "\nlongterm sync ") (told_number gauged.long_term_sync)
    ++ count_text (codes "\nrun since ") (since_text since)
    ++ codes "\n"

-- What is told of a run whose groups came to these sums.
unfoldable pub health_text : (ℕ → Option GroupSums) → (since : Option ℤ) → Gauged → List ℕ
health_text sums since gauged = lines_below 16 sums (λ g. slice_index_or gauged.groups g no_gauge) ++ ends_text since gauged
