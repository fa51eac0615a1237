-- What the rows of gaps of a page tell beside what the Gaps of its records say (this project's profile).
use Rattle.std.specs.Prelude.{◌≡◌, ◌≤◌, ◌-◌, ◌^◌, ◌==◌, ℕ, List, length, sum_by, Option, Some, None, if◌then◌else◌}
use Rattle.std.specs.List.{filter_map}
use Rattle.vdr_terms.specs.declared.counts.Counts.{Counts}
use Rattle.vdr_terms.specs.Records.{Content, Record}
use Rattle.vdr_terms.specs.Records.Content.{Start, Datagram, Gap, Stop}
use Rattle.vdr_page.specs.Gaps.{capped}
use Rattle.vdr_page.specs.Shown.{Shown}
use Rattle.vdr_page.specs.Shown.Shown.{Missed, Told, Other}
use Rattle.vdr_page.specs.declared.marks.Marks.{Marks}

-- The rows of gaps of a group.
abbrev pub marks_at : (group : ℕ) → Shown → Option Marks
marks_at group (Missed g marks) = if g == group then Some marks else None
marks_at group (Told row) = None
marks_at group (Other text) = None

abbrev pub marks_in : (group : ℕ) → List Shown → List Marks
marks_in group rows = filter_map (marks_at group) rows

-- The Gaps of a group, by what they miss.
abbrev pub missed_of : Content → Option Counts
missed_of Start = None
missed_of (Datagram payload) = None
missed_of (Gap missed) = Some missed
missed_of Stop = None

abbrev pub gap_at : (group : ℕ) → Record → Option Counts
gap_at group r = if r.group == group then missed_of r.content else None

abbrev pub gaps_in : (group : ℕ) → List Record → List Counts
gaps_in group records = filter_map (gap_at group) records

-- What rows tell together of a sum: it, where it fits 64 bits. A row whose own sum does not stands still at the greatest number of 64 bits, and then they
-- tell no less than that, and no more than the sum.
pub record AddUp (told sum : ℕ) : Type 0 where
  pub exact : sum ≤ 2 ^ 64 - 1 → told ≡ sum
  pub least : capped sum ≤ told
  pub most : told ≤ sum

-- Rows tell how many Gaps there are, and what they miss, cause by cause.
pub record TellGaps (rows : List Marks) (gaps : List Counts) : Type 0 where
  pub marks : AddUp (sum_by (λ (m : Marks). m.marks) rows) (length gaps)
  pub full : AddUp (sum_by (λ (m : Marks). m.missed.full) rows) (sum_by (λ (c : Counts). c.full) gaps)
  pub rate : AddUp (sum_by (λ (m : Marks). m.missed.rate) rows) (sum_by (λ (c : Counts). c.rate) gaps)
  pub bad : AddUp (sum_by (λ (m : Marks). m.missed.bad) rows) (sum_by (λ (c : Counts). c.bad) gaps)
  pub large : AddUp (sum_by (λ (m : Marks). m.missed.large) rows) (sum_by (λ (c : Counts). c.large) gaps)
