-- What holds of digests.
use Rattle.std.specs.Prelude.{◌≡◌, ℕ, ◌==◌, List, ◌++◌, filter}
use Rattle.vdr_terms.specs.Order.{NeverFalls}
use Rattle.vdr_terms.specs.Records.{Record}
use Rattle.vdr_visit.specs.Prints.{whole_text}
use Rattle.vdr_digest.specs.Digests.{digest_text, hour, hour_line, hour_lines, last_lines, line_at}

-- What is printed of records as they come is their digest.
abbrev pub DigestIsPrinted : Type 0
DigestIsPrinted = (records : List Record) → whole_text line_at last_lines records ≡ digest_text records

-- the records of an hour
abbrev pub of_hour : ℕ → List Record → List Record
of_hour h records = filter (λ (r : Record). hour r.tick == h) records

-- This text stands among the lines of the hours.
abbrev pub HasLine : List Record → List ℕ → Type 0
HasLine records line = (before after : List ℕ) × (hour_lines records ≡ before ++ (line ++ after))

-- Where ticks never fall each hour has its line, of all its records.
abbrev pub HoursHaveLines : Type 0
HoursHaveLines = (records : List Record) (h : ℕ) → NeverFalls 0 records → HasLine records (hour_line (of_hour h records))

-- Two selections of one history that have the same records of an hour, all that the history has of it, have one line for it: two media that show
-- one history agree on each hour that lies whole in both windows.
abbrev pub HoursAgree : Type 0
HoursAgree = (history ones others : List Record) (h : ℕ) → NeverFalls 0 ones → NeverFalls 0 others → of_hour h ones ≡ of_hour h history → of_hour h others ≡ of_hour h history
    → HasLine ones (hour_line (of_hour h history)) × HasLine others (hour_line (of_hour h history))
