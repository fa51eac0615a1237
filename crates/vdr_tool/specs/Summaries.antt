-- What `replay` prints of a run that was closed (this project's profile).
use Rattle.std.specs.Prelude.{ℕ, zero, suc, List, [], ◌++◌, codes, decimal, slice_index_or, Option, Some, None}
use Rattle.vdr_terms.specs.Groups.{group_name}
use Rattle.vdr_capture.specs.declared.sums.GroupSums.{GroupSums}
use Rattle.vdr_tool.specs.declared.summary.Summary.{Summary}

-- A word and a number.
abbrev pub count_text : (word : List ℕ) → ℕ → List ℕ
count_text word n = word ++ decimal n

-- The items that a group's port gave, those that are recorded, and the others by what they were missed for.
unfoldable pub group_line : ℕ → GroupSums → List ℕ
group_line g sums =
    group_name g
    ++ count_text (codes " taken ") sums.taken
    ++ count_text (codes " recorded ") sums.recorded
    ++ count_text (codes " full ") sums.counts.full
    ++ count_text (codes " rate ") sums.counts.rate
    ++ count_text (codes " bad ") sums.counts.bad
    ++ count_text (codes " large ") sums.counts.large
    ++ codes "\n"

-- A group that is not configured has no line.
abbrev pub line_if : ℕ → Option GroupSums → List ℕ
line_if g None = []
line_if g (Some sums) = group_line g sums

-- The lines of the groups below n, in their order.
abbrev pub lines_below : ℕ → List (Option GroupSums) → List ℕ
lines_below zero groups = []
lines_below (suc g) groups = lines_below g groups ++ line_if g (slice_index_or groups g None)

abbrev pub records_line : ℕ → List ℕ
records_line records = count_text (codes "records ") records ++ codes "\n"

-- The groups, and then the records of the run with its Start and its Stop.
unfoldable pub summary_text : List (Option GroupSums) → (records : ℕ) → List ℕ
summary_text groups records = lines_below 16 groups ++ records_line records

abbrev pub text_of : Summary → List ℕ
text_of summary = summary_text summary.groups summary.records
