-- Where two media differ, and what one of them lacks (this project's profile).
use Rattle.std.specs.Prelude.{◌+◌, ◌&&◌, ◌==◌, ℕ, Bool, true, false, if◌then◌else◌, min, max, List, [], ◌∷◌, ◌++◌, fold, codes, decimal, Option, Some, None}
use Rattle.std.specs.List.{flat_map}
use Rattle.vdr_terms.specs.Windows.{in_window}
use Rattle.vdr_rescue.specs.declared.lacking.Places.{Places}
use Rattle.vdr_compare.specs.declared.difference.Difference.{Difference}
use Rattle.vdr_compare.specs.declared.difference.Difference.TheVariants.{Differs, Lacks}
use Rattle.vdr_compare.specs.declared.difference.Verdict.{Verdict}
use Rattle.vdr_compare.specs.declared.difference.Verdict.TheVariants as verdict
use Rattle.vdr_compare.specs.declared.standing.Standing.{Standing}
use Rattle.vdr_compare.specs.declared.standing.Standing.TheVariants.{Both, Capsule, LongTerm}
use Rattle.vdr_compare.specs.declared.standing.Windows.{Windows}

-- What is said of one place: both records differ, or a medium lacks it in whose window it is. Medium 0 is the capsule.
abbrev pub difference_at : Windows → Standing → Option Difference
difference_at w (Both place true) = None
difference_at w (Both place false) = Some (Differs place)
difference_at w (Capsule place second) = if in_window second w.last_second w.longterm then Some (Lacks 1 place place) else None
difference_at w (LongTerm place second) = if in_window second w.last_second w.capsule then Some (Lacks 0 place place) else None

abbrev pub said : Option Difference → List Difference
said None = []
said (Some x) = x ∷ []

abbrev pub differences : Windows → List Standing → List Difference
differences w standings = flat_map (λ s. said (difference_at w s)) standings

-- The second goes on where the first ends: one medium lacks both, and no place is between them.
abbrev pub goes_on : Difference → Difference → Bool
goes_on (Differs place) next = false
goes_on (Lacks m a b) (Differs place) = false
goes_on (Lacks m a b) (Lacks n c d) = m == n && c == b + 1

-- Both as one run of places.
abbrev pub with_next : Difference → Difference → Difference
with_next (Differs place) next = next
with_next (Lacks m a b) (Differs place) = Lacks m a b
with_next (Lacks m a b) (Lacks n c d) = Lacks m a d

-- One before others that are joined.
abbrev pub joined_before : Difference → List Difference → List Difference
joined_before x [] = x ∷ []
joined_before x (y ∷ ys) = if goes_on x y then with_next x y ∷ ys else x ∷ y ∷ ys

-- The longest runs of places that one medium lacks, and each place that differs.
abbrev pub joined : List Difference → List Difference
joined [] = []
joined (x ∷ xs) = joined_before x (joined xs)

-- The least and the greatest place that stand on both with the same bytes.
abbrev pub spanned : Option Places → ℕ → Places
spanned None place = record { a = place; b = place }
spanned (Some span) place = record { a = min span.a place; b = max span.b place }

abbrev pub same_with : Option Places → Standing → Option Places
same_with span (Both place true) = Some (spanned span place)
same_with span (Both place false) = span
same_with span (Capsule place second) = span
same_with span (LongTerm place second) = span

abbrev pub same_places : List Standing → Option Places
same_places standings = fold same_with None standings

-- The lines.
abbrev pub medium_name : ℕ → List ℕ
medium_name m = if m == 0 then codes "capsule" else codes "longterm"

abbrev pub line_of : Difference → List ℕ
line_of (Differs place) = codes "differs " ++ decimal place ++ codes "\n"
line_of (Lacks m a b) = codes "lacks " ++ medium_name m ++ codes " " ++ decimal a ++ codes " " ++ decimal b ++ codes "\n"

abbrev pub lines_of : List Difference → List ℕ
lines_of xs = flat_map line_of xs

abbrev pub same_line : Option Places → List ℕ
same_line None = codes "same - -\n"
same_line (Some span) = codes "same " ++ decimal span.a ++ codes " " ++ decimal span.b ++ codes "\n"

-- What a comparison comes to: its first line but the last.
abbrev pub verdict_of : Difference → Verdict
verdict_of (Differs place) = verdict.Differs place
verdict_of (Lacks m a b) = verdict.Lacks a

abbrev pub verdict_with : Verdict → Difference → Verdict
verdict_with verdict.Same x = verdict_of x
verdict_with verdict.Configuration x = verdict.Configuration
verdict_with (verdict.Damaged m offset) x = verdict.Damaged m offset
verdict_with (verdict.Differs place) x = verdict.Differs place
verdict_with (verdict.Lacks place) x = verdict.Lacks place
