-- What a visitor prints of records, one after another, is the text of their runs.
use Rattle.std.proofs.Common.{◌≡◌, ◌∙◌, List, [], ◌∷◌, ◌++◌, ℕ, Option, None, ap, refl}
use Rattle.std.proofs.lemmas.List.Sums.{fold-append}
use Rattle.vdr_terms.specs.Records.{Record}
use Rattle.vdr_visit.specs.Prints.{lines_behind, text_of, whole_text}
use Rattle.vdr_runs.specs.Runs.{Run, last_lines, line_at, open_behind, records_text, run_after, runs_text}

behind : (seen records : List Record) → lines_behind line_at seen records ≡ records_text (open_behind None seen) records
behind seen [] = refl
behind seen (r ∷ rs) = ap (λ (text : List ℕ). line_at seen r ++ text)
    (behind (seen ++ r ∷ []) rs ∙ ap (λ (current : Option Run). records_text current rs) (fold-append run_after None seen (r ∷ [])))

pub lines_told : (records : List Record) → text_of line_at records ≡ records_text None records
lines_told records = behind [] records

pub all_told : (records : List Record) → whole_text line_at last_lines records ≡ runs_text records
unfolding runs_text
all_told records = ap (λ (text : List ℕ). text ++ last_lines records) (lines_told records)
