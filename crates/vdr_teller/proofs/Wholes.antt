-- What each visitor prints of records, and behind the last, is what is told of them.
use Rattle.std.proofs.Common.{◌≡◌, ◌∙◌, ◌++◌, ◌∷◌, ℕ, ℤ, List, [], fold, refl, sym, ap}
use Rattle.vdr_terms.specs.Records.{Record}
use Rattle.vdr_durability.specs.Sources.{Row}
use Rattle.vdr_visit.specs.Prints.{lines_behind, text_of, whole_text}
use Rattle.vdr_sources.specs.Tables.{sources_of, sources_text, with_record as with_sources}
use Rattle.vdr_sources.proofs.Lines.{by_records}
use Rattle.vdr_watch.specs.Signs.{Sign}
use Rattle.vdr_watch.specs.Supervision.{met_in}
use Rattle.vdr_watch.specs.Texts.{closing_text, record_text, records_text, watch_text}
use Rattle.vdr_watch.proofs.Records.{met_with}
use Rattle.vdr_ais.specs.Targets.{targets_of, targets_text}
use Rattle.vdr_recorder.proofs.Printing.{no_lines}
use Rattle.vdr_control.specs.declared.order.Telling.TheVariants.{Sources, Targets}
use Rattle.vdr_teller.specs.Tellings.{told_text}

-- What a watcher prints of a record.
abbrev pub shown : List Record → Record → List ℕ
shown seen r = record_text (met_in seen) r

abbrev pub closing : List Record → List ℕ
closing seen = closing_text seen

behind : (seen records : List Record) → lines_behind shown seen records ≡ records_text (met_in seen) records
behind seen [] = refl
behind seen (r ∷ rs) = ap (λ (text : List ℕ). shown seen r ++ text) (behind (seen ++ r ∷ []) rs ∙ ap (λ (met : List Sign). records_text met rs) (met_with seen r))

pub lines_shown : (records : List Record) → text_of shown records ≡ records_text [] records
lines_shown records = behind [] records

pub all_shown : (records : List Record) → whole_text shown closing records ≡ watch_text records
unfolding watch_text
all_shown records = ap (λ (text : List ℕ). text ++ closing records) (lines_shown records)

-- A table is printed behind the last record alone.
pub table_alone : (last : List Record → List ℕ) (records : List Record) → whole_text (λ seen r. []) last records ≡ last records
table_alone last records = ap (λ (text : List ℕ). text ++ last records) (no_lines [] records)

pub sources_whole : (first : List Row) (records : List Record) → first ≡ [] → whole_text (λ seen r. []) (λ seen. sources_text (fold with_sources first seen)) records ≡ told_text Sources records
sources_whole first records none =
    table_alone (λ seen. sources_text (fold with_sources first seen)) records ∙ ap (λ (rows : List Row). sources_text (fold with_sources rows records)) none ∙ ap sources_text (by_records [] records)

pub targets_whole : (at : ℤ) (records : List Record) → whole_text (λ seen r. []) (λ seen. targets_text (targets_of seen)) records ≡ told_text (Targets at) records
targets_whole at records = table_alone (λ seen. targets_text (targets_of seen)) records
