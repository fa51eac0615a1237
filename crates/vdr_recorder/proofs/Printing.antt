-- What a player and a counter of sources have printed, as the texts of records.
use Rattle.std.proofs.Common.{◌≡◌, ◌++◌, ◌∷◌, ℕ, List, [], Option, Result, Ok, Err, OnOk, None, Some, fold, refl, sym, ap, ◌∙◌, subst, append-nil}
use Rattle.std.specs.Bool.{⊤}
use Rattle.std.specs.Io.KnownBytes.{Appends, Keeps}
use Rattle.std.proofs.lemmas.List.Sums.{fold-append}
use Rattle.vdr_terms.specs.Queries.{Query}
use Rattle.vdr_terms.specs.Records.{Record}
use Rattle.vdr_core.specs.Histories.{Event, Opening}
use Rattle.vdr_durability.specs.Playback.{selected}
use Rattle.vdr_durability.specs.Sources.{Row}
use Rattle.vdr_outside.specs.Disk.{Disk}
use Rattle.vdr_outside.specs.Writes.{AppendsFront}
use Rattle.vdr_directory.specs.Sequence.{Placed}
use Rattle.vdr_play.specs.Streams.{Seen, nothing_seen, seen_after}
use Rattle.vdr_play.specs.Texts.{record_text, records_text, seen_by}
use Rattle.vdr_sources.specs.Tables.{sources_of, sources_text, with_record}
use Rattle.vdr_sources.proofs.Lines.{by_records}
use Rattle.vdr_vault.specs.Plays.{TellsDamageOf}
use Rattle.vdr_vault.specs.Vaults.{IsReadable, VaultState}
use Rattle.vdr_visit.specs.Prints.{lines_behind, text_of, whole_text}
use Rattle.vdr_visit.specs.Visits.{AreVisited, HasMade}
use Rattle.vdr_vault.specs.Visits.{HasVisited}
use Rattle.vdr_visit.specs.declared.visit_refused.VisitRefused.{VisitRefused}
use Rattle.vdr_visit.specs.declared.visit_refused.VisitRefused.TheVariants.{NoChannel, NoIncident, Fault, Damaged, Output, Own}
use Rattle.vdr_recorder.specs.Playing.{HasLines, HasPlayed, HasTable, HasTold}

-- What is printed of a record, from these tracks on.
abbrev pub line_after : Seen → List Record → Record → List ℕ
line_after first seen r = record_text (seen_by first seen) r

seen_with : (first : Seen) (seen : List Record) (r : Record) → seen_by first (seen ++ r ∷ []) ≡ seen_after (seen_by first seen) r.content
seen_with first [] r = refl
seen_with first (x ∷ xs) r = seen_with (seen_after first x.content) xs r

behind : (first : Seen) (seen records : List Record) → lines_behind (line_after first) seen records ≡ records_text (seen_by first seen) records
behind first seen [] = refl
behind first seen (r ∷ rs) =
    ap (λ (l : List ℕ). record_text (seen_by first seen) r ++ l) (behind first (seen ++ r ∷ []) rs ∙ ap (λ (s : Seen). records_text s rs) (seen_with first seen r))

-- The tracks with one more record.
pub tracks_with : (first now after : Seen) (seen : List Record) (r : Record) → now ≡ seen_by first seen → after ≡ seen_after now r.content → after ≡ seen_by first (seen ++ r ∷ [])
tracks_with first now after seen r had is = is ∙ ap (λ (s : Seen). seen_after s r.content) had ∙ sym (seen_with first seen r)

-- The text of a player that has printed nothing.
pub lines_are : (first : Seen) (records : List Record) → first ≡ nothing_seen → text_of (line_after first) records ≡ records_text nothing_seen records
lines_are first records new = behind first [] records ∙ ap (λ (s : Seen). records_text s records) new

pub whole_is : (first : Seen) (records : List Record) → first ≡ nothing_seen → whole_text (line_after first) (λ all. []) records ≡ records_text nothing_seen records
whole_is first records new = append-nil (text_of (line_after first) records) ∙ lines_are first records new

module _ {tells tells_images : Type 0} {R : Type 0} (query : Query) (vault : VaultState) (disk : Disk tells tells_images) (was now : Option (List ℕ)) (result : Result ⊤ (VisitRefused R)) where
  -- What a player was handed stands in the output as text.
  pub played : (first : Seen) (Has : List Record → Type 0) → first ≡ nothing_seen
      → TellsDamageOf query vault disk (λ m offset. result ≡ Err (Damaged m offset)) (result ≡ Ok tt)
      → HasVisited query vault disk Has (λ seen reason. ⊥) (line_after first) (whole_text (line_after first) (λ all. [])) was now result → HasPlayed query vault disk was now result
  played first Has new damage v = record {
    printed = v.seen;
    lines = lines result v.made;
    damage = damage;
    are = v.are;
    front = λ opening events placed told readable.
        subst (λ (l : List ℕ). AppendsFront was now l) (whole_is first (selected opening events query) new) (v.front opening events placed told readable);
  }
    where
      told : Appends was now (text_of (line_after first) v.seen) → Appends was now (records_text nothing_seen v.seen)
      told h = subst (λ (l : List ℕ). Appends was now l) (lines_are first v.seen new) h

      lines : (r : Result ⊤ (VisitRefused R)) → HasMade (Has v.seen) (λ reason. ⊥) (line_after first) (whole_text (line_after first) (λ all. []) v.seen) v.seen was now r → HasLines v.seen was now r
      lines (Ok all) m = subst (λ (l : List ℕ). Appends was now l) (whole_is first v.seen new) m.1
      lines (Err NoChannel) m = told m.1
      lines (Err NoIncident) m = told m.1
      lines (Err Fault) m = told m.1
      lines (Err (Damaged k offset)) m = told m.1
      lines (Err Output) m = tt
      lines (Err (Own reason)) m = m.0

-- A visitor that prints nothing of a record has no lines.
pub no_lines : (seen records : List Record) → lines_behind (λ before r. []) seen records ≡ []
no_lines seen [] = refl
no_lines seen (r ∷ rs) = no_lines (seen ++ r ∷ []) rs

nothing_printed : (was now : Option (List ℕ)) (text : List ℕ) → text ≡ [] → Appends was now text → Keeps was now
nothing_printed was now text none h = kept was now (subst (λ (l : List ℕ). Appends was now l) none h)
  where
    kept : (was now : Option (List ℕ)) → Appends was now [] → Keeps was now
    kept None now h = tt
    kept (Some x) None h = h
    kept (Some x) (Some y) h = h ∙ append-nil x

-- The table with one more record.
pub table_with : (first now after : List Row) (seen : List Record) (r : Record) → now ≡ fold with_record first seen → after ≡ with_record now r → after ≡ fold with_record first (seen ++ r ∷ [])
table_with first now after seen r had is = is ∙ ap (λ (rows : List Row). with_record rows r) had ∙ sym (fold-append with_record first seen (r ∷ []))

table_is : (first : List Row) (records : List Record) → first ≡ [] → whole_text (λ before r. []) (λ seen. sources_text (fold with_record first seen)) records ≡ sources_text (sources_of records)
table_is first records new =
    ap (λ (l : List ℕ). l ++ sources_text (fold with_record first records)) (no_lines [] records)
    ∙ ap (λ (rows : List Row). sources_text (fold with_record rows records)) new ∙ ap sources_text (by_records [] records)

module _ {tells tells_images : Type 0} {R : Type 0} (query : Query) (vault : VaultState) (disk : Disk tells tells_images) (was now : Option (List ℕ)) (result : Result ⊤ (VisitRefused R)) where
  -- What a counter was handed stands in the output as a table, or nothing does.
  pub told : (first : List Row) (Has : List Record → Type 0) (Stops : List Record → R → Type 0) → first ≡ []
      → TellsDamageOf query vault disk (λ m offset. result ≡ Err (Damaged m offset)) (result ≡ Ok tt)
      → HasVisited query vault disk Has Stops (λ before r. []) (whole_text (λ before r. []) (λ seen. sources_text (fold with_record first seen))) was now result → HasTold query vault disk was now result
  told first Has Stops new damage v = record {
    counted = v.seen;
    table = table result v.made;
    damage = damage;
    are = v.are;
    front = λ opening events placed known readable.
        subst (λ (l : List ℕ). AppendsFront was now l) (table_is first (selected opening events query) new) (v.front opening events placed known readable);
  }
    where
      table : (r : Result ⊤ (VisitRefused R)) → HasMade (Has v.seen) (Stops v.seen) (λ before r. []) (whole_text (λ before r. []) (λ seen. sources_text (fold with_record first seen)) v.seen) v.seen was now r
          → HasTable v.seen was now r
      table (Ok all) m = subst (λ (l : List ℕ). Appends was now l) (table_is first v.seen new) m.1
      table (Err NoChannel) m = nothing_printed was now _ (no_lines [] v.seen) m.1
      table (Err NoIncident) m = nothing_printed was now _ (no_lines [] v.seen) m.1
      table (Err Fault) m = nothing_printed was now _ (no_lines [] v.seen) m.1
      table (Err (Damaged k offset)) m = nothing_printed was now _ (no_lines [] v.seen) m.1
      table (Err Output) m = tt
      table (Err (Own reason)) m = nothing_printed was now _ (no_lines [] m.1) m.4

-- What was visited is never told as damaged where the media can be read.
never_damaged : {R : Type 0} (seen records : List Record) (result : Result ⊤ (VisitRefused R)) → AreVisited seen records result → (m offset : ℕ) → result ≡ Err (Damaged m offset) → ⊥
never_damaged {R = R} seen records result are m offset is = subst (λ (o : Result ⊤ (VisitRefused R)). AreVisited seen records o) is are

module _ {tells tells_images : Type 0} {R : Type 0} {query : Query} {vault : VaultState} {disk : Disk tells tells_images} {was now : Option (List ℕ)} {result : Result ⊤ (VisitRefused R)}
    (opening : Opening) (events : List Event) (placed : ℕ → List Placed) (known : tells) (readable : IsReadable opening events vault placed disk) where
  -- A play that ended printed all.
  pub played_all : HasPlayed query vault disk was now result → OnOk result (Appends was now (records_text nothing_seen (selected opening events query)))
  played_all p = by result p.lines (p.are opening events placed known readable)
    where
      by : (r : Result ⊤ (VisitRefused R)) → HasLines p.printed was now r → AreVisited p.printed (selected opening events query) r → OnOk r (Appends was now (records_text nothing_seen (selected opening events query)))
      by (Ok all) lines are = subst (λ (rs : List Record). Appends was now (records_text nothing_seen rs)) are lines
      by (Err stop) lines are = tt

  pub played_undamaged : HasPlayed query vault disk was now result → (m offset : ℕ) → result ≡ Err (Damaged m offset) → ⊥
  played_undamaged p = never_damaged p.printed (selected opening events query) result (p.are opening events placed known readable)
