-- Printing the records of a window one after the other.
use Rattle.std.proofs.Common.{◌≡◌, ℕ, List, [], ◌∷◌, ◌++◌, Option, sym, ap, ◌∙◌, subst, append_assoc}
use Rattle.std.specs.Io.KnownBytes.{Appends}
use Rattle.std.proofs.KnownBytes.{Appends-trans}
use Rattle.std.proofs.lemmas.List.Elements.{filter-append}
use Rattle.vdr_terms.specs.Records.{Record, second}
use Rattle.vdr_terms.specs.Windows.{in_window}
use Rattle.vdr_outside.specs.Writes.{AppendsFront}
use Rattle.vdr_play.specs.Streams.{Seen, nothing_seen}
use Rattle.vdr_play.specs.Texts.{records_text, seen_by}
use Rattle.vdr_play.proofs.RecordLemmas.{records_text-append, seen_by-append}
use Rattle.vdr_review.specs.Review.{review_seconds, shown_records}

abbrev text : ℕ → Seen → List Record → List ℕ
text last seen records = records_text seen (shown_records last records)

abbrev seen_of : ℕ → Seen → List Record → Seen
seen_of last seen records = seen_by seen (shown_records last records)

shown-append : (last : ℕ) (xs ys : List Record) → shown_records last (xs ++ ys) ≡ shown_records last xs ++ shown_records last ys
shown-append last xs ys = filter-append (λ (r : Record). in_window (second r.tick) last review_seconds) xs ys

text-append : (last : ℕ) (seen : Seen) (xs ys : List Record) → text last seen (xs ++ ys) ≡ text last seen xs ++ text last (seen_of last seen xs) ys
text-append last seen xs ys = ap (records_text seen) (shown-append last xs ys) ∙ records_text-append seen (shown_records last xs) (shown_records last ys)

seen-append : (last : ℕ) (seen : Seen) (xs ys : List Record) → seen_of last seen (xs ++ ys) ≡ seen_of last (seen_of last seen xs) ys
seen-append last seen xs ys = ap (seen_by seen) (shown-append last xs ys) ∙ seen_by-append seen (shown_records last xs) (shown_records last ys)

-- So many were printed, and these are left.
pub record Printed (old now : Option (List ℕ)) (seen : Seen) (last : ℕ) (all rest : List Record) : Type 0 where
  pub done : List Record
  pub parts : all ≡ done ++ rest
  pub saw : seen ≡ seen_of last nothing_seen done
  pub wrote : Appends old now (text last nothing_seen done)

pub print_more : (old mid now : Option (List ℕ)) (seen then_seen : Seen) (last : ℕ) (all rest left : List Record) (r : Record) → Printed old mid seen last all rest → rest ≡ r ∷ left
    → Appends mid now (text last seen (r ∷ [])) → then_seen ≡ seen_of last seen (r ∷ []) → Printed old now then_seen last all left
print_more old mid now seen then_seen last all rest left r p e wrote saw = record {
  done = p.done ++ r ∷ [];
  parts = p.parts ∙ (ap (λ (xs : List Record). p.done ++ xs) e ∙ sym (append_assoc p.done (r ∷ []) left));
  saw = saw ∙ (ap (λ (s : Seen). seen_of last s (r ∷ [])) p.saw ∙ sym (seen-append last nothing_seen p.done (r ∷ [])));
  wrote = subst (λ (t : List ℕ). Appends old now t) (sym (text-append last nothing_seen p.done (r ∷ [])))
      (Appends-trans old mid now (text last nothing_seen p.done) (text last (seen_of last nothing_seen p.done) (r ∷ [])) p.wrote
      (subst (λ (s : Seen). Appends mid now (text last s (r ∷ []))) p.saw wrote));
}

pub print_front : (old mid now : Option (List ℕ)) (seen : Seen) (last : ℕ) (all rest left : List Record) (r : Record) → Printed old mid seen last all rest → rest ≡ r ∷ left
    → AppendsFront mid now (text last seen (r ∷ [])) → AppendsFront old now (text last nothing_seen all)
print_front old mid now seen last all rest left r p e front =
    let before : List ℕ = text last nothing_seen p.done in
    let then_seen : Seen = seen_of last nothing_seen p.done in
    let after : List ℕ = text last (seen_of last then_seen (r ∷ [])) left in
    let f : AppendsFront mid now (text last then_seen (r ∷ [])) = subst (λ (s : Seen). AppendsFront mid now (text last s (r ∷ []))) p.saw front in (
      before ++ f.0,
      f.1 ++ after,
      ap (text last nothing_seen) (p.parts ∙ ap (λ (xs : List Record). p.done ++ xs) e)
          ∙ (text-append last nothing_seen p.done (r ∷ left)
          ∙ (ap (λ (t : List ℕ). before ++ t) (text-append last then_seen (r ∷ []) left ∙ ap (λ (t : List ℕ). t ++ after) f.2)
          ∙ (ap (λ (t : List ℕ). before ++ t) (append_assoc f.0 f.1 after) ∙ sym (append_assoc before f.0 (f.1 ++ after))))),
      Appends-trans old mid now before f.0 p.wrote f.3,
    )
