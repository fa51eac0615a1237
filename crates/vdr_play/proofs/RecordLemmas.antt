-- Records printed one after another.
use Rattle.std.proofs.Common.{◌≡◌, ℕ, List, [], ◌∷◌, ◌++◌, sym, ap, ◌∙◌, refl, append_assoc}
use Rattle.vdr_terms.specs.Records.{Record}
use Rattle.vdr_play.specs.Streams.{Seen, seen_after}
use Rattle.vdr_play.specs.Texts.{record_text, records_text, seen_by}

pub records_text-append : (seen : Seen) (xs ys : List Record) → records_text seen (xs ++ ys) ≡ records_text seen xs ++ records_text (seen_by seen xs) ys
records_text-append seen [] ys = refl
records_text-append seen (x ∷ xs) ys =
    ap (λ (t : List ℕ). record_text seen x ++ t) (records_text-append (seen_after seen x.content) xs ys)
    ∙ sym (append_assoc (record_text seen x) (records_text (seen_after seen x.content) xs) (records_text (seen_by seen (x ∷ xs)) ys))

pub seen_by-append : (seen : Seen) (xs ys : List Record) → seen_by seen (xs ++ ys) ≡ seen_by (seen_by seen xs) ys
seen_by-append seen [] ys = refl
seen_by-append seen (x ∷ xs) ys = seen_by-append (seen_after seen x.content) xs ys
