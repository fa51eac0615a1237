-- What is known of records, with one more.
use Rattle.std.proofs.Common.{◌≡◌, ◌+◌, ◌-◌, ◌^◌, ℕ, Bool, min, List, [], ◌∷◌, ◌++◌, length, Option, Some, None, ap, ◌∙◌, sym, append-nil, arith}
use Rattle.std.specs.List.{cons_option}
use Rattle.std.proofs.lemmas.Grind.{fold-append}
use Rattle.std.proofs.lemmas.List.{length-append}
use Rattle.std.proofs.lemmas.List.Elements.{filter_map-append}
use Rattle.vdr_terms.specs.Records.{Record}
use Rattle.vdr_page.specs.Gaps.{capped}
use Rattle.vdr_page.specs.Rows.{Load}
use Rattle.vdr_page.specs.Surveyed.{spare}
use Rattle.vdr_page.specs.Surveys.{bytes_where, size_where, stamp_in, stamps_of}

-- one more record with a stamp
pub stamped : (seen : List Record) (r : Record) (s : ℕ) → stamp_in r ≡ Some s → stamps_of (seen ++ r ∷ []) ≡ stamps_of seen ++ s ∷ []
stamped seen r s is = filter_map-append stamp_in seen (r ∷ []) ∙ ap (λ (o : Option ℕ). stamps_of seen ++ cons_option o []) is

-- and one without
pub unstamped : (seen : List Record) (r : Record) → stamp_in r ≡ None → stamps_of (seen ++ r ∷ []) ≡ stamps_of seen
unstamped seen r is = filter_map-append stamp_in seen (r ∷ []) ∙ ap (λ (o : Option ℕ). stamps_of seen ++ cons_option o []) is ∙ append-nil (stamps_of seen)

capped_next : (n : ℕ) → min (capped n + 1) (2 ^ 64 - 1) ≡ capped (n + 1)
capped_next n = omega arith

pub counted : (seen : List Record) (r : Record) (now : ℕ) → now ≡ capped (length seen) → min (now + 1) (2 ^ 64 - 1) ≡ capped (length (seen ++ r ∷ []))
counted seen r now is = ap (λ (n : ℕ). min (n + 1) (2 ^ 64 - 1)) is ∙ capped_next (length seen) ∙ ap capped (sym (length-append seen (r ∷ [])))

pub spent : (is : Load → Bool) (bound : ℕ) (seen : List Record) (r : Record) (size : ℕ) (left : Option ℕ) → size ≡ size_where is r.content → left ≡ spare bound (bytes_where is seen + size) → left ≡ spare bound (bytes_where is (seen ++ r ∷ []))
spent is bound seen r size left has left_is =
    left_is ∙ ap (λ (n : ℕ). spare bound (bytes_where is seen + n)) has ∙ ap (spare bound) (sym (fold-append (λ (n : ℕ) (x : Record). n + size_where is x.content) 0 seen (r ∷ [])))
