use Rattle.std.proofs.Common.{◌≡◌, ◌∙◌, ap, sym, ℕ, List, Option, Some, None, Result, Ok, Err, length, refl}
use Rattle.vdr_sentence.specs.Addresses.{address_of}
use Rattle.vdr_values.specs.Rows.{Row, forms_of}
use Rattle.vdr_values.specs.Readings.{fields_of, read_as, read_by, reading, told, with_values}
use Rattle.vdr_values.specs.Table.{row_for}
use Rattle.vdr_values.proofs.Along.{Values}
use Rattle.vdr_values.proofs.ByNumber.{AreRead-from_ok, IsFirstBad-from_err, err-from_IsFirstBad, ok-from_AreRead}
use Rattle.vdr_values.proofs.laws.law_of_reading.Goals as goal

unknown-from_nothing : (o : Option Row) (parts : List (List ℕ)) → read_as o parts ≡ Ok None → o ≡ None
unknown-from_nothing None parts h = refl
unknown-from_nothing (Some row) parts h = by_values (read_by row parts) h
  where
    by_values : (read : Result Values ℕ) → with_values row read ≡ Ok None → Some row ≡ None
    by_values (Ok values) h = absurd (cc)
    by_values (Err bad) h = absurd (cc)

values-from_told : (row : Row) (read : Result Values ℕ) (values : Values) → with_values row read ≡ Ok (Some (told row values)) → read ≡ Ok values
values-from_told row (Ok read) values h = let same : told row read ≡ told row values = cc in ap (λ r. Ok r.values) same
values-from_told row (Err bad) values h = absurd (cc)

bad-from_refused : (row : Row) (read : Result Values ℕ) (bad : ℕ) → with_values row read ≡ Err bad → read ≡ Err bad
bad-from_refused row (Ok values) bad h = absurd (cc)
bad-from_refused row (Err b) bad h = cc

of-formatter : (content : List ℕ) (row : Row) → row_for (address_of content) ≡ Some row → reading content ≡ with_values row (read_by row (fields_of content))
unfolding reading
of-formatter content row h = ap (λ o. read_as o (fields_of content)) h

of-unknown : (content : List ℕ) → reading content ≡ Ok None → row_for (address_of content) ≡ None
unfolding reading
of-unknown content h = unknown-from_nothing (row_for (address_of content)) (fields_of content) h

to-unknown : (content : List ℕ) → row_for (address_of content) ≡ None → reading content ≡ Ok None
unfolding reading
to-unknown content h = ap (λ o. read_as o (fields_of content)) h

pub returns : goal.returns
returns c = record {
  unknown = λ content. (of-unknown content, to-unknown content);
  read = λ content row values known. (
    λ h. AreRead-from_ok content (forms_of row (length (fields_of content))) values (values-from_told row _ values (sym (of-formatter content row known) ∙ h)),
    λ h. of-formatter content row known ∙ ap (with_values row) (ok-from_AreRead content (forms_of row (length (fields_of content))) values h),
  );
  refused = λ content row number known. (
    λ h. IsFirstBad-from_err content (forms_of row (length (fields_of content))) number (bad-from_refused row _ number (sym (of-formatter content row known) ∙ h)),
    λ h. of-formatter content row known ∙ ap (with_values row) (err-from_IsFirstBad content (forms_of row (length (fields_of content))) number h),
  );
}
