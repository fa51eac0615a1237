-- Looking rows up in the table, and what each of them keeps.
use Rattle.std.proofs.Common.{◌≡◌, ◌+◌, ◌*◌, ◌-◌, ◌∙◌, ℕ, zero, suc, Bool, true, false, cond, ◌&&◌, List, [], ◌∷◌, ◌++◌, length, map, get_or, find, bytes_eq, Option, Some, None, option_map, refl, sym, ap, subst, eqb, leb, ltb, ◌%◌, IfSome}
use Rattle.std.specs.List.{list_all}
use Rattle.std.specs.Option.{option_or}
use Rattle.std.proofs.lemmas.Bool.{and_parts}
use Rattle.std.proofs.lemmas.List.Folds.{find-append}
use Rattle.std.proofs.lemmas.Slice.Eq.{bytes_eq-Decides}
use Rattle.vdr_values.specs.declared.row.Row.{Row as Seen}
use Rattle.vdr_values.specs.Forms.{Form, Raw, is_sound}
use Rattle.vdr_values.specs.Rows.{Row, form_at, is_fit}
use Rattle.vdr_values.specs.Table.{row_named, table}
use Rattle.vdr_values.specs.Navigation.{navigation}
use Rattle.vdr_values.specs.Machinery.{machinery}
use Rattle.vdr_values.specs.Alerts.{alerts}
use Rattle.vdr_values.specs.Traffic.{traffic}
use Rattle.vdr_values.specs.Views.{row_of}
use Rattle.vdr_values.proofs.Costs.{is_once, words}

pub find-map : {A : Type 0} (f : A → Row) (p : Row → Bool) (xs : List A) → option_map f (find (λ x. p (f x)) xs) ≡ find p (map f xs)
find-map f p [] = refl
find-map f p (x ∷ xs) = by_test (p (f x)) (find-map f p xs)
  where
    by_test : (t : Bool) → option_map f (find (λ y. p (f y)) xs) ≡ find p (map f xs) → option_map f (cond t (Some x) (find (λ y. p (f y)) xs)) ≡ cond t (Some (f x)) (find p (map f xs))
    by_test true more = refl
    by_test false more = more

-- What is found passes the test, and all that each element passes.
pub find-passes : (p q : Row → Bool) (rows : List Row) (r : Row) → list_all q rows ≡ true → find p rows ≡ Some r → (p r ≡ true) × (q r ≡ true)
find-passes p q [] r all h = absurd (cc)
find-passes p q (x ∷ rows) r all h = let parts = and_parts (q x) (list_all q rows) all in by_test (p x) refl parts.0 h (find-passes p q rows r parts.1)
  where
    by_test : (t : Bool) → p x ≡ t → q x ≡ true → cond t (Some x) (find p rows) ≡ Some r → (find p rows ≡ Some r → (p r ≡ true) × (q r ≡ true)) → (p r ≡ true) × (q r ≡ true)
    by_test true e here h more = let same : x ≡ r = cc in subst (λ y. (p y ≡ true) × (q y ≡ true)) same (e, here)
    by_test false e here h more = more h

-- A reading's text has room: beside the words there are 284 bytes for what fields of 71 bytes say, 355 where some stand behind a space, and four for
-- each field that is left out.
abbrev pub has_room : Row → Bool
has_room row =
    is_once (length row.fields) row.text
    && list_all (λ n. leb n (length row.fields) && leb (words row.text + 4 * (length row.fields - n)) 116) row.shorter
    && leb (words row.text) (cond (eqb (length row.group) 0) 116 45)
    && eqb (length row.formatter) 3

abbrev pub is_good : Row → Bool
is_good row = is_fit row && has_room row

pub all_good : list_all is_good table ≡ true
unfolding table
all_good = refl

pub named-good : (name : List ℕ) (row : Row) → row_named name ≡ Some row → (row.formatter ≡ name) × (is_good row ≡ true)
named-good name row h =
    let p = find-passes (λ r. bytes_eq r.formatter name) is_good table row all_good h in
    ((bytes_eq-Decides row.formatter name).0 p.0, p.1)

abbrev pub is_named : List ℕ → Row → Bool
is_named name r = bytes_eq r.formatter name

-- What is found in the parts of the table, one after the other, is found in the table.
pub named-in_parts : (name : List ℕ) (a b c d : Option Row) → a ≡ find (is_named name) navigation → b ≡ option_or a (find (is_named name) machinery) → c ≡ option_or b (find (is_named name) alerts)
    → d ≡ option_or c (find (is_named name) traffic) → d ≡ row_named name
unfolding table
named-in_parts name a b c d at_a at_b at_c at_d =
    let p : Row → Bool = is_named name in
    let two : b ≡ find p (navigation ++ machinery) = at_b ∙ ap (λ o. option_or o (find p machinery)) at_a ∙ sym (find-append p navigation machinery) in
    let three : c ≡ find p (navigation ++ machinery ++ alerts) = at_c ∙ ap (λ o. option_or o (find p alerts)) two ∙ sym (find-append p (navigation ++ machinery) alerts) in
    at_d ∙ ap (λ o. option_or o (find p traffic)) three ∙ sym (find-append p (navigation ++ machinery ++ alerts) traffic)

pub fit-named : (name : List ℕ) (o : Option Seen) → option_map row_of o ≡ row_named name → IfSome o (λ r. is_fit (row_of r) ≡ true)
fit-named name None h = tt
fit-named name (Some r) h = (and_parts _ _ (named-good name (row_of r) (sym h)).1).0

sound-get : (forms : List Form) (i : ℕ) → list_all is_sound forms ≡ true → is_sound (get_or forms i Raw) ≡ true
sound-get [] i h = refl
sound-get (form ∷ forms) zero h = (and_parts _ _ h).0
sound-get (form ∷ forms) (suc i) h = sound-get forms i (and_parts _ _ h).1

pub sound-form : (row : Row) (i : ℕ) → is_fit row ≡ true → is_sound (form_at row i) ≡ true
sound-form row i fit = by_test (ltb i (length row.fields))
  where
    sounds : (list_all is_sound row.fields ≡ true) × (list_all is_sound row.group ≡ true)
    sounds = and_parts _ _ (and_parts _ _ (and_parts _ _ fit).0).0

    by_test : (t : Bool) → is_sound (cond t (get_or row.fields i Raw) (get_or row.group ((i - length row.fields) % length row.group) Raw)) ≡ true
    by_test true = sound-get row.fields i sounds.0
    by_test false = sound-get row.group ((i - length row.fields) % length row.group) sounds.1

pub sound-forms : (row : Row) (places : List ℕ) → is_fit row ≡ true → list_all is_sound (map (form_at row) places) ≡ true
sound-forms row [] fit = refl
sound-forms row (i ∷ places) fit = (λ j. sound-form row i fit j && sound-forms row places fit j)
