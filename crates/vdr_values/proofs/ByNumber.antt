-- Reading along the forms, by the numbers of the fields.
use Rattle.std.proofs.Common.{◌≡◌, ◌<◌, ◌+◌, ◌-◌, ◌∙◌, ℕ, zero, suc, List, [], ◌∷◌, length, drop, get_or, slice_get, eqb, false, Option, Some, None, Result, Ok, Err, refl, sym, ap, subst, arith, add-one}
use Rattle.std.proofs.lemmas.Bool.{ne_eqb}
use Rattle.vdr_sentence.specs.Fields.{field, fields}
use Rattle.vdr_values.specs.Values.{Value}
use Rattle.vdr_values.specs.Forms.{Form, Raw, field_value}
use Rattle.vdr_values.specs.Meanings.{AreRead, IsFirstBad}
use Rattle.vdr_values.specs.Readings.{read_along, then_values}
use Rattle.vdr_values.proofs.Along.{Values}
use Rattle.vdr_values.proofs.Cuts.{fields-first}
use Rattle.vdr_values.proofs.Legal.{then_values-ok}

-- The field at k, counted from 0, says this in its form.
record SaysAt (parts : List (List ℕ)) (k : ℕ) (form : Form) (value : Option Value) : Type 0 where
  text : List ℕ
  there : slice_get parts k ≡ Some text
  said : field_value form text ≡ Some value

record ReadAt (parts : List (List ℕ)) (forms : List Form) (values : Values) : Type 0 where
  counted : length values ≡ length forms
  each : (k : ℕ) → k < length forms → SaysAt parts k (get_or forms k Raw) (get_or values k None)

ReadAt-none : (parts : List (List ℕ)) → ReadAt parts [] []
ReadAt-none parts = record { counted = refl; each = λ k inside. absurd (omega (arith, inside)) }

ReadAt-more : (part : List ℕ) (parts : List (List ℕ)) (form : Form) (forms : List Form) (value : Option Value) (values : Values) → field_value form part ≡ Some value → ReadAt parts forms values
    → ReadAt (part ∷ parts) (form ∷ forms) (value ∷ values)
ReadAt-more part parts form forms value values said h = record { counted = ap suc h.counted; each = λ k. at k }
  where
    at : (k : ℕ) → k < length (form ∷ forms) → SaysAt (part ∷ parts) k (get_or (form ∷ forms) k Raw) (get_or (value ∷ values) k None)
    at zero inside = record { text = part; there = refl; said = said }
    at (suc k) inside = let s = h.each k (omega (arith, inside)) in record { text = s.text; there = s.there; said = s.said }

ReadAt-from_ok : (forms : List Form) (n : ℕ) (parts : List (List ℕ)) (values : Values) → read_along forms n parts ≡ Ok values → ReadAt parts forms values
ReadAt-from_ok [] n parts values h = let same : values ≡ [] = cc in subst (λ vs. ReadAt parts [] vs) (sym same) (ReadAt-none parts)
ReadAt-from_ok (form ∷ forms) n [] values h = absurd (cc)
ReadAt-from_ok (form ∷ forms) n (part ∷ parts) values h =
    let split = then_values-ok n (field_value form part) (read_along forms (n + 1) parts) values h in
    subst (λ vs. ReadAt (part ∷ parts) (form ∷ forms) vs) (sym split.joined) (ReadAt-more part parts form forms split.value split.rest split.first (ReadAt-from_ok forms (n + 1) parts split.rest split.others))

ok-from_ReadAt : (forms : List Form) (n : ℕ) (parts : List (List ℕ)) (values : Values) → ReadAt parts forms values → read_along forms n parts ≡ Ok values
ok-from_ReadAt [] n parts [] h = refl
ok-from_ReadAt [] n parts (value ∷ values) h = absurd (omega (arith, h.counted))
ok-from_ReadAt (form ∷ forms) n parts [] h = absurd (omega (arith, h.counted))
ok-from_ReadAt (form ∷ forms) n [] (value ∷ values) h = let s = h.each 0 (omega arith) in absurd (cc (s.there))
ok-from_ReadAt (form ∷ forms) n (part ∷ parts) (value ∷ values) h =
    let first = h.each 0 (omega arith) in
    let same : part ≡ first.text = cc (first.there) in
    let said : field_value form part ≡ Some value = ap (field_value form) same ∙ first.said in
    let others : ReadAt parts forms values = record { counted = omega (arith, h.counted); each = λ k inside. let s = h.each (suc k) (omega (arith, inside)) in record { text = s.text; there = s.there; said = s.said } } in
    (λ i. then_values n (said i) (ok-from_ReadAt forms (n + 1) parts values others i))

-- The field at k, counted from 0, is the first that is missing or outside its form.
record BadAt (parts : List (List ℕ)) (forms : List Form) (k : ℕ) : Type 0 where
  within : k < length forms
  before : (j : ℕ) → j < k → (value : Option Value) × SaysAt parts j (get_or forms j Raw) value
  bad : (text : List ℕ) → slice_get parts k ≡ Some text → field_value (get_or forms k Raw) text ≡ None

BadAt-later : (part : List ℕ) (parts : List (List ℕ)) (form : Form) (forms : List Form) (value : Option Value) (k : ℕ) → field_value form part ≡ Some value → BadAt parts forms k → BadAt (part ∷ parts) (form ∷ forms) (suc k)
BadAt-later part parts form forms value k said h = record { within = omega (arith, h.within); before = λ j. at j; bad = h.bad }
  where
    at : (j : ℕ) → j < suc k → (v : Option Value) × SaysAt (part ∷ parts) j (get_or (form ∷ forms) j Raw) v
    at zero below = (value, record { text = part; there = refl; said = said })
    at (suc j) below = let s = h.before j (omega (arith, below)) in (s.0, record { text = s.1.text; there = s.1.there; said = s.1.said })

record IsRefusedAt (n bad : ℕ) (parts : List (List ℕ)) (forms : List Form) : Type 0 where
  place : ℕ
  number : bad ≡ n + place
  first : BadAt parts forms place

refused-from_err : (forms : List Form) (n : ℕ) (parts : List (List ℕ)) (bad : ℕ) → read_along forms n parts ≡ Err bad → IsRefusedAt n bad parts forms
refused-from_err [] n parts bad h = absurd (cc)
refused-from_err (form ∷ forms) n [] bad h =
    let same : n ≡ bad = cc in
    record { place = 0; number = omega (arith, same); first = record { within = omega arith; before = λ j below. absurd (omega (arith, below)); bad = λ text there. absurd (cc (there)) } }
refused-from_err (form ∷ forms) n (part ∷ parts) bad h = by_field (field_value form part) refl (refused-from_err forms (n + 1) parts) h
  where
    by_later : (value : Option Value) (later : Result Values ℕ) → field_value form part ≡ Some value → ((b : ℕ) → later ≡ Err b → IsRefusedAt (n + 1) b parts forms) → then_values n (Some value) later ≡ Err bad
        → IsRefusedAt n bad (part ∷ parts) (form ∷ forms)
    by_later value (Ok values) said more h = absurd (cc)
    by_later value (Err b) said more h =
        let same : b ≡ bad = cc in
        let rest = more b refl in
        record { place = suc rest.place; number = omega (arith, same, rest.number); first = BadAt-later part parts form forms value rest.place said rest.first }

    by_field : (v : Option (Option Value)) → field_value form part ≡ v → ((b : ℕ) → read_along forms (n + 1) parts ≡ Err b → IsRefusedAt (n + 1) b parts forms) → then_values n v (read_along forms (n + 1) parts) ≡ Err bad
        → IsRefusedAt n bad (part ∷ parts) (form ∷ forms)
    by_field None said more h =
        let same : n ≡ bad = cc in
        record { place = 0; number = omega (arith, same); first = record { within = omega arith; before = λ j below. absurd (omega (arith, below)); bad = λ text there. let is : part ≡ text = cc (there) in subst (λ t. field_value form t ≡ None) is said } }
    by_field (Some value) said more h = by_later value (read_along forms (n + 1) parts) said more h

err-from_BadAt : (forms : List Form) (n : ℕ) (parts : List (List ℕ)) (k : ℕ) → BadAt parts forms k → read_along forms n parts ≡ Err (n + k)
err-from_BadAt [] n parts k h = absurd (omega (arith, h.within))
err-from_BadAt (form ∷ forms) n [] zero h = ap Err (omega arith)
err-from_BadAt (form ∷ forms) n [] (suc k) h = let s = (h.before 0 (omega arith)).1 in absurd (cc (s.there))
err-from_BadAt (form ∷ forms) n (part ∷ parts) zero h = ap (λ v. then_values n v (read_along forms (n + 1) parts)) (h.bad part refl) ∙ ap Err (omega arith)
err-from_BadAt (form ∷ forms) n (part ∷ parts) (suc k) h =
    let first = h.before 0 (omega arith) in
    let same : part ≡ first.1.text = cc (first.1.there) in
    let said : field_value form part ≡ Some first.0 = ap (field_value form) same ∙ first.1.said in
    let others : BadAt parts forms k = record { within = omega (arith, h.within); before = λ j below. let s = h.before (suc j) (omega (arith, below)) in (s.0, record { text = s.1.text; there = s.1.there; said = s.1.said }); bad = h.bad } in
    (λ i. then_values n (said i) (err-from_BadAt forms (n + 1) parts k others i)) ∙ ap Err (omega arith)

-- The fields behind the address are those that are counted from 1.
field-behind : (content : List ℕ) (k : ℕ) → field (k + 1) content ≡ slice_get (drop 1 (fields content)) k
field-behind content k =
    let cut = fields-first content in
    rw add-one (rw (suc-is_not_zero k) (ap (λ parts. slice_get parts (suc k)) cut ∙ ap (λ parts. slice_get (drop 1 parts) k) (sym cut)))
  where
    suc-is_not_zero : (k : ℕ) → eqb (suc k) 0 ≡ false
    suc-is_not_zero k = ne_eqb (suc k) 0 (λ h. absurd (omega (arith, h)))

pub AreRead-from_ok : (content : List ℕ) (forms : List Form) (values : Values) → read_along forms 1 (drop 1 (fields content)) ≡ Ok values → AreRead content forms values
AreRead-from_ok content forms values h =
    let read = ReadAt-from_ok forms 1 (drop 1 (fields content)) values h in
    record { counted = read.counted; each = λ k inside. let s = read.each k inside in (s.text, field-behind content k ∙ s.there, s.said) }

pub ok-from_AreRead : (content : List ℕ) (forms : List Form) (values : Values) → AreRead content forms values → read_along forms 1 (drop 1 (fields content)) ≡ Ok values
ok-from_AreRead content forms values h =
    ok-from_ReadAt forms 1 (drop 1 (fields content)) values
    (record { counted = h.counted; each = λ k inside. let s = h.each k inside in record { text = s.0; there = sym (field-behind content k) ∙ s.1; said = s.2 } })

pub IsFirstBad-from_err : (content : List ℕ) (forms : List Form) (number : ℕ) → read_along forms 1 (drop 1 (fields content)) ≡ Err number → IsFirstBad content forms number
IsFirstBad-from_err content forms number h =
    let at = refused-from_err forms 1 (drop 1 (fields content)) number h in
    let before_it : number - 1 ≡ at.place = omega (arith, at.number) in
    let it : number ≡ at.place + 1 = omega (arith, at.number) in
    record {
      counted = omega (arith, at.number);
      within = omega (arith, at.number, at.first.within);
      before = λ k below. let s = at.first.before k (omega (arith, below, at.number)) in (s.0, (s.1.text, field-behind content k ∙ s.1.there, s.1.said));
      bad = λ text there. subst (λ k. field_value (get_or forms k Raw) text ≡ None) (sym before_it) (at.first.bad text (sym (field-behind content at.place) ∙ sym (ap (λ n. field n content) it) ∙ there));
    }

pub err-from_IsFirstBad : (content : List ℕ) (forms : List Form) (number : ℕ) → IsFirstBad content forms number → read_along forms 1 (drop 1 (fields content)) ≡ Err number
err-from_IsFirstBad content forms number h =
    let place : ℕ = number - 1 in
    let it : place + 1 ≡ number = omega (arith, h.counted) in
    err-from_BadAt forms 1 (drop 1 (fields content)) place
    (record {
      within = omega (arith, h.counted, h.within);
      before = λ k below. let s = h.before k (omega (arith, below, h.counted)) in (s.0, record { text = s.1.0; there = sym (field-behind content k) ∙ s.1.1; said = s.1.2 });
      bad = λ text there. h.bad text (sym (ap (λ n. field n content) it) ∙ field-behind content place ∙ there);
    })
    ∙ ap Err (omega (arith, h.counted))
