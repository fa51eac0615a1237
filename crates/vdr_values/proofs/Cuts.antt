-- The fields of a text that is cut at its commas.
use Rattle.std.proofs.Common.{◌≡◌, ◌≤◌, ◌∙◌, ◌+◌, ℕ, suc, Bool, true, false, List, [], ◌∷◌, length, length-drop, take, drop, refl, sym, ap, arith, eqb}
use Rattle.std.specs.List.{onto_first, position_or_len}
use Rattle.std.proofs.lemmas.List.Splits.{length-slice_split}
use Rattle.vdr_sentence.specs.Fields.{field_count, fields}
use Rattle.vdr_sentence.proofs.Bodies.{take_one_more}
use Rattle.vdr_values.specs.Readings.{fields_behind, fields_of}

abbrev pub comma_place : List ℕ → ℕ
comma_place text = position_or_len (λ b. eqb b 44) text

drop_one_more : (n b : ℕ) (bytes : List ℕ) → drop (1 + n) (b ∷ bytes) ≡ drop n bytes
drop_one_more n b bytes = let e : 1 + n ≡ suc n = omega arith in rw e refl

-- The first field ends at the first comma.
pub fields-first : (text : List ℕ) → fields text ≡ take (comma_place text) text ∷ fields_behind (drop (comma_place text) text)
fields-first [] = refl
fields-first (b ∷ text) = by_test (eqb b 44) refl (fields-first text)
  where
    by_test : (t : Bool) → eqb b 44 ≡ t → fields text ≡ take (comma_place text) text ∷ fields_behind (drop (comma_place text) text)
        → fields (b ∷ text) ≡ take (comma_place (b ∷ text)) (b ∷ text) ∷ fields_behind (drop (comma_place (b ∷ text)) (b ∷ text))
    by_test true e more = rw e refl
    by_test false e more =
        rw e (ap (onto_first b) more ∙ (λ i. sym (take_one_more (comma_place text) b text) i ∷ fields_behind (sym (drop_one_more (comma_place text) b text) i)))

-- The first of the fields in which a comma stands before each.
pub fields_behind-cut : (text behind before after : List ℕ) (place : ℕ) → 1 ≤ length text → behind ≡ drop 1 text → place ≡ comma_place behind → before ≡ take place behind → after ≡ drop place behind
    → fields_behind text ≡ before ∷ fields_behind after
fields_behind-cut [] behind before after place some is at front back = absurd (omega (arith, some))
fields_behind-cut (comma ∷ text) behind before after place some is at front back =
    let cut = fields-first behind in
    ap fields (sym is) ∙ cut ∙ (λ i. ap (λ k. take k behind) (sym at) i ∷ fields_behind (ap (λ k. drop k behind) (sym at) i)) ∙ (λ i. sym front i ∷ fields_behind (sym back i))

-- The fields of a content stand behind its address.
pub fields-behind_address : (content : List ℕ) (place : ℕ) → place ≡ comma_place content → drop 1 (fields content) ≡ fields_behind (drop place content)
fields-behind_address content place at = ap (drop 1) (fields-first content) ∙ ap (λ k. fields_behind (drop k content)) (sym at)

-- There are as many as commas.
pub length-fields_of : (content : List ℕ) → length (fields_of content) ≡ field_count content
length-fields_of content = omega (arith, length-drop 1 (fields content), length-slice_split (λ b. eqb b 44) content)
