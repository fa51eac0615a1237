-- Rows, one behind the other, and the fields of one.
use Rattle.std.proofs.Common.{◌≡◌, ◌∙◌, ◌*◌, ◌/◌, ◌%◌, ◌≤◌, ℕ, Bool, true, false, cond, List, [], ◌∷◌, ◌++◌, length, map, Option, Some, None, refl, sym, ap, arith, length-append, eqb, ◌||◌}
use Rattle.std.specs.List.{cons_option, filter_map, flat_map, list_any}
use Rattle.std.proofs.lemmas.Grind.{flat_map-append}
use Rattle.std.proofs.lemmas.List.{map-append}
use Rattle.vdr_entry.specs.Escape.{escaped, escaped_byte, hex_digit, is_plain}
use Rattle.vdr_rows.specs.Parts.{given_text}
use Rattle.vdr_rows.specs.Reported.{given}
use Rattle.vdr_rows.specs.Tables.{rows_of}
use Rattle.vdr_rows.specs.Texts.{Heading, Row, doubled, row_text, rows_text}
use Rattle.vdr_rows.specs.Values.{Said}

-- The rows of the values that are there.
given_first : (h : Heading) (o : Option Said) (rest : List Said) → rows_text (rows_of h (cons_option o rest)) ≡ given_text h o ++ rows_text (rows_of h rest)
given_first h None rest = refl
given_first h (Some s) rest = refl

pub given_mapped : {C D : Type 0} (h : Heading) (f : C → Option Said) (g : D → C) (ds : List D) → rows_text (rows_of h (filter_map f (map g ds))) ≡ flat_map (λ (d : D). given_text h (f (g d))) ds
given_mapped h f g [] = refl
given_mapped h f g (d ∷ ds) =
    given_first h (f (g d)) (filter_map f (map g ds)) ∙ ap (λ (text : List ℕ). given_text h (f (g d)) ++ text) (given_mapped h f g ds)

pub given_rows : {C : Type 0} (h : Heading) (f : C → Option Said) (cs : List C) → rows_text (rows_of h (filter_map f cs)) ≡ flat_map (λ (c : C). given_text h (f c)) cs
given_rows h f [] = refl
given_rows h f (c ∷ cs) = given_first h (f c) (filter_map f cs) ∙ ap (λ (text : List ℕ). given_text h (f c) ++ text) (given_rows h f cs)

pub texts_append : (a b : List Row) → rows_text (a ++ b) ≡ rows_text a ++ rows_text b
texts_append a b = flat_map-append (λ (row : Row). row_text row.heading row.said) a b

pub rows_append : (h : Heading) (a b : List Said) → rows_text (rows_of h (a ++ b)) ≡ rows_text (rows_of h a) ++ rows_text (rows_of h b)
rows_append h a b = ap rows_text (map-append (λ (s : Said). record { heading = h; said = s }) a b) ∙ texts_append (rows_of h a) (rows_of h b)

given_append : (a b : List (Option Said)) → given (a ++ b) ≡ given a ++ given b
given_append [] b = refl
given_append (None ∷ a) b = given_append a b
given_append (Some s ∷ a) b = ap (λ (said : List Said). s ∷ said) (given_append a b)

pub given_both : (h : Heading) (a b : List (Option Said)) → rows_text (rows_of h (given (a ++ b))) ≡ rows_text (rows_of h (given a)) ++ rows_text (rows_of h (given b))
given_both h a b = ap (λ (said : List Said). rows_text (rows_of h said)) (given_append a b) ∙ rows_append h (given a) (given b)

-- Four and five values that are printed one after another.
pub four_given : (h k : Heading) (a b c d p q r s : Option Said) → h ≡ k → a ≡ p → b ≡ q → c ≡ r → d ≡ s
    → flat_map (λ (o : Option Said). given_text h o) (a ∷ b ∷ c ∷ d ∷ []) ≡ rows_text (rows_of k (given (p ∷ q ∷ r ∷ s ∷ [])))
four_given h k a b c d p q r s e e1 e2 e3 e4 =
    (λ i. flat_map (λ (o : Option Said). given_text (e i) o) (e1 i ∷ e2 i ∷ e3 i ∷ e4 i ∷ [])) ∙ sym (given_rows k (λ (o : Option Said). o) (p ∷ q ∷ r ∷ s ∷ []))

pub five_given : (h : Heading) (a b c d f p q r s u : Option Said) → a ≡ p → b ≡ q → c ≡ r → d ≡ s → f ≡ u
    → flat_map (λ (o : Option Said). given_text h o) (a ∷ b ∷ c ∷ d ∷ f ∷ []) ≡ rows_text (rows_of h (given (p ∷ q ∷ r ∷ s ∷ u ∷ [])))
five_given h a b c d f p q r s u e1 e2 e3 e4 e5 =
    (λ i. flat_map (λ (o : Option Said). given_text h o) (e1 i ∷ e2 i ∷ e3 i ∷ e4 i ∷ e5 i ∷ [])) ∙ sym (given_rows h (λ (o : Option Said). o) (p ∷ q ∷ r ∷ s ∷ u ∷ []))

-- Without a quote nothing is doubled.
pub plain_doubled : (text : List ℕ) → list_any (λ b. eqb b 34) text ≡ false → doubled text ≡ text
plain_doubled [] none = refl
plain_doubled (b ∷ text) none = by_test (eqb b 34) none (plain_doubled text)
  where
    by_test : (t : Bool) → (t || list_any (λ c. eqb c 34) text) ≡ false → (list_any (λ c. eqb c 34) text ≡ false → doubled text ≡ text)
        → cond t (34 ∷ 34 ∷ []) (b ∷ []) ++ doubled text ≡ b ∷ text
    by_test true h more = absurd (cc)
    by_test false h more = ap (λ (l : List ℕ). b ∷ l) (more h)

-- Each byte takes four at most where it is escaped.
one_escaped : (b : ℕ) → length (escaped_byte b) ≤ 4
one_escaped b = by_test (is_plain b) (hex_digit (b / 16)) (hex_digit (b % 16))
  where
    by_test : (t : Bool) (high low : ℕ) → length (cond t (b ∷ []) (60 ∷ high ∷ low ∷ 62 ∷ [])) ≤ 4
    by_test true high low = omega arith
    by_test false high low = omega arith

pub length-escaped : (bytes : List ℕ) → length (escaped bytes) ≤ 4 * length bytes
length-escaped [] = omega arith
length-escaped (b ∷ bytes) = omega (arith, one_escaped b, length-escaped bytes, length-append (escaped_byte b) (escaped bytes))
