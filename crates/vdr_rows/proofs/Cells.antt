-- The fields of a row, one behind the other.
use Rattle.std.proofs.Common.{◌≡◌, ◌∙◌, ◌+◌, ℕ, Bool, true, false, cond, not, ◌&&◌, List, [], ◌∷◌, ◌++◌, length, map, eqb, leb, refl, sym, ap, append_assoc, arith}
use Rattle.std.specs.List.{list_all}
use Rattle.std.proofs.lemmas.Bool.{and_parts}
use Rattle.std.proofs.lemmas.List.Folds.{list_all-append}
use Rattle.vdr_rows.specs.Laws.{IsLine, commas, is_printed}
use Rattle.vdr_rows.specs.Texts.{doubled, joined, quoted}

-- A byte that may stand in a field without quotes: neither a quote nor a comma, and no control character.
abbrev pub is_bare : ℕ → Bool
is_bare b = not (eqb b 34) && not (eqb b 44) && leb 32 b

pub record IsBare (text : List ℕ) : Type 0 where
  pub each : list_all is_bare text ≡ true

pub record IsPrinted (text : List ℕ) : Type 0 where
  pub each : is_printed text ≡ true

-- A field as it stands in a row: what is behind it is outside of quotes.
pub record IsCell (text : List ℕ) : Type 0 where
  pub closed : (rest : List ℕ) → commas false (text ++ rest) ≡ commas false rest
  pub printed : is_printed text ≡ true

pub all_more : (p q : ℕ → Bool) → ((b : ℕ) → p b ≡ true → q b ≡ true) → (text : List ℕ) → list_all p text ≡ true → list_all q text ≡ true
all_more p q more [] h = refl
all_more p q more (b ∷ text) h = let parts = and_parts (p b) (list_all p text) h in (λ i. more b parts.0 i && all_more p q more text parts.1 i)

pub printed_bare : {text : List ℕ} → IsBare text → IsPrinted text
printed_bare {text} h = record { each = all_more is_bare (λ b. leb 32 b) (λ b bare. (and_parts (not (eqb b 34) && not (eqb b 44)) (leb 32 b) bare).1) text h.each }

-- ---- one field

bare_closed : (text rest : List ℕ) → list_all is_bare text ≡ true → commas false (text ++ rest) ≡ commas false rest
bare_closed [] rest h = refl
bare_closed (b ∷ text) rest h =
    let parts = and_parts (is_bare b) (list_all is_bare text) h in
    by_tests (eqb b 34) (eqb b 44) (and_parts (not (eqb b 34) && not (eqb b 44)) (leb 32 b) parts.0).0 (bare_closed text rest parts.1)
  where
    by_tests : (quote comma : Bool) → (not quote && not comma) ≡ true → commas false (text ++ rest) ≡ commas false rest
        → cond quote (commas true (text ++ rest)) (cond (comma && true) 1 0 + commas false (text ++ rest)) ≡ commas false rest
    by_tests true comma h more = absurd (cc)
    by_tests false true h more = absurd (cc)
    by_tests false false h more = omega (arith, more)

pub bare_is : (text : List ℕ) → IsBare text → IsCell text
bare_is text h = record { closed = λ rest. bare_closed text rest h.each; printed = (printed_bare h).each }

-- Between quotes.
within : (text rest : List ℕ) → commas true (doubled text ++ rest) ≡ commas true rest
within [] rest = refl
within (b ∷ text) rest = by_tests (eqb b 34) refl (within text rest)
  where
    plain : (comma : Bool) → commas true (doubled text ++ rest) ≡ commas true rest → cond (comma && false) 1 0 + commas true (doubled text ++ rest) ≡ commas true rest
    plain true more = omega (arith, more)
    plain false more = omega (arith, more)

    by_tests : (quote : Bool) → eqb b 34 ≡ quote → commas true (doubled text ++ rest) ≡ commas true rest → commas true ((cond quote (34 ∷ 34 ∷ []) (b ∷ []) ++ doubled text) ++ rest) ≡ commas true rest
    by_tests true e more = more
    by_tests false e more = rw e (plain (eqb b 44) more)

doubled_printed : (text : List ℕ) → is_printed text ≡ true → is_printed (doubled text) ≡ true
doubled_printed [] h = refl
doubled_printed (b ∷ text) h = let parts = and_parts (leb 32 b) (is_printed text) h in by_test (eqb b 34) parts.0 (doubled_printed text parts.1)
  where
    by_test : (quote : Bool) → leb 32 b ≡ true → is_printed (doubled text) ≡ true → is_printed (cond quote (34 ∷ 34 ∷ []) (b ∷ []) ++ doubled text) ≡ true
    by_test true p q = q
    by_test false p q = λ i. p i && q i

pub quoted_is : (text : List ℕ) → IsPrinted text → IsCell (quoted text)
quoted_is [] h = record { closed = λ rest. refl; printed = refl }
quoted_is (b ∷ text) h = record {
  closed = λ rest. ap (commas true) (append_assoc (doubled (b ∷ text)) (34 ∷ []) rest) ∙ within (b ∷ text) (34 ∷ rest);
  printed = list_all-append (λ c. leb 32 c) (doubled (b ∷ text)) (34 ∷ []) ∙ (λ i. doubled_printed (b ∷ text) h.each i && true);
}

-- ---- fields, one behind the other

pub record Cell : Type 0 where
  pub text : List ℕ
  pub is : IsCell text

abbrev pub bare_cell : {text : List ℕ} → IsBare text → Cell
bare_cell {text} h = record { text = text; is = bare_is text h }

abbrev pub quoted_cell : {text : List ℕ} → IsPrinted text → Cell
quoted_cell {text} h = record { text = quoted text; is = quoted_is text h }

abbrev pub texts : List Cell → List (List ℕ)
texts cells = map (λ (c : Cell). c.text) cells

joined_commas : (cell : Cell) (cells : List Cell) (rest : List ℕ) → commas false (joined (texts (cell ∷ cells)) ++ rest) ≡ length cells + commas false rest
joined_commas cell [] rest =
    let last : commas false (10 ∷ rest) ≡ 0 + commas false rest = refl in
    ap (commas false) (append_assoc cell.text (10 ∷ []) rest) ∙ cell.is.closed (10 ∷ rest) ∙ last
joined_commas cell (next ∷ cells) rest =
    ap (commas false) (append_assoc cell.text (44 ∷ joined (texts (next ∷ cells))) rest)
    ∙ cell.is.closed (44 ∷ (joined (texts (next ∷ cells)) ++ rest))
    ∙ more (commas false (joined (texts (next ∷ cells)) ++ rest)) (joined_commas next cells rest)
  where
    more : (n : ℕ) → n ≡ length cells + commas false rest → 1 + n ≡ length (next ∷ cells) + commas false rest
    more n e = omega (arith, e)

-- What stands before LF.
parted : List Cell → List ℕ
parted [] = []
parted (cell ∷ []) = cell.text
parted (cell ∷ next ∷ cells) = cell.text ++ 44 ∷ parted (next ∷ cells)

joined_parted : (cell : Cell) (cells : List Cell) → joined (texts (cell ∷ cells)) ≡ parted (cell ∷ cells) ++ 10 ∷ []
unfolding parted
joined_parted cell [] = refl
joined_parted cell (next ∷ cells) =
    ap (λ (l : List ℕ). cell.text ++ 44 ∷ l) (joined_parted next cells) ∙ sym (append_assoc cell.text (44 ∷ parted (next ∷ cells)) (10 ∷ []))

parted_printed : (cell : Cell) (cells : List Cell) → is_printed (parted (cell ∷ cells)) ≡ true
unfolding parted
parted_printed cell [] = cell.is.printed
parted_printed cell (next ∷ cells) =
    list_all-append (λ b. leb 32 b) cell.text (44 ∷ parted (next ∷ cells)) ∙ (λ i. cell.is.printed i && parted_printed next cells i)

pub line_of_cells : (cell : Cell) (cells : List Cell) → length cells ≡ 10 → IsLine (joined (texts (cell ∷ cells)))
line_of_cells cell cells ten = record {
  front = parted (cell ∷ cells);
  ended = joined_parted cell cells;
  printed = parted_printed cell cells;
  fields = λ behind. joined_commas cell cells behind ∙ ap (λ (n : ℕ). n + commas false behind) ten;
}
