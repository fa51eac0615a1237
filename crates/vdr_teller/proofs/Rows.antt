-- The rows of the live saves, one id after another.
use Rattle.std.proofs.Common.{◌≡◌, ◌≤◌, ◌<◌, ◌+◌, ◌∙◌, ◌++◌, ℕ, zero, suc, List, [], Option, refl, sym, ap, subst, arith, add-one, append_assoc, append-nil, ⊎_elim}
use Rattle.std.specs.Io.KnownBytes.{Appends}
use Rattle.std.proofs.KnownBytes.{Appends-trans}
use Rattle.std.proofs.lemmas.Bool.{cases_lt}
use Rattle.vdr_core.specs.Histories.{Incident, live}
use Rattle.vdr_outside.specs.Writes.{AppendsFront}
use Rattle.vdr_teller.specs.Incidents.{incidents_text, row_if, rows_to}

-- A front of a later piece, once those before it were written.
front_later : (old now new : Option (List ℕ)) (before piece rest text : List ℕ) → text ≡ before ++ (piece ++ rest) → Appends old now before → AppendsFront now new piece → AppendsFront old new text
front_later old now new before piece rest text is p f = (
  before ++ f.0,
  f.1 ++ rest,
  is ∙ ap (λ (xs : List ℕ). before ++ xs) (ap (λ (xs : List ℕ). xs ++ rest) f.2 ∙ append_assoc f.0 f.1 rest) ∙ sym (append_assoc before f.0 (f.1 ++ rest)),
  Appends-trans old now new before f.0 p f.3,
)

-- The rows of the first n ids, and of one more.
pub rows_more : (n more : ℕ) (table : List (Option Incident)) (old now new : Option (List ℕ)) → more ≡ n + 1
    → Appends old now (rows_to n table) → Appends now new (row_if more (live table more)) → Appends old new (rows_to more table)
rows_more n more table old now new next before here =
    let is : more ≡ suc n = next ∙ add-one n in
    subst (λ (m : ℕ). Appends old new (rows_to m table)) (sym is)
    (Appends-trans old now new (rows_to n table) (row_if (suc n) (live table (suc n))) before (subst (λ (m : ℕ). Appends now new (row_if m (live table m))) is here))

-- The rows of the first ids are a front of those of all.
rows_begin : (n all : ℕ) (table : List (Option Incident)) → n ≤ all → (rest : List ℕ) × (rows_to all table ≡ rows_to n table ++ rest)
rows_begin n zero table few =
    let same : n ≡ 0 = omega (arith, few) in
    ([], subst (λ (m : ℕ). rows_to 0 table ≡ rows_to m table ++ []) (sym same) refl)
rows_begin n (suc all) table few = ⊎_elim
    (λ (above : all < n). let same : n ≡ suc all = omega (arith, few, above) in
    ([], subst (λ (m : ℕ). rows_to (suc all) table ≡ rows_to m table ++ []) (sym same) (sym (append-nil (rows_to (suc all) table)))))
    (λ (below : n ≤ all). let first = rows_begin n all table below in
    let last : List ℕ = row_if (suc all) (live table (suc all)) in
    (first.0 ++ last, ap (λ (xs : List ℕ). xs ++ last) first.1 ∙ append_assoc (rows_to n table) first.0 last))
    (cases_lt all n)

-- Where a row fails, a front of all is written.
front_among : (n all : ℕ) (table : List (Option Incident)) (old now new : Option (List ℕ)) → n < all
    → Appends old now (rows_to n table) → AppendsFront now new (row_if (suc n) (live table (suc n))) → AppendsFront old new (rows_to all table)
front_among n all table old now new few before here =
    let row : List ℕ = row_if (suc n) (live table (suc n)) in
    let more = rows_begin (suc n) all table (omega (arith, few)) in
    let is : rows_to all table ≡ rows_to n table ++ (row ++ more.0) = more.1 ∙ append_assoc (rows_to n table) row more.0 in
    front_later old now new (rows_to n table) row more.0 (rows_to all table) is before here

pub incidents_front : (n id : ℕ) (table : List (Option Incident)) (old now new : Option (List ℕ)) → n < 32 → id ≡ n + 1
    → Appends old now (rows_to n table) → AppendsFront now new (row_if id (live table id)) → AppendsFront old new (incidents_text table)
unfolding incidents_text
incidents_front n id table old now new few next before here =
    let is : id ≡ suc n = next ∙ add-one n in
    front_among n 32 table old now new few before (subst (λ (m : ℕ). AppendsFront now new (row_if m (live table m))) is here)

pub incidents_all : (n : ℕ) (table : List (Option Incident)) (old new : Option (List ℕ)) → n ≡ 32 → Appends old new (rows_to n table) → Appends old new (incidents_text table)
unfolding incidents_text
incidents_all n table old new end printed = subst (λ (m : ℕ). Appends old new (rows_to m table)) end printed

-- All of the text is a front of it.
pub front_of_all : (text : List ℕ) (old new : Option (List ℕ)) → Appends old new text → AppendsFront old new text
front_of_all text old new all = (text, [], sym (append-nil text), all)
