-- The forms of the fields of VDM and VDO.
use Rattle.std.proofs.Common.{◌≡◌, ◌≤◌, ◌∙◌, ℕ, List, Option, Some, None, IfSome, Bool, true, false, ◌||◌, bytes_eq, codes, refl, sym, ap, subst}
use Rattle.std.proofs.lemmas.Bool.{and_parts, leb-true}
use Rattle.std.proofs.lemmas.Slice.Eq.{bytes_eq-Decides}
use Rattle.vdr_values.specs.Values as value
use Rattle.vdr_values.specs.Forms.{Form, Digits, suits}
use Rattle.vdr_values.specs.Rows.{Row, form_at}
use Rattle.vdr_values.specs.Table.{row_named, table}
use Rattle.vdr_ais.specs.Lines.{carries}

-- The number of a part has one digit, and the fill bits are 5 at most.
abbrev pub AreParts : Option Row → Type 0
AreParts None = Unit {0}
AreParts (Some row) = (form_at row 1 ≡ Digits 1 0 9) × (form_at row 5 ≡ Digits 1 0 5)

other : AreParts (row_named (codes "VDM"))
unfolding table
other = (refl, refl)

own : AreParts (row_named (codes "VDO"))
unfolding table
own = (refl, refl)

pub parts-of : (formatter : List ℕ) (row : Row) → carries formatter ≡ true → row_named formatter ≡ Some row → AreParts (Some row)
parts-of formatter row carried known = by_test (bytes_eq formatter (codes "VDM")) refl carried
  where
    by_test : (t : Bool) → bytes_eq formatter (codes "VDM") ≡ t → (t || bytes_eq formatter (codes "VDO")) ≡ true → AreParts (Some row)
    by_test true e h = subst AreParts (ap row_named (sym ((bytes_eq-Decides formatter (codes "VDM")).0 e)) ∙ known) other
    by_test false e h = subst AreParts (ap row_named (sym ((bytes_eq-Decides formatter (codes "VDO")).0 h)) ∙ known) own

pub at_most : (form : Form) (greatest : ℕ) (o : Option ℕ) → form ≡ Digits 1 0 greatest → IfSome o (λ n. suits form (value.Digits n) ≡ true) → IfSome o (λ n. n ≤ greatest)
at_most form greatest None e h = tt
at_most form greatest (Some n) e h = leb-true n greatest (and_parts _ _ (subst (λ f. suits f (value.Digits n) ≡ true) e h)).1
