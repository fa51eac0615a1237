-- The rows of the live saves as bytes in memory, one id after another.
use Rattle.std.proofs.Common.{◌≡◌, ◌+◌, ◌∙◌, ◌++◌, ℕ, suc, List, Option, refl, sym, ap, subst, add-one}
use Rattle.vdr_core.specs.Histories.{Incident, live}
use Rattle.vdr_info.specs.Lines.{config_text}
use Rattle.vdr_teller.specs.Incidents.{incidents_text, row_if, rows_to}
use Rattle.vdr_readout.specs.Informs.{below_text}

-- The rows of the first n ids, and of one more, as bytes in memory.
pub rows_added : (n id : ℕ) (table : List (Option Incident)) (now new : List ℕ) → id ≡ n + 1 → now ≡ rows_to n table → new ≡ now ++ row_if id (live table id) → new ≡ rows_to id table
rows_added n id table now new next before here =
    let is : id ≡ suc n = next ∙ add-one n in
    here ∙ ap (λ (xs : List ℕ). xs ++ row_if id (live table id)) before ∙ subst (λ (m : ℕ). rows_to n table ++ row_if m (live table m) ≡ rows_to m table) (sym is) refl

-- Behind the rows of all stands the configuration.
pub below_all : (n : ℕ) (table : List (Option Incident)) (text now new : List ℕ) → n ≡ 32 → now ≡ rows_to n table → new ≡ now ++ config_text text → new ≡ below_text table text
unfolding incidents_text
below_all n table text now new end before here =
    here ∙ ap (λ (xs : List ℕ). xs ++ config_text text) (before ∙ ap (λ (m : ℕ). rows_to m table) end)
