-- Media that give the same records.
use Rattle.std.proofs.Common.{◌≡◌, Bool, true, cond, nat_lt, List, [], ◌∷◌, refl, ap, ◌∙◌}
use Rattle.std.proofs.lemmas.Bool.{eq-eqb}
use Rattle.std.proofs.lemmas.Slice.Eq.{bytes_eq-Decides}
use Rattle.vdr_entry.specs.Spelling.{record_bytes}
use Rattle.vdr_terms.specs.Records.{Record}
use Rattle.vdr_compare.specs.declared.standing.Standing.TheVariants.{Both}
use Rattle.vdr_compare.specs.declared.standing.Windows.{Windows}
use Rattle.vdr_compare.specs.Conditions.{Condition}
use Rattle.vdr_compare.specs.Differences.{differences}
use Rattle.vdr_compare.specs.Laws.{SaysNothing}
use Rattle.vdr_compare.specs.Standings.{capsule_alone, is_same, longterm_alone, standings}
use Rattle.vdr_compare.proofs.Histories.{says_nothing}

on_both : (r : Record) (rs : List Record) → standings (r ∷ rs) (r ∷ rs) ≡ Both r.place true ∷ standings rs rs
on_both r rs =
    ap (λ (b : Bool). cond b (Both r.place (is_same r r) ∷ standings rs rs) (cond (nat_lt r.place r.place) (capsule_alone r ∷ standings rs (r ∷ rs)) (longterm_alone r ∷ standings (r ∷ rs) rs)))
    (eq-eqb r.place r.place refl)
    ∙ ap (λ (b : Bool). Both r.place b ∷ standings rs rs) ((bytes_eq-Decides (record_bytes r) (record_bytes r)).1 refl)

none_differs : (w : Windows) (records : List Record) → differences w (standings records records) ≡ []
none_differs w [] = refl
none_differs w (r ∷ rs) = ap (differences w) (on_both r rs) ∙ none_differs w rs

pub says_the_same : (c : Condition) (w : Windows) (records : List Record) → SaysNothing c w records records
says_the_same c w records = says_nothing c w records records (none_differs w records)
