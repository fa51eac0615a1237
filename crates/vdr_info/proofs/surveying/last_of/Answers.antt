use Rattle.std.proofs.Common.{rules, ◌≡◌, ◌∙◌, ◌/◌, Option, Some, None, sym, ap, w64, to_z, of_z}
use Rattle.std.specs.Prelude.{option_map}
use mir.Val.{SFits}
use Rattle.std.proofs.lemmas.Int.{to_z-of_z}
use Rattle.vdr_directory.specs.declared.newest.Ending.{Ending}
use Rattle.vdr_directory.proofs.Endings.{last_told}
use Rattle.vdr_info.specs.declared.held.Stand.{Stand}
use Rattle.vdr_info.proofs.InfoLemmas.{last_stands, stand_in}
use Rattle.vdr_info.proofs.surveying.last_of.Goals as goal

pub returns-in_err-ending : goal.returns-in_err-ending
returns-in_err-ending c count known tells =
    let main = last_stands known c.ending.result (last_told known c.ending.result (c.ending.ensures ∙ tells.ending)) in
    let none : ◌≡◌ {A = Option Stand} c.from_residual.result None = search rules in
    none ∙ ap (λ (o : Option Ending). option_map stand_in o) (sym c.in_err-ending.was) ∙ main

pub returns : goal.returns
returns c count known tells =
    let main = last_stands known c.ending.result (last_told known c.ending.result (c.ending.ensures ∙ tells.ending)) in
    let fits : SFits w64 c.in_ok-ending.ending.utc = search rules in
    let kept : to_z w64 (of_z w64 c.in_ok-ending.ending.utc) ≡ c.in_ok-ending.ending.utc = to_z-of_z w64 c.in_ok-ending.ending.utc fits in
    let same : ◌≡◌ {A = Option Stand} (Some (record { place = c.in_ok-ending.ending.place; utc = to_z w64 (of_z w64 c.in_ok-ending.ending.utc); second = c.in_ok-ending.ending.tick / 1000 })) (option_map stand_in (Some c.in_ok-ending.ending)) =
    (λ i. Some (record { place = c.in_ok-ending.ending.place; utc = kept i; second = c.in_ok-ending.ending.tick / 1000 })) in
    same ∙ ap (λ (o : Option Ending). option_map stand_in o) (sym c.in_ok-ending.was) ∙ main
