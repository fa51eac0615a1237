use Rattle.std.proofs.Common.{◌∙◌, ◌++◌, Option, codes, option_map, rules, ap, sym, w32, FitsSigned}
use Rattle.std.proofs.lemmas.Int.{to_z-of_z}
use Rattle.std.specs.Fmt.{signed_decimal}
use Rattle.vdr_ais.specs.declared.report.Position.{Position}
use Rattle.vdr_ais.specs.Targets.{number_text, place_text}
use Rattle.vdr_ais.specs.Views.{position_said}
use Rattle.vdr_ais.proofs.Texts.{five_parts}
use Rattle.vdr_ais.proofs.ship.push_place.Goals as goal

pub returns-clause-text : goal.returns-clause-text
returns-clause-text c =
    let north : FitsSigned w32 c.in-Some.place.latitude = search rules in
    let east : FitsSigned w32 c.in-Some.place.longitude = search rules in
    five_parts c.args.line.now.items (signed_decimal c.in-Some.place.latitude) (signed_decimal c.in-Some.place.longitude) (number_text c.in-Some.place.speed) (number_text c.in-Some.place.course) (number_text c.in-Some.place.heading) (codes " ")
    _ _ _ _ _ (simp (to_z-of_z, north) at c.push_signed.ensures.text) (simp (to_z-of_z, east) at c.push_signed-2.ensures.text) c.push_small.ensures.text c.push_small-2.ensures.text c.push_small-3.ensures.text
    ∙ sym (ap (λ (o : Option Position). c.args.line.now.items ++ place_text (option_map position_said o) ++ codes " ") c.in-Some.is)
