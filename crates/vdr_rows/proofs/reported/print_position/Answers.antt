use Rattle.std.proofs.Common.{◌∙◌, List, ℕ, Option, codes, option_map, rules, ap, sym, subst, w32, FitsSigned}
use Rattle.std.specs.Prelude.{OnOk}
use Rattle.std.specs.Io.KnownBytes.{Appends}
use Rattle.std.proofs.lemmas.Int.{to_z-of_z}
use Rattle.vdr_ais.specs.declared.report.Position.{Position}
use Rattle.vdr_ais.specs.Views.{position_said}
use Rattle.vdr_outside.specs.Writes.{AppendsFront}
use Rattle.vdr_rows.specs.Reported.{given, position_values, tenths_said}
use Rattle.vdr_rows.specs.Tables.{rows_of}
use Rattle.vdr_rows.specs.Texts.{rows_text}
use Rattle.vdr_rows.specs.Views.{heading_said}
use Rattle.vdr_rows.proofs.RowLemmas.{five_given}
use Rattle.vdr_rows.proofs.reported.print_position.Goals as goal

pub returns-clause-all : goal.returns-clause-all
returns-clause-all g c =
    let h = heading_said c.args.heading.now in
    let north : FitsSigned w32 c.in-Some.p.latitude = search rules in
    let east : FitsSigned w32 c.in-Some.p.longitude = search rules in
    let speed = c.tenths.ensures ∙ ap (λ (n : ℕ). tenths_said c.args.mmsi.now (codes "ais_speed") n (codes "kn") c.in-Some.p.speed) c.no_speed.ensures in
    let course = c.tenths-2.ensures ∙ ap (λ (n : ℕ). tenths_said c.args.mmsi.now (codes "ais_course") n (codes "deg") c.in-Some.p.course) c.no_course.ensures in
    subst (λ (t : List ℕ). OnOk c.print_values.result (Appends (g.O.Sink.taken c.args.out.now) (g.O.Sink.taken c.print_values.new.out) t))
    (five_given h _ _ _ _ _ _ _ _ _ _ (simp (to_z-of_z, north) at c.angle.ensures) (simp (to_z-of_z, east) at c.angle-2.ensures) speed course c.bearing.ensures
    ∙ ap (λ (o : Option Position). rows_text (rows_of h (given (position_values c.args.kind c.args.mmsi.now (option_map position_said o))))) (sym c.in-Some.is))
    c.print_values.ensures.all

pub returns-clause-front : goal.returns-clause-front
returns-clause-front g c =
    let h = heading_said c.args.heading.now in
    let north : FitsSigned w32 c.in-Some.p.latitude = search rules in
    let east : FitsSigned w32 c.in-Some.p.longitude = search rules in
    let speed = c.tenths.ensures ∙ ap (λ (n : ℕ). tenths_said c.args.mmsi.now (codes "ais_speed") n (codes "kn") c.in-Some.p.speed) c.no_speed.ensures in
    let course = c.tenths-2.ensures ∙ ap (λ (n : ℕ). tenths_said c.args.mmsi.now (codes "ais_course") n (codes "deg") c.in-Some.p.course) c.no_course.ensures in
    subst (λ (t : List ℕ). AppendsFront (g.O.Sink.taken c.args.out.now) (g.O.Sink.taken c.print_values.new.out) t)
    (five_given h _ _ _ _ _ _ _ _ _ _ (simp (to_z-of_z, north) at c.angle.ensures) (simp (to_z-of_z, east) at c.angle-2.ensures) speed course c.bearing.ensures
    ∙ ap (λ (o : Option Position). rows_text (rows_of h (given (position_values c.args.kind c.args.mmsi.now (option_map position_said o))))) (sym c.in-Some.is))
    c.print_values.ensures.front
