use Rattle.std.proofs.Common.{[], ◌∷◌}
use Rattle.vdr_ais.specs.Views.{report_said}
use Rattle.vdr_rows.specs.Reported.{name_said, position_values}
use Rattle.vdr_rows.specs.Views.{heading_said}
use Rattle.vdr_rows.proofs.Printing.{first_front, last_all, last_front}
use Rattle.vdr_rows.proofs.RowLemmas.{given_both}
use Rattle.vdr_rows.proofs.reported.print_both.Goals as goal

pub returns-in_err-print_position-clause-front : goal.returns-in_err-print_position-clause-front
returns-in_err-print_position-clause-front g c =
    let r = report_said c.args.report.now in
    let mmsi = c.args.mmsi.now in
    first_front _ _ _ _ _ (given_both (heading_said c.args.heading.now) (position_values c.args.kind mmsi r.position) (name_said mmsi r.name ∷ [])) c.in_err-print_position.ensures.front

pub returns-clause-all : goal.returns-clause-all
returns-clause-all g c =
    let r = report_said c.args.report.now in
    let mmsi = c.args.mmsi.now in
    last_all _ _ _ _ _ _ _ (given_both (heading_said c.args.heading.now) (position_values c.args.kind mmsi r.position) (name_said mmsi r.name ∷ [])) c.in_ok-print_position.ensures.all c.print_name.ensures.all

pub returns-clause-front : goal.returns-clause-front
returns-clause-front g c =
    let r = report_said c.args.report.now in
    let mmsi = c.args.mmsi.now in
    last_front _ _ _ _ _ _ (given_both (heading_said c.args.heading.now) (position_values c.args.kind mmsi r.position) (name_said mmsi r.name ∷ [])) c.in_ok-print_position.ensures.all c.print_name.ensures.front
