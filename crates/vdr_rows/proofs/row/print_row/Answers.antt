use Rattle.std.proofs.Common.{◌∙◌, sym, append_assoc}
use Rattle.std.proofs.KnownBytes.{Appends-trans}
use Rattle.vdr_outside.proofs.Known.{front-more}
use Rattle.vdr_rows.specs.Parts.{front_text, rest_text}
use Rattle.vdr_rows.specs.Texts.{quoted}
use Rattle.vdr_rows.specs.Views.{heading_said, said_of}
use Rattle.vdr_rows.proofs.Printing.{first_front, last_all, last_front, row_split}
use Rattle.vdr_rows.proofs.row.print_row.Goals as goal

pub returns-in_err-print_front-clause-front : goal.returns-in_err-print_front-clause-front
returns-in_err-print_front-clause-front g c =
    first_front _ _ _ _ _ (row_split (heading_said c.args.heading.now) (said_of c.args.said.now)) c.in_err-print_front.ensures.front

pub returns-in_err-print_quoted-clause-front : goal.returns-in_err-print_quoted-clause-front
returns-in_err-print_quoted-clause-front g c =
    front-more _ _ _ _ _ _ _ (row_split (heading_said c.args.heading.now) (said_of c.args.said.now)) c.in_ok-print_front.ensures.all c.in_err-print_quoted.ensures.front

pub returns-clause-all : goal.returns-clause-all
returns-clause-all g c =
    let h = heading_said c.args.heading.now in
    let s = said_of c.args.said.now in
    let written = Appends-trans _ _ _ _ _ c.in_ok-print_front.ensures.all c.in_ok-print_quoted.ensures.all in
    last_all _ _ _ _ _ _ _ (row_split h s ∙ sym (append_assoc (front_text h) (quoted h.source) (rest_text h s))) written c.print_rest.ensures.all

pub returns-clause-front : goal.returns-clause-front
returns-clause-front g c =
    let h = heading_said c.args.heading.now in
    let s = said_of c.args.said.now in
    let written = Appends-trans _ _ _ _ _ c.in_ok-print_front.ensures.all c.in_ok-print_quoted.ensures.all in
    last_front _ _ _ _ _ _ (row_split h s ∙ sym (append_assoc (front_text h) (quoted h.source) (rest_text h s))) written c.print_rest.ensures.front
