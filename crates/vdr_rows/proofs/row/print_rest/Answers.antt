use Rattle.std.proofs.Common.{[], ◌∷◌, ◌++◌, refl, sym, append_assoc}
use Rattle.std.proofs.KnownBytes.{Appends-trans}
use Rattle.vdr_outside.proofs.Known.{front-more}
use Rattle.vdr_rows.specs.Parts.{middle_text}
use Rattle.vdr_rows.specs.Texts.{quoted}
use Rattle.vdr_rows.specs.Views.{heading_said, said_of}
use Rattle.vdr_rows.proofs.Printing.{first_front, last_all, last_front}
use Rattle.vdr_rows.proofs.row.print_rest.Goals as goal

pub returns-in_err-print_middle-clause-front : goal.returns-in_err-print_middle-clause-front
returns-in_err-print_middle-clause-front g c =
    let h = heading_said c.args.heading.now in
    let s = said_of c.args.said.now in
    first_front _ _ (middle_text h s) (quoted s.words ++ 10 ∷ []) _ refl c.in_err-print_middle.ensures.front

pub returns-in_err-print_quoted-clause-front : goal.returns-in_err-print_quoted-clause-front
returns-in_err-print_quoted-clause-front g c =
    let h = heading_said c.args.heading.now in
    let s = said_of c.args.said.now in
    front-more _ _ _ (middle_text h s) (quoted s.words) (10 ∷ []) _ refl c.in_ok-print_middle.ensures.all c.in_err-print_quoted.ensures.front

pub returns-clause-all : goal.returns-clause-all
returns-clause-all g c =
    let h = heading_said c.args.heading.now in
    let s = said_of c.args.said.now in
    let written = Appends-trans _ _ _ _ _ c.in_ok-print_middle.ensures.all c.in_ok-print_quoted.ensures.all in
    last_all _ _ _ _ _ _ _ (sym (append_assoc (middle_text h s) (quoted s.words) (10 ∷ []))) written c.write_all.ensures.all

pub returns-clause-front : goal.returns-clause-front
returns-clause-front g c =
    let h = heading_said c.args.heading.now in
    let s = said_of c.args.said.now in
    let written = Appends-trans _ _ _ _ _ c.in_ok-print_middle.ensures.all c.in_ok-print_quoted.ensures.all in
    last_front _ _ _ _ _ _ (sym (append_assoc (middle_text h s) (quoted s.words) (10 ∷ []))) written c.write_all.ensures.front
