use Rattle.std.proofs.Common.{◌++◌, List, ℕ, codes, append_assoc, refl, sym}
use Rattle.std.proofs.KnownBytes.{Appends-trans}
use Rattle.vdr_entry.specs.Escape.{escaped}
use Rattle.vdr_outside.proofs.Known.{front-more}
use Rattle.vdr_alerts.proofs.Writing.{both_all, both_front, first_front}
use Rattle.vdr_alerts.proofs.print.print_both.Goals as goal

pub returns-in_err-print_escaped-clause-front : goal.returns-in_err-print_escaped-clause-front
returns-in_err-print_escaped-clause-front g c =
    let title : List ℕ = escaped c.args.title.now in
    let rest : List ℕ = escaped c.args.rest.now in
    first_front (g.O.Sink.taken c.args.out.now) _ (g.O.Sink.taken c.args.out.now) title (codes " " ++ rest) _ refl c.in_err-print_escaped.ensures.front

pub returns-in_err-write_all-clause-front : goal.returns-in_err-write_all-clause-front
returns-in_err-write_all-clause-front g c =
    let title : List ℕ = escaped c.args.title.now in
    let rest : List ℕ = escaped c.args.rest.now in
    front-more _ _ _ title (codes " ") rest _ refl c.in_ok-print_escaped.ensures.all c.in_err-write_all.ensures.front

pub returns-clause-all : goal.returns-clause-all
returns-clause-all g c =
    let title : List ℕ = escaped c.args.title.now in
    let rest : List ℕ = escaped c.args.rest.now in
    both_all _ _ _ (title ++ codes " ") rest _ (sym (append_assoc title (codes " ") rest)) (Appends-trans _ _ _ title (codes " ") c.in_ok-print_escaped.ensures.all c.in_ok-write_all.ensures.all) c.print_escaped-2.result c.print_escaped-2.ensures.all

pub returns-clause-front : goal.returns-clause-front
returns-clause-front g c =
    let title : List ℕ = escaped c.args.title.now in
    let rest : List ℕ = escaped c.args.rest.now in
    both_front _ _ _ (title ++ codes " ") rest _ (sym (append_assoc title (codes " ") rest)) (Appends-trans _ _ _ title (codes " ") c.in_ok-print_escaped.ensures.all c.in_ok-write_all.ensures.all) c.print_escaped-2.ensures.front
