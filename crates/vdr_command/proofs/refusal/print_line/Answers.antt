use Rattle.std.proofs.Common.{[], codes, refl, append_assoc}
use Rattle.std.proofs.lemmas.Result.{on_ok_weaker}
use Rattle.std.proofs.KnownBytes.{Appends-trans}
use Rattle.vdr_entry.specs.Escape.{escaped}
use Rattle.vdr_play.proofs.Fronts.{front-first}
use Rattle.vdr_command.proofs.Lines.{front_later}
use Rattle.vdr_command.proofs.refusal.print_line.Goals as goal

pub returns-in_err-write_all-clause-front : goal.returns-in_err-write_all-clause-front
returns-in_err-write_all-clause-front g c =
    front-first _ _ _ _ _ (append_assoc c.args.front.now (escaped c.args.text.now) (codes "\n")) c.in_err-write_all.ensures.front

pub returns-in_err-print_escaped-clause-front : goal.returns-in_err-print_escaped-clause-front
returns-in_err-print_escaped-clause-front g c =
    front_later _ _ _ _ _ _ _ (append_assoc c.args.front.now (escaped c.args.text.now) (codes "\n")) c.in_ok-write_all.ensures.all c.in_err-print_escaped.ensures.front

pub returns-clause-all : goal.returns-clause-all
returns-clause-all g c =
    let written = Appends-trans _ _ _ _ _ c.in_ok-write_all.ensures.all c.in_ok-print_escaped.ensures.all in
    on_ok_weaker c.write_all-2.result (λ last. Appends-trans _ _ _ _ _ written last) c.write_all-2.ensures.all

pub returns-clause-front : goal.returns-clause-front
returns-clause-front g c =
    let written = Appends-trans _ _ _ _ _ c.in_ok-write_all.ensures.all c.in_ok-print_escaped.ensures.all in
    front_later _ _ _ _ (codes "\n") [] _ refl written c.write_all-2.ensures.front
