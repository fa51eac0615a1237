use Rattle.std.proofs.Common.{[], ◌∷◌, ◌++◌, refl}
use Rattle.std.proofs.KnownBytes.{Appends-trans}
use Rattle.vdr_outside.proofs.Known.{front-more}
use Rattle.vdr_rows.specs.Texts.{doubled}
use Rattle.vdr_rows.proofs.Printing.{first_front, last_all, last_front}
use Rattle.vdr_rows.proofs.quoted.print_some.Goals as goal

pub returns-in_err-write_all-clause-front : goal.returns-in_err-write_all-clause-front
returns-in_err-write_all-clause-front g c = first_front _ _ (34 ∷ []) (doubled c.args.text.now ++ 34 ∷ []) _ refl c.in_err-write_all.ensures.front

pub returns-in_err-print_doubled-clause-front : goal.returns-in_err-print_doubled-clause-front
returns-in_err-print_doubled-clause-front g c =
    front-more _ _ _ (34 ∷ []) (doubled c.args.text.now) (34 ∷ []) _ refl c.in_ok-write_all.ensures.all c.in_err-print_doubled.ensures.front

pub returns-clause-all : goal.returns-clause-all
returns-clause-all g c =
    let written = Appends-trans _ _ _ (34 ∷ []) (doubled c.args.text.now) c.in_ok-write_all.ensures.all c.in_ok-print_doubled.ensures.all in
    last_all _ _ _ _ (34 ∷ doubled c.args.text.now) (34 ∷ []) _ refl written c.write_all-2.ensures.all

pub returns-clause-front : goal.returns-clause-front
returns-clause-front g c =
    let written = Appends-trans _ _ _ (34 ∷ []) (doubled c.args.text.now) c.in_ok-write_all.ensures.all c.in_ok-print_doubled.ensures.all in
    last_front _ _ _ (34 ∷ doubled c.args.text.now) (34 ∷ []) _ refl written c.write_all-2.ensures.front
