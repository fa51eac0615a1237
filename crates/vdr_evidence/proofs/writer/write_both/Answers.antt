use Rattle.std.proofs.Common.{◌++◌, ℕ, List, [], sym, ap, append-nil}
use Rattle.std.proofs.KnownBytes.{Appends-trans}
use Rattle.vdr_outside.proofs.Known.{front-more}
use Rattle.vdr_visit.proofs.Printing.{front_of_whole}
use Rattle.vdr_evidence.proofs.Parts.{on_ok}
use Rattle.vdr_evidence.proofs.writer.write_both.Goals as goal

pub returns-in_err-write_all-clause-front : goal.returns-in_err-write_all-clause-front
returns-in_err-write_all-clause-front g c = front_of_whole _ _ c.args.first.now c.args.second.now c.in_err-write_all.ensures.front

pub returns-clause-all : goal.returns-clause-all
returns-clause-all g c = on_ok c.write_all-2.result (λ more. Appends-trans _ _ _ c.args.first.now c.args.second.now c.in_ok-write_all.ensures.all more) c.write_all-2.ensures.all

pub returns-clause-front : goal.returns-clause-front
returns-clause-front g c =
    front-more _ _ _ c.args.first.now c.args.second.now [] (c.args.first.now ++ c.args.second.now) (ap (λ (l : List ℕ). c.args.first.now ++ l) (sym (append-nil c.args.second.now)))
    c.in_ok-write_all.ensures.all c.write_all-2.ensures.front
