use Rattle.std.proofs.Common.{[], ◌∷◌, sym, ap, List, ℕ}
use Rattle.std.proofs.lemmas.List.{append-nil}
use Rattle.vdr_outside.proofs.Known.{front-more}
use Rattle.vdr_play.proofs.words.print_word.Goals as goal

pub returns-clause-front : goal.returns-clause-front
returns-clause-front g c =
    front-more _ _ _ (32 ∷ []) c.args.word.now [] _ (sym (ap (λ (xs : List ℕ). 32 ∷ xs) (append-nil c.args.word.now))) c.in_ok-write_all.ensures.all c.write_all-2.ensures.front
