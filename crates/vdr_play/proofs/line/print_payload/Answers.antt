use Rattle.std.proofs.Common.{[], ◌∷◌, sym, ap, List, ℕ}
use Rattle.std.proofs.lemmas.List.{append-nil}
use Rattle.vdr_entry.specs.Escape.{escaped}
use Rattle.vdr_outside.proofs.Known.{front-more}
use Rattle.vdr_play.proofs.line.print_payload.Goals as goal

pub returns-clause-front : goal.returns-clause-front
returns-clause-front g c =
    let text : List ℕ = escaped c.args.payload.now in
    front-more _ _ _ (32 ∷ []) text [] _ (sym (ap (λ (xs : List ℕ). 32 ∷ xs) (append-nil text))) c.in_ok-write_all.ensures.all c.print_escaped.ensures.front
