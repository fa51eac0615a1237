use Rattle.std.proofs.Common.{List, ℕ, [], ◌∷◌, ◌++◌, refl}
use Rattle.std.proofs.KnownBytes.{Appends-trans}
use Rattle.vdr_entry.specs.Lines.{spaced}
use Rattle.vdr_outside.proofs.Known.{front-more}
use Rattle.vdr_play.proofs.WordLemmas.{values}
use Rattle.vdr_play.proofs.verdicts.print_indented.Goals as goal

pub returns-in_err-print_words-clause-front : goal.returns-in_err-print_words-clause-front
returns-in_err-print_words-clause-front g c =
    let words : List ℕ = spaced (values c.args.words.now) in
    front-more _ _ _ (32 ∷ []) words (10 ∷ []) (32 ∷ (words ++ 10 ∷ [])) refl c.in_ok-write_all.ensures.all c.in_err-print_words.ensures.front

pub returns-clause-front : goal.returns-clause-front
returns-clause-front g c =
    let words : List ℕ = spaced (values c.args.words.now) in
    let written = Appends-trans _ _ _ (32 ∷ []) words c.in_ok-write_all.ensures.all c.in_ok-print_words.ensures.all in
    front-more _ _ _ (32 ∷ words) (10 ∷ []) [] (32 ∷ (words ++ 10 ∷ [])) refl written c.write_all-2.ensures.front
