use Rattle.std.proofs.Common.{rules, sym, List, ℕ, ◌∷◌, ◌++◌, ◌∙◌, [], subst}
use Rattle.std.proofs.lemmas.Result.{on_ok_weaker}
use Rattle.std.proofs.lemmas.List.{append_assoc}
use Rattle.std.proofs.KnownBytes.{Appends-trans}
use Rattle.std.specs.Io.KnownBytes.{Appends}
use Rattle.vdr_entry.specs.Lines.{spaced, words_of}
use Rattle.vdr_outside.proofs.Known.{front-more}
use Rattle.vdr_play.proofs.Fronts.{front-first}
use Rattle.vdr_play.proofs.WordLemmas.{line-parts}
use Rattle.vdr_play.proofs.line.print_line.Goals as goal

pub returns-in_err-write_all-clause-front : goal.returns-in_err-write_all-clause-front
returns-in_err-write_all-clause-front g c =
    let parts = line-parts c.args.item.now c.as_bytes.result.now (search rules) in
    front-first _ _ _ (spaced (words_of c.args.item.now.content c.args.item.now) ++ 10 ∷ []) _ parts c.in_err-write_all.ensures.front

pub returns-in_err-print_content-clause-front : goal.returns-in_err-print_content-clause-front
returns-in_err-print_content-clause-front g c =
    let parts = line-parts c.args.item.now c.as_bytes.result.now (search rules) in
    front-more _ _ _ _ _ (10 ∷ []) _ parts c.in_ok-write_all.ensures.all c.in_err-print_content.ensures.front

pub returns-clause-all : goal.returns-clause-all
returns-clause-all g c =
    let words : List ℕ = spaced (words_of c.args.item.now.content c.args.item.now) in
    let parts = line-parts c.args.item.now c.as_bytes.result.now (search rules) in
    let written = Appends-trans _ _ _ _ _ c.in_ok-write_all.ensures.all c.in_ok-print_content.ensures.all in
    on_ok_weaker c.write_all-2.result
    (λ last. subst (λ (xs : List ℕ). Appends (g.O.Sink.taken c.args.out.now) (g.O.Sink.taken c.write_all-2.new.sink) xs) (append_assoc c.as_bytes.result.now words (10 ∷ []) ∙ sym parts) (Appends-trans _ _ _ _ _ written last))
    c.write_all-2.ensures.all

pub returns-clause-front : goal.returns-clause-front
returns-clause-front g c =
    let words : List ℕ = spaced (words_of c.args.item.now.content c.args.item.now) in
    let parts = line-parts c.args.item.now c.as_bytes.result.now (search rules) in
    let written = Appends-trans _ _ _ _ _ c.in_ok-write_all.ensures.all c.in_ok-print_content.ensures.all in
    front-more _ _ _ _ (10 ∷ []) [] _ (parts ∙ sym (append_assoc c.as_bytes.result.now words (10 ∷ []))) written c.write_all-2.ensures.front
