use Rattle.std.proofs.Common.{rules, sym, ap, List, ℕ, ◌∷◌, ◌++◌, ◌∙◌, [], subst}
use Rattle.std.proofs.lemmas.Result.{on_ok_weaker}
use Rattle.std.proofs.lemmas.List.{append-nil}
use Rattle.std.proofs.KnownBytes.{Appends-trans}
use Rattle.std.specs.Io.KnownBytes.{Appends}
use Rattle.vdr_entry.specs.Escape.{escaped}
use Rattle.vdr_entry.specs.Lines.{spaced}
use Rattle.vdr_outside.proofs.Known.{front-more}
use Rattle.vdr_play.proofs.Fronts.{front-first}
use Rattle.vdr_play.proofs.WordLemmas.{datagram_front, datagram-words}
use Rattle.vdr_play.proofs.line.print_datagram.Goals as goal

pub returns-in_err-print_words-clause-front : goal.returns-in_err-print_words-clause-front
returns-in_err-print_words-clause-front g c =
    let same = datagram-words c.args.item.now c.args.payload.now c.as_bytes.result.now c.as_bytes-2.result.now c.as_slice.result.now c.as_bytes-3.result.now c.requires.said (search rules) (search rules) (search rules) (search rules) in
    front-first _ _ _ (32 ∷ escaped c.args.payload.now) _ same c.in_err-print_words.ensures.front

pub returns-clause-all : goal.returns-clause-all
returns-clause-all g c =
    let same = datagram-words c.args.item.now c.args.payload.now c.as_bytes.result.now c.as_bytes-2.result.now c.as_slice.result.now c.as_bytes-3.result.now c.requires.said (search rules) (search rules) (search rules) (search rules) in
    on_ok_weaker c.print_payload.result (λ payload. subst (λ (xs : List ℕ). Appends (g.O.Sink.taken c.args.out.now) (g.O.Sink.taken c.print_payload.new.out) xs) (sym same) (Appends-trans _ _ _ _ _ c.in_ok-print_words.ensures.all payload)) c.print_payload.ensures.all

pub returns-clause-front : goal.returns-clause-front
returns-clause-front g c =
    let payload : List ℕ = 32 ∷ escaped c.args.payload.now in
    let words : List ℕ = spaced (datagram_front c.as_bytes.result.now c.as_bytes-2.result.now c.as_slice.result.now c.as_bytes-3.result.now) in
    let same = datagram-words c.args.item.now c.args.payload.now c.as_bytes.result.now c.as_bytes-2.result.now c.as_slice.result.now c.as_bytes-3.result.now c.requires.said (search rules) (search rules) (search rules) (search rules) in
    front-more _ _ _ words payload [] _ (same ∙ ap (λ (xs : List ℕ). words ++ xs) (sym (append-nil payload))) c.in_ok-print_words.ensures.all c.print_payload.ensures.front
