use Rattle.std.proofs.Common.{List, ℕ, length, drop, sym, ap, ◌∙◌, arith}
use Rattle.std.proofs.lemmas.List.{length-drop}
use Rattle.vdr_datagram.specs.Verdicts.{spans_from, spans_under}
use Rattle.vdr_datagram.specs.declared.tokens.Token.{Token}
use Rattle.vdr_datagram.proofs.CutLemmas.{cut-none}
use Rattle.vdr_datagram.proofs.TokenLemmas.{no_spans}
use Rattle.vdr_datagram.proofs.sentences.lines.Goals as goal

pub returns-in_default : goal.returns-in_default
returns-in_default c =
    let bytes : List ℕ = c.args.bytes.now in
    let none = cut-none (drop (length bytes) bytes) (omega (arith, length-drop (length bytes) bytes)) in
    let other = no_spans c.token.result bytes c.in_default.not-Sentences in
    c.from-in_default.ensures ∙ ap (λ (lines : List (List ℕ)). spans_from (length bytes) lines) none ∙ sym other ∙ ap (λ (kind : Token). spans_under kind bytes) c.token.ensures
