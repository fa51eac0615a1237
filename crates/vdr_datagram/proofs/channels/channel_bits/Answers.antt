use Rattle.std.proofs.Common.{◌≡◌, List, sym, ap, ◌∙◌}
use Rattle.vdr_config.specs.Configuration.{Configuration, Selector}
use Rattle.vdr_datagram.specs.declared.tokens.Token.TheVariants.{Sentences}
use Rattle.vdr_datagram.specs.Tokens.{token}
use Rattle.vdr_datagram.specs.Channels.{channel_bits}
use Rattle.vdr_datagram.specs.Marks.{shows}
use Rattle.vdr_datagram.proofs.BitLemmas.{each_bit, no_other_bit}
use Rattle.vdr_datagram.proofs.LineLemmas.{bits_of_sentences, bits_of_others}
use Rattle.vdr_datagram.proofs.channels.channel_bits.Goals as goal

pub returns-in-Sentences-clause-bits : goal.returns-in-Sentences-clause-bits
returns-in-Sentences-clause-bits c =
    let same = c.deref.ensures.value ∙ ap (λ (s : Configuration). s.channels) c.config.view_is in
    c.bits_of_lines.ensures ∙ bits_of_sentences c.args.group c.args.bytes.now c.deref.result.now (sym c.token.ensures ∙ c.in-Sentences.is)
    ∙ ap (λ (channels : List Selector). channel_bits channels c.args.group c.args.bytes.now) same

pub returns-in-Sentences-clause-each : goal.returns-in-Sentences-clause-each
returns-in-Sentences-clause-each c =
    each_bit c.bits_of_lines.result c.args.group c.args.bytes.now c.args.config.now.channels (returns-in-Sentences-clause-bits c)

pub returns-in-Sentences-clause-no_other : goal.returns-in-Sentences-clause-no_other
returns-in-Sentences-clause-no_other c =
    no_other_bit c.bits_of_lines.result c.args.group c.args.bytes.now c.args.config.now.channels (returns-in-Sentences-clause-bits c)

pub returns-in_default : goal.returns-in_default
returns-in_default c =
    let same = c.deref-in_default.ensures.value ∙ ap (λ (s : Configuration). s.channels) c.config.view_is in
    let other : token c.args.bytes.now ≡ Sentences → ⊥ = λ e. c.in_default.not-Sentences (c.token.ensures ∙ e) in
    let bits : c.bits_of_mark.result ≡ channel_bits c.args.config.now.channels c.args.group c.args.bytes.now =
    c.bits_of_mark.ensures ∙ bits_of_others c.args.group c.args.bytes.now (shows c.mark_of.result) c.deref-in_default.result.now (λ kind. c.mark_of.ensures kind other)
    ∙ ap (λ (channels : List Selector). channel_bits channels c.args.group c.args.bytes.now) same in
    record {
      bits = bits;
      each = each_bit c.bits_of_mark.result c.args.group c.args.bytes.now c.args.config.now.channels bits;
      no_other = no_other_bit c.bits_of_mark.result c.args.group c.args.bytes.now c.args.config.now.channels bits;
    }
