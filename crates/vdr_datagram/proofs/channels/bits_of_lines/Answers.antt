use Rattle.std.proofs.Common.{◌≡◌, ◌==◌, ◌∙◌, rules, sym}
use Rattle.std.specs.List.{list_any}
use Rattle.vdr_config.specs.Configuration.{Selector}
use Rattle.vdr_datagram.specs.Marks.{takes_line}
use Rattle.vdr_datagram.specs.Verdicts.{line_spans}
use Rattle.vdr_datagram.specs.Views.{lines_left, span_of}
use Rattle.vdr_datagram.proofs.BitLemmas.{no_bits}
use Rattle.vdr_datagram.proofs.LineLemmas.{bits_begin, bits_next, bits_end}
use Rattle.vdr_datagram.proofs.channels.bits_of_lines.Goals as goal

pub loop-line-init : goal.loop-line-init
loop-line-init c =
    let all : lines_left c.into_iter-line-iterator.result ≡ line_spans c.args.bytes.now = search rules in
    (tt, tt, bits_begin c.args.group c.args.channels.now (line_spans c.args.bytes.now) (lines_left c.into_iter-line-iterator.result) all)

pub loop-line-preserved : goal.loop-line-preserved
loop-line-preserved c = (
  tt,
  tt,
  bits_next c.args.group c.loop-line.bits c.bits_of_line-bits.result c.args.channels.now (line_spans c.args.bytes.now) (lines_left c.loop-line.line-iterator) (lines_left c.next.new.self)
      (span_of c.in-Some.line) c.loop-line.invariant.2 c.in-Some.ensures.steps c.bits_of_line-bits.ensures,
)

pub returns : goal.returns
returns c =
    bits_end c.args.group c.loop-line.bits c.args.channels.now (line_spans c.args.bytes.now) (lines_left c.loop-line.line-iterator) c.loop-line.invariant.2 c.in-None.ensures.steps.0

pub returns-then-not-has_channel : goal.returns-then-not-has_channel
returns-then-not-has_channel c =
    let none = sym c.has_channel.ensures ∙ c.if-not-has_channel.true in
    sym (no_bits (λ (s : Selector). s.group == c.args.group) (λ (s : Selector). list_any (λ line. takes_line line.verdict s.kind) (line_spans c.args.bytes.now)) c.args.channels.now none)
