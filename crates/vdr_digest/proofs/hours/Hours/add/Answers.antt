use Rattle.std.proofs.Common.{◌∙◌, Option, ap, sym}
use Rattle.vdr_digest.specs.Spans.{span_with}
use Rattle.vdr_digest.specs.declared.span.Span.{Span}
use Rattle.vdr_digest.proofs.Holding.{hashed_more, span_more}
use Rattle.vdr_digest.proofs.hours.Hours.add.Goals as goal

pub returns : goal.returns
returns c held holds is = record {
  hour_is = c.hour_in-self.ensures ∙ sym is;
  span_is = c.with.ensures ∙ ap (λ (s : Option Span). span_with s c.args.item.now) holds.span_is ∙ span_more held c.args.item.now;
  bytes_are = hashed_more c.args.self.now.records c.update.new.self held c.args.item.now _ c.write_record-size.new.into c.write_record-size.result holds.bytes_are c.update.ensures c.write_record-size.ensures.bytes c.write_record-size.ensures.size;
}
