use Rattle.std.proofs.Common.{◌∙◌, sym, ap, rules}
use Rattle.vdr_datagram.specs.Views.{verdict_of}
use Rattle.vdr_tag.specs.Views.{values_of}
use Rattle.vdr_ais.specs.Lines.{line_in}
use Rattle.vdr_ais.proofs.Shown.{good_line}
use Rattle.vdr_ais.proofs.carried.line_in.Goals as goal

pub returns-in-Ok-Some : goal.returns-in-Ok-Some
returns-in-Ok-Some c =
    c.line_of.ensures
    ∙ good_line c.args.group (values_of c.in-Good.tags) (record { start = c.in-Good.sentence.start; content = c.in-Good.sentence.content.now }) c.in-Ok-Some.reading c.unwrap_or.result.now (search rules) (search rules)
    ∙ sym (ap (λ v. line_in c.args.group (verdict_of v)) c.in-Good.is)
