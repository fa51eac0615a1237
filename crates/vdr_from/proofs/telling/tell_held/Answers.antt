use Rattle.std.proofs.Common.{◌≡◌, Ok, Err, subst}
use Rattle.vdr_config.specs.Configuration.{Configuration}
use Rattle.vdr_entry.specs.Queries.{asked}
use Rattle.vdr_readout.specs.Reads.{LacksChannel, plain_play, query_of}
use Rattle.vdr_from.proofs.TellLemmas.{channel_tells, visit_tells}
use Rattle.vdr_from.proofs.telling.tell_held.Goals as goal

pub returns-in_default-clause-tells : goal.returns-in_default-clause-tells
returns-in_default-clause-tells g c first had kept =
    channel_tells (g.F.StoredFile.whole c.args.reader.now.file.now) (plain_play c.args.wanted) (g.V.Visitor.line first) (g.V.Visitor.last first) _ _ c.args.reader.now.kept kept
    (subst (λ (d : Configuration). LacksChannel d c.args.wanted.channel.now) c.config.ensures c.in_default.ensures.none) c.report_channel.ensures

pub returns-in-Ok-clause-tells : goal.returns-in-Ok-clause-tells
returns-in-Ok-clause-tells g c first had kept =
    visit_tells (g.F.StoredFile.whole c.args.reader.now.file.now) (plain_play c.args.wanted) (g.V.Visitor.line first) (g.V.Visitor.last first) _ _ c.args.reader.now.kept kept (asked c.in-Some.query)
    (subst (λ (d : Configuration). asked c.in-Some.query ≡ query_of d c.args.wanted.medium c.args.wanted.channel.now c.args.wanted.from c.args.wanted.to) c.config.ensures c.in-Some.ensures.found.0)
    c.visit_buffered.result (Ok tt) c.in-Ok.is (c.visit_buffered.ensures.handed first had) c.visit_buffered.ensures.accepted c.visit_buffered.ensures.output.rose

pub returns-in-Err-clause-tells : goal.returns-in-Err-clause-tells
returns-in-Err-clause-tells g c first had kept =
    rw c.stopped_as.ensures
    (visit_tells (g.F.StoredFile.whole c.args.reader.now.file.now) (plain_play c.args.wanted) (g.V.Visitor.line first) (g.V.Visitor.last first) _ _ c.args.reader.now.kept kept (asked c.in-Some.query)
    (subst (λ (d : Configuration). asked c.in-Some.query ≡ query_of d c.args.wanted.medium c.args.wanted.channel.now c.args.wanted.from c.args.wanted.to) c.config.ensures c.in-Some.ensures.found.0)
    c.visit_buffered.result (Err c.in-Err.stop) c.in-Err.is (c.visit_buffered.ensures.handed first had) c.visit_buffered.ensures.accepted c.visit_buffered.ensures.output.rose)
