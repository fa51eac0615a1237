use Rattle.std.proofs.Common.{◌≡◌, ◌∙◌, Ok, Err, refl, sym, ap, subst}
use Rattle.vdr_config.specs.Configuration.{Configuration}
use Rattle.vdr_entry.specs.Queries.{asked}
use Rattle.vdr_export.specs.Answers.{MayBeBegun}
use Rattle.vdr_export.specs.Wishes.{kind_at, wished}
use Rattle.vdr_readout.specs.Reads.{LacksChannel, plain_play, query_of}
use Rattle.vdr_from.proofs.WriteLemmas.{channel_writes, file_writes, kind_writes, silent_so}
use Rattle.vdr_from.proofs.writing.write_held.Goals as goal

pub returns-in_default-clause-writes : goal.returns-in_default-clause-writes
returns-in_default-clause-writes g c kept =
    channel_writes (g.F.StoredFile.whole c.args.reader.now.file.now) c.args.wish (plain_play c.args.wanted) _ _ c.args.reader.now.kept kept
    (subst (λ (d : Configuration). LacksChannel d c.args.wanted.channel.now) c.config-config.ensures c.in_default.ensures.none) c.report_channel.ensures

pub returns-in_default-file_of-clause-writes : goal.returns-in_default-file_of-clause-writes
returns-in_default-file_of-clause-writes g c kept =
    kind_writes (g.F.StoredFile.whole c.args.reader.now.file.now) c.args.wish (plain_play c.args.wanted) _ _ c.args.reader.now.kept kept (asked c.in-Some.query)
    (subst (λ (d : Configuration). asked c.in-Some.query ≡ query_of d c.args.wanted.medium c.args.wanted.channel.now c.args.wanted.from c.args.wanted.to) c.config-config.ensures c.in-Some.ensures.found.0)
    (sym (c.file_of.ensures ∙ ap (λ (d : Configuration). wished c.args.wish (kind_at d.channels c.in-Some.query.channel)) c.config-config.ensures) ∙ c.in_default-file_of.is) refl

pub returns-in-Ok-clause-writes : goal.returns-in-Ok-clause-writes
returns-in-Ok-clause-writes g c kept =
    file_writes (g.F.StoredFile.whole c.args.reader.now.file.now) c.args.wish (plain_play c.args.wanted) _ _ c.args.reader.now.kept kept (asked c.in-Some.query)
    (subst (λ (d : Configuration). asked c.in-Some.query ≡ query_of d c.args.wanted.medium c.args.wanted.channel.now c.args.wanted.from c.args.wanted.to) c.config-config.ensures c.in-Some.ensures.found.0)
    c.in-Some-file_of.file
    (sym (c.file_of.ensures ∙ ap (λ (d : Configuration). wished c.args.wish (kind_at d.channels c.in-Some.query.channel)) c.config-config.ensures) ∙ c.in-Some-file_of.is)
    c.export_file.result (λ records told. c.export_file.ensures.file records told)
    (silent_so (MayBeBegun c.in-Some-file_of.file) c.args.out.now c.export_file.new.out (λ (o : g.row.O.Denot). record { taken = g.O.Sink.taken o; faults = g.O.Sink.faults o }) c.export_file.result c.export_file.ensures.silent)
    c.export_file.ensures.output.rose (Ok tt) c.in-Ok.is

pub returns-in-Err-clause-writes : goal.returns-in-Err-clause-writes
returns-in-Err-clause-writes g c kept =
    rw c.refused_as.ensures
    (file_writes (g.F.StoredFile.whole c.args.reader.now.file.now) c.args.wish (plain_play c.args.wanted) _ _ c.args.reader.now.kept kept (asked c.in-Some.query)
    (subst (λ (d : Configuration). asked c.in-Some.query ≡ query_of d c.args.wanted.medium c.args.wanted.channel.now c.args.wanted.from c.args.wanted.to) c.config-config.ensures c.in-Some.ensures.found.0)
    c.in-Some-file_of.file
    (sym (c.file_of.ensures ∙ ap (λ (d : Configuration). wished c.args.wish (kind_at d.channels c.in-Some.query.channel)) c.config-config.ensures) ∙ c.in-Some-file_of.is)
    c.export_file.result (λ records told. c.export_file.ensures.file records told)
    (silent_so (MayBeBegun c.in-Some-file_of.file) c.args.out.now c.export_file.new.out (λ (o : g.row.O.Denot). record { taken = g.O.Sink.taken o; faults = g.O.Sink.faults o }) c.export_file.result c.export_file.ensures.silent)
    c.export_file.ensures.output.rose (Err c.in-Err.refused) c.in-Err.is)
