use Rattle.std.proofs.Common.{◌≡◌, ◌∙◌, true, false, None, length, ap, subst}
use Rattle.vdr_terms.specs.Queries.{Query}
use Rattle.vdr_entry.specs.Queries.{asked}
use Rattle.vdr_config.specs.Configuration.{Configuration}
use Rattle.vdr_visit.specs.Refusals.{lacks_channel, lacks_incident}
use Rattle.vdr_terms.proofs.Stamping.{stamp_kept}
use Rattle.vdr_reply.specs.Exports.{wish_of}
use Rattle.vdr_reply.specs.Orders.{file_for}
use Rattle.vdr_reply.proofs.Exported.{file_found, kind_export, missing_export, unnamed_export}
use Rattle.vdr_reply.proofs.Told.{asked_within, has_so, lacks_so}
use Rattle.vdr_reply.proofs.exporting.answer_export.Goals as goal

pub returns-in_default-clause-answered : goal.returns-in_default-clause-answered
returns-in_default-clause-answered g c = λ opening events t0 stamp told h.
    unnamed_export opening events t0 c.args.recorder.now (g.M.Media.disk c.args.media.now) h _ c.of_line.result g.W.Watch.hears (g.W.Watch.seen c.args.watch.now) _ c.requires.works
    c.args.wanted.medium c.args.wanted.name.now c.args.wanted.from c.args.wanted.to c.args.exporting
    (c.look_watched.ensures.told opening events t0 h) c.in_default.ensures.none c.of_line.ensures

pub returns-then-not-is_there-clause-answered : goal.returns-then-not-is_there-clause-answered
returns-then-not-is_there-clause-answered g c = λ opening events t0 stamp told h.
    let found = c.in-Some.ensures.found in
    let r = c.args.recorder.now in
    let channels = r.vault.config.channels in
    let q = asked c.in-Some.query in
    let named : lacks_channel (length channels) q.channel ≡ false =
    ap (λ (it : Query). lacks_channel (length channels) it.channel) found.0 ∙ asked_within channels c.args.wanted.medium c.args.wanted.name.now c.args.wanted.from c.args.wanted.to in
    missing_export opening events t0 r (g.M.Media.disk c.args.media.now) h _ c.of_line-then-not-is_there.result g.W.Watch.hears (g.W.Watch.seen c.args.watch.now) _ c.requires.works
    c.args.wanted.medium c.args.wanted.name.now c.args.wanted.from c.args.wanted.to c.args.exporting
    (c.look_watched-then-not-is_there.ensures.told opening events t0 h) found.1
    (subst (λ (it : Query). lacks_incident r.vault.table it.medium ≡ true) found.0
    (lacks_so (lacks_channel (length channels) q.channel) (lacks_incident r.vault.table q.medium) c.is_there.result named c.is_there.ensures c.if-not-is_there.true))
    c.of_line-then-not-is_there.ensures

pub returns-in_default-file_of-clause-answered : goal.returns-in_default-file_of-clause-answered
returns-in_default-file_of-clause-answered g c = λ opening events t0 stamp told h.
    let found = c.in-Some.ensures.found in
    let r = c.args.recorder.now in
    let channels = r.vault.config.channels in
    let q = asked c.in-Some.query in
    kind_export opening events t0 r (g.M.Media.disk c.args.media.now) h _ c.of_line-in_default-file_of.result g.W.Watch.hears (g.W.Watch.seen c.args.watch.now) _ c.requires.works
    c.args.wanted.medium c.args.wanted.name.now c.args.wanted.from c.args.wanted.to c.args.exporting
    (c.look_watched-in_default-file_of.ensures.told opening events t0 h) found.1
    (subst (λ (it : Query). lacks_incident r.vault.table it.medium ≡ false) found.0
    (has_so (lacks_channel (length channels) q.channel) (lacks_incident r.vault.table q.medium) c.is_there.result c.is_there.ensures c.if-not-is_there.false))
    (subst (λ (it : Query). file_for channels c.args.exporting c.args.wanted.from it ≡ None) found.0
    (file_found channels c.config.result.now.channels c.args.exporting c.args.wanted.from q c.wish_of-wish.result c.file_of.result (c.wish_of-wish.ensures ∙ ap (wish_of c.args.exporting) (stamp_kept c.args.wanted.from stamp)) (ap (λ (d : Configuration). d.channels) c.config.ensures) c.file_of.ensures
    ∙ c.in_default-file_of.is))
    c.of_line-in_default-file_of.ensures

pub export-requires-clause-channel : goal.export-requires-clause-channel
export-requires-clause-channel g c =
    let channels = c.args.recorder.now.vault.config.channels in
    ap (λ (it : Query). lacks_channel (length channels) it.channel) c.in-Some.ensures.found.0 ∙ asked_within channels c.args.wanted.medium c.args.wanted.name.now c.args.wanted.from c.args.wanted.to

pub export-requires-clause-incident : goal.export-requires-clause-incident
export-requires-clause-incident g c =
    let q = asked c.in-Some.query in
    has_so (lacks_channel (length c.args.recorder.now.vault.config.channels) q.channel) (lacks_incident c.args.recorder.now.vault.table q.medium) c.is_there.result c.is_there.ensures c.if-not-is_there.false

pub returns-clause-answered : goal.returns-clause-answered
returns-clause-answered g c = λ opening events t0 stamp told h.
    let found = c.in-Some.ensures.found in
    let channels = c.args.recorder.now.vault.config.channels in
    let q = asked c.in-Some.query in
    c.export.ensures.answered c.args.wanted.medium c.args.wanted.name.now c.args.wanted.from c.args.wanted.to c.args.exporting opening events t0
    (record {
      named = found.1;
      query_is = found.0;
      file_is = file_found channels c.config.result.now.channels c.args.exporting c.args.wanted.from q c.wish_of-wish.result c.file_of.result (c.wish_of-wish.ensures ∙ ap (wish_of c.args.exporting) (stamp_kept c.args.wanted.from stamp)) (ap (λ (d : Configuration). d.channels) c.config.ensures) c.file_of.ensures
          ∙ c.in-Some-file_of.is;
    })
    told h
