use Rattle.std.proofs.Common.{◌≡◌, ◌∙◌, false, ℕ, List, Some, refl, sym, ap, subst}
use Rattle.std.specs.Prelude.{sum}
use Rattle.vdr_core.specs.Histories.Act.{Look}
use Rattle.vdr_durability.specs.Playback.{selected}
use Rattle.vdr_terms.specs.Queries.{Query}
use Rattle.vdr_entry.specs.Queries.{asked}
use Rattle.vdr_outside.specs.Causes.{Rose}
use Rattle.vdr_vault.proofs.Playing.{stands_to_read}
use Rattle.vdr_vault.proofs.Reading.{reads_keep_failed}
use Rattle.vdr_visit.specs.Refusals.{lacks_incident}
use Rattle.vdr_export.specs.Answers.{FileEnds, file_end, file_of}
use Rattle.vdr_recorder.proofs.Answering.{in_this_call}
use Rattle.vdr_reply.specs.Exports.{IsSent}
use Rattle.vdr_reply.specs.Orders.{file_for}
use Rattle.vdr_reply.proofs.Before.{done_before, elsewhere_before}
use Rattle.vdr_reply.proofs.Exported.{cause_read, file_answer, recorded_read, rest_read, watched_read}
use Rattle.vdr_reply.proofs.exporting.export.Goals as goal

pub export_file-written-requires : goal.export_file-written-requires
export_file-written-requires g c = record { asked = record { may = c.requires.rings; channel = c.requires.channel; incident = c.requires.incident } }

pub look_watched-requires : goal.look_watched-requires
look_watched-requires g c = record {
  watched = watched_read (asked c.args.query.now) c.args.recorder.now c.export_file-written.new.reader (g.M.Media.disk c.args.media.now) (g.M.Media.disk c.export_file-written.new.media) _ _ _ _ _
      c.export_file-written.ensures.leaves.looked (g.W.Watch.seen c.args.watch.now) c.requires.watched;
}

pub returns-clause-answered : goal.returns-clause-answered
returns-clause-answered g c = λ medium name from to exporting opening events t0 asks told h.
    let e = c.export_file-written.ensures in
    let r = c.args.recorder.now in
    let q = asked c.args.query.now in
    let old = g.M.Media.disk c.args.media.now in
    let mid = g.M.Media.disk c.export_file-written.new.media in
    let after = c.export_file-written.new.reader in
    let looked = e.leaves.looked in
    let works = c.requires.works in
    let channels = r.vault.config.channels in
    let page = c.export_file-written.new.out.bytes.items in
    let kept = recorded_read q r after old mid _ _ _ _ _ looked opening events t0 h in
    let readable = stands_to_read opening events r.vault (h.works works).standing.placed old (h.works works).standing.stands in
    let ends : FileEnds (file_of c.args.file.now (selected opening events q)) (Some c.empty-page.result.bytes.items) (Some page) c.export_file-written.result =
    e.file (selected opening events q) (record { told = told; opening = opening; events = events; placed = (h.works works).standing.placed; readable = readable; are = refl }) in
    file_answer opening events t0 r old h (Rose (sum (g.M.Media.faults c.args.media.now)) (sum (g.M.Media.faults c.export_file-written.new.media))) c.of_written.result g.W.Watch.hears (g.W.Watch.seen c.args.watch.now)
    (g.W.Watch.seen c.look_watched.new.watch) works medium name from to exporting c.args.file.now after mid c.export_file-written.result page
    (done_before old mid looked.read.unchanged opening events t0 Look after mid (g.W.Watch.seen c.args.watch.now) (g.W.Watch.seen c.look_watched.new.watch) (c.look_watched.ensures.told opening events t0 kept))
    (reads_keep_failed _ r.vault after.vault looked.read.vault ∙ works)
    asks.named
    (subst (λ (it : Query). lacks_incident r.vault.table it.medium ≡ false) asks.query_is c.requires.incident)
    (ap (λ (it : Query). file_for channels exporting from it) (sym asks.query_is) ∙ asks.file_is)
    (subst (λ (x : Query × List ℕ). FileEnds (file_of c.args.file.now (selected opening events x.0)) (Some x.1) (Some page) c.export_file-written.result) (λ i. (asks.query_is i, c.empty-page.ensures i)) ends)
    (subst (λ (bytes : List ℕ). IsSent c.export_file-written.result bytes c.of_written.result) c.as_slice.ensures c.of_written.ensures)
    (λ is. in_this_call r.vault.failed _ works (looked.cause.in_all (ap file_end is)))

pub returns-clause-rest : goal.returns-clause-rest
returns-clause-rest g c =
    rest_read (asked c.args.query.now) c.args.recorder.now c.export_file-written.new.reader (g.M.Media.disk c.args.media.now) (g.M.Media.disk c.export_file-written.new.media) _ _ _ _ _ c.export_file-written.ensures.leaves.looked

pub returns-clause-others : goal.returns-clause-others
returns-clause-others g c = elsewhere_before _ _ c.export_file-written.ensures.leaves.looked.read.unchanged _ (λ told k apart. refl)

pub returns-clause-cause : goal.returns-clause-cause
returns-clause-cause g c =
    cause_read (asked c.args.query.now) c.args.recorder.now c.export_file-written.new.reader (g.M.Media.disk c.args.media.now) (g.M.Media.disk c.export_file-written.new.media) _ _ _ _ _ c.export_file-written.ensures.leaves.looked
