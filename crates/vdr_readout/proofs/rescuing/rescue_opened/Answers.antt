use Rattle.std.proofs.Common.{◌≡◌, ◌∙◌, inr, ap, refl, subst}
use Rattle.vdr_config.specs.Configuration.{Configuration}
use Rattle.vdr_entry.specs.Queries.{asked}
use Rattle.vdr_rescue.specs.Alones.{account_of}
use Rattle.vdr_segment.specs.declared.area.Area.{Area}
use Rattle.vdr_command.specs.Endings.{ending}
use Rattle.vdr_readout.specs.Reads.{LacksChannel, plain_play, query_of}
use Rattle.vdr_readout.specs.Telling.{TellsAlone}
use Rattle.vdr_readout.proofs.ReadLemmas.{wanted_so}
use Rattle.vdr_readout.proofs.RescueLemmas.{LawsOfAlone, channel_rescues, cut_rescues, ok_from, rose_later, tells_rescues}
use Rattle.vdr_readout.proofs.rescuing.rescue_opened.Goals as goal

pub returns-in_default-clause-rescues : goal.returns-in_default-clause-rescues
returns-in_default-clause-rescues g c first had before opened =
    let laws : LawsOfAlone = record { same = c.law_of_alone.ensures.same; refused = c.law_of_alone.ensures.refused; never = c.law_of_alone.ensures.never; one = c.law_of_alone.ensures.one; given = c.law_of_alone.ensures.given; found = c.law_of_alone.ensures.found } in
    channel_rescues laws (plain_play c.args.wanted) _ _ _ _ c.args.opened opened.alone opened.unchanged opened.others
    (subst (λ (d : Configuration). LacksChannel d c.args.wanted.channel.now) c.config.ensures c.in_default.ensures.none) c.report_channel.ensures

pub returns-in-Err-clause-rescues : goal.returns-in-Err-clause-rescues
returns-in-Err-clause-rescues g c first had before opened =
    let laws : LawsOfAlone = record { same = c.law_of_alone.ensures.same; refused = c.law_of_alone.ensures.refused; never = c.law_of_alone.ensures.never; one = c.law_of_alone.ensures.one; given = c.law_of_alone.ensures.given; found = c.law_of_alone.ensures.found } in
    let visit = c.visit_buffered-ended.ensures in
    let wants = wanted_so c.args.opened.config _ _ _ _ (asked c.in-Some.query)
    (subst (λ (d : Configuration). asked c.in-Some.query ≡ query_of d c.args.wanted.medium c.args.wanted.channel.now c.args.wanted.from c.args.wanted.to) c.config.ensures c.in-Some.ensures.found.0)
    (subst (λ (d : Configuration). LacksChannel d c.args.wanted.channel.now → ⊥) c.config.ensures c.in-Some.ensures.found.1) in
    rw c.stopped_as.ensures.is
    (cut_rescues g.M.Media laws (plain_play c.args.wanted) before c.args.world.now.media c.visit_buffered-ended.new.media c.args.opened c.visit_buffered-ended.new.reader
    opened.medium opened.alone (asked c.in-Some.query) wants opened.unchanged opened.others opened.later
    c.visit_buffered-ended.result visit.leaves visit.accepted _ _ _ _ _ (visit.handed first had)
    (λ is. let same = (visit.unread (inr is)).3 in λ i. record { taken = g.O.Sink.taken (same i); faults = g.O.Sink.faults (same i) }) visit.output.rose _ (λ reason. refl)
    c.in-Err.stop c.in-Err.is)

pub returns-clause-rescues : goal.returns-clause-rescues
returns-clause-rescues g c first had before opened =
    let laws : LawsOfAlone = record { same = c.law_of_alone.ensures.same; refused = c.law_of_alone.ensures.refused; never = c.law_of_alone.ensures.never; one = c.law_of_alone.ensures.one; given = c.law_of_alone.ensures.given; found = c.law_of_alone.ensures.found } in
    let visit = c.visit_buffered-ended.ensures in
    let wants = wanted_so c.args.opened.config _ _ _ _ (asked c.in-Some.query)
    (subst (λ (d : Configuration). asked c.in-Some.query ≡ query_of d c.args.wanted.medium c.args.wanted.channel.now c.args.wanted.from c.args.wanted.to) c.config.ensures c.in-Some.ensures.found.0)
    (subst (λ (d : Configuration). LacksChannel d c.args.wanted.channel.now → ⊥) c.config.ensures c.in-Some.ensures.found.1) in
    tells_rescues g.M.Media laws (plain_play c.args.wanted) before c.args.world.now.media c.visit_buffered-ended.new.media c.args.opened c.visit_buffered-ended.new.reader
    opened.medium opened.alone (asked c.in-Some.query) wants opened.unchanged opened.others opened.later
    c.visit_buffered-ended.result visit.leaves visit.accepted _ _ _ _ _ (visit.handed first had)
    (ok_from c.visit_buffered-ended.result c.in_default-ended.not-Err) _
    (λ rose. rose_later _ _ _ visit.output.later rose) (ending c.tell.result)
    (subst (λ n. TellsAlone (account_of c.visit_buffered-ended.new.reader) n (record { taken = g.O.Sink.taken c.visit_buffered-ended.new.out; faults = g.O.Sink.faults c.visit_buffered-ended.new.out })
    (record { taken = g.O.Sink.taken c.tell.new.out; faults = g.O.Sink.faults c.tell.new.out }) (ending c.tell.result)) (ap (λ (area : Area). area.medium) visit.leaves.same.area ∙ opened.medium) c.tell.ensures.told)
