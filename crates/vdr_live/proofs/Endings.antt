-- What `record` leaves, from what opening the media and the session ensure.
use Rattle.std.proofs.Common.{◌≡◌, ◌≤◌, ◌<◌, ℕ, List, [], length, get_or, Option, Ok, sym, ap, ◌∙◌, subst, arith}
use Rattle.std.specs.Prelude.{sum}
use Rattle.vdr_core.specs.Histories.{Opening, recorded}
use Rattle.vdr_core.specs.Runs.{Stamp, base_after}
use Rattle.vdr_durability.specs.Readings.{EndsMeet}
use Rattle.vdr_outside.specs.Causes.{NoneFalls, Rose}
use Rattle.vdr_outside.specs.Disk.{Disk, Image, SameBut}
use Rattle.vdr_outside.specs.declared.port.Port.{Ghosts as PortTells}
use Rattle.vdr_outside.proofs.Counts.{rose_after, sum_not_less}
use Rattle.vdr_config.specs.Configuration.{Configuration}
use Rattle.vdr_opening.specs.Media.{members_with, Contents, HoldsContents, opening_of, reading_of}
use Rattle.vdr_vault.specs.Calls.{SameElsewhere}
use Rattle.vdr_vault.specs.Openings.{IsToldBy, OpensAtEachMoment, WritesMissing}
use Rattle.vdr_vault.specs.Vaults.{ShowsHistory, VaultState}
use Rattle.vdr_recorder.specs.Headline.{IsHeard}
use Rattle.vdr_recorder.specs.Watched.{Tells, Watched}
use Rattle.vdr_recorder.specs.Recordings.{HasRecorded, RecorderState, start_of_opening}
use Rattle.vdr_capture.specs.declared.lane.Lane.{Lane}
use Rattle.vdr_capture.specs.declared.sums.Outcome.{Outcome}
use Rattle.vdr_capture.specs.declared.sums.Outcome.TheVariants.{Done, NoMemory, Place, Tick, MediaFault, PortFault, LinkFault}
use Rattle.vdr_outside.specs.declared.link.Link.{Ghosts as LinkTells}
use Rattle.vdr_desk.specs.declared.desk.Desk.{Desk}
use Rattle.vdr_session.specs.declared.mark.Mark.{Mark}
use Rattle.vdr_session.specs.Desks.{DesksReplied, DesksTold, FailureTold}
use Rattle.vdr_session.specs.Sessions.{DecidedBy, DecidesSession, HasGroups, HasSessionCause, IsUnbegun, OutcomeMeans, RecordsSession, SessionWith}
use Rattle.vdr_session.specs.declared.session.SessionEnd.{SessionEnd}
use Rattle.vdr_recorder.proofs.Passing.{passes_opened}
use Rattle.vdr_recorder.proofs.Playing.{config_read}
use Rattle.vdr_recorder.proofs.Starting.{same_stamp}
use Rattle.vdr_command.specs.Opened.{AddsMissing, WasRecorded}
use Rattle.vdr_command.proofs.OpenedLemmas.{OpenedOn, TellsOn, opened_so}
use Rattle.vdr_command.specs.Outside.{MediaSeen}
use Rattle.vdr_live.specs.Links.{AreReplied, seen_links}
use Rattle.vdr_live.specs.Ports.{seen_ports}
use Rattle.vdr_live.specs.Recordings.{Decides, IsRecorded}
use Rattle.vdr_live.proofs.Headlines.{headline}
use Rattle.vdr_live.proofs.LinkLemmas.{are_replied, asks_links}
use Rattle.vdr_live.proofs.PortLemmas.{asks_ports, unasked}

-- What stays on the other media, over two calls.
pub same_twice : (old mid new : Image) → SameElsewhere (members_with 0) old mid → SameElsewhere (members_with 0) mid new → SameElsewhere (members_with 0) old new
same_twice old mid new first then = λ k apart. then k apart ∙ first k apart

-- What the vault decides is what opening read decides.
begins_as : (x : Contents) (vault : VaultState) → IsToldBy x vault → (outcome : Outcome) → DecidesSession vault outcome → OutcomeMeans (opening_of x) outcome
begins_as x vault read outcome h =
    go outcome
    (subst (λ (last : Option Stamp). DecidedBy (opening_of x).next_place (base_after last) outcome) (same_stamp (opening_of x).last)
    (subst (λ (v : VaultState). DecidesSession v outcome) (λ i. record vault { next_place = read.place i; last = read.last i }) h))
  where
    go : (outcome : Outcome) → DecidedBy (opening_of x).next_place (base_after (opening_of x).last) outcome → OutcomeMeans (opening_of x) outcome
    go Done h = record { place = h.0; base = h.1 }
    go NoMemory h = tt
    go Place h = h
    go Tick h = h
    go MediaFault h = tt
    go (PortFault g) h = record { place = h.0; base = h.1 }
    go (LinkFault i) h = record { place = h.0; base = h.1 }

module _ {P L tells tells_images : Type 0} (port_tells : PortTells P) (link_tells : LinkTells L) (turns : ℕ) (lanes_old lanes_new : List (Lane P)) (desks_old desks_new : List (Desk L Mark)) (old mid new : MediaSeen tells tells_images) (r : RecorderState) (end : SessionEnd)
    (olds : length lanes_old ≡ 16) (news : length lanes_new ≡ 16)
    (parts : OpenedOn old.disk r.vault) (contents : TellsOn old.disk r.vault)
    (opened : (x : Contents) → tells → HoldsContents old.disk.reads x → WasRecorded x → (t0 : ℕ) × (old.disk.clock ≤ t0) × (t0 ≤ mid.disk.clock) × HasRecorded (opening_of x) [] t0 r mid.disk)
    (since_now : (x : Contents) → tells → HoldsContents old.disk.reads x → WasRecorded x → HasRecorded (opening_of x) [] mid.disk.clock r mid.disk)
    (hears : Type 0) (was w : Watched) (heard : (opening : Opening) → hears → IsHeard opening [] mid.disk.clock old.disk was)
    (moments : (x : Contents) → tells → HoldsContents old.disk.reads x → EndsMeet (members_with x.further) (reading_of x) → WasRecorded x
    → OpensAtEachMoment {T = RecorderState} old.disk mid.disk (Ok r) (ShowsHistory (opening_of x) []))
    (first_others : tells → SameElsewhere (members_with 0) old.disk.reads mid.disk.reads) (first_later : NoneFalls old.faults mid.faults)
    (session : SessionWith port_tells turns r.vault.config.queue r.vault.config.groups lanes_old lanes_new r mid.disk new.disk end
    (λ opening events. DesksReplied link_tells turns r.vault.config.channels (sum mid.faults) (sum new.faults) end.outcome desks_old desks_new opening events × Tells hears opening [] events was w))
    (desks : DesksTold link_tells turns end.outcome desks_old desks_new) (told : FailureTold end.outcome lanes_new desks_new) (groups : HasGroups r.vault.config.groups end)
    (decides : DecidesSession r.vault end.outcome) (unbegun : IsUnbegun end.outcome → (new.disk ≡ mid.disk) × ((g : ℕ) (d : Lane P) → g < 16 → (get_or lanes_new g d).port ≡ (get_or lanes_old g d).port))
    (first_beside : tells → SameBut 1 old.disk.reads mid.disk.reads) (first_missing : AddsMissing old.disk mid.disk)
    (others : tells → SameElsewhere (members_with 0) mid.disk.reads new.disk.reads) (cause : HasSessionCause mid.faults new.faults end.outcome) where
  pub recorded_ends : IsRecorded turns (seen_ports port_tells lanes_old) (seen_ports port_tells lanes_new) (seen_links link_tells desks_old) (seen_links link_tells desks_new) old new hears w end
  recorded_ends = record {
    rates = r.vault.config.groups;
    began = session.began;
    given = session.given;
    runs = session.runs;
    ports = λ memory. asks_ports port_tells turns r.vault.config.queue session.began r.vault.config.groups end.intakes lanes_old lanes_new end.outcome session.given session.rest olds news (session.lanes memory) desks_new told;
    unasked = λ is. unasked port_tells lanes_old lanes_new olds news (unbegun is).1;
    links = asks_links link_tells turns end.outcome lanes_new desks_old desks_new desks told;
    groups = groups;
    recorded = λ x t holds sound.
        let was = contents x t holds in
        let same = was.1.config in
        let meet = was.0 in
        let begun = opened x t holds sound in
        let reads = config_read old.disk.reads x holds in
        let now = since_now x t holds sound in
        let first = begun.1 in
        let then = begun.2 in
        let made = session.told t (opening_of x) mid.disk.clock now in
        headline x reads sound (sum old.faults) (sum new.faults) mid.disk.clock r old.disk mid.disk new.disk now
        (passes_opened (opening_of x) old.disk mid.disk (Ok r) (moments x t holds meet sound)) (omega (arith, first, then)) (omega arith) hears w
        session.given session.rest session.items session.lost session.feed end made.0 made.1
        (subst (λ (c : Configuration). RecordsSession (start_of_opening (opening_of x)) c.groups c.queue session.given session.rest session.items session.lost end (recorded made.0)) same made.2)
        (subst (λ (c : Configuration). HasGroups c.groups end) same groups) risen
        turns (seen_links link_tells desks_old) (seen_links link_tells desks_new)
        (subst (λ (c : Configuration). AreReplied turns c.channels (sum old.faults) (sum new.faults) end.outcome (opening_of x) made.0 (seen_links link_tells desks_old) (seen_links link_tells desks_new)) same
        (are_replied link_tells turns r.vault.config.channels (sum old.faults) (sum mid.faults) (sum new.faults) end.outcome (opening_of x) made.0 desks_old desks_new desks.as_many earlier made.3.0))
        (λ hearing. let h = heard (opening_of x) hearing in let k = made.3.1 in record { found = k.found hearing ∙ h.found; opened = k.synced hearing ∙ h.opened; told = k.told hearing h.told });
    openable = opened_so (Decides r.vault.config.groups end.outcome) old.disk r.vault parts
        (λ x read. record { rates_are = ap (λ (c : Configuration). c.groups) (sym read.config); begins = begins_as x r.vault read end.outcome decides });
    beside = λ is t. subst (λ (d : Disk tells tells_images). SameBut 1 old.disk.reads d.reads) (sym (unbegun is).0) (first_beside t);
    missing = λ is x t holds. subst (λ (d : Disk tells tells_images). WritesMissing x old.disk d) (sym (unbegun is).0) (first_missing x t holds);
    others = λ t. same_twice old.disk.reads mid.disk.reads new.disk.reads (first_others t) (others t);
    fault = risen;
  }
    where
      earlier : sum old.faults ≤ sum mid.faults
      earlier = sum_not_less old.faults mid.faults first_later.same_media first_later.none_falls

      risen : end.outcome ≡ MediaFault → Rose (sum old.faults) (sum new.faults)
      risen is = rose_after (sum old.faults) (sum mid.faults) (sum new.faults) earlier (cause.rose is)
