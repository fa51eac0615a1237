-- What a command that reads records out answers, from what the calls on the media ensure.
use Rattle.std.specs.Prelude.{sum, true, false, ⊤, length}
use Rattle.std.proofs.Common.{◌≡◌, ◌≤◌, ◌∷◌, inl, inr, ⊎_elim, ℕ, ℤ, List, [], Option, Result, Ok, Err, refl, sym, ap, subst, ◌∙◌}
use Rattle.vdr_terms.specs.Queries.{Query}
use Rattle.vdr_core.specs.Histories.{Act, Event, Opening, incidents, records_of_act, table_after}
use Rattle.vdr_core.specs.Histories.{all_records as given}
use Rattle.vdr_core.specs.Histories as histories
use Rattle.vdr_core.specs.Histories.Act.{Look}
use Rattle.vdr_durability.specs.Readings.{AreLevel, EndsMeet}
use Rattle.vdr_durability.specs.Playback.{selected}
use Rattle.vdr_outside.specs.Causes.{NoneFalls, Rose}
use Rattle.vdr_outside.specs.Disk.{Disk, Image, SameBut}
use Rattle.vdr_outside.specs.Writes.{AppendsFront}
use Rattle.vdr_terms.specs.Records.{Record}
use Rattle.vdr_outside.proofs.Counts.{rose_after, sum_not_less}
use Rattle.vdr_config.specs.Configuration.{Configuration}
use Rattle.vdr_entry.specs.Queries.{asked_medium}
use Rattle.vdr_entry.specs.declared.query.Medium.{Medium as Played}
use Rattle.vdr_directory.specs.Sequence.{Placed}
use Rattle.vdr_opening.specs.Media.{members_with, Contents, HoldsContents, opening_of, reading_of}
use Rattle.vdr_opening.specs.declared.refused.OpenRefused.{OpenRefused}
use Rattle.vdr_recorder.specs.Recordings.{HasRecorded, RecorderState}
use Rattle.vdr_recorder.specs.Looks.{HasLooked}
use Rattle.vdr_vault.specs.Openings.{IsToldBy, OpensAtEachMoment}
use Rattle.vdr_vault.proofs.OpenMoments.{never_both}
use Rattle.vdr_vault.proofs.Playing.{stands_to_read}
use Rattle.vdr_vault.proofs.ShownHistory.{stands_silent, stands_still}
use Rattle.vdr_vault.specs.Vaults.{IsReadable, VaultState, ShowsHistory, Stands}
use Rattle.vdr_command.specs.Opened.{AreLooks, IsOpenableWith, KeepsContents, WasRecorded}
use Rattle.vdr_command.specs.Outside.{MediaSeen, OutputFailed, OutputSeen, PrintsFront}
use Rattle.vdr_visit.specs.Prints.{whole_text}
use Rattle.vdr_visit.specs.Refusals.{IsAccepted, lacks_channel, lacks_incident}
use Rattle.vdr_visit.specs.Visits.{AreVisited, HasMade}
use Rattle.vdr_vault.specs.Visits.{HasVisited}
use Rattle.vdr_visit.specs.declared.visit_refused.VisitRefused.{VisitRefused}
use Rattle.vdr_visit.specs.declared.visit_refused.VisitRefused.TheVariants as stops
use Rattle.vdr_readout.specs.Reads.{AreIntactAsked, AskedPlay, CanBeRead, CanPlay, IfItself, IsMetDamage, IsOwnStatus, LacksChannel, LacksIncident, MetUnreadable, PlayEnds, ShowsReading, query_of, records_asked, status_by}
use Rattle.vdr_command.specs.declared.status.Status.{Status}
use Rattle.vdr_command.specs.declared.status.Status.TheVariants.{Done, OutputFault}
use Rattle.vdr_recorder.proofs.Playing.{config_read}
use Rattle.vdr_recorder.proofs.Resting.{stand_reads}
use Rattle.vdr_command.proofs.OpenedLemmas.{OpenedOn, TellsOn, kept_by_call, one_look, opened_by, opened_so, worked_ends}
use Rattle.vdr_readout.proofs.DamageLemmas.{IsTold}
use Rattle.vdr_readout.proofs.OwnStatuses.{own_status}
use Rattle.vdr_readout.proofs.RefusedLemmas.{asked_within, lacks_from, lacks_is, medium_is, own_shown}

-- A visit of media that can be read never meets damage.
pub never_damaged : {tells tells_images R : Type 0} {query : Query} {vault : VaultState} {disk : Disk tells tells_images} {Has : List Record → Type 0} {Stops : List Record → R → Type 0}
    {line : List Record → Record → List ℕ} {whole : List Record → List ℕ} {was now : Option (List ℕ)} {ended : Result ⊤ (VisitRefused R)} → HasVisited query vault disk Has Stops line whole was now ended
    → (opening : Opening) (events : List Event) (placed : ℕ → List Placed) (m offset : ℕ) → tells → IsReadable opening events vault placed disk → ended ≡ Err (stops.Damaged m offset) → ⊥
never_damaged {R = R} {query = query} v opening events placed m offset t readable is =
    subst (λ (o : Result ⊤ (VisitRefused R)). AreVisited v.seen (selected opening events query) o) is (v.are opening events placed t readable)

-- Over one vault, which was opened on media, a query is asked that stands for these words.
pub record Wants (config : Configuration) (medium : Played) (name : List ℕ) (from to : ℤ) (query : Query) : Type 0 where
  pub is : query ≡ query_of config medium name from to
  pub there : LacksChannel config name → ⊥

pub wanted_so : (config : Configuration) (medium : Played) (name : List ℕ) (from to : ℤ) (query : Query) → query ≡ query_of config medium name from to → (LacksChannel config name → ⊥)
    → Wants config medium name from to query
wanted_so config medium name from to query is there = record { is = is; there = there }

module _ {tells tells_images R : Type 0} (asked : AskedPlay) (old mid new : MediaSeen tells tells_images)
    (r after : RecorderState) (query : Query) (ended : Result ⊤ (VisitRefused R))
    (wants : Wants r.vault.config asked.medium asked.channel asked.from asked.to query)
    (works : r.vault.failed ≡ false)
    (parts : OpenedOn old.disk r.vault)
    (opened : (x : Contents) → tells → HoldsContents old.disk.reads x → WasRecorded x
    → (t0 : ℕ) × (old.disk.clock ≤ t0) × (t0 ≤ mid.disk.clock) × HasRecorded (opening_of x) [] t0 r mid.disk)
    (readable : (x : Contents) → tells → HoldsContents old.disk.reads x → AreLevel (members_with x.further) (reading_of x) → IsReadable (opening_of x) [] r.vault x.placed mid.disk) where
  -- The query's channel is there, so that only its incident may be missing.
  channel_is_there : lacks_channel (length r.vault.config.channels) query.channel ≡ false
  channel_is_there = subst (λ (q : Query). lacks_channel (length r.vault.config.channels) q.channel ≡ false) (sym wants.is) (asked_within r.vault.config asked.channel)

  abbrev Misses : Type 0
  Misses = lacks_incident r.vault.table query.medium ≡ true

  misses_is : Misses → lacks_incident r.vault.table (asked_medium asked.medium) ≡ true
  misses_is e = subst (λ (q : Query). lacks_incident r.vault.table q.medium ≡ true) wants.is e

  misses_from : lacks_incident r.vault.table (asked_medium asked.medium) ≡ true → Misses
  misses_from e = subst (λ (q : Query). lacks_incident r.vault.table q.medium ≡ true) (sym wants.is) e

  -- Where the media are regular, the vault stands on them.
  standing : (x : Contents) → tells → HoldsContents old.disk.reads x → WasRecorded x → (placed : ℕ → List Placed) × Stands (opening_of x) [] r.vault placed mid.disk
  standing x t holds regular =
      let has = opened x t holds regular in
      let work = (has.3.works works).standing in
      (work.placed, work.stands)

  -- What can be read can be read by the vault.
  pub to_read : (x : Contents) → tells → HoldsContents old.disk.reads x → CanBeRead x → (placed : ℕ → List Placed) × IsReadable (opening_of x) [] r.vault placed mid.disk
  to_read x t holds (inl sound) = let stands = standing x t holds sound in (stands.0, stands_to_read (opening_of x) [] r.vault stands.0 mid.disk stands.1)
  to_read x t holds (inr level) = (x.placed, readable x t holds level)

  module _ (accepted : IsAccepted (lacks_channel (length r.vault.config.channels) query.channel) (lacks_incident r.vault.table query.medium) ended)
      (undamaged : (opening : Opening) (events : List Event) (placed : ℕ → List Placed) (m offset : ℕ) → tells → IsReadable opening events r.vault placed mid.disk → ended ≡ Err (stops.Damaged m offset) → ⊥)
      (damage : IsTold asked old.disk new.disk r.vault (λ m offset. ended ≡ Err (stops.Damaged m offset)) (ended ≡ Ok tt))
      (looked : HasLooked query r after mid.disk new.disk mid.bytes_read new.bytes_read mid.faults new.faults (ended ≡ Err stops.Fault)) (later : NoneFalls old.faults mid.faults)
      (others : tells → SameBut 1 old.disk.reads mid.disk.reads) (status_of : R → Status) (own : IfItself ended (λ reason. IsOwnStatus (status_of reason))) where
    module _ {T : Type 0} (result : Result T OpenRefused)
        (moments : (x : Contents) → tells → HoldsContents old.disk.reads x → EndsMeet (members_with x.further) (reading_of x) → WasRecorded x → OpensAtEachMoment old.disk mid.disk result (ShowsHistory (opening_of x) [])) where
      -- What was looked at stays as it was.
      looked_at : (x : Contents) → tells → HoldsContents old.disk.reads x → WasRecorded x → (event : Event) → event.act ≡ Look → ShowsHistory (opening_of x) (event ∷ []) new.disk.reads
      looked_at x t holds regular event is =
          let stands = standing x t holds regular in
          stand_reads (opening_of x) (event ∷ []) r.vault stands.0 new.disk
          (stands_silent (opening_of x) [] event (ap (λ (a : Act). records_of_act a) is) (ap (λ (a : Act). table_after (given (opening_of x) 1 []) (incidents (opening_of x) []) a) is)
          r.vault stands.0 new.disk (stands_still (opening_of x) [] r.vault stands.0 mid.disk new.disk looked.read.unchanged stands.1)) t

      kept_with_look : (status : Status) (x : Contents) → tells → HoldsContents old.disk.reads x → EndsMeet (members_with x.further) (reading_of x) → WasRecorded x → KeepsContents x AreLooks status old.disk new.disk
      kept_with_look status x t holds meet regular =
          let has = opened x t holds regular in
          let done = looked.done (opening_of x) [] has.0 has.3 in
          kept_by_call x (config_read old.disk.reads x holds) regular AreLooks status old.disk mid.disk new.disk result Look refl r after has.0 (moments x t holds meet regular) has.1 has.2 done
          (λ worked told. looked_at x t holds regular done.event done.act_is) (one_look done.event done.act_is)

      others_too : tells → SameBut 1 old.disk.reads new.disk.reads
      others_too t = subst (λ (image : Image). SameBut 1 old.disk.reads image) (sym (looked.read.unchanged.reads t)) (others t)

      can_play : (ended ≡ Err stops.NoIncident → ⊥) → (x : Contents) → IsToldBy x r.vault → CanPlay x asked.medium asked.channel
      can_play found x read = record {
        channel = λ lacks. wants.there (subst (λ (d : Configuration). LacksChannel d asked.channel) (sym read.config) lacks);
        incident = λ lacks. found (accepted.incident.1 (channel_is_there, misses_from (lacks_from r.vault.table asked.medium (subst (λ (table : List (Option histories.Incident)). LacksIncident table asked.medium) (sym read.table) lacks))));
      }

      playable : (ended ≡ Err stops.NoIncident → ⊥) → tells → IsOpenableWith old.disk.reads (λ x. CanPlay x asked.medium asked.channel)
      playable found = opened_so (λ x. CanPlay x asked.medium asked.channel) old.disk r.vault parts (can_play found)

      -- Where it met damage the media can't be read.
      met : (k offset : ℕ) → ended ≡ Err (stops.Damaged k offset) → MetUnreadable asked old.disk new.disk (λ x. CanPlay x asked.medium asked.channel) k offset
      met k offset is t = (
        opened_by (λ x. CanPlay x asked.medium asked.channel × IsMetDamage asked x new.disk k offset) old.disk r.vault parts
            (λ x holds read. (
              can_play (λ e. let clash : Err (stops.Damaged k offset) ≡ Err stops.NoIncident = sym is ∙ e in let none : ⊥ = cc in absurd none) x read,
              damage.met k offset is t x holds read,
            )) t,
        λ x holds fit. let read = to_read x t holds fit in undamaged (opening_of x) [] read.0 k offset t read.1 is,
      )

      rose : ended ≡ Err stops.Fault → Rose (sum old.faults) (sum new.faults)
      rose is = ⊎_elim (λ (failed : r.vault.failed ≡ true). let clash : true ≡ false = sym failed ∙ works in let none : ⊥ = cc in absurd none)
          (λ (more : Rose (sum mid.faults) (sum new.faults)). rose_after (sum old.faults) (sum mid.faults) (sum new.faults) (sum_not_less old.faults mid.faults later.same_media later.none_falls) more)
          (looked.cause.in_all is)

      ends_so : (p : Result ⊤ (VisitRefused R)) → ended ≡ p → PlayEnds asked old new (status_by status_of p asked.medium)
      ends_so (Ok x) is = record {
        media = worked_ends _ _ AreLooks old new Done tt (playable (λ e. let clash : Ok x ≡ Err stops.NoIncident = sym is ∙ e in let none : ⊥ = cc in absurd none)) others_too (kept_with_look Done);
        no_channel = λ e. let none : ⊥ = cc in absurd none;
        no_incident = tt;
        whole = λ e t. opened_by (λ x. AreIntactAsked asked x new.disk) old.disk r.vault parts (λ x holds read. damage.whole is t x holds read) t;
      }
      ends_so (Err stops.NoChannel) is = let clash : false ≡ true = sym channel_is_there ∙ accepted.channel.0 is in let none : ⊥ = cc in absurd none
      ends_so (Err stops.NoIncident) is = let misses = misses_is (accepted.incident.0 is).1 in record {
        media = record {
          unformatted = λ e. let none : ⊥ = cc in absurd none;
          damaged = tt;
          fault = λ e. let none : ⊥ = cc in absurd none;
          openable = λ done. absurd done;
          others = others_too;
          blank = λ t un. absurd (never_both old.disk.reads (parts t).0 un);
          kept = λ x t holds meet regular. inr (kept_with_look _ x t holds meet regular);
        };
        no_channel = λ e. let none : ⊥ = cc in absurd none;
        no_incident = (
          medium_is r.vault.table asked.medium misses,
          opened_so (λ x. (LacksChannel x.config asked.channel → ⊥) × LacksIncident x.table asked.medium) old.disk r.vault parts (λ x read. (
            (λ lacks. wants.there (subst (λ (d : Configuration). LacksChannel d asked.channel) (sym read.config) lacks)),
            subst (λ (table : List (Option histories.Incident)). LacksIncident table asked.medium) read.table (lacks_is r.vault.table asked.medium misses),
          )),
        );
        whole = λ e. let none : ⊥ = cc in absurd none;
      }
      ends_so (Err stops.Fault) is = record {
        media = record {
          unformatted = λ e. let none : ⊥ = cc in absurd none;
          damaged = tt;
          fault = λ e. rose is;
          openable = λ done. absurd done;
          others = others_too;
          blank = λ t un. absurd (never_both old.disk.reads (parts t).0 un);
          kept = λ x t holds meet regular. inr (kept_with_look _ x t holds meet regular);
        };
        no_channel = λ e. let none : ⊥ = cc in absurd none;
        no_incident = tt;
        whole = λ e. let none : ⊥ = cc in absurd none;
      }
      ends_so (Err (stops.Damaged k offset)) is = record {
        media = record {
          unformatted = λ e. let none : ⊥ = cc in absurd none;
          damaged = inr (met k offset is);
          fault = λ e. let none : ⊥ = cc in absurd none;
          openable = λ done. absurd done;
          others = others_too;
          blank = λ t un. absurd (never_both old.disk.reads (parts t).0 un);
          kept = λ x t holds meet regular. inr (kept_with_look _ x t holds meet regular);
        };
        no_channel = λ e. let none : ⊥ = cc in absurd none;
        no_incident = tt;
        whole = λ e. let none : ⊥ = cc in absurd none;
      }
      ends_so (Err stops.Output) is = record {
        media = worked_ends _ _ AreLooks old new OutputFault tt (playable (λ e. let clash : Err stops.Output ≡ Err stops.NoIncident = sym is ∙ e in let none : ⊥ = cc in absurd none)) others_too (kept_with_look OutputFault);
        no_channel = λ e. let none : ⊥ = cc in absurd none;
        no_incident = tt;
        whole = λ e. let none : ⊥ = cc in absurd none;
      }
      ends_so (Err (stops.Own reason)) is =
          let s = status_of reason in
          let mine : IsOwnStatus s = subst (λ (o : Result ⊤ (VisitRefused R)). IfItself o (λ why. IsOwnStatus (status_of why))) is own in
          let owned = own_status s _ _ mine in
          record {
            media = record {
              unformatted = λ e. absurd (subst IsOwnStatus e mine);
              damaged = owned.0;
              fault = λ e. absurd (subst IsOwnStatus e mine);
              openable = λ done. absurd (owned.2 done);
              others = others_too;
              blank = λ t un. absurd (never_both old.disk.reads (parts t).0 un);
              kept = λ x t holds meet regular. inr (kept_with_look _ x t holds meet regular);
            };
            no_channel = λ e. absurd (subst IsOwnStatus e mine);
            no_incident = owned.1;
            whole = λ e. absurd (subst IsOwnStatus e mine);
          }

      pub read_ends : PlayEnds asked old new (status_by status_of ended asked.medium)
      read_ends = ends_so ended refl

      -- What stands in the output.
      module _ (contents : TellsOn old.disk r.vault) (Has : List Record → Type 0) (Stops : List Record → R → Type 0)
          (line : List Record → Record → List ℕ) (last : List Record → List ℕ) (was next : OutputSeen)
          (visited : HasVisited query r.vault mid.disk Has Stops line (whole_text line last) was.taken next.taken ended) (unread : ended ≡ Err stops.NoIncident → next ≡ was)
          (blamed : ended ≡ Err stops.Output → OutputFailed was next) where
        selected_is : (x : Contents) → tells → HoldsContents old.disk.reads x → selected (opening_of x) [] query ≡ records_asked x asked
        unfolding records_asked
        selected_is x t holds =
            let config : r.vault.config ≡ x.config = (contents x t holds).1.config in
            ap (λ (q : Query). selected (opening_of x) [] q) (wants.is ∙ ap (λ (d : Configuration). query_of d asked.medium asked.channel asked.from asked.to) config)

        are_visited : (x : Contents) → tells → HoldsContents old.disk.reads x → CanBeRead x → AreVisited visited.seen (records_asked x asked) ended
        are_visited x t holds can =
            let read = to_read x t holds can in
            subst (λ (rs : List Record). AreVisited visited.seen rs ended) (selected_is x t holds) (visited.are (opening_of x) [] read.0 t read.1)

        front_is : (x : Contents) → tells → HoldsContents old.disk.reads x → CanBeRead x → PrintsFront (whole_text line last (records_asked x asked)) was next
        front_is x t holds can =
            let read = to_read x t holds can in
            subst (λ (rs : List Record). AppendsFront was.taken next.taken (whole_text line last rs)) (selected_is x t holds) (visited.front (opening_of x) [] read.0 t read.1)

        shown_so : (p : Result ⊤ (VisitRefused R)) → ended ≡ p → HasMade (Has visited.seen) (Stops visited.seen) line (whole_text line last visited.seen) visited.seen was.taken next.taken p
            → ((x : Contents) → tells → HoldsContents old.disk.reads x → CanBeRead x → AreVisited visited.seen (records_asked x asked) p)
            → ShowsReading asked old.disk Has Stops status_of line last was next (status_by status_of p asked.medium)
        shown_so (Ok all) is made are = (visited.seen, made.0, made.1, are)
        shown_so (Err stops.NoChannel) is made are = let clash : false ≡ true = sym channel_is_there ∙ accepted.channel.0 is in let none : ⊥ = cc in absurd none
        shown_so (Err stops.NoIncident) is made are = unread is
        shown_so (Err stops.Fault) is made are = (visited.seen, made.1, are)
        shown_so (Err (stops.Damaged m offset)) is made are = (visited.seen, made.1, λ x t holds can. absurd (are x t holds can))
        shown_so (Err stops.Output) is made are = (blamed is, front_is)
        shown_so (Err (stops.Own reason)) is made are =
            own_shown asked old.disk Has Stops status_of line last was next (status_of reason) (subst (λ (o : Result ⊤ (VisitRefused R)). IfItself o (λ why. IsOwnStatus (status_of why))) is own)
            (record {
              reason = reason;
              is = refl;
              seen = visited.seen;
              stops = made.0;
              first = are;
              openable = playable (λ e. let clash : Err (stops.Own reason) ≡ Err stops.NoIncident = sym is ∙ e in let none : ⊥ = cc in absurd none);
              printed = (made.1, made.2, made.3, made.4);
            })

        pub read_shows : ShowsReading asked old.disk Has Stops status_of line last was next (status_by status_of ended asked.medium)
        read_shows = shown_so ended refl visited.made are_visited
