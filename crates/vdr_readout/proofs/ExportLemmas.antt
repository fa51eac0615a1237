-- What `wav` and `picture` answer, from what the calls on the media ensure.
use Rattle.std.proofs.Common.{◌≡◌, ◌≤◌, ◌⊎◌, inl, inr, ⊎_elim, ℕ, List, [], Bool, true, false, if◌then◌else◌, length, Option, Some, None, Result, Ok, Err, refl, sym, ap, ◌∙◌, subst}
use Rattle.std.specs.Bool.{⊤}
use Rattle.std.specs.Prelude.{IfErr, bytes_eq}
use Rattle.std.proofs.KnownBytes.{Appends-nil}
use Rattle.vdr_terms.specs.Queries.{Query}
use Rattle.vdr_core.specs.Histories.{Event, Opening}
use Rattle.vdr_core.specs.Histories as histories
use Rattle.vdr_durability.specs.Readings.{AreLevel, EndsMeet}
use Rattle.vdr_durability.specs.Playback.{selected}
use Rattle.vdr_outside.specs.Causes.{NoneFalls}
use Rattle.vdr_outside.specs.Disk.{SameBut}
use Rattle.vdr_config.specs.Configuration.{Configuration}
use Rattle.vdr_directory.specs.Sequence.{Placed}
use Rattle.vdr_opening.specs.Media.{members_with, Contents, HoldsContents, opening_of, reading_of}
use Rattle.vdr_opening.specs.declared.refused.OpenRefused.{OpenRefused}
use Rattle.vdr_opening.specs.declared.refused.OpenRefused.TheVariants as openings
use Rattle.vdr_recorder.specs.Looks.{HasLooked}
use Rattle.vdr_recorder.specs.Recordings.{HasRecorded, RecorderState}
use Rattle.vdr_vault.proofs.Playing.{stands_to_read}
use Rattle.vdr_vault.specs.Openings.{IsToldBy, OpensAtEachMoment}
use Rattle.vdr_vault.specs.Vaults.{IsReadable, VaultState, ShowsHistory}
use Rattle.vdr_visit.specs.Refusals.{HasOutputCause, IsAccepted, lacks_channel, lacks_incident, unanswered}
use Rattle.vdr_visit.specs.declared.visit_refused.VisitRefused.{VisitRefused}
use Rattle.vdr_visit.specs.declared.visit_refused.VisitRefused.TheVariants as stops
use Rattle.vdr_export.specs.Answers.{FileEnds, IsFileRefusal, MayBeBegun, file_of}
use Rattle.vdr_export.specs.declared.file.File.{File}
use Rattle.vdr_export.specs.declared.refused.ExportRefused.{ExportRefused}
use Rattle.vdr_export.specs.declared.refused.ExportRefused.TheVariants as exports
use Rattle.vdr_recorder.proofs.Visits.{looked_as}
use Rattle.vdr_command.specs.Opened.{AddsMissing, AreLooks, IfDamaged, IsOpenableWith, IsRefusedAt, MediaEnds, PrintsText, WasRecorded}
use Rattle.vdr_command.specs.Outside.{MediaSeen, OutputSeen, Outside, PrintsFront, Writes}
use Rattle.vdr_command.specs.StatusLine.{channel_line}
use Rattle.vdr_command.specs.Statuses.{status_of_opening}
use Rattle.vdr_command.specs.declared.status.Status.{Status}
use Rattle.vdr_command.specs.declared.status.Status.TheVariants as ends
use Rattle.vdr_command.proofs.OpenedLemmas.{OpenedOn, TellsOn, opened_by, opened_so}
use Rattle.vdr_export.specs.Wishes.{kind_at, wished}
use Rattle.vdr_readout.specs.Exports.{CanExport, ExportEnds, IfRefusal, IsJudged, IsExportStatus, WritesFile, file_in, made_of, status_of_export}
use Rattle.vdr_readout.specs.Reads.{AskedPlay, CanBeRead, CanPlay, IfItself, IsMetDamage, IsOwnStatus, LacksChannel, LacksIncident, MetUnreadable, PlayEnds, all_records, channel_in, id_of, query_of, records_asked, status_by}
use Rattle.vdr_export.specs.declared.wish.Wish.{Wish}
use Rattle.vdr_export.specs.declared.wish.Wish.TheVariants.{Sound, Picture, Listing}
use Rattle.vdr_readout.proofs.DamageLemmas.{IsTold}
use Rattle.vdr_readout.proofs.FileLemmas.{as_visit, damage_as, done_as, fault_as, may_write, not_asked, of_damage, output_as, own_status, undamaged, writes_so}
use Rattle.vdr_readout.proofs.ReadLemmas.{Wants, read_ends}
use Rattle.vdr_readout.proofs.RefusedLemmas.{asked_within, channel_ends, lacks_from, with_media}

-- A channel that is not there has no file.
no_file : (wish : Wish) → wished wish None ≡ None
no_file (Sound timing) = refl
no_file (Picture block) = refl
no_file Listing = refl

lacks_no_file : (wish : Wish) (c : Configuration) (name : List ℕ) → LacksChannel c name → file_in wish c name ≡ None
lacks_no_file wish c name lacks = ap (λ (k : Option ℕ). wished wish (kind_at c.channels k)) (none_asked (bytes_eq name all_records)) ∙ no_file wish
  where
    none_asked : (b : Bool) → (if b then None else channel_in c name) ≡ None
    none_asked true = refl
    none_asked false = lacks.1

true_false : (b : Bool) → b ≡ true → b ≡ false → ⊥
true_false b t f = cc

-- What is seen of an output that is as it was.
pub still_output : {A : Type 0} (old new : A) (out : Result ⊤ ExportRefused) (Begun : ExportRefused → Type 0) (seen : A → OutputSeen) → IfErr out (λ why. Begun why ⊎ (new ≡ old))
    → IfErr out (λ why. Begun why ⊎ (seen new ≡ seen old))
still_output old new (Ok u) Begun seen silent = tt
still_output old new (Err why) Begun seen silent = ⊎_elim (λ begun. inl begun) (λ same. inr (ap seen same)) silent

-- Only the incident is missing.
missing : {R : Type 0} (no_channel no_incident : Bool) (result : Result ⊤ (VisitRefused R)) (stop : VisitRefused R) → result ≡ unanswered no_channel no_incident → result ≡ Err stop → no_channel ≡ false → no_incident ≡ true
missing true no_incident result stop is err there = let none : ⊥ = cc in absurd none
missing false true result stop is err there = refl
missing false false result stop is err there = let clash : Ok tt ≡ Err stop = sym is ∙ err in let none : ⊥ = cc in absurd none

-- Both were there.
answered : {R : Type 0} (no_channel no_incident : Bool) → unanswered {R = R} no_channel no_incident ≡ Ok tt → (no_channel ≡ false) × (no_incident ≡ false)
answered true no_incident is = let none : ⊥ = cc in absurd none
answered false true is = let none : ⊥ = cc in absurd none
answered false false is = (refl, refl)

pub both_there : {R : Type 0} (no_channel no_incident : Bool) (result : Result ⊤ (VisitRefused R)) → result ≡ unanswered no_channel no_incident → result ≡ Ok tt → (no_channel ≡ false) × (no_incident ≡ false)
both_there no_channel no_incident result is ok = answered no_channel no_incident (sym is ∙ ok)

module _ {tells tells_images : Type 0} (wish : Wish) (asked : AskedPlay) (old new : Outside tells tells_images) where
  -- Nothing was written, and no file was refused.
  still_ends : (status : Status) → IsExportStatus wish status → new.output ≡ old.output → PlayEnds asked old.media new.media status → AddsMissing old.media.disk new.media.disk
      → (status ≡ ends.ExportKind → ⊥) → (status ≡ ends.OutputFault → ⊥) → (status ≡ ends.NoChannel → ⊥) → (status ≡ ends.Done → ⊥) → ((P : ExportRefused → Type 0) → IfRefusal status P)
      → (IsJudged status → ⊥) → IfDamaged status (λ m offset. IsRefusedAt old.media.disk new.media.disk m offset ⊎ MetUnreadable asked old.media.disk new.media.disk (CanExport wish asked) m offset)
      → ((bytes : List ℕ) → PrintsText bytes status old.output new.output) → ExportEnds wish asked old new status
  still_ends status own same media adds kind output channel done refusals unjudged damage prints = record {
    own = own;
    written = λ x file t holds can is. record {
      written = λ bytes made. prints bytes;
      front = λ bytes made. subst (λ (o : OutputSeen). PrintsFront bytes old.output o) (sym same) ([], bytes, refl, Appends-nil old.output.taken);
      done = λ d. absurd (done d);
      refused = refusals _;
    };
    kind = λ k. absurd (kind k);
    openable = λ judged. absurd (unjudged judged);
    damaged = damage;
    output = λ o. absurd (output o);
    line = λ c. absurd (channel c);
    silent = inr (inr same);
    media = media;
    missing = adds;
  }

  pub opening_exports : (refused : OpenRefused) → ((m offset : ℕ) → refused ≡ openings.Damaged m offset → IsRefusedAt old.media.disk new.media.disk m offset) → new.output ≡ old.output
      → MediaEnds (λ x. CanPlay x asked.medium asked.channel) (MetUnreadable asked old.media.disk new.media.disk (λ x. CanPlay x asked.medium asked.channel)) AreLooks old.media new.media (status_of_opening refused)
      → AddsMissing old.media.disk new.media.disk → ExportEnds wish asked old new (status_of_opening refused)
  opening_exports openings.NoMemory at same media adds =
      still_ends ends.NoMemory tt same (with_media asked old.media new.media openings.NoMemory media) adds (λ e. let none : ⊥ = cc in none) (λ e. let none : ⊥ = cc in none)
      (λ e. let none : ⊥ = cc in none) (λ e. let none : ⊥ = cc in none) (λ P. tt) (λ judged. judged) tt (λ bytes. tt)
  opening_exports openings.NotFormatted at same media adds =
      still_ends ends.Unformatted tt same (with_media asked old.media new.media openings.NotFormatted media) adds (λ e. let none : ⊥ = cc in none) (λ e. let none : ⊥ = cc in none)
      (λ e. let none : ⊥ = cc in none) (λ e. let none : ⊥ = cc in none) (λ P. tt) (λ judged. judged) tt (λ bytes. tt)
  opening_exports (openings.Damaged m offset) at same media adds =
      still_ends (ends.Damaged m offset) tt same (with_media asked old.media new.media (openings.Damaged m offset) media) adds (λ e. let none : ⊥ = cc in none) (λ e. let none : ⊥ = cc in none)
      (λ e. let none : ⊥ = cc in none) (λ e. let none : ⊥ = cc in none) (λ P. tt) (λ judged. judged) (inl (at m offset refl)) (λ bytes. tt)
  opening_exports openings.Fault at same media adds =
      still_ends ends.MediaFault tt same (with_media asked old.media new.media openings.Fault media) adds (λ e. let none : ⊥ = cc in none) (λ e. let none : ⊥ = cc in none)
      (λ e. let none : ⊥ = cc in none) (λ e. let none : ⊥ = cc in none) (λ P. tt) (λ judged. judged) tt (λ bytes. tt)

  -- No such channel is configured.
  pub channel_exports : {T : Type 0} (result : Result T OpenRefused) (r : T) → result ≡ Ok r
      → (vault : VaultState) → LacksChannel vault.config asked.channel → OpenedOn old.media.disk vault → TellsOn old.media.disk vault
      → (tells → SameBut 1 old.media.disk.reads new.media.disk.reads)
      → ((x : Contents) → tells → HoldsContents old.media.disk.reads x → EndsMeet (members_with x.further) (reading_of x) → WasRecorded x → OpensAtEachMoment old.media.disk new.media.disk result (ShowsHistory (opening_of x) []))
      → Writes (channel_line asked.channel) old.output new.output → AddsMissing old.media.disk new.media.disk → ExportEnds wish asked old new ends.NoChannel
  channel_exports result r is vault lacks parts contents others moments wrote adds = record {
    own = tt;
    written = λ x file t holds can of.
        let config : vault.config ≡ x.config = (contents x t holds).1.config in
        let none : file_in wish x.config asked.channel ≡ None = lacks_no_file wish x.config asked.channel (subst (λ (d : Configuration). LacksChannel d asked.channel) config lacks) in
        let clash : Some file ≡ None = sym of ∙ none in let no : ⊥ = cc in absurd no;
    kind = λ e. let none : ⊥ = cc in absurd none;
    openable = λ judged. absurd judged;
    damaged = tt;
    output = λ e. let none : ⊥ = cc in absurd none;
    line = λ e. wrote;
    silent = inr (inl tt);
    media = channel_ends asked old.media new.media result r is vault lacks parts others moments;
    missing = adds;
  }

  module _ (mid : MediaSeen tells tells_images) (r after : RecorderState) (query : Query) (wants : Wants r.vault.config asked.medium asked.channel asked.from asked.to query)
      (works : r.vault.failed ≡ false)
      (parts : OpenedOn old.media.disk r.vault) (contents : TellsOn old.media.disk r.vault)
      (opened : (x : Contents) → tells → HoldsContents old.media.disk.reads x → WasRecorded x
      → (t0 : ℕ) × (old.media.disk.clock ≤ t0) × (t0 ≤ mid.disk.clock) × HasRecorded (opening_of x) [] t0 r mid.disk)
      (readable : (x : Contents) → tells → HoldsContents old.media.disk.reads x → AreLevel (members_with x.further) (reading_of x) → IsReadable (opening_of x) [] r.vault x.placed mid.disk)
      (later : NoneFalls old.media.faults mid.faults) (others : tells → SameBut 1 old.media.disk.reads mid.disk.reads) (adds : AddsMissing old.media.disk new.media.disk) where
    -- What can be read can be read by the vault.
    to_read : (x : Contents) → tells → HoldsContents old.media.disk.reads x → CanBeRead x → (placed : ℕ → List Placed) × IsReadable (opening_of x) [] r.vault placed mid.disk
    to_read x t holds (inl sound) =
        let has = opened x t holds sound in
        let work = (has.3.works works).standing in
        (work.placed, stands_to_read (opening_of x) [] r.vault work.placed mid.disk work.stands)
    to_read x t holds (inr level) = (x.placed, readable x t holds level)

    module _ {T : Type 0} (result : Result T OpenRefused)
        (moments : (x : Contents) → tells → HoldsContents old.media.disk.reads x → EndsMeet (members_with x.further) (reading_of x) → WasRecorded x → OpensAtEachMoment old.media.disk mid.disk result (ShowsHistory (opening_of x) [])) where
      -- How the media ended, by the end of a visit that stands for it.
      media_so : (ended : Result ⊤ (VisitRefused Status)) → IsAccepted (lacks_channel (length r.vault.config.channels) query.channel) (lacks_incident r.vault.table query.medium) ended
          → ((opening : Opening) (events : List Event) (placed : ℕ → List Placed) (m offset : ℕ) → tells → IsReadable opening events r.vault placed mid.disk → ended ≡ Err (stops.Damaged m offset) → ⊥)
          → IsTold asked old.media.disk new.media.disk r.vault (λ m offset. ended ≡ Err (stops.Damaged m offset)) (ended ≡ Ok tt)
          → HasLooked query r after mid.disk new.media.disk mid.bytes_read new.media.bytes_read mid.faults new.media.faults (ended ≡ Err stops.Fault)
          → IfItself ended IsOwnStatus → PlayEnds asked old.media new.media (status_by (λ (s : Status). s) ended asked.medium)
      media_so ended accepted never damage looked own =
          read_ends asked old.media mid new.media r after query ended wants works parts opened readable accepted never damage looked later others (λ (s : Status). s) own result moments

      channel_there : lacks_channel (length r.vault.config.channels) query.channel ≡ false
      channel_there = ap (λ (q : Query). lacks_channel (length r.vault.config.channels) q.channel) wants.is ∙ asked_within r.vault.config asked.channel

      -- The incident is not live.
      pub incident_exports : {R : Type 0} (accepted : Result ⊤ (VisitRefused R)) (stop : VisitRefused R) → accepted ≡ unanswered (lacks_channel (length r.vault.config.channels) query.channel) (lacks_incident r.vault.table query.medium)
          → accepted ≡ Err stop → HasLooked query r after mid.disk new.media.disk mid.bytes_read new.media.bytes_read mid.faults new.media.faults ⊥ → new.output ≡ old.output
          → ExportEnds wish asked old new (ends.NoIncident (id_of asked.medium))
      incident_exports accepted stop is refused looked same =
          let misses = missing (lacks_channel (length r.vault.config.channels) query.channel) (lacks_incident r.vault.table query.medium) accepted stop is refused channel_there in
          still_ends (ends.NoIncident (id_of asked.medium)) tt same
          (media_so (Err stops.NoIncident)
          (record {
            channel = ((λ e. let no : ⊥ = cc in absurd no), (λ lacks. absurd (true_false _ lacks channel_there)));
            incident = ((λ e. (channel_there, misses)), (λ lacks. refl));
          })
          (λ opening events placed m offset t h e. let no : ⊥ = cc in no) (record { met = λ m offset e. let no : ⊥ = cc in absurd no; whole = λ e. let no : ⊥ = cc in absurd no })
          (looked_as _ _ _ _ _ _ _ _ _ _ _ (λ e. let no : ⊥ = cc in no) looked) tt)
          adds (λ e. let no : ⊥ = cc in no) (λ e. let no : ⊥ = cc in no) (λ e. let no : ⊥ = cc in no) (λ e. let no : ⊥ = cc in no) (λ P. tt) (λ judged. judged) tt (λ bytes. tt)

      -- Channel and incident are there.
      module _ (there : lacks_channel (length r.vault.config.channels) query.channel ≡ false) (lives : lacks_incident r.vault.table query.medium ≡ false) where
        is_accepted : (ended : Result ⊤ (VisitRefused Status)) → (ended ≡ Err stops.NoChannel → ⊥) → (ended ≡ Err stops.NoIncident → ⊥)
            → IsAccepted (lacks_channel (length r.vault.config.channels) query.channel) (lacks_incident r.vault.table query.medium) ended
        is_accepted ended channel incident = record {
          channel = (λ e. absurd (channel e), λ lacks. absurd (true_false _ lacks there));
          incident = (λ e. absurd (incident e), λ lacks. absurd (true_false _ lacks.1 lives));
        }

        can_play : (x : Contents) → IsToldBy x r.vault → CanPlay x asked.medium asked.channel
        can_play x read = record {
          channel = λ lacks. wants.there (subst (λ (d : Configuration). LacksChannel d asked.channel) (sym read.config) lacks);
          incident = λ lacks. true_false (lacks_incident r.vault.table query.medium)
              (ap (λ (q : Query). lacks_incident r.vault.table q.medium) wants.is
              ∙ lacks_from r.vault.table asked.medium (subst (λ (t : List (Option histories.Incident)). LacksIncident t asked.medium) (sym read.table) lacks)) lives;
        }

        file_is : (found : Option File) → found ≡ wished wish (kind_at r.vault.config.channels query.channel) → file_in wish r.vault.config asked.channel ≡ found
        file_is found is = sym (ap (λ (q : Query). wished wish (kind_at r.vault.config.channels q.channel)) wants.is) ∙ sym is

        -- The channel is of another kind.
        pub kind_exports : (found : Option File) → found ≡ wished wish (kind_at r.vault.config.channels query.channel) → found ≡ None
            → HasLooked query r after mid.disk new.media.disk mid.bytes_read new.media.bytes_read mid.faults new.media.faults ⊥ → new.output ≡ old.output → ExportEnds wish asked old new ends.ExportKind
        kind_exports found is none looked still = record {
          own = tt;
          written = λ x file t holds can of.
              let config : r.vault.config ≡ x.config = (contents x t holds).1.config in
              let clash : Some file ≡ None = sym of ∙ ap (λ (d : Configuration). file_in wish d asked.channel) (sym config) ∙ file_is found is ∙ none in let no : ⊥ = cc in absurd no;
          kind = λ e. opened_so (λ x. CanPlay x asked.medium asked.channel × (file_in wish x.config asked.channel ≡ None)) old.media.disk r.vault parts
              (λ x read. (can_play x read, ap (λ (d : Configuration). file_in wish d asked.channel) (sym read.config) ∙ file_is found is ∙ none));
          openable = λ judged. absurd judged;
          damaged = tt;
          output = λ e. let no : ⊥ = cc in absurd no;
          line = λ e. let no : ⊥ = cc in absurd no;
          silent = inr (inr still);
          media = media_so (Err (stops.Own ends.ExportKind)) (is_accepted _ (λ e. let no : ⊥ = cc in no) (λ e. let no : ⊥ = cc in no))
              (λ opening events placed m offset t h e. let no : ⊥ = cc in no) (record { met = λ m offset e. let no : ⊥ = cc in absurd no; whole = λ e. let no : ⊥ = cc in absurd no })
              (looked_as _ _ _ _ _ _ _ _ _ _ _ (λ e. let no : ⊥ = cc in no) looked) tt;
          missing = adds;
        }

        -- The file was to be written.
        module _ (found : Option File) (is : found ≡ wished wish (kind_at r.vault.config.channels query.channel)) (file : File) (some : found ≡ Some file)
            (out : Result ⊤ ExportRefused)
            (made : (opening : Opening) (events : List Event) (placed : ℕ → List Placed) → tells → IsReadable opening events r.vault placed mid.disk
            → FileEnds (file_of file (selected opening events query)) old.output.taken new.output.taken out)
            (damage : IsTold asked old.media.disk new.media.disk r.vault (λ m offset. out ≡ Err (exports.Damaged m offset)) (out ≡ Ok tt))
            (looked : HasLooked query r after mid.disk new.media.disk mid.bytes_read new.media.bytes_read mid.faults new.media.faults (out ≡ Err exports.Fault)) where
          made_is : (x : Contents) → tells → HoldsContents old.media.disk.reads x → file_of file (selected (opening_of x) [] query) ≡ made_of x asked file
          unfolding made_of records_asked
          made_is x t holds =
              let config : r.vault.config ≡ x.config = (contents x t holds).1.config in
              ap (λ (q : Query). file_of file (selected (opening_of x) [] q)) (wants.is ∙ ap (λ (d : Configuration). query_of d asked.medium asked.channel asked.from asked.to) config)

          one_file : (x : Contents) → tells → HoldsContents old.media.disk.reads x → (other : File) → file_in wish x.config asked.channel ≡ Some other → other ≡ file
          one_file x t holds other of =
              let config : r.vault.config ≡ x.config = (contents x t holds).1.config in
              let both_are : Some other ≡ Some file = sym of ∙ ap (λ (d : Configuration). file_in wish d asked.channel) (sym config) ∙ file_is found is ∙ some in cc

          can_export : (x : Contents) → IsToldBy x r.vault → CanExport wish asked x
          can_export x read = (can_play x read, (file, ap (λ (d : Configuration). file_in wish d asked.channel) (sym read.config) ∙ file_is found is ∙ some))

          exportable : tells → IsOpenableWith old.media.disk.reads (CanExport wish asked)
          exportable = opened_so (CanExport wish asked) old.media.disk r.vault parts can_export

          -- Where it met damage the media can't be read.
          met : (m offset : ℕ) → out ≡ Err (exports.Damaged m offset) → MetUnreadable asked old.media.disk new.media.disk (CanExport wish asked) m offset
          met m offset told t = (
            opened_by (λ x. CanExport wish asked x × IsMetDamage asked x new.media.disk m offset) old.media.disk r.vault parts
                (λ x holds read. (can_export x read, damage.met m offset told t x holds read)) t,
            λ x holds can.
                let read = to_read x t holds can in
                undamaged old.output.taken new.output.taken out file (selected (opening_of x) [] query) m offset (made (opening_of x) [] read.0 t read.1) told,
          )

          pub made_exports : IfErr out (IsFileRefusal file) → IfErr out (λ why. MayBeBegun file why ⊎ (new.output ≡ old.output)) → HasOutputCause old.output.faults new.output.faults (out ≡ Err exports.Output)
              → ExportEnds wish asked old new (status_of_export out)
          made_exports own silent blamed = record {
            own = own_status wish _ file (sym is ∙ some) out own;
            written = λ x other t holds can of.
                let read = to_read x t holds can in
                subst (λ (f : File). WritesFile (made_of x asked f) (status_of_export out) old.output new.output) (sym (one_file x t holds other of))
                (subst (λ (m : Result (List ℕ) ExportRefused). WritesFile m (status_of_export out) old.output new.output) (made_is x t holds)
                (writes_so old.output new.output _ out (made (opening_of x) [] read.0 t read.1)));
            kind = λ e. absurd ((not_asked out).2 e);
            openable = λ judged. exportable;
            damaged = of_damage out _ (λ m offset told. inr (met m offset told));
            output = λ e. blamed.rose (output_as out e);
            line = λ e. absurd ((not_asked out).3 e);
            silent = ⊎_elim (λ begun. inl begun) (λ still. inr (inr still)) (may_write wish _ file (sym is ∙ some) out silent);
            media = subst (λ (s : Status). PlayEnds asked old.media new.media s) (same_status out)
                (media_so (as_visit out) (is_accepted (as_visit out) (not_asked out).0 (not_asked out).1)
                (λ opening events placed m offset t h e. undamaged old.output.taken new.output.taken out file (selected opening events query) m offset (made opening events placed t h) (damage_as out m offset e))
                (record { met = λ m offset e. damage.met m offset (damage_as out m offset e); whole = λ e. damage.whole (done_as out e) })
                (looked_as _ _ _ _ _ _ _ _ _ _ _ (fault_as out) looked) (own_visit out));
            missing = adds;
          }
            where
              same_status : (o : Result ⊤ ExportRefused) → status_by (λ (s : Status). s) (as_visit o) asked.medium ≡ status_of_export o
              same_status (Ok u) = refl
              same_status (Err exports.Nothing) = refl
              same_status (Err (exports.Mixed place)) = refl
              same_status (Err exports.Long) = refl
              same_status (Err (exports.Part number)) = refl
              same_status (Err exports.Fault) = refl
              same_status (Err (exports.Damaged m offset)) = refl
              same_status (Err exports.Output) = refl
              same_status (Err exports.NoMemory) = refl

              own_visit : (o : Result ⊤ ExportRefused) → IfItself (as_visit o) IsOwnStatus
              own_visit (Ok u) = tt
              own_visit (Err exports.Nothing) = tt
              own_visit (Err (exports.Mixed place)) = tt
              own_visit (Err exports.Long) = tt
              own_visit (Err (exports.Part number)) = tt
              own_visit (Err exports.Fault) = tt
              own_visit (Err (exports.Damaged m offset)) = tt
              own_visit (Err exports.Output) = tt
              own_visit (Err exports.NoMemory) = tt
