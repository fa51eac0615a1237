-- What `page` owes, from what the calls on the media ensure.
use Rattle.std.proofs.Common.{◌≡◌, ◌⊎◌, inl, inr, ⊎_elim, ℕ, List, [], Bool, true, false, Result, Ok, Err, refl, sym, ap, ◌∙◌, subst}
use Rattle.std.specs.Bool.{⊤}
use Rattle.std.specs.declared.alloc.AllocError.{AllocError}
use Rattle.std.specs.Io.KnownBytes.{Appends}
use Rattle.std.proofs.KnownBytes.{Appends-nil}
use Rattle.vdr_terms.specs.Queries.{Query}
use Rattle.vdr_terms.specs.Records.{Record}
use Rattle.vdr_durability.specs.Playback.{selected}
use Rattle.vdr_outside.specs.Writes.{AppendsFront}
use Rattle.vdr_config.specs.Configuration.{Configuration}
use Rattle.vdr_opening.specs.Media.{Contents, HoldsContents, opening_of}
use Rattle.vdr_opening.specs.declared.refused.OpenRefused.{OpenRefused}
use Rattle.vdr_opening.specs.declared.refused.OpenRefused.TheVariants as openings
use Rattle.vdr_page.specs.Fronts.{Saved, Words}
use Rattle.vdr_page.specs.Pages.{page_text}
use Rattle.vdr_visit.specs.Refusals.{HasOutputCause, IsAccepted}
use Rattle.vdr_visit.specs.declared.visit_refused.VisitRefused.{VisitRefused}
use Rattle.vdr_visit.specs.declared.visit_refused.VisitRefused.TheVariants as stops
use Rattle.vdr_export.specs.Paged.{HasPaged, HasWholeRows}
use Rattle.vdr_command.specs.Opened.{AddsMissing, AreLooks, MediaEnds, PrintsText}
use Rattle.vdr_command.specs.Outside.{Outside, OutputSeen, Prints, Writes}
use Rattle.vdr_command.specs.StatusLine.{channel_line}
use Rattle.vdr_command.specs.Statuses.{status_of_opening}
use Rattle.vdr_command.specs.declared.status.Status.{Status}
use Rattle.vdr_command.specs.declared.status.Status.TheVariants.{Words as AnyWords, Unformatted, Damaged, MediaFault, OutputFault, NoMemory, NoChannel, NoIncident}
use Rattle.vdr_readout.specs.Paged.{PageEnds, ShowsRows, page_of, saves_in}
use Rattle.vdr_readout.specs.Plays.{IsPlayStatus}
use Rattle.vdr_readout.specs.Watches.{IsCutShort}
use Rattle.vdr_readout.specs.Reads.{AskedPlay, CanBeRead, CanPlay, MetUnreadable, PlayEnds, id_of, query_of, records_asked, status_by}
use Rattle.vdr_readout.proofs.ReadLemmas.{Wants}
use Rattle.vdr_readout.proofs.RefusedLemmas.{with_media}

true_false : {P : Type 0} (b : Bool) → b ≡ true → b ≡ false → P
true_false b t f = let none : ⊥ = cc in absurd none

-- Channel and incident were there, and the visits say so.
pub accepted_so : {R : Type 0} (no_channel no_incident : Bool) (ended : Result ⊤ (VisitRefused R)) → no_channel ≡ false → no_incident ≡ false
    → ((ended ≡ Err stops.NoChannel) ⊎ (ended ≡ Err stops.NoIncident) → ⊥) → IsAccepted no_channel no_incident ended
accepted_so no_channel no_incident ended there lives never = record {
  channel = (λ e. absurd (never (inl e)), λ lacks. true_false no_channel lacks there);
  incident = (λ e. absurd (never (inr e)), λ lacks. true_false no_incident lacks.1 lives);
}

-- The records that a vault selects are those that are asked for.
pub asked_are : (x : Contents) (asked : AskedPlay) (config : Configuration) (query : Query) → Wants config asked.medium asked.channel asked.from asked.to query → config ≡ x.config
    → records_asked x asked ≡ selected (opening_of x) [] query
unfolding records_asked
asked_are x asked config query wants is =
    sym (ap (λ (q : Query). selected (opening_of x) [] q) (wants.is ∙ ap (λ (c : Configuration). query_of c asked.medium asked.channel asked.from asked.to) is))

module _ {tells tells_images : Type 0} (words : Words) (asked : AskedPlay) (old new : Outside tells tells_images) (missing : AddsMissing old.media.disk new.media.disk) where
  -- Nothing was written.
  unread : (status : Status) → IsPlayStatus status → ((text : List ℕ) → PrintsText text status old.output new.output) → (status ≡ OutputFault → ⊥) → (status ≡ NoChannel → ⊥)
      → new.output ≡ old.output → PlayEnds asked old.media new.media status → PageEnds words asked old new status
  unread status own printed no_output no_line same media = record {
    own = own;
    written = λ x t holds can. printed (page_of x words asked);
    cut = λ cut. inl (subst (λ (o : OutputSeen). Prints [] old.output o) (sym same) (Appends-nil old.output.taken));
    output = λ is. absurd (no_output is);
    line = λ is. absurd (no_line is);
    silent = inr (inr (inr same));
    media = media;
    missing = missing;
  }

  pub incident_page : new.output ≡ old.output → PlayEnds asked old.media new.media (NoIncident (id_of asked.medium)) → PageEnds words asked old new (NoIncident (id_of asked.medium))
  incident_page same media = unread (NoIncident (id_of asked.medium)) tt (λ text. tt) (λ is. let none : ⊥ = cc in none) (λ is. let none : ⊥ = cc in none) same media

  -- The media were not opened.
  pub refused_page : (refused : OpenRefused) → new.output ≡ old.output
      → MediaEnds (λ x. CanPlay x asked.medium asked.channel) (MetUnreadable asked old.media.disk new.media.disk (λ x. CanPlay x asked.medium asked.channel)) AreLooks old.media new.media (status_of_opening refused)
      → PageEnds words asked old new (status_of_opening refused)
  refused_page openings.NoMemory same media = unread NoMemory tt (λ text. tt) (λ is. let none : ⊥ = cc in none) (λ is. let none : ⊥ = cc in none) same (with_media asked old.media new.media openings.NoMemory media)
  refused_page openings.NotFormatted same media = unread Unformatted tt (λ text. tt) (λ is. let none : ⊥ = cc in none) (λ is. let none : ⊥ = cc in none) same (with_media asked old.media new.media openings.NotFormatted media)
  refused_page (openings.Damaged m offset) same media =
      unread (Damaged m offset) tt (λ text. tt) (λ is. let none : ⊥ = cc in none) (λ is. let none : ⊥ = cc in none) same (with_media asked old.media new.media (openings.Damaged m offset) media)
  refused_page openings.Fault same media = unread MediaFault tt (λ text. tt) (λ is. let none : ⊥ = cc in none) (λ is. let none : ⊥ = cc in none) same (with_media asked old.media new.media openings.Fault media)

  -- No such channel is configured.
  pub channel_page : Writes (channel_line asked.channel) old.output new.output → PlayEnds asked old.media new.media NoChannel → PageEnds words asked old new NoChannel
  channel_page wrote media = record {
    own = tt;
    written = λ x t holds can. tt;
    cut = λ cut. absurd cut;
    output = λ is. let none : ⊥ = cc in absurd none;
    line = λ is. wrote;
    silent = inr (inl tt);
    media = media;
    missing = missing;
  }

  -- The records were read twice.
  module _ (saves : List Saved) (Tells : List Record → Type 0) (reads : (x : Contents) → tells → HoldsContents old.media.disk.reads x → CanBeRead x → Tells (records_asked x asked))
      (live : (x : Contents) → tells → HoldsContents old.media.disk.reads x → saves ≡ saves_in x.table) where
    rows_shown : Appends old.output.taken new.output.taken [] ⊎ HasWholeRows Tells words saves old.output.taken new.output.taken
        → Prints [] old.output new.output ⊎ ShowsRows words asked old.media.disk old.output new.output
    rows_shown whole = ⊎_elim (λ none. inl none) (λ rows. inr (record {
      survey = rows.survey;
      saves = saves;
      first = rows.told;
      printed = rows.printed;
      are = λ x t holds can. rows.first (records_asked x asked) (reads x t holds can);
      told = λ x t holds can. (rows.surveyed (records_asked x asked) (reads x t holds can), live x t holds);
    })) whole

    -- It was cut off.
    cut_off : (status : Status) → IsPlayStatus status → IsCutShort status → ((text : List ℕ) → PrintsText text status old.output new.output) → (status ≡ OutputFault → ⊥) → (status ≡ NoChannel → ⊥)
        → Appends old.output.taken new.output.taken [] ⊎ HasWholeRows Tells words saves old.output.taken new.output.taken → PlayEnds asked old.media new.media status → PageEnds words asked old new status
    cut_off status own short printed no_output no_line whole media = record {
      own = own;
      written = λ x t holds can. printed (page_of x words asked);
      cut = λ cut. rows_shown whole;
      output = λ is. absurd (no_output is);
      line = λ is. absurd (no_line is);
      silent = inr (inr (inl short));
      media = media;
      missing = missing;
    }

    page_is : (x : Contents) → tells → HoldsContents old.media.disk.reads x → page_text words saves (records_asked x asked) ≡ page_of x words asked
    page_is x t holds = ap (λ (s : List Saved). page_text words s (records_asked x asked)) (live x t holds)

    pub page_owed : (ended : Result ⊤ (VisitRefused AllocError)) → HasPaged Tells words saves old.output.taken new.output.taken ended → ((ended ≡ Err stops.NoChannel) ⊎ (ended ≡ Err stops.NoIncident) → ⊥)
        → HasOutputCause old.output.faults new.output.faults (ended ≡ Err stops.Output) → PlayEnds asked old.media new.media (status_by (λ (e : AllocError). NoMemory) ended asked.medium)
        → PageEnds words asked old new (status_by (λ (e : AllocError). NoMemory) ended asked.medium)
    page_owed (Ok all) page there cause media = record {
      own = tt;
      written = λ x t holds can. subst (λ (text : List ℕ). Appends old.output.taken new.output.taken text) (page_is x t holds) (page.all refl (records_asked x asked) (reads x t holds can));
      cut = λ cut. absurd cut;
      output = λ is. let none : ⊥ = cc in absurd none;
      line = λ is. let none : ⊥ = cc in absurd none;
      silent = inl tt;
      media = media;
      missing = missing;
    }
    page_owed (Err stops.NoChannel) page there cause media = absurd (there (inl refl))
    page_owed (Err stops.NoIncident) page there cause media = absurd (there (inr refl))
    page_owed (Err stops.Fault) page there cause media =
        cut_off MediaFault tt tt (λ text. tt) (λ is. let none : ⊥ = cc in none) (λ is. let none : ⊥ = cc in none) (page.whole tt) media
    page_owed (Err (stops.Damaged m offset)) page there cause media =
        cut_off (Damaged m offset) tt tt (λ text. tt) (λ is. let none : ⊥ = cc in none) (λ is. let none : ⊥ = cc in none) (page.whole tt) media
    page_owed (Err stops.Output) page there cause media = record {
      own = tt;
      written = λ x t holds can. subst (λ (text : List ℕ). AppendsFront old.output.taken new.output.taken text) (page_is x t holds) (page.front (records_asked x asked) (reads x t holds can));
      cut = λ cut. absurd cut;
      output = λ is. cause.rose refl;
      line = λ is. let none : ⊥ = cc in absurd none;
      silent = inl tt;
      media = media;
      missing = missing;
    }
    page_owed (Err (stops.Own none)) page there cause media =
        cut_off NoMemory tt tt (λ text. tt) (λ is. let no : ⊥ = cc in no) (λ is. let no : ⊥ = cc in no) (page.whole tt) media

pub page_known : {tells tells_images : Type 0} {words : Words} {asked : AskedPlay} {old new : Outside tells tells_images} {status : Status} → PageEnds words asked old new status → status ≡ AnyWords → ⊥
page_known ends is = subst IsPlayStatus is ends.own
