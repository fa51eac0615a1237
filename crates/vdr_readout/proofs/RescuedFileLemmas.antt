-- What a command owes that writes a file out of one medium alone, from what each of its calls says.
use Rattle.std.proofs.Common.{◌≡◌, ◌⊎◌, inl, inr, ⊎_elim, ℕ, List, [], length, Bool, true, false, Option, Some, None, Result, Ok, Err, refl, sym, ap, ◌∙◌, subst}
use Rattle.std.specs.Bool.{⊤}
use Rattle.std.specs.Prelude.{IfErr, OnOk}
use Rattle.std.proofs.KnownBytes.{Appends-nil}
use Rattle.std.specs.Io.KnownBytes.{Appends}
use Rattle.vdr_core.specs.Histories as histories
use Rattle.vdr_terms.specs.Queries.{Query}
use Rattle.vdr_outside.specs.Disk.{Unchanged, content}
use Rattle.vdr_outside.specs.declared.fault.PartRefused.{PartRefused}
use Rattle.vdr_outside.specs.declared.fault.PartRefused.TheVariants as parts
use Rattle.vdr_config.specs.Configuration.{Configuration}
use Rattle.vdr_entry.specs.Queries.{asked_medium}
use Rattle.vdr_entry.specs.declared.query.Medium.TheVariants.{Incident}
use Rattle.vdr_export.specs.Answers.{FileEnds, IsFailure, MayBeBegun, file_of}
use Rattle.vdr_export.specs.declared.file.File.{File}
use Rattle.vdr_export.specs.declared.file.File.TheVariants as files
use Rattle.vdr_export.specs.declared.refused.ExportRefused.{ExportRefused}
use Rattle.vdr_export.specs.declared.refused.ExportRefused.TheVariants as exports
use Rattle.vdr_rescue.specs.Alones.{AloneState, IsAloneOn, RefusesAlone, Rescue, Rescued}
use Rattle.vdr_rescue.specs.Costs.{ReadsNoOther}
use Rattle.vdr_rescue.specs.declared.findings.Finding.{Finding}
use Rattle.vdr_rescue.specs.declared.found.Found.{Found}
use Rattle.vdr_rescue.specs.declared.found.Found.TheVariants as found
use Rattle.vdr_visit.specs.Refusals.{lacks_channel, lacks_incident, unanswered}
use Rattle.vdr_visit.specs.declared.visit_refused.VisitRefused.{VisitRefused}
use Rattle.vdr_command.specs.Outside.{MediaFailed, OutputFailed, OutputSeen, Outside, Prints, PrintsFront, Writes}
use Rattle.vdr_command.specs.StatusLine.{channel_line}
use Rattle.vdr_command.specs.declared.status.Status.TheVariants.{Damaged, MediaFault, NoMemory, NoChannel, NoIncident, ExportKind}
use Rattle.vdr_export.specs.Wishes.{kind_at, wished}
use Rattle.vdr_readout.specs.Exports.{file_in, status_of_export}
use Rattle.vdr_rescue.specs.Findings.{found_in}
use Rattle.vdr_readout.specs.Reads.{AskedPlay, LacksChannel, LacksIncident, id_of, number_asked}
use Rattle.vdr_readout.specs.Rescues.{CanRescue, records_rescued, status_found}
use Rattle.vdr_readout.specs.RescuedFiles.{IsBegun, IsNone, IsWritten, RescuesAllFiles, RescuesFile, ShowsFile}
use Rattle.vdr_readout.specs.Telling.{status_of_part}
use Rattle.vdr_export.specs.declared.wish.Wish.{Wish}
use Rattle.vdr_readout.proofs.PlayCompleteness.{one_id}
use Rattle.vdr_readout.proofs.ReadLemmas.{Wants}
use Rattle.vdr_readout.proofs.RefusedLemmas.{asked_within, lacks_from, lacks_is, medium_is}
use Rattle.vdr_readout.proofs.RescueLemmas.{LawsOfAlone}

one_file : (o : Option File) (f g : File) → o ≡ Some f → o ≡ Some g → f ≡ g
one_file o f g a b = cc

some_none : {P : Type 0} (o : Option File) (f : File) → o ≡ Some f → o ≡ None → P
some_none o f a b = let none : ⊥ = cc in absurd none

same_why : (r : Result ⊤ ExportRefused) (x y : ExportRefused) → r ≡ Err x → r ≡ Err y → x ≡ y
same_why r x y a b = cc

one_data : (r : Result (List ℕ) ExportRefused) (x y : List ℕ) → r ≡ Ok x → r ≡ Ok y → x ≡ y
one_data r x y a b = cc

one_why : (r : Result (List ℕ) ExportRefused) (x y : ExportRefused) → r ≡ Err x → r ≡ Err y → x ≡ y
one_why r x y a b = cc

data_why : {P : Type 0} (r : Result (List ℕ) ExportRefused) (x : List ℕ) (y : ExportRefused) → r ≡ Ok x → r ≡ Err y → P
data_why r x y a b = let none : ⊥ = cc in absurd none

module _ (laws : LawsOfAlone) (wish : Wish) (asked : AskedPlay) (bytes : List ℕ) where
  all_memory : RescuesAllFiles wish asked bytes NoMemory
  all_memory = record {
    refused = λ offset r. inr refl;
    channel = λ x r lacks. inr refl;
    incident = λ x id r there asks lacks. inr refl;
    kind = λ x r can none. inr refl;
    none = λ x file why r can is made. inr refl;
    done = λ x file whole r can is made. inr refl;
  }

  all_refused : (at : ℕ) → RefusesAlone (number_asked asked) bytes at → RescuesAllFiles wish asked bytes (Damaged (number_asked asked) at)
  all_refused at why = record {
    refused = λ offset r. inl (ap (λ (n : ℕ). Damaged (number_asked asked) n) (laws.one (number_asked asked) at offset bytes why r));
    channel = λ x r lacks. absurd (laws.never (number_asked asked) at bytes x why r);
    incident = λ x id r there asks lacks. absurd (laws.never (number_asked asked) at bytes x why r);
    kind = λ x r can none. absurd (laws.never (number_asked asked) at bytes x why r);
    none = λ x file reason r can is made. absurd (laws.never (number_asked asked) at bytes x why r);
    done = λ x file whole r can is made. absurd (laws.never (number_asked asked) at bytes x why r);
  }

  module _ (a : AloneState) (alone : IsAloneOn (number_asked asked) bytes a) where
    all_channel : ((x : Rescue) → Rescued (number_asked asked) bytes x → LacksChannel x.config asked.channel) → RescuesAllFiles wish asked bytes NoChannel
    all_channel lacks = record {
      refused = λ offset r. absurd (laws.refused (number_asked asked) offset bytes a r alone);
      channel = λ x r it. inl refl;
      incident = λ x id r there asks it. absurd (there (lacks x r));
      kind = λ x r can none. absurd (can.channel (lacks x r));
      none = λ x file reason r can is made. absurd (can.channel (lacks x r));
      done = λ x file whole r can is made. absurd (can.channel (lacks x r));
    }

    all_incident : (id : ℕ) → asked.medium ≡ Incident id → ((x : Rescue) → Rescued (number_asked asked) bytes x → (LacksChannel x.config asked.channel → ⊥) × LacksIncident x.table asked.medium)
        → RescuesAllFiles wish asked bytes (NoIncident id)
    all_incident id is lacks = record {
      refused = λ offset r. absurd (laws.refused (number_asked asked) offset bytes a r alone);
      channel = λ x r it. absurd ((lacks x r).0 it);
      incident = λ x other r there asks it. inl (one_id asked.medium id other is asks);
      kind = λ x r can none. absurd (can.incident (lacks x r).1);
      none = λ x file reason r can is made. absurd (can.incident (lacks x r).1);
      done = λ x file whole r can is made. absurd (can.incident (lacks x r).1);
    }

    all_kind : ((x : Rescue) → Rescued (number_asked asked) bytes x → CanRescue x asked) → ((x : Rescue) → Rescued (number_asked asked) bytes x → file_in wish x.config asked.channel ≡ None)
        → RescuesAllFiles wish asked bytes ExportKind
    all_kind can none = record {
      refused = λ offset r. absurd (laws.refused (number_asked asked) offset bytes a r alone);
      channel = λ x r it. absurd ((can x r).channel it);
      incident = λ x other r there asks it. absurd ((can x r).incident it);
      kind = λ x r it is. inl refl;
      none = λ x file reason r it is made. some_none _ file is (none x r);
      done = λ x file whole r it is made. some_none _ file is (none x r);
    }

    all_none : (why : ExportRefused) → ((x : Rescue) → Rescued (number_asked asked) bytes x → CanRescue x asked)
        → ((x : Rescue) → Rescued (number_asked asked) bytes x → (file : File) × (file_in wish x.config asked.channel ≡ Some file) × (file_of file (records_rescued x asked) ≡ Err why))
        → RescuesAllFiles wish asked bytes (status_of_export (Err why))
    all_none why can made = record {
      refused = λ offset r. absurd (laws.refused (number_asked asked) offset bytes a r alone);
      channel = λ x r it. absurd ((can x r).channel it);
      incident = λ x other r there asks it. absurd ((can x r).incident it);
      kind = λ x r it is. some_none _ (made x r).0 (made x r).1 is;
      none = λ x file reason r it is such.
          let m = made x r in
          inl (ap (λ (w : ExportRefused). status_of_export (Err w))
          (one_why (file_of file (records_rescued x asked)) why reason (subst (λ (f : File). file_of f (records_rescued x asked) ≡ Err why) (one_file _ m.0 file m.1 is) m.2) such));
      done = λ x file whole r it is such.
          let m = made x r in
          data_why (file_of file (records_rescued x asked)) whole why such (subst (λ (f : File). file_of f (records_rescued x asked) ≡ Err why) (one_file _ m.0 file m.1 is) m.2);
    }

    all_done : (v : Found) → ((x : Rescue) → Rescued (number_asked asked) bytes x → CanRescue x asked) → ((x : Rescue) → Rescued (number_asked asked) bytes x → found_in x.findings ≡ v)
        → ((x : Rescue) → Rescued (number_asked asked) bytes x → (file : File) × (whole : List ℕ) × (file_in wish x.config asked.channel ≡ Some file) × (file_of file (records_rescued x asked) ≡ Ok whole))
        → RescuesAllFiles wish asked bytes (status_found (number_asked asked) v)
    all_done v can found made = record {
      refused = λ offset r. absurd (laws.refused (number_asked asked) offset bytes a r alone);
      channel = λ x r it. absurd ((can x r).channel it);
      incident = λ x other r there asks it. absurd ((can x r).incident it);
      kind = λ x r it is. some_none _ (made x r).0 (made x r).2 is;
      none = λ x file reason r it is such.
          let m = made x r in
          data_why (file_of file (records_rescued x asked)) m.1 reason (subst (λ (f : File). file_of f (records_rescued x asked) ≡ Ok m.1) (one_file _ m.0 file m.2 is) m.3) such;
      done = λ x file whole r it is such. inl (sym (ap (λ (f : Found). status_found (number_asked asked) f) (found x r)));
    }

-- The medium was not opened.
module _ {tells tells_images : Type 0} (laws : LawsOfAlone) (wish : Wish) (asked : AskedPlay) (old new : Outside tells tells_images) (same : new.output ≡ old.output)
    (unchanged : Unchanged old.media.disk new.media.disk) (others : ReadsNoOther (number_asked asked) old.media.bytes_read new.media.bytes_read) where
  abbrev bytes_asked : List ℕ
  bytes_asked = content old.media.disk.reads (number_asked asked)

  nothing_begun : IsBegun tells wish asked bytes_asked old.output new.output
  nothing_begun x t r file whole made = subst (λ (o : OutputSeen). PrintsFront whole old.output o) (sym same) ([], whole, refl, Appends-nil old.output.taken)

  pub refused_file : (part : PartRefused) → ((k offset : ℕ) → part ≡ parts.Damaged k offset → (k ≡ number_asked asked) × (tells → RefusesAlone (number_asked asked) bytes_asked offset))
      → (part ≡ parts.Fault → MediaFailed old.media new.media) → RescuesFile wish asked old new (status_of_part part)
  refused_file parts.NoMemory damaged fault = record {
    shown = nothing_begun;
    media = record { unchanged = unchanged; others = others; fault = λ e. let none : ⊥ = cc in absurd none };
    complete = λ nothing t. all_memory laws wish asked bytes_asked;
  }
  refused_file (parts.Damaged k offset) damaged fault =
      let why = damaged k offset refl in
      record {
        shown = (why.0, inl (same, why.1));
        media = record { unchanged = unchanged; others = others; fault = λ e. let none : ⊥ = cc in absurd none };
        complete = λ nothing t. subst (λ (n : ℕ). RescuesAllFiles wish asked bytes_asked (Damaged n offset)) (sym why.0) (all_refused laws wish asked bytes_asked offset (why.1 t));
      }
  refused_file parts.Fault damaged fault = record {
    shown = nothing_begun;
    media = record { unchanged = unchanged; others = others; fault = λ e. fault refl };
    complete = λ nothing t. absurd (nothing.media (fault refl));
  }

-- It was opened.
module _ {tells tells_images : Type 0} (laws : LawsOfAlone) (wish : Wish) (asked : AskedPlay) (old new : Outside tells tells_images)
    (a : AloneState) (alone : tells → IsAloneOn (number_asked asked) (content old.media.disk.reads (number_asked asked)) a)
    (unchanged : Unchanged old.media.disk new.media.disk) (others : ReadsNoOther (number_asked asked) old.media.bytes_read new.media.bytes_read) where
  abbrev bytes_held : List ℕ
  bytes_held = content old.media.disk.reads (number_asked asked)

  is_told : (x : Rescue) → tells → Rescued (number_asked asked) bytes_held x → (a.config ≡ x.config) × (a.saves.table ≡ x.table)
  is_told x t r = laws.same (number_asked asked) bytes_held a x (alone t) r

  -- No such channel is configured there.
  pub channel_file : LacksChannel a.config asked.channel → Writes (channel_line asked.channel) old.output new.output → RescuesFile wish asked old new NoChannel
  channel_file lacks wrote = record {
    shown = (wrote, λ x t r. subst (λ (c : Configuration). LacksChannel c asked.channel) (is_told x t r).0 lacks);
    media = record { unchanged = unchanged; others = others; fault = λ e. let none : ⊥ = cc in absurd none };
    complete = λ nothing t. all_channel laws wish asked bytes_held a (alone t) (λ x r. subst (λ (c : Configuration). LacksChannel c asked.channel) (is_told x t r).0 lacks);
  }

  module _ (query : Query) (wants : Wants a.config asked.medium asked.channel asked.from asked.to query) where
    -- No such incident is saved.
    pub incident_file : new.output ≡ old.output → lacks_incident a.saves.table query.medium ≡ true → RescuesFile wish asked old new (NoIncident (id_of asked.medium))
    incident_file same lacks =
        let misses : lacks_incident a.saves.table (asked_medium asked.medium) ≡ true = subst (λ (q : Query). lacks_incident a.saves.table q.medium ≡ true) wants.is lacks in
        let named = medium_is a.saves.table asked.medium misses in
        let lacking : (x : Rescue) → tells → Rescued (number_asked asked) bytes_held x → (LacksChannel x.config asked.channel → ⊥) × LacksIncident x.table asked.medium = λ x t r. (
          (λ it. wants.there (subst (λ (c : Configuration). LacksChannel c asked.channel) (sym (is_told x t r).0) it)),
          subst (λ (table : List (Option histories.Incident)). LacksIncident table asked.medium) (is_told x t r).1 (lacks_is a.saves.table asked.medium misses),
        ) in
        record {
          shown = (same, named, lacking);
          media = record { unchanged = unchanged; others = others; fault = λ e. let none : ⊥ = cc in absurd none };
          complete = λ nothing t. all_incident laws wish asked bytes_held a (alone t) (id_of asked.medium) named (λ x r. lacking x t r);
        }

    module _ (there : lacks_incident a.saves.table query.medium ≡ false) where
      can : (x : Rescue) → tells → Rescued (number_asked asked) bytes_held x → CanRescue x asked
      can x t r = record {
        channel = λ lacks. wants.there (subst (λ (c : Configuration). LacksChannel c asked.channel) (sym (is_told x t r).0) lacks);
        incident = λ lacks. let clash : true ≡ false = sym (subst (λ (q : Query). lacks_incident a.saves.table q.medium ≡ true) (sym wants.is)
            (lacks_from a.saves.table asked.medium (subst (λ (table : List (Option histories.Incident)). LacksIncident table asked.medium) (sym (is_told x t r).1) lacks))) ∙ there in let none : ⊥ = cc in absurd none;
      }

      kind_is : (x : Rescue) → tells → Rescued (number_asked asked) bytes_held x → wished wish (kind_at a.config.channels query.channel) ≡ file_in wish x.config asked.channel
      kind_is x t r = ap (λ (q : Query). wished wish (kind_at a.config.channels q.channel)) wants.is ∙ ap (λ (c : Configuration). file_in wish c asked.channel) (is_told x t r).0

      -- The channel is of another kind.
      pub kind_file : new.output ≡ old.output → wished wish (kind_at a.config.channels query.channel) ≡ None → RescuesFile wish asked old new ExportKind
      kind_file same none = record {
        shown = (same, λ x t r. sym (kind_is x t r) ∙ none);
        media = record { unchanged = unchanged; others = others; fault = λ e. let no : ⊥ = cc in absurd no };
        complete = λ nothing t. all_kind laws wish asked bytes_held a (alone t) (λ x r. can x t r) (λ x r. sym (kind_is x t r) ∙ none);
      }

      -- A file was to be made.
      module _ (file : File) (file_is : wished wish (kind_at a.config.channels query.channel) ≡ Some file) (written : Result ⊤ ExportRefused)
          (ends : (x : Rescue) → tells → Rescued (number_asked asked) bytes_held x → FileEnds (file_of file (records_rescued x asked)) old.output.taken new.output.taken written) where
        is_its : (x : Rescue) → tells → Rescued (number_asked asked) bytes_held x → file_in wish x.config asked.channel ≡ Some file
        is_its x t r = sym (kind_is x t r) ∙ file_is

        begun : IsBegun tells wish asked bytes_held old.output new.output
        begun x t r f whole made = (ends x t r).front whole (subst (λ (g : File). file_of g (records_rescued x asked) ≡ Ok whole) (one_file _ f file made.0 (is_its x t r)) made.1)

        -- It was refused, for no failure.
        none_so : (why : ExportRefused) → written ≡ Err why → (IsFailure (Err why) → ⊥) → (x : Rescue) → tells → Rescued (number_asked asked) bytes_held x → file_of file (records_rescued x asked) ≡ Err why
        none_so why is own x t r = by (file_of file (records_rescued x asked)) refl
          where
            by : (made : Result (List ℕ) ExportRefused) → file_of file (records_rescued x asked) ≡ made → made ≡ Err why
            by (Ok whole) e = absurd (⊎_elim (λ (done : written ≡ Ok tt). let clash : Ok tt ≡ Err why = sym done ∙ is in let none : ⊥ = cc in none) (λ failed. own (subst IsFailure is failed)) ((ends x t r).done whole e))
            by (Err w) e = ⊎_elim (λ (same : written ≡ Err w). ap (λ (e : ExportRefused). Err e) (same_why written w why same is)) (λ failed. absurd (own (subst IsFailure is failed))) ((ends x t r).refused w e)

        module _ (fault : written ≡ Err exports.Fault → MediaFailed old.media new.media) (undamaged : (m offset : ℕ) → written ≡ Err (exports.Damaged m offset) → ⊥)
            (output : written ≡ Err exports.Output → OutputFailed old.output new.output) where
          module _ (silent : (why : ExportRefused) → written ≡ Err why → MayBeBegun file why ⊎ (new.output ≡ old.output)) where
            still_so : (why : ExportRefused) → written ≡ Err why → (MayBeBegun file why → ⊥) → new.output ≡ old.output
            still_so why is never = ⊎_elim (λ may. absurd (never may)) (λ same. same) (silent why is)

            no_file : (why : ExportRefused) → written ≡ Err why → (MayBeBegun file why → ⊥) → (IsFailure (Err why) → ⊥) → IsNone tells wish asked bytes_held old.output new.output why
            no_file why is never own = (still_so why is never, λ x t r. (file, is_its x t r, none_so why is own x t r))

            refused_all : (why : ExportRefused) → written ≡ Err why → (IsFailure (Err why) → ⊥) → tells → RescuesAllFiles wish asked bytes_held (status_of_export (Err why))
            refused_all why is own t = all_none laws wish asked bytes_held a (alone t) why (λ x r. can x t r) (λ x r. (file, is_its x t r, none_so why is own x t r))

            pub refused_rescues : (why : ExportRefused) → written ≡ Err why → RescuesFile wish asked old new (status_of_export (Err why))
            refused_rescues exports.Nothing is = record {
              shown = no_file exports.Nothing is (not_begun file) (λ f. ⊎_elim (λ e. cc) (λ g. ⊎_elim (λ e. cc) (λ e. cc) g) f);
              media = record { unchanged = unchanged; others = others; fault = λ e. let none : ⊥ = cc in absurd none };
              complete = λ nothing t. refused_all exports.Nothing is (λ f. ⊎_elim (λ e. cc) (λ g. ⊎_elim (λ e. cc) (λ e. cc) g) f) t;
            }
              where
                not_begun : (f : File) → MayBeBegun f exports.Nothing → ⊥
                not_begun (files.Sound microphone timing) may = may
                not_begun (files.Picture block) may = let none : ⊥ = cc in none
                not_begun files.Listing may = let none : ⊥ = cc in none
            refused_rescues (exports.Mixed place) is = record {
              shown = no_file (exports.Mixed place) is (not_begun file) (λ f. ⊎_elim (λ e. cc) (λ g. ⊎_elim (λ e. cc) (λ e. cc) g) f);
              media = record { unchanged = unchanged; others = others; fault = λ e. let none : ⊥ = cc in absurd none };
              complete = λ nothing t. refused_all (exports.Mixed place) is (λ f. ⊎_elim (λ e. cc) (λ g. ⊎_elim (λ e. cc) (λ e. cc) g) f) t;
            }
              where
                not_begun : (f : File) → MayBeBegun f (exports.Mixed place) → ⊥
                not_begun (files.Sound microphone timing) may = may
                not_begun (files.Picture block) may = let none : ⊥ = cc in none
                not_begun files.Listing may = let none : ⊥ = cc in none
            refused_rescues exports.Long is = record {
              shown = no_file exports.Long is (not_begun file) (λ f. ⊎_elim (λ e. cc) (λ g. ⊎_elim (λ e. cc) (λ e. cc) g) f);
              media = record { unchanged = unchanged; others = others; fault = λ e. let none : ⊥ = cc in absurd none };
              complete = λ nothing t. refused_all exports.Long is (λ f. ⊎_elim (λ e. cc) (λ g. ⊎_elim (λ e. cc) (λ e. cc) g) f) t;
            }
              where
                not_begun : (f : File) → MayBeBegun f exports.Long → ⊥
                not_begun (files.Sound microphone timing) may = may
                not_begun (files.Picture block) may = let none : ⊥ = cc in none
                not_begun files.Listing may = let none : ⊥ = cc in none
            refused_rescues (exports.Part number) is = record {
              shown = no_file (exports.Part number) is (not_begun file) (λ f. ⊎_elim (λ e. cc) (λ g. ⊎_elim (λ e. cc) (λ e. cc) g) f);
              media = record { unchanged = unchanged; others = others; fault = λ e. let none : ⊥ = cc in absurd none };
              complete = λ nothing t. refused_all (exports.Part number) is (λ f. ⊎_elim (λ e. cc) (λ g. ⊎_elim (λ e. cc) (λ e. cc) g) f) t;
            }
              where
                not_begun : (f : File) → MayBeBegun f (exports.Part number) → ⊥
                not_begun (files.Sound microphone timing) may = may
                not_begun (files.Picture block) may = let none : ⊥ = cc in none
                not_begun files.Listing may = let none : ⊥ = cc in none
            refused_rescues exports.Fault is = record {
              shown = begun;
              media = record { unchanged = unchanged; others = others; fault = λ e. fault is };
              complete = λ nothing t. absurd (nothing.media (fault is));
            }
            refused_rescues (exports.Damaged m offset) is = absurd (undamaged m offset is)
            refused_rescues exports.Output is = record {
              shown = (output is, begun);
              media = record { unchanged = unchanged; others = others; fault = λ e. let none : ⊥ = cc in absurd none };
              complete = λ nothing t. absurd (nothing.output (output is));
            }
            refused_rescues exports.NoMemory is = record {
              shown = begun;
              media = record { unchanged = unchanged; others = others; fault = λ e. let none : ⊥ = cc in absurd none };
              complete = λ nothing t. all_memory laws wish asked bytes_held;
            }

        -- It was written.
        module _ (is : written ≡ Ok tt) where
          data_so : (x : Rescue) → tells → Rescued (number_asked asked) bytes_held x → (whole : List ℕ) × (file_of file (records_rescued x asked) ≡ Ok whole) × Prints whole old.output new.output
          data_so x t r = by (file_of file (records_rescued x asked)) refl
            where
              by : (made : Result (List ℕ) ExportRefused) → file_of file (records_rescued x asked) ≡ made → (whole : List ℕ) × (file_of file (records_rescued x asked) ≡ Ok whole) × Prints whole old.output new.output
              by (Ok whole) e = (whole, e, subst (λ (o : Result ⊤ ExportRefused). OnOk o (Appends old.output.taken new.output.taken whole)) is ((ends x t r).written whole e))
              by (Err w) e = ⊎_elim (λ (same : written ≡ Err w). let clash : Ok tt ≡ Err w = sym is ∙ same in let none : ⊥ = cc in absurd none)
                  (λ failed. let f = subst IsFailure is failed in ⊎_elim (λ e. let none : ⊥ = cc in absurd none) (λ g. ⊎_elim (λ e. let none : ⊥ = cc in absurd none) (λ e. let none : ⊥ = cc in absurd none) g) f)
                  ((ends x t r).refused w e)

          -- And there was no memory for what was found.
          pub written_unfound : RescuesFile wish asked old new NoMemory
          written_unfound = record {
            shown = begun;
            media = record { unchanged = unchanged; others = others; fault = λ e. let none : ⊥ = cc in absurd none };
            complete = λ nothing t. all_memory laws wish asked bytes_held;
          }

          module _ (findings : List Finding) (found_is : (x : Rescue) → tells → Rescued (number_asked asked) bytes_held x → findings ≡ x.findings) where
            is_written : IsWritten tells wish asked bytes_held old.output new.output (found_in findings)
            is_written x t r = let d = data_so x t r in (file, d.0, (is_its x t r, d.1), d.2, ap found_in (sym (found_is x t r)))

            shows_found : (v : Found) → IsWritten tells wish asked bytes_held old.output new.output v → ShowsFile tells wish asked bytes_held old.output new.output (status_found (number_asked asked) v)
            shows_found found.Whole f = f
            shows_found (found.Damaged offset) f = (refl, inr f)
            shows_found (found.Missing place) f = f

            not_fault : (v : Found) → status_found (number_asked asked) v ≡ MediaFault → ⊥
            not_fault found.Whole e = cc
            not_fault (found.Damaged offset) e = cc
            not_fault (found.Missing place) e = cc

            pub written_rescues : RescuesFile wish asked old new (status_found (number_asked asked) (found_in findings))
            written_rescues = record {
              shown = shows_found (found_in findings) is_written;
              media = record { unchanged = unchanged; others = others; fault = λ e. absurd (not_fault (found_in findings) e) };
              complete = λ nothing t. all_done laws wish asked bytes_held a (alone t) (found_in findings) (λ x r. can x t r) (λ x r. ap found_in (sym (found_is x t r)))
                  (λ x r. let d = data_so x t r in (file, d.0, is_its x t r, d.1));
            }

-- An incident that is not accepted is not live.
pub misses_incident : {R : Type 0} (a : AloneState) (asked : AskedPlay) (query : Query) → Wants a.config asked.medium asked.channel asked.from asked.to query → (result : Result ⊤ (VisitRefused R))
    → result ≡ unanswered (lacks_channel (length a.config.channels) query.channel) (lacks_incident a.saves.table query.medium) → (stop : VisitRefused R) → result ≡ Err stop → lacks_incident a.saves.table query.medium ≡ true
misses_incident {R} a asked query wants result answered stop refused = by (lacks_incident a.saves.table query.medium) refl
  where
    there : lacks_channel (length a.config.channels) query.channel ≡ false
    there = subst (λ (q : Query). lacks_channel (length a.config.channels) q.channel ≡ false) (sym wants.is) (asked_within a.config asked.channel)

    clash : (r : Result ⊤ (VisitRefused R)) (stop : VisitRefused R) → r ≡ Ok tt → r ≡ Err stop → ⊥
    clash r stop ok err = cc

    by : (b : Bool) → lacks_incident a.saves.table query.medium ≡ b → b ≡ true
    by true e = refl
    by false e = absurd (clash result stop (answered ∙ ap (λ (b : Bool). unanswered b (lacks_incident a.saves.table query.medium)) there ∙ ap (λ (b : Bool). unanswered {R = R} false b) e) refused)

-- What is said of an error is so of this one.
pub silent_so : {T : Type 0} (P : ExportRefused → Type 0) (r : Result T ExportRefused) (why : ExportRefused) → r ≡ Err why → IfErr r P → P why
silent_so {T} P r why is h = subst (λ (o : Result T ExportRefused). IfErr o P) is h
