-- What commands on recorded media answer, from what opening them and one call of the recorder ensure.
use Rattle.std.specs.Prelude.{IsErrOf, ⊤}
use Rattle.std.proofs.Common.{◌≡◌, ◌≤◌, ◌⊎◌, ◌∷◌, ◌++◌, ap, inl, inr, ⊎_elim, ℕ, false, List, [], Result, Ok, Err, refl, sym, subst, arith, ◌∙◌}
use Rattle.std.proofs.lemmas.List.Elements.{All-cons, All-nil}
use Rattle.vdr_terms.specs.Records.{Record}
use Rattle.vdr_core.specs.Histories.{Act, Event, recorded, records_of_act}
use Rattle.vdr_core.specs.Histories.Act.{Look}
use Rattle.vdr_durability.specs.Readings.{EndsMeet}
use Rattle.vdr_outside.specs.Disk.{Disk, SameBut, Unchanged}
use Rattle.vdr_outside.proofs.Moments.{moments_and_reads}
use Rattle.vdr_config.specs.Grammar.{configuration}
use Rattle.vdr_media.specs.Formatted.{IsFormatted, IsUnformatted}
use Rattle.vdr_opening.specs.Answers.{HasOpenCause}
use Rattle.vdr_opening.specs.Media.{members_with, Contents, HoldsContents, HoldsParts, opening_of, reading_of}
use Rattle.vdr_opening.specs.Refusals.{IsRefused}
use Rattle.vdr_opening.specs.declared.refused.OpenRefused.{OpenRefused}
use Rattle.vdr_opening.specs.declared.refused.OpenRefused.TheVariants as openings
use Rattle.vdr_recorder.specs.Recordings.{HasDone, RecorderState}
use Rattle.vdr_recorder.specs.Watched.{nothing_told}
use Rattle.vdr_vault.specs.Openings.{EndsWithin, GoesOnSynced, IsToldBy, LeavesAll, OpensAtEachMoment}
use Rattle.vdr_vault.proofs.OpenMoments.{never_both}
use Rattle.vdr_vault.specs.Vaults.{VaultState, ShowsHistory}
use Rattle.vdr_command.specs.Endings.{IsWorkDone}
use Rattle.vdr_command.specs.Opened.{AddsMissing, AreLooks, ContentsKept, IsOpenableWith, IsUnbegun, IsUnopened, KeepsContents, MayLeave, MediaEnds, WasRecorded}
use Rattle.vdr_command.specs.Statuses.{status_of_opening}
use Rattle.vdr_command.specs.Outside.{MediaSeen}
use Rattle.vdr_command.specs.declared.status.Status.{Status}
use Rattle.vdr_command.specs.declared.status.Status.TheVariants.{Done, Words, Config, Small, Unformatted, Formatted, Damaged, MediaFault, PortFault, LinkFault, InputFault, OutputFault, NoMemory, Feed, NoChannel, NoIncident, SaveRefused, Place, Tick, ExportKind, ExportNothing, ExportMixed, ExportLong, ExportPart, Capture, NoEvidence, Missing}
use Rattle.vdr_recorder.proofs.Headlines.{after_opening, only_opened, order_quiet}
use Rattle.vdr_recorder.proofs.Passing.{passes_opened}
use Rattle.vdr_recorder.proofs.Playing.{config_read, plays}
use Rattle.vdr_recorder.proofs.Resting.{stand_reads}

pub no_looks : AreLooks []
no_looks = record { few = omega arith; looks = All-nil (λ (e : Event). e.act ≡ Look) }

pub one_look : (event : Event) → event.act ≡ Look → AreLooks (event ∷ [])
one_look event is = record { few = omega arith; looks = All-cons (λ (e : Event). e.act ≡ Look) event [] is (All-nil (λ (e : Event). e.act ≡ Look)) }

-- Opening alone does no act.
pub no_act : (Does : Act → Type 0) (clock : ℕ) (refused : OpenRefused) → MayLeave Does clock (status_of_opening refused) []
no_act Does clock openings.NoMemory = no_looks
no_act Does clock openings.NotFormatted = no_looks
no_act Does clock (openings.Damaged m offset) = no_looks
no_act Does clock openings.Fault = inl no_looks

pub done_either : (status : Status) → IsWorkDone status → (status ≡ Done) ⊎ (status ≡ OutputFault)
done_either Done is = inl refl
done_either OutputFault is = inr refl
done_either Words is = absurd is
done_either (Config n) is = absurd is
done_either (Small small) is = absurd is
done_either Unformatted is = absurd is
done_either Formatted is = absurd is
done_either (Damaged m offset) is = absurd is
done_either MediaFault is = absurd is
done_either InputFault is = absurd is
done_either NoMemory is = absurd is
done_either (Feed n at) is = absurd is
done_either NoChannel is = absurd is
done_either (NoIncident id) is = absurd is
done_either (SaveRefused cause) is = absurd is
done_either Place is = absurd is
done_either (PortFault group) is = absurd is
done_either (LinkFault link) is = absurd is
done_either Tick is = absurd is
done_either ExportKind is = absurd is
done_either ExportNothing is = absurd is
done_either (ExportMixed place) is = absurd is
done_either ExportLong is = absurd is
done_either (ExportPart number) is = absurd is
done_either (Missing place) is = absurd is
done_either (Capture number offset) is = absurd is
done_either (NoEvidence named offset) is = absurd is

-- Work that was done was begun.
pub done_is_begun : {P : Type 0} (status : Status) → IsWorkDone status → IsUnbegun status → P
done_is_begun status done unbegun = ⊎_elim (λ (is : status ≡ Done). absurd (subst IsUnbegun is unbegun)) (λ (is : status ≡ OutputFault). absurd (subst IsUnbegun is unbegun)) (done_either status done)

module _ {tells tells_images : Type 0} where
  keeps_opened : (x : Contents) → configuration x.text ≡ Ok x.config → WasRecorded x → (MayBe : List Event → Type 0) (status : Status) → MayBe [] → (old new : Disk tells tells_images)
      → (IsWorkDone status → tells → ShowsHistory (opening_of x) [] new.reads) → GoesOnSynced old new (ShowsHistory (opening_of x) []) → KeepsContents x MayBe status old new
  keeps_opened x reads sound MayBe status may old new rests goes = only_opened x reads (ContentsKept x MayBe status new) ⊤ old sound new goes (record {
    may_be = may;
    reads = λ done t. plays x reads [] (order_quiet x sound [] refl) new.reads (rests done t);
  })

  kept_by_opening : {T : Type 0} (x : Contents) → configuration x.text ≡ Ok x.config → WasRecorded x → (MayBe : List Event → Type 0) (status : Status) (old new : Disk tells tells_images) (result : Result T OpenRefused) → MayBe []
      → (IsWorkDone status → tells → ShowsHistory (opening_of x) [] new.reads) → (IsErrOf result openings.Fault → IsUnopened status) → OpensAtEachMoment old new result (ShowsHistory (opening_of x) [])
      → (IsUnopened status × LeavesAll old new) ⊎ KeepsContents x MayBe status old new
  kept_by_opening x reads sound MayBe status old new result may rests unopened (inl ends) = inl (unopened ends.failed, ends.moments)
  kept_by_opening x reads sound MayBe status old new result may rests unopened (inr goes) = inr (keeps_opened x reads sound MayBe status may old new rests goes)

  -- The media were opened, and nothing else was done.
  pub kept_opened : {T : Type 0} (x : Contents) → configuration x.text ≡ Ok x.config → WasRecorded x → (MayBe : List Event → Type 0) (status : Status) (old new : Disk tells tells_images) (result : Result T OpenRefused) (r : T) → result ≡ Ok r → MayBe []
      → (IsWorkDone status → tells → ShowsHistory (opening_of x) [] new.reads) → OpensAtEachMoment old new result (ShowsHistory (opening_of x) []) → KeepsContents x MayBe status old new
  kept_opened x reads sound MayBe status old new result r is may rests (inl ends) = let clash : Ok r ≡ Err openings.Fault = sym is ∙ ends.failed in let none : ⊥ = cc in absurd none
  kept_opened x reads sound MayBe status old new result r is may rests (inr goes) = keeps_opened x reads sound MayBe status may old new rests goes

  -- What opening wrote stays all that is written over calls that read, or that touch nothing.
  pub missing_looked : (old mid new : Disk tells tells_images) → AddsMissing old mid → Unchanged mid new → AddsMissing old new
  missing_looked old mid new h same x t holds =
      let k = h x t holds in
      record {
        level = λ level. (moments_and_reads old mid new (λ i. old.now i) (k.level level).0 same, same.reads t ∙ (k.level level).1);
        missing = λ meet. moments_and_reads old mid new (λ i. old.now i ⊎ EndsWithin x i) (k.missing meet) same;
      }

  pub missing_still : {A : Type 0} (disk : A → Disk tells tells_images) (old : Disk tells tells_images) (mid new : A) → AddsMissing old (disk mid) → new ≡ mid → AddsMissing old (disk new)
  missing_still disk old mid new h same = subst (λ a. AddsMissing old (disk a)) (sym same) h

  -- The media were not opened.
  pub refused_ends : {T : Type 0} (Can : Contents → Type 0) (Met : (m offset : ℕ) → Type 0) (MayBe : List Event → Type 0) (old new : MediaSeen tells tells_images)
      (result : Result T OpenRefused) (refused : OpenRefused) → MayBe [] → result ≡ Err refused
      → (result ≡ Err openings.NotFormatted → tells → IsUnformatted old.disk.reads)
      → ((m offset : ℕ) → result ≡ Err (openings.Damaged m offset) → tells → IsFormatted old.disk.reads × IsRefused old.disk.reads m offset)
      → ((result ≡ Err openings.NotFormatted) ⊎ ((m : ℕ) × (offset : ℕ) × (result ≡ Err (openings.Damaged m offset))) → LeavesAll old.disk new.disk × (tells → new.disk.reads ≡ old.disk.reads))
      → (tells → IsUnformatted old.disk.reads → LeavesAll old.disk new.disk)
      → (tells → SameBut 1 old.disk.reads new.disk.reads)
      → HasOpenCause (members_with 0) old.faults new.faults result
      → ((x : Contents) → tells → HoldsContents old.disk.reads x → EndsMeet (members_with x.further) (reading_of x) → WasRecorded x → OpensAtEachMoment old.disk new.disk result (ShowsHistory (opening_of x) []))
      → MediaEnds Can Met MayBe old new (status_of_opening refused)
  refused_ends Can Met MayBe old new result openings.NoMemory may is unformatted damaged untouched blank others cause moments = record {
    unformatted = λ e. let none : ⊥ = cc in absurd none;
    damaged = tt;
    fault = λ e. let none : ⊥ = cc in absurd none;
    openable = λ done. absurd done;
    others = others;
    blank = blank;
    kept = λ x t holds meet regular. kept_by_opening x (config_read old.disk.reads x holds) regular MayBe NoMemory old.disk new.disk result may (λ worked. absurd worked)
        (λ failed. let clash : Err openings.NoMemory ≡ Err openings.Fault = sym is ∙ failed in let none : ⊥ = cc in absurd none)
        (moments x t holds meet regular);
  }
  refused_ends Can Met MayBe old new result openings.NotFormatted may is unformatted damaged untouched blank others cause moments =
      let same = untouched (inl is) in
      record {
        unformatted = λ e. (record { leaves = same.0; reads = same.1 }, unformatted is);
        damaged = tt;
        fault = λ e. let none : ⊥ = cc in absurd none;
        openable = λ done. absurd done;
        others = others;
        blank = blank;
        kept = λ x t holds meet regular. inl (tt, same.0);
      }
  refused_ends Can Met MayBe old new result (openings.Damaged m offset) may is unformatted damaged untouched blank others cause moments =
      let same = untouched (inr (m, offset, is)) in
      record {
        unformatted = λ e. let none : ⊥ = cc in absurd none;
        damaged = inl (record { leaves = same.0; reads = same.1 }, damaged m offset is);
        fault = λ e. let none : ⊥ = cc in absurd none;
        openable = λ done. absurd done;
        others = others;
        blank = blank;
        kept = λ x t holds meet regular. inl (tt, same.0);
      }
  refused_ends Can Met MayBe old new result openings.Fault may is unformatted damaged untouched blank others cause moments = record {
    unformatted = λ e. let none : ⊥ = cc in absurd none;
    damaged = tt;
    fault = λ e. cause.in_all is;
    openable = λ done. absurd done;
    others = others;
    blank = blank;
    kept = λ x t holds meet regular. kept_by_opening x (config_read old.disk.reads x holds) regular MayBe MediaFault old.disk new.disk result may (λ worked. absurd worked) (λ failed. tt) (moments x t holds meet regular);
  }

  -- The work was done.
  pub worked_ends : (Can : Contents → Type 0) (Met : (m offset : ℕ) → Type 0) (MayBe : List Event → Type 0) (old new : MediaSeen tells tells_images) (status : Status) → IsWorkDone status
      → (tells → IsOpenableWith old.disk.reads Can) → (tells → SameBut 1 old.disk.reads new.disk.reads)
      → ((x : Contents) → tells → HoldsContents old.disk.reads x → EndsMeet (members_with x.further) (reading_of x) → WasRecorded x → KeepsContents x MayBe status old.disk new.disk)
      → MediaEnds Can Met MayBe old new status
  worked_ends Can Met MayBe old new status done opens others kept = ⊎_elim
      (λ (is : status ≡ Done). subst (λ (s : Status). MediaEnds Can Met MayBe old new s) (sym is) (record {
        unformatted = λ e. let none : ⊥ = cc in absurd none;
        damaged = tt;
        fault = λ e. let none : ⊥ = cc in absurd none;
        openable = λ d. opens;
        others = others;
        blank = λ t un. absurd (never_both old.disk.reads (opens t).0 un);
        kept = λ x t holds meet regular. inr (subst (λ (s : Status). KeepsContents x MayBe s old.disk new.disk) is (kept x t holds meet regular));
      }))
      (λ (is : status ≡ OutputFault). subst (λ (s : Status). MediaEnds Can Met MayBe old new s) (sym is) (record {
        unformatted = λ e. let none : ⊥ = cc in absurd none;
        damaged = tt;
        fault = λ e. let none : ⊥ = cc in absurd none;
        openable = λ d. opens;
        others = others;
        blank = λ t un. absurd (never_both old.disk.reads (opens t).0 un);
        kept = λ x t holds meet regular. inr (subst (λ (s : Status). KeepsContents x MayBe s old.disk new.disk) is (kept x t holds meet regular));
      }))
      (done_either status done)

  -- The vault was opened on these media, and tells what was read of them.
  abbrev pub OpenedOn : Disk tells tells_images → VaultState → Type 0
  OpenedOn old vault = tells → IsFormatted old.reads × (x : Contents) × HoldsParts old.reads x × EndsMeet (members_with x.further) (reading_of x) × IsToldBy x vault

  -- Where they are legible it tells what they hold.
  abbrev pub TellsOn : Disk tells tells_images → VaultState → Type 0
  TellsOn old vault = (x : Contents) → tells → HoldsContents old.reads x → EndsMeet (members_with x.further) (reading_of x) × IsToldBy x vault

  -- What was opened can be, and what the vault tells holds of what was read.
  pub opened_so : (Can : Contents → Type 0) (old : Disk tells tells_images) (vault : VaultState) → OpenedOn old vault
      → ((x : Contents) → IsToldBy x vault → Can x) → tells → IsOpenableWith old.reads Can
  opened_so Can old vault parts can t = let p = parts t in (p.0, p.1, p.2, p.3, can p.1 p.4)

  -- The same of what was read itself.
  pub opened_by : (Can : Contents → Type 0) (old : Disk tells tells_images) (vault : VaultState) → OpenedOn old vault
      → ((x : Contents) → HoldsParts old.reads x → IsToldBy x vault → Can x) → tells → IsOpenableWith old.reads Can
  opened_by Can old vault parts can t = let p = parts t in (p.0, p.1, p.2, p.3, can p.1 p.2 p.4)

  -- What the media read as after a call that was one event, where the vault goes on.
  pub reads_done : (x : Contents) (act : Act) (after : RecorderState) (t0 : ℕ) (mid new : Disk tells tells_images) (done : HasDone (opening_of x) [] t0 act after mid new) → after.vault.failed ≡ false → tells
      → ShowsHistory (opening_of x) (done.event ∷ []) new.reads
  reads_done x act after t0 mid new done works t = let w = (done.has.works works).standing in stand_reads (opening_of x) (done.event ∷ []) after.vault w.placed new w.stands t

  -- A call of the recorder was one event on the media that were opened.
  pub kept_by_call : {T : Type 0} (x : Contents) → configuration x.text ≡ Ok x.config → WasRecorded x → (MayBe : List Event → Type 0) (status : Status) (old mid new : Disk tells tells_images) (result : Result T OpenRefused) (act : Act) → records_of_act act ≡ [] → (r after : RecorderState) (t0 : ℕ)
      → OpensAtEachMoment old mid result (ShowsHistory (opening_of x) []) → old.clock ≤ t0 → t0 ≤ mid.clock → (done : HasDone (opening_of x) [] t0 act after mid new)
      → (IsWorkDone status → tells → ShowsHistory (opening_of x) (done.event ∷ []) new.reads) → MayBe (done.event ∷ []) → KeepsContents x MayBe status old new
  kept_by_call x reads sound MayBe status old mid new result act none r after t0 moments from upto done rests may =
      let silent : recorded (done.event ∷ []) ≡ [] = ap (λ (a : Act). records_of_act a ++ []) done.act_is ∙ ap (λ (rs : List Record). rs ++ []) none in
      after_opening x reads (ContentsKept x MayBe status new) ⊤ old ⊥ nothing_told t0 mid new (passes_opened (opening_of x) old mid result moments) from upto (done.event ∷ []) (order_quiet x sound (done.event ∷ []) silent)
      done.has.history done.has.kept done.has.rises done.passes (inr tt)
      (record { may_be = may; reads = λ worked t. plays x reads (done.event ∷ []) (order_quiet x sound (done.event ∷ []) silent) new.reads (rests worked t) }) (λ none. absurd none)
