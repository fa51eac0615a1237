-- What `rescue info` owes, from what each of its calls says.
use Rattle.std.proofs.Common.{◌≡◌, ℕ, List, [], subst}
use Rattle.vdr_terms.specs.Records.{Record}
use Rattle.vdr_outside.specs.Disk.{Unchanged, content}
use Rattle.vdr_outside.specs.declared.fault.PartRefused.{PartRefused}
use Rattle.vdr_outside.specs.declared.fault.PartRefused.TheVariants as parts
use Rattle.vdr_entry.specs.declared.query.Medium.{Medium}
use Rattle.vdr_rescue.specs.Alones.{RefusesAlone}
use Rattle.vdr_rescue.specs.Costs.{ReadsNoOther}
use Rattle.vdr_info.specs.Infos.{TellerState, told_behind}
use Rattle.vdr_command.specs.Outside.{MediaFailed, Outside}
use Rattle.vdr_command.specs.declared.status.Status.{Status}
use Rattle.vdr_readout.specs.Informs.{IsToldAlone, RescuesInfo}
use Rattle.vdr_readout.specs.Reads.{number_asked}
use Rattle.vdr_readout.specs.Rescues.{Rescues}
use Rattle.vdr_readout.specs.Sources.{whole_of}
use Rattle.vdr_readout.specs.Telling.{status_of_part}
use Rattle.vdr_readout.proofs.AloneInfoLemmas.{one_told}
use Rattle.vdr_readout.proofs.ReadingLemmas.{rescue_ends, rescue_known, rescue_output}
use Rattle.vdr_readout.proofs.RescueLemmas.{LawsOfAlone, refused_rescues}

module _ {tells tells_images : Type 0} (medium : Medium) (old new : Outside tells tells_images) where
  abbrev number : ℕ
  number = number_asked (whole_of medium)

  abbrev no_line : List Record → Record → List ℕ
  no_line seen r = []

  -- The medium was not opened, or not told of.
  pub informs_refused : LawsOfAlone → new.output ≡ old.output → Unchanged old.media.disk new.media.disk → ReadsNoOther number old.media.bytes_read new.media.bytes_read → (part : PartRefused)
      → ((k offset : ℕ) → part ≡ parts.Damaged k offset → (k ≡ number) × (tells → RefusesAlone number (content old.media.disk.reads number) offset))
      → (part ≡ parts.Fault → MediaFailed old.media new.media) → RescuesInfo medium old new (status_of_part part)
  informs_refused laws same unchanged others part damaged fault =
      let r : Rescues (whole_of medium) no_line (λ seen. []) old new (status_of_part part) = refused_rescues laws (whole_of medium) no_line (λ seen. []) old new same unchanged others part damaged fault in
      record {
        own = rescue_known old new (status_of_part part) (whole_of medium) no_line (λ seen. []) r;
        ends = rescue_ends old new (whole_of medium) no_line (λ seen. []) (status_of_part part) r;
        output = rescue_output old new (status_of_part part) (whole_of medium) no_line (λ seen. []) r;
        told = λ t first is. refused_rescues laws (whole_of medium) no_line (λ seen. told_behind first seen) old new same unchanged others part damaged fault;
        media = r.media;
      }

  -- It was told so.
  pub informs_alone : (first : TellerState) → (tells → IsToldAlone number (content old.media.disk.reads number) first) → (status : Status)
      → Rescues (whole_of medium) no_line (λ seen. told_behind first seen) old new status → RescuesInfo medium old new status
  informs_alone first is status r = record {
    own = rescue_known old new status (whole_of medium) no_line (λ seen. told_behind first seen) r;
    ends = rescue_ends old new (whole_of medium) no_line (λ seen. told_behind first seen) status r;
    output = rescue_output old new status (whole_of medium) no_line (λ seen. told_behind first seen) r;
    told = λ t other told.
        subst (λ (x : TellerState). Rescues (whole_of medium) no_line (λ seen. told_behind x seen) old new status) (one_told number (content old.media.disk.reads number) first other (is t) told) r;
    media = r.media;
  }
