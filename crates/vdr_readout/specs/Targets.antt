-- What `targets` prints and answers (this project's profile; AIS messages of ITU-R M.1371 in sentences VDM and VDO of IEC 61162-1).
use Rattle.std.specs.Prelude.{◌≡◌, ◌∷◌, ℕ, ℤ, pos, List, [], codes, ⊤}
use Rattle.vdr_terms.specs.Stamps.{last_stamp}
use Rattle.vdr_entry.specs.declared.query.Medium.{Medium}
use Rattle.vdr_control.specs.Plays.{IsMedium, SpellsBound, medium_word}
use Rattle.vdr_ais.specs.Targets.{targets_of, targets_text}
use Rattle.vdr_command.specs.Outside.{Outside}
use Rattle.vdr_command.specs.Promises.{Promise}
use Rattle.vdr_command.specs.declared.status.Status.{Status}
use Rattle.vdr_readout.specs.Reads.{AskedPlay, all_records}
use Rattle.vdr_readout.specs.Tables.{TellsTable}

-- The records of a window or an incident up to this stamp, and with it.
abbrev pub up_to : Medium → (at : ℤ) → AskedPlay
up_to medium at = record { medium = medium; channel = all_records; from = pos 0; to = at }

-- What `targets` owes: the table of the ships that they report.
abbrev pub TellsTargets : {tells tells_images : Type 0} → Medium → (at : ℤ) → (old new : Outside tells tells_images) → Status → Type 0
TellsTargets medium at old new status = TellsTable (up_to medium at) (λ records. targets_text (targets_of records)) old new status

-- `targets`, and its words: the medium, and the last stamp or `-`.
pub record AreTargetWords (texts : List (List ℕ)) (medium : Medium) (at : ℤ) : Type 0 where
  pub bound : List ℕ
  pub words : texts ≡ codes "targets" ∷ medium_word medium ∷ bound ∷ []
  pub spelled : SpellsBound (pos last_stamp) bound at

abbrev pub targeting : Medium → (at : ℤ) → Promise
targeting medium at = record {
  words = λ texts. AreTargetWords texts medium at;
  legal = IsMedium medium;
  reads_input = ⊥;
  uses_media = ⊤;
  owes = λ old new hears w status. TellsTargets medium at old new status;
}
