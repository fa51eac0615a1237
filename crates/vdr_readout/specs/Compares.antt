-- What `compare` prints and answers (this project's profile).
use Rattle.std.specs.Prelude.{◌≡◌, ◌∷◌, [], codes, Result, Ok, Err, ⊤}
use Rattle.vdr_outside.specs.Disk.{Unchanged}
use Rattle.vdr_compare.specs.Media.{ComparesMedia}
use Rattle.vdr_compare.specs.declared.comparing.CompareRefused.TheVariants as compares
use Rattle.vdr_compare.specs.declared.difference.Verdict.{Verdict}
use Rattle.vdr_compare.specs.declared.difference.Verdict.TheVariants as verdict
use Rattle.vdr_compare.specs.declared.media.MediaRefused.{MediaRefused}
use Rattle.vdr_compare.specs.declared.media.MediaRefused.TheVariants.{Opening, Comparing}
use Rattle.vdr_media.specs.Layout.{text_from}
use Rattle.vdr_command.specs.Outside.{MediaFailed, OutputFailed, Outside}
use Rattle.vdr_command.specs.Promises.{Promise}
use Rattle.vdr_command.specs.declared.status.Status.{Status}
use Rattle.vdr_command.specs.declared.status.Status.TheVariants.{Done, Damaged, MediaFault, Missing, OutputFault, Words}
use Rattle.vdr_readout.specs.Telling.{status_of_part}

-- The status of a comparison. Of the first place that differs or that a medium lacks, no record is sure; configurations that differ are told
-- as damage at the long-term medium's one, and what is damaged as `rescue` tells it.
abbrev pub status_of_comparison : Result Verdict MediaRefused → Status
status_of_comparison (Ok verdict.Same) = Done
status_of_comparison (Ok verdict.Configuration) = Damaged 1 text_from
status_of_comparison (Ok (verdict.Damaged m offset)) = Damaged m offset
status_of_comparison (Ok (verdict.Differs place)) = Missing place
status_of_comparison (Ok (verdict.Lacks place)) = Missing place
status_of_comparison (Err (Opening why)) = status_of_part why
status_of_comparison (Err (Comparing compares.Fault)) = MediaFault
status_of_comparison (Err (Comparing compares.Output)) = OutputFault

-- What `compare` owes.
pub record ComparesBoth {tells tells_images : Type 0} (old new : Outside tells tells_images) (status : Status) : Type 0 where
  pub own : status ≡ Words → ⊥
  -- for any bytes of both media: the comparison of what each one gives alone is printed, and the status tells its first line but the last
  pub ended : Result Verdict MediaRefused
  pub status_is : status ≡ status_of_comparison ended
  pub shown : tells → ComparesMedia old.media.disk.reads old.output.taken new.output.taken ended
  -- a failure comes only with its cause, and nothing is written to any medium
  pub fault : status ≡ MediaFault → MediaFailed old.media new.media
  pub output : status ≡ OutputFault → OutputFailed old.output new.output
  pub unchanged : Unchanged old.media.disk new.media.disk

abbrev pub comparing : Promise
comparing = record {
  words = λ texts. texts ≡ codes "compare" ∷ [];
  legal = ⊤;
  reads_input = ⊥;
  uses_media = ⊤;
  owes = λ old new hears w status. ComparesBoth old new status;
}
