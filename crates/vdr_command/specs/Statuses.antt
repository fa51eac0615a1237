-- How what the layers below refuse ends a command (this project's profile).
use Rattle.vdr_vault.specs.declared.refused.SaveRefused.{SaveRefused as Refused}
use Rattle.vdr_vault.specs.declared.refused.SaveRefused.TheVariants as saves
use Rattle.vdr_opening.specs.declared.refused.OpenRefused.{OpenRefused}
use Rattle.vdr_opening.specs.declared.refused.OpenRefused.TheVariants as openings
use Rattle.vdr_review.specs.declared.reading.ReviewRefused.{ReviewRefused}
use Rattle.vdr_review.specs.declared.reading.ReviewRefused.TheVariants as reviews
use Rattle.vdr_replay.specs.declared.ended.ReplayRefused.{ReplayRefused}
use Rattle.vdr_replay.specs.declared.ended.ReplayRefused.TheVariants as stops
use Rattle.vdr_command.specs.declared.status.SaveCause.TheVariants.{Label, Nothing, TableFull}
use Rattle.vdr_command.specs.declared.status.Status.{Status}
use Rattle.vdr_command.specs.declared.status.Status.TheVariants.{Unformatted, Damaged, MediaFault, InputFault, NoMemory, Feed, SaveRefused, Place, Tick}

-- How a refusal of the media ends the command.
abbrev pub status_of_opening : OpenRefused → Status
status_of_opening openings.NoMemory = NoMemory
status_of_opening openings.NotFormatted = Unformatted
status_of_opening (openings.Damaged m offset) = Damaged m offset
status_of_opening openings.Fault = MediaFault

-- How the command ends where there is no review.
abbrev pub status_of_review : ReviewRefused → Status
status_of_review reviews.Input = InputFault
status_of_review reviews.Memory = NoMemory
status_of_review (reviews.Refused number offset) = Feed number offset

-- How the command ends where no run was closed.
abbrev pub status_of_replay : ReplayRefused → Status
status_of_replay stops.NoMemory = NoMemory
status_of_replay stops.Input = InputFault
status_of_replay (stops.Refused number offset) = Feed number offset
status_of_replay stops.NotFormatted = Unformatted
status_of_replay (stops.Damaged m offset) = Damaged m offset
status_of_replay stops.Place = Place
status_of_replay stops.Tick = Tick
status_of_replay stops.Media = MediaFault

-- How a refusal of a save ends the command.
abbrev pub status_of_save : Refused → Status
status_of_save saves.Label = SaveRefused Label
status_of_save saves.Nothing = SaveRefused Nothing
status_of_save saves.TableFull = SaveRefused TableFull
status_of_save (saves.Damaged m offset) = Damaged m offset
status_of_save saves.Fault = MediaFault
