-- How replies are spelled (this project's profile). Each line ends with LF.
use Rattle.std.specs.Prelude.{◌≡◌, ◌⊎◌, ℕ, List, ◌++◌, codes, decimal, Result, Ok, Err, ⊤}
use Rattle.vdr_terms.specs.Records.{Record}
use Rattle.vdr_durability.specs.Replies.{Reply}
use Rattle.vdr_durability.specs.Replies.Reply.{State, Saved, Released, Played, NoLabel, NothingToSave, TableFull, NoChannel, NoMedium, NoIncident, Failed}
use Rattle.vdr_outside.specs.declared.fault.PartRefused.{PartRefused}
use Rattle.vdr_outside.specs.declared.fault.PartRefused.TheVariants as parts
use Rattle.vdr_play.specs.Streams.{nothing_seen}
use Rattle.vdr_play.specs.Texts.{records_text}
use Rattle.vdr_incident.specs.declared.refused.ReleaseRefused.{ReleaseRefused}
use Rattle.vdr_incident.specs.declared.refused.ReleaseRefused.TheVariants as releases
use Rattle.vdr_vault.specs.declared.refused.SaveRefused.{SaveRefused}
use Rattle.vdr_vault.specs.declared.refused.SaveRefused.TheVariants as saves
use Rattle.vdr_visit.specs.declared.visit_refused.VisitRefused.{VisitRefused}
use Rattle.vdr_visit.specs.declared.visit_refused.VisitRefused.TheVariants as visits

-- The media have failed, a record of them is not legal, or there is no memory for the text.
abbrev pub fault_line : List ℕ
fault_line = codes "FAULT 5\n"

abbrev pub damage_line : List ℕ
damage_line = codes "FAULT 4\n"

abbrev pub memory_line : List ℕ
memory_line = codes "FAULT 9\n"

-- What is asked for is not there.
abbrev pub not_there_line : List ℕ
not_there_line = codes "REFUSED 11\n"

-- The next place, the last tick in milliseconds, and how many incidents are live.
unfoldable pub state_line : (next_place tick incidents : ℕ) → List ℕ
state_line next_place tick incidents =
    codes "OK records " ++ decimal next_place ++ codes " tick " ++ decimal tick ++ codes " incidents " ++ decimal incidents ++ codes "\n"

unfoldable pub id_line : ℕ → List ℕ
id_line id = codes "OK " ++ decimal id ++ codes "\n"

abbrev pub done_line : List ℕ
done_line = codes "OK\n"

-- From this place on records of a play were written over before they were sent.
unfoldable pub gone_line : (place : ℕ) → List ℕ
gone_line place = codes "GONE " ++ decimal place ++ codes "\n"

-- What is told, and a point on a line of its own behind it.
unfoldable pub page_text : (told : List ℕ) → List ℕ
page_text told = done_line ++ told ++ codes ".\n"

-- A reply, where this is said of the records that are asked for.
abbrev pub text_by : (said : List Record → List ℕ) → Reply → List ℕ
text_by said (State next_place tick incidents) = state_line next_place tick incidents
text_by said (Saved id) = id_line id
text_by said Released = done_line
text_by said (Played records) = said records
text_by said NoLabel = codes "REFUSED 12 label\n"
text_by said NothingToSave = codes "REFUSED 12 nothing\n"
text_by said TableFull = codes "REFUSED 12 full\n"
text_by said NoChannel = not_there_line
text_by said NoMedium = not_there_line
text_by said NoIncident = not_there_line
text_by said Failed = fault_line

-- A reply, where records are told so.
abbrev pub text_with : (told : List Record → List ℕ) → Reply → List ℕ
text_with told reply = text_by (λ records. page_text (told records)) reply

-- A reply, where records are played.
abbrev pub text_of : Reply → List ℕ
text_of reply = text_with (λ records. records_text nothing_seen records) reply

-- The line of a save, by what the recorder answered.
abbrev pub save_line : Result ℕ SaveRefused → List ℕ
save_line (Ok id) = text_of (Saved id)
save_line (Err saves.Label) = text_of NoLabel
save_line (Err saves.Nothing) = text_of NothingToSave
save_line (Err saves.TableFull) = text_of TableFull
save_line (Err (saves.Damaged m offset)) = damage_line
save_line (Err saves.Fault) = text_of Failed

-- The line of a release.
abbrev pub release_line : Result ⊤ ReleaseRefused → List ℕ
release_line (Ok done) = text_of Released
release_line (Err releases.NoSuch) = text_of NoIncident
release_line (Err releases.Fault) = text_of Failed

-- The line of an order for which a part of a medium could not be read.
abbrev pub part_line : PartRefused → List ℕ
part_line parts.NoMemory = memory_line
part_line (parts.Damaged m offset) = damage_line
part_line parts.Fault = fault_line

-- It is this text, unless there is no memory for it.
abbrev pub IsTextOr9 : (whole text : List ℕ) → Type 0
IsTextOr9 whole text = (text ≡ whole) ⊎ (text ≡ memory_line)

-- A page with its end.
abbrev pub with_end : (page : List ℕ) → List ℕ
with_end page = page ++ codes ".\n"

-- What is sent for a visit that ended so, where this page is sent as this text. The only failure of a page, and the only reason for which a
-- visitor stops by itself, is want of memory.
abbrev pub IsTold : {R : Type 0} → (sent : List ℕ → List ℕ) → Result ⊤ (VisitRefused R) → (page text : List ℕ) → Type 0
IsTold sent (Ok done) page text = IsTextOr9 (sent page) text
IsTold sent (Err visits.NoChannel) page text = text ≡ not_there_line
IsTold sent (Err visits.NoIncident) page text = text ≡ not_there_line
IsTold sent (Err visits.Fault) page text = text ≡ fault_line
IsTold sent (Err (visits.Damaged m offset)) page text = text ≡ damage_line
IsTold sent (Err visits.Output) page text = text ≡ memory_line
IsTold sent (Err (visits.Own reason)) page text = text ≡ memory_line
