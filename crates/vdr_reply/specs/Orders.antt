-- The orders of lines as the history knows them, and what they change (this project's profile).
use Rattle.std.specs.Prelude.{◌≡◌, ℕ, ℤ, List, Bool, true, false, ◌&&◌, ◌||◌, not, is_some, is_none, position, bytes_eq, codes, if◌then◌else◌, Option, Some, None}
use Rattle.vdr_terms.specs.Queries.{Query}
use Rattle.vdr_terms.specs.Records.{Record}
use Rattle.vdr_core.specs.Histories.{Act, Event, Opening, incidents, live}
use Rattle.vdr_core.specs.RunStates.{RunState, state_left}
use Rattle.vdr_durability.specs.Replies as replies
use Rattle.vdr_durability.specs.Replies.{act_of, free_id, reply, save_of}
use Rattle.vdr_base64.specs.Lines.{lines_of}
use Rattle.vdr_config.specs.Configuration.{Selector}
use Rattle.vdr_entry.specs.Queries.{asked_medium}
use Rattle.vdr_entry.specs.declared.query.Medium.{Medium}
use Rattle.vdr_media.specs.Formatted.{members}
use Rattle.vdr_control.specs.Orders.{PlainOrder}
use Rattle.vdr_control.specs.Orders.PlainOrder.{Status, Save, Release, Incidents, Play, Evidence, Tell}
use Rattle.vdr_control.specs.Orders.PlainOrder.{Health}
use Rattle.vdr_control.specs.Orders.PlainOrder.{Export}
use Rattle.vdr_control.specs.declared.export.Exporting.{Exporting}
use Rattle.vdr_export.specs.Wishes.{kind_at, wished}
use Rattle.vdr_export.specs.declared.file.File.{File}
use Rattle.vdr_evidence.specs.Files.{evidence_bytes}
use Rattle.vdr_health.specs.Runs.{run_health}
use Rattle.vdr_health.specs.declared.gauged.Gauged.{Gauged}
use Rattle.vdr_recorder.specs.Watched.{id_or_0}
use Rattle.vdr_teller.specs.Evidence.{save_heading, save_query}
use Rattle.vdr_teller.specs.Incidents.{incidents_text}
use Rattle.vdr_teller.specs.Tellings.{query_told, told_text}
use Rattle.vdr_vault.specs.Vaults.{VaultState}
use Rattle.vdr_vault.specs.Saves.{save_refusal}
use Rattle.vdr_reply.specs.Exports.{file_text, wish_of}
use Rattle.vdr_reply.specs.Texts.{not_there_line, page_text, text_by, text_of, text_with}

-- The name that stands for every record. No channel has it.
abbrev pub is_every : (name : List ℕ) → Bool
is_every name = bytes_eq name (codes "all")

abbrev pub channel_in : List Selector → (name : List ℕ) → Option ℕ
channel_in channels name = position (λ channel. bytes_eq channel.name name) channels

-- A channel of this name is configured, or it stands for every record.
abbrev pub is_named : List Selector → (name : List ℕ) → Bool
is_named channels name = is_every name || is_some (channel_in channels name)

abbrev pub query_of : List Selector → Medium → (name : List ℕ) → (from to : ℤ) → Query
query_of channels medium name from to =
    record { medium = asked_medium medium; channel = if is_every name then None else channel_in channels name; from = from; to = to }

-- The evidence of an incident that is live after these events, as lines of base64: the file that `evidence` writes of all its records.
abbrev pub evidence_lines : Opening → List Event → (id : ℕ) → List Record → List ℕ
evidence_lines opening events id records = lines_of (evidence_bytes (save_heading opening.settings.text (incidents opening events) id) records)

-- How the run fares that these events left open, where this was gauged outside.
abbrev pub health_after : Gauged → RunState → List ℕ
health_after gauged run = if run.is_open then page_text (run_health run.start run.popped gauged) else not_there_line

-- The file that is to be made of the channel of this query, None where the channel has no such file.
abbrev pub file_for : List Selector → Exporting → (from : ℤ) → Query → Option File
file_for channels exporting from query = wished (wish_of exporting from) (kind_at channels query.channel)

-- The text that an order is answered after these events, where these channels are configured and the media have not failed. The records of a
-- medium are told as the command of that name tells them, and the live incidents are those of the history. A file is that of the command of its
-- name, as lines of base64, and so is the reason where there is none.
abbrev pub text_after : Gauged → List Selector → Opening → List Event → PlainOrder → List ℕ
text_after gauged channels opening events Status = text_of (reply members opening events replies.Order.Status)
text_after gauged channels opening events (Save label) = text_of (reply members opening events (replies.Order.Save label))
text_after gauged channels opening events (Release id) = text_of (reply members opening events (replies.Order.Release id))
text_after gauged channels opening events Incidents = page_text (incidents_text (incidents opening events))
text_after gauged channels opening events Health = health_after gauged (state_left opening events)
text_after gauged channels opening events (Play medium name from to) =
    text_of (reply members opening events (replies.Order.Play (is_named channels name) (query_of channels medium name from to)))
text_after gauged channels opening events (Evidence id) = text_with (evidence_lines opening events id) (reply members opening events (replies.Order.Play true (save_query id)))
text_after gauged channels opening events (Tell medium telling) =
    text_with (told_text telling) (reply members opening events (replies.Order.Play true (query_told medium telling)))
text_after gauged channels opening events (Export medium name from to exporting) =
    let query = query_of channels medium name from to in
    text_by (file_text (file_for channels exporting from query)) (reply members opening events (replies.Order.Play (is_named channels name) query))

-- Its act. What only reads is a look.
abbrev pub act_after : Opening → List Event → PlainOrder → Act
act_after opening events Status = Act.Look
act_after opening events (Save label) = act_of opening events (replies.Order.Save label) (reply members opening events (replies.Order.Save label))
act_after opening events (Release id) = act_of opening events (replies.Order.Release id) (reply members opening events (replies.Order.Release id))
act_after opening events Incidents = Act.Look
act_after opening events Health = Act.Look
act_after opening events (Play medium name from to) = Act.Look
act_after opening events (Evidence id) = Act.Look
act_after opening events (Tell medium telling) = Act.Look
act_after opening events (Export medium name from to exporting) = Act.Look

-- After these events the order has the records of this query told by this text, in one turn.
abbrev pub AsksToTell : List Selector → Opening → List Event → PlainOrder → Query → (List Record → List ℕ) → Type 0
AsksToTell channels opening events (Play medium name from to) query told = ⊥
AsksToTell channels opening events (Evidence id) query told = (query ≡ save_query id) × ((records : List Record) → told records ≡ evidence_lines opening events id records)
AsksToTell channels opening events (Tell medium telling) query told = (query ≡ query_told medium telling) × ((records : List Record) → told records ≡ told_text telling records)
AsksToTell channels opening events Status query told = ⊥
AsksToTell channels opening events (Save label) query told = ⊥
AsksToTell channels opening events (Release id) query told = ⊥
AsksToTell channels opening events Incidents query told = ⊥
AsksToTell channels opening events Health query told = ⊥
AsksToTell channels opening events (Export medium name from to exporting) query told = ⊥

-- The order for a file asks for this one, made of the records of this query.
pub record AsksForFile (channels : List Selector) (medium : Medium) (name : List ℕ) (from to : ℤ) (exporting : Exporting) (query : Query) (file : File) : Type 0 where
  pub named : is_named channels name ≡ true
  pub query_is : query ≡ query_of channels medium name from to
  pub file_is : file_for channels exporting from query ≡ Some file

-- The order changes what the vault holds: a save that nothing stands in the way of, or a release of a live incident.
abbrev pub is_granted : PlainOrder → VaultState → Bool
is_granted Status vault = false
is_granted (Save label) vault = is_none (save_refusal label vault)
is_granted (Release id) vault = is_some (live vault.table id)
is_granted Incidents vault = false
is_granted Health vault = false
is_granted (Play medium name from to) vault = false
is_granted (Evidence id) vault = false
is_granted (Tell medium telling) vault = false
is_granted (Export medium name from to exporting) vault = false

abbrev pub changes : PlainOrder → VaultState → Bool
changes order vault = not vault.failed && is_granted order vault

-- The act of an order that is granted.
abbrev pub granted_act : Opening → List Event → PlainOrder → Act
granted_act opening events Status = Act.Look
granted_act opening events (Save label) = save_of opening events label (id_or_0 (free_id opening events))
granted_act opening events (Release id) = Act.Release id
granted_act opening events Incidents = Act.Look
granted_act opening events Health = Act.Look
granted_act opening events (Play medium name from to) = Act.Look
granted_act opening events (Evidence id) = Act.Look
granted_act opening events (Tell medium telling) = Act.Look
granted_act opening events (Export medium name from to exporting) = Act.Look
