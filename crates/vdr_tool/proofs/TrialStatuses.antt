-- Which statuses the parts of a trial end with, and what each of them says.
use Rattle.std.proofs.Common.{◌≡◌, ℕ, List}
use Rattle.vdr_config.specs.declared.media.TooSmall.{TooSmall}
use Rattle.vdr_command.specs.Endings.{IsWorkDone}
use Rattle.vdr_command.specs.Opened.{PrintsText}
use Rattle.vdr_command.specs.Outside.{OutputSeen}
use Rattle.vdr_command.specs.StatusLine.{IfSmall}
use Rattle.vdr_command.specs.declared.status.Status.{Status}
use Rattle.vdr_command.specs.declared.status.Status.TheVariants.{Done, Words, Config, Small, Unformatted, Formatted, Damaged, MediaFault, PortFault, LinkFault, InputFault, OutputFault, NoMemory, Feed, NoChannel, NoIncident, SaveRefused, Place, Tick, ExportKind, ExportNothing, ExportMixed, ExportLong, ExportPart, Capture, NoEvidence, Missing}
use Rattle.vdr_tool.specs.TrialParts.{IsBenchStatus, IsOwnStatus, IsPartStatus, IsRunStatus}
use Rattle.vdr_tool.specs.Trials.{IsAfterRun, IsOfOtherMedia, IsTrialStatus}

pub bench_trial : (s : Status) → IsBenchStatus s → IsPartStatus s
bench_trial Done h = absurd h
bench_trial Words h = absurd h
bench_trial (Config n) h = absurd h
bench_trial (Small small) h = tt
bench_trial Unformatted h = absurd h
bench_trial Formatted h = tt
bench_trial (Damaged m offset) h = absurd h
bench_trial MediaFault h = tt
bench_trial (PortFault group) h = absurd h
bench_trial (LinkFault link) h = absurd h
bench_trial InputFault h = absurd h
bench_trial OutputFault h = absurd h
bench_trial NoMemory h = tt
bench_trial (Feed n at) h = absurd h
bench_trial NoChannel h = absurd h
bench_trial (NoIncident id) h = absurd h
bench_trial (SaveRefused cause) h = absurd h
bench_trial Place h = absurd h
bench_trial Tick h = absurd h
bench_trial ExportKind h = absurd h
bench_trial ExportNothing h = absurd h
bench_trial (ExportMixed place) h = absurd h
bench_trial ExportLong h = absurd h
bench_trial (ExportPart part) h = absurd h
bench_trial (Missing place) h = absurd h
bench_trial (Capture number offset) h = absurd h
bench_trial (NoEvidence named offset) h = absurd h

pub run_trial : (s : Status) → IsRunStatus s → IsPartStatus s
run_trial Done h = absurd h
run_trial Words h = absurd h
run_trial (Config n) h = absurd h
run_trial (Small small) h = absurd h
run_trial Unformatted h = tt
run_trial Formatted h = absurd h
run_trial (Damaged m offset) h = tt
run_trial MediaFault h = tt
run_trial (PortFault group) h = absurd h
run_trial (LinkFault link) h = absurd h
run_trial InputFault h = absurd h
run_trial OutputFault h = absurd h
run_trial NoMemory h = tt
run_trial (Feed n at) h = tt
run_trial NoChannel h = absurd h
run_trial (NoIncident id) h = absurd h
run_trial (SaveRefused cause) h = absurd h
run_trial Place h = tt
run_trial Tick h = tt
run_trial ExportKind h = absurd h
run_trial ExportNothing h = absurd h
run_trial (ExportMixed place) h = absurd h
run_trial ExportLong h = absurd h
run_trial (ExportPart part) h = absurd h
run_trial (Missing place) h = absurd h
run_trial (Capture number offset) h = absurd h
run_trial (NoEvidence named offset) h = absurd h

pub stop_status : (s : Status) → IsPartStatus s → IsTrialStatus s
stop_status Done h = absurd h
stop_status Words h = absurd h
stop_status (Config n) h = absurd h
stop_status (Small small) h = tt
stop_status Unformatted h = tt
stop_status Formatted h = tt
stop_status (Damaged m offset) h = tt
stop_status MediaFault h = tt
stop_status (PortFault group) h = absurd h
stop_status (LinkFault link) h = absurd h
stop_status InputFault h = absurd h
stop_status OutputFault h = absurd h
stop_status NoMemory h = tt
stop_status (Feed n at) h = tt
stop_status NoChannel h = absurd h
stop_status (NoIncident id) h = absurd h
stop_status (SaveRefused cause) h = absurd h
stop_status Place h = tt
stop_status Tick h = tt
stop_status ExportKind h = absurd h
stop_status ExportNothing h = absurd h
stop_status (ExportMixed place) h = absurd h
stop_status ExportLong h = absurd h
stop_status (ExportPart part) h = absurd h
stop_status (Missing place) h = absurd h
stop_status (Capture number offset) h = absurd h
stop_status (NoEvidence named offset) h = absurd h

-- No work is done where a part of it stopped.
pub stop_undone : {P : Type 0} (s : Status) → IsPartStatus s → IsWorkDone s → P
stop_undone Done h done = absurd h
stop_undone Words h done = absurd h
stop_undone (Config n) h done = absurd h
stop_undone (Small small) h done = absurd done
stop_undone Unformatted h done = absurd done
stop_undone Formatted h done = absurd done
stop_undone (Damaged m offset) h done = absurd done
stop_undone MediaFault h done = absurd done
stop_undone (PortFault group) h done = absurd h
stop_undone (LinkFault link) h done = absurd h
stop_undone InputFault h done = absurd h
stop_undone OutputFault h done = absurd h
stop_undone NoMemory h done = absurd done
stop_undone (Feed n at) h done = absurd done
stop_undone NoChannel h done = absurd h
stop_undone (NoIncident id) h done = absurd h
stop_undone (SaveRefused cause) h done = absurd h
stop_undone Place h done = absurd done
stop_undone Tick h done = absurd done
stop_undone ExportKind h done = absurd h
stop_undone ExportNothing h done = absurd h
stop_undone (ExportMixed place) h done = absurd h
stop_undone ExportLong h done = absurd h
stop_undone (ExportPart part) h done = absurd h
stop_undone (Missing place) h done = absurd h
stop_undone (Capture number offset) h done = absurd h
stop_undone (NoEvidence named offset) h done = absurd h

pub stop_prints : (text : List ℕ) (was next : OutputSeen) (s : Status) → IsPartStatus s → PrintsText text s was next
stop_prints text was next Done h = absurd h
stop_prints text was next Words h = absurd h
stop_prints text was next (Config n) h = absurd h
stop_prints text was next (Small small) h = tt
stop_prints text was next Unformatted h = tt
stop_prints text was next Formatted h = tt
stop_prints text was next (Damaged m offset) h = tt
stop_prints text was next MediaFault h = tt
stop_prints text was next (PortFault group) h = absurd h
stop_prints text was next (LinkFault link) h = absurd h
stop_prints text was next InputFault h = absurd h
stop_prints text was next OutputFault h = absurd h
stop_prints text was next NoMemory h = tt
stop_prints text was next (Feed n at) h = tt
stop_prints text was next NoChannel h = absurd h
stop_prints text was next (NoIncident id) h = absurd h
stop_prints text was next (SaveRefused cause) h = absurd h
stop_prints text was next Place h = tt
stop_prints text was next Tick h = tt
stop_prints text was next ExportKind h = absurd h
stop_prints text was next ExportNothing h = absurd h
stop_prints text was next (ExportMixed place) h = absurd h
stop_prints text was next ExportLong h = absurd h
stop_prints text was next (ExportPart part) h = absurd h
stop_prints text was next (Missing place) h = absurd h
stop_prints text was next (Capture number offset) h = absurd h
stop_prints text was next (NoEvidence named offset) h = absurd h

pub run_not_formatted : (s : Status) → IsRunStatus s → s ≡ Formatted → ⊥
run_not_formatted Done h is = absurd h
run_not_formatted Words h is = absurd h
run_not_formatted (Config n) h is = absurd h
run_not_formatted (Small small) h is = absurd h
run_not_formatted Unformatted h is = let none : ⊥ = cc in none
run_not_formatted Formatted h is = absurd h
run_not_formatted (Damaged m offset) h is = let none : ⊥ = cc in none
run_not_formatted MediaFault h is = let none : ⊥ = cc in none
run_not_formatted (PortFault group) h is = absurd h
run_not_formatted (LinkFault link) h is = absurd h
run_not_formatted InputFault h is = absurd h
run_not_formatted OutputFault h is = absurd h
run_not_formatted NoMemory h is = let none : ⊥ = cc in none
run_not_formatted (Feed n at) h is = let none : ⊥ = cc in none
run_not_formatted NoChannel h is = absurd h
run_not_formatted (NoIncident id) h is = absurd h
run_not_formatted (SaveRefused cause) h is = absurd h
run_not_formatted Place h is = let none : ⊥ = cc in none
run_not_formatted Tick h is = let none : ⊥ = cc in none
run_not_formatted ExportKind h is = absurd h
run_not_formatted ExportNothing h is = absurd h
run_not_formatted (ExportMixed place) h is = absurd h
run_not_formatted ExportLong h is = absurd h
run_not_formatted (ExportPart part) h is = absurd h
run_not_formatted (Missing place) h is = absurd h
run_not_formatted (Capture number offset) h is = absurd h
run_not_formatted (NoEvidence named offset) h is = absurd h

pub run_not_small : (P : TooSmall → Type 0) (s : Status) → IsRunStatus s → IfSmall s P
run_not_small P Done h = absurd h
run_not_small P Words h = absurd h
run_not_small P (Config n) h = absurd h
run_not_small P (Small small) h = absurd h
run_not_small P Unformatted h = tt
run_not_small P Formatted h = absurd h
run_not_small P (Damaged m offset) h = tt
run_not_small P MediaFault h = tt
run_not_small P (PortFault group) h = absurd h
run_not_small P (LinkFault link) h = absurd h
run_not_small P InputFault h = absurd h
run_not_small P OutputFault h = absurd h
run_not_small P NoMemory h = tt
run_not_small P (Feed n at) h = tt
run_not_small P NoChannel h = absurd h
run_not_small P (NoIncident id) h = absurd h
run_not_small P (SaveRefused cause) h = absurd h
run_not_small P Place h = tt
run_not_small P Tick h = tt
run_not_small P ExportKind h = absurd h
run_not_small P ExportNothing h = absurd h
run_not_small P (ExportMixed place) h = absurd h
run_not_small P ExportLong h = absurd h
run_not_small P (ExportPart part) h = absurd h
run_not_small P (Missing place) h = absurd h
run_not_small P (Capture number offset) h = absurd h
run_not_small P (NoEvidence named offset) h = absurd h

pub own_after : (s : Status) → IsOwnStatus s → IsAfterRun s
own_after Done h = absurd h
own_after Words h = absurd h
own_after (Config n) h = absurd h
own_after (Small small) h = absurd h
own_after Unformatted h = absurd h
own_after Formatted h = absurd h
own_after (Damaged m offset) h = absurd h
own_after MediaFault h = tt
own_after (PortFault group) h = absurd h
own_after (LinkFault link) h = absurd h
own_after InputFault h = absurd h
own_after OutputFault h = absurd h
own_after NoMemory h = tt
own_after (Feed n at) h = absurd h
own_after NoChannel h = absurd h
own_after (NoIncident id) h = absurd h
own_after (SaveRefused cause) h = absurd h
own_after Place h = absurd h
own_after Tick h = absurd h
own_after ExportKind h = absurd h
own_after ExportNothing h = absurd h
own_after (ExportMixed place) h = absurd h
own_after ExportLong h = absurd h
own_after (ExportPart part) h = absurd h
own_after (Missing place) h = absurd h
own_after (Capture number offset) h = absurd h
own_after (NoEvidence named offset) h = absurd h

pub own_not_other : (s : Status) → IsOwnStatus s → IsOfOtherMedia s → ⊥
own_not_other Done h other = absurd h
own_not_other Words h other = absurd h
own_not_other (Config n) h other = absurd h
own_not_other (Small small) h other = absurd h
own_not_other Unformatted h other = absurd h
own_not_other Formatted h other = absurd h
own_not_other (Damaged m offset) h other = absurd h
own_not_other MediaFault h other = other
own_not_other (PortFault group) h other = absurd h
own_not_other (LinkFault link) h other = absurd h
own_not_other InputFault h other = absurd h
own_not_other OutputFault h other = absurd h
own_not_other NoMemory h other = other
own_not_other (Feed n at) h other = absurd h
own_not_other NoChannel h other = absurd h
own_not_other (NoIncident id) h other = absurd h
own_not_other (SaveRefused cause) h other = absurd h
own_not_other Place h other = absurd h
own_not_other Tick h other = absurd h
own_not_other ExportKind h other = absurd h
own_not_other ExportNothing h other = absurd h
own_not_other (ExportMixed place) h other = absurd h
own_not_other ExportLong h other = absurd h
own_not_other (ExportPart part) h other = absurd h
own_not_other (Missing place) h other = absurd h
own_not_other (Capture number offset) h other = absurd h
own_not_other (NoEvidence named offset) h other = absurd h
