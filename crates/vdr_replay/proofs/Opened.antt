-- What opening's refusals leave, and what a configuration admits.
use Rattle.std.proofs.Common.{◌≡◌, ◌⊎◌, inl, inr, ℕ, List, [], Option, Result, Ok, Err, sym, subst}
use Rattle.std.specs.Prelude.{take}
use Rattle.vdr_durability.specs.Readings.{EndsMeet}
use Rattle.vdr_outside.specs.Disk.{Disk, Image, SameBut}
use Rattle.vdr_config.specs.Grammar.{configuration}
use Rattle.vdr_opening.specs.Media.{members_with, Contents, opening_of, reading_of}
use Rattle.vdr_opening.specs.declared.refused.OpenRefused.{OpenRefused}
use Rattle.vdr_opening.specs.declared.refused.OpenRefused.TheVariants as refusals
use Rattle.vdr_vault.specs.Openings.{LeavesAll, OpensAtEachMoment, WritesMissing}
use Rattle.vdr_vault.specs.Regularity.{AreSound}
use Rattle.vdr_vault.specs.Vaults.{ShowsHistory}
use Rattle.vdr_recorder.specs.Watched.{Watched}
use Rattle.vdr_feed.specs.Feed.{feed_header}
use Rattle.vdr_feed.specs.Reader.{IfKnown}
use Rattle.vdr_feed.specs.declared.fault.FeedFault.{FeedFault}
use Rattle.vdr_feed.specs.declared.fault.FeedFault.TheVariants as faults
use Rattle.vdr_replay.specs.Answers.{Answers, EndsAtHeader, IfOpened, RefusesMedia, RefusesRun, TellsHeader}
use Rattle.vdr_replay.specs.Ran.{StopsIn}
use Rattle.vdr_replay.specs.Refusals.{refused_by_feed, refused_by_opening}
use Rattle.vdr_replay.specs.declared.ended.Replayed.{Replayed}
use Rattle.vdr_replay.specs.declared.ended.ReplayRefused.{ReplayRefused}
use Rattle.vdr_replay.specs.declared.ended.ReplayRefused.TheVariants.{NoMemory, Input, Refused, NotFormatted, Damaged, Place, Tick, Media}
use Rattle.vdr_replay.proofs.Headlines.{opened_nothing}

-- Opening was refused, or failed.
pub open_stops : {tells tells_images T : Type 0} (x : Contents) (bytes : List ℕ) (now : Option (List ℕ)) (rose : Type 0) → configuration x.text ≡ Ok x.config → AreSound x → (old new : Disk tells tells_images) (hears : Type 0) (w : Watched) (result : Result T OpenRefused) (e : OpenRefused) → result ≡ Err e
    → ((result ≡ Err refusals.NotFormatted) ⊎ ((m : ℕ) × (offset : ℕ) × (result ≡ Err (refusals.Damaged m offset))) → LeavesAll old new)
    → (EndsMeet (members_with x.further) (reading_of x) → OpensAtEachMoment old new result (ShowsHistory (opening_of x) [])) → Answers x bytes now rose old new hears w (Err (refused_by_opening e))
open_stops x bytes now rose reads sound old new hears w result refusals.NoMemory is untouched moments = λ meet. opened_nothing x rose old new reads sound result (moments meet)
open_stops x bytes now rose reads sound old new hears w result refusals.NotFormatted is untouched moments = inl (untouched (inl is))
open_stops x bytes now rose reads sound old new hears w result (refusals.Damaged m offset) is untouched moments = inl (untouched (inr (m, offset, is)))
open_stops x bytes now rose reads sound old new hears w result refusals.Fault is untouched moments = λ meet. inl (opened_nothing x rose old new reads sound result (moments meet))

-- Damage is what opening names.
pub damaged_by : (e : OpenRefused) (m offset : ℕ) → ◌≡◌ {A = Result Replayed ReplayRefused} (Err (refused_by_opening e)) (Err (Damaged m offset)) → e ≡ refusals.Damaged m offset
damaged_by refusals.NoMemory m offset is = let none : ⊥ = cc in absurd none
damaged_by refusals.NotFormatted m offset is = let none : ⊥ = cc in absurd none
damaged_by (refusals.Damaged k at) m offset is = cc
damaged_by refusals.Fault m offset is = let none : ⊥ = cc in absurd none

-- What is said of an answer where the media were opened.
pub opened_says : (result : Result Replayed ReplayRefused) (P : Type 0) → P → IfOpened result P
opened_says (Ok r) P p = p
opened_says (Err Place) P p = p
opened_says (Err Tick) P p = p
opened_says (Err NoMemory) P p = tt
opened_says (Err Input) P p = tt
opened_says (Err (Refused number offset)) P p = tt
opened_says (Err NotFormatted) P p = tt
opened_says (Err (Damaged m offset)) P p = tt
opened_says (Err Media) P p = tt

-- A feed without its header is refused before the media are opened.
pub header_says : (f : FeedFault) (P : Type 0) → IfOpened (Err (refused_by_feed f)) P
header_says faults.Fault P = tt
header_says (faults.Refused number offset) P = tt

pub opening_says : (e : OpenRefused) (P : Type 0) → IfOpened (Err (refused_by_opening e)) P
opening_says refusals.NoMemory P = tt
opening_says refusals.NotFormatted P = tt
opening_says (refusals.Damaged m offset) P = tt
opening_says refusals.Fault P = tt

-- Of the header's refusal the media know nothing, and of theirs the header.
pub header_of_feed : {P : Type 0} (fault : FeedFault) → RefusesMedia (Err (refused_by_feed fault)) → P
header_of_feed faults.Fault refuses = absurd refuses
header_of_feed (faults.Refused number offset) refuses = absurd refuses

pub no_run_of_feed : {P : Type 0} (fault : FeedFault) → RefusesRun (Err (refused_by_feed fault)) → P
no_run_of_feed faults.Fault refuses = absurd refuses
no_run_of_feed (faults.Refused number offset) refuses = absurd refuses

-- What opening leaves as it was stays so over a call that touches nothing.
pub missing_still : {tells tells_images A : Type 0} (disk : A → Disk tells tells_images) (x : Contents) (old : Disk tells tells_images) (mid new : A) → new ≡ mid
    → WritesMissing x old (disk mid) → WritesMissing x old (disk new)
missing_still disk x old mid new same still = subst (λ a. WritesMissing x old (disk a)) (sym same) still

pub beside_still : {tells tells_images A : Type 0} (disk : A → Disk tells tells_images) (old : Image) (mid new : A) → new ≡ mid → SameBut 1 old (disk mid).reads → SameBut 1 old (disk new).reads
beside_still disk old mid new same still = subst (λ a. SameBut 1 old (disk a).reads) (sym same) still

pub not_at_header : {P : Type 0} (e : OpenRefused) → EndsAtHeader (Err (refused_by_opening e)) → P
not_at_header refusals.NoMemory ends = absurd ends
not_at_header refusals.NotFormatted ends = absurd ends
not_at_header (refusals.Damaged m offset) ends = absurd ends
not_at_header refusals.Fault ends = absurd ends

pub refused_media : {T : Type 0} (result : Result T OpenRefused) (e : OpenRefused) → result ≡ Err e → RefusesMedia (Err (refused_by_opening e))
    → (result ≡ Err refusals.NotFormatted) ⊎ ((m : ℕ) × (offset : ℕ) × (result ≡ Err (refusals.Damaged m offset)))
refused_media result refusals.NoMemory is refuses = absurd refuses
refused_media result refusals.NotFormatted is refuses = inl is
refused_media result (refusals.Damaged m offset) is refuses = inr (m, offset, is)
refused_media result refusals.Fault is refuses = absurd refuses

-- A run that was begun is refused neither by its header nor by the media.
pub begun_header : {P : Type 0} (answer : Result Replayed ReplayRefused) → StopsIn answer → EndsAtHeader answer → P
begun_header (Ok r) stops ends = absurd ends
begun_header (Err NoMemory) stops ends = absurd ends
begun_header (Err Input) stops ends = absurd stops
begun_header (Err (Refused number offset)) stops ends = absurd stops
begun_header (Err NotFormatted) stops ends = absurd ends
begun_header (Err (Damaged m offset)) stops ends = absurd ends
begun_header (Err Place) stops ends = absurd ends
begun_header (Err Tick) stops ends = absurd ends
begun_header (Err Media) stops ends = absurd ends

-- It had a header.
pub begun_tells : (left now : Option (List ℕ)) (answer : Result Replayed ReplayRefused) → StopsIn answer → IfKnown left (λ bytes. take 8 bytes ≡ feed_header) → TellsHeader left now answer
begun_tells left now (Ok r) stops h = h
begun_tells left now (Err NoMemory) stops h = h
begun_tells left now (Err Input) stops h = absurd stops
begun_tells left now (Err (Refused number offset)) stops h = absurd stops
begun_tells left now (Err NotFormatted) stops h = h
begun_tells left now (Err (Damaged m offset)) stops h = h
begun_tells left now (Err Place) stops h = h
begun_tells left now (Err Tick) stops h = h
begun_tells left now (Err Media) stops h = h

pub begun_media : {P : Type 0} (answer : Result Replayed ReplayRefused) → StopsIn answer → RefusesMedia answer → P
begun_media (Ok r) stops refuses = absurd refuses
begun_media (Err NoMemory) stops refuses = absurd refuses
begun_media (Err Input) stops refuses = absurd refuses
begun_media (Err (Refused number offset)) stops refuses = absurd refuses
begun_media (Err NotFormatted) stops refuses = absurd stops
begun_media (Err (Damaged m offset)) stops refuses = absurd stops
begun_media (Err Place) stops refuses = absurd refuses
begun_media (Err Tick) stops refuses = absurd refuses
begun_media (Err Media) stops refuses = absurd refuses
