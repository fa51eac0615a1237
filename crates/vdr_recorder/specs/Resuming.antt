-- A play that goes on in turns, with other events between them: what of it is printed, and what is left.
use Rattle.std.specs.Prelude.{◌≡◌, ◌≤◌, ◌<◌, ◌⊎◌, ◌-◌, ◌++◌, ℕ, suc, List, [], Contains, Some, Result, Ok, Err}
use Rattle.vdr_terms.specs.Queries.{Query}
use Rattle.vdr_terms.specs.Records.{Record, last}
use Rattle.vdr_terms.specs.Windows.{window}
use Rattle.vdr_core.specs.Histories.{Event, Opening, all_records, incidents}
use Rattle.vdr_durability.specs.Playback.{medium_of, selected}
use Rattle.vdr_durability.specs.Retention.{Pin}
use Rattle.vdr_durability.specs.Shown.{pins_on}
use Rattle.vdr_entry.specs.Queries.{asked}
use Rattle.vdr_play.specs.Streams.{Seen, nothing_seen}
use Rattle.vdr_play.specs.Texts.{records_text, seen_by}
use Rattle.vdr_ring.specs.declared.refused.ReadRefused.{ReadRefused}
use Rattle.vdr_ring.specs.declared.refused.ReadRefused.TheVariants.{Damaged, Fault}
use Rattle.vdr_vault.specs.Stretches.{IsClosed, still_selected}
use Rattle.vdr_vault.specs.declared.stretch.Stretch.{Stretch}
use Rattle.vdr_recorder.specs.declared.resume.Going.{Going}
use Rattle.vdr_recorder.specs.declared.resume.Going.TheVariants.{All, Gone, More}
use Rattle.vdr_recorder.specs.declared.resume.OpenPlay.{OpenPlay}

-- How many places are left.
abbrev pub places_left : OpenPlay → ℕ
places_left p = suc p.stretch.last - p.stretch.next

-- Of the records that the query selects of these events the first are printed, and those at the play's places are left.
pub record IsPlaying (opening : Opening) (events : List Event) (printed : List ℕ) (p : OpenPlay) : Type 0 where
  pub front : List Record
  pub selects : selected opening events (asked p.query) ≡ front ++ still_selected opening events (asked p.query) p.stretch
  pub text : printed ≡ records_text nothing_seen front
  pub seen : p.tracks ≡ seen_by nothing_seen front
  pub closed : IsClosed opening events (asked p.query) p.stretch

-- The first of them are printed, whole.
pub record IsCutPlay (opening : Opening) (events : List Event) (query : Query) (printed : List ℕ) : Type 0 where
  pub front : List Record
  pub rest : List Record
  pub selects : selected opening events query ≡ front ++ rest
  pub text : printed ≡ records_text nothing_seen front

-- What is printed once a turn of a play has ended so.
abbrev pub HasPlayedOn : Opening → List Event → (printed : List ℕ) → OpenPlay → Result Going ReadRefused → Type 0
HasPlayedOn opening events printed p (Ok All) = printed ≡ records_text nothing_seen (selected opening events (asked p.query))
HasPlayedOn opening events printed p (Ok More) = IsPlaying opening events printed p
HasPlayedOn opening events printed p (Ok (Gone place)) = IsPlaying opening events printed p × (place ≡ p.stretch.next)
HasPlayedOn opening events printed p (Err Fault) = IsCutPlay opening events (asked p.query) printed
HasPlayedOn opening events printed p (Err (Damaged m offset)) = ⊥

-- After these events the query's medium need not have a place from this one on, up to this last one: no record of that place is in its window
-- or among its pins.
pub record IsGone (opening : Opening) (events : List Event) (query : Query) (s : Stretch) : Type 0 where
  pub place : ℕ
  pub from : s.next ≤ place
  pub upto : place ≤ s.last
  pub passed : (r : Record) → r.place ≡ place → Contains (window (opening.settings.seconds (medium_of query.medium)) (all_records opening (medium_of query.medium) events)) r → ⊥
  pub unpinned : (pin : Pin) → Contains (pins_on (medium_of query.medium) (incidents opening events)) pin → pin.a ≤ place → place ≤ pin.b
      → (r : Record) → r.place ≡ place → Contains (all_records opening (medium_of query.medium) events) r → ⊥

-- A part of a play

-- Up to this place records are printed, and the others are above it.
abbrev pub EndsAt : (front rest : List Record) → (upto end : ℕ) → Type 0
EndsAt front rest upto end = ((rest ≡ []) × (upto ≡ end)) ⊎ ((r : Record) × (last front ≡ Some r) × (r.place ≡ upto))

-- Of these records the first are printed behind what stood there and what was seen.
abbrev pub HasPrintedPart : (records : List Record) → (end : ℕ) → (was_seen seen : Seen) → (was now : List ℕ) → Result ℕ ReadRefused → Type 0
HasPrintedPart records end was_seen seen was now (Ok upto) =
    (front : List Record) × (rest : List Record) × (records ≡ front ++ rest) × (now ≡ was ++ records_text was_seen front) × (seen ≡ seen_by was_seen front) × EndsAt front rest upto end
HasPrintedPart records end was_seen seen was now (Err Fault) = (front : List Record) × (rest : List Record) × (records ≡ front ++ rest) × (now ≡ was ++ records_text was_seen front)
HasPrintedPart records end was_seen seen was now (Err (Damaged m offset)) = ⊥

-- Once all up to this place is printed, none is left, or the places behind it are.
abbrev pub Passes : (old new : Stretch) → (upto : ℕ) → Going → Type 0
Passes old new upto going = ((going ≡ All) × (old.last ≤ upto)) ⊎ ((going ≡ More) × (upto < old.last) × (new.next ≡ suc upto) × (new.last ≡ old.last))
