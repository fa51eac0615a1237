-- What opening a medium refuses: the first part that is not legal. First come the headers, in order of slot; then, in order of
-- sequence number, the batches of the segments whose header has no summary. Then comes the order of the segments, by what is known
-- of them (this project's profile). No batch of another segment is read.
use Rattle.std.specs.Prelude.{◌≡◌, ◌⊎◌, ◌<◌, ◌+◌, ℕ, List, [], ◌∷◌, ◌++◌, map, All, Contains, drop, get_or, Option, Some, None, Result, IsErrOf, ⊤}
use Rattle.vdr_terms.specs.Records.{Record}
use Rattle.vdr_outside.specs.Causes.{NoneFalls, Rose}
use Rattle.vdr_outside.specs.Parts.{part}
use Rattle.vdr_outside.specs.declared.fault.PartRefused.{PartRefused}
use Rattle.vdr_outside.specs.declared.fault.PartRefused.TheVariants.{Fault}
use Rattle.vdr_entry.specs.declared.summary.Summary.{Summary}
use Rattle.vdr_segment.specs.declared.header.Header.{Header}
use Rattle.vdr_segment.specs.Segments.{AreBatches}
use Rattle.vdr_segment.specs.Slots.{IsFront, place_of}
use Rattle.vdr_index.specs.Surveys.{BreaksAt}
use Rattle.vdr_directory.specs.Sequence.{Placed}
use Rattle.vdr_directory.specs.Knowns.{BreaksBy}

-- The front of a slot, and its whole bytes.
abbrev pub front_bytes : (segment slot : ℕ) → List ℕ → List ℕ
front_bytes segment slot bytes = part bytes (place_of segment slot) 64

abbrev pub slot_bytes : (segment slot : ℕ) → List ℕ → List ℕ
slot_bytes segment slot bytes = part bytes (place_of segment slot) segment

-- The first slot whose gate is open and that has no header.
pub record RefusesHeader (segment count : ℕ) (bytes : List ℕ) (offset : ℕ) : Type 0 where
  pub slot : ℕ
  pub within : slot < count
  pub legal : (j : ℕ) → j < slot → (front : Option Header) × IsFront (front_bytes segment j bytes) front
  pub broken : (front : Option Header) → IsFront (front_bytes segment slot bytes) front → ⊥
  pub at : offset ≡ place_of segment slot

-- An open slot and its header.
pub record Headed : Type 0 where
  pub slot : ℕ
  pub header : Header

abbrev pub IsEarlier : Headed → Headed → Type 0
IsEarlier x y = (x.header.seq < y.header.seq) ⊎ ((x.header.seq ≡ y.header.seq) × (x.slot < y.slot))

abbrev pub RiseBySeq : List Headed → Type 0
RiseBySeq [] = ⊤
RiseBySeq (x ∷ xs) = All (IsEarlier x) xs × RiseBySeq xs

-- All headers are legal, and these are those of the open slots, in order of sequence number.
pub record AreHeaders (segment count : ℕ) (bytes : List ℕ) (headed : List Headed) : Type 0 where
  pub fronts : (j : ℕ) → j < count → (front : Option Header) × IsFront (front_bytes segment j bytes) front
      × ((h : Header) → front ≡ Some h → Contains headed (record { slot = j; header = h }))
  pub there : All (λ x. (x.slot < count) × IsFront (front_bytes segment x.slot bytes) (Some x.header)) headed
  pub rising : RiseBySeq headed

-- The first segment, in order of sequence number, whose header has no summary and that has a batch that is not legal, and where
-- the first such batch stands.
pub record RefusesBatch (segment count : ℕ) (bytes : List ℕ) (offset : ℕ) : Type 0 where
  pub headed : List Headed
  pub headers : AreHeaders segment count bytes headed
  pub before : List Headed
  pub here : Headed
  pub after : List Headed
  pub split : headed ≡ before ++ here ∷ after
  pub legal : All (λ x. x.header.summary ≡ None → (batches : List (List Record)) × AreBatches (drop 64 (slot_bytes segment x.slot bytes)) batches) before
  pub bare : here.header.summary ≡ None
  pub at : ℕ
  pub broken : BreaksAt (slot_bytes segment here.slot bytes) at
  pub is : offset ≡ place_of segment here.slot + at

-- The batches of a segment, as opening reads them: all where its header has no summary, and else none.
abbrev pub AreBatchesRead : Option Summary → List ℕ → List (List Record) → Type 0
AreBatchesRead None bytes batches = AreBatches bytes batches
AreBatchesRead (Some s) bytes batches = batches ≡ []

abbrev pub headed_of : Placed → Headed
headed_of p = record { slot = p.slot; header = p.segment.header }

-- These are the open slots of a medium as opening knows them, in order of sequence number. All headers are legal, and so are the
-- batches of those without a summary.
pub record AreKnown (segment count : ℕ) (bytes : List ℕ) (known : List Placed) : Type 0 where
  pub headers : AreHeaders segment count bytes (map headed_of known)
  pub batches : All (λ p. AreBatchesRead p.segment.header.summary (drop 64 (slot_bytes segment p.slot bytes)) p.segment.batches) known

-- All that is read of the segments is legal, and this is the first that breaks the order in the medium.
pub record RefusesOrder (segment count : ℕ) (bytes : List ℕ) (offset : ℕ) : Type 0 where
  pub known : List Placed
  pub are : AreKnown segment count bytes known
  pub here : Placed
  pub breaks : BreaksBy None known here
  pub at : offset ≡ place_of segment here.slot

abbrev pub Refuses : (segment count : ℕ) → List ℕ → ℕ → Type 0
Refuses segment count bytes offset = RefusesHeader segment count bytes offset ⊎ (RefusesBatch segment count bytes offset ⊎ RefusesOrder segment count bytes offset)

-- No count of faults falls, and a fault is answered only where that of medium m rose.
pub record HasFaultCause {T : Type 0} (m : ℕ) (before now : List ℕ) (result : Result T PartRefused) : Type 0 where
  pub later : NoneFalls before now
  pub rose : IsErrOf result Fault → Rose (get_or before m 0) (get_or now m 0)
