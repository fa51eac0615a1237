-- One medium that is read alone: what opening and visits of it leave.
use Rattle.std.specs.Prelude.{◌≡◌, ◌⊎◌, ◌≤◌, ◌↔◌, ℕ, Bool, List, [], ◌∷◌, ◌++◌, codes, length, get_or, IsTrue, Option, None}
use Rattle.std.specs.List.Sorted.{IsPermutation, IsSortedBy}
use Rattle.std.specs.Ordering.{is_lt, nat_cmp, ordering_then}
use Rattle.vdr_terms.specs.Records.{Record}
use Rattle.vdr_terms.specs.Queries.{Query}
use Rattle.vdr_terms.specs.Slots.{slot_count}
use Rattle.vdr_core.specs.Histories as histories
use Rattle.vdr_outside.specs.Causes.{NoneFalls, Rose}
use Rattle.vdr_outside.specs.Disk.{Unchanged, content}
use Rattle.vdr_outside.specs.Parts.{part}
use Rattle.vdr_outside.specs.declared.media.Media.{Ghosts as MediaTells}
use Rattle.vdr_segment.specs.Areas.{HasRoom}
use Rattle.vdr_config.specs.Configuration.{Configuration}
use Rattle.vdr_config.specs.Sizes.{window_of}
use Rattle.vdr_media.specs.Layout.{text_from}
use Rattle.vdr_media.specs.Medium.{IsSuperblock}
use Rattle.vdr_opening.specs.Media.{HoldsConfigText}
use Rattle.vdr_visit.specs.Visits.{ReadEnd}
use Rattle.vdr_rescue.specs.declared.fronts.Head.{Head}
use Rattle.vdr_rescue.specs.declared.told.Told.{Told}
use Rattle.vdr_rescue.specs.Costs.{ReadsNoOther}
use Rattle.vdr_rescue.specs.Cursors.{CursorState}
use Rattle.vdr_rescue.specs.Findings.{Account, AreFindings}
use Rattle.vdr_rescue.specs.declared.findings.Finding.{Finding}
use Rattle.vdr_rescue.specs.Fronts.{AreFronts, FrontsState}
use Rattle.vdr_rescue.specs.Readings.{AreRead}
use Rattle.vdr_rescue.specs.Visiting.{selected_by}
use Rattle.vdr_rescue.specs.Saves.{AreSaves, SavesState, saved_slots}

-- The bytes 1 to 6 of medium m of version 1, behind its gate.
abbrev pub kind_bytes : ℕ → List ℕ
kind_bytes m = codes "VDRM" ++ 1 ∷ m ∷ []

-- A medium of this kind and version, with room for what stands before its slots.
pub record IsOfKind (m : ℕ) (bytes : List ℕ) : Type 0 where
  pub room : 32768 ≤ length bytes
  pub kind : part bytes 1 6 ≡ kind_bytes m

-- Where medium m is refused: at 0 where it is none of this kind, else at its configuration where that is none.
abbrev pub RefusesAlone : (m : ℕ) → List ℕ → (offset : ℕ) → Type 0
RefusesAlone m bytes offset =
    ((IsOfKind m bytes → ⊥) × (offset ≡ 0))
    ⊎ (IsOfKind m bytes × ((c : Configuration) → HoldsConfigText c bytes → ⊥) × (offset ≡ text_from))

-- In which order segments are read: by first place, then by sequence number, then by slot. The first two say the same on sound media, and each
-- stands in the header, so that one altered number moves its own segment alone.
abbrev pub is_before : Head → Head → Bool
is_before g h = is_lt (ordering_then (ordering_then (nat_cmp g.first h.first) (nat_cmp g.seq h.seq)) (nat_cmp g.slot h.slot))

pub record IsReadingOrder (heads order : List Head) : Type 0 where
  pub moved : IsPermutation heads order
  pub sorted : IsSortedBy is_before order

pub record AloneState : Type 0 where
  pub config : Configuration
  pub legal : Bool
  pub saves : SavesState
  pub torn : List ℕ
  pub headless : List ℕ
  pub closed : ℕ
  pub last_closed : Option ℕ
  pub cursor : CursorState

-- It is medium m with these bytes, as it was opened.
pub record IsAloneOn (m : ℕ) (bytes : List ℕ) (a : AloneState) : Type 0 where
  pub kind : IsOfKind m bytes
  pub config : HoldsConfigText a.config bytes
  pub legal : IsTrue a.legal ↔ IsSuperblock m a.config.segment bytes
  pub medium : a.cursor.area.medium ≡ m
  pub segment : a.cursor.area.segment ≡ a.config.segment
  pub slots : a.cursor.area.slots ≡ slot_count a.config.segment (length bytes)
  pub saves : AreSaves bytes (saved_slots m a.config) a.saves
  pub fronts : FrontsState
  pub are : AreFronts a.config.segment bytes (slot_count a.config.segment (length bytes)) fronts
  pub order : IsReadingOrder fronts.heads a.cursor.heads
  pub torn : a.torn ≡ fronts.torn
  pub headless : a.headless ≡ fronts.headless
  pub closed : a.closed ≡ fronts.closed
  pub last_closed : a.last_closed ≡ fronts.last_closed

-- All its segments give these records, and this is told of them.
abbrev pub IsReadThrough : List ℕ → CursorState → List Told → List Record → Type 0
IsReadThrough bytes c told given = AreRead c.area.segment bytes None 0 c.heads told given

-- Of what it gives the query selects these records.
pub record Selects (bytes : List ℕ) (a : AloneState) (query : Query) (records : List Record) : Type 0 where
  pub told : List Told
  pub given : List Record
  pub read : IsReadThrough bytes a.cursor told given
  pub are : records ≡ selected_by a.saves.table query given

abbrev pub account_of : AloneState → Account
account_of a = record {
  segment = a.cursor.area.segment;
  slots = a.cursor.area.slots;
  legal = a.legal;
  bad = a.saves.bad;
  torn = a.torn;
  headless = a.headless;
  closed = a.closed;
  last_closed = a.last_closed;
  heads = a.cursor.heads;
  told = a.cursor.told;
  seconds = window_of a.config a.cursor.area.medium;
  pins = a.saves.pins;
}

-- The same medium: only how far it is read differs.
pub record IsSameMedium (old new : AloneState) : Type 0 where
  pub kept : new ≡ record old { cursor = new.cursor }
  pub area : new.cursor.area ≡ old.cursor.area
  pub heads : new.cursor.heads ≡ old.cursor.heads

-- What visits leave that ended so: nothing was written, and nothing of another medium read. Once all was read, what is told of the segments is
-- what reading tells.
pub record LeavesAlone {M : Type 0} (media : MediaTells M) (old new : AloneState) (before after : M) (end : ReadEnd) : Type 0 where
  pub same : IsSameMedium old new
  pub room : HasRoom new.cursor.area (media.disk after).sizes
  pub unchanged : Unchanged (media.disk before) (media.disk after)
  pub others : ReadsNoOther old.cursor.area.medium (media.bytes_read before) (media.bytes_read after)
  pub later : NoneFalls (media.faults before) (media.faults after)
  pub rose : end ≡ ReadEnd.ReadFault → Rose (get_or (media.faults before) old.cursor.area.medium 0) (get_or (media.faults after) old.cursor.area.medium 0)
  pub undamaged : (m offset : ℕ) → end ≡ ReadEnd.ReadDamaged m offset → ⊥
  pub found : end ≡ ReadEnd.AllRead → media.tells → (given : List Record) × IsReadThrough (content (media.disk before).reads old.cursor.area.medium) old.cursor new.cursor.told given

-- What medium m with these bytes gives, whatever they are: its configuration, its live incidents by their slots, its records, of which a
-- query selects, and the lines behind them.
pub record Rescue : Type 0 where
  pub config : Configuration
  pub table : List (Option histories.Incident)
  pub given : List Record
  pub findings : List Finding

-- The records that a query selects of them.
abbrev pub selected_of : Rescue → Query → List Record
selected_of x query = selected_by x.table query x.given

pub record Rescued (m : ℕ) (bytes : List ℕ) (x : Rescue) : Type 0 where
  pub kind : IsOfKind m bytes
  pub config : HoldsConfigText x.config bytes
  -- the fronts of its slots, of the configuration's segment, as many as lie whole in the medium
  pub fronts : FrontsState
  pub are : AreFronts x.config.segment bytes (slot_count x.config.segment (length bytes)) fronts
  -- its segments in the order of reading, which give the records and tell this
  pub order : List Head
  pub sorted : IsReadingOrder fronts.heads order
  pub told : List Told
  pub read : AreRead x.config.segment bytes None 0 order told x.given
  -- its incident slots
  pub saves : SavesState
  pub saved : AreSaves bytes (saved_slots m x.config) saves
  pub table : x.table ≡ saves.table
  -- whether its superblock is legal in full
  pub legal : Bool
  pub superblock : IsTrue legal ↔ IsSuperblock m x.config.segment bytes
  pub findings : AreFindings (record {
    segment = x.config.segment;
    slots = slot_count x.config.segment (length bytes);
    legal = legal;
    bad = saves.bad;
    torn = fronts.torn;
    headless = fronts.headless;
    closed = fronts.closed;
    last_closed = fronts.last_closed;
    heads = order;
    told = told;
    seconds = window_of x.config m;
    pins = saves.pins;
  }) x.findings
