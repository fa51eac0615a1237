-- The shape of a run: Start, then Datagrams and Gaps as items are popped, then the closing gaps in order of group, then
-- Stop, each with its stamp (this project's profile).
use Rattle.std.specs.Prelude.{ℕ, suc, ◌+◌, ◌≡◌, ◌<◌, ◌≤◌, ⊤, max, ℤ, true, List, [], ◌∷◌, ◌++◌, filter, fold, All, Option, Some, None}
use Rattle.vdr_terms.specs.Records.{Content, Record, total, is_datagram, is_gap, last}
use Rattle.vdr_terms.specs.Records.Content.{Start, Datagram, Gap, Stop}
use Rattle.vdr_core.specs.Accounts.{BeginsWithDatagram}
use Rattle.vdr_core.specs.Runs.{RunStart, SameStamp, base_of, utc_after}
use Rattle.vdr_core.specs.Taken.{Captured}

-- A Gap says that something was missed.
abbrev pub SaysMissed : Content → Type 0
SaysMissed (Gap missed) = 0 < total missed
SaysMissed Start = ⊤
SaysMissed (Datagram payload) = ⊤
SaysMissed Stop = ⊤

-- The counts of no Gap are all 0.
abbrev pub NoEmptyGap : List Record → Type 0
NoEmptyGap records = All (λ r. SaysMissed r.content) records

-- The tick once these items were popped: the base plus the greatest `received` of them.
abbrev pub tick_at : RunStart → List Captured → ℕ
tick_at start popped = base_of start + fold (λ greatest c. max greatest c.received) 0 popped

abbrev pub utc_or : ℤ → Option Captured → ℤ
utc_or before None = before
utc_or before (Some c) = c.utc

-- The utc once these items were popped: that of the last of them, else of the last record before the run, else 0.
abbrev pub utc_at : RunStart → List Captured → ℤ
utc_at start popped = utc_or (utc_after start.last) (last popped)

-- A Start or a Stop, with this stamp. It belongs to no group, which is written as 255, and has no number.
pub record IsMarker (marker : Content) (run_tick : ℕ) (run_utc : ℤ) (r : Record) : Type 0 where
  pub content : r.content ≡ marker
  pub group : r.group ≡ 255
  pub number : r.number ≡ 0
  pub tick : r.tick ≡ run_tick
  pub utc : r.utc ≡ run_utc

-- The Datagram is this item's.
pub record IsDatagramOf (c : Captured) (r : Record) : Type 0 where
  pub content : r.content ≡ Datagram c.bytes
  pub group : r.group ≡ c.group
  pub number : r.number ≡ c.number
  pub utc : r.utc ≡ c.utc

-- The Datagrams are those of some of these items, in the order in which they were popped, each with the tick of that
-- moment. The items of `before` were popped earlier.
abbrev pub AreTaken : RunStart → List Captured → List Captured → List Record → Type 0
AreTaken start before items [] = ⊤
AreTaken start before items (r ∷ rs) =
    (refused rest : List Captured)
    × (c : Captured)
    × (items ≡ refused ++ c ∷ rest)
    × IsDatagramOf c r
    × (r.tick ≡ tick_at start (before ++ (refused ++ c ∷ [])))
    × AreTaken start (before ++ (refused ++ c ∷ [])) rest rs

-- Before these a Datagram may stand, and a Gap directly before a Datagram of its group, with that one's stamp.
abbrev pub MayStandBefore : List Record → Record → Content → Type 0
MayStandBefore later r (Datagram payload) = ⊤
MayStandBefore later r (Gap missed) = BeginsWithDatagram r.group later × SameStamp r later
MayStandBefore later r Start = ⊥
MayStandBefore later r Stop = ⊥

-- What stands between Start and the closing gaps: Datagrams, and Gaps before them.
abbrev pub AreInside : List Record → Type 0
AreInside [] = ⊤
AreInside (r ∷ rs) = MayStandBefore rs r r.content × AreInside rs

-- Gaps with this stamp, in order of group: at most one of each group from this one on, which are 16 in all.
abbrev pub AreClosingGaps : ℕ → ℤ → ℕ → List Record → Type 0
AreClosingGaps tick utc from [] = ⊤
AreClosingGaps tick utc from (r ∷ rs) =
    (is_gap r.content ≡ true) × (from ≤ r.group) × (r.group < 16) × (r.tick ≡ tick) × (r.utc ≡ utc) × AreClosingGaps tick utc (suc r.group) rs

-- The run is open, and these items were popped.
pub record IsOpenRun (start : RunStart) (items : List Captured) (records : List Record) : Type 0 where
  pub first : Record
  pub body : List Record
  pub order : records ≡ first ∷ body
  pub is_start : IsMarker Start (base_of start) (utc_after start.last) first
  pub are_inside : AreInside body
  pub are_taken : AreTaken start [] items (filter (λ r. is_datagram r.content) body)

-- The run was closed after these items were popped.
pub record IsClosedRun (start : RunStart) (items : List Captured) (run : List Record) : Type 0 where
  pub made : List Record
  pub gaps : List Record
  pub stop : Record
  pub order : run ≡ made ++ (gaps ++ stop ∷ [])
  pub is_open : IsOpenRun start items made
  pub are_closing : AreClosingGaps (tick_at start items) (utc_at start items) 0 gaps
  pub is_stop : IsMarker Stop (tick_at start items) (utc_at start items) stop
