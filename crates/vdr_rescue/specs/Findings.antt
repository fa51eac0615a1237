-- The lines behind the records that one medium gives: what it lacks, and where it is damaged (this project's profile).
use Rattle.std.specs.Prelude.{◌≡◌, ◌+◌, ◌-◌, ◌&&◌, ◌==◌, ℕ, Bool, true, false, not, nat_le, if◌then◌else◌, List, [], ◌∷◌, ◌++◌, map, fold, codes, decimal, Option, Some, None}
use Rattle.std.specs.List.{flat_map, list_any}
use Rattle.std.specs.List.Sorted.{IsPermutation, IsNonDecreasing}
use Rattle.vdr_segment.specs.Slots.{place_of}
use Rattle.vdr_rescue.specs.declared.findings.Finding.{Finding}
use Rattle.vdr_rescue.specs.declared.findings.Finding.TheVariants.{Missing, Damaged, Closed}
use Rattle.vdr_rescue.specs.declared.found.Found.{Found}
use Rattle.vdr_rescue.specs.declared.found.Found.TheVariants.{Whole}
use Rattle.vdr_rescue.specs.declared.found.Found.TheVariants as found
use Rattle.vdr_rescue.specs.declared.fronts.Head.{Head}
use Rattle.vdr_rescue.specs.declared.lacking.Places.{Places}
use Rattle.vdr_rescue.specs.declared.told.Told.{Told}
use Rattle.vdr_rescue.specs.Lacking.{last_second, missing}
use Rattle.vdr_rescue.specs.declared.lacking.Owed.{Owed}

-- All that is known of a medium in the end: the size of its segments, how many slots it has, whether its superblock is legal in full, where
-- incident slots stand that are not legal, the slots with a torn gate and those without a header, how many slots are not open and the last
-- one whose gate is 0, the segments with what is told of them, the window in seconds, and the places of the live incidents.
pub record Account : Type 0 where
  pub segment : ℕ
  pub slots : ℕ
  pub legal : Bool
  pub bad : List ℕ
  pub torn : List ℕ
  pub headless : List ℕ
  pub closed : ℕ
  pub last_closed : Option ℕ
  pub heads : List Head
  pub told : List Told
  pub seconds : ℕ
  pub pins : List Places

abbrev pub owed_by : Account → Owed
owed_by x = record { seconds = x.seconds; last_second = last_second x.told; closed = x.closed }

abbrev pub lacks : Account → List Places
lacks x = missing (owed_by x) x.pins None false x.heads x.told

-- Where segments are damaged, in bytes of the medium.
abbrev pub fault_of : (segment : ℕ) → Head → Option ℕ → List ℕ
fault_of segment h None = []
fault_of segment h (Some at) = (place_of segment h.slot + at) ∷ []

abbrev pub faults : (segment : ℕ) → List Head → List Told → List ℕ
faults segment (h ∷ hs) (t ∷ ts) = fault_of segment h t.fault ++ faults segment hs ts
faults segment [] ts = []
faults segment (h ∷ hs) [] = []

abbrev pub is_empty : {X : Type 0} → List X → Bool
is_empty [] = true
is_empty (x ∷ xs) = false

abbrev pub places_of : (segment : ℕ) → List ℕ → List ℕ
places_of segment slots = map (λ slot. place_of segment slot) slots

-- Where it is damaged, in no order: a superblock that is not legal in full; incident slots that are not; slots without a header; segments; and
-- torn gates where a place lacks, for a segment with such places may stand behind them.
abbrev pub damages_when : (whole : Bool) → Account → List ℕ
damages_when whole x =
    (if x.legal then [] else 0 ∷ []) ++ x.bad ++ places_of x.segment x.headless
    ++ faults x.segment x.heads x.told ++ (if not whole then places_of x.segment x.torn else [])

abbrev pub damages : Account → List ℕ
damages x = damages_when (is_empty (lacks x)) x

-- Where a gate may hide a segment of which nothing lacks: a torn one, or the only one that is not open of a ring that was full.
abbrev pub is_full : (slots : ℕ) → List Head → Bool
is_full slots heads = list_any (λ h. nat_le (slots - 1) h.seq) heads

abbrev pub one_closed : (segment : ℕ) → Option ℕ → List ℕ
one_closed segment None = []
one_closed segment (Some slot) = place_of segment slot ∷ []

abbrev pub closes_when : (whole : Bool) → Account → List ℕ
closes_when whole x =
    (if whole then places_of x.segment x.torn else [])
    ++ (if is_empty x.torn && (x.closed == 1 && is_full x.slots x.heads) then one_closed x.segment x.last_closed else [])

abbrev pub closes : Account → List ℕ
closes x = closes_when (is_empty (lacks x)) x

abbrev pub as_missing : Places → Finding
as_missing p = Missing p.a p.b

abbrev pub as_damaged : ℕ → Finding
as_damaged at = Damaged at

abbrev pub as_closed : ℕ → Finding
as_closed at = Closed at

-- The lines: what lacks by rising place, the damage by rising offset, and the gates.
pub record AreFindings (x : Account) (findings : List Finding) : Type 0 where
  pub damaged : List ℕ
  pub moved : IsPermutation (damages x) damaged
  pub rising : IsNonDecreasing damaged
  pub are : findings ≡ map as_missing (lacks x) ++ map as_damaged damaged ++ map as_closed (closes x)

-- The line of a finding, and all of them.
abbrev pub line_of : Finding → List ℕ
line_of (Missing a b) = codes "missing " ++ decimal a ++ codes " " ++ decimal b ++ codes "\n"
line_of (Damaged at) = codes "damaged " ++ decimal at ++ codes "\n"
line_of (Closed at) = codes "closed " ++ decimal at ++ codes "\n"

abbrev pub findings_text : List Finding → List ℕ
findings_text findings = flat_map line_of findings

-- What findings come to: the first damage, else the first place that is missing.
abbrev pub worse : Found → Finding → Found
worse Whole (Missing a b) = found.Missing a
worse Whole (Damaged at) = found.Damaged at
worse Whole (Closed at) = Whole
worse (found.Missing place) (Missing a b) = found.Missing place
worse (found.Missing place) (Damaged at) = found.Damaged at
worse (found.Missing place) (Closed at) = found.Missing place
worse (found.Damaged offset) finding = found.Damaged offset

abbrev pub found_in : List Finding → Found
found_in findings = fold worse Whole findings
