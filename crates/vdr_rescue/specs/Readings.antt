-- What a medium's segments give, one behind another (this project's profile).
use Rattle.std.specs.Prelude.{◌≡◌, ◌+◌, ℕ, List, [], ◌∷◌, ◌++◌, Option, Some, None}
use Rattle.vdr_terms.specs.Records.{Record}
use Rattle.vdr_rescue.specs.declared.fronts.Head.{Head}
use Rattle.vdr_rescue.specs.Runs.{run_behind}
use Rattle.vdr_rescue.specs.declared.told.Told.{Told}
use Rattle.vdr_directory.specs.Opening.{slot_bytes}
use Rattle.vdr_rescue.specs.Given.{GivenBy, above}
use Rattle.vdr_rescue.specs.Judging.{Judges}

-- The place behind the last of these records, and the floor where there is none.
abbrev pub floor_behind : (floor : ℕ) → List Record → ℕ
floor_behind floor [] = floor
floor_behind floor (r ∷ rs) = floor_behind (r.place + 1) rs

-- The segment with these numbers, whose slot has these bytes, gives these records, none below the floor, and this is told of it.
pub record IsRead (bytes : List ℕ) (before : Option ℕ) (floor : ℕ) (head : Head) (told : Told) (here : List Record) : Type 0 where
  pub all : List Record
  pub gives : GivenBy bytes head.first all
  pub are : here ≡ above floor all
  pub run : told.run ≡ run_behind None here
  pub fault : Judges bytes before floor head told.fault

-- So are these segments, one behind another, which give all these records.
abbrev pub AreRead : (segment : ℕ) → List ℕ → (before : Option ℕ) → (floor : ℕ) → List Head → List Told → List Record → Type 0
AreRead segment bytes before floor [] [] given = given ≡ []
AreRead segment bytes before floor (h ∷ hs) (t ∷ ts) given =
    (here : List Record) × IsRead (slot_bytes segment h.slot bytes) before floor h t here
    × ((more : List Record) × AreRead segment bytes (Some h.seq) (floor_behind floor here) hs ts more × (given ≡ here ++ more))
AreRead segment bytes before floor [] (t ∷ ts) given = ⊥
AreRead segment bytes before floor (h ∷ hs) [] given = ⊥
