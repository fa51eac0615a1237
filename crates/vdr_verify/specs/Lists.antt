-- How far the records of a file were read.
use Rattle.std.specs.Prelude.{◌≡◌, ◌<◌, ◌+◌, ◌-◌, ◌^◌, ℕ, Bool, true, false, List, [], ◌∷◌, ◌++◌, Option, None, Some, IfSome, Result, Ok, Err, option_map}
use Rattle.vdr_bytes.specs.Numbers.{le_u32}
use Rattle.vdr_terms.specs.Legality.{IsRecord}
use Rattle.vdr_terms.specs.Records.{Record, last}
use Rattle.vdr_evidence.specs.Files.{Heading, heading_bytes, record_parts}
use Rattle.vdr_verify.specs.Accounts.{account_of, spot_of}
use Rattle.vdr_verify.specs.Legal.{selects}
use Rattle.vdr_verify.specs.Reading.{offset_behind}
use Rattle.vdr_verify.specs.Standing.{IsBehind, Refuses}
use Rattle.vdr_verify.specs.Stops.{Holds}
use Rattle.vdr_verify.specs.declared.account.Account.{Account}
use Rattle.vdr_verify.specs.declared.account.Spot.{Spot}
use Rattle.vdr_verify.specs.declared.query.Asked.{Asked}
use Rattle.vdr_verify.specs.declared.reader.Reader.{Reader}
use Rattle.vdr_verify.specs.declared.records.Listed.{Listed}
use Rattle.vdr_verify.specs.declared.refused.VerifyRefused.{VerifyRefused}

-- A legal record that the query selects, with a place above this one's.
pub record IsGiven (q : Asked) (behind : Option Spot) (r : Record) : Type 0 where
  pub legal : IsRecord r
  pub selected : selects q r ≡ true
  pub above : IfSome behind (λ s. s.place < r.place)

-- what stands before the end, or before the next record
abbrev pub front_behind : Heading → List Record → List ℕ
front_behind h records = heading_bytes h ++ record_parts records

-- Legal records were read, behind a legal heading; where the last of them stands is known.
pub record IsBehindRecords (first left : Option (List ℕ)) (reader : Reader) (q : Asked) (spot : Option Spot) (h : Heading) (records : List Record) : Type 0 where
  pub holds : Holds h q records
  pub behind : IsBehind first left reader (front_behind h records)
  pub spot_is : spot ≡ option_map spot_of (last records)

-- The next record was read, or the length 0, or what stands there is refused.
abbrev pub FindsNext : (first left : Option (List ℕ)) → Reader → Asked → Record → Heading → List Record → Result Bool VerifyRefused → Type 0
FindsNext first left reader q r h records (Ok true) = IsBehindRecords first left reader q (option_map spot_of (last (records ++ r ∷ []))) h (records ++ r ∷ [])
FindsNext first left reader q r h records (Ok false) = IsBehind first left reader (front_behind h records ++ le_u32 0)
FindsNext first left reader q r h records (Err refused) = Refuses first refused

-- Records were read, and this is their account.
pub record HasCounted (first left : Option (List ℕ)) (reader : Reader) (q : Asked) (h : Heading) (account : Account) : Type 0 where
  pub records : List Record
  pub is : IsBehindRecords first left reader q account.last h records
  pub account_is : account ≡ account_of records

-- how many places there are above this one at most
abbrev pub places_above : Option Spot → ℕ
places_above None = 2 ^ 63 + 1
places_above (Some s) = 2 ^ 63 - s.place

-- All records were read, and the length 0 behind them; where that begins is known.
pub record HasListed (first left : Option (List ℕ)) (reader : Reader) (q : Asked) (h : Heading) (listed : Listed) : Type 0 where
  pub records : List Record
  pub holds : Holds h q records
  pub account_is : listed.account ≡ account_of records
  pub end_is : listed.end ≡ offset_behind (front_behind h records)
  pub behind : IsBehind first left reader (front_behind h records ++ le_u32 0)

abbrev pub ReadsRecords : (first left : Option (List ℕ)) → Reader → Asked → Heading → Result Listed VerifyRefused → Type 0
ReadsRecords first left reader q h (Ok listed) = HasListed first left reader q h listed
ReadsRecords first left reader q h (Err refused) = Refuses first refused
