-- The records of a run account for what each port gave: each datagram once, in its port's order, and each dropped one in
-- a Gap (this project's profile).
use Rattle.std.specs.Prelude.{ℕ, ◌+◌, ◌≤◌, ◌≡◌, ◌⊎◌, ⊤, true, List, [], ◌∷◌, ◌++◌, length, count_by, ◌&&◌}
use Rattle.vdr_terms.specs.declared.counts.Counts.{Counts}
use Rattle.vdr_terms.specs.Records.{Content, Record, Item, total, second, is_gap, is_datagram, records_of}
use Rattle.vdr_terms.specs.Records.Content.{Start, Datagram, Gap, Stop}
use Rattle.vdr_terms.specs.Datagrams.{verdict, is_yes, is_bad, is_large}
use Rattle.vdr_terms.specs.declared.datagram.Verdict.TheVariants.{Yes}
use Rattle.vdr_terms.specs.Rates.{Limit, is_admitted, is_licensed}

-- The counts are those of these items. The records before them show at least `rate` refusals, and `full` is what is left.
pub record AreMissed (limit : Limit) (base : ℕ) (before : List Record) (group : ℕ) (missed : Counts) (items : List Item) : Type 0 where
  pub bad : missed.bad ≡ count_by (λ i. is_bad (verdict i.bytes)) items
  pub large : missed.large ≡ count_by (λ i. is_large (verdict i.bytes)) items
  pub rate : missed.rate ≤ count_by (λ i. is_yes (verdict i.bytes) && is_licensed limit base before group i) items
  pub all : total missed ≡ length items

-- The record is the item's: recordable bytes, kept as they are, with the item's utc, and admitted after the records before it.
pub record IsOf (limit : Limit) (before : List Record) (r : Record) (bytes : List ℕ) (item : Item) : Type 0 where
  pub recordable : verdict item.bytes ≡ Yes
  pub payload : bytes ≡ item.bytes
  pub utc : r.utc ≡ item.utc
  pub admitted : is_admitted limit before r.group (second r.tick) (length bytes) ≡ true

-- The record accounts for exactly these items.
abbrev pub AccountsFor : Limit → ℕ → List Record → Record → Content → List Item → Type 0
AccountsFor limit base before r (Datagram payload) items = (item : Item) × (items ≡ item ∷ []) × IsOf limit before r payload item
AccountsFor limit base before r (Gap missed) items = AreMissed limit base before r.group missed items
AccountsFor limit base before r Start items = ⊥
AccountsFor limit base before r Stop items = ⊥

-- A group's records account for the items, one record after the other. The first item has this number.
abbrev pub AllAccounted : Limit → ℕ → List Record → List Record → ℕ → List Item → Type 0
AllAccounted limit base before [] number items = items ≡ []
AllAccounted limit base before (r ∷ rs) number items =
    (mine rest : List Item)
    × (items ≡ mine ++ rest)
    × (r.number ≡ number)
    × AccountsFor limit base before r r.content mine
    × AllAccounted limit base (before ++ r ∷ []) rs (number + length mine) rest

-- A Datagram of this group comes next.
abbrev pub BeginsWithDatagram : ℕ → List Record → Type 0
BeginsWithDatagram g [] = ⊥
BeginsWithDatagram g (r ∷ rs) = (is_datagram r.content ≡ true) × (r.group ≡ g)

-- Only Gaps and then a Stop: how a run is closed.
abbrev pub IsClosing : List Record → Type 0
IsClosing [] = ⊥
IsClosing (r ∷ []) = r.content ≡ Stop
IsClosing (r ∷ next ∷ rs) = (is_gap r.content ≡ true) × IsClosing (next ∷ rs)

-- Each Gap stands directly before a Datagram of its group, or among the closing gaps.
abbrev pub GapsStand : List Record → Type 0
GapsStand [] = ⊤
GapsStand (r ∷ rs) = (is_gap r.content ≡ true → BeginsWithDatagram r.group rs ⊎ IsClosing (r ∷ rs)) × GapsStand rs

-- The records of a run that began at tick base account for the items that the port of group g gave in it, each once, in its order.
pub record Accounts (limit : Limit) (base : ℕ) (run : List Record) (g : ℕ) (items : List Item) : Type 0 where
  pub gaps : GapsStand run
  pub accounted : AllAccounted limit base [] (records_of g run) 0 items

-- They account for the first of these items. A run that was cut off leaves this.
abbrev pub AccountsPrefix : Limit → ℕ → List Record → ℕ → List Item → Type 0
AccountsPrefix limit base run g items = (kept lost : List Item) × (items ≡ kept ++ lost) × Accounts limit base run g kept
