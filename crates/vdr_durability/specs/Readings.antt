-- What a recorder's media read as, where their ends meet, and what they are once each has the last batch (this project's
-- profile: a batch goes to the media one after another, and a stop may come between them).
use Rattle.std.specs.Prelude.{ℕ, suc, ◌<◌, ◌≡◌, ◌⊎◌, ⊤, Bool, true, false, List, [], ◌∷◌, ◌++◌, length, All, ◌==◌, if◌then◌else◌, ◌&&◌, nat_le, Option, Some, None}
use Rattle.vdr_terms.specs.Records.{Record, last}
use Rattle.vdr_core.specs.Histories.{Incident}
use Rattle.vdr_durability.specs.Layout.{Batches, segment_records}

-- What legible media read as: the batches of each medium by its number, the table of incidents, and the configuration's text.
pub record Reading : Type 0 where
  pub batches : ℕ → Batches
  pub table : List (Option Incident)
  pub text : List ℕ

abbrev pub records_on : Reading → ℕ → List Record
records_on reading m = segment_records (reading.batches m)

abbrev pub Ascend : List ℕ → Type 0
Ascend [] = ⊤
Ascend (m ∷ ms) = All (λ k. m < k) ms × Ascend ms

-- The media of a version or of a run, by number. Each batch goes to them in this order.
pub record AreMembers (members : List ℕ) : Type 0 where
  pub some : 0 < length members
  pub ascend : Ascend members

-- The first of them leads.
abbrev pub lead : List ℕ → ℕ
lead [] = 0
lead (m ∷ ms) = m

abbrev pub leading_batch : List ℕ → Reading → Option (List Record)
leading_batch members reading = last (reading.batches (lead members))

-- The place after this record, 0 where there is none.
abbrev pub next_after : Option Record → ℕ
next_after None = 0
next_after (Some r) = suc r.place

abbrev pub begins_at : ℕ → List Record → Bool
begins_at place [] = false
begins_at place (r ∷ rs) = r.place == place

-- Its first tick is not below this record's.
abbrev pub begins_since : Option Record → List Record → Bool
begins_since None batch = true
begins_since (Some newest) [] = false
begins_since (Some newest) (r ∷ rs) = nat_le newest.tick r.tick

-- The batch may come next behind this record.
abbrev pub comes_next : Option Record → List Record → Bool
comes_next newest batch = begins_at (next_after newest) batch && begins_since newest batch

-- These batches end directly before this one: it may come next behind their last record.
abbrev pub ends_before : Option (List Record) → Batches → Bool
ends_before None batches = false
ends_before (Some batch) batches = comes_next (last (segment_records batches)) batch

-- These batches, and the one before which they end.
abbrev pub with_next : Option (List Record) → Batches → Batches
with_next None batches = batches
with_next (Some batch) batches = if ends_before (Some batch) batches then batches ++ batch ∷ [] else batches

-- The media as opening restores them: the leading medium's last batch is added to each that ends directly before it.
abbrev pub restored : List ℕ → Reading → Reading
restored members reading = record reading { batches = λ m. with_next (leading_batch members reading) (reading.batches m) }

-- These media, in their order, end with the batch or directly before it, and none that ends with it follows one that ends
-- before it. A medium ends with a batch where its own last batch is this very one. Where there is no batch, none has one.
abbrev pub EndBy : Reading → Option (List Record) → List ℕ → Type 0
EndBy reading batch [] = ⊤
EndBy reading batch (m ∷ ms) =
    ((last (reading.batches m) ≡ batch) × EndBy reading batch ms)
    ⊎ All (λ k. ends_before batch (reading.batches k) ≡ true) (m ∷ ms)

-- The media's ends meet.
abbrev pub EndsMeet : List ℕ → Reading → Type 0
EndsMeet members reading = EndBy reading (leading_batch members reading) members

-- The first medium at which the ends no longer meet: they do for those before it.
pub record EndsOff (members : List ℕ) (reading : Reading) (m : ℕ) : Type 0 where
  pub before : List ℕ
  pub after : List ℕ
  pub split : members ≡ before ++ m ∷ after
  pub meet : EndsMeet before reading
  pub off : EndsMeet (before ++ m ∷ []) reading → ⊥

-- Each medium ends with the last batch of the leading one.
abbrev pub AreLevel : List ℕ → Reading → Type 0
AreLevel members reading = All (λ m. last (reading.batches m) ≡ leading_batch members reading) members

-- A batch on its way: the first of the media end with it, at least one of them, and the others directly before it.
pub record IsPassedOn (members given waiting : List ℕ) (batch : List Record) (reading : Reading) : Type 0 where
  pub split : members ≡ given ++ waiting
  pub some : 0 < length given
  pub given_end : All (λ m. last (reading.batches m) ≡ Some batch) given
  pub waiting_end : All (λ m. ends_before (Some batch) (reading.batches m) ≡ true) waiting
