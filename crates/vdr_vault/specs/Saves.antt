-- What a vault answers to a save and to a release (this project's profile; IMO MSC.333(90) asks that the record of an incident be
-- kept).
use Rattle.std.specs.Prelude.{◌≡◌, ◌⊎◌, ◌∷◌, ◌++◌, ℕ, ℤ, Bool, true, false, List, [], get_or, sum, is_none, position, Option, Some, None, option_map, slice_get, Result, OnOk, IfOk}
use Rattle.vdr_terms.specs.Records.{Record}
use Rattle.vdr_terms.specs.Windows.{window}
use Rattle.vdr_core.specs.Histories.{Event, Opening, MayCome}
use Rattle.vdr_core.specs.Histories.Act.{Save}
use Rattle.vdr_durability.specs.Keeping.{Extends}
use Rattle.vdr_outside.specs.Causes.{NoneFalls, Rose}
use Rattle.vdr_outside.specs.Disk.{Disk}
use Rattle.vdr_terms.specs.Texts.{is_label}
use Rattle.vdr_incident.specs.declared.refused.TableRefused.{TableRefused}
use Rattle.vdr_incident.specs.declared.refused.TableRefused.TheVariants as tables
use Rattle.vdr_directory.specs.Sequence.{Placed}
use Rattle.vdr_ring.specs.declared.refused.ReadRefused.{ReadRefused}
use Rattle.vdr_ring.specs.declared.refused.ReadRefused.TheVariants as reads
use Rattle.vdr_vault.specs.declared.refused.SaveRefused.{SaveRefused}
use Rattle.vdr_vault.specs.declared.refused.SaveRefused.TheVariants.{Label, Nothing, TableFull, Damaged, Fault}
use Rattle.vdr_vault.specs.Vaults.{VaultState, ShowsHistory, Stands}

-- What is answered where a read is refused.
abbrev pub refusal_by : ReadRefused → SaveRefused
refusal_by reads.Fault = Fault
refusal_by (reads.Damaged m offset) = Damaged m offset

-- Where the table refuses.
abbrev pub refusal_of : TableRefused → SaveRefused
refusal_of tables.TableFull = TableFull
refusal_of tables.Fault = Fault

-- Why nothing is saved, in this order: the label is none, nothing is recorded, no slot is free. None where nothing stands in the way.
abbrev pub refusal_from : (labelled : Bool) (newest : Option (ℕ × ℤ)) (free : Option ℕ) → Option SaveRefused
refusal_from false newest free = Some Label
refusal_from true None free = Some Nothing
refusal_from true (Some stamp) None = Some TableFull
refusal_from true (Some stamp) (Some slot) = None

abbrev pub save_refusal : List ℕ → VaultState → Option SaveRefused
save_refusal label vault = refusal_from (is_label label) vault.last (position is_none vault.table)

-- The place of the first record in the window of so many seconds.
abbrev pub first_in_window : ℕ → List Record → Option ℕ
first_in_window seconds records = option_map (λ r. r.place) (slice_get (window seconds records) 0)

-- No count of faults falls. A call was answered with a fault where a write had failed before, and else only where the count of
-- medium m rose, and so the sum.
pub record HasFaultOn (m : ℕ) (failed : Bool) (before now : List ℕ) (faulted : Type 0) : Type 0 where
  pub later : NoneFalls before now
  pub on_medium : faulted → (failed ≡ true) ⊎ Rose (get_or before m 0) (get_or now m 0)
  pub in_all : faulted → (failed ≡ true) ⊎ Rose (sum before) (sum now)

module _ {tells tells_images : Type 0} where
  -- A call on media that have these segments: at every moment a stop leaves media that show the events, or the events and this
  -- one; and after a success the vault stands with it.
  pub record Does {T E : Type 0} (opening : Opening) (events : List Event) (e : Event) (placed : ℕ → List Placed) (vault : VaultState)
      (old new : Disk tells tells_images) (result : Result T E) : Type 0 where
    pub moments : Extends (ShowsHistory opening) events e old new
    pub done : OnOk result (Stands opening (events ++ e ∷ []) vault placed new)

  -- A save under the least free id, of the records in the window of an incident's seconds up to the last one.
  pub record Saves (opening : Opening) (events : List Event) (label : List ℕ) (placed : ℕ → List Placed) (vault : VaultState)
      (old new : Disk tells tells_images) (result : Result ℕ SaveRefused) : Type 0 where
    pub id : ℕ
    pub a : ℕ
    pub b : ℕ
    pub may_come : MayCome opening events (Save id label a b)
    pub told : IfOk result (λ told. told ≡ id)
    pub does : (e : Event) → e.act ≡ Save id label a b → Does opening events e placed vault old new result
