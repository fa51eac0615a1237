-- What a medium of this product gives that is read alone, of all that was ever done on it (this project's profile).
use Rattle.std.specs.Prelude.{◌≡◌, ◌⊎◌, ℕ, List, [], ◌++◌, Contains, Some, ⊤}
use Rattle.vdr_terms.specs.Records.{Record, last}
use Rattle.vdr_terms.specs.Windows.{window}
use Rattle.vdr_terms.specs.Queries.{Medium}
use Rattle.vdr_terms.specs.Queries.Medium.{Incident, WindowOf}
use Rattle.vdr_core.specs.Histories.{Event, incidents, recorded}
use Rattle.vdr_core.specs.Histories as histories
use Rattle.vdr_durability.specs.Retention.{at_places}
use Rattle.vdr_config.specs.Configuration.{Configuration}
use Rattle.vdr_config.specs.Sizes.{window_of}
use Rattle.vdr_directory.specs.Sequence.{batches_in}
use Rattle.vdr_opening.specs.Media.{Contents}
use Rattle.vdr_vault.specs.Lives.{first_opening}
use Rattle.vdr_rescue.specs.Alones.{Rescue}

-- The medium ends with the capsule's last batch. The capsule does, and the long-term medium but where
-- a stop came before that was written to it.
abbrev pub EndsWithLast : Contents → ℕ → Type 0
EndsWithLast y m = last (batches_in (y.placed m)) ≡ last (batches_in (y.placed 0))

-- Of media with these contents, which were formatted with this configuration and on which all this
-- was done since, medium m gives in its window just the records of all that was ever recorded, but
-- for the last batch where it lacks that; the incidents that were saved and not released; and at the
-- places of each of them just its records.
pub record RescuesLife (c : Configuration) (text : List ℕ) (all : List Event) (y : Contents) (m : ℕ)
    (x : Rescue) : Type 0 where
  pub lacking : List Record
  pub at_most : (lacking ≡ []) ⊎ (last (batches_in (y.placed 0)) ≡ Some lacking)
  pub none_if : EndsWithLast y m → lacking ≡ []
  pub recent : window (window_of c m) (x.given ++ lacking) ≡ window (window_of c m) (recorded all)
  pub table : m ≡ 1 → x.table ≡ incidents (first_opening c text) all
  pub places : (incident : histories.Incident) → m ≡ 1 → Contains x.table (Some incident)
      → at_places incident.a incident.b x.given ≡ at_places incident.a incident.b (recorded all)

-- Of a query of its window: the medium has no record from before that.
abbrev pub HasNoOlder : Configuration → List Record → Medium → Type 0
HasNoOlder c given (WindowOf m) = window (window_of c m) given ≡ given
HasNoOlder c given (Incident id) = ⊤
