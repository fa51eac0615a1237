-- What is visited of the records that a query selects.
use Rattle.std.specs.Prelude.{ℕ, List, Option, Result, ⊤}
use Rattle.vdr_terms.specs.Records.{Record}
use Rattle.vdr_terms.specs.Queries.{Query}
use Rattle.vdr_core.specs.Histories.{Event, Opening}
use Rattle.vdr_durability.specs.Playback.{medium_of, selected}
use Rattle.vdr_outside.specs.Disk.{Disk, Unchanged}
use Rattle.vdr_outside.specs.Writes.{AppendsFront}
use Rattle.vdr_directory.specs.Sequence.{Placed}
use Rattle.vdr_vault.specs.Vaults.{AreJudged, AreRings, IsReadable, VaultState, Stands}
use Rattle.vdr_directory.specs.Costs.{ReadsAtMost}
use Rattle.vdr_vault.specs.Plays.{ReadsNoOther, ReadsOn, whole_budget}
use Rattle.vdr_visit.specs.Visits.{AreVisited, HasMade}
use Rattle.vdr_visit.specs.declared.visit_refused.VisitRefused.{VisitRefused}

-- Of the query's medium at most a segment's bytes for each segment that meets the query were read, each once, and none of another medium.
abbrev pub ReadsEachOnce : Query → VaultState → (read_before read_now : List ℕ) → Type 0
ReadsEachOnce query vault read_before read_now = ReadsAtMost (medium_of query.medium) (whole_budget vault query) read_before read_now

module _ {tells tells_images : Type 0} where
  -- Some records were handed to a visitor, who made this of them. Where the vault's media can be read the
  -- records are those that the query selects, or the first of them, and a front of the whole text of all stands in the output however the
  -- visit ended.
  pub record HasVisited {R : Type 0} (query : Query) (vault : VaultState) (disk : Disk tells tells_images) (Has : List Record → Type 0) (Stops : List Record → R → Type 0)
      (line : List Record → Record → List ℕ) (whole : List Record → List ℕ) (was now : Option (List ℕ)) (result : Result ⊤ (VisitRefused R)) : Type 0 where
    pub seen : List Record
    pub made : HasMade (Has seen) (Stops seen) line (whole seen) seen was now result
    pub are : (opening : Opening) (events : List Event) (placed : ℕ → List Placed) → tells → IsReadable opening events vault placed disk
        → AreVisited seen (selected opening events query) result
    pub front : (opening : Opening) (events : List Event) (placed : ℕ → List Placed) → tells → IsReadable opening events vault placed disk
        → AppendsFront was now (whole (selected opening events query))

  -- The query's medium was read, and nothing else was done: of the vault only the buffer of one ring may have changed, and it stands on what
  -- it stood on.
  pub record HasOnlyRead (query : Query) (old new : VaultState) (before after : Disk tells tells_images) (read_before read_now : List ℕ) : Type 0 where
    pub vault : ReadsOn (medium_of query.medium) old new
    pub rings : AreRings new after.sizes
    pub unchanged : Unchanged before after
    pub counts : ReadsNoOther (medium_of query.medium) read_before read_now
    pub judged : AreJudged old before → AreJudged new after
    pub stands : (opening : Opening) (events : List Event) (placed : ℕ → List Placed) → Stands opening events old placed before → Stands opening events new placed after
    pub readable : (opening : Opening) (events : List Event) (placed : ℕ → List Placed) → IsReadable opening events old placed before → IsReadable opening events new placed after
