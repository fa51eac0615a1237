-- The records that a query selects are visited one by one.
use Rattle.std.proofs.Common.{◌≡◌, ◌≢◌, ◌≤◌, ◌+◌, get_or, ℕ, List, Bool, true, false, Option, None}
use Rattle.std.specs.Io.KnownBytes.{Appends}
use Rattle.vdr_terms.specs.Queries.{Query}
use Rattle.vdr_terms.specs.Records.{Record}
use Rattle.vdr_core.specs.Histories.{Event, Opening}
use Rattle.vdr_durability.specs.Playback.{medium_of, selected}
use Rattle.vdr_outside.specs.Causes.{NoneFalls}
use Rattle.vdr_outside.specs.Disk.{Disk, Unchanged}
use Rattle.vdr_directory.specs.Sequence.{Placed}
use Rattle.vdr_vault.specs.Vaults.{AreJudged, AreRings, IsReadable, VaultState, Stands}
use Rattle.vdr_ring.specs.Walks.{CursorState, MayStep}
use Rattle.vdr_vault.specs.Plays.{AreToCome, ReadsNoOther, ReadsOn, budget_for, ring_for, whole_budget}
use Rattle.vdr_visit.specs.Prints.{text_of}
use Rattle.vdr_vault.proofs.Between.{IsBetween}
use Rattle.vdr_vault.proofs.Damages.{AreWhole, IsPassing}

module _ {tells tells_images S : Type 0} where
  -- Between two records of a visit. What the visitor had of none of them, and has of the first of them, is told by the visitor from which it
  -- began.
  pub record IsVisiting (query : Query) (first now : VaultState) (before after : Disk tells tells_images) (read_before read_now faults_before faults_now : List ℕ) (output_before output_now : ℕ)
      (was printed : Option (List ℕ)) (Had : S → Type 0) (Has : S → List Record → Type 0) (line : S → List Record → Record → List ℕ) (cursor : CursorState) (found : Bool) : Type 0 where
    pub rings : AreRings now after.sizes
    pub reads : ReadsOn (medium_of query.medium) first now
    pub unchanged : Unchanged before after
    pub counts : ReadsNoOther (medium_of query.medium) read_before read_now
    pub spent : get_or read_now (medium_of query.medium) 0 + budget_for now query cursor.standing ≤ get_or read_before (medium_of query.medium) 0 + whole_budget first query
    pub later : NoneFalls faults_before faults_now
    pub output : output_before ≤ output_now
    pub may : MayStep (ring_for now query) cursor
    pub item : found ≡ true → cursor.visit.item ≢ None
    pub judged : AreJudged first before → AreJudged now after
    pub passing : IsPassing query first now before after cursor
    pub whole : found ≡ false → AreWhole query first before
    pub stands : (opening : Opening) (events : List Event) (placed : ℕ → List Placed) → Stands opening events first placed before → Stands opening events now placed after
    pub readable : (opening : Opening) (events : List Event) (placed : ℕ → List Placed) → IsReadable opening events first placed before → IsReadable opening events now placed after
    pub visits : (start : S) → Had start → (seen : List Record) × Has start seen × Appends was printed (text_of (line start) seen)
        × ((opening : Opening) (events : List Event) (placed : ℕ → List Placed) → tells → IsReadable opening events first placed before
        → IsBetween (selected opening events query) seen found cursor.visit.item (AreToCome query now placed after cursor))
