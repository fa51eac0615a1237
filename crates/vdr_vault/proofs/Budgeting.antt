-- What a play reads at most.
use Rattle.std.proofs.Common.{◌≡◌, ℕ, ℤ, Bool, false, List, get_or, Option, Some, None, option_map, Result, Ok, refl, sym, ap, ◌∙◌, subst, arith}
use Rattle.vdr_terms.specs.Records.{last, second}
use Rattle.vdr_terms.specs.Queries.{Medium, Query, Span}
use Rattle.vdr_terms.specs.Queries.Medium.{WindowOf, Incident}
use Rattle.vdr_terms.specs.Queries.Span.{Window}
use Rattle.vdr_durability.specs.Playback.{medium_of}
use Rattle.vdr_config.specs.Sizes.{window_of}
use Rattle.vdr_outside.specs.Causes.{Rose}
use Rattle.vdr_directory.specs.Sequence.{Placed, all_records, batches_in}
use Rattle.vdr_directory.proofs.Endings.{ending_in, last_told}
use Rattle.vdr_ring.specs.Rings.{RingState}
use Rattle.vdr_ring.specs.declared.refused.ReadRefused.{ReadRefused}
use Rattle.vdr_ring.specs.declared.cursor.Standing.{Standing}
use Rattle.vdr_ring.specs.Budgets.{IsOfSegments, Spends, budget}
use Rattle.vdr_ring.specs.Walks.{CountsOn}
use Rattle.vdr_vault.specs.Vaults.{VaultState, ring_of}
use Rattle.vdr_vault.specs.Plays.{AreOfSegments, ReadsOn, budget_for, budget_of, ring_for, span_by, span_in}

-- By what a vault keeps a query's medium comes to what it does by its segments.

then_of_map : {A B C : Type 0} (f : A → B) (g : B → C) (o : Option A) → option_map g (option_map f o) ≡ option_map (λ (x : A). g (f x)) o
then_of_map f g None = refl
then_of_map f g (Some x) = refl

module _ (vault : VaultState) (placed : ℕ → List Placed) where
  pub span_same : (medium : Medium) → (ring_of vault (medium_of medium)).directory.ending ≡ ending_in (batches_in (placed (medium_of medium)))
      → span_by vault medium ≡ span_in vault placed medium
  span_same (WindowOf m) ending =
      let window : ℕ × ℕ × ℤ → Span = λ x. Window (second x.1) (window_of vault.config m) in
      sym (then_of_map (λ e. (e.place, e.tick, e.utc)) window (ring_of vault m).directory.ending)
      ∙ ap (option_map window) (last_told (placed m) (ring_of vault m).directory.ending ending)
      ∙ then_of_map (λ r. (r.place, r.tick, r.utc)) window (last (all_records (placed m)))
  span_same (Incident id) ending = refl

-- A step of a play spends of its budget.

-- Where only the buffer of its ring may have changed it comes to the same.
pub span_still : (old new : VaultState) (medium : Medium) → ReadsOn (medium_of medium) old new → span_by new medium ≡ span_by old medium
span_still old new (WindowOf m) reads =
    ap (λ (s : VaultState). option_map (λ e. Window (second e.tick) (window_of s.config m)) (ring_of new m).directory.ending) reads.vault
    ∙ ap (λ (r : RingState). option_map (λ e. Window (second e.tick) (window_of old.config m)) r.directory.ending) reads.ring
span_still old new (Incident id) reads = ap (λ (s : VaultState). span_by s (Incident id)) reads.vault

-- What is counted on the ring of a medium is counted on that medium.
pub counts_on : (m k : ℕ) (read_before read_now faults_before faults_now : List ℕ) → k ≡ m → CountsOn k read_before read_now faults_before faults_now
    → CountsOn m read_before read_now faults_before faults_now
counts_on m k read_before read_now faults_before faults_now = subst (λ (j : ℕ). CountsOn j read_before read_now faults_before faults_now)

-- A count that rose on it rose on that medium.
pub rose_on : (m k : ℕ) (before now : List ℕ) → k ≡ m → Rose (get_or before k 0) (get_or now k 0) → Rose (get_or before m 0) (get_or now m 0)
rose_on m k before now = subst (λ (j : ℕ). Rose (get_or before j 0) (get_or now j 0))

-- The ring's budget is the query's.
pub spends_for : (query : Query) (old new : VaultState) (span : Span) (from to : Option Standing) (before now : List ℕ) (result : Result Bool ReadRefused)
    → span_by old query.medium ≡ Some span → ReadsOn (medium_of query.medium) old new → (ring_for old query).medium ≡ medium_of query.medium
    → Spends (ring_for old query).medium (budget (ring_for old query) query span from) (budget (ring_for new query) query span to) before now result
    → Spends (medium_of query.medium) (budget_for old query from) (budget_for new query to) before now result
spends_for query old new span from to before now result is reads medium spends =
    subst (λ (o : Option Span). Spends (medium_of query.medium) (budget_of (ring_for old query) query o from) (budget_for new query to) before now result) (sym is)
    (subst (λ (o : Option Span). Spends (medium_of query.medium) (budget (ring_for old query) query span from) (budget_of (ring_for new query) query o to) before now result)
    (sym (span_still old new query.medium reads ∙ is))
    (subst (λ (k : ℕ). Spends k (budget (ring_for old query) query span from) (budget (ring_for new query) query span to) before now result) medium spends))

-- nothing is read where the query's medium comes to nothing
pub spends_nothing : (m : ℕ) (query : Query) (vault : VaultState) (had : ℕ) (standing : Option Standing) (counts : List ℕ) → span_by vault query.medium ≡ None
    → Spends {T = Bool} {E = ReadRefused} m had (budget_for vault query standing) counts counts (Ok false)
spends_nothing m query vault had standing counts none =
    let nothing : budget_for vault query standing ≡ 0 = ap (λ (o : Option Span). budget_of (ring_for vault query) query o standing) none in
    record { within = omega arith; left = omega (arith, nothing) }

-- The whole budget as one of segments.
pub whole_of_segments : (query : Query) (vault : VaultState) (placed : ℕ → List Placed) → span_by vault query.medium ≡ span_in vault placed query.medium
    → ((span : Span) → IsOfSegments query span (ring_for vault query) (placed (medium_of query.medium))) → AreOfSegments query vault placed (span_in vault placed query.medium)
whole_of_segments query vault placed same each = go (span_in vault placed query.medium) same
  where
    go : (o : Option Span) → span_by vault query.medium ≡ o → AreOfSegments query vault placed o
    go None is = ap (λ (o : Option Span). budget_of (ring_for vault query) query o None) is
    go (Some span) is = (ap (λ (o : Option Span). budget_of (ring_for vault query) query o None) is, each span)
