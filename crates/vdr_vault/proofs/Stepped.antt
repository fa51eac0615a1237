-- What a step within a part of a play leaves, reads and names.
use Rattle.std.proofs.Common.{◌≡◌, ◌<◌, inr, ℕ, ℤ, Bool, true, false, List, get_or, Option, None, Some, Result, Ok, Err, option_map, refl, sym, ap, ◌∙◌, subst, arith}
use Rattle.std.proofs.lemmas.Option.{none-some, same_Some}
use Rattle.std.specs.Prelude.{IfOk}
use Rattle.vdr_terms.specs.Records.{Record, last}
use Rattle.vdr_outside.specs.Causes.{NoneFalls, Rose}
use Rattle.vdr_outside.proofs.Counts.{sum_rose}
use Rattle.vdr_terms.specs.Queries.{Query}
use Rattle.vdr_terms.specs.Queries.Span.{Places}
use Rattle.vdr_durability.specs.Playback.{medium_of}
use Rattle.vdr_outside.specs.declared.media.Media.{Ghosts as MediaTells}
use Rattle.vdr_opening.specs.Answers.{further_on}
use Rattle.vdr_media.proofs.Members.{of_each}
use Rattle.vdr_ring.specs.Budgets.{Spends, budget}
use Rattle.vdr_ring.specs.Visits.{HasJudged}
use Rattle.vdr_ring.specs.declared.refused.ReadRefused.{ReadRefused}
use Rattle.vdr_ring.specs.declared.refused.ReadRefused.TheVariants.{Fault}
use Rattle.vdr_ring.specs.Steps.{KeepsStep, TellsDamage}
use Rattle.vdr_ring.specs.Walks.{CursorState}
use Rattle.vdr_vault.specs.declared.stretch.Stretch.{Stretch}
use Rattle.vdr_vault.specs.Keeps.{ReadsForPlay}
use Rattle.vdr_vault.specs.Plays.{HasReadCause, ring_for}
use Rattle.vdr_vault.specs.Saves.{first_in_window}
use Rattle.vdr_vault.specs.Stretches.{HasBegun, IsWindowFrom, IsWindowOf, ReadsForTurn, StepsWithin}
use Rattle.vdr_vault.specs.Vaults.{AreRings, VaultState, ring_of}
use Rattle.vdr_vault.proofs.Members.{ring_is}
use Rattle.vdr_vault.proofs.Stepping.{damaged_there, in_no_slot, on_medium, stands_on}

module _ {M : Type 0} (media : MediaTells M) (query : Query) (part : Stretch) (old new : VaultState) (from to : CursorState) (before after : M)
    (result : Result Bool ReadRefused) where
  pub steps_within : AreRings old (media.disk before).sizes → medium_of query.medium < 2
      → KeepsStep media query (Places part.next part.last) (ring_for old query) (ring_for new query) from to before after result
      → TellsDamage query (Places part.next part.last) (ring_for old query) (media.disk before) from to result
      → StepsWithin media query part old new from to before after result
  steps_within rings member keeps damage = record {
    among = λ told judged stands. stands_on (ring_for old query) (ring_for new query) (media.disk before) (media.disk after) to.visit keeps.read told
        (damage.among told (of_each (λ j. HasJudged (ring_of old j) (media.disk before)) (further_on old.rings) judged (medium_of query.medium) (omega (arith, member))) stands);
    medium = on_medium query (Places part.next part.last) old (medium_of query.medium) member (media.disk before) rings from to result damage;
    damaged = λ k offset e told judged stands.
        damaged_there query (Places part.next part.last) old (medium_of query.medium) member (media.disk before) rings from to result damage told judged stands k offset e;
    spends = subst (λ (k : ℕ). Spends k (budget (ring_for old query) query (Places part.next part.last) from.standing) (budget (ring_for new query) query (Places part.next part.last) to.standing)
        (media.bytes_read before) (media.bytes_read after) result) (ring_is rings (medium_of query.medium) (let two = rings.two in omega (arith, member, two))).medium keeps.spends;
    onward = keeps.onward;
  }

  -- Where a write had failed the cursor is a new one.
  pub steps_unstepped : to.visit.slot ≡ None → result ≡ Err Fault → after ≡ before → StepsWithin media query part old new from to before after result
  steps_unstepped nowhere is same = record {
    among = λ told judged stands. in_no_slot (ring_for new query) (media.disk after) to.visit nowhere;
    medium = λ k offset e. let no : ⊥ = cc in absurd no;
    damaged = λ k offset e told judged stands. let no : ⊥ = cc in absurd no;
    spends = subst (λ (m : M). Spends (medium_of query.medium) (budget (ring_for old query) query (Places part.next part.last) from.standing)
        (budget (ring_for new query) query (Places part.next part.last) to.standing) (media.bytes_read before) (media.bytes_read m) result) (sym same)
        (subst (λ (r : Result Bool ReadRefused). Spends (medium_of query.medium) (budget (ring_for old query) query (Places part.next part.last) from.standing)
        (budget (ring_for new query) query (Places part.next part.last) to.standing) (media.bytes_read before) (media.bytes_read before) r) (sym is) (record { within = omega arith; left = tt }));
    onward = λ e. let no : ⊥ = cc in absurd no;
  }

-- What is read for a play is read for a turn of it.
pub reads_turn : {M : Type 0} (media : MediaTells M) (m : ℕ) (old new : VaultState) (before after : M) (result : Result Bool ReadRefused) → ReadsForPlay media m old new before after result
    → ReadsForTurn media m old new before after result
reads_turn media m old new before after result h = record { failed = h.failed; counts = h.counts; cause = h.cause }

-- How a stretch begins

same_error : (r e : ReadRefused) → ◌≡◌ {A = Result Stretch ReadRefused} (Err r) (Err e) → r ≡ e
same_error r e same = cc

pub begun_error : (found : Result Bool ReadRefused) (item : Option Record) (newest : ℕ) (result : Result Stretch ReadRefused) → HasBegun found item newest result → (e : ReadRefused) → result ≡ Err e
    → found ≡ Err e
begun_error (Ok true) None newest result h e is = let r = h.1 in let no : ⊥ = cc in absurd no
begun_error (Ok true) (Some r) newest result h e is = let no : ⊥ = cc in absurd no
begun_error (Ok false) item newest result h e is = let r = h.1 in let no : ⊥ = cc in absurd no
begun_error (Err refused) item newest result h e is = ap (λ (r : ReadRefused). Err r) (same_error refused e (sym h ∙ is))

pub begun_window : (seconds : ℕ) (records : List Record) (place : ℕ) (newest : Record) → last records ≡ Some newest → place ≡ newest.place
    → (found : Result Bool ReadRefused) (item : Option Record) (result : Result Stretch ReadRefused) → HasBegun found item place result
    → ((b : Bool) → found ≡ Ok b → b ≡ true → (r : Record) → item ≡ Some r → first_in_window seconds records ≡ Some r.place) → ((b : Bool) → found ≡ Ok b → b ≡ false → ⊥)
    → (found ≡ Ok true → item ≡ None → ⊥) → IfOk result (IsWindowOf seconds records)
begun_window seconds records place newest ends at (Ok true) None result h first some there = absurd (there refl refl)
begun_window seconds records place newest ends at (Ok true) (Some r) result h first some there =
    subst (λ (x : Result Stretch ReadRefused). IfOk x (IsWindowOf seconds records)) (sym h)
    (subst (λ (o : Option Record). IsWindowFrom seconds records o (record { next = r.place; last = place })) (sym ends) (first true refl refl r refl, at))
begun_window seconds records place newest ends at (Ok false) item result h first some there = absurd (some false refl refl)
begun_window seconds records place newest ends at (Err refused) item result h first some there =
    subst (λ (x : Result Stretch ReadRefused). IfOk x (IsWindowOf seconds records)) (sym h) tt

-- Where there is no record.
pub begun_nowhere : (seconds : ℕ) (records : List Record) (s : Stretch) → last records ≡ None → s.last < s.next → IsWindowOf seconds records s
begun_nowhere seconds records s none less = subst (λ (o : Option Record). IsWindowFrom seconds records o s) (sym none) less

-- A fault that was handed on has the cause of the step's.
pub begun_cause : (m : ℕ) (before now : List ℕ) (found : Result Bool ReadRefused) (item : Option Record) (newest : ℕ) (result : Result Stretch ReadRefused) → HasBegun found item newest result
    → NoneFalls before now → (found ≡ Err Fault → Rose (get_or before m 0) (get_or now m 0)) → HasReadCause m false before now result
begun_cause m before now found item newest result h later rises = record {
  later = later;
  on_medium = λ e. inr (rises (begun_error found item newest result h Fault e));
  in_all = λ e. inr (sum_rose _ _ _ later.same_media later.none_falls (rises (begun_error found item newest result h Fault e)));
}

-- The last record, as the ring tells it.
pub newest_told : (records : List Record) (place tick : ℕ) (utc : ℤ) (told : Option (ℕ × ℕ × ℤ)) → told ≡ option_map (λ r. (r.place, r.tick, r.utc)) (last records) → told ≡ Some (place, tick, utc)
    → (newest : Record) × (last records ≡ Some newest) × ((place ≡ newest.place) × (newest.tick ≡ tick))
newest_told records place tick utc told is at = go (last records) refl
  where
    go : (o : Option Record) → last records ≡ o → (newest : Record) × (last records ≡ Some newest) × ((place ≡ newest.place) × (newest.tick ≡ tick))
    go None e = absurd (none-some (place, tick, utc) (ap (option_map (λ (r : Record). (r.place, r.tick, r.utc))) (sym e) ∙ sym is ∙ at))
    go (Some r) e =
        let same : (r.place, r.tick, r.utc) ≡ (place, tick, utc) = same_Some (r.place, r.tick, r.utc) (place, tick, utc) (ap (option_map (λ (r : Record). (r.place, r.tick, r.utc))) (sym e) ∙ sym is ∙ at) in
        (r, e, (sym (ap (λ (p : ℕ × ℕ × ℤ). p.0) same), ap (λ (p : ℕ × ℕ × ℤ). p.1) same))

pub newest_untold : (records : List Record) (told : Option (ℕ × ℕ × ℤ)) → told ≡ option_map (λ r. (r.place, r.tick, r.utc)) (last records) → told ≡ None → last records ≡ None
newest_untold records told is at = go (last records) refl
  where
    go : (o : Option Record) → last records ≡ o → last records ≡ None
    go None e = e
    go (Some r) e = absurd (none-some (r.place, r.tick, r.utc) (sym at ∙ is ∙ ap (option_map (λ (r : Record). (r.place, r.tick, r.utc))) e))

-- No write had failed.
pub worked : {T : Type 0} {m : ℕ} (failed : Bool) (before now : List ℕ) (result : Result T ReadRefused) → failed ≡ false → HasReadCause m false before now result → HasReadCause m failed before now result
worked {T} {m} failed before now result works = subst (λ (b : Bool). HasReadCause m b before now result) (sym works)
