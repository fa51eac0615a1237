-- What a visit says of damage, and that it passes over none.
use Rattle.std.proofs.Common.{◌≡◌, ℕ, Bool, false, Result, Ok, Err, refl, sym, ap, ◌∙◌, subst}
use Rattle.std.specs.Bool.{⊤}
use Rattle.std.proofs.lemmas.Option.{none-some}
use Rattle.vdr_terms.specs.Queries.{Query}
use Rattle.vdr_durability.specs.Playback.{medium_of}
use Rattle.vdr_outside.specs.declared.media.Media.{Ghosts as MediaTells}
use Rattle.vdr_outside.specs.Disk.{Disk, Unchanged}
use Rattle.vdr_outside.proofs.Moments.{unchanged_none}
use Rattle.vdr_ring.specs.Meets.{AreApart}
use Rattle.vdr_ring.specs.Visits.{StandsAmong}
use Rattle.vdr_ring.specs.declared.refused.ReadRefused.{ReadRefused}
use Rattle.vdr_ring.specs.declared.refused.ReadRefused.TheVariants as reads
use Rattle.vdr_ring.specs.Walks.{CursorState, new_cursor}
use Rattle.vdr_vault.specs.Keeps.{StepsAmong}
use Rattle.vdr_vault.specs.Plays.{AreIntactFor, ArePassedFor, ReadsOn, StandsFor, TellsDamageOf, ring_for}
use Rattle.vdr_vault.specs.Vaults.{AreJudged, VaultState}
use Rattle.vdr_vault.proofs.Stepping.{intact_over, met_over, same_index}
use Rattle.vdr_vault.specs.Refusals.{stop_by}
use Rattle.vdr_visit.specs.declared.visit_refused.VisitRefused.{VisitRefused}
use Rattle.vdr_visit.specs.declared.visit_refused.VisitRefused.TheVariants.{Damaged}
use Rattle.vdr_vault.proofs.Reading.{damaged_before}
use Rattle.vdr_vault.proofs.Stopping.{damage_of_read, not_at_end}

module _ {tells tells_images : Type 0} where
  -- What is told of damage by a visit that ends so.
  abbrev pub IsTold : {R : Type 0} → Query → VaultState → Disk tells tells_images → Result ⊤ (VisitRefused R) → Type 0
  IsTold query vault disk out = TellsDamageOf query vault disk (λ m offset. out ≡ Err (Damaged m offset)) (out ≡ Ok tt)

  -- All segments that meet the query are intact.
  abbrev pub AreWhole : Query → VaultState → Disk tells tells_images → Type 0
  AreWhole query vault disk = tells → AreJudged vault disk → AreApart (ring_for vault query).directory.index → AreIntactFor query vault disk

  -- Between two steps the cursor stands among records of a segment that meets the query, and those that it has passed are intact.
  pub record IsPassing (query : Query) (first now : VaultState) (before after : Disk tells tells_images) (cursor : CursorState) : Type 0 where
    pub among : tells → AreJudged first before → StandsAmong (ring_for now query) after cursor.visit
    pub meets : StandsFor query now cursor.standing
    pub passed : tells → AreJudged first before → AreApart (ring_for first query).directory.index → ArePassedFor query now after cursor.standing

  -- Before the first step it has passed none.
  none_passed : (query : Query) (vault : VaultState) (disk : Disk tells tells_images) → IsPassing query vault vault disk disk new_cursor
  none_passed query vault disk = record {
    among = λ told judged slot at. absurd (none-some slot at);
    meets = tt;
    passed = λ told judged apart slot seq meets behind. absurd behind;
  }

  -- nothing was done yet
  unchanged_yet : (disk : Disk tells tells_images) → Unchanged disk disk
  unchanged_yet disk = unchanged_none disk

reads_none : (m : ℕ) (vault : VaultState) → ReadsOn m vault vault
reads_none m vault = record { vault = refl; count = refl; ring = refl; others = λ k other. refl }

-- A visit that is refused is not done.
not_done : {R : Type 0} (stop : VisitRefused R) (out : Result ⊤ (VisitRefused R)) → out ≡ Err stop → out ≡ Ok tt → ⊥
not_done stop out is done = cc

module _ {tells tells_images R : Type 0} (query : Query) (vault : VaultState) (disk : Disk tells tells_images) where
  -- It ended for another reason than damage.
  pub none_told : (stop : VisitRefused R) (out : Result ⊤ (VisitRefused R)) → out ≡ Err stop → ((m offset : ℕ) → out ≡ Err (Damaged m offset) → ⊥)
      → IsTold query vault disk out
  none_told stop out is none = record {
    medium = λ m offset damage. absurd (none m offset damage);
    damaged = λ m offset damage. absurd (none m offset damage);
    met = λ m offset damage. absurd (none m offset damage);
    whole = λ done. absurd (not_done stop out is done);
  }

  -- It was done.
  pub whole_told : AreWhole query vault disk → IsTold {R = R} query vault disk (Ok tt)
  whole_told whole = record {
    medium = λ m offset damage. absurd (not_at_end m offset damage);
    damaged = λ m offset damage. absurd (not_at_end m offset damage);
    met = λ m offset damage. absurd (not_at_end m offset damage);
    whole = λ done. whole;
  }

-- A further step, after what was read since the start.
module _ {M : Type 0} {media : MediaTells M} {query : Query} {first now new : VaultState} {cursor to : CursorState} (before mid after : M)
    {result : Result Bool ReadRefused} (passing : IsPassing query first now (media.disk before) (media.disk mid) cursor)
    (reads_on : ReadsOn (medium_of query.medium) first now)
    (unchanged : Unchanged (media.disk before) (media.disk mid)) (judged : AreJudged first (media.disk before) → AreJudged now (media.disk mid))
    (steps : StepsAmong media query now new cursor to mid after result) where
  apart_now : AreApart (ring_for first query).directory.index → AreApart (ring_for now query).directory.index
  apart_now apart = subst AreApart (sym (same_index query first now reads_on)) apart

  pub passed_next : IsPassing query first new (media.disk before) (media.disk after) to
  passed_next = record {
    among = λ told was. steps.among told (judged was) (passing.among told was);
    meets = steps.meets passing.meets;
    passed = λ told was apart. steps.passed told (judged was) (apart_now apart) passing.meets (passing.passed told was apart);
  }

  -- It finds no record.
  pub whole_next : (found : Bool) → result ≡ Ok found → found ≡ false → AreWhole query first (media.disk before)
  whole_next found is none told was apart =
      intact_over query first now reads_on (media.disk before) (media.disk mid) unchanged told
      (steps.whole (is ∙ ap (λ (b : Bool). Ok b) none) told (judged was) (apart_now apart) passing.meets (passing.passed told was apart))

  -- It is refused.
  pub refused_told : {R : Type 0} (read : ReadRefused) (out : Result ⊤ (VisitRefused R)) → result ≡ Err read → out ≡ Err (stop_by read)
      → IsTold query first (media.disk before) out
  refused_told read out was is = record {
    medium = λ m offset damage. steps.medium m offset (named m offset damage);
    damaged = λ m offset damage told before_it.
        damaged_before (medium_of query.medium) first now (media.disk before) (media.disk mid) reads_on unchanged told m offset
        (steps.damaged m offset (named m offset damage) told (judged before_it) (passing.among told before_it));
    met = λ m offset damage told before_it.
        met_over query first now reads_on (media.disk before) (media.disk mid) unchanged told offset
        (steps.met m offset (named m offset damage) told (judged before_it) (passing.among told before_it) passing.meets
        (λ apart. passing.passed told before_it (subst AreApart (same_index query first now reads_on) apart)));
    whole = λ done. absurd (not_done (stop_by read) out is done);
  }
    where
      named : (m offset : ℕ) → out ≡ Err (Damaged m offset) → result ≡ Err (reads.Damaged m offset)
      named m offset damage = damage_of_read read result out was is m offset damage

-- The first step.
module _ {M : Type 0} {media : MediaTells M} {query : Query} {first new : VaultState} {to : CursorState} (before after : M) {result : Result Bool ReadRefused}
    (steps : StepsAmong media query first new new_cursor to before after result) where
  pub passed_first : IsPassing query first new (media.disk before) (media.disk after) to
  passed_first =
      passed_next before before after (none_passed query first (media.disk before)) (reads_none (medium_of query.medium) first)
      (unchanged_yet (media.disk before)) (λ judged. judged) steps

  pub whole_first : (found : Bool) → result ≡ Ok found → found ≡ false → AreWhole query first (media.disk before)
  whole_first =
      whole_next before before after (none_passed query first (media.disk before)) (reads_none (medium_of query.medium) first)
      (unchanged_yet (media.disk before)) (λ judged. judged) steps

  pub refused_first : {R : Type 0} (read : ReadRefused) (out : Result ⊤ (VisitRefused R)) → result ≡ Err read → out ≡ Err (stop_by read)
      → IsTold query first (media.disk before) out
  refused_first =
      refused_told before before after (none_passed query first (media.disk before)) (reads_none (medium_of query.medium) first)
      (unchanged_yet (media.disk before)) (λ judged. judged) steps
