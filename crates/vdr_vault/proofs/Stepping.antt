-- Which slots of a vault were judged, how a cursor stands among their records after a step, what damage that names, and what it passes over.
use Rattle.std.proofs.Common.{◌≡◌, ◌<◌, ℕ, inr, Bool, true, false, List, Option, Some, None, Result, Ok, Err, get_or, length, set, refl, sym, ap, ◌∙◌, subst, arith}
use Rattle.std.specs.Prelude.{◌+◌, ◌-◌, ◌*◌, ◌^◌}
use Rattle.std.proofs.lemmas.Bool.{false≢true}
use Rattle.std.proofs.lemmas.List.{length-set, get_or-set_other, get_or-set_same}
use Rattle.std.proofs.lemmas.Option.{IfSome_then}
use Rattle.vdr_index.specs.Positions.{IsAt, HasAhead}
use Rattle.vdr_terms.specs.Queries.{Query, Span}
use Rattle.vdr_terms.specs.Records.{Record}
use Rattle.vdr_durability.specs.Playback.{medium_of}
use Rattle.vdr_outside.specs.Causes.{Rose}
use Rattle.vdr_outside.proofs.Counts.{sum_rose}
use Rattle.vdr_outside.specs.declared.media.Media.{Ghosts as MediaTells}
use Rattle.vdr_outside.specs.Disk.{Disk, Image, SameBut, Unchanged, content}
use Rattle.vdr_terms.specs.Needs.{slots_in}
use Rattle.vdr_config.specs.Configuration.{Configuration}
use Rattle.vdr_config.specs.Sizes.{sizes_of}
use Rattle.vdr_directory.specs.Opening.{slot_bytes}
use Rattle.vdr_index.specs.declared.known.Known.{Known}
use Rattle.vdr_ring.specs.Damage.{HasDamage, IsDamagedIn, IsIntact}
use Rattle.vdr_ring.specs.Meets.{AreApart, IsKnownToMeet}
use Rattle.vdr_ring.specs.Rings.{RingState}
use Rattle.vdr_ring.specs.Visits.{HasJudged, StandsAmong, VisitState, slot_read}
use Rattle.vdr_ring.specs.declared.refused.ReadRefused.{ReadRefused}
use Rattle.vdr_ring.specs.declared.refused.ReadRefused.TheVariants.{Damaged, Fault}
use Rattle.vdr_media.proofs.Members.{of_all, of_each}
use Rattle.vdr_opening.specs.Answers.{AreJudgedOn, AreRingsOf, further_on, no_ring, ring_at}
use Rattle.vdr_opening.proofs.Rings.{judged_beside}
use Rattle.vdr_ring.specs.declared.cursor.Standing.{Standing}
use Rattle.vdr_ring.specs.Passing.{ArePassedIntact, IsPassed, StandsToMeet}
use Rattle.vdr_ring.specs.Steps.{KeepsStep, NamesDamage, TellsDamage}
use Rattle.vdr_ring.specs.Walks.{CursorState, HasRead, Slots, new_cursor, reached_in, segments_left, steps_left}
use Rattle.vdr_ring.proofs.CursorReading.{same_slots}
use Rattle.vdr_vault.specs.Vaults.{AreJudged, AreRings, IsDamagedOn, VaultState, ring_of}
use Rattle.vdr_vault.specs.Plays.{AreIntactFor, ArePassedFor, IsKnownToMeetIn, IsMetAt, MeetsFor, ReadsOn, StandsFor, ring_for, span_by}
use Rattle.vdr_vault.specs.Keeps.{ReadsForPlay, StepsAmong}
use Rattle.vdr_vault.proofs.Budgeting.{counts_on, rose_on, span_still}
use Rattle.vdr_vault.proofs.Members.{at_one, ring_is}

module _ {tells tells_images : Type 0} where
  -- no slot is loaded
  pub unloaded : (ring : RingState) (disk : Disk tells tells_images) → ring.loaded ≡ None → HasJudged ring disk
  unloaded ring disk none slot at = let no : ⊥ = cc in absurd no

  -- One medium is written, and the slot that its ring has loaded then was judged.
  pub judged_after : {c : Configuration} {sizes : List ℕ} (on : List RingState) (m : ℕ) (now : RingState) (before after : Disk tells tells_images)
      → AreRingsOf c sizes on → m < length on → HasJudged now after
      → (tells → SameBut m before.reads after.reads) → AreJudgedOn on before → AreJudgedOn (set on m now) after
  judged_after on m now before after are lt here others judged =
      let size = length-set on m now in
      let two = are.two in
      of_all (λ k. HasJudged (ring_at (set on m now) k) after) (further_on (set on m now)) (λ k inside. at_one (λ k. k < length on → HasJudged (ring_at (set on m now) k) after) m
      (λ below. subst (λ (r : RingState). HasJudged r after) (sym (get_or-set_same on m now no_ring lt)) here)
      (λ k other below. subst (λ (r : RingState). HasJudged r after) (sym (get_or-set_other on m k now no_ring other))
      (judged_beside (ring_at on k) before after (λ told. others told _ (λ is. other (sym (ring_is are k below).medium ∙ is))) (of_each (λ k. HasJudged (ring_at on k) before) (further_on on) judged k (omega (arith, below)))))
      k (omega (arith, inside, size, two)))

  -- Damage is told of what the media read as, and of their sizes.
  pub damaged_still : (c : Configuration) (disk other : Disk tells tells_images) → other.sizes ≡ disk.sizes → other.reads ≡ disk.reads → (m offset : ℕ) → IsDamagedOn c disk m offset → IsDamagedOn c other m offset
  damaged_still c disk other sizes reads m offset (member, damage) = (
    member,
    subst (λ (s : List ℕ). HasDamage c.segment (slots_in (sizes_of c) (get_or s m 0)) (content other.reads m) offset) (sym sizes)
        (subst (λ (i : Image). HasDamage c.segment (slots_in (sizes_of c) (get_or disk.sizes m 0)) (content i m) offset) (sym reads) damage),
  )

  -- a visit that stands in no slot
  pub in_no_slot : (ring : RingState) (disk : Disk tells tells_images) (visit : VisitState) → visit.slot ≡ None → StandsAmong ring disk visit
  in_no_slot ring disk visit none slot at = let no : ⊥ = cc in absurd no

  -- A ring that has read stands as before, and so a visit stands among its records.
  pub stands_on : (old new : RingState) (before now : Disk tells tells_images) (visit : VisitState) → HasRead old new before now → tells → StandsAmong old before visit → StandsAmong new now visit
  stands_on old new before now visit read told stands =
      subst (λ (s : Slots). (slot : ℕ) → visit.slot ≡ Some slot → IsAt (s slot) visit.position × (records : List Record) × HasAhead (s slot) visit.position records)
      (sym (same_slots old new before now read told)) stands

-- What a ring knows of the segments that meet a query, by its index alone.
knows_as : (query : Query) (o : Option Span) (r s : RingState) → r.directory.index ≡ s.directory.index → (slot seq : ℕ) → IsKnownToMeetIn query o r slot seq
    → IsKnownToMeetIn query o s slot seq
knows_as query None r s same slot seq h = h
knows_as query (Some span) r s same slot seq h = subst (λ (index : List (Option Known)). IsKnownToMeet query span index slot seq) same h

-- The query's medium was read, and of the vault only the buffer of its ring may have changed.
module _ (query : Query) (old new : VaultState) (reads : ReadsOn (medium_of query.medium) old new) where
  -- Its index is the same.
  pub same_index : (ring_for new query).directory.index ≡ (ring_for old query).directory.index
  same_index = ap (λ (r : RingState). r.directory.index) reads.ring

  -- The same segments meet the query.
  meets_before : (slot seq : ℕ) → MeetsFor query new slot seq → MeetsFor query old slot seq
  meets_before slot seq h = subst (λ (o : Option Span). IsKnownToMeetIn query o (ring_for old query) slot seq) (span_still old new query.medium reads)
      (knows_as query (span_by new query.medium) (ring_for new query) (ring_for old query) same_index slot seq h)

  meets_after : (slot seq : ℕ) → MeetsFor query old slot seq → MeetsFor query new slot seq
  meets_after slot seq h = subst (λ (o : Option Span). IsKnownToMeetIn query o (ring_for new query) slot seq) (sym (span_still old new query.medium reads))
      (knows_as query (span_by old query.medium) (ring_for old query) (ring_for new query) (sym same_index) slot seq h)

  module _ {tells tells_images : Type 0} (before now : Disk tells tells_images) (unchanged : Unchanged before now) (told : tells) where
    -- Each slot reads as it did.
    same_read : (slot : ℕ) → slot_read (ring_for new query) slot now ≡ slot_read (ring_for old query) slot before
    same_read slot = ap (λ (i : Image). slot_bytes (ring_for new query).segment slot (content i (ring_for new query).medium)) (unchanged.reads told)
        ∙ ap (λ (r : RingState). slot_bytes r.segment slot (content before.reads r.medium)) reads.ring

    -- What is intact then was so before.
    pub intact_over : AreIntactFor query new now → AreIntactFor query old before
    intact_over intact slot seq meets = subst IsIntact (same_read slot) (intact slot seq (meets_after slot seq meets))

    -- What is damaged then was so before.
    pub met_over : (offset : ℕ) → IsMetAt query new now offset → IsMetAt query old before offset
    met_over offset met = record {
      slot = met.slot;
      seq = met.seq;
      meets = meets_before met.slot met.seq met.meets;
      damaged = subst (λ (p : RingState × Image). IsDamagedIn p.0.segment met.slot (content p.1 p.0.medium) offset)
          (λ i. (reads.ring i, unchanged.reads told i)) met.damaged;
      first = λ apart slot seq meets less.
          subst IsIntact (same_read slot) (met.first (subst AreApart (sym same_index) apart) slot seq (meets_after slot seq meets) less);
    }

-- Damage that a step names on the ring of medium m is on that medium.
module _ {tells tells_images : Type 0} (query : Query) (span : Span) (vault : VaultState) (m : ℕ) (lt : m < 2) (disk : Disk tells tells_images)
    (rings : AreRings vault disk.sizes) (from to : CursorState) (result : Result Bool ReadRefused)
    (damage : TellsDamage query span (ring_of vault m) disk from to result) where
  pub on_medium : (k offset : ℕ) → result ≡ Err (Damaged k offset) → k ≡ m
  on_medium k offset e = damage.medium k offset e ∙ (ring_is rings m (let two = rings.two in omega (arith, lt, two))).medium

  -- The slot is one of that medium's.
  at_slot : (offset : ℕ) → NamesDamage (ring_of vault m) disk to offset → IsDamagedOn vault.config disk m offset
  at_slot offset named =
      let its = ring_is rings m (let two = rings.two in omega (arith, lt, two)) in (
        lt,
        subst (λ (p : ℕ × ℕ × ℕ). HasDamage p.0 p.1 (content disk.reads p.2) offset) (λ i. (its.segment i, its.slots i, its.medium i))
            (record { slot = named.segment.slot; within = named.within; damaged = named.damaged }),
      )

  -- That slot is not intact there.
  pub damaged_there : tells → AreJudged vault disk → StandsAmong (ring_of vault m) disk from.visit → (k offset : ℕ) → result ≡ Err (Damaged k offset)
      → IsDamagedOn vault.config disk k offset
  damaged_there told judged stands k offset e = subst (λ (j : ℕ). IsDamagedOn vault.config disk j offset) (sym (on_medium k offset e))
      (at_slot offset (damage.named k offset e told (of_each (λ j. HasJudged (ring_of vault j) disk) (further_on vault.rings) judged m (omega (arith, lt))) stands))

-- A cursor steps on the ring of the query's medium.
module _ {M : Type 0} (media : MediaTells M) (query : Query) (span : Span) (old new : VaultState) (from to : CursorState) (before after : M)
    (result : Result Bool ReadRefused) (rings : AreRings old (media.disk before).sizes) (member : medium_of query.medium < 2)
    (keeps : KeepsStep media query span (ring_for old query) (ring_for new query) from to before after result) where
  -- It reads that medium alone, and an error has its cause.
  pub reads_for_play : old.failed ≡ false → ReadsForPlay media (medium_of query.medium) old new before after result
  reads_for_play works =
      let medium = (ring_is rings (medium_of query.medium) (let two = rings.two in omega (arith, member, two))).medium in
      let counts = counts_on (medium_of query.medium) (ring_for old query).medium _ _ _ _ medium keeps.counts in
      record {
        failed = λ had. absurd (false≢true (sym works ∙ had));
        counts = counts.others;
        cause = record {
          later = counts.later;
          on_medium = λ e. inr (rose medium e);
          in_all = λ e. inr (sum_rose _ _ _ counts.later.same_media counts.later.none_falls (rose medium e));
        };
      }
    where
      rose : (ring_for old query).medium ≡ medium_of query.medium → result ≡ Err Fault
          → Rose (get_or (media.faults before) (medium_of query.medium) 0) (get_or (media.faults after) (medium_of query.medium) 0)
      rose medium e = rose_on (medium_of query.medium) (ring_for old query).medium _ _ medium (keeps.cause e)

  module _ (reads : ReadsOn (medium_of query.medium) old new) (is : span_by old query.medium ≡ Some span)
      (damage : TellsDamage query span (ring_for old query) (media.disk before) from to result) where
    -- Its slot that is loaded was judged.
    was_judged : AreJudged old (media.disk before) → HasJudged (ring_for old query) (media.disk before)
    was_judged judged = of_each (λ k. HasJudged (ring_of old k) (media.disk before)) (further_on old.rings) judged (medium_of query.medium) (omega (arith, member))

    -- The segments that meet the query, by the span that it comes to.
    to_meet : (slot seq : ℕ) → MeetsFor query old slot seq → IsKnownToMeet query span (ring_for old query).directory.index slot seq
    to_meet slot seq = subst (λ (o : Option Span). IsKnownToMeetIn query o (ring_for old query) slot seq) is

    from_meet : (slot seq : ℕ) → IsKnownToMeet query span (ring_for old query).directory.index slot seq → MeetsFor query old slot seq
    from_meet slot seq = subst (λ (o : Option Span). IsKnownToMeetIn query o (ring_for old query) slot seq) (sym is)

    -- The segment in which the cursor stood is one of them.
    stood : StandsFor query old from.standing → StandsToMeet query span (ring_for old query) from.standing
    stood stands = IfSome_then from.standing stands (λ s h. to_meet s.slot s.seq h)

    -- What the cursor has passed is intact.
    had_passed : ArePassedFor query old (media.disk before) from.standing → ArePassedIntact query span (ring_for old query) (media.disk before) from.standing
    had_passed passed slot seq meets behind = passed slot seq (from_meet slot seq meets) behind

    -- The damage is in the slot of the segment in which the cursor stands then.
    met_where : (standing : Option Standing) (segment : Standing) → standing ≡ Some segment → StandsToMeet query span (ring_for old query) standing
        → MeetsFor query old segment.slot segment.seq
    met_where standing segment at stands = from_meet segment.slot segment.seq (subst (StandsToMeet query span (ring_for old query)) at stands)

    met_at : (offset : ℕ) → NamesDamage (ring_for old query) (media.disk before) to offset → StandsToMeet query span (ring_for old query) to.standing
        → (AreApart (ring_for old query).directory.index → ArePassedIntact query span (ring_for old query) (media.disk before) to.standing)
        → IsMetAt query old (media.disk before) offset
    met_at offset named stands passed = record {
      slot = named.segment.slot;
      seq = named.segment.seq;
      meets = met_where to.standing named.segment named.stands stands;
      damaged = named.damaged;
      first = λ apart slot seq meets less.
          passed apart slot seq (to_meet slot seq meets) (subst (λ (o : Option Standing). IsPassed o seq) (sym named.stands) less);
    }

    -- The step says of damage what it says of the ring's.
    pub steps_among : StepsAmong media query old new from to before after result
    steps_among = record {
      among = λ told judged stands. stands_on (ring_for old query) (ring_for new query) (media.disk before) (media.disk after) to.visit keeps.read told
          (damage.among told (was_judged judged) stands);
      meets = λ stands. IfSome_then to.standing (damage.meets (stood stands)) (λ s h. meets_after query old new reads s.slot s.seq (from_meet s.slot s.seq h));
      passed = λ told judged apart stands passed slot seq meets behind.
          subst IsIntact (sym (same_read query old new reads (media.disk before) (media.disk after) keeps.read.unchanged told slot))
          (damage.passed told (was_judged judged) apart (stood stands) (had_passed passed) slot seq
          (to_meet slot seq (meets_before query old new reads slot seq meets)) behind);
      whole = λ over told judged apart stands passed slot seq meets.
          damage.whole over told (was_judged judged) apart (stood stands) (had_passed passed) slot seq (to_meet slot seq meets);
      medium = on_medium query span old (medium_of query.medium) member (media.disk before) rings from to result damage;
      damaged = λ k offset e told judged stands.
          damaged_there query span old (medium_of query.medium) member (media.disk before) rings from to result damage told judged stands k offset e;
      met = λ k offset e told judged stands meets passed. met_at offset (damage.named k offset e told (was_judged judged) stands) (damage.meets (stood meets))
          (λ apart. damage.passed told (was_judged judged) apart (stood meets) (had_passed (passed apart)));
      onward = keeps.onward;
    }

-- A cursor that is new.
module _ {M : Type 0} (media : MediaTells M) (query : Query) (old new : VaultState) (from to : CursorState) (before after : M)
    (result : Result Bool ReadRefused) where
  -- after a step that found no record and met no damage
  pub steps_nowhere : to.standing ≡ None → to.visit.slot ≡ None → ((k offset : ℕ) → result ≡ Err (Damaged k offset) → ⊥) → (result ≡ Ok true → ⊥)
      → (result ≡ Ok false → span_by old query.medium ≡ None) → StepsAmong media query old new from to before after result
  steps_nowhere none nowhere undamaged over nothing = record {
    among = λ told judged stands. in_no_slot (ring_for new query) (media.disk after) to.visit nowhere;
    meets = λ stands. subst (StandsFor query new) (sym none) tt;
    passed = λ told judged apart stands passed slot seq meets behind. absurd (subst (λ (o : Option Standing). IsPassed o seq) none behind);
    whole = λ over told judged apart stands passed slot seq meets.
        absurd (subst (λ (o : Option Span). IsKnownToMeetIn query o (ring_for old query) slot seq) (nothing over) meets);
    medium = λ k offset e. absurd (undamaged k offset e);
    damaged = λ k offset e told judged stands. absurd (undamaged k offset e);
    met = λ k offset e told judged stands meets passed. absurd (undamaged k offset e);
    onward = λ e. absurd (over e);
  }

  -- before one
  pub steps_first : from.standing ≡ None → from.visit.slot ≡ None → StepsAmong media query old new from to before after result
      → StepsAmong media query old new new_cursor to before after result
  steps_first none nowhere steps = record {
    among = λ told judged stands. steps.among told judged among_none;
    meets = λ stands. steps.meets stands_none;
    passed = λ told judged apart stands passed. steps.passed told judged apart stands_none passed_none;
    whole = λ over told judged apart stands passed. steps.whole over told judged apart stands_none passed_none;
    medium = steps.medium;
    damaged = λ k offset e told judged stands. steps.damaged k offset e told judged among_none;
    met = λ k offset e told judged stands meets passed. steps.met k offset e told judged among_none stands_none (λ apart. passed_none);
    onward = λ e. subst (λ (n : ℕ). steps_left to < n) (all_left from.standing from.visit none) (steps.onward e);
  }
    where
      among_none : StandsAmong (ring_for old query) (media.disk before) from.visit
      among_none = in_no_slot (ring_for old query) (media.disk before) from.visit nowhere

      stands_none : StandsFor query old from.standing
      stands_none = subst (StandsFor query old) (sym none) tt

      passed_none : ArePassedFor query old (media.disk before) from.standing
      passed_none slot seq meets behind = absurd (subst (λ (o : Option Standing). IsPassed o seq) none behind)

      all_left : (standing : Option Standing) (visit : VisitState) → standing ≡ None → segments_left standing * 2 ^ 24 + (2 ^ 24 - reached_in standing visit) ≡ steps_left new_cursor
      all_left None visit none = refl
      all_left (Some s) visit none = cc
