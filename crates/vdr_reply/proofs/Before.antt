-- The text of the configuration is read before an incident is visited: what is said of the media behind that read is so of the media before.
use Rattle.std.proofs.Common.{◌≡◌, ◌<◌, ◌≤◌, ◌⊎◌, ◌++◌, ◌∷◌, inl, inr, ⊎_elim, ℕ, Bool, false, List, [], length, get_or, refl, sym, ◌∙◌, subst, arith}
use Rattle.std.specs.Prelude.{sum}
use Rattle.vdr_core.specs.Histories.{Act, Event, Opening, incidents}
use Rattle.vdr_core.specs.Histories.Act.{Look}
use Rattle.vdr_durability.specs.Keeping.{RiseFrom, ShowsPrefix}
use Rattle.vdr_durability.proofs.Kept.{keeps_still}
use Rattle.vdr_outside.specs.Causes.{NoneFalls, Rose}
use Rattle.vdr_outside.specs.Disk.{Disk, Image, Unchanged, content}
use Rattle.vdr_outside.specs.declared.fault.PartRefused.{PartRefused}
use Rattle.vdr_outside.specs.declared.fault.PartRefused.TheVariants as parts
use Rattle.vdr_outside.proofs.Counts.{none_falls_join, rose_after, sum_not_less}
use Rattle.vdr_outside.proofs.Moments.{moments_after_reads, moments_weaken, unchanged_now}
use Rattle.vdr_config.specs.Configuration.{Selector}
use Rattle.vdr_media.specs.Medium.{HoldsText}
use Rattle.vdr_media.proofs.Rooms.{text_fits}
use Rattle.vdr_media.proofs.Members.{of_each}
use Rattle.vdr_media.specs.Formatted.{members}
use Rattle.vdr_opening.specs.Answers.{further_on}
use Rattle.vdr_opening.specs.Media.{HasFront}
use Rattle.vdr_opening.specs.Parts.{HasRoomBefore}
use Rattle.vdr_opening.proofs.ContentsHeld.{one_text}
use Rattle.vdr_ring.specs.Openings.{IsRingOf}
use Rattle.vdr_vault.specs.Calls.{SameElsewhere}
use Rattle.vdr_vault.specs.Vaults.{AreRings, HoldsHistory, ShowsHistory, VaultState, ring_of}
use Rattle.vdr_vault.proofs.ShownHistory.{stands_still}
use Rattle.vdr_visit.specs.Refusals.{lacks_incident}
use Rattle.vdr_control.specs.Orders.PlainOrder.{Evidence as EvidenceOrder}
use Rattle.vdr_recorder.specs.Recordings.{HasRecorded, RecorderState}
use Rattle.vdr_recorder.specs.Watched.{DoneAndTold, IsWatched, Watched}
use Rattle.vdr_teller.specs.Evidence.{save_heading, save_query}
use Rattle.vdr_reply.specs.Answers.{HasAnswered, HasOrderCause, Spells}
use Rattle.vdr_reply.specs.Orders.{evidence_lines}
use Rattle.vdr_reply.specs.Texts.{part_line}
use Rattle.vdr_reply.proofs.Answered.{still_answer}
use Rattle.vdr_reply.proofs.Told.{and_false, no_memory_answer}

-- ---- the text

-- There is room for it on the capsule.
pub room_before : (vault : VaultState) (sizes : List ℕ) → AreRings vault sizes → HasRoomBefore 0 sizes
room_before vault sizes rings =
    let its = of_each (λ k. IsRingOf vault.config sizes k (ring_of vault k)) (further_on vault.rings) rings.each 0 (omega arith) in
    let there = its.room.there in
    let room = its.room.room in
    record {
      there = subst (λ (m : ℕ). m < length sizes) its.medium there;
      room = subst (λ (m : ℕ). 32768 ≤ get_or sizes m 0) its.medium (omega (arith, room));
    }

-- The one that the capsule holds is the history's.
module _ {tells tells_images : Type 0} (opening : Opening) (events : List Event) (t0 : ℕ) (r : RecorderState) (disk : Disk tells tells_images) (h : HasRecorded opening events t0 r disk) (works : r.vault.failed ≡ false) (told : tells) where
  front : HasFront 0 r.vault.config opening.settings.text (content disk.reads 0)
  front =
      let s = (h.works works).standing in
      (of_each (λ m. HoldsHistory opening events r.vault.config m (ring_of r.vault m) (s.placed m) disk) (further_on r.vault.rings) s.stands.media 0 (omega arith)).front told

  short : length opening.settings.text ≤ 16380
  short = text_fits opening.settings.text r.vault.config front.configured.reads

  pub heading_now : (id : ℕ) (text heading : List ℕ) → HoldsText text (content disk.reads 0) → length text ≤ 16380 → heading ≡ save_heading text r.vault.table id
      → heading ≡ save_heading opening.settings.text (incidents opening events) id
  heading_now id text heading holds brief is =
      let same : text ≡ opening.settings.text = one_text text opening.settings.text (content disk.reads 0) holds front.configured.holds_text brief short in
      is ∙ (λ i. save_heading (same i) ((h.works works).standing.stands.incidents_are i) id)

  pub has_text : ((text : List ℕ) → length text ≤ 16380 → HoldsText text (content disk.reads 0) → ⊥) → ⊥
  has_text none = none opening.settings.text short front.configured.holds_text

-- ---- media that were read alone

-- With another cause of a fault.
spelled_so : (A B : Type 0) (id : ℕ) (said text : List ℕ) → (A → B) → Spells A (EvidenceOrder id) said text → Spells B (EvidenceOrder id) said text
spelled_so A B id said text so (inl h) = inl h
spelled_so A B id said text so (inr (inl h)) = inr (inl (h.0, so h.1))
spelled_so A B id said text so (inr (inr h)) = inr (inr h)

module _ {tells tells_images : Type 0} (old mid : Disk tells tells_images) (same : Unchanged old mid) where
  pub rings_still : (vault : VaultState) → AreRings vault old.sizes → AreRings vault mid.sizes
  rings_still vault rings = subst (λ (sizes : List ℕ). AreRings vault sizes) (sym same.sizes) rings

  pub elsewhere_before : (reads : Image) → (tells → SameElsewhere members mid.reads reads) → tells → SameElsewhere members old.reads reads
  elsewhere_before reads others told = subst (λ (image : Image). SameElsewhere members image reads) (same.reads told) (others told)

  pub recorded_still : (opening : Opening) (events : List Event) (t0 : ℕ) (r : RecorderState) → HasRecorded opening events t0 r old → HasRecorded opening events t0 r mid
  recorded_still opening events t0 r h = record {
    history = h.history;
    made = h.made;
    failed = h.failed;
    told = h.told;
    rises = subst (λ (clock : ℕ). RiseFrom t0 clock events) (sym same.clock) h.rises;
    kept = keeps_still (ShowsHistory opening) events t0 old mid same h.kept;
    works = λ goes. let w = h.works goes in record {
      standing = record { placed = w.standing.placed; first = w.standing.first; stands = stands_still opening events r.vault w.standing.placed old mid same w.standing.stands; media = w.standing.media };
      open_is = w.open_is;
      makes = w.makes;
    };
  }

  pub watched_still : {hears : Type 0} (w : Watched) (r : RecorderState) → IsWatched hears w r old → IsWatched hears w r mid
  watched_still w r watched heard told x holds sound =
      let h = watched heard told x holds sound in
      record { events = h.events; has = recorded_still _ h.events w.synced r h.has; told = h.told }

  pub done_before : {hears : Type 0} (opening : Opening) (events : List Event) (t0 : ℕ) (act : Act) (r : RecorderState) (new : Disk tells tells_images) (was now : Watched)
      → DoneAndTold hears opening events t0 act r mid new was now → DoneAndTold hears opening events t0 act r old new was now
  done_before opening events t0 act r new was now d =
      let shown : Image → Type 0 = λ image. ShowsPrefix (ShowsHistory opening) (events ++ d.done.event ∷ []) 0 image in
      record {
        done = record {
          event = d.done.event;
          act_is = d.done.act_is;
          moment_is = d.done.moment_is;
          has = d.done.has;
          passes = moments_after_reads old mid new (λ image. old.now image ⊎ shown image) same
              (moments_weaken mid new (λ image. mid.now image ⊎ shown image) (λ image. old.now image ⊎ shown image) d.done.passes
              (λ image. ⊎_elim (λ left. inl (unchanged_now old mid same image left)) (λ shows. inr shows)));
        };
        told = d.told;
      }

  pub answered_before : {hears : Type 0} (channels : List Selector) (A B : Type 0) (opening : Opening) (events : List Event) (t0 : ℕ) (id : ℕ) (text : List ℕ) (r after : RecorderState) (new : Disk tells tells_images) (was now : Watched)
      → (A → B) → HasAnswered channels A opening events t0 (EvidenceOrder id) text r after mid new hears was now
      → HasAnswered channels B opening events t0 (EvidenceOrder id) text r after old new hears was now
  answered_before channels A B opening events t0 id text r after new was now so a = record {
    done = done_before opening events t0 _ after new was now a.done;
    answer = record { act_is = a.answer.act_is; gauged = a.answer.gauged; text_is = spelled_so A B id _ text so a.answer.text_is };
  }

-- ---- the causes

pub rose_since : (was mid now : List ℕ) → NoneFalls was mid → Rose (sum mid) (sum now) → Rose (sum was) (sum now)
rose_since was mid now falls rose = rose_after (sum was) (sum mid) (sum now) (sum_not_less was mid falls.same_media falls.none_falls) rose

pub order_cause : (failed after : Bool) (was mid now : List ℕ) → NoneFalls was mid → HasOrderCause failed after mid now → HasOrderCause failed after was now
order_cause failed after was mid now falls c = record {
  later = none_falls_join was mid now falls c.later;
  rose = λ fails. ⊎_elim (λ before. inl before) (λ rose. inr (rose_since was mid now falls rose)) (c.rose fails);
  stays = c.stays;
}

pub read_cause : (failed : Bool) (was mid : List ℕ) → NoneFalls was mid → HasOrderCause failed failed was mid
read_cause failed was mid falls = record { later = falls; rose = λ fails. inl fails; stays = λ fails. fails }

-- ---- where the text could not be read

module _ {tells tells_images : Type 0} (opening : Opening) (events : List Event) (t0 : ℕ) (r : RecorderState) (disk : Disk tells tells_images) (h : HasRecorded opening events t0 r disk)
    (met_fault : Type 0) (text : List ℕ) (hears : Type 0) (was heard : Watched) (works : r.vault.failed ≡ false) (id : ℕ) where
  pub part_answer : (part : PartRefused) → text ≡ part_line part → ((m offset : ℕ) → part ≡ parts.Damaged m offset → ⊥) → (part ≡ parts.Fault → met_fault)
      → lacks_incident r.vault.table (save_query id).medium ≡ false → DoneAndTold hears opening events t0 Look r disk disk was heard
      → HasAnswered r.vault.config.channels met_fault opening events t0 (EvidenceOrder id) text r r disk disk hears was heard
  part_answer parts.NoMemory is undamaged fault lives d =
      no_memory_answer opening events t0 r disk h met_fault text hears was heard works (EvidenceOrder id) (save_query id) (evidence_lines opening events id) (refl, λ records. refl) d lives is
  part_answer (parts.Damaged m offset) is undamaged fault lives d = absurd (undamaged m offset refl)
  part_answer parts.Fault is undamaged fault lives d =
      still_answer opening events t0 r disk h r.vault.config.channels met_fault text hears was heard (EvidenceOrder id) d (and_false r.vault.failed) (inl refl) (inr (inl (is, fault refl)))
