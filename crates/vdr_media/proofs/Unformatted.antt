-- The gate of medium 0 is closed, whatever a stop makes of that byte.
use Rattle.std.proofs.Common.{◌≡◌, ◌⊎◌, inl, inr, ℕ, ◌≤◌, List, [], ◌∷◌, length, get_or, set, refl, sym, ◌∙◌, ap, subst, arith}
use Rattle.std.proofs.lemmas.Bool.{cases_eq}
use Rattle.std.proofs.lemmas.List.{set-get_or}
use Rattle.vdr_segment.specs.Gates.{open_gate, IsOpenAt}
use Rattle.vdr_outside.specs.Disk.{Disk, Image, Durable, Elapses, Narrows, Overwritten, Unchanged, content, over, written}
use Rattle.vdr_outside.specs.Moments.{AtEachMoment}
use Rattle.vdr_outside.proofs.Images.{content_written}
use Rattle.vdr_outside.proofs.Moments.{moments_weaken, moments_none, moments_one, moments_join, moments_after_reads, moments_and_reads, unchanged_now, size_read}
use Rattle.vdr_media.specs.Answers.{KnownFormatted, KnownUnformatted}
use Rattle.vdr_media.specs.Formatted.{IsFormatted}
use Rattle.vdr_media.specs.Formatting.{ClosedAlone}
use Rattle.vdr_media.specs.Writing.{HasClosedGate}
use Rattle.vdr_media.proofs.Opening.{closed_first}

over_open : (b : List ℕ) → IsOpenAt b 0 → over b 0 (open_gate ∷ []) ≡ b
over_open [] opened = refl
over_open (y ∷ []) opened = let is : y ≡ open_gate = cc in ap (λ (z : ℕ). z ∷ []) (sym is)
over_open (y ∷ z ∷ b) opened = let is : y ≡ open_gate = cc in ap (λ (x : ℕ). x ∷ z ∷ b) (sym is)

-- an image whose gate is open is itself with an open gate
written_open : (image : Image) → IsOpenAt (content image 0) 0 → written image 0 0 (open_gate ∷ []) ≡ image
written_open image opened = ap (λ (b : List ℕ). set image 0 b) (over_open (content image 0) opened) ∙ set-get_or image 0 []

-- one byte at the gate leaves the image as it was, or unformatted
one_byte : (from : Image → Type 0) (i image : Image) (x : List ℕ) → from image → length x ≡ 1 → i ≡ written image 0 0 x → IsOpenAt (content image 0) 0 → Overwritten 0 0 1 from i → from i ⊎ ClosedAlone from i
one_byte from i image [] was one is opened o = absurd (omega (arith, one))
one_byte from i image (y ∷ []) was one is opened o = elim (cases_eq y open_gate) [
  | inl same ↦ inl (subst from (sym (is ∙ ap (λ (z : ℕ). written image 0 0 (z ∷ [])) same ∙ written_open image opened)) was)
  | inr ne ↦ inr (record {
    overwritten = o;
    unformatted = inr (subst (λ (b : List ℕ). IsOpenAt b 0 → ⊥) (sym (ap (λ (l : Image). content l 0) is ∙ content_written image 0 0 (y ∷ []))) (closed_first (content image 0) y ne));
  })
]
one_byte from i image (y ∷ z ∷ x) was one is opened o = absurd (omega (arith, one))

closed_wider : (from wider : Image → Type 0) → ((i : Image) → from i → wider i) → (i : Image) → from i ⊎ ClosedAlone from i → wider i ⊎ ClosedAlone wider i
closed_wider from wider to i (inl now) = inl (to i now)
closed_wider from wider to i (inr closed) = inr (record {
  overwritten = record {
    image = closed.overwritten.image;
    was = to closed.overwritten.image closed.overwritten.was;
    bytes = closed.overwritten.bytes;
    size = closed.overwritten.size;
    is = closed.overwritten.is;
  };
  unformatted = closed.unformatted;
})

module _ {tells tells_images : Type 0} where
  -- each image of formatted media of which nothing is unsynced has the gate open
  opened_image : (d : Disk tells tells_images) → Durable 0 d → KnownFormatted d → (i : Image) → d.now i → IsOpenAt (content i 0) 0
  opened_image d durable known i now = subst (λ (b : List ℕ). IsOpenAt b 0) (sym (durable.each i now)) (known.1 (d.shown (d.told i now)).0).gate

  -- what was read of media holds of them once they are synced
  known_synced : (old mid : Disk tells tells_images) → mid.sizes ≡ old.sizes → (tells → mid.reads ≡ old.reads) → KnownFormatted old → KnownFormatted mid
  known_synced old mid sizes reads known =
      (subst (λ (s : List ℕ). 32768 ≤ get_or s 0 0) (sym sizes) known.0, λ told. subst IsFormatted (sym (reads told)) (known.1 told))

  -- a sync, whatever it answered
  pub synced_moments : (old mid : Disk tells tells_images) → Elapses old mid → Narrows old mid → AtEachMoment old mid (λ i. old.now i ⊎ ClosedAlone old.now i)
  synced_moments old mid time narrows = moments_one old mid _ time (λ i now. inl now) (λ i now. inl (narrows i now))

  -- a sync of formatted media, and then any byte at the gate
  pub as_before_or_closed : (old mid new : Disk tells tells_images) → Elapses old mid → Narrows old mid → Durable 0 mid → mid.sizes ≡ old.sizes → (tells → mid.reads ≡ old.reads) → KnownFormatted old
      → AtEachMoment mid new (Overwritten 0 0 1 mid.now) → AtEachMoment old new (λ i. old.now i ⊎ ClosedAlone old.now i)
  as_before_or_closed old mid new time narrows durable sizes reads known closing =
      moments_join old mid new _ (synced_moments old mid time narrows)
      (moments_weaken mid new _ _ closing (λ i o.
      closed_wider mid.now old.now narrows i
      (one_byte mid.now i o.image o.bytes o.was o.size o.is (opened_image mid durable (known_synced old mid sizes reads known) o.image o.was) o)))

  pub closed_after_reads : (old mid new : Disk tells tells_images) → Unchanged old mid → AtEachMoment mid new (λ i. mid.now i ⊎ ClosedAlone mid.now i) → AtEachMoment old new (λ i. old.now i ⊎ ClosedAlone old.now i)
  closed_after_reads old mid new same moments = moments_weaken old new _ _ (moments_after_reads old mid new _ same moments) (closed_wider mid.now old.now (unchanged_now old mid same))

  -- nothing was called but reads
  pub unchanged_moments : (old new : Disk tells tells_images) → Unchanged old new → AtEachMoment old new old.now
  unchanged_moments old new same = moments_and_reads old old new _ (moments_none old _ (λ i now. now)) same

  -- what is not formatted has a closed gate, where it has one
  pub closed_as_read : (d : Disk tells tells_images) → 32768 ≤ get_or d.sizes 0 0 → KnownUnformatted d → tells → HasClosedGate (content d.reads 0)
  closed_as_read d room known told = elim (known told) [
    | inl small ↦ let size = size_read d 0 told in absurd (omega (arith, small, size, room))
    | inr closed ↦ closed
  ]
