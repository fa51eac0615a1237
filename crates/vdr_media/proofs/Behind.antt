-- Writes behind the gate of a medium, one after another.
use Rattle.std.proofs.Common.{◌≡◌, inl, ℕ, ◌+◌, ◌<◌, ◌≤◌, List, length, get_or, slice_get, Result, Ok, Err, OnOk, OnErr, refl, sym, ◌∙◌, ap, subst, arith}
use Rattle.vdr_outside.specs.Disk.{Disk, Image, content, written, InRange, Elapses, Overwritten, Tears, Narrows, SameBut}
use Rattle.vdr_outside.proofs.Images.{content_written, others_written}
use Rattle.vdr_outside.proofs.Moments.{now_after, moments_none, moments_one, moments_join, moments_weaken, moments_write}
use Rattle.vdr_media.specs.Writing.{SameGate, WritesBehindGate}
use Rattle.vdr_media.proofs.Positions.{at_other}

own_gate : (m : ℕ) (from : Image → Type 0) (i : Image) → from i → SameGate m from i
own_gate m from i was = record { image = i; was = was; others = λ k ne. refl; gate = refl }

same_gate_again : (m : ℕ) (from mid : Image → Type 0) → ((j : Image) → mid j → SameGate m from j) → (i : Image) → SameGate m mid i → SameGate m from i
same_gate_again m from mid back i s =
    let b : SameGate m from s.image = back s.image s.was in
    record { image = b.image; was = b.was; others = λ k ne. s.others k ne ∙ b.others k ne; gate = s.gate ∙ b.gate }

overwritten_gate : (m at n : ℕ) (from : Image → Type 0) → 1 ≤ at → (i : Image) → Overwritten m at n from i → SameGate m from i
overwritten_gate m at n from behind i o = record {
  image = o.image;
  was = o.was;
  others = others_written o.image i m at o.bytes o.is;
  gate = ap (λ (l : Image). slice_get (content l m) 0) o.is ∙ ap (λ (b : List ℕ). slice_get b 0) (content_written o.image m at o.bytes) ∙ at_other (content o.image m) at o.bytes 0 (inl (omega (arith, behind)));
}

-- whatever a write answered, the other media read as before
pub others_read : {tells : Type 0} {T E : Type 0} (r : Result T E) (m at : ℕ) (x : List ℕ) (old new : Image) → OnOk r (tells → new ≡ written old m at x) → OnErr r (tells → Overwritten m at (length x) (λ image. image ≡ old) new) → tells → SameBut m old new
others_read (Ok y) m at x old new reads torn told = others_written old new m at x (reads told)
others_read (Err e) m at x old new reads torn told =
    let o = torn told in
    subst (λ (from : Image). SameBut m from new) o.was (others_written o.image new m at o.bytes o.is)

-- sizes do not change
pub range_still : (first now : List ℕ) (m at n : ℕ) → now ≡ first → (m < length first) × (at + n ≤ get_or first m 0) → InRange now m at n
range_still first now m at n same range = subst (λ (sizes : List ℕ). InRange sizes m at n) (sym same) range

module _ {tells tells_images : Type 0} where
  pub behind_none : (m : ℕ) (d : Disk tells tells_images) → WritesBehindGate m d d
  behind_none m d = record {
    moments = moments_none d _ (λ i now. own_gate m d.now i now);
    others = λ told k ne. refl;
    sizes = refl;
  }

  pub behind_join : (m : ℕ) (old mid new : Disk tells tells_images) → WritesBehindGate m old mid → WritesBehindGate m mid new → WritesBehindGate m old new
  behind_join m old mid new first second = record {
    moments = moments_join old mid new _ first.moments (moments_weaken mid new _ _ second.moments (same_gate_again m old.now mid.now (now_after old mid _ first.moments)));
    others = λ told k ne. second.others told k ne ∙ first.others told k ne;
    sizes = second.sizes ∙ first.sizes;
  }

  pub behind_write : {T E : Type 0} (r : Result T E) (m at : ℕ) (x : List ℕ) (old new : Disk tells tells_images) → InRange old.sizes m at (length x) → 1 ≤ at → Elapses old new → Tears m at (length x) old new
      → OnOk r (tells → new.reads ≡ written old.reads m at x) → OnErr r (tells → Overwritten m at (length x) (λ image. image ≡ old.reads) new.reads) → new.sizes ≡ old.sizes → WritesBehindGate m old new
  behind_write r m at x old new range behind time tears reads torn sizes = record {
    moments = moments_weaken old new _ _ (moments_write old new m at (length x) range time tears) (overwritten_gate m at (length x) old.now behind);
    others = others_read r m at x old.reads new.reads reads torn;
    sizes = sizes;
  }

  pub behind_sync : (m : ℕ) (old new : Disk tells tells_images) → Elapses old new → Narrows old new → (tells → new.reads ≡ old.reads) → new.sizes ≡ old.sizes → WritesBehindGate m old new
  behind_sync m old new time narrows reads sizes = record {
    moments = moments_one old new _ time (own_gate m old.now) (λ i now. own_gate m old.now i (narrows i now));
    others = λ told k ne. ap (λ (l : Image). content l k) (reads told);
    sizes = sizes;
  }
