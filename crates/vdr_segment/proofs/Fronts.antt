-- What stands before the slots of a medium, at every moment of a write behind it.
use Rattle.std.proofs.Common.{◌≡◌, inl, ℕ, zero, suc, ◌<◌, ◌≤◌, List, [], ◌∷◌, slice_get, refl, sym, ◌∙◌, ap, subst, arith}
use Rattle.vdr_outside.specs.Disk.{Disk, Image, Overwritten, Durable, content, over, written}
use Rattle.vdr_outside.specs.Moments.{AtEachMoment, Changed, ChangesOnly, Settled}
use Rattle.vdr_outside.specs.Parts.{part}
use Rattle.vdr_outside.proofs.Bytes.{length-over}
use Rattle.vdr_outside.proofs.Images.{content_written}
use Rattle.vdr_outside.proofs.Moments.{changes_join, changes_none, changes_through, moments_weaken}
use Rattle.vdr_outside.proofs.Parts.{part_other}
use Rattle.vdr_segment.specs.Slots.{SameFront}

pub front_same : (b : List ℕ) → SameFront b b
front_same b = record { size = refl; same = λ from n le. refl }

pub front_joined : (a b c : List ℕ) → SameFront a b → SameFront b c → SameFront a c
front_joined a b c first second = record {
  size = second.size ∙ first.size;
  same = λ from n le. second.same from n le ∙ first.same from n le;
}

pub byte_of : (b : List ℕ) (at : ℕ) → slice_get (part b at 1) 0 ≡ slice_get b at
byte_of [] zero = refl
byte_of [] (suc at) = refl
byte_of (y ∷ b) zero = refl
byte_of (y ∷ b) (suc at) = byte_of b at

pub front_byte : (at : ℕ) (a b : List ℕ) → SameFront a b → at < 32768 → slice_get b at ≡ slice_get a at
front_byte at a b same lt = sym (byte_of b at) ∙ ap (λ (p : List ℕ). slice_get p 0) (same.same at 1 (omega (arith, lt))) ∙ byte_of a at

front_over : (b : List ℕ) (at : ℕ) (x : List ℕ) → 32768 ≤ at → SameFront b (over b at x)
front_over b at x behind = record {
  size = length-over b at x;
  same = λ from n le. part_other b from n at x (inl (omega (arith, le, behind)));
}

-- What a medium reads as after a write behind its front, done or failed

pub front_written : (m at : ℕ) (x : List ℕ) (old new : Image) → 32768 ≤ at → new ≡ written old m at x → SameFront (content old m) (content new m)
front_written m at x old new behind is =
    subst (λ (b : List ℕ). SameFront (content old m) b) (sym (ap (λ (i : Image). content i m) is ∙ content_written old m at x)) (front_over (content old m) at x behind)

pub front_torn : (m at n : ℕ) (old new : Image) → 32768 ≤ at → Overwritten m at n (λ image. image ≡ old) new → SameFront (content old m) (content new m)
front_torn m at n old new behind torn =
    subst (λ (i : Image). SameFront (content i m) (content new m)) torn.was (front_written m at torn.bytes torn.image new behind torn.is)

module _ {tells tells_images : Type 0} (m : ℕ) where
  -- a medium of which nothing is unsynced
  settled_front : (old : Disk tells tells_images) → Durable m old → Settled m (SameFront (content old.reads m)) old
  settled_front old durable = record { durable = durable; reads = λ told. front_same (content old.reads m) }

  -- before the first call
  pub front_none : (d : Disk tells tells_images) → Durable m d → ChangesOnly m (SameFront (content d.reads m)) d d
  front_none d durable = changes_none m _ d (λ i now. subst (λ (b : List ℕ). SameFront b (content i m)) (durable.each i now) (front_same (content i m)))

  -- a write and its sync
  pub front_through : (at n : ℕ) (old new : Disk tells tells_images) → 32768 ≤ at → Durable m old → AtEachMoment old new (Overwritten m at n old.now) → ChangesOnly m (SameFront (content old.reads m)) old new
  front_through at n old new behind durable moments =
      changes_through m at n _ _ old new (settled_front old durable) moments
      (λ b x same size long. front_joined (content old.reads m) b (over b at x) same (front_over b at x behind))

  -- one call after another
  pub front_then : (old mid new : Disk tells tells_images) → ChangesOnly m (SameFront (content old.reads m)) old mid → (tells → SameFront (content old.reads m) (content mid.reads m)) → ChangesOnly m (SameFront (content mid.reads m)) mid new
      → ChangesOnly m (SameFront (content old.reads m)) old new
  front_then old mid new first reads second = changes_join m _ old mid new first (moments_weaken mid new _ _ second again)
    where
      again : (i : Image) → Changed m (SameFront (content mid.reads m)) mid.now i → Changed m (SameFront (content old.reads m)) mid.now i
      again i c = record {
        image = c.image;
        was = c.was;
        others = c.others;
        has = front_joined (content old.reads m) (content mid.reads m) (content i m) (reads (mid.shown (mid.told c.image c.was)).0) c.has;
      }
