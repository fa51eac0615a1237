-- The gate of a medium is closed, whatever a stop makes of that byte, and it is opened last.
use Rattle.std.proofs.Common.{◌≡◌, ◌⊎◌, inl, inr, ℕ, List, [], ◌∷◌, length, set, refl, sym, ◌∙◌, ap, subst, arith}
use Rattle.std.proofs.lemmas.Bool.{cases_eq}
use Rattle.std.proofs.lemmas.List.{set-get_or}
use Rattle.vdr_segment.specs.Gates.{open_gate, IsOpenAt}
use Rattle.std.specs.Prelude.{⊤}
use Rattle.vdr_outside.specs.Disk.{Disk, Image, Durable, Elapses, Narrows, Overwritten, Unchanged, content, over, written}
use Rattle.vdr_outside.specs.Moments.{AtEachMoment, Changed, ChangesOnly, Settled}
use Rattle.vdr_outside.proofs.Images.{changed_again, content_written, others_written}
use Rattle.vdr_outside.proofs.Moments.{changes_join, changes_through, moments_after_reads, moments_join, moments_one, moments_weaken, now_after, settled_image, settled_through, unchanged_now}
use Rattle.vdr_media.specs.Writing.{HasClosedGate, WritesBehindGate}
use Rattle.vdr_media.proofs.Closing.{closed_by}
use Rattle.vdr_media.proofs.Opening.{closed_first}
use Rattle.vdr_remake.specs.Moments.{ClosedOr}

over_open : (b : List ℕ) → IsOpenAt b 0 → over b 0 (open_gate ∷ []) ≡ b
over_open [] opened = refl
over_open (y ∷ []) opened = let is : y ≡ open_gate = cc in ap (λ (z : ℕ). z ∷ []) (sym is)
over_open (y ∷ z ∷ b) opened = let is : y ≡ open_gate = cc in ap (λ (x : ℕ). x ∷ z ∷ b) (sym is)

-- one byte at the gate leaves the image as it was, or the medium closed
one_byte : (m : ℕ) (from : Image → Type 0) (i image : Image) (x : List ℕ) → from image → length x ≡ 1 → i ≡ written image m 0 x → IsOpenAt (content image m) 0 → from i ⊎ Changed m HasClosedGate from i
one_byte m from i image [] was one is opened = absurd (omega (arith, one))
one_byte m from i image (y ∷ []) was one is opened = elim (cases_eq y open_gate) [
  | inl same ↦ inl (subst from (sym (is ∙ ap (λ (z : ℕ). written image m 0 (z ∷ [])) same ∙ ap (λ (b : List ℕ). set image m b) (over_open (content image m) opened) ∙ set-get_or image m [])) was)
  | inr ne ↦ inr (record {
    image = image;
    was = was;
    others = others_written image i m 0 (y ∷ []) is;
    has = subst HasClosedGate (sym (ap (λ (l : Image). content l m) is ∙ content_written image m 0 (y ∷ []))) (closed_first (content image m) y ne);
  })
]
one_byte m from i image (y ∷ z ∷ x) was one is opened = absurd (omega (arith, one))

wider : (m : ℕ) (P : List ℕ → Type 0) (from more : Image → Type 0) → ((i : Image) → from i → more i) → (i : Image) → from i ⊎ Changed m P from i → more i ⊎ Changed m P more i
wider m P from more to i (inl now) = inl (to i now)
wider m P from more to i (inr c) = inr (record { image = c.image; was = to c.image c.was; others = c.others; has = c.has })

module _ {tells tells_images : Type 0} where
  pub synced_moments : (m : ℕ) (old mid : Disk tells tells_images) → Elapses old mid → Narrows old mid → AtEachMoment old mid (λ i. old.now i ⊎ Changed m HasClosedGate old.now i)
  synced_moments m old mid time narrows = moments_one old mid _ time (λ i now. inl now) (λ i now. inl (narrows i now))

  -- a sync, a read of the gate, and then any byte there
  pub closing_moments : (m : ℕ) (old mid read new : Disk tells tells_images) → Elapses old mid → Narrows old mid → Durable m mid → Unchanged mid read → (tells → IsOpenAt (content mid.reads m) 0)
      → AtEachMoment read new (Overwritten m 0 1 read.now) → AtEachMoment old new (λ i. old.now i ⊎ Changed m HasClosedGate old.now i)
  closing_moments m old mid read new time narrows durable same opened closing =
      moments_join old mid new _ (synced_moments m old mid time narrows)
      (moments_weaken mid new _ _ (moments_after_reads mid read new _ same closing) (λ i o.
      let now : mid.now o.image = unchanged_now mid read same o.image o.was in
      wider m HasClosedGate mid.now old.now narrows i
      (one_byte m mid.now i o.image o.bytes now o.size o.is
      (subst (λ (b : List ℕ). IsOpenAt b 0) (sym (durable.each o.image now)) (opened (mid.shown (mid.told o.image now)).0)))))

-- The gate is opened last

either : (Q : List ℕ → Type 0) (b x : List ℕ) → length x ≡ 1 → Q (over b 0 (open_gate ∷ [])) → ClosedOr Q (over b 0 x)
either Q b [] one whole = absurd (omega (arith, one))
either Q b (y ∷ []) one whole = elim (cases_eq y open_gate) [
  | inl is ↦ inr (subst (λ (z : ℕ). Q (over b 0 (z ∷ []))) (sym is) whole)
  | inr ne ↦ inl (closed_first b y ne)
]
either Q b (y ∷ z ∷ x) one whole = absurd (omega (arith, one))

module _ {tells tells_images : Type 0} (m : ℕ) (Q : List ℕ → Type 0) (old mid : Disk tells tells_images) (behind : WritesBehindGate m old mid) where
  pub still_closed : Settled m HasClosedGate old → ChangesOnly m (ClosedOr Q) old mid
  still_closed closed = moments_weaken old mid _ _ behind.moments (λ i s. record {
    image = s.image;
    was = s.was;
    others = s.others;
    has = inl (closed_by (content s.image m) (content i m) 0 s.gate (settled_image m HasClosedGate old closed s.image s.was));
  })

  module _ (new : Disk tells tells_images) (second : AtEachMoment mid new (Overwritten m 0 1 mid.now)) (staged : Settled m (λ b. Q (over b 0 (open_gate ∷ []))) mid) where
    pub opened_moments : Settled m HasClosedGate old → ChangesOnly m (ClosedOr Q) old new
    opened_moments closed = changes_join m _ old mid new (still_closed closed) (changes_through m 0 1 _ _ mid new staged second (λ b x is size one. either Q b x one is))

    pub opened_done : Durable m new → (tells → content new.reads m ≡ over (content mid.reads m) 0 (open_gate ∷ [])) → Settled m Q new
    opened_done durable reads = settled_through m 0 (open_gate ∷ []) _ _ mid new staged durable reads (λ b is size. is)

pub closed_or : (Q R : List ℕ → Type 0) → ((b : List ℕ) → Q b → R b) → (b : List ℕ) → ClosedOr Q b → ClosedOr R b
closed_or Q R to b (inl closed) = inl closed
closed_or Q R to b (inr whole) = inr (to b whole)

-- The medium is closed first, and then it changes
pub whole_after : {tells tells_images : Type 0} (m : ℕ) (Q R : List ℕ → Type 0) (old mid new : Disk tells tells_images) → ((b : List ℕ) → Q b → R b)
    → AtEachMoment old mid (λ i. old.now i ⊎ Changed m HasClosedGate old.now i) → ChangesOnly m (ClosedOr Q) mid new → AtEachMoment old new (λ i. old.now i ⊎ Changed m (ClosedOr R) old.now i)
whole_after m Q R old mid new to first second =
    moments_join old mid new _ (moments_weaken old mid _ _ first (λ i p. elim p [
      | inl now ↦ inl now
      | inr c ↦ inr (record { image = c.image; was = c.was; others = c.others; has = inl c.has })
    ]))
    (moments_weaken mid new _ _ second (λ i c. inr (changed_again m (λ b. HasClosedGate b ⊎ ⊤) (ClosedOr R) old.now mid.now back i (record { image = c.image; was = c.was; others = c.others; has = closed_or Q R to (content i m) c.has }))))
  where
    back : (j : Image) → mid.now j → Changed m (λ b. HasClosedGate b ⊎ ⊤) old.now j
    back j now = elim (now_after old mid _ first j now) [
      | inl was ↦ record { image = j; was = was; others = λ k ne. refl; has = inr tt }
      | inr c ↦ record { image = c.image; was = c.was; others = c.others; has = inl c.has }
    ]
