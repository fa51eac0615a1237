-- A medium that was filled with the newest segments of another is made anew from it.
use Rattle.std.proofs.Common.{◌≡◌, ◌⊎◌, inl, inr, ◌≤◌, ℕ, List, [], length, take, drop, sym, ◌∙◌, ap, subst, arith}
use Rattle.std.specs.Prelude.{Result, IsErr}
use Rattle.std.proofs.lemmas.List.{take-append-drop}
use Rattle.vdr_terms.specs.Slots.{slot_count}
use Rattle.vdr_outside.specs.Disk.{Disk, Unchanged, content}
use Rattle.vdr_outside.specs.Moments.{AtEachMoment, Changed, ChangesOnly, Settled}
use Rattle.vdr_outside.proofs.Moments.{moments_after_reads, moments_still, moments_weaken, unchanged_now}
use Rattle.vdr_config.specs.Configuration.{Configuration}
use Rattle.vdr_directory.specs.Sequence.{Placed}
use Rattle.vdr_directory.specs.Order.{AreInOrder}
use Rattle.vdr_directory.specs.Holds.{HoldsPlaced}
use Rattle.vdr_media.specs.Writing.{HasClosedGate}
use Rattle.vdr_remake.specs.Copies.{moved}
use Rattle.vdr_remake.specs.Moments.{ClosedOr, RemakesAtEachMoment}
use Rattle.vdr_remake.specs.Remade.{IsFilledMedium, IsRemade}
use Rattle.vdr_remake.proofs.Moved.{moved_in_order, moved_placed}
use Rattle.vdr_remake.proofs.Shutting.{closed_or, whole_after}

pub remade_of : (m count n : ℕ) (c : Configuration) (text : List ℕ) (placed : List Placed) → AreInOrder placed → 4 ≤ count → (n ≡ 0) ⊎ (length (drop n placed) ≡ count) → length (drop n placed) ≤ count
    → (b : List ℕ) → IsFilledMedium m count c text (drop n placed) b → IsRemade m c text placed b
remade_of m count n c text placed order four most room b f = record {
  superblock = f.superblock;
  holds = f.holds;
  kept = drop n placed;
  newest = record { left = take n placed; split = sym (take-append-drop n placed); most = left most };
  segments = subst (λ (k : ℕ). HoldsPlaced c.segment k (moved (drop n placed)) b) (sym f.slots) (moved_placed c.segment count n placed b order room f.segments);
  order = moved_in_order n placed order (two most);
  incidents = f.incidents;
}
  where
    left : (n ≡ 0) ⊎ (length (drop n placed) ≡ count) → (take n placed ≡ []) ⊎ (length (drop n placed) ≡ slot_count c.segment (length b))
    left (inl none) = inl (ap (λ (k : ℕ). take k placed) none)
    left (inr full) = inr (full ∙ sym f.slots)

    two : (n ≡ 0) ⊎ (length (drop n placed) ≡ count) → (n ≡ 0) ⊎ (2 ≤ length (drop n placed))
    two (inl none) = inl none
    two (inr full) = inr (omega (arith, full, four))

module _ {tells tells_images : Type 0} where
  -- closed, and then filled and opened, whatever was answered
  pub remakes_after : {T E : Type 0} (m : ℕ) (Q R : List ℕ → Type 0) (old mid new : Disk tells tells_images) (r : Result T E) → ((b : List ℕ) → Q b → R b)
      → AtEachMoment old mid (λ i. old.now i ⊎ Changed m HasClosedGate old.now i) → ChangesOnly m (ClosedOr Q) mid new → RemakesAtEachMoment m R old new r
  remakes_after m Q R old mid new r to first second = record {
    moments = whole_after m Q R old mid new to first second;
    since = inr (mid.clock, first.later, second.later, λ i left. closed_or Q R to (content i m) (second.each i left).has);
  }

  -- the medium could not be closed
  pub remakes_closing : {T E : Type 0} (m : ℕ) (R : List ℕ → Type 0) (old new : Disk tells tells_images) (r : Result T E) → IsErr r
      → AtEachMoment old new (λ i. old.now i ⊎ Changed m HasClosedGate old.now i) → RemakesAtEachMoment m R old new r
  remakes_closing m R old new r failed first = record {
    moments = moments_weaken old new _ _ first (λ i p. elim p [
      | inl now ↦ inl now
      | inr c ↦ inr (record { image = c.image; was = c.was; others = c.others; has = inl c.has })
    ]);
    since = inl failed;
  }

  -- nothing was called but reads
  pub remakes_nothing : {T E : Type 0} (m : ℕ) (R : List ℕ → Type 0) (old new : Disk tells tells_images) (r : Result T E) → IsErr r → Unchanged old new → RemakesAtEachMoment m R old new r
  remakes_nothing m R old new r failed same = record { moments = moments_still old new _ same (λ i now. inl now); since = inl failed }

  pub remakes_after_reads : {T E T' E' : Type 0} (m : ℕ) (R : List ℕ → Type 0) (old mid new : Disk tells tells_images) (r : Result T E) (r' : Result T' E') → (IsErr r → IsErr r') → Unchanged old mid → RemakesAtEachMoment m R mid new r → RemakesAtEachMoment m R old new r'
  remakes_after_reads m R old mid new r r' failed same h = record {
    moments = moments_weaken old new _ _ (moments_after_reads old mid new _ same h.moments) (λ i p. elim p [
      | inl now ↦ inl (unchanged_now old mid same i now)
      | inr c ↦ inr (record { image = c.image; was = unchanged_now old mid same c.image c.was; others = c.others; has = c.has })
    ]);
    since = elim h.since [
      | inl is ↦ inl (failed is)
      | inr s ↦ inr (s.0, omega (arith, same.clock, s.1), s.2, s.3)
    ];
  }

  pub settled_weaker : (m : ℕ) (Q R : List ℕ → Type 0) (d : Disk tells tells_images) → ((b : List ℕ) → Q b → R b) → Settled m Q d → Settled m R d
  settled_weaker m Q R d to s = record { durable = s.durable; reads = λ told. to (content d.reads m) (s.reads told) }
