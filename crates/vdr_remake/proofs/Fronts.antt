-- What stands before the slots of a medium, with its gate opened.
use Rattle.std.proofs.Common.{◌≡◌, inr, ℕ, zero, suc, ◌+◌, ◌*◌, ◌<◌, ◌≤◌, List, [], ◌∷◌, length, get_or, slice_get, replicate, Option, None, refl, sym, ◌∙◌, ap, subst, arith}
use Rattle.std.proofs.lemmas.List.{get_or-replicate, length-replicate}
use Rattle.vdr_terms.specs.Slots.{slot_count}
use Rattle.vdr_outside.specs.Disk.{over}
use Rattle.vdr_outside.specs.Parts.{part}
use Rattle.vdr_outside.proofs.Bytes.{length-over}
use Rattle.vdr_outside.proofs.Parts.{part_other, part_over}
use Rattle.vdr_config.specs.Configuration.{Configuration}
use Rattle.vdr_segment.specs.Gates.{open_gate}
use Rattle.vdr_segment.specs.Segments.{Segment, IsSlot}
use Rattle.vdr_segment.specs.Slots.{HoldsSlots, SameFront}
use Rattle.vdr_segment.proofs.Fronts.{front_byte}
use Rattle.vdr_media.specs.Layout.{superblock_bytes}
use Rattle.vdr_media.specs.Medium.{AreClosed, HoldsConfiguration, IsEmptyMedium, IsSuperblock}
use Rattle.vdr_media.proofs.Closing.{closed_by}
use Rattle.vdr_media.proofs.Rooms.{text_fits}
use Rattle.vdr_media.proofs.Positions.{at_other}
use Rattle.vdr_directory.specs.Sequence.{Placed}
use Rattle.vdr_remake.specs.Copies.{filled}
use Rattle.vdr_remake.specs.Remade.{IsStaged}

-- A byte at the gate

pub front_opened : (a b x : List ℕ) → length x ≡ 1 → SameFront a b → SameFront (over a 0 x) (over b 0 x)
front_opened a b x one same = record {
  size = length-over b 0 x ∙ same.size ∙ sym (length-over a 0 x);
  same = each;
}
  where
    each : (from n : ℕ) → from + n ≤ 32768 → part (over b 0 x) from n ≡ part (over a 0 x) from n
    each zero zero le = refl
    each zero (suc n) le =
        part_over b 0 (suc n) 0 0 x (omega arith) (omega (arith, one)) ∙ ap (λ (p : List ℕ). over p 0 x) (same.same 0 (suc n) le)
        ∙ sym (part_over a 0 (suc n) 0 0 x (omega arith) (omega (arith, one)))
    each (suc from) n le =
        part_other b (suc from) n 0 x (inr (omega (arith, one))) ∙ same.same (suc from) n le ∙ sym (part_other a (suc from) n 0 x (inr (omega (arith, one))))

pub slots_opened : (segment : ℕ) (slots : List (Option Segment)) (b x : List ℕ) → length x ≡ 1 → HoldsSlots segment slots b → HoldsSlots segment slots (over b 0 x)
slots_opened segment slots b x one holds = record {
  room = omega (arith, holds.room, length-over b 0 x);
  each = record {
    each = λ j d lt. subst (λ (l : List ℕ). IsSlot l (get_or slots j d)) (sym (part_other b (32768 + j * segment) segment 0 x (inr (omega (arith, one))))) (holds.each.each j d lt);
  };
}

-- The parts before the slots

superblock_kept : (kind segment : ℕ) (a b : List ℕ) → SameFront a b → IsSuperblock kind segment a → IsSuperblock kind segment b
superblock_kept kind segment a b same s = record {
  room = omega (arith, s.room, same.size);
  gate = front_byte 0 a b same (omega arith) ∙ s.gate;
  fields = same.same 1 22 (omega arith) ∙ s.fields ∙ ap (λ (n : ℕ). superblock_bytes kind n segment (slot_count segment n)) (sym same.size);
  segment_low = s.segment_low;
  segment_high = s.segment_high;
}

configuration_kept : (m : ℕ) (c : Configuration) (text a b : List ℕ) → SameFront a b → HoldsConfiguration m c text a → HoldsConfiguration m c text b
configuration_kept m c text a b same h =
    let short = text_fits text c h.reads in
    record {
      holds_text = record {
        size = same.same 12288 4 (omega arith) ∙ h.holds_text.size;
        verbatim = same.same 12292 (length text) (omega (arith, short)) ∙ h.holds_text.verbatim;
      };
      reads = h.reads;
      fits = omega (arith, h.fits, ap (λ (n : ℕ). slot_count c.segment n) same.size);
    }

incidents_kept : (a b : List ℕ) → SameFront a b → AreClosed 4096 256 32 a → AreClosed 4096 256 32 b
incidents_kept a b same closed = record {
  each = λ k lt. closed_by a b (4096 + k * 256) (front_byte (4096 + k * 256) a b same (omega (arith, lt))) (closed.each k lt);
}

-- A slot that is closed, by its gate

gate_of : (b : List ℕ) (at n : ℕ) → 1 ≤ n → slice_get (part b at n) 0 ≡ slice_get b at
gate_of [] zero (suc n) some = refl
gate_of [] (suc at) (suc n) some = refl
gate_of (y ∷ b) zero (suc n) some = refl
gate_of (y ∷ b) (suc at) (suc n) some = gate_of b at (suc n) some
gate_of b at zero some = absurd (omega (arith, some))

-- the slots of a medium that is laid out hold no segment, whatever its own gate is
pub none_held : (segment count : ℕ) (b : List ℕ) → 1 ≤ segment → 32768 + count * segment ≤ length b → AreClosed 32768 segment count (over b 0 (open_gate ∷ [])) → HoldsSlots segment (replicate count None) b
none_held segment count b some room closed = record {
  room = subst (λ (n : ℕ). 32768 + n * segment ≤ length b) (sym (length-replicate count None)) room;
  each = record {
    each = λ j d lt.
        let below : j < count = omega (arith, lt, length-replicate {A = Option Segment} count None) in
        subst (λ (s : Option Segment). IsSlot (part b (32768 + j * segment) segment) s) (sym (get_or-replicate count j None d below))
        (λ opened. closed.each j below (at_other b 0 (open_gate ∷ []) (32768 + j * segment) (inr (omega arith)) ∙ (sym (gate_of b (32768 + j * segment) segment some) ∙ opened)));
  };
}

-- All that a medium has once the segments stand behind its front

pub filled_of : (m segment count size : ℕ) (c : Configuration) (text : List ℕ) (placed : List Placed) (a b : List ℕ) → segment ≡ c.segment → count ≡ slot_count c.segment size → length a ≡ size
    → IsEmptyMedium m c text (over a 0 (open_gate ∷ [])) → SameFront a b → HoldsSlots segment (filled count placed) b → IsStaged m count c text placed b
filled_of m segment count size c text placed a b same slots long empty front holds =
    let f : SameFront (over a 0 (open_gate ∷ [])) (over b 0 (open_gate ∷ [])) = front_opened a b (open_gate ∷ []) refl front in
    let size_is : length (over b 0 (open_gate ∷ [])) ≡ size = length-over b 0 (open_gate ∷ []) ∙ front.size ∙ long in
    record {
      superblock = superblock_kept m c.segment (over a 0 (open_gate ∷ [])) (over b 0 (open_gate ∷ [])) f empty.superblock;
      holds = configuration_kept m c text (over a 0 (open_gate ∷ [])) (over b 0 (open_gate ∷ [])) f empty.holds;
      slots = ap (λ (n : ℕ). slot_count c.segment n) size_is ∙ sym slots;
      segments = slots_opened c.segment (filled count placed) b (open_gate ∷ []) refl (subst (λ (n : ℕ). HoldsSlots n (filled count placed) b) same holds);
      incidents = incidents_kept (over a 0 (open_gate ∷ [])) (over b 0 (open_gate ∷ [])) f empty.incidents;
    }
