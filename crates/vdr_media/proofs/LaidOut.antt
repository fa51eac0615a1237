-- What the writes of `lay_out` make of a medium, one after another.
use Rattle.std.proofs.Common.{◌≡◌, ◌⊎◌, inl, inr, ℕ, ◌+◌, ◌*◌, ◌<◌, ◌≤◌, List, [], ◌∷◌, length, Ok, sym, ◌∙◌, ap, subst, arith}
use Rattle.vdr_bytes.specs.Numbers.{le_u32}
use Rattle.vdr_bytes.proofs.NumberLemmas.{length-le_u32}
use Rattle.vdr_terms.specs.Needs.{Fits}
use Rattle.vdr_segment.specs.Gates.{open_gate}
use Rattle.vdr_outside.specs.Disk.{over}
use Rattle.vdr_outside.specs.Parts.{part}
use Rattle.vdr_outside.proofs.Bytes.{length-over}
use Rattle.vdr_outside.proofs.Parts.{part_other}
use Rattle.vdr_config.specs.Configuration.{Configuration}
use Rattle.vdr_config.specs.Sizes.{sizes_of}
use Rattle.vdr_config.specs.Grammar.{configuration}
use Rattle.vdr_terms.specs.Slots.{slot_count}
use Rattle.vdr_media.specs.Layout.{IsClosedAt, superblock_bytes}
use Rattle.vdr_media.specs.Medium.{IsSuperblock, HoldsText, AreClosed}
use Rattle.vdr_media.specs.Writing.{HasClosedGates, IsLaidOut}
use Rattle.vdr_media.proofs.Positions.{at_other, at_one, part_written}
use Rattle.vdr_media.proofs.Closing.{closed_by}
use Rattle.vdr_media.proofs.Spelling.{length-superblock_bytes}

-- a gate that a write does not reach stays closed
closed_still : (b : List ℕ) (at : ℕ) (x : List ℕ) (p : ℕ) → (p < at) ⊎ (at + length x ≤ p) → IsClosedAt b p → IsClosedAt (over b at x) p
closed_still b at x p beside closed = closed_by b (over b at x) p (at_other b at x p beside) closed

module _ (m segment size : ℕ) (text b : List ℕ) (whole : length b ≡ size) (room : 32768 + slot_count segment size * segment ≤ size) (sized : 1 ≤ segment) (short : length text ≤ 16380) (gates : HasClosedGates segment (slot_count segment size) b) where
  fields : List ℕ
  fields = superblock_bytes m size segment (slot_count segment size)

  with_length : List ℕ
  with_length = over b 12288 (le_u32 (length text))

  with_text : List ℕ
  with_text = over with_length 12292 text

  with_fields : List ℕ
  with_fields = over with_text 1 fields

  opened : List ℕ
  opened = over with_fields 0 (open_gate ∷ [])

  length_text : length with_text ≡ size
  unfolding with_text with_length
  length_text = length-over with_length 12292 text ∙ length-over b 12288 (le_u32 (length text)) ∙ whole

  length_opened : length opened ≡ size
  unfolding opened with_fields
  length_opened = length-over with_fields 0 (open_gate ∷ []) ∙ length-over with_text 1 fields ∙ length_text

  length_fields : length fields ≡ 22
  unfolding fields
  length_fields = length-superblock_bytes m size segment (slot_count segment size)

  -- what stands behind the superblock's fields
  part_behind : (from n : ℕ) → 23 ≤ from → part opened from n ≡ part with_text from n
  unfolding opened with_fields
  part_behind from n behind =
      part_other with_fields from n 0 (open_gate ∷ []) (inr (omega (arith, behind)))
      ∙ part_other with_text from n 1 fields (inr (omega (arith, behind, length_fields)))

  text_there : HoldsText text opened
  unfolding with_text with_length
  text_there = record {
    size =
        part_behind 12288 4 (omega arith) ∙ part_other with_length 12288 4 12292 text (inl (omega arith))
        ∙ ap (λ (n : ℕ). part (over b 12288 (le_u32 (length text))) 12288 n) (sym (length-le_u32 (length text)))
        ∙ part_written b 12288 (le_u32 (length text)) (omega (arith, length-le_u32 (length text), whole, room));
    verbatim =
        part_behind 12292 (length text) (omega arith)
        ∙ part_written with_length 12292 text (omega (arith, length-over b 12288 (le_u32 (length text)), whole, room, short));
  }

  fields_there : part opened 1 22 ≡ fields
  unfolding opened with_fields
  fields_there =
      part_other with_fields 1 22 0 (open_gate ∷ []) (inr (omega arith))
      ∙ ap (λ (n : ℕ). part (over with_text 1 fields) 1 n) (sym length_fields)
      ∙ part_written with_text 1 fields (omega (arith, length_fields, length_text, room))

  -- a gate outside of all that is written
  gate_behind : (p : ℕ) → 23 ≤ p → (p < 12288) ⊎ (28672 ≤ p) → IsClosedAt b p → IsClosedAt opened p
  unfolding opened with_fields with_text with_length
  gate_behind p behind beside closed =
      closed_still with_fields 0 (open_gate ∷ []) p (inr (omega (arith, behind)))
      (closed_still with_text 1 fields p (inr (omega (arith, behind, length_fields)))
      (closed_still with_length 12292 text p (elim beside [ inl lt ↦ inl (omega (arith, lt)) | inr le ↦ inr (omega (arith, le, short)) ])
      (closed_still b 12288 (le_u32 (length text)) p (elim beside [ inl lt ↦ inl lt | inr le ↦ inr (omega (arith, le, length-le_u32 (length text))) ]) closed)))

  slots_closed : AreClosed 32768 segment (slot_count segment size) opened
  slots_closed = record {
    each = λ k lt.
        gate_behind (32768 + k * segment) (omega arith) (inr (omega arith)) (gates.segments.each k lt);
  }

  incidents_closed : AreClosed 4096 256 32 opened
  incidents_closed = record {
    each = λ k lt. gate_behind (4096 + k * 256) (omega arith) (inl (omega (arith, lt))) (gates.incidents.each k lt);
  }

  superblock_there : 8192 ≤ segment → segment ≤ 16777216 → IsSuperblock m segment opened
  unfolding opened fields
  superblock_there low high = record {
    room = omega (arith, length_opened, room);
    gate = at_one with_fields 0 open_gate (omega (arith, length_opened, length-over with_fields 0 (open_gate ∷ []), room));
    fields = fields_there ∙ ap (λ (n : ℕ). superblock_bytes m n segment (slot_count segment n)) (sym length_opened);
    segment_low = low;
    segment_high = high;
  }

  pub is_laid_out : (c : Configuration) → segment ≡ c.segment → 8192 ≤ segment → segment ≤ 16777216 → configuration text ≡ Ok c → Fits (sizes_of c) m size
      → IsLaidOut m c text (over (over (over b 12288 (le_u32 (length text))) 12292 text) 1 (superblock_bytes m size segment (slot_count segment size)))
  unfolding opened with_fields with_text with_length fields
  is_laid_out c is low high reads fits = record {
    superblock = subst (λ (s : ℕ). IsSuperblock m s opened) is (superblock_there low high);
    holds = record { holds_text = text_there; reads = reads; fits = subst (λ (n : ℕ). Fits (sizes_of c) m n) (sym length_opened) fits };
    segments = subst (λ (s : ℕ). AreClosed 32768 s (slot_count s (length opened)) opened) is (subst (λ (n : ℕ). AreClosed 32768 segment (slot_count segment n) opened) (sym length_opened) slots_closed);
    incidents = incidents_closed;
  }
