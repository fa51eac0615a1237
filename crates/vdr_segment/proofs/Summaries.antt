-- A summary that is written into the header of a segment that has none.
use Rattle.std.proofs.Common.{◌≡◌, ◌≢◌, ℕ, ◌+◌, ◌≤◌, List, [], ◌∷◌, ◌++◌, length, take, drop, slice_get, inl, Option, None, Some, refl, sym, ◌∙◌, ap, subst, arith, append_assoc}
use Rattle.std.proofs.lemmas.List.{length-take, drop-drop, drop-take, take-take}
use Rattle.std.proofs.lemmas.Option.{same_Some}
use Rattle.vdr_terms.proofs.Bytes.{part_long}
use Rattle.vdr_bytes.specs.Numbers.{le_u64s}
use Rattle.vdr_bytes.proofs.PutsLemmas.{length-le_u64s}
use Rattle.vdr_bytes.proofs.NumberLemmas.{drop-front, take-front}
use Rattle.vdr_entry.specs.declared.summary.Summary.{Summary}
use Rattle.vdr_outside.specs.Disk.{Disk, Overwritten, Durable, content, over}
use Rattle.vdr_outside.specs.Moments.{AtEachMoment, ChangesOnly, Settled}
use Rattle.vdr_outside.proofs.Bytes.{length-over}
use Rattle.vdr_outside.proofs.Parts.{part_other}
use Rattle.vdr_segment.specs.declared.header.Header.{Header}
use Rattle.vdr_segment.specs.Gates.{open_gate, IsOpenAt}
use Rattle.vdr_segment.specs.Headers.{FitsSummary, IsHeader, TellsSummary, summary_bytes}
use Rattle.vdr_segment.specs.Segments.{Segment, IsSegment, IsSlot, with_summary}
use Rattle.vdr_segment.proofs.GateLemmas.{open_behind, open_within}
use Rattle.vdr_segment.proofs.HeaderLemmas.{length-header, length-summary_bytes, length-told}
use Rattle.vdr_segment.proofs.ChangeLemmas.{summarized}
use Rattle.vdr_segment.specs.Slots.{HoldsSlots, HoldsEither, place_of, slots_with_summary}
use Rattle.vdr_segment.proofs.Fronts.{byte_of}
use Rattle.vdr_segment.proofs.Gates.{before_write, from_write, gate_before}
use Rattle.vdr_segment.proofs.Writes.{body_moments, gate_moments, gate_settled}

first_byte : (b : List ℕ) → slice_get (take 45 b) 0 ≡ slice_get b 0
first_byte [] = refl
first_byte (y ∷ b) = refl

-- A segment without a summary

-- its header, and the closed gate of its summary
module _ (p : List ℕ) (h : Header) (i : IsHeader (take 64 p) h) where
  long_enough : 64 ≤ length p
  long_enough = omega (arith, length-header (take 64 p) h i, length-take 64 p)

  part_is : take 45 (drop 17 p) ≡ i.part
  part_is =
      let numbers : List ℕ = le_u64s (h.seq ∷ h.first ∷ []) in
      let head : List ℕ = i.gate ∷ numbers in
      let long : length head ≡ 17 = omega (arith, length-le_u64s (h.seq ∷ h.first ∷ [])) in
      sym (take-take 45 47 (drop 17 p) (omega arith))
      ∙ ap (λ (xs : List ℕ). take 45 xs) (sym (drop-take 17 47 p))
      ∙ ap (λ (xs : List ℕ). take 45 (drop 17 xs)) (i.spelled ∙ ap (λ (xs : List ℕ). i.gate ∷ xs) (append_assoc numbers i.part (0 ∷ 0 ∷ [])))
      ∙ ap (λ (xs : List ℕ). take 45 xs) (drop-front 17 head (i.part ++ 0 ∷ 0 ∷ []) long)
      ∙ take-front 45 i.part (0 ∷ 0 ∷ []) (length-told i.part h.summary i.told)

  gate_closed_there : h.summary ≡ None → IsOpenAt p 17 → ⊥
  gate_closed_there none opened =
      let told : TellsSummary i.part None = subst (λ (o : Option Summary). TellsSummary i.part o) none i.told in
      told.1 (sym (ap (λ (xs : List ℕ). slice_get xs 0) part_is) ∙ first_byte (drop 17 p) ∙ open_behind p 17 0 opened)

-- what is told behind a gate that is closed
untold : (new : List ℕ) → 64 ≤ length new → (IsOpenAt new 17 → ⊥) → TellsSummary (take 45 (drop 17 new)) None
untold new long closed = (part_long 17 45 new (omega (arith, long)), λ o. closed (open_within new 17 0 (sym (first_byte (drop 17 new)) ∙ o)))

none_still : (s : Segment) → s.header.summary ≡ None → with_summary s None ≡ s
none_still s none = ap (λ (o : Option Summary). with_summary s o) (sym none)

-- the bytes behind the summary
behind_body : (p x : List ℕ) → length x ≡ 44 → 64 ≤ length p → drop 62 (over p 18 x) ≡ drop 62 p
behind_body p x size long =
    sym (drop-drop 44 18 (over p 18 x)) ∙ ap (λ (xs : List ℕ). drop 44 xs) (from_write p 18 x (omega (arith, size, long))) ∙ drop-front 44 x (drop (18 + length x) p) size ∙ ap (λ (n : ℕ). drop (18 + n) p) size

behind_gate : (p : List ℕ) (y : ℕ) → 64 ≤ length p → drop 62 (over p 17 (y ∷ [])) ≡ drop 62 p
behind_gate p y long =
    sym (drop-drop 45 17 (over p 17 (y ∷ []))) ∙ ap (λ (xs : List ℕ). drop 45 xs) (from_write p 17 (y ∷ []) (omega (arith, long))) ∙ drop-drop 44 18 p

-- Writes in its slot

-- behind the closed gate
pub summary_behind : (p x : List ℕ) (s : Segment) → s.header.summary ≡ None → length x ≡ 44 → IsSlot p (Some s) → IsSlot (over p 18 x) (Some s)
summary_behind p x s none size is =
    let long : 64 ≤ length p = long_enough p s.header is.1.header in
    let new : List ℕ = over p 18 x in
    let byte : slice_get new 17 ≡ slice_get p 17 = sym (byte_of new 17) ∙ ap (λ (xs : List ℕ). slice_get xs 0) (part_other p 17 1 18 x (inl (omega arith))) ∙ byte_of p 17 in
    let told : TellsSummary (take 45 (drop 17 new)) None = untold new (omega (arith, long, length-over p 18 x)) (λ o. gate_closed_there p s.header is.1.header none (sym byte ∙ o)) in (
      subst (λ (T : Type 0). T) (sym (gate_before p 18 x (omega arith))) is.0,
      subst (λ (t : Segment). IsSegment new t) (none_still s none) (summarized p new s None is.1 tt (before_write p 17 18 x (omega arith)) told (behind_body p x size long)),
    )

-- the gate with another byte that closes it
pub summary_reclosed : (p : List ℕ) (y : ℕ) (s : Segment) → s.header.summary ≡ None → y ≢ open_gate → IsSlot p (Some s) → IsSlot (over p 17 (y ∷ [])) (Some s)
summary_reclosed p y s none ne is =
    let long : 64 ≤ length p = long_enough p s.header is.1.header in
    let new : List ℕ = over p 17 (y ∷ []) in
    let from : drop 17 new ≡ y ∷ drop 18 p = from_write p 17 (y ∷ []) (omega (arith, long)) in
    let told : TellsSummary (take 45 (drop 17 new)) None =
    untold new (omega (arith, long, length-over p 17 (y ∷ []))) (λ o. ne (same_Some y open_gate (sym (ap (λ (xs : List ℕ). slice_get xs 0) from) ∙ open_behind new 17 0 o))) in (
      subst (λ (T : Type 0). T) (sym (gate_before p 17 (y ∷ []) (omega arith))) is.0,
      subst (λ (t : Segment). IsSegment new t) (none_still s none) (summarized p new s None is.1 tt (before_write p 17 17 (y ∷ []) (omega arith)) told (behind_gate p y long)),
    )

-- the gate opened, with the summary behind it
pub summary_counts : (p body rest : List ℕ) (s : Segment) (summary : Summary) → FitsSummary summary → body ≡ summary_bytes summary → drop 18 p ≡ body ++ rest → IsSlot p (Some s)
    → IsSlot (over p 17 (open_gate ∷ [])) (Some (with_summary s (Some summary)))
summary_counts p body rest s summary fits is_body staged is =
    let long : 64 ≤ length p = long_enough p s.header is.1.header in
    let new : List ℕ = over p 17 (open_gate ∷ []) in
    let told : take 45 (drop 17 new) ≡ open_gate ∷ summary_bytes summary =
    ap (λ (xs : List ℕ). take 45 xs) (from_write p 17 (open_gate ∷ []) (omega (arith, long)))
    ∙ ap (λ (xs : List ℕ). open_gate ∷ take 44 xs) (staged ∙ ap (λ (xs : List ℕ). xs ++ rest) is_body)
    ∙ ap (λ (xs : List ℕ). open_gate ∷ xs) (take-front 44 (summary_bytes summary) rest (length-summary_bytes summary)) in (
      subst (λ (T : Type 0). T) (sym (gate_before p 17 (open_gate ∷ []) (omega arith))) is.0,
      summarized p new s (Some summary) is.1 fits (before_write p 17 17 (open_gate ∷ []) (omega arith)) told (behind_gate p open_gate long),
    )

-- Both writes

module _ (segment j at : ℕ) (slots : List (Option Segment)) (s : Segment) (summary : Summary) (body : List ℕ) (place : at ≡ place_of segment j + 17) (enough : 65 ≤ segment) (held : slice_get slots j ≡ Some (Some s))
    (none : s.header.summary ≡ None) (is : body ≡ summary_bytes summary) (fits : FitsSummary summary)
    {tells tells_images : Type 0} (m : ℕ) (old mid : Disk tells tells_images) (settled : Settled m (HoldsSlots segment slots) old) (first : AtEachMoment old mid (Overwritten m (at + 1) (length body) old.now)) where
  size : length body ≡ 44
  size = ap length is ∙ length-summary_bytes summary

  within : 17 + 1 + length body ≤ segment
  within = omega (arith, size, enough)

  behind : (p x : List ℕ) → length x ≡ length body → IsSlot p (Some s) → IsSlot (over p (17 + 1) x) (Some s)
  behind p x long slot = summary_behind p x s none (long ∙ size) slot

  closes : (p : List ℕ) (y : ℕ) → y ≢ open_gate → IsSlot p (Some s) → IsSlot (over p 17 (y ∷ [])) (Some s)
  closes p y ne slot = summary_reclosed p y s none ne slot

  opens : (p rest : List ℕ) → length p ≡ segment → drop (17 + 1) p ≡ body ++ rest → IsSlot p (Some s) → IsSlot (over p 17 (open_gate ∷ [])) (Some (with_summary s (Some summary)))
  opens p rest long staged slot = summary_counts p body rest s summary fits is staged slot

  pub written_moments : ChangesOnly m (HoldsEither segment slots (slots_with_summary slots j s summary)) old mid
  written_moments = body_moments segment j 17 at slots (Some s) _ body (open_gate ∷ []) place within held refl behind closes opens m old mid settled first

  module _ (durable : Durable m mid) (reads : tells → content mid.reads m ≡ over (content old.reads m) (at + 1) body) (new : Disk tells tells_images) where
    pub summary_moments : AtEachMoment mid new (Overwritten m at 1 mid.now) → ChangesOnly m (HoldsEither segment slots (slots_with_summary slots j s summary)) old new
    summary_moments second =
        gate_moments segment j 17 at slots (Some s) _ body (open_gate ∷ []) place within held refl behind closes opens m old mid settled first durable reads new second

    pub summary_settled : Durable m new → (tells → content new.reads m ≡ over (content mid.reads m) at (open_gate ∷ [])) → Settled m (HoldsSlots segment (slots_with_summary slots j s summary)) new
    summary_settled durable_now reads_now =
        gate_settled segment j 17 at slots (Some s) _ body (open_gate ∷ []) place within held refl behind closes opens m old mid settled first durable reads new durable_now reads_now
