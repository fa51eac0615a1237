-- What a stop leaves of a medium's slots while one of them is written.
use Rattle.std.proofs.Common.{◌≡◌, ◌≢◌, inl, inr, ℕ, ◌+◌, ◌*◌, ◌<◌, ◌≤◌, List, [], ◌∷◌, ◌++◌, length, set, drop, slice_get, Option, None, Some, refl, sym, ◌∙◌, ap, subst, arith}
use Rattle.std.proofs.Math.Nat.{mul-le-mul_right}
use Rattle.std.proofs.lemmas.Bool.{cases_eq}
use Rattle.std.proofs.lemmas.List.{set_past}
use Rattle.std.proofs.lemmas.Option.{slice_get_cases, slice_get_within}
use Rattle.vdr_outside.specs.Disk.{Disk, Overwritten, Durable, content, over}
use Rattle.vdr_outside.specs.Moments.{AtEachMoment, ChangesOnly, Settled}
use Rattle.vdr_outside.specs.Parts.{part}
use Rattle.vdr_outside.proofs.Moments.{changes_through, changes_join, settled_through}
use Rattle.vdr_outside.proofs.Parts.{part_over}
use Rattle.vdr_segment.specs.Gates.{open_gate, closed_gate}
use Rattle.vdr_segment.specs.Segments.{Segment, IsSlot}
use Rattle.vdr_segment.specs.Slots.{HoldsSlots, HoldsEither, place_of, slots_closed}
use Rattle.vdr_segment.proofs.Gates.{from_write, gate_closed}
use Rattle.vdr_segment.proofs.Segments.{slot_again}
use Rattle.vdr_segment.proofs.Holding.{slot_of, slot_long, holds_over, holds_still, holds_past}

-- The gate of a slot is closed.
module _ (segment j at : ℕ) (slots : List (Option Segment)) (place : at ≡ place_of segment j) (some : 1 ≤ segment) where
  -- a slot that the list doesn't reach
  behind_all : length slots ≤ j → 32768 + length slots * segment ≤ at
  behind_all past = let le : length slots * segment ≤ j * segment = mul-le-mul_right segment past in omega (arith, le, place)

  closed_now : (b : List ℕ) (y : ℕ) → y ≢ open_gate → HoldsSlots segment slots b → HoldsSlots segment (slots_closed slots j) (over b at (y ∷ []))
  closed_now b y ne holds = elim (slice_get_cases slots j).1 [
    | inl within ↦ holds_over segment slots b j 0 at (y ∷ []) None holds within.1 (omega (arith, place)) (omega (arith, some)) (gate_closed (part b (place_of segment j) segment) y ne)
    | inr past ↦ subst (λ (l : List (Option Segment)). HoldsSlots segment l (over b at (y ∷ []))) (sym (set_past slots j None past.0)) (holds_past segment slots b at (y ∷ []) holds (behind_all past.0))
  ]

  -- an open gate that is written open
  open_still : (b : List ℕ) → slice_get slots j ≢ Some None → HoldsSlots segment slots b → HoldsSlots segment slots (over b at (open_gate ∷ []))
  open_still b not_closed holds = elim (slice_get_cases slots j).1 [
    | inl within ↦ held within.0 within.2
    | inr past ↦ holds_past segment slots b at (open_gate ∷ []) holds (behind_all past.0)
  ]
    where
      held : (o : Option Segment) → slice_get slots j ≡ Some o → HoldsSlots segment slots (over b at (open_gate ∷ []))
      held None is = absurd (not_closed is)
      held (Some s) is =
          holds_still segment slots b j 0 at (open_gate ∷ []) (Some s) holds is (omega (arith, place)) (omega (arith, some))
          (slot_again (part b (place_of segment j) segment) s (slot_of segment j slots (Some s) b holds is))

  as_before_or_closed : (b x : List ℕ) → slice_get slots j ≢ Some None → HoldsSlots segment slots b → length x ≡ 1 → HoldsEither segment slots (slots_closed slots j) (over b at x)
  as_before_or_closed b [] not_closed holds one = absurd (omega (arith, one))
  as_before_or_closed b (y ∷ []) not_closed holds one = elim (cases_eq y open_gate) [
    | inl is ↦ inl (subst (λ (z : ℕ). HoldsSlots segment slots (over b at (z ∷ []))) (sym is) (open_still b not_closed holds))
    | inr ne ↦ inr (closed_now b y ne holds)
  ]
  as_before_or_closed b (y ∷ z ∷ x) not_closed holds one = absurd (omega (arith, one))

  module _ {tells tells_images : Type 0} (m : ℕ) (old new : Disk tells tells_images) (settled : Settled m (HoldsSlots segment slots) old) where
    pub close_moments : slice_get slots j ≢ Some None → AtEachMoment old new (Overwritten m at 1 old.now) → ChangesOnly m (HoldsEither segment slots (slots_closed slots j)) old new
    close_moments not_closed moments = changes_through m at 1 _ _ old new settled moments (λ b x holds size one. as_before_or_closed b x not_closed holds one)

    pub close_settled : Durable m new → (tells → content new.reads m ≡ over (content old.reads m) at (closed_gate ∷ [])) → Settled m (HoldsSlots segment (slots_closed slots j)) new
    close_settled durable reads = settled_through m at (closed_gate ∷ []) _ _ old new settled durable reads (λ b holds size. closed_now b closed_gate (omega arith) holds)

-- A body is written behind a closed gate, at k from the beginning of slot j, and then the gate is opened. While it is closed the slot
-- is what it was before, whatever stands behind it; once it is open it is what comes after.
module _ (segment j k at : ℕ) (slots : List (Option Segment)) (before after : Option Segment) (body gate : List ℕ) (place : at ≡ place_of segment j + k) (fits : k + 1 + length body ≤ segment) (held : slice_get slots j ≡ Some before)
    (opened : gate ≡ open_gate ∷ [])
    (behind : (p x : List ℕ) → length x ≡ length body → IsSlot p before → IsSlot (over p (k + 1) x) before)
    (closes : (p : List ℕ) (y : ℕ) → y ≢ open_gate → IsSlot p before → IsSlot (over p k (y ∷ [])) before)
    (opens : (p rest : List ℕ) → length p ≡ segment → drop (k + 1) p ≡ body ++ rest → IsSlot p before → IsSlot (over p k (open_gate ∷ [])) after) where
  still : (b x : List ℕ) → HoldsSlots segment slots b → length x ≡ length body → HoldsSlots segment slots (over b (at + 1) x)
  still b x holds long =
      holds_still segment slots b j (k + 1) (at + 1) x before holds held (omega (arith, place)) (omega (arith, fits, long))
      (behind (part b (place_of segment j) segment) x long (slot_of segment j slots before b holds held))

  -- the body stands behind the gate
  record Ready (b : List ℕ) : Type 0 where
    pub holds : HoldsSlots segment slots b
    pub rest : List ℕ
    pub staged : drop (k + 1) (part b (place_of segment j) segment) ≡ body ++ rest

  ready : (b : List ℕ) → HoldsSlots segment slots b → Ready (over b (at + 1) body)
  ready b holds =
      let p : List ℕ = part b (place_of segment j) segment in
      let long : length p ≡ segment = slot_long segment j slots b holds (slice_get_within slots j before held) in
      record {
        holds = still b body holds refl;
        rest = drop (k + 1 + length body) p;
        staged =
            ap (λ (l : List ℕ). drop (k + 1) l) (part_over b (place_of segment j) segment (k + 1) (at + 1) body (omega (arith, place)) (omega (arith, fits)))
            ∙ from_write p (k + 1) body (omega (arith, fits, long));
      }

  counts : (b : List ℕ) → Ready b → HoldsSlots segment (set slots j after) (over b at (open_gate ∷ []))
  counts b r =
      let lt : j < length slots = slice_get_within slots j before held in
      holds_over segment slots b j k at (open_gate ∷ []) after r.holds lt place (omega (arith, fits))
      (opens (part b (place_of segment j) segment) r.rest (slot_long segment j slots b r.holds lt) r.staged (slot_of segment j slots before b r.holds held))

  -- whatever the gate's byte is
  as_before_or_after : (b x : List ℕ) → Ready b → length x ≡ 1 → HoldsEither segment slots (set slots j after) (over b at x)
  as_before_or_after b [] r one = absurd (omega (arith, one))
  as_before_or_after b (y ∷ []) r one = elim (cases_eq y open_gate) [
    | inl is ↦ inr (subst (λ (z : ℕ). HoldsSlots segment (set slots j after) (over b at (z ∷ []))) (sym is) (counts b r))
    | inr ne ↦ inl (holds_still segment slots b j k at (y ∷ []) before r.holds held place (omega (arith, fits))
        (closes (part b (place_of segment j) segment) y ne (slot_of segment j slots before b r.holds held)))
  ]
  as_before_or_after b (y ∷ z ∷ x) r one = absurd (omega (arith, one))

  module _ {tells tells_images : Type 0} (m : ℕ) (old mid : Disk tells tells_images) (settled : Settled m (HoldsSlots segment slots) old) (first : AtEachMoment old mid (Overwritten m (at + 1) (length body) old.now)) where
    pub body_moments : ChangesOnly m (HoldsEither segment slots (set slots j after)) old mid
    body_moments = changes_through m (at + 1) (length body) _ _ old mid settled first (λ b x holds size long. inl (still b x holds long))

    module _ (durable : Durable m mid) (reads : tells → content mid.reads m ≡ over (content old.reads m) (at + 1) body) (new : Disk tells tells_images) where
      settled_ready : Settled m Ready mid
      settled_ready = settled_through m (at + 1) body _ _ old mid settled durable reads (λ b holds size. ready b holds)

      pub gate_moments : AtEachMoment mid new (Overwritten m at (length gate) mid.now) → ChangesOnly m (HoldsEither segment slots (set slots j after)) old new
      gate_moments second =
          changes_join m _ old mid new body_moments
          (changes_through m at (length gate) _ _ mid new settled_ready second (λ b x r size one. as_before_or_after b x r (one ∙ ap length opened)))

      pub gate_settled : Durable m new → (tells → content new.reads m ≡ over (content mid.reads m) at gate) → Settled m (HoldsSlots segment (set slots j after)) new
      gate_settled durable_now reads_now =
          settled_through m at (open_gate ∷ []) _ _ mid new settled_ready durable_now (λ told. reads_now told ∙ ap (λ (x : List ℕ). over (content mid.reads m) at x) opened) (λ b r size. counts b r)
