-- A step of a visit on a medium that reads as these segments.
use Rattle.std.proofs.Common.{◌≡◌, ◌≢◌, ◌<◌, ◌+◌, inl, inr, ⊎_elim, ℕ, Bool, true, false, List, [], ◌∷◌, ◌++◌, length, drop, flat_map, Option, Some, None, Result, Ok, Err, refl, sym, ◌∙◌, ap, subst, cond, arith}
use Rattle.std.specs.Prelude.{◌==◌, All, Contains, slice_get}
use Rattle.std.proofs.lemmas.Bool.{eqb-true, eq-eqb}
use Rattle.std.proofs.lemmas.List.{length-append, length-drop, append-nil}
use Rattle.std.proofs.lemmas.List.Elements.{All-contains, All-nil}
use Rattle.vdr_terms.specs.Records.{Record}
use Rattle.vdr_outside.specs.Disk.{Disk, Image, Unchanged, content}
use Rattle.vdr_segment.specs.Gates.{IsOpenAt}
use Rattle.vdr_segment.specs.Batches.{batch_bytes}
use Rattle.vdr_segment.specs.Segments.{Segment, IsSegment, IsSlot}
use Rattle.vdr_index.specs.declared.position.Position.{Position}
use Rattle.vdr_index.specs.declared.selection.Selection.{Selection}
use Rattle.vdr_index.specs.Positions.{front, IsAt, HasAhead}
use Rattle.vdr_index.specs.Selections.{is_selected}
use Rattle.vdr_index.proofs.StepLemmas.{left_none, front_ahead, none_ahead}
use Rattle.vdr_segment.specs.Slots.{place_of}
use Rattle.vdr_segment.proofs.Holding.{slot_of}
use Rattle.vdr_directory.specs.Sequence.{Placed, records_of}
use Rattle.vdr_ring.specs.Damage.{IsDamagedAt}
use Rattle.vdr_ring.specs.Rings.{RingState, Reads}
use Rattle.vdr_directory.specs.Opening.{slot_bytes}
use Rattle.vdr_ring.specs.Visits.{slot_read, VisitState, without_item, position_within, position_in, Steps, StepsFrom, IsAhead, AreAhead, Visits, IsLoaded}
use Rattle.vdr_ring.specs.declared.refused.ReadRefused.{ReadRefused}
use Rattle.vdr_ring.specs.declared.refused.ReadRefused.TheVariants.{Fault, Damaged}
use Rattle.vdr_directory.proofs.Placing.{slot_closed}
use Rattle.vdr_ring.proofs.Legible.{never_damaged}

-- Where a step begins

position_there : (slot : ℕ) (c : VisitState) → c.slot ≡ Some slot → position_in slot c ≡ c.position
position_there slot c e = ap (λ (o : Option ℕ). position_within slot o c.position) e ∙ ap (λ (b : Bool). cond b c.position front) (eq-eqb slot slot refl)

position_else : (slot : ℕ) (c : VisitState) → c.slot ≢ Some slot → position_in slot c ≡ front
position_else slot c not = go c.slot not
  where
    test : (s : ℕ) (b : Bool) → (s == slot) ≡ b → Some s ≢ Some slot → cond b c.position front ≡ front
    test s true e not = absurd (not (ap (λ (n : ℕ). Some n) (eqb-true s slot e)))
    test s false e not = refl

    go : (o : Option ℕ) → o ≢ Some slot → position_within slot o c.position ≡ front
    go None not = refl
    go (Some s) not = test s (s == slot) refl not

-- What is ahead there

pub front_stands : (bytes : List ℕ) (s : Segment) → IsSegment bytes s → IsAt bytes front
front_stands bytes s h =
    let b = h.batches in
    let long : length (drop 64 bytes) ≡ length (flat_map batch_bytes s.batches) + length (b.gate ∷ b.rest) = ap length b.spelled ∙ length-append (flat_map batch_bytes s.batches) (b.gate ∷ b.rest) in
    record { order = omega arith; inside = omega (arith, long, length-drop 64 bytes); left = []; here = left_none bytes 64 64 (omega arith) }

module _ (selection : Selection) (bytes : List ℕ) (placed : List Placed) (slot : ℕ) (old : VisitState) (records : List Record) where
  -- in a slot with a segment
  module _ (p : Placed) (there : Contains placed p) (is : p.slot ≡ slot) (held : IsSlot bytes (Some p.segment)) (ahead : IsAhead bytes p old records) (legible : (at : ℕ) → IsDamagedAt bytes at → ⊥) where
    begins : IsAt bytes (position_in slot old) × HasAhead bytes (position_in slot old) records
    begins =
        ⊎_elim
        (λ (h : (old.slot ≡ Some p.slot) × IsAt bytes old.position × HasAhead bytes old.position records).
        subst (λ (q : Position). IsAt bytes q × HasAhead bytes q records) (sym (position_there slot old (h.0 ∙ ap (λ (n : ℕ). Some n) is))) (h.1, h.2))
        (λ (h : (old.slot ≢ Some p.slot) × (records ≡ records_of p)).
        let here : IsAt bytes front × HasAhead bytes front records = (
          front_stands bytes p.segment held.1,
          (front_ahead bytes front records refl refl).1 (p.segment.batches, held.1.batches, h.1),
        ) in
        subst (λ (q : Position). IsAt bytes q × HasAhead bytes q records) (sym (position_else slot old (λ e. h.0 (e ∙ ap (λ (n : ℕ). Some n) (sym is))))) here)
        ahead

    same_ahead : (rs : List Record) → records ≡ rs → AreAhead bytes placed slot old rs
    same_ahead rs e = inl (p, there, is, subst (IsAhead bytes p old) e ahead)

    open_visits : (medium place : ℕ) (result : Result Bool ReadRefused) (new : VisitState) → Steps selection medium slot place bytes old result new → Visits selection bytes placed slot records result new
    open_visits medium place (Ok true) new (gate, (q, passes, starts, whole, r, over, at_slot, item)) =
        let x = (passes.ahead records).0 begins.1 in
        let k = (over.ahead x.0).0 x.2 in (
          passes.passed,
          r,
          k.0,
          x.1 ∙ ap (λ (rs : List Record). passes.passed ++ rs) k.1,
          passes.none,
          starts r k.0 (subst (HasAhead bytes q) k.1 x.2),
          item,
          inl (p, there, is, inl (at_slot ∙ ap (λ (n : ℕ). Some n) (sym is), over.stands, k.2)),
        )
    open_visits medium place (Ok false) new (inl h) = absurd (h.0 held.0)
    open_visits medium place (Ok false) new (inr (gate, stands, (passes, none, at_slot, item))) =
        let x = (passes.ahead records).0 begins.1 in
        let empty = (none x.0).0 x.2 in
        let all : records ≡ passes.passed = x.1 ∙ ap (λ (rs : List Record). passes.passed ++ rs) empty ∙ append-nil passes.passed in (
          subst (All (λ r. is_selected selection r ≡ false)) (sym all) passes.none,
          item,
          inl (p, there, is, inl (at_slot ∙ ap (λ (n : ℕ). Some n) (sym is), passes.stands, subst (HasAhead bytes new.position) empty x.2)),
        )
    open_visits medium place (Err Fault) new same =
        (ap (λ (c : VisitState). c.item) same, subst (λ (c : VisitState). AreAhead bytes placed slot c records) (sym same) (same_ahead records refl))
    open_visits medium place (Err (Damaged m offset)) new (gate, on, same, inl damaged) = legible damaged.0 damaged.1
    open_visits medium place (Err (Damaged m offset)) new (gate, on, same, inr (inl (at, q, passes, broken, is))) =
        let x = (passes.ahead records).0 begins.1 in none_ahead bytes q broken.broken x.0 x.2
    open_visits medium place (Err (Damaged m offset)) new (gate, on, same, inr (inr h)) = h.0 begins.0

  -- in a slot that is closed
  module _ (none : All (λ p. p.slot ≢ slot) placed) (held : IsSlot bytes None) (empty : records ≡ []) where
    closed_visits : (medium place : ℕ) (result : Result Bool ReadRefused) (new : VisitState) → Steps selection medium slot place bytes old result new → Visits selection bytes placed slot records result new
    closed_visits medium place (Ok true) new h = absurd (held h.0)
    closed_visits medium place (Ok false) new (inl h) = (subst (All (λ r. is_selected selection r ≡ false)) (sym empty) (All-nil (λ (r : Record). is_selected selection r ≡ false)), h.2, inr (none, refl))
    closed_visits medium place (Ok false) new (inr h) = absurd (held h.0)
    closed_visits medium place (Err Fault) new same = (ap (λ (c : VisitState). c.item) same, inr (none, empty))
    closed_visits medium place (Err (Damaged m offset)) new h = held h.0

pub step_visits : {tells tells_images : Type 0} (selection : Selection) (ring : RingState) (placed : List Placed) (disk : Disk tells tells_images) (slot place : ℕ) (old new : VisitState) (records : List Record) (result : Result Bool ReadRefused)
    → tells → slot < ring.slots → Reads ring placed disk → AreAhead (slot_read ring slot disk) placed slot old records
    → Steps selection ring.medium slot place (slot_read ring slot disk) old result new
    → Visits selection (slot_read ring slot disk) placed slot records result new
step_visits selection ring placed disk slot place old new records result told within reads ahead steps =
    let bytes : List ℕ = slot_read ring slot disk in
    let h = reads.settled.reads told in
    ⊎_elim
    (λ (k : (p : Placed) × Contains placed p × (p.slot ≡ slot) × IsAhead bytes p old records).
    let at : slice_get h.slots slot ≡ Some (Some k.0.segment) =
    subst (λ (j : ℕ). slice_get h.slots j ≡ Some (Some k.0.segment)) k.2 (All-contains (λ p. slice_get h.slots p.slot ≡ Some (Some p.segment)) placed k.0 h.sequence.there k.1) in
    open_visits selection bytes placed slot old records k.0 k.1 k.2 (slot_of ring.segment slot h.slots (Some k.0.segment) (content disk.reads ring.medium) h.holds at) k.3
    (λ at damaged. never_damaged ring placed disk slot at told within reads damaged) ring.medium place result new steps)
    (λ (k : All (λ p. p.slot ≢ slot) placed × (records ≡ [])).
    let at : slice_get h.slots slot ≡ Some None = slot_closed h.slots placed slot h.sequence (let n = h.all_slots in omega (arith, n, within)) k.0 in
    closed_visits selection bytes placed slot old records k.0 (slot_of ring.segment slot h.slots None (content disk.reads ring.medium) h.holds at) k.1 ring.medium place result new steps)
    ahead

-- A step from where the visit stands, in the slot whose bytes the buffer holds.
pub steps_on : (selection : Selection) (medium slot place : ℕ) (buffer bytes : List ℕ) (old new : VisitState) (position : Position) (found : Bool) → bytes ≡ buffer → IsOpenAt buffer 0
    → (position ≡ position_in slot old) × IsAt buffer position → StepsFrom selection slot bytes position old (Ok found) new → Steps selection medium slot place buffer old (Ok found) new
steps_on selection medium slot place buffer bytes old new position found same gate stands steps =
    let here = subst (λ (xs : List ℕ). StepsFrom selection slot xs position old (Ok found) new) same steps in
    go found (subst (λ (q : Position). IsAt buffer q × StepsFrom selection slot buffer q old (Ok found) new) stands.0 (stands.1, here))
  where
    go : (found : Bool) → IsAt buffer (position_in slot old) × StepsFrom selection slot buffer (position_in slot old) old (Ok found) new → Steps selection medium slot place buffer old (Ok found) new
    go true (at, steps) = (gate, steps)
    go false (at, steps) = inr (gate, at, steps)

-- A step in the buffer is one in the slot, once the slot is loaded.
module _ {tells tells_images : Type 0} where
  pub read_steps : (selection : Selection) (ring mid : RingState) (disk read : Disk tells tells_images) (slot : ℕ) (visit cleared new : VisitState) (result : Result Bool ReadRefused) → tells
      → mid ≡ record ring { buffer = mid.buffer; loaded = mid.loaded } → cleared ≡ without_item visit → Unchanged disk read → IsLoaded mid read → mid.loaded ≡ Some slot
      → Steps selection mid.medium slot (place_of mid.segment slot) mid.buffer cleared result new
      → Steps selection ring.medium slot (place_of ring.segment slot) (slot_read ring slot disk) visit result new
  read_steps selection ring mid disk read slot visit cleared new result told same without unchanged loaded at steps =
      let a = subst (λ (c : VisitState). Steps selection mid.medium slot (place_of mid.segment slot) mid.buffer c result new) without steps in
      let b = subst (λ (xs : List ℕ). Steps selection mid.medium slot (place_of mid.segment slot) xs visit result new) (loaded slot at told) a in
      let c = subst (λ (i : Image). Steps selection mid.medium slot (place_of mid.segment slot) (slot_bytes mid.segment slot (content i mid.medium)) visit result new) (unchanged.reads told) b in
      let d = subst (λ (m : ℕ). Steps selection m slot (place_of mid.segment slot) (slot_bytes mid.segment slot (content disk.reads m)) visit result new) (ap (λ (r : RingState). r.medium) same) c in
      subst (λ (n : ℕ). Steps selection ring.medium slot (place_of n slot) (slot_bytes n slot (content disk.reads ring.medium)) visit result new) (ap (λ (r : RingState). r.segment) same) d
