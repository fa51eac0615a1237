-- A step of a visit in a slot that was judged: where it begins, what it leaves, and what it can be refused for.
use Rattle.std.proofs.Common.{◌≡◌, ◌⊎◌, ◌+◌, ℕ, Bool, true, false, IsTrue, List, Option, Some, None, Result, Ok, Err, inl, inr, ⊎_elim, refl, sym, ap, ◌∙◌, subst, cond}
use Rattle.std.specs.Prelude.{◌==◌}
use Rattle.std.proofs.lemmas.Bool.{eqb-true}
use Rattle.std.proofs.lemmas.Option.{none-some, same_Some}
use Rattle.vdr_terms.specs.Records.{Record}
use Rattle.vdr_outside.specs.Disk.{Disk, Unchanged, content}
use Rattle.vdr_segment.specs.Gates.{IsOpenAt}
use Rattle.vdr_index.specs.declared.position.Position.{Position}
use Rattle.vdr_index.specs.declared.selection.Selection.{Selection}
use Rattle.vdr_index.specs.Positions.{front, IsAt, HasAhead}
use Rattle.vdr_index.specs.Extents.{records_in}
use Rattle.vdr_index.proofs.StepLemmas.{front_ahead, none_ahead}
use Rattle.vdr_segment.specs.Slots.{place_of}
use Rattle.vdr_directory.specs.Opening.{slot_bytes}
use Rattle.vdr_ring.specs.Damage.{IsDamagedAt, IsDamagedIn, IsIntact}
use Rattle.vdr_ring.specs.Rings.{RingState}
use Rattle.vdr_ring.specs.Visits.{slot_read, HasJudged, IsLoaded, StandsAmong, Steps, VisitState, position_in, position_within, without_item}
use Rattle.vdr_ring.specs.declared.refused.ReadRefused.{ReadRefused}
use Rattle.vdr_ring.specs.declared.refused.ReadRefused.TheVariants.{Fault, Damaged}
use Rattle.vdr_ring.proofs.Visiting.{front_stands}

-- A position between the records of a segment

abbrev pub IsAmong : List ℕ → Position → Type 0
IsAmong bytes p = IsAt bytes p × (records : List Record) × HasAhead bytes p records

front_among : (bytes : List ℕ) → IsIntact bytes → IsOpenAt bytes 0 → IsAmong bytes front
front_among bytes intact gate =
    let h = intact gate in (
      front_stands bytes (record { header = h.0; batches = h.2 }) (record { header = h.1; batches = h.3 }),
      records_in h.2,
      (front_ahead bytes front (records_in h.2) refl refl).1 (h.2, h.3, refl),
    )

module _ (bytes : List ℕ) (slot : ℕ) (from : VisitState) (intact : IsIntact bytes) (stands : from.slot ≡ Some slot → IsAmong bytes from.position) where
  begins : IsOpenAt bytes 0 → IsAmong bytes (position_in slot from)
  begins gate = go from.slot refl
    where
      test : (s : ℕ) (b : Bool) → (s == slot) ≡ b → from.slot ≡ Some s → IsAmong bytes (cond b from.position front)
      test s true e is = stands (is ∙ ap (λ (n : ℕ). Some n) (eqb-true s slot e))
      test s false e is = front_among bytes intact gate

      go : (o : Option ℕ) → from.slot ≡ o → IsAmong bytes (position_within slot o from.position)
      go None is = front_among bytes intact gate
      go (Some s) is = test s (s == slot) refl is

  -- A step leaves the visit there.
  stays_among : (selection : Selection) (medium place : ℕ) (found : Bool) (to : VisitState) → Steps selection medium slot place bytes from (Ok found) to → (s : ℕ) → to.slot ≡ Some s → (s ≡ slot) × IsAmong bytes to.position
  stays_among selection medium place true to (gate, (q, passes, starts, whole, r, over, at_slot, item)) s is =
      let b = begins gate in
      let x = (passes.ahead b.1).0 b.2 in
      let k = (over.ahead x.0).0 x.2 in
      (same_Some s slot (sym is ∙ at_slot), (over.stands, k.0, k.2))
  stays_among selection medium place false to (inl h) s is = absurd (none-some s (sym h.1 ∙ is))
  stays_among selection medium place false to (inr (gate, at, (passes, none, at_slot, item))) s is =
      let b = begins gate in
      let x = (passes.ahead b.1).0 b.2 in
      (same_Some s slot (sym is ∙ at_slot), (passes.stands, x.0, x.2))

  -- It is refused only where the slot is damaged, which it is not.
  never_refused : (selection : Selection) (medium place m offset : ℕ) (to : VisitState) → Steps selection medium slot place bytes from (Err (Damaged m offset)) to → (at : ℕ) × IsDamagedAt bytes at × (offset ≡ place + at)
  never_refused selection medium place m offset to (gate, on, same, inl damaged) = damaged
  never_refused selection medium place m offset to (gate, on, same, inr (inl (at, q, passes, broken, is))) =
      let b = begins gate in
      let x = (passes.ahead b.1).0 b.2 in
      absurd (none_ahead bytes q broken.broken x.0 x.2)
  never_refused selection medium place m offset to (gate, on, same, inr (inr h)) = absurd (h.0 (begins gate).0)

-- The slot as it is loaded

module _ {tells tells_images : Type 0} where
  module _ (ring mid : RingState) (disk read : Disk tells tells_images) (same : mid ≡ record ring { buffer = mid.buffer; loaded = mid.loaded }) (unchanged : Unchanged disk read)
      (loaded : IsLoaded ring disk → IsLoaded mid read) (slot : ℕ) (at : mid.loaded ≡ Some slot) where
    slot_same : (j : ℕ) → tells → slot_read mid j read ≡ slot_read ring j disk
    slot_same j told = λ i. slot_bytes (same i).segment j (content (unchanged.reads told i) (same i).medium)

    pub buffer_read : tells → IsLoaded ring disk → mid.buffer ≡ slot_read ring slot disk
    buffer_read told h = loaded h slot at told ∙ slot_same slot told

    module _ (held : Bool) (kept : IsTrue held → (ring.loaded ≡ Some slot) × (mid.buffer ≡ ring.buffer)) (judged : held ≡ false → IsIntact mid.buffer) where
      pub slot_intact : tells → HasJudged ring disk → IsIntact (slot_read ring slot disk)
      slot_intact told h = go held refl
        where
          go : (b : Bool) → held ≡ b → IsIntact (slot_read ring slot disk)
          go true is = (h slot (kept is).0 told).1
          go false is = subst IsIntact (buffer_read told (λ j loaded told. (h j loaded told).0)) (judged is)

      pub judged_on : HasJudged ring disk → HasJudged mid read
      judged_on h j is told = (
        loaded (λ k loaded told. (h k loaded told).0) j is told,
        subst (λ (k : ℕ). IsIntact (slot_read mid k read)) (same_Some slot j (sym at ∙ is)) (subst IsIntact (sym (slot_same slot told)) (slot_intact told h)),
      )

  -- with that slot loaded no more, or still
  pub judged_still : (mid new : RingState) (read : Disk tells tells_images) → new ≡ record mid { loaded = new.loaded } → (new.loaded ≡ mid.loaded) ⊎ (new.loaded ≡ None) → HasJudged mid read → HasJudged new read
  judged_still mid new read same left h j is told = ⊎_elim
      (λ (e : new.loaded ≡ mid.loaded).
      let k = h j (sym e ∙ is) told in
      let bytes : slot_read new j read ≡ slot_read mid j read = λ i. slot_bytes (same i).segment j (content read.reads (same i).medium) in
      (ap (λ (r : RingState). r.buffer) same ∙ k.0 ∙ sym bytes, subst IsIntact (sym bytes) k.1))
      (λ (e : new.loaded ≡ None). absurd (none-some j (sym e ∙ is)))
      left

  -- A visit that did not move.
  pub not_moved : (ring : RingState) (disk : Disk tells tells_images) (from to : VisitState) → to ≡ without_item from → StandsAmong ring disk from → StandsAmong ring disk to
  not_moved ring disk from to same stands s is =
      subst (λ (p : Position). IsAmong (slot_read ring s disk) p) (sym (ap (λ (c : VisitState). c.position) same)) (stands s (sym (ap (λ (c : VisitState). c.slot) same) ∙ is))

  module _ (ring : RingState) (disk : Disk tells tells_images) (slot : ℕ) (from to : VisitState) (selection : Selection) (result : Result Bool ReadRefused)
      (intact : IsIntact (slot_read ring slot disk)) (stands : StandsAmong ring disk from) (steps : Steps selection ring.medium slot (place_of ring.segment slot) (slot_read ring slot disk) from result to) where
    pub stands_among : StandsAmong ring disk to
    stands_among = go result steps
      where
        go : (r : Result Bool ReadRefused) → Steps selection ring.medium slot (place_of ring.segment slot) (slot_read ring slot disk) from r to → StandsAmong ring disk to
        go (Ok found) h s is =
            let k = stays_among (slot_read ring slot disk) slot from intact (stands slot) selection ring.medium (place_of ring.segment slot) found to h s is in
            subst (λ (j : ℕ). IsAmong (slot_read ring j disk) to.position) (sym k.0) k.1
        go (Err Fault) same s is = not_moved ring disk from to same stands s is
        go (Err (Damaged m offset)) h s is = not_moved ring disk from to h.2 stands s is

    pub step_damage : (m offset : ℕ) → result ≡ Err (Damaged m offset) → IsDamagedIn ring.segment slot (content disk.reads ring.medium) offset
    step_damage m offset is =
        let steps_here = subst (λ (r : Result Bool ReadRefused). Steps selection ring.medium slot (place_of ring.segment slot) (slot_read ring slot disk) from r to) is steps in
        let k = never_refused (slot_read ring slot disk) slot from intact (stands slot) selection ring.medium (place_of ring.segment slot) m offset to steps_here in
        record { at = k.0; damaged = k.1; is = k.2 }
