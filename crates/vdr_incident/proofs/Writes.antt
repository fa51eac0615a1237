-- What a stop leaves of the incident slots while one of them is written.
use Rattle.std.proofs.Common.{◌≡◌, ◌≢◌, inl, inr, ℕ, ◌+◌, ◌<◌, List, [], ◌∷◌, ◌++◌, length, set, drop, slice_get, Option, None, Some, refl, sym, ◌∙◌, ap, subst, arith}
use Rattle.std.proofs.lemmas.Bool.{cases_eq}
use Rattle.std.proofs.lemmas.Option.{slice_get_within}
use Rattle.vdr_core.specs.Histories.{Incident}
use Rattle.vdr_outside.specs.Disk.{Disk, Overwritten, Durable, content, over}
use Rattle.vdr_outside.specs.Moments.{AtEachMoment, ChangesOnly, Settled}
use Rattle.vdr_outside.specs.Parts.{part}
use Rattle.vdr_outside.proofs.Moments.{changes_through, changes_join, settled_through}
use Rattle.vdr_outside.proofs.Parts.{part_over}
use Rattle.vdr_segment.specs.Gates.{open_gate, closed_gate}
use Rattle.vdr_segment.proofs.Gates.{from_write}
use Rattle.vdr_incident.specs.Saves.{SpellsSave}
use Rattle.vdr_incident.specs.Tables.{HoldsTable, HoldsBeside, HoldsEither, place_of}
use Rattle.vdr_incident.proofs.Slot.{closed_behind, closed_now, open_still, opened}
use Rattle.vdr_incident.proofs.Holding.{slot_of, slot_long, holds_over, holds_still, beside_none, beside_over}

module _ {tells tells_images : Type 0} where
  -- what was read at the entry
  settled_beside : (j slots : ℕ) (table : List (Option Incident)) (old : Disk tells tells_images) → Settled 1 (HoldsTable slots table) old → Settled 1 (HoldsBeside j slots table (content old.reads 1)) old
  settled_beside j slots table old settled = record {
    durable = settled.durable;
    reads = λ told. record { holds = settled.reads told; beside = beside_none j (content old.reads 1) };
  }

-- The gate of an open slot.
module _ (slots j at : ℕ) (table : List (Option Incident)) (was : List ℕ) (x : Incident) (place : at ≡ place_of j) (held : slice_get table j ≡ Some (Some x)) where
  close : (b : List ℕ) (y : ℕ) → y ≢ open_gate → HoldsBeside j slots table was b → HoldsBeside j slots (set table j None) was (over b at (y ∷ []))
  close b y ne h = record {
    holds = holds_over slots table b j 0 at (y ∷ []) None h.holds (slice_get_within table j (Some x) held) (omega (arith, place)) (omega arith) (closed_now (part b (place_of j) 256) y ne);
    beside = beside_over j 0 at was b (y ∷ []) h.beside (omega (arith, place)) (omega arith);
  }

  as_before_or_closed : (b z : List ℕ) → HoldsBeside j slots table was b → length z ≡ 1 → HoldsEither j slots table (set table j None) was (over b at z)
  as_before_or_closed b [] h one = absurd (omega (arith, one))
  as_before_or_closed b (y ∷ []) h one = elim (cases_eq y open_gate) [
    | inl is ↦ inl (subst (λ (g : ℕ). HoldsBeside j slots table was (over b at (g ∷ []))) (sym is) (record {
      holds = holds_still slots table b j 0 at (open_gate ∷ []) (Some x) h.holds held (omega (arith, place)) (omega arith)
          (open_still (part b (place_of j) 256) x (slot_of slots j table (Some x) b h.holds held));
      beside = beside_over j 0 at was b (open_gate ∷ []) h.beside (omega (arith, place)) (omega arith);
    }))
    | inr ne ↦ inr (close b y ne h)
  ]
  as_before_or_closed b (y ∷ z ∷ zs) h one = absurd (omega (arith, one))

module _ {tells tells_images : Type 0} (slots j at : ℕ) (table : List (Option Incident)) (x : Incident) (place : at ≡ place_of j) (held : slice_get table j ≡ Some (Some x)) (old new : Disk tells tells_images) (settled : Settled 1 (HoldsTable slots table) old) where
  pub close_moments : AtEachMoment old new (Overwritten 1 at 1 old.now) → ChangesOnly 1 (HoldsEither j slots table (set table j None) (content old.reads 1)) old new
  close_moments moments =
      changes_through 1 at 1 _ _ old new (settled_beside j slots table old settled) moments (λ b z h size one. as_before_or_closed slots j at table (content old.reads 1) x place held b z h one)

  pub close_settled : Durable 1 new → (tells → content new.reads 1 ≡ over (content old.reads 1) at (closed_gate ∷ [])) → Settled 1 (HoldsBeside j slots (set table j None) (content old.reads 1)) new
  close_settled durable reads =
      settled_through 1 at (closed_gate ∷ []) _ _ old new (settled_beside j slots table old settled) durable reads (λ b h size. close slots j at table (content old.reads 1) x place held b closed_gate (omega arith) h)

-- A body behind a closed gate, and then the gate.
module _ (slots j at : ℕ) (table : List (Option Incident)) (was : List ℕ) (x : Incident) (body : List ℕ) (place : at ≡ place_of j) (long : length body ≡ 97) (held : slice_get table j ≡ Some None) (spells : SpellsSave body x) where
  still : (b z : List ℕ) → HoldsBeside j slots table was b → length z ≡ length body → HoldsBeside j slots table was (over b (at + 1) z)
  still b z h same = record {
    holds = holds_still slots table b j 1 (at + 1) z None h.holds held (omega (arith, place)) (omega (arith, long, same)) (closed_behind (part b (place_of j) 256) z (slot_of slots j table None b h.holds held));
    beside = beside_over j 1 (at + 1) was b z h.beside (omega (arith, place)) (omega (arith, long, same));
  }

  -- the body stands behind the gate
  record Ready (b : List ℕ) : Type 0 where
    pub table_held : HoldsBeside j slots table was b
    pub rest : List ℕ
    pub staged : drop 1 (part b (place_of j) 256) ≡ body ++ rest

  ready : (b : List ℕ) → HoldsBeside j slots table was b → Ready (over b (at + 1) body)
  ready b h =
      let p : List ℕ = part b (place_of j) 256 in
      let size : length p ≡ 256 = slot_long slots j table b h.holds (slice_get_within table j None held) in
      record {
        table_held = still b body h refl;
        rest = drop (1 + length body) p;
        staged =
            ap (λ (l : List ℕ). drop 1 l) (part_over b (place_of j) 256 1 (at + 1) body (omega (arith, place)) (omega (arith, long)))
            ∙ from_write p 1 body (omega (arith, long, size));
      }

  counts : (b : List ℕ) → Ready b → HoldsBeside j slots (set table j (Some x)) was (over b at (open_gate ∷ []))
  counts b r =
      let lt : j < length table = slice_get_within table j None held in
      let size : length (part b (place_of j) 256) ≡ 256 = slot_long slots j table b r.table_held.holds lt in
      record {
        holds = holds_over slots table b j 0 at (open_gate ∷ []) (Some x) r.table_held.holds lt (omega (arith, place)) (omega arith)
            (opened (part b (place_of j) 256) body r.rest x (omega (arith, size)) r.staged spells);
        beside = beside_over j 0 at was b (open_gate ∷ []) r.table_held.beside (omega (arith, place)) (omega arith);
      }

  -- whatever the gate's byte is
  as_before_or_after : (b z : List ℕ) → Ready b → length z ≡ 1 → HoldsEither j slots table (set table j (Some x)) was (over b at z)
  as_before_or_after b [] r one = absurd (omega (arith, one))
  as_before_or_after b (y ∷ []) r one = elim (cases_eq y open_gate) [
    | inl is ↦ inr (subst (λ (g : ℕ). HoldsBeside j slots (set table j (Some x)) was (over b at (g ∷ []))) (sym is) (counts b r))
    | inr ne ↦ inl (record {
      holds = holds_still slots table b j 0 at (y ∷ []) None r.table_held.holds held (omega (arith, place)) (omega arith) (closed_now (part b (place_of j) 256) y ne);
      beside = beside_over j 0 at was b (y ∷ []) r.table_held.beside (omega (arith, place)) (omega arith);
    })
  ]
  as_before_or_after b (y ∷ z ∷ zs) r one = absurd (omega (arith, one))

module _ {tells tells_images : Type 0} (slots j at : ℕ) (table : List (Option Incident)) (x : Incident) (body : List ℕ) (place : at ≡ place_of j) (long : length body ≡ 97) (held : slice_get table j ≡ Some None) (spells : SpellsSave body x)
    (old mid : Disk tells tells_images) (settled : Settled 1 (HoldsTable slots table) old) (first : AtEachMoment old mid (Overwritten 1 (at + 1) (length body) old.now)) where
  pub body_moments : ChangesOnly 1 (HoldsEither j slots table (set table j (Some x)) (content old.reads 1)) old mid
  body_moments =
      changes_through 1 (at + 1) (length body) _ _ old mid (settled_beside j slots table old settled) first
      (λ b z h size same. inl (still slots j at table (content old.reads 1) x body place long held spells b z h same))

  module _ (durable : Durable 1 mid) (reads : tells → content mid.reads 1 ≡ over (content old.reads 1) (at + 1) body) (new : Disk tells tells_images) where
    settled_ready : Settled 1 (Ready slots j at table (content old.reads 1) x body place long held spells) mid
    settled_ready =
        settled_through 1 (at + 1) body _ _ old mid (settled_beside j slots table old settled) durable reads (λ b h size. ready slots j at table (content old.reads 1) x body place long held spells b h)

    pub gate_moments : AtEachMoment mid new (Overwritten 1 at 1 mid.now) → ChangesOnly 1 (HoldsEither j slots table (set table j (Some x)) (content old.reads 1)) old new
    gate_moments second =
        changes_join 1 _ old mid new body_moments
        (changes_through 1 at 1 _ _ mid new settled_ready second (λ b z r size one. as_before_or_after slots j at table (content old.reads 1) x body place long held spells b z r one))

    pub gate_settled : Durable 1 new → (tells → content new.reads 1 ≡ over (content mid.reads 1) at (open_gate ∷ [])) → Settled 1 (HoldsBeside j slots (set table j (Some x)) (content old.reads 1)) new
    gate_settled durable_now reads_now =
        settled_through 1 at (open_gate ∷ []) _ _ mid new settled_ready durable_now reads_now (λ b r size. counts slots j at table (content old.reads 1) x body place long held spells b r)
