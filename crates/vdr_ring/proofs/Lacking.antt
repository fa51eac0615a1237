-- A medium that lacks the batch, of those that its configuration allows.
use Rattle.std.proofs.Common.{◌≡◌, ⊎_elim, ℕ, List, Option, sym, ◌∙◌, subst, true, refl}
use Rattle.vdr_terms.specs.Needs.{Sizes}
use Rattle.vdr_terms.specs.Records.{Record}
use Rattle.vdr_durability.specs.Retention.{Pin}
use Rattle.vdr_segment.proofs.Holding.{one_holding}
use Rattle.vdr_segment.specs.Segments.{Segment}
use Rattle.vdr_directory.specs.Sequence.{AreInSequence, Placed}
use Rattle.vdr_directory.specs.Order.{AreInOrder}
use Rattle.vdr_directory.specs.Holds.{HoldsPlaced}
use Rattle.vdr_ring.specs.Rings.{RingState}
use Rattle.vdr_directory.proofs.Placing.{one_sequence}
use Rattle.vdr_ring.specs.Taking.{Lacks}
use Rattle.vdr_ring.specs.Whole.{KeepsAll}
use Rattle.vdr_ring.proofs.KeptPlaces.{kept_until}
use Rattle.vdr_ring.proofs.Allowed.{IsBefore, IsReady, StaysRegular, begun_before, begun_stays, closed_before, closed_stays, placed_stays}

-- A medium holds one list of segments.
pub one_placed : (segment count : ℕ) (bytes : List ℕ) (ps qs : List Placed) → HoldsPlaced segment count ps bytes → HoldsPlaced segment count qs bytes → ps ≡ qs
one_placed segment count bytes ps qs h k =
    let slots : h.slots ≡ k.slots = one_holding segment h.slots k.slots bytes h.holds k.holds (h.all_slots ∙ sym k.all_slots) in
    one_sequence k.slots ps qs (subst (λ (xs : List (Option Segment)). AreInSequence xs ps) slots h.sequence) k.sequence

-- A medium is legible without the batch.
pub record HoldsBefore (sizes : Sizes) (m : ℕ) (ring : RingState) (pins : List Pin) (all records : List Record) (placed : List Placed) (bytes : List ℕ) : Type 0 where
  pub now : List Placed
  pub holds : HoldsPlaced ring.segment ring.slots now bytes
  pub order : AreInOrder now
  pub before : IsBefore ring.seconds pins all placed now
  pub stays : StaysRegular sizes m pins records now
  pub keeps : KeepsAll ring.seconds ring.slots placed → KeepsAll ring.seconds ring.slots now

-- So it is while it lacks the batch.
pub before_of : (sizes : Sizes) (m : ℕ) (ring : RingState) (pins : List Pin) (all records : List Record) (placed : List Placed) (first : ℕ) → IsReady sizes m ring.segment ring.slots ring.seconds pins all records placed
    → (was bytes : List ℕ) → Lacks true ring pins placed first records was bytes → HoldsBefore sizes m ring pins all records placed bytes
before_of sizes m ring pins all records placed first ready was bytes l = ⊎_elim
    (λ (e : l.now ≡ placed). held placed e (record { ends = refl; retains = ready.retains; pinned = ready.pinned })
    (placed_stays sizes m ring.segment ring.slots ring.seconds pins all records placed ready) (λ k. k))
    (λ s. ⊎_elim
    (λ (e : l.now ≡ s.0.closed). held s.0.closed e (closed_before sizes m ring.segment ring.slots ring.seconds pins all records placed first ready s.0 s.1)
    (closed_stays sizes m ring.segment ring.slots ring.seconds pins all records placed first ready s.0 s.1)
    (λ k. (kept_until sizes m ring.segment ring.slots ring.seconds pins all records placed first ready s.0 s.1 k).0))
    (λ (e : l.now ≡ s.0.begun). held s.0.begun e (begun_before sizes m ring.segment ring.slots ring.seconds pins all records placed first ready s.0 s.1)
    (begun_stays sizes m ring.segment ring.slots ring.seconds pins all records placed first ready s.0 s.1)
    (λ k. (kept_until sizes m ring.segment ring.slots ring.seconds pins all records placed first ready s.0 s.1 k).1))
    s.2)
    l.stage
  where
    held : (ps : List Placed) → l.now ≡ ps → IsBefore ring.seconds pins all placed ps → StaysRegular sizes m pins records ps
        → (KeepsAll ring.seconds ring.slots placed → KeepsAll ring.seconds ring.slots ps) → HoldsBefore sizes m ring pins all records placed bytes
    held ps e before stays keeps = record {
      now = l.now;
      holds = l.holds;
      order = l.order refl;
      before = subst (IsBefore ring.seconds pins all placed) (sym e) before;
      stays = subst (StaysRegular sizes m pins records) (sym e) stays;
      keeps = λ k. subst (KeepsAll ring.seconds ring.slots) (sym e) (keeps k);
    }
