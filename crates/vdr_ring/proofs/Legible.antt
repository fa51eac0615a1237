-- A slot that is judged, and that on a medium that reads as segments in a legal order no slot is damaged.
use Rattle.std.proofs.Common.{◌≡◌, ◌<◌, ℕ, List, length, Contains, Option, Some, None, Result, Ok, Err, get_or, slice_get, take, drop, inr, ⊎_elim, sym, subst, arith}
use Rattle.std.specs.Prelude.{IfErr, IfNone, IfOk, IfSome, ⊤}
use Rattle.std.specs.Result.{result_err}
use Rattle.std.proofs.lemmas.Option.{slice_get-get_or}
use Rattle.std.proofs.lemmas.Result.{IfOk-weaker}
use Rattle.vdr_terms.specs.Records.{Record}
use Rattle.vdr_outside.specs.Disk.{Disk, content}
use Rattle.vdr_entry.specs.declared.summary.Summary.{Summary}
use Rattle.vdr_segment.specs.declared.header.Header.{Header}
use Rattle.vdr_segment.specs.Gates.{IsOpenAt}
use Rattle.vdr_segment.specs.Headers.{IsHeader}
use Rattle.vdr_segment.specs.Segments.{AreBatches, Segment, IsSlot}
use Rattle.vdr_segment.proofs.SegmentLemmas.{one_header}
use Rattle.vdr_index.specs.declared.extent.Survey.{Survey}
use Rattle.vdr_index.specs.Audits.{Agree, DisagreesAt}
use Rattle.vdr_index.specs.Surveys.{BreaksAt, Surveys}
use Rattle.vdr_index.proofs.AuditLemmas.{never_agrees}
use Rattle.vdr_index.proofs.SpanLemmas.{never_both}
use Rattle.vdr_segment.proofs.Holding.{slot_of}
use Rattle.vdr_directory.specs.Sequence.{Placed, batches_of, first_of}
use Rattle.vdr_directory.specs.Order.{Agrees, RunsOn}
use Rattle.vdr_directory.proofs.Known.{agrees, runs_on}
use Rattle.vdr_directory.proofs.Surveying.{breaks_inside}
use Rattle.vdr_ring.specs.Rings.{RingState, Reads}
use Rattle.vdr_ring.specs.Damage.{AgreeBy, FailsBy, IsDamagedAt, IsIntact}
use Rattle.vdr_ring.specs.Visits.{slot_read}

-- An audit or a survey of an open slot with this header

abbrev pub IsJudged : List ℕ → Option ℕ → Type 0
IsJudged bytes found = IfSome found (IsDamagedAt bytes) × IfNone found (IsIntact bytes)

judged : {X : Type 0} (bytes : List ℕ) (header : Header) (r : Result X ℕ) → IsOpenAt bytes 0 → IsHeader (take 64 bytes) header
    → IfOk r (λ _. (batches : List (List Record)) × AreBatches (drop 64 bytes) batches × AgreeBy header.summary header.first batches) → IfErr r (FailsBy header.summary header.first bytes) → IsJudged bytes (result_err r)
judged bytes header (Ok x) gate is good bad = (tt, λ _. (header, is, good.0, good.1, good.2))
judged bytes header (Err at) gate is good bad = (record { opened = gate; part = inr (header, is, bad) }, tt)

pub audited : {X : Type 0} (bytes : List ℕ) (header : Header) (summary : Summary) (r : Result X ℕ) → header.summary ≡ Some summary → IsOpenAt bytes 0 → IsHeader (take 64 bytes) header
    → IfOk r (λ _. (batches : List (List Record)) × AreBatches (drop 64 bytes) batches × Agree header.first summary batches) → IfErr r (DisagreesAt bytes header.first summary) → IsJudged bytes (result_err r)
audited bytes header summary r has gate is good bad =
    judged bytes header r gate is
    (subst (λ (o : Option Summary). IfOk r (λ _. (batches : List (List Record)) × AreBatches (drop 64 bytes) batches × AgreeBy o header.first batches)) (sym has) good)
    (subst (λ (o : Option Summary). IfErr r (FailsBy o header.first bytes)) (sym has) bad)

pub surveyed : (bytes : List ℕ) (header : Header) (r : Result Survey ℕ) → header.summary ≡ None → IsOpenAt bytes 0 → IsHeader (take 64 bytes) header
    → IfOk r (λ s. (batches : List (List Record)) × AreBatches (drop 64 bytes) batches × Surveys header.first batches s) → IfErr r (BreaksAt bytes) → IsJudged bytes (result_err r)
surveyed bytes header r none gate is good bad =
    judged bytes header r gate is
    (subst (λ (o : Option Summary). IfOk r (λ _. (batches : List (List Record)) × AreBatches (drop 64 bytes) batches × AgreeBy o header.first batches)) (sym none)
    (IfOk-weaker r (λ s. (batches : List (List Record)) × AreBatches (drop 64 bytes) batches × Surveys header.first batches s) (λ _. (batches : List (List Record)) × AreBatches (drop 64 bytes) batches × ⊤)
    (λ s h. (h.0, h.1, tt)) good))
    (subst (λ (o : Option Summary). IfErr r (FailsBy o header.first bytes)) (sym none) bad)

-- Damage is inside the slot, and an intact one has none

pub break_inside : (bytes : List ℕ) (r : Result Survey ℕ) → IfErr r (BreaksAt bytes) → IfSome (result_err r) (λ at. at < length bytes)
break_inside bytes (Ok s) h = tt
break_inside bytes (Err at) h = breaks_inside bytes at h

never_fails : (o : Option Summary) (first : ℕ) (bytes : List ℕ) (batches : List (List Record)) (at : ℕ) → AreBatches (drop 64 bytes) batches → AgreeBy o first batches → FailsBy o first bytes at → ⊥
never_fails None first bytes batches at stand agree fails = never_both bytes batches at stand fails
never_fails (Some s) first bytes batches at stand agree fails = never_agrees first s bytes batches at stand agree fails

pub never_damages : (bytes : List ℕ) (header : Header) (batches : List (List Record)) (at : ℕ) → IsHeader (take 64 bytes) header → AreBatches (drop 64 bytes) batches → AgreeBy header.summary header.first batches
    → IsDamagedAt bytes at → ⊥
never_damages bytes header batches at is stand agree d = ⊎_elim
    (λ (h : ((h : Header) → IsHeader (take 64 bytes) h → ⊥) × (at ≡ 0)). h.0 header is)
    (λ (h : (h : Header) × IsHeader (take 64 bytes) h × FailsBy h.summary h.first bytes at).
    let same : h.0 ≡ header = one_header (take 64 bytes) h.0 header h.1 is in
    never_fails header.summary header.first bytes batches at stand agree (subst (λ (x : Header). FailsBy x.summary x.first bytes at) same h.2))
    d.part

-- A segment of a medium

-- agrees with its summary, in the words of an audit
agree_by : (p : Placed) (o : Option Summary) → RunsOn p → IfSome o (Agrees p) → AgreeBy o (first_of p) (batches_of p)
agree_by p None runs a = tt
agree_by p (Some s) runs a = record {
  within = record { places = runs.places; ticks = runs.ticks; count = let e = a.count in omega (arith, e); covered = a.covered };
  count = a.count;
}

pub never_damaged : {tells tells_images : Type 0} (ring : RingState) (placed : List Placed) (disk : Disk tells tells_images) (slot at : ℕ) → tells → slot < ring.slots → Reads ring placed disk
    → IsDamagedAt (slot_read ring slot disk) at → ⊥
never_damaged ring placed disk slot at told within reads damaged =
    let h = reads.settled.reads told in
    let there : slice_get h.slots slot ≡ Some (get_or h.slots slot None) = slice_get-get_or h.slots slot None (let n = h.all_slots in omega (arith, n, within)) in
    go (get_or h.slots slot None) there
  where
    go : (o : Option Segment) → slice_get (reads.settled.reads told).slots slot ≡ Some o → ⊥
    go None is = slot_of ring.segment slot (reads.settled.reads told).slots None (content disk.reads ring.medium) (reads.settled.reads told).holds is damaged.opened
    go (Some s) is =
        let h = reads.settled.reads told in
        let p : Placed = record { slot = slot; segment = s } in
        let m : Contains placed p = h.sequence.all slot s is in
        let held : IsSlot (slot_read ring slot disk) (Some s) = slot_of ring.segment slot h.slots (Some s) (content disk.reads ring.medium) h.holds is in
        never_damages (slot_read ring slot disk) s.header s.batches at held.1.header held.1.batches
        (agree_by p s.header.summary (runs_on None placed reads.order p m) (agrees None placed reads.order p m)) damaged
