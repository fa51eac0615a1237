-- The stages of an append: each is a sequence of the slots that the writes leave, and each is in order.
use Rattle.std.proofs.Common.{◌≡◌, ◌≢◌, ◌⊎◌, ◌<◌, ◌≤◌, ◌+◌, ◌^◌, ℕ, suc, List, [], ◌∷◌, ◌++◌, length, set, slice_get, All, Contains, sum_by, Option, Some, None, inl, inr, refl, sym, ap, ◌∙◌, subst, arith, set-set}
use Rattle.std.proofs.lemmas.Option.{get_or_from_slice_get, slice_get_within}
use Rattle.std.proofs.lemmas.List.{length-append, length-set, set-get_or}
use Rattle.std.proofs.lemmas.List.Elements.{All-head, All-contains, Contains-append_right}
use Rattle.vdr_terms.specs.Records.{Record, last_after, last}
use Rattle.vdr_terms.specs.Order.{NeverFalls}
use Rattle.vdr_terms.specs.Sizes.{batch_size}
use Rattle.vdr_terms.specs.Windows.{window}
use Rattle.vdr_segment.specs.Batches.{IsBatch}
use Rattle.vdr_segment.specs.Segments.{Segment, with_batch}
use Rattle.vdr_durability.specs.Layout.{segment_records}
use Rattle.vdr_durability.specs.Retention.{Pin, AreOutside}
use Rattle.vdr_durability.proofs.Lists.{contains_here, last_behind, last_contained}
use Rattle.vdr_durability.proofs.Retained.{in_the_window}
use Rattle.vdr_directory.specs.Sequence.{Placed, seq_of, batches_of, records_of, all_records, AreInSequence}
use Rattle.vdr_directory.specs.Order.{AreInOrder}
use Rattle.vdr_directory.specs.Closed.{IsFull, IsLeastClosed}
use Rattle.vdr_directory.specs.Growing.{next_seq, new_segment, with_batch_in, next_of, tick_of, Continues}
use Rattle.vdr_ring.specs.Stages.{IsVictim, HasRoom, Stages, GoesOn, BeginsAnew, IsLeft, AreStages}
use Rattle.vdr_directory.proofs.Runs.{nil_from_last}
use Rattle.vdr_directory.proofs.Placing.{append_in_sequence, close_in_sequence, begin_in_sequence, slot_closed}
use Rattle.vdr_directory.proofs.Ordering.{NewestHasRecords, append_in_order, batch_has_records, close_in_order, begin_in_order, begin_with_batch_in_order, last_in_newest}
use Rattle.vdr_directory.proofs.Leaving.{left_in_order}
use Rattle.vdr_directory.proofs.Numbering.{seqs_below, next_seq_low}
use Rattle.vdr_ring.proofs.Going.{goes_by_records}

-- The newest segment, where it has no room

pub no_batches : (bs : List (List Record)) → All IsBatch bs → segment_records bs ≡ [] → bs ≡ []
no_batches [] legal e = refl
no_batches (b ∷ bs) legal e =
    let k : IsBatch b = All-head IsBatch b bs legal in
    let a : 0 < length b = k.some in
    let c : length b + length (segment_records bs) ≡ 0 = sym (length-append b (segment_records bs)) ∙ ap length e in
    absurd (omega (arith, a, c))

-- Where a batch has no room behind the newest segment but has in an empty one, the newest has records.
pub newest_has_records : (size : ℕ) (placed : List Placed) (records : List Record) → All (λ p. All IsBatch (batches_of p)) placed → 64 + batch_size records + 1 ≤ size
    → ((p : Placed) → last placed ≡ Some p → HasRoom size p records → ⊥) → NewestHasRecords placed
newest_has_records size placed records legal fits no_room = λ p e none.
    let own : All IsBatch p.segment.batches = All-contains (λ p. All IsBatch (batches_of p)) placed p legal (last_contained placed p e) in
    let a : sum_by batch_size p.segment.batches ≡ 0 = ap (λ (bs : List (List Record)). sum_by batch_size bs) (no_batches p.segment.batches own none) in
    no_room p e (omega (arith, a, fits))

-- The last record of a medium is in its window: a segment that is outside it is not the newest.
pub outside_not_newest : (seconds : ℕ) (placed before : List Placed) (v : Placed) (after : List Placed) → 0 < seconds → NewestHasRecords placed → placed ≡ before ++ v ∷ after
    → AreOutside seconds (all_records placed) (records_of v) → after ≢ []
outside_not_newest seconds placed before v after some newest split outside none =
    let ends : last placed ≡ Some v = ap last split ∙ last_behind before v after ∙ ap (λ (xs : List Placed). Some (last_after v xs)) none in
    go ends (last (records_of v)) refl
  where
    go : last placed ≡ Some v → (o : Option Record) → last (records_of v) ≡ o → ⊥
    go ends None e = newest v ends (nil_from_last (records_of v) e)
    go ends (Some r) e =
        let whole : last (all_records placed) ≡ Some r = last_in_newest placed v newest ends ∙ e in
        All-contains (λ r. Contains (window seconds (all_records placed)) r → ⊥) (records_of v) r outside (last_contained (records_of v) r e)
        (in_the_window seconds (all_records placed) r (record { newest = r; ends = whole; there = last_contained (all_records placed) r whole; close = omega (arith, some) }))

-- The victim

pub victim_split : (seconds : ℕ) (pins : List Pin) (placed before : List Placed) (v : Placed) (after : List Placed) → IsVictim seconds pins placed before v after → placed ≡ before ++ v ∷ after
victim_split seconds pins placed before v after (inl h) = h.split
victim_split seconds pins placed before v after (inr h) = h.1.split ∙ ap (λ (xs : List Placed). xs ++ v ∷ after) (sym h.0)

-- It is not the newest.
pub victim_not_newest : (count seconds : ℕ) (pins : List Pin) (placed before : List Placed) (v : Placed) (after : List Placed) → 0 < seconds → 2 ≤ count → AreInOrder placed → NewestHasRecords placed → IsFull count placed
    → IsVictim seconds pins placed before v after → after ≢ []
victim_not_newest count seconds pins placed before v after some two order newest full (inl h) =
    let m : Contains placed v = subst (λ (ps : List Placed). Contains ps v) (sym h.split) (Contains-append_right before (v ∷ after) v (contains_here v after)) in
    outside_not_newest seconds placed before v after some newest h.split (goes_by_records seconds pins placed v order m h.may_go).old
victim_not_newest count seconds pins placed before v after some two order newest full (inr h) = λ none.
    let a : length placed ≡ suc (length after) = ap length h.1.split in
    let b : length after ≡ 0 = ap length none in
    omega (arith, a, b, full, two)

-- The victim closed

set_closed : (slots : List (Option Segment)) (j : ℕ) → slice_get slots j ≡ Some None → set slots j None ≡ slots
set_closed slots j e = ap (λ (o : Option Segment). set slots j o) (sym (get_or_from_slice_get slots j None None e)) ∙ set-get_or slots j None

-- What an append finds where it begins a new segment.
pub record Finds (size count seconds : ℕ) (slots : List (Option Segment)) (placed : List Placed) (first : ℕ) (records : List Record) : Type 0 where
  pub sequence : AreInSequence slots placed
  pub every : length slots ≡ count
  pub order : AreInOrder placed
  pub batches : All (λ p. All IsBatch (batches_of p)) placed
  pub goes_on : Continues placed first records
  pub legal : IsBatch records
  pub fits : 64 + batch_size records + 1 ≤ size
  pub some : 0 < seconds
  pub two : 2 ≤ count

-- What it leaves once the slot is closed, or where it was already.
pub record LeavesClosed (slots : List (Option Segment)) (placed : List Placed) (slot : ℕ) (closed : List Placed) : Type 0 where
  pub sequence : AreInSequence (set slots slot None) closed
  pub at : slice_get (set slots slot None) slot ≡ Some None
  pub order : AreInOrder closed
  pub newest : last closed ≡ last placed
  pub records : last (all_records closed) ≡ last (all_records placed)

closed_already : (count : ℕ) (slots : List (Option Segment)) (placed : List Placed) (slot : ℕ) → AreInSequence slots placed → length slots ≡ count → AreInOrder placed → IsLeastClosed count placed slot
    → LeavesClosed slots placed slot placed
closed_already count slots placed slot sequence every order h =
    let inside : slot < count = h.within in
    let at : slice_get slots slot ≡ Some None = slot_closed slots placed slot sequence (omega (arith, inside, every)) h.closed in
    record {
      sequence = subst (λ (xs : List (Option Segment)). AreInSequence xs placed) (sym (set_closed slots slot at)) sequence;
      at = subst (λ (xs : List (Option Segment)). slice_get xs slot ≡ Some None) (sym (set_closed slots slot at)) at;
      order = order;
      newest = refl;
      records = refl;
    }

closed_victim : (slots : List (Option Segment)) (before : List Placed) (v : Placed) (after : List Placed) → after ≢ [] → AreInSequence slots (before ++ v ∷ after) → AreInOrder (before ++ v ∷ after)
    → NewestHasRecords (before ++ v ∷ after) → LeavesClosed slots (before ++ v ∷ after) v.slot (before ++ after)
closed_victim slots before v [] some sequence order newest = absurd (some refl)
closed_victim slots before v (a ∷ rest) some sequence order newest =
    let k = close_in_sequence slots before v (a ∷ rest) sequence in
    let ends : last (before ++ a ∷ rest) ≡ last (before ++ v ∷ a ∷ rest) = last_behind before a rest ∙ sym (last_behind before v (a ∷ rest)) in
    let less : NewestHasRecords (before ++ a ∷ rest) = λ p e. newest p (sym ends ∙ e) in
    record {
      sequence = k.0;
      at = k.1;
      order = close_in_order before v (a ∷ rest) order some (λ p e. newest p (last_behind before v (a ∷ rest) ∙ e));
      newest = ends;
      records = last_in_newest (before ++ a ∷ rest) (last_after a rest) less (last_behind before a rest)
          ∙ sym (last_in_newest (before ++ v ∷ a ∷ rest) (last_after a rest) newest (last_behind before v (a ∷ rest)));
    }

-- The segment begun, and its batch

begun_in_sequence : (slots : List (Option Segment)) (closed : List Placed) (slot seq first : ℕ) → AreInSequence (set slots slot None) closed → slice_get (set slots slot None) slot ≡ Some None
    → All (λ p. seq_of p < seq) closed → AreInSequence (set slots slot (Some (new_segment slot seq first).segment)) (closed ++ new_segment slot seq first ∷ [])
begun_in_sequence slots closed slot seq first sequence at below =
    subst (λ (xs : List (Option Segment)). AreInSequence xs (closed ++ new_segment slot seq first ∷ [])) (set-set slots slot None (Some (new_segment slot seq first).segment))
    (begin_in_sequence (set slots slot None) closed slot seq first sequence at below)

done_in_sequence : (slots : List (Option Segment)) (closed : List Placed) (slot seq first : ℕ) (records : List Record)
    → AreInSequence (set slots slot (Some (new_segment slot seq first).segment)) (closed ++ new_segment slot seq first ∷ [])
    → AreInSequence (set slots slot (Some (with_batch_in (new_segment slot seq first) records).segment)) (closed ++ with_batch_in (new_segment slot seq first) records ∷ [])
done_in_sequence slots closed slot seq first records sequence =
    subst (λ (xs : List (Option Segment)). AreInSequence xs (closed ++ with_batch_in (new_segment slot seq first) records ∷ []))
    (set-set slots slot (Some (new_segment slot seq first).segment) (Some (with_batch_in (new_segment slot seq first) records).segment))
    (append_in_sequence (set slots slot (Some (new_segment slot seq first).segment)) closed (new_segment slot seq first) records sequence)

first_place : (placed : List Placed) (first : ℕ) (records : List Record) → Continues placed first records → (placed ≡ [] → first ≡ 0) → first ≡ next_of (last placed)
first_place placed first records h start = go (last placed) refl
  where
    go : (o : Option Placed) → last placed ≡ o → first ≡ next_of o
    go None e = start (nil_from_last placed e)
    go (Some p) e = h.from p e

module _ (size count seconds : ℕ) (pins : List Pin) (slots : List (Option Segment)) (placed : List Placed) (first : ℕ) (records : List Record) (stages : Stages) (finds : Finds size count seconds slots placed first records) (b : BeginsAnew size count seconds pins placed first records stages) where
  pub newest_before : NewestHasRecords placed
  newest_before = newest_has_records size placed records finds.batches finds.fits b.no_room

  pub leaves_closed : LeavesClosed slots placed b.slot stages.closed
  leaves_closed = go b.place
    where
      go : (IsLeastClosed count placed b.slot × (stages.closed ≡ placed))
          ⊎ (IsFull count placed × (before : List Placed) × (v : Placed) × (after : List Placed) × IsVictim seconds pins placed before v after × (b.slot ≡ v.slot) × (stages.closed ≡ before ++ after))
          → LeavesClosed slots placed b.slot stages.closed
      go (inl h) = subst (λ (xs : List Placed). LeavesClosed slots placed b.slot xs) (sym h.1) (closed_already count slots placed b.slot finds.sequence finds.every finds.order h.0)
      go (inr h) =
          let split : placed ≡ h.1 ++ h.2 ∷ h.3 = victim_split seconds pins placed h.1 h.2 h.3 h.4 in
          let behind : h.3 ≢ [] = victim_not_newest count seconds pins placed h.1 h.2 h.3 finds.some finds.two finds.order newest_before h.0 h.4 in
          let k : LeavesClosed slots (h.1 ++ h.2 ∷ h.3) h.2.slot (h.1 ++ h.3) = closed_victim slots h.1 h.2 h.3 behind
          (subst (λ (xs : List Placed). AreInSequence slots xs) split finds.sequence)
          (subst AreInOrder split finds.order)
          (subst NewestHasRecords split newest_before) in
          let l : LeavesClosed slots placed h.2.slot (h.1 ++ h.3) = subst (λ (xs : List Placed). LeavesClosed slots xs h.2.slot (h.1 ++ h.3)) (sym split) k in
          let m : LeavesClosed slots placed b.slot (h.1 ++ h.3) = subst (λ (j : ℕ). LeavesClosed slots placed j (h.1 ++ h.3)) (sym h.5) l in
          subst (λ (xs : List Placed). LeavesClosed slots placed b.slot xs) (sym h.6) m

  newest_closed : NewestHasRecords stages.closed
  newest_closed = λ p e. newest_before p (sym leaves_closed.newest ∙ e)

  goes_on_closed : Continues stages.closed first records
  goes_on_closed = record {
    some = finds.goes_on.some;
    from = λ p e. finds.goes_on.from p (sym leaves_closed.newest ∙ e);
    places = finds.goes_on.places;
    ticks = subst (λ (o : Option Record). NeverFalls (tick_of o) records) (sym leaves_closed.records) finds.goes_on.ticks;
  }

  next_low : next_seq (last placed) < 2 ^ 63
  next_low = next_seq_low placed first records finds.order newest_before finds.goes_on finds.legal.legal

  below : All (λ p. seq_of p < next_seq (last placed)) stages.closed
  below = subst (λ (o : Option Placed). All (λ p. seq_of p < next_seq o) stages.closed) leaves_closed.newest (seqs_below stages.closed leaves_closed.order)

  begun_sequence : AreInSequence (set slots b.slot (Some (new_segment b.slot (next_seq (last placed)) first).segment)) (stages.closed ++ new_segment b.slot (next_seq (last placed)) first ∷ [])
  begun_sequence = begun_in_sequence slots stages.closed b.slot (next_seq (last placed)) first leaves_closed.sequence leaves_closed.at below

  begun_order : (placed ≡ [] → first ≡ 0) → AreInOrder (stages.closed ++ new_segment b.slot (next_seq (last placed)) first ∷ [])
  begun_order start =
      subst (λ (o : Option Placed). next_seq o < 2 ^ 63 → first ≡ next_of o → AreInOrder (stages.closed ++ new_segment b.slot (next_seq o) first ∷ [])) leaves_closed.newest
      (λ low from. begin_in_order stages.closed b.slot first leaves_closed.order newest_closed from low)
      next_low (first_place placed first records finds.goes_on start)

  done_order : AreInOrder (stages.closed ++ with_batch_in (new_segment b.slot (next_seq (last placed)) first) records ∷ [])
  done_order =
      subst (λ (o : Option Placed). next_seq o < 2 ^ 63 → AreInOrder (stages.closed ++ with_batch_in (new_segment b.slot (next_seq o) first) records ∷ [])) leaves_closed.newest
      (λ low. begin_with_batch_in_order stages.closed b.slot first records leaves_closed.order newest_closed goes_on_closed low)
      next_low

-- What the stages are: of which slots the sequence, and that they are in order.
pub record LeavesStages (slots : List (Option Segment)) (placed : List Placed) (first : ℕ) (new : Placed) (records : List Record) (stages : Stages) : Type 0 where
  pub inside : new.slot < length slots
  pub closed : AreInSequence (set slots new.slot None) stages.closed
  pub closed_order : AreInOrder stages.closed
  pub begun : AreInSequence (set slots new.slot (Some new.segment)) stages.begun
  pub begun_order : (placed ≡ [] → first ≡ 0) → AreInOrder stages.begun
  pub done : AreInSequence (set slots new.slot (Some (with_batch new.segment records))) stages.done
  pub done_order : AreInOrder stages.done

-- The batch begins a new segment.
pub begins_anew : (size count seconds : ℕ) (pins : List Pin) (slots : List (Option Segment)) (placed : List Placed) (first : ℕ) (records : List Record) (stages : Stages)
    → Finds size count seconds slots placed first records → (b : BeginsAnew size count seconds pins placed first records stages)
    → LeavesStages slots placed first (new_segment b.slot (next_seq (last placed)) first) records stages
begins_anew size count seconds pins slots placed first records stages finds b =
    let k = leaves_closed size count seconds pins slots placed first records stages finds b in
    let new : Placed = new_segment b.slot (next_seq (last placed)) first in
    let begun = begun_sequence size count seconds pins slots placed first records stages finds b in
    let inside : b.slot < length (set slots b.slot None) = slice_get_within (set slots b.slot None) b.slot None k.at in
    record {
      inside = omega (arith, inside, length-set slots b.slot None);
      closed = k.sequence;
      closed_order = k.order;
      begun = subst (λ (xs : List Placed). AreInSequence (set slots b.slot (Some new.segment)) xs) (sym b.begun) begun;
      begun_order = λ start. subst AreInOrder (sym b.begun) (begun_order size count seconds pins slots placed first records stages finds b start);
      done = subst (λ (xs : List Placed). AreInSequence (set slots b.slot (Some (with_batch new.segment records))) xs) (sym b.done)
          (done_in_sequence slots stages.closed b.slot (next_seq (last placed)) first records begun);
      done_order = subst AreInOrder (sym b.done) (done_order size count seconds pins slots placed first records stages finds b);
    }

pub goes_on_in_order : (size : ℕ) (placed : List Placed) (first : ℕ) (records : List Record) (stages : Stages) → AreInOrder placed → Continues placed first records → GoesOn size placed records stages
    → AreInOrder stages.done
goes_on_in_order size placed first records stages order h g =
    subst AreInOrder (sym g.done) (append_in_order g.older g.newest first records (subst AreInOrder g.split order) (subst (λ (xs : List Placed). Continues xs first records) g.split h))

-- The segment that the batch leaves behind has its summary.
pub left_in_its_order : (records : List Record) (stages : Stages) → records ≢ [] → AreInOrder stages.done → IsLeft records stages → AreInOrder stages.left
left_in_its_order records stages some order (inl none) = subst AreInOrder (sym none.1) order
left_in_its_order records stages some order (inr l) =
    subst AreInOrder (sym l.left)
    (left_in_order l.behind.left l.summary l.behind.none l.behind.exact l.behind.older (with_batch_in l.behind.newest records ∷ []) (batch_has_records l.behind.newest records some)
    (subst AreInOrder l.done order))

-- Each stage is in order.
pub stages_in_order : (size count seconds : ℕ) (pins : List Pin) (slots : List (Option Segment)) (placed : List Placed) (first : ℕ) (records : List Record) (stages : Stages)
    → Finds size count seconds slots placed first records → AreStages size count seconds pins placed first records stages
    → AreInOrder stages.closed × ((placed ≡ [] → first ≡ 0) → AreInOrder stages.begun) × AreInOrder stages.done × AreInOrder stages.left
stages_in_order size count seconds pins slots placed first records stages finds (inl g, l) =
    let done = goes_on_in_order size placed first records stages finds.order finds.goes_on g in (
      subst AreInOrder (sym g.closed) finds.order,
      λ start. subst AreInOrder (sym g.begun) finds.order,
      done,
      left_in_its_order records stages finds.goes_on.some done l,
    )
stages_in_order size count seconds pins slots placed first records stages finds (inr b, l) =
    let k = begins_anew size count seconds pins slots placed first records stages finds b in
    (k.closed_order, k.begun_order, k.done_order, left_in_its_order records stages finds.goes_on.some k.done_order l)
