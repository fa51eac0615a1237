-- A medium at every moment until a batch stands in its newest segment.
use Rattle.std.proofs.Common.{◌≡◌, ◌<◌, ◌≤◌, ◌+◌, ◌^◌, ℕ, List, [], ◌∷◌, ◌++◌, length, get_or, set, take, slice_get, Option, Some, None, inl, inr, refl, sym, ap, ◌∙◌, subst, arith, length-set}
use Rattle.std.proofs.lemmas.Option.{none-some, same_Some}
use Rattle.std.proofs.lemmas.List.{take-append-le, take_all, length_push}
use Rattle.std.proofs.lemmas.List.Elements.{All-contains, Contains-append_right}
use Rattle.vdr_terms.specs.Records.{Record}
use Rattle.vdr_terms.specs.Order.{RunOn}
use Rattle.vdr_terms.specs.Sizes.{batch_size}
use Rattle.vdr_terms.proofs.Somewhere.{any_here, any_left, any_right}
use Rattle.vdr_outside.specs.Disk.{Disk}
use Rattle.vdr_outside.specs.Moments.{ChangesOnly, Settled}
use Rattle.vdr_outside.proofs.Moments.{changes_none, changes_weaken, changes_join, settled_image}
use Rattle.vdr_segment.specs.Gates.{closed_gate}
use Rattle.vdr_segment.specs.Batches.{IsBatch, batch_bytes}
use Rattle.vdr_segment.specs.Segments.{Segment, end_of, with_batch}
use Rattle.vdr_segment.proofs.BatchLemmas.{length-batch_bytes}
use Rattle.vdr_segment.specs.Slots.{HoldsSlots, HoldsEither, slots_with_batch}
use Rattle.vdr_entry.specs.declared.summary.Summary.{Summary}
use Rattle.vdr_index.specs.Summaries.{IsSummaryOf, Summarises}
use Rattle.vdr_directory.specs.declared.newest.Newest.{Newest}
use Rattle.vdr_durability.specs.Retention.{Pin}
use Rattle.vdr_durability.proofs.Lists.{contains_here, last_behind}
use Rattle.vdr_directory.specs.Sequence.{Placed, records_of, AreInSequence}
use Rattle.vdr_directory.specs.Order.{AreInOrder}
use Rattle.vdr_directory.specs.Directories.{DirectoryState, newest_of, summary_at}
use Rattle.vdr_directory.specs.Holds.{HoldsPlaced, HoldsAny, Tells}
use Rattle.vdr_ring.specs.Rings.{RingState, IsSameRing, Reads}
use Rattle.vdr_directory.specs.Growing.{with_batch_in, Continues}
use Rattle.vdr_ring.specs.Stages.{Stages, BeginsAnew, IsWritten}
use Rattle.vdr_ring.specs.Appends.{HasRoomFor, MayCome, HasNoRoom, Stands, IsReady}
use Rattle.vdr_directory.proofs.Filing.{few_records}
use Rattle.vdr_directory.proofs.Placing.{append_in_sequence}
use Rattle.vdr_directory.proofs.Ordering.{append_in_order, newest_in_place}
use Rattle.vdr_directory.proofs.Telling.{newest_is, newest_told, tells_done}
use Rattle.vdr_directory.proofs.Endings.{ending_in}
use Rattle.vdr_directory.proofs.Runs.{EndsWith, ends_with}
use Rattle.vdr_ring.proofs.Freeing.{holds_either, settled_slots, settled_placed}
use Rattle.vdr_ring.proofs.Beginning.{settled_at}

-- The newest segment has no room where the directory says so.
pub no_room : (size count : ℕ) (placed : List Placed) (records : List Record) (t : DirectoryState) → Tells count placed t → (HasRoomFor size (batch_size records) t.newest → ⊥) → HasNoRoom size placed records
no_room size count placed records t tells not p is room = not (subst (λ (o : Option Newest). HasRoomFor size (batch_size records) o) (sym (newest_is count placed t tells p is)) room)

pub first_is : (records : List Record) (d : Record) (first : ℕ) → 0 < length records → RunOn first records → (get_or records 0 d).place ≡ first
first_is [] d first some places = absurd (omega (arith, some))
first_is (r ∷ rs) d first some places = places.0

pub came_at : (size : ℕ) (placed : List Placed) (first first' : ℕ) (records : List Record) → first' ≡ first → MayCome size placed first records → MayCome size placed first' records
came_at size placed first first' records e may = subst (λ (n : ℕ). MayCome size placed n records) (sym e) may

pub begins_stages : (size count seconds : ℕ) (pins : List Pin) (placed : List Placed) (first first' : ℕ) (records : List Record) (stages : Stages) → first' ≡ first → BeginsAnew size count seconds pins placed first' records stages
    → IsWritten size count seconds pins placed first records stages
begins_stages size count seconds pins placed first first' records stages e b = inr (subst (λ (n : ℕ). BeginsAnew size count seconds pins placed n records stages) e b)

take-front : (n : ℕ) (xs ys : List ℕ) → length xs ≡ n → take n (xs ++ ys) ≡ xs
take-front n xs ys long = take-append-le n xs ys (omega (arith, long)) ∙ take_all n xs (omega (arith, long))

-- What was written to the buffer.
pub batch_written : (records : List Record) (rest new : List ℕ) (size : ℕ) → size ≡ batch_size records → new ≡ batch_bytes records ++ closed_gate ∷ [] ++ rest → take (size + 1) new ≡ batch_bytes records ++ closed_gate ∷ []
batch_written records rest new size is puts =
    let bytes : List ℕ = batch_bytes records ++ closed_gate ∷ [] in
    let k = length_push (batch_bytes records) closed_gate in
    let l = length-batch_bytes records in
    ap (take (size + 1)) puts ∙ take-front (size + 1) bytes rest (omega (arith, k, l, is))

module _ {tells tells_images : Type 0} where
  -- The batch goes into the newest segment, and nothing is written yet.
  pub goes_on : (r : RingState) (pins : List Pin) (placed : List Placed) (first : ℕ) (records : List Record) (size : ℕ) (n : Newest) (d : Disk tells tells_images) → Reads r placed d → MayCome r.segment placed first records
      → size ≡ batch_size records → r.directory.newest ≡ Some n → n.end + size + 1 ≤ r.segment
      → (stages : Stages) × IsWritten r.segment r.slots r.seconds pins placed first records stages × ChangesOnly r.medium (HoldsAny r.segment r.slots (placed ∷ stages.closed ∷ stages.begun ∷ [])) d d × IsReady r records stages d
  goes_on r pins placed first records size n d reads may is at fits =
      let k = newest_told r.slots placed r.directory reads.directory n at in
      let split : EndsWith placed k.0 = ends_with placed k.0 k.1 in
      let end : n.end ≡ end_of k.0.segment = ap (λ (m : Newest). m.end) k.2 in
      let done : List Placed = split.older ++ with_batch_in k.0 records ∷ [] in
      let stages : Stages = record { closed = placed; begun = placed; done = done; left = done } in (
        stages,
        inl (record { older = split.older; newest = k.0; split = split.split; bare = (newest_in_place placed k.0 reads.order k.1).1.precedes; room = omega (arith, end, fits, is); closed = refl; begun = refl; done = refl }),
        changes_none r.medium (HoldsAny r.segment r.slots (placed ∷ placed ∷ placed ∷ [])) d
            (λ i now. any_here (λ (ps : List Placed). HoldsPlaced r.segment r.slots ps _) placed (placed ∷ placed ∷ []) (settled_image r.medium (HoldsPlaced r.segment r.slots placed) d reads.settled i now)),
        record {
          older = split.older;
          newest = k.0;
          begun = split.split;
          done = refl;
          stands = subst (λ (ps : List Placed). Stands r ps d) split.split (record { settled = reads.settled; directory = reads.directory });
          order = append_in_order split.older k.0 first records (subst AreInOrder split.split reads.order) (subst (λ (ps : List Placed). Continues ps first records) split.split may.goes_on);
          begun_order = λ two. subst AreInOrder split.split reads.order;
        },
      )

  -- until the batch is written
  pub appended_before : (m segment count : ℕ) (placed : List Placed) (stages : Stages) (old mid : Disk tells tells_images) → ChangesOnly m (HoldsAny segment count (placed ∷ stages.closed ∷ stages.begun ∷ [])) old mid
      → ChangesOnly m (HoldsAny segment count (placed ∷ stages.closed ∷ stages.begun ∷ stages.done ∷ [])) old mid
  appended_before m segment count placed stages old mid moments =
      changes_weaken m _ (HoldsAny segment count (placed ∷ stages.closed ∷ stages.begun ∷ stages.done ∷ [])) old mid moments
      (λ b h. any_left (λ (ps : List Placed). HoldsPlaced segment count ps b) (placed ∷ stages.closed ∷ stages.begun ∷ []) (stages.done ∷ []) h)

  -- The batch is written into the newest segment.
  module _ (r q : RingState) (placed : List Placed) (stages : Stages) (records : List Record) (n : Newest) (bytes : List ℕ) (old mid new : Disk tells tells_images) (told : tells)
      (same : IsSameRing r q) (ready : IsReady q records stages mid) (is : q.directory.newest ≡ Some n) (written : bytes ≡ batch_bytes records ++ closed_gate ∷ []) (legal : IsBatch records) where
    abbrev before : List Placed
    before = ready.older ++ ready.newest ∷ []

    abbrev after : List Placed
    after = ready.older ++ with_batch_in ready.newest records ∷ []

    abbrev slots : List (Option Segment)
    slots = (ready.stands.settled.reads told).slots

    same_newest : n ≡ newest_of ready.newest
    same_newest = same_Some n (newest_of ready.newest) (sym is ∙ newest_is q.slots before q.directory ready.stands.directory ready.newest (last_behind ready.older ready.newest []))

    slot_is : n.slot ≡ ready.newest.slot
    slot_is = ap (λ (m : Newest). m.slot) same_newest

    there : slice_get slots n.slot ≡ Some (Some ready.newest.segment)
    there = ap (λ (j : ℕ). slice_get slots j) slot_is
        ∙ All-contains (λ p. slice_get slots p.slot ≡ Some (Some p.segment)) before ready.newest (ready.stands.settled.reads told).sequence.there (Contains-append_right ready.older (ready.newest ∷ []) ready.newest (contains_here ready.newest []))

    ends : end_of ready.newest.segment ≡ n.end
    ends = sym (ap (λ (m : Newest). m.end) same_newest)

    sequence : AreInSequence (slots_with_batch slots n.slot ready.newest.segment records) after
    sequence = subst (λ (j : ℕ). AreInSequence (slots_with_batch slots j ready.newest.segment records) after) (sym slot_is)
        (append_in_sequence slots ready.older ready.newest records (ready.stands.settled.reads told).sequence)

    every : length (slots_with_batch slots n.slot ready.newest.segment records) ≡ q.slots
    every = length-set slots n.slot (Some (with_batch ready.newest.segment records)) ∙ (ready.stands.settled.reads told).all_slots

    pub appended_moments : ChangesOnly r.medium (HoldsAny r.segment r.slots (placed ∷ stages.closed ∷ stages.begun ∷ [])) old mid
        → ((slots : List (Option Segment)) (s : Segment) (records : List Record) → Settled q.medium (HoldsSlots q.segment slots) mid → slice_get slots n.slot ≡ Some (Some s) → end_of s ≡ n.end
        → bytes ≡ batch_bytes records ++ closed_gate ∷ [] → IsBatch records → ChangesOnly q.medium (HoldsEither q.segment slots (slots_with_batch slots n.slot s records)) mid new)
        → ChangesOnly r.medium (HoldsAny r.segment r.slots (placed ∷ stages.closed ∷ stages.begun ∷ stages.done ∷ [])) old new
    appended_moments first moments =
        changes_join r.medium (HoldsAny r.segment r.slots (placed ∷ stages.closed ∷ stages.begun ∷ stages.done ∷ [])) old mid new (appended_before r.medium r.segment r.slots placed stages old mid first)
        (subst (λ (k : List Placed × List Placed). ChangesOnly r.medium (HoldsAny r.segment r.slots (placed ∷ stages.closed ∷ k.0 ∷ k.1 ∷ [])) mid new) (λ i. (sym ready.begun i, sym ready.done i))
        (subst (λ (k : ℕ × ℕ × ℕ). ChangesOnly k.0 (HoldsAny k.1 k.2 (placed ∷ stages.closed ∷ before ∷ after ∷ [])) mid new) (λ i. (same.medium i, same.segment i, same.slots i))
        (changes_weaken q.medium _ (HoldsAny q.segment q.slots (placed ∷ stages.closed ∷ before ∷ after ∷ [])) mid new
        (moments slots ready.newest.segment records (settled_slots q.medium q.segment q.slots before mid ready.stands.settled told) there ends written legal)
        (λ b h. any_right (λ (ps : List Placed). HoldsPlaced q.segment q.slots ps b) (placed ∷ stages.closed ∷ []) (before ∷ after ∷ [])
        (holds_either q.segment q.slots slots (slots_with_batch slots n.slot ready.newest.segment records) before after b (ready.stands.settled.reads told).sequence sequence (ready.stands.settled.reads told).all_slots every h)))))

    pub appended_reads : (u : RingState) (size : ℕ) → q.segment < 2 ^ 32 → u.medium ≡ q.medium → u.segment ≡ q.segment → u.slots ≡ q.slots → u.loaded ≡ None → u.bare ≡ [] → size ≡ batch_size records
        → ((before : List Record) → Summarises before (summary_at q.directory.index n.slot)
        → (s : Summary) × IsSummaryOf (before ++ records) s × (u.directory.index ≡ set q.directory.index n.slot (Some (record { seq = n.seq; first = n.first; summary = s }))))
        → u.directory.newest ≡ Some (record n { end = n.end + size }) → u.directory.ending ≡ ending_in (records ∷ [])
        → ((slots : List (Option Segment)) (s : Segment) (records : List Record) → Settled q.medium (HoldsSlots q.segment slots) mid → slice_get slots n.slot ≡ Some (Some s) → end_of s ≡ n.end
        → bytes ≡ batch_bytes records ++ closed_gate ∷ [] → IsBatch records → Settled q.medium (HoldsSlots q.segment (slots_with_batch slots n.slot s records)) new)
        → Reads u stages.done new
    appended_reads u size small medium segment count loaded none_bare long index newest ending settled = record {
      settled = subst (λ (ps : List Placed). Settled u.medium (HoldsPlaced u.segment u.slots ps) new) (sym ready.done)
          (settled_at u.medium q.medium u.segment q.segment u.slots q.slots after new (sym medium) (sym segment) (sym count)
          now);
      order = ready.order;
      directory = subst (λ (k : List Placed × ℕ). Tells k.1 k.0 u.directory) (λ i. (sym ready.done i, sym count i))
          (tells_done q.slots slots ready.older ready.newest records q.directory u.directory n size (ready.stands.settled.reads told).sequence (ready.stands.settled.reads told).all_slots bare few ready.stands.directory is long legal.some
          index newest ending);
      loaded = λ j bad. absurd (none-some j (sym loaded ∙ bad));
      bare = inl none_bare;
    }
      where
        bare : ready.newest.segment.header.summary ≡ None
        bare = (newest_in_place after (with_batch_in ready.newest records) (subst AreInOrder ready.done ready.order) (last_behind ready.older (with_batch_in ready.newest records) [])).1.precedes

        now : Settled q.medium (HoldsPlaced q.segment q.slots after) new
        now = settled_placed q.medium q.segment q.slots (slots_with_batch slots n.slot ready.newest.segment records) after new sequence every
            (settled slots ready.newest.segment records (settled_slots q.medium q.segment q.slots before mid ready.stands.settled told) there ends written legal)

        few : length (records_of (with_batch_in ready.newest records)) < 2 ^ 32
        few = All-contains (λ p. length (records_of p) < 2 ^ 32) after (with_batch_in ready.newest records) (few_records q.segment q.slots after _ small (now.reads told))
            (Contains-append_right ready.older (with_batch_in ready.newest records ∷ []) (with_batch_in ready.newest records) (contains_here (with_batch_in ready.newest records) []))
