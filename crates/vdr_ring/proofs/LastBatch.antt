-- The last batch of a segment as it is walked over and read, and of a medium.
use Rattle.std.proofs.Common.{◌≡◌, ◌≢◌, ◌<◌, ◌≤◌, ◌+◌, ◌-◌, ℕ, List, [], ◌∷◌, ◌++◌, length, take, drop, map, All, Contains, Option, Some, None, ⊎_elim, refl, sym, ap, ◌∙◌, subst, arith, append-nil}
use Rattle.std.proofs.lemmas.List.{append_assoc, length-drop, length-take, take-take}
use Rattle.std.proofs.lemmas.List.Elements.{All-nil, All-contains, All-head, All-tail, All-weaker}
use Rattle.std.proofs.lemmas.List.Sums.{sum_by-cons, sum_by_push}
use Rattle.vdr_terms.specs.Records.{Record, last, last_after}
use Rattle.vdr_terms.specs.Legality.{IsRecord}
use Rattle.vdr_terms.specs.Sizes.{record_size, records_size, batch_size}
use Rattle.vdr_outside.specs.Disk.{Disk, Image, Unchanged, content}
use Rattle.vdr_outside.proofs.Moments.{settled_still}
use Rattle.vdr_entry.specs.declared.summary.Summary.{Summary}
use Rattle.vdr_entry.specs.Reading.{Begins}
use Rattle.vdr_entry.specs.Spelling.{records_bytes}
use Rattle.vdr_entry.proofs.ReadingLemmas.{one_record}
use Rattle.vdr_segment.specs.Headers.{IsHeader}
use Rattle.vdr_segment.specs.Gates.{IsOpenAt}
use Rattle.vdr_segment.specs.Batches.{AreRecords, IsBatch}
use Rattle.vdr_segment.specs.Segments.{AreBatches}
use Rattle.vdr_segment.specs.Walks.{Walks}
use Rattle.vdr_segment.specs.declared.step.Walk.TheVariants.{Batch}
use Rattle.vdr_segment.proofs.WalkLemmas.{first_begins, records_behind, begun_size}
use Rattle.vdr_segment.proofs.BatchListLemmas.{one_batches}
use Rattle.vdr_segment.specs.Slots.{IsFront, place_of}
use Rattle.vdr_index.specs.Surveys.{BreaksAt}
use Rattle.vdr_index.proofs.SpanLemmas.{Front, front_none, front_more, span_records, never_both}
use Rattle.vdr_durability.proofs.Lists.{contains_cases, last_behind, none_contained}
use Rattle.vdr_directory.specs.Sequence.{Placed, batches_of, batches_in}
use Rattle.vdr_directory.specs.Holds.{HoldsPlaced}
use Rattle.vdr_directory.specs.Knowns.{known_of, summary_of}
use Rattle.vdr_directory.specs.Opening.{AreBatchesRead, AreKnown, Headed, front_bytes, headed_of, slot_bytes}
use Rattle.vdr_directory.proofs.ByKnowns.{in_order_known}
use Rattle.vdr_directory.proofs.Knowing.{known_held}
use Rattle.vdr_directory.proofs.TellingBy.{tells_by}
use Rattle.vdr_ring.specs.Rings.{Knows, RingState, Reads}
use Rattle.vdr_ring.specs.Damage.{AgreeBy, IsDamagedAt, IsIntact}
use Rattle.vdr_ring.specs.Visits.{IsLoaded, slot_read}
use Rattle.vdr_ring.specs.Lasts.{batch_or_none, AreOfBatch, IsLastSlot}
use Rattle.vdr_ring.proofs.Legible.{never_damages}

-- The batches that were walked over, the last of which has these bytes of records.
pub record Walked (segment : List ℕ) (end : ℕ) (bytes : List ℕ) : Type 0 where
  pub batches : List (List Record)
  pub front : Front segment end batches
  pub newest : AreOfBatch bytes (last batches)
  pub fits : bytes ≢ [] → 64 + (5 + length bytes) + 1 ≤ length segment

pub walked_none : (segment : List ℕ) → 65 ≤ length segment → Walked segment 64 []
walked_none segment long = record { batches = []; front = front_none segment long; newest = refl; fits = λ some. absurd (some refl) }

pub walked_more : (segment : List ℕ) (at from to : ℕ) (bytes : List ℕ) → Walked segment at bytes → Walks segment at (Batch from to) → Walked segment to (take (to - from) (drop from segment))
walked_more segment at from to bytes w (b, stands, from_is, to_is) = record {
  batches = w.batches ++ b ∷ [];
  front = front_more segment at to w.batches b w.front stands (omega (arith, from_is, to_is));
  newest = subst (AreOfBatch (take (to - from) (drop from segment))) (sym (last_behind w.batches b [])) (span_records segment at from to b stands from_is to_is);
  fits = λ some. omega (arith, length-take (to - from) (drop from segment), from_is, to_is, w.front.behind, stands.room);
}

-- Records that are read one after another: these are read, those of the rest are left, and no byte was read twice.
pub record LeavesRecords (bytes : List ℕ) (read : List Record) (rest : List ℕ) : Type 0 where
  pub each : (records : List Record) → AreRecords bytes records → (left : List Record) × (records ≡ read ++ left) × AreRecords rest left
  pub size : records_size read + length rest ≤ length bytes

pub leaves_all : (bytes : List ℕ) → LeavesRecords bytes [] bytes
leaves_all bytes = record { each = λ records a. (records, refl, a); size = omega arith }

pub leaves_less : (bytes : List ℕ) (read : List Record) (rest after : List ℕ) (r : Record) (size : ℕ) → Begins rest r after → size ≡ record_size r → LeavesRecords bytes read rest → LeavesRecords bytes (read ++ r ∷ []) (drop size rest)
leaves_less bytes read rest after r size begins is h = record {
  each = λ records a. let k = h.each records a in go records k.0 k.1 k.2;
  size = omega (arith, h.size, sum_by_push record_size read r, length-drop size rest, begun_size rest after r begins, is);
}
  where
    go : (records left : List Record) → records ≡ read ++ left → AreRecords rest left → (more : List Record) × (records ≡ (read ++ r ∷ []) ++ more) × AreRecords (drop size rest) more
    go records [] same a = let bad : ⊥ = omega (arith, ap length a.spelled, begun_size rest after r begins) in absurd bad
    go records (q ∷ qs) same a =
        let one : q ≡ r = one_record rest (records_bytes qs) after q r (first_begins rest q qs a) begins in (
          qs,
          same ∙ ap (λ (x : Record). read ++ x ∷ qs) one ∙ sym (append_assoc read (r ∷ []) qs),
          subst (λ (n : ℕ). AreRecords (drop n rest) qs) (ap record_size one ∙ sym is) (records_behind rest q qs a),
        )

pub leaves_none : (bytes : List ℕ) (read : List Record) (rest : List ℕ) → ((r : Record) (after : List ℕ) → Begins rest r after → ⊥) → LeavesRecords bytes read rest → (records : List Record) → AreRecords bytes records → read ≡ records
leaves_none bytes read rest none h records a = let k = h.each records a in go k.0 k.1 k.2
  where
    go : (left : List Record) → records ≡ read ++ left → AreRecords rest left → read ≡ records
    go [] same a = sym (same ∙ append-nil read)
    go (q ∷ qs) same a = absurd (none q (records_bytes qs) (first_begins rest q qs a))

-- What is read of the last batch's bytes is that batch.
pub batch_read : (bytes : List ℕ) (read : List Record) (batches : List (List Record)) → All IsBatch batches → AreOfBatch bytes (last batches) → ((records : List Record) → AreRecords bytes records → read ≡ records) → batch_or_none read ≡ last batches
batch_read bytes read [] legal newest h = ap batch_or_none (h [] (none_here bytes newest))
  where
    none_here : (xs : List ℕ) → xs ≡ [] → AreRecords xs []
    none_here xs e = record { legal = All-nil IsRecord; spelled = e }
batch_read bytes read (b ∷ bs) legal newest h = ap batch_or_none (h (last_after b bs) newest) ∙ some (last_after b bs) (last_some b bs legal)
  where
    last_some : (x : List Record) (xs : List (List Record)) → All IsBatch (x ∷ xs) → 0 < length (last_after x xs)
    last_some x [] all = (All-head IsBatch x [] all).some
    last_some x (y ∷ ys) all = last_some y ys (All-tail IsBatch x (y ∷ ys) all)

    some : (rs : List Record) → 0 < length rs → batch_or_none rs ≡ Some rs
    some [] lt = absurd (omega (arith, lt))
    some (r ∷ rs) lt = refl

-- What is read of bytes that fit is a batch that fits.
pub batch_fits : (bytes : List ℕ) (read : List Record) (room : ℕ) → (bytes ≢ [] → 64 + (5 + length bytes) + 1 ≤ room) → records_size read ≤ length bytes → read ≢ [] → 64 + batch_size read + 1 ≤ room
batch_fits bytes [] room fits size some = absurd (some refl)
batch_fits [] (r ∷ rs) room fits size some = let none : ⊥ = omega (arith, size, sum_by-cons record_size r rs) in absurd none
batch_fits (x ∷ xs) (r ∷ rs) room fits size some = let high = fits (λ none. omega (arith, ap length none)) in omega (arith, high, size)

-- The slot that is loaded

-- its segment's batches are one list
pub batches_read : (buffer bytes : List ℕ) (read : List Record) (bs batches : List (List Record)) → AreBatches (drop 64 buffer) bs → AreOfBatch bytes (last bs) → ((records : List Record) → AreRecords bytes records → read ≡ records)
    → AreBatches (drop 64 buffer) batches → batch_or_none read ≡ last batches
batches_read buffer bytes read bs batches a newest h b = batch_read bytes read bs a.legal newest h ∙ ap last (one_batches (drop 64 buffer) bs batches a b)

module _ {tells tells_images : Type 0} (ring now : RingState) (disk read : Disk tells tells_images) (same : now ≡ record ring { buffer = now.buffer; loaded = now.loaded })
    (unchanged : Unchanged disk read) (loaded : IsLoaded ring disk → IsLoaded now read) where
  pub reads_on : (placed : List Placed) → Reads ring placed disk → Reads now placed read
  reads_on placed reads = subst (λ (r : RingState). Reads r placed read) (sym same) (record {
    settled = settled_still ring.medium (HoldsPlaced ring.segment ring.slots placed) disk read unchanged reads.settled;
    order = reads.order;
    directory = reads.directory;
    loaded = subst (λ (r : RingState). IsLoaded r read) same (loaded reads.loaded);
    bare = reads.bare;
  })

  pub knows_on : (known : List Placed) → Knows ring known disk → Knows now known read
  knows_on known knows = subst (λ (r : RingState). Knows r known read) (sym same) (record {
    are = λ told. subst (λ (i : Image). AreKnown ring.segment ring.slots (content i ring.medium) known) (sym (unchanged.reads told)) (knows.are told);
    order = knows.order;
    directory = knows.directory;
    loaded = subst (λ (r : RingState). IsLoaded r read) same (loaded knows.loaded);
  })

-- What is known of a medium's segments

-- their batches are legal
pub known_batches : {tells tells_images : Type 0} (ring : RingState) (known : List Placed) (disk : Disk tells tells_images) → tells → Knows ring known disk → All (λ p. All IsBatch (batches_of p)) known
known_batches ring known disk told knows =
    All-weaker (λ p. AreBatchesRead p.segment.header.summary (drop 64 (slot_bytes ring.segment p.slot (content disk.reads ring.medium))) p.segment.batches) (λ p. All IsBatch (batches_of p))
    (λ p read. go (summary_of p) p read) known (knows.are told).batches
  where
    go : (o : Option Summary) (p : Placed) → AreBatchesRead o (drop 64 (slot_bytes ring.segment p.slot (content disk.reads ring.medium))) (batches_of p) → All IsBatch (batches_of p)
    go None p read = read.legal
    go (Some s) p none = subst (All IsBatch) (sym none) (All-nil IsBatch)

headed_there : (P : Headed → Type 0) (ps : List Placed) (p : Placed) → All P (map headed_of ps) → Contains ps p → P (headed_of p)
headed_there P [] p h m = absurd (none_contained p m)
headed_there P (x ∷ xs) p h m = ⊎_elim
    (λ (e : x ≡ p). subst (λ (y : Placed). P (headed_of y)) e (All-head P (headed_of x) (map headed_of xs) h))
    (λ (k : Contains xs p). headed_there P xs p (All-tail P (headed_of x) (map headed_of xs) h) k)
    (contains_cases x xs p m)

-- the first gate of a slot is that of its front
open_front : (bytes : List ℕ) → IsOpenAt (take 64 bytes) 0 → IsOpenAt bytes 0
open_front [] gate = gate
open_front (x ∷ xs) gate = gate

-- A slot with a segment without a summary has a legal header and legal batches, so it is intact.
module _ {tells tells_images : Type 0} (ring : RingState) (known : List Placed) (disk : Disk tells tells_images) (slot : ℕ) (told : tells) (long : 64 ≤ ring.segment) (knows : Knows ring known disk)
    (p : Placed) (there : Contains known p) (is : p.slot ≡ slot) (bare : summary_of p ≡ None) where
  abbrev bytes : List ℕ
  bytes = slot_read ring slot disk

  front_there : IsFront (front_bytes ring.segment slot (content disk.reads ring.medium)) (Some p.segment.header)
  front_there =
      let h = headed_there (λ x. (x.slot < ring.slots) × IsFront (front_bytes ring.segment x.slot (content disk.reads ring.medium)) (Some x.header)) known p (knows.are told).headers.there there in
      subst (λ (j : ℕ). IsFront (front_bytes ring.segment j (content disk.reads ring.medium)) (Some p.segment.header)) is h.1

  front_of_slot : take 64 bytes ≡ front_bytes ring.segment slot (content disk.reads ring.medium)
  front_of_slot = take-take 64 ring.segment (drop (place_of ring.segment slot) (content disk.reads ring.medium)) long

  header_there : IsHeader (take 64 bytes) p.segment.header
  header_there = subst (λ (xs : List ℕ). IsHeader xs p.segment.header) (sym front_of_slot) front_there.1

  pub batches_there : AreBatches (drop 64 bytes) (batches_of p)
  batches_there =
      let h : AreBatchesRead (summary_of p) (drop 64 (slot_bytes ring.segment p.slot (content disk.reads ring.medium))) (batches_of p) =
      All-contains (λ p. AreBatchesRead p.segment.header.summary (drop 64 (slot_bytes ring.segment p.slot (content disk.reads ring.medium))) p.segment.batches) known p (knows.are told).batches there in
      let read : AreBatches (drop 64 (slot_bytes ring.segment p.slot (content disk.reads ring.medium))) (batches_of p) =
      subst (λ (o : Option Summary). AreBatchesRead o (drop 64 (slot_bytes ring.segment p.slot (content disk.reads ring.medium))) (batches_of p)) bare h in
      subst (λ (j : ℕ). AreBatches (drop 64 (slot_bytes ring.segment j (content disk.reads ring.medium))) (batches_of p)) is read

  agree_there : AgreeBy p.segment.header.summary p.segment.header.first (batches_of p)
  agree_there = subst (λ (o : Option Summary). AgreeBy o p.segment.header.first (batches_of p)) (sym bare) tt

  pub bare_open : IsOpenAt bytes 0
  bare_open = open_front bytes (subst (λ (xs : List ℕ). IsOpenAt xs 0) (sym front_of_slot) front_there.0)

  pub bare_intact : IsIntact bytes
  bare_intact gate = (p.segment.header, header_there, batches_of p, batches_there, agree_there)

  pub bare_undamaged : (at : ℕ) → IsDamagedAt bytes at → ⊥
  bare_undamaged at damaged = never_damages bytes p.segment.header (batches_of p) at header_there batches_there agree_there damaged

-- So is the slot with the last batch.
module _ {tells tells_images : Type 0} (ring : RingState) (known : List Placed) (disk : Disk tells tells_images) (slot : ℕ) (told : tells) (long : 64 ≤ ring.segment) (knows : Knows ring known disk)
    (found : IsLastSlot known (Some slot)) where
  pub last_undamaged : (at : ℕ) → IsDamagedAt (slot_read ring slot disk) at → ⊥
  last_undamaged = bare_undamaged ring known disk slot told long knows found.0 found.1 found.2 found.3

  -- what was read into the buffer is that slot's
  module _ (buffer : List ℕ) (held : buffer ≡ slot_read ring slot disk) where
    pub last_is : (records : List Record) → (IsOpenAt buffer 0 → (batches : List (List Record)) → AreBatches (drop 64 buffer) batches → batch_or_none records ≡ last batches)
        → batch_or_none records ≡ last (batches_in known)
    last_is records h =
        let gate : IsOpenAt buffer 0 = subst (λ (xs : List ℕ). IsOpenAt xs 0) (sym held) (bare_open ring known disk slot told long knows found.0 found.1 found.2 found.3) in
        h gate (batches_of found.0) (subst (λ (xs : List ℕ). AreBatches (drop 64 xs) (batches_of found.0)) (sym held) (batches_there ring known disk slot told long knows found.0 found.1 found.2 found.3)) ∙ sym found.4

    pub none_breaks : (at : ℕ) → BreaksAt buffer at → ⊥
    none_breaks at broken =
        never_both (slot_read ring slot disk) (batches_of found.0) at (batches_there ring known disk slot told long knows found.0 found.1 found.2 found.3) (subst (λ (xs : List ℕ). BreaksAt xs at) held broken)

-- In an open slot that is intact no batch breaks.
pub intact_unbroken : (buffer read : List ℕ) (at : ℕ) → buffer ≡ read → IsIntact read → IsOpenAt buffer 0 → BreaksAt buffer at → ⊥
intact_unbroken buffer read at same intact gate broken =
    let h = subst IsIntact (sym same) intact gate in
    never_both buffer h.2 at h.3 broken

-- What is known of a medium that reads as segments.
pub known_read : {tells tells_images : Type 0} (ring : RingState) (placed : List Placed) (disk : Disk tells tells_images) → tells → 64 ≤ ring.segment → Reads ring placed disk → Knows ring (map known_of placed) disk
known_read ring placed disk told long reads =
    let holds = reads.settled.reads told in
    record {
      are = λ _. known_held ring.segment ring.slots (content disk.reads ring.medium) placed long holds;
      order = in_order_known ring.segment ring.slots (content disk.reads ring.medium) placed long holds reads.order;
      directory = tells_by ring.slots placed ring.directory reads.order reads.directory;
      loaded = reads.loaded;
    }
