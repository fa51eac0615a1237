-- The two calls that write behind a gate and then open it: a new segment, and one batch more.
use Rattle.std.proofs.Common.{◌≡◌, ◌≢◌, ℕ, ◌+◌, ◌<◌, ◌≤◌, ◌^◌, List, [], ◌∷◌, ◌++◌, length, take, drop, slice_get, Option, None, Some, refl, ◌∙◌, ap, subst, arith, length-append, length-drop}
use Rattle.std.proofs.lemmas.List.{length-replicate, take_all}
use Rattle.std.specs.Prelude.{replicate}
use Rattle.vdr_terms.specs.Records.{Record}
use Rattle.vdr_bytes.specs.Numbers.{Puts, le_u64s}
use Rattle.vdr_bytes.proofs.PutsLemmas.{length-le_u64s}
use Rattle.vdr_outside.specs.Disk.{Disk, Overwritten, Durable, content, over}
use Rattle.vdr_outside.specs.Moments.{AtEachMoment, ChangesOnly, Settled}
use Rattle.vdr_segment.specs.Gates.{open_gate, closed_gate}
use Rattle.vdr_segment.specs.Headers.{new_header}
use Rattle.vdr_segment.specs.Batches.{IsBatch, batch_bytes}
use Rattle.vdr_segment.specs.Segments.{Segment, IsSlot, end_of}
use Rattle.vdr_segment.specs.Slots.{HoldsSlots, HoldsEither, place_of, slots_begun, slots_with_batch}
use Rattle.vdr_segment.proofs.Gates.{gate_closed}
use Rattle.vdr_segment.proofs.Segments.{closed_behind, begun, segment_behind, segment_reclosed, batch_counts}
use Rattle.vdr_segment.proofs.Writes.{body_moments, gate_moments, gate_settled}

-- A new segment

-- what stands behind its gate
abbrev pub behind_gate : (seq first : ℕ) → List ℕ
behind_gate seq first = drop 1 (new_header seq first) ++ closed_gate ∷ []

length-new_header : (seq first : ℕ) → length (new_header seq first) ≡ 64
unfolding new_header
length-new_header seq first =
    omega (arith, length-append (le_u64s (seq ∷ first ∷ [])) (closed_gate ∷ replicate 46 0), length-le_u64s (seq ∷ first ∷ []), length-replicate {A = ℕ} 46 0)

length-behind_gate : (seq first : ℕ) → length (behind_gate seq first) ≡ 64
length-behind_gate seq first =
    omega (arith, length-append (drop 1 (new_header seq first)) (closed_gate ∷ []), length-drop 1 (new_header seq first), length-new_header seq first)

-- the header without its gate, over closed gates
pub gate_cut : (seq first : ℕ) (header bytes : List ℕ) → header ≡ new_header seq first → Puts (replicate 64 0) bytes 0 (take 63 (drop 1 header)) → bytes ≡ behind_gate seq first
gate_cut seq first header bytes is p =
    let cut : List ℕ = drop 1 (new_header seq first) in
    let long : length cut ≡ 63 = omega (arith, length-drop 1 (new_header seq first), length-new_header seq first) in
    let whole : take 63 (drop 1 header) ≡ cut = ap (λ (h : List ℕ). take 63 (drop 1 h)) is ∙ take_all 63 cut (omega (arith, long)) in
    p.is ∙ ap (λ (x : List ℕ). x ++ drop (0 + length x) (replicate 64 0)) whole ∙ ap (λ (n : ℕ). cut ++ drop (0 + n) (replicate 64 0)) long

module _ (segment j at seq first : ℕ) (slots : List (Option Segment)) (body : List ℕ) (place : at ≡ place_of segment j) (enough : 65 ≤ segment) (held : slice_get slots j ≡ Some None) (fits_seq : seq < 2 ^ 64) (fits_first : first < 2 ^ 64) (is : body ≡ behind_gate seq first)
    {tells tells_images : Type 0} (m : ℕ) (old mid : Disk tells tells_images) (settled : Settled m (HoldsSlots segment slots) old) (header : AtEachMoment old mid (Overwritten m (at + 1) (length body) old.now)) where
  begun_by : (p rest : List ℕ) → length p ≡ segment → drop (0 + 1) p ≡ body ++ rest → IsSlot p None → IsSlot (over p 0 (open_gate ∷ [])) (Some (record { header = record { seq = seq; first = first; summary = None }; batches = [] }))
  begun_by p rest long staged closed = begun seq first p rest fits_seq fits_first (omega (arith, long, enough)) (staged ∙ ap (λ (xs : List ℕ). xs ++ rest) is)

  fits : 0 + 1 + length body ≤ segment
  fits = omega (arith, enough, ap length is, length-behind_gate seq first)

  pub header_moments : ChangesOnly m (HoldsEither segment slots (slots_begun slots j seq first)) old mid
  header_moments =
      body_moments segment j 0 at slots None _ body (open_gate ∷ []) (omega (arith, place)) fits held refl (λ p x long closed. closed_behind p x closed) (λ p y ne closed. gate_closed p y ne) begun_by m old mid settled header

  module _ (durable : Durable m mid) (reads : tells → content mid.reads m ≡ over (content old.reads m) (at + 1) body) (new : Disk tells tells_images) where
    pub begin_moments : AtEachMoment mid new (Overwritten m at 1 mid.now) → ChangesOnly m (HoldsEither segment slots (slots_begun slots j seq first)) old new
    begin_moments second =
        gate_moments segment j 0 at slots None _ body (open_gate ∷ []) (omega (arith, place)) fits held refl (λ p x long closed. closed_behind p x closed) (λ p y ne closed. gate_closed p y ne) begun_by m old mid settled header
        durable reads new second

    pub begin_settled : Durable m new → (tells → content new.reads m ≡ over (content mid.reads m) at (open_gate ∷ [])) → Settled m (HoldsSlots segment (slots_begun slots j seq first)) new
    begin_settled durable_now reads_now =
        gate_settled segment j 0 at slots None _ body (open_gate ∷ []) (omega (arith, place)) fits held refl (λ p x long closed. closed_behind p x closed) (λ p y ne closed. gate_closed p y ne) begun_by m old mid settled header
        durable reads new durable_now reads_now

-- One batch more

first_open : (batch : List ℕ) (records : List Record) → batch ≡ batch_bytes records ++ closed_gate ∷ [] → take 1 batch ≡ open_gate ∷ []
unfolding batch_bytes
first_open batch records is = ap (λ (xs : List ℕ). take 1 xs) is

module _ (segment j k at : ℕ) (slots : List (Option Segment)) (s : Segment) (records : List Record) (batch : List ℕ) (place : at ≡ place_of segment j + k) (fits : k + length batch ≤ segment) (some : 0 < length batch) (held : slice_get slots j ≡ Some (Some s))
    (ends : end_of s ≡ k) (is : batch ≡ batch_bytes records ++ closed_gate ∷ []) (legal : IsBatch records) (body : List ℕ) (body_is : body ≡ drop 1 batch)
    {tells tells_images : Type 0} (m : ℕ) (old mid : Disk tells tells_images) (settled : Settled m (HoldsSlots segment slots) old) (first : AtEachMoment old mid (Overwritten m (at + 1) (length body) old.now)) where
  within : k + 1 + length body ≤ segment
  within = omega (arith, fits, some, ap length body_is, length-drop 1 batch)

  behind_end : (p x : List ℕ) → length x ≡ length body → IsSlot p (Some s) → IsSlot (over p (k + 1) x) (Some s)
  behind_end p x long slot = subst (λ (n : ℕ). IsSlot (over p (n + 1) x) (Some s)) ends (segment_behind p x s slot)

  closes_end : (p : List ℕ) (y : ℕ) → y ≢ open_gate → IsSlot p (Some s) → IsSlot (over p k (y ∷ [])) (Some s)
  closes_end p y ne slot = subst (λ (n : ℕ). IsSlot (over p n (y ∷ [])) (Some s)) ends (segment_reclosed p s y ne slot)

  counts_by : (p rest : List ℕ) → length p ≡ segment → drop (k + 1) p ≡ body ++ rest → IsSlot p (Some s) → IsSlot (over p k (open_gate ∷ [])) (Some (record { header = s.header; batches = s.batches ++ records ∷ [] }))
  counts_by p rest long staged slot =
      subst (λ (n : ℕ). IsSlot (over p n (open_gate ∷ [])) (Some (record { header = s.header; batches = s.batches ++ records ∷ [] }))) ends
      (batch_counts p s records batch rest legal is (ap (λ (n : ℕ). drop (n + 1) p) ends ∙ staged ∙ ap (λ (xs : List ℕ). xs ++ rest) body_is) slot)

  pub batch_moments : ChangesOnly m (HoldsEither segment slots (slots_with_batch slots j s records)) old mid
  batch_moments = body_moments segment j k at slots (Some s) _ body (open_gate ∷ []) place within held refl behind_end closes_end counts_by m old mid settled first

  module _ (gate : List ℕ) (gate_is : gate ≡ take 1 batch) (durable : Durable m mid) (reads : tells → content mid.reads m ≡ over (content old.reads m) (at + 1) body) (new : Disk tells tells_images) where
    opened : gate ≡ open_gate ∷ []
    opened = gate_is ∙ first_open batch records is

    pub append_moments : AtEachMoment mid new (Overwritten m at (length gate) mid.now) → ChangesOnly m (HoldsEither segment slots (slots_with_batch slots j s records)) old new
    append_moments second =
        gate_moments segment j k at slots (Some s) _ body gate place within held opened behind_end closes_end counts_by m old mid settled first durable reads new second

    pub append_settled : Durable m new → (tells → content new.reads m ≡ over (content mid.reads m) at gate) → Settled m (HoldsSlots segment (slots_with_batch slots j s records)) new
    append_settled durable_now reads_now =
        gate_settled segment j k at slots (Some s) _ body gate place within held opened behind_end closes_end counts_by m old mid settled first durable reads new durable_now reads_now
