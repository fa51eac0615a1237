-- Segments: bytes are one in one way, what is written is one, and what a write leaves of one.
use Rattle.std.proofs.Common.{◌≡◌, ◌<◌, ◌^◌, ℕ, List, [], ◌∷◌, ◌++◌, length, take, drop, Option, None, Some, refl, ap, ◌∙◌, sym, subst, arith, ℤ, to_z, of_z, w64, Fits}
use Rattle.std.specs.Prelude.{All, IfSome, FitsSigned, slice_get}
use Rattle.std.proofs.Math.Facts.{Fits-of_z}
use Rattle.std.specs.List.{flat_map}
use Rattle.std.proofs.lemmas.Int.{to_z-of_z}
use Rattle.std.proofs.lemmas.List.{append_assoc, append-nil}
use Rattle.vdr_terms.specs.Records.{Record}
use Rattle.vdr_bytes.specs.Numbers.{le_u64s, u32_at}
use Rattle.vdr_bytes.proofs.NumberLemmas.{part_after, read_u32, drop-front, take-front}
use Rattle.vdr_entry.specs.declared.summary.Summary.{Summary}
use Rattle.vdr_segment.specs.declared.header.Header.{Header}
use Rattle.vdr_segment.specs.Gates.{open_gate, closed_gate}
use Rattle.vdr_segment.specs.Headers.{IsHeader, FitsSummary, TellsSummary, new_header, summary_bytes}
use Rattle.vdr_segment.specs.Batches.{IsBatch, batch_bytes}
use Rattle.vdr_segment.specs.Segments.{Segment, IsSegment, IsSlot, AreBatches}
use Rattle.vdr_segment.proofs.BatchListLemmas.{one_batches}
use Rattle.vdr_segment.proofs.GateLemmas.{zero_is_closed}
use Rattle.vdr_segment.proofs.HeaderLemmas.{length-told, length-header, new_is_header}
use Rattle.vdr_segment.proofs.NumberListLemmas.{u64s_at, read_u64s}

-- One way

-- the five numbers of eight bytes in a summary
abbrev five_of : Summary → List ℕ
five_of s = s.first_second ∷ s.last_second ∷ of_z w64 s.least_utc ∷ of_z w64 s.greatest_utc ∷ s.bits ∷ []

-- the numbers of a summary, read from its bytes
summary_read : (s : Summary) → FitsSummary s → (u32_at 0 (summary_bytes s) ≡ s.count) × (u64s_at 5 4 (summary_bytes s) ≡ five_of s)
unfolding summary_bytes
summary_read s f =
    let bits_fit : (z : ℤ) → FitsSigned w64 z → of_z w64 z < 2 ^ 64 = λ z h. let fits : Fits w64 (of_z w64 z) = Fits-of_z h in omega (arith, fits) in
    let count = read_u32 0 s.count (summary_bytes s) (le_u64s (five_of s)) refl f.count in
    let numbers = read_u64s (five_of s) 4 (summary_bytes s) [] (count.1 ∙ sym (append-nil (le_u64s (five_of s))))
    (f.first_second, (f.last_second, (bits_fit s.least_utc f.least_utc, (bits_fit s.greatest_utc f.greatest_utc, (f.bits, tt))))) in
    (count.0, numbers.0)

-- records are equal where their fields are
summary_by : (a b c f a' b' c' f' : ℕ) (d e d' e' : ℤ) → a ≡ a' → b ≡ b' → c ≡ c' → d ≡ d' → e ≡ e' → f ≡ f'
    → ◌≡◌ {A = Summary} (record { count = a; first_second = b; last_second = c; least_utc = d; greatest_utc = e; bits = f })
    (record { count = a'; first_second = b'; last_second = c'; least_utc = d'; greatest_utc = e'; bits = f' })
summary_by a b c f a' b' c' f' d e d' e' p q r s t u = cc

header_by : (a b a' b' : ℕ) (o o' : Option Summary) → a ∷ b ∷ [] ≡ a' ∷ b' ∷ [] → o ≡ o'
    → ◌≡◌ {A = Header} (record { seq = a; first = b; summary = o }) (record { seq = a'; first = b'; summary = o' })
header_by a b a' b' o o' p q = cc

segment_by : (h h' : Header) (bs bs' : List (List Record)) → h ≡ h' → bs ≡ bs' → ◌≡◌ {A = Segment} (record { header = h; batches = bs }) (record { header = h'; batches = bs' })
segment_by h h' bs bs' p q = cc

-- a stamp is told by its bits
same_stamp : (y z : ℤ) → FitsSigned w64 y → FitsSigned w64 z → of_z w64 y ≡ of_z w64 z → y ≡ z
same_stamp y z f g is = sym (to_z-of_z w64 y f) ∙ ap (λ (n : ℕ). to_z w64 n) is ∙ to_z-of_z w64 z g

same_summary : (s t : Summary) → FitsSummary s → FitsSummary t → s.count ≡ t.count → five_of s ≡ five_of t → s ≡ t
same_summary s t f g count numbers =
    summary_by s.count s.first_second s.last_second s.bits t.count t.first_second t.last_second t.bits s.least_utc s.greatest_utc t.least_utc t.greatest_utc
    count (cc) (cc) (same_stamp s.least_utc t.least_utc f.least_utc g.least_utc (cc)) (same_stamp s.greatest_utc t.greatest_utc f.greatest_utc g.greatest_utc (cc)) (cc)

one_summary : (part : List ℕ) (o p : Option Summary) → TellsSummary part o → TellsSummary part p → IfSome o FitsSummary → IfSome p FitsSummary → o ≡ p
one_summary part None None a b f g = refl
one_summary part None (Some t) a b f g = absurd (a.1 (ap (λ (xs : List ℕ). slice_get xs 0) b))
one_summary part (Some s) None a b f g = absurd (b.1 (ap (λ (xs : List ℕ). slice_get xs 0) a))
one_summary part (Some s) (Some t) a b f g =
    let same : summary_bytes s ≡ summary_bytes t = ap (λ (xs : List ℕ). drop 1 xs) (sym a ∙ b) in
    let m = summary_read s f in
    let n = summary_read t g in
    ap (λ (x : Summary). Some x) (same_summary s t f g (sym m.0 ∙ ap (λ (xs : List ℕ). u32_at 0 xs) same ∙ n.0) (sym m.1 ∙ ap (λ (xs : List ℕ). u64s_at 5 4 xs) same ∙ n.1))

-- the parts of a header, read from its bytes
header_read : (b : List ℕ) (h : Header) → (i : IsHeader b h) → (u64s_at 2 1 b ≡ h.seq ∷ h.first ∷ []) × (take 45 (drop 17 b) ≡ i.part)
header_read b h i =
    let behind : List ℕ = i.part ++ 0 ∷ 0 ∷ [] in
    let here : drop 1 b ≡ le_u64s (h.seq ∷ h.first ∷ []) ++ behind = ap (λ (xs : List ℕ). drop 1 xs) i.spelled ∙ append_assoc (le_u64s (h.seq ∷ h.first ∷ [])) i.part (0 ∷ 0 ∷ []) in
    let numbers = read_u64s (h.seq ∷ h.first ∷ []) 1 b behind here (i.fits.seq, (i.fits.first, tt)) in
    (numbers.0, (part_after 17 45 b i.part (0 ∷ 0 ∷ []) numbers.1 (length-told i.part h.summary i.told)).0)

-- bytes are a header in one way
pub one_header : (b : List ℕ) (h k : Header) → IsHeader b h → IsHeader b k → h ≡ k
one_header b h k i j =
    let p = header_read b h i in
    let q = header_read b k j in
    let told : TellsSummary i.part k.summary = subst (λ (xs : List ℕ). TellsSummary xs k.summary) (sym q.1 ∙ p.1) j.told in
    header_by h.seq h.first k.seq k.first h.summary k.summary (sym p.0 ∙ q.0) (one_summary i.part h.summary k.summary i.told told i.fits.summary j.fits.summary)

-- bytes are a segment in one way
pub one_segment : (bytes : List ℕ) (s t : Segment) → IsSegment bytes s → IsSegment bytes t → s ≡ t
one_segment bytes s t a b =
    segment_by s.header t.header s.batches t.batches (one_header (take 64 bytes) s.header t.header a.header b.header) (one_batches (drop 64 bytes) s.batches t.batches a.batches b.batches)

-- a slot holds one segment or none
pub one_slot : (bytes : List ℕ) (s t : Option Segment) → IsSlot bytes s → IsSlot bytes t → s ≡ t
one_slot bytes None None a b = refl
one_slot bytes None (Some t) a b = absurd (a b.0)
one_slot bytes (Some s) None a b = absurd (b a.0)
one_slot bytes (Some s) (Some t) a b = ap (λ (x : Segment). Some x) (one_segment bytes s t a.1 b.1)

-- What is written

-- a header with its gate opened, batches, and a closed gate behind them
pub written_segment : (seq first : ℕ) (batches : List (List Record)) (rest : List ℕ) → seq < 2 ^ 64 → first < 2 ^ 64 → All IsBatch batches
    → IsSegment ((open_gate ∷ drop 1 (new_header seq first)) ++ (flat_map batch_bytes batches ++ closed_gate ∷ rest)) (record { header = record { seq = seq; first = first; summary = None }; batches = batches })
written_segment seq first batches rest p q legal =
    let head : List ℕ = open_gate ∷ drop 1 (new_header seq first) in
    let back : List ℕ = flat_map batch_bytes batches ++ closed_gate ∷ rest in
    let h : Header = record { seq = seq; first = first; summary = None } in
    let is : IsHeader head h = new_is_header open_gate seq first p q in
    let long : length head ≡ 64 = length-header head h is in
    record {
      header = subst (λ (xs : List ℕ). IsHeader xs h) (sym (take-front 64 head back long)) is;
      batches = subst (λ (xs : List ℕ). AreBatches xs batches) (sym (drop-front 64 head back long))
          (record { legal = legal; gate = closed_gate; rest = rest; closed = zero_is_closed; spelled = refl });
    }
