-- Bytes that are records, and batches at an offset, as they are read.
use Rattle.std.proofs.Common.{◌≡◌, ◌≤◌, ◌<◌, ◌+◌, ◌-◌, ◌^◌, ℕ, zero, suc, true, false, List, [], ◌∷◌, ◌++◌, length, take, drop, ap, ◌∙◌, sym, subst, arith, drop-cons}
use Rattle.std.specs.Prelude.{◌==◌, slice_get}
use Rattle.std.proofs.lemmas.Bool.{eqb-true}
use Rattle.std.proofs.lemmas.List.{length-append, append_assoc, drop-drop, length-drop, nil_from_length}
use Rattle.std.proofs.lemmas.List.Elements.{All-nil, All-cons, All-head, All-tail}
use Rattle.std.proofs.lemmas.List.Sums.{sum_by-cons}
use Rattle.vdr_terms.specs.Legality.{IsBytes, IsRecord}
use Rattle.vdr_terms.specs.Records.{Record}
use Rattle.vdr_terms.specs.Sizes.{record_size, records_size, batch_size}
use Rattle.vdr_bytes.specs.Numbers.{le_u32, u32_at}
use Rattle.vdr_terms.proofs.Bytes.{part_long}
use Rattle.vdr_bytes.proofs.NumberLemmas.{spelled_u32, read_u32, cut, drop-front, take-front}
use Rattle.vdr_entry.specs.Reading.{Begins}
use Rattle.vdr_entry.specs.Spelling.{record_bytes, records_bytes}
use Rattle.vdr_entry.proofs.SpellingLemmas.{length-record_bytes}
use Rattle.vdr_entry.proofs.ReadingLemmas.{one_record}
use Rattle.vdr_segment.specs.Gates.{open_gate, IsOpenAt}
use Rattle.vdr_segment.specs.Batches.{batch_bytes, AreRecords, HasBatchAt}
use Rattle.vdr_segment.proofs.BatchLemmas.{length-records_bytes}
use Rattle.vdr_segment.proofs.GateLemmas.{open_byte, open_inside}

-- Records

pub first_begins : (bytes : List ℕ) (r : Record) (rs : List Record) → AreRecords bytes (r ∷ rs) → Begins bytes r (records_bytes rs)
first_begins bytes r rs a = record { legal = All-head IsRecord r rs a.legal; spelled = a.spelled }

-- the bytes behind a record at the front, and how many it takes
pub begun_behind : (bytes after : List ℕ) (r : Record) → Begins bytes r after → drop (record_size r) bytes ≡ after
begun_behind bytes after r g = ap (λ (xs : List ℕ). drop (record_size r) xs) g.spelled ∙ drop-front (record_size r) (record_bytes r) after (length-record_bytes r)

pub begun_size : (bytes after : List ℕ) (r : Record) → Begins bytes r after → record_size r ≤ length bytes
begun_size bytes after r g = omega (arith, ap length g.spelled, length-append (record_bytes r) after, length-record_bytes r)

pub records_behind : (bytes : List ℕ) (r : Record) (rs : List Record) → AreRecords bytes (r ∷ rs) → AreRecords (drop (record_size r) bytes) rs
records_behind bytes r rs a = record { legal = All-tail IsRecord r rs a.legal; spelled = begun_behind bytes (records_bytes rs) r (first_begins bytes r rs a) }

pub records_before : (bytes after : List ℕ) (r : Record) (rs : List Record) → Begins bytes r after → AreRecords (drop (record_size r) bytes) rs → AreRecords bytes (r ∷ rs)
records_before bytes after r rs g a = record {
  legal = All-cons IsRecord r rs g.legal a.legal;
  spelled = g.spelled ∙ ap (λ (xs : List ℕ). record_bytes r ++ xs) (sym (begun_behind bytes after r g) ∙ a.spelled);
}

-- bytes that are no record and not none are no records
none_begins : (bytes : List ℕ) → 0 < length bytes → ((r : Record) (after : List ℕ) → Begins bytes r after → ⊥) → (rs : List Record) → AreRecords bytes rs → ⊥
none_begins bytes some none [] a = omega (arith, ap length a.spelled, some)
none_begins bytes some none (r ∷ rs) a = none r (records_bytes rs) (first_begins bytes r rs a)

-- The bytes are records exactly where those that are left are.
pub record Left (bytes rest : List ℕ) : Type 0 where
  pub yes : (rs : List Record) → AreRecords rest rs → (qs : List Record) × AreRecords bytes qs
  pub no : (qs : List Record) → AreRecords bytes qs → (rs : List Record) × AreRecords rest rs

pub left_all : (bytes : List ℕ) → Left bytes bytes
left_all bytes = record { yes = λ rs a. (rs, a); no = λ rs a. (rs, a) }

without_first : (rest after : List ℕ) (r : Record) → Begins rest r after → (rs : List Record) → AreRecords rest rs → (qs : List Record) × AreRecords (drop (record_size r) rest) qs
without_first rest after r g [] a = let bad : ⊥ = omega (arith, ap length a.spelled, begun_size rest after r g) in absurd bad
without_first rest after r g (q ∷ qs) a =
    let same : q ≡ r = one_record rest (records_bytes qs) after q r (first_begins rest q qs a) g in
    (qs, subst (λ (x : Record). AreRecords (drop (record_size x) rest) qs) same (records_behind rest q qs a))

pub left_more : (bytes rest after : List ℕ) (r : Record) (n : ℕ) → Begins rest r after → n ≡ record_size r → Left bytes rest → Left bytes (drop n rest)
left_more bytes rest after r n g size left = subst (λ (k : ℕ). Left bytes (drop k rest)) (sym size) (record {
  yes = λ rs a. left.yes (r ∷ rs) (records_before rest after r rs g a);
  no = λ qs a. let some = left.no qs a in without_first rest after r g some.0 some.1;
})

pub left_stuck : (bytes rest : List ℕ) → Left bytes rest → 0 < length rest → ((r : Record) (after : List ℕ) → Begins rest r after → ⊥) → (qs : List Record) × AreRecords bytes qs → ⊥
left_stuck bytes rest left some none h = let there = left.no h.0 h.1 in none_begins rest some none there.0 there.1

pub left_done : (bytes rest : List ℕ) → Left bytes rest → length rest ≡ 0 → (qs : List Record) × AreRecords bytes qs
left_done bytes rest left none = left.yes [] (record { legal = All-nil IsRecord; spelled = nil_from_length rest none })

pub nonzero_of : (n : ℕ) → (n == 0) ≡ false → 0 < n
nonzero_of zero h = let bad : ⊥ = cc in absurd bad
nonzero_of (suc n) h = omega arith

pub zero_of : (n : ℕ) → (n == 0) ≡ true → n ≡ 0
zero_of n h = eqb-true n 0 h

-- records take bytes, and bytes that are records are some
some_records : (rs : List Record) → 0 < records_size rs → 0 < length rs
some_records [] h = let bad : ⊥ = omega (arith, h) in absurd bad
some_records (r ∷ rs) h = omega arith

some_bytes : (rs : List Record) → 0 < length rs → 0 < records_size rs
some_bytes [] h = let bad : ⊥ = omega (arith, h) in absurd bad
some_bytes (r ∷ rs) h = omega (arith, sum_by-cons record_size r rs)

-- Batches at the front

-- an open gate, a length and records are a batch
pub batch_found : (bytes : List ℕ) (len : ℕ) (rs : List Record) → IsBytes bytes → IsOpenAt bytes 0 → len ≡ u32_at 1 bytes → len < 2 ^ 32 → 0 < len → 6 + len ≤ length bytes
    → AreRecords (take len (drop 5 bytes)) rs → HasBatchAt bytes 0 rs × (len ≡ records_size rs)
unfolding batch_bytes
batch_found bytes len rs are_bytes open_here is short some room a =
    let size : len ≡ records_size rs = sym (part_long 5 len bytes (omega (arith, room))) ∙ ap length a.spelled ∙ length-records_bytes rs in
    let rest : List ℕ = drop (5 + len) bytes in
    let gate : bytes ≡ open_gate ∷ drop 1 bytes = drop-cons bytes 0 0 (open_inside bytes 0 open_here) ∙ ap (λ (g : ℕ). g ∷ drop 1 bytes) (open_byte bytes 0 open_here) in
    let head : drop 1 bytes ≡ le_u32 len ++ drop 5 bytes = spelled_u32 1 bytes are_bytes (omega (arith, room)) ∙ ap (λ (n : ℕ). le_u32 n ++ drop 5 bytes) (sym is) in
    let body : drop 5 bytes ≡ records_bytes rs ++ rest = cut 5 len bytes ∙ ap (λ (xs : List ℕ). xs ++ rest) a.spelled in
    let whole : bytes ≡ open_gate ∷ ((le_u32 len ++ records_bytes rs) ++ rest) =
    gate ∙ ap (λ (xs : List ℕ). open_gate ∷ xs) (head ∙ ap (λ (xs : List ℕ). le_u32 len ++ xs) body ∙ sym (append_assoc (le_u32 len) (records_bytes rs) rest)) in (
      record {
        legal = record { legal = a.legal; some = some_records rs (omega (arith, size, some)); short = omega (arith, size, short) };
        spelled = whole ∙ ap (λ (n : ℕ). open_gate ∷ ((le_u32 n ++ records_bytes rs) ++ drop (5 + n) bytes)) size ∙ ap (λ (j : ℕ). open_gate ∷ ((le_u32 (records_size rs) ++ records_bytes rs) ++ drop j bytes)) (omega arith);
        room = omega (arith, size, room);
      },
      size,
    )

-- what a batch at the front tells of the bytes
pub record Shows (bytes : List ℕ) (rs : List Record) : Type 0 where
  pub gate : IsOpenAt bytes 0
  pub size : u32_at 1 bytes ≡ records_size rs
  pub some : 0 < records_size rs
  pub room : 6 + records_size rs ≤ length bytes
  pub records : AreRecords (take (records_size rs) (drop 5 bytes)) rs

pub batch_shows : (bytes : List ℕ) (rs : List Record) → HasBatchAt bytes 0 rs → Shows bytes rs
unfolding batch_bytes
batch_shows bytes rs h =
    let rest : List ℕ = drop (0 + batch_size rs) bytes in
    let head : drop 1 bytes ≡ le_u32 (records_size rs) ++ (records_bytes rs ++ rest) =
    ap (λ (xs : List ℕ). drop 1 xs) h.spelled ∙ append_assoc (le_u32 (records_size rs)) (records_bytes rs) rest in
    let len = read_u32 1 (records_size rs) bytes (records_bytes rs ++ rest) head h.legal.short in
    record {
      gate = ap (λ (xs : List ℕ). slice_get xs 0) h.spelled;
      size = len.0;
      some = some_bytes rs h.legal.some;
      room = omega (arith, h.room);
      records = record {
        legal = h.legal.legal;
        spelled = ap (λ (xs : List ℕ). take (records_size rs) xs) len.1 ∙ take-front (records_size rs) (records_bytes rs) rest (length-records_bytes rs);
      };
    }

-- the records' bytes, as the code cuts them
pub cut_is : (bytes : List ℕ) (len n : ℕ) → len ≡ n → take (5 + len - 5) (drop 5 bytes) ≡ take n (drop 5 bytes)
cut_is bytes len n is = ap (λ (k : ℕ). take k (drop 5 bytes)) (omega (arith, is))

-- Batches at an offset

pub batch_at : (segment : List ℕ) (at : ℕ) (rs : List Record) → HasBatchAt (drop at segment) 0 rs → HasBatchAt segment at rs
batch_at segment at rs h = record {
  legal = h.legal;
  spelled = h.spelled ∙ ap (λ (xs : List ℕ). batch_bytes rs ++ xs) (drop-drop (0 + batch_size rs) at segment ∙ ap (λ (j : ℕ). drop j segment) (omega arith));
  room = omega (arith, h.room, length-drop at segment);
}

pub batch_from : (segment : List ℕ) (at : ℕ) (rs : List Record) → HasBatchAt segment at rs → HasBatchAt (drop at segment) 0 rs
batch_from segment at rs h = record {
  legal = h.legal;
  spelled = h.spelled ∙ ap (λ (xs : List ℕ). batch_bytes rs ++ xs) (ap (λ (j : ℕ). drop j segment) (omega arith) ∙ sym (drop-drop (0 + batch_size rs) at segment));
  room = omega (arith, h.room, length-drop at segment);
}
