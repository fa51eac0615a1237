-- What is spelled is read, and what is read is spelled so.
use Rattle.std.proofs.Common.{◌≡◌, ◌≤◌, ◌<◌, ◌+◌, ◌^◌, ℕ, List, [], ◌∷◌, ◌++◌, length, take, drop, refl, ap, ◌∙◌, sym, subst, arith, slice_index, ℤ, pos}
use Rattle.std.specs.Prelude.{unsigned_abs}
use Rattle.std.proofs.lemmas.List.{length-append, append_assoc}
use Rattle.vdr_bytes.specs.Numbers.{le_u16, le_u64, u16_at, u64_at}
use Rattle.vdr_terms.proofs.Bytes.{part_long}
use Rattle.vdr_bytes.proofs.NumberLemmas.{spelled_u16, spelled_u64, read_u16, read_u64, cut, part_after, u64_at-fits}
use Rattle.vdr_terms.specs.declared.counts.Counts.{Counts}
use Rattle.vdr_terms.specs.Legality.{IsBytes, IsRecord, IsContent}
use Rattle.vdr_terms.specs.Records.{Record, Content}
use Rattle.vdr_terms.specs.Records.Content.{Start, Datagram, Gap, Stop}
use Rattle.vdr_terms.specs.Sizes.{record_size}
use Rattle.vdr_entry.specs.declared.kind.Kind.{Kind}
use Rattle.vdr_entry.specs.declared.kind.Kind.TheVariants.{Start as KindStart, Datagram as KindDatagram, Gap as KindGap, Stop as KindStop}
use Rattle.vdr_entry.specs.Fields.{code_of, content_of}
use Rattle.vdr_entry.specs.Spelling.{kind_code, payload, numbers, head, record_bytes}
use Rattle.vdr_entry.specs.Reading.{Begins}
use Rattle.vdr_entry.specs.Spotting.{payload_in, record_in, Suits, Spots}
use Rattle.vdr_entry.proofs.SpellingLemmas.{length-payload, length-record_bytes, record_short}
use Rattle.vdr_entry.proofs.PayloadLemmas.{gap_read, code_is, then_number}

-- Kinds

-- The kind of a content.
pub kind_for : Content → Kind
kind_for Start = KindStart
kind_for (Datagram bytes) = KindDatagram
kind_for (Gap missed) = KindGap
kind_for Stop = KindStop

code_for : (c : Content) → kind_code c ≡ code_of (kind_for c)
unfolding kind_for
code_for Start = refl
code_for (Datagram bytes) = refl
code_for (Gap missed) = refl
code_for Stop = refl

-- The codes of two kinds differ.
pub one_kind : (k l : Kind) → code_of k ≡ code_of l → k ≡ l
one_kind KindStart KindStart e = refl
one_kind KindStart KindDatagram e = absurd (omega (arith, e))
one_kind KindStart KindGap e = absurd (omega (arith, e))
one_kind KindStart KindStop e = absurd (omega (arith, e))
one_kind KindDatagram KindStart e = absurd (omega (arith, e))
one_kind KindDatagram KindDatagram e = refl
one_kind KindDatagram KindGap e = absurd (omega (arith, e))
one_kind KindDatagram KindStop e = absurd (omega (arith, e))
one_kind KindGap KindStart e = absurd (omega (arith, e))
one_kind KindGap KindDatagram e = absurd (omega (arith, e))
one_kind KindGap KindGap e = refl
one_kind KindGap KindStop e = absurd (omega (arith, e))
one_kind KindStop KindStart e = absurd (omega (arith, e))
one_kind KindStop KindDatagram e = absurd (omega (arith, e))
one_kind KindStop KindGap e = absurd (omega (arith, e))
one_kind KindStop KindStop e = refl

-- What a content is spelled as says that content again.
content_again : (group number : ℕ) (c : Content) → number < 2 ^ 64 → IsContent group number c → content_of (kind_for c) (payload number c) ≡ c
unfolding kind_for
content_again group number Start small legal = refl
content_again group number (Datagram bytes) small legal = refl
content_again group number (Gap missed) small legal = ap (λ (c : Counts). Gap c) (gap_read number missed small legal.1).0
content_again group number Stop small legal = refl

-- Lists

two_first : (bytes : List ℕ) → 2 ≤ length bytes → bytes ≡ slice_index bytes 0 ∷ slice_index bytes 1 ∷ drop 2 bytes
two_first [] long = absurd (omega (arith, long))
two_first (x ∷ []) long = absurd (omega (arith, long))
two_first (x ∷ y ∷ xs) long = refl

five_apart : (a b c d e rest : List ℕ) → (a ++ (b ++ (c ++ (d ++ (e ++ []))))) ++ rest ≡ a ++ (b ++ (c ++ (d ++ (e ++ rest))))
five_apart a b c d e rest = simp append_assoc

four_apart : (a b c d : List ℕ) → ((a ++ b) ++ c) ++ d ≡ a ++ (b ++ (c ++ d))
four_apart a b c d = simp append_assoc

-- Numbers and payload at the front

numbers_apart : (r : Record) (rest : List ℕ) → numbers r ++ rest ≡ le_u64 r.bits ++ (le_u64 r.place ++ (le_u64 r.number ++ (le_u64 r.tick ++ (le_u64 (unsigned_abs r.utc) ++ rest))))
unfolding numbers
numbers_apart r rest = five_apart (le_u64 r.bits) (le_u64 r.place) (le_u64 r.number) (le_u64 r.tick) (le_u64 (unsigned_abs r.utc)) rest

numbers_in : (kind : Kind) (bytes : List ℕ) → IsBytes bytes → 44 ≤ length bytes → drop 4 bytes ≡ numbers (record_in kind bytes) ++ drop 44 bytes
unfolding record_in
numbers_in kind bytes are_bytes long =
    let e5 = spelled_u64 36 bytes are_bytes (omega (arith, long)) in
    let e4 = then_number _ _ _ _ (spelled_u64 28 bytes are_bytes (omega (arith, long))) e5 in
    let e3 = then_number _ _ _ _ (spelled_u64 20 bytes are_bytes (omega (arith, long))) e4 in
    let e2 = then_number _ _ _ _ (spelled_u64 12 bytes are_bytes (omega (arith, long))) e3 in
    let e1 = then_number _ _ _ _ (spelled_u64 4 bytes are_bytes (omega (arith, long))) e2 in
    e1 ∙ sym (numbers_apart (record_in kind bytes) (drop 44 bytes))

pub length-payload_in : (bytes : List ℕ) → 44 + u16_at 2 bytes ≤ length bytes → length (payload_in bytes) ≡ u16_at 2 bytes
unfolding payload_in
length-payload_in bytes long = part_long 44 (u16_at 2 bytes) bytes long

payload_cut : (bytes : List ℕ) → drop 44 bytes ≡ payload_in bytes ++ drop (44 + u16_at 2 bytes) bytes
unfolding payload_in
payload_cut bytes = cut 44 (u16_at 2 bytes) bytes

-- What is spotted is a record

-- a head, a payload and what stands behind
abbrev pub build : (code group len : ℕ) (five part rest : List ℕ) → List ℕ
build code group len five part rest = code ∷ group ∷ (((le_u16 len ++ five) ++ part) ++ rest)

spotted_spelled : (bytes : List ℕ) (kind : Kind) → IsBytes bytes → Spots bytes kind → bytes ≡ record_bytes (record_in kind bytes) ++ drop (44 + u16_at 2 bytes) bytes
unfolding record_bytes head record_in
spotted_spelled bytes kind are_bytes s =
    let long : 44 ≤ length bytes = omega (arith, s.long) in
    let group : ℕ = slice_index bytes 1 in
    let five : List ℕ = numbers (record_in kind bytes) in
    let part : List ℕ = payload_in bytes in
    let rest : List ℕ = drop (44 + u16_at 2 bytes) bytes in
    let tail : drop 2 bytes ≡ le_u16 (u16_at 2 bytes) ++ (five ++ (part ++ rest)) =
    spelled_u16 2 bytes are_bytes (omega (arith, long)) ∙ ap (λ (xs : List ℕ). le_u16 (u16_at 2 bytes) ++ xs) (numbers_in kind bytes are_bytes long ∙ ap (λ (xs : List ℕ). five ++ xs) (payload_cut bytes)) in
    two_first bytes (omega (arith, long))
    ∙ ap (λ (xs : List ℕ). slice_index bytes 0 ∷ group ∷ xs) (tail ∙ sym (four_apart (le_u16 (u16_at 2 bytes)) five part rest))
    ∙ ap (λ (code : ℕ). build code group (u16_at 2 bytes) five part rest) (s.code ∙ sym (code_is kind part))
    ∙ ap (λ (len : ℕ). build (kind_code (content_of kind part)) group len five part rest) (sym (length-payload_in bytes s.long))
    ∙ ap (λ (xs : List ℕ). build (kind_code (content_of kind part)) group (length xs) five xs rest) s.payload.payload_is

pub spotted_legal : (bytes : List ℕ) (kind : Kind) → IsBytes bytes → Spots bytes kind → IsRecord (record_in kind bytes)
unfolding record_in
spotted_legal bytes kind are_bytes s = record {
  content = s.payload.content;
  bits = u64_at-fits 4 bytes are_bytes;
  place = s.numbers.place;
  number = u64_at-fits 20 bytes are_bytes;
  tick = s.numbers.tick;
  utc = record { whole = refl; in_time = s.numbers.utc };
}

pub spotted_begins : (bytes : List ℕ) (kind : Kind) → IsBytes bytes → Spots bytes kind → Begins bytes (record_in kind bytes) (drop (44 + u16_at 2 bytes) bytes)
spotted_begins bytes kind are_bytes s = record { legal = spotted_legal bytes kind are_bytes s; spelled = spotted_spelled bytes kind are_bytes s }

pub spotted_size : (bytes : List ℕ) (kind : Kind) → Spots bytes kind → record_size (record_in kind bytes) ≡ 44 + length (payload_in bytes)
unfolding record_in
spotted_size bytes kind s = omega (arith, length-payload (u64_at 20 bytes) (content_of kind (payload_in bytes)), ap length s.payload.payload_is)

pub spotted_short : (bytes : List ℕ) (kind : Kind) → IsBytes bytes → Spots bytes kind → length (payload_in bytes) ≤ 1472
spotted_short bytes kind are_bytes s = omega (arith, record_short (record_in kind bytes) (spotted_legal bytes kind are_bytes s), spotted_size bytes kind s)

-- A record is spotted

pub same_record : (r : Record) (c : Content) (g b p n t : ℕ) (u : ℤ) → c ≡ r.content → g ≡ r.group → b ≡ r.bits → p ≡ r.place → n ≡ r.number → t ≡ r.tick → u ≡ r.utc
    → ◌≡◌ {A = Record} (record { content = c; group = g; bits = b; place = p; number = n; tick = t; utc = u }) r
same_record r c g b p n t u e1 e2 e3 e4 e5 e6 e7 =
    ap (λ (x : Content). let y : Record = record { content = x; group = g; bits = b; place = p; number = n; tick = t; utc = u } in y) e1
    ∙ ap (λ (x : ℕ). let y : Record = record { content = r.content; group = x; bits = b; place = p; number = n; tick = t; utc = u } in y) e2
    ∙ ap (λ (x : ℕ). let y : Record = record { content = r.content; group = r.group; bits = x; place = p; number = n; tick = t; utc = u } in y) e3
    ∙ ap (λ (x : ℕ). let y : Record = record { content = r.content; group = r.group; bits = r.bits; place = x; number = n; tick = t; utc = u } in y) e4
    ∙ ap (λ (x : ℕ). let y : Record = record { content = r.content; group = r.group; bits = r.bits; place = r.place; number = x; tick = t; utc = u } in y) e5
    ∙ ap (λ (x : ℕ). let y : Record = record { content = r.content; group = r.group; bits = r.bits; place = r.place; number = r.number; tick = x; utc = u } in y) e6
    ∙ ap (λ (x : ℤ). let y : Record = record { content = r.content; group = r.group; bits = r.bits; place = r.place; number = r.number; tick = r.tick; utc = x } in y) e7

pub begun_spots : (bytes rest : List ℕ) (r : Record) → Begins bytes r rest → Spots bytes (kind_for r.content) × (record_in (kind_for r.content) bytes ≡ r)
unfolding record_bytes head record_in payload_in
begun_spots bytes rest r g =
    let part : List ℕ = payload r.number r.content in
    let kind : Kind = kind_for r.content in
    let legal = g.legal in
    let short : record_size r ≤ 1516 = record_short r legal in
    let size : record_size r ≡ 44 + length part = omega (arith, length-payload r.number r.content) in
    let is : bytes ≡ build (kind_code r.content) r.group (length part) (numbers r) part rest = g.spelled in
    let i0 : slice_index bytes 0 ≡ kind_code r.content = ap (λ (xs : List ℕ). slice_index xs 0) is in
    let i1 : slice_index bytes 1 ≡ r.group = ap (λ (xs : List ℕ). slice_index xs 1) is in
    let d2 : drop 2 bytes ≡ le_u16 (length part) ++ (numbers r ++ (part ++ rest)) = ap (λ (xs : List ℕ). drop 2 xs) is ∙ four_apart (le_u16 (length part)) (numbers r) part rest in
    let len = read_u16 2 (length part) bytes (numbers r ++ (part ++ rest)) d2 (omega (arith, short, size)) in
    let d4 = len.1 ∙ numbers_apart r (part ++ rest) in
    let bits = read_u64 4 r.bits bytes _ d4 legal.bits in
    let place = read_u64 12 r.place bytes _ bits.1 (omega (arith, legal.place)) in
    let number = read_u64 20 r.number bytes _ place.1 legal.number in
    let tick = read_u64 28 r.tick bytes _ number.1 (omega (arith, legal.tick)) in
    let stamp = read_u64 36 (unsigned_abs r.utc) bytes _ tick.1 (omega (arith, legal.utc.in_time)) in
    let taken : payload_in bytes ≡ part = ap (λ (n : ℕ). take n (drop 44 bytes)) len.0 ∙ (part_after 44 (length part) bytes part rest stamp.1 refl).0 in
    let again : content_of kind part ≡ r.content = content_again r.group r.number r.content legal.number legal.content in
    let suited : Suits kind r.group r.number part = record {
      content = subst (λ (x : Content). IsContent r.group r.number x) (sym again) legal.content;
      payload_is = ap (λ (x : Content). payload r.number x) (sym again);
    } in
    let suited1 : Suits kind (slice_index bytes 1) r.number part = subst (λ (x : ℕ). Suits kind x r.number part) (sym i1) suited in
    let suited2 : Suits kind (slice_index bytes 1) (u64_at 20 bytes) part = subst (λ (x : ℕ). Suits kind (slice_index bytes 1) x part) (sym number.0) suited1 in
    let suited3 : Suits kind (slice_index bytes 1) (u64_at 20 bytes) (payload_in bytes) = subst (λ (xs : List ℕ). Suits kind (slice_index bytes 1) (u64_at 20 bytes) xs) (sym taken) suited2 in
    let whole : length bytes ≡ length (record_bytes r) + length rest = ap length g.spelled ∙ length-append (record_bytes r) rest in (
      record {
        long = omega (arith, whole, length-record_bytes r, size, len.0);
        code = i0 ∙ code_for r.content;
        numbers = record { place = omega (arith, place.0, legal.place); tick = omega (arith, tick.0, legal.tick); utc = omega (arith, stamp.0, legal.utc.in_time) };
        payload = suited3;
      },
      same_record r _ _ _ _ _ _ _ (ap (λ (xs : List ℕ). content_of kind xs) taken ∙ again) i1 bits.0 place.0 number.0 tick.0 (ap (λ (n : ℕ). pos n) stamp.0 ∙ sym legal.utc.whole),
    )

pub nothing_spotted : (bytes rest : List ℕ) (r : Record) → ((kind : Kind) → Spots bytes kind → ⊥) → Begins bytes r rest → ⊥
nothing_spotted bytes rest r none g = none (kind_for r.content) (begun_spots bytes rest r g).0

-- No record's bytes begin another's.
pub one_record : (bytes s t : List ℕ) (p q : Record) → Begins bytes p s → Begins bytes q t → p ≡ q
one_record bytes s t p q x y =
    let same : kind_for p.content ≡ kind_for q.content = one_kind _ _ (sym (begun_spots bytes s p x).0.code ∙ (begun_spots bytes t q y).0.code) in
    sym (begun_spots bytes s p x).1 ∙ ap (λ (k : Kind). record_in k bytes) same ∙ (begun_spots bytes t q y).1
