-- Payloads and stamps, as the code keeps them.
use Rattle.std.proofs.Common.{◌≡◌, ◌≤◌, ◌<◌, ◌^◌, ℕ, List, [], ◌++◌, length, refl, ap, ◌∙◌, sym, subst, arith, ℤ, to_z, of_z, w64}
use Rattle.std.specs.Prelude.{unsigned_abs}
use Rattle.std.proofs.lemmas.Int.{to_z_pos}
use Rattle.std.proofs.lemmas.List.{drop_all}
use Rattle.vdr_bytes.specs.Numbers.{le_u64, u64_at}
use Rattle.vdr_bytes.proofs.NumberLemmas.{read_u64, spelled_u64, u64_at-fits}
use Rattle.vdr_terms.specs.declared.counts.Counts.{Counts}
use Rattle.vdr_terms.specs.Legality.{IsBytes, IsMissed}
use Rattle.vdr_terms.specs.Stamps.{IsStamp}
use Rattle.vdr_entry.specs.declared.kind.Kind.{Kind}
use Rattle.vdr_entry.specs.declared.kind.Kind.TheVariants.{Start as KindStart, Datagram as KindDatagram, Gap as KindGap, Stop as KindStop}
use Rattle.vdr_terms.specs.Records.{Record, total}
use Rattle.vdr_terms.specs.Records.Content.{Gap}
use Rattle.vdr_terms.proofs.Stamping.{stamp_kept}
use Rattle.vdr_entry.specs.Fields.{Carries, code_of, content_of, missed_in}
use Rattle.vdr_entry.specs.Spelling.{kind_code, gap_payload, payload}
use Rattle.vdr_entry.proofs.SpellingLemmas.{length-gap_payload}

same_counts : (a b c d : ℕ) (x : Counts) → a ≡ x.full → b ≡ x.rate → c ≡ x.bad → d ≡ x.large → ◌≡◌ {A = Counts} (record { full = a; rate = b; bad = c; large = d }) x
same_counts a b c d x p q r s =
    ap (λ (n : ℕ). let y : Counts = record { full = n; rate = b; bad = c; large = d } in y) p
    ∙ ap (λ (n : ℕ). let y : Counts = record { full = x.full; rate = n; bad = c; large = d } in y) q
    ∙ ap (λ (n : ℕ). let y : Counts = record { full = x.full; rate = x.rate; bad = n; large = d } in y) r
    ∙ ap (λ (n : ℕ). let y : Counts = record { full = x.full; rate = x.rate; bad = x.bad; large = n } in y) s

-- the first missed number and the counts of a Gap are read again
pub gap_read : (first : ℕ) (c : Counts) → first < 2 ^ 64 → IsMissed c → (missed_in (gap_payload first c) ≡ c) × (u64_at 0 (gap_payload first c) ≡ first)
gap_read first c small m =
    let bytes : List ℕ = gap_payload first c in
    let r0 = read_u64 0 first bytes _ refl small in
    let r1 = read_u64 8 c.full bytes _ r0.1 m.full in
    let r2 = read_u64 16 c.rate bytes _ r1.1 m.rate in
    let r3 = read_u64 24 c.bad bytes _ r2.1 m.bad in
    let r4 = read_u64 32 c.large bytes _ r3.1 m.large in
    (same_counts _ _ _ _ c r1.0 r2.0 r3.0 r4.0, r0.0)

-- one number more of what stands from an offset on
pub then_number : (bytes xs rest : List ℕ) (n : ℕ) → bytes ≡ le_u64 n ++ rest → rest ≡ xs → bytes ≡ le_u64 n ++ xs
then_number bytes xs rest n e f = e ∙ ap (λ (ys : List ℕ). le_u64 n ++ ys) f

-- forty bytes are five numbers
pub gap_spelled : (first : ℕ) (bytes : List ℕ) → IsBytes bytes → length bytes ≡ 40 → u64_at 0 bytes ≡ first → bytes ≡ gap_payload first (missed_in bytes)
gap_spelled first bytes are_bytes long is =
    let e4 = then_number _ [] _ _ (spelled_u64 32 bytes are_bytes (omega (arith, long))) (drop_all 40 bytes (omega (arith, long))) in
    let e3 = then_number _ _ _ _ (spelled_u64 24 bytes are_bytes (omega (arith, long))) e4 in
    let e2 = then_number _ _ _ _ (spelled_u64 16 bytes are_bytes (omega (arith, long))) e3 in
    let e1 = then_number _ _ _ _ (spelled_u64 8 bytes are_bytes (omega (arith, long))) e2 in
    let e0 : bytes ≡ gap_payload (u64_at 0 bytes) (missed_in bytes) = then_number _ _ _ _ (spelled_u64 0 bytes are_bytes (omega (arith, long))) e1 in
    e0 ∙ ap (λ (n : ℕ). gap_payload n (missed_in bytes)) is

-- the payload of a Gap has room for its counts
pub gap_long : (kind : Kind) (number : ℕ) (bytes : List ℕ) → kind ≡ KindGap → bytes ≡ payload number (content_of kind bytes) → 40 ≤ length bytes
gap_long kind number bytes is carried =
    let gap : bytes ≡ gap_payload number (missed_in bytes) = subst (λ (k : Kind). bytes ≡ payload number (content_of k bytes)) is carried in
    omega (arith, length-gap_payload number (missed_in bytes), ap length gap)

-- counts in a payload are those of a Gap where something was missed
pub missed_kept : (bytes : List ℕ) → IsBytes bytes → 0 < total (missed_in bytes) → IsMissed (missed_in bytes)
missed_kept bytes are_bytes some = record {
  full = u64_at-fits 8 bytes are_bytes;
  rate = u64_at-fits 16 bytes are_bytes;
  bad = u64_at-fits 24 bytes are_bytes;
  large = u64_at-fits 32 bytes are_bytes;
  some = some;
}

-- A Gap that is made of its first missed number and its counts

abbrev pub gap_of : (missed : Counts) (group bits place first tick : ℕ) (utc : ℤ) → Record
gap_of missed group bits place first tick utc =
    record { content = Gap missed; group = group; bits = bits; place = place; number = first; tick = tick; utc = utc }

pub gap_made : (missed : Counts) (group bits place first tick : ℕ) (utc : ℤ) (bytes : List ℕ) → bytes ≡ gap_payload first missed → IsStamp utc → IsMissed missed → first < 2 ^ 64
    → gap_of (missed_in bytes) group bits place first tick (to_z w64 (of_z w64 utc)) ≡ gap_of missed group bits place first tick utc
gap_made missed group bits place first tick utc bytes is stamp legal small =
    ap (λ (c : Counts). gap_of c group bits place first tick (to_z w64 (of_z w64 utc))) (ap missed_in is ∙ (gap_read first missed small legal).0)
    ∙ ap (λ (z : ℤ). gap_of missed group bits place first tick z) (stamp_kept utc stamp)

pub gap_carried : (missed : Counts) (group bits place first tick : ℕ) (utc : ℤ) (bytes : List ℕ) → bytes ≡ gap_payload first missed → IsStamp utc → IsMissed missed → first < 2 ^ 64
    → group ≤ 15 → bits < 2 ^ 64 → place < 2 ^ 63 → tick < 2 ^ 63 → Carries (gap_of (missed_in bytes) group bits place first tick (to_z w64 (of_z w64 utc))) bytes
gap_carried missed group bits place first tick utc bytes is stamp legal small g b p t =
    let made = gap_made missed group bits place first tick utc bytes is stamp legal small in
    let whole : Carries (gap_of missed group bits place first tick utc) bytes = record { legal = record { content = (g, legal); bits = b; place = p; number = small; tick = t; utc = stamp }; payload_is = is } in
    subst (λ (r : Record). Carries r bytes) (sym made) whole

-- What the code writes for a kind and for a stamp

pub code_is : (kind : Kind) (bytes : List ℕ) → kind_code (content_of kind bytes) ≡ code_of kind
code_is KindStart bytes = refl
code_is KindDatagram bytes = refl
code_is KindGap bytes = refl
code_is KindStop bytes = refl

pub stamp_written : (utc : ℤ) (stamp : ℕ) → IsStamp utc → stamp ≡ unsigned_abs (to_z w64 (of_z w64 utc)) → stamp ≡ unsigned_abs utc
stamp_written utc stamp legal is = is ∙ ap unsigned_abs (stamp_kept utc legal)
