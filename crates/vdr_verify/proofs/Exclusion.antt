-- No evidence is refused, and one file is that of one content.
use Rattle.std.proofs.Common.{◌≡◌, ◌<◌, ◌⊎◌, inl, inr, ℕ, List, [], ◌∷◌, ◌++◌, length, Option, None, Some, refl, ap, ◌∙◌, sym, subst, append_assoc, append-nil, arith, codes}
use Rattle.std.specs.List.{flat_map}
use Rattle.std.proofs.lemmas.List.{append_cancel_left}
use Rattle.sha2.specs.Sha256.{sha256}
use Rattle.vdr_bytes.specs.Numbers.{le_u32, le_u64}
use Rattle.vdr_terms.specs.Legality.{IsRecord}
use Rattle.vdr_terms.specs.Records.{Record}
use Rattle.vdr_config.specs.Configuration.{Configuration}
use Rattle.vdr_entry.specs.Spelling.{record_bytes}
use Rattle.vdr_entry.proofs.SpellingLemmas.{length-record_bytes}
use Rattle.vdr_evidence.specs.Files.{Heading, counted, covered, end_mark, evidence_bytes, heading_bytes, part, record_part, record_parts}
use Rattle.vdr_verify.specs.Laws.{NoEvidenceStops, OneContent}
use Rattle.vdr_verify.specs.Legal.{AreNext, AreParts, Asks, IsEvidence, IsHeading, IsNext, MayFollow, parts_of}
use Rattle.vdr_verify.specs.Stops.{AtDigest, AtEnd, AtRecord, BehindAll, InHeading, Stops, part_behind}
use Rattle.vdr_verify.specs.declared.part.Part.{Part}
use Rattle.vdr_verify.specs.declared.part.Part.TheVariants as parts
use Rattle.vdr_verify.specs.declared.query.Asked.{Asked}
use Rattle.vdr_verify.proofs.Heads.{heading_is, may_short, one_id, same_config}
use Rattle.vdr_verify.proofs.Lists.{part_none, record_length, same_bytes}
use Rattle.vdr_verify.proofs.Pieces.{one_part}
use Rattle.vdr_verify.proofs.Queries.{one_asked}

-- ---- the parts of a heading

-- Fewer parts at the front of the same bytes are the first of them, so that a legal one stands behind.
walk : (front before all : List (List ℕ)) (rest tail : List ℕ) → AreParts front before → AreParts front all → length before < length all → flat_map part before ++ rest ≡ flat_map part all ++ tail
    → ((x after : List ℕ) → MayFollow (front ++ before) x → rest ≡ part x ++ after → ⊥) → ⊥
walk front [] [] rest tail are of fewer e lacks = absurd (omega (arith, fewer))
walk front (b ∷ before) [] rest tail are of fewer e lacks = absurd (omega (arith, fewer))
walk front [] (p ∷ all) rest tail are of fewer e lacks =
    lacks p (flat_map part all ++ tail) (subst (λ (l : List (List ℕ)). MayFollow l p) (sym (append-nil front)) of.0) (e ∙ append_assoc (part p) (flat_map part all) tail)
walk front (b ∷ before) (p ∷ all) rest tail are of fewer e lacks =
    let same = one_part b p (flat_map part before ++ rest) (flat_map part all ++ tail) (may_short front b are.0) (may_short front p of.0)
    (sym (append_assoc (part b) (flat_map part before) rest) ∙ e ∙ append_assoc (part p) (flat_map part all) tail) in
    walk (front ++ b ∷ []) before all rest tail are.1 (subst (λ (x : List ℕ). AreParts (front ++ x ∷ []) all) (sym same.0) of.1) (omega (arith, fewer)) same.1
    (λ x after legal. lacks x after (subst (λ (l : List (List ℕ)). MayFollow l x) (append_assoc front (b ∷ []) before) legal))

-- As many are the same.
same_parts : (front before all : List (List ℕ)) (rest tail : List ℕ) → AreParts front before → AreParts front all → length before ≡ length all → flat_map part before ++ rest ≡ flat_map part all ++ tail → (before ≡ all) × (rest ≡ tail)
same_parts front [] [] rest tail are of long e = (refl, e)
same_parts front (b ∷ before) [] rest tail are of long e = absurd (omega (arith, long))
same_parts front [] (p ∷ all) rest tail are of long e = absurd (omega (arith, long))
same_parts front (b ∷ before) (p ∷ all) rest tail are of long e =
    let same = one_part b p (flat_map part before ++ rest) (flat_map part all ++ tail) (may_short front b are.0) (may_short front p of.0)
    (sym (append_assoc (part b) (flat_map part before) rest) ∙ e ∙ append_assoc (part p) (flat_map part all) tail) in
    let more = same_parts (front ++ b ∷ []) before all rest tail are.1 (subst (λ (x : List ℕ). AreParts (front ++ x ∷ []) all) (sym same.0) of.1) (omega (arith, long)) same.1 in
    (λ i. same.0 i ∷ more.0 i, more.1)

token_off : (x y : List ℕ) → codes "VDREVID1" ++ x ≡ codes "VDREVID1" ++ y → x ≡ y
token_off x y e = append_cancel_left (codes "VDREVID1") x y e

spread : (h : Heading) (rest : List ℕ) → heading_bytes h ++ rest ≡ codes "VDREVID1" ++ (flat_map part (parts_of h) ++ rest)
spread h rest = ap (λ (l : List ℕ). l ++ rest) (heading_is h) ∙ append_assoc (codes "VDREVID1") (flat_map part (parts_of h)) rest

pub same_heading : (h k : Heading) (p q : Asked) (rest tail : List ℕ) → IsHeading h p → IsHeading k q → heading_bytes h ++ rest ≡ heading_bytes k ++ tail → (h ≡ k) × (rest ≡ tail)
same_heading h k p q rest tail of_h of_k e =
    let same = same_parts [] (parts_of h) (parts_of k) rest tail of_h.parts of_k.parts refl (token_off _ _ (sym (spread h rest) ∙ e ∙ spread k tail)) in
    (fields same.0, same.1)
  where
    first : (a b : List ℕ) (x y : List (List ℕ)) → a ∷ x ≡ b ∷ y → (a ≡ b) × (x ≡ y)
    first a b x y e = (cc, cc)

    byte : (a b : ℕ) → a ∷ [] ≡ b ∷ [] → a ≡ b
    byte a b e = cc

    fields : parts_of h ≡ parts_of k → h ≡ k
    fields e =
        let text = first h.text k.text _ _ e in
        let medium = first (h.medium ∷ []) (k.medium ∷ []) _ _ text.1 in
        let incident = first (le_u32 h.incident) (le_u32 k.incident) _ _ medium.1 in
        let label = first h.label k.label _ _ incident.1 in
        let query = first h.query k.query _ _ label.1 in
        let number = byte h.medium k.medium medium.0 in
        let id = one_id h.incident k.incident of_h.small of_k.small incident.0 in
        λ i. record { text = text.0 i; medium = number i; incident = id i; label = label.0 i; query = query.0 i }

pub same_asked : (h k : Heading) (p q : Asked) → IsHeading h p → IsHeading k q → h ≡ k → p ≡ q
same_asked h k p q of_h of_k same =
    let moved = subst (λ (x : Heading). IsHeading x p) same of_h in
    let config = same_config k.text moved.config of_k.config moved.read of_k.read in
    one_asked of_k.config k.query p q (subst (λ (c : Configuration). Asks c k.query p) config moved.asks) of_k.asks

-- ---- the records

-- the length of no record is 0
pub no_end : (r : Record) (x y : List ℕ) → IsRecord r → record_part r ++ x ≡ le_u32 0 ++ y → ⊥
no_end r x y legal e =
    let short = record_length r legal in
    let same = one_part (record_bytes r) [] x y (omega (arith, short)) (omega arith) (e ∙ ap (λ (l : List ℕ). l ++ y) (sym part_none)) in
    let size : length (record_bytes r) ≡ 0 = ap (λ (l : List ℕ). length l) same.0 in
    omega (arith, size, length-record_bytes r)

pub one_record_at : (r s : Record) (x y : List ℕ) → IsRecord r → IsRecord s → record_part r ++ x ≡ record_part s ++ y → (r ≡ s) × (x ≡ y)
one_record_at r s x y legal too e =
    let short = record_length r legal in
    let fits = record_length s too in
    let same = one_part (record_bytes r) (record_bytes s) x y (omega (arith, short)) (omega (arith, fits)) e in
    (same_bytes r s legal too same.0, same.1)

classify : (q : Asked) (front before records : List Record) (rest tail : List ℕ) → AreNext q front before → AreNext q front records → record_parts before ++ rest ≡ record_parts records ++ (le_u32 0 ++ tail)
    → ((r : Record) × (after : List ℕ) × IsNext q (front ++ before) r × (rest ≡ record_part r ++ after)) ⊎ ((before ≡ records) × (rest ≡ le_u32 0 ++ tail))
classify q front [] [] rest tail are of e = inr (refl, e)
classify q front [] (s ∷ records) rest tail are of e =
    inl (s, record_parts records ++ (le_u32 0 ++ tail), subst (λ (l : List Record). IsNext q l s) (sym (append-nil front)) of.0, e ∙ append_assoc (record_part s) (record_parts records) (le_u32 0 ++ tail))
classify q front (r ∷ before) [] rest tail are of e = absurd (no_end r (record_parts before ++ rest) tail are.0.legal (sym (append_assoc (record_part r) (record_parts before) rest) ∙ e))
classify q front (r ∷ before) (s ∷ records) rest tail are of e =
    let short = record_length r are.0.legal in
    let too = record_length s of.0.legal in
    let same = one_part (record_bytes r) (record_bytes s) (record_parts before ++ rest) (record_parts records ++ (le_u32 0 ++ tail)) (omega (arith, short)) (omega (arith, too))
    (sym (append_assoc (record_part r) (record_parts before) rest) ∙ e ∙ append_assoc (record_part s) (record_parts records) (le_u32 0 ++ tail)) in
    let one : r ≡ s = same_bytes r s are.0.legal of.0.legal same.0 in
    let of_more = subst (λ (x : Record). AreNext q (front ++ x ∷ []) records) (sym one) of.1 in
    later (classify q (front ++ r ∷ []) before records rest tail are.1 of_more same.1) one
  where
    later : ((x : Record) × (after : List ℕ) × IsNext q ((front ++ r ∷ []) ++ before) x × (rest ≡ record_part x ++ after)) ⊎ ((before ≡ records) × (rest ≡ le_u32 0 ++ tail)) → r ≡ s
        → ((x : Record) × (after : List ℕ) × IsNext q (front ++ (r ∷ before)) x × (rest ≡ record_part x ++ after)) ⊎ ((r ∷ before ≡ s ∷ records) × (rest ≡ le_u32 0 ++ tail))
    later (inl found) one = inl (found.0, found.1, subst (λ (l : List Record). IsNext q l found.0) (append_assoc front (r ∷ []) before) found.2, found.3)
    later (inr all) one = inr (λ i. one i ∷ all.0 i, all.1)

-- ---- the file

pub whole : (h : Heading) (records : List Record) (rest : List ℕ) → covered (heading_bytes h) records ++ rest ≡ heading_bytes h ++ (record_parts records ++ (le_u32 0 ++ (le_u64 (counted records) ++ rest)))
whole h records rest =
    append_assoc (heading_bytes h ++ record_parts records) (end_mark records) rest
    ∙ append_assoc (heading_bytes h) (record_parts records) (end_mark records ++ rest)
    ∙ ap (λ (l : List ℕ). heading_bytes h ++ (record_parts records ++ l)) (append_assoc (le_u32 0) (le_u64 (counted records)) rest)

-- Of evidence: what was read of its heading and of its records, and what stands behind these.
pub found : (bytes rest : List ℕ) (h k : Heading) (p q : Asked) (seen records : List Record) → IsHeading h p → AreNext p [] seen → IsHeading k q → AreNext q [] records → bytes ≡ evidence_bytes (heading_bytes k) records
    → bytes ≡ (heading_bytes h ++ record_parts seen) ++ rest
    → ((r : Record) × (after : List ℕ) × IsNext p seen r × (rest ≡ record_part r ++ after))
    ⊎ ((h ≡ k) × (seen ≡ records) × (rest ≡ le_u32 0 ++ (le_u64 (counted records) ++ sha256 (covered (heading_bytes k) records))))
found bytes rest h k p q seen records of_h are of_k of is split =
    let digest = sha256 (covered (heading_bytes k) records) in
    let e : heading_bytes h ++ (record_parts seen ++ rest) ≡ heading_bytes k ++ (record_parts records ++ (le_u32 0 ++ (le_u64 (counted records) ++ digest))) =
    sym (append_assoc (heading_bytes h) (record_parts seen) rest) ∙ sym split ∙ is ∙ whole k records digest in
    let same = same_heading h k p q _ _ of_h of_k e in
    let asked : p ≡ q = same_asked h k p q of_h of_k same.0 in
    so same.0 (classify p [] seen records rest (le_u64 (counted records) ++ digest) are (subst (λ (x : Asked). AreNext x [] records) (sym asked) of) same.1)
  where
    so : h ≡ k
        → ((r : Record) × (after : List ℕ) × IsNext p seen r × (rest ≡ record_part r ++ after)) ⊎ ((seen ≡ records) × (rest ≡ le_u32 0 ++ (le_u64 (counted records) ++ sha256 (covered (heading_bytes k) records))))
        → ((r : Record) × (after : List ℕ) × IsNext p seen r × (rest ≡ record_part r ++ after))
        ⊎ ((h ≡ k) × (seen ≡ records) × (rest ≡ le_u32 0 ++ (le_u64 (counted records) ++ sha256 (covered (heading_bytes k) records))))
    so same (inl next) = inl next
    so same (inr all) = inr (same, all.0, all.1)

-- ---- no part of it is refused

module _ (bytes : List ℕ) (k : Heading) (records : List Record) (is : IsEvidence bytes k records) where
  at_token : (rest : List ℕ) → bytes ≡ rest → ((after : List ℕ) → rest ≡ codes "VDREVID1" ++ after → ⊥) → ⊥
  at_token rest split lacks =
      let digest = sha256 (covered (heading_bytes k) records) in
      lacks _ (sym split ∙ is.spelled ∙ whole k records digest ∙ spread k _)

  at_heading : (named : Part) (front rest : List ℕ) → bytes ≡ front ++ rest → InHeading named front rest → ⊥
  at_heading named front rest split at =
      let digest = sha256 (covered (heading_bytes k) records) in
      let e : codes "VDREVID1" ++ (flat_map part at.before ++ rest) ≡ codes "VDREVID1" ++ (flat_map part (parts_of k) ++ (record_parts records ++ (le_u32 0 ++ (le_u64 (counted records) ++ digest)))) =
      sym (append_assoc (codes "VDREVID1") (flat_map part at.before) rest) ∙ ap (λ (l : List ℕ). l ++ rest) (sym at.front_is) ∙ sym split ∙ is.spelled ∙ whole k records digest ∙ spread k _ in
      walk [] at.before (parts_of k) rest _ at.legal is.heading.parts (few at.before at.named_is) (token_off _ _ e) at.lacks
    where
      none : (a : Part) → ◌≡◌ {A = Option Part} (Some a) None → ⊥
      none a e = cc

      few : (l : List (List ℕ)) → Some named ≡ part_behind l → length l < 5
      few [] e = omega arith
      few (a ∷ []) e = omega arith
      few (a ∷ b ∷ []) e = omega arith
      few (a ∷ b ∷ c ∷ []) e = omega arith
      few (a ∷ b ∷ c ∷ d ∷ []) e = omega arith
      few (a ∷ b ∷ c ∷ d ∷ f ∷ more) e = absurd (none named e)

  at_record : (front rest : List ℕ) → bytes ≡ front ++ rest → AtRecord front rest → ⊥
  at_record front rest split at = go (found bytes rest at.h k at.q is.query at.records records at.holds.heading at.holds.legal is.heading is.legal is.spelled (split ∙ ap (λ (l : List ℕ). l ++ rest) at.front_is))
    where
      go : ((r : Record) × (after : List ℕ) × IsNext at.q at.records r × (rest ≡ record_part r ++ after))
          ⊎ ((at.h ≡ k) × (at.records ≡ records) × (rest ≡ le_u32 0 ++ (le_u64 (counted records) ++ sha256 (covered (heading_bytes k) records)))) → ⊥
      go (inl next) = at.lacks next.0 next.1 next.2 next.3
      go (inr all) = at.lacks_end _ all.2

  at_end : (front rest : List ℕ) → bytes ≡ front ++ rest → AtEnd front rest → ⊥
  at_end front rest split at = go (found bytes rest at.h k at.q is.query at.records records at.holds.heading at.holds.legal is.heading is.legal is.spelled (split ∙ ap (λ (l : List ℕ). l ++ rest) at.front_is))
    where
      go : ((r : Record) × (after : List ℕ) × IsNext at.q at.records r × (rest ≡ record_part r ++ after))
          ⊎ ((at.h ≡ k) × (at.records ≡ records) × (rest ≡ le_u32 0 ++ (le_u64 (counted records) ++ sha256 (covered (heading_bytes k) records)))) → ⊥
      go (inl next) = no_end next.0 next.1 at.after next.2.legal (sym next.3 ∙ at.begins)
      go (inr all) =
          at.lacks (sha256 (covered (heading_bytes k) records))
          (all.2 ∙ sym (append_assoc (le_u32 0) (le_u64 (counted records)) (sha256 (covered (heading_bytes k) records))) ∙ ap (λ (l : List Record). end_mark l ++ sha256 (covered (heading_bytes k) records)) (sym all.1))

  behind_end : (h : Heading) (q : Asked) (seen : List Record) (rest : List ℕ) → IsHeading h q → AreNext q [] seen → bytes ≡ covered (heading_bytes h) seen ++ rest → rest ≡ sha256 (covered (heading_bytes h) seen)
  behind_end h q seen rest of_h are split =
      go (found bytes (le_u32 0 ++ (le_u64 (counted seen) ++ rest)) h k q is.query seen records of_h are is.heading is.legal is.spelled
      (split ∙ whole h seen rest ∙ sym (append_assoc (heading_bytes h) (record_parts seen) (le_u32 0 ++ (le_u64 (counted seen) ++ rest)))))
    where
      cancel : (n : ℕ) (x y : List ℕ) → le_u32 0 ++ (le_u64 n ++ x) ≡ le_u32 0 ++ (le_u64 n ++ y) → x ≡ y
      cancel n x y e = append_cancel_left (le_u64 n) x y (append_cancel_left (le_u32 0) (le_u64 n ++ x) (le_u64 n ++ y) e)

      go : ((r : Record) × (after : List ℕ) × IsNext q seen r × (le_u32 0 ++ (le_u64 (counted seen) ++ rest) ≡ record_part r ++ after))
          ⊎ ((h ≡ k) × (seen ≡ records) × (le_u32 0 ++ (le_u64 (counted seen) ++ rest) ≡ le_u32 0 ++ (le_u64 (counted records) ++ sha256 (covered (heading_bytes k) records)))) → rest ≡ sha256 (covered (heading_bytes h) seen)
      go (inl next) = absurd (no_end next.0 next.1 (le_u64 (counted seen) ++ rest) next.2.legal (sym next.3))
      go (inr all) =
          cancel (counted seen) rest (sha256 (covered (heading_bytes h) seen))
          (all.2 ∙ (λ i. le_u32 0 ++ (le_u64 (counted (sym all.1 i)) ++ sha256 (covered (heading_bytes (sym all.0 i)) (sym all.1 i)))))

  at_digest : (front rest : List ℕ) → bytes ≡ front ++ rest → AtDigest front rest → ⊥
  at_digest front rest split at =
      at.lacks [] (behind_end at.h at.q at.records rest at.holds.heading at.holds.legal (split ∙ ap (λ (l : List ℕ). l ++ rest) at.front_is) ∙ sym (append-nil (sha256 (covered (heading_bytes at.h) at.records))))

  at_behind : (front rest : List ℕ) → bytes ≡ front ++ rest → BehindAll front rest → ⊥
  at_behind front rest split at =
      let digest = sha256 (covered (heading_bytes at.h) at.records) in
      let e = behind_end at.h at.q at.records (digest ++ rest) at.holds.heading at.holds.legal (split ∙ ap (λ (l : List ℕ). l ++ rest) at.front_is ∙ append_assoc (covered (heading_bytes at.h) at.records) digest rest) in
      at.some (append_cancel_left digest rest [] (e ∙ sym (append-nil digest)))

pub no_evidence_stops : NoEvidenceStops
no_evidence_stops bytes h records named offset is at = go named at.stops
  where
    go : (named : Part) → Stops named at.front at.rest → ⊥
    go parts.Token stops = at_token bytes h records is at.rest (at.split ∙ ap (λ (l : List ℕ). l ++ at.rest) stops.0) stops.1
    go parts.Configuration stops = at_heading bytes h records is parts.Configuration at.front at.rest at.split stops
    go parts.Medium stops = at_heading bytes h records is parts.Medium at.front at.rest at.split stops
    go parts.Incident stops = at_heading bytes h records is parts.Incident at.front at.rest at.split stops
    go parts.Label stops = at_heading bytes h records is parts.Label at.front at.rest at.split stops
    go parts.Query stops = at_heading bytes h records is parts.Query at.front at.rest at.split stops
    go parts.Record stops = at_record bytes h records is at.front at.rest at.split stops
    go parts.End stops = at_end bytes h records is at.front at.rest at.split stops
    go parts.Digest stops = at_digest bytes h records is at.front at.rest at.split stops
    go parts.Behind stops = at_behind bytes h records is at.front at.rest at.split stops

-- ---- one content

pub one_content_each : OneContent
one_content_each bytes h k xs ys is too =
    go (found bytes (le_u32 0 ++ (le_u64 (counted xs) ++ sha256 (covered (heading_bytes h) xs))) h k is.query too.query xs ys is.heading is.legal too.heading too.legal too.spelled
    (is.spelled ∙ whole h xs (sha256 (covered (heading_bytes h) xs))
    ∙ sym (append_assoc (heading_bytes h) (record_parts xs) (le_u32 0 ++ (le_u64 (counted xs) ++ sha256 (covered (heading_bytes h) xs))))))
  where
    go : ((r : Record) × (after : List ℕ) × IsNext is.query xs r × (le_u32 0 ++ (le_u64 (counted xs) ++ sha256 (covered (heading_bytes h) xs)) ≡ record_part r ++ after))
        ⊎ ((h ≡ k) × (xs ≡ ys) × (le_u32 0 ++ (le_u64 (counted xs) ++ sha256 (covered (heading_bytes h) xs)) ≡ le_u32 0 ++ (le_u64 (counted ys) ++ sha256 (covered (heading_bytes k) ys)))) → (h ≡ k) × (xs ≡ ys)
    go (inl next) = absurd (no_end next.0 next.1 (le_u64 (counted xs) ++ sha256 (covered (heading_bytes h) xs)) next.2.legal (sym next.3))
    go (inr all) = (all.0, all.1)
