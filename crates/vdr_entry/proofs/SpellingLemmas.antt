-- The spelling of a record, from its parts.
use Rattle.std.proofs.Common.{◌≡◌, ◌≤◌, ◌+◌, ℕ, List, [], ◌∷◌, ◌++◌, length, refl, ap, ◌∙◌, sym, subst, arith, Bool, true, false, cond, lit≤}
use Rattle.std.specs.Prelude.{nat_lt, unsigned_abs}
use Rattle.std.proofs.lemmas.Bool.{ltb-false}
use Rattle.std.proofs.lemmas.List.{length-append}
use Rattle.vdr_bytes.specs.Numbers.{le_u16, le_u64s, Puts}
use Rattle.vdr_bytes.proofs.NumberLemmas.{length-le_u16}
use Rattle.vdr_bytes.proofs.PutsLemmas.{length-le_u64s, puts-more}
use Rattle.vdr_terms.specs.declared.counts.Counts.{Counts}
use Rattle.vdr_terms.specs.declared.datagram.Verdict.TheVariants.{Yes, Bad, Large}
use Rattle.vdr_terms.specs.Datagrams.{verdict, has_token}
use Rattle.vdr_terms.specs.Legality.{IsRecord, IsContent}
use Rattle.vdr_terms.specs.Records.{Record, Content}
use Rattle.vdr_terms.specs.Records.Content.{Start, Datagram, Gap, Stop}
use Rattle.vdr_terms.specs.Sizes.{payload_size, record_size}
use Rattle.vdr_entry.specs.Fields.{Carries}
use Rattle.vdr_entry.specs.Spelling.{kind_code, gap_payload, payload, numbers, head, record_bytes}

-- Lengths

pub length-gap_payload : (first : ℕ) (c : Counts) → length (gap_payload first c) ≡ 40
length-gap_payload first c = length-le_u64s (first ∷ c.full ∷ c.rate ∷ c.bad ∷ c.large ∷ [])

pub length-payload : (number : ℕ) (c : Content) → length (payload number c) ≡ payload_size c
length-payload number Start = refl
length-payload number (Datagram bytes) = refl
length-payload number (Gap missed) = length-gap_payload number missed
length-payload number Stop = refl

pub length-numbers : (r : Record) → length (numbers r) ≡ 40
unfolding numbers
length-numbers r = length-le_u64s (r.bits ∷ r.place ∷ r.number ∷ r.tick ∷ unsigned_abs r.utc ∷ [])

pub length-head : (len : ℕ) (r : Record) → length (head len r) ≡ 44
unfolding head
length-head len r = omega (arith, length-append (le_u16 len) (numbers r), length-le_u16 len, length-numbers r)

-- A record takes as many bytes as its size says.
pub length-record_bytes : (r : Record) → length (record_bytes r) ≡ record_size r
unfolding record_bytes
length-record_bytes r =
    let part : List ℕ = payload r.number r.content in
    length-append (head (length part) r) part ∙ omega (arith, length-head (length part) r, length-payload r.number r.content)

-- A recordable datagram has at most 1,472 bytes.
pub recordable_short : (bytes : List ℕ) → verdict bytes ≡ Yes → length bytes ≤ 1472
recordable_short bytes recordable =
    let at : (b : Bool) → nat_lt 1472 (length bytes) ≡ b → length bytes ≤ 1472 = λ b. elim b as (λ v. nat_lt 1472 (length bytes) ≡ v → length bytes ≤ 1472) [
      | true ↦ λ is. absurd (never bytes is recordable)
      | false ↦ λ is. ltb-false 1472 (length bytes) is
    ] in
    at (nat_lt 1472 (length bytes)) refl where
      never : (bytes : List ℕ) → nat_lt 1472 (length bytes) ≡ true → verdict bytes ≡ Yes → ⊥
      never bytes is recordable = let bad : Large ≡ Yes = sym (ap (λ (b : Bool). cond b Large (cond (has_token bytes) Yes Bad)) is) ∙ recordable in cc

content_short : (group number : ℕ) (c : Content) → IsContent group number c → payload_size c ≤ 1472
content_short group number Start legal = lit≤ tt
content_short group number (Datagram bytes) legal = recordable_short bytes legal.1
content_short group number (Gap missed) legal = lit≤ tt
content_short group number Stop legal = lit≤ tt

-- A record takes at most 1,516 bytes.
pub record_short : (r : Record) → IsRecord r → record_size r ≤ 1516
record_short r legal = omega (arith, content_short r.group r.number r.content legal.content)

-- The size by the payload that the fields carry.
pub carried_size : (r v : Record) (bytes : List ℕ) → Carries r bytes → r ≡ v → record_size v ≡ 44 + length bytes
carried_size r v bytes carried same =
    let here : record_size r ≡ 44 + length bytes = omega (arith, length-payload r.number r.content, ap length carried.payload_is) in
    subst (λ (x : Record). record_size x ≡ 44 + length bytes) same here

pub carried_short : (r v : Record) (bytes : List ℕ) → Carries r bytes → r ≡ v → record_size v ≤ 1516
carried_short r v bytes carried same = subst (λ (x : Record). record_size x ≤ 1516) same (record_short r carried.legal)

-- Writes

-- the four writes of a record are one
record_put : (r : Record) (bytes a b c d e : List ℕ) → bytes ≡ payload r.number r.content → 44 + length bytes ≤ length a
    → Puts a b 0 (kind_code r.content ∷ r.group ∷ []) → Puts b c 2 (le_u16 (length bytes)) → Puts c d 4 (numbers r) → Puts d e 44 bytes → Puts a e 0 (record_bytes r)
unfolding head record_bytes
record_put r bytes a b c d e is fits p q s t =
    let two : List ℕ = kind_code r.content ∷ r.group ∷ [] in
    let four : List ℕ = kind_code r.content ∷ r.group ∷ le_u16 (length bytes) in
    let long : length (le_u16 (length bytes)) ≡ 2 = length-le_u16 (length bytes) in
    let long_head : length (four ++ numbers r) ≡ 44 = omega (arith, length-append (le_u16 (length bytes)) (numbers r), length-numbers r, long) in
    let w2 : Puts a c 0 four = puts-more a b c 0 2 two (le_u16 (length bytes)) p q refl (omega (arith, fits)) in
    let w3 : Puts a d 0 (four ++ numbers r) = puts-more a c d 0 4 four (numbers r) w2 s (omega (arith, long)) (omega (arith, long, fits)) in
    let w4 : Puts a e 0 ((four ++ numbers r) ++ bytes) = puts-more a d e 0 44 (four ++ numbers r) bytes w3 t (omega (arith, long_head)) (omega (arith, long_head, fits)) in
    let whole : (xs : List ℕ) → xs ≡ bytes → Puts a e 0 ((kind_code r.content ∷ r.group ∷ (le_u16 (length xs) ++ numbers r)) ++ xs) =
    λ xs same. subst (λ (ys : List ℕ). Puts a e 0 ((kind_code r.content ∷ r.group ∷ (le_u16 (length ys) ++ numbers r)) ++ ys)) (sym same) w4 in
    whole (payload r.number r.content) (sym is)

-- the four writes, with what the code passes
pub carried_put : (r v : Record) (bytes : List ℕ) → Carries r bytes → r ≡ v → (code len stamp : ℕ) (written a b c d e : List ℕ)
    → code ≡ kind_code r.content → len ≡ length bytes → stamp ≡ unsigned_abs r.utc → written ≡ bytes → record_size v ≤ length a
    → Puts a b 0 (code ∷ r.group ∷ []) → Puts b c 2 (le_u16 len) → Puts c d 4 (le_u64s (r.bits ∷ r.place ∷ r.number ∷ r.tick ∷ stamp ∷ [])) → Puts d e 44 written
    → Puts a e 0 (record_bytes v)
unfolding numbers
carried_put r v bytes carried same code len stamp written a b c d e code_is len_is stamp_is written_is fits p q s t =
    let size = carried_size r v bytes carried same in
    let p' : Puts a b 0 (kind_code r.content ∷ r.group ∷ []) = subst (λ (n : ℕ). Puts a b 0 (n ∷ r.group ∷ [])) code_is p in
    let q' : Puts b c 2 (le_u16 (length bytes)) = subst (λ (n : ℕ). Puts b c 2 (le_u16 n)) len_is q in
    let s' : Puts c d 4 (numbers r) = subst (λ (n : ℕ). Puts c d 4 (le_u64s (r.bits ∷ r.place ∷ r.number ∷ r.tick ∷ n ∷ []))) stamp_is s in
    let t' : Puts d e 44 bytes = subst (λ (xs : List ℕ). Puts d e 44 xs) written_is t in
    subst (λ (x : Record). Puts a e 0 (record_bytes x)) same (record_put r bytes a b c d e carried.payload_is (omega (arith, size, fits)) p' q' s' t')
