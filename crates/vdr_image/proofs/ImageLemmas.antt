-- Image datagrams, read and spelled.
use Rattle.std.proofs.Common.{◌≡◌, inl, inr, ◌≤◌, ◌<◌, ◌-◌, ◌^◌, ℕ, true, false, List, [], ◌∷◌, ◌++◌, length, take, drop, Some, None, refl, ap, ◌∙◌, sym, subst, arith}
use Rattle.std.specs.Prelude.{codes, nat_eq}
use Rattle.std.specs.List.{starts_with}
use Rattle.std.proofs.lemmas.Bool.{and_from, and_parts, cond-false, cond-true, eqb-true, eq-eqb, leb-true, le-leb, or_cases, or_left, or_right}
use Rattle.std.proofs.lemmas.Option.{cond_some, none-some}
use Rattle.std.proofs.lemmas.Slice.Eq.{bytes_eq-Decides}
use Rattle.std.proofs.lemmas.List.{append_assoc, length-append, length-drop, take-append-drop, take_all}
use Rattle.vdr_terms.specs.Legality.{IsBytes}
use Rattle.vdr_bytes.specs.Numbers.{le_u16, le_u32, u16_at, u32_at}
use Rattle.vdr_bytes.proofs.NumberLemmas.{cut, part_after, take-front, drop-front, length-le_u32, read_u16, read_u32, spelled_u16, spelled_u32, u32_at-fits}
use Rattle.vdr_image.specs.Headers.{Header, IsHeader, is_identifier}
use Rattle.vdr_image.specs.Images.{IsImage, IsToken, has_image_token, header_at, image_bytes, image_in, is_header, is_image}

-- headers with the same fields
same_header : (h : Header) (s d : List ℕ) (b n g : ℕ) (x : List ℕ) → s ≡ h.source → d ≡ h.destination → b ≡ h.block → n ≡ h.sequence → g ≡ h.greatest → x ≡ h.body
    → ◌≡◌ {A = Header} (record { source = s; destination = d; block = b; sequence = n; greatest = g; body = x }) h
same_header h s d b n g x es ed eb en eg ex =
    let same : ◌≡◌ {A = Header} (record { source = s; destination = d; block = b; sequence = n; greatest = g; body = x })
    (record { source = h.source; destination = h.destination; block = h.block; sequence = h.sequence; greatest = h.greatest; body = h.body }) = cc in
    same

-- The test of a header

IsHeader-from_test : (h : Header) → h.block < 2 ^ 32 → is_header h ≡ true → IsHeader h
IsHeader-from_test h small test =
    let outer = and_parts _ _ test in
    let named = and_parts _ _ outer.0 in
    let numbered = and_parts _ _ outer.1 in
    let order = and_parts _ _ numbered.0 in
    record { source = named.0; destination = named.1; block = small; first = leb-true _ _ order.0; last = leb-true _ _ order.1; most = leb-true _ _ numbered.1 }

test-from_IsHeader : (h : Header) → IsHeader h → is_header h ≡ true
test-from_IsHeader h legal =
    and_from _ _ (and_from _ _ legal.source legal.destination)
    (and_from _ _ (and_from _ _ (le-leb 1 h.sequence legal.first) (le-leb h.sequence h.greatest legal.last)) (le-leb h.greatest 65_535 legal.most))

length-identifier : (text : List ℕ) → is_identifier text ≡ true → length text ≡ 6
length-identifier text h = eqb-true (length text) 6 (and_parts _ _ h).0

-- The token at the front

token-from_test : (bytes : List ℕ) → has_image_token bytes ≡ true → IsToken (take 6 bytes)
token-from_test bytes h = elim (or_cases (starts_with nat_eq bytes (codes "RaUdP" ++ 0 ∷ [])) (starts_with nat_eq bytes (codes "RrUdP" ++ 0 ∷ [])) h) [
  | inl a ↦ inl (sym ((bytes_eq-Decides (codes "RaUdP" ++ 0 ∷ []) (take 6 bytes)).0 a))
  | inr b ↦ inr (sym ((bytes_eq-Decides (codes "RrUdP" ++ 0 ∷ []) (take 6 bytes)).0 b))
]

test-from_token : (bytes : List ℕ) → IsToken (take 6 bytes) → has_image_token bytes ≡ true
test-from_token bytes (inl e) = or_left _ _ ((bytes_eq-Decides (codes "RaUdP" ++ 0 ∷ []) (take 6 bytes)).1 (sym e))
test-from_token bytes (inr e) = or_right _ _ ((bytes_eq-Decides (codes "RrUdP" ++ 0 ∷ []) (take 6 bytes)).1 (sym e))

length-token : (token : List ℕ) → IsToken token → length token ≡ 6
length-token token (inl e) = ap length e
length-token token (inr e) = ap length e

-- The test of a datagram

-- What the test says.
record IsMet (bytes : List ℕ) : Type 0 where
  long : 32 ≤ length bytes
  token : IsToken (take 6 bytes)
  version : u16_at 6 bytes ≡ 1
  header : is_header (header_at bytes) ≡ true

IsMet-from_test : (bytes : List ℕ) → is_image bytes ≡ true → IsMet bytes
IsMet-from_test bytes h =
    let outer = and_parts _ _ h in
    let front = and_parts _ _ outer.0 in
    let sized = and_parts _ _ front.0 in
    record { long = leb-true _ _ sized.0; token = token-from_test bytes sized.1; version = eqb-true _ _ front.1; header = outer.1 }

test-from_IsMet : (bytes : List ℕ) → IsMet bytes → is_image bytes ≡ true
test-from_IsMet bytes met = and_from _ _ (and_from _ _ (and_from _ _ (le-leb _ _ met.long) (test-from_token bytes met.token)) (eq-eqb _ _ met.version)) met.header

legal : (bytes : List ℕ) → IsBytes bytes → IsMet bytes → IsHeader (header_at bytes)
unfolding header_at
legal bytes are_bytes met = IsHeader-from_test (header_at bytes) (u32_at-fits 20 bytes are_bytes) met.header

-- Read and spelled

-- a datagram as its parts
apart : (token : List ℕ) (h : Header)
    → image_bytes token h ≡ token ++ (le_u16 1 ++ (h.source ++ (h.destination ++ (le_u32 h.block ++ (le_u32 h.sequence ++ (le_u32 h.greatest ++ h.body))))))
unfolding image_bytes
apart token h = simp append_assoc

-- what stands at each offset, one behind the other
spelled : (bytes : List ℕ) → IsBytes bytes → IsMet bytes → bytes ≡ image_bytes (take 6 bytes) (header_at bytes)
unfolding header_at
spelled bytes are_bytes met =
    let at28 : drop 28 bytes ≡ le_u32 (u32_at 28 bytes) ++ drop 32 bytes = spelled_u32 28 bytes are_bytes (omega (arith, met.long)) in
    let at24 : drop 24 bytes ≡ le_u32 (u32_at 24 bytes) ++ drop 28 bytes = spelled_u32 24 bytes are_bytes (omega (arith, met.long)) in
    let at20 : drop 20 bytes ≡ le_u32 (u32_at 20 bytes) ++ drop 24 bytes = spelled_u32 20 bytes are_bytes (omega (arith, met.long)) in
    let at6 : drop 6 bytes ≡ le_u16 (u16_at 6 bytes) ++ drop 8 bytes = spelled_u16 6 bytes are_bytes (omega (arith, met.long)) in
    sym (take-append-drop 6 bytes)
    ∙ ap (λ (xs : List ℕ). take 6 bytes ++ xs)
    (at6 ∙ ap (λ (n : ℕ). le_u16 n ++ drop 8 bytes) met.version
    ∙ ap (λ (xs : List ℕ). le_u16 1 ++ xs)
    (cut 8 6 bytes
    ∙ ap (λ (xs : List ℕ). take 6 (drop 8 bytes) ++ xs)
    (cut 14 6 bytes
    ∙ ap (λ (xs : List ℕ). take 6 (drop 14 bytes) ++ xs)
    (at20
    ∙ ap (λ (xs : List ℕ). le_u32 (u32_at 20 bytes) ++ xs) (at24 ∙ ap (λ (xs : List ℕ). le_u32 (u32_at 24 bytes) ++ xs) at28)))))
    ∙ sym (apart (take 6 bytes) (header_at bytes))

pub IsImage-from_reading : (bytes : List ℕ) (h : Header) → IsBytes bytes → image_in bytes ≡ Some h → IsImage bytes h
unfolding image_in
IsImage-from_reading bytes h are_bytes e =
    let read = cond_some (is_image bytes) (header_at bytes) h e in
    let met = IsMet-from_test bytes read.0 in
    subst (IsImage bytes) read.1 (record { legal = legal bytes are_bytes met; token = take 6 bytes; known = met.token; spelled = spelled bytes are_bytes met })

pub reading-from_IsImage : (bytes : List ℕ) (h : Header) → IsImage bytes h → image_in bytes ≡ Some h
unfolding image_in header_at
reading-from_IsImage bytes h image =
    let is = image.spelled ∙ apart image.token h in
    let six = length-token image.token image.known in
    let front : take 6 bytes ≡ image.token = ap (λ (xs : List ℕ). take 6 xs) is ∙ take-front 6 image.token _ six in
    let behind : drop 6 bytes ≡ le_u16 1 ++ (h.source ++ (h.destination ++ (le_u32 h.block ++ (le_u32 h.sequence ++ (le_u32 h.greatest ++ h.body))))) =
    ap (λ (xs : List ℕ). drop 6 xs) is ∙ drop-front 6 image.token _ six in
    let version = read_u16 6 1 bytes _ behind (omega arith) in
    let source = part_after 8 6 bytes h.source _ version.1 (length-identifier h.source image.legal.source) in
    let destination = part_after 14 6 bytes h.destination _ source.1 (length-identifier h.destination image.legal.destination) in
    let block = read_u32 20 h.block bytes _ destination.1 image.legal.block in
    let sequence = read_u32 24 h.sequence bytes _ block.1 (omega (arith, image.legal.last, image.legal.most)) in
    let greatest = read_u32 28 h.greatest bytes h.body sequence.1 (omega (arith, image.legal.most)) in
    let same : header_at bytes ≡ h = same_header h _ _ _ _ _ _ source.0 destination.0 block.0 sequence.0 greatest.0 greatest.1 in
    let met : IsMet bytes = record {
      long = omega (arith, ap length sequence.1, length-drop 28 bytes, length-append (le_u32 h.greatest) h.body, length-le_u32 h.greatest);
      token = subst IsToken (sym front) image.known;
      version = version.0;
      header = ap is_header same ∙ test-from_IsHeader h image.legal;
    } in
    cond-true (is_image bytes) (Some (header_at bytes)) None (test-from_IsMet bytes met) ∙ ap Some same

-- What the reader answers

pub refused : (bytes : List ℕ) → is_image bytes ≡ false → None ≡ image_in bytes
unfolding image_in
refused bytes not_met = sym (cond-false (is_image bytes) (Some (header_at bytes)) None not_met)

pub no_image : (bytes : List ℕ) → None ≡ image_in bytes → (header : Header) → IsImage bytes header → ⊥
no_image bytes e header image = none-some header (e ∙ reading-from_IsImage bytes header image)

-- the header that the code makes
abbrev pub made : (bytes : List ℕ) (block sequence greatest : ℕ) → Header
made bytes block sequence greatest = record {
  source = take 6 (drop 8 bytes);
  destination = take 6 (drop 14 bytes);
  block = block;
  sequence = sequence;
  greatest = greatest;
  body = take (length bytes - 32) (drop 32 bytes);
}

-- Its numbers are those that stand in the bytes.
pub record AreRead (bytes : List ℕ) (block sequence greatest : ℕ) : Type 0 where
  pub met : is_image bytes ≡ true
  pub block_is : block ≡ u32_at 20 bytes
  pub sequence_is : sequence ≡ u32_at 24 bytes
  pub greatest_is : greatest ≡ u32_at 28 bytes

made_is : (bytes : List ℕ) (block sequence greatest : ℕ) → AreRead bytes block sequence greatest → made bytes block sequence greatest ≡ header_at bytes
unfolding header_at
made_is bytes block sequence greatest read =
    same_header (header_at bytes) _ _ block sequence greatest _ refl refl read.block_is read.sequence_is read.greatest_is
    (take_all (length bytes - 32) (drop 32 bytes) (omega (arith, length-drop 32 bytes)))

pub made_legal : (bytes : List ℕ) (block sequence greatest : ℕ) → IsBytes bytes → AreRead bytes block sequence greatest → IsHeader (made bytes block sequence greatest)
made_legal bytes block sequence greatest are_bytes read =
    subst IsHeader (sym (made_is bytes block sequence greatest read)) (legal bytes are_bytes (IsMet-from_test bytes read.met))

pub made_read : (bytes : List ℕ) (block sequence greatest : ℕ) → AreRead bytes block sequence greatest → Some (made bytes block sequence greatest) ≡ image_in bytes
unfolding image_in
made_read bytes block sequence greatest read =
    ap Some (made_is bytes block sequence greatest read) ∙ sym (cond-true (is_image bytes) (Some (header_at bytes)) None read.met)

pub made_image : (bytes : List ℕ) (block sequence greatest : ℕ) → IsBytes bytes → AreRead bytes block sequence greatest → IsImage bytes (made bytes block sequence greatest)
made_image bytes block sequence greatest are_bytes read = IsImage-from_reading bytes _ are_bytes (sym (made_read bytes block sequence greatest read))
