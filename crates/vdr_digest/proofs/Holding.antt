-- What is held of records, with one more.
use Rattle.std.proofs.Common.{◌≡◌, ◌+◌, ◌-◌, ◌^◌, ℕ, Bool, true, false, ◌&&◌, ◌==◌, cond, nat_eq, List, [], ◌∷◌, ◌++◌, length, min, take, drop, Option, None, Some, refl, ap, ◌∙◌, sym, subst, arith, append_assoc}
use Rattle.std.specs.Option.{is_some}
use Rattle.std.specs.List.{flat_map, fold}
use Rattle.std.proofs.lemmas.Grind.{flat_map-append, fold-append}
use Rattle.std.proofs.lemmas.Bool.{eqb-true}
use Rattle.std.proofs.lemmas.List.{append-nil, take_at}
use Rattle.sha2.specs.Hashers.{Holds256}
use Rattle.sha2.specs.declared.Sha256.{Sha256}
use Rattle.vdr_bytes.specs.Numbers.{Puts}
use Rattle.vdr_terms.specs.Records.{Record}
use Rattle.vdr_terms.specs.Sizes.{record_size}
use Rattle.vdr_entry.specs.Spelling.{record_bytes, records_bytes}
use Rattle.vdr_entry.proofs.SpellingLemmas.{length-record_bytes}
use Rattle.vdr_visit.specs.Prints.{lines_behind, text_of}
use Rattle.vdr_digest.specs.Digests.{held_behind, held_with, hour, hour_line, is_hour_of, line_at, lines_before}
use Rattle.vdr_digest.specs.Held.{HoldsHour, hour_of}
use Rattle.vdr_digest.specs.Spans.{span_of, span_with}
use Rattle.vdr_digest.specs.declared.hours.Hours.{Hours}
use Rattle.vdr_digest.specs.declared.span.Span.{Span}

-- ---- whether there is a record

some_span : (s : Span) (rs : List Record) → (x : Span) × (fold span_with (Some s) rs ≡ Some x)
some_span s [] = (s, refl)
some_span s (r ∷ rs) = some_span (record { first = s.first; last = r.place; count = min (s.count + 1) (2 ^ 64 - 1) }) rs

begun : (r : Record) (rs : List Record) → (x : Span) × (span_of (r ∷ rs) ≡ Some x)
begun r rs = some_span (record { first = r.place; last = r.place; count = 1 }) rs

pub none_line : (h : Hours) (held : List Record) → HoldsHour h held → is_some h.span ≡ false → hour_line held ≡ []
none_line h [] holds none = refl
none_line h (r ∷ rs) holds none =
    let x = begun r rs in
    let some : is_some h.span ≡ true = ap (λ (o : Option Span). is_some o) (holds.span_is ∙ x.1) in
    let no : ⊥ = cc in absurd no

pub is_of : (h : Hours) (held : List Record) (n : ℕ) → HoldsHour h held → (is_some h.span && nat_eq h.hour n) ≡ is_hour_of held n
is_of h [] n holds = ap (λ (o : Option Span). is_some o && nat_eq h.hour n) holds.span_is
is_of h (r ∷ rs) n holds =
    let x = begun r rs in
    let some : is_some h.span ≡ true = ap (λ (o : Option Span). is_some o) (holds.span_is ∙ x.1) in
    λ i. some i && nat_eq (holds.hour_is i) n

-- none is held where they are of another hour
pub emptied : (h : Hours) (held : List Record) (b : Bool) → b ≡ false → HoldsHour h [] → HoldsHour h (cond b held [])
emptied h held true is holds = let no : ⊥ = cc in absurd no
emptied h held false is holds = holds

-- ---- one record more

pub span_more : (held : List Record) (r : Record) → span_with (span_of held) r ≡ span_of (held ++ r ∷ [])
span_more held r = sym (fold-append span_with None held (r ∷ []))

bytes_more : (held : List Record) (r : Record) → records_bytes (held ++ r ∷ []) ≡ records_bytes held ++ record_bytes r
bytes_more held r = flat_map-append record_bytes held (r ∷ []) ∙ ap (λ (b : List ℕ). records_bytes held ++ b) (append-nil (record_bytes r))

-- the bytes of a record at the front of a buffer
front_is : (r : Record) (old new : List ℕ) (size : ℕ) → Puts old new 0 (record_bytes r) → size ≡ record_size r → take size new ≡ record_bytes r
front_is r old new size puts is =
    ap (λ (l : List ℕ). take size l) puts.is ∙ take_at (record_bytes r) (drop (0 + length (record_bytes r)) old) size (length-record_bytes r ∙ sym is)

pub hashed_more : (hasher hashed : Sha256) (held : List Record) (r : Record) (old new : List ℕ) (size : ℕ) → Holds256 hasher (records_bytes held)
    → ((m : List ℕ) → Holds256 hasher m → Holds256 hashed (m ++ take size new)) → Puts old new 0 (record_bytes r) → size ≡ record_size r → Holds256 hashed (records_bytes (held ++ r ∷ []))
hashed_more hasher hashed held r old new size holds more puts is =
    subst (λ (m : List ℕ). Holds256 hashed m) (ap (λ (b : List ℕ). records_bytes held ++ b) (front_is r old new size puts is) ∙ sym (bytes_more held r)) (more (records_bytes held) holds)

-- ---- another hour

abbrev pub kept : List Record → ℕ → List Record
kept held n = cond (is_hour_of held n) held []

pub kept_hour : (held : List Record) (r : Record) → hour_of (kept held (hour r.tick) ++ r ∷ []) ≡ hour r.tick
kept_hour [] r = refl
kept_hour (x ∷ xs) r = go (nat_eq (hour x.tick) (hour r.tick)) refl
  where
    go : (b : Bool) → nat_eq (hour x.tick) (hour r.tick) ≡ b → hour_of (cond b (x ∷ xs) [] ++ r ∷ []) ≡ hour r.tick
    go true is = eqb-true (hour x.tick) (hour r.tick) is
    go false is = refl

kept_more : (held : List Record) (r : Record) → kept held (hour r.tick) ++ r ∷ [] ≡ held_with held r
kept_more held r = go (is_hour_of held (hour r.tick))
  where
    go : (b : Bool) → cond b held [] ++ r ∷ [] ≡ cond b (held ++ r ∷ []) (r ∷ [])
    go true = refl
    go false = refl

pub held_more : (seen : List Record) (r : Record) → kept (held_behind seen) (hour r.tick) ++ r ∷ [] ≡ held_behind (seen ++ r ∷ [])
held_more seen r = kept_more (held_behind seen) r ∙ sym (fold-append held_with [] seen (r ∷ []))

-- ---- the lines

line_more : (line : List Record → Record → List ℕ) (before xs : List Record) (r : Record) → lines_behind line before (xs ++ r ∷ []) ≡ lines_behind line before xs ++ line (before ++ xs) r
line_more line before [] r = append-nil (line before r) ∙ ap (λ (b : List Record). line b r) (sym (append-nil before))
line_more line before (x ∷ xs) r =
    ap (λ (t : List ℕ). line before x ++ t) (line_more line (before ++ x ∷ []) xs r ∙ ap (λ (b : List Record). lines_behind line (before ++ x ∷ []) xs ++ line b r) (append_assoc before (x ∷ []) xs))
    ∙ sym (append_assoc (line before x) (lines_behind line (before ++ x ∷ []) xs) (line (before ++ x ∷ xs) r))

pub lines_more : (seen : List Record) (r : Record) → lines_before (seen ++ r ∷ []) ≡ lines_before seen ++ line_at seen r
lines_more seen r = line_more line_at [] seen r
