-- What is refused behind what was read.
use Rattle.std.proofs.Common.{◌≡◌, ◌<◌, ℕ, Bool, true, false, List, [], ◌++◌, length, Option, None, Some, IfSome, Ok, refl, ap, ◌∙◌, sym, subst, append_assoc, append-nil, arith, codes, length-append, ◌+◌}
use Rattle.std.proofs.lemmas.List.{append_cancel_left, nil_from_length}
use Rattle.std.specs.Io.KnownBytes.{Consumes}
use Rattle.sha2.specs.Sha256.{sha256}
use Rattle.vdr_bytes.specs.Numbers.{le_u32, le_u64}
use Rattle.vdr_terms.specs.Records.{Record}
use Rattle.vdr_evidence.specs.Files.{Heading, counted, covered, evidence_bytes, heading_bytes}
use Rattle.vdr_verify.specs.Closings.{IsBehindCovered, IsBehindEvidence, IsBehindMark}
use Rattle.vdr_verify.specs.Lists.{front_behind}
use Rattle.vdr_verify.specs.Reading.{Expects, Lacks, ReadsOn, offset_behind}
use Rattle.vdr_verify.specs.Standing.{IsBehind, Refuses}
use Rattle.vdr_verify.specs.Stops.{AtEnd, Stops}
use Rattle.vdr_verify.specs.declared.part.Part.{Part}
use Rattle.vdr_verify.specs.declared.part.Part.TheVariants.{Behind, Digest, End, Token}
use Rattle.vdr_verify.specs.declared.query.Asked.{Asked}
use Rattle.vdr_verify.specs.declared.reader.Reader.{Reader}
use Rattle.vdr_verify.specs.declared.refused.VerifyRefused.TheVariants.{Illegal}
use Rattle.vdr_verify.proofs.Pieces.{read_behind}

-- What is refused begins before the last piece that was read.
pub refused_before : (first left : Option (List ℕ)) (reader : Reader) (named : Part) (front piece : List ℕ) (offset : ℕ) → IsBehind first left reader (front ++ piece) → offset ≡ offset_behind front
    → IfSome left (λ rest. Stops named front (piece ++ rest)) → Refuses first (Illegal named offset)
refused_before None left reader named front piece offset is at stops = tt
refused_before (Some bytes) None reader named front piece offset is at stops = absurd is.consumed
refused_before (Some bytes) (Some rest) reader named front piece offset is at stops = record { front = front; rest = piece ++ rest; split = is.consumed ∙ append_assoc front piece rest; offset_is = at; stops = stops }

pub refused_at : (first left : Option (List ℕ)) (reader : Reader) (named : Part) (front : List ℕ) (offset : ℕ) → IsBehind first left reader front → offset ≡ reader.offset → IfSome left (λ rest. Stops named front rest)
    → Refuses first (Illegal named offset)
refused_at None left reader named front offset is at stops = tt
refused_at (Some bytes) None reader named front offset is at stops = absurd is.consumed
refused_at (Some bytes) (Some rest) reader named front offset is at stops = record { front = front; rest = rest; split = is.consumed; offset_is = at ∙ is.held.offset_is; stops = stops }

pub if_known : (left : Option (List ℕ)) (P Q : List ℕ → Type 0) → ((rest : List ℕ) → P rest → Q rest) → IfSome left P → IfSome left Q
if_known None P Q f p = tt
if_known (Some rest) P Q f p = f rest p

-- what was expected, and what was not
pub expected : (left now : Option (List ℕ)) (old new : Reader) (wanted : List ℕ) (same : Bool) → Expects left now old new wanted (Ok same) → same ≡ true → ReadsOn left now old new wanted
expected left now old new wanted true expects is = expects
expected left now old new wanted false expects is = let no : ⊥ = cc in absurd no

pub unexpected : (left now : Option (List ℕ)) (old new : Reader) (wanted : List ℕ) (same : Bool) → Expects left now old new wanted (Ok same) → same ≡ false → IfSome left (Lacks wanted)
unexpected left now old new wanted false expects is = expects
unexpected left now old new wanted true expects is = let no : ⊥ = cc in absurd no

pub expected_as : (left now : Option (List ℕ)) (old new : Reader) (wanted w : List ℕ) (same : Bool) → Expects left now old new wanted (Ok same) → same ≡ true → wanted ≡ w → ReadsOn left now old new w
expected_as left now old new wanted w same expects is equal = subst (λ (l : List ℕ). ReadsOn left now old new l) equal (expected left now old new wanted same expects is)

pub unexpected_as : (left now : Option (List ℕ)) (old new : Reader) (wanted w : List ℕ) (same : Bool) → Expects left now old new wanted (Ok same) → same ≡ false → wanted ≡ w → IfSome left (Lacks w)
unexpected_as left now old new wanted w same expects is equal = subst (λ (l : List ℕ). IfSome left (Lacks l)) equal (unexpected left now old new wanted same expects is)

-- ---- the token

pub token_stops : (first left : Option (List ℕ)) (reader : Reader) (offset : ℕ) → IsBehind first left reader [] → offset ≡ reader.offset → IfSome left (Lacks (codes "VDREVID1")) → Refuses first (Illegal Token offset)
token_stops first left reader offset is at lacks = refused_at first left reader Token [] offset is at (if_known left (Lacks (codes "VDREVID1")) (λ rest. Stops Token [] rest) (λ rest none. (refl, none)) lacks)

-- ---- the number of records

pub number_on : (first left now : Option (List ℕ)) (old new : Reader) (q : Asked) (h : Heading) (seen : List Record) (number offset : ℕ) → IsBehindMark first left old q h seen number offset → ReadsOn left now old new (le_u64 number)
    → IsBehind first now new (covered (heading_bytes h) seen)
number_on first left now old new q h seen number offset is read =
    subst (λ (l : List ℕ). IsBehind first now new l) (append_assoc (front_behind h seen) (le_u32 0) (le_u64 number) ∙ ap (λ (n : ℕ). front_behind h seen ++ (le_u32 0 ++ le_u64 n)) is.number_is)
    (read_behind first left now old new (front_behind h seen ++ le_u32 0) (le_u64 number) is.behind read)

pub number_stops : (first left : Option (List ℕ)) (reader : Reader) (q : Asked) (h : Heading) (seen : List Record) (number offset : ℕ) → IsBehindMark first left reader q h seen number offset → IfSome left (Lacks (le_u64 number))
    → Refuses first (Illegal End offset)
number_stops first left reader q h seen number offset is lacks =
    refused_before first left reader End (front_behind h seen) (le_u32 0) offset is.behind is.offset_is (if_known left (Lacks (le_u64 number)) (λ rest. Stops End (front_behind h seen) (le_u32 0 ++ rest)) at lacks)
  where
    at : (rest : List ℕ) → Lacks (le_u64 number) rest → AtEnd (front_behind h seen) (le_u32 0 ++ rest)
    at rest none = record {
      h = h;
      q = q;
      records = seen;
      holds = is.holds;
      front_is = refl;
      after = rest;
      begins = refl;
      lacks = λ after e. none after
          (append_cancel_left (le_u32 0) rest (le_u64 number ++ after)
          (e ∙ append_assoc (le_u32 0) (le_u64 (counted seen)) after ∙ ap (λ (n : ℕ). le_u32 0 ++ (le_u64 n ++ after)) (sym is.number_is)));
    }

-- ---- the digest

pub digest_on : (first left now : Option (List ℕ)) (old new : Reader) (q : Asked) (h : Heading) (seen : List Record) (digest : List ℕ) → IsBehindCovered first left old q h seen → digest ≡ sha256 (covered (heading_bytes h) seen)
    → ReadsOn left now old new digest → IsBehind first now new (evidence_bytes (heading_bytes h) seen)
digest_on first left now old new q h seen digest is same read =
    subst (λ (l : List ℕ). IsBehind first now new (covered (heading_bytes h) seen ++ l)) same (read_behind first left now old new (covered (heading_bytes h) seen) digest is.behind read)

pub digest_stops : (first left : Option (List ℕ)) (reader : Reader) (q : Asked) (h : Heading) (seen : List Record) (digest : List ℕ) (offset : ℕ) → IsBehindCovered first left reader q h seen → digest ≡ sha256 (covered (heading_bytes h) seen)
    → offset ≡ reader.offset → IfSome left (Lacks digest) → Refuses first (Illegal Digest offset)
digest_stops first left reader q h seen digest offset is same at lacks =
    let front = covered (heading_bytes h) seen in
    refused_at first left reader Digest front offset is.behind at
    (if_known left (Lacks digest) (λ rest. Stops Digest front rest)
    (λ rest none. record { h = h; q = q; records = seen; holds = is.holds; front_is = refl; lacks = subst (λ (l : List ℕ). Lacks l rest) same none }) lacks)

-- ---- what stands behind

pub behind_stops : (first left now : Option (List ℕ)) (reader : Reader) (q : Asked) (h : Heading) (seen : List Record) (byte : List ℕ) (offset : ℕ) → IsBehindEvidence first left reader q h seen → Consumes left now byte → length byte ≡ 1
    → offset ≡ reader.offset → Refuses first (Illegal Behind offset)
behind_stops first left now reader q h seen byte offset is read long at =
    refused_at first left reader Behind (evidence_bytes (heading_bytes h) seen) offset is.behind at (some left now read)
  where
    not_none : (more : List ℕ) → byte ++ more ≡ [] → ⊥
    not_none more e = let size : length byte + length more ≡ 0 = sym (length-append byte more) ∙ ap (λ (l : List ℕ). length l) e in omega (arith, size, long)

    some : (left now : Option (List ℕ)) → Consumes left now byte → IfSome left (λ rest. Stops Behind (evidence_bytes (heading_bytes h) seen) rest)
    some None now read = tt
    some (Some rest) None read = absurd read
    some (Some rest) (Some more) read = record { h = h; q = q; records = seen; holds = is.holds; front_is = refl; some = λ e. not_none more (sym read ∙ e) }

pub whole : (first left now : Option (List ℕ)) (reader : Reader) (q : Asked) (h : Heading) (seen : List Record) → IsBehindEvidence first left reader q h seen → IfSome left (λ rest. length rest < 1)
    → IfSome first (λ bytes. bytes ≡ evidence_bytes (heading_bytes h) seen)
whole None left now reader q h seen is short = tt
whole (Some bytes) None now reader q h seen is short = absurd is.behind.consumed
whole (Some bytes) (Some rest) now reader q h seen is short =
    let none : rest ≡ [] = nil_from_length rest (omega (arith, short)) in
    is.behind.consumed ∙ ap (λ (l : List ℕ). evidence_bytes (heading_bytes h) seen ++ l) none ∙ append-nil (evidence_bytes (heading_bytes h) seen)
