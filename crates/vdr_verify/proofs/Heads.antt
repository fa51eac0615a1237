-- The parts of a heading.
use Rattle.std.proofs.Common.{◌≡◌, ◌<◌, ◌≤◌, ◌^◌, ◌⊎◌, ℕ, Bool, true, false, List, [], ◌∷◌, ◌++◌, length, Option, None, Some, IfSome, Result, Ok, Err, refl, ap, ◌∙◌, sym, subst, append_assoc, append-nil, arith, inl, inr, codes, nat_le, nat_lt, take, if◌then◌else◌, ◌&&◌, length-take, true≢false}
use Rattle.std.specs.List.{flat_map}
use Rattle.std.proofs.lemmas.Grind.{flat_map-append}
use Rattle.std.proofs.lemmas.Bool.{and_parts, leb-true, ltb-false}
use Rattle.std.specs.Io.KnownBytes.{Consumes}
use Rattle.vdr_bytes.specs.Numbers.{le_u32}
use Rattle.vdr_bytes.proofs.NumberLemmas.{length-le_u32, read_u32}
use Rattle.vdr_terms.specs.Texts.{are_printable, is_label}
use Rattle.vdr_config.specs.Configuration.{Configuration}
use Rattle.vdr_config.specs.Grammar.{configuration}
use Rattle.vdr_config.specs.declared.bad.ConfigBad.{ConfigBad}
use Rattle.vdr_config.specs.declared.bad.ConfigBad.TheVariants as bad
use Rattle.vdr_evidence.specs.Files.{Heading, heading_bytes, part}
use Rattle.vdr_verify.specs.Heads.{IsIdOn}
use Rattle.vdr_verify.specs.Legal.{AreParts, Asks, IsIncident, IsLabelOf, IsQuery, IsSlot, IsText, MayFollow, parts_of}
use Rattle.vdr_verify.specs.Reading.{HasNoPart, ReadsOn}
use Rattle.vdr_verify.specs.Standing.{Goes, IsBehind, Reads, Refuses, Stands}
use Rattle.vdr_verify.specs.Stops.{InHeading, Stops, front_of, part_behind}
use Rattle.vdr_verify.specs.declared.part.Part.{Part}
use Rattle.vdr_verify.specs.declared.reader.Reader.{Reader}
use Rattle.vdr_verify.specs.declared.refused.VerifyRefused.{VerifyRefused}
use Rattle.vdr_verify.specs.declared.refused.VerifyRefused.TheVariants.{Illegal}
use Rattle.vdr_verify.specs.declared.part.Part.TheVariants as parts
use Rattle.vdr_verify.specs.declared.query.Asked.{Asked}
use Rattle.vdr_verify.proofs.Pieces.{one_part, read_behind}

-- ---- the first part that is not legal

stops_so : (before : List (List ℕ)) (named : Part) (front rest : List ℕ) → Some named ≡ part_behind before → InHeading named front rest → Stops named front rest
stops_so before named front rest is at = go before is
  where
    some : (a b : Part) → ◌≡◌ {A = Option Part} (Some a) (Some b) → b ≡ a
    some a b e = cc

    none : (a : Part) → ◌≡◌ {A = Option Part} (Some a) None → ⊥
    none a e = cc

    along : (p : Part) → p ≡ named → Stops p front rest → Stops named front rest
    along p same stops = subst (λ (q : Part). Stops q front rest) same stops

    of : (p : Part) → p ≡ named → InHeading p front rest
    of p same = subst (λ (q : Part). InHeading q front rest) (sym same) at

    go : (l : List (List ℕ)) → Some named ≡ part_behind l → Stops named front rest
    go [] e = along parts.Configuration (some named _ e) (of parts.Configuration (some named _ e))
    go (a ∷ []) e = along parts.Medium (some named _ e) (of parts.Medium (some named _ e))
    go (a ∷ b ∷ []) e = along parts.Incident (some named _ e) (of parts.Incident (some named _ e))
    go (a ∷ b ∷ c ∷ []) e = along parts.Label (some named _ e) (of parts.Label (some named _ e))
    go (a ∷ b ∷ c ∷ d ∷ []) e = along parts.Query (some named _ e) (of parts.Query (some named _ e))
    go (a ∷ b ∷ c ∷ d ∷ f ∷ more) e = absurd (none named e)

refuses_so : (first left : Option (List ℕ)) (reader : Reader) (before : List (List ℕ)) (named : Part) (offset : ℕ) → Stands first left reader before → Some named ≡ part_behind before → offset ≡ reader.offset
    → IfSome left (λ rest. (x after : List ℕ) → MayFollow before x → rest ≡ part x ++ after → ⊥) → Refuses first (Illegal named offset)
refuses_so None left reader before named offset stands is at lacks = tt
refuses_so (Some bytes) None reader before named offset stands is at lacks = absurd stands.behind.consumed
refuses_so (Some bytes) (Some rest) reader before named offset stands is at lacks = record {
  front = front_of before;
  rest = rest;
  split = stands.behind.consumed;
  offset_is = at ∙ stands.behind.held.offset_is;
  stops = stops_so before named (front_of before) rest is (record { before = before; legal = stands.legal; front_is = refl; named_is = is; lacks = lacks });
}

-- None stands there for which there is room.
pub refuses_none : (first left : Option (List ℕ)) (reader : Reader) (before : List (List ℕ)) (named : Part) (offset room : ℕ) → Stands first left reader before → Some named ≡ part_behind before → offset ≡ reader.offset
    → ((x : List ℕ) → MayFollow before x → length x ≤ room) → IfSome left (HasNoPart room) → Refuses first (Illegal named offset)
refuses_none first left reader before named offset room stands is at fits none = refuses_so first left reader before named offset stands is at (none_of left none)
  where
    none_of : (left : Option (List ℕ)) → IfSome left (HasNoPart room) → IfSome left (λ rest. (x after : List ℕ) → MayFollow before x → rest ≡ part x ++ after → ⊥)
    none_of None none = tt
    none_of (Some rest) none = λ x after legal e. none x after (fits x legal) e

-- What stands there is not legal.
pub refuses_other : (first left now : Option (List ℕ)) (old new : Reader) (before : List (List ℕ)) (named : Part) (offset room : ℕ) (x : List ℕ) → Stands first left old before → Some named ≡ part_behind before → offset ≡ old.offset
    → ((y : List ℕ) → MayFollow before y → length y ≤ room) → room < 2 ^ 32 → length x ≤ room → ReadsOn left now old new (part x) → (MayFollow before x → ⊥) → Refuses first (Illegal named offset)
refuses_other first left now old new before named offset room x stands is at fits small within read other = refuses_so first left old before named offset stands is at (none_of left now read.consumed)
  where
    none_of : (left now : Option (List ℕ)) → Consumes left now (part x) → IfSome left (λ rest. (y after : List ℕ) → MayFollow before y → rest ≡ part y ++ after → ⊥)
    none_of None now consumed = tt
    none_of (Some rest) None consumed = absurd consumed
    none_of (Some rest) (Some behind) consumed = λ y after legal e.
        let least : length y ≤ room = fits y legal in
        let same = one_part y x after behind (omega (arith, least, small)) (omega (arith, within, small)) (sym e ∙ consumed) in
        other (subst (λ (l : List ℕ). MayFollow before l) same.0 legal)

-- ---- a legal part

more_parts : (front parts : List (List ℕ)) (x : List ℕ) → AreParts front parts → MayFollow (front ++ parts) x → AreParts front (parts ++ x ∷ [])
more_parts front [] x are legal = (subst (λ (l : List (List ℕ)). MayFollow l x) (append-nil front) legal, tt)
more_parts front (p ∷ parts) x are legal =
    (are.0, more_parts (front ++ p ∷ []) parts x are.1 (subst (λ (l : List (List ℕ)). MayFollow l x) (sym (append_assoc front (p ∷ []) parts)) legal))

front_more : (before : List (List ℕ)) (x : List ℕ) → front_of before ++ part x ≡ front_of (before ++ x ∷ [])
front_more before x =
    append_assoc (codes "VDREVID1") (flat_map part before) (part x)
    ∙ ap (λ (l : List ℕ). codes "VDREVID1" ++ l)
    (sym (flat_map-append part before (x ∷ []) ∙ ap (λ (l : List ℕ). flat_map part before ++ l) (append-nil (part x))))

pub stands_on : (first left now : Option (List ℕ)) (old new : Reader) (before : List (List ℕ)) (x : List ℕ) → Stands first left old before → ReadsOn left now old new (part x) → MayFollow before x → Stands first now new (before ++ x ∷ [])
stands_on first left now old new before x stands read legal = record {
  legal = more_parts [] before x stands.legal legal;
  behind = subst (λ (l : List ℕ). IsBehind first now new l) (front_more before x) (read_behind first left now old new (front_of before) (part x) stands.behind read);
}

-- What a call refused is refused.
pub passed_on : {T : Type 0} (first left now : Option (List ℕ)) (old new : Reader) (bytes : List ℕ) (before : List (List ℕ)) (Is : T → List ℕ → Type 0) (r : Result ℕ VerifyRefused) (out : Result T VerifyRefused) (e : VerifyRefused)
    → r ≡ Err e → out ≡ Err e → Reads first left now old new bytes r → Goes first now new before Is out
passed_on {T} first left now old new bytes before Is r out e was is reads =
    subst (λ (o : Result T VerifyRefused). Goes first now new before Is o) (sym is) (subst (λ (o : Result ℕ VerifyRefused). Reads first left now old new bytes o) was reads)

-- So many bytes were read.
pub read_so : (first left now : Option (List ℕ)) (old new : Reader) (bytes : List ℕ) (r : Result ℕ VerifyRefused) (size : ℕ) → r ≡ Ok size → Reads first left now old new bytes r → ReadsOn left now old new (part (take size bytes))
read_so first left now old new bytes r size was reads = subst (λ (o : Result ℕ VerifyRefused). Reads first left now old new bytes o) was reads

-- ---- how long a part may be

not_refused : (b : Bool) (o : Result Configuration ConfigBad) (c : Configuration) → (if b then Err bad.TooLong else o) ≡ Ok c → b ≡ false
not_refused true o c read = let no : ⊥ = cc in absurd no
not_refused false o c read = refl

pub text_short : (text : List ℕ) → MayFollow [] text → length text ≤ 16_380
unfolding configuration
text_short text legal = ltb-false 16_380 (length text) (not_refused (nat_lt 16_380 (length text)) _ legal.config legal.read)

pub medium_short : (text medium : List ℕ) → MayFollow (text ∷ []) medium → length medium ≤ 1
medium_short text medium legal = let size : length medium ≡ 1 = ap (λ (l : List ℕ). length l) legal.spelled in omega (arith, size)

pub incident_short : (text medium incident : List ℕ) → MayFollow (text ∷ medium ∷ []) incident → length incident ≤ 4
incident_short text medium incident legal = let size : length incident ≡ 4 = ap (λ (l : List ℕ). length l) legal.spelled ∙ length-le_u32 legal.id in omega (arith, size)

pub label_short : (text medium incident label : List ℕ) → MayFollow (text ∷ medium ∷ incident ∷ []) label → length label ≤ 64
label_short text medium incident label (inl none) = let size : length label ≡ 0 = ap (λ (l : List ℕ). length l) none.1 in omega (arith, size)
label_short text medium incident label (inr some) = short label some.1
  where
    short : (l : List ℕ) → is_label l ≡ true → length l ≤ 64
    short l is = leb-true (length l) 64 (and_parts (nat_le (length l) 64) (are_printable l) (and_parts (nat_le 1 (length l)) (nat_le (length l) 64 && are_printable l) is).1).0

pub take_within : (n room : ℕ) (l : List ℕ) → length l ≡ room → length (take n l) ≤ room
take_within n room l e = grind (arith, e, length-take)

-- ---- what may stand in a part

pub same_config : (text : List ℕ) (c d : Configuration) → configuration text ≡ Ok c → configuration text ≡ Ok d → c ≡ d
same_config text c d of_c of_d = same_ok c d (sym of_c ∙ of_d)
  where
    same_ok : (c d : Configuration) → ◌≡◌ {A = Result Configuration ConfigBad} (Ok c) (Ok d) → c ≡ d
    same_ok c d e = cc

pub incident_legal : (text incident : List ℕ) (medium slots id : ℕ) (c : Configuration) → configuration text ≡ Ok c → slots ≡ c.incident_slots → id < 2 ^ 32 → incident ≡ le_u32 id → IsIdOn medium slots id → IsIncident text (medium ∷ []) incident
incident_legal text incident medium slots id c read is small spelled on = record { id = id; small = small; spelled = spelled; slot = slot on }
  where
    slot : IsIdOn medium slots id → (id ≡ 0) ⊎ IsSlot text (medium ∷ []) id
    slot (inl none) = inl none
    slot (inr some) = inr (record { config = c; read = read; long_term = λ i. some.0 i ∷ []; least = some.1.0; most = omega (arith, some.1.1, is) })

pub incident_other : (text incident : List ℕ) (medium slots : ℕ) (c : Configuration) → configuration text ≡ Ok c → slots ≡ c.incident_slots
    → ((id : ℕ) → id < 2 ^ 32 → incident ≡ le_u32 id → IsIdOn medium slots id → ⊥) → IsIncident text (medium ∷ []) incident → ⊥
incident_other text incident medium slots c read is none legal = none legal.id legal.small legal.spelled (on legal.slot)
  where
    one : (a b : ℕ) → a ∷ [] ≡ b ∷ [] → a ≡ b
    one a b e = cc

    on : (legal.id ≡ 0) ⊎ IsSlot text (medium ∷ []) legal.id → IsIdOn medium slots legal.id
    on (inl zero_is) = inl zero_is
    on (inr slot) =
        let same : slot.config ≡ c = same_config text slot.config c slot.read read in
        inr (one medium 1 slot.long_term, (slot.least, omega (arith, slot.most, is, ap (λ (d : Configuration). d.incident_slots) same)))

pub one_id : (a b : ℕ) → a < 2 ^ 32 → b < 2 ^ 32 → le_u32 a ≡ le_u32 b → a ≡ b
one_id a b small too e =
    let first = read_u32 0 a (le_u32 b ++ []) [] (ap (λ (l : List ℕ). l ++ []) (sym e)) small in
    let second = read_u32 0 b (le_u32 b ++ []) [] refl too in
    sym first.0 ∙ second.0

pub label_legal : (id : ℕ) (label : List ℕ) → id < 2 ^ 32 → (id ≡ 0 → ⊥) → is_label label ≡ true → IsLabelOf (le_u32 id) label
label_legal id label small some is = inr (λ e. some (one_id id 0 small (omega arith) e), is)

pub label_other : (id : ℕ) (label : List ℕ) → id < 2 ^ 32 → (id ≡ 0 → ⊥) → is_label label ≡ false → IsLabelOf (le_u32 id) label → ⊥
label_other id label small some is (inl none) = some (one_id id 0 small (omega arith) none.0)
label_other id label small some is (inr legal) = true≢false (sym legal.1 ∙ is)

pub query_short : (text medium incident label query : List ℕ) → MayFollow (text ∷ medium ∷ incident ∷ label ∷ []) query → length query ≤ 82
query_short text medium incident label query legal = legal.short

pub query_other : (text query : List ℕ) (c : Configuration) → configuration text ≡ Ok c → ((asked : Asked) → Asks c query asked → ⊥) → IsQuery text query → ⊥
query_other text query c read none legal = none legal.asked (subst (λ (d : Configuration). Asks d query legal.asked) (same_config text legal.config c legal.read read) legal.asks)

pub text_other : (text : List ℕ) (e : ConfigBad) → configuration text ≡ Err e → IsText text → ⊥
text_other text e read legal = not_both legal.config e (sym legal.read ∙ read)
  where
    not_both : (c : Configuration) (e : ConfigBad) → ◌≡◌ {A = Result Configuration ConfigBad} (Ok c) (Err e) → ⊥
    not_both c e same = cc

-- ---- the whole heading

five : (m a b c d e : List ℕ) → m ++ a ++ b ++ c ++ d ++ e ≡ m ++ (a ++ (b ++ (c ++ (d ++ (e ++ [])))))
five m a b c d e =
    sym (append-nil (m ++ a ++ b ++ c ++ d ++ e))
    ∙ append_assoc (m ++ a ++ b ++ c ++ d) e []
    ∙ append_assoc (m ++ a ++ b ++ c) d (e ++ [])
    ∙ append_assoc (m ++ a ++ b) c (d ++ (e ++ []))
    ∙ append_assoc (m ++ a) b (c ++ (d ++ (e ++ [])))
    ∙ append_assoc m a (b ++ (c ++ (d ++ (e ++ []))))

pub heading_is : (h : Heading) → heading_bytes h ≡ front_of (parts_of h)
unfolding heading_bytes
heading_is h = five (codes "VDREVID1") (part h.text) (part (h.medium ∷ [])) (part (le_u32 h.incident)) (part h.label) (part h.query)

pub behind_heading : (first left : Option (List ℕ)) (reader : Reader) (h : Heading) → Stands first left reader (parts_of h) → IsBehind first left reader (heading_bytes h)
behind_heading first left reader h stands = subst (λ (l : List ℕ). IsBehind first left reader l) (sym (heading_is h)) stands.behind

-- How long a part may be, whichever it is.
pub may_short : (front : List (List ℕ)) (x : List ℕ) → MayFollow front x → length x < 2 ^ 32
may_short [] x legal = omega (arith, text_short x legal)
may_short (a ∷ []) x legal = omega (arith, medium_short a x legal)
may_short (a ∷ b ∷ []) x legal = omega (arith, incident_short a b x legal)
may_short (a ∷ b ∷ c ∷ []) x legal = omega (arith, label_short a b c x legal)
may_short (a ∷ b ∷ c ∷ d ∷ []) x legal = omega (arith, query_short a b c d x legal)
may_short (a ∷ b ∷ c ∷ d ∷ e ∷ more) x legal = absurd legal
