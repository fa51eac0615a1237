-- The records of a file.
use Rattle.std.proofs.Common.{◌≡◌, ◌<◌, ◌≤◌, ◌+◌, ℕ, Bool, true, false, List, [], ◌∷◌, ◌++◌, length, Option, None, Some, IfSome, Ok, Err, Result, refl, ap, ◌∙◌, sym, subst, append_assoc, append-nil, arith, option_map, length-append, ◌⊎◌, inl, inr, take, true≢false}
use Rattle.std.proofs.lemmas.Grind.{flat_map-append, fold-append}
use Rattle.std.proofs.lemmas.List.{length-take-le, nil_from_length}
use Rattle.std.specs.Io.KnownBytes.{Consumes}
use Rattle.vdr_bytes.specs.Numbers.{le_u32}
use Rattle.vdr_terms.specs.Legality.{IsRecord}
use Rattle.vdr_terms.specs.Records.{Record, last, last_after}
use Rattle.vdr_terms.specs.Sizes.{record_size}
use Rattle.vdr_entry.specs.Reading.{Begins}
use Rattle.vdr_entry.specs.Spelling.{record_bytes}
use Rattle.vdr_entry.proofs.ReadingLemmas.{one_record}
use Rattle.vdr_entry.proofs.SpellingLemmas.{length-record_bytes, record_short}
use Rattle.vdr_evidence.specs.Files.{Heading, heading_bytes, part, record_part, record_parts}
use Rattle.vdr_verify.specs.Accounts.{account_of, account_with, no_account, spot_of}
use Rattle.vdr_verify.specs.Legal.{AreNext, IsNext, selects}
use Rattle.vdr_verify.specs.Lists.{FindsNext, HasCounted, HasListed, IsBehindRecords, IsGiven, ReadsRecords, front_behind, places_above}
use Rattle.vdr_verify.specs.Reading.{HasNoPart, ReadsOn}
use Rattle.vdr_verify.specs.Standing.{IsBehind, Refuses}
use Rattle.vdr_verify.specs.Stops.{AtRecord, Stops}
use Rattle.vdr_verify.specs.declared.account.Account.{Account}
use Rattle.vdr_verify.specs.declared.account.Spot.{Spot}
use Rattle.vdr_verify.specs.declared.part.Part.TheVariants.{Record as RecordPart}
use Rattle.vdr_verify.specs.declared.query.Asked.{Asked}
use Rattle.vdr_verify.specs.declared.reader.Reader.{Reader}
use Rattle.vdr_verify.specs.declared.records.Listed.{Listed}
use Rattle.vdr_verify.specs.declared.refused.VerifyRefused.{VerifyRefused}
use Rattle.vdr_verify.specs.declared.refused.VerifyRefused.TheVariants.{Illegal}
use Rattle.vdr_verify.proofs.Pieces.{one_part, read_behind}
use Rattle.vdr_verify.proofs.Refusals.{if_known, refused_at}

-- ---- one record more

pub last_more : (seen : List Record) (r : Record) → last (seen ++ r ∷ []) ≡ Some r
last_more [] r = refl
last_more (x ∷ xs) r = ap (λ (s : Record). Some s) (after x xs)
  where
    after : (x : Record) (xs : List Record) → last_after x (xs ++ r ∷ []) ≡ r
    after x [] = refl
    after x (y ∷ ys) = after y ys

next_more : (q : Asked) (before records : List Record) (r : Record) → AreNext q before records → IsNext q (before ++ records) r → AreNext q before (records ++ r ∷ [])
next_more q before [] r are next = (subst (λ (l : List Record). IsNext q l r) (append-nil before) next, tt)
next_more q before (x ∷ xs) r are next = (are.0, next_more q (before ++ x ∷ []) xs r are.1 (subst (λ (l : List Record). IsNext q l r) (sym (append_assoc before (x ∷ []) xs)) next))

parts_more : (h : Heading) (seen : List Record) (r : Record) → front_behind h seen ++ record_part r ≡ front_behind h (seen ++ r ∷ [])
parts_more h seen r =
    append_assoc (heading_bytes h) (record_parts seen) (record_part r)
    ∙ ap (λ (l : List ℕ). heading_bytes h ++ l)
    (sym (flat_map-append record_part seen (r ∷ []) ∙ ap (λ (l : List ℕ). record_parts seen ++ l) (append-nil (record_part r))))

next_of : (q : Asked) (seen : List Record) (spot : Option Spot) (r : Record) → spot ≡ option_map spot_of (last seen) → IsGiven q spot r → IsNext q seen r
next_of q seen spot r is given = record { legal = given.legal; selected = given.selected; later = by (last seen) (subst (λ (o : Option Spot). IfSome o (λ s. s.place < r.place)) is given.above) }
  where
    by : (o : Option Record) → IfSome (option_map spot_of o) (λ s. s.place < r.place) → IfSome o (λ s. s.place < r.place)
    by None above = tt
    by (Some s) above = above

given_of : (q : Asked) (seen : List Record) (spot : Option Spot) (r : Record) → spot ≡ option_map spot_of (last seen) → IsNext q seen r → IsGiven q spot r
given_of q seen spot r is next = record { legal = next.legal; selected = next.selected; above = subst (λ (o : Option Spot). IfSome o (λ s. s.place < r.place)) (sym is) (by (last seen) next.later) }
  where
    by : (o : Option Record) → IfSome o (λ s. s.place < r.place) → IfSome (option_map spot_of o) (λ s. s.place < r.place)
    by None above = tt
    by (Some s) above = above

-- The next record was read.
pub record_on : (first left now : Option (List ℕ)) (old new : Reader) (q : Asked) (spot : Option Spot) (h : Heading) (seen : List Record) (bytes : List ℕ) (r : Record) → IsBehindRecords first left old q spot h seen
    → ReadsOn left now old new (part bytes) → bytes ≡ record_bytes r → IsGiven q spot r → IsBehindRecords first now new q (option_map spot_of (last (seen ++ r ∷ []))) h (seen ++ r ∷ [])
record_on first left now old new q spot h seen bytes r is read spelled given = record {
  holds = record { heading = is.holds.heading; legal = next_more q [] seen r is.holds.legal (next_of q seen spot r is.spot_is given) };
  behind = subst (λ (l : List ℕ). IsBehind first now new l) (ap (λ (l : List ℕ). front_behind h seen ++ part l) spelled ∙ parts_more h seen r)
      (read_behind first left now old new (front_behind h seen) (part bytes) is.behind read);
  spot_is = refl;
}

-- The length 0 was read.
pub end_on : (first left now : Option (List ℕ)) (old new : Reader) (q : Asked) (spot : Option Spot) (h : Heading) (seen : List Record) (bytes : List ℕ) → IsBehindRecords first left old q spot h seen → ReadsOn left now old new (part bytes)
    → bytes ≡ [] → IsBehind first now new (front_behind h seen ++ le_u32 0)
unfolding part
end_on first left now old new q spot h seen bytes is read none =
    subst (λ (l : List ℕ). IsBehind first now new l) (ap (λ (l : List ℕ). front_behind h seen ++ (le_u32 (length l) ++ l)) none ∙ ap (λ (l : List ℕ). front_behind h seen ++ l) (append-nil (le_u32 0)))
    (read_behind first left now old new (front_behind h seen) (part bytes) is.behind read)

-- ---- what is no record

pub record_length : (r : Record) → IsRecord r → length (record_bytes r) ≤ 1516
record_length r legal = omega (arith, length-record_bytes r, record_short r legal)

pub part_none : part [] ≡ le_u32 0
unfolding part
part_none = append-nil (le_u32 0)

stops_so : (first left : Option (List ℕ)) (reader : Reader) (q : Asked) (spot : Option Spot) (h : Heading) (seen : List Record) (offset : ℕ) → IsBehindRecords first left reader q spot h seen → offset ≡ reader.offset
    → IfSome left (λ rest. (x after : List ℕ) → length x ≤ 1516 → (x ≡ []) ⊎ ((r : Record) × (x ≡ record_bytes r) × IsGiven q spot r) → rest ≡ part x ++ after → ⊥) → Refuses first (Illegal RecordPart offset)
stops_so first left reader q spot h seen offset is at none =
    refused_at first left reader RecordPart (front_behind h seen) offset is.behind at (if_known left _ (λ rest. Stops RecordPart (front_behind h seen) rest) stops none)
  where
    stops : (rest : List ℕ) → ((x after : List ℕ) → length x ≤ 1516 → (x ≡ []) ⊎ ((r : Record) × (x ≡ record_bytes r) × IsGiven q spot r) → rest ≡ part x ++ after → ⊥) → AtRecord (front_behind h seen) rest
    stops rest none = record {
      h = h;
      q = q;
      records = seen;
      holds = is.holds;
      front_is = refl;
      lacks = λ r after next e. none (record_bytes r) after (record_length r next.legal) (inr (r, refl, given_of q seen spot r is.spot_is next)) e;
      lacks_end = λ after e. none [] after (omega arith) (inl refl) (e ∙ ap (λ (l : List ℕ). l ++ after) (sym part_none));
    }

pub none_stops : (first left : Option (List ℕ)) (reader : Reader) (q : Asked) (spot : Option Spot) (h : Heading) (seen : List Record) (room offset : ℕ) → IsBehindRecords first left reader q spot h seen → offset ≡ reader.offset → room ≡ 1516
    → IfSome left (HasNoPart room) → Refuses first (Illegal RecordPart offset)
none_stops first left reader q spot h seen room offset is at enough none =
    stops_so first left reader q spot h seen offset is at (if_known left (HasNoPart room) _ (λ rest no x after short legal e. no x after (omega (arith, short, enough)) e) none)

pub other_stops : (first left now : Option (List ℕ)) (old new : Reader) (q : Asked) (spot : Option Spot) (h : Heading) (seen : List Record) (bytes : List ℕ) (offset : ℕ) → IsBehindRecords first left old q spot h seen → offset ≡ old.offset
    → length bytes ≤ 1516 → ReadsOn left now old new (part bytes) → (bytes ≡ [] → ⊥) → ((r : Record) → bytes ≡ record_bytes r → IsGiven q spot r → ⊥) → Refuses first (Illegal RecordPart offset)
other_stops first left now old new q spot h seen bytes offset is at short read some other = stops_so first left old q spot h seen offset is at (none left now read.consumed)
  where
    not_so : (x : List ℕ) → x ≡ bytes → (x ≡ []) ⊎ ((r : Record) × (x ≡ record_bytes r) × IsGiven q spot r) → ⊥
    not_so x same (inl empty) = some (sym same ∙ empty)
    not_so x same (inr found) = other found.0 (sym same ∙ found.1) found.2

    none : (left now : Option (List ℕ)) → Consumes left now (part bytes)
        → IfSome left (λ rest. (x after : List ℕ) → length x ≤ 1516 → (x ≡ []) ⊎ ((r : Record) × (x ≡ record_bytes r) × IsGiven q spot r) → rest ≡ part x ++ after → ⊥)
    none None now consumed = tt
    none (Some rest) None consumed = absurd consumed
    none (Some rest) (Some behind) consumed = λ x after least legal e.
        not_so x (one_part x bytes after behind (omega (arith, least)) (omega (arith, short)) (sym e ∙ consumed)).0 legal

-- ---- one record of bytes

pub only_record : (bytes rest : List ℕ) (size : ℕ) (r : Record) → Begins bytes r rest → size ≡ record_size r → size ≡ length bytes → bytes ≡ record_bytes r
only_record bytes rest size r begins is whole =
    let long : length bytes ≡ length (record_bytes r) + length rest = ap (λ (l : List ℕ). length l) begins.spelled ∙ length-append (record_bytes r) rest in
    let none : rest ≡ [] = nil_from_length rest (omega (arith, long, is, whole, length-record_bytes r)) in
    begins.spelled ∙ ap (λ (l : List ℕ). record_bytes r ++ l) none ∙ append-nil (record_bytes r)

whole_begins : (bytes : List ℕ) (r : Record) → IsRecord r → bytes ≡ record_bytes r → Begins bytes r []
whole_begins bytes r legal is = record { legal = legal; spelled = is ∙ sym (append-nil (record_bytes r)) }

-- Where one record is read, another one is none.
pub same_begun : (bytes rest : List ℕ) (r s : Record) → Begins bytes r rest → IsRecord s → bytes ≡ record_bytes s → s ≡ r
same_begun bytes rest r s begins legal is = one_record bytes [] rest s r (whole_begins bytes s legal is) begins

pub not_begun : (bytes : List ℕ) (s : Record) → ((r : Record) (rest : List ℕ) → Begins bytes r rest → ⊥) → IsRecord s → bytes ≡ record_bytes s → ⊥
not_begun bytes s none legal is = none s [] (whole_begins bytes s legal is)

-- ---- the account

pub account_more : (seen : List Record) (r : Record) → account_with (account_of seen) r ≡ account_of (seen ++ r ∷ [])
account_more seen r = sym (fold-append account_with no_account seen (r ∷ []))

pub wrong_size : (bytes rest : List ℕ) (size : ℕ) (s r : Record) → Begins bytes s rest → size ≡ record_size s → (size ≡ length bytes → ⊥) → IsRecord r → bytes ≡ record_bytes r → ⊥
wrong_size bytes rest size s r begins is other legal spelled =
    let same : r ≡ s = same_begun bytes rest s r begins legal spelled in
    other (is ∙ ap (λ (x : Record). record_size x) (sym same) ∙ sym (length-record_bytes r) ∙ sym (ap (λ (l : List ℕ). length l) spelled))

pub not_above : (bytes rest : List ℕ) (q : Asked) (spot : Option Spot) (s r : Record) → Begins bytes s rest → (IfSome spot (λ x. x.place < s.place) → ⊥) → bytes ≡ record_bytes r → IsGiven q spot r → ⊥
not_above bytes rest q spot s r begins none spelled given =
    none (subst (λ (x : Record). IfSome spot (λ y. y.place < x.place)) (same_begun bytes rest s r begins given.legal spelled) given.above)

pub not_selected : (bytes rest : List ℕ) (q : Asked) (spot : Option Spot) (s r : Record) (b : Bool) → Begins bytes s rest → b ≡ selects q s → b ≡ false → bytes ≡ record_bytes r → IsGiven q spot r → ⊥
not_selected bytes rest q spot s r b begins is none spelled given =
    true≢false (sym given.selected ∙ ap (λ (x : Record). selects q x) (same_begun bytes rest s r begins given.legal spelled) ∙ sym is ∙ none)

pub taken_some : (n : ℕ) (l : List ℕ) → n ≤ length l → (n ≡ 0 → ⊥) → take n l ≡ [] → ⊥
taken_some n l within some e = some (sym (length-take-le n l within) ∙ ap (λ (x : List ℕ). length x) e)

-- ---- one record after another

pub found_as : (first left : Option (List ℕ)) (new : Reader) (q : Asked) (r : Record) (h : Heading) (seen : List Record) (x b : Bool) → x ≡ b → FindsNext first left new q r h seen (Ok x) → FindsNext first left new q r h seen (Ok b)
found_as first left new q r h seen x b is finds = subst (λ (y : Bool). FindsNext first left new q r h seen (Ok y)) is finds

pub stopped_as : (first left : Option (List ℕ)) (new : Reader) (q : Asked) (r : Record) (h : Heading) (seen : List Record) (result : Result Bool VerifyRefused) (out : Result Listed VerifyRefused) (e : VerifyRefused) → result ≡ Err e → out ≡ Err e
    → FindsNext first left new q r h seen result → ReadsRecords first left new q h out
stopped_as first left new q r h seen result out e was is finds =
    subst (λ (o : Result Listed VerifyRefused). ReadsRecords first left new q h o) (sym is) (subst (λ (o : Result Bool VerifyRefused). FindsNext first left new q r h seen o) was finds)

pub none_counted : (first left : Option (List ℕ)) (reader : Reader) (q : Asked) (h : Heading) (account : Account) → account ≡ no_account → IsBehindRecords first left reader q None h [] → HasCounted first left reader q h account
none_counted first left reader q h account none is = record { records = []; is = subst (λ (a : Account). IsBehindRecords first left reader q a.last h []) (sym none) is; account_is = none }

pub one_counted : (first left now : Option (List ℕ)) (old new : Reader) (q : Asked) (h : Heading) (account more : Account) (r : Record) (was : HasCounted first left old q h account) → more ≡ account_with account r
    → FindsNext first now new q r h was.records (Ok true) → HasCounted first now new q h more
one_counted first left now old new q h account more r was grown finds = record {
  records = was.records ++ r ∷ [];
  is = subst (λ (o : Option Spot). IsBehindRecords first now new q o h (was.records ++ r ∷ [])) (ap (λ (o : Option Record). option_map spot_of o) (last_more was.records r) ∙ sym (ap (λ (a : Account). a.last) grown)) finds;
  account_is = grown ∙ ap (λ (a : Account). account_with a r) was.account_is ∙ account_more was.records r;
}

pub all_listed : (first left now : Option (List ℕ)) (old new : Reader) (q : Asked) (h : Heading) (listed : Listed) (r : Record) (was : HasCounted first left old q h listed.account) → listed.end ≡ old.offset
    → FindsNext first now new q r h was.records (Ok false) → HasListed first now new q h listed
all_listed first left now old new q h listed r was at finds = record { records = was.records; holds = was.is.holds; account_is = was.account_is; end_is = at ∙ was.is.behind.held.offset_is; behind = finds }

pub fewer_places : (q : Asked) (spot : Option Spot) (r : Record) (more : Option Spot) → IsGiven q spot r → more ≡ Some (spot_of r) → places_above more < places_above spot
fewer_places q spot r more given is = subst (λ (o : Option Spot). places_above o < places_above spot) (sym is) (by spot given.above)
  where
    by : (spot : Option Spot) → IfSome spot (λ s. s.place < r.place) → places_above (Some (spot_of r)) < places_above spot
    by None above = let small = given.legal.place in omega (arith, small)
    by (Some s) above = let small = given.legal.place in omega (arith, small, above)

pub same_bytes : (r s : Record) → IsRecord r → IsRecord s → record_bytes r ≡ record_bytes s → r ≡ s
same_bytes r s legal too e = one_record (record_bytes r) [] [] r s (whole_begins (record_bytes r) r legal refl) (whole_begins (record_bytes r) s too e)
