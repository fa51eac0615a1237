-- A file that is read again, and what of it a visitor was handed.
use Rattle.std.proofs.Common.{bytes_eq, not, true≢false, codes, take, ◌≡◌, ◌≤◌, ◌<◌, ◌+◌, ◌⊎◌, inl, inr, ℕ, Bool, true, false, List, [], ◌∷◌, ◌++◌, length, min, Option, None, Some, Result, Ok, Err, refl, ap, ◌∙◌, sym, subst, append_assoc, append-nil, arith, length-append}
use Rattle.std.specs.Bool.{⊤}
use Rattle.std.specs.Prelude.{IfSome, if◌then◌else◌, option_map}
use Rattle.std.proofs.lemmas.List.{append_cancel_left, nil_from_length}
use Rattle.std.proofs.lemmas.Slice.Eq.{bytes_eq-Decides}
use Rattle.std.proofs.KnownBytes.{Appends-trans}
use Rattle.std.proofs.lemmas.Grind.{flat_map-append}
use Rattle.std.proofs.lemmas.List.Elements.{filter-append}
use Rattle.std.specs.Io.KnownBytes.{Appends, Consumes}
use Rattle.sha2.specs.Sha256.{sha256}
use Rattle.sha2.proofs.Facts256.{length-sha256}
use Rattle.vdr_bytes.specs.Numbers.{le_u32, le_u64}
use Rattle.vdr_bytes.proofs.NumberLemmas.{length-le_u64, take-front}
use Rattle.vdr_terms.specs.Queries.{Query, matches}
use Rattle.vdr_terms.specs.Records.{Record, last}
use Rattle.vdr_visit.specs.Prints.{lines_behind, text_of, whole_text}
use Rattle.vdr_visit.specs.Refusals.{stop_of}
use Rattle.vdr_visit.specs.Visits.{AreVisited, HasHanded, HasMade}
use Rattle.vdr_visit.specs.declared.visit_refused.VisitRefused.{VisitRefused}
use Rattle.vdr_visit.specs.declared.visit_refused.VisitRefused.TheVariants.{Damaged, Fault, NoChannel, NoIncident, Output, Own}
use Rattle.vdr_visit.specs.declared.visit_refused.VisitorRefused.{VisitorRefused}
use Rattle.vdr_visit.proofs.Printing.{front_of, front_of_whole}
use Rattle.vdr_evidence.specs.Files.{Heading, counted, covered, evidence_bytes, heading_bytes, part, record_part, record_parts}
use Rattle.vdr_verify.specs.Accounts.{spot_of}
use Rattle.vdr_verify.specs.Evidences.{IsFileOf}
use Rattle.vdr_verify.specs.Legal.{AreNext, IsEvidence, IsHeading, IsNext}
use Rattle.vdr_verify.specs.Lists.{FindsNext, IsBehindRecords, front_behind}
use Rattle.vdr_verify.specs.Reading.{HasRead, ReadsOn}
use Rattle.vdr_verify.specs.Standing.{IsBehind, Refuses}
use Rattle.vdr_verify.specs.Stops.{Holds, StopsAt}
use Rattle.vdr_verify.specs.Visiting.{HoldsNext, IsBeforeRecords, IsLeftWhole, IsReadStop, Meets, Passes, StepsOn, longest_heading, selected_in, stop_again}
use Rattle.vdr_verify.specs.declared.part.Part.{Part}
use Rattle.vdr_verify.specs.declared.refused.VerifyRefused.{VerifyRefused}
use Rattle.vdr_verify.specs.declared.refused.VerifyRefused.TheVariants.{Illegal, Input, NoMemory}
use Rattle.vdr_verify.specs.declared.refused.VerifyRefused.TheVariants as refusals
use Rattle.vdr_verify.specs.declared.account.Spot.{Spot}
use Rattle.vdr_verify.specs.declared.evidence.Evidence.{Evidence}
use Rattle.vdr_verify.specs.declared.query.Asked.{Asked}
use Rattle.vdr_verify.specs.declared.reader.Reader.{Reader}
use Rattle.vdr_verify.proofs.Exclusion.{found, no_evidence_stops, no_end, one_record_at, same_asked, same_heading, whole}
use Rattle.vdr_verify.proofs.Heads.{incident_short, label_short, medium_short, query_short, text_short}
use Rattle.vdr_verify.proofs.Lists.{last_more}
use Rattle.vdr_verify.proofs.Pieces.{length-part}
use Rattle.vdr_verify.proofs.Telling.{before_records}

-- ---- the records that were read so far are the first of the file

-- Records at the front of the records of a file are the first of them.
first_of : (q : Asked) (front before records : List Record) (rest tail : List ℕ) → AreNext q front before → AreNext q front records → record_parts before ++ rest ≡ record_parts records ++ (le_u32 0 ++ tail)
    → (more : List Record) × (records ≡ before ++ more)
first_of q front [] records rest tail are of e = (records, refl)
first_of q front (r ∷ before) [] rest tail are of e = absurd (no_end r (record_parts before ++ rest) tail are.0.legal (sym (append_assoc (record_part r) (record_parts before) rest) ∙ e))
first_of q front (r ∷ before) (s ∷ records) rest tail are of e =
    let same = one_record_at r s (record_parts before ++ rest) (record_parts records ++ (le_u32 0 ++ tail)) are.0.legal of.0.legal
    (sym (append_assoc (record_part r) (record_parts before) rest) ∙ e ∙ append_assoc (record_part s) (record_parts records) (le_u32 0 ++ tail)) in
    let more = first_of q (front ++ r ∷ []) before records rest tail are.1 (subst (λ (x : Record). AreNext q (front ++ x ∷ []) records) (sym same.0) of.1) same.1 in
    let one = sym same.0 in
    (more.0, λ i. one i ∷ more.1 i)

module _ (heading : Heading) (all : List Record) (is : IsEvidence (evidence_bytes (heading_bytes heading) all) heading all) where
  pub read_first : (left : Option (List ℕ)) (reader : Reader) (q : Asked) (spot : Option Spot) (h : Heading) (seen : List Record) → IsBehindRecords (Some (evidence_bytes (heading_bytes heading) all)) left reader q spot h seen
      → (more : List Record) × (all ≡ seen ++ more)
  read_first None reader q spot h seen b = absurd b.behind.consumed
  read_first (Some rest) reader q spot h seen b =
      let digest = sha256 (covered (heading_bytes heading) all) in
      let e : heading_bytes h ++ (record_parts seen ++ rest) ≡ heading_bytes heading ++ (record_parts all ++ (le_u32 0 ++ (le_u64 (counted all) ++ digest))) =
      sym (append_assoc (heading_bytes h) (record_parts seen) rest) ∙ sym b.behind.consumed ∙ whole heading all digest in
      let same = same_heading h heading q is.query _ _ b.holds.heading is.heading e in
      let asked : q ≡ is.query = same_asked h heading q is.query b.holds.heading is.heading same.0 in
      first_of q [] seen all rest (le_u64 (counted all) ++ digest) b.holds.legal (subst (λ (x : Asked). AreNext x [] all) (sym asked) is.legal) same.1

  -- Where the length 0 stands behind them they are all, and behind it stand the number and the digest.
  pub read_all : (left : Option (List ℕ)) (reader : Reader) (q : Asked) (h : Heading) (seen : List Record) → IsHeading h q → AreNext q [] seen
      → IsBehind (Some (evidence_bytes (heading_bytes heading) all)) left reader (front_behind h seen ++ le_u32 0)
      → (h ≡ heading) × (seen ≡ all) × (left ≡ Some (le_u64 (counted all) ++ sha256 (covered (heading_bytes heading) all)))
  read_all None reader q h seen of_h are b = absurd b.consumed
  read_all (Some rest) reader q h seen of_h are b =
      go (found (evidence_bytes (heading_bytes heading) all) (le_u32 0 ++ rest) h heading q is.query seen all of_h are is.heading is.legal refl
      (b.consumed ∙ append_assoc (front_behind h seen) (le_u32 0) rest))
    where
      cancel : (x y : List ℕ) → le_u32 0 ++ x ≡ le_u32 0 ++ y → x ≡ y
      cancel x y e = append_cancel_left (le_u32 0) x y e

      go : ((r : Record) × (after : List ℕ) × IsNext q seen r × (le_u32 0 ++ rest ≡ record_part r ++ after))
          ⊎ ((h ≡ heading) × (seen ≡ all) × (le_u32 0 ++ rest ≡ le_u32 0 ++ (le_u64 (counted all) ++ sha256 (covered (heading_bytes heading) all))))
          → (h ≡ heading) × (seen ≡ all) × (◌≡◌ {A = Option (List ℕ)} (Some rest) (Some (le_u64 (counted all) ++ sha256 (covered (heading_bytes heading) all))))
      go (inl next) = absurd (no_end next.0 next.1 rest next.2.legal (sym next.3))
      go (inr so) = (so.0, so.1, ap (λ (l : List ℕ). Some l) (cancel rest _ so.2))

-- ---- what was handed to a visitor so far

pub selected_more : (query : Query) (all : List Record) (r : Record) → selected_in query (all ++ r ∷ []) ≡ selected_in query all ++ selected_in query (r ∷ [])
selected_more query all r = filter-append (matches query) all (r ∷ [])

pub selected_one : (query : Query) (r : Record) → matches query r ≡ true → selected_in query (r ∷ []) ≡ r ∷ []
selected_one query r is = ap (λ (b : Bool). if b then r ∷ [] else []) is

-- The records that the query selects begin with those that it selects of the first.
pub first_selected : (query : Query) (all seen more records : List Record) → all ≡ seen ++ more → records ≡ selected_in query all → (rest : List Record) × (records ≡ selected_in query seen ++ rest)
first_selected query all seen more records is are = (selected_in query more, are ∙ ap (selected_in query) is ∙ filter-append (matches query) seen more)

-- The first records were handed on when reading was stopped: by a fault, or since the file is no evidence any more.
module _ {R : Type 0} {Tells Has : List Record → Type 0} {Stops : List Record → R → Type 0} {line : List Record → Record → List ℕ} {was now : Option (List ℕ)} (seen : List Record)
    (made : Has seen × Appends was now (text_of line seen)) (tell : (records : List Record) → Tells records → (rest : List Record) × (records ≡ seen ++ rest)) where
  pub handed_stopped : (whole : List Record → List ℕ) → ((records : List Record) → (more : List ℕ) × (whole records ≡ text_of line records ++ more)) → (stop : VisitRefused R) → IsReadStop stop
      → ((m offset : ℕ) → stop ≡ Damaged m offset → (records : List Record) → Tells records → ⊥)
      → (out : Result ⊤ (VisitRefused R)) → out ≡ Err stop → HasHanded Tells Has Stops line whole was now out
  handed_stopped whole ends stop legal never out is = record {
    seen = seen;
    made = subst (HasMade (Has seen) (Stops seen) line (whole seen) seen was now) (sym is) (so stop legal);
    are = λ records t. subst (AreVisited seen records) (sym is) (are stop legal never records t);
    front = λ records t.
        let rest = tell records t in
        let f = front_of line seen rest.0 records was now rest.1 made.1 in
        let w = ends records in
        (f.0, f.1 ++ w.0, w.1 ∙ ap (λ (l : List ℕ). l ++ w.0) f.2 ∙ append_assoc f.0 f.1 w.0, f.3);
  }
    where
      so : (stop : VisitRefused R) → IsReadStop stop → HasMade (Has seen) (Stops seen) line (whole seen) seen was now (Err stop)
      so Fault legal = made
      so (Damaged m offset) legal = made
      so NoChannel legal = absurd legal
      so NoIncident legal = absurd legal
      so Output legal = absurd legal
      so (Own reason) legal = absurd legal

      are : (stop : VisitRefused R) → IsReadStop stop → ((m offset : ℕ) → stop ≡ Damaged m offset → (records : List Record) → Tells records → ⊥) → (records : List Record) → Tells records → AreVisited {R = R} seen records (Err stop)
      are Fault legal never records t = tell records t
      are (Damaged m offset) legal never records t = never m offset refl records t
      are NoChannel legal never records t = absurd legal
      are NoIncident legal never records t = absurd legal
      are Output legal never records t = absurd legal
      are (Own reason) legal never records t = absurd legal

-- All of them were.
pub all_handed : {R : Type 0} {Tells Has : List Record → Type 0} {Stops : List Record → R → Type 0} {was now : Option (List ℕ)} (line : List Record → Record → List ℕ) (seen : List Record)
    → Has seen × Appends was now (text_of line seen) → ((records : List Record) → Tells records → seen ≡ records) → HasHanded Tells Has Stops line (text_of line) was now (Ok tt)
all_handed {was = was} {now = now} line seen made tell = record {
  seen = seen;
  made = made;
  are = tell;
  front = λ records t. front_of line seen [] records was now (sym (tell records t) ∙ sym (append-nil seen)) made.1;
}

pub is_stop : {R : Type 0} (own stop : VisitRefused R) (out : Result ⊤ (VisitRefused R)) → out ≡ Err stop → stop ≡ own → out ≡ Err own
is_stop own stop out is from = is ∙ ap (λ (s : VisitRefused _). Err s) from

pub stopped_by : {R : Type 0} (own : VisitorRefused R) (stop : VisitRefused R) (out : Result ⊤ (VisitRefused R)) → out ≡ Err stop → stop ≡ stop_of own → out ≡ Err (stop_of own)
stopped_by {R} own stop out is from = is ∙ ap (λ (s : VisitRefused R). Err s) from

-- The lines of two lists, one after the other.
lines_joined : (line : List Record → Record → List ℕ) (before xs ys : List Record) → lines_behind line before (xs ++ ys) ≡ lines_behind line before xs ++ lines_behind line (before ++ xs) ys
lines_joined line before [] ys = ap (λ (b : List Record). lines_behind line b ys) (sym (append-nil before))
lines_joined line before (x ∷ xs) ys =
    ap (λ (l : List ℕ). line before x ++ l)
    (lines_joined line (before ++ x ∷ []) xs ys
    ∙ ap (λ (b : List Record). lines_behind line (before ++ x ∷ []) xs ++ lines_behind line b ys) (append_assoc before (x ∷ []) xs))
    ∙ sym (append_assoc (line before x) (lines_behind line (before ++ x ∷ []) xs) (lines_behind line (before ++ x ∷ xs) ys))

pub handed_more : (Has : List Record → Type 0) (line : List Record → Record → List ℕ) (query : Query) (all : List Record) (r : Record) (was mid now : Option (List ℕ)) → Appends was mid (text_of line (selected_in query all))
    → Has (selected_in query all ++ selected_in query (r ∷ [])) → Appends mid now (lines_behind line (selected_in query all) (selected_in query (r ∷ [])))
    → Has (selected_in query (all ++ r ∷ [])) × Appends was now (text_of line (selected_in query (all ++ r ∷ [])))
handed_more Has line query all r was mid now before has here =
    let e = sym (selected_more query all r) in
    let one = selected_in query (r ∷ []) in
    let some = selected_in query all in (
      subst Has e has,
      subst (λ (l : List Record). Appends was now (text_of line l)) e
          (subst (Appends was now) (sym (lines_joined line [] some one)) (Appends-trans was mid now (text_of line some) (lines_behind line some one) before here)),
    )

-- ---- one step of reading

parts_joined : (front : List ℕ) (all : List Record) (r : Record) → (front ++ record_parts all) ++ record_part r ≡ front ++ record_parts (all ++ r ∷ [])
parts_joined front all r =
    append_assoc front (record_parts all) (record_part r)
    ∙ ap (λ (l : List ℕ). front ++ l) (sym (flat_map-append record_part all (r ∷ []) ∙ ap (λ (l : List ℕ). record_parts all ++ l) (append-nil (record_part r))))

module _ (reader : Reader) (r : Record) (front : List ℕ) (all : List Record) (more : Bool) where
  pub held_more : more ≡ true → HoldsNext reader r (front ++ record_parts all) more → HasRead reader (front ++ record_parts (all ++ r ∷ []))
  held_more is held = subst (HasRead reader) (parts_joined front all r) (subst (λ (b : Bool). HoldsNext reader r (front ++ record_parts all) b) is held)

  pub end_held : more ≡ false → HoldsNext reader r (front ++ record_parts all) more → HasRead reader (front ++ record_parts all ++ le_u32 0)
  end_held is held = subst (λ (b : Bool). HoldsNext reader r (front ++ record_parts all) b) is held

module _ (first left : Option (List ℕ)) (reader : Reader) (q : Asked) (r : Record) (h : Heading) (all : List Record) (more : Bool) where
  pub behind_more : more ≡ true → FindsNext first left reader q r h all (Ok more) → IsBehindRecords first left reader q (Some (spot_of r)) h (all ++ r ∷ [])
  behind_more is finds =
      subst (λ (o : Option Spot). IsBehindRecords first left reader q o h (all ++ r ∷ [])) (ap (λ (o : Option Record). option_map spot_of o) (last_more all r))
      (subst (λ (b : Bool). FindsNext first left reader q r h all (Ok b)) is finds)

  pub end_known : more ≡ false → FindsNext first left reader q r h all (Ok more) → IsBehind first left reader (front_behind h all ++ le_u32 0)
  end_known is finds = subst (λ (b : Bool). FindsNext first left reader q r h all (Ok b)) is finds

-- ---- what a query selects of what is there, by how far it was read

module _ (left0 : Option (List ℕ)) (reader0 : Reader) (q : Asked) (query : Query) (records : List Record) (b : IsBeforeRecords left0 reader0 q query records) where
  abbrev file : Option (List ℕ)
  file = Some (evidence_bytes (heading_bytes b.heading) b.all)

  pub front_told : (left : Option (List ℕ)) (reader : Reader) (spot : Option Spot) (all : List Record) → IsBehindRecords file left reader q spot b.heading all → (rest : List Record) × (records ≡ selected_in query all ++ rest)
  front_told left reader spot all behind =
      let more = read_first b.heading b.all b.is left reader q spot b.heading all behind in
      first_selected query b.all all more.0 records more.1 b.are

  module _ (left : Option (List ℕ)) (reader : Reader) (r : Record) (all : List Record) where
    pub rest_told : (more : Bool) → more ≡ true → FindsNext file left reader q r b.heading all (Ok more) → matches query r ≡ true → (rest : List Record) × (records ≡ (selected_in query all ++ r ∷ []) ++ rest)
    rest_told more is finds taken =
        let rest = front_told left reader (Some (spot_of r)) (all ++ r ∷ []) (behind_more file left reader q r b.heading all more is finds) in
        (rest.0, rest.1 ∙ ap (λ (l : List Record). l ++ rest.0) (selected_more query all r ∙ ap (λ (l : List Record). selected_in query all ++ l) (selected_one query r taken)))

    pub end_rest : (more : Bool) → more ≡ false → Holds b.heading q all → FindsNext file left reader q r b.heading all (Ok more) → selected_in query all ≡ records
    end_rest more is holds finds =
        let so = read_all b.heading b.all b.is left reader q b.heading all holds.heading holds.legal (end_known file left reader q r b.heading all more is finds) in
        ap (selected_in query) so.1 ∙ sym b.are

    pub step_never : {R : Type 0} (m offset : ℕ) (result : Result Bool (VisitRefused R)) (stop : VisitRefused R) → result ≡ Err stop → stop ≡ Damaged m offset → StepsOn file left reader q r b.heading all result → ⊥
    step_never {R} m offset result stop was is finds =
        (subst (λ (s : VisitRefused R). StepsOn file left reader q r b.heading all (Err s)) is (subst (λ (o : Result Bool (VisitRefused R)). StepsOn file left reader q r b.heading all o) was finds)) b.heading b.all b.is

-- ---- the heading, which is passed over

heading_short : (h : Heading) (q : Asked) → IsHeading h q → length (heading_bytes h) ≤ longest_heading
unfolding heading_bytes
heading_short h q is =
    let text = text_short h.text is.parts.0 in
    let medium = medium_short h.text (h.medium ∷ []) is.parts.1.0 in
    let incident = incident_short h.text (h.medium ∷ []) (le_u32 h.incident) is.parts.1.1.0 in
    let label = label_short h.text (h.medium ∷ []) (le_u32 h.incident) h.label is.parts.1.1.1.0 in
    let query = query_short h.text (h.medium ∷ []) (le_u32 h.incident) h.label h.query is.parts.1.1.1.1.0 in
    let a = codes "VDREVID1" in
    let b = part h.text in
    let c = part (h.medium ∷ []) in
    let d = part (le_u32 h.incident) in
    let e = part h.label in
    let f = part h.query in
    omega (
      arith,
      text,
      medium,
      incident,
      label,
      query,
      length-part h.text,
      length-part (h.medium ∷ []),
      length-part (le_u32 h.incident),
      length-part h.label,
      length-part h.query,
      length-append a b,
      length-append (a ++ b) c,
      length-append ((a ++ b) ++ c) d,
      length-append (((a ++ b) ++ c) ++ d) e,
      length-append ((((a ++ b) ++ c) ++ d) ++ e) f,
    )

-- So many bytes are the heading.
begin_is : (kept : Evidence) (h : Heading) (all : List Record) → IsFileOf kept h all → min kept.begin longest_heading ≡ length (heading_bytes h)
begin_is kept h all of =
    let short = heading_short h kept.head.asked of.head.heading in
    let e = of.begin_is in omega (arith, short, e)

-- The file of this heading and of these records, with what stands behind the heading.
file_tail : (h : Heading) (all : List Record) → (tail : List ℕ) × (evidence_bytes (heading_bytes h) all ≡ heading_bytes h ++ tail)
file_tail h all = (_, whole h all (sha256 (covered (heading_bytes h) all)))

module _ (left0 : Option (List ℕ)) (kept : Evidence) (query : Query) (records : List Record) (w : IsLeftWhole left0 kept query records) where
  of_file : IsEvidence (evidence_bytes (heading_bytes w.heading) w.all) w.heading w.all
  of_file = record { query = kept.head.asked; heading = w.of.head.heading; legal = w.of.legal; spelled = refl }

  -- Fewer bytes are not left.
  pub pass_never : IfSome left0 (λ rest. length rest < min kept.begin longest_heading) → ⊥
  pass_never short =
      let tail = file_tail w.heading w.all in
      let few : length (evidence_bytes (heading_bytes w.heading) w.all) < min kept.begin longest_heading = subst (λ (o : Option (List ℕ)). IfSome o (λ rest. length rest < min kept.begin longest_heading)) w.is short in
      let long : length (evidence_bytes (heading_bytes w.heading) w.all) ≡ length (heading_bytes w.heading) + length tail.0 = ap (λ (l : List ℕ). length l) tail.1 ∙ length-append (heading_bytes w.heading) tail.0 in
      let size = begin_is kept w.heading w.all w.of in
      omega (arith, few, long, size)

  -- What was passed over is the heading.
  pub pass_told : (left : Option (List ℕ)) (old new : Reader) (piece : List ℕ) → length piece ≡ min kept.begin longest_heading → ReadsOn left0 left old new piece → HasRead old [] → IsBeforeRecords left new kept.head.asked query records
  pass_told left old new piece long read has =
      let bytes = evidence_bytes (heading_bytes w.heading) w.all in
      let consumed : Consumes (Some bytes) left piece = subst (λ (o : Option (List ℕ)). Consumes o left piece) w.is read.consumed in
      let same = by left consumed in
      record {
        heading = w.heading;
        all = w.all;
        is = of_file;
        behind = before_records (Some bytes) left new kept.head.asked w.heading w.of.head.heading
            (subst (λ (l : List ℕ). IsBehind (Some bytes) left new l) same (record { consumed = consumed; held = read.held [] has }));
        are = w.are;
      }
    where
      by : (left : Option (List ℕ)) → Consumes (Some (evidence_bytes (heading_bytes w.heading) w.all)) left piece → piece ≡ heading_bytes w.heading
      by None read = absurd read
      by (Some rest) read =
          let tail = file_tail w.heading w.all in
          let n = length (heading_bytes w.heading) in
          sym (take-front n piece rest (long ∙ begin_is kept w.heading w.all w.of)) ∙ ap (λ (l : List ℕ). take n l) (sym read ∙ tail.1) ∙ take-front n (heading_bytes w.heading) tail.0 refl

  pub pass_heading : (left : Option (List ℕ)) (old new : Reader) (piece : List ℕ) (long : length piece ≡ min kept.begin longest_heading) (read : ReadsOn left0 left old new piece) (has : HasRead old [])
      → (pass_told left old new piece long read has).heading ≡ w.heading
  unfolding pass_told
  pass_heading left old new piece long read has = refl

  pub pass_all : (left : Option (List ℕ)) (old new : Reader) (piece : List ℕ) (long : length piece ≡ min kept.begin longest_heading) (read : ReadsOn left0 left old new piece) (has : HasRead old [])
      → (pass_told left old new piece long read has).all ≡ w.all
  unfolding pass_told
  pass_all left old new piece long read has = refl

  -- Behind all records the number and the digest are left, and the file meets its digest.
  pub meet_never : (left1 : Option (List ℕ)) (reader1 : Reader) (b : IsBeforeRecords left1 reader1 kept.head.asked query records) (left : Option (List ℕ)) (reader : Reader) (all : List Record)
      → AreNext kept.head.asked [] all → IsBehind (Some (evidence_bytes (heading_bytes b.heading) b.all)) left reader (front_behind b.heading all ++ le_u32 0)
      → b.heading ≡ w.heading → b.all ≡ w.all
      → IfSome left (λ rest. (front : List ℕ) → HasRead reader front → length rest ≡ 40 → sha256 (front ++ rest) ≡ kept.digest → ⊥) → ⊥
  meet_never left1 reader1 b left reader all are behind same_h same_all none =
      let so = read_all b.heading b.all b.is left reader kept.head.asked b.heading all b.behind.holds.heading are behind in
      let digest = sha256 (covered (heading_bytes b.heading) b.all) in
      let rest = le_u64 (counted b.all) ++ digest in
      let front = front_behind b.heading all ++ le_u32 0 in
      let other = subst (λ (o : Option (List ℕ)). IfSome o (λ rest. (front : List ℕ) → HasRead reader front → length rest ≡ 40 → sha256 (front ++ rest) ≡ kept.digest → ⊥)) so.2 none in
      let size : length rest ≡ 40 = length-append (le_u64 (counted b.all)) digest ∙ omega (arith, length-le_u64 (counted b.all), length-sha256 (covered (heading_bytes b.heading) b.all)) in
      let bytes : front ++ rest ≡ evidence_bytes (heading_bytes b.heading) b.all =
      ap (λ (l : List Record). (front_behind b.heading l ++ le_u32 0) ++ rest) so.1
      ∙ sym (append_assoc (front_behind b.heading b.all ++ le_u32 0) (le_u64 (counted b.all)) digest)
      ∙ ap (λ (l : List ℕ). l ++ digest) (append_assoc (front_behind b.heading b.all) (le_u32 0) (le_u64 (counted b.all))) in
      other front behind.held size
      (ap (λ (l : List ℕ). sha256 l) (bytes ∙ (λ i. evidence_bytes (heading_bytes (same_h i)) (same_all i))) ∙ sym w.of.digest_is)

-- ---- what a step that was refused told

pub stop_finds : {R : Type 0} (first left : Option (List ℕ)) (reader : Reader) (q : Asked) (r : Record) (h : Heading) (seen : List Record) (refused : VerifyRefused) (stop : VisitRefused R) → stop ≡ stop_again refused
    → Refuses first refused → StepsOn first left reader q r h seen (Err stop)
stop_finds {R} first left reader q r h seen refused stop is told = subst (λ (s : VisitRefused R). StepsOn first left reader q r h seen (Err s)) (sym is) (by refused told)
  where
    stops : (first : Option (List ℕ)) (named : Part) (offset : ℕ) → IfSome first (λ bytes. StopsAt bytes named offset) → IfSome first (λ bytes. (k : Heading) (all : List Record) → IsEvidence bytes k all → ⊥)
    stops None named offset at = tt
    stops (Some bytes) named offset at = λ k all is. no_evidence_stops bytes k all named offset is at

    by : (refused : VerifyRefused) → Refuses first refused → StepsOn {R = R} first left reader q r h seen (Err (stop_again refused))
    by (Illegal named offset) told = stops first named offset told
    by Input told = tt
    by refusals.Output told = absurd told
    by NoMemory told = tt

-- Another digest than that of the bytes that are left.
pub digest_other : (left now : Option (List ℕ)) (old new : Reader) (piece got wanted : List ℕ) → ReadsOn left now old new piece → length piece ≡ 40 → ((front : List ℕ) → HasRead new front → got ≡ sha256 front) → (b : Bool) → b ≡ not (bytes_eq got wanted) → b ≡ true
    → IfSome left (λ rest. (front : List ℕ) → HasRead old front → length rest ≡ 40 → sha256 (front ++ rest) ≡ wanted → ⊥)
digest_other None now old new piece got wanted read long hash b other is = tt
digest_other (Some rest) None old new piece got wanted read long hash b other is = absurd read.consumed
digest_other (Some rest) (Some behind) old new piece got wanted read long hash b other is = λ front has size same.
    let whole : length rest ≡ length piece + length behind = ap (λ (l : List ℕ). length l) read.consumed ∙ length-append piece behind in
    let none : behind ≡ [] = nil_from_length behind (omega (arith, whole, long, size)) in
    let all : rest ≡ piece = read.consumed ∙ ap (λ (l : List ℕ). piece ++ l) none ∙ append-nil piece in
    let equal : got ≡ wanted = hash (front ++ piece) (read.held front has) ∙ ap (λ (l : List ℕ). sha256 (front ++ l)) (sym all) ∙ same in
    let yes_ : bytes_eq got wanted ≡ true = (bytes_eq-Decides got wanted).1 equal in
    true≢false (sym is ∙ other ∙ ap (λ (x : Bool). not x) yes_)

pub pass_at : {R : Type 0} (m offset : ℕ) (left now : Option (List ℕ)) (old new : Reader) (begin : ℕ) (result : Result ⊤ (VisitRefused R)) (stop : VisitRefused R) → result ≡ Err stop → stop ≡ Damaged m offset
    → Passes left now old new begin result → IfSome left (λ rest. length rest < min begin longest_heading)
pass_at {R} m offset left now old new begin result stop was is passes =
    subst (λ (s : VisitRefused R). Passes left now old new begin (Err s)) is (subst (λ (o : Result ⊤ (VisitRefused R)). Passes left now old new begin o) was passes)

pub meet_at : {R : Type 0} (m offset : ℕ) (left : Option (List ℕ)) (reader : Reader) (digest : List ℕ) (result : Result ⊤ (VisitRefused R)) (stop : VisitRefused R) → result ≡ Err stop → stop ≡ Damaged m offset
    → Meets left reader digest result → IfSome left (λ rest. (front : List ℕ) → HasRead reader front → length rest ≡ 40 → sha256 (front ++ rest) ≡ digest → ⊥)
meet_at {R} m offset left reader digest result stop was is meets =
    subst (λ (s : VisitRefused R). Meets left reader digest (Err s)) is (subst (λ (o : Result ⊤ (VisitRefused R)). Meets left reader digest o) was meets)

-- ---- what was handed on before the end

module _ {R : Type 0} {Tells Has : List Record → Type 0} {Stops : List Record → R → Type 0} {line : List Record → Record → List ℕ} {was now : Option (List ℕ)} {ended : Result ⊤ (VisitRefused R)}
    (v : HasHanded Tells Has Stops line (text_of line) was now ended) (Known : List Record → Type 0) (known : (records : List Record) → Known records → Tells records) where
  pub ended_early : (last : List Record → List ℕ) (stop : VisitRefused R) (out : Result ⊤ (VisitRefused R)) → ended ≡ Err stop → out ≡ Err stop → HasHanded Known Has Stops line (whole_text line last) was now out
  ended_early last stop out was_is is = record {
    seen = v.seen;
    made = subst (HasMade (Has v.seen) (Stops v.seen) line (whole_text line last v.seen) v.seen was now) (sym is)
        (by stop (subst (λ (o : Result ⊤ (VisitRefused R)). HasMade (Has v.seen) (Stops v.seen) line (text_of line v.seen) v.seen was now o) was_is v.made));
    are = λ records t. subst (AreVisited v.seen records) (was_is ∙ sym is) (v.are records (known records t));
    front = λ records t. front_of_whole was now (text_of line records) (last records) (v.front records (known records t));
  }
    where
      by : (e : VisitRefused R) → HasMade (Has v.seen) (Stops v.seen) line (text_of line v.seen) v.seen was now (Err e)
          → HasMade (Has v.seen) (Stops v.seen) line (whole_text line last v.seen) v.seen was now (Err e)
      by NoChannel m = m
      by NoIncident m = m
      by Fault m = m
      by (Damaged k offset) m = m
      by Output m = m
      by (Own reason) m = m
