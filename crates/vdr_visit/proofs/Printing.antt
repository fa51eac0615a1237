-- The text of records that are visited one after another.
use Rattle.std.proofs.Common.{◌≡◌, ℕ, List, [], ◌∷◌, ◌++◌, Option, None, Some, Bool, true, false, Result, Ok, Err, OnErr, OnOk}
use Rattle.std.proofs.Common.{refl, sym, ap, ◌∙◌, subst, append_assoc, append-nil}
use Rattle.std.specs.Bool.{⊤}
use Rattle.std.specs.Io.KnownBytes.{Appends, Keeps}
use Rattle.std.proofs.KnownBytes.{Appends-kept, Appends-nil, Appends-trans}
use Rattle.vdr_terms.specs.Records.{Record}
use Rattle.vdr_outside.specs.Writes.{AppendsFront, BeginsWith, IsFrontOf}
use Rattle.vdr_outside.proofs.Known.{front-more, front-printed}
use Rattle.vdr_visit.specs.Prints.{HasPrinted, lines_behind, text_of, whole_text}
use Rattle.vdr_visit.specs.Refusals.{IfOwn, stop_of, unanswered}
use Rattle.vdr_visit.specs.Visits.{AreVisited, HasHanded, HasMade, ReadEnd, end_of}
use Rattle.vdr_visit.specs.Visits.ReadEnd.{CutOff}
use Rattle.vdr_visit.specs.declared.visit_refused.VisitRefused.{VisitRefused}
use Rattle.vdr_visit.specs.declared.visit_refused.VisitRefused.TheVariants as visits
use Rattle.vdr_visit.specs.declared.visit_refused.VisitorRefused.{VisitorRefused}
use Rattle.vdr_visit.specs.declared.visit_refused.VisitorRefused.TheVariants.{Output, Own}

-- The lines of two lists, one after the other.
lines_joined : (line : List Record → Record → List ℕ) (before xs ys : List Record)
    → lines_behind line before (xs ++ ys) ≡ lines_behind line before xs ++ lines_behind line (before ++ xs) ys
lines_joined line before [] ys = ap (λ (b : List Record). lines_behind line b ys) (sym (append-nil before))
lines_joined line before (x ∷ xs) ys =
    ap (λ (l : List ℕ). line before x ++ l)
    (lines_joined line (before ++ x ∷ []) xs ys
    ∙ ap (λ (b : List Record). lines_behind line (before ++ x ∷ []) xs ++ lines_behind line b ys) (append_assoc before (x ∷ []) xs))
    ∙ sym (append_assoc (line before x) (lines_behind line (before ++ x ∷ []) xs) (lines_behind line (before ++ x ∷ xs) ys))

-- What was printed is a front of the text of more records.
pub front_of : (line : List Record → Record → List ℕ) (seen rest records : List Record) (was now : Option (List ℕ))
    → records ≡ seen ++ rest → Appends was now (text_of line seen) → AppendsFront was now (text_of line records)
front_of line seen rest records was now is printed =
    (text_of line seen, lines_behind line seen rest, ap (text_of line) is ∙ lines_joined line [] seen rest, printed)

pub front_of_none : (was : Option (List ℕ)) (text : List ℕ) → AppendsFront was was text
front_of_none was text = ([], text, refl, Appends-nil was)

-- The same of the text with what stands behind it.
pub front_of_whole : (was now : Option (List ℕ)) (text last : List ℕ) → AppendsFront was now text → AppendsFront was now (text ++ last)
front_of_whole was now text last f = (f.0, f.1 ++ last, ap (λ (l : List ℕ). l ++ last) f.2 ∙ append_assoc f.0 f.1 last, f.3)

-- One more record is printed.
pub printed_next : (line : List Record → Record → List ℕ) (seen : List Record) (r : Record) (was mid now : Option (List ℕ))
    → Appends was mid (text_of line seen) → Appends mid now (line seen r) → Appends was now (text_of line (seen ++ r ∷ []))
printed_next line seen r was mid now before here =
    subst (Appends was now)
    (ap (λ (l : List ℕ). text_of line seen ++ l) (sym (append-nil (line seen r))) ∙ sym (lines_joined line [] seen (r ∷ [])))
    (Appends-trans was mid now (text_of line seen) (line seen r) before here)

-- The visitor stopped at the last of these records or behind it.
pub stopped_made : {R : Type 0} (Has : Type 0) (Stops : R → Type 0) (line : List Record → Record → List ℕ) (whole : List ℕ) (seen : List Record)
    (was mid now : Option (List ℕ)) (own : VisitorRefused R)
    (result : Result ⊤ (VisitorRefused R)) (out : Result ⊤ (VisitRefused R)) → result ≡ Err own → out ≡ Err (stop_of own) → Appends was mid (text_of line seen)
    → (handed more : List Record) → handed ≡ seen ++ more → (text : List ℕ) → HasPrinted text mid now result → IfOwn result Stops
    → HasMade Has Stops line whole handed was now out
stopped_made {R} Has Stops line whole seen was mid now own result out stopped is before handed more split text printed stops =
    subst (HasMade Has Stops line whole handed was now) (sym is)
    (by own (subst (HasPrinted text mid now) stopped printed)
    (subst (λ (o : Result ⊤ (VisitorRefused R)). IfOwn o Stops) stopped stops))
  where
    by : (e : VisitorRefused R) → HasPrinted text mid now (Err e) → IfOwn (Err e) Stops → HasMade Has Stops line whole handed was now (Err (stop_of e))
    by Output p s = tt
    by (Own reason) p s = (s, seen, more, split, Appends-kept was mid now (text_of line seen) before p)

-- What it was handed is a front of what is selected.
pub stopped_front : {R : Type 0} (own : VisitorRefused R) (out : Result ⊤ (VisitRefused R)) → out ≡ Err (stop_of own)
    → (handed records : List Record) → ((rest : List Record) × (records ≡ handed ++ rest)) → AreVisited handed records out
stopped_front {R} own out is handed records first = subst (AreVisited handed records) (sym is) (by own)
  where
    by : (e : VisitorRefused R) → AreVisited {R = R} handed records (Err (stop_of e))
    by Output = first
    by (Own reason) = first

-- What is printed is a front of a text that begins with that of the records seen before and goes on with what the visitor was printing.
pub stopped_text : {R : Type 0} (line : List Record → Record → List ℕ) (seen : List Record) (was mid now : Option (List ℕ)) (own : VisitorRefused R)
    (result : Result ⊤ (VisitorRefused R)) → result ≡ Err own → Appends was mid (text_of line seen)
    → (text rest all : List ℕ) → all ≡ text_of line seen ++ (text ++ rest) → HasPrinted text mid now result → AppendsFront was now all
stopped_text {R} line seen was mid now own result stopped before text rest all split printed =
    by own (subst (HasPrinted text mid now) stopped printed)
  where
    by : (e : VisitorRefused R) → HasPrinted text mid now (Err e) → AppendsFront was now all
    by Output p = front-more was mid now (text_of line seen) text rest all split before p
    by (Own reason) p = (text_of line seen, text ++ rest, split, Appends-kept was mid now (text_of line seen) before p)

-- The text of records, split at one of them.
pub text_at : (line : List Record → Record → List ℕ) (seen : List Record) (r : Record) (rest records : List Record) → records ≡ (seen ++ r ∷ []) ++ rest
    → text_of line records ≡ text_of line seen ++ (line seen r ++ lines_behind line (seen ++ r ∷ []) rest)
text_at line seen r rest records is =
    ap (text_of line) is ∙ lines_joined line [] (seen ++ r ∷ []) rest
    ∙ ap (λ (l : List ℕ). l ++ lines_behind line (seen ++ r ∷ []) rest)
    (lines_joined line [] seen (r ∷ []) ∙ ap (λ (l : List ℕ). text_of line seen ++ l) (append-nil (line seen r)))
    ∙ append_assoc (text_of line seen) (line seen r) (lines_behind line (seen ++ r ∷ []) rest)

-- The same behind the last.
pub whole_at : (line : List Record → Record → List ℕ) (last : List Record → List ℕ) (seen records : List Record) → seen ≡ records
    → whole_text line last records ≡ text_of line seen ++ (last seen ++ [])
whole_at line last seen records is = ap (whole_text line last) (sym is) ∙ ap (λ (l : List ℕ). text_of line seen ++ l) (sym (append-nil (last seen)))

-- What was visited is the same where nothing more is said of it than that the output failed.
pub at_least_front : {R : Type 0} (seen records : List Record) (ended out : Result ⊤ (VisitRefused R)) → AreVisited seen records ended
    → out ≡ Err visits.Output → AreVisited seen records out
at_least_front {R} seen records ended out are is = subst (AreVisited seen records) (sym is) (by ended are)
  where
    by : (e : Result ⊤ (VisitRefused R)) → AreVisited seen records e → (rest : List Record) × (records ≡ seen ++ rest)
    by (Ok all) a = ([], sym a ∙ sym (append-nil seen))
    by (Err visits.NoChannel) a = a
    by (Err visits.NoIncident) a = a
    by (Err visits.Fault) a = a
    by (Err (visits.Damaged m offset)) a = absurd a
    by (Err visits.Output) a = a
    by (Err (visits.Own reason)) a = a

appends_behind : (a b c : Option (List ℕ)) (bytes : List ℕ) → Keeps a b → Appends b c bytes → Appends a c bytes
appends_behind None b c bytes k p = tt
appends_behind (Some x) None c bytes k p = absurd k
appends_behind (Some x) (Some y) None bytes k p = absurd p
appends_behind (Some x) (Some y) (Some z) bytes k p = p ∙ ap (λ (l : List ℕ). l ++ bytes) k

-- What was made, told by what reached the output behind a buffer.
made_kept : {R : Type 0} (Has : Type 0) (Stops : R → Type 0) (line : List Record → Record → List ℕ) (whole : List ℕ) (seen : List Record)
    (start first last took : Option (List ℕ)) (r : Result ⊤ (VisitRefused R))
    → Keeps start first → Keeps last took → HasMade Has Stops line whole seen first last r → HasMade Has Stops line whole seen start took r
made_kept {R} Has Stops line whole seen start first last took r k l = by r
  where
    moved : (text : List ℕ) → Appends first last text → Appends start took text
    moved text h = Appends-kept start last took text (appends_behind start first last text k h) l

    by : (e : Result ⊤ (VisitRefused R)) → HasMade Has Stops line whole seen first last e → HasMade Has Stops line whole seen start took e
    by (Ok all) m = (m.0, moved whole m.1)
    by (Err visits.NoChannel) m = (m.0, moved (text_of line seen) m.1)
    by (Err visits.NoIncident) m = (m.0, moved (text_of line seen) m.1)
    by (Err visits.Fault) m = (m.0, moved (text_of line seen) m.1)
    by (Err (visits.Damaged k offset)) m = (m.0, moved (text_of line seen) m.1)
    by (Err visits.Output) m = tt
    by (Err (visits.Own reason)) m = (m.0, m.1, m.2, m.3, moved (text_of line m.1) m.4)

module _ {R : Type 0} {Tells : List Record → Type 0} {Has : List Record → Type 0} {Stops : List Record → R → Type 0} {line : List Record → Record → List ℕ} {whole : List Record → List ℕ}
    {first last : Option (List ℕ)} {ended : Result ⊤ (VisitRefused R)} (v : HasHanded Tells Has Stops line whole first last ended) (start took : Option (List ℕ))
    (kept : Keeps start first) (front : IsFrontOf took last) (begins : BeginsWith start took) where
  -- A visit through a buffer failed at the output.
  pub blamed : (out : Result ⊤ (VisitRefused R)) → out ≡ Err visits.Output → HasHanded Tells Has Stops line whole start took out
  blamed out is = record {
    seen = v.seen;
    made = subst (HasMade (Has v.seen) (Stops v.seen) line (whole v.seen) v.seen start took) (sym is) tt;
    are = λ records told. at_least_front v.seen records ended out (v.are records told) is;
    front = λ records told. front-printed start first last took (whole records) kept (v.front records told) front begins;
  }

  -- It was closed.
  pub closed_so : {E : Type 0} (closed : Result ⊤ E) (out : Result ⊤ (VisitRefused R)) → OnOk closed (Keeps last took)
      → OnOk closed (out ≡ ended) → OnErr closed (out ≡ Err visits.Output) → HasHanded Tells Has Stops line whole start took out
  closed_so (Ok done) out all same other = record {
    seen = v.seen;
    made = subst (HasMade (Has v.seen) (Stops v.seen) line (whole v.seen) v.seen start took) (sym same)
        (made_kept (Has v.seen) (Stops v.seen) line (whole v.seen) v.seen start first last took ended kept all v.made);
    are = λ records told. subst (AreVisited v.seen records) (sym same) (v.are records told);
    front = λ records told. front-printed start first last took (whole records) kept (v.front records told) front begins;
  }
  closed_so (Err e) out all same other = blamed out other

-- The same visit, told of equal outputs.
pub told_of : {R : Type 0} {Tells : List Record → Type 0} {Has : List Record → Type 0} {Stops : List Record → R → Type 0} {line : List Record → Record → List ℕ} {whole : List Record → List ℕ}
    {first last : Option (List ℕ)} {ended : Result ⊤ (VisitRefused R)} → HasHanded Tells Has Stops line whole first last ended
    → (was now : Option (List ℕ)) → first ≡ was → last ≡ now → HasHanded Tells Has Stops line whole was now ended
told_of {Tells = Tells} {Has = Has} {Stops = Stops} {line = line} {whole = whole} {ended = ended} v was now begins is =
    subst (λ (o : Option (List ℕ) × Option (List ℕ)). HasHanded Tells Has Stops line whole o.0 o.1 ended) (λ i. (begins i, is i)) v

-- How it ended, once what it gathered was handed on.
pub closed_end : {R E : Type 0} (Left : ReadEnd → Type 0) (ended out : Result ⊤ (VisitRefused R)) (closed : Result ⊤ E) → OnOk closed (out ≡ ended) → OnErr closed (out ≡ Err visits.Output)
    → Left (end_of ended) → Left CutOff → Left (end_of out)
closed_end Left ended out (Ok done) same other left cut = subst Left (sym (ap end_of same)) left
closed_end Left ended out (Err e) same other left cut = subst Left (sym (ap end_of other)) cut

-- Nothing was read.
module _ {R : Type 0} (Tells : List Record → Type 0) (Has : List Record → Type 0) (Stops : List Record → R → Type 0) (line : List Record → Record → List ℕ) (whole : List Record → List ℕ)
    (was : Option (List ℕ)) (has : Has []) where
  none_visited : (stop : VisitRefused R) → HasMade (Has []) (Stops []) line (whole []) [] was was (Err stop)
      → ((records : List Record) → AreVisited [] records (Err stop)) → (out : Result ⊤ (VisitRefused R)) → out ≡ Err stop → HasHanded Tells Has Stops line whole was was out
  none_visited stop made are out is = record {
    seen = [];
    made = subst (HasMade (Has []) (Stops []) line (whole []) [] was was) (sym is) made;
    are = λ records told. subst (AreVisited [] records) (sym is) (are records);
    front = λ records told. front_of_none was (whole records);
  }

  -- Since a write had failed.
  pub not_begun : HasHanded Tells Has Stops line whole was was (Err visits.Fault)
  not_begun = none_visited visits.Fault (has, Appends-nil was) (λ records. (records, refl)) (Err visits.Fault) refl

  -- What is asked for is not there.
  pub not_asked : (no_channel no_incident : Bool) (stop : VisitRefused R) (asked out : Result ⊤ (VisitRefused R))
      → asked ≡ unanswered no_channel no_incident → asked ≡ Err stop → out ≡ Err stop → HasHanded Tells Has Stops line whole was was out
  not_asked true no_incident stop asked out answered is so = none_visited visits.NoChannel (has, Appends-nil was) (λ records. (records, refl)) out (so ∙ sym is ∙ answered)
  not_asked false true stop asked out answered is so = none_visited visits.NoIncident (has, Appends-nil was) (λ records. (records, refl)) out (so ∙ sym is ∙ answered)
  not_asked false false stop asked out answered is so = absurd (clash stop asked answered is)
    where
      clash : (stop : VisitRefused R) (asked : Result ⊤ (VisitRefused R)) → asked ≡ Ok tt → asked ≡ Err stop → ⊥
      clash stop asked ok err = cc

-- Then it was cut off.
pub asked_end : {R : Type 0} (no_channel no_incident : Bool) (stop : VisitRefused R) (asked out : Result ⊤ (VisitRefused R)) → asked ≡ unanswered no_channel no_incident → asked ≡ Err stop → out ≡ Err stop
    → end_of out ≡ CutOff
asked_end true no_incident stop asked out answered is so = ap end_of (so ∙ sym is ∙ answered)
asked_end false true stop asked out answered is so = ap end_of (so ∙ sym is ∙ answered)
asked_end false false stop asked out answered is so = absurd (clash stop asked answered is)
  where
    clash : {R : Type 0} (stop : VisitRefused R) (asked : Result ⊤ (VisitRefused R)) → asked ≡ Ok tt → asked ≡ Err stop → ⊥
    clash stop asked ok err = cc
