-- What the two passes of a page leave of the output.
use Rattle.std.proofs.Common.{◌≡◌, ◌++◌, inl, inr, ℕ, List, [], Option, Result, Ok, Err, refl, sym, ap, ◌∙◌, subst, append_assoc}
use Rattle.std.specs.Bool.{⊤}
use Rattle.std.proofs.KnownBytes.{Appends-kept, Appends-nil, Appends-trans}
use Rattle.std.specs.Io.KnownBytes.{Appends}
use Rattle.std.specs.declared.alloc.AllocError.{AllocError}
use Rattle.vdr_terms.specs.Records.{Record}
use Rattle.vdr_outside.specs.Writes.{AppendsFront}
use Rattle.vdr_page.specs.Fronts.{Saved, Words}
use Rattle.vdr_page.specs.Pages.{front_text, last_lines, line_at, page_text}
use Rattle.vdr_page.specs.Surveys.{survey_of}
use Rattle.vdr_page.specs.declared.survey.Survey.{Survey}
use Rattle.vdr_visit.specs.Prints.{HasPrinted, whole_text}
use Rattle.vdr_visit.specs.Refusals.{stop_of}
use Rattle.vdr_visit.specs.Visits.{AreVisited, HasHanded, HasMade}
use Rattle.vdr_visit.specs.declared.visit_refused.VisitRefused.{VisitRefused}
use Rattle.vdr_visit.specs.declared.visit_refused.VisitRefused.TheVariants as stops
use Rattle.vdr_visit.specs.declared.visit_refused.VisitorRefused.{VisitorRefused}
use Rattle.vdr_visit.specs.declared.visit_refused.VisitorRefused.TheVariants as visitors
use Rattle.vdr_visit.proofs.Printing.{front_of_whole}
use Rattle.vdr_export.specs.Paged.{HasPaged, HasWholeRows, IsShort}
use Rattle.vdr_export.proofs.Fronts.{front_second}

-- Media that tell what they read as are not damaged.
pub never_damaged : {T : Type 0} (seen records : List Record) (stop : VisitRefused AllocError) (m offset : ℕ) → ◌≡◌ {A = Result T (VisitRefused AllocError)} (Err stop) (Err (stops.Damaged m offset))
    → AreVisited seen records (Err stop) → ⊥
never_damaged seen records stop m offset is are =
    let same : stop ≡ stops.Damaged m offset = cc in subst (λ (s : VisitRefused AllocError). AreVisited seen records (Err s)) same are

-- What the visitor is may be left open.
made_any : (Has : Type 0) (Stops : AllocError → Type 0) (line : List Record → Record → List ℕ) (whole : List ℕ) (seen : List Record) (was now : Option (List ℕ)) (r : Result ⊤ (VisitRefused AllocError))
    → HasMade Has Stops line whole seen was now r → HasMade ⊤ (λ _. ⊤) line whole seen was now r
made_any Has Stops line whole seen was now (Ok all) made = (tt, made.1)
made_any Has Stops line whole seen was now (Err stops.NoChannel) made = (tt, made.1)
made_any Has Stops line whole seen was now (Err stops.NoIncident) made = (tt, made.1)
made_any Has Stops line whole seen was now (Err stops.Fault) made = (tt, made.1)
made_any Has Stops line whole seen was now (Err (stops.Damaged m offset)) made = (tt, made.1)
made_any Has Stops line whole seen was now (Err stops.Output) made = tt
made_any Has Stops line whole seen was now (Err (stops.Own none)) made = (tt, made.1, made.2, made.3, made.4)

pub handed_any : {Tells Has : List Record → Type 0} {Stops : List Record → AllocError → Type 0} {line : List Record → Record → List ℕ} {whole : List Record → List ℕ} {was now : Option (List ℕ)}
    (r : Result ⊤ (VisitRefused AllocError)) → HasHanded Tells Has Stops line whole was now r → HasHanded Tells (λ _. ⊤) (λ _ _. ⊤) line whole was now r
handed_any {Has = Has} {Stops = Stops} {line = line} {whole = whole} {was = was} {now = now} r v =
    record { seen = v.seen; made = made_any (Has v.seen) (Stops v.seen) line (whole v.seen) v.seen was now r v.made; are = v.are; front = v.front }

-- What stands before the rows could not be printed.
module _ (words : Words) (saves : List Saved) (survey : Survey) (a b : Option (List ℕ)) (Tells : List Record → Type 0)
    (law : (words : Words) (saves : List Saved) (records : List Record) → page_text words saves records ≡ front_text words (survey_of records) saves ++ whole_text (line_at (survey_of records)) (last_lines (survey_of records)) records)
    (found : (records : List Record) → Tells records → survey ≡ survey_of records) where
  begins : (records : List Record) → Tells records → AppendsFront a b (front_text words survey saves) → AppendsFront a b (page_text words saves records)
  begins records told printed =
      subst (λ (l : List ℕ). AppendsFront a b l)
      (ap (λ (s : Survey). front_text words s saves ++ whole_text (line_at s) (last_lines s) records) (found records told) ∙ sym (law words saves records))
      (front_of_whole a b (front_text words survey saves) (whole_text (line_at survey) (last_lines survey) records) printed)

  pub front_stopped : (own : VisitorRefused AllocError) → HasPrinted {R = AllocError} (front_text words survey saves) a b (Err own) → HasPaged Tells words saves a b (Err (stop_of own))
  front_stopped visitors.Output printed = record {
    all = λ is. let none : ⊥ = cc in absurd none;
    front = λ records told. begins records told printed;
    whole = λ short. absurd short;
    undamaged = λ m offset is. let none : ⊥ = cc in absurd none;
  }
  front_stopped (visitors.Own none) kept = record {
    all = λ is. let no : ⊥ = cc in absurd no;
    front = λ records told. begins records told ([], front_text words survey saves, refl, Appends-kept a a b [] (Appends-nil a) kept);
    whole = λ short. inl (Appends-kept a a b [] (Appends-nil a) kept);
    undamaged = λ m offset is. let no : ⊥ = cc in absurd no;
  }

-- What stands before the rows was printed, of this survey, and then the rows.
module _ (words : Words) (saves : List Saved) (survey : Survey) (a b c : Option (List ℕ)) (Tells : List Record → Type 0)
    (law : (words : Words) (saves : List Saved) (records : List Record) → page_text words saves records ≡ front_text words (survey_of records) saves ++ whole_text (line_at (survey_of records)) (last_lines (survey_of records)) records)
    (found : (records : List Record) → Tells records → survey ≡ survey_of records) (begun : Appends a b (front_text words survey saves)) where
  page_is : (records : List Record) → Tells records → front_text words survey saves ++ whole_text (line_at survey) (last_lines survey) records ≡ page_text words saves records
  page_is records told =
      ap (λ (s : Survey). front_text words s saves ++ whole_text (line_at s) (last_lines s) records) (found records told) ∙ sym (law words saves records)

  whole_rows : (result : Result ⊤ (VisitRefused AllocError)) (seen : List Record) → HasMade ⊤ (λ _. ⊤) (line_at survey) (whole_text (line_at survey) (last_lines survey) seen) seen b c result
      → ((records : List Record) → Tells records → AreVisited seen records result) → IsShort result → HasWholeRows Tells words saves a c
  whole_rows (Ok all) seen made are short = absurd short
  whole_rows (Err stops.NoChannel) seen made are short = absurd short
  whole_rows (Err stops.NoIncident) seen made are short = absurd short
  whole_rows (Err stops.Fault) seen made are short = record {
    survey = survey;
    told = seen;
    printed = Appends-trans a b c _ _ begun made.1;
    surveyed = found;
    first = are;
  }
  whole_rows (Err (stops.Damaged m offset)) seen made are short = record {
    survey = survey;
    told = seen;
    printed = Appends-trans a b c _ _ begun made.1;
    surveyed = found;
    first = λ records told. absurd (are records told);
  }
  whole_rows (Err stops.Output) seen made are short = absurd short
  whole_rows (Err (stops.Own none)) seen made are short = record {
    survey = survey;
    told = made.1;
    printed = Appends-trans a b c _ _ begun made.4;
    surveyed = found;
    first = λ records told. let more = are records told in
        (made.2 ++ more.0, more.1 ∙ ap (λ (l : List Record). l ++ more.0) made.3 ∙ append_assoc made.1 made.2 more.0);
  }

  pub paged : (result : Result ⊤ (VisitRefused AllocError)) → HasHanded Tells (λ _. ⊤) (λ _ _. ⊤) (line_at survey) (whole_text (line_at survey) (last_lines survey)) b c result → HasPaged Tells words saves a c result
  paged result v = record {
    all = λ is records told. subst (λ (l : List ℕ). Appends a c l) (page_is records told) (by_all is records told);
    front = λ records told. subst (λ (l : List ℕ). AppendsFront a c l) (page_is records told) (front_second a b c _ _ begun (v.front records told));
    whole = λ short. inr (whole_rows result v.seen v.made v.are short);
    undamaged = λ m offset is records told. subst (λ (r : Result ⊤ (VisitRefused AllocError)). AreVisited v.seen records r) is (v.are records told);
  }
    where
      by_all : result ≡ Ok tt → (records : List Record) → Tells records → Appends a c (front_text words survey saves ++ whole_text (line_at survey) (last_lines survey) records)
      by_all is records told =
          let made : Appends b c (whole_text (line_at survey) (last_lines survey) v.seen) =
          (subst (λ (r : Result ⊤ (VisitRefused AllocError)). HasMade ⊤ (λ _. ⊤) (line_at survey) (whole_text (line_at survey) (last_lines survey) v.seen) v.seen b c r) is v.made).1 in
          let same : v.seen ≡ records = subst (λ (r : Result ⊤ (VisitRefused AllocError)). AreVisited v.seen records r) is (v.are records told) in
          Appends-trans a b c _ _ begun (subst (λ (rs : List Record). Appends b c (whole_text (line_at survey) (last_lines survey) rs)) same made)
