-- Between two of the records that are visited.
use Rattle.std.proofs.Common.{◌≡◌, ℕ, List, [], ◌∷◌, ◌++◌, Bool, true, false, Option, Some, Result, Ok, Err, refl, sym, ap, ◌∙◌, subst, append_assoc, append-nil}
use Rattle.std.specs.Bool.{⊤}
use Rattle.std.specs.Io.KnownBytes.{Appends}
use Rattle.std.proofs.lemmas.Option.{same_Some}
use Rattle.vdr_terms.specs.Records.{Record}
use Rattle.vdr_ring.specs.declared.refused.ReadRefused.{ReadRefused}
use Rattle.vdr_ring.specs.declared.refused.ReadRefused.TheVariants as reads
use Rattle.vdr_ring.specs.Walks.{GivesNext}
use Rattle.vdr_visit.specs.Prints.{text_of}
use Rattle.vdr_vault.specs.Refusals.{stop_by}
use Rattle.vdr_visit.specs.Visits.{AreVisited, HasMade}
use Rattle.vdr_visit.specs.declared.visit_refused.VisitRefused.{VisitRefused}

-- The first of the records are visited, and the cursor stands at the next one, if there is one.
pub record IsBetween (records seen : List Record) (found : Bool) (item : Option Record) (ToCome : List Record → Type 0) : Type 0 where
  pub rest : List Record
  pub split : records ≡ seen ++ rest
  pub next : GivesNext rest (Ok found) item ToCome

-- None is visited yet.
pub at_first : (records : List Record) (found : Bool) (item : Option Record) (ToCome : List Record → Type 0) → GivesNext records (Ok found) item ToCome
    → IsBetween records [] found item ToCome
at_first records found item ToCome next = record { rest = records; split = refl; next = next }

-- The first list of a pair of equal ones, taken apart.
cons_is : (r x : Record) (more rest : List Record) → Some x ≡ Some r → rest ≡ x ∷ more → rest ≡ r ∷ more
cons_is r x more rest same is = is ∙ ap (λ (o : Record). o ∷ more) (same_Some x r same)

-- A read failed, behind the records visited so far.
pub read_failed : {R : Type 0} (records seen rest : List Record) (read : ReadRefused) (result : Result Bool ReadRefused) (item : Option Record) (ToCome : List Record → Type 0) (out : Result ⊤ (VisitRefused R))
    → records ≡ seen ++ rest → GivesNext rest result item ToCome → result ≡ Err read → out ≡ Err (stop_by read) → AreVisited seen records out
read_failed {R} records seen rest read result item ToCome out split gives was is =
    subst (λ (o : Result ⊤ (VisitRefused R)). AreVisited seen records o) (sym is) (by read (subst (λ (r : Result Bool ReadRefused). GivesNext rest r item ToCome) was gives))
  where
    by : (e : ReadRefused) → GivesNext rest (Err e) item ToCome → AreVisited {R = R} seen records (Err (stop_by e))
    by reads.Fault g = (rest, split)
    by (reads.Damaged m offset) g = absurd g

-- Then the visitor has what it had.
pub still_has : {R : Type 0} (Has : Type 0) (Stops : R → Type 0) (line : List Record → Record → List ℕ) (whole : List ℕ) (seen : List Record) (was now : Option (List ℕ)) (read : ReadRefused) (out : Result ⊤ (VisitRefused R))
    → Has → Appends was now (text_of line seen) → out ≡ Err (stop_by read) → HasMade Has Stops line whole seen was now out
still_has {R} Has Stops line whole seen was now read out has printed is = subst (λ (o : Result ⊤ (VisitRefused R)). HasMade Has Stops line whole seen was now o) (sym is) (by read)
  where
    by : (e : ReadRefused) → HasMade Has Stops line whole seen was now (Err (stop_by e))
    by reads.Fault = (has, printed)
    by (reads.Damaged m offset) = (has, printed)

module _ {records seen : List Record} {found : Bool} {item : Option Record} {ToCome : List Record → Type 0} (b : IsBetween records seen found item ToCome) where
  -- All of them are visited.
  pub all_visited : found ≡ false → seen ≡ records
  all_visited none =
      let next : GivesNext b.rest (Ok false) item ToCome = subst (λ (f : Bool). GivesNext b.rest (Ok f) item ToCome) none b.next in
      sym (b.split ∙ ap (λ (rs : List Record). seen ++ rs) next.0 ∙ append-nil seen)

  module _ (some : found ≡ true) (r : Record) (is : item ≡ Some r) where
    here : GivesNext b.rest (Ok true) item ToCome
    here = subst (λ (f : Bool). GivesNext b.rest (Ok f) item ToCome) some b.next

    whole : records ≡ seen ++ r ∷ here.1
    whole = b.split ∙ ap (λ (rs : List Record). seen ++ rs) (cons_is r here.0 here.1 b.rest (sym here.3 ∙ is) here.2)

    -- It is visited, and then those to come.
    pub with_next : (rest : List Record) × (records ≡ (seen ++ r ∷ []) ++ rest)
    with_next = (here.1, whole ∙ sym (append_assoc seen (r ∷ []) here.1))

    module _ (result : Result Bool ReadRefused) (later : Option Record) (LaterToCome : List Record → Type 0) (steps : (rs : List Record) → ToCome rs → GivesNext rs result later LaterToCome) where
      -- It is visited, and the step behind it fails.
      pub failed_behind : {R : Type 0} (read : ReadRefused) (out : Result ⊤ (VisitRefused R)) → result ≡ Err read → out ≡ Err (stop_by read) → AreVisited (seen ++ r ∷ []) records out
      failed_behind read out was is = read_failed records (seen ++ r ∷ []) here.1 read result later LaterToCome out (whole ∙ sym (append_assoc seen (r ∷ []) here.1)) (steps here.1 here.4) was is

      -- It is visited, and the cursor steps on.
      pub visited_next : (again : Bool) → result ≡ Ok again → IsBetween records (seen ++ r ∷ []) again later LaterToCome
      visited_next again so = record {
        rest = here.1;
        split = whole ∙ sym (append_assoc seen (r ∷ []) here.1);
        next = subst (λ (o : Result Bool ReadRefused). GivesNext here.1 o later LaterToCome) so (steps here.1 here.4);
      }
