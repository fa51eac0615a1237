-- How the writing of an image ends.
use Rattle.std.proofs.Common.{◌≡◌, ◌≢◌, ◌++◌, inl, inr, ⊎_elim, ℕ, List, [], ◌∷◌, Option, Some, None, Result, Ok, Err, refl, sym, ap, ◌∙◌, subst}
use Rattle.std.specs.Bool.{⊤}
use Rattle.std.specs.Prelude.{OnOk}
use Rattle.std.specs.List.{flat_map}
use Rattle.std.proofs.KnownBytes.{Appends-nil}
use Rattle.std.specs.Io.KnownBytes.{Appends}
use Rattle.std.proofs.lemmas.List.{map-append}
use Rattle.std.proofs.lemmas.List.Elements.{filter_map-append}
use Rattle.vdr_terms.specs.Records.{Record}
use Rattle.vdr_outside.specs.Writes.{AppendsFront}
use Rattle.vdr_visit.specs.Visits.{AreVisited, HasMade}
use Rattle.vdr_visit.specs.declared.visit_refused.VisitRefused.{VisitRefused}
use Rattle.vdr_visit.specs.declared.visit_refused.VisitRefused.TheVariants as stops
use Rattle.vdr_export.specs.Answers.{FileEnds, IsFailure, IsPictureRefusal, data_of, first_missing, joined, picture_of, unless_missing, unless_mixed, unless_part}
use Rattle.vdr_export.specs.Collected.{IsCollected, StopsAt}
use Rattle.vdr_export.specs.Numbers.{mixed_at}
use Rattle.vdr_export.specs.Pictures.{Shown, bodies, greatest_of, shown, shown_in}
use Rattle.vdr_export.specs.declared.block.Block.{Block}
use Rattle.vdr_export.specs.Refusals.{refusal_by}
use Rattle.vdr_export.specs.declared.refused.ExportRefused.{ExportRefused}
use Rattle.vdr_export.specs.declared.refused.ExportRefused.TheVariants.{Fault, Damaged, Mixed, NoMemory, Output}
use Rattle.vdr_export.proofs.Fronts.{front_whole}
use Rattle.vdr_export.proofs.Refusing.{is_refused, none_from, some_is}
use Rattle.vdr_export.proofs.Sounding.{mixed_stays}

abbrev File : Type 0
File = Result (List ℕ) ExportRefused

pub one_file : (file : File) (x y : List ℕ) → file ≡ Ok x → file ≡ Ok y → x ≡ y
one_file file x y a b = cc

one_reason : (file : File) (x y : ExportRefused) → file ≡ Err x → file ≡ Err y → y ≡ x
one_reason file x y a b = cc

pub never_both : (file : File) (x : List ℕ) (why : ExportRefused) → file ≡ Ok x → file ≡ Err why → ⊥
never_both file x why a b = cc

not_ok : (P : Type 0) (why : ExportRefused) (out : Result ⊤ ExportRefused) → out ≡ Err why → OnOk out P
not_ok P why (Ok x) is = let none : ⊥ = cc in absurd none
not_ok P why (Err e) is = tt

-- Nothing was written, since it failed, or there is no file.
pub failed_ends : (file : File) (a : Option (List ℕ)) (out : Result ⊤ ExportRefused) (why : ExportRefused) → out ≡ Err why → IsFailure out → FileEnds file a a out
failed_ends file a out why is failure = record {
  written = λ bytes f. not_ok (Appends a a bytes) why out is;
  front = λ bytes f. ([], bytes, refl, Appends-nil a);
  done = λ bytes f. inr failure;
  refused = λ e f. inr failure;
}

pub refused_ends : (file : File) (a : Option (List ℕ)) (out : Result ⊤ ExportRefused) (why : ExportRefused) → file ≡ Err why → out ≡ Err why → FileEnds file a a out
refused_ends file a out why none is = record {
  written = λ bytes f. absurd (never_both file bytes why f none);
  front = λ bytes f. absurd (never_both file bytes why f none);
  done = λ bytes f. absurd (never_both file bytes why f none);
  refused = λ e f. inl (is ∙ ap (λ (x : ExportRefused). Err x) (one_reason file e why f none));
}

pub written_ends : (file : File) (a b : Option (List ℕ)) (bytes : List ℕ) → file ≡ Ok bytes → Appends a b bytes → FileEnds file a b (Ok tt)
written_ends file a b bytes is p = record {
  written = λ x f. subst (λ (l : List ℕ). Appends a b l) (one_file file bytes x is f) p;
  front = λ x f. subst (λ (l : List ℕ). AppendsFront a b l) (one_file file bytes x is f) (front_whole a b bytes p);
  done = λ x f. inl refl;
  refused = λ why f. absurd (never_both file bytes why is f);
}

pub front_ends : (file : File) (a b : Option (List ℕ)) (bytes : List ℕ) → file ≡ Ok bytes → AppendsFront a b bytes → FileEnds file a b (Err Output)
front_ends file a b bytes is p = record {
  written = λ x f. tt;
  front = λ x f. subst (λ (l : List ℕ). AppendsFront a b l) (one_file file bytes x is f) p;
  done = λ x f. inr (inr (inl refl));
  refused = λ why f. absurd (never_both file bytes why is f);
}

mixed_picture : (ps : List Shown) (place : ℕ) → mixed_at (greatest_of ps) ≡ Some place → picture_of ps ≡ Err (Mixed place)
mixed_picture [] place is = let no : ⊥ = cc in absurd no
mixed_picture (p ∷ ps) place is = ap (λ (o : Option ℕ). unless_mixed o (joined (bodies p.header.greatest (p ∷ ps)))) is

greatest_of_all : (block : Block) (front rest : List Record) → greatest_of (shown block (front ++ rest)) ≡ greatest_of (shown block front) ++ greatest_of (shown block rest)
greatest_of_all block front rest = ap greatest_of (filter_map-append (shown_in block) front rest)
    ∙ map-append (λ (p : Shown). record { place = p.place; number = p.header.greatest }) (shown block front) (shown block rest)

-- The visit stopped. A visit that writes nothing does not stop for its output.
module _ (block : Block) (records seen : List Record) (Has : Type 0) (line : List Record → Record → List ℕ) (whole : List ℕ) (was now : Option (List ℕ)) (refused : ExportRefused) where
  pub picture_stopped : (stop : VisitRefused ExportRefused) (a : Option (List ℕ)) (out : Result ⊤ ExportRefused) → out ≡ Err refused → Some refused ≡ refusal_by stop → (stop ≡ stops.Output → ⊥)
      → HasMade Has (λ e. StopsAt (shown block seen) e) line whole seen was now (Err stop) → AreVisited seen records (Err stop) → FileEnds (picture_of (shown block records)) a a out
  picture_stopped stops.NoChannel a out is from silent made are = absurd (none_from refused from)
  picture_stopped stops.NoIncident a out is from silent made are = absurd (none_from refused from)
  picture_stopped stops.Fault a out is from silent made are = failed_ends _ a out refused is (inl (is_refused out refused Fault is from))
  picture_stopped (stops.Damaged m offset) a out is from silent made are = absurd are
  picture_stopped stops.Output a out is from silent made are = absurd (silent refl)
  picture_stopped (stops.Own e) a out is from silent made are = ⊎_elim
      (λ mixed. let all : mixed_at (greatest_of (shown block records)) ≡ Some mixed.0 =
      ap (λ (rs : List Record). mixed_at (greatest_of (shown block rs))) are.1 ∙ ap mixed_at (greatest_of_all block seen are.0)
      ∙ mixed_stays (greatest_of (shown block seen)) (greatest_of (shown block are.0)) mixed.0 mixed.2 in
      refused_ends _ a out (Mixed mixed.0) (mixed_picture (shown block records) mixed.0 all) (is_refused out refused e is from ∙ ap (λ (x : ExportRefused). Err x) mixed.1))
      (λ memory. failed_ends _ a out refused is (inr (inr (is_refused out refused e is from ∙ ap (λ (x : ExportRefused). Err x) memory))))
      made.0

  pub picture_own : (stop : VisitRefused ExportRefused) → Some refused ≡ refusal_by stop → (stop ≡ stops.Output → ⊥)
      → HasMade Has (λ e. StopsAt (shown block seen) e) line whole seen was now (Err stop) → IsPictureRefusal refused
  picture_own stops.NoChannel from silent made = absurd (none_from refused from)
  picture_own stops.NoIncident from silent made = absurd (none_from refused from)
  picture_own stops.Fault from silent made = subst IsPictureRefusal (sym (some_is refused Fault from)) tt
  picture_own (stops.Damaged m offset) from silent made = subst IsPictureRefusal (sym (some_is refused (Damaged m offset) from)) tt
  picture_own stops.Output from silent made = absurd (silent refl)
  picture_own (stops.Own e) from silent made = ⊎_elim
      (λ mixed. subst IsPictureRefusal (sym (some_is refused e from ∙ mixed.1)) tt)
      (λ memory. subst IsPictureRefusal (sym (some_is refused e from ∙ memory)) tt)
      made.0

pub never_stops : (ps : List Shown) (e : ExportRefused) → ((place : ℕ) → e ≡ Mixed place → ⊥) → (e ≡ NoMemory → ⊥) → StopsAt ps e → ⊥
never_stops ps e mixed memory stops = ⊎_elim (λ m. mixed m.0 m.1) (λ m. memory m) stops

-- A part that is missing is no fault and no damage.
pub missing_sound : (parts : List (Option (List ℕ))) → unless_missing parts ≡ Err Fault → ⊥
missing_sound [] e = cc
missing_sound (x ∷ xs) e = by (first_missing 1 (x ∷ xs)) e
  where
    by : (o : Option ℕ) → ◌≡◌ {A = Result ⊤ ExportRefused} (unless_part o (Ok tt)) (Err Fault) → ⊥
    by None e = cc
    by (Some number) e = cc

pub missing_undamaged : (parts : List (Option (List ℕ))) (m offset : ℕ) → unless_missing parts ≡ Err (Damaged m offset) → ⊥
missing_undamaged [] m offset e = cc
missing_undamaged (x ∷ xs) m offset e = by (first_missing 1 (x ∷ xs)) e
  where
    by : (o : Option ℕ) → ◌≡◌ {A = Result ⊤ ExportRefused} (unless_part o (Ok tt)) (Err (Damaged m offset)) → ⊥
    by None e = cc
    by (Some number) e = cc

-- All parts of these records were met.
module _ (c : List (Option (List ℕ))) where
  parts_are : (parts : List (Option (List ℕ))) → parts ≢ [] → unless_missing parts ≡ unless_part (first_missing 1 parts) (Ok tt)
  parts_are [] some = absurd (some refl)
  parts_are (x ∷ parts) some = refl

  by_missing : (o : Option ℕ) (all : List ℕ) (why : ExportRefused) → unless_part {T = ⊤} o (Ok tt) ≡ Err why → unless_part {T = List ℕ} o (Ok all) ≡ Err why
  by_missing None all why is = let none : ⊥ = cc in absurd none
  by_missing (Some k) all why is = cc

  by_all : (o : Option ℕ) (all : List ℕ) → unless_part {T = ⊤} o (Ok tt) ≡ Ok tt → unless_part {T = List ℕ} o (Ok all) ≡ Ok all
  by_all None all is = refl
  by_all (Some k) all is = let none : ⊥ = cc in absurd none

  some_parts : (p : Shown) (ps : List Shown) → IsCollected (p ∷ ps) c → c ≢ []
  some_parts p ps h none = let e = h.begun none in let no : ⊥ = cc in no

  picture_is : (p : Shown) (ps : List Shown) → IsCollected (p ∷ ps) c → picture_of (p ∷ ps) ≡ unless_part (first_missing 1 c) (Ok (flat_map data_of c))
  picture_is p ps h = ap (λ (o : Option ℕ). unless_mixed o (joined (bodies p.header.greatest (p ∷ ps)))) h.uniform ∙ ap joined (sym h.are)

  pub incomplete : (ps : List Shown) → IsCollected ps c → (why : ExportRefused) → unless_missing c ≡ Err why → picture_of ps ≡ Err why
  incomplete [] h why is = by_nothing c h.are why is
    where
      by_nothing : (parts : List (Option (List ℕ))) → parts ≡ [] → (why : ExportRefused) → unless_missing parts ≡ Err why → picture_of [] ≡ Err why
      by_nothing [] none why is = cc
      by_nothing (x ∷ parts) none why is = let no : ⊥ = cc in absurd no
  incomplete (p ∷ ps) h why is = picture_is p ps h ∙ by_missing (first_missing 1 c) (flat_map data_of c) why (sym (parts_are c (some_parts p ps h)) ∙ is)

  pub completed : (ps : List Shown) → IsCollected ps c → unless_missing c ≡ Ok tt → picture_of ps ≡ Ok (flat_map data_of c)
  completed [] h is = absurd (by_nothing c h.are is)
    where
      by_nothing : (parts : List (Option (List ℕ))) → parts ≡ [] → unless_missing parts ≡ Ok tt → ⊥
      by_nothing [] none is = cc
      by_nothing (x ∷ parts) none is = cc
  completed (p ∷ ps) h is = picture_is p ps h ∙ by_all (first_missing 1 c) (flat_map data_of c) (sym (parts_are c (some_parts p ps h)) ∙ is)
