-- Where segments are damaged, one more at a time.
use Rattle.std.proofs.Common.{◌≡◌, ◌<◌, ◌≤◌, ◌+◌, ◌==◌, ℕ, Bool, false, List, [], ◌∷◌, ◌++◌, length, drop, map, get_or, refl, sym, ap, ◌∙◌, subst, arith, append_assoc, append-nil}
use Rattle.std.specs.List.Sorted.{IsNonDecreasing, IsPermutation}
use Rattle.std.proofs.lemmas.List.{drop_all}
use Rattle.vdr_rescue.specs.declared.findings.Finding.{Finding}
use Rattle.vdr_rescue.specs.declared.fronts.Head.{Head}
use Rattle.vdr_rescue.specs.declared.lacking.Places.{Places}
use Rattle.vdr_rescue.specs.declared.told.Told.{Told}
use Rattle.vdr_rescue.specs.Findings.{Account, AreFindings, as_closed, as_damaged, as_missing, closes_when, damages_when, fault_of, faults, is_empty, lacks}
use Rattle.vdr_rescue.proofs.LackLemmas.{drop_here}

no_faults : (segment : ℕ) (hs : List Head) → faults segment hs [] ≡ []
no_faults segment [] = refl
no_faults segment (h ∷ hs) = refl

module _ (segment : ℕ) (heads : List Head) (told : List Told) (whole items : List ℕ) where
  pub faults_more : (i : ℕ) (d : Head) (e : Told) (next : List ℕ) → i < length heads → i < length told → whole ≡ items ++ faults segment (drop i heads) (drop i told)
      → next ≡ items ++ fault_of segment (get_or heads i d) (get_or told i e).fault → whole ≡ next ++ faults segment (drop (i + 1) heads) (drop (i + 1) told)
  faults_more i d e next in_heads in_told so is =
      so ∙ ap (λ (hs : List Head). items ++ faults segment hs (drop i told)) (drop_here heads i d in_heads)
      ∙ ap (λ (ts : List Told). items ++ faults segment (get_or heads i d ∷ drop (i + 1) heads) ts) (drop_here told i e in_told)
      ∙ sym (append_assoc items (fault_of segment (get_or heads i d) (get_or told i e).fault) (faults segment (drop (i + 1) heads) (drop (i + 1) told)))
      ∙ ap (λ (l : List ℕ). l ++ faults segment (drop (i + 1) heads) (drop (i + 1) told)) (sym is)

  pub faults_done : (i : ℕ) → length told ≤ i → whole ≡ items ++ faults segment (drop i heads) (drop i told) → items ≡ whole
  faults_done i past so =
      sym (so ∙ ap (λ (ts : List Told). items ++ faults segment (drop i heads) ts) (drop_all i told past) ∙ ap (λ (l : List ℕ). items ++ l) (no_faults segment (drop i heads)) ∙ append-nil items)

-- All findings

pub empty_by : (xs : List Places) (n : ℕ) → n ≡ length xs → (n == 0) ≡ is_empty xs
empty_by [] n e = ap (λ (k : ℕ). k == 0) e
empty_by (x ∷ xs) n e = let none : (n == 0) ≡ false = search (arith, e) in none

pub found : (x : Account) (whole : Bool) (gaps : List Places) (damaged sorted closed : List ℕ) (f0 f1 f2 f3 : List Finding) (g : List Places) (d e : List ℕ)
    → gaps ≡ lacks x → whole ≡ is_empty gaps → damaged ≡ damages_when whole x → IsPermutation damaged sorted → IsNonDecreasing sorted → closed ≡ closes_when whole x
    → f0 ≡ [] → f1 ≡ f0 ++ map as_missing g → g ≡ gaps → f2 ≡ f1 ++ map as_damaged d → d ≡ sorted → f3 ≡ f2 ++ map as_closed e → e ≡ closed → AreFindings x f3
found x whole gaps damaged sorted closed f0 f1 f2 f3 g d e lack so is_damaged moved rising is_closed none one g_is two d_is three e_is =
    let by : whole ≡ is_empty (lacks x) = so ∙ ap is_empty lack in
    record {
      damaged = sorted;
      moved = subst (λ (l : List ℕ). IsPermutation l sorted) (is_damaged ∙ ap (λ (b : Bool). damages_when b x) by) moved;
      rising = rising;
      are =
          three ∙ ap (λ (l : List Finding). l ++ map as_closed e) (two ∙ ap (λ (l : List Finding). l ++ map as_damaged d) (one ∙ ap (λ (l : List Finding). l ++ map as_missing g) none))
          ∙ ap (λ (l : List Places). map as_missing l ++ map as_damaged d ++ map as_closed e) (g_is ∙ lack)
          ∙ ap (λ (l : List ℕ). map as_missing (lacks x) ++ map as_damaged l ++ map as_closed e) d_is
          ∙ ap (λ (l : List ℕ). map as_missing (lacks x) ++ map as_damaged sorted ++ map as_closed l) (e_is ∙ is_closed ∙ ap (λ (b : Bool). closes_when b x) by);
    }
