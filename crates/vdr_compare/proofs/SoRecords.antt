-- What is said of a place is so.
use Rattle.std.proofs.Common.{◌≡◌, ◌⊎◌, inl, inr, ⊎_elim, ℕ, Bool, true, false, cond, nat_lt, eqb, List, [], ◌∷◌, Contains, None, Some, refl, sym, ap, subst, arith}
use Rattle.std.proofs.lemmas.Bool.{eqb-true}
use Rattle.std.proofs.lemmas.List.Elements.{Contains-append_cases, Contains-append_left, Contains-append_right, Contains-push, Contains-push_cases}
use Rattle.vdr_terms.specs.Records.{Record}
use Rattle.vdr_terms.specs.Windows.{in_window}
use Rattle.vdr_compare.specs.declared.difference.Difference.TheVariants.{Differs, Lacks}
use Rattle.vdr_compare.specs.declared.standing.Standing.{Standing}
use Rattle.vdr_compare.specs.declared.standing.Standing.TheVariants.{Both, Capsule, LongTerm}
use Rattle.vdr_compare.specs.declared.standing.Windows.{Windows}
use Rattle.vdr_compare.specs.Differences.{difference_at, differences, said}
use Rattle.vdr_compare.specs.Laws.{IsSo, SaysSo}
use Rattle.vdr_compare.specs.Standings.{capsule_alone, is_same, longterm_alone, standings}

none_in : {X P : Type 0} (x : X) → Contains [] x → P
none_in x h = absurd (omega (arith, h.1))

pub one_in : {X : Type 0} (x y : X) → Contains (x ∷ []) y → x ≡ y
one_in x y h = ⊎_elim (λ none. none_in y none) (λ e. e) (Contains-push_cases [] x y h)

in_cons : {X : Type 0} (x : X) (xs : List X) (y : X) → Contains (x ∷ xs) y → (x ≡ y) ⊎ Contains xs y
in_cons x xs y h = ⊎_elim (λ one. inl (one_in x y one)) (λ more. inr more) (Contains-append_cases (x ∷ []) xs y h)

first_in : {X : Type 0} (x : X) (xs : List X) → Contains (x ∷ xs) x
first_in x xs = Contains-append_left (x ∷ []) xs x (Contains-push [] x)

-- Of more records.
more_capsule : (r : Record) (rs ss : List Record) (x : Standing) → IsSo rs ss x → IsSo (r ∷ rs) ss x
more_capsule r rs ss (Both place same) h = (h.0, h.1, Contains-append_right (r ∷ []) rs h.0 h.2, h.3, h.4, h.5, h.6)
more_capsule r rs ss (Capsule place t) h = (h.0, Contains-append_right (r ∷ []) rs h.0 h.1, h.2, h.3)
more_capsule r rs ss (LongTerm place t) h = h

more_longterm : (rs : List Record) (s : Record) (ss : List Record) (x : Standing) → IsSo rs ss x → IsSo rs (s ∷ ss) x
more_longterm rs s ss (Both place same) h = (h.0, h.1, h.2, Contains-append_right (s ∷ []) ss h.1 h.3, h.4, h.5, h.6)
more_longterm rs s ss (Capsule place t) h = h
more_longterm rs s ss (LongTerm place t) h = (h.0, Contains-append_right (s ∷ []) ss h.0 h.1, h.2, h.3)

abbrev Says : List Record → List Record → Type 0
Says rs ss = (x : Standing) → Contains (standings rs ss) x → IsSo rs ss x

both_so : (r s : Record) (rs ss : List Record) → Says rs ss → Says rs (s ∷ ss) → Says (r ∷ rs) ss → (same less : Bool) → eqb r.place s.place ≡ same → (x : Standing)
    → Contains (cond same (Both r.place (is_same r s) ∷ standings rs ss) (cond less (capsule_alone r ∷ standings rs (s ∷ ss)) (longterm_alone s ∷ standings (r ∷ rs) ss))) x → IsSo (r ∷ rs) (s ∷ ss) x
both_so r s rs ss a b c true less e x h = ⊎_elim
    (λ is. subst (IsSo (r ∷ rs) (s ∷ ss)) is (r, s, first_in r rs, first_in s ss, refl, sym (eqb-true r.place s.place e), refl))
    (λ more. more_capsule r rs (s ∷ ss) x (more_longterm rs s ss x (a x more)))
    (in_cons (Both r.place (is_same r s)) (standings rs ss) x h)
both_so r s rs ss a b c false true e x h = ⊎_elim
    (λ is. subst (IsSo (r ∷ rs) (s ∷ ss)) is (r, first_in r rs, refl, refl))
    (λ more. more_capsule r rs (s ∷ ss) x (b x more))
    (in_cons (capsule_alone r) (standings rs (s ∷ ss)) x h)
both_so r s rs ss a b c false false e x h = ⊎_elim
    (λ is. subst (IsSo (r ∷ rs) (s ∷ ss)) is (s, first_in s ss, refl, refl))
    (λ more. more_longterm (r ∷ rs) s ss x (c x more))
    (in_cons (longterm_alone s) (standings (r ∷ rs) ss) x h)

pub places_so : (rs ss : List Record) → Says rs ss
places_so [] [] x h = none_in x h
places_so (r ∷ rs) [] x h = ⊎_elim
    (λ is. subst (IsSo (r ∷ rs) []) is (r, first_in r rs, refl, refl))
    (λ more. more_capsule r rs [] x (places_so rs [] x more))
    (in_cons (capsule_alone r) (standings rs []) x h)
places_so [] (s ∷ ss) x h = ⊎_elim
    (λ is. subst (IsSo [] (s ∷ ss)) is (s, first_in s ss, refl, refl))
    (λ more. more_longterm [] s ss x (places_so [] ss x more))
    (in_cons (longterm_alone s) (standings [] ss) x h)
places_so (r ∷ rs) (s ∷ ss) x h =
    both_so r s rs ss (places_so rs ss) (places_so rs (s ∷ ss)) (places_so (r ∷ rs) ss) (eqb r.place s.place) (nat_lt r.place s.place) refl x h

-- A place that is told to differ is one of both, whose bytes are not the same.
lacks_differs : {P : Type 0} (m a b place : ℕ) → Lacks m a b ≡ Differs place → P
lacks_differs m a b place e = let none : ⊥ = cc in absurd none

same_differs : (p q : ℕ) → Differs p ≡ Differs q → p ≡ q
same_differs p q e = cc

lack_said : {P : Type 0} (within : Bool) (m at place : ℕ) → Contains (said (cond within (Some (Lacks m at at)) None)) (Differs place) → P
lack_said true m at place h = lacks_differs m at at place (one_in (Lacks m at at) (Differs place) h)
lack_said false m at place h = none_in (Differs place) h

said_so : (w : Windows) (s : Standing) (place : ℕ) → Contains (said (difference_at w s)) (Differs place) → s ≡ Both place false
said_so w (Both p true) place h = none_in (Differs place) h
said_so w (Both p false) place h = ap (λ (n : ℕ). Both n false) (same_differs p place (one_in (Differs p) (Differs place) h))
said_so w (Capsule p t) place h = lack_said (in_window t w.last_second w.longterm) 1 p place h
said_so w (LongTerm p t) place h = lack_said (in_window t w.last_second w.capsule) 0 p place h

pub stands_so : (w : Windows) (places : List Standing) (place : ℕ) → Contains (differences w places) (Differs place) → Contains places (Both place false)
stands_so w [] place h = none_in (Differs place) h
stands_so w (s ∷ places) place h = ⊎_elim
    (λ here. subst (Contains (s ∷ places)) (said_so w s place here) (first_in s places))
    (λ more. Contains-append_right (s ∷ []) places (Both place false) (stands_so w places place more))
    (Contains-append_cases (said (difference_at w s)) (differences w places) (Differs place) h)

pub says_so : (w : Windows) (rs ss : List Record) → SaysSo w rs ss
says_so w rs ss = record {
  places = places_so rs ss;
  differs = λ place h.
      let b = places_so rs ss (Both place false) (stands_so w (standings rs ss) place h) in
      (b.0, b.1, b.2, b.3, b.4, b.5, sym b.6);
}
