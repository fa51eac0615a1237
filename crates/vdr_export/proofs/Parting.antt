-- The parts that were met, once one more is.
use Rattle.std.proofs.Common.{◌≡◌, ◌≢◌, ◌≤◌, ◌<◌, ◌-◌, ◌==◌, ◌++◌, ℕ, suc, List, [], ◌∷◌, length, get_or, set, replicate, Bool, true, false, Option, Some, None, Result, Ok, Err, refl, sym, ap, ◌∙◌, arith}
use Rattle.std.specs.Prelude.{OnOk, find, is_none, option_map, if◌then◌else◌, cond}
use Rattle.std.specs.Option.{option_or}
use Rattle.std.proofs.lemmas.Bool.{eqb-true, eq-eqb, false_from_ne_true}
use Rattle.std.proofs.lemmas.List.{get_or-replicate, get_or-set_other, get_or-set_same, length-replicate, length-set, map-append}
use Rattle.std.proofs.lemmas.List.Folds.{find-append}
use Rattle.std.proofs.lemmas.List.FromFn.{fill_by_all, get_or-map-range_with_len, length-map-range_with_len}
use Rattle.vdr_export.specs.Collected.{IsCollected, room_for, with_part}
use Rattle.vdr_export.specs.Numbers.{mixed_at}
use Rattle.vdr_export.specs.Pictures.{Shown, bodies, body_at, greatest_of}
use Rattle.vdr_export.proofs.Sounding.{mixed_other, mixed_same}

-- What is kept, or what comes later.
abbrev pub else_some : Option (List ℕ) → Option (List ℕ) → Option (List ℕ)
else_some None later = later
else_some (Some x) later = Some x

pub at_more : (n : ℕ) (ps : List Shown) (p : Shown) → body_at n (ps ++ p ∷ []) ≡ else_some (body_at n ps) (if p.header.sequence == n then Some p.header.body else None)
at_more n ps p = ap (λ (o : Option Shown). option_map (λ p. p.header.body) o) (find-append (λ (p : Shown). p.header.sequence == n) ps (p ∷ [])) ∙ go (find (λ (p : Shown). p.header.sequence == n) ps) (p.header.sequence == n)
  where
    go : (o : Option Shown) (b : Bool) → option_map (λ p. p.header.body) (option_or o (cond b (Some p) None)) ≡ else_some (option_map (λ p. p.header.body) o) (if b then Some p.header.body else None)
    go None true = refl
    go None false = refl
    go (Some x) true = refl
    go (Some x) false = refl

size_of_bodies : (g : ℕ) (ps : List Shown) → length (bodies g ps) ≡ g
size_of_bodies g ps = length-map-range_with_len (λ k. body_at (suc k) ps) 0 g

body_in : (g : ℕ) (ps : List Shown) (k : ℕ) → k < g → get_or (bodies g ps) k None ≡ body_at (suc k) ps
body_in g ps k low = get_or-map-range_with_len (λ k. body_at (suc k) ps) 0 g k k None low (omega arith)

module _ (g : ℕ) (ps : List Shown) (p : Shown) (first : 1 ≤ p.header.sequence) (last : p.header.sequence ≤ g) where
  abbrev slot : ℕ
  slot = p.header.sequence - 1

  abbrev here : Option (List ℕ)
  here = get_or (bodies g ps) slot None

  own : suc slot ≡ p.header.sequence
  own = omega (arith, first)

  here_is : here ≡ body_at p.header.sequence ps
  here_is = body_in g ps slot (omega (arith, first, last)) ∙ ap (λ (n : ℕ). body_at n ps) own

  size : (b : Bool) → length (if b then set (bodies g ps) slot (Some p.header.body) else bodies g ps) ≡ g
  size true = length-set (bodies g ps) slot (Some p.header.body) ∙ size_of_bodies g ps
  size false = size_of_bodies g ps

  -- At its own number, and at any other.
  at_own : (o : Option (List ℕ)) → (if is_none o then Some p.header.body else o) ≡ else_some o (Some p.header.body)
  at_own None = refl
  at_own (Some x) = refl

  put_here : (b : Bool) → get_or (if b then set (bodies g ps) slot (Some p.header.body) else bodies g ps) slot None ≡ (if b then Some p.header.body else here)
  put_here true = let n = size_of_bodies g ps in get_or-set_same (bodies g ps) slot (Some p.header.body) None (omega (arith, first, last, n))
  put_here false = refl

  put_other : (b : Bool) (k : ℕ) → k ≢ slot → get_or (if b then set (bodies g ps) slot (Some p.header.body) else bodies g ps) k None ≡ get_or (bodies g ps) k None
  put_other true k other = get_or-set_other (bodies g ps) slot k (Some p.header.body) None other
  put_other false k other = refl

  none_later : (o : Option (List ℕ)) → else_some o None ≡ o
  none_later None = refl
  none_later (Some x) = refl

  each : (k : ℕ) → k < g → get_or (with_part p.header.sequence p.header.body (bodies g ps)) k None ≡ body_at (suc k) (ps ++ p ∷ [])
  each k low = by (p.header.sequence == suc k) refl
    where
      by : (b : Bool) → (p.header.sequence == suc k) ≡ b → get_or (with_part p.header.sequence p.header.body (bodies g ps)) k None ≡ body_at (suc k) (ps ++ p ∷ [])
      by true is =
          let same : p.header.sequence ≡ suc k = eqb-true p.header.sequence (suc k) is in
          let at : k ≡ slot = omega (arith, same, first) in
          ap (λ (i : ℕ). get_or (with_part p.header.sequence p.header.body (bodies g ps)) i None) at ∙ put_here (is_none here) ∙ at_own here
          ∙ ap (λ (o : Option (List ℕ)). else_some o (Some p.header.body)) (here_is ∙ ap (λ (n : ℕ). body_at n ps) same)
          ∙ sym (at_more (suc k) ps p ∙ ap (λ (b : Bool). else_some (body_at (suc k) ps) (if b then Some p.header.body else None)) is)
      by false is =
          let other : k ≢ slot = λ e. let no : true ≡ false = sym (eq-eqb p.header.sequence (suc k) (omega (arith, e, first))) ∙ is in let none : ⊥ = cc in none in
          put_other (is_none here) k other ∙ body_in g ps k low
          ∙ sym (at_more (suc k) ps p ∙ ap (λ (b : Bool). else_some (body_at (suc k) ps) (if b then Some p.header.body else None)) is ∙ none_later (body_at (suc k) ps))

  pub bodies_more : with_part p.header.sequence p.header.body (bodies g ps) ≡ bodies g (ps ++ p ∷ [])
  bodies_more = fill_by_all (λ k. body_at (suc k) (ps ++ p ∷ [])) (with_part p.header.sequence p.header.body (bodies g ps)) g None (size (is_none here)) each

no_bodies : (g : ℕ) → replicate g None ≡ bodies g []
no_bodies g = fill_by_all (λ k. body_at (suc k) []) (replicate g None) g None (length-replicate g None) (λ k low. get_or-replicate g k None None low)

pub greatest_more : (ps : List Shown) (p : Shown) → greatest_of (ps ++ p ∷ []) ≡ greatest_of ps ++ record { place = p.place; number = p.header.greatest } ∷ []
greatest_more ps p = map-append (λ (p : Shown). record { place = p.place; number = p.header.greatest }) ps (p ∷ [])

module _ (p : Shown) (first : 1 ≤ p.header.sequence) (last : p.header.sequence ≤ p.header.greatest) (mid now : List (Option (List ℕ))) where
  abbrev g : ℕ
  g = p.header.greatest

  pub met : (ps : List Shown) (was : List (Option (List ℕ))) → IsCollected ps was → mid ≡ room_for g was → length mid ≡ g
      → now ≡ with_part p.header.sequence p.header.body mid → IsCollected (ps ++ p ∷ []) now
  met [] was h room size put = record {
    uniform = refl;
    are = put ∙ ap (with_part p.header.sequence p.header.body) (room ∙ ap (room_for g) h.are ∙ no_bodies g) ∙ bodies_more g [] p first last;
    begun = λ none. absurd (some none);
  }
    where
      some : now ≡ [] → ⊥
      some none =
          let is : now ≡ bodies g (p ∷ []) = put ∙ ap (with_part p.header.sequence p.header.body) (room ∙ ap (room_for g) h.are ∙ no_bodies g) ∙ bodies_more g [] p first last in
          let n : length (bodies g (p ∷ [])) ≡ g = size_of_bodies g (p ∷ []) in
          let zero_long : length (bodies g (p ∷ [])) ≡ 0 = ap (λ (l : List (Option (List ℕ))). length l) (sym is ∙ none) in
          omega (arith, n, zero_long, first, last)
  met (q ∷ qs) was h room size put =
      let old : was ≡ bodies q.header.greatest (q ∷ qs) = h.are in
      let kept : mid ≡ was = room ∙ stays g was (λ none. let no = h.begun none in let clash : q ∷ qs ≡ [] = no in let none : ⊥ = cc in none) in
      let one : q.header.greatest ≡ g = sym (size_of_bodies q.header.greatest (q ∷ qs)) ∙ ap (λ (l : List (Option (List ℕ))). length l) (sym (kept ∙ old)) ∙ size in
      let are : now ≡ bodies g ((q ∷ qs) ++ p ∷ []) = put ∙ ap (with_part p.header.sequence p.header.body) (kept ∙ old ∙ ap (λ (n : ℕ). bodies n (q ∷ qs)) one) ∙ bodies_more g (q ∷ qs) p first last in
      record {
        uniform = ap mixed_at (greatest_more (q ∷ qs) p)
            ∙ mixed_same (greatest_of (q ∷ qs)) (record { place = p.place; number = g }) q.header.greatest h.uniform refl (eq-eqb g q.header.greatest (sym one));
        are = are ∙ ap (λ (n : ℕ). bodies n ((q ∷ qs) ++ p ∷ [])) (sym one);
        begun = λ none. absurd (some are none);
      }
    where
      stays : (n : ℕ) (l : List (Option (List ℕ))) → l ≢ [] → room_for n l ≡ l
      stays n [] some = absurd (some refl)
      stays n (x ∷ l) some = refl

      some : now ≡ bodies g ((q ∷ qs) ++ p ∷ []) → now ≡ [] → ⊥
      some is none =
          let n : length (bodies g ((q ∷ qs) ++ p ∷ [])) ≡ g = size_of_bodies g ((q ∷ qs) ++ p ∷ []) in
          let zero_long : length (bodies g ((q ∷ qs) ++ p ∷ [])) ≡ 0 = ap (λ (l : List (Option (List ℕ))). length l) (sym is ∙ none) in
          omega (arith, n, zero_long, first, last)

-- Its number of parts is another.
pub met_other : (p : Shown) (ps : List Shown) (was : List (Option (List ℕ))) → IsCollected ps was → was ≢ [] → length was ≢ p.header.greatest → mixed_at (greatest_of (ps ++ p ∷ [])) ≡ Some p.place
met_other p [] was h some other = absurd (some h.are)
met_other p (q ∷ qs) was h some other =
    let old : length was ≡ q.header.greatest = ap (λ (l : List (Option (List ℕ))). length l) h.are ∙ size_of_bodies q.header.greatest (q ∷ qs) in
    ap mixed_at (greatest_more (q ∷ qs) p)
    ∙ mixed_other (greatest_of (q ∷ qs)) (record { place = p.place; number = p.header.greatest }) q.header.greatest h.uniform refl
    (false_from_ne_true (p.header.greatest == q.header.greatest) (λ same. other (old ∙ sym (eqb-true p.header.greatest q.header.greatest same))))

pub on_ok : {P Q T E : Type 0} (r : Result T E) → (P → Q) → OnOk r P → OnOk r Q
on_ok (Ok x) f p = f p
on_ok (Err e) f p = tt
