-- Each hour has its line.
use Rattle.std.proofs.Common.{◌≡◌, ◌≢◌, ◌≤◌, ◌<◌, ◌+◌, ◌*◌, ◌/◌, ◌%◌, ℕ, Bool, true, false, ◌==◌, cond, nat_eq, List, [], ◌∷◌, ◌++◌, filter, refl, ap, ◌∙◌, sym, subst, arith, append_assoc}
use Rattle.std.specs.List.{fold}
use Rattle.std.proofs.lemmas.Grind.{fold-append}
use Rattle.std.proofs.lemmas.Bool.{eq-eqb, eqb-true, eqb-false, ne_eqb}
use Rattle.std.proofs.lemmas.List.{append-nil}
use Rattle.std.proofs.lemmas.List.Elements.{filter-append}
use Rattle.vdr_terms.specs.Order.{NeverFalls}
use Rattle.vdr_terms.specs.Records.{Record}
use Rattle.vdr_visit.specs.Prints.{lines_behind}
use Rattle.vdr_digest.specs.Digests.{held_behind, held_with, hour, hour_line, hour_lines, is_hour_of, last_lines, line_at, lines_before, digest_line}
use Rattle.vdr_digest.specs.Laws.{DigestIsPrinted, HasLine, HoursAgree, HoursHaveLines, of_hour}
use Rattle.vdr_digest.specs.Spans.{span_of}
use Rattle.std.specs.Prelude.{codes}

pub digest_is_printed : DigestIsPrinted
digest_is_printed records = sym (append_assoc (lines_before records) (hour_line (held_behind records)) (digest_line (codes "all") (span_of records) (hour_lines records)))

-- the lines of these records behind those that are held
lines_from : (held : List Record) → List Record → List ℕ
lines_from held [] = hour_line held
lines_from held (r ∷ rs) = cond (is_hour_of held (hour r.tick)) (lines_from (held ++ r ∷ []) rs) (hour_line held ++ lines_from (r ∷ []) rs)

same_lines : (seen rest : List Record) → lines_behind line_at seen rest ++ hour_line (held_behind (seen ++ rest)) ≡ lines_from (held_behind seen) rest
unfolding lines_from
same_lines seen [] = ap (λ (s : List Record). hour_line (held_behind s)) (append-nil seen)
same_lines seen (r ∷ rs) =
    let held : List Record = held_behind seen in
    let next = same_lines (seen ++ r ∷ []) rs in
    append_assoc (line_at seen r) (lines_behind line_at (seen ++ r ∷ []) rs) (hour_line (held_behind (seen ++ r ∷ rs)))
    ∙ ap (λ (t : List ℕ). line_at seen r ++ t)
    (ap (λ (s : List Record). lines_behind line_at (seen ++ r ∷ []) rs ++ hour_line (held_behind s)) (sym (append_assoc seen (r ∷ []) rs))
    ∙ next ∙ ap (λ (h : List Record). lines_from h rs) (fold-append held_with [] seen (r ∷ [])))
    ∙ go (is_hour_of held (hour r.tick)) held r rs
  where
    go : (b : Bool) (held : List Record) (r : Record) (rs : List Record) → cond b [] (hour_line held) ++ lines_from (cond b (held ++ r ∷ []) (r ∷ [])) rs
        ≡ cond b (lines_from (held ++ r ∷ []) rs) (hour_line held ++ lines_from (r ∷ []) rs)
    go true held r rs = refl
    go false held r rs = refl

-- ---- the records of an hour

abbrev AllIn : ℕ → List Record → Type 0
AllIn k [] = Unit {0}
AllIn k (r ∷ rs) = (hour r.tick ≡ k) × AllIn k rs

all_more : (k : ℕ) (xs : List Record) (r : Record) → AllIn k xs → hour r.tick ≡ k → AllIn k (xs ++ r ∷ [])
all_more k [] r all is = (is, tt)
all_more k (x ∷ xs) r all is = (all.0, all_more k xs r all.1 is)

hour_grows : (a b : ℕ) → a ≤ b → hour a ≤ hour b
hour_grows a b h = omega (arith, h)

of_append : (h : ℕ) (xs ys : List Record) → of_hour h (xs ++ ys) ≡ of_hour h xs ++ of_hour h ys
of_append h xs ys = filter-append (λ (r : Record). hour r.tick == h) xs ys

of_same : (k : ℕ) (xs : List Record) → AllIn k xs → of_hour k xs ≡ xs
of_same k [] all = refl
of_same k (x ∷ xs) all =
    ap (λ (b : Bool). cond b (x ∷ of_hour k xs) (of_hour k xs)) (eq-eqb (hour x.tick) k all.0) ∙ ap (λ (t : List Record). x ∷ t) (of_same k xs all.1)

of_other : (h k : ℕ) (xs : List Record) → AllIn k xs → k ≢ h → of_hour h xs ≡ []
of_other h k [] all other = refl
of_other h k (x ∷ xs) all other =
    ap (λ (b : Bool). cond b (x ∷ of_hour h xs) (of_hour h xs)) (ne_eqb (hour x.tick) h (λ e. other (sym all.0 ∙ e))) ∙ of_other h k xs all.1 other

-- no later record is of an hour that is over
of_later : (k t : ℕ) (rs : List Record) → NeverFalls t rs → k < hour t → of_hour k rs ≡ []
of_later k t [] falls over = refl
of_later k t (r ∷ rs) falls over =
    let grows = hour_grows t r.tick falls.0 in
    let other : hour r.tick ≢ k = λ e. let none : ⊥ = omega (arith, e, grows, over) in none in
    ap (λ (b : Bool). cond b (r ∷ of_hour k rs) (of_hour k rs)) (ne_eqb (hour r.tick) k other) ∙ of_later k r.tick rs falls.1 (omega (arith, grows, over))

-- ---- its line

abbrev Stands : (whole line : List ℕ) → Type 0
Stands whole line = (before after : List ℕ) × (whole ≡ before ++ (line ++ after))

at_front : (line after : List ℕ) → Stands (line ++ after) line
at_front line after = ([], after, refl)

behind : (front whole line : List ℕ) → Stands whole line → Stands (front ++ whole) line
behind front whole line s = (front ++ s.0, s.1, ap (λ (t : List ℕ). front ++ t) s.2 ∙ sym (append_assoc front s.0 (line ++ s.1)))

nothing : (whole : List ℕ) → Stands whole []
nothing whole = ([], whole, refl)

-- a record of another hour than those that are held
anew : (h k : ℕ) (x r : Record) (held rs : List Record) → AllIn k (x ∷ held) → NeverFalls r.tick rs → k < hour r.tick → Stands (lines_from (r ∷ []) rs) (hour_line (of_hour h (r ∷ rs)))
    → Stands (hour_line (x ∷ held) ++ lines_from (r ∷ []) rs) (hour_line (of_hour h ((x ∷ held) ++ r ∷ rs)))
anew h k x r held rs all falls over next = at (nat_eq k h) refl
  where
    at : (b : Bool) → nat_eq k h ≡ b → Stands (hour_line (x ∷ held) ++ lines_from (r ∷ []) rs) (hour_line (of_hour h ((x ∷ held) ++ r ∷ rs)))
    at true is =
        let other : hour r.tick ≢ k = λ e. let no : ⊥ = omega (arith, e, over) in no in
        let none : of_hour k (r ∷ rs) ≡ [] =
        ap (λ (b : Bool). cond b (r ∷ of_hour k rs) (of_hour k rs)) (ne_eqb (hour r.tick) k other) ∙ of_later k r.tick rs falls over in
        let same : of_hour h ((x ∷ held) ++ r ∷ rs) ≡ x ∷ held =
        ap (λ (n : ℕ). of_hour n ((x ∷ held) ++ r ∷ rs)) (sym (eqb-true k h is)) ∙ of_append k (x ∷ held) (r ∷ rs) ∙ (λ i. of_same k (x ∷ held) all i ++ none i) ∙ append-nil (x ∷ held) in
        subst (λ (l : List Record). Stands (hour_line (x ∷ held) ++ lines_from (r ∷ []) rs) (hour_line l)) (sym same) (at_front (hour_line (x ∷ held)) (lines_from (r ∷ []) rs))
    at false is =
        let same : of_hour h ((x ∷ held) ++ r ∷ rs) ≡ of_hour h (r ∷ rs) =
        of_append h (x ∷ held) (r ∷ rs) ∙ ap (λ (l : List Record). l ++ of_hour h (r ∷ rs)) (of_other h k (x ∷ held) all (eqb-false k h is)) in
        subst (λ (l : List Record). Stands (hour_line (x ∷ held) ++ lines_from (r ∷ []) rs) (hour_line l)) (sym same)
        (behind (hour_line (x ∷ held)) (lines_from (r ∷ []) rs) (hour_line (of_hour h (r ∷ rs))) next)

-- a record more, of their hour or of another
step : (h k : ℕ) (x r : Record) (held rs : List Record) → AllIn k (x ∷ held) → NeverFalls r.tick rs → k ≤ hour r.tick
    → (hour r.tick ≡ k → Stands (lines_from (x ∷ (held ++ r ∷ [])) rs) (hour_line (of_hour h (x ∷ ((held ++ r ∷ []) ++ rs)))))
    → Stands (lines_from (r ∷ []) rs) (hour_line (of_hour h (r ∷ rs)))
    → Stands (cond (nat_eq (hour x.tick) (hour r.tick)) (lines_from ((x ∷ held) ++ r ∷ []) rs) (hour_line (x ∷ held) ++ lines_from (r ∷ []) rs)) (hour_line (of_hour h ((x ∷ held) ++ r ∷ rs)))
step h k x r held rs all falls later on next = go (nat_eq (hour x.tick) (hour r.tick)) refl
  where
    go : (b : Bool) → nat_eq (hour x.tick) (hour r.tick) ≡ b
        → Stands (cond b (lines_from ((x ∷ held) ++ r ∷ []) rs) (hour_line (x ∷ held) ++ lines_from (r ∷ []) rs)) (hour_line (of_hour h ((x ∷ held) ++ r ∷ rs)))
    go true is =
        subst (λ (l : List Record). Stands (lines_from (x ∷ (held ++ r ∷ [])) rs) (hour_line (of_hour h (x ∷ l)))) (append_assoc held (r ∷ []) rs)
        (on (sym (eqb-true (hour x.tick) (hour r.tick) is) ∙ all.0))
    go false is =
        let first = all.0 in
        let other = eqb-false (hour x.tick) (hour r.tick) is in
        anew h k x r held rs all falls (omega (arith, later, first, other)) next

-- those that are held are the last
ended : (h k : ℕ) (x : Record) (held : List Record) → AllIn k (x ∷ held) → Stands (hour_line (x ∷ held)) (hour_line (of_hour h (x ∷ held)))
ended h k x held all = go (nat_eq k h) refl
  where
    go : (b : Bool) → nat_eq k h ≡ b → Stands (hour_line (x ∷ held)) (hour_line (of_hour h (x ∷ held)))
    go true is =
        let same : of_hour h (x ∷ held) ≡ x ∷ held = ap (λ (n : ℕ). of_hour n (x ∷ held)) (sym (eqb-true k h is)) ∙ of_same k (x ∷ held) all in
        subst (λ (rs : List Record). Stands (hour_line (x ∷ held)) (hour_line rs)) (sym same) ([], [], sym (append-nil (hour_line (x ∷ held))))
    go false is =
        subst (λ (rs : List Record). Stands (hour_line (x ∷ held)) (hour_line rs)) (sym (of_other h k (x ∷ held) all (eqb-false k h is))) (nothing (hour_line (x ∷ held)))

-- the hours of records behind some that are held, all of hour k
stands : (h k t : ℕ) (x : Record) (held rest : List Record) → AllIn k (x ∷ held) → NeverFalls t rest → k ≤ hour t → Stands (lines_from (x ∷ held) rest) (hour_line (of_hour h ((x ∷ held) ++ rest)))
unfolding lines_from
stands h k t x held [] all falls later =
    subst (λ (rs : List Record). Stands (hour_line (x ∷ held)) (hour_line (of_hour h rs))) (sym (append-nil (x ∷ held))) (ended h k x held all)
stands h k t x held (r ∷ rs) all falls later =
    let grows = hour_grows t r.tick falls.0 in
    step h k x r held rs all falls.1 (omega (arith, grows, later))
    (λ is. stands h k r.tick x (held ++ r ∷ []) rs (all.0, all_more k held r all.1 is) falls.1 (omega (arith, grows, later)))
    (stands h (hour r.tick) r.tick r [] rs (refl, tt) falls.1 (omega arith))

pub hours_have_lines : HoursHaveLines
unfolding lines_from
hours_have_lines [] h falls = ([], [], refl)
hours_have_lines (r ∷ rs) h falls =
    subst (λ (t : List ℕ). Stands t (hour_line (of_hour h (r ∷ rs)))) (sym (same_lines [] (r ∷ rs))) (stands h (hour r.tick) r.tick r [] rs (refl, tt) falls.1 (omega arith))

pub hours_agree : HoursAgree
hours_agree history ones others h first second one other = (
  subst (λ (l : List Record). HasLine ones (hour_line l)) one (hours_have_lines ones h first),
  subst (λ (l : List Record). HasLine others (hour_line l)) other (hours_have_lines others h second),
)
