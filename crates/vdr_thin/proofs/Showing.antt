-- What is shown of a run.
use Rattle.std.proofs.Common.{◌≡◌, ◌⊎◌, ◌∙◌, ℕ, List, [], ◌∷◌, fold, Option, refl, sym, ap, subst, arith, inl, inr, true, Ordering, Less, Equal, Greater}
use Rattle.std.specs.Prelude.{int_le}
use Rattle.std.specs.List.{AllByRecursion, slice_get}
use Rattle.std.proofs.lemmas.Map.Lookups.{exact_unsigned}
use Rattle.std.proofs.lemmas.Option.{same_Some}
use Rattle.vdr_alerts.specs.Rows.{AreOrdered, put, put_at}
use Rattle.vdr_alerts.proofs.Ordered.{ordered_with}
use Rattle.vdr_thin.specs.declared.reading.Axis.{Axis}
use Rattle.vdr_thin.specs.declared.reading.Axis.TheVariants.{First, Second}
use Rattle.vdr_thin.specs.Laws.{Has, IsFrom, IsPoint, IsRun, IsUpTo}
use Rattle.vdr_thin.specs.Runs.{Point, Reading, Run, along, kept, point_cmp, slots}
use Rattle.vdr_thin.proofs.Keeping.{Keeps}
use Rattle.vdr_thin.proofs.Orders.{point_total}
use Rattle.vdr_thin.proofs.Parts.{all_so}

module _ (part : List Reading) where
  -- Points of one number are of one reading.
  same_point : (p q : Point) → IsPoint part p → IsPoint part q → point_cmp p q ≡ Equal → p.reading ≡ q.reading
  same_point p q h k e =
      let number : p.number ≡ q.number = exact_unsigned p.number q.number e in
      let hn = h.number in let kn = k.number in
      let place : h.place ≡ k.place = omega (arith, number, hn, kn) in
      same_Some p.reading q.reading (sym h.stands ∙ ap (slice_get part) place ∙ k.stands)

  all_put : (ps : List Point) (x : Point) → AllByRecursion (IsPoint part) ps → IsPoint part x → AllByRecursion (IsPoint part) (put point_cmp ps x)
  all_put [] x h i = (i, tt)
  all_put (y ∷ ps) x h i = go (point_cmp y x) (all_put ps x h.1 i)
    where
      go : (o : Ordering) → AllByRecursion (IsPoint part) (put point_cmp ps x) → AllByRecursion (IsPoint part) (put_at o y ps x (put point_cmp ps x))
      go Less later = (h.0, later)
      go Equal later = (i, h.1)
      go Greater later = (i, h)

  all_kept : (xs ps : List Point) → AllByRecursion (IsPoint part) ps → AllByRecursion (IsPoint part) xs → AllByRecursion (IsPoint part) (fold (put point_cmp) ps xs)
  all_kept [] ps h k = h
  all_kept (x ∷ xs) ps h k = all_kept xs (put point_cmp ps x) (all_put ps x h k.0) k.1

  module _ (R : Reading → Type 0) where
    -- What holds of a reading that is there holds with one more.
    still_has : (ps : List Point) (x : Point) → AllByRecursion (IsPoint part) ps → IsPoint part x → Has (λ p. R p.reading) ps → Has (λ p. R p.reading) (put point_cmp ps x)
    still_has [] x a i h = absurd h
    still_has (y ∷ ps) x a i h = go (point_cmp y x) refl h (still_has ps x a.1 i)
      where
        go : (o : Ordering) → point_cmp y x ≡ o → R y.reading ⊎ Has (λ p. R p.reading) ps → (Has (λ p. R p.reading) ps → Has (λ p. R p.reading) (put point_cmp ps x))
            → Has (λ p. R p.reading) (put_at o y ps x (put point_cmp ps x))
        go Less e (inl r) later = inl r
        go Less e (inr k) later = inr (later k)
        go Equal e (inl r) later = inl (subst R (same_point y x a.0 i e) r)
        go Equal e (inr k) later = inr k
        go Greater e k later = inr k

    has_put : (ps : List Point) (x : Point) → R x.reading → Has (λ p. R p.reading) (put point_cmp ps x)
    has_put [] x r = inl r
    has_put (y ∷ ps) x r = go (point_cmp y x) (has_put ps x r)
      where
        go : (o : Ordering) → Has (λ p. R p.reading) (put point_cmp ps x) → Has (λ p. R p.reading) (put_at o y ps x (put point_cmp ps x))
        go Less later = inr later
        go Equal later = inl r
        go Greater later = inl r

    has_still : (xs ps : List Point) → AllByRecursion (IsPoint part) ps → AllByRecursion (IsPoint part) xs → Has (λ p. R p.reading) ps → Has (λ p. R p.reading) (fold (put point_cmp) ps xs)
    has_still [] ps a k h = h
    has_still (x ∷ xs) ps a k h = has_still xs (put point_cmp ps x) (all_put ps x a k.0) k.1 (still_has ps x a k.0 h)

    has_kept : (xs ps : List Point) → AllByRecursion (IsPoint part) ps → AllByRecursion (IsPoint part) xs → Has (λ p. R p.reading) xs → Has (λ p. R p.reading) (fold (put point_cmp) ps xs)
    has_kept [] ps a k h = absurd h
    has_kept (x ∷ xs) ps a k (inl r) = has_still xs (put point_cmp ps x) (all_put ps x a k.0) k.1 (has_put ps x r)
    has_kept (x ∷ xs) ps a k (inr h) = has_kept xs (put point_cmp ps x) (all_put ps x a k.0) k.1 h

ordered_kept : (xs ps : List Point) → AreOrdered point_cmp ps → AreOrdered point_cmp (fold (put point_cmp) ps xs)
ordered_kept [] ps h = h
ordered_kept (x ∷ xs) ps h = ordered_kept xs (put point_cmp ps x) (ordered_with point_cmp point_total ps x h)

module _ (step longest : ℕ) (before : Option Reading) (part : List Reading) (run : Run) (k : Keeps step longest before part run) where
  are_points : AllByRecursion (IsPoint part) (slots run)
  are_points = (k.first_at, (k.extremes.least_at, (k.extremes.greatest_at, (k.second.least_at, (k.second.greatest_at, (k.last_at, tt))))))

  shows : (R : Reading → Type 0) → Has (λ p. R p.reading) (slots run) → Has (λ p. R p.reading) (kept run)
  shows R h = has_kept part R (slots run) [] tt are_points h

  least_shown : (axis : Axis) → AllByRecursion (λ r. Has (IsUpTo axis r) (kept run)) part
  least_shown First =
      all_so (λ r. int_le (along First run.extremes.least.reading) (along First r) ≡ true) (λ r. Has (IsUpTo First r) (kept run))
      (λ r le. shows (λ (q : Reading). int_le (along First q) (along First r) ≡ true) (inr (inl le))) part k.extremes.below
  least_shown Second =
      all_so (λ r. int_le (along Second run.second.least.reading) (along Second r) ≡ true) (λ r. Has (IsUpTo Second r) (kept run))
      (λ r le. shows (λ (q : Reading). int_le (along Second q) (along Second r) ≡ true) (inr (inr (inr (inl le))))) part k.second.below

  greatest_shown : (axis : Axis) → AllByRecursion (λ r. Has (IsFrom axis r) (kept run)) part
  greatest_shown First =
      all_so (λ r. int_le (along First r) (along First run.extremes.greatest.reading) ≡ true) (λ r. Has (IsFrom First r) (kept run))
      (λ r le. shows (λ (q : Reading). int_le (along First r) (along First q) ≡ true) (inr (inr (inl le)))) part k.extremes.above
  greatest_shown Second =
      all_so (λ r. int_le (along Second r) (along Second run.second.greatest.reading) ≡ true) (λ r. Has (IsFrom Second r) (kept run))
      (λ r le. shows (λ (q : Reading). int_le (along Second r) (along Second q) ≡ true) (inr (inr (inr (inr (inl le)))))) part k.second.above

  pub run_is : IsRun step longest before part run
  run_is = record {
    joined = k.joined;
    apart = k.apart;
    behind = k.behind;
    count = k.count;
    valid = k.valid;
    first = k.first;
    last = k.last;
    ordered = ordered_kept (slots run) [] tt;
    shown = all_kept part (slots run) [] tt are_points;
    shows_first = shows (λ (q : Reading). q ≡ run.first.reading) (inl refl);
    shows_last = shows (λ (q : Reading). q ≡ run.last.reading) (inr (inr (inr (inr (inr (inl refl))))));
    least = least_shown;
    greatest = greatest_shown;
  }
