-- What is kept of a run, and what one more reading makes of it.
use Rattle.std.proofs.Common.{◌≡◌, ◌∙◌, ◌+◌, ◌++◌, ℕ, Bool, true, false, cond, List, [], ◌∷◌, length, Option, Some, refl, sym, ap}
use Rattle.std.specs.Prelude.{int_le, int_lt}
use Rattle.std.specs.List.{AllByRecursion, slice_get}
use Rattle.std.proofs.lemmas.List.{length-append}
use Rattle.vdr_terms.proofs.Meeting.{int_le_trans}
use Rattle.vdr_thin.specs.declared.reading.Axis.{Axis}
use Rattle.vdr_thin.specs.declared.reading.Axis.TheVariants.{First, Second}
use Rattle.vdr_thin.specs.Laws.{AreJoined, IsApart, IsPoint, is_behind, last_of}
use Rattle.vdr_thin.specs.Runs.{Extremes, Point, Reading, Run, along, begun, count_of, ends, extremes_of, grown, widened}
use Rattle.vdr_thin.proofs.Following.{follows}
use Rattle.vdr_thin.proofs.Measures.{le_of_lt, le_of_not, le_self}
use Rattle.vdr_thin.proofs.Parts.{all_more, all_so, get_more, joined_more, last_more, point_last, point_more}

pick : (P : Point → Type 0) (b : Bool) (p q : Point) → P p → P q → P (cond b p q)
pick P true p q h k = h
pick P false p q h k = k

-- The least and the greatest of these readings along an axis.
pub record Bounds (axis : Axis) (part : List Reading) (e : Extremes) : Type 0 where
  pub least_at : IsPoint part e.least
  pub greatest_at : IsPoint part e.greatest
  pub below : AllByRecursion (λ r. int_le (along axis e.least.reading) (along axis r) ≡ true) part
  pub above : AllByRecursion (λ r. int_le (along axis r) (along axis e.greatest.reading) ≡ true) part

lower : (axis : Axis) (part : List Reading) (x p : Point) (b : Bool) → int_lt (along axis p.reading) (along axis x.reading) ≡ b
    → AllByRecursion (λ r. int_le (along axis x.reading) (along axis r) ≡ true) part
    → AllByRecursion (λ r. int_le (along axis (cond b p x).reading) (along axis r) ≡ true) (part ++ p.reading ∷ [])
lower axis part x p true e h =
    all_more (λ r. int_le (along axis p.reading) (along axis r) ≡ true) part p.reading
    (all_so (λ r. int_le (along axis x.reading) (along axis r) ≡ true) (λ r. int_le (along axis p.reading) (along axis r) ≡ true)
    (λ r le. int_le_trans (along axis p.reading) (along axis x.reading) (along axis r) (le_of_lt (along axis p.reading) (along axis x.reading) e) le) part h)
    (le_self (along axis p.reading))
lower axis part x p false e h = all_more (λ r. int_le (along axis x.reading) (along axis r) ≡ true) part p.reading h (le_of_not (along axis p.reading) (along axis x.reading) e)

higher : (axis : Axis) (part : List Reading) (x p : Point) (b : Bool) → int_lt (along axis x.reading) (along axis p.reading) ≡ b
    → AllByRecursion (λ r. int_le (along axis r) (along axis x.reading) ≡ true) part
    → AllByRecursion (λ r. int_le (along axis r) (along axis (cond b p x).reading) ≡ true) (part ++ p.reading ∷ [])
higher axis part x p true e h =
    all_more (λ r. int_le (along axis r) (along axis p.reading) ≡ true) part p.reading
    (all_so (λ r. int_le (along axis r) (along axis x.reading) ≡ true) (λ r. int_le (along axis r) (along axis p.reading) ≡ true)
    (λ r le. int_le_trans (along axis r) (along axis x.reading) (along axis p.reading) le (le_of_lt (along axis x.reading) (along axis p.reading) e)) part h)
    (le_self (along axis p.reading))
higher axis part x p false e h = all_more (λ r. int_le (along axis r) (along axis x.reading) ≡ true) part p.reading h (le_of_not (along axis x.reading) (along axis p.reading) e)

bounds_more : (axis : Axis) (part : List Reading) (e : Extremes) (r : Reading) (n : ℕ) → n ≡ length part → Bounds axis part e
    → Bounds axis (part ++ r ∷ []) (widened axis e (record { number = n + 1; reading = r }))
bounds_more axis part e r n size b =
    let p : Point = record { number = n + 1; reading = r } in
    let at = point_last part r n size in
    record {
      least_at = pick (IsPoint (part ++ r ∷ [])) (int_lt (along axis r) (along axis e.least.reading)) p e.least at (point_more part r e.least b.least_at);
      greatest_at = pick (IsPoint (part ++ r ∷ [])) (int_lt (along axis e.greatest.reading) (along axis r)) p e.greatest at (point_more part r e.greatest b.greatest_at);
      below = lower axis part e.least p (int_lt (along axis r) (along axis e.least.reading)) refl b.below;
      above = higher axis part e.greatest p (int_lt (along axis e.greatest.reading) (along axis r)) refl b.above;
    }

-- What is kept of a run of these readings.
pub record Keeps (step longest : ℕ) (before : Option Reading) (part : List Reading) (run : Run) : Type 0 where
  pub joined : AreJoined step longest part
  pub apart : IsApart step longest before run.first.reading
  pub behind : run.behind ≡ is_behind before run.first.reading
  pub count : count_of run ≡ length part
  pub valid : AllByRecursion (λ r. run.first.reading.valid ≡ r.valid) part
  pub last_valid : run.first.reading.valid ≡ run.last.reading.valid
  pub first : slice_get part 0 ≡ Some run.first.reading
  pub last : last_of part ≡ Some run.last.reading
  pub first_at : IsPoint part run.first
  pub last_at : IsPoint part run.last
  pub extremes : Bounds First part run.extremes
  pub second : Bounds Second part run.second

one_point : (r : Reading) → IsPoint (r ∷ []) (record { number = 1; reading = r })
one_point r = record { place = 0; number = refl; stands = refl }

one_bound : (axis : Axis) (r : Reading) → Bounds axis (r ∷ []) (extremes_of (record { number = 1; reading = r }))
one_bound axis r = record { least_at = one_point r; greatest_at = one_point r; below = (le_self (along axis r), tt); above = (le_self (along axis r), tt) }

pub keeps_begun : (step longest : ℕ) (before : Option Reading) (r : Reading) → IsApart step longest before r → Keeps step longest before (r ∷ []) (begun (is_behind before r) r)
keeps_begun step longest before r apart = record {
  joined = tt;
  apart = apart;
  behind = refl;
  count = refl;
  valid = (refl, tt);
  last_valid = refl;
  first = refl;
  last = refl;
  first_at = one_point r;
  last_at = one_point r;
  extremes = one_bound First r;
  second = one_bound Second r;
}

pub keeps_grown : (step longest : ℕ) (before : Option Reading) (part : List Reading) (run : Run) (r : Reading) → ends step longest run.last.reading r ≡ false
    → Keeps step longest before part run → Keeps step longest before (part ++ r ∷ []) (grown run r)
keeps_grown step longest before part run r e k =
    let f = follows step longest run.last.reading r e in
    let valid : run.first.reading.valid ≡ r.valid = k.last_valid ∙ f.valid in
    record {
      joined = joined_more step longest part run.last.reading r k.last k.joined f;
      apart = k.apart;
      behind = k.behind;
      count = ap (λ (n : ℕ). n + 1) k.count ∙ sym (length-append part (r ∷ []));
      valid = all_more (λ r. run.first.reading.valid ≡ r.valid) part r k.valid valid;
      last_valid = valid;
      first = get_more part (r ∷ []) 0 run.first.reading k.first;
      last = last_more part r;
      first_at = point_more part r run.first k.first_at;
      last_at = point_last part r run.last.number k.count;
      extremes = bounds_more First part run.extremes r run.last.number k.count k.extremes;
      second = bounds_more Second part run.second r run.last.number k.count k.second;
    }
