-- What a segment's summary says of each of its records.
use Rattle.std.proofs.Common.{ℕ, List, [], ◌∷◌, true, Contains, Some, ◌≡◌, ◌∙◌, arith}
use Rattle.std.specs.Prelude.{int_le}
use Rattle.std.proofs.lemmas.List.Elements.{All-contains}
use Rattle.vdr_terms.specs.Records.{Record, second, last_after}
use Rattle.vdr_terms.specs.Order.{RunOn, NeverFalls}
use Rattle.vdr_terms.specs.Queries.{has_channel, Summary, IsSummary}
use Rattle.vdr_terms.proofs.Meeting.{IsOne}
use Rattle.vdr_durability.proofs.Lists.{none_contained}
use Rattle.vdr_durability.proofs.Ordered.{latest, places_run, run_on_in_order}
use Rattle.vdr_durability.proofs.Touched.{any_from}

pub one_of : (summary : Summary) (from : ℕ) (records : List Record) (r : Record) → IsSummary summary records → RunOn summary.first records → NeverFalls from records → Contains records r → IsOne summary r
one_of summary from [] r h run falls m = absurd (none_contained r m)
one_of summary from (x ∷ xs) r h run falls m =
    let place = places_run summary.first (x ∷ xs) r run m in
    let above = place.0 in
    let below = place.1 in
    let count = h.count in
    let late = latest x xs r (run_on_in_order summary.first from (x ∷ xs) run falls) m in
    let same : second (last_after x xs).tick ≡ summary.last_second = is (second (last_after x xs).tick) summary.last_second h.last_second in
    let utc = All-contains (λ r. (int_le summary.least_utc r.utc ≡ true) × (int_le r.utc summary.greatest_utc ≡ true)) (x ∷ xs) r h.utc m in
    record {
      above = above;
      below = omega (arith, below, count);
      by_then = omega (arith, late, same);
      least = utc.0;
      greatest = utc.1;
      bits = λ k e. h.bits k ∙ any_from (λ r. has_channel (Some k) r.bits) (x ∷ xs) r m e;
    }
  where
    is : (a b : ℕ) → Some a ≡ Some b → a ≡ b
    is a b e = cc
