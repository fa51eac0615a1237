-- The sequence numbers of segments in order, and of the next.
use Rattle.std.proofs.Common.{◌≡◌, ◌≢◌, ◌<◌, ◌≤◌, ◌^◌, ℕ, suc, List, [], ◌∷◌, length, All, Option, Some, None, refl, arith}
use Rattle.std.proofs.lemmas.List.Elements.{All-nil, All-cons, All-head, All-weaker}
use Rattle.vdr_terms.specs.Records.{Record, last_after, last}
use Rattle.vdr_terms.specs.Order.{RunOn}
use Rattle.vdr_terms.specs.Legality.{IsRecord}
use Rattle.vdr_directory.specs.Sequence.{Placed, seq_of, first_of, records_of}
use Rattle.vdr_directory.specs.Order.{next_place, RunsOn, AreInPlace, AreInOrder}
use Rattle.vdr_directory.specs.Growing.{next_seq, next_of, Continues}
use Rattle.vdr_directory.proofs.Runs.{positive_length}
use Rattle.vdr_directory.proofs.Ordering.{NewestHasRecords, newest_runs_on}

seqs_to_newest : (p : Placed) (ps : List Placed) → AreInPlace (Some p) ps → All (λ q. seq_of q ≤ seq_of (last_after p ps)) (p ∷ ps)
seqs_to_newest p [] h = All-cons (λ q. seq_of q ≤ seq_of p) p [] (omega arith) (All-nil (λ q. seq_of q ≤ seq_of p))
seqs_to_newest p (q ∷ ps) h =
    let k = seqs_to_newest q ps h.1 in
    let a = All-head (λ x. seq_of x ≤ seq_of (last_after q ps)) q ps k in
    let b = h.0.follows.seq in
    All-cons (λ x. seq_of x ≤ seq_of (last_after q ps)) p (q ∷ ps) (omega (arith, a, b)) k

pub seqs_below : (placed : List Placed) → AreInOrder placed → All (λ p. seq_of p < next_seq (last placed)) placed
seqs_below [] h = All-nil (λ p. seq_of p < 0)
seqs_below (p ∷ ps) h = All-weaker (λ q. seq_of q ≤ seq_of (last_after p ps)) (λ q. seq_of q < suc (seq_of (last_after p ps))) (λ q k. omega (arith, k)) (p ∷ ps) (seqs_to_newest p ps h.1)

pub next_seq_bound : (placed : List Placed) → AreInOrder placed → NewestHasRecords placed → next_seq (last placed) ≤ next_of (last placed)
next_seq_bound placed order newest = go (last placed) refl
  where
    go : (o : Option Placed) → last placed ≡ o → next_seq o ≤ next_of o
    go None e = omega arith
    go (Some p) e =
        let r : RunsOn p = newest_runs_on placed p order e in
        let a : seq_of p ≤ first_of p = r.by_place in
        let b : 0 < length (records_of p) = positive_length (records_of p) (newest p e) in
        omega (arith, a, b)

-- Where the records that come next are legal, the next sequence number is in its range.
pub next_seq_low : (placed : List Placed) (first : ℕ) (records : List Record) → AreInOrder placed → NewestHasRecords placed → Continues placed first records → All IsRecord records
    → next_seq (last placed) < 2 ^ 63
next_seq_low placed first records order newest h legal =
    let a : first < 2 ^ 63 = first_low records h.some h.places legal in
    go a (last placed) refl (next_seq_bound placed order newest)
  where
    first_low : (rs : List Record) → rs ≢ [] → RunOn first rs → All IsRecord rs → first < 2 ^ 63
    first_low [] some places legal = absurd (some refl)
    first_low (r ∷ rs) some places legal =
        let k : IsRecord r = All-head IsRecord r rs legal in
        let a : r.place < 2 ^ 63 = k.place in
        let b : r.place ≡ first = places.0 in
        omega (arith, a, b)

    go : first < 2 ^ 63 → (o : Option Placed) → last placed ≡ o → next_seq o ≤ next_of o → next_seq o < 2 ^ 63
    go a None e bound = omega arith
    go a (Some p) e bound = let b : first ≡ next_place p = h.from p e in omega (arith, a, b, bound)
