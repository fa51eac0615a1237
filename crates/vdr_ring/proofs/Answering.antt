-- Which segment a query is asked of next, by what the index keeps.
use Rattle.std.proofs.Common.{◌≡◌, ◌<◌, ℕ, Bool, true, false, List, get_or, All, Contains, Option, Some, None, refl, sym, ap, ◌∙◌, subst, arith}
use Rattle.std.specs.Prelude.{option_map, IfSome}
use Rattle.std.proofs.lemmas.Option.{none-some, same_Some, get_or_from_slice_get}
use Rattle.std.proofs.lemmas.List.Elements.{All-nil, All-contains}
use Rattle.vdr_terms.specs.Records.{Record}
use Rattle.vdr_terms.specs.Queries.{Query, Span, meets}
use Rattle.vdr_entry.specs.declared.summary.Summary.{Summary}
use Rattle.vdr_durability.proofs.Lists.{all_from}
use Rattle.vdr_durability.proofs.Ordered.{places_run}
use Rattle.vdr_index.specs.declared.known.Known.{Known}
use Rattle.vdr_index.specs.Indexes.{IsCandidate, IsWithin, Keeps, MayAnswer, summary_of}
use Rattle.vdr_index.specs.Indexes as indexes
use Rattle.vdr_directory.specs.Sequence.{Placed, first_of, records_of, seq_of}
use Rattle.vdr_index.specs.Audits.{IsCovered}
use Rattle.vdr_directory.specs.Order.{Agrees, RunsOn, AreInOrder}
use Rattle.vdr_index.specs.Indexes.{IsAbove}
use Rattle.vdr_directory.specs.Indexed.{IsKnown, IsKnownAs, IsIndexed, Meets, IsNextToMeet, HasNoneSelected, is_selected}
use Rattle.vdr_directory.proofs.Known.{agrees, known_count, known_covers, placed_at, kept_of, runs_on}

-- above, in the words of the index

pub above_index : (o : Option ℕ) (n : ℕ) → IsAbove o n → indexes.IsAbove o n
above_index None n h = tt
above_index (Some m) n h = h

pub above_ring : (o : Option ℕ) (n : ℕ) → indexes.IsAbove o n → IsAbove o n
above_ring None n h = tt
above_ring (Some m) n h = h

-- A record of a segment is within what is known of it

all_within : (p : Placed) (k : Known) → IsKnown p k → RunsOn p → IfSome p.segment.header.summary (Agrees p) → All (IsWithin k) (records_of p)
all_within p k is runs agree = all_from (IsWithin k) (records_of p) (λ r m.
    let place = places_run (first_of p) (records_of p) r runs.places m in
    let from = place.0 in
    let below = place.1 in
    let first = is.first in
    let count = known_count p k is agree in
    let one : IsCovered k.summary r = All-contains (IsCovered k.summary) (records_of p) r (known_covers p k is agree runs) m in
    record { above = omega (arith, from, first); below = omega (arith, below, first, count); by_then = one.no_later; least = one.least; greatest = one.greatest; bits = one.bits })

-- what the law of candidates says
abbrev pub LeavesOut : Type 0
LeavesOut = (query : Query) (span : Span) (k : Known) (records : List Record) → All (IsWithin k) records → meets query span (summary_of k) ≡ false → All (λ r. is_selected query span r ≡ false) records

module _ (query : Query) (span : Span) (after : Option ℕ) (count : ℕ) (placed : List Placed) (index : List (Option Known)) (x : IsIndexed count placed index) where
  may_answer : (p : Placed) (k : Known) → IsKnown p k → IsAbove after (seq_of p) → meets query span (summary_of k) ≡ true → MayAnswer query span after k
  may_answer p k is up meets_it = record { above = subst (indexes.IsAbove after) (sym is.seq) (above_index after (seq_of p) up); meets_it = meets_it }

  pub found_next : (slot seq : ℕ) → (c : IsCandidate index query span after slot) → seq ≡ c.known.seq → (p : Placed) × IsNextToMeet query span after placed p × (slot ≡ p.slot) × (seq ≡ seq_of p)
  found_next slot seq c is =
      let p = placed_at count placed index x slot c.known c.there in (
        p.0,
        record {
          there = p.1;
          above = above_ring after (seq_of p.0) (subst (indexes.IsAbove after) p.3.seq c.may.above);
          meets_it = record { known = c.known; is = p.3; meets_it = c.may.meets_it };
          least = λ q m up meet.
              let le = c.least q.slot meet.known (kept_of count placed index x q meet.known m meet.is) (may_answer q meet.known meet.is up meet.meets_it) in
              let a = p.3.seq in let b = meet.is.seq in omega (arith, le, a, b);
        },
        sym p.2,
        is ∙ p.3.seq,
      )

  pub none_meets : ((slot : ℕ) (k : Known) → Keeps index slot k → MayAnswer query span after k → ⊥) → (p : Placed) → Contains placed p → IsAbove after (seq_of p) → Meets query span p → ⊥
  none_meets none p m up meet = none p.slot meet.known (kept_of count placed index x p meet.known m meet.is) (may_answer p meet.known meet.is up meet.meets_it)

  -- a segment that doesn't meet has no record that is selected
  left_out : LeavesOut → (order : AreInOrder placed) (q : Placed) → Contains placed q → (Meets query span q → ⊥) → HasNoneSelected query span q
  left_out law order q m fails = go (get_or index q.slot None) (All-contains (λ p. IsKnownAs p (get_or index p.slot None)) placed q x.kept m)
    where
      by_test : (k : Known) → IsKnown q k → (b : Bool) → meets query span (summary_of k) ≡ b → HasNoneSelected query span q
      by_test k is true e = absurd (fails (record { known = k; is = is; meets_it = e }))
      by_test k is false e = law query span k (records_of q) (all_within q k is (runs_on None placed order q m) (agrees None placed order q m)) e

      go : (o : Option Known) → IsKnownAs q o → HasNoneSelected query span q
      go None none = subst (λ (rs : List Record). All (λ r. is_selected query span r ≡ false) rs) (sym none) (All-nil (λ (r : Record). is_selected query span r ≡ false))
      go (Some k) is = by_test k is (meets query span (summary_of k)) refl

  pub passed_none : LeavesOut → ((slot : ℕ) (k : Known) → Keeps index slot k → MayAnswer query span after k → ⊥) → AreInOrder placed → (q : Placed) → Contains placed q → IsAbove after (seq_of q) → HasNoneSelected query span q
  passed_none law none order q m up = left_out law order q m (λ meet. none_meets none q m up meet)

  pub passed_some : LeavesOut → (slot seq : ℕ) (c : IsCandidate index query span after slot) → seq ≡ c.known.seq → AreInOrder placed → (q : Placed) → Contains placed q → IsAbove after (seq_of q) → seq_of q < seq
      → HasNoneSelected query span q
  passed_some law slot seq c is order q m up lt = left_out law order q m (λ meet.
      let le = c.least q.slot meet.known (kept_of count placed index x q meet.known m meet.is) (may_answer q meet.known meet.is up meet.meets_it) in
      let b = meet.is.seq in omega (arith, le, is, b, lt))

-- what the index answers of a candidate's slot
pub seq_kept : (index : List (Option Known)) (query : Query) (span : Span) (after : Option ℕ) (slot : ℕ) (c : IsCandidate index query span after slot) → get_or index slot None ≡ Some c.known
seq_kept index query span after slot c = get_or_from_slice_get index slot (Some c.known) None c.there

pub seq_read : (o : Option Known) (k : Known) (x : ℕ × ℕ × Summary) → o ≡ Some k → option_map {U = ℕ × ℕ × Summary} (λ k. (k.seq, k.first, k.summary)) o ≡ Some x → x.0 ≡ k.seq
seq_read None k x at is = absurd (none-some k at)
seq_read (Some l) k x at is =
    ap (λ (y : ℕ × ℕ × Summary). y.0) (sym (same_Some (l.seq, l.first, l.summary) x is)) ∙ ap (λ (y : Known). y.seq) (same_Some l k at)

pub never_none : (o : Option Known) (k : Known) → o ≡ Some k → option_map {U = ℕ × ℕ × Summary} (λ k. (k.seq, k.first, k.summary)) o ≡ None → ⊥
never_none None k at is = none-some k at
never_none (Some l) k at is = none-some (l.seq, l.first, l.summary) (sym is)
