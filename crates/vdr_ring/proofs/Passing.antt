-- From one segment to the next that meets a query, none that meets it is left out.
use Rattle.std.proofs.Common.{◌≡◌, inl, inr, ◌≤◌, ℕ, Bool, true, false, nat_lt, Option, Some, None, IfSome, refl, sym, ◌∙◌, subst, arith}
use Rattle.std.proofs.lemmas.Bool.{ltb-true, ltb-false, true≢false}
use Rattle.vdr_terms.specs.Queries.{Query, Span}
use Rattle.vdr_index.specs.declared.known.Known.{Known}
use Rattle.vdr_index.specs.Indexes.{IsAbove, Keeps, MayAnswer}
use Rattle.vdr_ring.specs.Meets.{AreApart, IsKnownToMeet}
use Rattle.vdr_ring.specs.Rings.{RingState}
use Rattle.vdr_ring.specs.declared.cursor.Standing.{Standing}
use Rattle.vdr_ring.specs.Passing.{IsPassed, IsReached, PassesOver, StandsToMeet}
use Rattle.vdr_ring.specs.Walks.{seq_in}

-- What holds of the slot in which a cursor stands, and of all that it has passed, holds of all that it has reached.
pub holds_reached : (Holds : ℕ → Type 0) (standing : Option Standing) (slot seq : ℕ) → IfSome standing (λ s. Holds s.slot)
    → (IsPassed standing seq → Holds slot) → IsReached standing slot seq → Holds slot
holds_reached Holds None slot seq own passed reached = absurd reached
holds_reached Holds (Some s) slot seq own passed (inl less) = passed less
holds_reached Holds (Some s) slot seq own passed (inr same) = subst Holds (sym same) own

-- what it has passed it has reached
passed_reached : (standing : Option Standing) (slot seq : ℕ) → IsPassed standing seq → IsReached standing slot seq
passed_reached None slot seq passed = passed
passed_reached (Some s) slot seq passed = inl passed

module _ (query : Query) (span : Span) (ring : RingState) (apart : AreApart ring.directory.index) where
  -- a segment that meets the query is one that the cursor has reached, or is above the one in which it stands
  reached_or_above : (from : Option Standing) → StandsToMeet query span ring from → (slot seq : ℕ) → IsKnownToMeet query span ring.directory.index slot seq
      → (IsAbove (seq_in from) seq → IsReached from slot seq) → IsReached from slot seq
  reached_or_above None meets slot seq known above = above tt
  reached_or_above (Some s) meets slot seq known above = go (nat_lt seq s.seq) refl (nat_lt s.seq seq) refl
    where
      go : (less : Bool) → nat_lt seq s.seq ≡ less → (more : Bool) → nat_lt s.seq seq ≡ more → IsReached (Some s) slot seq
      go true less more is = inl (ltb-true seq s.seq less)
      go false less true more = above (ltb-true s.seq seq more)
      go false less false more =
          let a = ltb-false seq s.seq less in
          let b = ltb-false s.seq seq more in
          let same : seq ≡ s.seq = omega (arith, a, b) in
          inr (apart slot s.slot known.known meets.known known.there meets.there (known.number ∙ same ∙ sym meets.number))

  -- what is known of a segment above it
  may_answer : (after : Option ℕ) (slot seq : ℕ) (known : IsKnownToMeet query span ring.directory.index slot seq) → IsAbove after seq
      → MayAnswer query span after known.known
  may_answer after slot seq known above = record { above = subst (IsAbove after) (sym known.number) above; meets_it = known.meets_it }

  -- the next segment is entered, which is the one of least number above the own one
  pub passes_entered : (from : Option Standing) (to : Standing) → StandsToMeet query span ring from
      → ((slot : ℕ) (k : Known) → Keeps ring.directory.index slot k → MayAnswer query span (seq_in from) k → to.seq ≤ k.seq)
      → PassesOver query span ring from (Some to) true
  passes_entered from to meets least = record {
    behind = λ slot seq known passed. reached_or_above from meets slot seq known (λ above.
        let a = least slot known.known known.there (may_answer (seq_in from) slot seq known above) in
        let b = known.number in absurd (omega (arith, a, b, passed)));
    all = λ none. absurd (true≢false none);
  }

  -- none is above the own one
  pub passes_all : (from : Option Standing) → StandsToMeet query span ring from
      → ((slot : ℕ) (k : Known) → Keeps ring.directory.index slot k → MayAnswer query span (seq_in from) k → ⊥)
      → PassesOver query span ring from from false
  passes_all from meets none = record {
    behind = λ slot seq known passed. passed_reached from slot seq passed;
    all = λ is slot seq known.
        reached_or_above from meets slot seq known (λ above. absurd (none slot known.known known.there (may_answer (seq_in from) slot seq known above)));
  }
