-- What a ring that tells of segments, as opening knows them, knows of those that meet a query.
use Rattle.std.proofs.Common.{◌≡◌, ◌≢◌, ℕ, List, [], ◌∷◌, get_or, Option, Some, None, ⊎_elim, sym, ap, ◌∙◌, subst, arith}
use Rattle.std.specs.Prelude.{All, Any, Contains}
use Rattle.std.proofs.lemmas.List.Elements.{All-contains}
use Rattle.std.proofs.lemmas.Option.{none-some, get_or_from_slice_get}
use Rattle.vdr_terms.specs.Queries.{Query, Span}
use Rattle.vdr_durability.specs.Playback.{medium_of}
use Rattle.vdr_durability.proofs.Lists.{contains_cases, none_contained}
use Rattle.vdr_index.specs.declared.known.Known.{Known}
use Rattle.vdr_index.specs.Indexes.{Keeps}
use Rattle.vdr_index.proofs.Ranks.{keeps_at}
use Rattle.vdr_directory.specs.Sequence.{Placed, seq_of}
use Rattle.vdr_directory.specs.Knowns.{AreInOrderBy}
use Rattle.vdr_directory.specs.Telling.{IsEarlierBy, IsIndexedBy, IsKnownAsBy, IsKnownBy, RiseBy, TellsBy}
use Rattle.vdr_directory.proofs.Known.{any_or_none, one_stands}
use Rattle.vdr_directory.proofs.TellingBy.{rise_by}
use Rattle.vdr_ring.specs.Meets.{AreApart}
use Rattle.vdr_ring.specs.Rings.{RingState}
use Rattle.vdr_vault.specs.Plays.{IsKnownToMeetIn, KnowsToMeet, MeetsWithin, ring_for, span_by, span_in}
use Rattle.vdr_vault.specs.Vaults.{VaultState}
use Rattle.vdr_vault.proofs.Budgeting.{span_same}

-- What is known of a segment is one.
one_known : (p : Placed) (k l : Known) → IsKnownBy p k → IsKnownBy p l → k ≡ l
one_known p k l a b = by_fields k l (a.seq ∙ sym b.seq) (a.first ∙ sym b.first) (one_stands p.segment.header.summary p k.summary l.summary a.summary b.summary)
  where
    by_fields : (k l : Known) → k.seq ≡ l.seq → k.first ≡ l.first → k.summary ≡ l.summary → k ≡ l
    by_fields k l e f g = λ i. record { seq = e i; first = f i; summary = g i }

-- Segments that rise have each a number of its own.
one_of_number : (ps : List Placed) → RiseBy ps → (p q : Placed) → Contains ps p → Contains ps q → seq_of p ≡ seq_of q → p ≡ q
one_of_number [] rise p q m n same = absurd (none_contained p m)
one_of_number (x ∷ xs) rise p q m n same = ⊎_elim
    (λ (e : x ≡ p). ⊎_elim
    (λ (f : x ≡ q). sym e ∙ f)
    (λ (k : Contains xs q). absurd (behind q k (ap seq_of e ∙ same)))
    (contains_cases x xs q n))
    (λ (k : Contains xs p). ⊎_elim
    (λ (f : x ≡ q). absurd (behind p k (ap seq_of f ∙ sym same)))
    (λ (l : Contains xs q). one_of_number xs rise.1 p q k l same)
    (contains_cases x xs q n))
    (contains_cases x xs p m)
  where
    behind : (r : Placed) → Contains xs r → seq_of x ≡ seq_of r → ⊥
    behind r k is = let lt = (All-contains (IsEarlierBy x) xs r rise.0 k).0 in omega (arith, lt, is)

module _ (count : ℕ) (known : List Placed) (index : List (Option Known)) (x : IsIndexedBy count known index) where
  -- a segment of which this is known is in this slot
  abbrev HasPart : (slot : ℕ) → Known → Type 0
  HasPart slot k = (p : Placed) × Contains known p × (p.slot ≡ slot) × IsKnownBy p k

  -- the segment in a slot of which something is known
  part_at : (slot : ℕ) (k : Known) → Keeps index slot k → HasPart slot k
  part_at slot k at =
      let is : get_or index slot None ≡ Some k = get_or_from_slice_get index slot (Some k) None at in
      ⊎_elim
      (λ (h : Any (λ p. p.slot ≡ slot) known).
      let p : Placed = h.1 in
      let m : Contains known p = (h.0, h.2, h.3) in
      let told = All-contains (λ p. IsKnownAsBy p (get_or index p.slot None)) known p x.kept m in
      let part : HasPart slot k = (p, m, h.4, subst (IsKnownAsBy p) (ap (λ (j : ℕ). get_or index j None) h.4 ∙ is) told) in part)
      (λ (h : All (λ p. p.slot ≢ slot) known). absurd (none-some k (sym (x.clear slot h) ∙ is)))
      (any_or_none known slot)

  -- what is known of a segment is kept in its slot
  kept_of : (p : Placed) (k : Known) → Contains known p → IsKnownBy p k → Keeps index p.slot k
  kept_of p k m is = keeps_at index p.slot k (go (get_or index p.slot None) (All-contains (λ p. IsKnownAsBy p (get_or index p.slot None)) known p x.kept m))
    where
      go : (o : Option Known) → IsKnownAsBy p o → o ≡ Some k
      go None none = absurd (is.some none)
      go (Some l) there = ap (λ (y : Known). Some y) (one_known p l k there is)

  -- no two slots have segments of one number
  kept_apart : RiseBy known → AreApart index
  kept_apart rise i j a b at other same =
      let p = part_at i a at in
      let q = part_at j b other in
      sym p.2 ∙ ap (λ (r : Placed). r.slot) (one_of_number known rise p.0 q.0 p.1 q.1 (sym p.3.seq ∙ same ∙ q.3.seq)) ∙ q.2

-- Of any span, if there is one, the index knows just those segments to meet the query that do.
module _ (query : Query) (ring : RingState) (known : List Placed) (tells : TellsBy ring.slots known ring.directory) where
  is_met : (o : Option Span) (p : Placed) → Contains known p → MeetsWithin query o p → IsKnownToMeetIn query o ring p.slot (seq_of p)
  is_met None p there meets = meets
  is_met (Some span) p there meets = record {
    known = meets.known;
    there = kept_of ring.slots known ring.directory.index tells.index p meets.known there meets.is;
    number = meets.is.seq;
    meets_it = meets.meets_it;
  }

  met_is : (o : Option Span) (slot seq : ℕ) → IsKnownToMeetIn query o ring slot seq → (p : Placed) × Contains known p × (p.slot ≡ slot) × MeetsWithin query o p
  met_is None slot seq meets = absurd meets
  met_is (Some span) slot seq meets =
      let p = part_at ring.slots known ring.directory.index tells.index slot meets.known meets.there in
      (p.0, p.1, p.2, record { known = meets.known; is = p.3; meets_it = meets.meets_it })

-- And so of what the query's medium comes to.
pub knows_to_meet : (query : Query) (vault : VaultState) (known : ℕ → List Placed)
    → TellsBy (ring_for vault query).slots (known (medium_of query.medium)) (ring_for vault query).directory → AreInOrderBy (known (medium_of query.medium))
    → KnowsToMeet query vault known
knows_to_meet query vault known tells order =
    let here = known (medium_of query.medium) in
    let span : span_by vault query.medium ≡ span_in vault known query.medium = span_same vault known query.medium tells.ending in
    record {
      apart = kept_apart (ring_for vault query).slots here (ring_for vault query).directory.index tells.index (rise_by None here order);
      span = span;
      of_part = λ p there meets. subst (λ (o : Option Span). IsKnownToMeetIn query o (ring_for vault query) p.slot (seq_of p)) (sym span)
          (is_met query (ring_for vault query) here tells (span_in vault known query.medium) p there meets);
      is_part = λ slot seq meets. met_is query (ring_for vault query) here tells (span_in vault known query.medium) slot seq
          (subst (λ (o : Option Span). IsKnownToMeetIn query o (ring_for vault query) slot seq) span meets);
    }
