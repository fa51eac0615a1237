-- What a directory tells of segments in a legal order it tells of what opening knows of them.
use Rattle.std.proofs.Common.{◌≡◌, ◌≢◌, ℕ, List, [], ◌∷◌, length, map, get_or, All, Any, Option, Some, None, ⊎_elim, refl, sym, ap, ◌∙◌, subst, arith}
use Rattle.std.specs.Prelude.{option_map}
use Rattle.std.proofs.lemmas.List.{nil_from_length}
use Rattle.std.proofs.lemmas.List.Elements.{All-nil, All-cons, All-head, All-tail, All-map, All-weaker}
use Rattle.vdr_terms.specs.Records.{Record, last}
use Rattle.vdr_terms.proofs.Somewhere.{any_cases, any_here, any_none, any_there}
use Rattle.vdr_entry.specs.declared.summary.Summary.{Summary}
use Rattle.vdr_index.specs.Summaries.{IsSummaryOf}
use Rattle.vdr_index.specs.declared.known.Known.{Known}
use Rattle.vdr_directory.specs.declared.newest.Newest.{Newest}
use Rattle.vdr_directory.specs.Sequence.{Placed, batches_of, records_of}
use Rattle.vdr_directory.specs.Order.{AreInOrder, AreInPlace, HasPlace, IsInPlace}
use Rattle.vdr_directory.specs.Knowns.{summary_of, batches_read, known_of, known_count, AreInPlaceBy}
use Rattle.vdr_directory.specs.Directories.{DirectoryState, newest_of}
use Rattle.vdr_directory.specs.Holds.{Tells}
use Rattle.vdr_directory.specs.Indexed.{IsIndexed, IsKnownAs, StandsFor}
use Rattle.vdr_directory.specs.Lookup.{HoldAll}
use Rattle.vdr_directory.specs.Telling.{HasPlaceBy, HoldAllBy, IsEarlierBy, IsIndexedBy, IsKnownAsBy, RiseBy, TellsBy}
use Rattle.vdr_directory.proofs.ByKnowns.{count_twice, told}
use Rattle.vdr_directory.proofs.EndingsBy.{ending_known}
use Rattle.vdr_directory.proofs.Extents.{read_all}
use Rattle.vdr_directory.proofs.Known.{IsEarlier, all_behind}

-- As many records are known of a segment in its place as it has.
pub count_known : (o : Option Placed) (p : Placed) (ps : List Placed) → IsInPlace o p ps → known_count (known_of p) ≡ length (records_of p)
count_known o p ps h = count_twice p ∙ (told o p ps h).count

-- What is known of it

known_as_known : (o : Option Placed) (p : Placed) (ps : List Placed) (k : Option Known) → IsInPlace o p ps → IsKnownAs p k → IsKnownAsBy (known_of p) k
known_as_known o p ps None h none = count_known o p ps h ∙ ap length none
known_as_known o p ps (Some k) h is = record {
  seq = is.seq;
  first = is.first;
  some = λ empty. is.some (nil_from_length (records_of p) (sym (count_known o p ps h) ∙ empty));
  summary = go (summary_of p) refl is.summary;
}
  where
    go : (x : Option Summary) → summary_of p ≡ x → StandsFor x p k.summary → StandsFor x (known_of p) k.summary
    go None none e =
        let same : records_of (known_of p) ≡ records_of p = read_all p none in
        record { count = e.count ∙ ap length (sym same); summary = subst (λ (rs : List Record). IsSummaryOf rs k.summary) (sym same) e.summary }
    go (Some t) is e = e

kept_known : (index : List (Option Known)) (o : Option Placed) (ps : List Placed) → AreInPlace o ps → All (λ p. IsKnownAs p (get_or index p.slot None)) ps
    → All (λ p. IsKnownAsBy p (get_or index p.slot None)) (map known_of ps)
kept_known index o [] h kept = All-nil (λ (p : Placed). IsKnownAsBy p (get_or index p.slot None))
kept_known index o (p ∷ ps) h kept =
    All-cons (λ (p : Placed). IsKnownAsBy p (get_or index p.slot None)) (known_of p) (map known_of ps)
    (known_as_known o p ps (get_or index p.slot None) h.0 (All-head (λ p. IsKnownAs p (get_or index p.slot None)) p ps kept))
    (kept_known index (Some p) ps h.1 (All-tail (λ p. IsKnownAs p (get_or index p.slot None)) p ps kept))

apart_known : (j : ℕ) (ps : List Placed) → All (λ p. p.slot ≢ j) (map known_of ps) → All (λ p. p.slot ≢ j) ps
apart_known j [] h = All-nil (λ (p : Placed). p.slot ≢ j)
apart_known j (p ∷ ps) h =
    All-cons (λ (p : Placed). p.slot ≢ j) p ps (All-head (λ p. p.slot ≢ j) (known_of p) (map known_of ps) h) (apart_known j ps (All-tail (λ p. p.slot ≢ j) (known_of p) (map known_of ps) h))

pub indexed_by : (count : ℕ) (placed : List Placed) (index : List (Option Known)) → AreInOrder placed → IsIndexed count placed index → IsIndexedBy count (map known_of placed) index
indexed_by count placed index order h = record { size = h.size; kept = kept_known index None placed order h.kept; clear = λ j apart. h.clear j (apart_known j placed apart) }

newest_same : (p : Placed) → summary_of p ≡ None → newest_of (known_of p) ≡ newest_of p
newest_same p none = ap (λ (o : Option Summary). newest_of (record { slot = p.slot; segment = record { header = p.segment.header; batches = batches_read o (batches_of p) } })) none

newest_known : (o : Option Placed) (ps : List Placed) → AreInPlace o ps → option_map newest_of (last (map known_of ps)) ≡ option_map newest_of (last ps)
newest_known o [] h = refl
newest_known o (p ∷ []) h = ap (λ (n : Newest). Some n) (newest_same p h.0.precedes)
newest_known o (p ∷ q ∷ ps) h = newest_known (Some p) (q ∷ ps) h.1

pub tells_by : (count : ℕ) (placed : List Placed) (t : DirectoryState) → AreInOrder placed → Tells count placed t → TellsBy count (map known_of placed) t
tells_by count placed t order h = record {
  index = indexed_by count placed t.index order h.index;
  newest = h.newest ∙ sym (newest_known None placed order);
  ending = h.ending ∙ sym (ending_known None placed order);
}

-- Places

place_from : (place : ℕ) (o : Option Placed) (ps : List Placed) → AreInPlace o ps → Any (HasPlaceBy place) (map known_of ps) → Any (HasPlace place) ps
place_from place o [] h there = absurd (any_none (HasPlaceBy place) there)
place_from place o (p ∷ ps) h there = ⊎_elim
    (λ (here : HasPlaceBy place (known_of p)). let count = count_known o p ps h.0 in let below = here.below in any_here (HasPlace place) p ps (record { from = here.from; below = omega (arith, below, count) }))
    (λ (more : Any (HasPlaceBy place) (map known_of ps)). any_there (HasPlace place) p ps (place_from place (Some p) ps h.1 more))
    (any_cases (HasPlaceBy place) (known_of p) (map known_of ps) there)

place_to : (place : ℕ) (o : Option Placed) (ps : List Placed) → AreInPlace o ps → Any (HasPlace place) ps → Any (HasPlaceBy place) (map known_of ps)
place_to place o [] h there = absurd (any_none (HasPlace place) there)
place_to place o (p ∷ ps) h there = ⊎_elim
    (λ (here : HasPlace place p). let count = count_known o p ps h.0 in let below = here.below in any_here (HasPlaceBy place) (known_of p) (map known_of ps) (record { from = here.from; below = omega (arith, below, count) }))
    (λ (more : Any (HasPlace place) ps). any_there (HasPlaceBy place) (known_of p) (map known_of ps) (place_to place (Some p) ps h.1 more))
    (any_cases (HasPlace place) p ps there)

pub hold_all_from : (a b : ℕ) (placed : List Placed) → AreInOrder placed → HoldAllBy a b (map known_of placed) → HoldAll a b placed
hold_all_from a b placed order h place from to = place_from place None placed order (h place from to)

pub hold_all_by : (a b : ℕ) (placed : List Placed) → AreInOrder placed → HoldAll a b placed → HoldAllBy a b (map known_of placed)
hold_all_by a b placed order h place from to = place_to place None placed order (h place from to)

-- Numbers and places rise

all_earlier : (q : Placed) (ps : List Placed) → AreInPlaceBy (Some q) ps → All (IsEarlierBy q) ps
all_earlier q [] h = All-nil (IsEarlierBy q)
all_earlier q (p ∷ ps) h =
    let a = h.0.follows.seq in
    let b = h.0.follows.place in
    All-cons (IsEarlierBy q) p ps (a, b)
    (All-weaker (IsEarlierBy p) (IsEarlierBy q) (λ r k. let c = k.0 in let d = k.1 in (omega (arith, a, c), omega (arith, b, d))) ps (all_earlier p ps h.1))

-- of parts that were read
pub rise_by : (o : Option Placed) (known : List Placed) → AreInPlaceBy o known → RiseBy known
rise_by o [] h = tt
rise_by o (p ∷ ps) h = (all_earlier p ps h.1, rise_by (Some p) ps h.1)

-- and of segments
pub rise_known : (o : Option Placed) (placed : List Placed) → AreInPlace o placed → RiseBy (map known_of placed)
rise_known o [] h = tt
rise_known o (p ∷ ps) h =
    let count = count_known o p ps h.0 in (
      All-map (IsEarlierBy (known_of p)) known_of ps
          (All-weaker (λ q. IsEarlier p q) (λ q. IsEarlierBy (known_of p) (known_of q)) (λ q k. let d = k.1 in (k.0, omega (arith, count, d))) ps (all_behind p ps h.1)),
      rise_known (Some p) ps h.1,
    )
