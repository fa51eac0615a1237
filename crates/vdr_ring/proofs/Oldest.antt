-- The victim of a medium that its configuration allows: the oldest segment that may go, by what is known of it and by its records.
use Rattle.std.proofs.Common.{◌≡◌, ◌≢◌, ℕ, ◌+◌, ◌<◌, ◌≤◌, inl, inr, ⊎_elim, List, [], ◌∷◌, ◌++◌, length, All, Contains, sym, ap, ◌∙◌, subst, arith}
use Rattle.std.proofs.lemmas.Bool.{cases_lt}
use Rattle.std.proofs.lemmas.List.{length-map, length_push, map-append, map_push, same_from_push}
use Rattle.std.proofs.lemmas.List.Elements.{All-contains, All-map, Contains-append_left, Contains-append_right}
use Rattle.vdr_terms.specs.Records.{Record}
use Rattle.vdr_terms.specs.Order.{AreInOrder}
use Rattle.vdr_terms.specs.Needs.{Sizes, cost, usable, needed_slots}
use Rattle.vdr_terms.specs.Sizes.{batch_size, records_size}
use Rattle.vdr_segment.specs.Segments.{end_of}
use Rattle.vdr_durability.specs.Layout.{Batches, batches_size, records_in}
use Rattle.vdr_durability.specs.Regular.{IsRegular}
use Rattle.vdr_durability.specs.Retention.{Pin}
use Rattle.vdr_durability.specs.Victims.{ArePinsOf, HasVictim, IsOldestCandidate, MayGo}
use Rattle.vdr_durability.proofs.Lists.{all_from, contains_cases, contains_here, none_contained}
use Rattle.vdr_durability.proofs.Ordered.{parts_in_order}
use Rattle.vdr_durability.proofs.Paced.{full_where_unfit}
use Rattle.vdr_durability.proofs.Needed.{one_victim}
use Rattle.vdr_durability.proofs.Victims.{medium_has_victim}
use Rattle.vdr_directory.specs.Sequence.{Placed, batches_of, records_of, segments_in, all_records}
use Rattle.vdr_directory.specs.Leaving.{IsExactlySummarized}
use Rattle.vdr_directory.specs.Closed.{IsFull}
use Rattle.vdr_ring.specs.Stages.{HasRoom, IsOldest, IsVictim}
use Rattle.vdr_ring.specs.Candidates.{MayGoAsKnown}
use Rattle.vdr_ring.specs.Regularity.{AreLaidOut, IsAllowed}
use Rattle.vdr_ring.proofs.Going.{goes_exactly, known_where_goes, own_records}

-- Segments, as placed and as batches

pub segments_push : (older : List Placed) (newest : Placed) → segments_in (older ++ newest ∷ []) ≡ segments_in older ++ batches_of newest ∷ []
segments_push older newest = map_push batches_of older newest

pub segments_split : (before : List Placed) (victim : Placed) (after : List Placed) → segments_in (before ++ victim ∷ after) ≡ segments_in before ++ batches_of victim ∷ segments_in after
segments_split before victim after = map-append batches_of before (victim ∷ after)

not_empty : {X : Type 0} (xs : List X) (x : X) (ys : List X) → xs ++ x ∷ ys ≡ [] → ⊥
not_empty [] x ys e = cc
not_empty (z ∷ xs) x ys e = cc

-- a medium is empty, or has a newest segment
pub data Ends : List Placed → Type 0 where
  empty : Ends []
  ends : (older : List Placed) (newest : Placed) → Ends (older ++ newest ∷ [])

pub ends_of : (placed : List Placed) → Ends placed
ends_of [] = empty
ends_of (p ∷ ps) = behind p (ends_of ps)
  where
    behind : (p : Placed) {ps : List Placed} → Ends ps → Ends (p ∷ ps)
    behind p empty = ends [] p
    behind p (ends older newest) = ends (p ∷ older) newest

pub newest_regular : (cost usable batch : ℕ) (older : List Placed) (newest : Placed) → AreLaidOut cost usable batch (older ++ newest ∷ []) → IsRegular cost usable batch (segments_in older) (batches_of newest)
newest_regular cost usable batch older newest (inl e) = absurd (not_empty older newest [] e)
newest_regular cost usable batch older newest (inr (older', newest', split, h)) =
    let k = same_from_push (segments_in older) older' (batches_of newest) newest' (sym (segments_push older newest) ∙ split) in
    subst (λ (p : List Batches × Batches). IsRegular cost usable batch p.0 p.1) (λ i. (sym k.0 i, sym k.1 i)) h

pub regular_newest : (cost usable batch : ℕ) (older : List Placed) (newest : Placed) → IsRegular cost usable batch (segments_in older) (batches_of newest) → AreLaidOut cost usable batch (older ++ newest ∷ [])
regular_newest cost usable batch older newest h = inr (segments_in older, batches_of newest, segments_push older newest, h)

laid_out_in_order : (cost usable batch : ℕ) (placed : List Placed) → AreLaidOut cost usable batch placed → AreInOrder (all_records placed)
laid_out_in_order cost usable batch placed (inl none) = subst (λ (ps : List Placed). AreInOrder (all_records ps)) (sym none) tt
laid_out_in_order cost usable batch placed (inr (older, newest, split, h)) = subst (λ (ss : List Batches). AreInOrder (records_in ss)) (sym split) h.order

in_its_order : (placed : List Placed) → AreInOrder (all_records placed) → (p : Placed) → Contains placed p → AreInOrder (records_of p)
in_its_order [] order p m = absurd (none_contained p m)
in_its_order (x ∷ xs) order p m =
    let parts = parts_in_order (records_of x) (all_records xs) order in
    ⊎_elim
    (λ (e : x ≡ p). subst (λ (q : Placed). AreInOrder (records_of q)) e parts.0)
    (λ (k : Contains xs p). in_its_order xs parts.1 p k)
    (contains_cases x xs p m)

-- What a configuration allows

-- Its records are in order, and each of its summaries is exact: a segment may go by what is known of it where it may by its records.
module _ (sizes : Sizes) (m size count seconds : ℕ) (pins : List Pin) (placed : List Placed) (records : List Record) (h : IsAllowed sizes m size count seconds pins placed records) (p : Placed) (there : Contains placed p) where
  own_order : AreInOrder (records_of p)
  own_order = in_its_order placed (laid_out_in_order (cost sizes) (usable sizes) sizes.batch placed h.regular.layout) p there

  exact : IsExactlySummarized p
  exact = All-contains IsExactlySummarized placed p h.regular.exact there

  pub may_go : MayGoAsKnown seconds pins (all_records placed) p → MayGo seconds pins (all_records placed) (batches_of p)
  may_go = goes_exactly seconds pins (all_records placed) p (own_records placed p there) exact own_order

  as_known : MayGo seconds pins (all_records placed) (batches_of p) → MayGoAsKnown seconds pins (all_records placed) p
  as_known = known_where_goes seconds pins (all_records placed) p (own_records placed p there) exact

pub oldest_candidate : (sizes : Sizes) (m size count seconds : ℕ) (pins : List Pin) (placed : List Placed) (records : List Record) (before : List Placed) (victim : Placed) (after : List Placed)
    → IsAllowed sizes m size count seconds pins placed records → IsOldest seconds pins placed before victim after
    → IsOldestCandidate seconds pins (segments_in placed) (segments_in before) (batches_of victim) (segments_in after)
oldest_candidate sizes m size count seconds pins placed records before victim after h k = record {
  split = ap segments_in k.split ∙ segments_split before victim after;
  may_go = may_go sizes m size count seconds pins placed records h victim
      (subst (λ (ps : List Placed). Contains ps victim) (sym k.split) (Contains-append_right before (victim ∷ after) victim (contains_here victim after))) k.may_go;
  oldest = All-map (λ s. MayGo seconds pins (all_records placed) s → ⊥) batches_of before
      (all_from (λ p. MayGo seconds pins (all_records placed) (batches_of p) → ⊥) before (λ p m_p may.
      All-contains (λ p. MayGoAsKnown seconds pins (all_records placed) p → ⊥) before p k.none_before m_p
      (as_known sizes m size count seconds pins placed records h p (subst (λ (ps : List Placed). Contains ps p) (sym k.split) (Contains-append_left before (victim ∷ after) p m_p)) may)));
}

-- A newest segment that has no room for the batch has more than the usable bytes.
pub full_newest : (sizes : Sizes) (m size count seconds : ℕ) (pins : List Pin) (placed : List Placed) (records : List Record) (newest : Placed) → IsAllowed sizes m size count seconds pins placed records
    → (HasRoom size newest records → ⊥) → usable sizes < batches_size (batches_of newest)
full_newest sizes m size count seconds pins placed records newest h no_room =
    ⊎_elim
    (λ (unfit : size < end_of newest.segment + batch_size records + 1).
    let a = h.segment in
    let b = h.room in
    full_where_unfit sizes.segment sizes.batch (batches_size (batches_of newest)) (records_size records) h.paced.short (omega (arith, b)) (omega (arith, a, unfit)))
    (λ (fits : end_of newest.segment + batch_size records + 1 ≤ size). absurd (no_room fits))
    (cases_lt size (end_of newest.segment + batch_size records + 1))

-- Where all slots are open one of the older segments is the victim.
module _ (sizes : Sizes) (m size count seconds : ℕ) (pins : List Pin) (older : List Placed) (newest : Placed) (records : List Record) (h : IsAllowed sizes m size count seconds pins (older ++ newest ∷ []) records) (full : IsFull count (older ++ newest ∷ [])) where
  older_victim : HasVictim seconds pins (segments_in older) (batches_of newest)
  older_victim =
      subst (λ (s : ℕ). HasVictim s pins (segments_in older) (batches_of newest)) h.window
      (medium_has_victim sizes m (segments_in older) (batches_of newest) pins (newest_regular (cost sizes) (usable sizes) sizes.batch older newest h.regular.layout) roomy
      (subst (λ (ss : List Batches). ArePinsOf sizes m (records_in ss) pins) (segments_push older newest) h.saves) enough)
    where
      roomy : 0 < usable sizes
      roomy = let a = h.room in omega (arith, a)

      enough : needed_slots sizes m ≤ length (segments_in older ++ batches_of newest ∷ [])
      enough =
          let a = h.slots in
          let b = length_push older newest in
          let c = length_push (segments_in older) (batches_of newest) in
          let d = length-map older batches_of in
          omega (arith, a, b, c, d, full)

  candidate : (before : List Placed) (victim : Placed) (after : List Placed) → IsOldest seconds pins (older ++ newest ∷ []) before victim after
      → IsOldestCandidate seconds pins (segments_in older ++ batches_of newest ∷ []) (segments_in before) (batches_of victim) (segments_in after)
  candidate before victim after k =
      subst (λ (ss : List Batches). IsOldestCandidate seconds pins ss (segments_in before) (batches_of victim) (segments_in after)) (segments_push older newest)
      (oldest_candidate sizes m size count seconds pins (older ++ newest ∷ []) records before victim after h k)

  not_forced : All (λ p. MayGoAsKnown seconds pins (all_records (older ++ newest ∷ [])) p → ⊥) (older ++ newest ∷ []) → ⊥
  not_forced unknown =
      let none : All (λ p. MayGo seconds pins (all_records (older ++ newest ∷ [])) (batches_of p) → ⊥) (older ++ newest ∷ []) =
      all_from (λ p. MayGo seconds pins (all_records (older ++ newest ∷ [])) (batches_of p) → ⊥) (older ++ newest ∷ []) (λ p there may.
      All-contains (λ p. MayGoAsKnown seconds pins (all_records (older ++ newest ∷ [])) p → ⊥) (older ++ newest ∷ []) p unknown there (as_known sizes m size count seconds pins (older ++ newest ∷ []) records h p there may)) in
      let v = older_victim in
      let all : All (λ s. MayGo seconds pins (all_records (older ++ newest ∷ [])) s → ⊥) (segments_in (older ++ newest ∷ [])) =
      All-map (λ s. MayGo seconds pins (all_records (older ++ newest ∷ [])) s → ⊥) batches_of (older ++ newest ∷ []) none in
      let there : Contains (segments_in older ++ batches_of newest ∷ []) v.victim =
      subst (λ (ss : List Batches). Contains ss v.victim) (sym v.oldest.split)
      (Contains-append_right v.before (v.victim ∷ (v.after ++ batches_of newest ∷ [])) v.victim (contains_here v.victim (v.after ++ batches_of newest ∷ []))) in
      All-contains (λ s. MayGo seconds pins (all_records (older ++ newest ∷ [])) s → ⊥) (segments_in (older ++ newest ∷ [])) v.victim all
      (subst (λ (ss : List Batches). Contains ss v.victim) (sym (segments_push older newest)) there)
      (subst (λ (ss : List Batches). MayGo seconds pins (records_in ss) v.victim) (sym (segments_push older newest)) v.oldest.may_go)

  oldest : (before : List Placed) (victim : Placed) (after : List Placed) → IsVictim seconds pins (older ++ newest ∷ []) before victim after → IsOldest seconds pins (older ++ newest ∷ []) before victim after
  oldest before victim after (inl k) = k
  oldest before victim after (inr k) = absurd (not_forced k.1.none)

  not_newest : (before : List Placed) (victim : Placed) (after : List Placed) → IsOldest seconds pins (older ++ newest ∷ []) before victim after → after ≢ []
  not_newest before victim after k none =
      let v = older_victim in
      let one = one_victim seconds pins (segments_in older ++ batches_of newest ∷ []) (segments_in before) (batches_of victim) (segments_in after) v.before v.victim (v.after ++ batches_of newest ∷ [])
      (candidate before victim after k) v.oldest in
      not_empty v.after (batches_of newest) [] (sym one.2 ∙ ap segments_in none)

-- A medium without segments has a closed slot.
never_full : (sizes : Sizes) (m size count seconds : ℕ) (pins : List Pin) (records : List Record) → IsAllowed sizes m size count seconds pins [] records → IsFull count [] → ⊥
never_full sizes m size count seconds pins records h full = let a = h.slots in omega (arith, a, full)

pub victim_is_oldest : (sizes : Sizes) (m size count seconds : ℕ) (pins : List Pin) (placed : List Placed) (records : List Record) (before : List Placed) (victim : Placed) (after : List Placed)
    → IsAllowed sizes m size count seconds pins placed records → IsFull count placed → IsVictim seconds pins placed before victim after
    → IsOldest seconds pins placed before victim after × (after ≢ [])
victim_is_oldest sizes m size count seconds pins placed records before victim after h full v = go placed (ends_of placed) h full v
  where
    go : (placed : List Placed) → Ends placed → IsAllowed sizes m size count seconds pins placed records → IsFull count placed → IsVictim seconds pins placed before victim after
        → IsOldest seconds pins placed before victim after × (after ≢ [])
    go placed empty h full v = absurd (never_full sizes m size count seconds pins records h full)
    go placed (ends older newest) h full v =
        let k = oldest sizes m size count seconds pins older newest records h full before victim after v in
        (k, not_newest sizes m size count seconds pins older newest records h full before victim after k)
