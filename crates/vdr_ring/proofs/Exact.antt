-- Each summary of a regular medium is exact, at each stage of an append.
use Rattle.std.proofs.Common.{◌≡◌, ⊎_elim, inl, inr, ℕ, List, [], ◌∷◌, ◌++◌, length, All, Contains, Some, None, IfSome, Option, refl, sym, ap, ◌∙◌, subst}
use Rattle.std.proofs.lemmas.List.Elements.{All-append, All-cons, All-contains, All-head, All-push, All-tail, Contains-append_left, Contains-append_right}
use Rattle.vdr_terms.specs.Records.{Record, last}
use Rattle.vdr_entry.specs.declared.summary.Summary.{Summary}
use Rattle.vdr_durability.specs.Retention.{Pin}
use Rattle.vdr_durability.proofs.Lists.{all_from, contains_cases, contains_there}
use Rattle.vdr_durability.specs.Layout.{segment_records}
use Rattle.vdr_index.specs.Summaries.{IsSummaryOf}
use Rattle.vdr_directory.specs.Sequence.{Placed, batches_of, records_of, segments_in}
use Rattle.vdr_directory.specs.Bringing.{AreAlike, IsAlike}
use Rattle.vdr_directory.proofs.Bringing.{alike_segments}
use Rattle.vdr_directory.specs.Closed.{IsFull, IsLeastClosed}
use Rattle.vdr_directory.specs.Growing.{new_segment, next_seq, with_batch_in}
use Rattle.vdr_directory.specs.Leaving.{IsExact, IsExactlySummarized, summarized}
use Rattle.vdr_ring.specs.Stages.{AreStages, BeginsAnew, IsLeft, IsVictim, IsWritten, Stages}
use Rattle.vdr_ring.specs.Regularity.{AreLaidOut, AreRegular}
use Rattle.vdr_ring.proofs.Staging.{victim_split}

abbrev AreExact : List Placed → Type 0
AreExact placed = All IsExactlySummarized placed

-- What has no summary is.
bare_exact : (p : Placed) → p.segment.header.summary ≡ None → IsExactlySummarized p
bare_exact p bare = subst (λ (o : Option Summary). IfSome o (IsExact p)) (sym bare) tt

front_exact : (before after : List Placed) → AreExact (before ++ after) → AreExact before
front_exact before after h = all_from IsExactlySummarized before (λ p m. All-contains IsExactlySummarized (before ++ after) p h (Contains-append_left before after p m))

-- one goes, another comes in the place of one
less_exact : (before : List Placed) (v : Placed) (after : List Placed) → AreExact (before ++ v ∷ after) → AreExact (before ++ after)
less_exact before v after h = All-append IsExactlySummarized before after (front_exact before (v ∷ after) h)
    (all_from IsExactlySummarized after (λ p m. All-contains IsExactlySummarized (before ++ v ∷ after) p h (Contains-append_right before (v ∷ after) p (contains_there v after p m))))

pub instead_exact : (before : List Placed) (p q : Placed) (after : List Placed) → IsExactlySummarized q → AreExact (before ++ p ∷ after) → AreExact (before ++ q ∷ after)
instead_exact before p q after one h = All-append IsExactlySummarized before (q ∷ after) (front_exact before (p ∷ after) h)
    (all_from IsExactlySummarized (q ∷ after) (λ r m. ⊎_elim
    (λ (e : q ≡ r). subst IsExactlySummarized e one)
    (λ (k : Contains after r). All-contains IsExactlySummarized (before ++ p ∷ after) r h (Contains-append_right before (p ∷ after) r (contains_there p after r k)))
    (contains_cases q after r m)))

module _ (size count seconds : ℕ) (pins : List Pin) (placed : List Placed) (first : ℕ) (records : List Record) (stages : Stages) (exact : AreExact placed) where
  closed_exact : BeginsAnew size count seconds pins placed first records stages → AreExact stages.closed
  closed_exact b = ⊎_elim
      (λ (k : IsLeastClosed count placed b.slot × (stages.closed ≡ placed)). subst AreExact (sym k.1) exact)
      (λ (k : IsFull count placed × (before : List Placed) × (victim : Placed) × (after : List Placed) × IsVictim seconds pins placed before victim after × (b.slot ≡ victim.slot) × (stages.closed ≡ before ++ after)).
      subst AreExact (sym k.6) (less_exact k.1 k.2 k.3 (subst AreExact (victim_split seconds pins placed k.1 k.2 k.3 k.4) exact)))
      b.place

  written_exact : IsWritten size count seconds pins placed first records stages → AreExact stages.closed × AreExact stages.begun × AreExact stages.done
  written_exact (inl g) = (
    subst AreExact (sym g.closed) exact,
    subst AreExact (sym g.begun) exact,
    subst AreExact (sym g.done) (instead_exact g.older g.newest (with_batch_in g.newest records) [] (bare_exact (with_batch_in g.newest records) g.bare) (subst AreExact g.split exact)),
  )
  written_exact (inr b) =
      let closed = closed_exact b in
      let new = new_segment b.slot (next_seq (last placed)) first in (
        closed,
        subst AreExact (sym b.begun) (All-push IsExactlySummarized stages.closed new closed tt),
        subst AreExact (sym b.done) (All-push IsExactlySummarized stages.closed (with_batch_in new records) closed tt),
      )

  left_exact : AreExact stages.done → IsLeft records stages → AreExact stages.left
  left_exact done (inl none) = subst AreExact (sym none.1) done
  left_exact done (inr l) =
      let now : IsExact (summarized l.behind.left l.summary) l.summary = record { count = l.behind.exact.count; summary = l.behind.exact.summary } in
      subst AreExact (sym l.left)
      (instead_exact l.behind.older l.behind.left (summarized l.behind.left l.summary) (with_batch_in l.behind.newest records ∷ []) now (subst AreExact l.done done))

  pub stages_exact : AreStages size count seconds pins placed first records stages → AreExact stages.closed × AreExact stages.begun × AreExact stages.done × AreExact stages.left
  stages_exact s = let k = written_exact s.0 in (k.0, k.1, k.2, left_exact k.2 s.1)

-- Segments that differ in summaries alone

same_exact : (p q : Placed) (s : Summary) → batches_of q ≡ batches_of p → IsExact p s → IsExact q s
same_exact p q s same h =
    let records : records_of q ≡ records_of p = ap segment_records same in
    record { count = h.count ∙ ap length (sym records); summary = subst (λ (rs : List Record). IsSummaryOf rs s) (sym records) h.summary }

one_alike : (p q : Placed) (o : Option Summary) → p.segment.header.summary ≡ o → IfSome o (IsExact p) → IsAlike p q → IsExactlySummarized q
one_alike p q None is h a = a.exact is
one_alike p q (Some s) is h a = subst (λ (o : Option Summary). IfSome o (IsExact q)) (sym (a.summary s is)) (same_exact p q s a.batches h)

alike_exact : (placed now : List Placed) → AreAlike placed now → AreExact placed → AreExact now
alike_exact [] [] a h = h
alike_exact [] (q ∷ qs) a h = absurd a
alike_exact (p ∷ ps) [] a h = absurd a
alike_exact (p ∷ ps) (q ∷ qs) a h = All-cons IsExactlySummarized q qs
    (one_alike p q p.segment.header.summary refl (All-head IsExactlySummarized p ps h) a.0)
    (alike_exact ps qs a.1 (All-tail IsExactlySummarized p ps h))

-- a medium without segments stays so
pub laid_out_same : (cost usable batch : ℕ) (placed now : List Placed) → segments_in now ≡ segments_in placed → AreLaidOut cost usable batch placed → AreLaidOut cost usable batch now
laid_out_same cost usable batch placed now same (inl none) = inl (nothing now (same ∙ ap segments_in none))
  where
    nothing : (ps : List Placed) → segments_in ps ≡ [] → ps ≡ []
    nothing [] e = refl
    nothing (p ∷ ps) e = cc
laid_out_same cost usable batch placed now same (inr (older, newest, split, h)) = inr (older, newest, same ∙ split, h)

pub alike_regular : (cost usable batch : ℕ) (placed now : List Placed) → AreAlike placed now → AreRegular cost usable batch placed → AreRegular cost usable batch now
alike_regular cost usable batch placed now alike h = record {
  layout = laid_out_same cost usable batch placed now (alike_segments placed now alike) h.layout;
  exact = alike_exact placed now alike h.exact;
}
