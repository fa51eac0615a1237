-- A medium at every moment while segments that lack a summary get it, and what calls that write to it keep.
use Rattle.std.proofs.Common.{◌≡◌, ◌⊎◌, ◌<◌, ◌≤◌, ◌+◌, ℕ, List, [], ◌∷◌, ◌++◌, length, drop, get_or, slice_get, Contains, Option, Some, None, Result, OnOk, inl, inr, ⊎_elim, refl, sym, ◌∙◌, subst, add-one, drop-cons}
use Rattle.std.proofs.lemmas.List.{drop_all}
use Rattle.std.proofs.lemmas.List.Elements.{All-contains}
use Rattle.std.proofs.lemmas.Option.{none-some}
use Rattle.std.proofs.lemmas.Result.{on_ok_weaker}
use Rattle.vdr_terms.proofs.Somewhere.{any_cases, any_none}
use Rattle.vdr_entry.specs.declared.summary.Summary.{Summary}
use Rattle.vdr_outside.specs.Disk.{Disk, Durable, content}
use Rattle.vdr_outside.specs.Moments.{ChangesOnly, Settled}
use Rattle.vdr_outside.proofs.Moments.{changes_none, changes_weaken, settled_image}
use Rattle.vdr_segment.specs.Segments.{Segment}
use Rattle.vdr_segment.specs.Slots.{HoldsSlots, HoldsEither, slots_with_summary}
use Rattle.vdr_segment.specs.Writes.{KeepsFront}
use Rattle.vdr_segment.proofs.Fronts.{front_joined, front_none, front_same, front_then}
use Rattle.vdr_index.specs.declared.known.Known.{Known}
use Rattle.vdr_directory.specs.Sequence.{Placed}
use Rattle.vdr_directory.specs.Order.{AreInOrder}
use Rattle.vdr_directory.specs.Directories.{DirectoryState}
use Rattle.vdr_directory.specs.Indexed.{IsKnown, IsKnownAs}
use Rattle.vdr_directory.specs.Holds.{HoldsPlaced, HoldsAny, Tells}
use Rattle.vdr_directory.specs.Leaving.{IsExact, summarized}
use Rattle.vdr_directory.specs.Bringing.{AreAlike, bare_of}
use Rattle.vdr_directory.proofs.Leaving.{left_in_order}
use Rattle.vdr_directory.proofs.Behind.{in_its_place, in_the_middle, known_exactly, tells_left}
use Rattle.vdr_directory.proofs.Bringing.{IsFirstBare, alike_more, alike_self, first_bare, some_before}
use Rattle.vdr_ring.specs.Rings.{Reads, RingState}
use Rattle.vdr_ring.specs.Bringing.{HasBroughtUp, HoldsAlike, StandsAlike}
use Rattle.vdr_ring.proofs.Summarizing.{summarized_moments, summarized_settled}

module _ {tells tells_images : Type 0} (m segment count : ℕ) (t : DirectoryState) (placed : List Placed) where
  -- Nothing is written yet.
  pub alike_before : (bare : List ℕ) (d : Disk tells tells_images) → StandsAlike m segment count placed t bare d → ChangesOnly m (HoldsAlike segment count placed) d d
  alike_before bare d h =
      changes_none m (HoldsAlike segment count placed) d
      (λ i now. record { now = h.now; holds = settled_image m (HoldsPlaced segment count h.now) d h.settled i now; alike = h.alike; order = h.order })

  pub alike_next : (bare : List ℕ) (i : ℕ) (d : Disk tells tells_images) → i < length bare → StandsAlike m segment count placed t (drop i bare) d
      → StandsAlike m segment count placed t (get_or bare i 0 ∷ drop (i + 1) bare) d
  alike_next bare i d lt h = subst (λ (b : List ℕ). StandsAlike m segment count placed t b d) cut h
    where
      cut : drop i bare ≡ get_or bare i 0 ∷ drop (i + 1) bare
      cut = rw (add-one, drop-cons bare i 0 lt)

  pub alike_all : (bare : List ℕ) (i : ℕ) (d : Disk tells tells_images) → length bare ≤ i → StandsAlike m segment count placed t (drop i bare) d → StandsAlike m segment count placed t [] d
  alike_all bare i d past h = subst (λ (b : List ℕ). StandsAlike m segment count placed t b d) (drop_all i bare past) h

  -- The first that is still to get a summary.
  module _ (slot : ℕ) (more : List ℕ) (mid : Disk tells tells_images) (h : StandsAlike m segment count placed t (slot ∷ more) mid) where
    first : IsFirstBare h.now slot more
    first = first_bare h.now slot more (sym h.still)

    order : AreInOrder (first.older ++ first.bare ∷ first.rest)
    order = subst AreInOrder first.split h.order

    known_as : IsKnownAs first.bare (get_or t.index slot None)
    known_as = subst (λ (j : ℕ). IsKnownAs first.bare (get_or t.index j None)) first.at
        (All-contains (λ p. IsKnownAs p (get_or t.index p.slot None)) h.now first.bare h.directory_tells.index.kept
        (subst (λ (ps : List Placed). Contains ps first.bare) (sym first.split) (in_the_middle first.older first.bare first.rest)))

    -- it has records, so it is known
    pub first_known : get_or t.index slot None ≡ None → ⊥
    first_known gone = some_before first.bare first.rest first.may (in_its_place None first.older first.bare first.rest order) (subst (IsKnownAs first.bare) gone known_as)

    -- and gets its summary
    module _ (k : Known) (at : get_or t.index slot None ≡ Some k) (new : Disk tells tells_images) (told : tells) where
      abbrev s : Summary
      s = k.summary

      exact : IsExact first.bare s
      exact = let is : IsKnown first.bare k = subst (IsKnownAs first.bare) at known_as in known_exactly first.bare k is first.none

      abbrev after : List Placed
      after = first.older ++ summarized first.bare s ∷ first.rest

      alike : AreAlike placed after
      alike = alike_more placed first.older first.bare first.rest s first.none exact (subst (AreAlike placed) first.split h.alike)

      order_after : AreInOrder after
      order_after = left_in_order first.bare s first.none exact first.older first.rest first.may order

      settled : Settled m (HoldsPlaced segment count (first.older ++ first.bare ∷ first.rest)) mid
      settled = subst (λ (ps : List Placed). Settled m (HoldsPlaced segment count ps) mid) first.split h.settled

      either : (b : List ℕ) → HoldsAny segment count ((first.older ++ first.bare ∷ first.rest) ∷ after ∷ []) b → HoldsAlike segment count placed b
      either b any = ⊎_elim
          (λ (here : HoldsPlaced segment count (first.older ++ first.bare ∷ first.rest) b).
          record { now = h.now; holds = subst (λ (ps : List Placed). HoldsPlaced segment count ps b) (sym first.split) here; alike = h.alike; order = h.order })
          (λ (later : HoldsAny segment count (after ∷ []) b). ⊎_elim
          (λ (there : HoldsPlaced segment count after b). let r : HoldsAlike segment count placed b = record { now = after; holds = there; alike = alike; order = order_after } in r)
          (λ (none : HoldsAny segment count [] b). absurd (any_none (λ ps. HoldsPlaced segment count ps b) none))
          (any_cases (λ ps. HoldsPlaced segment count ps b) after [] later))
          (any_cases (λ ps. HoldsPlaced segment count ps b) (first.older ++ first.bare ∷ first.rest) (after ∷ []) any)

      pub alike_moments : ((slots : List (Option Segment)) (g : Segment) → Settled m (HoldsSlots segment slots) mid → slice_get slots slot ≡ Some (Some g) → g.header.summary ≡ None
          → ChangesOnly m (HoldsEither segment slots (slots_with_summary slots slot g k.summary)) mid new) → ChangesOnly m (HoldsAlike segment count placed) mid new
      alike_moments moments =
          changes_weaken m _ (HoldsAlike segment count placed) mid new
          (summarized_moments m segment count first.older first.bare first.rest slot s first.at first.none mid new told settled moments) either

      pub alike_settled : {T E : Type 0} (result : Result T E)
          → ((slots : List (Option Segment)) (g : Segment) → Settled m (HoldsSlots segment slots) mid → slice_get slots slot ≡ Some (Some g) → g.header.summary ≡ None
          → OnOk result (Settled m (HoldsSlots segment (slots_with_summary slots slot g k.summary)) new))
          → OnOk result (StandsAlike m segment count placed t more new)
      alike_settled result settled_now =
          on_ok_weaker result
          (λ (now : Settled m (HoldsPlaced segment count after) new). record {
            now = after;
            settled = now;
            order = order_after;
            directory_tells = tells_left count first.older first.bare first.rest s t first.none exact (subst (λ (ps : List Placed). Tells count ps t) first.split h.directory_tells);
            alike = alike;
            still = sym (first.brought s);
          })
          (summarized_settled m segment count first.older first.bare first.rest slot s first.at first.none mid new told settled result settled_now)

-- One call after others that leave the medium synced.
pub front_more : {tells tells_images : Type 0} (m : ℕ) (old mid new : Disk tells tells_images) → KeepsFront m old mid → (Durable m old → Durable m mid) → KeepsFront m mid new → KeepsFront m old new
front_more m old mid new first durable second = record {
  meanwhile = λ synced. front_then m old mid new (first.meanwhile synced) first.reads (second.meanwhile (durable synced));
  reads = λ told. front_joined (content old.reads m) (content mid.reads m) (content new.reads m) (first.reads told) (second.reads told);
}

pub front_before : {tells tells_images : Type 0} (m : ℕ) (d : Disk tells tells_images) → KeepsFront m d d
front_before m d = record { meanwhile = λ synced. front_none m d synced; reads = λ told. front_same (content d.reads m) }

-- A ring that is brought up.
pub bare_is : (bare : List ℕ) (placed : List Placed) → (bare ≡ []) ⊎ (bare ≡ bare_of placed) → (bare ≡ [] → ⊥) → bare ≡ bare_of placed
bare_is bare placed (inl none) some = absurd (some none)
bare_is bare placed (inr is) some = is

module _ {tells tells_images : Type 0} (placed : List Placed) (disk : Disk tells tells_images) where
  pub stands_first : (ring : RingState) → Reads ring placed disk → StandsAlike ring.medium ring.segment ring.slots placed ring.directory (bare_of placed) disk
  stands_first ring reads = record { now = placed; settled = reads.settled; order = reads.order; directory_tells = reads.directory; alike = alike_self placed; still = refl }

  pub level_already : (ring : RingState) → Reads ring placed disk → ring.bare ≡ []
      → ChangesOnly ring.medium (HoldsAlike ring.segment ring.slots placed) disk disk × HasBroughtUp placed ring ring disk
  level_already ring reads none = (
    alike_before ring.medium ring.segment ring.slots ring.directory placed (bare_of placed) disk (stands_first ring reads),
    record { now = placed; reads = reads; alike = alike_self placed; brought = λ is. sym is ∙ none },
  )

  pub brought_up : (old new : RingState) → new.loaded ≡ None → new.bare ≡ [] → StandsAlike new.medium new.segment new.slots placed new.directory [] disk → HasBroughtUp placed old new disk
  brought_up old new loaded none h = record {
    now = h.now;
    reads = record { settled = h.settled; order = h.order; directory = h.directory_tells; loaded = λ j bad. absurd (none-some j (sym loaded ∙ bad)); bare = inl none };
    alike = h.alike;
    brought = λ is. sym h.still;
  }
