-- The slot that is held as a ring is opened is that of the newest segment with records.
use Rattle.std.proofs.Common.{◌≡◌, ◌<◌, ℕ, zero, suc, List, length, get_or, [], ◌∷◌, ◌++◌, Contains, Option, Some, None, ⊎_elim, refl, sym, ap, ◌∙◌, subst, arith, append_assoc}
use Rattle.std.specs.Prelude.{is_some}
use Rattle.std.proofs.lemmas.List.Elements.{All-contains}
use Rattle.vdr_durability.proofs.Lists.{contains_cases, contains_here, contains_there, none_contained}
use Rattle.vdr_index.specs.declared.extent.Extent.{Extent}
use Rattle.vdr_index.specs.declared.known.Known.{Known}
use Rattle.vdr_index.specs.Indexes.{IsNewest}
use Rattle.vdr_directory.specs.declared.entry.Entry.{Entry}
use Rattle.vdr_directory.specs.Sequence.{Placed, seq_of}
use Rattle.vdr_directory.specs.Entries.{Describe, Describes}
use Rattle.vdr_directory.specs.Fronts.{HoldsLatest}
use Rattle.vdr_directory.specs.Indexed.{extent_by}
use Rattle.vdr_directory.specs.Knowns.{AreInOrderBy, AreInPlaceBy, HasNoneBy, summary_of}
use Rattle.vdr_directory.specs.Telling.{IsEarlierBy, IsIndexedBy}
use Rattle.vdr_directory.proofs.Extents.{has_some_bare, none_bare}
use Rattle.vdr_directory.proofs.TellingBy.{rise_by}
use Rattle.vdr_ring.proofs.ByKnowns.{HasNewest, newest_by, some_before}

-- A segment without records, and without a summary, has no extent.
none_told : (p : Placed) (e : Entry) → Describes p e → summary_of p ≡ None → HasNoneBy p → extent_by e.survey ≡ None
none_told p e d bare none = go (extent_by e.survey) refl
  where
    go : (o : Option Extent) → extent_by e.survey ≡ o → o ≡ None
    go None at = refl
    go (Some x) at = absurd ((has_some_bare p e d (d.summary ∙ bare)).0 (ap is_some at) none)

module _ (opened : List Entry) (held : Option ℕ) (latest : HoldsLatest opened held) where
  -- the newest has records
  held_newest : (older : List Entry) (p : Placed) (e : Entry) → opened ≡ older ++ e ∷ [] → Describes p e → summary_of p ≡ None → (HasNoneBy p → ⊥) → held ≡ Some p.slot
  held_newest older p e are d bare some =
      latest.newest older e are (λ none. some (none_bare p e d (d.summary ∙ bare) none)) ∙ ap (λ (slot : ℕ). Some slot) d.slot

  -- it has none, and the one before it does
  held_before : (older : List Entry) (p q : Placed) (d e : Entry) → opened ≡ older ++ d ∷ e ∷ [] → Describes p d → Describes q e → summary_of p ≡ None → summary_of q ≡ None → HasNoneBy q → held ≡ Some p.slot
  held_before older p q d e are dp dq bare last none =
      latest.before older d e are (none_told q e dq last none) (dp.summary ∙ bare) ∙ ap (λ (slot : ℕ). Some slot) dp.slot

  held_first : (o : Option Placed) (older : List Entry) (p : Placed) (ps : List Placed) (es : List Entry) → AreInPlaceBy o (p ∷ ps) → Describe (p ∷ ps) es → opened ≡ older ++ es → (HasNoneBy p → ⊥)
      → ((q : Placed) → Contains ps q → HasNoneBy q) → held ≡ Some p.slot
  held_first o older p ps [] h d are some none = absurd d
  held_first o older p [] (e ∷ []) h d are some none = held_newest older p e are d.0 h.0.precedes some
  held_first o older p [] (e ∷ f ∷ es) h d are some none = absurd d.1
  held_first o older p (q ∷ ps) (e ∷ []) h d are some none = absurd d.1
  held_first o older p (q ∷ []) (e ∷ f ∷ []) h d are some none =
      held_before older p q e f are d.0 d.1.0 (h.0.precedes.1 (none q (contains_here q []))) h.1.0.precedes (none q (contains_here q []))
  held_first o older p (q ∷ []) (e ∷ f ∷ g ∷ es) h d are some none = absurd d.1.1
  held_first o older p (q ∷ x ∷ rest) (e ∷ f ∷ es) h d are some none = absurd (some_before q x rest h.1.0.precedes (none q (contains_here q (x ∷ rest))))

  held_of : (o : Option Placed) (older : List Entry) (ps : List Placed) (es : List Entry) → AreInPlaceBy o ps → Describe ps es → opened ≡ older ++ es → (p : Placed) → Contains ps p → HasNewest p ps → held ≡ Some p.slot
  held_of o older [] es h d are p m n = absurd (none_contained p m)
  held_of o older (x ∷ xs) [] h d are p m n = absurd d
  held_of o older (x ∷ xs) (e ∷ es) h d are p m n =
      ⊎_elim
      (λ (same : x ≡ p).
      held_first o older x xs (e ∷ es) h d are (subst (λ (y : Placed). HasNoneBy y → ⊥) (sym same) n.some)
      (λ q k. n.none q (contains_there x xs q k) (subst (λ (y : Placed). seq_of y < seq_of q) same (All-contains (IsEarlierBy x) xs q (rise_by o (x ∷ xs) h).0 k).0))
      ∙ ap (λ (y : Placed). Some y.slot) same)
      (λ (k : Contains xs p).
      held_of (Some x) (older ++ e ∷ []) xs es h.1 d.1 (are ∙ sym (append_assoc older (e ∷ []) es)) p k (record { some = n.some; none = λ q j. n.none q (contains_there x xs q j) }))
      (contains_cases x xs p m)

  pub held_is : (count : ℕ) (known : List Placed) (index : List (Option Known)) → IsIndexedBy count known index → AreInOrderBy known → Describe known opened → (slot : ℕ) → IsNewest index slot → held ≡ Some slot
  held_is count known index x order describe slot f =
      let p = newest_by count known index x slot f in
      held_of None [] known opened order describe refl p.0 p.1 p.3 ∙ ap (λ (j : ℕ). Some j) p.2

-- And it is that of a segment without a summary.
pub bare_placed : (known : List Placed) (opened : List Entry) (slot k : ℕ) (e : Entry) → Describe known opened → k < length opened → get_or opened k e ≡ e → e.slot ≡ slot → e.summary ≡ None
    → (p : Placed) × Contains known p × (p.slot ≡ slot) × (summary_of p ≡ None)
bare_placed known [] slot k e describe lt at is bare = let none : ⊥ = omega (arith, lt) in absurd none
bare_placed [] (x ∷ xs) slot k e describe lt at is bare = absurd describe
bare_placed (p ∷ ps) (x ∷ xs) slot zero e describe lt at is bare = (
  p,
  contains_here p ps,
  sym describe.0.slot ∙ ap (λ (y : Entry). y.slot) at ∙ is,
  sym describe.0.summary ∙ ap (λ (y : Entry). y.summary) at ∙ bare,
)
bare_placed (p ∷ ps) (x ∷ xs) slot (suc k) e describe lt at is bare =
    let h = bare_placed ps xs slot k e describe.1 (omega (arith, lt)) at is bare in (h.0, contains_there p ps h.0 h.1, h.2, h.3)
