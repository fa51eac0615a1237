-- The entries of a medium from the first reading to the directory: sorted in place, and surveyed in place.
use Rattle.std.proofs.Common.{◌≡◌, ◌<◌, ℕ, List, [], ◌∷◌, ◌++◌, length, map, take, drop, All, refl, sym, ap, ◌∙◌, subst, arith, append-nil, length-drop}
use Rattle.std.specs.List.Sorted.{IsPermutation}
use Rattle.std.proofs.lemmas.List.{take_all, length-map}
use Rattle.std.proofs.lemmas.List.Sorted.{length_permutation}
use Rattle.std.proofs.lemmas.List.Elements.{All-cons, All-head, All-nil, All-tail}
use Rattle.vdr_directory.specs.declared.entry.Entry.{Entry}
use Rattle.vdr_directory.specs.Entries.{slot_of}
use Rattle.vdr_directory.specs.Fronts.{Ascends, head_of, AreSorted, AreSlots}
use Rattle.vdr_directory.proofs.Sequencing.{Sequenced, sequenced_slots}

pub slots_below : (es : List Entry) (n : ℕ) → All (λ j. j < n) (map slot_of es) → All (λ e. e.slot < n) es
slots_below [] n h = All-nil (λ (e : Entry). e.slot < n)
slots_below (e ∷ es) n h = All-cons (λ (e : Entry). e.slot < n) e es (All-head (λ j. j < n) e.slot (map slot_of es) h) (slots_below es n (All-tail (λ j. j < n) e.slot (map slot_of es) h))

-- a whole slice that is written back
pub written_back : (n : ℕ) (new old : List Entry) → n ≡ length old → length new ≡ length old → take n (new ++ drop (length new) old) ≡ new
written_back n new old size same =
    ap (λ (es : List Entry). take n (new ++ es)) none ∙ ap (λ (es : List Entry). take n es) (append-nil new) ∙ take_all n new (omega (arith, size, same))
  where
    nothing : (es : List Entry) → length es ≡ 0 → es ≡ []
    nothing [] h = refl
    nothing (e ∷ es) h = absurd (omega (arith, h))

    none : drop (length new) old ≡ []
    none = nothing (drop (length new) old) (omega (arith, same, length-drop (length new) old))

module _ (n len : ℕ) (read first sorted second done : List Entry) (slots : AreSlots n read) (ascends : Ascends (map slot_of read)) (size : len ≡ length read) (first_is : first ≡ read)
    (moved : IsPermutation first sorted) (in_order : AreSorted sorted) (second_is : second ≡ take len (sorted ++ drop (length sorted) read)) where
  sorted_long : length sorted ≡ length read
  sorted_long = length_permutation first sorted moved ∙ ap length first_is

  pub second_sorted : second ≡ sorted
  second_sorted = second_is ∙ written_back len sorted read size sorted_long

  pub reordered : map head_of done ≡ map head_of second → Sequenced n read sorted done
  reordered heads = record {
    slots = slots;
    ascends = ascends;
    moved = subst (λ (es : List Entry). IsPermutation es sorted) first_is moved;
    in_order = in_order;
    heads = heads ∙ ap (map head_of) second_sorted;
  }

  pub second_within : All (λ e. e.slot < n) second
  second_within =
      subst (λ (es : List Entry). All (λ e. e.slot < n) es) (sym second_sorted)
      (slots_below sorted n (sequenced_slots n read sorted sorted (record { slots = slots; ascends = ascends; moved = subst (λ (es : List Entry). IsPermutation es sorted) first_is moved; in_order = in_order; heads = refl })))

  pub last_done : map head_of done ≡ map head_of second → take len (done ++ drop (length done) (take len (sorted ++ drop (length sorted) read))) ≡ done
  last_done heads =
      let long : length done ≡ length second = sym (length-map done head_of) ∙ ap length heads ∙ length-map second head_of in
      written_back len done (take len (sorted ++ drop (length sorted) read))
      (omega (arith, ap length second_sorted, ap length second_is, sorted_long, size))
      (long ∙ ap length second_is)
