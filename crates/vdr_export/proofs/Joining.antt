-- The parts are written one after another.
use Rattle.std.proofs.Common.{◌≡◌, ◌<◌, ◌+◌, ◌++◌, ℕ, List, [], ◌∷◌, length, map, get_or, take, Option, None, sym, ap, ◌∙◌, subst, append-nil}
use Rattle.std.specs.List.{flat_map}
use Rattle.std.specs.declared.alloc.Global.{Global}
use Rattle.std.specs.declared.vec.Vec.{Vec}
use Rattle.std.proofs.lemmas.List.{get_or-map, length-map, take_more}
use Rattle.std.proofs.lemmas.Grind.{flat_map-append}
use Rattle.std.proofs.KnownBytes.{Appends-trans}
use Rattle.std.specs.Io.KnownBytes.{Appends}
use Rattle.vdr_outside.specs.Writes.{AppendsFront}
use Rattle.vdr_outside.proofs.Known.{front-more, pieces-at}
use Rattle.vdr_export.specs.Answers.{data_of}
use Rattle.vdr_export.specs.Kept.{kept}

-- What is kept at an index.
pub kept_at : (items shown : List (Option (Vec ℕ Global))) (parts : List (Option (List ℕ))) → map kept items ≡ parts → shown ≡ items → (i : ℕ) (item : Option (Vec ℕ Global)) → i < length shown → item ≡ get_or shown i item
    → (i < length parts) × (get_or parts i None ≡ kept item)
kept_at items shown parts are same i item low is = (
  subst (λ (n : ℕ). i < n) (ap (λ (l : List (Option (Vec ℕ Global))). length l) same ∙ sym (length-map items kept) ∙ ap (λ (l : List (Option (List ℕ))). length l) are) low,
  ap (λ (l : List (Option (List ℕ))). get_or l i None) (sym are) ∙ ap (λ (l : List (Option (Vec ℕ Global))). get_or (map kept l) i None) (sym same)
      ∙ get_or-map kept shown i item None low ∙ ap kept (sym is),
)

module _ (a b c : Option (List ℕ)) (parts : List (Option (List ℕ))) (i : ℕ) (part : Option (List ℕ)) (low : i < length parts) (is : get_or parts i None ≡ part)
    (before : Appends a b (flat_map data_of (take i parts))) where
  pub part_front : AppendsFront b c (data_of part) → AppendsFront a c (flat_map data_of parts)
  part_front p = front-more a b c (flat_map data_of (take i parts)) (data_of (get_or parts i None)) _ (flat_map data_of parts) (pieces-at data_of parts i None low) before
      (subst (λ (o : Option (List ℕ)). AppendsFront b c (data_of o)) (sym is) p)

  pub part_next : Appends b c (data_of part) → Appends a c (flat_map data_of (take (i + 1) parts))
  part_next p = subst (λ (l : List ℕ). Appends a c l) (sym more) (Appends-trans a b c (flat_map data_of (take i parts)) (data_of part) before p)
    where
      more : flat_map data_of (take (i + 1) parts) ≡ flat_map data_of (take i parts) ++ data_of part
      more = ap (flat_map data_of) (take_more parts i None low) ∙ flat_map-append data_of (take i parts) (get_or parts i None ∷ [])
          ∙ ap (λ (l : List ℕ). flat_map data_of (take i parts) ++ l) (append-nil (data_of (get_or parts i None)) ∙ ap data_of is)
