-- One more part of an image that is listed, and the lines of the list.
use Rattle.std.proofs.Common.{◌≡◌, ◌∙◌, ◌++◌, ℕ, ℤ, List, [], ◌∷◌, length, get_or, position, Option, Some, refl, sym, ap, subst, arith, append-nil, append_assoc, unwrap_or}
use Rattle.std.specs.Map.{keys_of, lookup}
use Rattle.std.specs.Io.KnownBytes.{Appends}
use Rattle.std.proofs.KnownBytes.{Appends-nil, Appends-trans}
use Rattle.std.proofs.lemmas.Grind.{flat_map-append}
use Rattle.indexmap.specs.IndexMap.{insert_entry, set_value_at}
use Rattle.indexmap.proofs.MapLemmas.{Found-position, insert_entry-first}
use Rattle.vdr_outside.specs.Writes.{AppendsFront}
use Rattle.vdr_outside.proofs.Known.{front-more}
use Rattle.vdr_image.specs.Headers.{Header}
use Rattle.vdr_export.specs.Listings.{Listed, Listing, block_of, listed_as, listed_text, listing_text, same_block, unseen, with_part}
use Rattle.vdr_export.specs.declared.block.Block.{Block}

-- Six bytes, one after another.
pub six_of : (xs : List ℕ) → length xs ≡ 6 → get_or xs 0 0 ∷ get_or xs 1 0 ∷ get_or xs 2 0 ∷ get_or xs 3 0 ∷ get_or xs 4 0 ∷ get_or xs 5 0 ∷ [] ≡ xs
six_of [] is = let no : ⊥ = omega (arith, is) in absurd no
six_of (a ∷ []) is = let no : ⊥ = omega (arith, is) in absurd no
six_of (a ∷ b ∷ []) is = let no : ⊥ = omega (arith, is) in absurd no
six_of (a ∷ b ∷ c ∷ []) is = let no : ⊥ = omega (arith, is) in absurd no
six_of (a ∷ b ∷ c ∷ d ∷ []) is = let no : ⊥ = omega (arith, is) in absurd no
six_of (a ∷ b ∷ c ∷ d ∷ e ∷ []) is = let no : ⊥ = omega (arith, is) in absurd no
six_of (a ∷ b ∷ c ∷ d ∷ e ∷ f ∷ []) is = refl
six_of (a ∷ b ∷ c ∷ d ∷ e ∷ f ∷ g ∷ xs) is = let no : ⊥ = omega (arith, is) in absurd no

-- The image stands at this index.
pub met : (es now : Listing) (k : Block) (h : Header) (utc : ℤ) (at : ℕ) (old new : Listed) → es ≡ now → k ≡ block_of h → position (same_block k) (keys_of es) ≡ Some at → lookup (same_block k) es ≡ Some old
    → new ≡ with_part h old → set_value_at es at new ≡ insert_entry same_block now (block_of h) (with_part h (listed_as now utc h))
met es now k h utc at old new view own found there put =
    let same : lookup (same_block (block_of h)) now ≡ Some old = sym (λ i. lookup (same_block (own i)) (view i)) ∙ there in
    let is : new ≡ with_part h (listed_as now utc h) = put ∙ ap (λ (o : Option Listed). with_part h (unwrap_or o (unseen utc h))) (sym same) in
    sym (insert_entry-first same_block k new es at (Found-position (same_block k) es at found).first) ∙ (λ i. insert_entry same_block (view i) (own i) (is i))

-- The lines of the first images stand in the output, and these are left.
pub record IsOnWay (a b : Option (List ℕ)) (all rest : Listing) : Type 0 where
  pub done : Listing
  pub split : all ≡ done ++ rest
  pub written : Appends a b (listing_text done)

pub way_start : (a : Option (List ℕ)) (all rest : Listing) → rest ≡ all → IsOnWay a a all rest
way_start a all rest is = record { done = []; split = sym is; written = Appends-nil a }

module _ (a b c : Option (List ℕ)) (all rest next : Listing) (row : Block × Listed) (is : rest ≡ row ∷ next) (h : IsOnWay a b all rest) where
  pub row_front : AppendsFront b c (listed_text row) → AppendsFront a c (listing_text all)
  row_front p = front-more a b c (listing_text h.done) (listed_text row) (listing_text next) (listing_text all)
      (ap listing_text (h.split ∙ ap (λ (l : Listing). h.done ++ l) is) ∙ flat_map-append listed_text h.done (row ∷ next)) h.written p

  pub row_next : Appends b c (listed_text row) → IsOnWay a c all next
  row_next p = record {
    done = h.done ++ row ∷ [];
    split = h.split ∙ ap (λ (l : Listing). h.done ++ l) is ∙ sym (append_assoc h.done (row ∷ []) next);
    written = subst (λ (l : List ℕ). Appends a c l) (sym (flat_map-append listed_text h.done (row ∷ []) ∙ ap (λ (l : List ℕ). listing_text h.done ++ l) (append-nil (listed_text row))))
        (Appends-trans a b c (listing_text h.done) (listed_text row) h.written p);
  }

pub way_end : (a b : Option (List ℕ)) (all rest : Listing) → rest ≡ [] → IsOnWay a b all rest → Appends a b (listing_text all)
way_end a b all rest none h = subst (λ (l : Listing). Appends a b (listing_text l)) (sym (h.split ∙ ap (λ (l : Listing). h.done ++ l) none ∙ append-nil h.done)) h.written
