-- The parts that are kept, as one more is placed.
use Rattle.std.proofs.Common.{◌≡◌, ◌<◌, ◌+◌, ◌++◌, drop, drop-cons, arith, append-nil, ℕ, zero, suc, List, [], ◌∷◌, length, map, get_or, set, replicate, Bool, true, false, not, Option, Some, None, refl, sym, ap, ◌∙◌, subst}
use Rattle.std.specs.List.{cons_option}
use Rattle.std.specs.Prelude.{is_none, is_some, option_map, if◌then◌else◌}
use Rattle.std.specs.declared.alloc.Global.{Global}
use Rattle.std.specs.declared.vec.Vec.{Vec}
use Rattle.std.proofs.lemmas.List.{get_or-map, length-replicate, map-set}
use Rattle.std.proofs.lemmas.List.Elements.{filter_map-append}
use Rattle.vdr_terms.specs.Records.{Record}
use Rattle.vdr_image.specs.declared.header.ImageHeader.{ImageHeader}
use Rattle.vdr_export.specs.Answers.{first_missing}
use Rattle.vdr_export.specs.Collected.{room_for}
use Rattle.vdr_export.specs.Kept.{kept, shown_as}
use Rattle.vdr_export.specs.Pictures.{Shown, shown, shown_in}
use Rattle.vdr_export.specs.declared.block.Block.{Block}

kept_none : (o : Option (Vec ℕ Global)) → is_none (kept o) ≡ is_none o
kept_none None = refl
kept_none (Some v) = refl

was_none : (o : Option (Vec ℕ Global)) (b : Bool) → is_some o ≡ not b → b ≡ true → is_none o ≡ true
was_none None b some none = refl
was_none (Some v) true some none = let no : ⊥ = cc in absurd no
was_none (Some v) false some none = let no : ⊥ = cc in absurd no

pub placed : (items : List (Option (Vec ℕ Global))) (k : ℕ) (v : Vec ℕ Global) (body : List ℕ) (d : Option (Vec ℕ Global)) (b : Bool) → k < length items → is_some (get_or items k d) ≡ not b → b ≡ true → v.items ≡ body
    → map kept (set items k (Some v)) ≡ (if is_none (get_or (map kept items) k None) then set (map kept items) k (Some body) else map kept items)
placed items k v body d b within some none is =
    let there : is_none (get_or (map kept items) k None) ≡ true = ap (λ (o : Option (List ℕ)). is_none o) (get_or-map kept items k d None within) ∙ kept_none (get_or items k d) ∙ was_none (get_or items k d) b some none in
    map-set kept items k (Some v) ∙ ap (λ (l : List ℕ). set (map kept items) k (Some l)) is
    ∙ sym (ap (λ (b : Bool). if b then set (map kept items) k (Some body) else map kept items) there)

none_kept : (n : ℕ) → map kept (replicate n None) ≡ replicate n None
none_kept zero = refl
none_kept (suc n) = ap (λ (l : List (Option (List ℕ))). None ∷ l) (none_kept n)

pub roomy : (items made : List (Option (Vec ℕ Global))) (n : ℕ) → length items ≡ 0 → made ≡ replicate n None → (map kept made ≡ room_for n (map kept items)) × (length (map kept made) ≡ n)
roomy [] made n none is = (ap (map kept) is ∙ none_kept n, ap (λ (l : List (Option (Vec ℕ Global))). length (map kept l)) is ∙ ap (λ (l : List (Option (List ℕ))). length l) (none_kept n) ∙ length-replicate n None)
roomy (x ∷ items) made n none is = let no : ⊥ = cc in absurd no

-- The parts that are shown once there is one more record.
pub shown_some : (P : List Shown → Type 0) (block : Block) (seen : List Record) (r : Record) (p : Shown) → shown_in block r ≡ Some p → P (shown block seen ++ p ∷ []) → P (shown block (seen ++ r ∷ []))
shown_some P block seen r p is holds = subst P (sym (filter_map-append (shown_in block) seen (r ∷ []) ∙ ap (λ (o : Option Shown). shown block seen ++ cons_option o []) is)) holds

pub shown_none : (P : List Shown → Type 0) (block : Block) (seen : List Record) (r : Record) → shown_in block r ≡ None → P (shown block seen) → P (shown block (seen ++ r ∷ []))
shown_none P block seen r is holds = subst P (sym (filter_map-append (shown_in block) seen (r ∷ []) ∙ ap (λ (o : Option Shown). shown block seen ++ cons_option o []) is ∙ append-nil (shown block seen))) holds

pub shown_so : (block own : Block) (r : Record) (read was : Option ImageHeader) → option_map (shown_as r.place) read ≡ shown_in own r → own ≡ block → read ≡ was → shown_in block r ≡ option_map (shown_as r.place) was
shown_so block own r read was reads same is = ap (λ (b : Block). shown_in b r) (sym same) ∙ sym reads ∙ ap (λ (o : Option ImageHeader). option_map (shown_as r.place) o) is

next : (i : ℕ) → suc i ≡ i + 1
next i = omega arith

-- The next one is missing, or it is not.
pub missing_here : (n : ℕ) (parts : List (Option (List ℕ))) (i : ℕ) (d : Option (List ℕ)) → i < length parts → is_none (get_or parts i d) ≡ true → first_missing n (drop i parts) ≡ Some n
missing_here n parts i d low none = ap (first_missing n) (drop-cons parts i d low ∙ ap (λ (k : ℕ). get_or parts i d ∷ drop k parts) (next i)) ∙ go (get_or parts i d) none
  where
    go : (o : Option (List ℕ)) → is_none o ≡ true → first_missing n (o ∷ drop (i + 1) parts) ≡ Some n
    go None e = refl
    go (Some b) e = let no : ⊥ = cc in absurd no

pub missing_on : (n : ℕ) (parts : List (Option (List ℕ))) (i : ℕ) (d : Option (List ℕ)) → i < length parts → is_none (get_or parts i d) ≡ false → first_missing n (drop i parts) ≡ first_missing (n + 1) (drop (i + 1) parts)
missing_on n parts i d low some = ap (first_missing n) (drop-cons parts i d low ∙ ap (λ (k : ℕ). get_or parts i d ∷ drop k parts) (next i)) ∙ go (get_or parts i d) some
  where
    go : (o : Option (List ℕ)) → is_none o ≡ false → first_missing n (o ∷ drop (i + 1) parts) ≡ first_missing (n + 1) (drop (i + 1) parts)
    go None e = let no : ⊥ = cc in absurd no
    go (Some b) e = refl

pub is_missing : (item : Option (Vec ℕ Global)) (b : Bool) (part : Option (List ℕ)) → part ≡ kept item → is_some item ≡ not b → b ≡ true → is_none part ≡ true
is_missing item b part is some none = ap (λ (o : Option (List ℕ)). is_none o) is ∙ kept_none item ∙ was_none item b some none

pub not_missing : (item : Option (Vec ℕ Global)) (b : Bool) (part : Option (List ℕ)) → part ≡ kept item → is_some item ≡ not b → b ≡ false → is_none part ≡ false
not_missing None true part is some e = let clash : ⊥ = cc in absurd clash
not_missing None false part is some e = let clash : ⊥ = cc in absurd clash
not_missing (Some v) b part is some e = ap (λ (o : Option (List ℕ)). is_none o) is
