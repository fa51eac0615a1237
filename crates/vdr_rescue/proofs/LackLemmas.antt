-- The places that lack, one segment after another.
use Rattle.std.proofs.Common.{◌≡◌, ◌<◌, ◌≤◌, ◌+◌, ℕ, Bool, List, [], ◌∷◌, ◌++◌, length, drop, get_or, is_some, Option, refl, sym, ap, ◌∙◌, append_assoc, add-one, drop-cons}
use Rattle.std.proofs.lemmas.List.{drop_all}
use Rattle.vdr_rescue.specs.declared.fronts.Head.{Head}
use Rattle.vdr_rescue.specs.declared.lacking.Before.{Before}
use Rattle.vdr_rescue.specs.declared.lacking.Owed.{Owed}
use Rattle.vdr_rescue.specs.declared.lacking.Places.{Places}
use Rattle.vdr_rescue.specs.declared.told.Told.{Told}
use Rattle.vdr_rescue.specs.Lacking.{as_list, before_next, greatest, lacks_at, lacks_behind, missing}

pub drop_here : {X : Type 0} (xs : List X) (i : ℕ) (d : X) → i < length xs → drop i xs ≡ get_or xs i d ∷ drop (i + 1) xs
drop_here {X} xs i d lt = drop-cons xs i d lt ∙ ap (λ (n : ℕ). get_or xs i d ∷ drop n xs) (sym (add-one i))

module _ (o : Owed) (pins : List Places) where
  pub missing_end : (before : Option Before) (beside : Bool) (hs : List Head) → missing o pins before beside hs [] ≡ as_list (lacks_behind o pins before (greatest pins))
  missing_end before beside [] = refl
  missing_end before beside (h ∷ hs) = refl

  module _ (heads : List Head) (told : List Told) (gaps : List Places) (before : Option Before) (beside : Bool) where
    pub missing_more : (i : ℕ) (d : Head) (e : Told) (whole next : List Places) → i < length heads → i < length told
        → whole ≡ gaps ++ missing o pins before beside (drop i heads) (drop i told)
        → next ≡ gaps ++ as_list (lacks_at o pins before beside (get_or heads i d) (get_or told i e).fault (get_or told i e).run)
        → (after : Option Before) (then : Bool) → after ≡ before_next before (get_or heads i d) (get_or told i e).fault (get_or told i e).run → then ≡ is_some (get_or told i e).run
        → whole ≡ next ++ missing o pins after then (drop (i + 1) heads) (drop (i + 1) told)
    missing_more i d e whole next in_heads in_told so is after then after_is then_is =
        let h : Head = get_or heads i d in
        let t : Told = get_or told i e in
        let later : List Places = missing o pins (before_next before h t.fault t.run) (is_some t.run) (drop (i + 1) heads) (drop (i + 1) told) in
        so ∙ ap (λ (hs : List Head). gaps ++ missing o pins before beside hs (drop i told)) (drop_here heads i d in_heads)
        ∙ ap (λ (ts : List Told). gaps ++ missing o pins before beside (h ∷ drop (i + 1) heads) ts) (drop_here told i e in_told)
        ∙ sym (append_assoc gaps (as_list (lacks_at o pins before beside h t.fault t.run)) later)
        ∙ ap (λ (gs : List Places). gs ++ later) (sym is)
        ∙ ap (λ (b : Option Before). next ++ missing o pins b (is_some t.run) (drop (i + 1) heads) (drop (i + 1) told)) (sym after_is)
        ∙ ap (λ (b : Bool). next ++ missing o pins after b (drop (i + 1) heads) (drop (i + 1) told)) (sym then_is)

    pub missing_done : (i : ℕ) (whole last : List Places) → length told ≤ i → whole ≡ gaps ++ missing o pins before beside (drop i heads) (drop i told)
        → last ≡ gaps ++ as_list (lacks_behind o pins before (greatest pins)) → last ≡ whole
    missing_done i whole last past so is =
        is ∙ ap (λ (gs : List Places). gaps ++ gs) (sym (missing_end before beside (drop i heads)))
        ∙ ap (λ (ts : List Told). gaps ++ missing o pins before beside (drop i heads) ts) (sym (drop_all i told past)) ∙ sym so
