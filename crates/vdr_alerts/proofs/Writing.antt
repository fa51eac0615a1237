-- Texts that are written in two parts.
use Rattle.std.proofs.Common.{◌≡◌, ◌∙◌, ℕ, List, [], ◌∷◌, ◌++◌, codes, decimal, Option, Result, OnOk, sym, ap, subst}
use Rattle.std.specs.List.{concat}
use Rattle.std.specs.Io.KnownBytes.{Appends}
use Rattle.std.proofs.KnownBytes.{Appends-trans}
use Rattle.std.proofs.lemmas.List.{append-nil}
use Rattle.std.proofs.lemmas.Result.{on_ok_weaker}
use Rattle.vdr_outside.specs.Writes.{AppendsFront}
use Rattle.vdr_outside.proofs.Known.{front-more}
use Rattle.vdr_terms.specs.Groups.{group_name}
use Rattle.vdr_entry.specs.Utc.{utc_text}
use Rattle.vdr_play.proofs.Fronts.{front-first}
use Rattle.vdr_durability.specs.Sources.{Source}
use Rattle.vdr_alerts.specs.Lines.{Mark, front_text}

module _ (old between new : Option (List ℕ)) (first second text : List ℕ) (is : text ≡ first ++ second) where
  -- The first part was not written whole.
  pub first_front : AppendsFront old between first → AppendsFront old between text
  first_front f = front-first old between first second text is f

  module _ (written : Appends old between first) where
    pub both_all : {T E : Type 0} (result : Result T E) → OnOk result (Appends between new second) → OnOk result (Appends old new text)
    both_all result all = on_ok_weaker result (λ a. subst (λ (xs : List ℕ). Appends old new xs) (sym is) (Appends-trans old between new first second written a)) all

    pub both_front : AppendsFront between new second → AppendsFront old new text
    both_front f = front-more old between new first second [] text (is ∙ ap (λ (xs : List ℕ). first ++ xs) (sym (append-nil second))) written f

pub front_is : (m : Mark) (word : List ℕ) (source : Source) (place utc group : List ℕ) → place ≡ decimal m.place → utc ≡ utc_text m.utc → group ≡ group_name source.group
    → front_text m word source ≡ concat (place ∷ codes " " ∷ utc ∷ word ∷ group ∷ codes " " ∷ source.name ∷ codes " " ∷ [])
unfolding front_text
front_is m word source place utc group p u g = λ i. concat (sym p i ∷ codes " " ∷ sym u i ∷ word ∷ sym g i ∷ codes " " ∷ source.name ∷ codes " " ∷ [])
