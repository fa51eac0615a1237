-- An answer that goes on in a further turn.
use Rattle.std.proofs.Common.{◌≡◌, inl, inr, ℕ, List, [], ◌∷◌, ◌++◌, Option, Some, None, Result, Ok, Err, length, refl, sym, ap, ◌∙◌, subst, append_assoc, append-nil}
use Rattle.std.specs.Prelude.{OnOk}
use mathlib.Core.List.{IsPrefix}
use Rattle.vdr_control.specs.Lines.{AsksFor}
use Rattle.vdr_control.specs.Orders.{PlainOrder}
use Rattle.vdr_desk.specs.Answers.{Answer, HasTold, IsBegun, ToldSoFar, seen_by, told_on}
use Rattle.vdr_desk.specs.Exchanges.{IsOrdered, IsSaid}

module _ {E R : Type 0} (answers : Answer E → Type 0) (waits : Answer E → R → Type 0) (from : ℕ) (order : PlainOrder) (seen history : List E) (text : List ℕ) (rest : R) (told : HasTold answers waits from order seen text (Some rest))
    (grows : IsPrefix seen history) where
  pub split : history ≡ seen_by told.answer ++ grows.0
  split = sym grows.1 ∙ ap (λ (xs : List E). xs ++ grows.0) told.seen_is

  -- the events up to its next turn
  joined : (a : Answer E) (later : List E) (e : E) → (seen_by a ++ later) ++ e ∷ [] ≡ a.before ++ a.own ∷ (a.during ++ (later ++ e ∷ []))
  joined a later e = ap (λ (xs : List E). xs ++ e ∷ []) (append_assoc a.before (a.own ∷ a.during) later) ∙ append_assoc a.before (a.own ∷ (a.during ++ later)) (e ∷ [])
      ∙ ap (λ (xs : List E). a.before ++ a.own ∷ xs) (append_assoc a.during later (e ∷ []))

  pub goes_on : (now : List E) (e : E) (piece : List ℕ) (left : Option R) → now ≡ history ++ e ∷ [] → ToldSoFar answers waits (told_on told.answer (grows.0 ++ e ∷ []) piece) left
      → HasTold answers waits from order now (text ++ piece) left
  goes_on now e piece left is so_far = record {
    answer = told_on told.answer (grows.0 ++ e ∷ []) piece;
    order_is = told.order_is;
    seen_is = is ∙ ap (λ (xs : List E). xs ++ e ∷ []) split ∙ joined told.answer grows.0 e;
    later = told.later;
    text_is = ap (λ (xs : List ℕ). xs ++ piece) told.text_is;
    so_far = so_far;
  }

-- a line that asked for an order, as it was answered over its link
module _ {E R : Type 0} (answers : Answer E → Type 0) (waits : Answer E → R → Type 0) (from : ℕ) (line : List ℕ) (order : PlainOrder) (seen : List E) (text : List ℕ) (asks : AsksFor line order) where
  ordered : (means : Answer E → Type 0) (left : Option R) → (told : HasTold answers waits from order seen text left) → means told.answer → IsOrdered means seen from (length seen) (record { line = Some line; text = text })
  ordered means left told is = record {
    line = line;
    answer = told.answer;
    behind = [];
    line_is = refl;
    asks = subst (AsksFor line) (sym told.order_is) asks;
    split = told.seen_is ∙ sym (append-nil (seen_by told.answer));
    later = told.later;
    next = ap length told.seen_is;
    text_is = sym told.text_is;
    answered = is;
  }

  pub said : {T F : Type 0} (left : Option R) (result : Result T F) → HasTold answers waits from order seen text left → OnOk result (left ≡ None)
      → IsSaid answers (IsBegun waits) seen from (length seen) (record { line = Some line; text = text }) result
  said None result told whole = inl (inl (ordered answers None told told.so_far))
  said (Some rest) (Ok x) told whole = let none : ⊥ = cc in absurd none
  said (Some rest) (Err e) told whole = inr (refl, ordered (IsBegun waits) (Some rest) told (rest, told.so_far))
