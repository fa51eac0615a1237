-- Lines that a link gave and what they were answered, in a history of events (this project's profile).
use Rattle.std.specs.Prelude.{◌≡◌, ◌≤◌, ◌⊎◌, ℕ, List, [], ◌∷◌, ◌++◌, length, codes, flat_map, Option, Some, IfSome, Result, IsErr}
use Rattle.vdr_control.specs.Orders.{PlainOrder}
use Rattle.vdr_control.specs.Lines.{AsksFor}
use Rattle.vdr_desk.specs.Answers.{Answer, seen_by}

-- The line asks for nothing.
abbrev pub no_order_line : List ℕ
no_order_line = codes "REFUSED 2\n"

-- A line, without its end; None for one that was too long. And the text that it was answered.
pub record Exchange : Type 0 where
  pub line : Option (List ℕ)
  pub text : List ℕ

-- All that was answered.
abbrev pub texts_of : List Exchange → List ℕ
texts_of exchanges = flat_map (λ x. x.text) exchanges

-- It asks for no order, and was answered that.
pub record IsRefused (from to : ℕ) (x : Exchange) : Type 0 where
  pub none : IfSome x.line (λ line. (order : PlainOrder) → AsksFor line order → ⊥)
  pub text_is : x.text ≡ no_order_line
  pub later : from ≤ to

module _ {E : Type 0} (answers : Answer E → Type 0) (history : List E) where
  -- It asks for an order, which is one event of the history, at this place or behind it. The last turn of its answer is the last event that
  -- was seen as it was answered.
  pub record IsOrdered (from to : ℕ) (x : Exchange) : Type 0 where
    pub line : List ℕ
    pub answer : Answer E
    pub behind : List E
    pub line_is : x.line ≡ Some line
    pub asks : AsksFor line answer.order
    pub split : history ≡ seen_by answer ++ behind
    pub later : from ≤ length answer.before
    pub next : to ≡ length (seen_by answer)
    pub text_is : x.text ≡ answer.text
    pub answered : answers answer

  abbrev pub IsExchanged : (from to : ℕ) → Exchange → Type 0
  IsExchanged from to x = IsOrdered from to x ⊎ IsRefused from to x

  -- One after the other, their events at rising places.
  abbrev pub AreExchanged : (from : ℕ) → List Exchange → (to : ℕ) → Type 0
  AreExchanged from [] to = from ≤ to
  AreExchanged from (x ∷ xs) to = (mid : ℕ) × IsExchanged from mid x × AreExchanged mid xs to

module _ {E : Type 0} (answers begins : Answer E → Type 0) (history : List E) where
  -- It was answered, or only begun where a call of the link failed.
  abbrev pub IsSaid : {T F : Type 0} → (from to : ℕ) → Exchange → Result T F → Type 0
  IsSaid from to x result = IsExchanged answers history from to x ⊎ (IsErr result × IsOrdered begins history from to x)

  -- All are answered but the last, an order whose answer was only begun.
  pub record EndBegun (from : ℕ) (exchanges : List Exchange) (to : ℕ) : Type 0 where
    pub front : List Exchange
    pub last : Exchange
    pub are : exchanges ≡ front ++ last ∷ []
    pub mid : ℕ
    pub end : ℕ
    pub answered : AreExchanged answers history from front mid
    pub begun : IsOrdered begins history mid end last
    pub until : end ≤ to

  -- All are answered; or all but the last, which was only begun, since its link failed.
  abbrev pub AreServed : (failed : Type 0) → (from : ℕ) → List Exchange → (to : ℕ) → Type 0
  AreServed failed from exchanges to = AreExchanged answers history from exchanges to ⊎ (failed × EndBegun from exchanges to)
