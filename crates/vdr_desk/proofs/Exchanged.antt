-- Exchanges, one after the other, in a history that grows.
use Rattle.std.proofs.Common.{◌≡◌, ◌≤◌, inl, inr, ℕ, List, [], ◌∷◌, ◌++◌, Option, IfSome, length, sym, ap, ◌∙◌, subst, arith, append_assoc}
use Rattle.std.proofs.lemmas.List.{length-append}
use mathlib.Core.List.{IsPrefix}
use Rattle.vdr_control.specs.Orders.{PlainOrder}
use Rattle.vdr_control.specs.Lines.{AsksFor}
use Rattle.vdr_desk.specs.Answers.{Answer, seen_by}
use Rattle.vdr_desk.specs.Exchanges.{AreExchanged, AreServed, Exchange, IsExchanged, IsOrdered, no_order_line}

pub prefix_long : {E : Type 0} (xs ys : List E) → IsPrefix xs ys → length xs ≤ length ys
prefix_long xs ys p = let l = length-append xs p.0 in let e = ap length p.1 in omega (arith, l, e)

pub prefix_join : {E : Type 0} (xs ys zs : List E) → IsPrefix xs ys → IsPrefix ys zs → IsPrefix xs zs
prefix_join xs ys zs p q = (p.0 ++ q.0, sym (append_assoc xs p.0 q.0) ∙ ap (λ (l : List _). l ++ q.0) p.1 ∙ q.1)

module _ {E : Type 0} (answers : Answer E → Type 0) where
  -- in a longer history
  ordered_on : (history longer : List E) (from to : ℕ) (x : Exchange) → IsPrefix history longer → IsOrdered answers history from to x → IsOrdered answers longer from to x
  ordered_on history longer from to x p o = record {
    line = o.line;
    answer = o.answer;
    behind = o.behind ++ p.0;
    line_is = o.line_is;
    asks = o.asks;
    split = sym p.1 ∙ ap (λ (l : List E). l ++ p.0) o.split ∙ append_assoc (seen_by o.answer) o.behind p.0;
    later = o.later;
    next = o.next;
    text_is = o.text_is;
    answered = o.answered;
  }

  exchanged_on : (history longer : List E) (from to : ℕ) (x : Exchange) → IsPrefix history longer → IsExchanged answers history from to x → IsExchanged answers longer from to x
  exchanged_on history longer from to x p (inl o) = inl (ordered_on history longer from to x p o)
  exchanged_on history longer from to x p (inr r) = inr r

  pub all_on : (history longer : List E) (from to : ℕ) (xs : List Exchange) → IsPrefix history longer → AreExchanged answers history from xs to → AreExchanged answers longer from xs to
  all_on history longer from to [] p h = h
  all_on history longer from to (x ∷ xs) p h = (h.0, exchanged_on history longer from h.0 x p h.1, all_on history longer h.0 to xs p h.2)

  -- from an earlier place on
  pub ordered_from : (history : List E) (first from to : ℕ) (x : Exchange) → first ≤ from → IsOrdered answers history from to x → IsOrdered answers history first to x
  ordered_from history first from to x low o = record {
    line = o.line;
    answer = o.answer;
    behind = o.behind;
    line_is = o.line_is;
    asks = o.asks;
    split = o.split;
    later = (let l = o.later in omega (arith, l, low));
    next = o.next;
    text_is = o.text_is;
    answered = o.answered;
  }

  exchanged_from : (history : List E) (first from to : ℕ) (x : Exchange) → first ≤ from → IsExchanged answers history from to x → IsExchanged answers history first to x
  exchanged_from history first from to x low (inl o) = inl (ordered_from history first from to x low o)
  exchanged_from history first from to x low (inr r) = inr (record { none = r.none; text_is = r.text_is; later = (let l = r.later in omega (arith, l, low)) })

  pub all_from : (history : List E) (first from to : ℕ) (xs : List Exchange) → first ≤ from → AreExchanged answers history from xs to → AreExchanged answers history first xs to
  all_from history first from to [] low h = omega (arith, low, h)
  all_from history first from to (x ∷ xs) low h = (h.0, exchanged_from history first from h.0 x low h.1, h.2)

  pub all_until : (history : List E) (from mid to : ℕ) (xs : List Exchange) → mid ≤ to → AreExchanged answers history from xs mid → AreExchanged answers history from xs to
  all_until history from mid to [] up h = omega (arith, up, h)
  all_until history from mid to (x ∷ xs) up h = (h.0, h.1, all_until history h.0 mid to xs up h.2)

  -- one more
  one_more : (history : List E) (from mid to : ℕ) (xs : List Exchange) (x : Exchange) → AreExchanged answers history from xs mid → IsExchanged answers history mid to x → AreExchanged answers history from (xs ++ x ∷ []) to
  one_more history from mid to [] x h e = (to, exchanged_from history from mid to x h e, omega arith)
  one_more history from mid to (y ∷ ys) x h e = (h.0, h.1, one_more history h.0 mid to ys x h.2 e)

  pub exchanged_more : (history longer : List E) (from : ℕ) (xs : List Exchange) (x : Exchange) → IsPrefix history longer → AreExchanged answers history from xs (length history)
      → IsExchanged answers longer (length history) (length longer) x → AreExchanged answers longer from (xs ++ x ∷ []) (length longer)
  exchanged_more history longer from xs x p h e = one_more longer from (length history) (length longer) xs x (all_on history longer from (length history) xs p h) e

-- what was served, in a longer history, and from an earlier place on
module _ {E : Type 0} (answers begins : Answer E → Type 0) (failed : Type 0) where
  pub served_later : (history longer : List E) (first from : ℕ) (xs : List Exchange) → IsPrefix history longer → first ≤ from
      → AreServed answers begins history failed from xs (length history) → AreServed answers begins longer failed first xs (length longer)
  served_later history longer first from xs p low (inl h) =
      inl (all_until answers longer first (length history) (length longer) xs (prefix_long history longer p)
      (all_from answers longer first from (length history) xs low (all_on answers history longer from (length history) xs p h)))
  served_later history longer first from xs p low (inr h) =
      let e = h.1 in
      let l = prefix_long history longer p in
      inr (
        h.0,
        record {
          front = e.front;
          last = e.last;
          are = e.are;
          mid = e.mid;
          end = e.end;
          answered = all_from answers longer first from e.mid e.front low (all_on answers history longer from e.mid e.front p e.answered);
          begun = ordered_on begins history longer e.mid e.end e.last p e.begun;
          until = (let u = e.until in omega (arith, u, l));
        },
      )

-- what is refused takes no turn
pub refused_at : {E : Type 0} (answers : Answer E → Type 0) (history : List E) (line : Option (List ℕ)) (text : List ℕ)
    → IfSome line (λ line. (order : PlainOrder) → AsksFor line order → ⊥) → text ≡ no_order_line → IsExchanged answers history (length history) (length history) (record { line = line; text = text })
refused_at answers history line text none is = inr (record { none = none; text_is = is; later = omega arith })

-- The same answer in another history, whose events stand at the same places.
pub record Stands {E F : Type 0} (a : Answer E) (b : Answer F) (events : List F) : Type 0 where
  pub order : b.order ≡ a.order
  pub text : b.text ≡ a.text
  pub early : length b.before ≡ length a.before
  pub late : length (seen_by b) ≡ length (seen_by a)
  pub behind : List F
  pub split : events ≡ seen_by b ++ behind

module _ {E F : Type 0} (over : Answer E → Answer F) (history : List E) (events : List F) (at : (a : Answer E) (behind : List E) → history ≡ seen_by a ++ behind → Stands a (over a) events) where
  module _ (answers : Answer E → Type 0) (means : Answer F → Type 0) (so : (a : Answer E) (behind : List E) → history ≡ seen_by a ++ behind → answers a → means (over a)) where
    ordered_so : (from to : ℕ) (x : Exchange) → IsOrdered answers history from to x → IsOrdered means events from to x
    ordered_so from to x o =
        let p = at o.answer o.behind o.split in
        let early = p.early in
        record {
          line = o.line;
          answer = over o.answer;
          behind = p.behind;
          line_is = o.line_is;
          asks = subst (AsksFor o.line) (sym p.order) o.asks;
          split = p.split;
          later = (let l = o.later in omega (arith, l, early));
          next = o.next ∙ sym p.late;
          text_is = o.text_is ∙ sym p.text;
          answered = so o.answer o.behind o.split o.answered;
        }

    exchanged_so : (from to : ℕ) (x : Exchange) → IsExchanged answers history from to x → IsExchanged means events from to x
    exchanged_so from to x (inl o) = inl (ordered_so from to x o)
    exchanged_so from to x (inr r) = inr r

    pub all_so : (from to : ℕ) (xs : List Exchange) → AreExchanged answers history from xs to → AreExchanged means events from xs to
    all_so from to [] h = h
    all_so from to (x ∷ xs) h = (h.0, exchanged_so from h.0 x h.1, all_so h.0 to xs h.2)

  pub served_so : (answers begins : Answer E → Type 0) (means goes : Answer F → Type 0) (failed : Type 0)
      → ((a : Answer E) (behind : List E) → history ≡ seen_by a ++ behind → answers a → means (over a))
      → ((a : Answer E) (behind : List E) → history ≡ seen_by a ++ behind → begins a → goes (over a))
      → (from to : ℕ) (xs : List Exchange) → AreServed answers begins history failed from xs to → AreServed means goes events failed from xs to
  served_so answers begins means goes failed so begun from to xs (inl h) = inl (all_so answers means so from to xs h)
  served_so answers begins means goes failed so begun from to xs (inr h) =
      let e = h.1 in
      inr (
        h.0,
        record {
          front = e.front;
          last = e.last;
          are = e.are;
          mid = e.mid;
          end = e.end;
          answered = all_so answers means so from e.mid e.front e.answered;
          begun = ordered_so begins goes begun e.mid e.end e.last e.begun;
          until = e.until;
        },
      )

-- up to a later place
pub served_until : {E : Type 0} (answers begins : Answer E → Type 0) (failed : Type 0) (history : List E) (from mid to : ℕ) (xs : List Exchange) → mid ≤ to
    → AreServed answers begins history failed from xs mid → AreServed answers begins history failed from xs to
served_until answers begins failed history from mid to xs up (inl h) = inl (all_until answers history from mid to xs up h)
served_until answers begins failed history from mid to xs up (inr h) =
    let e = h.1 in
    inr (
      h.0,
      record {
        front = e.front;
        last = e.last;
        are = e.are;
        mid = e.mid;
        end = e.end;
        answered = e.answered;
        begun = e.begun;
        until = (let u = e.until in omega (arith, u, up));
      },
    )
