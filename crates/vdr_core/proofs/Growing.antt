-- A history with one more event is one.
use Rattle.std.proofs.Common.{◌≡◌, ◌≢◌, ℕ, suc, List, [], ◌∷◌, ◌++◌, All, Option, Some, None, refl, sym, ◌∙◌, subst, append_assoc, append-nil}
use Rattle.std.proofs.lemmas.List.Elements.{All-head, All-tail, All-nil, All-cons}
use Rattle.vdr_terms.specs.Channels.{Channels}
use Rattle.vdr_terms.specs.Records.{Record}
use Rattle.vdr_terms.specs.Order.{RunOn}
use Rattle.vdr_core.specs.Histories.{Act, Continues, Event, Opening, MayCome, OnlyLooks, EndsBy, PendingEnds, MayFollow, IsHistory}
use Rattle.vdr_core.specs.Histories.Act.{Look}

follow_with : (opening : Opening) (before events : List Event) (e : Event) → MayFollow opening before events → MayCome opening (before ++ events) e.act → MayFollow opening before (events ++ e ∷ [])
follow_with opening before [] e h may = (subst (λ (es : List Event). MayCome opening es e.act) (append-nil before) may, tt)
follow_with opening before (x ∷ xs) e (here, more) may =
    (here, follow_with opening (before ++ x ∷ []) xs e more (subst (λ (es : List Event). MayCome opening es e.act) (sym (append_assoc before (x ∷ []) xs)) may))

pub looks_with : (events : List Event) (e : Event) → OnlyLooks events → e.act ≡ Look → e.moment ≡ None → OnlyLooks (events ++ e ∷ [])
looks_with [] e h act moment = (act, moment, tt)
looks_with (x ∷ xs) e (a, b, more) act moment = (a, b, looks_with xs e more act moment)

pub ends_whole : (o : Option ℕ) (act : Act) (later : List Event) (Rest : Type 0) → o ≢ None → Rest → EndsBy o act later Rest
ends_whole None act later Rest some h = absurd (some refl)
ends_whole (Some m) act later Rest some h = h

-- one more after events that all have a moment: it has one, or it is pending and no look
pending_with : (events : List Event) (e : Event) → All (λ e. e.moment ≢ None) events → EndsBy e.moment e.act [] (Unit {0}) → PendingEnds (events ++ e ∷ [])
pending_with [] e whole h = h
pending_with (x ∷ xs) e whole h = ends_whole x.moment x.act (xs ++ e ∷ []) (PendingEnds (xs ++ e ∷ []))
    (All-head (λ e. e.moment ≢ None) x xs whole) (pending_with xs e (All-tail (λ e. e.moment ≢ None) x xs whole) h)

pub ends_look : (o : Option ℕ) (act : Act) (later : List Event) (e : Event) (Before After : Type 0) → ((m : ℕ) → o ≡ Some m → Before → After) → e.act ≡ Look → e.moment ≡ None
    → EndsBy o act later Before → EndsBy o act (later ++ e ∷ []) After
ends_look None act later e Before After f looks none (distinct, only) = (distinct, looks_with later e only looks none)
ends_look (Some m) act later e Before After f looks none h = f m refl h

-- one more look, where some event has no moment
pending_looks : (events : List Event) (e : Event) → PendingEnds events → (All (λ e. e.moment ≢ None) events → ⊥) → e.act ≡ Look → e.moment ≡ None → PendingEnds (events ++ e ∷ [])
pending_looks [] e h broken looks none = absurd (broken (All-nil (λ (e : Event). e.moment ≢ None)))
pending_looks (x ∷ xs) e h broken looks none =
    ends_look x.moment x.act xs e (PendingEnds xs) (PendingEnds (xs ++ e ∷ []))
    (λ m has k. pending_looks xs e k (λ whole. broken (All-cons (λ (e : Event). e.moment ≢ None) x xs (λ lost. clash m (sym has ∙ lost)) whole)) looks none)
    looks none h
  where
    clash : (m : ℕ) → Some m ≡ None → ⊥
    clash m e = cc

pub history_grows : (opening : Opening) (events : List Event) (e : Event) → IsHistory opening events → All (λ e. e.moment ≢ None) events → MayCome opening events e.act
    → EndsBy e.moment e.act [] (Unit {0}) → IsHistory opening (events ++ e ∷ [])
history_grows opening events e h whole may ends = record {
  follow = follow_with opening [] events e h.follow may;
  pending = pending_with events e whole ends;
}

-- a look after a pending event
pub history_looks : (opening : Opening) (events : List Event) (e : Event) → IsHistory opening events → (All (λ e. e.moment ≢ None) events → ⊥) → e.act ≡ Look → e.moment ≡ None
    → IsHistory opening (events ++ e ∷ [])
history_looks opening events e h broken looks none = record {
  follow = follow_with opening [] events e h.follow (subst (λ (act : Act). MayCome opening events act) (sym looks) tt);
  pending = pending_looks events e h.pending broken looks none;
}

-- The places of records that continue a history run on.
pub continues_run : (channels : Channels) (place : ℕ) (rs : List Record) → Continues channels place rs → RunOn place rs
continues_run channels place [] h = tt
continues_run channels place (r ∷ rs) (e, bits, more) = (e, continues_run channels (suc place) rs more)
