-- The text of a query.
use Rattle.std.proofs.Common.{◌≡◌, ◌≤◌, ◌<◌, ◌+◌, ◌-◌, ℕ, ℤ, pos, int_le, unsigned_abs, Bool, true, false, List, ◌∷◌, ◌++◌, length, take, drop, Option, None, Some, refl, ap, ◌∙◌, sym, subst, append_assoc, arith, length-append, bytes_eq, codes, true≢false, ◌&&◌, not, if◌then◌else◌}
use Rattle.std.proofs.lemmas.Bool.{and_from, le-leb}
use Rattle.std.proofs.lemmas.List.{take-append-drop}
use Rattle.std.proofs.lemmas.Grind.{common_steps}
use Rattle.std.proofs.lemmas.Slice.Eq.{bytes_eq-Decides}
use Rattle.vdr_bytes.proofs.NumberLemmas.{cut, drop-front, take-front}
use Rattle.vdr_terms.specs.Stamps.{IsStamp, last_stamp}
use Rattle.vdr_entry.specs.Utc.{utc_text}
use Rattle.vdr_entry.proofs.StampLemmas.{one_stamp, reads_stamp}
use Rattle.vdr_config.specs.Configuration.{Configuration}
use Rattle.vdr_evidence.specs.Files.{bound_text, query_text}
use Rattle.vdr_verify.specs.Legal.{Asks, channel_named}
use Rattle.vdr_verify.specs.Standing.{AreStamps}
use Rattle.vdr_verify.specs.declared.query.Asked.{Asked}

utc_long : (u : ℤ) → IsStamp u → length (utc_text u) ≡ 24
utc_long u stamp = (reads_stamp (utc_text u) u stamp refl).long

-- ---- two stamps

-- two stamps, each behind a space
abbrev bounds_of : (since until : ℤ) → List ℕ
bounds_of since until = codes " " ++ utc_text since ++ codes " " ++ utc_text until

pub record StampsAt (b : List ℕ) (since until : ℤ) : Type 0 where
  pub long : length b ≡ 50
  pub space : take 1 b ≡ codes " "
  pub first : take 24 (drop 1 b) ≡ utc_text since
  pub next_space : take 1 (drop 25 b) ≡ codes " "
  pub second : drop 26 b ≡ utc_text until

stamps_so : (f t : List ℕ) → length f ≡ 24 → (take 24 ((f ++ codes " ") ++ t) ≡ f) × (drop 24 ((f ++ codes " ") ++ t) ≡ codes " " ++ t) × (drop 25 ((f ++ codes " ") ++ t) ≡ t)
stamps_so f t long = (
  ap (λ (l : List ℕ). take 24 l) (append_assoc f (codes " ") t) ∙ take-front 24 f (codes " " ++ t) long,
  ap (λ (l : List ℕ). drop 24 l) (append_assoc f (codes " ") t) ∙ drop-front 24 f (codes " " ++ t) long,
  drop-front 25 (f ++ codes " ") t (length-append f (codes " ") ∙ ap (λ (n : ℕ). n + 1) long),
)

size_so : (b f t : List ℕ) → b ≡ 32 ∷ ((f ++ codes " ") ++ t) → length f ≡ 24 → length t ≡ 24 → length b ≡ 50
size_so b f t e long too = let size : length b ≡ length (32 ∷ ((f ++ codes " ") ++ t)) = ap (λ (l : List ℕ). length l) e in grind (arith, common_steps, size, long, too)

pub stamps_at : (b : List ℕ) (since until : ℤ) → AreStamps b since until → StampsAt b since until
stamps_at b since until are =
    let f = utc_text since in
    let t = utc_text until in
    let e : b ≡ 32 ∷ ((f ++ codes " ") ++ t) = are.spelled in
    let long = utc_long since are.first in
    let too = utc_long until are.second in
    let so = stamps_so f t long in
    record {
      long = size_so b f t e long too;
      space = ap (λ (l : List ℕ). take 1 l) e;
      first = ap (λ (l : List ℕ). take 24 (drop 1 l)) e ∙ so.0;
      next_space = ap (λ (l : List ℕ). take 1 (drop 25 l)) e ∙ ap (λ (l : List ℕ). take 1 l) so.1;
      second = ap (λ (l : List ℕ). drop 26 l) e ∙ so.2;
    }

pub stamps_joined : (b : List ℕ) (since until : ℤ) → IsStamp since → IsStamp until → take 1 b ≡ codes " " → take 24 (drop 1 b) ≡ utc_text since → take 1 (drop 25 b) ≡ codes " " → drop 26 b ≡ utc_text until → AreStamps b since until
stamps_joined b since until of_first of_second space first next_space second =
    let rest : drop 25 b ≡ codes " " ++ utc_text until = cut 25 1 b ∙ (λ i. next_space i ++ second i) in
    let behind : drop 1 b ≡ utc_text since ++ (codes " " ++ utc_text until) = cut 1 24 b ∙ (λ i. first i ++ rest i) in
    let all : b ≡ codes " " ++ (utc_text since ++ (codes " " ++ utc_text until)) = cut 0 1 b ∙ (λ i. space i ++ behind i) in
    record { first = of_first; second = of_second; spelled = all ∙ ap (λ (l : List ℕ). 32 ∷ l) (sym (append_assoc (utc_text since) (codes " ") (utc_text until))) }

-- ---- the text

chosen : {T : Type 0} (b : Bool) (x y : T) → b ≡ true → (if b then x else y) ≡ x
chosen true x y e = refl
chosen false x y e = absurd (true≢false (sym e))

bound_is : (u : ℤ) → IsStamp u → bound_text u ≡ utc_text u
bound_is u stamp = subst (λ (v : ℤ). bound_text v ≡ utc_text v) (sym stamp.whole) (at (unsigned_abs u) stamp.in_time)
  where
    at : (n : ℕ) → n ≤ last_stamp → bound_text (pos n) ≡ utc_text (pos n)
    at n within = chosen (int_le (pos 0) (pos n) && int_le (pos n) (pos last_stamp)) (utc_text (pos n)) (codes "-")
        (and_from (int_le (pos 0) (pos n)) (int_le (pos n) (pos last_stamp)) (le-leb 0 n (omega arith)) (le-leb n last_stamp within))

query_is : (name : List ℕ) (since until : ℤ) → IsStamp since → IsStamp until → query_text name since until ≡ name ++ bounds_of since until
query_is name since until of_first of_second =
    let a = bound_is since of_first in
    let b = bound_is until of_second in
    let s = codes " " in
    let f = utc_text since in
    let t = utc_text until in
    let so : query_text name since until ≡ name ++ s ++ f ++ s ++ t = λ i. name ++ s ++ a i ++ s ++ b i in
    so ∙ append_assoc (name ++ s ++ f) s t ∙ append_assoc (name ++ s) f (s ++ t) ∙ append_assoc name s (f ++ (s ++ t))
    ∙ ap (λ (l : List ℕ). name ++ l) (ap (λ (l : List ℕ). 32 ∷ l) (sym (append_assoc f s t)))

pub record AsksAt (c : Configuration) (text : List ℕ) (q : Asked) : Type 0 where
  pub size : ℕ
  pub long : length text ≡ size + 50
  pub channel : channel_named c (take size text) ≡ Some q.channel
  pub stamps : AreStamps (drop size text) q.from q.to

pub asks_at : (c : Configuration) (text : List ℕ) (q : Asked) → Asks c text q → AsksAt c text q
asks_at c text q asks =
    let e : text ≡ asks.name ++ bounds_of q.from q.to = asks.spelled ∙ query_is asks.name q.from q.to asks.from_stamp asks.to_stamp in
    let are : AreStamps (bounds_of q.from q.to) q.from q.to = record { first = asks.from_stamp; second = asks.to_stamp; spelled = refl } in
    let front : take (length asks.name) text ≡ asks.name = ap (λ (l : List ℕ). take (length asks.name) l) e ∙ take-front (length asks.name) asks.name (bounds_of q.from q.to) refl in
    let behind : drop (length asks.name) text ≡ bounds_of q.from q.to = ap (λ (l : List ℕ). drop (length asks.name) l) e ∙ drop-front (length asks.name) asks.name (bounds_of q.from q.to) refl in
    record {
      size = length asks.name;
      long = ap (λ (l : List ℕ). length l) e ∙ length-append asks.name (bounds_of q.from q.to) ∙ ap (λ (n : ℕ). length asks.name + n) (stamps_at (bounds_of q.from q.to) q.from q.to are).long;
      channel = ap (λ (l : List ℕ). channel_named c l) front ∙ asks.channel;
      stamps = subst (λ (l : List ℕ). AreStamps l q.from q.to) (sym behind) are;
    }

pub asks_joined : (c : Configuration) (text : List ℕ) (n : ℕ) (q : Asked) → channel_named c (take n text) ≡ Some q.channel → AreStamps (drop n text) q.from q.to → Asks c text q
asks_joined c text n q channel are = record {
  name = take n text;
  spelled = sym (take-append-drop n text) ∙ ap (λ (l : List ℕ). take n text ++ l) are.spelled ∙ sym (query_is (take n text) q.from q.to are.first are.second);
  channel = channel;
  from_stamp = are.first;
  to_stamp = are.second;
}

-- A text asks for one thing.
pub one_asked : (c : Configuration) (text : List ℕ) (p q : Asked) → Asks c text p → Asks c text q → p ≡ q
one_asked c text p q of_p of_q =
    let a = asks_at c text p of_p in
    let b = asks_at c text q of_q in
    let same : a.size ≡ b.size = omega (arith, a.long, b.long) in
    let channel : p.channel ≡ q.channel = one_some p.channel q.channel (sym a.channel ∙ ap (λ (n : ℕ). channel_named c (take n text)) same ∙ b.channel) in
    let s = stamps_at (drop a.size text) p.from p.to a.stamps in
    let t = stamps_at (drop a.size text) q.from q.to (subst (λ (n : ℕ). AreStamps (drop n text) q.from q.to) (sym same) b.stamps) in
    let since = one_stamp p.from q.from of_p.from_stamp of_q.from_stamp (sym s.first ∙ t.first) in
    let until = one_stamp p.to q.to of_p.to_stamp of_q.to_stamp (sym s.second ∙ t.second) in
    λ i. record { channel = channel i; from = since i; to = until i }
  where
    one_some : (x y : Option ℕ) → ◌≡◌ {A = Option (Option ℕ)} (Some x) (Some y) → x ≡ y
    one_some x y e = cc

-- what a comparison says
pub differ_so : (r : Bool) (xs ys zs : List ℕ) → r ≡ not (bytes_eq xs ys) → r ≡ true → ys ≡ zs → xs ≡ zs → ⊥
differ_so r xs ys zs is holds other same =
    let equal : bytes_eq xs ys ≡ true = (bytes_eq-Decides xs ys).1 (same ∙ sym other) in
    let no : ⊥ = cc in absurd no

pub same_so : (r : Bool) (xs ys zs : List ℕ) → r ≡ not (bytes_eq xs ys) → r ≡ false → ys ≡ zs → xs ≡ zs
same_so r xs ys zs is none other = (bytes_eq-Decides xs ys).0 (by (bytes_eq xs ys) (sym is ∙ none)) ∙ other
  where
    by : (b : Bool) → not b ≡ false → b ≡ true
    by true e = refl
    by false e = let no : ⊥ = cc in absurd no

-- ---- what is no query

pub too_short : (c : Configuration) (text : List ℕ) (q : Asked) → length text < 50 → Asks c text q → ⊥
too_short c text q short asks = omega (arith, (asks_at c text q asks).long, short)

at_end : (c : Configuration) (text : List ℕ) (q : Asked) (asks : Asks c text q) → (asks_at c text q asks).size ≡ length text - 50
at_end c text q asks = omega (arith, (asks_at c text q asks).long)

pub no_channel : (c : Configuration) (text name : List ℕ) (q : Asked) (r : Option (Option ℕ)) → r ≡ channel_named c name → name ≡ take (length text - 50) text → r ≡ None → Asks c text q → ⊥
no_channel c text name q r is front none asks =
    let a = asks_at c text q asks in
    let some : channel_named c name ≡ Some q.channel = ap (λ (l : List ℕ). channel_named c l) (front ∙ ap (λ (n : ℕ). take n text) (sym (at_end c text q asks))) ∙ a.channel in
    let no : ◌≡◌ {A = Option (Option ℕ)} None (Some q.channel) = sym none ∙ is ∙ some in
    none_some q.channel no
  where
    none_some : (x : Option ℕ) → ◌≡◌ {A = Option (Option ℕ)} None (Some x) → ⊥
    none_some x e = cc

pub no_stamps : (c : Configuration) (text bounds : List ℕ) (q : Asked) → bounds ≡ drop (length text - 50) text → ((since until : ℤ) → AreStamps bounds since until → ⊥) → Asks c text q → ⊥
no_stamps c text bounds q behind none asks =
    let a = asks_at c text q asks in
    none q.from q.to (subst (λ (l : List ℕ). AreStamps l q.from q.to) (ap (λ (n : ℕ). drop n text) (at_end c text q asks) ∙ sym behind) a.stamps)
