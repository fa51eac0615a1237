-- What goes over a link, call by call.
use Rattle.std.proofs.Common.{◌≡◌, ◌≤◌, ◌<◌, ◌⊎◌, inl, inr, false, true≢false, ℕ, List, [], ◌∷◌, ◌++◌, map, length, nat_lt, Option, Some, None, Result, Ok, Err, refl, sym, ap, ◌∙◌, subst, append_assoc, append-nil, arith}
use Rattle.std.specs.Prelude.{IsErr, IsOk, OnErr, OnOk, is_err}
use Rattle.std.proofs.lemmas.List.{map-append}
use Rattle.std.proofs.lemmas.Grind.{flat_map-append}
use Rattle.std.proofs.lemmas.Bool.{cond-false, cond-true, le-ltb, lt-ltb}
use Rattle.std.specs.Io.KnownBytes.{Appends, Keeps}
use Rattle.vdr_outside.specs.Calls.{asked_again, other}
use Rattle.vdr_outside.specs.Causes.{HasCause}
use Rattle.vdr_outside.specs.Hears.{Passes, bare}
use Rattle.vdr_outside.specs.declared.link.Link.{Ghosts as LinkTells}
use Rattle.vdr_outside.proofs.Counts.{rose_after}
use Rattle.vdr_outside.specs.Told.{Stays, Loses}
use Rattle.vdr_outside.specs.Writes.{AppendsFront}
use Rattle.vdr_capture.proofs.Giving.{loses_none, loses_more, loses_stays}
use mathlib.Core.List.{IsPrefix}
use Rattle.vdr_desk.specs.Answers.{Answer}
use Rattle.vdr_desk.specs.Exchanges.{AreExchanged, EndBegun, Exchange, IsSaid, texts_of}
use Rattle.vdr_desk.specs.Links.{HasReplied, HeardAll, as_heard}
use Rattle.vdr_desk.proofs.Exchanged.{all_on, exchanged_more}

pub heard_none : (a : Option (List (List ℕ))) → HeardAll a a []
heard_none a = record { whole = []; are_heard = refl; left = loses_none a }

pub heard_still : (a b c : Option (List (List ℕ))) (lines : List (Option (List ℕ))) → HeardAll a b lines → Stays b c → HeardAll a c lines
heard_still a b c lines h s = record { whole = h.whole; are_heard = h.are_heard; left = loses_stays a b c h.whole h.left s }

heard_one : (a b c : Option (List (List ℕ))) (exchanges : List Exchange) (line : List ℕ) (x : Exchange) → HeardAll a b (map (λ x. x.line) exchanges) → Loses b c line → x.line ≡ as_heard line
    → HeardAll a c (map (λ x. x.line) (exchanges ++ x ∷ []))
heard_one a b c exchanges line x h loses is = record {
  whole = h.whole ++ line ∷ [];
  are_heard = map-append (λ (x : Exchange). x.line) exchanges (x ∷ []) ∙ ap (λ (l : List (Option (List ℕ))). l ++ x.line ∷ []) h.are_heard
      ∙ ap (λ (o : Option (List ℕ)). map as_heard h.whole ++ o ∷ []) is ∙ sym (map-append as_heard h.whole (line ∷ []));
  left = loses_more a b c h.whole line h.left loses;
}

-- a line that was given, and one that was too long
pub heard_line : (a b c : Option (List (List ℕ))) (exchanges : List Exchange) (into text : List ℕ) → HeardAll a b (map (λ x. x.line) exchanges)
    → Passes b c (λ line. (into ≡ line) × (length line ≤ 256)) → HeardAll a c (map (λ x. x.line) (exchanges ++ record { line = Some into; text = text } ∷ []))
heard_line a b c exchanges into text h p = heard_one a b c exchanges p.line (record { line = Some into; text = text }) h p.left
    (ap (λ (l : List ℕ). Some l) p.is.0 ∙ sym (cond-false (nat_lt 256 (length (bare p.line))) None (Some (bare p.line)) (le-ltb 256 (length (bare p.line)) p.is.1)))

pub heard_long : (a b c : Option (List (List ℕ))) (exchanges : List Exchange) (into text : List ℕ) → HeardAll a b (map (λ x. x.line) exchanges)
    → Passes b c (λ line. (256 < length line) × (into ≡ [])) → HeardAll a c (map (λ x. x.line) (exchanges ++ record { line = None; text = text } ∷ []))
heard_long a b c exchanges into text h p = heard_one a b c exchanges p.line (record { line = None; text = text }) h p.left
    (sym (cond-true (nat_lt 256 (length (bare p.line))) None (Some (bare p.line)) (lt-ltb 256 (length (bare p.line)) p.is.0)))

-- what was replied
texts_more : (exchanges : List Exchange) (x : Exchange) → texts_of (exchanges ++ x ∷ []) ≡ texts_of exchanges ++ x.text
texts_more exchanges x = flat_map-append (λ (x : Exchange). x.text) exchanges (x ∷ []) ∙ ap (λ (l : List ℕ). texts_of exchanges ++ l) (append-nil x.text)

pub replied_none : (a : Option (List ℕ)) → Appends a a []
replied_none None = tt
replied_none (Some xs) = sym (append-nil xs)

pub replied_kept : (a b c : Option (List ℕ)) (xs : List ℕ) → Appends a b xs → Keeps b c → Appends a c xs
replied_kept None b c xs p q = tt
replied_kept (Some a) None c xs p q = absurd p
replied_kept (Some a) (Some b) None xs p q = absurd q
replied_kept (Some a) (Some b) (Some c) xs p q = q ∙ p

replied_on : (a b c : Option (List ℕ)) (xs ys : List ℕ) → Appends a b xs → Appends b c ys → Appends a c (xs ++ ys)
replied_on None b c xs ys p q = tt
replied_on (Some a) None c xs ys p q = absurd p
replied_on (Some a) (Some b) None xs ys p q = absurd q
replied_on (Some a) (Some b) (Some c) xs ys p q = q ∙ ap (λ (l : List ℕ). l ++ ys) p ∙ append_assoc a xs ys

pub replied_more : (a b c : Option (List ℕ)) (exchanges : List Exchange) (x : Exchange) → Appends a b (texts_of exchanges) → Appends b c x.text → Appends a c (texts_of (exchanges ++ x ∷ []))
replied_more a b c exchanges x p q = subst (Appends a c) (sym (texts_more exchanges x)) (replied_on a b c (texts_of exchanges) x.text p q)

pub front_replied : (a b c : Option (List ℕ)) (exchanges : List Exchange) (x : Exchange) → Appends a b (texts_of exchanges) → AppendsFront b c x.text → AppendsFront a c (texts_of (exchanges ++ x ∷ []))
front_replied a b c exchanges x p q = (
  texts_of exchanges ++ q.0,
  q.1,
  texts_more exchanges x ∙ ap (λ (l : List ℕ). texts_of exchanges ++ l) q.2 ∙ sym (append_assoc (texts_of exchanges) q.0 q.1),
  replied_on a b c (texts_of exchanges) q.0 p q.3,
)

-- These bytes went over the link, and nothing failed.
pub record HasSent {L : Type 0} (tells : LinkTells L) (old new : L) (text : List ℕ) : Type 0 where
  pub all : Appends (tells.replied old) (tells.replied new) text
  pub left : Stays (tells.left old) (tells.left new)
  pub asked : tells.asked new ≡ tells.asked old
  pub later : tells.faults old ≤ tells.faults new

stays_none : (a : Option (List (List ℕ))) → Stays a a
stays_none None = tt
stays_none (Some xs) = refl

stays_on : (a b c : Option (List (List ℕ))) → Stays a b → Stays b c → Stays a c
stays_on None b c p q = tt
stays_on (Some a) None c p q = absurd p
stays_on (Some a) (Some b) None p q = absurd q
stays_on (Some a) (Some b) (Some c) p q = q ∙ p

front_on : (a b c : Option (List ℕ)) (xs ys : List ℕ) → Appends a b xs → AppendsFront b c ys → AppendsFront a c (xs ++ ys)
front_on a b c xs ys p q = (xs ++ q.0, q.1, ap (λ (l : List ℕ). xs ++ l) q.2 ∙ sym (append_assoc xs q.0 q.1), replied_on a b c xs q.0 p q.3)

module _ {L : Type 0} (tells : LinkTells L) where
  pub sent_none : (link : L) → HasSent tells link link []
  sent_none link = record { all = replied_none (tells.replied link); left = stays_none (tells.left link); asked = refl; later = omega arith }

  pub sent_all : (old new : L) (text : List ℕ) → HasSent tells old new text → {T F : Type 0} (x : T) → HasReplied {T = T} {F = F} tells old new text (Ok x)
  sent_all old new text sent x = record {
    all = sent.all;
    front = (text, [], sym (append-nil text), sent.all);
    left = sent.left;
    asked = sent.asked;
    cause = record { later = sent.later; failed = tt };
  }

  module _ (old mid new : L) (first second : List ℕ) (sent : HasSent tells old mid first) where
    pub sent_on : {T F : Type 0} (result : Result T F) → IsOk result → HasReplied tells mid new second result → HasSent tells old new (first ++ second)
    sent_on (Ok x) ok h = record {
      all = replied_on (tells.replied old) (tells.replied mid) (tells.replied new) first second sent.all h.all;
      left = stays_on (tells.left old) (tells.left mid) (tells.left new) sent.left h.left;
      asked = h.asked ∙ sent.asked;
      later = (let a = sent.later in let b = h.cause.later in omega (arith, a, b));
    }
    sent_on (Err e) ok h = absurd (true≢false (sym ok))

    pub replied_then : {T F : Type 0} (result : Result T F) → HasReplied tells mid new second result → HasReplied tells old new (first ++ second) result
    replied_then (Ok x) h = record {
      all = replied_on (tells.replied old) (tells.replied mid) (tells.replied new) first second sent.all h.all;
      front = front_on (tells.replied old) (tells.replied mid) (tells.replied new) first second sent.all h.front;
      left = stays_on (tells.left old) (tells.left mid) (tells.left new) sent.left h.left;
      asked = h.asked ∙ sent.asked;
      cause = record { later = (let a = sent.later in let b = h.cause.later in omega (arith, a, b)); failed = tt };
    }
    replied_then (Err e) h = record {
      all = tt;
      front = front_on (tells.replied old) (tells.replied mid) (tells.replied new) first second sent.all h.front;
      left = stays_on (tells.left old) (tells.left mid) (tells.left new) sent.left h.left;
      asked = h.asked ∙ sent.asked;
      cause = record {
        later = (let a = sent.later in let b = h.cause.later in omega (arith, a, b));
        failed = rose_after (tells.faults old) (tells.faults mid) (tells.faults new) sent.later h.cause.failed;
      };
    }

-- a call that failed, as the answer of its caller
pub on_err : {T F : Type 0} (P : Type 0) (result : Result T F) → IsErr result → OnOk result P
on_err P (Ok x) is = absurd (true≢false (sym is))
on_err P (Err e) is = tt

pub of_ok : {T F : Type 0} (P : Type 0) (result : Result T F) → is_err result ≡ false → OnOk result P → P
of_ok P (Ok x) is h = h
of_ok P (Err e) is h = absurd (true≢false is)

pub of_err : {T F : Type 0} (P : Type 0) (result : Result T F) → IsErr result → OnErr result P → P
of_err P (Ok x) is h = absurd (true≢false (sym is))
of_err P (Err e) is h = h

pub is_err_of : {T F : Type 0} (result : Result T F) (e : F) → result ≡ Err e → IsErr result
is_err_of result e is = ap is_err is

pub replied_failed : {L : Type 0} (tells : LinkTells L) (old new : L) (text : List ℕ) {T F U G : Type 0} (was : Result T F) (is : Result U G) → IsErr was → IsErr is → HasReplied tells old new text was → HasReplied tells old new text is
replied_failed tells old new text (Ok x) is a b h = absurd (true≢false (sym a))
replied_failed tells old new text (Err e) (Ok y) a b h = absurd (true≢false (sym b))
replied_failed tells old new text (Err e) (Err f) a b h = record {
  all = tt;
  front = h.front;
  left = h.left;
  asked = h.asked;
  cause = record { later = h.cause.later; failed = h.cause.failed };
}

-- One more line was heard and answered, or its answer was only begun where a call of the link failed.
pub record HasSaid {L E T F : Type 0} (tells : LinkTells L) (answers begins : Answer E → Type 0) (was before link : L) (exchanges : List Exchange) (start : ℕ) (seen : List E) (result : Result T F) : Type 0 where
  pub x : Exchange
  pub heard : HeardAll (tells.left was) (tells.left link) (map (λ x. x.line) (exchanges ++ x ∷ []))
  pub all : OnOk result (Appends (tells.replied was) (tells.replied link) (texts_of (exchanges ++ x ∷ [])))
  pub front : AppendsFront (tells.replied was) (tells.replied link) (texts_of (exchanges ++ x ∷ []))
  pub asked : tells.asked link ≡ asked_again (tells.asked before) other
  pub cause : HasCause (tells.faults was) (tells.faults link) result
  pub answered : OnOk result (AreExchanged answers seen start (exchanges ++ x ∷ []) (length seen))
  pub served : AreExchanged answers seen start (exchanges ++ x ∷ []) (length seen) ⊎ EndBegun answers begins seen start (exchanges ++ x ∷ []) (length seen)

module _ {L E : Type 0} (tells : LinkTells L) (answers begins : Answer E → Type 0) (was before mid link : L) (exchanges : List Exchange) (start : ℕ) (seen longer : List E) (x : Exchange)
    (heard : HeardAll (tells.left was) (tells.left mid) (map (λ x. x.line) (exchanges ++ x ∷ []))) (sent : Appends (tells.replied was) (tells.replied mid) (texts_of exchanges))
    (asked : tells.asked mid ≡ asked_again (tells.asked before) other) (later : tells.faults was ≤ tells.faults mid)
    (answered : AreExchanged answers seen start exchanges (length seen)) (grows : IsPrefix seen longer) where
  begun_more : {T F : Type 0} (result : Result T F) → IsSaid answers begins longer (length seen) (length longer) x result
      → AreExchanged answers longer start (exchanges ++ x ∷ []) (length longer) ⊎ EndBegun answers begins longer start (exchanges ++ x ∷ []) (length longer)
  begun_more result (inl e) = inl (exchanged_more answers seen longer start exchanges x grows answered e)
  begun_more result (inr e) = inr (record {
    front = exchanges;
    last = x;
    are = refl;
    mid = length seen;
    end = length longer;
    answered = all_on answers seen longer start (length seen) exchanges grows answered;
    begun = e.1;
    until = omega arith;
  })

  pub has_said : {T F : Type 0} (result : Result T F) → HasReplied tells mid link x.text result → IsSaid answers begins longer (length seen) (length longer) x result
      → HasSaid tells answers begins was before link exchanges start longer result
  has_said (Ok v) r (inl e) =
      let more = exchanged_more answers seen longer start exchanges x grows answered e in
      record {
        x = x;
        heard = heard_still (tells.left was) (tells.left mid) (tells.left link) (map (λ x. x.line) (exchanges ++ x ∷ [])) heard r.left;
        all = replied_more (tells.replied was) (tells.replied mid) (tells.replied link) exchanges x sent r.all;
        front = front_replied (tells.replied was) (tells.replied mid) (tells.replied link) exchanges x sent r.front;
        asked = r.asked ∙ asked;
        cause = record { later = (let c = r.cause.later in omega (arith, later, c)); failed = tt };
        answered = more;
        served = inl more;
      }
  has_said (Ok v) r (inr e) = absurd (true≢false (sym e.0))
  has_said {T} {F} (Err v) r said = record {
    x = x;
    heard = heard_still (tells.left was) (tells.left mid) (tells.left link) (map (λ x. x.line) (exchanges ++ x ∷ [])) heard r.left;
    all = tt;
    front = front_replied (tells.replied was) (tells.replied mid) (tells.replied link) exchanges x sent r.front;
    asked = r.asked ∙ asked;
    cause = record { later = (let c = r.cause.later in omega (arith, later, c)); failed = rose_after (tells.faults was) (tells.faults mid) (tells.faults link) later r.cause.failed };
    answered = tt;
    served = begun_more {T = T} {F = F} (Err v) said;
  }
