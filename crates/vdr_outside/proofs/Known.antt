-- Known bytes over several calls.
use Rattle.std.proofs.Common.{◌≡◌, ◌≤◌, ◌<◌, ◌∷◌, get_or, add-one, drop-cons, ◌+◌, ◌-◌, ◌++◌, ℕ, List, [], take, drop, length, Option, None, Some, Result, Ok, Err, OnOk, refl, sym, ◌∙◌, ap, subst, arith, append_assoc}
use Rattle.std.proofs.Math.Seq.{take-add}
use Rattle.std.proofs.lemmas.Grind.{common_steps, flat_map-append}
use Rattle.std.specs.List.{flat_map}
use Rattle.std.proofs.lemmas.List.{take-append-drop, take-append-le, take_rest, drop-drop, length-take, nil_from_length, append_cancel_left}
use Rattle.std.proofs.KnownBytes.{Appends-trans, append_known-moved}
use Rattle.std.specs.Io.KnownBytes.{Appends, Keeps, WriteAppends, append_known}
use Rattle.vdr_outside.specs.Writes.{AppendsFront, BeginsWith, IsFrontOf}

-- One more write of a loop.
pub appends-step : (a b c : Option (List ℕ)) (bytes : List ℕ) (i n : ℕ) → Appends a b (take i bytes) → Appends b c (take n (take (length bytes - i) (drop i bytes))) → Appends a c (take (i + n) bytes)
appends-step a b c bytes i n p q = rw take-add (Appends-trans a b c _ _ p (rw take_rest at q))

pub appends-front : (a b : Option (List ℕ)) (bytes : List ℕ) (n : ℕ) → Appends a b (take n bytes) → AppendsFront a b bytes
appends-front a b bytes n p = (take n bytes, drop n bytes, sym (take-append-drop n bytes), p)

-- A front of a piece is a front of the whole, once the pieces before it were written.
pub front-more : (a b c : Option (List ℕ)) (before piece rest whole : List ℕ) → whole ≡ before ++ (piece ++ rest) → Appends a b before → AppendsFront b c piece → AppendsFront a c whole
front-more a b c before piece rest whole is p f = (
  before ++ f.0,
  f.1 ++ rest,
  is ∙ ap (λ (l : List ℕ). before ++ l) (ap (λ (l : List ℕ). l ++ rest) f.2 ∙ append_assoc f.0 f.1 rest) ∙ sym (append_assoc before f.0 (f.1 ++ rest)),
  Appends-trans a b c before f.0 p f.3,
)

-- A text in pieces, split at one of them.
pub pieces-at : {X A : Type 0} (f : X → List A) (xs : List X) (i : ℕ) (d : X) → i < length xs → flat_map f xs ≡ flat_map f (take i xs) ++ (f (get_or xs i d) ++ flat_map f (drop (i + 1) xs))
pieces-at f xs i d within =
    ap (flat_map f) (sym (take-append-drop i xs) ∙ ap (λ l. take i xs ++ l) (rw (add-one, drop-cons xs i d) refl))
    ∙ flat_map-append f (take i xs) (get_or xs i d ∷ drop (i + 1) xs)

-- What begins with the start still does after more was appended.
pub begins-appends : (start a b : Option (List ℕ)) (bytes : List ℕ) → BeginsWith start a → Appends a b bytes → BeginsWith start b
begins-appends None a b bytes e p = refl
begins-appends (Some x) None b bytes e p = let none : ⊥ = cc in absurd none
begins-appends (Some x) (Some y) None bytes e p = absurd p
begins-appends (Some x) (Some y) (Some z) bytes e p =
    let front : take (length x) y ≡ x = cc in
    let within : length x ≤ length y = omega (arith, length-take (length x) y, ap (λ (l : List ℕ). length l) front) in
    ap (λ (l : List ℕ). Some l) (ap (take (length x)) p ∙ take-append-le (length x) y bytes within ∙ front)

-- What is handed on leaves the buffer, and all that was taken stays the same.
pub keeps-handed : (a b : Option (List ℕ)) (slice items : List ℕ) (handed n : ℕ) → slice ≡ items → Appends a b (take n (take (length slice - handed) (drop handed slice)))
    → Keeps (append_known a (drop handed items)) (append_known b (drop (handed + n) items))
keeps-handed a b slice items handed n is p =
    let written : Appends a b (take n (drop handed items)) = subst (λ (l : List ℕ). Appends a b (take n (drop handed l))) is (rw take_rest at p) in
    append_known-moved a b (take n (drop handed items)) (drop (handed + n) items) (drop handed items) written
    (sym (take-append-drop n (drop handed items)) ∙ ap (λ (l : List ℕ). take n (drop handed items) ++ l) (drop-drop n handed items))

-- The same where nothing is left in the buffer.
known-none : (a : Option (List ℕ)) (items : List ℕ) (handed : ℕ) → length items ≡ 0 → append_known a (drop handed items) ≡ a
known-none None items handed none = refl
known-none (Some x) items handed none = ap (λ (l : List ℕ). Some l) (ap (λ (l : List ℕ). x ++ drop handed l) (nil_from_length items none) ∙ rest x handed) where
  rest : (x : List ℕ) (handed : ℕ) → x ++ drop handed [] ≡ x
  rest x handed = grind (arith, common_steps)

kept-first : (a b : Option (List ℕ)) (c : Option (List ℕ)) (bytes : List ℕ) → Keeps a b → Appends b c bytes → Appends a c bytes
kept-first None b c bytes k p = tt
kept-first (Some x) None c bytes k p = absurd k
kept-first (Some x) (Some y) None bytes k p = absurd p
kept-first (Some x) (Some y) (Some z) bytes k p = p ∙ ap (λ (l : List ℕ). l ++ bytes) k

kept-twice : (a b c : Option (List ℕ)) → Keeps a b → Keeps b c → Keeps a c
kept-twice None b c k l = tt
kept-twice (Some x) None c k l = absurd k
kept-twice (Some x) (Some y) None k l = absurd l
kept-twice (Some x) (Some y) (Some z) k l = l ∙ k

-- All is handed on.
pub keeps-closed : {T E : Type 0} (all a b : Option (List ℕ)) (items : List ℕ) (handed : ℕ) (result : Result T E) → Keeps all (append_known a (drop handed items)) → OnOk result (length items ≡ 0) → b ≡ a → OnOk result (Keeps all b)
keeps-closed all a b items handed (Ok x) k none same = subst (λ (o : Option (List ℕ)). Keeps all o) (known-none a items handed none ∙ sym same) k
keeps-closed all a b items handed (Err e) k none same = tt

-- A write past an empty buffer.
pub writes-past : {E : Type 0} (all a b : Option (List ℕ)) (items bytes : List ℕ) (handed : ℕ) (result : Result ℕ E) → length items ≡ 0 → Keeps all (append_known a (drop handed items)) → WriteAppends a b result bytes
    → WriteAppends all (append_known b (drop handed items)) result bytes
writes-past all a b items bytes handed (Ok n) none k p =
    let empty : append_known a (drop handed items) ≡ a = known-none a items handed none in
    subst (λ (o : Option (List ℕ)). Appends all o (take n bytes)) (sym (known-none b items handed none))
    (kept-first all a b (take n bytes) (subst (λ (o : Option (List ℕ)). Keeps all o) empty k) p)
writes-past all a b items bytes handed (Err e) none k p =
    let empty : append_known a (drop handed items) ≡ a = known-none a items handed none in
    subst (λ (o : Option (List ℕ)). Keeps all o) (sym (known-none b items handed none))
    (kept-twice all a b (subst (λ (o : Option (List ℕ)). Keeps all o) empty k) p)

-- What was added to the start is a front of what was to be added.
joins : (x y rest front : List ℕ) → take (length x) y ≡ x → y ++ rest ≡ x ++ front → drop (length x) y ++ rest ≡ front
joins x y rest front e whole =
    let split : y ≡ x ++ drop (length x) y = sym (take-append-drop (length x) y) ∙ ap (λ (l : List ℕ). l ++ drop (length x) y) e in
    append_cancel_left x _ _ (sym (append_assoc x (drop (length x) y) rest) ∙ ap (λ (l : List ℕ). l ++ rest) (sym split) ∙ whole)

-- A front of the text reached the sink behind the buffer.
pub front-printed : (start first last took : Option (List ℕ)) (text : List ℕ) → Keeps start first → AppendsFront first last text → IsFrontOf took last → BeginsWith start took → AppendsFront start took text
front-printed None first last took text k p f e = ([], text, refl, tt)
front-printed (Some x) None last took text k p f e = absurd k
front-printed (Some x) (Some x') None took text k p f e = absurd p.3
front-printed (Some x) (Some x') (Some all) None text k p f e = absurd f
front-printed (Some x) (Some x') (Some all) (Some y) text k p f e =
    let front : take (length x) y ≡ x = cc in
    let whole : y ++ f.0 ≡ x ++ p.0 = sym f.1 ∙ p.3 ∙ ap (λ (l : List ℕ). l ++ p.0) k in
    let added : drop (length x) y ++ f.0 ≡ p.0 = joins x y f.0 p.0 front whole in (
      drop (length x) y,
      f.0 ++ p.1,
      p.2 ∙ ap (λ (l : List ℕ). l ++ p.1) (sym added) ∙ append_assoc (drop (length x) y) f.0 p.1,
      sym (take-append-drop (length x) y) ∙ ap (λ (l : List ℕ). l ++ drop (length x) y) front,
    )
