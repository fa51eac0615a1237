-- Readings one after another, and what one more at the end makes of them.
use Rattle.std.proofs.Common.{◌≡◌, ◌+◌, ◌++◌, ℕ, zero, suc, List, [], ◌∷◌, length, Some, refl, sym, ap, subst, inl, inr}
use Rattle.std.specs.List.{AllByRecursion, slice_get}
use Rattle.std.specs.Prelude.{map}
use Rattle.std.proofs.lemmas.Option.{none-some, same_Some}
use Rattle.vdr_thin.specs.Laws.{AreJoined, Follows, Has, IsPoint, last_of}
use Rattle.vdr_thin.specs.Runs.{Point, Reading}

pub all_more : {A : Type 0} (P : A → Type 0) (xs : List A) (x : A) → AllByRecursion P xs → P x → AllByRecursion P (xs ++ x ∷ [])
all_more P [] x h p = (p, tt)
all_more P (y ∷ xs) x h p = (h.0, all_more P xs x h.1 p)

pub all_joined : {A : Type 0} (P : A → Type 0) (xs ys : List A) → AllByRecursion P xs → AllByRecursion P ys → AllByRecursion P (xs ++ ys)
all_joined P [] ys h k = k
all_joined P (x ∷ xs) ys h k = (h.0, all_joined P xs ys h.1 k)

pub all_so : {A : Type 0} (P Q : A → Type 0) → ((x : A) → P x → Q x) → (xs : List A) → AllByRecursion P xs → AllByRecursion Q xs
all_so P Q f [] h = tt
all_so P Q f (x ∷ xs) h = (f x h.0, all_so P Q f xs h.1)

pub all_both : {A : Type 0} (P Q S : A → Type 0) → ((x : A) → P x → Q x → S x) → (xs : List A) → AllByRecursion P xs → AllByRecursion Q xs → AllByRecursion S xs
all_both P Q S f [] h k = tt
all_both P Q S f (x ∷ xs) h k = (f x h.0 k.0, all_both P Q S f xs h.1 k.1)

pub all_mapped : {A B : Type 0} (P : A → Type 0) (Q : B → Type 0) (g : A → B) → ((x : A) → P x → Q (g x)) → (xs : List A) → AllByRecursion P xs → AllByRecursion Q (map g xs)
all_mapped P Q g f [] h = tt
all_mapped P Q g f (x ∷ xs) h = (f x h.0, all_mapped P Q g f xs h.1)

pub all_get : {A : Type 0} (P : A → Type 0) (xs : List A) (i : ℕ) (x : A) → slice_get xs i ≡ Some x → AllByRecursion P xs → P x
all_get P [] i x e h = absurd (none-some x e)
all_get P (y ∷ xs) zero x e h = subst P (same_Some y x e) h.0
all_get P (y ∷ xs) (suc i) x e h = all_get P xs i x e h.1

pub has_left : {A : Type 0} (P : A → Type 0) (xs ys : List A) → Has P xs → Has P (xs ++ ys)
has_left P [] ys h = absurd h
has_left P (x ∷ xs) ys (inl p) = inl p
has_left P (x ∷ xs) ys (inr h) = inr (has_left P xs ys h)

pub has_right : {A : Type 0} (P : A → Type 0) (xs ys : List A) → Has P ys → Has P (xs ++ ys)
has_right P [] ys h = h
has_right P (x ∷ xs) ys h = inr (has_right P xs ys h)

pub has_mapped : {A B : Type 0} (P Q : A → Type 0) (S : B → Type 0) (g : A → B) → ((x : A) → P x → Q x → S (g x)) → (xs : List A) → AllByRecursion P xs → Has Q xs → Has S (map g xs)
has_mapped P Q S g f [] a h = absurd h
has_mapped P Q S g f (x ∷ xs) a (inl q) = inl (f x a.0 q)
has_mapped P Q S g f (x ∷ xs) a (inr h) = inr (has_mapped P Q S g f xs a.1 h)

pub has_get : {A : Type 0} (xs : List A) (i : ℕ) (x : A) → slice_get xs i ≡ Some x → Has (λ y. x ≡ y) xs
has_get [] i x e = absurd (none-some x e)
has_get (y ∷ xs) zero x e = inl (sym (same_Some y x e))
has_get (y ∷ xs) (suc i) x e = inr (has_get xs i x e)

pub get_more : {A : Type 0} (xs ys : List A) (i : ℕ) (x : A) → slice_get xs i ≡ Some x → slice_get (xs ++ ys) i ≡ Some x
get_more [] ys i x e = absurd (none-some x e)
get_more (y ∷ xs) ys zero x e = e
get_more (y ∷ xs) ys (suc i) x e = get_more xs ys i x e

get_last : {A : Type 0} (xs : List A) (x : A) → slice_get (xs ++ x ∷ []) (length xs) ≡ Some x
get_last [] x = refl
get_last (y ∷ xs) x = get_last xs x

pub last_more : (xs : List Reading) (r : Reading) → last_of (xs ++ r ∷ []) ≡ Some r
last_more [] r = refl
last_more (x ∷ []) r = refl
last_more (x ∷ y ∷ xs) r = last_more (y ∷ xs) r

pub joined_more : (step longest : ℕ) (xs : List Reading) (l r : Reading) → last_of xs ≡ Some l → AreJoined step longest xs → Follows step longest l r → AreJoined step longest (xs ++ r ∷ [])
joined_more step longest [] l r e h f = tt
joined_more step longest (x ∷ []) l r e h f = (subst (λ (p : Reading). Follows step longest p r) (sym (same_Some x l e)) f, tt)
joined_more step longest (x ∷ y ∷ xs) l r e h f = (h.0, joined_more step longest (y ∷ xs) l r e h.1 f)

pub point_more : (part : List Reading) (r : Reading) (p : Point) → IsPoint part p → IsPoint (part ++ r ∷ []) p
point_more part r p h = record { place = h.place; number = h.number; stands = get_more part (r ∷ []) h.place p.reading h.stands }

pub point_last : (part : List Reading) (r : Reading) (n : ℕ) → n ≡ length part → IsPoint (part ++ r ∷ []) (record { number = n + 1; reading = r })
point_last part r n e = record { place = length part; number = ap (λ (k : ℕ). k + 1) e; stands = get_last part r }
