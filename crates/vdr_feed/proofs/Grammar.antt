-- How the bytes at hand tell what stands at the front of the bytes left.
use Rattle.std.proofs.Common.{◌≡◌, ◌≤◌, ◌<◌, ◌+◌, ◌^◌, ◌||◌, ℕ, suc, Bool, true, false, List, [], ◌∷◌, ◌++◌, length, take, drop, Option, None, Some, refl, ap, ◌∙◌, sym, subst, cond, arith, lit<, pos, w16, w64}
use Rattle.std.specs.Prelude.{nat_le, nat_lt}
use Rattle.std.specs.Int.{to_le_bytes, from_le_bytes}
use Rattle.std.specs.Io.KnownBytes.{Consumes, IsAtEnd}
use Rattle.std.proofs.lemmas.Bool.{le-leb, lt-leb, leb-false, ltb-false, or_parts}
use Rattle.std.proofs.lemmas.List.{drop-append-le, take-append-le, take-append-drop, length-drop, length-take-le, length-append, append_assoc, drop-drop, take_all}
use Rattle.std.proofs.lemmas.Nat.{le_bytes_8, le_bytes_2}
use Rattle.vdr_terms.specs.Records.{FeedItem}
use Rattle.vdr_terms.specs.Stamps.{last_stamp}
use Rattle.vdr_terms.specs.Legality.{IsBytes}
use Rattle.vdr_terms.proofs.Bytes.{IsBytes-drop, IsBytes-take, part_long}
use Rattle.vdr_feed.specs.Feed.{IsItem, group_in, received_in, utc_in, length_in, number_fault, head_fault, body_fault, first_of, fault_of, spelling}
use Rattle.vdr_feed.specs.Reader.{IfKnown}

-- what a fault is where some byte is left
pub fault_of-some : (limit count floor : ℕ) (bytes : List ℕ) → 0 < length bytes
    → fault_of limit count floor bytes ≡ cond (nat_le limit count) (Some 6) (cond (nat_lt (length bytes) 19) (Some 2) (first_of (head_fault floor bytes) (body_fault bytes)))
fault_of-some limit count floor [] some = absurd (some_none some) where
  some_none : 0 < 0 → ⊥
  some_none h = omega (arith, h)
fault_of-some limit count floor (b ∷ bytes) some = refl

pub short_fault : (limit count floor : ℕ) (bytes : List ℕ) → count < limit → 0 < length bytes → length bytes < 19 → fault_of limit count floor bytes ≡ Some 2
short_fault limit count floor bytes room some short =
    fault_of-some limit count floor bytes some
    ∙ ap (λ (b : Bool). cond b (Some 6) (cond (nat_lt (length bytes) 19) (Some 2) (first_of (head_fault floor bytes) (body_fault bytes)))) (lt-leb limit count room)
    ∙ ap (λ (b : Bool). cond b (Some 2) (first_of (head_fault floor bytes) (body_fault bytes))) (le-leb (suc (length bytes)) 19 short)

pub long_fault : (limit count floor : ℕ) (bytes : List ℕ) → count < limit → 19 ≤ length bytes → fault_of limit count floor bytes ≡ first_of (head_fault floor bytes) (body_fault bytes)
long_fault limit count floor bytes room long =
    fault_of-some limit count floor bytes (omega (arith, long))
    ∙ ap (λ (b : Bool). cond b (Some 6) (cond (nat_lt (length bytes) 19) (Some 2) (first_of (head_fault floor bytes) (body_fault bytes)))) (lt-leb limit count room)
    ∙ ap (λ (b : Bool). cond b (Some 2) (first_of (head_fault floor bytes) (body_fault bytes))) (lt-leb (suc (length bytes)) 19 (omega (arith, long)))

-- a part that lies in the front
pub part_of : (n m : ℕ) (front rest : List ℕ) → n + m ≤ length front → take m (drop n (front ++ rest)) ≡ take m (drop n front)
part_of n m front rest within =
    ap (λ (xs : List ℕ). take m xs) (drop-append-le n front rest (omega (arith, within)))
    ∙ take-append-le m (drop n front) rest (grind (arith, length-drop n front, within))

-- the numbers of a head are those of the bytes that begin with it
pub received-front : (h rest : List ℕ) → length h ≡ 19 → received_in (h ++ rest) ≡ received_in h
received-front h rest long = ap (λ (xs : List ℕ). from_le_bytes w64 xs) (part_of 1 8 h rest (omega (arith, long)))

pub utc-front : (h rest : List ℕ) → length h ≡ 19 → utc_in (h ++ rest) ≡ utc_in h
utc-front h rest long = ap (λ (xs : List ℕ). from_le_bytes w64 xs) (part_of 9 8 h rest (omega (arith, long)))

pub length-front : (h rest : List ℕ) → length h ≡ 19 → length_in (h ++ rest) ≡ length_in h
length-front h rest long = ap (λ (xs : List ℕ). from_le_bytes w16 xs) (part_of 17 2 h rest (omega (arith, long)))

pub group-front : (h rest : List ℕ) → length h ≡ 19 → group_in (h ++ rest) ≡ group_in h
group-front [] rest long = let none : ⊥ = omega (arith, long) in absurd none
group-front (b ∷ bs) rest long = refl

pub head_fault-front : (floor : ℕ) (h rest : List ℕ) → length h ≡ 19 → head_fault floor (h ++ rest) ≡ head_fault floor h
head_fault-front floor h rest long =
    ap (λ (g : ℕ). number_fault floor g (received_in (h ++ rest)) (utc_in (h ++ rest))) (group-front h rest long)
    ∙ ap (λ (r : ℕ). number_fault floor (group_in h) r (utc_in (h ++ rest))) (received-front h rest long)
    ∙ ap (λ (u : ℕ). number_fault floor (group_in h) (received_in h) u) (utc-front h rest long)

-- what no fault means
cond_none : (b : Bool) (n : ℕ) (o : Option ℕ) → cond b (Some n) o ≡ None → (b ≡ false) × (o ≡ None)
cond_none true n o e = absurd (some_is e) where
  some_is : Some n ≡ None → ⊥
  some_is h = cc
cond_none false n o e = (refl, e)

pub number_legal : (floor group received utc : ℕ) → number_fault floor group received utc ≡ None
    → (group ≤ 15) × (floor ≤ received) × (received < 2 ^ 48) × (utc ≤ last_stamp)
number_legal floor group received utc e =
    let range = cond_none (nat_le (2 ^ 48) received || nat_lt last_stamp utc) 3 _ e in
    let parts = or_parts (nat_le (2 ^ 48) received) (nat_lt last_stamp utc) range.0 in
    let known = cond_none (nat_lt 15 group) 4 _ range.1 in
    let order = cond_none (nat_lt received floor) 5 None known.1 in
    (ltb-false 15 group known.0, ltb-false received floor order.0, leb-false (2 ^ 48) received parts.0, ltb-false last_stamp utc parts.1)

-- a list is its part from n on and what follows it
cut : (n m : ℕ) (xs : List ℕ) → drop n xs ≡ take m (drop n xs) ++ drop (n + m) xs
cut n m xs = sym (take-append-drop m (drop n xs)) ∙ ap (λ (ys : List ℕ). take m (drop n xs) ++ ys) (drop-drop m n xs)

first_byte : (h : List ℕ) → 0 < length h → h ≡ group_in h ∷ drop 1 h
first_byte [] some = absurd (none some) where
  none : 0 < 0 → ⊥
  none e = omega (arith, e)
first_byte (b ∷ bs) some = refl

-- a head is its parts
assembled : (h : List ℕ) → length h ≡ 19 → h ≡ group_in h ∷ (take 8 (drop 1 h) ++ take 8 (drop 9 h) ++ take 2 (drop 17 h))
assembled h long =
    let tail : take 2 (drop 17 h) ≡ drop 17 h = take_all 2 (drop 17 h) (grind (arith, length-drop 17 h, long)) in
    first_byte h (omega (arith, long))
    ∙ ap (λ (t : List ℕ). group_in h ∷ t)
    (cut 1 8 h ∙ ap (λ (t : List ℕ). take 8 (drop 1 h) ++ t) (cut 9 8 h ∙ ap (λ (t : List ℕ). take 8 (drop 9 h) ++ t) (sym tail))
    ∙ sym (append_assoc (take 8 (drop 1 h)) (take 8 (drop 9 h)) (take 2 (drop 17 h))))

-- a head is spelled by its numbers
abbrev pub spelled : ℕ → List ℕ → List ℕ → List ℕ → List ℕ
spelled g r u l = g ∷ (r ++ u ++ l)

pub head_spelled : (h : List ℕ) → length h ≡ 19 → IsBytes h
    → h ≡ spelled (group_in h) (to_le_bytes w64 (received_in h)) (to_le_bytes w64 (utc_in h)) (to_le_bytes w16 (length_in h))
head_spelled h long bytes =
    let received : to_le_bytes w64 (received_in h) ≡ take 8 (drop 1 h) = le_bytes_8 (take 8 (drop 1 h)) (received_in h) (part_long 1 8 h (omega (arith, long))) (IsBytes-take 8 (drop 1 h) (IsBytes-drop 1 h bytes)) refl in
    let utc : to_le_bytes w64 (utc_in h) ≡ take 8 (drop 9 h) = le_bytes_8 (take 8 (drop 9 h)) (utc_in h) (part_long 9 8 h (omega (arith, long))) (IsBytes-take 8 (drop 9 h) (IsBytes-drop 9 h bytes)) refl in
    let len : to_le_bytes w16 (length_in h) ≡ take 2 (drop 17 h) = le_bytes_2 (take 2 (drop 17 h)) (length_in h) (part_long 17 2 h (omega (arith, long))) (IsBytes-take 2 (drop 17 h) (IsBytes-drop 17 h bytes)) refl in
    assembled h long
    ∙ ap (λ (r : List ℕ). spelled (group_in h) r (take 8 (drop 9 h)) (take 2 (drop 17 h))) (sym received)
    ∙ ap (λ (u : List ℕ). spelled (group_in h) (to_le_bytes w64 (received_in h)) u (take 2 (drop 17 h))) (sym utc)
    ∙ ap (λ (l : List ℕ). spelled (group_in h) (to_le_bytes w64 (received_in h)) (to_le_bytes w64 (utc_in h)) l) (sym len)

-- the item that a head and a body spell
abbrev pub item_of : List ℕ → List ℕ → FeedItem
item_of h body = record { group = group_in h; item = record { received = received_in h; utc = pos (utc_in h); bytes = body } }

pub item_spelled : (h body : List ℕ) → length h ≡ 19 → IsBytes h → length body ≡ length_in h → h ++ body ≡ spelling (item_of h body)
item_spelled h body long bytes len =
    ap (λ (xs : List ℕ). xs ++ body)
    (head_spelled h long bytes ∙ ap (λ (n : ℕ). spelled (group_in h) (to_le_bytes w64 (received_in h)) (to_le_bytes w64 (utc_in h)) (to_le_bytes w16 n)) (sym len))

pub item_legal : (floor : ℕ) (h body : List ℕ) → head_fault floor h ≡ None → length body < 2 ^ 16 → IsItem floor (item_of h body)
item_legal floor h body none short =
    let legal = number_legal floor (group_in h) (received_in h) (utc_in h) none in
    record { group = legal.0; later = legal.1; received = legal.2; utc = record { whole = refl; in_time = legal.3 }; short = short }

-- what is known of the bytes left, once a front of them is at hand
pub known : (a b : Option (List ℕ)) (front : List ℕ) (P : List ℕ → Type 0) → Consumes a b front → ((rest : List ℕ) → b ≡ Some rest → P (front ++ rest)) → IfKnown a P
known None b front P front_is all = tt
known (Some xs) None front P front_is all = absurd front_is
known (Some xs) (Some rest) front P front_is all = subst P (sym front_is) (all rest refl)

-- the three refusals of an item, with the bytes left
pub refuses_short : (a b : Option (List ℕ)) (limit count floor got : ℕ) (buffer : List ℕ) → Consumes a b (take got buffer) → IsAtEnd b → got ≤ length buffer
    → count < limit → (got ≡ 0 → ⊥) → got < 19 → IfKnown a (λ bytes. fault_of limit count floor bytes ≡ Some 2)
refuses_short a b limit count floor got buffer front end fits room some short =
    let long : length (take got buffer) ≡ got = length-take-le got buffer fits in
    known a b (take got buffer) (λ bytes. fault_of limit count floor bytes ≡ Some 2) front
    (λ rest is.
    let none : rest ≡ [] = subst (λ (o : Option (List ℕ)). IsAtEnd o) is end in
    let total : length (take got buffer ++ rest) ≡ got = length-append (take got buffer) rest ∙ ap (λ (r : List ℕ). length (take got buffer) + length r) none ∙ omega (arith, long) in
    short_fault limit count floor (take got buffer ++ rest) room (omega (arith, total, some)) (omega (arith, total, short)))

pub refuses_head : (a b : Option (List ℕ)) (limit count floor number : ℕ) (h : List ℕ) → Consumes a b h → length h ≡ 19
    → count < limit → head_fault floor h ≡ Some number → IfKnown a (λ bytes. fault_of limit count floor bytes ≡ Some number)
refuses_head a b limit count floor number h front long room fault =
    known a b h (λ bytes. fault_of limit count floor bytes ≡ Some number) front
    (λ rest _. long_fault limit count floor (h ++ rest) room (grind (arith, length-append h rest, long))
    ∙ ap (λ (o : Option ℕ). first_of o (body_fault (h ++ rest))) (head_fault-front floor h rest long ∙ fault))

-- a part of a body, behind a head without a fault
pub inside_body : (limit count floor : ℕ) (h rest : List ℕ) → length h ≡ 19 → count < limit → head_fault floor h ≡ None → length rest < length_in h → fault_of limit count floor (h ++ rest) ≡ Some 2
inside_body limit count floor h rest long room none less =
    let few : length (h ++ rest) < 19 + length_in (h ++ rest) = rw (length-front h rest long) (grind (arith, length-append h rest, long, less)) in
    long_fault limit count floor (h ++ rest) room (grind (arith, length-append h rest, long))
    ∙ ap (λ (o : Option ℕ). first_of o (body_fault (h ++ rest))) (head_fault-front floor h rest long ∙ none)
    ∙ ap (λ (t : Bool). cond t (Some 2) None) (le-leb (suc (length (h ++ rest))) (19 + length_in (h ++ rest)) few)

pub refuses_body : (a b c : Option (List ℕ)) (limit count floor : ℕ) (h : List ℕ) → Consumes a b h → length h ≡ 19 → count < limit → head_fault floor h ≡ None
    → (body : List ℕ) × (length body < length_in h) × Consumes b c body × IsAtEnd c → IfKnown a (λ bytes. fault_of limit count floor bytes ≡ Some 2)
refuses_body a b c limit count floor h front long room none p =
    known a b h (λ bytes. fault_of limit count floor bytes ≡ Some 2) front
    (λ rest is.
    let all : IfKnown (Some rest) (λ r. length r ≡ length p.0) = subst (λ (o : Option (List ℕ)). IfKnown o (λ r. length r ≡ length p.0)) is
    (known b c p.0 (λ r. length r ≡ length p.0) p.2 (λ more more_is. let none_left : more ≡ [] = subst (λ (o : Option (List ℕ)). IsAtEnd o) more_is p.3 in length-append p.0 more ∙ ap (λ (r : List ℕ). length p.0 + length r) none_left ∙ omega arith)) in
    let less : length p.0 < length_in h = p.1 in
    inside_body limit count floor h rest long room none (omega (arith, all, less)))
