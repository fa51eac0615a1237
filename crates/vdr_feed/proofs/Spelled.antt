-- An item is read back from its spelling, whatever follows it.
use Rattle.std.proofs.Common.{◌≡◌, ◌≤◌, ◌<◌, ◌+◌, ◌^◌, ◌||◌, ℕ, pos, Bool, List, [], ◌∷◌, ◌++◌, length, drop, Option, None, Some, refl, ap, ◌∙◌, sym, cond, arith, append_assoc}
use Rattle.std.specs.Prelude.{nat_lt, unsigned_abs}
use Rattle.std.proofs.lemmas.Bool.{lt-leb, le-ltb}
use Rattle.std.proofs.lemmas.List.{length-append}
use Rattle.std.proofs.lemmas.Nat.{from_le_bytes-to_le_bytes_8, from_le_bytes-to_le_bytes_2}
use Rattle.vdr_terms.specs.Records.{FeedItem}
use Rattle.vdr_terms.specs.Stamps.{last_stamp}
use Rattle.vdr_feed.specs.Feed.{IsItem, head, spelling, group_in, received_in, utc_in, length_in, number_fault, head_fault, body_fault, first_of, fault_of}
use Rattle.vdr_feed.proofs.Grammar.{length-front, head_fault-front, long_fault}

received_of : (i : FeedItem) → i.item.received < 2 ^ 64 → received_in (head i) ≡ i.item.received
received_of i l = from_le_bytes-to_le_bytes_8 i.item.received l

utc_of : (i : FeedItem) → unsigned_abs i.item.utc < 2 ^ 64 → utc_in (head i) ≡ unsigned_abs i.item.utc
utc_of i l = from_le_bytes-to_le_bytes_8 (unsigned_abs i.item.utc) l

len_of : (i : FeedItem) → length i.item.bytes < 2 ^ 16 → length_in (head i) ≡ length i.item.bytes
len_of i l = from_le_bytes-to_le_bytes_2 (length i.item.bytes) l

-- the parts of two equal texts whose fronts are equally long
parts : (a b x y : List ℕ) → length a ≡ length b → a ++ x ≡ b ++ y → (a ≡ b) × (x ≡ y)
parts [] [] x y l e = (refl, e)
parts [] (b ∷ more) x y l e = absurd (omega (arith, l))
parts (a ∷ rest) [] x y l e = absurd (omega (arith, l))
parts (a ∷ rest) (b ∷ more) x y l e =
    let tails : rest ++ x ≡ more ++ y = ap (λ (xs : List ℕ). drop 1 xs) e in
    let heads : a ≡ b = cc in
    let p = parts rest more x y (omega (arith, l)) tails in
    (ap (λ (xs : List ℕ). a ∷ xs) p.0 ∙ ap (λ (c : ℕ). c ∷ more) heads, p.1)

-- what stands behind the head
whole : (i : FeedItem) (x : List ℕ) → spelling i ++ x ≡ head i ++ (i.item.bytes ++ x)
whole i x = append_assoc (head i) i.item.bytes x

numbers : (i : FeedItem) → (floor : ℕ) → IsItem floor i → (received_in (head i) ≡ i.item.received) × (utc_in (head i) ≡ unsigned_abs i.item.utc) × (length_in (head i) ≡ length i.item.bytes)
numbers i floor legal =
    let r = legal.received in let u = legal.utc.in_time in let s = legal.short in
    (received_of i (omega (arith, r)), utc_of i (omega (arith, u)), len_of i (omega (arith, s)))

item_path : (i j : FeedItem) → i.group ≡ j.group → i.item.received ≡ j.item.received → i.item.utc ≡ j.item.utc → i.item.bytes ≡ j.item.bytes → i ≡ j
item_path i j g r u b = λ k. record { group = g k; item = record { received = r k; utc = u k; bytes = b k } }

-- no item's spelling begins another's
pub same_item : (f g : ℕ) (i j : FeedItem) (x y : List ℕ) → IsItem f i → IsItem g j → spelling i ++ x ≡ spelling j ++ y → (i ≡ j) × (x ≡ y)
same_item f g i j x y a b e =
    let n = numbers i f a in
    let m = numbers j g b in
    let texts : head i ++ (i.item.bytes ++ x) ≡ head j ++ (j.item.bytes ++ y) = sym (whole i x) ∙ (e ∙ whole j y) in
    let fronts = parts (head i) (head j) (i.item.bytes ++ x) (j.item.bytes ++ y) refl texts in
    let group : i.group ≡ j.group = ap group_in fronts.0 in
    let received : i.item.received ≡ j.item.received = sym n.0 ∙ (ap received_in fronts.0 ∙ m.0) in
    let stamp : unsigned_abs i.item.utc ≡ unsigned_abs j.item.utc = sym n.1 ∙ (ap utc_in fronts.0 ∙ m.1) in
    let utc : i.item.utc ≡ j.item.utc = a.utc.whole ∙ (ap pos stamp ∙ sym b.utc.whole) in
    let len : length i.item.bytes ≡ length j.item.bytes = sym n.2 ∙ (ap length_in fronts.0 ∙ m.2) in
    let bodies = parts i.item.bytes j.item.bytes x y len fronts.1 in
    (item_path i j group received utc bodies.0, bodies.1)

-- what stands at an item has no fault
legal_numbers : (floor group received utc : ℕ) → group ≤ 15 → floor ≤ received → received < 2 ^ 48 → utc ≤ last_stamp → number_fault floor group received utc ≡ None
legal_numbers floor group received utc g f r u =
    ap (λ (b : Bool). cond (b || nat_lt last_stamp utc) (Some 3) (cond (nat_lt 15 group) (Some 4) (cond (nat_lt received floor) (Some 5) None))) (lt-leb (2 ^ 48) received r)
    ∙ (ap (λ (b : Bool). cond b (Some 3) (cond (nat_lt 15 group) (Some 4) (cond (nat_lt received floor) (Some 5) None))) (le-ltb last_stamp utc u)
    ∙ (ap (λ (b : Bool). cond b (Some 4) (cond (nat_lt received floor) (Some 5) None)) (le-ltb 15 group g)
    ∙ ap (λ (b : Bool). cond b (Some 5) None) (le-ltb received floor f)))

pub no_fault : (limit count floor : ℕ) (i : FeedItem) (x : List ℕ) → count < limit → IsItem floor i → fault_of limit count floor (spelling i ++ x) ≡ None
no_fault limit count floor i x room legal =
    let n = numbers i floor legal in
    let long : length (head i ++ (i.item.bytes ++ x)) ≡ 19 + (length i.item.bytes + length x) = length-append (head i) (i.item.bytes ++ x) ∙ ap (λ (k : ℕ). 19 + k) (length-append i.item.bytes x) in
    let numbers_ok : head_fault floor (head i) ≡ None =
    ap (λ (r : ℕ). number_fault floor i.group r (utc_in (head i))) n.0
    ∙ (ap (λ (u : ℕ). number_fault floor i.group i.item.received u) n.1
    ∙ legal_numbers floor i.group i.item.received (unsigned_abs i.item.utc) legal.group legal.later legal.received legal.utc.in_time) in
    let len : length_in (head i ++ (i.item.bytes ++ x)) ≡ length i.item.bytes = length-front (head i) (i.item.bytes ++ x) refl ∙ n.2 in
    let body_ok : body_fault (head i ++ (i.item.bytes ++ x)) ≡ None =
    ap (λ (b : Bool). cond b (Some 2) None) (le-ltb (length (head i ++ (i.item.bytes ++ x))) (19 + length_in (head i ++ (i.item.bytes ++ x))) (omega (arith, long, len))) in
    ap (λ (bytes : List ℕ). fault_of limit count floor bytes) (whole i x)
    ∙ (long_fault limit count floor (head i ++ (i.item.bytes ++ x)) room (omega (arith, long))
    ∙ (ap (λ (o : Option ℕ). first_of o (body_fault (head i ++ (i.item.bytes ++ x)))) (head_fault-front floor (head i) (i.item.bytes ++ x) refl ∙ numbers_ok) ∙ body_ok))
