-- What stands in a capture, packet by packet or block by block.
use Rattle.std.proofs.Common.{◌≡◌, ◌≤◌, ◌<◌, ◌+◌, ◌-◌, ◌^◌, ◌||◌, ◌&&◌, ℕ, Bool, true, false, cond, nat_lt, nat_le, List, [], ◌∷◌, ◌++◌, length, refl, ap, ◌∙◌, sym, subst, arith}
use Rattle.std.specs.Prelude.{min}
use Rattle.std.proofs.Math.Nat.{min-eq_left}
use Rattle.std.proofs.lemmas.Bool.{leb-false}
use Rattle.std.proofs.lemmas.Grind.{flat_map-append}
use Rattle.std.proofs.lemmas.List.{append_assoc, length-append}
use Rattle.vdr_terms.specs.Records.{FeedItem}
use Rattle.vdr_pcap.specs.Account.{account_from, counted, datagram_in, datagram_of, fate, item_from, items_from, items_of, no_account, with_fate, Fate, Given, LeftOut}
use Rattle.vdr_pcap.specs.Capture.{AreParts, Course, IsPart, Part, Refused as Refuses7, Takes, course_after, is_begun, is_some, is_too_much, no_course, pieces_of, step_of, text}
use Rattle.vdr_pcap.specs.Packets.{Parsed, Ends, Refuses, Reads, Piece, Nothing, Packet, Unread}
use Rattle.vdr_pcap.specs.Blocks.{beginning, parsed}
use Rattle.vdr_pcap.specs.declared.account.Account.{Account}

-- ---- one packet or block

-- What stands where it may: it is not too much, and the capture has then come behind it, and counts it.
pub record Advances (limit : ℕ) (c next : Course) (size : ℕ) (piece : Piece) : Type 0 where
  pub room : is_too_much limit c.offset c.account.items size piece ≡ false
  pub offset : next.offset ≡ c.offset + size
  pub account : next.account ≡ counted piece c.account

step_advances : (limit : ℕ) (c next : Course) (p : Parsed) (size : ℕ) (piece : Piece) → step_of limit c p ≡ Takes size next piece → Advances limit c next size piece
step_advances limit c next Ends size piece is = let none : ⊥ = cc in absurd none
step_advances limit c next (Refuses number) size piece is = let none : ⊥ = cc in absurd none
step_advances limit c next (Reads n s p) size piece is =
    let there : Course = record { standing = s; offset = c.offset + n; account = counted p c.account } in
    let go : (b : Bool) → is_too_much limit c.offset c.account.items n p ≡ b → cond b (Refuses7 7) (Takes n there p) ≡ Takes size next piece → Advances limit c next size piece =
    λ b. elim b as (λ b'. is_too_much limit c.offset c.account.items n p ≡ b' → cond b' (Refuses7 7) (Takes n there p) ≡ Takes size next piece → Advances limit c next size piece) [
      | true ↦ λ e same. let none : ⊥ = cc in absurd none
      | false ↦ λ e same. advanced limit c next there n size p piece e refl refl same
    ] in
    go (is_too_much limit c.offset c.account.items n p) refl is
  where
    advanced : (limit : ℕ) (c next there : Course) (n size : ℕ) (p piece : Piece) → is_too_much limit c.offset c.account.items n p ≡ false
        → there.offset ≡ c.offset + n → there.account ≡ counted p c.account → Takes n there p ≡ Takes size next piece → Advances limit c next size piece
    advanced limit c next there n size p piece room offset account same =
        let sizes : n ≡ size = cc in let nexts : there ≡ next = cc in let pieces : p ≡ piece = cc in
        record {
          room = sym (λ i. is_too_much limit c.offset c.account.items (sizes i) (pieces i)) ∙ room;
          offset = sym (ap (λ (x : Course). x.offset) nexts) ∙ offset ∙ ap (λ (k : ℕ). c.offset + k) sizes;
          account = sym (ap (λ (x : Course). x.account) nexts) ∙ account ∙ ap (λ (x : Piece). counted x c.account) pieces;
        }

pub part_advances : (limit : ℕ) (begun : Bool) (c : Course) (p : Part) → IsPart limit begun c p → Advances limit c p.next (length p.bytes) p.piece
part_advances limit false c p is = step_advances limit c p.next (beginning c.standing p.bytes) (length p.bytes) p.piece is.is
part_advances limit true c p is = step_advances limit c p.next (parsed c.standing p.bytes) (length p.bytes) p.piece is.is

-- ---- packets and blocks behind others

pub text_more : (ps qs : List Part) → text (ps ++ qs) ≡ text ps ++ text qs
text_more ps qs = flat_map-append (λ (p : Part). p.bytes) ps qs

pub pieces_more : (ps qs : List Part) → pieces_of (ps ++ qs) ≡ pieces_of ps ++ pieces_of qs
pieces_more [] qs = refl
pieces_more (p ∷ ps) qs = ap (λ (xs : List Piece). p.piece ∷ xs) (pieces_more ps qs)

pub course_more : (c : Course) (ps qs : List Part) → course_after c (ps ++ qs) ≡ course_after (course_after c ps) qs
course_more c [] qs = refl
course_more c (p ∷ ps) qs = course_more p.next ps qs

parts_more : (limit : ℕ) (c : Course) (ps qs : List Part) → AreParts limit true c ps → AreParts limit true (course_after c ps) qs → AreParts limit true c (ps ++ qs)
parts_more limit c [] qs are more = more
parts_more limit c (p ∷ ps) qs are more = (are.0, parts_more limit p.next ps qs are.1 more)

-- behind the first of a capture
pub capture_more : (limit : ℕ) (ps qs : List Part) → is_begun ps ≡ true → AreParts limit false no_course ps → AreParts limit true (course_after no_course ps) qs
    → AreParts limit false no_course (ps ++ qs) × (is_begun (ps ++ qs) ≡ true)
capture_more limit [] qs begins are more = let none : ⊥ = cc in absurd none
capture_more limit (p ∷ ps) qs begins are more = ((are.0, parts_more limit p.next ps qs are.1 more), refl)

pub account_after : (limit : ℕ) (begun : Bool) (c : Course) (ps : List Part) → AreParts limit begun c ps → (course_after c ps).account ≡ account_from c.account (pieces_of ps)
account_after limit begun c [] are = refl
account_after limit begun c (p ∷ ps) are =
    account_after limit true p.next ps are.1 ∙ ap (λ (a : Account). account_from a (pieces_of ps)) (part_advances limit begun c p are.0).account

pub offset_after : (limit : ℕ) (begun : Bool) (c : Course) (ps : List Part) → AreParts limit begun c ps → (course_after c ps).offset ≡ c.offset + length (text ps)
offset_after limit begun c [] are = omega arith
offset_after limit begun c (p ∷ ps) are =
    let rest = offset_after limit true p.next ps are.1 in
    let here = (part_advances limit begun c p are.0).offset in
    omega (arith, length-append p.bytes (text ps), rest, here)

items_more : (a : Account) (ps qs : List Piece) → items_from a (ps ++ qs) ≡ items_from a ps ++ items_from (account_from a ps) qs
items_more a [] qs = refl
items_more a (p ∷ ps) qs =
    ap (λ (xs : List FeedItem). item_from a (datagram_of p) ++ xs) (items_more (counted p a) ps qs)
    ∙ sym (append_assoc (item_from a (datagram_of p)) (items_from (counted p a) ps) (items_from (account_from (counted p a) ps) qs))

pub items_behind : (limit : ℕ) (ps qs : List Part) → AreParts limit false no_course ps
    → items_of (pieces_of (ps ++ qs)) ≡ items_of (pieces_of ps) ++ items_from (course_after no_course ps).account (pieces_of qs)
items_behind limit ps qs are =
    ap items_of (pieces_more ps qs) ∙ items_more no_account (pieces_of ps) (pieces_of qs)
    ∙ ap (λ (a : Account). items_of (pieces_of ps) ++ items_from a (pieces_of qs)) (sym (account_after limit false no_course ps are))

-- ---- how many items there are

past_or : (x y : Bool) → (x || y) ≡ false → y ≡ false
past_or true y is = let none : ⊥ = cc in absurd none
past_or false y is = is

fate_grows : (limit offset size : ℕ) (a : Account) (f : Fate) → limit < 2 ^ 64 → a.items ≤ limit
    → (nat_lt (2 ^ 64 - 1) (offset + size) || (is_some (datagram_in f) && nat_le limit a.items)) ≡ false
    → ((with_fate f a).items ≡ a.items + length (item_from a (datagram_in f))) × ((with_fate f a).items ≤ limit)
fate_grows limit offset size a (LeftOut row) small few room = (omega arith, few)
fate_grows limit offset size a (Given d) small few room =
    let fewer : a.items < limit = leb-false limit a.items (past_or (nat_lt (2 ^ 64 - 1) (offset + size)) (nat_le limit a.items) room) in
    let is : min (a.items + 1) (2 ^ 64 - 1) ≡ a.items + 1 = min-eq_left (omega (arith, fewer, small)) in
    (is, subst (λ (n : ℕ). n ≤ limit) (sym is) (omega (arith, fewer)))

piece_grows : (limit offset size : ℕ) (a : Account) (p : Piece) → limit < 2 ^ 64 → a.items ≤ limit → is_too_much limit offset a.items size p ≡ false
    → ((counted p a).items ≡ a.items + length (item_from a (datagram_of p))) × ((counted p a).items ≤ limit)
piece_grows limit offset size a Nothing small few room = (omega arith, few)
piece_grows limit offset size a Unread small few room = (omega arith, few)
piece_grows limit offset size a (Packet c) small few room = fate_grows limit offset size a (fate c) small few room

pub items_grow : (limit : ℕ) (begun : Bool) (c : Course) (ps : List Part) → limit < 2 ^ 64 → c.account.items ≤ limit → AreParts limit begun c ps
    → ((course_after c ps).account.items ≡ c.account.items + length (items_from c.account (pieces_of ps))) × ((course_after c ps).account.items ≤ limit)
items_grow limit begun c [] small few are = (omega arith, few)
items_grow limit begun c (p ∷ ps) small few are =
    let here = part_advances limit begun c p are.0 in
    let one = piece_grows limit c.offset (length p.bytes) c.account p.piece small few here.room in
    let counts : p.next.account.items ≡ (counted p.piece c.account).items = ap (λ (a : Account). a.items) here.account in
    let grown : p.next.account.items ≡ c.account.items + length (item_from c.account (datagram_of p.piece)) = counts ∙ one.0 in
    let rest = items_grow limit true p.next ps small (subst (λ (n : ℕ). n ≤ limit) (sym counts) one.1) are.1 in
    let same : length (items_from p.next.account (pieces_of ps)) ≡ length (items_from (counted p.piece c.account) (pieces_of ps)) = ap (λ (a : Account). length (items_from a (pieces_of ps))) here.account in
    let many = length-append (item_from c.account (datagram_of p.piece)) (items_from (counted p.piece c.account) (pieces_of ps)) in
    (omega (arith, grown, rest.0, same, many), rest.1)
