-- The front of a packet tells what it is.
use Rattle.std.proofs.Common.{◌≡◌, ◌≤◌, ◌+◌, ◌-◌, ◌*◌, ◌/◌, ◌%◌, ℕ, zero, suc, Bool, true, false, not, ◌&&◌, ◌||◌, ◌==◌, nat_lt, cond, List, length, take, drop, ap, ◌∙◌, refl, arith}
use Rattle.std.specs.Prelude.{slice_index, min, Result, Ok, Err}
use Rattle.std.proofs.Math.Nat.{min-le_right}
use Rattle.vdr_frame.specs.Numbers.{u16_at}
use Rattle.vdr_frame.specs.Links.{behind_family, behind_tags, behind_type, behind_version, is_loopback, is_raw, is_tag, of_type, says}
use Rattle.vdr_frame.specs.Packets.{at_port, counted, found_behind, header_length, in_packet, in_udp, is_group_port}
use Rattle.vdr_frame.specs.Outcomes.{Left, Cut, Whole}
use Rattle.vdr_frame.specs.Laws.{FrontDecides}
use Rattle.vdr_frame.specs.declared.found.Cause.{Cause}
use Rattle.vdr_frame.specs.declared.found.Cause.TheVariants.{Short, Protocol, Ipv6, Fragment, Malformed, Port}
use Rattle.vdr_frame.proofs.TakenLemmas.{behind, byte_at, number_at, part, shorter}

pub counted_few : (udp : List ℕ) → counted udp ≤ 1473
counted_few udp = min-le_right (u16_at udp 4 - 8) 1473

in_udp_front : (n : ℕ) (udp : List ℕ) (room : ℕ) (more : Bool) (group : ℕ) → 1481 ≤ n → in_udp (take n udp) room more group ≡ in_udp udp room more group
in_udp_front n udp room more group held =
    let size = number_at n 4 udp (omega arith) in
    let few : counted udp ≤ 1473 = counted_few udp in
    let same : counted (take n udp) ≡ counted udp = λ i. min (size i - 8) 1473 in
    let long = ap (λ (c : ℕ). nat_lt (length (take n udp)) (8 + c)) same ∙ shorter n (8 + counted udp) udp (omega arith) in
    let payload = ap (λ (c : ℕ). take c (drop 8 (take n udp))) same ∙ part n 8 (counted udp) udp (omega arith) in
    λ i. cond (shorter n 6 udp (omega arith) i) (Cut group)
    (cond (nat_lt (size i) 8 || (not more && nat_lt room (size i))) (Left Malformed)
    (cond (more || long i) (Cut group) (Whole group (payload i))))

at_port_front : (n : ℕ) (udp : List ℕ) (room : ℕ) (more : Bool) → 1481 ≤ n → at_port (take n udp) room more ≡ at_port udp room more
at_port_front n udp room more held =
    let port = number_at n 2 udp (omega arith) in
    let inside = ap (λ (p : ℕ). in_udp (take n udp) room more (p - 60_001)) port ∙ in_udp_front n udp room more (u16_at udp 2 - 60_001) held in
    λ i. cond (shorter n 4 udp (omega arith) i) (Left Short)
    (cond (not (is_group_port (port i))) (Left (Port (port i))) (inside i))

header_few : (packet : List ℕ) → header_length packet ≤ 60
header_few packet = omega arith

pub in_packet_front : (n : ℕ) (packet : List ℕ) → 1541 ≤ n → in_packet (take n packet) ≡ in_packet packet
in_packet_front n packet held =
    let first = byte_at n 0 packet (omega arith) in
    let total = number_at n 2 packet (omega arith) in
    let fragment = number_at n 6 packet (omega arith) in
    let protocol = byte_at n 9 packet (omega arith) in
    let few : header_length packet ≤ 60 = header_few packet in
    let rest = ap (λ (f : ℕ). drop (4 * (f % 16)) (take n packet)) first ∙ behind n (header_length packet) packet (omega arith) in
    let read : at_port (drop (header_length (take n packet)) (take n packet)) (u16_at (take n packet) 2 - header_length (take n packet)) (u16_at (take n packet) 6 / 8192 % 2 == 1)
    ≡ at_port (take (n - header_length packet) (drop (header_length packet) packet)) (u16_at packet 2 - header_length packet) (u16_at packet 6 / 8192 % 2 == 1) =
    λ i. at_port (rest i) (total i - 4 * (first i % 16)) (fragment i / 8192 % 2 == 1) in
    let inside = read ∙ at_port_front (n - header_length packet) (drop (header_length packet) packet) (u16_at packet 2 - header_length packet) (u16_at packet 6 / 8192 % 2 == 1) (omega arith) in
    λ i. cond (shorter n 20 packet (omega arith) i) (Left Short)
    (cond (not (first i / 16 == 4) || nat_lt (4 * (first i % 16)) 20 || nat_lt (total i) (4 * (first i % 16))) (Left Malformed)
    (cond (not (protocol i == 17)) (Left Protocol)
    (cond (not (fragment i % 8192 == 0)) (Left Fragment) (inside i))))

-- one of two texts behind a header
found_either : (ip : Bool) (x y : List ℕ) (other : Result (List ℕ) Cause) → in_packet x ≡ in_packet y → found_behind (cond ip (Ok x) other) ≡ found_behind (cond ip (Ok y) other)
found_either true x y other same = same
found_either false x y other same = refl

of_type_front : (n kind : ℕ) (rest : List ℕ) → 1541 ≤ n → found_behind (of_type kind (take n rest)) ≡ found_behind (of_type kind rest)
of_type_front n kind rest held = found_either (kind == 0x0800) (take n rest) rest (cond (kind == 0x86DD) (Err Ipv6) (Err Protocol)) (in_packet_front n rest held)

-- behind a test that both texts pass or neither does
past_test : (b : Bool) (cause : Cause) (x y : Result (List ℕ) Cause) → found_behind x ≡ found_behind y → found_behind (cond b (Err cause) x) ≡ found_behind (cond b (Err cause) y)
past_test true cause x y same = refl
past_test false cause x y same = same

-- a type that is a tag's, or none
either_type : (b : Bool) (x y z w : Result (List ℕ) Cause) → found_behind x ≡ found_behind y → found_behind z ≡ found_behind w → found_behind (cond (not b) x z) ≡ found_behind (cond (not b) y w)
either_type true x y z w plain tagged = tagged
either_type false x y z w plain tagged = plain

tags_front : (tags n kind : ℕ) (rest : List ℕ) → 1541 + 4 * tags ≤ n → found_behind (behind_tags tags kind (take n rest)) ≡ found_behind (behind_tags tags kind rest)
tags_front zero n kind rest held = of_type_front n kind rest (omega arith)
tags_front (suc tags) n kind rest held =
    let next = number_at n 2 rest (omega arith) in
    let tagged : found_behind (behind_tags tags (u16_at (take n rest) 2) (drop 4 (take n rest))) ≡ found_behind (behind_tags tags (u16_at rest 2) (drop 4 rest)) =
    (λ i. found_behind (behind_tags tags (next i) (behind n 4 rest (omega arith) i))) ∙ tags_front tags (n - 4) (u16_at rest 2) (drop 4 rest) (omega arith) in
    either_type (is_tag kind) _ _ _ _ (of_type_front n kind rest (omega arith))
    (ap (λ (b : Bool). found_behind (cond b (Err Short) (behind_tags tags (u16_at (take n rest) 2) (drop 4 (take n rest))))) (shorter n 4 rest (omega arith))
    ∙ past_test (nat_lt (length rest) 4) Short _ _ tagged)

type_front : (n at size : ℕ) (bytes : List ℕ) → at + 2 ≤ size → size ≤ 20 → 1569 ≤ n → found_behind (behind_type (take n bytes) at size) ≡ found_behind (behind_type bytes at size)
type_front n at size bytes inside few held =
    let kind = number_at n at bytes (omega arith) in
    ap (λ (b : Bool). found_behind (cond b (Err Short) (behind_tags 2 (u16_at (take n bytes) at) (drop size (take n bytes))))) (shorter n size bytes (omega arith))
    ∙ past_test (nat_lt (length bytes) size) Short _ _
    ((λ i. found_behind (behind_tags 2 (kind i) (behind n size bytes (omega arith) i))) ∙ tags_front 2 (n - size) (u16_at bytes at) (drop size bytes) (omega arith))

says_front : (n k : ℕ) (bytes : List ℕ) → 4 ≤ n → says (take n bytes) k ≡ says bytes k
says_front n k bytes held =
    let a = byte_at n 0 bytes (omega arith) in let b = byte_at n 1 bytes (omega arith) in
    let c = byte_at n 2 bytes (omega arith) in let d = byte_at n 3 bytes (omega arith) in
    λ i. (a i == k && b i == 0 && c i == 0 && d i == 0) || (a i == 0 && b i == 0 && c i == 0 && d i == k)

family_front : (n : ℕ) (bytes : List ℕ) → 1569 ≤ n → found_behind (behind_family (take n bytes)) ≡ found_behind (behind_family bytes)
family_front n bytes held =
    let four = says_front n 2 bytes (omega arith) in
    let a = says_front n 10 bytes (omega arith) in let b = says_front n 24 bytes (omega arith) in
    let c = says_front n 28 bytes (omega arith) in let d = says_front n 30 bytes (omega arith) in
    (λ i. found_behind (cond (shorter n 4 bytes (omega arith) i) (Err Short)
    (cond (four i) (Ok (behind n 4 bytes (omega arith) i)) (cond (a i || b i || c i || d i) (Err Ipv6) (Err Protocol)))))
    ∙ past_test (nat_lt (length bytes) 4) Short _ _ (found_either (says bytes 2) _ _ _ (in_packet_front (n - 4) (drop 4 bytes) (omega arith)))

version_front : (n : ℕ) (bytes : List ℕ) → 1569 ≤ n → found_behind (behind_version (take n bytes)) ≡ found_behind (behind_version bytes)
version_front n bytes held =
    let first = byte_at n 0 bytes (omega arith) in
    (λ i. found_behind (cond (shorter n 1 bytes (omega arith) i) (Err Short)
    (cond (first i / 16 == 4) (Ok (take n bytes)) (cond (first i / 16 == 6) (Err Ipv6) (Err Protocol)))))
    ∙ past_test (nat_lt (length bytes) 1) Short _ _ (found_either (slice_index bytes 0 / 16 == 4) _ _ _ (in_packet_front n bytes (omega arith)))

-- one of two kinds of link
either_link : (b : Bool) (x y z w : Result (List ℕ) Cause) → found_behind x ≡ found_behind y → found_behind z ≡ found_behind w → found_behind (cond b x z) ≡ found_behind (cond b y w)
either_link true x y z w here there = here
either_link false x y z w here there = there

pub front_decides : FrontDecides
front_decides link n bytes held =
    either_link (link == 1) _ _ _ _ (type_front n 12 14 bytes (omega arith) (omega arith) held)
    (either_link (link == 113) _ _ _ _ (type_front n 14 16 bytes (omega arith) (omega arith) held)
    (either_link (link == 276) _ _ _ _ (type_front n 0 20 bytes (omega arith) (omega arith) held)
    (either_link (is_loopback link) _ _ _ _ (family_front n bytes held)
    (either_link (is_raw link) _ _ _ _ (version_front n bytes held) refl))))
