-- What is found is of one of the sixteen groups, and not too long.
use Rattle.std.proofs.Common.{◌≡◌, ◌≤◌, ◌<◌, ◌+◌, ◌-◌, ◌==◌, ℕ, Bool, true, false, not, ◌||◌, ◌&&◌, cond, nat_lt, List, length, take, drop, refl, arith}
use Rattle.std.specs.Prelude.{Result, Ok, Err}
use Rattle.std.proofs.lemmas.Bool.{ltb-false}
use Rattle.std.proofs.lemmas.List.{length-take}
use Rattle.std.proofs.Math.Nat.{min-le_left}
use Rattle.vdr_frame.specs.Numbers.{u16_at}
use Rattle.vdr_frame.specs.Links.{behind_link}
use Rattle.vdr_frame.specs.Packets.{at_port, counted, found_behind, fragment_offset, header_length, in_packet, in_udp, is_group_port, is_malformed, more_fragments, protocol, total_length}
use Rattle.vdr_frame.specs.Outcomes.{IsItem, Outcome, Left, Cut, Whole}
use Rattle.vdr_frame.specs.Laws.{FoundAreItems}
use Rattle.vdr_frame.specs.declared.found.Cause.{Cause}
use Rattle.vdr_frame.specs.declared.found.Cause.TheVariants.{Short, Protocol, Fragment, Malformed, Port}
use Rattle.vdr_frame.proofs.FrontLemmas.{counted_few}

either : (b : Bool) (x y : Outcome) → IsItem x → IsItem y → IsItem (cond b x y)
either true x y p q = p
either false x y p q = q

few_taken : (n : ℕ) (bytes : List ℕ) → n ≤ 1473 → length (take n bytes) ≤ 1473
few_taken n bytes few = omega (arith, length-take n bytes, min-le_left n (length bytes))

in_udp_item : (udp : List ℕ) (room : ℕ) (more : Bool) (group : ℕ) → group < 16 → IsItem (in_udp udp room more group)
in_udp_item udp room more group few =
    either (nat_lt (length udp) 6) (Cut group) _ few
    (either (nat_lt (u16_at udp 4) 8 || (not more && nat_lt room (u16_at udp 4))) (Left Malformed) _ tt
    (either (more || nat_lt (length udp) (8 + counted udp)) (Cut group) (Whole group (take (counted udp) (drop 8 udp))) few
    (few, few_taken (counted udp) (drop 8 udp) (counted_few udp))))

not_either : (x y : Bool) → not (x || y) ≡ true → y ≡ false
not_either true y is = let none : ⊥ = cc in absurd none
not_either false true is = let none : ⊥ = cc in absurd none
not_either false false is = refl

port_item : (port : ℕ) (udp : List ℕ) (room : ℕ) (more b : Bool) → is_group_port port ≡ b → IsItem (cond (not b) (Left (Port port)) (in_udp udp room more (port - 60_001)))
port_item port udp room more false is = tt
port_item port udp room more true is =
    let most : port ≤ 60_016 = ltb-false 60_016 port (not_either (nat_lt port 60_001) (nat_lt 60_016 port) is) in
    in_udp_item udp room more (port - 60_001) (omega (arith, most))

at_port_item : (udp : List ℕ) (room : ℕ) (more : Bool) → IsItem (at_port udp room more)
at_port_item udp room more = either (nat_lt (length udp) 4) (Left Short) _ tt (port_item (u16_at udp 2) udp room more (is_group_port (u16_at udp 2)) refl)

in_packet_item : (packet : List ℕ) → IsItem (in_packet packet)
in_packet_item packet =
    either (nat_lt (length packet) 20) (Left Short) _ tt
    (either (is_malformed packet) (Left Malformed) _ tt
    (either (not (protocol packet == 17)) (Left Protocol) _ tt
    (either (not (fragment_offset packet == 0)) (Left Fragment) _ tt
    (at_port_item (drop (header_length packet) packet) (total_length packet - header_length packet) (more_fragments packet)))))

behind_item : (r : Result (List ℕ) Cause) → IsItem (found_behind r)
behind_item (Ok packet) = in_packet_item packet
behind_item (Err cause) = tt

pub found_item : FoundAreItems
found_item link bytes = behind_item (behind_link link bytes)
