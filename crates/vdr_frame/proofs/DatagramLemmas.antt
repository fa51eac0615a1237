-- A datagram as it is spelled, and what is found of as much of it as was captured.
use Rattle.std.proofs.Common.{◌≡◌, ◌≤◌, ◌<◌, ◌+◌, ◌-◌, ◌*◌, ℕ, Bool, false, not, ◌||◌, nat_lt, cond, List, ◌++◌, length, take, drop, ap, ◌∙◌, refl, arith}
use Rattle.std.specs.Prelude.{min}
use Rattle.std.proofs.Math.Nat.{div-add-mod, min-le_left, min_comm}
use Rattle.std.proofs.lemmas.Bool.{cond-false, le-ltb, ltb-false}
use Rattle.std.proofs.lemmas.List.{length-append, take-append-le, take_min}
use Rattle.vdr_frame.specs.Numbers.{u16_at}
use Rattle.vdr_frame.specs.Packets.{at_port, in_udp, is_group_port}
use Rattle.vdr_frame.specs.Outcomes.{Outcome, Left, Cut, Whole}
use Rattle.vdr_frame.specs.Spelled.{Unread, captured_of, datagram, high, low}
use Rattle.vdr_frame.specs.declared.found.Cause.TheVariants.{Malformed, Port, Short}
use Rattle.vdr_frame.proofs.TakenLemmas.{absorb, cond_else, fewer, moved_test, number_at, part}

-- two bytes as a number
abbrev pub told : ℕ → ℕ
told k = 256 * high k + low k

pub told_is : (k : ℕ) → told k ≡ k
told_is k = div-add-mod k 256

pub neither : (a b : Bool) → a ≡ false → b ≡ false → (a || b) ≡ false
neither a b ea eb = ap (λ (x : Bool). x || b) ea ∙ eb

-- what is captured of a payload
pub payload_of : (m : ℕ) (payload padding : List ℕ) (d : List ℕ) → drop 8 d ≡ payload ++ padding → 8 + min (length payload) 1473 ≤ m
    → take (min (length payload) 1473) (drop 8 (take m d)) ≡ take 1473 payload
payload_of m payload padding d is held =
    part m 8 (min (length payload) 1473) d held
    ∙ ap (λ (xs : List ℕ). take (min (length payload) 1473) xs) is
    ∙ take-append-le (min (length payload) 1473) payload padding (min-le_left (length payload) 1473)
    ∙ ap (λ (k : ℕ). take k payload) (min_comm (length payload) 1473)
    ∙ take_min 1473 payload

module _ (u : Unread) (group room : ℕ) (payload padding : List ℕ) (m : ℕ) where
  abbrev whole : List ℕ
  whole = datagram u (60_001 + group) payload padding

  long : length whole ≡ 8 + (length payload + length padding)
  long = omega (arith, length-append payload padding)

  -- the payload, or a part of it
  abbrev shown : Outcome
  shown = cond (nat_lt m (8 + min (length payload) 1473)) (Cut group) (Whole group (take 1473 payload))

  -- behind the test that the length is captured
  abbrev sized : (size : ℕ) → Outcome
  sized size =
      cond (nat_lt size 8 || nat_lt room size) (Left Malformed)
      (cond (nat_lt (length (take m whole)) (8 + min (size - 8) 1473)) (Cut group) (Whole group (take (min (size - 8) 1473) (drop 8 (take m whole)))))

  sized_is : 8 + length payload ≤ room → sized (8 + length payload) ≡ shown
  sized_is held =
      let few : min (length payload) 1473 ≤ length payload = min-le_left (length payload) 1473 in
      let least : 8 + length payload - 8 ≡ length payload = omega arith in
      cond-false (nat_lt (8 + length payload) 8 || nat_lt room (8 + length payload)) (Left Malformed) _
      (neither (nat_lt (8 + length payload) 8) (nat_lt room (8 + length payload)) (le-ltb (8 + length payload) 8 (omega arith)) (le-ltb room (8 + length payload) held))
      ∙ ap (λ (k : ℕ). cond (nat_lt (length (take m whole)) (8 + min k 1473)) (Cut group) (Whole group (take (min k 1473) (drop 8 (take m whole))))) least
      ∙ ap (λ (b : Bool). cond b (Cut group) (Whole group (take (min (length payload) 1473) (drop 8 (take m whole))))) (fewer m (8 + min (length payload) 1473) whole (omega (arith, long)))
      ∙ cond_else (nat_lt m (8 + min (length payload) 1473)) (Cut group) _ _
      (λ (no : nat_lt m (8 + min (length payload) 1473) ≡ false). ap (λ (xs : List ℕ). Whole group xs) (payload_of m payload padding whole refl (ltb-false m (8 + min (length payload) 1473) no)))

  in_udp_is : 8 + length payload ≤ room → in_udp (take m whole) room false group ≡ shown
  in_udp_is held =
      ap (λ (b : Bool). cond b (Cut group) (sized (u16_at (take m whole) 4))) (fewer m 6 whole (omega (arith, long)))
      ∙ absorb m 6 (8 + min (length payload) 1473) (Cut group) _ (Whole group (take 1473 payload)) (omega arith)
      (λ (six : 6 ≤ m). ap sized (number_at m 4 whole (omega arith) ∙ told_is (8 + length payload)) ∙ sized_is held)

  -- behind the test that the ports are captured
  abbrev ported : (port : ℕ) → Outcome
  ported port = cond (not (is_group_port port)) (Left (Port port)) (in_udp (take m whole) room false (port - 60_001))

  ported_is : 8 + length payload ≤ room → group < 16 → ported (60_001 + group) ≡ shown
  ported_is held few =
      let least : 60_001 + group - 60_001 ≡ group = omega arith in
      let inside = neither (nat_lt (60_001 + group) 60_001) (nat_lt 60_016 (60_001 + group)) (le-ltb (60_001 + group) 60_001 (omega arith)) (le-ltb 60_016 (60_001 + group) (omega arith)) in
      cond-false (not (is_group_port (60_001 + group))) (Left (Port (60_001 + group))) _ (λ i. not (not (inside i)))
      ∙ ap (λ (g : ℕ). in_udp (take m whole) room false g) least
      ∙ in_udp_is held

  pub udp_found : 8 + length payload ≤ room → group < 16 → at_port (take m whole) room false ≡ captured_of 0 group payload m
  udp_found held few =
      ap (λ (b : Bool). cond b (Left Short) (ported (u16_at (take m whole) 2))) (fewer m 4 whole (omega (arith, long)))
      ∙ cond_else (nat_lt m 4) (Left Short) _ _
      (λ (no : nat_lt m 4 ≡ false). let four : 4 ≤ m = ltb-false m 4 no in ap ported (number_at m 2 whole (omega arith) ∙ told_is (60_001 + group)) ∙ ported_is held few)

-- the same behind more headers
pub moved : (m h a b group : ℕ) (payload : List ℕ) → b ≡ h + a → captured_of a group payload (m - h) ≡ captured_of b group payload m
moved m h a b group payload is =
    let four : h + (a + 4) ≡ b + 4 = omega arith in
    let eight : h + (a + 8 + min (length payload) 1473) ≡ b + 8 + min (length payload) 1473 = omega arith in
    let ports = moved_test m h (a + 4) (omega arith) ∙ ap (λ (k : ℕ). nat_lt m k) four in
    let all = moved_test m h (a + 8 + min (length payload) 1473) (omega arith) ∙ ap (λ (k : ℕ). nat_lt m k) eight in
    λ i. cond (ports i) (Left Short) (cond (all i) (Cut group) (Whole group (take 1473 payload)))
