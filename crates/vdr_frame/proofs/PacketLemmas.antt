-- A packet as it is spelled, and what is found of as much of it as was captured.
use Rattle.std.proofs.Common.{◌≡◌, ◌≤◌, ◌<◌, ◌+◌, ◌-◌, ◌*◌, ◌/◌, ◌%◌, ◌==◌, ℕ, Bool, true, false, not, ◌||◌, nat_lt, cond, List, length, take, drop, ap, ◌∙◌, sym, refl, arith}
use Rattle.std.specs.Prelude.{slice_index}
use Rattle.std.proofs.lemmas.Bool.{cond-false, le-ltb}
use Rattle.std.proofs.lemmas.List.{length-append, drop-drop, drop_at}
use Rattle.vdr_frame.specs.Numbers.{u16_at}
use Rattle.vdr_frame.specs.Packets.{at_port, header_length, in_packet}
use Rattle.vdr_frame.specs.Outcomes.{Outcome, Left}
use Rattle.vdr_frame.specs.Spelled.{Unread, captured_of, datagram, packet, total}
use Rattle.vdr_frame.specs.declared.found.Cause.TheVariants.{Fragment, Malformed, Protocol, Short}
use Rattle.vdr_frame.proofs.TakenLemmas.{absorb, behind_any, byte_at, fewer, number_at}
use Rattle.vdr_frame.proofs.DatagramLemmas.{moved, neither, told_is, udp_found}

-- what the flags say, beside that the packet may be cut
no_offset : (whole : Bool) → (256 * cond whole 0x40 0 + 0) % 8192 ≡ 0
no_offset true = refl
no_offset false = refl

no_more : (whole : Bool) → ((256 * cond whole 0x40 0 + 0) / 8192 % 2 == 1) ≡ false
no_more true = refl
no_more false = refl

module _ (u : Unread) (words group : ℕ) (payload padding : List ℕ) (m : ℕ) where
  abbrev whole : List ℕ
  whole = packet u words (60_001 + group) payload padding

  abbrev udp : List ℕ
  udp = datagram u (60_001 + group) payload padding

  pub long : length whole ≡ 20 + (length u.options + (8 + (length payload + length padding)))
  long = omega (arith, length-append u.options udp, length-append payload padding)

  behind_options : drop (20 + length u.options) whole ≡ udp
  behind_options = sym (drop-drop (length u.options) 20 whole) ∙ drop_at u.options udp (length u.options) refl

  -- behind the test that the header is captured
  abbrev headed : (version head all protocol offset : ℕ) → (more : Bool) → Outcome
  headed version head all protocol offset more =
      cond (not (version == 4) || nat_lt head 20 || nat_lt all head) (Left Malformed)
      (cond (not (protocol == 17)) (Left Protocol)
      (cond (not (offset == 0)) (Left Fragment) (at_port (drop head (take m whole)) (all - head) more)))

  headed_is : group < 16 → headed 4 (20 + length u.options) (total u payload) 17 0 false ≡ captured_of (20 + length u.options) group payload m
  headed_is few =
      let rest = behind_any m (20 + length u.options) whole ∙ ap (λ (xs : List ℕ). take (m - (20 + length u.options)) xs) behind_options in
      let room : total u payload - (20 + length u.options) ≡ 8 + length payload = omega arith in
      cond-false (nat_lt (20 + length u.options) 20 || nat_lt (total u payload) (20 + length u.options)) (Left Malformed) _
      (neither (nat_lt (20 + length u.options) 20) (nat_lt (total u payload) (20 + length u.options)) (le-ltb (20 + length u.options) 20 (omega arith)) (le-ltb (total u payload) (20 + length u.options) (omega arith)))
      ∙ (λ i. at_port (rest i) (room i) false)
      ∙ udp_found u group (8 + length payload) payload padding (m - (20 + length u.options)) (omega arith) few
      ∙ moved m (20 + length u.options) 0 (20 + length u.options) group payload (omega arith)

  pub packet_found : length u.options ≡ 4 * words → words ≤ 10 → group < 16 → in_packet (take m whole) ≡ captured_of (20 + length u.options) group payload m
  packet_found long_options few_words few =
      ap (λ (b : Bool). cond b (Left Short) (headed (slice_index (take m whole) 0 / 16) (header_length (take m whole)) (u16_at (take m whole) 2) (slice_index (take m whole) 9) (u16_at (take m whole) 6 % 8192) (u16_at (take m whole) 6 / 8192 % 2 == 1)))
      (fewer m 20 whole (omega (arith, long)))
      ∙ absorb m 20 (20 + length u.options + 4) (Left Short) _ _ (omega arith) (λ (held : 20 ≤ m).
      let first : slice_index (take m whole) 0 ≡ 69 + words = byte_at m 0 whole (omega arith) in
      let is_four : (69 + words) / 16 ≡ 4 = omega arith in
      let is_head : 4 * ((69 + words) % 16) ≡ 20 + length u.options = omega arith in
      let version = ap (λ (b : ℕ). b / 16) first ∙ is_four in
      let head = ap (λ (b : ℕ). 4 * (b % 16)) first ∙ is_head in
      let all = number_at m 2 whole (omega arith) ∙ told_is (total u payload) in
      let protocol : slice_index (take m whole) 9 ≡ 17 = byte_at m 9 whole (omega arith) in
      let flags = number_at m 6 whole (omega arith) in
      let offset = ap (λ (f : ℕ). f % 8192) flags ∙ no_offset u.whole in
      let more = ap (λ (f : ℕ). f / 8192 % 2 == 1) flags ∙ no_more u.whole in
      (λ i. headed (version i) (head i) (all i) (protocol i) (offset i) (more i)) ∙ headed_is few)
