-- A packet that a capture tells of has a stamp that is one, or none.
use Rattle.std.proofs.Common.{◌≤◌, ◌+◌, ◌-◌, ◌*◌, ◌/◌, ◌^◌, ◌||◌, ℕ, Bool, true, false, cond, nat_eq, inl, inr, List, length, take, drop, Option, None, Some, sym, subst}
use Rattle.std.specs.Prelude.{nat_le, nat_lt}
use Rattle.std.proofs.lemmas.Bool.Decides.{leb_tells}
use Rattle.vdr_terms.specs.Stamps.{last_stamp}
use Rattle.vdr_pcap.specs.Blocks.{beginning, block_in, block_of, block_said, block_says, block_with, file_of, further, header_at, interface_at, interface_block, is_bad_length, order_of, packet_at, packet_block, packet_in, packet_of, pcap_header, pcap_packet, section, section_block, section_in, section_type, sized, statistics_block, typed, with_interface, with_statistics}
use Rattle.vdr_pcap.specs.Numbers.{u16_in, u32_in}
use Rattle.vdr_pcap.specs.Packets.{Ends, Nothing, Packet, Parsed, Piece, Reads, Refuses, Standing, Unread}
use Rattle.vdr_pcap.specs.Stamps.{in_time, moved, units}
use Rattle.vdr_pcap.specs.declared.form.Form.{Form}
use Rattle.vdr_pcap.specs.declared.form.Form.TheVariants.{Unbegun, Packets, Blocks}
use Rattle.vdr_pcap.specs.declared.options.Noted.{Noted}

abbrev pub IsStamped : Option ℕ → Type 0
IsStamped None = Unit {0}
IsStamped (Some t) = t ≤ last_stamp

abbrev pub InTime : Piece → Type 0
InTime Nothing = Unit {0}
InTime Unread = Unit {0}
InTime (Packet c) = IsStamped c.stamp

abbrev pub IsTimed : Parsed → Type 0
IsTimed Ends = Unit {0}
IsTimed (Refuses number) = Unit {0}
IsTimed (Reads size next piece) = InTime piece

either : (b : Bool) (x y : Parsed) → IsTimed x → IsTimed y → IsTimed (cond b x y)
either true x y p q = p
either false x y p q = q

one_of : (b : Bool) (x y : Option ℕ) → IsStamped x → IsStamped y → IsStamped (cond b x y)
one_of true x y p q = p
one_of false x y p q = q

stamp_in_time : (n : ℕ) → IsStamped (in_time n)
stamp_in_time n = elim (leb_tells n last_stamp) [
  | inl low ↦ subst (λ (b : Bool). IsStamped (cond b (Some n) None)) (sym low.0) low.1
  | inr high ↦ subst (λ (b : Bool). IsStamped (cond b (Some n) None)) (sym high.0) tt
]

stamp_moved : (n added : ℕ) → IsStamped (moved n added)
stamp_moved n added =
    one_of (nat_lt added (2 ^ 63)) (in_time (n + 1000 * added)) (cond (nat_lt n (1000 * (2 ^ 64 - added))) None (in_time (n - 1000 * (2 ^ 64 - added)))) (stamp_in_time (n + 1000 * added))
    (one_of (nat_lt n (1000 * (2 ^ 64 - added))) None (in_time (n - 1000 * (2 ^ 64 - added))) tt (stamp_in_time (n - 1000 * (2 ^ 64 - added))))

timed_packet_in : (big nano : Bool) (link : ℕ) (s : Standing) (head bytes : List ℕ) → IsTimed (packet_in big nano link s head bytes)
timed_packet_in big nano link s head bytes =
    either (nat_lt 262_144 (u32_in big 8 head)) (Refuses 4) (cond (nat_lt (length bytes) (u32_in big 8 head)) (Refuses 2) (packet_at big nano link s head bytes)) tt
    (either (nat_lt (length bytes) (u32_in big 8 head)) (Refuses 2) (packet_at big nano link s head bytes) tt
    (stamp_in_time (1000 * u32_in big 0 head + cond nano (u32_in big 4 head / 1_000_000) (u32_in big 4 head / 1000))))

timed_header : (big nano : Bool) (s : Standing) (bytes : List ℕ) → IsTimed (pcap_header big nano s bytes)
timed_header big nano s bytes =
    either (nat_lt (length bytes) 20) (Refuses 2) (header_at big nano s (take 20 bytes)) tt (either (nat_eq (u16_in big 0 (take 20 bytes)) 2) _ (Refuses 3) tt tt)

timed_interface : (len link : ℕ) (s : Standing) (o : Option Noted) → IsTimed (with_interface len link s o)
timed_interface len link s None = tt
timed_interface len link s (Some noted) = tt

timed_statistics : (len k : ℕ) (s : Standing) (o : Option Noted) → IsTimed (with_statistics len k s o)
timed_statistics len k s None = tt
timed_statistics len k s (Some noted) = tt

timed_packet : (big : Bool) (len : ℕ) (s : Standing) (fixed front : List ℕ) → IsTimed (packet_block big len s fixed front)
timed_packet big len s fixed front =
    either (nat_le (length s.interfaces) (u32_in big 0 fixed)) (Refuses 5) (cond (nat_lt (len - 32) (u32_in big 12 fixed)) (Refuses 4) (Reads len s (Packet (packet_of big (interface_at s (u32_in big 0 fixed)) fixed front)))) tt
    (either (nat_lt (len - 32) (u32_in big 12 fixed)) (Refuses 4) (Reads len s (Packet (packet_of big (interface_at s (u32_in big 0 fixed)) fixed front))) tt
    (stamp_moved (1000 * (2 ^ 32 * u32_in big 4 fixed + u32_in big 8 fixed) / units (interface_at s (u32_in big 0 fixed)).resolution) (interface_at s (u32_in big 0 fixed)).added))

timed_says : (big : Bool) (kind len : ℕ) (s : Standing) (fixed : List ℕ) (noted : Option Noted) (front : List ℕ) → IsTimed (block_says big kind len s fixed noted front)
timed_says big kind len s fixed noted front =
    either (nat_eq kind section_type) (section_block big len s fixed) _ (either (nat_eq (u16_in big 0 fixed) 1) _ (Refuses 3) tt tt)
    (either (nat_eq kind 1) (interface_block big len s fixed noted) _
    (either (nat_le 256 (length s.interfaces)) (Refuses 6) (with_interface len (u16_in big 0 fixed) s noted) tt (timed_interface len (u16_in big 0 fixed) s noted))
    (either (nat_eq kind 6) (packet_block big len s fixed front) _ (timed_packet big len s fixed front)
    (either (nat_eq kind 5) (statistics_block big len s fixed noted) _
    (either (nat_le (length s.interfaces) (u32_in big 0 fixed)) (Refuses 5) (with_statistics len (u32_in big 0 fixed) s noted) tt (timed_statistics len (u32_in big 0 fixed) s noted))
    (either (nat_eq kind 2 || nat_eq kind 3) (Reads len s Unread) (Reads len s Nothing) tt tt))))

timed_block_of : (big : Bool) (kind len before : ℕ) (s : Standing) (bytes : List ℕ) → IsTimed (block_of big kind len before s bytes)
timed_block_of big kind len before s bytes =
    either (is_bad_length kind len) (Refuses 4) (block_with big kind len (len - (before + 4)) s bytes) tt
    (either (nat_lt (length bytes) (len - (before + 4) + 4)) (Refuses 2) _ tt
    (either (nat_eq (u32_in big 0 (drop (len - (before + 4)) bytes)) len) (block_said big kind len s (take (len - (before + 4)) bytes)) (Refuses 4) (timed_says big kind len s _ _ _) tt))

timed_section_in : (o : Option Bool) (s : Standing) (size bytes : List ℕ) → IsTimed (section_in o s size bytes)
timed_section_in None s size bytes = tt
timed_section_in (Some big) s size bytes = timed_block_of big section_type (u32_in big 0 size) 12 s bytes

timed_section : (s : Standing) (size bytes : List ℕ) → IsTimed (section s size bytes)
timed_section s size bytes =
    either (nat_lt (length bytes) 4) (Refuses 2) (section_in (order_of (u32_in false 0 (take 4 bytes))) s size (drop 4 bytes)) tt (timed_section_in (order_of (u32_in false 0 (take 4 bytes))) s size (drop 4 bytes))

timed_typed : (big : Bool) (kind : ℕ) (s : Standing) (bytes : List ℕ) → IsTimed (typed big kind s bytes)
timed_typed big kind s bytes =
    either (nat_lt (length bytes) 4) (Refuses 2) (sized big kind s (take 4 bytes) (drop 4 bytes)) tt
    (either (nat_eq kind section_type) (section s (take 4 bytes) (drop 4 bytes)) (block_of big kind (u32_in big 0 (take 4 bytes)) 8 s (drop 4 bytes)) (timed_section s (take 4 bytes) (drop 4 bytes))
    (timed_block_of big kind (u32_in big 0 (take 4 bytes)) 8 s (drop 4 bytes)))

timed_file : (magic : ℕ) (s : Standing) (bytes : List ℕ) → IsTimed (file_of magic s bytes)
timed_file magic s bytes =
    either (nat_eq magic section_type) (typed false section_type s bytes) _ (timed_typed false section_type s bytes)
    (either (nat_eq magic 0xA1B2C3D4) (pcap_header false false s bytes) _ (timed_header false false s bytes)
    (either (nat_eq magic 0xD4C3B2A1) (pcap_header true false s bytes) _ (timed_header true false s bytes)
    (either (nat_eq magic 0xA1B23C4D) (pcap_header false true s bytes) _ (timed_header false true s bytes)
    (either (nat_eq magic 0x4D3CB2A1) (pcap_header true true s bytes) (Refuses 1) (timed_header true true s bytes) tt))))

pub timed_beginning : (s : Standing) (bytes : List ℕ) → IsTimed (beginning s bytes)
timed_beginning s bytes = either (nat_lt (length bytes) 4) (Refuses 1) (file_of (u32_in false 0 (take 4 bytes)) s (drop 4 bytes)) tt (timed_file (u32_in false 0 (take 4 bytes)) s (drop 4 bytes))

pub timed_further : (f : Form) (s : Standing) (bytes : List ℕ) → IsTimed (further f s bytes)
timed_further Unbegun s bytes = tt
timed_further (Packets big nano link) s bytes =
    either (nat_lt (length bytes) 1) Ends (pcap_packet big nano link s bytes) tt
    (either (nat_lt (length bytes) 16) (Refuses 2) (packet_in big nano link s (take 16 bytes) (drop 16 bytes)) tt (timed_packet_in big nano link s (take 16 bytes) (drop 16 bytes)))
timed_further (Blocks big) s bytes =
    either (nat_lt (length bytes) 1) Ends (block_in big s bytes) tt
    (either (nat_lt (length bytes) 4) (Refuses 2) (typed big (u32_in big 0 (take 4 bytes)) s (drop 4 bytes)) tt (timed_typed big (u32_in big 0 (take 4 bytes)) s (drop 4 bytes)))
