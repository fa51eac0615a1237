-- What stands at the front of some bytes, by the front that was read.
use Rattle.std.proofs.Common.{◌≡◌, ◌≤◌, ◌<◌, ◌+◌, ◌-◌, ℕ, suc, Bool, true, false, cond, nat_eq, List, [], ◌++◌, length, take, drop, Option, ap, ◌∙◌, sym, subst, arith}
use Rattle.std.specs.Prelude.{nat_lt}
use Rattle.std.specs.Io.KnownBytes.{Consumes}
use Rattle.std.proofs.KnownBytes.{Consumes-nil}
use Rattle.std.proofs.lemmas.Bool.{le-leb, lt-leb, ltb-false, ne_eqb, or_parts}
use Rattle.std.proofs.lemmas.List.{length-append, take_all, take_at, drop_at}
use Rattle.vdr_pcap.specs.Blocks.{beginning, block_in, block_of, block_with, file_of, fixed_size, header_at, is_bad_length, least, order_of, packet_at, packet_in, parsed_block, parsed_packet, pcap_header, pcap_packet, section, section_in, section_type, sized, typed}
use Rattle.vdr_pcap.specs.Numbers.{u32_in}
use Rattle.vdr_pcap.specs.Packets.{Ends, Packet, Parsed, Reads, Refuses, Standing, longest_front}
use Rattle.vdr_pcap.specs.Stamps.{stamp_of_fraction}
use Rattle.vdr_pcap.specs.Seen.{Fits, Tells, front_piece}
use Rattle.vdr_pcap.specs.declared.unit.Unit.{Unit as Found}
use Rattle.vdr_pcap.specs.declared.unit.Unit.TheVariants as found
use Rattle.vdr_pcap.proofs.Telling.{behind, long_enough, too_short}

-- the same stands there
pub same_tells : (a b : Option (List ℕ)) (p q : List ℕ → Parsed) (n : ℕ) (u : Found) (s : Standing) (f : List ℕ) → ((bytes : List ℕ) → p bytes ≡ q bytes) → Tells a b q n u s f → Tells a b p n u s f
same_tells a b p q n u s f same t = behind a a b p q n n [] u s f (Consumes-nil a) (omega arith) same t

-- a front that was read, where it is tested whether it is there
at_front : {A : Type 0} (k : ℕ) (xs rest : List ℕ) (x : A) (F : List ℕ → List ℕ → A) → length xs ≡ k
    → cond (nat_lt (length (xs ++ rest)) k) x (F (take k (xs ++ rest)) (drop k (xs ++ rest))) ≡ F xs rest
at_front k xs rest x F long =
    long_enough (length (xs ++ rest)) k x (F (take k (xs ++ rest)) (drop k (xs ++ rest))) (omega (arith, length-append xs rest, long))
    ∙ (λ i. F (take_at xs rest k long i) (drop_at xs rest k long i))

pub section_at : (s : Standing) (size magic rest : List ℕ) → length magic ≡ 4 → section s size (magic ++ rest) ≡ section_in (order_of (u32_in false 0 magic)) s size rest
section_at s size magic rest long = at_front 4 magic rest (Refuses 2) (λ (x y : List ℕ). section_in (order_of (u32_in false 0 x)) s size y) long

pub typed_at : (big : Bool) (kind : ℕ) (s : Standing) (size rest : List ℕ) → length size ≡ 4 → typed big kind s (size ++ rest) ≡ sized big kind s size rest
typed_at big kind s size rest long = at_front 4 size rest (Refuses 2) (λ (x y : List ℕ). sized big kind s x y) long

pub beginning_at : (s : Standing) (magic rest : List ℕ) → length magic ≡ 4 → beginning s (magic ++ rest) ≡ file_of (u32_in false 0 magic) s rest
beginning_at s magic rest long = at_front 4 magic rest (Refuses 1) (λ (x y : List ℕ). file_of (u32_in false 0 x) s y) long

pub header_is : (big nano : Bool) (s : Standing) (head rest : List ℕ) → length head ≡ 20 → pcap_header big nano s (head ++ rest) ≡ header_at big nano s head
header_is big nano s head rest long = at_front 20 head rest (Refuses 2) (λ (x y : List ℕ). header_at big nano s x) long

some_there : (xs rest : List ℕ) (k : ℕ) (x y : Parsed) → length xs ≡ suc k → cond (nat_lt (length (xs ++ rest)) 1) x y ≡ y
some_there xs rest k x y long = long_enough (length (xs ++ rest)) 1 x y (omega (arith, length-append xs rest, long))

pub block_at : (big : Bool) (s : Standing) (kind rest : List ℕ) → length kind ≡ 4 → parsed_block big s (kind ++ rest) ≡ typed big (u32_in big 0 kind) s rest
block_at big s kind rest long =
    some_there kind rest 3 Ends (block_in big s (kind ++ rest)) long
    ∙ at_front 4 kind rest (Refuses 2) (λ (x y : List ℕ). typed big (u32_in big 0 x) s y) long

pub packet_at_head : (big nano : Bool) (link : ℕ) (s : Standing) (head rest : List ℕ) → length head ≡ 16
    → parsed_packet big nano link s (head ++ rest) ≡ packet_in big nano link s head rest
packet_at_head big nano link s head rest long =
    some_there head rest 15 Ends (pcap_packet big nano link s (head ++ rest)) long
    ∙ at_front 16 head rest (Refuses 2) (λ (x y : List ℕ). packet_in big nano link s x y) long

-- fewer bytes than a head, but some
pub block_short : (big : Bool) (s : Standing) (bytes : List ℕ) → 0 < length bytes → length bytes < 4 → parsed_block big s bytes ≡ Refuses 2
block_short big s bytes some few =
    long_enough (length bytes) 1 Ends (block_in big s bytes) (omega (arith, some))
    ∙ too_short (length bytes) 4 (Refuses 2) (typed big (u32_in big 0 (take 4 bytes)) s (drop 4 bytes)) few

pub packet_short : (big nano : Bool) (link : ℕ) (s : Standing) (bytes : List ℕ) → 0 < length bytes → length bytes < 16 → parsed_packet big nano link s bytes ≡ Refuses 2
packet_short big nano link s bytes some few =
    long_enough (length bytes) 1 Ends (pcap_packet big nano link s bytes) (omega (arith, some))
    ∙ too_short (length bytes) 16 (Refuses 2) (packet_in big nano link s (take 16 bytes) (drop 16 bytes)) few

-- ---- lengths

room_of : (a b c d : Bool) → cond a 4 (cond b 8 (cond c 20 (cond d 12 0))) + (cond a 12 8 + 4) ≤ cond a 28 (cond b 20 (cond c 32 (cond d 24 12)))
room_of true b c d = omega arith
room_of false true c d = omega arith
room_of false false true d = omega arith
room_of false false false true = omega arith
room_of false false false false = omega arith

-- a block of a length that it may have has room for what stands at fixed places
pub fixed_fits : (kind before len : ℕ) → before ≡ cond (nat_eq kind section_type) 12 8 → least kind ≤ len → fixed_size kind + (before + 4) ≤ len
fixed_fits kind before len is low =
    let room : fixed_size kind + (cond (nat_eq kind section_type) 12 8 + 4) ≤ least kind =
    room_of (nat_eq kind section_type) (nat_eq kind 1) (nat_eq kind 6) (nat_eq kind 5) in
    subst (λ (n : ℕ). fixed_size kind + (n + 4) ≤ len) (sym is) (under (fixed_size kind + (cond (nat_eq kind section_type) 12 8 + 4)) (least kind) len room low)
  where
    under : (a b c : ℕ) → a ≤ b → b ≤ c → a ≤ c
    under a b c h k = omega (arith, h, k)

pub least_fits : (kind len : ℕ) → is_bad_length kind len ≡ false → least kind ≤ len
least_fits kind len good = ltb-false len (least kind) (or_parts _ _ (or_parts _ _ good).0).1

pub block_of_good : (big : Bool) (kind len before : ℕ) (s : Standing) (bytes : List ℕ) → is_bad_length kind len ≡ false
    → block_of big kind len before s bytes ≡ block_with big kind len (len - (before + 4)) s bytes
block_of_good big kind len before s bytes good = ap (λ (b : Bool). cond b (Refuses 4) (block_with big kind len (len - (before + 4)) s bytes)) good

-- a packet of a section's header there is none
pub fits_any : (kind n : ℕ) (u : Found) → Fits kind n u → Fits 0 n u
fits_any kind n (found.Refuses number) f = f
fits_any kind n (found.Says size) f = f
fits_any kind n (found.Unread size) f = λ e. (let none : ⊥ = omega (arith, e) in none)
fits_any kind n (found.Packet size link stamp kept) f = (λ e. (let none : ⊥ = omega (arith, e) in none), f.1, f.2)

-- ---- the parts of a packet of pcap

pub packet_long : (big nano : Bool) (link : ℕ) (s : Standing) (head rest : List ℕ) → 262_144 < u32_in big 8 head → packet_in big nano link s head rest ≡ Refuses 4
packet_long big nano link s head rest more =
    ap (λ (b : Bool). cond b (Refuses 4) (cond (nat_lt (length rest) (u32_in big 8 head)) (Refuses 2) (packet_at big nano link s head rest))) (le-leb (suc 262_144) (u32_in big 8 head) more)

packet_small : (big nano : Bool) (link : ℕ) (s : Standing) (head rest : List ℕ) → u32_in big 8 head ≤ 262_144
    → packet_in big nano link s head rest ≡ cond (nat_lt (length rest) (u32_in big 8 head)) (Refuses 2) (packet_at big nano link s head rest)
packet_small big nano link s head rest few =
    ap (λ (b : Bool). cond b (Refuses 4) (cond (nat_lt (length rest) (u32_in big 8 head)) (Refuses 2) (packet_at big nano link s head rest))) (lt-leb (suc 262_144) (u32_in big 8 head) (omega (arith, few)))

pub packet_cut : (big nano : Bool) (link : ℕ) (s : Standing) (head rest : List ℕ) → u32_in big 8 head ≤ 262_144 → length rest < u32_in big 8 head
    → packet_in big nano link s head rest ≡ Refuses 2
packet_cut big nano link s head rest few cut = packet_small big nano link s head rest few ∙ too_short (length rest) (u32_in big 8 head) (Refuses 2) (packet_at big nano link s head rest) cut

-- a packet that was read whole, of which a front was kept
pub packet_whole : (big nano : Bool) (link : ℕ) (s : Standing) (head bytes rest front : List ℕ) (kept size : ℕ) (stamp : Option ℕ) → u32_in big 8 head ≤ 262_144 → length bytes ≡ u32_in big 8 head
    → take kept front ≡ take longest_front bytes → stamp ≡ stamp_of_fraction nano (u32_in big 0 head) (u32_in big 4 head) → size ≡ 16 + u32_in big 8 head
    → packet_in big nano link s head (bytes ++ rest) ≡ Reads size s (front_piece link stamp kept front)
packet_whole big nano link s head bytes rest front kept size stamp few long same at size_is =
    packet_small big nano link s head (bytes ++ rest) few
    ∙ (long_enough (length (bytes ++ rest)) (u32_in big 8 head) (Refuses 2) (packet_at big nano link s head (bytes ++ rest)) (omega (arith, length-append bytes rest, long))
    ∙ (λ i. Reads (sym size_is i) s (Packet (record {
      link = link;
      stamp = sym at i;
      front = (ap (λ (xs : List ℕ). take longest_front xs) (take_at bytes rest (u32_in big 8 head) long) ∙ sym same) i;
    }))))

-- no capture begins so
pub file_other : (magic : ℕ) (s : Standing) (bytes : List ℕ) → (magic ≡ section_type → ⊥) → (magic ≡ 0xA1B2C3D4 → ⊥) → (magic ≡ 0xD4C3B2A1 → ⊥) → (magic ≡ 0xA1B23C4D → ⊥) → (magic ≡ 0x4D3CB2A1 → ⊥)
    → file_of magic s bytes ≡ Refuses 1
file_other magic s bytes a b c d e =
    (λ i. cond (ne_eqb magic section_type a i) (typed false section_type s bytes)
    (cond (ne_eqb magic 0xA1B2C3D4 b i) (pcap_header false false s bytes)
    (cond (ne_eqb magic 0xD4C3B2A1 c i) (pcap_header true false s bytes)
    (cond (ne_eqb magic 0xA1B23C4D d i) (pcap_header false true s bytes)
    (cond (ne_eqb magic 0x4D3CB2A1 e i) (pcap_header true true s bytes) (Refuses 1))))))

-- what was filled is the buffer
pub full : (a b : Option (List ℕ)) (got n : ℕ) (buffer : List ℕ) → Consumes a b (take got buffer) → length buffer ≡ n → n ≤ got → Consumes a b buffer
full a b got n buffer read long enough = subst (λ (xs : List ℕ). Consumes a b xs) (take_all got buffer (omega (arith, long, enough))) read
