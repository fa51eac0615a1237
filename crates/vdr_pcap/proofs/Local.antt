-- What a packet or block says does not depend on what stands behind it.
use Rattle.std.proofs.Common.{◌≡◌, ◌≤◌, ◌+◌, ◌-◌, ℕ, Bool, true, false, cond, nat_eq, List, ◌++◌, length, take, drop, Option, None, Some, refl, ap, ◌∙◌, sym, arith}
use Rattle.std.specs.Prelude.{nat_lt}
use Rattle.std.proofs.lemmas.Bool.{ltb-false}
use Rattle.std.proofs.lemmas.List.{length-append, length-drop, take-append-le, drop-append-le}
use Rattle.vdr_pcap.specs.Blocks.{beginning, block_in, block_of, block_said, block_with, file_of, further, header_at, is_bad_length, order_of, packet_at, packet_in, parsed, pcap_header, pcap_packet, section, section_in, section_type, sized, typed}
use Rattle.vdr_pcap.specs.Capture.{Course, Ended, Refused, Takes, step, step_of}
use Rattle.vdr_pcap.specs.Numbers.{u32_in}
use Rattle.vdr_pcap.specs.Packets.{Parsed, Ends, Refuses, Reads, Packet, Piece, Standing, longest_front}
use Rattle.vdr_pcap.specs.Stamps.{stamp_of_fraction}
use Rattle.vdr_pcap.specs.declared.form.Form.{Form}
use Rattle.vdr_pcap.specs.declared.form.Form.TheVariants.{Unbegun, Packets, Blocks}
use Rattle.vdr_pcap.proofs.NumberLemmas.{u32_in-front}
use Rattle.vdr_pcap.proofs.Telling.{long_enough}

-- what it reads it reads whatever stands behind
abbrev pub Local : (List ℕ → Parsed) → Type 0
Local p = (bytes rest : List ℕ) (size : ℕ) (next : Standing) (piece : Piece) → p bytes ≡ Reads size next piece → p (bytes ++ rest) ≡ Reads size next piece

no_read : (n size : ℕ) (next : Standing) (piece : Piece) → Refuses n ≡ Reads size next piece → ⊥
no_read n size next piece e = cc

never : (n : ℕ) → Local (λ bytes. Refuses n)
never n bytes rest size next piece e = e

-- a test that has nothing to do with the bytes
tested : (b : Bool) (p q : List ℕ → Parsed) → Local p → Local q → Local (λ bytes. cond b (p bytes) (q bytes))
tested true p q l m = l
tested false p q l m = m

-- a test that there are enough bytes
if_there : (k n : ℕ) (p : List ℕ → Parsed)
    → ((bytes rest : List ℕ) (size : ℕ) (next : Standing) (piece : Piece) → k ≤ length bytes → p bytes ≡ Reads size next piece → p (bytes ++ rest) ≡ Reads size next piece)
    → (x : Parsed) → ((size : ℕ) (next : Standing) (piece : Piece) → x ≡ Reads size next piece → ⊥) → Local (λ bytes. cond (nat_lt (length bytes) k) x (p bytes))
if_there k n p l x clash bytes rest size next piece e = go (nat_lt (length bytes) k) refl
  where
    go : (b : Bool) → nat_lt (length bytes) k ≡ b → cond (nat_lt (length (bytes ++ rest)) k) x (p (bytes ++ rest)) ≡ Reads size next piece
    go true h = absurd (clash size next piece (ap (λ (b : Bool). cond b x (p bytes)) (sym h) ∙ e))
    go false h =
        let enough : k ≤ length bytes = ltb-false (length bytes) k h in
        long_enough (length (bytes ++ rest)) k x (p (bytes ++ rest)) (omega (arith, length-append bytes rest, enough))
        ∙ l bytes rest size next piece enough (ap (λ (b : Bool). cond b x (p bytes)) (sym h) ∙ e)

-- a front that must be there
at_front : (k n : ℕ) (F : List ℕ → List ℕ → Parsed) → ((x : List ℕ) → Local (F x)) → Local (λ bytes. cond (nat_lt (length bytes) k) (Refuses n) (F (take k bytes) (drop k bytes)))
at_front k n F l = if_there k n (λ bytes. F (take k bytes) (drop k bytes))
    (λ bytes rest size next piece enough e.
    (λ i. F (take-append-le k bytes rest enough i) (drop-append-le k bytes rest enough i)) ∙ l (take k bytes) (drop k bytes) rest size next piece e)
    (Refuses n) (λ size next piece e. no_read n size next piece e)

local_block_with : (big : Bool) (kind len size : ℕ) (s : Standing) → Local (block_with big kind len size s)
local_block_with big kind len size s = if_there (size + 4) 2
    (λ bytes. cond (nat_eq (u32_in big 0 (drop size bytes)) len) (block_said big kind len s (take size bytes)) (Refuses 4))
    (λ bytes rest n next piece enough e.
    let within : size ≤ length bytes = omega (arith, enough) in
    let four : 4 ≤ length (drop size bytes) = omega (arith, length-drop size bytes, enough) in
    let again : u32_in big 0 (drop size (bytes ++ rest)) ≡ u32_in big 0 (drop size bytes) =
    ap (λ (b : List ℕ). u32_in big 0 b) (drop-append-le size bytes rest within) ∙ u32_in-front big 0 (drop size bytes) rest four in
    (λ i. cond (nat_eq (again i) len) (block_said big kind len s (take-append-le size bytes rest within i)) (Refuses 4)) ∙ e)
    (Refuses 2) (λ n next piece e. no_read 2 n next piece e)

local_block_of : (big : Bool) (kind len before : ℕ) (s : Standing) → Local (block_of big kind len before s)
local_block_of big kind len before s =
    tested (is_bad_length kind len) (λ bytes. Refuses 4) (block_with big kind len (len - (before + 4)) s) (never 4) (local_block_with big kind len (len - (before + 4)) s)

local_section_in : (o : Option Bool) (s : Standing) (size : List ℕ) → Local (section_in o s size)
local_section_in None s size = never 3
local_section_in (Some big) s size = local_block_of big section_type (u32_in big 0 size) 12 s

local_section : (s : Standing) (size : List ℕ) → Local (section s size)
local_section s size = at_front 4 2 (λ x y. section_in (order_of (u32_in false 0 x)) s size y) (λ x. local_section_in (order_of (u32_in false 0 x)) s size)

local_sized : (big : Bool) (kind : ℕ) (s : Standing) (size : List ℕ) → Local (sized big kind s size)
local_sized big kind s size =
    tested (nat_eq kind section_type) (section s size) (block_of big kind (u32_in big 0 size) 8 s) (local_section s size) (local_block_of big kind (u32_in big 0 size) 8 s)

local_typed : (big : Bool) (kind : ℕ) (s : Standing) → Local (typed big kind s)
local_typed big kind s = at_front 4 2 (λ x y. sized big kind s x y) (λ x. local_sized big kind s x)

local_block_in : (big : Bool) (s : Standing) → Local (block_in big s)
local_block_in big s = at_front 4 2 (λ x y. typed big (u32_in big 0 x) s y) (λ x. local_typed big (u32_in big 0 x) s)

local_header : (big nano : Bool) (s : Standing) → Local (pcap_header big nano s)
local_header big nano s = at_front 20 2 (λ x y. header_at big nano s x) (λ x bytes rest size next piece e. e)

local_packet_in : (big nano : Bool) (link : ℕ) (s : Standing) (head : List ℕ) → Local (packet_in big nano link s head)
local_packet_in big nano link s head =
    tested (nat_lt 262_144 (u32_in big 8 head)) (λ bytes. Refuses 4)
    (λ bytes. cond (nat_lt (length bytes) (u32_in big 8 head)) (Refuses 2) (packet_at big nano link s head bytes)) (never 4)
    (if_there (u32_in big 8 head) 2 (λ bytes. packet_at big nano link s head bytes)
    (λ bytes rest size next piece enough e.
    ap (λ (xs : List ℕ). Reads (16 + u32_in big 8 head) s (Packet (record {
      link = link;
      stamp = stamp_of_fraction nano (u32_in big 0 head) (u32_in big 4 head);
      front = take longest_front xs;
    }))) (take-append-le (u32_in big 8 head) bytes rest enough) ∙ e)
    (Refuses 2) (λ size next piece e. no_read 2 size next piece e))

local_pcap_packet : (big nano : Bool) (link : ℕ) (s : Standing) → Local (pcap_packet big nano link s)
local_pcap_packet big nano link s = at_front 16 2 (λ x y. packet_in big nano link s x y) (λ x. local_packet_in big nano link s x)

no_end : (size : ℕ) (next : Standing) (piece : Piece) → Ends ≡ Reads size next piece → ⊥
no_end size next piece e = cc

pub local_further : (f : Form) (s : Standing) → Local (further f s)
local_further Unbegun s = never 1
local_further (Packets big nano link) s = if_there 1 0 (pcap_packet big nano link s) (λ bytes rest size next piece _ e. local_pcap_packet big nano link s bytes rest size next piece e) Ends no_end
local_further (Blocks big) s = if_there 1 0 (block_in big s) (λ bytes rest size next piece _ e. local_block_in big s bytes rest size next piece e) Ends no_end

local_file : (magic : ℕ) (s : Standing) → Local (file_of magic s)
local_file magic s =
    tested (nat_eq magic section_type) (typed false section_type s) _ (local_typed false section_type s)
    (tested (nat_eq magic 0xA1B2C3D4) (pcap_header false false s) _ (local_header false false s)
    (tested (nat_eq magic 0xD4C3B2A1) (pcap_header true false s) _ (local_header true false s)
    (tested (nat_eq magic 0xA1B23C4D) (pcap_header false true s) _ (local_header false true s)
    (tested (nat_eq magic 0x4D3CB2A1) (pcap_header true true s) (λ bytes. Refuses 1) (local_header true true s) (never 1)))))

local_beginning : (s : Standing) → Local (beginning s)
local_beginning s = at_front 4 1 (λ x y. file_of (u32_in false 0 x) s y) (λ x. local_file (u32_in false 0 x) s)

step_along : (limit : ℕ) (c : Course) (p : List ℕ → Parsed) → Local p → (bytes rest : List ℕ) (size : ℕ) (next : Course) (piece : Piece)
    → step_of limit c (p bytes) ≡ Takes size next piece → step_of limit c (p (bytes ++ rest)) ≡ Takes size next piece
step_along limit c p l bytes rest size next piece e = go (p bytes) refl
  where
    go : (x : Parsed) → p bytes ≡ x → step_of limit c (p (bytes ++ rest)) ≡ Takes size next piece
    go Ends h = absurd (clash (ap (λ (y : Parsed). step_of limit c y) (sym h) ∙ e)) where
      clash : Ended ≡ Takes size next piece → ⊥
      clash q = cc
    go (Refuses n) h = absurd (clash (ap (λ (y : Parsed). step_of limit c y) (sym h) ∙ e)) where
      clash : Refused n ≡ Takes size next piece → ⊥
      clash q = cc
    go (Reads m after told) h = ap (λ (y : Parsed). step_of limit c y) (l bytes rest m after told h ∙ sym h) ∙ e

-- A step that takes bytes takes them whatever stands behind.
pub local_step : (limit : ℕ) (begun : Bool) (c : Course) (bytes rest : List ℕ) (size : ℕ) (next : Course) (piece : Piece)
    → step limit begun c bytes ≡ Takes size next piece → step limit begun c (bytes ++ rest) ≡ Takes size next piece
local_step limit false c bytes rest size next piece e = step_along limit c (λ (b : List ℕ). beginning c.standing b) (local_beginning c.standing) bytes rest size next piece e
local_step limit true c bytes rest size next piece e = step_along limit c (λ (b : List ℕ). parsed c.standing b) (local_further c.standing.form c.standing) bytes rest size next piece e
