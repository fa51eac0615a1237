-- Blocks that were written are read.
use Rattle.std.proofs.Common.{◌≡◌, ◌≢◌, ◌≤◌, ◌<◌, ◌+◌, ◌-◌, ◌*◌, ◌^◌, ◌%◌, ◌||◌, ◌&&◌, ℕ, zero, suc, Bool, true, false, not, cond, nat_lt, nat_le, nat_eq, List, [], ◌∷◌, ◌++◌, length, take, drop, slice_index_or, Option, None, Some, refl, ap, ◌∙◌, sym, subst, arith}
use Rattle.std.specs.List.{flat_map}
use Rattle.std.proofs.lemmas.Nat.{from_le_bytes-to_le_bytes_8, from_be_bytes-to_be_bytes_8}
use Rattle.std.proofs.lemmas.Bool.{eq-eqb, ne_eqb, lt-leb}
use Rattle.std.proofs.lemmas.List.{append_assoc, append-nil, length-append, take_at, drop_at}
use Rattle.vdr_pcap.specs.Account.{counted, fate}
use Rattle.vdr_pcap.specs.Blocks.{beginning, block_of, block_said, block_says, block_with, file_of, fixed_size, front_in, further, interface_block, is_bad_length, least, no_interface, noted_in, order_of, packet_block, parsed, parsed_block, section, section_block, section_in, section_type, statistics_block, typed, with_interface}
use Rattle.vdr_pcap.specs.Capture.{AreParts, Course, Ended, Part, Refused as Refuses7, Takes, course_after, no_course, pieces_of, step, step_of, text}
use Rattle.vdr_pcap.specs.Numbers.{u16_in, u32_in, u64_in}
use Rattle.vdr_pcap.specs.Options.{first_of, none_noted, noted_number, noted_resolution, noted_with, options_from, padded}
use Rattle.vdr_pcap.specs.Packets.{Nothing, Packet, Parsed, Piece, Reads, Refuses, Standing, Unread, longest_front, lost_with, no_standing}
use Rattle.vdr_pcap.specs.Stamps.{stamp_of_units}
use Rattle.vdr_pcap.specs.declared.account.Account.{Account}
use Rattle.vdr_pcap.specs.declared.form.Form.{Form}
use Rattle.vdr_pcap.specs.declared.form.Form.TheVariants.{Blocks}
use Rattle.vdr_pcap.specs.declared.form.Interface.{Interface}
use Rattle.vdr_pcap.proofs.OptionLemmas.{none_left, one_last, one_more}
use Rattle.vdr_pcap.proofs.Telling.{long_enough}
use Rattle.vdr_pcap.proofs.UnitLemmas.{beginning_at, block_at, section_at, typed_at}
use Rattle.vdr_import.specs.SpelledFiles.{u16_bytes, u32_bytes}
use Rattle.vdr_import.specs.SpelledBlocks.{Added, AreBlocks, AreOptions, Block, BlocksReadBack, Describes, Enhanced, HasBody, InterfaceOption, IsBlock, Other, Resolution, Section, Unknown, added_in, block_text, blocks_text, body_text, end_text, interface_in, interfaces_with, option_text, order_in, packet_by, resolution_in, sized_text, told_by, told_by_all, u64_bytes}
use Rattle.vdr_import.proofs.FileLemmas.{items_one, length-u16, length-u32, takes, u16_there, u32_there}

-- ---- numbers

u32_alone : (big : Bool) (n : ℕ) → n < 2 ^ 32 → u32_in big 0 (u32_bytes big n) ≡ n
u32_alone big n few = ap (λ (t : List ℕ). u32_in big 0 t) (sym (append-nil (u32_bytes big n))) ∙ u32_there big 0 n [] [] refl few

length-u64 : (big : Bool) (n : ℕ) → length (u64_bytes big n) ≡ 8
length-u64 true n = refl
length-u64 false n = refl

u64_alone : (big : Bool) (n : ℕ) → n < 2 ^ 64 → u64_in big 0 (take 8 (u64_bytes big n)) ≡ n
unfolding u64_in
u64_alone true n few = from_be_bytes-to_be_bytes_8 n few
u64_alone false n few = from_le_bytes-to_le_bytes_8 n few

-- ---- a block

good_length : (kind len : ℕ) → len % 4 ≡ 0 → least kind ≤ len → (nat_eq kind 6 && nat_lt 327_712 len) ≡ false → is_bad_length kind len ≡ false
good_length kind len words long few =
    let a = eq-eqb (len % 4) 0 words in
    let b : nat_lt len (least kind) ≡ false = lt-leb (suc len) (least kind) (omega (arith, long)) in
    λ i. not (a i) || b i || few i

block_with_reads : (big : Bool) (kind len size : ℕ) (s : Standing) (body : List ℕ) → length body ≡ size → len < 2 ^ 32
    → block_with big kind len size s (body ++ u32_bytes big len) ≡ block_said big kind len s body
block_with_reads big kind len size s body long few =
    let again : List ℕ = u32_bytes big len in
    let there : u32_in big 0 (drop size (body ++ again)) ≡ len = ap (λ (t : List ℕ). u32_in big 0 t) (drop_at body again size long) ∙ u32_alone big len few in
    let said : Parsed = block_said big kind len s (take size (body ++ again)) in
    long_enough (length (body ++ again)) (size + 4) (Refuses 2) (cond (nat_eq (u32_in big 0 (drop size (body ++ again))) len) said (Refuses 4))
    (omega (arith, length-append body again, long, length-u32 big len))
    ∙ ap (λ (b : Bool). cond b said (Refuses 4)) (eq-eqb (u32_in big 0 (drop size (body ++ again))) len there)
    ∙ ap (λ (t : List ℕ). block_said big kind len s t) (take_at body again size long)

block_of_reads : (big : Bool) (kind len before : ℕ) (s : Standing) (body : List ℕ) → is_bad_length kind len ≡ false → length body + (before + 4) ≡ len → len < 2 ^ 32
    → block_of big kind len before s (body ++ u32_bytes big len) ≡ block_said big kind len s body
block_of_reads big kind len before s body good long few =
    ap (λ (b : Bool). cond b (Refuses 4) (block_with big kind len (len - (before + 4)) s (body ++ u32_bytes big len))) good
    ∙ block_with_reads big kind len (len - (before + 4)) s body (omega (arith, long)) few

-- a block of any type but a section header
block_reads : (big : Bool) (kind : ℕ) (s : Standing) (body : List ℕ) → kind < 2 ^ 32 → kind ≢ section_type → 12 + length body < 2 ^ 32
    → is_bad_length kind (12 + length body) ≡ false → parsed_block big s (sized_text big kind body) ≡ block_said big kind (12 + length body) s body
block_reads big kind s body known other few good =
    let len : ℕ = 12 + length body in
    let size : List ℕ = u32_bytes big len in
    let rest : List ℕ = body ++ u32_bytes big len in
    block_at big s (u32_bytes big kind) (size ++ rest) (length-u32 big kind)
    ∙ ap (λ (k : ℕ). typed big k s (size ++ rest)) (u32_alone big kind known)
    ∙ typed_at big kind s size rest (length-u32 big len)
    ∙ ap (λ (b : Bool). cond b (section s size rest) (block_of big kind (u32_in big 0 size) 8 s rest)) (ne_eqb kind section_type other)
    ∙ ap (λ (n : ℕ). block_of big kind n 8 s rest) (u32_alone big len few)
    ∙ block_of_reads big kind len 8 s body good (omega arith) few

sized_long : (big : Bool) (kind : ℕ) (body : List ℕ) → length (sized_text big kind body) ≡ 12 + length body
sized_long big kind body =
    omega (
      arith,
      length-append (u32_bytes big kind) (u32_bytes big (12 + length body) ++ (body ++ u32_bytes big (12 + length body))),
      length-append (u32_bytes big (12 + length body)) (body ++ u32_bytes big (12 + length body)),
      length-append body (u32_bytes big (12 + length body)),
      length-u32 big kind,
      length-u32 big (12 + length body),
    )

-- ---- a section header

abbrev begins : Bool → Standing → Standing
begins b s = record { form = Blocks b; interfaces = []; lost = lost_with s.lost s.interfaces }

order_is : (b : Bool) → order_of (u32_in false 0 (u32_bytes b 0x1A2B3C4D)) ≡ Some b
unfolding u32_in
order_is true = refl
order_is false = refl

-- its type reads the same in either order of bytes
type_is : (big b : Bool) → u32_in big 0 (u32_bytes b section_type) ≡ section_type
unfolding u32_in
type_is true true = refl
type_is true false = refl
type_is false true = refl
type_is false false = refl

abbrev tail_text : (b : Bool) → (minor : ℕ) → (unread : List ℕ) → List ℕ
tail_text b minor unread = u16_bytes b 1 ++ (u16_bytes b minor ++ unread)

tail_long : (b : Bool) (minor : ℕ) (unread : List ℕ) → length (tail_text b minor unread) ≡ 4 + length unread
tail_long b minor unread =
    omega (arith, length-append (u16_bytes b 1) (u16_bytes b minor ++ unread), length-append (u16_bytes b minor) unread, length-u16 b 1, length-u16 b minor)

major_is : (b : Bool) (minor : ℕ) (unread : List ℕ) → u16_in b 0 (take 4 (tail_text b minor unread)) ≡ 1
major_is b minor unread =
    let front : List ℕ = u16_bytes b 1 ++ u16_bytes b minor in
    let long : length front ≡ 4 = omega (arith, length-append (u16_bytes b 1) (u16_bytes b minor), length-u16 b 1, length-u16 b minor) in
    ap (λ (t : List ℕ). u16_in b 0 t) (ap (λ (t : List ℕ). take 4 t) (sym (append_assoc (u16_bytes b 1) (u16_bytes b minor) unread)) ∙ take_at front unread 4 long)
    ∙ u16_there b 0 1 [] (u16_bytes b minor) refl (omega arith)

section_reads : (big b : Bool) (s : Standing) (minor : ℕ) (unread : List ℕ) → 8 ≤ length unread → HasBody big (Section b minor unread)
    → typed big section_type s (u32_bytes b (12 + length (body_text b (Section b minor unread))) ++ (body_text b (Section b minor unread) ++ u32_bytes b (12 + length (body_text b (Section b minor unread)))))
    ≡ Reads (12 + length (body_text b (Section b minor unread))) (begins b s) Nothing
section_reads big b s minor unread least_is has =
    let body : List ℕ = body_text b (Section b minor unread) in
    let magic : List ℕ = u32_bytes b 0x1A2B3C4D in
    let tail : List ℕ = tail_text b minor unread in
    let len : ℕ = 12 + length body in
    let size : List ℕ = u32_bytes b len in
    let again : List ℕ = u32_bytes b len in
    let long : length body ≡ 4 + length tail = length-append magic tail ∙ ap (λ (n : ℕ). n + length tail) (length-u32 b 0x1A2B3C4D) in
    let words = has.words in let few = has.sized in
    let good : is_bad_length section_type len ≡ false = good_length section_type len (omega (arith, words)) (omega (arith, long, tail_long b minor unread, least_is)) refl in
    typed_at big section_type s size (body ++ again) (length-u32 b len)
    ∙ ap (λ (t : List ℕ). section s size t) (append_assoc magic tail again)
    ∙ section_at s size magic (tail ++ again) (length-u32 b 0x1A2B3C4D)
    ∙ ap (λ (o : Option Bool). section_in o s size (tail ++ again)) (order_is b)
    ∙ ap (λ (n : ℕ). block_of b section_type n 12 s (tail ++ again)) (u32_alone b len few)
    ∙ block_of_reads b section_type len 12 s tail good (omega (arith, long)) few
    ∙ ap (λ (n : ℕ). cond (nat_eq n 1) (Reads len (begins b s) Nothing) (Refuses 3)) (major_is b minor unread)

-- ---- an interface

abbrev or_later : Option ℕ → Option ℕ → Option ℕ
or_later None later = later
or_later (Some first) later = Some first

none_later : (o : Option ℕ) → or_later o None ≡ o
none_later None = refl
none_later (Some n) = refl

first_later : (o later : Option ℕ) (n : ℕ) → or_later (first_of o n) later ≡ or_later o (Some n)
first_later None later n = refl
first_later (Some m) later n = refl

four_long : (n : ℕ) → n ≡ 3 → suc n ≡ 4
four_long n e = omega (arith, e)

-- the head of an option
head_long : (big : Bool) (code size : ℕ) → length (u16_bytes big code ++ u16_bytes big size) ≡ 4
head_long big code size = omega (arith, length-append (u16_bytes big code) (u16_bytes big size), length-u16 big code, length-u16 big size)

code_is : (big : Bool) (code size : ℕ) → code < 2 ^ 16 → code ≡ u16_in big 0 (u16_bytes big code ++ u16_bytes big size)
code_is big code size few = sym (u16_there big 0 code [] (u16_bytes big size) refl few)

size_is : (big : Bool) (code size : ℕ) → size < 2 ^ 16 → size ≡ u16_in big 2 (u16_bytes big code ++ u16_bytes big size)
size_is big code size few =
    sym (ap (λ (t : List ℕ). u16_in big 2 (u16_bytes big code ++ t)) (sym (append-nil (u16_bytes big size))) ∙ u16_there big 2 size (u16_bytes big code) [] (length-u16 big code) few)

ends_read : (big : Bool) (r n : Option ℕ) (ended : Option (List ℕ))
    → options_from big 1 (record { resolution = r; number = n }) 0 (end_text big ended) ≡ Some (record { resolution = r; number = n })
ends_read big r n None = none_left big 1 (record { resolution = r; number = n })
ends_read big r n (Some rest) =
    ap (λ (t : List ℕ). options_from big 1 (record { resolution = r; number = n }) 0 t) (sym (append_assoc (u16_bytes big 0) (u16_bytes big 0) rest))
    ∙ one_last big 1 (record { resolution = r; number = n }) (u16_bytes big 0 ++ u16_bytes big 0) rest 0 (head_long big 0 0) (code_is big 0 0 (omega arith)) refl

not_noted : (big : Bool) (code size : ℕ) (value : List ℕ) (r n : Option ℕ) → code ≢ 9 → code ≢ 14
    → noted_with big 1 code size value (record { resolution = r; number = n }) ≡ Some (record { resolution = r; number = n })
not_noted big code size value r n nine fourteen =
    let a = ne_eqb code 9 nine in
    let b = ne_eqb code 14 fourteen in
    λ i. cond (true && a i) (noted_resolution size value (record { resolution = r; number = n }))
    (cond ((true && b i) || (false && nat_eq code 5)) (noted_number big size value (record { resolution = r; number = n })) (Some (record { resolution = r; number = n })))

-- what is noted of the options, behind what was noted before
options_read : (big : Bool) (options : List InterfaceOption) (ended : Option (List ℕ)) (r n : Option ℕ) → AreOptions options
    → options_from big 1 (record { resolution = r; number = n }) 0 (flat_map (option_text big) options ++ end_text big ended)
    ≡ Some (record { resolution = or_later r (resolution_in options); number = or_later n (added_in options) })
options_read big [] ended r n are =
    ends_read big r n ended ∙ (λ i. Some (record { resolution = sym (none_later r) i; number = sym (none_later n) i }))
options_read big (Resolution resolution padding ∷ options) ended r n are =
    let rest : List ℕ = flat_map (option_text big) options ++ end_text big ended in
    let three : length padding ≡ 3 = are.0 in
    ap (λ (t : List ℕ). options_from big 1 (record { resolution = r; number = n }) 0 t) (append_assoc (option_text big (Resolution resolution padding)) (flat_map (option_text big) options) (end_text big ended))
    ∙ one_more big 1 (record { resolution = r; number = n }) (record { resolution = first_of r resolution; number = n }) (u16_bytes big 9 ++ u16_bytes big 1) (resolution ∷ padding) rest 9 1
    (head_long big 9 1) (code_is big 9 1 (omega arith)) (size_is big 9 1 (omega arith)) (λ e. let none : ⊥ = omega (arith, e) in none) (four_long (length padding) three) (omega arith) refl
    ∙ options_read big options ended (first_of r resolution) n are.1
    ∙ (λ i. Some (record { resolution = first_later r (resolution_in options) resolution i; number = or_later n (added_in options) }))
options_read big (Added seconds ∷ options) ended r n are =
    let rest : List ℕ = flat_map (option_text big) options ++ end_text big ended in
    ap (λ (t : List ℕ). options_from big 1 (record { resolution = r; number = n }) 0 t) (append_assoc (option_text big (Added seconds)) (flat_map (option_text big) options) (end_text big ended))
    ∙ one_more big 1 (record { resolution = r; number = n }) (record { resolution = r; number = first_of n seconds }) (u16_bytes big 14 ++ u16_bytes big 8) (u64_bytes big seconds) rest 14 8
    (head_long big 14 8) (code_is big 14 8 (omega arith)) (size_is big 14 8 (omega arith)) (λ e. let none : ⊥ = omega (arith, e) in none) (length-u64 big seconds) (omega arith)
    (λ i. Some (record { resolution = r; number = first_of n (u64_alone big seconds are.0 i) }))
    ∙ options_read big options ended r (first_of n seconds) are.1
    ∙ (λ i. Some (record { resolution = or_later r (resolution_in options); number = first_later n (added_in options) seconds i }))
options_read big (Other code value padding ∷ options) ended r n are =
    let rest : List ℕ = flat_map (option_text big) options ++ end_text big ended in
    let is = are.0 in
    let long : length (value ++ padding) ≡ padded (length value) = length-append value padding ∙ is.5 in
    let within : length value ≤ padded (length value) = let whole = is.5 in omega (arith, whole) in
    ap (λ (t : List ℕ). options_from big 1 (record { resolution = r; number = n }) 0 t) (append_assoc (option_text big (Other code value padding)) (flat_map (option_text big) options) (end_text big ended))
    ∙ one_more big 1 (record { resolution = r; number = n }) (record { resolution = r; number = n }) (u16_bytes big code ++ u16_bytes big (length value)) (value ++ padding) rest code (length value)
    (head_long big code (length value)) (code_is big code (length value) is.3) (size_is big code (length value) is.4) is.0 long within
    (not_noted big code (length value) (take (length value) (value ++ padding)) r n is.1 is.2)
    ∙ options_read big options ended r n are.1

interface_said : (big : Bool) (len link : ℕ) (s : Standing) (unread : List ℕ) (options : List InterfaceOption) (ended : Option (List ℕ)) → length s.interfaces < 256 → link < 2 ^ 16 → length unread ≡ 6
    → AreOptions options → block_said big 1 len s (body_text big (Describes link unread options ended)) ≡ Reads len (record s { interfaces = s.interfaces ++ interface_in link options ∷ [] }) Nothing
interface_said big len link s unread options ended few small six are =
    let front : List ℕ = u16_bytes big link ++ unread in
    let rest : List ℕ = flat_map (option_text big) options ++ end_text big ended in
    let long : length front ≡ 8 = omega (arith, length-append (u16_bytes big link) unread, length-u16 big link, six) in
    (λ i. block_says big 1 len s (take_at front rest 8 long i) (options_from big 1 none_noted 0 (drop_at front rest 8 long i)) [])
    ∙ ap (λ (b : Bool). cond b (Refuses 6) (with_interface len (u16_in big 0 front) s (options_from big 1 none_noted 0 rest))) (lt-leb 256 (length s.interfaces) few)
    ∙ (λ i. with_interface len (u16_there big 0 link [] unread refl small i) s (options_read big options ended None None are i))

-- ---- a packet

take_none : (n : ℕ) → ◌≡◌ {A = List ℕ} (take n []) []
take_none zero = refl
take_none (suc n) = refl

fronts : (m : ℕ) (xs ys : List ℕ) → take (length xs) (take m (xs ++ ys)) ≡ take m xs
fronts zero xs ys = take_none (length xs)
fronts (suc m) [] ys = refl
fronts (suc m) (x ∷ xs) ys = ap (λ (t : List ℕ). x ∷ t) (fronts m xs ys)

abbrev fixed_text : (big : Bool) → (interface high low captured original : ℕ) → List ℕ
fixed_text big interface high low captured original = u32_bytes big interface ++ (u32_bytes big high ++ (u32_bytes big low ++ (u32_bytes big captured ++ u32_bytes big original)))

fixed_long : (big : Bool) (interface high low captured original : ℕ) → length (fixed_text big interface high low captured original) ≡ 20
fixed_long big interface high low captured original =
    omega (
      arith,
      length-append (u32_bytes big interface) (u32_bytes big high ++ (u32_bytes big low ++ (u32_bytes big captured ++ u32_bytes big original))),
      length-append (u32_bytes big high) (u32_bytes big low ++ (u32_bytes big captured ++ u32_bytes big original)),
      length-append (u32_bytes big low) (u32_bytes big captured ++ u32_bytes big original),
      length-append (u32_bytes big captured) (u32_bytes big original),
      length-u32 big interface,
      length-u32 big high,
      length-u32 big low,
      length-u32 big captured,
      length-u32 big original,
    )

low_is : (big : Bool) (interface high low captured original : ℕ) → low < 2 ^ 32 → u32_in big 8 (fixed_text big interface high low captured original) ≡ low
low_is big interface high low captured original few =
    let front : List ℕ = u32_bytes big interface ++ u32_bytes big high in
    let long : length front ≡ 8 = omega (arith, length-append (u32_bytes big interface) (u32_bytes big high), length-u32 big interface, length-u32 big high) in
    ap (λ (t : List ℕ). u32_in big 8 t) (sym (append_assoc (u32_bytes big interface) (u32_bytes big high) (u32_bytes big low ++ (u32_bytes big captured ++ u32_bytes big original))))
    ∙ u32_there big 8 low front (u32_bytes big captured ++ u32_bytes big original) long few

captured_is : (big : Bool) (interface high low captured original : ℕ) → captured < 2 ^ 32 → u32_in big 12 (fixed_text big interface high low captured original) ≡ captured
captured_is big interface high low captured original few =
    let front : List ℕ = u32_bytes big interface ++ (u32_bytes big high ++ u32_bytes big low) in
    let long : length front ≡ 12 =
    omega (arith, length-append (u32_bytes big interface) (u32_bytes big high ++ u32_bytes big low), length-append (u32_bytes big high) (u32_bytes big low), length-u32 big interface, length-u32 big high, length-u32 big low) in
    let rest : List ℕ = u32_bytes big captured ++ u32_bytes big original in
    ap (λ (t : List ℕ). u32_in big 12 t)
    (ap (λ (t : List ℕ). u32_bytes big interface ++ t) (sym (append_assoc (u32_bytes big high) (u32_bytes big low) rest)) ∙ sym (append_assoc (u32_bytes big interface) (u32_bytes big high ++ u32_bytes big low) rest))
    ∙ u32_there big 12 captured front (u32_bytes big original) long few

packet_said : (big : Bool) (len : ℕ) (s : Standing) (interface high low original : ℕ) (captured padding options : List ℕ) → interface < length s.interfaces → interface < 2 ^ 32 → high < 2 ^ 32 → low < 2 ^ 32
    → length captured < 2 ^ 32 → length captured ≤ len - 32
    → block_said big 6 len s (body_text big (Enhanced interface high low original captured padding options))
    ≡ Reads len s (Packet (packet_by (slice_index_or s.interfaces interface no_interface) high low captured))
packet_said big len s interface high low original captured padding options there a b c few within =
    let n : ℕ = length captured in
    let fixed : List ℕ = fixed_text big interface high low n original in
    let behind : List ℕ = captured ++ (padding ++ options) in
    let long = fixed_long big interface high low n original in
    let interface_is : u32_in big 0 fixed ≡ interface = u32_there big 0 interface [] (u32_bytes big high ++ (u32_bytes big low ++ (u32_bytes big n ++ u32_bytes big original))) refl a in
    let high_is : u32_in big 4 fixed ≡ high = u32_there big 4 high (u32_bytes big interface) (u32_bytes big low ++ (u32_bytes big n ++ u32_bytes big original)) (length-u32 big interface) b in
    let lows = low_is big interface high low n original c in
    let counts = captured_is big interface high low n original few in
    let i' : Interface = slice_index_or s.interfaces interface no_interface in
    let told : List ℕ → Parsed = λ (t : List ℕ). Reads len s (Packet (record { link = i'.link; stamp = stamp_of_units i'.resolution i'.added (2 ^ 32 * high + low); front = t })) in
    (λ i. block_says big 6 len s (take_at fixed behind 20 long i) None (take longest_front (drop_at fixed behind 20 long i)))
    ∙ (λ i. cond (nat_le (length s.interfaces) (interface_is i)) (Refuses 5) (cond (nat_lt (len - 32) (counts i)) (Refuses 4) (Reads len s (Packet (record {
      link = (slice_index_or s.interfaces (interface_is i) no_interface).link;
      stamp = stamp_of_units (slice_index_or s.interfaces (interface_is i) no_interface).resolution (slice_index_or s.interfaces (interface_is i) no_interface).added (2 ^ 32 * high_is i + lows i);
      front = take (counts i) (take longest_front behind);
    })))))
    ∙ ap (λ (x : Bool). cond x (Refuses 5) (cond (nat_lt (len - 32) n) (Refuses 4) (told (take n (take longest_front behind))))) (lt-leb (length s.interfaces) interface there)
    ∙ long_enough (len - 32) n (Refuses 4) (told (take n (take longest_front behind))) within
    ∙ ap told (fronts longest_front captured (padding ++ options))

-- ---- any block

record Read (big : Bool) (s : Standing) (b : Block) : Type 0 where
  next : Standing
  is : parsed_block big s (block_text big b) ≡ Reads (length (block_text big b)) next (told_by s.interfaces b)
  form : next.form ≡ Blocks (order_in big b)
  interfaces : next.interfaces ≡ interfaces_with s.interfaces b

either : (b : Bool) (len : ℕ) (s : Standing) → cond b (Reads len s Unread) (Reads len s Nothing) ≡ Reads len s (cond b Unread Nothing)
either true len s = refl
either false len s = refl

along : (big : Bool) (kind : ℕ) (body : List ℕ) (s next : Standing) (piece : Piece) → parsed_block big s (sized_text big kind body) ≡ Reads (12 + length body) next piece
    → parsed_block big s (sized_text big kind body) ≡ Reads (length (sized_text big kind body)) next piece
along big kind body s next piece is = is ∙ ap (λ (n : ℕ). Reads n next piece) (sym (sized_long big kind body))

reads_block : (big : Bool) (s : Standing) (b : Block) → s.form ≡ Blocks big → HasBody big b → IsBlock s.interfaces b → Read big s b
reads_block big s (Section b minor unread) form has is =
    let body : List ℕ = body_text b (Section b minor unread) in
    let len : ℕ = 12 + length body in
    record {
      next = begins b s;
      is = block_at big s (u32_bytes b section_type) (u32_bytes b len ++ (body ++ u32_bytes b len)) (length-u32 b section_type)
          ∙ ap (λ (k : ℕ). typed big k s (u32_bytes b len ++ (body ++ u32_bytes b len))) (type_is big b)
          ∙ section_reads big b s minor unread is has
          ∙ ap (λ (n : ℕ). Reads n (begins b s) Nothing) (sym (sized_long b section_type body));
      form = refl;
      interfaces = refl;
    }
reads_block big s (Describes link unread options ended) form has is =
    let body : List ℕ = body_text big (Describes link unread options ended) in
    let words = has.words in let few = has.sized in
    let front = length-append (u16_bytes big link ++ unread) (flat_map (option_text big) options ++ end_text big ended) in
    let eight = length-append (u16_bytes big link) unread in
    let six : length unread ≡ 6 = is.2 in
    let next : Standing = record s { interfaces = s.interfaces ++ interface_in link options ∷ [] } in
    let good = good_length 1 (12 + length body) (omega (arith, words)) (omega (arith, front, eight, six, length-u16 big link)) refl in
    record {
      next = next;
      is = along big 1 body s next Nothing
          (block_reads big 1 s body (omega arith) (λ e. let none : ⊥ = cc in none) few good ∙ interface_said big (12 + length body) link s unread options ended is.0 is.1 six is.3);
      form = form;
      interfaces = refl;
    }
reads_block big s (Enhanced interface high low original captured padding options) form has is =
    let body : List ℕ = body_text big (Enhanced interface high low original captured padding options) in
    let words = has.words in let few = has.sized in
    let fixed = fixed_long big interface high low (length captured) original in
    let front = length-append (fixed_text big interface high low (length captured) original) (captured ++ (padding ++ options)) in
    let behind = length-append captured (padding ++ options) in
    let more = length-append padding options in
    let most : 32 + length captured + length padding + length options ≤ 327_712 = is.4 in
    let large : nat_lt 327_712 (12 + length body) ≡ false = lt-leb (suc 327_712) (12 + length body) (omega (arith, most, fixed, front, behind, more)) in
    let good = good_length 6 (12 + length body) (omega (arith, words)) (omega (arith, fixed, front)) large in
    let piece : Piece = Packet (packet_by (slice_index_or s.interfaces interface no_interface) high low captured) in
    record {
      next = s;
      is = along big 6 body s s piece
          (block_reads big 6 s body (omega arith) (λ e. let none : ⊥ = cc in none) few good
          ∙ packet_said big (12 + length body) s interface high low original captured padding options is.0 is.1 is.2 is.3 (omega (arith, most)) (omega (arith, fixed, front, behind)));
      form = form;
      interfaces = refl;
    }
reads_block big s (Unknown kind body) form has is =
    let words = has.words in let few = has.sized in
    let six = ne_eqb kind 6 is.4 in
    let one = ne_eqb kind 1 is.2 in
    let five = ne_eqb kind 5 is.3 in
    let type = ne_eqb kind section_type is.1 in
    let len : ℕ = 12 + length body in
    let least_is : least kind ≡ 12 = λ i. cond (type i) 28 (cond (one i) 20 (cond (six i) 32 (cond (five i) 24 12))) in
    let good = good_length kind len (omega (arith, words)) (omega (arith, least_is)) (ap (λ (b : Bool). b && nat_lt 327_712 len) six) in
    let tell : Bool = nat_eq kind 2 || nat_eq kind 3 in
    let F : List ℕ = take (fixed_size kind) body in
    let X : List ℕ = front_in kind (drop (fixed_size kind) body) in
    record {
      next = s;
      is = along big kind body s s (cond tell Unread Nothing)
          (block_reads big kind s body is.0 is.1 few good
          ∙ (λ i. cond (type i) (section_block big len s F) (cond (one i) (interface_block big len s F (noted_in big kind (drop (fixed_size kind) body)))
          (cond (six i) (packet_block big len s F X) (cond (five i) (statistics_block big len s F (noted_in big kind (drop (fixed_size kind) body)))
          (cond tell (Reads len s Unread) (Reads len s Nothing))))))
          ∙ either tell len s);
      form = form;
      interfaces = refl;
    }

-- ---- blocks, one after another

items_piece : (p : Piece) (a : Account) → (counted p a).items ≤ a.items + 1
items_piece Nothing a = omega arith
items_piece Unread a = omega arith
items_piece (Packet c) a = items_one (fate c) a

record Follow (limit : ℕ) (big : Bool) (blocks : List Block) (c : Course) : Type 0 where
  parts : List Part
  are : AreParts limit true c parts
  spelled : text parts ≡ blocks_text big blocks
  told : pieces_of parts ≡ told_by_all c.standing.interfaces blocks
  last : Bool
  form : (course_after c parts).standing.form ≡ Blocks last

follow : (limit : ℕ) (big : Bool) (blocks : List Block) (c : Course) → c.standing.form ≡ Blocks big → AreBlocks big c.standing.interfaces blocks
    → c.account.items + length blocks ≤ limit → c.offset + length (blocks_text big blocks) < 2 ^ 64 → Follow limit big blocks c
follow limit big [] c form are few within = record { parts = []; are = tt; spelled = refl; told = refl; last = big; form = form }
follow limit big (b ∷ blocks) c form are few within =
    let read = reads_block big c.standing b form are.0 are.1 in
    let bytes : List ℕ = block_text big b in
    let piece : Piece = told_by c.standing.interfaces b in
    let next : Course = record { standing = read.next; offset = c.offset + length bytes; account = counted piece c.account } in
    let total = length-append bytes (blocks_text (order_in big b) blocks) in
    let one = items_piece piece c.account in
    let reads : parsed c.standing bytes ≡ Reads (length bytes) read.next piece = ap (λ (f : Form). further f c.standing bytes) form ∙ read.is in
    let is : step limit true c bytes ≡ Takes (length bytes) next piece =
    takes limit c (parsed c.standing bytes) (length bytes) read.next piece reads (omega (arith, within, total)) (omega (arith, few)) in
    let legal = subst (λ (is : List Interface). AreBlocks (order_in big b) is blocks) (sym read.interfaces) are.2 in
    let rest = follow limit (order_in big b) blocks next read.form legal (omega (arith, few, one)) (omega (arith, within, total)) in
    let part : Part = record { bytes = bytes; next = next; piece = piece } in
    record {
      parts = part ∷ rest.parts;
      are = (record { is = is }, rest.are);
      spelled = ap (λ (t : List ℕ). bytes ++ t) rest.spelled;
      told = ap (λ (ps : List Piece). piece ∷ ps) (rest.told ∙ ap (λ (is : List Interface). told_by_all is blocks) read.interfaces);
      last = rest.last;
      form = rest.form;
    }

-- the first block of a file
first_is : (b : Bool) (s : Standing) (rest : List ℕ) → file_of (u32_in false 0 (u32_bytes b section_type)) s rest ≡ typed false section_type s rest
first_is b s rest = ap (λ (n : ℕ). file_of n s rest) (type_is false b)

pub blocks_read_back : BlocksReadBack
blocks_read_back limit big minor unread blocks are few within =
    let b : Block = Section big minor unread in
    let body : List ℕ = body_text big b in
    let len : ℕ = 12 + length body in
    let bytes : List ℕ = block_text big b in
    let long = sized_long big section_type body in
    let total = length-append bytes (blocks_text big blocks) in
    let rest_text : List ℕ = u32_bytes big len ++ (body ++ u32_bytes big len) in
    let reads : beginning no_standing bytes ≡ Reads (length bytes) (begins big no_standing) Nothing =
    beginning_at no_standing (u32_bytes big section_type) rest_text (length-u32 big section_type)
    ∙ first_is big no_standing rest_text
    ∙ section_reads false big no_standing minor unread are.1 (record { words = are.0.words; sized = are.0.sized })
    ∙ ap (λ (n : ℕ). Reads n (begins big no_standing) Nothing) (sym long) in
    let next : Course = record { standing = begins big no_standing; offset = 0 + length bytes; account = no_course.account } in
    let fits : nat_lt (2 ^ 64 - 1) (0 + length bytes) ≡ false = lt-leb (2 ^ 64) (0 + length bytes) (omega (arith, within, total)) in
    let first : step limit false no_course bytes ≡ Takes (length bytes) next Nothing =
    ap (λ (q : Parsed). step_of limit no_course q) reads
    ∙ ap (λ (x : Bool). cond (x || (false && nat_le limit 0)) (Refuses7 7) (Takes (length bytes) next Nothing)) fits in
    let rest = follow limit big blocks next refl are.2 (omega (arith, few)) (omega (arith, within, total)) in
    let part : Part = record { bytes = bytes; next = next; piece = Nothing } in
    let ended : step limit true (course_after next rest.parts) [] ≡ Ended = ap (λ (f : Form). step_of limit (course_after next rest.parts) (further f (course_after next rest.parts).standing [])) rest.form in (
      part ∷ rest.parts,
      record {
        whole = record {
          spelled = ap (λ (t : List ℕ). bytes ++ t) (sym rest.spelled) ∙ sym (append-nil (text (part ∷ rest.parts)));
          legal = (record { is = first }, rest.are);
        };
        ended = ended;
      },
      ap (λ (ps : List Piece). Nothing ∷ ps) rest.told,
    )
