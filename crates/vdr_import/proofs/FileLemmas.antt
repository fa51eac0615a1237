-- What was written is read.
use Rattle.std.proofs.Common.{◌≡◌, ◌≤◌, ◌<◌, ◌+◌, ◌-◌, ◌^◌, ◌%◌, ◌||◌, ◌&&◌, ℕ, Bool, true, false, cond, nat_lt, nat_le, nat_eq, List, [], ◌∷◌, ◌++◌, length, map, take, refl, ap, ◌∙◌, sym, arith, w16, w32}
use Rattle.std.specs.Int.{from_le_bytes, from_be_bytes, to_le_bytes, to_be_bytes}
use Rattle.std.specs.List.{flat_map}
use Rattle.std.proofs.lemmas.Nat.{from_le_bytes-to_le_bytes_2, from_le_bytes-to_le_bytes_4, from_be_bytes-to_be_bytes_2, from_be_bytes-to_be_bytes_4}
use Rattle.std.proofs.lemmas.Bool.{lt-leb}
use Rattle.std.proofs.lemmas.List.{append_assoc, append-nil, length-append, take_all, take_at, drop_at}
use Rattle.vdr_pcap.specs.Account.{Fate, Given, LeftOut, counted, datagram_of, fate, with_fate}
use Rattle.vdr_pcap.specs.Blocks.{beginning, file_of, further, parsed, parsed_packet, pcap_header}
use Rattle.vdr_pcap.specs.Capture.{AreParts, Course, Ended, Part, Refused as Refuses7, Takes, course_after, is_some, is_too_much, no_course, pieces_of, step, step_of, text}
use Rattle.vdr_pcap.specs.Numbers.{u16_in, u32_in}
use Rattle.vdr_pcap.specs.Packets.{Captured, Nothing, Packet, Parsed, Piece, Reads, Refuses, Standing, longest_front, no_standing}
use Rattle.vdr_pcap.specs.Stamps.{stamp_of_fraction}
use Rattle.vdr_pcap.specs.declared.account.Account.{Account}
use Rattle.vdr_pcap.specs.declared.form.Form.{Form}
use Rattle.vdr_pcap.specs.declared.form.Form.TheVariants.{Packets}
use Rattle.vdr_pcap.proofs.Telling.{long_enough}
use Rattle.vdr_pcap.proofs.UnitLemmas.{beginning_at, header_is, packet_at_head}
use Rattle.vdr_import.specs.SpelledFiles.{AreFilePackets, FileHeader, FilePacket, FilesReadBack, IsFileHeader, IsFilePacket, captured_in, file_text, header_text, magic_of, packet_text, u16_bytes, u32_bytes}

-- ---- numbers

pub length-u16 : (big : Bool) (n : ℕ) → length (u16_bytes big n) ≡ 2
length-u16 true n = refl
length-u16 false n = refl

pub length-u32 : (big : Bool) (n : ℕ) → length (u32_bytes big n) ≡ 4
length-u32 true n = refl
length-u32 false n = refl

-- a number that stands at a place
pub u16_there : (big : Bool) (at n : ℕ) (xs rest : List ℕ) → length xs ≡ at → n < 2 ^ 16 → u16_in big at (xs ++ (u16_bytes big n ++ rest)) ≡ n
unfolding u16_in
u16_there true at n xs rest long few =
    ap (λ (t : List ℕ). from_be_bytes w16 t) (ap (λ (t : List ℕ). take 2 t) (drop_at xs (to_be_bytes w16 n ++ rest) at long) ∙ take_at (to_be_bytes w16 n) rest 2 refl)
    ∙ from_be_bytes-to_be_bytes_2 n few
u16_there false at n xs rest long few =
    ap (λ (t : List ℕ). from_le_bytes w16 t) (ap (λ (t : List ℕ). take 2 t) (drop_at xs (to_le_bytes w16 n ++ rest) at long) ∙ take_at (to_le_bytes w16 n) rest 2 refl)
    ∙ from_le_bytes-to_le_bytes_2 n few

pub u32_there : (big : Bool) (at n : ℕ) (xs rest : List ℕ) → length xs ≡ at → n < 2 ^ 32 → u32_in big at (xs ++ (u32_bytes big n ++ rest)) ≡ n
unfolding u32_in
u32_there true at n xs rest long few =
    ap (λ (t : List ℕ). from_be_bytes w32 t) (ap (λ (t : List ℕ). take 4 t) (drop_at xs (to_be_bytes w32 n ++ rest) at long) ∙ take_at (to_be_bytes w32 n) rest 4 refl)
    ∙ from_be_bytes-to_be_bytes_4 n few
u32_there false at n xs rest long few =
    ap (λ (t : List ℕ). from_le_bytes w32 t) (ap (λ (t : List ℕ). take 4 t) (drop_at xs (to_le_bytes w32 n ++ rest) at long) ∙ take_at (to_le_bytes w32 n) rest 4 refl)
    ∙ from_le_bytes-to_le_bytes_4 n few

-- ---- one part

-- what is not too much
pub fits : (limit offset items size : ℕ) (piece : Piece) → offset + size < 2 ^ 64 → items < limit → is_too_much limit offset items size piece ≡ false
fits limit offset items size piece within few =
    let first : nat_lt (2 ^ 64 - 1) (offset + size) ≡ false = lt-leb (2 ^ 64) (offset + size) (omega (arith, within)) in
    let second : nat_le limit items ≡ false = lt-leb limit items few in
    (λ i. first i || (is_some (datagram_of piece) && second i)) ∙ never (is_some (datagram_of piece))
  where
    never : (b : Bool) → (false || (b && false)) ≡ false
    never true = refl
    never false = refl

-- where it was read and is not too much
pub takes : (limit : ℕ) (c : Course) (p : Parsed) (size : ℕ) (next : Standing) (piece : Piece) → p ≡ Reads size next piece → c.offset + size < 2 ^ 64 → c.account.items < limit
    → step_of limit c p ≡ Takes size (record { standing = next; offset = c.offset + size; account = counted piece c.account }) piece
takes limit c p size next piece is within few =
    ap (λ (q : Parsed). step_of limit c q) is
    ∙ ap (λ (b : Bool). cond b (Refuses7 7) (Takes size (record { standing = next; offset = c.offset + size; account = counted piece c.account }) piece))
    (fits limit c.offset c.account.items size piece within few)

pub items_one : (f : Fate) (a : Account) → (with_fate f a).items ≤ a.items + 1
items_one (LeftOut row) a = omega arith
items_one (Given d) a = omega arith

pub items_counted : (c : Captured) (a : Account) → (counted (Packet c) a).items ≤ a.items + 1
items_counted c a = items_one (fate c) a

-- ---- the header of a file

abbrev head_text : FileHeader → List ℕ
head_text h = u16_bytes h.big 2 ++ (u16_bytes h.big h.minor ++ (h.unread ++ u32_bytes h.big h.link))

file_is : (big nano : Bool) (s : Standing) (head : List ℕ) → file_of (u32_in false 0 (u32_bytes big (magic_of nano))) s head ≡ pcap_header big nano s head
unfolding u32_in
file_is true true s head = refl
file_is true false s head = refl
file_is false true s head = refl
file_is false false s head = refl

head_long : (h : FileHeader) → IsFileHeader h → length (head_text h) ≡ 20
head_long h is =
    omega (
      arith,
      is.unread,
      length-append (u16_bytes h.big 2) (u16_bytes h.big h.minor ++ (h.unread ++ u32_bytes h.big h.link)),
      length-append (u16_bytes h.big h.minor) (h.unread ++ u32_bytes h.big h.link),
      length-append h.unread (u32_bytes h.big h.link),
      length-u16 h.big 2,
      length-u16 h.big h.minor,
      length-u32 h.big h.link,
    )

major_is : (h : FileHeader) → u16_in h.big 0 (head_text h) ≡ 2
major_is h = u16_there h.big 0 2 [] (u16_bytes h.big h.minor ++ (h.unread ++ u32_bytes h.big h.link)) refl (omega arith)

link_is : (h : FileHeader) → IsFileHeader h → u32_in h.big 16 (head_text h) ≡ h.link
link_is h is =
    let front : List ℕ = u16_bytes h.big 2 ++ (u16_bytes h.big h.minor ++ h.unread) in
    let long : length front ≡ 16 =
    omega (arith, is.unread, length-append (u16_bytes h.big 2) (u16_bytes h.big h.minor ++ h.unread), length-append (u16_bytes h.big h.minor) h.unread, length-u16 h.big 2, length-u16 h.big h.minor) in
    let same : head_text h ≡ front ++ (u32_bytes h.big h.link ++ []) =
    ap (λ (t : List ℕ). u16_bytes h.big 2 ++ t) (sym (append_assoc (u16_bytes h.big h.minor) h.unread (u32_bytes h.big h.link)))
    ∙ sym (append_assoc (u16_bytes h.big 2) (u16_bytes h.big h.minor ++ h.unread) (u32_bytes h.big h.link))
    ∙ ap (λ (t : List ℕ). front ++ t) (sym (append-nil (u32_bytes h.big h.link))) in
    ap (λ (t : List ℕ). u32_in h.big 16 t) same ∙ u32_there h.big 16 h.link front [] long is.link

abbrev form_of : FileHeader → Form
form_of h = Packets h.big h.nano (h.link % 65_536)

header_reads : (h : FileHeader) → IsFileHeader h → beginning no_standing (header_text h) ≡ Reads 24 (record no_standing { form = form_of h }) Nothing
header_reads h is =
    beginning_at no_standing (u32_bytes h.big (magic_of h.nano)) (head_text h) (length-u32 h.big (magic_of h.nano))
    ∙ file_is h.big h.nano no_standing (head_text h)
    ∙ ap (λ (t : List ℕ). pcap_header h.big h.nano no_standing t) (sym (append-nil (head_text h)))
    ∙ header_is h.big h.nano no_standing (head_text h) [] (head_long h is)
    ∙ (λ i. cond (nat_eq (major_is h i) 2) (Reads 24 (record no_standing { form = Packets h.big h.nano (link_is h is i % 65_536) }) Nothing) (Refuses 3))

header_long : (h : FileHeader) → IsFileHeader h → length (header_text h) ≡ 24
header_long h is = omega (arith, head_long h is, length-append (u32_bytes h.big (magic_of h.nano)) (head_text h), length-u32 h.big (magic_of h.nano))

-- ---- a packet of a file

abbrev head_of : (big : Bool) → FilePacket → List ℕ
head_of big p = u32_bytes big p.seconds ++ (u32_bytes big p.fraction ++ (u32_bytes big (length p.captured) ++ u32_bytes big p.original))

packet_is : (big : Bool) (p : FilePacket) → packet_text big p ≡ head_of big p ++ p.captured
packet_is big p = simp append_assoc

head_of_long : (big : Bool) (p : FilePacket) → length (head_of big p) ≡ 16
head_of_long big p =
    omega (
      arith,
      length-append (u32_bytes big p.seconds) (u32_bytes big p.fraction ++ (u32_bytes big (length p.captured) ++ u32_bytes big p.original)),
      length-append (u32_bytes big p.fraction) (u32_bytes big (length p.captured) ++ u32_bytes big p.original),
      length-append (u32_bytes big (length p.captured)) (u32_bytes big p.original),
      length-u32 big p.seconds,
      length-u32 big p.fraction,
      length-u32 big (length p.captured),
      length-u32 big p.original,
    )

seconds_are : (big : Bool) (p : FilePacket) → IsFilePacket p → u32_in big 0 (head_of big p) ≡ p.seconds
seconds_are big p is = u32_there big 0 p.seconds [] (u32_bytes big p.fraction ++ (u32_bytes big (length p.captured) ++ u32_bytes big p.original)) refl is.seconds

fraction_is : (big : Bool) (p : FilePacket) → IsFilePacket p → u32_in big 4 (head_of big p) ≡ p.fraction
fraction_is big p is = u32_there big 4 p.fraction (u32_bytes big p.seconds) (u32_bytes big (length p.captured) ++ u32_bytes big p.original) (length-u32 big p.seconds) is.fraction

captured_is : (big : Bool) (p : FilePacket) → IsFilePacket p → u32_in big 8 (head_of big p) ≡ length p.captured
captured_is big p is =
    let front : List ℕ = u32_bytes big p.seconds ++ u32_bytes big p.fraction in
    let long : length front ≡ 8 = omega (arith, length-append (u32_bytes big p.seconds) (u32_bytes big p.fraction), length-u32 big p.seconds, length-u32 big p.fraction) in
    ap (λ (t : List ℕ). u32_in big 8 t) (sym (append_assoc (u32_bytes big p.seconds) (u32_bytes big p.fraction) (u32_bytes big (length p.captured) ++ u32_bytes big p.original)))
    ∙ u32_there big 8 (length p.captured) front (u32_bytes big p.original) long (omega (arith, is.few))

packet_reads : (h : FileHeader) (p : FilePacket) (s : Standing) → IsFilePacket p
    → parsed_packet h.big h.nano (h.link % 65_536) s (packet_text h.big p) ≡ Reads (16 + length p.captured) s (Packet (captured_in h p))
packet_reads h p s is =
    let head : List ℕ = head_of h.big p in
    let link : ℕ = h.link % 65_536 in
    let n = captured_is h.big p is in
    let told : List ℕ → Parsed = λ (t : List ℕ). Reads (16 + length p.captured) s (Packet (record { link = link; stamp = stamp_of_fraction h.nano p.seconds p.fraction; front = take longest_front t })) in
    ap (λ (t : List ℕ). parsed_packet h.big h.nano link s t) (packet_is h.big p)
    ∙ packet_at_head h.big h.nano link s head p.captured (head_of_long h.big p)
    ∙ (λ i. cond (nat_lt 262_144 (n i)) (Refuses 4) (cond (nat_lt (length p.captured) (n i)) (Refuses 2) (Reads (16 + n i) s (Packet (record {
      link = link;
      stamp = stamp_of_fraction h.nano (seconds_are h.big p is i) (fraction_is h.big p is i);
      front = take longest_front (take (n i) p.captured);
    })))))
    ∙ long_enough 262_144 (length p.captured) (Refuses 4) (cond (nat_lt (length p.captured) (length p.captured)) (Refuses 2) (told (take (length p.captured) p.captured))) is.few
    ∙ long_enough (length p.captured) (length p.captured) (Refuses 2) (told (take (length p.captured) p.captured)) (omega arith)
    ∙ ap told (take_all (length p.captured) p.captured (omega arith))

packet_long : (big : Bool) (p : FilePacket) → length (packet_text big p) ≡ 16 + length p.captured
packet_long big p = ap (λ (t : List ℕ). length t) (packet_is big p) ∙ length-append (head_of big p) p.captured ∙ ap (λ (n : ℕ). n + length p.captured) (head_of_long big p)

-- ---- packets, one after another

record Follow (limit : ℕ) (h : FileHeader) (packets : List FilePacket) (c : Course) : Type 0 where
  parts : List Part
  are : AreParts limit true c parts
  spelled : text parts ≡ flat_map (packet_text h.big) packets
  told : pieces_of parts ≡ map (λ (p : FilePacket). Packet (captured_in h p)) packets
  form : (course_after c parts).standing.form ≡ form_of h

follow : (limit : ℕ) (h : FileHeader) (packets : List FilePacket) (c : Course) → c.standing.form ≡ form_of h → AreFilePackets packets
    → c.account.items + length packets ≤ limit → c.offset + length (flat_map (packet_text h.big) packets) < 2 ^ 64 → Follow limit h packets c
follow limit h [] c form are few within = record { parts = []; are = tt; spelled = refl; told = refl; form = form }
follow limit h (p ∷ packets) c form are few within =
    let size : ℕ = 16 + length p.captured in
    let long = packet_long h.big p in
    let total = length-append (packet_text h.big p) (flat_map (packet_text h.big) packets) in
    let piece : Piece = Packet (captured_in h p) in
    let next : Course = record { standing = c.standing; offset = c.offset + size; account = counted piece c.account } in
    let reads : parsed c.standing (packet_text h.big p) ≡ Reads size c.standing piece =
    ap (λ (f : Form). further f c.standing (packet_text h.big p)) form ∙ packet_reads h p c.standing are.0 in
    let one = items_counted (captured_in h p) c.account in
    let rest = follow limit h packets next form are.1 (omega (arith, few, one)) (omega (arith, within, long, total)) in
    let is : step limit true c (packet_text h.big p) ≡ Takes (length (packet_text h.big p)) next piece =
    takes limit c (parsed c.standing (packet_text h.big p)) size c.standing piece reads (omega (arith, within, long, total)) (omega (arith, few))
    ∙ ap (λ (n : ℕ). Takes n next piece) (sym long) in
    let part : Part = record { bytes = packet_text h.big p; next = next; piece = piece } in
    record {
      parts = part ∷ rest.parts;
      are = (record { is = is }, rest.are);
      spelled = ap (λ (t : List ℕ). packet_text h.big p ++ t) rest.spelled;
      told = ap (λ (ps : List Piece). piece ∷ ps) rest.told;
      form = rest.form;
    }

pub files_read_back : FilesReadBack
files_read_back limit h packets is are few within =
    let long = header_long h is in
    let total = length-append (header_text h) (flat_map (packet_text h.big) packets) in
    let begun : Standing = record no_standing { form = form_of h } in
    let next : Course = record { standing = begun; offset = 0 + 24; account = counted Nothing no_course.account } in
    let first : step limit false no_course (header_text h) ≡ Takes (length (header_text h)) next Nothing =
    ap (λ (q : Parsed). step_of limit no_course q) (header_reads h is) ∙ ap (λ (n : ℕ). Takes n next Nothing) (sym long) in
    let rest = follow limit h packets next refl are (omega (arith, few)) (omega (arith, within, long, total)) in
    let part : Part = record { bytes = header_text h; next = next; piece = Nothing } in
    let spelled : file_text h packets ≡ text (part ∷ rest.parts) ++ [] = ap (λ (t : List ℕ). header_text h ++ t) (sym rest.spelled) ∙ sym (append-nil (text (part ∷ rest.parts))) in
    let ended : step limit true (course_after next rest.parts) [] ≡ Ended = ap (λ (f : Form). step_of limit (course_after next rest.parts) (further f (course_after next rest.parts).standing [])) rest.form in (
      part ∷ rest.parts,
      record { whole = record { spelled = spelled; legal = (record { is = first }, rest.are) }; ended = ended },
      ap (λ (ps : List Piece). Nothing ∷ ps) rest.told,
    )
