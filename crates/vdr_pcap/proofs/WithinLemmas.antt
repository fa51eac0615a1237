-- A packet that lies whole at the front of some bytes, and what is taken of it.
use Rattle.std.proofs.Common.{◌≡◌, ◌≤◌, ◌<◌, ◌+◌, ◌-◌, ◌^◌, ℕ, Bool, true, false, ◌&&◌, ◌||◌, cond, suc, List, [], ◌++◌, length, take, drop, None, Some, refl, ap, ◌∙◌, sym, subst, arith}
use Rattle.std.proofs.Math.Seq.{take-add}
use Rattle.std.proofs.lemmas.Bool.{and_parts, le-leb, leb-false, leb-true, lt-leb}
use Rattle.std.proofs.lemmas.List.{append-nil, length-take, length-take-le, length-drop, take-append-drop, take-take, take_all}
use Rattle.std.specs.Prelude.{min, nat_le}
use Rattle.std.specs.Io.KnownBytes.{Consumes}
use Rattle.vdr_terms.specs.Records.{FeedItem}
use Rattle.vdr_pcap.specs.Account.{counted, datagram_of, item_from}
use Rattle.vdr_pcap.specs.Blocks.{further, packet_in, parsed_packet}
use Rattle.vdr_pcap.specs.Capture.{Course, Refused as Refuses, Takes, is_some, is_too_much, step, step_of}
use Rattle.vdr_pcap.specs.Numbers.{u32_in}
use Rattle.vdr_pcap.specs.Packets.{Packet, Parsed, Piece, Reads, Standing, longest_front}
use Rattle.vdr_pcap.specs.Stamps.{stamp_of_fraction}
use Rattle.vdr_pcap.specs.Steps.{Gives}
use Rattle.vdr_pcap.specs.Within.{IsFront, IsLeft, front_packet, is_whole}
use Rattle.vdr_pcap.specs.declared.account.Account.{Account}
use Rattle.vdr_pcap.specs.declared.form.Form.{Form}
use Rattle.vdr_pcap.specs.declared.form.Form.TheVariants.{Unbegun, Packets, Blocks}
use Rattle.vdr_pcap.specs.declared.fronts.Front.{Front}
use Rattle.vdr_pcap.proofs.Local.{local_further}
use Rattle.vdr_pcap.proofs.NumberLemmas.{u32_in-front}
use Rattle.vdr_pcap.proofs.StepLemmas.{gives_more, gives_none, passes}
use Rattle.vdr_pcap.proofs.UnitLemmas.{packet_at_head, packet_whole}

-- ---- the front

-- a number of a head stands in the bytes as in the head
in_head : (big : Bool) (at : ℕ) (bytes : List ℕ) → at + 4 ≤ 16 → 16 ≤ length bytes → u32_in big at bytes ≡ u32_in big at (take 16 bytes)
in_head big at bytes within long =
    let sixteen : length (take 16 bytes) ≡ 16 = length-take-le 16 bytes long in
    ap (λ (b : List ℕ). u32_in big at b) (sym (take-append-drop 16 bytes)) ∙ u32_in-front big at (take 16 bytes) (drop 16 bytes) (omega (arith, sixteen, within))

-- the front of a packet's bytes that is looked at
kept_of : (n : ℕ) (xs : List ℕ) → take (min n 2048) xs ≡ take longest_front (take n xs)
kept_of n xs = go (nat_le n 2048) refl
  where
    go : (b : Bool) → nat_le n 2048 ≡ b → take (min n 2048) xs ≡ take longest_front (take n xs)
    go true h =
        let low : n ≤ 2048 = leb-true n 2048 h in
        let same : min n 2048 ≡ n = omega (arith, low) in
        ap (λ (m : ℕ). take m xs) same ∙ sym (take_all 2048 (take n xs) (omega (arith, length-take n xs, low)))
    go false h =
        let high : 2048 < n = leb-false n 2048 h in
        let same : min n 2048 ≡ 2048 = omega (arith, high) in
        ap (λ (m : ℕ). take m xs) same ∙ sym (take-take 2048 n xs (omega (arith, high)))

-- that the tests of a packet that lies whole passed
pub whole_tests : (big : Bool) (bytes : List ℕ) → is_whole big bytes ≡ true → (16 ≤ length bytes) × (u32_in big 8 bytes ≤ 262_144) × (u32_in big 8 bytes ≤ length bytes - 16)
whole_tests big bytes h =
    let a = and_parts _ _ h in
    let b = and_parts _ _ a.1 in
    (leb-true 16 (length bytes) a.0, leb-true (u32_in big 8 bytes) 262_144 b.0, leb-true (u32_in big 8 bytes) (length bytes - 16) b.1)

pub front_is : (big nano : Bool) (link : ℕ) (s : Standing) (bytes : List ℕ) (f : Front) (captured : ℕ) → s.form ≡ Packets big nano link → is_whole big bytes ≡ true → captured ≡ u32_in big 8 bytes
    → f.size ≡ 16 + captured → f.link ≡ link → f.stamp ≡ stamp_of_fraction nano (u32_in big 0 bytes) (u32_in big 4 bytes) → f.bytes.now ≡ take (min captured 2048) (drop 16 bytes) → IsFront s bytes f
front_is big nano link s bytes f captured form whole is size same stamp front =
    let t = whole_tests big bytes whole in
    let long : 16 ≤ length bytes = t.0 in
    let low : u32_in big 8 bytes ≤ 262_144 = t.1 in
    let there : u32_in big 8 bytes ≤ length bytes - 16 = t.2 in
    let head : List ℕ = take 16 bytes in
    let rest : List ℕ = take captured (drop 16 bytes) in
    let at_8 = in_head big 8 bytes (omega arith) long in
    let sixteen : length head ≡ 16 = length-take-le 16 bytes long in
    let many : length rest ≡ captured = length-take-le captured (drop 16 bytes) (omega (arith, length-drop 16 bytes, is, there)) in
    let parts : take f.size bytes ≡ head ++ rest = ap (λ (n : ℕ). take n bytes) size ∙ take-add 16 captured bytes in
    record {
      within = omega (arith, size, is, long, there);
      is = ap (λ (g : Form). further g s (take f.size bytes)) form
          ∙ (ap (λ (b : List ℕ). parsed_packet big nano link s b) parts
          ∙ (packet_at_head big nano link s head rest sixteen
          ∙ (ap (λ (b : List ℕ). packet_in big nano link s head b) (sym (append-nil rest))
          ∙ (packet_whole big nano link s head rest [] rest longest_front f.size f.stamp
          (omega (arith, at_8, low)) (many ∙ is ∙ at_8) refl
          (stamp ∙ (λ i. stamp_of_fraction nano (in_head big 0 bytes (omega arith) long i) (in_head big 4 bytes (omega arith) long i)))
          (size ∙ ap (λ (n : ℕ). 16 + n) (is ∙ at_8))
          ∙ (λ i. Reads f.size s (Packet (record { link = sym same i; stamp = f.stamp; front = (sym (kept_of captured (drop 16 bytes)) ∙ sym front) i })))))));
    }

-- ---- what is taken of it

pub front_left : (limit : ℕ) (c : Course) (bytes : List ℕ) (f : Front) → IsFront c.standing bytes f → is_too_much limit c.offset c.account.items f.size (front_packet f) ≡ true
    → IsLeft c.standing.form limit c bytes
front_left limit c bytes f is more = go c.standing.form
  where
    refused : step limit true c bytes ≡ Refuses 7
    refused =
        ap (λ (b : List ℕ). step limit true c b) (sym (take-append-drop f.size bytes))
        ∙ (ap (λ (x : Parsed). step_of limit c x)
        (local_further c.standing.form c.standing (take f.size bytes) (drop f.size bytes) f.size c.standing (front_packet f) is.is)
        ∙ ap (λ (b : Bool). cond b (Refuses 7) (Takes f.size (record { standing = c.standing; offset = c.offset + f.size; account = counted (front_packet f) c.account }) (front_packet f))) more)

    go : (form : Form) → IsLeft form limit c bytes
    go Unbegun = tt
    go (Packets big nano link) = λ _. refused
    go (Blocks big) = tt

-- of what is no file of pcap nothing is said
pub no_packets : (form : Form) (limit : ℕ) (c : Course) (bytes : List ℕ) → ((big nano : Bool) (link : ℕ) → form ≡ Packets big nano link → ⊥) → IsLeft form limit c bytes
no_packets Unbegun limit c bytes other = tt
no_packets (Packets big nano link) limit c bytes other = absurd (other big nano link refl)
no_packets (Blocks big) limit c bytes other = tt

-- nor of a packet that is not there
pub no_whole : (big nano : Bool) (link : ℕ) (form : Form) (limit : ℕ) (c : Course) (bytes : List ℕ) → form ≡ Packets big nano link → is_whole big bytes ≡ false → IsLeft form limit c bytes
no_whole big nano link form limit c bytes is none =
    subst (λ (f : Form). IsLeft f limit c bytes) (sym is) (λ whole. (let clash : ⊥ = let e : false ≡ true = sym none ∙ whole in cc in absurd clash))

-- the sizes that are too much, and those that are not
pub too_long : (limit offset items size : ℕ) (p : Piece) → 2 ^ 64 ≤ offset + size → is_too_much limit offset items size p ≡ true
too_long limit offset items size p more = λ i. le-leb (suc (2 ^ 64 - 1)) (offset + size) (omega (arith, more)) i || (is_some (datagram_of p) && nat_le limit items)

pub no_item : (limit offset items size : ℕ) (p : Piece) → offset + size < 2 ^ 64 → datagram_of p ≡ None → is_too_much limit offset items size p ≡ false
no_item limit offset items size p fits none = λ i. lt-leb (suc (2 ^ 64 - 1)) (offset + size) (omega (arith, fits)) i || (is_some (none i) && nat_le limit items)

pub front_taken : (limit : ℕ) (c : Course) (offset' : ℕ) (a' : Account) (bytes : List ℕ) (f : Front) (items : List FeedItem)
    → IsFront c.standing bytes f → is_too_much limit c.offset c.account.items f.size (front_packet f) ≡ false
    → offset' ≡ c.offset + f.size → a' ≡ counted (front_packet f) c.account → item_from c.account (datagram_of (front_packet f)) ≡ items
    → (0 < f.size) × (f.size ≤ length bytes) × Gives (Some bytes) (Some (drop f.size bytes)) limit c (record { standing = c.standing; offset = offset'; account = a' }) items
front_taken limit c offset' a' bytes f items is fits at count items_are =
    let n : f.size ≤ length bytes = is.within in
    let read : Consumes (Some bytes) (Some (drop f.size bytes)) (take f.size bytes) = sym (take-append-drop f.size bytes) in
    let p = passes (Some bytes) (Some (drop f.size bytes)) limit c c.standing offset' a' f.size (front_packet f) (take f.size bytes) items
    (length-take-le f.size bytes n) read is.is fits at count items_are in
    let longer : c.offset < offset' = p.longer in (
      omega (arith, longer, at),
      n,
      gives_more (Some bytes) (Some bytes) (Some (drop f.size bytes)) limit c c (record { standing = c.standing; offset = offset'; account = a' }) items (gives_none (Some bytes) limit c) p,
    )
