-- The header of a link as it is spelled, and what stands behind as much of a frame as was captured.
use Rattle.std.proofs.Common.{◌≡◌, ◌≤◌, ◌<◌, ◌+◌, ◌-◌, ◌*◌, ◌/◌, ◌==◌, ℕ, zero, suc, Bool, true, false, inl, inr, subst, not, ◌&&◌, ◌||◌, nat_lt, cond, List, [], ◌∷◌, ◌++◌, length, take, drop, ap, ◌∙◌, sym, refl, arith, append_assoc}
use Rattle.std.specs.Prelude.{slice_index, Result, Ok, Err}
use Rattle.std.proofs.lemmas.Bool.{cond-false, eqb-true, le-ltb, or_cases}
use Rattle.std.proofs.lemmas.List.{length-append, drop-drop, drop_at, get_or-append_right, get_or_append_left}
use Rattle.vdr_frame.specs.Numbers.{u16_at}
use Rattle.vdr_frame.specs.Links.{behind_family, behind_tags, behind_type, behind_version, is_loopback, is_raw, of_type, says}
use Rattle.vdr_frame.specs.Packets.{found_behind, found_in}
use Rattle.vdr_frame.specs.Outcomes.{Outcome, Left}
use Rattle.vdr_frame.specs.Spelled.{AreTags, Cooked, Cooked2, Ethernet, FindsDatagrams, IsHeader, LinkHeader, Loopback, Raw, Tag, Unread, captured_of, header_of, high, link_of, low, packet, tagged}
use Rattle.vdr_frame.specs.declared.found.Cause.{Cause}
use Rattle.vdr_frame.specs.declared.found.Cause.TheVariants.{Short, Protocol, Ipv6}
use Rattle.vdr_frame.proofs.TakenLemmas.{absorb, behind, byte_at, fewer, moved_test, number_at}
use Rattle.vdr_frame.proofs.DatagramLemmas.{moved, told_is}
use Rattle.vdr_frame.proofs.PacketLemmas.{long, packet_found}

-- of a header of so many bytes, and what stands behind it, so many bytes
abbrev stripped : (header captured : ℕ) → (ip : List ℕ) → Result (List ℕ) Cause
stripped header captured ip = cond (nat_lt captured header) (Err Short) (Ok (take (captured - header) ip))

-- the same behind a front
stripped_moved : (front header all captured : ℕ) (ip : List ℕ) → 0 < header → all ≡ front + header → stripped header (captured - front) ip ≡ stripped all captured ip
stripped_moved front header all captured ip some is =
    let test = moved_test captured front header some ∙ ap (λ (k : ℕ). nat_lt captured k) (sym is) in
    let left : captured - front - header ≡ captured - all = omega arith in
    λ i. cond (test i) (Err Short) (Ok (take (left i) ip))

-- ---- tags

two_long : (tags : List Tag) → 2 ≤ length (tagged tags)
two_long [] = omega arith
two_long (t ∷ tags) = let more = two_long tags in omega arith

tags_found : (most : ℕ) (tags : List Tag) (c : ℕ) (ip : List ℕ) → AreTags most tags → 2 ≤ c
    → behind_tags most (u16_at (tagged tags ++ ip) 0) (take (c - 2) (drop 2 (tagged tags ++ ip))) ≡ stripped (length (tagged tags)) c ip
tags_found zero [] c ip are held = sym (cond-false (nat_lt c 2) (Err Short) (Ok (take (c - 2) ip)) (le-ltb c 2 held))
tags_found (suc most) [] c ip are held = sym (cond-false (nat_lt c 2) (Err Short) (Ok (take (c - 2) ip)) (le-ltb c 2 held))
tags_found zero (t ∷ tags) c ip are held = absurd are
tags_found (suc most) (t ∷ tags) c ip are held =
    let rest : List ℕ = t.control1 ∷ t.control2 ∷ (tagged tags ++ ip) in
    let long : 4 ≤ length rest = omega (arith, two_long tags, length-append (tagged tags) ip) in
    let past : Result (List ℕ) Cause = behind_tags most (u16_at (take (c - 2) rest) 2) (drop 4 (take (c - 2) rest)) in
    ap (λ (k : ℕ). behind_tags (suc most) k (take (c - 2) rest)) (told_is t.kind)
    ∙ ap (λ (b : Bool). cond (not b) (of_type t.kind (take (c - 2) rest)) (cond (nat_lt (length (take (c - 2) rest)) 4) (Err Short) past)) are.0
    ∙ ap (λ (b : Bool). cond b (Err Short) past) (fewer (c - 2) 4 rest long ∙ moved_test c 2 4 (omega arith))
    ∙ absorb c 6 (length (tagged (t ∷ tags))) (Err Short) past (Ok (take (c - length (tagged (t ∷ tags))) ip)) (omega (arith, two_long tags)) (λ (six : 6 ≤ c).
    let next = number_at (c - 2) 2 rest (omega arith) in
    let left : c - 2 - 4 ≡ c - 4 - 2 = omega arith in
    let after = behind (c - 2) 4 rest (omega arith) ∙ ap (λ (n : ℕ). take n (drop 4 rest)) left in
    (λ i. behind_tags most (next i) (after i))
    ∙ tags_found most tags (c - 4) ip are.1 (omega arith)
    ∙ stripped_moved 4 (length (tagged tags)) (length (tagged (t ∷ tags))) c ip (omega (arith, two_long tags)) (omega arith))

-- behind a front of so many bytes
number_behind : (front rest : List ℕ) (size : ℕ) → length front ≡ size → u16_at (front ++ rest) size ≡ u16_at rest 0
number_behind front rest size is =
    let none : size - size ≡ 0 = omega arith in
    let one : size + 1 - size ≡ 1 = omega arith in
    let first = get_or-append_right front rest size size 0 is (omega arith) ∙ ap (λ (k : ℕ). slice_index rest k) none in
    let second = get_or-append_right front rest size (size + 1) 0 is (omega arith) ∙ ap (λ (k : ℕ). slice_index rest k) one in
    λ i. 256 * first i + second i

-- a header with its type and its tags at the end
type_found : (front : List ℕ) (size : ℕ) (tags : List Tag) (c : ℕ) (ip : List ℕ) → length front ≡ size → AreTags 2 tags
    → behind_type (take c ((front ++ tagged tags) ++ ip)) size (size + 2) ≡ stripped (length (front ++ tagged tags)) c ip
type_found front size tags c ip is are =
    let rest : List ℕ = tagged tags ++ ip in
    let frame : List ℕ = front ++ rest in
    let long : size + 2 ≤ length frame = omega (arith, two_long tags, length-append front rest, length-append (tagged tags) ip) in
    let header : length (front ++ tagged tags) ≡ size + length (tagged tags) = omega (arith, length-append front (tagged tags)) in
    let past : Result (List ℕ) Cause = behind_tags 2 (u16_at (take c frame) size) (drop (size + 2) (take c frame)) in
    ap (λ (bytes : List ℕ). behind_type (take c bytes) size (size + 2)) (append_assoc front (tagged tags) ip)
    ∙ ap (λ (b : Bool). cond b (Err Short) past) (fewer c (size + 2) frame long)
    ∙ absorb c (size + 2) (length (front ++ tagged tags)) (Err Short) past (Ok (take (c - length (front ++ tagged tags)) ip)) (omega (arith, two_long tags)) (λ (held : size + 2 ≤ c).
    let kind = number_at c size frame (omega arith) ∙ number_behind front rest size is in
    let left : c - (size + 2) ≡ c - size - 2 = omega arith in
    let cells = sym (drop-drop 2 size frame) ∙ ap (λ (xs : List ℕ). drop 2 xs) (drop_at front rest size is) in
    let after = behind c (size + 2) frame held ∙ (λ i. take (left i) (cells i)) in
    (λ i. behind_tags 2 (kind i) (after i))
    ∙ tags_found 2 tags (c - size) ip are (omega arith)
    ∙ stripped_moved size (length (tagged tags)) (length (front ++ tagged tags)) c ip (omega (arith, two_long tags)) header)

-- a header with its type in front, and its tags behind it
cooked_found : (a b : ℕ) (more host ip : List ℕ) (c : ℕ) → length host ≡ 18
    → ((d : ℕ) → 2 ≤ d → behind_tags 2 (256 * a + b) (take (d - 2) (more ++ ip)) ≡ stripped (length (a ∷ b ∷ more)) d ip)
    → behind_type (take c ((a ∷ b ∷ (host ++ more)) ++ ip)) 0 20 ≡ stripped (length (a ∷ b ∷ (host ++ more))) c ip
cooked_found a b more host ip c is found =
    let frame : List ℕ = a ∷ b ∷ ((host ++ more) ++ ip) in
    let long : 20 ≤ length frame = omega (arith, length-append (host ++ more) ip, length-append host more) in
    let header : length (a ∷ b ∷ (host ++ more)) ≡ 18 + length (a ∷ b ∷ more) = omega (arith, length-append host more) in
    let past : Result (List ℕ) Cause = behind_tags 2 (u16_at (take c frame) 0) (drop 20 (take c frame)) in
    ap (λ (t : Bool). cond t (Err Short) past) (fewer c 20 frame long)
    ∙ absorb c 20 (length (a ∷ b ∷ (host ++ more))) (Err Short) past (Ok (take (c - length (a ∷ b ∷ (host ++ more))) ip)) (omega arith) (λ (held : 20 ≤ c).
    let kind = number_at c 0 frame (omega arith) in
    let left : c - 20 ≡ c - 18 - 2 = omega arith in
    let cells = ap (λ (xs : List ℕ). drop 18 xs) (append_assoc host more ip) ∙ drop_at host (more ++ ip) 18 is in
    let after = behind c 20 frame held ∙ (λ i. take (left i) (cells i)) in
    (λ i. behind_tags 2 (kind i) (after i))
    ∙ found (c - 18) (omega arith)
    ∙ stripped_moved 18 (length (a ∷ b ∷ more)) (length (a ∷ b ∷ (host ++ more))) c ip (omega arith) header)

cooked2_found : (host : List ℕ) (tags : List Tag) (c : ℕ) (ip : List ℕ) → length host ≡ 18 → AreTags 2 tags
    → behind_type (take c (header_of (Cooked2 host tags) ++ ip)) 0 20 ≡ stripped (length (header_of (Cooked2 host tags))) c ip
cooked2_found host [] c ip is are = cooked_found 0x08 0x00 [] host ip c is (λ d held. tags_found 2 [] d ip are held)
cooked2_found host (t ∷ tags) c ip is are =
    cooked_found (high t.kind) (low t.kind) (t.control1 ∷ t.control2 ∷ tagged tags) host ip c is (λ d held. tags_found 2 (t ∷ tags) d ip are held)

-- ---- loopback

says_left : (family ip : List ℕ) (n : ℕ) → length family ≡ 4 → says (family ++ ip) n ≡ says family n
says_left family ip n is =
    let at : (k : ℕ) → k < 4 → slice_index (family ++ ip) k ≡ slice_index family k = λ k few. get_or_append_left family ip 0 k (omega arith) in
    let a = at 0 (omega arith) in let b = at 1 (omega arith) in let c = at 2 (omega arith) in let d = at 3 (omega arith) in
    λ i. (a i == n && b i == 0 && c i == 0 && d i == 0) || (a i == 0 && b i == 0 && c i == 0 && d i == n)

says_taken : (c n : ℕ) (bytes : List ℕ) → 4 ≤ c → says (take c bytes) n ≡ says bytes n
says_taken m n bytes held =
    let a = byte_at m 0 bytes (omega arith) in let b = byte_at m 1 bytes (omega arith) in
    let c = byte_at m 2 bytes (omega arith) in let d = byte_at m 3 bytes (omega arith) in
    λ i. (a i == n && b i == 0 && c i == 0 && d i == 0) || (a i == 0 && b i == 0 && c i == 0 && d i == n)

family_found : (family ip : List ℕ) (c : ℕ) → length family ≡ 4 → says family 2 ≡ true → behind_family (take c (family ++ ip)) ≡ stripped (length family) c ip
family_found family ip c is said =
    let frame : List ℕ = family ++ ip in
    let past : Bool → Result (List ℕ) Cause = λ b. cond b (Ok (drop 4 (take c frame))) (cond (says (take c frame) 10 || says (take c frame) 24 || says (take c frame) 28 || says (take c frame) 30) (Err Ipv6) (Err Protocol)) in
    ap (λ (b : Bool). cond b (Err Short) (past (says (take c frame) 2))) (fewer c 4 frame (omega (arith, length-append family ip)))
    ∙ absorb c 4 (length family) (Err Short) (past (says (take c frame) 2)) (Ok (take (c - length family) ip)) (omega arith) (λ (held : 4 ≤ c).
    let after : drop 4 (take c frame) ≡ take (c - length family) ip =
    behind c 4 frame held ∙ ap (λ (k : ℕ). take (c - k) (drop 4 frame)) (sym is) ∙ ap (λ (xs : List ℕ). take (c - length family) xs) (drop_at family ip 4 is) in
    ap past (says_taken c 2 frame held ∙ says_left family ip 2 is ∙ said)
    ∙ ap (λ (xs : List ℕ). Ok xs) after
    ∙ sym (cond-false (nat_lt c (length family)) (Err Short) (Ok (take (c - length family) ip)) (le-ltb c (length family) (omega arith))))

-- ---- the links that several numbers stand for

of_loopback : (P : ℕ → Type 0) (link : ℕ) → is_loopback link ≡ true → P 0 → P 108 → P link
of_loopback P link is p q =
    elim (or_cases (link == 0) (link == 108) is) [
      | inl e ↦ subst P (sym (eqb-true link 0 e)) p
      | inr e ↦ subst P (sym (eqb-true link 108 e)) q
    ]

of_raw : (P : ℕ → Type 0) (link : ℕ) → is_raw link ≡ true → P 12 → P 14 → P 101 → P 228 → P 229 → P link
of_raw P link is p q r s t =
    elim (or_cases (link == 12 || link == 14 || link == 101 || link == 228) (link == 229) is) [
      | inr e ↦ subst P (sym (eqb-true link 229 e)) t
      | inl e ↦ elim (or_cases (link == 12 || link == 14 || link == 101) (link == 228) e) [
        | inr f ↦ subst P (sym (eqb-true link 228 f)) s
        | inl f ↦ elim (or_cases (link == 12 || link == 14) (link == 101) f) [
          | inr g ↦ subst P (sym (eqb-true link 101 g)) r
          | inl g ↦ elim (or_cases (link == 12) (link == 14) g) [
            | inr h ↦ subst P (sym (eqb-true link 14 h)) q
            | inl h ↦ subst P (sym (eqb-true link 12 h)) p
          ]
        ]
      ]
    ]

-- ---- the whole

found_past : (b : Bool) (x : Result (List ℕ) Cause) → found_behind (cond b (Err Short) x) ≡ cond b (Left Short) (found_behind x)
found_past true x = refl
found_past false x = refl

module _ (u : Unread) (words group : ℕ) (payload padding : List ℕ) (captured : ℕ) (long_options : length u.options ≡ 4 * words) (few_words : words ≤ 10) (few : group < 16) where
  abbrev whole : List ℕ
  whole = packet u words (60_001 + group) payload padding

  -- what is found behind a header of so many bytes
  abbrev shown : (header : ℕ) → Outcome
  shown header = captured_of (header + 20 + length u.options) group payload captured

  stripped_found : (header : ℕ) → found_behind (stripped header captured whole) ≡ shown header
  stripped_found header =
      found_past (nat_lt captured header) (Ok (take (captured - header) whole))
      ∙ absorb captured header (header + 20 + length u.options + 4) (Left Short) _ _ (omega arith) (λ (held : header ≤ captured).
      packet_found u words group payload padding (captured - header) long_options few_words few
      ∙ moved captured header (20 + length u.options) (header + 20 + length u.options) group payload (omega arith))

  abbrev versioned : (first : ℕ) → Result (List ℕ) Cause
  versioned first = cond (first / 16 == 4) (Ok (take captured whole)) (cond (first / 16 == 6) (Err Ipv6) (Err Protocol))

  raw_found : found_behind (behind_version (take captured whole)) ≡ shown 0
  raw_found =
      ap (λ (b : Bool). found_behind (cond b (Err Short) (versioned (slice_index (take captured whole) 0)))) (fewer captured 1 whole (omega (arith, long u words group payload padding captured)))
      ∙ found_past (nat_lt captured 1) (versioned (slice_index (take captured whole) 0))
      ∙ absorb captured 1 (20 + length u.options + 4) (Left Short) _ _ (omega arith) (λ (held : 1 ≤ captured).
      let first : slice_index (take captured whole) 0 ≡ 69 + words = byte_at captured 0 whole held in
      let four : (69 + words) / 16 ≡ 4 = omega arith in
      ap (λ (b : ℕ). found_behind (versioned b)) first
      ∙ ap (λ (v : ℕ). found_behind (cond (v == 4) (Ok (take captured whole)) (cond (v == 6) (Err Ipv6) (Err Protocol)))) four
      ∙ packet_found u words group payload padding captured long_options few_words few)

  pub link_found : (h : LinkHeader) → IsHeader h → found_in (link_of h) (take captured (header_of h ++ whole)) ≡ shown (length (header_of h))
  link_found (Ethernet addresses tags) is =
      ap found_behind (type_found addresses 12 tags captured whole is.0 is.1) ∙ stripped_found (length (addresses ++ tagged tags))
  link_found (Cooked host tags) is =
      ap found_behind (type_found host 14 tags captured whole is.0 is.1) ∙ stripped_found (length (host ++ tagged tags))
  link_found (Cooked2 host tags) is =
      ap found_behind (cooked2_found host tags captured whole is.0 is.1) ∙ stripped_found (length (header_of (Cooked2 host tags)))
  link_found (Loopback link family) is =
      let found = ap found_behind (family_found family whole captured is.1 is.2) ∙ stripped_found (length family) in
      of_loopback (λ l. found_in l (take captured (family ++ whole)) ≡ shown (length family)) link is.0 found found
  link_found (Raw link) is =
      of_raw (λ l. found_in l (take captured whole) ≡ shown 0) link is raw_found raw_found raw_found raw_found raw_found

pub finds_datagrams : FindsDatagrams
finds_datagrams h u words group payload padding captured is long_options few_words few =
    link_found u words group payload padding captured long_options few_words few h is
