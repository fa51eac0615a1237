-- A datagram to the port of a group as it stands on a link: the header of the link (IEEE 802.3 and 802.1Q, those of pcap's link types), an IPv4
-- packet (RFC 791) and UDP (RFC 768), byte by byte.
use Rattle.std.specs.Prelude.{◌≡◌, ◌≤◌, ◌<◌, ℕ, zero, suc, ◌+◌, ◌*◌, ◌/◌, ◌%◌, Bool, true, ⊤, nat_lt, min, if◌then◌else◌, List, [], ◌∷◌, ◌++◌, length, take, drop}
use Rattle.vdr_frame.specs.Links.{is_loopback, is_raw, is_tag, says}
use Rattle.vdr_frame.specs.Packets.{found_in}
use Rattle.vdr_frame.specs.Outcomes.{Outcome, Left, Cut, Whole}
use Rattle.vdr_frame.specs.declared.found.Cause.TheVariants.{Short}

abbrev pub high : ℕ → ℕ
high n = n / 256

abbrev pub low : ℕ → ℕ
low n = n % 256

-- ---- links

-- a tag: its type, and the two bytes of its control information
pub record Tag : Type 0 where
  pub kind : ℕ
  pub control1 : ℕ
  pub control2 : ℕ

-- The type of IPv4, behind these tags.
abbrev pub tagged : List Tag → List ℕ
tagged [] = 0x08 ∷ 0x00 ∷ []
tagged (t ∷ tags) = high t.kind ∷ low t.kind ∷ t.control1 ∷ t.control2 ∷ tagged tags

-- The header of a link, with what it says that nobody looks at: addresses, or what a cooked capture says of the host.
pub data LinkHeader : Type 0 where
  Ethernet : (addresses : List ℕ) (tags : List Tag) → LinkHeader
  Cooked : (host : List ℕ) (tags : List Tag) → LinkHeader
  Cooked2 : (host : List ℕ) (tags : List Tag) → LinkHeader
  Loopback : (link : ℕ) (family : List ℕ) → LinkHeader
  Raw : (link : ℕ) → LinkHeader

abbrev pub link_of : LinkHeader → ℕ
link_of (Ethernet addresses tags) = 1
link_of (Cooked host tags) = 113
link_of (Cooked2 host tags) = 276
link_of (Loopback link family) = link
link_of (Raw link) = link

-- Linux cooked 2 has the type in front, and tags behind it.
abbrev pub header_of : LinkHeader → List ℕ
header_of (Ethernet addresses tags) = addresses ++ tagged tags
header_of (Cooked host tags) = host ++ tagged tags
header_of (Cooked2 host tags) = take 2 (tagged tags) ++ (host ++ drop 2 (tagged tags))
header_of (Loopback link family) = family
header_of (Raw link) = []

-- At most so many tags.
abbrev pub AreTags : ℕ → List Tag → Type 0
AreTags most [] = ⊤
AreTags zero (t ∷ tags) = ⊥
AreTags (suc most) (t ∷ tags) = (is_tag t.kind ≡ true) × AreTags most tags

abbrev pub IsHeader : LinkHeader → Type 0
IsHeader (Ethernet addresses tags) = (length addresses ≡ 12) × AreTags 2 tags
IsHeader (Cooked host tags) = (length host ≡ 14) × AreTags 2 tags
IsHeader (Cooked2 host tags) = (length host ≡ 18) × AreTags 2 tags
IsHeader (Loopback link family) = (is_loopback link ≡ true) × (length family ≡ 4) × (says family 2 ≡ true)
IsHeader (Raw link) = is_raw link ≡ true

-- ---- packets

-- What the headers say that nobody looks at: type of service, identification, whether the packet may be cut into fragments, time to live,
-- checksum, addresses, options, and the sender's port and UDP's checksum.
pub record Unread : Type 0 where
  pub service : ℕ
  pub name1 : ℕ
  pub name2 : ℕ
  pub whole : Bool
  pub lives : ℕ
  pub sum1 : ℕ
  pub sum2 : ℕ
  pub from1 : ℕ
  pub from2 : ℕ
  pub from3 : ℕ
  pub from4 : ℕ
  pub to1 : ℕ
  pub to2 : ℕ
  pub to3 : ℕ
  pub to4 : ℕ
  pub options : List ℕ
  pub port1 : ℕ
  pub port2 : ℕ
  pub check1 : ℕ
  pub check2 : ℕ

-- the datagram to a port, and what pads its frame
abbrev pub datagram : Unread → (port : ℕ) → (payload padding : List ℕ) → List ℕ
datagram u port payload padding =
    u.port1 ∷ u.port2 ∷ high port ∷ low port ∷ high (8 + length payload) ∷ low (8 + length payload) ∷ u.check1 ∷ u.check2 ∷ (payload ++ padding)

abbrev pub total : Unread → (payload : List ℕ) → ℕ
total u payload = 28 + length u.options + length payload

-- The IPv4 packet of that datagram, of so many words of options, which is no fragment.
abbrev pub packet : Unread → (words port : ℕ) → (payload padding : List ℕ) → List ℕ
packet u words port payload padding =
    (0x45 + words) ∷ u.service ∷ high (total u payload) ∷ low (total u payload) ∷ u.name1 ∷ u.name2 ∷ (if u.whole then 0x40 else 0) ∷ 0
    ∷ u.lives ∷ 17 ∷ u.sum1 ∷ u.sum2 ∷ u.from1 ∷ u.from2 ∷ u.from3 ∷ u.from4 ∷ u.to1 ∷ u.to2 ∷ u.to3 ∷ u.to4
    ∷ (u.options ++ datagram u port payload padding)

-- ---- what is found of it, where so many bytes of the frame were captured

-- Behind headers of so many bytes: nothing where the ports weren't captured; the group where they were, and not all that counts of the payload;
-- else the payload, of which the first 1,473 bytes count.
abbrev pub captured_of : (headers group : ℕ) → (payload : List ℕ) → (captured : ℕ) → Outcome
captured_of headers group payload captured =
    if nat_lt captured (headers + 4) then Left Short
    else if nat_lt captured (headers + 8 + min (length payload) 1473) then Cut group
    else Whole group (take 1473 payload)

-- A datagram to any of the sixteen ports, behind any of the links' headers, is what was captured of it, whatever pads its frame.
abbrev pub FindsDatagrams : Type 0
FindsDatagrams = (h : LinkHeader) (u : Unread) (words group : ℕ) (payload padding : List ℕ) (captured : ℕ)
    → IsHeader h → length u.options ≡ 4 * words → words ≤ 10 → group < 16
    → found_in (link_of h) (take captured (header_of h ++ packet u words (60_001 + group) payload padding))
    ≡ captured_of (length (header_of h) + 20 + length u.options) group payload captured
