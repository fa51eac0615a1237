-- Records, and the items that ports give.
use Rattle.std.specs.Prelude.{ℕ, ◌+◌, ◌/◌, ℤ, Bool, true, false, List, [], ◌∷◌, filter, ◌&&◌, ◌==◌, Option, Some, None}
use Rattle.vdr_terms.specs.declared.counts.Counts.{Counts}

abbrev pub none_missed : Counts
none_missed = record { full = 0; rate = 0; bad = 0; large = 0 }

abbrev pub total : Counts → ℕ
total c = c.full + c.rate + c.bad + c.large

-- What a record says. A Gap has counts where a Datagram has its bytes.
pub data Content : Type 0 where
  Start : Content
  Datagram : (payload : List ℕ) → Content
  Gap : (missed : Counts) → Content
  Stop : Content

-- One entry of the recording.
pub record Record : Type 0 where
  pub content : Content
  pub group : ℕ  -- the transmission group, 255 for Start and Stop
  pub bits : ℕ  -- bit k: channel k selects it
  pub place : ℕ  -- 0, 1, 2 .. over the life of the media
  pub number : ℕ  -- of the item in its port's run; of a Gap, the first that is missed; 0 for Start and Stop
  pub tick : ℕ  -- recording time, in milliseconds
  pub utc : ℤ  -- milliseconds since 1970

-- What a port gives at one take.
pub record Item : Type 0 where
  pub received : ℕ  -- milliseconds since capture began
  pub utc : ℤ  -- milliseconds since 1970
  pub bytes : List ℕ

-- One item of a feed: its group, and what that group's port gives.
pub record FeedItem : Type 0 where
  pub group : ℕ
  pub item : Item

-- The second of a tick: retention and rates count whole seconds of recording time (this project's profile).
abbrev pub second : ℕ → ℕ
second tick = tick / 1000

-- The bytes of a Datagram; of another record none.
abbrev pub payload_of : Content → List ℕ
payload_of (Datagram payload) = payload
payload_of Start = []
payload_of (Gap missed) = []
payload_of Stop = []

abbrev pub is_datagram : Content → Bool
is_datagram (Datagram payload) = true
is_datagram Start = false
is_datagram (Gap missed) = false
is_datagram Stop = false

abbrev pub is_gap : Content → Bool
is_gap (Gap missed) = true
is_gap Start = false
is_gap (Datagram payload) = false
is_gap Stop = false

-- A Datagram or a Gap accounts for items of its group. Start and Stop account for none.
abbrev pub has_items : Content → Bool
has_items (Datagram payload) = true
has_items (Gap missed) = true
has_items Start = false
has_items Stop = false

-- The Datagrams and Gaps of a group, in order.
abbrev pub records_of : ℕ → List Record → List Record
records_of g records = filter (λ r. has_items r.content && r.group == g) records

-- The Datagrams of a group, in order.
abbrev pub datagrams_of : ℕ → List Record → List Record
datagrams_of g records = filter (λ r. is_datagram r.content && r.group == g) records

-- The last of x and then these.
abbrev pub last_after : {A : Type 0} → A → List A → A
last_after x [] = x
last_after x (y ∷ ys) = last_after y ys

-- The last of a list, None where it is empty.
abbrev pub last : {A : Type 0} → List A → Option A
last [] = None
last (x ∷ xs) = Some (last_after x xs)
