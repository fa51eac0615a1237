-- What is kept of the messages that have begun: one of each key.
use Rattle.std.specs.Prelude.{◌≡◌, ◌≤◌, ◌<◌, ℕ, suc, ◌*◌, ◌&&◌, ◌==◌, nat_lt, List, [], ◌++◌, length, All, filter, Option, Some, None, IsSome, option_and_then, unwrap_or, if◌then◌else◌}
use Rattle.std.specs.Ordering.{nat_cmp, ordering_then}
use Rattle.std.specs.Option.{option_cmp}
use Rattle.std.specs.Cmp.Lexicographic.{slice_cmp}
use Rattle.std.specs.Map.{keys_of, lookup}
use Rattle.std.specs.BTreeMap.{is_at}
use Rattle.std.specs.List.Sorted.{IsStrictlySortedBy}
use Rattle.std.specs.declared.cmp.Ordering.{Ordering}
use Rattle.vdr_ais.specs.Bits.{Message}
use Rattle.vdr_ais.specs.Lines.{Key, Line, Part}
use Rattle.vdr_ais.specs.Messages.{led_by, parts_of}

-- The parts 1 to `parts` of `total` and their numbers. No part is 0.
pub record Pending : Type 0 where
  pub total : ℕ
  pub parts : ℕ
  pub sixes : List ℕ

abbrev pub idle : Pending
idle = record { total = 0; parts = 0; sixes = [] }

-- What stands behind these parts, the latest first: each look back finds it, or nothing.
abbrev pub front_in : Pending → (total n : ℕ) → Option (List ℕ)
front_in pending total n = if (n == pending.parts) && (total == pending.total) then Some pending.sixes else None

abbrev pub Stands : List Part → Pending → Type 0
Stands back pending = (total n : ℕ) → led_by total (suc n) back ≡ front_in pending total (suc n)

-- What stands before a part of the message that it belongs to.
abbrev pub front_of : Pending → Part → Option (List ℕ)
front_of pending p = if p.number == 1 then Some [] else if nat_lt 0 pending.parts && ((p.number == suc pending.parts) && (p.total == pending.total)) then Some pending.sixes else None

-- What has begun behind it. Behind bits that fill up no other part comes.
abbrev pub pending_behind : Option (List ℕ) → Part → Pending
pending_behind None p = idle
pending_behind (Some front) p = if p.fill == 0 then record { total = p.total; parts = p.number; sixes = front ++ p.sixes } else idle

abbrev pub next_pending : Pending → Part → Pending
next_pending pending p = pending_behind (front_of pending p) p

-- These numbers, where the part is the last of its message.
abbrev pub whole_of : (sixes : List ℕ) → Part → Option Message
whole_of sixes p = if p.number == p.total then Some (record { sixes = sixes; fill = p.fill }) else None

-- The message that ends with it.
abbrev pub ended_by : Pending → Part → Option Message
ended_by pending p = option_and_then (λ front. whole_of (front ++ p.sixes) p) (front_of pending p)

-- By group, source, formatter, sequence and channel.
unfoldable pub key_cmp : Key → Key → Ordering
key_cmp a b =
    ordering_then (nat_cmp a.group b.group)
    (ordering_then (slice_cmp nat_cmp a.source b.source)
    (ordering_then (slice_cmp nat_cmp a.formatter b.formatter)
    (ordering_then (option_cmp nat_cmp a.sequence b.sequence)
    (slice_cmp nat_cmp a.channel b.channel))))

abbrev pub Entries : Type 0
Entries = List (Key × Pending)

abbrev pub pending_in : Entries → Key → Pending
pending_in entries key = unwrap_or (lookup (is_at (key_cmp key)) entries) idle

-- The entries of which something has begun.
abbrev pub begun : Entries → Entries
begun entries = filter (λ e. nat_lt 0 e.1.parts) entries

-- These lines were read, the latest first: what has begun of each key stands behind its parts.
abbrev pub HasRead : List Line → Entries → Type 0
HasRead back entries = (key : Key) → Stands (parts_of key back) (pending_in entries key)

-- There is room for a message of this key.
abbrev pub HasPlace : Entries → Key → Type 0
HasPlace entries key = IsSome (lookup (is_at (key_cmp key)) entries)

-- The same messages have begun, and there is room for no fewer.
pub record HasNoFewer (before now : Entries) : Type 0 where
  pub same : begun now ≡ begun before
  pub places : (key : Key) → HasPlace before key → HasPlace now key

-- Nine parts at most, each of 76 characters at most.
pub record IsKept (pending : Pending) : Type 0 where
  pub few : pending.parts ≤ 9
  pub short : length pending.sixes ≤ 76 * pending.parts
  pub below : All (λ n. n < 64) pending.sixes

-- No key stands twice, and they are in order.
abbrev pub AreEntries : Entries → Type 0
AreEntries entries = IsStrictlySortedBy key_cmp (keys_of entries)
