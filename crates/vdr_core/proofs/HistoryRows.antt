-- Worked examples, computed.
use Rattle.std.specs.Prelude.{ℕ, ◌≡◌, pos, refl, List, [], ◌∷◌, ◌++◌, replicate, Some, None}
use Rattle.vdr_terms.specs.declared.counts.Counts.{Counts}
use Rattle.vdr_terms.specs.Records.{Record, FeedItem}
use Rattle.vdr_terms.specs.Records.Content.{Start, Datagram, Gap, Stop}
use Rattle.vdr_terms.specs.Datagrams.{verdict}
use Rattle.vdr_terms.specs.declared.datagram.Verdict.TheVariants.{Yes, Bad, Large}
use Rattle.vdr_terms.specs.Rates.Limit.{Unlimited, AtMost}
use Rattle.vdr_terms.specs.Channels.{no_channels}
use Rattle.vdr_terms.specs.Windows.{window}
use Rattle.vdr_core.specs.Runs.{RunStart, base_after}
use Rattle.vdr_core.specs.Feed.{feed_records}

-- `AbCdE` and NUL
abbrev pub small : List ℕ
small = 65 ∷ 98 ∷ 67 ∷ 100 ∷ 69 ∷ 0 ∷ []

abbrev pub given : ℕ → List ℕ → FeedItem
given received bytes = record { group = 3; item = record { received = received; utc = pos received; bytes = bytes } }

abbrev pub new : RunStart
new = record { limits = λ g. Unlimited; channels = no_channels; place = 0; last = None }

abbrev pub bench : RunStart
bench = record { limits = λ g. AtMost (record { datagrams = 2; bytes = 200 }); channels = no_channels; place = 0; last = None }

abbrev pub start : Record
start = record { content = Start; group = 255; bits = 0; place = 0; number = 0; tick = 0; utc = pos 0 }

abbrev pub stop : ℕ → ℕ → Record
stop place tick = record { content = Stop; group = 255; bits = 0; place = place; number = 0; tick = tick; utc = pos tick }

abbrev pub data_at : ℕ → ℕ → ℕ → List ℕ → Record
data_at place number tick bytes = record { content = Datagram bytes; group = 3; bits = 0; place = place; number = number; tick = tick; utc = pos tick }

abbrev pub gap_at : ℕ → ℕ → ℕ → Counts → Record
gap_at place number tick missed = record { content = Gap missed; group = 3; bits = 0; place = place; number = number; tick = tick; utc = pos tick }

-- 1,472 bytes, then 1,473 bytes: the first is recorded, the second is large.
abbrev long : ℕ → List ℕ
long n = small ++ replicate n 120

largest : verdict (long 1466) ≡ Yes
largest = refl

too_large : verdict (long 1467) ≡ Large
too_large = refl

too_short : verdict (65 ∷ 98 ∷ 67 ∷ 100 ∷ 69 ∷ []) ≡ Bad
too_short = refl

one_large : feed_records new (given 0 (long 1466) ∷ given 0 (long 1467) ∷ [])
    ≡ start ∷ data_at 1 0 0 (long 1466) ∷ gap_at 2 1 0 (record { full = 0; rate = 0; bad = 0; large = 1 }) ∷ stop 3 0 ∷ []
one_large = refl

-- A datagram and a short one: the short one is bad.
one_bad : feed_records new (given 0 small ∷ given 0 (65 ∷ 98 ∷ 67 ∷ 100 ∷ 69 ∷ []) ∷ [])
    ≡ start ∷ data_at 1 0 0 small ∷ gap_at 2 1 0 (record { full = 0; rate = 0; bad = 1; large = 0 }) ∷ stop 3 0 ∷ []
one_bad = refl

-- Two datagrams a second: the third in the first second is refused by the rate.
abbrev pub four : List Record
four = start ∷ data_at 1 0 0 small ∷ data_at 2 1 0 small ∷ gap_at 3 2 1000 (record { full = 0; rate = 1; bad = 0; large = 0 }) ∷ data_at 4 3 1000 small ∷ stop 5 1000 ∷ []

by_rate : feed_records bench (given 0 small ∷ given 0 small ∷ given 999 small ∷ given 1000 small ∷ []) ≡ four
by_rate = refl

-- A minute's window: a record 60 seconds older than the last is out, one 59 seconds older is in.
abbrev pub minute : List Record
minute = start ∷ data_at 1 0 0 small ∷ data_at 2 1 999 small ∷ data_at 3 2 1000 small ∷ data_at 4 3 60000 small ∷ stop 5 60000 ∷ []

recorded : feed_records bench (given 0 small ∷ given 999 small ∷ given 1000 small ∷ given 60000 small ∷ []) ≡ minute
recorded = refl

a_minute : window 60 minute ≡ data_at 3 2 1000 small ∷ data_at 4 3 60000 small ∷ stop 5 60000 ∷ []
a_minute = refl

ten_minutes : window 600 minute ≡ minute
ten_minutes = refl

-- The next run begins at the next whole second.
next_base : base_after (Some (record { tick = 60000; utc = pos 60000 })) ≡ 61000
next_base = refl

-- One whole item: Start, the datagram, Stop.
one : feed_records bench (given 0 small ∷ []) ≡ start ∷ data_at 1 0 0 small ∷ stop 2 0 ∷ []
one = refl
