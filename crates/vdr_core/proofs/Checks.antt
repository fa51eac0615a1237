-- Worked examples of the relations, and records that they refuse.
use Rattle.std.proofs.Common.{◌≡◌, ℕ, suc, pos, [], ◌∷◌, true, false, true≢false, refl, sym, arith, inl, inr, Option, Some, None, option_map, position, is_none}
use Rattle.vdr_terms.specs.Records.{Item}
use Rattle.vdr_terms.specs.Records.Content.{Datagram, Stop}
use Rattle.vdr_terms.specs.Rates.Limit.{AtMost}
use Rattle.vdr_terms.specs.Rates.{Limit, is_licensed}
use Rattle.vdr_core.specs.Accounts.{AreMissed, AllAccounted, Accounts, GapsStand}
use Rattle.vdr_terms.specs.Channels.{no_channels, group_bits, bits_of}
use Rattle.vdr_core.specs.Histories.{Act, Event, Incident, Settings, Opening, incidents, live, next_place, last_stamp, MayCome, IsHistory}
use Rattle.vdr_core.specs.Histories.Act.{Commit, Save, Release, Look}
use Rattle.vdr_core.proofs.HistoryRows.{small, data_at, gap_at, four, minute}

abbrev pub item : ℕ → Item
item received = record { received = received; utc = pos received; bytes = small }

abbrev pub limit : Limit
limit = AtMost (record { datagrams = 2; bytes = 200 })

no_gap_here : {P : Type 0} → false ≡ true → P
no_gap_here e = absurd (true≢false (sym e))

-- The four items of the rate's example are accounted for.
rate_row : Accounts limit 0 four 3 (item 0 ∷ item 0 ∷ item 999 ∷ item 1000 ∷ [])
rate_row = record {
  gaps = (no_gap_here, (no_gap_here, (no_gap_here, ((λ _. inl (refl, refl)), (no_gap_here, (no_gap_here, tt))))));
  accounted = (
    item 0 ∷ [],
    item 0 ∷ item 999 ∷ item 1000 ∷ [],
    refl,
    refl,
    (item 0, refl, record { recordable = refl; payload = refl; utc = refl; admitted = refl }),
    (
      item 0 ∷ [],
      item 999 ∷ item 1000 ∷ [],
      refl,
      refl,
      (item 0, refl, record { recordable = refl; payload = refl; utc = refl; admitted = refl }),
      (
        item 999 ∷ [],
        item 1000 ∷ [],
        refl,
        refl,
        record { bad = refl; large = refl; rate = omega arith; all = refl },
        (
          item 1000 ∷ [],
          [],
          refl,
          refl,
          (item 1000, refl, record { recordable = refl; payload = refl; utc = refl; admitted = refl }),
          refl,
        ),
      ),
    ),
  );
}

-- A refusal in the second that is full is licensed; one that came later, or one of a second with room, is not.
licensed : is_licensed limit 0 (data_at 1 0 0 small ∷ data_at 2 1 0 small ∷ []) 3 (item 999) ≡ true
licensed = refl

too_late : is_licensed limit 0 (data_at 1 0 0 small ∷ data_at 2 1 0 small ∷ []) 3 (item 1000) ≡ false
too_late = refl

has_room : is_licensed limit 0 (data_at 1 0 0 small ∷ []) 3 (item 999) ≡ false
has_room = refl

-- No records account for items of which the first is lost.
first_lost : AllAccounted limit 0 [] (data_at 1 1 0 small ∷ []) 0 (item 0 ∷ item 0 ∷ []) → ⊥
first_lost h = omega (arith, h.3)

-- A Gap may not count an item as refused by a rate that had room.
false_refusal : AreMissed limit 0 (data_at 1 0 0 small ∷ []) 3 (record { full = 0; rate = 1; bad = 0; large = 0 }) (item 999 ∷ []) → ⊥
false_refusal h = omega (arith, h.rate)

-- A Gap that stands before another group's Datagram is refused.
stray_gap : GapsStand (gap_at 1 0 0 (record { full = 1; rate = 0; bad = 0; large = 0 }) ∷ record (data_at 2 0 0 small) { group = 4 } ∷ []) → ⊥
stray_gap h = elim (h.0 refl) [ inl x ↦ omega (arith, x.1) | inr x ↦ clash x.1 ]
  where
    clash : Datagram small ≡ Stop → ⊥
    clash e = cc

-- What each channel's bits are.
bits : group_bits (3 ∷ 4 ∷ 3 ∷ []) 3 ≡ 5
bits = refl

all_bits : bits_of (record { groups = 3 ∷ 4 ∷ 3 ∷ []; selects = λ g bytes. 0 }) 255 Stop ≡ 7
all_bits = refl

-- Incidents: two slots, saved, released and saved again.
abbrev pub settings : Settings
settings = record { limits = λ g. limit; channels = no_channels; seconds = λ m. 60; incident_seconds = 30; incident_slots = 2; text = [] }

abbrev pub fresh : Opening
fresh = record { settings = settings; records = λ m. []; table = None ∷ None ∷ []; next_place = 0; last = None }

abbrev pub at : ℕ → Act → Event
at moment act = record { act = act; moment = Some moment }

abbrev pub run : Event
run = at 7 (Commit minute [])

abbrev pub saved : Option Incident
saved = Some (record { label = 65 ∷ []; a = 4; b = 5; stamp = record { tick = 60000; utc = pos 60000 } })

one_save : incidents fresh (run ∷ at 9 (Save 1 (65 ∷ []) 4 5) ∷ []) ≡ saved ∷ None ∷ []
one_save = refl

released : incidents fresh (run ∷ at 9 (Save 1 (65 ∷ []) 4 5) ∷ at 11 (Release 1) ∷ []) ≡ None ∷ None ∷ []
released = refl

-- The second save has the id 2, and a third would have none.
second_id : option_map suc (position is_none (incidents fresh (run ∷ at 9 (Save 1 (65 ∷ []) 4 5) ∷ []))) ≡ Some 2
second_id = refl

no_third : position is_none (incidents fresh (run ∷ at 9 (Save 1 (65 ∷ []) 4 5) ∷ at 10 (Save 2 (65 ∷ []) 4 5) ∷ [])) ≡ None
no_third = refl

-- No save has the id 0.
no_zero : live (incidents fresh (run ∷ at 9 (Save 1 (65 ∷ []) 4 5) ∷ [])) 0 ≡ None
no_zero = refl

first_live : live (incidents fresh (run ∷ at 9 (Save 1 (65 ∷ []) 4 5) ∷ [])) 1 ≡ saved
first_live = refl

-- The save of the last 30 seconds may come after the run: places 4 and 5.
may_save : MayCome fresh (run ∷ []) (Save 1 (65 ∷ []) 4 5)
may_save = (refl, record { first = refl; newest = refl })

next : next_place fresh (run ∷ []) ≡ 6
next = refl

stamp : last_stamp fresh (run ∷ []) ≡ Some (record { tick = 60000; utc = pos 60000 })
stamp = refl

-- A history whose last event met a fault, and a look after it.
abbrev pub pending : Event
pending = record { act = Commit [] []; moment = None }

abbrev pub failed_look : Event
failed_look = record { act = Look; moment = None }

a_history : IsHistory fresh (at 7 Look ∷ pending ∷ failed_look ∷ [])
a_history = record { follow = (tt, (tt, (tt, tt))); pending = (commits, (refl, refl, tt)) }
  where
    commits : Commit [] [] ≡ Look → ⊥
    commits e = cc

-- A look without a moment, with nothing pending, is none.
no_history : IsHistory fresh (at 7 Look ∷ failed_look ∷ []) → ⊥
no_history h = h.pending.0 refl
