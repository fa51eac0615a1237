-- Worked examples of what a run adds up to, of its shape and of its full counts, and runs that they refuse.
use Rattle.std.proofs.Common.{◌≡◌, ℕ, pos, List, [], ◌∷◌, ◌++◌, Option, None, Some, refl, sym, ap, ◌∙◌, arith, append_assoc}
use Rattle.std.proofs.lemmas.List.Elements.{All-head, All-from_recursion}
use Rattle.vdr_terms.specs.declared.counts.Counts.{Counts}
use Rattle.vdr_terms.specs.Records.{Content, Record, none_missed, last, last_after}
use Rattle.vdr_terms.specs.Records.Content.{Start, Datagram, Stop}
use Rattle.vdr_core.specs.Taken.{Captured}
use Rattle.vdr_core.specs.Sums.{Sums}
use Rattle.vdr_core.specs.FullCounts.{FullCounts}
use Rattle.vdr_core.specs.Shapes.{SaysMissed, NoEmptyGap, AreClosingGaps, IsClosedRun}
use Rattle.vdr_core.proofs.HistoryRows.{small, bench, start, stop, data_at, gap_at, four}
use Rattle.vdr_core.proofs.Checks.{item}

-- Four items were popped: three are recorded, and one was refused by the rate.
four_add_up : Sums 3 (item 0 ∷ item 0 ∷ item 999 ∷ item 1000 ∷ []) 4 0 four
four_add_up = record { all = refl; passed = refl; full = refl; bad = refl; large = refl }

-- Another group has no part in it.
none_of_another : Sums 4 [] 0 0 four
none_of_another = record { all = refl; passed = refl; full = refl; bad = refl; large = refl }

-- The refused item may not be left out of what was popped, nor be called full.
all_popped : Sums 3 (item 0 ∷ item 0 ∷ item 999 ∷ item 1000 ∷ []) 3 1 four → ⊥
all_popped h = omega (arith, h.passed)

-- A lost item is missed in the sum.
one_lost : Sums 3 (item 0 ∷ item 0 ∷ []) 1 0 (data_at 1 0 0 small ∷ []) → ⊥
one_lost h = omega (arith, h.all)

four_say : NoEmptyGap four
four_say = All-from_recursion (λ (r : Record). SaysMissed r.content) four (tt, (tt, (tt, (omega arith, (tt, (tt, tt))))))

-- A Gap without a count is none.
empty_gap : NoEmptyGap (gap_at 1 0 0 none_missed ∷ []) → ⊥
empty_gap h = omega (arith, All-head (λ (r : Record). SaysMissed r.content) (gap_at 1 0 0 none_missed) [] h)

-- The items of that example as they were popped.
abbrev pub popped_at : ℕ → ℕ → Captured
popped_at number received = record { group = 3; number = number; received = received; utc = pos received; missed = none_missed; bytes = small }

abbrev four_popped : List Captured
four_popped = popped_at 0 0 ∷ popped_at 1 0 ∷ popped_at 2 999 ∷ popped_at 3 1000 ∷ []

four_in_shape : IsClosedRun bench four_popped four
four_in_shape = record {
  made = start ∷ data_at 1 0 0 small ∷ data_at 2 1 0 small ∷ gap_at 3 2 1000 (record { full = 0; rate = 1; bad = 0; large = 0 }) ∷ data_at 4 3 1000 small ∷ [];
  gaps = [];
  stop = stop 5 1000;
  order = refl;
  is_open = record {
    first = start;
    body = data_at 1 0 0 small ∷ data_at 2 1 0 small ∷ gap_at 3 2 1000 (record { full = 0; rate = 1; bad = 0; large = 0 }) ∷ data_at 4 3 1000 small ∷ [];
    order = refl;
    is_start = record { content = refl; group = refl; number = refl; tick = refl; utc = refl };
    are_inside = (tt, (tt, (((refl, refl), (refl, refl)), (tt, tt))));
    are_taken = (
      [],
      popped_at 1 0 ∷ popped_at 2 999 ∷ popped_at 3 1000 ∷ [],
      popped_at 0 0,
      refl,
      record { content = refl; group = refl; number = refl; utc = refl },
      refl,
      (
        [],
        popped_at 2 999 ∷ popped_at 3 1000 ∷ [],
        popped_at 1 0,
        refl,
        record { content = refl; group = refl; number = refl; utc = refl },
        refl,
        (popped_at 2 999 ∷ [], [], popped_at 3 1000, refl, record { content = refl; group = refl; number = refl; utc = refl }, refl, tt),
      ),
    );
  };
  are_closing = tt;
  is_stop = record { content = refl; group = refl; number = refl; tick = refl; utc = refl };
}

last_end : (x : Record) (xs : List Record) (end : Record) → last_after x (xs ++ end ∷ []) ≡ end
last_end x [] end = refl
last_end x (y ∷ ys) end = last_end y ys end

last_snoc : (xs : List Record) (end : Record) → last (xs ++ end ∷ []) ≡ Some end
last_snoc [] end = refl
last_snoc (x ∷ xs) end = ap Some (last_end x xs end)

abbrev content_at : Option Record → Content
content_at None = Start
content_at (Some r) = r.content

-- A run that does not end with Stop was not closed.
no_stop : (items : List Captured) → IsClosedRun bench items (start ∷ data_at 1 0 0 small ∷ []) → ⊥
no_stop items h = clash (ap content_at (ap last (h.order ∙ sym (append_assoc h.made h.gaps (h.stop ∷ []))) ∙ last_snoc (h.made ++ h.gaps) h.stop) ∙ h.is_stop.content)
  where
    clash : Datagram small ≡ Stop → ⊥
    clash e = cc

abbrev one_missed : Counts
one_missed = record { full = 1; rate = 0; bad = 0; large = 0 }

-- Closing gaps stand in order of group.
out_of_order : AreClosingGaps 0 (pos 0) 0 (record (gap_at 1 0 0 one_missed) { group = 4 } ∷ gap_at 2 0 0 one_missed ∷ []) → ⊥
out_of_order h = omega (arith, h.5.1)

-- A queue of one: the second item found it full.
abbrev one_full : List Record
one_full = start ∷ data_at 1 0 0 small ∷ gap_at 2 1 0 one_missed ∷ stop 3 0 ∷ []

one_counted : FullCounts 1 1 3 (popped_at 0 0 ∷ []) one_missed (item 0 ∷ item 0 ∷ []) one_full
one_counted = record {
  full = refl;
  feeds = record {
    inside = item 0 ∷ [];
    since = item 0 ∷ [];
    order = refl;
    is_queued = ([], [], item 0, refl, record { bad = refl; large = refl; rate = refl; all = refl }, record { recordable = refl; group = refl; number = refl; received = refl; utc = refl; bytes = refl }, refl);
    is_counted = record { bad = refl; large = refl; rate = refl; all = refl };
  };
  passed = refl;
  recorded = ([], [], popped_at 0 0, refl, record { content = refl; group = refl; number = refl; utc = refl }, tt);
  held = λ _. omega arith;
}

-- A queue of two was not full where one item was recorded.
too_few : FullCounts 2 1 3 (popped_at 0 0 ∷ []) one_missed (item 0 ∷ item 0 ∷ []) one_full → ⊥
too_few h = omega (arith, h.held (omega arith))

-- A full step that the run does not count is none of its own.
uncounted : FullCounts 1 2 3 (popped_at 0 0 ∷ []) one_missed (item 0 ∷ item 0 ∷ []) one_full → ⊥
uncounted h = omega (arith, h.full)
