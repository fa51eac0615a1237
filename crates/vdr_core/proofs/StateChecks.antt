-- Worked examples of what a history leaves, and a commit that no recorder makes.
use Rattle.std.proofs.Common.{◌≡◌, pos, List, [], ◌∷◌, length, true, false, None, refl, ap, arith, inl, inr}
use Rattle.vdr_terms.specs.declared.counts.Counts.{Counts}
use Rattle.vdr_terms.specs.Records.{Record, none_missed}
use Rattle.vdr_core.specs.Histories.{Event}
use Rattle.vdr_core.specs.Histories.Act.{Commit, Look}
use Rattle.vdr_core.specs.Runs.{base_of}
use Rattle.vdr_core.specs.Recorder.{tick_of}
use Rattle.vdr_core.specs.RunStates.{next_start, state_left, has_failed, recorder_in, GoesOnWith, IsRecorderHistory}
use Rattle.vdr_core.proofs.HistoryRows.{small, start, stop, data_at, gap_at}
use Rattle.vdr_core.proofs.Checks.{at, fresh}
use Rattle.vdr_core.proofs.RunChecks.{popped_at}

abbrev pub one_refused : Counts
one_refused = record { full = 0; rate = 1; bad = 0; large = 0 }

-- Two datagrams a second: the third item is refused by the rate, so its commit has no record, and the fourth comes with its Gap.
abbrev begins : List Event
begins = at 1 (Commit (start ∷ []) []) ∷ at 2 (Commit (data_at 1 0 0 small ∷ data_at 2 1 0 small ∷ []) (popped_at 0 0 ∷ popped_at 1 0 ∷ [])) ∷ at 3 Look ∷ at 4 (Commit [] (popped_at 2 999 ∷ [])) ∷ []

abbrev whole : List Event
whole = at 1 (Commit (start ∷ []) []) ∷ at 2 (Commit (data_at 1 0 0 small ∷ data_at 2 1 0 small ∷ []) (popped_at 0 0 ∷ popped_at 1 0 ∷ [])) ∷ at 3 Look ∷ at 4 (Commit [] (popped_at 2 999 ∷ []))
    ∷ at 5 (Commit (gap_at 3 2 1000 one_refused ∷ data_at 4 3 1000 small ∷ []) (popped_at 3 1000 ∷ [])) ∷ at 6 (Commit (stop 5 1000 ∷ []) []) ∷ []

open_after_three : (state_left fresh begins).is_open ≡ true
open_after_three = refl

pending_after_three : (recorder_in (state_left fresh begins)).pending 3 ≡ record { first = 2; missed = one_refused }
pending_after_three = refl

tick_after_three : tick_of (state_left fresh begins).start (recorder_in (state_left fresh begins)) ≡ 999
tick_after_three = refl

utc_after_three : (recorder_in (state_left fresh begins)).utc ≡ pos 999
utc_after_three = refl

closed_at_last : (state_left fresh whole).is_open ≡ false
closed_at_last = refl

-- The next run begins at the next place and the next whole second.
next_place : (next_start (state_left fresh whole)).place ≡ 6
next_place = refl

next_base : base_of (next_start (state_left fresh whole)) ≡ 2000
next_base = refl

-- What a commit that met a fault took is not in the state.
abbrev faulted : List Event
faulted = at 1 (Commit (start ∷ []) []) ∷ record { act = Commit (data_at 1 0 0 small ∷ []) (popped_at 0 0 ∷ []); moment = None } ∷ []

none_popped : (state_left fresh faulted).popped ≡ []
none_popped = refl

failed : has_failed faulted ≡ true
failed = refl

not_failed : has_failed whole ≡ false
not_failed = refl

is_made : IsRecorderHistory fresh whole
is_made = (
  inr (inl (record { is_closed = refl; made = refl; none = refl })),
  (
    inl (record { is_open = refl; made = refl }),
    (
      tt,
      (
        inl (record { is_open = refl; made = refl }),
        (
          inl (record { is_open = refl; made = refl }),
          (inr (inr (record { is_open = refl; rest = λ g. none_missed; made = refl; none = refl })), tt),
        ),
      ),
    ),
  ),
)

-- A commit may not leave out the Gap before its Datagram.
gap_left_out : GoesOnWith (state_left fresh begins) (data_at 3 3 1000 small ∷ []) (popped_at 3 1000 ∷ []) → ⊥
gap_left_out h = omega (arith, ap (λ (rs : List Record). length rs) h.made)
