-- Worked examples of the machine, computed.
use Rattle.std.proofs.Common.{◌≡◌, ℕ, zero, suc, ◌*◌, pos, List, [], ◌∷◌, ◌++◌, length, map, None, Some, refl}
use Rattle.vdr_terms.specs.Records.{Record, Item}
use Rattle.vdr_terms.specs.Records.Content.{Start, Datagram, Gap, Stop}
use Rattle.vdr_terms.specs.Rates.Limit.{AtMost}
use Rattle.vdr_terms.specs.Channels.{no_channels}
use Rattle.vdr_core.proofs.HistoryRows.{small}
use Rattle.vdr_core.specs.Machine.{Plan, Step, Ended, after, opened}
use Rattle.vdr_core.specs.Machine.Step.{Take, Push, Full, Pop, Commit, CloseRun, Restart}

abbrev plan : Plan
plan = record { limits = λ g. AtMost (record { datagrams = 2; bytes = 200 }); channels = no_channels; capacity = 16 }

abbrev item : ℕ → Item
item k = record { received = 500 * k; utc = pos (500 * k); bytes = small }

abbrev captures : ℕ → ℕ → List Step
captures zero k = []
captures (suc n) k = Take 3 (item k) ∷ Push 3 ∷ Full 3 ∷ captures n (suc k)

abbrev pops : ℕ → List Step
pops zero = []
pops (suc n) = Pop 3 ∷ pops n

-- 20 items, a queue of 16 that nobody pops, then the drain and the close.
abbrev steps : List Step
steps = Restart ∷ captures 20 0 ++ pops 16 ++ Commit ∷ CloseRun ∷ []

abbrev records_of_runs : List Ended → List Record
records_of_runs [] = []
records_of_runs (r ∷ rs) = r.records ++ records_of_runs rs

abbrev datagrams : ℕ → ℕ → List Record
datagrams zero k = []
datagrams (suc n) k = record { content = Datagram small; group = 3; bits = 0; place = suc k; number = k; tick = 500 * k; utc = pos (500 * k) } ∷ datagrams n (suc k)

four_full : records_of_runs (after plan steps (opened 0 None)).ended
    ≡ record { content = Start; group = 255; bits = 0; place = 0; number = 0; tick = 0; utc = pos 0 } ∷ datagrams 16 0
    ++ record { content = Gap (record { full = 4; rate = 0; bad = 0; large = 0 }); group = 3; bits = 0; place = 17; number = 16; tick = 7500; utc = pos 7500 }
    ∷ record { content = Stop; group = 255; bits = 0; place = 18; number = 0; tick = 7500; utc = pos 7500 } ∷ []
four_full = refl

-- The run has what was popped, and its feeder's four full steps.
popped_of_runs : map (λ run. length run.popped) (after plan steps (opened 0 None)).ended ≡ 16 ∷ []
popped_of_runs = refl

full_steps_of_runs : map (λ run. run.full_steps 3) (after plan steps (opened 0 None)).ended ≡ 4 ∷ []
full_steps_of_runs = refl

-- Where something is recorded already, the run begins at the next place and the next whole second, with the utc of the last record.
begins_later : records_of_runs (after plan (Restart ∷ CloseRun ∷ []) (opened 100 (Some (record { tick = 5500; utc = pos 7 })))).ended
    ≡ record { content = Start; group = 255; bits = 0; place = 100; number = 0; tick = 6000; utc = pos 7 }
    ∷ record { content = Stop; group = 255; bits = 0; place = 101; number = 0; tick = 6000; utc = pos 7 } ∷ []
begins_later = refl
