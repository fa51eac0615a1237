-- The records that a segment gives, as a run (this project's profile).
use Rattle.std.specs.Prelude.{◌+◌, List, [], ◌∷◌, Option, Some, None}
use Rattle.vdr_terms.specs.Records.{Record, second}
use Rattle.vdr_rescue.specs.declared.told.Run.{Run}

-- The run of records with one record more, and with more of them: from the first one's place to behind the last one's, with the second of
-- the last one.
abbrev pub run_with : Option Run → Record → Run
run_with None r = record { from = r.place; to = r.place + 1; second = second r.tick }
run_with (Some run) r = record { from = run.from; to = r.place + 1; second = second r.tick }

abbrev pub run_behind : Option Run → List Record → Option Run
run_behind run [] = run
run_behind run (r ∷ rs) = run_behind (Some (run_with run r)) rs
