-- Which places a medium owes and lacks (this project's profile).
--
-- A segment goes into a closed slot while there is one, and else in the place of the victim. So nothing was ever written over while two
-- slots are not open, and all places from 0 on stand there. A full ring keeps its window and the places of live incidents, and may have
-- written over what stood between two segments that it kept.
use Rattle.std.specs.Prelude.{◌-◌, ◌&&◌, ℕ, Bool, not, nat_le, nat_lt, min, max, if◌then◌else◌, List, [], ◌∷◌, ◌++◌, fold, Option, Some, None, is_none, is_some}
use Rattle.std.specs.List.{list_any}
use Rattle.vdr_terms.specs.Windows.{in_window}
use Rattle.vdr_rescue.specs.declared.fronts.Head.{Head}
use Rattle.vdr_rescue.specs.declared.lacking.Before.{Before}
use Rattle.vdr_rescue.specs.declared.lacking.Owed.{Owed}
use Rattle.vdr_rescue.specs.declared.lacking.Places.{Places}
use Rattle.vdr_rescue.specs.declared.told.Run.{Run}
use Rattle.vdr_rescue.specs.declared.told.Told.{Told}

-- Places owed are those of the window, whose seconds and last second `Owed` has beside the number of slots that are not open, and those of the
-- live incidents, the pins.

-- One of these places is from `from` on and before `to`.
abbrev pub touches : (from to : ℕ) → Places → Bool
touches from to p = nat_lt p.a to && nat_le from p.b

-- The ring itself may have written over what stood between the segment before and this one: both are whole, their sequence numbers leave
-- room, at most one slot is not open, the record before is outside the window, and no live incident has a place there.
abbrev pub may_go : Owed → (pins : List Places) → Before → Head → (fault : Option ℕ) → Run → Bool
may_go o pins q h fault run =
    q.whole && (is_none fault && (nat_lt 1 (h.seq - q.seq) && (nat_lt o.closed 2
    && (not (in_window q.run.second o.last_second o.seconds) && not (list_any (touches q.run.to run.from) pins)))))

-- The places from `from` on and before `to`, if there are some; and those up to b, which counts.
abbrev pub until : (from to : ℕ) → Option Places
until from to = if nat_lt from to then Some (record { a = from; b = to - 1 }) else None

abbrev pub up_to : (from b : ℕ) → Option Places
up_to from b = if nat_le from b then Some (record { a = from; b = b }) else None

-- The least place of live incidents, and the greatest.
abbrev pub least : ℕ → List Places → ℕ
least place pins = fold (λ n p. min n p.a) place pins

abbrev pub greater : Option ℕ → Places → Option ℕ
greater None p = Some p.b
greater (Some g) p = Some (max g p.b)

abbrev pub greatest : List Places → Option ℕ
greatest pins = fold greater None pins

-- Before all records that are given the medium owes each place where two slots are not open, and else those from the least one of a live
-- incident on.
abbrev pub first_owed : Owed → (pins : List Places) → ℕ → ℕ
first_owed o pins place = if nat_lt 1 o.closed then 0 else least place pins

-- What lacks before the run of a segment. `beside` where the segment that was read before it gave records too.
abbrev pub lacks_before : Owed → (pins : List Places) → Option Before → (beside : Bool) → Head → (fault : Option ℕ) → Run → Option Places
lacks_before o pins None beside h fault run = until (first_owed o pins run.from) run.from
lacks_before o pins (Some q) beside h fault run = if beside && may_go o pins q h fault run then None else until q.run.to run.from

abbrev pub lacks_at : Owed → (pins : List Places) → Option Before → (beside : Bool) → Head → (fault : Option ℕ) → Option Run → Option Places
lacks_at o pins before beside h fault None = None
lacks_at o pins before beside h fault (Some run) = lacks_before o pins before beside h fault run

abbrev pub before_next : Option Before → Head → (fault : Option ℕ) → Option Run → Option Before
before_next before h fault None = before
before_next before h fault (Some run) = Some (record { seq = h.seq; whole = is_none fault; run = run })

-- What lacks behind the last run: up to the greatest place of a live incident.
abbrev pub lacks_behind : Owed → (pins : List Places) → Option Before → Option ℕ → Option Places
lacks_behind o pins before None = None
lacks_behind o pins None (Some g) = up_to (first_owed o pins g) g
lacks_behind o pins (Some q) (Some g) = up_to q.run.to g

abbrev pub as_list : Option Places → List Places
as_list None = []
as_list (Some p) = p ∷ []

-- All places that lack, by rising place.
abbrev pub missing : Owed → (pins : List Places) → Option Before → (beside : Bool) → List Head → List Told → List Places
missing o pins before beside (h ∷ hs) (t ∷ ts) = as_list (lacks_at o pins before beside h t.fault t.run) ++ missing o pins (before_next before h t.fault t.run) (is_some t.run) hs ts
missing o pins before beside [] ts = as_list (lacks_behind o pins before (greatest pins))
missing o pins before beside (h ∷ hs) [] = as_list (lacks_behind o pins before (greatest pins))

-- The second of the last record that is given, 0 where there is none.
abbrev pub second_behind : ℕ → Option Run → ℕ
second_behind second None = second
second_behind second (Some run) = run.second

abbrev pub last_second : List Told → ℕ
last_second told = fold (λ second t. second_behind second t.run) 0 told
