-- No segment goes over a hole, and each point is one of a segment.
use Rattle.std.proofs.Common.{◌≡◌, ◌≤◌, ◌-◌, ◌∙◌, ◌++◌, ◌∷◌, [], ◌&&◌, ℕ, Bool, true, false, cond, nat_eq, nat_le, List, Option, Some, None, refl, ap, sym, arith}
use Rattle.std.specs.Bool.{⊤}
use Rattle.std.specs.List.{flat_map}
use Rattle.std.proofs.lemmas.Bool.{and_parts, eqb-true, eqb-false, leb-true}
use Rattle.vdr_track.specs.Laws.{AreDrawn, EachPointIsDrawn, Follows, IsDrawn, IsJoined, NoHole, NoHoles, NoSegmentGoesOverAHole, point_of}
use Rattle.vdr_track.specs.Segments.{goes_on, joins, open_with, segments_behind, with_point, with_step}
use Rattle.vdr_track.specs.Steps.{steps_of}
use Rattle.vdr_track.specs.declared.point.Point.{Point}
use Rattle.vdr_track.specs.declared.point.Step.{Step}
use Rattle.vdr_track.specs.declared.point.Step.TheVariants.{Begun, Missed, Lost, Said, Silent}
use Rattle.vdr_track.proofs.Streaming.{none_open}

-- The steps come to this point with no hole behind the point before them.
record Reaches (p : Point) (steps : List Step) (q : Point) : Type 0 where
  between : List Step
  after : List Step
  are : steps ≡ between ++ (Said q ∷ after)
  whole : NoHoles p.group between
  joined : IsJoined p q

-- ---- with one more step in front

follows_more : (step : Step) (steps : List Step) (p q : Point) → Follows steps p q → Follows (step ∷ steps) p q
follows_more step steps p q f = record { before = step ∷ f.before; between = f.between; after = f.after; are = ap (λ (s : List Step). step ∷ s) f.are; whole = f.whole; joined = f.joined }

drawn_more : (step : Step) (steps : List Step) (points : List Point) → IsDrawn steps points → IsDrawn (step ∷ steps) points
drawn_more step steps [] d = tt
drawn_more step steps (p ∷ []) d = tt
drawn_more step steps (p ∷ q ∷ points) d = (follows_more step steps p q d.0, drawn_more step steps (q ∷ points) d.1)

all_more : (step : Step) (steps : List Step) (segments : List (List Point)) → AreDrawn steps segments → AreDrawn (step ∷ steps) segments
all_more step steps [] d = tt
all_more step steps (segment ∷ segments) d = (drawn_more step steps segment d.0, all_more step steps segments d.1)

reaches_more : (step : Step) (steps : List Step) (p q : Point) → NoHole p.group step → Reaches p steps q → Reaches p (step ∷ steps) q
reaches_more step steps p q free r = record { between = step ∷ r.between; after = r.after; are = ap (λ (s : List Step). step ∷ s) r.are; whole = (free, r.whole); joined = r.joined }

-- ---- the points of the open segment

-- They go on from its last point.
abbrev GoFrom : Point → List Step → List Point → Type 0
GoFrom p steps [] = ⊤
GoFrom p steps (q ∷ points) = Reaches p steps q × IsDrawn steps (q ∷ points)

abbrev GoOn : Option Point → List Step → List Point → Type 0
GoOn None steps points = ⊤
GoOn (Some p) steps points = GoFrom p steps points

from_more : (step : Step) (steps : List Step) (p : Point) (points : List Point) → NoHole p.group step → GoFrom p steps points → GoFrom p (step ∷ steps) points
from_more step steps p [] free g = tt
from_more step steps p (q ∷ points) free g = (reaches_more step steps p q free g.0, drawn_more step steps (q ∷ points) g.1)

nothing_goes_on : (last : Option Point) (steps : List Step) (points : List Point) → points ≡ [] → GoOn last steps points
nothing_goes_on None steps points none = tt
nothing_goes_on (Some p) steps [] none = tt
nothing_goes_on (Some p) steps (q ∷ points) none = let no : ⊥ = cc in absurd no

-- A point and those that go on from it.
headed : (p : Point) (steps : List Step) (points : List Point) → GoFrom p steps points → IsDrawn (Said p ∷ steps) (p ∷ points)
headed p steps [] g = tt
headed p steps (q ∷ points) g = (
  record { before = []; between = g.0.between; after = g.0.after; are = ap (λ (s : List Step). Said p ∷ s) g.0.are; whole = g.0.whole; joined = g.0.joined },
  drawn_more (Said p) steps (q ∷ points) g.1,
)

is_joined : (p q : Point) → joins p q ≡ true → IsJoined p q
is_joined p q is =
    let one = and_parts (nat_eq p.group q.group) (nat_le p.utc q.utc && nat_le (q.utc - p.utc) 10_000) is in
    let two = and_parts (nat_le p.utc q.utc) (nat_le (q.utc - p.utc) 10_000) one.1 in
    let later : p.utc ≤ q.utc = leb-true p.utc q.utc two.0 in
    let soon : q.utc - p.utc ≤ 10_000 = leb-true (q.utc - p.utc) 10_000 two.1 in
    record { group = eqb-true p.group q.group one.0; later = later; soon = omega (arith, later, soon) }

-- What holds of the segments of these steps.
record Holds (last : Option Point) (steps : List Step) (later : List Point × List (List Point)) : Type 0 where
  further : GoOn last steps later.0
  closed : AreDrawn steps later.1

said : (joins : Bool) (last : Option Point) (p : Point) (steps : List Step) (later : List Point × List (List Point)) → goes_on last p ≡ joins → Holds (Some p) steps later
    → Holds last (Said p ∷ steps) (with_point joins p later)
said true None p steps later is h = let no : ⊥ = cc in absurd no
said true (Some before) p steps later is h = record {
  further = (record { between = []; after = steps; are = refl; whole = tt; joined = is_joined before p is }, headed p steps later.0 h.further);
  closed = all_more (Said p) steps later.1 h.closed;
}
said false last p steps later is h = record {
  further = nothing_goes_on last (Said p ∷ steps) [] refl;
  closed = (headed p steps later.0 h.further, all_more (Said p) steps later.1 h.closed);
}

missed : (ends : Bool) (p : Point) (group : ℕ) (steps : List Step) → nat_eq p.group group ≡ ends → (later : List Point × List (List Point)) → (cond ends None (Some p) ≡ None → later.0 ≡ [])
    → Holds (cond ends None (Some p)) steps later → Holds (Some p) (Missed group ∷ steps) later
missed true p group steps is later none h = record { further = nothing_goes_on (Some p) (Missed group ∷ steps) later.0 (none refl); closed = all_more (Missed group) steps later.1 h.closed }
missed false p group steps is later none h = record { further = from_more (Missed group) steps p later.0 (eqb-false p.group group is) h.further; closed = all_more (Missed group) steps later.1 h.closed }

silent : (last : Option Point) (steps : List Step) (later : List Point × List (List Point)) → Holds last steps later → Holds last (Silent ∷ steps) later
silent None steps later h = record { further = tt; closed = all_more Silent steps later.1 h.closed }
silent (Some p) steps later h = record { further = from_more Silent steps p later.0 tt h.further; closed = all_more Silent steps later.1 h.closed }

one_step : (last : Option Point) (step : Step) (steps : List Step) (later : List Point × List (List Point)) → (open_with last step ≡ None → later.0 ≡ [])
    → Holds (open_with last step) steps later → Holds last (step ∷ steps) (with_step last step later)
one_step last Begun steps later none h = record { further = nothing_goes_on last (Begun ∷ steps) later.0 (none refl); closed = all_more Begun steps later.1 h.closed }
one_step None (Missed group) steps later none h = record { further = tt; closed = all_more (Missed group) steps later.1 h.closed }
one_step (Some p) (Missed group) steps later none h = missed (nat_eq p.group group) p group steps refl later none h
one_step last Lost steps later none h = record { further = nothing_goes_on last (Lost ∷ steps) later.0 (none refl); closed = all_more Lost steps later.1 h.closed }
one_step last (Said point) steps later none h = said (goes_on last point) last point steps later refl h
one_step last Silent steps later none h = silent last steps later h

holds : (last : Option Point) (steps : List Step) → Holds last steps (segments_behind last steps)
holds None [] = record { further = tt; closed = tt }
holds (Some p) [] = record { further = tt; closed = tt }
holds last (step ∷ steps) =
    let next : Option Point = open_with last step in
    one_step last step steps (segments_behind next steps) (λ none. ap (λ (o : Option Point). (segments_behind o steps).0) none ∙ none_open steps) (holds next steps)

pub no_segment_goes_over : NoSegmentGoesOverAHole
no_segment_goes_over source records = (holds None (steps_of source records)).closed

-- ---- each point

abbrev all : List (List Point) → List Point
all segments = flat_map (λ (segment : List Point). segment) segments

one_point : (joins : Bool) (p : Point) (later : List Point × List (List Point)) → (with_point joins p later).0 ++ all (with_point joins p later).1 ≡ p ∷ (later.0 ++ all later.1)
one_point true p later = refl
one_point false p later = refl

points_of : (last : Option Point) (steps : List Step) → (segments_behind last steps).0 ++ all (segments_behind last steps).1 ≡ flat_map point_of steps
points_of last [] = refl
points_of last (Begun ∷ steps) = points_of None steps
points_of last ((Missed group) ∷ steps) = points_of (open_with last (Missed group)) steps
points_of last (Lost ∷ steps) = points_of None steps
points_of last ((Said point) ∷ steps) = one_point (goes_on last point) point (segments_behind (Some point) steps) ∙ ap (λ (ps : List Point). point ∷ ps) (points_of (Some point) steps)
points_of last (Silent ∷ steps) = points_of last steps

pub each_point_is_drawn : EachPointIsDrawn
each_point_is_drawn source records =
    ap (λ (points : List Point). points ++ all (segments_behind None (steps_of source records)).1) (sym (none_open (steps_of source records))) ∙ points_of None (steps_of source records)
