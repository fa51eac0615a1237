-- An answer at the marks of its turns, and in the history that they tell.
use Rattle.std.proofs.Common.{◌≡◌, ◌+◌, ◌++◌, ◌∷◌, ℕ, suc, false, List, [], None, length, get_or, drop, map, refl, sym, ap, ◌∙◌, arith, append_assoc, append-nil}
use Rattle.std.proofs.Math.Seq.{drop-append_seam}
use Rattle.std.proofs.lemmas.List.{get_or-append-add, length-append, length-map, map-append, nil_from_length}
use Rattle.vdr_core.specs.Histories.{Event, Opening}
use Rattle.vdr_core.specs.Taken.{Captured}
use Rattle.vdr_desk.specs.Answers.{Answer, seen_by, told_on}
use Rattle.vdr_session.specs.declared.mark.Mark.{Mark}
use Rattle.vdr_session.specs.Answering.{answer_over, last_mark}
use Rattle.vdr_session.specs.Events.{event_of, events_along, events_of}
use Rattle.vdr_session.specs.Marks.{taken_by, taken_in}
use Rattle.vdr_session.specs.Origins.{Origin, origin_at, origin_of, origins_of}
use Rattle.vdr_session.proofs.Told.{events_more}

-- the history of marks is a front of that of more
along_front : (opening : Opening) (taken : List Captured) (events : List Event) (marks : List Mark) → (rest : List Event) × (events_along opening taken events marks ≡ events ++ rest) × (length rest ≡ length marks)
along_front opening taken events [] = ([], sym (append-nil events), refl)
along_front opening taken events (m ∷ marks) =
    let e = event_of opening taken events m in
    let r = along_front opening (taken ++ taken_by m.did) (events ++ e ∷ []) marks in
    (e ∷ r.0, r.1 ∙ append_assoc events (e ∷ []) r.0, (let l = r.2 in omega (arith, l)))

along_join : (opening : Opening) (taken : List Captured) (events : List Event) (first second : List Mark)
    → (items : List Captured) × (events_along opening taken events (first ++ second) ≡ events_along opening items (events_along opening taken events first) second)
along_join opening taken events [] second = (taken, refl)
along_join opening taken events (m ∷ first) second = along_join opening (taken ++ taken_by m.did) (events ++ event_of opening taken events m ∷ []) first second

pub as_long : (opening : Opening) (marks : List Mark) → length (events_of opening marks) ≡ length marks
as_long opening marks = let r = along_front opening [] [] marks in ap length r.1 ∙ r.2

pub events_front : (opening : Opening) (first second : List Mark) → (rest : List Event) × (events_of opening (first ++ second) ≡ events_of opening first ++ rest)
events_front opening first second =
    let j = along_join opening [] [] first second in
    let r = along_front opening j.0 (events_of opening first) second in
    (r.0, j.1 ∙ r.1)

-- the event of a mark, behind those of the marks before it
event_at : (opening : Opening) (before : List Mark) (own : Mark) (behind : List Mark)
    → (rest : List Event) × (events_of opening (before ++ own ∷ behind) ≡ events_of opening before ++ event_of opening (taken_in before) (events_of opening before) own ∷ rest)
event_at opening before own behind =
    let r = events_front opening (before ++ own ∷ []) behind in
    let e = event_of opening (taken_in before) (events_of opening before) own in (
      r.0,
      ap (events_of opening) (sym (append_assoc before (own ∷ []) behind)) ∙ r.1 ∙ ap (λ (es : List Event). es ++ r.0) (events_more opening before own)
          ∙ append_assoc (events_of opening before) (e ∷ []) r.0,
    )

drop_behind : {X : Type 0} (n : ℕ) (xs : List X) (y : X) (ys : List X) → length xs ≡ n → drop (suc n) (xs ++ y ∷ ys) ≡ ys
drop_behind {X} n xs y ys is =
    let long : length (xs ++ y ∷ []) ≡ suc n = (let l = length-append xs (y ∷ []) in omega (arith, l, is)) in
    (λ i. drop (sym long i) (sym (append_assoc xs (y ∷ []) ys) i)) ∙ drop-append_seam (xs ++ y ∷ []) ys

module _ (opening : Opening) where
  -- what stands behind the event of its own mark
  behind_own : (a : Answer Mark) → (rest : List Event) × (events_of opening (seen_by a) ≡ events_of opening a.before ++ (answer_over opening a).own ∷ rest) × ((answer_over opening a).during ≡ rest)
  behind_own a =
      let e = event_at opening a.before a.own a.during in (
        e.0,
        e.1,
        ap (drop (suc (length a.before))) e.1 ∙ drop_behind (length a.before) (events_of opening a.before) (answer_over opening a).own e.0 (as_long opening a.before),
      )

  pub over_seen : (a : Answer Mark) → seen_by (answer_over opening a) ≡ events_of opening (seen_by a)
  over_seen a = let b = behind_own a in ap (λ (xs : List Event). events_of opening a.before ++ (answer_over opening a).own ∷ xs) b.2 ∙ sym b.1

  pub over_early : (a : Answer Mark) → length (answer_over opening a).before ≡ length a.before
  over_early a = as_long opening a.before

  pub over_during : (a : Answer Mark) → length (answer_over opening a).during ≡ length a.during
  over_during a =
      let s = ap length (over_seen a) ∙ as_long opening (seen_by a) in
      let l = length-append (answer_over opening a).before ((answer_over opening a).own ∷ (answer_over opening a).during) in
      let m = length-append a.before (a.own ∷ a.during) in
      let e = over_early a in
      omega (arith, s, l, m, e)

  -- in its first turn
  pub over_fresh : (a : Answer Mark) → a.during ≡ [] → answer_over opening a ≡ record { order = a.order; before = events_of opening a.before; own = (answer_over opening a).own; during = []; text = a.text }
  over_fresh a none =
      let long : length (answer_over opening a).during ≡ 0 = over_during a ∙ ap length none in
      λ i. record { order = a.order; before = events_of opening a.before; own = (answer_over opening a).own; during = nil_from_length (answer_over opening a).during long i; text = a.text }

  -- it goes on by one more mark, behind others
  module _ (a : Answer Mark) (later : List Mark) (m : Mark) (piece : List ℕ) where
    abbrev pub further : List Event
    further = (events_front opening (seen_by a) later).0

    abbrev pub event : Event
    event = event_of opening (taken_in (seen_by a ++ later)) (events_of opening (seen_by a ++ later)) m

    pub over_later : events_of opening (seen_by a ++ later) ≡ seen_by (answer_over opening a) ++ further
    over_later = (events_front opening (seen_by a) later).1 ∙ ap (λ (es : List Event). es ++ further) (sym (over_seen a))

    joined_marks : seen_by (told_on a (later ++ m ∷ []) piece) ≡ (seen_by a ++ later) ++ m ∷ []
    joined_marks = ap (λ (xs : List Mark). a.before ++ a.own ∷ xs) (sym (append_assoc a.during later (m ∷ []))) ∙ sym (append_assoc a.before (a.own ∷ (a.during ++ later)) (m ∷ []))
        ∙ ap (λ (xs : List Mark). xs ++ m ∷ []) (sym (append_assoc a.before (a.own ∷ a.during) later))

    pub over_on : answer_over opening (told_on a (later ++ m ∷ []) piece) ≡ told_on (answer_over opening a) (further ++ event ∷ []) piece
    over_on =
        let o = answer_over opening a in
        let all : events_of opening (seen_by (told_on a (later ++ m ∷ []) piece)) ≡ events_of opening a.before ++ o.own ∷ (o.during ++ (further ++ event ∷ [])) =
        ap (events_of opening) joined_marks ∙ events_more opening (seen_by a ++ later) m ∙ ap (λ (es : List Event). es ++ event ∷ []) over_later
        ∙ ap (λ (es : List Event). es ++ event ∷ []) (append_assoc o.before (o.own ∷ o.during) further) ∙ append_assoc o.before (o.own ∷ (o.during ++ further)) (event ∷ [])
        ∙ ap (λ (es : List Event). o.before ++ o.own ∷ es) (append_assoc o.during further (event ∷ [])) in
        let rest = ap (drop (suc (length a.before))) all ∙ drop_behind (length a.before) (events_of opening a.before) o.own (o.during ++ (further ++ event ∷ [])) (as_long opening a.before) in
        λ i. record { order = a.order; before = o.before; own = o.own; during = rest i; text = a.text ++ piece }

-- the last mark
get_last : {X : Type 0} (y : X) (ys : List X) (m d : X) → get_or (y ∷ (ys ++ m ∷ [])) (length (ys ++ m ∷ [])) d ≡ m
get_last y [] m d = refl
get_last y (z ∷ ys) m d = get_last z ys m d

pub last_is : (a : Answer Mark) (later : List Mark) (m : Mark) (piece : List ℕ) → last_mark (told_on a (later ++ m ∷ []) piece) ≡ m
last_is a later m piece =
    ap (λ (xs : List Mark). get_or (a.own ∷ xs) (length xs) a.own) (sym (append_assoc a.during later (m ∷ []))) ∙ get_last a.own (a.during ++ later) m a.own

-- where it stands
origin_near : (own : Mark) (during behind : List Mark) (d : Origin) (e : Mark) → get_or (map origin_of ((own ∷ during) ++ behind)) (length during) d ≡ origin_of (get_or (own ∷ during) (length during) e)
origin_near own [] behind d e = refl
origin_near own (m ∷ during) behind d e = origin_near m during behind d e

pub origin_last : (a : Answer Mark) (behind : List Mark) → origin_at (origins_of (seen_by a ++ behind)) (length a.before + length a.during) ≡ origin_of (last_mark a)
origin_last a behind =
    let none : Origin = record { desk = None; failed = false } in
    (λ i. get_or (map origin_of (append_assoc a.before (a.own ∷ a.during) behind i)) (length a.before + length a.during) none)
    ∙ (λ i. get_or (map-append origin_of a.before ((a.own ∷ a.during) ++ behind) i) (sym (ap (λ (n : ℕ). n + length a.during) (length-map a.before origin_of)) i) none)
    ∙ get_or-append-add (map origin_of a.before) (map origin_of ((a.own ∷ a.during) ++ behind)) (length a.during) none
    ∙ origin_near a.own a.during behind none a.own
