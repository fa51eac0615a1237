-- What is printed step by step, and record by record, is the text of the segments.
use Rattle.std.proofs.Common.{◌≡◌, ◌∙◌, ◌++◌, ◌∷◌, [], ℕ, Bool, true, false, cond, nat_eq, List, Option, Some, None, refl, ap, sym, append_assoc, append-nil}
use Rattle.std.specs.List.{flat_map}
use Rattle.std.proofs.lemmas.Grind.{flat_map-append, fold-append}
use Rattle.vdr_terms.specs.Records.{Record}
use Rattle.vdr_visit.specs.Prints.{lines_behind}
use Rattle.vdr_track.specs.Laws.{TrackIsPrinted}
use Rattle.vdr_track.specs.Segments.{goes_on, open_after, open_behind, open_with, segments_behind, segments_of, with_point, with_step}
use Rattle.vdr_track.specs.Steps.{steps_in, steps_of}
use Rattle.vdr_track.specs.Texts.{closing, last_lines, left_text, line_at, opening, point_text, said_text, segment_end, segment_start, segment_text, step_text, steps_text}
use Rattle.vdr_track.specs.declared.point.Point.{Point}
use Rattle.vdr_track.specs.declared.point.Step.{Step}
use Rattle.vdr_track.specs.declared.point.Step.TheVariants.{Begun, Missed, Lost, Said, Silent}

-- No point goes on where no segment is open.
pub none_open : (steps : List Step) → (segments_behind None steps).0 ≡ []
none_open [] = refl
none_open (Begun ∷ steps) = none_open steps
none_open ((Missed group) ∷ steps) = none_open steps
none_open (Lost ∷ steps) = none_open steps
none_open ((Said point) ∷ steps) = refl
none_open (Silent ∷ steps) = none_open steps

-- The further points of the open segment, its end, and the segments behind it.
abbrev rest_text : Option Point → List Point × List (List Point) → List ℕ
rest_text last later = flat_map point_text later.0 ++ left_text last ++ flat_map segment_text later.1

closed : (last : Option Point) (later : List Point × List (List Point)) → later.0 ≡ [] → left_text last ++ rest_text None later ≡ rest_text last later
closed last ([], segments) none = refl
closed last (p ∷ points, segments) none = let no : ⊥ = cc in absurd no

joined : (a b c d : List ℕ) → a ++ (b ++ c ++ d) ≡ a ++ b ++ c ++ d
joined a b c d = sym (append_assoc a (b ++ c) d) ∙ ap (λ (t : List ℕ). t ++ d) (sym (append_assoc a b c))

begun : (left start point points end rest : List ℕ) → left ++ start ++ point ++ (points ++ end ++ rest) ≡ left ++ (start ++ (point ++ points) ++ end ++ rest)
begun left start point points end rest =
    append_assoc (left ++ start) point (points ++ end ++ rest)
    ∙ append_assoc left start (point ++ (points ++ end ++ rest))
    ∙ ap (λ (t : List ℕ). left ++ t) (ap (λ (t : List ℕ). start ++ t) (joined point points end rest)
    ∙ joined start (point ++ points) end rest)

said : (joins : Bool) (last : Option Point) (point : Point) (later : List Point × List (List Point)) → goes_on last point ≡ joins
    → said_text joins last point ++ rest_text (Some point) later ≡ rest_text last (with_point joins point later)
said true None point later is = let no : ⊥ = cc in absurd no
said true (Some p) point later is = joined (point_text point) (flat_map point_text later.0) segment_end (flat_map segment_text later.1)
said false last point later is = begun (left_text last) segment_start (point_text point) (flat_map point_text later.0) segment_end (flat_map segment_text later.1)

missed : (ends : Bool) (point : Point) (later : List Point × List (List Point)) → (cond ends None (Some point) ≡ None → later.0 ≡ [])
    → cond ends segment_end [] ++ rest_text (cond ends None (Some point)) later ≡ rest_text (Some point) later
missed true point later none = closed (Some point) later (none refl)
missed false point later none = refl

one_step : (last : Option Point) (step : Step) (later : List Point × List (List Point)) → (open_with last step ≡ None → later.0 ≡ [])
    → step_text last step ++ rest_text (open_with last step) later ≡ rest_text last (with_step last step later)
one_step last Begun later none = closed last later (none refl)
one_step None (Missed group) later none = refl
one_step (Some point) (Missed group) later none = missed (nat_eq point.group group) point later none
one_step last Lost later none = closed last later (none refl)
one_step last (Said point) later none = said (goes_on last point) last point later refl
one_step last Silent later none = refl

streamed : (last : Option Point) (steps : List Step) → steps_text last steps ++ left_text (open_after last steps) ≡ rest_text last (segments_behind last steps)
streamed last [] = sym (append-nil (left_text last))
streamed last (step ∷ steps) =
    let next : Option Point = open_with last step in
    append_assoc (step_text last step) (steps_text next steps) (left_text (open_after next steps))
    ∙ ap (λ (t : List ℕ). step_text last step ++ t) (streamed next steps)
    ∙ one_step last step (segments_behind next steps) (λ none. ap (λ (o : Option Point). (segments_behind o steps).0) none ∙ none_open steps)

-- ---- record by record

pub text_more : (last : Option Point) (xs ys : List Step) → steps_text last (xs ++ ys) ≡ steps_text last xs ++ steps_text (open_after last xs) ys
text_more last [] ys = refl
text_more last (x ∷ xs) ys =
    ap (λ (t : List ℕ). step_text last x ++ t) (text_more (open_with last x) xs ys)
    ∙ sym (append_assoc (step_text last x) (steps_text (open_with last x) xs) (steps_text (open_after (open_with last x) xs) ys))

pub open_more : (source : List ℕ) (seen : List Record) (r : Record) → open_after (open_behind source seen) (steps_in source r) ≡ open_behind source (seen ++ r ∷ [])
open_more source seen r =
    sym (fold-append open_with None (steps_of source seen) (steps_in source r))
    ∙ ap (λ (s : List Step). open_after None (steps_of source seen ++ s)) (sym (append-nil (steps_in source r)))
    ∙ ap (λ (s : List Step). open_after None s) (sym (flat_map-append (steps_in source) seen (r ∷ [])))

-- The records behind the first one.
behind : (source : List ℕ) (first : Record) (seen records : List Record)
    → lines_behind (line_at source) (first ∷ seen) records ≡ steps_text (open_behind source (first ∷ seen)) (steps_of source records)
behind source first seen [] = refl
behind source first seen (r ∷ rs) =
    ap (λ (t : List ℕ). line_at source (first ∷ seen) r ++ t)
    (behind source first (seen ++ r ∷ []) rs ∙ ap (λ (o : Option Point). steps_text o (steps_of source rs)) (sym (open_more source (first ∷ seen) r)))
    ∙ sym (text_more (open_behind source (first ∷ seen)) (steps_in source r) (steps_of source rs))

drawn : (source : List ℕ) (records : List Record)
    → steps_text None (steps_of source records) ++ left_text (open_behind source records) ≡ flat_map segment_text (segments_of source records)
drawn source records =
    streamed None (steps_of source records)
    ∙ ap (λ (points : List Point). flat_map point_text points ++ left_text None ++ flat_map segment_text (segments_of source records)) (none_open (steps_of source records))

-- The text of one record behind the opening, and of the others.
regrouped : (opening one others left closing segments : List ℕ) → one ++ others ++ left ≡ segments
    → opening ++ one ++ others ++ ([] ++ left ++ closing) ≡ opening ++ segments ++ closing
regrouped opening one others left closing segments is =
    sym (append_assoc (opening ++ one ++ others) left closing)
    ∙ ap (λ (t : List ℕ). t ++ closing)
    (append_assoc (opening ++ one) others left ∙ append_assoc opening one (others ++ left) ∙ ap (λ (t : List ℕ). opening ++ t) (sym (append_assoc one others left) ∙ is))

pub track_is_printed : TrackIsPrinted
track_is_printed source [] = refl
track_is_printed source (r ∷ rs) =
    ap (λ (t : List ℕ). line_at source [] r ++ t ++ last_lines source (r ∷ rs)) (behind source r [] rs)
    ∙ regrouped (opening source) (steps_text None (steps_in source r)) (steps_text (open_behind source (r ∷ [])) (steps_of source rs)) (left_text (open_behind source (r ∷ rs))) closing
    (flat_map segment_text (segments_of source (r ∷ rs)))
    (ap (λ (t : List ℕ). t ++ left_text (open_behind source (r ∷ rs)))
    (ap (λ (o : Option Point). steps_text None (steps_in source r) ++ steps_text o (steps_of source rs)) (sym (open_more source [] r)) ∙ sym (text_more None (steps_in source r) (steps_of source rs)))
    ∙ drawn source (r ∷ rs))
