-- The rows of gaps of a group add up to its Gaps.
use Rattle.std.proofs.Common.{◌≡◌, ◌≤◌, ◌<◌, ◌+◌, ◌==◌, ◌∙◌, ◌++◌, ℕ, zero, suc, Bool, true, false, cond, List, [], ◌∷◌, codes, get_or, length, map, sum_by, Option, Some, None, refl, sym, ap, subst, append-nil, arith}
use Rattle.std.specs.Prelude.{option_to_list}
use Rattle.std.specs.List.{cons_option, flat_map}
use Rattle.std.proofs.lemmas.Bool.{eqb-false, eqb-true}
use Rattle.std.proofs.lemmas.Grind.{get_or-set_at}
use Rattle.std.proofs.lemmas.List.{get_or-replicate, get_or-set_other, length-set}
use Rattle.std.proofs.lemmas.List.Elements.{filter_map-append}
use Rattle.std.proofs.lemmas.List.Sums.{sum_by-append, sum_by-cons}
use Rattle.vdr_terms.specs.declared.counts.Counts.{Counts}
use Rattle.vdr_terms.specs.Records.{Content, Record}
use Rattle.vdr_terms.specs.Records.Content.{Start, Datagram, Gap, Stop}
use Rattle.vdr_sources.specs.Tables.{sources_of}
use Rattle.vdr_watch.specs.Supervision.{met_in}
use Rattle.vdr_watch.specs.Texts.{closing_text, record_text}
use Rattle.vdr_thin.specs.Runs.{Run}
use Rattle.vdr_thin.specs.Tables.{Key, Row, ended_in}
use Rattle.vdr_page.specs.Gaps.{by_name, capped, closed_by, first_marks, goes_on, marks_with, more_marks, none_open, stamp_of}
use Rattle.vdr_page.specs.Laws.{GapRowsAddUp}
use Rattle.vdr_page.specs.Missed.{AddUp, gap_at, gaps_in, marks_at, marks_in, missed_of}
use Rattle.vdr_page.specs.Opens.{Open, gaps_of, marks_of, open_after, open_behind}
use Rattle.vdr_page.specs.Pages.{end_row, source_row}
use Rattle.vdr_page.specs.Rows.{mark_row}
use Rattle.vdr_page.specs.Series.{key_of, reading_of, rows_with}
use Rattle.vdr_page.specs.Shown.{Shown, content_shown, gaps_shown, going_shown, last_shown, run_shown, shown_at, shown_behind, telling_shown, tellings_shown}
use Rattle.vdr_page.specs.Shown.Shown.{Told, Other}
use Rattle.vdr_page.specs.Surveys.{step_of, survey_of}
use Rattle.vdr_page.specs.Tellings.{Telling, tellings_of}
use Rattle.vdr_page.specs.Tellings.Telling.{Says, Names}
use Rattle.vdr_page.specs.Watched.{watch_rows}
use Rattle.vdr_page.specs.declared.marks.Marks.{Marks}
use Rattle.vdr_page.specs.declared.survey.Survey.{Survey}
use Rattle.vdr_page.proofs.Holding.{open_next}

-- ---- each group stands once among all

abbrev times : (group : ℕ) → List ℕ → ℕ
times group [] = 0
times group (g ∷ gs) = cond (g == group) (suc (times group gs)) (times group gs)

once : (group : ℕ) → group ≤ 15 → times group by_name ≡ 1
once zero le = refl
once (suc zero) le = refl
once (suc (suc zero)) le = refl
once (suc (suc (suc zero))) le = refl
once (suc (suc (suc (suc zero)))) le = refl
once (suc (suc (suc (suc (suc zero))))) le = refl
once (suc (suc (suc (suc (suc (suc zero)))))) le = refl
once (suc (suc (suc (suc (suc (suc (suc zero))))))) le = refl
once (suc (suc (suc (suc (suc (suc (suc (suc zero)))))))) le = refl
once (suc (suc (suc (suc (suc (suc (suc (suc (suc zero))))))))) le = refl
once (suc (suc (suc (suc (suc (suc (suc (suc (suc (suc zero)))))))))) le = refl
once (suc (suc (suc (suc (suc (suc (suc (suc (suc (suc (suc zero))))))))))) le = refl
once (suc (suc (suc (suc (suc (suc (suc (suc (suc (suc (suc (suc zero)))))))))))) le = refl
once (suc (suc (suc (suc (suc (suc (suc (suc (suc (suc (suc (suc (suc zero))))))))))))) le = refl
once (suc (suc (suc (suc (suc (suc (suc (suc (suc (suc (suc (suc (suc (suc zero)))))))))))))) le = refl
once (suc (suc (suc (suc (suc (suc (suc (suc (suc (suc (suc (suc (suc (suc (suc zero))))))))))))))) le = refl
once (suc (suc (suc (suc (suc (suc (suc (suc (suc (suc (suc (suc (suc (suc (suc (suc n)))))))))))))))) le = absurd (omega (arith, le))

module _ {A : Type 0} (group : ℕ) (f : ℕ → List A) where
  none_of : (gs : List ℕ) → times group gs ≡ 0 → flat_map (λ g. cond (g == group) (f g) []) gs ≡ []
  none_of [] e = refl
  none_of (g ∷ gs) e = go (g == group) e (none_of gs)
    where
      go : (b : Bool) → cond b (suc (times group gs)) (times group gs) ≡ 0 → (times group gs ≡ 0 → flat_map (λ g. cond (g == group) (f g) []) gs ≡ [])
          → cond b (f g) [] ++ flat_map (λ g. cond (g == group) (f g) []) gs ≡ []
      go true e rest = let none : ⊥ = omega (arith, e) in absurd none
      go false e rest = rest e

  one_of : (gs : List ℕ) → times group gs ≡ 1 → flat_map (λ g. cond (g == group) (f g) []) gs ≡ f group
  one_of [] e = let none : ⊥ = omega (arith, e) in absurd none
  one_of (g ∷ gs) e = go (g == group) refl e (none_of gs) (one_of gs)
    where
      go : (b : Bool) → (g == group) ≡ b → cond b (suc (times group gs)) (times group gs) ≡ 1 → (times group gs ≡ 0 → flat_map (λ g. cond (g == group) (f g) []) gs ≡ [])
          → (times group gs ≡ 1 → flat_map (λ g. cond (g == group) (f g) []) gs ≡ f group) → cond b (f g) [] ++ flat_map (λ g. cond (g == group) (f g) []) gs ≡ f group
      go true same e none one =
          let rest : times group gs ≡ 0 = omega (arith, e) in
          (λ i. f (eqb-true g group same i) ++ none rest i) ∙ append-nil (f group)
      go false same e none one = one e

-- ---- sums

record Within (told sum : ℕ) : Type 0 where
  least : capped sum ≤ told
  most : told ≤ sum

from_none : (told sum : ℕ) → Within told (0 + sum) → AddUp told sum
from_none told sum w =
    let l = w.least in let m = w.most in
    record { exact = λ small. omega (arith, l, m, small); least = omega (arith, l); most = omega (arith, m) }

fits : {told told' sum sum' : ℕ} → told ≡ told' → sum ≡ sum' → Within told' sum' → Within told sum
fits {told} {told'} {sum} {sum'} a b w = subst (λ n. Within n sum) (sym a) (subst (λ n. Within told' n) (sym b) w)

same_sum : (before rows rest : ℕ) → Within rows (before + rest) → Within (0 + rows) (before + (0 + rest))
same_sum before rows rest w = let l = w.least in let m = w.most in record { least = omega (arith, l); most = omega (arith, m) }

closed_sum : (before rows rest : ℕ) → Within rows (0 + rest) → Within (before + rows) (before + (0 + rest))
closed_sum before rows rest w = let l = w.least in let m = w.most in record { least = omega (arith, l); most = omega (arith, m) }

begun_sum : (before more rows rest : ℕ) → Within rows (more + rest) → Within (before + rows) (before + (more + rest))
begun_sum before more rows rest w = let l = w.least in let m = w.most in record { least = omega (arith, l); most = omega (arith, m) }

grown_sum : (before more rows rest : ℕ) → Within rows (capped (before + more) + rest) → Within (0 + rows) (before + (more + rest))
grown_sum before more rows rest w = let l = w.least in let m = w.most in record { least = omega (arith, l); most = omega (arith, m) }

last_sum : (before : ℕ) → Within before (before + 0)
last_sum before = record { least = omega arith; most = omega arith }

ones : {X : Type 0} (xs : List X) → sum_by (λ (x : X). 1) xs ≡ length xs
ones [] = refl
ones {X} (x ∷ xs) = let more : ◌≡◌ {A = ℕ} (1 + length xs) (suc (length xs)) = omega arith in sum_by-cons (λ (x : X). 1) x xs ∙ ap (λ n. 1 + n) (ones xs) ∙ more

abbrev sum_option : {X : Type 0} (f : X → ℕ) → Option X → ℕ
sum_option f None = 0
sum_option f (Some x) = f x

sum_listed : {X : Type 0} (f : X → ℕ) (o : Option X) → sum_by f (option_to_list o) ≡ sum_option f o
sum_listed f None = refl
sum_listed f (Some x) = let alone : ◌≡◌ {A = ℕ} (f x + 0) (f x) = omega arith in sum_by-cons f x [] ∙ alone

sum_more : {X : Type 0} (f : X → ℕ) (o : Option X) (xs : List X) → sum_by f (cons_option o xs) ≡ sum_option f o + sum_by f xs
sum_more f None xs = let none : ◌≡◌ {A = ℕ} (sum_by f xs) (0 + sum_by f xs) = omega arith in none
sum_more f (Some x) xs = sum_by-cons f x xs

-- ---- the rows of gaps of a group

module _ (group : ℕ) (own : group ≤ 15) where
  abbrev open_marks : Open → Option Marks
  open_marks o = get_or o.marks group None

  gaps_joined : (a b : List Shown) → marks_in group (a ++ b) ≡ marks_in group a ++ marks_in group b
  gaps_joined a b = filter_map-append (marks_at group) a b

  no_runs : (rows : List Row) → marks_in group (map (λ (row : Row). Told row) rows) ≡ []
  no_runs [] = refl
  no_runs (row ∷ rows) = no_runs rows

  of_slot : (g : ℕ) (m : Option Marks) → marks_in group (gaps_shown g m) ≡ cond (g == group) (option_to_list m) []
  of_slot g None = go (g == group)
    where
      go : (b : Bool) → [] ≡ cond {A = List Marks} b [] []
      go true = refl
      go false = refl
  of_slot g (Some m) = go (g == group)
    where
      go : (b : Bool) → cons_option (cond b (Some m) None) [] ≡ cond {A = List Marks} b (m ∷ []) []
      go true = refl
      go false = refl

  of_slots : (slots : List (Option Marks)) (gs : List ℕ)
      → marks_in group (flat_map (λ g. gaps_shown g (get_or slots g None)) gs) ≡ flat_map (λ g. cond (g == group) (option_to_list (get_or slots g None)) []) gs
  of_slots slots [] = refl
  of_slots slots (g ∷ gs) =
      gaps_joined (gaps_shown g (get_or slots g None)) (flat_map (λ g. gaps_shown g (get_or slots g None)) gs)
      ∙ (λ i. of_slot g (get_or slots g None) i ++ of_slots slots gs i)

  of_open : (o : Open) → marks_in group (going_shown o) ≡ option_to_list (open_marks o)
  of_open o =
      gaps_joined (map (λ (row : Row). Told row) o.rows) (flat_map (λ g. gaps_shown g (get_or o.marks g None)) by_name)
      ∙ (λ i. no_runs o.rows i ++ of_slots o.marks by_name i)
      ∙ one_of group (λ g. option_to_list (get_or o.marks g None)) by_name (once group own)

  no_run : (key : Key) (run : Option Run) → marks_in group (run_shown key run) ≡ []
  no_run key None = refl
  no_run key (Some run) = refl

  none_told : (step utc gaps : ℕ) (rows : List Row) (t : Telling) → marks_in group (telling_shown step utc gaps rows t) ≡ []
  none_told step utc gaps rows (Says s) = no_run (key_of s) (ended_in step rows (key_of s) (reading_of utc gaps s))
  none_told step utc gaps rows (Names formatter mmsi name) = refl

  none_of_tellings : (step utc gaps : ℕ) (rows : List Row) (ts : List Telling) → marks_in group (tellings_shown step utc gaps rows ts) ≡ []
  none_of_tellings step utc gaps rows [] = refl
  none_of_tellings step utc gaps rows (t ∷ ts) =
      gaps_joined (telling_shown step utc gaps rows t) (tellings_shown step utc gaps (rows_with step utc gaps rows t) ts)
      ∙ (λ i. none_told step utc gaps rows t i ++ none_of_tellings step utc gaps (rows_with step utc gaps rows t) ts i)

  of_marked : (o : Open) (mark : List ℕ) → marks_in group (going_shown o ++ Other mark ∷ []) ≡ option_to_list (open_marks o)
  of_marked o mark = gaps_joined (going_shown o) (Other mark ∷ []) ∙ append-nil (marks_in group (going_shown o)) ∙ of_open o

  -- Sixteen rows may be open.
  sixteen_after : (step : ℕ) (o : Open) (r : Record) (content : Content) → length o.marks ≡ 16 → length (open_after step o r content).marks ≡ 16
  sixteen_after step o r Start h = refl
  sixteen_after step o r (Datagram payload) h = h
  sixteen_after step o r (Gap missed) h = length-set o.marks r.group (Some (marks_with step (marks_of o r) r.place (stamp_of r) missed)) ∙ h
  sixteen_after step o r Stop h = refl

  closed_marks : get_or none_open group None ≡ None
  closed_marks = get_or-replicate 16 group None None (omega (arith, own))

  -- ---- what they add up to, by a number that a row has of its Gaps

  module _ (f : Marks → ℕ) (h : Counts → ℕ) (firsts : (place utc : ℕ) (c : Counts) → f (first_marks place utc c) ≡ h c)
      (mores : (m : Marks) (utc : ℕ) (c : Counts) → f (more_marks m utc c) ≡ capped (f m + h c)) where
    abbrev told : List Shown → ℕ
    told rows = sum_by f (marks_in group rows)

    told_joined : (a b : List Shown) → told (a ++ b) ≡ told a + told b
    told_joined a b = ap (sum_by f) (gaps_joined a b) ∙ sum_by-append f (marks_in group a) (marks_in group b)

    abbrev going : Open → ℕ
    going o = sum_option f (open_marks o)

    -- One Gap of the group.
    one_gap : (step : ℕ) (m : Option Marks) (place utc : ℕ) (c : Counts) (rows rest : ℕ) → Within rows (f (marks_with step m place utc c) + rest)
        → Within (sum_option f (closed_by step m utc) + rows) (sum_option f m + (h c + rest))
    one_gap step None place utc c rows rest w = begun_sum 0 (h c) rows rest (subst (λ n. Within rows (n + rest)) (firsts place utc c) w)
    one_gap step (Some m) place utc c rows rest w = go (goes_on step m utc) w
      where
        go : (b : Bool) → Within rows (f (cond b (more_marks m utc c) (first_marks place utc c)) + rest)
            → Within (sum_option f (cond b None (Some m)) + rows) (f m + (h c + rest))
        go true w = grown_sum (f m) (h c) rows rest (subst (λ n. Within rows (n + rest)) (mores m utc c) w)
        go false w = begun_sum (f m) (h c) rows rest (subst (λ n. Within rows (n + rest)) (firsts place utc c) w)

    of_own : (step : ℕ) (o : Open) (r : Record) (c : Counts) (rows rest : ℕ) → (r.group == group) ≡ true → length o.marks ≡ 16
        → Within rows (going (open_after step o r (Gap c)) + rest)
        → Within (told (gaps_shown r.group (closed_by step (marks_of o r) (stamp_of r))) + rows) (going o + (sum_option h (cond (r.group == group) (Some c) None) + rest))
    of_own step o r c rows rest e sixteen w =
        let same : r.group ≡ group = eqb-true r.group group e in
        let within : r.group < length o.marks = omega (arith, own, same, sixteen) in
        let m : Option Marks = marks_of o r in
        let closed : Option Marks = closed_by step m (stamp_of r) in
        let next : Marks = marks_with step m r.place (stamp_of r) c in
        let found : open_marks (open_after step o r (Gap c)) ≡ Some next = get_or-set_at o.marks r.group group (Some next) None (sym same) within in
        let rows_are : told (gaps_shown r.group closed) ≡ sum_option f closed =
        ap (sum_by f) (of_slot r.group closed ∙ ap (λ (b : Bool). cond b (option_to_list closed) []) e) ∙ sum_listed f closed in
        fits (ap (λ n. n + rows) rows_are)
        (λ i. sum_option f (get_or o.marks (sym same i) None) + (sum_option h (cond (e i) (Some c) None) + rest))
        (one_gap step m r.place (stamp_of r) c rows rest (subst (λ (m : Option Marks). Within rows (sum_option f m + rest)) found w))

    of_another : (step : ℕ) (o : Open) (r : Record) (c : Counts) (rows rest : ℕ) → (r.group == group) ≡ false
        → Within rows (going (open_after step o r (Gap c)) + rest)
        → Within (told (gaps_shown r.group (closed_by step (marks_of o r) (stamp_of r))) + rows) (going o + (sum_option h (cond (r.group == group) (Some c) None) + rest))
    of_another step o r c rows rest e w =
        let closed : Option Marks = closed_by step (marks_of o r) (stamp_of r) in
        let next : Option Marks = Some (marks_with step (marks_of o r) r.place (stamp_of r) c) in
        let found : open_marks (open_after step o r (Gap c)) ≡ open_marks o = get_or-set_other o.marks r.group group next None (λ same. eqb-false r.group group e (sym same)) in
        let rows_are : told (gaps_shown r.group closed) ≡ 0 = ap (sum_by f) (of_slot r.group closed ∙ ap (λ (b : Bool). cond b (option_to_list closed) []) e) in
        fits (ap (λ n. n + rows) rows_are) (λ i. going o + (sum_option h (cond (e i) (Some c) None) + rest))
        (same_sum (going o) rows rest (subst (λ (m : Option Marks). Within rows (sum_option f m + rest)) found w))

    -- A Start or a Stop.
    of_mark : (o : Open) (r : Record) (mark : List ℕ) (rows rest : ℕ) → Within rows (sum_option f (get_or none_open group None) + rest)
        → Within (told (going_shown o ++ Other mark ∷ []) + rows) (going o + (sum_option h (cond {A = Option Counts} (r.group == group) None None) + rest))
    of_mark o r mark rows rest w =
        let rows_are : told (going_shown o ++ Other mark ∷ []) ≡ going o = ap (sum_by f) (of_marked o mark) ∙ sum_listed f (open_marks o) in
        fits (ap (λ n. n + rows) rows_are) (ap (λ n. going o + (n + rest)) (nothing (r.group == group)))
        (closed_sum (going o) rows rest (subst (λ (m : Option Marks). Within rows (sum_option f m + rest)) closed_marks w))
      where
        nothing : (b : Bool) → sum_option h (cond {A = Option Counts} b None None) ≡ 0
        nothing true = refl
        nothing false = refl

    one_record : (s : Survey) (o : Open) (r : Record) (content : Content) (rows rest : ℕ) → length o.marks ≡ 16
        → Within rows (going (open_after (step_of s) o r content) + rest)
        → Within (told (content_shown s o r content) + rows) (going o + (sum_option h (cond (r.group == group) (missed_of content) None) + rest))
    one_record s o r Start rows rest sixteen w = of_mark o r (mark_row (codes "start") r) rows rest w
    one_record s o r (Datagram payload) rows rest sixteen w =
        fits (ap (λ n. n + rows) (ap (sum_by f) (none_of_tellings (step_of s) (stamp_of r) (gaps_of o r) o.rows (tellings_of o.back r)))) (ap (λ n. going o + (n + rest)) (nothing (r.group == group)))
        (same_sum (going o) rows rest w)
      where
        nothing : (b : Bool) → sum_option h (cond {A = Option Counts} b None None) ≡ 0
        nothing true = refl
        nothing false = refl
    one_record s o r (Gap c) rows rest sixteen w = go (r.group == group) refl
      where
        go : (b : Bool) → (r.group == group) ≡ b
            → Within (told (gaps_shown r.group (closed_by (step_of s) (marks_of o r) (stamp_of r))) + rows) (going o + (sum_option h (cond (r.group == group) (Some c) None) + rest))
        go true e = of_own (step_of s) o r c rows rest e sixteen w
        go false e = of_another (step_of s) o r c rows rest e w
    one_record s o r Stop rows rest sixteen w = of_mark o r (mark_row (codes "stop") r) rows rest w

    at_told : (s : Survey) (seen : List Record) (r : Record) → told (shown_at s seen r) ≡ told (content_shown s (open_behind (step_of s) seen) r r.content)
    at_told s seen r =
        let shown : List Shown = content_shown s (open_behind (step_of s) seen) r r.content in
        ap (sum_by f) (gaps_joined shown (Other (watch_rows (record_text (met_in seen) r)) ∷ []) ∙ append-nil (marks_in group shown))

    last_told : (s : Survey) (seen : List Record) → told (last_shown s seen) ≡ going (open_behind (step_of s) seen)
    last_told s seen =
        let o : Open = open_behind (step_of s) seen in
        ap (sum_by f)
        (gaps_joined (going_shown o) (Other (watch_rows (closing_text seen)) ∷ Other (flat_map source_row (sources_of seen)) ∷ Other end_row ∷ [])
        ∙ append-nil (marks_in group (going_shown o)) ∙ of_open o)
        ∙ sum_listed f (open_marks o)

    all_rows : (s : Survey) (seen rs : List Record) → length (open_behind (step_of s) seen).marks ≡ 16
        → Within (told (shown_behind s seen rs)) (going (open_behind (step_of s) seen) + sum_by h (gaps_in group rs))
    all_rows s seen [] sixteen = fits (last_told s seen) refl (last_sum (going (open_behind (step_of s) seen)))
    all_rows s seen (r ∷ rs) sixteen =
        let o : Open = open_behind (step_of s) seen in
        let next : List Record = seen ++ r ∷ [] in
        let opened : open_after (step_of s) o r r.content ≡ open_behind (step_of s) next = open_next (step_of s) seen r in
        let later = all_rows s next rs (ap (λ (o : Open). length o.marks) (sym opened) ∙ sixteen_after (step_of s) o r r.content sixteen) in
        fits (told_joined (shown_at s seen r) (shown_behind s next rs) ∙ ap (λ n. n + told (shown_behind s next rs)) (at_told s seen r))
        (ap (λ n. going o + n) (sum_more h (gap_at group r) (gaps_in group rs)))
        (one_record s o r r.content (told (shown_behind s next rs)) (sum_by h (gaps_in group rs)) sixteen
        (subst (λ (o : Open). Within (told (shown_behind s next rs)) (going o + sum_by h (gaps_in group rs))) (sym opened) later))

    page_adds_up : (s : Survey) (records : List Record) → AddUp (told (shown_behind s [] records)) (sum_by h (gaps_in group records))
    page_adds_up s records =
        from_none (told (shown_behind s [] records)) (sum_by h (gaps_in group records))
        (subst (λ (m : Option Marks). Within (told (shown_behind s [] records)) (sum_option f m + sum_by h (gaps_in group records))) closed_marks (all_rows s [] records refl))

pub gap_rows_add_up : GapRowsAddUp
gap_rows_add_up words saves records group own =
    let s : Survey = survey_of records in
    record {
      marks = subst (λ n. AddUp (sum_by (λ (m : Marks). m.marks) (marks_in group (shown_behind s [] records))) n) (ones (gaps_in group records))
          (page_adds_up group own (λ (m : Marks). m.marks) (λ (c : Counts). 1) (λ place utc c. refl) (λ m utc c. refl) s records);
      full = page_adds_up group own (λ (m : Marks). m.missed.full) (λ (c : Counts). c.full) (λ place utc c. refl) (λ m utc c. refl) s records;
      rate = page_adds_up group own (λ (m : Marks). m.missed.rate) (λ (c : Counts). c.rate) (λ place utc c. refl) (λ m utc c. refl) s records;
      bad = page_adds_up group own (λ (m : Marks). m.missed.bad) (λ (c : Counts). c.bad) (λ place utc c. refl) (λ m utc c. refl) s records;
      large = page_adds_up group own (λ (m : Marks). m.missed.large) (λ (c : Counts). c.large) (λ place utc c. refl) (λ m utc c. refl) s records;
    }
