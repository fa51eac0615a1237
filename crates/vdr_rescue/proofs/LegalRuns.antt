-- The runs of segments that stand in a legal order, and what stands at the seam of two of them.
use Rattle.std.proofs.Common.{◌≡◌, ◌+◌, ℕ, suc, Bool, true, false, List, [], ◌∷◌, ◌++◌, length, map, filter, fold, All, Some, None, ⊎_elim, refl, sym, ap, ◌∙◌, subst, arith, append_assoc}
use Rattle.std.proofs.lemmas.Bool.{cases_Bool, cond-false, cond-true}
use Rattle.std.proofs.lemmas.List.Elements.{All-head, All-tail}
use Rattle.std.proofs.lemmas.Option.{none-some, same_Some}
use Rattle.vdr_terms.specs.Records.{Record, last, last_after, second}
use Rattle.vdr_terms.specs.Order.{RunOn}
use Rattle.vdr_terms.proofs.Running.{last_of_run}
use Rattle.vdr_directory.specs.Order.{HasNone, RunsOn, next_place}
use Rattle.vdr_directory.specs.Sequence.{Placed, all_records, first_of, records_of}
use Rattle.vdr_directory.proofs.Runs.{EndsWith, ends_with}
use Rattle.vdr_rescue.specs.declared.told.Run.{Run}
use Rattle.vdr_rescue.specs.declared.told.Told.{Told}
use Rattle.vdr_rescue.specs.Lacking.{last_second, second_behind}
use Rattle.vdr_rescue.specs.Runs.{run_behind, run_with}
use Rattle.vdr_rescue.proofs.LegalReading.{told_of}

-- The run of a segment with records

pub record HasRun (p : Placed) : Type 0 where
  pub first : Record
  pub more : List Record
  pub are : records_of p ≡ first ∷ more
  pub run : Run
  pub is : run_behind None (records_of p) ≡ Some run
  pub from : run.from ≡ first_of p
  pub to : run.to ≡ next_place p
  pub ends : run.second ≡ second (last_after first more).tick

run_on : (run : Run) (r : Record) (rs : List Record) → run.to ≡ suc r.place → run.second ≡ second r.tick → RunOn (suc r.place) rs
    → (end : Run) × (run_behind (Some run) rs ≡ Some end) × (end.from ≡ run.from) × (end.to ≡ suc r.place + length rs) × (end.second ≡ second (last_after r rs).tick)
run_on run r [] to ends h = (run, refl, refl, omega (arith, to), ends)
run_on run r (s ∷ ss) to ends h =
    let at = h.0 in
    let step = run_on (run_with (Some run) s) s ss (omega arith) refl (subst (λ (n : ℕ). RunOn (suc n) ss) (sym h.0) h.1) in
    let far = step.3 in
    (step.0, step.1, step.2, omega (arith, far, at), step.4)

pub has_run : (p : Placed) → RunsOn p → (HasNone p → ⊥) → HasRun p
has_run p runs some = go (records_of p) refl
  where
    go : (rs : List Record) → records_of p ≡ rs → HasRun p
    go [] is = absurd (some is)
    go (r ∷ rs) is =
        let on : RunOn (first_of p) (r ∷ rs) = subst (RunOn (first_of p)) is runs.places in
        let at = on.0 in
        let long : length (records_of p) ≡ suc (length rs) = ap length is in
        let x = run_on (run_with None r) r rs (omega arith) refl (subst (λ (n : ℕ). RunOn (suc n) rs) (sym on.0) on.1) in
        let far = x.3 in
        record {
          first = r;
          more = rs;
          are = is;
          run = x.0;
          is = ap (run_behind None) is ∙ x.1;
          from = x.2 ∙ at;
          to = omega (arith, far, at, long);
          ends = x.4;
        }

pub some_records : (r : Record) (rs : List Record) → r ∷ rs ≡ [] → ⊥
some_records r rs e = cc

-- The second of the last record

second_after : ℕ → List Record → ℕ
second_after n [] = n
second_after n (r ∷ rs) = second (last_after r rs).tick

second_join : (n : ℕ) (r : Record) (rs ys : List Record) → second_after (second (last_after r rs).tick) ys ≡ second_after n (r ∷ rs ++ ys)
unfolding second_after
second_join n r [] [] = refl
second_join n r [] (y ∷ ys) = refl
second_join n r (s ∷ rs) ys = second_join n s rs ys

seconds_of : (n : ℕ) (ps : List Placed) → All RunsOn ps → fold (λ (s : ℕ) (t : Told). second_behind s t.run) n (map told_of ps) ≡ second_after n (all_records ps)
unfolding second_after
seconds_of n [] h = refl
seconds_of n (p ∷ ps) h = go (λ m. seconds_of m ps (All-tail RunsOn p ps h)) (records_of p) refl
  where
    go : ((m : ℕ) → fold (λ (s : ℕ) (t : Told). second_behind s t.run) m (map told_of ps) ≡ second_after m (all_records ps)) → (rs : List Record) → records_of p ≡ rs
        → fold (λ (s : ℕ) (t : Told). second_behind s t.run) (second_behind n (run_behind None (records_of p))) (map told_of ps) ≡ second_after n (records_of p ++ all_records ps)
    go rest [] is =
        ap (λ (rs : List Record). fold (λ (s : ℕ) (t : Told). second_behind s t.run) (second_behind n (run_behind None rs)) (map told_of ps)) is ∙ rest n
        ∙ ap (λ (rs : List Record). second_after n (rs ++ all_records ps)) (sym is)
    go rest (r ∷ rs) is =
        let x = has_run p (All-head RunsOn p ps h) (λ none. some_records r rs (sym is ∙ none)) in
        let at : second_behind n (run_behind None (records_of p)) ≡ second (last_after x.first x.more).tick = ap (second_behind n) x.is ∙ x.ends in
        ap (λ (m : ℕ). fold (λ (s : ℕ) (t : Told). second_behind s t.run) m (map told_of ps)) at ∙ rest (second (last_after x.first x.more).tick)
        ∙ second_join n x.first x.more (all_records ps)
        ∙ ap (λ (rs : List Record). second_after n (rs ++ all_records ps)) (sym x.are)

pub last_second_of : (ps : List Placed) → All RunsOn ps → (newest : Record) → last (all_records ps) ≡ Some newest → last_second (map told_of ps) ≡ second newest.tick
unfolding second_after
last_second_of ps h newest is = seconds_of 0 ps h ∙ go (all_records ps) is
  where
    go : (rs : List Record) → last rs ≡ Some newest → second_after 0 rs ≡ second newest.tick
    go [] e = absurd (none-some newest e)
    go (r ∷ rs) e = ap (λ (x : Record). second x.tick) (same_Some (last_after r rs) newest e)

-- Two records that follow one another

pub next_of_run : (n : ℕ) (before : List Record) (r s : Record) (behind : List Record) → RunOn n (before ++ r ∷ s ∷ behind) → s.place ≡ suc r.place
next_of_run n [] r s behind h = let a = h.0 in let b = h.1.0 in omega (arith, a, b)
next_of_run n (x ∷ before) r s behind h = next_of_run (suc n) before r s behind h.1

pub next_of_filter : (w : Record → Bool) (before : List Record) (r s : Record) (behind : List Record) (n : ℕ) → w r ≡ true → w s ≡ true → RunOn n (filter w (before ++ r ∷ s ∷ behind)) → s.place ≡ suc r.place
next_of_filter w [] r s behind n here there h =
    next_of_run n [] r s (filter w behind)
    (subst (RunOn n) (cond-true (w r) (r ∷ filter w (s ∷ behind)) (filter w (s ∷ behind)) here ∙ ap (λ (xs : List Record). r ∷ xs) (cond-true (w s) (s ∷ filter w behind) (filter w behind) there)) h)
next_of_filter w (x ∷ before) r s behind n here there h = ⊎_elim
    (λ (e : w x ≡ true).
    let on : RunOn n (x ∷ filter w (before ++ r ∷ s ∷ behind)) = subst (RunOn n) (cond-true (w x) (x ∷ filter w (before ++ r ∷ s ∷ behind)) (filter w (before ++ r ∷ s ∷ behind)) e) h in
    next_of_filter w before r s behind (suc n) here there on.1)
    (λ (e : w x ≡ false). next_of_filter w before r s behind n here there (subst (RunOn n) (cond-false (w x) (x ∷ filter w (before ++ r ∷ s ∷ behind)) (filter w (before ++ r ∷ s ∷ behind)) e) h))
    (cases_Bool (w x))

-- Two segments that follow one another, and what stands around their seam

records_append : (xs ys : List Placed) → all_records (xs ++ ys) ≡ all_records xs ++ all_records ys
records_append [] ys = refl
records_append (x ∷ xs) ys = ap (λ (rs : List Record). records_of x ++ rs) (records_append xs ys) ∙ sym (append_assoc (records_of x) (all_records xs) (all_records ys))

pub record Seam (placed : List Placed) (q p : Placed) (hq : HasRun q) (hp : HasRun p) : Type 0 where
  pub before : List Record
  pub behind : List Record
  pub split : all_records placed ≡ before ++ last_after hq.first hq.more ∷ hp.first ∷ behind

seam_lists : (front older : List Record) (r s : Record) (ys rest : List Record) → front ++ ((older ++ r ∷ []) ++ ((s ∷ ys) ++ rest)) ≡ (front ++ older) ++ (r ∷ s ∷ (ys ++ rest))
seam_lists front older r s ys rest =
    ap (λ (xs : List Record). front ++ xs) (append_assoc older (r ∷ []) (s ∷ (ys ++ rest))) ∙ sym (append_assoc front older (r ∷ s ∷ (ys ++ rest)))

pub seam : (front : List Placed) (q p : Placed) (ps : List Placed) (hq : HasRun q) (hp : HasRun p) → Seam (front ++ q ∷ p ∷ ps) q p hq hp
seam front q p ps hq hp =
    let e : EndsWith (records_of q) (last_after hq.first hq.more) = ends_with (records_of q) (last_after hq.first hq.more) (ap last hq.are) in
    record {
      before = all_records front ++ e.older;
      behind = hp.more ++ all_records ps;
      split = records_append front (q ∷ p ∷ ps)
          ∙ ap (λ (xs : List Record). all_records front ++ (xs ++ (records_of p ++ all_records ps))) e.split
          ∙ ap (λ (xs : List Record). all_records front ++ ((e.older ++ last_after hq.first hq.more ∷ []) ++ (xs ++ all_records ps))) hp.are
          ∙ seam_lists (all_records front) e.older (last_after hq.first hq.more) hp.first hp.more (all_records ps);
    }

-- the place of the last of the one, and of the first of the other
pub last_place : (q : Placed) (hq : HasRun q) → RunsOn q → suc (last_after hq.first hq.more).place ≡ next_place q
last_place q hq runs =
    let on : RunOn (first_of q) (hq.first ∷ hq.more) = subst (RunOn (first_of q)) hq.are runs.places in
    last_of_run (first_of q) hq.first hq.more on ∙ ap (λ (rs : List Record). first_of q + length rs) (sym hq.are)

pub first_place : (p : Placed) (hp : HasRun p) → RunsOn p → hp.first.place ≡ first_of p
first_place p hp runs = let on : RunOn (first_of p) (hp.first ∷ hp.more) = subst (RunOn (first_of p)) hp.are runs.places in on.0
