-- The tally of a run after one more mark, and what it says of the history.
use Rattle.std.proofs.Common.{◌≡◌, ◌⊎◌, inl, inr, ◌++◌, ◌∷◌, ◌&&◌, ◌||◌, ℕ, Bool, true, false, true≢false, List, [], cond, is_some, refl, sym, ap, ◌∙◌, subst}
use Rattle.std.specs.Prelude.{if◌then◌else◌}
use Rattle.std.proofs.lemmas.Bool.{cases_Bool}
use Rattle.vdr_core.specs.Histories.{Opening}
use Rattle.vdr_core.specs.RunStates.{RunState, state_left}
use Rattle.vdr_core.specs.Taken.{Captured}
use Rattle.vdr_durability.specs.Keeping.{moment_of}
use Rattle.vdr_outside.specs.Disk.{Disk}
use Rattle.vdr_health.specs.Tallies.{KnowsRun, Tallies}
use Rattle.vdr_health.specs.declared.tallied.RunTally.{RunTally}
use Rattle.vdr_recorder.specs.Recordings.{RecorderState}
use Rattle.vdr_recorder.specs.Watched.{Watched}
use Rattle.vdr_session.specs.declared.mark.Did.{Did}
use Rattle.vdr_session.specs.declared.mark.Did.TheVariants.{Begin, Look, Take}
use Rattle.vdr_session.specs.declared.mark.Mark.{Mark}
use Rattle.vdr_session.specs.Events.{events_of}
use Rattle.vdr_session.specs.Marks.{begins, is_begun, taken_by, taken_in}
use Rattle.vdr_session.specs.Standing.{Before, HasSession, IsAt, batch_mark, start_mark}
use Rattle.vdr_session.specs.Tallied.{IsTallied}
use Rattle.vdr_session.proofs.MarkLemmas.{begin_told, begun_grows, begun_none, begun_whole, look_told, taken_same_by}
use Rattle.vdr_session.proofs.Marked.{taken_more}

tallies_so : (b c : Bool) (xs ys : List Captured) (tally : RunTally) → b ≡ c → xs ≡ ys → Tallies b xs tally → Tallies c ys tally
tallies_so b c xs ys tally same all h = subst (λ (x : Bool × List Captured). Tallies x.0 x.1 tally) (λ i. (same i, all i)) h

or_last : (b : Bool) → (b || true) ≡ true
or_last true = refl
or_last false = refl

-- a mark that begins nothing and takes nothing
pub tallied_same : (marks : List Mark) (m : Mark) (tally : RunTally) → (begins m.did && is_some m.moment) ≡ false → taken_by m.did ≡ [] → IsTallied marks tally → IsTallied (marks ++ m ∷ []) tally
tallied_same marks m tally none empty h =
    tallies_so (is_begun marks) (is_begun (marks ++ m ∷ [])) (taken_in marks) (taken_in (marks ++ m ∷ [])) tally (sym (begun_none marks m none)) (sym (taken_same_by marks m empty)) h

-- a mark that begins the run
pub tallied_begun : (marks : List Mark) (m : Mark) (tally : RunTally) → (begins m.did && is_some m.moment) ≡ true → taken_by m.did ≡ [] → Tallies true (taken_in marks) tally → IsTallied (marks ++ m ∷ []) tally
tallied_begun marks m tally begun empty h =
    tallies_so true (is_begun (marks ++ m ∷ [])) (taken_in marks) (taken_in (marks ++ m ∷ [])) tally
    (sym (begun_grows marks m ∙ ap (λ (b : Bool). is_begun marks || b) begun ∙ or_last (is_begun marks))) (sym (taken_same_by marks m empty)) h

-- a batch
batch_begins : (failed : Bool) (items : List Captured) (b : Bool) → (begins (cond failed Look (Take items)) && b) ≡ false
batch_begins true items b = refl
batch_begins false items b = refl

batch_takes : (failed : Bool) (items : List Captured) → taken_by (cond failed Look (Take items)) ≡ (if failed then [] else items)
batch_takes true items = refl
batch_takes false items = refl

pub tallied_batch : (marks : List Mark) (failed asked : Bool) (items : List Captured) (after : Bool) (clock : ℕ) (tally : RunTally) → asked ≡ failed
    → Tallies (is_begun marks) (taken_in marks ++ (if asked then [] else items)) tally → IsTallied (marks ++ batch_mark failed items after clock ∷ []) tally
tallied_batch marks failed asked items after clock tally same h =
    let m = batch_mark failed items after clock in
    tallies_so (is_begun marks) (is_begun (marks ++ m ∷ [])) (taken_in marks ++ (if asked then [] else items)) (taken_in (marks ++ m ∷ [])) tally
    (sym (begun_none marks m (batch_begins failed items (is_some m.moment))))
    (ap (λ (b : Bool). taken_in marks ++ (if b then [] else items)) same ∙ ap (λ (xs : List Captured). taken_in marks ++ xs) (sym (batch_takes failed items)) ∙ sym (taken_more marks m)) h

-- a start
start_takes : (a b c : Bool) → taken_by (cond a Look (cond b Begin (cond c Begin Look))) ≡ []
start_takes true b c = refl
start_takes false true c = refl
start_takes false false true = refl
start_takes false false false = refl

and_none : (b : Bool) → (b && false) ≡ false
and_none true = refl
and_none false = refl

pub tallied_start : (marks : List Mark) (r after : RecorderState) (clock : ℕ) (tally : RunTally) → r.vault.failed ≡ false → after.is_open ≡ true → after.vault.failed ≡ false
    → Tallies true (taken_in marks) tally → IsTallied (marks ++ start_mark r after clock ∷ []) tally
tallied_start marks r after clock tally works opened goes h =
    tallied_begun marks (start_mark r after clock) tally
    (λ i. begins (begin_told r after works (inl opened) i) && is_some (moment_of (goes i) clock))
    (start_takes r.vault.failed after.is_open after.vault.failed) h

pub tallied_refused : (marks : List Mark) (r after : RecorderState) (clock : ℕ) (tally : RunTally) → after ≡ r → r.is_open ≡ false
    → IsTallied marks tally → IsTallied (marks ++ start_mark r after clock ∷ []) tally
tallied_refused marks r after clock tally same closed h =
    let m = start_mark r after clock in
    let did : m.did ≡ Look = ap (λ (x : RecorderState). cond r.vault.failed Look (cond x.is_open Begin (cond x.vault.failed Begin Look))) same ∙ look_told r closed (cases_Bool r.vault.failed) in
    tallied_same marks m tally (ap (λ (d : Did). begins d && is_some m.moment) did) (start_takes r.vault.failed after.is_open after.vault.failed) h

pub tallied_fault : (marks : List Mark) (r after : RecorderState) (clock : ℕ) (tally : RunTally) → after.vault.failed ≡ true
    → IsTallied marks tally → IsTallied (marks ++ start_mark r after clock ∷ []) tally
tallied_fault marks r after clock tally fails h =
    let m = start_mark r after clock in
    tallied_same marks m tally (ap (λ (b : Bool). begins m.did && is_some (moment_of b clock)) fails ∙ and_none (begins m.did)) (start_takes r.vault.failed after.is_open after.vault.failed) h

-- what it says of the history, as long as the media work
pub knows_run : {tells tells_images : Type 0} (before : Before) (opening : Opening) (marks : List Mark) (t0 : ℕ) (r : RecorderState) (disk : Disk tells tells_images) (w : Watched) (tally : RunTally)
    → HasSession before opening marks t0 r disk w → IsAt marks r → IsTallied marks tally → r.vault.failed ≡ false → KnowsRun (state_left opening (events_of opening marks)) tally
knows_run before opening marks t0 r disk w tally s stage h works = by (cases_Bool (is_begun marks))
  where
    left : RunState
    left = state_left opening (events_of opening marks)

    open_is : r.is_open ≡ left.is_open
    open_is = (s.has.works works).open_is

    by : (is_begun marks ≡ true) ⊎ (is_begun marks ≡ false) → KnowsRun left tally
    by (inl begun) = record {
      open_is = h.open_is ∙ begun ∙ sym (stage.open_is begun).0 ∙ open_is;
      tallies = λ is. tallies_so (is_begun marks) true (taken_in marks) left.popped tally begun (sym (s.begun works begun).1) h;
    }
    by (inr none) =
        let idle : r.is_open ≡ false = (stage.idle (sym (begun_whole marks (stage.whole works)) ∙ none)).0 in
        record {
          open_is = h.open_is ∙ none ∙ sym idle ∙ open_is;
          tallies = λ is. absurd (true≢false (sym is ∙ sym open_is ∙ idle));
        }
