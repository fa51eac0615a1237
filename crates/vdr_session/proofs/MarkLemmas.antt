-- What one more mark changes of what marks say, and which mark a call leaves.
use Rattle.std.proofs.Common.{◌≡◌, ◌≢◌, ◌⊎◌, inl, inr, ◌++◌, ◌&&◌, ◌||◌, ℕ, Bool, true, false, true≢false, List, [], ◌∷◌, All, Option, Some, None, length, drop, is_some, cond, not, refl, sym, ap, ◌∙◌, append-nil, append_assoc}
use Rattle.std.specs.Prelude.{Result, Ok, Err, OnOk, OnErr, IsErr, is_ok}
use Rattle.std.proofs.lemmas.Bool.{cond-false, cond-true}
use Rattle.std.proofs.lemmas.List.Elements.{All-cons, All-head, All-nil, All-tail}
use Rattle.std.proofs.lemmas.List.Folds.{list_any-append}
use Rattle.std.proofs.Math.Seq.{drop-append_seam}
use Rattle.vdr_terms.specs.Records.{Record}
use Rattle.vdr_core.specs.Histories.{Event}
use Rattle.vdr_core.specs.Recorder.{recorder_after}
use Rattle.vdr_core.specs.Runs.{RunStart}
use Rattle.vdr_core.specs.Taken.{Captured}
use Rattle.vdr_durability.specs.Keeping.{ShowsPrefix, moment_of}
use Rattle.vdr_outside.specs.Disk.{Image}
use Rattle.vdr_recorder.specs.Recordings.{RecorderState}
use Rattle.vdr_session.specs.declared.mark.Did.{Did}
use Rattle.vdr_session.specs.declared.mark.Did.TheVariants.{Begin, Look}
use Rattle.vdr_session.specs.declared.mark.Mark.{Mark}
use Rattle.vdr_session.specs.Events.{added_records, is_started}
use Rattle.vdr_session.specs.Marks.{IsMarkOf, begins, is_begun, taken_by, taken_in}
use Rattle.vdr_session.specs.Standing.{batch_mark}
use Rattle.vdr_session.proofs.Marked.{taken_more}

-- booleans
or_none : (b : Bool) → (b || false) ≡ b
or_none true = refl
or_none false = refl

and_true : (b c : Bool) → c ≡ true → (b && c) ≡ b
and_true true c e = e
and_true false c e = refl

some_true : {X : Type 0} (o : Option X) → o ≢ None → is_some o ≡ true
some_true None ne = absurd (ne refl)
some_true (Some x) ne = refl

-- one more mark
pub started_more : (marks : List Mark) (m : Mark) → is_started (marks ++ m ∷ []) ≡ (is_started marks || begins m.did)
started_more marks m = list_any-append (λ (m : Mark). begins m.did) marks (m ∷ []) ∙ ap (λ (b : Bool). is_started marks || b) (or_none (begins m.did))

pub begun_grows : (marks : List Mark) (m : Mark) → is_begun (marks ++ m ∷ []) ≡ (is_begun marks || (begins m.did && is_some m.moment))
begun_grows marks m = list_any-append (λ (m : Mark). begins m.did && is_some m.moment) marks (m ∷ []) ∙ ap (λ (b : Bool). is_begun marks || b) (or_none (begins m.did && is_some m.moment))

pub all_more : (marks : List Mark) (m : Mark) → All (λ m. m.moment ≢ None) marks → m.moment ≢ None → All (λ m. m.moment ≢ None) (marks ++ m ∷ [])
all_more [] m all some = All-cons (λ (m : Mark). m.moment ≢ None) m [] some (All-nil (λ (m : Mark). m.moment ≢ None))
all_more (x ∷ xs) m all some =
    All-cons (λ (m : Mark). m.moment ≢ None) x (xs ++ m ∷ []) (All-head (λ (m : Mark). m.moment ≢ None) x xs all) (all_more xs m (All-tail (λ (m : Mark). m.moment ≢ None) x xs all) some)

-- where no mark met a fault, a run that was started was begun
pub begun_whole : (marks : List Mark) → All (λ m. m.moment ≢ None) marks → is_begun marks ≡ is_started marks
begun_whole [] all = refl
begun_whole (m ∷ marks) all = λ i. and_true (begins m.did) (is_some m.moment) (some_true m.moment (All-head (λ (m : Mark). m.moment ≢ None) m marks all)) i
    || begun_whole marks (All-tail (λ (m : Mark). m.moment ≢ None) m marks all) i

-- a mark that begins nothing, and one that takes nothing
pub started_same : (marks : List Mark) (m : Mark) → begins m.did ≡ false → is_started (marks ++ m ∷ []) ≡ is_started marks
started_same marks m none = started_more marks m ∙ ap (λ (b : Bool). is_started marks || b) none ∙ or_none (is_started marks)

pub begun_none : (marks : List Mark) (m : Mark) → (begins m.did && is_some m.moment) ≡ false → is_begun (marks ++ m ∷ []) ≡ is_begun marks
begun_none marks m none = begun_grows marks m ∙ ap (λ (b : Bool). is_begun marks || b) none ∙ or_none (is_begun marks)

pub taken_same_by : (marks : List Mark) (m : Mark) → taken_by m.did ≡ [] → taken_in (marks ++ m ∷ []) ≡ taken_in marks
taken_same_by marks m none = taken_more marks m ∙ ap (λ (xs : List Captured). taken_in marks ++ xs) none ∙ append-nil (taken_in marks)

pub no_moment : (failed : Bool) (clock : ℕ) → failed ≡ true → is_some (moment_of failed clock) ≡ false
no_moment failed clock fails = ap (λ (b : Bool). is_some (moment_of b clock)) fails

-- what was made is a front of what is made with further items
pub added : (start : RunStart) (taken items : List Captured) (records : List Record) → (recorder_after start (taken ++ items)).made ≡ (recorder_after start taken).made ++ records
    → added_records start taken items ≡ records
added start taken items records made =
    ap (drop (length (recorder_after start taken).made)) made ∙ drop-append_seam (recorder_after start taken).made records

pub front_shown : {shows : List Event → Image → Type 0} (events more : List Event) (least : ℕ) (image : Image) → ShowsPrefix shows events least image → ShowsPrefix shows (events ++ more) least image
front_shown events more least image h = record {
  first = h.first;
  rest = h.rest ++ more;
  split = ap (λ (es : List Event). es ++ more) h.split ∙ append_assoc h.first h.rest more;
  enough = h.enough;
  shown = h.shown;
}

-- the marks of a start and of a batch
pub begin_told : (r after : RecorderState) → r.vault.failed ≡ false → (after.is_open ≡ true) ⊎ (after.vault.failed ≡ true)
    → cond r.vault.failed Look (cond after.is_open Begin (cond after.vault.failed Begin Look)) ≡ Begin
begin_told r after works (inl opened) =
    cond-false r.vault.failed Look (cond after.is_open Begin (cond after.vault.failed Begin Look)) works
    ∙ cond-true after.is_open Begin (cond after.vault.failed Begin Look) opened
begin_told r after works (inr fails) =
    cond-false r.vault.failed Look (cond after.is_open Begin (cond after.vault.failed Begin Look)) works
    ∙ ap (λ (did : Did). cond after.is_open Begin did) (cond-true after.vault.failed Begin Look fails)
    ∙ both after.is_open
  where
    both : (b : Bool) → cond b Begin Begin ≡ Begin
    both true = refl
    both false = refl

pub look_told : (r : RecorderState) → r.is_open ≡ false → (r.vault.failed ≡ true) ⊎ (r.vault.failed ≡ false) → cond r.vault.failed Look (cond r.is_open Begin (cond r.vault.failed Begin Look)) ≡ Look
look_told r closed (inl fails) = cond-true r.vault.failed Look (cond r.is_open Begin (cond r.vault.failed Begin Look)) fails
look_told r closed (inr works) =
    cond-false r.vault.failed Look (cond r.is_open Begin (cond r.vault.failed Begin Look)) works
    ∙ cond-false r.is_open Begin (cond r.vault.failed Begin Look) closed
    ∙ cond-false r.vault.failed Begin Look works

-- a batch is taken whole where it was taken at all
moment_told : (after : Bool) (clock : ℕ) (b : Bool) → after ≡ b → not b ≡ is_some (moment_of after clock)
moment_told after clock true e = sym (ap (λ (b : Bool). is_some (moment_of b clock)) e)
moment_told after clock false e = sym (ap (λ (b : Bool). is_some (moment_of b clock)) e)

works_told : {T E : Type 0} (after : Bool) (clock : ℕ) (result : Result T E) → OnOk result (after ≡ false) → OnErr result (after ≡ true) → is_ok result ≡ is_some (moment_of after clock)
works_told after clock (Ok x) goes fails = moment_told after clock false goes
works_told after clock (Err e) goes fails = moment_told after clock true fails

pub mark_is : {T E : Type 0} (items : List Captured) (failed after : Bool) (clock : ℕ) (result : Result T E) (works : Bool) → works ≡ is_ok result → (failed ≡ true → IsErr result)
    → OnOk result (after ≡ false) → OnErr result (after ≡ true) → IsMarkOf items works (batch_mark failed items after clock)
mark_is items false after clock result works is none goes fails =
    record { lost = []; split = sym (append-nil items); whole = λ good. refl; told = is ∙ works_told after clock result goes fails }
mark_is items true after clock (Ok x) works is none goes fails = absurd (true≢false (sym (none refl)))
mark_is items true after clock (Err e) works is none goes fails =
    record { lost = items; split = refl; whole = λ good. absurd (true≢false (sym good ∙ is)); told = is ∙ moment_told after clock true fails }

-- a fault after a call has its cause
pub rose_of : {T E : Type 0} (result : Result T E) (fails_after : Bool) (P : Type 0) → OnOk result (fails_after ≡ false) → OnErr result P → fails_after ≡ true → P
rose_of (Ok x) b P works cause fails = absurd (true≢false (sym fails ∙ works))
rose_of (Err e) b P works cause fails = cause
