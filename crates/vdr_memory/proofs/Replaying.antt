-- A replay of calls: what is synced later is done as it read, the rest as the choices say.
use Rattle.std.proofs.Common.{◌≡◌, ◌≢◌, ◌≤◌, ◌<◌, ◌+◌, ◌-◌, inl, inr, ℕ, zero, suc, Bool, true, false, List, [], ◌∷◌, ◌++◌, length, get_or, set, take, drop, reverse, refl, sym, ◌∙◌, ap, subst, arith, length-set}
use Rattle.std.proofs.lemmas.Bool.{cases_eq}
use Rattle.std.proofs.lemmas.List.{drop-drop, ext_get_or, get_or-drop, length-map, reverse-append, take-take, take_all, take_more}
use Rattle.vdr_outside.specs.Disk.{Image, content, over, written}
use Rattle.vdr_outside.proofs.Bytes.{content_set_other}
use Rattle.vdr_outside.proofs.Images.{content_written}
use Rattle.vdr_memory.specs.declared.call.Call.{Call}
use Rattle.vdr_memory.specs.declared.call.Work.{Work}
use Rattle.vdr_memory.specs.declared.call.Work.TheVariants.{Write, Sync}
use Rattle.vdr_memory.specs.declared.image.Torn.{Torn}
use Rattle.vdr_memory.specs.Images.{IsLast, image_by, kept_of, left_by, makes_last, torn_by}
use Rattle.vdr_memory.specs.Laws.{reads_sized}
use Rattle.vdr_memory.specs.Steps.{Step, after, reads_after}
use Rattle.vdr_memory.specs.Steps.Step.{write}
use Rattle.vdr_memory.specs.Traces.{length_of, step_of, steps_of}
use Rattle.vdr_memory.proofs.Chosen.{content_mixed}
use Rattle.vdr_memory.proofs.Traces.{length_of_all, length_of_all-cons, length-steps_of}

-- An image in the middle of a replay, at call i. A medium whose last sync is still to come is as it reads; of the others the image is
-- that of the choices.
pub record IsMidway (i : ℕ) (last : List ℕ) (reads chosen image : Image) : Type 0 where
  pub synced : (m : ℕ) → i < get_or last m 0 → content image m ≡ content reads m
  pub open_ : (m : ℕ) → get_or last m 0 ≤ i → content image m ≡ content chosen m
  pub lengths : length chosen ≡ length reads

-- A write does the same to equal contents, and nothing to other media.
content_same : (i j : Image) (n at : ℕ) (x : List ℕ) (m : ℕ) → content i m ≡ content j m → content (written i n at x) m ≡ content (written j n at x) m
content_same i j n at x m same = elim (cases_eq m n) [
  | inl here ↦
      ap (λ (k : ℕ). content (written i n at x) k) here
      ∙ content_written i n at x
      ∙ ap (λ (b : List ℕ). over b at x) (ap (λ (k : ℕ). content i k) (sym here) ∙ same ∙ ap (λ (k : ℕ). content j k) here)
      ∙ sym (content_written j n at x)
      ∙ ap (λ (k : ℕ). content (written j n at x) k) (sym here)
  | inr apart ↦ content_set_other i n m _ apart ∙ same ∙ sym (content_set_other j n m _ apart)
]

-- One more write, to a medium that is synced later.
write_synced : (i : ℕ) (last : List ℕ) (reads chosen image : Image) (torn : Torn) (n at : ℕ) (x : List ℕ) (done : Bool) → i < get_or last n 0 → ((m : ℕ) → get_or last m 0 ≢ i + 1) → IsMidway i last reads chosen image
    → IsMidway (i + 1) last (after (write n at x done) reads) (left_by torn (write n at x done) reads chosen) (after (write n at x done) image)
write_synced i last reads chosen image torn n at x done ahead not_here was = record {
  synced = λ m later. same done m (was.synced m (omega (arith, later)));
  open_ = λ m past.
      let behind : get_or last m 0 ≤ i = omega (arith, past, not_here m) in
      let apart : m ≢ n = λ here. let level : get_or last m 0 ≡ get_or last n 0 = ap (λ (k : ℕ). get_or last k 0) here in omega (arith, ahead, behind, level) in
      elsewhere done m apart ∙ was.open_ m behind ∙ sym (content_set_other chosen n m _ apart);
  lengths = length-set chosen n _ ∙ was.lengths ∙ sym (long done);
}
  where
    same : (b : Bool) (m : ℕ) → content image m ≡ content reads m → content (after (write n at x b) image) m ≡ content (after (write n at x b) reads) m
    same true m is = content_same image reads n at x m is
    same false m is = is

    elsewhere : (b : Bool) (m : ℕ) → m ≢ n → content (after (write n at x b) image) m ≡ content image m
    elsewhere true m apart = content_set_other image n m _ apart
    elsewhere false m apart = refl

    long : (b : Bool) → length (after (write n at x b) reads) ≡ length reads
    long true = length-set reads n _
    long false = refl

-- One more write, to a medium that is not.
write_torn : (i : ℕ) (last : List ℕ) (reads chosen image : Image) (torn : Torn) (n at : ℕ) (x : List ℕ) (done : Bool) → get_or last n 0 ≤ i → ((m : ℕ) → get_or last m 0 ≢ i + 1) → IsMidway i last reads chosen image
    → IsMidway (i + 1) last (after (write n at x done) reads) (left_by torn (write n at x done) reads chosen) (torn_by torn (write n at x done) image)
write_torn i last reads chosen image torn n at x done behind not_here was = record {
  synced = λ m later.
      let apart : m ≢ n = λ here. let level : get_or last m 0 ≡ get_or last n 0 = ap (λ (k : ℕ). get_or last k 0) here in omega (arith, later, behind, level) in
      content_set_other image n m _ apart ∙ was.synced m (omega (arith, later)) ∙ sym (elsewhere done m apart);
  open_ = λ m past. content_same image chosen n at (kept_of torn x) m (was.open_ m (omega (arith, past, not_here m)));
  lengths = length-set chosen n _ ∙ was.lengths ∙ sym (long done);
}
  where
    elsewhere : (b : Bool) (m : ℕ) → m ≢ n → content (after (write n at x b) reads) m ≡ content reads m
    elsewhere true m apart = content_set_other reads n m _ apart
    elsewhere false m apart = refl

    long : (b : Bool) → length (after (write n at x b) reads) ≡ length reads
    long true = length-set reads n _
    long false = refl

-- One more sync.
sync_done : (i : ℕ) (last : List ℕ) (reads chosen image : Image) (n : ℕ) → i < get_or last n 0 → ((m : ℕ) → get_or last m 0 ≡ i + 1 → n ≡ m) → IsMidway i last reads chosen image
    → IsMidway (i + 1) last reads (set chosen n (content reads n)) image
sync_done i last reads chosen image n ahead here was = record {
  synced = λ m later. was.synced m (omega (arith, later));
  open_ = λ m past. elim (cases_eq m n) [
    | inl same ↦
        ap (λ (k : ℕ). content image k) same ∙ was.synced n ahead ∙ sym (content_mixed chosen reads n was.lengths) ∙ ap (λ (k : ℕ). content (set chosen n (content reads n)) k) (sym same)
    | inr apart ↦
        let not_here : get_or last m 0 ≢ i + 1 = λ is. apart (sym (here m is)) in
        was.open_ m (omega (arith, past, not_here)) ∙ sym (content_set_other chosen n m _ apart)
  ];
  lengths = length-set chosen n _ ∙ was.lengths;
}

sync_failed : (i : ℕ) (last : List ℕ) (reads chosen image : Image) → ((m : ℕ) → get_or last m 0 ≢ i + 1) → IsMidway i last reads chosen image → IsMidway (i + 1) last reads chosen image
sync_failed i last reads chosen image not_here was = record {
  synced = λ m later. was.synced m (omega (arith, later));
  open_ = λ m past. was.open_ m (omega (arith, past, not_here m));
  lengths = was.lengths;
}

-- What is known of the last syncs at call i, a call with this work on medium n.
pub record IsAt (i : ℕ) (last : List ℕ) (n : ℕ) (work : Work) (done : Bool) : Type 0 where
  pub ahead : makes_last work done ≡ true → i < get_or last n 0
  pub here : (m : ℕ) → get_or last m 0 ≡ i + 1 → (makes_last work done ≡ true) × (n ≡ m)

-- One more call on a medium that is synced later.
pub next_synced : (i : ℕ) (last : List ℕ) (reads chosen image : Image) (torn : Torn) (n : ℕ) (work : Work) (x : List ℕ) (done : Bool) → IsAt i last n work done → i < get_or last n 0 → IsMidway i last reads chosen image
    → IsMidway (i + 1) last (after (step_of n work x done) reads) (left_by torn (step_of n work x done) reads chosen) (after (step_of n work x done) image)
next_synced i last reads chosen image torn n (Write at k) x done it ahead was = write_synced i last reads chosen image torn n at (take k x) done ahead (λ m is. let no_sync = (it.here m is).0 in cc) was
next_synced i last reads chosen image torn n Sync x true it ahead was = sync_done i last reads chosen image n ahead (λ m is. (it.here m is).1) was
next_synced i last reads chosen image torn n Sync x false it ahead was = sync_failed i last reads chosen image (λ m is. let no_sync = (it.here m is).0 in cc) was

-- One more call on a medium that is not.
pub next_torn : (i : ℕ) (last : List ℕ) (reads chosen image : Image) (torn : Torn) (n : ℕ) (work : Work) (x : List ℕ) (done : Bool) → IsAt i last n work done → get_or last n 0 ≤ i → IsMidway i last reads chosen image
    → IsMidway (i + 1) last (after (step_of n work x done) reads) (left_by torn (step_of n work x done) reads chosen) (torn_by torn (step_of n work x done) image)
next_torn i last reads chosen image torn n (Write at k) x done it behind was = write_torn i last reads chosen image torn n at (take k x) done behind (λ m is. let no_sync = (it.here m is).0 in cc) was
next_torn i last reads chosen image torn n Sync x true it behind was = absurd (omega (arith, behind, it.ahead refl))
next_torn i last reads chosen image torn n Sync x false it behind was = sync_failed i last reads chosen image (λ m is. let no_sync = (it.here m is).0 in cc) was

-- The steps of the first calls, the newest first.
abbrev pub first_steps : List Call → List ℕ → ℕ → List Step
first_steps calls bytes i = reverse (take i (steps_of calls bytes))

-- A step has the bytes from where those of the calls before it end.
step_at : (calls : List Call) (bytes : List ℕ) (i from : ℕ) (d : Call) (e : Step) → i < length calls → from ≡ length_of_all (take i calls)
    → get_or (steps_of calls bytes) i e ≡ step_of (get_or calls i d).medium (get_or calls i d).work (drop from bytes) (get_or calls i d).done
step_at [] bytes i from d e within is = absurd (omega arith)
step_at (c ∷ calls) bytes zero from d e within is = ap (λ (k : ℕ). step_of c.medium c.work (drop k bytes) c.done) (sym is)
step_at (c ∷ calls) bytes (suc i) from d e within is =
    let n = length_of c.work in
    let rest : from - n ≡ length_of_all (take i calls) = omega (arith, is, length_of_all-cons c (take i calls)) in
    let begins : n + (from - n) ≡ from = omega (arith, is, length_of_all-cons c (take i calls)) in
    step_at calls (drop n bytes) i (from - n) d e (omega arith) rest
    ∙ ap (λ (l : List ℕ). step_of (get_or calls i d).medium (get_or calls i d).work l (get_or calls i d).done) (drop-drop (from - n) n bytes ∙ ap (λ (k : ℕ). drop k bytes) begins)

-- The step of its own bytes alone.
step_own : (m : ℕ) (work : Work) (b : List ℕ) (done : Bool) → step_of m work (take (length_of work) b) done ≡ step_of m work b done
step_own m (Write at n) b done = ap (λ (l : List ℕ). write m at l done) (take-take n n b (omega arith))
step_own m Sync b done = refl

pub first_steps_more : (calls : List Call) (bytes : List ℕ) (i from : ℕ) (d : Call) → i < length calls → from ≡ length_of_all (take i calls)
    → first_steps calls bytes (i + 1) ≡ step_of (get_or calls i d).medium (get_or calls i d).work (take (length_of (get_or calls i d).work) (drop from bytes)) (get_or calls i d).done ∷ first_steps calls bytes i
first_steps_more calls bytes i from d within is =
    let c = get_or calls i d in
    let step = step_of c.medium c.work (take (length_of c.work) (drop from bytes)) c.done in
    let same : get_or (steps_of calls bytes) i step ≡ step = step_at calls bytes i from d step within is ∙ sym (step_own c.medium c.work (drop from bytes) c.done) in
    ap (λ (l : List Step). reverse l) (take_more (steps_of calls bytes) i step (omega (arith, within, length-steps_of calls bytes)) ∙ ap (λ (s : Step). take i (steps_of calls bytes) ++ s ∷ []) same)
    ∙ reverse-append (take i (steps_of calls bytes)) (step ∷ [])

-- The choices that are left before call i of n.
pub chosen_more : (choices : List Torn) (rest torn : Torn) (start : Image) (step : Step) (steps : List Step) (n i : ℕ) → i < n → torn ≡ get_or choices (n - 1 - i) rest
    → image_by (drop (n - (i + 1)) choices) rest start (step ∷ steps) ≡ left_by torn step (reads_after start steps) (image_by (drop (n - i) choices) rest start steps)
chosen_more choices rest torn start step steps n i within is =
    let first : get_or (drop (n - (i + 1)) choices) 0 rest ≡ torn = get_or-drop (n - (i + 1)) choices 0 rest ∙ ap (λ (k : ℕ). get_or choices k rest) (omega arith) ∙ sym is in
    let left : drop 1 (drop (n - (i + 1)) choices) ≡ drop (n - i) choices = drop-drop 1 (n - (i + 1)) choices ∙ ap (λ (k : ℕ). drop k choices) (omega arith) in
    ap (λ (t : Torn). left_by t step (reads_after start steps) (image_by (drop 1 (drop (n - (i + 1)) choices)) rest start steps)) first
    ∙ ap (λ (l : List Torn). left_by torn step (reads_after start steps) (image_by l rest start steps)) left

-- A replay of the first calls.
abbrev pub Replays : List Call → List ℕ → List ℕ → List Torn → Torn → Image → ℕ → Image → Type 0
Replays calls bytes last choices rest start i image =
    IsMidway i last (reads_after start (first_steps calls bytes i)) (image_by (drop (length calls - i) choices) rest start (first_steps calls bytes i)) image

pub is_at : (calls : List Call) (last : List ℕ) (i : ℕ) (d : Call) → i < length calls → IsLast calls (length calls) last → IsAt i last (get_or calls i d).medium (get_or calls i d).work (get_or calls i d).done
is_at calls last i d within it = record {
  ahead = λ makes. it.covers i d within makes;
  here = λ m is. let e = it.exact m i d is in (e.1, e.2);
}

pub replays_more : (calls : List Call) (bytes last : List ℕ) (choices : List Torn) (rest torn : Torn) (start : Image) (i from : ℕ) (d : Call) (image image' : Image) → i < length calls → from ≡ length_of_all (take i calls)
    → torn ≡ get_or choices (length calls - 1 - i) rest
    → IsMidway (i + 1) last (after (step_of (get_or calls i d).medium (get_or calls i d).work (take (length_of (get_or calls i d).work) (drop from bytes)) (get_or calls i d).done) (reads_after start (first_steps calls bytes i)))
    (left_by torn (step_of (get_or calls i d).medium (get_or calls i d).work (take (length_of (get_or calls i d).work) (drop from bytes)) (get_or calls i d).done) (reads_after start (first_steps calls bytes i)) (image_by (drop (length calls - i) choices) rest start (first_steps calls bytes i))) image
    → image' ≡ image → Replays calls bytes last choices rest start (i + 1) image'
replays_more calls bytes last choices rest torn start i from d image image' within is torn_is midway same =
    let c = get_or calls i d in
    let step = step_of c.medium c.work (take (length_of c.work) (drop from bytes)) c.done in
    let steps = first_steps calls bytes i in
    let n = length calls in
    subst (λ (l : List Step). IsMidway (i + 1) last (reads_after start l) (image_by (drop (n - (i + 1)) choices) rest start l) image') (sym (first_steps_more calls bytes i from d within is))
    (subst (λ (l : Image). IsMidway (i + 1) last (after step (reads_after start steps)) l image') (sym (chosen_more choices rest torn start step steps n i within torn_is))
    (subst (λ (l : Image). IsMidway (i + 1) last (after step (reads_after start steps)) (left_by torn step (reads_after start steps) (image_by (drop (n - i) choices) rest start steps)) l) (sym same) midway))

-- At first nothing was done.
pub replays_none : (calls : List Call) (bytes last : List ℕ) (choices : List Torn) (rest : Torn) (start : Image) → Replays calls bytes last choices rest start 0 start
replays_none calls bytes last choices rest start = record { synced = λ m ahead. refl; open_ = λ m past. refl; lengths = refl }

-- At the end no sync is to come.
pub replays_all : (calls : List Call) (bytes last : List ℕ) (choices : List Torn) (rest : Torn) (start : Image) (i : ℕ) (image : Image) → length calls ≤ i → i ≤ length calls → IsLast calls (length calls) last → length image ≡ length start → (d : Call)
    → Replays calls bytes last choices rest start i image → image ≡ image_by choices rest start (reverse (steps_of calls bytes))
replays_all calls bytes last choices rest start i image le ge it long d midway =
    let whole : first_steps calls bytes i ≡ reverse (steps_of calls bytes) = ap (λ (l : List Step). reverse l) (take_all i (steps_of calls bytes) (omega (arith, le, length-steps_of calls bytes))) in
    let all : drop (length calls - i) choices ≡ choices = ap (λ (k : ℕ). drop k choices) (let none : length calls - i ≡ 0 = omega (arith, le) in none) in
    let chosen = image_by (drop (length calls - i) choices) rest start (first_steps calls bytes i) in
    ext_get_or [] image chosen (long ∙ sym (midway.lengths ∙ reads_long start (first_steps calls bytes i))) (λ m below. midway.open_ m (not_after m))
    ∙ ap (λ (l : List Torn). image_by l rest start (first_steps calls bytes i)) all
    ∙ ap (λ (l : List Step). image_by choices rest start l) whole
  where
    -- the last sync of a medium is one of the calls
    within : (m k : ℕ) → get_or last m 0 ≡ k → k ≤ i
    within m zero is = omega arith
    within m (suc k) is = omega (arith, le, (it.exact m k d (omega (arith, is))).0)

    not_after : (m : ℕ) → get_or last m 0 ≤ i
    not_after m = within m (get_or last m 0) refl

    reads_long : (s : Image) (steps : List Step) → length (reads_after s steps) ≡ length s
    reads_long s steps = omega (arith, length-map (reads_after s steps) (λ (l : List ℕ). length l), length-map s (λ (l : List ℕ). length l), ap (λ (l : List ℕ). length l) (reads_sized s steps))
