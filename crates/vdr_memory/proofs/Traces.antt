-- The steps of the calls on the record.
use Rattle.std.proofs.Common.{◌≡◌, ◌≤◌, ◌<◌, ◌+◌, ℕ, List, [], ◌∷◌, ◌++◌, length, get_or, map, take, drop, reverse, refl, sym, ◌∙◌, ap, arith}
use Rattle.std.specs.List.{sum_by}
use Rattle.std.proofs.lemmas.List.{take_more, take-append-le, drop-append-le, length-take-le, length-drop, nil_from_length, reverse-append}
use Rattle.std.proofs.lemmas.List.Sums.{sum_by-cons, sum_by-take-le, sum_by_push}
use Rattle.vdr_memory.specs.declared.call.Call.{Call}
use Rattle.vdr_memory.specs.declared.call.Work.{Work}
use Rattle.vdr_memory.specs.declared.call.Work.TheVariants.{Write, Sync}
use Rattle.vdr_memory.specs.Steps.{Step}
use Rattle.vdr_memory.specs.Steps.Step.{write}
use Rattle.vdr_memory.specs.Traces.{length_of, step_of, steps_of, call_of, size}

-- The bytes of all of them.
abbrev pub length_of_all : List Call → ℕ
length_of_all calls = sum_by (λ c. length_of c.work) calls

pub length_of_all-cons : (c : Call) (calls : List Call) → length_of_all (c ∷ calls) ≡ length_of c.work + length_of_all calls
length_of_all-cons c calls = sum_by-cons (λ d. length_of d.work) c calls

-- A call is that of its step.
call_of_step : (m : ℕ) (work : Work) (bytes : List ℕ) (done : _) → length_of work ≤ length bytes → call_of (step_of m work bytes done) ≡ record { medium = m; work = work; done = done }
call_of_step m (Write at n) bytes done fits = ap (λ (k : ℕ). record { medium = m; work = Write at k; done = done }) (length-take-le n bytes fits)
call_of_step m Sync bytes done fits = refl

pub calls_of_steps : (calls : List Call) (bytes : List ℕ) → length_of_all calls ≤ length bytes → map call_of (steps_of calls bytes) ≡ calls
calls_of_steps [] bytes fits = refl
calls_of_steps (c ∷ calls) bytes fits =
    let parts = length_of_all-cons c calls in
    let first : length_of c.work ≤ length bytes = omega (arith, fits, parts) in
    let rest : length_of_all calls ≤ length (drop (length_of c.work) bytes) = omega (arith, fits, parts, length-drop (length_of c.work) bytes) in
    ap (λ (d : Call). d ∷ map call_of (steps_of calls (drop (length_of c.work) bytes))) (call_of_step c.medium c.work bytes c.done first)
    ∙ ap (λ (l : List Call). c ∷ l) (calls_of_steps calls (drop (length_of c.work) bytes) rest)

pub length-steps_of : (calls : List Call) (bytes : List ℕ) → length (steps_of calls bytes) ≡ length calls
length-steps_of [] bytes = refl
length-steps_of (c ∷ calls) bytes = omega (arith, length-steps_of calls (drop (length_of c.work) bytes))

-- Bytes of later calls behind its own change no step.
step_before : (m : ℕ) (work : Work) (bytes more : List ℕ) (done : _) → length_of work ≤ length bytes → step_of m work (bytes ++ more) done ≡ step_of m work bytes done
step_before m (Write at n) bytes more done fits = ap (λ (l : List ℕ). write m at l done) (take-append-le n bytes more fits)
step_before m Sync bytes more done fits = refl

-- One more call, with its bytes behind those of the others.
pub steps_of_more : (calls : List Call) (bytes : List ℕ) (c : Call) (x : List ℕ) → length_of_all calls ≡ length bytes → steps_of (calls ++ c ∷ []) (bytes ++ x) ≡ steps_of calls bytes ++ step_of c.medium c.work x c.done ∷ []
steps_of_more [] bytes c x is = ap (λ (l : List ℕ). step_of c.medium c.work (l ++ x) c.done ∷ []) (nil_from_length bytes (sym is))
steps_of_more (d ∷ calls) bytes c x is =
    let parts = length_of_all-cons d calls in
    let first : length_of d.work ≤ length bytes = omega (arith, is, parts) in
    let rest : length_of_all calls ≡ length (drop (length_of d.work) bytes) = omega (arith, is, parts, length-drop (length_of d.work) bytes) in
    ap (λ (s : Step). s ∷ steps_of (calls ++ c ∷ []) (drop (length_of d.work) (bytes ++ x))) (step_before d.medium d.work bytes x d.done first)
    ∙ ap (λ (l : List ℕ). step_of d.medium d.work bytes d.done ∷ steps_of (calls ++ c ∷ []) l) (drop-append-le (length_of d.work) bytes x first)
    ∙ ap (λ (l : List Step). step_of d.medium d.work bytes d.done ∷ l) (steps_of_more calls (drop (length_of d.work) bytes) c x rest)

-- The same, the newest first.
pub newest_first : (calls calls' : List Call) (bytes bytes' : List ℕ) (c : Call) (x : List ℕ) → length_of_all calls ≡ length bytes → calls' ≡ calls ++ c ∷ [] → bytes' ≡ bytes ++ x
    → reverse (steps_of calls' bytes') ≡ step_of c.medium c.work x c.done ∷ reverse (steps_of calls bytes)
newest_first calls calls' bytes bytes' c x is calls_is bytes_is =
    ap (λ (l : List Call). reverse (steps_of l bytes')) calls_is
    ∙ ap (λ (l : List ℕ). reverse (steps_of (calls ++ c ∷ []) l)) bytes_is
    ∙ ap (λ (l : List Step). reverse l) (steps_of_more calls bytes c x is)
    ∙ reverse-append (steps_of calls bytes) (step_of c.medium c.work x c.done ∷ [])

pub size_of_step : (m : ℕ) (work : Work) (bytes : List ℕ) (done : _) → length_of work ≡ length bytes → size (step_of m work bytes done) ≡ length bytes
size_of_step m (Write at n) bytes done is = length-take-le n bytes (omega (arith, is)) ∙ is
size_of_step m Sync bytes done is = is

-- The bytes of one more call, which stand among those of all.
pub all_more : (calls : List Call) (i : ℕ) (d : Call) → i < length calls → length_of_all (take (i + 1) calls) ≡ length_of_all (take i calls) + length_of (get_or calls i d).work
all_more calls i d within = ap length_of_all (take_more calls i d within) ∙ sum_by_push (λ (c : Call). length_of c.work) (take i calls) (get_or calls i d)

pub all_within : (calls : List Call) (bytes : List ℕ) (i : ℕ) (d : Call) → i < length calls → length_of_all calls ≡ length bytes → length_of_all (take i calls) + length_of (get_or calls i d).work ≤ length bytes
all_within calls bytes i d within is = omega (arith, is, all_more calls i d within, sum_by-take-le (λ (c : Call). length_of c.work) calls (i + 1))
