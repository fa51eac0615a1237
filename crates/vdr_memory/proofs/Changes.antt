-- What a write leaves of the media as a disk.
use Rattle.std.proofs.Common.{◌≡◌, ◌⊎◌, inl, inr, ℕ, Bool, false, List, ◌∷◌, length, take, Result, Ok, Err, OnOk, OnErr, refl, sym, ◌∙◌, ap, subst, arith}
use Rattle.std.proofs.lemmas.List.{take_all}
use Rattle.vdr_outside.specs.Disk.{Image, Overwritten, Tears}
use Rattle.vdr_memory.specs.Laws.{overwritten_own}
use Rattle.vdr_memory.specs.Media.{MediaInMemory, FailsToChange, disk_of}
use Rattle.vdr_memory.specs.Steps.{Step, Left, reads_after}
use Rattle.vdr_memory.specs.Steps.Step.{write}
use Rattle.vdr_memory.specs.Traces.{TraceInMemory, Grows, Stays}

-- What is said of contents and steps is said of equal ones.
pub along : (P : Image → List Step → Type 0) (start start' : Image) (steps steps' : List Step) → start' ≡ start → steps' ≡ steps → P start steps → P start' steps'
along P start start' steps steps' a b p = subst (λ (s : Image). P s steps') (sym a) (subst (λ (l : List Step). P start l) (sym b) p)

-- The step went onto the record, or the record stayed.
abbrev pub Moves : MediaInMemory → MediaInMemory → Step → Type 0
Moves old new step = Grows old.trace new.trace step ⊎ Stays old.trace new.trace

stays_same : (a b : TraceInMemory) → b ≡ a → Stays a b
stays_same a b is = record {
  start = ap (λ (t : TraceInMemory). t.start) is;
  steps = ap (λ (t : TraceInMemory). t.steps) is;
  calls = omega (arith, ap (λ (t : TraceInMemory). t.spare_calls) is);
  bytes = omega (arith, ap (λ (t : TraceInMemory). t.spare_bytes) is);
}

pub fails_moves : (old next new : MediaInMemory) (step : Step) → next.trace ≡ old.trace → FailsToChange old next new step → Moves old new step
fails_moves old next new step same (inl r) = inl r.grows
fails_moves old next new step same (inr (inl r)) = inr r.stays
fails_moves old next new step same (inr (inr r)) = inr (stays_same old.trace new.trace (ap (λ (s : MediaInMemory). s.trace) r.rest ∙ same))

-- What a write leaves, done or failed.
pub tears : (old new : MediaInMemory) (m at : ℕ) (bytes : List ℕ) (done : Bool) → Moves old new (write m at bytes done) → Tears m at (length bytes) (disk_of old) (disk_of new)
tears old new m at bytes done (inl grows) i left =
    along (λ start steps. Left start steps i → Overwritten m at (length bytes) (Left old.trace.start old.trace.steps) i) old.trace.start new.trace.start (write m at bytes done ∷ old.trace.steps) new.trace.steps grows.start grows.steps (λ now. now) left
tears old new m at bytes done (inr stays) i left =
    overwritten_own (Left old.trace.start old.trace.steps) i m at (length bytes)
    (along (λ start steps. Left start steps i → Left old.trace.start old.trace.steps i) old.trace.start new.trace.start old.trace.steps new.trace.steps stays.start stays.steps (λ now. now) left)

-- A write that failed reads as before, so its range holds some bytes.
pub torn : (old new : MediaInMemory) (m at : ℕ) (bytes : List ℕ) → Moves old new (write m at bytes false) → Overwritten m at (length bytes) (λ image. image ≡ (disk_of old).reads) (disk_of new).reads
torn old new m at bytes moves = overwritten_own (λ image. image ≡ (disk_of old).reads) (disk_of new).reads m at (length bytes) (elim moves [
  | inl grows ↦ along (λ start steps. reads_after start steps ≡ (disk_of old).reads) old.trace.start new.trace.start (write m at bytes false ∷ old.trace.steps) new.trace.steps grows.start grows.steps refl
  | inr stays ↦ along (λ start steps. reads_after start steps ≡ (disk_of old).reads) old.trace.start new.trace.start old.trace.steps new.trace.steps stays.start stays.steps refl
])

-- A fact of both answers, and one of an error alone.
pub either : {T E A B P : Type 0} (r : Result T E) → OnOk r A → OnErr r B → (A → P) → (B → P) → P
either (Ok x) a b f g = f a
either (Err e) a b f g = g b

pub on_failure : {T E A P : Type 0} (r : Result T E) → OnErr r A → (A → P) → OnErr r P
on_failure (Ok x) a f = tt
on_failure (Err e) a f = f a

-- All the bytes are written.
pub whole_write : (old new : MediaInMemory) (m at : ℕ) (bytes : List ℕ) (done : Bool) → Moves old new (write m at (take (length bytes) bytes) done) → Moves old new (write m at bytes done)
whole_write old new m at bytes done moves = subst (λ (l : List ℕ). Moves old new (write m at l done)) (take_all (length bytes) bytes (omega arith)) moves
