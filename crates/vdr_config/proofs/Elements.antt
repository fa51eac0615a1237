-- Reading the elements of an array one after the other, as a loop does.
use Rattle.std.proofs.Common.{◌≡◌, ℕ, suc, ◌+◌, ◌<◌, ◌≤◌, List, [], ◌∷◌, ◌++◌, length, get_or, drop, Result, Ok, Err, refl, sym, ap, ◌∙◌, append_assoc, add-one, drop-cons}
use Rattle.std.proofs.lemmas.List.{append-nil, drop_all}
use Rattle.serde_json.specs.Data.{Data}
use Rattle.serde_json.specs.View.{view, items_view}
use Rattle.serde_json.specs.declared.value.Value.{Value}
use Rattle.vdr_config.specs.declared.bad.ConfigBad.{ConfigBad}
use Rattle.vdr_config.specs.declared.bad.ConfigBad.TheVariants as bad
use Rattle.vdr_config.specs.Grammar.{◌>>=◌, Refuses, each_element}

-- a refusal of a step is one of the whole
pub stops : {A B : Type 0} (e : ConfigBad) (r : Result A ConfigBad) (f : A → Result B ConfigBad) → Refuses e r → Refuses e (r >>= f)
stops bad.NoMemory r f h = tt
stops bad.Json r f h = rw h refl
stops (bad.MissingKey p) r f h = rw h refl
stops (bad.UnknownKey p) r f h = rw h refl
stops (bad.Range p) r f h = rw h refl
stops (bad.Repeated p) r f h = rw h refl
stops (bad.ShortWindow p) r f h = rw h refl
stops (bad.SmallSegment p) r f h = rw h refl
stops bad.TooLong r f h = rw h refl

abbrev pub with_front : {A : Type 0} → List A → Result (List A) ConfigBad → Result (List A) ConfigBad
with_front front read = read >>= λ xs. Ok (front ++ xs)

regroup : {A : Type 0} (front : List A) (x : A) (read : Result (List A) ConfigBad) → with_front front (read >>= λ xs. Ok (x ∷ xs)) ≡ with_front (front ++ x ∷ []) read
regroup front x (Ok xs) = ap Ok (simp append_assoc)
regroup front x (Err e) = refl

bind_assoc : {A B C : Type 0} (r : Result A ConfigBad) (f : A → Result B ConfigBad) (g : B → Result C ConfigBad) → ((r >>= f) >>= g) ≡ (r >>= λ x. f x >>= g)
bind_assoc (Ok x) f g = refl
bind_assoc (Err e) f g = refl

pub goes_on : {A : Type 0} (read : ℕ → Data → Result A ConfigBad) (front : List A) (vs : List Value) (i : ℕ) (v : Value) (x : A) (total : Result (List A) ConfigBad)
    → i < length vs → v ≡ get_or vs i v → read i (view v) ≡ Ok x → with_front front (each_element read i (items_view (drop i vs))) ≡ total
    → with_front (front ++ x ∷ []) (each_element read (i + 1) (items_view (drop (i + 1) vs))) ≡ total
unfolding each_element
goes_on read front vs i v x total lt here is so_far =
    let one : with_front front (each_element read i (items_view (drop i vs))) ≡ with_front (front ++ x ∷ []) (each_element read (suc i) (items_view (drop (suc i) vs))) =
    rw (drop-cons vs i v lt, ← here, is) (regroup front x (each_element read (suc i) (items_view (drop (suc i) vs)))) in
    rw (add-one i) (sym one ∙ so_far)

pub ends : {A : Type 0} (read : ℕ → Data → Result A ConfigBad) (front : List A) (vs : List Value) (i : ℕ) (v : Value) (e : ConfigBad) (total : Result (List A) ConfigBad)
    → i < length vs → v ≡ get_or vs i v → Refuses e (read i (view v)) → with_front front (each_element read i (items_view (drop i vs))) ≡ total → Refuses e total
unfolding each_element
ends read front vs i v e total lt here h so_far =
    let rest = each_element read (suc i) (items_view (drop (suc i) vs)) in
    let one : with_front front (each_element read i (items_view (drop i vs))) ≡ (read i (view v) >>= λ x. with_front front (rest >>= λ xs. Ok (x ∷ xs))) =
    rw (drop-cons vs i v lt, ← here) (bind_assoc (read i (view v)) (λ x. rest >>= λ xs. Ok (x ∷ xs)) (λ xs. Ok (front ++ xs))) in
    rw (← so_far, one) (stops e (read i (view v)) _ h)

pub is_done : {A : Type 0} (read : ℕ → Data → Result A ConfigBad) (front : List A) (vs : List Value) (i : ℕ) (total : Result (List A) ConfigBad)
    → length vs ≤ i → with_front front (each_element read i (items_view (drop i vs))) ≡ total → total ≡ Ok front
unfolding each_element
is_done read front vs i total le so_far = sym so_far ∙ rw (drop_all i vs le) (ap Ok (append-nil front))
