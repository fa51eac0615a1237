-- What is acknowledged of a history with one more event, and its moments.
use Rattle.std.proofs.Common.{ℕ, zero, suc, ◌≤◌, List, [], ◌∷◌, ◌++◌, length, Bool, true, false, Option, Some, None, ◌≡◌, ◌≢◌, ⊎_elim, refl, ap, ◌∙◌, sym, subst, arith, nat_le, append-nil, length-append, true≢false}
use Rattle.std.proofs.lemmas.Bool.{cases_Bool, le-leb, leb-true}
use Rattle.std.proofs.lemmas.List.Elements.{All-head, All-tail, filter_map-append}
use Rattle.std.specs.List.{cons_option}
use Rattle.vdr_core.specs.Histories.{Event}
use Rattle.vdr_durability.specs.Keeping.{RiseFrom, RiseTo, IsWhole, acknowledged, is_by, moment_of, moments, up_to}

-- Where the event counts, all of it is acknowledged.
pub acknowledged_with : (events : List Event) (e : Event) (t : ℕ) → is_by t e.moment ≡ true → acknowledged (events ++ e ∷ []) t ≡ suc (length events)
acknowledged_with [] e t h = ap (up_to 0) h
acknowledged_with (x ∷ xs) e t h = ap (λ (n : ℕ). up_to n (is_by t x.moment)) (acknowledged_with xs e t h)

-- Where it does not count yet, what was acknowledged before.
pub acknowledged_without : (events : List Event) (e : Event) (t : ℕ) → is_by t e.moment ≡ false → acknowledged (events ++ e ∷ []) t ≡ acknowledged events t
acknowledged_without [] e t h = ap (up_to 0) h
acknowledged_without (x ∷ xs) e t h = ap (λ (n : ℕ). up_to n (is_by t x.moment)) (acknowledged_without xs e t h)

up_to_within : (later : ℕ) (b : Bool) (n : ℕ) → later ≤ n → up_to later b ≤ suc n
up_to_within (suc later) b n h = omega arith
up_to_within zero true n h = omega arith
up_to_within zero false n h = omega arith

pub acknowledged_within : (events : List Event) (t : ℕ) → acknowledged events t ≤ length events
acknowledged_within [] t = omega arith
acknowledged_within (e ∷ es) t = up_to_within (acknowledged es t) (is_by t e.moment) (length es) (acknowledged_within es t)

pub moments_none : (events : List Event) (e : Event) → e.moment ≡ None → moments (events ++ e ∷ []) ≡ moments events ++ []
moments_none events e h = filter_map-append (λ (e : Event). e.moment) events (e ∷ []) ∙ ap (λ (o : Option ℕ). moments events ++ cons_option o []) h

pub moments_some : (events : List Event) (e : Event) (m : ℕ) → e.moment ≡ Some m → moments (events ++ e ∷ []) ≡ moments events ++ m ∷ []
moments_some events e m h = filter_map-append (λ (e : Event). e.moment) events (e ∷ []) ∙ ap (λ (o : Option ℕ). moments events ++ cons_option o []) h

pub rise_with : (end later from : ℕ) (xs : List ℕ) → end ≤ later → RiseTo end from xs → RiseTo later from (xs ++ later ∷ [])
rise_with end later from [] h k = (omega arith, omega arith)
rise_with end later from (x ∷ xs) h (p, more) = (p, rise_with end later x xs h more)

pub rise_longer : (end later from : ℕ) (xs : List ℕ) → end ≤ later → RiseTo end from xs → RiseTo later from (xs ++ [])
rise_longer end later from [] h k = omega arith
rise_longer end later from (x ∷ xs) h (p, more) = (p, rise_longer end later x xs h more)

pub whole_last : (events : List Event) (e : Event) → IsWhole (events ++ e ∷ []) → e.moment ≢ None
whole_last [] e h = All-head (λ (e : Event). e.moment ≢ None) e [] h
whole_last (x ∷ xs) e h = whole_last xs e (All-tail (λ (e : Event). e.moment ≢ None) x (xs ++ e ∷ []) h)

pub reached : (o : Option ℕ) (m t : ℕ) → o ≡ Some m → is_by t o ≡ true → m ≤ t
reached o m t e h = leb-true m t (ap (is_by t) (sym e) ∙ h)

pub length_with : (events : List Event) (e : Event) → length (events ++ e ∷ []) ≡ suc (length events)
length_with events e = let a = length-append events (e ∷ []) in omega (arith, a)

rise_below : (end from : ℕ) (xs : List ℕ) → RiseTo end from xs → from ≤ end
rise_below end from [] h = h
rise_below end from (x ∷ xs) h = let a = rise_below end x xs h.1 in omega (arith, a, h.0)

one_up : (a n : ℕ) (b : Bool) → a ≡ n → b ≡ true → up_to a b ≡ suc n
one_up zero n true e r = ap suc e
one_up zero n false e r = absurd (true≢false (sym r))
one_up (suc a) n b e r = ap suc e

-- Where all events have a moment, all are acknowledged from the last one on.
pub all_acknowledged : (end from t : ℕ) (es : List Event) → IsWhole es → RiseTo end from (moments es) → end ≤ t → acknowledged es t ≡ length es
all_acknowledged end from t [] w h le = refl
all_acknowledged end from t (e ∷ es) w h le =
    head (λ m more. all_acknowledged end m t es (All-tail (λ (e : Event). e.moment ≢ None) e es w) more le) e.moment (All-head (λ (e : Event). e.moment ≢ None) e es w) h
  where
    head : ((m : ℕ) → RiseTo end m (moments es) → acknowledged es t ≡ length es) → (o : Option ℕ) → o ≢ None → RiseTo end from (cons_option o (moments es))
        → up_to (acknowledged es t) (is_by t o) ≡ suc (length es)
    head rest None some k = absurd (some refl)
    head rest (Some m) some k =
        let below = rise_below end m (moments es) k.1 in
        one_up (acknowledged es t) (length es) (nat_le m t) (rest m k.1) (le-leb m t (omega (arith, below, le)))

-- One more event takes nothing back.
pub acknowledged_more : (es : List Event) (e : Event) (t : ℕ) → acknowledged es t ≤ acknowledged (es ++ e ∷ []) t
acknowledged_more es e t = ⊎_elim
    (λ (y : is_by t e.moment ≡ true). let a = acknowledged_with es e t y in let b = acknowledged_within es t in omega (arith, a, b))
    (λ (y : is_by t e.moment ≡ false). let a = acknowledged_without es e t y in omega (arith, a))
    (cases_Bool (is_by t e.moment))

-- The moments rise as long as the clock does, from where they rose from, and with that of one more call.
pub rises_on : (events : List Event) (from old new : ℕ) → RiseFrom from old events → old ≤ new → RiseFrom from new events
rises_on events from old new rising le = subst (λ (ms : List ℕ). RiseTo new from ms) (append-nil (moments events)) (rise_longer old new from (moments events) le rising)

pub rises_with : (events : List Event) (from old new : ℕ) (e : Event) (failed : Bool) → RiseFrom from old events → old ≤ new → e.moment ≡ moment_of failed new → RiseFrom from new (events ++ e ∷ [])
rises_with events from old new e true rising le moment = subst (RiseTo new from) (sym (moments_none events e moment)) (rise_longer old new from (moments events) le rising)
rises_with events from old new e false rising le moment = subst (RiseTo new from) (sym (moments_some events e new moment)) (rise_with old new from (moments events) le rising)
