-- Which turns met a fault.
use Rattle.std.proofs.Common.{◌≡◌, ◌≢◌, ◌⊎◌, inl, inr, ◌++◌, ◌||◌, ℕ, Bool, true, false, true≢false, List, [], ◌∷◌, All, Option, Some, None, filter, is_some, not, refl, sym, ap, ◌∙◌}
use Rattle.std.proofs.lemmas.Bool.{cases_Bool, cond-false, cond-true}
use Rattle.std.proofs.lemmas.List.Elements.{All-cons, All-head, All-nil, All-tail}
use Rattle.std.proofs.lemmas.List.Folds.{list_any-append}
use Rattle.vdr_recorder.proofs.Continuing.{whole_with}
use Rattle.vdr_session.specs.declared.mark.Did.{Did}
use Rattle.vdr_session.specs.declared.mark.Did.TheVariants.{Begin, Take, Save, Release, Look, Miss}
use Rattle.vdr_session.specs.declared.mark.Mark.{Mark}
use Rattle.vdr_core.specs.Histories.{Event, Opening}
use Rattle.vdr_core.specs.Taken.{Captured}
use Rattle.vdr_durability.specs.Keeping.{IsWhole}
use Rattle.vdr_session.specs.Events.{event_of, events_along, is_started}
use Rattle.vdr_session.specs.Marks.{begins, has_fault, leads, taken_by}

or_true : (b c : Bool) → c ≡ true → (b || c) ≡ true
or_true true c e = refl
or_true false c e = e

no_moment : (o : Option (ℕ)) → o ≡ None → (not (is_some o) || false) ≡ true
no_moment None e = refl
no_moment (Some t) e = cc

-- a turn without a moment, behind whatever was before
pub fault_last : (marks : List Mark) (m : Mark) {now : List Mark} → now ≡ marks ++ m ∷ [] → m.moment ≡ None → has_fault now ≡ true
fault_last marks m e none =
    ap has_fault e ∙ list_any-append (λ (m : Mark). not (is_some m.moment)) marks (m ∷ [])
    ∙ or_true (has_fault marks) (has_fault (m ∷ [])) (no_moment m.moment none)

some_is : (o : Option ℕ) → o ≢ None → not (is_some o) ≡ false
some_is None ne = absurd (ne refl)
some_is (Some t) ne = refl

-- where each turn has a moment, none met a fault
pub no_fault : (marks : List Mark) → All (λ m. m.moment ≢ None) marks → has_fault marks ≡ false
no_fault [] all = refl
no_fault (m ∷ marks) all =
    (λ i. some_is m.moment (All-head (λ (m : Mark). m.moment ≢ None) m marks all) i || no_fault marks (All-tail (λ (m : Mark). m.moment ≢ None) m marks all) i)

pub none_is : (o : Option ℕ) → false ≡ is_some o → o ≡ None
none_is None e = refl
none_is (Some t) e = cc

-- where no turn leads, no run was started
follower : (did : Did) → leads did ≡ false → begins did ≡ false
follower Begin e = cc
follower (Take items) e = refl
follower (Save label) e = refl
follower (Release id) e = refl
follower Look e = refl
follower Miss e = refl

not_empty : {X : Type 0} (x : X) (xs : List X) → x ∷ xs ≡ [] → ⊥
not_empty x xs e = cc

module _ (leading : Mark → Bool) (same : (m : Mark) → leading m ≡ leads m.did) where
  first : (m : Mark) (marks : List Mark) → filter leading (m ∷ marks) ≡ [] → (leading m ≡ true) ⊎ (leading m ≡ false) → (begins m.did ≡ false) × (filter leading marks ≡ [])
  first m marks e (inl is) = absurd (not_empty m (filter leading marks) (sym (cond-true (leading m) (m ∷ filter leading marks) (filter leading marks) is) ∙ e))
  first m marks e (inr none) = (follower m.did (sym (same m) ∙ none), sym (cond-false (leading m) (m ∷ filter leading marks) (filter leading marks) none) ∙ e)

  pub none_leads : (marks : List Mark) → filter leading marks ≡ [] → is_started marks ≡ false
  none_leads [] e = refl
  none_leads (m ∷ marks) e =
      let f = first m marks e (cases_Bool (leading m)) in
      ap (λ (b : Bool). b || is_started marks) f.0 ∙ none_leads marks f.1

pub started_by : (marks : List Mark) (m : Mark) {now : List Mark} → now ≡ marks ++ m ∷ [] → is_started marks ≡ false → begins m.did ≡ false → is_started now ≡ false
started_by marks m e idle none =
    ap is_started e ∙ list_any-append (λ (m : Mark). begins m.did) marks (m ∷ []) ∙ (λ i. idle i || (none i || false))

-- a turn with a moment adds no fault
pub fault_none : (marks : List Mark) (m : Mark) {now : List Mark} → now ≡ marks ++ m ∷ [] → has_fault marks ≡ false → is_some m.moment ≡ true → has_fault now ≡ false
fault_none marks m e none some =
    ap has_fault e ∙ list_any-append (λ (m : Mark). not (is_some m.moment)) marks (m ∷ []) ∙ (λ i. none i || (not (some i) || false))

or_none : (b c : Bool) → (b || c) ≡ false → (b ≡ false) × (c ≡ false)
or_none true c e = let none : ⊥ = true≢false e in absurd none
or_none false c e = (refl, e)

moment_there : (o : Option ℕ) → not (is_some o) ≡ false → o ≢ None
moment_there None e = absurd (true≢false e)
moment_there (Some t) e = λ none. some_is_not t none
  where
    some_is_not : (t : ℕ) → Some t ≡ None → ⊥
    some_is_not t e = cc

-- where no turn met a fault, each has a moment
pub all_there : (marks : List Mark) → has_fault marks ≡ false → All (λ m. m.moment ≢ None) marks
all_there [] e = All-nil (λ (m : Mark). m.moment ≢ None)
all_there (m ∷ marks) e =
    let parts = or_none (not (is_some m.moment)) (has_fault marks) e in
    All-cons (λ (m : Mark). m.moment ≢ None) m marks (moment_there m.moment parts.0) (all_there marks parts.1)

-- and their history has no pending event
pub whole_along : (opening : Opening) (taken : List Captured) (events : List Event) (marks : List Mark) → IsWhole events → All (λ m. m.moment ≢ None) marks → IsWhole (events_along opening taken events marks)
whole_along opening taken events [] whole all = whole
whole_along opening taken events (m ∷ marks) whole all =
    whole_along opening (taken ++ taken_by m.did) (events ++ event_of opening taken events m ∷ []) marks
    (whole_with events (event_of opening taken events m) whole (All-head (λ (m : Mark). m.moment ≢ None) m marks all)) (All-tail (λ (m : Mark). m.moment ≢ None) m marks all)
