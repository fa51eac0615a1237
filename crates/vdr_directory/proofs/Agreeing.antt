-- From which second to which a segment reaches, and that a summary of all its records agrees with it.
use Rattle.std.proofs.Common.{◌≡◌, ◌≢◌, ◌≤◌, ◌++◌, ℕ, ℤ, pos, negsuc, true, List, [], ◌∷◌, slice_get, All, Option, Some, None, ⊎_elim, refl, sym, ap, ◌∙◌, subst, arith, append-nil}
use Rattle.std.specs.Prelude.{int_le}
use Rattle.std.proofs.lemmas.Bool.{le-leb}
use Rattle.std.proofs.lemmas.List.Elements.{All-head}
use Rattle.std.proofs.lemmas.Option.{none-some, same_Some}
use Rattle.vdr_terms.specs.Records.{Record, last, last_after, second}
use Rattle.vdr_terms.specs.Order.{NeverFalls}
use Rattle.vdr_entry.specs.declared.summary.Summary.{Summary}
use Rattle.vdr_index.specs.Summaries.{IsSummaryOf}
use Rattle.vdr_index.specs.Audits.{IsCovered}
use Rattle.vdr_index.proofs.CoverLemmas.{covered}
use Rattle.vdr_directory.specs.Order.{begin_second, end_second}
use Rattle.vdr_directory.specs.Growing.{tick_of}
use Rattle.vdr_directory.proofs.Runs.{first_to_last, ticks_between}

-- From one segment to the next

end_told : (qs : List Record) (a : ℕ) → end_second None qs ≡ Some a → (r : Record) × (last qs ≡ Some r) × (second r.tick ≡ a)
end_told [] a e = absurd (none-some a e)
end_told (q ∷ qs) a e = (last_after q qs, refl, same_Some (second (last_after q qs).tick) a e)

begin_told : (ps : List Record) (b : ℕ) → begin_second None ps ≡ Some b → (s : Record) × (slice_get ps 0 ≡ Some s) × (second s.tick ≡ b)
begin_told [] b e = absurd (none-some b e)
begin_told (p ∷ ps) b e = (p, refl, same_Some (second p.tick) b e)

-- by their ticks, where neither has a summary
pub seconds_by_ticks : (qo po : Option Summary) (qs ps : List Record) → qo ≡ None → po ≡ None → ((r s : Record) → last qs ≡ Some r → slice_get ps 0 ≡ Some s → r.tick ≤ s.tick)
    → (a b : ℕ) → end_second qo qs ≡ Some a → begin_second po ps ≡ Some b → a ≤ b
seconds_by_ticks qo po qs ps q_none p_none rise a b e f =
    let r = end_told qs a (ap (λ (o : Option Summary). end_second o qs) (sym q_none) ∙ e) in
    let s = begin_told ps b (ap (λ (o : Option Summary). begin_second o ps) (sym p_none) ∙ f) in
    let t = rise r.0 s.0 r.1 s.1 in
    let c = r.2 in
    let d = s.2 in
    omega (arith, t, c, d)

begins_alike : (o : Option Summary) (r : Record) (rs qs : List Record) → begin_second o (r ∷ rs) ≡ begin_second o (r ∷ qs)
begins_alike None r rs qs = refl
begins_alike (Some s) r rs qs = refl

-- with more records behind those of the second
pub seconds_grown : (qo po : Option Summary) (qs ps rs : List Record) → po ≡ None → (ps ≡ [] → qo ≡ None) → ((a b : ℕ) → end_second qo qs ≡ Some a → begin_second po ps ≡ Some b → a ≤ b)
    → NeverFalls (tick_of (last (qs ++ ps))) rs → (a b : ℕ) → end_second qo qs ≡ Some a → begin_second po (ps ++ rs) ≡ Some b → a ≤ b
seconds_grown qo po qs [] rs p_none q_none h falls a b e f =
    seconds_by_ticks qo po qs rs (q_none refl) p_none (ticks_between qs rs (subst (λ (xs : List Record). NeverFalls (tick_of (last xs)) rs) (append-nil qs) falls)) a b e f
seconds_grown qo po qs (p ∷ ps) rs p_none q_none h falls a b e f = h a b e (begins_alike po p ps (ps ++ rs) ∙ f)

-- over a segment with records, which may have a summary
pub seconds_within : (o : Option Summary) (r : Record) (rs : List Record) → NeverFalls 0 (r ∷ rs) → ((s : Summary) → o ≡ Some s → All (IsCovered s) (r ∷ rs))
    → (m n : ℕ) × (begin_second o (r ∷ rs) ≡ Some m) × (end_second o (r ∷ rs) ≡ Some n) × (m ≤ n)
seconds_within None r rs falls all = let le = first_to_last r rs falls.1 in (second r.tick, second (last_after r rs).tick, refl, refl, omega (arith, le))
seconds_within (Some s) r rs falls all =
    let c = All-head (IsCovered s) r rs (all s refl) in
    let a = c.no_earlier in
    let b = c.no_later in
    (s.first_second, s.last_second, refl, refl, omega (arith, a, b))

pub seconds_over : (e f : Option ℕ) (o : Option Summary) (rs : List Record) → rs ≢ [] → NeverFalls 0 rs → ((s : Summary) → o ≡ Some s → All (IsCovered s) rs)
    → ((a b : ℕ) → e ≡ Some a → begin_second o rs ≡ Some b → a ≤ b) → ((a b : ℕ) → end_second o rs ≡ Some a → f ≡ Some b → a ≤ b) → (a b : ℕ) → e ≡ Some a → f ≡ Some b → a ≤ b
seconds_over e f o [] some falls all to from a b x y = absurd (some refl)
seconds_over e f o (r ∷ rs) some falls all to from a b x y =
    let w = seconds_within o r rs falls all in
    let p = to a w.0 x w.2 in
    let q = from w.1 b w.3 y in
    let le = w.4 in
    omega (arith, p, q, le)

-- Of the summary of all records

pub exact_begins : (rs : List Record) (s : Summary) → IsSummaryOf rs s → begin_second (Some s) rs ≡ begin_second None rs
exact_begins [] s is = refl
exact_begins (r ∷ rs) s is = sym is.first_second

pub exact_ends : (rs : List Record) (s : Summary) → IsSummaryOf rs s → end_second (Some s) rs ≡ end_second None rs
exact_ends [] s is = refl
exact_ends (r ∷ rs) s is = sym is.last_second

-- it is within itself
int_le_self : (a : ℤ) → int_le a a ≡ true
int_le_self (pos a) = le-leb a a (omega arith)
int_le_self (negsuc a) = le-leb a a (omega arith)

pub exact_covered : (rs : List Record) (s : Summary) → NeverFalls 0 rs → IsSummaryOf rs s → All (IsCovered s) rs
exact_covered rs s falls is = covered rs s s falls is (record { first = omega arith; ends = omega arith; least = int_le_self s.least_utc; greatest = int_le_self s.greatest_utc; bits = λ k one. one })
