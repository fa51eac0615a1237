-- Words spell one play at most.
use Rattle.std.proofs.Common.{◌≡◌, inl, inr, ℕ, List, drop, length, get_or, ℤ, pos, refl, ap, ◌∙◌, sym, arith}
use Rattle.std.proofs.lemmas.Fmt.{decimal_injective}
use Rattle.vdr_terms.specs.Stamps.{IsStamp, last_stamp}
use Rattle.vdr_entry.specs.Utc.{utc_text, date_text, time_text}
use Rattle.vdr_entry.specs.declared.query.Medium.{Medium}
use Rattle.vdr_entry.specs.declared.query.Medium.TheVariants.{Capsule, LongTerm, Incident}
use Rattle.vdr_control.specs.Orders.{PlainOrder}
use Rattle.vdr_control.specs.Orders.PlainOrder.{Status, Save, Release, Incidents, Play, Evidence, Tell}
use Rattle.vdr_control.specs.Orders.PlainOrder.{Health}
use Rattle.vdr_control.specs.Orders.PlainOrder.{Export}
use Rattle.vdr_control.specs.Plays.{IsMedium, SpellsBound, SpellsPlay, medium_word}

-- Words that spell no such medium and bounds spell no play.

pub no_play : (medium channel from to : List ℕ)
    → ((asked : Medium) (since until : ℤ) → IsMedium asked × (medium ≡ medium_word asked) → SpellsBound (pos 0) from since → SpellsBound (pos last_stamp) to until → ⊥)
    → (order : PlainOrder) → SpellsPlay medium channel from to order → ⊥
no_play medium channel from to none (Play asked name since until) spells = none asked since until spells.0 spells.2 spells.3
no_play medium channel from to none Status spells = spells
no_play medium channel from to none (Save label) spells = spells
no_play medium channel from to none (Release id) spells = spells
no_play medium channel from to none Incidents spells = spells
no_play medium channel from to none Health spells = spells
no_play medium channel from to none (Evidence id) spells = spells
no_play medium channel from to none (Tell asked telling) spells = spells
no_play medium channel from to none (Export asked name since until exporting) spells = spells

-- One medium has a word: the first characters are c, l and i.

initial : List ℕ → ℕ
initial word = get_or word 0 0

pub one_medium : (m n : Medium) → IsMedium m → IsMedium n → medium_word m ≡ medium_word n → m ≡ n
unfolding initial
one_medium Capsule Capsule of_m of_n same = refl
one_medium Capsule LongTerm of_m of_n same = let bad : ⊥ = omega (arith, ap initial same) in absurd bad
one_medium Capsule (Incident b) of_m of_n same = let bad : ⊥ = omega (arith, ap initial same) in absurd bad
one_medium LongTerm Capsule of_m of_n same = let bad : ⊥ = omega (arith, ap initial same) in absurd bad
one_medium LongTerm LongTerm of_m of_n same = refl
one_medium LongTerm (Incident b) of_m of_n same = let bad : ⊥ = omega (arith, ap initial same) in absurd bad
one_medium (Incident a) Capsule of_m of_n same = let bad : ⊥ = omega (arith, ap initial same) in absurd bad
one_medium (Incident a) LongTerm of_m of_n same = let bad : ⊥ = omega (arith, ap initial same) in absurd bad
one_medium (Incident a) (Incident b) of_m of_n same =
    ap (λ (id : ℕ). Incident id) (decimal_injective a b (omega (arith, of_m.1)) (omega (arith, of_n.1)) (ap (λ (ds : List ℕ). drop 9 ds) same))

-- One stamp has a word.

length-utc_text : (utc : ℤ) → length (utc_text utc) ≡ 24
unfolding utc_text date_text time_text
length-utc_text utc = refl

-- No two stamps have one text.
abbrev pub HaveOwnTexts : Type 0
HaveOwnTexts = (a b : ℤ) → IsStamp a → IsStamp b → utc_text a ≡ utc_text b → a ≡ b

pub one_bound : HaveOwnTexts → (unbounded : ℤ) (word : List ℕ) (a b : ℤ) → SpellsBound unbounded word a → SpellsBound unbounded word b → a ≡ b
one_bound own unbounded word a b (inl x) (inl y) = x.1 ∙ sym y.1
one_bound own unbounded word a b (inl x) (inr y) = let bad : ⊥ = omega (arith, ap length (sym x.0 ∙ y.1), length-utc_text b) in absurd bad
one_bound own unbounded word a b (inr x) (inl y) = let bad : ⊥ = omega (arith, ap length (sym x.1 ∙ y.0), length-utc_text a) in absurd bad
one_bound own unbounded word a b (inr x) (inr y) = own a b x.0 y.0 (sym x.1 ∙ y.1)

pub one_play : HaveOwnTexts → (medium channel from to : List ℕ) (a b : PlainOrder) → SpellsPlay medium channel from to a → SpellsPlay medium channel from to b → a ≡ b
one_play own medium channel from to (Play m x f t) (Play n y g u) first second =
    let same_medium : m ≡ n = one_medium m n first.0.0 second.0.0 (sym first.0.1 ∙ second.0.1) in
    let same_name : x ≡ y = sym first.1 ∙ second.1 in
    let same_from : f ≡ g = one_bound own (pos 0) from f g first.2 second.2 in
    let same_to : t ≡ u = one_bound own (pos last_stamp) to t u first.3 second.3 in
    λ i. Play (same_medium i) (same_name i) (same_from i) (same_to i)
one_play own medium channel from to (Play m x f t) Status first second = absurd second
one_play own medium channel from to (Play m x f t) (Save l) first second = absurd second
one_play own medium channel from to (Play m x f t) (Release i) first second = absurd second
one_play own medium channel from to (Play m x f t) Incidents first second = absurd second
one_play own medium channel from to (Play m x f t) Health first second = absurd second
one_play own medium channel from to (Play m x f t) (Evidence i) first second = absurd second
one_play own medium channel from to (Play m x f t) (Tell n telling) first second = absurd second
one_play own medium channel from to (Play m x f t) (Export n y g u exporting) first second = absurd second
one_play own medium channel from to Status b first second = absurd first
one_play own medium channel from to (Save l) b first second = absurd first
one_play own medium channel from to (Release i) b first second = absurd first
one_play own medium channel from to Incidents b first second = absurd first
one_play own medium channel from to Health b first second = absurd first
one_play own medium channel from to (Evidence i) b first second = absurd first
one_play own medium channel from to (Tell n telling) b first second = absurd first
one_play own medium channel from to (Export n y g u exporting) b first second = absurd first
