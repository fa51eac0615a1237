-- Names that differ: what a list in which none repeats another says of each two, and of a search by name.
use Rattle.std.proofs.Common.{◌≡◌, ◌≢◌, ℕ, ◌<◌, Bool, true, false, List, [], ◌∷◌, ◌++◌, length, get_or, Option, Some, None, AllPairs, refl, sym, ◌∙◌, append_assoc, arith, cond, ap}
use Rattle.std.specs.Prelude.{bytes_eq, slice_get, position}
use Rattle.std.specs.List.{list_any, position_or_len}
use Rattle.std.specs.Bool.{Decides}
use Rattle.std.proofs.lemmas.Bool.{true≢false, lt-ltb}
use Rattle.std.proofs.lemmas.List.{append-nil}
use Rattle.std.proofs.lemmas.List.Folds.{list_any_at}
use Rattle.std.proofs.lemmas.List.Quantifiers.{all_pairs_push}
use Rattle.std.proofs.lemmas.List.Sums.{position_or_len_is}
use Rattle.std.proofs.lemmas.Option.{get_or_from_slice_get, slice_get_within}
use Rattle.std.proofs.lemmas.Slice.Eq.{bytes_eq-Decides}
use Rattle.vdr_config.specs.Configuration.{Selector}
use Rattle.vdr_config.specs.Grammar.{repeat_after, first_repeat, same_name}

abbrev NameDiffers : Selector → Selector → Type 0
NameDiffers s t = s.name ≢ t.name

none_among : (seen : List Selector) (t : Selector) → list_any (same_name t) seen ≡ false → (k : ℕ) (d : Selector) → k < length seen → NameDiffers (get_or seen k d) t
none_among seen t none k d lt same =
    true≢false (sym (list_any_at (same_name t) seen k d lt ((bytes_eq-Decides t.name (get_or seen k d).name).1 (sym same))) ∙ none)

is_new : (b : Bool) (i : ℕ) (later : Option ℕ) → cond b (Some i) later ≡ None → b ≡ false
is_new true i later none = absurd cc
is_new false i later none = refl

differ_after : (seen cs : List Selector) → repeat_after same_name seen cs ≡ None → AllPairs NameDiffers seen → AllPairs NameDiffers (seen ++ cs)
differ_after seen [] none apart = rw (append-nil seen) apart
differ_after seen (c ∷ cs) none apart =
    let new = is_new (list_any (same_name c) seen) _ _ none in
    let longer = all_pairs_push NameDiffers seen c apart (none_among seen c new) in
    let rest : repeat_after same_name (seen ++ c ∷ []) cs ≡ None = rw new at none in
    rw append_assoc at (differ_after (seen ++ c ∷ []) cs rest longer)

-- Where no name repeats an earlier one, each two names differ.
pub differ_from_first_repeat : (cs : List Selector) → first_repeat same_name cs ≡ None → AllPairs NameDiffers cs
differ_from_first_repeat cs none = differ_after [] cs none (λ i j d before within. absurd (omega arith))

not_same : (b : Bool) (xs ys : List ℕ) → Decides b (xs ≡ ys) → xs ≢ ys → b ≡ false
not_same true xs ys decides differ = absurd (differ (decides.0 refl))
not_same false xs ys decides differ = refl

passes_over : (cs : List Selector) (name : List ℕ) (i k : ℕ) (c : Selector) → AllPairs NameDiffers cs → i < length cs → get_or cs i c ≡ c → name ≡ c.name → k < i → bytes_eq (get_or cs k c).name name ≡ false
passes_over cs name i k c apart within here is before =
    not_same _ (get_or cs k c).name name (bytes_eq-Decides (get_or cs k c).name name) (λ e. apart k i c before within (e ∙ is ∙ ap (λ (s : Selector). s.name) (sym here)))

-- A search by the name of the one at i finds it.
pub own_position : (cs : List Selector) (name : List ℕ) (i : ℕ) (c : Selector) → AllPairs NameDiffers cs → slice_get cs i ≡ Some c → name ≡ c.name → position (λ s. bytes_eq s.name name) cs ≡ Some i
own_position cs name i c apart found is =
    let within = slice_get_within cs i c found in
    let here = get_or_from_slice_get cs i c c found in
    let passes : bytes_eq (get_or cs i c).name name ≡ true = (bytes_eq-Decides (get_or cs i c).name name).1 (ap (λ (s : Selector). s.name) here ∙ sym is) in
    let first : position_or_len (λ (s : Selector). bytes_eq s.name name) cs ≡ i =
    position_or_len_is (λ (s : Selector). bytes_eq s.name name) cs i c (omega arith) (λ k before. passes_over cs name i k c apart within here is before) (λ _. passes) in
    rw (first, lt-ltb i (length cs) within) refl
