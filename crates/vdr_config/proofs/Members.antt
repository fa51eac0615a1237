-- The members and items of a value, as the program goes over them.
use Rattle.std.proofs.Common.{◌≡◌, ℕ, List, [], ◌∷◌, length, Bool, true, false, not, cond, Option, Some, None, option_map, String, Global, string_bytes, string_cmp, nat_cmp, Less, refl, sym, ap}
use Rattle.std.proofs.lemmas.Cmp.{nat_list_cmp_total}
use Rattle.std.specs.Prelude.{IfSome}
use Rattle.std.specs.Ordering.{is_lt}
use Rattle.std.specs.Cmp.Lexicographic.{slice_cmp}
use Rattle.std.specs.List.{AllByRecursion}
use Rattle.std.specs.List.Sorted.{IsStrictlySortedBy}
use Rattle.std.specs.List.{find}
use Rattle.std.specs.Map.{keys_of}
use Rattle.serde_json.specs.View.{items_view, members_view}
use Rattle.serde_json.specs.Events.{items_len}
use Rattle.serde_json.specs.declared.value.Value.{Value}
use Rattle.serde_json.proofs.Views.{items_len-items_view}
use Rattle.serde_json.specs.Data.{Data}
use Rattle.serde_json.specs.Find.{as_object}
use Rattle.vdr_config.specs.declared.scope.Scope.{Scope}
use Rattle.vdr_config.specs.declared.form.Shape.{Shape}
use Rattle.vdr_config.specs.Grammar.{only_keys, known_members}
use Rattle.vdr_config.specs.Forms.{is_key, lesser, unknown_key}

-- k is below each key of the members
abbrev IsBelow : List ℕ → List (String Global × Value) → Type 0
IsBelow k es = AllByRecursion (λ (y : String Global). slice_cmp nat_cmp k (string_bytes y) ≡ Less) (keys_of es)

either_above : (b : Bool) (k l m : List ℕ) → slice_cmp nat_cmp k l ≡ Less → slice_cmp nat_cmp k m ≡ Less → slice_cmp nat_cmp k (cond b m l) ≡ Less
either_above true k l m first second = second
either_above false k l m first second = first

unknown_above_at : (b : Bool) (k l : List ℕ) (o : Option (List ℕ)) → slice_cmp nat_cmp k l ≡ Less → IfSome o (λ m. slice_cmp nat_cmp k m ≡ Less) → IfSome (cond b o (Some (lesser l o))) (λ m. slice_cmp nat_cmp k m ≡ Less)
unknown_above_at true k l o here later = later
unknown_above_at false k l None here later = here
unknown_above_at false k l (Some m) here later = either_above (is_lt (slice_cmp nat_cmp m l)) k l m here later

-- what is unknown among members above k is above k
unknown_above : (shape : Shape) (k : List ℕ) (es : List (String Global × Value)) → IsBelow k es → IfSome (unknown_key shape (members_view es)) (λ l. slice_cmp nat_cmp k l ≡ Less)
unknown_above shape k [] below = tt
unknown_above shape k (e ∷ es) below = unknown_above_at (is_key shape (string_bytes e.0)) k (string_bytes e.0) _ below.0 (unknown_above shape k es below.1)

lesser_first : (k : List ℕ) (o : Option (List ℕ)) → IfSome o (λ l. slice_cmp nat_cmp k l ≡ Less) → lesser k o ≡ k
lesser_first k None h = refl
lesser_first k (Some l) h = rw (nat_list_cmp_total.antisymm l k, h) refl

unknown_step : (b : Bool) (k : String Global) (a : Option (String Global)) (c : Option (List ℕ)) → option_map string_bytes a ≡ c → IfSome c (λ l. slice_cmp nat_cmp (string_bytes k) l ≡ Less)
    → option_map string_bytes (cond (not b) (Some k) a) ≡ cond b c (Some (lesser (string_bytes k) c))
unknown_step true k a c e above = e
unknown_step false k a c e above = ap (λ (l : List ℕ). Some l) (sym (lesser_first (string_bytes k) c above))

-- the first key that the program finds is the least of the members
pub unknown_from_entries : (shape : Shape) (es : List (String Global × Value)) → IsStrictlySortedBy string_cmp (keys_of es)
    → option_map string_bytes (find (λ k. not (is_key shape (string_bytes k))) (keys_of es)) ≡ unknown_key shape (members_view es)
unfolding IsStrictlySortedBy
unknown_from_entries shape [] sorted = refl
unknown_from_entries shape (e ∷ es) sorted = unknown_step (is_key shape (string_bytes e.0)) e.0 _ _ (unknown_from_entries shape es sorted.1) (unknown_above shape (string_bytes e.0) es sorted.0)

pub items_view_len : (vs : List Value) → items_len (items_view vs) ≡ length vs
items_view_len vs = items_len-items_view vs

-- what the program finds of the keys is what the object is refused for
pub only_finds : (at : Scope) (shape : Shape) (d : Data) (es : List (String Global × Value)) (o : Option (String Global)) → Some (members_view es) ≡ as_object d
    → IsStrictlySortedBy string_cmp (keys_of es) → o ≡ find (λ k. not (is_key shape (string_bytes k))) (keys_of es) → only_keys at shape d ≡ known_members at (option_map string_bytes o)
unfolding only_keys
only_finds at shape d es o is sorted found = rw (← is, found, unknown_from_entries shape es sorted) refl
