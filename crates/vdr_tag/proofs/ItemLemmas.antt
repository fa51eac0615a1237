-- Reading the items of a block one after another.
use Rattle.std.proofs.Common.{◌≡◌, ◌∙◌, ap, refl, sym, ℕ, Bool, true, false, ◌&&◌, List, [], ◌∷◌, Option, Some, None}
use Rattle.std.specs.Option.{is_some}
use Rattle.std.specs.List.{cons_option, list_all}
use Rattle.std.proofs.Math.Bool.{and_assoc, and-true}
use Rattle.vdr_tag.specs.declared.bad.BadTag.TheVariants.{Field, Value}
use Rattle.vdr_tag.specs.Values.{TagValues, all_said, over}
use Rattle.vdr_tag.specs.Items.{has_code, item_values, items, items_refusal, over_item, values_in}
use Rattle.vdr_tag.proofs.ValueLemmas.{IsCounted, over-nothing, over_assoc}

abbrev pub is_accepted : List ℕ → Bool
is_accepted item = is_some (item_values item)

-- Before the rest stand items with codes, which say this behind what was said before, and have accepted values where ok is true.
pub record Reads (before : TagValues) (text rest : List ℕ) (said : TagValues) (ok : Bool) : Type 0 where
  pub coded : list_all has_code (items text) ≡ list_all has_code (items rest)
  pub accepted : list_all is_accepted (items text) ≡ (ok && list_all is_accepted (items rest))
  pub values : over before (all_said (values_in (items text))) ≡ over said (all_said (values_in (items rest)))

said_more : (said : TagValues) (item : Option TagValues) (later : List TagValues) → over said (all_said (cons_option item later)) ≡ over (over_item said item) (all_said later)
said_more said None later = refl
said_more said (Some values) later = sym (over_assoc said values (all_said later))

pub Reads-more : (before : TagValues) (text rest more item : List ℕ) (said : TagValues) (ok : Bool) → Reads before text rest said ok → items rest ≡ item ∷ items more → has_code item ≡ true
    → Reads before text more (over_item said (item_values item)) (ok && is_accepted item)
Reads-more before text rest more item said ok h cut code = record {
  coded = h.coded ∙ ap (list_all has_code) cut ∙ ap (λ b. b && list_all has_code (items more)) code;
  accepted = h.accepted ∙ ap (λ xs. ok && list_all is_accepted xs) cut ∙ sym (and_assoc ok (is_accepted item) (list_all is_accepted (items more)));
  values = h.values ∙ ap (λ xs. over said (all_said (values_in xs))) cut ∙ said_more said (item_values item) (values_in (items more));
}

-- The last item is the rest.
pub record ReadsAll (before : TagValues) (text : List ℕ) (said : TagValues) (ok : Bool) : Type 0 where
  pub coded : list_all has_code (items text) ≡ true
  pub accepted : list_all is_accepted (items text) ≡ ok
  pub values : over before (all_said (values_in (items text))) ≡ said

pub ReadsAll-last : (before : TagValues) (text rest : List ℕ) (said : TagValues) (ok : Bool) → Reads before text rest said ok → items rest ≡ rest ∷ [] → has_code rest ≡ true → IsCounted (over_item said (item_values rest))
    → ReadsAll before text (over_item said (item_values rest)) (ok && is_accepted rest)
ReadsAll-last before text rest said ok h cut code counted = record {
  coded = h.coded ∙ ap (list_all has_code) cut ∙ ap (λ b. b && true) code;
  accepted = h.accepted ∙ ap (λ xs. ok && list_all is_accepted xs) cut ∙ ap (λ b. ok && b) (and-true (is_accepted rest));
  values =
      h.values
      ∙ ap (λ xs. over said (all_said (values_in xs))) cut
      ∙ said_more said (item_values rest) []
      ∙ over-nothing (over_item said (item_values rest)) counted;
}

-- An item without a code, among those that are left.
pub refused_code : (before : TagValues) (text rest item : List ℕ) (others : List (List ℕ)) (said : TagValues) (ok : Bool) → Reads before text rest said ok → items rest ≡ item ∷ others → has_code item ≡ false
    → items_refusal (items text) ≡ Some Field
unfolding items_refusal
refused_code before text rest item others said ok h cut code =
    let none : list_all has_code (items text) ≡ false = h.coded ∙ ap (list_all has_code) cut ∙ ap (λ b. b && list_all has_code others) code in
    rw none refl

pub accepted_all : (before : TagValues) (text : List ℕ) (said : TagValues) → ReadsAll before text said true → items_refusal (items text) ≡ None
unfolding items_refusal
accepted_all before text said h = rw (h.coded, h.accepted) refl

pub refused_value : (before : TagValues) (text : List ℕ) (said : TagValues) → ReadsAll before text said false → items_refusal (items text) ≡ Some Value
unfolding items_refusal
refused_value before text said h = rw (h.coded, h.accepted) refl
