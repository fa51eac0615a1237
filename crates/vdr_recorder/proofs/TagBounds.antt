-- How long the source and the line count are that TAG blocks say.
use Rattle.std.proofs.Common.{◌≡◌, ◌≤◌, ◌+◌, cond, eqb, ℕ, Bool, true, false, List, [], ◌∷◌, length, Option, Some, None, option_map, Result, Ok, Err, refl, subst, arith, decimal}
use Rattle.std.specs.Option.{option_or}
use Rattle.std.specs.Prelude.{IfOk, ⊤}
use Rattle.std.specs.List.{after_first, before_first, cons_option}
use Rattle.std.proofs.lemmas.Bool.{and_parts, leb-true}
use Rattle.vdr_tag.specs.Blocks.{block_refusal, block_values}
use Rattle.vdr_tag.specs.Fronts.{behind_block, front, opened}
use Rattle.vdr_tag.specs.Fronts as fronts
use Rattle.vdr_tag.specs.Items.{item_values, items, values_in}
use Rattle.vdr_tag.specs.Parts.{parts}
use Rattle.vdr_tag.specs.Values.{TagValues, all_said, code_named, is_identifier, nothing, over, said_by}
use Rattle.vdr_tag.specs.declared.bad.BadTag.{BadTag}
use Rattle.vdr_tag.specs.declared.grouping.Grouping.{Grouping}
use Rattle.vdr_tag.specs.Values as values
use Rattle.vdr_bytes.specs.Digits.{number}
use Rattle.vdr_bytes.specs.Checksum.{covered}
use Rattle.vdr_values.proofs.Digits.{IsWritten-from_number, length-decimal_written}
use Rattle.vdr_terms.specs.Texts.{are_graphic}
use Rattle.std.proofs.Common.{◌&&◌, leb}

pub record AreShort (v : TagValues) : Type 0 where
  pub source : (w : List ℕ) → v.source ≡ Some w → length w ≤ 15
  pub line : (n : ℕ) → v.line ≡ Some n → length (decimal n) ≤ 3

nothing_short : AreShort nothing
nothing_short = record { source = λ w is. let none : ⊥ = cc in absurd none; line = λ n is. let none : ⊥ = cc in absurd none }

either : {X : Type 0} (P : X → Type 0) (a b : Option X) → ((x : X) → a ≡ Some x → P x) → ((x : X) → b ≡ Some x → P x) → (x : X) → option_or a b ≡ Some x → P x
either P None b first later x is = later x is
either P (Some y) b first later x is = first x is

over_short : (a b : TagValues) → AreShort a → AreShort b → AreShort (over a b)
over_short a b first later = record {
  source = either (λ w. length w ≤ 15) a.source b.source first.source later.source;
  line = either (λ n. length (decimal n) ≤ 3) a.line b.line first.line later.line;
}

identifier_short : (w : List ℕ) → is_identifier w ≡ true → length w ≤ 15
identifier_short w is =
    let outer = and_parts (leb 1 (length w) && leb (length w) 15) (are_graphic w) is in
    leb-true (length w) 15 (and_parts (leb 1 (length w)) (leb (length w) 15) outer.0).1

source_short : (w : List ℕ) → length w ≤ 15 → AreShort (record nothing { source = Some w })
source_short w short = record {
  source = λ x is. let same : w ≡ x = cc in subst (λ (y : List ℕ). length y ≤ 15) same short;
  line = λ n is. let none : ⊥ = cc in absurd none;
}

line_short : (k : ℕ) → length (decimal k) ≤ 3 → AreShort (record nothing { line = Some k })
line_short k short = record {
  source = λ w is. let none : ⊥ = cc in absurd none;
  line = λ n is. let same : k ≡ n = cc in subst (λ (m : ℕ). length (decimal m) ≤ 3) same short;
}

other_short : (v : TagValues) → v.source ≡ None → v.line ≡ None → AreShort v
other_short v source line = record { source = λ w is. let none : ⊥ = cc in absurd none; line = λ n is. let none : ⊥ = cc in absurd none }

abbrev IfShort : Option TagValues → Type 0
IfShort None = ⊤
IfShort (Some v) = AreShort v

source_said : (value : List ℕ) (t : Bool) → is_identifier value ≡ t → IfShort (cond t (Some (record nothing { source = Some value })) None)
source_said value true is = source_short value (identifier_short value is)
source_said value false is = tt

destination_said : (value : List ℕ) (t : Bool) → IfShort (cond t (Some (record nothing { destination = Some value })) None)
destination_said value true = other_short _ refl refl
destination_said value false = tt

line_said : (value : List ℕ) (o : Option ℕ) → number 3 value ≡ o → IfShort (option_map (λ n. record nothing { line = Some n }) o)
line_said value None is = tt
line_said value (Some n) is =
    let w = IsWritten-from_number 3 value n is in
    let few = w.few in
    let long = length-decimal_written value 3 n w (omega arith) in
    line_short n (omega (arith, few, long))

group_said : (o : Option Grouping) → IfShort (option_map (λ g. record nothing { group = Some g }) o)
group_said None = tt
group_said (Some g) = other_short _ refl refl

time_said : (o : Option ℕ) → IfShort (option_map (λ n. record nothing { time = Some n }) o)
time_said None = tt
time_said (Some n) = other_short _ refl refl

relative_said : (o : Option ℕ) → IfShort (option_map (λ n. record nothing { relative = Some n }) o)
relative_said None = tt
relative_said (Some n) = other_short _ refl refl

said_short : (name value : List ℕ) → IfShort (said_by (code_named name) value)
said_short [] value = other_short _ refl refl
said_short (b ∷ c ∷ rest) value = other_short _ refl refl
said_short (b ∷ []) value = source (eqb b 115) refl
  where
    text : eqb b 115 ≡ false → eqb b 100 ≡ false → eqb b 110 ≡ false → eqb b 103 ≡ false → eqb b 99 ≡ false → eqb b 114 ≡ false → (t : Bool) → eqb b 116 ≡ t → IfShort (said_by (code_named (b ∷ [])) value)
    text s d n g c r true e = rw (s, d, n, g, c, r, e) (other_short _ refl refl)
    text s d n g c r false e = rw (s, d, n, g, c, r, e) (other_short _ refl refl)

    relative : eqb b 115 ≡ false → eqb b 100 ≡ false → eqb b 110 ≡ false → eqb b 103 ≡ false → eqb b 99 ≡ false → (t : Bool) → eqb b 114 ≡ t → IfShort (said_by (code_named (b ∷ [])) value)
    relative s d n g c true e = rw (s, d, n, g, c, e) (relative_said (number 18 value))
    relative s d n g c false e = text s d n g c e (eqb b 116) refl

    time : eqb b 115 ≡ false → eqb b 100 ≡ false → eqb b 110 ≡ false → eqb b 103 ≡ false → (t : Bool) → eqb b 99 ≡ t → IfShort (said_by (code_named (b ∷ [])) value)
    time s d n g true e = rw (s, d, n, g, e) (time_said (number 18 value))
    time s d n g false e = relative s d n g e (eqb b 114) refl

    group : eqb b 115 ≡ false → eqb b 100 ≡ false → eqb b 110 ≡ false → (t : Bool) → eqb b 103 ≡ t → IfShort (said_by (code_named (b ∷ [])) value)
    group s d n true e = rw (s, d, n, e) (group_said (values.grouping value))
    group s d n false e = time s d n e (eqb b 99) refl

    line : eqb b 115 ≡ false → eqb b 100 ≡ false → (t : Bool) → eqb b 110 ≡ t → IfShort (said_by (code_named (b ∷ [])) value)
    line s d true e = rw (s, d, e) (line_said value (number 3 value) refl)
    line s d false e = group s d e (eqb b 103) refl

    destination : eqb b 115 ≡ false → (t : Bool) → eqb b 100 ≡ t → IfShort (said_by (code_named (b ∷ [])) value)
    destination s true e = rw (s, e) (destination_said value (is_identifier value))
    destination s false e = line s e (eqb b 110) refl

    source : (t : Bool) → eqb b 115 ≡ t → IfShort (said_by (code_named (b ∷ [])) value)
    source true e = rw e (source_said value (is_identifier value) refl)
    source false e = destination e (eqb b 100) refl

all_short : (texts : List (List ℕ)) → AreShort (all_said (values_in texts))
all_short [] = nothing_short
all_short (part ∷ rest) = by (item_values part) (said_short (before_first (λ b. eqb b 58) part) (after_first (λ b. eqb b 58) part)) (all_short rest)
  where
    by : (o : Option TagValues) → IfShort o → AreShort (all_said (values_in rest)) → AreShort (all_said (cons_option o (values_in rest)))
    by None short more = more
    by (Some v) short more = over_short v (all_said (values_in rest)) short more

block_short : (inside : List ℕ) → AreShort (block_values inside)
unfolding block_values
block_short inside = all_short (items (covered inside))

abbrev pub IsShortFront : Result (TagValues × ℕ) BadTag → Type 0
IsShortFront r = IfOk r (λ (x : TagValues × ℕ). AreShort x.0)

front_short : (parts : List (List ℕ)) → IsShortFront (front parts)
front_short [] = nothing_short
front_short ([] ∷ []) = nothing_short
front_short ((b ∷ part) ∷ parts) = nothing_short
front_short ([] ∷ inside ∷ parts) = by parts (front parts) (front_short parts)
  where
    behind : (refusal : Option BadTag) (later : Result (TagValues × ℕ) BadTag) → IsShortFront later → IsShortFront (behind_block refusal (block_values inside) (length inside + 2) later)
    behind (Some bad) later short = tt
    behind None (Err bad) short = tt
    behind None (Ok later) short = over_short (block_values inside) later.0 (block_short inside) short

    by : (rest : List (List ℕ)) (later : Result (TagValues × ℕ) BadTag) → IsShortFront later → IsShortFront (opened inside rest later)
    by [] later short = tt
    by (part ∷ rest) later short = behind (block_refusal inside) later short

pub tags_short : (line : List ℕ) → IsShortFront (fronts.reading line)
unfolding fronts.reading
tags_short line = front_short (parts 92 line)
