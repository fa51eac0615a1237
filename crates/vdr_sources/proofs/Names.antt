-- A source's name has fifteen bytes at most.
use Rattle.std.proofs.Common.{◌≡◌, ◌≤◌, ℕ, Bool, true, false, ◌+◌, List, [], ◌∷◌, length, drop, Option, Some, None, IfSome, Result, Ok, Err, refl, arith, option_map, if◌then◌else◌}
use Rattle.std.specs.Prelude.{nat_le, ◌&&◌, ◌==◌, ⊤}
use Rattle.std.specs.List.{after_first, before_first, cons_option}
use Rattle.std.specs.Option.{option_or}
use Rattle.std.proofs.lemmas.Bool.{and_parts, leb-true}
use Rattle.vdr_tag.specs.declared.bad.BadTag.{BadTag}
use Rattle.vdr_tag.specs.declared.grouping.Grouping.{Grouping}
use Rattle.vdr_bytes.specs.Checksum.{covered}
use Rattle.vdr_bytes.specs.Digits.{number}
use Rattle.vdr_tag.specs.Values.{TagValues, all_said, code_named, grouping, is_identifier, nothing, over, said_by}
use Rattle.vdr_tag.specs.Items.{item_values, items, values_in}
use Rattle.vdr_tag.specs.Blocks.{block_refusal, block_values}
use Rattle.vdr_tag.specs.Fronts.{behind_block, front, opened, reading as tag_reading}
use Rattle.vdr_tag.specs.Parts.{parts}
use Rattle.vdr_sentence.specs.declared.bad.Bad.{Bad}
use Rattle.vdr_sentence.specs.Refusals.{SentenceText, reading as sentence_reading}
use Rattle.vdr_datagram.specs.Verdicts.{behind_tags, line_reading, with_sentence}
use Rattle.vdr_sources.specs.Tables.{named, reading_of}

abbrev AtMost : List ℕ → Type 0
AtMost name = length name ≤ 15

abbrev IsShort : TagValues → Type 0
IsShort values = IfSome values.source AtMost

short_or : (x y : Option (List ℕ)) → IfSome x AtMost → IfSome y AtMost → IfSome (option_or x y) AtMost
short_or None y p q = q
short_or (Some n) y p q = p

short_over : (a b : TagValues) → IsShort a → IsShort b → IsShort (over a b)
short_over a b p q = short_or a.source b.source p q

-- What is said, if anything.
abbrev AreShort : Option TagValues → Type 0
AreShort None = ⊤
AreShort (Some values) = IsShort values

identified : (name : List ℕ) (t : Bool) → is_identifier name ≡ t → AreShort (if t then Some (record nothing { source = Some name }) else None)
identified name false e = tt
identified name true e = leb-true (length name) 15 (and_parts (nat_le 1 (length name)) (nat_le (length name) 15) (and_parts (nat_le 1 (length name) && nat_le (length name) 15) _ e).0).1

destined : (name : List ℕ) (t : Bool) → AreShort (if t then Some (record nothing { destination = Some name }) else None)
destined name false = tt
destined name true = tt

by_line : (o : Option ℕ) → AreShort (option_map (λ n. record nothing { line = Some n }) o)
by_line None = tt
by_line (Some n) = tt

by_time : (o : Option ℕ) → AreShort (option_map (λ n. record nothing { time = Some n }) o)
by_time None = tt
by_time (Some n) = tt

by_relative : (o : Option ℕ) → AreShort (option_map (λ n. record nothing { relative = Some n }) o)
by_relative None = tt
by_relative (Some n) = tt

by_group : (o : Option Grouping) → AreShort (option_map (λ g. record nothing { group = Some g }) o)
by_group None = tt
by_group (Some g) = tt

-- Of one thing or another.
either_short : {C : Type 0} (said : C → Option TagValues) (t : Bool) (x y : C) → AreShort (said x) → AreShort (said y) → AreShort (said (if t then x else y))
either_short said true x y p q = p
either_short said false x y p q = q

-- An item of one letter, by the letters in their order.
said_short : (code value : List ℕ) → AreShort (said_by (code_named code) value)
said_short [] value = tt
said_short (b ∷ []) value =
    either_short (λ c. said_by c value) (b == 115) _ _ (identified value (is_identifier value) refl)
    (either_short (λ c. said_by c value) (b == 100) _ _ (destined value (is_identifier value))
    (either_short (λ c. said_by c value) (b == 110) _ _ (by_line (number 3 value))
    (either_short (λ c. said_by c value) (b == 103) _ _ (by_group (grouping value))
    (either_short (λ c. said_by c value) (b == 99) _ _ (by_time (number 18 value))
    (either_short (λ c. said_by c value) (b == 114) _ _ (by_relative (number 18 value))
    (either_short (λ c. said_by c value) (b == 116) _ _ tt tt))))))
said_short (b ∷ c ∷ code) value = tt

one_more : (o : Option TagValues) → AreShort o → (later : List TagValues) → IsShort (all_said later) → IsShort (all_said (cons_option o later))
one_more None p later q = q
one_more (Some values) p later q = short_over values (all_said later) p q

items_short : (parts : List (List ℕ)) → IsShort (all_said (values_in parts))
items_short [] = tt
items_short (part ∷ parts) = one_more (item_values part) (said_short (before_first (λ b. b == 58) part) (after_first (λ b. b == 58) part)) (values_in parts) (items_short parts)

block_short : (inside : List ℕ) → IsShort (block_values inside)
unfolding block_values
block_short inside = items_short (items (covered inside))

-- What the blocks at the front of a line say.
abbrev IsShortRead : Result (TagValues × ℕ) BadTag → Type 0
IsShortRead (Ok read) = IsShort read.0
IsShortRead (Err bad) = ⊤

behind_short : (refusal : Option BadTag) (values : TagValues) (size : ℕ) (later : Result (TagValues × ℕ) BadTag) → IsShort values → IsShortRead later
    → IsShortRead (behind_block refusal values size later)
behind_short (Some bad) values size later p q = tt
behind_short None values size (Err bad) p q = tt
behind_short None values size (Ok later) p q = short_over values later.0 p q

opened_short : (inside : List ℕ) (parts : List (List ℕ)) (later : Result (TagValues × ℕ) BadTag) → IsShortRead later → IsShortRead (opened inside parts later)
opened_short inside [] later q = tt
opened_short inside (part ∷ parts) later q = behind_short (block_refusal inside) (block_values inside) (length inside + 2) later (block_short inside) q

front_short : (parts : List (List ℕ)) → IsShortRead (front parts)
front_short [] = tt
front_short ([] ∷ []) = tt
front_short ([] ∷ inside ∷ parts) = opened_short inside parts (front parts) (front_short parts)
front_short ((b ∷ bytes) ∷ parts) = tt

tags_short : (line : List ℕ) → IsShortRead (tag_reading line)
unfolding tag_reading
tags_short line = front_short (parts 92 line)

named_short : (source : Option (List ℕ)) → IfSome source AtMost → AtMost (named source)
named_short None p = omega arith
named_short (Some name) p = p

sentence_short : (tags : TagValues) → IsShort tags → (read : Result SentenceText Bad) → AtMost (reading_of (with_sentence tags read)).name
sentence_short tags p (Ok sentence) = named_short tags.source p
sentence_short tags p (Err bad) = named_short tags.source p

behind_tags_short : (line : List ℕ) (read : Result (TagValues × ℕ) BadTag) → IsShortRead read → AtMost (reading_of (behind_tags line read)).name
behind_tags_short line (Ok read) p = sentence_short read.0 p (sentence_reading (drop read.1 line))
behind_tags_short line (Err bad) p = named_short None tt

-- The name of each line.
pub line_short : (line : List ℕ) → AtMost (reading_of (line_reading line)).name
line_short line = behind_tags_short line (tag_reading line) (tags_short line)
