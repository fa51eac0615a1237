-- What stands in a row of a good line: the source that its TAG blocks name is an identifier, the address of its sentence has capital letters and digits.
use Rattle.std.proofs.Common.{◌≡◌, ◌+◌, ℕ, Bool, true, false, List, [], ◌∷◌, length, drop, Option, Some, None, IfSome, Result, Ok, Err, refl, arith, option_map, leb, if◌then◌else◌}
use Rattle.std.specs.Prelude.{◌&&◌, ◌==◌, ⊤}
use Rattle.std.specs.List.{after_first, before_first, cons_option, list_all}
use Rattle.std.specs.Option.{option_or}
use Rattle.std.proofs.lemmas.Bool.{and_parts}
use Rattle.std.proofs.lemmas.Bool.Decides.{nat_tests}
use Rattle.vdr_bytes.specs.Checksum.{covered}
use Rattle.vdr_bytes.specs.Digits.{number}
use Rattle.vdr_sentence.specs.Addresses.{address_of, is_address, is_capital_or_digit}
use Rattle.vdr_sentence.specs.declared.bad.Bad.{Bad}
use Rattle.vdr_sentence.specs.Refusals.{SentenceText, reading as sentence_reading}
use Rattle.vdr_sentence.proofs.Readings.{IsSentence-from_reading}
use Rattle.vdr_tag.specs.declared.bad.BadTag.{BadTag}
use Rattle.vdr_tag.specs.declared.grouping.Grouping.{Grouping}
use Rattle.vdr_tag.specs.Blocks.{block_refusal, block_values}
use Rattle.vdr_tag.specs.Fronts.{behind_block, front, opened, reading as tag_reading}
use Rattle.vdr_tag.specs.Items.{item_values, items, values_in}
use Rattle.vdr_tag.specs.Parts.{parts}
use Rattle.vdr_tag.specs.Values.{TagValues, all_said, code_named, grouping, is_identifier, nothing, over, said_by}
use Rattle.vdr_datagram.specs.declared.tokens.Token.{Token}
use Rattle.vdr_datagram.specs.declared.tokens.Token.TheVariants.{Sentences, Image, Pcm, Other, NoToken}
use Rattle.vdr_datagram.specs.Lines.{cut}
use Rattle.vdr_datagram.specs.Tokens.{token}
use Rattle.vdr_datagram.specs.Verdicts.{LineReading, LineSpan, behind_tags, line_reading, line_spans, spans_from, spans_under, with_sentence}
use Rattle.vdr_datagram.specs.Verdicts.LineReading.{Good, Tag, Sentence}
use Rattle.vdr_rows.proofs.Cells.{IsBare, IsPrinted, all_more, is_bare}

-- ---- the source

abbrev HasNamed : TagValues → Type 0
HasNamed values = IfSome values.source (λ (name : List ℕ). is_identifier name ≡ true)

named_or : (x y : Option (List ℕ)) → IfSome x (λ (name : List ℕ). is_identifier name ≡ true) → IfSome y (λ (name : List ℕ). is_identifier name ≡ true)
    → IfSome (option_or x y) (λ (name : List ℕ). is_identifier name ≡ true)
named_or None y p q = q
named_or (Some n) y p q = p

named_over : (a b : TagValues) → HasNamed a → HasNamed b → HasNamed (over a b)
named_over a b p q = named_or a.source b.source p q

-- What is said, if anything.
abbrev HaveNamed : Option TagValues → Type 0
HaveNamed None = ⊤
HaveNamed (Some values) = HasNamed values

identified : (name : List ℕ) (t : Bool) → is_identifier name ≡ t → HaveNamed (if t then Some (record nothing { source = Some name }) else None)
identified name false e = tt
identified name true e = e

destined : (name : List ℕ) (t : Bool) → HaveNamed (if t then Some (record nothing { destination = Some name }) else None)
destined name false = tt
destined name true = tt

by_line : (o : Option ℕ) → HaveNamed (option_map (λ n. record nothing { line = Some n }) o)
by_line None = tt
by_line (Some n) = tt

by_time : (o : Option ℕ) → HaveNamed (option_map (λ n. record nothing { time = Some n }) o)
by_time None = tt
by_time (Some n) = tt

by_relative : (o : Option ℕ) → HaveNamed (option_map (λ n. record nothing { relative = Some n }) o)
by_relative None = tt
by_relative (Some n) = tt

by_group : (o : Option Grouping) → HaveNamed (option_map (λ g. record nothing { group = Some g }) o)
by_group None = tt
by_group (Some g) = tt

-- Of one thing or another.
either_named : {C : Type 0} (said : C → Option TagValues) (t : Bool) (x y : C) → HaveNamed (said x) → HaveNamed (said y) → HaveNamed (said (if t then x else y))
either_named said true x y p q = p
either_named said false x y p q = q

-- An item of one letter, by the letters in their order.
said_named : (code value : List ℕ) → HaveNamed (said_by (code_named code) value)
said_named [] value = tt
said_named (b ∷ []) value =
    either_named (λ c. said_by c value) (b == 115) _ _ (identified value (is_identifier value) refl)
    (either_named (λ c. said_by c value) (b == 100) _ _ (destined value (is_identifier value))
    (either_named (λ c. said_by c value) (b == 110) _ _ (by_line (number 3 value))
    (either_named (λ c. said_by c value) (b == 103) _ _ (by_group (grouping value))
    (either_named (λ c. said_by c value) (b == 99) _ _ (by_time (number 18 value))
    (either_named (λ c. said_by c value) (b == 114) _ _ (by_relative (number 18 value))
    (either_named (λ c. said_by c value) (b == 116) _ _ tt tt))))))
said_named (b ∷ c ∷ code) value = tt

one_more : (o : Option TagValues) → HaveNamed o → (later : List TagValues) → HasNamed (all_said later) → HasNamed (all_said (cons_option o later))
one_more None p later q = q
one_more (Some values) p later q = named_over values (all_said later) p q

items_named : (parts : List (List ℕ)) → HasNamed (all_said (values_in parts))
items_named [] = tt
items_named (part ∷ parts) = one_more (item_values part) (said_named (before_first (λ b. b == 58) part) (after_first (λ b. b == 58) part)) (values_in parts) (items_named parts)

block_named : (inside : List ℕ) → HasNamed (block_values inside)
unfolding block_values
block_named inside = items_named (items (covered inside))

-- What the blocks at the front of a line say.
abbrev IsNamedRead : Result (TagValues × ℕ) BadTag → Type 0
IsNamedRead (Ok read) = HasNamed read.0
IsNamedRead (Err bad) = ⊤

behind_named : (refusal : Option BadTag) (values : TagValues) (size : ℕ) (later : Result (TagValues × ℕ) BadTag) → HasNamed values → IsNamedRead later
    → IsNamedRead (behind_block refusal values size later)
behind_named (Some bad) values size later p q = tt
behind_named None values size (Err bad) p q = tt
behind_named None values size (Ok later) p q = named_over values later.0 p q

opened_named : (inside : List ℕ) (parts : List (List ℕ)) (later : Result (TagValues × ℕ) BadTag) → IsNamedRead later → IsNamedRead (opened inside parts later)
opened_named inside [] later q = tt
opened_named inside (part ∷ parts) later q = behind_named (block_refusal inside) (block_values inside) (length inside + 2) later (block_named inside) q

front_named : (parts : List (List ℕ)) → IsNamedRead (front parts)
front_named [] = tt
front_named ([] ∷ []) = tt
front_named ([] ∷ inside ∷ parts) = opened_named inside parts (front parts) (front_named parts)
front_named ((b ∷ bytes) ∷ parts) = tt

tags_named : (line : List ℕ) → IsNamedRead (tag_reading line)
unfolding tag_reading
tags_named line = front_named (parts 92 line)

graphic : (b : ℕ) → (leb 0x21 b && leb b 0x7E) ≡ true → leb 32 b ≡ true
graphic b h = grind (arith, nat_tests)

source_printed : (source : Option (List ℕ)) → IfSome source (λ (name : List ℕ). is_identifier name ≡ true) → IfSome source IsPrinted
source_printed None p = tt
source_printed (Some name) p =
    record { each = all_more (λ b. leb 0x21 b && leb b 0x7E) (λ b. leb 32 b) graphic name (and_parts (leb 1 (length name) && leb (length name) 15) _ p).1 }

-- ---- the address

bare_letter : (b : ℕ) → is_capital_or_digit b ≡ true → is_bare b ≡ true
bare_letter b h = grind (arith, nat_tests)

bare_address : (address : List ℕ) → is_address address ≡ true → IsBare address
bare_address address h = record { each = all_more is_capital_or_digit is_bare bare_letter address (and_parts (list_all is_capital_or_digit address) _ h).0 }

-- ---- lines

pub record IsGood (source : Option (List ℕ)) (address : List ℕ) : Type 0 where
  pub named : IfSome source IsPrinted
  pub addressed : IsBare address

abbrev pub IsRead : LineReading → Type 0
IsRead (Good tags sentence) = IsGood tags.source (address_of sentence.content)
IsRead (Tag bad) = ⊤
IsRead (Sentence tags bad) = ⊤

sentence_read : (tags : TagValues) → HasNamed tags → (bytes : List ℕ) (read : Result SentenceText Bad) → sentence_reading bytes ≡ read → IsRead (with_sentence tags read)
sentence_read tags p bytes (Ok sentence) e =
    record { named = source_printed tags.source p; addressed = bare_address (address_of sentence.content) (IsSentence-from_reading bytes sentence e).legal.address }
sentence_read tags p bytes (Err bad) e = tt

tags_read : (line : List ℕ) (read : Result (TagValues × ℕ) BadTag) → IsNamedRead read → IsRead (behind_tags line read)
tags_read line (Ok read) p = sentence_read read.0 p (drop read.1 line) (sentence_reading (drop read.1 line)) refl
tags_read line (Err bad) p = tt

line_read : (line : List ℕ) → IsRead (line_reading line)
line_read line = tags_read line (tag_reading line) (tags_named line)

abbrev pub AreRead : List LineSpan → Type 0
AreRead [] = ⊤
AreRead (span ∷ spans) = IsRead span.verdict × AreRead spans

spans_read : (at : ℕ) (lines : List (List ℕ)) → AreRead (spans_from at lines)
spans_read at [] = tt
spans_read at (line ∷ lines) = (line_read line, spans_read (at + length line) lines)

under_read : (t : Token) (bytes : List ℕ) → AreRead (spans_under t bytes)
under_read Sentences bytes = spans_read 6 (cut (drop 6 bytes))
under_read Image bytes = tt
under_read Pcm bytes = tt
under_read Other bytes = tt
under_read NoToken bytes = tt

pub lines_read : (payload : List ℕ) → AreRead (line_spans payload)
lines_read payload = under_read (token payload) payload
