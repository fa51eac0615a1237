-- What an item adds to what was said before it, by its code.
use Rattle.std.proofs.Common.{◌≡◌, ap, refl, ℕ, true, List, Option, Some, None, Bor, option_copied}
use Rattle.std.specs.Option.{option_or}
use Rattle.vdr_bytes.specs.Digits.{number}
use Rattle.vdr_tag.specs.declared.grouping.Grouping.{Grouping}
use Rattle.vdr_tag.specs.declared.code.Code.{Code}
use Rattle.vdr_tag.specs.declared.code.Code.TheVariants.{Source, Destination, Line, Group, Time, Relative, Text}
use Rattle.vdr_tag.specs.Values.{TagValues, grouping, is_identifier, said_by}
use Rattle.vdr_tag.specs.Items.{over_item}
use Rattle.vdr_tag.proofs.ValueLemmas.{IsCounted, over-nothing}

-- The part that a value was lent of, where nothing was said before.
pub option_copied-or : (before : Option (Bor (List ℕ))) (part : Bor (List ℕ)) (value : List ℕ) → part.now ≡ value → option_copied (option_or before (Some part)) ≡ option_or (option_copied before) (Some value)
option_copied-or None part value h = ap Some h
option_copied-or (Some x) part value h = refl

module _ (said : TagValues) (counted : IsCounted said) (code : Code) where
  pub added_source : (value : List ℕ) → code ≡ Source → is_identifier value ≡ true → over_item said (said_by code value) ≡ record said { source = option_or said.source (Some value) }
  added_source value e test = rw (e, test) (λ i. record (over-nothing said counted i) { source = option_or said.source (Some value) })

  pub added_destination : (value : List ℕ) → code ≡ Destination → is_identifier value ≡ true → over_item said (said_by code value) ≡ record said { destination = option_or said.destination (Some value) }
  added_destination value e test = rw (e, test) (λ i. record (over-nothing said counted i) { destination = option_or said.destination (Some value) })

  pub added_line : (value : List ℕ) (n : ℕ) → code ≡ Line → number 3 value ≡ Some n → over_item said (said_by code value) ≡ record said { line = option_or said.line (Some n) }
  added_line value n e read = rw (e, read) (λ i. record (over-nothing said counted i) { line = option_or said.line (Some n) })

  pub added_group : (value : List ℕ) (g : Grouping) → code ≡ Group → grouping value ≡ Some g → over_item said (said_by code value) ≡ record said { group = option_or said.group (Some g) }
  added_group value g e read = rw (e, read) (λ i. record (over-nothing said counted i) { group = option_or said.group (Some g) })

  pub added_time : (value : List ℕ) (n : ℕ) → code ≡ Time → number 18 value ≡ Some n → over_item said (said_by code value) ≡ record said { time = option_or said.time (Some n) }
  added_time value n e read = rw (e, read) (λ i. record (over-nothing said counted i) { time = option_or said.time (Some n) })

  pub added_relative : (value : List ℕ) (n : ℕ) → code ≡ Relative → number 18 value ≡ Some n → over_item said (said_by code value) ≡ record said { relative = option_or said.relative (Some n) }
  added_relative value n e read = rw (e, read) (λ i. record (over-nothing said counted i) { relative = option_or said.relative (Some n) })

  pub added_text : (value : List ℕ) → code ≡ Text → over_item said (said_by code value) ≡ record said { text = option_or said.text (Some value) }
  added_text value e = rw e (λ i. record (over-nothing said counted i) { text = option_or said.text (Some value) })
