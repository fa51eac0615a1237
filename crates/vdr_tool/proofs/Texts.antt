-- The text of a configuration, as far as it is read, and what is printed of it.
use Rattle.std.proofs.Common.{◌≡◌, ◌≤◌, ◌<◌, ℕ, List, [], ◌++◌, length, Option, None, Some, Result, Ok, Err, sym, ap, ◌∙◌, arith, ⊎_elim, append-nil, length-append}
use Rattle.std.specs.Io.KnownBytes.{Consumes, IsAtEnd}
use Rattle.std.proofs.lemmas.Bool.{cases_lt}
use Rattle.vdr_feed.specs.Reader.{IfKnown}
use Rattle.vdr_config.specs.declared.bad.ConfigBad.{ConfigBad}
use Rattle.vdr_config.specs.declared.bad.ConfigBad.TheVariants.{TooLong}
use Rattle.vdr_config.specs.Configuration.{Configuration}
use Rattle.vdr_config.specs.Grammar.{configuration}
use Rattle.vdr_media.proofs.Rooms.{too_long}
use Rattle.vdr_tool.specs.declared.checking.CheckRefused.{CheckRefused}
use Rattle.vdr_tool.specs.declared.checking.CheckRefused.TheVariants.{Input, Memory, Refused}
use Rattle.vdr_tool.specs.Check.{IfChecked, IfRefused, check_text}

-- what was read tells all of the input
pub whole_text : (first now : Option (List ℕ)) (text : List ℕ) → Consumes first now text → (length text < 16381 → IsAtEnd now)
    → IfKnown first (λ bytes. configuration bytes ≡ configuration text)
whole_text None now text read end = tt
whole_text (Some bytes) None text read end = absurd read
whole_text (Some bytes) (Some rest) text read end = ⊎_elim
    (λ (long : 16380 < length text).
    let more = length-append text rest in
    let same : length bytes ≡ length (text ++ rest) = ap (λ (b : List ℕ). length b) read in
    too_long bytes (omega (arith, long, more, same)) ∙ sym (too_long text long))
    (λ (short : length text ≤ 16380).
    let at_end : rest ≡ [] = end (omega (arith, short)) in
    ap configuration (read ∙ (ap (λ (r : List ℕ). text ++ r) at_end ∙ append-nil text)))
    (cases_lt 16380 (length text))

pub told_text : (first : Option (List ℕ)) (text : List ℕ) (r : Result Configuration ConfigBad) → IfKnown first (λ bytes. configuration bytes ≡ configuration text)
    → configuration text ≡ r → IfKnown first (λ bytes. configuration bytes ≡ r)
told_text None text r same is = tt
told_text (Some bytes) text r same is = same ∙ is

pub checked_text : (first : Option (List ℕ)) (text needs : List ℕ) (c : Configuration) → IfKnown first (λ bytes. configuration bytes ≡ configuration text)
    → configuration text ≡ Ok c → needs ≡ check_text c → IfChecked first (λ t. needs ≡ t)
checked_text None text needs c same is prints = tt
checked_text (Some bytes) text needs c same is prints = (c, same ∙ is, prints)

pub short_text : (text : List ℕ) (c : Configuration) → configuration text ≡ Ok c → length text < 16381
short_text text c is = ⊎_elim
    (λ (long : 16380 < length text). let clash : Ok c ≡ Err TooLong = sym is ∙ too_long text long in let none : ⊥ = cc in absurd none)
    (λ (short : length text ≤ 16380). omega (arith, short))
    (cases_lt 16380 (length text))

-- A configuration that was read is all of the input.
pub read_whole : (first now : Option (List ℕ)) (text : List ℕ) → Consumes first now text → (length text < 16381 → IsAtEnd now) → (c : Configuration) → configuration text ≡ Ok c → IfKnown first (λ bytes. bytes ≡ text)
read_whole None now text read end c is = tt
read_whole (Some bytes) None text read end c is = absurd read
read_whole (Some bytes) (Some rest) text read end c is =
    let at_end : rest ≡ [] = end (short_text text c is) in
    read ∙ (ap (λ (r : List ℕ). text ++ r) at_end ∙ append-nil text)

pub refused_weaker : (s : CheckRefused) (P Q : ConfigBad → Type 0) → ((b : ConfigBad) → P b → Q b) → IfRefused s P → IfRefused s Q
refused_weaker Input P Q f h = tt
refused_weaker Memory P Q f h = tt
refused_weaker (Refused bad) P Q f h = f bad h
