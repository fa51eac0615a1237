use Rattle.std.proofs.Common.{◌≡◌, ◌<◌, ℕ, List, length, take, Ok, Err, arith}
use Rattle.std.proofs.lemmas.List.{length-take-le}
use Rattle.vdr_config.specs.declared.bad.ConfigBad.{ConfigBad}
use Rattle.vdr_config.specs.Grammar.{configuration}
use Rattle.vdr_tool.proofs.Texts.{whole_text, told_text, checked_text, short_text, refused_weaker}
use Rattle.vdr_tool.proofs.checking.check.Goals as goal

pub returns-in-Ok-read_config-clause-text : goal.returns-in-Ok-read_config-clause-text
returns-in-Ok-read_config-clause-text g c =
    let long : length c.fill.new.into ≡ 16381 = c.fill.auto.into in
    let text : List ℕ = take c.in-Ok.count c.fill.new.into in
    let count : length text ≡ c.in-Ok.count = length-take-le c.in-Ok.count c.fill.new.into c.in-Ok.ensures.bound in
    let is : configuration text ≡ Ok c.in-Ok-read_config.config = c.in-Ok-read_config.ensures.exact in
    let short : length text < 16381 = short_text text c.in-Ok-read_config.config is in (
      c.in-Ok.ensures.end (omega (arith, long, count, short)),
      checked_text _ text _ c.in-Ok-read_config.config
          (whole_text _ _ text c.in-Ok.ensures.bytes (λ l. c.in-Ok.ensures.end (omega (arith, long, count, l)))) is c.text_of.ensures,
    )

pub returns-in-Err-clause-refused : goal.returns-in-Err-clause-refused
returns-in-Err-clause-refused g c =
    let long : length c.fill.new.into ≡ 16381 = c.fill.auto.into in
    let text : List ℕ = take c.in-Ok.count c.fill.new.into in
    let count : length text ≡ c.in-Ok.count = length-take-le c.in-Ok.count c.fill.new.into c.in-Ok.ensures.bound in
    refused_weaker c.stopped_by.result (λ (b : ConfigBad). configuration text ≡ Err b) _
    (λ (b : ConfigBad) (is : configuration text ≡ Err b). told_text _ text (Err b)
    (whole_text _ _ text c.in-Ok.ensures.bytes (λ l. c.in-Ok.ensures.end (omega (arith, long, count, l)))) is)
    (c.stopped_by.ensures.refused (configuration text) c.in-Err.ensures.exact)
