use Rattle.std.proofs.Common.{◌≡◌, ◌<◌, ℕ, List, length, take, Err, arith}
use Rattle.std.proofs.lemmas.List.{length-take-le}
use Rattle.vdr_tool.proofs.FormatLemmas.{config_of_refusal, done_answers, known, read_as, refused_answers}
use Rattle.vdr_tool.proofs.Texts.{read_whole, short_text, told_text, whole_text}
use Rattle.vdr_tool.proofs.formatting.format_media.Goals as goal

pub returns-in_default-format-clause-done : goal.returns-in_default-format-clause-done
returns-in_default-format-clause-done g c = λ is.
    let long : length c.fill.new.into ≡ 16381 = c.fill.auto.into in
    let text : List ℕ = take c.in-Ok.count c.fill.new.into in
    let count : length text ≡ c.in-Ok.count = length-take-le c.in-Ok.count c.fill.new.into c.in-Ok.ensures.bound in
    let read = read_as _ c.in_default-format.ensures.tested.config in
    let short : length text < 16381 = short_text text read.0 read.1 in (
      c.in-Ok.ensures.end (omega (arith, long, count, short)),
      known _ text _ read.0 (read_whole _ _ text c.in-Ok.ensures.bytes (λ l. c.in-Ok.ensures.end (omega (arith, long, count, l))) read.0 read.1) read.1 tt,
    )

pub returns-in_default-format-clause-media : goal.returns-in_default-format-clause-media
returns-in_default-format-clause-media g c =
    let long : length c.fill.new.into ≡ 16381 = c.fill.auto.into in
    let text : List ℕ = take c.in-Ok.count c.fill.new.into in
    let count : length text ≡ c.in-Ok.count = length-take-le c.in-Ok.count c.fill.new.into c.in-Ok.ensures.bound in
    let told = c.in_default-format.ensures in
    done_answers c.args.again _ text _ _ (read_whole _ _ text c.in-Ok.ensures.bytes (λ l. c.in-Ok.ensures.end (omega (arith, long, count, l)))) told.writes.others told.writes.others_meanwhile told.tested.config told.tested.formatted told.tested.small told.done told.moments

pub returns-clause-config : goal.returns-clause-config
returns-clause-config g c =
    let long : length c.fill.new.into ≡ 16381 = c.fill.auto.into in
    let text : List ℕ = take c.in-Ok.count c.fill.new.into in
    let count : length text ≡ c.in-Ok.count = length-take-le c.in-Ok.count c.fill.new.into c.in-Ok.ensures.bound in
    let same = whole_text _ _ text c.in-Ok.ensures.bytes (λ l. c.in-Ok.ensures.end (omega (arith, long, count, l))) in
    rw c.told.ensures.status
    (config_of_refusal c.in-Err.refused _ _ _ c.in-Err.ensures.tested.config (λ bad is. told_text _ text (Err bad) same is) c.told.ensures.line)

pub returns-clause-media : goal.returns-clause-media
returns-clause-media g c =
    let long : length c.fill.new.into ≡ 16381 = c.fill.auto.into in
    let text : List ℕ = take c.in-Ok.count c.fill.new.into in
    let count : length text ≡ c.in-Ok.count = length-take-le c.in-Ok.count c.fill.new.into c.in-Ok.ensures.bound in
    let told = c.in-Err.ensures in
    rw c.told.ensures.status
    (refused_answers c.args.again _ text _ _ (read_whole _ _ text c.in-Ok.ensures.bytes (λ l. c.in-Ok.ensures.end (omega (arith, long, count, l)))) told.writes.others told.writes.others_meanwhile c.in-Err.refused told.tested.config told.tested.formatted told.tested.small told.refused.untouched told.writes.cause.in_all told.moments)
