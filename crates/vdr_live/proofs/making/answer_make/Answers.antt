use Rattle.std.proofs.Common.{rules, ◌≡◌, ℕ, List, None, length, take, inr, refl, arith}
use Rattle.std.proofs.lemmas.List.{length-take-le}
use Rattle.vdr_tool.proofs.Texts.{read_whole, short_text, whole_text}
use Rattle.vdr_live.proofs.MakeLemmas.{made_says, makes, unasked_says, unasked_silent}
use Rattle.vdr_live.proofs.making.answer_make.Goals as goal

pub returns-in_default-clause-owed : goal.returns-in_default-clause-owed
returns-in_default-clause-owed g c = makes g.M.Media _ _ _ _ (search rules) (λ rose. absurd (omega (arith, rose))) (inr (λ none. none)) (inr refl)

pub returns-in-Ok-sizes_in-clause-owed : goal.returns-in-Ok-sizes_in-clause-owed
returns-in-Ok-sizes_in-clause-owed g c =
    let long : length c.fill.new.into ≡ 16381 = c.fill.auto.into in
    let text : List ℕ = take c.in-Ok.count c.fill.new.into in
    let count : length text ≡ c.in-Ok.count = length-take-le c.in-Ok.count c.fill.new.into c.in-Ok.ensures.bound in
    let told = c.make_formatted.ensures in
    let same = c.in-Ok-sizes_in.ensures.silent in
    makes g.M.Media _ _ c.make_formatted.result.media c.make_formatted.result.status
    (made_says g.M.Media _ text _ _ _ (whole_text _ _ text c.in-Ok.ensures.bytes (λ l. c.in-Ok.ensures.end (omega (arith, long, count, l))))
    (read_whole _ _ text c.in-Ok.ensures.bytes (λ l. c.in-Ok.ensures.end (omega (arith, long, count, l))))
    (λ config is. let short = short_text text config is in c.in-Ok.ensures.end (omega (arith, long, count, short)))
    c.make_formatted.result.status (told.says c.in-Ok-sizes_in.ensures.asked))
    told.failed told.left (inr (λ i. record { taken = g.O.Sink.taken (same i); faults = g.O.Sink.faults (same i) }))

pub returns-in-Err-clause-owed : goal.returns-in-Err-clause-owed
returns-in-Err-clause-owed g c =
    let long : length c.fill.new.into ≡ 16381 = c.fill.auto.into in
    let text : List ℕ = take c.in-Ok.count c.fill.new.into in
    let count : length text ≡ c.in-Ok.count = length-take-le c.in-Ok.count c.fill.new.into c.in-Ok.ensures.bound in
    let none = c.in-Err.ensures.refused in
    rw c.status.ensures
    (makes g.M.Media _ _ None _
    (unasked_says g.M.Media _ text _ _ None (whole_text _ _ text c.in-Ok.ensures.bytes (λ l. c.in-Ok.ensures.end (omega (arith, long, count, l))))
    (read_whole _ _ text c.in-Ok.ensures.bytes (λ l. c.in-Ok.ensures.end (omega (arith, long, count, l)))) c.in-Err.why none)
    (λ rose. absurd (omega (arith, rose))) (inr (λ n. n)) (unasked_silent text _ _ c.in-Err.why none))
