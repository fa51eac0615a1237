use Rattle.std.proofs.Common.{◌≡◌, ◌∙◌, ◌+◌, ◌*◌, ◌++◌, ◌∷◌, [], ℕ, length, map, sym, ap, arith}
use Rattle.std.specs.List.{range_with_len}
use Rattle.std.proofs.lemmas.List.FromFn.{length-map-range_with_len, map-range_with_len_more}
use Rattle.vdr_ais.specs.Bits.{bits_of, field}
use Rattle.vdr_ais.specs.Reports.{character, letters}
use Rattle.vdr_ais.specs.Views.{message_of}
use Rattle.vdr_ais.proofs.name.letters.Goals as goal

pub push-requires : goal.push-requires
push-requires c =
    let f : ℕ → ℕ = λ k. character (field (c.args.first + 6 * k) (c.args.first + 6 * k + 5) (bits_of (message_of c.args.message.now))) in
    omega (arith, ap length c.loop-k.invariant, length-map-range_with_len f 0 c.loop-k.k, c.loop-k-test.true)

pub loop-k-preserved : goal.loop-k-preserved
loop-k-preserved c =
    let f : ℕ → ℕ = λ k. character (field (c.args.first + 6 * k) (c.args.first + 6 * k + 5) (bits_of (message_of c.args.message.now))) in
    let at : 0 + c.loop-k.k ≡ c.loop-k.k = omega arith in
    c.push.ensures.items
    ∙ (λ i. c.loop-k.invariant i ++ (c.character.ensures ∙ ap character c.field.ensures.value) i ∷ [])
    ∙ sym (map-range_with_len_more f 0 c.loop-k.k c.loop-k.k at)

pub returns : goal.returns
unfolding letters
returns c =
    let all : c.loop-k.k ≡ 20 = omega (arith, c.loop-k-test.false) in
    c.loop-k.invariant ∙ ap (λ n. map (λ k. character (field (c.args.first + 6 * k) (c.args.first + 6 * k + 5) (bits_of (message_of c.args.message.now)))) (range_with_len 0 n)) all
