use Rattle.std.proofs.Common.{ℕ, ℤ, List, [], ◌∷◌, ◌++◌, rules, refl, ap, ◌∙◌, w64, of_z}
use Rattle.std.proofs.lemmas.Int.{to_z-of_z}
use mir.Val.{SFits}
use Rattle.vdr_bytes.specs.Numbers.{le_u32, le_u64s}
use Rattle.vdr_segment.specs.Headers.{summary_bytes}
use Rattle.vdr_segment.proofs.HeaderLemmas.{summary_put, same_five}
use Rattle.vdr_segment.proofs.header.write_summary.Goals as goal

pub returns : goal.returns
unfolding summary_bytes
returns c =
    let s = c.args.summary.now in
    let least : SFits w64 s.least_utc = search rules in
    let greatest : SFits w64 s.greatest_utc = search rules in
    let five : List ℕ = s.first_second ∷ s.last_second ∷ c.cast_unsigned.result ∷ c.cast_unsigned-2.result ∷ s.bits ∷ [] in
    summary_put s.count five _ _ _ refl c.told-into c.put_u32.ensures c.put_u64s.ensures
    ∙ ap (λ (ns : List ℕ). le_u32 s.count ++ le_u64s ns)
    (same_five _ _ _ _ _ _ _ _ _ _ refl refl
    (c.cast_unsigned.ensures ∙ ap (λ (z : ℤ). of_z w64 z) (to_z-of_z w64 s.least_utc least))
    (c.cast_unsigned-2.ensures ∙ ap (λ (z : ℤ). of_z w64 z) (to_z-of_z w64 s.greatest_utc greatest)) refl)
