-- One tag in front of what stands behind it.
use Rattle.std.proofs.Common.{◌≡◌, ◌≤◌, ◌-◌, ◌<◌, ℕ, zero, suc, Bool, true, List, length, drop, ap, ◌∙◌, sym, cond, not, nat_lt, arith}
use Rattle.std.specs.Prelude.{Err}
use Rattle.std.proofs.lemmas.Bool.{le-ltb}
use Rattle.vdr_frame.specs.Links.{behind_tags, is_tag, of_type}
use Rattle.vdr_frame.specs.Numbers.{u16_at}
use Rattle.vdr_frame.specs.declared.found.Cause.TheVariants.{Short}

pub behind_tag : (tags kind : ℕ) (rest : List ℕ) → 0 < tags → is_tag kind ≡ true → 4 ≤ length rest
    → behind_tags tags kind rest ≡ behind_tags (tags - 1) (u16_at rest 2) (drop 4 rest)
behind_tag zero kind rest some tag long = absurd (omega arith)
behind_tag (suc tags) kind rest some tag long =
    let fewer : suc tags - 1 ≡ tags = omega arith in
    ap (λ (b : Bool). cond (not b) (of_type kind rest) (cond (nat_lt (length rest) 4) (Err Short) (behind_tags tags (u16_at rest 2) (drop 4 rest)))) tag
    ∙ ap (λ (b : Bool). cond b (Err Short) (behind_tags tags (u16_at rest 2) (drop 4 rest))) (le-ltb (length rest) 4 long)
    ∙ ap (λ (n : ℕ). behind_tags n (u16_at rest 2) (drop 4 rest)) (sym fewer)
