use Rattle.std.proofs.Common.{◌≡◌, ◌++◌, ◌∷◌, List, ℕ, [], ap, ◌∙◌, append_assoc}
use Rattle.std.specs.Prelude.{codes, decimal}
use Rattle.vdr_reply.specs.Texts.{gone_line}
use Rattle.vdr_reply.proofs.going_on.push_gone.Goals as goal

pub returns : goal.returns
unfolding gone_line
returns c =
    let told : c.as_bytes.result.now ≡ decimal c.args.place = c.as_bytes.ensures.value ∙ c.format.ensures.text in
    c.push-3.ensures ∙ ap (λ (xs : List ℕ). xs ++ 10 ∷ []) (c.push-2.ensures ∙ (λ i. c.push.ensures i ++ told i))
    ∙ append_assoc (c.args.piece.now.bytes.items ++ codes "GONE ") (decimal c.args.place) (10 ∷ []) ∙ append_assoc c.args.piece.now.bytes.items (codes "GONE ") (decimal c.args.place ++ 10 ∷ [])
