use Rattle.std.proofs.Common.{◌≡◌, List, ℕ, ◌++◌, length, take, drop, sym, ap, ◌∙◌}
use Rattle.std.proofs.lemmas.List.{take-append-drop}
use Rattle.std.proofs.lemmas.Slice.Eq.{bytes_eq-Decides}
use Rattle.std.proofs.Math.Seq.{take-append_seam}
use Rattle.vdr_memory.proofs.gated_link.begins_with.Goals as goal

pub returns : goal.returns
returns c =
    let text = c.args.text.now in
    let front = c.args.front.now in
    let decides = bytes_eq-Decides front (take (length front) text) in
    let split = take-append-drop (length front) text in (
      (λ t. (drop (length front) text, sym split ∙ ap (λ (l : List ℕ). l ++ drop (length front) text) (sym (decides.0 (sym c.starts_with.ensures.value ∙ t))))),
      (λ b. c.starts_with.ensures.value ∙ decides.1 (sym (ap (λ (l : List ℕ). take (length front) l) b.1 ∙ take-append_seam front b.0))),
    )
