-- What leaves a window for good.
use Rattle.std.proofs.Common.{◌≡◌, ◌≤◌, ◌+◌, ℕ, List, [], ◌∷◌, ◌++◌, All, true, sym, ◌∙◌, ap, append_assoc}
use Rattle.std.proofs.lemmas.List.Elements.{All-append, All-nil, All-cons}
use Rattle.vdr_terms.specs.Records.{Record, second}
use Rattle.vdr_review.specs.Review.{review_seconds, PopsOld}

abbrev pub IsOld : ℕ → Record → Type 0
IsOld last r = second r.tick + review_seconds ≤ last

-- so far these went
abbrev pub Gone : ℕ → List Record → List Record → Type 0
Gone last old new = (gone : List Record) × (old ≡ gone ++ new) × All (IsOld last) gone

pub gone_more : (last : ℕ) (old mid new : List Record) → Gone last old mid → PopsOld last true mid new → Gone last old new
gone_more last old mid new g p = (
  g.0 ++ p.0 ∷ [],
  g.1 ∙ (ap (λ (ys : List Record). g.0 ++ ys) p.1 ∙ sym (append_assoc g.0 (p.0 ∷ []) new)),
  All-append (IsOld last) g.0 (p.0 ∷ []) g.2 (All-cons (IsOld last) p.0 [] p.2 (All-nil (IsOld last))),
)
