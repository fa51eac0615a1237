-- Records that are passed by.
use Rattle.std.proofs.Common.{◌≡◌, ◌≤◌, ◌<◌, ◌+◌, ◌-◌, ℕ, true, false, List, [], ◌∷◌, ◌++◌, length, take, drop, get_or, refl, ap, ◌∙◌, sym, subst, arith, append_assoc}
use Rattle.std.proofs.lemmas.List.Elements.{All-nil, All-cons, All-append}
use Rattle.vdr_terms.specs.Records.{Record}
use Rattle.vdr_entry.specs.Reading.{Begins}
use Rattle.vdr_index.specs.declared.span.Span.{Span}
use Rattle.vdr_index.specs.declared.span.Span.TheVariants.{Window, Places}
use Rattle.vdr_segment.specs.declared.step.Walk.{Walk}
use Rattle.vdr_segment.specs.declared.step.Walk.TheVariants.{Batch, End, Broken}
use Rattle.vdr_segment.specs.Walks.{Walks}
use Rattle.vdr_index.specs.declared.head.Head.{Head}
use Rattle.vdr_index.specs.declared.position.Position.{Position}
use Rattle.vdr_index.specs.declared.selection.Selection.{Selection}
use Rattle.vdr_index.specs.Positions.{IsAt, HasAhead, IsBrokenAt, StepsOver}
use Rattle.vdr_index.specs.Selections.{head_of, shown, is_selected, Passes, StartsSelected}
use Rattle.vdr_index.proofs.StepLemmas.{ahead_of_gate, batch_stands, end_ahead, none_ahead, step_within}
use Rattle.vdr_index.proofs.StretchLemmas.{some_begin}
use Rattle.vdr_index.proofs.StepLemmas.{span_length}

-- What is selected is told by the head

module _ (s : Selection) where
  pub shown_selected : (h : Head) (r : Record) → h ≡ head_of r → is_selected s (shown h) ≡ is_selected s r
  shown_selected h r e =
      ap (λ (x : Head). is_selected s (shown x)) e ∙ go s.span
    where
      go : (span : Span) → is_selected (record { span = span; query = s.query }) (shown (head_of r)) ≡ is_selected (record { span = span; query = s.query }) r
      go (Window last seconds) = refl
      go (Places a b) = refl

-- One record, the gate of a batch, and one way after another

module _ (segment : List ℕ) (s : Selection) where
  pub pass_none : (p : Position) → IsAt segment p → Passes segment s p p
  pass_none p at = record {
    stands = at;
    onward = omega arith;
    passed = [];
    none = All-nil (λ (r : Record). is_selected s r ≡ false);
    ahead = λ records. (λ h. (records, refl, h), λ x. subst (λ (rs : List Record). HasAhead segment p rs) (sym x.1) x.2);
    whole = λ broken. refl;
  }

  pass_one : (p next : Position) (r : Record) → p.at < p.to → StepsOver segment p r next → is_selected s r ≡ false → Passes segment s p next
  pass_one p next r more over fails = record {
    stands = over.stands;
    onward = let on = over.onward in omega (arith, on);
    passed = r ∷ [];
    none = All-cons (λ (x : Record). is_selected s x ≡ false) r [] fails (All-nil (λ (x : Record). is_selected s x ≡ false));
    ahead = over.ahead;
    whole = λ broken. absurd (omega (arith, more, broken.ended));
  }

  pass_gate : (p : Position) (from to : ℕ) → p.at ≤ p.to → p.to ≤ p.at → Walks segment p.to (Batch from to) → Passes segment s p (record { at = from; to = to })
  pass_gate p from to order past w = record {
    stands = batch_stands segment p.to from to w;
    onward = let gate = w.2 in omega (arith, gate, order);
    passed = [];
    none = All-nil (λ (r : Record). is_selected s r ≡ false);
    ahead = λ records.
        let g = ahead_of_gate segment p from to past w records in
        (λ h. (records, refl, g.0 h), λ x. g.1 (subst (λ (rs : List Record). HasAhead segment (record { at = from; to = to }) rs) (sym x.1) x.2));
    whole = λ broken. absurd (broken.broken.1 w.0 w.1);
  }

  pass_join : (p q next : Position) → Passes segment s p q → Passes segment s q next → Passes segment s p next
  pass_join p q next a b = record {
    stands = b.stands;
    onward = let first = a.onward in let then = b.onward in omega (arith, first, then);
    passed = a.passed ++ b.passed;
    none = All-append (λ (r : Record). is_selected s r ≡ false) a.passed b.passed a.none b.none;
    ahead = λ records. (
      λ h. let x = (a.ahead records).0 h in
          let y = (b.ahead x.0).0 x.2 in
          (y.0, x.1 ∙ ap (λ (rs : List Record). a.passed ++ rs) y.1 ∙ sym (append_assoc a.passed b.passed y.0), y.2),
      λ z. (a.ahead records).1 (b.passed ++ z.0, z.1 ∙ append_assoc a.passed b.passed z.0, (b.ahead (b.passed ++ z.0)).1 (z.0, refl, z.2)),
    );
    whole = λ broken. let same = a.whole broken in b.whole (subst (IsBrokenAt segment) (sym same) broken) ∙ same;
  }

  pub pass_into : (p q next : Position) (from to : ℕ) → Passes segment s p q → q.to ≤ q.at → Walks segment q.to (Batch from to) → Passes segment s (record { at = from; to = to }) next
      → Passes segment s p next
  pass_into p q next from to a past w b = pass_join p q next a (pass_join q (record { at = from; to = to }) next (pass_gate q from to a.stands.order past w) b)

  -- The record at a position

  module _ (p : Position) (at : IsAt segment p) (more : p.at < p.to) where
    pub begun_here : (r : Record) × (rest : List ℕ) × Begins (take (p.to - p.at) (drop p.at segment)) r rest
    begun_here = some_begin _ (let n = span_length segment p at in omega (arith, n, more)) at.left at.here

    module _ (h : Head) (g : (r : Record) × (rest : List ℕ) × Begins (take (p.to - p.at) (drop p.at segment)) r rest × (h ≡ head_of r)) where
      over_here : StepsOver segment p g.0 (record { at = p.at + h.size; to = p.to })
      over_here = step_within segment p g.0 h.size at more (record { after = g.1; begins = g.2; size_is = ap (λ (x : Head). x.size) g.3 })

      pub passed_here : is_selected s (shown h) ≡ false → Passes segment s p (record { at = p.at + h.size; to = p.to })
      passed_here fails = pass_one p (record { at = p.at + h.size; to = p.to }) g.0 more over_here (sym (shown_selected s h g.0 g.3) ∙ fails)

      pub starts_here : is_selected s (shown h) ≡ true → StartsSelected segment s p
      starts_here passes r rs ahead =
          let x = (over_here.ahead (r ∷ rs)).0 ahead in
          let same : r ≡ g.0 = ap (λ (xs : List Record). get_or xs 0 r) x.1 in
          ap (λ (y : Record). is_selected s y) same ∙ sym (shown_selected s h g.0 g.3) ∙ passes

  pub passed_more : (p q : Position) (h : Head) → Passes segment s p q → (more : q.at < q.to) → ((r : Record) × (rest : List ℕ) × Begins (take (q.to - q.at) (drop q.at segment)) r rest × (h ≡ head_of r))
      → is_selected s (shown h) ≡ false → Passes segment s p (record { at = q.at + h.size; to = q.to })
  passed_more p q h a more g fails = pass_join p q (record { at = q.at + h.size; to = q.to }) a (passed_here q a.stands more h g fails)

  -- None is ahead

  pub none_starts : (p : Position) (w : Walk) → IsAt segment p → p.to ≤ p.at → Walks segment p.to w → ((from to : ℕ) → w ≡ Batch from to → ⊥) → StartsSelected segment s p
  none_starts p (Batch from to) at past walks not r rs ahead = absurd (not from to refl)
  none_starts p End at past walks not r rs ahead = let none = (end_ahead segment p at past walks (r ∷ rs)).0 ahead in absurd (omega (arith, ap length none))
  none_starts p Broken at past walks not r rs ahead = absurd (none_ahead segment p walks (r ∷ rs) ahead)
