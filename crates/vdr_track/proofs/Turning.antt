-- The steps of a datagram's lines, one after another.
use Rattle.std.proofs.Common.{◌≡◌, ◌<◌, ◌+◌, ◌∙◌, ◌++◌, ◌∷◌, [], ℕ, List, Option, length, map, take, drop, get_or, refl, ap, sym, subst, add-one, drop-cons}
use Rattle.std.specs.Io.KnownBytes.{Appends}
use Rattle.std.proofs.KnownBytes.{Appends-trans}
use Rattle.std.proofs.lemmas.Grind.{fold-append}
use Rattle.std.proofs.lemmas.List.{append-nil, map-append, take-append-drop}
use Rattle.vdr_outside.specs.Writes.{AppendsFront}
use Rattle.vdr_outside.proofs.Known.{front-more}
use Rattle.vdr_terms.specs.Records.{Record}
use Rattle.vdr_datagram.specs.Verdicts.{LineSpan}
use Rattle.vdr_datagram.specs.Views.{span_of}
use Rattle.vdr_datagram.specs.declared.line.Line.{Line}
use Rattle.vdr_track.specs.Segments.{open_after, open_with}
use Rattle.vdr_track.specs.Steps.{line_step}
use Rattle.vdr_track.specs.Texts.{step_text, steps_text}
use Rattle.vdr_track.specs.declared.point.Point.{Point}
use Rattle.vdr_track.specs.declared.point.Step.{Step}
use Rattle.vdr_track.proofs.Streaming.{text_more}

abbrev pub step_at : (source : List ℕ) → Record → LineSpan → Step
step_at source r span = line_step source r span.verdict

abbrev pub along : (source : List ℕ) → Record → List LineSpan → List Step
along source r spans = map (step_at source r) spans

module _ (source : List ℕ) (r : Record) (done : List Line) (line : Line) where
  abbrev pub so_far : List Step
  so_far = along source r (map span_of done)

  abbrev pub here : Step
  here = step_at source r (span_of line)

  one_more : along source r (map span_of (done ++ line ∷ [])) ≡ so_far ++ here ∷ []
  one_more = ap (along source r) (map-append span_of done (line ∷ [])) ∙ map-append (step_at source r) (map span_of done) (span_of line ∷ [])

  pub open_with_one : (last : Option Point) → open_with (open_after last so_far) here ≡ open_after last (along source r (map span_of (done ++ line ∷ [])))
  open_with_one last = sym (fold-append open_with last so_far (here ∷ [])) ∙ ap (open_after last) (sym one_more)

  pub text_with_one : (last : Option Point) → steps_text last so_far ++ step_text (open_after last so_far) here ≡ steps_text last (along source r (map span_of (done ++ line ∷ [])))
  text_with_one last =
      ap (λ (t : List ℕ). steps_text last so_far ++ t) (sym (append-nil (step_text (open_after last so_far) here)))
      ∙ sym (text_more last so_far (here ∷ [])) ∙ ap (steps_text last) (sym one_more)

  -- All the lines, split at this one.
  pub text_at : (last : Option Point) (all : List LineSpan) → map span_of done ≡ take (length done) all → (length done < length all) × (span_of line ≡ get_or all (length done) (span_of line))
      → steps_text last (along source r all)
      ≡ steps_text last so_far ++ (step_text (open_after last so_far) here ++ steps_text (open_with (open_after last so_far) here) (along source r (drop (length done + 1) all)))
  text_at last all before turn =
      let within : length done < length all = turn.0 in
      let rest : drop (length done) all ≡ get_or all (length done) (span_of line) ∷ drop (length done + 1) all = rw (add-one, drop-cons all (length done) (span_of line)) refl in
      let split : all ≡ map span_of done ++ (span_of line ∷ drop (length done + 1) all) =
      sym (take-append-drop (length done) all)
      ∙ ap (λ (xs : List LineSpan). xs ++ drop (length done) all) (sym before)
      ∙ ap (λ (xs : List LineSpan). map span_of done ++ xs) (rest ∙ ap (λ (x : LineSpan). x ∷ drop (length done + 1) all) (sym turn.1)) in
      ap (λ (spans : List LineSpan). steps_text last (along source r spans)) split
      ∙ ap (steps_text last) (map-append (step_at source r) (map span_of done) (span_of line ∷ drop (length done + 1) all))
      ∙ text_more last so_far (here ∷ along source r (drop (length done + 1) all))

  -- ---- a step of the loop

  module _ (first last next : Option Point) (step : Step) (opened : last ≡ open_after first so_far) (is : step ≡ here) where
    same_text : step_text last step ≡ step_text (open_after first so_far) here
    same_text = λ i. step_text (opened i) (is i)

    pub opened_next : next ≡ open_with last step → next ≡ open_after first (along source r (map span_of (done ++ line ∷ [])))
    opened_next more = more ∙ (λ i. open_with (opened i) (is i)) ∙ open_with_one first

    pub written_next : (a b c : Option (List ℕ)) → Appends a b (steps_text first so_far) → Appends b c (step_text last step) → Appends a c (steps_text first (along source r (map span_of (done ++ line ∷ []))))
    written_next a b c before more = subst (λ (t : List ℕ). Appends a c t)
        (ap (λ (t : List ℕ). steps_text first so_far ++ t) same_text ∙ text_with_one first)
        (Appends-trans a b c (steps_text first so_far) (step_text last step) before more)

    pub front_next : (a b c : Option (List ℕ)) (all : List LineSpan) → map span_of done ≡ take (length done) all → (length done < length all) × (span_of line ≡ get_or all (length done) (span_of line))
        → Appends a b (steps_text first so_far) → AppendsFront b c (step_text last step) → AppendsFront a c (steps_text first (along source r all))
    front_next a b c all before turn written front =
        front-more a b c (steps_text first so_far) (step_text (open_after first so_far) here) (steps_text (open_with (open_after first so_far) here) (along source r (drop (length done + 1) all)))
        (steps_text first (along source r all)) (text_at first all before turn) written (subst (λ (t : List ℕ). AppendsFront b c t) same_text front)
