-- The signs in the lines of a datagram, one after another.
use Rattle.std.proofs.Common.{◌≡◌, ◌<◌, ◌+◌, ◌∙◌, ℕ, List, [], ◌∷◌, ◌++◌, length, take, drop, get_or, map, Option, Some, None, sym, ap, refl, add-one, drop-cons, append_assoc}
use Rattle.std.specs.Prelude.{filter_map}
use Rattle.std.specs.List.{cons_option}
use Rattle.std.proofs.lemmas.List.{map-append, take-append-drop}
use Rattle.std.proofs.lemmas.List.Elements.{filter_map-append}
use Rattle.vdr_datagram.specs.Verdicts.{LineSpan}
use Rattle.vdr_datagram.specs.Views.{span_of, verdict_of}
use Rattle.vdr_datagram.specs.declared.line.Line.{Line}
use Rattle.vdr_watch.specs.Signs.{Sign, sign_in}
use Rattle.vdr_watch.specs.Supervision.{met_after}
use Rattle.vdr_alerts.specs.Lines.{Mark}
use Rattle.vdr_watch.specs.Texts.{sign_text, signs_text}

abbrev pub signs_along : (group tick : ℕ) → List LineSpan → List Sign
signs_along group tick spans = filter_map (λ s. sign_in group tick s.verdict) spans

abbrev pub sign_at : (group tick : ℕ) → Line → List Sign
sign_at group tick line = cons_option (sign_in group tick (verdict_of line.verdict)) []

onto : (o : Option Sign) (signs : List Sign) → cons_option o signs ≡ cons_option o [] ++ signs
onto None signs = refl
onto (Some s) signs = refl

-- One line more.
pub along_more : (group tick : ℕ) (done : List Line) (line : Line) → signs_along group tick (map span_of (done ++ line ∷ [])) ≡ signs_along group tick (map span_of done) ++ sign_at group tick line
along_more group tick done line =
    ap (signs_along group tick) (map-append span_of done (line ∷ [])) ∙ filter_map-append (λ (s : LineSpan). sign_in group tick s.verdict) (map span_of done) (span_of line ∷ [])

pub met_more : (met xs ys : List Sign) → met_after met (xs ++ ys) ≡ met_after (met_after met xs) ys
met_more met [] ys = refl
met_more met (x ∷ xs) ys = met_more (x ∷ met) xs ys

pub text_more : (m : Mark) (met xs ys : List Sign) → signs_text m met (xs ++ ys) ≡ signs_text m met xs ++ signs_text m (met_after met xs) ys
text_more m met [] ys = refl
text_more m met (x ∷ xs) ys =
    ap (λ (text : List ℕ). sign_text m met x ++ text) (text_more m (x ∷ met) xs ys) ∙ sym (append_assoc (sign_text m met x) (signs_text m (x ∷ met) xs) (signs_text m (met_after (x ∷ met) xs) ys))

-- All the lines, split at one of them.
module _ (group tick : ℕ) (all : List LineSpan) (done : List Line) (line : Line) (so_far : map span_of done ≡ take (length done) all)
    (turn : (length done < length all) × (span_of line ≡ get_or all (length done) (span_of line))) where
  rest : List Sign
  rest = signs_along group tick (drop (length done + 1) all)

  split : all ≡ map span_of done ++ (span_of line ∷ drop (length done + 1) all)
  split =
      let within : length done < length all = turn.0 in
      let later : drop (length done) all ≡ get_or all (length done) (span_of line) ∷ drop (length done + 1) all = rw (add-one, drop-cons all (length done) (span_of line)) refl in
      sym (take-append-drop (length done) all)
      ∙ ap (λ (xs : List LineSpan). xs ++ drop (length done) all) (sym so_far)
      ∙ ap (λ (xs : List LineSpan). map span_of done ++ xs) (later ∙ ap (λ (x : LineSpan). x ∷ drop (length done + 1) all) (sym turn.1))

  pub rest_text : (m : Mark) (met : List Sign) → List ℕ
  rest_text m met = signs_text m (met_after (met_after met (signs_along group tick (map span_of done))) (sign_at group tick line)) rest

  pub text_at : (m : Mark) (met : List Sign) → signs_text m met (signs_along group tick all)
      ≡ signs_text m met (signs_along group tick (map span_of done)) ++ (signs_text m (met_after met (signs_along group tick (map span_of done))) (sign_at group tick line) ++ rest_text m met)
  unfolding rest rest_text
  text_at m met =
      let before : List Sign = signs_along group tick (map span_of done) in
      ap (λ (spans : List LineSpan). signs_text m met (signs_along group tick spans)) split
      ∙ ap (signs_text m met) (filter_map-append (λ (s : LineSpan). sign_in group tick s.verdict) (map span_of done) (span_of line ∷ drop (length done + 1) all)
      ∙ ap (λ (signs : List Sign). before ++ signs) (onto (sign_in group tick (verdict_of line.verdict)) rest))
      ∙ text_more m met before (sign_at group tick line ++ rest)
      ∙ ap (λ (text : List ℕ). signs_text m met before ++ text) (text_more m (met_after met before) (sign_at group tick line) rest)
