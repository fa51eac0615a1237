use Rattle.std.proofs.Common.{◌∙◌, ◌∷◌, inl, inr, codes, map, Some, sym, ap, refl}
use Rattle.std.specs.Prelude.{string_bytes}
use Rattle.vdr_tool.specs.Commands.{Asked}
use Rattle.vdr_tool.proofs.WordLemmas.{none_read, none_whole, not_info, one_whole, rescue_words, some_rescue}
use Rattle.vdr_tool.proofs.words.rescue_of.Goals as goal

pub returns-in-Some-clause-found : goal.returns-in-Some-clause-found
returns-in-Some-clause-found c = λ command spells. elim (rescue_words (codes "rescue") (map string_bytes c.args.words.now) command refl spells) [
  | inl h ↦ not_info (map string_bytes c.args.words.now) _ h.reading c.in-Some.ensures.only.1 h.spelled
  | inr h ↦ one_whole c.info_alone_of.result c.in-Some.medium h.medium command c.in-Some.is (c.info_alone_of.ensures.found h.medium h.legal h.words) h.is
]

pub returns-in-Some-clause-only : goal.returns-in-Some-clause-only
returns-in-Some-clause-only c = record { words = ap (λ words. codes "rescue" ∷ words) c.in-Some.ensures.only.1; legal = c.in-Some.ensures.only.0 }

pub returns-in_err-reading-clause-found : goal.returns-in_err-reading-clause-found
returns-in_err-reading-clause-found c = λ command spells. elim (rescue_words (codes "rescue") (map string_bytes c.args.words.now) command refl spells) [
  | inl h ↦ none_read c.reading_of.result h.reading c.in_err-reading.was (c.reading_of.ensures.found h.reading h.spelled)
  | inr h ↦ none_whole c.info_alone_of.result h.medium c.in_default.is (c.info_alone_of.ensures.found h.medium h.legal h.words)
]

pub returns-clause-found : goal.returns-clause-found
returns-clause-found c = λ command spells. elim (rescue_words (codes "rescue") (map string_bytes c.args.words.now) command refl spells) [
  | inl h ↦ some_rescue c.reading_of.result c.in_ok-reading.reading h.reading c.in_ok-reading.was (c.reading_of.ensures.found h.reading h.spelled) ∙ ap (λ (a : Asked). Some a) (sym h.is)
  | inr h ↦ none_whole c.info_alone_of.result h.medium c.in_default.is (c.info_alone_of.ensures.found h.medium h.legal h.words)
]

pub returns-clause-only : goal.returns-clause-only
returns-clause-only c =
    let told = c.in_ok-reading.ensures.only in
    record {
      words = record { rest = map string_bytes c.args.words.now; words = refl; spelled = told.words };
      legal = told.legal;
    }
