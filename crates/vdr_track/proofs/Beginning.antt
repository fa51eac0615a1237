-- A track whose tags were printed, and one more record.
use Rattle.std.proofs.Common.{◌≡◌, ◌∙◌, ◌++◌, ◌∷◌, [], ℕ, Bool, true, false, List, Option, refl, sym}
use Rattle.vdr_terms.specs.Records.{Record}
use Rattle.vdr_track.specs.Drawn.{HasDrawn, is_begun}
use Rattle.vdr_track.specs.Segments.{open_after, open_behind}
use Rattle.vdr_track.specs.Steps.{steps_in}
use Rattle.vdr_track.specs.Texts.{opening, opening_behind}
use Rattle.vdr_track.specs.declared.point.Point.{Point}
use Rattle.vdr_track.specs.declared.track.Track.{Track}
use Rattle.vdr_track.proofs.Streaming.{open_more}

-- Nothing stands before the records behind the first.
pub begun_before : (source : List ℕ) (seen : List Record) (begun : Bool) → begun ≡ is_begun seen → begun ≡ true → opening_behind source seen ≡ []
begun_before source [] begun is so = let no : true ≡ false = sym so ∙ is in let none : ⊥ = cc in absurd none
begun_before source (r ∷ seen) begun is so = refl

pub not_begun : (source : List ℕ) (seen : List Record) (begun : Bool) → begun ≡ is_begun seen → begun ≡ false → opening_behind source seen ≡ opening source
not_begun source [] begun is so = refl
not_begun source (r ∷ seen) begun is so = let no : false ≡ true = sym so ∙ is in let none : ⊥ = cc in absurd none

some_begun : (seen : List Record) (r : Record) → is_begun (seen ++ r ∷ []) ≡ true
some_begun [] r = refl
some_begun (x ∷ seen) r = refl

-- One more record was drawn.
pub drawn_more : (source : List ℕ) (seen : List Record) (r : Record) (t : Track) (before : Option Point) → t.source.now ≡ source → t.begun ≡ true → before ≡ open_behind source seen
    → t.last ≡ open_after before (steps_in t.source.now r) → HasDrawn source (seen ++ r ∷ []) t
drawn_more source seen r t before source_is begun last_is left = record {
  source_is = source_is;
  begun_is = begun ∙ sym (some_begun seen r);
  last_is = left ∙ (λ i. open_after (last_is i) (steps_in (source_is i) r)) ∙ open_more source seen r;
}
