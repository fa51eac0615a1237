-- Texts that are printed one behind the other.
use Rattle.std.proofs.Common.{◌≡◌, ◌∙◌, ℕ, List, [], ◌∷◌, ◌++◌, Option, Result, sym, ap, subst, append_assoc}
use Rattle.std.specs.Prelude.{OnOk, ⊤}
use Rattle.std.specs.Io.KnownBytes.{Appends}
use Rattle.std.proofs.KnownBytes.{Appends-trans}
use Rattle.std.proofs.lemmas.List.{append-nil}
use Rattle.std.proofs.lemmas.Result.{on_ok_weaker}
use Rattle.vdr_outside.specs.Writes.{AppendsFront}
use Rattle.vdr_outside.proofs.Known.{front-more}
use Rattle.vdr_rows.specs.Parts.{front_text, rest_text}
use Rattle.vdr_rows.specs.Texts.{Heading, number_text, quoted, row_text, valid_text}
use Rattle.vdr_rows.specs.Values.{Said}

-- A front of the first piece.
pub first_front : (old new : Option (List ℕ)) (piece rest whole : List ℕ) → whole ≡ piece ++ rest → AppendsFront old new piece → AppendsFront old new whole
first_front old new piece rest whole is f = (f.0, f.1 ++ rest, is ∙ ap (λ (xs : List ℕ). xs ++ rest) f.2 ∙ append_assoc f.0 f.1 rest, f.3)

-- A front of the last piece.
pub last_front : (a b c : Option (List ℕ)) (before piece whole : List ℕ) → whole ≡ before ++ piece → Appends a b before → AppendsFront b c piece → AppendsFront a c whole
last_front a b c before piece whole is p f = front-more a b c before piece [] whole (is ∙ ap (λ (xs : List ℕ). before ++ xs) (sym (append-nil piece))) p f

-- The last piece, behind those before it.
pub last_all : {E : Type 0} (r : Result ⊤ E) (a b c : Option (List ℕ)) (before piece whole : List ℕ) → whole ≡ before ++ piece → Appends a b before → OnOk r (Appends b c piece) → OnOk r (Appends a c whole)
last_all r a b c before piece whole is p last = on_ok_weaker r (λ done. subst (λ (xs : List ℕ). Appends a c xs) (sym is) (Appends-trans a b c before piece p done)) last

-- ---- the pieces of a row

front_split : (h : Heading) (rest : List ℕ) → front_text h ++ rest ≡ h.utc ++ 44 ∷ (h.place ++ 44 ∷ (h.group ++ 44 ∷ rest))
front_split h rest =
    append_assoc h.utc (44 ∷ (h.place ++ 44 ∷ (h.group ++ 44 ∷ []))) rest
    ∙ ap (λ (l : List ℕ). h.utc ++ 44 ∷ l)
    (append_assoc h.place (44 ∷ (h.group ++ 44 ∷ [])) rest ∙ ap (λ (l : List ℕ). h.place ++ 44 ∷ l) (append_assoc h.group (44 ∷ []) rest))

six_split : (a b c d e f rest : List ℕ) → (44 ∷ (a ++ 44 ∷ (b ++ 44 ∷ (c ++ 44 ∷ (d ++ 44 ∷ (e ++ 44 ∷ (f ++ 44 ∷ []))))))) ++ rest
    ≡ 44 ∷ (a ++ 44 ∷ (b ++ 44 ∷ (c ++ 44 ∷ (d ++ 44 ∷ (e ++ 44 ∷ (f ++ 44 ∷ rest))))))
six_split a b c d e f rest =
    ap (λ (l : List ℕ). 44 ∷ l)
    (append_assoc a (44 ∷ (b ++ 44 ∷ (c ++ 44 ∷ (d ++ 44 ∷ (e ++ 44 ∷ (f ++ 44 ∷ [])))))) rest
    ∙ ap (λ (l : List ℕ). a ++ 44 ∷ l)
    (append_assoc b (44 ∷ (c ++ 44 ∷ (d ++ 44 ∷ (e ++ 44 ∷ (f ++ 44 ∷ []))))) rest
    ∙ ap (λ (l : List ℕ). b ++ 44 ∷ l)
    (append_assoc c (44 ∷ (d ++ 44 ∷ (e ++ 44 ∷ (f ++ 44 ∷ [])))) rest
    ∙ ap (λ (l : List ℕ). c ++ 44 ∷ l)
    (append_assoc d (44 ∷ (e ++ 44 ∷ (f ++ 44 ∷ []))) rest
    ∙ ap (λ (l : List ℕ). d ++ 44 ∷ l)
    (append_assoc e (44 ∷ (f ++ 44 ∷ [])) rest ∙ ap (λ (l : List ℕ). e ++ 44 ∷ l) (append_assoc f (44 ∷ []) rest))))))

pub row_split : (h : Heading) (s : Said) → row_text h s ≡ front_text h ++ (quoted h.source ++ rest_text h s)
unfolding row_text
row_split h s =
    sym (front_split h (quoted h.source ++ rest_text h s)
    ∙ ap (λ (l : List ℕ). h.utc ++ 44 ∷ (h.place ++ 44 ∷ (h.group ++ 44 ∷ (quoted h.source ++ l))))
    (six_split h.sentence s.item s.name (number_text s.number) s.measure (valid_text s.valid) (quoted s.words ++ 10 ∷ [])))
