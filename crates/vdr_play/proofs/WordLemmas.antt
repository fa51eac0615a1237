-- Words in a line, one after another.
use Rattle.std.proofs.Common.{◌≡◌, ◌<◌, ◌+◌, ℕ, List, [], ◌∷◌, ◌++◌, length, take, drop, get_or, map, sym, ap, ◌∙◌, add-one, drop-cons, Bor, refl, codes}
use Rattle.std.specs.Prelude.{decimal}
use Rattle.std.proofs.lemmas.Grind.{flat_map-append}
use Rattle.std.proofs.lemmas.List.{take-append-drop, map-append, append-nil, append_assoc}
use Rattle.vdr_terms.specs.Groups.{group_name}
use Rattle.vdr_terms.specs.Records.{Record, Content}
use Rattle.vdr_terms.specs.Records.Content.{Datagram}
use Rattle.vdr_entry.specs.Escape.{escaped}
use Rattle.vdr_entry.specs.Lines.{record_line, spaced, words_of}
use Rattle.vdr_entry.specs.Utc.{utc_text}

-- The words that slices hold.
abbrev pub values : List (Bor (List ℕ)) → List (List ℕ)
values words = map (λ word. word.now) words

-- a line's words, split at one of them
pub spaced-at : (words : List (Bor (List ℕ))) (i : ℕ) (d : Bor (List ℕ)) → i < length words
    → spaced (values words) ≡ spaced (values (take i words)) ++ ((32 ∷ (get_or words i d).now) ++ spaced (values (drop (i + 1) words)))
spaced-at words i d within =
    let split : words ≡ take i words ++ (get_or words i d ∷ drop (i + 1) words) = sym (take-append-drop i words) ∙ ap (λ (ws : List (Bor (List ℕ))). take i words ++ ws) (rw (add-one, drop-cons words i d) refl) in
    ap (λ (ws : List (Bor (List ℕ))). spaced (values ws)) split ∙ ap spaced (map-append (λ (word : Bor (List ℕ)). word.now) (take i words) (get_or words i d ∷ drop (i + 1) words))
    ∙ flat_map-append (λ (word : List ℕ). 32 ∷ word) (values (take i words)) (values (get_or words i d ∷ drop (i + 1) words))

-- one word behind the others
spaced-last : (words : List (List ℕ)) (last : List ℕ) → spaced (words ++ last ∷ []) ≡ spaced words ++ (32 ∷ last)
spaced-last words last = flat_map-append (λ (word : List ℕ). 32 ∷ word) words (last ∷ []) ∙ ap (λ (xs : List ℕ). spaced words ++ (32 ∷ xs)) (append-nil last)

abbrev pub datagram_front : (group number utc len : List ℕ) → List (List ℕ)
datagram_front group number utc len = group ∷ number ∷ utc ∷ codes "data" ∷ len ∷ []

-- the words of a datagram are those before its payload, and the payload
pub datagram-words : (r : Record) (payload group number utc len : List ℕ) → Datagram payload ≡ r.content → group ≡ group_name r.group → number ≡ decimal r.number → utc ≡ utc_text r.utc → len ≡ decimal (length payload)
    → spaced (words_of r.content r) ≡ spaced (datagram_front group number utc len) ++ (32 ∷ escaped payload)
datagram-words r payload group number utc len said e1 e2 e3 e4 =
    ap (λ (c : Content). spaced (words_of c r)) (sym said)
    ∙ ap (λ (xs : List ℕ). spaced (xs ∷ decimal r.number ∷ utc_text r.utc ∷ codes "data" ∷ decimal (length payload) ∷ escaped payload ∷ [])) (sym e1)
    ∙ ap (λ (xs : List ℕ). spaced (group ∷ xs ∷ utc_text r.utc ∷ codes "data" ∷ decimal (length payload) ∷ escaped payload ∷ [])) (sym e2)
    ∙ ap (λ (xs : List ℕ). spaced (group ∷ number ∷ xs ∷ codes "data" ∷ decimal (length payload) ∷ escaped payload ∷ [])) (sym e3)
    ∙ ap (λ (xs : List ℕ). spaced (group ∷ number ∷ utc ∷ codes "data" ∷ xs ∷ escaped payload ∷ [])) (sym e4)
    ∙ spaced-last (datagram_front group number utc len) (escaped payload)

-- a line is the place, its words, and LF
pub line-parts : (r : Record) (place : List ℕ) → place ≡ decimal r.place → record_line r ≡ place ++ (spaced (words_of r.content r) ++ 10 ∷ [])
unfolding record_line
line-parts r place is =
    append_assoc (decimal r.place) (spaced (words_of r.content r)) (10 ∷ []) ∙ ap (λ (xs : List ℕ). xs ++ (spaced (words_of r.content r) ++ 10 ∷ [])) (sym is)
