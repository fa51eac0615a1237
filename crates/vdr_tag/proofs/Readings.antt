-- What bytes read as, against the blocks at their front.
use Rattle.std.proofs.Common.{◌≡◌, ◌++◌, ◌+◌, ◌∙◌, ap, refl, sym, ℕ, Bool, true, false, cond, not, List, [], ◌∷◌, length, flat_map, Some, Ok, Err, eqb, ltb, arith, append_assoc, length-append}
use Rattle.std.specs.List.{after_first, before_first, list_all, onto_first, position_or_len}
use Rattle.std.proofs.lemmas.Bool.{ltb-true, ltb-false}
use Rattle.std.proofs.lemmas.List.Splits.{slice_split_at}
use Rattle.std.proofs.lemmas.List.Sums.{AllPass-from_list_all}
use Rattle.vdr_tag.specs.declared.bad.BadTag.{BadTag}
use Rattle.vdr_tag.specs.declared.bad.BadTag.TheVariants.{Unclosed}
use Rattle.vdr_tag.specs.Parts.{parts}
use Rattle.vdr_tag.specs.Values.{TagValues, nothing}
use Rattle.vdr_tag.specs.Blocks.{block_refusal, block_values}
use Rattle.vdr_tag.specs.Fronts.{AreBlocks, HasFront, IsRefused, begins_block, behind_block, block_text, front, opened, opened_refusal, reading}
use Rattle.vdr_tag.proofs.PartLemmas.{parts-found, parts-none, parts_given}
use Rattle.vdr_tag.proofs.BlockLemmas.{block_refusal-none, block_values-are}

not_true : (t : Bool) → not t ≡ true → t ≡ false
not_true true h = absurd (cc)
not_true false h = refl

-- A block at the front is cut out of the bytes.
parts-block : (inside more : List ℕ) → list_all (λ b. not (eqb b 92)) inside ≡ true → parts 92 (block_text inside ++ more) ≡ [] ∷ inside ∷ parts 92 more
parts-block inside more closed =
    ap (λ xs. [] ∷ parts 92 xs) (append_assoc inside (92 ∷ []) more)
    ∙ ap (λ xs. [] ∷ xs) (slice_split_at (λ b. eqb b 92) inside 92 more (λ k d below. not_true _ (AllPass-from_list_all (λ b. not (eqb b 92)) inside closed k d below)) refl)

-- What is behind the closing `\` is some bytes, if none.
opened_given : (inside more : List ℕ) → opened inside (parts 92 more) (front (parts 92 more)) ≡ behind_block (block_refusal inside) (block_values inside) (length inside + 2) (front (parts 92 more))
opened_given inside more = ap (λ xs. opened inside xs (front (parts 92 more))) (parts_given 92 more).spelled

front-block : (inside more : List ℕ) → list_all (λ b. not (eqb b 92)) inside ≡ true
    → front (parts 92 (block_text inside ++ more)) ≡ behind_block (block_refusal inside) (block_values inside) (length inside + 2) (front (parts 92 more))
front-block inside more closed = ap front (parts-block inside more closed) ∙ opened_given inside more

front-end : (rest : List ℕ) → begins_block rest ≡ false → front (parts 92 rest) ≡ Ok (nothing, 0)
front-end [] h = refl
front-end (b ∷ rest) h = rw h (ap (λ xs. front (onto_first b xs)) (parts_given 92 rest).spelled)

front-refused : (rest : List ℕ) (bad : BadTag) → opened_refusal rest ≡ Some bad → front (parts 92 (92 ∷ rest)) ≡ Err bad
front-refused rest bad h = by_test (ltb (position_or_len (λ b. eqb b 92) rest) (length rest)) refl h
  where
    by_test : (t : Bool) → ltb (position_or_len (λ b. eqb b 92) rest) (length rest) ≡ t
        → cond t (block_refusal (before_first (λ b. eqb b 92) rest)) (Some Unclosed) ≡ Some bad → front (parts 92 (92 ∷ rest)) ≡ Err bad
    by_test true e h =
        let inside = before_first (λ b. eqb b 92) rest in
        let more = after_first (λ b. eqb b 92) rest in
        ap (λ xs. front ([] ∷ xs)) (parts-found 92 rest (ltb-true _ _ e))
        ∙ opened_given inside more
        ∙ ap (λ refusal. behind_block refusal (block_values inside) (length inside + 2) (front (parts 92 more))) h
    by_test false e h = ap (λ xs. front ([] ∷ xs)) (parts-none 92 rest (ltb-false _ _ e)) ∙ cc

block_size : (inside others : List ℕ) → length inside + 2 + length others ≡ length (block_text inside ++ others)
block_size inside others = omega (arith, length-append (block_text inside) others, length-append inside (92 ∷ []))

-- Behind legal blocks, what follows them decides.
front-blocks : (insides : List (List ℕ)) (values : TagValues) (rest : List ℕ) → AreBlocks insides values → front (parts 92 rest) ≡ Ok (nothing, 0)
    → front (parts 92 (flat_map block_text insides ++ rest)) ≡ Ok (values, length (flat_map block_text insides))
front-blocks [] values rest h end = end ∙ (λ i. Ok (sym h i, 0))
front-blocks (inside ∷ insides) values rest h end =
    let others = flat_map block_text insides in
    let size : length inside + 2 + length others ≡ length (block_text inside ++ others) = block_size inside others in
    ap (λ xs. front (parts 92 xs)) (append_assoc (block_text inside) others rest)
    ∙ front-block inside (others ++ rest) h.2.closed
    ∙ (λ i. behind_block (block_refusal-none inside h.0 h.2 i) (block_values-are inside h.0 h.2 i) (length inside + 2) (front-blocks insides h.1 rest h.3 end i))
    ∙ (λ i. Ok (sym h.4 i, size i))

front-blocks_refused : (insides : List (List ℕ)) (values : TagValues) (rest : List ℕ) (bad : BadTag) → AreBlocks insides values → front (parts 92 rest) ≡ Err bad
    → front (parts 92 (flat_map block_text insides ++ rest)) ≡ Err bad
front-blocks_refused [] values rest bad h end = end
front-blocks_refused (inside ∷ insides) values rest bad h end =
    let others = flat_map block_text insides in
    ap (λ xs. front (parts 92 xs)) (append_assoc (block_text inside) others rest)
    ∙ front-block inside (others ++ rest) h.2.closed
    ∙ (λ i. behind_block (block_refusal-none inside h.0 h.2 i) (block_values inside) (length inside + 2) (front-blocks_refused insides h.1 rest bad h.3 end i))

pub reading-front : (bytes : List ℕ) (values : TagValues) (n : ℕ) → HasFront bytes values n → reading bytes ≡ Ok (values, n)
unfolding reading
reading-front bytes values n h =
    ap (λ xs. front (parts 92 xs)) h.spelled ∙ front-blocks h.insides values h.rest h.blocks (front-end h.rest h.ended) ∙ (λ i. Ok (values, sym h.size i))

pub reading-refused : (bytes : List ℕ) (bad : BadTag) → IsRefused bytes bad → reading bytes ≡ Err bad
unfolding reading
reading-refused bytes bad h =
    ap (λ xs. front (parts 92 xs)) h.spelled ∙ front-blocks_refused h.insides h.values (92 ∷ h.rest) bad h.blocks (front-refused h.rest bad h.refused)
