-- A block against its items.
use Rattle.std.proofs.Common.{◌≡◌, ◌<◌, ◌++◌, ◌+◌, ◌∙◌, ap, refl, sym, ℕ, Bool, true, false, cond, not, ◌&&◌, List, [], ◌∷◌, length, take, drop, get_or, Option, Some, None, eqb, ltb, arith, length-append}
use Rattle.std.specs.Option.{is_some}
use Rattle.std.specs.List.{AllZip, after_first, before_first, cons_option, list_all, position_or_len}
use Rattle.std.proofs.lemmas.Bool.{eqb-true, eq-eqb, not-false, ltb-true, lt-ltb, and_parts}
use Rattle.std.proofs.Math.Seq.{take-append_seam, drop-append-add, get_or-append_seam}
use Rattle.std.proofs.lemmas.List.{get_or-take, get_or_append_left}
use Rattle.std.proofs.lemmas.List.Folds.{length-prefix_len}
use Rattle.std.proofs.lemmas.List.Sums.{passes_at_first, split_at_first, list_all-from_AllPass, AllPass-from_list_all, prefix_len_is, prefix_len_passes}
use Rattle.vdr_bytes.specs.Checksum.{checksum, covered, written}
use Rattle.vdr_bytes.proofs.ChecksumLemmas.{HasField-from_written, written-from_HasField, covered-from_HasField}
use Rattle.vdr_bytes.proofs.Refusals.{row_none}
use Rattle.vdr_tag.specs.declared.bad.BadTag.{BadTag}
use Rattle.vdr_tag.specs.declared.bad.BadTag.TheVariants.{Wrong, Field, Value}
use Rattle.vdr_tag.specs.Values.{TagValues, all_said, code_named, said_by}
use Rattle.vdr_tag.specs.Items.{IsItem, colon, has_code, item_values, items, items_refusal, values_in}
use Rattle.vdr_tag.specs.Blocks.{IsBlock, block_refusal, block_values, checked}
use Rattle.vdr_tag.proofs.ItemLemmas.{is_accepted}

-- Bytes in which a byte stands, cut at the first.
pub record IsCut (at : ℕ) (bytes : List ℕ) : Type 0 where
  pub spelled : bytes ≡ before_first (λ b. eqb b at) bytes ++ at ∷ after_first (λ b. eqb b at) bytes
  pub ended : list_all (λ b. not (eqb b at)) (before_first (λ b. eqb b at) bytes) ≡ true
  pub size : length (before_first (λ b. eqb b at) bytes) ≡ position_or_len (λ b. eqb b at) bytes

pub IsCut-from_place : (at : ℕ) (bytes : List ℕ) → position_or_len (λ b. eqb b at) bytes < length bytes → IsCut at bytes
IsCut-from_place at bytes inside =
    let place = position_or_len (λ b. eqb b at) bytes in
    let here = eqb-true (get_or bytes place 0) at (passes_at_first (λ b. eqb b at) bytes 0 inside) in
    let size : length (take place bytes) ≡ place = length-prefix_len (λ b. not (eqb b at)) bytes in
    record {
      spelled = split_at_first (λ b. eqb b at) bytes 0 inside ∙ ap (λ b. take place bytes ++ b ∷ drop (place + 1) bytes) here;
      ended = list_all-from_AllPass (λ b. not (eqb b at)) (take place bytes) (λ k d below.
          let within : k < place = omega arith in
          ap (λ b. not (eqb b at)) (get_or-take place bytes k d within) ∙ prefix_len_passes (λ b. not (eqb b at)) bytes k d within);
      size = size;
    }

-- Bytes that are spelled as two parts around a byte are cut there.
pub record IsCutInto (at : ℕ) (bytes before after : List ℕ) : Type 0 where
  pub before_is : before_first (λ b. eqb b at) bytes ≡ before
  pub after_is : after_first (λ b. eqb b at) bytes ≡ after
  pub place : position_or_len (λ b. eqb b at) bytes ≡ length before

pub IsCutInto-append : (at : ℕ) (before after : List ℕ) → list_all (λ b. not (eqb b at)) before ≡ true → IsCutInto at (before ++ at ∷ after) before after
IsCutInto-append at before after h =
    let bytes = before ++ at ∷ after in
    let place : position_or_len (λ b. eqb b at) bytes ≡ length before =
    prefix_len_is (λ b. not (eqb b at)) bytes (length before) 0 (omega (arith, length-append before (at ∷ after)))
    (λ k below. ap (λ b. not (eqb b at)) (get_or_append_left before (at ∷ after) 0 k below) ∙ AllPass-from_list_all (λ b. not (eqb b at)) before h k 0 below)
    (λ inside. ap (λ b. not (eqb b at)) (get_or-append_seam before at after 0) ∙ ap not (eq-eqb at at refl)) in
    record {
      before_is = ap (λ n. take n bytes) place ∙ take-append_seam before (at ∷ after);
      after_is = ap (λ n. drop (n + 1) bytes) place ∙ drop-append-add before (at ∷ after) 1;
      place = place;
    }

IsItem-from_tests : (item : List ℕ) (values : TagValues) → has_code item ≡ true → item_values item ≡ Some values → IsItem item values
IsItem-from_tests item values code said =
    let tests = and_parts (ltb 0 (colon item)) (ltb (colon item) (length item)) code in
    let cut = IsCut-from_place 58 item (ltb-true (colon item) (length item) tests.1) in
    record {
      code = before_first (λ b. eqb b 58) item;
      value = after_first (λ b. eqb b 58) item;
      spelled = cut.spelled;
      given = omega (arith, cut.size, ltb-true 0 (colon item) tests.0);
      ended = cut.ended;
      accepted = said;
    }

record IsRead (item : List ℕ) (values : TagValues) : Type 0 where
  code : has_code item ≡ true
  said : item_values item ≡ Some values

IsRead-from_item : (item : List ℕ) (values : TagValues) → IsItem item values → IsRead item values
IsRead-from_item item values h =
    let cut = IsCutInto-append 58 h.code h.value h.ended in
    let bytes = h.code ++ 58 ∷ h.value in
    let inside : length h.code < length bytes = omega (arith, length-append h.code (58 ∷ h.value)) in
    record {
      code = ap has_code h.spelled ∙ ap (λ n. ltb 0 n && ltb n (length bytes)) cut.place ∙ (λ i. lt-ltb 0 (length h.code) h.given i && lt-ltb (length h.code) (length bytes) inside i);
      said = ap item_values h.spelled ∙ (λ i. said_by (code_named (cut.before_is i)) (cut.after_is i)) ∙ h.accepted;
    }

items_are : (parts : List (List ℕ)) → list_all has_code parts ≡ true → list_all is_accepted parts ≡ true → AllZip IsItem parts (values_in parts)
items_are [] code said = tt
items_are (item ∷ parts) code said =
    let codes = and_parts (has_code item) (list_all has_code parts) code in
    let accepted = and_parts (is_accepted item) (list_all is_accepted parts) said in
    first (item_values item) refl accepted.0 codes.0 (items_are parts codes.1 accepted.1)
  where
    first : (v : Option TagValues) → item_values item ≡ v → is_some v ≡ true → has_code item ≡ true → AllZip IsItem parts (values_in parts) → AllZip IsItem (item ∷ parts) (cons_option v (values_in parts))
    first None e ok code others = absurd (cc)
    first (Some values) e ok code others = (IsItem-from_tests item values code e, others)

record AreRead (parts : List (List ℕ)) (said : List TagValues) : Type 0 where
  coded : list_all has_code parts ≡ true
  accepted : list_all is_accepted parts ≡ true
  values : values_in parts ≡ said

AreRead-from_items : (parts : List (List ℕ)) (said : List TagValues) → AllZip IsItem parts said → AreRead parts said
AreRead-from_items [] [] h = record { coded = refl; accepted = refl; values = refl }
AreRead-from_items [] (v ∷ said) h = absurd h
AreRead-from_items (item ∷ parts) [] h = absurd h
AreRead-from_items (item ∷ parts) (v ∷ said) h =
    let one = IsRead-from_item item v h.0 in
    let others = AreRead-from_items parts said h.1 in
    record {
      coded = λ i. one.code i && others.coded i;
      accepted = λ i. is_some (one.said i) && others.accepted i;
      values = λ i. cons_option (one.said i) (others.values i);
    }

-- A block with no refusal has the checksum of its text, and its items have none.
checked_none : (sum : Option ℕ) (computed : ℕ) (others : Option BadTag) → checked sum computed others ≡ None → (sum ≡ Some computed) × (others ≡ None)
checked_none None computed others h = absurd (cc)
checked_none (Some sum) computed others h = by_test (eqb sum computed) refl h
  where
    by_test : (t : Bool) → eqb sum computed ≡ t → cond t others (Some (Wrong sum computed)) ≡ None → (Some sum ≡ Some computed) × (others ≡ None)
    by_test true e h = (ap Some (eqb-true sum computed e), h)
    by_test false e h = absurd (cc)

items_accepted : (parts : List (List ℕ)) → items_refusal parts ≡ None → (list_all has_code parts ≡ true) × (list_all is_accepted parts ≡ true)
unfolding items_refusal
items_accepted parts h =
    let codes = row_none (not (list_all has_code parts)) Field _ h in
    let said = row_none (not (list_all is_accepted parts)) Value _ codes.1 in
    (not-false (list_all has_code parts) codes.0, not-false (list_all is_accepted parts) said.0)

items_refusal-none : (parts : List (List ℕ)) (said : List TagValues) → AreRead parts said → items_refusal parts ≡ None
unfolding items_refusal
items_refusal-none parts said h = rw (h.coded, h.accepted) refl

pub IsBlock-from_none : (inside : List ℕ) → list_all (λ b. not (eqb b 92)) inside ≡ true → block_refusal inside ≡ None → IsBlock inside (block_values inside)
unfolding block_refusal block_values
IsBlock-from_none inside closed h =
    let both = checked_none (written inside) (checksum (covered inside)) (items_refusal (items (covered inside))) h in
    let parts = items_accepted (items (covered inside)) both.1 in
    record {
      text = covered inside;
      checksum = HasField-from_written inside (checksum (covered inside)) both.0;
      closed = closed;
      said = values_in (items (covered inside));
      items = items_are (items (covered inside)) parts.0 parts.1;
      values_are = refl;
    }

pub block_refusal-none : (inside : List ℕ) (values : TagValues) → IsBlock inside values → block_refusal inside ≡ None
unfolding block_refusal
block_refusal-none inside values h =
    let covers = covered-from_HasField inside h.text (checksum h.text) h.checksum in
    let read = AreRead-from_items (items h.text) h.said h.items in
    (λ i. checked (written-from_HasField inside h.text (checksum h.text) h.checksum i) (checksum (covers i)) (items_refusal (items (covers i))))
    ∙ ap (λ others. checked (Some (checksum h.text)) (checksum h.text) others) (items_refusal-none (items h.text) h.said read)
    ∙ rw (eq-eqb (checksum h.text) (checksum h.text) refl) refl

pub block_values-are : (inside : List ℕ) (values : TagValues) → IsBlock inside values → block_values inside ≡ values
unfolding block_values
block_values-are inside values h =
    let covers = covered-from_HasField inside h.text (checksum h.text) h.checksum in
    let read = AreRead-from_items (items h.text) h.said h.items in
    ap (λ text. all_said (values_in (items text))) covers ∙ ap all_said read.values ∙ sym h.values_are
