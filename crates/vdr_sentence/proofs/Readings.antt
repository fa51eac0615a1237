-- What bytes read as, against what a sentence is.
use Rattle.std.proofs.Common.{◌≡◌, ◌++◌, ◌∙◌, ◌-◌, ◌+◌, ◌≤◌, ◌<◌, ℕ, suc, Bool, true, false, cond, not, ◌&&◌, ◌||◌, List, [], ◌∷◌, length, take, get_or, Option, Some, None, Ok, Err, refl, sym, ap, subst, arith, length-append, eqb, ltb}
use Rattle.std.specs.Option.{option_or}
use Rattle.std.proofs.lemmas.Bool.{not-false, le-ltb, ltb-false, eqb-true, eq-eqb, and_parts, or_parts}
use Rattle.std.proofs.lemmas.List.{take-append-drop, drop_more, at_drop_all, get_or-append-add}
use Rattle.std.proofs.Math.Seq.{take-append_seam, get_or-append_seam}
use Rattle.vdr_bytes.specs.Checksum.{checksum, written, covered}
use Rattle.vdr_bytes.proofs.ChecksumLemmas.{HasField-from_written, written-from_HasField, covered-from_HasField}
use Rattle.vdr_bytes.proofs.Refusals.{row_none}
use Rattle.vdr_sentence.specs.declared.bad.Bad.{Bad}
use Rattle.vdr_sentence.specs.declared.bad.Bad.TheVariants.{Start, Length, Character, Address, Wrong}
use Rattle.vdr_sentence.specs.Characters.{is_start, is_body_character, each_passes}
use Rattle.vdr_sentence.specs.Addresses.{is_address, address_of}
use Rattle.vdr_sentence.specs.Sentences.{IsContent, IsSentence}
use Rattle.vdr_sentence.specs.Refusals.{SentenceText, body, body_refusal, checksum_refusal, ends_line, first_refusal, frame_refusal, reading, unless_refused}
use Rattle.vdr_sentence.proofs.Bodies.{characters_of_content, characters_of_body, address_of-before_star}

-- What no refusal by the frame says.
pub record IsFramed (bytes : List ℕ) : Type 0 where
  pub begins : is_start (get_or bytes 0 0) ≡ true
  pub short : length bytes ≤ 82
  pub line : ends_line bytes ≡ true

IsFramed-from_refusal : (bytes : List ℕ) → frame_refusal bytes ≡ None → IsFramed bytes
unfolding frame_refusal
IsFramed-from_refusal bytes h =
    let start = row_none (not (is_start (get_or bytes 0 0))) Start _ h in
    let line = row_none (ltb 82 (length bytes) || not (ends_line bytes)) Length _ start.1 in
    record { begins = not-false (is_start (get_or bytes 0 0)) start.0; short = ltb-false 82 (length bytes) (or_parts _ _ line.0).0; line = not-false (ends_line bytes) (or_parts _ _ line.0).1 }

frame_refusal-none : (bytes : List ℕ) → IsFramed bytes → frame_refusal bytes ≡ None
unfolding frame_refusal
frame_refusal-none bytes h =
    rows (is_start (get_or bytes 0 0)) (ltb 82 (length bytes)) (ends_line bytes) h.begins (le-ltb 82 (length bytes) h.short) h.line
  where
    rows : (a b c : Bool) → a ≡ true → b ≡ false → c ≡ true → cond (not a) (Some Start) (cond (b || not c) (Some Length) None) ≡ None
    rows a b c ea eb ec = rw (ea, eb, ec) refl

-- A list of two and more ends with its last two.
last_two : (bytes : List ℕ) (n : ℕ) → length bytes ≡ n + 2 → bytes ≡ take n bytes ++ get_or bytes n 0 ∷ get_or bytes (n + 1) 0 ∷ []
last_two bytes n h =
    let inside : n < length bytes = omega arith in
    let inside_more : n + 1 < length bytes = omega arith in
    let past : length bytes ≤ n + 1 + 1 = omega arith in
    sym (take-append-drop n bytes)
    ∙ ap (λ xs. take n bytes ++ xs) (drop_more bytes n 0 inside ∙ ap (λ xs. get_or bytes n 0 ∷ xs) (drop_more bytes (n + 1) 0 inside_more ∙ ap (λ xs. get_or bytes (n + 1) 0 ∷ xs) (at_drop_all (λ xs. xs) bytes (n + 1 + 1) past)))

-- Bytes with a start and an end have a body between them.
spelled-from_framed : (bytes : List ℕ) → IsFramed bytes → bytes ≡ get_or bytes 0 0 ∷ (body bytes ++ 13 ∷ 10 ∷ [])
unfolding body
spelled-from_framed [] h = absurd (cc)
spelled-from_framed (s ∷ []) h = absurd (grind arith)
spelled-from_framed (s ∷ x ∷ []) h = absurd (grind arith)
spelled-from_framed (s ∷ x ∷ y ∷ rest) h =
    let n : length (s ∷ x ∷ y ∷ rest) - 3 ≡ length rest = omega arith in
    let cr : length (s ∷ x ∷ y ∷ rest) - 2 ≡ suc (length rest) = omega arith in
    let lf : length (s ∷ x ∷ y ∷ rest) - 1 ≡ suc (length rest + 1) = omega arith in
    let inner : List ℕ = x ∷ y ∷ rest in
    let line = and_parts (eqb (get_or inner (length rest) 0) 13) (eqb (get_or inner (length rest + 1) 0) 10) (rw (cr, lf) at h.line) in
    let two : length inner ≡ length rest + 2 = omega arith in
    rw n (ap (λ xs. s ∷ xs) (last_two inner (length rest) two
    ∙ (λ i. take (length rest) inner ++ eqb-true (get_or inner (length rest) 0) 13 line.0 i ∷ eqb-true (get_or inner (length rest + 1) 0) 10 line.1 i ∷ [])))

-- What no refusal by the body says.
pub record IsChecked (text : List ℕ) : Type 0 where
  pub characters : each_passes is_body_character text ≡ true
  pub address : is_address (address_of text) ≡ true
  pub checked : written text ≡ Some (checksum (covered text))

checked-from_none : (sum : Option ℕ) (computed : ℕ) → checksum_refusal sum computed ≡ None → sum ≡ Some computed
checked-from_none None computed h = absurd (cc)
checked-from_none (Some sum) computed h = by_test (eqb sum computed) refl h
  where
    by_test : (t : Bool) → eqb sum computed ≡ t → cond t None (Some (Wrong sum computed)) ≡ None → Some sum ≡ Some computed
    by_test true e h = ap Some (eqb-true sum computed e)
    by_test false e h = absurd (cc)

IsChecked-from_refusal : (text : List ℕ) → body_refusal text ≡ None → IsChecked text
unfolding body_refusal
IsChecked-from_refusal text h =
    let characters = row_none (not (each_passes is_body_character text)) Character _ h in
    let address = row_none (not (is_address (address_of text))) Address _ characters.1 in
    record {
      characters = not-false (each_passes is_body_character text) characters.0;
      address = not-false (is_address (address_of text)) address.0;
      checked = checked-from_none (written text) (checksum (covered text)) address.1;
    }

body_refusal-none : (text : List ℕ) → IsChecked text → body_refusal text ≡ None
unfolding body_refusal
body_refusal-none text h =
    rows (each_passes is_body_character text) (is_address (address_of text)) (written text) (checksum (covered text)) h.characters h.address h.checked
  where
    rows : (a b : Bool) (sum : Option ℕ) (computed : ℕ) → a ≡ true → b ≡ true → sum ≡ Some computed → cond (not a) (Some Character) (cond (not b) (Some Address) (checksum_refusal sum computed)) ≡ None
    rows a b sum computed ea eb es = rw (ea, eb, es, eq-eqb computed computed refl) refl

pub address_of-covered : (text : List ℕ) → IsChecked text → address_of text ≡ address_of (covered text)
address_of-covered text checked =
    let field = HasField-from_written text (checksum (covered text)) checked.checked in
    ap address_of field.spelled ∙ address_of-before_star (covered text) (field.high ∷ field.low ∷ [])

-- The content that a body with its checksum has, under a start.
pub legal_content : (start : ℕ) (text : List ℕ) → is_start start ≡ true → length text ≤ 79 → IsChecked text → IsContent start (covered text)
legal_content start text begins short checked =
    let field = HasField-from_written text (checksum (covered text)) checked.checked in
    let tail = 42 ∷ field.high ∷ field.low ∷ [] in
    record {
      begins = begins;
      short = omega (arith, short, ap length field.spelled, length-append (covered text) tail);
      characters = characters_of_content (covered text) field.high field.low (sym (ap (each_passes is_body_character) field.spelled) ∙ checked.characters);
      address = ap is_address (sym (address_of-covered text checked)) ∙ checked.address;
    }

pub IsSentence-from_none : (bytes : List ℕ) → frame_refusal bytes ≡ None → body_refusal (body bytes) ≡ None → IsSentence bytes (get_or bytes 0 0) (covered (body bytes))
IsSentence-from_none bytes f b =
    let framed = IsFramed-from_refusal bytes f in
    let spelled = spelled-from_framed bytes framed in
    let checked = IsChecked-from_refusal (body bytes) b in
    let short : length (body bytes) ≤ 79 = omega (arith, framed.short, ap length spelled, length-append (body bytes) (13 ∷ 10 ∷ [])) in
    record {
      legal = legal_content (get_or bytes 0 0) (body bytes) framed.begins short checked;
      body = body bytes;
      checksum = HasField-from_written (body bytes) (checksum (covered (body bytes))) checked.checked;
      spelled = spelled;
    }

-- What the parts of bytes that are not refused make.
pub IsSentence-from_parts : (bytes : List ℕ) (start : ℕ) (text content : List ℕ) → frame_refusal bytes ≡ None → start ≡ get_or bytes 0 0 → text ≡ body bytes
    → body_refusal text ≡ None → content ≡ covered text → IsSentence bytes start content
IsSentence-from_parts bytes start text content framed begins is_body checked covers =
    let P : ℕ × List ℕ → Type 0 = λ (s, c). IsSentence bytes s c in
    subst P (λ i. (sym begins i, (ap covered (sym is_body) ∙ sym covers) i)) (IsSentence-from_none bytes framed (ap body_refusal (sym is_body) ∙ checked))

-- A text between a start and a CR LF.
module _ (start : ℕ) (text : List ℕ) where
  abbrev line_of : List ℕ
  line_of = start ∷ (text ++ 13 ∷ 10 ∷ [])

  body-line_of : body line_of ≡ text
  unfolding body
  body-line_of =
      let n : length line_of - 3 ≡ length text = omega (arith, length-append text (13 ∷ 10 ∷ [])) in
      rw n (take-append_seam text (13 ∷ 10 ∷ []))

  ends_line-line_of : ends_line line_of ≡ true
  ends_line-line_of =
      let cr : length line_of - 2 ≡ suc (length text) = omega (arith, length-append text (13 ∷ 10 ∷ [])) in
      let lf : length line_of - 1 ≡ suc (length text + 1) = omega (arith, length-append text (13 ∷ 10 ∷ [])) in
      rw (cr, lf, get_or-append_seam text 13 (10 ∷ []) 0, get_or-append-add text (13 ∷ 10 ∷ []) 1 0) refl

pub reading-from_sentence : (bytes : List ℕ) (start : ℕ) (content : List ℕ) → IsSentence bytes start content → reading bytes ≡ Ok (record { start = start; content = content })
unfolding reading
reading-from_sentence bytes start content h =
    let tail = 42 ∷ h.checksum.high ∷ h.checksum.low ∷ [] in
    let field = h.checksum.spelled in
    let covers = covered-from_HasField h.body content (checksum content) h.checksum in
    let is_line = h.spelled in
    let framed : frame_refusal (line_of start h.body) ≡ None = frame_refusal-none (line_of start h.body) (record {
      begins = h.legal.begins;
      short = omega (arith, h.legal.short, length-append h.body (13 ∷ 10 ∷ []), ap length field, length-append content tail);
      line = ends_line-line_of start h.body;
    }) in
    let checked : body_refusal h.body ≡ None = body_refusal-none h.body (record {
      characters = ap (each_passes is_body_character) field ∙ characters_of_body content h.checksum.high h.checksum.low (checksum content) h.checksum.digits h.legal.characters;
      address = ap is_address (ap address_of field ∙ address_of-before_star content (h.checksum.high ∷ h.checksum.low ∷ [])) ∙ h.legal.address;
      checked = written-from_HasField h.body content (checksum content) h.checksum ∙ ap (λ text. Some (checksum text)) (sym covers);
    }) in
    ap reading is_line
    ∙ (λ i. unless_refused (option_or (framed i) (body_refusal (body-line_of start h.body i))) (record { start = start; content = covered (body-line_of start h.body i) }))
    ∙ (λ i. unless_refused (checked i) (record { start = start; content = covers i }))

pub reading-refused : (bytes : List ℕ) (bad : Bad) → first_refusal bytes ≡ Some bad → reading bytes ≡ Err bad
unfolding reading
reading-refused bytes bad h = λ i. unless_refused (h i) (record { start = get_or bytes 0 0; content = covered (body bytes) })

pub no_sentence-refused : (bytes : List ℕ) (bad : Bad) → first_refusal bytes ≡ Some bad → (start : ℕ) (content : List ℕ) → IsSentence bytes start content → ⊥
no_sentence-refused bytes bad h start content s =
    let e = sym (reading-refused bytes bad h) ∙ reading-from_sentence bytes start content s in cc

neither : {X : Type 0} (a b : Option X) → option_or a b ≡ None → (a ≡ None) × (b ≡ None)
neither None b h = (refl, h)
neither (Some x) b h = absurd (cc)

accepted : (refusal : Option Bad) (said text : SentenceText) → unless_refused refusal said ≡ Ok text → (refusal ≡ None) × (said ≡ text)
accepted None said text h = (refl, cc)
accepted (Some bad) said text h = absurd (cc)

pub IsSentence-from_reading : (bytes : List ℕ) (text : SentenceText) → reading bytes ≡ Ok text → IsSentence bytes text.start text.content
unfolding reading
IsSentence-from_reading bytes text h =
    let both = accepted (first_refusal bytes) (record { start = get_or bytes 0 0; content = covered (body bytes) }) text h in
    let none = neither (frame_refusal bytes) (body_refusal (body bytes)) both.0 in
    let P : SentenceText → Type 0 = λ t. IsSentence bytes t.start t.content in
    subst P both.1 (IsSentence-from_none bytes none.0 none.1)

rejected : (refusal : Option Bad) (said : SentenceText) (bad : Bad) → unless_refused refusal said ≡ Err bad → refusal ≡ Some bad
rejected None said bad h = absurd (cc)
rejected (Some other) said bad h = cc

pub refused-from_reading : (bytes : List ℕ) (bad : Bad) → reading bytes ≡ Err bad → first_refusal bytes ≡ Some bad
unfolding reading
refused-from_reading bytes bad h = rejected (first_refusal bytes) (record { start = get_or bytes 0 0; content = covered (body bytes) }) bad h
