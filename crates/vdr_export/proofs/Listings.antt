-- Each image is listed as its picture is.
use Rattle.std.proofs.Common.{◌≡◌, ◌≢◌, ◌≤◌, ◌<◌, ◌+◌, ◌-◌, ◌==◌, ◌++◌, ◌&&◌, ◌||◌, ◌∙◌, ℕ, ℤ, suc, List, [], ◌∷◌, length, map, get_or, set, replicate, Bool, true, false, cond, not, Option, Some, None, Ok, refl, sym, ap, subst, arith, if◌then◌else◌, true≢false, fold, unwrap_or, append-nil, append_assoc}
use Rattle.std.specs.Prelude.{bytes_eq, count_by, is_some, codes, nat_le}
use Rattle.vdr_bytes.specs.Numbers.{u16_at}
use Rattle.std.specs.List.{flat_map, range_with_len}
use Rattle.std.specs.Map.{lookup}
use Rattle.std.specs.Option.{option_and_then}
use Rattle.std.proofs.lemmas.Bool.{and_parts, eqb-true, eq-eqb, false_from_ne_true, leb-true}
use Rattle.std.proofs.lemmas.List.{get_or-replicate, get_or-set_other, get_or-set_same, length-replicate, length-set}
use Rattle.std.proofs.lemmas.List.FromFn.{fill_by_all, get_or-map-range_with_len, length-map-range_with_len}
use Rattle.std.proofs.lemmas.List.Sums.{count_by-le-length, sum_by-cons}
use Rattle.std.proofs.lemmas.Slice.Eq.{bytes_eq-Decides}
use Rattle.vdr_terms.specs.Records.{Content, Record}
use Rattle.vdr_terms.specs.Records.Content.{Start, Datagram, Gap, Stop}
use Rattle.vdr_image.specs.Headers.{Header, is_identifier}
use Rattle.vdr_image.specs.Images.{has_image_token, header_at, image_in, is_header, is_image, is_numbered}
use Rattle.vdr_export.specs.Answers.{data_of, first_missing, joined, picture_of, unless_mixed, unless_part}
use Rattle.vdr_export.specs.Collected.{bodies_of}
use Rattle.vdr_export.specs.Laws.{AreListedAs, word_of}
use Rattle.vdr_export.specs.Listings.{Listed, Listing, block_of, listed_as, listing_of, parts_in, same_block, state_word, unseen, with_header, with_part, with_record}
use Rattle.vdr_export.specs.Numbers.{Numbered, mixed_at}
use Rattle.vdr_export.specs.Pictures.{Shown, body_at, greatest_of, header_in, of_block, shown, shown_in}
use Rattle.vdr_export.specs.declared.block.Block.{Block}
use Rattle.vdr_export.proofs.Entries.{found_either_way, found_put}
use Rattle.vdr_export.proofs.Parting.{at_more, else_some, greatest_more}
use Rattle.vdr_export.proofs.Placing.{shown_none, shown_some}
use Rattle.vdr_export.proofs.Sounding.{mixed_other, mixed_same, mixed_stays}

one_block : (a b : Block) → same_block a b ≡ true → a ≡ b
one_block a b e =
    let p = and_parts (bytes_eq a.source b.source) _ e in
    let source : a.source ≡ b.source = (bytes_eq-Decides a.source b.source).0 p.0 in
    let number : a.number ≡ b.number = eqb-true a.number b.number p.1 in
    λ i. record { source = source i; number = number i }

-- A header has a sequence number of 1 or more.
numbered : (bytes : List ℕ) (h : Header) → image_in bytes ≡ Some h → 1 ≤ h.sequence
unfolding image_in
numbered bytes h is = by (is_image bytes) refl is
  where
    by : (b : Bool) → is_image bytes ≡ b → (if b then Some (header_at bytes) else None) ≡ Some h → 1 ≤ h.sequence
    by true e same =
        let header : is_header (header_at bytes) ≡ true =
        (and_parts ((nat_le 32 (length bytes) && has_image_token bytes) && (u16_at 6 bytes == 1)) (is_header (header_at bytes)) e).1 in
        let counts : is_numbered (header_at bytes).sequence (header_at bytes).greatest ≡ true =
        (and_parts (is_identifier (header_at bytes).source && is_identifier (header_at bytes).destination) (is_numbered (header_at bytes).sequence (header_at bytes).greatest) header).1 in
        let order : (nat_le 1 (header_at bytes).sequence && nat_le (header_at bytes).sequence (header_at bytes).greatest) ≡ true =
        (and_parts (nat_le 1 (header_at bytes).sequence && nat_le (header_at bytes).sequence (header_at bytes).greatest) (nat_le (header_at bytes).greatest 65_535) counts).0 in
        let least : nat_le 1 (header_at bytes).sequence ≡ true =
        (and_parts (nat_le 1 (header_at bytes).sequence) (nat_le (header_at bytes).sequence (header_at bytes).greatest) order).0 in
        let own : header_at bytes ≡ h = cc in
        subst (λ (x : Header). 1 ≤ x.sequence) own (leb-true 1 (header_at bytes).sequence least)
    by false e same = let none : ⊥ = cc in absurd none

first_number : (content : Content) (h : Header) → header_in content ≡ Some h → 1 ≤ h.sequence
first_number (Datagram payload) h is = numbered payload h is
first_number Start h is = let none : ⊥ = cc in absurd none
first_number (Gap missed) h is = let none : ⊥ = cc in absurd none
first_number Stop h is = let none : ⊥ = cc in absurd none

-- Of each part, whether it is there.
abbrev flags : ℕ → List Shown → List Bool
flags g ps = map (λ k. is_some (body_at (suc k) ps)) (range_with_len 0 g)

size_of_flags : (g : ℕ) (ps : List Shown) → length (flags g ps) ≡ g
size_of_flags g ps = length-map-range_with_len (λ k. is_some (body_at (suc k) ps)) 0 g

flag_in : (g : ℕ) (ps : List Shown) (k : ℕ) → k < g → get_or (flags g ps) k false ≡ is_some (body_at (suc k) ps)
flag_in g ps k low = get_or-map-range_with_len (λ k. is_some (body_at (suc k) ps)) 0 g k k false low (omega arith)

no_flags : (g : ℕ) → replicate g false ≡ flags g []
no_flags g = fill_by_all (λ k. is_some (body_at (suc k) [])) (replicate g false) g false (length-replicate g false) (λ k low. get_or-replicate g k false false low)

module _ (g : ℕ) (ps : List Shown) (p : Shown) (first : 1 ≤ p.header.sequence) where
  abbrev slot : ℕ
  slot = p.header.sequence - 1

  some_later : (o : Option (List ℕ)) (body : List ℕ) → is_some (else_some o (Some body)) ≡ true
  some_later None body = refl
  some_later (Some x) body = refl

  none_later : (o : Option (List ℕ)) → else_some o None ≡ o
  none_later None = refl
  none_later (Some x) = refl

  each : (k : ℕ) → k < g → get_or (set (flags g ps) slot true) k false ≡ is_some (body_at (suc k) (ps ++ p ∷ []))
  each k low = by (p.header.sequence == suc k) refl
    where
      size : length (flags g ps) ≡ g
      size = size_of_flags g ps

      by : (b : Bool) → (p.header.sequence == suc k) ≡ b → get_or (set (flags g ps) slot true) k false ≡ is_some (body_at (suc k) (ps ++ p ∷ []))
      by true is =
          let same : p.header.sequence ≡ suc k = eqb-true p.header.sequence (suc k) is in
          let at : k ≡ slot = omega (arith, same, first) in
          ap (λ (i : ℕ). get_or (set (flags g ps) slot true) i false) at ∙ get_or-set_same (flags g ps) slot true false (omega (arith, low, at, size))
          ∙ sym (ap is_some (at_more (suc k) ps p ∙ ap (λ (b : Bool). else_some (body_at (suc k) ps) (if b then Some p.header.body else None)) is) ∙ some_later (body_at (suc k) ps) p.header.body)
      by false is =
          let other : k ≢ slot = λ e. let no : true ≡ false = sym (eq-eqb p.header.sequence (suc k) (omega (arith, e, first))) ∙ is in true≢false no in
          get_or-set_other (flags g ps) slot k true false other ∙ flag_in g ps k low
          ∙ sym (ap is_some (at_more (suc k) ps p ∙ ap (λ (b : Bool). else_some (body_at (suc k) ps) (if b then Some p.header.body else None)) is ∙ none_later (body_at (suc k) ps)))

  flags_more : set (flags g ps) slot true ≡ flags g (ps ++ p ∷ [])
  flags_more = fill_by_all (λ k. is_some (body_at (suc k) (ps ++ p ∷ []))) (set (flags g ps) slot true) g false (length-set (flags g ps) slot true ∙ size_of_flags g ps) each

-- What is kept of an image whose parts are these.
record IsKeptAs (p : Shown) (ps : List Shown) (x : Listed) : Type 0 where
  had : x.had ≡ flags p.header.greatest (p ∷ ps)
  mixed : x.mixed ≡ is_some (mixed_at (greatest_of (p ∷ ps)))

abbrev AreKeptAs : List Shown → Option Listed → Type 0
AreKeptAs [] x = x ≡ None
AreKeptAs (p ∷ ps) None = ⊥
AreKeptAs (p ∷ ps) (Some x) = IsKeptAs p ps x

abbrev one_of : Shown → Numbered
one_of s = record { place = s.place; number = s.header.greatest }

more : (utc : ℤ) (s : Shown) → 1 ≤ s.header.sequence → (ps : List Shown) (o : Option Listed) → AreKeptAs ps o → AreKeptAs (ps ++ s ∷ []) (Some (with_part s.header (unwrap_or o (unseen utc s.header))))
more utc s first [] None h = record {
  had = ap (λ (l : List Bool). set l (s.header.sequence - 1) true) (no_flags s.header.greatest) ∙ flags_more s.header.greatest [] s first;
  mixed = ap (λ (n : ℕ). not (s.header.greatest == n)) (length-replicate s.header.greatest false) ∙ ap not (eq-eqb s.header.greatest s.header.greatest refl);
}
more utc s first [] (Some x) h = let none : ⊥ = cc in absurd none
more utc s first (p ∷ ps) None h = absurd h
more utc s first (p ∷ ps) (Some x) h = record {
  had = ap (λ (l : List Bool). set l (s.header.sequence - 1) true) h.had ∙ flags_more p.header.greatest (p ∷ ps) s first;
  mixed = (λ i. h.mixed i || not (s.header.greatest == (ap (λ (l : List Bool). length l) h.had ∙ size_of_flags p.header.greatest (p ∷ ps)) i))
      ∙ by (mixed_at (greatest_of (p ∷ ps))) refl (s.header.greatest == p.header.greatest) refl ∙ sym (ap (λ (l : List Numbered). is_some (mixed_at l)) (greatest_more (p ∷ ps) s));
}
  where
    by : (o : Option ℕ) → mixed_at (greatest_of (p ∷ ps)) ≡ o → (b : Bool) → (s.header.greatest == p.header.greatest) ≡ b
        → (is_some (mixed_at (greatest_of (p ∷ ps))) || not (s.header.greatest == p.header.greatest)) ≡ is_some (mixed_at (greatest_of (p ∷ ps) ++ one_of s ∷ []))
    by (Some place) is b same =
        ap (λ (o : Option ℕ). is_some o || not (s.header.greatest == p.header.greatest)) is ∙ sym (ap (λ (o : Option ℕ). is_some o) (mixed_stays (greatest_of (p ∷ ps)) (one_of s ∷ []) place is))
    by None is true same =
        (λ i. is_some (is i) || not (same i)) ∙ sym (ap (λ (o : Option ℕ). is_some o) (mixed_same (greatest_of (p ∷ ps)) (one_of s) p.header.greatest is refl same))
    by None is false same =
        (λ i. is_some (is i) || not (same i)) ∙ sym (ap (λ (o : Option ℕ). is_some o) (mixed_other (greatest_of (p ∷ ps)) (one_of s) p.header.greatest is refl same))

abbrev part_as : Record → Header → Shown
part_as r q = record { place = r.place; header = q }

abbrev put_as : Record → Listing → Header → Listed
put_as r images q = with_part q (listed_as images r.utc q)

module _ (block : Block) (seen : List Record) (r : Record) (images : Listing) (h : AreKeptAs (shown block seen) (lookup (λ b. same_block b block) images)) where
  abbrev found : Listing → Option Listed
  found l = lookup (λ b. same_block b block) l

  step : (o : Option Header) → header_in r.content ≡ o → AreKeptAs (shown block (seen ++ r ∷ [])) (found (with_header r.utc images o))
  step None is = shown_none (λ (ps : List Shown). AreKeptAs ps (found images)) block seen r (ap (λ (o : Option Header). option_and_then (of_block block r.place) o) is) h
  step (Some q) is = by (same_block (block_of q) block) refl
    where
      by : (b : Bool) → same_block (block_of q) block ≡ b → AreKeptAs (shown block (seen ++ r ∷ [])) (found (with_header r.utc images (Some q)))
      by true e =
          let shows : shown_in block r ≡ Some (part_as r q) = ap (λ (o : Option Header). option_and_then (of_block block r.place) o) is ∙ ap (λ (b : Bool). if b then Some (part_as r q) else None) e in
          let own : lookup (same_block (block_of q)) images ≡ found images = found_either_way same_block one_block (block_of q) images ∙ ap (λ (k : Block). lookup (λ b. same_block b k) images) (one_block (block_of q) block e) in
          let now : found (with_header r.utc images (Some q)) ≡ Some (with_part q (unwrap_or (found images) (unseen r.utc q))) =
          found_put same_block one_block images (block_of q) block (put_as r images q) ∙ ap (λ (b : Bool). if b then Some (put_as r images q) else found images) e
          ∙ ap (λ (o : Option Listed). Some (with_part q (unwrap_or o (unseen r.utc q)))) own in
          shown_some (λ (ps : List Shown). AreKeptAs ps (found (with_header r.utc images (Some q)))) block seen r (part_as r q) shows
          (subst (AreKeptAs (shown block seen ++ part_as r q ∷ [])) (sym now) (more r.utc (part_as r q) (first_number r.content q is) (shown block seen) (found images) h))
      by false e =
          let shows : shown_in block r ≡ None = ap (λ (o : Option Header). option_and_then (of_block block r.place) o) is ∙ ap (λ (b : Bool). if b then Some (part_as r q) else None) e in
          let now : found (with_header r.utc images (Some q)) ≡ found images =
          found_put same_block one_block images (block_of q) block (put_as r images q) ∙ ap (λ (b : Bool). if b then Some (put_as r images q) else found images) e in
          shown_none (λ (ps : List Shown). AreKeptAs ps (found (with_header r.utc images (Some q)))) block seen r shows (subst (AreKeptAs (shown block seen)) (sym now) h)

all_kept : (block : Block) (seen records : List Record) (images : Listing) → AreKeptAs (shown block seen) (lookup (λ b. same_block b block) images)
    → AreKeptAs (shown block (seen ++ records)) (lookup (λ b. same_block b block) (fold with_record images records))
all_kept block seen [] images h = subst (λ (rs : List Record). AreKeptAs (shown block rs) (lookup (λ b. same_block b block) images)) (sym (append-nil seen)) h
all_kept block seen (r ∷ records) images h =
    subst (λ (rs : List Record). AreKeptAs (shown block rs) (lookup (λ b. same_block b block) (fold with_record (with_record images r) records))) (append_assoc seen (r ∷ []) records)
    (all_kept block (seen ++ r ∷ []) records (with_record images r) (step block seen r images h (header_in r.content) refl))

-- From what is kept to what is told.
counted : (ks : List ℕ) (f : ℕ → Option (List ℕ)) → count_by (λ there. there) (map (λ k. is_some (f k)) ks) ≡ count_by is_some (map f ks)
counted [] f = refl
counted (k ∷ ks) f =
    sum_by-cons (λ b. cond b 1 0) (is_some (f k)) (map (λ k. is_some (f k)) ks) ∙ ap (λ (n : ℕ). cond (is_some (f k)) 1 0 + n) (counted ks f)
    ∙ sym (sum_by-cons (λ o. cond (is_some o) 1 0) (f k) (map f ks))

-- None is missing where all are there, and only there.
all_there : (n : ℕ) (bs : List (Option (List ℕ))) → first_missing n bs ≡ None → count_by is_some bs ≡ length bs
all_there n [] none = refl
all_there n (None ∷ bs) none = let no : ⊥ = cc in absurd no
all_there n (Some b ∷ bs) none =
    let all = all_there (n + 1) bs none in
    sum_by-cons (λ o. cond (is_some o) 1 0) (Some b) bs ∙ omega (arith, all)

not_all : (n k : ℕ) (bs : List (Option (List ℕ))) → first_missing n bs ≡ Some k → count_by is_some bs < length bs
not_all n k [] is = let no : ⊥ = cc in absurd no
not_all n k (None ∷ bs) is =
    let count = sum_by-cons (λ o. cond (is_some o) 1 0) None bs in
    let few : count_by is_some bs ≤ length bs = count_by-le-length is_some bs in
    omega (arith, count, few)
not_all n k (Some b ∷ bs) is =
    let count = sum_by-cons (λ o. cond (is_some o) 1 0) (Some b) bs in
    let few = not_all (n + 1) k bs is in
    omega (arith, count, few)

word_told : (x : Listed) (p : Shown) (ps : List Shown) → parts_in x.had ≡ count_by is_some (bodies_of (p ∷ ps)) → length x.had ≡ length (bodies_of (p ∷ ps)) → x.mixed ≡ is_some (mixed_at (greatest_of (p ∷ ps)))
    → state_word x ≡ word_of (picture_of (p ∷ ps))
word_told x p ps parts size mixed = by (mixed_at (greatest_of (p ∷ ps))) refl (first_missing 1 (bodies_of (p ∷ ps))) refl
  where
    told : (m : Bool) → x.mixed ≡ m → state_word x ≡ (if m then codes "mixed" else if parts_in x.had == length x.had then codes "complete" else codes "part")
    told m is = ap (λ (b : Bool). if b then codes "mixed" else if parts_in x.had == length x.had then codes "complete" else codes "part") is

    all_or : (b : Bool) → (parts_in x.had == length x.had) ≡ b → (if parts_in x.had == length x.had then codes "complete" else codes "part") ≡ (if b then codes "complete" else codes "part")
    all_or b is = ap (λ (b : Bool). if b then codes "complete" else codes "part") is

    by : (m : Option ℕ) → mixed_at (greatest_of (p ∷ ps)) ≡ m → (f : Option ℕ) → first_missing 1 (bodies_of (p ∷ ps)) ≡ f → state_word x ≡ word_of (picture_of (p ∷ ps))
    by (Some place) is f first = told true (mixed ∙ ap (λ (o : Option ℕ). is_some o) is) ∙ sym (ap (λ (o : Option ℕ). word_of (unless_mixed o (joined (bodies_of (p ∷ ps))))) is)
    by None is None first =
        told false (mixed ∙ ap (λ (o : Option ℕ). is_some o) is) ∙ all_or true (eq-eqb (parts_in x.had) (length x.had) (parts ∙ all_there 1 (bodies_of (p ∷ ps)) first ∙ sym size))
        ∙ sym (ap (λ (o : Option ℕ). word_of (unless_mixed o (joined (bodies_of (p ∷ ps))))) is ∙ ap (λ (o : Option ℕ). word_of (unless_part o (Ok (flat_map data_of (bodies_of (p ∷ ps)))))) first)
    by None is (Some k) first =
        let few = not_all 1 k (bodies_of (p ∷ ps)) first in
        told false (mixed ∙ ap (λ (o : Option ℕ). is_some o) is)
        ∙ all_or false (false_from_ne_true (parts_in x.had == length x.had) (λ e. let same = eqb-true (parts_in x.had) (length x.had) e in let no : ⊥ = omega (arith, few, same, parts, size) in no))
        ∙ sym (ap (λ (o : Option ℕ). word_of (unless_mixed o (joined (bodies_of (p ∷ ps))))) is ∙ ap (λ (o : Option ℕ). word_of (unless_part o (Ok (flat_map data_of (bodies_of (p ∷ ps)))))) first)

told_as : (ps : List Shown) (o : Option Listed) → AreKeptAs ps o → AreListedAs ps o
told_as [] o h = h
told_as (p ∷ ps) None h = h
told_as (p ∷ ps) (Some x) h =
    let parts : parts_in x.had ≡ count_by is_some (bodies_of (p ∷ ps)) = ap parts_in h.had ∙ counted (range_with_len 0 p.header.greatest) (λ k. body_at (suc k) (p ∷ ps)) in
    let size : length x.had ≡ length (bodies_of (p ∷ ps)) =
    ap (λ (l : List Bool). length l) h.had ∙ size_of_flags p.header.greatest (p ∷ ps) ∙ sym (length-map-range_with_len (λ k. body_at (suc k) (p ∷ ps)) 0 p.header.greatest) in
    record { parts = parts; greatest = size; word = word_told x p ps parts size h.mixed }

pub all_listed : (block : Block) (records : List Record) → AreListedAs (shown block records) (lookup (λ b. same_block b block) (listing_of records))
all_listed block records = told_as (shown block records) (lookup (λ b. same_block b block) (listing_of records)) (all_kept block [] records [] refl)
