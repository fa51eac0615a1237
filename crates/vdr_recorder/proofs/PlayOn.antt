-- A turn of a play that prints a part of it.
use Rattle.std.proofs.Common.{◌≡◌, ◌≤◌, ◌<◌, inl, inr, ℕ, suc, List, [], ◌∷◌, ◌++◌, Contains, Some, Ok, Err, refl, sym, ap, ◌∙◌, subst, arith, append_assoc, append-nil, ◌&&◌, nat_le}
use Rattle.std.proofs.lemmas.Bool.{and_parts, leb-true}
use Rattle.std.proofs.lemmas.List.Elements.{Contains-append_left}
use Rattle.vdr_terms.specs.Order.{AreInOrder}
use Rattle.vdr_terms.specs.Queries.{Query, in_span, matches}
use Rattle.vdr_terms.specs.Queries.Span.{Places}
use Rattle.vdr_terms.specs.Records.{Record, last}
use Rattle.vdr_core.specs.Histories.{Event, Opening, all_records, recorded, records_of_act}
use Rattle.vdr_durability.proofs.Lists.{contains_here, contains_there, filter_test, last_contained}
use Rattle.vdr_durability.proofs.Ordered.{filter_in_order, parts_in_order}
use Rattle.vdr_durability.specs.Playback.{found, medium_of, selected}
use Rattle.vdr_outside.specs.Disk.{Disk}
use Rattle.vdr_directory.specs.Lookup.{HoldAll}
use Rattle.vdr_directory.specs.Sequence.{Placed}
use Rattle.vdr_directory.specs.Sequence as directory
use Rattle.vdr_entry.specs.declared.query.Query.{Query as Asked}
use Rattle.vdr_entry.specs.Queries.{asked, asked_medium}
use Rattle.vdr_play.specs.Streams.{Seen, nothing_seen}
use Rattle.vdr_play.specs.Texts.{records_text, seen_by}
use Rattle.vdr_ring.specs.declared.refused.ReadRefused.{ReadRefused}
use Rattle.vdr_ring.specs.declared.refused.ReadRefused.TheVariants.{Damaged, Fault}
use Rattle.vdr_vault.proofs.SavePlaces.{before_last}
use Rattle.vdr_vault.proofs.Stretched.{closed_on, order_on, still_held, still_later}
use Rattle.vdr_vault.proofs.Stretching.{none_at, places_split}
use Rattle.vdr_vault.specs.Stretches.{IsClosed, still_selected}
use Rattle.vdr_vault.specs.Vaults.{IsReadable, VaultState}
use Rattle.vdr_vault.specs.declared.stretch.Stretch.{Stretch}
use Rattle.vdr_recorder.proofs.PlayParts.{seen_joined, text_joined}
use Rattle.vdr_recorder.specs.Resuming.{EndsAt, HasPlayedOn, HasPrintedPart, IsCutPlay, IsPlaying, Passes}
use Rattle.vdr_recorder.specs.declared.resume.Going.{Going}
use Rattle.vdr_recorder.specs.declared.resume.OpenPlay.{OpenPlay}

-- Two cuts of one list at one place are one.
same_front : (n : ℕ) (xs ys cs bs : List Record) → xs ++ ys ≡ cs ++ bs → ((r : Record) → Contains xs r → r.place ≤ n) → ((r : Record) → Contains ys r → n < r.place)
    → ((r : Record) → Contains cs r → r.place ≤ n) → ((r : Record) → Contains bs r → n < r.place) → xs ≡ cs
same_front n [] ys [] bs same low high below above = refl
same_front n [] ys (a ∷ cs) bs same low high below above =
    let l = high a (subst (λ (l : List Record). Contains l a) (sym same) (contains_here a (cs ++ bs))) in let k = below a (contains_here a cs) in absurd (omega (arith, l, k))
same_front n (x ∷ xs) ys [] bs same low high below above =
    let l = above x (subst (λ (l : List Record). Contains l x) same (contains_here x (xs ++ ys))) in let k = low x (contains_here x xs) in absurd (omega (arith, l, k))
same_front n (x ∷ xs) ys (a ∷ cs) bs same low high below above =
    let head : x ≡ a = cc in
    let tail : xs ++ ys ≡ cs ++ bs = cc in
    let rest = same_front n xs ys cs bs tail (λ r m. low r (contains_there x xs r m)) high (λ r m. below r (contains_there a cs r m)) above in
    ap (λ (r : Record). r ∷ xs) head ∙ ap (λ (rs : List Record). a ∷ rs) rest

-- What is selected at places of a list in order

module _ (query : Query) (xs : List Record) (order : AreInOrder xs) where
  abbrev at : (a b : ℕ) → List Record
  at a b = found query (Some (Places a b)) xs

  is_at : (a b : ℕ) (r : Record) → Contains (at a b) r → (a ≤ r.place) × (r.place ≤ b)
  is_at a b r m =
      let p = and_parts (in_span (Places a b) r) (matches query r) (filter_test (λ r. in_span (Places a b) r && matches query r) xs r m) in
      let q = and_parts (nat_le a r.place) (nat_le r.place b) p.0 in (leb-true a r.place q.0, leb-true r.place b q.1)

  module _ (a end b : ℕ) (low : a ≤ end) (high : end ≤ b) (front rest : List Record) (upto : ℕ) (split : at a end ≡ front ++ rest) where
    -- The first of them are those up to the place at which they end.
    pub within : EndsAt front rest upto end → (a ≤ upto) × (upto ≤ end)
    within (inl (none, is)) = (omega (arith, is, low), omega (arith, is))
    within (inr (r, ends, is)) =
        let p = is_at a end r (subst (λ (l : List Record). Contains l r) (sym split) (Contains-append_left front rest r (last_contained front r ends))) in
        let from = p.0 in let to = p.1 in (omega (arith, from, is), omega (arith, to, is))

    pub left_behind : EndsAt front rest upto end → at a b ≡ front ++ at (suc upto) b
    left_behind (inl (none, is)) =
        places_split query a b end high (omega (arith, low)) xs order
        ∙ ap (λ (rs : List Record). rs ++ at (suc end) b) (split ∙ ap (λ (rs : List Record). front ++ rs) none ∙ append-nil front)
        ∙ ap (λ (n : ℕ). front ++ at (suc n) b) (sym is)
    left_behind (inr (r, ends, is)) =
        let w = within (inr (r, ends, is)) in
        let from = w.0 in let to = w.1 in
        let parts = parts_in_order front rest (subst AreInOrder split (filter_in_order (λ r. in_span (Places a end) r && matches query r) xs order)) in
        let first : at a upto ≡ front =
        same_front upto (at a upto) (at (suc upto) end) front rest (sym (places_split query a end upto to (omega (arith, from)) xs order) ∙ split)
        (λ x m. (is_at a upto x m).1)
        (λ x m. let l = (is_at (suc upto) end x m).0 in omega (arith, l))
        (λ x m. let l = (before_last front r x parts.0 ends m).0 in omega (arith, l, is))
        (λ x m. let l = (parts.2 r x (last_contained front r ends) m).0 in omega (arith, l, is)) in
        places_split query a b upto (omega (arith, to, high)) (omega (arith, from)) xs order ∙ ap (λ (rs : List Record). rs ++ at (suc upto) b) first

-- What earlier events recorded is in order too.

recorded_on : (before later : List Event) → recorded (before ++ later) ≡ recorded before ++ recorded later
recorded_on [] later = refl
recorded_on (e ∷ before) later = ap (λ (rs : List Record). records_of_act e.act ++ rs) (recorded_on before later) ∙ sym (append_assoc (records_of_act e.act) (recorded before) (recorded later))

order_before : (opening : Opening) (m : ℕ) (before later : List Event) → AreInOrder (all_records opening m (before ++ later)) → AreInOrder (all_records opening m before)
order_before opening m before later order = (parts_in_order (all_records opening m before) (recorded later) (subst AreInOrder
    (ap (λ (rs : List Record). opening.records m ++ rs) (recorded_on before later) ∙ sym (append_assoc (opening.records m) (recorded before) (recorded later))) order)).0

closed_within : (opening : Opening) (events : List Event) (query : Query) (s t : Stretch) → s.next ≤ t.last → t.last ≤ s.last → IsClosed opening events query s → IsClosed opening events query t
closed_within opening events query s t low high (inl less) = absurd (omega (arith, less, low, high))
closed_within opening events query s t low high (inr (newest, ends, up)) = inr (newest, ends, omega (arith, up, high))

module _ {tells tells_images : Type 0} (opening : Opening) (before later : List Event) (vault : VaultState) (placed : ℕ → List Placed) (disk : Disk tells tells_images)
    (readable : IsReadable opening (before ++ later) vault placed disk) (printed : List ℕ) (p : OpenPlay) (playing : IsPlaying opening before printed p) where
  abbrev medium : ℕ
  medium = medium_of (asked_medium p.query.medium)

  abbrev all : List Record
  all = all_records opening medium before

  ordered : AreInOrder all
  ordered = order_before opening medium before later (order_on opening (before ++ later) vault placed disk readable p.query.medium)

  -- What stands on the medium of a part that stands there whole.
  held_part : (end : ℕ) → p.stretch.next ≤ end → end ≤ p.stretch.last → HoldAll p.stretch.next p.stretch.last (placed medium)
      → found (asked p.query) (Some (Places p.stretch.next end)) (directory.all_records (placed medium)) ≡ found (asked p.query) (Some (Places p.stretch.next end)) all
  held_part end low high holds =
      let part : Stretch = record { next = p.stretch.next; last = end } in
      still_held opening (before ++ later) vault placed disk readable p.query part (λ place from to. holds place from (omega (arith, to, high)))
      ∙ still_later opening before later (asked p.query) part (order_on opening (before ++ later) vault placed disk readable p.query.medium)
      (closed_within opening before (asked p.query) p.stretch part low high playing.closed)

  -- More records are printed behind those before them.
  text_on : (front : List Record) → printed ++ records_text p.tracks front ≡ records_text nothing_seen (playing.front ++ front)
  text_on front =
      ap (λ (t : List ℕ). t ++ records_text p.tracks front) playing.text
      ∙ ap (λ (s : Seen). records_text nothing_seen playing.front ++ records_text s front) playing.seen
      ∙ sym (text_joined nothing_seen playing.front front)

  -- Nothing more is left.
  pub all_gone_on : HoldAll p.stretch.next p.stretch.last (placed medium) → found (asked p.query) (Some (Places p.stretch.next p.stretch.last)) (directory.all_records (placed medium)) ≡ []
      → printed ++ [] ≡ records_text nothing_seen (selected opening before (asked p.query))
  all_gone_on holds none =
      let left : still_selected opening before (asked p.query) p.stretch ≡ [] =
      sym (still_held opening (before ++ later) vault placed disk readable p.query p.stretch holds
      ∙ still_later opening before later (asked p.query) p.stretch (order_on opening (before ++ later) vault placed disk readable p.query.medium) playing.closed) ∙ none in
      append-nil printed ∙ playing.text
      ∙ ap (records_text nothing_seen) (sym (playing.selects ∙ ap (λ (rs : List Record). playing.front ++ rs) left ∙ append-nil playing.front))

  module _ (end : ℕ) (low : p.stretch.next ≤ end) (high : end ≤ p.stretch.last) (holds : HoldAll p.stretch.next p.stretch.last (placed medium)) where
    abbrev part : List Record
    part = found (asked p.query) (Some (Places p.stretch.next end)) (directory.all_records (placed medium))

    -- A part is printed up to a place.
    pub passed_so : (upto : ℕ) (now : OpenPlay) (seen : Seen) (was more : List ℕ) (going : Going) → HasPrintedPart part end p.tracks seen was more (Ok upto) → now.query ≡ p.query → now.tracks ≡ seen
        → (p.stretch.next ≤ upto → Passes p.stretch now.stretch upto going)
        → (added : List ℕ) × (more ≡ was ++ added) × HasPlayedOn opening before (printed ++ added) now (Ok going)
    passed_so upto now seen was more going (front, rest, split, text, seen_is, ends) same tracks passes =
        let split_is : found (asked p.query) (Some (Places p.stretch.next end)) all ≡ front ++ rest = sym (held_part end low high holds) ∙ split in
        let w = within (asked p.query) all ordered p.stretch.next end p.stretch.last low high front rest upto split_is ends in
        let left = left_behind (asked p.query) all ordered p.stretch.next end p.stretch.last low high front rest upto split_is ends in
        (records_text p.tracks front, text, by w.0 left (passes w.0))
      where
        by : p.stretch.next ≤ upto → found (asked p.query) (Some (Places p.stretch.next p.stretch.last)) all ≡ front ++ found (asked p.query) (Some (Places (suc upto) p.stretch.last)) all
            → Passes p.stretch now.stretch upto going → HasPlayedOn opening before (printed ++ records_text p.tracks front) now (Ok going)
        by above left (inl (is, high)) = subst (λ (g : Going). HasPlayedOn opening before (printed ++ records_text p.tracks front) now (Ok g)) (sym is)
            (text_on front ∙ ap (records_text nothing_seen)
            (sym (ap (λ (q : Asked). selected opening before (asked q)) same ∙ playing.selects
            ∙ ap (λ (rs : List Record). playing.front ++ rs) (left ∙ ap (λ (rs : List Record). front ++ rs) (none_at (asked p.query) (suc upto) p.stretch.last all (omega (arith, high))) ∙ append-nil front))))
        by above left (inr (is, less, next, last)) = subst (λ (g : Going). HasPlayedOn opening before (printed ++ records_text p.tracks front) now (Ok g)) (sym is) (record {
          front = playing.front ++ front;
          selects = ap (λ (q : Asked). selected opening before (asked q)) same ∙ playing.selects
              ∙ ap (λ (rs : List Record). playing.front ++ rs) (left ∙ (λ i. front ++ found (asked (sym same i)) (Some (Places (sym next i) (sym last i))) (all_records opening (medium_of (asked_medium (sym same i).medium)) before)))
              ∙ sym (append_assoc playing.front front (still_selected opening before (asked now.query) now.stretch));
          text = text_on front;
          seen = tracks ∙ seen_is ∙ ap (λ (s : Seen). seen_by s front) playing.seen ∙ sym (seen_joined nothing_seen playing.front front);
          closed = subst (λ (q : Asked). IsClosed opening before (asked q) now.stretch) (sym same) (closed_on opening before (asked p.query) p.stretch now.stretch (omega (arith, next, above)) last playing.closed);
        })

    -- Printing it was refused.
    pub refused_on : (now : OpenPlay) (seen : Seen) (was more : List ℕ) (refused : ReadRefused) → HasPrintedPart part end p.tracks seen was more (Err refused) → now.query ≡ p.query
        → (added : List ℕ) × (more ≡ was ++ added) × HasPlayedOn opening before (printed ++ added) now (Err refused)
    refused_on now seen was more Fault (front, rest, split, text) same =
        let split_is : found (asked p.query) (Some (Places p.stretch.next end)) all ≡ front ++ rest = sym (held_part end low high holds) ∙ split in (
          records_text p.tracks front,
          text,
          subst (λ (q : Asked). IsCutPlay opening before (asked q) (printed ++ records_text p.tracks front)) (sym same) (record {
            front = playing.front ++ front;
            rest = rest ++ found (asked p.query) (Some (Places (suc end) p.stretch.last)) all;
            selects = playing.selects
                ∙ ap (λ (rs : List Record). playing.front ++ rs) (places_split (asked p.query) p.stretch.next p.stretch.last end high (omega (arith, low)) all ordered
                ∙ ap (λ (rs : List Record). rs ++ found (asked p.query) (Some (Places (suc end) p.stretch.last)) all) split_is
                ∙ append_assoc front rest (found (asked p.query) (Some (Places (suc end) p.stretch.last)) all))
                ∙ sym (append_assoc playing.front front (rest ++ found (asked p.query) (Some (Places (suc end) p.stretch.last)) all));
            text = text_on front;
          }),
        )
    refused_on now seen was more (Damaged m offset) none same = absurd none
