-- Printing the records of a part of a play, one after another.
use Rattle.std.proofs.Common.{◌≡◌, ◌≤◌, ◌<◌, ◌+◌, ◌⊎◌, inl, inr, ⊎_elim, ℕ, List, [], ◌∷◌, ◌++◌, length, get_or, Bool, true, false, Option, Some, None, Result, Ok, Err, refl, sym, ap, ◌∙◌, subst, arith, append_assoc, append-nil, length-append}
use Rattle.std.proofs.lemmas.Option.{same_Some}
use Rattle.std.specs.Io.KnownBytes.{Appends}
use Rattle.std.specs.Prelude.{OnOk}
use Rattle.std.specs.Bool.{⊤}
use Rattle.vdr_terms.specs.Queries.{Query}
use Rattle.vdr_terms.specs.Queries.Span.{Places}
use Rattle.vdr_terms.specs.Records.{Record, last}
use Rattle.vdr_core.specs.Histories.{Event, Opening}
use Rattle.vdr_durability.specs.Playback.{found, medium_of}
use Rattle.vdr_directory.specs.Sequence.{Placed, all_records}
use Rattle.vdr_outside.specs.Causes.{HasCause, NoneFalls}
use Rattle.vdr_outside.specs.Writes.{AppendsFront}
use Rattle.vdr_outside.specs.declared.fault.Failed.{Failed}
use Rattle.vdr_outside.specs.declared.media.Media.{Ghosts as MediaTells}
use Rattle.vdr_play.specs.Streams.{Seen, seen_after}
use Rattle.vdr_play.specs.Texts.{record_text, records_text, seen_by}
use Rattle.vdr_ring.specs.Budgets.{budget}
use Rattle.vdr_ring.specs.Visits.{StandsAmong}
use Rattle.vdr_ring.specs.Rings.{RingState}
use Rattle.vdr_ring.specs.Walks.{AreLeft, CursorState, GivesNext, IsBefore, MayStep, Slots}
use Rattle.vdr_ring.specs.declared.cursor.Standing.{Standing}
use Rattle.vdr_ring.specs.declared.refused.ReadRefused.{ReadRefused}
use Rattle.vdr_ring.specs.declared.refused.ReadRefused.TheVariants.{Damaged, Fault}
use Rattle.vdr_vault.specs.Plays.{ring_for}
use Rattle.vdr_vault.specs.Stretches.{AreLeftWithin}
use Rattle.vdr_vault.specs.Vaults.{AreJudged, IsReadable, VaultState}
use Rattle.vdr_vault.specs.Visits.{HasOnlyRead}
use Rattle.vdr_vault.specs.declared.stretch.Stretch.{Stretch}
use Rattle.vdr_recorder.specs.Resuming.{HasPrintedPart}

-- The text of records

pub seen_joined : (s : Seen) (xs ys : List Record) → seen_by s (xs ++ ys) ≡ seen_by (seen_by s xs) ys
seen_joined s [] ys = refl
seen_joined s (x ∷ xs) ys = seen_joined (seen_after s x.content) xs ys

pub text_joined : (s : Seen) (xs ys : List Record) → records_text s (xs ++ ys) ≡ records_text s xs ++ records_text (seen_by s xs) ys
text_joined s [] ys = refl
text_joined s (x ∷ xs) ys =
    ap (λ (t : List ℕ). record_text s x ++ t) (text_joined (seen_after s x.content) xs ys)
    ∙ sym (append_assoc (record_text s x) (records_text (seen_after s x.content) xs) (records_text (seen_by (seen_after s x.content) xs) ys))

last_one : (xs : List Record) (x : Record) → last (xs ++ x ∷ []) ≡ Some x
last_one [] x = refl
last_one (y ∷ []) x = refl
last_one (y ∷ z ∷ xs) x = last_one (z ∷ xs) x

-- A record has room

-- What was written is the whole text, since it fits and a write fails only where nothing more does.
pub whole_or_full : (was now text : List ℕ) (before after : ℕ) (result : Result ⊤ Failed) → length was < 65_536 → length text ≤ 196_544
    → OnOk result (Appends (Some was) (Some now) text) → AppendsFront (Some was) (Some now) text → HasCause before after result → (0 < after → length now ≡ 262_144) → result ≡ Ok tt
whole_or_full was now text before after (Ok tt) short few all front cause full = refl
whole_or_full was now text before after (Err e) short few all front cause full =
    let rose = cause.failed in
    let long : length now ≡ 262_144 = full (omega (arith, rose)) in
    let parts = ap length front.2 ∙ length-append front.0 front.1 in
    let grown = ap length front.3 ∙ length-append was front.0 in
    absurd (omega (arith, long, parts, grown, short, few))

-- What is printed so far

pub record ArePrinted (records : List Record) (start text : List ℕ) (was_seen seen : Seen) (upto : ℕ) (ToCome : List Record → Type 0) : Type 0 where
  pub front : List Record
  pub left : List Record
  pub split : records ≡ front ++ left
  pub come : ToCome left
  pub text_is : text ≡ start ++ records_text was_seen front
  pub seen_is : seen ≡ seen_by was_seen front
  pub at : (front ≡ []) ⊎ ((r : Record) × (last front ≡ Some r) × (r.place ≡ upto))

pub none_printed : (records : List Record) (start : List ℕ) (seen : Seen) (upto : ℕ) (ToCome : List Record → Type 0) → ToCome records → ArePrinted records start start seen seen upto ToCome
none_printed records start seen upto ToCome come = record {
  front = [];
  left = records;
  split = refl;
  come = come;
  text_is = sym (append-nil start);
  seen_is = refl;
  at = inl refl;
}

module _ {records : List Record} {start text : List ℕ} {was_seen seen : Seen} {upto : ℕ} {ToCome : List Record → Type 0} (p : ArePrinted records start text was_seen seen upto ToCome)
    (result : Result Bool ReadRefused) (item : Option Record) (Later : List Record → Type 0) (steps : (rs : List Record) → ToCome rs → GivesNext rs result item Later) where
  -- The cursor stepped to a record, and it is printed.
  pub printed_one : result ≡ Ok true → (x : Record) → item ≡ Some x → (more : List ℕ) → more ≡ text ++ record_text seen x → (after : Seen) → after ≡ seen_after seen x.content
      → (next : ℕ) → next ≡ x.place → ArePrinted records start more was_seen after next Later
  printed_one is x item_is more more_is after after_is next next_is =
      let gives : GivesNext p.left (Ok true) item Later = subst (λ (r : Result Bool ReadRefused). GivesNext p.left r item Later) is (steps p.left p.come) in
      let same : gives.0 ≡ x = same_Some gives.0 x (sym gives.3 ∙ item_is) in
      record {
        front = p.front ++ x ∷ [];
        left = gives.1;
        split = p.split ∙ ap (λ (rs : List Record). p.front ++ rs) (gives.2 ∙ ap (λ (r : Record). r ∷ gives.1) same) ∙ sym (append_assoc p.front (x ∷ []) gives.1);
        come = gives.4;
        text_is = more_is ∙ ap (λ (t : List ℕ). t ++ record_text seen x) p.text_is ∙ append_assoc start (records_text was_seen p.front) (record_text seen x)
            ∙ ap (λ (t : List ℕ). start ++ t)
            (ap (λ (s : Seen). records_text was_seen p.front ++ record_text s x) p.seen_is
            ∙ ap (λ (t : List ℕ). records_text was_seen p.front ++ t) (sym (append-nil (record_text (seen_by was_seen p.front) x)))
            ∙ sym (text_joined was_seen p.front (x ∷ [])));
        seen_is = after_is ∙ ap (λ (s : Seen). seen_after s x.content) p.seen_is ∙ sym (seen_joined was_seen p.front (x ∷ []));
        at = inr (x, last_one p.front x, sym next_is);
      }

  -- None is left.
  pub printed_all : (end : ℕ) → result ≡ Ok false → HasPrintedPart records end was_seen seen start text (Ok end)
  printed_all end is =
      let gives : GivesNext p.left (Ok false) item Later = subst (λ (r : Result Bool ReadRefused). GivesNext p.left r item Later) is (steps p.left p.come) in
      (p.front, p.left, p.split, p.text_is, p.seen_is, inl (gives.0, refl))

  -- The step is refused.
  pub printed_some : (end : ℕ) (refused : ReadRefused) → result ≡ Err refused → HasPrintedPart records end was_seen seen start text (Err refused)
  printed_some end refused is = by refused (subst (λ (r : Result Bool ReadRefused). GivesNext p.left r item Later) is (steps p.left p.come))
    where
      by : (e : ReadRefused) → GivesNext p.left (Err e) item Later → HasPrintedPart records end was_seen seen start text (Err e)
      by Fault gives = (p.front, p.left, p.split, p.text_is)
      by (Damaged m offset) gives = absurd gives

-- The piece is full.
pub printed_full : (records : List Record) (start text : List ℕ) (was_seen seen : Seen) (upto end : ℕ) (ToCome : List Record → Type 0) → ArePrinted records start text was_seen seen upto ToCome
    → length start < length text → HasPrintedPart records end was_seen seen start text (Ok upto)
printed_full records start text was_seen seen upto end ToCome p more = (
  p.front,
  p.left,
  p.split,
  p.text_is,
  p.seen_is,
  inr (⊎_elim
      (λ (none : p.front ≡ []). let same : text ≡ start ++ [] = p.text_is ∙ ap (λ (rs : List Record). start ++ records_text was_seen rs) none in absurd (omega (arith, ap length same, ap length (append-nil start), more)))
      (λ (some : (r : Record) × (last p.front ≡ Some r) × (r.place ≡ upto)). some) p.at),
)

module _ {M : Type 0} (media : MediaTells M) where
  -- Between two steps of the cursor.
  pub record IsPrinting (query : Query) (part : Stretch) (first now : VaultState) (before after : M) (start text : List ℕ) (was_seen seen : Seen) (cursor : CursorState) (upto : ℕ) : Type 0 where
    pub read : HasOnlyRead query first now (media.disk before) (media.disk after) (media.bytes_read before) (media.bytes_read after)
    pub later : NoneFalls (media.faults before) (media.faults after)
    pub spent : get_or (media.bytes_read after) (medium_of query.medium) 0 + budget (ring_for now query) query (Places part.next part.last) cursor.standing
        ≤ get_or (media.bytes_read before) (medium_of query.medium) 0 + budget (ring_for first query) query (Places part.next part.last) None
    pub may : MayStep (ring_for now query) cursor
    pub among : media.tells → AreJudged first (media.disk before) → StandsAmong (ring_for now query) (media.disk after) cursor.visit
    pub room : length text ≤ 262_079
    pub printed : (opening : Opening) (events : List Event) (placed : ℕ → List Placed) → media.tells → IsReadable opening events first placed (media.disk before)
        → ArePrinted (found query (Some (Places part.next part.last)) (all_records (placed (medium_of query.medium)))) start text was_seen seen upto
        (AreLeftWithin query part now placed (media.disk after) cursor)

-- A new cursor has all before it.
pub all_left : (slots : Slots) (placed : List Placed) (query : Query) (a b : ℕ) (c : CursorState) → c.standing ≡ None → AreLeft slots placed query (Some (Places a b)) c (found query (Some (Places a b)) (all_records placed))
all_left slots placed query a b c none = record {
  ahead = all_records placed;
  are_ahead = record { passed = []; split = refl; from = subst (λ (o : Option Standing). IsBefore slots placed o c.visit (all_records placed)) (sym none) refl };
  are = refl;
}

-- What it may read is all of the budget.
pub whole_left : (ring : RingState) (query : Query) (a b : ℕ) (standing : Option Standing) (n : ℕ) → standing ≡ None → n + budget ring query (Places a b) standing ≤ n + budget ring query (Places a b) None
whole_left ring query a b standing n none = subst (λ (o : Option Standing). n + budget ring query (Places a b) o ≤ n + budget ring query (Places a b) None) (sym none) (omega arith)
