-- What a query selects, one record after another.
use Rattle.std.proofs.Common.{◌≡◌, ◌≤◌, ◌+◌, get_or, Result, Ok, Err, arith, ℕ, List, [], ◌∷◌, ◌++◌, Bool, true, false, Option, refl, sym, ap, ◌∙◌, subst, append_assoc, append-nil}
use Rattle.std.specs.Prelude.{◌↔◌, if◌then◌else◌, OnErr, OnOk}
use Rattle.vdr_terms.specs.Records.{Record}
use Rattle.vdr_terms.specs.Queries.{Query}
use Rattle.vdr_core.specs.Histories as histories
use Rattle.vdr_outside.specs.Causes.{HasCauseOn, NoneFalls, Rose}
use Rattle.vdr_outside.specs.Disk.{Image, content}
use Rattle.vdr_outside.proofs.Counts.{none_falls_join, rose_after}
use Rattle.vdr_rescue.specs.Costs.{ReadsNoOther, Spends}
use Rattle.vdr_rescue.specs.declared.told.Told.{Told}
use Rattle.vdr_rescue.specs.Cursors.{CursorState, Ends, StepsTo}
use Rattle.vdr_rescue.specs.Visiting.{IsLeft, SelectsNext, selected_by, selects}

module _ (bytes : List ℕ) (table : List (Option histories.Incident)) (query : Query) (c now : CursorState) (records : List Record) (all : List Told) where
  module _ (item : Record) (step : (given : List Record) → Ends bytes c given all ↔ StepsTo bytes true item now given all) where
    pub left_selected : selects table query item ≡ true → IsLeft bytes table c query records all ↔ SelectsNext bytes table true item now query records all
    left_selected taken =
        let here : (more : List Record) → selected_by table query (item ∷ more) ≡ item ∷ selected_by table query more =
        λ more. ap (λ (b : Bool). if b then item ∷ selected_by table query more else selected_by table query more) taken in (
          λ l. let x = (step l.given).0 l.ends in
              (selected_by table query x.0, l.are ∙ ap (selected_by table query) x.1 ∙ here x.0, record { given = x.0; ends = x.2; are = refl }),
          λ x. let l = x.2 in record {
            given = item ∷ l.given;
            ends = (step (item ∷ l.given)).1 (l.given, refl, l.ends);
            are = x.1 ∙ ap (λ (rs : List Record). item ∷ rs) l.are ∙ sym (here l.given);
          },
        )

    pub left_passed : selects table query item ≡ false → IsLeft bytes table c query records all ↔ IsLeft bytes table now query records all
    left_passed left =
        let here : (more : List Record) → selected_by table query (item ∷ more) ≡ selected_by table query more =
        λ more. ap (λ (b : Bool). if b then item ∷ selected_by table query more else selected_by table query more) left in (
          λ l. let x = (step l.given).0 l.ends in record { given = x.0; ends = x.2; are = l.are ∙ ap (selected_by table query) x.1 ∙ here x.0 },
          λ l. record { given = item ∷ l.given; ends = (step (item ∷ l.given)).1 (l.given, refl, l.ends); are = l.are ∙ sym (here l.given) },
        )

  pub left_done : ((given : List Record) → Ends bytes c given all ↔ ((given ≡ []) × (all ≡ now.told))) → IsLeft bytes table c query records all ↔ ((records ≡ []) × (all ≡ now.told))
  left_done step = (
    λ l. let x = (step l.given).0 l.ends in (l.are ∙ ap (selected_by table query) x.0, x.1),
    λ x. record { given = []; ends = (step []).1 (refl, x.1); are = x.0 },
  )

-- A step on media that were read before

pub step_at : (c now : CursorState) (item : Record) (found b : Bool) (before after : Image) (n m : ℕ) → after ≡ before → n ≡ m → found ≡ b
    → ((given : List Record) (all : List Told) → Ends (content after n) c given all ↔ StepsTo (content after n) found item now given all)
    → (given : List Record) (all : List Told) → Ends (content before m) c given all ↔ StepsTo (content before m) b item now given all
step_at c now item found b before after n m read medium is step given all =
    subst (λ (x : Bool). Ends (content before m) c given all ↔ StepsTo (content before m) x item now given all) is
    (subst (λ (k : ℕ). Ends (content before k) c given all ↔ StepsTo (content before k) found item now given all) medium
    (subst (λ (image : Image). Ends (content image n) c given all ↔ StepsTo (content image n) found item now given all) read (step given all)))

pub next_at : (table : List (Option histories.Incident)) (query : Query) (c now : CursorState) (item : Record) (found b : Bool) (before after : Image) (n m : ℕ) → after ≡ before → n ≡ m → found ≡ b
    → ((records : List Record) (all : List Told) → IsLeft (content after n) table c query records all ↔ SelectsNext (content after n) table found item now query records all)
    → (records : List Record) (all : List Told) → IsLeft (content before m) table c query records all ↔ SelectsNext (content before m) table b item now query records all
next_at table query c now item found b before after n m read medium is step records all =
    subst (λ (x : Bool). IsLeft (content before m) table c query records all ↔ SelectsNext (content before m) table x item now query records all) is
    (subst (λ (k : ℕ). IsLeft (content before k) table c query records all ↔ SelectsNext (content before k) table found item now query records all) medium
    (subst (λ (image : Image). IsLeft (content image n) table c query records all ↔ SelectsNext (content image n) table found item now query records all) read (step records all)))

-- Records that were visited, and one more of them

module _ {Start Now : List Record → Type 0} (seen : List Record) (so : (records : List Record) → Start records ↔ ((rest : List Record) × (records ≡ seen ++ rest) × Now rest)) where
  pub visited_next : {Next : List Record → Type 0} → (item : Record) → ((rest : List Record) → Now rest ↔ ((more : List Record) × (rest ≡ item ∷ more) × Next more))
      → (records : List Record) → Start records ↔ ((rest : List Record) × (records ≡ (seen ++ item ∷ []) ++ rest) × Next rest)
  visited_next {Next} item step records = (
    λ l. let x = (so records).0 l in
        let y = (step x.0).0 x.2 in
        (y.0, x.1 ∙ ap (λ (rs : List Record). seen ++ rs) y.1 ∙ sym (append_assoc seen (item ∷ []) y.0), y.2),
    λ x. (so records).1 (item ∷ x.0, x.1 ∙ append_assoc seen (item ∷ []) x.0, (step (item ∷ x.0)).1 (x.0, refl, x.2)),
  )

  pub visited_all : {Ended : Type 0} → ((rest : List Record) → Now rest ↔ ((rest ≡ []) × Ended)) → (records : List Record) → Start records ↔ ((records ≡ seen) × Ended)
  visited_all {Ended} done records = (
    λ l. let x = (so records).0 l in
        let y = (done x.0).0 x.2 in
        (x.1 ∙ ap (λ (rs : List Record). seen ++ rs) y.0 ∙ append-nil seen, y.1),
    λ x. (so records).1 ([], x.0 ∙ sym (append-nil seen), (done []).1 (refl, x.1)),
  )

pub iff_left : {P Q R : Type 0} → P ↔ Q → Q ↔ R → P ↔ R
iff_left f g = (λ p. g.0 (f.0 p), λ r. f.1 (g.1 r))

-- What was spent before and in a step

pub spent_on : {T E : Type 0} (m n : ℕ) (before mid now : List ℕ) (had has left : ℕ) (r : Result T E) → n ≡ m → get_or mid m 0 + has ≤ get_or before m 0 + had → Spends n has left mid now r → Spends m had left before now r
spent_on {T} {E} m n before mid now had has left r same so s = record {
  within = let w = subst (λ (k : ℕ). get_or now k 0 ≤ get_or mid k 0 + has) same s.within in omega (arith, so, w);
  left = go r s.left;
}
  where
    go : (r : Result T E) → OnOk r (get_or now n 0 + left ≤ get_or mid n 0 + has) → OnOk r (get_or now m 0 + left ≤ get_or before m 0 + had)
    go (Ok x) h = let w = subst (λ (k : ℕ). get_or now k 0 + left ≤ get_or mid k 0 + has) same h in omega (arith, so, w)
    go (Err e) h = tt

pub others_on : (m n : ℕ) (before mid now : List ℕ) → n ≡ m → ReadsNoOther m before mid → ReadsNoOther n mid now → ReadsNoOther m before now
others_on m n before mid now same h k = λ j other. subst (λ (x : ℕ). ReadsNoOther x mid now) same k j other ∙ h j other

pub cause_on : {T E : Type 0} (m n : ℕ) (before mid now : List ℕ) (r : Result T E) → n ≡ m → NoneFalls before mid → HasCauseOn n mid now r → HasCauseOn m before now r
cause_on {T} {E} m n before mid now r same later c = record {
  later = none_falls_join before mid now later c.later;
  failed = go r c.failed;
}
  where
    go : (r : Result T E) → OnErr r (Rose (get_or mid n 0) (get_or now n 0)) → OnErr r (Rose (get_or before m 0) (get_or now m 0))
    go (Ok x) h = tt
    go (Err e) h = rose_after (get_or before m 0) (get_or mid m 0) (get_or now m 0) (later.none_falls m) (subst (λ (k : ℕ). Rose (get_or mid k 0) (get_or now k 0)) same h)

-- What is left in the budget behind a step that went well
pub left_at : {T E : Type 0} {m had has : ℕ} {before now : List ℕ} (r : Result T E) (x : T) → r ≡ Ok x → Spends m had has before now r → get_or now m 0 + has ≤ get_or before m 0 + had
left_at {T} {E} {m} {had} {has} {before} {now} r x is s = subst (λ (o : Result T E). OnOk o (get_or now m 0 + has ≤ get_or before m 0 + had)) is s.left
