-- What a maker has taken of a batch, item by item.
use Rattle.std.proofs.Common.{◌≡◌, ◌≢◌, ◌≤◌, ◌<◌, ◌+◌, ◌*◌, ◌^◌, ℕ, List, [], ◌∷◌, ◌++◌, length, take, drop, sum_by, ◌==◌, get_or, refl, sym, ap, ◌∙◌, subst, arith, ⊎_elim, append_assoc, zero-add}
use Rattle.std.proofs.lemmas.Bool.{cases_eq, eq-eqb, ne_eqb, cond-true, cond-false}
use Rattle.std.proofs.lemmas.List.{take_all, take_more, take-append-drop}
use Rattle.std.proofs.lemmas.List.Sums.{sum_by-append, sum_by-cons}
use Rattle.std.proofs.lemmas.List.Elements.{filter-append}
use Rattle.vdr_terms.specs.Records.{Record, total}
use Rattle.vdr_terms.specs.Counting.{next_number}
use Rattle.vdr_terms.specs.Rates.{Limit}
use Rattle.vdr_terms.specs.Sizes.{record_size, records_size}
use Rattle.vdr_config.specs.Configuration.{Configuration}
use Rattle.vdr_config.specs.Sizes.{limits_in}
use Rattle.vdr_core.specs.Runs.{RunStart}
use Rattle.vdr_core.specs.Taken.{Captured, of_group}
use Rattle.vdr_core.specs.Recorder.{recorder_after}
use Rattle.vdr_run.specs.declared.maker.Maker.{Maker}
use Rattle.vdr_run.specs.Accounts.{Counted}
use Rattle.vdr_run.specs.Making.{counted_of, Makes, IsMaking, TakesOne}
use Rattle.vdr_run.specs.Meters.{rates_of}
use Rattle.vdr_run.specs.Sizes.{FitAfter, bytes_of}
use Rattle.vdr_run.proofs.Sizes.{bytes_anywhere, bytes_grow}
use Rattle.vdr_recorder.specs.Making.{FitBehind, HasRoom, MakesBy, least_record, numbers_of}

-- The maker has taken k of these items since it had made nothing of them.
pub record HasTaken (config : Configuration) (k : ℕ) (items : List Captured) (before after : Maker) : Type 0 where
  pub making : (start : RunStart) (popped : List Captured) → Makes config start popped before
      → IsMaking config start (popped ++ take k items) (recorder_after start popped).made after
  pub rates : rates_of after.meter ≡ rates_of before.meter
  pub place : after.place ≡ before.place + length after.records.items
  pub few : length after.records.items ≤ 2 * k
  pub numbers : (g : ℕ) → g < 16 → next_number (counted_of after g).pending ≡ next_number (counted_of before g).pending + numbers_of g (take k items)
  pub room : before.records.capacity ≤ after.records.capacity

-- Records are no more than one for each 44 of their bytes.
count_least : (records : List Record) → least_record * length records ≤ records_size records
count_least [] = omega arith
count_least (r ∷ rs) =
    let rest = count_least rs in
    let sum = sum_by-cons record_size r rs in
    omega (arith, rest, sum)

-- The records of items that fit behind those before.
pub records_fit : (limits : ℕ → Limit) (start : RunStart) (popped items : List Captured) (records : List Record) (room : ℕ) → start.limits ≡ limits → FitAfter limits popped items room
    → (recorder_after start (popped ++ items)).made ≡ (recorder_after start popped).made ++ records → records_size records ≤ room
records_fit limits start popped items records room same fit made =
    let all = bytes_anywhere start (popped ++ items) in
    let earlier = bytes_anywhere start popped in
    let sum = ap records_size made in
    let parts = sum_by-append record_size (recorder_after start popped).made records in
    let fits = subst (λ (l : ℕ → Limit). FitAfter l popped items room) (sym same) fit in
    omega (arith, all, earlier, sum, parts, fits)

-- So do the first of them.
front_fits : (limits : ℕ → Limit) (popped items : List Captured) (k room : ℕ) → FitAfter limits popped items room → FitAfter limits popped (take k items) room
front_fits limits popped items k room fit =
    let all = append_assoc popped (take k items) (drop k items) ∙ ap (λ (xs : List Captured). popped ++ xs) (take-append-drop k items) in
    let grown = bytes_grow limits (popped ++ take k items) (drop k items) in
    let fits = subst (λ (xs : List Captured). bytes_of limits xs ≤ bytes_of limits popped + room) (sym all) fit in
    omega (arith, grown, fits)

-- Behind the first of a batch there is room for the records of one more.
pub room_left : (config : Configuration) (k : ℕ) (items : List Captured) (before mid : Maker) → HasTaken config k items before mid → FitBehind config before items config.batch → HasRoom config before
    → length mid.records.items + 2 ≤ mid.records.capacity
room_left config k items before mid h short room =
    let making = h.making short.start short.popped short.makes.makes in
    let fit = front_fits (limits_in config.groups) short.popped items k config.batch short.fit in
    let size = records_fit (limits_in config.groups) short.start short.popped (take k items) mid.records.items config.batch short.makes.limits fit making.ends in
    let count = count_least mid.records.items in
    let kept = h.room in
    omega (arith, size, count, kept, room)

-- All of them were taken.
pub makes_all : (config : Configuration) (k : ℕ) (items : List Captured) (before after : Maker) → length items ≤ k → HasTaken config k items before after → (start : RunStart) (popped : List Captured)
    → MakesBy config start popped before → MakesBy config start (popped ++ items) after
makes_all config k items before after all h start popped m = record {
  makes = subst (λ (xs : List Captured). Makes config start (popped ++ xs) after) (take_all k items (omega (arith, all))) (h.making start popped m.makes).makes;
  limits = m.limits;
  rates = h.rates ∙ m.rates;
}

pub numbers_append : (g : ℕ) (xs ys : List Captured) → numbers_of g (xs ++ ys) ≡ numbers_of g xs + numbers_of g ys
numbers_append g xs ys = ap (sum_by (λ (c : Captured). total c.missed + 1)) (filter-append (λ (c : Captured). c.group == g) xs ys)
    ∙ sum_by-append (λ (c : Captured). total c.missed + 1) (of_group g xs) (of_group g ys)

numbers_own : (c : Captured) → numbers_of c.group (c ∷ []) ≡ total c.missed + 1
numbers_own c = ap (sum_by (λ (x : Captured). total x.missed + 1)) (cond-true (c.group == c.group) (c ∷ []) [] (eq-eqb c.group c.group refl))
    ∙ zero-add (total c.missed + 1)

numbers_other : (c : Captured) (g : ℕ) → c.group ≢ g → numbers_of g (c ∷ []) ≡ 0
numbers_other c g ne = ap (sum_by (λ (x : Captured). total x.missed + 1)) (cond-false (c.group == g) (c ∷ []) [] (ne_eqb c.group g ne))

module _ (config : Configuration) (k : ℕ) (items : List Captured) (c : Captured) (before mid : Maker) (h : HasTaken config k items before mid)
    (within : k < length items) (is : c ≡ get_or items k c) where
  next : take (k + 1) items ≡ take k items ++ c ∷ []
  next = take_more items k c within ∙ ap (λ (x : Captured). take k items ++ x ∷ []) (sym is)

  numbers_next : (g : ℕ) → numbers_of g (take (k + 1) items) ≡ numbers_of g (take k items) + numbers_of g (c ∷ [])
  numbers_next g = ap (numbers_of g) next ∙ numbers_append g (take k items) (c ∷ [])

  numbers_le : (g : ℕ) → numbers_of g (take (k + 1) items) ≤ numbers_of g items
  numbers_le g =
      let e = ap (numbers_of g) (take-append-drop (k + 1) items) in
      let f = numbers_append g (take (k + 1) items) (drop (k + 1) items) in
      omega (arith, e, f)

  -- the item's numbers fit
  pub number_fits : c.group < 16 → next_number (counted_of before c.group).pending + numbers_of c.group items < 2 ^ 63
      → next_number (counted_of mid c.group).pending + total c.missed + 1 < 2 ^ 63
  number_fits l fits =
      let a = h.numbers c.group l in
      let b = numbers_next c.group in
      let d = numbers_own c in
      let e = numbers_le c.group in
      omega (arith, a, b, d, e, fits)

  module _ (after : Maker) (one : TakesOne mid after c)
      (goes : (start : RunStart) (popped : List Captured) (earlier : List Record) → IsMaking config start popped earlier mid → IsMaking config start (popped ++ c ∷ []) earlier after) where
    own : c.group < 16 → next_number (counted_of after c.group).pending ≡ next_number (counted_of before c.group).pending + numbers_of c.group (take (k + 1) items)
    own l =
        let a = h.numbers c.group l in
        let b = numbers_next c.group in
        let d = numbers_own c in
        let e = one.own in
        omega (arith, a, b, d, e)

    other : (g : ℕ) → g < 16 → c.group ≢ g → next_number (counted_of after g).pending ≡ next_number (counted_of before g).pending + numbers_of g (take (k + 1) items)
    other g l ne =
        let a = h.numbers g l in
        let b = numbers_next g in
        let d = numbers_other c g ne in
        let e = ap (λ (q : Counted). next_number q.pending) (one.others g ne) in
        omega (arith, a, b, d, e)

    pub taken_more : HasTaken config (k + 1) items before after
    taken_more = record {
      making = λ start popped makes.
          subst (λ (xs : List Captured). IsMaking config start xs (recorder_after start popped).made after)
          (append_assoc popped (take k items) (c ∷ []) ∙ ap (λ (xs : List Captured). popped ++ xs) (sym next))
          (goes start (popped ++ take k items) (recorder_after start popped).made (h.making start popped makes));
      rates = one.rates ∙ h.rates;
      place = let a = one.place in let b = h.place in omega (arith, a, b);
      few = let a = one.records in let b = h.few in omega (arith, a, b);
      numbers = λ g l. ⊎_elim
          (λ (e : c.group ≡ g). subst (λ (x : ℕ). next_number (counted_of after x).pending ≡ next_number (counted_of before x).pending + numbers_of x (take (k + 1) items)) e
          (own (subst (λ (x : ℕ). x < 16) (sym e) l)))
          (λ (ne : c.group ≢ g). other g l ne)
          (cases_eq c.group g);
      room = let a = one.room in let b = h.room in omega (arith, a, b);
    }
