-- What is ahead of a reader of one medium, and what its steps make of it.
use Rattle.std.proofs.Common.{◌≡◌, ◌≤◌, ◌<◌, ◌+◌, ◌-◌, ◌*◌, ℕ, zero, suc, List, [], ◌∷◌, ◌++◌, length, drop, slice_get, Option, Some, None, refl, sym, ap, ◌∙◌, subst, arith, append_assoc, append-nil, add-one, suc-mul}
use Rattle.std.specs.Prelude.{◌↔◌}
use Rattle.std.proofs.lemmas.List.{drop_all, length_push}
use Rattle.std.proofs.lemmas.Option.{slice_get_within}
use Rattle.vdr_terms.specs.Records.{Record}
use Rattle.vdr_segment.specs.declared.area.Area.{Area}
use Rattle.vdr_rescue.specs.declared.cursor.Inside.{Inside}
use Rattle.vdr_rescue.specs.declared.fronts.Head.{Head}
use Rattle.vdr_rescue.specs.declared.given.Stand.{Stand}
use Rattle.vdr_rescue.specs.declared.told.Run.{Run}
use Rattle.vdr_rescue.specs.declared.told.Told.{Told}
use Rattle.vdr_rescue.specs.Cursors.{CursorState, Ends, EndsAt, HasLeft, budget, entered, left_of, one_inside, passed_in, told_of}
use Rattle.vdr_directory.specs.Opening.{slot_bytes}
use Rattle.vdr_rescue.specs.Given.{GivenBy, GivesAbove}
use Rattle.vdr_rescue.specs.Judging.{Judges}
use Rattle.vdr_rescue.specs.Readings.{AreRead, IsRead, floor_behind}
use Rattle.vdr_rescue.specs.Runs.{run_behind, run_with}
use Rattle.vdr_rescue.proofs.AboveLemmas.{given_front}
use Rattle.vdr_rescue.proofs.JudgeLemmas.{one_judgement}

nil_cons : (h : Head) (hs : List Head) → ◌≡◌ {A = List Head} [] (h ∷ hs) → ⊥
nil_cons h hs e = cc

pub told_path : (f g : Option ℕ) (r s : Option Run) → f ≡ g → r ≡ s → ◌≡◌ {A = Told} (record { fault = f; run = r }) (record { fault = g; run = s })
told_path f g r s p q = λ i. record { fault = p i; run = q i }

drop_next : (hs : List Head) (n : ℕ) (h : Head) → slice_get hs n ≡ Some h → drop n hs ≡ h ∷ drop (suc n) hs
drop_next [] n h is = absurd (omega (arith, slice_get_within [] n h is))
drop_next (x ∷ hs) zero h is = ap (λ (y : Head). y ∷ hs) (same_head x h is)
  where
    same_head : (x h : Head) → ◌≡◌ {A = Option Head} (Some x) (Some h) → x ≡ h
    same_head x h e = cc
drop_next (x ∷ hs) (suc n) h is = drop_next hs n h is

-- Behind one record more
abbrev pub inside_behind : Inside → Stand → Record → Inside
inside_behind i stand item = record { stand = stand; floor = i.floor; fault = i.fault; run = Some (run_with i.run item) }

module _ (segment : ℕ) (bytes : List ℕ) (heads : List Head) (told : List Told) (buffer : List ℕ) (before : Option ℕ) (reached : ℕ) (given : List Record) (all : List Told) where
  -- A step to a record of the segment in which it stands
  pub ends_given : (i : Inside) (next : Stand) (item : Record)
      → ((rs : List Record) → GivesAbove buffer i.stand i.floor rs ↔ ((more : List Record) × (rs ≡ item ∷ more) × GivesAbove buffer next i.floor more))
      → EndsAt segment bytes heads told (Some i) buffer before reached given all
      ↔ ((more : List Record) × (given ≡ item ∷ more) × EndsAt segment bytes heads told (Some (inside_behind i next item)) buffer before (item.place + 1) more all)
  ends_given i next item step = (
    λ e. let x = (step e.0).0 e.1 in
        let rest = e.2.0 in let more = e.2.1 in (
          x.0 ++ more,
          e.2.3 ∙ ap (λ (rs : List Record). rs ++ more) x.1,
          (
            x.0,
            x.2,
            (
              rest,
              more,
              subst (λ (rs : List Record). AreRead segment bytes before (floor_behind reached rs) (drop (suc (length told)) heads) rest more) x.1 e.2.2,
              refl,
              e.2.4 ∙ ap (λ (rs : List Record). told ++ told_of i rs ∷ rest) x.1,
            ),
          ),
        ),
    λ x. let e = x.2 in (
      item ∷ e.0,
      (step (item ∷ e.0)).1 (e.0, refl, e.1),
      (e.2.0, e.2.1, e.2.2, x.1 ∙ ap (λ (rs : List Record). item ∷ rs) e.2.3, e.2.4),
    ),
  )

  -- No further record of that segment
  pub ends_left : (i : Inside) → ((rs : List Record) → GivesAbove buffer i.stand i.floor rs ↔ (rs ≡ []))
      → EndsAt segment bytes heads told (Some i) buffer before reached given all
      ↔ EndsAt segment bytes heads (told ++ record { fault = i.fault; run = i.run } ∷ []) None buffer before reached given all
  ends_left i none =
      let tale : Told = record { fault = i.fault; run = i.run } in
      let long : length (told ++ tale ∷ []) ≡ suc (length told) = length_push told tale ∙ add-one (length told) in (
        λ e. let here = (none e.0).0 e.1 in
            let rest = e.2.0 in let more = e.2.1 in
            let same : given ≡ more = e.2.3 ∙ ap (λ (rs : List Record). rs ++ more) here in (
              rest,
              subst (λ (n : ℕ). AreRead segment bytes before reached (drop n heads) rest given) (sym long)
                  (subst (λ (rs : List Record). AreRead segment bytes before reached (drop (suc (length told)) heads) rest rs) (sym same)
                  (subst (λ (rs : List Record). AreRead segment bytes before (floor_behind reached rs) (drop (suc (length told)) heads) rest more) here e.2.2)),
              e.2.4 ∙ ap (λ (rs : List Record). told ++ told_of i rs ∷ rest) here ∙ sym (append_assoc told (tale ∷ []) rest),
            ),
        λ e. (
          [],
          (none []).1 refl,
          (
            e.0,
            given,
            subst (λ (n : ℕ). AreRead segment bytes before reached (drop n heads) e.0 given) long e.1,
            refl,
            e.2 ∙ append_assoc told (tale ∷ []) e.0,
          ),
        ),
      )

  -- The next segment is entered
  module _ (head : Head) (fault : Option ℕ) (now : List ℕ) (there : slice_get heads (length told) ≡ Some head) (loaded : now ≡ slot_bytes segment head.slot bytes) (judged : Judges now before reached head fault) where
    coming : drop (length told) heads ≡ head ∷ drop (suc (length told)) heads
    coming = drop_next heads (length told) head there

    one_told : (t : Told) (here : List Record) → IsRead (slot_bytes segment head.slot bytes) before reached head t here → t ≡ told_of (entered head reached fault) here
    one_told t here r =
        let same : t.fault ≡ fault = one_judgement now before reached head t.fault fault (subst (λ (bs : List ℕ). Judges bs before reached head t.fault) (sym loaded) r.fault) judged in
        told_path t.fault fault t.run (run_behind None here) same r.run

    pub ends_entered : EndsAt segment bytes heads told None buffer before reached given all
        ↔ EndsAt segment bytes heads told (Some (entered head reached fault)) now (Some head.seq) reached given all
    ends_entered = (
      λ e. read_next (drop (length told) heads) e.0 coming e.1 e.2,
      λ e. let here = e.0 in let rest = e.2.0 in let more = e.2.1 in
          let t : Told = told_of (entered head reached fault) here in (
            t ∷ rest,
            subst (λ (hs : List Head). AreRead segment bytes before reached hs (t ∷ rest) given) (sym coming) (
              here,
              record {
                all = e.1.all;
                gives = subst (λ (bs : List ℕ). GivenBy bs head.first e.1.all) loaded ((given_front now head.first e.1.all).1 e.1.gives);
                are = e.1.are;
                run = refl;
                fault = subst (λ (bs : List ℕ). Judges bs before reached head fault) loaded judged;
              },
              (more, e.2.2, e.2.3),
            ),
            e.2.4,
          ),
    )
      where
        read_next : (hs : List Head) (ts : List Told) → hs ≡ head ∷ drop (suc (length told)) heads → AreRead segment bytes before reached hs ts given → all ≡ told ++ ts
            → EndsAt segment bytes heads told (Some (entered head reached fault)) now (Some head.seq) reached given all
        read_next [] ts is r are = absurd (nil_cons head (drop (suc (length told)) heads) is)
        read_next (h ∷ hs) [] is r are = absurd r
        read_next (h ∷ hs) (t ∷ ts) is r are =
            let q : AreRead segment bytes before reached (head ∷ drop (suc (length told)) heads) (t ∷ ts) given =
            subst (λ (xs : List Head). AreRead segment bytes before reached xs (t ∷ ts) given) is r in
            let here = q.0 in let i = q.1 in (
              here,
              record {
                all = i.all;
                gives = (given_front now head.first i.all).0 (subst (λ (bs : List ℕ). GivenBy bs head.first i.all) (sym loaded) i.gives);
                are = i.are;
              },
              (ts, q.2.0, q.2.1, q.2.2, are ∙ ap (λ (x : Told). told ++ x ∷ ts) (one_told t here i)),
            )

  -- No segment is left
  pub ends_done : length heads ≤ length told → EndsAt segment bytes heads told None buffer before reached given all ↔ ((given ≡ []) × (all ≡ told))
  ends_done past =
      let none : drop (length told) heads ≡ [] = drop_all (length told) heads past in (
        λ e. read_none e.0 (subst (λ (hs : List Head). AreRead segment bytes before reached hs e.0 given) none e.1) e.2,
        λ x. ([], subst (λ (hs : List Head). AreRead segment bytes before reached hs [] given) (sym none) x.0, x.1 ∙ sym (append-nil told)),
      )
    where
      read_none : (ts : List Told) → AreRead segment bytes before reached [] ts given → all ≡ told ++ ts → (given ≡ []) × (all ≡ told)
      read_none [] r are = (r, are ∙ append-nil told)
      read_none (t ∷ ts) r are = absurd r

-- The same of cursors

module _ (bytes : List ℕ) (c d : CursorState) (given : List Record) (all : List Told) where
  module _ (i : Inside) (inside : c.inside ≡ Some i) (area : d.area ≡ c.area) (heads : d.heads ≡ c.heads) (before : d.before ≡ c.before) where
    abbrev from_inside : (P : Type 0) → Type 0
    from_inside P = EndsAt c.area.segment bytes c.heads c.told (Some i) c.buffer c.before c.reached given all ↔ P

    turned : (P : Type 0) → from_inside P → Ends bytes c given all ↔ P
    turned P h = subst (λ (o : Option Inside). EndsAt c.area.segment bytes c.heads c.told o c.buffer c.before c.reached given all ↔ P) (sym inside) h

    pub left_behind : d.told ≡ c.told ++ record { fault = i.fault; run = i.run } ∷ [] → d.inside ≡ None → d.reached ≡ c.reached
        → ((rs : List Record) → GivesAbove c.buffer i.stand i.floor rs ↔ (rs ≡ [])) → Ends bytes c given all ↔ Ends bytes d given all
    left_behind told out reached none =
        let tale : Told = record { fault = i.fault; run = i.run } in
        let core = ends_left c.area.segment bytes c.heads c.told c.buffer c.before c.reached given all i none in
        turned (Ends bytes d given all) (
        subst (λ (o : Option Inside). from_inside (EndsAt d.area.segment bytes d.heads d.told o d.buffer d.before d.reached given all)) (sym out)
        (subst (λ (n : ℕ). from_inside (EndsAt d.area.segment bytes d.heads d.told None d.buffer d.before n given all)) (sym reached)
        (subst (λ (o : Option ℕ). from_inside (EndsAt d.area.segment bytes d.heads d.told None d.buffer o c.reached given all)) (sym before)
        (subst (λ (ts : List Told). from_inside (EndsAt d.area.segment bytes d.heads ts None d.buffer c.before c.reached given all)) (sym told)
        (subst (λ (hs : List Head). from_inside (EndsAt d.area.segment bytes hs (c.told ++ tale ∷ []) None d.buffer c.before c.reached given all)) (sym heads)
        (subst (λ (a : Area). from_inside (EndsAt a.segment bytes c.heads (c.told ++ tale ∷ []) None d.buffer c.before c.reached given all)) (sym area) core))))))

    pub given_behind : (next : Stand) (item : Record) → d.told ≡ c.told → d.inside ≡ Some (inside_behind i next item) → d.buffer ≡ c.buffer → d.reached ≡ item.place + 1
        → ((rs : List Record) → GivesAbove c.buffer i.stand i.floor rs ↔ ((more : List Record) × (rs ≡ item ∷ more) × GivesAbove c.buffer next i.floor more))
        → Ends bytes c given all ↔ ((more : List Record) × (given ≡ item ∷ more) × Ends bytes d more all)
    given_behind next item told stands buffer reached step =
        let core = ends_given c.area.segment bytes c.heads c.told c.buffer c.before c.reached given all i next item step in
        let j : Inside = inside_behind i next item in
        turned ((more : List Record) × (given ≡ item ∷ more) × Ends bytes d more all) (
        subst (λ (o : Option Inside). from_inside ((more : List Record) × (given ≡ item ∷ more) × EndsAt d.area.segment bytes d.heads d.told o d.buffer d.before d.reached more all)) (sym stands)
        (subst (λ (n : ℕ). from_inside ((more : List Record) × (given ≡ item ∷ more) × EndsAt d.area.segment bytes d.heads d.told (Some j) d.buffer d.before n more all)) (sym reached)
        (subst (λ (o : Option ℕ). from_inside ((more : List Record) × (given ≡ item ∷ more) × EndsAt d.area.segment bytes d.heads d.told (Some j) d.buffer o (item.place + 1) more all)) (sym before)
        (subst (λ (bs : List ℕ). from_inside ((more : List Record) × (given ≡ item ∷ more) × EndsAt d.area.segment bytes d.heads d.told (Some j) bs c.before (item.place + 1) more all)) (sym buffer)
        (subst (λ (ts : List Told). from_inside ((more : List Record) × (given ≡ item ∷ more) × EndsAt d.area.segment bytes d.heads ts (Some j) c.buffer c.before (item.place + 1) more all)) (sym told)
        (subst (λ (hs : List Head). from_inside ((more : List Record) × (given ≡ item ∷ more) × EndsAt d.area.segment bytes hs c.told (Some j) c.buffer c.before (item.place + 1) more all)) (sym heads)
        (subst (λ (a : Area). from_inside ((more : List Record) × (given ≡ item ∷ more) × EndsAt a.segment bytes c.heads c.told (Some j) c.buffer c.before (item.place + 1) more all)) (sym area) core)))))))

-- A segment that was entered: what the front of it is, over what was loaded.
abbrev pub IsBegun : CursorState → CursorState → Head → Type 0
IsBegun m d head = (fault : Option ℕ) × Judges m.buffer m.before m.reached head fault × (d ≡ record m { inside = Some (entered head m.reached fault); before = Some head.seq })

module _ (c m d : CursorState) (head : Head) (out : c.inside ≡ None) (there : slice_get c.heads (length c.told) ≡ Some head) (loaded : m ≡ record c { buffer = m.buffer }) (begun : IsBegun m d head) where
  within : length c.told < length c.heads
  within = slice_get_within c.heads (length c.told) head there

  same_heads : length d.heads ≡ length c.heads
  same_heads = ap (λ (e : CursorState). length e.heads) begun.2 ∙ ap (λ (e : CursorState). length e.heads) loaded

  same_told : length d.told ≡ length c.told
  same_told = ap (λ (e : CursorState). length e.told) begun.2 ∙ ap (λ (e : CursorState). length e.told) loaded

  same_segment : d.area.segment ≡ c.area.segment
  same_segment = ap (λ (e : CursorState). e.area.segment) begun.2 ∙ ap (λ (e : CursorState). e.area.segment) loaded

  pub entered_onward : left_of d < left_of c
  entered_onward =
      let at : passed_in d.inside ≡ 64 = ap (λ (e : CursorState). passed_in e.inside) begun.2 in
      let none : passed_in c.inside ≡ 0 = ap passed_in out in
      omega (arith, at, none, same_heads, same_told, within)

  pub entered_budget : budget d + c.area.segment ≡ budget c
  entered_budget =
      let n : ℕ = length c.heads - (length c.told + 1) in
      let now : budget d ≡ n * c.area.segment =
      let one : one_inside d.inside ≡ 1 = ap (λ (e : CursorState). one_inside e.inside) begun.2 in
      let count : length d.heads - (length d.told + one_inside d.inside) ≡ n = omega (arith, one, same_heads, same_told) in
      ap (λ (k : ℕ). k * d.area.segment) count ∙ ap (λ (k : ℕ). n * k) same_segment in
      let was : budget c ≡ suc n * c.area.segment =
      let none : one_inside c.inside ≡ 0 = ap one_inside out in
      let count : length c.heads - (length c.told + one_inside c.inside) ≡ suc n = omega (arith, none, within) in
      ap (λ (k : ℕ). k * c.area.segment) count in
      let more : suc n * c.area.segment ≡ n * c.area.segment + c.area.segment = suc-mul n c.area.segment in
      ap (λ (k : ℕ). k + c.area.segment) now ∙ sym more ∙ sym was

  pub entered_behind : (bytes : List ℕ) (given : List Record) (all : List Told) → m.buffer ≡ slot_bytes c.area.segment head.slot bytes → Ends bytes c given all ↔ Ends bytes d given all
  entered_behind bytes given all held =
      let fault = begun.0 in
      let judged : Judges m.buffer c.before c.reached head fault =
      subst (λ (e : CursorState). Judges m.buffer e.before e.reached head fault) loaded begun.1 in
      let core = ends_entered c.area.segment bytes c.heads c.told c.buffer c.before c.reached given all head fault m.buffer there held judged in
      let to_m = subst (λ (e : CursorState). EndsAt c.area.segment bytes c.heads c.told None c.buffer c.before c.reached given all
      ↔ EndsAt e.area.segment bytes e.heads e.told (Some (entered head e.reached fault)) m.buffer (Some head.seq) e.reached given all) (sym loaded) core in
      subst (λ (o : Option Inside). EndsAt c.area.segment bytes c.heads c.told o c.buffer c.before c.reached given all ↔ Ends bytes d given all) (sym out)
      (subst (λ (e : CursorState). EndsAt c.area.segment bytes c.heads c.told None c.buffer c.before c.reached given all ↔ Ends bytes e given all) (sym begun.2) to_m)

-- A segment that is left to be entered is in the budget
pub budget_least : (c : CursorState) (head : Head) → c.inside ≡ None → slice_get c.heads (length c.told) ≡ Some head → c.area.segment ≤ budget c
budget_least c head out there =
    let n : ℕ = length c.heads - (length c.told + 1) in
    let within : length c.told < length c.heads = slice_get_within c.heads (length c.told) head there in
    let none : one_inside c.inside ≡ 0 = ap one_inside out in
    let count : length c.heads - (length c.told + one_inside c.inside) ≡ suc n = omega (arith, none, within) in
    let was : budget c ≡ n * c.area.segment + c.area.segment = ap (λ (k : ℕ). k * c.area.segment) count ∙ suc-mul n c.area.segment in
    subst (λ (k : ℕ). c.area.segment ≤ k) (sym was) (omega arith)

-- No segment is left, and one step after another

pub done_behind : (bytes : List ℕ) (c : CursorState) (given : List Record) (all : List Told) → c.inside ≡ None → length c.heads ≤ length c.told → Ends bytes c given all ↔ ((given ≡ []) × (all ≡ c.told))
done_behind bytes c given all out past =
    subst (λ (o : Option Inside). EndsAt c.area.segment bytes c.heads c.told o c.buffer c.before c.reached given all ↔ ((given ≡ []) × (all ≡ c.told))) (sym out)
    (ends_done c.area.segment bytes c.heads c.told c.buffer c.before c.reached given all past)

pub iff_join : {P Q R : Type 0} → P ↔ Q → Q ↔ R → P ↔ R
iff_join f g = (λ p. g.0 (f.0 p), λ r. f.1 (g.1 r))

pub few_told : (heads : List Head) (told : List Told) (inside : Option Inside) → HasLeft heads told inside → length told ≤ length heads
few_told heads told None h = h
few_told heads told (Some i) h = omega (arith, h)
