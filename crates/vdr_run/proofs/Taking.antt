-- A maker that has recorded or refused an item has taken it.
use Rattle.std.proofs.Common.{◌≡◌, ◌≢◌, ◌<◌, ◌+◌, ℕ, suc, max, List, [], ◌∷◌, ◌++◌, length, Bool, true, false, cond, ◌==◌, slice_index_or, slice_set, refl, sym, ap, ◌∙◌, subst, arith, ⊎_elim, append_assoc, length-append, get_or-set_same, get_or-set_other, length-set}
use Rattle.std.proofs.lemmas.Bool.{cases_eq, eq-eqb, ne_eqb, cond-true, cond-false}
use Rattle.std.proofs.lemmas.List.Sums.{fold-append}
use Rattle.vdr_terms.specs.declared.counts.Counts.{Counts}
use Rattle.vdr_terms.specs.Records.{Record}
use Rattle.vdr_terms.specs.Counting.{Pending, with_missed, past_datagram, past_refusal, one_rate}
use Rattle.vdr_config.specs.Configuration.{Configuration}
use Rattle.vdr_datagram.specs.Channels.{channels_of}
use Rattle.vdr_core.specs.Runs.{RunStart}
use Rattle.vdr_core.specs.Taken.{Captured}
use Rattle.vdr_core.specs.Recorder.{Recorder, begun, next_in, gap_of, datagram_of, with_pending, passed, tick_with, admits, took, recorder_after}
use Rattle.vdr_core.specs.Sums.{recorded_in, counted_by}
use Rattle.vdr_core.specs.Summary.{ItemAddsUp}
use Rattle.vdr_run.specs.declared.maker.Maker.{Maker}
use Rattle.vdr_run.specs.Accounts.{Counted, nothing_counted, with_recorded, with_refused, gap_after, item_records}
use Rattle.vdr_run.specs.Meters.{IsMetered}
use Rattle.vdr_run.specs.Making.{counted_of, CountsItems, IsMaking, records_at, RecordsItem}
use Rattle.vdr_run.proofs.Gaps.{same_records}

-- The tick and the stamp are the item's, and its records are not made yet.
pub record Turns (c : Captured) (before after : Maker) : Type 0 where
  pub base : after.base ≡ before.base
  pub greatest : after.greatest ≡ max before.greatest c.received
  pub utc : after.utc ≡ c.utc
  pub place : after.place ≡ before.place
  pub accounts : after.accounts ≡ before.accounts
  pub records : after.records.items ≡ before.records.items

-- The tick and the stamp are the item's, and the item is counted as refused.
pub record Refuses (c : Captured) (before after : Maker) : Type 0 where
  pub base : after.base ≡ before.base
  pub greatest : after.greatest ≡ max before.greatest c.received
  pub utc : after.utc ≡ c.utc
  pub place : after.place ≡ before.place
  pub accounts : after.accounts ≡ slice_set before.accounts c.group (with_refused c.missed (counted_of before c.group))
  pub records : after.records.items ≡ before.records.items

-- the groups' counts after one of them is set
set_own : (before after : Maker) (g : ℕ) (k : Counted) → g < length before.accounts → after.accounts ≡ slice_set before.accounts g k → counted_of after g ≡ k
set_own before after g k l e = ap (λ (xs : List Counted). slice_index_or xs g nothing_counted) e ∙ get_or-set_same before.accounts g k nothing_counted l

set_others : (before after : Maker) (g : ℕ) (k : Counted) → after.accounts ≡ slice_set before.accounts g k → (h : ℕ) → g ≢ h → counted_of after h ≡ counted_of before h
set_others before after g k e h ne = ap (λ (xs : List Counted). slice_index_or xs h nothing_counted) e ∙ get_or-set_other before.accounts g h k nothing_counted (λ q. ne (sym q))

-- what an item's own counts add to the refused ones
rate_of : (b : Bool) (m : Counts) → m.rate ≡ 0 → (cond b m (one_rate m)).rate ≡ cond b 0 1
rate_of true m e = e
rate_of false m e = ap suc e

module _ (config : Configuration) (start : RunStart) (popped : List Captured) (before : List Record) (old new : Maker) (c : Captured)
    (t : IsMaking config start popped before old) (sixteen : c.group < 16) (not_by_rate : c.missed.rate ≡ 0)
    (sums : ItemAddsUp start (recorder_after start popped) c) (metered : IsMetered start.limits new.meter (took start (recorder_after start popped) c).made) where
  abbrev r : Recorder
  r = recorder_after start popped

  abbrev now : Recorder
  now = recorder_after start (popped ++ c ∷ [])

  abbrev p : Pending
  p = with_missed c.missed (r.pending c.group)

  taken : now ≡ took start r c
  taken = fold-append (took start) (begun start) popped (c ∷ [])

  passed_as : (b : Bool) → admits start r c ≡ b → now ≡ passed b start c (tick_with start r c) r p
  passed_as b e = taken ∙ ap (λ (b : Bool). passed b start c (tick_with start r c) r p) e

  greatest_is : max old.greatest c.received ≡ max r.greatest c.received
  greatest_is = ap (λ (n : ℕ). max n c.received) t.makes.greatest

  own_pending : (counted_of old c.group).pending ≡ r.pending c.group
  own_pending = t.makes.pending c.group sixteen

  within : c.group < length old.accounts
  within = let all = t.makes.sixteen in omega (arith, all, sixteen)

  metered_now : IsMetered start.limits new.meter now.made
  metered_now = subst (λ (q : Recorder). IsMetered start.limits new.meter q.made) (sym taken) metered

  -- what is counted, where the item's own group is settled so
  module _ (k : Counted) (accounts : new.accounts ≡ slice_set old.accounts c.group k) where
    own_is : counted_of new c.group ≡ k
    own_is = set_own old new c.group k within accounts

    others_are : (g : ℕ) → c.group ≢ g → counted_of new g ≡ counted_of old g
    others_are = set_others old new c.group k accounts

    sixteen_now : length new.accounts ≡ 16
    sixteen_now = ap (λ (xs : List Counted). length xs) accounts ∙ (simp length-set t.makes.sixteen)

    module _ (settle : Pending → Pending) (pending : k.pending ≡ settle (with_missed c.missed (counted_of old c.group).pending)) where
      own_settled : (counted_of new c.group).pending ≡ with_pending r.pending c.group (settle p) c.group
      own_settled = ap (λ (q : Counted). q.pending) own_is ∙ (pending ∙ (ap (λ (q : Pending). settle (with_missed c.missed q)) own_pending
          ∙ sym (cond-true (c.group == c.group) (settle p) (r.pending c.group) (eq-eqb c.group c.group refl))))

      other_settled : (g : ℕ) → g < 16 → c.group ≢ g → (counted_of new g).pending ≡ with_pending r.pending c.group (settle p) g
      other_settled g l ne = ap (λ (q : Counted). q.pending) (others_are g ne)
          ∙ (t.makes.pending g l ∙ sym (cond-false (g == c.group) (settle p) (r.pending g) (ne_eqb g c.group (λ q. ne (sym q)))))

      settled : (g : ℕ) → g < 16 → (counted_of new g).pending ≡ with_pending r.pending c.group (settle p) g
      settled g l = ⊎_elim
          (λ (e : c.group ≡ g). subst (λ (h : ℕ). (counted_of new h).pending ≡ with_pending r.pending c.group (settle p) h) e own_settled)
          (λ (ne : c.group ≢ g). other_settled g l ne)
          (cases_eq c.group g)

    module _ (b : Bool) (decides : admits start r c ≡ b) (one_recorded : k.recorded ≡ (counted_of old c.group).recorded + cond b 1 0)
        (one_refused : k.refused ≡ (counted_of old c.group).refused + cond b 0 1) where
      recorded_own : (counted_of new c.group).recorded ≡ recorded_in c.group now.made
      recorded_own = ap (λ (q : Counted). q.recorded) own_is ∙ (one_recorded ∙ (ap (λ (n : ℕ). n + cond b 1 0) (t.makes.counts.recorded c.group sixteen)
          ∙ (ap (λ (b : Bool). recorded_in c.group r.made + cond b 1 0) (sym decides)
          ∙ (sym sums.recorded ∙ ap (λ (q : Recorder). recorded_in c.group q.made) (sym taken)))))

      refused_own : (counted_of new c.group).refused ≡ (counted_by now c.group).rate
      refused_own = ap (λ (q : Counted). q.refused) own_is ∙ (one_refused ∙ (ap (λ (n : ℕ). n + cond b 0 1) (t.makes.counts.refused c.group sixteen)
          ∙ (ap (λ (n : ℕ). (counted_by r c.group).rate + n) (sym (rate_of b c.missed not_by_rate))
          ∙ (ap (λ (b : Bool). (counted_by r c.group).rate + (cond b c.missed (one_rate c.missed)).rate) (sym decides)
          ∙ (ap (λ (q : Counts). q.rate) (sym sums.counted) ∙ ap (λ (q : Recorder). (counted_by q c.group).rate) (sym taken))))))

      recorded_other : (g : ℕ) → g < 16 → c.group ≢ g → (counted_of new g).recorded ≡ recorded_in g now.made
      recorded_other g l ne = ap (λ (q : Counted). q.recorded) (others_are g ne)
          ∙ (t.makes.counts.recorded g l ∙ (sym (sums.others g ne).0 ∙ ap (λ (q : Recorder). recorded_in g q.made) (sym taken)))

      refused_other : (g : ℕ) → g < 16 → c.group ≢ g → (counted_of new g).refused ≡ (counted_by now g).rate
      refused_other g l ne = ap (λ (q : Counted). q.refused) (others_are g ne)
          ∙ (t.makes.counts.refused g l ∙ (ap (λ (q : Counts). q.rate) (sym (sums.others g ne).1) ∙ ap (λ (q : Recorder). (counted_by q g).rate) (sym taken)))

      counts_now : CountsItems start (popped ++ c ∷ []) new
      counts_now = record {
        recorded = λ g l. ⊎_elim
            (λ (e : c.group ≡ g). subst (λ (h : ℕ). (counted_of new h).recorded ≡ recorded_in h now.made) e recorded_own)
            (λ (ne : c.group ≢ g). recorded_other g l ne)
            (cases_eq c.group g);
        refused = λ g l. ⊎_elim
            (λ (e : c.group ≡ g). subst (λ (h : ℕ). (counted_of new h).refused ≡ (counted_by now h).rate) e refused_own)
            (λ (ne : c.group ≢ g). refused_other g l ne)
            (cases_eq c.group g);
      }

  -- An admitted item is recorded.
  module _ (mid : Maker) (recs : RecordsItem (channels_of config) c mid new) (turn : Turns c old mid) (admitted : admits start r c ≡ true) where
    recorded : Recorder
    recorded = passed true start c (tick_with start r c) r p

    recorded_is : now ≡ recorded
    unfolding recorded
    recorded_is = passed_as true admitted

    tick_is : mid.base + mid.greatest ≡ tick_with start r c
    tick_is = λ i. (turn.base ∙ t.makes.base) i + (turn.greatest ∙ greatest_is) i

    mine_is : counted_of mid c.group ≡ counted_of old c.group
    mine_is = ap (λ (xs : List Counted). slice_index_or xs c.group nothing_counted) turn.accounts

    records_are : records_at (channels_of config) mid c
        ≡ gap_of start c.group (next_in start r.made) (tick_with start r c) c.utc p
        ++ datagram_of start c (tick_with start r c) (next_in start r.made + length (gap_of start c.group (next_in start r.made) (tick_with start r c) c.utc p)) ∷ []
    records_are =
        (λ i. item_records (sym t.makes.channels i) c.group ((turn.place ∙ t.makes.place) i) c.number (tick_is i) (turn.utc i) c.bytes
        (gap_after c.missed ((ap (λ (k : Counted). k.pending) mine_is ∙ own_pending) i)))
        ∙ same_records start c (next_in start r.made) (tick_with start r c) (r.pending c.group)

    made_is : now.made ≡ r.made ++ records_at (channels_of config) mid c
    unfolding recorded
    made_is = ap (λ (q : Recorder). q.made) recorded_is ∙ ap (λ (more : List Record). r.made ++ more) (sym records_are)

    place_is : new.place ≡ next_in start now.made
    place_is =
        let e = recs.place in
        let f : mid.place ≡ start.place + length r.made = turn.place ∙ t.makes.place in
        let g = length-append r.made (records_at (channels_of config) mid c) in
        let h = ap (λ (xs : List Record). length xs) made_is in
        omega (arith, e, f, g, h)

    accounts_are : new.accounts ≡ slice_set old.accounts c.group (with_recorded c.missed (counted_of old c.group))
    accounts_are = recs.accounts ∙ (λ i. slice_set (turn.accounts i) c.group (with_recorded c.missed (mine_is i)))

    pub recorded_making : IsMaking config start (popped ++ c ∷ []) before new
    unfolding recorded
    recorded_making = record {
      makes = record {
        channels = t.makes.channels;
        base = recs.base ∙ (turn.base ∙ t.makes.base);
        greatest = recs.greatest ∙ (turn.greatest ∙ (greatest_is ∙ ap (λ (q : Recorder). q.greatest) (sym recorded_is)));
        utc = recs.utc ∙ (turn.utc ∙ ap (λ (q : Recorder). q.utc) (sym recorded_is));
        place = place_is;
        sixteen = sixteen_now _ accounts_are;
        pending = λ g l. settled _ accounts_are past_datagram refl g l ∙ ap (λ (q : Recorder). q.pending g) (sym recorded_is);
        counts = counts_now _ accounts_are true admitted (omega arith) (omega arith);
        metered = metered_now;
      };
      ends = made_is ∙ (ap (λ (xs : List Record). xs ++ records_at (channels_of config) mid c) t.ends
          ∙ (append_assoc before old.records.items (records_at (channels_of config) mid c)
          ∙ ap (λ (xs : List Record). before ++ xs) (sym (recs.records ∙ ap (λ (xs : List Record). xs ++ records_at (channels_of config) mid c) turn.records))));
    }

  -- A refused item is counted, and no record is made.
  module _ (refuses : Refuses c old new) (refused : admits start r c ≡ false) where
    left_out : Recorder
    left_out = passed false start c (tick_with start r c) r p

    left_is : now ≡ left_out
    unfolding left_out
    left_is = passed_as false refused

    made_same : now.made ≡ r.made
    unfolding left_out
    made_same = ap (λ (q : Recorder). q.made) left_is

    pub refused_making : IsMaking config start (popped ++ c ∷ []) before new
    unfolding left_out
    refused_making = record {
      makes = record {
        channels = t.makes.channels;
        base = refuses.base ∙ t.makes.base;
        greatest = refuses.greatest ∙ (greatest_is ∙ ap (λ (q : Recorder). q.greatest) (sym left_is));
        utc = refuses.utc ∙ ap (λ (q : Recorder). q.utc) (sym left_is);
        place = refuses.place ∙ (t.makes.place ∙ ap (λ (xs : List Record). next_in start xs) (sym made_same));
        sixteen = sixteen_now _ refuses.accounts;
        pending = λ g l. settled _ refuses.accounts past_refusal refl g l ∙ ap (λ (q : Recorder). q.pending g) (sym left_is);
        counts = counts_now _ refuses.accounts false refused (omega arith) (omega arith);
        metered = metered_now;
      };
      ends = made_same ∙ (t.ends ∙ ap (λ (xs : List Record). before ++ xs) (sym refuses.records));
    }
