-- The feed's history is what the recorder makes of the feed.
use Rattle.std.proofs.Common.{◌≡◌, ◌≤◌, ◌+◌, ℕ, zero, suc, ℤ, max, List, [], ◌∷◌, ◌++◌, length, drop, map, filter, fold, count_by, Bool, true, false, cond, ◌&&◌, ◌==◌, Option, refl, sym, ap, ◌∙◌, subst, arith, ⊎_elim, append-nil, append_assoc, length-append, length-drop, true≢false, drop_of_length-le}
use Rattle.std.proofs.lemmas.Bool.{cases_eq, eq-eqb, ne_eqb, cond-true, cond-false, and_left, and_right, and_from}
use Rattle.std.proofs.lemmas.List.{map-append, drop-append-le}
use Rattle.std.proofs.lemmas.List.Elements.{filter-append}
use Rattle.std.proofs.lemmas.List.Sums.{fold-append}
use Rattle.vdr_terms.specs.declared.counts.Counts.{Counts}
use Rattle.vdr_terms.specs.Records.{Record, Item, FeedItem, total, second, none_missed, is_datagram, datagrams_of, last}
use Rattle.vdr_terms.specs.Records.Content.{Datagram, Stop}
use Rattle.vdr_terms.specs.declared.datagram.Verdict.{Verdict}
use Rattle.vdr_terms.specs.Datagrams.{verdict, is_yes, is_bad, is_large}
use Rattle.vdr_terms.specs.declared.datagram.Verdict.TheVariants.{Yes, Bad, Large}
use Rattle.vdr_core.specs.Runs.{RunStart, base_of, utc_after}
use Rattle.vdr_core.specs.Taken.{Captured}
use Rattle.vdr_terms.specs.Counting.{Pending, merged, with_missed, one_rate, past_datagram, past_refusal}
use Rattle.vdr_core.specs.Feed.{items_of, counts_of, recordable, gap_for, gap_after, number_after, missed_since, tick_after, utc_of, utc_last, made_after, closing_gaps, feed_along}
use Rattle.vdr_terms.specs.Rates.{is_admitted}
use Rattle.vdr_core.specs.Recorder.{Recorder, with_pending, passed, admits, tick_with, datagram_of, make, begun, next_in, gap_unless_none, gap_of, tick_of, gaps_below, took, taken_all, closing}
use Rattle.vdr_core.specs.Replay.{since_yes, captured_after, captured_if, taken_of, rest_after, IsReplay}
use Rattle.vdr_core.proofs.Counted.{count_append, count_yes, count_no, length_snoc}
use Rattle.vdr_core.proofs.Meter.{last_snoc}
use Rattle.vdr_core.proofs.Lanes.{added_data, gap_no_data}

abbrev pub yes_of : Item → Bool
yes_of i = is_yes (verdict i.bytes)

pub counts_path : (c d : Counts) → c.full ≡ d.full → c.rate ≡ d.rate → c.bad ≡ d.bad → c.large ≡ d.large → c ≡ d
counts_path c d f r b l = λ i. record { full = f i; rate = r i; bad = b i; large = l i }

-- each item counts once
one_each : (v : Verdict) → cond (is_yes v) 1 0 + cond (is_bad v) 1 0 + cond (is_large v) 1 0 ≡ 1
one_each Yes = refl
one_each Bad = refl
one_each Large = refl

count_cons : {X : Type 0} (p : X → Bool) (x : X) (xs : List X) → count_by p (x ∷ xs) ≡ cond (p x) 1 0 + count_by p xs
count_cons p x xs = count_append p (x ∷ []) xs ∙ ap (λ (n : ℕ). n + count_by p xs) (one (p x))
  where
    one : (b : Bool) → 0 + cond b 1 0 ≡ cond b 1 0
    one true = refl
    one false = refl

pub total_counts : (items : List Item) → total (counts_of items) ≡ length items
total_counts [] = refl
total_counts (i ∷ is) =
    let a = count_cons (λ (i : Item). is_yes (verdict i.bytes)) i is in
    let b = count_cons (λ (i : Item). is_bad (verdict i.bytes)) i is in
    let c = count_cons (λ (i : Item). is_large (verdict i.bytes)) i is in
    let d = one_each (verdict i.bytes) in
    let e = total_counts is in
    omega (arith, a, b, c, d, e)

-- a Gap by items is the Gap by their counts
same_gap : (start : RunStart) (g place number tick : ℕ) (utc : ℤ) (items : List Item) (k : ℕ) → k ≡ length items
    → gap_unless_none start g place number tick utc (counts_of items) k ≡ gap_for start.channels g place number tick utc items
same_gap start g place number tick utc [] zero e = refl
same_gap start g place number tick utc [] (suc k) e = absurd (omega (arith, e))
same_gap start g place number tick utc (i ∷ is) zero e = absurd (omega (arith, e))
same_gap start g place number tick utc (i ∷ is) (suc k) e = refl

-- what the recorder has of a group is what the feed says
pub record SameGroup (g : ℕ) (feed : List FeedItem) (made : List Record) (p : Pending) (rest : Counts) : Type 0 where
  pub first : p.first ≡ number_after (last (datagrams_of g made))
  pub missed : merged p.missed rest ≡ counts_of (missed_since g made feed)
  pub bound : p.first ≤ length (items_of g feed)

gap_is : (start : RunStart) (g place tick : ℕ) (utc : ℤ) (feed : List FeedItem) (made : List Record) (p : Pending) (rest : Counts) → SameGroup g feed made p rest
    → gap_of start g place tick utc (with_missed rest p) ≡ gap_for start.channels g place (number_after (last (datagrams_of g made))) tick utc (missed_since g made feed)
gap_is start g place tick utc feed made p rest h =
    ap (λ (n : ℕ). gap_unless_none start g place n tick utc (merged p.missed rest) (total (merged p.missed rest))) h.first
    ∙ (ap (λ (c : Counts). gap_unless_none start g place (number_after (last (datagrams_of g made))) tick utc c (total c)) h.missed
    ∙ same_gap start g place (number_after (last (datagrams_of g made))) tick utc (missed_since g made feed) (total (counts_of (missed_since g made feed))) (total_counts (missed_since g made feed)))

pub record Same (start : RunStart) (feed : List FeedItem) (r : Recorder) : Type 0 where
  pub greatest : r.greatest ≡ fold (λ greatest i. max greatest i.received) 0 (recordable feed)
  pub utc : r.utc ≡ utc_last start feed
  pub groups : (g : ℕ) → SameGroup g feed r.made (r.pending g) (rest_after feed g)

same_begun : (start : RunStart) → Same start [] (begun start)
same_begun start = record { greatest = refl; utc = refl; groups = λ g. record { first = refl; missed = refl; bound = omega arith } }

-- the closing gaps, and the whole run
same_gaps : (start : RunStart) (feed : List FeedItem) (r : Recorder) → Same start feed r → (tick : ℕ) (utc : ℤ) → tick ≡ tick_of start r → utc ≡ r.utc → (n : ℕ)
    → closing_gaps n start tick utc r.made feed ≡ r.made ++ gaps_below n start r (rest_after feed)
same_gaps start feed r h tick utc et eu zero = sym (append-nil r.made)
same_gaps start feed r h tick utc et eu (suc n) =
    let ih = same_gaps start feed r h tick utc et eu n in
    let place : ℕ = start.place + length r.made + length (gaps_below n start r (rest_after feed)) in
    let size : start.place + length (closing_gaps n start tick utc r.made feed) ≡ place =
    (let a = ap (λ (xs : List Record). length xs) ih in let b = length-append r.made (gaps_below n start r (rest_after feed)) in omega (arith, a, b)) in
    let gap : (p t : ℕ) → ℤ → List Record = λ p t u. gap_for start.channels n p (number_after (last (datagrams_of n r.made))) t u (missed_since n r.made feed) in
    ap (λ (xs : List Record). xs ++ gap (start.place + length (closing_gaps n start tick utc r.made feed)) tick utc) ih
    ∙ (ap (λ (p : ℕ). (r.made ++ gaps_below n start r (rest_after feed)) ++ gap p tick utc) size
    ∙ (ap (λ (t : ℕ). (r.made ++ gaps_below n start r (rest_after feed)) ++ gap place t utc) et
    ∙ (ap (λ (u : ℤ). (r.made ++ gaps_below n start r (rest_after feed)) ++ gap place (tick_of start r) u) eu
    ∙ (ap (λ (xs : List Record). (r.made ++ gaps_below n start r (rest_after feed)) ++ xs)
    (sym (gap_is start n place (tick_of start r) r.utc feed r.made (r.pending n) (rest_after feed n) (h.groups n)))
    ∙ append_assoc r.made (gaps_below n start r (rest_after feed)) (gap_of start n place (tick_of start r) r.utc (with_missed (rest_after feed n) (r.pending n)))))))

-- one more item of the feed
pub items_own : (feed : List FeedItem) (x : FeedItem) → items_of x.group (feed ++ x ∷ []) ≡ items_of x.group feed ++ x.item ∷ []
items_own feed x =
    ap (map (λ (y : FeedItem). y.item)) (filter-append (λ (y : FeedItem). y.group == x.group) feed (x ∷ []))
    ∙ (map-append (λ (y : FeedItem). y.item) (filter (λ (y : FeedItem). y.group == x.group) feed) (filter (λ (y : FeedItem). y.group == x.group) (x ∷ []))
    ∙ ap (λ (xs : List FeedItem). items_of x.group feed ++ map (λ (y : FeedItem). y.item) xs) (cond-true (x.group == x.group) (x ∷ []) [] (eq-eqb x.group x.group refl)))

pub items_other : (feed : List FeedItem) (x : FeedItem) (g : ℕ) → (x.group ≡ g → ⊥) → items_of g (feed ++ x ∷ []) ≡ items_of g feed
items_other feed x g ne =
    ap (map (λ (y : FeedItem). y.item)) (filter-append (λ (y : FeedItem). y.group == g) feed (x ∷ [])
    ∙ (ap (λ (xs : List FeedItem). filter (λ (y : FeedItem). y.group == g) feed ++ xs) (cond-false (x.group == g) (x ∷ []) [] (ne_eqb x.group g ne)) ∙ append-nil (filter (λ (y : FeedItem). y.group == g) feed)))

recordable_more : (feed : List FeedItem) (x : FeedItem) (b : Bool) → yes_of x.item ≡ b → recordable (feed ++ x ∷ []) ≡ recordable feed ++ cond b (x.item ∷ []) []
recordable_more feed x b e =
    ap (filter (λ (i : Item). is_yes (verdict i.bytes))) (map-append (λ (y : FeedItem). y.item) feed (x ∷ []))
    ∙ (filter-append (λ (i : Item). is_yes (verdict i.bytes)) (map (λ (y : FeedItem). y.item) feed) (x.item ∷ [])
    ∙ ap (λ (b : Bool). recordable feed ++ cond b (x.item ∷ []) []) e)

pub since_more : (items : List Item) (i : Item) (b : Bool) → yes_of i ≡ b → since_yes (items ++ i ∷ []) ≡ cond b [] (since_yes items ++ i ∷ [])
since_more items i b e =
    fold-append (λ (since : List Item) (i : Item). cond (is_yes (verdict i.bytes)) [] (since ++ i ∷ [])) [] items (i ∷ [])
    ∙ ap (λ (b : Bool). cond b [] (since_yes items ++ i ∷ [])) e

merged_append : (m : Counts) (a b ys : List Item) → merged m (counts_of a) ≡ counts_of b → merged m (counts_of (a ++ ys)) ≡ counts_of (b ++ ys)
merged_append m a b ys h = counts_path (merged m (counts_of (a ++ ys))) (counts_of (b ++ ys))
    (ap (λ (c : Counts). c.full) h)
    (let p = count_append (λ (i : Item). is_yes (verdict i.bytes)) a ys in let q = count_append (λ (i : Item). is_yes (verdict i.bytes)) b ys in let r = ap (λ (c : Counts). c.rate) h in omega (arith, p, q, r))
    (let p = count_append (λ (i : Item). is_bad (verdict i.bytes)) a ys in let q = count_append (λ (i : Item). is_bad (verdict i.bytes)) b ys in let r = ap (λ (c : Counts). c.bad) h in omega (arith, p, q, r))
    (let p = count_append (λ (i : Item). is_large (verdict i.bytes)) a ys in let q = count_append (λ (i : Item). is_large (verdict i.bytes)) b ys in let r = ap (λ (c : Counts). c.large) h in omega (arith, p, q, r))

yes_counts : (v : Verdict) → is_yes v ≡ true → (is_bad v ≡ false) × (is_large v ≡ false)
yes_counts Yes e = (refl, refl)
yes_counts Bad e = absurd (true≢false (sym e))
yes_counts Large e = absurd (true≢false (sym e))

merged_rate : (m : Counts) (a b : List Item) (i : Item) → yes_of i ≡ true → merged m (counts_of a) ≡ counts_of b → merged (one_rate (merged m (counts_of a))) none_missed ≡ counts_of (b ++ i ∷ [])
merged_rate m a b i e h =
    let y = yes_counts (verdict i.bytes) e in
    counts_path (merged (one_rate (merged m (counts_of a))) none_missed) (counts_of (b ++ i ∷ []))
    (let r = ap (λ (c : Counts). c.full) h in omega (arith, r))
    (let p = count_yes (λ (i : Item). is_yes (verdict i.bytes)) b i e in let r = ap (λ (c : Counts). c.rate) h in omega (arith, p, r))
    (let p = count_no (λ (i : Item). is_bad (verdict i.bytes)) b i y.0 in let r = ap (λ (c : Counts). c.bad) h in omega (arith, p, r))
    (let p = count_no (λ (i : Item). is_large (verdict i.bytes)) b i y.1 in let r = ap (λ (c : Counts). c.large) h in omega (arith, p, r))

-- another group's item changes nothing
group_other : (g : ℕ) (feed : List FeedItem) (x : FeedItem) (made now : List Record) (p : Pending) → (x.group ≡ g → ⊥) → datagrams_of g now ≡ datagrams_of g made
    → SameGroup g feed made p (rest_after feed g) → SameGroup g (feed ++ x ∷ []) now p (rest_after (feed ++ x ∷ []) g)
group_other g feed x made now p ne d h = record {
  first = h.first ∙ ap (λ (ds : List Record). number_after (last ds)) (sym d);
  missed = ap (λ (is : List Item). merged p.missed (counts_of (since_yes is))) (items_other feed x g ne)
      ∙ (h.missed ∙ ap counts_of (sym (ap (λ (is : List Item). drop (number_after (last (datagrams_of g now))) is) (items_other feed x g ne) ∙ ap (λ (ds : List Record). drop (number_after (last ds)) (items_of g feed)) d)));
  bound = subst (λ (is : List Item). p.first ≤ length is) (sym (items_other feed x g ne)) h.bound;
}

missed_more_own : (feed : List FeedItem) (x : FeedItem) (made : List Record) (p : Pending) → SameGroup x.group feed made p (rest_after feed x.group)
    → missed_since x.group made (feed ++ x ∷ []) ≡ missed_since x.group made feed ++ x.item ∷ []
missed_more_own feed x made p h =
    ap (drop (number_after (last (datagrams_of x.group made)))) (items_own feed x)
    ∙ drop-append-le (number_after (last (datagrams_of x.group made))) (items_of x.group feed) (x.item ∷ []) (subst (λ (n : ℕ). n ≤ length (items_of x.group feed)) h.first h.bound)

bound_more : (feed : List FeedItem) (x : FeedItem) (n : ℕ) → n ≤ length (items_of x.group feed) → n ≤ length (items_of x.group (feed ++ x ∷ []))
bound_more feed x n l = let a = ap (λ (is : List Item). length is) (items_own feed x) in let b = length_snoc (items_of x.group feed) x.item in omega (arith, a, b)

-- the group's own item, not recordable
group_missed : (feed : List FeedItem) (x : FeedItem) (made : List Record) (p : Pending) → yes_of x.item ≡ false
    → SameGroup x.group feed made p (rest_after feed x.group) → SameGroup x.group (feed ++ x ∷ []) made p (rest_after (feed ++ x ∷ []) x.group)
group_missed feed x made p e h = record {
  first = h.first;
  missed = ap (λ (is : List Item). merged p.missed (counts_of is)) (ap since_yes (items_own feed x) ∙ since_more (items_of x.group feed) x.item false e)
      ∙ (merged_append p.missed (since_yes (items_of x.group feed)) (missed_since x.group made feed) (x.item ∷ []) h.missed
      ∙ ap counts_of (sym (missed_more_own feed x made p h)));
  bound = bound_more feed x p.first h.bound;
}

-- the group's own item, refused by the rate
group_refused : (feed : List FeedItem) (x : FeedItem) (made : List Record) (p : Pending) → yes_of x.item ≡ true
    → SameGroup x.group feed made p (rest_after feed x.group)
    → SameGroup x.group (feed ++ x ∷ []) made (record { first = p.first; missed = one_rate (merged p.missed (rest_after feed x.group)) }) (rest_after (feed ++ x ∷ []) x.group)
group_refused feed x made p e h = record {
  first = h.first;
  missed = ap (λ (is : List Item). merged (one_rate (merged p.missed (rest_after feed x.group))) (counts_of is)) (ap since_yes (items_own feed x) ∙ since_more (items_of x.group feed) x.item true e)
      ∙ (merged_rate p.missed (since_yes (items_of x.group feed)) (missed_since x.group made feed) x.item e h.missed
      ∙ ap counts_of (sym (missed_more_own feed x made p h)));
  bound = bound_more feed x p.first h.bound;
}

-- the group's own item, recorded
group_recorded : (feed : List FeedItem) (x : FeedItem) (made now : List Record) (d : Record) (p : Pending) → yes_of x.item ≡ true → datagrams_of x.group now ≡ datagrams_of x.group made ++ d ∷ [] → d.number ≡ length (items_of x.group feed)
    → SameGroup x.group feed made p (rest_after feed x.group)
    → SameGroup x.group (feed ++ x ∷ []) now (record { first = suc (p.first + total (merged p.missed (rest_after feed x.group))); missed = none_missed }) (rest_after (feed ++ x ∷ []) x.group)
group_recorded feed x made now d p e ds dn h = record {
  first = size ∙ sym after_d;
  missed = ap (λ (is : List Item). merged none_missed (counts_of is)) (ap since_yes (items_own feed x) ∙ since_more (items_of x.group feed) x.item true e)
      ∙ ap counts_of (sym (ap (λ (n : ℕ). drop n (items_of x.group (feed ++ x ∷ []))) after_d ∙ drop_of_length-le (items_of x.group (feed ++ x ∷ [])) {i = suc (length (items_of x.group feed))} (omega (arith, long))));
  bound = omega (arith, long, size);
}
  where
    after_d : number_after (last (datagrams_of x.group now)) ≡ suc (length (items_of x.group feed))
    after_d = ap (λ (xs : List Record). number_after (last xs)) ds ∙ (ap number_after (last_snoc (datagrams_of x.group made) d) ∙ ap suc dn)

    long : length (items_of x.group (feed ++ x ∷ [])) ≡ suc (length (items_of x.group feed))
    long = ap (λ (is : List Item). length is) (items_own feed x) ∙ length_snoc (items_of x.group feed) x.item

    size : suc (p.first + total (merged p.missed (rest_after feed x.group))) ≡ suc (length (items_of x.group feed))
    size =
        let a = ap total h.missed in
        let b = total_counts (missed_since x.group made feed) in
        let c = length-drop (number_after (last (datagrams_of x.group made))) (items_of x.group feed) in
        let f = h.first in let l = h.bound in
        omega (arith, a, b, c, f, l)

module _ (start : RunStart) (feed : List FeedItem) (x : FeedItem) (r : Recorder) (h : Same start feed r) where
  abbrev c_of : Captured
  c_of = captured_after feed x

  abbrev tick_now : ℕ
  tick_now = tick_after (base_of start) (feed ++ x ∷ [])

  abbrev Steps : Recorder → Type 0
  Steps now = Same start (feed ++ x ∷ []) now × (now.made ≡ made_after start tick_now x r.made feed)

  step_missed : yes_of x.item ≡ false → Steps r
  step_missed e = (
    record {
      greatest = h.greatest ∙ ap (fold (λ (greatest : ℕ) (i : Item). max greatest i.received) 0) (sym same);
      utc = h.utc ∙ ap (λ (is : List Item). utc_of (last is) (utc_after start.last)) (sym same);
      groups = λ g. ⊎_elim
          (λ (q : x.group ≡ g). subst (λ (k : ℕ). SameGroup k (feed ++ x ∷ []) r.made (r.pending k) (rest_after (feed ++ x ∷ []) k)) q
          (group_missed feed x r.made (r.pending x.group) e (h.groups x.group)))
          (λ (ne : x.group ≡ g → ⊥). group_other g feed x r.made r.made (r.pending g) ne refl (h.groups g))
          (cases_eq x.group g);
    },
    sym (cond-false (yes_of x.item && is_admitted (start.limits x.group) r.made x.group (second tick_now) (length x.item.bytes)) _ r.made (and_left _ _ e)),
  )
    where
      same : recordable (feed ++ x ∷ []) ≡ recordable feed
      same = recordable_more feed x false e ∙ append-nil (recordable feed)

  module _ (e : yes_of x.item ≡ true) where
    grown : fold (λ greatest i. max greatest i.received) 0 (recordable (feed ++ x ∷ [])) ≡ max r.greatest x.item.received
    grown = ap (fold (λ (greatest : ℕ) (i : Item). max greatest i.received) 0) (recordable_more feed x true e)
        ∙ (fold-append (λ (greatest : ℕ) (i : Item). max greatest i.received) 0 (recordable feed) (x.item ∷ []) ∙ ap (λ (n : ℕ). max n x.item.received) (sym h.greatest))

    ticks : tick_now ≡ tick_with start r c_of
    ticks = ap (λ (n : ℕ). base_of start + n) grown

    utcs : x.item.utc ≡ utc_last start (feed ++ x ∷ [])
    utcs = sym (ap (λ (is : List Item). utc_of (last is) (utc_after start.last)) (recordable_more feed x true e)
        ∙ ap (λ (o : Option Item). utc_of o (utc_after start.last)) (last_snoc (recordable feed) x.item))

    at_group : (p : Pending) (made : List Record)
        → SameGroup x.group (feed ++ x ∷ []) made p (rest_after (feed ++ x ∷ []) x.group)
        → ((g : ℕ) → (x.group ≡ g → ⊥) → SameGroup g (feed ++ x ∷ []) made (r.pending g) (rest_after (feed ++ x ∷ []) g))
        → (g : ℕ) → SameGroup g (feed ++ x ∷ []) made (with_pending r.pending x.group p g) (rest_after (feed ++ x ∷ []) g)
    at_group p made mine others g = ⊎_elim
        (λ (q : x.group ≡ g). subst (λ (k : ℕ). SameGroup k (feed ++ x ∷ []) made (with_pending r.pending x.group p k) (rest_after (feed ++ x ∷ []) k)) q
        (subst (λ (y : Pending). SameGroup x.group (feed ++ x ∷ []) made y (rest_after (feed ++ x ∷ []) x.group)) (sym (cond-true (x.group == x.group) p (r.pending x.group) (eq-eqb x.group x.group refl))) mine))
        (λ (ne : x.group ≡ g → ⊥). subst (λ (y : Pending). SameGroup g (feed ++ x ∷ []) made y (rest_after (feed ++ x ∷ []) g)) (sym (cond-false (g == x.group) p (r.pending g) (ne_eqb g x.group (λ q. ne (sym q))))) (others g ne))
        (cases_eq x.group g)

    meter : (a : Bool) → admits start r c_of ≡ a → is_admitted (start.limits x.group) r.made x.group (second tick_now) (length x.item.bytes) ≡ a
    meter a q = ap (λ (t : ℕ). is_admitted (start.limits x.group) r.made x.group (second t) (length x.item.bytes)) ticks ∙ q

    step_passed : (a : Bool) → admits start r c_of ≡ a → Steps (passed a start c_of (tick_with start r c_of) r (with_missed (rest_after feed x.group) (r.pending x.group)))
    step_passed false q = (
      record {
        greatest = sym grown;
        utc = utcs;
        groups = at_group (past_refusal (with_missed (rest_after feed x.group) (r.pending x.group))) r.made
            (group_refused feed x r.made (r.pending x.group) e (h.groups x.group))
            (λ g ne. group_other g feed x r.made r.made (r.pending g) ne refl (h.groups g));
      },
      sym (cond-false (yes_of x.item && is_admitted (start.limits x.group) r.made x.group (second tick_now) (length x.item.bytes)) _ r.made (and_right _ _ (meter false q))),
    )
    step_passed true q = (
      record {
        greatest = sym grown;
        utc = utcs;
        groups = at_group (past_datagram p) (r.made ++ new)
            (group_recorded feed x r.made (r.made ++ new) d (r.pending x.group) e
            (filter-append (λ (y : Record). is_datagram y.content && y.group == x.group) r.made new ∙ ap (λ (ds : List Record). datagrams_of x.group r.made ++ ds) (added_data start c_of tick place at p.first p.missed (total p.missed)))
            refl (h.groups x.group))
            (λ g ne. group_other g feed x r.made (r.made ++ new) (r.pending g) ne (no_data g ne) (h.groups g));
      },
      sym (cond-true (yes_of x.item && is_admitted (start.limits x.group) r.made x.group (second tick_now) (length x.item.bytes)) _ r.made (and_from _ _ e (meter true q))
          ∙ (ap (λ (t : ℕ). F t (G t)) ticks
          ∙ (ap (F tick) (sym (gap_is start x.group place tick x.item.utc feed r.made (r.pending x.group) (rest_after feed x.group) (h.groups x.group)))
          ∙ (ap (λ (n : ℕ). (r.made ++ gap) ++ make start.channels x.group n (length (items_of x.group feed)) tick x.item.utc (Datagram x.item.bytes) ∷ [])
          (let l = length-append r.made gap in omega (arith, l))
          ∙ append_assoc r.made gap (d ∷ []))))),
    )
      where
        tick : ℕ
        tick = tick_with start r c_of

        p : Pending
        p = with_missed (rest_after feed x.group) (r.pending x.group)

        place : ℕ
        place = next_in start r.made

        gap : List Record
        gap = gap_of start x.group (next_in start r.made) (tick_with start r c_of) x.item.utc (with_missed (rest_after feed x.group) (r.pending x.group))

        at : ℕ
        at = next_in start r.made + length gap

        d : Record
        d = datagram_of start c_of (tick_with start r c_of) (next_in start r.made + length gap)

        new : List Record
        new = gap ++ d ∷ []

        F : ℕ → List Record → List Record
        F t xs = (r.made ++ xs) ++ make start.channels x.group (start.place + length (r.made ++ xs)) (length (items_of x.group feed)) t x.item.utc (Datagram x.item.bytes) ∷ []

        G : ℕ → List Record
        G t = gap_after start x.group t x.item.utc r.made feed

        no_data : (g : ℕ) → (x.group ≡ g → ⊥) → datagrams_of g (r.made ++ new) ≡ datagrams_of g r.made
        no_data g ne =
            filter-append (λ (y : Record). is_datagram y.content && y.group == g) r.made new
            ∙ (ap (λ (ds : List Record). datagrams_of g r.made ++ ds)
            (filter-append (λ (y : Record). is_datagram y.content && y.group == g) gap (d ∷ [])
            ∙ (ap (λ (ds : List Record). ds ++ datagrams_of g (d ∷ [])) (gap_no_data start x.group place p.first tick x.item.utc p.missed (total p.missed) g)
            ∙ cond-false (x.group == g) (d ∷ []) [] (ne_eqb x.group g ne)))
            ∙ append-nil (datagrams_of g r.made))

  step_if : (b : Bool) → yes_of x.item ≡ b → Steps (taken_all start r (captured_if b feed x))
  step_if false e = step_missed e
  step_if true e = step_passed e (admits start r c_of) refl

  step : Steps (taken_all start r (captured_if (yes_of x.item) feed x))
  step = step_if (yes_of x.item) refl

-- the run closed, whatever the number of groups
closed_below : (start : RunStart) (feed : List FeedItem) (r : Recorder) → Same start feed r → (n : ℕ) (tick : ℕ) (utc : ℤ) → tick ≡ tick_of start r → utc ≡ r.utc
    → closing_gaps n start tick utc r.made feed ++ make start.channels 255 (start.place + length (closing_gaps n start tick utc r.made feed)) 0 tick utc Stop ∷ []
    ≡ r.made ++ (gaps_below n start r (rest_after feed) ++ make start.channels 255 (next_in start r.made + length (gaps_below n start r (rest_after feed))) 0 (tick_of start r) r.utc Stop ∷ [])
closed_below start feed r h n tick utc et eu =
    let gaps : List Record = gaps_below n start r (rest_after feed) in
    ap (λ (xs : List Record). xs ++ make start.channels 255 (start.place + length xs) 0 tick utc Stop ∷ []) (same_gaps start feed r h tick utc et eu n)
    ∙ (ap (λ (p : ℕ). (r.made ++ gaps) ++ make start.channels 255 p 0 tick utc Stop ∷ []) (let a = length-append r.made gaps in omega (arith, a))
    ∙ (ap (λ (t : ℕ). (r.made ++ gaps) ++ make start.channels 255 (next_in start r.made + length gaps) 0 t utc Stop ∷ []) et
    ∙ (ap (λ (u : ℤ). (r.made ++ gaps) ++ make start.channels 255 (next_in start r.made + length gaps) 0 (tick_of start r) u Stop ∷ []) eu
    ∙ append_assoc r.made gaps (make start.channels 255 (next_in start r.made + length gaps) 0 (tick_of start r) r.utc Stop ∷ []))))

along : (start : RunStart) (feed xs : List FeedItem) (r : Recorder) → Same start feed r
    → feed_along start (base_of start) r.made feed xs ≡ (taken_all start r (taken_of feed xs)).made ++ closing start (taken_all start r (taken_of feed xs)) (rest_after (feed ++ xs))
along start feed [] r h =
    closed_below start feed r h 16 (tick_after (base_of start) feed) (utc_last start feed) (ap (λ (n : ℕ). base_of start + n) (sym h.greatest)) (sym h.utc)
    ∙ ap (λ (ys : List FeedItem). r.made ++ closing start r (rest_after ys)) (sym (append-nil feed))
along start feed (x ∷ xs) r h =
    let s = step start feed x r h in
    let now : Recorder = taken_all start r (captured_if (yes_of x.item) feed x) in
    ap (λ (made : List Record). feed_along start (base_of start) made (feed ++ x ∷ []) xs) (sym s.1)
    ∙ (along start (feed ++ x ∷ []) xs now s.0
    ∙ (ap (λ (q : Recorder). q.made ++ closing start q (rest_after (feed ++ x ∷ [] ++ xs)))
    (sym (fold-append (took start) r (captured_if (yes_of x.item) feed x) (taken_of (feed ++ x ∷ []) xs)))
    ∙ ap (λ (ys : List FeedItem). (taken_all start r (taken_of feed (x ∷ xs))).made ++ closing start (taken_all start r (taken_of feed (x ∷ xs))) (rest_after ys)) (append_assoc feed (x ∷ []) xs)))

pub is_replay : (start : RunStart) → IsReplay start
is_replay start feed = along start [] feed (begun start) (same_begun start)

-- what the recorder has of each group is what the feed says, however far the feed was read
same_along : (start : RunStart) (feed xs : List FeedItem) (r : Recorder) → Same start feed r → Same start (feed ++ xs) (taken_all start r (taken_of feed xs))
same_along start feed [] r h = subst (λ (ys : List FeedItem). Same start ys r) (sym (append-nil feed)) h
same_along start feed (x ∷ xs) r h =
    let s = step start feed x r h in
    let now : Recorder = taken_all start r (captured_if (yes_of x.item) feed x) in
    let later : Same start ((feed ++ x ∷ []) ++ xs) (taken_all start now (taken_of (feed ++ x ∷ []) xs)) = same_along start (feed ++ x ∷ []) xs now s.0 in
    subst (λ (ys : List FeedItem). Same start ys (taken_all start r (taken_of feed (x ∷ xs)))) (append_assoc feed (x ∷ []) xs)
    (subst (λ (q : Recorder). Same start ((feed ++ x ∷ []) ++ xs) q) (sym (fold-append (took start) r (captured_if (yes_of x.item) feed x) (taken_of (feed ++ x ∷ []) xs))) later)

pub same_fed : (start : RunStart) (feed : List FeedItem) → Same start feed (taken_all start (begun start) (taken_of [] feed))
same_fed start feed = same_along start [] feed (begun start) (same_begun start)
