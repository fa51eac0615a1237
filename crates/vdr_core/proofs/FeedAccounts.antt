-- The feed's history accounts for the feed.
use Rattle.std.proofs.Common.{◌≡◌, ◌+◌, ℕ, List, [], ◌∷◌, ◌++◌, length, map, filter, count_by, Bool, true, false, ◌==◌, refl, sym, ap, ◌∙◌, subst, arith, ⊎_elim, append-nil, append_assoc, true≢false}
use Rattle.std.proofs.lemmas.Bool.{cases_eq, eq-eqb, ne_eqb, cond-true, cond-false}
use Rattle.vdr_terms.specs.Records.{Record, Item, FeedItem}
use Rattle.vdr_terms.specs.declared.datagram.Verdict.{Verdict}
use Rattle.vdr_terms.specs.Datagrams.{verdict, is_yes}
use Rattle.vdr_terms.specs.declared.datagram.Verdict.TheVariants.{Yes, Bad, Large}
use Rattle.vdr_core.specs.Accounts.{Accounts}
use Rattle.vdr_core.specs.Runs.{RunStart, base_of}
use Rattle.vdr_core.specs.Feed.{items_of}
use Rattle.vdr_core.specs.Law.{Admits, IsRun}
use Rattle.vdr_core.specs.Taken.{AllFeed, AreCounted, AreQueued, Captured, of_group}
use Rattle.vdr_core.specs.Replay.{since_yes, captured_after, captured_if, taken_of, rest_after, IsOfGroups, FeedAccounts, FeedsAreRuns}
use Rattle.vdr_core.proofs.Counted.{count_no, length_snoc}
use Rattle.vdr_core.proofs.Feeding.{yes_of, items_own, items_other, since_more, total_counts, is_replay}
use Rattle.vdr_core.proofs.Taken.{closed_runs}
use Rattle.vdr_core.proofs.Ticking.{are_runs}

is_yes_of : (v : Verdict) → is_yes v ≡ true → v ≡ Yes
is_yes_of Yes e = refl
is_yes_of Bad e = absurd (true≢false (sym e))
is_yes_of Large e = absurd (true≢false (sym e))

-- what the walk has of a group at one place of the feed: the items since the last recordable one, none of which is
record Since (g : ℕ) (feed : List FeedItem) (n : ℕ) : Type 0 where
  place : n + length (since_yes (items_of g feed)) ≡ length (items_of g feed)
  none : count_by (λ i. is_yes (verdict i.bytes)) (since_yes (items_of g feed)) ≡ 0

abbrev Fed_on : ℕ → List FeedItem → List FeedItem → ℕ → Type 0
Fed_on g feed xs n = (inside : List Item) × (rest : List Item)
    × (since_yes (items_of g feed) ++ items_of g xs ≡ inside ++ rest)
    × AreQueued g n (of_group g (taken_of feed xs)) inside
    × AreCounted (rest_after (feed ++ xs) g) rest

counted_since : (g : ℕ) (feed : List FeedItem) (n : ℕ) → Since g feed n → AreCounted (rest_after feed g) (since_yes (items_of g feed))
counted_since g feed n s = record { bad = refl; large = refl; rate = s.none; all = total_counts (since_yes (items_of g feed)) }

items_cons_own : (x : FeedItem) (xs : List FeedItem) → items_of x.group (x ∷ xs) ≡ x.item ∷ items_of x.group xs
items_cons_own x xs = ap (map (λ (y : FeedItem). y.item)) (cond-true (x.group == x.group) (x ∷ filter (λ (y : FeedItem). y.group == x.group) xs) (filter (λ (y : FeedItem). y.group == x.group) xs) (eq-eqb x.group x.group refl))

items_cons_other : (g : ℕ) (x : FeedItem) (xs : List FeedItem) → (x.group ≡ g → ⊥) → items_of g (x ∷ xs) ≡ items_of g xs
items_cons_other g x xs ne = ap (map (λ (y : FeedItem). y.item)) (cond-false (x.group == g) (x ∷ filter (λ (y : FeedItem). y.group == g) xs) (filter (λ (y : FeedItem). y.group == g) xs) (ne_eqb x.group g ne))

taken_other : (g : ℕ) (feed : List FeedItem) (x : FeedItem) (b : Bool) (later : List Captured) → (x.group ≡ g → ⊥) → of_group g (captured_if b feed x ++ later) ≡ of_group g later
taken_other g feed x false later ne = refl
taken_other g feed x true later ne = cond-false (x.group == g) (captured_after feed x ∷ of_group g later) (of_group g later) (ne_eqb x.group g ne)

moved : (g : ℕ) (feed : List FeedItem) (x : FeedItem) (xs : List FeedItem) (rest : List Item) → AreCounted (rest_after ((feed ++ x ∷ []) ++ xs) g) rest → AreCounted (rest_after (feed ++ x ∷ xs) g) rest
moved g feed x xs rest a = subst (λ (ys : List FeedItem). AreCounted (rest_after ys g) rest) (append_assoc feed (x ∷ []) xs) a

-- the group's own item
own : (feed : List FeedItem) (x : FeedItem) (xs : List FeedItem) (n : ℕ) → Since x.group feed n → (b : Bool) → yes_of x.item ≡ b
    → ((m : ℕ) → Since x.group (feed ++ x ∷ []) m → Fed_on x.group (feed ++ x ∷ []) xs m)
    → (inside : List Item) × (rest : List Item) × (since_yes (items_of x.group feed) ++ items_of x.group (x ∷ xs) ≡ inside ++ rest)
    × AreQueued x.group n (of_group x.group (captured_if b feed x ++ taken_of (feed ++ x ∷ []) xs)) inside × AreCounted (rest_after (feed ++ x ∷ xs) x.group) rest
own feed x xs n s false v later =
    let items : List Item = items_of x.group feed in
    let since_now : since_yes (items_of x.group (feed ++ x ∷ [])) ≡ since_yes items ++ x.item ∷ [] = ap since_yes (items_own feed x) ∙ since_more items x.item false v in
    let f : Fed_on x.group (feed ++ x ∷ []) xs n = later n (record {
      place = (let a = ap (λ (is : List Item). length is) since_now in let b = ap (λ (is : List Item). length is) (items_own feed x) in
          let c = length_snoc (since_yes items) x.item in let d = length_snoc items x.item in let p = s.place in omega (arith, a, b, c, d, p));
      none = ap (count_by (λ (i : Item). is_yes (verdict i.bytes))) since_now ∙ (count_no (λ (i : Item). is_yes (verdict i.bytes)) (since_yes items) x.item v ∙ s.none);
    }) in (
      f.0,
      f.1,
      ap (λ (is : List Item). since_yes items ++ is) (items_cons_own x xs) ∙ (sym (append_assoc (since_yes items) (x.item ∷ []) (items_of x.group xs))
          ∙ (ap (λ (is : List Item). is ++ items_of x.group xs) (sym since_now) ∙ f.2)),
      f.3,
      moved x.group feed x xs f.1 f.4,
    )
own feed x xs n s true v later =
    let items : List Item = items_of x.group feed in
    let since_now : since_yes (items_of x.group (feed ++ x ∷ [])) ≡ [] = ap since_yes (items_own feed x) ∙ since_more items x.item true v in
    let f : Fed_on x.group (feed ++ x ∷ []) xs (n + length (since_yes items) + 1) = later (n + length (since_yes items) + 1) (record {
      place = (let a = ap (λ (is : List Item). length is) since_now in let b = ap (λ (is : List Item). length is) (items_own feed x) in
          let d = length_snoc items x.item in let p = s.place in omega (arith, a, b, d, p));
      none = ap (count_by (λ (i : Item). is_yes (verdict i.bytes))) since_now;
    }) in (
      since_yes items ++ x.item ∷ f.0,
      f.1,
      ap (λ (is : List Item). since_yes items ++ is) (items_cons_own x xs)
          ∙ (ap (λ (is : List Item). since_yes items ++ x.item ∷ is) (ap (λ (is : List Item). is ++ items_of x.group xs) (sym since_now) ∙ f.2)
          ∙ sym (append_assoc (since_yes items) (x.item ∷ f.0) f.1)),
      subst (λ (q : List Captured). AreQueued x.group n q (since_yes items ++ x.item ∷ f.0))
          (sym (cond-true (x.group == x.group) (captured_after feed x ∷ of_group x.group (taken_of (feed ++ x ∷ []) xs)) (of_group x.group (taken_of (feed ++ x ∷ []) xs)) (eq-eqb x.group x.group refl))) (
            since_yes items,
            f.0,
            x.item,
            refl,
            counted_since x.group feed n s,
            record { recordable = is_yes_of (verdict x.item.bytes) v; group = refl; number = sym s.place; received = refl; utc = refl; bytes = refl },
            f.3,
          ),
      moved x.group feed x xs f.1 f.4,
    )

feeds_on : (g : ℕ) (feed xs : List FeedItem) (n : ℕ) → Since g feed n → Fed_on g feed xs n
feeds_on g feed [] n s = (
  [],
  since_yes (items_of g feed),
  append-nil (since_yes (items_of g feed)),
  refl,
  subst (λ (ys : List FeedItem). AreCounted (rest_after ys g) (since_yes (items_of g feed))) (sym (append-nil feed)) (counted_since g feed n s),
)
feeds_on g feed (x ∷ xs) n s = ⊎_elim
    (λ (e : x.group ≡ g). subst (λ (k : ℕ). Since k feed n → ((m : ℕ) → Since k (feed ++ x ∷ []) m → Fed_on k (feed ++ x ∷ []) xs m) → Fed_on k feed (x ∷ xs) n) e
    (λ t later. own feed x xs n t (yes_of x.item) refl later) s (λ m t. feeds_on g (feed ++ x ∷ []) xs m t))
    (λ (ne : x.group ≡ g → ⊥). other ne (feeds_on g (feed ++ x ∷ []) xs n (record {
      place = subst (λ (is : List Item). n + length (since_yes is) ≡ length is) (sym (items_other feed x g ne)) s.place;
      none = subst (λ (is : List Item). count_by (λ i. is_yes (verdict i.bytes)) (since_yes is) ≡ 0) (sym (items_other feed x g ne)) s.none;
    })))
    (cases_eq x.group g)
  where
    other : (x.group ≡ g → ⊥) → Fed_on g (feed ++ x ∷ []) xs n → Fed_on g feed (x ∷ xs) n
    other ne f = (
      f.0,
      f.1,
      ap (λ (is : List Item). since_yes (items_of g feed) ++ is) (items_cons_other g x xs ne) ∙ (ap (λ (is : List Item). since_yes is ++ items_of g xs) (sym (items_other feed x g ne)) ∙ f.2),
      subst (λ (q : List Captured). AreQueued g n q f.0) (sym (taken_other g feed x (yes_of x.item) (taken_of (feed ++ x ∷ []) xs) ne)) f.3,
      moved g feed x xs f.1 f.4,
    )

pub all_feed : (feed : List FeedItem) → IsOfGroups feed → AllFeed (taken_of [] feed) (rest_after feed) (λ g. items_of g feed)
all_feed feed small = record {
  lanes = λ g. let f = feeds_on g [] feed 0 (record { place = refl; none = refl }) in
      record { inside = f.0; since = f.1; order = f.2; is_queued = f.3; is_counted = f.4 };
  beyond = small;
}

pub feed_accounts : (start : RunStart) → Admits start.limits → FeedAccounts start
feed_accounts start ok feed small g =
    subst (λ (records : List Record). Accounts (start.limits g) (base_of start) records g (items_of g feed)) (sym (is_replay start feed))
    (closed_runs start ok (taken_of [] feed) (rest_after feed) (λ g. items_of g feed) (all_feed feed small) g)

pub feed_is_run : (start : RunStart) → Admits start.limits → FeedsAreRuns start
feed_is_run start ok feed small =
    subst (λ (records : List Record). IsRun start (λ g. items_of g feed) records) (sym (is_replay start feed))
    (are_runs start ok (taken_of [] feed) (rest_after feed) (λ g. items_of g feed) (all_feed feed small))
