-- A feed is read in one way.
use Rattle.std.proofs.Common.{◌≡◌, ◌≢◌, ◌≤◌, ◌<◌, ◌+◌, ◌⊎◌, inl, inr, ⊎_elim, ℕ, suc, List, [], ◌∷◌, ◌++◌, length, take, drop, None, Some, refl, ap, ◌∙◌, sym, subst, arith, append_assoc}
use Rattle.std.specs.List.{flat_map}
use Rattle.vdr_terms.specs.Records.{FeedItem}
use Rattle.vdr_feed.specs.Feed.{feed, feed_header, spelling, AreItems, received_after, fault_of, Reaches, IsRefusedAfter}
use Rattle.vdr_feed.specs.Law.{OneFeed, NoFeedIsRefused, OneRefusal}
use Rattle.vdr_feed.proofs.Spelled.{same_item, no_fault}

-- no further item stands there
abbrev Ends : ℕ → ℕ → ℕ → List ℕ → Type 0
Ends limit count floor rest = (rest ≡ []) ⊎ ((number : ℕ) × (fault_of limit count floor rest ≡ Some number))

no_item : (limit count floor : ℕ) (rest : List ℕ) (i : FeedItem) (x : List ℕ) → AreItems floor (i ∷ []) → count < limit → Ends limit count floor rest → rest ≡ spelling i ++ x → ⊥
no_item limit count floor rest i x legal room ends e = ⊎_elim
    (λ (nil : rest ≡ []). let bad : [] ≡ spelling i ++ x = sym nil ∙ e in nothing bad)
    (λ (f : (number : ℕ) × (fault_of limit count floor rest ≡ Some number)).
    let clash : None ≡ Some f.0 = sym (no_fault limit count floor i x room legal.0) ∙ (ap (λ (bytes : List ℕ). fault_of limit count floor bytes) (sym e) ∙ f.1) in
    let none : ⊥ = cc in none)
    ends
  where
    nothing : [] ≡ spelling i ++ x → ⊥
    nothing e = cc

unique : (limit count floor : ℕ) (items others : List FeedItem) (rest more : List ℕ) → AreItems floor items → AreItems floor others
    → count + length items ≤ limit → count + length others ≤ limit
    → Ends limit (count + length items) (received_after floor items) rest → Ends limit (count + length others) (received_after floor others) more
    → flat_map spelling items ++ rest ≡ flat_map spelling others ++ more → (items ≡ others) × (rest ≡ more)
unique limit count floor [] [] rest more a b l m p q e = (refl, e)
unique limit count floor [] (j ∷ js) rest more a b l m p q e =
    absurd (no_item limit count floor rest j (flat_map spelling js ++ more) (b.0, tt) (omega (arith, m)) (subst (λ (n : ℕ). Ends limit n floor rest) (omega arith) p) (e ∙ append_assoc (spelling j) (flat_map spelling js) more))
unique limit count floor (i ∷ is) [] rest more a b l m p q e =
    absurd (no_item limit count floor more i (flat_map spelling is ++ rest) (a.0, tt) (omega (arith, l)) (subst (λ (n : ℕ). Ends limit n floor more) (omega arith) q) (sym e ∙ append_assoc (spelling i) (flat_map spelling is) rest))
unique limit count floor (i ∷ is) (j ∷ js) rest more a b l m p q e =
    let here = same_item floor floor i j (flat_map spelling is ++ rest) (flat_map spelling js ++ more) a.0 b.0
    (sym (append_assoc (spelling i) (flat_map spelling is) rest) ∙ (e ∙ append_assoc (spelling j) (flat_map spelling js) more)) in
    let at : j.item.received ≡ i.item.received = ap (λ (x : FeedItem). x.item.received) (sym here.0) in
    let later = unique limit (suc count) i.item.received is js rest more a.1 (subst (λ (f : ℕ). AreItems f js) at b.1) (omega (arith, l)) (omega (arith, m))
    (subst (λ (n : ℕ). Ends limit n (received_after i.item.received is) rest) (omega arith) p)
    (subst (λ (n : ℕ). Ends limit n (received_after i.item.received js) more) (omega arith) (subst (λ (f : ℕ). Ends limit (count + length (j ∷ js)) (received_after f js) more) at q))
    here.1 in
    ((λ k. here.0 k ∷ later.0 k), later.1)

-- what is reached behind the header
pub behind : (limit : ℕ) (bytes : List ℕ) (items : List FeedItem) (rest : List ℕ) → Reaches limit bytes items rest → drop 8 bytes ≡ flat_map spelling items ++ rest
behind limit bytes items rest r = ap (λ (xs : List ℕ). drop 8 xs) (r.spelled ∙ append_assoc feed_header (flat_map spelling items) rest)

pub begins : (limit : ℕ) (bytes : List ℕ) (items : List FeedItem) (rest : List ℕ) → Reaches limit bytes items rest → take 8 bytes ≡ feed_header
begins limit bytes items rest r = ap (λ (xs : List ℕ). take 8 xs) (r.spelled ∙ append_assoc feed_header (flat_map spelling items) rest)

both : (limit : ℕ) (bytes : List ℕ) (items others : List FeedItem) (rest more : List ℕ) → Reaches limit bytes items rest → Reaches limit bytes others more
    → Ends limit (length items) (received_after 0 items) rest → Ends limit (length others) (received_after 0 others) more → (items ≡ others) × (rest ≡ more)
both limit bytes items others rest more r s p q =
    let few = r.few in let short = s.few in
    unique limit 0 0 items others rest more r.legal s.legal (omega (arith, few)) (omega (arith, short))
    (subst (λ (n : ℕ). Ends limit n (received_after 0 items) rest) (omega arith) p)
    (subst (λ (n : ℕ). Ends limit n (received_after 0 others) more) (omega arith) q)
    (sym (behind limit bytes items rest r) ∙ behind limit bytes others more s)

pub one_feed : OneFeed
one_feed limit bytes items others r s = (both limit bytes items others [] [] r s (inl refl) (inl refl)).0

pub no_feed_is_refused : NoFeedIsRefused
no_feed_is_refused limit bytes items number offset r refused = ⊎_elim
    (λ (h : (take 8 bytes ≢ feed_header) × (number ≡ 1) × (offset ≡ 0)). h.0 (begins limit bytes items [] r))
    (λ (h : (others : List FeedItem) × (rest : List ℕ) × IsRefusedAfter limit bytes number offset others rest).
    let same = both limit bytes items h.0 [] h.1 r h.2.front (inl refl) (inr (number, h.2.fault)) in
    let clash : None ≡ Some number = ap (λ (xs : List ℕ). fault_of limit (length h.0) (received_after 0 h.0) xs) same.1 ∙ h.2.fault in
    let none : ⊥ = cc in none)
    refused

pub one_refusal : OneRefusal
one_refusal limit bytes number offset other at first second = ⊎_elim
    (λ (h : (take 8 bytes ≢ feed_header) × (number ≡ 1) × (offset ≡ 0)). ⊎_elim
    (λ (k : (take 8 bytes ≢ feed_header) × (other ≡ 1) × (at ≡ 0)). (h.1 ∙ sym k.1, h.2 ∙ sym k.2))
    (λ (k : (others : List FeedItem) × (rest : List ℕ) × IsRefusedAfter limit bytes other at others rest). absurd (h.0 (begins limit bytes k.0 k.1 k.2.front)))
    second)
    (λ (h : (items : List FeedItem) × (rest : List ℕ) × IsRefusedAfter limit bytes number offset items rest). ⊎_elim
    (λ (k : (take 8 bytes ≢ feed_header) × (other ≡ 1) × (at ≡ 0)). absurd (k.0 (begins limit bytes h.0 h.1 h.2.front)))
    (λ (k : (others : List FeedItem) × (rest : List ℕ) × IsRefusedAfter limit bytes other at others rest).
    let same = both limit bytes h.0 k.0 h.1 k.1 h.2.front k.2.front (inr (number, h.2.fault)) (inr (other, k.2.fault)) in
    let faults : Some number ≡ Some other =
    sym h.2.fault ∙ ((λ i. fault_of limit (length (same.0 i)) (received_after 0 (same.0 i)) (same.1 i)) ∙ k.2.fault) in
    let numbers : number ≡ other = cc in
    (numbers, h.2.offset_is ∙ (ap (λ (items : List FeedItem). length (feed items)) same.0 ∙ sym k.2.offset_is)))
    second)
    first
