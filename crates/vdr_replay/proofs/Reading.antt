-- Where a reader stands in a feed after some items, and what ends the feed.
use Rattle.std.proofs.Common.{◌≡◌, inl, inr, ℕ, List, [], ◌∷◌, ◌++◌, length, take, Option, None, Some, refl, ap, ◌∙◌, subst, arith}
use Rattle.std.specs.Io.KnownBytes.{Consumes, IsAtEnd}
use Rattle.std.proofs.KnownBytes.{Consumes-trans}
use Rattle.std.proofs.lemmas.List.{append_assoc, length-append}
use Rattle.vdr_terms.specs.declared.rate.Rate.{Rate}
use Rattle.vdr_terms.specs.Records.{FeedItem}
use Rattle.vdr_feed.specs.Failing.{IsPartOfItem, ReadsPart}
use Rattle.vdr_feed.specs.Feed.{feed, feed_header, spelling, AreItems, Reaches, received_after, fault_of, longest_feed}
use Rattle.vdr_feed.specs.Reader.{Reading, IsNext, past_item, IfKnown}
use Rattle.vdr_feed.specs.declared.item.Item.{Item as Held}
use Rattle.vdr_replay.specs.declared.ended.FeedEnd.{FeedEnd}
use Rattle.vdr_replay.specs.declared.ended.FeedEnd.TheVariants.{Whole, Input, Refused}
use Rattle.vdr_replay.specs.Feeding.{AreConfigured, HasRate, ReadsFeed}
use Rattle.vdr_feed.specs.Progress.{HasRead}
use Rattle.vdr_feed.proofs.Progress.{feed_more, read_next, refused_behind}

-- The input reaches behind what was read.
pub reached : (first now : Option (List ℕ)) (r : Reading) (items : List FeedItem) → HasRead first now r items → IfKnown first (λ bytes. (rest : List ℕ) × Reaches longest_feed bytes items rest)
reached None now r items s = tt
reached (Some bytes) None r items s = absurd s.read
reached (Some bytes) (Some rest) r items s = (rest, record { spelled = s.read; legal = s.legal; few = s.few })

-- At the end of the input the bytes are a feed of the items.
pub ends_whole : (rates : List (Option Rate)) (first left now : Option (List ℕ)) (r : Reading) (items : List FeedItem) → HasRead first left r items → IsAtEnd left
    → IfKnown first (λ bytes. ReadsFeed rates bytes now Whole items)
ends_whole rates None left now r items s end = tt
ends_whole rates (Some bytes) None now r items s end = absurd s.read
ends_whole rates (Some bytes) (Some rest) now r items s end =
    record { spelled = s.read ∙ ap (λ (t : List ℕ). feed items ++ t) end; legal = s.legal; few = s.few }

-- Where the source failed, no more than a part of an item was read behind them.
pub ends_failed : (rates : List (Option Rate)) (first left now : Option (List ℕ)) (r : Reading) (items : List FeedItem) → HasRead first left r items
    → ReadsPart r.limit r.count r.floor left now → IfKnown first (λ bytes. ReadsFeed rates bytes now Input items)
ends_failed rates None left now r items s p = tt
ends_failed rates (Some bytes) left now r items s p = record {
  part = p.0;
  read = Consumes-trans (Some bytes) left now (feed items) p.0 s.read p.2;
  legal = s.legal;
  few = s.few;
  inside = subst (λ (l : ℕ). IsPartOfItem l (length items) (received_after 0 items) p.0) s.limit
      (subst (λ (k : ℕ). IsPartOfItem r.limit k (received_after 0 items) p.0) s.count
      (subst (λ (f : ℕ). IsPartOfItem r.limit r.count f p.0) s.floor p.1));
}

-- A refusal is that of the whole input.
pub ends_refused : (rates : List (Option Rate)) (first left now : Option (List ℕ)) (r : Reading) (items : List FeedItem) (number offset : ℕ) → HasRead first left r items → offset ≡ r.offset
    → IfKnown left (λ bytes. fault_of r.limit r.count r.floor bytes ≡ Some number) → IfKnown first (λ bytes. ReadsFeed rates bytes now (Refused number offset) items)
ends_refused rates None left now r items number offset s at fault = tt
ends_refused rates (Some bytes) None now r items number offset s at fault = absurd s.read
ends_refused rates (Some bytes) (Some rest) now r items number offset s at fault =
    inl (rest, refused_behind bytes rest r items number offset s at fault)

-- An item of a group that is not configured ends the feed before it.
pub ends_strange : (rates : List (Option Rate)) (first before now : Option (List ℕ)) (r : Reading) (held : Held) (items : List FeedItem) (i : FeedItem) (number offset : ℕ) → HasRead first before r items
    → IsNext before now r.limit r.count r.floor held i → (HasRate rates i.group → ⊥) → number ≡ 4 → offset ≡ r.offset
    → IfKnown first (λ bytes. ReadsFeed rates bytes now (Refused number offset) items)
ends_strange rates first before now r held items i number offset s n strange is at =
    go first (reached first now (past_item r i) (items ++ i ∷ []) (read_next first before now r (past_item r i) held items i s n refl))
  where
    go : (first : Option (List ℕ)) → IfKnown first (λ bytes. (rest : List ℕ) × Reaches longest_feed bytes (items ++ i ∷ []) rest) → IfKnown first (λ bytes. ReadsFeed rates bytes now (Refused number offset) items)
    go None h = tt
    go (Some bytes) h = inr (record { next = i; rest = h.0; legal = h.1; strange = strange; number_is = is; offset_is = at ∙ s.offset })

-- The header, where the input begins with it.
pub begins_so : (first now : Option (List ℕ)) → Consumes first now feed_header → IfKnown first (λ bytes. take 8 bytes ≡ feed_header)
begins_so None now h = tt
begins_so (Some bytes) None h = absurd h
begins_so (Some bytes) (Some rest) h = ap (take 8) h

-- Whatever ended the feed, the input reaches behind what was read.

items_front : (floor : ℕ) (items : List FeedItem) (i : FeedItem) → AreItems floor (items ++ i ∷ []) → AreItems floor items
items_front floor [] i legal = tt
items_front floor (j ∷ items) i legal = (legal.0, items_front j.item.received items i legal.1)

pub reads_reach : (rates : List (Option Rate)) (bytes : List ℕ) (now : Option (List ℕ)) (end : FeedEnd) (items : List FeedItem) → ReadsFeed rates bytes now end items
    → (rest : List ℕ) × Reaches longest_feed bytes items rest
reads_reach rates bytes now Whole items h = ([], h)
reads_reach rates bytes None Input items h = absurd h.read
reads_reach rates bytes (Some rest) Input items h =
    (h.part ++ rest, record { spelled = h.read ∙ append_assoc (feed items) h.part rest; legal = h.legal; few = h.few })
reads_reach rates bytes now (Refused number offset) items (inl h) = (h.0, h.1.front)
reads_reach rates bytes now (Refused number offset) items (inr h) = (
  spelling h.next ++ h.rest,
  record {
    spelled = h.legal.spelled ∙ ap (λ (t : List ℕ). t ++ h.rest) (feed_more items h.next) ∙ append_assoc (feed items) (spelling h.next) h.rest;
    legal = items_front 0 items h.next h.legal.legal;
    few = let a = h.legal.few in let b = length-append items (h.next ∷ []) in omega (arith, a, b);
  },
)

-- The items that were read, whoever names them.
pub known_feed : (rates : List (Option Rate)) (first now : Option (List ℕ)) (end : FeedEnd) (feed : List FeedItem) → AreConfigured rates feed → IfKnown first (λ bytes. ReadsFeed rates bytes now end feed)
    → IfKnown first (λ bytes. (items : List FeedItem) × ReadsFeed rates bytes now end items × AreConfigured rates items)
known_feed rates None now end feed known h = tt
known_feed rates (Some bytes) now end feed known h = (feed, h, known)

pub known_reach : (rates : List (Option Rate)) (first now : Option (List ℕ)) (end : FeedEnd) (items : List FeedItem) → IfKnown first (λ bytes. ReadsFeed rates bytes now end items)
    → IfKnown first (λ bytes. (rest : List ℕ) × Reaches longest_feed bytes items rest)
known_reach rates None now end items h = tt
known_reach rates (Some bytes) now end items h = reads_reach rates bytes now end items h
