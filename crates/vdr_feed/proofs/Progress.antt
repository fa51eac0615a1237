-- A reader goes on in a feed, item by item.
use Rattle.std.proofs.Common.{◌≡◌, ◌<◌, ◌+◌, ℕ, List, [], ◌∷◌, ◌++◌, length, Option, Some, refl, ap, ◌∙◌, sym, subst, arith}
use Rattle.std.specs.List.{flat_map}
use Rattle.std.specs.Io.KnownBytes.{Consumes}
use Rattle.std.proofs.KnownBytes.{Consumes-trans}
use Rattle.std.proofs.lemmas.Grind.{flat_map-append}
use Rattle.std.proofs.lemmas.List.{append_assoc, append-nil, length-append}
use Rattle.vdr_terms.specs.Records.{FeedItem}
use Rattle.vdr_feed.specs.Feed.{feed, feed_header, spelling, IsItem, AreItems, IsRefusedAfter, received_after, fault_of, longest_feed}
use Rattle.vdr_feed.specs.Reader.{Reading, IsNext, past_item, begun_reading}
use Rattle.vdr_feed.specs.declared.item.Item.{Item as Held}
use Rattle.vdr_feed.specs.Progress.{HasRead}

after_header : (header front text : List ℕ) → header ++ (front ++ text) ≡ (header ++ front) ++ text
after_header header front text = sym (append_assoc header front text)

pub feed_more : (items : List FeedItem) (i : FeedItem) → feed (items ++ i ∷ []) ≡ feed items ++ spelling i
feed_more items i =
    ap (λ (t : List ℕ). feed_header ++ t) (flat_map-append spelling items (i ∷ []) ∙ ap (λ (t : List ℕ). flat_map spelling items ++ t) (append-nil (spelling i)))
    ∙ after_header feed_header (flat_map spelling items) (spelling i)

items_more : (floor : ℕ) (items : List FeedItem) (i : FeedItem) → AreItems floor items → IsItem (received_after floor items) i → AreItems floor (items ++ i ∷ [])
items_more floor [] i legal next = (next, tt)
items_more floor (j ∷ items) i legal next = (legal.0, items_more j.item.received items i legal.1 next)

received_more : (floor : ℕ) (items : List FeedItem) (i : FeedItem) → received_after floor (items ++ i ∷ []) ≡ i.item.received
received_more floor [] i = refl
received_more floor (j ∷ items) i = received_more j.item.received items i

-- Behind the header it has read no item.
pub read_first : (first now : Option (List ℕ)) (r : Reading) → Consumes first now feed_header → r ≡ begun_reading longest_feed → HasRead first now r []
read_first first now r read is = record {
  read = subst (λ (t : List ℕ). Consumes first now t) (sym (append-nil feed_header)) read;
  legal = tt;
  limit = ap (λ (x : Reading). x.limit) is;
  count = ap (λ (x : Reading). x.count) is;
  few = omega arith;
  floor = ap (λ (x : Reading). x.floor) is;
  offset = ap (λ (x : Reading). x.offset) is;
  begun = ap (λ (x : Reading). x.begun) is;
  going = ap (λ (x : Reading). x.stopped) is;
}

-- It has read one item more.
pub read_next : (first before now : Option (List ℕ)) (r r' : Reading) (held : Held) (items : List FeedItem) (i : FeedItem) → HasRead first before r items
    → IsNext before now r.limit r.count r.floor held i → r' ≡ past_item r i → HasRead first now r' (items ++ i ∷ [])
read_next first before now r r' held items i s n is =
    let count : r'.count ≡ length (items ++ i ∷ []) = ap (λ (x : Reading). x.count) is ∙ ap (λ (k : ℕ). k + 1) s.count ∙ sym (length-append items (i ∷ [])) in
    let room : r.count < r.limit = n.few in
    let limit : r.limit ≡ longest_feed = s.limit in
    let counted : r.count ≡ length items = s.count in
    record {
      read = subst (λ (t : List ℕ). Consumes first now t) (sym (feed_more items i)) (Consumes-trans first before now (feed items) (spelling i) s.read n.bytes);
      legal = items_more 0 items i s.legal (subst (λ (f : ℕ). IsItem f i) s.floor n.legal);
      limit = ap (λ (x : Reading). x.limit) is ∙ s.limit;
      count = count;
      few = grind (arith, length-append items (i ∷ []), room, limit, counted);
      floor = ap (λ (x : Reading). x.floor) is ∙ sym (received_more 0 items i);
      offset = ap (λ (x : Reading). x.offset) is ∙ ap (λ (k : ℕ). k + length (spelling i)) s.offset
          ∙ sym (length-append (feed items) (spelling i)) ∙ ap (λ (t : List ℕ). length t) (sym (feed_more items i));
      begun = ap (λ (x : Reading). x.begun) is ∙ s.begun;
      going = ap (λ (x : Reading). x.stopped) is ∙ s.going;
    }

-- A refusal here is that of the whole input.
pub refused_behind : (bytes rest : List ℕ) (r : Reading) (items : List FeedItem) (number offset : ℕ) → HasRead (Some bytes) (Some rest) r items → offset ≡ r.offset
    → fault_of r.limit r.count r.floor rest ≡ Some number → IsRefusedAfter longest_feed bytes number offset items rest
refused_behind bytes rest r items number offset s at fault =
    let here : fault_of longest_feed (length items) (received_after 0 items) rest ≡ Some number =
    subst (λ (l : ℕ). fault_of l (length items) (received_after 0 items) rest ≡ Some number) s.limit
    (subst (λ (k : ℕ). fault_of r.limit k (received_after 0 items) rest ≡ Some number) s.count
    (subst (λ (f : ℕ). fault_of r.limit r.count f rest ≡ Some number) s.floor fault)) in
    record { front = record { spelled = s.read; legal = s.legal; few = s.few }; fault = here; offset_is = at ∙ s.offset }
