use Rattle.std.proofs.Common.{◌≡◌, ◌<◌, ℕ, Bool, List, [], ◌∷◌, Option, Some, sym, subst, ap, ◌∙◌}
use Rattle.vdr_terms.specs.Records.{FeedItem}
use Rattle.vdr_pcap.specs.Account.{Given, fate_at, received_at, with_fate}
use Rattle.vdr_pcap.specs.Taken.{Judges, item_lent, item_of}
use Rattle.vdr_pcap.specs.declared.account.Account.{Account}
use Rattle.vdr_pcap.specs.declared.lent.LentItem.{LentItem}
use Rattle.vdr_pcap.specs.declared.taking.Judged.TheVariants as judged
use Rattle.vdr_pcap.proofs.taking.judge_datagram.Goals as goal

took : (limit group utc received : ℕ) (payload : List ℕ) (whole : Bool) (stamp : Option ℕ) (a a' : Account) (item : LentItem) → stamp ≡ Some utc → a.items < limit
    → received ≡ received_at a utc → item_lent item ≡ item_of received group utc payload
    → ((p : List ℕ) → a' ≡ with_fate (Given (record { group = group; utc = utc; payload = p; is_whole = whole })) a)
    → Judges limit (fate_at group payload whole stamp) a a' (judged.Item item)
took limit group utc received payload whole stamp a a' item e few at lent given =
    subst (λ (o : Option ℕ). Judges limit (fate_at group payload whole o) a a' (judged.Item item)) (sym e)
    (few, given payload, ap (λ (i : FeedItem). i ∷ []) (sym (lent ∙ ap (λ (r : ℕ). item_of r group utc payload) at)))

pub returns-clause-judges : goal.returns-clause-judges
returns-clause-judges c =
    took c.args.limit c.args.group c.in-Some.utc c.received.result c.args.payload.now c.args.whole c.args.stamp c.args.account.now c.give.new.self c.lend-item.result
    c.in-Some.is (subst (λ (n : ℕ). n < c.args.limit) c.items.ensures c.if-items-limit.false) c.received.ensures c.lend-item.ensures.item c.give.ensures
