-- What the batch of the lanes is charged for the items of a feed.
use Rattle.std.proofs.Common.{◌≡◌, ◌≤◌, ◌<◌, ◌+◌, ◌-◌, ◌/◌, ◌++◌, ℕ, List, [], ◌∷◌, length, Bool, true, false, Some, Result, Ok, Err, refl, sym, ap, ◌∙◌, subst, append_assoc, append-nil, arith}
use Rattle.std.specs.Prelude.{OnOk}
use Rattle.std.proofs.lemmas.List.{length-append, take_all}
use Rattle.vdr_terms.specs.declared.counts.Counts.{Counts}
use Rattle.vdr_terms.specs.declared.datagram.Verdict.{Verdict}
use Rattle.vdr_terms.specs.declared.datagram.Verdict.TheVariants.{Yes}
use Rattle.vdr_terms.specs.Counting.{Tally}
use Rattle.vdr_terms.specs.Datagrams.{verdict, is_yes}
use Rattle.vdr_terms.specs.Rates.{Limit}
use Rattle.vdr_terms.specs.Records.{FeedItem}
use Rattle.vdr_core.specs.Replay.{captured_if}
use Rattle.vdr_core.specs.Taken.{Captured}
use Rattle.vdr_config.specs.Configuration.{Configuration}
use Rattle.vdr_config.specs.Sizes.{limits_in}
use Rattle.vdr_feed.specs.Kept.{Holds, item_in}
use Rattle.vdr_feed.specs.declared.item.Item.{Item as Held}
use Rattle.vdr_run.specs.Charges.{Foretells}
use Rattle.vdr_run.specs.Given.{pushed_as, tally_after}
use Rattle.vdr_run.specs.Sizes.{bytes_of}
use Rattle.vdr_run.specs.declared.charges.Charges.{Charges}
use Rattle.vdr_run.specs.declared.maker.Maker.{Maker}
use Rattle.vdr_run.proofs.Sizes.{bytes_most}
use Rattle.vdr_recorder.specs.Making.{MakesBy, least_datagram}
use Rattle.vdr_replay.specs.Captured.{pushed_of}
use Rattle.vdr_replay.specs.Given.{AreCharged, HasRoomFor, IsAhead, IsSized}
use Rattle.vdr_replay.specs.declared.lanes.Lanes.{Lanes}

-- An item holds the feed's item that it is.
pub holds_own : (item : Held) → length item.bytes.items ≤ 1473 → Holds item (item_in item)
holds_own item short = record { group = refl; received = refl; utc = refl; bytes = sym (take_all 1473 item.bytes.items short) }

-- What would be pushed, by what its port has counted.
pub pushed_is : (feed : List FeedItem) (item : Held) (number : ℕ) (missed : Counts) (tally : Tally) → tally ≡ tally_after feed item.group → number ≡ tally.taken → missed ≡ tally.missed
    → verdict item.bytes.items ≡ Yes → (xs : List Captured) → xs ≡ pushed_as item (Some (number, missed)) → pushed_of feed item ≡ xs
pushed_is feed item number missed tally is taken counts recordable xs told =
    let number_is : number ≡ (tally_after feed item.group).taken = taken ∙ ap (λ (t : Tally). t.taken) is in
    let missed_is : missed ≡ (tally_after feed item.group).missed = counts ∙ ap (λ (t : Tally). t.missed) is in
    let own : pushed_as item (Some (number, missed)) ≡ captured_if true feed (item_in item) =
    λ i. record { group = item.group; number = number_is i; received = item.received; utc = item.utc; missed = missed_is i; bytes = item.bytes.items } ∷ [] in
    ap (λ (v : Verdict). captured_if (is_yes v) feed (item_in item)) recordable ∙ sym own ∙ sym told

module _ (limits : ℕ → Limit) (popped : List Captured) (feed : List FeedItem) (item : Held) (lanes : Lanes) (a : AreCharged limits popped lanes) where
  -- An item of which nothing is pushed has room.
  pub none_pushed : IsSized lanes → pushed_of feed item ≡ [] → HasRoomFor limits popped feed item lanes
  none_pushed sized none =
      let same : lanes.batch.items ++ pushed_of feed item ≡ lanes.batch.items = ap (λ (xs : List Captured). lanes.batch.items ++ xs) none ∙ append-nil lanes.batch.items in record {
        fits =
            let bytes = a.bytes in
            let e = ap (λ (xs : List Captured). bytes_of limits (popped ++ xs)) same in
            omega (arith, bytes, e);
        space = let few = sized.few in let e = ap length same in omega (arith, few, e);
      }

  -- One that is pushed has room exactly where its records fit what is left and there is memory for it.
  module _ (c : Captured) (size : ℕ) (one : pushed_of feed item ≡ c ∷ []) (grown : bytes_of limits ((popped ++ lanes.batch.items) ++ c ∷ []) ≡ bytes_of limits (popped ++ lanes.batch.items) + size) where
    all_of : bytes_of limits (popped ++ (lanes.batch.items ++ pushed_of feed item)) ≡ bytes_of limits (popped ++ lanes.batch.items) + size
    all_of = ap (λ (xs : List Captured). bytes_of limits (popped ++ (lanes.batch.items ++ xs))) one
        ∙ ap (λ (xs : List Captured). bytes_of limits xs) (sym (append_assoc popped lanes.batch.items (c ∷ []))) ∙ grown

    count_of : length (lanes.batch.items ++ pushed_of feed item) ≡ length lanes.batch.items + 1
    count_of = ap (λ (xs : List Captured). length (lanes.batch.items ++ xs)) one ∙ length-append lanes.batch.items (c ∷ [])

    pub has_room : size ≤ lanes.left → length lanes.batch.items < lanes.room / least_datagram → HasRoomFor limits popped feed item lanes
    has_room fits space = record {
      fits = let bytes = a.bytes in let e = all_of in omega (arith, bytes, e, fits);
      space = let e = count_of in omega (arith, e, space);
    }

    pub room_fits : HasRoomFor limits popped feed item lanes → size ≤ lanes.left
    room_fits h = let bytes = a.bytes in let e = all_of in let fits = h.fits in omega (arith, bytes, e, fits)

    pub room_there : HasRoomFor limits popped feed item lanes → length lanes.batch.items < lanes.room / least_datagram
    room_there h = let e = count_of in let space = h.space in omega (arith, e, space)

    -- It is pushed.
    pub one_charged : (after : Lanes) → HasRoomFor limits popped feed item lanes → Foretells limits ((popped ++ lanes.batch.items) ++ c ∷ []) after.charges → after.batch.items ≡ lanes.batch.items ++ c ∷ []
        → after.left ≡ lanes.left - size → after.room ≡ lanes.room → AreCharged limits popped after
    one_charged after h foretells items left room =
        let same : (popped ++ lanes.batch.items) ++ c ∷ [] ≡ popped ++ after.batch.items = append_assoc popped lanes.batch.items (c ∷ []) ∙ ap (λ (xs : List Captured). popped ++ xs) (sym items) in record {
          foretells = subst (λ (xs : List Captured). Foretells limits xs after.charges) same foretells;
          bytes =
              let e = ap (λ (xs : List Captured). bytes_of limits xs) same in
              let bytes = a.bytes in
              let fits = room_fits h in
              omega (arith, e, bytes, fits, grown, left, room);
        }

-- Into an empty batch any item fits.
pub room_for_any : (limits : ℕ → Limit) (popped : List Captured) (feed : List FeedItem) (item : Held) (lanes : Lanes) → length item.bytes.items ≤ 1473 → IsSized lanes → lanes.batch.items ≡ []
    → HasRoomFor limits popped feed item lanes
room_for_any limits popped feed item lanes short sized empty =
    let any = sized.any in record {
      fits = let most = by_verdict (is_yes (verdict item.bytes.items)) in let e = ap (λ (xs : List Captured). bytes_of limits (popped ++ (xs ++ pushed_of feed item))) empty in omega (arith, most, e, any, short);
      space = let few = one (is_yes (verdict item.bytes.items)) in let e = ap (λ (xs : List Captured). length (xs ++ pushed_of feed item)) empty in omega (arith, few, e, any);
    }
  where
    by_verdict : (b : Bool) → bytes_of limits (popped ++ captured_if b feed (item_in item)) ≤ bytes_of limits popped + (128 + length item.bytes.items)
    by_verdict true = bytes_most limits popped _
    by_verdict false = let e = ap (λ (xs : List Captured). bytes_of limits xs) (append-nil popped) in omega (arith, e)

    one : (b : Bool) → length (captured_if b feed (item_in item)) ≤ 1
    one true = omega arith
    one false = omega arith

-- The batch was recorded.
pub ahead_of_all : (config : Configuration) (lanes after : Lanes) (maker made : Maker) (h : IsAhead config lanes maker) → after.batch.items ≡ [] → after.charges ≡ lanes.charges → after.left ≡ after.room
    → MakesBy config h.start (h.popped ++ lanes.batch.items) made → IsAhead config after made
ahead_of_all config lanes after maker made h empty same left makes =
    let all : (h.popped ++ lanes.batch.items) ++ after.batch.items ≡ h.popped ++ lanes.batch.items = ap (λ (xs : List Captured). (h.popped ++ lanes.batch.items) ++ xs) empty ∙ append-nil (h.popped ++ lanes.batch.items) in record {
      start = h.start;
      popped = h.popped ++ lanes.batch.items;
      makes = makes;
      charged = record {
        foretells = subst (λ (x : List Captured × Charges). Foretells (limits_in config.groups) x.0 x.1) (λ i. (sym all i, sym same i)) h.charged.foretells;
        bytes = let e = ap (λ (xs : List Captured). bytes_of (limits_in config.groups) xs) all in omega (arith, e, left);
      };
    }

-- What follows from two answers of a call.
pub both_ok : {T E A B C : Type 0} (r : Result T E) → OnOk r A → OnOk r B → (A → B → C) → OnOk r C
both_ok (Ok u) a b f = f a b
both_ok (Err e) a b f = tt
