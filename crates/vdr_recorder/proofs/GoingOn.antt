-- What a headline hands on to the life of the media.
use Rattle.std.proofs.Common.{inl, inr, ⊎_elim, ℕ, List, Contains, refl, sym, ap, subst}
use Rattle.vdr_terms.specs.Order.{AreInOrder}
use Rattle.vdr_core.specs.Histories.{Event, all_records}
use Rattle.vdr_durability.specs.Keeping.{ShowsPrefix, acknowledged}
use Rattle.vdr_outside.specs.Disk.{Disk, Image}
use Rattle.vdr_media.specs.Formatted.{members}
use Rattle.vdr_opening.specs.Media.{members_with, Contents, HoldsContents, opening_of, reading_of}
use Rattle.vdr_vault.specs.Vaults.{ShowsHistory}
use Rattle.vdr_vault.proofs.Lives.{run_in_order}
use Rattle.vdr_recorder.specs.Chains.{GoesOn}
use Rattle.vdr_recorder.specs.Headline.{PlaysBack, ToldHeadline}
use Rattle.vdr_recorder.specs.Watched.{Watched}

-- What plays the events back shows them.
pub played_so : (x : Contents) (events : List Event) (image : Image) → PlaysBack (opening_of x) events image → ShowsHistory (opening_of x) events image
played_so x events image p = (members, reading_of p.contents, record { reads = record { members_are = ap members_with (sym p.legible.further); contents = p.contents; holds = p.legible; is = refl }; sound = p.sound }, p.shown)

shown_so : (x : Contents) (events : List Event) (least : ℕ) (image : Image) → ShowsPrefix (PlaysBack (opening_of x)) events least image → ShowsPrefix (ShowsHistory (opening_of x)) events least image
shown_so x events least image p = record { first = p.first; rest = p.rest; split = p.split; enough = p.enough; shown = played_so x p.first image p.shown }

pub headline_goes_on : {tells tells_images : Type 0} (x : Contents) (Told : List Event → Type 0) (may_pend : Type 0) (old new : Disk tells tells_images) (hears : Type 0) (w : Watched) → HoldsContents old.reads x
    → (h : ToldHeadline x Told may_pend old new hears w) → GoesOn h.events old new
headline_goes_on x Told may_pend old new hears w holds h = record {
  contents = x;
  holds = holds;
  run = run_in_order x h.events h.history.follow (subst (λ (ms : List ℕ). (m : ℕ) → Contains ms m → AreInOrder (all_records (opening_of x) m h.events)) (ap members_with (sym holds.further)) h.order);
  synced = h.synced;
  later = h.moments.later;
  before_exit = h.before_exit;
  moments = λ i left. ⊎_elim (λ now. inl now) (λ (k : ShowsPrefix (PlaysBack (opening_of x)) h.events 0 i). inr (shown_so x h.events 0 i k)) (h.moments.each i left);
  kept = λ t i start end left. shown_so x h.events (acknowledged h.events t) i (h.kept.prefixes t i start end left);
}
