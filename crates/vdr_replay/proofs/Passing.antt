-- The parts of a run, one after another.
use Rattle.std.proofs.Common.{◌≡◌, ℕ, List, [], ◌++◌, refl, sym, ap, ◌∙◌, subst, append_assoc, append-nil}
use Rattle.vdr_terms.specs.Records.{FeedItem}
use Rattle.vdr_core.specs.Histories.{Event, Opening, recorded}
use Rattle.vdr_core.specs.Taken.{Captured}
use Rattle.vdr_outside.specs.Disk.{Disk}
use Rattle.vdr_recorder.specs.Recordings.{HasRecorded, Passes, RecorderState, start_of_opening}
use Rattle.vdr_recorder.specs.Watched.{Tells, Watched}
use Rattle.vdr_recorder.proofs.Passing.{passes_first, passes_join}
use Rattle.vdr_recorder.proofs.Telling.{tells_join, tells_none}
use Rattle.vdr_replay.specs.Taking.{BreaksOff, Closes, HasTaken, IsCut, TakesOn}

joined : (before some more : List Event) → (before ++ some) ++ more ≡ before ++ (some ++ more)
joined before some more = append_assoc before some more

module _ {tells tells_images : Type 0} (opening : Opening) where
  -- The events of two calls.
  module _ (before some more : List Event) where
    passes_both : (old mid new : Disk tells tells_images) → Passes opening (before ++ some) old mid → Passes opening ((before ++ some) ++ more) mid new → Passes opening (before ++ (some ++ more)) old new
    passes_both old mid new first then = subst (λ (es : List Event). Passes opening es old new) (joined before some more) (passes_join opening (before ++ some) more old mid new first then)

  module _ (before : List Event) (t0 : ℕ) (r s : RecorderState) (old mid new : Disk tells tells_images) (feed : List FeedItem) (batch : List Captured)
      (hears : Type 0) (was then_was is : Watched) (first : TakesOn opening feed batch before t0 r old mid hears was then_was) where
    heard_both : (some more : List Event) → Tells hears opening before (before ++ some) was then_was → Tells hears opening (before ++ some) ((before ++ some) ++ more) then_was is
        → Tells hears opening before (before ++ (some ++ more)) was is
    heard_both some more p q = subst (λ (es : List Event). Tells hears opening before es was is) (joined before some more) (tells_join p q)

    pub takes_join : (feed' : List FeedItem) (batch' : List Captured) → TakesOn opening feed' batch' (before ++ first.more) t0 s mid new hears then_was is → TakesOn opening feed' batch' before t0 s old new hears was is
    takes_join feed' batch' then = record {
      more = first.more ++ then.more;
      taken = subst (λ (es : List Event). HasTaken opening feed' batch' es t0 s new) (joined before first.more then.more) then.taken;
      passes = passes_both before first.more then.more old mid new first.passes then.passes;
      heard = heard_both first.more then.more first.heard then.heard;
    }

    pub takes_break : (feed' : List FeedItem) → BreaksOff opening feed' (before ++ first.more) t0 s mid new hears then_was is → BreaksOff opening feed' before t0 s old new hears was is
    takes_break feed' then = record {
      more = first.more ++ then.more;
      has = subst (λ (es : List Event). HasRecorded opening es t0 s new) (joined before first.more then.more) then.has;
      cut = subst (λ (es : List Event). IsCut (start_of_opening opening) feed' (recorded es)) (joined before first.more then.more) then.cut;
      passes = passes_both before first.more then.more old mid new first.passes then.passes;
      heard = heard_both first.more then.more first.heard then.heard;
    }

    pub takes_close : (feed' : List FeedItem) → Closes opening feed' (before ++ first.more) t0 s mid new hears then_was is → Closes opening feed' before t0 s old new hears was is
    takes_close feed' then = record {
      more = first.more ++ then.more;
      has = subst (λ (es : List Event). HasRecorded opening es t0 s new) (joined before first.more then.more) then.has;
      made = ap recorded (sym (joined before first.more then.more)) ∙ then.made;
      counts = then.counts;
      passes = passes_both before first.more then.more old mid new first.passes then.passes;
      heard = heard_both first.more then.more first.heard then.heard;
    }

  -- Where nothing was called.
  pub takes_none : (feed : List FeedItem) (batch : List Captured) (events : List Event) (t0 : ℕ) (r : RecorderState) (disk : Disk tells tells_images)
      (hears : Type 0) (w : Watched) → HasTaken opening feed batch events t0 r disk → TakesOn opening feed batch events t0 r disk disk hears w w
  takes_none feed batch events t0 r disk hears w h = record {
    more = [];
    taken = subst (λ (es : List Event). HasTaken opening feed batch es t0 r disk) (sym (append-nil events)) h;
    passes = passes_first opening (events ++ []) disk;
    heard = subst (λ (es : List Event). Tells hears opening events es w w) (sym (append-nil events)) (tells_none (λ heard. refl));
  }
