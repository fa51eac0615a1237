-- Whatever was done on media since they were formatted, each image that a stop may leave has one life, with what was acknowledged of each run.
use Rattle.std.proofs.Common.{◌≤◌, inr, ℕ, List, [], ◌∷◌, ◌++◌, refl, sym, subst, append-nil, arith, ⊎_elim}
use Rattle.vdr_core.specs.Histories.{Event}
use Rattle.vdr_durability.specs.Keeping.{ShowsPrefix, acknowledged}
use Rattle.vdr_outside.specs.Disk.{Disk, Image}
use Rattle.vdr_config.specs.Configuration.{Configuration}
use Rattle.vdr_opening.specs.Media.{Contents, HoldsContents, opening_of}
use Rattle.vdr_vault.specs.Lives.{IsRun}
use Rattle.vdr_vault.specs.Lives.Life.{formatted as begun, ran}
use Rattle.vdr_vault.specs.Vaults.{ShowsHistory}
use Rattle.vdr_vault.proofs.Lives.{run_front}
use Rattle.vdr_recorder.specs.Chains.{AllLive, GoesOn, HasLived, Lived, LivesOn, Run}
use Rattle.vdr_recorder.specs.Chains.Lived.{formatted, still, returned, stopped_early, stopped}

module _ (c : Configuration) (text : List ℕ) (runs : List Run) where
  -- one run more
  lived_more : (events : List Event) (least : ℕ) (before after : Image) (x : Contents) → HasLived c text runs before → HoldsContents before x → IsRun x events
      → ShowsPrefix (ShowsHistory (opening_of x)) events least after → HasLived c text (record { events = events; least = least } ∷ runs) after
  lived_more events least before after x l holds run shown = record {
    all = l.all ++ shown.first;
    of = (l.all, shown.first, shown.rest, refl, shown.split, shown.enough, l.of);
    life = ran l.all before after x shown.first l.life holds (run_front x shown.first shown.rest events shown.split run) shown.shown;
  }

  -- nothing of it
  lived_none : (events : List Event) (image : Image) → HasLived c text runs image → HasLived c text (record { events = events; least = 0 } ∷ runs) image
  lived_none events image l = record {
    all = l.all;
    of = (l.all, [], events, sym (append-nil l.all), refl, omega arith, l.of);
    life = l.life;
  }

  module _ {tells tells_images : Type 0} (events : List Event) (old new : Disk tells tells_images) (told : tells_images) (live : AllLive c text runs old) (goes : GoesOn events old new) where
    -- from `synced` on
    live_since : (t : ℕ) (i : Image) → goes.synced ≤ t → t ≤ new.clock → new.since t i → HasLived c text (record { events = events; least = acknowledged events t } ∷ runs) i
    live_since t i start end left = lived_more events (acknowledged events t) old.reads i goes.contents (live old.reads (old.shown told).1) goes.holds goes.run (goes.kept t i start end left)

    -- at any moment
    live_early : (i : Image) → new.since old.clock i → HasLived c text (record { events = events; least = 0 } ∷ runs) i
    live_early i left = ⊎_elim
        (λ now. lived_none events i (live i now))
        (λ (k : ShowsPrefix (ShowsHistory (opening_of goes.contents)) events 0 i). lived_more events 0 old.reads i goes.contents (live old.reads (old.shown told).1) goes.holds goes.run k)
        (goes.moments i left)

    -- at the return
    pub live_now : AllLive c text (record { events = events; least = acknowledged events new.clock } ∷ runs) new
    live_now i now = live_since new.clock i goes.before_exit (omega arith) (new.counts_now new.clock i (omega arith) now)

    pub goes_further : LivesOn c text runs old new
    goes_further = inr (events, goes, live_now)

pub all_live : {M tells tells_images : Type 0} (disk : M → Disk tells tells_images) (c : Configuration) (text : List ℕ) (runs : List Run) (media : M) → tells_images → Lived disk c text runs media
    → AllLive c text runs (disk media)
all_live disk c text _ _ told (formatted media empty) = λ i now. record { all = []; of = refl; life = begun i (empty i now) }
all_live disk c text _ _ told (still runs old new lived same) = λ i now. all_live disk c text runs old told lived i (same i now)
all_live disk c text _ _ told (returned runs events old new lived goes) = live_now c text runs events (disk old) (disk new) told (all_live disk c text runs old told lived) goes
all_live disk c text _ _ told (stopped_early runs events old new started image lived goes left rest) =
    λ i now. subst (HasLived c text (record { events = events; least = 0 } ∷ runs)) (sym (rest.alone i now)) (live_early c text runs events (disk old) (disk new) told (all_live disk c text runs old told lived) goes image left)
all_live disk c text _ _ told (stopped runs events old new started t image lived goes start end left rest) =
    λ i now. subst (HasLived c text (record { events = events; least = acknowledged events t } ∷ runs)) (sym (rest.alone i now))
    (live_since c text runs events (disk old) (disk new) told (all_live disk c text runs old told lived) goes t image start end left)
