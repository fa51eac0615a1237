use Rattle.vdr_replay.proofs.replaying.replay.Goals as goal

pub returns : goal.returns
returns g c =
    let told = c.record_feed.ensures in
    record {
      replays = record {
        replayed = told.replayed;
        left = told.left;
        blank = told.blank;
        header = told.header;
        openable = told.openable;
        unformatted = told.unformatted;
        damaged = told.damaged;
        unopened = told.unopened;
        untouched = told.untouched;
        missing = told.missing;
        beside = told.beside;
        whole = told.whole;
        input_ends = told.input_ends;
        input_failed = told.input_failed;
        later = told.later;
        others = told.others;
        sizes = told.sizes;
        cause = told.cause;
      };
    }
