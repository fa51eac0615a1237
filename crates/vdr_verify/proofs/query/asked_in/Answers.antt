use Rattle.vdr_verify.proofs.Queries.{no_channel, no_stamps, too_short}
use Rattle.vdr_verify.proofs.query.asked_in.Goals as goal

pub returns-then-text-lt-BOUNDS-clause-none : goal.returns-then-text-lt-BOUNDS-clause-none
returns-then-text-lt-BOUNDS-clause-none c = λ asked asks. too_short c.args.config.now c.args.text.now asked c.if-text-lt-BOUNDS.true asks

pub returns-in_default-clause-none : goal.returns-in_default-clause-none
returns-in_default-clause-none c = λ asked asks.
    no_channel c.args.config.now c.args.text.now c.split_at.result.0.now asked c.channel_named.result c.channel_named.ensures c.split_at.ensures.front c.in_default.is asks

pub returns-in_default-stamps_in-clause-none : goal.returns-in_default-stamps_in-clause-none
returns-in_default-stamps_in-clause-none c = λ asked asks.
    no_stamps c.args.config.now c.args.text.now c.split_at.result.1.now asked c.split_at.ensures.back c.in_default-stamps_in.ensures.none asks
