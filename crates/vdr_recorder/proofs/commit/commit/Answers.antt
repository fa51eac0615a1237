use Rattle.std.proofs.Common.{refl, arith}
use Rattle.vdr_recorder.proofs.Committing.{event, kept_commit, kept_nothing, may_commit, none_of, some_of}
use Rattle.vdr_recorder.proofs.commit.commit.Goals as goal

pub returns-then-is_empty-clause-event : goal.returns-then-is_empty-clause-event
returns-then-is_empty-clause-event g c opening events t0 taken told h roomy done =
    kept_nothing opening events t0 c.args.vault.now (g.M.Media.disk c.args.media.now) h c.requires.works c.args.records.now taken done (h.works c.requires.works)
    (none_of c.args.records.now c.is_empty.result c.is_empty.ensures c.if-is_empty.true)

pub returns-clause-event : goal.returns-clause-event
returns-clause-event g c opening events t0 taken told h roomy done =
    let v = h.works c.requires.works in
    let some = some_of c.args.records.now c.is_empty.result c.is_empty.ensures c.if-is_empty.false in
    kept_commit opening events t0 c.args.vault.now (g.M.Media.disk c.args.media.now) h c.requires.works c.args.records.now taken done c.commit.new.self (g.M.Media.disk c.commit.new.media)
    c.commit.result v c.commit.ensures.keeps.config c.commit.ensures.keeps.count c.commit.ensures.failing.fails c.commit.ensures.failing.works c.commit.ensures.goes_on.kept c.commit.ensures.keeps.table some
    (c.commit.ensures.commits opening events
    (event opening events t0 c.args.vault.now (g.M.Media.disk c.args.media.now) h c.requires.works c.args.records.now taken done c.commit.new.self (g.M.Media.disk c.commit.new.media))
    taken v.placed told refl v.stands
    (may_commit opening events t0 c.args.vault.now (g.M.Media.disk c.args.media.now) h c.requires.works c.args.records.now taken done v roomy some))

pub returns-clause-nothing : goal.returns-clause-nothing
returns-clause-nothing g c none =
    let some = some_of c.args.records.now c.is_empty.result c.is_empty.ensures c.if-is_empty.false in
    absurd (omega (arith, some, none))
