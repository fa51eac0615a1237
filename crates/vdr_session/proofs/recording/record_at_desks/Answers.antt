use Rattle.vdr_session.proofs.recording.record_at_desks.Goals as goal

pub returns-clause-ends : goal.returns-clause-ends
returns-clause-ends g c =
    let told = c.record_and_reply.ensures in
    record { groups = told.groups; decides = told.decides; unbegun = told.unbegun; others = told.others; sizes = told.sizes; cause = told.cause }
