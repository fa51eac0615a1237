use Rattle.std.proofs.Common.{◌≡◌, ◌∙◌, ℕ, List, Err, sym, ap, refl, subst}
use Rattle.vdr_config.specs.Configuration.{Configuration}
use Rattle.vdr_entry.specs.Queries.{asked}
use Rattle.vdr_outside.specs.Disk.{content}
use Rattle.vdr_outside.specs.declared.fault.PartRefused.{PartRefused}
use Rattle.vdr_export.specs.Answers.{file_end}
use Rattle.vdr_rescue.specs.Alones.{IsAloneOn, RefusesAlone}
use Rattle.vdr_segment.specs.Areas.{HasRoom}
use Rattle.vdr_rescue.specs.Costs.{ReadsNoOther}
use Rattle.vdr_export.specs.Wishes.{kind_at, wished}
use Rattle.vdr_readout.specs.Reads.{LacksChannel, number_asked, plain_play, query_of}
use Rattle.vdr_readout.proofs.ExportLemmas.{both_there, still_output}
use Rattle.vdr_readout.proofs.ReadLemmas.{wanted_so}
use Rattle.vdr_readout.proofs.RescueLemmas.{LawsOfAlone, failed_so, found_is, given, media_rose, no_other, ok_from, still}
use Rattle.vdr_readout.proofs.RescuedFileLemmas.{channel_file, incident_file, kind_file, misses_incident, refused_file, refused_rescues, silent_so, written_rescues, written_unfound}
use Rattle.vdr_readout.proofs.rescuing_files.rescue_file.Goals as goal

pub returns-in-Err-clause-rescues : goal.returns-in-Err-clause-rescues
returns-in-Err-clause-rescues g c =
    let laws : LawsOfAlone = record { same = c.law_of_alone.ensures.same; refused = c.law_of_alone.ensures.refused; never = c.law_of_alone.ensures.never; one = c.law_of_alone.ensures.one; given = c.law_of_alone.ensures.given; found = c.law_of_alone.ensures.found } in
    let m = c.number_of-m.ensures.number in
    let told = c.open.ensures in
    rw c.status_of_part.ensures
    (refused_file laws c.args.wish (plain_play c.args.wanted) _ _ refl told.unchanged (subst (λ n. ReadsNoOther n (g.M.Media.bytes_read c.args.world.now.media) (g.M.Media.bytes_read c.open.new.media)) m told.others)
    c.in-Err.refused
    (λ k offset is. let why = told.damaged k offset (c.in-Err.is ∙ ap (λ (p : PartRefused). Err p) is) in
    (why.0 ∙ m, λ t. subst (λ n. RefusesAlone n (content (g.M.Media.disk c.args.world.now.media).reads n) offset) m (why.1 t)))
    (λ is. media_rose (g.M.Media.faults c.args.world.now.media) (g.M.Media.faults c.open.new.media) _ told.cause c.in-Err.refused c.in-Err.is is))

pub returns-in_default-clause-rescues : goal.returns-in_default-clause-rescues
returns-in_default-clause-rescues g c =
    let laws : LawsOfAlone = record { same = c.law_of_alone.ensures.same; refused = c.law_of_alone.ensures.refused; never = c.law_of_alone.ensures.never; one = c.law_of_alone.ensures.one; given = c.law_of_alone.ensures.given; found = c.law_of_alone.ensures.found } in
    let m = c.number_of-m.ensures.number in
    let told = c.open.ensures in
    channel_file laws c.args.wish (plain_play c.args.wanted) _ _ c.in-Ok.alone (λ t. subst (λ n. IsAloneOn n (content (g.M.Media.disk c.args.world.now.media).reads n) c.in-Ok.alone) m (c.in-Ok.ensures.opened t))
    told.unchanged (subst (λ n. ReadsNoOther n (g.M.Media.bytes_read c.args.world.now.media) (g.M.Media.bytes_read c.open.new.media)) m told.others)
    (subst (λ (d : Configuration). LacksChannel d c.args.wanted.channel.now) c.config.ensures c.in_default.ensures.none) c.report_channel.ensures

pub returns-in_default-accept-clause-rescues : goal.returns-in_default-accept-clause-rescues
returns-in_default-accept-clause-rescues g c =
    let laws : LawsOfAlone = record { same = c.law_of_alone.ensures.same; refused = c.law_of_alone.ensures.refused; never = c.law_of_alone.ensures.never; one = c.law_of_alone.ensures.one; given = c.law_of_alone.ensures.given; found = c.law_of_alone.ensures.found } in
    let m = c.number_of-m.ensures.number in
    let told = c.open.ensures in
    let wants = wanted_so c.in-Ok.alone.config _ _ _ _ (asked c.in-Some.query)
    (subst (λ (d : Configuration). asked c.in-Some.query ≡ query_of d c.args.wanted.medium c.args.wanted.channel.now c.args.wanted.from c.args.wanted.to) c.config.ensures c.in-Some.ensures.found.0)
    (subst (λ (d : Configuration). LacksChannel d c.args.wanted.channel.now → ⊥) c.config.ensures c.in-Some.ensures.found.1) in
    rw c.id_of.ensures
    (incident_file laws c.args.wish (plain_play c.args.wanted) _ _ c.in-Ok.alone (λ t. subst (λ n. IsAloneOn n (content (g.M.Media.disk c.args.world.now.media).reads n) c.in-Ok.alone) m (c.in-Ok.ensures.opened t))
    told.unchanged (subst (λ n. ReadsNoOther n (g.M.Media.bytes_read c.args.world.now.media) (g.M.Media.bytes_read c.open.new.media)) m told.others)
    (asked c.in-Some.query) wants refl (misses_incident c.in-Ok.alone (plain_play c.args.wanted) (asked c.in-Some.query) wants c.accept.result c.accept.ensures _ c.in_default-accept.is))

pub returns-in_default-file_of-clause-rescues : goal.returns-in_default-file_of-clause-rescues
returns-in_default-file_of-clause-rescues g c =
    let laws : LawsOfAlone = record { same = c.law_of_alone.ensures.same; refused = c.law_of_alone.ensures.refused; never = c.law_of_alone.ensures.never; one = c.law_of_alone.ensures.one; given = c.law_of_alone.ensures.given; found = c.law_of_alone.ensures.found } in
    let m = c.number_of-m.ensures.number in
    let told = c.open.ensures in
    let wants = wanted_so c.in-Ok.alone.config _ _ _ _ (asked c.in-Some.query)
    (subst (λ (d : Configuration). asked c.in-Some.query ≡ query_of d c.args.wanted.medium c.args.wanted.channel.now c.args.wanted.from c.args.wanted.to) c.config.ensures c.in-Some.ensures.found.0)
    (subst (λ (d : Configuration). LacksChannel d c.args.wanted.channel.now → ⊥) c.config.ensures c.in-Some.ensures.found.1) in
    let there = both_there _ _ c.accept.result c.accept.ensures c.in-Ok-accept.is in
    kind_file laws c.args.wish (plain_play c.args.wanted) _ _ c.in-Ok.alone (λ t. subst (λ n. IsAloneOn n (content (g.M.Media.disk c.args.world.now.media).reads n) c.in-Ok.alone) m (c.in-Ok.ensures.opened t))
    told.unchanged (subst (λ n. ReadsNoOther n (g.M.Media.bytes_read c.args.world.now.media) (g.M.Media.bytes_read c.open.new.media)) m told.others)
    (asked c.in-Some.query) wants there.1 refl (sym (c.file_of.ensures ∙ ap (λ (d : Configuration). wished c.args.wish (kind_at d.channels c.in-Some.query.channel)) c.config-2.ensures) ∙ c.in_default-file_of.is)

pub export_file-written-requires : goal.export_file-written-requires
export_file-written-requires g c =
    let there = both_there _ _ c.accept.result c.accept.ensures c.in-Ok-accept.is in
    record { asked = record { may = subst (λ (l : List ℕ). HasRoom c.in-Ok.alone.cursor.area l) (sym c.open.ensures.unchanged.sizes) c.in-Ok.ensures.room; channel = there.0; incident = there.1 } }

pub returns-in-Err-written-clause-rescues : goal.returns-in-Err-written-clause-rescues
returns-in-Err-written-clause-rescues g c =
    let laws : LawsOfAlone = record { same = c.law_of_alone.ensures.same; refused = c.law_of_alone.ensures.refused; never = c.law_of_alone.ensures.never; one = c.law_of_alone.ensures.one; given = c.law_of_alone.ensures.given; found = c.law_of_alone.ensures.found } in
    let m = c.number_of-m.ensures.number in
    let told = c.open.ensures in
    let wants = wanted_so c.in-Ok.alone.config _ _ _ _ (asked c.in-Some.query)
    (subst (λ (d : Configuration). asked c.in-Some.query ≡ query_of d c.args.wanted.medium c.args.wanted.channel.now c.args.wanted.from c.args.wanted.to) c.config.ensures c.in-Some.ensures.found.0)
    (subst (λ (d : Configuration). LacksChannel d c.args.wanted.channel.now → ⊥) c.config.ensures c.in-Some.ensures.found.1) in
    let there = both_there _ _ c.accept.result c.accept.ensures c.in-Ok-accept.is in
    let made = c.export_file-written.ensures in
    let alone : g.M.Media.tells → IsAloneOn (number_asked (plain_play c.args.wanted)) (content (g.M.Media.disk c.args.world.now.media).reads (number_asked (plain_play c.args.wanted))) c.in-Ok.alone = λ t. subst (λ n. IsAloneOn n (content (g.M.Media.disk c.args.world.now.media).reads n) c.in-Ok.alone) m (c.in-Ok.ensures.opened t) in
    let others = (subst (λ n. ReadsNoOther n (g.M.Media.bytes_read c.args.world.now.media) (g.M.Media.bytes_read c.open.new.media)) m told.others) in
    rw c.refused_as.ensures
    (refused_rescues laws c.args.wish (plain_play c.args.wanted) _ _ c.in-Ok.alone alone
    (still g.M.Media laws (plain_play c.args.wanted) c.args.world.now.media c.open.new.media c.export_file-written.new.media c.in-Ok.alone c.export_file-written.new.reader (c.in-Ok.ensures.medium ∙ m) alone (asked c.in-Some.query) wants told.unchanged others told.cause.later (file_end c.export_file-written.result) made.leaves)
    (no_other g.M.Media laws (plain_play c.args.wanted) c.args.world.now.media c.open.new.media c.export_file-written.new.media c.in-Ok.alone c.export_file-written.new.reader (c.in-Ok.ensures.medium ∙ m) alone (asked c.in-Some.query) wants told.unchanged others told.cause.later (file_end c.export_file-written.result) made.leaves)
    (asked c.in-Some.query) wants there.1 c.in-Some-file_of.file (sym (c.file_of.ensures ∙ ap (λ (d : Configuration). wished c.args.wish (kind_at d.channels c.in-Some.query.channel)) c.config-2.ensures) ∙ c.in-Some-file_of.is) c.export_file-written.result
    (λ x t r. made.file _ (given g.M.Media laws (plain_play c.args.wanted) c.args.world.now.media c.open.new.media c.export_file-written.new.media c.in-Ok.alone c.export_file-written.new.reader (c.in-Ok.ensures.medium ∙ m) alone (asked c.in-Some.query) wants told.unchanged others told.cause.later x t r))
    (λ is. failed_so g.M.Media laws (plain_play c.args.wanted) c.args.world.now.media c.open.new.media c.export_file-written.new.media c.in-Ok.alone c.export_file-written.new.reader (c.in-Ok.ensures.medium ∙ m) alone (asked c.in-Some.query) wants told.unchanged others told.cause.later (file_end c.export_file-written.result) made.leaves (ap file_end is))
    (λ k offset is. made.leaves.undamaged k offset (ap file_end is)) made.output.rose
    (λ why is. silent_so _ c.export_file-written.result why is
    (still_output c.args.world.now.output c.export_file-written.new.out c.export_file-written.result _ (λ (o : g.row.O.Denot). record { taken = g.O.Sink.taken o; faults = g.O.Sink.faults o }) made.silent)) c.in-Err-written.refused c.in-Err-written.is)

pub returns-in_default-findings-clause-rescues : goal.returns-in_default-findings-clause-rescues
returns-in_default-findings-clause-rescues g c =
    let laws : LawsOfAlone = record { same = c.law_of_alone.ensures.same; refused = c.law_of_alone.ensures.refused; never = c.law_of_alone.ensures.never; one = c.law_of_alone.ensures.one; given = c.law_of_alone.ensures.given; found = c.law_of_alone.ensures.found } in
    let m = c.number_of-m.ensures.number in
    let told = c.open.ensures in
    let wants = wanted_so c.in-Ok.alone.config _ _ _ _ (asked c.in-Some.query)
    (subst (λ (d : Configuration). asked c.in-Some.query ≡ query_of d c.args.wanted.medium c.args.wanted.channel.now c.args.wanted.from c.args.wanted.to) c.config.ensures c.in-Some.ensures.found.0)
    (subst (λ (d : Configuration). LacksChannel d c.args.wanted.channel.now → ⊥) c.config.ensures c.in-Some.ensures.found.1) in
    let there = both_there _ _ c.accept.result c.accept.ensures c.in-Ok-accept.is in
    let made = c.export_file-written.ensures in
    let alone : g.M.Media.tells → IsAloneOn (number_asked (plain_play c.args.wanted)) (content (g.M.Media.disk c.args.world.now.media).reads (number_asked (plain_play c.args.wanted))) c.in-Ok.alone = λ t. subst (λ n. IsAloneOn n (content (g.M.Media.disk c.args.world.now.media).reads n) c.in-Ok.alone) m (c.in-Ok.ensures.opened t) in
    let others = (subst (λ n. ReadsNoOther n (g.M.Media.bytes_read c.args.world.now.media) (g.M.Media.bytes_read c.open.new.media)) m told.others) in
    written_unfound laws c.args.wish (plain_play c.args.wanted) _ _ c.in-Ok.alone alone
    (still g.M.Media laws (plain_play c.args.wanted) c.args.world.now.media c.open.new.media c.export_file-written.new.media c.in-Ok.alone c.export_file-written.new.reader (c.in-Ok.ensures.medium ∙ m) alone (asked c.in-Some.query) wants told.unchanged others told.cause.later (file_end c.export_file-written.result) made.leaves)
    (no_other g.M.Media laws (plain_play c.args.wanted) c.args.world.now.media c.open.new.media c.export_file-written.new.media c.in-Ok.alone c.export_file-written.new.reader (c.in-Ok.ensures.medium ∙ m) alone (asked c.in-Some.query) wants told.unchanged others told.cause.later (file_end c.export_file-written.result) made.leaves)
    (asked c.in-Some.query) wants there.1 c.in-Some-file_of.file (sym (c.file_of.ensures ∙ ap (λ (d : Configuration). wished c.args.wish (kind_at d.channels c.in-Some.query.channel)) c.config-2.ensures) ∙ c.in-Some-file_of.is) c.export_file-written.result
    (λ x t r. made.file _ (given g.M.Media laws (plain_play c.args.wanted) c.args.world.now.media c.open.new.media c.export_file-written.new.media c.in-Ok.alone c.export_file-written.new.reader (c.in-Ok.ensures.medium ∙ m) alone (asked c.in-Some.query) wants told.unchanged others told.cause.later x t r)) (ok_from c.export_file-written.result c.in_default-written.not-Err)

pub returns-clause-rescues : goal.returns-clause-rescues
returns-clause-rescues g c =
    let laws : LawsOfAlone = record { same = c.law_of_alone.ensures.same; refused = c.law_of_alone.ensures.refused; never = c.law_of_alone.ensures.never; one = c.law_of_alone.ensures.one; given = c.law_of_alone.ensures.given; found = c.law_of_alone.ensures.found } in
    let m = c.number_of-m.ensures.number in
    let told = c.open.ensures in
    let wants = wanted_so c.in-Ok.alone.config _ _ _ _ (asked c.in-Some.query)
    (subst (λ (d : Configuration). asked c.in-Some.query ≡ query_of d c.args.wanted.medium c.args.wanted.channel.now c.args.wanted.from c.args.wanted.to) c.config.ensures c.in-Some.ensures.found.0)
    (subst (λ (d : Configuration). LacksChannel d c.args.wanted.channel.now → ⊥) c.config.ensures c.in-Some.ensures.found.1) in
    let there = both_there _ _ c.accept.result c.accept.ensures c.in-Ok-accept.is in
    let made = c.export_file-written.ensures in
    let alone : g.M.Media.tells → IsAloneOn (number_asked (plain_play c.args.wanted)) (content (g.M.Media.disk c.args.world.now.media).reads (number_asked (plain_play c.args.wanted))) c.in-Ok.alone = λ t. subst (λ n. IsAloneOn n (content (g.M.Media.disk c.args.world.now.media).reads n) c.in-Ok.alone) m (c.in-Ok.ensures.opened t) in
    let others = (subst (λ n. ReadsNoOther n (g.M.Media.bytes_read c.args.world.now.media) (g.M.Media.bytes_read c.open.new.media)) m told.others) in
    rw (c.ended_as.ensures, c.found_of.ensures, c.as_slice.ensures.value, m)
    (written_rescues laws c.args.wish (plain_play c.args.wanted) _ _ c.in-Ok.alone alone
    (still g.M.Media laws (plain_play c.args.wanted) c.args.world.now.media c.open.new.media c.export_file-written.new.media c.in-Ok.alone c.export_file-written.new.reader (c.in-Ok.ensures.medium ∙ m) alone (asked c.in-Some.query) wants told.unchanged others told.cause.later (file_end c.export_file-written.result) made.leaves)
    (no_other g.M.Media laws (plain_play c.args.wanted) c.args.world.now.media c.open.new.media c.export_file-written.new.media c.in-Ok.alone c.export_file-written.new.reader (c.in-Ok.ensures.medium ∙ m) alone (asked c.in-Some.query) wants told.unchanged others told.cause.later (file_end c.export_file-written.result) made.leaves)
    (asked c.in-Some.query) wants there.1 c.in-Some-file_of.file (sym (c.file_of.ensures ∙ ap (λ (d : Configuration). wished c.args.wish (kind_at d.channels c.in-Some.query.channel)) c.config-2.ensures) ∙ c.in-Some-file_of.is) c.export_file-written.result
    (λ x t r. made.file _ (given g.M.Media laws (plain_play c.args.wanted) c.args.world.now.media c.open.new.media c.export_file-written.new.media c.in-Ok.alone c.export_file-written.new.reader (c.in-Ok.ensures.medium ∙ m) alone (asked c.in-Some.query) wants told.unchanged others told.cause.later x t r)) (ok_from c.export_file-written.result c.in_default-written.not-Err) c.in-Ok-findings.findings.items (λ x t r. found_is g.M.Media laws (plain_play c.args.wanted) c.args.world.now.media c.open.new.media c.export_file-written.new.media c.in-Ok.alone c.export_file-written.new.reader (c.in-Ok.ensures.medium ∙ m) alone (asked c.in-Some.query) wants told.unchanged others told.cause.later (file_end c.export_file-written.result) made.leaves (ap file_end (ok_from c.export_file-written.result c.in_default-written.not-Err)) c.in-Ok-findings.findings.items c.in-Ok-findings.ensures x t r))
