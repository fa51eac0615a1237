use Rattle.std.proofs.Common.{refl, arith}
use Rattle.std.specs.Prelude.{sum}
use Rattle.std.proofs.lemmas.Result.{err_from_is_err_and}
use Rattle.vdr_outside.proofs.Counts.{sum_not_less}
use Rattle.vdr_opening.proofs.Fronts.{empty_holds}
use Rattle.vdr_command.specs.Outside.{MediaSeen}
use Rattle.vdr_tool.specs.Trials.{bench, bench_text}
use Rattle.vdr_tool.proofs.TrialEnds.{count_stops_as, counts_as, refused_as, run_stops_as, tally_is}
use Rattle.vdr_tool.proofs.TrialStatuses.{bench_trial, run_trial}
use Rattle.vdr_tool.proofs.TrialLemmas.{empty_read, rose_wider, same_joined}
use Rattle.vdr_tool.proofs.trying.try_media.Goals as goal

pub returns-in_err-format_bench-clause-ends : goal.returns-in_err-format_bench-clause-ends
returns-in_err-format_bench-clause-ends g c =
    let p = err_from_is_err_and c.from_residual.result c.from_residual.ensures.1 in
    rw (p.1, p.2)
    (refused_as c.args.seed c.args.count _ _ c.in_err-format_bench.field-0.0 c.in_err-format_bench.ensures.stops c.in_err-format_bench.ensures.ends)

pub returns-in_err-ran-clause-ends : goal.returns-in_err-ran-clause-ends
returns-in_err-ran-clause-ends g c =
    let p = err_from_is_err_and c.from_residual-in_err-ran.result c.from_residual-in_err-ran.ensures.1 in
    let old : MediaSeen g.M.Media.tells g.M.Media.tells_images = (record { disk = g.M.Media.disk c.args.media.now; faults = g.M.Media.faults c.args.media.now; bytes_read = g.M.Media.bytes_read c.args.media.now }) in
    let mid : MediaSeen g.M.Media.tells g.M.Media.tells_images = (record { disk = g.M.Media.disk c.format_bench.new.media; faults = g.M.Media.faults c.format_bench.new.media; bytes_read = g.M.Media.bytes_read c.format_bench.new.media }) in
    let new : MediaSeen g.M.Media.tells g.M.Media.tells_images = (record { disk = g.M.Media.disk c.record_items.new.media; faults = g.M.Media.faults c.record_items.new.media; bytes_read = g.M.Media.bytes_read c.record_items.new.media }) in
    let ends = c.in_ok-format_bench.ensures.ends in
    let run = c.in_err-ran.ensures in
    let first = c.format_bench.ensures.later in
    rw (p.1, p.2)
    (run_stops_as c.args.seed c.args.count old mid new ends
    (rose_wider _ _ _ _ (sum_not_less old.faults mid.faults first.same_media first.none_falls) (omega arith))
    c.in_err-ran.field-0.0 run.stops run.fault run.others
    (λ told. run.run told (empty_holds 0 mid.disk.reads bench bench_text refl (empty_read old mid ends told))))

pub returns-in_err-windows-clause-ends : goal.returns-in_err-windows-clause-ends
returns-in_err-windows-clause-ends g c =
    let p = err_from_is_err_and c.from_residual-in_err-windows.result c.from_residual-in_err-windows.ensures.1 in
    let old : MediaSeen g.M.Media.tells g.M.Media.tells_images = (record { disk = g.M.Media.disk c.args.media.now; faults = g.M.Media.faults c.args.media.now; bytes_read = g.M.Media.bytes_read c.args.media.now }) in
    let mid : MediaSeen g.M.Media.tells g.M.Media.tells_images = (record { disk = g.M.Media.disk c.format_bench.new.media; faults = g.M.Media.faults c.format_bench.new.media; bytes_read = g.M.Media.bytes_read c.format_bench.new.media }) in
    let late : MediaSeen g.M.Media.tells g.M.Media.tells_images = (record { disk = g.M.Media.disk c.record_items.new.media; faults = g.M.Media.faults c.record_items.new.media; bytes_read = g.M.Media.bytes_read c.record_items.new.media }) in
    let new : MediaSeen g.M.Media.tells g.M.Media.tells_images = (record { disk = g.M.Media.disk c.count_windows.new.media; faults = g.M.Media.faults c.count_windows.new.media; bytes_read = g.M.Media.bytes_read c.count_windows.new.media }) in
    let ends = c.in_ok-format_bench.ensures.ends in
    let run = c.in_ok-ran.ensures in
    let first = c.format_bench.ensures.later in
    let then = c.record_items.ensures.later in
    let low = sum_not_less old.faults mid.faults first.same_media first.none_falls in
    let middle = sum_not_less mid.faults late.faults then.same_media then.none_falls in
    rw (p.1, p.2)
    (count_stops_as c.args.seed c.args.count old mid late new ends _ c.count_windows.result c.in_err-windows.field-0.0 c.in_err-windows.was c.in_err-windows.ensures.stops
    (λ is. rose_wider (sum old.faults) (sum late.faults) (sum new.faults) (sum new.faults) (omega (arith, low, middle)) (omega arith) (c.in_err-windows.ensures.fault is))
    (λ told. same_joined mid.disk.reads late.disk.reads new.disk.reads (run.others told) (c.count_windows.ensures.others told))
    (λ told. (run.run told (empty_holds 0 mid.disk.reads bench bench_text refl (empty_read old mid ends told))).2)
    c.count_windows.ensures.counts)

pub returns-clause-ends : goal.returns-clause-ends
returns-clause-ends g c =
    let old : MediaSeen g.M.Media.tells g.M.Media.tells_images = (record { disk = g.M.Media.disk c.args.media.now; faults = g.M.Media.faults c.args.media.now; bytes_read = g.M.Media.bytes_read c.args.media.now }) in
    let mid : MediaSeen g.M.Media.tells g.M.Media.tells_images = (record { disk = g.M.Media.disk c.format_bench.new.media; faults = g.M.Media.faults c.format_bench.new.media; bytes_read = g.M.Media.bytes_read c.format_bench.new.media }) in
    let late : MediaSeen g.M.Media.tells g.M.Media.tells_images = (record { disk = g.M.Media.disk c.record_items.new.media; faults = g.M.Media.faults c.record_items.new.media; bytes_read = g.M.Media.bytes_read c.record_items.new.media }) in
    let new : MediaSeen g.M.Media.tells g.M.Media.tells_images = (record { disk = g.M.Media.disk c.count_windows.new.media; faults = g.M.Media.faults c.count_windows.new.media; bytes_read = g.M.Media.bytes_read c.count_windows.new.media }) in
    let ends = c.in_ok-format_bench.ensures.ends in
    let run = c.in_ok-ran.ensures in
    counts_as c.args.seed c.args.count old mid late new ends _ c.count_windows.result c.in_ok-windows.windows c.in_ok-windows.was
    (λ told. same_joined mid.disk.reads late.disk.reads new.disk.reads (run.others told) (c.count_windows.ensures.others told))
    (λ told. (run.run told (empty_holds 0 mid.disk.reads bench bench_text refl (empty_read old mid ends told))).2)
    c.count_windows.ensures.counts

pub returns-clause-tally : goal.returns-clause-tally
returns-clause-tally g c = λ told.
    let old : MediaSeen g.M.Media.tells g.M.Media.tells_images = (record { disk = g.M.Media.disk c.args.media.now; faults = g.M.Media.faults c.args.media.now; bytes_read = g.M.Media.bytes_read c.args.media.now }) in
    let mid : MediaSeen g.M.Media.tells g.M.Media.tells_images = (record { disk = g.M.Media.disk c.format_bench.new.media; faults = g.M.Media.faults c.format_bench.new.media; bytes_read = g.M.Media.bytes_read c.format_bench.new.media }) in
    let late : MediaSeen g.M.Media.tells g.M.Media.tells_images = (record { disk = g.M.Media.disk c.record_items.new.media; faults = g.M.Media.faults c.record_items.new.media; bytes_read = g.M.Media.bytes_read c.record_items.new.media }) in
    let new : MediaSeen g.M.Media.tells g.M.Media.tells_images = (record { disk = g.M.Media.disk c.count_windows.new.media; faults = g.M.Media.faults c.count_windows.new.media; bytes_read = g.M.Media.bytes_read c.count_windows.new.media }) in
    let ends = c.in_ok-format_bench.ensures.ends in
    let run = c.in_ok-ran.ensures in
    tally_is c.args.seed c.args.count old mid late new ends _ c.count_windows.result c.in_ok-windows.windows c.in_ok-ran.ran run.fits c.in_ok-windows.was told
    (run.run told (empty_holds 0 mid.disk.reads bench bench_text refl (empty_read old mid ends told))) c.count_windows.ensures.counts

pub returns-in_err-format_bench-clause-stops : goal.returns-in_err-format_bench-clause-stops
returns-in_err-format_bench-clause-stops g c =
    let p = err_from_is_err_and c.from_residual.result c.from_residual.ensures.1 in
    rw (p.1, p.2) (bench_trial c.in_err-format_bench.field-0.0 c.in_err-format_bench.ensures.stops)

pub returns-in_err-ran-clause-stops : goal.returns-in_err-ran-clause-stops
returns-in_err-ran-clause-stops g c =
    let p = err_from_is_err_and c.from_residual-in_err-ran.result c.from_residual-in_err-ran.ensures.1 in
    rw (p.1, p.2) (run_trial c.in_err-ran.field-0.0 c.in_err-ran.ensures.stops)

pub returns-in_err-windows-clause-stops : goal.returns-in_err-windows-clause-stops
returns-in_err-windows-clause-stops g c =
    let p = err_from_is_err_and c.from_residual-in_err-windows.result c.from_residual-in_err-windows.ensures.1 in
    rw (p.1, p.2) (run_trial c.in_err-windows.field-0.0 c.in_err-windows.ensures.stops)
