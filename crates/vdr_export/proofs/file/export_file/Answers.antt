use Rattle.std.proofs.Common.{sym, subst}
use Rattle.vdr_export.specs.Answers.{FileEnds, file_of}
use Rattle.vdr_export.specs.declared.file.File.{File}
use Rattle.vdr_export.proofs.file.export_file.Goals as goal

pub returns-in-Sound-clause-file : goal.returns-in-Sound-clause-file
returns-in-Sound-clause-file g c records told =
    subst (λ (f : File). FileEnds (file_of f records) (g.O.Sink.taken c.args.out.now) (g.O.Sink.taken c.export_wave.new.out) c.export_wave.result) (sym c.in-Sound.is)
    (c.export_wave.ensures.wave records told)

pub returns-in-Picture-clause-file : goal.returns-in-Picture-clause-file
returns-in-Picture-clause-file g c records told =
    subst (λ (f : File). FileEnds (file_of f records) (g.O.Sink.taken c.args.out.now) (g.O.Sink.taken c.write_picture.new.out) c.write_picture.result) (sym c.in-Picture.is)
    (c.write_picture.ensures.picture records told)

pub returns-in-Listing-clause-file : goal.returns-in-Listing-clause-file
returns-in-Listing-clause-file g c records told =
    subst (λ (f : File). FileEnds (file_of f records) (g.O.Sink.taken c.args.out.now) (g.O.Sink.taken c.write_listing.new.out) c.write_listing.result) (sym c.in-Listing.is)
    (c.write_listing.ensures.listing records told)
