use Rattle.vdr_control.proofs.ExportLemmas.{no_picture_line, no_sound_line}
use Rattle.vdr_control.proofs.LineLemmas.{none_so}
use Rattle.vdr_control.proofs.export.read_export_line.Goals as goal

pub returns-in-Some-clause-none : goal.returns-in-Some-clause-none
returns-in-Some-clause-none c = none_so c.read_sound.result (no_sound_line c.args.line.now c.in-Some.text.now c.in-Some.ensures.found) c.read_sound.ensures.none

pub returns-clause-none : goal.returns-clause-none
returns-clause-none c = none_so c.read_picture.result (no_picture_line c.args.line.now c.in_ok-text.text.now c.in_ok-text.ensures.found) c.read_picture.ensures.none
