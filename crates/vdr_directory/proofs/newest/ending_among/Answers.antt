use Rattle.std.proofs.Common.{◌∙◌, None, Option, ap, arith}
use Rattle.std.specs.Prelude.{option_map}
use Rattle.std.proofs.lemmas.List.{take_all}
use Rattle.vdr_index.specs.declared.extent.Extent.{Extent}
use Rattle.vdr_directory.specs.Directories.{ending_by, later}
use Rattle.vdr_directory.proofs.EndingsBy.{precede_by}
use Rattle.vdr_directory.proofs.Entering.{ending_placed, ending_read, ending_told, read_more}
use Rattle.vdr_directory.proofs.newest.ending_among.Goals as goal

pub loop-entry-preserved : goal.loop-entry-preserved
loop-entry-preserved c =
    read_more c.args.opened.now c.loop-entry.entry-index _ _ c.loop-entry.ending c.loop-entry-test.true
    (c.later-ending.ensures ∙ ap (λ (o : Option Extent). later c.loop-entry.ending (option_map ending_by o)) c.extent.ensures) c.loop-entry.invariant

pub returns-clause-ending : goal.returns-clause-ending
returns-clause-ending c placed order describe =
    let past = c.loop-entry-test.false in
    c.loop-entry.invariant ∙ ap ending_read (take_all c.loop-entry.entry-index c.args.opened.now (omega (arith, past))) ∙ ending_placed placed c.args.opened.now order describe

pub returns-clause-known : goal.returns-clause-known
returns-clause-known c known order describe =
    let past = c.loop-entry-test.false in
    c.loop-entry.invariant ∙ ap ending_read (take_all c.loop-entry.entry-index c.args.opened.now (omega (arith, past))) ∙ ending_told known c.args.opened.now (precede_by None known order) describe
