use Rattle.std.proofs.Common.{sym, subst}
use Rattle.vdr_directory.specs.Holds.{Tells}
use Rattle.vdr_directory.specs.Telling.{TellsBy}
use Rattle.vdr_directory.proofs.Entering.{newest_within}
use Rattle.vdr_directory.proofs.directory.Directory.of.Goals as goal

pub end_with-requires : goal.end_with-requires
end_with-requires c = newest_within c.args.opened.now c.args.slots _ _ c.in_ok-directory.ensures.size c.requires c.newest_among.ensures.slot

pub returns-clause-told : goal.returns-clause-told
returns-clause-told c segment placed bytes small holds order describe = subst (Tells c.args.slots placed) (sym c.end_with.ensures) (record {
  index = c.in_ok-directory.ensures.told segment placed bytes small holds order describe;
  newest = c.newest_among.ensures.newest placed order describe;
  ending = c.ending_among.ensures.ending placed order describe;
})

pub returns-clause-known : goal.returns-clause-known
returns-clause-known c segment known bytes small are order describe = subst (TellsBy c.args.slots known) (sym c.end_with.ensures) (record {
  index = c.in_ok-directory.ensures.known segment known bytes small are order describe;
  newest = c.newest_among.ensures.known known order describe;
  ending = c.ending_among.ensures.known known order describe;
})
