use Rattle.std.proofs.Common.{◌∙◌, List, Option, None, subst, ap, arith, length-set}
use Rattle.std.proofs.lemmas.List.{take_all, length-replicate}
use Rattle.vdr_index.specs.declared.known.Known.{Known}
use Rattle.vdr_directory.specs.Sequence.{Placed}
use Rattle.vdr_directory.specs.Directories.{DirectoryState, count_of}
use Rattle.vdr_directory.specs.Indexed.{IsIndexed}
use Rattle.vdr_directory.specs.Telling.{IsIndexedBy}
use Rattle.vdr_directory.proofs.Filing.{described_length, few_records, indexed_more, indexed_none, slot_within}
use Rattle.vdr_directory.proofs.FilingBy.{indexed_more as more_by, indexed_none as none_by}
use Rattle.vdr_directory.proofs.directory.Directory.of_all.Goals as goal

pub tell-requires : goal.tell-requires
tell-requires c = slot_within c.args.opened.now c.args.slots c.loop-entry.directory.index c.loop-entry.entry-index _ c.requires c.loop-entry.invariant.size c.loop-entry-test.true

pub loop-entry-init : goal.loop-entry-init
loop-entry-init c = record {
  size = ap count_of c.in_ok-directory.ensures ∙ length-replicate {A = Option Known} c.args.slots None;
  told = λ segment placed bytes small holds order describe. indexed_none c.args.slots c.in_ok-directory.directory.index (ap (λ (t : DirectoryState). t.index) c.in_ok-directory.ensures);
  known = λ segment known bytes small are order describe. none_by c.args.slots c.in_ok-directory.directory.index (ap (λ (t : DirectoryState). t.index) c.in_ok-directory.ensures);
}

pub loop-entry-preserved : goal.loop-entry-preserved
loop-entry-preserved c = record {
  size = ap count_of c.tell.ensures ∙ length-set c.loop-entry.directory.index _ _ ∙ c.loop-entry.invariant.size;
  told = λ segment placed bytes small holds order describe.
      indexed_more c.args.slots holds.slots placed c.args.opened.now c.loop-entry.entry-index c.loop-entry.directory.index c.tell.new.self.index _ holds.sequence holds.all_slots
      (few_records segment c.args.slots placed bytes small holds) order describe c.loop-entry-test.true (ap (λ (t : DirectoryState). t.index) c.tell.ensures)
      (c.loop-entry.invariant.told segment placed bytes small holds order describe);
  known = λ segment known bytes small are order describe.
      more_by segment c.args.slots bytes known c.args.opened.now c.loop-entry.entry-index c.loop-entry.directory.index c.tell.new.self.index _ small are order describe c.loop-entry-test.true
      (ap (λ (t : DirectoryState). t.index) c.tell.ensures) (c.loop-entry.invariant.known segment known bytes small are order describe);
}

pub returns-clause-told : goal.returns-clause-told
returns-clause-told c segment placed bytes small holds order describe =
    let e = described_length placed c.args.opened.now describe in
    let past = c.loop-entry-test.false in
    subst (λ (ps : List Placed). IsIndexed c.args.slots ps c.loop-entry.directory.index) (take_all c.loop-entry.entry-index placed (omega (arith, e, past)))
    (c.loop-entry.invariant.told segment placed bytes small holds order describe)

pub returns-clause-known : goal.returns-clause-known
returns-clause-known c segment known bytes small are order describe =
    let e = described_length known c.args.opened.now describe in
    let past = c.loop-entry-test.false in
    subst (λ (ps : List Placed). IsIndexedBy c.args.slots ps c.loop-entry.directory.index) (take_all c.loop-entry.entry-index known (omega (arith, e, past)))
    (c.loop-entry.invariant.known segment known bytes small are order describe)
