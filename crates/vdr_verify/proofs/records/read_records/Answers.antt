use Rattle.std.proofs.Common.{ap, refl, rules, true, false}
use Rattle.vdr_verify.specs.declared.account.Account.{Account}
use Rattle.vdr_verify.proofs.Lists.{all_listed, fewer_places, found_as, none_counted, one_counted, stopped_as}
use Rattle.vdr_verify.proofs.records.read_records.Goals as goal

pub loop-account-init : goal.loop-account-init
loop-account-init g c = record { read = λ first h is. none_counted first _ _ _ h c.new-account.result c.new-account.ensures.none is; end_is = refl; stamps = c.new-account.ensures.stamps; later = search rules }

pub returns-in_err-next_record-clause-reads : goal.returns-in_err-next_record-clause-reads
returns-in_err-next_record-clause-reads g c = λ first h is.
    let was = c.loop-account.invariant.read first h is in
    stopped_as _ _ _ _ _ h was.records c.next_record.result c.from_residual.result c.in_err-next_record.field-0.0 c.in_err-next_record.was (search rules) (c.next_record.ensures.finds first h was.records was.is)

pub loop-account-smaller : goal.loop-account-smaller
loop-account-smaller g c = fewer_places c.args.asked.now c.loop-account.account.last _ _ (c.in_ok-next_record.ensures.given c.if-branch.true) (ap (λ (a : Account). a.last) c.add.ensures.grown)

pub loop-account-preserved : goal.loop-account-preserved
loop-account-preserved g c = record {
  read = λ first h is.
      let was = c.loop-account.invariant.read first h is in
      one_counted _ _ _ _ _ _ h _ _ _ was c.add.ensures.grown (found_as _ _ _ _ _ h was.records _ true c.if-branch.true (c.in_ok-next_record.ensures.finds first h was.records was.is));
  end_is = refl;
  stamps = c.add.ensures.stamps c.loop-account.invariant.stamps;
  later = search rules;
}

pub returns-clause-reads : goal.returns-clause-reads
returns-clause-reads g c = λ first h is.
    let was = c.loop-account.invariant.read first h is in
    all_listed _ _ _ _ _ _ h _ c.next_record.new.item was c.loop-account.invariant.end_is (found_as _ _ _ _ c.next_record.new.item h was.records _ false c.if-branch.false (c.in_ok-next_record.ensures.finds first h was.records was.is))
