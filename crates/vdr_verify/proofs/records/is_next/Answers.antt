use Rattle.std.proofs.Common.{◌∙◌, sym}
use Rattle.vdr_verify.proofs.Lists.{not_above, not_begun, not_selected, only_record, wrong_size}
use Rattle.vdr_verify.proofs.records.is_next.Goals as goal

pub returns-in_default-clause-other : goal.returns-in_default-clause-other
returns-in_default-clause-other c = λ same r is given. not_begun c.args.bytes.now r c.in_default.ensures.none given.legal is

pub returns-then-size-bytes-clause-other : goal.returns-then-size-bytes-clause-other
returns-then-size-bytes-clause-other c = λ same r is given.
    let found = c.in-Some.ensures.found in
    wrong_size c.args.bytes.now _ c.in-Some.size _ r found.1 found.2 c.if-size-bytes.true given.legal is

pub returns-then-not-is_above-clause-other : goal.returns-then-not-is_above-clause-other
returns-then-not-is_above-clause-other c = λ same r is given.
    not_above c.args.bytes.now _ c.args.asked.now c.args.last _ r c.in-Some.ensures.found.1 (c.is_above.ensures.other c.if-not-is_above.true) is given

pub returns-clause-legal : goal.returns-clause-legal
returns-clause-legal c = λ selected.
    let found = c.in-Some.ensures.found in (
      only_record c.args.bytes.now _ c.in-Some.size _ found.1 found.2 c.if-size-bytes.false,
      record {
        legal = found.1.legal;
        selected = sym c.selects.ensures ∙ selected;
        above = c.is_above.ensures.legal c.if-not-is_above.false;
      },
    )

pub returns-clause-other : goal.returns-clause-other
returns-clause-other c = λ none r is given. not_selected c.args.bytes.now _ c.args.asked.now c.args.last _ r c.selects.result c.in-Some.ensures.found.1 c.selects.ensures none is given
