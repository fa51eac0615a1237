use Rattle.vdr_rescue.proofs.AloneAnswer.{as_refused, found_once, one_refusal, reads_given, same_answer, selects_given}
use Rattle.vdr_rescue.proofs.law.law_of_alone.Goals as goal

pub returns-clause-same : goal.returns-clause-same
returns-clause-same c m bytes a x h k = same_answer m bytes a x h k

pub returns-clause-refused : goal.returns-clause-refused
returns-clause-refused c m offset bytes a r h = as_refused m offset bytes a.config h.kind h.config r

pub returns-clause-never : goal.returns-clause-never
returns-clause-never c m offset bytes x r h = as_refused m offset bytes x.config h.kind h.config r

pub returns-clause-one : goal.returns-clause-one
returns-clause-one c = one_refusal

pub returns-clause-read : goal.returns-clause-read
returns-clause-read c m bytes a x h k = reads_given m bytes a x h k

pub returns-clause-given : goal.returns-clause-given
returns-clause-given c = selects_given

pub returns-clause-found : goal.returns-clause-found
returns-clause-found c = found_once
