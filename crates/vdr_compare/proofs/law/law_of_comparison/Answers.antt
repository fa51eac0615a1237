use Rattle.vdr_compare.proofs.Exact.{says_all}
use Rattle.vdr_compare.proofs.Given.{rescued_rises}
use Rattle.vdr_compare.proofs.Histories.{one_history}
use Rattle.vdr_compare.proofs.SameRecords.{says_the_same}
use Rattle.vdr_compare.proofs.SoRecords.{says_so}
use Rattle.vdr_compare.proofs.law.law_of_comparison.Goals as goal

pub returns-clause-so : goal.returns-clause-so
returns-clause-so c = says_so

pub returns-clause-same : goal.returns-clause-same
returns-clause-same c = says_the_same

pub returns-clause-rise : goal.returns-clause-rise
returns-clause-rise c = rescued_rises

pub returns-clause-all : goal.returns-clause-all
returns-clause-all c = says_all

pub returns-clause-history : goal.returns-clause-history
returns-clause-history c = one_history
