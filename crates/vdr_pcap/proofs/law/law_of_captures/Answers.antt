use Rattle.vdr_pcap.proofs.law.law_of_captures.Goals as goal
use Rattle.vdr_pcap.proofs.Unique.{no_capture_is_refused, one_capture, one_refusal}

pub returns-clause-capture : goal.returns-clause-capture
returns-clause-capture c = one_capture

pub returns-clause-whole : goal.returns-clause-whole
returns-clause-whole c = no_capture_is_refused

pub returns-clause-refusal : goal.returns-clause-refusal
returns-clause-refusal c = one_refusal
