use Rattle.vdr_pcap.proofs.Items.{items_are_datagrams, items_are_legal}
use Rattle.vdr_pcap.proofs.law.law_of_captured_items.Goals as goal

pub returns-clause-datagrams : goal.returns-clause-datagrams
returns-clause-datagrams c = items_are_datagrams

pub returns-clause-legal : goal.returns-clause-legal
returns-clause-legal c = items_are_legal
