use Rattle.vdr_incident.proofs.Beside.{segments_beside, byte_beside, table_beside}
use Rattle.vdr_incident.proofs.law.law_of_beside.Goals as goal

pub returns-clause-segments : goal.returns-clause-segments
returns-clause-segments c = segments_beside

pub returns-clause-byte : goal.returns-clause-byte
returns-clause-byte c = byte_beside

pub returns-clause-table : goal.returns-clause-table
returns-clause-table c = table_beside
