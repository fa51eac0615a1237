use Rattle.vdr_import.proofs.FileLemmas.{files_read_back}
use Rattle.vdr_import.proofs.laws.law_of_files.Goals as goal

pub returns : goal.returns
returns c = files_read_back
