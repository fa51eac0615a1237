use Rattle.std.proofs.Common.{refl, fold}
use Rattle.vdr_sources.specs.Tables.{sources_of, sources_text, with_record}
use Rattle.vdr_readout.proofs.TableLemmas.{sources_last, table_known, table_owed}
use Rattle.vdr_readout.proofs.sourcing.answer_sources.Goals as goal

pub returns-clause-owed : goal.returns-clause-owed
returns-clause-owed g c =
    table_owed refl (λ records. sources_text (sources_of records)) (λ records. sources_text (fold with_record c.new.result.table records)) (sources_last c.new.result.table c.new.ensures) (c.read_out.ensures.reads c.new.result refl)
    (c.law_of_openings.ensures (g.M.Media.disk c.args.world.now.media).reads)

pub returns-clause-known : goal.returns-clause-known
returns-clause-known g c =
    table_known refl (λ records. sources_text (sources_of records)) (λ records. sources_text (fold with_record c.new.result.table records)) (sources_last c.new.result.table c.new.ensures) (c.read_out.ensures.reads c.new.result refl)
    (c.law_of_openings.ensures (g.M.Media.disk c.args.world.now.media).reads)
