use Rattle.std.proofs.Common.{ℕ, None, refl, subst}
use Rattle.vdr_config.specs.Sizes.{window_of}
use Rattle.vdr_rescue.specs.Findings.{Account, AreFindings}
use Rattle.vdr_rescue.specs.Readings.{AreRead}
use Rattle.vdr_rescue.proofs.law.law_of_rescued.Goals as goal

pub returns : goal.returns
returns c m bytes alone given findings h read found =
    record {
      kind = h.kind;
      config = h.config;
      fronts = h.fronts;
      are = h.are;
      order = alone.cursor.heads;
      sorted = h.order;
      told = alone.cursor.told;
      read = subst (λ (segment : ℕ). AreRead segment bytes None 0 alone.cursor.heads alone.cursor.told given) h.segment read;
      saves = alone.saves;
      saved = h.saves;
      table = refl;
      legal = alone.legal;
      superblock = h.legal;
      findings = subst (λ (x : Account). AreFindings x findings) (λ i. record {
        segment = h.segment i;
        slots = h.slots i;
        legal = alone.legal;
        bad = alone.saves.bad;
        torn = h.torn i;
        headless = h.headless i;
        closed = h.closed i;
        last_closed = h.last_closed i;
        heads = alone.cursor.heads;
        told = alone.cursor.told;
        seconds = window_of alone.config (h.medium i);
        pins = alone.saves.pins;
      }) found;
    }
