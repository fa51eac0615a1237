use Rattle.std.proofs.Common.{ℕ, length, sym, subst}
use Rattle.vdr_pcap.specs.Seen.{Fits}
use Rattle.vdr_pcap.proofs.saying.say.Goals as goal

pub returns-in-168627466-clause-fits : goal.returns-in-168627466-clause-fits
returns-in-168627466-clause-fits c =
    subst (λ (k : ℕ). Fits k (length c.args.front.now) c.say_section.result) (sym c.in-168627466.is) (c.say_section.ensures.fits (length c.args.front.now))

pub returns-in-1-clause-fits : goal.returns-in-1-clause-fits
returns-in-1-clause-fits c =
    subst (λ (k : ℕ). Fits k (length c.args.front.now) c.say_interface.result) (sym c.in-1.is) (c.say_interface.ensures.fits (length c.args.front.now))

pub returns-in-5-clause-fits : goal.returns-in-5-clause-fits
returns-in-5-clause-fits c =
    subst (λ (k : ℕ). Fits k (length c.args.front.now) c.say_statistics.result) (sym c.in-5.is) (c.say_statistics.ensures.fits (length c.args.front.now))
