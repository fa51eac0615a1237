use Rattle.std.proofs.Common.{[], sym, rules}
use Rattle.std.proofs.lemmas.List.{append-nil}
use Rattle.vdr_memory.proofs.link.MemoryLinkLink.reply.Goals as goal

pub returns-clause-front : goal.returns-clause-front
returns-clause-front c = (c.args.bytes.now, [], sym (append-nil c.args.bytes.now), search rules)
