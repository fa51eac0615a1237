use Rattle.std.proofs.Common.{rules}
use Rattle.vdr_live.proofs.Lined.{two_of, with_rest}
use Rattle.vdr_live.proofs.line.line_of.Goals as goal

pub returns-in-len2 : goal.returns-in-len2
returns-in-len2 c = record {
  word = c.word-item-then-words-lt3.result;
  name = c.command-item.result;
  is = two_of c.args.words.now c.word-item-then-words-lt3.result c.command-item.result c.in-len2.len_at_least c.in-len2.len_below c.word-item-then-words-lt3.is c.command-item.is;
  help = search rules;
  named = search rules;
}

pub returns-in-len2-up : goal.returns-in-len2-up
returns-in-len2-up c =
    let all = with_rest c.args.words.now c.word-item-2.result (search rules) c.word-item-2.is in
    record { folder = all.0; word = c.word-item-2.result; is = all.1; order = search rules }
