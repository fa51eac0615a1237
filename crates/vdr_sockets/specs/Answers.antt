-- What the last call of an object answered, as contracts see it.
use Rattle.vdr_outside.specs.Calls.{Answer, other, ended, failed}
use Rattle.vdr_sockets.specs.declared.calls.Last.{Last}
use Rattle.vdr_sockets.specs.declared.calls.Last.TheVariants as lasts

abbrev pub answer_of : Last → Answer
answer_of lasts.Other = other
answer_of lasts.Ended = ended
answer_of lasts.Failed = failed
