use Rattle.std.proofs.Common.{◌^◌, ◌<◌, take}
use Rattle.mako_reader.proofs.Digits.{DigitsRead}
use Rattle.mako_reader.proofs.numbers.number.Given as goal

abbrev pub invariant-loop-digit : goal.invariant-loop-digit
invariant-loop-digit l = DigitsRead (take l.digit-index l.word) l.value × (l.value < 10 ^ l.digit-index)
