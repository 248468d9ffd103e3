-- The table of commands, there and back.
use Rattle.std.proofs.Common.{◌≡◌, length, refl}
use Rattle.mako_model.specs.declared.call.Call.{Call}
use Rattle.mako_model.specs.declared.call.Call.TheVariants.{New}
use Rattle.mako_text.specs.Commands.{call_of, command_of, kinds_of, values_of}

-- the command of a call makes it again from the values of its arguments
pub made_again : (call : Call) → call_of (command_of call) (values_of call) ≡ call
made_again (New root fields) = refl
made_again _ = refl

-- and has as many values as kinds of arguments
pub as_many : (call : Call) → length (kinds_of (command_of call)) ≡ length (values_of call)
as_many (New root fields) = refl
as_many _ = refl
