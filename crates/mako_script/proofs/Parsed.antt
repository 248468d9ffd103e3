-- What follows for the bytes from the script that they spell.
use Rattle.std.proofs.Common.{ℕ, List, Err}
use Rattle.mako_script.specs.declared.fault.ScriptFault.{ScriptFault}
use Rattle.mako_script.specs.declared.fault.ScriptFault.TheVariants.{Bad, Memory}
use Rattle.mako_script.specs.Answers.{IsFaultOrMemory, TellsFault}

pub told_first : (text : List ℕ) (fault : ScriptFault) → TellsFault text fault → IsFaultOrMemory text (Err fault)
told_first text (Bad kind line) told = told
told_first text Memory told = tt
