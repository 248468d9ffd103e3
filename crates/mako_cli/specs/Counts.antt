-- What the command that counts pieces writes.
use Rattle.std.specs.Prelude.{ℕ, ◌++◌, List, codes}
use Rattle.std.specs.Fmt.{decimal}

abbrev pub handled_text : ℕ → List ℕ
handled_text n = codes "handled " ++ (decimal n ++ codes "\n")
