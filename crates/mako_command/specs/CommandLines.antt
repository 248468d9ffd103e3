-- The words of the command line, and the commands that they say.
use Rattle.std.specs.Prelude.{◌≡◌, ℕ, ◌≤◌, List, [], ◌∷◌, ◌⊎◌, Option, Some, None, codes}
use Rattle.std.specs.Fmt.{decimal}
use Rattle.mako_replay.specs.declared.order.Order.{Order}
use Rattle.mako_replay.specs.declared.order.Order.TheVariants.{Turns, Seed}
use Rattle.mako_command.specs.declared.line.CommandLine.{CommandLine}
use Rattle.mako_command.specs.declared.line.CommandLine.TheVariants.{Replay, Gen, Count, Load}

-- what was looked for was found, or there is none
abbrev pub Finds : {A : Type 0} → (A → Type 0) → Option A → Type 0
Finds P (Some x) = P x
Finds {A} P None = (x : A) → ¬ P x

-- the word is this number in decimal, which is in the range
abbrev pub IsNumber : ℕ → ℕ → List ℕ → ℕ → Type 0
IsNumber low high word n = (word ≡ decimal n) × (low ≤ n) × (n ≤ high)

abbrev pub max_seed : ℕ
max_seed = 18446744073709551615

abbrev pub IsOrder : List ℕ → Order → Type 0
IsOrder word Turns = word ≡ codes "turns"
IsOrder word (Seed seed) = IsNumber 0 max_seed word seed

-- the arguments of the commands
abbrev pub IsReplay : List ℕ → List ℕ → CommandLine → Type 0
IsReplay first second (Replay order steps) = IsOrder first order × IsNumber 0 1000000000 second steps
IsReplay first second _ = ⊥

abbrev pub IsGen : List ℕ → List ℕ → CommandLine → Type 0
IsGen first second (Gen seed size) = IsNumber 0 max_seed first seed × IsNumber 1 4096 second size
IsGen first second _ = ⊥

abbrev pub IsCount : List ℕ → CommandLine → Type 0
IsCount first (Count workers) = IsNumber 1 64 first workers
IsCount first _ = ⊥

abbrev pub IsLoad : List ℕ → CommandLine → Type 0
IsLoad first (Load number) = IsNumber 0 max_seed first number
IsLoad first _ = ⊥

-- the words say this command
abbrev pub Says : List (List ℕ) → CommandLine → Type 0
Says (name ∷ first ∷ []) line =
    ((name ≡ codes "count") × IsCount first line) ⊎ ((name ≡ codes "load") × IsLoad first line)
Says (name ∷ first ∷ second ∷ []) line =
    ((name ≡ codes "replay") × IsReplay first second line) ⊎ ((name ≡ codes "gen") × IsGen first second line)
Says _ line = ⊥

-- the words say no command
abbrev pub SayNothing : List (List ℕ) → Type 0
SayNothing words = (line : CommandLine) → ¬ Says words line
