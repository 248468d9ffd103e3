-- The workload of a seed: which script it is.
use Rattle.std.specs.Prelude.{◌≡◌, ℕ, ◌+◌, ◌%◌, ◌==◌, nat_lt, if◌then◌else◌, List, [], ◌∷◌, ◌++◌, length, codes}
use Rattle.mako_model.specs.declared.call.Call.{Call}
use Rattle.mako_model.specs.declared.call.Call.TheVariants.{New, Num, CopyRoot, DropRoot, Get, Put, Show, Collect}
use Rattle.mako_shape.specs.declared.numbers.Numbers.{Numbers}
use Rattle.mako_script.specs.Programs.{ProgramView}
use Rattle.mako_script.specs.Scripts.{ScriptView}
use Rattle.rand_core.specs.Pcg32Seed.{pcg32_seed}
use Rattle.rand_pcg.specs.Lcg.{Lcg, advance}
use Rattle.rand_pcg.specs.Pcg.{multiplier_64, output_xsh_rr, pcg32_of_seed}

-- ---- draws

-- the word that a generator gives after so many others
abbrev pub word : Lcg → ℕ → ℕ
word g k = output_xsh_rr (advance 64 multiplier_64 k g).state

-- the root of the variable that a word names, one of six behind the board
abbrev pub variable : ℕ → ℕ
variable w = w % 6 + 1

-- the last kind is a collection or a look, by one draw more
abbrev pub rare_call : ℕ → ℕ → Call
rare_call a b = if (a % 16) == 0 then Collect else Show (variable b)

abbrev pub rare_draws : ℕ → ℕ
rare_draws a = if (a % 16) == 0 then 1 else 2

-- the command of this kind, with the words behind the one that drew the kind
abbrev pub call_of_words : ℕ → ℕ → ℕ → ℕ → Call
call_of_words kind a b c =
    if nat_lt kind 4 then New (variable a) (b % 6)
    else (if nat_lt kind 6 then Get (variable a) (variable b) (c % 3)
    else (if nat_lt kind 9 then Put (variable a) (b % 3) (variable c)
    else (if nat_lt kind 10 then CopyRoot (variable a) (variable b)
    else (if nat_lt kind 11 then DropRoot (variable a)
    else (if nat_lt kind 12 then Put 0 (a % 8) (variable b)
    else (if nat_lt kind 13 then Get (variable a) 0 (b % 8)
    else (if nat_lt kind 14 then Num (variable a) (b % 1000)
    else (if nat_lt kind 15 then Show (variable a)
    else rare_call a b))))))))

-- how many words it takes behind that one
abbrev pub words_taken : ℕ → ℕ → ℕ
words_taken kind a =
    if nat_lt kind 4 then 2
    else (if nat_lt kind 9 then 3
    else (if nat_lt kind 10 then 2
    else (if nat_lt kind 11 then 1
    else (if nat_lt kind 14 then 2
    else (if nat_lt kind 15 then 1
    else rare_draws a)))))

-- the command that the next words of a generator make, and the generator behind these words
abbrev pub call_drawn : Lcg → Call
call_drawn g = call_of_words (word g 0 % 16) (word g 1) (word g 2) (word g 3)

abbrev pub left : Lcg → Lcg
left g = advance 64 multiplier_64 (1 + words_taken (word g 0 % 16) (word g 1)) g

-- the commands are those that the generator makes one after the other, and this is what it is then
abbrev pub AreDrawn : Lcg → List Call → Lcg → Type 0
AreDrawn g [] behind = g ≡ behind
AreDrawn g (call ∷ calls) behind = (call ≡ call_drawn g) × AreDrawn (left g) calls behind

-- so many commands were drawn and stand behind those before
pub record Adds (old : List Call) (before : Lcg) (size : ℕ) (new : List Call) (behind : Lcg) : Type 0 where
  pub drawn : List Call
  pub calls : new ≡ old ++ drawn
  pub count : length drawn ≡ size
  pub drawn_by : AreDrawn before drawn behind

-- ---- scripts

abbrev pub numbers : Numbers
numbers = record {
  mutators = 4;
  servers = 4;
  tablets = 2;
  entries = 32;
  words = 128;
  spare = 1;
  ring = 4;
  roots = 8;
  cycles = 1000;
  generations = 1000000;
}

abbrev pub names : List (List ℕ)
names = codes "board" ∷ codes "va" ∷ codes "vb" ∷ codes "vc" ∷ codes "vd" ∷ codes "ve" ∷ codes "vf" ∷ []

-- each variable is given an object at the start
abbrev pub first_calls : List Call
first_calls = New 1 2 ∷ New 2 2 ∷ New 3 2 ∷ New 4 2 ∷ New 5 2 ∷ New 6 2 ∷ []

-- a section with so many commands that were drawn
pub record IsSection (size : ℕ) (before : Lcg) (p : ProgramView) (behind : Lcg) : Type 0 where
  pub named : p.names ≡ names
  pub drawn : List Call
  pub calls : p.calls ≡ first_calls ++ drawn
  pub count : length drawn ≡ size
  pub drawn_by : AreDrawn before drawn behind

-- one generator serves all sections, one after the other
abbrev pub AreSections : ℕ → Lcg → List ProgramView → Lcg → Type 0
AreSections size g [] behind = g ≡ behind
AreSections size g (p ∷ ps) behind = (after : Lcg) × IsSection size g p after × AreSections size after ps behind

-- the generator of a seed
abbrev pub seeded : ℕ → Lcg
seeded seed = pcg32_of_seed (pcg32_seed 16 seed)

-- the script is the workload of this seed, with so many commands drawn for each of four mutators
pub record IsWorkload (seed size : ℕ) (s : ScriptView) : Type 0 where
  pub geometry : s.numbers ≡ numbers
  pub board : s.board ≡ 8
  pub mutators : length s.programs ≡ 4
  pub behind : Lcg
  pub sections : AreSections size (seeded seed) s.programs behind
