-- The words of servers' flags, and what the steps on flags do to them.
use Rattle.std.proofs.Common.{◌≡◌, ℕ, ◌<◌, Bool, true, false, ◌↔◌, ap, sym, subst, refl, ◌∙◌, arith}
use Rattle.std.specs.Prelude.{bit_and, bit_or, nat_lt, ◌==◌, if◌then◌else◌}
use Rattle.std.proofs.lemmas.Bool.Decides.{nat_tests}
use Rattle.mako_words.specs.declared.flag_word.FlagWord.{FlagWord}
use Rattle.mako_words.specs.Flags.{flag_word, FitsFlags, flag_at, IsPackedFlags, IsFlagStep}
use Rattle.mako_words.specs.Words.{IsPacking, all_but}
use Rattle.mako_words.proofs.Unpacking as unpacking

-- these flags
abbrev flags : (b g c : Bool) → FlagWord
flags b g c = record { busy = b; ghost_ = g; changed = c }

-- whether both truth values pass a test
abbrev both : (Bool → Bool) → Bool
both test = if test true then test false else false

-- then each of them does
either : (test : Bool → Bool) → both test ≡ true → (b : Bool) → test b ≡ true
either test passed true = grind (passed, arith)
either test passed false = grind (passed, arith)

-- all flags pass a test: there are eight
abbrev AllPass : (FlagWord → Bool) → Type 0
AllPass test = both (λ b. both (λ g. both (λ c. test (flags b g c)))) ≡ true

-- then any flags do
pass : (test : FlagWord → Bool) → AllPass test → (f : FlagWord) → test f ≡ true
pass test passed f =
    let by_ghost = either (λ b. both (λ g. both (λ c. test (flags b g c)))) passed f.busy in
    let by_changed = either (λ g. both (λ c. test (flags f.busy g c))) by_ghost f.ghost_ in
    either (λ c. test (flags f.busy f.ghost_ c)) by_changed f.changed

-- the word of flags gives the flags back
pub flag_at-flag_word : (f : FlagWord) → FitsFlags f → flag_at (flag_word f) ≡ f
flag_at-flag_word f fits = back f.busy f.ghost_ f.changed
  where
    back : (b g c : Bool) → flag_at (flag_word (flags b g c)) ≡ flags b g c
    back true true true = refl
    back true true false = refl
    back true false true = refl
    back true false false = refl
    back false true true = refl
    back false true false = refl
    back false false true = refl
    back false false false = refl

word_below : (f : FlagWord) → flag_word f < 8
word_below f = grind (pass (λ f. nat_lt (flag_word f) 8) refl f, nat_tests, arith)

-- packing flags loses nothing
pub flag_words : IsPacking FitsFlags flag_word flag_at
flag_words = unpacking.packing FitsFlags flag_word flag_at flag_at-flag_word (λ f fits. omega (arith, word_below f))

flags_below : (w : ℕ) → w < 8 → IsPackedFlags w
flags_below w within = record { fits = tt; same = grind (arith, nat_tests) }

-- the packed forms are the words below bit 3
pub flag_forms : (w : ℕ) → IsPackedFlags w ↔ (w < 8)
flag_forms w = (λ p. subst (λ (y : ℕ). y < 8) p.same (word_below (flag_at w)), flags_below w)

-- a step that makes of the word of each of the eight flags that of the changed flags
stepped : (step : ℕ → ℕ) (change : FlagWord → FlagWord) → AllPass (λ f. step (flag_word f) == flag_word (change f))
    → IsFlagStep step change
stepped step change passed w within =
    let to = change (flag_at w) in
    let made : step (flag_word (flag_at w)) ≡ flag_word to =
    grind (pass (λ f. step (flag_word f) == flag_word (change f)) passed (flag_at w), nat_tests, arith) in
    let same : flag_word to ≡ step w = sym made ∙ ap step (flags_below w within).same in
    (subst (λ (y : ℕ). y < 8) same (word_below to), ap flag_at (sym same) ∙ flag_at-flag_word to tt)

-- to or a bit in raises it and no other, and to and it away lowers it and no other
pub busy_up : IsFlagStep (λ w. bit_or w 1) (λ f. record f { busy = true })
busy_up = stepped (λ w. bit_or w 1) (λ f. record f { busy = true }) refl

pub busy_down : IsFlagStep (λ w. bit_and w (all_but 1)) (λ f. record f { busy = false })
busy_down = stepped (λ w. bit_and w (all_but 1)) (λ f. record f { busy = false }) refl

pub ghost_up : IsFlagStep (λ w. bit_or w 2) (λ f. record f { ghost_ = true })
ghost_up = stepped (λ w. bit_or w 2) (λ f. record f { ghost_ = true }) refl

pub ghost_down : IsFlagStep (λ w. bit_and w (all_but 2)) (λ f. record f { ghost_ = false })
ghost_down = stepped (λ w. bit_and w (all_but 2)) (λ f. record f { ghost_ = false }) refl

pub changed_up : IsFlagStep (λ w. bit_or w 4) (λ f. record f { changed = true })
changed_up = stepped (λ w. bit_or w 4) (λ f. record f { changed = true }) refl

pub changed_down : IsFlagStep (λ w. bit_and w (all_but 4)) (λ f. record f { changed = false })
changed_down = stepped (λ w. bit_and w (all_but 4)) (λ f. record f { changed = false }) refl

pub ghost_changed_up : IsFlagStep (λ w. bit_or w 6) (λ f. record f { ghost_ = true; changed = true })
ghost_changed_up = stepped (λ w. bit_or w 6) (λ f. record f { ghost_ = true; changed = true }) refl

pub busy_changed_up : IsFlagStep (λ w. bit_or w 5) (λ f. record f { busy = true; changed = true })
busy_changed_up = stepped (λ w. bit_or w 5) (λ f. record f { busy = true; changed = true }) refl
