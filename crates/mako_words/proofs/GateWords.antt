-- The words of gates, and what the steps on a gate do to them.
use Rattle.std.proofs.Common.{◌≡◌, ℕ, ◌+◌, ◌-◌, ◌*◌, ◌%◌, ◌^◌, ◌<◌, Bool, true, false, cond, leb, ◌↔◌, ap, sym, subst}
use Rattle.std.proofs.Common.{◌∙◌, arith}
use Rattle.std.specs.Prelude.{bit_and, bit_or}
use Rattle.std.specs.Int.Bits.{or_zero_r}
use Rattle.std.proofs.lemmas.Bool.Decides.{nat_tests}
use Rattle.std.proofs.lemmas.Nat.{or_comm, or_shifted, and_block, and_mask, or_block}
use Rattle.mako_words.specs.declared.gate_word.GateWord.{GateWord}
use Rattle.mako_words.specs.Gates.{gate_word, FitsGate, gate_at, count_of, IsPackedGate, IsGateWord}
use Rattle.mako_words.specs.Words.{IsPacking, all_but}
use Rattle.mako_words.proofs.Unpacking as unpacking

-- the word of a gate gives the gate back
pub gate_at-gate_word : (g : GateWord) → FitsGate g → gate_at (gate_word g) ≡ g
gate_at-gate_word g fits =
    let c = count g.shut g.count fits in
    let s = shut g.shut g.count fits in
    λ i. record { count = c i; shut = s i }
  where
    count : (s : Bool) (c : ℕ) → c < 2 ^ 16 → (c + cond s (2 ^ 16) 0) % 2 ^ 16 ≡ c
    count true c within = omega arith
    count false c within = omega arith

    shut : (s : Bool) (c : ℕ) → c < 2 ^ 16 → leb (2 ^ 16) (c + cond s (2 ^ 16) 0) ≡ s
    shut true c within = grind (arith, nat_tests)
    shut false c within = grind (arith, nat_tests)

pub gate_word-lt : (g : GateWord) → FitsGate g → gate_word g < 2 ^ 17
gate_word-lt g fits = within g.shut g.count fits
  where
    within : (s : Bool) (c : ℕ) → c < 2 ^ 16 → c + cond s (2 ^ 16) 0 < 2 ^ 17
    within true c small = omega arith
    within false c small = omega arith

-- packing gates loses nothing
pub gate_words : IsPacking FitsGate gate_word gate_at
gate_words = unpacking.packing FitsGate gate_word gate_at gate_at-gate_word
    (λ g fits. omega (arith, gate_word-lt g fits))

gate_below : (w : ℕ) → w < 2 ^ 17 → IsPackedGate w
gate_below w within = record { fits = omega arith; same = grind (arith, nat_tests) }

-- the packed forms are the words below bit 17
pub gate_forms : (w : ℕ) → IsPackedGate w ↔ (w < 2 ^ 17)
gate_forms w = (λ p. subst (λ (y : ℕ). y < 2 ^ 17) p.same (gate_word-lt (gate_at w) p.fits), gate_below w)

-- ---- the shut bit

-- to or it in adds it where it is not set
pub or_shut : (w : ℕ) → w < 2 ^ 16 → bit_or w (2 ^ 16) ≡ w + 2 ^ 16
or_shut w small = or_comm w (2 ^ 16) ∙ or_shifted 1 16 w small
    ∙ (let e : 1 * 2 ^ 16 + w ≡ w + 2 ^ 16 = omega arith in e)

-- and changes nothing where it is set
pub or_shut_again : (w : ℕ) → w < 2 ^ 16 → bit_or (w + 2 ^ 16) (2 ^ 16) ≡ w + 2 ^ 16
or_shut_again w small =
    let e : w + 2 ^ 16 ≡ 1 * 2 ^ 16 + w = omega arith in
    ap (λ (y : ℕ). bit_or y (2 ^ 16)) e ∙ or_block 16 1 1 w 0 small (omega arith)
    ∙ ap (λ (y : ℕ). 2 ^ 16 + y) (or_zero_r w) ∙ (omega arith)

-- to and it away takes it where it is set
pub and_open : (w : ℕ) → w < 2 ^ 16 → bit_and (w + 2 ^ 16) (all_but (2 ^ 16)) ≡ w
and_open w small =
    let e : w + 2 ^ 16 ≡ 1 * 2 ^ 16 + w = omega arith in
    ap (λ (y : ℕ). bit_and y (all_but (2 ^ 16))) e ∙ and_block 16 1 281474976710654 w 65535 small (omega arith)
    ∙ ap (λ (y : ℕ). 0 + y) (and_mask w 16) ∙ (omega arith)

-- and changes nothing where it is not
pub and_open_again : (w : ℕ) → w < 2 ^ 16 → bit_and w (all_but (2 ^ 16)) ≡ w
and_open_again w small =
    let e : w ≡ 0 * 2 ^ 16 + w = omega arith in
    ap (λ (y : ℕ). bit_and y (all_but (2 ^ 16))) e ∙ and_block 16 0 281474976710654 w 65535 small (omega arith)
    ∙ ap (λ (y : ℕ). 0 + y) (and_mask w 16) ∙ (omega arith)

-- ---- steps on the word of a gate

pub gate_word-arrive : (g : GateWord) → gate_word g + 1 ≡ gate_word (record g { count = g.count + 1 })
gate_word-arrive g = omega arith

pub gate_word-leave : (g : GateWord) → 0 < g.count → gate_word g - 1 ≡ gate_word (record g { count = g.count - 1 })
gate_word-leave g some = omega arith

pub gate_word-shut : (g : GateWord) → FitsGate g → bit_or (gate_word g) (2 ^ 16) ≡ gate_word (record g { shut = true })
gate_word-shut g fits = shut g.shut g.count fits
  where
    shut : (s : Bool) (c : ℕ) → c < 2 ^ 16 → bit_or (c + cond s (2 ^ 16) 0) (2 ^ 16) ≡ c + 2 ^ 16
    shut true c small = or_shut_again c small
    shut false c small = or_shut (c + 0) (omega arith) ∙ (omega arith)

pub gate_word-reopen : (g : GateWord) → FitsGate g
    → bit_and (gate_word g) (all_but (2 ^ 16)) ≡ gate_word (record g { shut = false })
gate_word-reopen g fits = reopen g.shut g.count fits
  where
    reopen : (s : Bool) (c : ℕ) → c < 2 ^ 16 → bit_and (c + cond s (2 ^ 16) 0) (all_but (2 ^ 16)) ≡ c + 0
    reopen true c small = and_open c small ∙ (omega arith)
    reopen false c small = and_open_again (c + 0) (omega arith)

-- ---- the same by the gate that a packed word stands for

-- a step that makes of the word of one gate that of another
stepped : (w : ℕ) (h : GateWord) (step : ℕ → ℕ) → w < 2 ^ 17 → FitsGate h → step (gate_word (gate_at w)) ≡ gate_word h
    → IsGateWord (step w) h
stepped w h step within fits e =
    let same : gate_word h ≡ step w = sym e ∙ ap step (gate_below w within).same in
    (subst (λ (y : ℕ). y < 2 ^ 17) same (gate_word-lt h fits), ap gate_at (sym same) ∙ gate_at-gate_word h fits)

-- to add 1 counts one more
pub arrival : (w : ℕ) → w < 2 ^ 17 → count_of w + 1 < 2 ^ 16
    → IsGateWord (w + 1) (record (gate_at w) { count = count_of w + 1 })
arrival w within room =
    stepped w (record (gate_at w) { count = count_of w + 1 }) (λ y. y + 1) within room (gate_word-arrive (gate_at w))

-- to subtract 1 counts one less
pub departure : (w : ℕ) → w < 2 ^ 17 → 0 < count_of w
    → IsGateWord (w - 1) (record (gate_at w) { count = count_of w - 1 })
departure w within some =
    stepped w (record (gate_at w) { count = count_of w - 1 }) (λ y. y - 1) within (omega arith)
    (gate_word-leave (gate_at w) some)

-- to or the shut bit in shuts, and keeps the count
pub shutting : (w : ℕ) → w < 2 ^ 17 → IsGateWord (bit_or w (2 ^ 16)) (record (gate_at w) { shut = true })
shutting w within = stepped w (record (gate_at w) { shut = true }) (λ y. bit_or y (2 ^ 16)) within (omega arith)
    (gate_word-shut (gate_at w) (omega arith))

-- to and the shut bit away opens, and keeps the count
pub reopening : (w : ℕ) → w < 2 ^ 17 → IsGateWord (bit_and w (all_but (2 ^ 16))) (record (gate_at w) { shut = false })
reopening w within =
    stepped w (record (gate_at w) { shut = false }) (λ y. bit_and y (all_but (2 ^ 16))) within (omega arith)
    (gate_word-reopen (gate_at w) (omega arith))
