-- Words of a generator, one after the other, and the commands that they make.
use Rattle.std.proofs.Common.{◌≡◌, ℕ, zero, suc, ◌+◌, ◌-◌, ◌%◌, ◌≤◌, List, [], ◌∷◌, ◌++◌, refl, sym, ap, subst, ◌∙◌}
use Rattle.std.proofs.Common.{append_assoc, arith}
use Rattle.std.proofs.lemmas.List.{length-append}
use Rattle.mako_model.specs.declared.call.Call.{Call}
use Rattle.mako_script.specs.Programs.{ProgramView}
use Rattle.mako_model.specs.declared.call.Call.TheVariants.{New, Get, Put}
use Rattle.rand_pcg.specs.Lcg.{Lcg, advance, state_after}
use Rattle.rand_pcg.specs.Pcg.{multiplier_64}
use Rattle.mako_gen.specs.Workloads.{word, variable, call_of_words, words_taken, call_drawn, left, AreDrawn, Adds}
use Rattle.mako_gen.specs.Workloads.{IsSection, AreSections}

-- the generator behind so many words
abbrev pub behind : ℕ → Lcg → Lcg
behind n g = advance 64 multiplier_64 n g

pub second_word : (g g1 : Lcg) → g1 ≡ behind 1 g → word g1 0 ≡ word g 1
unfolding state_after
second_word g g1 e = ap (λ h. word h 0) e

pub two_behind : (g g1 g2 : Lcg) → g1 ≡ behind 1 g → g2 ≡ behind 1 g1 → g2 ≡ behind 2 g
unfolding state_after
two_behind g g1 g2 a b = b ∙ ap (behind 1) a

pub third_word : (g g2 : Lcg) → g2 ≡ behind 2 g → word g2 0 ≡ word g 2
unfolding state_after
third_word g g2 e = ap (λ h. word h 0) e

pub three_behind : (g g2 g3 : Lcg) → g2 ≡ behind 2 g → g3 ≡ behind 1 g2 → g3 ≡ behind 3 g
unfolding state_after
three_behind g g2 g3 a b = b ∙ ap (behind 1) a

pub fourth_word : (g g3 : Lcg) → g3 ≡ behind 3 g → word g3 0 ≡ word g 3
unfolding state_after
fourth_word g g3 e = ap (λ h. word h 0) e

pub four_behind : (g g3 g4 : Lcg) → g3 ≡ behind 3 g → g4 ≡ behind 1 g3 → g4 ≡ behind 4 g
unfolding state_after
four_behind g g3 g4 a b = b ∙ ap (behind 1) a

-- the kinds that have several numbers
pub new_kind : (kind a b c : ℕ) → kind ≤ 3 → (call_of_words kind a b c ≡ New (variable a) (b % 6))
    × (words_taken kind a ≡ 2)
new_kind zero a b c h = (refl, refl)
new_kind (suc zero) a b c h = (refl, refl)
new_kind (suc (suc zero)) a b c h = (refl, refl)
new_kind (suc (suc (suc zero))) a b c h = (refl, refl)
new_kind (suc (suc (suc (suc kind)))) a b c h = absurd (omega arith)

pub get_kind : (kind a b c : ℕ) → 4 ≤ kind → kind ≤ 5
    → (call_of_words kind a b c ≡ Get (variable a) (variable b) (c % 3)) × (words_taken kind a ≡ 3)
get_kind kind a b c low high =
    let P : ℕ → Type 0 = λ k. (call_of_words k a b c ≡ Get (variable a) (variable b) (c % 3)) × (words_taken k a ≡ 3) in
    let same : 4 + (kind - 4) ≡ kind = omega arith in
    subst P same (from_four (kind - 4) (omega arith))
  where
    from_four : (d : ℕ) → d ≤ 1 → (call_of_words (4 + d) a b c ≡ Get (variable a) (variable b) (c % 3))
        × (words_taken (4 + d) a ≡ 3)
    from_four zero h = (refl, refl)
    from_four (suc zero) h = (refl, refl)
    from_four (suc (suc d)) h = absurd (omega arith)

pub put_kind : (kind a b c : ℕ) → 6 ≤ kind → kind ≤ 8
    → (call_of_words kind a b c ≡ Put (variable a) (b % 3) (variable c)) × (words_taken kind a ≡ 3)
put_kind kind a b c low high =
    let P : ℕ → Type 0 = λ k. (call_of_words k a b c ≡ Put (variable a) (b % 3) (variable c)) × (words_taken k a ≡ 3) in
    let same : 6 + (kind - 6) ≡ kind = omega arith in
    subst P same (from_six (kind - 6) (omega arith))
  where
    from_six : (d : ℕ) → d ≤ 2 → (call_of_words (6 + d) a b c ≡ Put (variable a) (b % 3) (variable c))
        × (words_taken (6 + d) a ≡ 3)
    from_six zero h = (refl, refl)
    from_six (suc zero) h = (refl, refl)
    from_six (suc (suc zero)) h = (refl, refl)
    from_six (suc (suc (suc d))) h = absurd (omega arith)

pub more_behind : (g : Lcg) (n : ℕ) → behind n (behind 1 g) ≡ behind (1 + n) g
unfolding state_after
more_behind g n = let same : suc n ≡ 1 + n = omega arith in ap (λ k. behind k g) same

-- ---- one more

drawn_push : (g h k : Lcg) (calls : List Call) (call : Call) → AreDrawn g calls h → call ≡ call_drawn h → k ≡ left h
    → AreDrawn g (calls ++ call ∷ []) k
drawn_push g h k [] call d one behind_it = (one ∙ ap call_drawn (sym d), ap left d ∙ sym behind_it)
drawn_push g h k (c ∷ calls) call d one behind_it = (d.0, drawn_push (left g) h k calls call d.1 one behind_it)

pub adds_more : (old new more : List Call) (g h k : Lcg) (n : ℕ) (call : Call) → Adds old g n new h
    → call ≡ call_drawn h → k ≡ left h → more ≡ new ++ call ∷ [] → Adds old g (n + 1) more k
adds_more old new more g h k n call a one behind_it e = record {
  drawn = a.drawn ++ call ∷ [];
  calls = e ∙ ap (λ (cs : List Call). cs ++ call ∷ []) a.calls ∙ append_assoc old a.drawn (call ∷ []);
  count = omega (arith, length-append a.drawn (call ∷ []), a.count);
  drawn_by = drawn_push g h k a.drawn call a.drawn_by one behind_it;
}

pub sections_more : (size : ℕ) (g h k : Lcg) (ps : List ProgramView) (p : ProgramView) → AreSections size g ps h
    → IsSection size h p k → AreSections size g (ps ++ p ∷ []) k
sections_more size g h k [] p s one = (k, subst (λ (x : Lcg). IsSection size x p k) (sym s) one, refl)
sections_more size g h k (q ∷ ps) p s one = (s.0, s.1, sections_more size s.0 h k ps p s.2 one)
