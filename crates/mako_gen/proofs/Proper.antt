-- A workload is a script of the grammar.
use Rattle.std.proofs.Common.{◌≡◌, ◌≢◌, ℕ, zero, suc, ◌+◌, ◌*◌, ◌%◌, ◌<◌, ◌≤◌, Bool, true, false, List, []}
use Rattle.std.proofs.Common.{◌∷◌, ◌++◌, length, refl, sym, ap, subst, ◌∙◌, arith}
use Rattle.std.specs.Prelude.{slice_index, if◌then◌else◌}
use Rattle.std.specs.List.{AllByRecursion}
use Rattle.std.proofs.lemmas.List.{length-append}
use Rattle.std.proofs.lemmas.List.Sums.{sum_by-cons}
use Rattle.mako_shape.specs.declared.numbers.Numbers.{Numbers}
use Rattle.mako_shape.specs.Places.{total}
use Rattle.mako_shape.specs.Limits.{IsShape, max_words}
use Rattle.mako_model.specs.declared.call.Call.{Call}
use Rattle.mako_model.specs.declared.call.Call.TheVariants.{New, Num, CopyRoot, DropRoot, Get, Put, Show, Collect}
use Rattle.mako_script.specs.Names.{is_name, name_of, AreNames}
use Rattle.mako_script.specs.Programs.{ProgramView, IsCall, defined_after, AreCalls, IsProgram}
use Rattle.mako_script.specs.Scripts.{ScriptView, IsProper, command_count}
use Rattle.rand_pcg.specs.Lcg.{Lcg}
use Rattle.mako_gen.specs.Workloads.{word, variable, call_of_words, left, AreDrawn, numbers}
use Rattle.mako_gen.specs.Workloads.{names, first_calls, IsSection, AreSections, IsWorkload, seeded}

few_words : total numbers ≤ max_words
unfolding total
few_words = omega arith

pub is_shape : IsShape numbers
is_shape = record {
  in_range = record {
    each = (
      omega arith,
      omega arith,
      (
        omega arith,
        omega arith,
        (
          omega arith,
          omega arith,
          (
            omega arith,
            omega arith,
            (
              omega arith,
              omega arith,
              (
                omega arith,
                omega arith,
                (
                  omega arith,
                  omega arith,
                  (omega arith, omega arith, (omega arith, omega arith, (omega arith, omega arith, tt))),
                ),
              ),
            ),
          ),
        ),
      ),
    );
  };
  entries = omega arith;
  words = few_words;
}

-- ---- names

are_spelled : (root : ℕ) → root < 7 → is_name (name_of names root) ≡ true
unfolding is_name
are_spelled zero below = refl
are_spelled (suc zero) below = refl
are_spelled (suc (suc zero)) below = refl
are_spelled (suc (suc (suc zero))) below = refl
are_spelled (suc (suc (suc (suc zero)))) below = refl
are_spelled (suc (suc (suc (suc (suc zero))))) below = refl
are_spelled (suc (suc (suc (suc (suc (suc zero)))))) below = refl
are_spelled (suc (suc (suc (suc (suc (suc (suc root))))))) below = absurd (omega arith)

-- the second letter of a name tells it from the others
abbrev mark : List ℕ → ℕ
mark name = slice_index name 1

-- the board has another second letter than each variable, and these go by the alphabet
marked : (root : ℕ) → root < 6 → mark (name_of names (suc root)) ≡ 97 + root
marked zero below = refl
marked (suc zero) below = refl
marked (suc (suc zero)) below = refl
marked (suc (suc (suc zero))) below = refl
marked (suc (suc (suc (suc zero)))) below = refl
marked (suc (suc (suc (suc (suc zero))))) below = refl
marked (suc (suc (suc (suc (suc (suc root)))))) below = absurd (omega arith)

differ : (a b : ℕ) → a < b → b < 7 → name_of names a ≢ name_of names b
differ a zero before below same = absurd (omega arith)
differ zero (suc b) before below same = omega (arith, ap mark same, marked b (omega arith))
differ (suc a) (suc b) before below same = omega (arith, ap mark same, marked a (omega arith), marked b (omega arith))

are_names : AreNames names
are_names = record { some = omega arith; board = refl; spelled = are_spelled; distinct = differ }

-- ---- calls

-- a call over the seven names that defines no other
record IsWithin (call : Call) : Type 0 where
  is : IsCall 7 call
  after : defined_after 7 call ≡ 7

either : {A : Type 0} (P : A → Type 0) (t : Bool) (x y : A) → P x → P y → P (if t then x else y)
either P true x y p q = p
either P false x y p q = q

within : (kind a b c : ℕ) → IsWithin (call_of_words kind a b c)
within kind a b c =
    either IsWithin _ _ _ new
    (either IsWithin _ _ _ get
    (either IsWithin _ _ _ put (either IsWithin _ _ _ copied (either IsWithin _ _ _ dropped
    (either IsWithin _ _ _ board_put
    (either IsWithin _ _ _ board_get
    (either IsWithin _ _ _ num (either IsWithin _ _ _ shown (either IsWithin _ _ _ collected other_shown)))))))))
  where
    new : IsWithin (New (variable a) (b % 6))
    new = record { is = omega arith; after = omega arith }

    get : IsWithin (Get (variable a) (variable b) (c % 3))
    get = record { is = omega arith; after = omega arith }

    put : IsWithin (Put (variable a) (b % 3) (variable c))
    put = record { is = omega arith; after = refl }

    copied : IsWithin (CopyRoot (variable a) (variable b))
    copied = record { is = omega arith; after = omega arith }

    dropped : IsWithin (DropRoot (variable a))
    dropped = record { is = omega arith; after = refl }

    board_put : IsWithin (Put 0 (a % 8) (variable b))
    board_put = record { is = omega arith; after = refl }

    board_get : IsWithin (Get (variable a) 0 (b % 8))
    board_get = record { is = omega arith; after = omega arith }

    num : IsWithin (Num (variable a) (b % 1000))
    num = record { is = omega arith; after = omega arith }

    shown : IsWithin (Show (variable a))
    shown = record { is = omega arith; after = refl }

    collected : IsWithin Collect
    collected = record { is = tt; after = refl }

    other_shown : IsWithin (Show (variable b))
    other_shown = record { is = omega arith; after = refl }

calls_within : (g h : Lcg) (calls : List Call) → AreDrawn g calls h → AreCalls 7 calls 7
calls_within g h [] d = refl
calls_within g h (call ∷ calls) d =
    let one : IsWithin call = subst IsWithin (sym d.0) (within (word g 0 % 16) (word g 1) (word g 2) (word g 3)) in
    (one.is, subst (λ (n : ℕ). AreCalls n calls 7) (sym one.after) (calls_within (left g) h calls d.1))

section_calls : (g h : Lcg) (calls : List Call) → AreDrawn g calls h → AreCalls 1 (first_calls ++ calls) 7
section_calls g h calls d = (
  omega arith,
  (omega arith, (omega arith, (omega arith, (omega arith, (omega arith, calls_within g h calls d))))),
)

pub is_program : (size : ℕ) (g h : Lcg) (p : ProgramView) → IsSection size g p h → IsProgram 8 p
is_program size g h p s = record {
  names = subst AreNames (sym s.named) are_names;
  few = omega (arith, ap length s.named);
  calls = subst (λ (calls : List Call). AreCalls 1 calls (length p.names)) (sym s.calls)
      (subst (λ (n : ℕ). AreCalls 1 (first_calls ++ s.drawn) n) (sym (ap length s.named))
      (section_calls g h s.drawn s.drawn_by));
}

pub are_programs : (size : ℕ) (g h : Lcg) (ps : List ProgramView) → AreSections size g ps h
    → AllByRecursion (IsProgram 8) ps × (command_count ps ≡ length ps * (6 + size))
are_programs size g h [] s = (tt, omega arith)
are_programs size g h (p ∷ ps) s =
    let others = are_programs size s.0 h ps s.2 in
    let mine : length p.calls ≡ 6 + size =
    omega (arith, ap length s.1.calls, length-append first_calls s.1.drawn, s.1.count) in (
      (is_program size g s.0 p s.1, others.0),
      omega
          (arith, others.1, mine, sum_by-cons (λ (q : ProgramView). length q.calls) p ps),
    )

pub is_proper : (seed size : ℕ) (s : ScriptView) → size ≤ 4096 → IsWorkload seed size s → IsProper s
is_proper seed size s few w =
    let each = are_programs size (seeded seed) w.behind s.programs w.sections in
    let all : command_count s.programs ≡ 4 * (6 + size) = each.1 ∙ ap (λ (n : ℕ). n * (6 + size)) w.mutators in
    record {
      shape = subst IsShape (sym w.geometry) is_shape;
      board_low = omega (arith, w.board);
      board_high = omega (arith, w.board);
      mutators = ap (λ (n : Numbers). n.mutators) w.geometry ∙ sym w.mutators;
      commands = omega (arith, all);
      programs = subst (λ (n : Numbers). AllByRecursion (IsProgram n.roots) s.programs) (sym w.geometry) each.0;
    }
