-- The calls of a script's programs are ones that its mutators can make, and few.
use Rattle.std.proofs.Common.{◌≡◌, ℕ, zero, suc, ◌<◌, ◌≤◌, List, [], ◌∷◌, Some, length, slice_get, arith, subst}
use Rattle.std.proofs.lemmas.List.Sums.{sum_by-cons}
use Rattle.std.proofs.lemmas.Option.{same_Some, none-some}
use Rattle.std.specs.List.{AllByRecursion}
use Rattle.mako_shape.specs.declared.numbers.Numbers.{Numbers}
use Rattle.mako_model.specs.declared.call.Call.{Call}
use Rattle.mako_model.specs.declared.call.Call.TheVariants.{New, Num, CopyRoot, DropRoot, Get, Put, Show, Collect}
use Rattle.mako_script.specs.Programs.{ProgramView, IsCall, defined_after, AreCalls, IsProgram}
use Rattle.mako_script.specs.Scripts.{ScriptView, command_count, IsProper}
use Rattle.mako_call.specs.Callers.{IsCaller, CallFits}
use Rattle.mako_mutator.specs.Drivers.{AreFitting}

-- names are only added
defined_grows : (defined : ℕ) (call : Call) → defined ≤ defined_after defined call
defined_grows d (New root fields) = omega arith
defined_grows d (Num root number) = omega arith
defined_grows d (CopyRoot to from) = omega arith
defined_grows d (DropRoot root) = omega arith
defined_grows d (Get to from field) = omega arith
defined_grows d (Put to field from) = omega arith
defined_grows d (Show root) = omega arith
defined_grows d Collect = omega arith

defined_within : (defined names : ℕ) (calls : List Call) → AreCalls defined calls names → defined ≤ names
defined_within d names [] are = omega (arith, are)
defined_within d names (call ∷ calls) are =
    let rest = defined_within (defined_after d call) names calls are.1 in
    let one = defined_grows d call in omega (arith, rest, one)

-- with so many names, which are at most as many as there are roots, a call has roots that there are
call_fits : (n : Numbers) (d names : ℕ) (call : Call) → IsCall d call → defined_after d call ≤ names → names ≤ n.roots
    → CallFits n call
call_fits n d names (New root fields) is grown few = (omega (arith, grown, few), is.1.0)
call_fits n d names (Num root number) is grown few = (omega (arith, grown, few), omega (arith, is.1.0))
call_fits n d names (CopyRoot to from) is grown few = let from_is = is.1.0 in
    (omega (arith, grown, few), omega (arith, from_is, grown, few))
call_fits n d names (DropRoot root) is grown few = omega (arith, is.0, grown, few)
call_fits n d names (Get to from field) is grown few = let from_is = is.1.0 in
    (omega (arith, grown, few), omega (arith, from_is, grown, few))
call_fits n d names (Put to field from) is grown few = let to_is = is.0 in let from_is = is.1.1.0 in
    (omega (arith, to_is, grown, few), omega (arith, from_is, grown, few))
call_fits n d names (Show root) is grown few = omega (arith, is.0, grown, few)
call_fits n d names Collect is grown few = tt

calls_fit : (n : Numbers) (d names : ℕ) (calls : List Call) → AreCalls d calls names → names ≤ n.roots
    → AreFitting n calls
calls_fit n d names [] are few i call at = absurd (none-some call at)
calls_fit n d names (c ∷ calls) are few zero call at =
    let P : Call → Type 0 = CallFits n in
    subst P (same_Some c call at)
    (call_fits n d names c are.0 (defined_within (defined_after d c) names calls are.1) few)
calls_fit n d names (c ∷ calls) are few (suc i) call at =
    calls_fit n (defined_after d c) names calls are.1 few i call at

-- what holds of each element holds of the one at a place
at_place : {A : Type 0} (P : A → Type 0) (xs : List A) (i : ℕ) (x : A) → AllByRecursion P xs → slice_get xs i ≡ Some x
    → P x
at_place P [] i x all at = absurd (none-some x at)
at_place P (y ∷ ys) zero x all at = subst P (same_Some y x at) all.0
at_place P (y ∷ ys) (suc i) x all at = at_place P ys i x all.1 at

pub program_fits : (s : ScriptView) (m : ℕ) (p : ProgramView) → IsProper s → slice_get s.programs m ≡ Some p
    → AreFitting s.numbers p.calls
program_fits s m p proper at =
    let program = at_place (IsProgram s.numbers.roots) s.programs m p proper.programs at in
    calls_fit s.numbers 1 (length p.names) p.calls program.calls program.few

-- one program has at most as many calls as all have
some_calls : (programs : List ProgramView) (m : ℕ) (p : ProgramView) → slice_get programs m ≡ Some p
    → length p.calls ≤ command_count programs
some_calls [] m p at = absurd (none-some p at)
some_calls (q ∷ rest) zero p at =
    let all = sum_by-cons (λ (r : ProgramView). length r.calls) q rest in
    let P : ProgramView → Type 0 = λ r. length r.calls ≤ command_count (q ∷ rest) in
    subst P (same_Some q p at) (omega (arith, all))
some_calls (q ∷ rest) (suc m) p at =
    let all = sum_by-cons (λ (r : ProgramView). length r.calls) q rest in
    let some = some_calls rest m p at in omega (arith, all, some)

pub few_calls : (s : ScriptView) (m : ℕ) (p : ProgramView) → IsProper s → slice_get s.programs m ≡ Some p
    → length p.calls ≤ 1048576
few_calls s m p proper at = let some = some_calls s.programs m p at in let all = proper.commands in
    omega (arith, some, all)

pub caller_of : (s : ScriptView) (m : ℕ) → IsProper s → m < length s.programs
    → IsCaller (record { shape = s.numbers; mutator = m })
caller_of s m proper h =
    record { shape = proper.shape; mutator = (let mutators = proper.mutators in omega (arith, h, mutators)) }
