-- What the collector begins with.
use Rattle.std.proofs.Common.{◌≡◌, ℕ, zero, suc, ◌+◌, ◌≤◌, List, [], ◌∷◌, ◌++◌, length, count_by, sum_by, add-one, refl}
use Rattle.std.proofs.Common.{arith}
use Rattle.std.proofs.lemmas.List.{length_push}
use Rattle.std.proofs.lemmas.List.Sums.{sum_by-cons, count_by-le-length}
use Rattle.mako_shape.specs.declared.numbers.Numbers.{Numbers}
use Rattle.mako_script.specs.Programs.{ProgramView}
use Rattle.mako_script.specs.Scripts.{command_count}
use Rattle.mako_pause.specs.Opening.{opening_role, opening_roles, is_new, news_of}

pub no_roles : (n : Numbers) → opening_roles n 0 ≡ []
unfolding opening_roles
no_roles n = refl

pub roles_more : (n : Numbers) (region : ℕ)
    → opening_roles n (region + 1) ≡ opening_roles n region ++ opening_role n region ∷ []
unfolding opening_roles
roles_more n region = rw add-one refl

pub roles_count : (n : Numbers) (regions : ℕ) → length (opening_roles n regions) ≡ regions
unfolding opening_roles
roles_count n zero = refl
roles_count n (suc region) = let rest = roles_count n region in
    let more = length_push (opening_roles n region) (opening_role n region) in omega (arith, rest, more)

-- no more calls make objects than there are
pub news_few : (programs : List ProgramView) → sum_by news_of programs ≤ command_count programs
news_few [] = omega arith
news_few (p ∷ programs) =
    let rest = news_few programs in
    let news = sum_by-cons news_of p programs in
    let calls = sum_by-cons (λ (q : ProgramView). length q.calls) p programs in
    let one : count_by is_new p.calls ≤ length p.calls = count_by-le-length is_new p.calls in
    omega (arith, rest, news, calls, one)
