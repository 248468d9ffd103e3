use Rattle.std.proofs.Common.{◌∙◌, ◌^◌, ap, sym, subst, arith, ◌<◌, ℕ, List, get_or, length, ◌≤◌, ◌++◌, replicate}
use Rattle.mako_count.proofs.Opens.{opens}
use Rattle.mako_count.proofs.count.Count.start.Goals as goal

pub of_words-requires : goal.of_words-requires
of_words-requires c =
    let e = c.in-Ok-setup_of.ensures in let same = sym e in
    opens c.in-Ok-setup_of.setup c.as_slice.result.now
    (c.as_slice.ensures.value ∙ (c.in-Ok.ensures ∙ ap (λ (l : List ℕ). l ++ (replicate (length l) 0 ++ l)) same))
    (subst (λ (l : List ℕ). (i : ℕ) → get_or l i 0 < 2 ^ 32) same (λ i. let f = c.type_inv.seeds i in omega arith))
    (subst (λ (l : List ℕ). length l ≤ 64) same c.requires.1)
