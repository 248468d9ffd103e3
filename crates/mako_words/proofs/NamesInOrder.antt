-- The order of names is total, and names that compare alike are one.
use Rattle.std.proofs.Common.{ℕ, ap}
use Rattle.std.proofs.lemmas.Cmp.{nat_cmp_total, on_total, then_total}
use Rattle.std.proofs.lemmas.Map.Lookups.{CmpEqualImpliesEq, exact_pairs, exact_unsigned}
use Rattle.std.specs.Cmp.{IsTotalOrder}
use Rattle.std.specs.Ordering.{nat_cmp}
use Rattle.mako_words.specs.declared.name.Name.{Name}
use Rattle.mako_words.specs.Names.{name_cmp}

pub exact_names : CmpEqualImpliesEq name_cmp
exact_names a b h = ap (λ (p : ℕ × ℕ). record { entry = p.0; generation = p.1 })
    (exact_pairs nat_cmp nat_cmp exact_unsigned exact_unsigned (a.entry, a.generation) (b.entry, b.generation) h)

pub names_total : IsTotalOrder name_cmp
names_total = then_total (on_total (λ (n : Name). n.entry) nat_cmp_total)
    (on_total (λ (n : Name). n.generation) nat_cmp_total)
