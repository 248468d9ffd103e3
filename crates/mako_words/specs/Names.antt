-- The words, the text and the order of names.
use Rattle.std.specs.Prelude.{ℕ, ◌+◌, ◌-◌, ◌*◌, ◌/◌, ◌%◌, ◌<◌, ◌^◌, List, ◌++◌, codes, refl}
use Rattle.std.specs.declared.cmp.Ordering.{Ordering}
use Rattle.std.specs.Ordering.{nat_cmp, ordering_then}
use Rattle.std.specs.Fmt.{decimal}
use Rattle.std.specs.Coded.{Coded, code_by, coded×, coded_ℕ}
use Rattle.mako_words.specs.Words.{IsPackedBy}
use Rattle.mako_words.specs.declared.name.Name.{Name}

-- the entry from bit 0 on, the generation from bit 20 on, and bit 63
abbrev pub name_word : Name → ℕ
name_word n = n.entry + n.generation * 2 ^ 20 + 2 ^ 63

-- each number fits its bits
abbrev pub FitsName : Name → Type 0
FitsName n = (n.entry < 2 ^ 20) × (n.generation < 2 ^ 20)

-- the name whose word this is
abbrev pub name_at : ℕ → Name
name_at w = record { entry = (w - 2 ^ 63) % 2 ^ 20; generation = (w - 2 ^ 63) / 2 ^ 20 }

-- the word is that of a name
abbrev pub IsPackedName : ℕ → Type 0
IsPackedName w = IsPackedBy FitsName name_word name_at w

-- the entry in decimal, a number sign, and the generation in decimal
abbrev pub name_text : Name → List ℕ
name_text n = decimal n.entry ++ codes "#" ++ decimal n.generation

-- by entry, and then by generation
abbrev pub name_cmp : Name → Name → Ordering
name_cmp a b = ordering_then (nat_cmp a.entry b.entry) (nat_cmp a.generation b.generation)

-- as a pair of numbers
abbrev pub coded_name : Coded Name
coded_name = code_by (ℕ
    × ℕ) (coded× coded_ℕ coded_ℕ) (λ n. (n.entry, n.generation)) (λ p. record { entry = p.0; generation = p.1 })
    (λ _. refl)
