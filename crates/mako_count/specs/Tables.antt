-- What contracts see of a count.
use Rattle.std.specs.Prelude.{ℕ}
use Rattle.atomic_table.specs.Seated.{TableId}
use Rattle.mako_count.specs.declared.count.Count.{Count}

-- the table whose seats the count takes
abbrev pub table_of : Count → TableId
table_of c = c.table.shared.table_id

-- the number of workers
abbrev pub crew_of : Count → ℕ
crew_of c = c.workers
