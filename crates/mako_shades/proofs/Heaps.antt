-- What ties entries and names to the front is what tracing asks of words and history, but for the records.
use Rattle.std.proofs.Common.{◌≤◌, ◌^◌, Contains, arith}
use Rattle.mako_words.specs.declared.name.Name.{Name}
use Rattle.mako_words.specs.Names.{FitsName}
use Rattle.mako_shape.specs.declared.numbers.Numbers.{Numbers}
use Rattle.mako_shape.specs.Limits.{all_entries}
use Rattle.mako_model.specs.Dead.{names_made}
use Rattle.mako_model.specs.Legal.{Facts}
use Rattle.mako_names.specs.Steps.{NameScene, NamesHoldIn}
use Rattle.mako_names.specs.Tables.{IsWorkloadOf, IsTaken}
use Rattle.mako_names.proofs.Good.{in_table}
use Rattle.mako_names.proofs.Telling.{entries_tell, good_are_taken}
use Rattle.mako_shades.specs.Stands.{RecordsStand, HeapStands}

module _ (n : Numbers) (w : Facts) (s : NameScene) (of_it : IsWorkloadOf n w) (few : all_entries n ≤ 2 ^ 20)
    (names : NamesHoldIn n w s) where
  made_fits : (x : Name) → Contains (names_made s.front.history) x → FitsName x
  made_fits x made =
      let range = names.hold.answers.lawful.names x made in
      let inside = in_table n w x.entry of_it range.entry in
      let generation = range.generation in
      let bound = of_it.few_generations in
      let same = of_it.generations in
      (omega arith, omega arith)

  taken_made : (x : Name) → IsTaken n s.words x.entry x.generation → Contains (names_made s.front.history) x
  taken_made x is =
      let tells = entries_tell n w s x.entry names is.within in
      let count = tells.taken is.taken in
      let generation = is.generation in
      (tells.names x.generation).1 (omega arith)

  pub heap_stands : RecordsStand n w s.words s.front.history → HeapStands n w s.words s.front.history
  heap_stands records = record {
    size = names.hold.size;
    legal = names.hold.answers.lawful.legal;
    fit = made_fits;
    taken = λ x good. good_are_taken n w s x.entry x.generation of_it names good;
    made = taken_made;
    records = records;
  }
