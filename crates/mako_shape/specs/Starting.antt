-- Where the areas start that are read and written most.
use Rattle.mako_shape.specs.declared.numbers.Numbers.{Numbers}
use Rattle.mako_shape.specs.declared.areas.Starts.{Starts}
use Rattle.mako_shape.specs.Places.{start, total}

-- where the areas start that are read and written most, and the words of all areas
unfoldable pub starts_of : Numbers → Starts
starts_of n = record {
  tablet_gates = start n 10;
  entries = start n 16;
  regions = start n 17;
  all_words = total n;
}
