-- Each kind of step keeps the order of the phases.
use Rattle.std.proofs.Common.{sym, subst}
use Rattle.mako_shape.specs.declared.numbers.Numbers.{Numbers}
use Rattle.mako_phases.specs.Orders.{PhaseOrder, AreDrained}
use Rattle.mako_phases.specs.Steps.{PhaseScene, PhaseStep, Unseen, Looks, Forgets, Lowers, Enters, Leaves, Keeps, Asks}
use Rattle.mako_phases.specs.Steps.{Demands, StoresRoot, Shades, Publishes, Moves, Turns, Returns, Finds, Works}
use Rattle.mako_phases.specs.Steps.{MovesName, Marks, Passes, Meets, Shuts, Clears, Reopens, Frees, Notes, Ends, Begins}
use Rattle.mako_phases.specs.Steps.{Drains, LoadsRoot, Snaps, Carries, Told, Chooses, Evacuates, Hears, Finishes, Stops}
use Rattle.mako_phases.proofs.Seats.{unseen, forgets, lowers, enters, leaves, keeps, asks, demands, stores_root, shades}
use Rattle.mako_phases.proofs.Seats.{publishes, moves, frees, turns, returns, finds, works, moves_name, marks, passes}
use Rattle.mako_phases.proofs.Seats.{meets, shuts, clears, reopens}
use Rattle.mako_phases.proofs.Notices.{notes, ends}
use Rattle.mako_phases.proofs.Collector.{begins, drains, loads_root, snaps, carries, told, chooses, evacuates, hears}
use Rattle.mako_phases.proofs.Collector.{finishes, stops}

module _ (n : Numbers) (s after : PhaseScene) (o : PhaseOrder n s.words s.facets) (d : AreDrained s.facets) where
  abbrev Kept : PhaseScene → Type 0
  Kept a = PhaseOrder n a.words a.facets

  pub phase_kept : PhaseStep n s after → PhaseOrder n after.words after.facets
  phase_kept (Unseen p word within un e) = subst Kept (sym e) (unseen n s.words s.facets o d p word within un)
  phase_kept (Enters seat p word within un here e) =
      subst Kept (sym e) (enters n s.words s.facets o d seat p word within un here)
  phase_kept (Leaves seat kept p word within un here e) =
      subst Kept (sym e) (leaves n s.words s.facets o d seat kept p word within un here)
  phase_kept (Keeps seat kept here e) = subst Kept (sym e) (keeps n s.words s.facets o d seat kept here)
  phase_kept (Asks seat here not e) = subst Kept (sym e) (asks n s.words s.facets o d seat here not)
  phase_kept (Demands seat k here e) = subst Kept (sym e) (demands n s.words s.facets o d seat k here)
  phase_kept (StoresRoot seat kept m q word here within e) =
      subst Kept (sym e) (stores_root n s.words s.facets o d seat kept m q word here within)
  phase_kept (Shades seat cycle m slot word here within e) =
      subst Kept (sym e) (shades n s.words s.facets o d seat cycle m slot word here within)
  phase_kept (Publishes seat p k word here within is e) =
      subst Kept (sym e) (publishes n s.words s.facets o d seat p k word here within is)
  phase_kept (Moves k word within is e) = subst Kept (sym e) (moves n s.words s.facets o d k word within is)
  phase_kept (Turns seat server ended laden here e) =
      subst Kept (sym e) (turns n s.words s.facets o d seat server ended laden here)
  phase_kept (Returns seat server c ended laden here e) =
      subst Kept (sym e) (returns n s.words s.facets o d seat server c ended laden here)
  phase_kept (Finds seat server c ended laden p here is within some e) =
      subst Kept (sym e) (finds n s.words s.facets o d seat server c ended laden p here is within some)
  phase_kept (Works seat server c ended b here e) =
      subst Kept (sym e) (works n s.words s.facets o d seat server c ended b here)
  phase_kept (MovesName seat server c ended b p word here is within e) =
      subst Kept (sym e) (moves_name n s.words s.facets o d seat server c ended b p word here is within)
  phase_kept (Marks seat server c ended laden k word here within is e) =
      subst Kept (sym e) (marks n s.words s.facets o d seat server c ended laden k word here within is)
  phase_kept (Passes seat server c t ended laden here none e) =
      subst Kept (sym e) (passes n s.words s.facets o d seat server c t ended laden here none)
  phase_kept (Meets seat server c t ended laden here some e) =
      subst Kept (sym e) (meets n s.words s.facets o d seat server c t ended laden here some)
  phase_kept (Shuts seat server c t ended laden p word here within un e) =
      subst Kept (sym e) (shuts n s.words s.facets o d seat server c t ended laden p word here within un)
  phase_kept (Clears seat server c t ended laden here e) =
      subst Kept (sym e) (clears n s.words s.facets o d seat server c t ended laden here)
  phase_kept (Reopens seat server c t ended laden p word here within un e) =
      subst Kept (sym e) (reopens n s.words s.facets o d seat server c t ended laden p word here within un)
  phase_kept (Frees k word within is e) = subst Kept (sym e) (frees n s.words s.facets o d k word within is)
  phase_kept (Notes server slot word within not e) =
      subst Kept (sym e) (notes n s.words s.facets o server slot word within not)
  phase_kept (Ends seat server c ended slot laden here within e) =
      subst Kept (sym e) (ends n s.words s.facets o seat server c ended slot laden d here within)
  phase_kept (Begins seat c pending here asked e) =
      subst Kept (sym e) (begins n s.words s.facets o d seat c pending here asked)
  phase_kept (Drains seat c pending here e) = subst Kept (sym e) (drains n s.words s.facets o d seat c pending here)
  phase_kept (LoadsRoot seat c loaded pending here more e) =
      subst Kept (sym e) (loads_root n s.words s.facets o d seat c loaded pending here more)
  phase_kept (Snaps seat c loaded pending here e) =
      subst Kept (sym e) (snaps n s.words s.facets o d seat c loaded pending here)
  phase_kept (Carries seat c pending next p word here is within e) =
      subst Kept (sym e) (carries n s.words s.facets o d seat c pending next p word here is within)
  phase_kept (Told seat c here slots idle e) = subst Kept (sym e) (told n s.words s.facets o d seat c here slots idle)
  phase_kept (Chooses seat c left pending t word here within e) =
      subst Kept (sym e) (chooses n s.words s.facets o d seat c left pending t word here within)
  phase_kept (Evacuates seat c left pending here e) =
      subst Kept (sym e) (evacuates n s.words s.facets o d seat c left pending here)
  phase_kept (Hears seat c ended slot pending here within is e) =
      subst Kept (sym e) (hears n s.words s.facets o d seat c ended slot pending here within is)
  phase_kept (Finishes seat c pending here e) = subst Kept (sym e) (finishes n s.words s.facets o d seat c pending here)
  phase_kept (Stops seat c pending here e) = subst Kept (sym e) (stops n s.words s.facets o d seat c pending here)
  phase_kept (Looks e) = subst Kept (sym e) o
  phase_kept (Forgets seat kept p word within un here e) =
      subst Kept (sym e) (forgets n s.words s.facets o d seat kept p word within un here)
  phase_kept (Lowers seat server c ended laden p word here within un e) =
      subst Kept (sym e) (lowers n s.words s.facets o d seat server c ended laden p word here within un)
