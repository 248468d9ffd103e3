-- Workers at their start stand between pieces.
use Rattle.std.proofs.Common.{◌≡◌, ℕ, ◌+◌, ◌<◌, List, length, get_or, replicate, sym, ap, ◌∙◌, arith}
use lib.ListN.{get_or-map, get_or-replicate, length-replicate, length-map}
use Rattle.atomic_table.specs.Seated.{TableId}
use Rattle.mako_count.specs.declared.views.WorkerView.{WorkerView}
use Rattle.mako_count.specs.Views.{opening_worker}
use Rattle.mako_count.specs.States.{WorkerState, AreStarting}
use Rattle.mako_count.specs.Running.{AreBetweenPieces}
use Rattle.mako_count.proofs.Opens.{openings_at, openings_length}

abbrev known_of : WorkerState → WorkerView
known_of w = w.known

pub starting_length : (table : TableId) (seeds : List ℕ) (most : ℕ) (ws : List WorkerState)
    → AreStarting table seeds most ws → length ws ≡ length seeds
starting_length table seeds most ws s = sym (length-map ws known_of)
    ∙ (ap (λ (l : List WorkerView). length l) s.0 ∙ openings_length 0 seeds)

pub starting_between : (table : TableId) (n each most : ℕ) (ws : List WorkerState)
    → AreStarting table (replicate n each) most ws → AreBetweenPieces table each most ws
starting_between table n each most ws s k d lt =
    let seeds : List ℕ = replicate n each in let long = starting_length table seeds most ws s in
    let count = length-replicate n each in let inside : k < length seeds = omega arith in
    let e : (get_or ws k d).known ≡ opening_worker (0 + k) (get_or seeds k 0) = sym (get_or-map known_of ws k d)
    ∙ (ap (λ (l : List WorkerView). get_or l k d.known) s.0 ∙ openings_at 0 seeds k d.known inside) in
    let seed : get_or seeds k 0 ≡ each = get_or-replicate n k each 0 (omega arith) in let here = s.1 k d lt in (
      here.0,
      here.1,
      ap (λ (w : WorkerView). w.seeds) e ∙ seed,
      (
        ap (λ (w : WorkerView). w.hand) e,
        (let sends : (get_or ws k d).known.sends ≡ 0 = ap (λ (w : WorkerView). w.sends) e in
            let handled : (get_or ws k d).known.handled ≡ 0 = ap (λ (w : WorkerView). w.handled) e in
            omega (arith, sends, handled)),
      ),
    )
