-- The workers get their seats one after another.
use Rattle.std.proofs.Common.{◌≡◌, ℕ, zero, suc, ◌+◌, ◌*◌, ◌^◌, ◌<◌, List, [], ◌∷◌, ◌++◌, length, map, get_or}
use Rattle.std.proofs.Common.{take, drop, All, sym, refl, ap, ◌∙◌, subst, arith, drop-cons}
use Rattle.atomic_table.specs.Seated.{TableId}
use Rattle.std.proofs.lemmas.List.Elements.{All-push}
use Rattle.mako_count.specs.declared.views.WorkerView.{WorkerView}
use Rattle.mako_count.specs.Views.{alone, gathering, openings, opening_worker, opening_poll, first_of, rest_of}
use Rattle.mako_count.specs.Views.{worker_of, IsPollers, Seated}
use Rattle.mako_count.specs.States.{WorkerState, worker_state, Desk, IsWorkerHeld}

-- the first i workers have their seats
pub record Deals (table : TableId) (seeds : List ℕ) (most i : ℕ) (desk : Desk) (ws : List WorkerState) : Type 0 where
  pub rest : desk.me ≡ (gathering (openings i (drop i seeds)) (opening_poll (length seeds)), [])
  pub tables : desk.table_id ≡ table
  pub known : map (λ w. w.known) ws ≡ openings 0 (take i seeds)
  pub each : All (λ w. (w.table ≡ table) × (w.most ≡ most)) ws

openings_push : (a : ℕ) (l : List ℕ) (i : ℕ) → i < length l
    → openings a (take (suc i) l) ≡ openings a (take i l) ++ opening_worker (a + i) (get_or l i 0) ∷ []
openings_push a [] i lt = absurd (omega arith)
openings_push a (x ∷ xs) zero lt = let e : a ≡ a + 0 = omega arith in ap (λ j. opening_worker j x ∷ []) e
openings_push a (x ∷ xs) (suc i) lt = let e : suc a + i ≡ a + suc i = omega arith in
    ap (λ (l : List WorkerView). opening_worker a x ∷ l) (openings_push (suc a) xs i (omega arith)
    ∙ ap (λ j. openings (suc a) (take i xs) ++ opening_worker j (get_or xs i 0) ∷ []) e)

map_push : (ws : List WorkerState) (w : WorkerState)
    → map (λ (x : WorkerState). x.known) (ws ++ w ∷ []) ≡ map (λ (x : WorkerState). x.known) ws ++ w.known ∷ []
map_push [] w = refl
map_push (x ∷ xs) w = ap (λ (l : List WorkerView). x.known ∷ l) (map_push xs w)

module _ (table : TableId) (seeds : List ℕ) (most i : ℕ) (desk : Desk) (ws : List WorkerState) (lt : i < length seeds)
    (d : Deals table seeds most i desk ws) where
  -- the seat before, with the next worker at its head
  head : desk.me ≡ (
    gathering (opening_worker i (get_or seeds i 0) ∷
        openings (suc i) (drop (suc i) seeds)) (opening_poll (length seeds)),
    [],
  )
  head = d.rest ∙ ap (λ (l : List ℕ). (gathering (openings i l) (opening_poll (length seeds)), []))
      (drop-cons seeds i 0 lt)

  pub deal_more : (0 < length desk.me.0.workers) × IsPollers desk.me
  deal_more = subst (λ (m : Seated). (0 < length m.0.workers) × IsPollers m) (sym head) (omega arith, refl)

  first_is : (seat : Desk) → seat.me ≡ (first_of desk.me.0, [])
      → seat.me ≡ (alone (opening_worker i (get_or seeds i 0)), [])
  first_is seat e = e ∙ ap (λ (m : Seated). (first_of m.0, [])) head

  pub dealt_held : (seat : Desk) → seat.me ≡ (first_of desk.me.0, []) → get_or seeds i 0 < 2 ^ 32
      → 3 * i < seat.table_id.words → IsWorkerHeld seat i 0 most
  dealt_held seat e small within = let is = first_is seat e in record {
    seated = is ∙ ap (λ (m : Seated). (alone (worker_of m.0), [])) (sym is);
    number = ap (λ (m : Seated). (worker_of m.0).number) is;
    within = within;
    seeds = subst (λ (m : Seated). (worker_of m.0).seeds < 2 ^ 32) (sym is) small;
    sends = ap (λ (m : Seated). (worker_of m.0).sends) is;
    most = omega arith;
  }

  pub dealt_on : (after seat : Desk) (w : WorkerState) → after.table_id ≡ table → after.me ≡ (rest_of desk.me.0, [])
      → seat.table_id ≡ table → seat.me ≡ (first_of desk.me.0, []) → w ≡ worker_state seat most
      → Deals table seeds most (i + 1) after (ws ++ w ∷ [])
  dealt_on after seat w same rest seat_table first is =
      let next : i + 1 ≡ suc i = omega arith in let mine = first_is seat first in
      let zero_first : 0 + i ≡ i = omega arith in
      let known : w.known ≡ opening_worker i (get_or seeds i 0) = ap (λ (s : WorkerState). s.known) is
      ∙ ap (λ (m : Seated). worker_of m.0) mine in
      subst (λ j. Deals table seeds most j after (ws ++ w ∷ [])) (sym next) record {
        rest = rest ∙ ap (λ (m : Seated). (rest_of m.0, [])) head;
        tables = same;
        known = map_push ws w ∙ (λ t. d.known t ++ known t ∷ [])
            ∙ ap (λ j. openings 0 (take i seeds) ++ opening_worker j (get_or seeds i 0) ∷ []) (sym zero_first)
            ∙ sym (openings_push 0 seeds i lt);
        each = All-push (λ (v : WorkerState). (v.table ≡ table)
            × (v.most ≡ most)) ws w d.each (
              ap (λ (s : WorkerState). s.table) is
                  ∙ seat_table,
              ap (λ (s : WorkerState). s.most) is,
            );
      }
