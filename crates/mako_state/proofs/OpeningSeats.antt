-- The seats at the start, one by one, and what is read of each.
use Rattle.std.proofs.Common.{◌≡◌, ℕ, zero, suc, ◌+◌, ◌<◌, ◌⊎◌, ⊎_elim, inl, inr, false, List, [], ◌∷◌, ◌++◌, length}
use Rattle.std.proofs.Common.{slice_get, sum_by, Option, Some, None, ap, subst, refl, ◌∙◌, arith, length-append}
use Rattle.std.proofs.lemmas.List.Sums.{sum_by-cons}
use Rattle.std.proofs.lemmas.Option.{same_Some, none-some}
use Rattle.mako_shape.specs.declared.numbers.Numbers.{Numbers}
use Rattle.mako_gate.specs.Standings.{GateFacet, away, mutator_at}
use Rattle.mako_model.specs.declared.call.Call.{Call}
use Rattle.mako_model.specs.declared.call.Call.TheVariants.{New, Num, CopyRoot, DropRoot, Get, Put, Show, Collect}
use Rattle.mako_script.specs.Programs.{ProgramView}
use Rattle.mako_script.specs.Scripts.{ScriptView}
use Rattle.mako_call.specs.declared.caller.Caller.{Caller}
use Rattle.mako_call.specs.declared.call_stage.CallStage.{CallStage}
use Rattle.mako_call.specs.declared.call_stage.CallStage.TheVariants.{Arriving, Asking}
use Rattle.mako_call.specs.declared.asking.AskStage.TheVariants.{LoadingPhase as AskPhase}
use Rattle.mako_mutator.specs.declared.progress.Task.{Task}
use Rattle.mako_mutator.specs.declared.progress.Task.TheVariants.{Attempting, Finishing}
use Rattle.mako_call.specs.Calls as calling
use Rattle.mako_call.specs.Calls.{first_stage}
use Rattle.mako_mutator.specs.Drivers.{task_for, begun}
use Rattle.mako_server.specs.Serving as serving
use Rattle.mako_pause.specs.Opening as collecting
use Rattle.mako_seat.specs.declared.seat.Seat.{Seat}
use Rattle.mako_seat.specs.declared.seat.Seat.TheVariants.{Mutator, Server, Collector}
use Rattle.mako_layout.specs.Facets.{Work, idle}
use Rattle.mako_layout.specs.Openings.{seats_from, idle_works}
use Rattle.mako_state.specs.Facets.{gate_facet, work_facet, task_ended, ended_of}
use Rattle.mako_state.specs.Openings.{opening_driver, mutators_from, servers_from, opening_seats}
use Rattle.mako_state.specs.Standings.{stage_standing, task_standing}
use Rattle.mako_state.specs.Works.{stage_work, task_work}

-- ---- which seat stands where

-- the mutators come first, then the servers, and the collector last
pub data IsOpeningSeat (s : ScriptView) : ℕ → Seat → Type 0 where
  of_mutator : (m : ℕ) (p : ProgramView) → slice_get s.programs m ≡ Some p
      → IsOpeningSeat s m (Mutator (opening_driver s.numbers m p))
  of_server : (i j : ℕ) → i ≡ length s.programs + j → j < s.numbers.servers
      → IsOpeningSeat s i (Server (serving.opening s.numbers j))
  of_collector : (i : ℕ) → i ≡ length s.programs + s.numbers.servers
      → IsOpeningSeat s i (Collector (collecting.opening s))

-- an element behind the mutators, or behind the servers
abbrev IsBehind : ℕ → List Seat → ℕ → Seat → Type 0
IsBehind c rest i v = (j : ℕ) × (i ≡ c + j) × (slice_get rest j ≡ Some v)

abbrev IsMutator : Numbers → List ProgramView → ℕ → ℕ → Seat → Type 0
IsMutator n ps m i v = (p : ProgramView) × (slice_get ps i ≡ Some p) × (Mutator (opening_driver n (m + i) p) ≡ v)

abbrev IsServer : Numbers → ℕ → ℕ → ℕ → Seat → Type 0
IsServer n c k i v = (i < c) × (Server (serving.opening n (k + i)) ≡ v)

numbered : (n : Numbers) (a b : ℕ) (p : ProgramView) → a ≡ b
    → Mutator (opening_driver n a p) ≡ Mutator (opening_driver n b p)
numbered n a b p e = ap (λ q. Mutator (opening_driver n q p)) e

served : (n : Numbers) (a b : ℕ) → a ≡ b → Server (serving.opening n a) ≡ Server (serving.opening n b)
served n a b e = ap (λ q. Server (serving.opening n q)) e

among_mutators : (n : Numbers) (ps : List ProgramView) (m i : ℕ) (rest : List Seat) (v : Seat)
    → slice_get (mutators_from n m ps ++ rest) i ≡ Some v → IsMutator n ps m i v ⊎ IsBehind (length ps) rest i v
among_mutators n [] m i rest v e = inr (i, omega arith, e)
among_mutators n (p ∷ ps) m zero rest v e =
    inl (p, refl, numbered n (m + 0) m p (omega arith) ∙ same_Some (Mutator (opening_driver n m p)) v e)
among_mutators n (p ∷ ps) m (suc i) rest v e =
    ⊎_elim (λ t. inl (t.0, t.1, numbered n (m + suc i) (m + 1 + i) t.0 (omega arith) ∙ t.2))
    (λ t. inr (t.0, (let same = t.1 in omega (arith, same)), t.2)) (among_mutators n ps (m + 1) i rest v e)

among_servers : (n : Numbers) (c k i : ℕ) (rest : List Seat) (v : Seat)
    → slice_get (servers_from n k c ++ rest) i ≡ Some v → IsServer n c k i v ⊎ IsBehind c rest i v
among_servers n zero k i rest v e = inr (i, omega arith, e)
among_servers n (suc c) k zero rest v e =
    inl (omega arith, served n (k + 0) k (omega arith) ∙ same_Some (Server (serving.opening n k)) v e)
among_servers n (suc c) k (suc i) rest v e =
    ⊎_elim (λ t. inl ((let less = t.0 in omega (arith, less)), served n (k + suc i) (k + 1 + i) (omega arith) ∙ t.1))
    (λ t. inr (t.0, (let same = t.1 in omega (arith, same)), t.2)) (among_servers n c (k + 1) i rest v e)

alone : (a : Seat) (j : ℕ) (v : Seat) → slice_get (a ∷ []) j ≡ Some v → (j ≡ 0) × (a ≡ v)
alone a zero v e = (refl, same_Some a v e)
alone a (suc j) v e = absurd (none-some v e)

pub seat_is : (s : ScriptView) (i : ℕ) (v : Seat) → slice_get (opening_seats s) i ≡ Some v → IsOpeningSeat s i v
seat_is s i v e =
    let last : Seat = Collector (collecting.opening s) in
    ⊎_elim
    (λ t. subst (IsOpeningSeat s i) (numbered s.numbers i (0 + i) t.0 (omega arith) ∙ t.2) (of_mutator i t.0 t.1))
    (λ t. ⊎_elim
    (λ u. subst (IsOpeningSeat s i) (served s.numbers t.0 (0 + t.0) (omega arith) ∙ u.1) (of_server i t.0 t.1 u.0))
    (λ u. let found = alone last u.0 v u.2 in
    let one = t.1 in let two = u.1 in let none = found.0 in
    subst (IsOpeningSeat s i) found.1 (of_collector i (omega (arith, one, two, none))))
    (among_servers s.numbers s.numbers.servers 0 t.0 (last ∷ []) v t.2))
    (among_mutators s.numbers s.programs 0 i (servers_from s.numbers 0 s.numbers.servers ++ last ∷ []) v e)

mutators_count : (n : Numbers) (ps : List ProgramView) (m : ℕ) → length (mutators_from n m ps) ≡ length ps
mutators_count n [] m = refl
mutators_count n (p ∷ ps) m = ap suc (mutators_count n ps (m + 1))

servers_count : (n : Numbers) (c k : ℕ) → length (servers_from n k c) ≡ c
servers_count n zero k = refl
servers_count n (suc c) k = ap suc (servers_count n c (k + 1))

pub seats_count : (s : ScriptView) → length (opening_seats s) ≡ length s.programs + s.numbers.servers + 1
seats_count s =
    let serve : List Seat = servers_from s.numbers 0 s.numbers.servers in
    let last : List Seat = Collector (collecting.opening s) ∷ [] in
    let a = length-append (mutators_from s.numbers 0 s.programs) (serve ++ last) in
    let b = length-append serve last in
    let c = mutators_count s.numbers s.programs 0 in
    let d = servers_count s.numbers s.numbers.servers 0 in
    let one : length last ≡ 1 = refl in
    omega (arith, a, b, c, d, one)

-- ---- the first task of a mutator

-- the end, or an attempt of the first call
for_first : (k : Caller) (o : Option Call) (P : Task → Type 0) → P Finishing
    → ((call : Call) → o ≡ Some call → P (Attempting (calling.opening k call false None 0)))
    → P (task_for k o false (record { asked = None; barrier_at = 0 }))
for_first k None P none some = none
for_first k (Some call) P none some = some call refl

-- which arrives at the gate, or for a collect asks for a cycle
for_stage : (call : Call) (P : CallStage → Type 0) → P Arriving → (call ≡ Collect → P (Asking AskPhase))
    → P (first_stage call None)
for_stage (New root fields) P arrives asks = arrives
for_stage (Num root number) P arrives asks = arrives
for_stage (CopyRoot to from) P arrives asks = arrives
for_stage (DropRoot root) P arrives asks = arrives
for_stage (Get to from field) P arrives asks = arrives
for_stage (Put to field from) P arrives asks = arrives
for_stage (Show root) P arrives asks = arrives
for_stage Collect P arrives asks = asks refl

module _ (k : Caller) (calls : List Call) where
  first_stands : task_standing (begun k calls).task ≡ away
  first_stands = for_first k (slice_get calls 0) (λ t. task_standing t ≡ away) refl
      (λ call e. for_stage call (λ g. stage_standing k.shape g ≡ away) refl (λ _. refl))

  first_works : task_work (begun k calls).task ≡ idle
  first_works = for_first k (slice_get calls 0) (λ t. task_work t ≡ idle) refl
      (λ call e. for_stage call (λ g. stage_work k.shape g ≡ idle) refl (λ _. refl))

  first_ended : task_ended (begun k calls).task ≡ 0
  first_ended = for_first k (slice_get calls 0) (λ t. task_ended t ≡ 0) refl (λ call e. refl)

-- ---- what is read of each seat

module _ (s : ScriptView) (same : s.numbers.mutators ≡ length s.programs) where
  pub gate_is : (i : ℕ) (v : Seat) → IsOpeningSeat s i v → gate_facet s.numbers v ≡ mutator_at i away
  gate_is _ _ (of_mutator m p at) = ap (mutator_at m) (first_stands (record { shape = s.numbers; mutator = m }) p.calls)
  gate_is _ _ (of_server i j e l) = ap (λ q. mutator_at q away) (let a : s.numbers.mutators + j ≡ i = omega arith in a)
  gate_is _ _ (of_collector i e) =
      ap (λ q. mutator_at q away) (let a : s.numbers.mutators + s.numbers.servers ≡ i = omega arith in a)

module _ (s : ScriptView) where
  pub work_is : (i : ℕ) (v : Seat) → IsOpeningSeat s i v → work_facet v ≡ idle
  work_is _ _ (of_mutator m p at) = first_works (record { shape = s.numbers; mutator = m }) p.calls
  work_is _ _ (of_server i j e l) = refl
  work_is _ _ (of_collector i e) = refl

  pub none_ended : (i : ℕ) (v : Seat) → IsOpeningSeat s i v → ended_of v ≡ 0
  none_ended _ _ (of_mutator m p at) = first_ended (record { shape = s.numbers; mutator = m }) p.calls
  none_ended _ _ (of_server i j e l) = refl
  none_ended _ _ (of_collector i e) = refl

-- ---- lists by their elements

pub gates_are : (xs : List GateFacet) (k c : ℕ) → length xs ≡ c
    → ((i : ℕ) (g : GateFacet) → slice_get xs i ≡ Some g → g ≡ mutator_at (k + i) away) → xs ≡ seats_from k c
gates_are [] k zero e all = refl
gates_are [] k (suc c) e all = absurd (omega arith)
gates_are (g ∷ gs) k zero e all = absurd (omega arith)
gates_are (g ∷ gs) k (suc c) e all =
    let here : k + 0 ≡ k = omega arith in
    let head : g ≡ mutator_at k away = all 0 g refl ∙ ap (λ q. mutator_at q away) here in
    let tail : gs ≡ seats_from (k + 1) c = gates_are gs (k + 1) c (omega arith)
    (λ i h at. all (suc i) h at ∙ ap (λ q. mutator_at q away) (let a : k + suc i ≡ k + 1 + i = omega arith in a)) in
    (λ q. head q ∷ tail q)

pub works_are : (xs : List Work) (c : ℕ) → length xs ≡ c → ((i : ℕ) (w : Work) → slice_get xs i ≡ Some w → w ≡ idle)
    → xs ≡ idle_works c
works_are [] zero e all = refl
works_are [] (suc c) e all = absurd (omega arith)
works_are (w ∷ ws) zero e all = absurd (omega arith)
works_are (w ∷ ws) (suc c) e all =
    let head : w ≡ idle = all 0 w refl in
    let tail : ws ≡ idle_works c = works_are ws c (omega arith) (λ i h at. all (suc i) h at) in
    (λ q. head q ∷ tail q)

pub sum_none : (f : Seat → ℕ) (xs : List Seat) → ((i : ℕ) (v : Seat) → slice_get xs i ≡ Some v → f v ≡ 0)
    → sum_by f xs ≡ 0
sum_none f [] all = refl
sum_none f (x ∷ xs) all = omega (arith, sum_by-cons f x xs, all 0 x refl, sum_none f xs (λ i v at. all (suc i) v at))
