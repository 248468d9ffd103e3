-- The words and the seats of the start, as they are put together one after another.
use Rattle.std.proofs.Common.{◌≡◌, ℕ, zero, suc, ◌+◌, ◌-◌, ◌*◌, ◌<◌, List, [], ◌∷◌, ◌++◌, length, set, take, replicate}
use Rattle.std.proofs.Common.{slice_get, Some, sym, ap, subst, refl, ◌∙◌, arith, append_assoc}
use Rattle.std.proofs.lemmas.List.{length_push}
use Rattle.std.proofs.lemmas.Option.{none-some, same_Some}
use Rattle.mako_words.specs.Names.{name_word}
use Rattle.mako_shape.specs.Belongings.{opening_home}
use Rattle.mako_shape.specs.Places.{root, home, index, total}
use Rattle.mako_shape.specs.declared.numbers.Numbers.{Numbers}
use Rattle.mako_model.specs.Heaps.{board_name}
use Rattle.mako_script.specs.Programs.{ProgramView}
use Rattle.mako_script.specs.Scripts.{ScriptView, IsProper}
use Rattle.mako_pause.specs.Opening as collecting
use Rattle.mako_server.specs.Serving as serving
use Rattle.mako_seat.specs.declared.seat.Seat.{Seat}
use Rattle.mako_seat.specs.declared.seat.Seat.TheVariants.{Mutator, Server, Collector}
use Rattle.mako_state.specs.Openings.{Placed, board_roots, first_homes, board_places, written, words_at_start}
use Rattle.mako_state.specs.Openings.{opening_driver, mutators_from, servers_from, opening_seats, opening_core}
use Rattle.mako_script.specs.ScriptFacts.{facts_of}
use Rattle.mako_model.specs.declared.point.Point.{Point}
use Rattle.mako_state.specs.CoreStates.{CoreState}
use Rattle.mako_core.specs.Cores.{core_view, cycles_kept, cycles_in}
use Rattle.mako_whole.specs.AllStanding.{SeatsStand}
use Rattle.mako_whole.proofs.AllStandingSteps.{openings_stand}

-- ---- words

pub written_append : (n : Numbers) (ws : List ℕ) (a b : List Placed)
    → written n ws (a ++ b) ≡ written n (written n ws a) b
written_append n ws [] b = refl
written_append n ws (p ∷ a) b = written_append n (set ws (index n p.place) p.word) a b

one_less : (k : ℕ) → suc k - 1 ≡ k
one_less k = omega arith

-- the last of the roots is written first
pub root_written : (n : Numbers) (ws : List ℕ) (m : ℕ) → 0 < m →
    written n (set ws (index n (root (m - 1) 0)) (name_word board_name)) (board_roots (m - 1)) ≡ written n ws
    (board_roots m)
root_written n ws zero low = absurd (omega arith)
root_written n ws (suc k) low = rw (one_less k) refl

pub home_written : (n : Numbers) (ws : List ℕ) (t : ℕ) → 0 < t →
    written n (set ws (index n (home (t - 1))) (opening_home n (t - 1))) (first_homes n (t - 1)) ≡ written n ws
    (first_homes n t)
home_written n ws zero low = absurd (omega arith)
home_written n ws (suc k) low = rw (one_less k) refl

pub all_written : (n : Numbers) (board : ℕ) (zs ws us vs : List ℕ) → zs ≡ replicate (total n) 0
    → ws ≡ written n zs (board_roots n.mutators) →
    us ≡ written n ws (first_homes n (n.servers * n.tablets)) → vs ≡ written n us (board_places n board)
    → vs ≡ words_at_start n board
unfolding words_at_start
all_written n board zs ws us vs zeros roots homes places =
    let tablets = n.servers * n.tablets in
    let last : vs ≡ written n
    (written n (written n (replicate (total n) 0) (board_roots n.mutators)) (first_homes n tablets))
    (board_places n board) =
    places ∙ ap (λ (xs : List ℕ). written n xs (board_places n board)) (homes
    ∙ ap (λ (xs : List ℕ). written n xs (first_homes n tablets)) (roots
    ∙ ap (λ (xs : List ℕ). written n xs (board_roots n.mutators)) zeros)) in
    last
    ∙ sym (written_append n (written n (replicate (total n) 0) (board_roots n.mutators)) (first_homes n tablets)
    (board_places n board))
    ∙ sym (written_append n (replicate (total n) 0) (board_roots n.mutators)
    (first_homes n tablets ++ board_places n board))

-- ---- seats

driver_more : (n : Numbers) (k m : ℕ) (ps : List ProgramView) (p : ProgramView) → slice_get ps m ≡ Some p →
    mutators_from n k (take (suc m) ps) ≡ mutators_from n k (take m ps) ++ Mutator (opening_driver n (k + m) p) ∷ []
driver_more n k m [] p here = absurd (none-some p here)
driver_more n k zero (x ∷ ps) p here =
    let at : k ≡ k + 0 = omega arith in
    let same = same_Some x p here in
    λ j. Mutator (opening_driver n (at j) (same j)) ∷ []
driver_more n k (suc m) (x ∷ ps) p here =
    let at : k + 1 + m ≡ k + suc m = omega arith in
    ap (λ (vs : List Seat). Mutator (opening_driver n k x) ∷ vs)
    (driver_more n (k + 1) m ps p here
    ∙ ap (λ j. mutators_from n (k + 1) (take m ps) ++ Mutator (opening_driver n j p) ∷ []) at)

pub mutators_more : (n : Numbers) (m : ℕ) (ps : List ProgramView) (p : ProgramView) → slice_get ps m ≡ Some p →
    mutators_from n 0 (take (m + 1) ps) ≡ mutators_from n 0 (take m ps) ++ Mutator (opening_driver n m p) ∷ []
mutators_more n m ps p here =
    let at : 0 + m ≡ m = omega arith in
    let more : m + 1 ≡ suc m = omega arith in
    ap (λ j. mutators_from n 0 (take j ps)) more ∙ driver_more n 0 m ps p here
    ∙ ap (λ j. mutators_from n 0 (take m ps) ++ Mutator (opening_driver n j p) ∷ []) at

server_more : (n : Numbers) (k s : ℕ)
    → servers_from n k (suc s) ≡ servers_from n k s ++ Server (serving.opening n (k + s)) ∷ []
server_more n k zero =
    let at : k ≡ k + 0 = omega arith in
    ap (λ j. Server (serving.opening n j) ∷ []) at
server_more n k (suc s) =
    let at : k + 1 + s ≡ k + suc s = omega arith in
    ap (λ (vs : List Seat). Server (serving.opening n k) ∷ vs)
    (server_more n (k + 1) s ∙ ap (λ j. servers_from n (k + 1) s ++ Server (serving.opening n j) ∷ []) at)

pub servers_more : (n : Numbers) (s : ℕ)
    → servers_from n 0 (s + 1) ≡ servers_from n 0 s ++ Server (serving.opening n s) ∷ []
servers_more n s =
    let at : 0 + s ≡ s = omega arith in
    let more : s + 1 ≡ suc s = omega arith in
    ap (λ j. servers_from n 0 j) more ∙ server_more n 0 s
    ∙ ap (λ j. servers_from n 0 s ++ Server (serving.opening n j) ∷ []) at

-- each index of a list has an element
pub some_at : {A : Type 0} (xs : List A) (i : ℕ) → i < length xs → (x : A) × (slice_get xs i ≡ Some x)
some_at [] i low = absurd (omega arith)
some_at (x ∷ xs) zero low = (x, refl)
some_at (x ∷ xs) (suc i) low = some_at xs i (omega arith)

last_is : {A : Type 0} (xs : List A) (x : A) → slice_get (xs ++ x ∷ []) (length xs) ≡ Some x
last_is [] x = refl
last_is (y ∷ xs) x = last_is xs x

last_cycles : (seats : List Seat) (x : Seat) → cycles_in (seats ++ x ∷ []) ≡ cycles_kept (Some x)
last_cycles seats x =
    let many = length_push seats x in
    let at : length (seats ++ x ∷ []) - 1 ≡ length seats = omega (arith, many) in
    ap (λ j. cycles_kept (slice_get (seats ++ x ∷ []) j)) at ∙ ap cycles_kept (last_is seats x)

pub seats_are : (s : ScriptView)
    → (mutators_from s.numbers 0 s.programs ++ servers_from s.numbers 0 s.numbers.servers) ++ Collector
    (collecting.opening s) ∷ [] ≡ opening_seats s
seats_are s = append_assoc (mutators_from s.numbers 0 s.programs) (servers_from s.numbers 0 s.numbers.servers)
    (Collector (collecting.opening s) ∷ [])

no_cycles : (s : ScriptView) → cycles_in (opening_seats s) ≡ []
no_cycles s =
    ap cycles_in (sym (seats_are s))
    ∙ last_cycles (mutators_from s.numbers 0 s.programs ++ servers_from s.numbers 0 s.numbers.servers)
    (Collector (collecting.opening s))

-- ---- the whole

pub opening_is : (s : ScriptView) (ws : List ℕ) (seats : List Seat) (points : List Point)
    → ws ≡ words_at_start s.numbers s.board → seats ≡ opening_seats s → points ≡ [] →
    (core_view s ws seats points).state ≡ opening_core s
opening_is s ws seats points words_are seats_are none =
    let finished = ap cycles_in seats_are ∙ no_cycles s in
    λ k. record { words = words_are k; seats = seats_are k; front = record { history = none k; finished = finished k } }

pub opened : (s now : ScriptView) (st : CoreState) → s ≡ now → st ≡ opening_core now → IsProper now
    → SeatsStand s.numbers (facts_of s) st
opened s now st same is proper =
    subst (λ (t : ScriptView). SeatsStand t.numbers (facts_of t) st) (sym same)
    (subst (SeatsStand now.numbers (facts_of now)) (sym is) (openings_stand now proper))
