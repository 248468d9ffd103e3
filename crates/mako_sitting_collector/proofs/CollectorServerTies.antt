-- A server that is laden in the order of the phases works, or takes a word: both facets are of its machine.
use Rattle.std.proofs.Common.{◌≡◌, ℕ, ◌+◌, ◌<◌, ◌≤◌, ◌⊎◌, ◌||◌, inl, inr, Bool, true, false, List, length, slice_get}
use Rattle.std.proofs.Common.{Some, sym, ap, subst, refl, ◌∙◌, arith}
use Rattle.std.proofs.lemmas.Option.{slice_get_cases}
use Rattle.mako_shape.specs.declared.numbers.Numbers.{Numbers}
use Rattle.mako_model.specs.Legal.{Facts}
use Rattle.mako_ring.specs.Facets as rings
use Rattle.mako_phases.specs.Facets.{PhaseFacet, ServerStage, serving, mutating, collecting, role_of, server}
use Rattle.mako_joint.specs.Joints.{JointScene}
use Rattle.mako_seat.specs.declared.seat.Seat.{Seat}
use Rattle.mako_seat.specs.declared.seat.Seat.TheVariants.{Mutator, Server, Collector}
use Rattle.mako_state.proofs.Seating.{map_at}
use Rattle.mako_tracing.specs.ServerFacets.{is_taking, is_laden, server_phase}
use Rattle.mako_collecting.specs.Ties.{TakesWord, ServersAreTied}
use Rattle.mako_sitting.specs.Seats.{MutatorSits, ServerSits, CollectorSits, AllSit}

-- what it does takes a word
taking_is : (d : rings.Doing) → is_taking d ≡ true → TakesWord d
taking_is rings.resting e = absurd (let b : ⊥ = cc in b)
taking_is (rings.sending r) e = absurd (let b : ⊥ = cc in b)
taking_is (rings.storing r) e = absurd (let b : ⊥ = cc in b)
taking_is (rings.taking source word) e = tt
taking_is (rings.clearing source word) e = tt

laden_by : (working : Bool) (d : rings.Doing) → (working || is_taking d) ≡ true → (working ≡ true) ⊎ TakesWord d
laden_by true d e = inl refl
laden_by false d e = inr (taking_is d e)

abbrev laden_of : PhaseFacet → Bool
laden_of (mutating admission) = false
laden_of (serving i stage ended laden) = laden
laden_of (collecting part pending) = false

module _ (n : Numbers) (w : Facts) (s : JointScene) (seats : List Seat) (a : AllSit n w s seats) where
  abbrev Tied : ℕ → Type 0
  Tied i = ((s.facets.servers i).working ≡ true) ⊎ TakesWord (s.facets.servers i).doing

  tied_at : (i : ℕ) (f : rings.ServerFacet) → s.facets.servers i ≡ f → is_laden f ≡ true → Tied i
  tied_at i f same laden =
      subst (λ (g : rings.ServerFacet). (g.working ≡ true) ⊎ TakesWord g.doing) (sym same)
      (laden_by f.working f.doing laden)

  found : (seat i : ℕ) (stage : ServerStage) (ended : ℕ) → i < n.servers
      → slice_get s.facets.phases seat ≡ Some (serving i stage ended true)
      → (v : Seat) → slice_get seats (n.mutators + i) ≡ Some v → Tied i
  found seat i stage ended low is (Mutator d) here =
      let sits : MutatorSits n w s (a.places (n.mutators + i)) (n.mutators + i) d =
      a.each (n.mutators + i) (Mutator d) here in
      let below : n.mutators + i < n.mutators = sits.keeps.in_range in absurd (omega arith)
  found seat i stage ended low is (Server v) here =
      let sits : ServerSits n w s (a.taker v.tracer.server) (n.mutators + i) v =
      a.each (n.mutators + i) (Server v) here in
      let number : n.mutators + i ≡ n.mutators + v.tracer.server = sits.number in
      let same : v.tracer.server ≡ i = omega arith in
      let one : n.mutators + i ≡ seat = a.joint.order.seated.servers i (n.mutators + i) seat
      (map_at role_of s.facets.phases (n.mutators + i) (server_phase v) sits.here.phase
      ∙ ap (λ j. Some (server j)) same)
      (map_at role_of s.facets.phases seat (serving i stage ended true) is) in
      let facet : server_phase v ≡ serving i stage ended true =
      (let b = sym sits.here.phase ∙ ap (slice_get s.facets.phases) one ∙ is in cc) in
      tied_at i (s.facets.servers i) refl
      (ap is_laden (ap s.facets.servers (sym same) ∙ sits.here.serving) ∙ ap laden_of facet)
  found seat i stage ended low is (Collector c) here =
      let sits : CollectorSits n w s a.taker a.places (n.mutators + i) c =
      a.each (n.mutators + i) (Collector c) here in
      let number : n.mutators + i ≡ n.mutators + n.servers = sits.number in absurd (omega arith)

  pub servers_tied : ServersAreTied s.facets.phases s.facets.servers
  servers_tied seat i stage ended is =
      let low : i < n.servers = (a.joint.order.each seat (serving i stage ended true) is).known in
      let count = a.count in
      elim ((slice_get_cases seats (n.mutators + i)).1) [
        | inl e ↦ found seat i stage ended low is e.0 e.2
        | inr e ↦ let past : length seats ≤ n.mutators + i = e.0 in absurd (omega arith)
      ]
