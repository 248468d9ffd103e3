use Rattle.std.proofs.Common.{◌≡◌, ◌+◌, ◌*◌, ◌<◌, ◌≤◌, All, List, length, sum_by, vec_capacity, ap, sym, subst, ◌∙◌}
use Rattle.std.proofs.Common.{arith}
use Rattle.std.specs.VecDeque.{deque_capacity}
use Rattle.std.proofs.lemmas.List.{length-replicate}
use Rattle.std.proofs.lemmas.List.Elements.{All-nil, All-replicate}
use Rattle.mako_words.specs.declared.name.Name.{Name}
use Rattle.mako_shape.specs.declared.numbers.Numbers.{Numbers}
use Rattle.mako_ring.specs.Tracing.{no_window}
use Rattle.mako_ring.specs.Windows.{IsWindow}
use Rattle.mako_poll.specs.Polls as polls
use Rattle.mako_poll.specs.Polls.{PollView}
use Rattle.mako_pause.specs.Keeping.{IsKeptName}
use Rattle.mako_pause.proofs.Openings.{roles_count}
use Rattle.mako_pause.proofs.kept.Kept.new.Goals as goal

pub invariant_of-result : goal.invariant_of-result
invariant_of-result c =
    let n = c.args.shape in
    let same = c.numbers-numbers.ensures.numbers in
    let each = c.numbers-numbers.ensures.shape.in_range.each in
    let ring : 0 < n.ring = omega (arith, each) in
    let servers : 0 < n.servers = omega (arith, each) in
    let P : Name → Type 0 = IsKeptName n in
    let empty : IsWindow n.ring no_window = record { tail_below = ring; ordered = omega arith; few = omega arith } in
    let cycles = c.in_ok-cycles.ensures in
    record {
      known = record {
        shape = c.numbers-numbers.ensures.shape;
        cycle = omega arith;
        pending = subst (All P) (sym c.in-Ok.ensures.items) (All-nil P);
        windows_count = ap length c.in_ok-windows.ensures ∙ length-replicate _ no_window
            ∙ ap (λ (q : Numbers). q.servers) same;
        windows = subst (All (IsWindow n.ring)) (sym c.in_ok-windows.ensures)
            (All-replicate (IsWindow n.ring) _ no_window empty);
        barriers_count = ap length c.in_ok-barrier_at.ensures ∙ length-replicate _ 0
            ∙ ap (λ (q : Numbers). q.mutators) same;
        barriers = subst (All (λ at. at < n.ring)) (sym c.in_ok-barrier_at.ensures)
            (All-replicate (λ at. at < n.ring) _ 0 ring);
        notices_count = ap length c.in_ok-notice_at.ensures ∙ length-replicate _ 0
            ∙ ap (λ (q : Numbers). q.servers) same;
        notices = subst (All (λ at. at < n.ring)) (sym c.in_ok-notice_at.ensures)
            (All-replicate (λ at. at < n.ring) _ 0 ring);
        poll_shape = ap (λ (p : PollView). p.shape) c.new-2.ensures;
        poll = subst (λ (p : PollView). polls.IsKnown n p.stage) (sym c.new-2.ensures) servers;
        chosen = subst (All (λ t. t < n.servers * n.tablets)) (sym c.in-Ok-with_capacity-2.ensures.items)
            (All-nil (λ t. t < n.servers * n.tablets));
        roles = ap length c.in_ok-roles.ensures ∙ roles_count n (n.servers * (n.tablets + n.spare));
        lists = ap length cycles.empty;
        lists_room = cycles.cycles_room ∙ ap (λ (q : Numbers). q.cycles) same;
        names = (let lists : sum_by length c.in_ok-cycles.cycles.lists ≡ 0 =
            ap (λ (l : List (List Name)). sum_by length l) cycles.empty in
            let freed : length c.in-Ok-with_capacity-3.freed.items ≡ 0 =
            ap length c.in-Ok-with_capacity-3.ensures.items in omega (arith, lists, freed));
      };
      pending_room = (let room = c.in-Ok.ensures.exact in
          subst (λ (q : Numbers). q.mutators * q.roots ≤ deque_capacity c.in-Ok.pending) same (omega (arith, room)));
      used_room = (let room = c.in-Ok-with_capacity.ensures.exact in
          subst (λ (q : Numbers). q.tablets ≤ vec_capacity c.in-Ok-with_capacity.used) same (omega (arith, room)));
      chosen_room = (let room = c.in-Ok-with_capacity-2.ensures.exact in
          subst (λ (q : Numbers). q.servers * q.spare ≤ vec_capacity c.in-Ok-with_capacity-2.chosen) same
          (omega (arith, room)));
      freed_room = (let room = c.in-Ok-with_capacity-3.ensures.exact in let names = cycles.names_room in
          omega (arith, room, names));
      chooser_room = c.in_ok-chooser.ensures ∙ ap (λ (q : Numbers). q.tablets) same;
    }
