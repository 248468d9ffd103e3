use Rattle.std.proofs.Common.{◌≡◌, ℕ, ◌+◌, ◌*◌, ◌^◌, ◌<◌, ◌≤◌, ◌++◌, List, All, length, map, ap, sym, subst, ◌∙◌, arith}
use Rattle.std.proofs.Math.Nat.{mul-le-mul_right}
use Rattle.std.proofs.lemmas.List.Elements.{All-append, All-map}
use Rattle.mako_shape.specs.declared.numbers.Numbers.{Numbers}
use Rattle.mako_shape.specs.Limits.{IsShape}
use Rattle.mako_pause.specs.Collecting.{Holdings}
use Rattle.mako_pause.proofs.Places.{tablets_below}
use Rattle.mako_pause.proofs.kept.Kept.choose.Goals as goal

-- tablets have small numbers
few_tablets : (n : Numbers) → IsShape n → n.servers * n.tablets ≤ 2048
few_tablets n shape =
    let each = shape.in_range.each in
    let most : n.servers * n.tablets ≤ 8 * n.tablets =
    mul-le-mul_right {m = n.servers} {n = 8} n.tablets (omega (arith, each)) in
    omega (arith, each, most)

small_tablets : (n : Numbers) (s : ℕ) (places : List ℕ) → IsShape n → s < n.servers
    → All (λ place. place < n.tablets) places → All (λ place. s * n.tablets + place < 2 ^ 32) places
small_tablets n s places shape h all k d l = let few = few_tablets n shape in
    let one = tablets_below s n.servers n.tablets places h all k d l in omega (arith, few, one)

pub keep_chosen-requires-clause-few : goal.keep_chosen-requires-clause-few
keep_chosen-requires-clause-few c =
    let n = c.numbers-numbers.result in
    let same = c.numbers-numbers.ensures.numbers in
    let used_is = ap (λ (h : Holdings). length h.used) c.self.view_is in
    let used : length c.args.self.now.used ≡ n.tablets =
    subst (λ (q : Numbers). length c.args.self.now.used ≡ q.tablets) (sym same) c.requires.used in
    let loaded : length c.deref.result.now ≡ n.tablets = ap length c.deref.ensures.value ∙ used_is ∙ used in
    let places : All (λ place. place < n.tablets) c.chosen.result.now =
    subst (λ (l : List ℕ). All (λ place. place < n.tablets) l) (sym c.chosen.ensures) (λ k d l. let one =
    c.select.ensures.places k d l in omega (arith, one, loaded)) in
    small_tablets n c.args.server c.chosen.result.now (subst IsShape (sym same) c.numbers-numbers.ensures.shape)
    (subst (λ (q : Numbers). c.args.server < q.servers) (sym same) c.requires.server) places

pub invariant_of-self : goal.invariant_of-self
invariant_of-self c =
    let n = c.self.inside.shape in
    let known = c.self.invariant.known in
    let same : c.numbers-numbers.result ≡ n = c.numbers-numbers.ensures.numbers
    ∙ sym (ap (λ (h : Holdings). h.shape) c.self.view_is) in
    let server = subst (λ (h : Holdings). c.args.server < h.shape.servers) (sym c.self.view_is) c.requires.server in
    let used = subst (λ (h : Holdings). length h.used ≡ h.shape.tablets) (sym c.self.view_is) c.requires.used in
    let loaded : length c.deref.result.now ≡ n.tablets = ap length c.deref.ensures.value ∙ used in
    let places : All (λ place. place < n.tablets) c.chosen.result.now =
    subst (λ (l : List ℕ). All (λ place. place < n.tablets) l) (sym c.chosen.ensures) (λ k d l. let one =
    c.select.ensures.places k d l in omega (arith, one, loaded)) in
    let P : ℕ → Type 0 = λ t. t < n.servers * n.tablets in
    let more : All P (map (λ place. c.args.server * n.tablets + place) c.chosen.result.now) =
    All-map P (λ place. c.args.server * n.tablets + place) c.chosen.result.now
    (tablets_below c.args.server n.servers n.tablets c.chosen.result.now server places) in
    let items = c.keep_chosen.ensures.chosen
    ∙ ap (λ (q : Numbers). c.self.inside.chosen.items ++ map
    (λ place. c.args.server * q.tablets + place) c.chosen.result.now) same in
    record {
      known = record {
        shape = known.shape;
        cycle = known.cycle;
        pending = known.pending;
        windows_count = known.windows_count;
        windows = known.windows;
        barriers_count = known.barriers_count;
        barriers = known.barriers;
        notices_count = known.notices_count;
        notices = known.notices;
        poll_shape = known.poll_shape;
        poll = known.poll;
        chosen = subst (All P) (sym items) (All-append P c.self.inside.chosen.items _ known.chosen more);
        roles = known.roles;
        lists = known.lists;
        lists_room = known.lists_room;
        names = known.names;
      };
      pending_room = c.self.invariant.pending_room;
      used_room = omega (arith, c.clear.ensures.capacity, c.self.invariant.used_room);
      chosen_room = omega (arith, c.keep_chosen.ensures.capacity, c.self.invariant.chosen_room);
      freed_room = c.self.invariant.freed_room;
      chooser_room = c.select.ensures.room ∙ c.self.invariant.chooser_room;
    }
