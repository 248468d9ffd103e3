use Rattle.std.proofs.Common.{◌≡◌, ◌-◌, ℕ, length, Some, get_or, take, vec_len, sym, ap, ◌∙◌, arith}
use Rattle.std.proofs.lemmas.Option.{slice_get_within, get_or_from_slice_get, same_Some}
use Rattle.mako_core.proofs.replies.take_collector.Goals as goal

pub unreachable-requires : goal.unreachable-requires
unreachable-requires c =
    let items = c.args.seats.now.items in
    let within = slice_get_within items (length items - 1) _ c.requires.last in
    absurd (omega (arith, within, c.in_default.ensures.cases.0, c.args.seats.now.ok.0))

pub unreachable-requires-in_default-last : goal.unreachable-requires-in_default-last
unreachable-requires-in_default-last c =
    let items = c.args.seats.now.items in
    let d = c.in-Some.last in
    let within = slice_get_within items (length items - 1) _ c.requires.last in
    let len : vec_len c.args.seats.now ≡ length items = omega (arith, c.args.seats.now.ok.0) in
    let at = same_Some d _ (c.in-Some.ensures.value d (omega (arith, within, len)))
    ∙ ap (λ (k : ℕ). get_or items (k - 1) d) len
    ∙ get_or_from_slice_get items (length items - 1) _ d c.requires.last in
    c.in_default-last.not-Collector c.requires.collector at

pub returns-clause-collector : goal.returns-clause-collector
returns-clause-collector c =
    let items = c.args.seats.now.items in
    let d = c.in-Some.last in
    let within = slice_get_within items (length items - 1) _ c.requires.last in
    let len : vec_len c.args.seats.now ≡ length items = omega (arith, c.args.seats.now.ok.0) in
    let at = same_Some d _ (c.in-Some.ensures.value d (omega (arith, within, len)))
    ∙ ap (λ (k : ℕ). get_or items (k - 1) d) len
    ∙ get_or_from_slice_get items (length items - 1) _ d c.requires.last in
    c.requires.last ∙ ap (λ x. Some x) (sym at ∙ c.in-Collector.is)

pub returns-clause-rest : goal.returns-clause-rest
returns-clause-rest c =
    let items = c.args.seats.now.items in
    let len : vec_len c.args.seats.now ≡ length items = omega (arith, c.args.seats.now.ok.0) in
    c.pop.ensures.rest ∙ ap (λ (k : ℕ). take (k - 1) items) len
