use Rattle.std.proofs.Common.{◌≡◌, ◌-◌, ◌<◌, ℕ, length, slice_get, Some, sym, ap, refl, ◌∙◌, arith}
use Rattle.std.proofs.lemmas.Option.{slice_get_read, same_Some}
use Rattle.mako_script.specs.ScriptFacts.{facts_of}
use Rattle.mako_core.specs.Cores.{CoreView, cycles_kept}
use Rattle.mako_core.proofs.Finishing.{count, last_collector}
use Rattle.mako_core.proofs.core_state.Core.cycles.Goals as goal

pub unreachable-requires : goal.unreachable-requires
unreachable-requires g c =
    let in_ = c.self.inside in
    let v = c.index.result.now in
    let len : c.len-last.result ≡ length in_.seats.items = omega (arith, c.len-last.ensures, in_.seats.ok.0) in
    let many = count in_.script.value.numbers (facts_of in_.script.value) _ c.self.invariant.stands in
    let low : c.len-last.result - 1 < length in_.seats.items = omega (arith, len, many) in
    let here = slice_get_read in_.seats.items (length in_.seats.items)
    (c.len-last.result - 1) v refl low c.index.ensures in
    let last = last_collector in_.script.value.numbers (facts_of in_.script.value) _ c.self.invariant.stands in
    c.in_default.not-Collector last.collector (same_Some v _ (sym here
    ∙ ap (λ (k : ℕ). slice_get in_.seats.items (k - 1)) len ∙ last.last))

pub returns : goal.returns
returns g c =
    let in_ = c.self.inside in
    let v = c.index.result.now in
    let len : c.len-last.result ≡ length in_.seats.items = omega (arith, c.len-last.ensures, in_.seats.ok.0) in
    let many = count in_.script.value.numbers (facts_of in_.script.value) _ c.self.invariant.stands in
    let low : c.len-last.result - 1 < length in_.seats.items = omega (arith, len, many) in
    let here = slice_get_read in_.seats.items (length in_.seats.items)
    (c.len-last.result - 1) v refl low c.index.ensures in
    ap (λ l. l.lists) c.cycles.ensures
    ∙ sym (ap cycles_kept (ap (λ (k : ℕ). slice_get in_.seats.items (k - 1)) (sym len) ∙ here
    ∙ ap (λ x. Some x) c.in-Collector.is))
    ∙ ap (λ (q : CoreView). q.state.front.finished) c.self.view_is
