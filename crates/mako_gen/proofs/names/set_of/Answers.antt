use Rattle.std.proofs.Common.{◌≡◌, ℕ, zero, suc, ◌<◌, List, [], ◌∷◌, ◌++◌, false, refl, ap, sym, ◌∙◌, map, take, get_or}
use Rattle.std.proofs.Common.{string_bytes, Bor, length, arith}
use Rattle.std.specs.Prelude.{is_some}
use Rattle.std.proofs.lemmas.List.{map_push, take_more, get_or-map, length-map}
use Rattle.mako_reader.specs.Commands.{place_at}
use Rattle.mako_reader.proofs.NameLists.{insert_new}
use Rattle.mako_gen.specs.Workloads.{names}
use Rattle.mako_gen.proofs.names.set_of.Goals as goal

-- no name stands among those before it
absent_name : (i : ℕ) (d : List ℕ) → i < 7 → is_some (place_at (take i names) (get_or names i d)) ≡ false
unfolding place_at
absent_name zero d h = refl
absent_name (suc zero) d h = refl
absent_name (suc (suc zero)) d h = refl
absent_name (suc (suc (suc zero))) d h = refl
absent_name (suc (suc (suc (suc zero)))) d h = refl
absent_name (suc (suc (suc (suc (suc zero))))) d h = refl
absent_name (suc (suc (suc (suc (suc (suc zero)))))) d h = refl
absent_name (suc (suc (suc (suc (suc (suc (suc i))))))) d h = absurd (omega arith)

pub loop-text-preserved : goal.loop-text-preserved
loop-text-preserved c =
    let set = c.loop-text.set in
    let i = c.loop-text.text-index in
    let key = c.in_ok-from_str.field-0 in
    let texts = c.args.texts.now in
    let now : Bor (List ℕ) → List ℕ = λ s. s.now in
    let below : i < 7 = omega (arith, ap length c.requires, length-map texts now, c.loop-text-test.true) in
    let text : string_bytes key ≡ get_or names i [] =
    c.in_ok-from_str.ensures.ok
    ∙ sym (get_or-map now texts i (record { ref_ptr = (0, 0); now = [] }) [] c.loop-text-test.true)
    ∙ ap (λ (ts : List (List ℕ)). get_or ts i []) c.requires in
    let absent : is_some (place_at (map string_bytes set.keys) (string_bytes key)) ≡ false =
    rw (c.loop-text.invariant, text) (absent_name i [] below) in
    ap (map string_bytes) (c.in_ok-insert.ensures.keys ∙ insert_new set key absent) ∙ map_push string_bytes set.keys key
    ∙ (λ j. c.loop-text.invariant j ++ text j ∷ []) ∙ sym (take_more names i [] below)
