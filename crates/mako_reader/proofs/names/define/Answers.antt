use Rattle.std.proofs.Common.{◌≡◌, ◌∷◌, [], ◌++◌, false, inr, map, ap, ◌∙◌, arith}
use Rattle.std.specs.Prelude.{string_bytes, is_some}
use Rattle.std.proofs.lemmas.List.{length-map, map_push}
use Rattle.mako_text.specs.Names.{texts}
use Rattle.mako_reader.specs.Commands.{place_at}
use Rattle.mako_reader.proofs.NameLists.{insert_new, no_some}
use Rattle.mako_reader.proofs.names.define.Goals as goal

pub returns : goal.returns
returns c =
    let names = c.args.names.now in
    let key = c.in_ok-from_str.field-0 in
    let none : is_some (place_at (texts names) c.args.name.now) ≡ false = cc in
    let same : string_bytes key ≡ c.args.name.now = c.in_ok-from_str.ensures.ok in
    let absent = rw (← same) at none in
    let keys = c.in_ok-insert.ensures.keys ∙ insert_new names key absent in
    let after : texts c.insert.new.self ≡ texts names ++ c.args.name.now ∷ [] = ap (map string_bytes) keys
    ∙ map_push string_bytes names.keys key ∙ ap (λ w. texts names ++ w ∷ []) same in
    inr (
      no_some (place_at (texts names) c.args.name.now) none,
      omega
          (arith, length-map names.keys string_bytes, c.len.ensures.len),
      after,
    )
