-- A point leaves each object its number of fields.
use Rattle.std.proofs.Common.{◌≡◌, ⊎_elim, List, length, set, replicate, Some, None, sym, ap, subst, refl, ◌∙◌}
use Rattle.std.proofs.Common.{length-set}
use Rattle.std.proofs.lemmas.Option.{same_Some, none-some}
use Rattle.mako_words.specs.declared.name.Name.{Name}
use Rattle.mako_words.specs.declared.value.Value.{Value}
use Rattle.mako_words.specs.declared.value.Value.TheVariants as value
use Rattle.mako_model.specs.Heaps.{Heap, fields_of, with_fields}
use Rattle.mako_model.specs.Lawful.{heap_after}
use Rattle.mako_model.specs.Dead.{made_by}
use Rattle.mako_model.proofs.Changes.{Change, Nothing, Snapped, Rooted, Written, New, change_of}
use Rattle.mako_model.proofs.Lookups.{name_cases, fields_same, fields_other}
use Rattle.mako_clearing.specs.Clearing.{KeepsSizes}
use Rattle.mako_clearing.specs.Smallness.{PointsKeepSizes}

-- an object gets as many fields as it had
sizes_with : (h : Heap) (x : Name) (before more : List Value) → fields_of h x ≡ Some before
    → length more ≡ length before → KeepsSizes h (with_fields h x more)
sizes_with h x before more had long name fields are =
    ⊎_elim
    (λ t. let same : before ≡ fields =
    same_Some before fields (sym had ∙ ap (fields_of h) (sym t.0) ∙ are) in (
      more,
      ap (fields_of (with_fields h x more)) t.0 ∙ fields_same h x more,
      long ∙ ap length same,
    ))
    (λ t. (fields, fields_other h x more name t.0 ∙ are, refl)) (name_cases name x)

-- or there was none
sizes_new : (h : Heap) (x : Name) (more : List Value) → fields_of h x ≡ None → KeepsSizes h (with_fields h x more)
sizes_new h x more none name fields are =
    ⊎_elim (λ t. absurd (none-some fields (sym none ∙ ap (fields_of h) (sym t.0) ∙ are)))
    (λ t. (fields, fields_other h x more name t.0 ∙ are, refl)) (name_cases name x)

sizes_stay : (h after : Heap) (made : List Name) → Change h after made → KeepsSizes h after
sizes_stay h after made (Nothing e one) = subst (KeepsSizes h) (sym e) (λ name fields are. (fields, are, refl))
sizes_stay h after made (Snapped e one) = subst (KeepsSizes h) (sym e) (λ name fields are. (fields, are, refl))
sizes_stay h after made (Rooted m q v has at e one) =
    subst (KeepsSizes h) (sym e) (λ name fields are. (fields, are, refl))
sizes_stay h after made (Written m q name fields i v refers at e one) =
    subst (KeepsSizes h) (sym e)
    (sizes_with h name fields (set fields i v) refers.fields_are (length-set fields i v))
sizes_stay h after made (New m q name fields has fresh e one) =
    subst (KeepsSizes h) (sym e) (sizes_new h name (replicate fields value.Null) fresh)

pub points_keep_sizes : PointsKeepSizes
points_keep_sizes h p lawful = sizes_stay h (heap_after h p) (made_by p) (change_of h p lawful)
