-- The size of an object never changes.
use Rattle.std.proofs.Common.{◌≡◌, ℕ, ◌+◌, List, [], ◌∷◌, ◌++◌, ⊎_elim, Contains, length, length-set, set, Some}
use Rattle.std.proofs.Common.{append_assoc, append-nil, sym, ap, subst, refl, ◌∙◌}
use Rattle.std.proofs.lemmas.Option.{same_Some, none-some}
use Rattle.mako_words.specs.declared.name.Name.{Name}
use Rattle.mako_words.specs.declared.value.Value.{Value}
use Rattle.mako_model.specs.declared.point.Point.{Point}
use Rattle.mako_model.specs.Heaps.{Heap, fields_of, with_fields}
use Rattle.mako_model.specs.Lawful.{IsLawful, heap_after}
use Rattle.mako_model.specs.Legal.{Facts, state_of, IsLegal}
use Rattle.mako_model.specs.Dead.{made_by, names_made}
use Rattle.mako_model.proofs.Closed.{made_are_objects}
use Rattle.mako_model.proofs.Histories.{legal_at, legal_prefix, state_push}
use Rattle.mako_model.proofs.Lookups.{name_cases, fields_same, fields_other}
use Rattle.mako_model.proofs.Changes.{Change, Nothing, Snapped, Rooted, Written, New, change_of}
use Rattle.mako_phases.specs.Lives.{sized, record_size}

-- objects keep their numbers of fields
abbrev SizesStay : Heap → Heap → Type 0
SizesStay h after = (x : Name) (fields : List Value) → fields_of h x ≡ Some fields
    → (more : List Value) × (fields_of after x ≡ Some more) × (length more ≡ length fields)

sizes_changed : (h after : Heap) (made : List Name) → Change h after made → SizesStay h after
sizes_changed h after made (Nothing e none) x fields is =
    (fields, ap (λ (g : Heap). fields_of g x) e ∙ is, refl)
sizes_changed h after made (Snapped e none) x fields is =
    (fields, ap (λ (g : Heap). fields_of g x) e ∙ is, refl)
sizes_changed h after made (Rooted m q v root at e none) x fields is =
    (fields, ap (λ (g : Heap). fields_of g x) e ∙ is, refl)
sizes_changed h after made (Written m q name old i v refers at e none) x fields is =
    ⊎_elim
    (λ t. (
      set old i v,
      ap (λ (g : Heap). fields_of g x) e ∙ ap (fields_of (with_fields h name (set old i v))) t.0
          ∙ fields_same h name (set old i v),
      length-set old i v
          ∙ ap (length {A = Value}) (same_Some old fields (sym refers.fields_are ∙ ap (fields_of h) (sym t.0) ∙ is)),
    ))
    (λ t. (fields, ap (λ (g : Heap). fields_of g x) e ∙ fields_other h name (set old i v) x t.0 ∙ is, refl))
    (name_cases x name)
sizes_changed h after made (New m q name count root fresh e one) x fields is =
    ⊎_elim
    (λ t. absurd (none-some fields (sym fresh ∙ ap (fields_of h) (sym t.0) ∙ is)))
    (λ t. (fields, ap (λ (g : Heap). fields_of g x) e ∙ fields_other h name _ x t.0 ∙ is, refl))
    (name_cases x name)

-- a lawful point changes the size of no object
sizes_stay : (w : Facts) (history : List Point) (p : Point) → IsLawful (state_of w history) p
    → SizesStay (state_of w history) (state_of w (history ++ p ∷ []))
sizes_stay w history p lawful =
    subst (SizesStay (state_of w history)) (sym (state_push w history p))
    (sizes_changed (state_of w history) (heap_after (state_of w history) p) (made_by p)
    (change_of (state_of w history) p lawful))

along : (w : Facts) (front rest : List Point) → IsLegal w (front ++ rest) → (x : Name) (fields : List Value)
    → fields_of (state_of w front) x ≡ Some fields
    → (more : List Value) × (fields_of (state_of w (front ++ rest)) x ≡ Some more) × (length more ≡ length fields)
along w front [] legal x fields is =
    (fields, ap (λ (ps : List Point). fields_of (state_of w ps) x) (append-nil front) ∙ is, refl)
along w front (p ∷ rest) legal x fields is =
    let next = sizes_stay w front p (legal_at w front p rest legal) x fields is in
    let whole : (front ++ p ∷ []) ++ rest ≡ front ++ p ∷ rest = append_assoc front (p ∷ []) rest in
    let later = along w (front ++ p ∷ []) rest (subst (IsLegal w) (sym whole) legal) x next.0 next.1 in
    (later.0, ap (λ (ps : List Point). fields_of (state_of w ps) x) (sym whole) ∙ later.1, later.2 ∙ next.2)

pub sizes_those : (w : Facts) (before after : List Point) → IsLegal w (before ++ after) → (x : Name)
    → Contains (names_made before) x
    → record_size (state_of w (before ++ after)) x ≡ record_size (state_of w before) x
sizes_those w before after legal x made =
    let has = (made_are_objects w before (legal_prefix w before after legal) x).0 made in
    let more = along w before after legal x has.0 has.1 in
    ap sized more.1 ∙ ap (λ (k : ℕ). k + 1) more.2 ∙ sym (ap sized has.1)
