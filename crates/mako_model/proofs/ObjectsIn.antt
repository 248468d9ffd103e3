-- What the map that the entries give has at a name.
use Rattle.std.proofs.Common.{◌≡◌, Bool, true, false, cond, List, [], ◌∷◌, map, option_map, Option, Some, None, Vec}
use Rattle.std.proofs.Common.{Global, sym, ap, refl, ◌∙◌}
use Rattle.std.specs.BTreeMap.{is_at}
use Rattle.std.specs.FinMap as finite
use Rattle.std.specs.Map.{lookup}
use Rattle.std.specs.Ordering.{eq_by_cmp}
use Rattle.std.proofs.lemmas.Cmp.{eq_by_cmp_equiv}
use Rattle.std.proofs.lemmas.Option.{same_Some, none-some}
use Rattle.mako_words.specs.declared.name.Name.{Name}
use Rattle.mako_words.specs.declared.value.Value.{Value}
use Rattle.mako_words.specs.Names.{name_cmp}
use Rattle.mako_words.proofs.NamesInOrder.{exact_names, names_total}
use Rattle.mako_model.specs.Immortals.{objects_in}

abbrev Entries : Type 0
Entries = List (Name × Vec Value Global)

-- the fields of a name among the entries
abbrev pub fields_in : Entries → Name → Option (List Value)
fields_in es q = option_map (λ v. v.items) (lookup (is_at (name_cmp q)) es)

found_of_cond : (b : Bool) (v : Vec Value Global) (o : Option (Vec Value Global))
    → cond b (Some v.items) (option_map (λ u. u.items) o) ≡ option_map (λ u. u.items) (cond b (Some v) o)
found_of_cond true v o = refl
found_of_cond false v o = refl

find_in : (es : Entries) (q : Name)
    → finite.find name_cmp q (map (λ (e : Name × Vec Value Global). (e.0, e.1.items)) es) ≡ fields_in es q
find_in [] q = refl
find_in (e ∷ es) q =
    ap (cond (eq_by_cmp name_cmp q e.0) (Some e.1.items)) (find_in es q)
    ∙ found_of_cond (eq_by_cmp name_cmp q e.0) e.1 (lookup (is_at (name_cmp q)) es)

pub get_in : (es : Entries) (q : Name) → finite.get (objects_in es) q ≡ fields_in es q
get_in es q = finite.get-from_entries names_total _ q ∙ find_in es q

-- entries that differ at one name give maps that differ there
pub one_changed : (es fs : Entries) (x : Name) (fields : List Value)
    → ((q : Name) → fields_in fs q ≡ cond (is_at (name_cmp x) q) (Some fields) (fields_in es q))
    → objects_in fs ≡ finite.insert (objects_in es) x fields
one_changed es fs x fields h = finite.same_map names_total exact_names _ _ (λ q.
    get_in fs q ∙ h q ∙ ap (λ b. cond b (Some fields) (fields_in es q)) ((eq_by_cmp_equiv names_total).symm x q)
    ∙ sym (finite.get-insert names_total (objects_in es) x fields q
    ∙ ap (cond (eq_by_cmp name_cmp q x) (Some fields)) (get_in es q)))

-- the same, of what the map says after a change
pub one_updated : (es fs : Entries) (x : Name) (v : Vec Value Global)
    → ((q : Name) → lookup (is_at (name_cmp q)) fs ≡ cond (is_at (name_cmp x) q) (Some v)
    (lookup (is_at (name_cmp q)) es)) → objects_in fs ≡ finite.insert (objects_in es) x v.items
one_updated es fs x v h = one_changed es fs x v.items (λ q.
    ap (option_map (λ u. u.items)) (h q)
    ∙ sym (found_of_cond (is_at (name_cmp x) q) v (lookup (is_at (name_cmp q)) es)))

-- what is found among the entries is what the map has
pub found_items : (es : Entries) (m : finite.FinMap name_cmp (List Value)) (x : Name) (v : Vec Value Global)
    (fields : List Value) → objects_in es ≡ m → Some v ≡ lookup (is_at (name_cmp x)) es → finite.get m x ≡ Some fields
    → v.items ≡ fields
found_items es m x v fields seen found has =
    same_Some v.items fields (ap (option_map (λ u. u.items)) found ∙ sym (get_in es x) ∙ ap (λ o. finite.get o x) seen
    ∙ has)

pub nothing_found : (es : Entries) (m : finite.FinMap name_cmp (List Value)) (x : Name) (fields : List Value)
    → objects_in es ≡ m → None ≡ lookup (is_at (name_cmp x)) es → finite.get m x ≡ Some fields → ⊥
nothing_found es m x fields seen found has =
    none-some fields (ap (option_map (λ u. u.items)) found ∙ sym (get_in es x) ∙ ap (λ o. finite.get o x) seen ∙ has)
