-- Names freed on their way to the collector, at each kind of step.
use Rattle.std.proofs.Common.{◌≡◌, ℕ, zero, suc, ◌<◌, ◌≤◌, ⊎_elim, List, [], ◌∷◌, ◌++◌, length, flat_map, set}
use Rattle.std.proofs.Common.{slice_get, Some, sym, ap, subst, refl, ◌∙◌, arith, append-nil, append_assoc, length-set}
use Rattle.std.proofs.lemmas.Option.{same_Some, none-some, slice_get_within, slice_get_cases}
use Rattle.mako_words.specs.declared.name.Name.{Name}
use Rattle.mako_model.proofs.Lists.{get_set_cases}
use Rattle.mako_names.specs.Freeing.{Freeing}
use Rattle.mako_names.specs.Notices.{Gathering, names_before, NoticesStand}

before_next : (servers : List Freeing) (s : ℕ) (f : Freeing) → slice_get servers s ≡ Some f
    → names_before (suc s) servers ≡ names_before s servers ++ f.names
before_next [] s f at = absurd (none-some f at)
before_next (g ∷ servers) zero f at = append-nil g.names ∙ ap (λ (h : Freeing). h.names) (same_Some g f at)
before_next (g ∷ servers) (suc s) f at = ap (λ ns. g.names ++ ns) (before_next servers s f at)
    ∙ sym (append_assoc g.names (names_before s servers) f.names)

before_set : (servers : List Freeing) (s k : ℕ) (f : Freeing) → s ≤ k
    → names_before s (set servers k f) ≡ names_before s servers
before_set [] s k f le = refl
before_set (g ∷ servers) zero k f le = refl
before_set (g ∷ servers) (suc s) zero f le = absurd (omega arith)
before_set (g ∷ servers) (suc s) (suc k) f le = ap (λ ns. g.names ++ ns) (before_set servers s k f (omega arith))

set_here : (servers : List Freeing) (s : ℕ) (f g : Freeing) → slice_get servers s ≡ Some f
    → slice_get (set servers s g) s ≡ Some g
set_here [] s f g at = absurd (none-some f at)
set_here (h ∷ servers) zero f g at = refl
set_here (h ∷ servers) (suc s) f g at = set_here servers s f g at

before_all : (servers : List Freeing) (s : ℕ) → length servers ≤ s
    → names_before s servers ≡ flat_map (λ (f : Freeing). f.names) servers
before_all [] zero le = refl
before_all [] (suc s) le = refl
before_all (f ∷ servers) zero le = absurd (omega arith)
before_all (f ∷ servers) (suc s) le = ap (λ ns. f.names ++ ns) (before_all servers s (omega arith))

-- a server that the collector has not passed frees a name
pub notices_free : (servers : List Freeing) (sent : List (List Name)) (collector : Gathering) (s : ℕ)
    (f g : Freeing) (name : Name) (names : List Name) → slice_get servers s ≡ Some f → slice_get sent s ≡ Some names
    → collector.server ≤ s
    → g.names ≡ f.names ++ name ∷ [] → NoticesStand servers sent collector
    → NoticesStand (set servers s g) (set sent s (names ++ name ∷ [])) collector
notices_free servers sent collector s f g name names at here le more stands = record {
  size = length-set sent s (names ++ name ∷ []) ∙ stands.size ∙ sym (length-set servers s g);
  got = λ found is. ⊎_elim
      (λ t.
      let now : slice_get servers collector.server ≡ Some f = subst (λ k. slice_get servers k ≡ Some f) (sym t.0) at in
      let was : collector.names ++ names ≡ names_before (suc collector.server) servers =
      stands.got names (subst (λ k. slice_get sent k ≡ Some names) (sym t.0) here) in
      let set_is : slice_get (set servers s g) collector.server ≡ Some g =
      subst (λ k. slice_get (set servers s g) k ≡ Some g) (sym t.0) (set_here servers s f g at) in
      let low : collector.server ≤ s = le in
      ap (λ ns. collector.names ++ ns) (sym t.1) ∙ sym (append_assoc collector.names names (name ∷ []))
      ∙ ap (λ ns. ns ++ name ∷ []) (was ∙ before_next servers collector.server f now)
      ∙ append_assoc (names_before collector.server servers) f.names (name ∷ [])
      ∙ (λ i. sym (before_set servers collector.server s g low) i ++ sym more i)
      ∙ sym (before_next (set servers s g) collector.server g set_is))
      (λ t. let other = t.0 in
      let low : suc collector.server ≤ s = omega (arith, other) in
      stands.got found t.1 ∙ sym (before_set servers (suc collector.server) s g low))
      (get_set_cases sent s collector.server (names ++ name ∷ []) found is);
  ahead = λ k h found low is sent_is. ⊎_elim
      (λ t. let was : names ≡ f.names = stands.ahead s f names (subst (λ j. collector.server < j) t.0 low) at here in
      sym t.1 ∙ ap (λ ns. ns ++ name ∷ []) was ∙ sym more
      ∙ ap (λ (z : Freeing). z.names)
      (same_Some g h
      (sym (set_here servers s f g at) ∙ subst (λ j. slice_get (set servers s g) j ≡ Some h) t.0 is)))
      (λ t. let other =
      t.0 in ⊎_elim (λ u. absurd (other u.0)) (λ u. stands.ahead k h found low u.1 t.1)
      (get_set_cases servers s k g h is))
      (get_set_cases sent s k (names ++ name ∷ []) found sent_is);
  all = λ done. let l =
      slice_get_within servers s f at in let e : length (set servers s g) ≡ length servers =
      length-set servers s g in absurd (omega arith);
}

-- the collector gets a name from the server that it reads
pub notices_get : (servers : List Freeing) (sent : List (List Name)) (collector : Gathering) (name : Name)
    (names : List Name) → slice_get sent collector.server ≡ Some (name ∷ names)
    → NoticesStand servers sent collector
    → NoticesStand servers (set sent collector.server names)
    (record { server = collector.server; names = collector.names ++ name ∷ [] })
notices_get servers sent collector name names at stands = record {
  size = length-set sent collector.server names ∙ stands.size;
  got = λ found is. ⊎_elim
      (λ t. ap (λ ns. (collector.names ++ name ∷ []) ++ ns) (sym t.1)
      ∙ append_assoc collector.names (name ∷ []) names ∙ stands.got (name ∷ names) at)
      (λ t. absurd (t.0 refl)) (get_set_cases sent collector.server collector.server names found is);
  ahead = λ s f found low is sent_is. ⊎_elim (λ t. let e = t.0 in absurd (omega arith))
      (λ t. stands.ahead s f found low is t.1) (get_set_cases sent collector.server s names found sent_is);
  all = λ done. let l =
      slice_get_within sent collector.server (name ∷ names) at in let e = stands.size in absurd (omega arith);
}

-- and goes on to the next, when it has told its end with nothing sent
pub notices_end : (servers : List Freeing) (sent : List (List Name)) (collector : Gathering)
    → slice_get sent collector.server ≡ Some []
    → NoticesStand servers sent collector
    → NoticesStand servers sent (record { server = suc collector.server; names = collector.names })
notices_end servers sent collector at stands =
    let whole : collector.names ≡ names_before (suc collector.server) servers =
    sym (append-nil collector.names) ∙ stands.got [] at in record {
      size = stands.size;
      got = λ found is.
          let l = slice_get_within sent (suc collector.server) found is in let size = stands.size in
          ⊎_elim
          (λ t. let same : found ≡ t.0.names = stands.ahead (suc collector.server) t.0 found (omega arith) t.2 is in
          (λ i. whole i ++ same i) ∙ sym (before_next servers (suc collector.server) t.0 t.2))
          (λ t. let over = t.0 in absurd (omega arith)) (slice_get_cases servers (suc collector.server)).1;
      ahead = λ s f found low is sent_is. stands.ahead s f found (omega arith) is sent_is;
      all = λ done. whole;
    }

-- at the end it has what all servers have freed, in order
pub notices_all : (servers : List Freeing) (sent : List (List Name)) (collector : Gathering)
    → length servers ≤ collector.server → NoticesStand servers sent collector
    → collector.names ≡ flat_map (λ (f : Freeing). f.names) servers
notices_all servers sent collector done stands = stands.all done ∙ before_all servers collector.server done

-- at the start nothing is freed, sent or got; there is a server
pub notices_start : (servers : List Freeing) (sent : List (List Name)) → length sent ≡ length servers
    → 0 < length servers → ((s : ℕ) (f : Freeing) → slice_get servers s ≡ Some f → f.names ≡ [])
    → ((s : ℕ) (names : List Name) → slice_get sent s ≡ Some names → names ≡ [])
    → NoticesStand servers sent (record { server = 0; names = [] })
notices_start servers sent size some none none_sent = record {
  size = size;
  got = λ names is. ⊎_elim (λ t. none_sent 0 names is ∙ sym (none 0 t.0 t.2) ∙ sym (before_next servers 0 t.0 t.2))
      (λ t. let over = t.0 in absurd (omega arith)) (slice_get_cases servers 0).1;
  ahead = λ s f names low is sent_is. none_sent s names sent_is ∙ sym (none s f is);
  all = λ done. absurd (omega arith);
}

before_same : (servers : List Freeing) (k s : ℕ) (f g : Freeing) → slice_get servers s ≡ Some f → g.names ≡ f.names
    → names_before k (set servers s g) ≡ names_before k servers
before_same [] zero s f g at same = refl
before_same [] (suc k) s f g at same = refl
before_same (h ∷ servers) zero zero f g at same = refl
before_same (h ∷ servers) zero (suc s) f g at same = refl
before_same (h ∷ servers) (suc k) zero f g at same =
    ap (λ ns. ns ++ names_before k servers) (same ∙ sym (ap (λ (z : Freeing). z.names) (same_Some h f at)))
before_same (h ∷ servers) (suc k) (suc s) f g at same = ap (λ ns. h.names ++ ns) (before_same servers k s f g at same)

-- a server goes over an entry that it does not free
pub notices_pass : (servers : List Freeing) (sent : List (List Name)) (collector : Gathering) (s : ℕ)
    (f g : Freeing) → slice_get servers s ≡ Some f → g.names ≡ f.names
    → NoticesStand servers sent collector → NoticesStand (set servers s g) sent collector
notices_pass servers sent collector s f g at same stands = record {
  size = stands.size ∙ sym (length-set servers s g);
  got = λ names is. stands.got names is ∙ sym (before_same servers (suc collector.server) s f g at same);
  ahead = λ k h names low is sent_is. ⊎_elim
      (λ t. stands.ahead s f names (subst (λ j. collector.server < j) t.0 low) at
      (subst (λ j. slice_get sent j ≡ Some names) t.0 sent_is) ∙ sym same ∙ ap (λ (z : Freeing). z.names) t.1)
      (λ t. stands.ahead k h names low t.1 sent_is) (get_set_cases servers s k g h is);
  all = λ done. stands.all
      (let e : length (set servers s g) ≡ length servers = length-set servers s g in omega arith)
      ∙ sym (before_same servers collector.server s f g at same);
}
