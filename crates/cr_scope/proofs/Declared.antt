-- How a declaration enters the list, and which clash with it.
use Rattle.std.proofs.Common.{◌≡◌, ℕ, zero, suc, ◌+◌, ◌<◌, ◌≤◌, Bool, true, false, cond, not, ◌&&◌, ◌||◌, Option, Some, None, List, [], ◌∷◌, ◌++◌, length, get_or, take, drop, ltb, map, refl, sym, ◌∙◌, ap, subst, arith}
use Rattle.std.specs.Prelude.{slice_get, nat_lt, position, option_map, IfSome}
use Rattle.std.specs.List.{AllByRecursion, list_any, position_or_len}
use Rattle.std.proofs.lemmas.List.{map-append}
use Rattle.std.proofs.lemmas.List.Elements.{recursion_from_All, All-push}
use Rattle.cr_base.specs.declared.Name.{Name}
use Rattle.cr_scope.specs.declared.Space.{Space}
use Rattle.cr_scope.specs.declared.Space.TheVariants as space
use Rattle.cr_scope.specs.declared.Decl.{Decl}
use Rattle.cr_scope.specs.declared.Kept.{Kept}
use Rattle.cr_scope.specs.Declarations.{Entry, deeper, last_deepest, path_for, declared, is_prefix, same_space, same_name, depth_seen}
use Rattle.cr_scope.specs.Linkage.{is_linked, linked}
use Rattle.cr_scope.specs.Redeclaration.{may_repeat, are_opposite, clashes, is_redeclared}
use Rattle.cr_scope.specs.Kept.{path_at, paths_of, entry_of, flat_of, IsKept, stands, found_at, scope_for, clashes_kept, is_linked_kept, depths_seen}
use Rattle.cr_scope.proofs.Paths.{path_first, same_scope, stands_is}

module _ (P D Q : List ℕ) (cur : ℕ) (E : List Kept) (ok : IsKept P D Q cur E) where
  abbrev pub ps : List (List ℕ)
  ps = paths_of P

  pub scope_is : (s : Space) → (path_at ps (scope_for Q cur s) ≡ path_for Q s) × (scope_for Q cur s < length D)
  scope_is space.Label =
      let n : length D ≡ 1 + length P = ok.count in
      let c : cur < length D = ok.entered in
      let f : (path_at ps (get_or (path_at ps cur) 0 0) ≡ take 1 (path_at ps cur)) × (get_or (path_at ps cur) 0 0 ≤ cur) = path_first P ok.earlier (suc cur) cur (omega arith) (omega arith) in
      let F : List ℕ → Type 0 = λ q. (path_at ps (get_or q 0 0) ≡ take 1 q) × (get_or q 0 0 ≤ cur) in
      let g : (path_at ps (get_or Q 0 0) ≡ take 1 Q) × (get_or Q 0 0 ≤ cur) = subst F ok.path f in
      (g.0, omega (arith, g.1))
  scope_is space.Tag = (ok.path, ok.entered)
  scope_is space.Ordinary = (ok.path, ok.entered)

  pub declared_kept : (k : Kept) → k.scope < length D → IsKept P D Q cur (E ++ k ∷ [])
  declared_kept k h = record {
    earlier = ok.earlier;
    count = ok.count;
    depth = ok.depth;
    entered = ok.entered;
    path = ok.path;
    within = All-push (λ k. k.scope < length D) E k ok.within h;
  }

  pub declared_flat : (d : Decl) → flat_of P Q (E ++ record { scope = scope_for Q cur d.space; decl = d } ∷ []) ≡ declared (flat_of P Q E) d
  declared_flat d =
      let k : Kept = record { scope = scope_for Q cur d.space; decl = d } in
      ap (λ es. record { scopes = ps; present = Q; entries = es })
      (map-append (entry_of ps) E (k ∷ []) ∙ ap (λ p. map (entry_of ps) E ++ record { path = p; decl = d } ∷ []) (scope_is d.space).0)

  pub clash_is : (s : ℕ) (d : Decl) (k : Kept) → s < length D → k.scope < length D → clashes_kept s d k ≡ clashes (record { path = path_at ps s; decl = d }) (entry_of ps k)
  clash_is s d k hs hk =
      let n : length D ≡ 1 + length P = ok.count in
      ap (λ b. same_name d.name k.decl.name && ((b && (same_space d.space k.decl.space && not (may_repeat d k.decl))) || are_opposite d.linkage k.decl.linkage))
      (sym (same_scope P ok.earlier s k.scope (omega arith) (omega arith)))

  pub clashes_are : (s : ℕ) (d : Decl) → s < length D → (es : List Kept) → AllByRecursion (λ k. k.scope < length D) es → list_any (clashes_kept s d) es ≡ list_any (clashes (record { path = path_at ps s; decl = d })) (map (entry_of ps) es)
  clashes_are s d hs [] w = refl
  clashes_are s d hs (k ∷ es) w =
      ap (λ b. b || list_any (clashes_kept s d) es) (clash_is s d k hs w.0)
      ∙ ap (λ b. clashes (record { path = path_at ps s; decl = d }) (entry_of ps k) || b) (clashes_are s d hs es w.1)

  pub redeclared_is : (d : Decl) (s : ℕ) → s ≡ scope_for Q cur d.space → list_any (clashes_kept s d) E ≡ is_redeclared (flat_of P Q E) d
  redeclared_is d s e =
      ap (λ z. list_any (clashes_kept z d) E) e
      ∙ clashes_are (scope_for Q cur d.space) d (scope_is d.space).1 E (recursion_from_All (λ k. k.scope < length D) E ok.within)
      ∙ ap (λ p. list_any (clashes (record { path = p; decl = d })) (map (entry_of ps) E)) (scope_is d.space).0

  pub found_is : (s : Space) (name : Name) (k : Kept) → k.scope < length D → found_at D Q s name k ≡ depth_seen Q s name (entry_of ps k)
  found_is s name k h =
      let n : length D ≡ 1 + length P = ok.count in
      let c : cur < length D = ok.entered in
      let F : List ℕ → Type 0 = λ q. stands D q k.scope ≡ is_prefix (path_at ps k.scope) q in
      let st : stands D Q k.scope ≡ is_prefix (path_at ps k.scope) Q = subst F ok.path (stands_is P ok.earlier D cur k.scope (omega arith) (omega arith) (ok.depth k.scope h)) in
      ap (λ b. cond (b && (same_space k.decl.space s && same_name k.decl.name name)) (Some (get_or D k.scope 0)) None) st
      ∙ ap (λ d. cond (is_prefix (path_at ps k.scope) Q && (same_space k.decl.space s && same_name k.decl.name name)) (Some d) None) (ok.depth k.scope h)

  pub seen_in : (s : Space) (name : Name) (es : List Kept) → AllByRecursion (λ k. k.scope < length D) es → (i : ℕ) (k : Kept) → slice_get es i ≡ Some k → slice_get (map (depth_seen Q s name) (map (entry_of ps) es)) i ≡ Some (found_at D Q s name k)
  seen_in s name [] w i k h = cc
  seen_in s name (x ∷ es) w zero k h =
      let e : x ≡ k = cc in
      ap Some (sym (found_is s name x w.0) ∙ ap (found_at D Q s name) e)
  seen_in s name (x ∷ es) w (suc i) k h = seen_in s name es w.1 i k h

  -- the depth of a kept declaration, where it is seen
  pub seen_is : (s : Space) (name : Name) (i : ℕ) (k : Kept) → slice_get E i ≡ Some k → slice_get (depths_seen (flat_of P Q E) s name) i ≡ Some (found_at D Q s name k)
  seen_is s name i k h = seen_in s name E (recursion_from_All (λ k. k.scope < length D) E ok.within) i k h

  -- the same at equal lists
  pub redeclared_from : (d : Decl) (q : List ℕ) (es : List Kept) (s : ℕ) → q ≡ Q → es ≡ E → s ≡ scope_for q cur d.space → list_any (clashes_kept s d) es ≡ is_redeclared (flat_of P Q E) d
  redeclared_from d q es s eq ee e =
      ap (λ z. list_any (clashes_kept s d) z) ee ∙ redeclared_is d s (e ∙ ap (λ z. scope_for z cur d.space) eq)

  pub scope_from : (s : Space) (q : List ℕ) (n : ℕ) → q ≡ Q → n ≡ scope_for q cur s → n ≡ scope_for Q cur s
  scope_from s q n eq e = e ∙ ap (λ z. scope_for z cur s) eq

  pub declared_from : (d : Decl) (q : List ℕ) (es : List Kept) (s : ℕ) → q ≡ Q → s ≡ scope_for q cur d.space → es ≡ E ++ record { scope = s; decl = d } ∷ [] → IsKept P D Q cur es × (flat_of P Q es ≡ declared (flat_of P Q E) d)
  declared_from d q es s eq e ee =
      let at : s ≡ scope_for Q cur d.space = scope_from d.space q s eq e in
      let all : es ≡ E ++ record { scope = scope_for Q cur d.space; decl = d } ∷ [] = ee ∙ ap (λ z. E ++ record { scope = z; decl = d } ∷ []) at in (
        subst (λ z. IsKept P D Q cur z) (sym all) (declared_kept (record { scope = scope_for Q cur d.space; decl = d }) (scope_is d.space).1),
        ap (λ z. flat_of P Q z) all ∙ declared_flat d,
      )

  pub seen_from : (s : Space) (name : Name) (i : ℕ) (k : Kept) (ds q : List ℕ) (r : Option ℕ) → slice_get E i ≡ Some k → ds ≡ D → q ≡ Q → r ≡ found_at ds q s name k → slice_get (depths_seen (flat_of P Q E) s name) i ≡ Some r
  seen_from s name i k ds q r at ed eq e =
      seen_is s name i k at ∙ ap Some (sym (e ∙ ap (λ z. found_at z q s name k) ed ∙ ap (λ z. found_at D z s name k) eq))

pub position_or_len-map : {A B : Type 0} (f : A → B) (p : B → Bool) (xs : List A) → position_or_len p (map f xs) ≡ position_or_len (λ x. p (f x)) xs
position_or_len-map f p [] = refl
position_or_len-map f p (x ∷ xs) = ap (λ n. cond (not (p (f x))) (1 + n) 0) (position_or_len-map f p xs)

pub length-map : {A B : Type 0} (f : A → B) (xs : List A) → length (map f xs) ≡ length xs
length-map f [] = refl
length-map f (x ∷ xs) = ap suc (length-map f xs)

pub linked_is : (ps : List (List ℕ)) (name : Name) (es : List Kept) → position (is_linked_kept name) es ≡ linked name (map (entry_of ps) es)
linked_is ps name es =
    let p : Entry → Bool = λ e. is_linked e && same_name e.decl.name name in
    let a : position_or_len p (map (entry_of ps) es) ≡ position_or_len (is_linked_kept name) es = position_or_len-map (entry_of ps) p es in
    let b : length (map (entry_of ps) es) ≡ length es = length-map (entry_of ps) es in
    ap (λ n. cond (nat_lt n (length es)) (Some n) None) (sym a)
    ∙ ap (λ m. cond (nat_lt (position_or_len p (map (entry_of ps) es)) m) (Some (position_or_len p (map (entry_of ps) es))) None) (sym b)

-- one more element of what is left of a list
pub drop_at : {A : Type 0} (xs : List A) (i : ℕ) (x : A) → slice_get xs i ≡ Some x → drop i xs ≡ x ∷ drop (i + 1) xs
drop_at [] i x h = cc
drop_at (y ∷ xs) zero x h = let e : y ≡ x = cc in ap (λ z. z ∷ xs) e
drop_at (y ∷ xs) (suc i) x h =
    let e : suc i + 1 ≡ suc (i + 1) = omega arith in
    drop_at xs i x h ∙ ap (λ n. x ∷ drop n (y ∷ xs)) (sym e)

-- the number that is kept as the best is within the list
pub best_within : (n m : ℕ) (d : Option ℕ) (r : Option (ℕ × ℕ)) → n < m → IfSome r (λ b. b.0 < m) → IfSome (deeper (option_map (λ x. (n, x)) d) r) (λ b. b.0 < m)
best_within n m None r h g = g
best_within n m (Some d) None h g = h
best_within n m (Some d) (Some b) h g = by (ltb b.1 d)
  where
    by : (t : Bool) → IfSome (cond t (Some (n, d)) (Some b)) (λ b. b.0 < m)
    by true = h
    by false = g

pub lookup_step : (cs : List (Option ℕ)) (i j : ℕ) (d : Option ℕ) (best new : Option (ℕ × ℕ)) → j + 1 ≡ i → slice_get cs j ≡ Some d → best ≡ last_deepest i (drop i cs) → new ≡ deeper (option_map (λ x. (j, x)) d) best → new ≡ last_deepest j (drop j cs)
lookup_step cs i j d best new e at b n =
    n ∙ ap (deeper (option_map (λ x. (j, x)) d)) (b ∙ ap (λ m. last_deepest m (drop m cs)) (sym e)) ∙ ap (last_deepest j) (sym (drop_at cs j d at))
