-- (c) What collides is told by the least tokens of slots.
use Rattle.std.proofs.Common.{◌≡◌, inl, inr, ℕ, ◌+◌, ◌<◌, ◌≤◌, true, Option, Some, None, List, [], refl, sym, ap, subst, ◌∙◌, arith}
use Rattle.std.specs.Prelude.{slice_get, MatchOption, max}
use Rattle.std.proofs.lemmas.Bool.{cases_lt}
use Rattle.std.proofs.lemmas.Option.{slice_get_within}
use Rattle.cr_base.specs.declared.token.Name.{Name}
use Rattle.cr_scope.specs.Declarations.{Entry, Flat, number}
use Rattle.cr_facts.specs.declared.fact.Fact.{Fact}
use Rattle.cr_facts.specs.declared.fact.Fact.TheVariants as fact
use Rattle.cr_binding.specs.Source.{Source}
use Rattle.cr_binding.specs.State.{Declaration, State}
use Rattle.cr_binding.specs.Keys.{declaration_key}
use Rattle.cr_binding.specs.UnitConflicts.{place_at, scopes_at}
use Rattle.cr_paths.specs.Paths.{path_at}
use Rattle.cr_declared.specs.declared.rows.Row.{Row}
use Rattle.cr_declared.specs.declared.rows.UseRow.{UseRow}
use Rattle.cr_declared.specs.declared.rows.Slot.{Slot}
use Rattle.cr_groups.specs.declared.groups.Group.{Group}
use Rattle.cr_declared.specs.Rows.{slot}
use Rattle.cr_groups.specs.Groups.{find_group}
use Rattle.cr_declared.specs.Rows.{entry_of, is_in}
use Rattle.cr_groups.specs.Rows.{IsOneOf, AreGroups}
use Rattle.cr_groups.proofs.Shown.{Views}
use Rattle.cr_conflicts.specs.Pairs.{IsLeast, AreLeast, named, PairsAdd, IsOfPair}
use Rattle.cr_groups.proofs.Taken.{in_parts, parts_in}
use Rattle.cr_groups.proofs.Seen.{row_of, of_row, declaration_of_row}

max_left : (a b : ℕ) → b ≤ a → max a b ≡ a
max_left a b h = omega (arith, h)

max_right : (a b : ℕ) → a ≤ b → max a b ≡ b
max_right a b h = omega (arith, h)

module _ (unit : ℕ) (t : Source) (s : State) (old new : Name) (ps : List (List ℕ)) (rows : List Row) (uses : List UseRow) (es : List (Slot × Group)) (least : Slot → Option ℕ)
    (shown : Views t s ps rows uses) (groups : AreGroups unit t s old new rows es) (lows : AreLeast old new rows least) where
  -- the scopes at the later one of two declarations
  at_later : ℕ → Flat
  at_later n = scopes_at t s [] (n + 1)

  least_is : (a : Slot) (m : ℕ) → IsOneOf old new a.name → least a ≡ Some m → IsLeast rows a m
  least_is a m one h = subst (λ z. MatchOption z ((j : ℕ) (x : Row) → slice_get rows j ≡ Some x → is_in a x ≡ true → ⊥) (IsLeast rows a)) h (lows a one)

  -- a row has a least token in its slot
  least_of : (a : Slot) (j : ℕ) (x : Row) → IsOneOf old new a.name → slice_get rows j ≡ Some x → is_in a x ≡ true → (m : ℕ) × (least a ≡ Some m) × (m ≤ x.decl.token)
  least_of a j x one at is = by (least a) refl (lows a one)
    where
      by : (o : Option ℕ) → least a ≡ o → MatchOption o ((j : ℕ) (x : Row) → slice_get rows j ≡ Some x → is_in a x ≡ true → ⊥) (IsLeast rows a) → (m : ℕ) × (least a ≡ Some m) × (m ≤ x.decl.token)
      by None e h = absurd (h j x at is)
      by (Some m) e h = (m, e, h.least j x at is)

  group_is : (j : ℕ) (x : Row) → slice_get rows j ≡ Some x → is_in (named old x) x ≡ true → (g : Group) × (find_group (named old x) es ≡ Some g) × ((e : Declaration) → slice_get s.declarations j ≡ Some e → g.key ≡ declaration_key unit t s e)
  group_is j x at is = by (find_group (named old x) es) refl
    where
      by : (o : Option Group) → find_group (named old x) es ≡ o → (g : Group) × (find_group (named old x) es ≡ Some g) × ((e : Declaration) → slice_get s.declarations j ≡ Some e → g.key ≡ declaration_key unit t s e)
      by None e = absurd (groups.none (named old x) (inl refl) e j x at is)
      by (Some g) e = (g, e, λ d h. (groups.some (named old x) g e).keyed j x d at is h)

  -- two rows of one scope and space collide
  pair : (i j : ℕ) (x y : Row) (g : Group) (fa : Fact) (token : ℕ) → slice_get rows i ≡ Some x → slice_get rows j ≡ Some y → x.decl.name ≡ old → y.decl.name ≡ new → x.path ≡ y.path → x.decl.space ≡ y.decl.space
      → find_group (named old x) es ≡ Some g → token ≡ max x.decl.token y.decl.token → fa ≡ fact.Conflict g.key (place_at t token) → IsOfPair unit t s old new fa
  pair i j x y g fa token ax ay nx ny path sp some tok same =
      let e : (d : Declaration) × (slice_get s.declarations i ≡ Some d) = declaration_of_row unit t s old new ps rows uses es shown groups i x ax in
      let key : g.key ≡ declaration_key unit t s e.0 = (groups.some (named old x) g some).keyed i x e.0 ax (parts_in x.path x.decl.space old x refl refl nx) e.1 in
      elim (cases_lt i j) [
        | inl lt ↦ (
          g.key,
          place_at t token,
          scopes_at t s [] (j + 1),
          record { 0 = j },
          record { 0 = i },
          token,
          e.0,
          same,
          ((let r : (d : Declaration) × (slice_get s.declarations j ≡ Some d) = declaration_of_row unit t s old new ps rows uses es shown groups j y ay in slice_get_within s.declarations j r.0 r.1), refl),
          record {
            itself = entry_of ps x;
            there = of_row unit t s old new ps rows uses es shown groups (j + 1) i x ax (omega (arith, lt));
            named = nx;
            other = record { 0 = j };
            beside = entry_of ps y;
            other_there = of_row unit t s old new ps rows uses es shown groups (j + 1) j y ay (omega arith);
            other_named = ny;
            one_scope = ap (path_at ps) path;
            one_space = sp;
            made = inr refl;
            at = tok;
          },
          e.1,
          key,
          refl,
        )
        | inr ge ↦ (
          g.key,
          place_at t token,
          scopes_at t s [] (i + 1),
          record { 0 = i },
          record { 0 = i },
          token,
          e.0,
          same,
          (slice_get_within s.declarations i e.0 e.1, refl),
          record {
            itself = entry_of ps x;
            there = of_row unit t s old new ps rows uses es shown groups (i + 1) i x ax (omega arith);
            named = nx;
            other = record { 0 = j };
            beside = entry_of ps y;
            other_there = of_row unit t s old new ps rows uses es shown groups (i + 1) j y ay (omega (arith, ge));
            other_named = ny;
            one_scope = ap (path_at ps) path;
            one_space = sp;
            made = inl refl;
            at = tok;
          },
          e.1,
          key,
          refl,
        )
      ]

  pub pairs_from : (fa : Fact) → PairsAdd old new t.tokens rows es least fa → IsOfPair unit t s old new fa
  pairs_from fa (j, x, at, (g, m, some, inl h, le, same)) =
      let l : IsLeast rows (named new x) m = least_is (named new x) m (inr refl) h.1 in
      let y : Row = l.reached.1 in
      let p : (x.path ≡ y.path) × (y.decl.space ≡ x.decl.space) × (y.decl.name ≡ new) = in_parts x.path x.decl.space new y l.reached.3 in
      let n : m ≡ y.decl.token = l.reached.4 in
      pair j l.reached.0 x y g fa x.decl.token at l.reached.2 h.0 p.2 p.0 (sym p.1) some (omega (arith, n, le)) same
  pairs_from fa (j, x, at, (g, m, some, inr h, le, same)) =
      let l : IsLeast rows (named old x) m = least_is (named old x) m (inl refl) h.1 in
      let y : Row = l.reached.1 in
      let p : (x.path ≡ y.path) × (y.decl.space ≡ x.decl.space) × (y.decl.name ≡ old) = in_parts x.path x.decl.space old y l.reached.3 in
      let n : m ≡ y.decl.token = l.reached.4 in
      let q : named old x ≡ named old y = (λ i. slot (p.0 i) (sym p.1 i) old) in
      pair l.reached.0 j y x g fa x.decl.token l.reached.2 at p.2 h.0 (sym p.0) p.1 (subst (λ z. find_group z es ≡ Some g) q some) (omega (arith, n, le)) same

  pub pairs_to : (fa : Fact) → IsOfPair unit t s old new fa → PairsAdd old new t.tokens rows es least fa
  pairs_to fa (k, p, f, c, d, token, e, same, mentions, h, there, keyed, placed) =
      let n : ℕ = number c + 1 in
      let r : (x : Row) × (slice_get rows (number d) ≡ Some x) × (h.itself ≡ entry_of ps x) × (number d < n) = row_of unit t s old new ps rows uses es shown groups n (number d) h.itself (subst (λ z. slice_get z (number d) ≡ Some h.itself) mentions.1 h.there) in
      let q : (x : Row) × (slice_get rows (number h.other) ≡ Some x) × (h.beside ≡ entry_of ps x) × (number h.other < n) = row_of unit t s old new ps rows uses es shown groups n (number h.other) h.beside (subst (λ z. slice_get z (number h.other) ≡ Some h.beside) mentions.1 h.other_there) in
      let x : Row = r.0 in
      let y : Row = q.0 in
      let nx : x.decl.name ≡ old = subst (λ z. z.decl.name ≡ old) r.2 h.named in
      let ny : y.decl.name ≡ new = subst (λ z. z.decl.name ≡ new) q.2 h.other_named in
      let path : path_at ps x.path ≡ path_at ps y.path = sym (ap (λ (z : Entry). z.path) r.2) ∙ h.one_scope ∙ ap (λ (z : Entry). z.path) q.2 in
      let number_is : x.path ≡ y.path = shown.distinct x.path y.path (shown.within (number d) x r.1) (shown.within (number h.other) y q.1) path in
      let sp : x.decl.space ≡ y.decl.space = sym (ap (λ (z : Entry). z.decl.space) r.2) ∙ h.one_space ∙ ap (λ (z : Entry). z.decl.space) q.2 in
      let tx : h.itself.decl.token ≡ x.decl.token = ap (λ (z : Entry). z.decl.token) r.2 in
      let ty : h.beside.decl.token ≡ y.decl.token = ap (λ (z : Entry). z.decl.token) q.2 in
      let tok : token ≡ max h.itself.decl.token h.beside.decl.token = h.at in
      let ix : is_in (named old x) x ≡ true = parts_in x.path x.decl.space old x refl refl nx in
      let g : (g : Group) × (find_group (named old x) es ≡ Some g) × ((e : Declaration) → slice_get s.declarations (number d) ≡ Some e → g.key ≡ declaration_key unit t s e) = group_is (number d) x r.1 ix in
      let key : k ≡ g.0.key = keyed ∙ sym (g.2 e there) in
      elim (cases_lt x.decl.token y.decl.token) [
        | inl lt ↦ (let l = least_of (named old x) (number d) x (inl refl) r.1 ix in
            let le : l.0 ≤ x.decl.token = l.2 in
            let nn : named old x ≡ named old y = (λ i. slot (number_is i) (sp i) old) in
            let to : token ≡ y.decl.token = omega (arith, tok, tx, ty, lt) in (
              number h.other,
              y,
              q.1,
              (
                g.0,
                l.0,
                subst (λ z. find_group z es ≡ Some g.0) nn g.1,
                inr (ny, subst (λ z. least z ≡ Some l.0) nn l.1),
                omega (arith, le, lt),
                same ∙ ap (λ z. fact.Conflict z p) key ∙ ap (λ z. fact.Conflict g.0.key z) (placed ∙ ap (place_at t) to),
              ),
            ))
        | inr ge ↦ (let l = least_of (named new x) (number h.other) y (inr refl) q.1 (parts_in x.path x.decl.space new y (sym number_is) (sym sp) ny) in
            let le : l.0 ≤ y.decl.token = l.2 in
            let to : token ≡ x.decl.token = omega (arith, tok, tx, ty, ge) in (
              number d,
              x,
              r.1,
              (
                g.0,
                l.0,
                g.1,
                inl (nx, l.1),
                omega (arith, le, ge),
                same ∙ ap (λ z. fact.Conflict z p) key ∙ ap (λ z. fact.Conflict g.0.key z) (placed ∙ ap (place_at t) to),
              ),
            ))
      ]
