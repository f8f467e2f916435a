-- Conflicts of the first declaration at a token, and of what an ask adds, in their parts.
use Rattle.std.proofs.Common.{◌≡◌, ◌⊎◌, inl, inr, ℕ, ◌≤◌, Option, Some, None, List, length, sym, ap, subst, ◌∙◌, arith}
use Rattle.std.specs.Prelude.{slice_get, ◌↔◌, MatchOption}
use Rattle.cr_base.specs.declared.token.Name.{Name}
use Rattle.cr_base.specs.declared.token.Place.{Place}
use Rattle.cr_base.specs.declared.token.Tok.{Tok}
use Rattle.cr_facts.specs.FactOrder.{Facts}
use Rattle.cr_facts.specs.declared.fact.Fact.{Fact}
use Rattle.cr_paths.specs.Paths.{path_at, AreDistinct}
use Rattle.cr_declared.specs.declared.rows.Row.{Row}
use Rattle.cr_declared.specs.declared.rows.UseRow.{UseRow}
use Rattle.cr_declared.specs.declared.rows.UseRow.TheVariants as row
use Rattle.cr_declared.specs.declared.rows.Slot.{Slot}
use Rattle.cr_declared.specs.Rows.{slot_of}
use Rattle.cr_groups.specs.declared.groups.Group.{Group}
use Rattle.cr_groups.specs.declared.groups.Sort.TheVariants as sort
use Rattle.cr_groups.specs.Groups.{find_group}
use Rattle.cr_groups.specs.Adding.{Adds}
use Rattle.cr_groups.specs.Firsts.{find_number, IsFirstOf, NoneOf, AreFirsts}
use Rattle.cr_groups.specs.Nearest.{IsNearest}
use Rattle.cr_groups.specs.Rows.{name_in, place_in, IsSound, AreSound}
use Rattle.cr_groups.proofs.Added.{adds_same, adds_none, adds_both}
use Rattle.cr_groups.proofs.Around.{prefix_one}
use Rattle.cr_conflicts.specs.Asks.{ordinary, IsTypedefOver, IsOfTypedef, IsTypeName, token_of_name, IsOfToken, OldAdds, DeniedAdds, HasToken, HaveTokens}
use Rattle.cr_conflicts.specs.Pairs.{named, IsAt}

-- two firsts of one key are one
pub first_one : {A : Type 0} (key : A → Option ℕ) (xs : List A) (n k c d : ℕ) → IsFirstOf key xs n k c → IsFirstOf key xs n k d → c ≡ d
first_one key xs n k c d f g =
    let a : c ≤ d = f.earliest d g.itself.0 g.itself.1 g.itself.2 in
    let b : d ≤ c = g.earliest c f.itself.0 f.itself.1 f.itself.2 in
    omega (arith, a, b)

pub first_is : {A : Type 0} (key : A → Option ℕ) (xs : List A) (fs : List (ℕ × ℕ)) (k c : ℕ) (o : Option ℕ) → AreFirsts key xs fs (length xs) → o ≡ find_number k fs → o ≡ Some c → IsFirstOf key xs (length xs) k c
first_is key xs fs k c o firsts h e =
    subst (λ z. MatchOption z (NoneOf key xs (length xs) k) (IsFirstOf key xs (length xs) k)) (sym h ∙ e) (firsts k)

pub none_is : {A : Type 0} (key : A → Option ℕ) (xs : List A) (fs : List (ℕ × ℕ)) (k : ℕ) (o : Option ℕ) → AreFirsts key xs fs (length xs) → o ≡ find_number k fs → o ≡ None → (c : ℕ) → IsFirstOf key xs (length xs) k c → ⊥
none_is key xs fs k o firsts h e c f =
    subst (λ z. MatchOption z (NoneOf key xs (length xs) k) (IsFirstOf key xs (length xs) k)) (sym h ∙ e) (firsts k) c f.itself.0 f.before f.itself.1 f.itself.2

-- what is first at a number has the key, as it is read there
pub has_key : {A : Type 0} (key : A → Option ℕ) (xs : List A) (n k c : ℕ) (x : A) → slice_get xs c ≡ Some x → IsFirstOf key xs n k c → key x ≡ Some k
has_key key xs n k c x at f =
    let e : Some f.itself.0 ≡ Some x = sym f.itself.1 ∙ at in
    let s : f.itself.0 ≡ x = cc in
    ap key (sym s) ∙ f.itself.2

module _ (rows : List Row) (es : List (Slot × Group)) (old : Name) (fs : List (ℕ × ℕ)) (i : ℕ) (site : Place) (o : Option ℕ) (firsts : AreFirsts (token_of_name old) rows fs (length rows)) (found : o ≡ find_number i fs) where
  pub no_token : (start : Facts) → o ≡ None → Adds start start (IsOfToken rows es old i site)
  no_token start e = adds_none start (IsOfToken rows es old i site) (λ f h. none_is (token_of_name old) rows fs i o firsts found e h.0 h.1)

  pub of_token : (start end : Facts) (n : ℕ) (x : Row) (a : Slot) → o ≡ Some n → slice_get rows n ≡ Some x → a ≡ named x.decl.name x → Adds start end (IsAt es a site) → Adds start end (IsOfToken rows es old i site)
  of_token start end n x a e at slot h =
      adds_same start end (IsAt es (slot_of x) site) (IsOfToken rows es old i site) from to
      (subst (λ z. Adds start end (IsAt es z site)) slot h)
    where
      here : IsFirstOf (token_of_name old) rows (length rows) i n
      here = first_is (token_of_name old) rows fs i n o firsts found e

      mine : token_of_name old x ≡ Some i
      mine = has_key (token_of_name old) rows (length rows) i n x at here

      from : (f : Fact) → IsAt es (slot_of x) site f → IsOfToken rows es old i site f
      from f k = (n, record { before = here.before; itself = (x, at, mine); earliest = here.earliest }, k.0, k.1, k.2)

      to : (f : Fact) → IsOfToken rows es old i site f → IsAt es (slot_of x) site f
      to f k =
          let c : k.0 ≡ n = first_one (token_of_name old) rows (length rows) i k.0 n k.1 here in
          let y : Some k.1.itself.0 ≡ Some x = sym k.1.itself.1 ∙ ap (slice_get rows) c ∙ at in
          let s : k.1.itself.0 ≡ x = cc in
          (k.2, subst (λ z. find_group (slot_of z) es ≡ Some k.2) s k.3, k.4)

-- ---- type names

module _ (ps : List (List ℕ)) (es : List (Slot × Group)) (name : Name) (path before : ℕ) (distinct : AreDistinct ps) where
  pub type_name : (T : Type 0) (a b : Slot) (at : ℕ) → a ≡ ordinary path name → b ≡ ordinary at name → IsNearest ps es a before sort.Any at → T ↔ IsOfTypedef es b → T ↔ IsTypeName ps es name path before
  type_name T a b at ea eb near h =
      let n : IsNearest ps es (ordinary path name) before sort.Any at = subst (λ z. IsNearest ps es z before sort.Any at) ea near in
      let k : T ↔ IsOfTypedef es (ordinary at name) = subst (λ z. T ↔ IsOfTypedef es z) eb h in (
        (λ t. (at, n, k.0 t)),
        (λ m.
            let u : length (path_at ps at) ≤ length (path_at ps m.0) = m.1.best at n.around n.there in
            let v : length (path_at ps m.0) ≤ length (path_at ps at) = n.best m.0 m.1.around m.1.there in
            let one : m.0 ≡ at = distinct m.0 at m.1.around.0 n.around.0 (prefix_one (path_at ps m.0) (path_at ps at) (path_at ps path) m.1.around.1 n.around.1 (omega (arith, u, v))) in
            k.1 (subst (λ z. IsOfTypedef es (ordinary z name)) one m.2)),
      )

-- ---- an ask that was denied

module _ (tokens : List Tok) (ps : List (List ℕ)) (rows : List Row) (es : List (Slot × Group)) (old new : Name) (i path before : ℕ) (P : Type 0) (name : Name) (site : Place) (named_is : name ≡ name_in tokens i) (placed : site ≡ place_in tokens i) where
  abbrev New : Name → Place → Fact → Type 0
  New n p f = (n ≡ new) × IsTypedefOver ps es old new path before p f

  abbrev Denied : Fact → Type 0
  Denied f = DeniedAdds tokens ps rows es old new i path before P f

  new_is : (start end : Facts) → Adds start end (New name site) → Adds start end (New (name_in tokens i) (place_in tokens i))
  new_is start end h = subst (λ z. Adds start end (New (name_in tokens i) z)) placed (subst (λ z. Adds start end (New z site)) named_is h)

  pub not_old : (start end : Facts) → (name ≡ old → ⊥) → Adds start end (New name site) → Adds start end Denied
  not_old start end other h =
      adds_same start end (New (name_in tokens i) (place_in tokens i)) Denied
      (λ f k. inl k)
      (λ f k. elim k [ inl m ↦ m | inr m ↦ absurd (other (named_is ∙ m.0)) ])
      (new_is start end h)

  pub is_old : (start mid end : Facts) → name ≡ old → Adds start mid (New name site) → Adds mid end (OldAdds ps rows es old new i path before site P) → Adds start end Denied
  is_old start mid end same h g =
      adds_same start end (λ f. New (name_in tokens i) (place_in tokens i) f ⊎ OldAdds ps rows es old new i path before (place_in tokens i) P f) Denied
      (λ f k. elim k [ inl m ↦ inl m | inr m ↦ inr (sym named_is ∙ same, m) ])
      (λ f k. elim k [ inl m ↦ inl m | inr m ↦ inr m.1 ])
      (adds_both start mid end (New (name_in tokens i) (place_in tokens i)) (OldAdds ps rows es old new i path before (place_in tokens i) P)
      (new_is start mid h)
      (subst (λ z. Adds mid end (OldAdds ps rows es old new i path before z P)) placed g))

pub have_tokens : (tokens : List Tok) (ps : List (List ℕ)) (rows : List Row) (uses : List UseRow) → AreSound tokens ps rows uses → HaveTokens tokens uses
have_tokens tokens ps rows uses sound j u at = by u (sound j u at)
  where
    by : (v : UseRow) → IsSound tokens ps rows v → HasToken tokens v
    by (row.IsParameter i) h = h
    by (row.IsBuiltIn i) h = h
    by (row.LookedUp sp i path before denoted) h = tt
    by (row.GoesTo i label) h = tt
    by (row.Selects i member) h = tt
    by (row.WasAsked i path before answer) h = tt
