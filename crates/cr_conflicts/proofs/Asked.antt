-- What is told of asks by the rows is what conflicts with them.
use Rattle.std.proofs.Common.{◌≡◌, ◌⊎◌, inl, inr, ℕ, zero, suc, ◌<◌, ◌≤◌, Bool, true, false, not, eqb, cond, Option, Some, None, List, [], ◌∷◌, length, map, refl, sym, ap, subst, ◌∙◌, arith, true≢false}
use Rattle.std.specs.Prelude.{slice_get, MatchOption, Contains}
use Rattle.std.specs.List.{find}
use Rattle.std.proofs.lemmas.Bool.{eqb-true, eq-eqb, cases_lt}
use Rattle.std.proofs.lemmas.Option.{slice_get_within}
use Rattle.cr_base.specs.declared.token.Name.{Name}
use Rattle.cr_base.specs.declared.token.Place.{Place}
use Rattle.cr_base.specs.declared.key.Key.{Key}
use Rattle.cr_base.specs.declared.Kind.{Kind}
use Rattle.cr_base.specs.declared.Kind.TheVariants as kind
use Rattle.cr_scope.specs.declared.Space.TheVariants as space
use Rattle.cr_scope.specs.declared.DeclNo.{DeclNo}
use Rattle.cr_scope.specs.Declarations.{Entry, Flat, depth, number, lookup, same_name}
use Rattle.cr_scope.specs.Meaning.{IsLookup, SeesNone}
use Rattle.cr_scope.proofs.Looked.{lookup_means}
use Rattle.cr_capture.specs.declared.Mention.TheVariants as mention
use Rattle.cr_capture.specs.Conflicts.{Pair, Shows, IsConflict, IsTypedef}
use Rattle.cr_capture.specs.Conflicts as meant
use Rattle.cr_facts.specs.FactOrder.{Facts}
use Rattle.cr_facts.specs.declared.fact.Fact.{Fact}
use Rattle.cr_facts.specs.declared.fact.Fact.TheVariants as fact
use Rattle.cr_binding.specs.Source.{Source, name_at}
use Rattle.cr_binding.specs.State.{Declaration, Use, IsBuiltIn, IsParameter, WasAsked, State}
use Rattle.cr_binding.specs.Entities.{entry, is_typedef_kind}
use Rattle.cr_binding.specs.Keys.{declaration_key}
use Rattle.cr_binding.specs.UnitConflicts.{place_at, scopes_at, AreScopesAt, IsOfAsk, Mentions, declaration_of}
use Rattle.cr_paths.specs.Paths.{path_at}
use Rattle.cr_declared.specs.declared.rows.Row.{Row}
use Rattle.cr_declared.specs.declared.rows.UseRow.{UseRow}
use Rattle.cr_declared.specs.declared.rows.UseRow.TheVariants as row
use Rattle.cr_declared.specs.declared.rows.Slot.{Slot}
use Rattle.cr_declared.specs.Rows.{entry_of, slot_of, is_in}
use Rattle.cr_groups.specs.declared.groups.Group.{Group}
use Rattle.cr_groups.specs.declared.groups.Sort.TheVariants as sort
use Rattle.cr_groups.specs.Groups.{find_group}
use Rattle.cr_groups.specs.Adding.{Adds, OfFirst}
use Rattle.cr_groups.specs.Outward.{Encloses}
use Rattle.cr_groups.specs.Nearest.{IsFoundAt}
use Rattle.cr_groups.specs.Rows.{use_of, IsOneOf, AreGroups}
use Rattle.cr_groups.proofs.Added.{adds_same}
use Rattle.cr_groups.proofs.Around.{prefix_one}
use Rattle.cr_groups.proofs.Building.{slot_itself}
use Rattle.cr_groups.proofs.Grouped.{find_at}
use Rattle.cr_groups.proofs.Seen.{declaration_of_row, seen_group, group_seen}
use Rattle.cr_groups.proofs.Shown.{Views}
use Rattle.cr_groups.proofs.Taken.{mapped, to_mapped}
use Rattle.cr_conflicts.specs.Asks.{ordinary, IsTypedefOver, IsOverTypedef, IsTypeName, token_of_name, HasUse, IsOfToken, DeniedAdds, AskAdds, IsOfAsked}
use Rattle.cr_conflicts.proofs.Covered.{at_most}
use Rattle.cr_conflicts.proofs.Mentioned.{at, from_at}

typedef_is : (k : Kind) → is_typedef_kind k ≡ true → k ≡ kind.Typedef
typedef_is kind.Typedef h = refl
typedef_is _ h = absurd (true≢false (sym h))

is_typedef : (k : Kind) → k ≡ kind.Typedef → is_typedef_kind k ≡ true
is_typedef k e = ap is_typedef_kind e

not_not : (b : Bool) → not b ≡ true → b ≡ false
not_not true h = absurd (true≢false (sym h))
not_not false h = refl

is_not : (b : Bool) → (b ≡ true → ⊥) → not b ≡ true
is_not true f = absurd (f refl)
is_not false f = refl

not_true : (b : Bool) → (b ≡ true → ⊥) → b ≡ false
not_true true f = absurd (f refl)
not_true false f = refl

-- what is found stands somewhere, and nothing before passes
abbrev pub StandsAt : {A : Type 0} → (A → Bool) → List A → A → Type 0
StandsAt {A} q ds d =
    (j : ℕ) × (slice_get ds j ≡ Some d) × (q d ≡ true) × ((k : ℕ) (e : A) → k < j → slice_get ds k ≡ Some e → q e ≡ false)

pub find_means : {A : Type 0} (q : A → Bool) (ds : List A) (d : A) → find q ds ≡ Some d → StandsAt q ds d
find_means q [] d h = cc
find_means {A} q (x ∷ xs) d h = by (q x) refl h (λ k. find_means q xs d k)
  where
    by : (b : Bool) → q x ≡ b → cond b (Some x) (find q xs) ≡ Some d → (find q xs ≡ Some d → StandsAt q xs d) → StandsAt q (x ∷ xs) d
    by true e g more = (let s : x ≡ d = cc in (0, g, ap q (sym s) ∙ e, (λ k f lt bt. absurd (omega (arith, lt)))))
    by false e g more =
        let r : StandsAt q xs d = more g in
        (suc r.0, r.1, r.2, earlier r.0 r.3)
      where
        earlier : (j : ℕ) → ((k : ℕ) (f : A) → k < j → slice_get xs k ≡ Some f → q f ≡ false) → (k : ℕ) (f : A) → k < suc j → slice_get (x ∷ xs) k ≡ Some f → q f ≡ false
        earlier j l zero f lt bt = (let s : x ≡ f = cc in ap q (sym s) ∙ e)
        earlier j l (suc k) f lt bt = l k f (omega (arith, lt)) bt

module _ (unit : ℕ) (t : Source) (s : State) (old new : Name) (ps : List (List ℕ)) (rows : List Row) (uses : List UseRow) (es : List (Slot × Group))
    (shown : Views t s ps rows uses) (groups : AreGroups unit t s old new rows es) where
  abbrev Seen : Flat → ℕ → ℕ → Name → DeclNo → Entry → Type 0
  Seen f n pl name d e = (x : Row) × (g : Group) × (slice_get rows (number d) ≡ Some x) × (e ≡ entry_of ps x) × Encloses ps x.path pl × (find_group (ordinary x.path name) es ≡ Some g) × (is_in (ordinary x.path name) x ≡ true) × (g.first < n)

  seen : (f : Flat) (n pl : ℕ) (name : Name) (d : DeclNo) (e : Entry) → IsOneOf old new name → AreScopesAt t s (path_at ps pl) n f → Shows f space.Ordinary name d e → Seen f n pl name d e
  seen f n pl name = seen_group unit t s old new ps rows uses es shown groups f n pl space.Ordinary name

  shows : (f : Flat) (n pl q : ℕ) (name : Name) (g : Group) → AreScopesAt t s (path_at ps pl) n f → Encloses ps q pl → find_group (ordinary q name) es ≡ Some g → g.first < n
      → (x : Row) × (slice_get rows g.first ≡ Some x) × (x.path ≡ q) × (is_in (ordinary q name) x ≡ true) × Shows f space.Ordinary name (record { 0 = g.first }) (entry_of ps x)
  shows f n pl q name = group_seen unit t s old new ps rows uses es shown groups f n pl q space.Ordinary name

  declared : (j : ℕ) (x : Row) → slice_get rows j ≡ Some x → (d : Declaration) × (slice_get s.declarations j ≡ Some d)
  declared = declaration_of_row unit t s old new ps rows uses es shown groups

  -- the kind of a row in a group
  sort_is : (a : Slot) (g : Group) (j : ℕ) (x : Row) → find_group a es ≡ Some g → slice_get rows j ≡ Some x → is_in a x ≡ true → is_typedef_kind x.decl.kind ≡ g.is_typedef
  sort_is a g j x some bt is = (groups.some a g some).sort j x bt is

  key_is : (a : Slot) (g : Group) (j : ℕ) (x : Row) (d : Declaration) → find_group a es ≡ Some g → slice_get rows j ≡ Some x → is_in a x ≡ true → slice_get s.declarations j ≡ Some d → g.key ≡ declaration_key unit t s d
  key_is a g j x d some bt is dt = (groups.some a g some).keyed j x d bt is dt

  -- a conflict of a declaration, under some condition on it
  abbrev IsOne : ℕ → (DeclNo → Type 0) → Fact → Type 0
  IsOne i C fa =
      (k : Key) × (p : Place) × (d : DeclNo) × (e : Declaration) × (fa ≡ fact.Conflict k p) × C d
      × (slice_get s.declarations (number d) ≡ Some e) × (k ≡ declaration_key unit t s e) × (p ≡ place_at t i)

  module _ (i pl before : ℕ) (f : Flat) (scopes : AreScopesAt t s (path_at ps pl) before f) where
    -- (e1), (e4)
    over_from : (fa : Fact) → IsTypedefOver ps es old new pl before (place_at t i) fa → IsOne i (meant.IsTypedefOver f old new) fa
    over_from fa (q, enc, over, (g, (some, lt, typ), same)) =
        let r = shows f before pl q old g scopes enc some lt in
        let x : Row = r.0 in
        let d = declared g.first x r.1 in (
          g.key,
          place_at t i,
          record { 0 = g.first },
          d.0,
          same,
          record {
            itself = entry_of ps x;
            seen = r.4;
            sort = typedef_is x.decl.kind (sort_is (ordinary q old) g g.first x some r.1 r.3 ∙ typ);
            deeper = λ c e sh.
                let o = seen f before pl new c e (inr refl) scopes sh in
                let l : length (path_at ps o.0.path) < length (path_at ps q) = over o.0.path o.4 (o.1, (o.5, o.7, refl)) in
                let a : depth e ≡ length (path_at ps o.0.path) = ap depth o.3 in
                let b : depth (entry_of ps x) ≡ length (path_at ps q) = ap (λ z. length (path_at ps z)) r.2 in
                omega (arith, l, a, b);
          },
          d.1,
          key_is (ordinary q old) g g.first x d.0 some r.1 r.3 d.1,
          refl,
        )

    over_to : (fa : Fact) → IsOne i (meant.IsTypedefOver f old new) fa → IsTypedefOver ps es old new pl before (place_at t i) fa
    over_to fa (k, p, d, e, same, h, there, keyed, placed) =
        let r = seen f before pl old d h.itself (inl refl) scopes h.seen in
        let x : Row = r.0 in
        let g : Group = r.1 in
        let kd : x.decl.kind ≡ kind.Typedef = sym (ap (λ (z : Entry). z.decl.kind) r.3) ∙ h.sort in
        let key : k ≡ g.key = keyed ∙ sym (key_is (ordinary x.path old) g (number d) x e r.5 r.2 r.6 there) in (
          x.path,
          r.4,
          (λ q enc found.
              let o = shows f before pl q new found.0 scopes enc found.1.0 found.1.1 in
              let l : depth (entry_of ps o.0) < depth h.itself = h.deeper (record { 0 = found.0.first }) (entry_of ps o.0) o.4 in
              let a : depth h.itself ≡ length (path_at ps x.path) = ap depth r.3 in
              let b : depth (entry_of ps o.0) ≡ length (path_at ps q) = ap (λ z. length (path_at ps z)) o.2 in
              omega (arith, l, a, b)),
          (g, (r.5, r.7, sym (sort_is (ordinary x.path old) g (number d) x r.5 r.2 r.6) ∙ is_typedef x.decl.kind kd), same ∙ ap (λ z. fact.Conflict z p) key ∙ ap (λ z. fact.Conflict g.key z) placed),
        )

    -- (e2)
    under_from : (fa : Fact) → IsOverTypedef ps es old pl before (place_at t i) fa → IsOne i (meant.IsOverTypedef f old) fa
    under_from fa (q, enc, (g, (some, lt, typ), same), (p, encp, less, (h, (somep, ltp, typp)))) =
        let r = shows f before pl q old g scopes enc some lt in
        let o = shows f before pl p old h scopes encp somep ltp in
        let x : Row = r.0 in
        let y : Row = o.0 in
        let d = declared g.first x r.1 in
        let kx : is_typedef_kind x.decl.kind ≡ false = sort_is (ordinary q old) g g.first x some r.1 r.3 ∙ not_not g.is_typedef typ in
        let a : length (path_at ps x.path) ≡ length (path_at ps q) = ap (λ z. length (path_at ps z)) r.2 in
        let b : length (path_at ps y.path) ≡ length (path_at ps p) = ap (λ z. length (path_at ps z)) o.2 in (
          g.key,
          place_at t i,
          record { 0 = g.first },
          d.0,
          same,
          record {
            itself = entry_of ps x;
            seen = r.4;
            sort = λ e. true≢false (sym (is_typedef x.decl.kind e) ∙ kx);
            other = record { 0 = h.first };
            outer = entry_of ps y;
            other_seen = o.4;
            other_sort = typedef_is y.decl.kind (sort_is (ordinary p old) h h.first y somep o.1 o.3 ∙ typp);
            deeper = omega (arith, less, a, b);
          },
          d.1,
          key_is (ordinary q old) g g.first x d.0 some r.1 r.3 d.1,
          refl,
        )

    under_to : (fa : Fact) → IsOne i (meant.IsOverTypedef f old) fa → IsOverTypedef ps es old pl before (place_at t i) fa
    under_to fa (k, p, d, e, same, h, there, keyed, placed) =
        let r = seen f before pl old d h.itself (inl refl) scopes h.seen in
        let o = seen f before pl old h.other h.outer (inl refl) scopes h.other_seen in
        let x : Row = r.0 in
        let y : Row = o.0 in
        let g : Group = r.1 in
        let m : Group = o.1 in
        let sx : is_typedef_kind x.decl.kind ≡ g.is_typedef = sort_is (ordinary x.path old) g (number d) x r.5 r.2 r.6 in
        let sy : is_typedef_kind y.decl.kind ≡ m.is_typedef = sort_is (ordinary y.path old) m (number h.other) y o.5 o.2 o.6 in
        let ky : y.decl.kind ≡ kind.Typedef = sym (ap (λ (z : Entry). z.decl.kind) o.3) ∙ h.other_sort in
        let nx : not g.is_typedef ≡ true = is_not g.is_typedef (λ b. h.sort (ap (λ (z : Entry). z.decl.kind) r.3 ∙ typedef_is x.decl.kind (sx ∙ b))) in
        let key : k ≡ g.key = keyed ∙ sym (key_is (ordinary x.path old) g (number d) x e r.5 r.2 r.6 there) in
        let l : depth h.outer < depth h.itself = h.deeper in
        let a : depth h.itself ≡ length (path_at ps x.path) = ap depth r.3 in
        let b : depth h.outer ≡ length (path_at ps y.path) = ap depth o.3 in (
          x.path,
          r.4,
          (g, (r.5, r.7, nx), same ∙ ap (λ z. fact.Conflict z p) key ∙ ap (λ z. fact.Conflict g.key z) placed),
          (y.path, o.4, omega (arith, l, a, b), (m, (o.5, o.7, sym sy ∙ is_typedef y.decl.kind ky))),
        )

    -- (e3)
    name_from : IsTypeName ps es new pl before → meant.IsTypeName f new
    name_from (q, near, (g, some, typ)) = by (lookup f.present space.Ordinary new f.entries) (lookup_means f.present space.Ordinary new f.entries)
      where
        there : IsFoundAt es (ordinary pl new) before sort.Any q
        there = near.there

        here : (x : Row) × (slice_get rows there.0.first ≡ Some x) × (x.path ≡ q) × (is_in (ordinary q new) x ≡ true) × Shows f space.Ordinary new (record { 0 = there.0.first }) (entry_of ps x)
        here = shows f before pl q new there.0 scopes near.around there.1.0 there.1.1

        by : (o : Option ℕ) → MatchOption o (SeesNone f.present space.Ordinary new f.entries) (λ j. (e : Entry) × IsLookup f.present space.Ordinary new f.entries j e) → meant.IsTypeName f new
        by None h = absurd (h there.0.first (entry_of ps here.0) here.4)
        by (Some j) h =
            let d : DeclNo = record { 0 = j } in
            let r : Seen f before pl new d h.0 = seen f before pl new d h.0 (inr refl) scopes h.1.seen in
            let x : Row = r.0 in
            let inner : length (path_at ps x.path) ≤ length (path_at ps q) = near.best x.path r.4 (r.1, (r.5, r.7, refl)) in
            let deep : depth (entry_of ps here.0) ≤ depth h.0 = at_most (h.1.best there.0.first (entry_of ps here.0) here.4) in
            let a : depth h.0 ≡ length (path_at ps x.path) = ap depth r.3 in
            let b : depth (entry_of ps here.0) ≡ length (path_at ps q) = ap (λ z. length (path_at ps z)) here.2 in
            let one : x.path ≡ q = shown.distinct x.path q r.4.0 near.around.0 (prefix_one (path_at ps x.path) (path_at ps q) (path_at ps pl) r.4.1 near.around.1 (omega (arith, inner, deep, a, b))) in
            let is : is_in (ordinary q new) x ≡ true = subst (λ z. is_in (ordinary z new) x ≡ true) one r.6 in
            let kx : x.decl.kind ≡ kind.Typedef = typedef_is x.decl.kind (sort_is (ordinary q new) g j x some r.2 is ∙ typ) in
            (d, h.0, h.1, ap (λ (z : Entry). z.decl.kind) r.3 ∙ kx)

    name_to : meant.IsTypeName f new → IsTypeName ps es new pl before
    name_to (d, e, look, typ) =
        let r = seen f before pl new d e (inr refl) scopes look.seen in
        let x : Row = r.0 in
        let g : Group = r.1 in
        let kx : x.decl.kind ≡ kind.Typedef = sym (ap (λ (z : Entry). z.decl.kind) r.3) ∙ typ in (
          x.path,
          record {
            around = r.4;
            there = (g, (r.5, r.7, refl));
            best = λ q enc found.
                let o = shows f before pl q new found.0 scopes enc found.1.0 found.1.1 in
                let l : depth (entry_of ps o.0) ≤ depth e = at_most (look.best found.0.first (entry_of ps o.0) o.4) in
                let a : depth e ≡ length (path_at ps x.path) = ap depth r.3 in
                let b : depth (entry_of ps o.0) ≡ length (path_at ps q) = ap (λ z. length (path_at ps z)) o.2 in
                omega (arith, l, a, b);
          },
          (g, r.5, sym (sort_is (ordinary x.path new) g (number d) x r.5 r.2 r.6) ∙ is_typedef x.decl.kind kx),
        )

  -- a row and its declaration have one token and name
  alike : (j : ℕ) (x : Row) → slice_get rows j ≡ Some x → (d : Declaration) × (slice_get s.declarations j ≡ Some d) × (entry_of ps x ≡ entry t d)
  alike j x h = mapped (entry t) s.declarations j (entry_of ps x) (subst (λ z. slice_get z j ≡ Some (entry_of ps x)) shown.entries (to_mapped (entry_of ps) rows j x h))

  row_alike : (j : ℕ) (d : Declaration) → slice_get s.declarations j ≡ Some d → (x : Row) × (slice_get rows j ≡ Some x) × (entry t d ≡ entry_of ps x)
  row_alike j d h = mapped (entry_of ps) rows j (entry t d) (subst (λ z. slice_get z j ≡ Some (entry t d)) (sym shown.entries) (to_mapped (entry t) s.declarations j d h))

  named_token : (b : Bool) (k i : ℕ) → cond b (Some k) None ≡ Some i → (b ≡ true) × (k ≡ i)
  named_token true k i h = (refl, cc)
  named_token false k i h = cc

  token_is : (x : Row) (i : ℕ) → x.decl.name ≡ old → x.decl.token ≡ i → token_of_name old x ≡ Some i
  token_is x i n e = ap (λ b. cond b (Some x.decl.token) None) (ap (same_name x.decl.name) (sym n) ∙ eq-eqb x.decl.name.0 x.decl.name.0 refl) ∙ ap Some e

  -- the first declaration at a token of old
  module _ (i : ℕ) (spelled : name_at t i ≡ old) where
    token_from : (fa : Fact) → IsOfToken rows es old i (place_at t i) fa
        → (k : Key) × (d : Declaration) × (fa ≡ fact.Conflict k (place_at t i)) × (find (λ (e : Declaration). eqb e.token i) s.declarations ≡ Some d) × (k ≡ declaration_key unit t s d)
    token_from fa (c, first, g, some, same) =
        let x : Row = first.itself.0 in
        let a = alike c x first.itself.1 in
        let d : Declaration = a.0 in
        let q : (same_name x.decl.name old ≡ true) × (x.decl.token ≡ i) = named_token (same_name x.decl.name old) x.decl.token i first.itself.2 in
        let dt : d.token ≡ i = sym (ap (λ (z : Entry). z.decl.token) a.2) ∙ q.1 in (
          g.key,
          d,
          same,
          find_at (λ (e : Declaration). eqb e.token i) s.declarations c d a.1 (eq-eqb d.token i dt) (λ j e lt bt. not_true (eqb e.token i) (λ h.
              let y = row_alike j e bt in
              let et : e.token ≡ i = eqb-true e.token i h in
              let yt : y.0.decl.token ≡ i = sym (ap (λ (z : Entry). z.decl.token) y.2) ∙ et in
              let yn : y.0.decl.name ≡ old = sym (ap (λ (z : Entry). z.decl.name) y.2) ∙ ap (name_at t) et ∙ spelled in
              let le : c ≤ j = first.earliest j y.0 y.1 (token_is y.0 i yn yt) in
              omega (arith, lt, le))),
          key_is (slot_of x) g c x d some first.itself.1 (slot_itself x) a.1,
        )

    token_to : (fa : Fact) (k : Key) (d : Declaration) → fa ≡ fact.Conflict k (place_at t i) → find (λ (e : Declaration). eqb e.token i) s.declarations ≡ Some d → k ≡ declaration_key unit t s d → IsOfToken rows es old i (place_at t i) fa
    token_to fa k d same found keyed =
        let m = find_means (λ (e : Declaration). eqb e.token i) s.declarations d found in
        let y = row_alike m.0 d m.1 in
        let x : Row = y.0 in
        let dt : d.token ≡ i = eqb-true d.token i m.2 in
        let xt : x.decl.token ≡ i = sym (ap (λ (z : Entry). z.decl.token) y.2) ∙ dt in
        let xn : x.decl.name ≡ old = sym (ap (λ (z : Entry). z.decl.name) y.2) ∙ ap (name_at t) dt ∙ spelled in
        let g : (g : Group) × (find_group (slot_of x) es ≡ Some g) = group_is m.0 x y.1 xn in (
          m.0,
          record {
            before = slice_get_within rows m.0 x y.1;
            itself = (x, y.1, token_is x i xn xt);
            earliest = λ j z zt e. by_order j z zt e m.0 m.3;
          },
          g.0,
          g.1,
          same ∙ ap (λ z. fact.Conflict z (place_at t i)) (keyed ∙ sym (key_is (slot_of x) g.0 m.0 x d g.1 y.1 (slot_itself x) m.1)),
        )
      where
        group_is : (j : ℕ) (x : Row) → slice_get rows j ≡ Some x → x.decl.name ≡ old → (g : Group) × (find_group (slot_of x) es ≡ Some g)
        group_is j x bt name = by (find_group (slot_of x) es) refl
          where
            by : (o : Option Group) → find_group (slot_of x) es ≡ o → (g : Group) × (find_group (slot_of x) es ≡ Some g)
            by None e = absurd (groups.none (slot_of x) (inl name) e j x bt (slot_itself x))
            by (Some g) e = (g, e)

        by_order : (j : ℕ) (z : Row) → slice_get rows j ≡ Some z → token_of_name old z ≡ Some i → (c : ℕ) → ((k : ℕ) (e : Declaration) → k < c → slice_get s.declarations k ≡ Some e → eqb e.token i ≡ false) → c ≤ j
        by_order j z zt e c none =
            let a = alike j z zt in
            let q : (same_name z.decl.name old ≡ true) × (z.decl.token ≡ i) = named_token (same_name z.decl.name old) z.decl.token i e in
            let dt : a.0.token ≡ i = sym (ap (λ (z : Entry). z.decl.token) a.2) ∙ q.1 in
            elim (cases_lt j c) [
              | inl lt ↦ absurd (true≢false (sym (eq-eqb a.0.token i dt) ∙ none j a.0 lt a.1))
              | inr ge ↦ ge
            ]

  -- ---- uses

  shown_use : (u : UseRow) → HasUse uses u → Contains s.uses (use_of ps u)
  shown_use u h = subst (λ z. Contains z (use_of ps u)) shown.used (at (map (use_of ps) uses) h.0 (use_of ps u) (to_mapped (use_of ps) uses h.0 u h.1))

  use_shown : (v : Use) → Contains s.uses v → (u : UseRow) × HasUse uses u × (v ≡ use_of ps u)
  use_shown v h =
      let r : (u : UseRow) × (slice_get uses h.0 ≡ Some u) × (v ≡ use_of ps u) = mapped (use_of ps) uses h.0 v (subst (λ z. slice_get z h.0 ≡ Some v) (sym shown.used) (from_at s.uses v h)) in
      (r.0, (h.0, r.1), r.2)

  parameter_is : (i : ℕ) (u : UseRow) → IsParameter i ≡ use_of ps u → u ≡ row.IsParameter i
  parameter_is i (row.IsParameter k) e = cc
  parameter_is i (row.LookedUp sp k path before denoted) e = cc
  parameter_is i (row.GoesTo k label) e = cc
  parameter_is i (row.Selects k member) e = cc
  parameter_is i (row.IsBuiltIn k) e = cc
  parameter_is i (row.WasAsked k path before answer) e = cc

  built_in_is : (i : ℕ) (u : UseRow) → IsBuiltIn i ≡ use_of ps u → u ≡ row.IsBuiltIn i
  built_in_is i (row.IsBuiltIn k) e = cc
  built_in_is i (row.LookedUp sp k path before denoted) e = cc
  built_in_is i (row.GoesTo k label) e = cc
  built_in_is i (row.Selects k member) e = cc
  built_in_is i (row.IsParameter k) e = cc
  built_in_is i (row.WasAsked k path before answer) e = cc

  ask_is : (i : ℕ) (path : List ℕ) (before : ℕ) (u : UseRow) → WasAsked i path before false ≡ use_of ps u → (pl : ℕ) × (u ≡ row.WasAsked i pl before false) × (path ≡ path_at ps pl)
  ask_is i path before (row.WasAsked k pl before' answer) e =
      let a : i ≡ k = cc in
      let b : path ≡ path_at ps pl = cc in
      let c : before ≡ before' = cc in
      let d : false ≡ answer = cc in
      (pl, cc, b)
  ask_is i path before (row.LookedUp sp k pl before' denoted) e = cc
  ask_is i path before (row.GoesTo k label) e = cc
  ask_is i path before (row.Selects k member) e = cc
  ask_is i path before (row.IsBuiltIn k) e = cc
  ask_is i path before (row.IsParameter k) e = cc

  parameter_from : (i : ℕ) → Contains s.uses (IsParameter i) → HasUse uses (row.IsParameter i)
  parameter_from i h = (let r = use_shown (IsParameter i) h in subst (HasUse uses) (parameter_is i r.0 r.2) r.1)

  built_in_from : (i : ℕ) → Contains s.uses (IsBuiltIn i) → HasUse uses (row.IsBuiltIn i)
  built_in_from i h = (let r = use_shown (IsBuiltIn i) h in subst (HasUse uses) (built_in_is i r.0 r.2) r.1)

  abbrev Which : ℕ → Type 0
  Which i = HasUse uses (row.IsParameter i) ⊎ HasUse uses (row.IsBuiltIn i)

  which_to : (i : ℕ) → Which i → (parameter : Bool) × IsOfAsk s i parameter
  which_to i (inl h) = (true, shown_use (row.IsParameter i) h)
  which_to i (inr h) = (false, shown_use (row.IsBuiltIn i) h)

  which_from : (i : ℕ) (parameter : Bool) → IsOfAsk s i parameter → Which i
  which_from i true h = inl (parameter_from i h)
  which_from i false h = inr (built_in_from i h)

  -- ---- all asks

  module _ (i pl before : ℕ) (asked : Contains s.uses (WasAsked i (path_at ps pl) before false)) where
    abbrev f : Flat
    f = scopes_at t s (path_at ps pl) before

    abbrev Asks : Bool → Type 0
    Asks parameter = Mentions t s f (mention.Asked (name_at t i) i parameter)

    asks : (parameter : Bool) → IsOfAsk s i parameter → Asks parameter
    asks parameter h = (path_at ps pl, before, asked, refl, (refl, refl), h)

    one_told : (C : DeclNo → Type 0) (parameter : Bool) (fa : Fact) → IsOfAsk s i parameter
        → ((d : DeclNo) → C d → IsConflict f old new (Some d, i) (mention.Asked (name_at t i) i parameter)) → IsOne i C fa → IsOfAsked unit t s old new fa
    one_told C parameter fa ask conflict (k, p, d, e, same, h, there, keyed, placed) =
        (k, p, f, name_at t i, i, parameter, (Some d, i), e, same, asks parameter ask, conflict d h, there, keyed, placed)

    told : (fa : Fact) → Which i → DeniedAdds t.tokens ps rows es old new i pl before (HasUse uses (row.IsParameter i)) fa → IsOfAsked unit t s old new fa
    told fa which (inl (name, over)) =
        let w = which_to i which in
        one_told (meant.IsTypedefOver f old new) w.0 fa w.1 (λ d h. inl (inl (name, d, refl, h))) (over_from i pl before f (refl, refl) fa over)
    told fa which (inr (name, inl under)) =
        let w = which_to i which in
        one_told (meant.IsOverTypedef f old) w.0 fa w.1 (λ d h. inr (inl (name, d, refl, h))) (under_from i pl before f (refl, refl) fa under)
    told fa which (inr (name, inr (parameter, inr over))) =
        one_told (meant.IsTypedefOver f old new) true fa (shown_use (row.IsParameter i) parameter) (λ d h. inl (inr (name, refl, d, refl, h))) (over_from i pl before f (refl, refl) fa over)
    told fa which (inr (name, inr (parameter, inl (typename, token)))) =
        let r = token_from i name fa token in (
          r.0,
          place_at t i,
          f,
          name_at t i,
          i,
          true,
          (None, i),
          r.1,
          r.2,
          asks true (shown_use (row.IsParameter i) parameter),
          inr (inr (name, refl, refl, name_from i pl before f (refl, refl) typename)),
          r.3,
          r.4,
          refl,
        )

  told_of : (j : ℕ) (u : UseRow) (fa : Fact) → slice_get uses j ≡ Some u → AskAdds t.tokens ps rows es old new uses u fa → IsOfAsked unit t s old new fa
  told_of j (row.WasAsked i pl before false) fa here h = told i pl before (shown_use (row.WasAsked i pl before false) (j, here)) fa h.0 h.1
  told_of j (row.WasAsked i pl before true) fa here h = absurd h
  told_of j (row.LookedUp sp i pl before dn) fa here h = absurd h
  told_of j (row.GoesTo i label) fa here h = absurd h
  told_of j (row.Selects i member) fa here h = absurd h
  told_of j (row.IsBuiltIn i) fa here h = absurd h
  told_of j (row.IsParameter i) fa here h = absurd h

  module _ (i pl before : ℕ) (f : Flat) (scopes : AreScopesAt t s (path_at ps pl) before f) where
    abbrev Denied : Fact → Type 0
    Denied fa = DeniedAdds t.tokens ps rows es old new i pl before (HasUse uses (row.IsParameter i)) fa

    as_parameter : (parameter : Bool) → parameter ≡ true → IsOfAsk s i parameter → HasUse uses (row.IsParameter i)
    as_parameter parameter e ask = parameter_from i (subst (IsOfAsk s i) e ask)

    one_of : (C : DeclNo → Type 0) (fa : Fact) (k : Key) (p : Place) (x : Pair) (d : DeclNo) (e : Declaration) → fa ≡ fact.Conflict k p → C d → x ≡ (Some d, i) → declaration_of s x ≡ Some e
        → k ≡ declaration_key unit t s e → p ≡ place_at t x.1 → IsOne i C fa
    one_of C fa k p x d e same h pair there keyed placed =
        (k, p, d, e, same, h, subst (λ z. declaration_of s z ≡ Some e) pair there, keyed, placed ∙ ap (λ (z : Pair). place_at t z.1) pair)

    untold_at : (fa : Fact) (k : Key) (p : Place) (x : Pair) (e : Declaration) (name : Name) (parameter : Bool) → name ≡ name_at t i → IsOfAsk s i parameter
        → fa ≡ fact.Conflict k p → IsConflict f old new x (mention.Asked name i parameter) → declaration_of s x ≡ Some e → k ≡ declaration_key unit t s e → p ≡ place_at t x.1 → Denied fa
    untold_at fa k p x e name parameter named ask same (inl (inl (is, d, pair, h))) there keyed placed =
        inl (sym named ∙ is, over_to i pl before f scopes fa (one_of (meant.IsTypedefOver f old new) fa k p x d e same h pair there keyed placed))
    untold_at fa k p x e name parameter named ask same (inl (inr (is, true_is, d, pair, h))) there keyed placed =
        inr (sym named ∙ is, inr (as_parameter parameter true_is ask, inr (over_to i pl before f scopes fa (one_of (meant.IsTypedefOver f old new) fa k p x d e same h pair there keyed placed))))
    untold_at fa k p x e name parameter named ask same (inr (inl (is, d, pair, h))) there keyed placed =
        inr (sym named ∙ is, inl (under_to i pl before f scopes fa (one_of (meant.IsOverTypedef f old) fa k p x d e same h pair there keyed placed)))
    untold_at fa k p x e name parameter named ask same (inr (inr (is, true_is, pair, h))) there keyed placed =
        let place : p ≡ place_at t i = placed ∙ ap (λ (z : Pair). place_at t z.1) pair in
        inr (
          sym named ∙ is,
          inr (
            as_parameter parameter true_is ask,
            inl (
              name_to i pl before f scopes h,
              token_to i (sym named ∙ is) fa k e (same ∙ ap (λ z. fact.Conflict k z) place) (subst (λ z. declaration_of s z ≡ Some e) pair there) keyed,
            ),
          ),
        )

  adds_of : (i pl before : ℕ) (u : UseRow) (fa : Fact) → u ≡ row.WasAsked i pl before false → Which i → DeniedAdds t.tokens ps rows es old new i pl before (HasUse uses (row.IsParameter i)) fa → AskAdds t.tokens ps rows es old new uses u fa
  adds_of i pl before u fa e which h = subst (λ z. AskAdds t.tokens ps rows es old new uses z fa) (sym e) (which, h)

  untold : (fa : Fact) → IsOfAsked unit t s old new fa → OfFirst (AskAdds t.tokens ps rows es old new uses) uses (length uses) fa
  untold fa (k, p, f, name, i, parameter, x, d, same, (path, before, there, named, scopes, ask), conflict, declared, keyed, placed) =
      let u = use_shown (WasAsked i path before false) there in
      let r = ask_is i path before u.0 u.2 in
      let sc : AreScopesAt t s (path_at ps r.0) before f = subst (λ z. AreScopesAt t s z before f) r.2 scopes in (
        u.1.0,
        u.0,
        slice_get_within uses u.1.0 u.0 u.1.1,
        u.1.1,
        adds_of i r.0 before u.0 fa r.1 (which_from i parameter ask) (untold_at i r.0 before f sc fa k p x d name parameter named ask same conflict declared keyed placed),
      )

  pub asks_told : (start end : Facts) → Adds start end (OfFirst (AskAdds t.tokens ps rows es old new uses) uses (length uses)) → Adds start end (IsOfAsked unit t s old new)
  asks_told start end h =
      adds_same start end (OfFirst (AskAdds t.tokens ps rows es old new uses) uses (length uses)) (IsOfAsked unit t s old new)
      (λ fa a. told_of a.0 a.1 fa a.3 a.4)
      (λ fa a. untold fa a)
      h
