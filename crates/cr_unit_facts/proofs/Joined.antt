-- What is told in parts is what a unit tells.
use Rattle.std.proofs.Common.{◌≡◌, ◌⊎◌, inl, inr, ℕ, zero, suc, Bool, true, false, Option, Some, None, List, [], ◌∷◌, ◌++◌, length, refl, sym, ap, subst, ◌∙◌, true≢false}
use Rattle.std.specs.Prelude.{slice_get, slice_index_or, is_some, Contains, MatchOption}
use Rattle.std.proofs.lemmas.Option.{slice_get_within}
use Rattle.std.proofs.lemmas.List.Elements.{Contains-append_left, Contains-append_right, Contains-append_cases}
use Rattle.cr_base.specs.declared.token.Name.{Name}
use Rattle.cr_base.specs.declared.token.Place.{Place}
use Rattle.cr_base.specs.declared.token.Origin.{Origin}
use Rattle.cr_base.specs.declared.token.Origin.TheVariants.{At, Made}
use Rattle.cr_base.specs.declared.token.Tok.{Tok}
use Rattle.cr_base.specs.declared.cause.Role.TheVariants as role
use Rattle.cr_ll.specs.Guards.{is_name}
use Rattle.cr_facts.specs.declared.fact.Fact.{Fact}
use Rattle.cr_facts.specs.declared.fact.Fact.TheVariants as fact
use Rattle.cr_binding.specs.Source.{Source, no_token, name_at, token_of, is_identifier}
use Rattle.cr_binding.specs.State.{State}
use Rattle.cr_binding.specs.Resolution.{Occurrence, declaring, occurrences}
use Rattle.cr_binding.specs.Keys.{key_of}
use Rattle.cr_binding.specs.UnitConflicts.{place_at}
use Rattle.cr_binding.specs.UnitFacts.{HasKind, IsAtFileScope, is_shared, IsPlaced, IsHidden, Denotes, Tells}
use Rattle.cr_groups.specs.Firsts.{find_number, IsFirstOf, NoneOf, AreFirsts}
use Rattle.cr_groups.specs.Rows.{IsOneOf}
use Rattle.cr_conflicts.specs.Meant.{IsOfUnit}
use Rattle.cr_conflicts.proofs.Mentioned.{at, from_at}
use Rattle.cr_unit_facts.specs.Meant.{declared_in, members_in, used_in, OccurrenceTells, AnyTells, AnyIsNew}
use Rattle.cr_unit_facts.specs.Occurring.{SaysAt, SaysBy}
use Rattle.cr_unit_facts.specs.Telling.{role_of, RoleAt, SpelledTells, TokensTell, is_noted, itself}

-- ---- hidden tokens

module _ (hidden : List ℕ) (fs : List (ℕ × ℕ)) (firsts : AreFirsts itself hidden fs (length hidden)) where
  noted_from : (i : ℕ) → is_noted fs i ≡ true → Contains hidden i
  noted_from i h = by (find_number i fs) (firsts i) h
    where
      by : (o : Option ℕ) → MatchOption o (NoneOf itself hidden (length hidden) i) (IsFirstOf itself hidden (length hidden) i) → is_some o ≡ true → Contains hidden i
      by None f e = absurd (true≢false (sym e))
      by (Some c) f e =
          let q : Some f.itself.0 ≡ Some i = f.itself.2 in
          let s : f.itself.0 ≡ i = cc in
          at hidden c i (f.itself.1 ∙ ap Some s)

  noted_to : (i : ℕ) → Contains hidden i → is_noted fs i ≡ true
  noted_to i h = by (find_number i fs) (firsts i)
    where
      by : (o : Option ℕ) → MatchOption o (NoneOf itself hidden (length hidden) i) (IsFirstOf itself hidden (length hidden) i) → is_some o ≡ true
      by None f = (let a : slice_get hidden h.0 ≡ Some i = from_at hidden i h in absurd (f h.0 i (slice_get_within hidden h.0 i a) a refl))
      by (Some c) f = refl

-- ---- tokens

read_token : (ts : List Tok) (i : ℕ) → ((x : Tok) × (slice_get ts i ≡ Some x) × (slice_index_or ts i no_token ≡ x)) ⊎ (slice_index_or ts i no_token ≡ no_token)
read_token [] i = inr refl
read_token (x ∷ ts) zero = inl (x, refl, refl)
read_token (x ∷ ts) (suc i) = read_token ts i

token_read : (ts : List Tok) (i : ℕ) (x : Tok) → slice_get ts i ≡ Some x → x ≡ slice_index_or ts i no_token
token_read [] i x h = cc
token_read (y ∷ ts) zero x h = (let e : y ≡ x = cc in sym e)
token_read (y ∷ ts) (suc i) x h = token_read ts i x h

module _ (unit : ℕ) (t : Source) (s : State) (old new : Name) (fs : List (ℕ × ℕ)) (firsts : AreFirsts itself s.hidden fs (length s.hidden)) where
  abbrev All : Fact → Type 0
  All f = Tells unit t s old new f

  abbrev Spelled : Fact → Type 0
  Spelled f = TokensTell t.tokens old new (is_noted fs) (length t.tokens) f

  abbrev Says_of : ℕ → Bool → Tok → Fact → Type 0
  Says_of i b x f = SpelledTells old new b x f

  -- an identifier is a token
  token_is : (i : ℕ) → is_identifier t i ≡ true → slice_get t.tokens i ≡ Some (token_of t i)
  token_is i h = by (read_token t.tokens i)
    where
      by : (((x : Tok) × (slice_get t.tokens i ≡ Some x) × (slice_index_or t.tokens i no_token ≡ x)) ⊎ (slice_index_or t.tokens i no_token ≡ no_token)) → slice_get t.tokens i ≡ Some (token_of t i)
      by (inl k) = k.1 ∙ ap Some (sym k.2)
      by (inr k) = absurd (true≢false (sym h ∙ ap (λ (z : Tok). is_name z.kind) k))

  role_told : (i : ℕ) (b : Bool) → is_noted fs i ≡ b → is_identifier t i ≡ true → name_at t i ≡ old → (o : Origin) → (token_of t i).origin ≡ o → (f : Fact) → RoleAt (role_of b) f o → All f
  role_told i true e sort named (At p) comes f h =
      subst All (sym h) (i, record { spelled = named; comes = comes }, record { there = noted_from s.hidden fs firsts i e; sort = sort; spelled = named })
  role_told i false e sort named (At p) comes f h =
      subst All (sym h) (i, record { spelled = named; comes = comes }, record { sort = sort; elsewhere = (λ k. true≢false (sym (noted_to s.hidden fs firsts i k) ∙ e)) })
  role_told i b e sort named Made comes f h = absurd h

  opaque_told : (i : ℕ) (f : Fact) → is_identifier t i ≡ true → IsOneOf old new (name_at t i) → is_noted fs i ≡ true → f ≡ fact.OpaqueAt (place_at t i) → All f
  opaque_told i f sort (inl named) e h = subst All (sym h) (i, inl (record { there = noted_from s.hidden fs firsts i e; sort = sort; spelled = named }), refl)
  opaque_told i f sort (inr named) e h = subst All (sym h) (i, inr (record { there = noted_from s.hidden fs firsts i e; sort = sort; spelled = named }), refl)

  spelled_at : (i : ℕ) (f : Fact) → SpelledTells old new (is_noted fs i) (token_of t i) f → All f
  spelled_at i f (sort, inl (named, h)) = role_told i (is_noted fs i) refl sort named (token_of t i).origin refl f h
  spelled_at i f (sort, inr (named, e, h)) = opaque_told i f sort named e h

  spelled_told : (f : Fact) → Spelled f → All f
  spelled_told f (i, x, lt, ax, h) = spelled_at i f (subst (λ z. SpelledTells old new (is_noted fs i) z f) (token_read t.tokens i x ax) h)

  spelled_by : (i : ℕ) (f : Fact) → is_identifier t i ≡ true → SpelledTells old new (is_noted fs i) (token_of t i) f → Spelled f
  spelled_by i f sort h = (i, token_of t i, slice_get_within t.tokens i (token_of t i) (token_is i sort), token_is i sort, h)

  with_role : (i : ℕ) (p : Place) (b : Bool) → is_noted fs i ≡ b → is_identifier t i ≡ true → IsPlaced t old i p → Spelled (fact.HasRole p (role_of b))
  with_role i p b e sort placed =
      spelled_by i (fact.HasRole p (role_of b)) sort (
        sort,
        inl (
          placed.spelled,
          subst (λ z. RoleAt (role_of z) (fact.HasRole p (role_of b)) (token_of t i).origin) (sym e)
              (subst (λ z. RoleAt (role_of b) (fact.HasRole p (role_of b)) z) (sym placed.comes) refl),
        ),
      )

  not_noted : (i : ℕ) → ¬ Contains s.hidden i → is_noted fs i ≡ false
  not_noted i h = by (is_noted fs i) refl
    where
      by : (b : Bool) → is_noted fs i ≡ b → is_noted fs i ≡ false
      by true e = absurd (h (noted_from s.hidden fs firsts i e))
      by false e = e

  opaque_by : (i : ℕ) (p : Place) (name : Name) → IsOneOf old new name → IsHidden t s name i → p ≡ place_at t i → Spelled (fact.OpaqueAt p)
  opaque_by i p name one h e =
      spelled_by i (fact.OpaqueAt p) h.sort (
        h.sort,
        inr (subst (IsOneOf old new) (sym h.spelled) one, noted_to s.hidden fs firsts i h.there, ap fact.OpaqueAt e),
      )

  -- ---- occurrences

  abbrev Occurs : Bool → List Occurrence → Fact → Type 0
  Occurs declares xs f = AnyTells unit t s old declares xs f

  abbrev One : Bool → Occurrence → Fact → Type 0
  One declares x f = OccurrenceTells unit t s old declares x f

  denotes : (x : Occurrence) (p : Place) → Contains (occurrences s) x → name_at t x.0 ≡ old → (token_of t x.0).origin ≡ At p → Denotes unit t s old new p (key_of unit t s x.0 x.1) x
  denotes x p there named comes = record { occurs = there; placed = record { spelled = named; comes = comes }; keyed = refl }

  said_at : (x : Occurrence) (declares : Bool) (p : Place) (f : Fact) → Contains (occurrences s) x → (declares ≡ true → Contains (declaring s) x) → name_at t x.0 ≡ old → (token_of t x.0).origin ≡ At p
      → SaysAt (declares ≡ true) (HasKind t s x.1) (IsAtFileScope t s x.1) (key_of unit t s x.0 x.1) p f → All f
  said_at x declares p f there own named comes (inl (inl h)) = subst All (sym h) (x, denotes x p there named comes)
  said_at x declares p f there own named comes (inl (inr (e, h))) = subst All (sym h) (x, denotes x p there named comes, own e)
  said_at x declares p f there own named comes (inr (inl (c, is, h))) = subst All (sym h) (x, p, denotes x p there named comes, is)
  said_at x declares p f there own named comes (inr (inr (is, h))) = subst All (sym h) (x, p, denotes x p there named comes, is)

  said_by : (x : Occurrence) (declares : Bool) (f : Fact) → Contains (occurrences s) x → (declares ≡ true → Contains (declaring s) x) → name_at t x.0 ≡ old → (o : Origin) → (token_of t x.0).origin ≡ o
      → SaysBy (declares ≡ true) (HasKind t s x.1) (IsAtFileScope t s x.1) (key_of unit t s x.0 x.1) (token_of t x.0).site f o → All f
  said_by x declares f there own named (At p) comes h = said_at x declares p f there own named comes h
  said_by x declares f there own named Made comes h = subst All (sym h) (x, there, named, comes, refl, refl)

  one_told : (x : Occurrence) (declares : Bool) (f : Fact) → Contains (occurrences s) x → (declares ≡ true → Contains (declaring s) x) → One declares x f → All f
  one_told x declares f there own (named, h) = said_by x declares f there own named (token_of t x.0).origin refl h

  in_declaring : (x : Occurrence) → Contains (declaring s) x → Contains (occurrences s) x
  in_declaring x h = Contains-append_left (declaring s) (used_in s) x h

  declares_told : (f : Fact) → Occurs true (declaring s) f → All f
  declares_told f (x, there, h) = one_told x true f (in_declaring x there) (λ e. there) h

  uses_told : (f : Fact) → Occurs false (used_in s) f → All f
  uses_told f (x, there, h) = one_told x false f (Contains-append_right (declaring s) (used_in s) x there) (λ e. absurd (true≢false (sym e))) h

  new_told : (f : Fact) → AnyIsNew unit t s new (declaring s) f → All f
  new_told f (x, there, named, shared, h) = subst All (sym h) (x, there, named, refl, shared)

  -- ---- the other way round

  abbrev Either : Fact → Type 0
  Either f = Occurs true (declaring s) f ⊎ Occurs false (used_in s) f

  abbrev Parts : Fact → Type 0
  Parts f = (Either f ⊎ AnyIsNew unit t s new (declaring s) f) ⊎ (Spelled f ⊎ IsOfUnit unit t s old new f)

  -- an identifier at a place says what it says, whether it declares or not
  occurs_at : (x : Occurrence) (p : Place) (f : Fact) → Contains (occurrences s) x → IsPlaced t old x.0 p
      → ((declares : Bool) → SaysAt (declares ≡ true) (HasKind t s x.1) (IsAtFileScope t s x.1) (key_of unit t s x.0 x.1) p f) → Either f
  occurs_at x p f there placed h =
      elim (Contains-append_cases (declaring s) (used_in s) x there) [
        | inl k ↦ inl (x, k, (placed.spelled, here true))
        | inr k ↦ inr (x, k, (placed.spelled, here false))
      ]
    where
      here : (declares : Bool) → SaysBy (declares ≡ true) (HasKind t s x.1) (IsAtFileScope t s x.1) (key_of unit t s x.0 x.1) (token_of t x.0).site f (token_of t x.0).origin
      here declares = subst (λ z. SaysBy (declares ≡ true) (HasKind t s x.1) (IsAtFileScope t s x.1) (key_of unit t s x.0 x.1) (token_of t x.0).site f z) (sym placed.comes) (h declares)

  untold : (f : Fact) → All f → Parts f
  untold (fact.Denotes p k) (x, d) =
      inl (inl (occurs_at x p (fact.Denotes p k) d.occurs d.placed (λ declares. inl (inl (ap (fact.Denotes p) d.keyed)))))
  untold (fact.Declares k p) (x, d, own) = inl (inl (inl (x, own, (d.placed.spelled, here))))
    where
      here : SaysBy (true ≡ true) (HasKind t s x.1) (IsAtFileScope t s x.1) (key_of unit t s x.0 x.1) (token_of t x.0).site (fact.Declares k p) (token_of t x.0).origin
      here =
          subst (λ z. SaysBy (true ≡ true) (HasKind t s x.1) (IsAtFileScope t s x.1) (key_of unit t s x.0 x.1) (token_of t x.0).site (fact.Declares k p) z) (sym d.placed.comes)
          (inl (inr (refl, ap (λ z. fact.Declares z p) d.keyed)))
  untold (fact.OfKind k c) (x, p, d, is) =
      inl (inl (occurs_at x p (fact.OfKind k c) d.occurs d.placed (λ declares. inr (inl (c, is, ap (λ z. fact.OfKind z c) d.keyed)))))
  untold (fact.FileScope k) (x, p, d, is) =
      inl (inl (occurs_at x p (fact.FileScope k) d.occurs d.placed (λ declares. inr (inr (is, ap fact.FileScope d.keyed)))))
  untold (fact.HasRole p role.Final) (i, placed, final) = inr (inl (with_role i p false (not_noted i final.elsewhere) final.sort placed))
  untold (fact.HasRole p role.Opaque) (i, placed, hidden) = inr (inl (with_role i p true (noted_to s.hidden fs firsts i hidden.there) hidden.sort placed))
  untold (fact.MadeDenotes k p) (x, there, named, comes, placed, keyed) =
      inl (inl (elim (Contains-append_cases (declaring s) (used_in s) x there) [
        | inl m ↦ inl (x, m, (named, here true))
        | inr m ↦ inr (x, m, (named, here false))
      ]))
    where
      here : (declares : Bool) → SaysBy (declares ≡ true) (HasKind t s x.1) (IsAtFileScope t s x.1) (key_of unit t s x.0 x.1) (token_of t x.0).site (fact.MadeDenotes k p) (token_of t x.0).origin
      here declares =
          subst (λ z. SaysBy (declares ≡ true) (HasKind t s x.1) (IsAtFileScope t s x.1) (key_of unit t s x.0 x.1) (token_of t x.0).site (fact.MadeDenotes k p) z) (sym comes)
          (ap (λ z. fact.MadeDenotes z p) keyed ∙ ap (fact.MadeDenotes (key_of unit t s x.0 x.1)) placed)
  untold (fact.NewKey k) (x, there, named, keyed, shared) =
      inl (inr (x, there, named, ap is_shared (sym keyed) ∙ shared, ap fact.NewKey keyed))
  untold (fact.OpaqueAt p) (i, inl h, e) = inr (inl (opaque_by i p old (inl refl) h e))
  untold (fact.OpaqueAt p) (i, inr h, e) = inr (inl (opaque_by i p new (inr refl) h e))
  untold (fact.Conflict k p) h = inr (inr (k, p, refl, h))
  untold _ h = absurd h

  told : (f : Fact) → Parts f → All f
  told f (inl (inl (inl h))) = declares_told f h
  told f (inl (inl (inr h))) = uses_told f h
  told f (inl (inr h)) = new_told f h
  told f (inr (inl h)) = spelled_told f h
  told f (inr (inr (k, p, e, h))) = subst All (sym e) h

  -- ---- in the order in which they are added

  split_any : (declares : Bool) (xs ys : List Occurrence) (f : Fact) → Occurs declares (xs ++ ys) f → Occurs declares xs f ⊎ Occurs declares ys f
  split_any declares xs ys f (x, there, h) = elim (Contains-append_cases xs ys x there) [ inl k ↦ inl (x, k, h) | inr k ↦ inr (x, k, h) ]

  split_new : (xs ys : List Occurrence) (f : Fact) → AnyIsNew unit t s new (xs ++ ys) f → AnyIsNew unit t s new xs f ⊎ AnyIsNew unit t s new ys f
  split_new xs ys f (x, there, named, shared, h) =
      elim (Contains-append_cases xs ys x there) [
        | inl k ↦ inl (x, k, named, shared, h)
        | inr k ↦ inr (x, k, named, shared, h)
      ]

  abbrev pub OfList : List Occurrence → Fact → Type 0
  OfList xs f = Occurs true xs f ⊎ AnyIsNew unit t s new xs f

  abbrev pub InOrder : Fact → Type 0
  InOrder f = (((OfList (declared_in s) f ⊎ OfList (members_in s) f) ⊎ Occurs false (used_in s) f) ⊎ Spelled f) ⊎ IsOfUnit unit t s old new f

  pub in_order : (f : Fact) → All f → InOrder f
  in_order f h = by (untold f h)
    where
      by : Parts f → InOrder f
      by (inl (inl (inl k))) = elim (split_any true (declared_in s) (members_in s) f k) [ inl m ↦ inl (inl (inl (inl (inl m)))) | inr m ↦ inl (inl (inl (inr (inl m)))) ]
      by (inl (inl (inr k))) = inl (inl (inr k))
      by (inl (inr k)) = elim (split_new (declared_in s) (members_in s) f k) [ inl m ↦ inl (inl (inl (inl (inr m)))) | inr m ↦ inl (inl (inl (inr (inr m)))) ]
      by (inr (inl k)) = inl (inr k)
      by (inr (inr k)) = inr k

  left_in : (x : Occurrence) → Contains (declared_in s) x → Contains (declaring s) x
  left_in x h = Contains-append_left (declared_in s) (members_in s) x h

  right_in : (x : Occurrence) → Contains (members_in s) x → Contains (declaring s) x
  right_in x h = Contains-append_right (declared_in s) (members_in s) x h

  pub from_order : (f : Fact) → InOrder f → All f
  from_order f (inl (inl (inl (inl (inl (x, there, h)))))) = declares_told f (x, left_in x there, h)
  from_order f (inl (inl (inl (inl (inr (x, there, named, shared, h)))))) = new_told f (x, left_in x there, named, shared, h)
  from_order f (inl (inl (inl (inr (inl (x, there, h)))))) = declares_told f (x, right_in x there, h)
  from_order f (inl (inl (inl (inr (inr (x, there, named, shared, h)))))) = new_told f (x, right_in x there, named, shared, h)
  from_order f (inl (inl (inr h))) = uses_told f h
  from_order f (inl (inr h)) = spelled_told f h
  from_order f (inr h) = told f (inr (inr h))
