-- The declarations and members of a unit are consistent.
use Rattle.std.specs.Prelude.{◌≡◌, ◌⊎◌, ℕ, zero, suc, ◌+◌, ◌<◌, ◌≤◌, Bool, true, false, not, ◌&&◌, ◌||◌, ◌==◌, if◌then◌else◌, Option, Some, None, is_some, unwrap_or, Result, Ok, Err, List, [], ◌∷◌, ◌++◌, map, filter, length, take, eqb, slice_get, slice_index_or, Contains}
use Rattle.std.specs.List.{list_any}
use Rattle.std.proofs.Common.{refl, sym, ◌∙◌, ap, subst, inl, inr, arith}
use Rattle.std.proofs.lemmas.Bool.{eqb-true, eq-eqb}
use Rattle.std.proofs.lemmas.List.{map-append}
use Rattle.std.proofs.lemmas.List.Elements.{Contains-append_cases, Contains-append_left, Contains-append_right}
use Rattle.std.proofs.lemmas.Option.{slice_get_within}
use Rattle.cr_base.specs.declared.Kind.{Kind}
use Rattle.cr_base.specs.declared.Kind.TheVariants as kind
use Rattle.cr_base.specs.declared.cause.IllCause.{IllCause}
use Rattle.cr_base.specs.declared.cause.IllCause.TheVariants as cause
use Rattle.cr_grammar.specs.declared.symbols.NonTerm.{NonTerm}
use Rattle.cr_grammar.specs.declared.symbols.NonTerm.TheVariants as n
use Rattle.cr_grammar.specs.declared.symbols.Action.{Action}
use Rattle.cr_grammar.specs.declared.symbols.Action.TheVariants as a
use Rattle.cr_ll.specs.Derivation.{Item, Passed, Due, Asked, Trees, none, token, action, node}
use Rattle.cr_scope.specs.declared.Space.TheVariants as space
use Rattle.cr_scope.specs.declared.Linkage.{Linkage}
use Rattle.cr_scope.specs.declared.Linkage.TheVariants as linkage
use Rattle.cr_scope.specs.Declarations.{Entry, same_name}
use Rattle.cr_scope.specs.Linkage.{has_linkage}
use Rattle.cr_scope.specs.Redeclaration.{clashes, repeats}
use Rattle.cr_capture.specs.Renaming.{AreAccepted}
use Rattle.cr_capture.proofs.KeptLinkage.{same_names}
use Rattle.cr_capture.proofs.KeptTag.{front_or_end}
use Rattle.cr_types.specs.Types.{CType, Void, Arith}
use Rattle.cr_decl.specs.declared.SpecWord.{SpecWord}
use Rattle.cr_decl.specs.declared.SpecWord.TheVariants as w
use Rattle.cr_decl.specs.Specifiers.{may_follow, is_permitted}
use Rattle.cr_typing.specs.Initialisers.{Braces, starts_from}
use Rattle.cr_typing.specs.ExpressionTypes.{decayed}
use Rattle.cr_binding.specs.Source.{Source, name_at, text_at, is_identifier, is_built_in}
use Rattle.cr_binding.specs.State.{Declaration, Member, IsParameter, Target, Whole, Within, State, start}
use Rattle.cr_binding.specs.Entities.{entry, token_or, is_linked, is_typedef, is_typedef_kind}
use Rattle.cr_binding.specs.Declaring.{failed, used, declare, declaration, declaration_at, meaning_here, linkage_for, linkage_seen, is_internal, has_word, looked_up, declare_as, kind_of, declare_named, declare_plain, declare_parameter}
use Rattle.cr_binding.specs.Specifying.{specifier_at, specified, announced, read_in, named_type, atomic_type, specified_by, type_specifier, specified_type, declared_type}
use Rattle.cr_binding.specs.Tags.{is_record_kind, with_record, new_type, record_of, tag_here, declare_tag, tag_again, tag_alone, filling, completing, tag_definition, untagged, used_tag}
use Rattle.cr_binding.specs.RecordMembers.{is_named, members_of, least_token, repeated, select, write_unless, named_member, add_member, brought_in, add_anonymous, splice, end_record}
use Rattle.cr_binding.specs.Expressions.{operand, is_function_name, is_value, denoting, identifier, selecting, is_arrow}
use Rattle.cr_binding.specs.Initialising.{dotted, designating, designator, initialiser}
use Rattle.cr_binding.specs.Scoping.{entered_in, body_within, unless_failed, jump_to, all_jumps, body_ended}
use Rattle.cr_binding.specs.Actions.{passed, acted}
use Rattle.cr_binding.specs.Binding.{is_empty, ended_as, ended, asked, unless_refused, goes_on, walk}
use Rattle.cr_binding.specs.MembersStay.{AreDistinct}
use Rattle.cr_binding_law.specs.ConsistentUnits.{IsWritten, IsConsistent, UnitsAreConsistent}

-- ---- lists

none_any : {A : Type 0} (p : A → Bool) (xs : List A) (j : ℕ) (x : A) → list_any p xs ≡ false → slice_get xs j ≡ Some x → p x ≡ false
none_any p [] j x h at = cc
none_any p (y ∷ xs) zero x h at = let e : y ≡ x = cc in ap p (sym e) ∙ first (p y) (list_any p xs) h
  where
    first : (a b : Bool) → (a || b) ≡ false → a ≡ false
    first true b h = cc
    first false b h = refl
none_any p (y ∷ xs) (suc j) x h at = none_any p xs j x (rest (p y) (list_any p xs) h) at
  where
    rest : (a b : Bool) → (a || b) ≡ false → b ≡ false
    rest true b h = cc
    rest false b h = h

pub in_tail : {A : Type 0} (y x : A) (xs : List A) → Contains xs x → Contains (y ∷ xs) x
in_tail y x xs c = (suc c.0, omega (arith, c.1), c.2)

-- an element is the first one or stands behind it
pub head_or_tail : {A : Type 0} (y x : A) (xs : List A) → Contains (y ∷ xs) x → (y ≡ x) ⊎ Contains xs x
head_or_tail y x xs c = by c.0 c.1 c.2
  where
    by : (k : ℕ) → k < length (y ∷ xs) → slice_index_or (y ∷ xs) k x ≡ x → (y ≡ x) ⊎ Contains xs x
    by zero w e = inl e
    by (suc k) w e = inr (k, omega (arith, w), e)

none_any_of : {A : Type 0} (p : A → Bool) (xs : List A) (x : A) → list_any p xs ≡ false → Contains xs x → p x ≡ false
none_any_of p [] x h c = absurd (omega (arith, c.1))
none_any_of p (y ∷ xs) x h c = by (head_or_tail y x xs c) (λ d. none_any_of p xs x (rest (p y) (list_any p xs) h) d)
  where
    first : (a b : Bool) → (a || b) ≡ false → a ≡ false
    first true b h = cc
    first false b h = refl

    rest : (a b : Bool) → (a || b) ≡ false → b ≡ false
    rest true b h = cc
    rest false b h = h

    by : (y ≡ x) ⊎ Contains xs x → (Contains xs x → p x ≡ false) → p x ≡ false
    by (inl e) more = ap p (sym e) ∙ first (p y) (list_any p xs) h
    by (inr d) more = more d

pub passing : {A : Type 0} (p : A → Bool) (xs : List A) (x : A) → Contains xs x → p x ≡ true → Contains (filter p xs) x
passing p [] x c h = absurd (omega (arith, c.1))
passing p (y ∷ xs) x c h = by (head_or_tail y x xs c) (p y) refl (λ d. passing p xs x d h)
  where
    by : (y ≡ x) ⊎ Contains xs x → (b : Bool) → p y ≡ b → (Contains xs x → Contains (filter p xs) x) → Contains (if b then y ∷ filter p xs else filter p xs) x
    by (inl e) true q more = (0, omega arith, e)
    by (inl e) false q more = let k : true ≡ false = sym h ∙ ap p (sym e) ∙ q in cc
    by (inr d) true q more = in_tail y x (filter p xs) (more d)
    by (inr d) false q more = more d

none_pass : {A : Type 0} (p : A → Bool) (xs : List A) (x : A) → filter p xs ≡ [] → Contains xs x → p x ≡ false
none_pass p xs x h c = by (p x) refl
  where
    by : (b : Bool) → p x ≡ b → b ≡ false
    by false e = refl
    by true e = let k : Contains [] x = subst (λ l. Contains l x) h (passing p xs x c e) in absurd (omega (arith, k.1))

pub passed_of : {A : Type 0} (p : A → Bool) (xs : List A) (x : A) → Contains (filter p xs) x → Contains xs x × (p x ≡ true)
passed_of p [] x c = absurd (omega (arith, c.1))
passed_of p (y ∷ xs) x c = by (p y) refl c (λ d. passed_of p xs x d)
  where
    by : (b : Bool) → p y ≡ b → Contains (if b then y ∷ filter p xs else filter p xs) x → (Contains (filter p xs) x → Contains xs x × (p x ≡ true)) → Contains (y ∷ xs) x × (p x ≡ true)
    by true q d more = elim (head_or_tail y x (filter p xs) d) [
      | inl e ↦ ((0, omega arith, e), ap p (sym e) ∙ q)
      | inr d ↦ (let m : Contains xs x × (p x ≡ true) = more d in (in_tail y x xs m.0, m.1))
    ]
    by false q d more = let m : Contains xs x × (p x ≡ true) = more d in (in_tail y x xs m.0, m.1)

-- a member that was brought in has the token of one that stands there
brought_from : (r : ℕ) (ms : List Member) (m : Member) → Contains (map {A = Member} (λ m. record m { holder = r }) ms) m → (k : Member) × Contains ms k × (k.token ≡ m.token) × (k.own ≡ m.own)
brought_from r [] m c = absurd (omega (arith, c.1))
brought_from r (x ∷ ms) m c =
    by (head_or_tail (record x { holder = r }) m (map {A = Member} (λ m. record m { holder = r }) ms) c) (λ d. brought_from r ms m d)
  where
    by : (record x { holder = r } ≡ m) ⊎ Contains (map {A = Member} (λ m. record m { holder = r }) ms) m → (Contains (map {A = Member} (λ m. record m { holder = r }) ms) m → (k : Member) × Contains ms k × (k.token ≡ m.token) × (k.own ≡ m.own)) → (k : Member) × Contains (x ∷ ms) k × (k.token ≡ m.token) × (k.own ≡ m.own)
    by (inl e) more = (x, (0, omega arith, refl), ap (λ (z : Member). z.token) e, ap (λ (z : Member). z.own) e)
    by (inr d) more = let k : (k : Member) × Contains ms k × (k.token ≡ m.token) × (k.own ≡ m.own) = more d in (k.0, in_tail x k.0 ms k.1, k.2, k.3)

brought_to : (r : ℕ) (ms : List Member) (m : Member) → Contains (map {A = Member} (λ m. record m { holder = r }) ms) m → m.holder ≡ r
brought_to r [] m c = absurd (omega (arith, c.1))
brought_to r (x ∷ ms) m c =
    elim (head_or_tail (record x { holder = r }) m (map {A = Member} (λ m. record m { holder = r }) ms) c) [
      | inl e ↦ ap (λ (z : Member). z.holder) (sym e)
      | inr d ↦ brought_to r ms m d
    ]

no_least : (ms : List Member) → least_token ms ≡ None → ms ≡ []
no_least [] h = refl
no_least (m ∷ ms) h = cc

short_front : (p : List ℕ) → length (take 1 p) ≤ 1
short_front [] = omega arith
short_front (x ∷ p) = omega arith

module _ (t : Source) where
  abbrev Stays : State → State → Type 0
  Stays s x = IsConsistent t s → IsConsistent t x

  same : (s x : State) → x.declarations ≡ s.declarations → x.members ≡ s.members → x.keyword ≡ s.keyword → Stays s x
  same s x d m k c =
      record {
        accepted = subst (λ ds. AreAccepted (map (entry t) ds)) (sym d) c.accepted;
        typedefs = λ e there. c.typedefs e (subst (λ ds. Contains ds e) d there);
        linked = λ e there. c.linked e (subst (λ ds. Contains ds e) d there);
        labels = λ e there. c.labels e (subst (λ ds. Contains ds e) d there);
        members = subst (AreDistinct t) (sym m) c.members;
        written = λ k there. subst (λ ms. IsWritten ms k) (sym m) (c.written k (subst (λ ms. Contains ms k) m there));
        keyword = ap is_typedef_kind k ∙ c.keyword;
      }

  if_stays : (b : Bool) (s x y : State) → Stays s x → Stays s y → Stays s (if b then x else y)
  if_stays true s x y g h = g
  if_stays false s x y g h = h

  itself : (s : State) → Stays s s
  itself s c = c

  -- ---- declarations

  module _ (d : Declaration) (s : State) (plain : is_typedef d ≡ true → d.space ≡ space.Ordinary) (linked : is_linked d ≡ true → (d.space ≡ space.Ordinary) × (is_typedef d ≡ false)) (short : d.space ≡ space.Label → length d.path ≤ 1) (c : IsConsistent t s) where
    added_accepted : list_any (clashes (entry t d)) (map (entry t) s.declarations) ≡ false → AreAccepted (map (entry t) s.declarations ++ entry t d ∷ [])
    added_accepted fine i j e g w at_e at_g =
        by (front_or_end (map (entry t) s.declarations) (entry t d) i e at_e) (front_or_end (map (entry t) s.declarations) (entry t d) j g at_g)
      where
        by : (slice_get (map (entry t) s.declarations) i ≡ Some e) ⊎ ((i ≡ length (map (entry t) s.declarations)) × (entry t d ≡ e)) → (slice_get (map (entry t) s.declarations) j ≡ Some g) ⊎ ((j ≡ length (map (entry t) s.declarations)) × (entry t d ≡ g)) → clashes e g ≡ false
        by (inl a) (inl b) = c.accepted i j e g w a b
        by (inr a) (inl b) =
            ap (λ x. clashes x g) (sym a.1) ∙ none_any (clashes (entry t d)) (map (entry t) s.declarations) j g fine b
        by (inl a) (inr b) =
            let k : i < length (map (entry t) s.declarations) = slice_get_within (map (entry t) s.declarations) i e a in
            let l : j ≡ length (map (entry t) s.declarations) = b.0 in
            absurd (omega (arith, k, l, w))
        by (inr a) (inr b) =
            let k : i ≡ length (map (entry t) s.declarations) = a.0 in
            let l : j ≡ length (map (entry t) s.declarations) = b.0 in
            absurd (omega (arith, k, l, w))

    added : list_any (clashes (entry t d)) (map (entry t) s.declarations) ≡ false → IsConsistent t (record s { declarations = s.declarations ++ d ∷ [] })
    added fine =
        record {
          accepted = subst AreAccepted (sym (map-append (entry t) s.declarations (d ∷ []))) (added_accepted fine);
          typedefs = λ e there h. typedef e (Contains-append_cases s.declarations (d ∷ []) e there) h;
          linked = λ e there h. has e (Contains-append_cases s.declarations (d ∷ []) e there) h;
          labels = λ e there h. label e (Contains-append_cases s.declarations (d ∷ []) e there) h;
          members = c.members;
          written = c.written;
          keyword = c.keyword;
        }
      where
        only : (e : Declaration) → Contains (d ∷ []) e → d ≡ e
        only e there = elim (head_or_tail d e [] there) [ inl k ↦ k | inr k ↦ absurd (omega (arith, k.1)) ]

        typedef : (e : Declaration) → Contains s.declarations e ⊎ Contains (d ∷ []) e → is_typedef e ≡ true → e.space ≡ space.Ordinary
        typedef e (inl there) h = c.typedefs e there h
        typedef e (inr there) h =
            let k : d ≡ e = only e there in
            ap (λ (x : Declaration). x.space) (sym k) ∙ plain (ap is_typedef k ∙ h)

        has : (e : Declaration) → Contains s.declarations e ⊎ Contains (d ∷ []) e → is_linked e ≡ true → (e.space ≡ space.Ordinary) × (is_typedef e ≡ false)
        has e (inl there) h = c.linked e there h
        has e (inr there) h =
            let k : d ≡ e = only e there in
            subst (λ (x : Declaration). (x.space ≡ space.Ordinary) × (is_typedef x ≡ false)) k (linked (ap is_linked k ∙ h))

        label : (e : Declaration) → Contains s.declarations e ⊎ Contains (d ∷ []) e → e.space ≡ space.Label → length e.path ≤ 1
        label e (inl there) h = c.labels e there h
        label e (inr there) h =
            let k : d ≡ e = only e there in
            subst (λ (x : Declaration). length x.path ≤ 1) k (short (ap (λ (x : Declaration). x.space) k ∙ h))

    declare_stays : IsConsistent t (declare t d s)
    declare_stays = by (list_any (clashes (entry t d)) (map (entry t) s.declarations)) refl
      where
        by : (b : Bool) → list_any (clashes (entry t d)) (map (entry t) s.declarations) ≡ b → IsConsistent t (if b then failed cause.Redeclared d.token s else record s { declarations = s.declarations ++ d ∷ [] })
        by true e = same s (failed cause.Redeclared d.token s) refl refl refl c
        by false e = added e

  ordinary_stays : (k : Kind) (l : Linkage) (i : ℕ) (c : CType) (s x : State) → (has_linkage l ≡ true → is_typedef_kind k ≡ false) → Stays x (declare t (declaration space.Ordinary k l i c s) x)
  ordinary_stays k l i c s x has k' =
      declare_stays (declaration space.Ordinary k l i c s) x (λ h. refl) (λ h. (refl, has h)) (λ h. absurd (differ h)) k'
    where
      differ : space.Ordinary ≡ space.Label → ⊥
      differ e = cc

  -- what has no linkage
  unlinked : {P : Type 0} → has_linkage linkage.None ≡ true → P
  unlinked h = cc

  kind_linked : (what : Kind) (e : Option Declaration) (s : State) → has_linkage (linkage_for t e what s) ≡ true → is_typedef_kind what ≡ false
  kind_linked kind.Typedef e s h = unlinked h
  kind_linked kind.Function e s h = refl
  kind_linked kind.Object e s h = refl
  kind_linked kind.Enumerator e s h = refl
  kind_linked kind.Struct e s h = refl
  kind_linked kind.Union e s h = refl
  kind_linked kind.Enum e s h = refl
  kind_linked kind.Member e s h = refl
  kind_linked kind.Label e s h = refl

  as_stays : (k : Option ℕ) (what : Kind) (i : ℕ) (c : CType) (s : State) → Stays s (declare_as t k what i c s)
  as_stays k what i c s consistent =
      let l = linkage_for t (declaration_at s k) what s in
      ordinary_stays what l i c s (linkage_seen l i k s) (kind_linked what (declaration_at s k) s) (if_stays (is_internal l && not (has_word w.Static s)) s (looked_up space.Ordinary i k s) s (same s _ refl refl refl) (itself s) consistent)

  named_stays : (i : Option ℕ) (c : CType) (s : State) → Stays s (declare_named t i c s)
  named_stays None c s k = k
  named_stays (Some i) c s k = as_stays (meaning_here t space.Ordinary i s) (kind_of c s) i c s k

  parameter_stays : (i : Option ℕ) (c : CType) (s : State) → Stays s (declare_parameter t i c s)
  parameter_stays None c s k = k
  parameter_stays (Some i) c s k =
      let x = used (IsParameter i) s in
      ordinary_stays kind.Object linkage.None i (decayed c) x x unlinked (same s x refl refl refl k)

  label_stays : (i : ℕ) (s : State) → Stays s (declare_plain t space.Label kind.Label i Void s)
  label_stays i s k =
      declare_stays (declaration space.Label kind.Label linkage.None i Void s) s (λ h. absurd (differ h)) unlinked (λ h. short_front s.present) k
    where
      differ : false ≡ true → ⊥
      differ e = cc

  tag_stays : (i : ℕ) (c : CType) (s : State) → Stays s (declare_tag t i c s)
  tag_stays i c s k =
      let d = declaration space.Tag s.keyword linkage.None i c s in
      same (declare t d s) _ refl refl refl (declare_stays d s (λ h. absurd (differ (sym h ∙ k.keyword))) unlinked (λ h. absurd (unlike h)) k)
    where
      differ : true ≡ false → ⊥
      differ e = cc

      unlike : space.Tag ≡ space.Label → ⊥
      unlike e = cc

  -- ---- specifiers

  specified_stays : (x : Option SpecWord) (i : ℕ) (s : State) → Stays s (specified x i s)
  specified_stays None i s = itself s
  specified_stays (Some x) i s =
      if_stays (may_follow s.pending.specifiers x) s _ _ (same s _ refl refl refl) (same s _ refl refl refl)

  with_keyword : (k : Kind) (s : State) → is_typedef_kind k ≡ false → Stays s (record s { keyword = k })
  with_keyword k s h c =
      record { accepted = c.accepted; typedefs = c.typedefs; linked = c.linked; labels = c.labels; members = c.members; written = c.written; keyword = h }

  announced_stays : (x : Option SpecWord) (s : State) → Stays s (announced x s)
  announced_stays None s = itself s
  announced_stays (Some w.Struct) s = with_keyword kind.Struct s refl
  announced_stays (Some w.Union) s = with_keyword kind.Union s refl
  announced_stays (Some w.Enum) s = with_keyword kind.Enum s refl
  announced_stays (Some _) s = itself s

  read_stays : (m : NonTerm) (i : ℕ) (s : State) → Stays s (read_in m t i s)
  read_stays n.Mod i s = specified_stays _ i s
  read_stays n.Specs0 i s = specified_stays _ i s
  read_stays n.SpecsB i s = specified_stays _ i s
  read_stays n.Rec i s = announced_stays _ s
  read_stays n.Enum i s = announced_stays _ s
  read_stays _ i s = itself s

  passed_stays : (m : NonTerm) (i : ℕ) (s : State) → Stays s (passed t m i s)
  passed_stays m i s c = same (read_in m t i s) _ refl refl refl (read_stays m i s c)

  named_type_stays : (k : Option ℕ) (d : Option Declaration) (i : ℕ) (s : State) → Stays s (named_type k d i s)
  named_type_stays k None i s = same s _ refl refl refl
  named_type_stays k (Some d) i s = same s _ refl refl refl

  atomic_stays : (cs : List CType) (s : State) → Stays s (atomic_type cs s)
  atomic_stays [] s = same s _ refl refl refl
  atomic_stays (c ∷ cs) s = same s _ refl refl refl

  by_stays : (x : Option SpecWord) (s : State) → Stays s (specified_by x s)
  by_stays None s = itself s
  by_stays (Some w.Atomic) s = atomic_stays s.values s
  by_stays (Some _) s = itself s

  specifier_stays : (i : ℕ) (s : State) → Stays s (type_specifier t i s)
  specifier_stays i s =
      let k = meaning_here t space.Ordinary i s in
      if_stays (is_identifier t i) s _ _ (named_type_stays k (declaration_at s k) i s) (by_stays (specifier_at t i) s)

  -- ---- tags

  record_stays : (i : ℕ) (s : State) → Stays s (with_record i s)
  record_stays i s = if_stays (is_record_kind s.keyword) s _ _ (same s _ refl refl refl) (itself s)

  again_stays : (d : Option Declaration) (i : ℕ) (s : State) → Stays s (tag_again d t i s)
  again_stays None i s c = tag_stays i (new_type s) (with_record i s) (record_stays i s c)
  again_stays (Some d) i s c = tag_stays i d.type s c

  definition_stays : (i : ℕ) (s : State) → Stays s (tag_definition t i s)
  definition_stays i s =
      let first = token_or i (tag_here t i s) in
      let x = tag_alone t i s in
      if_stays (list_any (eqb first) s.completed) s _ _ (same s _ refl refl refl) (λ c. same x (filling (completing first x)) refl refl refl (again_stays (tag_here t i s) i s c))

  untagged_stays : (i : ℕ) (s : State) → Stays s (untagged i s)
  untagged_stays i s c =
      let x : State = record s { pending = record s.pending { base = Some (new_type s); is_untagged = is_record_kind s.keyword } } in
      same (with_record i x) _ refl refl refl (record_stays i x (same s x refl refl refl c))

  used_tag_stays : (k : Option ℕ) (d : Option Declaration) (i : ℕ) (s : State) → Stays s (used_tag k d t i s)
  used_tag_stays k None i s c =
      again_stays None i (looked_up space.Tag i None s) (same s (looked_up space.Tag i None s) refl refl refl c)
  used_tag_stays k (Some d) i s c =
      if_stays (repeats false d.kind s.keyword) s _ _ (same s _ refl refl refl) (same s _ refl refl refl) c

  -- ---- members

  -- members that are new to a record, and differ among themselves
  more_distinct : (r : ℕ) (more : List Member) (s : State) → ((m : Member) → Contains more m → m.holder ≡ r) → AreDistinct t more → repeated t s r more ≡ [] → AreDistinct t s.members → AreDistinct t (s.members ++ more)
  more_distinct r more s held own new before m k in_m in_k holders names =
      by (Contains-append_cases s.members more m in_m) (Contains-append_cases s.members more k in_k)
    where
      meet : (x y : Member) → Contains more x → Contains s.members y → x.holder ≡ y.holder → name_at t x.token ≡ name_at t y.token → ⊥
      meet x y in_x in_y h n =
          let there : Contains (members_of s r) y = passing (λ m. m.holder == r) s.members y in_y (eq-eqb y.holder r (sym h ∙ held x in_x)) in
          let none : list_any (is_named t (name_at t x.token)) (members_of s r) ≡ false = none_pass (λ m. list_any (is_named t (name_at t m.token)) (members_of s r)) more x new in_x in
          let a : same_name (name_at t y.token) (name_at t x.token) ≡ false = none_any_of (is_named t (name_at t x.token)) (members_of s r) y none there in
          let b : same_name (name_at t y.token) (name_at t x.token) ≡ true = same_names (name_at t y.token) (name_at t x.token) (sym n) in
          differ (sym b ∙ a)
        where
          differ : true ≡ false → ⊥
          differ e = cc

      by : Contains s.members m ⊎ Contains more m → Contains s.members k ⊎ Contains more k → m.token ≡ k.token
      by (inl a) (inl b) = before m k a b holders names
      by (inr a) (inr b) = own m k a b holders names
      by (inr a) (inl b) = absurd (meet m k a b holders names)
      by (inl a) (inr b) = absurd (meet k m b a (sym holders) (sym names))

  longer_written : (ms more : List Member) (m : Member) → IsWritten ms m → IsWritten (ms ++ more) m
  longer_written ms more m w =
      record { itself = w.itself; there = Contains-append_left ms more w.itself w.there; own = w.own; same_record = w.same_record; same_token = w.same_token }

  all_written : (ms more : List Member) (m : Member) → ((m : Member) → Contains ms m → IsWritten ms m) → ((m : Member) → Contains more m → IsWritten (ms ++ more) m) → Contains ms m ⊎ Contains more m → IsWritten (ms ++ more) m
  all_written ms more m before new (inl there) = longer_written ms more m (before m there)
  all_written ms more m before new (inr there) = new m there

  write_stays : (r : ℕ) (c : CType) (more : List Member) (s : State) → ((m : Member) → Contains more m → m.holder ≡ r) → (IsConsistent t s → AreDistinct t more) → (IsConsistent t s → (m : Member) → Contains more m → IsWritten (s.members ++ more) m) → Stays s (write_unless (least_token (repeated t s r more)) r c more s)
  write_stays r c more s held own written k = by (least_token (repeated t s r more)) refl
    where
      by : (o : Option ℕ) → least_token (repeated t s r more) ≡ o → IsConsistent t (write_unless o r c more s)
      by (Some i) e = same s (failed cause.Redeclared i s) refl refl refl k
      by None e =
          record {
            accepted = k.accepted;
            typedefs = k.typedefs;
            linked = k.linked;
            labels = k.labels;
            members = more_distinct r more s held (own k) (no_least (repeated t s r more) e) k.members;
            written = λ m there. all_written s.members more m k.written (written k) (Contains-append_cases s.members more m there);
            keyword = k.keyword;
          }

  only_one : (x m : Member) → Contains (x ∷ []) m → x ≡ m
  only_one x m c = elim (head_or_tail x m [] c) [ inl k ↦ k | inr k ↦ absurd (omega (arith, k.1)) ]

  member_stays : (r i : Option ℕ) (c : CType) (s : State) → Stays s (add_member t r i c s)
  member_stays None i c s = itself s
  member_stays (Some r) None c s = itself s
  member_stays (Some r) (Some i) c s =
      let x = named_member r i c s in
      write_stays r c (x ∷ []) s (λ m in_m. ap (λ (z : Member). z.holder) (sym (only_one x m in_m)))
      (λ k m n in_m in_n h e. ap (λ (z : Member). z.token) (sym (only_one x m in_m) ∙ only_one x n in_n))
      (λ k m in_m. record { itself = x; there = Contains-append_right s.members (x ∷ []) x (0, omega arith, refl); own = refl; same_record = ap (λ (z : Member). z.own) (only_one x m in_m); same_token = ap (λ (z : Member). z.token) (only_one x m in_m) })

  brought_distinct : (r q : ℕ) (s : State) → IsConsistent t s → AreDistinct t (brought_in r q s)
  brought_distinct r q s k m n in_m in_n holders names =
      let a : (x : Member) × Contains (members_of s q) x × (x.token ≡ m.token) × (x.own ≡ m.own) = brought_from r (members_of s q) m in_m in
      let b : (x : Member) × Contains (members_of s q) x × (x.token ≡ n.token) × (x.own ≡ n.own) = brought_from r (members_of s q) n in_n in
      let c : Contains s.members a.0 × ((a.0.holder == q) ≡ true) = passed_of (λ m. m.holder == q) s.members a.0 a.1 in
      let d : Contains s.members b.0 × ((b.0.holder == q) ≡ true) = passed_of (λ m. m.holder == q) s.members b.0 b.1 in
      sym a.2
      ∙ k.members a.0 b.0 c.0 d.0 (eqb-true a.0.holder q c.1 ∙ sym (eqb-true b.0.holder q d.1)) (ap (name_at t) a.2 ∙ names ∙ ap (name_at t) (sym b.2))
      ∙ b.2

  brought_written : (r q : ℕ) (s : State) → IsConsistent t s → (m : Member) → Contains (brought_in r q s) m → IsWritten (s.members ++ brought_in r q s) m
  brought_written r q s k m in_m =
      let a : (x : Member) × Contains (members_of s q) x × (x.token ≡ m.token) × (x.own ≡ m.own) = brought_from r (members_of s q) m in_m in
      let c : Contains s.members a.0 × ((a.0.holder == q) ≡ true) = passed_of (λ m. m.holder == q) s.members a.0 a.1 in
      let w : IsWritten s.members a.0 = k.written a.0 c.0 in
      record { itself = w.itself; there = Contains-append_left s.members (brought_in r q s) w.itself w.there; own = w.own; same_record = w.same_record ∙ a.3; same_token = w.same_token ∙ a.2 }

  anonymous_stays : (r q : Option ℕ) (c : CType) (s : State) → Stays s (add_anonymous t r q c s)
  anonymous_stays None q c s = itself s
  anonymous_stays (Some r) None c s = itself s
  anonymous_stays (Some r) (Some q) c s =
      write_stays r c (brought_in r q s) s (λ m in_m. brought_to r (members_of s q) m in_m) (brought_distinct r q s) (brought_written r q s)

  splice_stays : (s : State) → Stays s (splice t s)
  splice_stays s =
      let c = specified_type s.pending in
      if_stays s.pending.is_untagged s _ _ (anonymous_stays s.filled (record_of c) c s) (itself s)

  end_stays : (r : Option ℕ) (s : State) → Stays s (end_record r s)
  end_stays None s = itself s
  end_stays (Some r) s = same s _ refl refl refl

  -- ---- expressions, initialisers and scopes

  denoting_stays : (called : Bool) (k : Option ℕ) (d : Option Declaration) (i : ℕ) (s : State) → Stays s (denoting called k d t i s)
  denoting_stays called k None i s =
      if_stays (called && is_built_in (text_at t i)) s _ _ (same s _ refl refl refl) (same s _ refl refl refl)
  denoting_stays called k (Some d) i s =
      if_stays (is_value d.kind) s _ _ (same s _ refl refl refl) (same s _ refl refl refl)

  identifier_stays : (called : Bool) (i : ℕ) (s : State) → Stays s (identifier called t i s)
  identifier_stays called i s =
      let k = meaning_here t space.Ordinary i s in
      if_stays (s.in_body && is_function_name (text_at t i)) s _ _ (same s _ refl refl refl) (denoting_stays called k (declaration_at s k) i s)

  selecting_stays : (x : Result Member IllCause) (i : ℕ) (s : State) → Stays s (selecting x i s)
  selecting_stays (Err c) i s = same s _ refl refl refl
  selecting_stays (Ok m) i s = same s _ refl refl refl

  designating_stays : (x : Result Member IllCause) (b : Braces) (i : ℕ) (s : State) → Stays s (designating x b i s)
  designating_stays (Err c) b i s = same s _ refl refl refl
  designating_stays (Ok m) b i s = same s _ refl refl refl

  designator_stays : (x : Target) (i : ℕ) (s : State) → Stays s (designator x t i s)
  designator_stays (Whole c) i s = itself s
  designator_stays (Within b) i s = designating_stays (dotted t s (name_at t i) (starts_from b)) b i s

  initialiser_stays : (m : NonTerm) (s : State) → Stays s (initialiser m s)
  initialiser_stays n.InitOpt s = same s _ refl refl refl
  initialiser_stays _ s = same s _ refl refl refl

  entered_stays : (m : NonTerm) (s : State) → Stays s (entered_in m s)
  entered_stays n.Sufs s = same s _ refl refl refl
  entered_stays _ s = same s _ refl refl refl

  body_stays : (k : Option ℕ) (s : State) → Stays s (body_within k s)
  body_stays None s = same s _ refl refl refl
  body_stays (Some k) s = same s _ refl refl refl

  jump_stays : (k : Option ℕ) (i : ℕ) (s : State) → Stays s (jump_to k i s)
  jump_stays None i s = same s _ refl refl refl
  jump_stays (Some k) i s = same s _ refl refl refl

  jumps_stay : (is : List ℕ) (s : State) → Stays s (all_jumps t is s)
  jumps_stay [] s c = c
  jumps_stay (i ∷ is) s c =
      let k = meaning_here t space.Label i s in
      jumps_stay is (unless_failed s (jump_to k i s)) (if_stays (is_some s.fault) s s (jump_to k i s) (itself s) (jump_stays k i s) c)

  ending_stays : (s : State) → Stays s (body_ended t s)
  ending_stays s c = same (all_jumps t s.jumps s) _ refl refl refl (jumps_stay s.jumps s c)

  -- ---- actions, ends of nodes, and the walk

  acted_stays : (m : NonTerm) (first : ℕ) (x : Action) (s : State) → Stays s (acted t m first x s)
  acted_stays m first a.Spec s = specifier_stays first s
  acted_stays m first a.Declare s = named_stays s.pending.name (declared_type s) s
  acted_stays m first a.Param s = parameter_stays s.pending.name (declared_type s) s
  acted_stays m first a.Enumerator s = ordinary_stays kind.Enumerator linkage.None first Arith s s unlinked
  acted_stays m first a.TagDef s = definition_stays s.last s
  acted_stays m first a.TagAlone s = again_stays (tag_here t s.last s) s.last s
  acted_stays m first a.TagUse s = let k = meaning_here t space.Tag s.last s in used_tag_stays k (declaration_at s k) s.last s
  acted_stays m first a.Anon s = untagged_stays (s.last + 1) s
  acted_stays m first a.EndRec s = end_stays s.filled s
  acted_stays m first a.Member s = member_stays s.filled s.pending.name (declared_type s) s
  acted_stays m first a.Splice s = splice_stays s
  acted_stays m first a.Enter s = entered_stays m s
  acted_stays m first a.Body s = body_stays s.pending.parameters s
  acted_stays m first a.EndBody s = ending_stays s
  acted_stays m first a.Label s = label_stays s.last s
  acted_stays m first a.Callee s = identifier_stays true s.last s
  acted_stays m first a.Mention s = identifier_stays false s.last s
  acted_stays m first a.Select s =
      selecting_stays (select t s (is_arrow (text_at t first)) (name_at t s.last) (operand s)) s.last s
  acted_stays m first a.OffMember s = selecting_stays (select t s false (name_at t s.last) (operand s)) s.last s
  acted_stays m first a.InitOf s = initialiser_stays m s
  acted_stays m first a.Desig s = designator_stays s.target s.last s
  acted_stays m first _ s = same s _ refl refl refl

  ended_as_stays : (m : NonTerm) (children : Trees) (before s : State) → Stays s (ended_as m children before s)
  ended_as_stays n.AssMore children before s = if_stays (is_empty children) s _ _ (itself s) (same s _ refl refl refl)
  ended_as_stays n.SpecsB children before s =
      if_stays (is_empty children) s _ _ (if_stays (not (is_permitted s.pending.specifiers.basic)) s _ _ (same s _ refl refl refl) (itself s)) (itself s)
  ended_as_stays _ children before s = same s _ refl refl refl

  asked_stays : (asks : List Item) (s : State) → Stays s (asked asks s)
  asked_stays [] s c = c
  asked_stays (Passed i ∷ asks) s c = asked_stays asks s c
  asked_stays (Due x ∷ asks) s c = asked_stays asks s c
  asked_stays (Asked i answer ∷ asks) s c = asked_stays asks (used _ s) (same s (used _ s) refl refl refl c)

  refused_stays : (r : Option ℕ) (s x : State) → Stays s x → Stays s (unless_refused r s x)
  refused_stays None s x g = g
  refused_stays (Some i) s x g = same s _ refl refl refl

  unless_stays : (s x : State) → Stays s x → Stays s (unless_failed s x)
  unless_stays s x g = if_stays (is_some s.fault) s s x (itself s) g

  walk_stays : (m : NonTerm) (first : Option ℕ) (trees : Trees) (s : State) → Stays s (walk t m first trees s)
  walk_stays m first none s c = c
  walk_stays m first (token i next) s c =
      walk_stays m (Some (unwrap_or first i)) next (goes_on s (passed t m i s)) (unless_stays s _ (refused_stays s.refused s _ (passed_stays m i s)) c)
  walk_stays m first (action x next) s c =
      walk_stays m first next (goes_on s (acted t m (unwrap_or first s.last) x s)) (unless_stays s _ (refused_stays s.refused s _ (acted_stays m (unwrap_or first s.last) x s)) c)
  walk_stays m first (node k asks children next) s c =
      let below = walk t k None children (asked asks s) in
      let y = ended m k children s below in
      let b : IsConsistent t below = walk_stays k None children (asked asks s) (asked_stays asks s c) in
      let e : IsConsistent t y = same (ended_as k children s below) y refl refl refl (ended_as_stays k children s below b) in
      walk_stays m first next (unless_failed s y) (unless_stays s y (λ z. e) c)

  start_consistent : IsConsistent t start
  start_consistent =
      record {
        accepted = λ i j e g w at_e at_g. none_at e at_e;
        typedefs = λ d there h. nothing d there;
        linked = λ d there h. nothing d there;
        labels = λ d there h. absurd (omega (arith, there.1));
        written = λ m there. absurd (omega (arith, there.1));
        members = λ m k in_m in_k h e. absurd (omega (arith, in_m.1));
        keyword = refl;
      }
    where
      none_at : {P : Type 0} (e : Entry) → None ≡ Some e → P
      none_at e h = cc

      nothing : {P : Type 0} (d : Declaration) → Contains [] d → P
      nothing d there = absurd (omega (arith, there.1))

pub units_are_consistent : UnitsAreConsistent
units_are_consistent t tree = walk_stays t n.Unit None tree start (start_consistent t)
