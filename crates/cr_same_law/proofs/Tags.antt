-- A tag use that finds nothing declares its tag next.
use Rattle.std.specs.Prelude.{◌≡◌, ◌⊎◌, ℕ, zero, suc, ◌+◌, Bool, true, false, not, ◌&&◌, cond, if◌then◌else◌, eqb, Option, Some, None, is_some, unwrap_or, Result, Ok, Err, List, [], ◌∷◌, ◌++◌, length, map, filter, slice_get, Contains}
use Rattle.std.specs.List.{list_any, find}
use Rattle.std.proofs.Common.{refl, sym, ◌∙◌, ap, subst, inl, inr, arith}
use Rattle.std.proofs.lemmas.Bool.{eqb-true}
use Rattle.std.proofs.lemmas.List.{append-nil}
use Rattle.std.proofs.lemmas.List.Elements.{Contains-append_cases}
use Rattle.cr_base.specs.declared.Name.{Name}
use Rattle.cr_base.specs.declared.Kind.{Kind}
use Rattle.cr_base.specs.declared.Kind.TheVariants as kind
use Rattle.cr_base.specs.declared.cause.IllCause.{IllCause}
use Rattle.cr_base.specs.declared.cause.IllCause.TheVariants as cause
use Rattle.cr_grammar.specs.declared.symbols.NonTerm.{NonTerm}
use Rattle.cr_grammar.specs.declared.symbols.NonTerm.TheVariants as n
use Rattle.cr_grammar.specs.declared.symbols.Action.{Action}
use Rattle.cr_grammar.specs.declared.symbols.Action.TheVariants as a
use Rattle.cr_ll.specs.Derivation.{Item, Passed, Due, Asked, Trees, none, token, action, node}
use Rattle.cr_scope.specs.declared.Space.{Space}
use Rattle.cr_scope.specs.declared.Space.TheVariants as space
use Rattle.cr_scope.specs.declared.Linkage.TheVariants as linkage
use Rattle.cr_scope.specs.Declarations.{same_name}
use Rattle.cr_scope.specs.Redeclaration.{clashes, repeats}
use Rattle.cr_types.specs.Types.{CType, Void, Arith}
use Rattle.cr_decl.specs.declared.SpecWord.{SpecWord}
use Rattle.cr_decl.specs.declared.SpecWord.TheVariants as w
use Rattle.cr_decl.specs.Specifiers.{may_follow, is_permitted}
use Rattle.cr_typing.specs.Initialisers.{Braces, starts_from}
use Rattle.cr_typing.specs.ExpressionTypes.{decayed}
use Rattle.cr_binding.specs.Source.{Source, name_at, text_at, is_identifier, is_built_in}
use Rattle.cr_binding.specs.State.{Declaration, Member, Use, LookedUp, GoesTo, Selects, IsBuiltIn, IsParameter, WasAsked, Target, Whole, Within, State, start}
use Rattle.cr_binding.specs.Entities.{entry, token_or}
use Rattle.cr_binding.specs.Declaring.{failed, used, declare, declaration, declaration_at, meaning_here, linkage_for, linkage_seen, is_internal, has_word, looked_up, declare_as, kind_of, declare_named, declare_parameter}
use Rattle.cr_binding.specs.Specifying.{specifier_at, specified, announced, read_in, named_type, atomic_type, specified_by, type_specifier, specified_type, declared_type}
use Rattle.cr_binding.specs.Tags.{is_record_kind, is_union_kind, with_record, new_type, record_of, tag_here, declare_tag, tag_again, tag_alone, filling, completing, tag_definition, untagged, used_tag}
use Rattle.cr_binding.specs.RecordMembers.{least_token, repeated, select, write_unless, named_member, add_member, brought_in, add_anonymous, splice, end_record}
use Rattle.cr_binding.specs.Expressions.{operand, is_function_name, is_value, denoting, identifier, selecting, is_arrow}
use Rattle.cr_binding.specs.Initialising.{dotted, designating, designator, initialiser}
use Rattle.cr_binding.specs.Scoping.{entered_in, body_within, unless_failed, jump_to, all_jumps, body_ended}
use Rattle.cr_binding.specs.Actions.{passed, acted}
use Rattle.cr_binding.specs.Binding.{is_empty, ended_as, ended, asked, unless_refused, goes_on, walk}
use Rattle.cr_binding.specs.BindingGrows.{Extends}
use Rattle.cr_scope.specs.Linkage.{linkage_by, is_file_scope}
use Rattle.cr_binding.specs.Declaring.{is_function_kind}
use Rattle.cr_same_law.specs.SameMeaning.{UnitsDeclareTags}

-- ---- lists

in_tail : {A : Type 0} (y x : A) (xs : List A) → Contains xs x → Contains (y ∷ xs) x
in_tail y x xs c = (suc c.0, omega (arith, c.1), c.2)

head_or_tail : {A : Type 0} (y x : A) (xs : List A) → Contains (y ∷ xs) x → (y ≡ x) ⊎ Contains xs x
head_or_tail y x xs (zero, w, e) = inl e
head_or_tail y x xs (suc n, w, e) = inr (n, omega (arith, w), e)

only_one : {A : Type 0} (x m : A) → Contains (x ∷ []) m → x ≡ m
only_one x m c = elim (head_or_tail x m [] c) [ inl k ↦ k | inr k ↦ absurd (omega (arith, k.1)) ]

passed_of : {A : Type 0} (p : A → Bool) (xs : List A) (x : A) → Contains (filter p xs) x → Contains xs x
passed_of p [] x c = absurd (omega (arith, c.1))
passed_of p (y ∷ xs) x c = by (p y) c (λ d. passed_of p xs x d)
  where
    by : (b : Bool) → Contains (if b then y ∷ filter p xs else filter p xs) x → (Contains (filter p xs) x → Contains xs x) → Contains (y ∷ xs) x
    by true d more = elim (head_or_tail y x (filter p xs) d) [ inl e ↦ (0, omega arith, e) | inr d ↦ in_tail y x xs (more d) ]
    by false d more = in_tail y x xs (more d)

found_there : {A : Type 0} (p : A → Bool) (xs : List A) (x : A) → find p xs ≡ Some x → Contains xs x × (p x ≡ true)
found_there p [] x h = cc
found_there p (y ∷ xs) x h = by (p y) refl h (λ k. found_there p xs x k)
  where
    by : (b : Bool) → p y ≡ b → cond b (Some y) (find p xs) ≡ Some x → (find p xs ≡ Some x → Contains xs x × (p x ≡ true)) → Contains (y ∷ xs) x × (p x ≡ true)
    by true q h more = let e : y ≡ x = cc in ((0, omega arith, e), ap p (sym e) ∙ q)
    by false q h more = let m : Contains xs x × (p x ≡ true) = more h in (in_tail y x xs m.0, m.1)

left_get : {A : Type 0} (xs ys : List A) (i : ℕ) (x : A) → slice_get xs i ≡ Some x → slice_get (xs ++ ys) i ≡ Some x
left_get [] ys i x h = cc
left_get (y ∷ xs) ys zero x h = h
left_get (y ∷ xs) ys (suc i) x h = left_get xs ys i x h

mapped_get : {A B : Type 0} (f : A → B) (xs : List A) (k : ℕ) (y : B) → slice_get (map f xs) k ≡ Some y → (x : A) × (slice_get xs k ≡ Some x) × (f x ≡ y)
mapped_get f [] k y h = cc
mapped_get f (x ∷ xs) zero y h = let e : f x ≡ y = cc in (x, refl, e)
mapped_get f (x ∷ xs) (suc k) y h = mapped_get f xs k y h

names_one : (a b : Name) → same_name a b ≡ true → a ≡ b
names_one a b h = let e : a.0 ≡ b.0 = eqb-true a.0 b.0 h in ap (λ (n : ℕ). let m : Name = record { 0 = n } in m) e

last_get : {A : Type 0} (xs : List A) (y : A) → slice_get (xs ++ y ∷ []) (length xs) ≡ Some y
last_get [] y = refl
last_get (x ∷ xs) y = last_get xs y

-- the declaration of the tag that a use declares
abbrev Own : State → ℕ → ℕ → Type 0
Own s i before = (d : Declaration) × (slice_get s.declarations before ≡ Some d) × (d.token ≡ i)

record AllOwn (s : State) : Type 0 where
  uses : (sp : Space) (i : ℕ) (path : List ℕ) (before : ℕ) → Contains s.uses (LookedUp sp i path before None) → s.fault ≡ None → Own s i before

abbrev IsNotNew : Use → Type 0
IsNotNew (LookedUp sp i path before None) = ⊥
IsNotNew other = Unit {0}

module _ (t : Source) where
  abbrev Stays : State → State → Type 0
  Stays s x = AllOwn s → AllOwn x

  -- ---- growth

  own_more : (i before : ℕ) (s x : State) → Extends s.declarations x.declarations → Own s i before → Own x i before
  own_more i before s x ds h = (h.0, ap (λ l. slice_get l before) ds.1 ∙ left_get s.declarations ds.0 before h.0 h.1, h.2)

  none_more : {A : Type 0} (xs : List A) → Extends xs xs
  none_more xs = ([], sym (append-nil xs))

  grown : (s x : State) → Extends s.declarations x.declarations → x.uses ≡ s.uses → (x.fault ≡ None → s.fault ≡ None) → Stays s x
  grown s x ds us f h = record { uses = λ sp i path before there sound. own_more i before s x ds (h.uses sp i path before (subst (λ l. Contains l (LookedUp sp i path before None)) us there) (f sound)) }

  same : (s x : State) → x.declarations ≡ s.declarations → x.members ≡ s.members → x.uses ≡ s.uses → (x.fault ≡ None → s.fault ≡ None) → Stays s x
  same s x d m us f h = grown s x ([], d ∙ sym (append-nil s.declarations)) us f h

  kept : (s x : State) → x.declarations ≡ s.declarations → x.uses ≡ s.uses → (x.fault ≡ None → s.fault ≡ None) → Stays s x
  kept s x d us f h = grown s x ([], d ∙ sym (append-nil s.declarations)) us f h

  if_stays : (b : Bool) (s x y : State) → Stays s x → Stays s y → Stays s (if b then x else y)
  if_stays true s x y g h = g
  if_stays false s x y g h = h

  itself : (s : State) → Stays s s
  itself s c = c

  used_stays : (y : Use) (s : State) → IsNotNew y → Stays s (used y s)
  used_stays y s fine h = record { uses = λ sp i path before there sound. by sp i path before sound (Contains-append_cases s.uses (y ∷ []) (LookedUp sp i path before None) there) }
    where
      by : (sp : Space) (i : ℕ) (path : List ℕ) (before : ℕ) → s.fault ≡ None → Contains s.uses (LookedUp sp i path before None) ⊎ Contains (y ∷ []) (LookedUp sp i path before None) → Own (used y s) i before
      by sp i path before sound (inl c) = h.uses sp i path before c sound
      by sp i path before sound (inr c) = let no : ⊥ = subst IsNotNew (only_one y (LookedUp sp i path before None) c) fine in absurd no

  looked_stays : (sp : Space) (i k : ℕ) (s : State) → Stays s (looked_up sp i (Some k) s)
  looked_stays sp i k s = used_stays (LookedUp sp i s.present (length s.declarations) (Some k)) s tt

  nothing_there : {P : Type 0} {d : Declaration} → Some d ≡ None → P
  nothing_there e = cc

  -- ---- declarations

  declare_stays : (d : Declaration) (s : State) → Stays s (declare t d s)
  declare_stays d s =
      if_stays (list_any (clashes (entry t d)) (map (entry t) s.declarations)) s _ _ (same s _ refl refl refl (λ h. cc)) (grown s _ (d ∷ [], refl) refl (λ h. h))

  seen_only : (fs st ex fn : Bool) → (is_internal (linkage_by fs st ex fn None) && not st) ≡ false
  seen_only true true ex fn = refl
  seen_only false true ex fn = refl
  seen_only fs false true fn = refl
  seen_only fs false false true = refl
  seen_only true false false false = refl
  seen_only false false false false = refl

  not_seen : (what : Kind) (s : State) → (is_internal (linkage_for t None what s) && not (has_word w.Static s)) ≡ false
  not_seen kind.Typedef s = refl
  not_seen kind.Function s = seen_only (is_file_scope s.present) (has_word w.Static s) (has_word w.Extern s) (is_function_kind kind.Function)
  not_seen kind.Object s = seen_only (is_file_scope s.present) (has_word w.Static s) (has_word w.Extern s) (is_function_kind kind.Object)
  not_seen kind.Enumerator s = seen_only (is_file_scope s.present) (has_word w.Static s) (has_word w.Extern s) (is_function_kind kind.Enumerator)
  not_seen kind.Struct s = seen_only (is_file_scope s.present) (has_word w.Static s) (has_word w.Extern s) (is_function_kind kind.Struct)
  not_seen kind.Union s = seen_only (is_file_scope s.present) (has_word w.Static s) (has_word w.Extern s) (is_function_kind kind.Union)
  not_seen kind.Enum s = seen_only (is_file_scope s.present) (has_word w.Static s) (has_word w.Extern s) (is_function_kind kind.Enum)
  not_seen kind.Member s = seen_only (is_file_scope s.present) (has_word w.Static s) (has_word w.Extern s) (is_function_kind kind.Member)
  not_seen kind.Label s = seen_only (is_file_scope s.present) (has_word w.Static s) (has_word w.Extern s) (is_function_kind kind.Label)

  seen_stays : (k : Option ℕ) (what : Kind) (i : ℕ) (s : State) → Stays s (linkage_seen (linkage_for t (declaration_at s k) what s) i k s)
  seen_stays None what i s = subst (λ b. Stays s (if b then looked_up space.Ordinary i None s else s)) (sym (not_seen what s)) (itself s)
  seen_stays (Some k) what i s = if_stays (is_internal (linkage_for t (declaration_at s (Some k)) what s) && not (has_word w.Static s)) s (looked_up space.Ordinary i (Some k) s) s (looked_stays space.Ordinary i k s) (itself s)

  as_stays : (k : Option ℕ) (what : Kind) (i : ℕ) (c : CType) (s : State) → Stays s (declare_as t k what i c s)
  as_stays k what i c s h =
      let l = linkage_for t (declaration_at s k) what s in
      declare_stays (declaration space.Ordinary what l i c s) (linkage_seen l i k s) (seen_stays k what i s h)

  named_stays : (i : Option ℕ) (c : CType) (s : State) → Stays s (declare_named t i c s)
  named_stays None c s k = k
  named_stays (Some i) c s k = as_stays (meaning_here t space.Ordinary i s) (kind_of c s) i c s k

  parameter_stays : (i : Option ℕ) (c : CType) (s : State) → Stays s (declare_parameter t i c s)
  parameter_stays None c s k = k
  parameter_stays (Some i) c s k =
      let x = used (IsParameter i) s in
      declare_stays (declaration space.Ordinary kind.Object linkage.None i (decayed c) x) x (used_stays (IsParameter i) s tt k)

  tag_stays : (i : ℕ) (c : CType) (s : State) → Stays s (declare_tag t i c s)
  tag_stays i c s k =
      let d = declaration space.Tag s.keyword linkage.None i c s in same (declare t d s) _ refl refl refl (λ h. h) (declare_stays d s k)

  -- a tag use that finds nothing
  new_stays : (i : ℕ) (c : CType) (s x : State) → x.declarations ≡ s.declarations → x.uses ≡ s.uses ++ LookedUp space.Tag i s.present (length s.declarations) None ∷ [] → (x.fault ≡ None → s.fault ≡ None) → Stays s (declare_tag t i c x)
  new_stays i c s x ds us f h = by (list_any (clashes (entry t d)) (map (entry t) x.declarations)) refl
    where
      d : Declaration
      d = declaration space.Tag x.keyword linkage.None i c x

      abbrev_then : State
      abbrev_then = record x { declarations = x.declarations ++ d ∷ [] }

      old_or_new : (sp : Space) (j : ℕ) (path : List ℕ) (before : ℕ) → x.fault ≡ None → Contains s.uses (LookedUp sp j path before None) ⊎ Contains (LookedUp space.Tag i s.present (length s.declarations) None ∷ []) (LookedUp sp j path before None) → (e : Declaration) × (slice_get (x.declarations ++ d ∷ []) before ≡ Some e) × (e.token ≡ j)
      old_or_new sp j path before sound (inl k) =
          let o : Own s j before = h.uses sp j path before k (f sound) in
          (o.0, ap (λ l. slice_get (l ++ d ∷ []) before) ds ∙ left_get s.declarations (d ∷ []) before o.0 o.1, o.2)
      old_or_new sp j path before sound (inr k) =
          let e : LookedUp space.Tag i s.present (length s.declarations) None ≡ LookedUp sp j path before None = only_one (LookedUp space.Tag i s.present (length s.declarations) None) (LookedUp sp j path before None) k in
          let n : length s.declarations ≡ before = cc in
          let tok : i ≡ j = cc in
          (d, ap (λ l. slice_get (x.declarations ++ d ∷ []) l) (sym n ∙ sym (ap length ds)) ∙ last_get x.declarations d, tok)

      by : (b : Bool) → list_any (clashes (entry t d)) (map (entry t) x.declarations) ≡ b → AllOwn (declare_tag t i c x)
      by true e = record { uses = λ sp j path before there sound. (let no : (if list_any (clashes (entry t d)) (map (entry t) x.declarations) then failed cause.Redeclared d.token x else record x { declarations = x.declarations ++ d ∷ [] }).fault ≡ None = sound in let bad : Some (cause.Redeclared, d.token) ≡ None = sym (ap (λ (z : Bool). (if z then failed cause.Redeclared d.token x else record x { declarations = x.declarations ++ d ∷ [] }).fault) e) ∙ no in cc) }
      by false e = subst (λ (z : Bool). AllOwn (record (if z then failed cause.Redeclared d.token x else record x { declarations = x.declarations ++ d ∷ [] }) { pending = (declare_tag t i c x).pending })) (sym e)
          (record { uses = λ sp j path before there sound. old_or_new sp j path before sound (Contains-append_cases s.uses (LookedUp space.Tag i s.present (length s.declarations) None ∷ []) (LookedUp sp j path before None) (subst (λ l. Contains l (LookedUp sp j path before None)) us there)) })

  -- ---- specifiers

  specified_stays : (x : Option SpecWord) (i : ℕ) (s : State) → Stays s (specified x i s)
  specified_stays None i s = itself s
  specified_stays (Some x) i s =
      if_stays (may_follow s.pending.specifiers x) s _ _ (same s _ refl refl refl (λ h. cc)) (same s _ refl refl refl (λ h. cc))

  announced_stays : (x : Option SpecWord) (s : State) → Stays s (announced x s)
  announced_stays None s = itself s
  announced_stays (Some w.Struct) s = same s _ refl refl refl (λ h. cc)
  announced_stays (Some w.Union) s = same s _ refl refl refl (λ h. cc)
  announced_stays (Some w.Enum) s = same s _ refl refl refl (λ h. cc)
  announced_stays (Some _) s = itself s

  read_stays : (m : NonTerm) (i : ℕ) (s : State) → Stays s (read_in m t i s)
  read_stays n.Mod i s = specified_stays _ i s
  read_stays n.Specs0 i s = specified_stays _ i s
  read_stays n.SpecsB i s = specified_stays _ i s
  read_stays n.Rec i s = announced_stays _ s
  read_stays n.Enum i s = announced_stays _ s
  read_stays _ i s = itself s

  passed_stays : (m : NonTerm) (i : ℕ) (s : State) → Stays s (passed t m i s)
  passed_stays m i s c = same (read_in m t i s) _ refl refl refl (λ h. cc) (read_stays m i s c)

  named_type_stays : (k : Option ℕ) (d : Option Declaration) (i : ℕ) (s : State) → d ≡ declaration_at s k → Stays s (named_type k d i s)
  named_type_stays k None i s named = same s _ refl refl refl (λ h. cc)
  named_type_stays None (Some d) i s named = nothing_there named
  named_type_stays (Some k) (Some d) i s named = λ c. same (looked_up space.Ordinary i (Some k) s) _ refl refl refl (λ h. cc) (looked_stays space.Ordinary i k s c)

  atomic_stays : (cs : List CType) (s : State) → Stays s (atomic_type cs s)
  atomic_stays [] s = same s _ refl refl refl (λ h. cc)
  atomic_stays (c ∷ cs) s = same s _ refl refl refl (λ h. cc)

  by_stays : (x : Option SpecWord) (s : State) → Stays s (specified_by x s)
  by_stays None s = itself s
  by_stays (Some w.Atomic) s = atomic_stays s.values s
  by_stays (Some _) s = itself s

  specifier_stays : (i : ℕ) (s : State) → Stays s (type_specifier t i s)
  specifier_stays i s =
      let k = meaning_here t space.Ordinary i s in
      if_stays (is_identifier t i) s _ _ (named_type_stays k (declaration_at s k) i s refl) (by_stays (specifier_at t i) s)

  -- ---- tags

  record_stays : (i : ℕ) (s : State) → Stays s (with_record i s)
  record_stays i s = if_stays (is_record_kind s.keyword) s _ _ (same s _ refl refl refl (λ h. cc)) (itself s)

  again_stays : (d : Option Declaration) (i : ℕ) (s : State) → Stays s (tag_again d t i s)
  again_stays None i s c = tag_stays i (new_type s) (with_record i s) (record_stays i s c)
  again_stays (Some d) i s c = tag_stays i d.type s c

  definition_stays : (i : ℕ) (s : State) → Stays s (tag_definition t i s)
  definition_stays i s =
      let first = token_or i (tag_here t i s) in
      let x = tag_alone t i s in
      if_stays (list_any (eqb first) s.completed) s _ _ (same s _ refl refl refl (λ h. cc)) (λ c. same x (filling (completing first x)) refl refl refl (λ h. cc) (again_stays (tag_here t i s) i s c))

  untagged_stays : (i : ℕ) (s : State) → Stays s (untagged i s)
  untagged_stays i s c =
      let x : State = record s { pending = record s.pending { base = Some (new_type s); is_untagged = is_record_kind s.keyword } } in
      same (with_record i x) _ refl refl refl (λ h. cc) (record_stays i x (same s x refl refl refl (λ h. cc) c))

  used_tag_stays : (k : Option ℕ) (d : Option Declaration) (i : ℕ) (s : State) → d ≡ declaration_at s k → Stays s (used_tag k d t i s)
  used_tag_stays k None i s at c = by (is_record_kind s.keyword)
    where
      l : State
      l = looked_up space.Tag i None s

      by : (b : Bool) → AllOwn (declare_tag t i (new_type (looked_up space.Tag i None s)) (if b then record (looked_up space.Tag i None s) { records = s.records ++ (record { token = i; is_union = is_union_kind s.keyword }) ∷ [] } else looked_up space.Tag i None s))
      by true = new_stays i (new_type (looked_up space.Tag i None s)) s (record (looked_up space.Tag i None s) { records = s.records ++ (record { token = i; is_union = is_union_kind s.keyword }) ∷ [] }) refl refl (λ h. h) c
      by false = new_stays i (new_type (looked_up space.Tag i None s)) s (looked_up space.Tag i None s) refl refl (λ h. h) c
  used_tag_stays None (Some d) i s at c = nothing_there at
  used_tag_stays (Some k) (Some d) i s at c =
      if_stays (repeats false d.kind s.keyword) s _ _ (λ c. same (looked_up space.Tag i (Some k) s) _ refl refl refl (λ h. cc) (looked_stays space.Tag i k s c)) (same s _ refl refl refl (λ h. cc)) c

  -- ---- members

  write_stays : (o : Option ℕ) (r : ℕ) (c : CType) (more : List Member) (s : State) → Stays s (write_unless o r c more s)
  write_stays (Some i) r c more s = same s _ refl refl refl (λ h. cc)
  write_stays None r c more s = kept s _ refl refl (λ h. cc)

  member_stays : (r i : Option ℕ) (c : CType) (s : State) → Stays s (add_member t r i c s)
  member_stays None i c s = itself s
  member_stays (Some r) None c s = itself s
  member_stays (Some r) (Some i) c s = write_stays (least_token (repeated t s r (named_member r i c s ∷ []))) r c (named_member r i c s ∷ []) s

  anonymous_stays : (r q : Option ℕ) (c : CType) (s : State) → Stays s (add_anonymous t r q c s)
  anonymous_stays None q c s = itself s
  anonymous_stays (Some r) None c s = itself s
  anonymous_stays (Some r) (Some q) c s = write_stays (least_token (repeated t s r (brought_in r q s))) r c (brought_in r q s) s

  splice_stays : (s : State) → Stays s (splice t s)
  splice_stays s =
      let c = specified_type s.pending in
      if_stays s.pending.is_untagged s _ _ (anonymous_stays s.filled (record_of c) c s) (itself s)

  end_stays : (r : Option ℕ) (s : State) → Stays s (end_record r s)
  end_stays None s = itself s
  end_stays (Some r) s = same s _ refl refl refl (λ h. cc)

  -- ---- expressions, initialisers and scopes

  denoting_stays : (called : Bool) (k : Option ℕ) (d : Option Declaration) (i : ℕ) (s : State) → d ≡ declaration_at s k → Stays s (denoting called k d t i s)
  denoting_stays called k None i s named =
      if_stays (called && is_built_in (text_at t i)) s _ _ (λ c. same (used (IsBuiltIn i) s) _ refl refl refl (λ h. cc) (used_stays (IsBuiltIn i) s tt c)) (same s _ refl refl refl (λ h. cc))
  denoting_stays called None (Some d) i s named = nothing_there named
  denoting_stays called (Some k) (Some d) i s named =
      if_stays (is_value d.kind) s _ _ (λ c. same (looked_up space.Ordinary i (Some k) s) _ refl refl refl (λ h. cc) (looked_stays space.Ordinary i k s c)) (same s _ refl refl refl (λ h. cc))

  identifier_stays : (called : Bool) (i : ℕ) (s : State) → Stays s (identifier called t i s)
  identifier_stays called i s =
      let k = meaning_here t space.Ordinary i s in
      if_stays (s.in_body && is_function_name (text_at t i)) s _ _ (λ c. same (used (IsBuiltIn i) s) _ refl refl refl (λ h. cc) (used_stays (IsBuiltIn i) s tt c)) (denoting_stays called k (declaration_at s k) i s refl)

  selecting_stays : (x : Result Member IllCause) (i : ℕ) (s : State) → Stays s (selecting x i s)
  selecting_stays (Err c) i s = same s _ refl refl refl (λ h. cc)
  selecting_stays (Ok m) i s = λ c. same (used (Selects i m.token) s) _ refl refl refl (λ h. cc) (used_stays (Selects i m.token) s tt c)

  designating_stays : (x : Result Member IllCause) (b : Braces) (i : ℕ) (s : State) → Stays s (designating x b i s)
  designating_stays (Err c) b i s = same s _ refl refl refl (λ h. cc)
  designating_stays (Ok m) b i s = λ c. same (used (Selects i m.token) s) _ refl refl refl (λ h. cc) (used_stays (Selects i m.token) s tt c)

  designator_stays : (x : Target) (i : ℕ) (s : State) → Stays s (designator x t i s)
  designator_stays (Whole c) i s = itself s
  designator_stays (Within b) i s = designating_stays (dotted t s (name_at t i) (starts_from b)) b i s

  initialiser_stays : (m : NonTerm) (s : State) → Stays s (initialiser m s)
  initialiser_stays n.InitOpt s = same s _ refl refl refl (λ h. cc)
  initialiser_stays _ s = same s _ refl refl refl (λ h. cc)

  entered_stays : (m : NonTerm) (s : State) → Stays s (entered_in m s)
  entered_stays n.Sufs s = same s _ refl refl refl (λ h. cc)
  entered_stays _ s = same s _ refl refl refl (λ h. cc)

  body_stays : (k : Option ℕ) (s : State) → Stays s (body_within k s)
  body_stays None s = same s _ refl refl refl (λ h. cc)
  body_stays (Some k) s = same s _ refl refl refl (λ h. cc)

  jump_stays : (k : Option ℕ) (i : ℕ) (s : State) → Stays s (jump_to k i s)
  jump_stays None i s = same s _ refl refl refl (λ h. cc)
  jump_stays (Some k) i s = used_stays (GoesTo i k) s tt

  jumps_stay : (is : List ℕ) (s : State) → Stays s (all_jumps t is s)
  jumps_stay [] s c = c
  jumps_stay (i ∷ is) s c =
      let k = meaning_here t space.Label i s in
      jumps_stay is (unless_failed s (jump_to k i s)) (if_stays (is_some s.fault) s s (jump_to k i s) (itself s) (jump_stays k i s) c)

  ending_stays : (s : State) → Stays s (body_ended t s)
  ending_stays s c = same (all_jumps t s.jumps s) _ refl refl refl (λ h. cc) (jumps_stay s.jumps s c)

  -- ---- actions, ends of nodes, and the walk

  acted_stays : (m : NonTerm) (first : ℕ) (x : Action) (s : State) → Stays s (acted t m first x s)
  acted_stays m first a.Spec s = specifier_stays first s
  acted_stays m first a.Declare s = named_stays s.pending.name (declared_type s) s
  acted_stays m first a.Param s = parameter_stays s.pending.name (declared_type s) s
  acted_stays m first a.Enumerator s = declare_stays (declaration space.Ordinary kind.Enumerator linkage.None first Arith s) s
  acted_stays m first a.TagDef s = definition_stays s.last s
  acted_stays m first a.TagAlone s = again_stays (tag_here t s.last s) s.last s
  acted_stays m first a.TagUse s = let k = meaning_here t space.Tag s.last s in used_tag_stays k (declaration_at s k) s.last s refl
  acted_stays m first a.Anon s = untagged_stays (s.last + 1) s
  acted_stays m first a.EndRec s = end_stays s.filled s
  acted_stays m first a.Member s = member_stays s.filled s.pending.name (declared_type s) s
  acted_stays m first a.Splice s = splice_stays s
  acted_stays m first a.Enter s = entered_stays m s
  acted_stays m first a.Body s = body_stays s.pending.parameters s
  acted_stays m first a.EndBody s = ending_stays s
  acted_stays m first a.Label s = declare_stays (declaration space.Label kind.Label linkage.None s.last Void s) s
  acted_stays m first a.Callee s = identifier_stays true s.last s
  acted_stays m first a.Mention s = identifier_stays false s.last s
  acted_stays m first a.Select s =
      selecting_stays (select t s (is_arrow (text_at t first)) (name_at t s.last) (operand s)) s.last s
  acted_stays m first a.OffMember s = selecting_stays (select t s false (name_at t s.last) (operand s)) s.last s
  acted_stays m first a.InitOf s = initialiser_stays m s
  acted_stays m first a.Desig s = designator_stays s.target s.last s
  acted_stays m first _ s = same s _ refl refl refl (λ h. cc)

  ended_as_stays : (m : NonTerm) (children : Trees) (before s : State) → Stays s (ended_as m children before s)
  ended_as_stays n.AssMore children before s = if_stays (is_empty children) s _ _ (itself s) (same s _ refl refl refl (λ h. cc))
  ended_as_stays n.SpecsB children before s =
      if_stays (is_empty children) s _ _ (if_stays (not (is_permitted s.pending.specifiers.basic)) s _ _ (same s _ refl refl refl (λ h. cc)) (itself s)) (itself s)
  ended_as_stays _ children before s = same s _ refl refl refl (λ h. cc)

  asked_stays : (asks : List Item) (s : State) → Stays s (asked asks s)
  asked_stays [] s c = c
  asked_stays (Passed i ∷ asks) s c = asked_stays asks s c
  asked_stays (Due x ∷ asks) s c = asked_stays asks s c
  asked_stays (Asked i answer ∷ asks) s c = asked_stays asks (used (WasAsked i s.present (length s.declarations) answer) s) (used_stays (WasAsked i s.present (length s.declarations) answer) s tt c)

  refused_stays : (r : Option ℕ) (s x : State) → Stays s x → Stays s (unless_refused r s x)
  refused_stays None s x g = g
  refused_stays (Some i) s x g = same s _ refl refl refl (λ h. cc)

  unless_stays : (s x : State) → Stays s x → Stays s (unless_failed s x)
  unless_stays s x g = if_stays (is_some s.fault) s s x (itself s) g

  walk_stays : (m : NonTerm) (first : Option ℕ) (trees : Trees) (s : State) → Stays s (walk t m first trees s)
  walk_stays m first none s c = c
  walk_stays m first (token i next) s c =
      walk_stays m (Some (unwrap_or first i)) next (goes_on s (passed t m i s)) (unless_stays s _ (refused_stays s.refused s _ (passed_stays m i s)) c)
  walk_stays m first (action x next) s c =
      walk_stays m first next (goes_on s (acted t m (unwrap_or first s.last) x s)) (unless_stays s _ (refused_stays s.refused s _ (acted_stays m (unwrap_or first s.last) x s)) c)
  walk_stays m first (node k asks children next) s c =
      let below = walk t k None children (asked asks s) in
      let y = ended m k children s below in
      let b : AllOwn below = walk_stays k None children (asked asks s) (asked_stays asks s c) in
      let e : AllOwn y = same (ended_as k children s below) y refl refl refl (λ h. cc) (ended_as_stays k children s below b) in
      walk_stays m first next (unless_failed s y) (unless_stays s y (λ z. e) c)

  start_named : AllOwn start
  start_named = record { uses = λ sp i path before there sound. absurd (omega (arith, there.1)) }

pub units_declare_tags : UnitsDeclareTags
units_declare_tags t tree sound sp i path before there = (walk_stays t n.Unit None tree start (start_named t)).uses sp i path before there sound
