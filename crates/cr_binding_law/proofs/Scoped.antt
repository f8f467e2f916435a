-- What actions do to the present scope, to labels and to asks.
use Rattle.std.specs.Prelude.{◌≡◌, ◌≤◌, ◌⊎◌, ℕ, ◌+◌, Bool, true, false, not, ◌&&◌, if◌then◌else◌, Option, Some, None, is_some, Result, Ok, Err, List, [], ◌∷◌, ◌++◌, map, length, take, ◌-◌, eqb, Contains}
use Rattle.std.specs.List.{list_any}
use Rattle.std.proofs.Common.{sym, refl, ◌∙◌, ap, subst, inl, inr, arith}
use Rattle.std.proofs.lemmas.List.Elements.{Contains-append_cases}
use Rattle.cr_base.specs.declared.Kind.{Kind}
use Rattle.cr_base.specs.declared.Kind.TheVariants as kind
use Rattle.cr_base.specs.declared.cause.IllCause.{IllCause}
use Rattle.cr_base.specs.declared.cause.IllCause.TheVariants as cause
use Rattle.cr_grammar.specs.declared.symbols.NonTerm.{NonTerm}
use Rattle.cr_grammar.specs.declared.symbols.NonTerm.TheVariants as n
use Rattle.cr_grammar.specs.declared.symbols.Action.{Action}
use Rattle.cr_grammar.specs.declared.symbols.Action.TheVariants as a
use Rattle.cr_ll.specs.Derivation.{Trees}
use Rattle.cr_scope.specs.declared.Space.TheVariants as space
use Rattle.cr_scope.specs.declared.Linkage.TheVariants as linkage
use Rattle.cr_scope.specs.Linkage.{is_file_scope}
use Rattle.cr_scope.specs.Redeclaration.{clashes, repeats}
use Rattle.cr_types.specs.Types.{CType, Void, Arith}
use Rattle.cr_decl.specs.declared.SpecWord.{SpecWord}
use Rattle.cr_decl.specs.declared.SpecWord.TheVariants as w
use Rattle.cr_decl.specs.Specifiers.{may_follow, is_permitted}
use Rattle.cr_binding.specs.Scoping.{or_next, next_scope}
use Rattle.cr_typing.specs.Initialisers.{Braces, starts_from}
use Rattle.cr_typing.specs.ExpressionTypes.{decayed}
use Rattle.cr_binding.specs.Source.{Source, name_at, text_at, is_identifier, is_built_in}
use Rattle.cr_binding.specs.State.{Declaration, Member, Use, Selects, IsBuiltIn, WasAsked, IsParameter, Target, Whole, Within, State}
use Rattle.cr_binding.specs.Entities.{entry, token_or}
use Rattle.cr_binding.specs.Declaring.{failed, used, declare, declaration, declaration_at, meaning_here, linkage_for, linkage_seen, is_internal, has_word, looked_up, declare_as, kind_of, declare_named, declare_plain, declare_parameter}
use Rattle.cr_binding.specs.Specifying.{based, specifier_at, specified, announced, read_in, named_type, atomic_type, specified_by, type_specifier, specified_type, declared_type}
use Rattle.cr_binding.specs.Tags.{is_record_kind, with_record, new_type, record_of, tag_here, declare_tag, tag_again, tag_alone, filling, completing, tag_definition, untagged, used_tag}
use Rattle.cr_binding.specs.RecordMembers.{least_token, repeated, select, write_unless, named_member, add_member, brought_in, add_anonymous, splice, end_record}
use Rattle.cr_binding.specs.Expressions.{push, built_in, operand, is_function_name, is_value, denoting, identifier, selecting, is_arrow}
use Rattle.cr_binding.specs.Initialising.{dotted, designating, designator, initialiser}
use Rattle.cr_binding.specs.Scoping.{or_next, entered_in, body_within, unless_failed, jump_to, all_jumps, body_ended}
use Rattle.cr_binding.specs.Actions.{passed, acted}
use Rattle.cr_binding.specs.Binding.{is_empty, ended_as}
use Rattle.cr_binding_law.specs.ConsistentUnits.{LabelsAreInFunctions}
use Rattle.cr_binding_law.proofs.Consistent.{head_or_tail}

-- an action that asks nothing leaves the asks
abbrev IsNoAsk : Use → Type 0
IsNoAsk (WasAsked i path before answer) = ⊥
IsNoAsk _ = Unit {0}

abbrev pub AsksStay : State → State → Type 0
AsksStay s x =
    (i : ℕ) (path : List ℕ) (before : ℕ) (answer : Bool) → Contains x.uses (WasAsked i path before answer) → Contains s.uses (WasAsked i path before answer)

-- the numbers on a path are at most n
abbrev pub AllBelow : ℕ → List ℕ → Type 0
AllBelow n [] = Unit {0}
AllBelow n (k ∷ p) = (k ≤ n) × AllBelow n p

-- the scopes of a state were entered
pub record IsBounded (s : State) : Type 0 where
  pub declared : (d : Declaration) → Contains s.declarations d → AllBelow s.scopes d.path
  pub present : AllBelow s.scopes s.present
  pub parameters : (k : ℕ) → s.pending.parameters ≡ Some k → k ≤ s.scopes

-- the present scope and the name that is declared stay, labels stay in functions, and nothing is asked
pub record Flat (s x : State) : Type 0 where
  pub present : x.present ≡ s.present
  pub name : x.pending.name ≡ s.pending.name
  pub scopes : x.scopes ≡ s.scopes
  pub bounded : IsBounded s → IsBounded x
  pub labels : LabelsAreInFunctions s → LabelsAreInFunctions x
  pub asks : AsksStay s x

same : (s x : State) → x.present ≡ s.present → x.pending.name ≡ s.pending.name → x.declarations ≡ s.declarations → x.uses ≡ s.uses → x.scopes ≡ s.scopes → x.pending.parameters ≡ s.pending.parameters → Flat s x
same s x p n d u c q =
    record {
      present = p;
      name = n;
      scopes = c;
      bounded = λ b. record {
        declared = λ e there. subst (λ k. AllBelow k e.path) (sym c) (b.declared e (subst (λ ds. Contains ds e) d there));
        present = subst (λ k. AllBelow k x.present) (sym c) (subst (λ l. AllBelow s.scopes l) (sym p) b.present);
        parameters = λ k h. subst (λ l. k ≤ l) (sym c) (b.parameters k (sym q ∙ h));
      };
      labels = λ l e there. l e (subst (λ ds. Contains ds e) d there);
      asks = λ i path before answer there. subst (λ us. Contains us (WasAsked i path before answer)) u there;
    }

pub followed : (s x y : State) → Flat s x → Flat x y → Flat s y
followed s x y f g =
    record {
      present = g.present ∙ f.present;
      name = g.name ∙ f.name;
      scopes = g.scopes ∙ f.scopes;
      bounded = λ b. g.bounded (f.bounded b);
      labels = λ l. g.labels (f.labels l);
      asks = λ i path before answer there. f.asks i path before answer (g.asks i path before answer there);
    }

pub itself : (s : State) → Flat s s
itself s = same s s refl refl refl refl refl refl

if_flat : (b : Bool) (s x y : State) → Flat s x → Flat s y → Flat s (if b then x else y)
if_flat true s x y g h = g
if_flat false s x y g h = h

failed_flat : (c : IllCause) (i : ℕ) (s : State) → Flat s (failed c i s)
failed_flat c i s = same s _ refl refl refl refl refl refl

used_flat : (u : Use) (s : State) → IsNoAsk u → Flat s (used u s)
used_flat u s h =
    record {
      present = refl;
      name = refl;
      scopes = refl;
      bounded = λ b. record { declared = b.declared; present = b.present; parameters = b.parameters };
      labels = λ l. l;
      asks = λ i path before answer there. by i path before answer (Contains-append_cases s.uses (u ∷ []) (WasAsked i path before answer) there);
    }
  where
    by : (i : ℕ) (path : List ℕ) (before : ℕ) (answer : Bool) → Contains s.uses (WasAsked i path before answer) ⊎ Contains (u ∷ []) (WasAsked i path before answer) → Contains s.uses (WasAsked i path before answer)
    by i path before answer (inl there) = there
    by i path before answer (inr there) = elim (head_or_tail u (WasAsked i path before answer) [] there) [
      | inl e ↦ (let no : ⊥ = subst IsNoAsk e h in absurd no)
      | inr k ↦ absurd (omega (arith, k.1))
    ]

added_bounded : (d : Declaration) (s : State) → ((n : ℕ) → AllBelow n s.present → AllBelow n d.path) → IsBounded s → IsBounded (record s { declarations = s.declarations ++ d ∷ [] })
added_bounded d s low b =
    record {
      declared = λ e there. below e (Contains-append_cases s.declarations (d ∷ []) e there);
      present = b.present;
      parameters = b.parameters;
    }
  where
    below : (e : Declaration) → Contains s.declarations e ⊎ Contains (d ∷ []) e → AllBelow s.scopes e.path
    below e (inl there) = b.declared e there
    below e (inr there) = elim (head_or_tail d e [] there) [
      | inl k ↦ subst (λ (x : Declaration). AllBelow s.scopes x.path) k (low s.scopes b.present)
      | inr k ↦ absurd (omega (arith, k.1))
    ]

-- a declaration that is no label, or a label in a function
added_flat : (d : Declaration) (s : State) → ((n : ℕ) → AllBelow n s.present → AllBelow n d.path) → (d.space ≡ space.Label → is_file_scope d.path ≡ false) → Flat s (record s { declarations = s.declarations ++ d ∷ [] })
added_flat d s low fine =
    record {
      present = refl;
      name = refl;
      scopes = refl;
      bounded = added_bounded d s low;
      labels = λ l e there h. by l e h (Contains-append_cases s.declarations (d ∷ []) e there);
      asks = λ i path before answer there. there;
    }
  where
    by : LabelsAreInFunctions s → (e : Declaration) → e.space ≡ space.Label → Contains s.declarations e ⊎ Contains (d ∷ []) e → is_file_scope e.path ≡ false
    by l e h (inl there) = l e there h
    by l e h (inr there) = elim (head_or_tail d e [] there) [
      | inl k ↦ subst (λ (x : Declaration). is_file_scope x.path ≡ false) k (fine (ap (λ (x : Declaration). x.space) k ∙ h))
      | inr k ↦ absurd (omega (arith, k.1))
    ]

-- all but what is said of labels
pub record Rest (s x : State) : Type 0 where
  pub present : x.present ≡ s.present
  pub name : x.pending.name ≡ s.pending.name
  pub scopes : x.scopes ≡ s.scopes
  pub bounded : IsBounded s → IsBounded x
  pub asks : AsksStay s x

pub rest_of : (s x : State) → Flat s x → Rest s x
rest_of s x f = record { present = f.present; name = f.name; scopes = f.scopes; bounded = f.bounded; asks = f.asks }

-- what an action does to scopes, labels and the name that is declared
pub data Effect : Type 0 where
  Enters : Effect
  Reenters : Effect
  Rises : Effect
  Labels : Effect
  Clears : Effect
  Names : Effect
  Rests : Effect

abbrev pub effect : Action → Effect
effect a.Enter = Enters
effect a.Body = Reenters
effect a.Leave = Rises
effect a.EndBody = Rises
effect a.Label = Labels
effect a.Decl = Clears
effect a.Name = Names
effect _ = Rests

-- as a state with another present scope, or another name
abbrev pub at_scope : State → List ℕ → State
at_scope s path = record s { present = path }

abbrev pub at_name : State → Option ℕ → State
at_name s name = record s { pending = record s.pending { name = name; parameters = None } }

abbrev pub entered_at : State → Option ℕ → State
entered_at s p =
    record s { scopes = next_scope s; present = s.present ++ next_scope s ∷ []; pending = record s.pending { parameters = p } }

abbrev pub Does : Effect → State → State → Type 0
Does Enters s y =
    (p : Option ℕ) × ((p ≡ s.pending.parameters) ⊎ (p ≡ Some (next_scope s))) × Flat (entered_at s p) y
Does Reenters s y = (k : ℕ) × (s.pending.parameters ≡ Some k) × Flat (at_scope s (s.present ++ k ∷ [])) y
Does Rises s y = Flat (at_scope s (take (length s.present - 1) s.present)) y
Does Labels s y = Rest s y × (is_file_scope s.present ≡ false → Flat s y)
Does Clears s y = Flat (at_name s None) y
Does Names s y = Flat (at_name s (Some s.last)) y
Does Rests s y = Flat s y

module _ (t : Source) where
  declare_flat : (d : Declaration) (s : State) → ((n : ℕ) → AllBelow n s.present → AllBelow n d.path) → (d.space ≡ space.Label → is_file_scope d.path ≡ false) → Flat s (declare t d s)
  declare_flat d s low fine =
      if_flat (list_any (clashes (entry t d)) (map (entry t) s.declarations)) s _ _ (failed_flat _ _ s) (added_flat d s low fine)

  no_label : {P : Type 0} → space.Ordinary ≡ space.Label → P
  no_label e = cc

  tag_no_label : {P : Type 0} → space.Tag ≡ space.Label → P
  tag_no_label e = cc

  ordinary_flat : (k : Kind) (i : ℕ) (c : CType) (s : State) → Flat s (declare_plain t space.Ordinary k i c s)
  ordinary_flat k i c s = declare_flat (declaration space.Ordinary k linkage.None i c s) s (λ n b. b) no_label

  seen_present : (b : Bool) (i : ℕ) (k : Option ℕ) (s : State) → (if b then looked_up space.Ordinary i k s else s).present ≡ s.present
  seen_present true i k s = refl
  seen_present false i k s = refl

  as_flat : (k : Option ℕ) (what : Kind) (i : ℕ) (c : CType) (s : State) → Flat s (declare_as t k what i c s)
  as_flat k what i c s =
      let l = linkage_for t (declaration_at s k) what s in
      followed s (linkage_seen l i k s) _ (if_flat (is_internal l && not (has_word w.Static s)) s _ _ (used_flat _ s tt) (itself s))
      (declare_flat (declaration space.Ordinary what l i c s) (linkage_seen l i k s) (λ n b. subst (AllBelow n) (seen_present (is_internal l && not (has_word w.Static s)) i k s) b) no_label)

  named_flat : (i : Option ℕ) (c : CType) (s : State) → Flat s (declare_named t i c s)
  named_flat None c s = itself s
  named_flat (Some i) c s = as_flat (meaning_here t space.Ordinary i s) (kind_of c s) i c s

  parameter_flat : (i : Option ℕ) (c : CType) (s : State) → Flat s (declare_parameter t i c s)
  parameter_flat None c s = itself s
  parameter_flat (Some i) c s =
      followed s (used (IsParameter i) s) _ (used_flat _ s tt) (ordinary_flat kind.Object i (decayed c) (used (IsParameter i) s))

  -- ---- specifiers

  specified_flat : (x : Option SpecWord) (i : ℕ) (s : State) → Flat s (specified x i s)
  specified_flat None i s = itself s
  specified_flat (Some x) i s =
      if_flat (may_follow s.pending.specifiers x) s _ _ (same s _ refl refl refl refl refl refl) (same s _ refl refl refl refl refl refl)

  announced_flat : (x : Option SpecWord) (s : State) → Flat s (announced x s)
  announced_flat None s = itself s
  announced_flat (Some w.Struct) s = same s _ refl refl refl refl refl refl
  announced_flat (Some w.Union) s = same s _ refl refl refl refl refl refl
  announced_flat (Some w.Enum) s = same s _ refl refl refl refl refl refl
  announced_flat (Some _) s = itself s

  read_flat : (m : NonTerm) (i : ℕ) (s : State) → Flat s (read_in m t i s)
  read_flat n.Mod i s = specified_flat _ i s
  read_flat n.Specs0 i s = specified_flat _ i s
  read_flat n.SpecsB i s = specified_flat _ i s
  read_flat n.Rec i s = announced_flat _ s
  read_flat n.Enum i s = announced_flat _ s
  read_flat _ i s = itself s

  pub passed_flat : (m : NonTerm) (i : ℕ) (s : State) → Flat s (passed t m i s)
  passed_flat m i s = followed s (read_in m t i s) _ (read_flat m i s) (same _ _ refl refl refl refl refl refl)

  named_type_flat : (k : Option ℕ) (d : Option Declaration) (i : ℕ) (s : State) → Flat s (named_type k d i s)
  named_type_flat k None i s = failed_flat _ i s
  named_type_flat k (Some d) i s =
      followed s (looked_up space.Ordinary i k s) _ (used_flat _ s tt) (same _ (based d.type (looked_up space.Ordinary i k s)) refl refl refl refl refl refl)

  atomic_flat : (cs : List CType) (s : State) → Flat s (atomic_type cs s)
  atomic_flat [] s = same s _ refl refl refl refl refl refl
  atomic_flat (c ∷ cs) s = same s _ refl refl refl refl refl refl

  by_flat : (x : Option SpecWord) (s : State) → Flat s (specified_by x s)
  by_flat None s = itself s
  by_flat (Some w.Atomic) s = atomic_flat s.values s
  by_flat (Some _) s = itself s

  specifier_flat : (i : ℕ) (s : State) → Flat s (type_specifier t i s)
  specifier_flat i s =
      let k = meaning_here t space.Ordinary i s in
      if_flat (is_identifier t i) s _ _ (named_type_flat k (declaration_at s k) i s) (by_flat (specifier_at t i) s)

  -- ---- tags

  record_flat : (i : ℕ) (s : State) → Flat s (with_record i s)
  record_flat i s = if_flat (is_record_kind s.keyword) s _ _ (same s _ refl refl refl refl refl refl) (itself s)

  tag_flat : (i : ℕ) (c : CType) (s : State) → Flat s (declare_tag t i c s)
  tag_flat i c s =
      let d = declaration space.Tag s.keyword linkage.None i c s in
      followed s (declare t d s) _ (declare_flat d s (λ n b. b) tag_no_label) (same _ (based c (declare t d s)) refl refl refl refl refl refl)

  again_flat : (d : Option Declaration) (i : ℕ) (s : State) → Flat s (tag_again d t i s)
  again_flat None i s = followed s (with_record i s) _ (record_flat i s) (tag_flat i (new_type s) (with_record i s))
  again_flat (Some d) i s = tag_flat i d.type s

  definition_flat : (i : ℕ) (s : State) → Flat s (tag_definition t i s)
  definition_flat i s =
      let first = token_or i (tag_here t i s) in
      let x = tag_alone t i s in
      if_flat (list_any (eqb first) s.completed) s _ _ (failed_flat _ i s)
      (followed s x _ (again_flat (tag_here t i s) i s) (same x (filling (completing first x)) refl refl refl refl refl refl))

  untagged_flat : (i : ℕ) (s : State) → Flat s (untagged i s)
  untagged_flat i s =
      let x : State = record s { pending = record s.pending { base = Some (new_type s); is_untagged = is_record_kind s.keyword } } in
      followed s (with_record i x) _ (followed s x _ (same s x refl refl refl refl refl refl) (record_flat i x)) (same _ (filling (with_record i x)) refl refl refl refl refl refl)

  used_tag_flat : (k : Option ℕ) (d : Option Declaration) (i : ℕ) (s : State) → Flat s (used_tag k d t i s)
  used_tag_flat k None i s =
      followed s (looked_up space.Tag i None s) _ (used_flat _ s tt) (again_flat None i (looked_up space.Tag i None s))
  used_tag_flat k (Some d) i s =
      if_flat (repeats false d.kind s.keyword) s _ _ (followed s (looked_up space.Tag i k s) _ (used_flat _ s tt) (same _ (based d.type (looked_up space.Tag i k s)) refl refl refl refl refl refl)) (failed_flat _ i s)

  -- ---- members

  write_flat : (k : Option ℕ) (r : ℕ) (c : CType) (new : List Member) (s : State) → Flat s (write_unless k r c new s)
  write_flat (Some i) r c new s = failed_flat _ i s
  write_flat None r c new s = same s _ refl refl refl refl refl refl

  member_flat : (r i : Option ℕ) (c : CType) (s : State) → Flat s (add_member t r i c s)
  member_flat None i c s = itself s
  member_flat (Some r) None c s = itself s
  member_flat (Some r) (Some i) c s =
      write_flat (least_token (repeated t s r (named_member r i c s ∷ []))) r c (named_member r i c s ∷ []) s

  anonymous_flat : (r q : Option ℕ) (c : CType) (s : State) → Flat s (add_anonymous t r q c s)
  anonymous_flat None q c s = itself s
  anonymous_flat (Some r) None c s = itself s
  anonymous_flat (Some r) (Some q) c s = write_flat (least_token (repeated t s r (brought_in r q s))) r c (brought_in r q s) s

  splice_flat : (s : State) → Flat s (splice t s)
  splice_flat s =
      let c = specified_type s.pending in
      if_flat s.pending.is_untagged s _ _ (anonymous_flat s.filled (record_of c) c s) (itself s)

  end_flat : (r : Option ℕ) (s : State) → Flat s (end_record r s)
  end_flat None s = itself s
  end_flat (Some r) s = same s _ refl refl refl refl refl refl

  -- ---- expressions and initialisers

  built_in_flat : (i : ℕ) (s : State) → Flat s (built_in i s)
  built_in_flat i s = followed s (used (IsBuiltIn i) s) _ (used_flat _ s tt) (same _ (built_in i s) refl refl refl refl refl refl)

  denoting_flat : (called : Bool) (k : Option ℕ) (d : Option Declaration) (i : ℕ) (s : State) → Flat s (denoting called k d t i s)
  denoting_flat called k None i s =
      if_flat (called && is_built_in (text_at t i)) s _ _ (built_in_flat i s) (failed_flat _ i s)
  denoting_flat called k (Some d) i s =
      if_flat (is_value d.kind) s _ _ (followed s (looked_up space.Ordinary i k s) _ (used_flat _ s tt) (same _ (push d.type (looked_up space.Ordinary i k s)) refl refl refl refl refl refl)) (failed_flat _ i s)

  identifier_flat : (called : Bool) (i : ℕ) (s : State) → Flat s (identifier called t i s)
  identifier_flat called i s =
      let k = meaning_here t space.Ordinary i s in
      if_flat (s.in_body && is_function_name (text_at t i)) s _ _ (built_in_flat i s) (denoting_flat called k (declaration_at s k) i s)

  selecting_flat : (x : Result Member IllCause) (i : ℕ) (s : State) → Flat s (selecting x i s)
  selecting_flat (Err c) i s = failed_flat c i s
  selecting_flat (Ok m) i s = followed s (used (Selects i m.token) s) _ (used_flat _ s tt) (same _ _ refl refl refl refl refl refl)

  designating_flat : (x : Result Member IllCause) (b : Braces) (i : ℕ) (s : State) → Flat s (designating x b i s)
  designating_flat (Err c) b i s = failed_flat c i s
  designating_flat (Ok m) b i s = followed s (used (Selects i m.token) s) _ (used_flat _ s tt) (same _ _ refl refl refl refl refl refl)

  designator_flat : (x : Target) (i : ℕ) (s : State) → Flat s (designator x t i s)
  designator_flat (Whole c) i s = itself s
  designator_flat (Within b) i s = designating_flat (dotted t s (name_at t i) (starts_from b)) b i s

  initialiser_flat : (m : NonTerm) (s : State) → Flat s (initialiser m s)
  initialiser_flat n.InitOpt s = same s _ refl refl refl refl refl refl
  initialiser_flat _ s = same s _ refl refl refl refl refl refl

  -- ---- scopes

  jump_flat : (k : Option ℕ) (i : ℕ) (s : State) → Flat s (jump_to k i s)
  jump_flat None i s = failed_flat _ i s
  jump_flat (Some k) i s = used_flat _ s tt

  jumps_flat : (is : List ℕ) (s : State) → Flat s (all_jumps t is s)
  jumps_flat [] s = itself s
  jumps_flat (i ∷ is) s =
      let k = meaning_here t space.Label i s in
      followed s (unless_failed s (jump_to k i s)) _ (if_flat (is_some s.fault) s s (jump_to k i s) (itself s) (jump_flat k i s)) (jumps_flat is (unless_failed s (jump_to k i s)))

  enters : (m : NonTerm) (s : State) → Does Enters s (entered_in m s)
  enters n.Sufs s =
      (or_next s.pending.parameters s, by s.pending.parameters, same _ _ refl refl refl refl refl refl)
    where
      by : (p : Option ℕ) → (or_next p s ≡ p) ⊎ (or_next p s ≡ Some (next_scope s))
      by None = inr refl
      by (Some k) = inl refl
  enters _ s = (s.pending.parameters, inl refl, same _ _ refl refl refl refl refl refl)

  body_does : (k : Option ℕ) (s : State) → s.pending.parameters ≡ k → (body_within k s).fault ≡ None → Does Reenters s (body_within k s)
  body_does None s e h = cc
  body_does (Some k) s e h = (k, e, same _ _ refl refl refl refl refl refl)

  jumps_same : (is : List ℕ) (s : State) → ((all_jumps t is s).declarations ≡ s.declarations) × ((all_jumps t is s).pending.parameters ≡ s.pending.parameters)
  jumps_same [] s = (refl, refl)
  jumps_same (i ∷ is) s =
      let k = meaning_here t space.Label i s in
      let x = unless_failed s (jump_to k i s) in
      let r = jumps_same is x in
      let q = by (is_some s.fault) k in
      (r.0 ∙ q.0, r.1 ∙ q.1)
    where
      by : (b : Bool) (k : Option ℕ) → ((if b then s else jump_to k i s).declarations ≡ s.declarations) × ((if b then s else jump_to k i s).pending.parameters ≡ s.pending.parameters)
      by true k = (refl, refl)
      by false None = (refl, refl)
      by false (Some k) = (refl, refl)

  ends : (s : State) → Flat (at_scope s (take (length s.present - 1) s.present)) (body_ended t s)
  ends s =
      let x = all_jumps t s.jumps s in
      let f : Flat s x = jumps_flat s.jumps s in
      record {
        present = ap (λ p. take (length p - 1) p) f.present;
        name = f.name;
        scopes = f.scopes;
        bounded = λ b. record {
          declared = λ e there. subst (λ k. AllBelow k e.path) (sym f.scopes) (b.declared e (subst (λ ds. Contains ds e) (jumps_same s.jumps s).0 there));
          present = subst (λ k. AllBelow k (take (length x.present - 1) x.present)) (sym f.scopes) (subst (λ p. AllBelow s.scopes (take (length p - 1) p)) (sym f.present) b.present);
          parameters = λ k h. subst (λ l. k ≤ l) (sym f.scopes) (b.parameters k (sym (jumps_same s.jumps s).1 ∙ h));
        };
        labels = f.labels;
        asks = f.asks;
      }

  front_below : (n : ℕ) (p : List ℕ) → AllBelow n p → AllBelow n (take 1 p)
  front_below n [] b = tt
  front_below n (x ∷ p) b = (b.0, tt)

  in_function : (p : List ℕ) → is_file_scope p ≡ false → is_file_scope (take 1 p) ≡ false
  in_function [] h = cc
  in_function (x ∷ p) h = refl

  label_rest : (d : Declaration) (s : State) → ((n : ℕ) → AllBelow n s.present → AllBelow n d.path) → (b : Bool) → Rest s (if b then failed cause.Redeclared d.token s else record s { declarations = s.declarations ++ d ∷ [] })
  label_rest d s low true = rest_of s _ (failed_flat cause.Redeclared d.token s)
  label_rest d s low false =
      record { present = refl; name = refl; scopes = refl; bounded = added_bounded d s low; asks = λ i path before answer there. there }

  pub acted_does : (m : NonTerm) (first : ℕ) (x : Action) (s : State) → (acted t m first x s).fault ≡ None → Does (effect x) s (acted t m first x s)
  acted_does m first a.Decl s h = same _ _ refl refl refl refl refl refl
  acted_does m first a.Spec s h = specifier_flat first s
  acted_does m first a.Name s h = same _ _ refl refl refl refl refl refl
  acted_does m first a.Declare s h = named_flat s.pending.name (declared_type s) s
  acted_does m first a.Param s h = parameter_flat s.pending.name (declared_type s) s
  acted_does m first a.Enumerator s h = ordinary_flat kind.Enumerator first Arith s
  acted_does m first a.TagDef s h = definition_flat s.last s
  acted_does m first a.TagAlone s h = again_flat (tag_here t s.last s) s.last s
  acted_does m first a.TagUse s h = let k = meaning_here t space.Tag s.last s in used_tag_flat k (declaration_at s k) s.last s
  acted_does m first a.Anon s h = untagged_flat (s.last + 1) s
  acted_does m first a.EndRec s h = end_flat s.filled s
  acted_does m first a.Member s h = member_flat s.filled s.pending.name (declared_type s) s
  acted_does m first a.Splice s h = splice_flat s
  acted_does m first a.Enter s h = enters m s
  acted_does m first a.Leave s h = same _ _ refl refl refl refl refl refl
  acted_does m first a.Body s h = body_does s.pending.parameters s refl h
  acted_does m first a.EndBody s h = ends s
  acted_does m first a.Label s h =
      let d = declaration space.Label kind.Label linkage.None s.last Void s in
      (label_rest d s (λ n b. front_below n s.present b) (list_any (clashes (entry t d)) (map (entry t) s.declarations)), λ f. declare_flat d s (λ n b. front_below n s.present b) (λ e. in_function s.present f))
  acted_does m first a.Callee s h = identifier_flat true s.last s
  acted_does m first a.Mention s h = identifier_flat false s.last s
  acted_does m first a.Select s h =
      selecting_flat (select t s (is_arrow (text_at t first)) (name_at t s.last) (operand s)) s.last s
  acted_does m first a.OffMember s h = selecting_flat (select t s false (name_at t s.last) (operand s)) s.last s
  acted_does m first a.InitOf s h = initialiser_flat m s
  acted_does m first a.Desig s h = designator_flat s.target s.last s
  acted_does m first _ s h = same s _ refl refl refl refl refl refl

  -- the end of a node, but for what it puts back
  pub ended_as_flat : (m : NonTerm) (children : Trees) (before s : State) → Flat s (ended_as m children before s)
  ended_as_flat n.AssMore children before s = if_flat (is_empty children) s _ _ (itself s) (same s _ refl refl refl refl refl refl)
  ended_as_flat n.SpecsB children before s =
      if_flat (is_empty children) s _ _ (if_flat (not (is_permitted s.pending.specifiers.basic)) s _ _ (same s _ refl refl refl refl refl refl) (itself s)) (itself s)
  ended_as_flat _ children before s = same s _ refl refl refl refl refl refl
