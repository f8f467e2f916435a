-- An action does what the shape of the node that ended last says.
use Rattle.std.proofs.Common.{◌≡◌, ℕ, ◌+◌, Bool, true, false, Option, Some, None, List, [], ◌∷◌, ◌++◌, Ok, Err, Result, refl, sym, ap, ◌∙◌}
use Rattle.std.specs.Prelude.{if◌then◌else◌, ◌&&◌, not, eqb, map, is_some, drop}
use Rattle.std.specs.List.{list_any}
use Rattle.cr_base.specs.declared.Kind.{Kind}
use Rattle.cr_base.specs.declared.Kind.TheVariants as kind
use Rattle.cr_base.specs.declared.cause.IllCause.{IllCause}
use Rattle.cr_grammar.specs.declared.symbols.NonTerm.{NonTerm}
use Rattle.cr_grammar.specs.declared.symbols.NonTerm.TheVariants as n
use Rattle.cr_grammar.specs.declared.symbols.Action.{Action}
use Rattle.cr_grammar.specs.declared.symbols.Action.TheVariants as a
use Rattle.cr_ll.specs.Derivation.{Trees}
use Rattle.cr_types.specs.Types.{CType, Arith, Void}
use Rattle.cr_typing.specs.ExpressionTypes.{decayed}
use Rattle.cr_scope.specs.declared.Space.{Space}
use Rattle.cr_scope.specs.declared.Space.TheVariants as space
use Rattle.cr_scope.specs.declared.Linkage.{Linkage}
use Rattle.cr_scope.specs.declared.Linkage.TheVariants as linkage
use Rattle.cr_scope.specs.Redeclaration.{clashes, repeats}
use Rattle.cr_decl.specs.declared.SpecWord.{SpecWord}
use Rattle.cr_decl.specs.declared.SpecWord.TheVariants as w
use Rattle.cr_binding.specs.Source.{Source, is_identifier, text_at, name_at, is_built_in}
use Rattle.cr_binding.specs.State.{Declaration, Member, IsParameter, Target, Whole, Within, State}
use Rattle.cr_binding.specs.Entities.{entry, token_or}
use Rattle.cr_binding.specs.Declaring.{declare, declaration, used, declare_as, declare_named, declare_parameter, meaning_here, declaration_at, linkage_for, linkage_seen, looked_up, has_word, is_internal, kind_of}
use Rattle.cr_binding.specs.Specifying.{type_specifier, named_type, specified_by, atomic_type, specifier_at, declared_type, specified_type}
use Rattle.cr_binding.specs.Tags.{record_of, tag_again, tag_here, declare_tag, with_record, new_type, is_record_kind, tag_definition, filling, completing, untagged, used_tag}
use Rattle.cr_binding.specs.RecordMembers.{write_unless, least_token, repeated, add_member, named_member, add_anonymous, brought_in, end_record, select}
use Rattle.cr_binding.specs.Expressions.{identifier, denoting, is_value, is_function_name, selecting, operand, is_arrow}
use Rattle.cr_binding.specs.Initialising.{initialiser, designator, designating, dotted, is_string, leaves, item_within, StringValue, Value}
use Rattle.cr_typing.specs.Initialisers.{Braces, starts_from}
use Rattle.cr_binding.specs.Scoping.{next_scope, or_next, entered_in, body_within, all_jumps, jump_to, unless_failed, left}
use Rattle.cr_binding.specs.Actions.{acted}
use Rattle.cr_known.specs.Shapes.{shape_of, leaves_of, is_one_string}
use Rattle.cr_known.specs.Known.{acted_by}

module _ (tree : Trees) where
  abbrev pub un : State → State
  un s = record s { closed = tree }

  pub by_bool : (b : Bool) (x y x' y' : State) → un x ≡ x' → un y ≡ y' → un (if b then x else y) ≡ (if b then x' else y')
  by_bool true x y x' y' e f = e
  by_bool false x y x' y' e f = f

  pub declares : (t : Source) (d : Declaration) (s : State) → un (declare t d s) ≡ declare t d (un s)
  declares t d s = by_bool (list_any (clashes (entry t d)) (map (entry t) s.declarations)) _ _ _ _ refl refl

  pub takes : (l : Linkage) (i : ℕ) (k : Option ℕ) (s : State) → un (linkage_seen l i k s) ≡ linkage_seen l i k (un s)
  takes l i k s = by_bool (is_internal l && not (has_word w.Static s)) _ _ _ _ refl refl

  pub linkages : (t : Source) (d : Option Declaration) (k : Kind) (s : State) → linkage_for t d k (un s) ≡ linkage_for t d k s
  linkages t d kind.Typedef s = refl
  linkages t d _ s = refl

  pub declares_plain : (t : Source) (sp : Space) (k : Kind) (l : Linkage) (i : ℕ) (c : CType) (r s : State) → un r ≡ s → un (declare t (declaration sp k l i c r) r) ≡ declare t (declaration sp k l i c s) s
  declares_plain t sp k l i c r s e = declares t (declaration sp k l i c r) r ∙ ap (λ (z : State). declare t (declaration sp k l i c z) z) e

  pub declares_as : (t : Source) (k : Option ℕ) (what : Kind) (i : ℕ) (c : CType) (s : State) → un (declare_as t k what i c s) ≡ declare_as t k what i c (un s)
  declares_as t k what i c s =
      let l : Linkage = linkage_for t (declaration_at s k) what s in
      declares t (declaration space.Ordinary what l i c s) (linkage_seen l i k s)
      ∙ ap (declare t (declaration space.Ordinary what l i c s)) (takes l i k s)
      ∙ ap (λ m. declare t (declaration space.Ordinary what m i c s) (linkage_seen m i k (un s))) (sym (linkages t (declaration_at s k) what s))

  pub declares_named : (t : Source) (i : Option ℕ) (c : CType) (s : State) → un (declare_named t i c s) ≡ declare_named t i c (un s)
  declares_named t None c s = refl
  declares_named t (Some i) c s = declares_as t (meaning_here t space.Ordinary i s) (kind_of c s) i c s

  pub declares_parameter : (t : Source) (i : Option ℕ) (c : CType) (s : State) → un (declare_parameter t i c s) ≡ declare_parameter t i c (un s)
  declares_parameter t None c s = refl
  declares_parameter t (Some i) c s = declares t (declaration space.Ordinary kind.Object linkage.None i (decayed c) s) (used (IsParameter i) s)

  -- ---- specifiers

  named : (t : Source) (k : Option ℕ) (d : Option Declaration) (i : ℕ) (s : State) → un (named_type k d i s) ≡ named_type k d i (un s)
  named t k None i s = refl
  named t k (Some d) i s = refl

  atomic : (cs : List CType) (s : State) → un (atomic_type cs s) ≡ atomic_type cs (un s)
  atomic [] s = refl
  atomic (c ∷ cs) s = refl

  specified : (x : Option SpecWord) (s : State) → un (specified_by x s) ≡ specified_by x (un s)
  specified None s = refl
  specified (Some w.Atomic) s = atomic s.values s
  specified (Some _) s = refl

  pub specifies : (t : Source) (i : ℕ) (s : State) → un (type_specifier t i s) ≡ type_specifier t i (un s)
  specifies t i s =
      by_bool (is_identifier t i) _ _ _ _ (named t (meaning_here t space.Ordinary i s) (declaration_at s (meaning_here t space.Ordinary i s)) i s) (specified (specifier_at t i) s)

  -- ---- tags

  records : (i : ℕ) (s : State) → un (with_record i s) ≡ with_record i (un s)
  records i s = by_bool (is_record_kind s.keyword) _ _ _ _ refl refl

  tags : (t : Source) (i : ℕ) (c : CType) (s : State) → un (declare_tag t i c s) ≡ declare_tag t i c (un s)
  tags t i c s = ap (λ (z : State). record z { pending = record z.pending { base = Some c; is_untagged = false } }) (declares t (declaration space.Tag s.keyword linkage.None i c s) s)

  again : (d : Option Declaration) (t : Source) (i : ℕ) (s : State) → un (tag_again d t i s) ≡ tag_again d t i (un s)
  again None t i s = tags t i (new_type s) (with_record i s) ∙ ap (declare_tag t i (new_type s)) (records i s)
  again (Some d) t i s = tags t i d.type s

  defines : (t : Source) (i : ℕ) (s : State) → un (tag_definition t i s) ≡ tag_definition t i (un s)
  defines t i s =
      by_bool (list_any (eqb (token_or i (tag_here t i s))) s.completed) _ _ _ _ refl
      (ap (λ z. filling (completing (token_or i (tag_here t i s)) z)) (again (tag_here t i s) t i s))

  uses : (k : Option ℕ) (d : Option Declaration) (t : Source) (i : ℕ) (s : State) → un (used_tag k d t i s) ≡ used_tag k d t i (un s)
  uses k None t i s = again None t i (looked_up space.Tag i None s)
  uses k (Some d) t i s = by_bool (repeats false d.kind s.keyword) _ _ _ _ refl refl

  unnamed : (i : ℕ) (s : State) → un (untagged i s) ≡ untagged i (un s)
  unnamed i s = ap filling (records i (record s { pending = record s.pending { base = Some (new_type s); is_untagged = is_record_kind s.keyword } }))

  -- ---- members

  writes_by : (o : Option ℕ) (r : ℕ) (c : CType) (new : List Member) (s : State) → un (write_unless o r c new s) ≡ write_unless o r c new (un s)
  writes_by (Some i) r c new s = refl
  writes_by None r c new s = refl

  pub adds : (t : Source) (r i : Option ℕ) (c : CType) (s : State) → un (add_member t r i c s) ≡ add_member t r i c (un s)
  adds t (Some r) (Some i) c s = writes_by (least_token (repeated t s r (named_member r i c s ∷ []))) r c (named_member r i c s ∷ []) s
  adds t (Some r) None c s = refl
  adds t None i c s = refl

  anonymous : (t : Source) (r q : Option ℕ) (c : CType) (s : State) → un (add_anonymous t r q c s) ≡ add_anonymous t r q c (un s)
  anonymous t (Some r) (Some q) c s = writes_by (least_token (repeated t s r (brought_in r q s))) r c (brought_in r q s) s
  anonymous t (Some r) None c s = refl
  anonymous t None q c s = refl

  ends : (r : Option ℕ) (s : State) → un (end_record r s) ≡ end_record r (un s)
  ends None s = refl
  ends (Some r) s = refl

  -- ---- expressions

  denotes : (called : Bool) (k : Option ℕ) (d : Option Declaration) (t : Source) (i : ℕ) (s : State) → un (denoting called k d t i s) ≡ denoting called k d t i (un s)
  denotes called k None t i s = by_bool (called && is_built_in (text_at t i)) _ _ _ _ refl refl
  denotes called k (Some d) t i s = by_bool (is_value d.kind) _ _ _ _ refl refl

  identifies : (called : Bool) (t : Source) (i : ℕ) (s : State) → un (identifier called t i s) ≡ identifier called t i (un s)
  identifies called t i s =
      by_bool (s.in_body && is_function_name (text_at t i)) _ _ _ _ refl
      (denotes called (meaning_here t space.Ordinary i s) (declaration_at s (meaning_here t space.Ordinary i s)) t i s)

  selects : (r : Result Member IllCause) (i : ℕ) (s : State) → un (selecting r i s) ≡ selecting r i (un s)
  selects (Err c) i s = refl
  selects (Ok m) i s = refl

  -- ---- initialisers

  begins : (m : NonTerm) (s : State) → un (initialiser m s) ≡ initialiser m (un s)
  begins n.InitOpt s = refl
  begins _ s = refl

  points : (r : Result Member IllCause) (b : Braces) (i : ℕ) (s : State) → un (designating r b i s) ≡ designating r b i (un s)
  points (Err c) b i s = refl
  points (Ok m) b i s = refl

  designates : (x : Target) (t : Source) (i : ℕ) (s : State) → un (designator x t i s) ≡ designator x t i (un s)
  designates (Whole c) t i s = refl
  designates (Within b) t i s = points (dotted t s (name_at t i) (starts_from b)) b i s

  pub one_string : (t : Source) (is : List ℕ) → is_string t is ≡ is_one_string t (leaves_of is)
  one_string t [] = refl
  one_string t (i ∷ []) = refl
  one_string t (i ∷ j ∷ more) = refl

  -- ---- scopes

  nexts : (k : Option ℕ) (s : State) → or_next k s ≡ or_next k (un s)
  nexts None s = refl
  nexts (Some k) s = refl

  enters : (m : NonTerm) (s : State) → un (entered_in m s) ≡ entered_in m (un s)
  enters n.Sufs s =
      ap (λ k. record s { scopes = next_scope s; present = s.present ++ next_scope s ∷ []; closed = tree; pending = record s.pending { parameters = k } })
      (nexts s.pending.parameters s)
  enters _ s = refl

  bodies : (k : Option ℕ) (s : State) → un (body_within k s) ≡ body_within k (un s)
  bodies None s = refl
  bodies (Some k) s = refl

  jumps_to : (k : Option ℕ) (i : ℕ) (s : State) → un (jump_to k i s) ≡ jump_to k i (un s)
  jumps_to None i s = refl
  jumps_to (Some k) i s = refl

  jumps : (t : Source) (is : List ℕ) (s : State) → un (all_jumps t is s) ≡ all_jumps t is (un s)
  jumps t [] s = refl
  jumps t (i ∷ is) s =
      jumps t is (unless_failed s (jump_to (meaning_here t space.Label i s) i s))
      ∙ ap (all_jumps t is) (by_bool (is_some s.fault) _ _ _ _ refl (jumps_to (meaning_here t space.Label i s) i s))

  pub acts_by_shapes : (t : Source) (m : NonTerm) (first : ℕ) (x : Action) (s : State) → un (acted t m first x s) ≡ acted_by t m first x (shape_of s.closed) (un s)
  acts_by_shapes t m first a.Spec s = specifies t first s
  acts_by_shapes t m first a.Declare s = declares_named t s.pending.name (declared_type s) s
  acts_by_shapes t m first a.Param s = declares_parameter t s.pending.name (declared_type s) s
  acts_by_shapes t m first a.Enumerator s = declares t (declaration space.Ordinary kind.Enumerator linkage.None first Arith s) s
  acts_by_shapes t m first a.TagDef s = defines t s.last s
  acts_by_shapes t m first a.TagAlone s = again (tag_here t s.last s) t s.last s
  acts_by_shapes t m first a.TagUse s = uses (meaning_here t space.Tag s.last s) (declaration_at s (meaning_here t space.Tag s.last s)) t s.last s
  acts_by_shapes t m first a.Anon s = unnamed (s.last + 1) s
  acts_by_shapes t m first a.EndRec s = ends s.filled s
  acts_by_shapes t m first a.Member s = adds t s.filled s.pending.name (declared_type s) s
  acts_by_shapes t m first a.Splice s = by_bool s.pending.is_untagged _ _ _ _ (anonymous t s.filled (record_of (specified_type s.pending)) (specified_type s.pending) s) refl
  acts_by_shapes t m first a.Enter s = enters m s
  acts_by_shapes t m first a.Body s = bodies s.pending.parameters s
  acts_by_shapes t m first a.EndBody s = ap (λ (z : State). record (left z) { in_body = false; jumps = [] }) (jumps t s.jumps s)
  acts_by_shapes t m first a.Label s = declares t (declaration space.Label kind.Label linkage.None s.last Void s) s
  acts_by_shapes t m first a.Callee s = identifies true t s.last s
  acts_by_shapes t m first a.Mention s = identifies false t s.last s
  acts_by_shapes t m first a.Select s = selects (select t s (is_arrow (text_at t first)) (name_at t s.last) (operand s)) s.last s
  acts_by_shapes t m first a.OffMember s = selects (select t s false (name_at t s.last) (operand s)) s.last s
  acts_by_shapes t m first a.InitOf s = begins m s
  acts_by_shapes t m first a.Item s =
      ap (λ b. record (un s) { target = item_within (un s) (if b then StringValue else Value (operand s)) s.target; values = drop 1 s.values })
      (one_string t (leaves s.closed))
  acts_by_shapes t m first a.Desig s = designates s.target t s.last s
  acts_by_shapes t m first _ s = refl
