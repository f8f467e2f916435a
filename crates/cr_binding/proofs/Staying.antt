-- Two spellings of a unit bind alike where each action reads the same of the names.
use Rattle.std.specs.Prelude.{◌≡◌, ℕ, Bool, true, false, not, ◌&&◌, if◌then◌else◌, eqb, Option, Some, None, is_some, unwrap_or, List, [], ◌∷◌, ◌++◌, drop}
use Rattle.std.specs.List.{list_any}
use Rattle.std.proofs.Common.{refl, ◌∙◌, ap}
use Rattle.cr_base.specs.declared.Kind.{Kind}
use Rattle.cr_base.specs.declared.Kind.TheVariants as kind
use Rattle.cr_base.specs.declared.cause.IllCause.TheVariants as cause
use Rattle.cr_grammar.specs.declared.symbols.NonTerm.{NonTerm}
use Rattle.cr_grammar.specs.declared.symbols.NonTerm.TheVariants as n
use Rattle.cr_grammar.specs.declared.symbols.Action.{Action}
use Rattle.cr_grammar.specs.declared.symbols.Action.TheVariants as a
use Rattle.cr_ll.specs.Derivation.{Trees, none, token, action, node}
use Rattle.cr_ll.specs.Guards.{is_name, is_string as is_string_kind}
use Rattle.cr_scope.specs.declared.Space.{Space}
use Rattle.cr_scope.specs.declared.Space.TheVariants as space
use Rattle.cr_scope.specs.declared.Linkage.TheVariants as linkage
use Rattle.cr_types.specs.Types.{CType, Void, Arith, Arr}
use Rattle.cr_decl.specs.declared.SpecWord.TheVariants as word
use Rattle.cr_typing.specs.ExpressionTypes.{decayed}
use Rattle.cr_binding.specs.Source.{Source, text_at, is_identifier, is_built_in}
use Rattle.cr_binding.specs.State.{Declaration, Record, Member, State, start, Target, Whole, Within, GoesTo, IsParameter}
use Rattle.cr_binding.specs.Entities.{token_or}
use Rattle.cr_binding.specs.Declaring.{failed, used, declare, declaration, declaration_at, meaning_here, linkage_seen, is_internal, has_word, looked_up, kind_of, declare_named, declare_plain, declare_parameter}
use Rattle.cr_binding.specs.Specifying.{specifier_at, specified, announced, based, named_type, typedef_name, specified_by, type_specifier, specified_type, declared_type}
use Rattle.cr_binding.specs.Tags.{is_record_kind, is_union_kind, new_type, record_of, tag_here, declare_tag, tag_again, tag_alone, filling, completing, tag_definition, used_tag, tag_use}
use Rattle.cr_binding.specs.RecordMembers.{least_token, write_unless, write, named_member, add_member, brought_in, add_anonymous, splice}
use Rattle.cr_binding.specs.Expressions.{push, operand, is_function_name, built_in, denoting, identifier, selecting, selection, is_arrow}
use Rattle.cr_binding.specs.Initialising.{Value, StringValue, leaves, is_string, item_within, value_ended, designating, designator}
use Rattle.cr_binding.specs.Scoping.{left, unless_failed, jump_to, all_jumps}
use Rattle.cr_binding.specs.Actions.{passed, acted}
use Rattle.cr_binding.specs.Binding.{ended, goes_on, asked, walk}
use Rattle.cr_binding.specs.BindingStays.{AreWordsAlike, is_refused, pending_linkage, MeansAlike, DeclaresAlike, MentionsAlike, NamesATagAlike, UsesATagAlike, DeclaresPending, SeesPending, AddsAlike, AddsPending, BringsAlike, SelectsAlike, DesignatesAlike, JumpAlike, IsAlike, Along, BindingStays}

module _ (t u : Source) where
  -- ---- declarations

  declare_alike : (d : Declaration) (s : State) → is_refused t u s u d ≡ is_refused t u s t d → declare u d s ≡ declare t d s
  declare_alike d s h = ap (λ b. if b then failed cause.Redeclared d.token s else record s { declarations = s.declarations ++ d ∷ [] }) h

  plain_alike : (sp : Space) (k : Kind) (i : ℕ) (c : CType) (s : State) → DeclaresAlike t u s sp k linkage.None i → declare_plain u sp k i c s ≡ declare_plain t sp k i c s
  plain_alike sp k i c s h = declare_alike (declaration sp k linkage.None i c s) s h

  -- where linkage isn't taken from it, what is seen has no part
  seen_alike : (internal static : Bool) (i : ℕ) (k l : Option ℕ) (s : State) → (internal ≡ true → static ≡ false → k ≡ l) → (if internal && not static then looked_up space.Ordinary i k s else s) ≡ (if internal && not static then looked_up space.Ordinary i l s else s)
  seen_alike true true i k l s h = refl
  seen_alike true false i k l s h = ap (λ x. looked_up space.Ordinary i x s) (h refl refl)
  seen_alike false static i k l s h = refl

  if_seen_alike : (b : Bool) (d : Declaration) (i : ℕ) (k : Option ℕ) (s : State) → is_refused t u s u d ≡ is_refused t u s t d → declare u d (if b then looked_up space.Ordinary i k s else s) ≡ declare t d (if b then looked_up space.Ordinary i k s else s)
  if_seen_alike true d i k s h = declare_alike d (looked_up space.Ordinary i k s) h
  if_seen_alike false d i k s h = declare_alike d s h

  named_alike : (i : Option ℕ) (s : State) → SeesPending t u s i → declare_named u i (declared_type s) s ≡ declare_named t i (declared_type s) s
  named_alike None s h = refl
  named_alike (Some i) s h =
      let c = declared_type s in
      let l = pending_linkage t u s t i in
      let d = declaration space.Ordinary (kind_of c s) l i c s in
      let k = meaning_here u space.Ordinary i s in
      ap (λ l. declare u (declaration space.Ordinary (kind_of c s) l i c s) (linkage_seen l i k s)) h.takes
      ∙ ap (λ x. declare u d x) (seen_alike (is_internal l) (has_word word.Static s) i k (meaning_here t space.Ordinary i s) s h.means)
      ∙ if_seen_alike (is_internal l && not (has_word word.Static s)) d i (meaning_here t space.Ordinary i s) s h.declares

  parameter_alike : (i : Option ℕ) (c : CType) (s : State) → DeclaresPending t u s i → declare_parameter u i c s ≡ declare_parameter t i c s
  parameter_alike None c s h = refl
  parameter_alike (Some i) c s h = plain_alike space.Ordinary kind.Object i (decayed c) (used (IsParameter i) s) h

  -- ---- specifiers

  if_alike : (b : Bool) (x y z : State) → (b ≡ true → x ≡ y) → (if b then x else z) ≡ (if b then y else z)
  if_alike true x y z h = h refl
  if_alike false x y z h = refl

  typedef_alike : (i : ℕ) (s : State) → MeansAlike t u s space.Ordinary i → typedef_name u i s ≡ typedef_name t i s
  typedef_alike i s h = ap (λ k. named_type k (declaration_at s k) i s) h

  specifier_alike : AreWordsAlike t u → (i : ℕ) (s : State) → (is_identifier t i ≡ true → MeansAlike t u s space.Ordinary i) → type_specifier u i s ≡ type_specifier t i s
  specifier_alike w i s h =
      ap (λ k. if is_name k then typedef_name u i s else specified_by (specifier_at u i) s) (w.kinds i)
      ∙ ap (λ x. if is_identifier t i then typedef_name u i s else specified_by x s) (w.words i)
      ∙ if_alike (is_identifier t i) (typedef_name u i s) (typedef_name t i s) (specified_by (specifier_at t i) s) (λ e. typedef_alike i s (h e))

  -- ---- tags

  new_tag_alike : (b : Bool) (xs : List Record) (i : ℕ) (c : CType) (s : State) → DeclaresAlike t u s space.Tag s.keyword linkage.None i → declare_tag u i c (if b then record s { records = xs } else s) ≡ declare_tag t i c (if b then record s { records = xs } else s)
  new_tag_alike true xs i c s h = ap (based c) (plain_alike space.Tag s.keyword i c (record s { records = xs }) h)
  new_tag_alike false xs i c s h = ap (based c) (plain_alike space.Tag s.keyword i c s h)

  again_alike : (d : Option Declaration) (i : ℕ) (s : State) → DeclaresAlike t u s space.Tag s.keyword linkage.None i → tag_again d u i s ≡ tag_again d t i s
  again_alike None i s h =
      new_tag_alike (is_record_kind s.keyword) (s.records ++ (record { token = i; is_union = is_union_kind s.keyword }) ∷ []) i (new_type s) s h
  again_alike (Some d) i s h = ap (based d.type) (plain_alike space.Tag s.keyword i d.type s h)

  alone_alike : (i : ℕ) (s : State) → NamesATagAlike t u s i → tag_alone u i s ≡ tag_alone t i s
  alone_alike i s h = ap (λ d. tag_again d u i s) h.here ∙ again_alike (tag_here t i s) i s h.declares

  abbrev completed_by : ℕ → State → Option Declaration → State → State
  completed_by i s d x =
      if list_any (eqb (token_or i d)) s.completed then failed cause.Redeclared i s else filling (completing (token_or i d) x)

  definition_alike : (i : ℕ) (s : State) → NamesATagAlike t u s i → tag_definition u i s ≡ tag_definition t i s
  definition_alike i s h =
      ap (λ d. completed_by i s d (tag_alone u i s)) h.here ∙ ap (λ x. completed_by i s (tag_here t i s) x) (alone_alike i s h)

  used_alike : (k : Option ℕ) (d : Option Declaration) (i : ℕ) (s : State) → (d ≡ None → DeclaresAlike t u s space.Tag s.keyword linkage.None i) → used_tag k d u i s ≡ used_tag k d t i s
  used_alike k None i s h = again_alike None i (looked_up space.Tag i None s) (h refl)
  used_alike k (Some d) i s h = refl

  tag_use_alike : (i : ℕ) (s : State) → UsesATagAlike t u s i → tag_use u i s ≡ tag_use t i s
  tag_use_alike i s h =
      let k = meaning_here t space.Tag i s in
      ap (λ k. used_tag k (declaration_at s k) u i s) h.means ∙ used_alike k (declaration_at s k) i s h.declares

  -- ---- members

  write_alike : (r : ℕ) (c : CType) (new : List Member) (s : State) → AddsAlike t u s r new → write u r c new s ≡ write t r c new s
  write_alike r c new s h = ap (λ x. write_unless (least_token x) r c new s) h

  member_alike : (r i : Option ℕ) (s : State) → AddsPending t u s r i → add_member u r i (declared_type s) s ≡ add_member t r i (declared_type s) s
  member_alike None i s h = refl
  member_alike (Some r) None s h = refl
  member_alike (Some r) (Some i) s h = write_alike r (declared_type s) (named_member r i (declared_type s) s ∷ []) s h

  anonymous_alike : (r q : Option ℕ) (c : CType) (s : State) → BringsAlike t u s r q → add_anonymous u r q c s ≡ add_anonymous t r q c s
  anonymous_alike None q c s h = refl
  anonymous_alike (Some r) None c s h = refl
  anonymous_alike (Some r) (Some q) c s h = write_alike r c (brought_in r q s) s h

  splice_alike : (s : State) → (s.pending.is_untagged ≡ true → BringsAlike t u s s.filled (record_of (specified_type s.pending))) → splice u s ≡ splice t s
  splice_alike s h =
      let c = specified_type s.pending in
      if_alike s.pending.is_untagged (add_anonymous u s.filled (record_of c) c s) (add_anonymous t s.filled (record_of c) c s) s (λ e. anonymous_alike s.filled (record_of c) c s (h e))

  -- ---- expressions and initialisers

  denoting_alike : (called : Bool) (k : Option ℕ) (d : Option Declaration) (i : ℕ) (s : State) → (d ≡ None → is_built_in (text_at u i) ≡ is_built_in (text_at t i)) → denoting called k d u i s ≡ denoting called k d t i s
  denoting_alike called k None i s h = ap (λ b. if called && b then built_in i s else failed cause.Unresolved i s) (h refl)
  denoting_alike called k (Some d) i s h = refl

  identifier_alike : (called : Bool) (i : ℕ) (s : State) → MentionsAlike t u s i → identifier called u i s ≡ identifier called t i s
  identifier_alike called i s h =
      let k = meaning_here t space.Ordinary i s in
      ap (λ k. if s.in_body && is_function_name (text_at u i) then built_in i s else denoting called k (declaration_at s k) u i s) h.means
      ∙ ap (λ b. if b then built_in i s else denoting called k (declaration_at s k) u i s) h.own
      ∙ ap (λ x. if s.in_body && is_function_name (text_at t i) then built_in i s else x) (denoting_alike called k (declaration_at s k) i s h.supplied)

  selection_alike : (arrow : Bool) (i : ℕ) (s : State) → SelectsAlike t u s i → selection arrow u i s ≡ selection arrow t i s
  selection_alike arrow i s h = ap (λ x. selecting x i s) (h arrow)

  strings_alike : AreWordsAlike t u → (is : List ℕ) → is_string u is ≡ is_string t is
  strings_alike w [] = refl
  strings_alike w (i ∷ []) = ap is_string_kind (w.kinds i)
  strings_alike w (i ∷ j ∷ is) = refl

  value_alike : AreWordsAlike t u → (s : State) → value_ended u s ≡ value_ended t s
  value_alike w s =
      ap (λ b. record s { target = item_within s (if b then StringValue else Value (operand s)) s.target; values = drop 1 s.values }) (strings_alike w (leaves s.closed))

  designator_alike : (x : Target) (i : ℕ) (s : State) → DesignatesAlike t u s x i → designator x u i s ≡ designator x t i s
  designator_alike (Whole c) i s h = refl
  designator_alike (Within b) i s h = ap (λ x. designating x b i s) h

  -- ---- labels

  jumps_failed : (j : ℕ) (is : List ℕ) (s : State) → JumpAlike t u s is → JumpAlike t u (failed cause.Unresolved j s) is
  jumps_failed j [] s h = h
  jumps_failed j (i ∷ is) s h = (h.0, jumps_failed j is s h.1)

  jumps_used : (j k : ℕ) (is : List ℕ) (s : State) → JumpAlike t u s is → JumpAlike t u (used (GoesTo j k) s) is
  jumps_used j k [] s h = h
  jumps_used j k (i ∷ is) s h = (h.0, jumps_used j k is s h.1)

  jumps_on : (failing : Bool) (k : Option ℕ) (i : ℕ) (is : List ℕ) (s : State) → JumpAlike t u s is → JumpAlike t u (if failing then s else jump_to k i s) is
  jumps_on true k i is s h = h
  jumps_on false None i is s h = jumps_failed i is s h
  jumps_on false (Some k) i is s h = jumps_used i k is s h

  jumps_alike : (is : List ℕ) (s : State) → JumpAlike t u s is → all_jumps u is s ≡ all_jumps t is s
  jumps_alike [] s h = refl
  jumps_alike (i ∷ is) s h =
      let k = meaning_here t space.Label i s in
      ap (λ k. all_jumps u is (unless_failed s (jump_to k i s))) h.0
      ∙ jumps_alike is (unless_failed s (jump_to k i s)) (jumps_on (is_some s.fault) k i is s h.1)

  -- ---- tokens and actions

  passed_alike : AreWordsAlike t u → (m : NonTerm) (i : ℕ) (s : State) → passed u m i s ≡ passed t m i s
  passed_alike w n.Mod i s = ap (λ x. record (specified x i s) { last = i }) (w.words i)
  passed_alike w n.Specs0 i s = ap (λ x. record (specified x i s) { last = i }) (w.words i)
  passed_alike w n.SpecsB i s = ap (λ x. record (specified x i s) { last = i }) (w.words i)
  passed_alike w n.Rec i s = ap (λ x. record (announced x s) { last = i }) (w.words i)
  passed_alike w n.Enum i s = ap (λ x. record (announced x s) { last = i }) (w.words i)
  passed_alike w _ i s = refl

  acted_alike : AreWordsAlike t u → (m : NonTerm) (first : ℕ) (x : Action) (s : State) → IsAlike t u m first x s → acted u m first x s ≡ acted t m first x s
  acted_alike w m first a.Spec s h = specifier_alike w first s h
  acted_alike w m first a.Declare s h = named_alike s.pending.name s h
  acted_alike w m first a.Param s h = parameter_alike s.pending.name (declared_type s) s h
  acted_alike w m first a.Enumerator s h = plain_alike space.Ordinary kind.Enumerator first Arith s h
  acted_alike w m first a.TagDef s h = definition_alike s.last s h
  acted_alike w m first a.TagAlone s h = alone_alike s.last s h
  acted_alike w m first a.TagUse s h = tag_use_alike s.last s h
  acted_alike w m first a.Member s h = member_alike s.filled s.pending.name s h
  acted_alike w m first a.Splice s h = splice_alike s h
  acted_alike w m first a.Label s h = plain_alike space.Label kind.Label s.last Void s h
  acted_alike w m first a.EndBody s h = ap (λ x. record (left x) { in_body = false; jumps = [] }) (jumps_alike s.jumps s h)
  acted_alike w m first a.Callee s h = identifier_alike true s.last s h
  acted_alike w m first a.Mention s h = identifier_alike false s.last s h
  acted_alike w m first a.Value s h = ap (λ k. push (if is_string_kind k then Arr Arith else Arith) s) (w.kinds s.last)
  acted_alike w m first a.Op s h = ap (λ cs. record s { values = cs }) (h s.values)
  acted_alike w m first a.Select s h =
      ap (λ b. selection b u s.last s) h.0 ∙ selection_alike (is_arrow (text_at t first)) s.last s h.1
  acted_alike w m first a.OffMember s h = selection_alike false s.last s h
  acted_alike w m first a.Item s h = value_alike w s
  acted_alike w m first a.Desig s h = designator_alike s.target s.last s h
  acted_alike w m first _ s h = refl

  -- ---- the walk

  walk_alike : AreWordsAlike t u → (m : NonTerm) (first : Option ℕ) (trees : Trees) (s : State) → Along (IsAlike t u) t m first trees s → walk u m first trees s ≡ walk t m first trees s
  walk_alike w m first none s h = refl
  walk_alike w m first (token i next) s h =
      ap (λ x. walk u m (Some (unwrap_or first i)) next (goes_on s x)) (passed_alike w m i s)
      ∙ walk_alike w m (Some (unwrap_or first i)) next (goes_on s (passed t m i s)) h
  walk_alike w m first (action x next) s h =
      ap (λ y. walk u m first next (goes_on s y)) (acted_alike w m (unwrap_or first s.last) x s h.0)
      ∙ walk_alike w m first next (goes_on s (acted t m (unwrap_or first s.last) x s)) h.1
  walk_alike w m first (node k asks children next) s h =
      ap (λ x. walk u m first next (unless_failed s (ended m k children s x))) (walk_alike w k None children (asked asks s) h.0)
      ∙ walk_alike w m first next (unless_failed s (ended m k children s (walk t k None children (asked asks s)))) h.1

pub binding_stays : BindingStays
binding_stays t u tree w h = walk_alike t u w n.Unit None tree start h
