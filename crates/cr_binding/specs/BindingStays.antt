-- When two spellings of a unit bind alike: each action reads the same of the names.
use Rattle.std.specs.Prelude.{◌≡◌, ℕ, Bool, true, false, ◌&&◌, Option, Some, None, unwrap_or, List, [], ◌∷◌, map}
use Rattle.std.specs.List.{list_any}
use Rattle.cr_grammar.specs.declared.symbols.NonTerm.{NonTerm}
use Rattle.cr_grammar.specs.declared.symbols.NonTerm.TheVariants as n
use Rattle.cr_grammar.specs.declared.symbols.Action.{Action}
use Rattle.cr_grammar.specs.declared.symbols.Action.TheVariants as a
use Rattle.cr_ll.specs.Derivation.{Trees, none, token, action, node}
use Rattle.cr_scope.specs.declared.Space.{Space}
use Rattle.cr_scope.specs.declared.Space.TheVariants as space
use Rattle.cr_scope.specs.declared.Linkage.{Linkage}
use Rattle.cr_scope.specs.declared.Linkage.TheVariants as linkage
use Rattle.cr_scope.specs.Redeclaration.{clashes}
use Rattle.cr_types.specs.Types.{CType, Void}
use Rattle.cr_base.specs.declared.Kind.{Kind}
use Rattle.cr_base.specs.declared.Kind.TheVariants as kind
use Rattle.cr_decl.specs.declared.SpecWord.TheVariants as word
use Rattle.cr_typing.specs.Initialisers.{starts_from}
use Rattle.cr_binding.specs.Source.{Source, token_of, name_at, text_at, is_identifier, is_built_in}
use Rattle.cr_binding.specs.State.{Declaration, Member, Target, Whole, Within, State, start}
use Rattle.cr_binding.specs.Entities.{entry}
use Rattle.cr_binding.specs.Declaring.{declaration, meaning_here, declaration_at, kind_of, linkage_for, is_internal, has_word}
use Rattle.cr_binding.specs.Specifying.{specifier_at, specified_type, declared_type}
use Rattle.cr_binding.specs.Tags.{tag_here, record_of}
use Rattle.cr_binding.specs.RecordMembers.{select, repeated, named_member, brought_in}
use Rattle.cr_binding.specs.Expressions.{operand, operated, is_arrow, is_function_name}
use Rattle.cr_binding.specs.Initialising.{dotted}
use Rattle.cr_binding.specs.Scoping.{unless_failed}
use Rattle.cr_binding.specs.Actions.{passed, acted}
use Rattle.cr_binding.specs.Binding.{ended, goes_on, asked, walk, bound}

-- u has the tokens of t, of the same kinds, with the same words of specifiers among them
pub record AreWordsAlike (t u : Source) : Type 0 where
  pub kinds : (i : ℕ) → (token_of u i).kind ≡ (token_of t i).kind
  pub words : (i : ℕ) → specifier_at u i ≡ specifier_at t i

-- What one action reads, in the state s of t.
module _ (t u : Source) (s : State) where
  -- a token's spelling means the same declaration
  abbrev pub MeansAlike : Space → ℕ → Type 0
  MeansAlike sp i = meaning_here u sp i s ≡ meaning_here t sp i s

  abbrev pub is_refused : Source → Declaration → Bool
  is_refused v d = list_any (clashes (entry v d)) (map (entry v) s.declarations)

  -- A declaration at a token may stand beside the others, or may not. Its type has no part in that.
  abbrev pub DeclaresAlike : Space → Kind → Linkage → ℕ → Type 0
  DeclaresAlike sp k l i = let d = declaration sp k l i Void s in is_refused u d ≡ is_refused t d

  -- an identifier of an expression: what isn't declared is supplied by the compiler, or isn't
  pub record MentionsAlike (i : ℕ) : Type 0 where
    pub means : MeansAlike space.Ordinary i
    pub own : (s.in_body && is_function_name (text_at u i)) ≡ (s.in_body && is_function_name (text_at t i))
    pub supplied : declaration_at s (meaning_here t space.Ordinary i s) ≡ None → is_built_in (text_at u i) ≡ is_built_in (text_at t i)

  pub record NamesATagAlike (i : ℕ) : Type 0 where
    pub here : tag_here u i s ≡ tag_here t i s
    pub declares : DeclaresAlike space.Tag s.keyword linkage.None i

  pub record UsesATagAlike (i : ℕ) : Type 0 where
    pub means : MeansAlike space.Tag i
    pub declares : declaration_at s (meaning_here t space.Tag i s) ≡ None → DeclaresAlike space.Tag s.keyword linkage.None i

  -- a parameter
  abbrev pub DeclaresPending : Option ℕ → Type 0
  DeclaresPending None = Unit {0}
  DeclaresPending (Some i) = DeclaresAlike space.Ordinary kind.Object linkage.None i

  -- the linkage that an object, a function or a typedef name takes
  abbrev pub pending_linkage : Source → ℕ → Linkage
  pending_linkage v i = linkage_for v (declaration_at s (meaning_here v space.Ordinary i s)) (kind_of (declared_type s) s) s

  -- It is the same; where it is internal without `static`, and so taken from what is seen, the same is seen.
  pub record SeesAlike (i : ℕ) : Type 0 where
    pub takes : pending_linkage u i ≡ pending_linkage t i
    pub means : is_internal (pending_linkage t i) ≡ true → has_word word.Static s ≡ false → MeansAlike space.Ordinary i
    pub declares : DeclaresAlike space.Ordinary (kind_of (declared_type s) s) (pending_linkage t i) i

  abbrev pub SeesPending : Option ℕ → Type 0
  SeesPending None = Unit {0}
  SeesPending (Some i) = SeesAlike i

  -- new names select in a record beside the others, or may not
  abbrev pub AddsAlike : ℕ → List Member → Type 0
  AddsAlike r new = repeated u s r new ≡ repeated t s r new

  abbrev pub AddsPending : Option ℕ → Option ℕ → Type 0
  AddsPending (Some r) (Some i) = AddsAlike r (named_member r i (declared_type s) s ∷ [])
  AddsPending _ _ = Unit {0}

  abbrev pub BringsAlike : Option ℕ → Option ℕ → Type 0
  BringsAlike (Some r) (Some q) = AddsAlike r (brought_in r q s)
  BringsAlike _ _ = Unit {0}

  -- a name selects the same member of the operand
  abbrev pub SelectsAlike : ℕ → Type 0
  SelectsAlike i = (arrow : Bool) → select u s arrow (name_at u i) (operand s) ≡ select t s arrow (name_at t i) (operand s)

  -- the operator is the same one
  abbrev pub OperatesAlike : NonTerm → ℕ → Type 0
  OperatesAlike m first = (cs : List CType) → operated m (text_at u first) cs ≡ operated m (text_at t first) cs

  abbrev pub DesignatesAlike : Target → ℕ → Type 0
  DesignatesAlike (Whole c) i = Unit {0}
  DesignatesAlike (Within b) i = dotted u s (name_at u i) (starts_from b) ≡ dotted t s (name_at t i) (starts_from b)

  abbrev pub JumpAlike : List ℕ → Type 0
  JumpAlike [] = Unit {0}
  JumpAlike (i ∷ is) = MeansAlike space.Label i × JumpAlike is

-- an action of a node, of which `first` is the first token
abbrev pub IsAlike : Source → Source → NonTerm → ℕ → Action → State → Type 0
IsAlike t u m first a.Spec s = is_identifier t first ≡ true → MeansAlike t u s space.Ordinary first
IsAlike t u m first a.Declare s = SeesPending t u s s.pending.name
IsAlike t u m first a.Param s = DeclaresPending t u s s.pending.name
IsAlike t u m first a.Enumerator s = DeclaresAlike t u s space.Ordinary kind.Enumerator linkage.None first
IsAlike t u m first a.TagDef s = NamesATagAlike t u s s.last
IsAlike t u m first a.TagAlone s = NamesATagAlike t u s s.last
IsAlike t u m first a.TagUse s = UsesATagAlike t u s s.last
IsAlike t u m first a.Member s = AddsPending t u s s.filled s.pending.name
IsAlike t u m first a.Splice s =
    s.pending.is_untagged ≡ true → BringsAlike t u s s.filled (record_of (specified_type s.pending))
IsAlike t u m first a.Label s = DeclaresAlike t u s space.Label kind.Label linkage.None s.last
IsAlike t u m first a.EndBody s = JumpAlike t u s s.jumps
IsAlike t u m first a.Callee s = MentionsAlike t u s s.last
IsAlike t u m first a.Mention s = MentionsAlike t u s s.last
IsAlike t u m first a.Op s = OperatesAlike t u s m first
IsAlike t u m first a.Select s = (is_arrow (text_at u first) ≡ is_arrow (text_at t first)) × SelectsAlike t u s s.last
IsAlike t u m first a.OffMember s = SelectsAlike t u s s.last
IsAlike t u m first a.Desig s = DesignatesAlike t u s s.target s.last
IsAlike t u m first _ s = Unit {0}

-- something holds at each action of a walk: of its node, the first token of that, the action, and the state before it
abbrev pub Along : (NonTerm → ℕ → Action → State → Type 0) → Source → NonTerm → Option ℕ → Trees → State → Type 0
Along P t m first none s = Unit {0}
Along P t m first (token i next) s = Along P t m (Some (unwrap_or first i)) next (goes_on s (passed t m i s))
Along P t m first (action x next) s =
    P m (unwrap_or first s.last) x s × Along P t m first next (goes_on s (acted t m (unwrap_or first s.last) x s))
Along P t m first (node k asks children next) s =
    Along P t k None children (asked asks s)
    × Along P t m first next (unless_failed s (ended m k children s (walk t k None children (asked asks s))))

-- Where no action reads anything else of the names, all is bound as it was: declarations, uses, members and the fault.
abbrev pub BindingStays : Type 0
BindingStays =
    (t u : Source) (tree : Trees)
    → AreWordsAlike t u
    → Along (IsAlike t u) t n.Unit None tree start
    → bound u tree ≡ bound t tree
