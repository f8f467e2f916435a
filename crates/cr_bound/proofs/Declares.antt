-- That names are declared as binding says.
use Rattle.std.proofs.Common.{◌≡◌, ℕ, Bool, true, false, not, ◌&&◌, if◌then◌else◌, Option, Some, None, List, refl, sym, ap, subst, ◌∙◌}
use Rattle.std.specs.Prelude.{option_map}
use Rattle.cr_base.specs.declared.token.Name.{Name}
use Rattle.cr_base.specs.declared.token.Tok.{Tok}
use Rattle.cr_base.specs.declared.Kind.{Kind}
use Rattle.cr_base.specs.declared.Kind.TheVariants as kind
use Rattle.cr_scope.specs.declared.Decl.{Decl}
use Rattle.cr_scope.specs.declared.Linkage.{Linkage}
use Rattle.cr_scope.specs.declared.Linkage.TheVariants as linkage
use Rattle.cr_scope.specs.declared.Space.{Space}
use Rattle.cr_scope.specs.declared.Space.TheVariants as space
use Rattle.cr_decl.specs.declared.SpecWord.TheVariants as word
use Rattle.cr_types.specs.declared.Part.{Part}
use Rattle.cr_types.specs.declared.TypeNo.{TypeNo}
use Rattle.cr_types.specs.Types.{CType, Table, IsTypeNo, type_at}
use Rattle.cr_typing.specs.ExpressionTypes.{decayed}
use Rattle.cr_declared.specs.Rows.{IsFormed, is_tag_kind}
use Rattle.cr_binding.specs.Source.{Source, name_at}
use Rattle.cr_binding.specs.State.{Declaration, IsParameter, State}
use Rattle.cr_binding.specs.Entities.{entry}
use Rattle.cr_binding.specs.Declaring.{has_word, is_function_type, is_internal, looked_up, kind_of, linkage_for, linkage_seen, declaration, declaration_at, declare, declare_as, declare_named, declare_parameter, used, meaning_here}
use Rattle.cr_names.specs.declared.fault.BindFault.{BindFault}
use Rattle.cr_names.specs.declared.names.Typed.{Typed}
use Rattle.cr_names.specs.Kept.{KnownNames, IsOf}
use Rattle.cr_names.specs.Names as names
use Rattle.cr_names.specs.Names.{HasTokens, IsNamed, IsMeaning, IsDeclaration, Refuses, declared_as, declaration_of}
use Rattle.cr_bound.specs.declared.bound.Bound.{Bound}
use Rattle.cr_bound.specs.Kept.{with_bound, IsTyped}
use Rattle.cr_bound.specs.Bound.{Does, DoesAny, DoesWith, Fails, FailsAny, FailsWith, StaysTyped, StaysWith, Grows, declaring, declaring_parameter, type_by}
use Rattle.cr_bound.specs.Declaring.{declaring_typed, parameter_typed, enumerating, IsLinkage, seeing}
use Rattle.cr_bound.specs.Making.{made, IsMade}
use Rattle.cr_bound.specs.declared.declaring.Making.{Making}
use Rattle.cr_bound.proofs.Lenses.{rest, names_do_as, names_refuse_as, refuses_on}

-- ---- two changes of the names

pub both_done : (t : Table) (P : Source → Type 0) (x y z : KnownNames) (f : State → State) (g : Source → State → State)
    → names.Moves x f y → names.Does t P y g z → names.Does t P x (λ source s. g source (f s)) z
both_done t P x y z f g m d = record {
  state = λ source s p sound spelled.
      d.state source s p sound ((m t).spelled source tt spelled) ∙ ap (g source) ((m t).state source s tt sound spelled);
  spelled = λ source p h. d.spelled source p ((m t).spelled source tt h);
  typed = λ h. d.typed ((m t).typed h);
}

pub both_failed : (P : Source → Type 0) (x y : KnownNames) (f : State → State) (g : Table → Source → State → State) (z : BindFault)
    → names.Moves x f y → Refuses z (names.Fails P y g) → Refuses z (names.Fails P x (λ t source s. g t source (f s)))
both_failed P x y f g z m = refuses_on z (names.Fails P y g) (names.Fails P x (λ t source s. g t source (f s)))
    (λ c i h t source s p sound spelled.
    ap (λ a. (g t source a).fault) (sym ((m t).state source s tt sound spelled)) ∙ h t source s p sound ((m t).spelled source tt spelled))

pub seen_moves : (x y : KnownNames) (takes : Bool) (i : ℕ) (k : Option ℕ) → not takes ≡ false → names.Moves x (looked_up space.Ordinary i k) y → names.Moves x (seeing takes i k) y
seen_moves x y true i k e m = m
seen_moves x y false i k e m = cc

-- a fault with the number of a type, at the type
pub with_fails : (n : TypeNo) (P : Source → Type 0) (b : Bound) (f : CType → Source → State → State) (u : Table) → IsTyped u b → IsTypeNo u n → (z : BindFault)
    → Refuses z (FailsWith n P b f) → Refuses z (Fails P u b (f (type_at u n)))
with_fails n P b f u typed given z = refuses_on z (FailsWith n P b f) (Fails P u b (f (type_at u n))) (λ c i h. h u typed given)

-- ---- kinds and linkages

pub linkage_same : (source : Source) (e : Option Declaration) (r : Option Linkage) → option_map (λ (d : Declaration). d.linkage) e ≡ r → IsLinkage (option_map (entry source) e) r
linkage_same source None r h = h
linkage_same source (Some d) r h = h

pub linkage_found : (t : Table) (ps : List (List ℕ)) (e : Option Declaration) (r : Option Typed) → e ≡ option_map (declaration_of t ps) r
    → option_map (λ (d : Declaration). d.linkage) e ≡ option_map (λ (x : Typed). x.row.decl.linkage) r
linkage_found t ps e None h = ap (option_map (λ (d : Declaration). d.linkage)) h
linkage_found t ps e (Some x) h = ap (option_map (λ (d : Declaration). d.linkage)) h

abbrev kind_by : Bool → Bool → Kind
kind_by typedef function = if typedef then kind.Typedef else (if function then kind.Function else kind.Object)

formed_by : (w f : Bool) (name : Name) (i : ℕ) (source : Source) (seen : Option Declaration) (s : State)
    → IsFormed (record { space = space.Ordinary; name = name; token = i; kind = kind_by w f; linkage = linkage_for source seen (kind_by w f) s; note = 0 })
formed_by true f name i source seen s = record { tags = refl; types = λ h. refl; linked = λ h. cc }
formed_by false true name i source seen s = record { tags = refl; types = λ h. refl; linked = λ h. refl }
formed_by false false name i source seen s = record { tags = refl; types = λ h. refl; linked = λ h. refl }

pub formed_ordinary : (d : Decl) (name : Name) (i : ℕ) (k : Kind) (l : Linkage) (c : CType) (source : Source) (seen : Option Declaration) (s : State)
    → d ≡ (record { space = space.Ordinary; name = name; token = i; kind = k; linkage = l; note = 0 }) → k ≡ kind_of c s → l ≡ linkage_for source seen k s → IsFormed d
formed_ordinary d name i k l c source seen s e is takes =
    subst IsFormed (sym (e ∙ (λ j. record { space = space.Ordinary; name = name; token = i; kind = is j; linkage = (takes ∙ ap (λ z. linkage_for source seen z s) is) j; note = 0 })))
    (formed_by (has_word word.Typedef s) (is_function_type c) name i source seen s)

-- ---- a declaration

seen_present : (b : Bool) (i : ℕ) (k : Option ℕ) (s : State) → (seeing b i k s).present ≡ s.present
seen_present true i k s = refl
seen_present false i k s = refl

module _ (t : Table) (source : Source) (i : ℕ) (n : TypeNo) (k : Option ℕ) (what : Kind) (l : Linkage) (takes : Bool) (d : Decl) (name : Name) (s : State)
    (meant : meaning_here source space.Ordinary i s ≡ k) (is : what ≡ kind_of (type_at t n) s) (linked : l ≡ linkage_for source (declaration_at s k) what s)
    (sees : takes ≡ (is_internal l && not (has_word word.Static s))) (e : d ≡ (record { space = space.Ordinary; name = name; token = i; kind = what; linkage = l; note = 0 })) where
  pub typed_is : declaring_typed i (type_at t n) source s ≡ declared_as d n t source (seeing takes d.token k s)
  typed_is =
      (λ j. declare_as source (meant j) (sym is j) i (type_at t n) s)
      ∙ (λ j. declare source (declaration space.Ordinary what (sym linked j) i (type_at t n) s) (linkage_seen (sym linked j) i k s))
      ∙ ap (λ b. declare source (declaration space.Ordinary what l i (type_at t n) s) (seeing b i k s)) (sym sees)
      ∙ ap (λ p. declare source (record { path = p; space = space.Ordinary; token = i; kind = what; linkage = l; type = type_at t n }) (seeing takes i k s)) (sym (seen_present takes i k s))
      ∙ ap (λ (x : Decl). declared_as x n t source (seeing takes x.token k s)) (sym e)

module _ (t : Table) (b : Bound) (i : ℕ) (name : Name) (n : TypeNo) (x : Making) (is : IsMade t b i name n x) (at : x.decl.token ≡ i) (named : x.decl.name ≡ name) where
  on_name : (source : Source) → IsNamed i name source → IsNamed x.decl.token x.decl.name source
  on_name source h = (λ j. name_at source (at j)) ∙ h ∙ sym named

  pub made_does : (y : KnownNames) → names.Does t (IsNamed x.decl.token x.decl.name) b.names (made x n t) y
      → Does (IsNamed i name) t b (declaring_typed i (type_at t n)) t (record b { names = y })
  made_does y = names_do_as b y t (IsNamed x.decl.token x.decl.name) (IsNamed i name) (made x n t) (declaring_typed i (type_at t n)) on_name is

  pub made_fails : (z : BindFault) → Refuses z (names.Fails (IsNamed x.decl.token x.decl.name) b.names (made x n)) → Refuses z (Fails (IsNamed i name) t b (declaring_typed i (type_at t n)))
  made_fails z = refuses_on z (names.Fails (IsNamed x.decl.token x.decl.name) b.names (made x n)) (Fails (IsNamed i name) t b (declaring_typed i (type_at t n)))
      (λ c k h source s q sound spelled. ap (λ a. a.fault) (is source s q spelled) ∙ h t source (rest b t s) (on_name source q) sound spelled.0)

-- ---- the end of a declarator

module _ (t u : Table) (b : Bound) (grows : Grows t u b) (parts : List Part) (tokens : List Tok) (i : ℕ) (named : b.pending.name ≡ Some i) (name : Name)
    (on : (source : Source) → HasTokens tokens source → IsNamed i name source) (n : TypeNo) (meant : (s : State) → type_at u n ≡ type_by parts (with_bound t b s)) where
  declaring_is : (source : Source) (s : State) → declaring parts source (with_bound t b s) ≡ declaring_typed i (type_at u n) source (with_bound u b s)
  declaring_is source s =
      (λ j. declare_named source (named j) (sym (meant s) j) (with_bound t b s)) ∙ ap (declaring_typed i (type_at u n) source) (sym (grows.same s))

  pub declarator_ended : (c : Bound) → Does (IsNamed i name) u b (declaring_typed i (type_at u n)) u c → Does (HasTokens tokens) t b (declaring parts) u c
  declarator_ended c d = record {
    state = λ source s q sound spelled. d.state source s (on source q) sound spelled ∙ sym (declaring_is source s);
    spelled = λ source q h. d.spelled source (on source q) h;
  }

  pub declarator_fails : (z : BindFault) → Refuses z (Fails (IsNamed i name) u b (declaring_typed i (type_at u n))) → Refuses z (Fails (HasTokens tokens) t b (declaring parts))
  declarator_fails z = refuses_on z (Fails (IsNamed i name) u b (declaring_typed i (type_at u n))) (Fails (HasTokens tokens) t b (declaring parts))
      (λ c k h source s q sound spelled. ap (λ a. a.fault) (declaring_is source s) ∙ h source s (on source q) sound spelled)

pub nothing_declared : (t : Table) (b : Bound) (parts : List Part) (P : Source → Type 0) → b.pending.name ≡ None → Does P t b (declaring parts) t b
nothing_declared t b parts P none = record {
  state = λ source s q sound spelled. ap (λ o. declare_named source o (type_by parts (with_bound t b s)) (with_bound t b s)) (sym none);
  spelled = λ source q h. h;
}

-- ---- parameters and enumerators

module _ (t u : Table) (b : Bound) (grows : Grows t u b) (parts : List Part) (tokens : List Tok) (i : ℕ) (named : b.pending.name ≡ Some i) (name : Name)
    (on : (source : Source) → HasTokens tokens source → IsNamed i name source) (n : TypeNo) (meant : (s : State) → type_at u n ≡ decayed (type_by parts (with_bound t b s))) where
  parameter_is : (source : Source) (s : State) → declaring_parameter parts source (with_bound t b s) ≡ parameter_typed i (type_at u n) source (with_bound u b s)
  parameter_is source s =
      ap (λ o. declare_parameter source o (type_by parts (with_bound t b s)) (with_bound t b s)) named
      ∙ (λ j. parameter_typed i (sym (meant s) j) source (with_bound t b s))
      ∙ ap (parameter_typed i (type_at u n) source) (sym (grows.same s))

  pub parameter_ended : (c : Bound) → Does (IsNamed i name) u b (parameter_typed i (type_at u n)) u c → Does (HasTokens tokens) t b (declaring_parameter parts) u c
  parameter_ended c d = record {
    state = λ source s q sound spelled. d.state source s (on source q) sound spelled ∙ sym (parameter_is source s);
    spelled = λ source q h. d.spelled source (on source q) h;
  }

  pub parameter_fails : (z : BindFault) → Refuses z (Fails (IsNamed i name) u b (parameter_typed i (type_at u n))) → Refuses z (Fails (HasTokens tokens) t b (declaring_parameter parts))
  parameter_fails z = refuses_on z (Fails (IsNamed i name) u b (parameter_typed i (type_at u n))) (Fails (HasTokens tokens) t b (declaring_parameter parts))
      (λ c k h source s q sound spelled. ap (λ a. a.fault) (parameter_is source s) ∙ h source s (on source q) sound spelled)

pub no_parameter : (t : Table) (b : Bound) (parts : List Part) (P : Source → Type 0) → b.pending.name ≡ None → Does P t b (declaring_parameter parts) t b
no_parameter t b parts P none = record {
  state = λ source s q sound spelled. ap (λ o. declare_parameter source o (type_by parts (with_bound t b s)) (with_bound t b s)) (sym none);
  spelled = λ source q h. h;
}

-- a declaration without linkage that is made of a kind
abbrev pub plain_decl : Space → Kind → ℕ → Name → Decl
plain_decl sp k i name = record { space = sp; name = name; token = i; kind = k; linkage = linkage.None; note = 0 }

pub formed_plain : (d : Decl) (k : Kind) (i : ℕ) (name : Name) → is_tag_kind k ≡ false → d ≡ plain_decl space.Ordinary k i name → IsFormed d
formed_plain d k i name e is = subst IsFormed (sym is) (record { tags = sym e; types = λ h. refl; linked = λ h. cc })

pub bare_plain : (d : Decl) (sp : Space) (k : Kind) (i : ℕ) (name : Name) → d ≡ plain_decl sp k i name → d.note ≡ 0
bare_plain d sp k i name is = ap (λ (x : Decl). x.note) is

module _ (b : Bound) (i : ℕ) (name : Name) (d : Decl) (n : TypeNo) (is : d ≡ plain_decl space.Ordinary kind.Object i name) (x : KnownNames) (m : names.Moves b.names (used (IsParameter i)) x) where
  on_decl : (source : Source) → IsNamed i name source → IsNamed d.token d.name source
  on_decl source h = subst (λ (z : Decl). IsNamed z.token z.name source) (sym is) h

  pub parameter_does : (y : KnownNames) → ((t : Table) → IsTypeNo t n → names.Does t (IsNamed d.token d.name) x (declared_as d n t) y)
      → DoesWith n (IsNamed i name) b (parameter_typed i) (record b { names = y })
  parameter_does y h t typed given =
      names_do_as b y t (IsNamed d.token d.name) (IsNamed i name) (λ source s. declared_as d n t source (used (IsParameter i) s)) (parameter_typed i (type_at t n)) on_decl
      (λ source s q spelled. ap (λ (z : Decl). declared_as z n t source (used (IsParameter i) (with_bound t b s))) (sym is))
      (both_done t (IsNamed d.token d.name) b.names x y (used (IsParameter i)) (declared_as d n t) m (h t given))

  pub parameter_refused : (z : BindFault) → Refuses z (names.Fails (IsNamed d.token d.name) x (declared_as d n)) → Refuses z (FailsWith n (IsNamed i name) b (parameter_typed i))
  parameter_refused z h =
      refuses_on z (names.Fails (IsNamed d.token d.name) b.names (λ t source s. declared_as d n t source (used (IsParameter i) s))) (FailsWith n (IsNamed i name) b (parameter_typed i))
      (λ c k f t typed given source s q sound spelled.
      ap (λ (w : Decl). (declared_as w n t source (used (IsParameter i) (with_bound t b s))).fault) (sym is) ∙ f t source (rest b t s) (on_decl source q) sound spelled.0)
      (both_failed (IsNamed d.token d.name) b.names x (used (IsParameter i)) (declared_as d n) z m h)

  pub parameter_typed_on : (y : KnownNames) → ((t : Table) → IsTypeNo t n → IsOf t x → IsOf t y) → StaysWith n b (record b { names = y })
  parameter_typed_on y of t typed given = record { names = of t given ((m t).typed typed.names); records = typed.records; base = typed.base; filled = typed.filled; basics = typed.basics }

module _ (b : Bound) (i : ℕ) (name : Name) (tokens : List Tok) (on : (source : Source) → HasTokens tokens source → IsNamed i name source) (d : Decl) (is : d ≡ plain_decl space.Ordinary kind.Enumerator i name) where
  on_enumerator : (source : Source) → HasTokens tokens source → IsNamed d.token d.name source
  on_enumerator source h = subst (λ (z : Decl). IsNamed z.token z.name source) (sym is) (on source h)

  enumerator_is : (t : Table) → IsTyped t b → (source : Source) (s : State) → enumerating i source (with_bound t b s) ≡ declared_as d b.basics.arith t source (with_bound t b s)
  enumerator_is t typed source s =
      ap (λ c. declare source (declaration space.Ordinary kind.Enumerator linkage.None i c (with_bound t b s)) (with_bound t b s)) (sym typed.basics.1.1)
      ∙ ap (λ (z : Decl). declared_as z b.basics.arith t source (with_bound t b s)) (sym is)

  pub enumerator_declared : (y : KnownNames) → ((t : Table) → IsTypeNo t b.basics.arith → names.Does t (IsNamed d.token d.name) b.names (declared_as d b.basics.arith t) y)
      → DoesAny (HasTokens tokens) b (enumerating i) (record b { names = y })
  enumerator_declared y h t typed =
      names_do_as b y t (IsNamed d.token d.name) (HasTokens tokens) (declared_as d b.basics.arith t) (enumerating i) on_enumerator (λ source s q spelled. enumerator_is t typed source s) (h t typed.basics.1.0)

  pub enumerator_fails : (z : BindFault) → Refuses z (names.Fails (IsNamed d.token d.name) b.names (declared_as d b.basics.arith)) → Refuses z (FailsAny (HasTokens tokens) b (enumerating i))
  enumerator_fails = names_refuse_as b (IsNamed d.token d.name) (HasTokens tokens) (declared_as d b.basics.arith) (enumerating i) on_enumerator (λ t source s typed q spelled. ap (λ z. z.fault) (enumerator_is t typed source s))

  pub enumerator_typed : (y : KnownNames) → ((t : Table) → IsTypeNo t b.basics.arith → names.Does t (IsNamed d.token d.name) b.names (declared_as d b.basics.arith t) y) → StaysTyped b (record b { names = y })
  enumerator_typed y h t typed = record { names = (h t typed.basics.1.0).typed typed.names; records = typed.records; base = typed.base; filled = typed.filled; basics = typed.basics }
