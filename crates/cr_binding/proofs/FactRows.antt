-- Worked examples of facts, each with what shows that it holds. File number 0 is the text, unit number 1 the unit.
use Rattle.std.specs.Prelude.{◌≡◌, ◌<◌, ◌≤◌, ◌⊎◌, refl, ℕ, zero, suc, true, false, Option, Some, None, List, [], ◌∷◌, codes, Contains, slice_get}
use Rattle.std.proofs.Common.{inl, inr, arith, ap, sym}
use Rattle.std.proofs.lemmas.Option.{slice_get_within, get_or_from_slice_get}
use Rattle.cr_base.specs.declared.token.Name.{Name}
use Rattle.cr_base.specs.declared.Kind.TheVariants as kind
use Rattle.cr_base.specs.declared.key.Key.TheVariants as key
use Rattle.cr_base.specs.declared.key.RecordKey.TheVariants as record_key
use Rattle.cr_base.specs.declared.key.TagKind.TheVariants as tag
use Rattle.cr_grammar.specs.Grammar.{rule}
use Rattle.cr_grammar.specs.Spellings.{spelled}
use Rattle.cr_decl.specs.Specifiers.{permitted}
use Rattle.cr_scope.specs.declared.Space.TheVariants as space
use Rattle.cr_scope.specs.declared.Linkage.TheVariants as linkage
use Rattle.cr_scope.specs.declared.DeclNo.{DeclNo}
use Rattle.cr_scope.specs.Declarations.{Entry, Flat, depth}
use Rattle.cr_capture.specs.declared.Mention.TheVariants as mention
use Rattle.cr_capture.specs.Conflicts.{IsCaptured, IsHidden, AreBothLinked, IsTypeName}
use Rattle.cr_scope.specs.Meaning.{Sees}
use Rattle.cr_base.specs.declared.Kind.{Kind}
use Rattle.cr_types.specs.Types.{CType, Arith, Fun}
use Rattle.cr_facts.specs.declared.fact.Fact.{Fact}
use Rattle.cr_facts.specs.declared.fact.Fact.TheVariants as fact
use Rattle.cr_binding.specs.Source.{Source}
use Rattle.cr_binding.specs.State.{Declaration, Member, LookedUp, WasAsked, IsParameter, State}
use Rattle.cr_binding.specs.Entities.{entry}
use Rattle.cr_binding.specs.Binding.{bound}
use Rattle.cr_binding.specs.UnitConflicts.{scopes_at}
use Rattle.cr_binding.specs.Resolution.{Declared, Occurrence, declaring, occurrences}
use Rattle.cr_binding.specs.UnitFacts.{IsHidden as IsInAttribute, Denotes, Tells}
use Rattle.cr_base.specs.declared.cause.Role.TheVariants as role
use Rattle.cr_binding.proofs.Reading.{source, parsed, place}

at : {A : Type 0} (xs : List A) (k : ℕ) (x : A) → slice_get xs k ≡ Some x → Contains xs x
at xs k x e = (k, slice_get_within xs k x e, get_or_from_slice_get xs k x x e)

abbrev binding : Source → State
unfolding rule spelled permitted
binding t = bound t (parsed t).trees

abbrev decl_no : ℕ → DeclNo
decl_no n = record { 0 = n }

-- a name has the number of the first token that is spelled so
abbrev name : ℕ → Name
name i = record { 0 = i }

-- what a text tells where one name is renamed to another one
abbrev Facts : (old new : ℕ) → List ℕ → Fact → Type 0
Facts old new text = Tells 1 (source text) (binding (source text)) (name old) (name new)

abbrev object : List ℕ → ℕ → Declaration
object path i = record { path = path; space = space.Ordinary; token = i; kind = kind.Object; linkage = linkage.None; type = Arith }

abbrev external : Kind → CType → ℕ → Declaration
external k c i = record { path = []; space = space.Ordinary; token = i; kind = k; linkage = linkage.External; type = c }

-- ---- foo at 25 is renamed, and the mention of bar at 49 would mean it

abbrev captured_text : List ℕ
captured_text = codes "int bar;\nint f(void){int foo=1;{int foo=2;return bar+foo;}}\n"

abbrev captured_source : Source
captured_source = source captured_text

-- the block of the mention of bar, which is token 21 and denotes the first declaration, and the foo of the third
abbrev captured_path : List ℕ
captured_path = 1 ∷ 2 ∷ []

abbrev captured_entry : Declaration → Entry
captured_entry d = entry captured_source d

is_captured : IsCaptured (scopes_at captured_source (binding captured_source) captured_path 4) (name 10) (name 1) space.Ordinary (name 1) (Some (decl_no 0)) (decl_no 2)
unfolding rule spelled permitted
is_captured =
    record {
      mentions = refl;
      itself = captured_entry (object (1 ∷ []) 10);
      seen = record { there = refl; visible = refl; in_space = refl; named = refl };
      deeper = (captured_entry (external kind.Object Arith 1), refl, omega arith);
    }

a_mention_is_captured : Facts 10 1 captured_text (fact.Conflict (key.At (place 25)) (place 49))
unfolding rule spelled permitted
a_mention_is_captured =
    inl (scopes_at captured_source (binding captured_source) captured_path 4, mention.Named space.Ordinary (name 1) 21 (Some (decl_no 0)), (Some (decl_no 2), 21), object (1 ∷ []) 10, (captured_path, 4, at (binding captured_source).uses 0 (LookedUp space.Ordinary 21 captured_path 4 (Some 0)) refl, refl, (refl, refl)), (decl_no 2, refl, inl is_captured), refl, refl, refl)

-- ---- three foo in one text, which has a bar beside each

abbrev beside_text : List ℕ
beside_text = codes "int bar;int f(void){int foo;{int bar;return foo;}}struct m{int foo;int bar;};int foo(void);"

abbrev beside_source : Source
beside_source = source beside_text

abbrev beside_entry : Declaration → Entry
beside_entry d = entry beside_source d

-- the mention of foo at 44, token 17, would mean the bar at 33
is_hidden : IsHidden (scopes_at beside_source (binding beside_source) (1 ∷ 2 ∷ []) 4) (name 10) (name 1) space.Ordinary (name 10) (Some (decl_no 2)) (decl_no 2)
unfolding rule spelled permitted
is_hidden =
    record {
      mentions = refl;
      meant = refl;
      itself = beside_entry (object (1 ∷ []) 10);
      there = refl;
      other = decl_no 3;
      over = beside_entry (object (1 ∷ 2 ∷ []) 14);
      seen = record { there = refl; visible = refl; in_space = refl; named = refl };
      inside = omega arith;
    }

a_mention_is_hidden : Facts 10 1 beside_text (fact.Conflict (key.At (place 24)) (place 44))
unfolding rule spelled permitted
a_mention_is_hidden =
    inl (scopes_at beside_source (binding beside_source) (1 ∷ 2 ∷ []) 4, mention.Named space.Ordinary (name 10) 17 (Some (decl_no 2)), (Some (decl_no 2), 17), object (1 ∷ []) 10, (1 ∷ 2 ∷ [], 4, at (binding beside_source).uses 0 (LookedUp space.Ordinary 17 (1 ∷ 2 ∷ []) 4 (Some 2)) refl, refl, (refl, refl)), (decl_no 2, refl, inr is_hidden), refl, refl, refl)

-- the record would have two members bar
abbrev member : ℕ → ℕ → Member
member k i = record { holder = 0; own = 0; place = k; token = i; type = Arith }

two_members_meet : Facts 10 1 beside_text (fact.Conflict (key.Member (record_key.Tag tag.Struct (codes "m")) (codes "foo")) (place 71))
unfolding rule spelled permitted
two_members_meet =
    inr (member 0 25, member 1 28, at (binding beside_source).members 0 (member 0 25) refl, at (binding beside_source).members 1 (member 1 28) refl, refl, refl, refl, refl, refl)

-- the function foo and the object bar, which both have linkage, would be one
are_both_linked : AreBothLinked (scopes_at beside_source (binding beside_source) [] 6) (name 10) (name 1) (decl_no 5) (decl_no 5) 33
unfolding rule spelled permitted
are_both_linked =
    record {
      itself = beside_entry (external kind.Function (Fun Arith) 33);
      there = refl;
      has = refl;
      named = inl refl;
      first_old = refl;
      of_old = beside_entry (external kind.Function (Fun Arith) 33);
      old_there = refl;
      other = decl_no 0;
      first_new = refl;
      of_new = beside_entry (external kind.Object Arith 1);
      new_there = refl;
      at = refl;
    }

two_linked_meet : Facts 10 1 beside_text (fact.Conflict (key.Ext (codes "foo")) (place 81))
unfolding rule spelled permitted
two_linked_meet =
    inl (scopes_at beside_source (binding beside_source) [] 6, mention.Declared (decl_no 5), (Some (decl_no 5), 33), external kind.Function (Fun Arith) 33, (omega arith, refl), (decl_no 5, 33, refl, inr are_both_linked), refl, refl, refl)

-- ---- the parameter foo would be taken for the type name bar

abbrev asked_text : List ℕ
asked_text = codes "typedef int bar;\nint f(int (foo));\n"

abbrev asked_source : Source
asked_source = source asked_text

-- the typedef name bar as the scopes have it, which is all that is declared when foo is asked
abbrev type_bar : Entry
type_bar =
    record { path = []; decl = record { space = space.Ordinary; name = name 2; token = 2; kind = kind.Typedef; linkage = linkage.None; note = 0 } }

abbrev asked_scopes : Flat
asked_scopes = record { scopes = []; present = 1 ∷ []; entries = type_bar ∷ [] }

abbrev depth_of : Option Entry → ℕ
depth_of None = 0
depth_of (Some e) = depth e

no_other : (j : ℕ) (d : Entry) → Sees (1 ∷ []) space.Ordinary (name 2) (type_bar ∷ []) j d → (depth d < 0) ⊎ ((depth d ≡ 0) × (j ≤ 0))
no_other zero d h = inr (ap depth_of (sym h.there), omega arith)
no_other (suc j) d h = absurd (none_there h.there)
  where
    none_there : None ≡ Some d → ⊥
    none_there e = cc

bar_is_a_type : IsTypeName asked_scopes (name 2)
bar_is_a_type =
    (decl_no 0, type_bar, record { seen = record { there = refl; visible = refl; in_space = refl; named = refl }; best = no_other }, refl)

a_parameter_becomes_a_type : Facts 9 2 asked_text (fact.Conflict (key.At (place 28)) (place 28))
unfolding rule spelled permitted
a_parameter_becomes_a_type =
    inl (asked_scopes, mention.Asked (name 9) 9 true, (None, 9), object (1 ∷ []) 9, (1 ∷ [], 1, at (binding asked_source).uses 0 (WasAsked 9 (1 ∷ []) 1 false) refl, refl, (refl, refl), at (binding asked_source).uses 1 (IsParameter 9) refl), inr (inr (refl, refl, refl, bar_is_a_type)), refl, refl, refl)

-- ---- an identifier in the brackets of an attribute, and what is declared beside it

abbrev hidden_text : List ℕ
hidden_text = codes "int foo __attribute__((foo));"

abbrev hidden_source : Source
hidden_source = source hidden_text

is_hidden_foo : IsInAttribute hidden_source (binding hidden_source) (name 1) 5
unfolding rule spelled permitted
is_hidden_foo = record { there = at (binding hidden_source).hidden 0 5 refl; sort = refl; spelled = refl }

it_is_opaque : Facts 1 0 hidden_text (fact.HasRole (place 23) role.Opaque)
unfolding rule spelled permitted
it_is_opaque = (5, record { spelled = refl; comes = refl }, is_hidden_foo)

it_is_opaque_at : Facts 1 0 hidden_text (fact.OpaqueAt (place 23))
unfolding rule spelled permitted
it_is_opaque_at = (5, inl is_hidden_foo, refl)

abbrev foo : Occurrence
foo = (1, Declared (external kind.Object Arith 1))

foo_is_denoted : Denotes 1 hidden_source (binding hidden_source) (name 1) (name 0) (place 4) (key.Ext (codes "foo")) foo
unfolding rule spelled permitted
foo_is_denoted = record { occurs = at (occurrences (binding hidden_source)) 0 foo refl; placed = record { spelled = refl; comes = refl }; keyed = refl }

foo_is_declared : Facts 1 0 hidden_text (fact.Declares (key.Ext (codes "foo")) (place 4))
unfolding rule spelled permitted
foo_is_declared = (foo, foo_is_denoted, at (declaring (binding hidden_source)) 0 foo refl)

foo_is_an_object : Facts 1 0 hidden_text (fact.OfKind (key.Ext (codes "foo")) kind.Object)
unfolding rule spelled permitted
foo_is_an_object =
    (foo, place 4, foo_is_denoted, (external kind.Object Arith 1, at (binding hidden_source).declarations 0 (external kind.Object Arith 1) refl, inl refl, refl))

foo_is_at_file_scope : Facts 1 0 hidden_text (fact.FileScope (key.Ext (codes "foo")))
unfolding rule spelled permitted
foo_is_at_file_scope =
    (foo, place 4, foo_is_denoted, (external kind.Object Arith 1, at (binding hidden_source).declarations 0 (external kind.Object Arith 1) refl, inl refl, refl))

-- where something is renamed to foo, its key is one that the text has already
foo_is_new : Facts 0 1 hidden_text (fact.NewKey (key.Ext (codes "foo")))
unfolding rule spelled permitted
foo_is_new = (foo, at (declaring (binding hidden_source)) 0 foo refl, refl, refl, refl)
