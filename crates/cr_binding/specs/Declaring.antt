-- How a name is declared (C11 6.7), and what a declaration sees.
use Rattle.std.specs.Prelude.{ℕ, Bool, true, false, not, ◌&&◌, if◌then◌else◌, Option, Some, None, option_map, [], ◌∷◌, ◌++◌, map, length, option_and_then, slice_get}
use Rattle.std.specs.List.{list_any}
use Rattle.cr_base.specs.declared.Kind.{Kind}
use Rattle.cr_base.specs.declared.Kind.TheVariants as kind
use Rattle.cr_base.specs.declared.cause.IllCause.{IllCause}
use Rattle.cr_base.specs.declared.cause.IllCause.TheVariants as cause
use Rattle.cr_scope.specs.declared.Space.{Space}
use Rattle.cr_scope.specs.declared.Space.TheVariants as space
use Rattle.cr_scope.specs.declared.Linkage.{Linkage}
use Rattle.cr_scope.specs.declared.Linkage.TheVariants as linkage
use Rattle.cr_scope.specs.Declarations.{path_for}
use Rattle.cr_scope.specs.Linkage.{is_file_scope, linkage_by}
use Rattle.cr_scope.specs.Redeclaration.{clashes}
use Rattle.cr_types.specs.Types.{CType, Fun}
use Rattle.cr_decl.specs.declared.SpecWord.{SpecWord}
use Rattle.cr_decl.specs.declared.SpecWord.TheVariants as word
use Rattle.cr_decl.specs.Specifiers.{same_word}
use Rattle.cr_typing.specs.ExpressionTypes.{decayed}
use Rattle.cr_binding.specs.Source.{Source}
use Rattle.cr_binding.specs.State.{Declaration, Use, LookedUp, IsParameter, State}
use Rattle.cr_binding.specs.Entities.{entry, meaning}

-- a fault, and its token
abbrev pub failed : IllCause → ℕ → State → State
failed c i s = record s { fault = Some (c, i) }

abbrev pub used : Use → State → State
used u s = record s { uses = s.uses ++ u ∷ [] }

-- A declaration enters the list, unless an earlier one may not stand beside it (C11 6.7p3, 6.2.2p7).
abbrev pub declare : Source → Declaration → State → State
declare t d s =
    if list_any (clashes (entry t d)) (map (entry t) s.declarations)
    then failed cause.Redeclared d.token s
    else record s { declarations = s.declarations ++ d ∷ [] }

-- a declaration in the present scope, a label in its function's
abbrev pub declaration : Space → Kind → Linkage → ℕ → CType → State → Declaration
declaration sp k l i c s = record { path = path_for s.present sp; space = sp; token = i; kind = k; linkage = l; type = c }

-- ---- what a name means

abbrev pub meaning_here : Source → Space → ℕ → State → Option ℕ
meaning_here t sp i s = meaning t s.present sp i s.declarations

abbrev pub declaration_at : State → Option ℕ → Option Declaration
declaration_at s k = option_and_then (slice_get s.declarations) k

-- a name is looked up and denotes this
abbrev pub looked_up : Space → ℕ → Option ℕ → State → State
looked_up sp i k s = used (LookedUp sp i s.present (length s.declarations) k) s

-- ---- objects, functions and typedef names

abbrev pub has_word : SpecWord → State → Bool
has_word w s = list_any (same_word w) s.pending.specifiers.store

abbrev pub is_function_type : CType → Bool
is_function_type (Fun c) = true
is_function_type _ = false

abbrev pub kind_of : CType → State → Kind
kind_of c s =
    if has_word word.Typedef s then kind.Typedef else (if is_function_type c then kind.Function else kind.Object)

abbrev pub is_function_kind : Kind → Bool
is_function_kind kind.Function = true
is_function_kind _ = false

-- A typedef name has no linkage, an object or a function that of its words and of the declaration that it sees (6.2.2).
abbrev pub linkage_for : Source → Option Declaration → Kind → State → Linkage
linkage_for t seen kind.Typedef s = linkage.None
linkage_for t seen k s =
    linkage_by (is_file_scope s.present) (has_word word.Static s) (has_word word.Extern s) (is_function_kind k) (option_map (entry t) seen)

abbrev pub is_internal : Linkage → Bool
is_internal linkage.Internal = true
is_internal _ = false

-- Internal linkage without `static` is taken from the declaration that is seen (6.2.2p4): it is a mention of that.
abbrev pub linkage_seen : Linkage → ℕ → Option ℕ → State → State
linkage_seen l i k s = if is_internal l && not (has_word word.Static s) then looked_up space.Ordinary i k s else s

-- a name of this kind and type is declared, for which a look-up gives k
abbrev pub declare_as : Source → Option ℕ → Kind → ℕ → CType → State → State
declare_as t k what i c s =
    let l = linkage_for t (declaration_at s k) what s in
    declare t (declaration space.Ordinary what l i c s) (linkage_seen l i k s)

-- the end of a declarator with a name
abbrev pub declare_named : Source → Option ℕ → CType → State → State
declare_named t None c s = s
declare_named t (Some i) c s = declare_as t (meaning_here t space.Ordinary i s) (kind_of c s) i c s

-- ---- what has no linkage (6.2.2p6)

abbrev pub declare_plain : Source → Space → Kind → ℕ → CType → State → State
declare_plain t sp k i c s = declare t (declaration sp k linkage.None i c s) s

-- a parameter of array or function type is a pointer (6.7.6.3p7, p8); one without a name declares nothing
abbrev pub declare_parameter : Source → Option ℕ → CType → State → State
declare_parameter t None c s = s
declare_parameter t (Some i) c s = declare_plain t space.Ordinary kind.Object i (decayed c) (used (IsParameter i) s)
