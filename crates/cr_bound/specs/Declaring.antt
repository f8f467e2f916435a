-- What is declared, by a token and a type.
use Rattle.std.specs.Prelude.{◌≡◌, ℕ, Bool, if◌then◌else◌, Option, Some, option_map}
use Rattle.cr_base.specs.declared.Kind.TheVariants as kind
use Rattle.cr_scope.specs.declared.Space.TheVariants as space
use Rattle.cr_scope.specs.declared.Linkage.{Linkage}
use Rattle.cr_scope.specs.Declarations.{Entry}
use Rattle.cr_scope.specs.Linkage.{is_file_scope, linkage_by}
use Rattle.cr_decl.specs.declared.SpecWord.TheVariants as word
use Rattle.cr_types.specs.Types.{CType, Arith}
use Rattle.cr_binding.specs.Source.{Source}
use Rattle.cr_binding.specs.State.{IsParameter, State}
use Rattle.cr_binding.specs.Declaring.{used, looked_up, has_word, declare_named, declare_plain}

-- an object, a function or a typedef name
abbrev pub declaring_typed : ℕ → CType → Source → State → State
declaring_typed i c t s = declare_named t (Some i) c s

-- a parameter, whose type is adjusted
abbrev pub parameter_typed : ℕ → CType → Source → State → State
parameter_typed i c t s = declare_plain t space.Ordinary kind.Object i c (used (IsParameter i) s)

abbrev pub enumerating : ℕ → Source → State → State
enumerating i t s = declare_plain t space.Ordinary kind.Enumerator i Arith s

-- the linkage of the declaration that is seen
abbrev pub IsLinkage : Option Entry → Option Linkage → Type 0
IsLinkage e seen = option_map (λ x. x.decl.linkage) e ≡ seen

-- the linkage of an object or a function by the words of its declaration
abbrev pub linkage_in : State → (function : Bool) → Option Entry → Linkage
linkage_in s function seen = linkage_by (is_file_scope s.present) (has_word word.Static s) (has_word word.Extern s) function seen

-- a name that takes its linkage from what it denotes is looked up
abbrev pub seeing : (takes : Bool) → ℕ → Option ℕ → State → State
seeing takes i k s = if takes then looked_up space.Ordinary i k s else s
