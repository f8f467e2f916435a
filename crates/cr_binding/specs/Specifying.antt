-- The specifiers of a declaration (C11 6.7.1, 6.7.2), and the type that its declarator makes of theirs (6.7.6).
use Rattle.std.specs.Prelude.{ℕ, Bool, true, false, not, if◌then◌else◌, Option, Some, None, unwrap_or, List, [], ◌∷◌, ◌++◌, codes, bytes_eq}
use Rattle.std.specs.Map.{lookup}
use Rattle.cr_base.specs.declared.Kind.TheVariants as kind
use Rattle.cr_base.specs.declared.cause.IllCause.TheVariants as cause
use Rattle.cr_grammar.specs.declared.symbols.NonTerm.{NonTerm}
use Rattle.cr_grammar.specs.declared.symbols.NonTerm.TheVariants as n
use Rattle.cr_grammar.specs.declared.symbols.Action.TheVariants as a
use Rattle.cr_ll.specs.Derivation.{Trees, none, token, action, node}
use Rattle.cr_scope.specs.declared.Space.TheVariants as space
use Rattle.cr_types.specs.declared.Part.{Part}
use Rattle.cr_types.specs.declared.Part.TheVariants as part
use Rattle.cr_types.specs.Types.{CType, Mixed, derived_by}
use Rattle.cr_decl.specs.declared.SpecWord.{SpecWord}
use Rattle.cr_decl.specs.declared.SpecWord.TheVariants as w
use Rattle.cr_decl.specs.Specifiers.{is_basic, is_permitted, may_follow, with_word, base_of}
use Rattle.cr_binding.specs.Source.{Source, text_at, is_identifier}
use Rattle.cr_binding.specs.State.{Declaration, Pending, State}
use Rattle.cr_binding.specs.Declaring.{failed, meaning_here, declaration_at, looked_up}

-- The words that rules speak of. Words in double underscores mean the keywords inside them: our own rule.
abbrev pub specifier_words : List (List ℕ × SpecWord)
specifier_words =
    (codes "typedef", w.Typedef) ∷ (codes "extern", w.Extern) ∷ (codes "static", w.Static) ∷ (codes "auto", w.Auto)
    ∷ (codes "register", w.Register) ∷ (codes "_Thread_local", w.ThreadLocal)
    ∷ (codes "void", w.Void) ∷ (codes "char", w.Char) ∷ (codes "short", w.Short) ∷ (codes "int", w.Int)
    ∷ (codes "long", w.Long) ∷ (codes "float", w.Float) ∷ (codes "double", w.Double) ∷ (codes "signed", w.Signed)
    ∷ (codes "__signed__", w.Signed) ∷ (codes "unsigned", w.Unsigned) ∷ (codes "_Bool", w.Bool)
    ∷ (codes "_Complex", w.Complex) ∷ (codes "__builtin_va_list", w.VaList) ∷ (codes "_Atomic", w.Atomic)
    ∷ (codes "struct", w.Struct) ∷ (codes "union", w.Union) ∷ (codes "enum", w.Enum) ∷ []

abbrev pub specifier_at : Source → ℕ → Option SpecWord
specifier_at t i = lookup (bytes_eq (text_at t i)) specifier_words

-- ---- words

abbrev pub last_basic_after : SpecWord → ℕ → Pending → ℕ
last_basic_after x i p = if is_basic x then i else p.last_basic

-- a word joins the others, where some permitted list goes on with it (6.7.1p2, 6.7.2p2)
abbrev pub specified : Option SpecWord → ℕ → State → State
specified None i s = s
specified (Some x) i s =
    let p = s.pending in
    if may_follow p.specifiers x
    then record s { pending = record p { specifiers = with_word p.specifiers x; last_basic = last_basic_after x i p } }
    else failed cause.BadSpecifiers i s

-- the kind of tag that a keyword announces
abbrev pub announced : Option SpecWord → State → State
announced (Some w.Struct) s = record s { keyword = kind.Struct }
announced (Some w.Union) s = record s { keyword = kind.Union }
announced (Some w.Enum) s = record s { keyword = kind.Enum }
announced _ s = s

-- what a token says in a node of the grammar
abbrev pub read_in : NonTerm → Source → ℕ → State → State
read_in n.Mod t i s = specified (specifier_at t i) i s
read_in n.Specs0 t i s = specified (specifier_at t i) i s
read_in n.SpecsB t i s = specified (specifier_at t i) i s
read_in n.Rec t i s = announced (specifier_at t i) s
read_in n.Enum t i s = announced (specifier_at t i) s
read_in _ t i s = s

-- A list of words ended. Where it isn't a permitted one, it is refused when the next token or action comes.
abbrev pub words_ended : State → State
words_ended s =
    if not (is_permitted s.pending.specifiers.basic) then record s { refused = Some s.pending.last_basic } else s

-- ---- types that are specified otherwise

-- the type of a record, an enumeration, a typedef name or in `_Atomic ( )`
abbrev pub based : CType → State → State
based c s = record s { pending = record s.pending { base = Some c; is_untagged = false } }

-- a typedef name (6.7.8): the grammar asked whether it is one
abbrev pub named_type : Option ℕ → Option Declaration → ℕ → State → State
named_type k None i s = failed cause.Unresolved i s
named_type k (Some d) i s = based d.type (looked_up space.Ordinary i k s)

abbrev pub typedef_name : Source → ℕ → State → State
typedef_name t i s = let k = meaning_here t space.Ordinary i s in named_type k (declaration_at s k) i s

-- `_Atomic ( )` with the type that its type name left (6.7.2.4)
abbrev pub atomic_type : List CType → State → State
atomic_type [] s = based Mixed s
atomic_type (c ∷ cs) s = record (based c s) { values = cs }

abbrev pub specified_by : Option SpecWord → State → State
specified_by (Some w.Atomic) s = atomic_type s.values s
specified_by _ s = s

-- a type specifier, of which i is the first token
abbrev pub type_specifier : Source → ℕ → State → State
type_specifier t i s = if is_identifier t i then typedef_name t i s else specified_by (specifier_at t i) s

-- the type that all specifiers name
abbrev pub specified_type : Pending → CType
specified_type p = unwrap_or p.base (base_of p.specifiers)

-- ---- declarators

-- what derives a type in a declarator, and stands in it
abbrev pub is_declarator : NonTerm → Bool
is_declarator n.Dtor = true
is_declarator n.PDtor = true
is_declarator n.ADtor = true
is_declarator n.Sufs = true
is_declarator _ = false

-- The derivations of a declarator, the outermost one first, as they are due from left to right: an array's and a function's
-- behind their brackets, and a pointer's behind all that its `*` stands before (6.7.6.1 to 6.7.6.3).
abbrev pub derivations : Trees → List Part
derivations none = []
derivations (token i next) = derivations next
derivations (action a.Pointer next) = part.Pointer ∷ derivations next
derivations (action a.Array next) = part.Array ∷ derivations next
derivations (action a.Leave next) = part.Function ∷ derivations next
derivations (action _ next) = derivations next
derivations (node m asks children next) = (if is_declarator m then derivations children else []) ++ derivations next

-- the type that the declarator which ended last makes of the specified one
abbrev pub declared_type : State → CType
declared_type s = derived_by (derivations s.closed) (specified_type s.pending)
