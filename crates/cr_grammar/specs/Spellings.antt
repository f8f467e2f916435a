-- The keywords and punctuators that each word of the table stands for (C11 6.4.1, 6.4.6), parted by blanks.
-- Words in double underscores mean the keywords inside them: our own rule.
use Rattle.std.specs.Prelude.{ℕ, List, [], ◌++◌, codes}
use Rattle.cr_grammar.specs.declared.symbols.Term.{Term}
use Rattle.cr_grammar.specs.declared.symbols.Term.TheVariants as t

-- C11 6.7.1
abbrev pub storage_classes : List ℕ
storage_classes = codes "typedef extern static auto register _Thread_local"

-- C11 6.7.3
abbrev pub qualifiers : List ℕ
qualifiers = codes "const __const__ volatile __volatile__ restrict __restrict__ __restrict"

-- C11 6.7.4
abbrev pub function_specifiers : List ℕ
function_specifiers = codes "inline __inline__ __inline _Noreturn"

-- C11 6.7.2
abbrev pub type_words : List ℕ
type_words = codes "void char short int long float double signed __signed__ unsigned _Bool _Complex __builtin_va_list"

-- one list behind another, with a blank between them
abbrev pub both : List ℕ → List ℕ → List ℕ
both xs ys = xs ++ (codes " " ++ ys)

unfoldable pub spelled : Term → List ℕ
spelled t.End = []
spelled t.NotEnd = []
spelled t.Identifier = []
spelled t.TypedefName = []
spelled t.Constant = []
spelled t.StringLiteral = []
spelled t.Specifier = both storage_classes (both qualifiers (both function_specifiers (both type_words (codes "_Alignas _Atomic struct union enum"))))
spelled t.Modifier = both storage_classes (both qualifiers (both function_specifiers (codes "__extension__ __attribute__ _Alignas")))
spelled t.PlainModifier = both storage_classes (both qualifiers (both function_specifiers (codes "__extension__")))
spelled t.Basic = type_words
spelled t.QualifierOrAtomic = both qualifiers (codes "_Atomic")
spelled t.StaticOrQualifier = both (codes "static") qualifiers
spelled t.StructOrUnion = codes "struct union"
spelled t.SwitchOrWhile = codes "switch while"
spelled t.ContinueOrBreak = codes "continue break"
spelled t.SemicolonOrRightParen = codes "; )"
spelled t.LeftBracketOrDot = codes "[ <: ."
spelled t.DotOrArrow = codes ". ->"
spelled t.IncrementOrDecrement = codes "++ --"
spelled t.UnaryOperator = codes "& * + - ~ !"
spelled t.AssignmentOperator = codes "= *= /= %= += -= <<= >>= &= ^= |="
spelled t.Level1 = codes "||"
spelled t.Level2 = codes "&&"
spelled t.Level3 = codes "|"
spelled t.Level4 = codes "^"
spelled t.Level5 = codes "&"
spelled t.Level6 = codes "== !="
spelled t.Level7 = codes "< > <= >="
spelled t.Level8 = codes "<< >>"
spelled t.Level9 = codes "+ -"
spelled t.Level10 = codes "* / %"
spelled t.Semicolon = codes ";"
spelled t.StaticAssert = codes "_Static_assert"
spelled t.LeftBrace = codes "{ <%"
spelled t.RightBrace = codes "} %>"
spelled t.Comma = codes ","
spelled t.Asm = codes "__asm__"
spelled t.LeftParen = codes "("
spelled t.RightParen = codes ")"
spelled t.Attribute = codes "__attribute__"
spelled t.Equals = codes "="
spelled t.Atomic = codes "_Atomic"
spelled t.Enum = codes "enum"
spelled t.Colon = codes ":"
spelled t.Star = codes "*"
spelled t.LeftBracket = codes "[ <:"
spelled t.RightBracket = codes "] :>"
spelled t.Void = codes "void"
spelled t.Ellipsis = codes "..."
spelled t.Extension = codes "__extension__"
spelled t.Case = codes "case"
spelled t.Default = codes "default"
spelled t.If = codes "if"
spelled t.Do = codes "do"
spelled t.While = codes "while"
spelled t.For = codes "for"
spelled t.Goto = codes "goto"
spelled t.Return = codes "return"
spelled t.Else = codes "else"
spelled t.Question = codes "?"
spelled t.Sizeof = codes "sizeof"
spelled t.Alignof = codes "_Alignof"
spelled t.Generic = codes "_Generic"
spelled t.VaArg = codes "__builtin_va_arg"
spelled t.Offsetof = codes "__builtin_offsetof"
spelled t.Dot = codes "."
spelled t.Alignas = codes "_Alignas"
