-- The grammar: for each nonterminal its alternatives, each a guard and a body. A node takes the first
-- alternative whose guard holds of the next two tokens; a body replaces its nonterminal.
-- In the lines that say each rule, quoted words are tokens, words after `!` are actions, `tok` and `any` are the
-- token of the guard, `-` is the empty body, and `id?` is an identifier that is a typedef name. Mod is one modifier.
use Rattle.std.specs.Prelude.{List, [], ◌∷◌, map}
use Rattle.cr_grammar.specs.declared.symbols.NonTerm.{NonTerm}
use Rattle.cr_grammar.specs.declared.symbols.NonTerm.TheVariants as n
use Rattle.cr_grammar.specs.declared.symbols.Term.TheVariants as t
use Rattle.cr_grammar.specs.declared.symbols.Action.TheVariants as a
use Rattle.cr_grammar.specs.declared.symbols.Symbol.{Symbol}
use Rattle.cr_grammar.specs.declared.symbols.Symbol.TheVariants.{Term, Non, Act}
use Rattle.cr_grammar.specs.declared.symbols.Guard.{Guard}
use Rattle.cr_grammar.specs.declared.symbols.Guard.TheVariants.{Else, First, Both}
use Rattle.cr_grammar.specs.declared.symbols.Alternative.{Alternative}

-- an alternative: its guard and its body
abbrev pub Row : Type 0
Row = Guard × List Symbol

unfoldable pub rule : NonTerm → List Row
-- external declarations up to the end (C11 6.9)
--   Unit: End => - | else => External Unit
rule n.Unit =
    (First t.End, [])
    ∷ (Else, Non n.External ∷ Non n.Unit ∷ [])
    ∷ []
-- one external declaration (C11 6.9)
--   External: ';' => ';' | '_Static_assert' => Static | else => !decl Specs0 ExtTail
rule n.External =
    (First t.Semicolon, Term t.Semicolon ∷ [])
    ∷ (First t.StaticAssert, Non n.Static ∷ [])
    ∷ (Else, Act a.Decl ∷ Non n.Specs0 ∷ Non n.ExtTail ∷ [])
    ∷ []
-- after its specifiers (C11 6.9)
--   ExtTail: ';' => ';' !bare | else => Dtor !declare After ExtNext
rule n.ExtTail =
    (First t.Semicolon, Term t.Semicolon ∷ Act a.Bare ∷ [])
    ∷ (Else, Non n.Dtor ∷ Act a.Declare ∷ Non n.After ∷ Non n.ExtNext ∷ [])
    ∷ []
-- a function body, or the rest of the declarators (C11 6.9)
--   ExtNext: '{' => !body '{' Items '}' !endbody | else => InitOpt More ';'
rule n.ExtNext =
    (First t.LeftBrace, Act a.Body ∷ Term t.LeftBrace ∷ Non n.Items ∷ Term t.RightBrace ∷ Act a.EndBody ∷ [])
    ∷ (Else, Non n.InitOpt ∷ Non n.More ∷ Term t.Semicolon ∷ [])
    ∷ []
-- a declaration in a block (C11 6.7)
--   Decl: '_Static_assert' => Static | else => !decl Specs0 DeclTail
rule n.Decl =
    (First t.StaticAssert, Non n.Static ∷ [])
    ∷ (Else, Act a.Decl ∷ Non n.Specs0 ∷ Non n.DeclTail ∷ [])
    ∷ []
-- after its specifiers (C11 6.7)
--   DeclTail: ';' => ';' !bare | else => Dtor !declare After InitOpt More ';'
rule n.DeclTail =
    (First t.Semicolon, Term t.Semicolon ∷ Act a.Bare ∷ [])
    ∷ (Else, Non n.Dtor ∷ Act a.Declare ∷ Non n.After ∷ Non n.InitOpt ∷ Non n.More ∷ Term t.Semicolon ∷ [])
    ∷ []
-- further declarators (C11 6.7)
--   More: ',' => ',' AttrOpt Dtor !declare After InitOpt More | else => -
rule n.More =
    (First t.Comma, Term t.Comma ∷ Non n.AttrOpt ∷ Non n.Dtor ∷ Act a.Declare ∷ Non n.After ∷ Non n.InitOpt ∷ Non n.More ∷ [])
    ∷ (Else, [])
    ∷ []
-- assembler names and attributes (our own rule)
--   After: '__asm__' => '__asm__' '(' str ')' After | '__attribute__' => Attr After | else => -
rule n.After =
    (First t.Asm, Term t.Asm ∷ Term t.LeftParen ∷ Term t.StringLiteral ∷ Term t.RightParen ∷ Non n.After ∷ [])
    ∷ (First t.Attribute, Non n.Attr ∷ Non n.After ∷ [])
    ∷ (Else, [])
    ∷ []
-- an initialiser, where there is one (C11 6.7.9)
--   InitOpt: '=' => '=' !initof Init !initend | else => -
rule n.InitOpt =
    (First t.Equals, Term t.Equals ∷ Act a.InitOf ∷ Non n.Init ∷ Act a.InitEnd ∷ [])
    ∷ (Else, [])
    ∷ []
-- a static assertion (C11 6.7.10)
--   Static: else => '_Static_assert' '(' Cond ',' str ')' ';'
rule n.Static =
    (Else, Term t.StaticAssert ∷ Term t.LeftParen ∷ Non n.Cond ∷ Term t.Comma ∷ Term t.StringLiteral ∷ Term t.RightParen ∷ Term t.Semicolon ∷ [])
    ∷ []
-- specifiers before the type (C11 6.7.1 to 6.7.5)
--   Specs0: Mod => Mod Specs0 | '_Atomic' '(' => '_Atomic' '(' TypeName ')' !spec SpecsT | '_Atomic' =>
--     '_Atomic' Specs0 | Basic => Basic !spec SpecsB | 'struct' or 'union' => Rec SpecsT | 'enum' => Enum
--     SpecsT | id? => id !spec SpecsT
rule n.Specs0 =
    (First t.Modifier, Non n.Mod ∷ Non n.Specs0 ∷ [])
    ∷ (Both t.Atomic t.LeftParen, Term t.Atomic ∷ Term t.LeftParen ∷ Non n.TypeName ∷ Term t.RightParen ∷ Act a.Spec ∷ Non n.SpecsT ∷ [])
    ∷ (First t.Atomic, Term t.Atomic ∷ Non n.Specs0 ∷ [])
    ∷ (First t.Basic, Term t.Basic ∷ Act a.Spec ∷ Non n.SpecsB ∷ [])
    ∷ (First t.StructOrUnion, Non n.Rec ∷ Non n.SpecsT ∷ [])
    ∷ (First t.Enum, Non n.Enum ∷ Non n.SpecsT ∷ [])
    ∷ (First t.TypedefName, Term t.Identifier ∷ Act a.Spec ∷ Non n.SpecsT ∷ [])
    ∷ []
-- after a basic type word (C11 6.7.1 to 6.7.5)
--   SpecsB: Mod => Mod SpecsB | '_Atomic' => '_Atomic' SpecsB | Basic => Basic !spec SpecsB | else => -
rule n.SpecsB =
    (First t.Modifier, Non n.Mod ∷ Non n.SpecsB ∷ [])
    ∷ (First t.Atomic, Term t.Atomic ∷ Non n.SpecsB ∷ [])
    ∷ (First t.Basic, Term t.Basic ∷ Act a.Spec ∷ Non n.SpecsB ∷ [])
    ∷ (Else, [])
    ∷ []
-- after a whole type (C11 6.7.1 to 6.7.5)
--   SpecsT: Mod => Mod SpecsT | '_Atomic' => '_Atomic' SpecsT | else => -
rule n.SpecsT =
    (First t.Modifier, Non n.Mod ∷ Non n.SpecsT ∷ [])
    ∷ (First t.Atomic, Term t.Atomic ∷ Non n.SpecsT ∷ [])
    ∷ (Else, [])
    ∷ []
-- what `_Alignas` takes (C11 6.7.5)
--   AlignArg: TS => TypeName | else => Cond
rule n.AlignArg =
    (First t.Specifier, Non n.TypeName ∷ [])
    ∷ (Else, Non n.Cond ∷ [])
    ∷ []
-- one attribute specifier (our own rule)
--   Attr: else => '__attribute__' '(' '(' Hidden ')' ')'
rule n.Attr =
    (Else, Term t.Attribute ∷ Term t.LeftParen ∷ Term t.LeftParen ∷ Non n.Hidden ∷ Term t.RightParen ∷ Term t.RightParen ∷ [])
    ∷ []
-- attribute specifiers (our own rule)
--   AttrOpt: '__attribute__' => Attr AttrOpt | else => -
rule n.AttrOpt =
    (First t.Attribute, Non n.Attr ∷ Non n.AttrOpt ∷ [])
    ∷ (Else, [])
    ∷ []
-- tokens in the brackets of an attribute (our own rule)
--   Hidden: ')' => - | '(' => '(' Hidden ')' Hidden | any but End => any !hidden Hidden
rule n.Hidden =
    (First t.RightParen, [])
    ∷ (First t.LeftParen, Term t.LeftParen ∷ Non n.Hidden ∷ Term t.RightParen ∷ Non n.Hidden ∷ [])
    ∷ (First t.NotEnd, Term t.NotEnd ∷ Act a.Hidden ∷ Non n.Hidden ∷ [])
    ∷ []
-- a structure or union specifier (C11 6.7.2.1)
--   Rec: else => ('struct' or 'union') AttrOpt RecTail
rule n.Rec =
    (Else, Term t.StructOrUnion ∷ Non n.AttrOpt ∷ Non n.RecTail ∷ [])
    ∷ []
-- its tag and its members (C11 6.7.2.1)
--   RecTail: '{' => !anon '{' Members '}' !endrec | id '{' => id !tagdef '{' Members '}' !endrec | id ';' =>
--     id !tagalone | id => id !taguse
rule n.RecTail =
    (First t.LeftBrace, Act a.Anon ∷ Term t.LeftBrace ∷ Non n.Members ∷ Term t.RightBrace ∷ Act a.EndRec ∷ [])
    ∷ (Both t.Identifier t.LeftBrace, Term t.Identifier ∷ Act a.TagDef ∷ Term t.LeftBrace ∷ Non n.Members ∷ Term t.RightBrace ∷ Act a.EndRec ∷ [])
    ∷ (Both t.Identifier t.Semicolon, Term t.Identifier ∷ Act a.TagAlone ∷ [])
    ∷ (First t.Identifier, Term t.Identifier ∷ Act a.TagUse ∷ [])
    ∷ []
-- member declarations (C11 6.7.2.1)
--   Members: '}' => - | ';' => ';' Members | '_Static_assert' => Static Members | else => !decl Specs0 MemTail
--     Members
rule n.Members =
    (First t.RightBrace, [])
    ∷ (First t.Semicolon, Term t.Semicolon ∷ Non n.Members ∷ [])
    ∷ (First t.StaticAssert, Non n.Static ∷ Non n.Members ∷ [])
    ∷ (Else, Act a.Decl ∷ Non n.Specs0 ∷ Non n.MemTail ∷ Non n.Members ∷ [])
    ∷ []
-- after their specifiers (C11 6.7.2.1)
--   MemTail: ';' => ';' !splice | else => MemDtor MemMore ';'
rule n.MemTail =
    (First t.Semicolon, Term t.Semicolon ∷ Act a.Splice ∷ [])
    ∷ (Else, Non n.MemDtor ∷ Non n.MemMore ∷ Term t.Semicolon ∷ [])
    ∷ []
-- further member declarators (C11 6.7.2.1)
--   MemMore: ',' => ',' AttrOpt MemDtor MemMore | else => -
rule n.MemMore =
    (First t.Comma, Term t.Comma ∷ Non n.AttrOpt ∷ Non n.MemDtor ∷ Non n.MemMore ∷ [])
    ∷ (Else, [])
    ∷ []
-- a member declarator (C11 6.7.2.1)
--   MemDtor: ':' => ':' Cond | else => Dtor !member BitOpt AttrOpt
rule n.MemDtor =
    (First t.Colon, Term t.Colon ∷ Non n.Cond ∷ [])
    ∷ (Else, Non n.Dtor ∷ Act a.Member ∷ Non n.BitOpt ∷ Non n.AttrOpt ∷ [])
    ∷ []
-- the width of a bit-field (C11 6.7.2.1)
--   BitOpt: ':' => ':' Cond | else => -
rule n.BitOpt =
    (First t.Colon, Term t.Colon ∷ Non n.Cond ∷ [])
    ∷ (Else, [])
    ∷ []
-- an enumeration specifier (C11 6.7.2.2)
--   Enum: else => 'enum' AttrOpt EnumTail
rule n.Enum =
    (Else, Term t.Enum ∷ Non n.AttrOpt ∷ Non n.EnumTail ∷ [])
    ∷ []
-- its tag and its enumerators (C11 6.7.2.2)
--   EnumTail: '{' => !anon '{' Enums '}' | id '{' => id !tagdef '{' Enums '}' | id => id !taguse
rule n.EnumTail =
    (First t.LeftBrace, Act a.Anon ∷ Term t.LeftBrace ∷ Non n.Enums ∷ Term t.RightBrace ∷ [])
    ∷ (Both t.Identifier t.LeftBrace, Term t.Identifier ∷ Act a.TagDef ∷ Term t.LeftBrace ∷ Non n.Enums ∷ Term t.RightBrace ∷ [])
    ∷ (First t.Identifier, Term t.Identifier ∷ Act a.TagUse ∷ [])
    ∷ []
-- enumerators (C11 6.7.2.2)
--   Enums: id => id AttrOpt EnumVal !enumerator EnumMore
rule n.Enums =
    (First t.Identifier, Term t.Identifier ∷ Non n.AttrOpt ∷ Non n.EnumVal ∷ Act a.Enumerator ∷ Non n.EnumMore ∷ [])
    ∷ []
-- the value of an enumerator (C11 6.7.2.2)
--   EnumVal: '=' => '=' Cond | else => -
rule n.EnumVal =
    (First t.Equals, Term t.Equals ∷ Non n.Cond ∷ [])
    ∷ (Else, [])
    ∷ []
-- after an enumerator (C11 6.7.2.2)
--   EnumMore: ',' '}' => ',' | ',' => ',' Enums | else => -
rule n.EnumMore =
    (Both t.Comma t.RightBrace, Term t.Comma ∷ [])
    ∷ (First t.Comma, Term t.Comma ∷ Non n.Enums ∷ [])
    ∷ (Else, [])
    ∷ []
-- a declarator (C11 6.7.6)
--   Dtor: '*' => '*' Quals Dtor !pointer | '(' => '(' AttrOpt Dtor ')' Sufs | id => id !name Sufs
rule n.Dtor =
    (First t.Star, Term t.Star ∷ Non n.Quals ∷ Non n.Dtor ∷ Act a.Pointer ∷ [])
    ∷ (First t.LeftParen, Term t.LeftParen ∷ Non n.AttrOpt ∷ Non n.Dtor ∷ Term t.RightParen ∷ Non n.Sufs ∷ [])
    ∷ (First t.Identifier, Term t.Identifier ∷ Act a.Name ∷ Non n.Sufs ∷ [])
    ∷ []
-- qualifiers of a pointer (C11 6.7.6)
--   Quals: Qual or '_Atomic' => tok Quals | '__attribute__' => Attr Quals | else => -
rule n.Quals =
    (First t.QualifierOrAtomic, Term t.QualifierOrAtomic ∷ Non n.Quals ∷ [])
    ∷ (First t.Attribute, Non n.Attr ∷ Non n.Quals ∷ [])
    ∷ (Else, [])
    ∷ []
-- array and function suffixes (C11 6.7.6)
--   Sufs: '[' => '[' Bound ']' !array Sufs | '(' => '(' !enter Params ')' !leave Sufs | else => -
rule n.Sufs =
    (First t.LeftBracket, Term t.LeftBracket ∷ Non n.Bound ∷ Term t.RightBracket ∷ Act a.Array ∷ Non n.Sufs ∷ [])
    ∷ (First t.LeftParen, Term t.LeftParen ∷ Act a.Enter ∷ Non n.Params ∷ Term t.RightParen ∷ Act a.Leave ∷ Non n.Sufs ∷ [])
    ∷ (Else, [])
    ∷ []
-- the bound of an array (C11 6.7.6)
--   Bound: ']' => - | 'static' or Qual => tok Bound | '*' ']' => '*' | else => Assign
rule n.Bound =
    (First t.RightBracket, [])
    ∷ (First t.StaticOrQualifier, Term t.StaticOrQualifier ∷ Non n.Bound ∷ [])
    ∷ (Both t.Star t.RightBracket, Term t.Star ∷ [])
    ∷ (Else, Non n.Assign ∷ [])
    ∷ []
-- parameters (C11 6.7.6)
--   Params: ')' => - | 'void' ')' => 'void' | else => Param ParMore
rule n.Params =
    (First t.RightParen, [])
    ∷ (Both t.Void t.RightParen, Term t.Void ∷ [])
    ∷ (Else, Non n.Param ∷ Non n.ParMore ∷ [])
    ∷ []
-- after a parameter (C11 6.7.6)
--   ParMore: ',' '...' => ',' '...' | ',' => ',' Param ParMore | else => -
rule n.ParMore =
    (Both t.Comma t.Ellipsis, Term t.Comma ∷ Term t.Ellipsis ∷ [])
    ∷ (First t.Comma, Term t.Comma ∷ Non n.Param ∷ Non n.ParMore ∷ [])
    ∷ (Else, [])
    ∷ []
-- a parameter (C11 6.7.6)
--   Param: else => !decl Specs0 PDtor !param AttrOpt
rule n.Param =
    (Else, Act a.Decl ∷ Non n.Specs0 ∷ Non n.PDtor ∷ Act a.Param ∷ Non n.AttrOpt ∷ [])
    ∷ []
-- the declarator of a parameter (C11 6.7.6)
--   PDtor: '*' => '*' Quals PDtor !pointer | id => id !name Sufs | '(' ')' => Sufs | '(' TS => Sufs | '(' =>
--     '(' AttrOpt PDtor ')' Sufs | else => Sufs
rule n.PDtor =
    (First t.Star, Term t.Star ∷ Non n.Quals ∷ Non n.PDtor ∷ Act a.Pointer ∷ [])
    ∷ (First t.Identifier, Term t.Identifier ∷ Act a.Name ∷ Non n.Sufs ∷ [])
    ∷ (Both t.LeftParen t.RightParen, Non n.Sufs ∷ [])
    ∷ (Both t.LeftParen t.Specifier, Non n.Sufs ∷ [])
    ∷ (First t.LeftParen, Term t.LeftParen ∷ Non n.AttrOpt ∷ Non n.PDtor ∷ Term t.RightParen ∷ Non n.Sufs ∷ [])
    ∷ (Else, Non n.Sufs ∷ [])
    ∷ []
-- an abstract declarator (C11 6.7.7)
--   ADtor: '*' => '*' Quals ADtor !pointer | '(' ')' => Sufs | '(' TS => Sufs | '(' => '(' ADtor ')' Sufs |
--     else => Sufs
rule n.ADtor =
    (First t.Star, Term t.Star ∷ Non n.Quals ∷ Non n.ADtor ∷ Act a.Pointer ∷ [])
    ∷ (Both t.LeftParen t.RightParen, Non n.Sufs ∷ [])
    ∷ (Both t.LeftParen t.Specifier, Non n.Sufs ∷ [])
    ∷ (First t.LeftParen, Term t.LeftParen ∷ Non n.ADtor ∷ Term t.RightParen ∷ Non n.Sufs ∷ [])
    ∷ (Else, Non n.Sufs ∷ [])
    ∷ []
-- a type name (C11 6.7.7)
--   TypeName: else => !decl Specs0 ADtor !typename
rule n.TypeName =
    (Else, Act a.Decl ∷ Non n.Specs0 ∷ Non n.ADtor ∷ Act a.TypeName ∷ [])
    ∷ []
-- the items of a block (C11 6.8.2)
--   Items: '}' => - | id ':' => Stmt Items | TS => Decl Items | '_Static_assert' => Decl Items |
--     '__extension__' TS => Decl Items | '__attribute__' => Attr ItemAttr Items | else => Stmt Items
rule n.Items =
    (First t.RightBrace, [])
    ∷ (Both t.Identifier t.Colon, Non n.Stmt ∷ Non n.Items ∷ [])
    ∷ (First t.Specifier, Non n.Decl ∷ Non n.Items ∷ [])
    ∷ (First t.StaticAssert, Non n.Decl ∷ Non n.Items ∷ [])
    ∷ (Both t.Extension t.Specifier, Non n.Decl ∷ Non n.Items ∷ [])
    ∷ (First t.Attribute, Non n.Attr ∷ Non n.ItemAttr ∷ Non n.Items ∷ [])
    ∷ (Else, Non n.Stmt ∷ Non n.Items ∷ [])
    ∷ []
-- after attributes in a block (C11 6.8.2)
--   ItemAttr: ';' => ';' | else => Decl
rule n.ItemAttr =
    (First t.Semicolon, Term t.Semicolon ∷ [])
    ∷ (Else, Non n.Decl ∷ [])
    ∷ []
-- a statement (C11 6.8)
--   Stmt: id ':' => id !label ':' AttrOpt Stmt | 'case' => 'case' Cond ':' Stmt | 'default' => 'default' ':'
--     Stmt | '{' => '{' !enter Items '}' !leave | ';' => ';' | 'if' => !enter 'if' '(' Expr ')' Sub Else
--     !leave | 'switch' or 'while' => !enter tok '(' Expr ')' Sub !leave | 'do' => !enter 'do' Sub 'while' '('
--     Expr ')' ';' !leave | 'for' => !enter 'for' '(' ForInit ExprOpt ';' ExprOpt ')' Sub !leave | 'goto' =>
--     'goto' id !goto ';' | 'continue' or 'break' => tok ';' | 'return' => 'return' ExprOpt ';' | else => Expr
--     ';'
rule n.Stmt =
    (Both t.Identifier t.Colon, Term t.Identifier ∷ Act a.Label ∷ Term t.Colon ∷ Non n.AttrOpt ∷ Non n.Stmt ∷ [])
    ∷ (First t.Case, Term t.Case ∷ Non n.Cond ∷ Term t.Colon ∷ Non n.Stmt ∷ [])
    ∷ (First t.Default, Term t.Default ∷ Term t.Colon ∷ Non n.Stmt ∷ [])
    ∷ (First t.LeftBrace, Term t.LeftBrace ∷ Act a.Enter ∷ Non n.Items ∷ Term t.RightBrace ∷ Act a.Leave ∷ [])
    ∷ (First t.Semicolon, Term t.Semicolon ∷ [])
    ∷ (First t.If, Act a.Enter ∷ Term t.If ∷ Term t.LeftParen ∷ Non n.Expr ∷ Term t.RightParen ∷ Non n.Sub ∷ Non n.Else ∷ Act a.Leave ∷ [])
    ∷ (First t.SwitchOrWhile, Act a.Enter ∷ Term t.SwitchOrWhile ∷ Term t.LeftParen ∷ Non n.Expr ∷ Term t.RightParen ∷ Non n.Sub ∷ Act a.Leave ∷ [])
    ∷ (First t.Do, Act a.Enter ∷ Term t.Do ∷ Non n.Sub ∷ Term t.While ∷ Term t.LeftParen ∷ Non n.Expr ∷ Term t.RightParen ∷ Term t.Semicolon ∷ Act a.Leave ∷ [])
    ∷ (First t.For, Act a.Enter ∷ Term t.For ∷ Term t.LeftParen ∷ Non n.ForInit ∷ Non n.ExprOpt ∷ Term t.Semicolon ∷ Non n.ExprOpt ∷ Term t.RightParen ∷ Non n.Sub ∷ Act a.Leave ∷ [])
    ∷ (First t.Goto, Term t.Goto ∷ Term t.Identifier ∷ Act a.Goto ∷ Term t.Semicolon ∷ [])
    ∷ (First t.ContinueOrBreak, Term t.ContinueOrBreak ∷ Term t.Semicolon ∷ [])
    ∷ (First t.Return, Term t.Return ∷ Non n.ExprOpt ∷ Term t.Semicolon ∷ [])
    ∷ (Else, Non n.Expr ∷ Term t.Semicolon ∷ [])
    ∷ []
-- a statement with a scope of its own (C11 6.8.4, 6.8.5)
--   Sub: else => !enter Stmt !leave
rule n.Sub =
    (Else, Act a.Enter ∷ Non n.Stmt ∷ Act a.Leave ∷ [])
    ∷ []
-- the second statement of an `if` (C11 6.8.4.1)
--   Else: 'else' => 'else' Sub | else => -
rule n.Else =
    (First t.Else, Term t.Else ∷ Non n.Sub ∷ [])
    ∷ (Else, [])
    ∷ []
-- the first part of a `for` (C11 6.8.5.3)
--   ForInit: TS => Decl | else => ExprOpt ';'
rule n.ForInit =
    (First t.Specifier, Non n.Decl ∷ [])
    ∷ (Else, Non n.ExprOpt ∷ Term t.Semicolon ∷ [])
    ∷ []
-- an expression, where there is one (C11 6.8.5.3)
--   ExprOpt: ';' or ')' => - | else => Expr
rule n.ExprOpt =
    (First t.SemicolonOrRightParen, [])
    ∷ (Else, Non n.Expr ∷ [])
    ∷ []
-- an expression (C11 6.5.17)
--   Expr: else => Assign ExprMore
rule n.Expr =
    (Else, Non n.Assign ∷ Non n.ExprMore ∷ [])
    ∷ []
-- after a comma operator (C11 6.5.17)
--   ExprMore: ',' => ',' Assign !op ExprMore | else => -
rule n.ExprMore =
    (First t.Comma, Term t.Comma ∷ Non n.Assign ∷ Act a.Op ∷ Non n.ExprMore ∷ [])
    ∷ (Else, [])
    ∷ []
-- an assignment expression (C11 6.5.16)
--   Assign: else => Cond AssTail
rule n.Assign =
    (Else, Non n.Cond ∷ Non n.AssTail ∷ [])
    ∷ []
-- its operator and right operand (C11 6.5.16)
--   AssTail: = *= /= %= += -= <<= >>= &= ^= |= => tok Assign !op | else => -
rule n.AssTail =
    (First t.AssignmentOperator, Term t.AssignmentOperator ∷ Non n.Assign ∷ Act a.Op ∷ [])
    ∷ (Else, [])
    ∷ []
-- a conditional expression (C11 6.5.15)
--   Cond: else => Bin1 CondTail
rule n.Cond =
    (Else, Non n.Bin1 ∷ Non n.CondTail ∷ [])
    ∷ []
-- its second and third operands (C11 6.5.15)
--   CondTail: '?' => '?' Expr ':' Cond !op | else => -
rule n.CondTail =
    (First t.Question, Term t.Question ∷ Non n.Expr ∷ Term t.Colon ∷ Non n.Cond ∷ Act a.Op ∷ [])
    ∷ (Else, [])
    ∷ []
-- a binary expression of level 1 (C11 6.5.14)
--   Bin1: else => Bin2 Tail1
rule n.Bin1 =
    (Else, Non n.Bin2 ∷ Non n.Tail1 ∷ [])
    ∷ []
-- a binary expression of level 2 (C11 6.5.13)
--   Bin2: else => Bin3 Tail2
rule n.Bin2 =
    (Else, Non n.Bin3 ∷ Non n.Tail2 ∷ [])
    ∷ []
-- a binary expression of level 3 (C11 6.5.12)
--   Bin3: else => Bin4 Tail3
rule n.Bin3 =
    (Else, Non n.Bin4 ∷ Non n.Tail3 ∷ [])
    ∷ []
-- a binary expression of level 4 (C11 6.5.11)
--   Bin4: else => Bin5 Tail4
rule n.Bin4 =
    (Else, Non n.Bin5 ∷ Non n.Tail4 ∷ [])
    ∷ []
-- a binary expression of level 5 (C11 6.5.10)
--   Bin5: else => Bin6 Tail5
rule n.Bin5 =
    (Else, Non n.Bin6 ∷ Non n.Tail5 ∷ [])
    ∷ []
-- a binary expression of level 6 (C11 6.5.9)
--   Bin6: else => Bin7 Tail6
rule n.Bin6 =
    (Else, Non n.Bin7 ∷ Non n.Tail6 ∷ [])
    ∷ []
-- a binary expression of level 7 (C11 6.5.8)
--   Bin7: else => Bin8 Tail7
rule n.Bin7 =
    (Else, Non n.Bin8 ∷ Non n.Tail7 ∷ [])
    ∷ []
-- a binary expression of level 8 (C11 6.5.7)
--   Bin8: else => Bin9 Tail8
rule n.Bin8 =
    (Else, Non n.Bin9 ∷ Non n.Tail8 ∷ [])
    ∷ []
-- a binary expression of level 9 (C11 6.5.6)
--   Bin9: else => Bin10 Tail9
rule n.Bin9 =
    (Else, Non n.Bin10 ∷ Non n.Tail9 ∷ [])
    ∷ []
-- a binary expression of level 10 (C11 6.5.5)
--   Bin10: else => Cast Tail10
rule n.Bin10 =
    (Else, Non n.Cast ∷ Non n.Tail10 ∷ [])
    ∷ []
-- its operators and right operands (C11 6.5.14)
--   Tail1: an operator of level 1 => tok Bin2 !op Tail1 | else => -
rule n.Tail1 =
    (First t.Level1, Term t.Level1 ∷ Non n.Bin2 ∷ Act a.Op ∷ Non n.Tail1 ∷ [])
    ∷ (Else, [])
    ∷ []
-- its operators and right operands (C11 6.5.13)
--   Tail2: an operator of level 2 => tok Bin3 !op Tail2 | else => -
rule n.Tail2 =
    (First t.Level2, Term t.Level2 ∷ Non n.Bin3 ∷ Act a.Op ∷ Non n.Tail2 ∷ [])
    ∷ (Else, [])
    ∷ []
-- its operators and right operands (C11 6.5.12)
--   Tail3: an operator of level 3 => tok Bin4 !op Tail3 | else => -
rule n.Tail3 =
    (First t.Level3, Term t.Level3 ∷ Non n.Bin4 ∷ Act a.Op ∷ Non n.Tail3 ∷ [])
    ∷ (Else, [])
    ∷ []
-- its operators and right operands (C11 6.5.11)
--   Tail4: an operator of level 4 => tok Bin5 !op Tail4 | else => -
rule n.Tail4 =
    (First t.Level4, Term t.Level4 ∷ Non n.Bin5 ∷ Act a.Op ∷ Non n.Tail4 ∷ [])
    ∷ (Else, [])
    ∷ []
-- its operators and right operands (C11 6.5.10)
--   Tail5: an operator of level 5 => tok Bin6 !op Tail5 | else => -
rule n.Tail5 =
    (First t.Level5, Term t.Level5 ∷ Non n.Bin6 ∷ Act a.Op ∷ Non n.Tail5 ∷ [])
    ∷ (Else, [])
    ∷ []
-- its operators and right operands (C11 6.5.9)
--   Tail6: an operator of level 6 => tok Bin7 !op Tail6 | else => -
rule n.Tail6 =
    (First t.Level6, Term t.Level6 ∷ Non n.Bin7 ∷ Act a.Op ∷ Non n.Tail6 ∷ [])
    ∷ (Else, [])
    ∷ []
-- its operators and right operands (C11 6.5.8)
--   Tail7: an operator of level 7 => tok Bin8 !op Tail7 | else => -
rule n.Tail7 =
    (First t.Level7, Term t.Level7 ∷ Non n.Bin8 ∷ Act a.Op ∷ Non n.Tail7 ∷ [])
    ∷ (Else, [])
    ∷ []
-- its operators and right operands (C11 6.5.7)
--   Tail8: an operator of level 8 => tok Bin9 !op Tail8 | else => -
rule n.Tail8 =
    (First t.Level8, Term t.Level8 ∷ Non n.Bin9 ∷ Act a.Op ∷ Non n.Tail8 ∷ [])
    ∷ (Else, [])
    ∷ []
-- its operators and right operands (C11 6.5.6)
--   Tail9: an operator of level 9 => tok Bin10 !op Tail9 | else => -
rule n.Tail9 =
    (First t.Level9, Term t.Level9 ∷ Non n.Bin10 ∷ Act a.Op ∷ Non n.Tail9 ∷ [])
    ∷ (Else, [])
    ∷ []
-- its operators and right operands (C11 6.5.5)
--   Tail10: an operator of level 10 => tok Cast !op Tail10 | else => -
rule n.Tail10 =
    (First t.Level10, Term t.Level10 ∷ Non n.Cast ∷ Act a.Op ∷ Non n.Tail10 ∷ [])
    ∷ (Else, [])
    ∷ []
-- a cast expression (C11 6.5.4)
--   Cast: '(' TS => '(' TypeName ')' CastTail | else => Unary
rule n.Cast =
    (Both t.LeftParen t.Specifier, Term t.LeftParen ∷ Non n.TypeName ∷ Term t.RightParen ∷ Non n.CastTail ∷ [])
    ∷ (Else, Non n.Unary ∷ [])
    ∷ []
-- after a type name in parentheses (C11 6.5.4, 6.5.2.5)
--   CastTail: '{' => !initof Braces !initend PostTail | else => Cast !op
rule n.CastTail =
    (First t.LeftBrace, Act a.InitOf ∷ Non n.Braces ∷ Act a.InitEnd ∷ Non n.PostTail ∷ [])
    ∷ (Else, Non n.Cast ∷ Act a.Op ∷ [])
    ∷ []
-- a unary expression (C11 6.5.3)
--   Unary: '++' or '--' => tok Unary !op | & * + - ~ ! => tok Cast !op | '__extension__' => '__extension__'
--     Cast | 'sizeof' => 'sizeof' SizeTail !op | '_Alignof' => '_Alignof' '(' TypeName ')' !op | else =>
--     Primary PostTail
rule n.Unary =
    (First t.IncrementOrDecrement, Term t.IncrementOrDecrement ∷ Non n.Unary ∷ Act a.Op ∷ [])
    ∷ (First t.UnaryOperator, Term t.UnaryOperator ∷ Non n.Cast ∷ Act a.Op ∷ [])
    ∷ (First t.Extension, Term t.Extension ∷ Non n.Cast ∷ [])
    ∷ (First t.Sizeof, Term t.Sizeof ∷ Non n.SizeTail ∷ Act a.Op ∷ [])
    ∷ (First t.Alignof, Term t.Alignof ∷ Term t.LeftParen ∷ Non n.TypeName ∷ Term t.RightParen ∷ Act a.Op ∷ [])
    ∷ (Else, Non n.Primary ∷ Non n.PostTail ∷ [])
    ∷ []
-- what `sizeof` takes (C11 6.5.3.4)
--   SizeTail: '(' TS => '(' TypeName ')' SizeLit | else => Unary
rule n.SizeTail =
    (Both t.LeftParen t.Specifier, Term t.LeftParen ∷ Non n.TypeName ∷ Term t.RightParen ∷ Non n.SizeLit ∷ [])
    ∷ (Else, Non n.Unary ∷ [])
    ∷ []
-- a compound literal behind `sizeof` (C11 6.5.3.4)
--   SizeLit: '{' => !initof Braces !initend PostTail | else => -
rule n.SizeLit =
    (First t.LeftBrace, Act a.InitOf ∷ Non n.Braces ∷ Act a.InitEnd ∷ Non n.PostTail ∷ [])
    ∷ (Else, [])
    ∷ []
-- postfix operators (C11 6.5.2)
--   PostTail: '[' => '[' Expr ']' !op PostTail | '(' => '(' Args ')' !op PostTail | '.' or '->' => tok id
--     !select PostTail | '++' or '--' => tok !op PostTail | else => -
rule n.PostTail =
    (First t.LeftBracket, Term t.LeftBracket ∷ Non n.Expr ∷ Term t.RightBracket ∷ Act a.Op ∷ Non n.PostTail ∷ [])
    ∷ (First t.LeftParen, Term t.LeftParen ∷ Non n.Args ∷ Term t.RightParen ∷ Act a.Op ∷ Non n.PostTail ∷ [])
    ∷ (First t.DotOrArrow, Term t.DotOrArrow ∷ Term t.Identifier ∷ Act a.Select ∷ Non n.PostTail ∷ [])
    ∷ (First t.IncrementOrDecrement, Term t.IncrementOrDecrement ∷ Act a.Op ∷ Non n.PostTail ∷ [])
    ∷ (Else, [])
    ∷ []
-- arguments of a call (C11 6.5.2)
--   Args: ')' => - | else => Assign ArgMore
rule n.Args =
    (First t.RightParen, [])
    ∷ (Else, Non n.Assign ∷ Non n.ArgMore ∷ [])
    ∷ []
-- further arguments (C11 6.5.2)
--   ArgMore: ',' => ',' Assign ArgMore | else => -
rule n.ArgMore =
    (First t.Comma, Term t.Comma ∷ Non n.Assign ∷ Non n.ArgMore ∷ [])
    ∷ (Else, [])
    ∷ []
-- a primary expression (C11 6.5.1)
--   Primary: id '(' => id !callee | id => id !mention | const => const !value | str => str !value | '(' => '('
--     Expr ')' | '_Generic' => '_Generic' '(' Assign ',' Assoc ')' !op | '__builtin_va_arg' =>
--     '__builtin_va_arg' '(' Assign ',' TypeName ')' !op | '__builtin_offsetof' => '__builtin_offsetof' '('
--     TypeName ',' id !offmember OffTail ')' !op
rule n.Primary =
    (Both t.Identifier t.LeftParen, Term t.Identifier ∷ Act a.Callee ∷ [])
    ∷ (First t.Identifier, Term t.Identifier ∷ Act a.Mention ∷ [])
    ∷ (First t.Constant, Term t.Constant ∷ Act a.Value ∷ [])
    ∷ (First t.StringLiteral, Term t.StringLiteral ∷ Act a.Value ∷ [])
    ∷ (First t.LeftParen, Term t.LeftParen ∷ Non n.Expr ∷ Term t.RightParen ∷ [])
    ∷ (First t.Generic, Term t.Generic ∷ Term t.LeftParen ∷ Non n.Assign ∷ Term t.Comma ∷ Non n.Assoc ∷ Term t.RightParen ∷ Act a.Op ∷ [])
    ∷ (First t.VaArg, Term t.VaArg ∷ Term t.LeftParen ∷ Non n.Assign ∷ Term t.Comma ∷ Non n.TypeName ∷ Term t.RightParen ∷ Act a.Op ∷ [])
    ∷ (First t.Offsetof, Term t.Offsetof ∷ Term t.LeftParen ∷ Non n.TypeName ∷ Term t.Comma ∷ Term t.Identifier ∷ Act a.OffMember ∷ Non n.OffTail ∷ Term t.RightParen ∷ Act a.Op ∷ [])
    ∷ []
-- an association of a generic selection (C11 6.5.1.1)
--   Assoc: 'default' => 'default' ':' Assign AssMore | else => TypeName ':' Assign AssMore
rule n.Assoc =
    (First t.Default, Term t.Default ∷ Term t.Colon ∷ Non n.Assign ∷ Non n.AssMore ∷ [])
    ∷ (Else, Non n.TypeName ∷ Term t.Colon ∷ Non n.Assign ∷ Non n.AssMore ∷ [])
    ∷ []
-- further associations (C11 6.5.1.1)
--   AssMore: ',' => ',' Assoc | else => -
rule n.AssMore =
    (First t.Comma, Term t.Comma ∷ Non n.Assoc ∷ [])
    ∷ (Else, [])
    ∷ []
-- further steps of an offset (our own rule)
--   OffTail: '.' => '.' id !offmember OffTail | '[' => '[' Expr ']' !offindex OffTail | else => -
rule n.OffTail =
    (First t.Dot, Term t.Dot ∷ Term t.Identifier ∷ Act a.OffMember ∷ Non n.OffTail ∷ [])
    ∷ (First t.LeftBracket, Term t.LeftBracket ∷ Non n.Expr ∷ Term t.RightBracket ∷ Act a.OffIndex ∷ Non n.OffTail ∷ [])
    ∷ (Else, [])
    ∷ []
-- an initialiser (C11 6.7.9)
--   Init: '{' => Braces | else => Assign !item
rule n.Init =
    (First t.LeftBrace, Non n.Braces ∷ [])
    ∷ (Else, Non n.Assign ∷ Act a.Item ∷ [])
    ∷ []
-- an initialiser in braces (C11 6.7.9)
--   Braces: else => '{' !listopen BraceIn '}' !listend
rule n.Braces =
    (Else, Term t.LeftBrace ∷ Act a.ListOpen ∷ Non n.BraceIn ∷ Term t.RightBrace ∷ Act a.ListEnd ∷ [])
    ∷ []
-- what the braces hold (C11 6.7.9)
--   BraceIn: '}' => - | else => Item BraceMore
rule n.BraceIn =
    (First t.RightBrace, [])
    ∷ (Else, Non n.Item ∷ Non n.BraceMore ∷ [])
    ∷ []
-- further items (C11 6.7.9)
--   BraceMore: ',' '}' => ',' | ',' => ',' Item BraceMore | else => -
rule n.BraceMore =
    (Both t.Comma t.RightBrace, Term t.Comma ∷ [])
    ∷ (First t.Comma, Term t.Comma ∷ Non n.Item ∷ Non n.BraceMore ∷ [])
    ∷ (Else, [])
    ∷ []
-- an item with its designators (C11 6.7.9)
--   Item: '[' or '.' => Desigs '=' Init | else => Init
rule n.Item =
    (First t.LeftBracketOrDot, Non n.Desigs ∷ Term t.Equals ∷ Non n.Init ∷ [])
    ∷ (Else, Non n.Init ∷ [])
    ∷ []
-- designators (C11 6.7.9)
--   Desigs: '[' => '[' Cond ']' !index DesMore | '.' => '.' id !desig DesMore
rule n.Desigs =
    (First t.LeftBracket, Term t.LeftBracket ∷ Non n.Cond ∷ Term t.RightBracket ∷ Act a.Index ∷ Non n.DesMore ∷ [])
    ∷ (First t.Dot, Term t.Dot ∷ Term t.Identifier ∷ Act a.Desig ∷ Non n.DesMore ∷ [])
    ∷ []
-- further designators (C11 6.7.9)
--   DesMore: '[' or '.' => Desigs | else => -
rule n.DesMore =
    (First t.LeftBracketOrDot, Non n.Desigs ∷ [])
    ∷ (Else, [])
    ∷ []
-- one modifier (our own rule)
--   Mod: '__attribute__' => Attr | '_Alignas' => '_Alignas' '(' AlignArg ')' | else => one storage class,
--     qualifier, function specifier or '__extension__'
rule n.Mod =
    (First t.Attribute, Non n.Attr ∷ [])
    ∷ (First t.Alignas, Term t.Alignas ∷ Term t.LeftParen ∷ Non n.AlignArg ∷ Term t.RightParen ∷ [])
    ∷ (Else, Term t.PlainModifier ∷ [])
    ∷ []

abbrev pub row_of : Alternative → Row
row_of x = (x.guard, x.body.now)

abbrev pub rows_of : List Alternative → List Row
rows_of = map row_of
