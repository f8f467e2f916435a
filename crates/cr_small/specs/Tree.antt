-- The grammar of the small form, as trees and the terminals that they derive:
--   Small    = { [ 'static' | 'extern' ] ( Object | Function ) }
--   Object   = 'int' id [ '=' Sum ] ';'
--   Function = 'int' id '(' 'void' ')' ( ';' | '{' { Object | 'return' Sum ';' | Sum ';' } '}' )
--   Sum      = Item { '+' Item }
--   Item     = number | id | id '(' ')'
use Rattle.std.specs.Prelude.{◌≡◌, List, [], ◌∷◌, ◌++◌, map, Option, Some, None}
use Rattle.std.specs.List.{flat_map}
use Rattle.cr_lex.specs.Lexing.{Token}
use Rattle.cr_small.specs.Terminals.{terminal_of}
use Rattle.cr_small.specs.declared.terminal.Terminal.{Terminal}
use Rattle.cr_small.specs.declared.terminal.Terminal.TheVariants as terminal
use Rattle.cr_small.specs.declared.grammar.Storage.{Storage}
use Rattle.cr_small.specs.declared.grammar.Storage.TheVariants as storage
use Rattle.cr_small.specs.declared.grammar.Part.{Part}
use Rattle.cr_small.specs.declared.grammar.Part.TheVariants as part

-- a number, a mention of a name, or a call of a name
pub data Item : Type 0 where
  number : Item
  mention : Item
  call : Item

-- one item and those behind it
pub record Sum : Type 0 where
  pub first : Item
  pub more : List Item

-- an object inside braces with its initialiser, a return, or an expression
pub data Statement : Type 0 where
  local : Option Sum → Statement
  returns : Sum → Statement
  evaluates : Sum → Statement

-- an object at file scope with its initialiser, or a function without or with a body
pub data Declaration : Type 0 where
  object : Option Sum → Declaration
  prototype : Declaration
  definition : List Statement → Declaration

-- a declaration at file scope with its storage word, if it has one
pub record External : Type 0 where
  pub word : Option Storage
  pub declaration : Declaration

-- a leaf of a tree: a terminal, and what its token does
pub record Leaf : Type 0 where
  pub terminal : Terminal
  pub part : Part

abbrev pub plain : Terminal → Leaf
plain t = record { terminal = t; part = part.Plain }

abbrev pub name_that : Part → Leaf
name_that p = record { terminal = terminal.Name; part = p }

abbrev pub item_leaves : Item → List Leaf
item_leaves number = plain terminal.Number ∷ []
item_leaves mention = name_that part.Mentions ∷ []
item_leaves call = name_that part.Mentions ∷ plain terminal.Open ∷ plain terminal.Close ∷ []

-- each item behind a plus
abbrev pub more_leaves : List Item → List Leaf
more_leaves [] = []
more_leaves (item ∷ items) = plain terminal.Plus ∷ item_leaves item ++ more_leaves items

abbrev pub sum_leaves : Sum → List Leaf
sum_leaves sum = item_leaves sum.first ++ more_leaves sum.more

abbrev pub initialiser_leaves : Option Sum → List Leaf
initialiser_leaves None = []
initialiser_leaves (Some sum) = plain terminal.Assign ∷ sum_leaves sum

-- the name of an object is declared with the storage word in front of it
abbrev pub object_leaves : Option Storage → Option Sum → List Leaf
object_leaves word init =
    plain terminal.Int ∷ name_that (part.DeclaresObject word) ∷ initialiser_leaves init ++ plain terminal.Semicolon ∷ []

abbrev pub statement_leaves : Statement → List Leaf
statement_leaves (local init) = object_leaves None init
statement_leaves (returns sum) = plain terminal.Return ∷ sum_leaves sum ++ plain terminal.Semicolon ∷ []
statement_leaves (evaluates sum) = sum_leaves sum ++ plain terminal.Semicolon ∷ []

-- 'int' id '(' 'void' ')', whose name is declared so too
abbrev pub function_leaves : Option Storage → List Leaf
function_leaves word =
    plain terminal.Int ∷ name_that (part.DeclaresFunction word) ∷ plain terminal.Open ∷ plain terminal.Void ∷ plain terminal.Close ∷ []

-- the braces of a body, which open and close its scope
abbrev pub opening : Leaf
opening = record { terminal = terminal.Begin; part = part.Opens }

abbrev pub closing : Leaf
closing = record { terminal = terminal.End; part = part.Closes }

abbrev pub declaration_leaves : Option Storage → Declaration → List Leaf
declaration_leaves word (object init) = object_leaves word init
declaration_leaves word prototype = function_leaves word ++ plain terminal.Semicolon ∷ []
declaration_leaves word (definition statements) = function_leaves word ++ opening ∷ flat_map statement_leaves statements ++ closing ∷ []

-- `static` or `extern`
abbrev pub word_leaves : Option Storage → List Leaf
word_leaves None = []
word_leaves (Some storage.Static) = plain terminal.Static ∷ []
word_leaves (Some storage.Extern) = plain terminal.Extern ∷ []

abbrev pub external_leaves : External → List Leaf
external_leaves external = word_leaves external.word ++ declaration_leaves external.word external.declaration

-- the leaves of a whole tree, from left to right
abbrev pub leaves : List External → List Leaf
leaves tree = flat_map external_leaves tree

-- what each token of a tree does
abbrev pub parts : List External → List Part
parts tree = map (λ l. l.part) (leaves tree)

-- The tokens are those of the tree, terminal by terminal.
abbrev pub Derives : List Token → List External → Type 0
Derives tokens tree = map (λ t. terminal_of t.text) tokens ≡ map (λ l. l.terminal) (leaves tree)
