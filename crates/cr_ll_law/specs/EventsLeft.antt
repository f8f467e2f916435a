-- How many events the machine of the grammar can still give before it passes a token: actions that are due, asks, and nodes
-- that are opened. So a loop over its events ends.
use Rattle.std.specs.Prelude.{◌≡◌, ℕ, ◌+◌, ◌-◌, ◌≤◌, Bool, true, false, cond, List, [], ◌∷◌, length}
use Rattle.cr_grammar.specs.declared.symbols.NonTerm.{NonTerm}
use Rattle.cr_grammar.specs.declared.symbols.NonTerm.TheVariants as n
use Rattle.cr_grammar.specs.declared.symbols.Symbol.{Symbol}
use Rattle.cr_grammar.specs.declared.symbols.Symbol.TheVariants.{Term, Non, Act}
use Rattle.cr_ll.specs.Guards.{Terminal}
use Rattle.cr_ll.specs.Derivation.{Item, Passed, Due, Asked}
use Rattle.cr_ll.specs.Machine.{Config, Run}

-- whether a nonterminal can vanish without a token
unfoldable pub empties : NonTerm → Bool
empties n.ADtor = true
empties n.After = true
empties n.ArgMore = true
empties n.Args = true
empties n.AssMore = true
empties n.AssTail = true
empties n.AttrOpt = true
empties n.BitOpt = true
empties n.Bound = true
empties n.BraceIn = true
empties n.BraceMore = true
empties n.CondTail = true
empties n.DesMore = true
empties n.Else = true
empties n.EnumMore = true
empties n.EnumVal = true
empties n.ExprMore = true
empties n.ExprOpt = true
empties n.Hidden = true
empties n.InitOpt = true
empties n.Items = true
empties n.MemMore = true
empties n.Members = true
empties n.More = true
empties n.OffTail = true
empties n.PDtor = true
empties n.ParMore = true
empties n.Params = true
empties n.PostTail = true
empties n.Quals = true
empties n.SizeLit = true
empties n.SpecsB = true
empties n.SpecsT = true
empties n.Sufs = true
empties n.Tail1 = true
empties n.Tail10 = true
empties n.Tail2 = true
empties n.Tail3 = true
empties n.Tail4 = true
empties n.Tail5 = true
empties n.Tail6 = true
empties n.Tail7 = true
empties n.Tail8 = true
empties n.Tail9 = true
empties n.Unit = true
empties _ = false

-- no more than this happens from a nonterminal to its first token, or to its end
unfoldable pub most : NonTerm → ℕ
most n.Unit = 22
most n.External = 19
most n.ExtTail = 7
most n.ExtNext = 9
most n.Decl = 18
most n.DeclTail = 7
most n.After = 6
most n.Static = 2
most n.Specs0 = 14
most n.SpecsB = 11
most n.SpecsT = 10
most n.AlignArg = 44
most n.Attr = 2
most n.AttrOpt = 5
most n.Hidden = 4
most n.Rec = 2
most n.RecTail = 6
most n.Members = 20
most n.MemTail = 10
most n.MemDtor = 7
most n.Enum = 2
most n.EnumTail = 5
most n.Enums = 2
most n.EnumMore = 4
most n.Dtor = 4
most n.Quals = 6
most n.Sufs = 4
most n.Bound = 48
most n.Params = 21
most n.ParMore = 4
most n.Param = 17
most n.PDtor = 11
most n.ADtor = 10
most n.TypeName = 17
most n.Items = 67
most n.ItemAttr = 21
most n.Stmt = 59
most n.Sub = 62
most n.ForInit = 51
most n.ExprOpt = 48
most n.Expr = 45
most n.Assign = 43
most n.Cond = 41
most n.Bin1 = 39
most n.Bin2 = 37
most n.Bin3 = 35
most n.Bin4 = 33
most n.Bin5 = 31
most n.Bin6 = 29
most n.Bin7 = 27
most n.Bin8 = 25
most n.Bin9 = 23
most n.Bin10 = 21
most n.Cast = 19
most n.CastTail = 22
most n.Unary = 16
most n.SizeTail = 19
most n.SizeLit = 6
most n.PostTail = 6
most n.Args = 46
most n.Primary = 9
most n.Assoc = 20
most n.OffTail = 4
most n.Init = 46
most n.Braces = 2
most n.BraceIn = 52
most n.BraceMore = 4
most n.Item = 49
most n.DesMore = 6
most n.Mod = 6
most _ = 3

-- the same of symbols
abbrev pub due : List Symbol → ℕ
due [] = 0
due (Term t ∷ ss) = 0
due (Act a ∷ ss) = 1 + due ss
due (Non m ∷ ss) = most m + cond (empties m) (due ss) 0

-- whether a token is passed in these symbols
abbrev pub closed : List Symbol → Bool
closed [] = false
closed (Term t ∷ ss) = true
closed (Act a ∷ ss) = closed ss
closed (Non m ∷ ss) = cond (empties m) (closed ss) true

-- what is left at a place on the way, where so many alternatives of the topmost symbol need not be tried any more
abbrev pub left_on : ℕ → List Symbol → ℕ
left_on r [] = 0
left_on r (Term t ∷ ss) = 0
left_on r (Act a ∷ ss) = 1 + due ss
left_on r (Non m ∷ ss) = (most m - r) + cond (empties m) (due ss) 0

abbrev pub left : Config → ℕ
left c = left_on c.refused c.stack

-- ---- laws

-- no token is passed among these
abbrev pub NonePassed : List Item → Type 0
NonePassed [] = Unit {0}
NonePassed (Passed i ∷ xs) = ⊥
NonePassed (Due a ∷ xs) = NonePassed xs
NonePassed (Asked i b ∷ xs) = NonePassed xs

-- A run that passes no token leaves less for each of its items.
abbrev pub EventsFall : Type 0
EventsFall =
    (ts : List Terminal) (c d : Config) (xs : List Item) → Run ts c xs d → NonePassed xs → left d + length xs ≤ left c

-- how many tokens are passed among these
abbrev pub passed : List Item → ℕ
passed [] = 0
passed (Passed i ∷ xs) = 1 + passed xs
passed (Due a ∷ xs) = passed xs
passed (Asked i b ∷ xs) = passed xs

-- The machine stands behind the tokens that it has passed.
abbrev pub PlacesCountTokens : Type 0
PlacesCountTokens = (ts : List Terminal) (c d : Config) (xs : List Item) → Run ts c xs d → d.place ≡ c.place + passed xs
