-- How many nonterminals can be replaced before something happens.
use Rattle.std.specs.Prelude.{ℕ, ◌+◌, Bool, true, false, cond, List, [], ◌∷◌}
use Rattle.cr_grammar.specs.declared.symbols.NonTerm.{NonTerm}
use Rattle.cr_grammar.specs.declared.symbols.NonTerm.TheVariants as n
use Rattle.cr_grammar.specs.declared.symbols.Symbol.{Symbol}
use Rattle.cr_grammar.specs.declared.symbols.Symbol.TheVariants.{Term, Non, Act}

-- whether a nonterminal can vanish with no event
unfoldable pub vanishes : NonTerm → Bool
vanishes n.Unit = true
vanishes n.More = true
vanishes n.After = true
vanishes n.InitOpt = true
vanishes n.SpecsB = true
vanishes n.SpecsT = true
vanishes n.AttrOpt = true
vanishes n.Hidden = true
vanishes n.Members = true
vanishes n.MemMore = true
vanishes n.BitOpt = true
vanishes n.EnumVal = true
vanishes n.EnumMore = true
vanishes n.Quals = true
vanishes n.Sufs = true
vanishes n.Bound = true
vanishes n.Params = true
vanishes n.ParMore = true
vanishes n.PDtor = true
vanishes n.ADtor = true
vanishes n.Items = true
vanishes n.Else = true
vanishes n.ExprOpt = true
vanishes n.ExprMore = true
vanishes n.AssTail = true
vanishes n.CondTail = true
vanishes n.Tail1 = true
vanishes n.Tail2 = true
vanishes n.Tail3 = true
vanishes n.Tail4 = true
vanishes n.Tail5 = true
vanishes n.Tail6 = true
vanishes n.Tail7 = true
vanishes n.Tail8 = true
vanishes n.Tail9 = true
vanishes n.Tail10 = true
vanishes n.SizeLit = true
vanishes n.PostTail = true
vanishes n.Args = true
vanishes n.ArgMore = true
vanishes n.AssMore = true
vanishes n.OffTail = true
vanishes n.BraceIn = true
vanishes n.BraceMore = true
vanishes n.DesMore = true
vanishes _ = false

unfoldable pub rank : NonTerm → ℕ
rank n.Unit = 3
rank n.External = 2
rank n.ExtTail = 2
rank n.ExtNext = 3
rank n.Decl = 2
rank n.DeclTail = 2
rank n.After = 2
rank n.Specs0 = 3
rank n.SpecsB = 3
rank n.SpecsT = 3
rank n.AlignArg = 15
rank n.AttrOpt = 2
rank n.Members = 2
rank n.MemTail = 3
rank n.MemDtor = 2
rank n.Quals = 2
rank n.Bound = 16
rank n.Params = 2
rank n.PDtor = 2
rank n.ADtor = 2
rank n.Items = 18
rank n.ItemAttr = 3
rank n.Stmt = 17
rank n.ForInit = 18
rank n.ExprOpt = 17
rank n.Expr = 16
rank n.Assign = 15
rank n.Cond = 14
rank n.Bin1 = 13
rank n.Bin2 = 12
rank n.Bin3 = 11
rank n.Bin4 = 10
rank n.Bin5 = 9
rank n.Bin6 = 8
rank n.Bin7 = 7
rank n.Bin8 = 6
rank n.Bin9 = 5
rank n.Bin10 = 4
rank n.Cast = 3
rank n.CastTail = 4
rank n.Unary = 2
rank n.SizeTail = 3
rank n.Args = 16
rank n.Assoc = 2
rank n.Init = 16
rank n.BraceIn = 18
rank n.Item = 17
rank n.DesMore = 2
rank n.Mod = 2
rank _ = 1

-- no more nonterminals than this are replaced before something happens
abbrev pub weight : List Symbol → ℕ
weight [] = 0
weight (Term t ∷ ss) = 0
weight (Act a ∷ ss) = 0
weight (Non m ∷ ss) = rank m + cond (vanishes m) (weight ss) 0
