-- Tokens that are passed, asked or awaited are tokens of the unit.
use Rattle.std.specs.Prelude.{◌≡◌, ℕ, zero, suc, ◌+◌, ◌<◌, Bool, true, false, cond, not, ◌&&◌, ◌||◌, List, [], ◌∷◌, length, map}
use Rattle.std.proofs.Common.{refl, sym, ◌∙◌, ap, subst, inl, inr, arith}
use Rattle.cr_base.specs.declared.token.Tok.{Tok}
use Rattle.cr_base.specs.declared.token.TokKind.{TokKind}
use Rattle.cr_base.specs.declared.token.TokKind.TheVariants as k
use Rattle.cr_grammar.specs.declared.symbols.NonTerm.{NonTerm}
use Rattle.cr_grammar.specs.declared.symbols.NonTerm.TheVariants as n
use Rattle.cr_grammar.specs.declared.symbols.Action.{Action}
use Rattle.cr_grammar.specs.declared.symbols.Action.TheVariants as a
use Rattle.cr_grammar.specs.declared.symbols.Term.{Term as Word}
use Rattle.cr_grammar.specs.declared.symbols.Term.TheVariants as w
use Rattle.cr_grammar.specs.declared.symbols.Guard.{Guard}
use Rattle.cr_grammar.specs.declared.symbols.Guard.TheVariants.{Else, First, Both}
use Rattle.cr_grammar.specs.declared.symbols.Symbol.{Symbol}
use Rattle.cr_grammar.specs.declared.symbols.Symbol.TheVariants.{Term, Non, Act}
use Rattle.cr_grammar.specs.Grammar.{Row, rule}
use Rattle.cr_ll.specs.declared.guards.Verdict.{Verdict}
use Rattle.cr_ll.specs.declared.guards.Verdict.TheVariants.{Holds, Fails, Asks}
use Rattle.cr_ll.specs.Guards.{Terminal, terminal, token_at, holds_if, asks_if, is_name, is_end, is_spelled, fits, meets, after_first, verdict, ask_at}
use Rattle.cr_ll.specs.Derivation.{Item, Passed, Due, Asked, Trees, none, token, action, node, ChosenBy, Chosen, Derives}
use Rattle.cr_binding.specs.Source.{Source}
use Rattle.cr_binding.specs.WellFormed.{terminals_of}
use Rattle.cr_sound_law.specs.Sound.{IsToken}
use Rattle.cr_sound_law.proofs.Lists.{and_both}

-- ---- one token

-- what isn't the end stands among the tokens
within : (texts : List (List ℕ)) (xs : List Tok) (i : ℕ) → is_end (token_at (map (terminal texts) xs) i).kind ≡ false → i < length xs
within texts [] i h = cc
within texts (x ∷ xs) zero h = omega arith
within texts (x ∷ xs) (suc i) h = let l : i < length xs = within texts xs i h in omega (arith, l)

name_no_end : (x : TokKind) → is_name x ≡ true → is_end x ≡ false
name_no_end k.Ident h = refl
name_no_end k.End h = cc
name_no_end _ h = cc

met_no_end : (x : Word) (y : Terminal) → meets x y ≡ Holds → is_end y.kind ≡ false
met_no_end x y h = by (is_end y.kind) h
  where
    by : (b : Bool) → cond b Fails (fits x y 0) ≡ Holds → b ≡ false
    by true h = cc
    by false h = refl

module _ (t : Source) where
  pub met_token : (x : Word) (i : ℕ) → meets x (token_at (terminals_of t) i) ≡ Holds → IsToken t i
  met_token x i h = within t.texts t.tokens i (met_no_end x (token_at (terminals_of t) i) h)

  name_token : (i : ℕ) → is_name (token_at (terminals_of t) i).kind ≡ true → IsToken t i
  name_token i h = within t.texts t.tokens i (name_no_end (token_at (terminals_of t) i).kind h)

-- ---- asks

holds_no_ask : {P : Type 0} (b : Bool) (ahead : ℕ) → holds_if b ≡ Asks ahead → P
holds_no_ask true ahead h = cc
holds_no_ask false ahead h = cc

-- a name is asked where it stands
fits_asks : (x : Word) (y : Terminal) (at ahead : ℕ) → fits x y at ≡ Asks ahead → (is_name y.kind ≡ true) × (at ≡ ahead)
fits_asks w.TypedefName y at ahead h = by (is_name y.kind) h
  where
    by : (b : Bool) → asks_if b at Fails ≡ Asks ahead → (b ≡ true) × (at ≡ ahead)
    by true h = (refl, (let e : at ≡ ahead = cc in e))
    by false h = cc
fits_asks w.Specifier y at ahead h = by (is_name y.kind) h
  where
    by : (b : Bool) → asks_if b at (holds_if (is_spelled w.Specifier y)) ≡ Asks ahead → (b ≡ true) × (at ≡ ahead)
    by true h = (refl, (let e : at ≡ ahead = cc in e))
    by false h = holds_no_ask (is_spelled w.Specifier y) ahead h
fits_asks w.End y at ahead h = holds_no_ask _ ahead h
fits_asks w.NotEnd y at ahead h = holds_no_ask _ ahead h
fits_asks w.Identifier y at ahead h = holds_no_ask _ ahead h
fits_asks w.Constant y at ahead h = holds_no_ask _ ahead h
fits_asks w.StringLiteral y at ahead h = holds_no_ask _ ahead h
fits_asks x y at ahead h = holds_no_ask _ ahead h

-- each ask is of a token
abbrev pub AllAsked : Source → List Item → Type 0
AllAsked t [] = Unit {0}
AllAsked t (Passed i ∷ xs) = AllAsked t xs
AllAsked t (Due x ∷ xs) = AllAsked t xs
AllAsked t (Asked i b ∷ xs) = IsToken t i × AllAsked t xs

module _ (t : Source) (i : ℕ) where
  abbrev here : Terminal
  here = token_at (terminals_of t) i

  abbrev behind : Terminal
  behind = token_at (terminals_of t) (i + 1)

  verdict_asks : (g : Guard) (ahead : ℕ) → verdict g here behind ≡ Asks ahead → IsToken t (ask_at i ahead)
  verdict_asks Else ahead h = cc
  verdict_asks (First x) ahead h =
      let f : (is_name here.kind ≡ true) × (0 ≡ ahead) = fits_asks x here 0 ahead h in
      subst (λ k. IsToken t (ask_at i k)) f.1 (name_token t i f.0)
  verdict_asks (Both x y) ahead h = by (fits x here 0) refl h
    where
      by : (v : Verdict) → fits x here 0 ≡ v → after_first v (fits y behind 1) ≡ Asks ahead → IsToken t (ask_at i ahead)
      by Holds e h =
          let f : (is_name behind.kind ≡ true) × (1 ≡ ahead) = fits_asks y behind 1 ahead h in
          subst (λ k. IsToken t (ask_at i k)) f.1 (name_token t (i + 1) f.0)
      by Fails e h = cc
      by (Asks k) e h =
          let f : (is_name here.kind ≡ true) × (0 ≡ ahead) = fits_asks x here 0 ahead (e ∙ h) in
          subst (λ k. IsToken t (ask_at i k)) f.1 (name_token t i f.0)

  pub chosen_asks : (rs : List Row) (asks : List Item) (body : List Symbol) → Chosen rs here behind i asks body → AllAsked t asks
  chosen_asks [] asks body h = absurd h
  chosen_asks (r ∷ rs) asks body h =
      by (verdict r.0 here behind) (verdict_asks r.0) (λ more c. chosen_asks rs more body c) h
    where
      by : (v : Verdict) → ((ahead : ℕ) → v ≡ Asks ahead → IsToken t (ask_at i ahead)) → ((more : List Item) → Chosen rs here behind i more body → AllAsked t more) → ChosenBy v r (λ more. Chosen rs here behind i more body) i asks body → AllAsked t asks
      by Holds f later h = subst (AllAsked t) (sym h.0) tt
      by Fails f later h = later asks h
      by (Asks ahead) f later (inl h) = subst (AllAsked t) (sym h.0) (f ahead refl, tt)
      by (Asks ahead) f later (inr h) = subst (AllAsked t) (sym h.1) (f ahead refl, later h.0 h.2)

-- ---- the brace of a record

-- what is true of the bodies of all rows
abbrev all_bodies : (List Symbol → Bool) → List Row → Bool
all_bodies f [] = true
all_bodies f (r ∷ rs) = f r.1 && all_bodies f rs

chosen_body : (f : List Symbol → Bool) (rs : List Row) (x y : Terminal) (i : ℕ) (asks : List Item) (body : List Symbol) → all_bodies f rs ≡ true → Chosen rs x y i asks body → f body ≡ true
chosen_body f [] x y i asks body all h = absurd h
chosen_body f (r ∷ rs) x y i asks body all h =
    let p = and_both (f r.1) (all_bodies f rs) all in
    by (verdict r.0 x y) p.0 (λ more c. chosen_body f rs x y i more body p.1 c) h
  where
    by : (v : Verdict) → f r.1 ≡ true → ((more : List Item) → Chosen rs x y i more body → f body ≡ true) → ChosenBy v r (λ more. Chosen rs x y i more body) i asks body → f body ≡ true
    by Holds p later h = ap f h.1 ∙ p
    by Fails p later h = later asks h
    by (Asks ahead) p later (inl h) = ap f h.1 ∙ p
    by (Asks ahead) p later (inr h) = later h.0 h.2

-- the nodes in which a record without a tag begins
abbrev pub is_tail : NonTerm → Bool
is_tail n.RecTail = true
is_tail n.EnumTail = true
is_tail _ = false

abbrev pub is_anon : Action → Bool
is_anon a.Anon = true
is_anon _ = false

abbrev pub has_token_next : List Symbol → Bool
has_token_next (Term x ∷ ss) = true
has_token_next _ = false

-- They stand behind a token, and the brace of the record is a token; whether one was passed so far.
abbrev pub late : (was_passed : Bool) → List Symbol → Bool
late b [] = true
late b (Term x ∷ ss) = late true ss
late b (Non m ∷ ss) = (not (is_tail m) || b) && late b ss
late b (Act x ∷ ss) = (not (is_anon x) || (b && has_token_next ss)) && late b ss

rules_late : (m : NonTerm) → all_bodies (late (is_tail m)) (rule m) ≡ true
unfolding rule
rules_late n.Unit = refl
rules_late n.External = refl
rules_late n.ExtTail = refl
rules_late n.ExtNext = refl
rules_late n.Decl = refl
rules_late n.DeclTail = refl
rules_late n.More = refl
rules_late n.After = refl
rules_late n.InitOpt = refl
rules_late n.Static = refl
rules_late n.Specs0 = refl
rules_late n.SpecsB = refl
rules_late n.SpecsT = refl
rules_late n.AlignArg = refl
rules_late n.Attr = refl
rules_late n.AttrOpt = refl
rules_late n.Hidden = refl
rules_late n.Rec = refl
rules_late n.RecTail = refl
rules_late n.Members = refl
rules_late n.MemTail = refl
rules_late n.MemMore = refl
rules_late n.MemDtor = refl
rules_late n.BitOpt = refl
rules_late n.Enum = refl
rules_late n.EnumTail = refl
rules_late n.Enums = refl
rules_late n.EnumVal = refl
rules_late n.EnumMore = refl
rules_late n.Dtor = refl
rules_late n.Quals = refl
rules_late n.Sufs = refl
rules_late n.Bound = refl
rules_late n.Params = refl
rules_late n.ParMore = refl
rules_late n.Param = refl
rules_late n.PDtor = refl
rules_late n.ADtor = refl
rules_late n.TypeName = refl
rules_late n.Items = refl
rules_late n.ItemAttr = refl
rules_late n.Stmt = refl
rules_late n.Sub = refl
rules_late n.Else = refl
rules_late n.ForInit = refl
rules_late n.ExprOpt = refl
rules_late n.Expr = refl
rules_late n.ExprMore = refl
rules_late n.Assign = refl
rules_late n.AssTail = refl
rules_late n.Cond = refl
rules_late n.CondTail = refl
rules_late n.Bin1 = refl
rules_late n.Bin2 = refl
rules_late n.Bin3 = refl
rules_late n.Bin4 = refl
rules_late n.Bin5 = refl
rules_late n.Bin6 = refl
rules_late n.Bin7 = refl
rules_late n.Bin8 = refl
rules_late n.Bin9 = refl
rules_late n.Bin10 = refl
rules_late n.Tail1 = refl
rules_late n.Tail2 = refl
rules_late n.Tail3 = refl
rules_late n.Tail4 = refl
rules_late n.Tail5 = refl
rules_late n.Tail6 = refl
rules_late n.Tail7 = refl
rules_late n.Tail8 = refl
rules_late n.Tail9 = refl
rules_late n.Tail10 = refl
rules_late n.Cast = refl
rules_late n.CastTail = refl
rules_late n.Unary = refl
rules_late n.SizeTail = refl
rules_late n.SizeLit = refl
rules_late n.PostTail = refl
rules_late n.Args = refl
rules_late n.ArgMore = refl
rules_late n.Primary = refl
rules_late n.Assoc = refl
rules_late n.AssMore = refl
rules_late n.OffTail = refl
rules_late n.Init = refl
rules_late n.Braces = refl
rules_late n.BraceIn = refl
rules_late n.BraceMore = refl
rules_late n.Item = refl
rules_late n.Desigs = refl
rules_late n.DesMore = refl
rules_late n.Mod = refl

module _ (t : Source) where
  pub body_late : (m : NonTerm) (i : ℕ) (asks : List Item) (body : List Symbol) → Chosen (rule m) (token_at (terminals_of t) i) (token_at (terminals_of t) (i + 1)) i asks body → late (is_tail m) body ≡ true
  body_late m i asks body c =
      chosen_body (late (is_tail m)) (rule m) (token_at (terminals_of t) i) (token_at (terminals_of t) (i + 1)) i asks body (rules_late m) c

  -- a token that is due is one
  pub next_token : (trees : Trees) (i j : ℕ) (ss : List Symbol) → Derives (terminals_of t) trees i ss j → has_token_next ss ≡ true → IsToken t i
  next_token trees i j [] d h = cc
  next_token trees i j (Non x ∷ ss) d h = cc
  next_token trees i j (Act x ∷ ss) d h = cc
  next_token none i j (Term x ∷ ss) d h = absurd d
  next_token (token k next) i j (Term x ∷ ss) d h = met_token t x i d.1
  next_token (action x next) i j (Term y ∷ ss) d h = absurd d
  next_token (node m asks children next) i j (Term x ∷ ss) d h = absurd d
