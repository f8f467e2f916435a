-- What an identifier behind a parenthesis or `__extension__` means, where it may be a typedef name.
use Rattle.std.specs.Prelude.{◌≡◌, ℕ, ◌+◌, Bool, true, false, not, ◌&&◌, ◌||◌, Option, Some, None, unwrap_or, List, [], ◌∷◌, codes}
use Rattle.std.proofs.Common.{refl, sym, ◌∙◌, ap, subst, inl, inr}
use Rattle.cr_base.specs.declared.token.TokKind.TheVariants as k
use Rattle.cr_grammar.specs.declared.symbols.NonTerm.{NonTerm}
use Rattle.cr_grammar.specs.declared.symbols.NonTerm.TheVariants as n
use Rattle.cr_grammar.specs.declared.symbols.Term.TheVariants as w
use Rattle.cr_grammar.specs.declared.symbols.Symbol.{Symbol}
use Rattle.cr_grammar.specs.declared.symbols.Symbol.TheVariants.{Term, Non, Act}
use Rattle.cr_grammar.specs.Grammar.{Row, rule}
use Rattle.cr_grammar.specs.Spellings.{spelled}
use Rattle.cr_ll.specs.declared.guards.Verdict.{Verdict}
use Rattle.cr_ll.specs.declared.guards.Verdict.TheVariants.{Holds, Fails, Asks}
use Rattle.cr_ll.specs.Guards.{Terminal, token_at, verdict}
use Rattle.cr_ll.specs.Derivation.{Item, Trees, none, token, action, node, ChosenBy, Chosen, Derives}
use Rattle.cr_binding.specs.Source.{Source, is_identifier}
use Rattle.cr_binding.specs.State.{nothing_pending, State}
use Rattle.cr_binding.specs.Scoping.{unless_failed}
use Rattle.cr_binding.specs.Actions.{passed, acted}
use Rattle.cr_binding.specs.Binding.{ended, asked, goes_on, walk}
use Rattle.cr_binding.specs.WellFormed.{terminals_of}
use Rattle.cr_binding.specs.BindingGrows.{Grows}
use Rattle.cr_binding.proofs.Done.{none_before, unless_gives, goes_on_gives}
use Rattle.cr_binding_law.proofs.Parsing.{LooksLike, chosen_alike}
use Rattle.cr_binding_law.proofs.Balanced.{and_both, asked_present, asked_declarations}
use Rattle.cr_binding_law.proofs.Scoped.{Flat, passed_flat}
use Rattle.cr_binding_law.proofs.Leading.{name_seen, is_lead, is_decl, not_failed, failing, NoColon, Named, decl_acted, passed_declarations, below_sound, below_grows, lead_below}

-- `(` and `__extension__`, as keywords or punctuators
pub data Mark : Type 0 where
  Paren : Mark
  KeyParen : Mark
  Extension : Mark
  PunctExtension : Mark

abbrev pub seen_as : Mark → Terminal
seen_as Paren = record { kind = k.Punct; text = codes "(" }
seen_as KeyParen = record { kind = k.Keyword; text = codes "(" }
seen_as Extension = record { kind = k.Keyword; text = codes "__extension__" }
seen_as PunctExtension = record { kind = k.Punct; text = codes "__extension__" }

-- nodes that such a token can begin, with an identifier behind it that begins a type or an expression
abbrev pub is_second : NonTerm → Bool
is_second n.Items = true
is_second n.Stmt = true
is_second n.Decl = true
is_second n.Specs0 = true
is_second n.Expr = true
is_second n.Assign = true
is_second n.Cond = true
is_second n.Bin1 = true
is_second n.Bin2 = true
is_second n.Bin3 = true
is_second n.Bin4 = true
is_second n.Bin5 = true
is_second n.Bin6 = true
is_second n.Bin7 = true
is_second n.Bin8 = true
is_second n.Bin9 = true
is_second n.Bin10 = true
is_second n.Cast = true
is_second n.Unary = true
is_second n.Primary = true
is_second n.SizeTail = true
is_second _ = false

abbrev is_mod : NonTerm → Bool
is_mod n.Mod = true
is_mod _ = false

abbrev is_specs : NonTerm → Bool
is_specs n.Specs0 = true
is_specs _ = false

abbrev leads_next : List Symbol → Bool
leads_next (Non m ∷ ss) = is_lead false m
leads_next _ = false

abbrev specs_next : List Symbol → Bool
specs_next (Non m ∷ ss) = is_specs m
specs_next _ = false

abbrev pub goes_second : List Symbol → Bool
goes_second [] = false
goes_second (Term x ∷ ss) = leads_next ss
goes_second (Non m ∷ ss) = is_second m || (is_mod m && specs_next ss)
goes_second (Act x ∷ ss) = is_decl x && goes_second ss

abbrev all_second : Terminal → List Row → Bool
all_second x [] = true
all_second x (r ∷ rs) = (not (not_failed (verdict r.0 x name_seen)) || goes_second r.1) && all_second x rs

seconds_paren : (m : NonTerm) → is_second m ≡ true → all_second (seen_as Paren) (rule m) ≡ true
unfolding rule spelled
seconds_paren n.Unit h = cc
seconds_paren n.External h = cc
seconds_paren n.ExtTail h = cc
seconds_paren n.ExtNext h = cc
seconds_paren n.Decl h = refl
seconds_paren n.DeclTail h = cc
seconds_paren n.More h = cc
seconds_paren n.After h = cc
seconds_paren n.InitOpt h = cc
seconds_paren n.Static h = cc
seconds_paren n.Specs0 h = refl
seconds_paren n.SpecsB h = cc
seconds_paren n.SpecsT h = cc
seconds_paren n.AlignArg h = cc
seconds_paren n.Attr h = cc
seconds_paren n.AttrOpt h = cc
seconds_paren n.Hidden h = cc
seconds_paren n.Rec h = cc
seconds_paren n.RecTail h = cc
seconds_paren n.Members h = cc
seconds_paren n.MemTail h = cc
seconds_paren n.MemMore h = cc
seconds_paren n.MemDtor h = cc
seconds_paren n.BitOpt h = cc
seconds_paren n.Enum h = cc
seconds_paren n.EnumTail h = cc
seconds_paren n.Enums h = cc
seconds_paren n.EnumVal h = cc
seconds_paren n.EnumMore h = cc
seconds_paren n.Dtor h = cc
seconds_paren n.Quals h = cc
seconds_paren n.Sufs h = cc
seconds_paren n.Bound h = cc
seconds_paren n.Params h = cc
seconds_paren n.ParMore h = cc
seconds_paren n.Param h = cc
seconds_paren n.PDtor h = cc
seconds_paren n.ADtor h = cc
seconds_paren n.TypeName h = cc
seconds_paren n.Items h = refl
seconds_paren n.ItemAttr h = cc
seconds_paren n.Stmt h = refl
seconds_paren n.Sub h = cc
seconds_paren n.Else h = cc
seconds_paren n.ForInit h = cc
seconds_paren n.ExprOpt h = cc
seconds_paren n.Expr h = refl
seconds_paren n.ExprMore h = cc
seconds_paren n.Assign h = refl
seconds_paren n.AssTail h = cc
seconds_paren n.Cond h = refl
seconds_paren n.CondTail h = cc
seconds_paren n.Bin1 h = refl
seconds_paren n.Bin2 h = refl
seconds_paren n.Bin3 h = refl
seconds_paren n.Bin4 h = refl
seconds_paren n.Bin5 h = refl
seconds_paren n.Bin6 h = refl
seconds_paren n.Bin7 h = refl
seconds_paren n.Bin8 h = refl
seconds_paren n.Bin9 h = refl
seconds_paren n.Bin10 h = refl
seconds_paren n.Tail1 h = cc
seconds_paren n.Tail2 h = cc
seconds_paren n.Tail3 h = cc
seconds_paren n.Tail4 h = cc
seconds_paren n.Tail5 h = cc
seconds_paren n.Tail6 h = cc
seconds_paren n.Tail7 h = cc
seconds_paren n.Tail8 h = cc
seconds_paren n.Tail9 h = cc
seconds_paren n.Tail10 h = cc
seconds_paren n.Cast h = refl
seconds_paren n.CastTail h = cc
seconds_paren n.Unary h = refl
seconds_paren n.SizeTail h = refl
seconds_paren n.SizeLit h = cc
seconds_paren n.PostTail h = cc
seconds_paren n.Args h = cc
seconds_paren n.ArgMore h = cc
seconds_paren n.Primary h = refl
seconds_paren n.Assoc h = cc
seconds_paren n.AssMore h = cc
seconds_paren n.OffTail h = cc
seconds_paren n.Init h = cc
seconds_paren n.Braces h = cc
seconds_paren n.BraceIn h = cc
seconds_paren n.BraceMore h = cc
seconds_paren n.Item h = cc
seconds_paren n.Desigs h = cc
seconds_paren n.DesMore h = cc
seconds_paren n.Mod h = cc

seconds_key_paren : (m : NonTerm) → is_second m ≡ true → all_second (seen_as KeyParen) (rule m) ≡ true
unfolding rule spelled
seconds_key_paren n.Unit h = cc
seconds_key_paren n.External h = cc
seconds_key_paren n.ExtTail h = cc
seconds_key_paren n.ExtNext h = cc
seconds_key_paren n.Decl h = refl
seconds_key_paren n.DeclTail h = cc
seconds_key_paren n.More h = cc
seconds_key_paren n.After h = cc
seconds_key_paren n.InitOpt h = cc
seconds_key_paren n.Static h = cc
seconds_key_paren n.Specs0 h = refl
seconds_key_paren n.SpecsB h = cc
seconds_key_paren n.SpecsT h = cc
seconds_key_paren n.AlignArg h = cc
seconds_key_paren n.Attr h = cc
seconds_key_paren n.AttrOpt h = cc
seconds_key_paren n.Hidden h = cc
seconds_key_paren n.Rec h = cc
seconds_key_paren n.RecTail h = cc
seconds_key_paren n.Members h = cc
seconds_key_paren n.MemTail h = cc
seconds_key_paren n.MemMore h = cc
seconds_key_paren n.MemDtor h = cc
seconds_key_paren n.BitOpt h = cc
seconds_key_paren n.Enum h = cc
seconds_key_paren n.EnumTail h = cc
seconds_key_paren n.Enums h = cc
seconds_key_paren n.EnumVal h = cc
seconds_key_paren n.EnumMore h = cc
seconds_key_paren n.Dtor h = cc
seconds_key_paren n.Quals h = cc
seconds_key_paren n.Sufs h = cc
seconds_key_paren n.Bound h = cc
seconds_key_paren n.Params h = cc
seconds_key_paren n.ParMore h = cc
seconds_key_paren n.Param h = cc
seconds_key_paren n.PDtor h = cc
seconds_key_paren n.ADtor h = cc
seconds_key_paren n.TypeName h = cc
seconds_key_paren n.Items h = refl
seconds_key_paren n.ItemAttr h = cc
seconds_key_paren n.Stmt h = refl
seconds_key_paren n.Sub h = cc
seconds_key_paren n.Else h = cc
seconds_key_paren n.ForInit h = cc
seconds_key_paren n.ExprOpt h = cc
seconds_key_paren n.Expr h = refl
seconds_key_paren n.ExprMore h = cc
seconds_key_paren n.Assign h = refl
seconds_key_paren n.AssTail h = cc
seconds_key_paren n.Cond h = refl
seconds_key_paren n.CondTail h = cc
seconds_key_paren n.Bin1 h = refl
seconds_key_paren n.Bin2 h = refl
seconds_key_paren n.Bin3 h = refl
seconds_key_paren n.Bin4 h = refl
seconds_key_paren n.Bin5 h = refl
seconds_key_paren n.Bin6 h = refl
seconds_key_paren n.Bin7 h = refl
seconds_key_paren n.Bin8 h = refl
seconds_key_paren n.Bin9 h = refl
seconds_key_paren n.Bin10 h = refl
seconds_key_paren n.Tail1 h = cc
seconds_key_paren n.Tail2 h = cc
seconds_key_paren n.Tail3 h = cc
seconds_key_paren n.Tail4 h = cc
seconds_key_paren n.Tail5 h = cc
seconds_key_paren n.Tail6 h = cc
seconds_key_paren n.Tail7 h = cc
seconds_key_paren n.Tail8 h = cc
seconds_key_paren n.Tail9 h = cc
seconds_key_paren n.Tail10 h = cc
seconds_key_paren n.Cast h = refl
seconds_key_paren n.CastTail h = cc
seconds_key_paren n.Unary h = refl
seconds_key_paren n.SizeTail h = refl
seconds_key_paren n.SizeLit h = cc
seconds_key_paren n.PostTail h = cc
seconds_key_paren n.Args h = cc
seconds_key_paren n.ArgMore h = cc
seconds_key_paren n.Primary h = refl
seconds_key_paren n.Assoc h = cc
seconds_key_paren n.AssMore h = cc
seconds_key_paren n.OffTail h = cc
seconds_key_paren n.Init h = cc
seconds_key_paren n.Braces h = cc
seconds_key_paren n.BraceIn h = cc
seconds_key_paren n.BraceMore h = cc
seconds_key_paren n.Item h = cc
seconds_key_paren n.Desigs h = cc
seconds_key_paren n.DesMore h = cc
seconds_key_paren n.Mod h = cc

seconds_extension : (m : NonTerm) → is_second m ≡ true → all_second (seen_as Extension) (rule m) ≡ true
unfolding rule spelled
seconds_extension n.Unit h = cc
seconds_extension n.External h = cc
seconds_extension n.ExtTail h = cc
seconds_extension n.ExtNext h = cc
seconds_extension n.Decl h = refl
seconds_extension n.DeclTail h = cc
seconds_extension n.More h = cc
seconds_extension n.After h = cc
seconds_extension n.InitOpt h = cc
seconds_extension n.Static h = cc
seconds_extension n.Specs0 h = refl
seconds_extension n.SpecsB h = cc
seconds_extension n.SpecsT h = cc
seconds_extension n.AlignArg h = cc
seconds_extension n.Attr h = cc
seconds_extension n.AttrOpt h = cc
seconds_extension n.Hidden h = cc
seconds_extension n.Rec h = cc
seconds_extension n.RecTail h = cc
seconds_extension n.Members h = cc
seconds_extension n.MemTail h = cc
seconds_extension n.MemMore h = cc
seconds_extension n.MemDtor h = cc
seconds_extension n.BitOpt h = cc
seconds_extension n.Enum h = cc
seconds_extension n.EnumTail h = cc
seconds_extension n.Enums h = cc
seconds_extension n.EnumVal h = cc
seconds_extension n.EnumMore h = cc
seconds_extension n.Dtor h = cc
seconds_extension n.Quals h = cc
seconds_extension n.Sufs h = cc
seconds_extension n.Bound h = cc
seconds_extension n.Params h = cc
seconds_extension n.ParMore h = cc
seconds_extension n.Param h = cc
seconds_extension n.PDtor h = cc
seconds_extension n.ADtor h = cc
seconds_extension n.TypeName h = cc
seconds_extension n.Items h = refl
seconds_extension n.ItemAttr h = cc
seconds_extension n.Stmt h = refl
seconds_extension n.Sub h = cc
seconds_extension n.Else h = cc
seconds_extension n.ForInit h = cc
seconds_extension n.ExprOpt h = cc
seconds_extension n.Expr h = refl
seconds_extension n.ExprMore h = cc
seconds_extension n.Assign h = refl
seconds_extension n.AssTail h = cc
seconds_extension n.Cond h = refl
seconds_extension n.CondTail h = cc
seconds_extension n.Bin1 h = refl
seconds_extension n.Bin2 h = refl
seconds_extension n.Bin3 h = refl
seconds_extension n.Bin4 h = refl
seconds_extension n.Bin5 h = refl
seconds_extension n.Bin6 h = refl
seconds_extension n.Bin7 h = refl
seconds_extension n.Bin8 h = refl
seconds_extension n.Bin9 h = refl
seconds_extension n.Bin10 h = refl
seconds_extension n.Tail1 h = cc
seconds_extension n.Tail2 h = cc
seconds_extension n.Tail3 h = cc
seconds_extension n.Tail4 h = cc
seconds_extension n.Tail5 h = cc
seconds_extension n.Tail6 h = cc
seconds_extension n.Tail7 h = cc
seconds_extension n.Tail8 h = cc
seconds_extension n.Tail9 h = cc
seconds_extension n.Tail10 h = cc
seconds_extension n.Cast h = refl
seconds_extension n.CastTail h = cc
seconds_extension n.Unary h = refl
seconds_extension n.SizeTail h = refl
seconds_extension n.SizeLit h = cc
seconds_extension n.PostTail h = cc
seconds_extension n.Args h = cc
seconds_extension n.ArgMore h = cc
seconds_extension n.Primary h = refl
seconds_extension n.Assoc h = cc
seconds_extension n.AssMore h = cc
seconds_extension n.OffTail h = cc
seconds_extension n.Init h = cc
seconds_extension n.Braces h = cc
seconds_extension n.BraceIn h = cc
seconds_extension n.BraceMore h = cc
seconds_extension n.Item h = cc
seconds_extension n.Desigs h = cc
seconds_extension n.DesMore h = cc
seconds_extension n.Mod h = cc

seconds_punct_extension : (m : NonTerm) → is_second m ≡ true → all_second (seen_as PunctExtension) (rule m) ≡ true
unfolding rule spelled
seconds_punct_extension n.Unit h = cc
seconds_punct_extension n.External h = cc
seconds_punct_extension n.ExtTail h = cc
seconds_punct_extension n.ExtNext h = cc
seconds_punct_extension n.Decl h = refl
seconds_punct_extension n.DeclTail h = cc
seconds_punct_extension n.More h = cc
seconds_punct_extension n.After h = cc
seconds_punct_extension n.InitOpt h = cc
seconds_punct_extension n.Static h = cc
seconds_punct_extension n.Specs0 h = refl
seconds_punct_extension n.SpecsB h = cc
seconds_punct_extension n.SpecsT h = cc
seconds_punct_extension n.AlignArg h = cc
seconds_punct_extension n.Attr h = cc
seconds_punct_extension n.AttrOpt h = cc
seconds_punct_extension n.Hidden h = cc
seconds_punct_extension n.Rec h = cc
seconds_punct_extension n.RecTail h = cc
seconds_punct_extension n.Members h = cc
seconds_punct_extension n.MemTail h = cc
seconds_punct_extension n.MemMore h = cc
seconds_punct_extension n.MemDtor h = cc
seconds_punct_extension n.BitOpt h = cc
seconds_punct_extension n.Enum h = cc
seconds_punct_extension n.EnumTail h = cc
seconds_punct_extension n.Enums h = cc
seconds_punct_extension n.EnumVal h = cc
seconds_punct_extension n.EnumMore h = cc
seconds_punct_extension n.Dtor h = cc
seconds_punct_extension n.Quals h = cc
seconds_punct_extension n.Sufs h = cc
seconds_punct_extension n.Bound h = cc
seconds_punct_extension n.Params h = cc
seconds_punct_extension n.ParMore h = cc
seconds_punct_extension n.Param h = cc
seconds_punct_extension n.PDtor h = cc
seconds_punct_extension n.ADtor h = cc
seconds_punct_extension n.TypeName h = cc
seconds_punct_extension n.Items h = refl
seconds_punct_extension n.ItemAttr h = cc
seconds_punct_extension n.Stmt h = refl
seconds_punct_extension n.Sub h = cc
seconds_punct_extension n.Else h = cc
seconds_punct_extension n.ForInit h = cc
seconds_punct_extension n.ExprOpt h = cc
seconds_punct_extension n.Expr h = refl
seconds_punct_extension n.ExprMore h = cc
seconds_punct_extension n.Assign h = refl
seconds_punct_extension n.AssTail h = cc
seconds_punct_extension n.Cond h = refl
seconds_punct_extension n.CondTail h = cc
seconds_punct_extension n.Bin1 h = refl
seconds_punct_extension n.Bin2 h = refl
seconds_punct_extension n.Bin3 h = refl
seconds_punct_extension n.Bin4 h = refl
seconds_punct_extension n.Bin5 h = refl
seconds_punct_extension n.Bin6 h = refl
seconds_punct_extension n.Bin7 h = refl
seconds_punct_extension n.Bin8 h = refl
seconds_punct_extension n.Bin9 h = refl
seconds_punct_extension n.Bin10 h = refl
seconds_punct_extension n.Tail1 h = cc
seconds_punct_extension n.Tail2 h = cc
seconds_punct_extension n.Tail3 h = cc
seconds_punct_extension n.Tail4 h = cc
seconds_punct_extension n.Tail5 h = cc
seconds_punct_extension n.Tail6 h = cc
seconds_punct_extension n.Tail7 h = cc
seconds_punct_extension n.Tail8 h = cc
seconds_punct_extension n.Tail9 h = cc
seconds_punct_extension n.Tail10 h = cc
seconds_punct_extension n.Cast h = refl
seconds_punct_extension n.CastTail h = cc
seconds_punct_extension n.Unary h = refl
seconds_punct_extension n.SizeTail h = refl
seconds_punct_extension n.SizeLit h = cc
seconds_punct_extension n.PostTail h = cc
seconds_punct_extension n.Args h = cc
seconds_punct_extension n.ArgMore h = cc
seconds_punct_extension n.Primary h = refl
seconds_punct_extension n.Assoc h = cc
seconds_punct_extension n.AssMore h = cc
seconds_punct_extension n.OffTail h = cc
seconds_punct_extension n.Init h = cc
seconds_punct_extension n.Braces h = cc
seconds_punct_extension n.BraceIn h = cc
seconds_punct_extension n.BraceMore h = cc
seconds_punct_extension n.Item h = cc
seconds_punct_extension n.Desigs h = cc
seconds_punct_extension n.DesMore h = cc
seconds_punct_extension n.Mod h = cc

pub seconds : (x : Mark) (m : NonTerm) → is_second m ≡ true → all_second (seen_as x) (rule m) ≡ true
seconds Paren = seconds_paren
seconds KeyParen = seconds_key_paren
seconds Extension = seconds_extension
seconds PunctExtension = seconds_punct_extension

pub chosen_second : (x : Terminal) (rs : List Row) (i : ℕ) (asks : List Item) (body : List Symbol) → all_second x rs ≡ true → Chosen rs x name_seen i asks body → goes_second body ≡ true
chosen_second x [] i asks body all h = absurd h
chosen_second x (r ∷ rs) i asks body all h =
    let p = and_both (not (not_failed (verdict r.0 x name_seen)) || goes_second r.1) (all_second x rs) all in
    by (not_failed (verdict r.0 x name_seen)) refl p.0 (λ more c. chosen_second x rs i more body p.1 c)
  where
    own : (v : Verdict) → goes_second r.1 ≡ true → ((more : List Item) → Chosen rs x name_seen i more body → goes_second body ≡ true) → ChosenBy v r (λ more. Chosen rs x name_seen i more body) i asks body → goes_second body ≡ true
    own Holds s later h = ap goes_second h.1 ∙ s
    own Fails s later h = later asks h
    own (Asks n) s later (inl h) = ap goes_second h.1 ∙ s
    own (Asks n) s later (inr h) = later h.0 h.2

    by : (c : Bool) → not_failed (verdict r.0 x name_seen) ≡ c → (not c || goes_second r.1) ≡ true → ((more : List Item) → Chosen rs x name_seen i more body → goes_second body ≡ true) → goes_second body ≡ true
    by true e s later = own (verdict r.0 x name_seen) s later h
    by false e s later =
        later asks (subst (λ v. ChosenBy v r (λ more. Chosen rs x name_seen i more body) i asks body) (failing (verdict r.0 x name_seen) e) h)

mod_body : (x : Mark) (i : ℕ) (asks : List Item) (body : List Symbol) → Chosen (rule n.Mod) (seen_as x) name_seen i asks body → body ≡ Term w.PlainModifier ∷ []
unfolding rule spelled
mod_body Paren i asks body h = h.1
mod_body KeyParen i asks body h = h.1
mod_body Extension i asks body h = h.1
mod_body PunctExtension i asks body h = h.1

-- ---- the walk

module _ (t : Source) (end : State) where
  abbrev tok : ℕ → Terminal
  tok i = token_at (terminals_of t) i

  -- a mark at a place, and an identifier behind it
  pub record IsMarked (i : ℕ) : Type 0 where
    pub mark : Mark
    pub own : LooksLike (tok i) (seen_as mark)
    pub sort : is_identifier t (i + 1) ≡ true
    pub next : LooksLike name_seen (tok (i + 1))
    pub next_seen : LooksLike (tok (i + 1)) name_seen

  pub at_mark : (i : ℕ) (h : IsMarked i) (rs : List Row) (asks : List Item) (body : List Symbol) → Chosen rs (tok i) (tok (i + 1)) i asks body → Chosen rs (seen_as h.mark) name_seen i asks body
  at_mark i h rs asks body c = chosen_alike rs (tok i) (tok (i + 1)) (seen_as h.mark) name_seen i asks body h.own h.next_seen c

  free_colon : (y : Terminal) → NoColon false y
  free_colon y h = cc

  -- behind a token that was passed
  pub token_then : (m : NonTerm) (i : ℕ) (s : State) (p : ℕ) → (goes_on s (passed t m i s)).fault ≡ None → Named t end (goes_on s (passed t m i s)).present (goes_on s (passed t m i s)).declarations p → Named t end s.present s.declarations p
  token_then m i s p clear r =
      let v = goes_on_gives s (passed t m i s) clear in
      let f : Flat s (passed t m i s) = passed_flat t m i s in
      subst (λ q. Named t end q s.declarations p) (ap (λ (z : State). z.present) v.1 ∙ f.present)
      (subst (λ ds. Named t end (goes_on s (passed t m i s)).present ds p) (ap (λ (z : State). z.declarations) v.1 ∙ passed_declarations t m i s) r)

  pub node_next : (next : Trees) (m : NonTerm) (first : Option ℕ) (i : ℕ) (ss : List Symbol) (j : ℕ) (s : State) → Derives (terminals_of t) next i ss j → leads_next ss ≡ true → is_identifier t i ≡ true → LooksLike name_seen (tok i) → (walk t m first next s).fault ≡ None → Grows (walk t m first next s) end → Named t end s.present s.declarations i
  node_next none m first i [] j s d h e l sound g = cc
  node_next none m first i (x ∷ ss) j s d h e l sound g = absurd d
  node_next (token q next) m first i [] j s d h e l sound g = absurd d
  node_next (token q next) m first i (Term x ∷ ss) j s d h e l sound g = cc
  node_next (token q next) m first i (Non x ∷ ss) j s d h e l sound g = absurd d
  node_next (token q next) m first i (Act x ∷ ss) j s d h e l sound g = absurd d
  node_next (action q next) m first i [] j s d h e l sound g = absurd d
  node_next (action q next) m first i (Term x ∷ ss) j s d h e l sound g = absurd d
  node_next (action q next) m first i (Non x ∷ ss) j s d h e l sound g = absurd d
  node_next (action q next) m first i (Act x ∷ ss) j s d h e l sound g = cc
  node_next (node q asks children next) m first i [] j s d h e l sound g = absurd d
  node_next (node q asks children next) m first i (Term x ∷ ss) j s d h e l sound g = absurd d
  node_next (node q asks children next) m first i (Act x ∷ ss) j s d h e l sound g = absurd d
  node_next (node q asks children next) m first i (Non x ∷ ss) j s d h e l sound g =
      lead_below t end q x asks children i d.1 d.2 false s h d.3 d.4 e l (free_colon (tok (i + 1))) (below_sound t end m first q asks children next s sound) (below_grows t end m first q asks children next s sound g)

  -- a modifier that is one token
  mod_once : (children : Trees) (i : ℕ) (j : ℕ) (q : NonTerm) (s : State) → Derives (terminals_of t) children i (Term w.PlainModifier ∷ []) j → (walk t q None children s).fault ≡ None → (j ≡ i + 1) × ((walk t q None children s).present ≡ s.present) × ((walk t q None children s).declarations ≡ s.declarations)
  mod_once (token p none) i j q s d sound =
      let v = goes_on_gives s (passed t q p s) sound in
      let f : Flat s (passed t q p s) = passed_flat t q p s in
      (sym d.2, ap (λ (z : State). z.present) v.1 ∙ f.present, ap (λ (z : State). z.declarations) v.1 ∙ passed_declarations t q p s)
  mod_once (token p (token r next)) i j q s d sound = absurd d.2
  mod_once (token p (action r next)) i j q s d sound = absurd d.2
  mod_once (token p (node r asks children next)) i j q s d sound = absurd d.2
  mod_once none i j q s d sound = absurd d
  mod_once (action p next) i j q s d sound = absurd d
  mod_once (node p asks children next) i j q s d sound = absurd d

  mods_only : (m : NonTerm) → is_mod m ≡ true → m ≡ n.Mod
  mods_only n.Mod h = refl
  mods_only _ h = cc

  specs_lead : (ss : List Symbol) → specs_next ss ≡ true → leads_next ss ≡ true
  specs_lead [] h = cc
  specs_lead (Term x ∷ ss) h = cc
  specs_lead (Act x ∷ ss) h = cc
  specs_lead (Non m ∷ ss) h = by m h
    where
      by : (m : NonTerm) → is_specs m ≡ true → is_lead false m ≡ true
      by n.Specs0 h = refl
      by _ h = cc

  pub second : (trees : Trees) (m : NonTerm) (first : Option ℕ) (i : ℕ) (ss : List Symbol) (j : ℕ) (s : State) → Derives (terminals_of t) trees i ss j → goes_second ss ≡ true → IsMarked i → (walk t m first trees s).fault ≡ None → Grows (walk t m first trees s) end → Named t end s.present s.declarations (i + 1)
  second none m first i [] j s d h k sound g = cc
  second none m first i (x ∷ ss) j s d h k sound g = absurd d
  second (token q next) m first i [] j s d h k sound g = absurd d
  second (token q next) m first i (Non x ∷ ss) j s d h k sound g = absurd d
  second (token q next) m first i (Act x ∷ ss) j s d h k sound g = absurd d
  second (token q next) m first i (Term x ∷ ss) j s d h k sound g =
      let y = goes_on s (passed t m q s) in
      token_then m q s (i + 1) (none_before t m (Some (unwrap_or first q)) next y sound)
      (node_next next m (Some (unwrap_or first q)) (i + 1) ss j y d.2 h k.sort k.next sound g)
  second (action x next) m first i [] j s d h k sound g = absurd d
  second (action x next) m first i (Term y ∷ ss) j s d h k sound g = absurd d
  second (action x next) m first i (Non y ∷ ss) j s d h k sound g = absurd d
  second (action x next) m first i (Act y ∷ ss) j s d h k sound g =
      let p : (is_decl y ≡ true) × (goes_second ss ≡ true) = and_both (is_decl y) (goes_second ss) h in
      let v = acted t m (unwrap_or first s.last) x s in
      let clear : (goes_on s v).fault ≡ None = none_before t m first next (goes_on s v) sound in
      let u : goes_on s v ≡ record s { pending = nothing_pending } = (goes_on_gives s v clear).1 ∙ decl_acted t end m (unwrap_or first s.last) x s (ap is_decl d.0 ∙ p.0) in
      let r : Named t end (goes_on s v).present (goes_on s v).declarations (i + 1) = second next m first i ss j (goes_on s v) d.1 p.1 k sound g in
      subst (λ (z : State). Named t end z.present z.declarations (i + 1)) u r
  second (node q asks children next) m first i [] j s d h k sound g = absurd d
  second (node q asks children next) m first i (Term x ∷ ss) j s d h k sound g = absurd d
  second (node q asks children next) m first i (Act x ∷ ss) j s d h k sound g = absurd d
  second (node q asks children next) m first i (Non x ∷ ss) j s d h k sound g =
      by (is_second x) refl (is_mod x && specs_next ss) refl h
      (λ c. second children q None i d.1 d.2 (asked asks s) d.4 c k (below_sound t end m first q asks children next s sound) (below_grows t end m first q asks children next s sound g))
    where
      outward : (p : ℕ) → Named t end (asked asks s).present (asked asks s).declarations p → Named t end s.present s.declarations p
      outward p r =
          subst (λ l. Named t end l s.declarations p) (asked_present asks s) (subst (λ ds. Named t end (asked asks s).present ds p) (asked_declarations asks s) r)

      at_mod : is_mod x ≡ true → specs_next ss ≡ true → Named t end s.present s.declarations (i + 1)
      at_mod is_x specs =
          let below = walk t q None children (asked asks s) in
          let y = ended m q children s below in
          let x_mod : x ≡ n.Mod = mods_only x is_x in
          let q_mod : q ≡ n.Mod = d.0 ∙ x_mod in
          let clear : (unless_failed s y).fault ≡ None = none_before t m first next (unless_failed s y) sound in
          let e : unless_failed s y ≡ y = (unless_gives s y clear).1 in
          let c : Chosen (rule n.Mod) (tok i) (tok (i + 1)) i asks d.1 = subst (λ z. Chosen (rule z) (tok i) (tok (i + 1)) i asks d.1) x_mod d.3 in
          let b : d.1 ≡ Term w.PlainModifier ∷ [] = mod_body k.mark i asks d.1 (at_mark i k (rule n.Mod) asks d.1 c) in
          let o = mod_once children i d.2 q (asked asks s) (subst (λ z. Derives (terminals_of t) children i z d.2) b d.4) (below_sound t end m first q asks children next s sound) in
          let present : (unless_failed s y).present ≡ s.present = ap (λ (z : State). z.present) e ∙ ended_mod.0 below q_mod ∙ o.1 ∙ asked_present asks s in
          let declarations : (unless_failed s y).declarations ≡ s.declarations = ap (λ (z : State). z.declarations) e ∙ ended_mod.1 below q_mod ∙ o.2 ∙ asked_declarations asks s in
          let r : Named t end (unless_failed s y).present (unless_failed s y).declarations (i + 1) = node_next next m first (i + 1) ss j (unless_failed s y) (subst (λ z. Derives (terminals_of t) next z ss j) o.0 d.5) (specs_lead ss specs) k.sort k.next sound g in
          subst (λ l. Named t end l s.declarations (i + 1)) present (subst (λ ds. Named t end (unless_failed s y).present ds (i + 1)) declarations r)
        where
          ended_mod : ((z : State) → q ≡ n.Mod → (ended m q children s z).present ≡ z.present) × ((z : State) → q ≡ n.Mod → (ended m q children s z).declarations ≡ z.declarations)
          ended_mod = (λ z e. ap (λ r. (ended m r children s z).present) e, λ z e. ap (λ r. (ended m r children s z).declarations) e)

      by : (a : Bool) → is_second x ≡ a → (c : Bool) → (is_mod x && specs_next ss) ≡ c → (a || c) ≡ true → (goes_second d.1 ≡ true → Named t end (asked asks s).present (asked asks s).declarations (i + 1)) → Named t end s.present s.declarations (i + 1)
      by true f c e h each =
          outward (i + 1) (each (chosen_second (seen_as k.mark) (rule x) i asks d.1 (seconds k.mark x f) (at_mark i k (rule x) asks d.1 d.3)))
      by false f true e h each = let p = and_both (is_mod x) (specs_next ss) e in at_mod p.0 p.1
      by false f false e h each = cc
