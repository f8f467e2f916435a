-- What an identifier that begins a node means, where it may be a typedef name: it is looked up, or supplied by the compiler.
use Rattle.std.specs.Prelude.{◌≡◌, ◌⊎◌, ℕ, ◌+◌, Bool, true, false, cond, not, ◌&&◌, ◌||◌, Option, Some, None, if◌then◌else◌, List, [], ◌∷◌, length, Contains}
use Rattle.std.proofs.Common.{refl, sym, ◌∙◌, ap, subst, inl, inr}
use Rattle.cr_base.specs.declared.cause.IllCause.TheVariants as cause
use Rattle.cr_base.specs.declared.token.TokKind.TheVariants as k
use Rattle.cr_grammar.specs.declared.symbols.NonTerm.{NonTerm}
use Rattle.cr_grammar.specs.declared.symbols.NonTerm.TheVariants as n
use Rattle.cr_grammar.specs.declared.symbols.Action.{Action}
use Rattle.cr_grammar.specs.declared.symbols.Action.TheVariants as a
use Rattle.cr_grammar.specs.declared.symbols.Term.{Term as Word}
use Rattle.cr_grammar.specs.declared.symbols.Term.TheVariants as w
use Rattle.cr_grammar.specs.declared.symbols.Guard.{Guard}
use Rattle.cr_grammar.specs.declared.symbols.Guard.TheVariants.{Else, First, Both}
use Rattle.cr_grammar.specs.declared.symbols.Symbol.{Symbol}
use Rattle.cr_grammar.specs.declared.symbols.Symbol.TheVariants.{Term, Non, Act}
use Rattle.cr_grammar.specs.Grammar.{Row, rule}
use Rattle.cr_ll.specs.declared.guards.Verdict.{Verdict}
use Rattle.cr_ll.specs.declared.guards.Verdict.TheVariants.{Holds, Fails, Asks}
use Rattle.cr_ll.specs.Guards.{Terminal, token_at, is_name, fits, after_first, verdict}
use Rattle.cr_ll.specs.Derivation.{Item, Trees, none, token, action, node, ChosenBy, Chosen, Derives}
use Rattle.cr_scope.specs.declared.Space.TheVariants as space
use Rattle.cr_decl.specs.declared.SpecWord.{SpecWord}
use Rattle.cr_decl.specs.declared.SpecWord.TheVariants as word
use Rattle.cr_decl.specs.Specifiers.{may_follow, with_word}
use Rattle.cr_binding.specs.Source.{Source, text_at, is_identifier, is_built_in}
use Rattle.cr_binding.specs.State.{nothing_pending, Declaration, LookedUp, IsBuiltIn, State}
use Rattle.cr_binding.specs.Entities.{meaning}
use Rattle.cr_binding.specs.Declaring.{failed, declaration_at, meaning_here, looked_up}
use Rattle.cr_binding.specs.Specifying.{specified, announced, last_basic_after, named_type, typedef_name, specified_by, specifier_at, type_specifier}
use Rattle.cr_binding.specs.Expressions.{push, is_value, is_function_name, built_in, denoting, identifier}
use Rattle.cr_binding.specs.Scoping.{unless_failed}
use Rattle.cr_binding.specs.Actions.{passed, acted}
use Rattle.cr_binding.specs.Binding.{ended, asked, goes_on, walk}
use Rattle.cr_binding.specs.WellFormed.{terminals_of}
use Rattle.cr_binding.specs.BindingGrows.{Grows}
use Rattle.cr_binding.proofs.Done.{none_before, unless_gives, goes_on_gives, ended_as_fault}
use Rattle.cr_binding.proofs.Growing.{followed, binding_grows, ended_grows}
use Rattle.cr_binding_law.proofs.Growth.{last_there}
use Rattle.cr_binding_law.proofs.Parsing.{LooksLike, fits_alike}
use Rattle.cr_binding_law.proofs.Balanced.{and_both, asked_present, asked_declarations}
use Rattle.cr_binding_law.proofs.Scoped.{Flat, passed_flat}

-- an identifier, as the grammar sees it
abbrev pub name_seen : Terminal
name_seen = record { kind = k.Ident; text = [] }

abbrev pub not_failed : Verdict → Bool
not_failed Fails = false
not_failed _ = true

-- `id :`
abbrev is_label_guard : Guard → Bool
is_label_guard (Both w.Identifier w.Colon) = true
is_label_guard _ = false

-- whether a guard can hold of an identifier; no_label: it isn't one before a colon
abbrev may : (no_label : Bool) → Guard → Bool
may b Else = true
may b (First x) = not_failed (fits x name_seen 0)
may b (Both x y) = not_failed (fits x name_seen 0) && not (b && is_label_guard (Both x y))

-- nodes that begin with a type or an expression
abbrev pub is_lead : (no_label : Bool) → NonTerm → Bool
is_lead b n.Specs0 = true
is_lead b n.TypeName = true
is_lead b n.Decl = true
is_lead b n.Param = true
is_lead b n.Params = true
is_lead b n.AlignArg = true
is_lead b n.ForInit = true
is_lead b n.ExprOpt = true
is_lead b n.Expr = true
is_lead b n.Assign = true
is_lead b n.Cond = true
is_lead b n.Bin1 = true
is_lead b n.Bin2 = true
is_lead b n.Bin3 = true
is_lead b n.Bin4 = true
is_lead b n.Bin5 = true
is_lead b n.Bin6 = true
is_lead b n.Bin7 = true
is_lead b n.Bin8 = true
is_lead b n.Bin9 = true
is_lead b n.Bin10 = true
is_lead b n.Cast = true
is_lead b n.Unary = true
is_lead b n.Primary = true
is_lead b n.SizeTail = true
is_lead b n.Stmt = b
is_lead b n.Items = b
is_lead b _ = false

abbrev pub is_decl : Action → Bool
is_decl a.Decl = true
is_decl _ = false

abbrev is_naming : Action → Bool
is_naming a.Spec = true
is_naming a.Mention = true
is_naming a.Callee = true
is_naming _ = false

abbrev is_id : Word → Bool
is_id w.Identifier = true
is_id _ = false

abbrev names_next : List Symbol → Bool
names_next (Act x ∷ ss) = is_naming x
names_next _ = false

abbrev starts : (no_label : Bool) → List Symbol → Bool
starts b [] = false
starts b (Non m ∷ ss) = is_lead b m
starts b (Act x ∷ ss) = is_decl x && starts b ss
starts b (Term x ∷ ss) = is_id x && names_next ss

abbrev all_start : (no_label : Bool) → List Row → Bool
all_start b [] = true
all_start b (r ∷ rs) = (not (may b r.0) || starts b r.1) && all_start b rs

leads : (b : Bool) (m : NonTerm) → is_lead b m ≡ true → all_start b (rule m) ≡ true
unfolding rule
leads true n.Unit h = cc
leads true n.External h = cc
leads true n.ExtTail h = cc
leads true n.ExtNext h = cc
leads true n.Decl h = refl
leads true n.DeclTail h = cc
leads true n.More h = cc
leads true n.After h = cc
leads true n.InitOpt h = cc
leads true n.Static h = cc
leads true n.Specs0 h = refl
leads true n.SpecsB h = cc
leads true n.SpecsT h = cc
leads true n.AlignArg h = refl
leads true n.Attr h = cc
leads true n.AttrOpt h = cc
leads true n.Hidden h = cc
leads true n.Rec h = cc
leads true n.RecTail h = cc
leads true n.Members h = cc
leads true n.MemTail h = cc
leads true n.MemMore h = cc
leads true n.MemDtor h = cc
leads true n.BitOpt h = cc
leads true n.Enum h = cc
leads true n.EnumTail h = cc
leads true n.Enums h = cc
leads true n.EnumVal h = cc
leads true n.EnumMore h = cc
leads true n.Dtor h = cc
leads true n.Quals h = cc
leads true n.Sufs h = cc
leads true n.Bound h = cc
leads true n.Params h = refl
leads true n.ParMore h = cc
leads true n.Param h = refl
leads true n.PDtor h = cc
leads true n.ADtor h = cc
leads true n.TypeName h = refl
leads true n.Items h = refl
leads true n.ItemAttr h = cc
leads true n.Stmt h = refl
leads true n.Sub h = cc
leads true n.Else h = cc
leads true n.ForInit h = refl
leads true n.ExprOpt h = refl
leads true n.Expr h = refl
leads true n.ExprMore h = cc
leads true n.Assign h = refl
leads true n.AssTail h = cc
leads true n.Cond h = refl
leads true n.CondTail h = cc
leads true n.Bin1 h = refl
leads true n.Bin2 h = refl
leads true n.Bin3 h = refl
leads true n.Bin4 h = refl
leads true n.Bin5 h = refl
leads true n.Bin6 h = refl
leads true n.Bin7 h = refl
leads true n.Bin8 h = refl
leads true n.Bin9 h = refl
leads true n.Bin10 h = refl
leads true n.Tail1 h = cc
leads true n.Tail2 h = cc
leads true n.Tail3 h = cc
leads true n.Tail4 h = cc
leads true n.Tail5 h = cc
leads true n.Tail6 h = cc
leads true n.Tail7 h = cc
leads true n.Tail8 h = cc
leads true n.Tail9 h = cc
leads true n.Tail10 h = cc
leads true n.Cast h = refl
leads true n.CastTail h = cc
leads true n.Unary h = refl
leads true n.SizeTail h = refl
leads true n.SizeLit h = cc
leads true n.PostTail h = cc
leads true n.Args h = cc
leads true n.ArgMore h = cc
leads true n.Primary h = refl
leads true n.Assoc h = cc
leads true n.AssMore h = cc
leads true n.OffTail h = cc
leads true n.Init h = cc
leads true n.Braces h = cc
leads true n.BraceIn h = cc
leads true n.BraceMore h = cc
leads true n.Item h = cc
leads true n.Desigs h = cc
leads true n.DesMore h = cc
leads true n.Mod h = cc
leads false n.Unit h = cc
leads false n.External h = cc
leads false n.ExtTail h = cc
leads false n.ExtNext h = cc
leads false n.Decl h = refl
leads false n.DeclTail h = cc
leads false n.More h = cc
leads false n.After h = cc
leads false n.InitOpt h = cc
leads false n.Static h = cc
leads false n.Specs0 h = refl
leads false n.SpecsB h = cc
leads false n.SpecsT h = cc
leads false n.AlignArg h = refl
leads false n.Attr h = cc
leads false n.AttrOpt h = cc
leads false n.Hidden h = cc
leads false n.Rec h = cc
leads false n.RecTail h = cc
leads false n.Members h = cc
leads false n.MemTail h = cc
leads false n.MemMore h = cc
leads false n.MemDtor h = cc
leads false n.BitOpt h = cc
leads false n.Enum h = cc
leads false n.EnumTail h = cc
leads false n.Enums h = cc
leads false n.EnumVal h = cc
leads false n.EnumMore h = cc
leads false n.Dtor h = cc
leads false n.Quals h = cc
leads false n.Sufs h = cc
leads false n.Bound h = cc
leads false n.Params h = refl
leads false n.ParMore h = cc
leads false n.Param h = refl
leads false n.PDtor h = cc
leads false n.ADtor h = cc
leads false n.TypeName h = refl
leads false n.Items h = cc
leads false n.ItemAttr h = cc
leads false n.Stmt h = cc
leads false n.Sub h = cc
leads false n.Else h = cc
leads false n.ForInit h = refl
leads false n.ExprOpt h = refl
leads false n.Expr h = refl
leads false n.ExprMore h = cc
leads false n.Assign h = refl
leads false n.AssTail h = cc
leads false n.Cond h = refl
leads false n.CondTail h = cc
leads false n.Bin1 h = refl
leads false n.Bin2 h = refl
leads false n.Bin3 h = refl
leads false n.Bin4 h = refl
leads false n.Bin5 h = refl
leads false n.Bin6 h = refl
leads false n.Bin7 h = refl
leads false n.Bin8 h = refl
leads false n.Bin9 h = refl
leads false n.Bin10 h = refl
leads false n.Tail1 h = cc
leads false n.Tail2 h = cc
leads false n.Tail3 h = cc
leads false n.Tail4 h = cc
leads false n.Tail5 h = cc
leads false n.Tail6 h = cc
leads false n.Tail7 h = cc
leads false n.Tail8 h = cc
leads false n.Tail9 h = cc
leads false n.Tail10 h = cc
leads false n.Cast h = refl
leads false n.CastTail h = cc
leads false n.Unary h = refl
leads false n.SizeTail h = refl
leads false n.SizeLit h = cc
leads false n.PostTail h = cc
leads false n.Args h = cc
leads false n.ArgMore h = cc
leads false n.Primary h = refl
leads false n.Assoc h = cc
leads false n.AssMore h = cc
leads false n.OffTail h = cc
leads false n.Init h = cc
leads false n.Braces h = cc
leads false n.BraceIn h = cc
leads false n.BraceMore h = cc
leads false n.Item h = cc
leads false n.Desigs h = cc
leads false n.DesMore h = cc
leads false n.Mod h = cc

-- ---- the row that is chosen

abbrev pub NoColon : Bool → Terminal → Type 0
NoColon b y = b ≡ true → fits w.Colon y 1 ≡ Fails

label_fails : (g : Guard) (x y : Terminal) (v : Verdict) → is_label_guard g ≡ true → fits w.Colon y 1 ≡ Fails → is_name x.kind ≡ true → verdict g x y ≡ Fails
label_fails (Both w.Identifier w.Colon) x y v h f e =
    ap (λ b. after_first (cond b Holds Fails) (fits w.Colon y 1)) e ∙ f
label_fails (Both w.Identifier _) x y v h f e = cc
label_fails (Both _ _) x y v h f e = cc
label_fails Else x y v h f e = cc
label_fails (First z) x y v h f e = cc

pub failing : (v : Verdict) → not_failed v ≡ false → v ≡ Fails
failing Fails h = refl
failing Holds h = cc
failing (Asks n) h = cc

may_not : (b : Bool) (g : Guard) (x y : Terminal) → LooksLike name_seen x → NoColon b y → may b g ≡ false → verdict g x y ≡ Fails
may_not b Else x y l nc h = cc
may_not b (First z) x y l nc h = fits_alike z name_seen x 0 l ∙ failing (fits z name_seen 0) h
may_not b (Both z u) x y l nc h = by (not_failed (fits z name_seen 0)) (b && is_label_guard (Both z u)) refl refl h
  where
    both : (a b : Bool) → (a && b) ≡ true → (a ≡ true) × (b ≡ true)
    both true true h = (refl, refl)
    both true false h = cc
    both false b h = cc

    by : (c d : Bool) → not_failed (fits z name_seen 0) ≡ c → (b && is_label_guard (Both z u)) ≡ d → (c && not d) ≡ false → verdict (Both z u) x y ≡ Fails
    by false d e f h =
        ap (λ v. after_first v (fits u y 1)) (fits_alike z name_seen x 0 l ∙ failing (fits z name_seen 0) e)
    by true true e f h =
        let q : (b ≡ true) × (is_label_guard (Both z u) ≡ true) = both b (is_label_guard (Both z u)) f in
        label_fails (Both z u) x y Fails q.1 (nc q.0) (ap is_name l.kind)
    by true false e f h = cc

chosen_starts : (b : Bool) (rs : List Row) (x y : Terminal) (i : ℕ) (asks : List Item) (body : List Symbol) → LooksLike name_seen x → NoColon b y → all_start b rs ≡ true → Chosen rs x y i asks body → starts b body ≡ true
chosen_starts b [] x y i asks body l nc all h = absurd h
chosen_starts b (r ∷ rs) x y i asks body l nc all h =
    let p = and_both (not (may b r.0) || starts b r.1) (all_start b rs) all in
    by (may b r.0) refl p.0 (λ more c. chosen_starts b rs x y i more body l nc p.1 c)
  where
    own : (v : Verdict) → starts b r.1 ≡ true → ((more : List Item) → Chosen rs x y i more body → starts b body ≡ true) → ChosenBy v r (λ more. Chosen rs x y i more body) i asks body → starts b body ≡ true
    own Holds s later h = ap (starts b) h.1 ∙ s
    own Fails s later h = later asks h
    own (Asks n) s later (inl h) = ap (starts b) h.1 ∙ s
    own (Asks n) s later (inr h) = later h.0 h.2

    by : (c : Bool) → may b r.0 ≡ c → (not c || starts b r.1) ≡ true → ((more : List Item) → Chosen rs x y i more body → starts b body ≡ true) → starts b body ≡ true
    by true e s later = own (verdict r.0 x y) s later h
    by false e s later =
        later asks (subst (λ v. ChosenBy v r (λ more. Chosen rs x y i more body) i asks body) (may_not b r.0 x y l nc e) h)

-- ---- what the identifier means

specified_declarations : (x : Option SpecWord) (i : ℕ) (s : State) → (specified x i s).declarations ≡ s.declarations
specified_declarations None i s = refl
specified_declarations (Some x) i s = by (may_follow s.pending.specifiers x)
  where
    by : (b : Bool) → (if b then record s { pending = record s.pending { specifiers = with_word s.pending.specifiers x; last_basic = last_basic_after x i s.pending } } else failed cause.BadSpecifiers i s).declarations ≡ s.declarations
    by true = refl
    by false = refl

announced_declarations : (x : Option SpecWord) (s : State) → (announced x s).declarations ≡ s.declarations
announced_declarations None s = refl
announced_declarations (Some word.Struct) s = refl
announced_declarations (Some word.Union) s = refl
announced_declarations (Some word.Enum) s = refl
announced_declarations (Some _) s = refl

pub passed_declarations : (t : Source) (m : NonTerm) (i : ℕ) (s : State) → (passed t m i s).declarations ≡ s.declarations
passed_declarations t n.Mod i s = specified_declarations (specifier_at t i) i s
passed_declarations t n.Specs0 i s = specified_declarations (specifier_at t i) i s
passed_declarations t n.SpecsB i s = specified_declarations (specifier_at t i) i s
passed_declarations t n.Rec i s = announced_declarations (specifier_at t i) s
passed_declarations t n.Enum i s = announced_declarations (specifier_at t i) s
passed_declarations t _ i s = refl

module _ (t : Source) (end : State) where
  -- it is looked up where these declarations were made, or is supplied
  abbrev pub Named : List ℕ → List Declaration → ℕ → Type 0
  Named path ds i =
      ((k : ℕ) × (meaning t path space.Ordinary i ds ≡ Some k) × Contains end.uses (LookedUp space.Ordinary i path (length ds) (Some k)))
      ⊎ (Contains end.uses (IsBuiltIn i) × ((is_built_in (text_at t i) ≡ true) ⊎ (is_function_name (text_at t i) ≡ true)))

  spec_named : (i : ℕ) (s : State) → is_identifier t i ≡ true → (type_specifier t i s).fault ≡ None → Grows (type_specifier t i s) end → Named s.present s.declarations i
  spec_named i s e h g =
      by (meaning_here t space.Ordinary i s) refl (ap (λ (x : State). x.fault) (sym k) ∙ h) (subst (λ x. Grows x end) k g)
    where
      k : type_specifier t i s ≡ typedef_name t i s
      k = ap (λ b. if b then typedef_name t i s else specified_by (specifier_at t i) s) e

      by_declaration : (k : ℕ) (d : Option Declaration) → (named_type (Some k) d i s).fault ≡ None → Grows (named_type (Some k) d i s) end → Contains end.uses (LookedUp space.Ordinary i s.present (length s.declarations) (Some k))
      by_declaration k None h g = cc
      by_declaration k (Some d) h g = last_there s.uses end.uses _ g.uses

      by : (k : Option ℕ) → meaning_here t space.Ordinary i s ≡ k → (named_type k (declaration_at s k) i s).fault ≡ None → Grows (named_type k (declaration_at s k) i s) end → Named s.present s.declarations i
      by None found h g = cc
      by (Some k) found h g = inl (k, found, by_declaration k (declaration_at s (Some k)) h g)

  second : (a b : Bool) → (a && b) ≡ true → b ≡ true
  second true b e = e
  second false b e = cc

  denoting_named : (called : Bool) (i : ℕ) (s : State) (k : Option ℕ) → meaning_here t space.Ordinary i s ≡ k → (d : Option Declaration) → declaration_at s k ≡ d → (denoting called k d t i s).fault ≡ None → Grows (denoting called k d t i s) end → Named s.present s.declarations i
  denoting_named called i s k found None at h g = by (called && is_built_in (text_at t i)) refl h g
    where
      by : (b : Bool) → (called && is_built_in (text_at t i)) ≡ b → (if b then built_in i s else failed cause.Unresolved i s).fault ≡ None → Grows (if b then built_in i s else failed cause.Unresolved i s) end → Named s.present s.declarations i
      by true e h g = inr (last_there s.uses end.uses (IsBuiltIn i) g.uses, inl (second called (is_built_in (text_at t i)) e))
      by false e h g = cc
  denoting_named called i s None found (Some d) at h g = cc
  denoting_named called i s (Some k) found (Some d) at h g = by (is_value d.kind) h g
    where
      by : (b : Bool) → (if b then push d.type (looked_up space.Ordinary i (Some k) s) else failed cause.Unresolved i s).fault ≡ None → Grows (if b then push d.type (looked_up space.Ordinary i (Some k) s) else failed cause.Unresolved i s) end → Named s.present s.declarations i
      by true h g = inl (k, found, last_there s.uses end.uses _ g.uses)
      by false h g = cc

  mention_named : (called : Bool) (i : ℕ) (s : State) → (identifier called t i s).fault ≡ None → Grows (identifier called t i s) end → Named s.present s.declarations i
  mention_named called i s h g = by (s.in_body && is_function_name (text_at t i)) refl h g
    where
      by : (b : Bool) → (s.in_body && is_function_name (text_at t i)) ≡ b → (if b then built_in i s else denoting called (meaning_here t space.Ordinary i s) (declaration_at s (meaning_here t space.Ordinary i s)) t i s).fault ≡ None → Grows (if b then built_in i s else denoting called (meaning_here t space.Ordinary i s) (declaration_at s (meaning_here t space.Ordinary i s)) t i s) end → Named s.present s.declarations i
      by true e h g = inr (last_there s.uses end.uses (IsBuiltIn i) g.uses, inr (second s.in_body (is_function_name (text_at t i)) e))
      by false e h g =
          denoting_named called i s (meaning_here t space.Ordinary i s) refl (declaration_at s (meaning_here t space.Ordinary i s)) refl h g

  -- a row that begins with the identifier
  module _ (m : NonTerm) (i : ℕ) (x : Action) (next : Trees) (s : State) where
    abbrev on_token : State
    on_token = goes_on s (passed t m i s)

    abbrev on_action : State
    on_action = goes_on on_token (acted t m i x on_token)

    begun : (walk t m (Some i) next on_action).fault ≡ None → Grows (walk t m (Some i) next on_action) end → (on_token.last ≡ i → (acted t m i x on_token).fault ≡ None → Grows (acted t m i x on_token) end → Named on_token.present on_token.declarations i) → Named s.present s.declarations i
    begun sound g each =
        let clear : on_action.fault ≡ None = none_before t m (Some i) next on_action sound in
        let u = goes_on_gives on_token (acted t m i x on_token) clear in
        let grown : Grows on_action end = followed on_action (walk t m (Some i) next on_action) end (binding_grows t m (Some i) next on_action) g in
        let v = goes_on_gives s (passed t m i s) u.0 in
        let f : Flat s (passed t m i s) = passed_flat t m i s in
        let r : Named on_token.present on_token.declarations i = each (ap (λ (z : State). z.last) v.1) (ap (λ (z : State). z.fault) (sym u.1) ∙ clear) (subst (λ z. Grows z end) u.1 grown) in
        subst (λ p. Named p s.declarations i) (ap (λ (z : State). z.present) v.1 ∙ f.present)
        (subst (λ ds. Named on_token.present ds i) (ap (λ (z : State). z.declarations) v.1 ∙ passed_declarations t m i s) r)

  -- a node that ends soundly, below which the walk ended soundly too
  module _ (m : NonTerm) (first : Option ℕ) (k : NonTerm) (asks : List Item) (children next : Trees) (s : State) where
    abbrev pub below : State
    below = walk t k None children (asked asks s)

    abbrev pub behind : State
    behind = unless_failed s (ended m k children s below)

    pub below_sound : (walk t m first next behind).fault ≡ None → below.fault ≡ None
    below_sound sound =
        let clear : behind.fault ≡ None = none_before t m first next behind sound in
        sym (ended_as_fault k children s below) ∙ ap (λ (z : State). z.fault) (sym (unless_gives s (ended m k children s below) clear).1) ∙ clear

    pub below_grows : (walk t m first next behind).fault ≡ None → Grows (walk t m first next behind) end → Grows below end
    below_grows sound g =
        let clear : behind.fault ≡ None = none_before t m first next behind sound in
        let grown : Grows behind end = followed behind (walk t m first next behind) end (binding_grows t m first next behind) g in
        followed below (ended m k children s below) end (ended_grows m k children s below)
        (subst (λ z. Grows z end) (unless_gives s (ended m k children s below) clear).1 grown)

  pub decl_acted : (m : NonTerm) (first : ℕ) (x : Action) (s : State) → is_decl x ≡ true → acted t m first x s ≡ record s { pending = nothing_pending }
  decl_acted m first a.Decl s h = refl
  decl_acted m first _ s h = cc

  naming_acted : (m : NonTerm) (i : ℕ) (x : Action) (s : State) → is_naming x ≡ true → is_identifier t i ≡ true → s.last ≡ i → (acted t m i x s).fault ≡ None → Grows (acted t m i x s) end → Named s.present s.declarations i
  naming_acted m i a.Spec s h e l f g = spec_named i s e f g
  naming_acted m i a.Mention s h e l f g =
      subst (λ p. Named s.present s.declarations p) l (mention_named false s.last s f g)
  naming_acted m i a.Callee s h e l f g = subst (λ p. Named s.present s.declarations p) l (mention_named true s.last s f g)
  naming_acted m i _ s h e l f g = cc

  lead_token : (next : Trees) (m : NonTerm) (i : ℕ) (ss : List Symbol) (at j : ℕ) (s : State) → Derives (terminals_of t) next at ss j → names_next ss ≡ true → is_identifier t i ≡ true → (walk t m (Some i) next (goes_on s (passed t m i s))).fault ≡ None → Grows (walk t m (Some i) next (goes_on s (passed t m i s))) end → Named s.present s.declarations i
  lead_token none m i [] at j s d h e sound g = cc
  lead_token none m i (x ∷ ss) at j s d h e sound g = absurd d
  lead_token (token q next) m i [] at j s d h e sound g = absurd d
  lead_token (token q next) m i (Term x ∷ ss) at j s d h e sound g = cc
  lead_token (token q next) m i (Non x ∷ ss) at j s d h e sound g = absurd d
  lead_token (token q next) m i (Act x ∷ ss) at j s d h e sound g = absurd d
  lead_token (node q asks children next) m i [] at j s d h e sound g = absurd d
  lead_token (node q asks children next) m i (Term x ∷ ss) at j s d h e sound g = absurd d
  lead_token (node q asks children next) m i (Non x ∷ ss) at j s d h e sound g = cc
  lead_token (node q asks children next) m i (Act x ∷ ss) at j s d h e sound g = absurd d
  lead_token (action x next) m i [] at j s d h e sound g = absurd d
  lead_token (action x next) m i (Term y ∷ ss) at j s d h e sound g = absurd d
  lead_token (action x next) m i (Non y ∷ ss) at j s d h e sound g = absurd d
  lead_token (action x next) m i (Act y ∷ ss) at j s d h e sound g =
      begun m i x next s sound g (λ l f g. naming_acted m i x (on_token m i x next s) (ap is_naming d.0 ∙ h) e l f g)

  pub lead : (trees : Trees) (m : NonTerm) (i : ℕ) (ss : List Symbol) (j : ℕ) (b : Bool) (s : State) → Derives (terminals_of t) trees i ss j → starts b ss ≡ true → is_identifier t i ≡ true → LooksLike name_seen (token_at (terminals_of t) i) → NoColon b (token_at (terminals_of t) (i + 1)) → (walk t m None trees s).fault ≡ None → Grows (walk t m None trees s) end → Named s.present s.declarations i
  lead none m i [] j b s d h e l nc sound g = cc
  lead none m i (x ∷ ss) j b s d h e l nc sound g = absurd d
  lead (token q next) m i [] j b s d h e l nc sound g = absurd d
  lead (token q next) m i (Term x ∷ ss) j b s d h e l nc sound g =
      let p : (is_id x ≡ true) × (names_next ss ≡ true) = and_both (is_id x) (names_next ss) h in
      lead_token next m i ss (i + 1) j s d.2 p.1 e (ap (λ k. (walk t m (Some k) next (goes_on s (passed t m k s))).fault) (sym d.0) ∙ sound) (subst (λ k. Grows (walk t m (Some k) next (goes_on s (passed t m k s))) end) d.0 g)
  lead (token q next) m i (Non x ∷ ss) j b s d h e l nc sound g = absurd d
  lead (token q next) m i (Act x ∷ ss) j b s d h e l nc sound g = absurd d
  lead (action x next) m i [] j b s d h e l nc sound g = absurd d
  lead (action x next) m i (Term y ∷ ss) j b s d h e l nc sound g = absurd d
  lead (action x next) m i (Non y ∷ ss) j b s d h e l nc sound g = absurd d
  lead (action x next) m i (Act y ∷ ss) j b s d h e l nc sound g =
      let p : (is_decl y ≡ true) × (starts b ss ≡ true) = and_both (is_decl y) (starts b ss) h in
      let v = acted t m s.last x s in
      let clear : (goes_on s v).fault ≡ None = none_before t m None next (goes_on s v) sound in
      let u : goes_on s v ≡ record s { pending = nothing_pending } = (goes_on_gives s v clear).1 ∙ decl_acted m s.last x s (ap is_decl d.0 ∙ p.0) in
      let r : Named (goes_on s v).present (goes_on s v).declarations i = lead next m i ss j b (goes_on s v) d.1 p.1 e l nc sound g in
      subst (λ (z : State). Named z.present z.declarations i) u r
  lead (node q asks children next) m i [] j b s d h e l nc sound g = absurd d
  lead (node q asks children next) m i (Term x ∷ ss) j b s d h e l nc sound g = absurd d
  lead (node q asks children next) m i (Act x ∷ ss) j b s d h e l nc sound g = absurd d
  lead (node q asks children next) m i (Non x ∷ ss) j b s d h e l nc sound g =
      let c : starts b d.1 ≡ true = chosen_starts b (rule x) (token_at (terminals_of t) i) (token_at (terminals_of t) (i + 1)) i asks d.1 l nc (leads b x h) d.3 in
      let r : Named (asked asks s).present (asked asks s).declarations i = lead children q i d.1 d.2 b (asked asks s) d.4 c e l nc (below_sound m None q asks children next s sound) (below_grows m None q asks children next s sound g) in
      subst (λ p. Named p s.declarations i) (asked_present asks s) (subst (λ ds. Named (asked asks s).present ds i) (asked_declarations asks s) r)

  -- a node that the identifier begins, whatever stands before it in its row
  pub lead_below : (q x : NonTerm) (asks : List Item) (children : Trees) (i : ℕ) (body : List Symbol) (j : ℕ) (b : Bool) (s : State) → is_lead b x ≡ true → Chosen (rule x) (token_at (terminals_of t) i) (token_at (terminals_of t) (i + 1)) i asks body → Derives (terminals_of t) children i body j → is_identifier t i ≡ true → LooksLike name_seen (token_at (terminals_of t) i) → NoColon b (token_at (terminals_of t) (i + 1)) → (walk t q None children (asked asks s)).fault ≡ None → Grows (walk t q None children (asked asks s)) end → Named s.present s.declarations i
  lead_below q x asks children i body j b s h chosen d e l nc sound g =
      let c : starts b body ≡ true = chosen_starts b (rule x) (token_at (terminals_of t) i) (token_at (terminals_of t) (i + 1)) i asks body l nc (leads b x h) chosen in
      let r : Named (asked asks s).present (asked asks s).declarations i = lead children q i body j b (asked asks s) d c e l nc sound g in
      subst (λ p. Named p s.declarations i) (asked_present asks s) (subst (λ ds. Named (asked asks s).present ds i) (asked_declarations asks s) r)
