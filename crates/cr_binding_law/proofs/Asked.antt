-- Each identifier that was asked is used: it is looked up, declares a parameter or is supplied by the compiler.
use Rattle.std.specs.Prelude.{◌≡◌, ◌⊎◌, ℕ, ◌+◌, Bool, true, false, cond, not, ◌&&◌, ◌||◌, List, [], ◌∷◌, codes, bytes_eq, Contains}
use Rattle.std.specs.Cmp.Lexicographic.{bytes_decides}
use Rattle.std.proofs.Common.{refl, sym, ◌∙◌, ap, subst, inl, inr, arith}
use Rattle.cr_base.specs.declared.token.TokKind.{TokKind}
use Rattle.cr_base.specs.declared.token.TokKind.TheVariants as k
use Rattle.cr_grammar.specs.declared.symbols.NonTerm.{NonTerm}
use Rattle.cr_grammar.specs.declared.symbols.NonTerm.TheVariants as n
use Rattle.cr_grammar.specs.declared.symbols.Action.TheVariants as a
use Rattle.cr_grammar.specs.declared.symbols.Term.{Term as Word}
use Rattle.cr_grammar.specs.declared.symbols.Term.TheVariants as w
use Rattle.cr_grammar.specs.declared.symbols.Guard.TheVariants.{Else, First, Both}
use Rattle.cr_grammar.specs.declared.symbols.Symbol.{Symbol}
use Rattle.cr_grammar.specs.declared.symbols.Symbol.TheVariants.{Term, Non, Act}
use Rattle.cr_grammar.specs.Grammar.{Row, rule}
use Rattle.cr_grammar.specs.Spellings.{spelled}
use Rattle.cr_ll.specs.declared.guards.Verdict.{Verdict}
use Rattle.cr_ll.specs.declared.guards.Verdict.TheVariants.{Holds, Fails, Asks}
use Rattle.cr_ll.specs.Guards.{Terminal, is_name, is_spelled_kind, is_spelled, is_among, fits, after_first, verdict, ask_at}
use Rattle.cr_ll.specs.Derivation.{Item, Asked, Trees, none, token, action, node, ChosenBy, Chosen, Derives}
use Rattle.cr_binding_law.proofs.Parsing.{LooksLike}
use Rattle.cr_binding_law.proofs.Consistent.{head_or_tail}
use Rattle.cr_binding_law.proofs.Balanced.{and_both}
use Rattle.cr_binding_law.proofs.Leading.{name_seen, is_lead}
use Rattle.cr_binding_law.proofs.Second.{Mark, Paren, KeyParen, Extension, PunctExtension, seen_as, is_second}

-- ---- which guards ask

abbrev asks_word : Word → Bool
asks_word w.TypedefName = true
asks_word w.Specifier = true
asks_word _ = false

abbrev is_mark_word : Word → Bool
is_mark_word w.LeftParen = true
is_mark_word w.Extension = true
is_mark_word _ = false

-- the first token of a node is asked, or the one behind a mark
abbrev pub first_asks : List Row → Bool
first_asks [] = false
first_asks ((First x, body) ∷ rs) = asks_word x || first_asks rs
first_asks ((Both x y, body) ∷ rs) = asks_word x || first_asks rs
first_asks ((Else, body) ∷ rs) = first_asks rs

abbrev pub second_asks : List Row → Bool
second_asks [] = false
second_asks ((Both x y, body) ∷ rs) = asks_word y || second_asks rs
second_asks ((First x, body) ∷ rs) = second_asks rs
second_asks ((Else, body) ∷ rs) = second_asks rs

abbrev marks_only : List Row → Bool
marks_only [] = true
marks_only ((Both x y, body) ∷ rs) = (not (asks_word y) || is_mark_word x) && marks_only rs
marks_only ((First x, body) ∷ rs) = marks_only rs
marks_only ((Else, body) ∷ rs) = marks_only rs

abbrev pub is_items : NonTerm → Bool
is_items n.Items = true
is_items _ = false

abbrev pub is_pdtor : NonTerm → Bool
is_pdtor n.PDtor = true
is_pdtor _ = false

abbrev pub is_adtor : NonTerm → Bool
is_adtor n.ADtor = true
is_adtor _ = false

pub rules_first : (m : NonTerm) → (not (first_asks (rule m)) || (is_lead false m || is_items m)) ≡ true
unfolding rule
rules_first n.Unit = refl
rules_first n.External = refl
rules_first n.ExtTail = refl
rules_first n.ExtNext = refl
rules_first n.Decl = refl
rules_first n.DeclTail = refl
rules_first n.More = refl
rules_first n.After = refl
rules_first n.InitOpt = refl
rules_first n.Static = refl
rules_first n.Specs0 = refl
rules_first n.SpecsB = refl
rules_first n.SpecsT = refl
rules_first n.AlignArg = refl
rules_first n.Attr = refl
rules_first n.AttrOpt = refl
rules_first n.Hidden = refl
rules_first n.Rec = refl
rules_first n.RecTail = refl
rules_first n.Members = refl
rules_first n.MemTail = refl
rules_first n.MemMore = refl
rules_first n.MemDtor = refl
rules_first n.BitOpt = refl
rules_first n.Enum = refl
rules_first n.EnumTail = refl
rules_first n.Enums = refl
rules_first n.EnumVal = refl
rules_first n.EnumMore = refl
rules_first n.Dtor = refl
rules_first n.Quals = refl
rules_first n.Sufs = refl
rules_first n.Bound = refl
rules_first n.Params = refl
rules_first n.ParMore = refl
rules_first n.Param = refl
rules_first n.PDtor = refl
rules_first n.ADtor = refl
rules_first n.TypeName = refl
rules_first n.Items = refl
rules_first n.ItemAttr = refl
rules_first n.Stmt = refl
rules_first n.Sub = refl
rules_first n.Else = refl
rules_first n.ForInit = refl
rules_first n.ExprOpt = refl
rules_first n.Expr = refl
rules_first n.ExprMore = refl
rules_first n.Assign = refl
rules_first n.AssTail = refl
rules_first n.Cond = refl
rules_first n.CondTail = refl
rules_first n.Bin1 = refl
rules_first n.Bin2 = refl
rules_first n.Bin3 = refl
rules_first n.Bin4 = refl
rules_first n.Bin5 = refl
rules_first n.Bin6 = refl
rules_first n.Bin7 = refl
rules_first n.Bin8 = refl
rules_first n.Bin9 = refl
rules_first n.Bin10 = refl
rules_first n.Tail1 = refl
rules_first n.Tail2 = refl
rules_first n.Tail3 = refl
rules_first n.Tail4 = refl
rules_first n.Tail5 = refl
rules_first n.Tail6 = refl
rules_first n.Tail7 = refl
rules_first n.Tail8 = refl
rules_first n.Tail9 = refl
rules_first n.Tail10 = refl
rules_first n.Cast = refl
rules_first n.CastTail = refl
rules_first n.Unary = refl
rules_first n.SizeTail = refl
rules_first n.SizeLit = refl
rules_first n.PostTail = refl
rules_first n.Args = refl
rules_first n.ArgMore = refl
rules_first n.Primary = refl
rules_first n.Assoc = refl
rules_first n.AssMore = refl
rules_first n.OffTail = refl
rules_first n.Init = refl
rules_first n.Braces = refl
rules_first n.BraceIn = refl
rules_first n.BraceMore = refl
rules_first n.Item = refl
rules_first n.Desigs = refl
rules_first n.DesMore = refl
rules_first n.Mod = refl

pub rules_second : (m : NonTerm) → (not (second_asks (rule m)) || (is_second m || (is_pdtor m || is_adtor m))) ≡ true
unfolding rule
rules_second n.Unit = refl
rules_second n.External = refl
rules_second n.ExtTail = refl
rules_second n.ExtNext = refl
rules_second n.Decl = refl
rules_second n.DeclTail = refl
rules_second n.More = refl
rules_second n.After = refl
rules_second n.InitOpt = refl
rules_second n.Static = refl
rules_second n.Specs0 = refl
rules_second n.SpecsB = refl
rules_second n.SpecsT = refl
rules_second n.AlignArg = refl
rules_second n.Attr = refl
rules_second n.AttrOpt = refl
rules_second n.Hidden = refl
rules_second n.Rec = refl
rules_second n.RecTail = refl
rules_second n.Members = refl
rules_second n.MemTail = refl
rules_second n.MemMore = refl
rules_second n.MemDtor = refl
rules_second n.BitOpt = refl
rules_second n.Enum = refl
rules_second n.EnumTail = refl
rules_second n.Enums = refl
rules_second n.EnumVal = refl
rules_second n.EnumMore = refl
rules_second n.Dtor = refl
rules_second n.Quals = refl
rules_second n.Sufs = refl
rules_second n.Bound = refl
rules_second n.Params = refl
rules_second n.ParMore = refl
rules_second n.Param = refl
rules_second n.PDtor = refl
rules_second n.ADtor = refl
rules_second n.TypeName = refl
rules_second n.Items = refl
rules_second n.ItemAttr = refl
rules_second n.Stmt = refl
rules_second n.Sub = refl
rules_second n.Else = refl
rules_second n.ForInit = refl
rules_second n.ExprOpt = refl
rules_second n.Expr = refl
rules_second n.ExprMore = refl
rules_second n.Assign = refl
rules_second n.AssTail = refl
rules_second n.Cond = refl
rules_second n.CondTail = refl
rules_second n.Bin1 = refl
rules_second n.Bin2 = refl
rules_second n.Bin3 = refl
rules_second n.Bin4 = refl
rules_second n.Bin5 = refl
rules_second n.Bin6 = refl
rules_second n.Bin7 = refl
rules_second n.Bin8 = refl
rules_second n.Bin9 = refl
rules_second n.Bin10 = refl
rules_second n.Tail1 = refl
rules_second n.Tail2 = refl
rules_second n.Tail3 = refl
rules_second n.Tail4 = refl
rules_second n.Tail5 = refl
rules_second n.Tail6 = refl
rules_second n.Tail7 = refl
rules_second n.Tail8 = refl
rules_second n.Tail9 = refl
rules_second n.Tail10 = refl
rules_second n.Cast = refl
rules_second n.CastTail = refl
rules_second n.Unary = refl
rules_second n.SizeTail = refl
rules_second n.SizeLit = refl
rules_second n.PostTail = refl
rules_second n.Args = refl
rules_second n.ArgMore = refl
rules_second n.Primary = refl
rules_second n.Assoc = refl
rules_second n.AssMore = refl
rules_second n.OffTail = refl
rules_second n.Init = refl
rules_second n.Braces = refl
rules_second n.BraceIn = refl
rules_second n.BraceMore = refl
rules_second n.Item = refl
rules_second n.Desigs = refl
rules_second n.DesMore = refl
rules_second n.Mod = refl

pub rules_marks : (m : NonTerm) → marks_only (rule m) ≡ true
unfolding rule
rules_marks n.Unit = refl
rules_marks n.External = refl
rules_marks n.ExtTail = refl
rules_marks n.ExtNext = refl
rules_marks n.Decl = refl
rules_marks n.DeclTail = refl
rules_marks n.More = refl
rules_marks n.After = refl
rules_marks n.InitOpt = refl
rules_marks n.Static = refl
rules_marks n.Specs0 = refl
rules_marks n.SpecsB = refl
rules_marks n.SpecsT = refl
rules_marks n.AlignArg = refl
rules_marks n.Attr = refl
rules_marks n.AttrOpt = refl
rules_marks n.Hidden = refl
rules_marks n.Rec = refl
rules_marks n.RecTail = refl
rules_marks n.Members = refl
rules_marks n.MemTail = refl
rules_marks n.MemMore = refl
rules_marks n.MemDtor = refl
rules_marks n.BitOpt = refl
rules_marks n.Enum = refl
rules_marks n.EnumTail = refl
rules_marks n.Enums = refl
rules_marks n.EnumVal = refl
rules_marks n.EnumMore = refl
rules_marks n.Dtor = refl
rules_marks n.Quals = refl
rules_marks n.Sufs = refl
rules_marks n.Bound = refl
rules_marks n.Params = refl
rules_marks n.ParMore = refl
rules_marks n.Param = refl
rules_marks n.PDtor = refl
rules_marks n.ADtor = refl
rules_marks n.TypeName = refl
rules_marks n.Items = refl
rules_marks n.ItemAttr = refl
rules_marks n.Stmt = refl
rules_marks n.Sub = refl
rules_marks n.Else = refl
rules_marks n.ForInit = refl
rules_marks n.ExprOpt = refl
rules_marks n.Expr = refl
rules_marks n.ExprMore = refl
rules_marks n.Assign = refl
rules_marks n.AssTail = refl
rules_marks n.Cond = refl
rules_marks n.CondTail = refl
rules_marks n.Bin1 = refl
rules_marks n.Bin2 = refl
rules_marks n.Bin3 = refl
rules_marks n.Bin4 = refl
rules_marks n.Bin5 = refl
rules_marks n.Bin6 = refl
rules_marks n.Bin7 = refl
rules_marks n.Bin8 = refl
rules_marks n.Bin9 = refl
rules_marks n.Bin10 = refl
rules_marks n.Tail1 = refl
rules_marks n.Tail2 = refl
rules_marks n.Tail3 = refl
rules_marks n.Tail4 = refl
rules_marks n.Tail5 = refl
rules_marks n.Tail6 = refl
rules_marks n.Tail7 = refl
rules_marks n.Tail8 = refl
rules_marks n.Tail9 = refl
rules_marks n.Tail10 = refl
rules_marks n.Cast = refl
rules_marks n.CastTail = refl
rules_marks n.Unary = refl
rules_marks n.SizeTail = refl
rules_marks n.SizeLit = refl
rules_marks n.PostTail = refl
rules_marks n.Args = refl
rules_marks n.ArgMore = refl
rules_marks n.Primary = refl
rules_marks n.Assoc = refl
rules_marks n.AssMore = refl
rules_marks n.OffTail = refl
rules_marks n.Init = refl
rules_marks n.Braces = refl
rules_marks n.BraceIn = refl
rules_marks n.BraceMore = refl
rules_marks n.Item = refl
rules_marks n.Desigs = refl
rules_marks n.DesMore = refl
rules_marks n.Mod = refl

-- ---- marks

mark_of : (word : Word) (x : Terminal) → is_mark_word word ≡ true → fits word x 0 ≡ Holds → (m : Mark) × LooksLike x (seen_as m)
unfolding spelled
mark_of w.LeftParen x h f = by x.kind refl (is_among x.text (codes "(")) refl f
  where
    text : (b : Bool) → (bytes_eq (codes "(") x.text || false) ≡ b → b ≡ true → codes "(" ≡ x.text
    text b e q = (bytes_decides (codes "(") x.text).0 (front (bytes_eq (codes "(") x.text) (e ∙ q))
      where
        front : (c : Bool) → (c || false) ≡ true → c ≡ true
        front true h = refl
        front false h = cc

    by : (q : TokKind) → x.kind ≡ q → (b : Bool) → is_among x.text (codes "(") ≡ b → cond (is_spelled_kind q && b) Holds Fails ≡ Holds → (m : Mark) × LooksLike x (seen_as m)
    by k.Punct e true g f = (Paren, record { kind = sym e; text = λ z. text true g refl })
    by k.Keyword e true g f = (KeyParen, record { kind = sym e; text = λ z. text true g refl })
    by k.Punct e false g f = cc
    by k.Keyword e false g f = cc
    by _ e b g f = cc
mark_of w.Extension x h f = by x.kind refl (is_among x.text (codes "__extension__")) refl f
  where
    text : (b : Bool) → (bytes_eq (codes "__extension__") x.text || false) ≡ b → b ≡ true → codes "__extension__" ≡ x.text
    text b e q =
        (bytes_decides (codes "__extension__") x.text).0 (front (bytes_eq (codes "__extension__") x.text) (e ∙ q))
      where
        front : (c : Bool) → (c || false) ≡ true → c ≡ true
        front true h = refl
        front false h = cc

    by : (q : TokKind) → x.kind ≡ q → (b : Bool) → is_among x.text (codes "__extension__") ≡ b → cond (is_spelled_kind q && b) Holds Fails ≡ Holds → (m : Mark) × LooksLike x (seen_as m)
    by k.Punct e true g f = (PunctExtension, record { kind = sym e; text = λ z. text true g refl })
    by k.Keyword e true g f = (Extension, record { kind = sym e; text = λ z. text true g refl })
    by k.Punct e false g f = cc
    by k.Keyword e false g f = cc
    by _ e b g f = cc
mark_of _ x h f = cc

-- a word that asks does so of an identifier
asks_name : (word : Word) (x : Terminal) (ahead p : ℕ) → fits word x ahead ≡ Asks p → (asks_word word ≡ true) × (is_name x.kind ≡ true) × (p ≡ ahead)
asks_name w.TypedefName x ahead p h = by (is_name x.kind) refl h
  where
    by : (b : Bool) → is_name x.kind ≡ b → cond b (Asks ahead) Fails ≡ Asks p → (true ≡ true) × (is_name x.kind ≡ true) × (p ≡ ahead)
    by true e h = let q : p ≡ ahead = cc in (refl, e, q)
    by false e h = cc
asks_name w.Specifier x ahead p h = by (is_name x.kind) refl (is_spelled w.Specifier x) h
  where
    by : (b : Bool) → is_name x.kind ≡ b → (c : Bool) → cond b (Asks ahead) (cond c Holds Fails) ≡ Asks p → (true ≡ true) × (is_name x.kind ≡ true) × (p ≡ ahead)
    by true e c h = let q : p ≡ ahead = cc in (refl, e, q)
    by false e true h = cc
    by false e false h = cc
asks_name word x ahead p h = by _ h
  where
    by : (b : Bool) → cond b Holds Fails ≡ Asks p → (asks_word word ≡ true) × (is_name x.kind ≡ true) × (p ≡ ahead)
    by true h = cc
    by false h = cc

-- ---- what an ask tells

abbrev pub Tells : List Row → Terminal → Terminal → ℕ → ℕ → Type 0
Tells rs x y i p =
    ((p ≡ i) × (is_name x.kind ≡ true) × (first_asks rs ≡ true))
    ⊎ ((p ≡ i + 1) × (is_name y.kind ≡ true) × (second_asks rs ≡ true) × ((m : Mark) × LooksLike x (seen_as m)))

later_row : (a b : Bool) → b ≡ true → (a || b) ≡ true
later_row true b h = refl
later_row false b h = h

own_row : (a b : Bool) → a ≡ true → (a || b) ≡ true
own_row true b h = refl
own_row false b h = cc

later_tells : (r : Row) (rs : List Row) (x y : Terminal) (i p : ℕ) → Tells rs x y i p → Tells (r ∷ rs) x y i p
later_tells (Else, body) rs x y i p h = h
later_tells (First z, body) rs x y i p (inl h) = inl (h.0, h.1, later_row (asks_word z) (first_asks rs) h.2)
later_tells (First z, body) rs x y i p (inr h) = inr h
later_tells (Both z u, body) rs x y i p (inl h) = inl (h.0, h.1, later_row (asks_word z) (first_asks rs) h.2)
later_tells (Both z u, body) rs x y i p (inr h) = inr (h.0, h.1, later_row (asks_word u) (second_asks rs) h.2, h.3)

own_tells : (r : Row) (rs : List Row) (x y : Terminal) (i ahead : ℕ) → marks_only (r ∷ rs) ≡ true → verdict r.0 x y ≡ Asks ahead → Tells (r ∷ rs) x y i (ask_at i ahead)
own_tells (Else, body) rs x y i ahead m h = cc
own_tells (First z, body) rs x y i ahead m h =
    let q = asks_name z x 0 ahead h in inl (ap (ask_at i) q.2, q.1, own_row (asks_word z) (first_asks rs) q.0)
own_tells (Both z u, body) rs x y i ahead m h = by (fits z x 0) refl h
  where
    marked : (not (asks_word u) || is_mark_word z) ≡ true → asks_word u ≡ true → is_mark_word z ≡ true
    marked h g = from (asks_word u) (is_mark_word z) h g
      where
        from : (a b : Bool) → (not a || b) ≡ true → a ≡ true → b ≡ true
        from true b h g = h
        from false b h g = cc

    by : (v : Verdict) → fits z x 0 ≡ v → after_first v (fits u y 1) ≡ Asks ahead → Tells ((Both z u, body) ∷ rs) x y i (ask_at i ahead)
    by Fails e h = cc
    by (Asks n) e h =
        let q = asks_name z x 0 n e in
        let same : n ≡ ahead = cc in
        inl (ap (ask_at i) (sym same ∙ q.2), q.1, own_row (asks_word z) (first_asks rs) q.0)
    by Holds e h =
        let q = asks_name u y 1 ahead h in
        let k = and_both (not (asks_word u) || is_mark_word z) (marks_only rs) m in
        inr (ap (ask_at i) q.2, q.1, own_row (asks_word u) (second_asks rs) q.0, mark_of z x (marked k.0 q.0) e)

rest_marks : (r : Row) (rs : List Row) → marks_only (r ∷ rs) ≡ true → marks_only rs ≡ true
rest_marks (Else, body) rs m = m
rest_marks (First z, body) rs m = m
rest_marks (Both z u, body) rs m = (and_both (not (asks_word u) || is_mark_word z) (marks_only rs) m).1

pub in_none : {P : Type 0} (asks : List Item) (z : Item) → asks ≡ [] → Contains asks z → P
in_none asks z e c = let k : Contains [] z = subst (λ l. Contains l z) e c in absurd (omega (arith, k.1))

asked_one : (p q : ℕ) (b c : Bool) → Asked p b ≡ Asked q c → p ≡ q
asked_one p q b c e = cc

pub asks_tell : (rs : List Row) (x y : Terminal) (i : ℕ) (asks : List Item) (body : List Symbol) → marks_only rs ≡ true → Chosen rs x y i asks body → (p : ℕ) (b : Bool) → Contains asks (Asked p b) → Tells rs x y i p
asks_tell [] x y i asks body m h p b c = absurd h
asks_tell (r ∷ rs) x y i asks body m h p b c =
    by (verdict r.0 x y) refl h (λ more k d. later_tells r rs x y i p (asks_tell rs x y i more body (rest_marks r rs m) k p b d))
  where
    head : (ahead : ℕ) (c : Bool) (more : List Item) → verdict r.0 x y ≡ Asks ahead → Contains (Asked (ask_at i ahead) c ∷ more) (Asked p b) → ((Contains more (Asked p b)) → Tells (r ∷ rs) x y i p) → Tells (r ∷ rs) x y i p
    head ahead c more e there rest = elim (head_or_tail (Asked (ask_at i ahead) c) (Asked p b) more there) [
      | inl q ↦ subst (Tells (r ∷ rs) x y i) (asked_one (ask_at i ahead) p c b q) (own_tells r rs x y i ahead m e)
      | inr d ↦ rest d
    ]

    by : (v : Verdict) → verdict r.0 x y ≡ v → ChosenBy v r (λ more. Chosen rs x y i more body) i asks body → ((more : List Item) → Chosen rs x y i more body → Contains more (Asked p b) → Tells (r ∷ rs) x y i p) → Tells (r ∷ rs) x y i p
    by Holds e h later = in_none asks (Asked p b) h.0 c
    by Fails e h later = later asks h c
    by (Asks ahead) e (inl h) later =
        head ahead true [] e (subst (λ l. Contains l (Asked p b)) h.0 c) (λ d. in_none [] (Asked p b) refl d)
    by (Asks ahead) e (inr h) later =
        head ahead false h.0 e (subst (λ l. Contains l (Asked p b)) h.1 c) (λ d. later h.0 h.2 d)

-- at the beginning of a block's item what is asked isn't a label
pub items_colon : (y : Terminal) (i : ℕ) (asks : List Item) (body : List Symbol) (z : Item) → Chosen (rule n.Items) name_seen y i asks body → Contains asks z → fits w.Colon y 1 ≡ Fails
unfolding rule
items_colon y i asks body z h c = by (is_spelled w.Colon y) refl h
  where
    by : (b : Bool) → is_spelled w.Colon y ≡ b → ChosenBy (cond b Holds Fails) (Both w.Identifier w.Colon, Non n.Stmt ∷ Non n.Items ∷ []) (λ more. Chosen ((First w.Specifier, Non n.Decl ∷ Non n.Items ∷ []) ∷ (First w.StaticAssert, Non n.Decl ∷ Non n.Items ∷ []) ∷ (Both w.Extension w.Specifier, Non n.Decl ∷ Non n.Items ∷ []) ∷ (First w.Attribute, Non n.Attr ∷ Non n.ItemAttr ∷ Non n.Items ∷ []) ∷ (Else, Non n.Stmt ∷ Non n.Items ∷ []) ∷ []) name_seen y i more body) i asks body → fits w.Colon y 1 ≡ Fails
    by true e h = in_none asks z h.0 c
    by false e h = ap (λ b. cond b Holds Fails) e

-- ---- the bodies behind a parenthesis

abbrev pub is_paren : Mark → Bool
is_paren Paren = true
is_paren KeyParen = true
is_paren _ = false

abbrev pub sufs : List Symbol
sufs =
    Term w.LeftParen ∷ Act a.Enter ∷ Non n.Params ∷ Term w.RightParen ∷ Act a.Leave ∷ Non n.Sufs ∷ []

abbrev pub nested_pdtor : List Symbol
nested_pdtor = Term w.LeftParen ∷ Non n.AttrOpt ∷ Non n.PDtor ∷ Term w.RightParen ∷ Non n.Sufs ∷ []

abbrev pub nested_adtor : List Symbol
nested_adtor = Term w.LeftParen ∷ Non n.ADtor ∷ Term w.RightParen ∷ Non n.Sufs ∷ []

pub sufs_body : (m : Mark) (i : ℕ) (asks : List Item) (body : List Symbol) → is_paren m ≡ true → Chosen (rule n.Sufs) (seen_as m) name_seen i asks body → body ≡ sufs
unfolding rule spelled
sufs_body Paren i asks body h c = c.1
sufs_body KeyParen i asks body h c = c.1
sufs_body Extension i asks body h c = cc
sufs_body PunctExtension i asks body h c = cc

-- one ask, of the token behind the mark
abbrev pub AskedBehind : List Symbol → ℕ → List Item → List Symbol → Type 0
AskedBehind nested i asks body =
    ((asks ≡ Asked (i + 1) true ∷ []) × (body ≡ Non n.Sufs ∷ [])) ⊎ ((asks ≡ Asked (i + 1) false ∷ []) × (body ≡ nested))

pub pdtor_body : (m : Mark) (i : ℕ) (asks : List Item) (body : List Symbol) (z : Item) → Contains asks z → Chosen (rule n.PDtor) (seen_as m) name_seen i asks body → (is_paren m ≡ true) × AskedBehind nested_pdtor i asks body
unfolding rule spelled
pdtor_body Paren i asks body z there (inl c) = (refl, inl c)
pdtor_body Paren i asks body z there (inr c) = (refl, inr (c.1 ∙ ap (λ l. Asked (i + 1) false ∷ l) c.2.0, c.2.1))
pdtor_body KeyParen i asks body z there (inl c) = (refl, inl c)
pdtor_body KeyParen i asks body z there (inr c) = (refl, inr (c.1 ∙ ap (λ l. Asked (i + 1) false ∷ l) c.2.0, c.2.1))
pdtor_body Extension i asks body z there c = in_none asks z c.0 there
pdtor_body PunctExtension i asks body z there c = in_none asks z c.0 there

pub adtor_body : (m : Mark) (i : ℕ) (asks : List Item) (body : List Symbol) (z : Item) → Contains asks z → Chosen (rule n.ADtor) (seen_as m) name_seen i asks body → (is_paren m ≡ true) × AskedBehind nested_adtor i asks body
unfolding rule spelled
adtor_body Paren i asks body z there (inl c) = (refl, inl c)
adtor_body Paren i asks body z there (inr c) = (refl, inr (c.1 ∙ ap (λ l. Asked (i + 1) false ∷ l) c.2.0, c.2.1))
adtor_body KeyParen i asks body z there (inl c) = (refl, inl c)
adtor_body KeyParen i asks body z there (inr c) = (refl, inr (c.1 ∙ ap (λ l. Asked (i + 1) false ∷ l) c.2.0, c.2.1))
adtor_body Extension i asks body z there c = in_none asks z c.0 there
adtor_body PunctExtension i asks body z there c = in_none asks z c.0 there

-- ---- at an identifier

pub attr_none : (y : Terminal) (i : ℕ) (asks : List Item) (body : List Symbol) → Chosen (rule n.AttrOpt) name_seen y i asks body → body ≡ []
unfolding rule
attr_none y i asks body c = c.1

pub pdtor_id : (y : Terminal) (i : ℕ) (asks : List Item) (body : List Symbol) → Chosen (rule n.PDtor) name_seen y i asks body → body ≡ Term w.Identifier ∷ Act a.Name ∷ Non n.Sufs ∷ []
unfolding rule
pdtor_id y i asks body c = c.1

pub adtor_id : (y : Terminal) (i : ℕ) (asks : List Item) (body : List Symbol) → Chosen (rule n.ADtor) name_seen y i asks body → body ≡ Non n.Sufs ∷ []
unfolding rule
adtor_id y i asks body c = c.1

pub sufs_id : (y : Terminal) (i : ℕ) (asks : List Item) (body : List Symbol) → Chosen (rule n.Sufs) name_seen y i asks body → body ≡ []
unfolding rule
sufs_id y i asks body c = c.1

pub nothing_spans : (ts : List Terminal) (trees : Trees) (i j : ℕ) → Derives ts trees i [] j → j ≡ i
nothing_spans ts none i j d = sym d
nothing_spans ts (token q next) i j d = absurd d
nothing_spans ts (action q next) i j d = absurd d
nothing_spans ts (node q asks children next) i j d = absurd d
