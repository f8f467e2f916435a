-- Scopes are entered and left in pairs, and labels stand in functions: by the grammar, row by row.
use Rattle.std.specs.Prelude.{◌≡◌, ℕ, zero, suc, ◌+◌, ◌-◌, ◌≤◌, Bool, true, false, not, ◌&&◌, ◌||◌, Option, Some, None, unwrap_or, List, [], ◌∷◌, ◌++◌, length, take, Contains}
use Rattle.std.proofs.Common.{refl, sym, ◌∙◌, ap, subst, inl, inr, arith}
use Rattle.std.proofs.lemmas.List.{length-take-le}
use Rattle.cr_grammar.specs.declared.symbols.NonTerm.{NonTerm}
use Rattle.cr_grammar.specs.declared.symbols.NonTerm.TheVariants as n
use Rattle.cr_grammar.specs.declared.symbols.Symbol.{Symbol}
use Rattle.cr_grammar.specs.declared.symbols.Symbol.TheVariants.{Term, Non, Act}
use Rattle.cr_grammar.specs.Grammar.{Row, rule}
use Rattle.cr_ll.specs.declared.guards.Verdict.{Verdict}
use Rattle.cr_ll.specs.declared.guards.Verdict.TheVariants.{Holds, Fails, Asks}
use Rattle.cr_ll.specs.Guards.{Terminal, token_at, verdict}
use Rattle.cr_ll.specs.Derivation.{Item, Passed, Due, Asked, Trees, none, token, action, node, ChosenBy, Chosen, Derives}
use Rattle.cr_ll.specs.Laws.{unit}
use Rattle.cr_scope.specs.declared.Space.TheVariants as space
use Rattle.cr_scope.specs.Linkage.{is_file_scope}
use Rattle.cr_binding.specs.Source.{Source}
use Rattle.cr_binding.specs.State.{Declaration, State, start}
use Rattle.cr_binding.specs.Declaring.{used}
use Rattle.cr_binding.specs.Scoping.{next_scope, unless_failed}
use Rattle.cr_binding.specs.Actions.{passed, acted}
use Rattle.cr_binding.specs.Binding.{ended_as, ended, asked, goes_on, walk, bound}
use Rattle.cr_binding.specs.WellFormed.{terminals_of}
use Rattle.cr_binding.proofs.Done.{none_before, unless_gives, goes_on_gives, ended_as_fault}
use Rattle.cr_binding_law.specs.ConsistentUnits.{LabelsAreInFunctions, LabelsStandInFunctions}
use Rattle.cr_binding_law.proofs.Scoped.{Flat, Effect, Enters, Reenters, Rises, Labels, Clears, Names, Rests, effect, at_scope, entered_at, Does, acted_does, passed_flat, ended_as_flat}

-- ---- the grammar

-- nodes that stand in functions alone
abbrev is_inside : NonTerm → Bool
is_inside n.Stmt = true
is_inside n.Items = true
is_inside n.Sub = true
is_inside n.Else = true
is_inside _ = false

-- what is true of the bodies of all rows
abbrev pub all_bodies : (List Symbol → Bool) → List Row → Bool
all_bodies f [] = true
all_bodies f (r ∷ rs) = f r.1 && all_bodies f rs

abbrev is_zero : ℕ → Bool
is_zero zero = true
is_zero (suc d) = false

-- how many scopes are entered behind an action, and whether it may stand there
abbrev depth_after : Effect → ℕ → ℕ
depth_after Enters d = suc d
depth_after Reenters d = suc d
depth_after Rises zero = zero
depth_after Rises (suc d) = d
depth_after _ d = d

abbrev is_allowed : Effect → (inside : Bool) → ℕ → Bool
is_allowed Rises inside d = not (is_zero d)
is_allowed Labels inside d = inside || not (is_zero d)
is_allowed _ inside d = true

-- A row is left in the scope in which it began; d scopes are entered so far.
abbrev balanced : (inside : Bool) → ℕ → List Symbol → Bool
balanced inside d [] = is_zero d
balanced inside d (Term x ∷ ss) = balanced inside d ss
balanced inside d (Non m ∷ ss) = (not (is_inside m) || (inside || not (is_zero d))) && balanced inside d ss
balanced inside d (Act x ∷ ss) = is_allowed (effect x) inside d && balanced inside (depth_after (effect x) d) ss

rules_balanced : (m : NonTerm) → all_bodies (balanced (is_inside m) 0) (rule m) ≡ true
unfolding rule
rules_balanced n.Unit = refl
rules_balanced n.External = refl
rules_balanced n.ExtTail = refl
rules_balanced n.ExtNext = refl
rules_balanced n.Decl = refl
rules_balanced n.DeclTail = refl
rules_balanced n.More = refl
rules_balanced n.After = refl
rules_balanced n.InitOpt = refl
rules_balanced n.Static = refl
rules_balanced n.Specs0 = refl
rules_balanced n.SpecsB = refl
rules_balanced n.SpecsT = refl
rules_balanced n.AlignArg = refl
rules_balanced n.Attr = refl
rules_balanced n.AttrOpt = refl
rules_balanced n.Hidden = refl
rules_balanced n.Rec = refl
rules_balanced n.RecTail = refl
rules_balanced n.Members = refl
rules_balanced n.MemTail = refl
rules_balanced n.MemMore = refl
rules_balanced n.MemDtor = refl
rules_balanced n.BitOpt = refl
rules_balanced n.Enum = refl
rules_balanced n.EnumTail = refl
rules_balanced n.Enums = refl
rules_balanced n.EnumVal = refl
rules_balanced n.EnumMore = refl
rules_balanced n.Dtor = refl
rules_balanced n.Quals = refl
rules_balanced n.Sufs = refl
rules_balanced n.Bound = refl
rules_balanced n.Params = refl
rules_balanced n.ParMore = refl
rules_balanced n.Param = refl
rules_balanced n.PDtor = refl
rules_balanced n.ADtor = refl
rules_balanced n.TypeName = refl
rules_balanced n.Items = refl
rules_balanced n.ItemAttr = refl
rules_balanced n.Stmt = refl
rules_balanced n.Sub = refl
rules_balanced n.Else = refl
rules_balanced n.ForInit = refl
rules_balanced n.ExprOpt = refl
rules_balanced n.Expr = refl
rules_balanced n.ExprMore = refl
rules_balanced n.Assign = refl
rules_balanced n.AssTail = refl
rules_balanced n.Cond = refl
rules_balanced n.CondTail = refl
rules_balanced n.Bin1 = refl
rules_balanced n.Bin2 = refl
rules_balanced n.Bin3 = refl
rules_balanced n.Bin4 = refl
rules_balanced n.Bin5 = refl
rules_balanced n.Bin6 = refl
rules_balanced n.Bin7 = refl
rules_balanced n.Bin8 = refl
rules_balanced n.Bin9 = refl
rules_balanced n.Bin10 = refl
rules_balanced n.Tail1 = refl
rules_balanced n.Tail2 = refl
rules_balanced n.Tail3 = refl
rules_balanced n.Tail4 = refl
rules_balanced n.Tail5 = refl
rules_balanced n.Tail6 = refl
rules_balanced n.Tail7 = refl
rules_balanced n.Tail8 = refl
rules_balanced n.Tail9 = refl
rules_balanced n.Tail10 = refl
rules_balanced n.Cast = refl
rules_balanced n.CastTail = refl
rules_balanced n.Unary = refl
rules_balanced n.SizeTail = refl
rules_balanced n.SizeLit = refl
rules_balanced n.PostTail = refl
rules_balanced n.Args = refl
rules_balanced n.ArgMore = refl
rules_balanced n.Primary = refl
rules_balanced n.Assoc = refl
rules_balanced n.AssMore = refl
rules_balanced n.OffTail = refl
rules_balanced n.Init = refl
rules_balanced n.Braces = refl
rules_balanced n.BraceIn = refl
rules_balanced n.BraceMore = refl
rules_balanced n.Item = refl
rules_balanced n.Desigs = refl
rules_balanced n.DesMore = refl
rules_balanced n.Mod = refl

pub and_both : (a b : Bool) → (a && b) ≡ true → (a ≡ true) × (b ≡ true)
and_both true true h = (refl, refl)
and_both true false h = cc
and_both false b h = cc

body_by : (f : List Symbol → Bool) (v : Verdict) (r : Row) (P : List Item → Type 0) (i : ℕ) (asks : List Item) (body : List Symbol) → f r.1 ≡ true → ((more : List Item) → P more → f body ≡ true) → ChosenBy v r P i asks body → f body ≡ true
body_by f Holds r P i asks body own later h = ap f h.1 ∙ own
body_by f Fails r P i asks body own later h = later asks h
body_by f (Asks ahead) r P i asks body own later (inl h) = ap f h.1 ∙ own
body_by f (Asks ahead) r P i asks body own later (inr h) = later h.0 h.2

-- what is true of the bodies of all rows is true of the one that is chosen
pub chosen_body : (f : List Symbol → Bool) (rs : List Row) (x y : Terminal) (i : ℕ) (asks : List Item) (body : List Symbol) → all_bodies f rs ≡ true → Chosen rs x y i asks body → f body ≡ true
chosen_body f [] x y i asks body all h = absurd h
chosen_body f (r ∷ rs) x y i asks body all h =
    let p : (f r.1 ≡ true) × (all_bodies f rs ≡ true) = and_both (f r.1) (all_bodies f rs) all in
    body_by f (verdict r.0 x y) r (λ more. Chosen rs x y i more body) i asks body p.0 (λ more c. chosen_body f rs x y i more body p.1 c) h

-- ---- paths

-- a path without its last d scopes
abbrev outer : ℕ → List ℕ → List ℕ
outer zero p = p
outer (suc d) p = outer d (take (length p - 1) p)

longer : (p : List ℕ) (k : ℕ) → length (p ++ k ∷ []) ≡ length p + 1
longer [] k = refl
longer (x ∷ p) k = let h : length (p ++ k ∷ []) ≡ length p + 1 = longer p k in omega (arith, h)

front_of : (p q : List ℕ) → take (length p) (p ++ q) ≡ p
front_of [] q = refl
front_of (x ∷ p) q = ap (λ l. x ∷ l) (front_of p q)

without_end : (p : List ℕ) (k : ℕ) → take (length (p ++ k ∷ []) - 1) (p ++ k ∷ []) ≡ p
without_end p k =
    let h : length (p ++ k ∷ []) ≡ length p + 1 = longer p k in
    let e : length (p ++ k ∷ []) - 1 ≡ length p = omega (arith, h) in
    ap (λ n. take n (p ++ k ∷ [])) e ∙ front_of p (k ∷ [])

shorter_by_one : (p : List ℕ) → length (take (length p - 1) p) ≡ length p - 1
shorter_by_one p = length-take-le (length p - 1) p (omega arith)

within : (p : List ℕ) → 1 ≤ length p → is_file_scope p ≡ false
within [] h = absurd (omega arith)
within (x ∷ p) h = refl

abbrev least : (inside : Bool) → ℕ
least true = 1
least false = 0

-- the scopes that a node below needs
needed : (below inside : Bool) (d n : ℕ) → (not below || (inside || not (is_zero d))) ≡ true → least inside + d ≤ n → least below + 0 ≤ n
needed false inside d n h w = omega arith
needed true true d n h w = omega (arith, w)
needed true false zero n h w = cc
needed true false (suc d) n h w = omega (arith, w)

deep_enough : (inside : Bool) (d n : ℕ) → (inside || not (is_zero d)) ≡ true → least inside + d ≤ n → 1 ≤ n
deep_enough true d n h w = omega (arith, w)
deep_enough false zero n h w = cc
deep_enough false (suc d) n h w = omega (arith, w)

-- ---- the walk

pub asked_present : (asks : List Item) (s : State) → (asked asks s).present ≡ s.present
asked_present [] s = refl
asked_present (Passed i ∷ asks) s = asked_present asks s
asked_present (Due x ∷ asks) s = asked_present asks s
asked_present (Asked i answer ∷ asks) s = asked_present asks (used _ s)

pub asked_declarations : (asks : List Item) (s : State) → (asked asks s).declarations ≡ s.declarations
asked_declarations [] s = refl
asked_declarations (Passed i ∷ asks) s = asked_declarations asks s
asked_declarations (Due x ∷ asks) s = asked_declarations asks s
asked_declarations (Asked i answer ∷ asks) s = asked_declarations asks (used _ s)

-- an action by what it does
module _ (inside : Bool) (d : ℕ) (s y : State) (w : least inside + d ≤ length s.present) where
  abbrev After : Effect → Type 0
  After e =
      (outer (depth_after e d) y.present ≡ outer d s.present) × (least inside + depth_after e d ≤ length y.present) × (LabelsAreInFunctions s → LabelsAreInFunctions y)

  same_place : Flat s y → (outer d y.present ≡ outer d s.present) × (least inside + d ≤ length y.present)
  same_place f = (ap (outer d) f.present, subst (λ p. least inside + d ≤ length p) (sym f.present) w)

  after : (e : Effect) → is_allowed e inside d ≡ true → Does e s y → After e
  after Enters h k =
      let f : Flat (entered_at s k.0) y = k.2 in
      let l : length (s.present ++ next_scope s ∷ []) ≡ length s.present + 1 = longer s.present (next_scope s) in (
        ap (outer (suc d)) f.present ∙ ap (outer d) (without_end s.present (next_scope s)),
        subst (λ p. least inside + suc d ≤ length p) (sym f.present) (omega (arith, l, w)),
        f.labels,
      )
  after Reenters h k =
      let f : Flat (at_scope s (s.present ++ k.0 ∷ [])) y = k.2 in
      let l : length (s.present ++ k.0 ∷ []) ≡ length s.present + 1 = longer s.present k.0 in (
        ap (outer (suc d)) f.present ∙ ap (outer d) (without_end s.present k.0),
        subst (λ p. least inside + suc d ≤ length p) (sym f.present) (omega (arith, l, w)),
        f.labels,
      )
  after Rises h f = by d h w
    where
      by : (d : ℕ) → not (is_zero d) ≡ true → least inside + d ≤ length s.present → (outer (depth_after Rises d) y.present ≡ outer d s.present) × (least inside + depth_after Rises d ≤ length y.present) × (LabelsAreInFunctions s → LabelsAreInFunctions y)
      by zero h w = cc
      by (suc d) h w =
          let l : length (take (length s.present - 1) s.present) ≡ length s.present - 1 = shorter_by_one s.present in (
            ap (outer d) f.present,
            subst (λ p. least inside + d ≤ length p) (sym f.present) (omega (arith, l, w)),
            f.labels,
          )
  after Labels h f =
      let g : Flat s y = f.1 (within s.present (deep_enough inside d (length s.present) h w)) in
      let p = same_place g in (p.0, p.1, g.labels)
  after Clears h f = (ap (outer d) f.present, subst (λ p. least inside + d ≤ length p) (sym f.present) w, f.labels)
  after Names h f = (ap (outer d) f.present, subst (λ p. least inside + d ≤ length p) (sym f.present) w, f.labels)
  after Rests h f = let p = same_place f in (p.0, p.1, f.labels)

module _ (t : Source) (ts : List Terminal) where
  walks : (trees : Trees) (m : NonTerm) (first : Option ℕ) (i : ℕ) (ss : List Symbol) (j : ℕ) (inside : Bool) (d : ℕ) (s : State) → Derives ts trees i ss j → balanced inside d ss ≡ true → least inside + d ≤ length s.present → (walk t m first trees s).fault ≡ None → LabelsAreInFunctions s → ((walk t m first trees s).present ≡ outer d s.present) × LabelsAreInFunctions (walk t m first trees s)
  walks none m first i [] j inside zero s derives fine w sound labels = (refl, labels)
  walks none m first i [] j inside (suc d) s derives fine w sound labels = cc
  walks none m first i (x ∷ ss) j inside d s derives fine w sound labels = absurd derives
  walks (token k next) m first i [] j inside d s derives fine w sound labels = absurd derives
  walks (token k next) m first i (Term x ∷ ss) j inside d s derives fine w sound labels =
      let y = passed t m k s in
      let f : Flat s y = passed_flat t m k s in
      let e : goes_on s y ≡ y = (goes_on_gives s y (none_before t m (Some (unwrap_or first k)) next (goes_on s y) sound)).1 in
      let p : (goes_on s y).present ≡ s.present = ap (λ (z : State). z.present) e ∙ f.present in
      let r = walks next m (Some (unwrap_or first k)) (i + 1) ss j inside d (goes_on s y) derives.2 fine (subst (λ q. least inside + d ≤ length q) (sym p) w) sound (subst LabelsAreInFunctions (sym e) (f.labels labels)) in
      (r.0 ∙ ap (outer d) p, r.1)
  walks (token k next) m first i (Non x ∷ ss) j inside d s derives fine w sound labels = absurd derives
  walks (token k next) m first i (Act x ∷ ss) j inside d s derives fine w sound labels = absurd derives
  walks (action x next) m first i [] j inside d s derives fine w sound labels = absurd derives
  walks (action x next) m first i (Act b ∷ ss) j inside d s derives fine w sound labels =
      let y = acted t m (unwrap_or first s.last) x s in
      let clear : (goes_on s y).fault ≡ None = none_before t m first next (goes_on s y) sound in
      let e : goes_on s y ≡ y = (goes_on_gives s y clear).1 in
      let same : balanced inside d (Act x ∷ ss) ≡ true = ap (λ a. balanced inside d (Act a ∷ ss)) derives.0 ∙ fine in
      let q : (is_allowed (effect x) inside d ≡ true) × (balanced inside (depth_after (effect x) d) ss ≡ true) = and_both (is_allowed (effect x) inside d) (balanced inside (depth_after (effect x) d) ss) same in
      let a : After inside d s y w (effect x) = after inside d s y w (effect x) q.0 (acted_does t m (unwrap_or first s.last) x s (ap (λ (z : State). z.fault) (sym e) ∙ clear)) in
      let r = walks next m first i ss j inside (depth_after (effect x) d) (goes_on s y) derives.1 q.1 (subst (λ (z : State). least inside + depth_after (effect x) d ≤ length z.present) (sym e) a.1) sound (subst LabelsAreInFunctions (sym e) (a.2 labels)) in
      (r.0 ∙ ap (λ (z : State). outer (depth_after (effect x) d) z.present) e ∙ a.0, r.1)
  walks (action x next) m first i (Term b ∷ ss) j inside d s derives fine w sound labels = absurd derives
  walks (action x next) m first i (Non b ∷ ss) j inside d s derives fine w sound labels = absurd derives
  walks (node k asks children next) m first i [] j inside d s derives fine w sound labels = absurd derives
  walks (node k asks children next) m first i (Term b ∷ ss) j inside d s derives fine w sound labels = absurd derives
  walks (node k asks children next) m first i (Act b ∷ ss) j inside d s derives fine w sound labels = absurd derives
  walks (node k asks children next) m first i (Non b ∷ ss) j inside d s derives fine w sound labels =
      let x = asked asks s in
      let below = walk t k None children x in
      let y = ended m k children s below in
      let clear : (unless_failed s y).fault ≡ None = none_before t m first next (unless_failed s y) sound in
      let e : unless_failed s y ≡ y = (unless_gives s y clear).1 in
      let below_clear : below.fault ≡ None = sym (ended_as_fault k children s below) ∙ ap (λ (z : State). z.fault) (sym e) ∙ clear in
      let same : balanced inside d (Non k ∷ ss) ≡ true = ap (λ a. balanced inside d (Non a ∷ ss)) derives.0 ∙ fine in
      let q = and_both (not (is_inside k) || (inside || not (is_zero d))) (balanced inside d ss) same in
      let body : balanced (is_inside b) 0 derives.1 ≡ true = chosen_body (balanced (is_inside b) 0) (rule b) (token_at ts i) (token_at ts (i + 1)) i asks derives.1 (rules_balanced b) derives.3 in
      let p : x.present ≡ s.present = asked_present asks s in
      let deep : least (is_inside k) + 0 ≤ length x.present = subst (λ l. least (is_inside k) + 0 ≤ length l) (sym p) (needed (is_inside k) inside d (length s.present) q.0 w) in
      let r = walks children k None i derives.1 derives.2 (is_inside k) 0 x derives.4 (ap (λ a. balanced (is_inside a) 0 derives.1) derives.0 ∙ body) deep below_clear (subst (λ ds. (c : Declaration) → Contains ds c → c.space ≡ space.Label → is_file_scope c.path ≡ false) (sym (asked_declarations asks s)) labels) in
      let f : Flat below (ended_as k children s below) = ended_as_flat t k children s below in
      let back : (unless_failed s y).present ≡ s.present = ap (λ (z : State). z.present) e ∙ f.present ∙ r.0 ∙ p in
      let rest = walks next m first derives.2 ss j inside d (unless_failed s y) derives.5 q.1 (subst (λ l. least inside + d ≤ length l) (sym back) w) sound (subst LabelsAreInFunctions (sym e) (f.labels r.1)) in
      (rest.0 ∙ ap (outer d) back, rest.1)

pub labels_in_functions : (t : Source) (tree : Trees) (spans : ℕ) → Derives (terminals_of t) tree 0 unit spans → (bound t tree).fault ≡ None → LabelsAreInFunctions (bound t tree)
labels_in_functions t tree spans derives sound =
    (walks t (terminals_of t) tree n.Unit None 0 unit spans false 0 start derives refl (omega arith) sound (λ d there. absurd (omega (arith, there.1)))).1

pub labels_stand_in_functions : LabelsStandInFunctions
labels_stand_in_functions t tree well = labels_in_functions t tree well.spans well.derives well.sound
