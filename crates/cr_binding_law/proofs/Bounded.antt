-- Scopes on paths were entered before, and few nodes leave another name to be declared.
use Rattle.std.specs.Prelude.{◌≡◌, ◌⊎◌, ℕ, zero, suc, ◌+◌, ◌-◌, ◌≤◌, Bool, true, false, not, ◌&&◌, ◌||◌, if◌then◌else◌, Option, Some, None, unwrap_or, List, [], ◌∷◌, ◌++◌, length, take}
use Rattle.std.proofs.Common.{refl, sym, ◌∙◌, ap, subst, inl, inr, arith}
use Rattle.cr_grammar.specs.declared.symbols.NonTerm.{NonTerm}
use Rattle.cr_grammar.specs.declared.symbols.NonTerm.TheVariants as n
use Rattle.cr_grammar.specs.declared.symbols.Action.{Action}
use Rattle.cr_grammar.specs.declared.symbols.Symbol.{Symbol}
use Rattle.cr_grammar.specs.declared.symbols.Symbol.TheVariants.{Term, Non, Act}
use Rattle.cr_grammar.specs.Grammar.{rule}
use Rattle.cr_ll.specs.Guards.{Terminal, token_at}
use Rattle.cr_ll.specs.Derivation.{Item, Passed, Due, Asked, Trees, none, token, action, node, Chosen, Derives}
use Rattle.cr_binding.specs.Source.{Source}
use Rattle.cr_binding.specs.State.{State, start}
use Rattle.cr_binding.specs.Declaring.{used}
use Rattle.cr_binding.specs.Scoping.{next_scope, unless_failed}
use Rattle.cr_binding.specs.Actions.{passed, acted}
use Rattle.cr_binding.specs.Binding.{has_own_pending, ended_as, ended, asked, goes_on, walk}
use Rattle.cr_binding.proofs.Done.{none_before, unless_gives, goes_on_gives, ended_as_fault}
use Rattle.cr_binding_law.proofs.Balanced.{all_bodies, and_both, chosen_body}
use Rattle.cr_binding_law.proofs.Scoped.{Flat, IsBounded, AllBelow, Effect, Enters, Reenters, Rises, Labels, Clears, Names, Rests, effect, Does, acted_does, passed_flat, ended_as_flat}

-- ---- bounds

more_below : (m n : ℕ) (p : List ℕ) → m ≤ n → AllBelow m p → AllBelow n p
more_below m n [] w b = tt
more_below m n (k ∷ p) w b = (let l : k ≤ m = b.0 in omega (arith, l, w), more_below m n p w b.1)

below_end : (n k : ℕ) (p : List ℕ) → AllBelow n p → k ≤ n → AllBelow n (p ++ k ∷ [])
below_end n k [] b w = (w, tt)
below_end n k (x ∷ p) b w = (b.0, below_end n k p b.1 w)

below_front : (n j : ℕ) (p : List ℕ) → AllBelow n p → AllBelow n (take j p)
below_front n zero p b = by p
  where
    by : (p : List ℕ) → AllBelow n (take 0 p)
    by [] = tt
    by (x ∷ p) = tt
below_front n (suc j) [] b = tt
below_front n (suc j) (x ∷ p) b = (b.0, below_front n j p b.1)

abbrev pub Reached : State → State → Type 0
Reached s y = IsBounded y × (s.scopes ≤ y.scopes)

does_bound : (e : Effect) (s y : State) → Does e s y → IsBounded s → Reached s y
does_bound Enters s y f b =
    let c : y.scopes ≡ next_scope s = f.2.scopes in (
      f.2.bounded (record {
        declared = λ d there. more_below s.scopes (next_scope s) d.path (omega arith) (b.declared d there);
        present = below_end (next_scope s) (next_scope s) s.present (more_below s.scopes (next_scope s) s.present (omega arith) b.present) (omega arith);
        parameters = λ k h. by f.1 k h;
      }),
      omega (arith, c),
    )
  where
    some_one : {a k : ℕ} → Some a ≡ Some k → a ≡ k
    some_one e = cc

    by : (f.0 ≡ s.pending.parameters) ⊎ (f.0 ≡ Some (next_scope s)) → (k : ℕ) → f.0 ≡ Some k → k ≤ next_scope s
    by (inl e) k h = let w : k ≤ s.scopes = b.parameters k (sym e ∙ h) in omega (arith, w)
    by (inr e) k h = let q : next_scope s ≡ k = some_one (sym e ∙ h) in omega (arith, q)
does_bound Reenters s y f b =
    let c : y.scopes ≡ s.scopes = f.2.scopes in
    (f.2.bounded (record { declared = b.declared; present = below_end s.scopes f.0 s.present b.present (b.parameters f.0 f.1); parameters = b.parameters }), omega (arith, c))
does_bound Rises s y f b =
    let c : y.scopes ≡ s.scopes = f.scopes in
    (f.bounded (record { declared = b.declared; present = below_front s.scopes (length s.present - 1) s.present b.present; parameters = b.parameters }), omega (arith, c))
does_bound Labels s y f b = let c : y.scopes ≡ s.scopes = f.0.scopes in (f.0.bounded b, omega (arith, c))
does_bound Clears s y f b =
    let c : y.scopes ≡ s.scopes = f.scopes in
    (f.bounded (record { declared = b.declared; present = b.present; parameters = λ k h. none_some h }), omega (arith, c))
  where
    none_some : {P : Type 0} {k : ℕ} → None ≡ Some k → P
    none_some e = cc
does_bound Names s y f b =
    let c : y.scopes ≡ s.scopes = f.scopes in
    (f.bounded (record { declared = b.declared; present = b.present; parameters = λ k h. none_some h }), omega (arith, c))
  where
    none_some : {P : Type 0} {k : ℕ} → None ≡ Some k → P
    none_some e = cc
does_bound Rests s y f b = let c : y.scopes ≡ s.scopes = f.scopes in (f.bounded b, omega (arith, c))

pub asked_bounded : (asks : List Item) (s : State) → IsBounded s → Reached s (asked asks s)
asked_bounded [] s b = (b, omega arith)
asked_bounded (Passed i ∷ asks) s b = asked_bounded asks s b
asked_bounded (Due x ∷ asks) s b = asked_bounded asks s b
asked_bounded (Asked i answer ∷ asks) s b =
    asked_bounded asks (used _ s) (record { declared = b.declared; present = b.present; parameters = b.parameters })

-- a node puts back what was pending, or leaves what is
pub ended_bounded : (t : Source) (above m : NonTerm) (children : Trees) (before s : State) → IsBounded before → before.scopes ≤ s.scopes → IsBounded s → Reached before (ended above m children before s)
ended_bounded t above m children before s bb w b =
    let f : Flat s (ended_as m children before s) = ended_as_flat t m children before s in
    let c : IsBounded (ended_as m children before s) = f.bounded b in
    let e : (ended_as m children before s).scopes ≡ s.scopes = f.scopes in
    (record { declared = c.declared; present = c.present; parameters = λ k h. by (has_own_pending m) k h }, omega (arith, w, e))
  where
    by : (b : Bool) (k : ℕ) → (if b then before.pending else (ended_as m children before s).pending).parameters ≡ Some k → k ≤ (ended_as m children before s).scopes
    by true k h =
        let q : k ≤ before.scopes = bb.parameters k h in
        let f : (ended_as m children before s).scopes ≡ s.scopes = (ended_as_flat t m children before s).scopes in
        omega (arith, q, w, f)
    by false k h = ((ended_as_flat t m children before s).bounded b).parameters k h

module _ (t : Source) where
  pub token_bounded : (m : NonTerm) (i : ℕ) (s : State) → (goes_on s (passed t m i s)).fault ≡ None → IsBounded s → Reached s (goes_on s (passed t m i s))
  token_bounded m i s clear b =
      let e = (goes_on_gives s (passed t m i s) clear).1 in
      let f : Flat s (passed t m i s) = passed_flat t m i s in
      let c : (passed t m i s).scopes ≡ s.scopes = f.scopes in
      subst (Reached s) (sym e) (f.bounded b, omega (arith, c))

  pub action_bounded : (m : NonTerm) (first : ℕ) (x : Action) (s : State) → (goes_on s (acted t m first x s)).fault ≡ None → IsBounded s → Reached s (goes_on s (acted t m first x s))
  action_bounded m first x s clear b =
      let e = (goes_on_gives s (acted t m first x s) clear).1 in
      subst (Reached s) (sym e)
      (does_bound (effect x) s (acted t m first x s) (acted_does t m first x s (ap (λ (z : State). z.fault) (sym e) ∙ clear)) b)

  pub walk_bounded : (m : NonTerm) (first : Option ℕ) (trees : Trees) (s : State) → (walk t m first trees s).fault ≡ None → IsBounded s → Reached s (walk t m first trees s)
  walk_bounded m first none s sound b = (b, omega arith)
  walk_bounded m first (token i next) s sound b =
      let y = goes_on s (passed t m i s) in
      let p : Reached s y = token_bounded m i s (none_before t m (Some (unwrap_or first i)) next y sound) b in
      let r : Reached y (walk t m (Some (unwrap_or first i)) next y) = walk_bounded m (Some (unwrap_or first i)) next y sound p.0 in
      let l : s.scopes ≤ y.scopes = p.1 in
      let k : y.scopes ≤ (walk t m (Some (unwrap_or first i)) next y).scopes = r.1 in
      (r.0, omega (arith, l, k))
  walk_bounded m first (action x next) s sound b =
      let y = goes_on s (acted t m (unwrap_or first s.last) x s) in
      let p : Reached s y = action_bounded m (unwrap_or first s.last) x s (none_before t m first next y sound) b in
      let r : Reached y (walk t m first next y) = walk_bounded m first next y sound p.0 in
      let l : s.scopes ≤ y.scopes = p.1 in
      let k : y.scopes ≤ (walk t m first next y).scopes = r.1 in
      (r.0, omega (arith, l, k))
  walk_bounded m first (node q asks children next) s sound b =
      let below = walk t q None children (asked asks s) in
      let z = ended m q children s below in
      let y = unless_failed s z in
      let clear : y.fault ≡ None = none_before t m first next y sound in
      let e : y ≡ z = (unless_gives s z clear).1 in
      let below_clear : below.fault ≡ None = sym (ended_as_fault q children s below) ∙ ap (λ (z : State). z.fault) (sym e) ∙ clear in
      let a : Reached s (asked asks s) = asked_bounded asks s b in
      let c : Reached (asked asks s) below = walk_bounded q None children (asked asks s) below_clear a.0 in
      let l : s.scopes ≤ (asked asks s).scopes = a.1 in
      let k : (asked asks s).scopes ≤ below.scopes = c.1 in
      let d : Reached s y = subst (Reached s) (sym e) (ended_bounded t m q children s below b (omega (arith, l, k)) c.0) in
      let r : Reached y (walk t m first next y) = walk_bounded m first next y sound d.0 in
      let u : s.scopes ≤ y.scopes = d.1 in
      let v : y.scopes ≤ (walk t m first next y).scopes = r.1 in
      (r.0, omega (arith, u, v))

pub start_bounded : IsBounded start
start_bounded =
    record { declared = λ d there. absurd (omega (arith, there.1)); present = tt; parameters = λ k h. none_some h }
  where
    none_some : {P : Type 0} {k : ℕ} → None ≡ Some k → P
    none_some e = cc

-- ---- the name that is declared

abbrev pub keeps_name : NonTerm → Bool
keeps_name n.Unit = false
keeps_name n.External = false
keeps_name n.ExtTail = false
keeps_name n.ExtNext = false
keeps_name n.Decl = false
keeps_name n.DeclTail = false
keeps_name n.More = false
keeps_name n.MemTail = false
keeps_name n.MemDtor = false
keeps_name n.MemMore = false
keeps_name n.Dtor = false
keeps_name n.PDtor = false
keeps_name n.Items = false
keeps_name n.ItemAttr = false
keeps_name n.Stmt = false
keeps_name n.Sub = false
keeps_name n.Else = false
keeps_name n.ForInit = false
keeps_name n.Members = false
keeps_name n.Param = false
keeps_name n.TypeName = false
keeps_name _ = true

abbrev pub is_quiet : Effect → Bool
is_quiet Clears = false
is_quiet Names = false
is_quiet _ = true

abbrev pub stays_below : NonTerm → Bool
stays_below m = has_own_pending m || keeps_name m

abbrev quiet : List Symbol → Bool
quiet [] = true
quiet (Term x ∷ ss) = quiet ss
quiet (Act x ∷ ss) = is_quiet (effect x) && quiet ss
quiet (Non m ∷ ss) = stays_below m && quiet ss

rules_quiet : (m : NonTerm) → (not (keeps_name m) || all_bodies quiet (rule m)) ≡ true
unfolding rule
rules_quiet n.Unit = refl
rules_quiet n.External = refl
rules_quiet n.ExtTail = refl
rules_quiet n.ExtNext = refl
rules_quiet n.Decl = refl
rules_quiet n.DeclTail = refl
rules_quiet n.More = refl
rules_quiet n.After = refl
rules_quiet n.InitOpt = refl
rules_quiet n.Static = refl
rules_quiet n.Specs0 = refl
rules_quiet n.SpecsB = refl
rules_quiet n.SpecsT = refl
rules_quiet n.AlignArg = refl
rules_quiet n.Attr = refl
rules_quiet n.AttrOpt = refl
rules_quiet n.Hidden = refl
rules_quiet n.Rec = refl
rules_quiet n.RecTail = refl
rules_quiet n.Members = refl
rules_quiet n.MemTail = refl
rules_quiet n.MemMore = refl
rules_quiet n.MemDtor = refl
rules_quiet n.BitOpt = refl
rules_quiet n.Enum = refl
rules_quiet n.EnumTail = refl
rules_quiet n.Enums = refl
rules_quiet n.EnumVal = refl
rules_quiet n.EnumMore = refl
rules_quiet n.Dtor = refl
rules_quiet n.Quals = refl
rules_quiet n.Sufs = refl
rules_quiet n.Bound = refl
rules_quiet n.Params = refl
rules_quiet n.ParMore = refl
rules_quiet n.Param = refl
rules_quiet n.PDtor = refl
rules_quiet n.ADtor = refl
rules_quiet n.TypeName = refl
rules_quiet n.Items = refl
rules_quiet n.ItemAttr = refl
rules_quiet n.Stmt = refl
rules_quiet n.Sub = refl
rules_quiet n.Else = refl
rules_quiet n.ForInit = refl
rules_quiet n.ExprOpt = refl
rules_quiet n.Expr = refl
rules_quiet n.ExprMore = refl
rules_quiet n.Assign = refl
rules_quiet n.AssTail = refl
rules_quiet n.Cond = refl
rules_quiet n.CondTail = refl
rules_quiet n.Bin1 = refl
rules_quiet n.Bin2 = refl
rules_quiet n.Bin3 = refl
rules_quiet n.Bin4 = refl
rules_quiet n.Bin5 = refl
rules_quiet n.Bin6 = refl
rules_quiet n.Bin7 = refl
rules_quiet n.Bin8 = refl
rules_quiet n.Bin9 = refl
rules_quiet n.Bin10 = refl
rules_quiet n.Tail1 = refl
rules_quiet n.Tail2 = refl
rules_quiet n.Tail3 = refl
rules_quiet n.Tail4 = refl
rules_quiet n.Tail5 = refl
rules_quiet n.Tail6 = refl
rules_quiet n.Tail7 = refl
rules_quiet n.Tail8 = refl
rules_quiet n.Tail9 = refl
rules_quiet n.Tail10 = refl
rules_quiet n.Cast = refl
rules_quiet n.CastTail = refl
rules_quiet n.Unary = refl
rules_quiet n.SizeTail = refl
rules_quiet n.SizeLit = refl
rules_quiet n.PostTail = refl
rules_quiet n.Args = refl
rules_quiet n.ArgMore = refl
rules_quiet n.Primary = refl
rules_quiet n.Assoc = refl
rules_quiet n.AssMore = refl
rules_quiet n.OffTail = refl
rules_quiet n.Init = refl
rules_quiet n.Braces = refl
rules_quiet n.BraceIn = refl
rules_quiet n.BraceMore = refl
rules_quiet n.Item = refl
rules_quiet n.Desigs = refl
rules_quiet n.DesMore = refl
rules_quiet n.Mod = refl

pub quiet_name : (e : Effect) (s y : State) → is_quiet e ≡ true → Does e s y → y.pending.name ≡ s.pending.name
quiet_name Enters s y h f = f.2.name
quiet_name Reenters s y h f = f.2.name
quiet_name Rises s y h f = f.name
quiet_name Labels s y h f = f.0.name
quiet_name Rests s y h f = f.name
quiet_name Clears s y h f = cc
quiet_name Names s y h f = cc

pub asked_name : (asks : List Item) (s : State) → (asked asks s).pending.name ≡ s.pending.name
asked_name [] s = refl
asked_name (Passed i ∷ asks) s = asked_name asks s
asked_name (Due x ∷ asks) s = asked_name asks s
asked_name (Asked i answer ∷ asks) s = asked_name asks (used _ s)

module _ (t : Source) (ts : List Terminal) where
  pub body_quiet : (m : NonTerm) (i : ℕ) (asks : List Item) (body : List Symbol) → keeps_name m ≡ true → Chosen (rule m) (token_at ts i) (token_at ts (i + 1)) i asks body → quiet body ≡ true
  body_quiet m i asks body h c =
      chosen_body quiet (rule m) (token_at ts i) (token_at ts (i + 1)) i asks body (by (keeps_name m) (all_bodies quiet (rule m)) h (rules_quiet m)) c
    where
      by : (a b : Bool) → a ≡ true → (not a || b) ≡ true → b ≡ true
      by true b h g = g
      by false b h g = cc

  -- what a node leaves
  pub node_name : (above m : NonTerm) (children : Trees) (before s : State) → stays_below m ≡ true → (keeps_name m ≡ true → s.pending.name ≡ before.pending.name) → (ended above m children before s).pending.name ≡ before.pending.name
  node_name above m children before s h keeps = by (has_own_pending m) refl h
    where
      f : Flat s (ended_as m children before s)
      f = ended_as_flat t m children before s

      by : (b : Bool) → has_own_pending m ≡ b → (b || keeps_name m) ≡ true → (if b then before.pending else (ended_as m children before s).pending).name ≡ before.pending.name
      by true e h = refl
      by false e h = (ended_as_flat t m children before s).name ∙ keeps h

  pub walk_name : (trees : Trees) (m : NonTerm) (first : Option ℕ) (i : ℕ) (ss : List Symbol) (j : ℕ) (s : State) → Derives ts trees i ss j → quiet ss ≡ true → (walk t m first trees s).fault ≡ None → (walk t m first trees s).pending.name ≡ s.pending.name
  walk_name none m first i ss j s d h sound = refl
  walk_name (token q next) m first i [] j s d h sound = absurd d
  walk_name (token q next) m first i (Non x ∷ ss) j s d h sound = absurd d
  walk_name (token q next) m first i (Act x ∷ ss) j s d h sound = absurd d
  walk_name (token q next) m first i (Term x ∷ ss) j s d h sound =
      let y = goes_on s (passed t m q s) in
      let e = (goes_on_gives s (passed t m q s) (none_before t m (Some (unwrap_or first q)) next y sound)).1 in
      let f : Flat s (passed t m q s) = passed_flat t m q s in
      walk_name next m (Some (unwrap_or first q)) (i + 1) ss j y d.2 h sound ∙ ap (λ (z : State). z.pending.name) e ∙ f.name
  walk_name (action q next) m first i [] j s d h sound = absurd d
  walk_name (action q next) m first i (Term x ∷ ss) j s d h sound = absurd d
  walk_name (action q next) m first i (Non x ∷ ss) j s d h sound = absurd d
  walk_name (action q next) m first i (Act x ∷ ss) j s d h sound =
      let v = acted t m (unwrap_or first s.last) q s in
      let y = goes_on s v in
      let clear : y.fault ≡ None = none_before t m first next y sound in
      let e : y ≡ v = (goes_on_gives s v clear).1 in
      let p : (is_quiet (effect x) ≡ true) × (quiet ss ≡ true) = and_both (is_quiet (effect x)) (quiet ss) h in
      let n : v.pending.name ≡ s.pending.name = quiet_name (effect q) s v (ap (λ a. is_quiet (effect a)) d.0 ∙ p.0) (acted_does t m (unwrap_or first s.last) q s (ap (λ (z : State). z.fault) (sym e) ∙ clear)) in
      walk_name next m first i ss j y d.1 p.1 sound ∙ ap (λ (z : State). z.pending.name) e ∙ n
  walk_name (node q asks children next) m first i [] j s d h sound = absurd d
  walk_name (node q asks children next) m first i (Term x ∷ ss) j s d h sound = absurd d
  walk_name (node q asks children next) m first i (Act x ∷ ss) j s d h sound = absurd d
  walk_name (node q asks children next) m first i (Non x ∷ ss) j s d h sound =
      let below = walk t q None children (asked asks s) in
      let v = ended m q children s below in
      let y = unless_failed s v in
      let clear : y.fault ≡ None = none_before t m first next y sound in
      let e : y ≡ v = (unless_gives s v clear).1 in
      let below_clear : below.fault ≡ None = sym (ended_as_fault q children s below) ∙ ap (λ (z : State). z.fault) (sym e) ∙ clear in
      let p : (stays_below x ≡ true) × (quiet ss ≡ true) = and_both (stays_below x) (quiet ss) h in
      let n : v.pending.name ≡ s.pending.name = node_name m q children s below (ap stays_below d.0 ∙ p.0) (λ k. walk_name children q None i d.1 d.2 (asked asks s) d.4 (body_quiet x i asks d.1 (ap keeps_name (sym d.0) ∙ k) d.3) below_clear ∙ asked_name asks s) in
      walk_name next m first d.2 ss j y d.5 p.1 sound ∙ ap (λ (z : State). z.pending.name) e ∙ n
