-- Each identifier that was asked is used: it is looked up, declares a parameter or is supplied by the compiler.
use Rattle.std.specs.Prelude.{◌≡◌, ◌⊎◌, ℕ, suc, ◌+◌, ◌≤◌, Bool, true, false, not, ◌&&◌, ◌||◌, if◌then◌else◌, Option, Some, None, unwrap_or, List, [], ◌∷◌, ◌++◌, map, length, Contains}
use Rattle.std.specs.List.{list_any}
use Rattle.std.proofs.Common.{refl, sym, ◌∙◌, ap, subst, inl, inr, arith}
use Rattle.std.proofs.lemmas.List.Elements.{Contains-append_cases}
use Rattle.cr_base.specs.declared.Kind.TheVariants as kind
use Rattle.cr_base.specs.declared.cause.IllCause.TheVariants as cause
use Rattle.cr_base.specs.declared.token.TokKind.{TokKind}
use Rattle.cr_base.specs.declared.token.TokKind.TheVariants as k
use Rattle.cr_grammar.specs.declared.symbols.NonTerm.{NonTerm}
use Rattle.cr_grammar.specs.declared.symbols.NonTerm.TheVariants as n
use Rattle.cr_grammar.specs.declared.symbols.Action.{Action}
use Rattle.cr_grammar.specs.declared.symbols.Action.TheVariants as a
use Rattle.cr_grammar.specs.declared.symbols.Symbol.{Symbol}
use Rattle.cr_grammar.specs.declared.symbols.Symbol.TheVariants.{Term, Non, Act}
use Rattle.cr_grammar.specs.Grammar.{rule}
use Rattle.cr_ll.specs.Guards.{Terminal, token_at, is_name, is_spelled_kind}
use Rattle.cr_ll.specs.Derivation.{Item, Passed, Due, Asked, Trees, none, token, action, node, Chosen, Derives}
use Rattle.cr_ll.specs.Laws.{unit}
use Rattle.cr_scope.specs.declared.Space.TheVariants as space
use Rattle.cr_scope.specs.declared.Linkage.TheVariants as linkage
use Rattle.cr_scope.specs.Redeclaration.{clashes}
use Rattle.cr_types.specs.Types.{CType}
use Rattle.cr_typing.specs.ExpressionTypes.{decayed}
use Rattle.cr_binding.specs.Source.{Source, is_identifier}
use Rattle.cr_binding.specs.State.{Declaration, IsParameter, WasAsked, State, start}
use Rattle.cr_binding.specs.Entities.{entry}
use Rattle.cr_binding.specs.Declaring.{failed, used, declaration, declare_parameter}
use Rattle.cr_binding.specs.Specifying.{declared_type}
use Rattle.cr_binding.specs.Scoping.{next_scope, unless_failed}
use Rattle.cr_binding.specs.Actions.{passed, acted}
use Rattle.cr_binding.specs.Binding.{ended, asked, goes_on, walk, bound}
use Rattle.cr_binding.specs.WellFormed.{IsWellFormed, terminals_of}
use Rattle.cr_binding.specs.BindingGrows.{Extends, Grows}
use Rattle.cr_binding.proofs.Done.{none_before, unless_gives, goes_on_gives}
use Rattle.cr_binding.proofs.Growing.{itself, followed, binding_grows}
use Rattle.cr_binding_law.specs.AskedIdentifiers.{IsParameterLater, AsksAreUsed}
use Rattle.cr_binding_law.proofs.Consistent.{head_or_tail}
use Rattle.cr_binding_law.proofs.Growth.{last_there}
use Rattle.cr_binding_law.proofs.Parsing.{LooksLike, terminal_kind, chosen_alike}
use Rattle.cr_binding_law.proofs.Balanced.{all_bodies, and_both, chosen_body, asked_present, asked_declarations}
use Rattle.cr_binding_law.proofs.Scoped.{Flat, AsksStay, IsBounded, Effect, Enters, Reenters, Rises, Labels, Clears, Names, Rests, effect, Does, acted_does, passed_flat, ended_as_flat}
use Rattle.cr_binding_law.proofs.Bounded.{Reached, is_quiet, stays_below, keeps_name, quiet_name, node_name, walk_name, body_quiet, asked_name, asked_bounded, token_bounded, action_bounded, walk_bounded, ended_bounded, start_bounded}
use Rattle.cr_binding_law.proofs.Leading.{name_seen, is_lead, NoColon, Named, below_sound, below_grows, lead_below}
use Rattle.cr_binding_law.proofs.Second.{Mark, seen_as, is_second, IsMarked, at_mark, seconds, chosen_second, second}
use Rattle.cr_binding_law.proofs.Asked.{Tells, is_items, is_pdtor, is_adtor, rules_first, rules_second, rules_marks, asks_tell, items_colon, pdtor_body, adtor_body, first_asks, second_asks}
use Rattle.cr_binding_law.proofs.Declarators.{IsUsed, named_used, inside_used, sufs_named, adtor_no, pdtor_name, asked_scopes}

-- ---- the grammar

abbrev is_param : Action → Bool
is_param a.Param = true
is_param _ = false

-- Behind the declarator of a parameter its name may have been asked; it is used where the parameter is declared.
abbrev out : (waiting : Bool) → List Symbol → Bool
out o [] = o
out o (Term x ∷ ss) = out o ss
out o (Act x ∷ ss) = out (o && not (is_param x)) ss
out o (Non m ∷ ss) = out (o || is_pdtor m) ss

abbrev in_order : (waiting : Bool) → List Symbol → Bool
in_order o [] = true
in_order o (Term x ∷ ss) = in_order o ss
in_order o (Act x ∷ ss) = (not o || is_quiet (effect x)) && in_order (o && not (is_param x)) ss
in_order o (Non m ∷ ss) = (not o || (stays_below m && not (is_pdtor m))) && in_order (o || is_pdtor m) ss

abbrev is_ordered : NonTerm → List Symbol → Bool
is_ordered m body = in_order false body && (is_pdtor m || not (out false body))

rules_ordered : (m : NonTerm) → all_bodies (is_ordered m) (rule m) ≡ true
unfolding rule
rules_ordered n.Unit = refl
rules_ordered n.External = refl
rules_ordered n.ExtTail = refl
rules_ordered n.ExtNext = refl
rules_ordered n.Decl = refl
rules_ordered n.DeclTail = refl
rules_ordered n.More = refl
rules_ordered n.After = refl
rules_ordered n.InitOpt = refl
rules_ordered n.Static = refl
rules_ordered n.Specs0 = refl
rules_ordered n.SpecsB = refl
rules_ordered n.SpecsT = refl
rules_ordered n.AlignArg = refl
rules_ordered n.Attr = refl
rules_ordered n.AttrOpt = refl
rules_ordered n.Hidden = refl
rules_ordered n.Rec = refl
rules_ordered n.RecTail = refl
rules_ordered n.Members = refl
rules_ordered n.MemTail = refl
rules_ordered n.MemMore = refl
rules_ordered n.MemDtor = refl
rules_ordered n.BitOpt = refl
rules_ordered n.Enum = refl
rules_ordered n.EnumTail = refl
rules_ordered n.Enums = refl
rules_ordered n.EnumVal = refl
rules_ordered n.EnumMore = refl
rules_ordered n.Dtor = refl
rules_ordered n.Quals = refl
rules_ordered n.Sufs = refl
rules_ordered n.Bound = refl
rules_ordered n.Params = refl
rules_ordered n.ParMore = refl
rules_ordered n.Param = refl
rules_ordered n.PDtor = refl
rules_ordered n.ADtor = refl
rules_ordered n.TypeName = refl
rules_ordered n.Items = refl
rules_ordered n.ItemAttr = refl
rules_ordered n.Stmt = refl
rules_ordered n.Sub = refl
rules_ordered n.Else = refl
rules_ordered n.ForInit = refl
rules_ordered n.ExprOpt = refl
rules_ordered n.Expr = refl
rules_ordered n.ExprMore = refl
rules_ordered n.Assign = refl
rules_ordered n.AssTail = refl
rules_ordered n.Cond = refl
rules_ordered n.CondTail = refl
rules_ordered n.Bin1 = refl
rules_ordered n.Bin2 = refl
rules_ordered n.Bin3 = refl
rules_ordered n.Bin4 = refl
rules_ordered n.Bin5 = refl
rules_ordered n.Bin6 = refl
rules_ordered n.Bin7 = refl
rules_ordered n.Bin8 = refl
rules_ordered n.Bin9 = refl
rules_ordered n.Bin10 = refl
rules_ordered n.Tail1 = refl
rules_ordered n.Tail2 = refl
rules_ordered n.Tail3 = refl
rules_ordered n.Tail4 = refl
rules_ordered n.Tail5 = refl
rules_ordered n.Tail6 = refl
rules_ordered n.Tail7 = refl
rules_ordered n.Tail8 = refl
rules_ordered n.Tail9 = refl
rules_ordered n.Tail10 = refl
rules_ordered n.Cast = refl
rules_ordered n.CastTail = refl
rules_ordered n.Unary = refl
rules_ordered n.SizeTail = refl
rules_ordered n.SizeLit = refl
rules_ordered n.PostTail = refl
rules_ordered n.Args = refl
rules_ordered n.ArgMore = refl
rules_ordered n.Primary = refl
rules_ordered n.Assoc = refl
rules_ordered n.AssMore = refl
rules_ordered n.OffTail = refl
rules_ordered n.Init = refl
rules_ordered n.Braces = refl
rules_ordered n.BraceIn = refl
rules_ordered n.BraceMore = refl
rules_ordered n.Item = refl
rules_ordered n.Desigs = refl
rules_ordered n.DesMore = refl
rules_ordered n.Mod = refl

either_of : (a b : Bool) → (a || b) ≡ true → (a ≡ true) ⊎ (b ≡ true)
either_of true b h = inl refl
either_of false b h = inr h

implied : (a b : Bool) → (not a || b) ≡ true → a ≡ true → b ≡ true
implied true b h g = h
implied false b h g = cc

items_only : (m : NonTerm) → is_items m ≡ true → m ≡ n.Items
items_only n.Items h = refl
items_only _ h = cc

pdtor_only : (m : NonTerm) → is_pdtor m ≡ true → m ≡ n.PDtor
pdtor_only n.PDtor h = refl
pdtor_only _ h = cc

adtor_only : (m : NonTerm) → is_adtor m ≡ true → m ≡ n.ADtor
adtor_only n.ADtor h = refl
adtor_only _ h = cc

identifier_kind : (q : TokKind) → is_name q ≡ true → q ≡ k.Ident
identifier_kind k.Ident h = refl
identifier_kind _ h = cc

unspelled : (q : TokKind) → q ≡ k.Ident → is_spelled_kind q ≡ true → ⊥
unspelled q e h = differ (ap is_spelled_kind (sym e) ∙ h)
  where
    differ : false ≡ true → ⊥
    differ e = cc

asked_true : (p q : ℕ) (b c : Bool) → Asked p b ≡ Asked q c → (p ≡ q) × (b ≡ c)
asked_true p q b c e = let x : p ≡ q = cc in let y : b ≡ c = cc in (x, y)

only_ask : (p q : ℕ) (b c : Bool) (asks : List Item) → asks ≡ Asked q c ∷ [] → Contains asks (Asked p b) → (q ≡ p) × (c ≡ b)
only_ask p q b c asks e there = elim (head_or_tail (Asked q c) (Asked p b) [] (subst (λ l. Contains l (Asked p b)) e there)) [
  | inl h ↦ asked_true q p c b h
  | inr h ↦ absurd (omega (arith, h.1))
]

-- ---- asks

abbrev IsNew : List Item → State → ℕ → List ℕ → ℕ → Bool → Type 0
IsNew asks s p path before answer =
    Contains asks (Asked p answer) × (s.present ≡ path) × (length s.declarations ≡ before)

was_one : (p q : ℕ) (x y : List ℕ) (b c : ℕ) (d e : Bool) → WasAsked p x b d ≡ WasAsked q y c e → (p ≡ q) × (x ≡ y) × (b ≡ c) × (d ≡ e)
was_one p q x y b c d e h =
    let i : p ≡ q = cc in let j : x ≡ y = cc in let k : b ≡ c = cc in let l : d ≡ e = cc in (i, j, k, l)

behind : (x : Item) (asks : List Item) (s : State) (p : ℕ) (path : List ℕ) (before : ℕ) (answer : Bool) → IsNew asks s p path before answer → IsNew (x ∷ asks) s p path before answer
behind x asks s p path before answer h = ((suc h.0.0, omega (arith, h.0.1), h.0.2), h.1, h.2)

asked_new : (asks : List Item) (s : State) (p : ℕ) (path : List ℕ) (before : ℕ) (answer : Bool) → Contains (asked asks s).uses (WasAsked p path before answer) → Contains s.uses (WasAsked p path before answer) ⊎ IsNew asks s p path before answer
asked_new [] s p path before answer there = inl there
asked_new (Passed i ∷ asks) s p path before answer there = elim (asked_new asks s p path before answer there) [ inl h ↦ inl h | inr h ↦ inr (behind (Passed i) asks s p path before answer h) ]
asked_new (Due x ∷ asks) s p path before answer there = elim (asked_new asks s p path before answer there) [ inl h ↦ inl h | inr h ↦ inr (behind (Due x) asks s p path before answer h) ]
asked_new (Asked i b ∷ asks) s p path before answer there =
    by (asked_new asks (used (WasAsked i s.present (length s.declarations) b) s) p path before answer there)
  where
    own : Contains s.uses (WasAsked p path before answer) ⊎ Contains (WasAsked i s.present (length s.declarations) b ∷ []) (WasAsked p path before answer) → Contains s.uses (WasAsked p path before answer) ⊎ IsNew (Asked i b ∷ asks) s p path before answer
    own (inl h) = inl h
    own (inr h) = elim (head_or_tail (WasAsked i s.present (length s.declarations) b) (WasAsked p path before answer) [] h) [
      | inl e ↦
          (let q = was_one i p s.present path (length s.declarations) before b answer e in
          inr ((0, omega arith, ap (λ z. Asked z b) q.0 ∙ ap (λ z. Asked p z) q.3), q.1, q.2))
      | inr e ↦ absurd (omega (arith, e.1))
    ]

    by : Contains (s.uses ++ WasAsked i s.present (length s.declarations) b ∷ []) (WasAsked p path before answer) ⊎ IsNew asks (used (WasAsked i s.present (length s.declarations) b) s) p path before answer → Contains s.uses (WasAsked p path before answer) ⊎ IsNew (Asked i b ∷ asks) s p path before answer
    by (inl h) =
        own (Contains-append_cases s.uses (WasAsked i s.present (length s.declarations) b ∷ []) (WasAsked p path before answer) h)
    by (inr h) = inr (behind (Asked i b) asks s p path before answer h)

does_ask : (e : Effect) (s y : State) → Does e s y → AsksStay s y
does_ask Enters s y f = f.2.asks
does_ask Reenters s y f = f.2.asks
does_ask Rises s y f = f.asks
does_ask Labels s y f = f.0.asks
does_ask Clears s y f = f.asks
does_ask Names s y f = f.asks
does_ask Rests s y f = f.asks

param_quiet : (x : Action) → is_param x ≡ true → x ≡ a.Param
param_quiet a.Param h = refl
param_quiet _ h = cc

module _ (t : Source) (end : State) where
  abbrev tok : ℕ → Terminal
  tok i = token_at (terminals_of t) i

  -- ---- the asks of one node

  is_id : (i : ℕ) → is_name (tok i).kind ≡ true → is_identifier t i ≡ true
  is_id i h = ap is_name (sym (terminal_kind t.texts t.tokens i)) ∙ h

  looks : (i : ℕ) → is_name (tok i).kind ≡ true → LooksLike name_seen (tok i)
  looks i h =
      record { kind = identifier_kind (tok i).kind h; text = λ e. absurd (unspelled k.Ident refl e) }

  seen_so : (i : ℕ) → is_name (tok i).kind ≡ true → LooksLike (tok i) name_seen
  seen_so i h =
      record { kind = sym (identifier_kind (tok i).kind h); text = λ e. absurd (unspelled (tok i).kind (identifier_kind (tok i).kind h) e) }

  module _ (q x : NonTerm) (asks : List Item) (children : Trees) (i : ℕ) (body : List Symbol) (j : ℕ) (s : State) (chosen : Chosen (rule x) (tok i) (tok (i + 1)) i asks body) (derives : Derives (terminals_of t) children i body j) (sound : (walk t q None children (asked asks s)).fault ≡ None) (g : Grows (walk t q None children (asked asks s)) end) (bounded : IsBounded s) (more : Extends s.declarations end.declarations) where
    abbrev below : State
    below = walk t q None children (asked asks s)

    -- used, or the name of a parameter that was not declared yet
    abbrev Own : ℕ → Bool → Type 0
    Own p answer =
        IsUsed t end p s.present (length s.declarations) answer
        ⊎ ((is_pdtor x ≡ true) × (answer ≡ false) × (below.pending.name ≡ Some p))

    first_own : (p : ℕ) (answer : Bool) → Contains asks (Asked p answer) → p ≡ i → is_name (tok i).kind ≡ true → first_asks (rule x) ≡ true → Own p answer
    first_own p answer there at h f = by (either_of (is_lead false x) (is_items x) (implied (first_asks (rule x)) (is_lead false x || is_items x) (rules_first x) f))
      where
        ready : Named t end s.present s.declarations i → Own p answer
        ready r = inl (named_used t end s p answer more (subst (λ z. Named t end s.present s.declarations z) (sym at) r))

        free : NoColon false (tok (i + 1))
        free h = cc

        items : is_items x ≡ true → NoColon true (tok (i + 1))
        items e z =
            items_colon (tok (i + 1)) i asks body (Asked p answer)
            (chosen_alike (rule n.Items) (tok i) (tok (i + 1)) name_seen (tok (i + 1)) i asks body (seen_so i h) (record { kind = refl; text = λ e. refl }) (subst (λ z. Chosen (rule z) (tok i) (tok (i + 1)) i asks body) (items_only x e) chosen)) there

        by : (is_lead false x ≡ true) ⊎ (is_items x ≡ true) → Own p answer
        by (inl l) = ready (lead_below t end q x asks children i body j false s l chosen derives (is_id i h) (looks i h) free sound g)
        by (inr l) =
            ready (lead_below t end q x asks children i body j true s (ap (is_lead true) (items_only x l)) chosen derives (is_id i h) (looks i h) (items l) sound g)

    -- behind a parenthesis
    inside : (p : ℕ) (answer : Bool) → p ≡ i + 1 → Named t end ((asked asks s).present ++ next_scope (asked asks s) ∷ []) (asked asks s).declarations (i + 1) → Own p answer
    inside p answer at r =
        inl (inside_used t end s p answer more bounded
        (subst (λ z. Named t end (s.present ++ next_scope s ∷ []) s.declarations z) (sym at)
        (subst (λ l. Named t end l s.declarations (i + 1)) (ap (λ l. l ++ next_scope (asked asks s) ∷ []) (asked_present asks s) ∙ ap (λ c. s.present ++ (c + 1) ∷ []) (asked_scopes asks s))
        (subst (λ ds. Named t end ((asked asks s).present ++ next_scope (asked asks s) ∷ []) ds (i + 1)) (asked_declarations asks s) r))))

    second_own : (p : ℕ) (answer : Bool) → Contains asks (Asked p answer) → p ≡ i + 1 → is_name (tok (i + 1)).kind ≡ true → second_asks (rule x) ≡ true → ((m : Mark) × LooksLike (tok i) (seen_as m)) → Own p answer
    second_own p answer there at h f mark =
        by (either_of (is_second x) (is_pdtor x || is_adtor x) (implied (second_asks (rule x)) (is_second x || (is_pdtor x || is_adtor x)) (rules_second x) f))
      where
        at_second : is_second x ≡ true → Own p answer
        at_second e =
            let k : IsMarked t end i = record { mark = mark.0; own = mark.1; sort = is_id (i + 1) h; next = looks (i + 1) h; next_seen = seen_so (i + 1) h } in
            let r : Named t end (asked asks s).present (asked asks s).declarations (i + 1) = second t end children q None i body j (asked asks s) derives (chosen_second (seen_as mark.0) (rule x) i asks body (seconds mark.0 x e) (at_mark t end i k (rule x) asks body chosen)) k sound g in
            inl (named_used t end s p answer more (subst (λ z. Named t end s.present s.declarations z) (sym at) (subst (λ l. Named t end l s.declarations (i + 1)) (asked_present asks s) (subst (λ ds. Named t end (asked asks s).present ds (i + 1)) (asked_declarations asks s) r))))

        at_pdtor : is_pdtor x ≡ true → Own p answer
        at_pdtor e =
            let k : IsMarked t end i = record { mark = mark.0; own = mark.1; sort = is_id (i + 1) h; next = looks (i + 1) h; next_seen = seen_so (i + 1) h } in
            let c : Chosen (rule n.PDtor) (tok i) (tok (i + 1)) i asks body = subst (λ z. Chosen (rule z) (tok i) (tok (i + 1)) i asks body) (pdtor_only x e) chosen in
            let b = pdtor_body mark.0 i asks body (Asked p answer) there (at_mark t end i k (rule n.PDtor) asks body c) in
            elim b.1 [
              | inl w ↦ inside p answer at (sufs_named t end children q None i j (asked asks s) k b.0 (subst (λ l. Derives (terminals_of t) children i l j) w.1 derives) sound g)
              | inr w ↦
                  (let o = only_ask p (i + 1) answer false asks w.0 there in
                  inr (e, sym o.1, pdtor_name t end children q None i j (asked asks s) k (subst (λ l. Derives (terminals_of t) children i l j) w.1 derives) sound ∙ ap Some (sym at)))
            ]

        at_adtor : is_adtor x ≡ true → Own p answer
        at_adtor e =
            let k : IsMarked t end i = record { mark = mark.0; own = mark.1; sort = is_id (i + 1) h; next = looks (i + 1) h; next_seen = seen_so (i + 1) h } in
            let c : Chosen (rule n.ADtor) (tok i) (tok (i + 1)) i asks body = subst (λ z. Chosen (rule z) (tok i) (tok (i + 1)) i asks body) (adtor_only x e) chosen in
            let b = adtor_body mark.0 i asks body (Asked p answer) there (at_mark t end i k (rule n.ADtor) asks body c) in
            elim b.1 [
              | inl w ↦ inside p answer at (sufs_named t end children q None i j (asked asks s) k b.0 (subst (λ l. Derives (terminals_of t) children i l j) w.1 derives) sound g)
              | inr w ↦ absurd (adtor_no t end children i j k (subst (λ l. Derives (terminals_of t) children i l j) w.1 derives))
            ]

        by : (is_second x ≡ true) ⊎ ((is_pdtor x || is_adtor x) ≡ true) → Own p answer
        by (inl e) = at_second e
        by (inr e) = elim (either_of (is_pdtor x) (is_adtor x) e) [ inl f ↦ at_pdtor f | inr f ↦ at_adtor f ]

    own_asks : (p : ℕ) (answer : Bool) → Contains asks (Asked p answer) → Own p answer
    own_asks p answer there = by (asks_tell (rule x) (tok i) (tok (i + 1)) i asks body (rules_marks x) chosen p answer there)
      where
        by : Tells (rule x) (tok i) (tok (i + 1)) i p → Own p answer
        by (inl h) = first_own p answer there h.0 h.1 h.2
        by (inr h) = second_own p answer there h.0 h.1 h.2 h.3

  -- ---- the walk

  -- an ask that waits for its parameter
  abbrev Waits : Bool → Bool → State → ℕ → Type 0
  Waits false answer s p = ⊥
  Waits true answer s p = (answer ≡ false) × (s.pending.name ≡ Some p)

  -- what was asked since a state
  abbrev Since : Bool → State → State → Type 0
  Since o s0 s =
      (p : ℕ) (path : List ℕ) (before : ℕ) (answer : Bool)
      → Contains s.uses (WasAsked p path before answer)
      → Contains s0.uses (WasAsked p path before answer) ⊎ (IsUsed t end p path before answer ⊎ Waits o answer s p)

  waits_on : (o : Bool) (answer : Bool) (s y : State) (p : ℕ) → (o ≡ true → y.pending.name ≡ s.pending.name) → Waits o answer s p → Waits o answer y p
  waits_on true answer s y p e h = (h.0, e refl ∙ h.1)
  waits_on false answer s y p e h = h

  since_on : (o : Bool) (s0 s y : State) → AsksStay s y → (o ≡ true → y.pending.name ≡ s.pending.name) → Since o s0 s → Since o s0 y
  since_on o s0 s y stays e h p path before answer there = elim (h p path before answer (stays p path before answer there)) [
    | inl k ↦ inl k
    | inr k ↦ elim k [ inl u ↦ inr (inl u) | inr v ↦ inr (inr (waits_on o answer s y p e v)) ]
  ]

  param_used : (p : ℕ) (c : CType) (s : State) → (declare_parameter t (Some p) c s).fault ≡ None → Grows (declare_parameter t (Some p) c s) end → IsParameterLater end p false
  param_used p c s h g = by (list_any (clashes (entry t d)) (map (entry t) s.declarations)) h g
    where
      d : Declaration
      d = declaration space.Ordinary kind.Object linkage.None p (decayed c) (used (IsParameter p) s)

      by : (b : Bool) → (if b then failed cause.Redeclared p (used (IsParameter p) s) else record (used (IsParameter p) s) { declarations = s.declarations ++ declaration space.Ordinary kind.Object linkage.None p (decayed c) (used (IsParameter p) s) ∷ [] }).fault ≡ None → Grows (if b then failed cause.Redeclared p (used (IsParameter p) s) else record (used (IsParameter p) s) { declarations = s.declarations ++ declaration space.Ordinary kind.Object linkage.None p (decayed c) (used (IsParameter p) s) ∷ [] }) end → IsParameterLater end p false
      by true h g = cc
      by false h g =
          record {
            denied = refl;
            used = last_there s.uses end.uses (IsParameter p) g.uses;
            itself = declaration space.Ordinary kind.Object linkage.None p (decayed c) (used (IsParameter p) s);
            declared = last_there s.declarations end.declarations _ g.declarations;
            own = refl;
          }

  param_since : (o : Bool) (m : NonTerm) (first : ℕ) (s0 s : State) → (acted t m first a.Param s).fault ≡ None → Grows (acted t m first a.Param s) end → AsksStay s (acted t m first a.Param s) → Since o s0 s → Since false s0 (acted t m first a.Param s)
  param_since o m first s0 s sound g stays h p path before answer there = elim (h p path before answer (stays p path before answer there)) [
    | inl k ↦ inl k
    | inr k ↦ elim k [ inl u ↦ inr (inl u) | inr v ↦ inr (inl (by o v)) ]
  ]
    where
      by : (o : Bool) → Waits o answer s p → IsUsed t end p path before answer
      by false v = absurd v
      by true v =
          let e = ap (λ n. declare_parameter t n (declared_type s) s) v.1 in
          subst (IsUsed t end p path before) (sym v.0)
          (inr (inl (param_used p (declared_type s) s (ap (λ (z : State). z.fault) (sym e) ∙ sound) (subst (λ z. Grows z end) e g))))

  action_since : (o : Bool) (m : NonTerm) (first : ℕ) (x : Action) (s0 s : State) → (not o || is_quiet (effect x)) ≡ true → (acted t m first x s).fault ≡ None → Grows (acted t m first x s) end → Since o s0 s → Since (o && not (is_param x)) s0 (acted t m first x s)
  action_since o m first x s0 s h sound g since = by (is_param x) refl
    where
      same_mode : (o : Bool) → (o && not false) ≡ o
      same_mode true = refl
      same_mode false = refl

      no_mode : (o : Bool) → (o && not true) ≡ false
      no_mode true = refl
      no_mode false = refl

      by : (b : Bool) → is_param x ≡ b → Since (o && not (is_param x)) s0 (acted t m first x s)
      by false e =
          subst (λ z. Since z s0 (acted t m first x s)) (sym (ap (λ b. o && not b) e ∙ same_mode o))
          (since_on o s0 s (acted t m first x s) (does_ask (effect x) s (acted t m first x s) (acted_does t m first x s sound))
          (λ q. quiet_name (effect x) s (acted t m first x s) (implied o (is_quiet (effect x)) h q) (acted_does t m first x s sound)) since)
      by true e =
          let p : x ≡ a.Param = param_quiet x e in
          let stays : AsksStay s (acted t m first x s) = does_ask (effect x) s (acted t m first x s) (acted_does t m first x s sound) in
          subst (λ z. Since z s0 (acted t m first x s)) (sym (ap (λ b. o && not b) e ∙ no_mode o))
          (subst (λ z. Since false s0 (acted t m first z s)) (sym p)
          (param_since o m first s0 s (ap (λ z. (acted t m first z s).fault) (sym p) ∙ sound) (subst (λ z. Grows (acted t m first z s) end) p g) (subst (λ z. AsksStay s (acted t m first z s)) p stays) since))

  whole : (m : NonTerm) (first : Option ℕ) (trees : Trees) (s : State) → Grows (walk t m first trees s) end → Grows s end
  whole m first trees s g = followed s (walk t m first trees s) end (binding_grows t m first trees s) g

  -- ---- what a node leaves

  raised : (o b answer : Bool) (s : State) (p : ℕ) → Waits o answer s p → Waits (o || b) answer s p
  raised true b answer s p h = h
  raised false b answer s p h = absurd h

  opened : (o b answer : Bool) (s : State) (p : ℕ) → b ≡ true → answer ≡ false → s.pending.name ≡ Some p → Waits (o || b) answer s p
  opened true b answer s p e f h = (f, h)
  opened false true answer s p e f h = (f, h)
  opened false false answer s p e f h = cc

  waiting : (o answer : Bool) (s : State) (p : ℕ) → Waits o answer s p → (o ≡ true) × (answer ≡ false) × (s.pending.name ≡ Some p)
  waiting true answer s p h = (refl, h.0, h.1)
  waiting false answer s p h = absurd h

  node_since : (m q x : NonTerm) (asks : List Item) (children : Trees) (s s0 : State) (o : Bool) (body : List Symbol) → q ≡ x → (is_pdtor x || not (out false body)) ≡ true → Since (out false body) (asked asks s) (walk t q None children (asked asks s)) → ((p : ℕ) (answer : Bool) → Contains asks (Asked p answer) → IsUsed t end p s.present (length s.declarations) answer ⊎ ((is_pdtor x ≡ true) × (answer ≡ false) × ((walk t q None children (asked asks s)).pending.name ≡ Some p))) → Since o s0 s → (o ≡ true → (ended m q children s (walk t q None children (asked asks s))).pending.name ≡ s.pending.name) → Since (o || is_pdtor x) s0 (ended m q children s (walk t q None children (asked asks s)))
  node_since m q x asks children s s0 o body same closed r own since keeps p path before answer there =
      by (r p path before answer ((ended_as_flat t q children s (walk t q None children (asked asks s))).asks p path before answer there))
    where
      below_name : is_pdtor x ≡ true → (ended m q children s (walk t q None children (asked asks s))).pending.name ≡ (walk t q None children (asked asks s)).pending.name
      below_name e = renamed (pdtor_only q (ap is_pdtor same ∙ e)) (walk t q None children (asked asks s))
        where
          renamed : q ≡ n.PDtor → (z : State) → (ended m q children s z).pending.name ≡ z.pending.name
          renamed e z = ap (λ r. (ended m r children s z).pending.name) e

      must_be : (a b : Bool) → (a || not b) ≡ true → b ≡ true → a ≡ true
      must_be true b h g = refl
      must_be false true h g = cc
      must_be false false h g = cc

      at_old : Contains s0.uses (WasAsked p path before answer) ⊎ (IsUsed t end p path before answer ⊎ Waits o answer s p) → Contains s0.uses (WasAsked p path before answer) ⊎ (IsUsed t end p path before answer ⊎ Waits (o || is_pdtor x) answer (ended m q children s (walk t q None children (asked asks s))) p)
      at_old (inl h) = inl h
      at_old (inr (inl h)) = inr (inl h)
      at_old (inr (inr h)) =
          inr (inr (raised o (is_pdtor x) answer (ended m q children s (walk t q None children (asked asks s))) p (waits_on o answer s (ended m q children s (walk t q None children (asked asks s))) p keeps h)))

      at_own : s.present ≡ path → length s.declarations ≡ before → IsUsed t end p s.present (length s.declarations) answer ⊎ ((is_pdtor x ≡ true) × (answer ≡ false) × ((walk t q None children (asked asks s)).pending.name ≡ Some p)) → Contains s0.uses (WasAsked p path before answer) ⊎ (IsUsed t end p path before answer ⊎ Waits (o || is_pdtor x) answer (ended m q children s (walk t q None children (asked asks s))) p)
      at_own e f (inl h) =
          inr (inl (subst (λ z. IsUsed t end p path z answer) f (subst (λ z. IsUsed t end p z (length s.declarations) answer) e h)))
      at_own e f (inr h) =
          inr (inr (opened o (is_pdtor x) answer (ended m q children s (walk t q None children (asked asks s))) p h.0 h.1 (below_name h.0 ∙ h.2)))

      at_new : Contains s.uses (WasAsked p path before answer) ⊎ IsNew asks s p path before answer → Contains s0.uses (WasAsked p path before answer) ⊎ (IsUsed t end p path before answer ⊎ Waits (o || is_pdtor x) answer (ended m q children s (walk t q None children (asked asks s))) p)
      at_new (inl h) = at_old (since p path before answer h)
      at_new (inr h) = at_own h.1 h.2 (own p answer h.0)

      by : Contains (asked asks s).uses (WasAsked p path before answer) ⊎ (IsUsed t end p path before answer ⊎ Waits (out false body) answer (walk t q None children (asked asks s)) p) → Contains s0.uses (WasAsked p path before answer) ⊎ (IsUsed t end p path before answer ⊎ Waits (o || is_pdtor x) answer (ended m q children s (walk t q None children (asked asks s))) p)
      by (inl h) = at_new (asked_new asks s p path before answer h)
      by (inr (inl h)) = inr (inl h)
      by (inr (inr h)) =
          let z = waiting (out false body) answer (walk t q None children (asked asks s)) p h in
          let e : is_pdtor x ≡ true = must_be (is_pdtor x) (out false body) closed z.0 in
          inr (inr (opened o (is_pdtor x) answer (ended m q children s (walk t q None children (asked asks s))) p e z.1 (below_name e ∙ z.2)))

  node_bounded : (m q : NonTerm) (asks : List Item) (children : Trees) (s y : State) → y ≡ ended m q children s (walk t q None children (asked asks s)) → (walk t q None children (asked asks s)).fault ≡ None → IsBounded s → IsBounded y
  node_bounded m q asks children s y e sound b =
      let u : Reached s (asked asks s) = asked_bounded asks s b in
      let c : Reached (asked asks s) (walk t q None children (asked asks s)) = walk_bounded t q None children (asked asks s) sound u.0 in
      let l : s.scopes ≤ (asked asks s).scopes = u.1 in
      let k : (asked asks s).scopes ≤ (walk t q None children (asked asks s)).scopes = c.1 in
      subst IsBounded (sym e) (ended_bounded t m q children s (walk t q None children (asked asks s)) b (omega (arith, l, k)) c.0).0

  pub used_along : (trees : Trees) (m : NonTerm) (first : Option ℕ) (i : ℕ) (ss : List Symbol) (j : ℕ) (o : Bool) (s0 s : State) → Derives (terminals_of t) trees i ss j → in_order o ss ≡ true → IsBounded s → Since o s0 s → (walk t m first trees s).fault ≡ None → Grows (walk t m first trees s) end → Since (out o ss) s0 (walk t m first trees s)
  used_along none m first i [] j o s0 s d h b since sound g = since
  used_along none m first i (x ∷ ss) j o s0 s d h b since sound g = absurd d
  used_along (token q next) m first i [] j o s0 s d h b since sound g = absurd d
  used_along (token q next) m first i (Non x ∷ ss) j o s0 s d h b since sound g = absurd d
  used_along (token q next) m first i (Act x ∷ ss) j o s0 s d h b since sound g = absurd d
  used_along (token q next) m first i (Term x ∷ ss) j o s0 s d h b since sound g =
      let y = goes_on s (passed t m q s) in
      let clear : y.fault ≡ None = none_before t m (Some (unwrap_or first q)) next y sound in
      let e = (goes_on_gives s (passed t m q s) clear).1 in
      let f : Flat s (passed t m q s) = passed_flat t m q s in
      let r : Since o s0 y = subst (Since o s0) (sym e) (since_on o s0 s (passed t m q s) f.asks (λ z. f.name) since) in
      used_along next m (Some (unwrap_or first q)) (i + 1) ss j o s0 y d.2 h (token_bounded t m q s clear b).0 r sound g
  used_along (action q next) m first i [] j o s0 s d h b since sound g = absurd d
  used_along (action q next) m first i (Term x ∷ ss) j o s0 s d h b since sound g = absurd d
  used_along (action q next) m first i (Non x ∷ ss) j o s0 s d h b since sound g = absurd d
  used_along (action q next) m first i (Act x ∷ ss) j o s0 s d h b since sound g =
      let v = acted t m (unwrap_or first s.last) q s in
      let y = goes_on s v in
      let clear : y.fault ≡ None = none_before t m first next y sound in
      let e : y ≡ v = (goes_on_gives s v clear).1 in
      let p = and_both (not o || is_quiet (effect x)) (in_order (o && not (is_param x)) ss) h in
      let grown : Grows v end = subst (λ z. Grows z end) e (whole m first next y g) in
      let r : Since (o && not (is_param q)) s0 v = action_since o m (unwrap_or first s.last) q s0 s (ap (λ z. not o || is_quiet (effect z)) d.0 ∙ p.0) (ap (λ (z : State). z.fault) (sym e) ∙ clear) grown since in
      let r2 : Since (o && not (is_param x)) s0 y = subst (λ z. Since (o && not (is_param z)) s0 y) d.0 (subst (Since (o && not (is_param q)) s0) (sym e) r) in
      used_along next m first i ss j (o && not (is_param x)) s0 y d.1 p.1 (action_bounded t m (unwrap_or first s.last) q s clear b).0 r2 sound g
  used_along (node q asks children next) m first i [] j o s0 s d h b since sound g = absurd d
  used_along (node q asks children next) m first i (Term x ∷ ss) j o s0 s d h b since sound g = absurd d
  used_along (node q asks children next) m first i (Act x ∷ ss) j o s0 s d h b since sound g = absurd d
  used_along (node q asks children next) m first i (Non x ∷ ss) j o s0 s d h b since sound g =
      let u = asked asks s in
      let below = walk t q None children u in
      let v = ended m q children s below in
      let y = unless_failed s v in
      let clear : y.fault ≡ None = none_before t m first next y sound in
      let e : y ≡ v = (unless_gives s v clear).1 in
      let below_clear : below.fault ≡ None = below_sound t end m first q asks children next s sound in
      let below_grown : Grows below end = below_grows t end m first q asks children next s sound g in
      let p = and_both (not o || (stays_below x && not (is_pdtor x))) (in_order (o || is_pdtor x) ss) h in
      let body : is_ordered x d.1 ≡ true = chosen_body (is_ordered x) (rule x) (tok i) (tok (i + 1)) i asks d.1 (rules_ordered x) d.3 in
      let c = and_both (in_order false d.1) (is_pdtor x || not (out false d.1)) body in
      let ub : Reached s u = asked_bounded asks s b in
      let r : Since (out false d.1) u below = used_along children q None i d.1 d.2 false u u d.4 c.0 ub.0 (λ p path before answer there. inl there) below_clear below_grown in
      let own = own_asks q x asks children i d.1 d.2 s d.3 d.4 below_clear below_grown b ((whole m first (node q asks children next) s g).declarations) in
      let keeps : o ≡ true → v.pending.name ≡ s.pending.name = λ z.
      let k = and_both (stays_below x) (not (is_pdtor x)) (implied o (stays_below x && not (is_pdtor x)) p.0 z) in
      node_name t (terminals_of t) m q children s below (ap stays_below d.0 ∙ k.0) (λ w. walk_name t (terminals_of t) children q None i d.1 d.2 u d.4 (body_quiet t (terminals_of t) x i asks d.1 (ap keeps_name (sym d.0) ∙ w) d.3) below_clear ∙ asked_name asks s) in
      let w : Since (o || is_pdtor x) s0 v = node_since m q x asks children s s0 o d.1 d.0 c.1 r own since keeps in
      let bounds : IsBounded y = node_bounded m q asks children s y e below_clear b in
      used_along next m first d.2 ss j (o || is_pdtor x) s0 y d.5 p.1 bounds (subst (Since (o || is_pdtor x) s0) (sym e) w) sound g

pub asks_are_used : (t : Source) (tree : Trees) → IsWellFormed t tree → AsksAreUsed t (bound t tree)
asks_are_used t tree well p path before answer there =
    by (used_along t (bound t tree) tree n.Unit None 0 unit well.spans false start start well.derives refl start_bounded (λ p path before answer there. inl there) well.sound (itself (bound t tree)) p path before answer there)
  where
    by : Contains start.uses (WasAsked p path before answer) ⊎ (IsUsed t (bound t tree) p path before answer ⊎ ⊥) → IsUsed t (bound t tree) p path before answer
    by (inl h) = absurd (omega (arith, h.1))
    by (inr (inl h)) = h
    by (inr (inr h)) = absurd h
