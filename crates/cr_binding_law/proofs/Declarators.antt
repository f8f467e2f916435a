-- Asks in declarators of parameters and type names.
use Rattle.std.specs.Prelude.{◌≡◌, ◌⊎◌, ℕ, suc, ◌+◌, ◌≤◌, Bool, true, false, cond, ◌&&◌, eqb, Option, Some, None, unwrap_or, option_map, List, [], ◌∷◌, ◌++◌, map, length, Contains}
use Rattle.std.proofs.Common.{refl, sym, ◌∙◌, ap, subst, inl, inr, arith}
use Rattle.std.proofs.lemmas.Bool.{eqb-true}
use Rattle.std.proofs.lemmas.List.{append-nil}
use Rattle.cr_grammar.specs.declared.symbols.NonTerm.{NonTerm}
use Rattle.cr_grammar.specs.declared.symbols.NonTerm.TheVariants as n
use Rattle.cr_grammar.specs.declared.symbols.Action.{Action}
use Rattle.cr_grammar.specs.declared.symbols.Action.TheVariants as a
use Rattle.cr_grammar.specs.declared.symbols.Term.TheVariants as w
use Rattle.cr_grammar.specs.declared.symbols.Symbol.{Symbol}
use Rattle.cr_grammar.specs.declared.symbols.Symbol.TheVariants.{Term, Non, Act}
use Rattle.cr_grammar.specs.Grammar.{rule}
use Rattle.cr_ll.specs.declared.guards.Verdict.TheVariants.{Holds, Fails}
use Rattle.cr_ll.specs.Guards.{Terminal, token_at, meets}
use Rattle.cr_ll.specs.Derivation.{Item, Passed, Due, Asked, Trees, none, token, action, node, Chosen, Derives}
use Rattle.cr_scope.specs.declared.Space.{Space}
use Rattle.cr_scope.specs.declared.Space.TheVariants as space
use Rattle.cr_scope.specs.Declarations.{is_prefix, same_space, same_name, depth, depth_seen, last_deepest}
use Rattle.cr_binding.specs.Source.{Source, name_at}
use Rattle.cr_binding.specs.State.{Declaration, LookedUp, State}
use Rattle.cr_binding.specs.Entities.{entry, meaning}
use Rattle.cr_binding.specs.Declaring.{used}
use Rattle.cr_binding.specs.Scoping.{next_scope, entered_in, unless_failed}
use Rattle.cr_binding.specs.Actions.{passed, acted}
use Rattle.cr_binding.specs.Binding.{ended, asked, goes_on, walk}
use Rattle.cr_binding.specs.WellFormed.{terminals_of}
use Rattle.cr_binding.specs.BindingGrows.{Extends, Grows}
use Rattle.cr_binding.proofs.Done.{none_before, unless_gives, goes_on_gives, ended_as_fault}
use Rattle.cr_binding_law.specs.AskedIdentifiers.{IsLookedUpLater, IsParameterLater, IsSuppliedLater}
use Rattle.cr_binding_law.proofs.Parsing.{chosen_alike, meets_alike}
use Rattle.cr_binding_law.proofs.Growth.{front_taken}
use Rattle.cr_binding_law.proofs.Balanced.{asked_present, asked_declarations}
use Rattle.cr_binding_law.proofs.Scoped.{Flat, IsBounded, AllBelow, passed_flat}
use Rattle.cr_binding_law.proofs.Bounded.{walk_name}
use Rattle.cr_binding_law.proofs.Leading.{name_seen, Named, passed_declarations, below_sound, below_grows}
use Rattle.cr_binding_law.proofs.Second.{IsMarked, at_mark, node_next}
use Rattle.cr_binding_law.proofs.Asked.{is_paren, sufs, nested_pdtor, nested_adtor, sufs_body, attr_none, pdtor_id, adtor_id, sufs_id, nothing_spans}

-- ---- a scope that was just entered

prefix_fresh : (m n : ℕ) (q p : List ℕ) → AllBelow m q → m + 1 ≤ n → is_prefix q (p ++ n ∷ []) ≡ is_prefix q p
prefix_fresh m n [] p b w = refl
prefix_fresh m n (x ∷ q) [] b w = by (eqb x n) refl
  where
    by : (c : Bool) → eqb x n ≡ c → (c && is_prefix q []) ≡ false
    by false e = refl
    by true e = let k : x ≡ n = eqb-true x n e in let l : x ≤ m = b.0 in absurd (omega (arith, k, l, w))
prefix_fresh m n (x ∷ q) (y ∷ p) b w = ap (λ c. eqb x y && c) (prefix_fresh m n q p b.1 w)

pub asked_scopes : (asks : List Item) (s : State) → (asked asks s).scopes ≡ s.scopes
asked_scopes [] s = refl
asked_scopes (Passed i ∷ asks) s = asked_scopes asks s
asked_scopes (Due x ∷ asks) s = asked_scopes asks s
asked_scopes (Asked i answer ∷ asks) s = asked_scopes asks (used _ s)

module _ (t : Source) where
  abbrev depth_by : Space → ℕ → Declaration → Bool → Option ℕ
  depth_by sp i d c =
      cond (c && (same_space d.space sp && same_name (name_at t d.token) (name_at t i))) (Some (depth (entry t d))) None

  fresh_depths : (m n : ℕ) (p : List ℕ) (sp : Space) (i : ℕ) (ds : List Declaration) → ((d : Declaration) → Contains ds d → AllBelow m d.path) → m + 1 ≤ n → map (depth_seen (p ++ n ∷ []) sp (name_at t i)) (map (entry t) ds) ≡ map (depth_seen p sp (name_at t i)) (map (entry t) ds)
  fresh_depths m n p sp i [] b w = refl
  fresh_depths m n p sp i (d ∷ ds) b w =
      ap (λ c. depth_by sp i d c ∷ map (depth_seen (p ++ n ∷ []) sp (name_at t i)) (map (entry t) ds)) (prefix_fresh m n d.path p (b d (0, omega arith, refl)) w)
      ∙ ap (λ l. depth_by sp i d (is_prefix d.path p) ∷ l) (fresh_depths m n p sp i ds (λ e there. b e (suc there.0, omega (arith, there.1), there.2)) w)

  fresh_meaning : (m n : ℕ) (p : List ℕ) (i : ℕ) (ds : List Declaration) → ((d : Declaration) → Contains ds d → AllBelow m d.path) → m + 1 ≤ n → meaning t (p ++ n ∷ []) space.Ordinary i ds ≡ meaning t p space.Ordinary i ds
  fresh_meaning m n p i ds b w =
      ap (λ xs. option_map (λ (x : ℕ × ℕ). x.0) (last_deepest 0 xs)) (fresh_depths m n p space.Ordinary i ds b w)

  module _ (end : State) where
    abbrev pub IsUsed : ℕ → List ℕ → ℕ → Bool → Type 0
    IsUsed i path before answer =
        IsLookedUpLater t end i path before ⊎ (IsParameterLater end i answer ⊎ IsSuppliedLater t end i)

    pub named_used : (s : State) (i : ℕ) (answer : Bool) → Extends s.declarations end.declarations → Named t end s.present s.declarations i → IsUsed i s.present (length s.declarations) answer
    named_used s i answer more (inl h) =
        inl (record {
          inner = [];
          denoted = h.0;
          used = subst (λ p. Contains end.uses (LookedUp space.Ordinary i p (length s.declarations) (Some h.0))) (sym (append-nil s.present)) h.2;
          means = ap (meaning t s.present space.Ordinary i) (front_taken s.declarations end.declarations more) ∙ h.1;
        })
    named_used s i answer more (inr h) = inr (inr (record { used = h.0; named = h.1 }))

    pub inside_used : (s : State) (i : ℕ) (answer : Bool) → Extends s.declarations end.declarations → IsBounded s → Named t end (s.present ++ next_scope s ∷ []) s.declarations i → IsUsed i s.present (length s.declarations) answer
    inside_used s i answer more b (inl h) =
        inl (record {
          inner = next_scope s ∷ [];
          denoted = h.0;
          used = h.2;
          means = ap (meaning t s.present space.Ordinary i) (front_taken s.declarations end.declarations more) ∙ sym (fresh_meaning s.scopes (next_scope s) s.present i s.declarations b.declared (omega arith)) ∙ h.1;
        })
    inside_used s i answer more b (inr h) = inr (inr (record { used = h.0; named = h.1 }))

    -- ---- a list of parameters behind a parenthesis

    entered_declarations : (m : NonTerm) (s : State) → (entered_in m s).declarations ≡ s.declarations
    entered_declarations n.Sufs s = refl
    entered_declarations _ s = refl

    enter_acted : (m : NonTerm) (first : ℕ) (x : Action) (s : State) → x ≡ a.Enter → acted t m first x s ≡ entered_in m s
    enter_acted m first x s e = ap (λ x. acted t m first x s) e

    entered_present : (m : NonTerm) (s : State) → (entered_in m s).present ≡ s.present ++ next_scope s ∷ []
    entered_present n.Sufs s = refl
    entered_present _ s = refl

    params_named : (trees : Trees) (m : NonTerm) (first : Option ℕ) (i j : ℕ) (s : State) → Derives (terminals_of t) trees i sufs j → IsMarked t end i → (walk t m first trees s).fault ≡ None → Grows (walk t m first trees s) end → Named t end (s.present ++ next_scope s ∷ []) s.declarations (i + 1)
    params_named (token q (action x next)) m first i j s d k sound g =
        let f1 = Some (unwrap_or first q) in
        let s1 = goes_on s (passed t m q s) in
        let v = acted t m (unwrap_or f1 s1.last) x s1 in
        let s2 = goes_on s1 v in
        let clear2 : s2.fault ≡ None = none_before t m f1 next s2 sound in
        let u = goes_on_gives s1 v clear2 in
        let e1 = (goes_on_gives s (passed t m q s) u.0).1 in
        let f : Flat s (passed t m q s) = passed_flat t m q s in
        let e2 : s2 ≡ entered_in m s1 = u.1 ∙ enter_acted m (unwrap_or f1 s1.last) x s1 d.2.0 in
        let present1 : s1.present ≡ s.present = ap (λ (z : State). z.present) e1 ∙ f.present in
        let scopes1 : s1.scopes ≡ s.scopes = ap (λ (z : State). z.scopes) e1 ∙ f.scopes in
        let declarations1 : s1.declarations ≡ s.declarations = ap (λ (z : State). z.declarations) e1 ∙ passed_declarations t m q s in
        let present2 : s2.present ≡ s.present ++ next_scope s ∷ [] = ap (λ (z : State). z.present) e2 ∙ entered_present m s1 ∙ ap (λ p. p ++ next_scope s1 ∷ []) present1 ∙ ap (λ c. s.present ++ (c + 1) ∷ []) scopes1 in
        let declarations2 : s2.declarations ≡ s.declarations = ap (λ (z : State). z.declarations) e2 ∙ entered_declarations m s1 ∙ declarations1 in
        let r : Named t end s2.present s2.declarations (i + 1) = node_next t end next m f1 (i + 1) (Non n.Params ∷ Term w.RightParen ∷ Act a.Leave ∷ Non n.Sufs ∷ []) j s2 d.2.1 refl k.sort k.next sound g in
        subst (λ p. Named t end p s.declarations (i + 1)) present2 (subst (λ ds. Named t end s2.present ds (i + 1)) declarations2 r)
    params_named (token q none) m first i j s d k sound g = absurd d.2
    params_named (token q (token r next)) m first i j s d k sound g = absurd d.2
    params_named (token q (node r asks children next)) m first i j s d k sound g = absurd d.2
    params_named none m first i j s d k sound g = absurd d
    params_named (action q next) m first i j s d k sound g = absurd d
    params_named (node q asks children next) m first i j s d k sound g = absurd d

    pub sufs_named : (trees : Trees) (m : NonTerm) (first : Option ℕ) (i j : ℕ) (s : State) (k : IsMarked t end i) → is_paren k.mark ≡ true → Derives (terminals_of t) trees i (Non n.Sufs ∷ []) j → (walk t m first trees s).fault ≡ None → Grows (walk t m first trees s) end → Named t end (s.present ++ next_scope s ∷ []) s.declarations (i + 1)
    sufs_named (node q asks children next) m first i j s k h d sound g =
        let b : d.1 ≡ sufs = sufs_body k.mark i asks d.1 h (at_mark t end i k (rule n.Sufs) asks d.1 d.3) in
        let x = asked asks s in
        let r : Named t end (x.present ++ next_scope x ∷ []) x.declarations (i + 1) = params_named children q None i d.2 x (subst (λ l. Derives (terminals_of t) children i l d.2) b d.4) k (below_sound t end m first q asks children next s sound) (below_grows t end m first q asks children next s sound g) in
        subst (λ p. Named t end p s.declarations (i + 1)) (ap (λ p. p ++ next_scope x ∷ []) (asked_present asks s) ∙ ap (λ c. s.present ++ (c + 1) ∷ []) (asked_scopes asks s))
        (subst (λ ds. Named t end (x.present ++ next_scope x ∷ []) ds (i + 1)) (asked_declarations asks s) r)
    sufs_named none m first i j s k h d sound g = absurd d
    sufs_named (token q next) m first i j s k h d sound g = absurd d
    sufs_named (action q next) m first i j s k h d sound g = absurd d

    -- ---- a declarator in parentheses

    abbrev tok : ℕ → Terminal
    tok i = token_at (terminals_of t) i

    seen_name : (i : ℕ) (k : IsMarked t end i) (m : NonTerm) (asks : List Item) (body : List Symbol) → Chosen (rule m) (tok (i + 1)) (tok (i + 1 + 1)) (i + 1) asks body → Chosen (rule m) name_seen (tok (i + 1 + 1)) (i + 1) asks body
    seen_name i k m asks body c =
        chosen_alike (rule m) (tok (i + 1)) (tok (i + 1 + 1)) name_seen (tok (i + 1 + 1)) (i + 1) asks body k.next_seen (record { kind = refl; text = λ e. refl }) c

    -- no abstract declarator begins with an identifier
    pub adtor_no : (trees : Trees) (i j : ℕ) → IsMarked t end i → Derives (terminals_of t) trees i nested_adtor j → ⊥
    adtor_no (token q (node r asks (node x xs inner none) (token z next))) i j k d =
        let e = d.2 in
        let b : e.1 ≡ Non n.Sufs ∷ [] = adtor_id (tok (i + 1 + 1)) (i + 1) asks e.1 (seen_name i k n.ADtor asks e.1 e.3) in
        let f : Derives (terminals_of t) (node x xs inner none) (i + 1) (Non n.Sufs ∷ []) e.2 = subst (λ l. Derives (terminals_of t) (node x xs inner none) (i + 1) l e.2) b e.4 in
        let c : f.1 ≡ [] = sufs_id (tok (i + 1 + 1)) (i + 1) xs f.1 (seen_name i k n.Sufs xs f.1 f.3) in
        let at : f.2 ≡ i + 1 = nothing_spans (terminals_of t) inner (i + 1) f.2 (subst (λ l. Derives (terminals_of t) inner (i + 1) l f.2) c f.4) in
        let same : e.2 ≡ i + 1 = sym f.5 ∙ at in
        let m : meets w.RightParen (tok (i + 1)) ≡ Holds = ap (λ p. meets w.RightParen (tok p)) (sym same) ∙ e.5.1 in
        differ (sym (meets_alike w.RightParen name_seen (tok (i + 1)) k.next) ∙ m)
      where
        differ : Fails ≡ Holds → ⊥
        differ e = cc
    adtor_no (token q (node r asks none next)) i j k d =
        let e = d.2 in
        let b : e.1 ≡ Non n.Sufs ∷ [] = adtor_id (tok (i + 1 + 1)) (i + 1) asks e.1 (seen_name i k n.ADtor asks e.1 e.3) in
        subst (λ l. Derives (terminals_of t) none (i + 1) l e.2) b e.4
    adtor_no (token q (node r asks (token x y) next)) i j k d =
        let e = d.2 in
        let b : e.1 ≡ Non n.Sufs ∷ [] = adtor_id (tok (i + 1 + 1)) (i + 1) asks e.1 (seen_name i k n.ADtor asks e.1 e.3) in
        subst (λ l. Derives (terminals_of t) (token x y) (i + 1) l e.2) b e.4
    adtor_no (token q (node r asks (action x y) next)) i j k d =
        let e = d.2 in
        let b : e.1 ≡ Non n.Sufs ∷ [] = adtor_id (tok (i + 1 + 1)) (i + 1) asks e.1 (seen_name i k n.ADtor asks e.1 e.3) in
        subst (λ l. Derives (terminals_of t) (action x y) (i + 1) l e.2) b e.4
    adtor_no (token q (node r asks (node x xs inner (token y z)) next)) i j k d =
        let e = d.2 in
        let b : e.1 ≡ Non n.Sufs ∷ [] = adtor_id (tok (i + 1 + 1)) (i + 1) asks e.1 (seen_name i k n.ADtor asks e.1 e.3) in
        (subst (λ l. Derives (terminals_of t) (node x xs inner (token y z)) (i + 1) l e.2) b e.4).5
    adtor_no (token q (node r asks (node x xs inner (action y z)) next)) i j k d =
        let e = d.2 in
        let b : e.1 ≡ Non n.Sufs ∷ [] = adtor_id (tok (i + 1 + 1)) (i + 1) asks e.1 (seen_name i k n.ADtor asks e.1 e.3) in
        (subst (λ l. Derives (terminals_of t) (node x xs inner (action y z)) (i + 1) l e.2) b e.4).5
    adtor_no (token q (node r asks (node x xs inner (node y ys z u)) next)) i j k d =
        let e = d.2 in
        let b : e.1 ≡ Non n.Sufs ∷ [] = adtor_id (tok (i + 1 + 1)) (i + 1) asks e.1 (seen_name i k n.ADtor asks e.1 e.3) in
        (subst (λ l. Derives (terminals_of t) (node x xs inner (node y ys z u)) (i + 1) l e.2) b e.4).5
    adtor_no (token q (node r asks (node x xs inner none) none)) i j k d = d.2.5
    adtor_no (token q (node r asks (node x xs inner none) (action y z))) i j k d = d.2.5
    adtor_no (token q (node r asks (node x xs inner none) (node y ys z u))) i j k d = d.2.5
    adtor_no (token q none) i j k d = d.2
    adtor_no (token q (token r next)) i j k d = d.2
    adtor_no (token q (action r next)) i j k d = d.2
    adtor_no none i j k d = d
    adtor_no (action q next) i j k d = d
    adtor_no (node q asks children next) i j k d = d

    -- ---- a parameter's name in parentheses

    -- its own declarator
    id_name : (trees : Trees) (m : NonTerm) (i j : ℕ) (s : State) → Derives (terminals_of t) trees i (Term w.Identifier ∷ Act a.Name ∷ Non n.Sufs ∷ []) j → (walk t m None trees s).fault ≡ None → (walk t m None trees s).pending.name ≡ Some i
    id_name (token q (action x next)) m i j s d sound =
        let s1 = goes_on s (passed t m q s) in
        let v = acted t m q x s1 in
        let s2 = goes_on s1 v in
        let clear2 : s2.fault ≡ None = none_before t m (Some q) next s2 sound in
        let u = goes_on_gives s1 v clear2 in
        let e1 = (goes_on_gives s (passed t m q s) u.0).1 in
        let last : s1.last ≡ i = ap (λ (z : State). z.last) e1 ∙ d.0 in
        walk_name t (terminals_of t) next m (Some q) (i + 1) (Non n.Sufs ∷ []) j s2 d.2.1 refl sound
        ∙ ap (λ (z : State). z.pending.name) u.1
        ∙ ap (λ x. (acted t m q x s1).pending.name) d.2.0
        ∙ ap Some last
    id_name (token q none) m i j s d sound = absurd d.2
    id_name (token q (token r next)) m i j s d sound = absurd d.2
    id_name (token q (node r asks children next)) m i j s d sound = absurd d.2
    id_name none m i j s d sound = absurd d
    id_name (action q next) m i j s d sound = absurd d
    id_name (node q asks children next) m i j s d sound = absurd d

    behind_attr : (trees : Trees) (m : NonTerm) (first : Option ℕ) (i j : ℕ) (s : State) → IsMarked t end i → Derives (terminals_of t) trees (i + 1) (Non n.PDtor ∷ Term w.RightParen ∷ Non n.Sufs ∷ []) j → (walk t m first trees s).fault ≡ None → (walk t m first trees s).pending.name ≡ Some (i + 1)
    behind_attr (node q asks children next) m first i j s k d sound =
        let x = asked asks s in
        let below = walk t q None children x in
        let v = ended m q children s below in
        let y = unless_failed s v in
        let clear : y.fault ≡ None = none_before t m first next y sound in
        let e : y ≡ v = (unless_gives s v clear).1 in
        let below_clear : below.fault ≡ None = sym (ended_as_fault q children s below) ∙ ap (λ (z : State). z.fault) (sym e) ∙ clear in
        let b : d.1 ≡ Term w.Identifier ∷ Act a.Name ∷ Non n.Sufs ∷ [] = pdtor_id (tok (i + 1 + 1)) (i + 1) asks d.1 (seen_name i k n.PDtor asks d.1 d.3) in
        let own : below.pending.name ≡ Some (i + 1) = id_name children q (i + 1) d.2 x (subst (λ l. Derives (terminals_of t) children (i + 1) l d.2) b d.4) below_clear in
        walk_name t (terminals_of t) next m first d.2 (Term w.RightParen ∷ Non n.Sufs ∷ []) j y d.5 refl sound
        ∙ ap (λ (z : State). z.pending.name) e
        ∙ ap (λ r. (ended m r children s below).pending.name) d.0
        ∙ own
    behind_attr none m first i j s k d sound = absurd d
    behind_attr (token q next) m first i j s k d sound = absurd d
    behind_attr (action q next) m first i j s k d sound = absurd d

    pub pdtor_name : (trees : Trees) (m : NonTerm) (first : Option ℕ) (i j : ℕ) (s : State) → IsMarked t end i → Derives (terminals_of t) trees i nested_pdtor j → (walk t m first trees s).fault ≡ None → (walk t m first trees s).pending.name ≡ Some (i + 1)
    pdtor_name (token q (node r asks children next)) m first i j s k d sound =
        let e = d.2 in
        let b : e.1 ≡ [] = attr_none (tok (i + 1 + 1)) (i + 1) asks e.1 (seen_name i k n.AttrOpt asks e.1 e.3) in
        let at : e.2 ≡ i + 1 = nothing_spans (terminals_of t) children (i + 1) e.2 (subst (λ l. Derives (terminals_of t) children (i + 1) l e.2) b e.4) in
        let s1 = goes_on s (passed t m q s) in
        let s2 = unless_failed s1 (ended m r children s1 (walk t r None children (asked asks s1))) in
        behind_attr next m (Some (unwrap_or first q)) i j s2 k (subst (λ p. Derives (terminals_of t) next p (Non n.PDtor ∷ Term w.RightParen ∷ Non n.Sufs ∷ []) j) at e.5) sound
    pdtor_name (token q none) m first i j s k d sound = absurd d.2
    pdtor_name (token q (token r next)) m first i j s k d sound = absurd d.2
    pdtor_name (token q (action r next)) m first i j s k d sound = absurd d.2
    pdtor_name none m first i j s k d sound = absurd d
    pdtor_name (action q next) m first i j s k d sound = absurd d
    pdtor_name (node q asks children next) m first i j s k d sound = absurd d
