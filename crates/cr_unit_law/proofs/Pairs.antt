-- Two trees of the same tokens, or two that are cut off, walked side by side.
use Rattle.std.specs.Prelude.{◌≡◌, ◌⊎◌, ℕ, ◌+◌, if◌then◌else◌, Option, Some, None, is_some, unwrap_or, List, [], ◌∷◌}
use Rattle.std.proofs.Common.{refl, sym, ◌∙◌, ap, subst, inl, inr}
use Rattle.cr_base.specs.declared.cause.IllCause.{IllCause}
use Rattle.cr_grammar.specs.declared.symbols.NonTerm.{NonTerm}
use Rattle.cr_grammar.specs.declared.symbols.Action.{Action}
use Rattle.cr_grammar.specs.declared.symbols.Symbol.{Symbol}
use Rattle.cr_grammar.specs.declared.symbols.Symbol.TheVariants.{Term, Non, Act}
use Rattle.cr_grammar.specs.Grammar.{rule}
use Rattle.cr_ll.specs.Guards.{Terminal, token_at}
use Rattle.cr_ll.specs.Derivation.{Item, Trees, none, token, action, node, Chosen, Derives}
use Rattle.cr_binding.specs.Source.{Source}
use Rattle.cr_binding.specs.State.{State}
use Rattle.cr_binding.specs.Scoping.{unless_failed}
use Rattle.cr_binding.specs.Actions.{passed, acted}
use Rattle.cr_binding.specs.Binding.{ended, asked, goes_on, walk}
use Rattle.cr_binding.specs.BindingGrows.{Grows}
use Rattle.cr_binding.specs.WellFormed.{AreAnswered, Begins, terminals_of}
use Rattle.cr_binding.proofs.Done.{ended_as_fault}
use Rattle.cr_binding.proofs.Growing.{binding_grows, fault_stays, followed, ended_grows}
use Rattle.cr_unit_law.proofs.Asks.{AllRight, chosen_one, asked_fault, right, asks_are_right}

abbrev pub Fault : Type 0
Fault = Option (IllCause × ℕ)

none_some : {P : Type 0} {x : IllCause × ℕ} {f : Fault} → f ≡ None → f ≡ Some x → P
none_some {x = x} h e = let no : None ≡ Some x = sym h ∙ e in cc

one_fault : {x y : IllCause × ℕ} {f : Fault} → f ≡ Some x → f ≡ Some y → x ≡ y
one_fault {x = x} {y = y} e h = let same : Some x ≡ Some y = sym e ∙ h in cc

-- whole trees begin
pub begins_of : (ts : List Terminal) (f : Trees) (i : ℕ) (ss : List Symbol) (j : ℕ) → Derives ts f i ss j → Begins ts f i ss
begins_of ts none i ss j d = tt
begins_of ts (token k next) i [] j d = d
begins_of ts (token k next) i (Term x ∷ ss) j d = (d.0, d.1, begins_of ts next (i + 1) ss j d.2)
begins_of ts (token k next) i (Non x ∷ ss) j d = d
begins_of ts (token k next) i (Act x ∷ ss) j d = d
begins_of ts (action a next) i [] j d = d
begins_of ts (action a next) i (Term x ∷ ss) j d = d
begins_of ts (action a next) i (Non x ∷ ss) j d = d
begins_of ts (action a next) i (Act x ∷ ss) j d = (d.0, begins_of ts next i ss j d.1)
begins_of ts (node m asks children next) i [] j d = d
begins_of ts (node m asks children next) i (Term x ∷ ss) j d = d
begins_of ts (node m asks children next) i (Non x ∷ ss) j d = (d.0, d.1, d.3, inl (d.2, d.4, begins_of ts next d.2 ss j d.5))
begins_of ts (node m asks children next) i (Act x ∷ ss) j d = d

module _ (t : Source) where
  abbrev ts : List Terminal
  ts = terminals_of t

  -- What two such trees have in common: their faults are one; where one has a fault and the other has none, the other isn't
  -- whole; and where both are whole and have none, they are one.
  pub record Same (f g : Trees) (i : ℕ) (ss : List Symbol) (one other : Fault) : Type 0 where
    pub faults : (x y : IllCause × ℕ) → one ≡ Some x → other ≡ Some y → x ≡ y
    pub left : (x : IllCause × ℕ) (k : ℕ) → one ≡ Some x → other ≡ None → Derives (terminals_of t) g i ss k → ⊥
    pub right : (y : IllCause × ℕ) (j : ℕ) → one ≡ None → other ≡ Some y → Derives (terminals_of t) f i ss j → ⊥
    pub whole : (j k : ℕ) → one ≡ None → other ≡ None → Derives (terminals_of t) f i ss j → Derives (terminals_of t) g i ss k → (f ≡ g) × (j ≡ k)

  swapped : (f g : Trees) (i : ℕ) (ss : List Symbol) (one other : Fault) → Same g f i ss other one → Same f g i ss one other
  swapped f g i ss one other s =
      record {
        faults = λ x y e h. sym (s.faults y x h e);
        left = λ x k e h d. s.right x k h e d;
        right = λ y j e h d. s.left y j h e d;
        whole = λ j k e h c d. (let w : (g ≡ f) × (k ≡ j) = s.whole k j h e d c in (sym w.0, sym w.1));
      }

  both_failed : (f g : Trees) (i : ℕ) (ss : List Symbol) (one other : Fault) (z : IllCause × ℕ) → one ≡ Some z → other ≡ Some z → Same f g i ss one other
  both_failed f g i ss one other z a b =
      record {
        faults = λ x y e h. one_fault e a ∙ one_fault b h;
        left = λ x k e h d. none_some h b;
        right = λ y j e h d. none_some e a;
        whole = λ j k e h c d. none_some e a;
      }

  -- trees that begin in a state, and whose asks were answered in the end
  pub record Cut (f : Trees) (m : NonTerm) (first : Option ℕ) (i : ℕ) (ss : List Symbol) (s end : State) : Type 0 where
    pub begins : Begins (terminals_of t) f i ss
    pub grows : Grows (walk t m first f s) end
    pub answered : AreAnswered t end

  abbrev pub IsSame : Trees → Type 0
  IsSame f =
      (g : Trees) (m : NonTerm) (first : Option ℕ) (i : ℕ) (ss : List Symbol) (s end other : State)
      → s.fault ≡ None → Cut f m first i ss s end → Cut g m first i ss s other
      → Same f g i ss (walk t m first f s).fault (walk t m first g s).fault

  none_same : IsSame none
  none_same none m first i [] s end other sound a b =
      record {
        faults = λ x y e h. none_some sound e;
        left = λ x k e h d. none_some sound e;
        right = λ y j e h d. none_some sound h;
        whole = λ j k e h c d. (refl, sym c ∙ d);
      }
  none_same (token k g) m first i [] s end other sound a b = absurd b.begins
  none_same (action x g) m first i [] s end other sound a b = absurd b.begins
  none_same (node q asks c g) m first i [] s end other sound a b = absurd b.begins
  none_same g m first i (x ∷ ss) s end other sound a b =
      record {
        faults = λ x y e h. none_some sound e;
        left = λ x k e h d. absurd (none_some sound e);
        right = λ y j e h d. d;
        whole = λ j k e h c d. absurd c;
      }

  -- ---- a token

  token_on : (k : ℕ) (f : Trees) → IsSame f → (g : Trees) (m : NonTerm) (first : Option ℕ) (i : ℕ) (x : _) (ss : List Symbol) (s end other : State) → Cut (token k f) m first i (Term x ∷ ss) s end → Cut (token k g) m first i (Term x ∷ ss) s other
      → Same (token k f) (token k g) i (Term x ∷ ss) (walk t m first (token k f) s).fault (walk t m first (token k g) s).fault
  token_on k f rec g m first i x ss s end other a b = by (next.fault) refl
    where
      next : State
      next = goes_on s (passed t m k s)

      firstly : Option ℕ
      firstly = Some (unwrap_or first k)

      by : (o : Fault) → next.fault ≡ o → Same (token k f) (token k g) i (Term x ∷ ss) (walk t m firstly f next).fault (walk t m firstly g next).fault
      by (Some z) e =
          both_failed (token k f) (token k g) i (Term x ∷ ss) _ _ z (fault_stays t m firstly f next z e) (fault_stays t m firstly g next z e)
      by None e =
          let r : Same f g (i + 1) ss (walk t m firstly f next).fault (walk t m firstly g next).fault = rec g m firstly (i + 1) ss next end other e (record { begins = a.begins.2; grows = a.grows; answered = a.answered }) (record { begins = b.begins.2; grows = b.grows; answered = b.answered }) in
          record {
            faults = r.faults;
            left = λ x k e h d. r.left x k e h d.2;
            right = λ y j e h d. r.right y j e h d.2;
            whole = λ j l e h c d. (let w : (f ≡ g) × (j ≡ l) = r.whole j l e h c.2 d.2 in (ap (token k) w.0, w.1));
          }

  token_same : (k : ℕ) (f : Trees) → IsSame f → IsSame (token k f)
  token_same k f rec none m first i ss s end other sound a b =
      swapped (token k f) none i ss _ _ (none_same (token k f) m first i ss s other end sound b a)
  token_same k f rec (token l g) m first i [] s end other sound a b = absurd a.begins
  token_same k f rec (token l g) m first i (Non x ∷ ss) s end other sound a b = absurd a.begins
  token_same k f rec (token l g) m first i (Act x ∷ ss) s end other sound a b = absurd a.begins
  token_same k f rec (token l g) m first i (Term x ∷ ss) s end other sound a b =
      subst (λ q. Cut (token q g) m first i (Term x ∷ ss) s other → Same (token k f) (token q g) i (Term x ∷ ss) (walk t m first (token k f) s).fault (walk t m first (token q g) s).fault) (a.begins.0 ∙ sym b.begins.0)
      (λ c. token_on k f rec g m first i x ss s end other a c) b
  token_same k f rec (action x g) m first i [] s end other sound a b = absurd a.begins
  token_same k f rec (action x g) m first i (Term y ∷ ss) s end other sound a b = absurd b.begins
  token_same k f rec (action x g) m first i (Non y ∷ ss) s end other sound a b = absurd a.begins
  token_same k f rec (action x g) m first i (Act y ∷ ss) s end other sound a b = absurd a.begins
  token_same k f rec (node q asks c g) m first i [] s end other sound a b = absurd a.begins
  token_same k f rec (node q asks c g) m first i (Term y ∷ ss) s end other sound a b = absurd b.begins
  token_same k f rec (node q asks c g) m first i (Non y ∷ ss) s end other sound a b = absurd a.begins
  token_same k f rec (node q asks c g) m first i (Act y ∷ ss) s end other sound a b = absurd a.begins

  -- ---- an action

  action_on : (x : Action) (f : Trees) → IsSame f → (g : Trees) (m : NonTerm) (first : Option ℕ) (i : ℕ) (y : Action) (ss : List Symbol) (s end other : State) → Cut (action x f) m first i (Act y ∷ ss) s end → Cut (action x g) m first i (Act y ∷ ss) s other
      → Same (action x f) (action x g) i (Act y ∷ ss) (walk t m first (action x f) s).fault (walk t m first (action x g) s).fault
  action_on x f rec g m first i y ss s end other a b = by (next.fault) refl
    where
      next : State
      next = goes_on s (acted t m (unwrap_or first s.last) x s)

      by : (o : Fault) → next.fault ≡ o → Same (action x f) (action x g) i (Act y ∷ ss) (walk t m first f next).fault (walk t m first g next).fault
      by (Some z) e =
          both_failed (action x f) (action x g) i (Act y ∷ ss) _ _ z (fault_stays t m first f next z e) (fault_stays t m first g next z e)
      by None e =
          let r : Same f g i ss (walk t m first f next).fault (walk t m first g next).fault = rec g m first i ss next end other e (record { begins = a.begins.1; grows = a.grows; answered = a.answered }) (record { begins = b.begins.1; grows = b.grows; answered = b.answered }) in
          record {
            faults = r.faults;
            left = λ x k e h d. r.left x k e h d.1;
            right = λ y j e h d. r.right y j e h d.1;
            whole = λ j l e h c d. (let w : (f ≡ g) × (j ≡ l) = r.whole j l e h c.1 d.1 in (ap (action x) w.0, w.1));
          }

  action_same : (x : Action) (f : Trees) → IsSame f → IsSame (action x f)
  action_same x f rec none m first i ss s end other sound a b =
      swapped (action x f) none i ss _ _ (none_same (action x f) m first i ss s other end sound b a)
  action_same x f rec (action y g) m first i [] s end other sound a b = absurd a.begins
  action_same x f rec (action y g) m first i (Term z ∷ ss) s end other sound a b = absurd a.begins
  action_same x f rec (action y g) m first i (Non z ∷ ss) s end other sound a b = absurd a.begins
  action_same x f rec (action y g) m first i (Act z ∷ ss) s end other sound a b =
      subst (λ q. Cut (action q g) m first i (Act z ∷ ss) s other → Same (action x f) (action q g) i (Act z ∷ ss) (walk t m first (action x f) s).fault (walk t m first (action q g) s).fault) (a.begins.0 ∙ sym b.begins.0)
      (λ c. action_on x f rec g m first i z ss s end other a c) b
  action_same x f rec (token k g) m first i [] s end other sound a b = absurd a.begins
  action_same x f rec (token k g) m first i (Term y ∷ ss) s end other sound a b = absurd a.begins
  action_same x f rec (token k g) m first i (Non y ∷ ss) s end other sound a b = absurd a.begins
  action_same x f rec (token k g) m first i (Act y ∷ ss) s end other sound a b = absurd b.begins
  action_same x f rec (node q asks c g) m first i [] s end other sound a b = absurd a.begins
  action_same x f rec (node q asks c g) m first i (Term y ∷ ss) s end other sound a b = absurd a.begins
  action_same x f rec (node q asks c g) m first i (Non y ∷ ss) s end other sound a b = absurd a.begins
  action_same x f rec (node q asks c g) m first i (Act y ∷ ss) s end other sound a b = absurd b.begins

  -- ---- a node

  -- the children and what follows them: whole, or cut off in the children
  abbrev Split : Trees → Trees → ℕ → List Symbol → List Symbol → Type 0
  Split c n i body ss =
      ((j : ℕ) × Derives (terminals_of t) c i body j × Begins (terminals_of t) n j ss) ⊎ (Begins (terminals_of t) c i body × (n ≡ none))

  split_begins : (c n : Trees) (i : ℕ) (body ss : List Symbol) → Split c n i body ss → Begins (terminals_of t) c i body
  split_begins c n i body ss (inl h) = begins_of (terminals_of t) c i body h.0 h.1
  split_begins c n i body ss (inr h) = h.0

  module _ (m : NonTerm) (first : Option ℕ) (s : State) (q : NonTerm) (asks : List Item) where
    -- the state below the node at the end of its children, and behind it
    abbrev below : Trees → State
    below c = walk t q None c (asked asks s)

    abbrev behind : Trees → State
    behind c = unless_failed s (ended m q c s (below c))

    module _ (sound : s.fault ≡ None) where
      behind_is : (c : Trees) → behind c ≡ ended m q c s (below c)
      behind_is c = ap (λ o. if is_some o then s else ended m q c s (below c)) sound

      behind_fault : (c : Trees) → (behind c).fault ≡ (below c).fault
      behind_fault c = ap (λ (z : State). z.fault) (behind_is c) ∙ ended_as_fault q c s (below c)

      below_grows : (c n : Trees) (end : State) → Grows (walk t m first n (behind c)) end → Grows (below c) end
      below_grows c n end g =
          followed (below c) (ended m q c s (below c)) end (ended_grows m q c s (below c))
          (subst (λ z. Grows z end) (behind_is c) (followed (behind c) (walk t m first n (behind c)) end (binding_grows t m first n (behind c)) g))

      asks_grow : (c n : Trees) (end : State) → Grows (walk t m first n (behind c)) end → Grows (asked asks s) end
      asks_grow c n end g = followed (asked asks s) (below c) end (binding_grows t q None c (asked asks s)) (below_grows c n end g)

  record Parts (c n : Trees) (i : ℕ) (body ss : List Symbol) (j : ℕ) : Type 0 where
    mid : ℕ
    inside : Derives (terminals_of t) c i body mid
    after : Derives (terminals_of t) n mid ss j

  module _ (q : NonTerm) (asks : List Item) (c f : Trees) (rec_c : IsSame c) (rec_f : IsSame f) (d g : Trees) (m : NonTerm) (first : Option ℕ) (i : ℕ) (k : NonTerm) (ss : List Symbol) (s end other : State) (sound : s.fault ≡ None) (a : Cut (node q asks c f) m first i (Non k ∷ ss) s end) (b : Cut (node q asks d g) m first i (Non k ∷ ss) s other) where
    abbrev body : List Symbol
    body = a.begins.1

    abbrev under : Trees → State
    under = below m first s q asks

    abbrev state : Trees → State
    state = behind m first s q asks

    all_right : AllRight (right t s) asks
    all_right = asks_are_right t asks s end (asks_grow m first s q asks sound c f end a.grows) a.answered

    one_body : (z : List Symbol) → Chosen (rule k) (token_at (terminals_of t) i) (token_at (terminals_of t) (i + 1)) i asks z → z ≡ body
    one_body z chosen =
        (chosen_one (right t s) (rule k) (token_at (terminals_of t) i) (token_at (terminals_of t) (i + 1)) i asks asks z body chosen a.begins.2 all_right all_right).1

    split_f : Split c f i body ss
    split_f = a.begins.3

    split_g : Split d g i body ss
    split_g = subst (λ z. Split d g i z ss) (one_body b.begins.1 b.begins.2) b.begins.3

    parts : (e h : Trees) (j : ℕ) → Derives (terminals_of t) (node q asks e h) i (Non k ∷ ss) j → Parts e h i body ss j
    parts e h j x = record { mid = x.2; inside = subst (λ z. Derives (terminals_of t) e i z x.2) (one_body x.1 x.3) x.4; after = x.5 }

    r : Same c d i body (under c).fault (under d).fault
    r =
        rec_c d q None i body (asked asks s) end other (asked_fault asks s ∙ sound)
        (record { begins = split_begins c f i body ss split_f; grows = below_grows m first s q asks sound c f end a.grows; answered = a.answered })
        (record { begins = split_begins d g i body ss split_g; grows = below_grows m first s q asks sound d g other b.grows; answered = b.answered })

    -- where children are cut off without a fault, there is none behind them
    cut_sound : (e h : Trees) → (under e).fault ≡ None → h ≡ none → (walk t m first h (state e)).fault ≡ None
    cut_sound e h x n = ap (λ z. (walk t m first z (state e)).fault) n ∙ behind_fault m first s q asks sound e ∙ x

    stays : (e h : Trees) (x : IllCause × ℕ) → (under e).fault ≡ Some x → (walk t m first h (state e)).fault ≡ Some x
    stays e h x p = fault_stays t m first h (state e) x (behind_fault m first s q asks sound e ∙ p)

    -- behind equal children
    record Next (jf jg : ℕ) : Type 0 where
      children : c ≡ d
      mids : jf ≡ jg
      same : Same f g jf ss (walk t m first f (state c)).fault (walk t m first g (state d)).fault

    next : (under c).fault ≡ None → (under d).fault ≡ None → (jf jg : ℕ) → Derives (terminals_of t) c i body jf → Derives (terminals_of t) d i body jg → Begins (terminals_of t) f jf ss → Begins (terminals_of t) g jg ss → Next jf jg
    next ec ed jf jg dc dd bf bg =
        let w : (c ≡ d) × (jf ≡ jg) = r.whole jf jg ec ed dc dd in
        record {
          children = w.0;
          mids = w.1;
          same =
              subst (λ z. Same f g jf ss (walk t m first f (state c)).fault (walk t m first g (state z)).fault) w.0
              (rec_f g m first jf ss (state c) end other (behind_fault m first s q asks sound c ∙ ec)
              (record { begins = bf; grows = a.grows; answered = a.answered })
              (record {
                begins = subst (λ z. Begins (terminals_of t) g z ss) (sym w.1) bg;
                grows = subst (λ z. Grows (walk t m first g (state z)) other) (sym w.0) b.grows;
                answered = b.answered;
              }));
        }

    abbrev one : Fault
    one = (walk t m first f (state c)).fault

    abbrev two : Fault
    two = (walk t m first g (state d)).fault

    abbrev R : Type 0
    R = Same (node q asks c f) (node q asks d g) i (Non k ∷ ss) one two

    left_only : (x : IllCause × ℕ) → (under c).fault ≡ Some x → (under d).fault ≡ None → R
    left_only x ec ed =
        record {
          faults = λ u v e h. absurd (elim split_g [ inl p ↦ r.left x p.0 ec ed p.1 | inr p ↦ none_some (cut_sound d g ed p.1) h ]);
          left = λ u l e h p. (let w : Parts d g i body ss l = parts d g l p in r.left x w.mid ec ed w.inside);
          right = λ v j e h p. none_some e (stays c f x ec);
          whole = λ j l e h p o. none_some e (stays c f x ec);
        }

    right_only : (y : IllCause × ℕ) → (under c).fault ≡ None → (under d).fault ≡ Some y → R
    right_only y ec ed =
        record {
          faults = λ u v e h. absurd (elim split_f [ inl p ↦ r.right y p.0 ec ed p.1 | inr p ↦ none_some (cut_sound c f ec p.1) e ]);
          left = λ u l e h p. none_some h (stays d g y ed);
          right = λ v j e h p. (let w : Parts c f i body ss j = parts c f j p in r.right y w.mid ec ed w.inside);
          whole = λ j l e h p o. none_some h (stays d g y ed);
        }

    neither : (under c).fault ≡ None → (under d).fault ≡ None → R
    neither ec ed = record { faults = faults; left = left; right = on_right; whole = whole }
      where
        faults : (u v : IllCause × ℕ) → one ≡ Some u → two ≡ Some v → u ≡ v
        faults u v e h = elim split_f [
          | inl p ↦ elim split_g [
            | inl o ↦ (next ec ed p.0 o.0 p.1 o.1 p.2 o.2).same.faults u v e h
            | inr o ↦ none_some (cut_sound d g ed o.1) h
          ]
          | inr p ↦ none_some (cut_sound c f ec p.1) e
        ]

        left : (u : IllCause × ℕ) (l : ℕ) → one ≡ Some u → two ≡ None → Derives (terminals_of t) (node q asks d g) i (Non k ∷ ss) l → ⊥
        left u l e h x = elim split_f [
          | inl p ↦ (
              let w : Parts d g i body ss l = parts d g l x in
              let n : Next p.0 w.mid = next ec ed p.0 w.mid p.1 w.inside p.2 (begins_of (terminals_of t) g w.mid ss l w.after) in
              n.same.left u l e h (subst (λ z. Derives (terminals_of t) g z ss l) (sym n.mids) w.after)
              )
          | inr p ↦ none_some (cut_sound c f ec p.1) e
        ]

        on_right : (v : IllCause × ℕ) (j : ℕ) → one ≡ None → two ≡ Some v → Derives (terminals_of t) (node q asks c f) i (Non k ∷ ss) j → ⊥
        on_right v j e h x = elim split_g [
          | inl o ↦ (
              let w : Parts c f i body ss j = parts c f j x in
              let n : Next w.mid o.0 = next ec ed w.mid o.0 w.inside o.1 (begins_of (terminals_of t) f w.mid ss j w.after) o.2 in
              n.same.right v j e h w.after
              )
          | inr o ↦ none_some (cut_sound d g ed o.1) h
        ]

        whole : (j l : ℕ) → one ≡ None → two ≡ None → Derives (terminals_of t) (node q asks c f) i (Non k ∷ ss) j → Derives (terminals_of t) (node q asks d g) i (Non k ∷ ss) l → (node q asks c f ≡ node q asks d g) × (j ≡ l)
        whole j l e h x y =
            let v : Parts c f i body ss j = parts c f j x in
            let w : Parts d g i body ss l = parts d g l y in
            let n : Next v.mid w.mid = next ec ed v.mid w.mid v.inside w.inside (begins_of (terminals_of t) f v.mid ss j v.after) (begins_of (terminals_of t) g w.mid ss l w.after) in
            let z : (f ≡ g) × (j ≡ l) = n.same.whole j l e h v.after (subst (λ z. Derives (terminals_of t) g z ss l) (sym n.mids) w.after) in
            (ap (λ z. node q asks z f) n.children ∙ ap (node q asks d) z.0, z.1)

    by : (x y : Fault) → (under c).fault ≡ x → (under d).fault ≡ y → R
    by (Some x) (Some y) ec ed =
        both_failed (node q asks c f) (node q asks d g) i (Non k ∷ ss) one two x (stays c f x ec) (stays d g y ed ∙ ap Some (sym (r.faults x y ec ed)))
    by (Some x) None ec ed = left_only x ec ed
    by None (Some y) ec ed = right_only y ec ed
    by None None ec ed = neither ec ed

    node_on : R
    node_on = by (under c).fault (under d).fault refl refl

  abbrev Of : (q : NonTerm) (asks : List Item) (c f d g : Trees) (m : NonTerm) (first : Option ℕ) (i : ℕ) (k : NonTerm) (ss : List Symbol) (s other : State) → NonTerm → List Item → Type 0
  Of q asks c f d g m first i k ss s other z l =
      Cut (node z l d g) m first i (Non k ∷ ss) s other
      → Same (node q asks c f) (node z l d g) i (Non k ∷ ss) (walk t m first (node q asks c f) s).fault (walk t m first (node z l d g) s).fault

  node_same : (q : NonTerm) (asks : List Item) (c f : Trees) → IsSame c → IsSame f → IsSame (node q asks c f)
  node_same q asks c f rec_c rec_f none m first i ss s end other sound a b =
      swapped (node q asks c f) none i ss _ _ (none_same (node q asks c f) m first i ss s other end sound b a)
  node_same q asks c f rec_c rec_f (node p others d g) m first i [] s end other sound a b = absurd a.begins
  node_same q asks c f rec_c rec_f (node p others d g) m first i (Term x ∷ ss) s end other sound a b = absurd a.begins
  node_same q asks c f rec_c rec_f (node p others d g) m first i (Act x ∷ ss) s end other sound a b = absurd a.begins
  node_same q asks c f rec_c rec_f (node p others d g) m first i (Non k ∷ ss) s end other sound a b =
      subst (λ z. Of q asks c f d g m first i k ss s other z others) (a.begins.0 ∙ sym b.begins.0) (subst (λ l. Of q asks c f d g m first i k ss s other q l) one.0 (λ x. node_on q asks c f rec_c rec_f d g m first i k ss s end other sound a x)) b
    where
      one : (asks ≡ others) × (a.begins.1 ≡ b.begins.1)
      one =
          chosen_one (right t s) (rule k) (token_at (terminals_of t) i) (token_at (terminals_of t) (i + 1)) i asks others a.begins.1 b.begins.1 a.begins.2 b.begins.2
          (asks_are_right t asks s end (asks_grow m first s q asks sound c f end a.grows) a.answered)
          (asks_are_right t others s other (asks_grow m first s p others sound d g other b.grows) b.answered)
  node_same q asks c f rec_c rec_f (token l g) m first i [] s end other sound a b = absurd a.begins
  node_same q asks c f rec_c rec_f (token l g) m first i (Term x ∷ ss) s end other sound a b = absurd a.begins
  node_same q asks c f rec_c rec_f (token l g) m first i (Non x ∷ ss) s end other sound a b = absurd b.begins
  node_same q asks c f rec_c rec_f (token l g) m first i (Act x ∷ ss) s end other sound a b = absurd a.begins
  node_same q asks c f rec_c rec_f (action x g) m first i [] s end other sound a b = absurd a.begins
  node_same q asks c f rec_c rec_f (action x g) m first i (Term y ∷ ss) s end other sound a b = absurd a.begins
  node_same q asks c f rec_c rec_f (action x g) m first i (Non y ∷ ss) s end other sound a b = absurd b.begins
  node_same q asks c f rec_c rec_f (action x g) m first i (Act y ∷ ss) s end other sound a b = absurd a.begins

  -- ---- any trees

  pub same_trees : (f : Trees) → IsSame f
  same_trees none = none_same
  same_trees (token k f) = token_same k f (same_trees f)
  same_trees (action x f) = action_same x f (same_trees f)
  same_trees (node q asks c f) = node_same q asks c f (same_trees c) (same_trees f)
