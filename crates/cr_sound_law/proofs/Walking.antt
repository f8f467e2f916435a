-- A well-formed unit is sound.
use Rattle.std.specs.Prelude.{◌≡◌, ℕ, ◌+◌, ◌<◌, ◌≤◌, Bool, true, false, not, ◌&&◌, ◌||◌, if◌then◌else◌, Option, Some, None, is_some, unwrap_or, List, [], ◌∷◌, ◌++◌, length, Contains}
use Rattle.std.proofs.Common.{refl, sym, ◌∙◌, ap, subst, arith}
use Rattle.cr_base.specs.declared.cause.IllCause.{IllCause}
use Rattle.cr_base.specs.declared.token.Tok.{Tok}
use Rattle.cr_grammar.specs.declared.symbols.NonTerm.{NonTerm}
use Rattle.cr_grammar.specs.declared.symbols.NonTerm.TheVariants as n
use Rattle.cr_grammar.specs.declared.symbols.Symbol.{Symbol}
use Rattle.cr_grammar.specs.declared.symbols.Symbol.TheVariants.{Term, Non, Act}
use Rattle.cr_grammar.specs.Grammar.{rule}
use Rattle.cr_ll.specs.Guards.{terminals, token_at, the_end}
use Rattle.cr_ll.specs.Derivation.{Item, Passed, Due, Asked, Trees, none, token, action, node, Chosen, Derives}
use Rattle.cr_ll.specs.Laws.{unit}
use Rattle.cr_scope.specs.Meaning.{LookupMeans}
use Rattle.cr_decl.specs.Specifiers.{is_permitted}
use Rattle.cr_binding.specs.Source.{Source}
use Rattle.cr_binding.specs.State.{Declaration, Record, Member, Use, State, WasAsked, start}
use Rattle.cr_binding.specs.Declaring.{used}
use Rattle.cr_binding.specs.Specifying.{read_in}
use Rattle.cr_binding.specs.Scoping.{unless_failed}
use Rattle.cr_binding.specs.Actions.{passed, acted}
use Rattle.cr_binding.specs.Binding.{has_own_pending, is_empty, ended_as, ended, unless_refused, asked, goes_on, walk, bound}
use Rattle.cr_binding.specs.BindingGrows.{BindingGrows, FaultStays}
use Rattle.cr_binding.specs.WellFormed.{IsWellFormed, terminals_of}
use Rattle.cr_sound_law.specs.Sound.{IsToken, IsSound, UsesAreSound, DeclarationsAreAtTokens, MembersAreAtTokens, RecordsAreAtTokens, HiddenAreTokens, MembersAreUnique}
use Rattle.cr_sound_law.proofs.Lists.{nothing_in, longer, and_both}
use Rattle.cr_sound_law.proofs.Unique.{Apart, unique_by_place}
use Rattle.cr_sound_law.proofs.Tokens.{AllAsked, met_token, chosen_asks, is_tail, is_anon, has_token_next, late, body_late, next_token}
use Rattle.cr_sound_law.proofs.Keeping.{kept, IfToken, IfRecord, IsMemberOf, Sound, if_more, if_stays, used_stays, placed_stays, passed_stays}
use Rattle.cr_sound_law.proofs.Acting.{read_stays, acted_stays}

-- ---- faults

none_some : {P : Type 0} {x : IllCause × ℕ} {o : Option (IllCause × ℕ)} → o ≡ None → o ≡ Some x → P
none_some {x = x} h e = let no : None ≡ Some x = sym h ∙ e in cc

-- where nothing failed, what is done is done
unless_gives : (s x : State) → (unless_failed s x).fault ≡ None → unless_failed s x ≡ x
unless_gives s x h = by (s.fault) refl
  where
    by : (o : Option (IllCause × ℕ)) → s.fault ≡ o → unless_failed s x ≡ x
    by None e = ap (λ o. if is_some o then s else x) e
    by (Some f) e =
        let k : unless_failed s x ≡ s = ap (λ o. if is_some o then s else x) e in
        none_some h (ap (λ (z : State). z.fault) k ∙ e)

refused_gives : (r : Option ℕ) (s x : State) → (unless_refused r s x).fault ≡ None → unless_refused r s x ≡ x
refused_gives None s x h = refl
refused_gives (Some i) s x h = cc

goes_on_gives : (s x : State) → (goes_on s x).fault ≡ None → goes_on s x ≡ x
goes_on_gives s x h =
    let u : goes_on s x ≡ unless_refused s.refused s x = unless_gives s (unless_refused s.refused s x) h in
    u ∙ refused_gives s.refused s x (ap (λ (z : State). z.fault) (sym u) ∙ h)

none_before : FaultStays → (t : Source) (m : NonTerm) (first : Option ℕ) (trees : Trees) (s : State) → (walk t m first trees s).fault ≡ None → s.fault ≡ None
none_before stays t m first trees s h = by (s.fault) refl
  where
    by : (o : Option (IllCause × ℕ)) → s.fault ≡ o → o ≡ None
    by None e = refl
    by (Some f) e = none_some h (stays t m first trees s f e)

-- ---- ends of nodes

ended_as_fault : (m : NonTerm) (children : Trees) (before s : State) → (ended_as m children before s).fault ≡ s.fault
ended_as_fault n.AssMore children before s = by (is_empty children)
  where
    by : (b : Bool) → (if b then s else ended_as n.AssMore (token 0 none) before s).fault ≡ s.fault
    by true = refl
    by false = refl
ended_as_fault n.SpecsB children before s = by (is_empty children) (not (is_permitted s.pending.specifiers.basic))
  where
    by : (b c : Bool) → (if b then (if c then record s { refused = Some s.pending.last_basic } else s) else s).fault ≡ s.fault
    by true true = refl
    by true false = refl
    by false c = refl
ended_as_fault _ children before s = refl

module _ (t : Source) (i : ℕ) where
  ended_as_stays : (m : NonTerm) (children : Trees) (before s : State) → IfRecord (length s.records) before.filled → Sound t i (kept s) → Sound t i (kept (ended_as m children before s))
  ended_as_stays n.RecTail children before s within h =
      placed_stays t i s (ended_as n.RecTail children before s) s.pending.name before.filled refl h.name within h
  ended_as_stays n.EnumTail children before s within h =
      placed_stays t i s (ended_as n.EnumTail children before s) s.pending.name before.filled refl h.name within h
  ended_as_stays n.AssMore children before s within h = if_stays t i (is_empty children) s _ _ (λ h. h) (λ h. h) h
  ended_as_stays n.SpecsB children before s within h =
      if_stays t i (is_empty children) s _ _ (if_stays t i (not (is_permitted s.pending.specifiers.basic)) s _ _ (λ h. h) (λ h. h)) (λ h. h) h
  ended_as_stays _ children before s within h = h

  ended_stays : (above m : NonTerm) (children : Trees) (before s : State) → IfToken t before.pending.name → IfRecord (length s.records) before.filled → Sound t i (kept s) → Sound t i (kept (ended above m children before s))
  ended_stays above m children before s own within h =
      let x = ended_as m children before s in
      let g : Sound t i (kept x) = ended_as_stays m children before s within h in
      placed_stays t i x (ended above m children before s) (if has_own_pending m then before.pending else x.pending).name x.filled refl (by (has_own_pending m) g.name) g.filled g
    where
      by : (b : Bool) → IfToken t (ended_as m children before s).pending.name → IfToken t (if b then before.pending else (ended_as m children before s).pending).name
      by true g = own
      by false g = g

  asked_stays : (asks : List Item) (s : State) → AllAsked t asks → Sound t i (kept s) → Sound t i (kept (asked asks s))
  asked_stays [] s own h = h
  asked_stays (Passed k ∷ asks) s own h = asked_stays asks s own h
  asked_stays (Due x ∷ asks) s own h = asked_stays asks s own h
  asked_stays (Asked k answer ∷ asks) s own h =
      let u = WasAsked k s.present (length s.declarations) answer in
      asked_stays asks (used u s) own.1 (used_stays t i u s (own.0, omega arith) h)

asked_records : (asks : List Item) (s : State) → (asked asks s).records ≡ s.records
asked_records [] s = refl
asked_records (Passed k ∷ asks) s = asked_records asks s
asked_records (Due x ∷ asks) s = asked_records asks s
asked_records (Asked k answer ∷ asks) s = asked_records asks (used (WasAsked k s.present (length s.declarations) answer) s)

either : (a b : Bool) → (not a || b) ≡ true → a ≡ true → b ≡ true
either true b h e = h
either false b h e = cc

-- ---- the walk

-- the trees of a row end before token number j
record Reached (t : Source) (i j : ℕ) (s : State) : Type 0 where
  far : i ≤ j
  sound : Sound t j (kept s)

module _ (means : LookupMeans) (grows : BindingGrows) (stays : FaultStays) (t : Source) where
  walk_sound : (m : NonTerm) (first : Option ℕ) (trees : Trees) (s : State) (i j : ℕ) (ss : List Symbol) (b : Bool) → Derives (terminals_of t) trees i ss j → late b ss ≡ true → (b ≡ true → 0 < i) → IfToken t first → (walk t m first trees s).fault ≡ None → Sound t i (kept s) → Reached t i j (walk t m first trees s)
  walk_sound m first none s i j [] b d l before own clear h =
      record { far = (let e : i ≡ j = d in omega (arith, e)); sound = subst (λ k. Sound t k (kept s)) d h }
  walk_sound m first none s i j (x ∷ ss) b d l before own clear h = absurd d
  walk_sound m first (token k next) s i j [] b d l before own clear h = absurd d
  walk_sound m first (token k next) s i j (Non x ∷ ss) b d l before own clear h = absurd d
  walk_sound m first (token k next) s i j (Act x ∷ ss) b d l before own clear h = absurd d
  walk_sound m first (token k next) s i j (Term x ∷ ss) b d l before own clear h =
      let y = goes_on s (passed t m k s) in
      let here : IsToken t i = met_token t x i d.1 in
      let e : y ≡ passed t m k s = goes_on_gives s (passed t m k s) (none_before stays t m (Some (unwrap_or first k)) next y clear) in
      let g : Sound t (i + 1) (kept (passed t m i s)) = passed_stays t i (read_in m t i s) here (read_stays means t i m i s h) in
      let p : Sound t (i + 1) (kept y) = subst (λ (z : State). Sound t (i + 1) (kept z)) (ap (λ q. passed t m q s) (sym d.0) ∙ sym e) g in
      let r : Reached t (i + 1) j (walk t m (Some (unwrap_or first k)) next y) = walk_sound m (Some (unwrap_or first k)) next y (i + 1) j ss true d.2 l (λ e. omega arith) (by first own (subst (IsToken t) (sym d.0) here)) clear p in
      record { far = (let w : i + 1 ≤ j = r.far in omega (arith, w)); sound = r.sound }
    where
      by : (o : Option ℕ) → IfToken t o → IsToken t k → IsToken t (unwrap_or o k)
      by None f e = e
      by (Some q) f e = f
  walk_sound m first (action x next) s i j [] b d l before own clear h = absurd d
  walk_sound m first (action x next) s i j (Term z ∷ ss) b d l before own clear h = absurd d
  walk_sound m first (action x next) s i j (Non z ∷ ss) b d l before own clear h = absurd d
  walk_sound m first (action x next) s i j (Act z ∷ ss) b d l before own clear h =
      let o = unwrap_or first s.last in
      let y = goes_on s (acted t m o x s) in
      let fine : y.fault ≡ None = none_before stays t m first next y clear in
      let e : y ≡ acted t m o x s = goes_on_gives s (acted t m o x s) fine in
      let late_here = and_both (not (is_anon z) || (b && has_token_next ss)) (late b ss) l in
      let g : Sound t i (kept (acted t m o x s)) = acted_stays means t i m o x s (by first own) (λ q. brace late_here.0 (ap is_anon (sym d.0) ∙ q)) h (ap (λ (z : State). z.fault) (sym e) ∙ fine) in
      walk_sound m first next y i j ss b d.1 late_here.1 before own clear (subst (λ (z : State). Sound t i (kept z)) (sym e) g)
    where
      by : (o : Option ℕ) → IfToken t o → IsToken t (unwrap_or o s.last)
      by None f = h.last
      by (Some q) f = f

      brace : (not (is_anon z) || (b && has_token_next ss)) ≡ true → is_anon z ≡ true → IsToken t (s.last + 1)
      brace f q =
          let p = and_both b (has_token_next ss) (either (is_anon z) (b && has_token_next ss) f q) in
          let w : i < length t.tokens = next_token t next i j ss d.1 p.1 in
          let v : s.last < i = h.place (before p.0) in
          omega (arith, w, v)
  walk_sound m first (node k asks children next) s i j [] b d l before own clear h = absurd d
  walk_sound m first (node k asks children next) s i j (Term z ∷ ss) b d l before own clear h = absurd d
  walk_sound m first (node k asks children next) s i j (Act z ∷ ss) b d l before own clear h = absurd d
  walk_sound m first (node k asks children next) s i j (Non z ∷ ss) b d l before own clear h =
      let below = walk t k None children (asked asks s) in
      let x = ended m k children s below in
      let y = unless_failed s x in
      let fine : y.fault ≡ None = none_before stays t m first next y clear in
      let e : y ≡ x = unless_gives s x fine in
      let inner : below.fault ≡ None = sym (ended_as_fault k children s below) ∙ ap (λ (z : State). z.fault) (sym e) ∙ fine in
      let c : Chosen (rule k) (token_at (terminals_of t) i) (token_at (terminals_of t) (i + 1)) i asks d.1 = subst (λ q. Chosen (rule q) (token_at (terminals_of t) i) (token_at (terminals_of t) (i + 1)) i asks d.1) (sym d.0) d.3 in
      let late_here = and_both (not (is_tail z) || b) (late b ss) l in
      let a : Sound t i (kept (asked asks s)) = asked_stays t i asks s (chosen_asks t i (rule k) asks d.1 c) h in
      let r : Reached t i d.2 below = walk_sound k None children (asked asks s) i d.2 d.1 (is_tail k) d.4 (body_late t k i asks d.1 c) (λ q. before (either (is_tail z) b late_here.0 (ap is_tail (sym d.0) ∙ q))) tt inner a in
      let g : Sound t d.2 (kept x) = ended_stays t d.2 m k children s below h.name (if_more (length s.records) (length below.records) s.filled (more_records k asks children s) h.filled) r.sound in
      let w : i ≤ d.2 = r.far in
      let q : Reached t d.2 j (walk t m first next y) = walk_sound m first next y d.2 j ss b d.5 late_here.1 (λ f. (let v : 0 < i = before f in omega (arith, v, w))) own clear (subst (λ (z : State). Sound t d.2 (kept z)) (sym e) g) in
      let u : d.2 ≤ j = q.far in
      record { far = omega (arith, w, u); sound = q.sound }
    where
      more_records : (k : NonTerm) (asks : List Item) (children : Trees) (s : State) → length s.records ≤ length (walk t k None children (asked asks s)).records
      more_records k asks children s =
          let g = grows t k None children (asked asks s) in
          let f : length (asked asks s).records ≤ length ((asked asks s).records ++ g.records.0) = longer (asked asks s).records g.records.0 in
          subst (λ rs. length rs ≤ length (walk t k None children (asked asks s)).records) (asked_records asks s)
          (subst (λ rs. length (asked asks s).records ≤ length rs) (sym g.records.1) f)

  -- ---- units

  start_sound : 0 < length t.tokens → Sound t 0 (kept start)
  start_sound w =
      record {
        uses = λ u c. nothing_in u c;
        declared = λ d c. nothing_in d c;
        tags = λ d c. nothing_in d c;
        members = λ m c. nothing_in m c;
        records = λ r c. nothing_in r c;
        hidden = λ k c. nothing_in k c;
        jumps = λ k c. nothing_in k c;
        name = tt;
        filled = tt;
        last = w;
        place = λ w. absurd (omega (arith, w));
        unique = tt;
      }

  unit_reached : (tree : Trees) (f : IsWellFormed t tree) → 0 < length t.tokens → Reached t 0 f.spans (bound t tree)
  unit_reached tree f w = walk_sound n.Unit None tree start 0 f.spans unit false f.derives refl (λ e. differ e) tt f.sound (start_sound w)
    where
      differ : {P : Type 0} → false ≡ true → P
      differ e = cc

-- ---- a unit without tokens

no_trees : (trees : Trees) (i j : ℕ) → Derives [] trees i [] j → trees ≡ none
no_trees none i j d = refl
no_trees (token k next) i j d = absurd d
no_trees (action x next) i j d = absurd d
no_trees (node m asks children next) i j d = absurd d

chosen_end : (asks : List Item) (body : List Symbol) → Chosen (rule n.Unit) the_end the_end 0 asks body → (asks ≡ []) × (body ≡ [])
unfolding rule
chosen_end asks body h = h

only_tree : (tree : Trees) (j : ℕ) → Derives [] tree 0 unit j → tree ≡ node n.Unit [] none none
only_tree none j d = absurd d
only_tree (token k next) j d = absurd d
only_tree (action x next) j d = absurd d
only_tree (node m asks children next) j d =
    let c = chosen_end asks d.1 d.3 in
    let e : children ≡ none = no_trees children 0 d.2 (subst (λ b. Derives [] children 0 b d.2) c.1 d.4) in
    let f : next ≡ none = no_trees next d.2 j d.5 in
    ap (λ q. node q asks children next) d.0
    ∙ ap (λ q. node n.Unit q children next) c.0
    ∙ ap (λ q. node n.Unit [] q next) e
    ∙ ap (λ q. node n.Unit [] none q) f

-- ---- all of it

-- what is so in the end
record AllSound (t : Source) (s : State) : Type 0 where
  uses : (u : Use) → Contains s.uses u → IsSound t s.declarations u
  declared : (d : Declaration) → Contains s.declarations d → IsToken t d.token
  members : (m : Member) → Contains s.members m → IsMemberOf t (length s.records) m
  records : (r : Record) → Contains s.records r → IsToken t r.token
  hidden : (k : ℕ) → Contains s.hidden k → IsToken t k
  unique : Apart t s.members

empty_sound : (t : Source) → AllSound t (bound t (node n.Unit [] none none))
empty_sound t =
    record {
      uses = λ u c. nothing_in u c;
      declared = λ d c. nothing_in d c;
      members = λ m c. nothing_in m c;
      records = λ r c. nothing_in r c;
      hidden = λ k c. nothing_in k c;
      unique = tt;
    }

all_sound : LookupMeans → BindingGrows → FaultStays → (t : Source) (tree : Trees) → IsWellFormed t tree → AllSound t (bound t tree)
all_sound means grows stays t tree f = by (t.tokens) refl
  where
    by : (xs : List Tok) → t.tokens ≡ xs → AllSound t (bound t tree)
    by [] e =
        let d : Derives [] tree 0 unit f.spans = subst (λ (xs : List Tok). Derives (terminals t.texts xs) tree 0 unit f.spans) e f.derives in
        subst (λ q. AllSound t (bound t q)) (sym (only_tree tree f.spans d)) (empty_sound t)
    by (x ∷ xs) e =
        let w : 0 < length t.tokens = subst (λ (xs : List Tok). 0 < length xs) (sym e) (omega arith) in
        let g = (unit_reached means grows stays t tree f w).sound in
        record { uses = g.uses; declared = g.declared; members = g.members; records = g.records; hidden = g.hidden; unique = g.unique }

module _ (means : LookupMeans) (grows : BindingGrows) (stays : FaultStays) where
  pub uses_are_sound : UsesAreSound
  uses_are_sound t tree f = (all_sound means grows stays t tree f).uses

  pub declarations_are_at_tokens : DeclarationsAreAtTokens
  declarations_are_at_tokens t tree f = (all_sound means grows stays t tree f).declared

  pub members_are_at_tokens : MembersAreAtTokens
  members_are_at_tokens t tree f = (all_sound means grows stays t tree f).members

  pub records_are_at_tokens : RecordsAreAtTokens
  records_are_at_tokens t tree f = (all_sound means grows stays t tree f).records

  pub hidden_are_tokens : HiddenAreTokens
  hidden_are_tokens t tree f = (all_sound means grows stays t tree f).hidden

  pub members_are_unique : MembersAreUnique
  members_are_unique t tree f = unique_by_place t (bound t tree).members (all_sound means grows stays t tree f).unique
