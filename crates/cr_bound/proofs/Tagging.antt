-- What tags do to all that is bound.
use Rattle.std.proofs.Common.{◌≡◌, ℕ, Bool, true, false, eqb, if◌then◌else◌, Option, Some, None, List, [], ◌∷◌, ◌++◌, map, refl, sym, ap, subst, ◌∙◌}
use Rattle.std.specs.Prelude.{option_map, option_and_then, IfSome}
use Rattle.std.specs.List.{list_any}
use Rattle.cr_base.specs.declared.token.Name.{Name}
use Rattle.cr_base.specs.declared.token.Tok.{Tok}
use Rattle.cr_base.specs.declared.Kind.{Kind}
use Rattle.cr_base.specs.declared.key.TagKind.{TagKind}
use Rattle.cr_base.specs.declared.key.TagKind.TheVariants as tag
use Rattle.cr_base.specs.declared.cause.IllCause.TheVariants as cause
use Rattle.cr_scope.specs.declared.Decl.{Decl}
use Rattle.cr_scope.specs.declared.Linkage.TheVariants as linkage
use Rattle.cr_scope.specs.declared.Space.TheVariants as space
use Rattle.cr_scope.specs.Redeclaration.{clashes, repeats}
use Rattle.cr_types.specs.declared.RecNo.{RecNo}
use Rattle.cr_types.specs.declared.TypeNo.{TypeNo}
use Rattle.cr_types.specs.Types.{CType, Table, IsTypeNo, Keeps, type_at}
use Rattle.cr_declared.specs.Rows.{IsFormed, is_tag_kind}
use Rattle.cr_binding.specs.Source.{Source}
use Rattle.cr_binding.specs.State.{Declaration, Pending, State}
use Rattle.cr_binding.specs.Entities.{entry, token_or}
use Rattle.cr_binding.specs.Declaring.{failed, declaration, declaration_at, declare, declare_plain, looked_up, meaning_here}
use Rattle.cr_binding.specs.Specifying.{based}
use Rattle.cr_binding.specs.Tags.{is_record_kind, is_union_kind, with_record, new_type, record_of, declare_tag, tag_here, tag_again, filling, completing, used_tag}
use Rattle.cr_records.specs.Kept.{RecordTable, IsOf as AreOf}
use Rattle.cr_records.specs.Records.{with_records, recorded, AreSpelled as AreRecordsSpelled}
use Rattle.cr_names.specs.declared.fault.BindFault.{BindFault}
use Rattle.cr_names.specs.declared.names.Typed.{Typed}
use Rattle.cr_names.specs.Kept.{KnownNames, IsOf}
use Rattle.cr_names.specs.Names as names
use Rattle.cr_names.specs.Names.{HasTokens, IsNamed, IsMeaning, IsTagHere, IsDeclaration, Refuses, with_names, declared_as, declaration_of}
use Rattle.cr_bound.specs.declared.bound.Bound.{Bound}
use Rattle.cr_bound.specs.Kept.{kind_by, number, pending_by, with_pending, with_place, with_bound, IsTyped, AreSpelled}
use Rattle.cr_bound.specs.Bound.{Any, Does, DoesWith, Fails, FailsWith, StaysWith}
use Rattle.cr_bound.specs.Tags.{tagged, type_or_new, announcing, tagging, tag_alone_here, tag_completed, tag_used, untagged_at, using}
use Rattle.cr_bound.proofs.Lenses.{rest, refuses_on, base_stays, filled_stays, basics_stay, pending_stays}

-- ---- a tag is declared with a type

is_tag : (k : TagKind) → is_tag_kind (kind_by k) ≡ true
is_tag tag.Struct = refl
is_tag tag.Union = refl
is_tag tag.Enum = refl

abbrev pub tag_decl : Kind → ℕ → Name → Decl
tag_decl k i name = record { space = space.Tag; name = name; token = i; kind = k; linkage = linkage.None; note = 0 }

formed_tag : (k : TagKind) (i : ℕ) (name : Name) → IsFormed (tag_decl (kind_by k) i name)
formed_tag tag.Struct i name = record { tags = refl; types = λ h. cc; linked = λ h. cc }
formed_tag tag.Union i name = record { tags = refl; types = λ h. cc; linked = λ h. cc }
formed_tag tag.Enum i name = record { tags = refl; types = λ h. cc; linked = λ h. cc }

pub tag_formed : (d : Decl) (k : Kind) (w : TagKind) (i : ℕ) (name : Name) → k ≡ kind_by w → d ≡ tag_decl k i name → IsFormed d
tag_formed d k w i name e is = subst IsFormed (sym (is ∙ ap (λ z. tag_decl z i name) e)) (formed_tag w i name)

pub tag_bare : (d : Decl) (k : Kind) (i : ℕ) (name : Name) → d ≡ tag_decl k i name → d.note ≡ 0
tag_bare d k i name is = ap (λ (x : Decl). x.note) is

-- what is specified does not matter to a declaration
declare_based : (c : CType) (source : Source) (d : Declaration) (s : State) → declare source d (based c s) ≡ based c (declare source d s)
declare_based c source d s = by (list_any (clashes (entry source d)) (map (entry source) s.declarations))
  where
    by : (b : Bool) → (if b then failed cause.Redeclared d.token (based c s) else record (based c s) { declarations = s.declarations ++ d ∷ [] })
        ≡ based c (if b then failed cause.Redeclared d.token s else record s { declarations = s.declarations ++ d ∷ [] })
    by true = refl
    by false = refl

module _ (b : Bound) (i : ℕ) (name : Name) (n : TypeNo) (d : Decl) (k : Kind) (of_keyword : k ≡ kind_by b.place.keyword) (is : d ≡ tag_decl k i name) where
  abbrev pub with_tag : KnownNames → Bound
  with_tag y = record b { names = y; pending = record b.pending { base = Some n; is_untagged = false } }

  on_tag : (source : Source) → IsNamed i name source → IsNamed d.token d.name source
  on_tag source h = subst (λ (z : Decl). IsNamed z.token z.name source) (sym is) h

  tag_is : (t : Table) (source : Source) (s : State) → declare_plain source space.Tag (kind_by b.place.keyword) i (type_at t n) s ≡ declared_as d n t source s
  tag_is t source s =
      ap (λ z. declare_plain source space.Tag z i (type_at t n) s) (sym of_keyword) ∙ ap (λ (z : Decl). declared_as z n t source s) (sym is)

  pub tag_does : (y : KnownNames) → ((t : Table) → IsTypeNo t n → names.Does t (IsNamed d.token d.name) b.names (declared_as d n t) y)
      → DoesWith n (IsNamed i name) b (tagged i) (with_tag y)
  tag_does y h t typed given = record {
    state = λ source s q sound spelled.
        (h t given).state source (rest (with_tag y) t s) (on_tag source q) sound spelled.0
        ∙ sym (tag_is t source (based (type_at t n) (with_bound t b s)))
        ∙ declare_based (type_at t n) source (declaration space.Tag (kind_by b.place.keyword) linkage.None i (type_at t n) (with_bound t b s)) (with_bound t b s);
    spelled = λ source q z. ((h t given).spelled source (on_tag source q) z.0, z.1);
  }

  pub tag_fails : (z : BindFault) → Refuses z (names.Fails (IsNamed d.token d.name) b.names (declared_as d n)) → Refuses z (FailsWith n (IsNamed i name) b (tagged i))
  tag_fails z = refuses_on z (names.Fails (IsNamed d.token d.name) b.names (declared_as d n)) (FailsWith n (IsNamed i name) b (tagged i))
      (λ c j f t typed given source s q sound spelled. ap (λ a. a.fault) (tag_is t source (with_bound t b s)) ∙ f t source (rest b t s) (on_tag source q) sound spelled.0)

  pub tag_typed : (y : KnownNames) → ((t : Table) → IsTypeNo t n → names.Does t (IsNamed d.token d.name) b.names (declared_as d n t) y) → StaysWith n b (with_tag y)
  tag_typed y h t typed given = record { names = (h t given).typed typed.names; records = typed.records; base = given; filled = typed.filled; basics = typed.basics }

-- ---- the type of a tag

record_below_names : (t : Table) (x : KnownNames) (i : ℕ) (s : State) → with_names t x (with_record i s) ≡ with_record i (with_names t x s)
record_below_names t x i s = by (is_record_kind s.keyword)
  where
    by : (b : Bool) → with_names t x (if b then recorded (record { token = i; is_union = is_union_kind s.keyword }) s else s)
        ≡ (if b then recorded (record { token = i; is_union = is_union_kind s.keyword }) (with_names t x s) else with_names t x s)
    by true = refl
    by false = refl

record_completes : (i : ℕ) (s : State) → (with_record i s).completed ≡ s.completed
record_completes i s = by (is_record_kind s.keyword)
  where
    by : (b : Bool) → (if b then recorded (record { token = i; is_union = is_union_kind s.keyword }) s else s).completed ≡ s.completed
    by true = refl
    by false = refl

module _ (t u : Table) (b : Bound) (k : Kind) (i : ℕ) (r : RecordTable) (typed : IsTyped t b) (keeps : Keeps t u) (of_keyword : k ≡ kind_by b.place.keyword)
    (n : IsOf u b.names × ((s : State) → with_names u b.names s ≡ with_names t b.names s)) where
  abbrev pub with_announced : Bound
  with_announced = record b { records = r }

  pub announced_typed : AreOf u r → IsTyped u with_announced
  announced_typed of = record { names = n.0; records = of; base = base_stays t u keeps b.pending.base typed.base; filled = filled_stays t u keeps b.place.filled typed.filled; basics = basics_stay t u b keeps b.basics typed.basics }

  module _ (does : (s : State) → s.keyword ≡ k → with_records u r s ≡ with_record i (with_records t b.records s)) where
    pub announced_does : ((source : Source) → AreRecordsSpelled source b.records → AreRecordsSpelled source r) → (o : Option TypeNo) → o ≡ None → Does Any t b (λ _. announcing (option_map (type_at t) o) i) u with_announced
    announced_does spells o none = record {
      state = λ source s p sound spelled.
          n.1 (with_records u r (with_pending u b.pending (with_place b.place s)))
          ∙ ap (with_names t b.names) (does (with_pending u b.pending (with_place b.place s)) (sym of_keyword) ∙ ap (λ z. with_record i (with_records t b.records z)) (pending_stays t u b keeps b.pending typed.base (with_place b.place s)))
          ∙ record_below_names t b.names i (with_records t b.records (with_pending t b.pending (with_place b.place s)))
          ∙ ap (λ z. announcing (option_map (type_at t) z) i (with_bound t b s)) (sym none);
      spelled = λ source p h. (h.0, spells source h.1);
    }

    pub announced_completes : (s : State) → r.completed ≡ b.records.completed
    announced_completes s =
        ap (λ z. z.completed) (does (with_place b.place s) (sym of_keyword)) ∙ record_completes i (with_records t b.records (with_place b.place s))

  pub announced_meant : (y : TypeNo) (o : Option TypeNo) → o ≡ None → ((s : State) → s.keyword ≡ k → type_at u y ≡ new_type (with_records t b.records s))
      → (s : State) → type_at u y ≡ type_or_new (option_map (type_at t) o) (with_bound t b s)
  announced_meant y o none h s = h (with_names t b.names (with_pending t b.pending (with_place b.place s))) (sym of_keyword) ∙ ap (λ z. type_or_new (option_map (type_at t) z) (with_bound t b s)) (sym none)

pub had_meant : (t : Table) (b : Bound) (o : Option TypeNo) (y : TypeNo) → o ≡ Some y → (s : State) → type_at t y ≡ type_or_new (option_map (type_at t) o) (with_bound t b s)
had_meant t b o y e s = ap (λ z. type_or_new (option_map (type_at t) z) (with_bound t b s)) (sym e)

pub had_does : (t : Table) (b : Bound) (o : Option TypeNo) (y : TypeNo) (i : ℕ) → o ≡ Some y → Does Any t b (λ _. announcing (option_map (type_at t) o) i) t b
had_does t b o y i e = record {
  state = λ source s p sound spelled. ap (λ z. announcing (option_map (type_at t) z) i (with_bound t b s)) (sym e);
  spelled = λ source p h. h;
}

-- ---- a tag that is declared again

module _ (t u : Table) (b mid : Bound) (o : Option CType) (i : ℕ) (n : TypeNo) (P : Source → Type 0) (meant : (s : State) → type_at u n ≡ type_or_new o (with_bound t b s))
    (first : Does Any t b (λ _. announcing o i) u mid) (typed : IsTyped u mid) (given : IsTypeNo u n) where
  pub tagged_again : (c : Bound) → DoesWith n P mid (tagged i) c → Does P t b (tagging o i) u c
  tagged_again c d = record {
    state = λ source s q sound spelled.
        (d u typed given).state source s q sound (first.spelled source tt spelled)
        ∙ (λ j. declare_tag source i (meant s j) (first.state source s tt sound spelled j));
    spelled = λ source q h. (d u typed given).spelled source q (first.spelled source tt h);
  }

  pub tag_again_fails : (z : BindFault) → Refuses z (FailsWith n P mid (tagged i)) → Refuses z (Fails P t b (tagging o i))
  tag_again_fails z = refuses_on z (FailsWith n P mid (tagged i)) (Fails P t b (tagging o i))
      (λ c k f source s q sound spelled.
      ap (λ a. a.fault) (λ j. declare_tag source i (sym (meant s) j) (sym (first.state source s tt sound spelled) j))
      ∙ f u typed given source s q sound (first.spelled source tt spelled))

-- ---- by the declaration that is here

tag_by_type : (o : Option Declaration) (t : Source) (i : ℕ) (s : State) → tag_again o t i s ≡ tagging (option_map (λ (d : Declaration). d.type) o) i t s
tag_by_type None t i s = refl
tag_by_type (Some d) t i s = refl

types_found : (t : Table) (ps : List (List ℕ)) (r : Option Typed) → option_map (λ (d : Declaration). d.type) (option_map (declaration_of t ps) r) ≡ option_map (type_at t) (option_map (λ (x : Typed). x.ty) r)
types_found t ps None = refl
types_found t ps (Some x) = refl

pub type_given : (t : Table) (r : Option Typed) (o : Option TypeNo) → o ≡ option_map (λ (x : Typed). x.ty) r → IfSome r (λ x. IsTypeNo t x.ty) → IfSome o (IsTypeNo t)
type_given t r o e h = subst (λ z. IfSome z (IsTypeNo t)) (sym e) (by r h)
  where
    by : (r : Option Typed) → IfSome r (λ x. IsTypeNo t x.ty) → IfSome (option_map (λ (x : Typed). x.ty) r) (IsTypeNo t)
    by None h = tt
    by (Some x) h = h

module _ (t : Table) (b : Bound) (tokens : List Tok) (name : Name) (on : (source : Source) → HasTokens tokens source → IsNamed b.place.last name source)
    (k : Option ℕ) (here : IsTagHere b.names name k) (r : Option Typed) (found : IsDeclaration b.names k r) (o : Option TypeNo) (types : o ≡ option_map (λ (x : Typed). x.ty) r) where
  here_found : (source : Source) (s : State) → HasTokens tokens source → AreSpelled source b → tag_here source b.place.last (with_bound t b s) ≡ option_map (declaration_of t b.names.declared.paths) r
  here_found source s q spelled = here t source (rest b t s) b.place.last (on source q) spelled.0 ∙ found t (rest b t s)

  pub alone_is : (source : Source) (s : State) → HasTokens tokens source → AreSpelled source b
      → tag_alone_here source (with_bound t b s) ≡ tagging (option_map (type_at t) o) b.place.last source (with_bound t b s)
  alone_is source s q spelled =
      ap (λ z. tag_again z source b.place.last (with_bound t b s)) (here_found source s q spelled)
      ∙ tag_by_type (option_map (declaration_of t b.names.declared.paths) r) source b.place.last (with_bound t b s)
      ∙ ap (λ z. tagging z b.place.last source (with_bound t b s)) (types_found t b.names.declared.paths r ∙ ap (option_map (type_at t)) (sym types))

  pub alone_does : (u : Table) (c : Bound) → Does (IsNamed b.place.last name) t b (tagging (option_map (type_at t) o) b.place.last) u c → Does (HasTokens tokens) t b tag_alone_here u c
  alone_does u c d = record {
    state = λ source s q sound spelled. d.state source s (on source q) sound spelled ∙ sym (alone_is source s q spelled);
    spelled = λ source q h. d.spelled source (on source q) h;
  }

  pub alone_fails : (z : BindFault) → Refuses z (Fails (IsNamed b.place.last name) t b (tagging (option_map (type_at t) o) b.place.last)) → Refuses z (Fails (HasTokens tokens) t b tag_alone_here)
  alone_fails z = refuses_on z (Fails (IsNamed b.place.last name) t b (tagging (option_map (type_at t) o) b.place.last)) (Fails (HasTokens tokens) t b tag_alone_here)
      (λ c j f source s q sound spelled. ap (λ a. a.fault) (alone_is source s q spelled) ∙ f source s (on source q) sound spelled)

  -- ---- a tag that is completed

  module _ (first : ℕ) (at : (t : Table) (ps : List (List ℕ)) → token_or b.place.last (option_map (declaration_of t ps) r) ≡ first) where
    completed_is : (source : Source) (s : State) → HasTokens tokens source → AreSpelled source b
        → tag_completed source (with_bound t b s) ≡ (if list_any (eqb first) b.records.completed then failed cause.Redeclared b.place.last (with_bound t b s) else filling (completing first (tag_alone_here source (with_bound t b s))))
    completed_is source s q spelled =
        ap (λ z. if list_any (eqb z) b.records.completed then failed cause.Redeclared b.place.last (with_bound t b s) else filling (completing z (tag_alone_here source (with_bound t b s))))
        (ap (token_or b.place.last) (here_found source s q spelled) ∙ at t b.names.declared.paths)

    pub completed_before : list_any (eqb first) b.records.completed ≡ true → Fails (HasTokens tokens) t b tag_completed cause.Redeclared b.place.last
    completed_before e source s q sound spelled =
        ap (λ a. a.fault) (completed_is source s q spelled ∙ ap (λ z. if z then failed cause.Redeclared b.place.last (with_bound t b s) else filling (completing first (tag_alone_here source (with_bound t b s)))) e)

    module _ (fresh : list_any (eqb first) b.records.completed ≡ false) where
      completes : (source : Source) (s : State) → HasTokens tokens source → AreSpelled source b
          → tag_completed source (with_bound t b s) ≡ filling (completing first (tagging (option_map (type_at t) o) b.place.last source (with_bound t b s)))
      completes source s q spelled =
          completed_is source s q spelled
          ∙ ap (λ z. if z then failed cause.Redeclared b.place.last (with_bound t b s) else filling (completing first (tag_alone_here source (with_bound t b s)))) fresh
          ∙ ap (λ z. filling (completing first z)) (alone_is source s q spelled)

      pub completed_fails : (z : BindFault) → Refuses z (Fails (IsNamed b.place.last name) t b (tagging (option_map (type_at t) o) b.place.last)) → Refuses z (Fails (HasTokens tokens) t b tag_completed)
      completed_fails z = refuses_on z (Fails (IsNamed b.place.last name) t b (tagging (option_map (type_at t) o) b.place.last)) (Fails (HasTokens tokens) t b tag_completed)
          (λ c j f source s q sound spelled. ap (λ a. a.fault) (completes source s q spelled) ∙ f source s (on source q) sound spelled)

      pub completed_does : (u : Table) (mid : Bound) (y : RecordTable) (c : Bound) → Does (IsNamed b.place.last name) t b (tagging (option_map (type_at t) o) b.place.last) u mid
          → ((t : Table) (s : State) → with_records t y s ≡ completing first (with_records t mid.records s)) → ((source : Source) → AreRecordsSpelled source mid.records → AreRecordsSpelled source y)
          → Does Any u (record mid { records = y }) (λ _. filling) u c → Does (HasTokens tokens) t b tag_completed u c
      completed_does u mid y c d e spells f = record {
        state = λ source s q sound spelled.
            f.state source s tt sound ((d.spelled source (on source q) spelled).0, spells source (d.spelled source (on source q) spelled).1)
            ∙ ap filling (e u (with_names u mid.names (with_pending u mid.pending (with_place mid.place s))) ∙ ap (completing first) (d.state source s (on source q) sound spelled))
            ∙ sym (completes source s q spelled);
        spelled = λ source q h. f.spelled source tt ((d.spelled source (on source q) h).0, spells source (d.spelled source (on source q) h).1);
      }

pub complete_typed : (u : Table) (mid : Bound) (y : RecordTable) → ((t : Table) → AreOf t mid.records → AreOf t y) → IsTyped u mid → IsTyped u (record mid { records = y })
complete_typed u mid y of h = record { names = h.names; records = of u h.records; base = h.base; filled = h.filled; basics = h.basics }

pub fill_does : (t : Table) (b : Bound) (r : Option RecNo) → option_map number r ≡ option_and_then record_of (option_map (type_at t) b.pending.base) → Does Any t b (λ _. filling) t (record b { place = record b.place { filled = r } })
fill_does t b r e = record {
  state = λ source s p sound spelled. ap {A = Option ℕ} {B = State} (λ z. record (with_bound t b s) { filled = z }) e;
  spelled = λ source p h. h;
}

-- ---- a tag that is used

pub found_used : (b : Bound) (n : TypeNo) (what : Kind) (k : Option ℕ) (i : ℕ) (r : Bool) (y : KnownNames) → r ≡ repeats false what (kind_by b.place.keyword) → r ≡ true → names.Moves b.names (looked_up space.Tag i k) y
    → DoesWith n Any b (using what k i) (record b { names = y; pending = record b.pending { base = Some n; is_untagged = false } })
found_used b n what k i r y e h m t typed given = record {
  state = λ source s p sound spelled.
      (m t).state source (rest (record b { names = y; pending = record b.pending { base = Some n; is_untagged = false } }) t s) tt sound spelled.0
      ∙ ap (λ z. if z then based (type_at t n) (looked_up space.Tag i k (with_bound t b s)) else failed cause.Redeclared i (with_bound t b s)) (sym h ∙ e);
  spelled = λ source p h. ((m t).spelled source tt h.0, h.1);
}

pub use_refused : (b : Bound) (n : TypeNo) (what : Kind) (k : Option ℕ) (i : ℕ) (r : Bool) → r ≡ repeats false what (kind_by b.place.keyword) → r ≡ false → FailsWith n Any b (using what k i) cause.Redeclared i
use_refused b n what k i r e h t typed given source s p sound spelled =
    ap (λ z. (if z then based (type_at t n) (looked_up space.Tag i k (with_bound t b s)) else failed cause.Redeclared i (with_bound t b s)).fault) (sym e ∙ h)

pub use_typed : (b : Bound) (n : TypeNo) (f : State → State) (y : KnownNames) → names.Moves b.names f y → StaysWith n b (record b { names = y; pending = record b.pending { base = Some n; is_untagged = false } })
use_typed b n f y m t typed given = record { names = (m t).typed typed.names; records = typed.records; base = given; filled = typed.filled; basics = typed.basics }

module _ (t : Table) (b : Bound) (tokens : List Tok) (name : Name) (on : (source : Source) → HasTokens tokens source → IsNamed b.place.last name source)
    (k : Option ℕ) (means : IsMeaning b.names space.Tag name k) where
  use_is : (o : Option Declaration) (source : Source) (s : State) → HasTokens tokens source → AreSpelled source b → declaration_at (with_bound t b s) k ≡ o
      → tag_used source (with_bound t b s) ≡ used_tag k o source b.place.last (with_bound t b s)
  use_is o source s q spelled e =
      (λ j. used_tag (m j) (declaration_at (with_bound t b s) (m j)) source b.place.last (with_bound t b s)) ∙ ap (λ z. used_tag k z source b.place.last (with_bound t b s)) e
    where
      m : meaning_here source space.Tag b.place.last (with_bound t b s) ≡ k
      m = means t source (rest b t s) b.place.last (on source q) spelled.0

  module _ (x : Typed) (found : IsDeclaration b.names k (Some x)) (typed : IsTyped t b) (given : IsTypeNo t x.ty) where
    pub used_does : (c : Bound) → DoesWith x.ty Any b (using x.row.decl.kind k b.place.last) c → Does (HasTokens tokens) t b tag_used t c
    used_does c d = record {
      state = λ source s q sound spelled.
          (d t typed given).state source s tt sound spelled ∙ sym (use_is (Some (declaration_of t b.names.declared.paths x)) source s q spelled (found t (rest b t s)));
      spelled = λ source q h. (d t typed given).spelled source tt h;
    }

    pub used_fails : (z : BindFault) → Refuses z (FailsWith x.ty Any b (using x.row.decl.kind k b.place.last)) → Refuses z (Fails (HasTokens tokens) t b tag_used)
    used_fails z = refuses_on z (FailsWith x.ty Any b (using x.row.decl.kind k b.place.last)) (Fails (HasTokens tokens) t b tag_used)
        (λ c j f source s q sound spelled. ap (λ a. a.fault) (use_is (Some (declaration_of t b.names.declared.paths x)) source s q spelled (found t (rest b t s))) ∙ f t typed given source s tt sound spelled)

  module _ (missing : IsDeclaration b.names k None) (y : KnownNames) (m : names.Moves b.names (looked_up space.Tag b.place.last None) y) where
    pub unseen_does : (u : Table) (c : Bound) → Does (IsNamed b.place.last name) t (record b { names = y }) (tagging None b.place.last) u c → Does (HasTokens tokens) t b tag_used u c
    unseen_does u c d = record {
      state = λ source s q sound spelled.
          d.state source s (on source q) sound ((m t).spelled source tt spelled.0, spelled.1)
          ∙ ap (tagging None b.place.last source) ((m t).state source (rest b t s) tt sound spelled.0)
          ∙ sym (use_is None source s q spelled (missing t (rest b t s)));
      spelled = λ source q h. d.spelled source (on source q) ((m t).spelled source tt h.0, h.1);
    }

    pub unseen_fails : (z : BindFault) → Refuses z (Fails (IsNamed b.place.last name) t (record b { names = y }) (tagging None b.place.last)) → Refuses z (Fails (HasTokens tokens) t b tag_used)
    unseen_fails z = refuses_on z (Fails (IsNamed b.place.last name) t (record b { names = y }) (tagging None b.place.last)) (Fails (HasTokens tokens) t b tag_used)
        (λ c j f source s q sound spelled.
        ap (λ a. a.fault) (use_is None source s q spelled (missing t (rest b t s)) ∙ ap (tagging None b.place.last source) (sym ((m t).state source (rest b t s) tt sound spelled.0)))
        ∙ f source s (on source q) sound ((m t).spelled source tt spelled.0, spelled.1))

-- ---- a brace

record_below_pending : (p : Pending) (i : ℕ) (s : State) → with_record i (record s { pending = p }) ≡ record (with_record i s) { pending = p }
record_below_pending p i s = by (is_record_kind s.keyword)
  where
    by : (b : Bool) → (if b then recorded (record { token = i; is_union = is_union_kind s.keyword }) (record s { pending = p }) else record s { pending = p })
        ≡ record (if b then recorded (record { token = i; is_union = is_union_kind s.keyword }) s else s) { pending = p }
    by true = refl
    by false = refl

record_pending : (i : ℕ) (s : State) → (with_record i s).pending ≡ s.pending
record_pending i s = by (is_record_kind s.keyword)
  where
    by : (b : Bool) → (if b then recorded (record { token = i; is_union = is_union_kind s.keyword }) s else s).pending ≡ s.pending
    by true = refl
    by false = refl

pub untagged_does : (t u : Table) (b mid : Bound) (n : TypeNo) (v : Bool) (i : ℕ) (c : Bound) → ((s : State) → type_at u n ≡ new_type (with_bound t b s)) → v ≡ is_record_kind (kind_by b.place.keyword)
    → mid.pending ≡ b.pending → Does Any t b (λ _. announcing None i) u mid
    → Does Any u (record mid { pending = record mid.pending { base = Some n; is_untagged = v } }) (λ _. filling) u c → Does Any t b (λ _. untagged_at i) u c
untagged_does t u b mid n v i c meant e same d f = record {
  state = λ source s p sound spelled.
      f.state source s tt sound (d.spelled source tt spelled)
      ∙ ap filling
      ((λ j. record (d.state source s tt sound spelled j) { pending = pending_by u (record (same j) { base = Some n; is_untagged = v }) })
      ∙ (λ j. record (with_record i (with_bound t b s)) { pending = record { specifiers = b.pending.specifiers; last_basic = b.pending.last_basic; base = Some (meant s j); is_untagged = e j; name = b.pending.name; parameters = b.pending.parameters } })
      ∙ sym (record_below_pending (record { specifiers = b.pending.specifiers; last_basic = b.pending.last_basic; base = Some (new_type (with_bound t b s)); is_untagged = is_record_kind (kind_by b.place.keyword); name = b.pending.name; parameters = b.pending.parameters }) i (with_bound t b s)));
  spelled = λ source p h. f.spelled source tt (d.spelled source tt h);
}

pub brace_typed : (u : Table) (mid : Bound) (n : TypeNo) (v : Bool) → IsTyped u mid → IsTypeNo u n → IsTyped u (record mid { pending = record mid.pending { base = Some n; is_untagged = v } })
brace_typed u mid n v h given = record { names = h.names; records = h.records; base = given; filled = h.filled; basics = h.basics }
