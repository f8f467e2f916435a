-- Tokens and actions keep what is bound sound.
use Rattle.std.specs.Prelude.{◌≡◌, ℕ, ◌+◌, ◌<◌, Bool, true, false, not, ◌&&◌, ◌==◌, if◌then◌else◌, eqb, Option, Some, None, is_some, Result, Ok, Err, List, [], ◌∷◌, ◌++◌, length, map, Contains}
use Rattle.std.specs.List.{list_any, find}
use Rattle.std.proofs.Common.{refl, sym, ◌∙◌, ap, subst, arith}
use Rattle.cr_base.specs.declared.Kind.{Kind}
use Rattle.cr_base.specs.declared.Kind.TheVariants as kind
use Rattle.cr_base.specs.declared.cause.IllCause.{IllCause}
use Rattle.cr_base.specs.declared.cause.IllCause.TheVariants as cause
use Rattle.cr_grammar.specs.declared.symbols.NonTerm.{NonTerm}
use Rattle.cr_grammar.specs.declared.symbols.NonTerm.TheVariants as n
use Rattle.cr_grammar.specs.declared.symbols.Action.{Action}
use Rattle.cr_grammar.specs.declared.symbols.Action.TheVariants as a
use Rattle.cr_scope.specs.declared.Space.{Space}
use Rattle.cr_scope.specs.declared.Space.TheVariants as space
use Rattle.cr_scope.specs.declared.Linkage.{Linkage}
use Rattle.cr_scope.specs.declared.Linkage.TheVariants as linkage
use Rattle.cr_scope.specs.Declarations.{same_space, same_name}
use Rattle.cr_scope.specs.Linkage.{is_file_scope, linkage_by}
use Rattle.cr_scope.specs.Meaning.{LookupMeans}
use Rattle.cr_scope.specs.Redeclaration.{same_path, clashes, repeats}
use Rattle.cr_types.specs.Types.{CType, Void, Arith, Ptr, Rec}
use Rattle.cr_decl.specs.declared.SpecWord.{SpecWord}
use Rattle.cr_decl.specs.declared.SpecWord.TheVariants as w
use Rattle.cr_decl.specs.Specifiers.{may_follow}
use Rattle.cr_typing.specs.Initialisers.{Braces, starts_from}
use Rattle.cr_typing.specs.ExpressionTypes.{decayed}
use Rattle.cr_binding.specs.Source.{Source, name_at, text_at, is_identifier, is_built_in}
use Rattle.cr_binding.specs.State.{Declaration, Record, Member, LookedUp, GoesTo, Selects, IsBuiltIn, IsParameter, Target, Whole, Within, State}
use Rattle.cr_binding.specs.Entities.{entry, is_tag, is_tag_here, token_or}
use Rattle.cr_binding.specs.Declaring.{failed, used, declare, declaration, declaration_at, meaning_here, linkage_for, linkage_seen, is_internal, has_word, looked_up, declare_as, kind_of, declare_named, declare_parameter}
use Rattle.cr_binding.specs.Specifying.{specifier_at, specified, announced, read_in, based, named_type, atomic_type, specified_by, type_specifier, specified_type, declared_type}
use Rattle.cr_binding.specs.Tags.{is_record_kind, is_union_kind, with_record, new_type, record_of, tag_here, declare_tag, tag_again, filling, completing, tag_definition, untagged, used_tag}
use Rattle.cr_binding.specs.RecordMembers.{is_named, members_of, is_complete, or_no_member, member_in, selected, selected_through, least_token, repeated, select, write_unless, write, named_member, add_member, brought_in, add_anonymous, splice, end_record}
use Rattle.cr_binding.specs.Expressions.{operand, is_function_name, is_value, built_in, denoting, identifier, selecting, is_arrow}
use Rattle.cr_binding.specs.Initialising.{dotted, designating, designator, initialiser}
use Rattle.cr_binding.specs.Scoping.{entered_in, body_within, unless_failed, jump_to, all_jumps, body_ended}
use Rattle.cr_binding.specs.Actions.{acted}
use Rattle.cr_sound_law.specs.Sound.{IsToken}
use Rattle.cr_sound_law.proofs.Lists.{in_tail, only_one, all_and, nothing_in, longer, longer_by_one, passed_of, found_there, and_both}
use Rattle.cr_sound_law.proofs.Unique.{Apart, brought_from, brought_to, brought_apart, no_least, written_apart}
use Rattle.cr_sound_law.proofs.Tokens.{is_anon}
use Rattle.cr_sound_law.proofs.Keeping.{kept, IfToken, IfRecord, IsMemberOf, Sound, Stays, if_stays, used_stays, added_stays, declare_stays, recorded_stays, membered_stays, hidden_stays, jumping_stays, placed_stays, Means, looked_stays, means_here}

-- ---- linkage

-- what sees nothing has no internal linkage without `static`
unseen_by : (file_scope static extern function : Bool) → (is_internal (linkage_by file_scope static extern function None) && not static) ≡ false
unseen_by true true ex fn = refl
unseen_by false true ex fn = refl
unseen_by true false true fn = refl
unseen_by false false true fn = refl
unseen_by true false false true = refl
unseen_by false false false true = refl
unseen_by true false false false = refl
unseen_by false false false false = refl

unseen : (t : Source) (what : Kind) (s : State) → (is_internal (linkage_for t None what s) && not (has_word w.Static s)) ≡ false
unseen t kind.Typedef s = refl
unseen t kind.Function s = unseen_by (is_file_scope s.present) (has_word w.Static s) (has_word w.Extern s) true
unseen t kind.Object s = unseen_by (is_file_scope s.present) (has_word w.Static s) (has_word w.Extern s) false
unseen t kind.Enumerator s = unseen_by (is_file_scope s.present) (has_word w.Static s) (has_word w.Extern s) false
unseen t kind.Struct s = unseen_by (is_file_scope s.present) (has_word w.Static s) (has_word w.Extern s) false
unseen t kind.Union s = unseen_by (is_file_scope s.present) (has_word w.Static s) (has_word w.Extern s) false
unseen t kind.Enum s = unseen_by (is_file_scope s.present) (has_word w.Static s) (has_word w.Extern s) false
unseen t kind.Member s = unseen_by (is_file_scope s.present) (has_word w.Static s) (has_word w.Extern s) false
unseen t kind.Label s = unseen_by (is_file_scope s.present) (has_word w.Static s) (has_word w.Extern s) false

-- ---- tags

tag_space : (sp : Space) → same_space sp space.Tag ≡ true → sp ≡ space.Tag
tag_space space.Tag h = refl
tag_space space.Label h = cc
tag_space space.Ordinary h = cc

ordinary_tag : {P : Type 0} → space.Ordinary ≡ space.Tag → P
ordinary_tag h = cc

label_tag : {P : Type 0} → space.Label ≡ space.Tag → P
label_tag h = cc

module _ (means : LookupMeans) (t : Source) (i : ℕ) where
  -- ---- declarations

  seen_stays : (l : Linkage) (k : ℕ) (o : Option ℕ) (s : State) → IsToken t k → Means t space.Ordinary k s o → (o ≡ None → (is_internal l && not (has_word w.Static s)) ≡ false) → Stays t i s (linkage_seen l k o s)
  seen_stays l k (Some c) s own m none =
      if_stays t i (is_internal l && not (has_word w.Static s)) s (looked_up space.Ordinary k (Some c) s) s (looked_stays t i space.Ordinary k c s own m) (λ h. h)
  seen_stays l k None s own m none =
      let e : linkage_seen l k None s ≡ s = ap (λ b. if b then looked_up space.Ordinary k None s else s) (none refl) in
      λ h. subst (λ (x : State). Sound t i (kept x)) (sym e) h

  seen_records : (l : Linkage) (k : ℕ) (o : Option ℕ) (s : State) → (linkage_seen l k o s).records ≡ s.records
  seen_records l k o s = by (is_internal l && not (has_word w.Static s))
    where
      by : (b : Bool) → (if b then looked_up space.Ordinary k o s else s).records ≡ s.records
      by true = refl
      by false = refl

  as_stays : (o : Option ℕ) (what : Kind) (k : ℕ) (c : CType) (s : State) → IsToken t k → Means t space.Ordinary k s o → Stays t i s (declare_as t o what k c s)
  as_stays o what k c s own m h =
      let l = linkage_for t (declaration_at s o) what s in
      declare_stays t i (declaration space.Ordinary what l k c s) (linkage_seen l k o s) own (λ e. ordinary_tag e) (seen_stays l k o s own m none h)
    where
      none : o ≡ None → (is_internal (linkage_for t (declaration_at s o) what s) && not (has_word w.Static s)) ≡ false
      none e =
          ap (λ o. is_internal (linkage_for t (declaration_at s o) what s) && not (has_word w.Static s)) e ∙ unseen t what s

  named_stays : (o : Option ℕ) (c : CType) (s : State) → IfToken t o → Stays t i s (declare_named t o c s)
  named_stays None c s own h = h
  named_stays (Some k) c s own h =
      as_stays (meaning_here t space.Ordinary k s) (kind_of c s) k c s own (means_here means t space.Ordinary k s) h

  plain_stays : (sp : Space) (what : Kind) (k : ℕ) (c : CType) (s x : State) → IsToken t k → (sp ≡ space.Tag → IfRecord (length x.records) (record_of c)) → Stays t i x (declare t (declaration sp what linkage.None k c s) x)
  plain_stays sp what k c s x own tag = declare_stays t i (declaration sp what linkage.None k c s) x own tag

  parameter_stays : (o : Option ℕ) (c : CType) (s : State) → IfToken t o → Stays t i s (declare_parameter t o c s)
  parameter_stays None c s own h = h
  parameter_stays (Some k) c s own h =
      let x = used (IsParameter k) s in
      plain_stays space.Ordinary kind.Object k (decayed c) x x own (λ e. ordinary_tag e) (used_stays t i (IsParameter k) s own h)

  -- ---- specifiers

  specified_stays : (x : Option SpecWord) (k : ℕ) (s : State) → Stays t i s (specified x k s)
  specified_stays None k s = λ h. h
  specified_stays (Some x) k s = if_stays t i (may_follow s.pending.specifiers x) s _ _ (λ h. h) (λ h. h)

  announced_stays : (x : Option SpecWord) (s : State) → Stays t i s (announced x s)
  announced_stays None s = λ h. h
  announced_stays (Some w.Struct) s = λ h. h
  announced_stays (Some w.Union) s = λ h. h
  announced_stays (Some w.Enum) s = λ h. h
  announced_stays (Some _) s = λ h. h

  pub read_stays : (m : NonTerm) (k : ℕ) (s : State) → Stays t i s (read_in m t k s)
  read_stays n.Mod k s = specified_stays (specifier_at t k) k s
  read_stays n.Specs0 k s = specified_stays (specifier_at t k) k s
  read_stays n.SpecsB k s = specified_stays (specifier_at t k) k s
  read_stays n.Rec k s = announced_stays (specifier_at t k) s
  read_stays n.Enum k s = announced_stays (specifier_at t k) s
  read_stays _ k s = λ h. h

  named_type_stays : (o : Option ℕ) (k : ℕ) (s : State) → IsToken t k → Means t space.Ordinary k s o → Stays t i s (named_type o (declaration_at s o) k s)
  named_type_stays None k s own m h = h
  named_type_stays (Some c) k s own m h = by (declaration_at s (Some c))
    where
      by : (d : Option Declaration) → Sound t i (kept (named_type (Some c) d k s))
      by None = h
      by (Some d) = looked_stays t i space.Ordinary k c s own m h

  atomic_stays : (cs : List CType) (s : State) → Stays t i s (atomic_type cs s)
  atomic_stays [] s = λ h. h
  atomic_stays (c ∷ cs) s = λ h. h

  by_stays : (x : Option SpecWord) (s : State) → Stays t i s (specified_by x s)
  by_stays None s = λ h. h
  by_stays (Some w.Atomic) s = atomic_stays s.values s
  by_stays (Some _) s = λ h. h

  specifier_stays : (k : ℕ) (s : State) → IsToken t k → Stays t i s (type_specifier t k s)
  specifier_stays k s own =
      let o = meaning_here t space.Ordinary k s in
      if_stays t i (is_identifier t k) s _ _ (named_type_stays o k s own (means_here means t space.Ordinary k s)) (by_stays (specifier_at t k) s)

  -- ---- tags

  record_stays : (k : ℕ) (s : State) → IsToken t k → Stays t i s (with_record k s)
  record_stays k s own =
      if_stays t i (is_record_kind s.keyword) s _ _ (recorded_stays t i (record { token = k; is_union = is_union_kind s.keyword }) s own) (λ h. h)

  -- a new tag has the new record
  new_record : (k : ℕ) (s : State) → IfRecord (length (with_record k s).records) (record_of (new_type s))
  new_record k s = by (is_record_kind s.keyword)
    where
      r : Record
      r = record { token = k; is_union = is_union_kind s.keyword }

      by : (b : Bool) → IfRecord (length (if b then record s { records = s.records ++ r ∷ [] } else s).records) (record_of (if b then Rec (length s.records) else Arith))
      by true = longer_by_one s.records r
      by false = tt

  declare_records : (d : Declaration) (s : State) → (declare t d s).records ≡ s.records
  declare_records d s = by (list_any (clashes (entry t d)) (map (entry t) s.declarations))
    where
      by : (b : Bool) → (if b then failed cause.Redeclared d.token s else record s { declarations = s.declarations ++ d ∷ [] }).records ≡ s.records
      by true = refl
      by false = refl

  tag_stays : (k : ℕ) (c : CType) (s : State) → IsToken t k → IfRecord (length s.records) (record_of c) → Stays t i s (declare_tag t k c s)
  tag_stays k c s own within h = plain_stays space.Tag s.keyword k c s s own (λ e. within) h

  -- a tag of the present scope
  abbrev IsTagIn : State → Option Declaration → Type 0
  IsTagIn s o = (d : Declaration) → o ≡ Some d → Contains s.declarations d × (d.space ≡ space.Tag)

  tag_found : (k : ℕ) (s : State) → IsTagIn s (tag_here t k s)
  tag_found k s d e =
      let f : Contains s.declarations d × (is_tag_here t s.present k d ≡ true) = found_there (is_tag_here t s.present k) s.declarations d e in
      (f.0, tag_space d.space (and_both (is_tag d) (same_path d.path s.present && same_name (name_at t d.token) (name_at t k)) f.1).0)

  again_stays : (o : Option Declaration) (k : ℕ) (s : State) → IsToken t k → IsTagIn s o → Stays t i s (tag_again o t k s)
  again_stays None k s own tag h =
      tag_stays k (new_type s) (with_record k s) own (new_record k s) (record_stays k s own h)
  again_stays (Some d) k s own tag h =
      let f = tag d refl in tag_stays k d.type s own (h.tags d f.0 f.1) h

  -- its members follow
  fills : (o : Option Declaration) (k j : ℕ) (s : State) → IsToken t k → IsTagIn s o → Stays t i s (filling (completing j (tag_again o t k s)))
  fills None k j s own tag h =
      let x = with_record k s in
      let d = declaration space.Tag x.keyword linkage.None k (new_type s) x in
      let y = tag_again None t k s in
      placed_stays t i y (filling (completing j y)) y.pending.name (record_of (new_type s)) refl (again_stays None k s own tag h).name
      (subst (λ rs. IfRecord (length rs) (record_of (new_type s))) (sym (declare_records d x)) (new_record k s))
      (again_stays None k s own tag h)
  fills (Some e) k j s own tag h =
      let d = declaration space.Tag s.keyword linkage.None k e.type s in
      let y = tag_again (Some e) t k s in
      let f = tag e refl in
      placed_stays t i y (filling (completing j y)) y.pending.name (record_of e.type) refl (again_stays (Some e) k s own tag h).name
      (subst (λ rs. IfRecord (length rs) (record_of e.type)) (sym (declare_records d s)) (h.tags e f.0 f.1))
      (again_stays (Some e) k s own tag h)

  definition_stays : (k : ℕ) (s : State) → IsToken t k → Stays t i s (tag_definition t k s)
  definition_stays k s own =
      let first = token_or k (tag_here t k s) in
      if_stays t i (list_any (eqb first) s.completed) s _ _ (λ h. h) (fills (tag_here t k s) k first s own (tag_found k s))

  untagged_stays : (k : ℕ) (s : State) → IsToken t k → Stays t i s (untagged k s)
  untagged_stays k s own h = by (is_record_kind s.keyword)
    where
      r : Record
      r = record { token = k; is_union = is_union_kind s.keyword }

      x : Bool → State
      x b = record s { pending = record s.pending { base = Some (if b then Rec (length s.records) else Arith); is_untagged = b } }

      by : (b : Bool) → Sound t i (kept (filling (if b then record (x b) { records = s.records ++ r ∷ [] } else x b)))
      by true =
          let y : State = record (x true) { records = s.records ++ r ∷ [] } in
          placed_stays t i y (filling y) s.pending.name (Some (length s.records)) refl h.name (longer_by_one s.records r) (recorded_stays t i r s own h)
      by false = placed_stays t i (x false) (filling (x false)) s.pending.name None refl h.name tt h

  -- a tag that is used and not seen is declared behind its use
  unseen_tag : (k : ℕ) (c : CType) (s : State) → IsToken t k → IfRecord (length s.records) (record_of c) → Sound t i (kept s) → (declare_tag t k c (looked_up space.Tag k None s)).fault ≡ None → Sound t i (kept (declare_tag t k c (looked_up space.Tag k None s)))
  unseen_tag k c s own within h = by (list_any (clashes (entry t d)) (map (entry t) s.declarations))
    where
      d : Declaration
      d = declaration space.Tag s.keyword linkage.None k c s

      y : State
      y = record s { declarations = s.declarations ++ d ∷ [] }

      by : (b : Bool) → (based c (if b then failed cause.Redeclared k (looked_up space.Tag k None s) else record (looked_up space.Tag k None s) { declarations = s.declarations ++ d ∷ [] })).fault ≡ None → Sound t i (kept (based c (if b then failed cause.Redeclared k (looked_up space.Tag k None s) else record (looked_up space.Tag k None s) { declarations = s.declarations ++ d ∷ [] })))
      by true e = cc
      by false e =
          used_stays t i (LookedUp space.Tag k s.present (length s.declarations) None) y (own, longer s.declarations (d ∷ []), longer_by_one s.declarations d) (added_stays t i d s own (λ e. within) h)

  first_use : (k : ℕ) (s : State) → IsToken t k → Sound t i (kept s) → (tag_again None t k (looked_up space.Tag k None s)).fault ≡ None → Sound t i (kept (tag_again None t k (looked_up space.Tag k None s)))
  first_use k s own h = by (is_record_kind s.keyword)
    where
      r : Record
      r = record { token = k; is_union = is_union_kind s.keyword }

      u : State
      u = looked_up space.Tag k None s

      y : Bool → State
      y b = declare_tag t k (if b then Rec (length s.records) else Arith) (if b then record u { records = s.records ++ r ∷ [] } else u)

      by : (b : Bool) → (y b).fault ≡ None → Sound t i (kept (y b))
      by true = unseen_tag k (Rec (length s.records)) (record s { records = s.records ++ r ∷ [] }) own (longer_by_one s.records r) (recorded_stays t i r s own h)
      by false = unseen_tag k Arith s own tt h

  used_tag_stays : (o : Option ℕ) (k : ℕ) (s : State) → IsToken t k → Means t space.Tag k s o → Sound t i (kept s) → (used_tag o (declaration_at s o) t k s).fault ≡ None → Sound t i (kept (used_tag o (declaration_at s o) t k s))
  used_tag_stays None k s own m h = first_use k s own h
  used_tag_stays (Some c) k s own m h = by (declaration_at s (Some c))
    where
      by : (d : Option Declaration) → (used_tag (Some c) d t k s).fault ≡ None → Sound t i (kept (used_tag (Some c) d t k s))
      by None = first_use k s own h
      by (Some d) = λ e. if_stays t i (repeats false d.kind s.keyword) s _ _ (looked_stays t i space.Tag k c s own m) (λ h. h) h

  -- ---- members

  write_stays : (r : ℕ) (c : CType) (more : List Member) (s : State) → ((m : Member) → Contains more m → m.holder ≡ r) → (Sound t i (kept s) → (m : Member) → Contains more m → IsMemberOf t (length s.records) m) → (Sound t i (kept s) → Apart t more) → Stays t i s (write t r c more s)
  write_stays r c more s held own apart = by (least_token (repeated t s r more)) refl
    where
      by : (o : Option ℕ) → least_token (repeated t s r more) ≡ o → Stays t i s (write_unless o r c more s)
      by (Some k) e = λ h. h
      by None e =
          membered_stays t i more s (write_unless None r c more s) refl own (λ h. written_apart t r more s held (no_least t (repeated t s r more) e) (apart h) h.unique)

  member_stays : (o p : Option ℕ) (c : CType) (s : State) → IfRecord (length s.records) o → IfToken t p → Stays t i s (add_member t o p c s)
  member_stays None p c s within own = λ h. h
  member_stays (Some r) None c s within own = λ h. h
  member_stays (Some r) (Some k) c s within own =
      let x = named_member r k c s in
      write_stays r c (x ∷ []) s (λ m d. ap (λ (z : Member). z.holder) (sym (only_one x m d)))
      (λ h m d. subst (IsMemberOf t (length s.records)) (only_one x m d) (own, within))
      (λ h. (λ m d. nothing_in m d, tt))

  anonymous_stays : (o p : Option ℕ) (c : CType) (s : State) → Stays t i s (add_anonymous t o p c s)
  anonymous_stays None p c s = λ h. h
  anonymous_stays (Some r) None c s = λ h. h
  anonymous_stays (Some r) (Some q) c s =
      write_stays r c (brought_in r q s) s (λ m d. brought_to t r (members_of s q) m d)
      (λ h m d. (let k = brought_from t r (members_of s q) m d in
      let f = h.members k.0 (passed_of (λ m. m.holder == q) s.members k.0 k.1).0 in
      (subst (IsToken t) k.2 f.0, subst (λ o. o < length s.records) k.3 f.1)))
      (λ h. brought_apart t r q s h.unique)

  splice_stays : (s : State) → Stays t i s (splice t s)
  splice_stays s =
      let c = specified_type s.pending in
      if_stays t i s.pending.is_untagged s _ _ (anonymous_stays s.filled (record_of c) c s) (λ h. h)

  end_stays : (r : Option ℕ) (s : State) → Stays t i s (end_record r s)
  end_stays None s = λ h. h
  end_stays (Some r) s = λ h. h

  -- ---- selecting

  member_there : (s : State) (r k : ℕ) (m : Member) → member_in t s r (name_at t k) ≡ Ok m → Contains s.members m
  member_there s r k m = by (is_complete s r)
    where
      of : (o : Option Member) → find (is_named t (name_at t k)) (members_of s r) ≡ o → or_no_member o ≡ Ok m → Contains s.members m
      of None e h = cc
      of (Some x) e h =
          let same : x ≡ m = cc in
          let f = found_there (is_named t (name_at t k)) (members_of s r) x e in
          subst (Contains s.members) same (passed_of (λ m. m.holder == r) s.members x f.0).0

      by : (b : Bool) → or_no_member (if b then find (is_named t (name_at t k)) (members_of s r) else None) ≡ Ok m → Contains s.members m
      by true h = of (find (is_named t (name_at t k)) (members_of s r)) refl h
      by false h = cc

  selected_there : (s : State) (k : ℕ) (c : CType) (m : Member) → selected t s (name_at t k) c ≡ Ok m → Contains s.members m
  selected_there s k (Rec r) m h = member_there s r k m h
  selected_there s k _ m h = cc

  through_there : (s : State) (k : ℕ) (c : CType) (m : Member) → selected_through t s (name_at t k) c ≡ Ok m → Contains s.members m
  through_there s k (Ptr c) m h = selected_there s k c m h
  through_there s k _ m h = cc

  select_there : (arrow : Bool) (s : State) (k : ℕ) (c : CType) (m : Member) → select t s arrow (name_at t k) c ≡ Ok m → Contains s.members m
  select_there true s k c m h = through_there s k (decayed c) m h
  select_there false s k c m h = selected_there s k c m h

  dotted_there : (s : State) (k : ℕ) (o : Option CType) (m : Member) → dotted t s (name_at t k) o ≡ Ok m → Contains s.members m
  dotted_there s k None m h = cc
  dotted_there s k (Some (Rec r)) m h = member_there s r k m h
  dotted_there s k (Some _) m h = cc

  selects_stays : (k : ℕ) (m : Member) (s : State) → IsToken t k → Contains s.members m → Stays t i s (used (Selects k m.token) s)
  selects_stays k m s own there h = used_stays t i (Selects k m.token) s (own, (h.members m there).0) h

  selecting_stays : (x : Result Member IllCause) (k : ℕ) (s : State) → IsToken t k → ((m : Member) → x ≡ Ok m → Contains s.members m) → Stays t i s (selecting x k s)
  selecting_stays (Err c) k s own there = λ h. h
  selecting_stays (Ok m) k s own there = selects_stays k m s own (there m refl)

  designating_stays : (x : Result Member IllCause) (b : Braces) (k : ℕ) (s : State) → IsToken t k → ((m : Member) → x ≡ Ok m → Contains s.members m) → Stays t i s (designating x b k s)
  designating_stays (Err c) b k s own there = λ h. h
  designating_stays (Ok m) b k s own there = selects_stays k m s own (there m refl)

  designator_stays : (x : Target) (k : ℕ) (s : State) → IsToken t k → Stays t i s (designator x t k s)
  designator_stays (Whole c) k s own = λ h. h
  designator_stays (Within b) k s own =
      designating_stays (dotted t s (name_at t k) (starts_from b)) b k s own (dotted_there s k (starts_from b))

  -- ---- expressions, initialisers and scopes

  denoting_stays : (called : Bool) (o : Option ℕ) (k : ℕ) (s : State) → IsToken t k → Means t space.Ordinary k s o → Stays t i s (denoting called o (declaration_at s o) t k s)
  denoting_stays called None k s own m h =
      if_stays t i (called && is_built_in (text_at t k)) s (built_in k s) (failed cause.Unresolved k s) (used_stays t i (IsBuiltIn k) s own) (λ h. h) h
  denoting_stays called (Some c) k s own m h = by (declaration_at s (Some c))
    where
      by : (d : Option Declaration) → Sound t i (kept (denoting called (Some c) d t k s))
      by None =
          if_stays t i (called && is_built_in (text_at t k)) s (built_in k s) (failed cause.Unresolved k s) (used_stays t i (IsBuiltIn k) s own) (λ h. h) h
      by (Some d) = if_stays t i (is_value d.kind) s _ _ (looked_stays t i space.Ordinary k c s own m) (λ h. h) h

  identifier_stays : (called : Bool) (k : ℕ) (s : State) → IsToken t k → Stays t i s (identifier called t k s)
  identifier_stays called k s own =
      let o = meaning_here t space.Ordinary k s in
      if_stays t i (s.in_body && is_function_name (text_at t k)) s (built_in k s) (denoting called o (declaration_at s o) t k s) (used_stays t i (IsBuiltIn k) s own) (denoting_stays called o k s own (means_here means t space.Ordinary k s))

  initialiser_stays : (m : NonTerm) (s : State) → Stays t i s (initialiser m s)
  initialiser_stays n.InitOpt s = λ h. h
  initialiser_stays _ s = λ h. h

  entered_stays : (m : NonTerm) (s : State) → Stays t i s (entered_in m s)
  entered_stays n.Sufs s = λ h. h
  entered_stays _ s = λ h. h

  body_stays : (o : Option ℕ) (s : State) → Stays t i s (body_within o s)
  body_stays None s = λ h. h
  body_stays (Some k) s = jumping_stays t i s [] (λ k c. nothing_in k c)

  jump_stays : (o : Option ℕ) (k : ℕ) (s : State) → IsToken t k → Means t space.Label k s o → Stays t i s (jump_to o k s)
  jump_stays None k s own m = λ h. h
  jump_stays (Some c) k s own m = used_stays t i (GoesTo k c) s (own, (m.1, m.2, m.4))

  jumps_stay : (ks : List ℕ) (s : State) → ((k : ℕ) → Contains ks k → IsToken t k) → Stays t i s (all_jumps t ks s)
  jumps_stay [] s own h = h
  jumps_stay (k ∷ ks) s own h =
      let o = meaning_here t space.Label k s in
      jumps_stay ks (unless_failed s (jump_to o k s)) (λ x c. own x (in_tail k x ks c))
      (if_stays t i (is_some s.fault) s s (jump_to o k s) (λ h. h) (jump_stays o k s (own k (0, omega arith, refl)) (means_here means t space.Label k s)) h)

  ending_stays : (s : State) → Stays t i s (body_ended t s)
  ending_stays s h =
      jumping_stays t i (all_jumps t s.jumps s) [] (λ k c. nothing_in k c) (jumps_stay s.jumps s h.jumps h)

  -- ---- actions

  pub acted_stays : (m : NonTerm) (first : ℕ) (x : Action) (s : State) → IsToken t first → (is_anon x ≡ true → IsToken t (s.last + 1)) → Sound t i (kept s) → (acted t m first x s).fault ≡ None → Sound t i (kept (acted t m first x s))
  acted_stays m first a.Decl s own next h e = placed_stays t i s (acted t m first a.Decl s) None s.filled refl tt h.filled h
  acted_stays m first a.Spec s own next h e = specifier_stays first s own h
  acted_stays m first a.Name s own next h e = placed_stays t i s (acted t m first a.Name s) (Some s.last) s.filled refl h.last h.filled h
  acted_stays m first a.Declare s own next h e = named_stays s.pending.name (declared_type s) s h.name h
  acted_stays m first a.Param s own next h e = parameter_stays s.pending.name (declared_type s) s h.name h
  acted_stays m first a.Enumerator s own next h e =
      plain_stays space.Ordinary kind.Enumerator first Arith s s own (λ e. ordinary_tag e) h
  acted_stays m first a.TagDef s own next h e = definition_stays s.last s h.last h
  acted_stays m first a.TagAlone s own next h e = again_stays (tag_here t s.last s) s.last s h.last (tag_found s.last s) h
  acted_stays m first a.TagUse s own next h e =
      used_tag_stays (meaning_here t space.Tag s.last s) s.last s h.last (means_here means t space.Tag s.last s) h e
  acted_stays m first a.Anon s own next h e = untagged_stays (s.last + 1) s (next refl) h
  acted_stays m first a.EndRec s own next h e = end_stays s.filled s h
  acted_stays m first a.Member s own next h e = member_stays s.filled s.pending.name (declared_type s) s h.filled h.name h
  acted_stays m first a.Splice s own next h e = splice_stays s h
  acted_stays m first a.Enter s own next h e = entered_stays m s h
  acted_stays m first a.Body s own next h e = body_stays s.pending.parameters s h
  acted_stays m first a.EndBody s own next h e = ending_stays s h
  acted_stays m first a.Label s own next h e =
      plain_stays space.Label kind.Label s.last Void s s h.last (λ e. label_tag e) h
  acted_stays m first a.Goto s own next h e =
      jumping_stays t i s (s.jumps ++ s.last ∷ []) (all_and (IsToken t) s.jumps s.last h.jumps h.last) h
  acted_stays m first a.Callee s own next h e = identifier_stays true s.last s h.last h
  acted_stays m first a.Mention s own next h e = identifier_stays false s.last s h.last h
  acted_stays m first a.Select s own next h e =
      selecting_stays (select t s (is_arrow (text_at t first)) (name_at t s.last) (operand s)) s.last s h.last (select_there (is_arrow (text_at t first)) s s.last (operand s)) h
  acted_stays m first a.OffMember s own next h e =
      selecting_stays (select t s false (name_at t s.last) (operand s)) s.last s h.last (select_there false s s.last (operand s)) h
  acted_stays m first a.InitOf s own next h e = initialiser_stays m s h
  acted_stays m first a.Desig s own next h e = designator_stays s.target s.last s h.last h
  acted_stays m first a.Hidden s own next h e = hidden_stays t i s.last s h.last h
  acted_stays m first _ s own next h e = h
