-- Actions that look up a name, and those on tags, read the same after a renaming.
use Rattle.std.specs.Prelude.{◌≡◌, ℕ, Bool, true, false, ◌&&◌, eqb, if◌then◌else◌, Option, Some, None, List, [], ◌∷◌, ◌++◌, length, slice_get, Contains}
use Rattle.std.specs.List.{list_any}
use Rattle.std.proofs.Common.{refl, sym, ◌∙◌, ap, subst}
use Rattle.cr_base.specs.declared.Name.{Name}
use Rattle.cr_base.specs.declared.cause.IllCause.TheVariants as cause
use Rattle.cr_scope.specs.declared.Space.{Space}
use Rattle.cr_scope.specs.declared.Space.TheVariants as space
use Rattle.cr_scope.specs.declared.Linkage.TheVariants as linkage
use Rattle.cr_scope.specs.Declarations.{Entry, same_name}
use Rattle.cr_scope.specs.Meaning.{IsLookup}
use Rattle.cr_capture.proofs.Renamed.{found_at}
use Rattle.cr_scope.specs.Redeclaration.{same_path, repeats}
use Rattle.cr_types.specs.Types.{CType}
use Rattle.cr_binding.specs.Source.{Source, name_at, text_at, is_identifier, is_built_in}
use Rattle.cr_binding.specs.State.{Declaration, LookedUp, IsBuiltIn, State}
use Rattle.cr_binding.specs.Entities.{entry, is_tag, is_linked, is_typedef, is_tag_here, token_or}
use Rattle.cr_binding.specs.Declaring.{failed, used, declaration, declaration_at, meaning_here, looked_up, declare_plain}
use Rattle.cr_binding.specs.Specifying.{based, named_type, typedef_name, specified_by, specifier_at, type_specifier}
use Rattle.cr_binding.specs.Tags.{is_record_kind, is_union_kind, new_type, tag_here, declare_tag, tag_again, tag_alone, filling, completing, tag_definition, used_tag, tag_use}
use Rattle.cr_binding.specs.Expressions.{push, built_in, is_value, denoting, identifier, is_function_name}
use Rattle.cr_binding.specs.ActionsStay.{entries_of}
use Rattle.cr_binding.specs.FreeUnits.{IsFreeUnit}
use Rattle.cr_binding.specs.BindingGrows.{Extends, Grows}
use Rattle.cr_binding.specs.BindingStays.{MeansAlike, DeclaresAlike, MentionsAlike, NamesATagAlike, UsesATagAlike}
use Rattle.cr_binding.proofs.Asking.{declaration_of}
use Rattle.cr_binding.proofs.Growing.{followed, again_grows}
use Rattle.cr_binding_law.specs.Renaming.{HasNoOwnMeaning, IsRenamed, AreEntities}
use Rattle.cr_binding_law.proofs.Growth.{last_there, without_last, get_contains, still_at}
use Rattle.cr_binding_law.proofs.Renamed.{Laws, respelled, looked_alike, IsAdded, own, with_renaming, own_number, own_free, new_tag_free, added_alike}
use Rattle.cr_binding_law.proofs.Texts.{third_alike, third_by, function_name_alike, supplied_alike}
use Rattle.cr_binding_law.proofs.Acting.{some_not, true_not, tag_one, three, declare_added}

module _ (law : Laws) (class : ℕ → Bool) (old new : Name) (t u : Source) (ren : IsRenamed class old new t u) (end : State) (ents : AreEntities class t end) (free : IsFreeUnit class old new t end) where
  abbrev Added : List Declaration → Declaration → Type 0
  Added ds d = IsAdded law class old new t u ren end ents free ds d

  abbrev LooksUp : State → Space → ℕ → Option ℕ → Type 0
  LooksUp s sp i k = Contains end.uses (LookedUp sp i s.present (length s.declarations) k)

  -- a token that was looked up and denotes something means the same
  means_by : (s : State) → Extends s.declarations end.declarations → (sp : Space) (i : ℕ) (k : Option ℕ) → meaning_here t sp i s ≡ k → (k ≡ None → MeansAlike t u s sp i) → ((j : ℕ) → k ≡ Some j → LooksUp s sp i k) → MeansAlike t u s sp i
  means_by s more sp i None found none used = none refl
  means_by s more sp i (Some k) found none used =
      looked_alike law class old new t u ren end ents free s more sp i k found (used k refl)

  -- ---- typedef names

  typedef_alike : (i : ℕ) (s : State) → Grows s end → (typedef_name t i s).fault ≡ None → Grows (typedef_name t i s) end → MeansAlike t u s space.Ordinary i
  typedef_alike i s more h g = by (meaning_here t space.Ordinary i s) refl h g
    where
      by_declaration : (k : ℕ) (d : Option Declaration) → (named_type (Some k) d i s).fault ≡ None → Grows (named_type (Some k) d i s) end → LooksUp s space.Ordinary i (Some k)
      by_declaration k None h g = cc
      by_declaration k (Some d) h g = last_there s.uses end.uses _ g.uses

      by : (k : Option ℕ) → meaning_here t space.Ordinary i s ≡ k → (named_type k (declaration_at s k) i s).fault ≡ None → Grows (named_type k (declaration_at s k) i s) end → MeansAlike t u s space.Ordinary i
      by None found h g = cc
      by (Some k) found h g =
          looked_alike law class old new t u ren end ents free s more.declarations space.Ordinary i k found (by_declaration k (declaration_at s (Some k)) h g)

  pub specifier_alike : (i : ℕ) (s : State) → Grows s end → (type_specifier t i s).fault ≡ None → Grows (type_specifier t i s) end → is_identifier t i ≡ true → MeansAlike t u s space.Ordinary i
  specifier_alike i s more h g e =
      let k : type_specifier t i s ≡ typedef_name t i s = ap (λ b. if b then typedef_name t i s else specified_by (specifier_at t i) s) e in
      typedef_alike i s more (ap (λ (x : State). x.fault) (sym k) ∙ h) (subst (λ x. Grows x end) k g)

  -- ---- identifiers in expressions

  third_supplied : (i : ℕ) (s : State) (b : List ℕ → Bool) → ((text : List ℕ) → HasNoOwnMeaning text → b text ≡ false) → b (text_at t i) ≡ true → Contains end.uses (IsBuiltIn i) → MeansAlike t u s space.Ordinary i
  third_supplied i s b plain own used =
      third_alike class old new t u ren s space.Ordinary i
      (third_by class old new t u ren i (ents.uses (IsBuiltIn i) used) (λ h. true_not (b (text_at t i)) own (plain (text_at t i) h)))

  means_denoting : (called : Bool) (i : ℕ) (s : State) → Grows s end → (k : Option ℕ) → meaning_here t space.Ordinary i s ≡ k → (d : Option Declaration) → declaration_at s k ≡ d → (denoting called k d t i s).fault ≡ None → Grows (denoting called k d t i s) end → MeansAlike t u s space.Ordinary i
  means_denoting called i s more k found None at h g = by (called && is_built_in (text_at t i)) refl h g
    where
      second : (a b : Bool) → (a && b) ≡ true → b ≡ true
      second true b e = e
      second false b e = cc

      by : (b : Bool) → (called && is_built_in (text_at t i)) ≡ b → (if b then built_in i s else failed cause.Unresolved i s).fault ≡ None → Grows (if b then built_in i s else failed cause.Unresolved i s) end → MeansAlike t u s space.Ordinary i
      by true e h g =
          third_supplied i s is_built_in (λ text p. p.no_built_in) (second called (is_built_in (text_at t i)) e) (last_there s.uses end.uses (IsBuiltIn i) g.uses)
      by false e h g = cc
  means_denoting called i s more None found (Some d) at h g = cc
  means_denoting called i s more (Some k) found (Some d) at h g =
      looked_alike law class old new t u ren end ents free s more.declarations space.Ordinary i k found (by (is_value d.kind) h g)
    where
      by : (b : Bool) → (if b then push d.type (looked_up space.Ordinary i (Some k) s) else failed cause.Unresolved i s).fault ≡ None → Grows (if b then push d.type (looked_up space.Ordinary i (Some k) s) else failed cause.Unresolved i s) end → LooksUp s space.Ordinary i (Some k)
      by true h g = last_there s.uses end.uses _ g.uses
      by false h g = cc

  means_identifier : (called : Bool) (i : ℕ) (s : State) → Grows s end → (identifier called t i s).fault ≡ None → Grows (identifier called t i s) end → MeansAlike t u s space.Ordinary i
  means_identifier called i s more h g = by (s.in_body && is_function_name (text_at t i)) refl h g
    where
      second : (a b : Bool) → (a && b) ≡ true → b ≡ true
      second true b e = e
      second false b e = cc

      by : (b : Bool) → (s.in_body && is_function_name (text_at t i)) ≡ b → (if b then built_in i s else denoting called (meaning_here t space.Ordinary i s) (declaration_at s (meaning_here t space.Ordinary i s)) t i s).fault ≡ None → Grows (if b then built_in i s else denoting called (meaning_here t space.Ordinary i s) (declaration_at s (meaning_here t space.Ordinary i s)) t i s) end → MeansAlike t u s space.Ordinary i
      by true e h g =
          third_supplied i s is_function_name (λ text p. p.no_function_name) (second s.in_body (is_function_name (text_at t i)) e) (last_there s.uses end.uses (IsBuiltIn i) g.uses)
      by false e h g = means_denoting called i s more (meaning_here t space.Ordinary i s) refl (declaration_at s (meaning_here t space.Ordinary i s)) refl h g

  pub mention_alike : (called : Bool) (i : ℕ) (s : State) → Grows s end → (identifier called t i s).fault ≡ None → Grows (identifier called t i s) end → MentionsAlike t u s i
  mention_alike called i s more h g =
      record {
        means = means_identifier called i s more h g;
        own = ap (λ b. s.in_body && b) (function_name_alike class old new t u ren i);
        supplied = λ none. supplied_alike class old new t u ren i;
      }

  -- ---- tags

  abbrev TagAdded : ℕ → State → Type 0
  TagAdded i s = (c : CType) × Added s.declarations (declaration space.Tag s.keyword linkage.None i c s)

  tag_added : (d : Option Declaration) (i : ℕ) (s : State) → (tag_again d t i s).fault ≡ None → Grows (tag_again d t i s) end → TagAdded i s
  tag_added (Some d) i s h g =
      let its : Declaration = declaration space.Tag s.keyword linkage.None i d.type s in
      (d.type, declare_added law class old new t u ren end ents free its s h (based_grows d.type (declare_plain t space.Tag s.keyword i d.type s) g))
    where
      based_grows : (c : CType) (x : State) → Grows (based c x) end → Grows x end
      based_grows c x g =
          record { declarations = g.declarations; uses = g.uses; records = g.records; written = g.written; members = g.members; completed = g.completed; ended = g.ended; hidden = g.hidden }
  tag_added None i s h g =
      (new_type s, by (is_record_kind s.keyword) h g)
    where
      based_grows : (c : CType) (x : State) → Grows (based c x) end → Grows x end
      based_grows c x g =
          record { declarations = g.declarations; uses = g.uses; records = g.records; written = g.written; members = g.members; completed = g.completed; ended = g.ended; hidden = g.hidden }

      by : (b : Bool) → (declare_tag t i (new_type s) (if b then record s { records = s.records ++ (record { token = i; is_union = is_union_kind s.keyword }) ∷ [] } else s)).fault ≡ None → Grows (declare_tag t i (new_type s) (if b then record s { records = s.records ++ (record { token = i; is_union = is_union_kind s.keyword }) ∷ [] } else s)) end → Added s.declarations (declaration space.Tag s.keyword linkage.None i (new_type s) s)
      by true h g =
          let x : State = record s { records = s.records ++ (record { token = i; is_union = is_union_kind s.keyword }) ∷ [] } in
          declare_added law class old new t u ren end ents free (declaration space.Tag s.keyword linkage.None i (new_type s) s) x h (based_grows (new_type s) (declare_plain t space.Tag s.keyword i (new_type s) x) g)
      by false h g =
          declare_added law class old new t u ren end ents free (declaration space.Tag s.keyword linkage.None i (new_type s) s) s h (based_grows (new_type s) (declare_plain t space.Tag s.keyword i (new_type s) s) g)

  tag_declares : (i : ℕ) (s : State) → TagAdded i s → DeclaresAlike t u s space.Tag s.keyword linkage.None i
  tag_declares i s a =
      added_alike law class old new t u ren end ents free s (declaration space.Tag s.keyword linkage.None i a.0 s) a.1

  names_alike : (i : ℕ) (s : State) → Extends s.declarations end.declarations → TagAdded i s → NamesATagAlike t u s i
  names_alike i s more a = record { here = here; declares = tag_declares i s a }
    where
      whole : (k : ℕ) (e : Declaration) → slice_get s.declarations k ≡ Some e → is_tag_here t s.present i e ≡ true → class i ≡ class e.token
      whole k e at is =
          let p = three (is_tag e) (same_path e.path s.present) (same_name (name_at t e.token) (name_at t i)) is in
          let its : Declaration = declaration space.Tag s.keyword linkage.None i a.0 s in
          sym (ents.together e its (get_contains end.declarations k e (still_at s.declarations end.declarations k e more at)) (last_there s.declarations end.declarations its a.1.there)
          (tag_one (same_name (name_at t e.token) (name_at t i)) (is_linked e && is_linked its) (same_path e.path s.present) (is_tag e) true (is_typedef e && is_typedef its) p.2 p.1 p.0 refl))

      here : tag_here u i s ≡ tag_here t i s
      here =
          let its : Declaration = declaration space.Tag s.keyword linkage.None i a.0 s in
          law.tag_here class old new t u s i (own s) (respelled law class old new t u ren end ents free) (with_renaming law class old new t u ren end ents free s its a.1) (own_number law class old new t u ren end ents free s its a.1) (own_free law class old new t u ren end ents free s its a.1) whole

  pub alone_alike : (i : ℕ) (s : State) → Grows s end → (tag_alone t i s).fault ≡ None → Grows (tag_alone t i s) end → NamesATagAlike t u s i
  alone_alike i s more h g = names_alike i s more.declarations (tag_added (tag_here t i s) i s h g)

  pub definition_alike : (i : ℕ) (s : State) → Grows s end → (tag_definition t i s).fault ≡ None → Grows (tag_definition t i s) end → NamesATagAlike t u s i
  definition_alike i s more h g = by (list_any (eqb (token_or i (tag_here t i s))) s.completed) h g
    where
      inner_grows : (k : ℕ) (x : State) → Grows (filling (completing k x)) end → Grows x end
      inner_grows k x g =
          record { declarations = g.declarations; uses = g.uses; records = g.records; written = g.written; members = g.members; completed = without_last x.completed end.completed k g.completed; ended = g.ended; hidden = g.hidden }

      by : (b : Bool) → (if b then failed cause.Redeclared i s else filling (completing (token_or i (tag_here t i s)) (tag_alone t i s))).fault ≡ None → Grows (if b then failed cause.Redeclared i s else filling (completing (token_or i (tag_here t i s)) (tag_alone t i s))) end → NamesATagAlike t u s i
      by true h g = cc
      by false h g = alone_alike i s more h (inner_grows (token_or i (tag_here t i s)) (tag_alone t i s) g)

  pub tag_use_alike : (i : ℕ) (s : State) → Grows s end → (tag_use t i s).fault ≡ None → Grows (tag_use t i s) end → UsesATagAlike t u s i
  tag_use_alike i s more h g = by (meaning_here t space.Tag i s) refl h g
    where
      uses_kept : (d : Option Declaration) (x : State) → Grows (tag_again d t i x) end → Extends x.uses end.uses
      uses_kept d x g = (followed x (tag_again d t i x) end (again_grows d t i x) g).uses

      unseen : meaning_here t space.Tag i s ≡ None → (tag_again None t i (looked_up space.Tag i None s)).fault ≡ None → Grows (tag_again None t i (looked_up space.Tag i None s)) end → UsesATagAlike t u s i
      unseen found h g =
          let a : TagAdded i s = tag_added None i (looked_up space.Tag i None s) h g in
          let its : Declaration = declaration space.Tag s.keyword linkage.None i a.0 s in
          let used : LooksUp s space.Tag i None = last_there s.uses end.uses _ (uses_kept None (looked_up space.Tag i None s) g) in
          let after : meaning_here u space.Tag i s ≡ None = law.tag class old new t u s i (respelled law class old new t u ren end ents free) (with_renaming law class old new t u ren end ents free s its a.1) (new_tag_free law class old new t u ren end ents free s its a.1 i used) found in
          record { means = after ∙ sym found; declares = λ none. tag_declares i s a }

      seen : (k : ℕ) → meaning_here t space.Tag i s ≡ Some k → (d : Option Declaration) → declaration_at s (Some k) ≡ d → (used_tag (Some k) d t i s).fault ≡ None → Grows (used_tag (Some k) d t i s) end → UsesATagAlike t u s i
      seen k found None at h g =
          let a : TagAdded i s = tag_added None i (looked_up space.Tag i None s) h g in
          let n : (e : Entry) × IsLookup s.present space.Tag (name_at t i) (entries_of t s) k e = found_at s.present space.Tag (name_at t i) (entries_of t s) law.means k found in
          let c : (c : Declaration) × (slice_get s.declarations k ≡ Some c) × (entry t c ≡ n.0) = declaration_of t s.declarations k n.0 n.1.seen.there in
          absurd (some_not c.0 (sym c.1 ∙ at))
      seen k found (Some d) at h g =
          record {
            means = looked_alike law class old new t u ren end ents free s more.declarations space.Tag i k found (by (repeats false d.kind s.keyword) h g);
            declares = λ none. absurd (some_not d (sym at ∙ ap (declaration_at s) (sym found) ∙ none));
          }
        where
          by : (b : Bool) → (if b then based d.type (looked_up space.Tag i (Some k) s) else failed cause.Redeclared i s).fault ≡ None → Grows (if b then based d.type (looked_up space.Tag i (Some k) s) else failed cause.Redeclared i s) end → LooksUp s space.Tag i (Some k)
          by true h g = last_there s.uses end.uses _ g.uses
          by false h g = cc

      by : (k : Option ℕ) → meaning_here t space.Tag i s ≡ k → (used_tag k (declaration_at s k) t i s).fault ≡ None → Grows (used_tag k (declaration_at s k) t i s) end → UsesATagAlike t u s i
      by None found h g = unseen found h g
      by (Some k) found h g = seen k found (declaration_at s (Some k)) refl h g
