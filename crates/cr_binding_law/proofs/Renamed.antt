-- What is so of the declarations of a renamed unit, up to a place.
use Rattle.std.specs.Prelude.{◌≡◌, ℕ, ◌+◌, Bool, true, false, ◌&&◌, ◌||◌, Some, None, List, [], ◌∷◌, ◌++◌, length, map, slice_get, Contains}
use Rattle.std.specs.List.{list_any}
use Rattle.std.proofs.Common.{refl, sym, ◌∙◌, ap, subst}
use Rattle.std.proofs.lemmas.List.{map-append, length-map}
use Rattle.cr_base.specs.declared.Name.{Name}
use Rattle.cr_scope.specs.declared.Space.{Space}
use Rattle.cr_scope.specs.declared.Space.TheVariants as space
use Rattle.cr_scope.specs.declared.DeclNo.{DeclNo}
use Rattle.cr_scope.specs.Declarations.{Entry, number, same_name}
use Rattle.cr_scope.specs.Meaning.{IsLookup, LookupMeans}
use Rattle.cr_scope.specs.Linkage.{has_linkage}
use Rattle.cr_scope.specs.Redeclaration.{clashes}
use Rattle.cr_capture.specs.declared.Mention.TheVariants as mention
use Rattle.cr_capture.specs.Renaming.{IsRenaming, IsFree, AreFree}
use Rattle.cr_capture.proofs.Renamed.{numbered, found_at}
use Rattle.cr_capture.proofs.KeptLinkage.{same_names}
use Rattle.cr_binding.specs.Source.{Source, name_at}
use Rattle.cr_binding.specs.State.{Declaration, LookedUp, State}
use Rattle.cr_binding.specs.Entities.{entry, is_linked, are_one}
use Rattle.cr_binding.specs.Declaring.{meaning_here}
use Rattle.cr_binding.specs.UnitConflicts.{scopes_at, entries_at}
use Rattle.cr_binding.specs.ActionsStay.{IsRespelled, declared_by, entries_of, scopes_of, scopes_with, KeepsMeaning, KeepsDeclaration, KeepsTakenLinkage, KeepsUnseenTag, KeepsTagHere, KeepsAskedName, KeepsDeniedAsk}
use Rattle.cr_binding.specs.MembersStay.{KeepsSelection, KeepsNewMembers}
use Rattle.cr_binding.specs.FreeUnits.{IsFreeUnit, MentionsAreFree, NewTagsAreFree, AsksAreFree, DeclarationsAreFree, AllAreFree}
use Rattle.cr_binding.specs.BindingGrows.{Extends}
use Rattle.cr_binding.specs.BindingStays.{MeansAlike, is_refused}
use Rattle.cr_binding.proofs.Asking.{declaration_of}
use Rattle.cr_binding_law.specs.Renaming.{IsRenamed, AreEntities}
use Rattle.cr_binding_law.proofs.Growth.{still_at, get_contains, front_taken, next_taken, shorter}

-- the laws on what one action reads
pub record Laws : Type 0 where
  pub means : LookupMeans
  pub meaning : KeepsMeaning
  pub declaration : KeepsDeclaration
  pub linkage : KeepsTakenLinkage
  pub tag : KeepsUnseenTag
  pub tag_here : KeepsTagHere
  pub denoted : KeepsAskedName
  pub denied : KeepsDeniedAsk
  pub selection : KeepsSelection
  pub members : KeepsNewMembers
  pub mentions : MentionsAreFree
  pub tags : NewTagsAreFree
  pub asks : AsksAreFree
  pub declarations : DeclarationsAreFree
  pub all : AllAreFree

linked_one : (t : Source) (d e : Declaration) → name_at t d.token ≡ name_at t e.token → is_linked d ≡ true → is_linked e ≡ true → are_one t d e ≡ true
linked_one t d e names ld le =
    by (same_name (name_at t d.token) (name_at t e.token)) (is_linked d) (is_linked e) _ (same_names (name_at t d.token) (name_at t e.token) names) ld le
  where
    by : (n a b r : Bool) → n ≡ true → a ≡ true → b ≡ true → (n && ((a && b) || r)) ≡ true
    by true true true r hn ha hb = refl
    by true true false r hn ha hb = cc
    by true false b r hn ha hb = cc
    by false a b r hn ha hb = cc

-- the number of the next declaration
abbrev pub own : State → DeclNo
own s = numbered (length s.declarations)

module _ (law : Laws) (class : ℕ → Bool) (old new : Name) (t u : Source) (ren : IsRenamed class old new t u) (end : State) (ents : AreEntities class t end) (free : IsFreeUnit class old new t end) where
  pub respelled : IsRespelled class new t u
  respelled = record { names = ren.names }

  -- ---- the first declarations

  pub renaming : (ds : List Declaration) → Extends ds end.declarations → IsRenaming (declared_by class) old new (map (entry t) ds)
  renaming ds more = record { differ = ren.differ; named = named; whole = whole }
    where
      named : (i : ℕ) (e : Entry) → slice_get (map (entry t) ds) i ≡ Some e → declared_by class e ≡ true → e.decl.name ≡ old
      named i e at cls =
          let c : (c : Declaration) × (slice_get ds i ≡ Some c) × (entry t c ≡ e) = declaration_of t ds i e at in
          ap (λ (x : Entry). x.decl.name) (sym c.2) ∙ ren.spelled c.0.token (ap (λ (x : Entry). class x.decl.token) c.2 ∙ cls)

      whole : (i j : ℕ) (e g : Entry) → slice_get (map (entry t) ds) i ≡ Some e → slice_get (map (entry t) ds) j ≡ Some g → e.decl.name ≡ g.decl.name → has_linkage e.decl.linkage ≡ true → has_linkage g.decl.linkage ≡ true → declared_by class e ≡ declared_by class g
      whole i j e g at_e at_g names le lg =
          let c : (c : Declaration) × (slice_get ds i ≡ Some c) × (entry t c ≡ e) = declaration_of t ds i e at_e in
          let d : (c : Declaration) × (slice_get ds j ≡ Some c) × (entry t c ≡ g) = declaration_of t ds j g at_g in
          ap (λ (x : Entry). class x.decl.token) (sym c.2)
          ∙ ents.together c.0 d.0 (get_contains end.declarations i c.0 (still_at ds end.declarations i c.0 more c.1)) (get_contains end.declarations j d.0 (still_at ds end.declarations j d.0 more d.1))
          (linked_one t c.0 d.0 (ap (λ (x : Entry). x.decl.name) c.2 ∙ names ∙ ap (λ (x : Entry). x.decl.name) (sym d.2)) (ap (λ (x : Entry). has_linkage x.decl.linkage) c.2 ∙ le) (ap (λ (x : Entry). has_linkage x.decl.linkage) d.2 ∙ lg))
          ∙ ap (λ (x : Entry). class x.decl.token) d.2

  told : (s : State) → Extends s.declarations end.declarations → scopes_at t end s.present (length s.declarations) ≡ scopes_of t s
  told s more =
      ap (λ ds. record { scopes = []; present = s.present; entries = map (entry t) ds }) (front_taken s.declarations end.declarations more)

  pub all_free : (s : State) → Extends s.declarations end.declarations → AreFree (declared_by class) (scopes_of t s) old new
  all_free s more =
      subst (λ f. AreFree (declared_by class) f old new) (told s more) (law.all class old new t end free s.present (length s.declarations))

  -- ---- what is looked up

  pub mention_free : (s : State) → Extends s.declarations end.declarations → (sp : Space) (i k : ℕ) → Contains end.uses (LookedUp sp i s.present (length s.declarations) (Some k)) → IsFree (declared_by class) (scopes_of t s) old new (mention.Named sp (name_at t i) i (Some (numbered k)))
  mention_free s more sp i k used =
      subst (λ f. IsFree (declared_by class) f old new (mention.Named sp (name_at t i) i (Some (numbered k)))) (told s more)
      (law.mentions class old new t end free sp i s.present (length s.declarations) (numbered k) used)

  -- a token denotes declaration number k, which has no conflict and goes with it
  pub denoted_alike : (s : State) → Extends s.declarations end.declarations → (sp : Space) (i k : ℕ) → meaning_here t sp i s ≡ Some k → IsFree (declared_by class) (scopes_of t s) old new (mention.Named sp (name_at t i) i (Some (numbered k))) → ((d : Declaration) → slice_get end.declarations k ≡ Some d → class i ≡ class d.token) → MeansAlike t u s sp i
  denoted_alike s more sp i k found fine goes =
      let f : (e : Entry) × IsLookup s.present sp (name_at t i) (entries_of t s) k e = found_at s.present sp (name_at t i) (entries_of t s) law.means k found in
      let d : (d : Declaration) × (slice_get s.declarations k ≡ Some d) × (entry t d ≡ f.0) = declaration_of t s.declarations k f.0 f.1.seen.there in
      law.meaning class old new t u s sp i (numbered k) f.0 respelled (renaming s.declarations more) (all_free s more) fine f.1
      (goes d.0 (still_at s.declarations end.declarations k d.0 more d.1) ∙ ap (λ (x : Entry). class x.decl.token) d.2)

  pub looked_alike : (s : State) → Extends s.declarations end.declarations → (sp : Space) (i k : ℕ) → meaning_here t sp i s ≡ Some k → Contains end.uses (LookedUp sp i s.present (length s.declarations) (Some k)) → MeansAlike t u s sp i
  looked_alike s more sp i k found used =
      denoted_alike s more sp i k found (mention_free s more sp i k used) (λ d at. ents.uses (LookedUp sp i s.present (length s.declarations) (Some k)) used d at)

  -- ---- what is declared

  -- d was declared behind these declarations
  pub record IsAdded (ds : List Declaration) (d : Declaration) : Type 0 where
    pub fine : list_any (clashes (entry t d)) (map (entry t) ds) ≡ false
    pub there : Extends (ds ++ d ∷ []) end.declarations

  module _ (s : State) (d : Declaration) (added : IsAdded s.declarations d) where
    joined : entries_of t s ++ entry t d ∷ [] ≡ map (entry t) (s.declarations ++ d ∷ [])
    joined = sym (map-append (entry t) s.declarations (d ∷ []))

    pub with_renaming : IsRenaming (declared_by class) old new (scopes_with t s d).entries
    with_renaming =
        subst (λ es. IsRenaming (declared_by class) old new es) (sym joined) (renaming (s.declarations ++ d ∷ []) added.there)

    pub own_number : number (own s) ≡ length (entries_of t s)
    own_number = sym (length-map s.declarations (entry t))

    at_own : (scopes_with t s d).entries ≡ entries_at t end (length s.declarations + 1)
    at_own = joined ∙ ap (map (entry t)) (sym (next_taken s.declarations end.declarations d added.there))

    pub own_free : IsFree (declared_by class) (scopes_with t s d) old new (mention.Declared (own s))
    own_free =
        law.declarations class old new t end free (scopes_with t s d) (own s) (shorter s.declarations end.declarations d added.there) at_own

    pub new_tag_free : (i : ℕ) → Contains end.uses (LookedUp space.Tag i s.present (length s.declarations) None) → IsFree (declared_by class) (scopes_with t s d) old new (mention.Named space.Tag (name_at t i) i None)
    new_tag_free i used =
        subst (λ es. IsFree (declared_by class) (record { scopes = []; present = s.present; entries = es }) old new (mention.Named space.Tag (name_at t i) i None)) (sym at_own)
        (law.tags class old new t end free space.Tag i s.present (length s.declarations) used)

    pub added_alike : is_refused t u s u d ≡ is_refused t u s t d
    added_alike =
        law.declaration class old new t u s d (own s) respelled with_renaming own_number own_free added.fine ∙ sym added.fine
