-- Actions that name what is declared read the same after a renaming.
use Rattle.std.specs.Prelude.{◌≡◌, ℕ, Bool, true, false, not, ◌&&◌, ◌||◌, if◌then◌else◌, Option, Some, None, List, [], ◌∷◌, ◌++◌, length, map, Contains}
use Rattle.std.specs.List.{list_any}
use Rattle.std.proofs.Common.{refl, sym, ◌∙◌, ap, subst}
use Rattle.cr_base.specs.declared.Kind.{Kind}
use Rattle.cr_base.specs.declared.Kind.TheVariants as kind
use Rattle.cr_base.specs.declared.Name.{Name}
use Rattle.cr_base.specs.declared.cause.IllCause.TheVariants as cause
use Rattle.cr_scope.specs.declared.Space.{Space}
use Rattle.cr_scope.specs.declared.Space.TheVariants as space
use Rattle.cr_scope.specs.declared.DeclNo.{DeclNo}
use Rattle.cr_scope.specs.declared.Linkage.{Linkage}
use Rattle.cr_scope.specs.declared.Linkage.TheVariants as linkage
use Rattle.cr_scope.specs.Declarations.{Entry, number}
use Rattle.cr_scope.specs.Meaning.{IsLookup}
use Rattle.cr_scope.specs.Linkage.{is_file_scope, linkage_by}
use Rattle.cr_scope.specs.Redeclaration.{clashes}
use Rattle.cr_types.specs.Types.{CType}
use Rattle.cr_decl.specs.declared.SpecWord.TheVariants as word
use Rattle.cr_typing.specs.ExpressionTypes.{decayed}
use Rattle.cr_capture.specs.declared.Mention.TheVariants as mention
use Rattle.cr_capture.specs.Renaming.{IsFree}
use Rattle.cr_capture.proofs.Renamed.{lookup_one}
use Rattle.cr_binding.specs.Source.{Source, name_at}
use Rattle.cr_binding.specs.State.{Declaration, LookedUp, IsParameter, State}
use Rattle.cr_binding.specs.Entities.{entry}
use Rattle.cr_binding.specs.Declaring.{failed, used, declare, declaration, declaration_at, meaning_here, linkage_for, is_internal, has_word, looked_up, kind_of, declare_as, declare_named, declare_plain, declare_parameter}
use Rattle.cr_binding.specs.Specifying.{declared_type}
use Rattle.cr_binding.specs.ActionsStay.{declared_by, entries_of, scopes_of, taken_linkage}
use Rattle.cr_binding.specs.FreeUnits.{IsFreeUnit}
use Rattle.cr_binding.specs.BindingGrows.{Extends, Grows}
use Rattle.cr_binding.specs.BindingStays.{MeansAlike, DeclaresAlike, DeclaresPending, SeesPending}
use Rattle.cr_binding_law.specs.Renaming.{IsRenamed, AreEntities}
use Rattle.cr_binding_law.proofs.Growth.{last_there, without_last}
use Rattle.cr_binding_law.proofs.Renamed.{Laws, respelled, all_free, mention_free, looked_alike, IsAdded, own, with_renaming, own_number, own_free, added_alike}

pub some_not : {A : Type 0} (x : A) → Some x ≡ None → ⊥
some_not x e = cc

pub true_not : (b : Bool) → b ≡ true → b ≡ false → ⊥
true_not true e f = cc
true_not false e f = cc

-- of the declarations of one scope a tag of the same name is one with a new tag
pub tag_one : (n l p a b y : Bool) → n ≡ true → p ≡ true → a ≡ true → b ≡ true → (n && (l || (p && ((a && b) || y)))) ≡ true
tag_one true true p a b y hn hp ha hb = refl
tag_one true false true true true y hn hp ha hb = refl
tag_one true false true true false y hn hp ha hb = cc
tag_one true false true false b y hn hp ha hb = cc
tag_one true false false a b y hn hp ha hb = cc
tag_one false l p a b y hn hp ha hb = cc

pub three : (a b c : Bool) → (a && (b && c)) ≡ true → (a ≡ true) × (b ≡ true) × (c ≡ true)
three true true true h = (refl, refl, refl)
three true true false h = cc
three true false c h = cc
three false b c h = cc

-- without `static`, and with nothing seen, linkage isn't internal
none_by : (file static extern function : Bool) → static ≡ false → is_internal (linkage_by file static extern function None) ≡ false
none_by file true extern function h = cc
none_by file false true function h = refl
none_by file false false true h = refl
none_by true false false false h = refl
none_by false false false false h = refl

none_internal : (t : Source) (what : Kind) (s : State) → has_word word.Static s ≡ false → is_internal (linkage_for t None what s) ≡ false
none_internal t kind.Typedef s h = refl
none_internal t kind.Function s h = none_by (is_file_scope s.present) (has_word word.Static s) (has_word word.Extern s) true h
none_internal t kind.Object s h = none_by (is_file_scope s.present) (has_word word.Static s) (has_word word.Extern s) false h
none_internal t kind.Enumerator s h = none_by (is_file_scope s.present) (has_word word.Static s) (has_word word.Extern s) false h
none_internal t kind.Struct s h = none_by (is_file_scope s.present) (has_word word.Static s) (has_word word.Extern s) false h
none_internal t kind.Union s h = none_by (is_file_scope s.present) (has_word word.Static s) (has_word word.Extern s) false h
none_internal t kind.Enum s h = none_by (is_file_scope s.present) (has_word word.Static s) (has_word word.Extern s) false h
none_internal t kind.Member s h = none_by (is_file_scope s.present) (has_word word.Static s) (has_word word.Extern s) false h
none_internal t kind.Label s h = none_by (is_file_scope s.present) (has_word word.Static s) (has_word word.Extern s) false h

module _ (law : Laws) (class : ℕ → Bool) (old new : Name) (t u : Source) (ren : IsRenamed class old new t u) (end : State) (ents : AreEntities class t end) (free : IsFreeUnit class old new t end) where
  abbrev Added : List Declaration → Declaration → Type 0
  Added ds d = IsAdded law class old new t u ren end ents free ds d

  -- ---- declarations

  pub declare_added : (d : Declaration) (x : State) → (declare t d x).fault ≡ None → Grows (declare t d x) end → Added x.declarations d
  declare_added d x h g = by (list_any (clashes (entry t d)) (map (entry t) x.declarations)) refl h g
    where
      by : (b : Bool) → list_any (clashes (entry t d)) (map (entry t) x.declarations) ≡ b → (if b then failed cause.Redeclared d.token x else record x { declarations = x.declarations ++ d ∷ [] }).fault ≡ None → Grows (if b then failed cause.Redeclared d.token x else record x { declarations = x.declarations ++ d ∷ [] }) end → Added x.declarations d
      by true e h g = cc
      by false e h g = record { fine = e; there = g.declarations }

  pub plain_alike : (sp : Space) (k : Kind) (i : ℕ) (c : CType) (s : State) → (declare_plain t sp k i c s).fault ≡ None → Grows (declare_plain t sp k i c s) end → DeclaresAlike t u s sp k linkage.None i
  plain_alike sp k i c s h g =
      let d = declaration sp k linkage.None i c s in
      added_alike law class old new t u ren end ents free s d (declare_added d s h g)

  pub parameter_alike : (name : Option ℕ) (c : CType) (s : State) → (declare_parameter t name c s).fault ≡ None → Grows (declare_parameter t name c s) end → DeclaresPending t u s name
  parameter_alike None c s h g = tt
  parameter_alike (Some i) c s h g =
      let d = declaration space.Ordinary kind.Object linkage.None i (decayed c) s in
      added_alike law class old new t u ren end ents free s d (declare_added d (used (IsParameter i) s) h g)

  -- ---- objects, functions and typedef names

  module _ (i : ℕ) (c : CType) (s : State) (what : Kind) where
    abbrev seen : Option ℕ
    seen = meaning_here t space.Ordinary i s

    abbrev takes : Linkage
    takes = linkage_for t (declaration_at s seen) what s

    abbrev its : Declaration
    its = declaration space.Ordinary what takes i c s

    abbrev Seen : Type 0
    Seen =
        is_internal takes ≡ true → has_word word.Static s ≡ false → Contains end.uses (LookedUp space.Ordinary i s.present (length s.declarations) seen)

    abbrev with_use : Bool → State
    with_use b = if b then looked_up space.Ordinary i seen s else s

    named_gives : (declare_as t seen what i c s).fault ≡ None → Grows (declare_as t seen what i c s) end → Added s.declarations its × Extends s.declarations end.declarations × Seen
    named_gives h g = by (is_internal takes && not (has_word word.Static s)) refl h g
      where
        by : (b : Bool) → (is_internal takes && not (has_word word.Static s)) ≡ b → (declare t its (with_use b)).fault ≡ None → Grows (declare t its (with_use b)) end → Added s.declarations its × Extends s.declarations end.declarations × Seen
        by true e h g =
            let x = looked_up space.Ordinary i seen s in
            let a : Added s.declarations its = declare_added its x h g in
            (a, without_last s.declarations end.declarations its a.there, λ p q. last_there s.uses end.uses _ (used_before x h g))
          where
            used_before : (x : State) → (declare t its x).fault ≡ None → Grows (declare t its x) end → Extends x.uses end.uses
            used_before x h g = by_clash (list_any (clashes (entry t its)) (map (entry t) x.declarations)) g
              where
                by_clash : (b : Bool) → Grows (if b then failed cause.Redeclared its.token x else record x { declarations = x.declarations ++ its ∷ [] }) end → Extends x.uses end.uses
                by_clash true g = g.uses
                by_clash false g = g.uses
        by false e h g =
            let a : Added s.declarations its = declare_added its s h g in
            (a, without_last s.declarations end.declarations its a.there, λ p q. absurd (neither (is_internal takes) (has_word word.Static s) e p q))
          where
            neither : (a b : Bool) → (a && not b) ≡ false → a ≡ true → b ≡ false → ⊥
            neither true true e p q = cc
            neither true false e p q = cc
            neither false b e p q = cc

  internal_is : (l : Linkage) → l ≡ linkage.Internal → is_internal l ≡ true
  internal_is l e = ap is_internal e

  sees_alike : (i : ℕ) (c : CType) (s : State) (what : Kind) → (declare_as t (meaning_here t space.Ordinary i s) what i c s).fault ≡ None → Grows (declare_as t (meaning_here t space.Ordinary i s) what i c s) end → (taken_linkage u s what i ≡ taken_linkage t s what i) × (is_internal (taken_linkage t s what i) ≡ true → has_word word.Static s ≡ false → MeansAlike t u s space.Ordinary i) × DeclaresAlike t u s space.Ordinary what (taken_linkage t s what i) i
  sees_alike i c s what h g = (takes_alike, means_by (meaning_here t space.Ordinary i s) refl, added_alike law class old new t u ren end ents free s (its i c s what) given.0)
    where
      given : Added s.declarations (its i c s what) × Extends s.declarations end.declarations × Seen i c s what
      given = named_gives i c s what h g

      seen_free : has_word word.Static s ≡ false → (d : DeclNo) (e : Entry) → IsLookup s.present space.Ordinary (name_at t i) (entries_of t s) (number d) e → e.decl.linkage ≡ linkage.Internal → taken_linkage t s what i ≡ linkage.Internal → IsFree (declared_by class) (scopes_of t s) old new (mention.Named space.Ordinary (name_at t i) i (Some d))
      seen_free static d e is internal taken =
          let found : meaning_here t space.Ordinary i s ≡ Some (number d) = lookup_one s.present space.Ordinary (name_at t i) (entries_of t s) law.means (number d) e is in
          mention_free law class old new t u ren end ents free s given.1 space.Ordinary i (number d)
          (subst (λ k. Contains end.uses (LookedUp space.Ordinary i s.present (length s.declarations) k)) found (given.2 (internal_is (taken_linkage t s what i) taken) static))

      takes_alike : taken_linkage u s what i ≡ taken_linkage t s what i
      takes_alike =
          law.linkage class old new t u s what i (own s) (respelled law class old new t u ren end ents free) (with_renaming law class old new t u ren end ents free s (its i c s what) given.0) (all_free law class old new t u ren end ents free s given.1) (own_number law class old new t u ren end ents free s (its i c s what) given.0) (own_free law class old new t u ren end ents free s (its i c s what) given.0) seen_free given.0.fine

      means_by : (k : Option ℕ) → meaning_here t space.Ordinary i s ≡ k → is_internal (taken_linkage t s what i) ≡ true → has_word word.Static s ≡ false → MeansAlike t u s space.Ordinary i
      means_by None found internal static =
          absurd (true_not (is_internal (linkage_for t None what s)) (ap (λ k. is_internal (linkage_for t (declaration_at s k) what s)) (sym found) ∙ internal) (none_internal t what s static))
      means_by (Some k) found internal static =
          looked_alike law class old new t u ren end ents free s given.1 space.Ordinary i k found
          (subst (λ k. Contains end.uses (LookedUp space.Ordinary i s.present (length s.declarations) k)) found (given.2 internal static))

  pub named_alike : (name : Option ℕ) (s : State) → (declare_named t name (declared_type s) s).fault ≡ None → Grows (declare_named t name (declared_type s) s) end → SeesPending t u s name
  named_alike None s h g = tt
  named_alike (Some i) s h g =
      let a = sees_alike i (declared_type s) s (kind_of (declared_type s) s) h g in
      record { takes = a.0; means = a.1; declares = a.2 }
