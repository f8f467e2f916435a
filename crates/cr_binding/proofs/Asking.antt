-- A renaming without a conflict keeps the answers of asks.
use Rattle.std.specs.Prelude.{◌≡◌, ℕ, zero, suc, Bool, true, false, cond, Option, Some, None, option_and_then, List, [], ◌∷◌, map, slice_get}
use Rattle.std.proofs.Common.{refl, sym, ◌∙◌, ap, subst}
use Rattle.cr_base.specs.declared.Kind.{Kind}
use Rattle.cr_base.specs.declared.Kind.TheVariants as kind
use Rattle.cr_scope.specs.declared.Space.TheVariants as space
use Rattle.cr_scope.specs.Declarations.{Entry, number, lookup}
use Rattle.cr_scope.specs.Meaning.{IsLookup, LookupMeans}
use Rattle.cr_capture.specs.Conflicts.{IsTypeName}
use Rattle.cr_capture.specs.Renaming.{all_renamed, KeepsLookup, KeepsAsk}
use Rattle.cr_capture.proofs.Renamed.{numbered, lookup_one, found_at}
use Rattle.cr_binding.specs.Source.{Source, name_at}
use Rattle.cr_binding.specs.State.{Declaration, State}
use Rattle.cr_binding.specs.Entities.{entry, is_typedef_kind}
use Rattle.cr_binding.specs.WellFormed.{is_some_typedef, is_typedef_name}
use Rattle.cr_binding.specs.ActionsStay.{declared_by, entries_of, scopes_of, KeepsAskedName, KeepsDeniedAsk}
use Rattle.cr_binding.proofs.Renaming.{entries_after, keeps_meaning}

pub keeps_asked_name : KeepsLookup → KeepsAskedName
keeps_asked_name kept class old new t u s i d e r of all free is same =
    ap (λ k. is_some_typedef (option_and_then (slice_get s.declarations) k))
    (keeps_meaning kept class old new t u s space.Ordinary i d e r of all free is same)

typedef_kind : (k : Kind) → is_typedef_kind k ≡ true → k ≡ kind.Typedef
typedef_kind kind.Typedef h = refl
typedef_kind kind.Function h = cc
typedef_kind kind.Object h = cc
typedef_kind kind.Enumerator h = cc
typedef_kind kind.Struct h = cc
typedef_kind kind.Union h = cc
typedef_kind kind.Enum h = cc
typedef_kind kind.Member h = cc
typedef_kind kind.Label h = cc

-- the declaration that an entry is of
pub declaration_of : (t : Source) (ds : List Declaration) (i : ℕ) (e : Entry) → slice_get (map (entry t) ds) i ≡ Some e → (d : Declaration) × (slice_get ds i ≡ Some d) × (entry t d ≡ e)
declaration_of t [] i e h = cc
declaration_of t (d ∷ ds) zero e h = let k : entry t d ≡ e = cc in (d, refl, k)
declaration_of t (d ∷ ds) (suc i) e h = declaration_of t ds i e h

-- a spelling is a typedef name just where a look-up finds one
module _ (means : LookupMeans) (t : Source) (s : State) (i : ℕ) where
  name_found : IsTypeName (scopes_of t s) (name_at t i) → is_typedef_name t s.present i s.declarations ≡ true
  name_found h =
      let l : lookup s.present space.Ordinary (name_at t i) (entries_of t s) ≡ Some (number h.0) = lookup_one s.present space.Ordinary (name_at t i) (entries_of t s) means (number h.0) h.1 h.2 in
      let d : (d : Declaration) × (slice_get s.declarations (number h.0) ≡ Some d) × (entry t d ≡ h.1) = declaration_of t s.declarations (number h.0) h.1 h.2.seen.there in
      ap (λ k. is_some_typedef (option_and_then (slice_get s.declarations) k)) l
      ∙ ap is_some_typedef d.1
      ∙ ap (λ (e : Entry). is_typedef_kind e.decl.kind) d.2
      ∙ ap is_typedef_kind h.3

  found_by : (k : Option ℕ) (d : Option Declaration) → lookup s.present space.Ordinary (name_at t i) (entries_of t s) ≡ k → option_and_then (slice_get s.declarations) k ≡ d → is_some_typedef d ≡ true → IsTypeName (scopes_of t s) (name_at t i)
  found_by None None l g h = cc
  found_by None (Some d) l g h = cc
  found_by (Some k) None l g h = cc
  found_by (Some k) (Some d) l g h =
      let f : (e : Entry) × IsLookup s.present space.Ordinary (name_at t i) (entries_of t s) k e = found_at s.present space.Ordinary (name_at t i) (entries_of t s) means k l in
      let c : (c : Declaration) × (slice_get s.declarations k ≡ Some c) × (entry t c ≡ f.0) = declaration_of t s.declarations k f.0 f.1.seen.there in
      let same : c.0 ≡ d = one_of (sym c.1 ∙ g) in
      (numbered k, f.0, f.1, ap (λ (e : Entry). e.decl.kind) (sym c.2) ∙ ap (λ (x : Declaration). x.kind) same ∙ typedef_kind d.kind h)
    where
      one_of : {a b : Declaration} → Some a ≡ Some b → a ≡ b
      one_of e = cc

  found_name : is_typedef_name t s.present i s.declarations ≡ true → IsTypeName (scopes_of t s) (name_at t i)
  found_name h =
      let k = lookup s.present space.Ordinary (name_at t i) (entries_of t s) in
      found_by k (option_and_then (slice_get s.declarations) k) refl refl h

pub keeps_denied_ask : LookupMeans → KeepsAsk → KeepsDeniedAsk
keeps_denied_ask means kept class old new t u s i parameter r of fine all free itself denied =
    by (is_typedef_name u s.present i s.declarations) refl
  where
    before : IsTypeName (scopes_of t s) (name_at t i) → ⊥
    before h = let k : is_typedef_name t s.present i s.declarations ≡ true = name_found means t s i h in cc

    after : IsTypeName (scopes_of u s) (name_at u i) → IsTypeName (all_renamed (declared_by class) new (scopes_of t s)) (cond (class i) new (name_at t i))
    after h =
        subst (λ es. IsTypeName (record { scopes = []; present = s.present; entries = es }) (cond (class i) new (name_at t i))) (entries_after class new t u r s.declarations)
        (subst (λ n. IsTypeName (scopes_of u s) n) (r.names i) h)

    by : (b : Bool) → is_typedef_name u s.present i s.declarations ≡ b → b ≡ false
    by true h =
        absurd (kept (declared_by class) old new (scopes_of t s) (name_at t i) i parameter (class i) of fine all free itself before (after (found_name means u s i h)))
    by false h = refl
