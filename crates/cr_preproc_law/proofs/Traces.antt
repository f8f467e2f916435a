-- Where the trace is free, nothing that happens does harm.
use Rattle.std.proofs.Common.{◌≡◌, ℕ, Bool, true, false, cond, List, [], ◌∷◌, ◌++◌, refl, ap, sym, ◌∙◌, subst, Some, None, Option}
use Rattle.std.specs.Prelude.{flat_map, ◌&&◌, ◌||◌, bytes_eq, is_some}
use Rattle.std.specs.List.{AllByRecursion}
use Rattle.cr_base.specs.declared.token.PpKind.{PpKind}
use Rattle.cr_base.specs.declared.token.Place.{Place}
use Rattle.cr_base.specs.declared.token.Origin.{Origin}
use Rattle.cr_base.specs.declared.token.Origin.TheVariants.{At, Made}
use Rattle.cr_base.specs.declared.cause.Role.{Role}
use Rattle.cr_base.specs.declared.cause.Role.TheVariants as role
use Rattle.cr_macros.specs.declared.macros.Seen.{Seen}
use Rattle.cr_macros.specs.Tokens.{Text, Token, MacroText, Event as Telling, Rule, Taken, is_ident}
use Rattle.cr_macros.specs.Substitution.{param, params_of, index_of}
use Rattle.cr_expand_law.specs.Renaming.{Renaming, is_at, is_old, is_renamed, renamed, IsHarmless}
use Rattle.cr_phase4.specs.Tasks.{Event, Took, Opened, Looked, Defined, Told, Final}
use Rattle.cr_phase4.specs.Traces.{seen_telling, seen_of, new_macros_of, old_at, captures, body_params_of}
use Rattle.cr_preproc_law.specs.Renaming.{IsUncaptured, IsFine}
use Rattle.cr_preproc_law.specs.Traces.{IsFree, TracesAreFine}
use Rattle.cr_preproc_law.proofs.Tokens.{by_renamed}

both_left : {A : Type 0} (P : A → Type 0) (xs ys : List A) → AllByRecursion P (xs ++ ys) → AllByRecursion P xs
both_left P [] ys h = tt
both_left P (x ∷ xs) ys h = (h.0, both_left P xs ys h.1)

both_right : {A : Type 0} (P : A → Type 0) (xs ys : List A) → AllByRecursion P (xs ++ ys) → AllByRecursion P ys
both_right P [] ys h = h
both_right P (x ∷ xs) ys h = both_right P xs ys h.1

empty_left : {A : Type 0} (xs ys : List A) → xs ++ ys ≡ [] → xs ≡ []
empty_left [] ys h = refl
empty_left (x ∷ xs) ys h = cc

empty_right : {A : Type 0} (xs ys : List A) → xs ++ ys ≡ [] → ys ≡ []
empty_right [] ys h = h
empty_right (x ∷ xs) ys h = cc

and_left : (p q : Bool) → (p && q) ≡ true → p ≡ true
and_left true q h = refl
and_left false q h = cc

and_right : (p q : Bool) → (p && q) ≡ true → q ≡ true
and_right true q h = h
and_right false q h = cc

never : (b : Bool) → (b ≡ true → ⊥) → b ≡ false
never true f = absurd (f refl)
never false f = refl

module _ (r : Renaming) where
  -- a role
  harmless_by : (text : Text) (place : Place) (as1 : Role) → (is_at r text place ≡ true → IsFree as1) → IsHarmless r (Taken text place as1)
  harmless_by text place role.Dropped h = tt
  harmless_by text place role.Final h = tt
  harmless_by text place role.MacroName h = never (is_at r text place) h
  harmless_by text place role.Param h = never (is_at r text place) h
  harmless_by text place role.Controlling h = never (is_at r text place) h
  harmless_by text place role.Directive h = never (is_at r text place) h
  harmless_by text place role.Stringized h = never (is_at r text place) h
  harmless_by text place role.Pasted h = never (is_at r text place) h
  harmless_by text place role.Opaque h = never (is_at r text place) h

  harmless : (e : Telling) → AllByRecursion (λ (s : Seen). r.is_place s.place ≡ true → IsFree s.role) (seen_telling r.old r.new e) → IsHarmless r e
  harmless Rule h = tt
  harmless (Taken text place as1) h = harmless_by text place as1 (λ at. free (bytes_eq text r.old) (bytes_eq text r.new) (and_right (r.is_place place) (bytes_eq text r.old) at) h (and_left (r.is_place place) (bytes_eq text r.old) at)) where
    free : (b c : Bool) → b ≡ true → AllByRecursion (λ (s : Seen). r.is_place s.place ≡ true → IsFree s.role) (cond (b || c) (record { place = place; role = as1 } ∷ []) []) → r.is_place place ≡ true → IsFree as1
    free true c e x p = x.0 p
    free false c e x p = absurd (let no : false ≡ true = e in cc)

  -- a body
  none_or : (o : Option ℕ) (b : Bool) → is_some o ≡ b → b ≡ false → o ≡ None
  none_or None b e f = refl
  none_or (Some i) b e f = absurd (let no : true ≡ false = e ∙ f in cc)

  param_none : (m : MacroText) (t : Token) → captures r.new m ≡ false → is_renamed r t ≡ true → param m (renamed r t) ≡ None
  param_none m t c e = ap (param m) (by_renamed r t true e) ∙ go (is_ident t.kind) where
    go : (b : Bool) → cond b (index_of (params_of m) r.new) None ≡ None
    go true = none_or (index_of (params_of m) r.new) (captures r.new m) refl c
    go false = refl

  place_not : (k : PpKind) (text : Text) (t : Token) (origin : Origin) → t.kind ≡ k → t.text ≡ text → AllByRecursion (λ place. r.is_place place ≡ false) (old_at r.old t origin) → is_old r k text origin ≡ true → ⊥
  place_not k text t Made e f h o = let no : false ≡ true = o in cc
  place_not k text t (At place) e f h o =
      let ident : is_ident k ≡ true = and_left (is_ident k) (is_at r text place) o in
      let at : is_at r text place ≡ true = and_right (is_ident k) (is_at r text place) o in
      let own : bytes_eq text r.old ≡ true = and_right (r.is_place place) (bytes_eq text r.old) at in
      let test : (is_ident t.kind && bytes_eq t.text r.old) ≡ true = ap (λ x. is_ident x && bytes_eq t.text r.old) e ∙ ap (λ x. x && bytes_eq t.text r.old) ident ∙ ap (λ x. bytes_eq x r.old) f ∙ own in
      let none : r.is_place place ≡ false = (subst (λ b. AllByRecursion (λ p. r.is_place p ≡ false) (cond b (place ∷ []) [])) test h).0 in
      let no : true ≡ false = sym (and_left (r.is_place place) (bytes_eq text r.old) at) ∙ none in cc

  body_apart : (m : MacroText) (ts : List Token) → AllByRecursion (λ place. r.is_place place ≡ false) (flat_map (λ u. old_at r.old u u.origin) ts) → AllByRecursion (IsUncaptured r m) ts
  body_apart m [] h = tt
  body_apart m (t ∷ ts) h = (
    (λ e. absurd (place_not t.kind t.text t t.origin refl refl (both_left (λ place. r.is_place place ≡ false) (old_at r.old t t.origin) (flat_map (λ u. old_at r.old u u.origin) ts) h) e)),
    body_apart m ts (both_right (λ place. r.is_place place ≡ false) (old_at r.old t t.origin) (flat_map (λ u. old_at r.old u u.origin) ts) h),
  )

  body_free : (m : MacroText) (ts : List Token) → captures r.new m ≡ false → AllByRecursion (IsUncaptured r m) ts
  body_free m [] c = tt
  body_free m (t ∷ ts) c = (param_none m t c, body_free m ts c)

  uncaptured : (m : MacroText) → AllByRecursion (λ place. r.is_place place ≡ false) (cond (captures r.new m) (flat_map (λ u. old_at r.old u u.origin) m.body) []) → AllByRecursion (IsUncaptured r m) m.body
  uncaptured m h = go (captures r.new m) refl h where
    go : (b : Bool) → captures r.new m ≡ b → AllByRecursion (λ place. r.is_place place ≡ false) (cond b (flat_map (λ u. old_at r.old u u.origin) m.body) []) → AllByRecursion (IsUncaptured r m) m.body
    go true c x = body_apart m m.body x
    go false c x = body_free m m.body c

  other_name : (b : Bool) (site : Place) → cond b (site ∷ []) [] ≡ [] → b ≡ false
  other_name true site h = cc
  other_name false site h = refl

  event_fine : (e : Event) → AllByRecursion (λ (s : Seen). r.is_place s.place ≡ true → IsFree s.role) (seen_of r.old r.new e) → new_macros_of r.new e ≡ [] → AllByRecursion (λ place. r.is_place place ≡ false) (body_params_of r.old r.new e) → IsFine r e
  event_fine Took s n b = tt
  event_fine (Opened path) s n b = tt
  event_fine (Looked paths) s n b = tt
  event_fine (Defined t m) s n b = (other_name (bytes_eq t.text r.new) t.site n, uncaptured m b)
  event_fine (Told e) s n b = harmless e s
  event_fine (Final t) s n b = tt

  all_fine : (events : List Event) → AllByRecursion (λ (s : Seen). r.is_place s.place ≡ true → IsFree s.role) (flat_map (seen_of r.old r.new) events) → flat_map (new_macros_of r.new) events ≡ [] → AllByRecursion (λ place. r.is_place place ≡ false) (flat_map (body_params_of r.old r.new) events) → AllByRecursion (IsFine r) events
  all_fine [] s n b = tt
  all_fine (e ∷ events) s n b = (
    event_fine e (both_left (λ (x : Seen). r.is_place x.place ≡ true → IsFree x.role) (seen_of r.old r.new e) (flat_map (seen_of r.old r.new) events) s) (empty_left (new_macros_of r.new e) (flat_map (new_macros_of r.new) events) n)
        (both_left (λ place. r.is_place place ≡ false) (body_params_of r.old r.new e) (flat_map (body_params_of r.old r.new) events) b),
    all_fine events (both_right (λ (x : Seen). r.is_place x.place ≡ true → IsFree x.role) (seen_of r.old r.new e) (flat_map (seen_of r.old r.new) events) s) (empty_right (new_macros_of r.new e) (flat_map (new_macros_of r.new) events) n)
        (both_right (λ place. r.is_place place ≡ false) (body_params_of r.old r.new e) (flat_map (body_params_of r.old r.new) events) b),
  )

pub traces_are_fine : TracesAreFine
traces_are_fine r events h = all_fine r events h.seen h.new_macros h.body_params
