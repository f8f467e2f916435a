-- What a renaming leaves of tokens, and of the roles in which they are taken.
use Rattle.std.proofs.Common.{◌≡◌, Bool, true, false, cond, List, [], ◌∷◌, ◌++◌, map, refl, ap, sym, ◌∙◌}
use Rattle.std.specs.Prelude.{flat_map, codes, ◌&&◌, ◌||◌, bytes_eq}
use Rattle.std.specs.List.{AllByRecursion}
use Rattle.std.proofs.lemmas.List.{map-append}
use Rattle.cr_base.specs.declared.token.PpKind.{PpKind}
use Rattle.cr_base.specs.declared.token.PpKind.TheVariants.{Ident, Number, Char, Str, Punct, Stray}
use Rattle.cr_base.specs.declared.token.Place.{Place}
use Rattle.cr_base.specs.declared.token.Origin.{Origin}
use Rattle.cr_base.specs.declared.token.Origin.TheVariants.{At, Made}
use Rattle.cr_base.specs.declared.cause.Role.{Role}
use Rattle.cr_base.specs.declared.cause.Role.TheVariants.{Param, Controlling, Directive}
use Rattle.cr_macros.specs.Tokens.{Text, Token, Taken, taken_at, is_mark, is_ident, is_punct}
use Rattle.cr_macros.specs.Substitution.{is_hash, is_paste}
use Rattle.cr_expand_law.specs.Renaming.{Renaming, is_at, is_old, is_renamed, shifted_origin, shifted, renamed, all_renamed, IsHarmless}
use Rattle.cr_phase4.specs.Tasks.{Event, Told, marks}
use Rattle.cr_preproc_law.specs.Renaming.{renamed_event, IsFine, IsSame, AreSame}

abbrev pub AreFine : Renaming → List Event → Type 0
AreFine r = AllByRecursion (IsFine r)

abbrev pub renamed_events : Renaming → List Event → List Event
renamed_events r = map (renamed_event r)

abbrev pub all_shifted : Renaming → List Token → List Token
all_shifted r = map (shifted r)

pub fine_left : (r : Renaming) (xs ys : List Event) → AreFine r (xs ++ ys) → AreFine r xs
fine_left r [] ys h = tt
fine_left r (x ∷ xs) ys h = (h.0, fine_left r xs ys h.1)

pub fine_right : (r : Renaming) (xs ys : List Event) → AreFine r (xs ++ ys) → AreFine r ys
fine_right r [] ys h = h
fine_right r (x ∷ xs) ys h = fine_right r xs ys h.1

pub by_renamed : (r : Renaming) (t : Token) (b : Bool) → is_renamed r t ≡ b → renamed r t ≡ record (shifted r t) { text = cond b r.new t.text }
by_renamed r t b e = ap (λ x. record (shifted r t) { text = cond x r.new t.text }) e

-- a token that isn't renamed keeps its text
pub same_token : (r : Renaming) (t : Token) → IsSame r t → renamed r t ≡ shifted r t
same_token r t e = by_renamed r t false e

pub all_same : (r : Renaming) (ts : List Token) → AreSame r ts → all_renamed r ts ≡ all_shifted r ts
all_same r [] h = refl
all_same r (t ∷ ts) h = ap (λ x. x ∷ all_renamed r ts) (same_token r t h.0) ∙ ap (λ x. shifted r t ∷ x) (all_same r ts h.1)

ident_no_mark : (k : PpKind) → is_ident k ≡ true → is_punct k ≡ false
ident_no_mark Ident h = refl
ident_no_mark Number h = cc
ident_no_mark Char h = cc
ident_no_mark Str h = cc
ident_no_mark Punct h = cc
ident_no_mark Stray h = cc

and_left : (p q : Bool) → (p && q) ≡ true → p ≡ true
and_left true q h = refl
and_left false q h = cc

old_ident : (r : Renaming) (k : PpKind) (text : Text) (origin : Origin) → is_old r k text origin ≡ true → is_ident k ≡ true
old_ident r k text Made h = cc
old_ident r k text (At place) h = and_left (is_ident k) (is_at r text place) h

pub mark_same : (r : Renaming) (text : Text) (t : Token) → is_mark text (renamed r t) ≡ is_mark text t
mark_same r text t = go (is_renamed r t) refl where
  go : (b : Bool) → is_renamed r t ≡ b → is_mark text (renamed r t) ≡ is_mark text t
  go true e =
      let p : is_punct t.kind ≡ false = ident_no_mark t.kind (old_ident r t.kind t.text t.origin e) in
      ap (λ x. x && bytes_eq text (renamed r t).text) p ∙ sym (ap (λ x. x && bytes_eq text t.text) p)
  go false e = ap (is_mark text) (same_token r t e)

pub paste_same : (r : Renaming) (t : Token) → is_paste (renamed r t) ≡ is_paste t
paste_same r t = ap (λ x. x || is_mark (codes "%:%:") (renamed r t)) (mark_same r (codes "##") t) ∙ ap (λ x. is_mark (codes "##") t || x) (mark_same r (codes "%:%:") t)

pub hash_same : (r : Renaming) (t : Token) → is_hash (renamed r t) ≡ is_hash t
hash_same r t = ap (λ x. x || is_mark (codes "%:") (renamed r t)) (mark_same r (codes "#") t) ∙ ap (λ x. is_mark (codes "#") t || x) (mark_same r (codes "%:") t)

-- a role in which a renamed identifier is never taken without harm
abbrev pub IsStrict : Renaming → Role → Type 0
IsStrict r role = (text : Text) (place : Place) → IsHarmless r (Taken text place role) → is_at r text place ≡ false

pub of_param : (r : Renaming) → IsStrict r Param
of_param r text place h = h

pub of_controlling : (r : Renaming) → IsStrict r Controlling
of_controlling r text place h = h

pub of_directive : (r : Renaming) → IsStrict r Directive
of_directive r text place h = h

fine_ident : (r : Renaming) (role : Role) (text : Text) (place : Place) (ident : Bool) → IsStrict r role → AreFine r (map Told (cond ident (Taken text place role ∷ []) [])) → (ident && is_at r text place) ≡ false
fine_ident r role text place false s h = refl
fine_ident r role text place true s h = s text place h.0

fine_old : (r : Renaming) (role : Role) (t : Token) (origin : Origin) → IsStrict r role → AreFine r (map Told (taken_at role t origin)) → is_old r t.kind t.text origin ≡ false
fine_old r role t Made s h = refl
fine_old r role t (At place) s h = fine_ident r role t.text place (is_ident t.kind) s h

-- a token that is taken in such a role without harm isn't renamed
pub marked_same : (r : Renaming) (role : Role) (t : Token) → IsStrict r role → AreFine r (marks role t) → IsSame r t
marked_same r role t s h = fine_old r role t t.origin s h

pub all_marked_same : (r : Renaming) (role : Role) (ts : List Token) → IsStrict r role → AreFine r (flat_map (marks role) ts) → AreSame r ts
all_marked_same r role [] s h = tt
all_marked_same r role (t ∷ ts) s h = (
  marked_same r role t s (fine_left r (marks role t) (flat_map (marks role) ts) h),
  all_marked_same r role ts s (fine_right r (marks role t) (flat_map (marks role) ts) h),
)

ident_renamed : (r : Renaming) (role : Role) (text : Text) (place : Place) (ident : Bool)
    → map Told (cond ident (Taken (cond (ident && is_at r text place) r.new text) (r.shift place) role ∷ []) []) ≡ renamed_events r (map Told (cond ident (Taken text place role ∷ []) []))
ident_renamed r role text place false = refl
ident_renamed r role text place true = refl

taken_renamed : (r : Renaming) (role : Role) (t : Token) (origin : Origin)
    → map Told (taken_at role (record t { text = cond (is_old r t.kind t.text origin) r.new t.text }) (shifted_origin r origin)) ≡ renamed_events r (map Told (taken_at role t origin))
taken_renamed r role t Made = refl
taken_renamed r role t (At place) = ident_renamed r role t.text place (is_ident t.kind)

-- a renamed token is taken for the same
pub marks_renamed : (r : Renaming) (role : Role) (t : Token) → marks role (renamed r t) ≡ renamed_events r (marks role t)
marks_renamed r role t = taken_renamed r role t t.origin

pub both_renamed : (r : Renaming) (xs xs1 ys ys1 : List Event) → xs1 ≡ renamed_events r xs → ys1 ≡ renamed_events r ys → xs1 ++ ys1 ≡ renamed_events r (xs ++ ys)
both_renamed r xs xs1 ys ys1 e f = ap (λ x. x ++ ys1) e ∙ ap (λ y. renamed_events r xs ++ y) f ∙ sym (map-append (renamed_event r) xs ys)

pub all_marks_renamed : (r : Renaming) (role : Role) (ts : List Token) → flat_map (marks role) (all_renamed r ts) ≡ renamed_events r (flat_map (marks role) ts)
all_marks_renamed r role [] = refl
all_marks_renamed r role (t ∷ ts) = both_renamed r (marks role t) (marks role (renamed r t)) (flat_map (marks role) ts) (flat_map (marks role) (all_renamed r ts)) (marks_renamed r role t) (all_marks_renamed r role ts)
