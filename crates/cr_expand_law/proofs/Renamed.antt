-- What a renaming leaves of one token, and of the events in which tokens are taken for something.
use Rattle.std.proofs.Common.{◌≡◌, Bool, true, false, cond, List, [], ◌∷◌, ◌++◌, map, refl, ap, sym, ◌∙◌, subst}
use Rattle.std.specs.Prelude.{flat_map, codes, ◌&&◌, ◌||◌, bytes_eq}
use Rattle.std.specs.List.{AllByRecursion}
use Rattle.std.proofs.lemmas.List.{map-append}
use Rattle.cr_base.specs.declared.token.PpKind.{PpKind}
use Rattle.cr_base.specs.declared.token.PpKind.TheVariants.{Ident, Number, Char, Str, Punct, Stray}
use Rattle.cr_base.specs.declared.token.Place.{Place}
use Rattle.cr_base.specs.declared.token.Origin.{Origin}
use Rattle.cr_base.specs.declared.token.Origin.TheVariants.{At, Made}
use Rattle.cr_base.specs.declared.cause.Role.{Role}
use Rattle.cr_base.specs.declared.cause.Role.TheVariants.{MacroName, Stringized, Pasted}
use Rattle.cr_macros.specs.Tokens.{Text, Token, Event, Taken, taken_at, takes, is_mark, is_ident, is_punct, note}
use Rattle.cr_macros.specs.Substitution.{is_hash, is_paste, with_space}
use Rattle.cr_expand_law.specs.Renaming.{Renaming, is_at, is_old, is_renamed, shifted_origin, shifted, renamed, all_renamed, renamed_event, IsHarmless}
use Rattle.cr_expand_law.proofs.Following.{renamed_events, harmless_left, harmless_right, Never}

pub by_renamed : (r : Renaming) (t : Token) (b : Bool) → is_renamed r t ≡ b → renamed r t ≡ record (shifted r t) { text = cond b r.new t.text }
by_renamed r t b e = ap (λ x. record (shifted r t) { text = cond x r.new t.text }) e

ident_no_mark : (k : PpKind) → is_ident k ≡ true → is_punct k ≡ false
ident_no_mark Ident h = refl
ident_no_mark Number h = cc
ident_no_mark Char h = cc
ident_no_mark Str h = cc
ident_no_mark Punct h = cc
ident_no_mark Stray h = cc

and_left : (p q : Bool) → (p && q) ≡ true → p ≡ true
and_left true q h = refl
and_left false q h = cc

old_ident : (r : Renaming) (k : PpKind) (text : Text) (origin : Origin) → is_old r k text origin ≡ true → is_ident k ≡ true
old_ident r k text Made h = cc
old_ident r k text (At place) h = and_left (is_ident k) (is_at r text place) h

-- a token that isn't renamed keeps its text
pub same_token : (r : Renaming) (t : Token) → is_renamed r t ≡ false → renamed r t ≡ shifted r t
same_token r t e = by_renamed r t false e

pub mark_same : (r : Renaming) (text : Text) (t : Token) → is_mark text (renamed r t) ≡ is_mark text t
mark_same r text t = go (is_renamed r t) refl where
  go : (b : Bool) → is_renamed r t ≡ b → is_mark text (renamed r t) ≡ is_mark text t
  go true e =
      let p : is_punct t.kind ≡ false = ident_no_mark t.kind (old_ident r t.kind t.text t.origin e) in
      ap (λ x. x && bytes_eq text (renamed r t).text) p ∙ sym (ap (λ x. x && bytes_eq text t.text) p)
  go false e = ap (is_mark text) (same_token r t e)

pub paste_same : (r : Renaming) (t : Token) → is_paste (renamed r t) ≡ is_paste t
paste_same r t = ap (λ x. x || is_mark (codes "%:%:") (renamed r t)) (mark_same r (codes "##") t) ∙ ap (λ x. is_mark (codes "##") t || x) (mark_same r (codes "%:%:") t)

pub hash_same : (r : Renaming) (t : Token) → is_hash (renamed r t) ≡ is_hash t
hash_same r t = ap (λ x. x || is_mark (codes "%:") (renamed r t)) (mark_same r (codes "#") t) ∙ ap (λ x. is_mark (codes "#") t || x) (mark_same r (codes "%:") t)

pub space_renamed : (r : Renaming) (space : Bool) (ts : List Token) → with_space space (all_renamed r ts) ≡ all_renamed r (with_space space ts)
space_renamed r space [] = refl
space_renamed r space (t ∷ ts) = refl

-- a role that a renamed identifier never has without harm
abbrev pub IsStrict : Renaming → Role → Type 0
IsStrict r role = (text : Text) (place : Place) → IsHarmless r (Taken text place role) → is_at r text place ≡ false

pub of_name : (r : Renaming) → IsStrict r MacroName
of_name r text place h = h

pub of_string : (r : Renaming) → IsStrict r Stringized
of_string r text place h = h

pub of_paste : (r : Renaming) → IsStrict r Pasted
of_paste r text place h = h

harmless_ident : (r : Renaming) (role : Role) (text : Text) (place : Place) (ident : Bool) → IsStrict r role → AllByRecursion (IsHarmless r) (cond ident (Taken text place role ∷ []) []) → (ident && is_at r text place) ≡ false
harmless_ident r role text place false s h = refl
harmless_ident r role text place true s h = s text place h.0

harmless_old : (r : Renaming) (role : Role) (t : Token) (origin : Origin) → IsStrict r role → AllByRecursion (IsHarmless r) (taken_at role t origin) → is_old r t.kind t.text origin ≡ false
harmless_old r role t Made s h = refl
harmless_old r role t (At place) s h = harmless_ident r role t.text place (is_ident t.kind) s h

-- where a strict role was seen without harm, nothing is renamed
pub not_renamed : (r : Renaming) (role : Role) (t : Token) → IsStrict r role → AllByRecursion (IsHarmless r) (takes role t) → is_renamed r t ≡ false
not_renamed r role t s h = harmless_old r role t t.origin s h

pub same_by_role : (r : Renaming) (role : Role) (t : Token) → IsStrict r role → AllByRecursion (IsHarmless r) (takes role t) → renamed r t ≡ shifted r t
same_by_role r role t s h = same_token r t (not_renamed r role t s h)

abbrev pub all_shifted : Renaming → List Token → List Token
all_shifted r = map (shifted r)

pub same_by_roles : (r : Renaming) (role : Role) (ts : List Token) → IsStrict r role → AllByRecursion (IsHarmless r) (flat_map (takes role) ts) → all_renamed r ts ≡ all_shifted r ts
same_by_roles r role [] s h = refl
same_by_roles r role (t ∷ ts) s h =
    ap (λ x. x ∷ all_renamed r ts) (same_by_role r role t s (harmless_left r (takes role t) (flat_map (takes role) ts) h))
    ∙ ap (λ x. shifted r t ∷ x) (same_by_roles r role ts s (harmless_right r (takes role t) (flat_map (takes role) ts) h))

-- a renamed token is taken for the same
ident_renamed : (r : Renaming) (role : Role) (text : Text) (place : Place) (ident : Bool) → cond ident (Taken (cond (ident && is_at r text place) r.new text) (r.shift place) role ∷ []) [] ≡ renamed_events r (cond ident (Taken text place role ∷ []) [])
ident_renamed r role text place false = refl
ident_renamed r role text place true = refl

taken_renamed : (r : Renaming) (role : Role) (t : Token) (origin : Origin) → taken_at role (record t { text = cond (is_old r t.kind t.text origin) r.new t.text }) (shifted_origin r origin) ≡ renamed_events r (taken_at role t origin)
taken_renamed r role t Made = refl
taken_renamed r role t (At place) = ident_renamed r role t.text place (is_ident t.kind)

pub takes_renamed : (r : Renaming) (role : Role) (t : Token) → takes role (renamed r t) ≡ renamed_events r (takes role t)
takes_renamed r role t = taken_renamed r role t t.origin

pub all_take_renamed : (r : Renaming) (role : Role) (ts : List Token) → flat_map (takes role) (all_renamed r ts) ≡ renamed_events r (flat_map (takes role) ts)
all_take_renamed r role [] = refl
all_take_renamed r role (t ∷ ts) =
    ap (λ x. x ++ flat_map (takes role) (all_renamed r ts)) (takes_renamed r role t)
    ∙ ap (λ x. renamed_events r (takes role t) ++ x) (all_take_renamed r role ts)
    ∙ sym (map-append (renamed_event r) (takes role t) (flat_map (takes role) ts))

-- what a token that keeps its text is taken for
pub same_takes : (r : Renaming) (role : Role) (t : Token) → renamed r t ≡ shifted r t → takes role (shifted r t) ≡ renamed_events r (takes role t)
same_takes r role t e = subst (λ x. takes role x ≡ renamed_events r (takes role t)) e (takes_renamed r role t)

pub never_name : {A : Type 0} (r : Renaming) (t : Token) (more : List Event) (a : A) → is_renamed r t ≡ true → Never r (note (takes MacroName t ++ more) a)
never_name r t more a e = record {
  at = λ left fine.
      let no : is_renamed r t ≡ false = not_renamed r MacroName t (of_name r) (harmless_left r (takes MacroName t) more fine) in cc;
}
