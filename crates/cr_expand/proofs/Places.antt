-- Tokens in the place of a macro's name.
use Rattle.std.proofs.Common.{◌≡◌, ℕ, ◌+◌, ◌<◌, ◌≤◌, Bool, List, [], ◌∷◌, ◌++◌, map, length, drop, get_or, refl, sym, ap, ◌∙◌, subst, arith, append_assoc, append-nil}
use Rattle.std.specs.List.{All}
use Rattle.std.proofs.lemmas.List.Elements.{All-get_or, All-push, All-head, All-tail, All-cons, All-nil}
use Rattle.std.proofs.lemmas.List.{map-append}
use Rattle.cr_base.specs.declared.token.PpTok.{PpTok}
use Rattle.cr_expand.specs.declared.held.Held.{Held}
use Rattle.cr_macros.specs.Tokens.{Text, Token, token_of, with_names}
use Rattle.cr_macros.specs.Substitution as spec
use Rattle.cr_macros.specs.Definition.{text_of}
use Rattle.cr_expand.specs.HideSets.{Sets, set_at, Grows, AreBelow}
use Rattle.cr_expand.specs.Held.{held, all_held, hidden, IsNamed, IsKnown, AreKnown, AreTables}
use Rattle.cr_expand.specs.Placing.{IsPlacedAt, placed_one, IsPlacing, ArePlaced}
use Rattle.cr_expand.proofs.Sets.{grows_same, grows_then, set_kept}
use Rattle.cr_expand.proofs.Kept.{longer, tables_later, all_known_later, all_held_kept, hidden_kept}
use Rattle.cr_expand.proofs.HiddenNames.{numbers_text}
use Rattle.cr_expand.proofs.Bodies.{cut_at}

-- the token that is placed, by its text
pub placed_text : (names : List Text) (sets s1 s2 : Sets) (name : PpTok) (hide : ℕ) (h r : Held) (space : Bool) → AreTables names s1 → Grows sets s1 → hide < length sets → h.hide.0 < length sets → IsPlacedAt s1 s2 name hide h space r
    → held names s2 r ≡ record (placed_one (token_of names [] name) (hidden names sets hide) (held names sets h)) { space = space }
placed_text names sets s1 s2 name hide h r space t g k l p =
    let m : length sets ≤ length s1 = longer sets s1 g in
    let named_a : All (IsNamed names) (set_at s1 hide) = All-get_or (All (IsNamed names)) s1 hide [] (omega (arith, m, k)) t.named in
    let named_b : All (IsNamed names) (set_at s1 h.hide.0) = All-get_or (All (IsNamed names)) s1 h.hide.0 [] (omega (arith, m, l)) t.named in
    let hides : hidden names s2 r.hide.0 ≡ with_names (hidden names sets hide) (hidden names sets h.hide.0) =
    ap (map (text_of names)) p.0.2
    ∙ numbers_text names (set_at s1 hide) (set_at s1 h.hide.0) t.distinct named_a named_b
    ∙ ap (λ x. with_names (map (text_of names) x) (map (text_of names) (set_at s1 h.hide.0))) (set_kept sets s1 hide g k)
    ∙ ap (λ x. with_names (hidden names sets hide) (map (text_of names) x)) (set_kept sets s1 h.hide.0 g l) in
    ap (token_of names (hidden names s2 r.hide.0)) p.1
    ∙ ap (λ x. token_of names x (record h.token { site = name.site; line = name.line; space = space })) hides

pub placed_known : (names : List Text) (s1 s2 : Sets) (name : PpTok) (hide : ℕ) (h r : Held) (space : Bool) → IsNamed names h.token.text → IsPlacedAt s1 s2 name hide h space r → IsKnown names s2 r
placed_known names s1 s2 name hide h r space k p = (subst (λ x. IsNamed names x.text) (sym p.1) k, p.0.1)

pub placing_starts : (names : List Text) (sets : Sets) (name : PpTok) (hide : ℕ) (rest out : List Held) → AreTables names sets → AreKnown names sets out
    → IsPlacing names sets sets (token_of names [] name) (hidden names sets hide) [] rest (all_held names sets out ++ map (placed_one (token_of names [] name) (hidden names sets hide)) (all_held names sets rest)) out
placing_starts names sets name hide rest out t k = record { grows = grows_same sets; tables = t; known = k; placed = refl }

pub placing_goes_on : (names : List Text) (sets s1 s2 : Sets) (name : PpTok) (hide : ℕ) (rest out out2 : List Held) (done : List Token) (i : ℕ) (d r : Held) → hide < length sets → AreKnown names sets rest → i < length rest
    → IsPlacing names sets s1 (token_of names [] name) (hidden names sets hide) [] (drop i rest) done out
    → IsPlacedAt s1 s2 name hide (get_or rest i d) (get_or rest i d).token.space r → AreBelow (length names) s2 → out2 ≡ out ++ r ∷ []
    → IsPlacing names sets s2 (token_of names [] name) (hidden names sets hide) [] (drop (i + 1) rest) done out2
placing_goes_on names sets s1 s2 name hide rest out out2 done i d r k kn l f p b e =
    let one : IsKnown names sets (get_or rest i d) = All-get_or (IsKnown names sets) rest i d l kn in
    let text = placed_text names sets s1 s2 name hide (get_or rest i d) r (get_or rest i d).token.space f.tables f.grows k one.1 p in
    let later : AreKnown names s2 out = all_known_later names names s1 s2 out (grows_same names) p.0.0 f.known in
    let tables2 : AreTables names s2 = tables_later names names s1 s2 f.tables (grows_same names) p.0.0 f.tables.distinct b.at in
    record {
      grows = grows_then sets s1 s2 f.grows p.0.0;
      tables = tables2;
      known = subst (AreKnown names s2) (sym e) (All-push (IsKnown names s2) out r later (placed_known names s1 s2 name hide (get_or rest i d) r (get_or rest i d).token.space one.0 p));
      placed =
          ap (λ x. all_held names s2 x ++ map (placed_one (token_of names [] name) (hidden names sets hide)) (all_held names sets (drop (i + 1) rest))) e
          ∙ ap (λ x. x ++ map (placed_one (token_of names [] name) (hidden names sets hide)) (all_held names sets (drop (i + 1) rest))) (map-append (λ x. held names s2 x) out (r ∷ []))
          ∙ append_assoc (all_held names s2 out) (held names s2 r ∷ []) (map (placed_one (token_of names [] name) (hidden names sets hide)) (all_held names sets (drop (i + 1) rest)))
          ∙ ap (λ x. x ++ (held names s2 r ∷ map (placed_one (token_of names [] name) (hidden names sets hide)) (all_held names sets (drop (i + 1) rest)))) (all_held_kept names names s1 s2 out (grows_same names) p.0.0 f.tables.named f.known)
          ∙ ap (λ x. all_held names s1 out ++ (x ∷ map (placed_one (token_of names [] name) (hidden names sets hide)) (all_held names sets (drop (i + 1) rest)))) text
          ∙ ap (λ x. all_held names s1 out ++ map (placed_one (token_of names [] name) (hidden names sets hide)) (all_held names sets x)) (sym (cut_at rest i d l))
          ∙ f.placed;
    }

pub none_placed : (names : List Text) (sets : Sets) (name : PpTok) (hide : ℕ) (tokens out : List Held) → tokens ≡ [] → out ≡ [] → AreTables names sets → ArePlaced names sets sets (token_of names [] name) (hidden names sets hide) tokens out
none_placed names sets name hide tokens out e o t = record {
  grows = grows_same sets;
  tables = t;
  known = subst (AreKnown names sets) (sym o) (All-nil (IsKnown names sets));
  placed = ap (all_held names sets) o ∙ ap (λ x. spec.placed (token_of names [] name) (hidden names sets hide) (all_held names sets x)) (sym e);
}

-- the first is placed, and then the others
pub all_placed : (names : List Text) (sets s1 s2 : Sets) (name : PpTok) (hide : ℕ) (first r : Held) (rest tokens one out : List Held) → AreTables names sets → hide < length sets → AreKnown names sets (first ∷ rest)
    → tokens ≡ first ∷ rest → IsPlacedAt sets s1 name hide first name.space r → AreBelow (length names) s1 → one ≡ r ∷ []
    → IsPlacing names s1 s2 (token_of names [] name) (hidden names s1 hide) [] [] (all_held names s1 one ++ map (placed_one (token_of names [] name) (hidden names s1 hide)) (all_held names s1 rest)) out
    → ArePlaced names sets s2 (token_of names [] name) (hidden names sets hide) tokens out
all_placed names sets s1 s2 name hide first r rest tokens one out t k kn e p b o f =
    let kf : IsKnown names sets first = All-head (IsKnown names sets) first rest kn in
    let kr : AreKnown names sets rest = All-tail (IsKnown names sets) first rest kn in
    let text = placed_text names sets sets s1 name hide first r name.space t (grows_same sets) k kf.1 p in
    let rest_same : all_held names s1 rest ≡ all_held names sets rest = all_held_kept names names sets s1 rest (grows_same names) p.0.0 t.named kr in
    let hide_same : hidden names s1 hide ≡ hidden names sets hide = hidden_kept names names sets s1 hide (grows_same names) p.0.0 t.named k in
    record {
      grows = grows_then sets s1 s2 p.0.0 f.grows;
      tables = f.tables;
      known = f.known;
      placed =
          sym (append-nil (all_held names s2 out)) ∙ f.placed
          ∙ ap (λ x. all_held names s1 x ++ map (placed_one (token_of names [] name) (hidden names s1 hide)) (all_held names s1 rest)) o
          ∙ ap (λ x. held names s1 r ∷ map (placed_one (token_of names [] name) x) (all_held names s1 rest)) hide_same
          ∙ ap (λ x. held names s1 r ∷ map (placed_one (token_of names [] name) (hidden names sets hide)) x) rest_same
          ∙ ap (λ x. x ∷ map (placed_one (token_of names [] name) (hidden names sets hide)) (all_held names sets rest)) text
          ∙ ap (λ x. spec.placed (token_of names [] name) (hidden names sets hide) (all_held names sets x)) (sym e);
    }

pub first_known : (names : List Text) (s1 : Sets) (r : Held) (one : List Held) → one ≡ r ∷ [] → IsKnown names s1 r → AreKnown names s1 one
first_known names s1 r one e k = subst (AreKnown names s1) (sym e) (All-cons (IsKnown names s1) r [] k (All-nil (IsKnown names s1)))
