-- Notes one after another.
use Rattle.std.proofs.Common.{◌≡◌, ℕ, ◌+◌, ◌<◌, List, [], ◌∷◌, ◌++◌, take, get_or, length, refl, sym, ap, ◌∙◌, append_assoc, append-nil}
use Rattle.std.specs.Prelude.{flat_map}
use Rattle.std.proofs.lemmas.List.{take_more, map-append}
use Rattle.cr_base.specs.declared.cause.Role.{Role}
use Rattle.cr_macros.specs.declared.macros.Seen.{Seen}
use Rattle.cr_expand.specs.declared.held.Held.{Held}
use Rattle.cr_macros.specs.Tokens.{Text, Event, takes}
use Rattle.cr_expand.specs.HideSets.{Sets}
use Rattle.cr_expand.specs.declared.notes.Notes.{Notes}
use Rattle.cr_macros.specs.Definition.{text_of}
use Rattle.cr_expand.specs.Held.{Watch, watch_of, noted, noted_one, held, all_held}

pub flat_map_append : {A B : Type 0} (f : A → List B) (xs ys : List A) → flat_map f (xs ++ ys) ≡ flat_map f xs ++ flat_map f ys
flat_map_append f [] ys = refl
flat_map_append f (x ∷ xs) ys = ap (λ l. f x ++ l) (flat_map_append f xs ys) ∙ sym (append_assoc (f x) (flat_map f xs) (flat_map f ys))

pub noted_append : (w : Watch) (xs ys : List Event) → noted w (xs ++ ys) ≡ noted w xs ++ noted w ys
noted_append w xs ys = flat_map_append (noted_one w) xs ys

-- one more token is taken
pub noted_more : (w : Watch) (names : List Text) (sets : Sets) (role : Role) (hs : List Held) (i : ℕ) (d : Held) → i < length hs
    → noted w (flat_map (takes role) (all_held names sets (take (i + 1) hs))) ≡ noted w (flat_map (takes role) (all_held names sets (take i hs))) ++ noted w (takes role (held names sets (get_or hs i d)))
noted_more w names sets role hs i d h =
    ap (λ l. noted w (flat_map (takes role) (all_held names sets l))) (take_more hs i d h)
    ∙ ap (λ l. noted w (flat_map (takes role) l)) (map-append (λ x. held names sets x) (take i hs) (get_or hs i d ∷ []))
    ∙ ap (noted w) (flat_map_append (takes role) (all_held names sets (take i hs)) (held names sets (get_or hs i d) ∷ []))
    ∙ noted_append w (flat_map (takes role) (all_held names sets (take i hs))) (takes role (held names sets (get_or hs i d)) ++ [])
    ∙ ap (λ l. noted w (flat_map (takes role) (all_held names sets (take i hs))) ++ noted w l) (append-nil (takes role (held names sets (get_or hs i d))))

pub noted_step : (w0 w1 : Watch) (names : List Text) (sets : Sets) (role : Role) (hs : List Held) (i : ℕ) (d : Held) (s0 s1 s2 : List Seen) → w1 ≡ w0
    → s1 ≡ s0 ++ noted w0 (flat_map (takes role) (all_held names sets (take i hs)))
    → s2 ≡ s1 ++ noted w1 (takes role (held names sets (get_or hs i d))) → i < length hs
    → s2 ≡ s0 ++ noted w0 (flat_map (takes role) (all_held names sets (take (i + 1) hs)))
noted_step w0 w1 names sets role hs i d s0 s1 s2 e h k l =
    k ∙ ap (λ w. s1 ++ noted w (takes role (held names sets (get_or hs i d)))) e
    ∙ ap (λ s. s ++ noted w0 (takes role (held names sets (get_or hs i d)))) h
    ∙ append_assoc s0 (noted w0 (flat_map (takes role) (all_held names sets (take i hs)))) (noted w0 (takes role (held names sets (get_or hs i d))))
    ∙ ap (λ s. s0 ++ s) (sym (noted_more w0 names sets role hs i d l))

pub same_watch : (names : List Text) (a b : Notes) → a.from ≡ b.from → a.to ≡ b.to → watch_of names a ≡ watch_of names b
same_watch names a b e f = ap (λ x. record { from = text_of names x; to = text_of names a.to }) e ∙ ap (λ x. record { from = text_of names b.from; to = text_of names x }) f
