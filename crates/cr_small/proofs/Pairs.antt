-- Tokens paired with what they denote, from an index on.
use Rattle.std.proofs.Common.{◌≡◌, ℕ, ◌+◌, ◌<◌, Bool, true, false, ◌&&◌, List, [], ◌∷◌, ◌++◌, length, map, drop, get_or, Option, Some, None, refl, sym, ap, ◌∙◌, append_assoc, suc, arith}
use Rattle.std.specs.Prelude.{if◌then◌else◌}
use Rattle.std.specs.List.{zip}
use Rattle.std.specs.Option.{option_map, IfSome}
use Rattle.std.proofs.lemmas.List.{drop_more, length-map}
use Rattle.cr_lex.specs.Lexing.{Token, Lexed}
use Rattle.cr_lex.specs.Renaming.{is_refused}
use Rattle.cr_small.specs.Tree.{parts}
use Rattle.cr_base.specs.declared.token.PpTok.{PpTok}
use Rattle.cr_lex.specs.Seen.{seen}
use Rattle.cr_small.specs.SmallForm.{Resolves}
use Rattle.cr_small.specs.Keys.{Key}
use Rattle.cr_small.specs.Renaming.{target_among, target_of, covers, places_among, unspellable_among, denotes_key}
use Rattle.cr_small.specs.declared.binder.Denotation.{Denotation}
use Rattle.cr_small.proofs.Names.{resolved-length, derived-length}

module _ (names : List (List ℕ)) (x : PpTok) (tokens : List PpTok) (denotes : List (Option Denotation)) (i : ℕ) (h : i < length tokens) (k : i < length denotes) where
  pub pair_at : zip (map (seen names) (drop i tokens)) (drop i denotes) ≡ (seen names (get_or tokens i x), get_or denotes i None) ∷ zip (map (seen names) (drop (i + 1) tokens)) (drop (i + 1) denotes)
  pair_at =
      ap (λ ts. zip (map (seen names) ts) (drop i denotes)) (drop_more tokens i x h)
      ∙ ap (zip (map (seen names) (get_or tokens i x ∷ drop (i + 1) tokens))) (drop_more denotes i None k)

  module _ (all : List Token) where
    pub unspellable_here : (bytes new : List ℕ) (key : Key) (b : Bool) → (denotes_key all key (get_or denotes i None) && is_refused bytes new (seen names (get_or tokens i x))) ≡ b
        → unspellable_among bytes new all key (zip (map (seen names) (drop i tokens)) (drop i denotes)) ≡ (if b then Some (seen names (get_or tokens i x)).at else unspellable_among bytes new all key (zip (map (seen names) (drop (i + 1) tokens)) (drop (i + 1) denotes)))
    unspellable_here bytes new key b e =
        ap (unspellable_among bytes new all key) pair_at
        ∙ ap (λ b. if b then Some (seen names (get_or tokens i x)).at else unspellable_among bytes new all key (zip (map (seen names) (drop (i + 1) tokens)) (drop (i + 1) denotes))) e

    pub target_here : (offset : ℕ) (b : Bool) → covers offset (seen names (get_or tokens i x)) ≡ b
        → target_among all offset (zip (map (seen names) (drop i tokens)) (drop i denotes)) ≡ (if b then target_of all (seen names (get_or tokens i x)) (get_or denotes i None) else target_among all offset (zip (map (seen names) (drop (i + 1) tokens)) (drop (i + 1) denotes)))
    target_here offset b e =
        ap (target_among all offset) pair_at
        ∙ ap (λ b. if b then target_of all (seen names (get_or tokens i x)) (get_or denotes i None) else target_among all offset (zip (map (seen names) (drop (i + 1) tokens)) (drop (i + 1) denotes))) e

    pub places_yes : (key : Key) → denotes_key all key (get_or denotes i None) ≡ true
        → places_among all key (zip (map (seen names) (drop i tokens)) (drop i denotes)) ≡ (seen names (get_or tokens i x)).at ∷ places_among all key (zip (map (seen names) (drop (i + 1) tokens)) (drop (i + 1) denotes))
    places_yes key e = ap (places_among all key) pair_at ∙ rw e refl

    pub places_no : (key : Key) → denotes_key all key (get_or denotes i None) ≡ false
        → places_among all key (zip (map (seen names) (drop i tokens)) (drop i denotes)) ≡ places_among all key (zip (map (seen names) (drop (i + 1) tokens)) (drop (i + 1) denotes))
    places_no key e = ap (places_among all key) pair_at ∙ rw e refl

pub one_place_more : (done grown all rest : List ℕ) (place : ℕ) (here : List ℕ) → done ++ here ≡ all → here ≡ place ∷ rest → grown ≡ done ++ place ∷ [] → grown ++ rest ≡ all
one_place_more done grown all rest place here h e g = ap (λ l. l ++ rest) g ∙ append_assoc done (place ∷ []) rest ∙ ap (λ l. done ++ l) (sym e) ∙ h

pub no_place_more : (done all rest here : List ℕ) → done ++ here ≡ all → here ≡ rest → done ++ rest ≡ all
no_place_more done all rest here h e = ap (λ l. done ++ l) (sym e) ∙ h

zip-length : {X Y : Type 0} (xs : List X) (ys : List Y) → length ys ≡ length xs → length (zip xs ys) ≡ length xs
zip-length [] ys e = refl
zip-length (x ∷ xs) [] e = absurd (let a : 0 ≡ suc (length xs) = e in cc)
zip-length (x ∷ xs) (y ∷ ys) e = ap suc (zip-length xs ys (omega arith))

-- each token denotes something or nothing
pub resolves-length : (text : Lexed) (denotes : List (Option Denotation)) → Resolves text (Some denotes) → length denotes ≡ length text.tokens
resolves-length text denotes r =
    resolved-length (zip text.tokens (parts r.2.0)) 0 _ denotes r.2.1.1 ∙ zip-length text.tokens (parts r.2.0) (derived-length text.tokens r.2.0 r.2.1.0)

pub found-length : {V : Type 0} (view : V → List (Option Denotation)) (names : List (List ℕ)) (tokens : List PpTok) (o : Option V)
    → Resolves (record { tokens = map (seen names) tokens; fault = None }) (option_map view o) → IfSome o (λ v. length (view v) ≡ length tokens)
found-length view names tokens None r = tt
found-length view names tokens (Some v) r = resolves-length (record { tokens = map (seen names) tokens; fault = None }) (view v) r ∙ length-map tokens (seen names)
