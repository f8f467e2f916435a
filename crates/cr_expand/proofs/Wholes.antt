-- Arguments of which only the first token is kept.
use Rattle.std.proofs.Common.{◌≡◌, ℕ, zero, suc, ◌+◌, ◌<◌, Bool, true, false, List, [], ◌∷◌, ◌++◌, length, refl, sym, ap, ◌∙◌, arith, None}
use Rattle.std.specs.List.{list_any, All}
use Rattle.std.proofs.lemmas.List.Elements.{All-nil, All-cons, All-head, All-tail}
use Rattle.std.proofs.lemmas.Bool.Decides.{nat_tests}
use Rattle.std.specs.Prelude.{◌||◌, ◌==◌, not, flat_map, if◌then◌else◌}
use Rattle.cr_base.specs.declared.cause.Role.TheVariants.{MacroName, Dropped}
use Rattle.cr_macros.specs.Tokens.{Text, Token, MacroText, Answer, Gave, Work, after, then_do, ◌>>=◌, give, takes}
use Rattle.cr_macros.specs.Substitution.{Part, Args, Item, Stays, Spelt, Bare, Full, CommaRest, Paste, body_items, is_use, arg_at, string_of, with_space, or_placemarker, comma_and, Is, filled, all_filled, all_pasted, placed, dropped}
use Rattle.cr_macros.specs.Expansion.{put_in}
use Rattle.cr_expand.specs.declared.held.Held.{Held}
use Rattle.cr_expand.specs.HideSets.{Sets}
use Rattle.cr_expand.specs.Held.{all_held, all_args}
use Rattle.cr_expand.specs.Running.{put_for}
use Rattle.cr_expand.specs.Wanted.{is_as_is, is_whole, kept, all_kept, kept_more}
use Rattle.cr_expand.proofs.Going.{then_same}

pub kept_none : {A : Type 0} (b : Bool) → kept {A = A} b [] ≡ []
kept_none true = refl
kept_none false = refl

pub kept_one_more : {A : Type 0} (b : Bool) (list : List A) (a : A) → kept_more b (kept b list) a ≡ kept b (list ++ a ∷ [])
kept_one_more true list a = refl
kept_one_more false [] a = refl
kept_one_more false (x ∷ list) a = refl

all_kept_more : {A : Type 0} (w : ℕ → Bool) (i : ℕ) (lists : List (List A)) (list : List A) → all_kept w i (lists ++ list ∷ []) ≡ all_kept w i lists ++ kept (w (i + length lists)) list ∷ []
all_kept_more w i [] list = ap (λ n. kept (w n) list ∷ []) (let e : i ≡ i + 0 = omega arith in e)
all_kept_more w i (l ∷ lists) list =
    ap (λ x. kept (w i) l ∷ x) (all_kept_more w (i + 1) lists list ∙ ap (λ n. all_kept w (i + 1) lists ++ kept (w n) list ∷ []) (let e : i + 1 + length lists ≡ i + suc (length lists) = omega arith in e))

pub all_kept_last : {A : Type 0} (w : ℕ → Bool) (lists : List (List A)) (list : List A) → all_kept w 0 (lists ++ list ∷ []) ≡ all_kept w 0 lists ++ kept (w (length lists)) list ∷ []
all_kept_last w lists list = all_kept_more w 0 lists list ∙ ap (λ n. all_kept w 0 lists ++ kept (w n) list ∷ []) (let e : 0 + length lists ≡ length lists = omega arith in e)

pub length_all_kept : {A : Type 0} (w : ℕ → Bool) (i : ℕ) (lists : List (List A)) → length (all_kept w i lists) ≡ length lists
length_all_kept w i [] = refl
length_all_kept w i (l ∷ lists) = ap suc (length_all_kept w (i + 1) lists)

-- the same by tests that agree at the lists' numbers
pub all_kept_same : {A : Type 0} (v w : ℕ → Bool) (i : ℕ) (lists : List (List A)) → ((n : ℕ) → n < i + length lists → v n ≡ w n) → all_kept v i lists ≡ all_kept w i lists
all_kept_same v w i [] h = refl
all_kept_same v w i (l ∷ lists) h =
    ap (λ b. kept b l ∷ all_kept v (i + 1) lists) (h i (omega arith)) ∙ ap (λ x. kept (w i) l ∷ x) (all_kept_same v w (i + 1) lists (λ n k. h n (omega (arith, k))))

kept_text : (names : List Text) (sets : Sets) (b : Bool) (list : List Held) → all_held names sets (kept b list) ≡ kept b (all_held names sets list)
kept_text names sets true list = refl
kept_text names sets false [] = refl
kept_text names sets false (h ∷ list) = refl

pub all_kept_text : (names : List Text) (sets : Sets) (w : ℕ → Bool) (i : ℕ) (lists : List (List Held)) → all_args names sets (all_kept w i lists) ≡ all_kept w i (all_args names sets lists)
all_kept_text names sets w i [] = refl
all_kept_text names sets w i (l ∷ lists) = ap (λ x. x ∷ all_args names sets (all_kept w (i + 1) lists)) (kept_text names sets (w i) l) ∙ ap (λ x. kept (w i) (all_held names sets l) ∷ x) (all_kept_text names sets w (i + 1) lists)

kept_all : {A : Type 0} (P : A → Type 0) (b : Bool) (list : List A) → All P list → All P (kept b list)
kept_all P true list h = h
kept_all P false [] h = h
kept_all P false (a ∷ list) h = All-cons P a [] (All-head P a list h) (All-nil P)

pub all_kept_all : {A : Type 0} (P : A → Type 0) (w : ℕ → Bool) (i : ℕ) (lists : List (List A)) → All (All P) lists → All (All P) (all_kept w i lists)
all_kept_all P w i [] h = All-nil (All P)
all_kept_all P w i (l ∷ lists) h = All-cons (All P) (kept (w i) l) (all_kept w (i + 1) lists) (kept_all P (w i) l (All-head (All P) l lists h)) (all_kept_all P w (i + 1) lists (All-tail (All P) l lists h))

-- an argument of those that are kept
arg_kept : (w : ℕ → Bool) (i k : ℕ) (raw : Args) → arg_at (all_kept w i raw) k ≡ kept (w (i + k)) (arg_at raw k)
arg_kept w i zero [] = sym (kept_none (w (i + 0)))
arg_kept w i (suc k) [] = sym (kept_none (w (i + suc k)))
arg_kept w i zero (a ∷ raw) = ap (λ n. kept (w n) a) (let e : i ≡ i + 0 = omega arith in e)
arg_kept w i (suc k) (a ∷ raw) = arg_kept w (i + 1) k raw ∙ ap (λ n. kept (w n) (arg_at raw k)) (let e : i + 1 + k ≡ i + suc k = omega arith in e)

arg_whole : (w : ℕ → Bool) (k : ℕ) (raw : Args) → w k ≡ true → arg_at (all_kept w 0 raw) k ≡ arg_at raw k
arg_whole w k raw h = arg_kept w 0 k raw ∙ ap (λ n. kept (w n) (arg_at raw k)) (let e : 0 + k ≡ k = omega arith in e) ∙ ap (λ b. kept b (arg_at raw k)) h

comma_kept : (comma : Token) (rest : List Part) (arg : List Token) (b : Bool) → comma_and comma rest (kept b arg) ≡ comma_and comma rest arg
comma_kept comma rest arg true = refl
comma_kept comma rest [] false = refl
comma_kept comma rest (a ∷ arg) false = refl

-- where an item takes an argument as it is, all of it is kept
abbrev pub IsItemKept : (ℕ → Bool) → Item → Type 0
IsItemKept w (Stays t) = Unit {0}
IsItemKept w (Spelt hash i) = w i ≡ true
IsItemKept w (Bare t i) = w i ≡ true
IsItemKept w (Full t i) = Unit {0}
IsItemKept w (CommaRest comma t i) = Unit {0}
IsItemKept w Paste = Unit {0}

filled_kept : (name : Token) (raw full : Args) (w : ℕ → Bool) (item : Item) (left : ℕ) → IsItemKept w item → filled name raw full item left ≡ filled name (all_kept w 0 raw) full item left
filled_kept name raw full w (Stays t) left h = refl
filled_kept name raw full w (Spelt hash i) left h = ap (λ a. then_do (string_of name hash a left) (λ s. give (Is s ∷ []))) (sym (arg_whole w i raw h))
filled_kept name raw full w (Bare t i) left h = ap (λ a. Gave (or_placemarker (with_space t.space a)) left []) (sym (arg_whole w i raw h))
filled_kept name raw full w (Full t i) left h = refl
filled_kept name raw full w (CommaRest comma t i) left h =
    ap (λ a. Gave a left []) (sym (comma_kept comma (or_placemarker (with_space t.space (arg_at full i))) (arg_at raw i) (w (0 + i))))
    ∙ ap (λ a. Gave (comma_and comma (or_placemarker (with_space t.space (arg_at full i))) a) left []) (sym (arg_kept w 0 i raw))
filled_kept name raw full w Paste left h = refl

same_number : (n : ℕ) (b : Bool) → ((n == n) || b) ≡ true
same_number n b = ap (λ c. c || b) (let e : (n == n) ≡ true = grind (arith, nat_tests) in e)

item_kept : (w : ℕ → Bool) (item : Item) (b : ℕ → Bool) → ((k : ℕ) → (is_as_is k item || b k) ≡ true → w k ≡ true) → IsItemKept w item
item_kept w (Stays t) b h = tt
item_kept w (Spelt hash i) b h = h i (same_number i (b i))
item_kept w (Bare t i) b h = h i (same_number i (b i))
item_kept w (Full t i) b h = tt
item_kept w (CommaRest comma t i) b h = tt
item_kept w Paste b h = tt

or_true : (a b : Bool) → b ≡ true → (a || b) ≡ true
or_true true b e = refl
or_true false b e = e

all_filled_kept : (name : Token) (raw full : Args) (w : ℕ → Bool) (its : List Item) (left : ℕ) → ((k : ℕ) → list_any (is_as_is k) its ≡ true → w k ≡ true)
    → all_filled name raw full its left ≡ all_filled name (all_kept w 0 raw) full its left
all_filled_kept name raw full w [] left h = refl
all_filled_kept name raw full w (item ∷ its) left h =
    let kept_raw = all_kept w 0 raw in
    ap (λ r. then_do r (λ ps. all_filled name raw full its >>= λ more. give (ps ++ more))) (filled_kept name raw full w item left (item_kept w item (λ k. list_any (is_as_is k) its) h))
    ∙ then_same (filled name kept_raw full item left) (λ ps. all_filled name raw full its >>= λ more. give (ps ++ more)) (λ ps. all_filled name kept_raw full its >>= λ more. give (ps ++ more))
    (λ ps left1. ap (λ r. then_do r (λ more. give (ps ++ more))) (all_filled_kept name raw full w its left1 (λ k e. h k (or_true (is_as_is k item) (list_any (is_as_is k) its) e))))

dropped_one : (used b : Bool) (arg : List Token) → (used ≡ false → b ≡ true) → (if used then [] else flat_map (takes Dropped) arg) ≡ (if used then [] else flat_map (takes Dropped) (kept b arg))
dropped_one true b arg h = refl
dropped_one false b arg h = ap (λ x. flat_map (takes Dropped) (kept x arg)) (sym (h refl))

dropped_kept : (its : List Item) (w : ℕ → Bool) (i : ℕ) (raw : Args) → ((k : ℕ) → list_any (is_use k) its ≡ false → w k ≡ true) → dropped its i raw ≡ dropped its i (all_kept w i raw)
dropped_kept its w i [] h = refl
dropped_kept its w i (arg ∷ raw) h =
    ap (λ x. x ++ dropped its (i + 1) raw) (dropped_one (list_any (is_use i) its) (w i) arg (h i))
    ∙ ap (λ x. (if list_any (is_use i) its then [] else flat_map (takes Dropped) (kept (w i) arg)) ++ x) (dropped_kept its w (i + 1) raw h)

or_not : (a b : Bool) → b ≡ false → (a || not b) ≡ true
or_not true b e = refl
or_not false b e = ap not e

or_left : (a b : Bool) → a ≡ true → (a || b) ≡ true
or_left true b e = refl
or_left false b e = absurd (let q : ⊥ = cc in q)

-- What is put in needs of an argument only what is kept.
pub put_kept : (name : Token) (m : MacroText) (raw full : Args) (hide : List Text) (left : ℕ) → put_for name m raw full hide left ≡ put_for name m (all_kept (is_whole m) 0 raw) full hide left
put_kept name m raw full hide left =
    let its = body_items m in
    let kept_raw = all_kept (is_whole m) 0 raw in
    ap (λ d. then_do (after (takes MacroName name ++ d) (then_do (all_filled name raw full its left) (λ ps. all_pasted name None false ps >>= λ ts. give (placed name hide ts)))) (λ ts. put_in ts))
    (dropped_kept its (is_whole m) 0 raw (λ k e. or_not (list_any (is_as_is k) its) (list_any (is_use k) its) e))
    ∙ ap (λ r. then_do (after (takes MacroName name ++ dropped its 0 kept_raw) (then_do r (λ ps. all_pasted name None false ps >>= λ ts. give (placed name hide ts)))) (λ ts. put_in ts))
    (all_filled_kept name raw full (is_whole m) its left (λ k e. or_left (list_any (is_as_is k) its) (not (list_any (is_use k) its)) e))

pub put_kept_then : {B : Type 0} (name : Token) (m : MacroText) (raw some : Args) (hide : List Text) (r : Answer Args) (go : List Token → Work B) → some ≡ all_kept (is_whole m) 0 raw
    → then_do r (λ fulls. put_for name m raw fulls hide >>= go) ≡ then_do r (λ fulls. put_for name m some fulls hide >>= go)
put_kept_then name m raw some hide r go e =
    then_same r (λ fulls. put_for name m raw fulls hide >>= go) (λ fulls. put_for name m some fulls hide >>= go)
    (λ fulls left. ap (λ x. then_do x go) (put_kept name m raw fulls hide left ∙ ap (λ x. put_for name m x fulls hide left) (sym e)))
