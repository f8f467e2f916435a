-- The number of a call's arguments.
use Rattle.std.proofs.Common.{◌≡◌, ℕ, suc, ◌+◌, ◌-◌, ◌<◌, ◌≤◌, Bool, true, false, cond, List, [], ◌∷◌, ◌++◌, length, map, refl, sym, ap, ◌∙◌, arith, length-append, Option, Some, None, inl, inr}
use Rattle.std.specs.Prelude.{◌==◌, if◌then◌else◌, option_map}
use Rattle.std.proofs.lemmas.List.{map-append}
use Rattle.std.proofs.lemmas.Bool.Decides.{nat_tests}
use Rattle.cr_base.specs.declared.token.Name.{Name}
use Rattle.cr_expand.specs.declared.held.Held.{Held}
use Rattle.cr_macros.specs.Tokens.{Text, Token}
use Rattle.cr_macros.specs.Definition.{text_of}
use Rattle.cr_macros.specs.Substitution.{Args}
use Rattle.cr_macros.specs.Expansion.{into_first, parted, arguments}
use Rattle.cr_expand.specs.HideSets.{Sets}
use Rattle.cr_expand.specs.Held.{held, all_held, all_args}
use Rattle.cr_macros.specs.declared.macros.Macro.{Macro}
use Rattle.cr_expand.specs.declared.slot.Slot.{Slot}
use Rattle.cr_expand.specs.Calls.{part_at, ArePartedAt}
use Rattle.cr_expand.specs.Wanted.{is_one_empty, counted, kept, all_kept}
use Rattle.cr_expand.specs.Machines.{AreArguments, AreTaken}
use Rattle.cr_expand.proofs.PartedLists.{by_part, parted_at}
use Rattle.cr_expand.proofs.Wholes.{kept_none, all_kept_last, length_all_kept}

pub length_map : {A B : Type 0} (f : A → B) (xs : List A) → length (map f xs) ≡ length xs
length_map f [] = refl
length_map f (x ∷ xs) = ap suc (length_map f xs)

-- lists that aren't one empty list alone
abbrev Several : Args → Type 0
Several [] = ⊥
Several ([] ∷ []) = ⊥
Several ([] ∷ b ∷ args) = Unit {0}
Several ((t ∷ ts) ∷ args) = Unit {0}

abbrev Some_of : Args → Type 0
Some_of [] = ⊥
Some_of (a ∷ args) = Unit {0}

into_several : (t : Token) (args : Args) → Several (into_first t args)
into_several t [] = tt
into_several t (a ∷ args) = tt

some_of : (args : Args) → Several args → Some_of args
some_of [] h = absurd h
some_of (a ∷ args) h = tt

behind_empty : (args : Args) → Some_of args → Several ([] ∷ args)
behind_empty [] h = absurd h
behind_empty (a ∷ args) h = tt

several_by : (n depth : ℕ) (t : Token) (ts : List Token) → ((m d : ℕ) → Some_of (parted m d ts)) → (o : Option ℕ) → Several (by_part n t ts o depth)
several_by n depth t ts h None = behind_empty (parted (n - 1) depth ts) (h (n - 1) depth)
several_by n depth t ts h (Some d) = into_several t (parted n d ts)

parted_some : (ts : List Token) (n depth : ℕ) → Some_of (parted n depth ts)
parted_some [] n depth = tt
parted_some (t ∷ ts) n depth = some_of (parted n depth (t ∷ ts)) (rw (parted_at n depth t ts) (several_by n depth t ts (λ m d. parted_some ts m d) (part_at n depth t)))

parted_several : (n depth : ℕ) (t : Token) (ts : List Token) → Several (parted n depth (t ∷ ts))
parted_several n depth t ts = rw (parted_at n depth t ts) (several_by n depth t ts (λ m d. parted_some ts m d) (part_at n depth t))

module _ (names : List Text) (sets : Sets) (params : List Name) (inside : List Held) (lists : List (List Held)) where
  abbrev texts : Args
  texts = all_args names sets lists

  abbrev names_of : List Text
  names_of = map (text_of names) params

  length_texts : length texts ≡ length lists
  length_texts = length_map (all_held names sets) lists

  length_names : length names_of ≡ length params
  length_names = length_map (text_of names) params

  variadic_cases : (b d : Bool)
      → cond b (Some texts) (cond d (Some (texts ++ [] ∷ [])) None) ≡ option_map (all_args names sets) (cond b (Some lists) (cond d (Some (lists ++ [] ∷ [])) None))
  variadic_cases true d = refl
  variadic_cases false true = ap Some (sym (map-append (all_held names sets) lists ([] ∷ [])))
  variadic_cases false false = refl

  abbrev by_variadic : ℕ → Args → Option Args
  by_variadic n args = if length args == n + 1 then Some args else if length args == n then Some (args ++ [] ∷ []) else None

  variadic_arguments : (ns : List Text) (ts : List Token) → arguments ns true ts ≡ by_variadic (length ns) (parted (length ns) 0 ts)
  variadic_arguments [] ts = refl
  variadic_arguments (n ∷ ns) ts = refl

  pub counted_variadic : texts ≡ parted (length params) 0 (all_held names sets inside) → arguments names_of true (all_held names sets inside) ≡ option_map (all_args names sets) (counted (length params) true lists)
  counted_variadic e =
      variadic_arguments names_of (all_held names sets inside)
      ∙ ap (λ n. by_variadic n (parted n 0 (all_held names sets inside))) length_names
      ∙ ap (by_variadic (length params)) (sym e)
      ∙ ap (λ n. if n == length params + 1 then Some texts else if n == length params then Some (texts ++ [] ∷ []) else None) length_texts
      ∙ variadic_cases (length lists == length params + 1) (length lists == length params)

  plain_cases : (b : Bool) → cond b (Some texts) None ≡ option_map (all_args names sets) (cond b (Some lists) None)
  plain_cases true = refl
  plain_cases false = refl

  abbrev by_plain : ℕ → Args → Option Args
  by_plain n args = if length args == n then Some args else None

some_params : (names : List Text) (sets : Sets) (p : Name) (params : List Name) (inside : List Held) (lists : List (List Held)) → all_args names sets lists ≡ parted (length (all_held names sets inside)) 0 (all_held names sets inside)
    → arguments (map (text_of names) (p ∷ params)) false (all_held names sets inside) ≡ option_map (all_args names sets) (counted (length (p ∷ params)) false lists)
some_params names sets p params inside lists e =
    let texts = all_args names sets lists in
    ap (by_plain names sets params inside lists (length (map (text_of names) (p ∷ params)))) (sym e)
    ∙ ap (λ n. if length texts == n then Some texts else None) (length_map (text_of names) (p ∷ params))
    ∙ ap (λ n. if n == length (p ∷ params) then Some texts else None) (length_map (all_held names sets) lists)
    ∙ plain_cases names sets params inside lists (length lists == length (p ∷ params))
    ∙ ap (λ b. option_map (all_args names sets) (if b then (if is_one_empty lists then Some [] else None) else (if length lists == length (p ∷ params) then Some lists else None)))
    (let q : false ≡ (suc (length params) == 0) = grind (arith, nat_tests) in q)

no_params_empty : (names : List Text) (sets : Sets) (lists : List (List Held)) → all_args names sets lists ≡ [] ∷ [] → Some [] ≡ option_map (all_args names sets) (if is_one_empty lists then Some [] else None)
no_params_empty names sets [] e = cc
no_params_empty names sets ([] ∷ []) e = refl
no_params_empty names sets ([] ∷ b ∷ lists) e = cc
no_params_empty names sets ((h ∷ hs) ∷ lists) e = cc

not_one_empty : (names : List Text) (sets : Sets) (lists : List (List Held)) → Several (all_args names sets lists) → is_one_empty lists ≡ false
not_one_empty names sets [] h = refl
not_one_empty names sets ([] ∷ []) h = absurd h
not_one_empty names sets ([] ∷ b ∷ lists) h = refl
not_one_empty names sets ((x ∷ hs) ∷ lists) h = refl

some_length : (args : Args) → Several args → (length args == 0) ≡ false
some_length [] h = absurd h
some_length (a ∷ args) h = grind (arith, nat_tests)

no_params : (names : List Text) (sets : Sets) (inside : List Held) (lists : List (List Held)) → all_args names sets lists ≡ parted (length (all_held names sets inside)) 0 (all_held names sets inside)
    → arguments [] false (all_held names sets inside) ≡ option_map (all_args names sets) (counted 0 false lists)
no_params names sets [] lists e = no_params_empty names sets lists e
no_params names sets (h ∷ inside) lists e =
    let ts = all_held names sets (h ∷ inside) in
    let all = parted (length ts) 0 ts in
    let s : Several all = parted_several (length ts) 0 (held names sets h) (all_held names sets inside) in
    ap (λ b. cond b (Some all) None) (some_length all s)
    ∙ ap (λ b. option_map (all_args names sets) (if b then Some [] else None)) (sym (not_one_empty names sets lists (rw e s)))

-- the arguments are those that are counted
pub counted_is : (names : List Text) (sets : Sets) (params : List Name) (variadic : Bool) (inside : List Held) (lists : List (List Held))
    → all_args names sets lists ≡ parted (if variadic then length params else length inside) 0 (all_held names sets inside)
    → arguments (map (text_of names) params) variadic (all_held names sets inside) ≡ option_map (all_args names sets) (counted (length params) variadic lists)
counted_is names sets params true inside lists e = counted_variadic names sets params inside lists e
counted_is names sets [] false inside lists e = no_params names sets inside lists (e ∙ ap (λ n. parted n 0 (all_held names sets inside)) (sym (length_map _ inside)))
counted_is names sets (p ∷ params) false inside lists e = some_params names sets p params inside lists (e ∙ ap (λ n. parted n 0 (all_held names sets inside)) (sym (length_map _ inside)))

-- what is counted are the arguments of these lists
pub counted_lists : (count : ℕ) (variadic : Bool) (lists raw : List (List Held)) → Some raw ≡ counted count variadic lists → AreArguments raw lists
counted_lists count true lists raw e = by (length lists == count + 1) (length lists == count) e where
  by : (b d : Bool) → Some raw ≡ cond b (Some lists) (cond d (Some (lists ++ [] ∷ [])) None) → AreArguments raw lists
  by true d e = inl (let q : raw ≡ lists = cc in q)
  by false true e = inr (inl (let q : raw ≡ lists ++ [] ∷ [] = cc in q))
  by false false e = absurd (let q : ⊥ = cc in q)
counted_lists count false lists raw e = by (count == 0) (length lists == count) e where
  one : (lists : List (List Held)) → Some raw ≡ (if is_one_empty lists then Some [] else None) → AreArguments raw lists
  one [] e = absurd (let q : ⊥ = cc in q)
  one ([] ∷ []) e = inr (inr ((let q : raw ≡ [] = cc in q), refl))
  one ([] ∷ b ∷ lists) e = absurd (let q : ⊥ = cc in q)
  one ((h ∷ hs) ∷ lists) e = absurd (let q : ⊥ = cc in q)

  by : (b d : Bool) → Some raw ≡ cond b (if is_one_empty lists then Some [] else None) (cond d (Some lists) None) → AreArguments raw lists
  by true d e = one lists e
  by false true e = inl (let q : raw ≡ lists = cc in q)
  by false false e = absurd (let q : ⊥ = cc in q)

-- Of what is counted, what is wanted is kept.
some_kept : (w : ℕ → Bool) (lists : List (List Held)) → option_map (all_kept w 0) (Some lists) ≡ Some (all_kept w 0 lists)
some_kept w lists = refl

one_kept : (w : ℕ → Bool) (lists : List (List Held)) → is_one_empty (all_kept w 0 lists) ≡ is_one_empty lists
one_kept w [] = refl
one_kept w (l ∷ k ∷ lists) = not_one (w 0) l (kept (w (0 + 1)) k) (all_kept w (0 + 1 + 1) lists) ∙ sym (not_two l k lists) where
  not_two : (l k : List Held) (lists : List (List Held)) → is_one_empty (l ∷ k ∷ lists) ≡ false
  not_two [] k lists = refl
  not_two (h ∷ l) k lists = refl

  not_one : (b : Bool) (l k : List Held) (lists : List (List Held)) → is_one_empty (kept b l ∷ k ∷ lists) ≡ false
  not_one true l k lists = not_two l k lists
  not_one false [] k lists = refl
  not_one false (h ∷ l) k lists = refl
one_kept w (l ∷ []) = by (w 0) l where
  by : (b : Bool) (l : List Held) → is_one_empty (kept b l ∷ []) ≡ is_one_empty (l ∷ [])
  by true l = refl
  by false [] = refl
  by false (h ∷ l) = refl

last_kept : (w : ℕ → Bool) (lists : List (List Held)) → all_kept w 0 lists ++ [] ∷ [] ≡ all_kept w 0 (lists ++ [] ∷ [])
last_kept w lists = ap (λ l. all_kept w 0 lists ++ l ∷ []) (sym (kept_none (w (length lists)))) ∙ sym (all_kept_last w lists [])

pub counted_kept : (count : ℕ) (variadic : Bool) (w : ℕ → Bool) (lists : List (List Held)) → counted count variadic (all_kept w 0 lists) ≡ option_map (all_kept w 0) (counted count variadic lists)
counted_kept count true w lists =
    ap (λ n. if n == count + 1 then Some (all_kept w 0 lists) else if n == count then Some (all_kept w 0 lists ++ [] ∷ []) else None) (length_all_kept w 0 lists)
    ∙ ap (λ l. if length lists == count + 1 then Some (all_kept w 0 lists) else if length lists == count then Some l else None) (last_kept w lists)
    ∙ by (length lists == count + 1) (length lists == count) where
      by : (b d : Bool) → cond b (Some (all_kept w 0 lists)) (cond d (Some (all_kept w 0 (lists ++ [] ∷ []))) None) ≡ option_map (all_kept w 0) (cond b (Some lists) (cond d (Some (lists ++ [] ∷ [])) None))
      by true d = refl
      by false true = refl
      by false false = refl
counted_kept count false w lists =
    ap (λ n. if count == 0 then (if is_one_empty (all_kept w 0 lists) then Some [] else None) else if n == count then Some (all_kept w 0 lists) else None) (length_all_kept w 0 lists)
    ∙ ap (λ b. if count == 0 then (if b then Some [] else None) else if length lists == count then Some (all_kept w 0 lists) else None) (one_kept w lists)
    ∙ by (count == 0) (is_one_empty lists) (length lists == count) where
      by : (b c d : Bool) → cond b (cond c (Some []) None) (cond d (Some (all_kept w 0 lists)) None) ≡ option_map (all_kept w 0) (cond b (cond c (Some []) None) (cond d (Some lists) None))
      by true true d = refl
      by true false d = refl
      by false c true = refl
      by false c false = refl

kept_of : (w : ℕ → Bool) (raw : List (List Held)) (o : Option (List (List Held))) → Some raw ≡ option_map (all_kept w 0) o → (all : List (List Held)) × (Some all ≡ o) × (raw ≡ all_kept w 0 all)
kept_of w raw None e = absurd (let q : ⊥ = cc in q)
kept_of w raw (Some all) e = (all, refl, (let q : raw ≡ all_kept w 0 all = cc in q))

none_of : (w : ℕ → Bool) (o : Option (List (List Held))) → None ≡ option_map (all_kept w 0) o → None ≡ o
none_of w None e = refl
none_of w (Some all) e = absurd (let q : ⊥ = cc in q)

-- how many are counted at most
counted_few : (count : ℕ) (variadic : Bool) (lists raw : List (List Held)) → Some raw ≡ counted count variadic lists → (length raw ≤ count + 1) × (length lists ≤ count + 1)
counted_few count true lists raw e = by (length lists == count + 1) (length lists == count) refl refl e where
  by : (b d : Bool) → (length lists == count + 1) ≡ b → (length lists == count) ≡ d → Some raw ≡ cond b (Some lists) (cond d (Some (lists ++ [] ∷ [])) None) → (length raw ≤ count + 1) × (length lists ≤ count + 1)
  by true d f g e = let q : raw ≡ lists = cc in let l = ap length q in let s : length lists ≡ count + 1 = grind (arith, nat_tests) in (omega (arith, l, s), omega (arith, s))
  by false true f g e =
      let q : raw ≡ lists ++ [] ∷ [] = cc in let l = ap length q ∙ length-append lists ([] ∷ []) in let s : length lists ≡ count = grind (arith, nat_tests) in (omega (arith, l, s), omega (arith, s))
  by false false f g e = absurd (let q : ⊥ = cc in q)
counted_few count false lists raw e = by (count == 0) (length lists == count) refl e where
  one : (lists : List (List Held)) → Some raw ≡ (if is_one_empty lists then Some [] else None) → (length raw ≤ count + 1) × (length lists ≤ count + 1)
  one [] e = absurd (let q : ⊥ = cc in q)
  one ([] ∷ []) e = let q : raw ≡ [] = cc in let l = ap length q in (omega (arith, l), omega arith)
  one ([] ∷ b ∷ lists) e = absurd (let q : ⊥ = cc in q)
  one ((h ∷ hs) ∷ lists) e = absurd (let q : ⊥ = cc in q)

  by : (b d : Bool) → (length lists == count) ≡ d → Some raw ≡ cond b (if is_one_empty lists then Some [] else None) (cond d (Some lists) None) → (length raw ≤ count + 1) × (length lists ≤ count + 1)
  by true d f e = one lists e
  by false true f e = let q : raw ≡ lists = cc in let l = ap length q in let s : length lists ≡ count = grind (arith, nat_tests) in (omega (arith, l, s), omega (arith, s))
  by false false f e = absurd (let q : ⊥ = cc in q)

module _ (names : List Text) (m : Macro) (params : List Name) (a b : Slot) (inside : List Held) (rest slots : List Slot) (lists : List (List Held)) (n : ℕ) (parts : ArePartedAt names n a b inside rest lists slots) where
  pub some_lists : 0 < length lists
  some_lists = by lists (parts.1 []) where
    some : (ls : List (List Held)) → Some_of (all_args names [] ls) → 0 < length ls
    some [] h = absurd h
    some (l ∷ ls) h = omega arith

    by : (ls : List (List Held)) → all_args names [] ls ≡ parted n 0 (all_held names [] inside) → 0 < length ls
    by ls e = some ls (rw e (parted_some (all_held names [] inside) n 0))

  by_count : n ≡ (if m.variadic then length params else length inside) → (sets : Sets) → arguments (map (text_of names) params) m.variadic (all_held names sets inside) ≡ option_map (all_args names sets) (counted (length params) m.variadic lists)
  by_count e sets = counted_is names sets params m.variadic inside lists (parts.1 sets ∙ ap (λ k. parted k 0 (all_held names sets inside)) e)

  taken_all : (w : ℕ → Bool) (raw all : List (List Held)) (more : ℕ) → n ≡ (if m.variadic then length params else length inside) → Some all ≡ counted (length params) m.variadic lists → raw ≡ all_kept w 0 all
      → length lists ≡ suc more → AreTaken names slots m params a b inside rest w raw more
  taken_all w raw all more e c k l =
      let f = counted_few (length params) m.variadic lists all c in record {
        lists = lists;
        all = all;
        slots = parts.0;
        count = l;
        all_are = counted_lists (length params) m.variadic lists all c;
        args = λ sets. by_count e sets ∙ ap (option_map (all_args names sets)) (sym c);
        raw_are = k;
        few = (f.0, omega (arith, f.1, l));
        among = parts.2;
        size = parts.3;
        places = (n, parts.4);
      }

  pub taken : (w : ℕ → Bool) (some raw : List (List Held)) (more : ℕ) → some ≡ all_kept w 0 lists → n ≡ (if m.variadic then length params else length inside) → Some raw ≡ counted (length params) m.variadic some
      → length some ≡ suc more → AreTaken names slots m params a b inside rest w raw more
  taken w some raw more s e c l =
      let k = kept_of w raw (counted (length params) m.variadic lists) (c ∙ ap (counted (length params) m.variadic) s ∙ counted_kept (length params) m.variadic w lists) in
      taken_all w raw k.0 more e k.1 k.2 (sym (length_all_kept w 0 lists) ∙ ap length (sym s) ∙ l)

  pub miscounted : (w : ℕ → Bool) (some : List (List Held)) → some ≡ all_kept w 0 lists → n ≡ (if m.variadic then length params else length inside) → None ≡ counted (length params) m.variadic some
      → (sets : Sets) → arguments (map (text_of names) params) m.variadic (all_held names sets inside) ≡ None
  miscounted w some s e c = λ sets. by_count e sets
      ∙ ap (option_map (all_args names sets)) (sym (none_of w (counted (length params) m.variadic lists) (c ∙ ap (counted (length params) m.variadic) s ∙ counted_kept (length params) m.variadic w lists)))

-- how many commas part arguments
pub commas_are : (variadic : Bool) (n count close : ℕ) (params : List Name) (inside : List Held) → n ≡ (if variadic then count else close - 2) → count ≡ length params → close ≡ 2 + length inside → n ≡ (if variadic then length params else length inside)
commas_are true n count close params inside e f g = e ∙ f
commas_are false n count close params inside e f g = e ∙ (let q : close - 2 ≡ length inside = omega arith in q)
