-- The tokens that an expansion gives come from its list, from the bodies of macros, or are made.
use Rattle.std.proofs.Common.{◌≡◌, ℕ, zero, suc, ◌+◌, ◌-◌, Bool, true, false, cond, List, [], ◌∷◌, ◌++◌, length, map, refl, subst, Some, None, Option}
use Rattle.std.specs.Prelude.{is_some, codes, ◌==◌, ◌&&◌, nat_le, not, ◌||◌, nat_lt}
use Rattle.std.specs.List.{list_any, AllByRecursion}
use Rattle.cr_base.specs.declared.token.PpKind.{PpKind}
use Rattle.cr_base.specs.declared.token.PpKind.TheVariants.{Str}
use Rattle.cr_base.specs.declared.token.Origin.{Origin}
use Rattle.cr_base.specs.declared.token.Origin.TheVariants.{Made}
use Rattle.cr_base.specs.declared.cause.Role.TheVariants.{MacroName}
use Rattle.cr_macros.specs.OneToken.{one_token, is_string}
use Rattle.cr_macros.specs.Tokens.{Text, Token, MacroText, Event, Rule, Cause, Over, Answer, Gave, Stopped, Work, after, then_do, ◌>>=◌, give, fail, note, pay, takes, both, with_name, with_names, is_mark, is_ident, has}
use Rattle.cr_macros.specs.Substitution.{Item, Stays, Spelt, Bare, Full, CommaRest, Paste, item_by, item_at, items, body_items, only_if, next_is, next_param, pasted_rest, param, is_hash, is_paste, Args, arg_at, comma_and, Part, Is, Placemarker, Joins, parts_of, or_placemarker, or_none, paste_after, filled, all_filled, string_of, in_quotes, spelling, made, paste, pasted_as, all_pasted, is_full, with_space, dropped, placed, with_token}
use Rattle.cr_macros.specs.Substitution
use Rattle.cr_macros.specs.Expansion.{Table, Use, Keep, Predefined, Object, Call, Wrong, predefined, found_after, closed_by, to_close, into_first, parted, arguments, counted_call, closed_call, call_of, use_by_params, use_of_macro, use_of_name, use_of, expanded_if, expanded, put_in, by_use, rules, expand_within, expand}
use Rattle.cr_macros.specs.Uses.{put_for, left_behind}
use Rattle.cr_expand_law.specs.Origins.{Test, MadePass, Passes, AllPass, BodiesPass, KeepsOrigins, UsesKeepOrigins}

-- work that gives what has a property, if it gives something
abbrev GivesOnly : {A : Type 0} → (A → Type 0) → Answer A → Type 0
GivesOnly P (Gave a left events) = P a
GivesOnly P (Stopped cause stopped) = Unit {0}

record Gives {A : Type 0} (P : A → Type 0) (m : Work A) : Type 0 where
  at : (left : ℕ) → GivesOnly P (m left)

only_after : {A : Type 0} (P : A → Type 0) (events : List Event) (p : Answer A) → GivesOnly P p → GivesOnly P (after events p)
only_after P events (Gave a left more) h = h
only_after P events (Stopped cause stopped) h = tt

only_then : {A B : Type 0} (P : A → Type 0) (Q : B → Type 0) (p : Answer A) (f : A → Work B) → GivesOnly P p → ((a : A) → P a → Gives Q (f a)) → GivesOnly Q (then_do p f)
only_then P Q (Gave a left events) f h k = only_after Q events (f a left) ((k a h).at left)
only_then P Q (Stopped cause stopped) f h k = tt

gives_then : {A B : Type 0} (P : A → Type 0) (Q : B → Type 0) (m : Work A) (f : A → Work B) → Gives P m → ((a : A) → P a → Gives Q (f a)) → Gives Q (m >>= f)
gives_then P Q m f h k = record { at = λ left. only_then P Q (m left) f (h.at left) k }

gives_give : {A : Type 0} (P : A → Type 0) (a : A) → P a → Gives P (give a)
gives_give P a h = record { at = λ left. h }

gives_note : {A : Type 0} (P : A → Type 0) (events : List Event) (a : A) → P a → Gives P (note events a)
gives_note P events a h = record { at = λ left. h }

gives_pay : {A : Type 0} (P : A → Type 0) (n : ℕ) (a : A) → P a → Gives P (pay n a)
gives_pay {A} P n a h = record { at = λ left. go left (nat_lt left n) } where
  go : (left : ℕ) (b : Bool) → GivesOnly P (cond b (Stopped Over []) (Gave a (left - n) (Rule ∷ [])))
  go left true = tt
  go left false = h

gives_fail : {A : Type 0} (P : A → Type 0) (cause : Cause) → Gives P (fail cause)
gives_fail P cause = record { at = λ left. tt }

gives_if : {A : Type 0} (P : A → Type 0) (b : Bool) (m n : Work A) → Gives P m → Gives P n → Gives P (cond b m n)
gives_if P true m n h k = h
gives_if P false m n h k = k

both_pass : (test : Test) (xs ys : List Token) → AllPass test xs → AllPass test ys → AllPass test (xs ++ ys)
both_pass test [] ys h k = k
both_pass test (x ∷ xs) ys h k = (h.0, both_pass test xs ys h.1 k)

abbrev ArgsPass : Test → Args → Type 0
ArgsPass test = AllByRecursion (AllPass test)

abbrev ItemPasses : Test → Item → Type 0
ItemPasses test (Stays t) = Passes test t
ItemPasses test (CommaRest c v i) = Passes test c
ItemPasses test (Spelt t i) = Unit {0}
ItemPasses test (Bare t i) = Unit {0}
ItemPasses test (Full t i) = Unit {0}
ItemPasses test Paste = Unit {0}

abbrev PartPasses : Test → Part → Type 0
PartPasses test (Is t) = Passes test t
PartPasses test Placemarker = Unit {0}
PartPasses test Joins = Unit {0}

abbrev PartsPass : Test → List Part → Type 0
PartsPass test = AllByRecursion (PartPasses test)

parts_both : (test : Test) (xs ys : List Part) → PartsPass test xs → PartsPass test ys → PartsPass test (xs ++ ys)
parts_both test [] ys h k = k
parts_both test (x ∷ xs) ys h k = (h.0, parts_both test xs ys h.1 k)

module _ (test : Test) (made_passes : MadePass test) where
  -- the items of a body
  item_passes : (t : Token) (p b : Bool) (s : Option ℕ) (rest : Option (Token × ℕ)) (o : Option ℕ) → Passes test t → ItemPasses test (item_by t p b s rest o).0
  item_passes t true b s rest o h = tt
  item_passes t false b (Some i) rest o h = tt
  item_passes t false b None (Some (v, i)) o h = h
  item_passes t false true None None (Some i) h = tt
  item_passes t false false None None (Some i) h = tt
  item_passes t false b None None None h = h

  items_pass : (m : MacroText) (ts : List Token) (beside : Bool) (skip : ℕ) → AllPass test ts → AllByRecursion (ItemPasses test) (items m beside skip ts)
  items_pass m [] beside skip h = tt
  items_pass m (t ∷ ts) beside (suc skip) h = items_pass m ts false skip h.1
  items_pass m (t ∷ ts) beside zero h = (
    item_passes t (is_paste t) (beside || next_is is_paste ts) (only_if (is_some m.params && is_hash t) (next_param m ts)) (only_if (is_mark (codes ",") t) (pasted_rest m ts)) (param m t) h.0,
    items_pass m ts (is_paste t) (item_at m beside t ts).1 h.1,
  )

  arg_passes : (args : Args) (i : ℕ) → ArgsPass test args → AllPass test (arg_at args i)
  arg_passes [] i h = tt
  arg_passes (a ∷ args) zero h = h.0
  arg_passes (a ∷ args) (suc i) h = arg_passes args i h.1

  space_passes : (space : Bool) (ts : List Token) → AllPass test ts → AllPass test (with_space space ts)
  space_passes space [] h = tt
  space_passes space (t ∷ ts) h = (h.0, h.1)

  parts_pass : (ts : List Token) → AllPass test ts → PartsPass test (parts_of ts)
  parts_pass [] h = tt
  parts_pass (t ∷ ts) h = (h.0, parts_pass ts h.1)

  placemarker_passes : (ts : List Token) → AllPass test ts → PartsPass test (or_placemarker ts)
  placemarker_passes [] h = (tt, tt)
  placemarker_passes (t ∷ ts) h = (h.0, parts_pass ts h.1)

  comma_passes : (c : Token) (rest : List Part) (arg : List Token) → Passes test c → PartsPass test rest → PartsPass test (comma_and c rest arg)
  comma_passes c rest [] h k = (tt, tt)
  comma_passes c rest (a ∷ as1) h k = (h, k)

  string_gives : (name hash : Token) (arg : List Token) → Gives (Passes test) (string_of name hash arg)
  string_gives name hash arg =
      gives_if (Passes test) (is_string (in_quotes (spelling arg))) _ _ (gives_note (Passes test) _ (made name Str (in_quotes (spelling arg)) hash.space []) (made_passes Str (in_quotes (spelling arg)))) (gives_fail (Passes test) _)

  filled_gives : (name : Token) (raw full : Args) (item : Item) → ArgsPass test raw → ArgsPass test full → ItemPasses test item → Gives (PartsPass test) (filled name raw full item)
  filled_gives name raw full (Stays t) h k i = gives_give (PartsPass test) (Is t ∷ []) (i, tt)
  filled_gives name raw full (Spelt hash n) h k i = gives_then (Passes test) (PartsPass test) (string_of name hash (arg_at raw n)) (λ s. give (Is s ∷ [])) (string_gives name hash (arg_at raw n)) (λ s p. gives_give (PartsPass test) (Is s ∷ []) (p, tt))
  filled_gives name raw full (Bare t n) h k i = gives_give (PartsPass test) (or_placemarker (with_space t.space (arg_at raw n))) (placemarker_passes (with_space t.space (arg_at raw n)) (space_passes t.space (arg_at raw n) (arg_passes raw n h)))
  filled_gives name raw full (Full t n) h k i = gives_give (PartsPass test) (parts_of (with_space t.space (arg_at full n))) (parts_pass (with_space t.space (arg_at full n)) (space_passes t.space (arg_at full n) (arg_passes full n k)))
  filled_gives name raw full (CommaRest comma t n) h k i =
      gives_give (PartsPass test) (comma_and comma (or_placemarker (with_space t.space (arg_at full n))) (arg_at raw n))
      (comma_passes comma (or_placemarker (with_space t.space (arg_at full n))) (arg_at raw n) i (placemarker_passes (with_space t.space (arg_at full n)) (space_passes t.space (arg_at full n) (arg_passes full n k))))
  filled_gives name raw full Paste h k i = gives_give (PartsPass test) (Joins ∷ []) (tt, tt)

  all_filled_gives : (name : Token) (raw full : Args) (its : List Item) → ArgsPass test raw → ArgsPass test full → AllByRecursion (ItemPasses test) its → Gives (PartsPass test) (all_filled name raw full its)
  all_filled_gives name raw full [] h k i = gives_give (PartsPass test) [] tt
  all_filled_gives name raw full (item ∷ its) h k i =
      gives_then (PartsPass test) (PartsPass test) (filled name raw full item) (λ ps. all_filled name raw full its >>= λ more. give (ps ++ more)) (filled_gives name raw full item h k i.0)
      (λ ps p. gives_then (PartsPass test) (PartsPass test) (all_filled name raw full its) (λ more. give (ps ++ more)) (all_filled_gives name raw full its h k i.1) (λ more q. gives_give (PartsPass test) (ps ++ more) (parts_both test ps more p q)))

  paste_gives : (name a b : Token) → Gives (Passes test) (paste name a b)
  paste_gives name a b = go (one_token (a.text ++ b.text)) where
    go : (o : Option PpKind) → Gives (Passes test) (pasted_as name a b o)
    go None = gives_fail (Passes test) _
    go (Some kind) = gives_note (Passes test) _ (made name kind (a.text ++ b.text) a.space (both a.hide b.hide)) (made_passes kind (a.text ++ b.text))

  abbrev LeftPasses : Option Token → Type 0
  LeftPasses None = Unit {0}
  LeftPasses (Some t) = Passes test t

  none_passes : (left : Option Token) → LeftPasses left → AllPass test (or_none left)
  none_passes None h = tt
  none_passes (Some t) h = (h, tt)

  after_gives : (name b : Token) (left : Option Token) → Passes test b → Gives (Passes test) (paste_after name b left)
  after_gives name b None h = gives_give (Passes test) b h
  after_gives name b (Some a) h = paste_gives name a b

  pasted_gives : (name : Token) (left : Option Token) (pasting : Bool) (ps : List Part) → LeftPasses left → PartsPass test ps → Gives (AllPass test) (all_pasted name left pasting ps)
  pasted_gives name left pasting [] h k = gives_give (AllPass test) (or_none left) (none_passes left h)
  pasted_gives name left pasting (Joins ∷ ps) h k = pasted_gives name left true ps h k.1
  pasted_gives name left true (Is b ∷ ps) h k =
      gives_then (Passes test) (AllPass test) (paste_after name b left) (λ c. all_pasted name (Some c) false ps) (after_gives name b left k.0) (λ c p. pasted_gives name (Some c) false ps p k.1)
  pasted_gives name left true (Placemarker ∷ ps) h k = pasted_gives name left false ps h k.1
  pasted_gives name left false (Is b ∷ ps) h k =
      gives_then (AllPass test) (AllPass test) (all_pasted name (Some b) false ps) (λ rest. give (or_none left ++ rest)) (pasted_gives name (Some b) false ps k.0 k.1)
      (λ rest p. gives_give (AllPass test) (or_none left ++ rest) (both_pass test (or_none left) rest (none_passes left h) p))
  pasted_gives name left false (Placemarker ∷ ps) h k =
      gives_then (AllPass test) (AllPass test) (all_pasted name None false ps) (λ rest. give (or_none left ++ rest)) (pasted_gives name None false ps tt k.1)
      (λ rest p. gives_give (AllPass test) (or_none left ++ rest) (both_pass test (or_none left) rest (none_passes left h) p))

  placed_passes : (name : Token) (hide : List Text) (ts : List Token) → AllPass test ts → AllPass test (placed name hide ts)
  placed_passes name hide ts h = space_passes name.space (map {A = Token} (λ t. record t { site = name.site; line = name.line; hide = with_names hide t.hide }) ts) (go ts h) where
    go : (us : List Token) → AllPass test us → AllPass test (map {A = Token} (λ t. record t { site = name.site; line = name.line; hide = with_names hide t.hide }) us)
    go [] k = tt
    go (u ∷ us) k = (k.0, go us k.1)

  subst_gives : (name : Token) (m : MacroText) (raw full : Args) (hide : List Text) → AllPass test m.body → ArgsPass test raw → ArgsPass test full → Gives (AllPass test) (Substitution.subst name m raw full hide)
  subst_gives name m raw full hide b h k =
      gives_then (AllByRecursion (ItemPasses test)) (AllPass test) (note (takes MacroName name ++ dropped (body_items m) 0 raw) (body_items m)) (λ its. all_filled name raw full its >>= λ ps. all_pasted name None false ps >>= λ ts. give (placed name hide ts))
      (gives_note (AllByRecursion (ItemPasses test)) _ (body_items m) (items_pass m m.body false 0 b))
      (λ its i. gives_then (PartsPass test) (AllPass test) (all_filled name raw full its) (λ ps. all_pasted name None false ps >>= λ ts. give (placed name hide ts)) (all_filled_gives name raw full its h k i)
      (λ ps p. gives_then (AllPass test) (AllPass test) (all_pasted name None false ps) (λ ts. give (placed name hide ts)) (pasted_gives name None false ps tt p)
      (λ ts q. gives_give (AllPass test) (placed name hide ts) (placed_passes name hide ts q))))

  -- arguments
  abbrev FoundPasses : Option (List Token × Token × List Token) → Type 0
  FoundPasses None = Unit {0}
  FoundPasses (Some p) = AllPass test p.0 × AllPass test p.2

  after_passes : (t : Token) (o : Option (List Token × Token × List Token)) → Passes test t → FoundPasses o → FoundPasses (found_after t o)
  after_passes t None h k = tt
  after_passes t (Some p) h k = ((h, k.0), k.1)

  closed_passes : (t : Token) (ts : List Token) (more : ℕ → Option (List Token × Token × List Token)) (depth : ℕ) → Passes test t → AllPass test ts → ((d : ℕ) → FoundPasses (more d)) → FoundPasses (closed_by t ts more depth)
  closed_passes t ts more zero h k f = (tt, k)
  closed_passes t ts more (suc depth) h k f = after_passes t (more depth) h (f depth)

  found_if : (b : Bool) (o p : Option (List Token × Token × List Token)) → FoundPasses o → FoundPasses p → FoundPasses (cond b o p)
  found_if true o p h k = h
  found_if false o p h k = k

  close_passes : (ts : List Token) (depth : ℕ) → AllPass test ts → FoundPasses (to_close depth ts)
  close_passes [] depth h = tt
  close_passes (t ∷ ts) depth h =
      found_if (is_mark (codes ")") t) (closed_by t ts (λ d. to_close d ts) depth) (found_after t (to_close (cond (is_mark (codes "(") t) (suc depth) depth) ts)) (closed_passes t ts (λ d. to_close d ts) depth h.0 h.1 (λ d. close_passes ts d h.1))
      (after_passes t (to_close (cond (is_mark (codes "(") t) (suc depth) depth) ts) h.0 (close_passes ts (cond (is_mark (codes "(") t) (suc depth) depth) h.1))

  args_if : (b : Bool) (x y : Args) → ArgsPass test x → ArgsPass test y → ArgsPass test (cond b x y)
  args_if true x y h k = h
  args_if false x y h k = k

  into_passes : (t : Token) (args : Args) → Passes test t → ArgsPass test args → ArgsPass test (into_first t args)
  into_passes t [] h k = ((h, tt), tt)
  into_passes t (a ∷ args) h k = ((h, k.0), k.1)

  parted_passes : (ts : List Token) (n depth : ℕ) → AllPass test ts → ArgsPass test (parted n depth ts)
  parted_passes [] n depth h = (tt, tt)
  parted_passes (t ∷ ts) n depth h =
      args_if (is_mark (codes "(") t) (into_first t (parted n (depth + 1) ts)) (cond (is_mark (codes ")") t) (into_first t (parted n (depth - 1) ts)) (cond (is_mark (codes ",") t && depth == 0 && nat_le 1 n) ([] ∷ parted (n - 1) depth ts) (into_first t (parted n depth ts))))
      (into_passes t (parted n (depth + 1) ts) h.0 (parted_passes ts n (depth + 1) h.1))
      (args_if (is_mark (codes ")") t) (into_first t (parted n (depth - 1) ts)) (cond (is_mark (codes ",") t && depth == 0 && nat_le 1 n) ([] ∷ parted (n - 1) depth ts) (into_first t (parted n depth ts)))
      (into_passes t (parted n (depth - 1) ts) h.0 (parted_passes ts n (depth - 1) h.1))
      (args_if (is_mark (codes ",") t && depth == 0 && nat_le 1 n) ([] ∷ parted (n - 1) depth ts) (into_first t (parted n depth ts)) (tt, parted_passes ts (n - 1) depth h.1) (into_passes t (parted n depth ts) h.0 (parted_passes ts n depth h.1))))

  abbrev SomePass : Option Args → Type 0
  SomePass None = Unit {0}
  SomePass (Some args) = ArgsPass test args

  some_if : (b : Bool) (x y : Option Args) → SomePass x → SomePass y → SomePass (cond b x y)
  some_if true x y h k = h
  some_if false x y h k = k

  args_both : (xs ys : Args) → ArgsPass test xs → ArgsPass test ys → ArgsPass test (xs ++ ys)
  args_both [] ys h k = k
  args_both (x ∷ xs) ys h k = (h.0, args_both xs ys h.1 k)

  arguments_pass : (names : List Text) (variadic : Bool) (inside : List Token) → AllPass test inside → SomePass (arguments names variadic inside)
  arguments_pass [] false [] h = tt
  arguments_pass [] false (t ∷ ts) h = some_if _ (Some (parted (length (t ∷ ts)) 0 (t ∷ ts))) None (parted_passes (t ∷ ts) (length (t ∷ ts)) 0 h) tt
  arguments_pass (n ∷ ns) false inside h = some_if _ (Some (parted (length inside) 0 inside)) None (parted_passes inside (length inside) 0 h) tt
  arguments_pass names true inside h =
      some_if _ (Some (parted (length names) 0 inside)) (cond (length (parted (length names) 0 inside) == length names) (Some (parted (length names) 0 inside ++ [] ∷ [])) None) (parted_passes inside (length names) 0 h)
      (some_if _ (Some (parted (length names) 0 inside ++ [] ∷ [])) None (args_both (parted (length names) 0 inside) ([] ∷ []) (parted_passes inside (length names) 0 h) (tt, tt)) tt)

  -- uses
  abbrev UsePasses : Use → Type 0
  UsePasses Keep = Unit {0}
  UsePasses (Predefined kind text) = Unit {0}
  UsePasses (Object m) = AllPass test m.body
  UsePasses (Call m args close rest) = AllPass test m.body × ArgsPass test args × AllPass test rest
  UsePasses (Wrong cause) = Unit {0}

  use_if : (b : Bool) (x y : Use) → UsePasses x → UsePasses y → UsePasses (cond b x y)
  use_if true x y h k = h
  use_if false x y h k = k

  counted_passes : (t : Token) (m : MacroText) (close : Token) (rest : List Token) (o : Option Args) → AllPass test m.body → SomePass o → AllPass test rest → UsePasses (counted_call t m close rest o)
  counted_passes t m close rest None b h k = tt
  counted_passes t m close rest (Some args) b h k = (b, h, k)

  found_passes : (t : Token) (m : MacroText) (names : List Text) (o : Option (List Token × Token × List Token)) → AllPass test m.body → FoundPasses o → UsePasses (closed_call t m names o)
  found_passes t m names None b h = tt
  found_passes t m names (Some p) b h = counted_passes t m p.1 p.2 (arguments names m.variadic p.0) b (arguments_pass names m.variadic p.0 h.0) h.1

  call_passes : (t : Token) (m : MacroText) (names : List Text) (rest : List Token) → AllPass test m.body → AllPass test rest → UsePasses (call_of t m names rest)
  call_passes t m names [] b h = tt
  call_passes t m names (u ∷ rest) b h = use_if (is_mark (codes "(") u) (closed_call t m names (to_close 0 rest)) Keep (found_passes t m names (to_close 0 rest) b (close_passes rest 0 h.1)) tt

  params_pass : (t : Token) (m : MacroText) (rest : List Token) (o : Option (List Text)) → AllPass test m.body → AllPass test rest → UsePasses (use_by_params t m rest o)
  params_pass t m rest None b h = b
  params_pass t m rest (Some names) b h = call_passes t m names rest b h

  macro_passes : (t : Token) (rest : List Token) (o : Option MacroText) → ((m : MacroText) → o ≡ Some m → AllPass test m.body) → AllPass test rest → UsePasses (use_of_macro t rest o)
  macro_passes t rest None b h = tt
  macro_passes t rest (Some m) b h = params_pass t m rest m.params (b m refl) h

  name_passes : (table : Table) (t : Token) (rest : List Token) (p : Option (PpKind × Text)) → BodiesPass test table → AllPass test rest → UsePasses (use_of_name table t rest p)
  name_passes table t rest (Some p) b h = tt
  name_passes table t rest None b h = macro_passes t rest (table.macro t.text) (b t.text) h

  use_passes : (table : Table) (t : Token) (rest : List Token) → BodiesPass test table → AllPass test rest → UsePasses (use_of table t rest)
  use_passes table t rest b h =
      use_if (not (is_ident t.kind) || has t.hide t.text) Keep (use_of_name table t rest (predefined table.file t.line t.text)) tt (name_passes table t rest (predefined table.file t.line t.text) b h)

  put_in_gives : (ts : List Token) → AllPass test ts → Gives (AllPass test) (put_in ts)
  put_in_gives ts h = gives_pay (AllPass test) (1 + length ts) ts h

  module _ (e : List Token → Work (List Token)) (ge : (ts : List Token) → AllPass test ts → Gives (AllPass test) (e ts)) where
    expanded_gives : (its : List Item) (args : Args) (i : ℕ) → ArgsPass test args → Gives (ArgsPass test) (expanded e its i args)
    expanded_gives its [] i h = gives_give (ArgsPass test) [] tt
    expanded_gives its (arg ∷ args) i h =
        gives_then (AllPass test) (ArgsPass test) (expanded_if e arg (list_any (is_full i) its)) (λ full. expanded e its (i + 1) args >>= λ fulls. give (full ∷ fulls)) (one (list_any (is_full i) its) (ge arg h.0))
        (λ full p. gives_then (ArgsPass test) (ArgsPass test) (expanded e its (i + 1) args) (λ fulls. give (full ∷ fulls)) (expanded_gives its args (i + 1) h.1) (λ fulls q. gives_give (ArgsPass test) (full ∷ fulls) (p, q))) where
          one : (b : Bool) → Gives (AllPass test) (e arg) → Gives (AllPass test) (expanded_if e arg b)
          one true g = g
          one false g = gives_give (AllPass test) [] tt

    with_call : (t : Token) (m : MacroText) (args fulls : Args) (hide : List Text) → AllPass test m.body → ArgsPass test args → ArgsPass test fulls → Gives (AllPass test) (Substitution.subst t m args fulls hide >>= put_in)
    with_call t m args fulls hide b h k = gives_then (AllPass test) (AllPass test) (Substitution.subst t m args fulls hide) put_in (subst_gives t m args fulls hide b h k) put_in_gives

    use_gives : (t : Token) (rest : List Token) (u : Use) → Passes test t → AllPass test rest → UsePasses u → Gives (AllPass test) (by_use e t rest u)
    use_gives t rest Keep h k u =
        gives_then (Passes test) (AllPass test) (note (Rule ∷ []) t) (λ t1. e rest >>= λ out. give (t1 ∷ out)) (gives_note (Passes test) (Rule ∷ []) t h)
        (λ t1 p. gives_then (AllPass test) (AllPass test) (e rest) (λ out. give (t1 ∷ out)) (ge rest k) (λ out q. gives_give (AllPass test) (t1 ∷ out) (p, q)))
    use_gives t rest (Predefined kind text) h k u =
        gives_then (Passes test) (AllPass test) (note (takes MacroName t) (made t kind text t.space [])) (λ one. pay 2 one >>= λ one1. e rest >>= λ out. give (one1 ∷ out)) (gives_note (Passes test) (takes MacroName t) (made t kind text t.space []) (made_passes kind text))
        (λ one p. gives_then (Passes test) (AllPass test) (pay 2 one) (λ one1. e rest >>= λ out. give (one1 ∷ out)) (gives_pay (Passes test) 2 one p)
        (λ one1 q. gives_then (AllPass test) (AllPass test) (e rest) (λ out. give (one1 ∷ out)) (ge rest k) (λ out x. gives_give (AllPass test) (one1 ∷ out) (q, x))))
    use_gives t rest (Object m) h k u =
        gives_then (AllPass test) (AllPass test) (Substitution.subst t m [] [] (with_name t.text t.hide)) (λ ts. put_in ts >>= λ ts1. e (ts1 ++ rest)) (subst_gives t m [] [] (with_name t.text t.hide) u tt tt)
        (λ ts p. gives_then (AllPass test) (AllPass test) (put_in ts) (λ ts1. e (ts1 ++ rest)) (put_in_gives ts p) (λ ts1 q. ge (ts1 ++ rest) (both_pass test ts1 rest q k)))
    use_gives t rest (Call m args close after) h k u =
        gives_then (ArgsPass test) (AllPass test) (expanded e (body_items m) 0 args) (λ fulls. Substitution.subst t m args fulls (with_name t.text (both t.hide close.hide)) >>= λ ts. put_in ts >>= λ ts1. e (ts1 ++ after)) (expanded_gives (body_items m) args 0 u.1)
        (λ fulls f. gives_then (AllPass test) (AllPass test) (Substitution.subst t m args fulls (with_name t.text (both t.hide close.hide))) (λ ts. put_in ts >>= λ ts1. e (ts1 ++ after)) (subst_gives t m args fulls (with_name t.text (both t.hide close.hide)) u.0 u.1 f)
        (λ ts p. gives_then (AllPass test) (AllPass test) (put_in ts) (λ ts1. e (ts1 ++ after)) (put_in_gives ts p) (λ ts1 q. ge (ts1 ++ after) (both_pass test ts1 after q u.2))))
    use_gives t rest (Wrong cause) h k u = gives_fail (AllPass test) cause

  rules_give : (table : Table) → BodiesPass test table → (e : List Token → Work (List Token)) → ((ts : List Token) → AllPass test ts → Gives (AllPass test) (e ts)) → (ts : List Token) → AllPass test ts → Gives (AllPass test) (rules table e ts)
  rules_give table b e ge [] h = gives_give (AllPass test) [] tt
  rules_give table b e ge (t ∷ rest) h = use_gives e ge t rest (use_of table t rest) h.0 h.1 (use_passes table t rest b h.1)

  within_gives : (table : Table) → BodiesPass test table → (n : ℕ) (ts : List Token) → AllPass test ts → Gives (AllPass test) (expand_within n table ts)
  within_gives table b zero ts h = gives_fail (AllPass test) Over
  within_gives table b (suc n) ts h = rules_give table b (expand_within n table) (within_gives table b n) ts h

  expand_gives : (table : Table) → BodiesPass test table → (ts : List Token) → AllPass test ts → Gives (AllPass test) (expand table ts)
  unfolding expand
  expand_gives table b ts h = record { at = λ left. (within_gives table b (suc (left + length ts)) ts h).at left }

  put_gives : (table : Table) (t : Token) (u : Use) → BodiesPass test table → Passes test t → UsePasses u → Gives (AllPass test) (put_for table t u)
  put_gives table t Keep b h u = gives_note (AllPass test) (Rule ∷ []) (t ∷ []) (h, tt)
  put_gives table t (Predefined kind text) b h u =
      gives_then (AllPass test) (AllPass test) (note (takes MacroName t) (made t kind text t.space [] ∷ [])) (pay 2) (gives_note (AllPass test) (takes MacroName t) (made t kind text t.space [] ∷ []) (made_passes kind text, tt)) (λ ts p. gives_pay (AllPass test) 2 ts p)
  put_gives table t (Object m) b h u = with_call (expand table) (expand_gives table b) t m [] [] (with_name t.text t.hide) u tt tt
  put_gives table t (Call m args close after) b h u =
      gives_then (ArgsPass test) (AllPass test) (expanded (expand table) (body_items m) 0 args) (λ fulls. Substitution.subst t m args fulls (with_name t.text (both t.hide close.hide)) >>= put_in) (expanded_gives (expand table) (expand_gives table b) (body_items m) args 0 u.1)
      (λ fulls f. with_call (expand table) (expand_gives table b) t m args fulls (with_name t.text (both t.hide close.hide)) u.0 u.1 f)
  put_gives table t (Wrong cause) b h u = gives_fail (AllPass test) cause

  behind_passes : (rest : List Token) (u : Use) → AllPass test rest → UsePasses u → AllPass test (left_behind rest u)
  behind_passes rest Keep h u = h
  behind_passes rest (Predefined kind text) h u = h
  behind_passes rest (Object m) h u = h
  behind_passes rest (Call m args close after) h u = u.2
  behind_passes rest (Wrong cause) h u = h

pub keeps_origins : KeepsOrigins
keeps_origins test table ts out left rest events made_passes b h e = subst (GivesOnly (AllPass test)) e ((expand_gives test made_passes table b ts h).at left)

pub uses_keep_origins : UsesKeepOrigins
uses_keep_origins test table t rest out left1 left2 events made_passes b h k e = (
  subst (GivesOnly (AllPass test)) e ((put_gives test made_passes table t (use_of table t rest) b h (use_passes test made_passes table t rest b k)).at left1),
  behind_passes test made_passes rest (use_of table t rest) k (use_passes test made_passes table t rest b k),
)
