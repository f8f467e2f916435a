-- Tokens that denote something are names.
use Rattle.std.proofs.Common.{◌≡◌, inl, inr, ℕ, ◌+◌, Bool, true, false, not, List, [], ◌∷◌, ◌++◌, map, Option, Some, None, refl, sym, ap, ◌∙◌, subst}
use Rattle.std.specs.Prelude.{if◌then◌else◌, bytes_eq, codes, ◌==◌}
use Rattle.std.specs.List.{flat_map, zip}
use Rattle.std.specs.Option.{option_map, option_and_then}
use Rattle.cr_base.specs.Names.{is_identifier, is_keyword, keywords}
use Rattle.cr_lex.specs.Lexing.{Token}
use Rattle.cr_small.specs.Terminals.{is_name, is_number, punctuator, terminal_of}
use Rattle.cr_small.specs.Tree.{Item, number, mention, call, Sum, Statement, local, returns, evaluates, External, Declaration, object, prototype, definition, Leaf, item_leaves, more_leaves, sum_leaves, initialiser_leaves, object_leaves, statement_leaves, closing, declaration_leaves, word_leaves, external_leaves, leaves, plain}
use Rattle.cr_small.specs.Resolution.{Bindings, Bound, bound, resolved, file_scope}
use Rattle.cr_small.specs.SmallForm.{IsWellFormed}
use Rattle.cr_small.specs.declared.terminal.Terminal.{Terminal}
use Rattle.cr_small.specs.declared.terminal.Terminal.TheVariants as terminal
use Rattle.cr_small.specs.declared.grammar.Storage.{Storage}
use Rattle.cr_small.specs.declared.grammar.Storage.TheVariants as storage
use Rattle.cr_small.specs.declared.grammar.Part.{Part}
use Rattle.cr_small.specs.declared.grammar.Part.TheVariants as part
use Rattle.cr_small.specs.declared.binder.Denotation.{Denotation}
use Rattle.cr_small.proofs.Flat.{bool_cases, both, bytes_eq-true}

punctuator-other : (w : List ℕ) → punctuator w ≡ terminal.Name → ⊥
punctuator-other [] h = cc
punctuator-other (x ∷ []) h = by (x == 40) (x == 41) (x == 123) (x == 125) (x == 59) (x == 61) (x == 43) h
  where
    by : (a b c d e f g : Bool) → (if a then terminal.Open else if b then terminal.Close else if c then terminal.Begin else if d then terminal.End else if e then terminal.Semicolon else if f then terminal.Assign else if g then terminal.Plus else terminal.Other) ≡ terminal.Name → ⊥
    by true b c d e f g h = cc
    by false true c d e f g h = cc
    by false false true d e f g h = cc
    by false false false true e f g h = cc
    by false false false false true f g h = cc
    by false false false false false true g h = cc
    by false false false false false false true h = cc
    by false false false false false false false h = cc
punctuator-other (x ∷ y ∷ w) h = cc

-- a token that is a name in the grammar is one
pub name-of-terminal : (w : List ℕ) → terminal_of w ≡ terminal.Name → is_name w ≡ true
unfolding terminal_of
name-of-terminal w h = by (bytes_eq w (codes "int")) (bytes_eq w (codes "void")) (bytes_eq w (codes "return")) (bytes_eq w (codes "static")) (bytes_eq w (codes "extern")) (is_name w) (is_number w) h
  where
    by : (a b c s t d e : Bool) → (if a then terminal.Int else if b then terminal.Void else if c then terminal.Return else if s then terminal.Static else if t then terminal.Extern else if d then terminal.Name else if e then terminal.Number else punctuator w) ≡ terminal.Name → d ≡ true
    by true b c s t d e h = let no : ⊥ = cc in absurd no
    by false true c s t d e h = let no : ⊥ = cc in absurd no
    by false false true s t d e h = let no : ⊥ = cc in absurd no
    by false false false true t d e h = let no : ⊥ = cc in absurd no
    by false false false false true d e h = let no : ⊥ = cc in absurd no
    by false false false false false true e h = refl
    by false false false false false false true h = let no : ⊥ = cc in absurd no
    by false false false false false false false h = absurd (punctuator-other w h)

int-is-none : is_name (codes "int") ≡ false
unfolding is_name is_keyword keywords
int-is-none = refl

void-is-none : is_name (codes "void") ≡ false
unfolding is_name is_keyword keywords
void-is-none = refl

return-is-none : is_name (codes "return") ≡ false
unfolding is_name is_keyword keywords
return-is-none = refl

static-is-none : is_name (codes "static") ≡ false
unfolding is_name is_keyword keywords
static-is-none = refl

extern-is-none : is_name (codes "extern") ≡ false
unfolding is_name is_keyword keywords
extern-is-none = refl

other-word : (w k : List ℕ) → is_name w ≡ true → is_name k ≡ false → bytes_eq w k ≡ false
other-word w k h g =
    elim (bool_cases (bytes_eq w k)) [
      | inl same ↦ (let no : true ≡ false = sym h ∙ ap is_name (bytes_eq-true w k same) ∙ g in let bad : ⊥ = cc in absurd bad)
      | inr other ↦ other
    ]

-- and a name is one in the grammar
pub terminal-of-name : (w : List ℕ) → is_name w ≡ true → terminal_of w ≡ terminal.Name
unfolding terminal_of
terminal-of-name w h = rw (other-word w (codes "int") h int-is-none, other-word w (codes "void") h void-is-none, other-word w (codes "return") h return-is-none, other-word w (codes "static") h static-is-none, other-word w (codes "extern") h extern-is-none, h) refl

pub ident-of-name : (w : List ℕ) → is_name w ≡ true → is_identifier w ≡ true
unfolding is_name
ident-of-name w h = (both (is_identifier w) (not (is_keyword w)) h).0

-- a leaf whose token declares or mentions is a name
abbrev pub IsNameLeaf : Part → Terminal → Type 0
IsNameLeaf part.Plain t = Unit {0}
IsNameLeaf part.Opens t = Unit {0}
IsNameLeaf part.Closes t = Unit {0}
IsNameLeaf (part.DeclaresObject word) t = t ≡ terminal.Name
IsNameLeaf (part.DeclaresFunction word) t = t ≡ terminal.Name
IsNameLeaf part.Mentions t = t ≡ terminal.Name

abbrev pub AreNameLeaves : List Leaf → Type 0
AreNameLeaves [] = Unit {0}
AreNameLeaves (l ∷ ls) = IsNameLeaf l.part l.terminal × AreNameLeaves ls

leaves-append : (xs ys : List Leaf) → AreNameLeaves xs → AreNameLeaves ys → AreNameLeaves (xs ++ ys)
leaves-append [] ys a b = b
leaves-append (x ∷ xs) ys a b = (a.0, leaves-append xs ys a.1 b)

item-names : (item : Item) → AreNameLeaves (item_leaves item)
item-names number = (tt, tt)
item-names mention = (refl, tt)
item-names call = (refl, (tt, (tt, tt)))

more-names : (items : List Item) → AreNameLeaves (more_leaves items)
more-names [] = tt
more-names (item ∷ items) = (tt, leaves-append (item_leaves item) (more_leaves items) (item-names item) (more-names items))

sum-names : (sum : Sum) → AreNameLeaves (sum_leaves sum)
sum-names sum = leaves-append (item_leaves sum.first) (more_leaves sum.more) (item-names sum.first) (more-names sum.more)

initialiser-names : (init : Option Sum) → AreNameLeaves (initialiser_leaves init)
initialiser-names None = tt
initialiser-names (Some sum) = (tt, sum-names sum)

object-names : (word : Option Storage) (init : Option Sum) → AreNameLeaves (object_leaves word init)
object-names word init = (tt, (refl, leaves-append (initialiser_leaves init) (plain terminal.Semicolon ∷ []) (initialiser-names init) (tt, tt)))

statement-names : (s : Statement) → AreNameLeaves (statement_leaves s)
statement-names (local init) = object-names None init
statement-names (returns sum) = (tt, leaves-append (sum_leaves sum) (plain terminal.Semicolon ∷ []) (sum-names sum) (tt, tt))
statement-names (evaluates sum) = leaves-append (sum_leaves sum) (plain terminal.Semicolon ∷ []) (sum-names sum) (tt, tt)

statements-names : (ss : List Statement) → AreNameLeaves (flat_map statement_leaves ss)
statements-names [] = tt
statements-names (s ∷ ss) = leaves-append (statement_leaves s) (flat_map statement_leaves ss) (statement-names s) (statements-names ss)

declaration-names : (word : Option Storage) (d : Declaration) → AreNameLeaves (declaration_leaves word d)
declaration-names word (object init) = object-names word init
declaration-names word prototype = (tt, (refl, (tt, (tt, (tt, (tt, tt))))))
declaration-names word (definition ss) = (tt, (refl, (tt, (tt, (tt, (tt, leaves-append (flat_map statement_leaves ss) (closing ∷ []) (statements-names ss) (tt, tt)))))))

word-names : (word : Option Storage) → AreNameLeaves (word_leaves word)
word-names None = tt
word-names (Some storage.Static) = (tt, tt)
word-names (Some storage.Extern) = (tt, tt)

external-names : (e : External) → AreNameLeaves (external_leaves e)
external-names e = leaves-append (word_leaves e.word) (declaration_leaves e.word e.declaration) (word-names e.word) (declaration-names e.word e.declaration)

tree-names : (tree : List External) → AreNameLeaves (leaves tree)
tree-names [] = tt
tree-names (e ∷ es) = leaves-append (external_leaves e) (leaves es) (external-names e) (tree-names es)

-- a token that denotes something is a name
abbrev pub NameIf : Token → Option Denotation → Type 0
NameIf t None = Unit {0}
NameIf t (Some d) = terminal_of t.text ≡ terminal.Name

abbrev pub NamesAt : List Token → List (Option Denotation) → Type 0
NamesAt [] ds = Unit {0}
NamesAt (t ∷ ts) [] = Unit {0}
NamesAt (t ∷ ts) (d ∷ ds) = NameIf t d × NamesAt ts ds

bound-name : (b : Bindings) (n : ℕ) (t : Token) (p : Part) (e : Bound) → IsNameLeaf p (terminal_of t.text) → bound b n t.text p ≡ Some e → NameIf t e.denotes
bound-name b n t part.Plain e l h = let same : None ≡ e.denotes = cc in subst (NameIf t) same tt
bound-name b n t part.Opens e l h = let same : None ≡ e.denotes = cc in subst (NameIf t) same tt
bound-name b n t part.Closes e l h = let same : None ≡ e.denotes = cc in subst (NameIf t) same tt
bound-name b n t (part.DeclaresObject word) e l h = any e.denotes l
  where
    any : (d : Option Denotation) → terminal_of t.text ≡ terminal.Name → NameIf t d
    any None l = tt
    any (Some d) l = l
bound-name b n t (part.DeclaresFunction word) e l h = any e.denotes l
  where
    any : (d : Option Denotation) → terminal_of t.text ≡ terminal.Name → NameIf t d
    any None l = tt
    any (Some d) l = l
bound-name b n t part.Mentions e l h = any e.denotes l
  where
    any : (d : Option Denotation) → terminal_of t.text ≡ terminal.Name → NameIf t d
    any None l = tt
    any (Some d) l = l

pub names-at : (ts : List Token) (ls : List Leaf) (n : ℕ) (b : Bindings) (ds : List (Option Denotation)) → map (λ t. terminal_of t.text) ts ≡ map (λ l. l.terminal) ls → AreNameLeaves ls
    → resolved n b (zip ts (map (λ l. l.part) ls)) ≡ Some ds → NamesAt ts ds
names-at [] ls n b ds e names h = tt
names-at (t ∷ ts) ls n b [] e names h = tt
names-at (t ∷ ts) [] n b (d ∷ ds) e names h = let no : ⊥ = cc in absurd no
names-at (t ∷ ts) (l ∷ ls) n b (d ∷ ds) e names h =
    by (bound b n t.text l.part) refl (λ c g. names-at ts ls (n + 1) c ds (let k : map (λ t. terminal_of t.text) ts ≡ map (λ l. l.terminal) ls = cc in k) names.1 g) h
  where
    leaf : IsNameLeaf l.part (terminal_of t.text)
    leaf = let k : l.terminal ≡ terminal_of t.text = cc in subst (IsNameLeaf l.part) k names.0

    tail : (x : Bound) (o : Option (List (Option Denotation))) → option_map (λ l. x.denotes ∷ l) o ≡ Some (d ∷ ds) → (x.denotes ≡ d) × (o ≡ Some ds)
    tail x None g = let bad : ⊥ = cc in absurd bad
    tail x (Some l) g = (cc, ap (λ z. Some z) (let k : l ≡ ds = cc in k))

    by : (o : Option Bound) → bound b n t.text l.part ≡ o → ((c : Bindings) → resolved (n + 1) c (zip ts (map (λ l. l.part) ls)) ≡ Some ds → NamesAt ts ds)
        → option_and_then (λ x. option_map (λ l. x.denotes ∷ l) (resolved (n + 1) x.after (zip ts (map (λ l. l.part) ls)))) o ≡ Some (d ∷ ds) → NameIf t d × NamesAt ts ds
    by None f rest g = let bad : ⊥ = cc in absurd bad
    by (Some x) f rest g =
        let k = tail x (resolved (n + 1) x.after (zip ts (map (λ l. l.part) ls))) g in
        (subst (NameIf t) k.0 (bound-name b n t l.part x leaf f), rest x.after k.1)

pub well-named : (ts : List Token) (tree : List External) (ds : List (Option Denotation)) → IsWellFormed ts tree ds → NamesAt ts ds
well-named ts tree ds w = names-at ts (leaves tree) 0 file_scope ds w.0 (tree-names tree) w.1
