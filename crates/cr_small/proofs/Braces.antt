-- In a tree no body is opened inside another, and each token does one thing.
use Rattle.std.proofs.Common.{◌≡◌, Bool, true, false, List, [], ◌∷◌, ◌++◌, map, Option, Some, None, refl, sym, ap, ◌∙◌, subst, append_assoc}
use Rattle.std.specs.List.{flat_map}
use Rattle.cr_lex.specs.Lexing.{Token, Lexed}
use Rattle.cr_small.specs.Terminals.{has_plain_names}
use Rattle.cr_small.specs.Tree.{Item, number, mention, call, Sum, Statement, local, returns, evaluates, External, Declaration, object, prototype, definition, Leaf, item_leaves, more_leaves, sum_leaves, initialiser_leaves, object_leaves, statement_leaves, closing, declaration_leaves, word_leaves, external_leaves, leaves, parts, plain, Derives}
use Rattle.cr_small.specs.Derivation.{HasParts}
use Rattle.std.specs.List.{zip}
use Rattle.cr_small.specs.Resolution.{resolved, file_scope}
use Rattle.cr_small.specs.SmallForm.{Resolves, DenotesOne}
use Rattle.cr_small.specs.Machine.{run}
use Rattle.cr_small.specs.Holding.{AreBraced}
use Rattle.cr_small.specs.declared.terminal.Terminal.TheVariants as terminal
use Rattle.cr_small.specs.declared.grammar.Storage.{Storage}
use Rattle.cr_small.specs.declared.grammar.Storage.TheVariants as storage
use Rattle.cr_small.specs.declared.grammar.Part.{Part}
use Rattle.cr_small.specs.declared.grammar.Level.TheVariants as level
use Rattle.cr_small.specs.declared.grammar.State.TheVariants as state
use Rattle.cr_small.specs.declared.binder.Denotation.{Denotation}
use Rattle.cr_small.proofs.Reading.{reads-tree}

abbrev Braced : List Leaf → Bool → Type 0
Braced ls in_body = AreBraced (map (λ l. l.part) ls) in_body

-- these leaves leave the level as it is
abbrev IsNeutral : List Leaf → Type 0
IsNeutral ls = (rest : List Leaf) (in_body : Bool) → Braced rest in_body → Braced (ls ++ rest) in_body

neutral-append : (xs ys : List Leaf) → IsNeutral xs → IsNeutral ys → IsNeutral (xs ++ ys)
neutral-append xs ys a b rest in_body h = subst (λ l. Braced l in_body) (sym (append_assoc xs ys rest)) (a (ys ++ rest) in_body (b rest in_body h))

neutral-item : (item : Item) → IsNeutral (item_leaves item)
neutral-item number rest in_body h = (tt, h)
neutral-item mention rest in_body h = (tt, h)
neutral-item call rest in_body h = (tt, (tt, (tt, h)))

neutral-more : (items : List Item) → IsNeutral (more_leaves items)
neutral-more [] rest in_body h = h
neutral-more (item ∷ items) rest in_body h = (tt, neutral-append (item_leaves item) (more_leaves items) (neutral-item item) (neutral-more items) rest in_body h)

neutral-sum : (sum : Sum) → IsNeutral (sum_leaves sum)
neutral-sum sum = neutral-append (item_leaves sum.first) (more_leaves sum.more) (neutral-item sum.first) (neutral-more sum.more)

neutral-initialiser : (init : Option Sum) → IsNeutral (initialiser_leaves init)
neutral-initialiser None rest in_body h = h
neutral-initialiser (Some sum) rest in_body h = (tt, neutral-sum sum rest in_body h)

neutral-object : (word : Option Storage) (init : Option Sum) → IsNeutral (object_leaves word init)
neutral-object word init rest in_body h =
    (tt, (tt, neutral-append (initialiser_leaves init) (plain terminal.Semicolon ∷ []) (neutral-initialiser init) (λ r i g. (tt, g)) rest in_body h))

neutral-statement : (s : Statement) → IsNeutral (statement_leaves s)
neutral-statement (local init) rest in_body h = neutral-object None init rest in_body h
neutral-statement (returns sum) rest in_body h = (tt, neutral-append (sum_leaves sum) (plain terminal.Semicolon ∷ []) (neutral-sum sum) (λ r i g. (tt, g)) rest in_body h)
neutral-statement (evaluates sum) rest in_body h = neutral-append (sum_leaves sum) (plain terminal.Semicolon ∷ []) (neutral-sum sum) (λ r i g. (tt, g)) rest in_body h

neutral-statements : (ss : List Statement) → IsNeutral (flat_map statement_leaves ss)
neutral-statements [] rest in_body h = h
neutral-statements (s ∷ ss) rest in_body h = neutral-append (statement_leaves s) (flat_map statement_leaves ss) (neutral-statement s) (neutral-statements ss) rest in_body h

neutral-word : (word : Option Storage) → IsNeutral (word_leaves word)
neutral-word None rest in_body h = h
neutral-word (Some storage.Static) rest in_body h = (tt, h)
neutral-word (Some storage.Extern) rest in_body h = (tt, h)

braced-declaration : (word : Option Storage) (d : Declaration) (rest : List Leaf) → Braced rest false → Braced (declaration_leaves word d ++ rest) false
braced-declaration word (object init) rest h = neutral-object word init rest false h
braced-declaration word prototype rest h = (tt, (tt, (tt, (tt, (tt, (tt, h))))))
braced-declaration word (definition ss) rest h =
    (tt, (tt, (tt, (tt, (tt, (refl, subst (λ l. Braced l true) (sym (append_assoc (flat_map statement_leaves ss) (closing ∷ []) rest)) (neutral-statements ss (closing ∷ rest) true (tt, h))))))))

braced-external : (e : External) (rest : List Leaf) → Braced rest false → Braced (external_leaves e ++ rest) false
braced-external e rest h =
    subst (λ l. Braced l false) (sym (append_assoc (word_leaves e.word) (declaration_leaves e.word e.declaration) rest))
    (neutral-word e.word (declaration_leaves e.word e.declaration ++ rest) false (braced-declaration e.word e.declaration rest h))

pub braced-tree : (tree : List External) → AreBraced (parts tree) false
braced-tree [] = tt
braced-tree (e ∷ es) = braced-external e (leaves es) (braced-tree es)

-- trees of the same tokens say the same of each token
pub parts_are_one : (tokens : List Token) (one two : List External) → Derives tokens one → Derives tokens two → parts one ≡ parts two
parts_are_one tokens one two d e =
    let same : Some (leaves one) ≡ Some (leaves two) = sym (reads-tree one) ∙ ap (run (state.Start level.File)) (sym d ∙ e) ∙ reads-tree two in
    ap (map (λ l. l.part)) (let f : leaves one ≡ leaves two = cc in f)

pub resolves : (text : Lexed) (does : List Part) (found : Option (List (Option Denotation))) → text.fault ≡ None → has_plain_names text.tokens ≡ true → HasParts text.tokens (Some does)
    → found ≡ resolved 0 file_scope (zip text.tokens does) → Resolves text found
resolves text does None whole names h e = λ denotes small.
    let same : does ≡ parts small.2.0 = h.2 ∙ parts_are_one text.tokens h.0 small.2.0 h.1 small.2.1.0 in
    let bad : None ≡ Some denotes = e ∙ ap (λ d. resolved 0 file_scope (zip text.tokens d)) same ∙ small.2.1.1 in
    cc
resolves text does (Some denotes) whole names h e = (whole, names, (h.0, (h.1, sym (e ∙ ap (λ d. resolved 0 file_scope (zip text.tokens d)) h.2))))

pub denotes_one : DenotesOne
denotes_one text one other a b =
    let same = parts_are_one text.tokens a.2.0 b.2.0 a.2.1.0 b.2.1.0 in
    let e : Some one ≡ Some other = sym a.2.1.1 ∙ ap (λ d. resolved 0 file_scope (zip text.tokens d)) same ∙ b.2.1.1 in
    let f : one ≡ other = cc in f
