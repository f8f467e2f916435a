-- The reader of the small form reads just the leaves of trees.
use Rattle.std.proofs.Common.{◌≡◌, ◌⊎◌, inl, inr, Bool, true, false, List, [], ◌∷◌, ◌++◌, map, Option, Some, None, refl, sym, ap, ◌∙◌, subst, append_assoc}
use Rattle.std.specs.List.{flat_map}
use Rattle.std.specs.Option.{option_map, option_and_then}
use Rattle.cr_small.specs.Tree.{Item, number, mention, call, Sum, Statement, local, returns, evaluates, External, Declaration, object, prototype, definition, Leaf, plain, name_that, item_leaves, more_leaves, sum_leaves, initialiser_leaves, object_leaves, statement_leaves, function_leaves, opening, closing, declaration_leaves, word_leaves, external_leaves, leaves}
use Rattle.cr_small.specs.Machine.{step, start, item, declarator, run, ending, opens_next}
use Rattle.cr_small.specs.declared.terminal.Terminal.{Terminal}
use Rattle.cr_small.specs.declared.terminal.Terminal.TheVariants as terminal
use Rattle.cr_small.specs.declared.grammar.Storage.{Storage}
use Rattle.cr_small.specs.declared.grammar.Storage.TheVariants as storage
use Rattle.cr_small.specs.declared.grammar.Part.TheVariants as part
use Rattle.cr_small.specs.declared.grammar.Level.{Level}
use Rattle.cr_small.specs.declared.grammar.Level.TheVariants as level
use Rattle.cr_small.specs.declared.grammar.State.{State}
use Rattle.cr_small.specs.declared.grammar.State.TheVariants as state
use Rattle.cr_small.specs.declared.grammar.Move.{Move}

abbrev pub terminals : List Leaf → List Terminal
terminals ls = map (λ l. l.terminal) ls

-- from this state the reader reads these leaves
abbrev pub Reads : State → List Leaf → Type 0
Reads s ls = run s (terminals ls) ≡ Some ls

abbrev semicolon : Leaf
semicolon = plain terminal.Semicolon

-- one more leaf in front
abbrev in_front : (leaf : Leaf) (ls : List Leaf) (o : Option (List Leaf)) → o ≡ Some ls → option_map (λ ls. leaf ∷ ls) o ≡ Some (leaf ∷ ls)
in_front leaf ls o e = ap (λ o. option_map (λ ls. leaf ∷ ls) o) e

reads-item : (l : Level) (item : Item) (tail : List Leaf) → opens_next (terminals tail) ≡ false → Reads (state.More l) tail → Reads (state.Item l) (item_leaves item ++ tail)
reads-item l number tail shut h = in_front (plain terminal.Number) tail _ h
reads-item l mention tail shut h = rw shut (in_front (name_that part.Mentions) tail _ h)
reads-item l call tail shut h =
    in_front (name_that part.Mentions) _ _ (in_front (plain terminal.Open) _ _ (in_front (plain terminal.Close) tail _ h))

more_shut : (items : List Item) (rest : List Leaf) → opens_next (terminals (more_leaves items ++ semicolon ∷ rest)) ≡ false
more_shut [] rest = refl
more_shut (item ∷ items) rest = refl

reads-more : (l : Level) (items : List Item) (rest : List Leaf) → Reads (state.Start l) rest → Reads (state.More l) (more_leaves items ++ semicolon ∷ rest)
reads-more l [] rest h = in_front semicolon rest _ h
reads-more l (item ∷ items) rest h =
    let tail = more_leaves items ++ semicolon ∷ rest in
    let e : item_leaves item ++ more_leaves items ++ semicolon ∷ rest ≡ item_leaves item ++ tail = append_assoc (item_leaves item) (more_leaves items) (semicolon ∷ rest) in
    subst (λ t. Reads (state.More l) (plain terminal.Plus ∷ t)) (sym e) (in_front (plain terminal.Plus) _ _ (reads-item l item tail (more_shut items rest) (reads-more l items rest h)))

reads-sum : (l : Level) (sum : Sum) (rest : List Leaf) → Reads (state.Start l) rest → Reads (state.Item l) (sum_leaves sum ++ semicolon ∷ rest)
reads-sum l sum rest h =
    subst (Reads (state.Item l)) (sym (append_assoc (item_leaves sum.first) (more_leaves sum.more) (semicolon ∷ rest)))
    (reads-item l sum.first (more_leaves sum.more ++ semicolon ∷ rest) (more_shut sum.more rest) (reads-more l sum.more rest h))

reads-initialiser : (l : Level) (init : Option Sum) (rest : List Leaf) → Reads (state.Start l) rest → Reads (state.Initialiser l) (initialiser_leaves init ++ semicolon ∷ rest)
reads-initialiser l None rest h = in_front semicolon rest _ h
reads-initialiser l (Some sum) rest h = in_front (plain terminal.Assign) _ _ (reads-sum l sum rest h)

initialiser_shut : (init : Option Sum) (rest : List Leaf) → opens_next (terminals (initialiser_leaves init ++ semicolon ∷ rest)) ≡ false
initialiser_shut None rest = refl
initialiser_shut (Some sum) rest = refl

-- a name that is declared as an object, and what is behind it
reads-declarator : (l : Level) (word : Option Storage) (init : Option Sum) (rest : List Leaf) → Reads (state.Start l) rest
    → Reads (state.Declarator l word) (name_that (part.DeclaresObject word) ∷ (initialiser_leaves init ++ semicolon ∷ []) ++ rest)
reads-declarator l word init rest h = by l (subst (Reads (state.Initialiser l)) (sym (append_assoc (initialiser_leaves init) (semicolon ∷ []) rest)) (reads-initialiser l init rest h))
  where
    by : (l : Level) → Reads (state.Initialiser l) ((initialiser_leaves init ++ semicolon ∷ []) ++ rest) → Reads (state.Declarator l word) (name_that (part.DeclaresObject word) ∷ (initialiser_leaves init ++ semicolon ∷ []) ++ rest)
    by level.File g =
        let shut : opens_next (terminals ((initialiser_leaves init ++ semicolon ∷ []) ++ rest)) ≡ false = rw (append_assoc (initialiser_leaves init) (semicolon ∷ []) rest) (initialiser_shut init rest) in
        rw shut (in_front (name_that (part.DeclaresObject word)) _ _ g)
    by level.Block g = in_front (name_that (part.DeclaresObject word)) _ _ g

reads-local : (init : Option Sum) (rest : List Leaf) → Reads (state.Start level.Block) rest → Reads (state.Start level.Block) (object_leaves None init ++ rest)
reads-local init rest h = in_front (plain terminal.Int) _ _ (reads-declarator level.Block None init rest h)

reads-evaluates : (sum : Sum) (tail : List Leaf) → Reads (state.Item level.Block) (item_leaves sum.first ++ tail) → Reads (state.Start level.Block) (item_leaves sum.first ++ tail)
reads-evaluates sum tail h = by sum.first h
  where
    by : (item : Item) → Reads (state.Item level.Block) (item_leaves item ++ tail) → Reads (state.Start level.Block) (item_leaves item ++ tail)
    by number h = h
    by mention h = h
    by call h = h

reads-statement : (s : Statement) (rest : List Leaf) → Reads (state.Start level.Block) rest → Reads (state.Start level.Block) (statement_leaves s ++ rest)
reads-statement (local init) rest h = reads-local init rest h
reads-statement (returns sum) rest h =
    subst (λ t. Reads (state.Start level.Block) (plain terminal.Return ∷ t)) (sym (append_assoc (sum_leaves sum) (semicolon ∷ []) rest))
    (in_front (plain terminal.Return) _ _ (reads-sum level.Block sum rest h))
reads-statement (evaluates sum) rest h =
    let e : sum_leaves sum ++ semicolon ∷ [] ++ rest ≡ item_leaves sum.first ++ (more_leaves sum.more ++ semicolon ∷ rest) =
    append_assoc (sum_leaves sum) (semicolon ∷ []) rest ∙ append_assoc (item_leaves sum.first) (more_leaves sum.more) (semicolon ∷ rest) in
    subst (Reads (state.Start level.Block)) (sym e)
    (reads-evaluates sum _ (subst (Reads (state.Item level.Block)) (append_assoc (item_leaves sum.first) (more_leaves sum.more) (semicolon ∷ rest)) (reads-sum level.Block sum rest h)))

reads-statements : (ss : List Statement) (rest : List Leaf) → Reads (state.Start level.File) rest → Reads (state.Start level.Block) (flat_map statement_leaves ss ++ closing ∷ rest)
reads-statements [] rest h = in_front closing rest _ h
reads-statements (s ∷ ss) rest h =
    subst (Reads (state.Start level.Block)) (sym (append_assoc (statement_leaves s) (flat_map statement_leaves ss) (closing ∷ rest)))
    (reads-statement s (flat_map statement_leaves ss ++ closing ∷ rest) (reads-statements ss rest h))

-- the storage word and `int` in front of a name
reads-word : (word : Option Storage) (ls : List Leaf) → Reads (state.Declarator level.File word) ls → Reads (state.Start level.File) (word_leaves word ++ plain terminal.Int ∷ ls)
reads-word None ls h = in_front (plain terminal.Int) ls _ h
reads-word (Some storage.Static) ls h = in_front (plain terminal.Static) _ _ (in_front (plain terminal.Int) ls _ h)
reads-word (Some storage.Extern) ls h = in_front (plain terminal.Extern) _ _ (in_front (plain terminal.Int) ls _ h)

reads-function : (word : Option Storage) (rest : List Leaf) → Reads state.Body rest
    → Reads (state.Declarator level.File word) (name_that (part.DeclaresFunction word) ∷ plain terminal.Open ∷ plain terminal.Void ∷ plain terminal.Close ∷ rest)
reads-function word rest h =
    in_front (name_that (part.DeclaresFunction word)) _ _ (in_front (plain terminal.Open) _ _ (in_front (plain terminal.Void) _ _ (in_front (plain terminal.Close) rest _ h)))

reads-declaration : (word : Option Storage) (d : Declaration) (rest : List Leaf) → Reads (state.Start level.File) rest → Reads (state.Start level.File) (word_leaves word ++ (declaration_leaves word d ++ rest))
reads-declaration word (object init) rest h = reads-word word _ (reads-declarator level.File word init rest h)
reads-declaration word prototype rest h = reads-word word _ (reads-function word (semicolon ∷ rest) (in_front semicolon rest _ h))
reads-declaration word (definition ss) rest h =
    let e : (flat_map statement_leaves ss ++ closing ∷ []) ++ rest ≡ flat_map statement_leaves ss ++ closing ∷ rest = append_assoc (flat_map statement_leaves ss) (closing ∷ []) rest in
    subst (λ t. Reads (state.Start level.File) (word_leaves word ++ (function_leaves word ++ opening ∷ t))) (sym e) (reads-word word _ (reads-function word _ (in_front opening _ _ (reads-statements ss rest h))))

reads-external : (e : External) (rest : List Leaf) → Reads (state.Start level.File) rest → Reads (state.Start level.File) (external_leaves e ++ rest)
reads-external e rest h =
    subst (Reads (state.Start level.File)) (sym (append_assoc (word_leaves e.word) (declaration_leaves e.word e.declaration) rest)) (reads-declaration e.word e.declaration rest h)

-- the reader reads the leaves of each tree
pub reads-tree : (tree : List External) → Reads (state.Start level.File) (leaves tree)
reads-tree [] = refl
reads-tree (e ∷ es) = reads-external e (leaves es) (reads-tree es)

-- leaves from the start of an external declaration or of a statement on
abbrev Begun : Level → List Leaf → Type 0
Begun level.File ls = (tree : List External) × (ls ≡ leaves tree)
Begun level.Block ls = (ss : List Statement) × (tree : List External) × (ls ≡ flat_map statement_leaves ss ++ closing ∷ leaves tree)

abbrev BehindItem : Level → List Leaf → Type 0
BehindItem l ls = (items : List Item) × (rest : List Leaf) × (ls ≡ more_leaves items ++ semicolon ∷ rest) × Begun l rest

abbrev BehindHead : List Leaf → Type 0
BehindHead ls = ((rest : List Leaf) × (ls ≡ semicolon ∷ rest) × Begun level.File rest) ⊎ ((rest : List Leaf) × (ls ≡ opening ∷ rest) × Begun level.Block rest)

abbrev BehindName : Level → List Leaf → Type 0
BehindName l ls = (init : Option Sum) × (rest : List Leaf) × (ls ≡ initialiser_leaves init ++ semicolon ∷ rest) × Begun l rest

abbrev AtName : Level → Option Storage → List Leaf → Type 0
AtName level.File word ls =
    ((rest : List Leaf) × (ls ≡ name_that (part.DeclaresObject word) ∷ rest) × BehindName level.File rest)
    ⊎ ((rest : List Leaf) × (ls ≡ name_that (part.DeclaresFunction word) ∷ plain terminal.Open ∷ plain terminal.Void ∷ plain terminal.Close ∷ rest) × BehindHead rest)
AtName level.Block word ls = (rest : List Leaf) × (ls ≡ name_that (part.DeclaresObject word) ∷ rest) × BehindName level.Block rest

abbrev AtItem : Level → List Leaf → Type 0
AtItem l ls = (item : Item) × (rest : List Leaf) × (ls ≡ item_leaves item ++ rest) × BehindItem l rest

-- what stands from a state on
abbrev Remains : State → List Leaf → Type 0
Remains (state.Start l) ls = Begun l ls
Remains (state.Stored word) ls = (rest : List Leaf) × (ls ≡ plain terminal.Int ∷ rest) × AtName level.File (Some word) rest
Remains (state.Declarator l word) ls = AtName l word ls
Remains (state.Initialiser l) ls = BehindName l ls
Remains (state.Item l) ls = AtItem l ls
Remains (state.CallOpen l) ls = (rest : List Leaf) × (ls ≡ plain terminal.Open ∷ plain terminal.Close ∷ rest) × BehindItem l rest
Remains (state.CallClose l) ls = (rest : List Leaf) × (ls ≡ plain terminal.Close ∷ rest) × BehindItem l rest
Remains (state.More l) ls = BehindItem l ls
Remains state.ParametersOpen ls = (rest : List Leaf) × (ls ≡ plain terminal.Open ∷ plain terminal.Void ∷ plain terminal.Close ∷ rest) × BehindHead rest
Remains state.ParametersVoid ls = (rest : List Leaf) × (ls ≡ plain terminal.Void ∷ plain terminal.Close ∷ rest) × BehindHead rest
Remains state.ParametersClose ls = (rest : List Leaf) × (ls ≡ plain terminal.Close ∷ rest) × BehindHead rest
Remains state.Body ls = BehindHead ls

abbrev Follows : State → Terminal → Option Move → Type 0
Follows s t None = Unit {0}
Follows s t (Some m) = (ls : List Leaf) → Remains m.next ls → Remains s ((record { terminal = t; part = m.part }) ∷ ls)

begun-external : (e : External) (rest : List Leaf) → Begun level.File rest → Begun level.File (external_leaves e ++ rest)
begun-external e rest b = (e ∷ b.0, ap (λ r. external_leaves e ++ r) b.1)

begun-statement : (s : Statement) (rest : List Leaf) → Begun level.Block rest → Begun level.Block (statement_leaves s ++ rest)
begun-statement s rest b =
    (s ∷ b.0, b.1, ap (λ r. statement_leaves s ++ r) b.2 ∙ sym (append_assoc (statement_leaves s) (flat_map statement_leaves b.0) (closing ∷ leaves b.1)))

-- an item and what is behind it are a sum, its semicolon and the rest
sum-rest : (item : Item) (items : List Item) (rest : List Leaf) → item_leaves item ++ (more_leaves items ++ semicolon ∷ rest) ≡ sum_leaves (record { first = item; more = items }) ++ semicolon ∷ [] ++ rest
sum-rest item items rest =
    sym (append_assoc (sum_leaves (record { first = item; more = items })) (semicolon ∷ []) rest ∙ append_assoc (item_leaves item) (more_leaves items) (semicolon ∷ rest))

begun-evaluates : (ls : List Leaf) → AtItem level.Block ls → Begun level.Block ls
begun-evaluates ls a =
    let e : ls ≡ sum_leaves (record { first = a.0; more = a.3.0 }) ++ semicolon ∷ [] ++ a.3.1 = a.2 ∙ ap (λ r. item_leaves a.0 ++ r) a.3.2 ∙ sum-rest a.0 a.3.0 a.3.1 in
    subst (Begun level.Block) (sym e) (begun-statement (evaluates (record { first = a.0; more = a.3.0 })) a.3.1 a.3.3)

begun-returns : (ls : List Leaf) → AtItem level.Block ls → Begun level.Block (plain terminal.Return ∷ ls)
begun-returns ls a =
    let e : ls ≡ sum_leaves (record { first = a.0; more = a.3.0 }) ++ semicolon ∷ [] ++ a.3.1 = a.2 ∙ ap (λ r. item_leaves a.0 ++ r) a.3.2 ∙ sum-rest a.0 a.3.0 a.3.1 in
    subst (λ r. Begun level.Block (plain terminal.Return ∷ r)) (sym e) (begun-statement (returns (record { first = a.0; more = a.3.0 })) a.3.1 a.3.3)

-- an object's name and what is behind it
object-rest : (l : Level) (word : Option Storage) (ls rest : List Leaf) (b : BehindName l rest) → ls ≡ name_that (part.DeclaresObject word) ∷ rest → plain terminal.Int ∷ ls ≡ object_leaves word b.0 ++ b.1
object-rest l word ls rest b e =
    ap (λ r. plain terminal.Int ∷ r) (e ∙ ap (λ r. name_that (part.DeclaresObject word) ∷ r) (b.2 ∙ sym (append_assoc (initialiser_leaves b.0) (semicolon ∷ []) b.1)))

begun-local : (ls : List Leaf) → AtName level.Block None ls → Begun level.Block (plain terminal.Int ∷ ls)
begun-local ls a = subst (Begun level.Block) (sym (object-rest level.Block None ls a.0 a.2 a.1)) (begun-statement (local a.2.0) a.2.1 a.2.3)

begun-declaration : (word : Option Storage) (d : Declaration) (rest : List Leaf) → Begun level.File rest → Begun level.File (word_leaves word ++ (declaration_leaves word d ++ rest))
begun-declaration word d rest b = subst (Begun level.File) (append_assoc (word_leaves word) (declaration_leaves word d) rest) (begun-external (record { word = word; declaration = d }) rest b)

begun-head : (word : Option Storage) (rest : List Leaf) → BehindHead rest → Begun level.File (word_leaves word ++ (function_leaves word ++ rest))
begun-head word rest (inl b) = subst (λ r. Begun level.File (word_leaves word ++ (function_leaves word ++ r))) (sym b.1) (begun-declaration word prototype b.0 b.2)
begun-head word rest (inr b) =
    let e : rest ≡ opening ∷ ((flat_map statement_leaves b.2.0 ++ closing ∷ []) ++ leaves b.2.1) =
    b.1 ∙ ap (λ r. opening ∷ r) (b.2.2 ∙ sym (append_assoc (flat_map statement_leaves b.2.0) (closing ∷ []) (leaves b.2.1))) in
    subst (λ r. Begun level.File (word_leaves word ++ (function_leaves word ++ r))) (sym e) (begun-declaration word (definition b.2.0) (leaves b.2.1) (b.2.1, refl))

begun-name : (word : Option Storage) (ls : List Leaf) → AtName level.File word ls → Begun level.File (word_leaves word ++ plain terminal.Int ∷ ls)
begun-name word ls (inl a) = subst (λ r. Begun level.File (word_leaves word ++ r)) (sym (object-rest level.File word ls a.0 a.2 a.1)) (begun-declaration word (object a.2.0) a.2.1 a.2.3)
begun-name word ls (inr a) = subst (λ r. Begun level.File (word_leaves word ++ plain terminal.Int ∷ r)) (sym a.1) (begun-head word a.0 a.2)

begun-word : (word : Storage) (ls : List Leaf) → Remains (state.Stored word) ls → Begun level.File (word_leaves (Some word) ++ ls)
begun-word word ls r = subst (λ x. Begun level.File (word_leaves (Some word) ++ x)) (sym r.1) (begun-name (Some word) r.0 r.2)

item-back : (l : Level) (t : Terminal) (calls : Bool) → Follows (state.Item l) t (item l t calls)
item-back l terminal.Number calls = λ ls r. (number, ls, refl, r)
item-back l terminal.Name true = λ ls r. (call, r.0, ap (λ x. name_that part.Mentions ∷ x) r.1, r.2)
item-back l terminal.Name false = λ ls r. (mention, ls, refl, r)
item-back l _ calls = tt

evaluates-back : (t : Terminal) (o : Option Move) → Follows (state.Item level.Block) t o → Follows (state.Start level.Block) t o
evaluates-back t None h = tt
evaluates-back t (Some m) h = λ ls r. begun-evaluates _ (h ls r)

start-back : (l : Level) (t : Terminal) (calls : Bool) → Follows (state.Start l) t (start l t calls)
start-back level.File terminal.Static calls = λ ls r. begun-word storage.Static ls r
start-back level.File terminal.Extern calls = λ ls r. begun-word storage.Extern ls r
start-back level.File terminal.Int calls = λ ls r. begun-name None ls r
start-back level.File _ calls = tt
start-back level.Block terminal.Int calls = λ ls r. begun-local ls r
start-back level.Block terminal.Return calls = λ ls r. begun-returns ls r
start-back level.Block terminal.End calls = λ ls r. ([], r.0, ap (λ x. closing ∷ x) r.1)
start-back level.Block t calls = evaluates-back t (item level.Block t calls) (item-back level.Block t calls)

declarator-back : (l : Level) (word : Option Storage) (calls : Bool) → Follows (state.Declarator l word) terminal.Name (Some (declarator l word calls))
declarator-back level.File word true = λ ls r. inr (r.0, ap (λ x. name_that (part.DeclaresFunction word) ∷ x) r.1, r.2)
declarator-back level.File word false = λ ls r. inl (ls, refl, r)
declarator-back level.Block word calls = λ ls r. (ls, refl, r)

-- what stands behind a move stands, with its leaf, before it
back : (s : State) (t : Terminal) (calls : Bool) → Follows s t (step s t calls)
back (state.Start l) t calls = start-back l t calls
back (state.Stored word) terminal.Int calls = λ ls r. (ls, refl, r)
back (state.Declarator l word) terminal.Name calls = declarator-back l word calls
back (state.Initialiser l) terminal.Assign calls = λ ls r. (Some (record { first = r.0; more = r.3.0 }), r.3.1, ap (λ x. plain terminal.Assign ∷ x) (r.2 ∙ ap (λ x. item_leaves r.0 ++ x) r.3.2 ∙ sym (append_assoc (item_leaves r.0) (more_leaves r.3.0) (semicolon ∷ r.3.1))), r.3.3)
back (state.Initialiser l) terminal.Semicolon calls = λ ls r. (None, ls, refl, r)
back (state.Item l) t calls = item-back l t calls
back (state.CallOpen l) terminal.Open calls = λ ls r. (r.0, ap (λ x. plain terminal.Open ∷ x) r.1, r.2)
back (state.CallClose l) terminal.Close calls = λ ls r. (ls, refl, r)
back (state.More l) terminal.Plus calls = λ ls r. (r.0 ∷ r.3.0, r.3.1, ap (λ x. plain terminal.Plus ∷ x) (r.2 ∙ ap (λ x. item_leaves r.0 ++ x) r.3.2 ∙ sym (append_assoc (item_leaves r.0) (more_leaves r.3.0) (semicolon ∷ r.3.1))), r.3.3)
back (state.More l) terminal.Semicolon calls = λ ls r. ([], ls, refl, r)
back state.ParametersOpen terminal.Open calls = λ ls r. (r.0, ap (λ x. plain terminal.Open ∷ x) r.1, r.2)
back state.ParametersVoid terminal.Void calls = λ ls r. (r.0, ap (λ x. plain terminal.Void ∷ x) r.1, r.2)
back state.ParametersClose terminal.Close calls = λ ls r. (ls, refl, r)
back state.Body terminal.Semicolon calls = λ ls r. inl (ls, refl, r)
back state.Body terminal.Begin calls = λ ls r. inr (ls, refl, r)
back _ _ calls = tt

ended : (s : State) (ls : List Leaf) → ending s ≡ Some ls → (terminals ls ≡ []) × Remains s ls
ended (state.Start level.File) ls e = let same : [] ≡ ls = cc in subst (λ x. (terminals x ≡ []) × Remains (state.Start level.File) x) same (refl, ([], refl))
ended _ ls e = let no : ⊥ = cc in absurd no

-- The reader reads leaves of its terminals alone, and those that can stand there.
pub sound : (ts : List Terminal) (s : State) (ls : List Leaf) → run s ts ≡ Some ls → (terminals ls ≡ ts) × Remains s ls
sound [] s ls e = ended s ls e
sound (t ∷ ts) s ls e = by (step s t (opens_next ts)) (back s t (opens_next ts)) (λ m ls e. sound ts m ls e) e
  where
    behind : (m : Move) (o : Option (List Leaf)) → ((ls : List Leaf) → o ≡ Some ls → (terminals ls ≡ ts) × Remains m.next ls)
        → ((ls : List Leaf) → Remains m.next ls → Remains s ((record { terminal = t; part = m.part }) ∷ ls))
        → option_map (λ ls. (record { terminal = t; part = m.part }) ∷ ls) o ≡ Some ls → (terminals ls ≡ t ∷ ts) × Remains s ls
    behind m None more follows e = let no : ⊥ = cc in absurd no
    behind m (Some rest) more follows e =
        let same : (record { terminal = t; part = m.part }) ∷ rest ≡ ls = cc in
        let h = more rest refl in
        subst (λ x. (terminals x ≡ t ∷ ts) × Remains s x) same (ap (λ r. t ∷ r) h.0, follows rest h.1)

    by : (o : Option Move) → Follows s t o → ((m : State) (ls : List Leaf) → run m ts ≡ Some ls → (terminals ls ≡ ts) × Remains m ls)
        → option_and_then (λ m. option_map (λ ls. (record { terminal = t; part = m.part }) ∷ ls) (run m.next ts)) o ≡ Some ls → (terminals ls ≡ t ∷ ts) × Remains s ls
    by None follows more e = let no : ⊥ = cc in absurd no
    by (Some m) follows more e = behind m (run m.next ts) (more m.next) follows e
