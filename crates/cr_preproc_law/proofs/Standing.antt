-- A final token stands, with its text, in the file of its place.
use Rattle.std.proofs.Common.{◌≡◌, ◌⊎◌, inl, inr, ℕ, zero, suc, ◌<◌, Bool, true, false, cond, List, [], ◌∷◌, length, refl, ap, sym, ◌∙◌, subst, arith, Option, Some, None}
use Rattle.std.specs.Prelude.{◌==◌, ◌&&◌, ◌||◌, not, bytes_eq, codes, slice_get, Contains}
use Rattle.std.specs.List.{list_any, AllByRecursion}
use Rattle.std.proofs.lemmas.Bool.{eqb-true, eq-eqb}
use Rattle.std.proofs.lemmas.Slice.Eq.{bytes_eq-Decides}
use Rattle.cr_base.specs.declared.token.PpKind.{PpKind}
use Rattle.cr_base.specs.declared.token.Place.{Place}
use Rattle.cr_base.specs.declared.token.Origin.{Origin}
use Rattle.cr_base.specs.declared.token.Origin.TheVariants.{At, Made}
use Rattle.cr_base.specs.declared.unit.Unit.{Unit}
use Rattle.cr_lex.specs.Lexing as lexing
use Rattle.cr_lex.specs.Lexing.{lexed}
use Rattle.cr_snapshot.specs.declared.known.KnownFile.{KnownFile}
use Rattle.cr_snapshot.specs.Files.{Finding, Present, Absent, Unknown, finding, NumbersItsPath}
use Rattle.cr_macros.specs.Tokens.{Text, Token, is_ident}
use Rattle.cr_macros.specs.Substitution.{is_hash}
use Rattle.cr_phase4.specs.declared.conditionals.Word.{Word}
use Rattle.cr_phase4.specs.Tasks.{Event, State, Goes, Done}
use Rattle.cr_phase4.specs.Lines.{file_of, token_in, place_in, begins_line, into_line, lines_of, Line, Plain, Conditional, Directive, Empty, Wordless, word_of, by_word, behind_hash, line_of}
use Rattle.cr_phase4.specs.Search.{world_of}
use Rattle.cr_phase4.specs.Preprocessing.{preprocessed}
use Rattle.cr_phase4.specs.PreprocessingRun.{final_tokens}
use Rattle.cr_expand_law.specs.Origins.{Test, Passes, AllPass}
use Rattle.cr_preproc_law.specs.Finals.{LinePasses, FilePasses, FoundPasses, FinalsPass}
use Rattle.cr_preproc_law.specs.Standing.{StandsIn, FinalsStand}

-- ---- lists and tests

pub later : {A : Type 0} (y x : A) (xs : List A) → Contains xs x → Contains (y ∷ xs) x
later y x xs c = (suc c.0, omega (arith, c.1), c.2)

pub head_or_later : {A : Type 0} (y x : A) (xs : List A) → Contains (y ∷ xs) x → (y ≡ x) ⊎ Contains xs x
head_or_later y x xs (zero, w, e) = inl e
head_or_later y x xs (suc n, w, e) = inr (n, omega (arith, w), e)

each : {A : Type 0} (P : A → Type 0) (xs : List A) → ((x : A) → Contains xs x → P x) → AllByRecursion P xs
each P [] h = tt
each P (x ∷ xs) h = (h x (0, omega arith, refl), each P xs (λ y c. h y (later x y xs c)))

one_of : {A : Type 0} (P : A → Type 0) (xs : List A) (x : A) → AllByRecursion P xs → Contains xs x → P x
one_of P [] x h c = absurd (omega (arith, c.1))
one_of P (y ∷ xs) x h c = elim (head_or_later y x xs c) [ inl e ↦ subst P e h.0 | inr d ↦ one_of P xs x h.1 d ]

and_parts : (a b : Bool) → (a && b) ≡ true → (a ≡ true) × (b ≡ true)
and_parts true true h = (refl, refl)
and_parts true false h = cc
and_parts false b h = cc

or_right : (a b : Bool) → a ≡ false → (a || b) ≡ true → b ≡ true
or_right true b e h = cc
or_right false b e h = h

any_there : {A : Type 0} (p : A → Bool) (xs : List A) (x : A) → Contains xs x → p x ≡ true → list_any p xs ≡ true
any_there p [] x c h = absurd (omega (arith, c.1))
any_there p (y ∷ xs) x c h = by (p y) refl (head_or_later y x xs c) (λ d. any_there p xs x d h)
  where
    by : (b : Bool) → p y ≡ b → (y ≡ x) ⊎ Contains xs x → (Contains xs x → list_any p xs ≡ true) → (b || list_any p xs) ≡ true
    by true q o more = refl
    by false q (inl e) more = let no : true ≡ false = sym h ∙ ap p (sym e) ∙ q in cc
    by false q (inr d) more = more d

there_any : {A : Type 0} (p : A → Bool) (xs : List A) → list_any p xs ≡ true → (x : A) × Contains xs x × (p x ≡ true)
there_any p [] h = cc
there_any {A = A} p (y ∷ xs) h = by (p y) refl h (λ k. there_any p xs k)
  where
    by : (b : Bool) → p y ≡ b → (b || list_any p xs) ≡ true → (list_any p xs ≡ true → (x : A) × Contains xs x × (p x ≡ true)) → (x : A) × Contains (y ∷ xs) x × (p x ≡ true)
    by true q h more = (y, (0, omega arith, refl), q)
    by false q h more = let m = more h in (m.0, later y m.0 xs m.1, m.2)

-- ---- the test

abbrev path_of_slot : Option KnownFile → Text
path_of_slot None = []
path_of_slot (Some file) = file.path

abbrev path_at : List KnownFile → Place → Text
path_at files p = path_of_slot (slice_get files p.path.0)

abbrev alike : Bool → Bool → Bool
alike true b = b
alike false b = not b

alike_itself : (b : Bool) → alike b b ≡ true
alike_itself true = refl
alike_itself false = refl

alike_one : (a b : Bool) → alike a b ≡ true → b ≡ a
alike_one true b h = h
alike_one false true h = cc
alike_one false false h = refl

-- the token of a file is that of an offset, with this text
abbrev is_such : ℕ → PpKind → Text → lexing.Token → Bool
is_such offset kind text t = t.at == offset && (bytes_eq t.text text && alike (is_ident kind) (is_ident t.kind))

abbrev stands_in : Place → PpKind → Text → Finding → Bool
stands_in p kind text (Present n bytes) = n == p.path.0 && list_any (is_such p.offset kind text) (lexed bytes).tokens
stands_in p kind text Absent = false
stands_in p kind text Unknown = false

abbrev is_here : Place → Place → Bool
is_here p q = q.path.0 == p.path.0 && q.offset == p.offset

abbrev there : List KnownFile → Place → Test
there files p kind text Made = true
there files p kind text (At q) = not (is_here p q) || stands_in p kind text (finding (path_at files p) files)

module _ (test : Test) (n : ℕ) where
  abbrev TokenPasses : lexing.Token → Type 0
  TokenPasses t = Passes test (token_in n t)

  lines_pass : (ts : List lexing.Token) → AllByRecursion TokenPasses ts → AllByRecursion (AllPass test) (lines_of n ts)
  lines_pass [] h = tt
  lines_pass (t ∷ ts) h = by (begins_line ts) (lines_of n ts) (lines_pass ts h.1)
    where
      by : (b : Bool) (ls : List (List Token)) → AllByRecursion (AllPass test) ls → AllByRecursion (AllPass test) (cond b ((token_in n t ∷ []) ∷ ls) (into_line (token_in n t) ls))
      by true ls k = ((h.0, tt), k)
      by false [] k = ((h.0, tt), tt)
      by false (l ∷ ls) k = ((h.0, k.0), k.1)

  word_passes : (hash : Place) (line : List Token) (word : Token) (rest : List Token) (o : Option Word) → AllPass test rest → LinePasses test line (by_word hash word rest o)
  word_passes hash line word rest None h = λ e. h
  word_passes hash line word rest (Some w) h = tt

  hash_passes : (hash : Place) (line rest : List Token) → AllPass test rest → LinePasses test line (behind_hash hash rest)
  hash_passes hash line [] h = tt
  hash_passes hash line (word ∷ rest) h = by (is_ident word.kind)
    where
      by : (b : Bool) → LinePasses test line (cond b (by_word hash word rest (word_of word.text)) (Wordless hash))
      by true = word_passes hash line word rest (word_of word.text) h.1
      by false = tt

  line_passes : (line : List Token) → AllPass test line → LinePasses test line (line_of line)
  line_passes [] h = tt
  line_passes (t ∷ ts) h = by (is_hash t)
    where
      by : (b : Bool) → LinePasses test (t ∷ ts) (cond b (behind_hash t.site ts) Plain)
      by true = hash_passes t.site (t ∷ ts) ts h.1
      by false = h

  all_lines : (ls : List (List Token)) → AllByRecursion (AllPass test) ls → AllByRecursion (λ line. LinePasses test line (line_of line)) ls
  all_lines [] h = tt
  all_lines (l ∷ ls) h = (line_passes l h.0, all_lines ls h.1)

  file_passes : (bytes : List ℕ) → ((t : lexing.Token) → Contains (lexed bytes).tokens t → TokenPasses t) → FilePasses test (file_of n bytes)
  file_passes bytes h = all_lines (lines_of n (lexed bytes).tokens) (lines_pass (lexed bytes).tokens (each TokenPasses (lexed bytes).tokens h))

module _ (numbers : NumbersItsPath) (files : List KnownFile) (p : Place) where
  own_such : (t : lexing.Token) → t.at ≡ p.offset → is_such p.offset t.kind t.text t ≡ true
  own_such t e = ap (λ b. b && (bytes_eq t.text t.text && alike (is_ident t.kind) (is_ident t.kind))) (eq-eqb t.at p.offset e) ∙ ap (λ b. b && alike (is_ident t.kind) (is_ident t.kind)) ((bytes_eq-Decides t.text t.text).1 refl) ∙ alike_itself (is_ident t.kind)

  found_passes : (path : Text) (f : Finding) → finding path files ≡ f → FoundPasses (there files p) f
  found_passes path Absent e = tt
  found_passes path Unknown e = tt
  found_passes path (Present n bytes) e = file_passes (there files p) n bytes (λ t c. by t c (is_here p (place_in n t.at)) refl)
    where
      by : (t : lexing.Token) → Contains (lexed bytes).tokens t → (b : Bool) → is_here p (place_in n t.at) ≡ b → (not b || stands_in p t.kind t.text (finding (path_at files p) files)) ≡ true
      by t c false h = refl
      by t c true h =
          let w = and_parts (n == p.path.0) (t.at == p.offset) h in
          let same : n ≡ p.path.0 = eqb-true n p.path.0 w.0 in
          let slot : slice_get files n ≡ Some (record { path = path; found = Some bytes }) = (numbers path files n bytes e).1 in
          let own : path_at files p ≡ path = ap (λ i. path_of_slot (slice_get files i)) (sym same) ∙ ap path_of_slot slot in
          let found : finding (path_at files p) files ≡ Present n bytes = ap (λ q. finding q files) own ∙ e in
          let such : list_any (is_such p.offset t.kind t.text) (lexed bytes).tokens ≡ true = any_there (is_such p.offset t.kind t.text) (lexed bytes).tokens t c (own_such t (eqb-true t.at p.offset w.1)) in
          ap (stands_in p t.kind t.text) found ∙ ap (λ b. b && list_any (is_such p.offset t.kind t.text) (lexed bytes).tokens) w.0 ∙ such

  here_itself : is_here p p ≡ true
  here_itself = ap (λ b. b && p.offset == p.offset) (eq-eqb p.path.0 p.path.0 refl) ∙ eq-eqb p.offset p.offset refl

  stands : (t : Token) (f : Finding) → finding (path_at files p) files ≡ f → stands_in p t.kind t.text f ≡ true → StandsIn files p t
  stands t Absent e h = cc
  stands t Unknown e h = cc
  stands t (Present n bytes) e h =
      let w = and_parts (n == p.path.0) (list_any (is_such p.offset t.kind t.text) (lexed bytes).tokens) h in
      let x = there_any (is_such p.offset t.kind t.text) (lexed bytes).tokens w.1 in
      let a = and_parts (x.0.at == p.offset) (bytes_eq x.0.text t.text && alike (is_ident t.kind) (is_ident x.0.kind)) x.2 in
      let b = and_parts (bytes_eq x.0.text t.text) (alike (is_ident t.kind) (is_ident x.0.kind)) a.1 in
      record {
        path = path_at files p;
        bytes = bytes;
        found = e ∙ ap (λ i. Present i bytes) (eqb-true n p.path.0 w.0);
        token = x.0;
        among = x.1;
        at = eqb-true x.0.at p.offset a.0;
        text = (bytes_eq-Decides x.0.text t.text).0 b.0;
        ident = alike_one (is_ident t.kind) (is_ident x.0.kind) b.1;
      }

pub finals_stand : NumbersItsPath → FinalsPass → FinalsStand
finals_stand numbers finals files u s events t p whole among comes =
    let all : AllPass (there files p) (final_tokens events) = finals (there files p) (world_of files) u s events (λ kind text. refl) (λ path. found_passes numbers files p path (finding path files) refl) whole in
    let own : there files p t.kind t.text t.origin ≡ true = one_of (Passes (there files p)) (final_tokens events) t all among in
    let at : there files p t.kind t.text (At p) ≡ true = ap (there files p t.kind t.text) (sym comes) ∙ own in
    stands numbers files p t (finding (path_at files p) files) refl (or_right (not (is_here p p)) (stands_in p t.kind t.text (finding (path_at files p) files)) (ap not (here_itself numbers files p)) at)
