-- Files that are included are looked for and opened.
use Rattle.std.proofs.Common.{◌≡◌, ℕ, zero, suc, SomeIff, ◌-◌, ◌+◌, ◌<◌, ◌≤◌, Bool, true, false, cond, List, [], ◌∷◌, length, refl, sym, ap, ◌∙◌, subst, arith, append-nil, Option, Some, None}
use Rattle.std.specs.Prelude.{nat_lt}
use Rattle.std.proofs.lemmas.Bool.Decides.{nat_tests}
use Rattle.cr_base.specs.NameTable.{IsDistinct}
use Rattle.cr_base.specs.declared.cause.IllCause.TheVariants as cause
use Rattle.cr_base.specs.declared.token.Place.{Place}
use Rattle.cr_base.specs.declared.token.PpTok.{PpTok}
use Rattle.cr_base.specs.declared.unit.Unit.{Unit}
use Rattle.cr_lex.specs.Lexing.{lexed}
use Rattle.cr_macros.specs.Definition.{text_of}
use Rattle.cr_macros.specs.Tokens.{Text, tokens_of, has}
use Rattle.cr_snapshot.specs.declared.known.KnownFile.{KnownFile}
use Rattle.cr_snapshot.specs.Files.{Finding, Present, Absent, Unknown}
use Rattle.cr_expand.specs.GoodMacros.{KeepsMacros}
use Rattle.cr_expand.specs.HideSets.{Grows}
use Rattle.cr_preproc.specs.declared.open_file.OpenFile.{OpenFile}
use Rattle.cr_preproc.specs.declared.progress.Progress.{Progress}
use Rattle.cr_preproc.specs.declared.turning.Doing.{Doing}
use Rattle.cr_preproc.specs.declared.turning.Doing.TheVariants as doing
use Rattle.cr_preproc.specs.declared.turning.Turned.{Turned}
use Rattle.cr_preproc.specs.declared.turning.Turned.TheVariants as turned
use Rattle.cr_phase4.specs.Tasks as tasks
use Rattle.cr_phase4.specs.Tasks.{Ill, Over, Needs, Includes, Opened, Looked, Event, State, Reply, Goes, Ends, Task, Nothing, Done, behind, go_on, ◌>>>◌, ready}
use Rattle.cr_phase4.specs.Lines.{File, file_of, fault_of, lines_of}
use Rattle.cr_phase4.specs.Search.{World, Finds, Misses, Lacks, search, unknown, looked_for}
use Rattle.cr_phase4.specs.Directives.{Opening, opens_found, looks, opens}
use Rattle.cr_phase4.specs.Preprocessing.{does_file, does_lines}
use Rattle.cr_preproc.specs.OpenFiles.{Reading, reading_of, reads_file, IsOpen}
use Rattle.cr_preproc.specs.OpenFileSteps.{begins}
use Rattle.cr_preproc.specs.Progressing.{state_of, kept, IsTold, IsProgress}
use Rattle.cr_preproc.specs.Leading.{Leads}
use Rattle.cr_preproc.specs.Turning.{IsTurned, IsOpened, IsWorking, WantsNoFile, doing_left, enters}
use Rattle.cr_preproc.proofs.Expandings.{progress_more, state_more}
use Rattle.cr_preproc.proofs.Leadings.{behind_none, leads_then, leads_from, leads_to, leads_go}
use Rattle.cr_preproc.proofs.NamesGrow.{tokens_later}
use Rattle.cr_preproc.proofs.OpenLater.{reading_later, open_later}
use Rattle.cr_preproc.proofs.Progresses.{joined_none, told_none, told_then}

-- the unit with these names
abbrev pub with_names : Progress → List Text → Progress
with_names p names = record p { names = names }

pub good_names : (p : Progress) (names : List Text) → KeepsMacros → IsProgress p → Grows p.names names → IsDistinct names → IsProgress (with_names p names)
good_names p names law good g d = progress_more p names p.trace law good g d

told_names : (p : Progress) (names : List Text) → IsProgress p → Grows p.names names → IsTold p (with_names p names) []
told_names p names good g = record {
  tokens = tokens_later p.names names p.tokens.items g good.tokens ∙ sym (append-nil (tokens_of p.names p.tokens.items));
  trace = sym (joined_none (text_of p.names p.renaming.old) (text_of p.names p.renaming.new) (kept p.trace));
  renaming = refl;
  names = g;
}

-- one file less may be read
abbrev less : Progress → Progress
less p = record p { reading = p.reading - 1 }

told_less : (p : Progress) (path : Text) → IsTold p (less p) (Opened path ∷ [])
told_less p path = let t = told_none p in record { tokens = t.tokens; trace = t.trace; renaming = t.renaming; names = t.names }

told_opened : (p : Progress) (path : Text) → IsTold p p (Opened path ∷ [])
told_opened p path = let t = told_none p in record { tokens = t.tokens; trace = t.trace; renaming = t.renaming; names = t.names }

told_looked : (p : Progress) (paths : List Text) → IsTold p p (Looked paths ∷ [])
told_looked p paths = let t = told_none p in record { tokens = t.tokens; trace = t.trace; renaming = t.renaming; names = t.names }

reads_one : (n : ℕ) → 0 < n → nat_lt n 1 ≡ false
reads_one n h = grind (arith, nat_tests)

-- a file that may be read is opened
pub file_opens : (w : World) (u : Unit) (levels n : ℕ) (path bytes : Text) (p q : Progress) (names : List Text) (r : Reading)
    → KeepsMacros → IsProgress p → IsProgress q → 0 < p.reading → q ≡ less p → Grows q.names names → r ≡ begins levels path n (lexed bytes)
    → Leads 0 p (with_names q names) (does_file w u (suc levels) path (file_of n bytes) (state_of p)) (reads_file w u r (state_of (with_names q names)))
file_opens w u levels n path bytes p q names r law good good1 left e g at = record {
  events = Opened path ∷ [];
  size = refl;
  goes =
      read_on (nat_lt p.reading 1) (reads_one p.reading left)
      ∙ ap (λ s. behind (Opened path ∷ []) (lines s)) (sym (state_more q names q.trace law good1 g ∙ ap state_of e))
      ∙ ap (λ x. behind (Opened path ∷ []) (reads_file w u x (state_of (with_names q names)))) (sym at);
  told = told_then p q (with_names q names) (Opened path ∷ []) [] good (subst (λ x. IsTold p x (Opened path ∷ [])) (sym e) (told_less p path)) (told_names q names good1 g);
} where
  lines : Task Nothing
  lines = does_lines w u (does_file w u levels) path (fault_of n (lexed bytes).fault) (lines_of n (lexed bytes).tokens) [] []

  read_on : (b : Bool) → b ≡ false
      → behind (Opened path ∷ []) (go_on (cond b (Ends (Over tasks.Reading) []) (Goes Done (state_of (less p)) [])) (λ d. lines)) ≡ behind (Opened path ∷ []) (lines (state_of (less p)))
  read_on true h = absurd (let no : ⊥ = cc in no)
  read_on false h = ap (behind (Opened path ∷ [])) (behind_none (lines (state_of (less p))))

-- too many levels of includes
pub over_levels : (w : World) (u : Unit) (path : Text) (file : File) (p : Progress) → Leads {A = Nothing} 0 p p (does_file w u 0 path file (state_of p)) (Ends (Over Includes) [])
over_levels w u path file p = record { events = Opened path ∷ []; size = refl; goes = refl; told = told_opened p path }

-- nothing more may be read
pub over_reading : (w : World) (u : Unit) (levels : ℕ) (path : Text) (file : File) (p q : Progress) → p.reading ≡ 0 → q ≡ p
    → Leads {A = Nothing} 0 p q (does_file w u (suc levels) path file (state_of p)) (Ends (Over tasks.Reading) [])
over_reading w u levels path file p q none e = subst (λ x. Leads {A = Nothing} 0 p x (does_file w u (suc levels) path file (state_of p)) (Ends (Over tasks.Reading) [])) (sym e) (record {
  events = Opened path ∷ [];
  size = refl;
  goes = ap (λ n. behind (Opened path ∷ []) (go_on (cond (nat_lt n 1) (Ends (Over tasks.Reading) []) (Goes Done (record (state_of p) { reading = n - 1 }) [])) (λ d. lines))) none;
  told = told_opened p path;
}) where
  lines : Task Nothing
  lines = does_lines w u (does_file w u levels) path file.fault file.lines [] []

-- a file that isn't opened again
pub found_known : (enter : Opening) (site : Place) (path : Text) (n : ℕ) (bytes : Text) (s : State) → has s.once path ≡ true → opens_found enter site (Finds path n bytes) s ≡ Goes Done s []
found_known enter site path n bytes s h = ap (λ b. behind [] (cond {A = Task Nothing} b ready (enter path (file_of n bytes)) s)) h

pub found_other : (enter : Opening) (site : Place) (path : Text) (n : ℕ) (bytes : Text) (s : State) → has s.once path ≡ false
    → opens_found enter site (Finds path n bytes) s ≡ enter path (file_of n bytes) s
found_other enter site path n bytes s h = ap (λ b. behind [] (cond {A = Task Nothing} b ready (enter path (file_of n bytes)) s)) h ∙ behind_none (enter path (file_of n bytes) s)

-- what a search comes to

pub wants_files : (w : World) (enter : Opening) (site : Place) (paths wanted : List Text) (s : State) → Lacks wanted ≡ search w.find paths → opens w enter site paths s ≡ Ends (Needs wanted) []
wants_files w enter site paths wanted s e = ap (λ f. looks w enter site paths f s) (sym e)

pub misses_file : (w : World) (enter : Opening) (site : Place) (paths : List Text) (p : Progress) → Misses ≡ search w.find paths
    → Leads {A = Nothing} 0 p p (opens w enter site paths (state_of p)) (Ends (Ill cause.MissingFile site) [])
misses_file w enter site paths p e = record {
  events = Looked (looked_for w.find paths) ∷ [];
  size = refl;
  goes = ap (λ f. looks w enter site paths f (state_of p)) (sym e);
  told = told_looked p (looked_for w.find paths);
}

pub finds_file : (w : World) (enter : Opening) (site : Place) (paths : List Text) (path : Text) (n : ℕ) (bytes : Text) (p : Progress) → Finds path n bytes ≡ search w.find paths
    → Leads 0 p p (opens w enter site paths (state_of p)) (opens_found enter site (Finds path n bytes) (state_of p))
finds_file w enter site paths path n bytes p e = record {
  events = Looked (looked_for w.find paths) ∷ [];
  size = refl;
  goes = ap (λ f. looks w enter site paths f (state_of p)) (sym e);
  told = told_looked p (looked_for w.find paths);
}

-- what is found is there
pub found_present : (find : Text → Finding) (paths : List Text) (path : Text) (n : ℕ) (bytes : Text) → Finds path n bytes ≡ search find paths → find path ≡ Present n bytes
found_present find [] path n bytes e = cc
found_present find (x ∷ xs) path n bytes e = by (find x) refl (found_present find xs path n bytes) e where
  by : (f : Finding) → find x ≡ f → (Finds path n bytes ≡ search find xs → find path ≡ Present n bytes)
      → Finds path n bytes ≡ elim f [ Present m there ↦ Finds x m there | Absent ↦ search find xs | Unknown ↦ Lacks (x ∷ unknown find xs) ] → find path ≡ Present n bytes
  by (Present m there) at later h = cc
  by Absent at later h = later h
  by Unknown at later h = cc

-- What leads to the opening of a file comes to what the opening comes to.
pub opened_behind : (w : World) (u : Unit) (files : List KnownFile) (p q : Progress) (m n : Task Nothing) (t : Turned)
    → IsProgress p → Leads 0 p p (m (state_of p)) (n (state_of p)) → WantsNoFile t → IsOpened w u files p q n t → IsOpened w u files p q m t
opened_behind w u files p q m n turned.Goes good l v k = (leads_then 0 0 p p q _ _ _ good l k.0, k.1)
opened_behind w u files p q m n (turned.Opens h) good l v k = (leads_then 0 0 p p q _ _ _ good l k.0, k.1, k.2, k.3)
opened_behind w u files p q m n (turned.Ends fault) good l v k = (leads_then 0 0 p p q _ _ _ good l k.0, k.1)
opened_behind w u files p q m n (turned.Needs paths) good l v k = absurd v
opened_behind w u files p q m n turned.Steps good l v k = absurd k
opened_behind w u files p q m n turned.Closes good l v k = absurd k

-- with as many levels of includes as the file may have open in it
pub enters_none : (w : World) (u : Unit) (levels : Option ℕ) → levels ≡ None → enters w u levels ≡ does_file w u 0
enters_none w u levels e = ap (enters w u) e

pub enters_some : (w : World) (u : Unit) (levels : Option ℕ) (n : ℕ) → levels ≡ Some n → enters w u levels ≡ does_file w u (suc n)
enters_some w u levels n e = ap (enters w u) e

pub enters_sub : (w : World) (u : Unit) (n : ℕ) (levels : Option ℕ) → SomeIff levels (1 ≤ n) (n - 1) → enters w u levels ≡ does_file w u n
enters_sub w u zero None h = refl
enters_sub w u (suc n) None h = absurd (h (omega arith))
enters_sub w u n (Some m) h = let e : suc m ≡ n = (let a = h.0 in let b = h.1 in omega (arith, a, b)) in ap (does_file w u) e

pub wants_none : (t : Turned) → ((paths : _) → t ≡ turned.Needs paths → ⊥) → WantsNoFile t
wants_none turned.Steps h = tt
wants_none turned.Goes h = tt
wants_none turned.Closes h = tt
wants_none (turned.Opens f) h = tt
wants_none (turned.Needs paths) h = h paths refl
wants_none (turned.Ends fault) h = tt

-- A file that is worked on, behind an include for which a file is looked for.
module _ (w : World) (u : Unit) (files : List KnownFile) (p q : Progress) (f : OpenFile) (m : Task Nothing) (open1 : IsOpen p.names files f) (line : f.line.items ≡ []) where
  -- what is left behind the include
  abbrev behind_it : Task Nothing → List Text → Nothing → Task Nothing
  behind_it k names d = reads_file w u (reading_of names files f) >>> λ n. k

  abbrev left : Task Nothing → Reply Nothing
  left k = go_on (m (state_of p)) (behind_it k p.names)

  reads_on : IsProgress q → length f.line.items + q.reading ≤ 33554432
  reads_on good = let e = ap length line in let r = good.reading in omega (arith, e, r)

  pub looked_goes : IsOpened w u files p q m turned.Goes → ((k : Task Nothing) → Leads 0 p q (left k) (doing_left w u q (reading_of q.names files f) k doing.Reads)) × IsWorking files q f doing.Reads
  looked_goes h = let g = h.0.told.names in (
    (λ k. leads_to 0 p q _ _ _
        (behind_none (behind_it k p.names Done (state_of q)) ∙ ap (λ r. (reads_file w u r >>> λ n. k) (state_of q)) (sym (reading_later p.names q.names files f g open1)))
        (leads_go 0 p q _ _ (behind_it k p.names) h.0)),
    record { progress = h.1; file = open_later p.names q.names files f g open1; line = reads_on h.1; does = tt },
  )

  pub looked_opens : (h : OpenFile) → IsOpened w u files p q m (turned.Opens h)
      → ((k : Task Nothing) → Leads 0 p q (left k) ((reads_file w u (reading_of q.names files h) >>> λ n. reads_file w u (reading_of q.names files f) >>> λ n. k) (state_of q)))
      × IsProgress q × IsOpen q.names files f × IsOpen q.names files h × (doing.Reads ≡ doing.Reads) × (f.line.items ≡ []) × (h.line.items ≡ [])
  looked_opens h o = let g = o.0.told.names in (
    (λ k. leads_to 0 p q _ _ _
        (ap (λ r. (reads_file w u (reading_of q.names files h) >>> λ n. reads_file w u r >>> λ n. k) (state_of q)) (sym (reading_later p.names q.names files f g open1)))
        (leads_go 0 p q _ _ (behind_it k p.names) o.0)),
    o.1,
    open_later p.names q.names files f g open1,
    o.2,
    refl,
    line,
    o.3,
  )

  -- What comes of the search where no file is wanted.
  pub looked : (d : Doing) → ((k : Task Nothing) → doing_left w u p (reading_of p.names files f) k d ≡ left k)
      → (t : Turned) → WantsNoFile t → IsOpened w u files p q m t → IsTurned w u files p q f f d doing.Reads t
  looked d e turned.Goes v h = let l = looked_goes h in ((λ k. leads_from 0 p q _ _ _ (e k) (l.0 k)), l.1)
  looked d e (turned.Opens x) v h = let l = looked_opens x h in ((λ k. leads_from 0 p q _ _ _ (e k) (l.0 k)), l.1, l.2, l.3, l.4, l.5, l.6)
  looked d e (turned.Ends fault) v h = ((λ k. leads_from 0 p q _ _ _ (e k) (leads_go 0 p q _ _ (behind_it k p.names) h.0)), h.1)
  looked d e (turned.Needs paths) v h = absurd v
  looked d e turned.Steps v h = absurd h
  looked d e turned.Closes v h = absurd h

no_tokens : (names : List Text) (ts : List PpTok) → tokens_of names ts ≡ [] → ts ≡ []
no_tokens names [] e = refl
no_tokens names (t ∷ ts) e = cc

-- nothing is taken of the present line
pub no_line : (names : List Text) (files : List KnownFile) (f : OpenFile) → (reading_of names files f).taken ≡ [] → f.line.items ≡ []
no_line names files f e = no_tokens names f.line.items e
