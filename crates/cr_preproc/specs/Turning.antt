-- What is left while an open file is worked on, and what a turn does.
use Rattle.std.specs.Prelude.{◌≡◌, ◌≤◌, ◌+◌, ℕ, suc, if◌then◌else◌, List, [], length, Option, Some, None, Result, Ok, Err}
use Rattle.cr_base.specs.declared.cause.IllCause.TheVariants as cause
use Rattle.cr_base.specs.declared.cause.Role.TheVariants.{Directive as InDirective}
use Rattle.cr_base.specs.declared.unit.Unit.{Unit}
use Rattle.cr_macros.specs.Tokens.{Text, Token, tokens_of}
use Rattle.cr_snapshot.specs.declared.known.KnownFile.{KnownFile}
use Rattle.cr_base.specs.declared.token.Place.{Place}
use Rattle.cr_preproc.specs.declared.conditional.Led.{Led}
use Rattle.cr_preproc.specs.declared.conditional.Led.TheVariants as led
use Rattle.cr_preproc.specs.declared.search.Search.{Search}
use Rattle.cr_preproc.specs.declared.search.Search.TheVariants as search
use Rattle.cr_preproc.specs.declared.open_file.OpenFile.{OpenFile}
use Rattle.cr_phase4.specs.declared.conditionals.OpenIf.{OpenIf}
use Rattle.cr_preproc.specs.declared.progress.Progress.{Progress}
use Rattle.cr_preproc.specs.declared.turning.Then.{Then}
use Rattle.cr_preproc.specs.declared.turning.Then.TheVariants as then
use Rattle.cr_preproc.specs.declared.turning.Doing.{Doing}
use Rattle.cr_preproc.specs.declared.turning.Doing.TheVariants as doing
use Rattle.cr_preproc.specs.declared.turning.Turned.{Turned}
use Rattle.cr_preproc.specs.declared.turning.Turned.TheVariants as turned
use Rattle.cr_preproc.specs.declared.expansion.Fault.{Fault}
use Rattle.cr_phase4.specs.Tasks.{State, End, Ill, Needs, Reply, Goes, Ends, Task, Nothing, Done, go_on, ◌>>>◌, ends, tell, marks, in_directive, events_of}
use Rattle.cr_phase4.specs.Lines.{Line, Plain, Conditional, Directive, Empty, Wordless, line_of}
use Rattle.cr_phase4.specs.Search.{World}
use Rattle.cr_phase4.specs.Runs.{runs, expands, earlier, after_run, is_open_call}
use Rattle.cr_phase4.specs.Directives.{Opening, opens, directive}
use Rattle.cr_phase4.specs.Preprocessing.{does_file}
use Rattle.cr_preproc.specs.OpenFiles.{Reading, reads_behind, reads_file, reading_of, IsOpen}
use Rattle.cr_preproc.specs.Progressing.{state_of, IsProgress}
use Rattle.cr_preproc.specs.Expanding.{IsExpanding, ahead_in, table_for, end_by}
use Rattle.cr_preproc.specs.Leading.{Leads, run_left, decided, includes_given}
use Rattle.cr_preproc.specs.Listings.{IsListing, listing_left}
use Rattle.cr_preproc.specs.Seen.{AreNamed}

-- the file goes on behind its present line, with these open conditionals and this run
abbrev pub file_goes : World → Unit → Reading → List OpenIf → List Token → Task Nothing
file_goes w u r cs run = reads_behind w u (record r { open_ifs = cs; run = run }) []

-- the directive that is the present line is carried out, and the file goes on
abbrev pub carried : World → Unit → Reading → Line → Task Nothing
carried w u r (Directive hash t ts) =
    tell (marks InDirective t) >>> λ d. directive w u (does_file w u r.levels) r.path hash t.text ts >>> λ d. file_goes w u r r.open_ifs []
carried w u r (Wordless hash) = ends (Ill cause.BadDirective hash)
carried w u r Empty = file_goes w u r r.open_ifs []
carried w u r Plain = file_goes w u r r.open_ifs []
carried w u r (Conditional hash t word ts) = file_goes w u r r.open_ifs []

-- what is left behind a run of which this is left, where k comes behind the file
abbrev pub then_left : World → Unit → Reading → Task Nothing → Then → Reply Nothing → Reply Nothing
then_left w u r k then.Line reply = go_on reply (λ d. carried w u r (line_of r.taken) >>> λ n. k)
then_left w u r k then.Close reply = go_on reply (λ d. k)
then_left w u r k (then.Fails f) reply = Ends (earlier (end_by f) reply) (events_of reply)

-- What is left, where k comes behind the file.
abbrev pub doing_left : World → Unit → Progress → Reading → Task Nothing → Doing → Reply Nothing
doing_left w u p r k doing.Reads = (reads_file w u r >>> λ d. k) (state_of p)
doing_left w u p r k (doing.Expands e next) = then_left w u r k next (run_left (table_for p e.value) (state_of p) (ahead_in p e.value))
doing_left w u p r k (doing.Decides l d) =
    go_on (after_run r.path r.run (state_of p) (listing_left p l (decided d l.hash r.open_ifs))) (λ cs. file_goes w u r cs r.run >>> λ n. k)
doing_left w u p r k (doing.Includes l) =
    go_on (listing_left p l (includes_given w u (does_file w u r.levels) r.path l.hash)) (λ d. file_goes w u r r.open_ifs [] >>> λ n. k)
doing_left w u p r k (doing.Looks paths site) = (opens w (does_file w u r.levels) site paths.items >>> λ d. reads_file w u r >>> λ n. k) (state_of p)
doing_left w u p r k (doing.Fails fault) = Ends (end_by fault) []

-- the file is as it was, but that its line and its run are gone
pub record IsEnded (f g : OpenFile) : Type 0 where
  pub line : g.line.items ≡ []
  pub run : g.run.items ≡ []
  pub rest : g ≡ record f { line = g.line; run = g.run }

-- how a file is opened where so many levels of includes may be open in it, or none
abbrev pub enters : World → Unit → Option ℕ → Opening
enters w u None = does_file w u 0
enters w u (Some levels) = does_file w u (suc levels)

-- what is done has what it works with
abbrev pub IsDoing : Progress → OpenFile → Doing → Type 0
IsDoing p f doing.Reads = Prim.Unit {0}
IsDoing p f (doing.Expands e next) = IsExpanding p e.value × (e.value.expander.machine.file ≡ f.literal)
IsDoing p f (doing.Decides l d) = IsListing p l × (l.expansion.value.expander.machine.file ≡ f.literal)
IsDoing p f (doing.Includes l) = IsListing p l × (l.expansion.value.expander.machine.file ≡ f.literal)
IsDoing p f (doing.Looks paths site) = f.line.items ≡ []
IsDoing p f (doing.Fails fault) = Prim.Unit {0}

-- An open file is read in the files that are known, and its line has no more tokens than were read.
pub record IsWorking (files : List KnownFile) (p : Progress) (f : OpenFile) (d : Doing) : Type 0 where
  pub progress : IsProgress p
  pub file : IsOpen p.names files f
  pub line : length f.line.items + p.reading ≤ 33554432
  pub does : IsDoing p f d

-- What a turn came to.
abbrev pub IsTurned : World → Unit → List KnownFile → Progress → Progress → OpenFile → OpenFile → Doing → Doing → Turned → Type 0
IsTurned w u files p q f g d e turned.Steps =
    ((k : Task Nothing) → Leads 1 p q (doing_left w u p (reading_of p.names files f) k d) (doing_left w u q (reading_of q.names files g) k e)) × IsWorking files q g e
IsTurned w u files p q f g d e turned.Goes =
    ((k : Task Nothing) → Leads 0 p q (doing_left w u p (reading_of p.names files f) k d) (doing_left w u q (reading_of q.names files g) k e)) × IsWorking files q g e
IsTurned w u files p q f g d e turned.Closes =
    ((k : Task Nothing) → Leads 0 p q (doing_left w u p (reading_of p.names files f) k d) (k (state_of q))) × IsProgress q
IsTurned w u files p q f g d e (turned.Opens h) =
    ((k : Task Nothing) → Leads 0 p q (doing_left w u p (reading_of p.names files f) k d)
    ((reads_file w u (reading_of q.names files h) >>> λ n. reads_file w u (reading_of q.names files g) >>> λ n. k) (state_of q)))
    × IsProgress q × IsOpen q.names files g × IsOpen q.names files h × (e ≡ doing.Reads) × (g.line.items ≡ []) × (h.line.items ≡ [])
IsTurned w u files p q f g d e (turned.Needs paths) =
    ((k : Task Nothing) → doing_left w u p (reading_of p.names files f) k d ≡ Ends (Needs paths.items) []) × (q ≡ p) × (g ≡ f) × (e ≡ d)
IsTurned w u files p q f g d e (turned.Ends fault) =
    ((k : Task Nothing) → Leads {A = Nothing} 0 p q (doing_left w u p (reading_of p.names files f) k d) (Ends (end_by fault) [])) × IsProgress q

-- how the unit ends where a run ends it so
abbrev pub ended_behind : Then → End → End
ended_behind then.Line end = end
ended_behind then.Close end = end
ended_behind (then.Fails f) end = if is_open_call end then end_by f else end

-- The present line or directive is done, and this is done next, in the file as it is now.
abbrev pub IsNext : World → Unit → List KnownFile → Progress → Progress → OpenFile → Doing → (Task Nothing → Reply Nothing) → Type 0
IsNext w u files p q g e before = ((k : Task Nothing) → Leads 0 p q (before k) (doing_left w u q (reading_of q.names files g) k e)) × IsWorking files q g e

-- what is left behind a directive that ends the run, where it is followed by this
abbrev pub directed_left : World → Unit → Progress → Reading → Task Nothing → Task Nothing → Reply Nothing
directed_left w u p r k m = go_on (m (state_of p)) (λ d. file_goes w u r r.open_ifs [] >>> λ n. k)

-- Behind a directive this is done next, once its line and the run are gone; or the unit ends so.
abbrev pub IsBehind : World → Unit → List KnownFile → Progress → Progress → OpenFile → (Task Nothing → Reply Nothing) → Result Doing Fault → Type 0
IsBehind w u files p q f before (Ok e) =
    ((g : OpenFile) → IsEnded f g → (k : Task Nothing) → Leads 0 p q (before k) (doing_left w u q (reading_of q.names files g) k e))
    × IsProgress q × ((g : OpenFile) → IsEnded f g → IsDoing q g e)
IsBehind w u files p q f before (Err fault) = ((k : Task Nothing) → Leads {A = Nothing} 0 p q (before k) (Ends (end_by fault) [])) × IsProgress q

-- What the opening of a file that was found comes to.
abbrev pub IsOpened : World → Unit → List KnownFile → Progress → Progress → Task Nothing → Turned → Type 0
IsOpened w u files p q m turned.Goes = Leads 0 p q (m (state_of p)) (Goes Done (state_of q) []) × IsProgress q
IsOpened w u files p q m (turned.Opens h) = Leads 0 p q (m (state_of p)) (reads_file w u (reading_of q.names files h) (state_of q)) × IsProgress q × IsOpen q.names files h × (h.line.items ≡ [])
IsOpened w u files p q m (turned.Ends fault) = Leads {A = Nothing} 0 p q (m (state_of p)) (Ends (end_by fault) []) × IsProgress q
IsOpened w u files p q m (turned.Needs paths) = (m (state_of p) ≡ Ends (Needs paths.items) []) × (q ≡ p)
IsOpened w u files p q m turned.Steps = ⊥
IsOpened w u files p q m turned.Closes = ⊥

-- no file is wanted of which nothing is known
abbrev pub WantsNoFile : Turned → Type 0
WantsNoFile turned.Steps = Prim.Unit {0}
WantsNoFile turned.Goes = Prim.Unit {0}
WantsNoFile turned.Closes = Prim.Unit {0}
WantsNoFile (turned.Opens h) = Prim.Unit {0}
WantsNoFile (turned.Needs paths) = ⊥
WantsNoFile (turned.Ends fault) = Prim.Unit {0}

-- the list that a conditional directive asks for is named
abbrev pub AreAsked : List Text → Led → Type 0
AreAsked names led.Goes = Prim.Unit {0}
AreAsked names (led.Fails f) = Prim.Unit {0}
AreAsked names (led.Asks d list) = AreNamed names list.items

-- what is left behind a conditional directive that leads to this
abbrev pub led_left : World → Unit → Progress → Reading → Task Nothing → Place → Led → Reply Nothing
led_left w u p r k hash led.Goes = (file_goes w u r r.open_ifs r.run >>> λ n. k) (state_of p)
led_left w u p r k hash (led.Fails f) = Ends (earlier (end_by f) (runs r.path r.run (state_of p))) (events_of (runs r.path r.run (state_of p)))
led_left w u p r k hash (led.Asks d list) =
    go_on (after_run r.path r.run (state_of p) ((in_directive hash (expands r.path (tokens_of p.names list.items)) >>> decided d hash r.open_ifs) (state_of p)))
    (λ cs. file_goes w u r cs r.run >>> λ n. k)

-- what is left behind a list that decides a conditional, where the run before it would be expanded from this state
abbrev pub decision_left : World → Unit → Reading → Task Nothing → State → Reply (List OpenIf) → Reply Nothing
decision_left w u r k s reply = go_on (after_run r.path r.run s reply) (λ cs. file_goes w u r cs r.run >>> λ n. k)

-- a file is looked for at these paths
abbrev pub LooksAt : List Text → Place → Doing → Type 0
LooksAt paths site (doing.Looks found at) = (found.items ≡ paths) × (at ≡ site)
LooksAt paths site doing.Reads = ⊥
LooksAt paths site (doing.Expands e next) = ⊥
LooksAt paths site (doing.Decides l d) = ⊥
LooksAt paths site (doing.Includes l) = ⊥
LooksAt paths site (doing.Fails fault) = ⊥

-- a file that was found is no larger than a file may be
abbrev pub IsSmall : Search → Type 0
IsSmall (search.Finds path n bytes) = length bytes.now ≤ 16777216
IsSmall search.Misses = Prim.Unit {0}
IsSmall (search.Lacks paths) = Prim.Unit {0}

-- a line has no more tokens than were read
abbrev pub IsFitting : Progress → OpenFile → Type 0
IsFitting p f = length f.line.items + p.reading ≤ 33554432
