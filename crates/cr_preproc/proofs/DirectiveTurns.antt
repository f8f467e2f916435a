-- What is left behind a directive that ends the run.
use Rattle.std.proofs.Common.{◌≡◌, ◌-◌, ◌≤◌, List, [], length, refl, ap, sym, ◌∙◌, subst, arith}
use Rattle.std.specs.Prelude.{Result, Ok, Err}
use Rattle.cr_base.specs.declared.unit.Unit.{Unit}
use Rattle.cr_base.specs.declared.token.PpTok.{PpTok}
use Rattle.cr_base.specs.declared.token.Place.{Place}
use Rattle.cr_base.specs.declared.cause.Role.TheVariants.{Directive as InDirective}
use Rattle.cr_macros.specs.Definition.{text_of}
use Rattle.cr_macros.specs.Expansion.{expand}
use Rattle.cr_macros.specs.MacroTables.{table_of}
use Rattle.cr_macros.specs.Substitution.{in_quotes, escaped}
use Rattle.cr_macros.specs.Tokens.{Text, Token, tokens_of}
use Rattle.cr_snapshot.specs.IncludeSearch.{candidates}
use Rattle.cr_snapshot.specs.declared.known.KnownFile.{KnownFile}
use Rattle.cr_expand.specs.declared.machine.TheConstants.{LIMIT}
use Rattle.cr_preproc.specs.declared.directing.Directed.{Directed}
use Rattle.cr_preproc.specs.declared.directing.Directed.TheVariants as directed
use Rattle.cr_preproc.specs.declared.header.Header.{Header}
use Rattle.cr_preproc.specs.declared.expansion.Expansion.{Expansion}
use Rattle.cr_preproc.specs.declared.expansion.Fault.{Fault}
use Rattle.cr_preproc.specs.declared.open_file.OpenFile.{OpenFile}
use Rattle.cr_preproc.specs.declared.progress.Progress.{Progress}
use Rattle.cr_preproc.specs.declared.turning.Doing.{Doing}
use Rattle.cr_preproc.specs.declared.turning.Doing.TheVariants as doing
use Rattle.cr_phase4.specs.Tasks.{Reply, Goes, Ends, Task, Nothing, Done, go_on, ◌>>>◌, tell, marks, from_answer, at_place, in_directive}
use Rattle.cr_phase4.specs.declared.conditionals.Word.{Word}
use Rattle.cr_phase4.specs.Lines.{Line, Plain, Conditional, Directive, Empty}
use Rattle.cr_phase4.specs.Runs.{expands}
use Rattle.cr_phase4.specs.Directives.{opens, directive}
use Rattle.cr_phase4.specs.Preprocessing.{does_file}
use Rattle.cr_phase4.specs.Search.{World}
use Rattle.cr_preproc.specs.OpenFiles.{Reading, reading_of, reads_file, IsOpen}
use Rattle.cr_preproc.specs.Progressing.{state_of, IsProgress}
use Rattle.cr_preproc.specs.declared.listing.Listing.{Listing}
use Rattle.cr_preproc.specs.Listings.{IsListing}
use Rattle.cr_preproc.specs.Expanding.{still_in, end_by}
use Rattle.cr_preproc.specs.Leading.{Leads, IsDirected, includes_given}
use Rattle.cr_preproc.specs.Turning.{file_goes, directed_left, carried, doing_left, IsEnded, IsBehind, IsDoing, IsWorking, LooksAt}
use Rattle.cr_preproc.proofs.Frames.{then_assoc}
use Rattle.cr_preproc.proofs.Leadings.{behind_none, leads_same, leads_then, leads_from, leads_to, leads_go, same_on}
use Rattle.cr_preproc.proofs.IncludeTurns.{include_left}

-- the reading of a file whose line and run are gone
pub reading_ended : (names : List Text) (files : List KnownFile) (f g : OpenFile) → IsEnded f g → reading_of names files g ≡ record (reading_of names files f) { run = []; taken = [] }
reading_ended names files f g e =
    ap (reading_of names files) e.rest
    ∙ ap (λ l. record (reading_of names files f) { run = tokens_of names l; taken = tokens_of names g.line.items }) e.run
    ∙ ap (λ l. record (reading_of names files f) { run = []; taken = tokens_of names l }) e.line

-- Behind the directive, in a file whose line and run are gone.
module _ (w : World) (u : Unit) (files : List KnownFile) (p q : Progress) (f g : OpenFile) (same : q.names ≡ p.names) (ended : IsEnded f g) where
  abbrev r : Reading
  r = reading_of p.names files f

  abbrev on : Task Nothing → Nothing → Task Nothing
  on k d = file_goes w u r r.open_ifs [] >>> λ n. k

  now : reading_of q.names files g ≡ record (reading_of p.names files f) { run = []; taken = [] }
  now = reading_ended q.names files f g ended ∙ ap (λ names. record (reading_of names files f) { run = []; taken = [] }) same

  reads : (k : Task Nothing) → on k Done (state_of q) ≡ doing_left w u q (reading_of q.names files g) k doing.Reads
  reads k = ap (λ x. (reads_file w u x >>> λ n. k) (state_of q)) (sym now)

  -- it is carried out
  pub done_leads : (x : Reply Nothing) → Leads 0 p q x (Goes Done (state_of q) []) → (k : Task Nothing)
      → Leads 0 p q (go_on x (on k)) (doing_left w u q (reading_of q.names files g) k doing.Reads)
  done_leads x h k = leads_to 0 p q _ _ _ (behind_none (on k Done (state_of q)) ∙ reads k) (leads_go 0 p q x (Goes Done (state_of q) []) (on k) h)

  -- its list is expanded
  pub list_leads : (x : Reply Nothing) (hash : Place) (ts : List Token) (e : Expansion) → text_of q.names f.literal ≡ in_quotes (escaped f.path)
      → still_in q e ≡ expand (table_of q.names q.macros (text_of q.names f.literal)) ts (LIMIT - q.used)
      → Leads 0 p q x ((in_directive hash (expands f.path ts) >>> includes_given w u (does_file w u f.levels) f.path hash) (state_of q)) → (k : Task Nothing)
      → Leads 0 p q (go_on x (on k)) (include_left w u q (reading_of q.names files g) k e [] hash)
  list_leads x hash ts e literal still h k = leads_to 0 p q _ _ _ list (leads_go 0 p q x _ (on k) h) where
    list : go_on ((in_directive hash (expands f.path ts) >>> includes_given w u (does_file w u f.levels) f.path hash) (state_of q)) (on k) ≡ include_left w u q (reading_of q.names files g) k e [] hash
    list =
        ap (λ a. go_on (go_on (at_place hash (from_answer (state_of q) a)) (includes_given w u (does_file w u f.levels) f.path hash)) (on k))
        (sym (still ∙ ap (λ t. expand (table_of q.names q.macros t) ts (LIMIT - q.used)) literal))
        ∙ ap (λ y. include_left w u q y k e [] hash) (sym now)

  -- a file is looked for
  pub looks_leads : (x : Reply Nothing) (paths : List Text) (site : Place) (d : Doing) → LooksAt paths site d
      → Leads 0 p q x (opens w (does_file w u f.levels) site paths (state_of q)) → (k : Task Nothing)
      → Leads 0 p q (go_on x (on k)) (doing_left w u q (reading_of q.names files g) k d)
  looks_leads x paths site (doing.Looks found at) look h k =
      leads_to 0 p q _ _ _
      (ap (λ l. go_on (opens w (does_file w u f.levels) site l (state_of q)) (on k)) (sym look.0)
      ∙ ap (λ y. go_on (opens w (does_file w u f.levels) y found.items (state_of q)) (on k)) (sym look.1)
      ∙ ap (λ y. go_on (opens w (does_file w u y.levels) at found.items (state_of q)) (λ d. reads_file w u y >>> λ n. k)) (sym now))
      (leads_go 0 p q x (opens w (does_file w u f.levels) site paths (state_of q)) (on k) h)
  looks_leads x paths site doing.Reads look h k = absurd look
  looks_leads x paths site (doing.Expands e next) look h k = absurd look
  looks_leads x paths site (doing.Decides l d) look h k = absurd look
  looks_leads x paths site (doing.Includes l) look h k = absurd look
  looks_leads x paths site (doing.Fails fault) look h k = absurd look

  pub looks_does : (paths : List Text) (site : Place) (d : Doing) → LooksAt paths site d → IsDoing q g d
  looks_does paths site (doing.Looks found at) look = ended.line
  looks_does paths site doing.Reads look = absurd look
  looks_does paths site (doing.Expands e next) look = absurd look
  looks_does paths site (doing.Decides l d) look = absurd look
  looks_does paths site (doing.Includes l) look = absurd look
  looks_does paths site (doing.Fails fault) look = absurd look

-- a line that is no directive leaves the file as it is
pub plain_leads : (w : World) (u : Unit) (files : List KnownFile) (p : Progress) (f g : OpenFile) → IsEnded f g → (k : Task Nothing)
    → Leads 0 p p ((file_goes w u (reading_of p.names files f) f.open_ifs [] >>> λ n. k) (state_of p)) (doing_left w u p (reading_of p.names files g) k doing.Reads)
plain_leads w u files p f g ended k = leads_to 0 p p _ _ _ (reads w u files p p f g refl ended k) (leads_same p _)

-- what comes before a directive and the file behind it
pub carried_assoc : (m : Reply Nothing) (d n k : Task Nothing) → go_on (go_on m (λ x. d >>> λ y. n)) (λ y. k) ≡ go_on (go_on m (λ x. d)) (λ y. n >>> λ z. k)
carried_assoc m d n k =
    then_assoc m (λ x. d >>> λ y. n) (λ y. k)
    ∙ same_on m (λ a. (d >>> λ y. n) >>> λ y. k) (λ a. d >>> λ y. n >>> λ z. k) (λ a s. then_assoc (d s) (λ y. n) (λ y. k))
    ∙ sym (then_assoc m (λ x. d) (λ y. n >>> λ z. k))

-- the same, where the same was left before
pub behind_same : (w : World) (u : Unit) (files : List KnownFile) (p q : Progress) (f : OpenFile) (before1 before2 : Task Nothing → Reply Nothing) (next : Result Doing Fault)
    → ((k : Task Nothing) → before1 k ≡ before2 k) → IsBehind w u files p q f before2 next → IsBehind w u files p q f before1 next
behind_same w u files p q f before1 before2 (Ok e) same h = (λ g ended k. leads_from 0 p q _ _ _ (same k) (h.0 g ended k), h.1, h.2)
behind_same w u files p q f before1 before2 (Err fault) same h = (λ k. leads_from 0 p q _ _ _ (same k) (h.0 k), h.1)

-- the same, where this led there
pub behind_from : (w : World) (u : Unit) (files : List KnownFile) (o p q : Progress) (f : OpenFile) (before1 before2 : Task Nothing → Reply Nothing) (next : Result Doing Fault)
    → IsProgress o → ((k : Task Nothing) → Leads 0 o p (before1 k) (before2 k)) → IsBehind w u files p q f before2 next → IsBehind w u files o q f before1 next
behind_from w u files o p q f before1 before2 (Ok e) good led h = (λ g ended k. leads_then 0 0 o p q _ _ _ good (led k) (h.0 g ended k), h.1, h.2)
behind_from w u files o p q f before1 before2 (Err fault) good led h = (λ k. leads_then 0 0 o p q _ _ _ good (led k) (h.0 k), h.1)

-- the file goes on where its line and its run are gone
pub behind_working : (w : World) (u : Unit) (files : List KnownFile) (p q : Progress) (f g : OpenFile) (before : Task Nothing → Reply Nothing) (e : Doing)
    → IsOpen q.names files g → IsEnded f g → IsBehind w u files p q f before (Ok e) → IsWorking files q g e
behind_working w u files p q f g before e o ended h = record {
  progress = h.1;
  file = o;
  line = (let none : length g.line.items ≡ 0 = ap length ended.line in let left : q.reading ≤ 33554432 = h.1.reading in omega (arith, none, left));
  does = h.2 g ended;
}

-- What a directive leads to is done next.
module _ (w : World) (u : Unit) (files : List KnownFile) (p q : Progress) (f : OpenFile) (hash : Place) (ts : List Token) (m : Task Nothing) (same : q.names ≡ p.names) (good : IsProgress q) where
  abbrev is_directed : Directed → Type 0
  is_directed = IsDirected w u (does_file w u f.levels) f.path hash ts p q m

  abbrev is_behind : Result Doing Fault → Type 0
  is_behind = IsBehind w u files p q f (λ k. directed_left w u p (reading_of p.names files f) k m)

  pub follow_goes : (d : Directed) → d ≡ directed.Goes → is_directed d → is_behind (Ok doing.Reads)
  follow_goes d e h = (λ g ended k. done_leads w u files p q f g same ended (m (state_of p)) (subst is_directed e h) k, good, λ g ended. tt)

  pub follow_fails : (d : Directed) (fault : Fault) → d ≡ directed.Fails fault → is_directed d → is_behind (Err fault)
  follow_fails d fault e h = (λ k. leads_go 0 p q (m (state_of p)) (Ends (end_by fault) []) (λ d. file_goes w u (reading_of p.names files f) f.open_ifs [] >>> λ n. k) (subst is_directed e h), good)

  pub follow_looks : (d : Directed) (header : Header) (site : Place) (next : Doing) → d ≡ directed.Looks header site → LooksAt (candidates u f.path header.angled header.name.items) site next → is_directed d → is_behind (Ok next)
  follow_looks d header site next e look h =
      let paths = candidates u f.path header.angled header.name.items in
      (λ g ended k. looks_leads w u files p q f g same ended (m (state_of p)) paths site next look (subst is_directed e h) k, good, λ g ended. looks_does w u files p q f g same ended paths site next look)

  pub follow_expands : (d : Directed) (l : Listing) → d ≡ directed.Expands → IsListing q l → l.expansion.value.expander.machine.file ≡ f.literal → text_of q.names f.literal ≡ in_quotes (escaped f.path)
      → still_in q l.expansion.value ≡ expand (table_of q.names q.macros (text_of q.names f.literal)) ts (LIMIT - q.used) → l.given.items ≡ [] → l.hash ≡ hash → is_directed d → is_behind (Ok (doing.Includes l))
  follow_expands d l is x file literal still none at h =
      let before = λ (k : Task Nothing). directed_left w u p (reading_of p.names files f) k m in (
        λ g ended k.
            subst (λ (at : Place). Leads 0 p q (before k) (include_left w u q (reading_of q.names files g) k l.expansion.value l.given.items at)) (sym at)
            (subst (λ (us : List PpTok). Leads 0 p q (before k) (include_left w u q (reading_of q.names files g) k l.expansion.value us hash)) (sym none)
            (list_leads w u files p q f g same ended (m (state_of p)) hash ts l.expansion.value literal still (subst is_directed is h) k)),
        good,
        λ g ended. (x, file ∙ sym (ap (λ (y : OpenFile). y.literal) ended.rest)),
      )

-- What the present line is, and what is left behind it.
module _ (w : World) (u : Unit) (files : List KnownFile) (p q : Progress) (f : OpenFile) (now : Line) where
  abbrev left : Task Nothing → Reply Nothing
  left k = (carried w u (reading_of p.names files f) now >>> λ n. k) (state_of p)

  is : (line : Line) → now ≡ line → (k : Task Nothing) → left k ≡ (carried w u (reading_of p.names files f) line >>> λ n. k) (state_of p)
  is line e k = ap (λ l. (carried w u (reading_of p.names files f) l >>> λ n. k) (state_of p)) e

  pub directive_behind : (hash : Place) (t : Token) (ts : List Token) (next : Result Doing Fault) → now ≡ Directive hash t ts
      → IsBehind w u files p q f (λ k. directed_left w u p (reading_of p.names files f) k (tell (marks InDirective t) >>> λ n. directive w u (does_file w u f.levels) f.path hash t.text ts)) next
      → IsBehind w u files p q f left next
  directive_behind hash t ts next e h =
      behind_same w u files p q f left (λ k. directed_left w u p (reading_of p.names files f) k (tell (marks InDirective t) >>> λ n. directive w u (does_file w u f.levels) f.path hash t.text ts)) next
      (λ k. is (Directive hash t ts) e k ∙ carried_assoc (Goes Done (state_of p) (marks InDirective t)) (directive w u (does_file w u f.levels) f.path hash t.text ts) (file_goes w u (reading_of p.names files f) f.open_ifs []) k)
      h

  reads_behind_it : (line : Line) → now ≡ line → carried w u (reading_of p.names files f) line ≡ file_goes w u (reading_of p.names files f) f.open_ifs [] → IsProgress p → IsBehind w u files p p f left (Ok doing.Reads)
  reads_behind_it line e same good =
      (λ g ended k. leads_from 0 p p _ _ _ (is line e k ∙ ap {A = Task Nothing} (λ m. (m >>> λ n. k) (state_of p)) same) (plain_leads w u files p f g ended k), good, λ g ended. tt)

  pub plain_behind : now ≡ Plain → IsProgress p → IsBehind w u files p p f left (Ok doing.Reads)
  plain_behind e good = reads_behind_it Plain e refl good

  pub empty_behind : now ≡ Empty → IsProgress p → IsBehind w u files p p f left (Ok doing.Reads)
  empty_behind e good = reads_behind_it Empty e refl good

  pub conditional_behind : (hash : Place) (t : Token) (word : Word) (ts : List Token) → now ≡ Conditional hash t word ts → IsProgress p → IsBehind w u files p p f left (Ok doing.Reads)
  conditional_behind hash t word ts e good = reads_behind_it (Conditional hash t word ts) e refl good
