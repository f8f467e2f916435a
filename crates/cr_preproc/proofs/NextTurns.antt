-- What is done next in an open file, and what it works with.
use Rattle.std.proofs.Common.{◌⊎◌, inl, inr, Bor, ◌≡◌, ◌<◌, ◌≤◌, ◌-◌, true, false, cond, List, [], ◌∷◌, length, refl, sym, ap, subst, ◌∙◌, arith, Some, None, Result, Ok, Err}
use Rattle.std.specs.Prelude.{IfOk}
use Rattle.cr_base.specs.NameTable.{IsDistinct}
use Rattle.cr_base.specs.declared.cause.IllCause.TheVariants as cause
use Rattle.cr_base.specs.declared.cause.Role.TheVariants.{Directive as InDirective}
use Rattle.cr_base.specs.declared.token.Place.{Place}
use Rattle.cr_base.specs.declared.token.PpTok.{PpTok}
use Rattle.cr_base.specs.declared.unit.Unit.{Unit}
use Rattle.cr_lex.specs.Lexing as lexing
use Rattle.cr_lex.specs.Lexing.{stop}
use Rattle.cr_macros.specs.Tokens.{Text, Token, tokens_of}
use Rattle.cr_snapshot.specs.declared.known.KnownFile.{KnownFile}
use Rattle.cr_expand.specs.GoodMacros.{KeepsMacros}
use Rattle.cr_expand.specs.HideSets.{Grows}
use Rattle.cr_preproc.specs.declared.conditional.Led.{Led}
use Rattle.cr_preproc.specs.declared.expansion.Fault.{Fault}
use Rattle.cr_preproc.specs.declared.line.Line.TheVariants as code
use Rattle.cr_preproc.specs.declared.line.Line.{Line as CodeLine}
use Rattle.cr_phase4.specs.declared.conditionals.Word.{Word}
use Rattle.cr_preproc.specs.declared.open_file.OpenFile.{OpenFile}
use Rattle.cr_phase4.specs.declared.conditionals.OpenIf.{OpenIf}
use Rattle.cr_preproc.specs.declared.progress.Progress.{Progress}
use Rattle.cr_preproc.specs.declared.reader.Coming.TheVariants as coming
use Rattle.cr_preproc.specs.declared.turning.Doing.{Doing}
use Rattle.cr_preproc.specs.declared.turning.Doing.TheVariants as doing
use Rattle.cr_preproc.specs.declared.turning.Then.{Then}
use Rattle.cr_preproc.specs.declared.turning.Then.TheVariants as then
use Rattle.cr_phase4.specs.Tasks.{Took, Reply, Task, Nothing, behind, ◌>>>◌, marks}
use Rattle.cr_phase4.specs.Lines.{Line, Plain, Conditional, line_of, fault_of}
use Rattle.cr_phase4.specs.Search.{World}
use Rattle.cr_phase4.specs.Runs.{runs}
use Rattle.cr_phase4.specs.Conditionals.{is_live, is_word_live}
use Rattle.cr_phase4.specs.Preprocessing.{at_end, run_with}
use Rattle.cr_preproc.specs.OpenFiles.{Reading, reads_file, reading_of, IsOpen}
use Rattle.cr_preproc.specs.OpenFileSteps.{HasLine, LacksLine, TellsNext, Takes}
use Rattle.cr_preproc.specs.Progressing.{state_of, IsProgress}
use Rattle.cr_preproc.specs.Expanding.{end_by}
use Rattle.cr_preproc.specs.Leading.{Leads, IsLed}
use Rattle.cr_preproc.specs.Turning.{doing_left, then_left, led_left, IsDoing, IsWorking, IsNext, IsTurned}
use Rattle.cr_preproc.specs.declared.turning.Turned.TheVariants as turned
use Rattle.cr_preproc.specs.Seen.{IsNamed, AreNamed, seen_line}
use Rattle.cr_preproc.proofs.Leadings.{leads_same, leads_from, leads_to}
use Rattle.cr_preproc.proofs.LineTurns.{plain_left, skipped_left, directive_left, IsOther, word_does, conditional_left, led_leads, led_names, led_reads, faults, file_ends, limit_left, takes_left, took_state, took_told, took_good, took_fits}
use Rattle.cr_preproc.proofs.OpenLater.{open_later, reading_later, ifs_open}
use Rattle.cr_preproc.proofs.ReadingKept.{keeps_word}

-- of what was made, where something was made

pub for_all : {A E K : Type 0} (r : Result A E) (P : K → A → Type 0) → ((k : K) → IfOk r (P k)) → IfOk r (λ a. (k : K) → P k a)
for_all (Ok a) P h = h
for_all (Err e) P h = tt

pub both_ok : {A E : Type 0} (r : Result A E) (P Q R : A → Type 0) → ((a : A) → P a → Q a → R a) → IfOk r P → IfOk r Q → IfOk r R
both_ok (Ok a) P Q R h x y = h a x y
both_ok (Err e) P Q R h x y = tt

-- the names of the parts of a line
pub parts_named : (names : List Text) (line ts : List PpTok) (first t : PpTok) (rest : List PpTok) → AreNamed names line → ts ≡ line → ts ≡ first ∷ t ∷ rest → IsNamed names t × AreNamed names rest
parts_named names line ts first t rest h e parts = let all : AreNamed names (first ∷ t ∷ rest) = subst (AreNamed names) (sym e ∙ parts) h in (all.1.0, all.1.1)

-- the file is worked on, and nothing but the file is changed
module _ (w : World) (u : Unit) (files : List KnownFile) (p : Progress) (f g : OpenFile) (works : IsWorking files p f doing.Reads) where
  abbrev r : Reading
  r = reading_of p.names files f

  abbrev before : Task Nothing → Reply Nothing
  before k = doing_left w u p r k doing.Reads

  pub same_next : (e : Doing) → ((k : Task Nothing) → before k ≡ doing_left w u p (reading_of p.names files g) k e)
      → IsOpen p.names files g → length g.line.items ≤ length f.line.items → IsDoing p g e → IsNext w u files p p g e before
  same_next e left kept_open shorter does =
      (λ k. leads_from 0 p p _ _ _ (left k) (leads_same p _), record { progress = works.progress; file = kept_open; line = (let l = works.line in omega (arith, shorter, l)); does = does })

  pub plain_next : HasLine r → Plain ≡ line_of r.taken → reading_of p.names files g ≡ record r { run = run_with r.open_ifs r.run r.taken; taken = [] } → IsOpen p.names files g → g.line.items ≡ [] → IsNext w u files p p g doing.Reads before
  plain_next h e reads kept_open none =
      same_next doing.Reads (λ k. plain_left w u r k (state_of p) h e ∙ ap (λ x. (reads_file w u x >>> λ d. k) (state_of p)) (sym reads)) kept_open (let n = ap length none in omega (arith, n)) tt

  pub skipped_next : (line : Line) → HasLine r → line ≡ line_of r.taken → IsOther line → is_live r.open_ifs ≡ false → reading_of p.names files g ≡ record r { taken = [] } → IsOpen p.names files g → g.line.items ≡ []
      → IsNext w u files p p g doing.Reads before
  skipped_next line h e other off reads kept_open none =
      same_next doing.Reads (λ k. skipped_left w u r k line (state_of p) h e other off ∙ ap (λ x. (reads_file w u x >>> λ d. k) (state_of p)) (sym reads)) kept_open (let n = ap length none in omega (arith, n)) tt

-- the run begins, and the file is as it was
module _ (w : World) (u : Unit) (files : List KnownFile) (p : Progress) (f : OpenFile) (works : IsWorking files p f doing.Reads) (e : Doing) (t : Then)
    (left : (k : Task Nothing) → doing_left w u p (reading_of p.names files f) k e ≡ then_left w u (reading_of p.names files f) k t (runs f.path (tokens_of p.names f.run.items) (state_of p))) (does : IsDoing p f e) where
  abbrev r1 : Reading
  r1 = reading_of p.names files f

  begins : ((k : Task Nothing) → (reads_file w u r1 >>> λ d. k) (state_of p) ≡ then_left w u r1 k t (runs f.path r1.run (state_of p))) → IsNext w u files p p f e (λ k. doing_left w u p r1 k doing.Reads)
  begins h = same_next w u files p f f works e (λ k. h k ∙ sym (left k)) works.file (omega arith) does

  pub directive_next : (line : Line) → HasLine r1 → line ≡ line_of r1.taken → IsOther line → is_live r1.open_ifs ≡ true → t ≡ then.Line → IsNext w u files p p f e (λ k. doing_left w u p r1 k doing.Reads)
  directive_next line h is other on line_next =
      begins (λ k. directive_left w u r1 k line (state_of p) h is other on ∙ ap (λ x. then_left w u r1 k x (runs f.path r1.run (state_of p))) (sym line_next))

  pub fault_next : (x : lexing.Fault) (fault : Fault) → LacksLine r1 → r1.left ≡ stop x → fault_of r1.number (Some x) ≡ Some (end_by fault) → t ≡ then.Fails fault → IsNext w u files p p f e (λ k. doing_left w u p r1 k doing.Reads)
  fault_next x fault lacks stops is same =
      begins (λ k. faults w u r1 k x fault (state_of p) lacks stops is ∙ ap (λ y. then_left w u r1 k y (runs f.path r1.run (state_of p))) (sym same))

  pub end_next : LacksLine r1 → r1.left ≡ record { tokens = []; fault = None }
      → ((k : Task Nothing) → (at_end r1.path r1.run None r1.open_ifs >>> λ d. k) (state_of p) ≡ then_left w u r1 k t (runs r1.path r1.run (state_of p)))
      → IsNext w u files p p f e (λ k. doing_left w u p r1 k doing.Reads)
  end_next lacks none h = begins (λ k. file_ends w u r1 k t (state_of p) lacks none (h k))

-- no more may be read
pub limit_next : (w : World) (u : Unit) (files : List KnownFile) (p : Progress) (f g : OpenFile) (e : Doing) (place : Place) → IsWorking files p f doing.Reads
    → LacksLine (reading_of p.names files f) → TellsNext (reading_of p.names files f) coming.Token → p.reading ≡ 0
    → (let r = reading_of p.names files f in reading_of p.names files g ≡ record r { run = run_with r.open_ifs r.run r.taken })
    → ((k : Task Nothing) → doing_left w u p (reading_of p.names files g) k e ≡ then_left w u (reading_of p.names files g) k (then.Fails (record { cause = cause.LimitReading; place = place })) (runs g.path (tokens_of p.names g.run.items) (state_of p)))
    → IsOpen p.names files g → length g.line.items ≤ length f.line.items → IsDoing p g e
    → IsNext w u files p p g e (λ k. doing_left w u p (reading_of p.names files f) k doing.Reads)
limit_next w u files p f g e place works lacks next none reads left kept_open shorter does =
    same_next w u files p f g works e
    (λ k. limit_left w u r0 k place (state_of p) lacks next none
    ∙ ap (λ (x : Reading). then_left w u x k (then.Fails (record { cause = cause.LimitReading; place = place })) (runs x.path x.run (state_of p))) (sym reads)
    ∙ sym (left k)) kept_open shorter does where
      r0 : Reading
      r0 = reading_of p.names files f

-- a token was taken
module _ (w : World) (u : Unit) (files : List KnownFile) (p q : Progress) (names : List Text) (f g : OpenFile) (law : KeepsMacros) (works : IsWorking files p f doing.Reads) (some : 0 < p.reading)
    (less : q ≡ record p { reading = p.reading - 1 }) (good : IsProgress q) (grows : Grows p.names names) (distinct : IsDistinct names) (kept_open : IsOpen names files g)
    (lacks : LacksLine (reading_of p.names files f)) (next : TellsNext (reading_of p.names files f) coming.Token) (takes : Takes (reading_of p.names files f) (reading_of names files g)) where
  abbrev now : Progress
  now = record q { names = names }

  grown : Grows q.names names
  grown = subst (λ n. Grows n names) (sym (ap (λ x. x.names) less)) grows

  took_leads : (k : Task Nothing) → Leads 1 p now (doing_left w u p (reading_of p.names files f) k doing.Reads) (doing_left w u now (reading_of names files g) k doing.Reads)
  took_leads k = record {
    events = Took ∷ [];
    size = refl;
    goes = takes_left w u (reading_of p.names files f) (reading_of names files g) k (state_of p) lacks next takes some
        ∙ ap (λ s. behind (Took ∷ []) ((reads_file w u (reading_of names files g) >>> λ d. k) s)) (sym (took_state p q names law good less grows));
    told = took_told p q names works.progress less grows;
  }

  took_works : IsWorking files now g doing.Reads
  took_works = record {
    progress = took_good q names law good grown distinct;
    file = kept_open;
    line = took_fits files p.names names f g p.reading q.reading 33554432 next takes some (ap (λ x. x.reading) less) works.line;
    does = tt;
  }

  pub took_next : ((k : Task Nothing) → Leads 1 p now (doing_left w u p (reading_of p.names files f) k doing.Reads) (doing_left w u now (reading_of names files g) k doing.Reads)) × IsWorking files now g doing.Reads
  took_next = (took_leads, took_works)

-- a conditional directive was read
module _ (files : List KnownFile) (p q : Progress) (f : OpenFile) (ds : List OpenIf) (hash : Place) (t : Token) (word : Word) (ts : List Token) (l : Led)
    (kept_open : IsOpen p.names files f) (led : IsLed f.path hash p q f.open_ifs ds (word_does f.path hash t word ts f.open_ifs) l) where
  abbrev with_ifs : OpenFile
  with_ifs = record f { open_ifs = ds }

  grew : Grows p.names q.names
  grew = led_names f.path p q hash f.open_ifs ds (word_does f.path hash t word ts f.open_ifs) l led

  pub conditional_works : IsWorking files p f doing.Reads → IsProgress q → IsWorking files q with_ifs doing.Reads
  conditional_works works good = record {
    progress = good;
    file = open_later p.names q.names files with_ifs grew (ifs_open p.names files f with_ifs kept_open);
    line = (let e = led_reads f.path p q hash f.open_ifs ds (word_does f.path hash t word ts f.open_ifs) l (keeps_word (cond (is_word_live f.open_ifs word) (marks InDirective t) []) f.path hash ts f.open_ifs word) led in let h = works.line in omega (arith, e, h));
    does = tt;
  }

  pub conditional_next : (w : World) (u : Unit) (g : OpenFile) (e : Doing) → HasLine (reading_of p.names files f) → Conditional hash t word ts ≡ line_of (tokens_of p.names f.line.items)
      → ((k : Task Nothing) → doing_left w u q (reading_of q.names files g) k e ≡ led_left w u q (reading_of q.names files with_ifs) k hash l)
      → IsWorking files q g e → IsNext w u files p q g e (λ k. doing_left w u p (reading_of p.names files f) k doing.Reads)
  conditional_next w u g e h is left works = (
    λ k. leads_from 0 p q _ _ _ (conditional_left w u (reading_of p.names files f) k hash t word ts (state_of p) h is)
        (leads_to 0 p q _ _ _ (ap (λ (x : Reading). led_left w u q (record x { open_ifs = ds }) k hash l) (sym (reading_later p.names q.names files f grew kept_open)) ∙ sym (left k))
        (led_leads w u (reading_of p.names files f) p q hash ds (word_does f.path hash t word ts f.open_ifs) k l led)),
    works,
  )

-- a line that is neither text nor a conditional directive
pub other_line : (names : List Text) (l : CodeLine)
    → ((hash : Place) × (t : PpTok) × (rest : Bor (List PpTok)) × (l ≡ code.Directive hash t rest)) ⊎ ((l ≡ code.Empty) ⊎ ((hash : Place) × (l ≡ code.Wordless hash))) → IsOther (seen_line names l)
other_line names l (inl h) = subst (λ x. IsOther (seen_line names x)) (sym h.3) tt
other_line names l (inr (inl h)) = subst (λ x. IsOther (seen_line names x)) (sym h) tt
other_line names l (inr (inr h)) = subst (λ x. IsOther (seen_line names x)) (sym h.1) tt

-- turns in a file that is read

pub as_read : (files : List KnownFile) (p : Progress) (f : OpenFile) (d : Doing) → IsWorking files p f d → IsWorking files p f doing.Reads
as_read files p f d works = record { progress = works.progress; file = works.file; line = works.line; does = tt }

pub next_turn : (w : World) (u : Unit) (files : List KnownFile) (p q : Progress) (f g : OpenFile) (d e : Doing) → d ≡ doing.Reads
    → IsNext w u files p q g e (λ k. doing_left w u p (reading_of p.names files f) k doing.Reads) → IsTurned w u files p q f g d e turned.Goes
next_turn w u files p q f g d e same next = subst (λ x. IsTurned w u files p q f g x e turned.Goes) (sym same) next

pub limit_turn : (w : World) (u : Unit) (files : List KnownFile) (p q : Progress) (f g : OpenFile) (e : Doing) (place : Place) → q ≡ p → IsWorking files p f doing.Reads
    → LacksLine (reading_of p.names files f) → TellsNext (reading_of p.names files f) coming.Token → p.reading ≡ 0
    → g ≡ record f { run = g.run }
    → (let r = reading_of q.names files f in reading_of q.names files g ≡ record r { run = run_with r.open_ifs r.run r.taken })
    → ((k : Task Nothing) → doing_left w u q (reading_of q.names files g) k e ≡ then_left w u (reading_of q.names files g) k (then.Fails (record { cause = cause.LimitReading; place = place })) (runs g.path (tokens_of q.names g.run.items) (state_of q)))
    → IsOpen q.names files g → IsDoing q g e
    → IsNext w u files p q g e (λ k. doing_left w u p (reading_of p.names files f) k doing.Reads)
limit_turn w u files p q f g e place same works lacks next none rest = subst
    (λ (x : Progress). (let r = reading_of x.names files f in reading_of x.names files g ≡ record r { run = run_with r.open_ifs r.run r.taken })
    → ((k : Task Nothing) → doing_left w u x (reading_of x.names files g) k e ≡ then_left w u (reading_of x.names files g) k (then.Fails (record { cause = cause.LimitReading; place = place })) (runs g.path (tokens_of x.names g.run.items) (state_of x)))
    → IsOpen x.names files g → IsDoing x g e → IsNext w u files p x g e (λ k. doing_left w u p (reading_of p.names files f) k doing.Reads))
    (sym same)
    (λ reads left kept_open does. limit_next w u files p f g e place works lacks next none reads left kept_open (let n = ap (λ (x : OpenFile). length x.line.items) rest in omega (arith, n)) does)

pub took_turn : (w : World) (u : Unit) (files : List KnownFile) (p q : Progress) (names : List Text) (f g : OpenFile) (d : Doing) → d ≡ doing.Reads → KeepsMacros → IsWorking files p f doing.Reads
    → (0 < p.reading) × (q ≡ record p { reading = p.reading - 1 }) → IsProgress q → Grows q.names names → IsDistinct names → IsOpen names files g
    → LacksLine (reading_of p.names files f) → TellsNext (reading_of p.names files f) coming.Token → Takes (reading_of q.names files f) (reading_of names files g)
    → IsTurned w u files p (record q { names = names }) f g d d turned.Steps
took_turn w u files p q names f g d reads law works read good grows distinct kept_open lacks next takes =
    subst (λ x. IsTurned w u files p (record q { names = names }) f g x x turned.Steps) (sym reads)
    (took_next w u files p q names f g law works read.0 read.1 good (subst (λ n. Grows n names) same grows) distinct kept_open lacks next (subst (λ n. Takes (reading_of n files f) (reading_of names files g)) same takes)) where
      same : q.names ≡ p.names
      same = ap (λ x. x.names) read.1
