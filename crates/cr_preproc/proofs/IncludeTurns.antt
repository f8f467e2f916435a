-- The list of an include, token by token, and what is left behind it.
use Rattle.std.proofs.Common.{◌≡◌, ℕ, ◌+◌, ◌-◌, ◌≤◌, cond, List, [], ◌∷◌, ◌++◌, map, length, refl, ap, sym, ◌∙◌, subst, append-nil, append_assoc, Option, Some, None}
use Rattle.std.specs.Prelude.{codes, Vec}
use Rattle.std.specs.declared.alloc.Global.{Global}
use Rattle.std.specs.Option.{option_map}
use Rattle.std.proofs.lemmas.List.{map-append}
use Rattle.cr_base.specs.declared.unit.Unit.{Unit}
use Rattle.cr_base.specs.declared.token.PpTok.{PpTok}
use Rattle.cr_base.specs.declared.token.Place.{Place}
use Rattle.cr_base.specs.declared.token.Origin.{Origin}
use Rattle.cr_base.specs.declared.token.Origin.TheVariants.{At, Made}
use Rattle.cr_base.specs.declared.cause.IllCause.{IllCause}
use Rattle.cr_base.specs.declared.cause.IllCause.TheVariants as cause
use Rattle.cr_base.specs.declared.cause.Role.{Role}
use Rattle.cr_base.specs.declared.cause.Role.TheVariants.{Directive as InDirective}
use Rattle.cr_macros.specs.Tokens.{Text, Token, Event as Telling, Answer, Gave, Stopped, taken_at, is_mark, token_of, tokens_of}
use Rattle.cr_snapshot.specs.IncludeSearch.{candidates}
use Rattle.cr_snapshot.specs.declared.known.KnownFile.{KnownFile}
use Rattle.cr_expand.specs.Expanders.{plain}
use Rattle.cr_expand.specs.GoodMacros.{KeepsMacros}
use Rattle.cr_expand.specs.Machines.{EndsWithRule}
use Rattle.cr_expand.specs.Running.{leads}
use Rattle.cr_expand.specs.declared.machine.TheConstants.{LIMIT}
use Rattle.cr_preproc.specs.declared.expansion.Expansion.{Expansion}
use Rattle.cr_preproc.specs.declared.expansion.Fault.{Fault}
use Rattle.cr_preproc.specs.declared.listing.Listing.{Listing}
use Rattle.cr_preproc.specs.declared.open_file.OpenFile.{OpenFile}
use Rattle.cr_preproc.specs.declared.progress.Progress.{Progress}
use Rattle.cr_preproc.specs.declared.turning.Doing.{Doing}
use Rattle.cr_phase4.specs.Tasks.{End, Told, State, Reply, Ends, Task, Nothing, behind, go_on, ◌>>>◌, tell, marks, at_place, end_of, told_by_uses, moved}
use Rattle.cr_phase4.specs.Directives.{Opening, Header, all_marks, blank_of, if_last, to_greater, angled, header_name, site_of, opens, includes_expanded}
use Rattle.cr_phase4.specs.Preprocessing.{does_file}
use Rattle.cr_phase4.specs.Search.{World}
use Rattle.cr_preproc.specs.OpenFiles.{Reading, reading_of, IsOpen}
use Rattle.cr_preproc.specs.Progressing.{state_of, IsProgress, IsTold}
use Rattle.cr_preproc.specs.Seen.{AreNamed}
use Rattle.cr_preproc.specs.Expanding.{IsOneUse, IsNoted, StopsAt, still_in, ended_by, end_by}
use Rattle.cr_preproc.specs.Listings.{IsListEnd}
use Rattle.cr_preproc.specs.Leading.{Leads, list_left, includes_given}
use Rattle.cr_preproc.specs.Turning.{file_goes, directed_left, IsWorking, IsDoing}
use Rattle.cr_preproc.proofs.Frames.{behind_behind, behind_then}
use Rattle.cr_preproc.proofs.Leadings.{behind_none}
use Rattle.cr_preproc.proofs.OpenLater.{reading_later, open_later}
use Rattle.cr_preproc.proofs.ToldByUses.{told_uses}
use Rattle.cr_preproc.proofs.Turns.{with_used, used_told, told_steps, noted_state, stop_ends}

-- Nothing that is done with the list reads which names are hidden from its tokens.

taken_plain : (role : Role) (t : Token) (o : Origin) → taken_at role (plain t) o ≡ taken_at role t o
taken_plain role t Made = refl
taken_plain role t (At place) = refl

marks_plain : (role : Role) (ts : List Token) → all_marks role (map plain ts) ≡ all_marks role ts
marks_plain role [] = refl
marks_plain role (t ∷ ts) = ap (λ es. map Told es ++ all_marks role (map plain ts)) (taken_plain role t t.origin) ∙ ap (λ es. marks role t ++ es) (marks_plain role ts)

last_plain : (ts : List Token) (name : Text) → if_last (map plain ts) name ≡ if_last ts name
last_plain [] name = refl
last_plain (t ∷ ts) name = refl

greater_plain : (ts : List Token) → to_greater (map plain ts) ≡ to_greater ts
greater_plain [] = refl
greater_plain (t ∷ ts) =
    ap (λ x. cond (is_mark (codes ">") t) x (option_map (λ name. (blank_of t ++ t.text) ++ name) (to_greater (map plain ts)))) (last_plain ts (blank_of t))
    ∙ ap (λ x. cond (is_mark (codes ">") t) (if_last ts (blank_of t)) (option_map (λ name. (blank_of t ++ t.text) ++ name) x)) (greater_plain ts)

header_plain : (ts : List Token) → header_name (map plain ts) ≡ header_name ts
header_plain [] = refl
header_plain (t ∷ []) = refl
header_plain (t ∷ v ∷ ts) = ap (λ x. cond (is_mark (codes "<") t) (angled x) None) (greater_plain (v ∷ ts))

site_plain : (hash : Place) (ts : List Token) → site_of hash (map plain ts) ≡ site_of hash ts
site_plain hash [] = refl
site_plain hash (t ∷ ts) = refl

module _ (w : World) (u : Unit) (enter : Opening) (path : Text) (hash : Place) where
  expanded_plain : (ts : List Token) (h : Option Header) → includes_expanded w u enter path hash (map plain ts) h ≡ includes_expanded w u enter path hash ts h
  expanded_plain ts None = refl
  expanded_plain ts (Some h) = ap (λ at. opens w enter at (candidates u path h.angled h.name)) (site_plain hash ts)

  given_plain : (ts : List Token) → includes_given w u enter path hash (map plain ts) ≡ includes_given w u enter path hash ts
  given_plain ts =
      ap (λ es. tell es >>> λ d. includes_expanded w u enter path hash (map plain ts) (header_name (map plain ts))) (marks_plain InDirective ts)
      ∙ ap (λ h. tell (all_marks InDirective ts) >>> λ d. includes_expanded w u enter path hash (map plain ts) h) (header_plain ts)
      ∙ ap {A = Task Nothing} (λ m. tell (all_marks InDirective ts) >>> λ d. m) (expanded_plain ts (header_name ts))

  pub given_same : (us vs : List Token) → map plain us ≡ map plain vs → includes_given w u enter path hash us ≡ includes_given w u enter path hash vs
  given_same us vs e = sym (given_plain us) ∙ ap (includes_given w u enter path hash) e ∙ given_plain vs

tokens_behind : (names : List Text) (xs : List PpTok) (t : PpTok) → tokens_of names (xs ++ t ∷ []) ≡ tokens_of names xs ++ token_of names [] t ∷ []
tokens_behind names [] t = refl
tokens_behind names (x ∷ xs) t = ap {A = List Token} (λ l. token_of names [] x ∷ l) (tokens_behind names xs t)

-- what comes behind the first tokens and events of a list
pub list_behind : {A : Type 0} (hash : Place) (s : State) (given out : List Token) (told : List Telling) (a : Answer (List Token)) (k : List Token → Task A) → EndsWithRule told
    → list_left hash s given (leads out told a) k ≡ behind (map Told told) (list_left hash s (given ++ out) a k)
list_behind hash s given out told (Gave ts left more) k h =
    ap (λ l. behind (map Told (told ++ more)) (k l (record s { work = left }))) (sym (append_assoc given out ts))
    ∙ ap (λ es. behind es (k ((given ++ out) ++ ts) (record s { work = left }))) (map-append Told told more)
    ∙ sym (behind_behind (map Told told) (map Told more) (k ((given ++ out) ++ ts) (record s { work = left })))
list_behind hash s given out told (Stopped why more) k h = ap (Ends (moved hash (end_of why))) (ap (map Told) (told_uses told more h) ∙ map-append Told told (told_by_uses more))

-- what is left depends on what was given only by what it is for
pub list_same : {A : Type 0} (hash : Place) (s : State) (given other : List Token) (a : Answer (List Token)) (k : List Token → Task A) → ((ts : List Token) → k (given ++ ts) ≡ k (other ++ ts))
    → list_left hash s given a k ≡ list_left hash s other a k
list_same hash s given other (Gave ts left more) k h = ap {A = Task _} (λ m. behind (map Told more) (m (record s { work = left }))) (h ts)
list_same hash s given other (Stopped why more) k h = refl

moved_by : (hash place : Place) (why : IllCause) → moved hash (ended_by place why) ≡ ended_by hash why
moved_by hash place cause.MissingFile = refl
moved_by hash place cause.OpenComment = refl
moved_by hash place cause.Trigraph = refl
moved_by hash place cause.BadDirective = refl
moved_by hash place cause.ErrorDirective = refl
moved_by hash place cause.OpenIf = refl
moved_by hash place cause.StrayElse = refl
moved_by hash place cause.BadDefine = refl
moved_by hash place cause.ArgCount = refl
moved_by hash place cause.OpenCall = refl
moved_by hash place cause.BadPaste = refl
moved_by hash place cause.CondSyntax = refl
moved_by hash place cause.DivideByZero = refl
moved_by hash place cause.Overflow = refl
moved_by hash place cause.CondConstant = refl
moved_by hash place cause.MadeDefined = refl
moved_by hash place cause.BadToken = refl
moved_by hash place cause.Syntax = refl
moved_by hash place cause.BadSpecifiers = refl
moved_by hash place cause.Redeclared = refl
moved_by hash place cause.Unresolved = refl
moved_by hash place cause.NoMember = refl
moved_by hash place cause.NotRecord = refl
moved_by hash place cause.GenericType = refl
moved_by hash place cause.Elision = refl
moved_by hash place cause.LimitTokens = refl
moved_by hash place cause.LimitMacros = refl
moved_by hash place cause.LimitReading = refl
moved_by hash place cause.LimitIncludes = refl
moved_by hash place cause.LimitDepth = refl

-- a cause that is found in a list stands at its `#`
pub moved_is : (hash : Place) (f g : Fault) → g.cause ≡ f.cause → g.place ≡ hash → end_by g ≡ moved hash (end_by f)
moved_is hash f g e h = ap (λ why. ended_by g.place why) e ∙ ap (λ place. ended_by place f.cause) h ∙ sym (moved_by hash f.place f.cause)

-- what is left where the list of an include gave these tokens so far
abbrev pub include_left : World → Unit → Progress → Reading → Task Nothing → Expansion → List PpTok → Place → Reply Nothing
include_left w u p r k e ts hash =
    go_on (list_left hash (state_of p) (tokens_of p.names ts) (still_in p e) (includes_given w u (does_file w u r.levels) r.path hash))
    (λ d. file_goes w u r r.open_ifs [] >>> λ n. k)

-- A use of a rule in the list.
module _ (law : KeepsMacros) (w : World) (u : Unit) (files : List KnownFile) (p q : Progress) (file : OpenFile) (told : List Telling) (e f : Expansion) (hash : Place) (ts : List PpTok) (good : IsProgress p) (o : IsOpen p.names files file)
    (named : AreNamed p.names ts) (noted : IsNoted p q told) (one : IsOneUse told) where
  abbrev r : Reading
  r = reading_of p.names files file

  abbrev for1 : List Token → Task Nothing
  for1 = includes_given w u (does_file w u file.levels) file.path hash

  abbrev next : Task Nothing → Nothing → Task Nothing
  next k d = file_goes w u r r.open_ifs [] >>> λ n. k

  pub include_leads : (out : List Token) (us : List PpTok) → still_in p e ≡ leads out told (still_in q f) → map plain (tokens_of p.names ts ++ out) ≡ map plain (tokens_of q.names us) → (k : Task Nothing)
      → Leads 1 p q (include_left w u p r k e ts hash) (include_left w u q (reading_of q.names files file) k f us hash)
  include_leads out us h same k = record {
    events = map Told told;
    size = told_steps told ∙ one.0;
    goes =
        ap (λ a. go_on (list_left hash (state_of p) (tokens_of p.names ts) a for1) (next k)) h
        ∙ ap (λ x. go_on x (next k)) (list_behind hash (state_of p) (tokens_of p.names ts) out told (still_in q f) for1 one.1)
        ∙ behind_then (map Told told) (list_left hash (state_of p) (tokens_of p.names ts ++ out) (still_in q f) for1) (next k)
        ∙ ap (behind (map Told told)) (sym now);
    told = noted.told;
  } where
    now : include_left w u q (reading_of q.names files file) k f us hash ≡ go_on (list_left hash (state_of p) (tokens_of p.names ts ++ out) (still_in q f) for1) (next k)
    now =
        ap (λ x. include_left w u q x k f us hash) (reading_later p.names q.names files file noted.told.names o)
        ∙ ap (λ s. go_on (list_left hash s (tokens_of q.names us) (still_in q f) for1) (next k)) (noted_state law p q told good noted)
        ∙ ap (λ x. go_on x (next k)) (list_same hash (state_of p) (tokens_of q.names us) (tokens_of p.names ts ++ out) (still_in q f) for1
        (λ vs. given_same w u (does_file w u file.levels) file.path hash (tokens_of q.names us ++ vs) ((tokens_of p.names ts ++ out) ++ vs)
        (map-append plain (tokens_of q.names us) vs ∙ ap (λ l. l ++ map plain vs) (sym same) ∙ sym (map-append plain (tokens_of p.names ts ++ out) vs))))

-- a file that is worked on still is, where names were added
pub noted_working : (files : List KnownFile) (p q : Progress) (file : OpenFile) (told : List Telling) (d : Doing) → IsOpen p.names files file → length file.line.items + p.reading ≤ 33554432 → IsNoted p q told → IsProgress q → IsDoing q file d
    → IsWorking files q file d
noted_working files p q file told d o line noted good does = record {
  progress = good;
  file = open_later p.names q.names files file noted.told.names o;
  line = subst (λ n. length file.line.items + n ≤ 33554432) (sym noted.reading) line;
  does = does;
}

-- the list is at its end
pub include_ended : (w : World) (u : Unit) (files : List KnownFile) (p : Progress) (file : OpenFile) (e : Expansion) (hash : Place) (ts : List PpTok) (n : ℕ) → still_in p e ≡ Gave [] (LIMIT - n) [] → (k : Task Nothing)
    → Leads 0 p (with_used p n) (include_left w u p (reading_of p.names files file) k e ts hash)
    (directed_left w u (with_used p n) (reading_of p.names files file) k (includes_given w u (does_file w u file.levels) file.path hash (tokens_of p.names ts)))
include_ended w u files p file e hash ts n h k = record {
  events = [];
  size = refl;
  goes =
      ap (λ a. go_on (list_left hash (state_of p) (tokens_of p.names ts) a for1) next) h
      ∙ ap (λ x. go_on x next) (behind_none (for1 (tokens_of p.names ts ++ []) (state_of (with_used p n))))
      ∙ ap (λ l. go_on (for1 l (state_of (with_used p n))) next) (append-nil (tokens_of p.names ts))
      ∙ sym (behind_none (go_on (for1 (tokens_of p.names ts) (state_of (with_used p n))) next));
  told = used_told p n;
} where
  for1 : List Token → Task Nothing
  for1 = includes_given w u (does_file w u file.levels) file.path hash

  next : Nothing → Task Nothing
  next d = file_goes w u (reading_of p.names files file) file.open_ifs [] >>> λ n. k

-- the list ends the unit
pub include_fails : (w : World) (u : Unit) (files : List KnownFile) (p q : Progress) (file : OpenFile) (e : Expansion) (hash : Place) (ts : List PpTok) (end : End) → StopsAt (still_in p e) end → IsTold p q [] → (k : Task Nothing)
    → Leads {A = Nothing} 0 p q (include_left w u p (reading_of p.names files file) k e ts hash) (Ends (moved hash end) [])
include_fails w u files p q file e hash ts end h told1 k = record {
  events = [];
  size = refl;
  goes = ap (λ y. go_on (go_on (at_place hash y) (λ more. includes_given w u (does_file w u file.levels) file.path hash (tokens_of p.names ts ++ more))) (λ d. file_goes w u (reading_of p.names files file) file.open_ifs [] >>> λ n. k)) (stop_ends (state_of p) (still_in p e) end h);
  told = told1;
}

-- the list is at its end, where a use of a rule changes nothing
pub include_ends : (w : World) (u : Unit) (files : List KnownFile) (p q : Progress) (file : OpenFile) (l m : Listing) (n : ℕ) → n ≡ m.expansion.value.expander.machine.used → IsListEnd p q l m → (k : Task Nothing)
    → Leads 0 p (with_used q n) (include_left w u p (reading_of p.names files file) k l.expansion.value l.given.items l.hash)
    (directed_left w u (with_used q n) (reading_of q.names files file) k (includes_given w u (does_file w u file.levels) file.path m.hash (tokens_of q.names m.given.items)))
include_ends w u files p q file l m n n_is end k =
    subst
    (λ (h : Place). Leads 0 p (with_used q n) left (directed_left w u (with_used q n) (reading_of q.names files file) k (includes_given w u (does_file w u file.levels) file.path h (tokens_of q.names m.given.items)))) (sym end.hash)
    (subst
    (λ (g : Vec PpTok Global). Leads 0 p (with_used q n) left (directed_left w u (with_used q n) (reading_of q.names files file) k (includes_given w u (does_file w u file.levels) file.path l.hash (tokens_of q.names g.items)))) (sym end.given)
    (subst
    (λ (y : Progress). Leads 0 p (with_used y n) left (directed_left w u (with_used y n) (reading_of y.names files file) k (includes_given w u (does_file w u file.levels) file.path l.hash (tokens_of y.names l.given.items)))) (sym end.same)
    (include_ended w u files p file l.expansion.value l.hash l.given.items n (end.still ∙ ap (λ x. Gave [] (LIMIT - x) []) (sym n_is)) k))) where
      left : Reply Nothing
      left = include_left w u p (reading_of p.names files file) k l.expansion.value l.given.items l.hash
