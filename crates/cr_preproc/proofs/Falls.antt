-- What is done gets a lower rank, and a unit leaves fewer turns without a step.
use Rattle.std.proofs.Common.{◌≡◌, ◌<◌, ◌≤◌, ◌+◌, ◌-◌, ◌*◌, ℕ, suc, Bool, true, cond, List, [], ◌∷◌, ◌++◌, length, length-append, refl, sym, ap, ◌∙◌, subst, arith, Option, Some, None, Ok}
use Rattle.std.specs.Prelude.{not, ◌&&◌, Vec}
use Rattle.std.specs.Option.{option_to_list}
use Rattle.std.specs.declared.alloc.Global.{Global}
use Rattle.cr_base.specs.declared.token.Place.{Place}
use Rattle.cr_base.specs.declared.token.PpTok.{PpTok}
use Rattle.cr_base.specs.declared.unit.Unit.{Unit}
use Rattle.cr_base.specs.declared.cause.Role.TheVariants.{Directive}
use Rattle.cr_macros.specs.Tokens.{Text, Token}
use Rattle.cr_preproc.specs.declared.conditional.Led.{Led}
use Rattle.cr_phase4.specs.declared.conditionals.Word.{Word}
use Rattle.cr_phase4.specs.declared.conditionals.OpenIf.{OpenIf}
use Rattle.cr_preproc.specs.declared.open_file.OpenFile.{OpenFile}
use Rattle.cr_preproc.specs.declared.preproc.Ending.{Ending}
use Rattle.cr_preproc.specs.declared.preproc.Firsts.{Firsts}
use Rattle.cr_preproc.specs.declared.preproc.Firsts.TheVariants as firsts
use Rattle.cr_preproc.specs.declared.preproc.Preproc.{Preproc}
use Rattle.cr_preproc.specs.declared.progress.Progress.{Progress}
use Rattle.cr_preproc.specs.declared.turning.Doing.{Doing}
use Rattle.cr_preproc.specs.declared.turning.Doing.TheVariants as doing
use Rattle.cr_preproc.specs.declared.turning.Then.{Then}
use Rattle.cr_preproc.specs.declared.turning.Then.TheVariants as then
use Rattle.cr_preproc.specs.declared.turning.Turned.{Turned}
use Rattle.cr_preproc.specs.declared.turning.Turned.TheVariants as turned
use Rattle.cr_preproc.specs.OpenFileSteps.{is_empty, has_line}
use Rattle.cr_phase4.specs.Conditionals.{is_word_live}
use Rattle.cr_preproc.specs.Leading.{IsLed}
use Rattle.cr_phase4.specs.Tasks.{marks}
use Rattle.cr_preproc.specs.Turning.{LooksAt}
use Rattle.cr_preproc.proofs.LineTurns.{word_does, led_reads}
use Rattle.cr_preproc.proofs.ReadingKept.{keeps_word}
use Rattle.cr_preproc.specs.Preprocs.{IsSameUnit, path_of, next_of}
use Rattle.cr_preproc.specs.Falling.{line_rank, then_rank, rank, Falls, CountsFile, IsBelow, files_open, firsts_to_open, innermost_rank, turns_left, TurnFalls}

line_most : (ts : List PpTok) → line_rank ts ≤ 6
line_most [] = omega arith
line_most (t ∷ ts) = omega arith

then_most : (next : Then) → then_rank next ≤ 6
then_most then.Line = omega arith
then_most then.Close = omega arith
then_most (then.Fails f) = omega arith

pub rank_most : (f : OpenFile) (d : Doing) → rank f d ≤ 6
rank_most f doing.Reads = line_most f.line.items
rank_most f (doing.Expands e next) = then_most next
rank_most f (doing.Decides l d) = omega arith
rank_most f (doing.Includes l) = omega arith
rank_most f (doing.Looks paths site) = omega arith
rank_most f (doing.Fails fault) = omega arith

pub rank_below : (f : OpenFile) (d : Doing) (n m : ℕ) → n < m → rank f d ≡ n → rank f d < m
rank_below f d n m h e = omega (arith, h, e)

line_some : (ts : List PpTok) → 2 ≤ line_rank ts
line_some [] = omega arith
line_some (t ∷ ts) = omega arith

-- a file that is read
pub reads_some : (f : OpenFile) (d : Doing) → d ≡ doing.Reads → 2 ≤ rank f d
reads_some f d e = subst (λ x. 2 ≤ rank f x) (sym e) (line_some f.line.items)

-- a line of which nothing is taken
pub empty_below : (g : OpenFile) (e : Doing) (n : ℕ) → 2 < n → g.line.items ≡ [] → e ≡ doing.Reads → rank g e < n
empty_below g e n h none is = let x : rank g e ≡ 2 = ap (rank g) is ∙ ap line_rank none in omega (arith, x, h)

begun_by : (ts : List PpTok) (b : Bool) → (not (is_empty ts) && b) ≡ true → line_rank ts ≡ 6
begun_by [] b h = absurd (let no : ⊥ = cc in no)
begun_by (t ∷ ts) b h = refl

-- a line that is all there
pub begun_most : (f : OpenFile) (d : Doing) → has_line f ≡ true → d ≡ doing.Reads → 6 ≤ rank f d
begun_most f d h is = let e : rank f d ≡ 6 = ap (rank f) is ∙ begun_by f.line.items _ h in omega (arith, e)

-- a file was looked for
pub looked_falls : (p q : Progress) (f : OpenFile) (d e : Doing) (t : Turned) → CountsFile p q t → rank f e < rank f d → Falls p q f f d e t
looked_falls p q f d e turned.Goes h r = (h, r)
looked_falls p q f d e turned.Closes h r = h
looked_falls p q f d e (turned.Opens g) h r = h
looked_falls p q f d e turned.Steps h r = tt
looked_falls p q f d e (turned.Needs paths) h r = tt
looked_falls p q f d e (turned.Ends fault) h r = tt

-- behind a directive the file is read on, or a file is looked for
pub below_reads : (n : ℕ) → 2 < n → IsBelow n (Ok doing.Reads)
below_reads n h = λ g none. empty_below g doing.Reads n h none refl

pub below_looks : (paths : List Text) (site : Place) (d : Doing) (n : ℕ) → 3 < n → LooksAt paths site d → IsBelow n (Ok d)
below_looks paths site (doing.Looks found at) n h is = λ g none. h
below_looks paths site doing.Reads n h is = absurd is
below_looks paths site (doing.Expands e next) n h is = absurd is
below_looks paths site (doing.Decides l d) n h is = absurd is
below_looks paths site (doing.Includes l) n h is = absurd is
below_looks paths site (doing.Fails fault) n h is = absurd is

-- a conditional directive reads nothing
pub conditional_reads : (path : Text) (p q : Progress) (hash : Place) (cs ds : List OpenIf) (t : Token) (word : Word) (ts : List Token) (l : Led) → IsLed path hash p q cs ds (word_does path hash t word ts cs) l → q.reading ≡ p.reading
conditional_reads path p q hash cs ds t word ts l led =
    led_reads path p q hash cs ds (word_does path hash t word ts cs) l (keeps_word (cond (is_word_live cs word) (marks Directive t) []) path hash ts cs word) led

-- as much may be read as before, or one less
pub same_most : (p q : Progress) → q.reading ≡ p.reading → q.reading ≤ p.reading
same_most p q e = omega (arith, e)

pub one_less : (p q : Progress) → (0 < p.reading) × (q ≡ record p { reading = p.reading - 1 }) → q.reading < p.reading
one_less p q h = let some = h.0 in let e : q.reading ≡ p.reading - 1 = ap (λ x. x.reading) h.1 in omega (arith, some, e)

-- a turn that reads nothing
module _ (p q : Progress) (f g : OpenFile) (d e : Doing) (same : q.reading ≡ p.reading) where
  pub falls_to : (n : ℕ) → rank g e < n → n ≤ rank f d → (q.reading ≤ p.reading) × (rank g e < rank f d)
  falls_to n h k = (same_most p q same, (let a = h in let b = k in omega (arith, a, b)))

  -- the last run of the file is expanded
  pub run_falls : rank g e ≡ 1 → 2 ≤ rank f d → (q.reading ≤ p.reading) × (rank g e < rank f d)
  run_falls h k = (same_most p q same, (let a = h in let b = k in omega (arith, a, b)))

-- Turns of a unit.

-- one that has ended
pub ended_falls : (p q : Preproc) (end : Ending) → q.ending ≡ Some end → TurnFalls p q None
ended_falls p q end e none = absurd (let no : ⊥ = cc in no)

-- what a unit leaves where a file is open, and where none is
left_open : (p : Preproc) (f : OpenFile) → p.file ≡ Some f → turns_left p ≡ 16 * p.progress.reading + 8 * (suc (length p.outer.items) + firsts_to_open p.firsts) + rank f p.doing
left_open p f e = ap (λ o. 16 * p.progress.reading + 8 * (files_open o p.outer.items + firsts_to_open p.firsts) + innermost_rank o p.doing) e

left_shut : (p : Preproc) → p.file ≡ None → turns_left p ≡ 16 * p.progress.reading + 8 * (length p.outer.items + firsts_to_open p.firsts) + 0
left_shut p e = ap (λ o. 16 * p.progress.reading + 8 * (files_open o p.outer.items + firsts_to_open p.firsts) + innermost_rank o p.doing) e

module _ (p q : Preproc) (f g : OpenFile) (same : IsSameUnit p q) (pf : p.file ≡ Some f) (qf : q.file ≡ Some g) where
  outer_is : length q.outer.items ≡ length p.outer.items
  outer_is = ap (λ o. length o.items) same.outer

  firsts_is : firsts_to_open q.firsts ≡ firsts_to_open p.firsts
  firsts_is = ap firsts_to_open same.firsts

  pub goes_falls : (q.progress.reading ≤ p.progress.reading) × (rank g q.doing < rank f p.doing) → TurnFalls p q None
  goes_falls h none =
      let a = left_open p f pf in
      let b = left_open q g qf in
      let o = outer_is in
      let n = firsts_is in
      let r = h.0 in
      let k = h.1 in
      omega (arith, a, b, o, n, r, k)

  pub opens_falls : (h : OpenFile) (now : Preproc) → (now ≡ record q { file = Some h; outer = now.outer }) × (now.outer.items ≡ q.outer.items ++ g ∷ []) → q.progress.reading < p.progress.reading → TurnFalls p now None
  opens_falls h now e less none =
      let a = left_open p f pf in
      let b : turns_left now ≡ 16 * now.progress.reading + 8 * (suc (length now.outer.items) + firsts_to_open now.firsts) + rank h now.doing = left_open now h (ap (λ x. x.file) e.0) in
      let reading : now.progress.reading ≡ q.progress.reading = ap (λ x. x.progress.reading) e.0 in
      let first : firsts_to_open now.firsts ≡ firsts_to_open q.firsts = ap (λ x. firsts_to_open x.firsts) e.0 in
      let outer : length now.outer.items ≡ length q.outer.items + 1 = ap length e.1 ∙ length-append q.outer.items (g ∷ []) in
      let o = outer_is in
      let n = firsts_is in
      let most = rank_most h now.doing in
      omega (arith, a, b, reading, first, outer, o, n, most, less)

  pub closes_falls : (popped : Option OpenFile) (outer1 : Vec OpenFile Global) → q.outer.items ≡ outer1.items ++ option_to_list popped → q.progress.reading ≤ p.progress.reading
      → TurnFalls p (record q { file = popped; outer = outer1; doing = doing.Reads }) None
  closes_falls None outer1 e h none =
      let a = left_open p f pf in
      let outer : length q.outer.items ≡ length outer1.items + 0 = ap length e ∙ length-append outer1.items [] in
      let o = outer_is in
      let n = firsts_is in
      omega (arith, a, outer, o, n, h)
  closes_falls (Some x) outer1 e h none =
      let a = left_open p f pf in
      let outer : length q.outer.items ≡ length outer1.items + 1 = ap length e ∙ length-append outer1.items (x ∷ []) in
      let o = outer_is in
      let n = firsts_is in
      let most = line_most x.line.items in
      omega (arith, a, outer, o, n, h, most)

firsts_fall : (u : Unit) (first : Firsts) (path : Text) → path_of u first ≡ Some path → firsts_to_open (next_of first) + 1 ≡ firsts_to_open first
firsts_fall u firsts.Words path h = refl
firsts_fall u firsts.Main path h = refl
firsts_fall u firsts.Nothing path h = absurd (let no : ⊥ = cc in no)

module _ (p q : Preproc) (path : Text) (same : IsSameUnit p q) (pf : p.file ≡ None) (qf : q.file ≡ None) (first : path_of p.unit p.firsts ≡ Some path) where
  first_outer : length q.outer.items ≡ length p.outer.items
  first_outer = ap (λ o. length o.items) same.outer

  first_next : firsts_to_open (next_of q.firsts) + 1 ≡ firsts_to_open p.firsts
  first_next = ap (λ x. firsts_to_open (next_of x) + 1) same.firsts ∙ firsts_fall p.unit p.firsts path first

  pub first_goes_falls : q.progress.reading ≤ p.progress.reading → TurnFalls p (record q { firsts = next_of q.firsts }) None
  first_goes_falls h none =
      let a = left_shut p pf in
      let b = left_shut (record q { firsts = next_of q.firsts }) qf in
      let o = first_outer in
      let n = first_next in
      omega (arith, a, b, o, n, h)

  pub first_opens_falls : (h : OpenFile) → q.progress.reading < p.progress.reading → TurnFalls p (record q { firsts = next_of q.firsts; file = Some h }) None
  first_opens_falls h less none =
      let a = left_shut p pf in
      let o = first_outer in
      let n = first_next in
      let most = rank_most h q.doing in
      omega (arith, a, o, n, most, less)
