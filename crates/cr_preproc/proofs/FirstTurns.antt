-- What the opening of a file that no include names is for the whole unit.
use Rattle.std.proofs.Common.{◌≡◌, ◌+◌, ◌≤◌, List, [], length, reverse, refl, sym, ap, ◌∙◌, subst, arith, append-nil, Option, Some, None}
use Rattle.std.specs.Prelude.{Vec}
use Rattle.std.specs.declared.alloc.Global.{Global}
use Rattle.cr_base.specs.declared.unit.Unit.{Unit}
use Rattle.cr_macros.specs.Tokens.{Text}
use Rattle.cr_snapshot.specs.declared.known.KnownFile.{KnownFile}
use Rattle.cr_preproc.specs.declared.expansion.Fault.{Fault}
use Rattle.cr_preproc.specs.declared.open_file.OpenFile.{OpenFile}
use Rattle.cr_preproc.specs.declared.progress.Progress.{Progress}
use Rattle.cr_preproc.specs.declared.preproc.Ending.{Ending}
use Rattle.cr_preproc.specs.declared.preproc.Ending.TheVariants as ending
use Rattle.cr_preproc.specs.declared.preproc.Firsts.{Firsts}
use Rattle.cr_preproc.specs.declared.preproc.Firsts.TheVariants as firsts
use Rattle.cr_preproc.specs.declared.preproc.PreTurn.TheVariants as pre
use Rattle.cr_preproc.specs.declared.preproc.Preproc.{Preproc}
use Rattle.cr_preproc.specs.declared.turning.Doing.{Doing}
use Rattle.cr_preproc.specs.declared.turning.Doing.TheVariants as doing
use Rattle.cr_preproc.specs.declared.turning.Turned.TheVariants as turned
use Rattle.cr_phase4.specs.Tasks.{State, Reply, Goes, Ends, Task, Nothing, Done, go_on, ◌>>>◌, ready}
use Rattle.cr_phase4.specs.Search.{World, world_of}
use Rattle.cr_phase4.specs.Preprocessing.{does_first_file, preprocessed, at_first}
use Rattle.cr_preproc.specs.OpenFiles.{reads_file, reading_of}
use Rattle.cr_preproc.specs.Progressing.{state_of}
use Rattle.cr_preproc.specs.Turning.{doing_left, IsDoing, IsOpened}
use Rattle.cr_preproc.specs.Preprocs.{firsts_left, files_left, going_left, left_by, left_of, IsOuter, AreOpen, IsGoing, IsSound, IsSameUnit, TurnLeads, path_of, next_of}
use Rattle.cr_preproc.proofs.Leadings.{behind_none, leads_from, leads_to, leads_go}
use Rattle.cr_preproc.proofs.UnitTurns.{left_going, good_going, good_none}

then_ready : (r : Reply Nothing) → go_on r (λ d. ready) ≡ r
then_ready (Goes Done s es) = ap (Goes Done s) (append-nil es)
then_ready (Ends e es) = refl

-- the next file is opened first
firsts_step : (w : World) (u : Unit) (first : Firsts) (path : Text) (s : State) → path_of u first ≡ Some path → firsts_left w u first s ≡ go_on (does_first_file w u path s) (λ d. firsts_left w u (next_of first))
firsts_step w u firsts.Words path s e = ap (λ o. go_on (does_first_file w u o s) (λ d. does_first_file w u u.main)) (some _ path e) where
  some : (a b : Text) → Some a ≡ Some b → a ≡ b
  some a b e = cc
firsts_step w u firsts.Main path s e = sym (then_ready (does_first_file w u u.main s)) ∙ ap (λ o. go_on (does_first_file w u o s) (λ d. ready)) (some _ path e) where
  some : (a b : Text) → Some a ≡ Some b → a ≡ b
  some a b e = cc
firsts_step w u firsts.Nothing path s e = absurd (let no : ⊥ = cc in no)

left_first : (files : List KnownFile) (p : Preproc) → p.ending ≡ None → p.file ≡ None → left_of files p ≡ firsts_left (world_of files) p.unit p.firsts (state_of p.progress)
left_first files p e h = ap (left_by (world_of files) files p) e ∙ ap (going_left (world_of files) files p) h

-- a fresh unit
pub fresh_left : (files : List KnownFile) (p : Preproc) (u : Unit) → p.ending ≡ None → p.file ≡ None → p.firsts ≡ firsts.Words → p.unit ≡ u → state_of p.progress ≡ at_first → left_of files p ≡ preprocessed (world_of files) u
unfolding preprocessed
fresh_left files p u e h f k s =
    left_first files p e h ∙ ap (λ x. firsts_left (world_of files) p.unit x (state_of p.progress)) f ∙ ap (λ x. firsts_left (world_of files) x firsts.Words (state_of p.progress)) k
    ∙ ap (firsts_left (world_of files) u firsts.Words) s

module _ (files : List KnownFile) (p q : Preproc) (path : Text) (same : IsSameUnit p q) (pf : p.file ≡ None) (qf : q.file ≡ None) (pd : p.doing ≡ q.doing) (good : IsSound files p) (first : path_of p.unit p.firsts ≡ Some path) where
  abbrev W : World
  W = world_of files

  abbrev M : Task Nothing
  M = does_first_file W p.unit path

  abbrev K : Task Nothing
  K = firsts_left W p.unit (next_of p.firsts)

  left_p : left_of files p ≡ go_on (M (state_of p.progress)) (λ d. K)
  left_p = left_first files p same.going pf ∙ firsts_step W p.unit p.firsts path (state_of p.progress) first

  opened : AreOpen files p None
  opened = subst (AreOpen files p) pf (subst (IsGoing files p) same.going good).1

  no_outer : q.outer.items ≡ []
  no_outer = ap (λ o. o.items) same.outer ∙ opened.1

  reads : q.doing ≡ doing.Reads
  reads = sym pd ∙ opened.0

  pub first_needs : (paths : Vec Text Global) → IsOpened W p.unit files p.progress q.progress M (turned.Needs paths) → TurnLeads files p q (Some (pre.Needs paths))
  first_needs paths t = (
    left_p ∙ ap (λ r. go_on r (λ d. K)) t.0,
    equal same.alloc same.unit t.1 (qf ∙ sym pf) same.outer same.firsts (sym pd) (same.ending ∙ sym same.going),
  ) where
    equal : {a a1 : Global} {b b1 : Unit} {c c1 : Progress} {d d1 : Option OpenFile} {e e1 : Vec OpenFile Global} {f f1 : Firsts} {g g1 : Doing} {h h1 : Option Ending}
        → a ≡ a1 → b ≡ b1 → c ≡ c1 → d ≡ d1 → e ≡ e1 → f ≡ f1 → g ≡ g1 → h ≡ h1
        → ◌≡◌ {A = Preproc} (record { alloc = a; unit = b; progress = c; file = d; outer = e; firsts = f; doing = g; ending = h }) (record { alloc = a1; unit = b1; progress = c1; file = d1; outer = e1; firsts = f1; doing = g1; ending = h1 })
    equal a b c d e f g h = cc

  pub first_ends : (fault : Fault) → IsOpened W p.unit files p.progress q.progress M (turned.Ends fault) → TurnLeads files p (record q { ending = Some (ending.Ill fault) }) None
  first_ends fault t = (leads_from 0 p.progress q.progress _ _ _ left_p (leads_go 0 p.progress q.progress _ _ (λ d. K) t.0), t.1)

  pub first_goes : IsOpened W p.unit files p.progress q.progress M turned.Goes → TurnLeads files p (record q { firsts = next_of q.firsts }) None
  first_goes t =
      let now : Preproc = record q { firsts = next_of q.firsts } in
      let left : left_of files now ≡ go_on (Goes Done (state_of q.progress) []) (λ d. K) =
      left_first files now same.ending qf ∙ ap (λ u. firsts_left W u (next_of q.firsts) (state_of q.progress)) same.unit ∙ ap (λ f. firsts_left W p.unit (next_of f) (state_of q.progress)) same.firsts ∙ sym (behind_none (K (state_of q.progress))) in
      (leads_from 0 p.progress q.progress _ _ _ left_p (leads_to 0 p.progress q.progress _ _ _ (sym left) (leads_go 0 p.progress q.progress _ _ (λ d. K) t.0)), good_none files now same.ending qf t.1 reads no_outer)

  pub first_opens : (h : OpenFile) → IsOpened W p.unit files p.progress q.progress M (turned.Opens h) → TurnLeads files p (record q { firsts = next_of q.firsts; file = Some h }) None
  first_opens h t =
      let now : Preproc = record q { firsts = next_of q.firsts; file = Some h } in
      let left : left_of files now ≡ (reads_file W p.unit (reading_of q.progress.names files h) >>> λ d. K) (state_of q.progress) =
      left_going files now h same.ending refl
      ∙ ap (λ d. doing_left W q.unit q.progress (reading_of q.progress.names files h) (files_left W q.unit q.progress.names files (next_of q.firsts) (reverse q.outer.items)) d) reads
      ∙ ap (λ o. (reads_file W q.unit (reading_of q.progress.names files h) >>> λ d. files_left W q.unit q.progress.names files (next_of q.firsts) (reverse o)) (state_of q.progress)) no_outer
      ∙ ap (λ u. (reads_file W u (reading_of q.progress.names files h) >>> λ d. firsts_left W u (next_of q.firsts)) (state_of q.progress)) same.unit
      ∙ ap (λ f. (reads_file W p.unit (reading_of q.progress.names files h) >>> λ d. firsts_left W p.unit (next_of f)) (state_of q.progress)) same.firsts in (
        leads_from 0 p.progress q.progress _ _ _ left_p (leads_to 0 p.progress q.progress _ _ _ (sym left) (leads_go 0 p.progress q.progress _ _ (λ d. K) t.0)),
        good_going files now h same.ending refl
            (record { progress = t.1; file = t.2; line = fits t.3 t.1.reading; does = subst (IsDoing q.progress h) (sym reads) tt })
            (subst (IsOuter files q.progress.names) (sym no_outer) tt),
      ) where
        fits : h.line.items ≡ [] → q.progress.reading ≤ 33554432 → length h.line.items + q.progress.reading ≤ 33554432
        fits e r = let z = ap length e in omega (arith, z, r)
