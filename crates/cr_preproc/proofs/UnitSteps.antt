-- Turns one after another, up to a step or the unit's end.
use Rattle.std.proofs.Common.{◌≡◌, List, [], refl, sym, ap, ◌∙◌, subst, Some, None}
use Rattle.std.specs.Prelude.{Vec, Result, Ok, IfOk}
use Rattle.cr_base.specs.declared.memory.OutOfMemory.{OutOfMemory}
use Rattle.std.specs.declared.alloc.Global.{Global}
use Rattle.cr_base.specs.declared.unit.Unit.{Unit}
use Rattle.cr_macros.specs.Tokens.{Text}
use Rattle.cr_snapshot.specs.declared.known.KnownFile.{KnownFile}
use Rattle.cr_preproc.specs.declared.open_file.OpenFile.{OpenFile}
use Rattle.cr_preproc.specs.declared.progress.Progress.{Progress}
use Rattle.cr_preproc.specs.declared.preproc.Ending.{Ending}
use Rattle.cr_preproc.specs.declared.preproc.Ending.TheVariants as ending
use Rattle.cr_preproc.specs.declared.preproc.Firsts.{Firsts}
use Rattle.cr_preproc.specs.declared.preproc.Firsts.TheVariants as firsts
use Rattle.cr_preproc.specs.declared.preproc.PreTurn.{PreTurn}
use Rattle.cr_preproc.specs.declared.preproc.PreTurn.TheVariants as pre
use Rattle.cr_preproc.specs.declared.preproc.Preproc.{Preproc}
use Rattle.cr_preproc.specs.declared.turning.Turned.{Turned}
use Rattle.cr_preproc.specs.declared.turning.Turned.TheVariants as turned
use Rattle.cr_phase4.specs.Tasks.{Needs, Goes, Ends, Task, Nothing, Done}
use Rattle.cr_phase4.specs.Search.{World, world_of}
use Rattle.cr_preproc.specs.Progressing.{state_of, IsProgress}
use Rattle.cr_preproc.specs.Leading.{Leads}
use Rattle.cr_preproc.specs.Turning.{IsOpened, IsWorking}
use Rattle.cr_preproc.specs.Preprocs.{firsts_left, going_left, left_by, left_of, IsOuter, AreOpen, IsGoing, IsSound, IsSameUnit, IsOfSearch, TurnLeads, IsTurn, IsPreStep, IsSilent, answer_of, path_of}
use Rattle.cr_preproc.proofs.Leadings.{leads_same, leads_then, leads_from}

pub going_is : (files : List KnownFile) (p : Preproc) → p.ending ≡ None → IsSound files p → IsProgress p.progress × AreOpen files p p.file
going_is files p e good = subst (IsGoing files p) e good

-- the file that is worked on, and those around it
pub working_is : (files : List KnownFile) (p : Preproc) (f : OpenFile) → p.ending ≡ None → p.file ≡ Some f → IsSound files p → IsWorking files p.progress f p.doing × IsOuter files p.progress.names p.outer.items
working_is files p f e h good = subst (AreOpen files p) h (going_is files p e good).1

-- all is opened and read
pub done_turn : (files : List KnownFile) (p : Preproc) → p.ending ≡ None → p.file ≡ None → path_of p.unit p.firsts ≡ None → IsSound files p → TurnLeads files p (record p { ending = Some ending.Done }) None
done_turn files p e h f good = (
  leads_from 0 p.progress p.progress _ _ _ (ap (left_by (world_of files) files p) e ∙ ap (going_left (world_of files) files p) h ∙ nothing p.firsts f) (leads_same p.progress (Goes Done (state_of p.progress) [])),
  (going_is files p e good).0,
) where
  nothing : (first : Firsts) → path_of p.unit first ≡ None → firsts_left (world_of files) p.unit first (state_of p.progress) ≡ Goes Done (state_of p.progress) []
  nothing firsts.Words f = absurd (let no : ⊥ = cc in no)
  nothing firsts.Main f = absurd (let no : ⊥ = cc in no)
  nothing firsts.Nothing f = refl

pub of_search : (w : World) (u : Unit) (files : List KnownFile) (p q : Progress) (m : Task Nothing) (t : Turned) → IsOpened w u files p q m t → IsOfSearch t
of_search w u files p q m turned.Steps h = h
of_search w u files p q m turned.Closes h = h
of_search w u files p q m turned.Goes h = tt
of_search w u files p q m (turned.Opens f) h = tt
of_search w u files p q m (turned.Needs paths) h = tt
of_search w u files p q m (turned.Ends fault) h = tt

pub same_but_progress : (p q : Preproc) → p.ending ≡ None → q ≡ record p { progress = q.progress } → IsSameUnit p q
same_but_progress p q e h = record {
  alloc = ap (λ x. x.alloc) h;
  unit = ap (λ x. x.unit) h;
  outer = ap (λ x. x.outer) h;
  firsts = ap (λ x. x.firsts) h;
  going = e;
  ending = ap (λ x. x.ending) h ∙ e;
}

pub silent_begins : (files : List KnownFile) (p : Preproc) → IsSound files p → p.ending ≡ None → IsSilent files p p
silent_begins files p good e = record { leads = leads_same p.progress (left_of files p); sound = good; going = e }

module _ (files : List KnownFile) (p q r : Preproc) (start : IsProgress p.progress) (s : IsSilent files p q) where
  pub silent_turn : IsTurn files q r None → r.ending ≡ None → IsSilent files p r
  silent_turn t e = record { leads = leads_then 0 0 p.progress q.progress r.progress _ _ _ start s.leads t.leads.0; sound = t.leads.1; going = e }

  pub silent_more : p.ending ≡ None → IsTurn files q r (Some pre.More) → IsPreStep files p r pre.More
  silent_more e t = record { leads = (e, leads_then 0 1 p.progress q.progress r.progress _ _ _ start s.leads t.leads.0) }

  pub silent_needs : (paths : Vec Text Global) → IsTurn files q r (Some (pre.Needs paths)) → IsPreStep files p r (pre.Needs paths)
  silent_needs paths t =
      let same : left_of files q ≡ left_of files r = ap (left_of files) (sym t.leads.1) in
      record { leads = (subst (λ x. Leads {A = Nothing} 0 p.progress x.progress (left_of files p) (Ends (Needs paths.items) [])) (sym t.leads.1) (subst (Leads 0 p.progress q.progress (left_of files p)) t.leads.0 s.leads), sym same ∙ t.leads.0) }

  pub silent_ends : (end : Ending) (answer : PreTurn) → IsTurn files q r None → r.ending ≡ Some end → answer_of end ≡ Ok answer → IsPreStep files p r answer
  silent_ends ending.Done answer t e a =
      let same : pre.Done ≡ answer = cc in
      subst (IsPreStep files p r) same (record { leads = (e, leads_then 0 0 p.progress q.progress r.progress _ _ _ start s.leads t.leads.0) })
  silent_ends (ending.Ill fault) answer t e a =
      let same : pre.Ill fault.cause fault.place ≡ answer = cc in
      subst (IsPreStep files p r) same (record { leads = (e, leads_then 0 0 p.progress q.progress r.progress _ _ _ start s.leads t.leads.0) })
  silent_ends ending.OutOfMemory answer t e a = absurd (let no : ⊥ = cc in no)

  -- the answer where a turn has ended the unit
  pub ends_answer : (end : Ending) → IsTurn files q r None → r.ending ≡ Some end → (result : Result PreTurn OutOfMemory) → result ≡ answer_of end → IfOk result (λ turn. IsPreStep files p r turn)
  ends_answer ending.Done t e result a = subst (λ x. IfOk x (λ turn. IsPreStep files p r turn)) (sym a) (silent_ends ending.Done pre.Done t e refl)
  ends_answer (ending.Ill fault) t e result a = subst (λ x. IfOk x (λ turn. IsPreStep files p r turn)) (sym a) (silent_ends (ending.Ill fault) (pre.Ill fault.cause fault.place) t e refl)
  ends_answer ending.OutOfMemory t e result a = subst (λ x. IfOk x (λ turn. IsPreStep files p r turn)) (sym a) tt

  -- a turn that was a step, or wants files
  pub turn_answer : (turn : PreTurn) → p.ending ≡ None → IsTurn files q r (Some turn) → IsPreStep files p r turn
  turn_answer pre.More e t = silent_more e t
  turn_answer (pre.Needs paths) e t = silent_needs paths t
  turn_answer pre.Done e t = absurd t.leads
  turn_answer (pre.Ill why place) e t = absurd t.leads

-- where a unit has ended it answers so
pub ended_step : (files : List KnownFile) (p : Preproc) (end : Ending) (answer : PreTurn) → p.ending ≡ Some end → answer_of end ≡ Ok answer → IsPreStep files p p answer
ended_step files p ending.Done answer e a = let same : pre.Done ≡ answer = cc in subst (IsPreStep files p p) same (record { leads = (e, leads_same p.progress (left_of files p)) })
ended_step files p (ending.Ill fault) answer e a = let same : pre.Ill fault.cause fault.place ≡ answer = cc in subst (IsPreStep files p p) same (record { leads = (e, leads_same p.progress (left_of files p)) })
ended_step files p ending.OutOfMemory answer e a = absurd (let no : ⊥ = cc in no)

-- the units after such turns are good
pub good_more : (files : List KnownFile) (q r : Preproc) → IsTurn files q r (Some pre.More) → IsSound files r
good_more files q r t = t.leads.1

pub good_needs : (files : List KnownFile) (q r : Preproc) (paths : Vec Text Global) → IsSound files q → IsTurn files q r (Some (pre.Needs paths)) → IsSound files r
good_needs files q r paths good t = subst (IsSound files) (sym t.leads.1) good
