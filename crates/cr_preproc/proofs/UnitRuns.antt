-- Steps that are made one after another give the unit's preprocessing.
use Rattle.std.proofs.Common.{◌≡◌, ℕ, suc, ◌+◌, List, [], ◌++◌, map, sym, ap, subst, ◌∙◌, arith, append-nil}
use Rattle.cr_base.specs.declared.unit.Unit.{Unit}
use Rattle.cr_macros.specs.Definition.{text_of}
use Rattle.cr_macros.specs.Tokens.{Text, tokens_of}
use Rattle.cr_expand.specs.Expanders.{plain}
use Rattle.cr_snapshot.specs.declared.known.KnownFile.{KnownFile}
use Rattle.cr_preproc.specs.declared.preproc.Preproc.{Preproc}
use Rattle.cr_phase4.specs.Tasks.{Needs, Event, Reply, Goes, Ends, Nothing, Done, behind}
use Rattle.cr_phase4.specs.PreprocessingRun.{final_tokens}
use Rattle.cr_phase4.specs.Preprocessing.{preprocessed}
use Rattle.cr_phase4.specs.Search.{world_of}
use Rattle.cr_phase4.specs.Traces.{trace_of}
use Rattle.cr_preproc.specs.Progressing.{state_of, joined, traced}
use Rattle.cr_preproc.specs.Expanding.{end_by}
use Rattle.cr_preproc.specs.Leading.{Leads}
use Rattle.cr_preproc.specs.Preprocs.{left_of, left_by, IsFresh, Run, Begins, Steps, AreMade, GoesByTheDefinition, EndsByTheDefinition}
use Rattle.cr_preproc.proofs.Leadings.{leads_same, leads_then}

reached : (unit : Unit) (old new : Text) (files : List KnownFile) (first p : Preproc) (n : ℕ) → IsFresh unit old new first → Run files first n p → Leads n first.progress p.progress (left_of files first) (left_of files p)
reached unit old new files first p n fresh Begins = leads_same first.progress (left_of files first)
reached unit old new files first p n fresh (Steps {n = m} {p = before} run q s) =
    let more : m + 1 ≡ suc m = omega arith in
    subst (λ k. Leads k first.progress q.progress (left_of files first) (left_of files q)) more
    (leads_then m 1 first.progress before.progress q.progress (left_of files first) (left_of files before) (left_of files q) fresh.progress (reached unit old new files first before m fresh run) s.leads.1)

-- the events that led to here
made : (unit : Unit) (old new : Text) (first q : Preproc) (n : ℕ) (r s : Reply Nothing) → IsFresh unit old new first → (l : Leads n first.progress q.progress r s) → AreMade old new n q l.events
made unit old new first q n r s fresh l = record {
  size = l.size;
  tokens = l.told.tokens ∙ ap (λ ts. tokens_of first.progress.names ts ++ map plain (final_tokens l.events)) fresh.tokens;
  trace = l.told.trace ∙ ap (λ t. joined t (traced first.progress l.events)) fresh.trace
      ∙ ap (λ o. trace_of o (text_of first.progress.names first.progress.renaming.new) l.events) fresh.old_text ∙ ap (λ n. trace_of old n l.events) fresh.new_text;
}

pub goes_by_the_definition : GoesByTheDefinition
goes_by_the_definition unit old new files first p n fresh run =
    let l = reached unit old new files first p n fresh run in
    record { events = l.events; so_far = sym (fresh.left files) ∙ l.goes; made = made unit old new first p n _ _ fresh l }

-- with what leads to the end
last : (unit : Unit) (old new : Text) (files : List KnownFile) (first p q : Preproc) (n : ℕ) (end : Reply Nothing) → IsFresh unit old new first → Run files first n p → Leads 0 p.progress q.progress (left_of files p) end
    → (events : List Event) × (preprocessed (world_of files) unit ≡ behind events end) × AreMade old new n q events
last unit old new files first p q n end fresh run l =
    let all = leads_then n 0 first.progress p.progress q.progress (left_of files first) (left_of files p) end fresh.progress (reached unit old new files first p n fresh run) l in
    let same : n + 0 ≡ n = omega arith in
    (all.events, sym (fresh.left files) ∙ all.goes, subst (λ k. AreMade old new k q all.events) same (made unit old new first q (n + 0) _ _ fresh all))

pub ends_by_the_definition : EndsByTheDefinition
ends_by_the_definition unit old new files first p q n fresh run = (
  (λ s.
      let l = last unit old new files first p q n (left_of files q) fresh run s.leads.1 in (
        state_of q.progress,
        l.0,
        l.1 ∙ ap (λ e. behind l.0 (left_by (world_of files) files q e)) s.leads.0 ∙ ap (Goes Done (state_of q.progress)) (append-nil l.0),
        l.2,
      )),
  (λ fault s.
      let l = last unit old new files first p q n (left_of files q) fresh run s.leads.1 in (
        l.0,
        l.1 ∙ ap (λ e. behind l.0 (left_by (world_of files) files q e)) s.leads.0 ∙ ap (Ends (end_by fault)) (append-nil l.0),
        l.2,
      )),
  (λ paths s.
      let l = last unit old new files first p q n (Ends (Needs paths.items) []) fresh run s.leads.0 in
      (l.0, l.1 ∙ ap (Ends (Needs paths.items)) (append-nil l.0), l.2)),
)
