-- What a turn in the innermost file is for the whole unit.
use Rattle.std.proofs.Common.{◌≡◌, ℕ, ◌+◌, ◌≤◌, List, [], ◌∷◌, ◌++◌, length, reverse, refl, sym, ap, ◌∙◌, subst, arith, append-nil, Option, Some, None}
use Rattle.std.proofs.lemmas.List.{reverse-append}
use Rattle.std.specs.Prelude.{Vec, option_to_list}
use Rattle.std.specs.declared.alloc.Global.{Global}
use Rattle.cr_base.specs.declared.unit.Unit.{Unit}
use Rattle.cr_macros.specs.Tokens.{Text}
use Rattle.cr_expand.specs.HideSets.{Grows}
use Rattle.cr_snapshot.specs.declared.known.KnownFile.{KnownFile}
use Rattle.cr_preproc.specs.declared.expansion.Fault.{Fault}
use Rattle.cr_preproc.specs.declared.open_file.OpenFile.{OpenFile}
use Rattle.cr_preproc.specs.declared.progress.Progress.{Progress}
use Rattle.cr_preproc.specs.declared.preproc.Ending.{Ending}
use Rattle.cr_preproc.specs.declared.preproc.Ending.TheVariants as ending
use Rattle.cr_preproc.specs.declared.preproc.Firsts.{Firsts}
use Rattle.cr_preproc.specs.declared.preproc.PreTurn.TheVariants as pre
use Rattle.cr_preproc.specs.declared.preproc.Preproc.{Preproc}
use Rattle.cr_preproc.specs.declared.turning.Doing.{Doing}
use Rattle.cr_preproc.specs.declared.turning.Doing.TheVariants as doing
use Rattle.cr_preproc.specs.declared.turning.Turned.TheVariants as turned
use Rattle.cr_phase4.specs.Tasks.{Task, Nothing, ◌>>>◌}
use Rattle.cr_phase4.specs.Search.{World, world_of}
use Rattle.cr_preproc.specs.OpenFiles.{reads_file, reading_of}
use Rattle.cr_preproc.specs.Progressing.{state_of, IsProgress}
use Rattle.cr_preproc.specs.Leading.{Leads}
use Rattle.cr_preproc.specs.Turning.{doing_left, IsWorking, IsDoing, IsTurned}
use Rattle.cr_preproc.specs.Preprocs.{files_left, going_left, left_by, left_of, IsOuter, AreOpen, IsGoing, IsSound, IsSameUnit, TurnLeads}
use Rattle.cr_preproc.proofs.OpenLater.{reading_later, open_later}
use Rattle.cr_preproc.proofs.Leadings.{leads_from, leads_to}

-- the files around stay as they are as names are added
pub outer_later : (names new : List Text) (files : List KnownFile) (fs : List OpenFile) → Grows names new → IsOuter files names fs → IsOuter files new fs
outer_later names new files [] g h = tt
outer_later names new files (f ∷ fs) g h = ((open_later names new files f g h.0.0, h.0.1), outer_later names new files fs g h.1)

outer_split : (files : List KnownFile) (names : List Text) (fs gs : List OpenFile) → IsOuter files names (fs ++ gs) → IsOuter files names fs × IsOuter files names gs
outer_split files names [] gs h = (tt, h)
outer_split files names (f ∷ fs) gs h = let r = outer_split files names fs gs h.1 in ((h.0, r.0), r.1)

pub outer_join : (files : List KnownFile) (names : List Text) (fs gs : List OpenFile) → IsOuter files names fs → IsOuter files names gs → IsOuter files names (fs ++ gs)
outer_join files names [] gs h k = k
outer_join files names (f ∷ fs) gs h k = (h.0, outer_join files names fs gs h.1 k)

pub outer_reverse : (files : List KnownFile) (names : List Text) (fs : List OpenFile) → IsOuter files names fs → IsOuter files names (reverse fs)
outer_reverse files names [] h = h
outer_reverse files names (f ∷ fs) h = subst (IsOuter files names) (sym (reverse-append (f ∷ []) fs)) (outer_join files names (reverse fs) (f ∷ []) (outer_reverse files names fs h.1) (h.0, tt))

files_later : (w : World) (u : Unit) (names new : List Text) (files : List KnownFile) (firsts : Firsts) (fs : List OpenFile) → Grows names new → IsOuter files names fs → files_left w u new files firsts fs ≡ files_left w u names files firsts fs
files_later w u names new files firsts [] g h = refl
files_later w u names new files firsts (f ∷ fs) g h =
    ap (λ r. reads_file w u r >>> λ d. files_left w u new files firsts fs) (reading_later names new files f g h.0.0)
    ∙ ap (λ k. reads_file w u (reading_of names files f) >>> λ d. k) (files_later w u names new files firsts fs g h.1)

-- what is left of a unit that works on a file
abbrev pub behind_file : List KnownFile → Preproc → Task Nothing
behind_file files p = files_left (world_of files) p.unit p.progress.names files p.firsts (reverse p.outer.items)

pub left_going : (files : List KnownFile) (p : Preproc) (f : OpenFile) → p.ending ≡ None → p.file ≡ Some f
    → left_of files p ≡ doing_left (world_of files) p.unit p.progress (reading_of p.progress.names files f) (behind_file files p) p.doing
left_going files p f e h = ap (left_by (world_of files) files p) e ∙ ap (going_left (world_of files) files p) h

pub good_going : (files : List KnownFile) (p : Preproc) (f : OpenFile) → p.ending ≡ None → p.file ≡ Some f → IsWorking files p.progress f p.doing → IsOuter files p.progress.names p.outer.items → IsSound files p
good_going files p f e h w o = subst (IsGoing files p) (sym e) (w.progress, subst (AreOpen files p) (sym h) (w, o))

pub good_none : (files : List KnownFile) (p : Preproc) → p.ending ≡ None → p.file ≡ None → IsProgress p.progress → p.doing ≡ doing.Reads → p.outer.items ≡ [] → IsSound files p
good_none files p e h g d o = subst (IsGoing files p) (sym e) (g, subst (AreOpen files p) (sym h) (d, o))

-- the unit as a turn in its innermost file left it
module _ (files : List KnownFile) (p q : Preproc) (f g : OpenFile) (same : IsSameUnit p q) (pf : p.file ≡ Some f) (qf : q.file ≡ Some g) (outer : IsOuter files p.progress.names p.outer.items) where
  abbrev W : World
  W = world_of files

  -- what comes behind the file is the same
  behind_same : Grows p.progress.names q.progress.names → behind_file files q ≡ behind_file files p
  behind_same gr =
      ap (λ u. files_left W u q.progress.names files q.firsts (reverse q.outer.items)) same.unit
      ∙ ap (λ x. files_left W p.unit q.progress.names files x (reverse q.outer.items)) same.firsts
      ∙ ap (λ o. files_left W p.unit q.progress.names files p.firsts (reverse o.items)) same.outer
      ∙ files_later W p.unit p.progress.names q.progress.names files p.firsts (reverse p.outer.items) gr (outer_reverse files p.progress.names p.outer.items outer)

  outer_now : Grows p.progress.names q.progress.names → IsOuter files q.progress.names q.outer.items
  outer_now gr = subst (λ o. IsOuter files q.progress.names o.items) (sym same.outer) (outer_later p.progress.names q.progress.names files p.outer.items gr outer)

  left_p : left_of files p ≡ doing_left W p.unit p.progress (reading_of p.progress.names files f) (behind_file files p) p.doing
  left_p = left_going files p f same.going pf

  goes_on : (n : ℕ) → ((k : Task Nothing) → Leads n p.progress q.progress (doing_left W p.unit p.progress (reading_of p.progress.names files f) k p.doing) (doing_left W p.unit q.progress (reading_of q.progress.names files g) k q.doing)) × IsWorking files q.progress g q.doing
      → Leads n p.progress q.progress (left_of files p) (left_of files q) × IsSound files q
  goes_on n h =
      let l = h.0 (behind_file files p) in (
        leads_from n p.progress q.progress _ _ _ left_p
            (leads_to n p.progress q.progress _ _ _
            (ap (λ k. doing_left W p.unit q.progress (reading_of q.progress.names files g) k q.doing) (sym (behind_same l.told.names))
            ∙ ap (λ u. doing_left W u q.progress (reading_of q.progress.names files g) (behind_file files q) q.doing) (sym same.unit)
            ∙ sym (left_going files q g same.ending qf)) l),
        good_going files q g same.ending qf h.1 (outer_now l.told.names),
      )

  pub steps_turn : IsTurned W p.unit files p.progress q.progress f g p.doing q.doing turned.Steps → TurnLeads files p q (Some pre.More)
  steps_turn h = goes_on 1 h

  pub goes_turn : IsTurned W p.unit files p.progress q.progress f g p.doing q.doing turned.Goes → TurnLeads files p q None
  goes_turn h = goes_on 0 h

  pub needs_turn : (paths : Vec Text Global) → IsTurned W p.unit files p.progress q.progress f g p.doing q.doing (turned.Needs paths) → TurnLeads files p q (Some (pre.Needs paths))
  needs_turn paths h = (
    left_p ∙ h.0 (behind_file files p),
    equal same.alloc same.unit h.1 (qf ∙ ap Some h.2 ∙ sym pf) same.outer same.firsts h.3 (same.ending ∙ sym same.going),
  ) where
    equal : {a a1 : Global} {b b1 : Unit} {c c1 : Progress} {d d1 : Option OpenFile} {e e1 : Vec OpenFile Global} {f f1 : Firsts} {g g1 : Doing} {h h1 : Option Ending}
        → a ≡ a1 → b ≡ b1 → c ≡ c1 → d ≡ d1 → e ≡ e1 → f ≡ f1 → g ≡ g1 → h ≡ h1
        → ◌≡◌ {A = Preproc} (record { alloc = a; unit = b; progress = c; file = d; outer = e; firsts = f; doing = g; ending = h }) (record { alloc = a1; unit = b1; progress = c1; file = d1; outer = e1; firsts = f1; doing = g1; ending = h1 })
    equal a b c d e f g h = cc

  pub ends_turn : (fault : Fault) → IsTurned W p.unit files p.progress q.progress f g p.doing q.doing (turned.Ends fault) → TurnLeads files p (record q { ending = Some (ending.Ill fault) }) None
  ends_turn fault h = (leads_from 0 p.progress q.progress _ _ _ left_p (h.0 (behind_file files p)), h.1)

  opens_now : (h : OpenFile) (outer1 : Vec OpenFile Global) → outer1.items ≡ q.outer.items ++ g ∷ [] → IsTurned W p.unit files p.progress q.progress f g p.doing q.doing (turned.Opens h)
      → TurnLeads files p (record q { file = Some h; outer = outer1 }) None
  opens_now h outer1 e t =
      let l = t.0 (behind_file files p) in
      let now : Preproc = record q { file = Some h; outer = outer1 } in
      let back : reverse outer1.items ≡ g ∷ reverse q.outer.items = ap reverse e ∙ reverse-append q.outer.items (g ∷ []) in
      let left : left_of files now ≡ (reads_file W p.unit (reading_of q.progress.names files h) >>> λ n. reads_file W p.unit (reading_of q.progress.names files g) >>> λ n. behind_file files p) (state_of q.progress) =
      left_going files now h same.ending refl
      ∙ ap (λ d. doing_left W q.unit q.progress (reading_of q.progress.names files h) (behind_file files now) d) t.4
      ∙ ap (λ l. (reads_file W q.unit (reading_of q.progress.names files h) >>> λ n. files_left W q.unit q.progress.names files q.firsts l) (state_of q.progress)) back
      ∙ ap (λ u. (reads_file W u (reading_of q.progress.names files h) >>> λ n. reads_file W u (reading_of q.progress.names files g) >>> λ n. behind_file files q) (state_of q.progress)) same.unit
      ∙ ap (λ k. (reads_file W p.unit (reading_of q.progress.names files h) >>> λ n. reads_file W p.unit (reading_of q.progress.names files g) >>> λ n. k) (state_of q.progress)) (behind_same l.told.names) in (
        leads_from 0 p.progress q.progress _ _ _ left_p (leads_to 0 p.progress q.progress _ _ _ (sym left) l),
        good_going files now h same.ending refl
            (record { progress = t.1; file = t.3; line = fits h t.6 t.1.reading; does = subst (IsDoing q.progress h) (sym t.4) tt })
            (subst (IsOuter files q.progress.names) (sym e) (outer_join files q.progress.names q.outer.items (g ∷ []) (outer_now l.told.names) ((t.2, t.5), tt))),
      ) where
        fits : (h : OpenFile) → h.line.items ≡ [] → q.progress.reading ≤ 33554432 → length h.line.items + q.progress.reading ≤ 33554432
        fits h e r = let z = ap length e in omega (arith, z, r)

  pub opens_turn : (h : OpenFile) (now : Preproc) → (now ≡ record q { file = Some h; outer = now.outer }) × (now.outer.items ≡ q.outer.items ++ g ∷ []) → IsTurned W p.unit files p.progress q.progress f g p.doing q.doing (turned.Opens h)
      → TurnLeads files p now None
  opens_turn h now e t = subst (λ x. TurnLeads files p x None) (sym e.0) (opens_now h now.outer e.1 t)

  pub closes_turn : (popped : Option OpenFile) (outer1 : Vec OpenFile Global) → q.outer.items ≡ outer1.items ++ option_to_list popped → (popped ≡ None → outer1.items ≡ [])
      → IsTurned W p.unit files p.progress q.progress f g p.doing q.doing turned.Closes
      → TurnLeads files p (record q { file = popped; outer = outer1; doing = doing.Reads }) None
  closes_turn None outer1 e n t =
      let l = t.0 (behind_file files p) in
      let now : Preproc = record q { file = None; outer = outer1; doing = doing.Reads } in
      let none : q.outer.items ≡ [] = e ∙ append-nil outer1.items ∙ n refl in
      let left : left_of files now ≡ behind_file files p (state_of q.progress) =
      ap (left_by W files now) same.ending
      ∙ ap (λ o. files_left W q.unit q.progress.names files q.firsts o (state_of q.progress)) (sym (ap reverse none))
      ∙ ap (λ k. k (state_of q.progress)) (behind_same l.told.names) in
      (leads_from 0 p.progress q.progress _ _ _ left_p (leads_to 0 p.progress q.progress _ _ _ (sym left) l), good_none files now same.ending refl t.1 refl (n refl))
  closes_turn (Some x) outer1 e n t =
      let l = t.0 (behind_file files p) in
      let now : Preproc = record q { file = Some x; outer = outer1; doing = doing.Reads } in
      let back : reverse q.outer.items ≡ x ∷ reverse outer1.items = ap reverse e ∙ reverse-append outer1.items (x ∷ []) in
      let left : left_of files now ≡ behind_file files p (state_of q.progress) =
      left_going files now x same.ending refl
      ∙ ap (λ o. files_left W q.unit q.progress.names files q.firsts o (state_of q.progress)) (sym back)
      ∙ ap (λ k. k (state_of q.progress)) (behind_same l.told.names) in
      let both = outer_split files q.progress.names outer1.items (x ∷ []) (subst (IsOuter files q.progress.names) e (outer_now l.told.names)) in (
        leads_from 0 p.progress q.progress _ _ _ left_p (leads_to 0 p.progress q.progress _ _ _ (sym left) l),
        good_going files now x same.ending refl (record { progress = t.1; file = both.1.0.0; line = fits both.1.0.1 t.1.reading; does = tt }) both.0,
      ) where
        fits : x.line.items ≡ [] → q.progress.reading ≤ 33554432 → length x.line.items + q.progress.reading ≤ 33554432
        fits e r = let z = ap length e in omega (arith, z, r)
