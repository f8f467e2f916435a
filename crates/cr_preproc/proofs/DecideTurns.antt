-- What a turn does in the list of a conditional that fails or is at its end.
use Rattle.std.proofs.Common.{◌≡◌, ◌-◌, ℕ, List, [], ◌++◌, refl, sym, ap, ◌∙◌, subst}
use Rattle.std.specs.Prelude.{Vec}
use Rattle.std.specs.declared.alloc.Global.{Global}
use Rattle.cr_base.specs.declared.token.Place.{Place}
use Rattle.cr_base.specs.declared.token.PpTok.{PpTok}
use Rattle.cr_base.specs.declared.unit.Unit.{Unit}
use Rattle.cr_macros.specs.Tokens.{Token, tokens_of, Answer, Gave}
use Rattle.cr_snapshot.specs.declared.known.KnownFile.{KnownFile}
use Rattle.cr_expand.specs.declared.machine.TheConstants.{LIMIT}
use Rattle.cr_preproc.specs.declared.conditional.Decision.{Decision}
use Rattle.cr_preproc.specs.declared.expansion.Fault.{Fault}
use Rattle.cr_preproc.specs.declared.listing.Listing.{Listing}
use Rattle.cr_preproc.specs.declared.open_file.OpenFile.{OpenFile}
use Rattle.cr_preproc.specs.declared.progress.Progress.{Progress}
use Rattle.cr_preproc.specs.declared.turning.Doing.{Doing}
use Rattle.cr_preproc.specs.declared.turning.Doing.TheVariants as doing
use Rattle.cr_phase4.specs.Tasks.{End, State, Reply, Ends, Task, Nothing, go_on, at_place, moved, events_of}
use Rattle.cr_phase4.specs.Search.{World}
use Rattle.cr_phase4.specs.Runs.{runs, earlier}
use Rattle.cr_preproc.specs.OpenFiles.{Reading, reading_of, IsOpen}
use Rattle.cr_preproc.specs.Progressing.{state_of, IsProgress, IsTold}
use Rattle.cr_preproc.specs.Listings.{IsOneMore, IsListEnd}
use Rattle.cr_preproc.specs.Expanding.{StopsAt, still_in, end_by}
use Rattle.cr_preproc.specs.Leading.{Leads, decided}
use Rattle.cr_preproc.specs.Turning.{doing_left, decision_left, IsNext, IsWorking}
use Rattle.cr_expand.specs.GoodMacros.{KeepsMacros}
use Rattle.cr_preproc.proofs.OpenLater.{reading_later}
use Rattle.cr_preproc.proofs.Leadings.{behind_none, leads_from, leads_to}
use Rattle.cr_preproc.proofs.Turns.{stop_ends}
use Rattle.cr_preproc.proofs.ListsLeft.{decides_left, decides_on, decides_same, decides_end, noted_state}

-- The list stops, and the unit ends as its run does where that ends it.
pub fails_next : (w : World) (u : Unit) (r : Reading) (k : Task Nothing) (d : Decision) (hash : Place) (p q : Progress) (s : State) (given : List Token) (a : Answer (List Token)) (end : End) (f : Fault) (x y : Reply Nothing)
    → StopsAt a end → end_by f ≡ moved hash end → x ≡ runs r.path r.run s → y ≡ Ends (earlier (end_by f) x) (events_of x) → IsTold p q [] → Leads 0 p q (decides_left w u r k d hash s given a) y
fails_next w u r k d hash p q s given a end f x y h e same left_is told1 = record {
  events = [];
  size = refl;
  goes =
      ap (λ z. decision_left w u r k s (go_on (at_place hash z) (λ more. decided d hash r.open_ifs (given ++ more)))) (stop_ends s a end h)
      ∙ sym (left_is
      ∙ ap {A = Reply Nothing} {B = Reply Nothing} (λ z. Ends (earlier (end_by f) z) (events_of z)) same
      ∙ ap {A = End} {B = Reply Nothing} (λ z. Ends (earlier z (runs r.path r.run s)) (events_of (runs r.path r.run s))) e)
      ∙ sym (behind_none y);
  told = told1;
}

-- A use of a rule was made in the list.
module _ (law : KeepsMacros) (w : World) (u : Unit) (files : List KnownFile) (p q : Progress) (f : OpenFile) (l m : Listing) (d : Decision) (good : IsProgress p) (o : IsOpen p.names files f) (more : IsOneMore p q l m) where
  pub decides_more : (k : Task Nothing) → Leads 1 p q (doing_left w u p (reading_of p.names files f) k (doing.Decides l d)) (doing_left w u q (reading_of q.names files f) k (doing.Decides m d))
  decides_more k =
      let now = tokens_of q.names m.given.items in
      let still = still_in q m.expansion.value in
      leads_to 1 p q _ _ _
      (decides_same w u (reading_of p.names files f) (reading_of q.names files f) k d l.hash (state_of p) (state_of q) now still
      (reading_later p.names q.names files f more.noted.told.names o) (noted_state p q more.told law good more.noted)
      ∙ ap (λ (h : Place). decides_left w u (reading_of q.names files f) k d h (state_of q) now still) (sym more.hash))
      (decides_on w u (reading_of p.names files f) k d l.hash p q (state_of p) (tokens_of p.names l.given.items) now more.gave more.told (still_in p l.expansion.value) still
      more.noted more.one more.still more.given)

-- The list is at its end, where a use of a rule changes nothing.
pub ends_next : (w : World) (u : Unit) (files : List KnownFile) (p q v : Progress) (f g : OpenFile) (l m : Listing) (d : Decision) (us : List PpTok) (n : ℕ) (next : Doing)
    → n ≡ m.expansion.value.expander.machine.used → IsListEnd p q l m → us ≡ m.given.items
    → IsNext w u files q v g next (λ k. decision_left w u (reading_of q.names files f) k (state_of q) (decided d m.hash f.open_ifs (tokens_of q.names us) (state_of (record q { used = n }))))
    → ((k : Task Nothing) → Leads 0 p v (doing_left w u p (reading_of p.names files f) k (doing.Decides l d)) (doing_left w u v (reading_of v.names files g) k next)) × IsWorking files v g next
ends_next w u files p q v f g l m d us n next n_is end us_is h =
    let same =
    subst (λ (x : Place). IsNext w u files p v g next (λ k. decision_left w u (reading_of p.names files f) k (state_of p) (decided d x f.open_ifs (tokens_of p.names l.given.items) (state_of (record p { used = n }))))) end.hash
    (subst (λ (ts : List PpTok). IsNext w u files p v g next (λ k. decision_left w u (reading_of p.names files f) k (state_of p) (decided d m.hash f.open_ifs (tokens_of p.names ts) (state_of (record p { used = n }))))) (us_is ∙ ap (λ (x : Vec PpTok Global). x.items) end.given)
    (subst (λ (y : Progress). IsNext w u files y v g next (λ k. decision_left w u (reading_of y.names files f) k (state_of y) (decided d m.hash f.open_ifs (tokens_of y.names us) (state_of (record y { used = n }))))) end.same h)) in (
      (λ k. leads_from 0 p v _ _ _
          (decides_end w u (reading_of p.names files f) k d l.hash (state_of p) (tokens_of p.names l.given.items) (still_in p l.expansion.value) (LIMIT - n) (end.still ∙ ap (λ x. Gave [] (LIMIT - x) []) (sym n_is)))
          (same.0 k)),
      same.1,
    )
