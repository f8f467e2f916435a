-- Events of a unit come, and what is kept is what is bound of them.
use Rattle.std.proofs.Common.{◌≡◌, ℕ, Bool, Some, None, Ok, Err, List, [], ◌∷◌, ◌++◌, sym, ap, subst}
use Rattle.std.specs.Prelude.{Result}
use Rattle.cr_base.specs.declared.cause.IllCause.{IllCause}
use Rattle.cr_grammar.specs.declared.symbols.NonTerm.{NonTerm}
use Rattle.cr_grammar.specs.declared.symbols.Action.{Action}
use Rattle.cr_ll.specs.declared.state.Event.{Event}
use Rattle.cr_ll.specs.declared.state.Event.TheVariants as event
use Rattle.cr_ll.specs.Derivation.{Item, Passed, Due, Asked}
use Rattle.cr_ll.specs.Laws.{unit}
use Rattle.cr_ll.specs.Machine.{Config, at, Run}
use Rattle.cr_binding.specs.Source.{Source}
use Rattle.cr_binding.specs.WellFormed.{terminals_of, IsIll}
use Rattle.cr_known.specs.Known.{Known, known_first, known_open, known_close, known_pass, known_act, known_ask}
use Rattle.cr_names.specs.declared.fault.BindFault.{BindFault}
use Rattle.cr_names.specs.declared.fault.BindFault.TheVariants as fault
use Rattle.cr_names.specs.Names as names
use Rattle.cr_nodes.specs.declared.nodes.Before.{Before}
use Rattle.cr_nodes.specs.declared.nodes.Before.TheVariants as before
use Rattle.cr_nodes.specs.declared.nodes.NodesFault.{NodesFault}
use Rattle.cr_nodes.specs.declared.nodes.NodesFault.TheVariants.{Unfit}
use Rattle.cr_nodes.specs.Advancing.{Advances}
use Rattle.cr_nodes.specs.Moves as moves
use Rattle.cr_nodes.specs.Moves.{OpenNodes, at_start, replied}
use Rattle.cr_nodes.specs.Gathering.{at_first, opening, closing, passing, acting, asking}
use Rattle.cr_nodes.specs.Laws.{event_of}
use Rattle.cr_walk.specs.Seen.{answer_here, Sees}
use Rattle.cr_walk.specs.Laws.{Answers, Refuses, BeginsSeen, OpensAreSeen, ClosesAreSeen, TokensAreSeen, ActionsAreSeen, AsksAreSeen, TokensAreIll, ActionsAreIll, EndIsBound, EventsFit, EndFits}
use Rattle.cr_binder.specs.declared.binder.Binder.{Binder}
use Rattle.cr_binder.specs.Binder.{known_of, Keeps, Goes, Fails, Does}
use Rattle.cr_sema.specs.declared.walk.Walk.{Walk}
use Rattle.cr_sema.specs.Walking.{HasCome, MayCome, IsLed, IsBoundBy, Takes}

abbrev pub walk : OpenNodes → Binder → Walk
walk c b = record { nodes = c; binder = b }

-- ---- the start

pub begun : BeginsSeen → (t : Source) (c : OpenNodes) → c ≡ at_start → (b : Binder) → Keeps t known_first b → HasCome t [] (walk c b)
begun law t c is b keeps = record {
  gathered = at_first;
  sees =
      subst (λ d. Sees t [] (known_of b) d at_first) (sym is)
      (subst (λ k. Sees t [] k at_start at_first) (sym keeps.known) (law t));
  of = keeps.of;
}

-- ---- nodes

module _ (t : Source) (es : List Item) (e : Event) (old : Walk) (come : HasCome t es old) (c : OpenNodes) where
  pub opened : (m : NonTerm) (b : Binder) → OpensAreSeen → Answers t old.nodes e (before.Opens m) c → Goes old.binder (known_open m) b
      → HasCome t es (walk c b)
  opened m b law answers goes =
      let k = goes t come.of in
      record {
        gathered = opening m come.gathered;
        sees = subst (λ x. Sees t es x c (opening m come.gathered)) (sym k.known) (law t es (known_of old.binder) old.nodes c come.gathered e m come.sees answers);
        of = k.of;
      }

  pub closed : (b : Binder) → ClosesAreSeen → Answers t old.nodes e before.Closes c → Goes old.binder known_close b
      → HasCome t es (walk c b)
  closed b law answers goes =
      let k = goes t come.of in
      record {
        gathered = closing come.gathered;
        sees = subst (λ x. Sees t es x c (closing come.gathered)) (sym k.known) (law t es (known_of old.binder) old.nodes c come.gathered e come.sees answers);
        of = k.of;
      }

  pub led : Answers t old.nodes e before.Nothing c → IsLed t es e (walk c old.binder)
  led answers = record { nodes = old.nodes; gathered = come.gathered; sees = come.sees; answers = answers; of = come.of }

-- the event that comes fits
item_fits : (t : Source) (e : Event) (old : Walk) (c : OpenNodes) (es : List Item) → EventsFit → HasCome t es old
    → (next : Item) (m : Config) → Run (terminals_of t) (at 0 unit) (es ++ next ∷ []) m
    → event_of (next ∷ []) ≡ e → Refuses t old.nodes e c → ⊥
item_fits t e old c es fit come next m run is refuses =
    fit t es [] next (known_of old.binder) old.nodes c come.gathered m come.sees run (subst (λ x. Refuses t old.nodes x c) (sym is) refuses)

pub never_unfit : EventsFit → EndFits → (t : Source) (old : Walk) (c : OpenNodes) (e : Event) → MayCome t e old → Refuses t old.nodes e c → ⊥
never_unfit fit end t old c (event.Token i) may = item_fits t (event.Token i) old c may.0 fit may.1 may.2.0 may.2.1 may.2.2 may.2.3
never_unfit fit end t old c (event.Act x) may = item_fits t (event.Act x) old c may.0 fit may.1 may.2.0 may.2.1 may.2.2 may.2.3
never_unfit fit end t old c (event.Ask i) may = item_fits t (event.Ask i) old c may.0 fit may.1 may.2.0 may.2.1 may.2.2 may.2.3
never_unfit fit end t old c event.Done may = end t may.0 (known_of old.binder) old.nodes c may.1.gathered may.2.0 may.1.sees may.2.1 may.2.2

-- ---- events

abbrev ill_by : Source → Known → Type 0
ill_by t k = (why : IllCause) (at : ℕ) → k.state.fault ≡ Some (why, at) → IsIll t why at

refused : (t : Source) (k : Known) (f : BindFault) → ill_by t k → names.Refuses f (Fails k) → names.Refuses f (IsIll t)
refused t k (fault.Ill c i) ill h = ill c i h
refused t k fault.OutOfMemory ill h = h

module _ (t : Source) (es : List Item) (old : Walk) (b : Binder) where
  no_fault : (k : Known) → Keeps t k b → k.state.fault ≡ None
  no_fault k x = sym (ap (λ (z : Known). z.state.fault) x.known)

  pub token_taken : (i : ℕ) → TokensAreSeen → TokensAreIll → IsLed t es (event.Token i) old → (r : Result (Unit {0}) BindFault)
      → Does t (known_pass t i (known_of old.binder)) b r → Takes t es (event.Token i) (walk old.nodes b) r
  token_taken i seen ill behind (Ok x) does = record {
    gathered = passing i behind.gathered;
    sees =
        subst (λ k. Sees t (es ++ Passed i ∷ []) k old.nodes (passing i behind.gathered)) (sym does.known)
        (seen t es (known_of old.binder) behind.nodes old.nodes behind.gathered i behind.sees behind.answers (no_fault _ does));
    of = does.of;
  }
  token_taken i seen ill behind (Err f) does =
      refused t (known_pass t i (known_of old.binder)) f (λ why at. ill t es (known_of old.binder) behind.nodes old.nodes behind.gathered i why at behind.sees behind.answers) does

  pub action_taken : (x : Action) → ActionsAreSeen → ActionsAreIll → IsLed t es (event.Act x) old → (r : Result (Unit {0}) BindFault)
      → Does t (known_act t x (known_of old.binder)) b r → Takes t es (event.Act x) (walk old.nodes b) r
  action_taken x seen ill behind (Ok z) does = record {
    gathered = acting x behind.gathered;
    sees =
        subst (λ k. Sees t (es ++ Due x ∷ []) k old.nodes (acting x behind.gathered)) (sym does.known)
        (seen t es (known_of old.binder) behind.nodes old.nodes behind.gathered x behind.sees behind.answers (no_fault _ does));
    of = does.of;
  }
  action_taken x seen ill behind (Err f) does =
      refused t (known_act t x (known_of old.binder)) f (λ why at. ill t es (known_of old.binder) behind.nodes old.nodes behind.gathered x why at behind.sees behind.answers) does

  pub ask_taken : (i : ℕ) (answer : Bool) (c : OpenNodes) → AsksAreSeen → IsLed t es (event.Ask i) old → answer ≡ answer_here t i (known_of old.binder).state
      → Keeps t (known_ask i answer (known_of old.binder)) b → c ≡ replied answer old.nodes → HasCome t (es ++ Asked i answer ∷ []) (walk c b)
  ask_taken i answer c seen behind is keeps same = record {
    gathered = asking i answer behind.gathered;
    sees =
        subst (λ k. Sees t (es ++ Asked i answer ∷ []) k c (asking i answer behind.gathered)) (sym keeps.known)
        (subst (λ d. Sees t (es ++ Asked i answer ∷ []) (known_ask i answer (known_of old.binder)) d (asking i answer behind.gathered)) (sym same)
        (subst (λ a. Sees t (es ++ Asked i a ∷ []) (known_ask i a (known_of old.binder)) (replied a old.nodes) (asking i a behind.gathered)) (sym is)
        (seen t es (known_of old.binder) behind.nodes old.nodes behind.gathered i behind.sees behind.answers)));
    of = keeps.of;
  }

-- the end
pub end_taken : (t : Source) (es : List Item) (old : Walk) → EndIsBound → IsLed t es event.Done old → IsBoundBy t es old
end_taken t es old law behind =
    let x = law t es (known_of old.binder) behind.nodes old.nodes behind.gathered behind.sees behind.answers in
    record { tree = x.0; well_formed = x.1; events = x.2; state = x.3; of = behind.of }

-- ---- as the calls say it

abbrev advances : Source → OpenNodes → Event → Result Before NodesFault → OpenNodes → Type 0
advances t c e r d = Advances (moves.move (terminals_of t) c) c e r d

module _ (t : Source) (es : List Item) (e : Event) (old : Walk) (come : HasCome t es old) (c : OpenNodes) (r : Before) where
  pub opens_so : (m : NonTerm) (b : Binder) → OpensAreSeen → r ≡ before.Opens m → advances t old.nodes e (Ok r) c → Goes old.binder (known_open m) b → HasCome t es (walk c b)
  opens_so m b law is a goes = opened t es e old come c m b law (subst (λ z. advances t old.nodes e (Ok z) c) is a) goes

  pub closes_so : (b : Binder) → ClosesAreSeen → r ≡ before.Closes → advances t old.nodes e (Ok r) c → Goes old.binder known_close b → HasCome t es (walk c b)
  closes_so b law is a goes = closed t es e old come c b law (subst (λ z. advances t old.nodes e (Ok z) c) is a) goes

  pub led_so : r ≡ before.Nothing → advances t old.nodes e (Ok r) c → IsLed t es e (walk c old.binder)
  led_so is a = led t es e old come c (subst (λ z. advances t old.nodes e (Ok z) c) is a)

pub unfit_so : EventsFit → EndFits → (t : Source) (old : Walk) (c : OpenNodes) (e : Event) (f : NodesFault) → f ≡ Unfit → MayCome t e old → advances t old.nodes e (Err f) c → ⊥
unfit_so fit end t old c e f is may a = never_unfit fit end t old c e may (subst (λ z. advances t old.nodes e (Err z) c) is a)

module _ (t : Source) (es : List Item) (old : Walk) (b : Binder) (e : Event) (r : Result (Unit {0}) BindFault) where
  pub token_so : (i : ℕ) → TokensAreSeen → TokensAreIll → e ≡ event.Token i → IsLed t es e old
      → Does t (known_pass t i (known_of old.binder)) b r → Takes t es e (walk old.nodes b) r
  token_so i seen ill is behind does =
      subst (λ z. Takes t es z (walk old.nodes b) r) (sym is) (token_taken t es old b i seen ill (subst (λ z. IsLed t es z old) is behind) r does)

  pub action_so : (x : Action) → ActionsAreSeen → ActionsAreIll → e ≡ event.Act x → IsLed t es e old
      → Does t (known_act t x (known_of old.binder)) b r → Takes t es e (walk old.nodes b) r
  action_so x seen ill is behind does =
      subst (λ z. Takes t es z (walk old.nodes b) r) (sym is) (action_taken t es old b x seen ill (subst (λ z. IsLed t es z old) is behind) r does)

pub ask_so : (t : Source) (es : List Item) (old : Walk) (e : Event) (i : ℕ) → e ≡ event.Ask i → IsLed t es e old → Takes t es e old (Ok tt)
ask_so t es old e i is behind = subst (λ z. Takes t es z old (Ok tt)) (sym is) (subst (λ z. IsLed t es z old) is behind)

pub end_so : (t : Source) (es : List Item) (old : Walk) (e : Event) → EndIsBound → e ≡ event.Done → IsLed t es e old → Takes t es e old (Ok tt)
end_so t es old e law is behind = subst (λ z. Takes t es z old (Ok tt)) (sym is) (end_taken t es old law (subst (λ z. IsLed t es z old) is behind))
