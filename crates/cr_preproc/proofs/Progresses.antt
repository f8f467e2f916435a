-- What a unit has so far, task by task.
use Rattle.std.proofs.Common.{◌≡◌, ℕ, ◌+◌, Bool, true, false, cond, List, [], ◌∷◌, ◌++◌, map, refl, ap, sym, ◌∙◌, append_assoc, append-nil}
use Rattle.std.specs.Prelude.{flat_map}
use Rattle.std.specs.List.{AllByRecursion}
use Rattle.std.proofs.lemmas.List.{map-append}
use Rattle.std.proofs.lemmas.List.Sums.{sum_by-append, sum_by-cons}
use Rattle.std.proofs.lemmas.Grind.{flat_map-append}
use Rattle.cr_base.specs.declared.cause.Role.{Role}
use Rattle.cr_base.specs.declared.token.Place.{Place}
use Rattle.cr_base.specs.declared.token.Origin.{Origin}
use Rattle.cr_base.specs.declared.token.Origin.TheVariants.{At, Made}
use Rattle.cr_macros.specs.declared.macros.Seen.{Seen}
use Rattle.cr_macros.specs.Definition.{text_of}
use Rattle.cr_macros.specs.Tokens.{Text, Token, Event as Telling, Rule, Taken, is_ident, taken_at, tokens_of}
use Rattle.cr_expand.specs.HideSets.{Grows}
use Rattle.cr_expand.specs.Expanders.{plain}
use Rattle.cr_preproc.specs.declared.progress.Progress.{Progress}
use Rattle.cr_phase4.specs.Tasks.{Event, Took, Opened, Looked, Defined, Told, Final, Task, Done, behind, go_on, ◌>>>◌, only, marks}
use Rattle.cr_phase4.specs.Directives.{all_marks}
use Rattle.cr_phase4.specs.PreprocessingRun.{is_step, steps, final_of, final_tokens}
use Rattle.cr_phase4.specs.Traces.{Trace, trace_of, is_either, seen_telling, seen_of, all_events_seen, new_macros_of, body_params_of, opaque_place}
use Rattle.cr_preproc.specs.Progressing.{kept, joined, traced, IsProgress, IsTold, Did}
use Rattle.cr_preproc.proofs.NamesGrow.{text_later, grows_more, grows_none}

-- lists of events one behind another

pub steps_behind : (xs ys : List Event) → steps (xs ++ ys) ≡ steps xs + steps ys
steps_behind xs ys = sum_by-append (λ e. cond (is_step e) 1 0) xs ys

pub final_behind : (xs ys : List Event) → final_tokens (xs ++ ys) ≡ final_tokens xs ++ final_tokens ys
final_behind xs ys = flat_map-append final_of xs ys

abbrev pub with_parts : List Seen → List Place → List Place → List Place → Trace
with_parts seen new_macros body_params opaque = record { seen = seen; new_macros = new_macros; body_params = body_params; opaque = opaque }

pub same_parts : (s t : List Seen) (a b c d e f : List Place) → s ≡ t → a ≡ b → c ≡ d → e ≡ f → with_parts s a c e ≡ with_parts t b d f
same_parts s t a b c d e f h k l m =
    ap (λ x. with_parts x a c e) h ∙ ap (λ x. with_parts t x c e) k ∙ ap (λ x. with_parts t b x e) l ∙ ap (λ x. with_parts t b d x) m

pub trace_behind : (old new : Text) (xs ys : List Event) → trace_of old new (xs ++ ys) ≡ joined (trace_of old new xs) (trace_of old new ys)
trace_behind old new xs ys =
    same_parts _ _ _ _ _ _ _ _
    (flat_map-append (seen_of old new) xs ys)
    (flat_map-append (new_macros_of new) xs ys)
    (flat_map-append (body_params_of old new) xs ys)
    (ap (flat_map (λ s. opaque_place s s.role)) (flat_map-append (seen_of old new) xs ys) ∙ flat_map-append (λ s. opaque_place s s.role) (all_events_seen old new xs) (all_events_seen old new ys))

pub joined_assoc : (a b c : Trace) → joined (joined a b) c ≡ joined a (joined b c)
joined_assoc a b c =
    same_parts _ _ _ _ _ _ _ _ (append_assoc a.seen b.seen c.seen) (append_assoc a.new_macros b.new_macros c.new_macros) (append_assoc a.body_params b.body_params c.body_params) (append_assoc a.opaque b.opaque c.opaque)

pub joined_none : (old new : Text) (t : Trace) → joined t (trace_of old new []) ≡ t
joined_none old new t = same_parts _ _ _ _ _ _ _ _ (append-nil t.seen) (append-nil t.new_macros) (append-nil t.body_params) (append-nil t.opaque)

-- one task, and then another

pub told_none : (p : Progress) → IsTold p p []
told_none p = record {
  tokens = sym (append-nil (tokens_of p.names p.tokens.items));
  trace = sym (joined_none (text_of p.names p.renaming.old) (text_of p.names p.renaming.new) (kept p.trace));
  renaming = refl;
  names = grows_none p.names;
}

-- the same is kept of events where the names grow
pub traced_later : (p q : Progress) (events : List Event) → IsProgress p → q.renaming ≡ p.renaming → Grows p.names q.names → traced q events ≡ traced p events
traced_later p q events good same g =
    ap (λ r. trace_of (text_of q.names r.old) (text_of q.names r.new) events) same
    ∙ ap (λ t. trace_of t (text_of q.names p.renaming.new) events) (text_later p.names q.names p.renaming.old g good.old)
    ∙ ap (λ t. trace_of (text_of p.names p.renaming.old) t events) (text_later p.names q.names p.renaming.new g good.new)

pub told_then : (p q r : Progress) (xs ys : List Event) → IsProgress p → IsTold p q xs → IsTold q r ys → IsTold p r (xs ++ ys)
told_then p q r xs ys good h k = record {
  tokens =
      k.tokens ∙ ap (λ l. l ++ map plain (final_tokens ys)) h.tokens ∙ append_assoc (tokens_of p.names p.tokens.items) (map plain (final_tokens xs)) (map plain (final_tokens ys))
      ∙ ap (λ l. tokens_of p.names p.tokens.items ++ l) (sym (ap (map plain) (final_behind xs ys) ∙ map-append plain (final_tokens xs) (final_tokens ys)));
  trace =
      k.trace ∙ ap (λ t. joined t (traced q ys)) h.trace ∙ ap (λ t. joined (joined (kept p.trace) (traced p xs)) t) (traced_later p q ys good h.renaming h.names)
      ∙ joined_assoc (kept p.trace) (traced p xs) (traced p ys) ∙ ap (joined (kept p.trace)) (sym (trace_behind (text_of p.names p.renaming.old) (text_of p.names p.renaming.new) xs ys));
  renaming = k.renaming ∙ h.renaming;
  names = grows_more p.names q.names r.names h.names k.names;
}

pub did_only : {A : Type 0} (p : Progress) (a : A) → IsProgress p → Did 0 p p (only a) a
did_only p a good = record { events = []; size = refl; goes = refl; told = told_none p; good = good }

pub did_none : (p : Progress) → IsProgress p → Did 0 p p (only Done) Done
did_none p good = did_only p Done good

pub did_then : {A B : Type 0} (j k : ℕ) (p q r : Progress) (m : Task A) (f : A → Task B) (a : A) (b : B) → IsProgress p → Did j p q m a → Did k q r (f a) b → Did (j + k) p r (m >>> f) b
did_then j k p q r m f a b good h l = record {
  events = h.events ++ l.events;
  size = steps_behind h.events l.events ∙ ap (λ n. n + steps l.events) h.size ∙ ap (λ n. j + n) l.size;
  goes = ap (λ x. go_on x f) h.goes ∙ ap (behind h.events) l.goes;
  told = told_then p q r h.events l.events good h.told l.told;
  good = l.good;
}

-- events by which identifiers are taken for something

abbrev IsTakenAs : (Role → Type 0) → Telling → Type 0
IsTakenAs P Rule = ⊥
IsTakenAs P (Taken text place as1) = P as1

abbrev IsTaking : (Role → Type 0) → Event → Type 0
IsTaking P Took = ⊥
IsTaking P (Opened path) = ⊥
IsTaking P (Looked paths) = ⊥
IsTaking P (Defined t m) = ⊥
IsTaking P (Told e) = IsTakenAs P e
IsTaking P (Final t) = ⊥

-- Each is one by which an identifier is taken for something in such a role.
abbrev pub AreTaking : (Role → Type 0) → List Event → Type 0
AreTaking P = AllByRecursion (IsTaking P)

pub taking_both : (P : Role → Type 0) (xs ys : List Event) → AreTaking P xs → AreTaking P ys → AreTaking P (xs ++ ys)
taking_both P [] ys h k = k
taking_both P (x ∷ xs) ys h k = (h.0, taking_both P xs ys h.1 k)

taking_if : (P : Role → Type 0) (b : Bool) (text : Text) (place : Place) (as1 : Role) → P as1 → AreTaking P (map Told (cond b (Taken text place as1 ∷ []) []))
taking_if P true text place as1 h = (h, tt)
taking_if P false text place as1 h = tt

taking_at : (P : Role → Type 0) (as1 : Role) (t : Token) (origin : Origin) → P as1 → AreTaking P (map Told (taken_at as1 t origin))
taking_at P as1 t Made h = tt
taking_at P as1 t (At place) h = taking_if P (is_ident t.kind) t.text place as1 h

pub taking_marks : (P : Role → Type 0) (as1 : Role) (t : Token) → P as1 → AreTaking P (marks as1 t)
taking_marks P as1 t h = taking_at P as1 t t.origin h

pub taking_all : (P : Role → Type 0) (as1 : Role) (ts : List Token) → P as1 → AreTaking P (all_marks as1 ts)
taking_all P as1 [] h = tt
taking_all P as1 (t ∷ ts) h = taking_both P (marks as1 t) (all_marks as1 ts) (taking_marks P as1 t h) (taking_all P as1 ts h)

module _ (P : Role → Type 0) where
  pub taking_steps : (es : List Event) → AreTaking P es → steps es ≡ 0
  taking_steps [] h = refl
  taking_steps (Took ∷ es) h = absurd h.0
  taking_steps (Opened path ∷ es) h = absurd h.0
  taking_steps (Looked paths ∷ es) h = absurd h.0
  taking_steps (Defined t m ∷ es) h = absurd h.0
  taking_steps (Told Rule ∷ es) h = absurd h.0
  taking_steps (Told (Taken text place as1) ∷ es) h = sum_by-cons (λ e. cond (is_step e) 1 0) (Told (Taken text place as1)) es ∙ ap (λ n. 0 + n) (taking_steps es h.1)
  taking_steps (Final t ∷ es) h = absurd h.0

  pub taking_final : (es : List Event) → AreTaking P es → final_tokens es ≡ []
  taking_final [] h = refl
  taking_final (Took ∷ es) h = absurd h.0
  taking_final (Opened path ∷ es) h = absurd h.0
  taking_final (Looked paths ∷ es) h = absurd h.0
  taking_final (Defined t m ∷ es) h = absurd h.0
  taking_final (Told e ∷ es) h = taking_final es h.1
  taking_final (Final t ∷ es) h = absurd h.0

  pub taking_new_macros : (new : Text) (es : List Event) → AreTaking P es → flat_map (new_macros_of new) es ≡ []
  taking_new_macros new [] h = refl
  taking_new_macros new (Took ∷ es) h = absurd h.0
  taking_new_macros new (Opened path ∷ es) h = absurd h.0
  taking_new_macros new (Looked paths ∷ es) h = absurd h.0
  taking_new_macros new (Defined t m ∷ es) h = absurd h.0
  taking_new_macros new (Told e ∷ es) h = taking_new_macros new es h.1
  taking_new_macros new (Final t ∷ es) h = absurd h.0

  pub taking_body_params : (old new : Text) (es : List Event) → AreTaking P es → flat_map (body_params_of old new) es ≡ []
  taking_body_params old new [] h = refl
  taking_body_params old new (Took ∷ es) h = absurd h.0
  taking_body_params old new (Opened path ∷ es) h = absurd h.0
  taking_body_params old new (Looked paths ∷ es) h = absurd h.0
  taking_body_params old new (Defined t m ∷ es) h = absurd h.0
  taking_body_params old new (Told e ∷ es) h = taking_body_params old new es h.1
  taking_body_params old new (Final t ∷ es) h = absurd h.0

  -- The places that are opaque are those that f gives, where it gives them for each role.
  module _ (f : Seen → List Place) (gives : (s : Seen) → P s.role → opaque_place s s.role ≡ f s) where
    opaque_if : (b : Bool) (s : Seen) → P s.role → flat_map (λ x. opaque_place x x.role) (cond b (s ∷ []) []) ≡ flat_map f (cond b (s ∷ []) [])
    opaque_if true s h = ap (λ l. l ++ []) (gives s h)
    opaque_if false s h = refl

    pub taking_opaque : (old new : Text) (es : List Event) → AreTaking P es → flat_map (λ s. opaque_place s s.role) (all_events_seen old new es) ≡ flat_map f (all_events_seen old new es)
    taking_opaque old new [] h = refl
    taking_opaque old new (Took ∷ es) h = absurd h.0
    taking_opaque old new (Opened path ∷ es) h = absurd h.0
    taking_opaque old new (Looked paths ∷ es) h = absurd h.0
    taking_opaque old new (Defined t m ∷ es) h = absurd h.0
    taking_opaque old new (Told Rule ∷ es) h = absurd h.0
    taking_opaque old new (Told (Taken text place as1) ∷ es) h =
        flat_map-append (λ s. opaque_place s s.role) (seen_telling old new (Taken text place as1)) (all_events_seen old new es)
        ∙ ap (λ l. l ++ flat_map (λ s. opaque_place s s.role) (all_events_seen old new es)) (opaque_if (is_either old new text) (record { place = place; role = as1 }) h.0)
        ∙ ap (λ l. flat_map f (seen_telling old new (Taken text place as1)) ++ l) (taking_opaque old new es h.1)
        ∙ sym (flat_map-append f (seen_telling old new (Taken text place as1)) (all_events_seen old new es))
    taking_opaque old new (Final t ∷ es) h = absurd h.0
