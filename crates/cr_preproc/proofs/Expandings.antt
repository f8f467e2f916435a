-- What an expansion noted is kept, and what is held stays good as names are added.
use Rattle.std.proofs.Common.{◌≡◌, ◌-◌, ◌≤◌, List, [], ◌∷◌, ◌++◌, length, map, drop, refl, sym, ap, ◌∙◌, subst, arith, append-nil, append_assoc, length-append, None, inl, inr}
use Rattle.std.specs.Prelude.{flat_map}
use Rattle.std.specs.List.{All}
use Rattle.std.proofs.lemmas.List.Elements.{All-nil, All-cons}
use Rattle.cr_base.specs.declared.token.PpTok.{PpTok}
use Rattle.cr_expand.specs.Items.{IsTokenNamed}
use Rattle.cr_base.specs.NameTable.{IsDistinct}
use Rattle.cr_macros.specs.declared.macros.Seen.{Seen}
use Rattle.cr_macros.specs.MacroTables.{Macros}
use Rattle.cr_macros.specs.declared.fault.ExpandFault.{ExpandFault}
use Rattle.cr_macros.specs.Tokens.{Text, Event as Telling, Rule, Taken, tokens_of, Answer, Gave, Stopped, Cause, ArgCount, OpenCall, BadPaste, Over}
use Rattle.cr_macros.specs.Definition.{text_of}
use Rattle.cr_expand.specs.GoodMacros.{KeepsMacros}
use Rattle.cr_expand.specs.HideSets.{Grows}
use Rattle.cr_expand.specs.Held.{Watch, noted, noted_one, watch_of, IsNamed as IsNameKnown}
use Rattle.cr_expand.specs.Machines.{IsSameRun, FaultsAtOnce}
use Rattle.cr_expand.specs.Held.{IsCause}
use Rattle.cr_expand.specs.Expanders.{plain, IsRunning, runs_by}
use Rattle.cr_expand.specs.declared.expander.Expander.{Expander}
use Rattle.cr_expand.specs.declared.notes.Notes.{Notes}
use Rattle.cr_expand.specs.declared.machine.TheConstants.{LIMIT}
use Rattle.cr_preproc.specs.declared.progress.Progress.{Progress}
use Rattle.cr_preproc.specs.declared.progress.TheConstants.{MOST_TOKENS}
use Rattle.cr_preproc.specs.declared.trace.Trace.{Trace as KeptTrace}
use Rattle.cr_phase4.specs.Tasks.{Told, State, end_of}
use Rattle.cr_phase4.specs.PreprocessingRun.{final_tokens}
use Rattle.cr_base.specs.declared.token.Place.{Place}
use Rattle.cr_phase4.specs.Traces.{Trace, all_events_seen, new_macros_of, body_params_of, opaque_place}
use Rattle.cr_preproc.specs.Seen.{AreNamed, AreMacrosNamed}
use Rattle.cr_preproc.specs.Progressing.{state_of, IsProgress}
use Rattle.cr_preproc.specs.declared.expansion.Expansion.{Expansion}
use Rattle.cr_preproc.specs.declared.expansion.Fault.{Fault}
use Rattle.cr_preproc.specs.Expanding.{IsNoted, IsKept, IsExpanding, IsFaultOf, StopsAt, end_by}
use Rattle.cr_preproc.proofs.ToldByUses.{told_none}
use Rattle.cr_preproc.proofs.NamesGrow.{tokens_later, all_named_later, known_later}

-- the places that are still to be kept come behind what is kept
pub record IsKeeping (first now : KeptTrace) (left all : List Seen) : Type 0 where
  pub seen : now.seen.items ++ left ≡ first.seen.items ++ all
  pub opaque : now.opaque.items ++ flat_map (λ s. opaque_place s s.role) left ≡ first.opaque.items ++ flat_map (λ s. opaque_place s s.role) all
  pub new_macros : now.new_macros ≡ first.new_macros
  pub body_params : now.body_params ≡ first.body_params

pub keeps_none : (first : KeptTrace) (all : List Seen) → IsKeeping first first all all
keeps_none first all = record { seen = refl; opaque = refl; new_macros = refl; body_params = refl }

pub keeps_one : (first now next : KeptTrace) (s : Seen) (left all : List Seen) → IsKeeping first now (s ∷ left) all
    → next.seen.items ≡ now.seen.items ++ s ∷ [] → next.opaque.items ≡ now.opaque.items ++ opaque_place s s.role → (next.new_macros ≡ now.new_macros) × (next.body_params ≡ now.body_params)
    → IsKeeping first next left all
keeps_one first now next s left all k a b c = record {
  seen = ap (λ l. l ++ left) a ∙ append_assoc now.seen.items (s ∷ []) left ∙ k.seen;
  opaque = ap (λ l. l ++ flat_map (λ s. opaque_place s s.role) left) b ∙ append_assoc now.opaque.items (opaque_place s s.role) (flat_map (λ s. opaque_place s s.role) left) ∙ k.opaque;
  new_macros = c.0 ∙ k.new_macros;
  body_params = c.1 ∙ k.body_params;
}

pub keeps_all : (first now : KeptTrace) (left all : List Seen) → IsKeeping first now left all → left ≡ [] → IsKept first now all
keeps_all first now left all k e = record {
  seen = sym (append-nil now.seen.items) ∙ ap (λ l. now.seen.items ++ l) (sym e) ∙ k.seen;
  opaque = sym (append-nil now.opaque.items) ∙ ap (λ l. now.opaque.items ++ flat_map (λ s. opaque_place s s.role) l) (sym e) ∙ k.opaque;
  new_macros = k.new_macros;
  body_params = k.body_params;
}

-- what the machine of expansion notes is what the unit keeps
told_seen : (w : Watch) (told : List Telling) → all_events_seen w.from w.to (map Told told) ≡ noted w told
told_seen w [] = refl
told_seen w (Rule ∷ told) = told_seen w told
told_seen w (Taken text place role ∷ told) = ap (λ l. noted_one w (Taken text place role) ++ l) (told_seen w told)

told_macros : (new : Text) (told : List Telling) → flat_map (new_macros_of new) (map Told told) ≡ []
told_macros new [] = refl
told_macros new (t ∷ told) = told_macros new told

told_bodies : (old new : Text) (told : List Telling) → flat_map (body_params_of old new) (map Told told) ≡ []
told_bodies old new [] = refl
told_bodies old new (t ∷ told) = told_bodies old new told

told_finals : (told : List Telling) → final_tokens (map Told told) ≡ []
told_finals [] = refl
told_finals (t ∷ told) = told_finals told

-- with names added and a longer trace
abbrev pub more : Progress → List Text → KeptTrace → Progress
more p names trace = record p { names = names; trace = trace }

pub noted_more : (p : Progress) (names : List Text) (trace : KeptTrace) (notes : Notes) (told : List Telling) (seen : List Seen) → IsProgress p → Grows p.names names
    → notes.from ≡ p.renaming.old → notes.to ≡ p.renaming.new → seen ≡ noted (watch_of p.names notes) told → IsKept p.trace trace seen → IsNoted p (more p names trace) told
noted_more p names trace notes told seen good g from to e k = record {
  told = record {
    tokens = tokens_later p.names names p.tokens.items g good.tokens ∙ sym (append-nil (tokens_of p.names p.tokens.items))
        ∙ ap (λ l. tokens_of p.names p.tokens.items ++ map plain l) (sym (told_finals told));
    trace = same
        (k.seen ∙ ap (λ l. p.trace.seen.items ++ l) s)
        (ap (λ v. v.items) k.new_macros ∙ sym (append-nil p.trace.new_macros.items) ∙ ap (λ l. p.trace.new_macros.items ++ l) (sym (told_macros (text_of p.names p.renaming.new) told)))
        (ap (λ v. v.items) k.body_params ∙ sym (append-nil p.trace.body_params.items) ∙ ap (λ l. p.trace.body_params.items ++ l) (sym (told_bodies (text_of p.names p.renaming.old) (text_of p.names p.renaming.new) told)))
        (k.opaque ∙ ap (λ l. p.trace.opaque.items ++ flat_map (λ s. opaque_place s s.role) l) s);
    renaming = refl;
    names = g;
  };
  macros = refl;
  once = refl;
  used = refl;
  reading = refl;
  tokens = refl;
} where
  s : seen ≡ all_events_seen (text_of p.names p.renaming.old) (text_of p.names p.renaming.new) (map Told told)
  s = e ∙ ap (λ x. noted x told) w ∙ sym (told_seen (record { from = text_of p.names p.renaming.old; to = text_of p.names p.renaming.new }) told) where
    w : ◌≡◌ {A = Watch} (watch_of p.names notes) (record { from = text_of p.names p.renaming.old; to = text_of p.names p.renaming.new })
    w = ap (λ n. record { from = text_of p.names n; to = text_of p.names notes.to }) from ∙ ap (λ n. record { from = text_of p.names p.renaming.old; to = text_of p.names n }) to

  same : {a0 a1 : List Seen} {b0 b1 c0 c1 d0 d1 : List Place} → a0 ≡ a1 → b0 ≡ b1 → c0 ≡ c1 → d0 ≡ d1
      → ◌≡◌ {A = Trace} (record { seen = a0; new_macros = b0; body_params = c0; opaque = d0 }) (record { seen = a1; new_macros = b1; body_params = c1; opaque = d1 })
  same a b c d = cc

macro_names_later : (names new : List Text) (macros : Macros) → Grows names new → AreMacrosNamed names macros → AreMacrosNamed new macros
macro_names_later names new [] g h = tt
macro_names_later names new (e ∷ macros) g h = (known_later names new e.0 g h.0, macro_names_later names new macros g h.1)

pub progress_more : (p : Progress) (names : List Text) (trace : KeptTrace) → KeepsMacros → IsProgress p → Grows p.names names → IsDistinct names → IsProgress (more p names trace)
progress_more p names trace law good g d = record {
  distinct = d;
  old = known_later p.names names p.renaming.old g good.old;
  new = known_later p.names names p.renaming.new g good.new;
  macros = law.later p.names names p.macros g good.macros;
  macro_names = macro_names_later p.names names p.macros g good.macro_names;
  tokens = all_named_later p.names names p.tokens.items g good.tokens;
  used = good.used;
  reading = good.reading;
  room = good.room;
}

-- the state stays as names are added
pub state_more : (p : Progress) (names : List Text) (trace : KeptTrace) → KeepsMacros → IsProgress p → Grows p.names names → state_of (more p names trace) ≡ state_of p
state_more p names trace law good g =
    ap {B = State} (λ m. record { macro = m; once = p.once; work = LIMIT - p.used; reading = p.reading; room = MOST_TOKENS - length p.tokens.items })
    (ap (λ t. t.macro) (law.same p.names names p.macros [] g good.macros))

-- what came behind what was seen before
pub seen_behind : (old now more : List Seen) → now ≡ old ++ more → drop (length old) now ≡ more
seen_behind old now more e = ap (drop (length old)) e ∙ dropped old where
  dropped : (xs : List Seen) → drop (length xs) (xs ++ more) ≡ more
  dropped [] = refl
  dropped (x ∷ xs) = dropped xs

pub seen_longer : (old now more : List Seen) → now ≡ old ++ more → length old ≤ length now
seen_longer old now more e = let a = ap length e in let b = length-append old more in omega (arith, a, b)

pub distinct_of : (names : List Text) (macros : Macros) (x : Expander) → IsRunning names macros x → x.fault ≡ None → IsDistinct names
distinct_of names macros x r e =
    let both : runs_by names macros x.machine x.ahead None = subst (λ o. runs_by names macros x.machine x.ahead o) e r in
    both.0.tables.distinct

-- the expansion goes on
pub expanding_more : (p : Progress) (names : List Text) (trace : KeptTrace) (e f : Expansion) → IsExpanding p e → Grows p.names names → IsSameRun e.expander.machine f.expander.machine
    → IsRunning names p.macros f.expander → f.expander.fault ≡ None → f.expander.machine.used ≤ LIMIT → IsExpanding (more p names trace) f
expanding_more p names trace e f x g same running fault limit = record {
  running = running;
  finished = same.3 ∙ x.finished;
  fault = fault;
  from = same.0 ∙ x.from;
  to = same.1 ∙ x.to;
  literal = subst (IsNameKnown names) (sym same.2) (known_later p.names names e.expander.machine.file g x.literal);
  limit = limit;
}

pub keeps_nothing : (trace : KeptTrace) → IsKept trace trace []
keeps_nothing trace = record { seen = sym (append-nil trace.seen.items); opaque = sym (append-nil trace.opaque.items); new_macros = refl; body_params = refl }

-- the fault of an expansion is how it stops
stops_by : (why : Cause) (x : ExpandFault) (f : Fault) → IsCause why x → IsFaultOf x f → end_of why ≡ end_by f
stops_by (ArgCount site) x f e k = sym (subst (λ y. IsFaultOf y f) e k)
stops_by (OpenCall site) x f e k = sym (subst (λ y. IsFaultOf y f) e k)
stops_by (BadPaste site) x f e k = sym (subst (λ y. IsFaultOf y f) e k)
stops_by Over x f e k = sym (subst (λ y. IsFaultOf y f) e k)

pub stops_at : {A : Type 0} (r : Answer A) (x : ExpandFault) (f : Fault) → FaultsAtOnce r x → IsFaultOf x f → StopsAt r (end_by f)
stops_at (Gave a left events) x f e k = subst (λ y. IsFaultOf y f) e k
stops_at (Stopped why events) x f (inl e) k = (stops_by why x f e.0 k, told_none events e.1)
stops_at (Stopped why events) x f (inr e) k = absurd (subst (λ y. IsFaultOf y f) e k)

pub tokens_are_named : (names : List Text) (ts : List PpTok) → AreNamed names ts → All (IsTokenNamed names) ts
tokens_are_named names [] h = All-nil (IsTokenNamed names)
tokens_are_named names (t ∷ ts) h = All-cons (IsTokenNamed names) t ts h.0 (tokens_are_named names ts h.1)
