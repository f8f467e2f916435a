-- What is noted of tokens does the tasks that tell of them.
use Rattle.std.proofs.Common.{◌≡◌, ℕ, List, [], ◌∷◌, ◌++◌, map, refl, ap, sym, ◌∙◌, subst, append-nil, length, take, drop, ◌-◌, arith, length-append}
use Rattle.std.specs.Prelude.{flat_map}
use Rattle.cr_base.specs.declared.cause.Role.{Role}
use Rattle.cr_base.specs.declared.cause.Role.TheVariants as role
use Rattle.cr_base.specs.declared.token.Place.{Place}
use Rattle.cr_macros.specs.declared.macros.Seen.{Seen}
use Rattle.cr_macros.specs.Definition.{text_of}
use Rattle.cr_macros.specs.Tokens.{Text, Token, tokens_of}
use Rattle.cr_expand.specs.Expanders.{plain}
use Rattle.cr_preproc.specs.declared.progress.Progress.{Progress}
use Rattle.cr_phase4.specs.Tasks.{Event, Goes, Done, tell, marks}
use Rattle.cr_phase4.specs.PreprocessingRun.{steps, final_tokens}
use Rattle.cr_phase4.specs.Traces.{all_seen_as, all_events_seen, opaque_place}
use Rattle.cr_preproc.specs.Progressing.{state_of, kept, IsProgress, IsSeen, IsTraced, IsNotOpaque, IsTold, Did}
use Rattle.std.proofs.Math.Seq.{drop-append_seam, take-length}
use Rattle.std.proofs.lemmas.List.Concat.{flat_map_single}
use Rattle.cr_phase4.specs.Conditionals.{Piece, Other, Asks, asking}
use Rattle.cr_phase4.specs.Directives.{all_marks}
use Rattle.cr_preproc.proofs.Marked.{all_told}
use Rattle.cr_preproc.proofs.Progresses.{same_parts, AreTaking, taking_steps, taking_final, taking_new_macros, taking_body_params, taking_opaque, taking_all, taking_both, taking_marks}

-- the trace has no part in what a unit keeps
pub still_good : (p q : Progress) → IsProgress p → q ≡ record p { trace = q.trace } → IsProgress q
still_good p q good same = subst IsProgress (sym same) (record {
  distinct = good.distinct;
  old = good.old;
  new = good.new;
  macros = good.macros;
  macro_names = good.macro_names;
  tokens = good.tokens;
  used = good.used;
  reading = good.reading;
  room = good.room;
})

pub traced_told : (p q : Progress) (events : List Event) → final_tokens events ≡ [] → IsTraced p q events → IsTold p q events
traced_told p q events final h = record {
  tokens = ap (λ x. tokens_of x.names x.tokens.items) h.same ∙ sym (ap (λ l. tokens_of p.names p.tokens.items ++ map plain l) final ∙ append-nil (tokens_of p.names p.tokens.items));
  trace = h.trace;
  renaming = ap (λ x. x.renaming) h.same;
  names = ([], ap (λ x. x.names) h.same ∙ sym (append-nil p.names));
}

pub traced_did : (p q : Progress) (events : List Event) → IsProgress p → steps events ≡ 0 → final_tokens events ≡ [] → IsTraced p q events → Did 0 p q (tell events) Done
traced_did p q events good size final h = record {
  events = events;
  size = size;
  goes = ap (λ x. Goes Done (state_of x) events) (sym h.same);
  told = traced_told p q events final h;
  good = still_good p q good h.same;
}

pub nothing_behind : {A : Type 0} (xs ys : List A) → ys ≡ [] → xs ≡ xs ++ ys
nothing_behind xs ys h = sym (ap (λ l. xs ++ l) h ∙ append-nil xs)

pub none_opaque : (s : Seen) → IsNotOpaque s.role → opaque_place s s.role ≡ []
none_opaque s h = go s.role h where
  go : (r : Role) → IsNotOpaque r → opaque_place s r ≡ []
  go role.Final k = refl
  go role.MacroName k = refl
  go role.Param k = refl
  go role.Controlling k = refl
  go role.Directive k = refl
  go role.Stringized k = refl
  go role.Pasted k = refl
  go role.Opaque k = absurd k
  go role.Dropped k = refl

pub map_none : (xs : List Seen) → flat_map {A = Place} (λ s. []) xs ≡ []
map_none [] = refl
map_none (x ∷ xs) = map_none xs

pub seen_traced : (p q : Progress) (events : List Event) → AreTaking IsNotOpaque events → IsSeen p q (all_events_seen (text_of p.names p.renaming.old) (text_of p.names p.renaming.new) events) → IsTraced p q events
seen_traced p q events taking h = record {
  trace =
      ap (λ x. kept x.trace) h.same
      ∙ same_parts _ _ _ _ _ _ _ _ h.seen
      (nothing_behind p.trace.new_macros.items _ (taking_new_macros IsNotOpaque new events taking))
      (nothing_behind p.trace.body_params.items _ (taking_body_params IsNotOpaque old new events taking))
      (nothing_behind p.trace.opaque.items _ (taking_opaque IsNotOpaque (λ s. []) none_opaque old new events taking ∙ map_none (all_events_seen old new events)));
  same = h.same ∙ ap (λ t. record p { trace = t }) (sym (ap (λ x. x.trace) h.same));
} where
  old : Text
  old = text_of p.names p.renaming.old

  new : Text
  new = text_of p.names p.renaming.new

pub seen_did : (p q : Progress) (events : List Event) → IsProgress p → AreTaking IsNotOpaque events → IsSeen p q (all_events_seen (text_of p.names p.renaming.old) (text_of p.names p.renaming.new) events) → Did 0 p q (tell events) Done
seen_did p q events good taking h = traced_did p q events good (taking_steps IsNotOpaque events taking) (taking_final IsNotOpaque events taking) (seen_traced p q events taking h)

-- a slice of what is behind
pub rest_of : (n : ℕ) (xs before more : List Seen) → xs ≡ before ++ more → n ≡ length before → take (length xs - n) (drop n xs) ≡ more
rest_of n xs before more e f =
    ap (λ k. take (length xs - k) (drop k xs)) f ∙ ap (λ l. take (length l - length before) (drop (length before) l)) e
    ∙ ap (take (length (before ++ more) - length before)) (drop-append_seam before more)
    ∙ ap (λ k. take k more) (let l = length-append before more in let r : length (before ++ more) - length before ≡ length more = omega (arith, l) in r)
    ∙ take-length more

abbrev IsOpaque : Role → Type 0
IsOpaque r = r ≡ role.Opaque

-- of the tokens of a pragma the places are kept too
pub opaque_did : (p q : Progress) (ts : List Token) (more : List Seen) → IsProgress p
    → more ≡ all_seen_as (text_of p.names p.renaming.old) (text_of p.names p.renaming.new) role.Opaque ts
    → q.trace.seen.items ≡ p.trace.seen.items ++ more
    → q.trace.opaque.items ≡ p.trace.opaque.items ++ map (λ s. s.place) more
    → q ≡ record p { trace = record p.trace { seen = q.trace.seen; opaque = q.trace.opaque } }
    → Did 0 p q (tell (all_marks role.Opaque ts)) Done
opaque_did p q ts more good e seen opaque same =
    traced_did p q events good (taking_steps IsOpaque events taking) (taking_final IsOpaque events taking)
    (record {
      trace =
          ap (λ x. kept x.trace) same
          ∙ same_parts _ _ _ _ _ _ _ _ (seen ∙ ap (λ l. p.trace.seen.items ++ l) all)
          (nothing_behind p.trace.new_macros.items _ (taking_new_macros IsOpaque new events taking))
          (nothing_behind p.trace.body_params.items _ (taking_body_params IsOpaque old new events taking))
          (opaque ∙ ap (λ l. p.trace.opaque.items ++ l)
          (ap (map (λ s. s.place)) all ∙ sym (flat_map_single (λ (s : Seen). s.place) (all_events_seen old new events)) ∙ sym (taking_opaque IsOpaque (λ s. s.place ∷ []) (λ s h. ap (opaque_place s) h) old new events taking)));
      same = same ∙ ap (λ t. record p { trace = t }) (sym (ap (λ x. x.trace) same));
    }) where
      events : List Event
      events = all_marks role.Opaque ts

      old : Text
      old = text_of p.names p.renaming.old

      new : Text
      new = text_of p.names p.renaming.new

      taking : AreTaking IsOpaque events
      taking = taking_all IsOpaque role.Opaque ts refl

      all : more ≡ all_events_seen old new events
      all = e ∙ sym (all_told old new role.Opaque ts)

-- what `defined` asks for is taken for a word of a directive
taking_piece : (x : Piece) → AreTaking IsNotOpaque (asking x)
taking_piece (Other t) = tt
taking_piece (Asks t name) = taking_both IsNotOpaque (marks role.Directive t) (marks role.Directive name) (taking_marks IsNotOpaque role.Directive t tt) (taking_marks IsNotOpaque role.Directive name tt)

pub taking_asked : (xs : List Piece) → AreTaking IsNotOpaque (flat_map asking xs)
taking_asked [] = tt
taking_asked (x ∷ xs) = taking_both IsNotOpaque (asking x) (flat_map asking xs) (taking_piece x) (taking_asked xs)
