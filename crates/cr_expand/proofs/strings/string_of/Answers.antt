use Rattle.std.proofs.Common.{◌≡◌, ◌∙◌, [], map, sym, ap, subst, rules, List, length, ◌<◌, refl}
use Rattle.std.proofs.lemmas.Option.{get_or_from_slice_get, slice_get_within}
use Rattle.cr_macros.specs.Tokens.{Text, Token, token_of}
use Rattle.cr_macros.specs.OneToken.{is_string}
use Rattle.cr_macros.specs.Substitution as spec
use Rattle.cr_macros.specs.Definition.{text_of}
use Rattle.cr_expand.specs.Held.{all_held, watch_of, hidden}
use Rattle.cr_base.specs.declared.token.PpKind.TheVariants.{Str}
use Rattle.cr_expand.proofs.Telling.{stops_memory}
use Rattle.cr_expand.proofs.StringLaws.{any_sets, string_does, string_stops}
use Rattle.cr_expand.proofs.strings.string_of.Goals as goal
use Rattle.cr_expand.proofs.strings.string_of.Goals.{In_ok-text}

pub returns-in_err-text-clause-stops : goal.returns-in_err-text-clause-stops
returns-in_err-text-clause-stops c = λ hide. search (rules, stops_memory)

pub returns-in_err-number-clause-stops : goal.returns-in_err-number-clause-stops
returns-in_err-number-clause-stops c = λ hide. search (rules, stops_memory)

pub returns-then-not-is_string-clause-stops : goal.returns-then-not-is_string-clause-stops
returns-then-not-is_string-clause-stops c = λ hide.
    let arg : List Token = all_held c.args.names.now c.args.sets.now c.args.arg.now in
    let spelt : c.in_ok-text.text.items ≡ spec.in_quotes (spec.spelling arg) = c.in_ok-text.ensures ∙ ap spec.in_quotes (any_sets c.args.names.now c.args.sets.now c.args.arg.now) in
    string_stops (token_of c.args.names.now hide c.args.name) (token_of c.args.names.now [] c.args.hash) arg _
    (ap is_string (sym spelt) ∙ ap is_string (sym c.deref.ensures.value) ∙ sym c.is_string.ensures ∙ c.if-not-is_string.true) refl

pub returns-clause-does : goal.returns-clause-does
returns-clause-does c = λ hide.
    let arg : List Token = all_held c.args.names.now c.args.sets.now c.args.arg.now in
    let names : List Text = c.intern.new.self in
    let spelt : c.in_ok-text.text.items ≡ spec.in_quotes (spec.spelling arg) = c.in_ok-text.ensures ∙ ap spec.in_quotes (any_sets c.args.names.now c.args.sets.now c.args.arg.now) in
    let text : text_of names c.in_ok-number.number ≡ spec.in_quotes (spec.spelling arg) = get_or_from_slice_get names c.in_ok-number.number.0 _ [] c.in_ok-number.ensures.interned.1 ∙ c.deref-2.ensures.value ∙ spelt in
    string_does (watch_of c.args.names.now c.args.notes.now) c.args.notes.now.seen.items c.take_all.new.self.seen.items (token_of c.args.names.now hide c.args.name) (token_of c.args.names.now [] c.args.hash) arg _
    (ap is_string (sym spelt) ∙ ap is_string (sym c.deref.ensures.value) ∙ sym c.is_string.ensures ∙ c.if-not-is_string.false)
    (c.in_ok-take_all.ensures.seen c.args.sets.now)
    (sym (
    c.made.ensures.token names (hidden names c.args.sets.now c.empty.result.0) hide
    ∙ ap (λ t. spec.made (token_of names hide c.args.name) Str t c.args.hash.space (hidden names c.args.sets.now c.empty.result.0)) text
    ∙ ap (λ h. spec.made (token_of names hide c.args.name) Str (spec.in_quotes (spec.spelling arg)) c.args.hash.space (map (text_of names) h)) c.empty.ensures.1
    ))

pub returns-clause-known : goal.returns-clause-known
returns-clause-known c = (
  subst (λ n. n.0 < length c.intern.new.self) (sym c.made.ensures.text) (slice_get_within c.intern.new.self c.in_ok-number.number.0 _ c.in_ok-number.ensures.interned.1),
  c.empty.ensures.0,
)
