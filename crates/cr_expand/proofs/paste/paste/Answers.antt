use Rattle.std.proofs.Common.{◌≡◌, ◌<◌, ◌∙◌, ◌++◌, [], sym, ap, subst, List, length}
use Rattle.std.proofs.lemmas.Option.{get_or_from_slice_get, slice_get_within}
use Rattle.cr_macros.specs.OneToken.{one_token}
use Rattle.cr_macros.specs.Tokens.{Text, token_of, takes}
use Rattle.cr_base.specs.declared.cause.Role.TheVariants.{Pasted}
use Rattle.cr_macros.specs.Substitution as spec
use Rattle.cr_macros.specs.Definition.{text_of}
use Rattle.cr_expand.specs.HideSets.{Grows}
use Rattle.cr_expand.specs.Held.{watch_of, held, hidden, noted}
use Rattle.cr_expand.proofs.Noted.{same_watch}
use Rattle.cr_expand.proofs.Kept.{interned_grows, tables_later, sets_named_later}
use Rattle.cr_expand.proofs.Pastes.{paste_does, hidden_both}
use Rattle.cr_expand.proofs.paste.paste.Goals as goal

pub returns-clause-known : goal.returns-clause-known
returns-clause-known c = (
  subst (λ n. n.0 < length c.intern.new.self) (sym c.made.ensures.text) (slice_get_within c.intern.new.self c.in_ok-number.number.0 _ c.in_ok-number.ensures.interned.1),
  c.in_ok-hide.ensures.puts.1,
)

pub returns-clause-tables : goal.returns-clause-tables
returns-clause-tables c =
    let g : Grows c.args.names.now c.intern.new.self = interned_grows _ c.args.names.now c.intern.new.self _ c.in_ok-number.ensures.interned.0 in
    tables_later c.args.names.now c.intern.new.self c.args.sets.now c.both.new.self c.requires.tables g c.in_ok-hide.ensures.puts.0 c.in_ok-number.ensures.distinct
    (c.in_ok-hide.ensures.below (length c.intern.new.self) (record { at = sets_named_later c.args.names.now c.intern.new.self c.args.sets.now g c.requires.tables.named })).at

pub returns-clause-does : goal.returns-clause-does
returns-clause-does c = λ hide.
    let names : List Text = c.intern.new.self in
    let g : Grows c.args.names.now names = interned_grows _ c.args.names.now names _ c.in_ok-number.ensures.interned.0 in
    let joined : Text = text_of c.args.names.now c.args.a.token.text ++ text_of c.args.names.now c.args.b.token.text in
    let text : text_of names c.in_ok-number.number ≡ joined = get_or_from_slice_get names c.in_ok-number.number.0 _ [] c.in_ok-number.ensures.interned.1 ∙ c.deref-2.ensures.value ∙ c.in_ok-text.ensures in
    let hides = hidden_both c.args.names.now names c.args.sets.now c.both.new.self c.args.a.hide.0 c.args.b.hide.0 c.in_ok-hide.hide.0 c.requires.tables c.in_ok-number.ensures.distinct g c.requires.left.1 c.requires.right.1 c.in_ok-hide.ensures.puts.2 in
    paste_does (watch_of c.args.names.now c.args.notes.now) c.args.notes.now.seen.items c.take.new.self.seen.items c.take-2.new.self.seen.items
    (token_of c.args.names.now hide c.args.name) (held c.args.names.now c.args.sets.now c.args.a) (held c.args.names.now c.args.sets.now c.args.b) _ c.in-Some.kind
    (ap one_token (sym c.in_ok-text.ensures) ∙ ap one_token (sym c.deref.ensures.value) ∙ sym c.one_token.ensures ∙ c.in-Some.is)
    (c.in_ok-take.ensures.seen (hidden c.args.names.now c.args.sets.now c.args.a.hide.0))
    (c.in_ok-take-2.ensures.seen (hidden c.args.names.now c.args.sets.now c.args.b.hide.0) ∙ ap (λ w. c.take.new.self.seen.items ++ noted w (takes Pasted (held c.args.names.now c.args.sets.now c.args.b))) (same_watch c.args.names.now c.take.new.self c.args.notes.now c.in_ok-take.ensures.same.0 c.in_ok-take.ensures.same.1))
    (sym (
    c.made.ensures.token names (hidden names c.both.new.self c.in_ok-hide.hide.0) hide
    ∙ ap (λ t. spec.made (token_of names hide c.args.name) c.in-Some.kind t c.args.a.token.space (hidden names c.both.new.self c.in_ok-hide.hide.0)) text
    ∙ ap (spec.made (token_of names hide c.args.name) c.in-Some.kind joined c.args.a.token.space) hides
    ))
