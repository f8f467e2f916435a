use Rattle.std.proofs.Common.{ap, subst, ◌∙◌}
use Rattle.cr_names.specs.Kept.{KnownNames, IsKept}
use Rattle.cr_groups.specs.Rows.{source_of}
use Rattle.cr_bound_facts.specs.Bound.{AreFacts}
use Rattle.cr_bound_facts.proofs.Bridging.{shows, shows_members}
use Rattle.cr_bound_facts.proofs.facts.facts_of_bound.Goals as goal

pub facts_of_unit-requires-clause-formed : goal.facts_of_unit-requires-clause-formed
facts_of_unit-requires-clause-formed c =
    (shows c.args.table.now c.args.tokens.now c.args.bound.now c.requires.kept.0 c.requires.texts c.requires.kept.1 c.requires.kept.2 c.uses_are_sound.ensures c.bound_things_are_at_tokens.ensures.declarations
    c.declared-declared.result.now (c.declared-declared.ensures.declared ∙ ap (λ (z : KnownNames). z.declared) c.names.ensures) (subst IsKept c.names.ensures c.declared-declared.ensures.kept)
    c.paths.result.now c.paths.ensures c.rows-2.result.now c.rows-2.ensures.entries c.rows-2.ensures.apart c.rows-2.ensures.formed
    c.uses.result.now (c.uses.ensures.uses ∙ ap (λ (z : KnownNames). z.uses) c.names-2.ensures) c.hidden.result.now (c.hidden.ensures ∙ ap (λ (z : KnownNames). z.hidden) c.names-3.ensures)).formed

pub facts_of_unit-requires-clause-sound : goal.facts_of_unit-requires-clause-sound
facts_of_unit-requires-clause-sound c =
    (shows c.args.table.now c.args.tokens.now c.args.bound.now c.requires.kept.0 c.requires.texts c.requires.kept.1 c.requires.kept.2 c.uses_are_sound.ensures c.bound_things_are_at_tokens.ensures.declarations
    c.declared-declared.result.now (c.declared-declared.ensures.declared ∙ ap (λ (z : KnownNames). z.declared) c.names.ensures) (subst IsKept c.names.ensures c.declared-declared.ensures.kept)
    c.paths.result.now c.paths.ensures c.rows-2.result.now c.rows-2.ensures.entries c.rows-2.ensures.apart c.rows-2.ensures.formed
    c.uses.result.now (c.uses.ensures.uses ∙ ap (λ (z : KnownNames). z.uses) c.names-2.ensures) c.hidden.result.now (c.hidden.ensures ∙ ap (λ (z : KnownNames). z.hidden) c.names-3.ensures)).sound

pub facts_of_unit-requires-clause-spelled : goal.facts_of_unit-requires-clause-spelled
facts_of_unit-requires-clause-spelled c =
    (shows c.args.table.now c.args.tokens.now c.args.bound.now c.requires.kept.0 c.requires.texts c.requires.kept.1 c.requires.kept.2 c.uses_are_sound.ensures c.bound_things_are_at_tokens.ensures.declarations
    c.declared-declared.result.now (c.declared-declared.ensures.declared ∙ ap (λ (z : KnownNames). z.declared) c.names.ensures) (subst IsKept c.names.ensures c.declared-declared.ensures.kept)
    c.paths.result.now c.paths.ensures c.rows-2.result.now c.rows-2.ensures.entries c.rows-2.ensures.apart c.rows-2.ensures.formed
    c.uses.result.now (c.uses.ensures.uses ∙ ap (λ (z : KnownNames). z.uses) c.names-2.ensures) c.hidden.result.now (c.hidden.ensures ∙ ap (λ (z : KnownNames). z.hidden) c.names-3.ensures)).spelled

pub facts_of_unit-requires-clause-members : goal.facts_of_unit-requires-clause-members
facts_of_unit-requires-clause-members c =
    (shows_members c.args.table.now c.args.tokens.now c.args.bound.now c.requires.kept.0 c.requires.texts c.requires.kept.1 c.requires.kept.2 c.uses_are_sound.ensures c.bound_things_are_at_tokens.ensures.declarations
    c.bound_things_are_at_tokens.ensures.members c.bound_things_are_at_tokens.ensures.records c.members_are_unique.ensures
    c.records.result.now c.records.ensures c.deref.result.now (λ ty. c.deref.ensures.value ∙ c.in_ok-members.ensures ty) c.records-2.result.now c.records-2.ensures c.rows.result.now c.rows.ensures.rows c.deref-2.result.now (c.deref-2.ensures.value ∙ c.in_ok-records.ensures)).all

pub facts_of_unit-requires-clause-unique : goal.facts_of_unit-requires-clause-unique
facts_of_unit-requires-clause-unique c =
    (shows_members c.args.table.now c.args.tokens.now c.args.bound.now c.requires.kept.0 c.requires.texts c.requires.kept.1 c.requires.kept.2 c.uses_are_sound.ensures c.bound_things_are_at_tokens.ensures.declarations
    c.bound_things_are_at_tokens.ensures.members c.bound_things_are_at_tokens.ensures.records c.members_are_unique.ensures
    c.records.result.now c.records.ensures c.deref.result.now (λ ty. c.deref.ensures.value ∙ c.in_ok-members.ensures ty) c.records-2.result.now c.records-2.ensures c.rows.result.now c.rows.ensures.rows c.deref-2.result.now (c.deref-2.ensures.value ∙ c.in_ok-records.ensures)).unique

pub returns : goal.returns
returns c = λ tree well.
    let t = source_of c.args.table.now c.args.tokens.now in
    subst (λ z. AreFacts c.args.unit t z c.args.names.old c.args.names.new c.in_ok-facts.facts) (c.units_are_one.ensures.trees t c.requires.kept.0 tree c.requires.kept.1 well).0
    (λ f. c.in_ok-facts.ensures _ (shows c.args.table.now c.args.tokens.now c.args.bound.now c.requires.kept.0 c.requires.texts c.requires.kept.1 c.requires.kept.2 c.uses_are_sound.ensures c.bound_things_are_at_tokens.ensures.declarations
    c.declared-declared.result.now (c.declared-declared.ensures.declared ∙ ap (λ (z : KnownNames). z.declared) c.names.ensures) (subst IsKept c.names.ensures c.declared-declared.ensures.kept)
    c.paths.result.now c.paths.ensures c.rows-2.result.now c.rows-2.ensures.entries c.rows-2.ensures.apart c.rows-2.ensures.formed
    c.uses.result.now (c.uses.ensures.uses ∙ ap (λ (z : KnownNames). z.uses) c.names-2.ensures) c.hidden.result.now (c.hidden.ensures ∙ ap (λ (z : KnownNames). z.hidden) c.names-3.ensures)).shown (shows_members c.args.table.now c.args.tokens.now c.args.bound.now c.requires.kept.0 c.requires.texts c.requires.kept.1 c.requires.kept.2 c.uses_are_sound.ensures c.bound_things_are_at_tokens.ensures.declarations
    c.bound_things_are_at_tokens.ensures.members c.bound_things_are_at_tokens.ensures.records c.members_are_unique.ensures
    c.records.result.now c.records.ensures c.deref.result.now (λ ty. c.deref.ensures.value ∙ c.in_ok-members.ensures ty) c.records-2.result.now c.records-2.ensures c.rows.result.now c.rows.ensures.rows c.deref-2.result.now (c.deref-2.ensures.value ∙ c.in_ok-records.ensures)).are (shows c.args.table.now c.args.tokens.now c.args.bound.now c.requires.kept.0 c.requires.texts c.requires.kept.1 c.requires.kept.2 c.uses_are_sound.ensures c.bound_things_are_at_tokens.ensures.declarations
    c.declared-declared.result.now (c.declared-declared.ensures.declared ∙ ap (λ (z : KnownNames). z.declared) c.names.ensures) (subst IsKept c.names.ensures c.declared-declared.ensures.kept)
    c.paths.result.now c.paths.ensures c.rows-2.result.now c.rows-2.ensures.entries c.rows-2.ensures.apart c.rows-2.ensures.formed
    c.uses.result.now (c.uses.ensures.uses ∙ ap (λ (z : KnownNames). z.uses) c.names-2.ensures) c.hidden.result.now (c.hidden.ensures ∙ ap (λ (z : KnownNames). z.hidden) c.names-3.ensures)).hidden_are f)
