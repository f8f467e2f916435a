use Rattle.cr_sound_law.proofs.Walking.{declarations_are_at_tokens, members_are_at_tokens, records_are_at_tokens, hidden_are_tokens}
use Rattle.cr_sound_law.proofs.bound_things_are_at_tokens.Goals as goal

pub returns-clause-declarations : goal.returns-clause-declarations
returns-clause-declarations c = declarations_are_at_tokens c.lookup_means.ensures c.binding_grows.ensures.lists c.binding_grows.ensures.fault

pub returns-clause-members : goal.returns-clause-members
returns-clause-members c = members_are_at_tokens c.lookup_means.ensures c.binding_grows.ensures.lists c.binding_grows.ensures.fault

pub returns-clause-records : goal.returns-clause-records
returns-clause-records c = records_are_at_tokens c.lookup_means.ensures c.binding_grows.ensures.lists c.binding_grows.ensures.fault

pub returns-clause-hidden : goal.returns-clause-hidden
returns-clause-hidden c = hidden_are_tokens c.lookup_means.ensures c.binding_grows.ensures.lists c.binding_grows.ensures.fault
