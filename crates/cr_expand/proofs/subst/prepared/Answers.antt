use Rattle.std.proofs.Common.{◌∙◌, [], sym, ap, map, false}
use Rattle.std.specs.Prelude.{slice_index_or}
use Rattle.std.specs.List.{list_any}
use Rattle.cr_base.specs.declared.cause.Role.TheVariants.{MacroName}
use Rattle.cr_macros.specs.Tokens.{token_of, takes}
use Rattle.cr_macros.specs.Substitution as spec
use Rattle.cr_macros.specs.MacroTables.{macro_text}
use Rattle.cr_expand.specs.Held.{watch_of, all_args}
use Rattle.cr_expand.specs.Items.{item_texts}
use Rattle.cr_expand.proofs.Noted.{same_watch}
use Rattle.cr_expand.proofs.Substitutes.{noted_all}
use Rattle.cr_expand.proofs.subst.prepared.Goals as goal

pub note_dropped-requires : goal.note_dropped-requires
note_dropped-requires c = c.deref-2.ensures.len ∙ (c.in_ok-used.ensures []).0

pub returns-clause-seen : goal.returns-clause-seen
returns-clause-seen c = λ hide sets.
    noted_all (watch_of c.args.names.now c.args.notes.now) (watch_of c.args.names.now c.take.new.self) c.args.notes.now.seen.items c.take.new.self.seen.items c.note_dropped.new.notes.seen.items
    (takes MacroName (token_of c.args.names.now hide c.args.name))
    (spec.dropped (item_texts c.args.names.now c.in_ok-items.items.items) 0 (all_args c.args.names.now sets (map (λ v. v.items) c.args.raw.now)))
    (spec.dropped (spec.body_items (macro_text c.args.names.now c.args.m.now)) 0 (all_args c.args.names.now sets (map (λ v. v.items) c.args.raw.now)))
    (same_watch c.args.names.now c.take.new.self c.args.notes.now c.in_ok-take.ensures.same.0 c.in_ok-take.ensures.same.1)
    (ap (λ x. spec.dropped x 0 (all_args c.args.names.now sets (map (λ v. v.items) c.args.raw.now))) (sym c.in_ok-items.ensures.items))
    (c.in_ok-take.ensures.seen hide)
    (c.in_ok-note_dropped.ensures.seen sets c.in_ok-items.items.items
    (λ n h. ap (λ l. slice_index_or l n false) c.deref-2.ensures.value ∙ (c.in_ok-used.ensures c.args.names.now).1 n h ∙ ap (λ l. list_any (spec.is_use n) (item_texts c.args.names.now l)) c.deref.ensures.value))
