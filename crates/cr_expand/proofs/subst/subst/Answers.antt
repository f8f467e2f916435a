use Rattle.std.proofs.Common.{◌≡◌, ◌∙◌, List, None, false, ap, map, subst}
use Rattle.std.proofs.lemmas.Result.{err_from_is_err_and}
use Rattle.cr_macros.specs.Tokens.{Token, token_of}
use Rattle.cr_macros.specs.Substitution as spec
use Rattle.cr_macros.specs.MacroTables.{macro_text}
use Rattle.cr_expand.specs.Held.{Watch, watch_of, all_args, all_held, hidden, Does, Stops}
use Rattle.cr_expand.specs.Items.{item_texts}
use Rattle.cr_expand.specs.Parts.{part_texts, all_filled_text}
use Rattle.cr_expand.proofs.Noted.{same_watch}
use Rattle.cr_expand.proofs.Sets.{grows_then}
use Rattle.cr_expand.proofs.Kept.{watch_kept, token_kept, hidden_kept}
use Rattle.cr_expand.proofs.Substitutes.{subst_does, fill_stops, paste_stops}
use Rattle.cr_expand.proofs.subst.subst.Goals as goal

pub returns-in_err-parts-clause-stops : goal.returns-in_err-parts-clause-stops
returns-in_err-parts-clause-stops c = λ hide. let p = err_from_is_err_and c.from_residual-in_err-parts.result c.from_residual-in_err-parts.ensures.1 in
    let name : Token = token_of c.args.names.now hide c.args.name in
    rw (p.1, p.2)
    (fill_stops (watch_of c.args.names.now c.args.notes.now) c.args.notes.now.seen.items c.prepared.new.notes.seen.items name (macro_text c.args.names.now c.args.m.now)
    (all_args c.args.names.now c.args.sets.now (map (λ v. v.items) c.args.raw.now)) (all_args c.args.names.now c.args.sets.now (map (λ v. v.items) c.args.full.now)) (hidden c.args.names.now c.args.sets.now c.args.hide.0)
    (item_texts c.args.names.now c.in_ok-items.items.items) c.in_ok-items.ensures.items (c.in_ok-items.ensures.seen hide c.args.sets.now) c.in_err-parts.field-0.0
    (subst (λ x. Stops (all_filled_text c.args.names.now c.args.sets.now name (map (λ v. v.items) c.args.raw.now) (map (λ v. v.items) c.args.full.now) x) c.in_err-parts.field-0.0) c.deref.ensures.value (c.in_err-parts.ensures.stops hide)))

pub returns-in_err-pasted-clause-stops : goal.returns-in_err-pasted-clause-stops
returns-in_err-pasted-clause-stops c = λ hide. let p = err_from_is_err_and c.from_residual-in_err-pasted.result c.from_residual-in_err-pasted.ensures.1 in
    let name : Token = token_of c.args.names.now hide c.args.name in
    let w : Watch = watch_of c.args.names.now c.args.notes.now in
    let f : Does w c.prepared.new.notes.seen.items c.fill.new.notes.seen.items (all_filled_text c.args.names.now c.args.sets.now name (map (λ v. v.items) c.args.raw.now) (map (λ v. v.items) c.args.full.now) c.in_ok-items.items.items) (part_texts c.fill.new.names c.args.sets.now c.in_ok-parts.parts.items) =
    subst (λ x. Does x c.prepared.new.notes.seen.items c.fill.new.notes.seen.items (all_filled_text c.args.names.now c.args.sets.now name (map (λ v. v.items) c.args.raw.now) (map (λ v. v.items) c.args.full.now) c.in_ok-items.items.items) (part_texts c.fill.new.names c.args.sets.now c.in_ok-parts.parts.items))
    (same_watch c.args.names.now c.prepared.new.notes c.args.notes.now c.in_ok-items.ensures.same.0 c.in_ok-items.ensures.same.1)
    (subst (λ x. Does (watch_of c.args.names.now c.prepared.new.notes) c.prepared.new.notes.seen.items c.fill.new.notes.seen.items (all_filled_text c.args.names.now c.args.sets.now name (map (λ v. v.items) c.args.raw.now) (map (λ v. v.items) c.args.full.now) x) (part_texts c.fill.new.names c.args.sets.now c.in_ok-parts.parts.items)) c.deref.ensures.value (c.in_ok-parts.ensures.does hide)) in
    let same : token_of c.fill.new.names hide c.args.name ≡ name = token_kept c.args.names.now c.fill.new.names hide c.args.name c.in_ok-parts.ensures.grows c.requires.name in
    rw (p.1, p.2)
    (paste_stops w c.args.notes.now.seen.items c.prepared.new.notes.seen.items name (macro_text c.args.names.now c.args.m.now)
    (all_args c.args.names.now c.args.sets.now (map (λ v. v.items) c.args.raw.now)) (all_args c.args.names.now c.args.sets.now (map (λ v. v.items) c.args.full.now)) (hidden c.args.names.now c.args.sets.now c.args.hide.0)
    (item_texts c.args.names.now c.in_ok-items.items.items) c.in_ok-items.ensures.items (c.in_ok-items.ensures.seen hide c.args.sets.now) c.fill.new.notes.seen.items (part_texts c.fill.new.names c.args.sets.now c.in_ok-parts.parts.items) c.in_err-pasted.field-0.0 f
    (subst (λ x. Stops (spec.all_pasted x None false (part_texts c.fill.new.names c.args.sets.now c.in_ok-parts.parts.items)) c.in_err-pasted.field-0.0) same
    (subst (λ x. Stops (spec.all_pasted (token_of c.fill.new.names hide c.args.name) None false (part_texts c.fill.new.names c.args.sets.now x)) c.in_err-pasted.field-0.0) c.deref-2.ensures.value (c.in_err-pasted.ensures.stops hide))))

pub returns-clause-does : goal.returns-clause-does
returns-clause-does c = λ hide.
    let name : Token = token_of c.args.names.now hide c.args.name in
    let w : Watch = watch_of c.args.names.now c.args.notes.now in
    let parts = part_texts c.fill.new.names c.args.sets.now c.in_ok-parts.parts.items in
    let out : List Token = all_held c.paste_all.new.names c.paste_all.new.sets c.in_ok-pasted.pasted.items in
    let f : Does w c.prepared.new.notes.seen.items c.fill.new.notes.seen.items (all_filled_text c.args.names.now c.args.sets.now name (map (λ v. v.items) c.args.raw.now) (map (λ v. v.items) c.args.full.now) c.in_ok-items.items.items) parts =
    subst (λ x. Does x c.prepared.new.notes.seen.items c.fill.new.notes.seen.items (all_filled_text c.args.names.now c.args.sets.now name (map (λ v. v.items) c.args.raw.now) (map (λ v. v.items) c.args.full.now) c.in_ok-items.items.items) parts)
    (same_watch c.args.names.now c.prepared.new.notes c.args.notes.now c.in_ok-items.ensures.same.0 c.in_ok-items.ensures.same.1)
    (subst (λ x. Does (watch_of c.args.names.now c.prepared.new.notes) c.prepared.new.notes.seen.items c.fill.new.notes.seen.items (all_filled_text c.args.names.now c.args.sets.now name (map (λ v. v.items) c.args.raw.now) (map (λ v. v.items) c.args.full.now) x) parts) c.deref.ensures.value (c.in_ok-parts.ensures.does hide)) in
    let same : token_of c.fill.new.names hide c.args.name ≡ name = token_kept c.args.names.now c.fill.new.names hide c.args.name c.in_ok-parts.ensures.grows c.requires.name in
    let w2 : watch_of c.fill.new.names c.fill.new.notes ≡ w =
    watch_kept c.args.names.now c.fill.new.names c.args.notes.now c.fill.new.notes c.in_ok-parts.ensures.grows c.requires.watched (c.in_ok-parts.ensures.same.0 ∙ c.in_ok-items.ensures.same.0) (c.in_ok-parts.ensures.same.1 ∙ c.in_ok-items.ensures.same.1) in
    let g : Does w c.fill.new.notes.seen.items c.paste_all.new.notes.seen.items (spec.all_pasted name None false parts) out =
    subst (λ x. Does x c.fill.new.notes.seen.items c.paste_all.new.notes.seen.items (spec.all_pasted name None false parts) out) w2
    (subst (λ x. Does (watch_of c.fill.new.names c.fill.new.notes) c.fill.new.notes.seen.items c.paste_all.new.notes.seen.items (spec.all_pasted x None false parts) out) same
    (subst (λ x. Does (watch_of c.fill.new.names c.fill.new.notes) c.fill.new.notes.seen.items c.paste_all.new.notes.seen.items (spec.all_pasted (token_of c.fill.new.names hide c.args.name) None false (part_texts c.fill.new.names c.args.sets.now x)) out) c.deref-2.ensures.value (c.in_ok-pasted.ensures.does hide))) in
    subst_does w c.args.notes.now.seen.items c.prepared.new.notes.seen.items name (macro_text c.args.names.now c.args.m.now)
    (all_args c.args.names.now c.args.sets.now (map (λ v. v.items) c.args.raw.now)) (all_args c.args.names.now c.args.sets.now (map (λ v. v.items) c.args.full.now)) (hidden c.args.names.now c.args.sets.now c.args.hide.0)
    (item_texts c.args.names.now c.in_ok-items.items.items) c.in_ok-items.ensures.items (c.in_ok-items.ensures.seen hide c.args.sets.now) c.fill.new.notes.seen.items c.paste_all.new.notes.seen.items parts out _ f g
    (c.in_ok-placed.ensures.placed
    ∙ ap (λ x. spec.placed name x (all_held c.paste_all.new.names c.paste_all.new.sets c.deref-3.result.now)) (hidden_kept c.args.names.now c.paste_all.new.names c.args.sets.now c.paste_all.new.sets c.args.hide.0 (grows_then c.args.names.now c.fill.new.names c.paste_all.new.names c.in_ok-parts.ensures.grows c.in_ok-pasted.ensures.grows) c.in_ok-pasted.ensures.sets_grow c.requires.tables.named c.requires.hide)
    ∙ ap (λ x. spec.placed name (hidden c.args.names.now c.args.sets.now c.args.hide.0) (all_held c.paste_all.new.names c.paste_all.new.sets x)) c.deref-3.ensures.value)
