use Rattle.std.proofs.Common.{sym, ap, ◌∙◌, subst, map, Some, None, refl, rules}
use Rattle.std.specs.Option.{option_map}
use Rattle.cr_lex.specs.Seen.{seen}
use Rattle.cr_small.specs.Terminals.{has_plain_names}
use Rattle.cr_small.specs.Holding.{AreBraced}
use Rattle.std.specs.List.{zip}
use Rattle.cr_small.specs.Derivation.{HasParts}
use Rattle.cr_small.specs.Resolution.{resolved, file_scope}
use Rattle.cr_small.proofs.Braces.{braced-tree, resolves}
use Rattle.cr_small.proofs.Pairs.{found-length}
use Rattle.cr_small.proofs.binder.resolve.Goals as goal

pub bind-requires-clause-braced : goal.bind-requires-clause-braced
bind-requires-clause-braced c =
    let read : HasParts (map (seen c.args.names.now) c.args.tokens.now) (Some c.in-Some.parts.items) = subst (λ o. HasParts (map (seen c.args.names.now) c.args.tokens.now) (option_map (λ v. v.items) o)) c.in-Some.is c.in_ok-parts.ensures in
    subst (λ ps. AreBraced ps _) (sym (c.deref.ensures.value ∙ read.2)) (braced-tree read.0)

pub returns-clause-resolves : goal.returns-clause-resolves
returns-clause-resolves c text whole same =
    let read : HasParts (map (seen c.args.names.now) c.args.tokens.now) (Some c.in-Some.parts.items) = subst (λ o. HasParts (map (seen c.args.names.now) c.args.tokens.now) (option_map (λ v. v.items) o)) c.in-Some.is c.in_ok-parts.ensures in
    resolves text c.in-Some.parts.items _ whole (ap has_plain_names (sym same) ∙ sym c.has_plain_names.ensures ∙ search rules) (subst (λ ts. HasParts ts (Some c.in-Some.parts.items)) same read)
    (c.in_ok-found.ensures ∙ ap (λ ps. resolved 0 file_scope (zip (map (seen c.args.names.now) c.args.tokens.now) ps)) c.deref.ensures.value ∙ ap (λ ts. resolved 0 file_scope (zip ts c.in-Some.parts.items)) same)

pub returns-clause-length : goal.returns-clause-length
returns-clause-length c =
    found-length (λ v. v.items) c.args.names.now c.args.tokens.now c.in_ok-found.found (returns-clause-resolves c (record { tokens = map (seen c.args.names.now) c.args.tokens.now; fault = None }) refl refl)
