use Rattle.std.proofs.Common.{◌≡◌, Some, None, sym, ap, ◌∙◌, subst, arith}
use Rattle.std.specs.Prelude.{bytes_eq, position}
use Rattle.std.specs.Option.{option_map}
use Rattle.std.specs.Map.{keys_of, values_of}
use Rattle.std.proofs.lemmas.List.{length-map}
use Rattle.cr_snapshot.proofs.Looked.{position-keyed}
use Rattle.cr_snapshot.proofs.Within.{length-within}
use Rattle.cr_snapshot.proofs.snapshot.Snapshot.number.Goals as goal

pub returns-in-None : goal.returns-in-None
returns-in-None c =
    sym c.in-None.is ∙ c.get_index_of.ensures.index ∙ ap (λ p. position (λ k. bytes_eq p k.items) (keys_of c.self.inside.files.entries)) c.bytes.ensures
    ∙ position-keyed (λ v. v.items) c.args.path.now c.self.inside.files.entries c.self.invariant.0
    ∙ ap (position (λ file. bytes_eq c.args.path.now file.path)) c.self.view_is

pub overflow_cast-result : goal.overflow_cast-result
overflow_cast-result c =
    let below = c.in-Some.ensures.within in
    let same = length-map c.self.inside.files.entries (λ e. e.1) in
    let within = length-within (values_of c.self.inside.files.entries) c.self.invariant.1 in
    omega arith

pub returns-in-Some : goal.returns-in-Some
returns-in-Some c =
    sym c.in-Some.is ∙ c.get_index_of.ensures.index ∙ ap (λ p. position (λ k. bytes_eq p k.items) (keys_of c.self.inside.files.entries)) c.bytes.ensures
    ∙ position-keyed (λ v. v.items) c.args.path.now c.self.inside.files.entries c.self.invariant.0
    ∙ ap (position (λ file. bytes_eq c.args.path.now file.path)) c.self.view_is
