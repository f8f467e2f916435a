use Rattle.std.specs.List.{AllByRecursion}
use Rattle.std.proofs.Common.{◌≡◌, ◌≤◌, slice_get, Some, None, sym, ap, ◌∙◌, subst, arith, rules}
use Rattle.std.specs.Prelude.{bytes_eq, position}
use Rattle.std.specs.Map.{lookup, keys_of, values_of}
use Rattle.std.proofs.lemmas.List.{length-map}
use Rattle.cr_snapshot.specs.Files as spec
use Rattle.cr_snapshot.proofs.Looked.{finding-known, finding-unknown}
use Rattle.cr_snapshot.proofs.Within.{length-within, told-small}
use Rattle.cr_snapshot.proofs.snapshot.Snapshot.get.Goals as goal

pub overflow_cast-n : goal.overflow_cast-n
overflow_cast-n c =
    let below = c.in-Some.ensures.within in
    let same = length-map c.self.inside.files.entries (λ e. e.1) in
    let within = length-within (values_of c.self.inside.files.entries) c.self.invariant.1 in
    omega arith

pub returns-in-None-clause-found : goal.returns-in-None-clause-found
returns-in-None-clause-found c =
    let none : lookup (λ k. bytes_eq c.args.path.now k.items) c.self.inside.files.entries ≡ None = search rules in
    subst (λ files. spec.Unknown ≡ spec.finding c.args.path.now files) c.self.view_is
    (sym (finding-unknown (λ v. v.items) c.args.path.now c.self.inside.files.entries c.self.invariant.0 none))

pub returns-in-Some-clause-found : goal.returns-in-Some-clause-found
returns-in-Some-clause-found c =
    let at : position (λ k. bytes_eq c.bytes.result.now k.items) (keys_of c.self.inside.files.entries) ≡ Some c.in-Some.n = sym c.get_index_of.ensures.index ∙ c.in-Some.is in
    let here : slice_get (values_of c.self.inside.files.entries) c.in-Some.n ≡ Some c.file_at.result.now = subst (λ files. slice_get files c.in-Some.n ≡ Some c.file_at.result.now) (sym c.self.view_is) c.file_at.ensures in
    let is : lookup (λ k. bytes_eq c.bytes.result.now k.items) c.self.inside.files.entries ≡ Some c.file_at.result.now = sym c.in-Some.ensures.value ∙ here in
    c.told.ensures
    ∙ sym (finding-known (λ v. v.items) c.bytes.result.now c.self.inside.files.entries c.self.invariant.0 c.in-Some.n c.file_at.result.now at is)
    ∙ ap (λ files. spec.finding c.bytes.result.now files) c.self.view_is
    ∙ ap (λ path. spec.finding path c.args.self.now) c.bytes.ensures

pub returns-in-None-clause-small : goal.returns-in-None-clause-small
returns-in-None-clause-small c n bytes e =
    told-small c.args.path.now c.args.self.now 0 n bytes (subst (λ files. AllByRecursion (λ file. spec.size file.found ≤ 16777216) files) c.self.view_is c.self.invariant.1.sizes) e

pub returns-in-Some-clause-small : goal.returns-in-Some-clause-small
returns-in-Some-clause-small c n bytes e =
    told-small c.args.path.now c.args.self.now 0 n bytes (subst (λ files. AllByRecursion (λ file. spec.size file.found ≤ 16777216) files) c.self.view_is c.self.invariant.1.sizes) e
