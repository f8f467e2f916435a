use Rattle.std.proofs.Common.{◌≡◌, ℕ, List, [], ◌∷◌, ◌++◌, map, None, sym, ap, ◌∙◌, subst, rules}
use Rattle.std.specs.Prelude.{bytes_eq}
use Rattle.std.specs.Map.{lookup}
use Rattle.indexmap.proofs.CallerLemmas.{insert_entry-new}
use Rattle.cr_snapshot.specs.Tables.{IsKeyed}
use Rattle.cr_snapshot.proofs.Looked.{unknown-lookup, map_push, IsKeyed-push}
use Rattle.cr_snapshot.proofs.known.put.Goals as goal

owned : (c : goal.Joined-branch-3) → c.in_ok-key.key.items ≡ c.args.file.path
owned c = search rules

-- the file stands behind the others
grown : (c : goal.Joined-branch-3) → c.insert.new.self.entries ≡ c.args.files.now.entries ++ (c.in_ok-key.key, c.args.file) ∷ []
grown c =
    let P : List ℕ → Type 0 = λ p. lookup (λ k. bytes_eq p k.items) c.args.files.now.entries ≡ None in
    c.in_ok-insert.ensures.entries
    ∙ insert_entry-new (λ a b. bytes_eq a.items b.items) c.args.files.now c.in_ok-key.key c.args.file
    (subst P (sym (owned c)) (unknown-lookup (λ v. v.items) c.args.file.path c.args.files.now.entries c.requires.keyed c.requires.unknown))

pub returns-clause-keyed : goal.returns-clause-keyed
returns-clause-keyed c = subst (IsKeyed (λ v. v.items)) (sym (grown c)) (IsKeyed-push (λ v. v.items) _ c.in_ok-key.key c.args.file (owned c) c.requires.keyed)

pub returns-clause-ok : goal.returns-clause-ok
returns-clause-ok c = ap (map (λ e. e.1)) (grown c) ∙ map_push (λ e. e.1) c.args.files.now.entries (c.in_ok-key.key, c.args.file)
