use Rattle.std.proofs.Common.{◌≡◌, ℕ, false, List, [], ◌∷◌, ◌++◌, map, is_some, sym, ap, ◌∙◌, subst, rules}
use Rattle.std.specs.Prelude.{bytes_eq, if◌then◌else◌}
use Rattle.std.specs.List.{list_any}
use Rattle.cr_base.specs.NameTable.{IsDistinct, with_text, Interns}
use Rattle.cr_base.proofs.NameTables.{IsDistinct-push, inserted, list_any-map, position-found, stored}
use Rattle.cr_base.proofs.name_table.NameTable.intern.Goals as goal

pub returns-in-Some-clause-interned : goal.returns-in-Some-clause-interned
returns-in-Some-clause-interned c =
    let found = position-found (λ v. v.items) c.args.text.now c.self.inside.texts.keys c.in-Some.place (sym c.get_index_of.ensures.index ∙ c.in-Some.is) in
    let P : List (List ℕ) → Type 0 = λ l. Interns l c.args.text.now l c.in-Some.place in
    subst P c.self.view_is (sym (ap (λ b. if b then map (λ v. v.items) c.self.inside.texts.keys else map (λ v. v.items) c.self.inside.texts.keys ++ c.args.text.now ∷ []) found.1), found.0)

-- the text isn't among the texts
fresh : (c : goal.In_ok-place) → list_any (λ k. bytes_eq c.args.text.now k.items) c.self.inside.texts.keys ≡ false
fresh c = sym c.get_index_of.ensures.found ∙ ap is_some c.in_default.is

owned : (c : goal.In_ok-place) → c.in_ok-to_vec.field-0.items ≡ c.args.text.now
owned c = search rules

-- the texts afterwards
grown : (c : goal.In_ok-place) → map (λ v. v.items) c.insert_full.new.self.keys ≡ map (λ v. v.items) c.self.inside.texts.keys ++ c.args.text.now ∷ []
grown c = inserted (λ v. v.items) c.args.text.now c.self.inside.texts.keys c.insert_full.new.self.keys c.in_ok-to_vec.field-0 (owned c) (fresh c) c.in_ok-place.ensures.keys

none : (c : goal.In_ok-place) → list_any (bytes_eq c.args.text.now) (map (λ v. v.items) c.self.inside.texts.keys) ≡ false
none c = list_any-map (λ v. v.items) c.args.text.now c.self.inside.texts.keys ∙ fresh c

pub invariant_of-self-2 : goal.invariant_of-self-2
invariant_of-self-2 c = subst IsDistinct (sym (grown c)) (IsDistinct-push _ c.args.text.now (none c) c.self.invariant)

pub returns-clause-interned : goal.returns-clause-interned
returns-clause-interned c =
    let P : List (List ℕ) → Type 0 = λ l. map (λ v. v.items) c.insert_full.new.self.keys ≡ with_text l c.args.text.now in
    let e = c.in_ok-place.ensures.stored in (
      subst P c.self.view_is (grown c ∙ sym (ap (λ b. if b then map (λ v. v.items) c.self.inside.texts.keys else map (λ v. v.items) c.self.inside.texts.keys ++ c.args.text.now ∷ []) (none c))),
      stored (λ v. v.items) c.args.text.now c.insert_full.new.self.keys c.in_ok-to_vec.field-0 e.0 c.in_ok-place.place (owned c) e.1 e.2,
    )

pub returns-clause-distinct : goal.returns-clause-distinct
returns-clause-distinct c = invariant_of-self-2 c
