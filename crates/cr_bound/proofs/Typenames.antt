-- That a typedef name specifies the type that it denotes.
use Rattle.std.proofs.Common.{◌≡◌, ℕ, Option, Some, None, sym, ap, ◌∙◌}
use Rattle.cr_base.specs.declared.token.Name.{Name}
use Rattle.cr_base.specs.declared.cause.IllCause.TheVariants as cause
use Rattle.cr_scope.specs.declared.Space.TheVariants as space
use Rattle.cr_types.specs.Types.{Table, IsTypeNo, type_at}
use Rattle.cr_binding.specs.Source.{Source}
use Rattle.cr_binding.specs.State.{Declaration, State}
use Rattle.cr_binding.specs.Declaring.{looked_up, declaration_at, meaning_here}
use Rattle.cr_binding.specs.Specifying.{based, named_type}
use Rattle.cr_names.specs.declared.names.Typed.{Typed}
use Rattle.cr_names.specs.Kept.{KnownNames, IsOf}
use Rattle.cr_names.specs.Names as names
use Rattle.cr_names.specs.Names.{IsNamed, IsMeaning, IsDeclaration, declaration_of}
use Rattle.cr_bound.specs.declared.bound.Bound.{Bound}
use Rattle.cr_bound.specs.Kept.{with_bound, AreSpelled}
use Rattle.cr_bound.specs.Bound.{Any, Does, DoesAny, DoesWith, FailsAny, StaysTyped, StaysWith}
use Rattle.cr_bound.specs.Specifying.{naming_type}
use Rattle.cr_bound.proofs.Lenses.{rest, moves_typed}

module _ (b : Bound) (i : ℕ) (name : Name) (k : Option ℕ) (means : IsMeaning b.names space.Ordinary name k) where
  named_is : (t : Table) (r : Option Declaration) (source : Source) (s : State) → IsNamed i name source → AreSpelled source b
      → declaration_at (with_bound t b s) k ≡ r → naming_type i source (with_bound t b s) ≡ named_type k r i (with_bound t b s)
  named_is t r source s q spelled e =
      (λ j. named_type (m j) (declaration_at (with_bound t b s) (m j)) i (with_bound t b s))
      ∙ ap (λ z. named_type k z i (with_bound t b s)) e
    where
      m : meaning_here source space.Ordinary i (with_bound t b s) ≡ k
      m = means t source (rest b t s) i q spelled.0

  module _ (x : Typed) (found : IsDeclaration b.names k (Some x)) (given : (t : Table) → IsOf t b.names → IsTypeNo t x.ty)
      (y : KnownNames) (m : names.Moves b.names (looked_up space.Ordinary i k) y) where
    pub name_does : (c : Bound) → DoesWith x.ty Any (record b { names = y }) (λ c _. based c) c → DoesAny (IsNamed i name) b (naming_type i) c
    name_does c d t typed = record {
      state = λ source s q sound spelled.
          done.state source s tt sound ((m t).spelled source tt spelled.0, spelled.1)
          ∙ ap (based (type_at t x.ty)) ((m t).state source (rest b t s) tt sound spelled.0)
          ∙ sym (named_is t (Some (declaration_of t b.names.declared.paths x)) source s q spelled (found t (rest b t s)));
      spelled = λ source q h. done.spelled source tt ((m t).spelled source tt h.0, h.1);
    }
      where
        done : Does Any t (record b { names = y }) (λ _. based (type_at t x.ty)) t c
        done = d t (moves_typed b y (looked_up space.Ordinary i k) m t typed) (given t typed.names)

    pub name_typed : (c : Bound) → StaysWith x.ty (record b { names = y }) c → StaysTyped b c
    name_typed c stays t typed = stays t (moves_typed b y (looked_up space.Ordinary i k) m t typed) (given t typed.names)

  pub name_missing : IsDeclaration b.names k None → FailsAny (IsNamed i name) b (naming_type i) cause.Unresolved i
  name_missing missing t typed source s q sound spelled =
      ap (λ z. z.fault) (named_is t None source s q spelled (missing t (rest b t s)))
