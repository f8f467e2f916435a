-- What identifiers in expressions mean.
use Rattle.std.proofs.Common.{◌≡◌, ℕ, Bool, true, false, ◌&&◌, if◌then◌else◌, Option, Some, None, List, sym, ap, ◌∙◌}
use Rattle.cr_base.specs.declared.token.Name.{Name}
use Rattle.cr_base.specs.declared.cause.IllCause.TheVariants as cause
use Rattle.cr_scope.specs.declared.Space.TheVariants as space
use Rattle.cr_types.specs.declared.TypeNo.{TypeNo}
use Rattle.cr_types.specs.Types.{Table, IsTypeNo, type_at}
use Rattle.cr_binding.specs.Source.{Source, is_built_in}
use Rattle.cr_binding.specs.State.{IsBuiltIn, State}
use Rattle.cr_binding.specs.Declaring.{failed, used, looked_up, declaration_at, meaning_here}
use Rattle.cr_binding.specs.Expressions.{push, built_in, is_function_name, is_value, denoting}
use Rattle.cr_names.specs.declared.names.Typed.{Typed}
use Rattle.cr_names.specs.Kept.{KnownNames, IsOf}
use Rattle.cr_names.specs.Names as names
use Rattle.cr_names.specs.Names.{IsMeaning, IsDeclaration, Refuses, declaration_of}
use Rattle.cr_bound.specs.declared.mentions.Mentioned.TheVariants as mentioned
use Rattle.cr_bound.specs.declared.bound.Bound.{Bound}
use Rattle.cr_bound.specs.Kept.{with_bound, IsTyped, AreSpelled}
use Rattle.cr_bound.specs.Bound.{Leaves, FailsAny, IsWord}
use Rattle.cr_bound.specs.Mentions.{IsMentioned, identifying}
use Rattle.cr_bound.proofs.Lenses.{rest}

module _ (b : Bound) (called : Bool) (name : Name) (text : List ℕ) where
  pub function_name : (b.place.in_body && is_function_name text) ≡ true → IsMentioned b called name text mentioned.Supplied
  function_name e = record {
    does = λ t source s w spelled.
        (λ j. if (b.place.in_body && is_function_name (w.1 j)) then built_in b.place.last (with_bound t b s) else denoting called (meaning_here source space.Ordinary b.place.last (with_bound t b s)) (declaration_at (with_bound t b s) (meaning_here source space.Ordinary b.place.last (with_bound t b s))) source b.place.last (with_bound t b s))
        ∙ ap (λ z. if z then built_in b.place.last (with_bound t b s) else denoting called (meaning_here source space.Ordinary b.place.last (with_bound t b s)) (declaration_at (with_bound t b s) (meaning_here source space.Ordinary b.place.last (with_bound t b s))) source b.place.last (with_bound t b s)) e;
    typed = λ t h. tt;
  }

  module _ (other : (b.place.in_body && is_function_name text) ≡ false) (k : Option ℕ) (means : IsMeaning b.names space.Ordinary name k) where
    denotes : (t : Table) (source : Source) (s : State) → IsWord b.place.last name text source → AreSpelled source b
        → identifying called source (with_bound t b s) ≡ denoting called k (declaration_at (with_bound t b s) k) source b.place.last (with_bound t b s)
    denotes t source s w spelled =
        (λ j. if (b.place.in_body && is_function_name (w.1 j)) then built_in b.place.last (with_bound t b s) else denoting called (m j) (declaration_at (with_bound t b s) (m j)) source b.place.last (with_bound t b s))
        ∙ ap (λ z. if z then built_in b.place.last (with_bound t b s) else denoting called k (declaration_at (with_bound t b s) k) source b.place.last (with_bound t b s)) other
      where
        m : meaning_here source space.Ordinary b.place.last (with_bound t b s) ≡ k
        m = means t source (rest b t s) b.place.last w.0 spelled.0

    module _ (x : Typed) (found : IsDeclaration b.names k (Some x)) where
      denotes_this : (t : Table) (source : Source) (s : State) → IsWord b.place.last name text source → AreSpelled source b
          → identifying called source (with_bound t b s) ≡ (if is_value x.row.decl.kind then push (type_at t x.ty) (looked_up space.Ordinary b.place.last k (with_bound t b s)) else failed cause.Unresolved b.place.last (with_bound t b s))
      denotes_this t source s w spelled =
          denotes t source s w spelled ∙ ap (λ o. denoting called k o source b.place.last (with_bound t b s)) (found t (rest b t s))

      pub value_named : is_value x.row.decl.kind ≡ true → ((t : Table) → IsOf t b.names → IsTypeNo t x.ty) → IsMentioned b called name text (mentioned.Denotes k x.ty)
      value_named e given = record {
        does = λ t source s w spelled.
            denotes_this t source s w spelled ∙ ap (λ z. if z then push (type_at t x.ty) (looked_up space.Ordinary b.place.last k (with_bound t b s)) else failed cause.Unresolved b.place.last (with_bound t b s)) e;
        typed = λ t h. given t h.names;
      }

      pub no_value : is_value x.row.decl.kind ≡ false → IsMentioned b called name text mentioned.Nothing
      no_value e = record {
        does = λ t source s w spelled.
            denotes_this t source s w spelled ∙ ap (λ z. if z then push (type_at t x.ty) (looked_up space.Ordinary b.place.last k (with_bound t b s)) else failed cause.Unresolved b.place.last (with_bound t b s)) e;
        typed = λ t h. tt;
      }

    module _ (missing : IsDeclaration b.names k None) where
      denotes_none : (t : Table) (source : Source) (s : State) → IsWord b.place.last name text source → AreSpelled source b
          → identifying called source (with_bound t b s) ≡ (if called && is_built_in text then built_in b.place.last (with_bound t b s) else failed cause.Unresolved b.place.last (with_bound t b s))
      denotes_none t source s w spelled =
          denotes t source s w spelled
          ∙ ap (λ o. denoting called k o source b.place.last (with_bound t b s)) (missing t (rest b t s))
          ∙ ap (λ z. if called && is_built_in z then built_in b.place.last (with_bound t b s) else failed cause.Unresolved b.place.last (with_bound t b s)) w.1

      pub supplied_named : (called && is_built_in text) ≡ true → IsMentioned b called name text mentioned.Supplied
      supplied_named e = record {
        does = λ t source s w spelled. denotes_none t source s w spelled ∙ ap (λ z. if z then built_in b.place.last (with_bound t b s) else failed cause.Unresolved b.place.last (with_bound t b s)) e;
        typed = λ t h. tt;
      }

      pub nothing_named : (called && is_built_in text) ≡ false → IsMentioned b called name text mentioned.Nothing
      nothing_named e = record {
        does = λ t source s w spelled. denotes_none t source s w spelled ∙ ap (λ z. if z then built_in b.place.last (with_bound t b s) else failed cause.Unresolved b.place.last (with_bound t b s)) e;
        typed = λ t h. tt;
      }

  -- ---- what it leaves

  pub supplied_left : (y : KnownNames) → IsMentioned b called name text mentioned.Supplied → names.Moves b.names (used (IsBuiltIn b.place.last)) y
      → (t : Table) → IsTyped t b → Leaves (IsWord b.place.last name text) t b (identifying called) t (record b { names = y }) (push (type_at t b.basics.supplied))
  supplied_left y is m t typed = record {
    state = λ source s w sound spelled.
        (λ j. push (typed.basics.3.1 j) ((m t).state source (rest b t s) tt sound spelled.0 j)) ∙ sym (is.does t source s w spelled);
    spelled = λ source w h. ((m t).spelled source tt h.0, h.1);
  }

  pub denoted_left : (y : KnownNames) (k : Option ℕ) (n : TypeNo) → IsMentioned b called name text (mentioned.Denotes k n) → names.Moves b.names (looked_up space.Ordinary b.place.last k) y
      → (t : Table) → IsTyped t b → Leaves (IsWord b.place.last name text) t b (identifying called) t (record b { names = y }) (push (type_at t n))
  denoted_left y k n is m t typed = record {
    state = λ source s w sound spelled. ap (push (type_at t n)) ((m t).state source (rest b t s) tt sound spelled.0) ∙ sym (is.does t source s w spelled);
    spelled = λ source w h. ((m t).spelled source tt h.0, h.1);
  }

  pub nothing_left : IsMentioned b called name text mentioned.Nothing → FailsAny (IsWord b.place.last name text) b (identifying called) cause.Unresolved b.place.last
  nothing_left is t typed source s w sound spelled = ap (λ z. z.fault) (is.does t source s w spelled)
