-- A set of facts as the list of them.
use Rattle.std.proofs.Common.{◌≡◌, zero, suc, ◌⊎◌, Bool, true, false, ◌||◌, List, [], ◌∷◌, refl, sym, ap, ◌∙◌, subst, inl, inr, arith, Option, Some, None}
use Rattle.std.specs.List.{Contains, list_any, filter_map, cons_option}
use Rattle.std.specs.Ordering.{eq_by_cmp}
use Rattle.std.specs.Cmp.{Equal-is, eq_by_cmp_equiv}
use Rattle.std.specs.FinSet.{contains, from_list, contains-from_list}
use Rattle.std.proofs.lemmas.Map.Views.{list_any-from_Contains}
use Rattle.cr_facts.specs.FactOrder.{Facts, fact_cmp, FactsAreOrdered}
use Rattle.cr_facts.specs.declared.fact.Fact.{Fact}
use Rattle.cr_class.specs.RenameClass.{Has}

pub later : {X : Type 0} (y x : X) (ys : List X) → Contains ys x → Contains (y ∷ ys) x
later y x ys h = (suc h.0, omega (arith, h.1), h.2)

pub cons_cases : {X : Type 0} (y x : X) (ys : List X) → Contains (y ∷ ys) x → (y ≡ x) ⊎ Contains ys x
cons_cases y x ys (zero, lt, e) = inl e
cons_cases y x ys (suc k, lt, e) = inr (k, omega (arith, lt), e)

module _ (law : FactsAreOrdered) where
  any_in : (f : Fact) (all : List Fact) → list_any (eq_by_cmp fact_cmp f) all ≡ true → Contains all f
  any_in f [] h = let bad : ⊥ = cc in absurd bad
  any_in f (g ∷ all) h = by (eq_by_cmp fact_cmp f g) refl (any_in f all) h
    where
      by : (b : Bool) → eq_by_cmp fact_cmp f g ≡ b → (list_any (eq_by_cmp fact_cmp f) all ≡ true → Contains all f) → (b || list_any (eq_by_cmp fact_cmp f) all) ≡ true → Contains (g ∷ all) f
      by true e rest h = (0, omega arith, sym (law.ties f g ((Equal-is (fact_cmp f g)).0 e)))
      by false e rest h = later g f all (rest h)

  pub listed : (facts : Facts) (all : List Fact) → from_list all ≡ facts → (f : Fact) → Has facts f → Contains all f
  listed facts all is f has = any_in f all (sym (contains-from_list law.total all f) ∙ ap (λ (s : Facts). contains s f) is ∙ has)

  pub told : (facts : Facts) (all : List Fact) → from_list all ≡ facts → (f : Fact) → Contains all f → Has facts f
  told facts all is f has = sym (ap (λ (s : Facts). contains s f) is) ∙ contains-from_list law.total all f ∙ list_any-from_Contains (eq_by_cmp_equiv law.total) f all has

-- the first fact of those that are left, and the others
pub first_in : {X : Type 0} (x y : X) (all rest : List X) → all ≡ x ∷ rest → x ≡ y → Contains all y
first_in x y all rest more e = subst (λ l. Contains l y) (sym more) (0, omega arith, e)

pub rest_in : {X : Type 0} (x y : X) (all rest : List X) → all ≡ x ∷ rest → Contains rest y → Contains all y
rest_in x y all rest more has = subst (λ l. Contains l y) (sym more) (later x y rest has)

-- what a filter keeps
pub kept : {X Y : Type 0} (f : X → Option Y) (xs : List X) (x : X) (y : Y) → Contains xs x → f x ≡ Some y → Contains (filter_map f xs) y
kept f [] x y has e = let bad : ⊥ = omega (arith, has.1) in absurd bad
kept {Y} f (z ∷ xs) x y has e = by (cons_cases z x xs has) (kept f xs x y)
  where
    longer : (o : Option Y) → Contains (filter_map f xs) y → Contains (cons_option o (filter_map f xs)) y
    longer None h = h
    longer (Some w) h = later w y (filter_map f xs) h

    by : (z ≡ x) ⊎ Contains xs x → (Contains xs x → f x ≡ Some y → Contains (filter_map f xs) y) → Contains (cons_option (f z) (filter_map f xs)) y
    by (inl same) rest = subst (λ o. Contains (cons_option o (filter_map f xs)) y) (sym (ap f same ∙ e)) (0, omega arith, refl)
    by (inr h) rest = longer (f z) (rest h e)

pub from_kept : {X Y : Type 0} (f : X → Option Y) (xs : List X) (y : Y) → Contains (filter_map f xs) y → (x : X) × Contains xs x × (f x ≡ Some y)
from_kept f [] y has = let bad : ⊥ = omega (arith, has.1) in absurd bad
from_kept {X} {Y} f (z ∷ xs) y has = by (f z) refl has (from_kept f xs y)
  where
    behind : (x : X) × Contains xs x × (f x ≡ Some y) → (x : X) × Contains (z ∷ xs) x × (f x ≡ Some y)
    behind h = (h.0, later z h.0 xs h.1, h.2)

    own : (w : Y) → f z ≡ Some w → (w ≡ y) ⊎ Contains (filter_map f xs) y → (Contains (filter_map f xs) y → (x : X) × Contains xs x × (f x ≡ Some y)) → (x : X) × Contains (z ∷ xs) x × (f x ≡ Some y)
    own w e (inl same) rest = (z, (0, omega arith, refl), e ∙ ap Some same)
    own w e (inr h) rest = behind (rest h)

    by : (o : Option Y) → f z ≡ o → Contains (cons_option o (filter_map f xs)) y → (Contains (filter_map f xs) y → (x : X) × Contains xs x × (f x ≡ Some y)) → (x : X) × Contains (z ∷ xs) x × (f x ≡ Some y)
    by None e h rest = behind (rest h)
    by (Some w) e h rest = own w e (cons_cases w y (filter_map f xs) h) rest
