-- Links that grow.
use Rattle.std.proofs.Common.{◌≡◌, ℕ, ◌+◌, ◌<◌, ◌⊎◌, List, [], ◌∷◌, ◌++◌, length, map, get_or, sym, ap, ◌∙◌, subst, inl, inr, arith}
use Rattle.std.specs.List.{Contains}
use Rattle.std.proofs.lemmas.Bool.{cases_eq}
use Rattle.std.proofs.lemmas.List.{get_or-set_same, get_or-set_other, length-set, length-map}
use Rattle.std.proofs.lemmas.List.Elements.{Contains-push, Contains-push_cases, Contains-append_left}
use Rattle.cr_class.specs.Graph.{linked_with, with_link, Leads, AreLinked}

-- what is linked afterwards
pub grown_cases : (links : List (List ℕ)) (a b c d : ℕ) → a < length links → Contains (linked_with (with_link a b links) c) d → Contains (linked_with links c) d ⊎ ((a ≡ c) × (b ≡ d))
grown_cases links a b c d within has = by (cases_eq c a)
  where
    by : (c ≡ a) ⊎ (c ≡ a → ⊥) → Contains (linked_with links c) d ⊎ ((a ≡ c) × (b ≡ d))
    by (inl e) =
        let here : linked_with (with_link a b links) c ≡ linked_with links c ++ b ∷ [] =
        ap (linked_with (with_link a b links)) e ∙ get_or-set_same links a (linked_with links a ++ b ∷ []) [] within ∙ ap (λ n. linked_with links n ++ b ∷ []) (sym e) in
        last (Contains-push_cases (linked_with links c) b d (subst (λ l. Contains l d) here has))
      where
        last : Contains (linked_with links c) d ⊎ (b ≡ d) → Contains (linked_with links c) d ⊎ ((a ≡ c) × (b ≡ d))
        last (inl h) = inl h
        last (inr h) = inr (sym e, h)
    by (inr n) = inl (subst (λ l. Contains l d) (get_or-set_other links a c (linked_with links a ++ b ∷ []) [] n) has)

pub grown_old : (links : List (List ℕ)) (a b c d : ℕ) → a < length links → Contains (linked_with links c) d → Contains (linked_with (with_link a b links) c) d
grown_old links a b c d within has = by (cases_eq c a)
  where
    by : (c ≡ a) ⊎ (c ≡ a → ⊥) → Contains (linked_with (with_link a b links) c) d
    by (inl e) =
        let here : linked_with (with_link a b links) c ≡ linked_with links c ++ b ∷ [] =
        ap (linked_with (with_link a b links)) e ∙ get_or-set_same links a (linked_with links a ++ b ∷ []) [] within ∙ ap (λ n. linked_with links n ++ b ∷ []) (sym e) in
        subst (λ l. Contains l d) (sym here) (Contains-append_left (linked_with links c) (b ∷ []) d has)
    by (inr n) = subst (λ l. Contains l d) (sym (get_or-set_other links a c (linked_with links a ++ b ∷ []) [] n)) has

pub grown_new : (links : List (List ℕ)) (a b : ℕ) → a < length links → Contains (linked_with (with_link a b links) a) b
grown_new links a b within =
    subst (λ l. Contains l b) (sym (get_or-set_same links a (linked_with links a ++ b ∷ []) [] within)) (Contains-push (linked_with links a) b)

-- one more node and its leader
pub more_links : (before zero one two : List (List ℕ)) (leaders : List ℕ) (i leader : ℕ) → i < length zero → leader < length zero → get_or leaders i 0 ≡ leader
    → one ≡ with_link i leader zero → two ≡ with_link leader i one → AreLinked before zero i leaders → AreLinked before two (i + 1) leaders
more_links before zero one two leaders i leader within below is first second linked = record {
  only = λ a b has. only_by a b has;
  old = λ a b has. keep a b (linked.old a b has);
  new = λ a b leads. new_by a b leads;
}
  where
    count : leader < length one
    count = subst (λ n. leader < n) (sym (ap length first ∙ length-set zero i (linked_with zero i ++ leader ∷ []))) below

    keep : (a b : ℕ) → Contains (linked_with zero a) b → Contains (linked_with two a) b
    keep a b has =
        subst (λ l. Contains (linked_with l a) b) (sym second) (grown_old one leader i a b count
        (subst (λ l. Contains (linked_with l a) b) (sym first) (grown_old zero i leader a b within has)))

    wider : (a b : ℕ) → Leads i leaders a b → Leads (i + 1) leaders a b
    wider a b (inl h) = inl (omega (arith, h.0), h.1)
    wider a b (inr h) = inr (omega (arith, h.0), h.1)

    only_by : (a b : ℕ) → Contains (linked_with two a) b → Contains (linked_with before a) b ⊎ Leads (i + 1) leaders a b
    only_by a b has = by_second (grown_cases one leader i a b count (subst (λ l. Contains (linked_with l a) b) second has))
      where
        by_old : Contains (linked_with before a) b ⊎ Leads i leaders a b → Contains (linked_with before a) b ⊎ Leads (i + 1) leaders a b
        by_old (inl h) = inl h
        by_old (inr h) = inr (wider a b h)

        by_first : Contains (linked_with zero a) b ⊎ ((i ≡ a) × (leader ≡ b)) → Contains (linked_with before a) b ⊎ Leads (i + 1) leaders a b
        by_first (inl h) = by_old (linked.only a b h)
        by_first (inr h) = inr (inl (omega (arith, h.0), ap (λ n. get_or leaders n 0) (sym h.0) ∙ is ∙ h.1))

        by_second : Contains (linked_with one a) b ⊎ ((leader ≡ a) × (i ≡ b)) → Contains (linked_with before a) b ⊎ Leads (i + 1) leaders a b
        by_second (inl h) = by_first (grown_cases zero i leader a b within (subst (λ l. Contains (linked_with l a) b) first h))
        by_second (inr h) = inr (inr (omega (arith, h.1), ap (λ n. get_or leaders n 0) (sym h.1) ∙ is ∙ h.0))

    there : Contains (linked_with two i) leader
    there =
        subst (λ l. Contains (linked_with l i) leader) (sym second) (grown_old one leader i i leader count
        (subst (λ l. Contains (linked_with l i) leader) (sym first) (grown_new zero i leader within)))

    back : Contains (linked_with two leader) i
    back = subst (λ l. Contains (linked_with l leader) i) (sym second) (grown_new one leader i count)

    new_by : (a b : ℕ) → Leads (i + 1) leaders a b → Contains (linked_with two a) b
    new_by a b (inl h) = at (cases_eq a i)
      where
        at : (a ≡ i) ⊎ (a ≡ i → ⊥) → Contains (linked_with two a) b
        at (inl e) =
            let to : leader ≡ b = sym is ∙ ap (λ n. get_or leaders n 0) (sym e) ∙ h.1 in
            subst (λ n. Contains (linked_with two n) b) (sym e) (subst (λ n. Contains (linked_with two i) n) to there)
        at (inr n) = keep a b (linked.new a b (inl (omega (arith, h.0, n), h.1)))
    new_by a b (inr h) = at (cases_eq b i)
      where
        at : (b ≡ i) ⊎ (b ≡ i → ⊥) → Contains (linked_with two a) b
        at (inl e) =
            let to : leader ≡ a = sym is ∙ ap (λ n. get_or leaders n 0) (sym e) ∙ h.1 in
            subst (λ n. Contains (linked_with two n) b) to (subst (λ n. Contains (linked_with two leader) n) (sym e) back)
        at (inr n) = keep a b (linked.new a b (inr (omega (arith, h.0, n), h.1)))

pub no_leaders : (before : List (List ℕ)) (leaders : List ℕ) → AreLinked before before 0 leaders
no_leaders before leaders = record {
  only = λ a b has. inl has;
  old = λ a b has. has;
  new = λ a b leads. none a b leads;
}
  where
    none : (a b : ℕ) → Leads 0 leaders a b → Contains (linked_with before a) b
    none a b (inl h) = let bad : ⊥ = omega (arith, h.0) in absurd bad
    none a b (inr h) = let bad : ⊥ = omega (arith, h.0) in absurd bad

pub grown_length : {V : Type 0} (view : V → List ℕ) (links now : List V) (a b : ℕ) → map view now ≡ with_link a b (map view links) → length now ≡ length links
grown_length view links now a b is =
    sym (length-map now view) ∙ ap length is ∙ length-set (map view links) a (linked_with (map view links) a ++ b ∷ []) ∙ length-map links view
