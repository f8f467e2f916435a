-- The search for what is reached.
use Rattle.std.proofs.Common.{◌≡◌, ℕ, zero, suc, ◌+◌, ◌<◌, ◌⊎◌, Bool, true, false, List, [], ◌∷◌, ◌++◌, length, get_or, refl, sym, ap, ◌∙◌, subst, inl, inr, arith, length-append, replicate}
use Rattle.std.specs.Prelude.{slice_set}
use Rattle.std.specs.List.{Contains}
use Rattle.std.proofs.lemmas.Bool.{cases_eq}
use Rattle.std.proofs.lemmas.List.{get_or-set_same, get_or-set_other, length-set}
use Rattle.std.proofs.lemmas.List.Elements.{Contains-push, Contains-push_cases, Contains-append_left, Contains-append_right, Contains-append_cases}
use Rattle.cr_class.specs.Graph.{linked_with, Reaches, begins, goes, AreBelow, IsGraph}

pub get_or_same : {X : Type 0} (n i : ℕ) (x : X) → get_or (replicate n x) i x ≡ x
get_or_same zero i x = refl
get_or_same (suc n) zero x = refl
get_or_same (suc n) (suc i) x = get_or_same n i x

abbrev pub is_seen : List Bool → ℕ → Type 0
is_seen seen n = get_or seen n false ≡ true

-- the work that is left at the nodes that aren't seen
abbrev pub unseen : List Bool → List (List ℕ) → ℕ
unseen [] links = 0
unseen (s ∷ seen) [] = 0
unseen (true ∷ seen) (l ∷ links) = unseen seen links
unseen (false ∷ seen) (l ∷ links) = 1 + length l + unseen seen links

pub unseen_less : (seen : List Bool) (links : List (List ℕ)) (n : ℕ) → n < length seen → length seen ≡ length links → get_or seen n false ≡ false
    → unseen (slice_set seen n true) links + 1 + length (linked_with links n) ≡ unseen seen links
unseen_less [] links n within count new = let bad : ⊥ = omega (arith, within) in absurd bad
unseen_less (s ∷ seen) [] n within count new = let bad : ⊥ = omega (arith, count) in absurd bad
unseen_less (true ∷ seen) (l ∷ links) zero within count new = let bad : ⊥ = cc in absurd bad
unseen_less (false ∷ seen) (l ∷ links) zero within count new = omega arith
unseen_less (true ∷ seen) (l ∷ links) (suc n) within count new = unseen_less seen links n (omega (arith, within)) (omega (arith, count)) new
unseen_less (false ∷ seen) (l ∷ links) (suc n) within count new = omega (arith, unseen_less seen links n (omega (arith, within)) (omega (arith, count)) new)

-- what holds while nodes are left to look at
pub record IsSearch (links : List (List ℕ)) (start : List ℕ) (seen : List Bool) (left : List ℕ) : Type 0 where
  pub count : length seen ≡ length links
  pub below : AreBelow (length links) left
  pub sound : (n : ℕ) → is_seen seen n → Reaches links start n
  pub pending : (n : ℕ) → Contains left n → Reaches links start n
  pub first : (n : ℕ) → Contains start n → is_seen seen n ⊎ Contains left n
  pub closed : (n m : ℕ) → is_seen seen n → Contains (linked_with links n) m → is_seen seen m ⊎ Contains left m

module _ (links : List (List ℕ)) (start : List ℕ) where
  pub at_first : (seen : List Bool) → length seen ≡ length links → ((n : ℕ) → get_or seen n false ≡ false) → AreBelow (length links) start → IsSearch links start seen start
  at_first seen count none below = record {
    count = count;
    below = below;
    sound = λ n is. (let bad : ⊥ = cc (none n, is) in absurd bad);
    pending = λ n has. begins has;
    first = λ n has. inr has;
    closed = λ n m is has. (let bad : ⊥ = cc (none n, is) in absurd bad);
  }

  module _ (seen : List Bool) (left rest : List ℕ) (n : ℕ) (is : left ≡ rest ++ n ∷ []) (search : IsSearch links start seen left) where
    own : Contains left n
    own = subst (λ l. Contains l n) (sym is) (Contains-push rest n)

    kept : (m : ℕ) → Contains rest m → Contains left m
    kept m has = subst (λ l. Contains l m) (sym is) (Contains-append_left rest (n ∷ []) m has)

    cases : (m : ℕ) → Contains left m → Contains rest m ⊎ (n ≡ m)
    cases m has = Contains-push_cases rest n m (subst (λ l. Contains l m) is has)

    pub is_node : n < length seen
    is_node = subst (λ k. n < k) (sym search.count) (search.below n own)

    pub less : (more : List ℕ) → get_or seen n false ≡ false → more ≡ rest ++ linked_with links n → unseen (slice_set seen n true) links + length more < unseen seen links + length left
    less more new grown =
        omega (arith, unseen_less seen links n is_node search.count new, ap length is, ap length grown, length-append rest (n ∷ []), length-append rest (linked_with links n))

    -- the node was seen before
    pub passed : is_seen seen n → IsSearch links start seen rest
    passed known = record {
      count = search.count;
      below = λ m has. search.below m (kept m has);
      sound = search.sound;
      pending = λ m has. search.pending m (kept m has);
      first = λ m has. by m (search.first m has);
      closed = λ k m at has. by m (search.closed k m at has);
    }
      where
        by : (m : ℕ) → is_seen seen m ⊎ Contains left m → is_seen seen m ⊎ Contains rest m
        by m (inl h) = inl h
        by m (inr h) = own_or (cases m h)
          where
            own_or : Contains rest m ⊎ (n ≡ m) → is_seen seen m ⊎ Contains rest m
            own_or (inl k) = inr k
            own_or (inr e) = inl (subst (is_seen seen) e known)

    -- the node is seen now, and what it is linked with is left to look at
    pub found : (now : List Bool) (more : List ℕ) → IsGraph links → now ≡ slice_set seen n true → more ≡ rest ++ linked_with links n → IsSearch links start now more
    found now more graph set grown = record {
      count = ap length set ∙ length-set seen n true ∙ search.count;
      below = λ m has. below_by m (Contains-append_cases rest (linked_with links n) m (subst (λ l. Contains l m) grown has));
      sound = λ m at. sound_by m at (cases_eq m n);
      pending = λ m has. pending_by m (Contains-append_cases rest (linked_with links n) m (subst (λ l. Contains l m) grown has));
      first = λ m has. by m (search.first m has);
      closed = λ k m at has. closed_by k m at has (cases_eq k n);
    }
      where
        seen_now : is_seen now n
        seen_now = ap (λ l. get_or l n false) set ∙ get_or-set_same seen n true false is_node

        other : (m : ℕ) → (m ≡ n → ⊥) → get_or now m false ≡ get_or seen m false
        other m ne = ap (λ l. get_or l m false) set ∙ get_or-set_other seen n m true false ne

        still : (m : ℕ) → is_seen seen m → is_seen now m
        still m at = still_by (cases_eq m n)
          where
            still_by : (m ≡ n) ⊎ (m ≡ n → ⊥) → is_seen now m
            still_by (inl e) = subst (is_seen now) (sym e) seen_now
            still_by (inr ne) = other m ne ∙ at

        below_by : (m : ℕ) → Contains rest m ⊎ Contains (linked_with links n) m → m < length links
        below_by m (inl h) = search.below m (kept m h)
        below_by m (inr h) = graph n m h

        sound_by : (m : ℕ) → is_seen now m → (m ≡ n) ⊎ (m ≡ n → ⊥) → Reaches links start m
        sound_by m at (inl e) = subst (Reaches links start) (sym e) (search.pending n own)
        sound_by m at (inr ne) = search.sound m (sym (other m ne) ∙ at)

        pending_by : (m : ℕ) → Contains rest m ⊎ Contains (linked_with links n) m → Reaches links start m
        pending_by m (inl h) = search.pending m (kept m h)
        pending_by m (inr h) = goes (search.pending n own) h

        more_rest : (m : ℕ) → Contains rest m → Contains more m
        more_rest m h = subst (λ l. Contains l m) (sym grown) (Contains-append_left rest (linked_with links n) m h)

        by : (m : ℕ) → is_seen seen m ⊎ Contains left m → is_seen now m ⊎ Contains more m
        by m (inl h) = inl (still m h)
        by m (inr h) = own_or (cases m h)
          where
            own_or : Contains rest m ⊎ (n ≡ m) → is_seen now m ⊎ Contains more m
            own_or (inl k) = inr (more_rest m k)
            own_or (inr e) = inl (subst (is_seen now) e seen_now)

        closed_by : (k m : ℕ) → is_seen now k → Contains (linked_with links k) m → (k ≡ n) ⊎ (k ≡ n → ⊥) → is_seen now m ⊎ Contains more m
        closed_by k m at has (inl e) =
            inr (subst (λ l. Contains l m) (sym grown) (Contains-append_right rest (linked_with links n) m (subst (λ j. Contains (linked_with links j) m) e has)))
        closed_by k m at has (inr ne) = by m (search.closed k m (sym (other k ne) ∙ at) has)

  -- nothing is left
  pub whole : (seen : List Bool) → IsSearch links start seen [] → (n : ℕ) → Reaches links start n → is_seen seen n
  whole seen is_search n (begins has) = by (is_search.first n has)
    where
      by : is_seen seen n ⊎ Contains {X = ℕ} [] n → is_seen seen n
      by (inl h) = h
      by (inr h) = let bad : ⊥ = omega (arith, h.1) in absurd bad
  whole seen is_search n (goes {n = m} way has) = by (is_search.closed m n (whole seen is_search m way) has)
    where
      by : is_seen seen n ⊎ Contains {X = ℕ} [] n → is_seen seen n
      by (inl h) = h
      by (inr h) = let bad : ⊥ = omega (arith, h.1) in absurd bad
