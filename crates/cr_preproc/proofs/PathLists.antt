-- A set of paths as their list.
use Rattle.std.proofs.Common.{◌≡◌, ℕ, Bool, true, false, cond, List, [], ◌∷◌, ◌++◌, map, refl, ap, sym, ◌∙◌}
use Rattle.std.specs.Prelude.{bytes_eq, ◌||◌, if◌then◌else◌}
use Rattle.std.specs.List.{list_any}
use Rattle.cr_base.specs.NameTable.{with_text}

module _ {V : Type 0} (f : V → List ℕ) (text : List ℕ) where
  pub any_map : (ks : List V) → list_any (bytes_eq text) (map f ks) ≡ list_any (λ k. bytes_eq text (f k)) ks
  any_map [] = refl
  any_map (k ∷ ks) = ap (λ b. bytes_eq text (f k) || b) (any_map ks)

  map_push : (ks : List V) (v : V) → map f (ks ++ v ∷ []) ≡ map f ks ++ f v ∷ []
  map_push [] v = refl
  map_push (k ∷ ks) v = ap (λ l. f k ∷ l) (map_push ks v)

  map_if : (b : Bool) (ks : List V) (v : V) → map f (cond b ks (ks ++ v ∷ [])) ≡ cond b (map f ks) (map f ks ++ f v ∷ [])
  map_if true ks v = refl
  map_if false ks v = map_push ks v

  -- the texts after one was put in, if it wasn't there
  pub put_in : (ks grown : List V) (v : V) → f v ≡ text → grown ≡ (if list_any (λ k. bytes_eq (f v) (f k)) ks then ks else ks ++ v ∷ []) → map f grown ≡ with_text (map f ks) text
  put_in ks grown v same e =
      ap (map f) e ∙ map_if (list_any (λ k. bytes_eq (f v) (f k)) ks) ks v
      ∙ ap (λ t. cond (list_any (λ k. bytes_eq t (f k)) ks) (map f ks) (map f ks ++ t ∷ [])) same
      ∙ ap (λ b. cond b (map f ks) (map f ks ++ text ∷ [])) (sym (any_map ks))
