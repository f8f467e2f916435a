-- What a table says of a path.
use Rattle.std.proofs.lemmas.Bool.{ltb-true}
use Rattle.std.proofs.Common.{nat_lt, ◌≡◌, ℕ, ◌+◌, ◌<◌, Bool, true, false, cond, List, [], ◌∷◌, ◌++◌, length, map, Option, Some, None, refl, sym, ap, ◌∙◌, subst, arith}
use Rattle.std.specs.Prelude.{bytes_eq, if◌then◌else◌}
use Rattle.std.specs.List.{position, position_or_len}
use Rattle.std.specs.Map.{lookup, keys_of, values_of}
use Rattle.std.proofs.lemmas.List.{length-map}
use Rattle.cr_snapshot.specs.declared.known.KnownFile.{KnownFile}
use Rattle.cr_snapshot.specs.Files.{Finding, Unknown, told, finding_from, finding}
use Rattle.cr_snapshot.specs.Tables.{IsKeyed}

-- what the file that was looked up tells
abbrev pub looked_up : ℕ → Option KnownFile → Finding
looked_up n None = Unknown
looked_up n (Some file) = told n file.found

pub told-known : (n : ℕ) (found : Option (List ℕ)) → told n found ≡ Unknown → ⊥
told-known n None e = cc
told-known n (Some bytes) e = cc

pub looked_up-unknown : (n : ℕ) (r : Option KnownFile) → looked_up n r ≡ Unknown → r ≡ None
looked_up-unknown n None e = refl
looked_up-unknown n (Some file) e = absurd (told-known n file.found e)

module _ {V : Type 0} (bytes_of : V → List ℕ) (path : List ℕ) where
  pub finding-looked_up : (es : List (V × KnownFile)) (n : ℕ) → IsKeyed bytes_of es
      → finding_from n path (values_of es) ≡ looked_up (n + position_or_len (λ k. bytes_eq path (bytes_of k)) (keys_of es)) (lookup (λ k. bytes_eq path (bytes_of k)) es)
  finding-looked_up [] n keyed = refl
  finding-looked_up (e ∷ es) n keyed =
      let same : bytes_of e.0 ≡ e.1.path = cc in
      let rest : IsKeyed bytes_of es = cc in
      by (bytes_eq path (bytes_of e.0)) refl (ap (λ p. bytes_eq path p) (sym same)) (finding-looked_up es (n + 1) rest)
    where
      by : (b : Bool) → bytes_eq path (bytes_of e.0) ≡ b → bytes_eq path e.1.path ≡ bytes_eq path (bytes_of e.0)
          → finding_from (n + 1) path (values_of es) ≡ looked_up (n + 1 + position_or_len (λ k. bytes_eq path (bytes_of k)) (keys_of es)) (lookup (λ k. bytes_eq path (bytes_of k)) es)
          → (if bytes_eq path e.1.path then told n e.1.found else finding_from (n + 1) path (values_of es))
          ≡ looked_up (n + position_or_len (λ k. bytes_eq path (bytes_of k)) (keys_of (e ∷ es))) (lookup (λ k. bytes_eq path (bytes_of k)) (e ∷ es))
      by true t u rest =
          let z : n + 0 ≡ n = omega arith in
          rw (u, t, z) refl
      by false t u rest =
          let m = position_or_len (λ k. bytes_eq path (bytes_of k)) (keys_of es) in
          let z : n + (1 + m) ≡ n + 1 + m = omega arith in
          rw (u, t, z) rest

  -- an unknown path is no key
  pub unknown-lookup : (es : List (V × KnownFile)) → IsKeyed bytes_of es → finding path (values_of es) ≡ Unknown → lookup (λ k. bytes_eq path (bytes_of k)) es ≡ None
  unknown-lookup es keyed e = looked_up-unknown _ _ (sym (finding-looked_up es 0 keyed) ∙ e)

pub position-is : {X : Type 0} (p : X → Bool) (xs : List X) (i : ℕ) → position p xs ≡ Some i → (position_or_len p xs ≡ i) × (i < length xs)
position-is p xs i e = by (nat_lt (position_or_len p xs) (length xs)) refl e
  where
    by : (b : Bool) → nat_lt (position_or_len p xs) (length xs) ≡ b → cond b (Some (position_or_len p xs)) None ≡ Some i → (position_or_len p xs ≡ i) × (i < length xs)
    by true t g =
        let here : position_or_len p xs ≡ i = cc in
        (here, subst (λ n. n < length xs) here (ltb-true _ _ t))
    by false t g = let no : ⊥ = cc in absurd no

module _ {V : Type 0} (bytes_of : V → List ℕ) (path : List ℕ) (es : List (V × KnownFile)) (keyed : IsKeyed bytes_of es) where
  -- a path that is a key tells its file by its place
  pub finding-known : (n : ℕ) (file : KnownFile) → position (λ k. bytes_eq path (bytes_of k)) (keys_of es) ≡ Some n
      → lookup (λ k. bytes_eq path (bytes_of k)) es ≡ Some file → finding path (values_of es) ≡ told n file.found
  finding-known n file at is =
      finding-looked_up bytes_of path es 0 keyed ∙ ap (looked_up _) is
      ∙ ap (λ m. told m file.found) (let e : 0 + position_or_len (λ k. bytes_eq path (bytes_of k)) (keys_of es) ≡ position_or_len (λ k. bytes_eq path (bytes_of k)) (keys_of es) = omega arith in e ∙ (position-is (λ k. bytes_eq path (bytes_of k)) (keys_of es) n at).0)

  -- and one that is none is unknown
  pub finding-unknown : lookup (λ k. bytes_eq path (bytes_of k)) es ≡ None → finding path (values_of es) ≡ Unknown
  finding-unknown none = finding-looked_up bytes_of path es 0 keyed ∙ ap (looked_up _) none

pub map_push : {X Y : Type 0} (f : X → Y) (xs : List X) (y : X) → map f (xs ++ y ∷ []) ≡ map f xs ++ f y ∷ []
map_push f [] y = refl
map_push f (x ∷ xs) y = ap (λ l. f x ∷ l) (map_push f xs y)

-- one more file, under its path
pub IsKeyed-push : {V : Type 0} (bytes_of : V → List ℕ) (es : List (V × KnownFile)) (k : V) (file : KnownFile)
    → bytes_of k ≡ file.path → IsKeyed bytes_of es → IsKeyed bytes_of (es ++ (k, file) ∷ [])
IsKeyed-push bytes_of es k file same keyed =
    map_push (λ e. bytes_of e.0) es (k, file) ∙ ap (λ l. l ++ bytes_of k ∷ []) keyed ∙ ap (λ p. map (λ e. e.1.path) es ++ p ∷ []) same
    ∙ sym (map_push (λ e. e.1.path) es (k, file))

-- the place of a path among the keys is that among the files
pub position-keyed : {V : Type 0} (bytes_of : V → List ℕ) (path : List ℕ) (es : List (V × KnownFile)) → IsKeyed bytes_of es
    → position (λ k. bytes_eq path (bytes_of k)) (keys_of es) ≡ position (λ file. bytes_eq path file.path) (values_of es)
position-keyed {V} bytes_of path es keyed =
    by (position_or_len (λ k. bytes_eq path (bytes_of k)) (keys_of es)) (position_or_len (λ file. bytes_eq path file.path) (values_of es)) (length (keys_of es)) (length (values_of es))
    (place es keyed) (length-map es (λ e. e.0) ∙ sym (length-map es (λ e. e.1)))
  where
    by : (a b m n : ℕ) → a ≡ b → m ≡ n → (if nat_lt a m then Some a else None) ≡ (if nat_lt b n then Some b else None)
    by a b m n h k = rw (h, k) refl

    place : (es : List (V × KnownFile)) → IsKeyed bytes_of es → position_or_len (λ k. bytes_eq path (bytes_of k)) (keys_of es) ≡ position_or_len (λ file. bytes_eq path file.path) (values_of es)
    place [] k = refl
    place (e ∷ es) k =
        let same : bytes_of e.0 ≡ e.1.path = cc in
        let rest : IsKeyed bytes_of es = cc in
        rw (ap (λ p. bytes_eq path p) same, place es rest) refl
