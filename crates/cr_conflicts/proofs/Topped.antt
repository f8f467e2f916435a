-- Typedefs around an ask, by the innermost and the outermost group of a name.
use Rattle.std.proofs.Common.{◌≡◌, ℕ, ◌+◌, ◌<◌, ◌≤◌, Option, Some, None, List, length, subst, arith}
use Rattle.cr_base.specs.declared.token.Name.{Name}
use Rattle.cr_base.specs.declared.token.Place.{Place}
use Rattle.cr_facts.specs.FactOrder.{Facts}
use Rattle.cr_paths.specs.Paths.{path_at}
use Rattle.cr_declared.specs.declared.rows.Slot.{Slot}
use Rattle.cr_groups.specs.declared.groups.Group.{Group}
use Rattle.cr_groups.specs.declared.groups.Sort.TheVariants as sort
use Rattle.cr_groups.specs.Adding.{Adds}
use Rattle.cr_groups.specs.Nearest.{NoneAround, IsNearest, IsOutermost}
use Rattle.cr_groups.specs.Outward.{limit_over, IsAround}
use Rattle.cr_groups.proofs.Added.{adds_same, adds_none}
use Rattle.cr_conflicts.specs.Asks.{ordinary, IsTop, IsTypedefOver, IsOverTypedef}

module _ (ps : List (List ℕ)) (es : List (Slot × Group)) where
  pub top_none : (s : Slot) (before : ℕ) → NoneAround ps es s before sort.Any → IsTop ps es s before None
  top_none s before none d = ((λ le p enc found. absurd (none p enc found)), (λ h. omega arith))

  pub top_some : (s : Slot) (before at deep : ℕ) → IsNearest ps es s before sort.Any at → deep ≡ length (path_at ps at) → IsTop ps es s before (Some deep)
  top_some s before at deep near e d = (
    (λ le p enc found. let b : length (path_at ps p) ≤ length (path_at ps at) = near.best p enc found in omega (arith, b, le, e)),
    (λ h. let l : length (path_at ps at) < d = h at near.around near.there in omega (arith, l, e)),
  )

  module _ (old new : Name) (path before : ℕ) (site : Place) where
    pub typedefs_over : (start end : Facts) (r : Option ℕ) (a b : Slot) → a ≡ ordinary path new → b ≡ ordinary path old → IsTop ps es a before r
        → Adds start end (IsAround ps es b before (limit_over r) sort.Typedef site) → Adds start end (IsTypedefOver ps es old new path before site)
    typedefs_over start end r a b ea eb top h =
        let t : IsTop ps es (ordinary path new) before r = subst (λ z. IsTop ps es z before r) ea top in
        adds_same start end (IsAround ps es (ordinary path old) before (limit_over r) sort.Typedef site) (IsTypedefOver ps es old new path before site)
        (λ f k. (k.0, k.1, (t (length (path_at ps k.0))).0 k.2, k.3))
        (λ f k. (k.0, k.1, (t (length (path_at ps k.0))).1 k.2, k.3))
        (subst (λ z. Adds start end (IsAround ps es z before (limit_over r) sort.Typedef site)) eb h)

    pub no_typedef : (start : Facts) (b : Slot) → b ≡ ordinary path old → NoneAround ps es b before sort.Typedef → Adds start start (IsOverTypedef ps es old path before site)
    no_typedef start b eb none =
        let n : NoneAround ps es (ordinary path old) before sort.Typedef = subst (λ z. NoneAround ps es z before sort.Typedef) eb none in
        adds_none start (IsOverTypedef ps es old path before site) (λ f k. n k.3.0 k.3.1 k.3.3)

    pub over_typedef : (start end : Facts) (b : Slot) (at deep : ℕ) → b ≡ ordinary path old → IsOutermost ps es b before sort.Typedef at → deep ≡ length (path_at ps at)
        → Adds start end (IsAround ps es b before (limit_over (Some deep)) sort.Other site) → Adds start end (IsOverTypedef ps es old path before site)
    over_typedef start end b at deep eb out e h =
        let o : IsOutermost ps es (ordinary path old) before sort.Typedef at = subst (λ z. IsOutermost ps es z before sort.Typedef at) eb out in
        adds_same start end (IsAround ps es (ordinary path old) before (limit_over (Some deep)) sort.Other site) (IsOverTypedef ps es old path before site)
        (λ f k. let l : 1 + deep ≤ length (path_at ps k.0) = k.2 in (k.0, k.1, k.3, (at, o.around, omega (arith, l, e), o.there)))
        (λ f k.
        let l : length (path_at ps k.3.0) < length (path_at ps k.0) = k.3.2 in
        let m : length (path_at ps at) ≤ length (path_at ps k.3.0) = o.best k.3.0 k.3.1 k.3.3 in
        (k.0, k.1, omega (arith, l, m, e), k.2))
        (subst (λ z. Adds start end (IsAround ps es z before (limit_over (Some deep)) sort.Other site)) eb h)
