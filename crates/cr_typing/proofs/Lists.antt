-- What the records list, where one of them changes.
use Rattle.std.proofs.Common.{◌≡◌, ◌≢◌, ℕ, true, false, eqb, unwrap_or, List, sym, ap, subst, inl, inr, ◌⊎◌}
use Rattle.std.proofs.lemmas.Bool.{ne_eqb}
use Rattle.std.proofs.lemmas.Bool.Decides.{eqb_tells}
use Rattle.std.specs.Map.{lookup}
use Rattle.cr_types.specs.declared.RecNo.{RecNo}
use Rattle.cr_typing.specs.Members.{Listed, listed_in, nothing_listed}

-- records whose lists are looked up alike
pub others_listed : (es fs : List (RecNo × Listed)) (r : RecNo)
    → ((q : RecNo) → eqb r.0 q.0 ≡ false → lookup (λ (k : RecNo). eqb q.0 k.0) fs ≡ lookup (λ (k : RecNo). eqb q.0 k.0) es)
    → (q : ℕ) → q ≢ r.0 → listed_in fs q ≡ listed_in es q
others_listed es fs r same q ne =
    ap (λ o. unwrap_or o nothing_listed) (same (record { 0 = q }) (ne_eqb r.0 q (λ e. ne (sym e))))

-- what holds of the changed record and of the others holds of all
pub each_listed : (P : Listed → Type 0) (es fs : List (RecNo × Listed)) (r : ℕ)
    → P (listed_in fs r) → ((q : ℕ) → P (listed_in es q)) → ((q : ℕ) → q ≢ r → listed_in fs q ≡ listed_in es q) → (q : ℕ) → P (listed_in fs q)
each_listed P es fs r here before others q = by (eqb_tells q r)
  where
    by : ((eqb q r ≡ true) × (q ≡ r)) ⊎ ((eqb q r ≡ false) × (q ≢ r)) → P (listed_in fs q)
    by (inl h) = subst (λ k. P (listed_in fs k)) (sym h.1) here
    by (inr h) = subst P (sym (others q h.1)) (before q)
