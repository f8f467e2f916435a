-- The tokens at the places of an entity are those that denote it.
use Rattle.std.proofs.Common.{◌≡◌, inl, inr, ℕ, ◌+◌, ◌<◌, ◌≤◌, Bool, true, false, ◌||◌, List, [], ◌∷◌, length, map, Option, Some, refl, sym, ap, ◌∙◌, arith, suc, slice_get, eqb-true, eq-eqb}
use Rattle.std.specs.Prelude.{if◌then◌else◌, ◌==◌}
use Rattle.std.specs.List.{zip, filter, AllByRecursion}
use Rattle.cr_base.specs.Substitution.{Rise}
use Rattle.cr_lex.specs.Lexing.{Token}
use Rattle.cr_lex.specs.Renaming.{is_among}
use Rattle.cr_small.proofs.Entities.{denotes_entity, places_of}
use Rattle.cr_small.specs.declared.binder.Denotation.{Denotation}
use Rattle.cr_small.proofs.Flat.{bool_cases}
use Rattle.cr_small.proofs.Cuts.{InOrder}
use Rattle.cr_small.proofs.Sound.{Each, Each-map, HasText}
use Rattle.cr_small.proofs.Names.{AllSpelled, rise-places, same-length}

pub order-from : (ts : List Token) (from end : ℕ) → InOrder from ts end → Each (λ t. from ≤ t.at) ts
order-from [] from end h = tt
order-from (t ∷ ts) from end h =
    (h.0, Each-map (λ v. t.at + length t.text ≤ v.at) (λ v. from ≤ v.at) ts (λ v k. let a = h.0 in omega arith) (order-from ts (t.at + length t.text) end h.1))

not_place : (places : List ℕ) (from len end at : ℕ) → Rise from places len end → at < from → is_among places at ≡ false
not_place [] from len end at rise h = refl
not_place (o ∷ os) from len end at rise h =
    elim (bool_cases (o == at)) [
      | inl same ↦ (let e : o ≡ at = eqb-true o at same in absurd (omega (arith, rise.0)))
      | inr other ↦ ap (λ b. b || is_among os at) other ∙ not_place os (o + len) len end at rise.1 (omega (arith, rise.0))
    ]

among-other : (o at : ℕ) (os : List ℕ) → o < at → is_among (o ∷ os) at ≡ is_among os at
among-other o at os h =
    elim (bool_cases (o == at)) [
      | inl same ↦ (let e : o ≡ at = eqb-true o at same in absurd (omega arith))
      | inr other ↦ ap (λ b. b || is_among os at) other
    ]

module _ (f : ℕ → List ℕ) (entity : ℕ) where
  abbrev places : List Token → List (Option Denotation) → List ℕ
  places ts ds = places_of entity (zip ts ds)

  module _ (t : Token) (ts : List Token) (d : Option Denotation) (ds : List (Option Denotation)) (from end : ℕ) (order : InOrder from (t ∷ ts) end) (text : 0 < length t.text) (all : AllSpelled f (zip (t ∷ ts) (d ∷ ds))) where
    rise : Rise (t.at + length t.text) (places ts ds) (length (f entity)) end
    rise = rise-places f entity ts ds (t.at + length t.text) end order.1 all.1

    places-named : denotes_entity entity d ≡ true → places (t ∷ ts) (d ∷ ds) ≡ t.at ∷ places ts ds
    places-named e = rw e refl

    places-other : denotes_entity entity d ≡ false → places (t ∷ ts) (d ∷ ds) ≡ places ts ds
    places-other e = rw e refl

    head-place : is_among (places (t ∷ ts) (d ∷ ds)) t.at ≡ denotes_entity entity d
    head-place =
        elim (bool_cases (denotes_entity entity d)) [
          | inl named ↦ ap (λ os. is_among os t.at) (places-named named) ∙ ap (λ b. b || is_among (places ts ds) t.at) (eq-eqb t.at t.at refl) ∙ sym named
          | inr other ↦ ap (λ os. is_among os t.at) (places-other other) ∙ not_place (places ts ds) (t.at + length t.text) (length (f entity)) end t.at rise (omega arith) ∙ sym other
        ]

    tail-place : (v : Token) → t.at + length t.text ≤ v.at → is_among (places (t ∷ ts) (d ∷ ds)) v.at ≡ is_among (places ts ds) v.at
    tail-place v h =
        elim (bool_cases (denotes_entity entity d)) [
          | inl named ↦ ap (λ os. is_among os v.at) (places-named named) ∙ among-other t.at v.at (places ts ds) (omega arith)
          | inr other ↦ ap (λ os. is_among os v.at) (places-other other)
        ]

  -- a place is that of each token which denotes the entity, and of no other
  abbrev pub PlacedAs : List ℕ → List Token → List (Option Denotation) → Type 0
  PlacedAs os [] ds = Unit {0}
  PlacedAs os (t ∷ ts) [] = Unit {0}
  PlacedAs os (t ∷ ts) (d ∷ ds) = (is_among os t.at ≡ denotes_entity entity d) × PlacedAs os ts ds

  placed-more : (os ps : List ℕ) (ts : List Token) (ds : List (Option Denotation)) → Each (λ v. is_among os v.at ≡ is_among ps v.at) ts → PlacedAs ps ts ds → PlacedAs os ts ds
  placed-more os ps [] ds e h = tt
  placed-more os ps (t ∷ ts) [] e h = tt
  placed-more os ps (t ∷ ts) (d ∷ ds) e h = (e.0 ∙ h.0, placed-more os ps ts ds e.1 h.1)

  pub placed-as : (ts : List Token) (ds : List (Option Denotation)) (from end : ℕ) → length ds ≡ length ts → InOrder from ts end → Each HasText ts → AllSpelled f (zip ts ds) → PlacedAs (places ts ds) ts ds
  placed-as [] ds from end n order texts all = tt
  placed-as (t ∷ ts) [] from end n order texts all = tt
  placed-as (t ∷ ts) (d ∷ ds) from end n order texts all = (
    head-place t ts d ds from end order texts.0 all,
    placed-more (places (t ∷ ts) (d ∷ ds)) (places ts ds) ts ds
        (Each-map (λ v. t.at + length t.text ≤ v.at) (λ v. is_among (places (t ∷ ts) (d ∷ ds)) v.at ≡ is_among (places ts ds) v.at) ts (λ v k. tail-place t ts d ds from end order texts.0 all v k) (order-from ts (t.at + length t.text) end order.1))
        (placed-as ts ds (t.at + length t.text) end (omega arith) order.1 texts.1 all.1),
  )

  -- what holds of each token that denotes the entity holds at its places
  pub all-at : (Q : ℕ → Type 0) (ts : List Token) (ds : List (Option Denotation)) → AllSpelled f (zip ts ds)
      → ((i : ℕ) (t : Token) (d : Option Denotation) → slice_get ts i ≡ Some t → slice_get ds i ≡ Some d → denotes_entity entity d ≡ true → t.text ≡ f entity → Q t.at)
      → AllByRecursion Q (places ts ds)
  all-at Q [] ds all each = tt
  all-at Q (t ∷ ts) [] all each = tt
  all-at Q (t ∷ ts) (d ∷ ds) all each = by (denotes_entity entity d) refl (all-at Q ts ds all.1 (λ i u e. each (suc i) u e))
    where
      by : (b : Bool) → denotes_entity entity d ≡ b → AllByRecursion Q (places ts ds) → AllByRecursion Q (map (λ one. one.0.at) (if b then (t, d) ∷ filter (λ one. denotes_entity entity one.1) (zip ts ds) else filter (λ one. denotes_entity entity one.1) (zip ts ds)))
      by true e rest = (each 0 t d refl refl e (same-length f entity t d all.0 e), rest)
      by false e rest = rest
