-- What the facts of one text tell.
use Rattle.std.proofs.Common.{◌≡◌, ◌≢◌, ℕ, ◌<◌, Bool, true, false, ◌||◌, List, [], ◌∷◌, length, map, Option, Some, None, slice_get, suc, refl, sym, ap, ◌∙◌, subst, arith, eqb-true, eq-eqb}
use Rattle.std.specs.Prelude.{◌==◌, if◌then◌else◌, bytes_eq}
use Rattle.std.specs.List.{zip, filter}
use Rattle.std.proofs.lemmas.Slice.Eq.{bytes_eq-Decides}
use Rattle.cr_lex.specs.Lexing.{Token, lexed}
use Rattle.cr_small.specs.Keys.{Key, external, at, is_key, key_of}
use Rattle.cr_small.specs.Laws.{IsNameOf, HaveOneName}
use Rattle.cr_small.specs.Renaming.{has_text, has_key, denotes_key, places_among, places_of}
use Rattle.cr_small.specs.SmallForm.{IsSmallForm}
use Rattle.cr_small.specs.declared.binder.Denotation.{Denotation}
use Rattle.std.specs.FinSet.{contains, empty, contains-empty}
use Rattle.cr_facts.specs.FactOrder.{Facts, fact_cmp}
use Rattle.cr_facts.specs.declared.fact.Fact.TheVariants as fact
use Rattle.cr_small_facts.specs.TextFacts.{place, key_over, text_facts}
use Rattle.cr_small_facts.specs.Places.{ArePlaces}
use Rattle.cr_small_facts.specs.Laws as laws
use Rattle.cr_run.specs.Survey.{places_in_text}
use Rattle.cr_run.specs.Table.{TellsPlaces, TellsNone}
use Rattle.cr_run.specs.Held.{key_in_file}

module _ (bytes old : List ℕ) (denotes : List (Option Denotation)) (number : ℕ) where
  pub told : laws.TellsPlaces → laws.TellsOwn → IsSmallForm (lexed bytes) denotes → (key : Option Key) → ((k : Key) → key_in_file number key ≡ Some k → IsNameOf old k (lexed bytes).tokens denotes)
      → TellsPlaces (text_facts number old (lexed bytes).tokens denotes) number (places_in_text (key_in_file number key) (lexed bytes).tokens (Some denotes)) key
  told tells own small None named = tt
  told tells own small (Some (external name)) named = tells bytes old (external name) denotes number small (named (external name) refl)
  told tells own small (Some (at offset)) named = by (number == 0) refl named
    where
      by : (b : Bool) → (number == 0) ≡ b → ((k : Key) → (if b then Some (at offset) else None) ≡ Some k → IsNameOf old k (lexed bytes).tokens denotes)
          → ArePlaces (text_facts number old (lexed bytes).tokens denotes) number (key_over 0 (at offset)) (places_in_text (if b then Some (at offset) else None) (lexed bytes).tokens (Some denotes))
      by true e name =
          subst (λ n. ArePlaces (text_facts number old (lexed bytes).tokens denotes) number (key_over n (at offset)) (places_of (at offset) (lexed bytes).tokens denotes)) (eqb-true number 0 e)
          (tells bytes old (at offset) denotes number small (name (at offset) refl))
      by false e name =
          let apart : 0 ≢ number = λ same. (let no : true ≡ false = sym (eq-eqb number 0 (sym same)) ∙ e in let bad : ⊥ = cc in bad) in
          record { rise = tt; each = λ n. (own number old (lexed bytes).tokens denotes 0 apart).1 (place number n) offset }

  pub told_none : laws.TellsOwn → (key : Option Key) (n : ℕ) → n ≢ number → TellsNone (text_facts number old (lexed bytes).tokens denotes) n key
  told_none own None n apart = tt
  told_none own (Some key) n apart = λ offset. (own number old (lexed bytes).tokens denotes n apart).0 offset (key_over 0 key)

same_key : (a b : Key) → is_key a b ≡ true → a ≡ b
same_key (external n) (external m) h = ap external ((bytes_eq-Decides n m).0 h)
same_key (external n) (at o) h = let bad : ⊥ = cc in absurd bad
same_key (at o) (external n) h = let bad : ⊥ = cc in absurd bad
same_key (at o) (at p) h = ap at (eqb-true o p h)

or_right : (a : Bool) → (a || true) ≡ true
or_right true = refl
or_right false = refl

-- where an entity of a key has a place, some token is spelled so
spelled_among : (old : List ℕ) (all : List Token) (key : Key) (ts : List Token) (ds : List (Option Denotation))
    → ((i : ℕ) (t : Token) (d : Denotation) → slice_get ts i ≡ Some t → slice_get ds i ≡ Some (Some d) → key_of all d ≡ Some key → t.text ≡ old)
    → 0 < length (places_among all key (zip ts ds)) → has_text old ts ≡ true
spelled_among old all key [] ds named h = absurd (omega arith)
spelled_among old all key (t ∷ ts) [] named h = absurd (omega arith)
spelled_among old all key (t ∷ ts) (d ∷ ds) named h = by (denotes_key all key d) refl h (spelled_among old all key ts ds (λ i. named (suc i)))
  where
    keyed : (x : Denotation) (o : Option Key) → key_of all x ≡ o → has_key key o ≡ true → key_of all x ≡ Some key
    keyed x None e g = let bad : ⊥ = cc in absurd bad
    keyed x (Some l) e g = e ∙ ap (λ z. Some z) (sym (same_key key l g))

    here : (d' : Option Denotation) → d ≡ d' → denotes_key all key d' ≡ true → t.text ≡ old
    here None e g = let bad : ⊥ = cc in absurd bad
    here (Some x) e g = named 0 t x refl (ap (λ z. Some z) e) (keyed x (key_of all x) refl g)

    by : (b : Bool) → denotes_key all key d ≡ b → 0 < length (map (λ one. one.0.at) (if b then (t, d) ∷ filter (λ one. denotes_key all key one.1) (zip ts ds) else filter (λ one. denotes_key all key one.1) (zip ts ds)))
        → (0 < length (places_among all key (zip ts ds)) → has_text old ts ≡ true) → (bytes_eq t.text old || has_text old ts) ≡ true
    by true e g more = ap (λ b. b || has_text old ts) ((bytes_eq-Decides t.text old).1 (here d refl e))
    by false e g more = ap (λ b. bytes_eq t.text old || b) (more g) ∙ or_right (bytes_eq t.text old)

pub spelled : HaveOneName → (bytes old : List ℕ) (denotes : List (Option Denotation)) → IsSmallForm (lexed bytes) denotes → (key : Option Key) → ((k : Key) → key ≡ Some k → IsNameOf old k (lexed bytes).tokens denotes)
    → 0 < length (places_in_text key (lexed bytes).tokens (Some denotes)) → has_text old (lexed bytes).tokens ≡ true
spelled one bytes old denotes small None named some = absurd (omega arith)
spelled one bytes old denotes small (Some key) named some =
    spelled_among old (lexed bytes).tokens key (lexed bytes).tokens denotes (λ i t d at denoted keyed. (one bytes old key denotes small (named key refl) i t d at denoted keyed).0) some

-- facts of nothing
pub nothing : (n : ℕ) (facts : Facts) → facts ≡ empty → (key : Option Key) → TellsNone facts n key
nothing n facts is None = tt
nothing n facts is (Some key) = λ offset. ap (λ (z : Facts). contains z (fact.Denotes (place n offset) (key_over 0 key))) is ∙ contains-empty fact_cmp (fact.Denotes (place n offset) (key_over 0 key))

pub nowhere : (n : ℕ) (facts : Facts) → facts ≡ empty → (key : Option Key) → TellsPlaces facts n [] key
nowhere n facts is None = tt
nowhere n facts is (Some key) = record { rise = tt; each = nothing n facts is (Some key) }
