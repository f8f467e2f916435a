-- What a text means is one.
use Rattle.std.proofs.Common.{◌≡◌, ℕ, ◌<◌, List, [], ◌∷◌, length, not, ◌&&◌, Option, Some, None, Result, inl, false, refl, sym, ap, ◌∙◌, subst, arith}
use Rattle.std.specs.Prelude.{Ok, Err, IfOk, OnOk, is_some, bytes_eq, ◌==◌, if◌then◌else◌}
use Rattle.std.proofs.lemmas.Bool.Decides.{nat_tests}
use Rattle.cr_lex.specs.Lexing.{Token, Lexed, lexed}
use Rattle.cr_small.specs.Keys.{Key, external, at}
use Rattle.cr_small.specs.Laws.{IsNameOf, PlacesRise}
use Rattle.cr_base.specs.Substitution.{Rise}
use Rattle.cr_small.specs.Renaming.{has_text}
use Rattle.cr_small.specs.SmallForm.{IsSmallForm, Resolves, DenotesOne}
use Rattle.cr_small.specs.declared.binder.Denotation.{Denotation}
use Rattle.cr_run.specs.Survey.{Meaning, IsMeaning, places_in_text, unspellable_in_text}
use Rattle.cr_run.specs.Held.{Wanted, key_at, key_in_file, IsNamed, IsFound}
use Rattle.cr_run.specs.declared.survey.Finding.{Finding}

-- two answers for the same tokens are one
pub means : DenotesOne → (meaning : Meaning) → IsMeaning meaning → (text : Lexed) (found : Option (List (Option Denotation))) → Resolves text found → meaning text ≡ found
means one meaning is text found r = by (meaning text) found (is text) r
  where
    by : (a b : Option (List (Option Denotation))) → Resolves text a → Resolves text b → a ≡ b
    by None None r s = refl
    by None (Some ds) r s = absurd (r ds s)
    by (Some ds) None r s = absurd (s ds r)
    by (Some ds) (Some es) r s = ap (λ x. Some x) (one text ds es r s)

pub if_ok_more : {V E : Type 0} (r : Result V E) (P Q : V → Type 0) → ((v : V) → P v → Q v) → IfOk r P → IfOk r Q
if_ok_more (Ok v) P Q more h = more v h
if_ok_more (Err e) P Q more h = tt

pub on_ok_more : {V E : Type 0} (r : Result V E) (P Q : Type 0) → (P → Q) → OnOk r P → OnOk r Q
on_ok_more (Ok v) P Q more h = more h
on_ok_more (Err e) P Q more h = tt

no_places : (key : Option Key) (tokens : List Token) → places_in_text key tokens None ≡ []
no_places None tokens = refl
no_places (Some key) tokens = refl

no_unspellable : (bytes new : List ℕ) (key : Option Key) (tokens : List Token) → unspellable_in_text bytes new key tokens None ≡ None
no_unspellable bytes new None tokens = refl
no_unspellable bytes new (Some key) tokens = refl

module _ (one : DenotesOne) (meaning : Meaning) (is : IsMeaning meaning) (wanted : Wanted) (path bytes : List ℕ) (number : ℕ) where
  -- a text that isn't of the small form is found as an absent file is
  pub unclear_text : (f : Finding) → Resolves (lexed bytes) None → ((meaning : Meaning) (wanted : Wanted) (path : List ℕ) → IsFound meaning wanted path None number f) → IsFound meaning wanted path (Some bytes) number f
  unclear_text f none h =
      let found = h meaning wanted path in
      let e = means one meaning is (lexed bytes) None none in
      let nowhere : places_in_text (key_at wanted path wanted.key) (lexed bytes).tokens (meaning (lexed bytes)) ≡ [] =
      ap (places_in_text (key_at wanted path wanted.key) (lexed bytes).tokens) e ∙ no_places (key_at wanted path wanted.key) (lexed bytes).tokens in (
        record {
          clear = found.0.clear ∙ sym (ap (λ (o : Option (List (Option Denotation))). is_some o && not (has_text wanted.new (lexed bytes).tokens)) e);
          unspellable = found.0.unspellable ∙ sym (ap (unspellable_in_text bytes wanted.new (key_at wanted path wanted.key) (lexed bytes).tokens) e ∙ no_unspellable bytes wanted.new (key_at wanted path wanted.key) (lexed bytes).tokens);
          bytes = λ some. let none : length (places_in_text (key_at wanted path wanted.key) (lexed bytes).tokens (meaning (lexed bytes))) ≡ 0 = ap length nowhere in absurd (omega (arith, some, none));
        },
        record {
          numbered = found.1.numbered;
          places = found.1.places;
          told = found.1.told;
          holds = found.1.holds ∙ sym nowhere;
          own = found.1.own;
        },
      )

pub key_there : (wanted : Wanted) (path : List ℕ) (number : ℕ) (key : Option Key) → bytes_eq wanted.source path ≡ false → 0 < number → key_at wanted path key ≡ key_in_file number key
key_there wanted path number None apart later = refl
key_there wanted path number (Some (external name)) apart later = refl
key_there wanted path number (Some (at offset)) apart later =
    let other : (number == 0) ≡ false = grind (arith, nat_tests) in
    ap (λ b. if b then Some (at offset) else None) (apart ∙ sym other)

-- in the source an entity has its key
pub key_of_source : (key : Option Key) → key_in_file 0 key ≡ key
key_of_source None = refl
key_of_source (Some (external name)) = refl
key_of_source (Some (at offset)) = refl

pub named_there : (old : List ℕ) (number : ℕ) (key : Option Key) (k : Key) (tokens : List Token) (denotes : List (Option Denotation)) → 0 < number → IsNamed old key → key_in_file number key ≡ Some k → IsNameOf old k tokens denotes
named_there old number None k tokens denotes later named h = let no : None ≡ Some k = h in let bad : ⊥ = cc in absurd bad
named_there old number (Some (external name)) k tokens denotes later named h = let same : external name ≡ k = cc in inl (sym same ∙ ap external (named name refl))
named_there old number (Some (at offset)) k tokens denotes later named h =
    let other : (number == 0) ≡ false = grind (arith, nat_tests) in
    let no : None ≡ Some k = sym (ap (λ b. if b then Some (at offset) else None) other) ∙ h in
    let bad : ⊥ = cc in
    absurd bad

pub rise_kept : (places bytes kept : List ℕ) (len : ℕ) → (0 < length places → kept ≡ bytes) → Rise 0 places len (length bytes) → Rise 0 places len (length kept)
rise_kept [] bytes kept len same h = omega arith
rise_kept (p ∷ places) bytes kept len same h = subst (λ b. Rise 0 (p ∷ places) len (length b)) (sym (same (omega arith))) h

pub rise_there : PlacesRise → (bytes old : List ℕ) (key : Option Key) (denotes : List (Option Denotation)) → IsSmallForm (lexed bytes) denotes → ((k : Key) → key ≡ Some k → IsNameOf old k (lexed bytes).tokens denotes)
    → Rise 0 (places_in_text key (lexed bytes).tokens (Some denotes)) (length old) (length bytes)
rise_there law bytes old None denotes small named = omega arith
rise_there law bytes old (Some key) denotes small named = law bytes old key denotes small (named key refl)
