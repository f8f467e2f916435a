-- What the tokens of a text tell, one after another.
use Rattle.std.proofs.Common.{◌≡◌, ℕ, ◌+◌, ◌<◌, ◌≤◌, Bool, false, List, [], ◌∷◌, ◌++◌, length, map, drop, get_or, Option, None, sym, ap, ◌∙◌}
use Rattle.std.specs.Prelude.{if◌then◌else◌, bytes_eq}
use Rattle.std.specs.List.{zip}
use Rattle.std.specs.FinSet.{union, insert, from_list}
use Rattle.std.proofs.lemmas.List.{drop_more, drop_all}
use Rattle.cr_base.specs.declared.token.PpTok.{PpTok}
use Rattle.cr_lex.specs.Lexing.{Token}
use Rattle.cr_lex.specs.Seen.{seen}
use Rattle.cr_small.specs.declared.binder.Denotation.{Denotation}
use Rattle.cr_facts.specs.FactOrder.{Facts, fact_cmp, FactsAreOrdered}
use Rattle.cr_facts.specs.declared.fact.Fact.{Fact}
use Rattle.cr_small_facts.specs.TextFacts.{facts_if_denoted, facts_of_token, facts_among}
use Rattle.cr_small_facts.proofs.Sets.{union_none, union_more, union_both}

-- the set with the facts of a list
abbrev pub and_all : Facts → List Fact → Facts
and_all s facts = union s (from_list {R = fact_cmp} facts)

module _ (law : FactsAreOrdered) where
  -- three facts and further ones, put in one after another
  pub told_in_turn : (s a b c d e : Facts) (f g h : Fact) (xs ys : List Fact) → a ≡ insert s f → b ≡ insert a g → c ≡ insert b h → d ≡ and_all c xs → e ≡ and_all d ys
      → e ≡ and_all s (f ∷ g ∷ h ∷ xs ++ ys)
  told_in_turn s a b c d e f g h xs ys is_a is_b is_c is_d is_e =
      is_e ∙ ap (λ (z : Facts). and_all z ys) is_d
      ∙ sym (union_both law.total law.ties c xs ys)
      ∙ ap (λ (z : Facts). and_all z (xs ++ ys)) is_c ∙ sym (union_more law.total law.ties b h (xs ++ ys))
      ∙ ap (λ (z : Facts). and_all z (h ∷ xs ++ ys)) is_b ∙ sym (union_more law.total law.ties a g (h ∷ xs ++ ys))
      ∙ ap (λ (z : Facts). and_all z (g ∷ h ∷ xs ++ ys)) is_a ∙ sym (union_more law.total law.ties s f (g ∷ h ∷ xs ++ ys))

  module _ (file : ℕ) (old : List ℕ) (all : List Token) (names : List (List ℕ)) (x : PpTok) (tokens : List PpTok) (denotes : List (Option Denotation)) where
    -- what the tokens from an index on tell
    abbrev pub told_from : ℕ → List Fact
    told_from i = facts_among file old all (zip (map (seen names) (drop i tokens)) (drop i denotes))

    told_here : (i : ℕ) → i < length tokens → i < length denotes → told_from i ≡ facts_of_token file old all (seen names (get_or tokens i x)) (get_or denotes i None) ++ told_from (i + 1)
    told_here i h k =
        ap (λ ts. facts_among file old all (zip (map (seen names) ts) (drop i denotes))) (drop_more tokens i x h)
        ∙ ap (λ ds. facts_among file old all (zip (map (seen names) (get_or tokens i x ∷ drop (i + 1) tokens)) ds)) (drop_more denotes i None k)

    pub told_more : (i : ℕ) → i < length tokens → i < length denotes → (s t : Facts) (b : Bool) → bytes_eq (seen names (get_or tokens i x)).text old ≡ b
        → t ≡ and_all s (if b then facts_if_denoted file all (seen names (get_or tokens i x)) (get_or denotes i None) else []) → and_all t (told_from (i + 1)) ≡ and_all s (told_from i)
    told_more i h k s t b e is =
        ap (λ (z : Facts). and_all z (told_from (i + 1))) (is ∙ ap (λ c. and_all s (if c then facts_if_denoted file all (seen names (get_or tokens i x)) (get_or denotes i None) else [])) (sym e))
        ∙ sym (union_both law.total law.ties s (facts_of_token file old all (seen names (get_or tokens i x)) (get_or denotes i None)) (told_from (i + 1)))
        ∙ ap (and_all s) (sym (told_here i h k))

    pub told_none : (i : ℕ) → i < length tokens → i < length denotes → (s : Facts) → bytes_eq (seen names (get_or tokens i x)).text old ≡ false → and_all s (told_from (i + 1)) ≡ and_all s (told_from i)
    told_none i h k s e = told_more i h k s s false e (sym (union_none law.total law.ties s))

  pub told_end : (file : ℕ) (old : List ℕ) (all : List Token) (names : List (List ℕ)) (tokens : List PpTok) (denotes : List (Option Denotation)) (i : ℕ) → length tokens ≤ i → (s : Facts)
      → and_all s (facts_among file old all (zip (map (seen names) (drop i tokens)) (drop i denotes))) ≡ s
  told_end file old all names tokens denotes i e s = ap (λ ts. and_all s (facts_among file old all (zip (map (seen names) ts) (drop i denotes)))) (drop_all i tokens e) ∙ union_none law.total law.ties s
