-- The pieces of a list, one after another.
use Rattle.std.proofs.Common.{◌≡◌, ℕ, zero, suc, ◌+◌, ◌-◌, ◌<◌, Bool, true, false, cond, List, [], ◌∷◌, ◌++◌, length, drop, get_or, ap, sym, ◌∙◌, arith, drop-cons, add-one, inl, inr}
use Rattle.std.specs.Prelude.{codes}
use Rattle.std.proofs.Math.ListN.{get_or-eq_default}
use Rattle.std.proofs.lemmas.Bool.{cases_lt}
use Rattle.cr_base.specs.declared.token.Name.{Name}
use Rattle.cr_macros.specs.Definition.{text_of}
use Rattle.cr_preproc.specs.Seen.{AreNamed}
use Rattle.cr_base.specs.declared.token.PpTok.{PpTok}
use Rattle.cr_macros.specs.Tokens.{Text, Token, token_of, tokens_of}
use Rattle.cr_phase4.specs.Conditionals.{pieces}

at_index : (names : List Text) (tokens : List PpTok) (i : ℕ) (d : PpTok) → i < length tokens → tokens_of names (drop i tokens) ≡ token_of names [] (get_or tokens i d) ∷ tokens_of names (drop (i + 1) tokens)
at_index names tokens i d h = ap (tokens_of names) (drop-cons tokens i d h ∙ ap (λ n. get_or tokens i d ∷ drop n tokens) (sym (add-one i)))

less : (skip : ℕ) (t : Token) (ts : List Token) → 0 < skip → pieces skip (t ∷ ts) ≡ pieces (skip - 1) ts
less zero t ts h = absurd (omega arith)
less (suc n) t ts h = let e : n ≡ suc n - 1 = omega arith in ap (λ k. pieces k ts) e

skips_at : (names : List Text) (tokens : List PpTok) (i : ℕ) (d : PpTok) (skip : ℕ) → i < length tokens → 0 < skip → pieces (skip - 1) (tokens_of names (drop (i + 1) tokens)) ≡ pieces skip (tokens_of names (drop i tokens))
skips_at names tokens i d skip h k = sym (ap (pieces skip) (at_index names tokens i d h) ∙ less skip (token_of names [] (get_or tokens i d)) (tokens_of names (drop (i + 1) tokens)) k)

-- a token of the piece before is passed over
pub skips : (names : List Text) (tokens : List PpTok) (i skip : ℕ) → i < length tokens → 0 < skip → pieces (skip - 1) (tokens_of names (drop (i + 1) tokens)) ≡ pieces skip (tokens_of names (drop i tokens))
skips names [] i skip h k = absurd (omega arith)
skips names (t ∷ ts) i skip h k = skips_at names (t ∷ ts) i t skip h k

-- a token behind others
pub named_and : (names : List Text) (ts us : List PpTok) → AreNamed names ts → AreNamed names us → AreNamed names (ts ++ us)
named_and names [] us h k = k
named_and names (t ∷ ts) us h k = (h.0, named_and names ts us h.1 k)

no_digit : (b : Bool) → [] ≡ cond b (codes "1") (codes "0") → ⊥
no_digit true e = cc
no_digit false e = cc

-- A name whose text is `1` or `0` is one of the table.
pub digit_known : (names : List Text) (n : Name) (b : Bool) → text_of names n ≡ cond b (codes "1") (codes "0") → n.0 < length names
digit_known names n b e = elim (cases_lt n.0 (length names)) [ inl h ↦ h | inr h ↦ absurd (no_digit b (sym (get_or-eq_default names [] h) ∙ e)) ]
