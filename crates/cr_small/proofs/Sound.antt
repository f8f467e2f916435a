-- What is known of each token that a file is cut into.
use Rattle.std.proofs.Common.{◌≡◌, ℕ, zero, suc, ◌-◌, ◌<◌, ◌⊎◌, inl, inr, Bool, true, false, not, ◌&&◌, ◌||◌, cond, List, [], ◌∷◌, length, take, slice_get, Option, Some, None, refl, ap, sym, ◌∙◌, subst, arith, codes}
use Rattle.std.specs.Prelude.{◌==◌}
use Rattle.std.specs.List.{list_all}
use Rattle.std.proofs.lemmas.List.{take-map}
use Rattle.std.proofs.lemmas.Bool.Decides.{nat_tests}
use Rattle.cr_base.specs.Names.{is_identifier, is_word_byte, starts_name}
use Rattle.cr_base.specs.declared.token.PpKind.{PpKind}
use Rattle.cr_base.specs.declared.token.PpKind.TheVariants.{Ident, Stray}
use Rattle.cr_lex.specs.Spellings.{Part, Piece, part_of, token_kind, is_blank, is_blank_byte, is_line_end, is_comment, is_empty, is_up_to_end}
use Rattle.cr_lex.specs.Spellings as spellings
use Rattle.cr_lex.specs.Joins.{Cell, cells, text_of, begins}
use Rattle.cr_lex.specs.Lexing.{Token, Lexed, Fault, Before, longest, longest_part, or_shorter, by_part, cut, stop, token, with_token, unless_trigraph, first_trigraph, lexed, at_start}
use Rattle.cr_lex.specs.Lexing as lexing
use Rattle.cr_small.proofs.Flat.{both}

-- a fact of each token
abbrev pub Each : (Token → Type 0) → List Token → Type 0
Each P [] = Unit {0}
Each P (t ∷ ts) = P t × Each P ts

pub Each-map : (P Q : Token → Type 0) (ts : List Token) → ((t : Token) → P t → Q t) → Each P ts → Each Q ts
Each-map P Q [] h e = tt
Each-map P Q (t ∷ ts) h e = (h t e.0, Each-map P Q ts h e.1)

pub Each-get : (P : Token → Type 0) (ts : List Token) (i : ℕ) (t : Token) → Each P ts → slice_get ts i ≡ Some t → P t
Each-get P [] i t e h = let no : ⊥ = cc in absurd no
Each-get P (x ∷ xs) zero t e h = let same : x ≡ t = cc in subst P same e.0
Each-get P (x ∷ xs) (suc i) t e h = Each-get P xs i t e.1 h

abbrev pub HasText : Token → Type 0
HasText t = 0 < length t.text

-- a token has some bytes, and one whose text is an identifier is one
abbrev pub IsSound : Token → Type 0
IsSound t = HasText t × (is_identifier t.text ≡ true → t.kind ≡ Ident)

-- what the longest front of at most n bytes is
abbrev IsFront : ℕ → List ℕ → ℕ × Part → Type 0
IsFront n text p = (0 < p.0) × ((part_of (take p.0 text) ≡ Some p.1) ⊎ ((◌≡◌ {A = ℕ × Part} p (1, Piece Stray)) × (0 < n → part_of (take 1 text) ≡ None)))

is-front : (n : ℕ) (text : List ℕ) → IsFront n text (longest n text)
unfolding longest
is-front zero text = (omega arith, inr (refl, λ h. absurd (omega (arith, h))))
is-front (suc n) text = by (part_of (take (suc n) text)) refl (is-front n text)
  where
    first : (k : ℕ) → part_of (take (suc k) text) ≡ None → (0 < k → part_of (take 1 text) ≡ None) → 0 < suc k → part_of (take 1 text) ≡ None
    first zero e none h = e
    first (suc k) e none h = none (omega arith)

    by : (o : Option Part) → part_of (take (suc n) text) ≡ o → IsFront n text (longest n text) → IsFront (suc n) text (or_shorter (suc n) (longest n text) o)
    by (Some p) e h = (omega arith, inl e)
    by None e (some, inl k) = (some, inl k)
    by None e (some, inr (same, none)) = (some, inr (same, first n e none))

name-not-blank : (b : ℕ) → starts_name b ≡ true → is_blank_byte b ≡ false
name-not-blank b h = grind (arith, nat_tests)

name-not-end : (b : ℕ) → starts_name b ≡ true → (b == 10) ≡ false
name-not-end b h = grind (arith, nat_tests)

name-not-slash : (b : ℕ) → starts_name b ≡ true → (b == 47) ≡ false
name-not-slash b h = grind (arith, nat_tests)

-- an identifier is that part
ident-part : (w : List ℕ) → is_identifier w ≡ true → part_of w ≡ Some (Piece Ident)
unfolding part_of token_kind
ident-part [] h = let no : ⊥ = cc in absurd no
ident-part (b ∷ bs) h =
    let k = (both (starts_name b) (list_all is_word_byte bs) h).0 in
    let blank : is_blank (b ∷ bs) ≡ false = ap (λ x. x && is_empty bs) (name-not-blank b k) in
    let end : is_line_end (b ∷ bs) ≡ false = ap (λ x. x && is_empty bs) (name-not-end b k) in
    rw (blank, end, comment bs (name-not-slash b k), h) refl
  where
    comment : (bs : List ℕ) → (b == 47) ≡ false → is_comment (b ∷ bs) ≡ false
    comment [] e = refl
    comment (c ∷ cs) e = ap (λ x. x && ((c == 42 && is_up_to_end cs) || (c == 47 && list_all (λ c. not (c == 10)) cs))) e

-- the tokens that cells are cut into
pub all-sound : (before : Before) (skip : ℕ) (cs : List Cell) → Each IsSound (cut before skip cs).tokens
unfolding cut
all-sound before skip [] = tt
all-sound before (suc skip) (c ∷ cs) = all-sound before skip cs
all-sound before zero (c ∷ cs) = on (longest_part (text_of (c ∷ cs))) (is-front (length (text_of (c ∷ cs))) (text_of (c ∷ cs))) (λ after n. all-sound after n cs)
  where
    stopped : (l : Lexed) (o : Option ℕ) → Each IsSound l.tokens → Each IsSound (unless_trigraph l o).tokens
    stopped l None k = k
    stopped l (Some at) k = tt

    opened : (x : Bool) (f : Fault) (l : Lexed) → Each IsSound l.tokens → Each IsSound (cond x (stop f) l).tokens
    opened true f l k = tt
    opened false f l k = k

    ident : (n : ℕ) (kind : PpKind) → IsFront (length (text_of (c ∷ cs))) (text_of (c ∷ cs)) (suc n, Piece kind) → is_identifier (text_of (take (suc n) (c ∷ cs))) ≡ true → kind ≡ Ident
    ident n kind front h = by front.1
      where
        own : is_identifier (take (suc n) (text_of (c ∷ cs))) ≡ true
        own = ap is_identifier (take-map (λ (x : Cell). x.byte) (suc n) (c ∷ cs)) ∙ h

        by : (part_of (take (suc n) (text_of (c ∷ cs))) ≡ Some (Piece kind)) ⊎ ((◌≡◌ {A = ℕ × Part} (suc n, Piece kind) (1, Piece Stray)) × (0 < length (text_of (c ∷ cs)) → part_of (take 1 (text_of (c ∷ cs))) ≡ None)) → kind ≡ Ident
        by (inl e) = let same : Some (Piece Ident) ≡ Some (Piece kind) = sym (ident-part (take (suc n) (text_of (c ∷ cs))) own) ∙ e in cc
        by (inr (same, none)) =
            let one : suc n ≡ 1 = ap (λ (p : ℕ × Part). p.0) same in
            let no : Some (Piece Ident) ≡ None = sym (ident-part (take (suc n) (text_of (c ∷ cs))) own) ∙ ap (λ m. part_of (take m (text_of (c ∷ cs)))) one ∙ none (omega arith) in
            let bad : ⊥ = cc in absurd bad

    on : (p : ℕ × Part) → IsFront (length (text_of (c ∷ cs))) (text_of (c ∷ cs)) p → ((after : Before) (n : ℕ) → Each IsSound (cut after n cs).tokens) → Each IsSound (by_part before c cs (λ after n. cut after n cs) p).tokens
    on (n, spellings.Blank) front more = more (record before { space = true }) (n - 1)
    on (n, spellings.Comment) front more = more (record before { space = true }) (n - 1)
    on (n, spellings.LineEnd) front more = more (record { first = true; space = true }) (n - 1)
    on (zero, Piece kind) front more = absurd (omega (arith, front.0))
    on (suc n, Piece kind) front more =
        opened (begins (codes "/*") (text_of (c ∷ cs))) (lexing.OpenComment c.at) _
        (stopped (with_token (token before kind c (c ∷ take n cs)) (cut (record { first = false; space = false }) (suc n - 1) cs)) (first_trigraph (c ∷ take n cs))
        ((omega arith, ident n kind front), more (record { first = false; space = false }) (suc n - 1)))

-- and those of a file
pub sound : (bytes : List ℕ) → Each IsSound (lexed bytes).tokens
unfolding lexed
sound bytes = all-sound at_start zero (cells zero 0 1 bytes)

pub texts : (bytes : List ℕ) → Each HasText (lexed bytes).tokens
texts bytes = Each-map IsSound HasText (lexed bytes).tokens (λ t k. k.0) (sound bytes)
