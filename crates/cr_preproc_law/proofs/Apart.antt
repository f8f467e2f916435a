-- The place of a final token is on no directive's line, but behind the word of a `define`.
use Rattle.std.proofs.Common.{◌≡◌, ◌⊎◌, inl, inr, ℕ, zero, suc, ◌<◌, ◌≤◌, Bool, true, false, cond, List, [], ◌∷◌, length, refl, ap, sym, ◌∙◌, subst, arith}
use Rattle.std.specs.Prelude.{◌==◌, ◌&&◌, not, codes, bytes_eq, Option, Some, None}
use Rattle.std.specs.List.{AllByRecursion, Contains}
use Rattle.std.proofs.lemmas.Bool.Decides.{nat_tests}
use Rattle.cr_base.specs.declared.token.PpKind.{PpKind}
use Rattle.cr_base.specs.declared.token.Place.{Place}
use Rattle.cr_base.specs.declared.token.Origin.{Origin}
use Rattle.cr_base.specs.declared.token.Origin.TheVariants.{At, Made}
use Rattle.cr_lex.specs.Lexing as lexing
use Rattle.cr_lex.specs.Lexing.{lexed}
use Rattle.cr_lex.specs.Order.{AreInOrder, StandsInOrder}
use Rattle.cr_lex.specs.Renaming.{is_among}
use Rattle.cr_snapshot.specs.Files.{Finding, Present, Absent, Unknown}
use Rattle.cr_macros.specs.Tokens.{Text, Token, is_ident}
use Rattle.cr_macros.specs.Substitution.{is_hash}
use Rattle.cr_expand_law.specs.Renaming.{Renaming, is_at, is_old, is_renamed}
use Rattle.cr_expand_law.specs.Origins.{Test, Passes, AllPass}
use Rattle.cr_phase4.specs.declared.conditionals.Word.{Word}
use Rattle.cr_phase4.specs.Lines.{file_of, token_in, place_in, begins_line, into_line, lines_of, Line, Plain, Conditional, Directive, Empty, Wordless, word_of, by_word, line_of}
use Rattle.cr_phase4.specs.Search.{World}
use Rattle.cr_preproc_law.specs.Renaming.{Places, renaming_at, IsSame, AreSame, IsApartIn, IsApart, AreApart}
use Rattle.cr_preproc_law.specs.Finals.{LinePasses, FilePasses, FoundPasses, FinalsPass, IsFinalPlace, IsNumbered}
use Rattle.cr_preproc_law.proofs.Texts.{HasText, tokens_have_text}

-- tokens of file n from an offset on, one behind another, before an end
abbrev Stand : ℕ → ℕ → List Token → ℕ → Type 0
Stand n from [] end = from ≤ end
Stand n from (t ∷ ts) end = (t.origin ≡ At (place_in n t.site.offset)) × (from ≤ t.site.offset) × Stand n (suc t.site.offset) ts end

abbrev StandLines : ℕ → ℕ → List (List Token) → ℕ → Type 0
StandLines n from [] end = from ≤ end
StandLines n from (l ∷ ls) end = (mid : ℕ) × Stand n from l mid × StandLines n mid ls end

stand_from : (n from later : ℕ) (ts : List Token) (end : ℕ) → from ≤ later → Stand n later ts end → Stand n from ts end
stand_from n from later [] end h s = omega arith
stand_from n from later (t ∷ ts) end h s = (s.0, omega (arith, s.1), s.2)

lines_from : (n from later : ℕ) (ls : List (List Token)) (end : ℕ) → from ≤ later → StandLines n later ls end → StandLines n from ls end
lines_from n from later [] end h s = omega arith
lines_from n from later (l ∷ ls) end h s = (s.0, stand_from n from later l s.0 h s.1, s.2)

stand_in : (n : ℕ) (ts : List lexing.Token) (from end : ℕ) → AreInOrder from ts end → AllByRecursion HasText ts → StandLines n from (lines_of n ts) end
stand_in n [] from end o h = o
stand_in n (t ∷ ts) from end o h = go (begins_line ts) (lines_of n ts) (lines_from n (suc t.at) t.end (lines_of n ts) end (omega (arith, o.1, h.0)) (stand_in n ts t.end end o.2 h.1)) where
  go : (b : Bool) (ls : List (List Token)) → StandLines n (suc t.at) ls end → StandLines n from (cond b ((token_in n t ∷ []) ∷ ls) (into_line (token_in n t) ls)) end
  go true ls s = (suc t.at, (refl, o.0, omega arith), s)
  go false [] s = (suc t.at, (refl, o.0, omega arith), s)
  go false (l ∷ ls) s = (s.0, (refl, o.0, s.1), s.2)

-- whether an origin isn't a place

abbrev is_there : Place → Origin → Bool
is_there p Made = false
is_there p (At q) = q.path.0 == p.path.0 && q.offset == p.offset

abbrev is_away : Place → Origin → Bool
is_away p o = not (is_there p o)

abbrev elsewhere : Place → Test
elsewhere p kind text o = is_away p o

same_number : (n : ℕ) → (n == n) ≡ true
same_number n = grind (arith, nat_tests)

other_number : (m n : ℕ) → (m < n) ⊎ (n < m) → (m == n) ≡ false
other_number m n (inl h) = grind (arith, nat_tests)
other_number m n (inr h) = grind (arith, nat_tests)

and_no : (p q : Bool) → q ≡ false → (p && q) ≡ false
and_no true q h = h
and_no false q h = refl

there_itself : (p : Place) → is_away p (At p) ≡ false
there_itself p = ap (λ b. not (b && p.offset == p.offset)) (same_number p.path.0) ∙ ap not (same_number p.offset)

offset_passes : (n k : ℕ) (t : Token) → t.origin ≡ At (place_in n t.site.offset) → (t.site.offset < k) ⊎ (k < t.site.offset) → Passes (elsewhere (place_in n k)) t
offset_passes n k t e h = ap (is_away (place_in n k)) e ∙ ap not (and_no (n == n) (t.site.offset == k) (other_number t.site.offset k h))

stand_end : (n from : ℕ) (ts : List Token) (end : ℕ) → Stand n from ts end → from ≤ end
stand_end n from [] end s = s
stand_end n from (t ∷ ts) end s = let w = stand_end n (suc t.site.offset) ts end s.2 in omega (arith, s.1)

below_pass : (n k from : ℕ) (ts : List Token) (end : ℕ) → Stand n from ts end → end ≤ k → AllPass (elsewhere (place_in n k)) ts
below_pass n k from [] end s h = tt
below_pass n k from (t ∷ ts) end s h = (
  offset_passes n k t s.0 (inl (let w = stand_end n (suc t.site.offset) ts end s.2 in omega arith)),
  below_pass n k (suc t.site.offset) ts end s.2 h,
)

above_pass : (n k from : ℕ) (ts : List Token) (end : ℕ) → Stand n from ts end → k < from → AllPass (elsewhere (place_in n k)) ts
above_pass n k from [] end s h = tt
above_pass n k from (t ∷ ts) end s h = (offset_passes n k t s.0 (inr (let w = s.1 in omega arith)), above_pass n k (suc t.site.offset) ts end s.2 (let w = s.1 in omega arith))

-- a line all of whose tokens pass

word_passes : (test : Test) (l : List Token) (hash : Place) (t : Token) (ts : List Token) (o : Option Word) → AllPass test ts → LinePasses test l (by_word hash t ts o)
word_passes test l hash t ts None h = λ e. h
word_passes test l hash t ts (Some w) h = tt

line_passes : (test : Test) (l : List Token) → AllPass test l → LinePasses test l (line_of l)
line_passes test [] h = tt
line_passes test (a ∷ []) h = go (is_hash a) where
  go : (b : Bool) → LinePasses test (a ∷ []) (cond b Empty Plain)
  go true = tt
  go false = h
line_passes test (a ∷ t ∷ ts) h = go (is_hash a) (is_ident t.kind) where
  go : (b c : Bool) → LinePasses test (a ∷ t ∷ ts) (cond b (cond c (by_word a.site t ts (word_of t.text)) (Wordless a.site)) Plain)
  go true true = word_passes test (a ∷ t ∷ ts) a.site t ts (word_of t.text) h.1.1
  go true false = tt
  go false c = h

lines_above : (n k from : ℕ) (ls : List (List Token)) (end : ℕ) → StandLines n from ls end → k < from → AllByRecursion (λ l. LinePasses (elsewhere (place_in n k)) l (line_of l)) ls
lines_above n k from [] end s h = tt
lines_above n k from (l ∷ ls) end s h = (
  line_passes (elsewhere (place_in n k)) l (above_pass n k from l s.0 s.1 h),
  lines_above n k s.0 ls end s.2 (let w = stand_end n from l s.0 s.1 in omega arith),
)

-- a token at an offset that is on a directive's line, and not behind the word of a `define`

abbrev AnyAt : ℕ → List Token → Type 0
AnyAt k [] = ⊥
AnyAt k (t ∷ ts) = (t.site.offset ≡ k) ⊎ AnyAt k ts

abbrev LineAt : ℕ → Line → Type 0
LineAt k Plain = ⊥
LineAt k (Conditional hash t w ts) = (t.site.offset ≡ k) ⊎ AnyAt k ts
LineAt k (Directive hash t ts) = (t.site.offset ≡ k) ⊎ ((bytes_eq t.text (codes "define") ≡ false) × AnyAt k ts)
LineAt k Empty = ⊥
LineAt k (Wordless hash) = ⊥

abbrev ApartAt : ℕ → List (List Token) → Type 0
ApartAt k [] = ⊥
ApartAt k (l ∷ ls) = LineAt k (line_of l) ⊎ ApartAt k ls

any_between : (n k from : ℕ) (ts : List Token) (end : ℕ) → Stand n from ts end → AnyAt k ts → (from ≤ k) × (k < end)
any_between n k from [] end s a = absurd a
any_between n k from (t ∷ ts) end s (inl e) = let w = stand_end n (suc t.site.offset) ts end s.2 in (omega (arith, s.1), omega arith)
any_between n k from (t ∷ ts) end s (inr a) = let w = any_between n k (suc t.site.offset) ts end s.2 a in (omega (arith, s.1, w.0), w.1)

word_any : (k : ℕ) (hash : Place) (t : Token) (ts : List Token) (o : Option Word) → LineAt k (by_word hash t ts o) → AnyAt k (t ∷ ts)
word_any k hash t ts None (inl e) = inl e
word_any k hash t ts None (inr a) = inr a.1
word_any k hash t ts (Some w) a = a

line_any : (k : ℕ) (l : List Token) → LineAt k (line_of l) → AnyAt k l
line_any k [] a = absurd a
line_any k (h ∷ []) a = go (is_hash h) a where
  go : (b : Bool) → LineAt k (cond b Empty Plain) → AnyAt k (h ∷ [])
  go true x = absurd x
  go false x = absurd x
line_any k (h ∷ t ∷ ts) a = inr (go (is_hash h) (is_ident t.kind) a) where
  go : (b c : Bool) → LineAt k (cond b (cond c (by_word h.site t ts (word_of t.text)) (Wordless h.site)) Plain) → AnyAt k (t ∷ ts)
  go true true x = word_any k h.site t ts (word_of t.text) x
  go true false x = absurd x
  go false c x = absurd x

apart_from : (n k from : ℕ) (ls : List (List Token)) (end : ℕ) → StandLines n from ls end → ApartAt k ls → from ≤ k
apart_from n k from [] end s a = absurd a
apart_from n k from (l ∷ ls) end s (inl a) = (any_between n k from l s.0 s.1 (line_any k l a)).0
apart_from n k from (l ∷ ls) end s (inr a) = let w = apart_from n k s.0 ls end s.2 a in let v = stand_end n from l s.0 s.1 in omega arith

-- what is behind that token on its line
own_word : (n k : ℕ) (l : List Token) (hash : Place) (t : Token) (ts : List Token) (end : ℕ) (o : Option Word) → Stand n (suc t.site.offset) ts end → LineAt k (by_word hash t ts o) → LinePasses (elsewhere (place_in n k)) l (by_word hash t ts o)
own_word n k l hash t ts end None s (inl e) = λ d. above_pass n k (suc t.site.offset) ts end s (omega arith)
own_word n k l hash t ts end None s (inr a) = λ d. absurd (let no : true ≡ false = sym d ∙ a.0 in cc)
own_word n k l hash t ts end (Some w) s a = tt

own_line : (n k from : ℕ) (l : List Token) (end : ℕ) → Stand n from l end → LineAt k (line_of l) → LinePasses (elsewhere (place_in n k)) l (line_of l)
own_line n k from [] end s a = absurd a
own_line n k from (h ∷ []) end s a = go (is_hash h) a where
  go : (b : Bool) → LineAt k (cond b Empty Plain) → LinePasses (elsewhere (place_in n k)) (h ∷ []) (cond b Empty Plain)
  go true x = absurd x
  go false x = absurd x
own_line n k from (h ∷ t ∷ ts) end s a = go (is_hash h) (is_ident t.kind) a where
  go : (b c : Bool) → LineAt k (cond b (cond c (by_word h.site t ts (word_of t.text)) (Wordless h.site)) Plain)
      → LinePasses (elsewhere (place_in n k)) (h ∷ t ∷ ts) (cond b (cond c (by_word h.site t ts (word_of t.text)) (Wordless h.site)) Plain)
  go true true x = own_word n k (h ∷ t ∷ ts) h.site t ts end (word_of t.text) s.2.2 x
  go true false x = absurd x
  go false c x = absurd x

-- Where such a token stands at an offset, no text line and no definition has one there.
others_pass : (n k from : ℕ) (ls : List (List Token)) (end : ℕ) → StandLines n from ls end → ApartAt k ls → AllByRecursion (λ l. LinePasses (elsewhere (place_in n k)) l (line_of l)) ls
others_pass n k from [] end s a = absurd a
others_pass n k from (l ∷ ls) end s (inl a) = (own_line n k from l s.0 s.1 a, lines_above n k s.0 ls end s.2 (any_between n k from l s.0 s.1 (line_any k l a)).1)
others_pass n k from (l ∷ ls) end s (inr a) = (line_passes (elsewhere (place_in n k)) l (below_pass n k from l s.0 s.1 (apart_from n k s.0 ls end s.2 a)), others_pass n k s.0 ls end s.2 a)

-- tokens of another file
file_passes : (m n k from : ℕ) (ts : List Token) (end : ℕ) → (m == n) ≡ false → Stand m from ts end → AllPass (elsewhere (place_in n k)) ts
file_passes m n k from [] end h s = tt
file_passes m n k from (t ∷ ts) end h s = (ap (is_away (place_in n k)) s.0 ∙ ap (λ b. not (b && t.site.offset == k)) h, file_passes m n k (suc t.site.offset) ts end h s.2)

other_file : (m n k from : ℕ) (ls : List (List Token)) (end : ℕ) → (m == n) ≡ false → StandLines m from ls end → AllByRecursion (λ l. LinePasses (elsewhere (place_in n k)) l (line_of l)) ls
other_file m n k from [] end h s = tt
other_file m n k from (l ∷ ls) end h s = (line_passes (elsewhere (place_in n k)) l (file_passes m n k from l s.0 h s.1), other_file m n k s.0 ls end h s.2)

contained : (test : Test) (ts : List Token) (t : Token) → AllPass test ts → Contains ts t → Passes test t
contained test [] t h (k, l, e) = absurd (omega arith)
contained test (x ∷ xs) t h (zero, l, e) = subst (Passes test) e h.0
contained test (x ∷ xs) t h (suc k, l, e) = contained test xs t h.1 (k, omega arith, e)

-- a renaming whose places are nowhere apart
and_left : (p q : Bool) → (p && q) ≡ true → p ≡ true
and_left true q h = refl
and_left false q h = cc

and_right : (p q : Bool) → (p && q) ≡ true → q ≡ true
and_right true q h = h
and_right false q h = cc

module _ (places : Places) (old new : Text) (n : ℕ) where
  abbrev r : Renaming
  r = renaming_at places old new

  old_place : (kind : PpKind) (text : Text) (origin : Origin) (k : ℕ) → origin ≡ At (place_in n k) → is_old r kind text origin ≡ true → is_among (places n) k ≡ true
  old_place kind text origin k e h =
      and_left (is_among (places n) k) (bytes_eq text old) (and_right (is_ident kind) (is_at r text (place_in n k)) (sym (ap (is_old r kind text) e) ∙ h))

  same_if : (t : Token) → t.origin ≡ At (place_in n t.site.offset) → (is_among (places n) t.site.offset ≡ true → ⊥) → IsSame r t
  same_if t e never = go (is_renamed r t) refl where
    go : (b : Bool) → is_renamed r t ≡ b → b ≡ false
    go false h = refl
    go true h = absurd (never (old_place t.kind t.text t.origin t.site.offset e h))

  all_same_if : (from : ℕ) (ts : List Token) (end : ℕ) → Stand n from ts end → ((k : ℕ) → is_among (places n) k ≡ true → AnyAt k ts → ⊥) → AreSame r ts
  all_same_if from [] end s never = tt
  all_same_if from (t ∷ ts) end s never = (same_if t s.0 (λ h. never t.site.offset h (inl refl)), all_same_if (suc t.site.offset) ts end s.2 (λ k h a. never k h (inr a)))

  word_apart : (hash : Place) (t : Token) (ts : List Token) (end : ℕ) (o : Option Word) → t.origin ≡ At (place_in n t.site.offset) → Stand n (suc t.site.offset) ts end → ((k : ℕ) → is_among (places n) k ≡ true → LineAt k (by_word hash t ts o) → ⊥) → IsApartIn r (by_word hash t ts o)
  word_apart hash t ts end None e s never = (same_if t e (λ h. never t.site.offset h (inl refl)), λ d. all_same_if (suc t.site.offset) ts end s (λ k h a. never k h (inr (d, a))))
  word_apart hash t ts end (Some w) e s never = (same_if t e (λ h. never t.site.offset h (inl refl)), all_same_if (suc t.site.offset) ts end s (λ k h a. never k h (inr a)))

  line_apart : (from : ℕ) (l : List Token) (end : ℕ) → Stand n from l end → ((k : ℕ) → is_among (places n) k ≡ true → LineAt k (line_of l) → ⊥) → IsApart r l
  line_apart from [] end s never = tt
  line_apart from (h ∷ []) end s never = go (is_hash h) where
    go : (b : Bool) → IsApartIn r (cond b Empty Plain)
    go true = tt
    go false = tt
  line_apart from (h ∷ t ∷ ts) end s never = go (is_hash h) (is_ident t.kind) never where
    go : (b c : Bool) → ((k : ℕ) → is_among (places n) k ≡ true → LineAt k (cond b (cond c (by_word h.site t ts (word_of t.text)) (Wordless h.site)) Plain) → ⊥)
        → IsApartIn r (cond b (cond c (by_word h.site t ts (word_of t.text)) (Wordless h.site)) Plain)
    go true true x = word_apart h.site t ts end (word_of t.text) s.2.0 s.2.2 x
    go true false x = tt
    go false c x = tt

  lines_apart : (from : ℕ) (ls : List (List Token)) (end : ℕ) → StandLines n from ls end → ((k : ℕ) → is_among (places n) k ≡ true → ApartAt k ls → ⊥) → AllByRecursion (IsApart r) ls
  lines_apart from [] end s never = tt
  lines_apart from (l ∷ ls) end s never = (line_apart from l s.0 s.1 (λ k h a. never k h (inl a)), lines_apart s.0 ls end s.2 (λ k h a. never k h (inr a)))

module _ (finals_pass : FinalsPass) (in_order : StandsInOrder) (w : World) (numbered : IsNumbered w) where
  file_stands : (n : ℕ) (bytes : List ℕ) → StandLines n 0 (file_of n bytes).lines (length bytes)
  file_stands n bytes = stand_in n (lexed bytes).tokens 0 (length bytes) (in_order bytes) (tokens_have_text bytes)

  -- the test that a final token's place doesn't pass is passed by all text lines and definitions
  all_pass : (path : Text) (n k : ℕ) (bytes : List ℕ) → w.find path ≡ Present n bytes → ApartAt k (file_of n bytes).lines → (other : Text) → FoundPasses (elsewhere (place_in n k)) (w.find other)
  all_pass path n k bytes e a other = go (w.find other) refl where
    same : (m : ℕ) (more : List ℕ) → w.find other ≡ Present m more → (b : Bool) → (m == n) ≡ b → FilePasses (elsewhere (place_in n k)) (file_of m more)
    same m more f false g = other_file m n k 0 (file_of m more).lines (length more) g (file_stands m more)
    same m more f true g =
        let one : m ≡ n = grind (arith, nat_tests) in
        let found : w.find other ≡ Present n more = f ∙ ap (λ x. Present x more) one in
        let own : bytes ≡ more = numbered path other n bytes more e found in
        subst (λ x. FilePasses (elsewhere (place_in n k)) (file_of x more)) (sym one)
        (subst (λ x. FilePasses (elsewhere (place_in n k)) (file_of n x)) own (others_pass n k 0 (file_of n bytes).lines (length bytes) (file_stands n bytes) a))

    go : (f : Finding) → w.find other ≡ f → FoundPasses (elsewhere (place_in n k)) f
    go (Present m more) f = same m more f (m == n) refl
    go Absent f = tt
    go Unknown f = tt

  not_final : (path : Text) (n k : ℕ) (bytes : List ℕ) → w.find path ≡ Present n bytes → ApartAt k (file_of n bytes).lines → IsFinalPlace w (place_in n k) → ⊥
  not_final path n k bytes e a (u, s, events, t, whole, within, origin) =
      let pass : Passes (elsewhere (place_in n k)) t = contained (elsewhere (place_in n k)) _ t (finals_pass (elsewhere (place_in n k)) w u s events (λ kind text. refl) (all_pass path n k bytes e a) whole) within in
      let no : false ≡ true = sym (there_itself (place_in n k)) ∙ sym (ap (is_away (place_in n k)) origin) ∙ pass in cc

  pub finals_are_apart : (places : Places) (old new path : Text) (n : ℕ) (bytes : List ℕ) → w.find path ≡ Present n bytes → ((k : ℕ) → is_among (places n) k ≡ true → IsFinalPlace w (place_in n k)) → AreApart (renaming_at places old new) (file_of n bytes)
  finals_are_apart places old new path n bytes e final = lines_apart places old new n 0 (file_of n bytes).lines (length bytes) (file_stands n bytes) (λ k h a. not_final path n k bytes e a (final k h))
