-- Lexing commutes with the renaming.
use Rattle.std.proofs.Common.{◌≡◌, ℕ, zero, suc, ◌+◌, ◌-◌, ◌≤◌, inl, inr, Bool, true, false, not, ◌||◌, cond, List, [], ◌∷◌, length, take, drop, Option, Some, None, refl, ap, sym, ◌∙◌, subst, arith, codes, drop-drop}
use Rattle.std.specs.Prelude.{◌==◌}
use Rattle.std.specs.List.{AllByRecursion, Contains}
use Rattle.std.proofs.lemmas.Bool.{or_cases, or_parts, eqb-true, eq-eqb}
use Rattle.std.proofs.lemmas.List.{drop_more, length-map}
use Rattle.cr_base.specs.Substitution.{Rise, substituted, shifted}
use Rattle.cr_base.specs.declared.token.PpKind.{PpKind}
use Rattle.cr_lex.specs.Spellings.{Part, Piece}
use Rattle.cr_lex.specs.Spellings as spellings
use Rattle.cr_lex.specs.Joins.{Cell, cells, text_of, begins}
use Rattle.cr_lex.specs.Lexing.{Token, Lexed, Fault, Before, longest_part, by_part, cut, stop, token, with_token, unless_trigraph, first_trigraph, end_of, lexed, at_start}
use Rattle.cr_lex.specs.Lexing as lexing
use Rattle.cr_lex.specs.Scanning.{behind}
use Rattle.cr_lex.specs.Joins.{rest}
use Rattle.cr_lex.specs.Standing.{in_line}
use Rattle.cr_lex.specs.Renaming.{is_among, is_before_quote, IsPlace, IsRenamable, renamed, KeepsLexing}
use Rattle.cr_lex.proofs.Cells.{rest_end}
use Rattle.cr_lex.proofs.Marks.{Rising, rest_rises}
use Rattle.cr_lex.proofs.First.{cut_one, cut_none, skip_cut, rest_next, rest_behind, Rising-behind}
use Rattle.cr_lex.proofs.Shifting.{out}
use Rattle.cr_lex.proofs.Substituted.{IsSpelled, substituted_cells}
use Rattle.cr_lex.proofs.Edited.{edited}
use Rattle.cr_lex.proofs.Kept.{In, Placed, IsGood, kept}

-- A token without a join inside is written in the bytes as it is.

pub end_far : (d : Cell) (cs : List Cell) (k : ℕ) → Rising (d.at + 1) cs → d.at + suc (length (take k cs)) ≤ end_of (d ∷ take k cs)
end_far d cs zero r = omega arith
end_far d [] (suc k) r = omega arith
end_far d (c ∷ cs) (suc k) r = let h = end_far c cs k r.1 in omega (arith, r.0)

first_raw : (bytes : List ℕ) (q n : ℕ) (c : Cell) (cs : List Cell) → rest bytes q ≡ c ∷ cs → take (suc n) (drop c.at bytes) ≡ c.byte ∷ take n (drop (c.at + 1) bytes)
first_raw bytes q n c cs e =
    let next = rest_next (length bytes - q) bytes q c cs (omega arith) e in
    ap (take (suc n)) (drop_more bytes c.at 0 next.1) ∙ ap (λ b. b ∷ take n (drop (c.at + 1) bytes)) (sym next.3)

own_raw : (bytes : List ℕ) (k q : ℕ) (c : Cell) (cs : List Cell) → rest bytes q ≡ c ∷ cs → end_of (c ∷ take k cs) ≡ c.at + suc (length (take k cs)) → take (suc (length (take k cs))) (drop c.at bytes) ≡ text_of (c ∷ take k cs)
own_raw bytes zero q c cs e ends = first_raw bytes q 0 c cs e
own_raw bytes (suc k) q c [] e ends = first_raw bytes q 0 c [] e
own_raw bytes (suc k) q c (d ∷ ds) e ends =
    let r = subst (Rising q) e (rest_rises bytes q) in
    let far = end_far d ds k r.1.1 in
    let next : d.at ≡ c.at + 1 = omega (arith, r.1.0) in
    let more = (rest_next (length bytes - q) bytes q c (d ∷ ds) (omega arith) e).0 in
    first_raw bytes q (suc (length (take k ds))) c (d ∷ ds) e
    ∙ ap (λ l. c.byte ∷ l) (ap (λ n. take (suc (length (take k ds))) (drop n bytes)) (sym next) ∙ own_raw bytes k (c.at + 1) d ds (sym more) (omega arith))

abbrev IsRaw : List ℕ → Token → Type 0
IsRaw bytes t = take (length t.text) (drop t.at bytes) ≡ t.text

own_token : (bytes : List ℕ) (q m : ℕ) (b : Before) (kind : PpKind) (c : Cell) (cs : List Cell) → rest bytes q ≡ c ∷ cs → (token b kind c (take m (c ∷ cs))).joined ≡ false → IsRaw bytes (token b kind c (take m (c ∷ cs)))
own_token bytes q zero b kind c cs e joined = refl
own_token bytes q (suc k) b kind c cs e joined =
    let ends : end_of (c ∷ take k cs) ≡ c.at + suc (length (take k cs)) = eqb-true (end_of (c ∷ take k cs)) (c.at + suc (length (take k cs))) (not_not (end_of (c ∷ take k cs) == c.at + suc (length (take k cs))) joined) in
    ap (λ n. take n (drop c.at bytes)) (ap suc (length-map (take k cs) (λ (x : Cell). x.byte))) ∙ own_raw bytes k q c cs e ends
  where
    not_not : (t : Bool) → not t ≡ false → t ≡ true
    not_not true h = refl
    not_not false h = cc

token_raw : (n : ℕ) (bytes : List ℕ) (from : ℕ) (b : Before) (t : Token) → length bytes - from ≤ n → In t (cut b zero (rest bytes from)).tokens → t.joined ≡ false → IsRaw bytes t
token_raw zero bytes from b t size h joined = absurd (subst (λ l. In t l.tokens) (ap (cut b zero) (rest_end bytes from (omega arith)) ∙ cut_none b) h)
token_raw (suc n) bytes from b t size h joined = by (rest bytes from) refl (λ q b2 s i. token_raw n bytes q b2 t s i joined)
  where
    by : (cs : List Cell) → rest bytes from ≡ cs → ((q : ℕ) (b2 : Before) → length bytes - q ≤ n → In t (cut b2 zero (rest bytes q)).tokens → IsRaw bytes t) → IsRaw bytes t
    by [] e ih = absurd (subst (λ l. In t l.tokens) (ap (cut b zero) e ∙ cut_none b) h)
    by (c ∷ cs) e ih = on (longest_part (text_of (c ∷ cs))) (subst (λ l. In t l.tokens) (ap (cut b zero) e ∙ cut_one b c cs) h)
      where
        later : (b2 : Before) (m : ℕ) → In t (cut b2 m cs).tokens → IsRaw bytes t
        later b2 m i =
            let next = rest_next (length bytes - from) bytes from c cs (omega arith) e in
            let r = subst (Rising from) e (rest_rises bytes from) in
            let g = Rising-behind m (c.at + 1) cs r.1 in
            let d : rest bytes (behind m (c.at + 1) cs) ≡ drop m cs = ap (λ l. rest bytes (behind m (c.at + 1) l)) next.0 ∙ rest_behind bytes m (c.at + 1) ∙ ap (drop m) (sym next.0) in
            ih (behind m (c.at + 1) cs) b2 (omega (arith, r.0, next.1)) (subst (λ l. In t l.tokens) (skip_cut b2 m cs ∙ ap (cut b2 zero) (sym d)) i)

        stopped : (l : Lexed) (o : Option ℕ) → (In t l.tokens → IsRaw bytes t) → In t (unless_trigraph l o).tokens → IsRaw bytes t
        stopped l None k i = k i
        stopped l (Some at) k i = absurd i

        opened : (x : Bool) (f : Fault) (l : Lexed) → (In t l.tokens → IsRaw bytes t) → In t (cond x (stop f) l).tokens → IsRaw bytes t
        opened true f l k i = absurd i
        opened false f l k i = k i

        own : (m : ℕ) (kind : PpKind) (us : List Token) → (In t us → IsRaw bytes t) → In t (token b kind c (take m (c ∷ cs)) ∷ us) → IsRaw bytes t
        own m kind us k (inl same) = subst (IsRaw bytes) same (own_token bytes from m b kind c cs e (ap (λ x. x.joined) same ∙ joined))
        own m kind us k (inr i) = k i

        on : (p : ℕ × Part) → In t (by_part b c cs (λ after n. cut after n cs) p).tokens → IsRaw bytes t
        on (m, spellings.Blank) i = later (record b { space = true }) (m - 1) i
        on (m, spellings.Comment) i = later (record b { space = true }) (m - 1) i
        on (m, spellings.LineEnd) i = later (record { first = true; space = true }) (m - 1) i
        on (m, Piece kind) i =
            opened (begins (codes "/*") (text_of (c ∷ cs))) (lexing.OpenComment c.at) _
            (stopped (with_token (token b kind c (take m (c ∷ cs))) (cut in_line (m - 1) cs)) (first_trigraph (take m (c ∷ cs)))
            (own m kind (cut in_line (m - 1) cs).tokens (later in_line (m - 1))))
            i

-- the law

pub lexed_is : (bytes : List ℕ) → lexed bytes ≡ cut at_start zero (rest bytes 0)
unfolding lexed rest
lexed_is bytes = refl

lexed_cells : (bytes : List ℕ) → lexed bytes ≡ cut at_start zero (cells zero 0 1 bytes)
unfolding lexed
lexed_cells bytes = refl

start_is : (bytes : List ℕ) → cells zero 0 1 bytes ≡ rest bytes 0
unfolding rest
start_is bytes = refl

in_list : (t : Token) (ts : List Token) → Contains ts t → In t ts
in_list t [] (k, h, e) = absurd (omega arith)
in_list t (u ∷ us) (zero, h, e) = inl e
in_list t (u ∷ us) (suc k, h, e) = inr (in_list t us (k, omega arith, e))

module _ (bytes old new : List ℕ) where
  place_of : (os : List ℕ) (p : ℕ) → AllByRecursion (IsPlace bytes old new) os → is_among os p ≡ true → IsPlace bytes old new p
  place_of [] p h e = cc
  place_of (o ∷ os) p h e = elim (or_cases (o == p) (is_among os p) e) [
    | inl f ↦ subst (IsPlace bytes old new) (eqb-true o p f) h.0
    | inr f ↦ place_of os p h.1 f
  ]

  good : (t : Token) → IsRenamable bytes old new t → (t.joined ≡ false) × (is_before_quote new (rest bytes t.end) ≡ false)
  good t h = or_parts t.joined (is_before_quote new (rest bytes t.end)) h.spelling

  raw_at : (p : ℕ) → IsPlace bytes old new p → take (length old) (drop p bytes) ≡ old
  raw_at p (t, c, at, h) =
      let r = token_raw (length bytes) bytes 0 at_start t (omega arith) (subst (λ l. In t l.tokens) (lexed_is bytes) (in_list t (lexed bytes).tokens c)) (good t h).0 in
      ap (λ l. take (length l) (drop p bytes)) (sym h.text) ∙ ap (λ n. take (length t.text) (drop n bytes)) (sym at) ∙ r ∙ h.text

  spelled : (from : ℕ) (os : List ℕ) (s : List ℕ) → s ≡ drop from bytes → Rise from os (length old) (length bytes) → ((p : ℕ) → is_among os p ≡ true → take (length old) (drop p bytes) ≡ old) → IsSpelled old from os s
  spelled from [] s e r raw = tt
  spelled from (o ∷ os) s e r raw = (
    ap (λ l. take (length old) (drop (o - from) l)) e ∙ ap (take (length old)) (drop-drop (o - from) from bytes) ∙ ap (λ n. take (length old) (drop n bytes)) (let z : from + (o - from) ≡ o = omega (arith, r.0) in z) ∙ raw o (ap (λ t. t || is_among os o) (eq-eqb o o refl)),
    spelled (o + length old) os _ (ap (drop (o + length old - from)) e ∙ drop-drop (o + length old - from) from bytes ∙ ap (λ n. drop n bytes) (let z : from + (o + length old - from) ≡ o + length old = omega (arith, r.0) in z)) r.1 (λ p h. raw p (more (o == p) (is_among os p) h)),
  )
    where
      more : (x y : Bool) → y ≡ true → (x || y) ≡ true
      more true y h = refl
      more false y h = h

pub keeps_lexing : KeepsLexing
keeps_lexing bytes old new os name fresh rise places =
    let raw : (p : ℕ) → is_among os p ≡ true → take (length old) (drop p bytes) ≡ old = λ p h. raw_at bytes old new p (place_of bytes old new os p places h) in
    lexed_cells (substituted os (length old) new bytes)
    ∙ ap (cut at_start zero)
    (substituted_cells (is_among os) (shifted os (length old) (length new)) old new name fresh os 0 0 1 bytes
    (subst (Rise 0 os (length old)) (let z : length bytes ≡ 0 + length bytes = omega arith in z) rise)
    (spelled bytes old new 0 os bytes refl rise raw)
    (λ p l o. omega arith)
    (λ p l. refl))
    ∙ ap (λ l. cut at_start zero (edited (is_among os) (shifted os (length old) (length new)) (length old) new zero l)) (start_is bytes)
    ∙ kept bytes old new os name fresh rise raw (length bytes) 0 at_start (omega arith) (out (length old) (length new) os 0 (length bytes) 0 rise (omega arith)) placed
    ∙ ap (renamed os old new) (sym (lexed_is bytes))
  where
    placed : Placed bytes old new os name fresh rise (λ p h. raw_at bytes old new p (place_of bytes old new os p places h)) 0 (cut at_start zero (rest bytes 0)).tokens
    placed p l h = by (place_of bytes old new os p places h)
      where
        by : IsPlace bytes old new p → (t : Token) × In t (cut at_start zero (rest bytes 0)).tokens × (t.at ≡ p) × IsGood bytes old new os name fresh rise (λ p h. raw_at bytes old new p (place_of bytes old new os p places h)) t
        by (t, c, at, g) = (t, subst (λ l. In t l.tokens) (lexed_is bytes) (in_list t (lexed bytes).tokens c), at, record { kind = g.kind; text = g.text; joined = (good bytes old new t g).0; quote = (good bytes old new t g).1 })
