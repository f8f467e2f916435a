-- The tokens that a lexer gave, and what is left.
use Rattle.std.proofs.Common.{◌≡◌, ◌+◌, ◌≤◌, ℕ, zero, suc, Bool, true, false, cond, List, [], ◌∷◌, ◌++◌, None, Option, map, length, refl, ap, sym, ◌∙◌, subst, arith, append_assoc, append-nil, length-append, Some, ◌-◌, take}
use Rattle.std.specs.Prelude.{bytes_eq}
use Rattle.std.specs.List.{AllByRecursion, list_any}
use Rattle.std.proofs.lemmas.List.{map-append, get_or_append_left}
use Rattle.cr_base.specs.NameTable.{with_text}
use Rattle.cr_base.specs.declared.token.PathNo.{PathNo}
use Rattle.cr_base.specs.declared.token.PpTok.{PpTok}
use Rattle.cr_lex.specs.Joins.{Cell, cells, joined_from, unless_joined, text_of, is_trigraph, line_after}
use Rattle.cr_lex.specs.Lexing.{Lexed, Fault, Before, cut, lexed, with_token, by_part, longest_part, unless_trigraph, first_trigraph, stop, token, at_start}
use Rattle.cr_lex.specs.Spellings.{Part, Blank, LineEnd, Comment, Piece}
use Rattle.cr_lex.specs.Seen.{seen, IsOf, with_texts, first_of, Extends}

-- a lexer gave these tokens of a file, beginning with the old table of names, and has this left
pub record IsRun (bytes : List ℕ) (file : PathNo) (old names : List (List ℕ)) (ts : List PpTok) (rest : Lexed) : Type 0 where
  pub tokens : map (seen names) ts ++ rest.tokens ≡ (lexed bytes).tokens
  pub of : AllByRecursion (IsOf file names) ts
  pub fault : rest.fault ≡ (lexed bytes).fault
  pub texts : with_texts names rest.tokens ≡ with_texts old (lexed bytes).tokens
  pub extends : Extends old names
  pub room : length names + length rest.tokens ≤ length old + length bytes

extends_text : (names : List (List ℕ)) (text : List ℕ) → Extends names (with_text names text) × (length (with_text names text) ≤ length names + 1)
extends_text names text = by (list_any (bytes_eq text) names)
  where
    by : (t : Bool) → Extends names (cond t names (names ++ text ∷ [])) × (length (cond t names (names ++ text ∷ [])) ≤ length names + 1)
    by true = (([], sym (append-nil names)), omega arith)
    by false = ((text ∷ [], refl), omega (arith, length-append names (text ∷ [])))

extends_more : (a b c : List (List ℕ)) → Extends a b → Extends b c → Extends a c
extends_more a b c (xs, e) (ys, f) = (xs ++ ys, f ∙ ap (λ l. l ++ ys) e ∙ append_assoc a xs ys)

seen_later : (names more : List (List ℕ)) (file : PathNo) (t : PpTok) → IsOf file names t → seen (names ++ more) t ≡ seen names t
seen_later names more file t h = ap (λ x. record { kind = t.kind; text = x; at = t.site.offset; end = t.end; line = t.line; space = t.space; first = t.first; joined = t.joined }) (get_or_append_left names more [] t.text.0 h.given)

all_later : (names more : List (List ℕ)) (file : PathNo) (ts : List PpTok) → AllByRecursion (IsOf file names) ts → (map (seen (names ++ more)) ts ≡ map (seen names) ts) × AllByRecursion (IsOf file (names ++ more)) ts
all_later names more file [] h = (refl, h)
all_later names more file (t ∷ ts) h =
    let k = all_later names more file ts h.1 in (
      ap (λ x. x ∷ map (seen (names ++ more)) ts) (seen_later names more file t h.0) ∙ ap (λ l. seen names t ∷ l) k.0,
      (record { path = h.0.path; origin = h.0.origin; given = omega (arith, h.0.given, length-append names more) }, k.1),
    )

all_push : (P : PpTok → Type 0) (ts : List PpTok) (t : PpTok) → AllByRecursion P ts → P t → AllByRecursion P (ts ++ t ∷ [])
all_push P [] t h k = (k, h)
all_push P (u ∷ ts) t h k = (h.0, all_push P ts t h.1 k)

pub one_more : (bytes : List ℕ) (file : PathNo) (old names new : List (List ℕ)) (ts us : List PpTok) (t : PpTok) (rest after : Lexed)
    → IsRun bytes file old names ts rest → rest ≡ with_token (seen new t) after → IsOf file new t → new ≡ with_texts names (first_of rest.tokens)
    → us ≡ ts ++ t ∷ [] → IsRun bytes file old new us after
one_more bytes file old names new ts us t rest after h e is n u =
    let text : List ℕ = (seen new t).text in
    let added : new ≡ with_text names text = n ∙ ap (λ r. with_texts names (first_of r.tokens)) e in
    let grown = extends_text names text in
    let ext : Extends names new = subst (Extends names) (sym added) grown.0 in
    by ext added (subst (λ l. length l ≤ length names + 1) (sym added) grown.1)
  where
    by : Extends names new → new ≡ with_text names (seen new t).text → length new ≤ length names + 1 → IsRun bytes file old new us after
    by (more, x) added size =
        let later = all_later names more file ts h.of in
        let same : map (seen new) ts ≡ map (seen names) ts = ap (λ l. map (seen l) ts) x ∙ later.0 in
        let mine : AllByRecursion (IsOf file new) ts = subst (λ l. AllByRecursion (IsOf file l) ts) (sym x) later.1 in
        let parts : rest.tokens ≡ seen new t ∷ after.tokens = ap (λ r. r.tokens) e in
        record {
          tokens =
              ap (λ l. map (seen new) l ++ after.tokens) u
              ∙ ap (λ l. l ++ after.tokens) (map-append (seen new) ts (t ∷ []))
              ∙ append_assoc (map (seen new) ts) (seen new t ∷ []) after.tokens
              ∙ ap (λ l. l ++ seen new t ∷ after.tokens) same
              ∙ ap (λ l. map (seen names) ts ++ l) (sym parts)
              ∙ h.tokens;
          of = subst (AllByRecursion (IsOf file new)) (sym u) (all_push (IsOf file new) ts t mine is);
          fault = sym (ap (λ r. r.fault) e) ∙ h.fault;
          texts = ap (λ l. with_texts l after.tokens) added ∙ sym (ap (with_texts names) parts) ∙ h.texts;
          extends = extends_more old names new h.extends (more, x);
          room = omega (arith, h.room, size, ap length parts);
        }

cells_few : (skip at line : ℕ) (bs : List ℕ) → length (cells skip at line bs) ≤ length bs
unfolding cells
cells_few skip at line [] = omega arith
cells_few skip at line (b ∷ bs) =
    by (record { byte = b; at = at; line = line; trigraph = is_trigraph (b ∷ bs) }) (joined_from (b ∷ bs) skip) (cells (joined_from (b ∷ bs) skip - 1) (at + 1) (line_after line b) bs) (cells_few (joined_from (b ∷ bs) skip - 1) (at + 1) (line_after line b) bs)
  where
    by : (c : Cell) (n : ℕ) (cs : List Cell) → length cs ≤ length bs → length (unless_joined c cs n) ≤ length (b ∷ bs)
    by c zero cs h = omega arith
    by c (suc n) cs h = omega arith

tokens_few : (before : Before) (skip : ℕ) (cs : List Cell) → length (cut before skip cs).tokens ≤ length cs
unfolding cut
tokens_few before skip [] = omega arith
tokens_few before (suc skip) (c ∷ cs) = let h = tokens_few before skip cs in omega arith
tokens_few before zero (c ∷ cs) = by (longest_part (text_of (c ∷ cs))) (λ b n. tokens_few b n cs)
  where
    stopped : (l : Lexed) (o : Option ℕ) → length l.tokens ≤ length (c ∷ cs) → length (unless_trigraph l o).tokens ≤ length (c ∷ cs)
    stopped l None h = h
    stopped l (Some at) h = omega arith

    open_or : (t : Bool) (f : Fault) (l : Lexed) → length l.tokens ≤ length (c ∷ cs) → length (cond t (stop f) l).tokens ≤ length (c ∷ cs)
    open_or true f l h = omega arith
    open_or false f l h = h

    by : (p : ℕ × Part) → ((b : Before) (n : ℕ) → length (cut b n cs).tokens ≤ length cs) → length (by_part before c cs (λ after n. cut after n cs) p).tokens ≤ length (c ∷ cs)
    by (n, Blank) ih = let h = ih (record before { space = true }) (n - 1) in omega arith
    by (n, Comment) ih = let h = ih (record before { space = true }) (n - 1) in omega arith
    by (n, LineEnd) ih = let h = ih (record { first = true; space = true }) (n - 1) in omega arith
    by (n, Piece kind) ih =
        let h = ih (record { first = false; space = false }) (n - 1) in
        open_or _ _ _ (stopped (with_token (token before kind c (take n (c ∷ cs))) (cut (record { first = false; space = false }) (n - 1) cs)) (first_trigraph (take n (c ∷ cs))) (omega arith))

lexed_few : (bytes : List ℕ) → length (lexed bytes).tokens ≤ length bytes
unfolding lexed
lexed_few bytes = omega (arith, tokens_few at_start zero (cells zero 0 1 bytes), cells_few zero 0 1 bytes)

pub first_run : (bytes : List ℕ) (file : PathNo) (names : List (List ℕ)) (rest : Lexed) → rest ≡ lexed bytes → IsRun bytes file names names [] rest
first_run bytes file names rest e = subst (IsRun bytes file names names []) (sym e) (record {
  tokens = refl;
  of = tt;
  fault = refl;
  texts = refl;
  extends = ([], sym (append-nil names));
  room = omega (arith, lexed_few bytes);
})

-- what was given at the end
pub all_given : (bytes : List ℕ) (file : PathNo) (old names : List (List ℕ)) (ts : List PpTok) (rest : Lexed) (fault : Option Fault)
    → IsRun bytes file old names ts rest → rest ≡ record { tokens = []; fault = fault }
    → (map (seen names) ts ≡ (lexed bytes).tokens) × (fault ≡ (lexed bytes).fault) × (names ≡ with_texts old (lexed bytes).tokens)
all_given bytes file old names ts rest fault h e = (
  sym (append-nil (map (seen names) ts)) ∙ ap (λ r. map (seen names) ts ++ r.tokens) (sym e) ∙ h.tokens,
  sym (ap (λ r. r.fault) e) ∙ h.fault,
  sym (ap (λ r. with_texts names r.tokens) e) ∙ h.texts,
)
