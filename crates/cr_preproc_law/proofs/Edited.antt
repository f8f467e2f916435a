-- The lines of an edited file are the old ones, renamed.
use Rattle.std.proofs.Common.{◌≡◌, ℕ, zero, suc, ◌≤◌, Bool, true, false, cond, List, [], ◌∷◌, length, map, refl, ap, sym, ◌∙◌, subst, Some, None, Option, arith}
use Rattle.std.specs.Prelude.{bytes_eq, ◌==◌, ◌&&◌, ◌||◌, option_map}
use Rattle.std.specs.List.{AllByRecursion, Contains}
use Rattle.std.proofs.lemmas.Bool.Decides.{nat_tests}
use Rattle.std.proofs.lemmas.Slice.Eq.{bytes_eq-Decides}
use Rattle.cr_base.specs.Names.{is_identifier}
use Rattle.cr_base.specs.Substitution.{substituted, shifted as shifted_offset}
use Rattle.cr_base.specs.declared.token.PpKind.TheVariants.{Ident}
use Rattle.cr_lex.specs.Lexing.{Lexed, Fault, OpenComment, Trigraph, Before, at_start, or_shorter, longest, longest_part, by_part, piece, token, with_token, unless_trigraph, first_trigraph, stop, cut, lexed}
use Rattle.cr_lex.specs.Lexing as lexing
use Rattle.cr_lex.specs.Order.{AreInOrder, StandsInOrder}
use Rattle.cr_lex.specs.Renaming.{is_among, IsPlace, IsRenamable, renamed_token, shifted_fault, KeepsLexing}
use Rattle.cr_lex.specs.Renaming as lexes
use Rattle.cr_snapshot.specs.Files.{Finding, Present, Absent, Unknown}
use Rattle.cr_macros.specs.Tokens.{Text, Token, is_ident}
use Rattle.cr_expand_law.specs.Renaming.{Renaming, renamed, all_renamed, KeepsExpansion}
use Rattle.cr_expand_law.specs.Uses.{KeepsUses}
use Rattle.cr_phase4.specs.Lines.{file_of, place_in, token_in, begins_line, into_line, lines_of, fault_of}
use Rattle.cr_preproc_law.specs.Renaming.{Places, renaming_at, edited, edited_world, renamed_end, renamed_file, MayBeEdited, MayEdit, KeepsPreprocessing}
use Rattle.cr_preproc_law.proofs.Searched.{IsRenamedFinding}
use Rattle.cr_phase4.specs.Search.{World}
use Rattle.cr_preproc_law.specs.Finals.{FinalsPass, IsFinalPlace, IsNumbered}
use Rattle.cr_preproc_law.proofs.Apart.{finals_are_apart}
use Rattle.cr_preproc_law.proofs.Law.{keeps}
use Rattle.cr_preproc_law.proofs.Texts.{HasText, tokens_have_text}

-- one token stands at a place

not_before : (ts : List lexing.Token) (from end : ℕ) (t : lexing.Token) → AreInOrder from ts end → Contains ts t → from ≤ t.at
not_before [] from end t o (k, h, e) = absurd (omega arith)
not_before (x ∷ xs) from end t o (zero, h, e) = subst (λ y. from ≤ y.at) e o.0
not_before (x ∷ xs) from end t o (suc k, h, e) = let w = not_before xs x.end end t o.2 (k, omega arith, e) in omega (arith, o.0, o.1)

only_one : (ts : List lexing.Token) (from end : ℕ) (t u : lexing.Token) → AreInOrder from ts end → AllByRecursion HasText ts → Contains ts t → Contains ts u → t.at ≡ u.at → t ≡ u
only_one [] from end t u o a (k, h, e) d same = absurd (omega arith)
only_one (x ∷ xs) from end t u o a (zero, h, e) (zero, i, f) same = sym e ∙ f
only_one (x ∷ xs) from end t u o a (zero, h, e) (suc j, i, f) same =
    let w = not_before xs x.end end u o.2 (j, omega arith, f) in let at : x.at ≡ u.at = ap (λ y. y.at) e ∙ same in absurd (omega (arith, o.1, a.0))
only_one (x ∷ xs) from end t u o a (suc k, h, e) (zero, i, f) same =
    let w = not_before xs x.end end t o.2 (k, omega arith, e) in let at : x.at ≡ t.at = ap (λ y. y.at) f ∙ sym same in absurd (omega (arith, o.1, a.0))
only_one (x ∷ xs) from end t u o a (suc k, h, e) (suc j, i, f) same = only_one xs x.end end t u o.2 a.1 (k, omega arith, e) (j, omega arith, f) same

all_of : {P : lexing.Token → Type 0} (ts : List lexing.Token) → ((t : lexing.Token) → Contains ts t → P t) → AllByRecursion P ts
all_of [] h = tt
all_of (t ∷ ts) h = (h t (zero, omega arith, refl), all_of ts (λ u c. h u (suc c.0, (let w = c.1 in omega arith), c.2)))

-- at an offset that is among these, it holds
among : (Q : ℕ → Type 0) (offsets : List ℕ) (at : ℕ) → is_among offsets at ≡ true → AllByRecursion Q offsets → Q at
among Q [] at h a = absurd (let no : false ≡ true = h in cc)
among Q (o ∷ offsets) at h a = go (o == at) refl h (λ k. among Q offsets at k a.1) where
  go : (b : Bool) → (o == at) ≡ b → (b || is_among offsets at) ≡ true → (is_among offsets at ≡ true → Q at) → Q at
  go true e k later = subst Q (let w : o ≡ at = grind (arith, nat_tests) in w) a.0
  go false e k later = later k

module _ (places : Places) (old new : Text) (n : ℕ) where
  abbrev r : Renaming
  r = renaming_at places old new

  abbrev change : lexing.Token → lexing.Token
  change = renamed_token (places n) old new

  -- at a place stands an identifier that is spelled old
  abbrev IsOld : lexing.Token → Type 0
  IsOld t = is_among (places n) t.at ≡ true → (t.kind ≡ Ident) × (t.text ≡ old)

  test_same : (t : lexing.Token) → IsOld t → is_among (places n) t.at ≡ (is_ident t.kind && (is_among (places n) t.at && bytes_eq t.text old))
  test_same t h = go (is_among (places n) t.at) h where
    go : (b : Bool) → (b ≡ true → (t.kind ≡ Ident) × (t.text ≡ old)) → b ≡ (is_ident t.kind && (b && bytes_eq t.text old))
    go true k = sym (ap (λ x. is_ident x && bytes_eq t.text old) (k refl).0 ∙ ap (λ x. bytes_eq x old) (k refl).1 ∙ (bytes_eq-Decides old old).1 refl)
    go false k = no (is_ident t.kind) where
      no : (b : Bool) → false ≡ (b && false)
      no true = refl
      no false = refl

  token_renamed : (t : lexing.Token) → IsOld t → token_in n (change t) ≡ renamed r (token_in n t)
  token_renamed t h = ap (λ b. record (renamed r (token_in n t)) { text = cond b new t.text }) (test_same t h)

  begins_same : (ts : List lexing.Token) → begins_line (map change ts) ≡ begins_line ts
  begins_same [] = refl
  begins_same (t ∷ ts) = refl

  into_renamed : (t : Token) (lines : List (List Token)) → into_line (renamed r t) (map (all_renamed r) lines) ≡ map (all_renamed r) (into_line t lines)
  into_renamed t [] = refl
  into_renamed t (line ∷ lines) = refl

  lines_renamed : (ts : List lexing.Token) → AllByRecursion IsOld ts → lines_of n (map change ts) ≡ map (all_renamed r) (lines_of n ts)
  lines_renamed [] h = refl
  lines_renamed (t ∷ ts) h =
      ap (λ b. cond b ((token_in n (change t) ∷ []) ∷ lines_of n (map change ts)) (into_line (token_in n (change t)) (lines_of n (map change ts)))) (begins_same ts)
      ∙ ap (λ x. cond (begins_line ts) ((x ∷ []) ∷ lines_of n (map change ts)) (into_line x (lines_of n (map change ts)))) (token_renamed t h.0)
      ∙ ap (λ x. cond (begins_line ts) ((renamed r (token_in n t) ∷ []) ∷ x) (into_line (renamed r (token_in n t)) x)) (lines_renamed ts h.1)
      ∙ go (begins_line ts) where
        go : (b : Bool) → cond b ((renamed r (token_in n t) ∷ []) ∷ map (all_renamed r) (lines_of n ts)) (into_line (renamed r (token_in n t)) (map (all_renamed r) (lines_of n ts))) ≡ map (all_renamed r) (cond b ((token_in n t ∷ []) ∷ lines_of n ts) (into_line (token_in n t) (lines_of n ts)))
        go true = refl
        go false = into_renamed (token_in n t) (lines_of n ts)

  fault_renamed : (o : Option Fault) → fault_of n (option_map (shifted_fault (shifted_offset (places n) (length old) (length new))) o) ≡ option_map (renamed_end r) (fault_of n o)
  fault_renamed None = refl
  fault_renamed (Some (OpenComment at)) = refl
  fault_renamed (Some (Trigraph at)) = refl

  module _ (keeps_lexing : KeepsLexing) (in_order : StandsInOrder) (old_name : is_identifier old ≡ true) (new_name : is_identifier new ≡ true) (w : World) (bytes : List ℕ) (may : MayBeEdited w places old new n bytes) where
    are_old : AllByRecursion IsOld (lexed bytes).tokens
    are_old = all_of (lexed bytes).tokens (λ t c h.
        let place = among (IsPlace bytes old new) (places n) t.at h may.spelled in
        let one : t ≡ place.0 = only_one (lexed bytes).tokens 0 (length bytes) t place.0 (in_order bytes) (tokens_have_text bytes) c place.1 (sym place.2) in
        subst (λ x. (x.kind ≡ Ident) × (x.text ≡ old)) (sym one) (place.3.kind, place.3.text))

    pub file_edited : file_of n (substituted (places n) (length old) new bytes) ≡ renamed_file r (file_of n bytes)
    file_edited =
        ap (λ l. record { lines = lines_of n l.tokens; fault = fault_of n l.fault }) (keeps_lexing bytes old new (places n) old_name new_name may.rise may.spelled)
        ∙ ap (λ x. record { lines = x; fault = fault_of n (lexes.renamed (places n) old new (lexed bytes)).fault }) (lines_renamed (lexed bytes).tokens are_old)
        ∙ ap (λ x. record { lines = map (all_renamed r) (lines_of n (lexed bytes).tokens); fault = x }) (fault_renamed (lexed bytes).fault)

module _ (keeps_lexing : KeepsLexing) (in_order : StandsInOrder) (finals_pass : FinalsPass) (places : Places) (old new : Text) (old_name : is_identifier old ≡ true) (new_name : is_identifier new ≡ true) (w : World) (numbered : IsNumbered w) where
  found : (path : Text) (f : Finding) → w.find path ≡ f → MayEdit w places old new f → IsRenamedFinding (renaming_at places old new) f (edited places old new f)
  found path (Present n bytes) e may = (
    substituted (places n) (length old) new bytes,
    refl,
    file_edited places old new n keeps_lexing in_order old_name new_name w bytes may,
    finals_are_apart finals_pass in_order w numbered places old new path n bytes e (λ k h. among (λ at. IsFinalPlace w (place_in n at)) (places n) k h may.final),
  )
  found path Absent e may = refl
  found path Unknown e may = refl

pub keeps_preprocessing : KeepsLexing → StandsInOrder → KeepsExpansion → KeepsUses → FinalsPass → KeepsPreprocessing
keeps_preprocessing keeps_lexing in_order keeps_expansion keeps_uses finals_pass places old new w u s events old_name new_name not_reserved numbered may e fine =
    keeps (renaming_at places old new) not_reserved keeps_expansion keeps_uses w (edited_world places old new w) u
    (λ path. found keeps_lexing in_order finals_pass places old new old_name new_name w numbered path (w.find path) refl (may path)) s events e fine
