-- The tokens of a renamed unit have the tree that they had.
use Rattle.std.specs.Prelude.{◌≡◌, ℕ, zero, suc, ◌+◌, Bool, true, false, cond, not, ◌&&◌, List, [], ◌∷◌, map, slice_index_or}
use Rattle.std.proofs.Common.{refl, sym, ◌∙◌, ap, subst, inl, inr}
use Rattle.cr_base.specs.declared.Name.{Name}
use Rattle.cr_base.specs.declared.token.Tok.{Tok}
use Rattle.cr_base.specs.declared.token.TokKind.{TokKind}
use Rattle.cr_base.specs.declared.token.TokKind.TheVariants as k
use Rattle.cr_grammar.specs.declared.symbols.Symbol.{Symbol}
use Rattle.cr_grammar.specs.declared.symbols.Symbol.TheVariants.{Term, Non, Act}
use Rattle.cr_grammar.specs.declared.symbols.Term.{Term as Word}
use Rattle.cr_grammar.specs.declared.symbols.Term.TheVariants as w
use Rattle.cr_grammar.specs.declared.symbols.Guard.{Guard}
use Rattle.cr_grammar.specs.declared.symbols.Guard.TheVariants.{Else, First, Both}
use Rattle.cr_grammar.specs.Grammar.{Row, rule}
use Rattle.cr_grammar.specs.Spellings.{spelled}
use Rattle.cr_ll.specs.declared.guards.Verdict.{Verdict}
use Rattle.cr_ll.specs.declared.guards.Verdict.TheVariants.{Holds, Fails, Asks}
use Rattle.cr_ll.specs.Guards.{Terminal, terminal, token_at, holds_if, asks_if, is_name, is_constant, is_string, is_end, is_spelled_kind, is_among, is_spelled, fits, meets, after_first, verdict}
use Rattle.cr_ll.specs.Derivation.{Item, Trees, none, token, action, node, ChosenBy, Chosen, Derives}
use Rattle.cr_binding.specs.Source.{Source, no_token, token_of, name_at}
use Rattle.cr_binding.specs.WellFormed.{terminals_of}
use Rattle.cr_binding_law.specs.Renaming.{text_of, IsRenamed}

-- the grammar sees the same of two tokens: their kind, and of keywords and punctuators the spelling
pub record LooksLike (x y : Terminal) : Type 0 where
  pub kind : y.kind ≡ x.kind
  pub text : is_spelled_kind x.kind ≡ true → y.text ≡ x.text

spelled_alike : (t : Word) (x y : Terminal) → LooksLike x y → is_spelled t y ≡ is_spelled t x
spelled_alike t x y l = ap (λ k. is_spelled_kind k && is_among y.text (spelled t)) l.kind ∙ by (is_spelled_kind x.kind) refl
  where
    by : (b : Bool) → is_spelled_kind x.kind ≡ b → (is_spelled_kind x.kind && is_among y.text (spelled t)) ≡ (is_spelled_kind x.kind && is_among x.text (spelled t))
    by true e = ap (λ text. is_spelled_kind x.kind && is_among text (spelled t)) (l.text e)
    by false e =
        ap (λ b. b && is_among y.text (spelled t)) e ∙ sym (ap (λ b. b && is_among x.text (spelled t)) e)

pub fits_alike : (t : Word) (x y : Terminal) (ahead : ℕ) → LooksLike x y → fits t y ahead ≡ fits t x ahead
fits_alike w.End x y ahead l = ap (λ k. holds_if (is_end k)) l.kind
fits_alike w.NotEnd x y ahead l = ap (λ k. holds_if (not (is_end k))) l.kind
fits_alike w.Identifier x y ahead l = ap (λ k. holds_if (is_name k)) l.kind
fits_alike w.Constant x y ahead l = ap (λ k. holds_if (is_constant k)) l.kind
fits_alike w.StringLiteral x y ahead l = ap (λ k. holds_if (is_string k)) l.kind
fits_alike w.TypedefName x y ahead l = ap (λ k. asks_if (is_name k) ahead Fails) l.kind
fits_alike w.Specifier x y ahead l =
    ap (λ k. asks_if (is_name k) ahead (holds_if (is_spelled w.Specifier y))) l.kind
    ∙ ap (λ b. asks_if (is_name x.kind) ahead (holds_if b)) (spelled_alike w.Specifier x y l)
fits_alike t x y ahead l = ap holds_if (spelled_alike t x y l)

pub meets_alike : (t : Word) (x y : Terminal) → LooksLike x y → meets t y ≡ meets t x
meets_alike t x y l =
    ap (λ k. cond (is_end k) Fails (fits t y 0)) l.kind ∙ ap (λ v. cond (is_end x.kind) Fails v) (fits_alike t x y 0 l)

pub verdict_alike : (g : Guard) (x y x' y' : Terminal) → LooksLike x x' → LooksLike y y' → verdict g x' y' ≡ verdict g x y
verdict_alike Else x y x' y' l m = refl
verdict_alike (First a) x y x' y' l m = fits_alike a x x' 0 l
verdict_alike (Both a b) x y x' y' l m =
    ap (λ v. after_first v (fits b y' 1)) (fits_alike a x x' 0 l) ∙ ap (λ v. after_first (fits a x 0) v) (fits_alike b y y' 1 m)

chosen_by : (v : Verdict) (r : Row) (P Q : List Item → Type 0) (i : ℕ) (asks : List Item) (body : List Symbol) → ((more : List Item) → P more → Q more) → ChosenBy v r P i asks body → ChosenBy v r Q i asks body
chosen_by Holds r P Q i asks body on h = h
chosen_by Fails r P Q i asks body on h = on asks h
chosen_by (Asks ahead) r P Q i asks body on (inl h) = inl h
chosen_by (Asks ahead) r P Q i asks body on (inr h) = inr (h.0, h.1, on h.0 h.2)

pub chosen_alike : (rs : List Row) (x y x' y' : Terminal) (i : ℕ) (asks : List Item) (body : List Symbol) → LooksLike x x' → LooksLike y y' → Chosen rs x y i asks body → Chosen rs x' y' i asks body
chosen_alike [] x y x' y' i asks body l m h = h
chosen_alike (r ∷ rs) x y x' y' i asks body l m h =
    subst (λ v. ChosenBy v r (λ more. Chosen rs x' y' i more body) i asks body) (sym (verdict_alike r.0 x y x' y' l m))
    (chosen_by (verdict r.0 x y) r (λ more. Chosen rs x y i more body) (λ more. Chosen rs x' y' i more body) i asks body (λ more c. chosen_alike rs x y x' y' i more body l m c) h)

derives_alike : (ts us : List Terminal) → ((i : ℕ) → LooksLike (token_at ts i) (token_at us i)) → (trees : Trees) (i : ℕ) (ss : List Symbol) (j : ℕ) → Derives ts trees i ss j → Derives us trees i ss j
derives_alike ts us alike none i [] j h = h
derives_alike ts us alike none i (x ∷ ss) j h = h
derives_alike ts us alike (token k next) i [] j h = h
derives_alike ts us alike (token k next) i (Term x ∷ ss) j h =
    (h.0, meets_alike x (token_at ts i) (token_at us i) (alike i) ∙ h.1, derives_alike ts us alike next (i + 1) ss j h.2)
derives_alike ts us alike (token k next) i (Non x ∷ ss) j h = h
derives_alike ts us alike (token k next) i (Act x ∷ ss) j h = h
derives_alike ts us alike (action x next) i [] j h = h
derives_alike ts us alike (action x next) i (Act b ∷ ss) j h = (h.0, derives_alike ts us alike next i ss j h.1)
derives_alike ts us alike (action x next) i (Term b ∷ ss) j h = h
derives_alike ts us alike (action x next) i (Non b ∷ ss) j h = h
derives_alike ts us alike (node m asks children next) i [] j h = h
derives_alike ts us alike (node m asks children next) i (Non x ∷ ss) j h = (
  h.0,
  h.1,
  h.2,
  chosen_alike (rule x) (token_at ts i) (token_at ts (i + 1)) (token_at us i) (token_at us (i + 1)) i asks h.1 (alike i) (alike (i + 1)) h.3,
  derives_alike ts us alike children i h.1 h.2 h.4,
  derives_alike ts us alike next h.2 ss j h.5,
)
derives_alike ts us alike (node m asks children next) i (Term x ∷ ss) j h = h
derives_alike ts us alike (node m asks children next) i (Act x ∷ ss) j h = h

-- ---- the tokens of a unit

pub terminal_kind : (texts : List (List ℕ)) (xs : List Tok) (i : ℕ) → (token_at (map (terminal texts) xs) i).kind ≡ (slice_index_or xs i no_token).kind
terminal_kind texts [] i = refl
terminal_kind texts (x ∷ xs) zero = refl
terminal_kind texts (x ∷ xs) (suc i) = terminal_kind texts xs i

terminal_text : (texts : List (List ℕ)) (xs : List Tok) (i : ℕ) → is_spelled_kind (token_at (map (terminal texts) xs) i).kind ≡ true → (token_at (map (terminal texts) xs) i).text ≡ slice_index_or texts (slice_index_or xs i no_token).text.0 []
terminal_text texts [] i h = cc
terminal_text texts (x ∷ xs) zero h = refl
terminal_text texts (x ∷ xs) (suc i) h = terminal_text texts xs i h

module _ (class : ℕ → Bool) (old new : Name) (t u : Source) (ren : IsRenamed class old new t u) where
  kinds_alike : (i : ℕ) → (token_at (terminals_of u) i).kind ≡ (token_at (terminals_of t) i).kind
  kinds_alike i = terminal_kind u.texts u.tokens i ∙ ren.kinds i ∙ sym (terminal_kind t.texts t.tokens i)

  name_unspelled : (k : TokKind) → is_name k ≡ true → is_spelled_kind k ≡ true → ⊥
  name_unspelled k.Ident h e = cc
  name_unspelled k.Keyword h e = cc
  name_unspelled k.Punct h e = cc
  name_unspelled _ h e = cc

  tokens_alike : (i : ℕ) → LooksLike (token_at (terminals_of t) i) (token_at (terminals_of u) i)
  tokens_alike i = record { kind = kinds_alike i; text = λ e. text e (class i) refl }
    where
      text : is_spelled_kind (token_at (terminals_of t) i).kind ≡ true → (b : Bool) → class i ≡ b → (token_at (terminals_of u) i).text ≡ (token_at (terminals_of t) i).text
      text e true c =
          absurd (name_unspelled (token_of t i).kind (ren.sort i c) (ap is_spelled_kind (sym (terminal_kind t.texts t.tokens i)) ∙ e))
      text e false c =
          terminal_text u.texts u.tokens i (ap is_spelled_kind (kinds_alike i) ∙ e)
          ∙ ap (λ texts. slice_index_or texts (name_at u i).0 []) ren.texts
          ∙ ap (text_of t) (ren.names i ∙ ap (λ b. cond b new (name_at t i)) c)
          ∙ sym (terminal_text t.texts t.tokens i e)

  pub renamed_derives : (trees : Trees) (ss : List Symbol) (j : ℕ) → Derives (terminals_of t) trees 0 ss j → Derives (terminals_of u) trees 0 ss j
  renamed_derives trees ss j h = derives_alike (terminals_of t) (terminals_of u) tokens_alike trees 0 ss j h
