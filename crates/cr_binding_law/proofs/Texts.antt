-- What spellings say of themselves stays in a renaming.
use Rattle.std.specs.Prelude.{◌≡◌, ◌⊎◌, ℕ, Bool, true, false, cond, ◌&&◌, Option, Some, None, option_map, unwrap_or, List, [], ◌∷◌, map, bytes_eq, slice_index_or}
use Rattle.std.specs.Map.{lookup as looked_up_in}
use Rattle.std.proofs.Common.{refl, sym, ◌∙◌, ap, subst, inl, inr}
use Rattle.cr_base.specs.declared.Name.{Name}
use Rattle.cr_grammar.specs.declared.symbols.NonTerm.{NonTerm}
use Rattle.cr_grammar.specs.declared.symbols.NonTerm.TheVariants as n
use Rattle.cr_scope.specs.declared.Space.{Space}
use Rattle.cr_scope.specs.Declarations.{is_prefix, same_space, same_name, depth, depth_seen, last_deepest}
use Rattle.cr_types.specs.Types.{CType}
use Rattle.cr_typing.specs.declared.expressions.Op.{Op}
use Rattle.cr_typing.specs.declared.expressions.Op.TheVariants as op
use Rattle.cr_typing.specs.ExpressionTypes.{binary_type, unary_type}
use Rattle.cr_binding.specs.Source.{Source, name_at, text_at, is_built_in}
use Rattle.cr_binding.specs.State.{Declaration, State}
use Rattle.cr_binding.specs.Entities.{entry}
use Rattle.cr_binding.specs.Specifying.{specifier_words}
use Rattle.cr_binding.specs.Expressions.{operated, on_two, on_one, second_type, postfix, is_arrow, is_function_name}
use Rattle.cr_binding.specs.BindingStays.{AreWordsAlike, MeansAlike}
use Rattle.cr_binding.proofs.Selecting.{both_unlike}
use Rattle.cr_binding_law.specs.Renaming.{HasNoOwnMeaning, text_of, IsRenamed}

-- ---- operators

abbrev operator_by : Option Op → Op
operator_by o = unwrap_or o op.Other

plain_operated : (m : NonTerm) (a b : List ℕ) (cs : List CType) → HasNoOwnMeaning a → HasNoOwnMeaning b → operated m a cs ≡ operated m b cs
plain_operated n.ExprMore a b cs x y = refl
plain_operated n.AssTail a b cs x y = refl
plain_operated n.CondTail a b cs x y = refl
plain_operated n.CastTail a b cs x y = refl
plain_operated n.Unary a b cs x y = ap (λ o. on_one (unary_type (operator_by o)) cs) (x.no_unary ∙ sym y.no_unary)
plain_operated n.PostTail a b cs x y = ap (λ o. postfix (operator_by o) cs) (x.no_postfix ∙ sym y.no_postfix)
plain_operated n.Primary a b cs x y =
    ap (λ b. cond b (on_one (unary_type op.Other) cs) (on_two second_type cs)) (x.no_offset ∙ sym y.no_offset)
plain_operated _ a b cs x y = ap (λ o. on_two (binary_type (operator_by o)) cs) (x.no_binary ∙ sym y.no_binary)

module _ (class : ℕ → Bool) (old new : Name) (t u : Source) (ren : IsRenamed class old new t u) where
  -- a token's text is the same, or means nothing of its own before and after
  pub texts_by : (i : ℕ) → (text_at u i ≡ text_at t i) ⊎ (HasNoOwnMeaning (text_at t i) × HasNoOwnMeaning (text_at u i))
  texts_by i = by (class i) refl
    where
      in_t : text_of u (name_at u i) ≡ text_of t (name_at u i)
      in_t = ap (λ texts. slice_index_or texts (name_at u i).0 []) ren.texts

      by : (b : Bool) → class i ≡ b → (text_at u i ≡ text_at t i) ⊎ (HasNoOwnMeaning (text_at t i) × HasNoOwnMeaning (text_at u i))
      by false c = inl (in_t ∙ ap (text_of t) (ren.names i ∙ ap (λ b. cond b new (name_at t i)) c))
      by true c =
          let a : text_at t i ≡ text_of t old = ap (text_of t) (ren.spelled i c) in
          let b : text_at u i ≡ text_of t new = in_t ∙ ap (text_of t) (ren.names i ∙ ap (λ b. cond b new (name_at t i)) c) in
          inr (subst HasNoOwnMeaning (sym a) ren.plain_old, subst HasNoOwnMeaning (sym b) ren.plain_new)

  -- what is said of a text by a table or a test stays
  said_by : {A : Type 0} (f : List ℕ → A) → ((a b : List ℕ) → HasNoOwnMeaning a → HasNoOwnMeaning b → f b ≡ f a) → (i : ℕ) → f (text_at u i) ≡ f (text_at t i)
  said_by f plain i = by (texts_by i)
    where
      by : (text_at u i ≡ text_at t i) ⊎ (HasNoOwnMeaning (text_at t i) × HasNoOwnMeaning (text_at u i)) → f (text_at u i) ≡ f (text_at t i)
      by (inl e) = ap f e
      by (inr h) = plain (text_at t i) (text_at u i) h.0 h.1

  pub words_alike : AreWordsAlike t u
  words_alike =
      record {
        kinds = ren.kinds;
        words = said_by (λ text. looked_up_in (bytes_eq text) specifier_words) (λ a b x y. y.no_specifier ∙ sym x.no_specifier);
      }

  pub operates_alike : (m : NonTerm) (i : ℕ) (cs : List CType) → operated m (text_at u i) cs ≡ operated m (text_at t i) cs
  operates_alike m i cs = said_by (λ text. operated m text cs) (λ a b x y. plain_operated m b a cs y x) i

  pub arrow_alike : (i : ℕ) → is_arrow (text_at u i) ≡ is_arrow (text_at t i)
  arrow_alike i = said_by is_arrow (λ a b x y. y.no_arrow ∙ sym x.no_arrow) i

  pub function_name_alike : (i : ℕ) → is_function_name (text_at u i) ≡ is_function_name (text_at t i)
  function_name_alike i = said_by is_function_name (λ a b x y. y.no_function_name ∙ sym x.no_function_name) i

  pub supplied_alike : (i : ℕ) → is_built_in (text_at u i) ≡ is_built_in (text_at t i)
  supplied_alike i = said_by is_built_in (λ a b x y. y.no_built_in ∙ sym x.no_built_in) i

  -- ---- names that have no part in the renaming

  -- a token that isn't renamed, of a third name
  pub record IsThird (i : ℕ) : Type 0 where
    pub stays : class i ≡ false
    pub no_old : name_at t i ≡ old → ⊥
    pub no_new : name_at t i ≡ new → ⊥

  third_name : (i j : ℕ) → IsThird i → same_name (name_at u j) (name_at u i) ≡ same_name (name_at t j) (name_at t i)
  third_name i j third = by (class j) refl
    where
      own : name_at u i ≡ name_at t i
      own = ren.names i ∙ ap (λ b. cond b new (name_at t i)) third.stays

      by : (b : Bool) → class j ≡ b → same_name (name_at u j) (name_at u i) ≡ same_name (name_at t j) (name_at t i)
      by false c =
          ap (λ x. same_name x (name_at u i)) (ren.names j ∙ ap (λ b. cond b new (name_at t j)) c) ∙ ap (λ x. same_name (name_at t j) x) own
      by true c =
          let after : name_at u j ≡ new = ren.names j ∙ ap (λ b. cond b new (name_at t j)) c in
          both_unlike (name_at u j) (name_at u i) (name_at t j) (name_at t i) (λ e. third.no_new (sym own ∙ sym e ∙ after)) (λ e. third.no_old (sym e ∙ ren.spelled j c))

  abbrev depth_by : List ℕ → Space → Declaration → Bool → Option ℕ
  depth_by present sp d b = cond (is_prefix d.path present && (same_space d.space sp && b)) (Some (depth (entry t d))) None

  third_depths : (present : List ℕ) (sp : Space) (i : ℕ) (ds : List Declaration) → IsThird i → map (depth_seen present sp (name_at u i)) (map (entry u) ds) ≡ map (depth_seen present sp (name_at t i)) (map (entry t) ds)
  third_depths present sp i [] third = refl
  third_depths present sp i (d ∷ ds) third =
      ap (λ b. depth_by present sp d b ∷ map (depth_seen present sp (name_at u i)) (map (entry u) ds)) (third_name i d.token third)
      ∙ ap (λ xs. depth_by present sp d (same_name (name_at t d.token) (name_at t i)) ∷ xs) (third_depths present sp i ds third)

  -- it means what it meant
  pub third_alike : (s : State) (sp : Space) (i : ℕ) → IsThird i → MeansAlike t u s sp i
  third_alike s sp i third =
      ap (λ xs. option_map (λ (x : ℕ × ℕ). x.0) (last_deepest 0 xs)) (third_depths s.present sp i s.declarations third)

  -- a token that isn't renamed, and has a text with a meaning of its own
  pub third_by : (i : ℕ) → class i ≡ false → (HasNoOwnMeaning (text_at t i) → ⊥) → IsThird i
  third_by i c own =
      record {
        stays = c;
        no_old = λ e. own (subst HasNoOwnMeaning (sym (ap (text_of t) e)) ren.plain_old);
        no_new = λ e. own (subst HasNoOwnMeaning (sym (ap (text_of t) e)) ren.plain_new);
      }
