-- Preprocessing tokens become the same tokens by any two tables that have the same texts of them.
use Rattle.std.proofs.Common.{◌≡◌, ℕ, zero, suc, ◌-◌, ◌&&◌, Bool, false, cond, List, [], ◌∷◌, Option, Some, None, refl, ap, ◌∙◌}
use Rattle.std.specs.Prelude.{bytes_eq, codes}
use Rattle.std.specs.List.{AllByRecursion}
use Rattle.cr_base.specs.declared.token.PpTok.{PpTok}
use Rattle.cr_base.specs.declared.token.TokKind.{TokKind}
use Rattle.cr_phase7.specs.Tokens.{text_of, kind_by, is_name_kind, is_string_kind, is_string, is_punct_kind, is_pragma, is_open, is_close, has_pragma_form, stand_at, kept_by, kept, bad_by, bad_pragma, token, put_before, put_kind, converted, ended, tokens_of}
use Rattle.cr_phase7.specs.declared.tokens.Standing.{Standing}
use Rattle.cr_phase7.specs.declared.tokens.Standing.TheVariants.{Inside, Plain, Pragma, Broken}

module _ (a b : List (List ℕ)) where
  -- both have one text of a token
  abbrev pub Alike : PpTok → Type 0
  Alike x = text_of a x ≡ text_of b x

  pragma_alike : (x : PpTok) → Alike x → is_pragma a x ≡ is_pragma b x
  pragma_alike x e = ap (λ t. is_name_kind x.kind && bytes_eq t (codes "_Pragma")) e

  open_alike : (x : PpTok) → Alike x → is_open a x ≡ is_open b x
  open_alike x e = ap (λ t. is_punct_kind x.kind && bytes_eq t (codes "(")) e

  close_alike : (x : PpTok) → Alike x → is_close a x ≡ is_close b x
  close_alike x e = ap (λ t. is_punct_kind x.kind && bytes_eq t (codes ")")) e

  form_alike : (xs : List PpTok) → AllByRecursion Alike xs → has_pragma_form a xs ≡ has_pragma_form b xs
  form_alike [] h = refl
  form_alike (x ∷ []) h = refl
  form_alike (x ∷ y ∷ []) h = refl
  form_alike (x ∷ y ∷ z ∷ rest) (ex, (ey, (ez, er))) =
      ap (λ t. t && (is_string_kind y.kind && is_close a z)) (open_alike x ex)
      ∙ ap (λ t. is_open b x && (is_string_kind y.kind && t)) (close_alike z ez)

  stand_alike : (n : ℕ) (x : PpTok) (xs : List PpTok) → Alike x → AllByRecursion Alike xs → stand_at a n x xs ≡ stand_at b n x xs
  stand_alike (suc n) x xs e h = refl
  stand_alike zero x xs e h =
      ap (λ t. cond t (cond (has_pragma_form a xs) Pragma Broken) Plain) (pragma_alike x e)
      ∙ ap (λ t. cond (is_pragma b x) (cond t Pragma Broken) Plain) (form_alike xs h)

  kept_alike : (xs : List PpTok) (n : ℕ) → AllByRecursion Alike xs → kept a n xs ≡ kept b n xs
  kept_alike [] n h = refl
  kept_alike (x ∷ xs) n (e, h) =
      ap (λ s. kept_by s n x (λ m. kept a m xs)) (stand_alike n x xs e h)
      ∙ go (stand_at b n x xs) (λ m. kept_alike xs m h)
    where
      go : (s : Standing) → ((m : ℕ) → kept a m xs ≡ kept b m xs) → kept_by s n x (λ m. kept a m xs) ≡ kept_by s n x (λ m. kept b m xs)
      go Inside k = k (n - 1)
      go Plain k = ap (λ l. x ∷ l) (k n)
      go Pragma k = k 3
      go Broken k = refl

  bad_alike : (xs : List PpTok) (n : ℕ) → AllByRecursion Alike xs → bad_pragma a n xs ≡ bad_pragma b n xs
  bad_alike [] n h = refl
  bad_alike (x ∷ xs) n (e, h) =
      ap (λ s. bad_by s n x (λ m. bad_pragma a m xs)) (stand_alike n x xs e h)
      ∙ go (stand_at b n x xs) (λ m. bad_alike xs m h)
    where
      go : (s : Standing) → ((m : ℕ) → bad_pragma a m xs ≡ bad_pragma b m xs) → bad_by s n x (λ m. bad_pragma a m xs) ≡ bad_by s n x (λ m. bad_pragma b m xs)
      go Inside k = k (n - 1)
      go Plain k = k n
      go Pragma k = k 3
      go Broken k = refl

  alike_kept : (xs : List PpTok) (n : ℕ) → AllByRecursion Alike xs → AllByRecursion Alike (kept b n xs)
  alike_kept [] n h = tt
  alike_kept (x ∷ xs) n (e, h) = go (stand_at b n x xs) (λ m. alike_kept xs m h)
    where
      go : (s : Standing) → ((m : ℕ) → AllByRecursion Alike (kept b m xs)) → AllByRecursion Alike (kept_by s n x (λ m. kept b m xs))
      go Inside k = k (n - 1)
      go Plain k = (e, k n)
      go Pragma k = k 3
      go Broken k = tt

  converted_alike : (xs : List PpTok) (was : Bool) → AllByRecursion Alike xs → converted a was xs ≡ converted b was xs
  converted_alike [] was h = refl
  converted_alike (x ∷ xs) was (e, h) =
      ap (λ t. put_kind was x (kind_by t x.kind) (λ s. converted a s xs)) e
      ∙ go (kind_by (text_of b x) x.kind) (λ s. converted_alike xs s h)
    where
      go : (k : Option TokKind) → ((s : Bool) → converted a s xs ≡ converted b s xs) → put_kind was x k (λ s. converted a s xs) ≡ put_kind was x k (λ s. converted b s xs)
      go None k = refl
      go (Some kind) k = ap (put_before (was && is_string kind) (token x kind)) (k (is_string kind))

  pub tokens_alike : (xs : List PpTok) → AllByRecursion Alike xs → tokens_of a xs ≡ tokens_of b xs
  tokens_alike xs h =
      ap (λ o. ended o (converted a false (kept a 0 xs))) (bad_alike xs 0 h)
      ∙ ap (λ l. ended (bad_pragma b 0 xs) (converted a false l)) (kept_alike xs 0 h)
      ∙ ap (λ r. ended (bad_pragma b 0 xs) r) (converted_alike (kept b 0 xs) false (alike_kept xs 0 h))
