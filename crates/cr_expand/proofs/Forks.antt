-- Two hide sets that were made from one.
use Rattle.std.proofs.Common.{◌≡◌, ℕ, suc, ◌<◌, Bool, true, false, ◌++◌, length, length-append, get_or, drop, sym, ap, ◌∙◌, subst, arith}
use Rattle.std.specs.Prelude.{◌||◌}
use Rattle.std.proofs.Math.Seq.{drop-append_seam}
use Rattle.std.proofs.lemmas.Bool.{or_right, or_parts}
use Rattle.std.proofs.lemmas.List.{drop-append-le, get_or_append_left}
use Rattle.cr_base.specs.declared.token.Name.{Name}
use Rattle.cr_macros.specs.Definition.{has_name}
use Rattle.cr_expand.specs.HideSets.{Sets, set_at, with_numbers, in_both, AreOnce}
use Rattle.cr_expand.specs.HideForks.{Names, IsFork}
use Rattle.cr_expand.proofs.Onces.{numbers_in, both_in, once_after, once_at, has_append, or_none}

module _ (sets : Sets) (set other : Names) (at : ℕ) (names others : Names) (f : IsFork sets set other at at names others) where
  under_in : (n : Name) → has_name (set_at sets at) n ≡ true → has_name other n ≡ true
  under_in n k = sym (f.held n) ∙ or_right (has_name others n) (has_name (set_at sets at) n) k

  under_set : drop (length names) set ≡ set_at sets at
  under_set = ap (drop (length names)) f.split ∙ drop-append_seam names (set_at sets at)

  -- nothing is taken yet
  pub numbers_start : other ≡ with_numbers other (drop (length names) set)
  numbers_start = sym (ap (with_numbers other) under_set ∙ numbers_in other (set_at sets at) under_in)

  pub common_start : set_at sets at ≡ in_both (drop (length names) set) other
  common_start = sym (ap (λ l. in_both l other) under_set ∙ both_in (set_at sets at) other (once_after names (set_at sets at) (subst AreOnce f.split f.once)) under_in)

  -- a name of those above is one of the set's
  pub name_within : (j : ℕ) → j < length names → j < length set
  name_within j h = let e = ap length f.split in let k = length-append names (set_at sets at) in omega (arith, e, k, h)

  pub name_at : (j : ℕ) (n : Name) → j < length names → n ≡ get_or names j n → n ≡ get_or set j n
  name_at j n h k = k ∙ sym (ap (λ l. get_or l j n) f.split ∙ get_or_append_left names (set_at sets at) n j h)

  above : (j i : ℕ) (n : Name) → i ≡ suc j → j < length names → n ≡ get_or names j n → has_name (set_at sets at) n ≡ false
  above j i n e h k =
      let cut : drop i set ≡ drop i names ++ set_at sets at = ap (drop i) f.split ∙ drop-append-le i names (set_at sets at) (omega (arith, e, h)) in
      let gone = once_at set j i n f.once e (name_within j h) (name_at j n h k) in
      (or_parts (has_name (drop i names) n) (has_name (set_at sets at) n) (sym (has_append (drop i names) (set_at sets at) n) ∙ ap (λ l. has_name l n) (sym cut) ∙ gone)).1

  -- so the other set has it only above too
  pub held_above : (b : Bool) (j i : ℕ) (n : Name) → i ≡ suc j → j < length names → n ≡ get_or names j n → b ≡ has_name others n → b ≡ has_name other n
  held_above b j i n e h k s = s ∙ sym (or_none (has_name others n)) ∙ ap (λ x. has_name others n || x) (sym (above j i n e h k)) ∙ f.held n
