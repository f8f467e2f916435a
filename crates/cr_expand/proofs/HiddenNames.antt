-- Hide sets by number and by text.
use Rattle.std.proofs.Common.{◌≡◌, Bool, true, false, List, [], ◌∷◌, map, refl, sym, ap, ◌∙◌}
use Rattle.std.specs.Prelude.{◌==◌, ◌||◌, if◌then◌else◌, bytes_eq}
use Rattle.std.specs.List.{All, list_any}
use Rattle.std.proofs.lemmas.List.Elements.{All-head, All-tail, All-cons, All-nil}
use Rattle.cr_base.specs.NameTable.{IsDistinct}
use Rattle.cr_base.specs.declared.token.Name.{Name}
use Rattle.cr_macros.specs.Tokens.{Text, has, with_name, with_names, both}
use Rattle.cr_macros.specs.Definition.{text_of, has_name}
use Rattle.cr_expand.specs.HideSets.{with_number, with_numbers, in_both}
use Rattle.cr_expand.specs.Held.{IsNamed}
use Rattle.cr_expand.proofs.Numbers.{same_name}

module _ (names : List Text) (d : IsDistinct names) where
  pub has_text : (ns : List Name) (n : Name) → All (IsNamed names) ns → IsNamed names n → has (map (text_of names) ns) (text_of names n) ≡ has_name ns n
  has_text [] n h k = refl
  has_text (x ∷ ns) n h k =
      ap (λ b. b || list_any (bytes_eq (text_of names n)) (map (text_of names) ns)) (same_name names n x d k (All-head (IsNamed names) x ns h))
      ∙ ap (λ b. (n.0 == x.0) || b) (has_text ns n (All-tail (IsNamed names) x ns h) k)

  pub with_text : (ns : List Name) (n : Name) → All (IsNamed names) ns → IsNamed names n → map (text_of names) (with_number n ns) ≡ with_name (text_of names n) (map (text_of names) ns)
  with_text ns n h k = by (has_name ns n) ∙ ap (λ b. if b then map (text_of names) ns else text_of names n ∷ map (text_of names) ns) (sym (has_text ns n h k)) where
    by : (b : Bool) → map (text_of names) (if b then ns else n ∷ ns) ≡ (if b then map (text_of names) ns else text_of names n ∷ map (text_of names) ns)
    by true = refl
    by false = refl

with_named : (names : List Text) (ns : List Name) (n : Name) → All (IsNamed names) ns → IsNamed names n → All (IsNamed names) (with_number n ns)
with_named names ns n h k = by (has_name ns n) where
  by : (b : Bool) → All (IsNamed names) (if b then ns else n ∷ ns)
  by true = h
  by false = All-cons (IsNamed names) n ns k h

pub both_named : (names : List Text) (xs ys : List Name) → All (IsNamed names) xs → All (IsNamed names) (in_both xs ys)
both_named names [] ys h = All-nil (IsNamed names)
both_named names (x ∷ xs) ys h = by (both_named names xs ys (All-tail (IsNamed names) x xs h)) (has_name ys x) where
  by : All (IsNamed names) (in_both xs ys) → (b : Bool) → All (IsNamed names) (if b then with_number x (in_both xs ys) else in_both xs ys)
  by k true = with_named names (in_both xs ys) x k (All-head (IsNamed names) x xs h)
  by k false = k

pub numbers_named : (names : List Text) (base ns : List Name) → All (IsNamed names) base → All (IsNamed names) ns → All (IsNamed names) (with_numbers base ns)
numbers_named names base [] h k = h
numbers_named names base (n ∷ ns) h k = with_named names (with_numbers base ns) n (numbers_named names base ns h (All-tail (IsNamed names) n ns k)) (All-head (IsNamed names) n ns k)

pub both_text : (names : List Text) (xs ys : List Name) → IsDistinct names → All (IsNamed names) xs → All (IsNamed names) ys → map (text_of names) (in_both xs ys) ≡ both (map (text_of names) xs) (map (text_of names) ys)
both_text names [] ys d h k = refl
both_text names (x ∷ xs) ys d h k =
    by (has_name ys x)
    ∙ ap (λ b. if b then with_name (text_of names x) (map (text_of names) (in_both xs ys)) else map (text_of names) (in_both xs ys)) (sym (has_text names d ys x k (All-head (IsNamed names) x xs h)))
    ∙ ap (λ l. if has (map (text_of names) ys) (text_of names x) then with_name (text_of names x) l else l) (both_text names xs ys d (All-tail (IsNamed names) x xs h) k) where
      by : (b : Bool) → map (text_of names) (if b then with_number x (in_both xs ys) else in_both xs ys) ≡ (if b then with_name (text_of names x) (map (text_of names) (in_both xs ys)) else map (text_of names) (in_both xs ys))
      by true = with_text names d (in_both xs ys) x (both_named names xs ys (All-tail (IsNamed names) x xs h)) (All-head (IsNamed names) x xs h)
      by false = refl

pub numbers_text : (names : List Text) (base ns : List Name) → IsDistinct names → All (IsNamed names) base → All (IsNamed names) ns → map (text_of names) (with_numbers base ns) ≡ with_names (map (text_of names) base) (map (text_of names) ns)
numbers_text names base [] d h k = refl
numbers_text names base (n ∷ ns) d h k =
    with_text names d (with_numbers base ns) n (numbers_named names base ns h (All-tail (IsNamed names) n ns k)) (All-head (IsNamed names) n ns k)
    ∙ ap (with_name (text_of names n)) (numbers_text names base ns d h (All-tail (IsNamed names) n ns k))
