-- The declarations that are seen: of a list with one more, and the kept ones with their spellings.
use Rattle.std.proofs.Common.{◌≡◌, ℕ, zero, suc, ◌+◌, ◌-◌, ◌≤◌, Bool, true, false, cond, not, Option, Some, None, List, [], ◌∷◌, ◌++◌, length, map, refl, sym, ap, subst, ◌∙◌, arith}
use Rattle.std.specs.Prelude.{slice_get, position, nat_lt, option_map, option_and_then, unwrap_or, IfSome}
use Rattle.std.specs.List.{find, position_or_len}
use Rattle.std.proofs.lemmas.Bool.{ltb-false}
use Rattle.std.proofs.lemmas.List.{length-map}
use Rattle.std.proofs.lemmas.List.Folds.{find_at}
use Rattle.std.proofs.lemmas.Option.{slice_get_past}
use Rattle.cr_scope.specs.Declarations.{Entry}
use Rattle.cr_types.specs.declared.TypeNo.{TypeNo}
use Rattle.cr_types.specs.Types.{Void, Table, IsTypeNo, type_at}
use Rattle.cr_declared.specs.declared.rows.Row.{Row}
use Rattle.cr_declared.specs.Rows.{entry_of}
use Rattle.cr_declared.proofs.Looked.{at_row}
use Rattle.cr_binding.specs.Source.{Source}
use Rattle.cr_binding.specs.Entities.{entry}
use Rattle.cr_binding.specs.Initialising.{last_type}
use Rattle.cr_names.specs.Kept.{AreBare, AreGiven, AreSpelledBy}
use Rattle.cr_names.specs.Names.{declaration_by, declarations_by, declaration_of}

-- ---- their spellings

pub entries_same : (source : Source) (t : Table) (es : List Entry) (ns : List TypeNo) → length ns ≡ length es → AreBare es → AreSpelledBy source es
    → map (entry source) (declarations_by t es ns) ≡ es
entries_same source t [] ns c b h = refl
entries_same source t (e ∷ es) [] c b h = absurd (omega (arith, c))
entries_same source t (e ∷ es) (n ∷ ns) c b h =
    let r = entries_same source t es ns (omega (arith, c)) b.1 h.1 in
    λ j. (record {
      path = e.path;
      decl = record { space = e.decl.space; name = sym h.0 j; token = e.decl.token; kind = e.decl.kind; linkage = e.decl.linkage; note = sym b.0 j };
    }) ∷ r j

-- ---- one more

module _ (t : Table) where
  pub length_declarations : (es : List Entry) (ns : List TypeNo) → length ns ≡ length es → length (declarations_by t es ns) ≡ length es
  length_declarations [] ns h = refl
  length_declarations (e ∷ es) [] h = absurd (omega (arith, h))
  length_declarations (e ∷ es) (n ∷ ns) h = (let r : length (declarations_by t es ns) ≡ length es = length_declarations es ns (omega (arith, h)) in omega arith)

  pub declarations_more : (es : List Entry) (ns : List TypeNo) (e : Entry) (n : TypeNo) → length ns ≡ length es
      → declarations_by t (es ++ e ∷ []) (ns ++ n ∷ []) ≡ declarations_by t es ns ++ declaration_by t e n ∷ []
  declarations_more [] [] e n h = refl
  declarations_more [] (m ∷ ns) e n h = absurd (omega (arith, h))
  declarations_more (x ∷ es) [] e n h = absurd (omega (arith, h))
  declarations_more (x ∷ es) (m ∷ ns) e n h = ap (λ ds. declaration_by t x m ∷ ds) (declarations_more es ns e n (omega (arith, h)))

  -- ---- by number

  pub declared_at : (es : List Entry) (ns : List TypeNo) (k : ℕ) (e : Entry) (n : TypeNo) → slice_get es k ≡ Some e → slice_get ns k ≡ Some n
      → slice_get (declarations_by t es ns) k ≡ Some (declaration_by t e n)
  declared_at [] ns k e n h g = cc
  declared_at (x ∷ es) [] k e n h g = cc
  declared_at (x ∷ es) (m ∷ ns) zero e n h g =
      let a : x ≡ e = cc in
      let b : m ≡ n = cc in
      λ j. Some (declaration_by t (a j) (b j))
  declared_at (x ∷ es) (m ∷ ns) (suc k) e n h g = declared_at es ns k e n h g

  pub declared_past : (es : List Entry) (ns : List TypeNo) (k : ℕ) → slice_get es k ≡ None → slice_get (declarations_by t es ns) k ≡ None
  declared_past [] ns k h = refl
  declared_past (x ∷ es) [] k h = refl
  declared_past (x ∷ es) (m ∷ ns) zero h = cc
  declared_past (x ∷ es) (m ∷ ns) (suc k) h = declared_past es ns k h

  pub typed_past : (es : List Entry) (ns : List TypeNo) (k : ℕ) → slice_get ns k ≡ None → slice_get (declarations_by t es ns) k ≡ None
  typed_past [] ns k h = refl
  typed_past (x ∷ es) [] k h = refl
  typed_past (x ∷ es) (m ∷ ns) zero h = cc
  typed_past (x ∷ es) (m ∷ ns) (suc k) h = typed_past es ns k h

  pub given_at : (ns : List TypeNo) (k : ℕ) (n : TypeNo) → slice_get ns k ≡ Some n → AreGiven t ns → IsTypeNo t n
  given_at [] k n at h = cc
  given_at (m ∷ ns) zero n at h = (let e : m ≡ n = cc in subst (IsTypeNo t) e h.0)
  given_at (m ∷ ns) (suc k) n at h = given_at ns k n at h.1

  pub given_some : (ns : List TypeNo) (k : ℕ) (r : Option TypeNo) → r ≡ slice_get ns k → AreGiven t ns → IfSome r (IsTypeNo t)
  given_some ns k None e h = tt
  given_some ns k (Some n) e h = given_at ns k n (sym e) h

  -- the row and the type with a number
  pub got : (ps : List (List ℕ)) (rows : List Row) (es : List Entry) (ns : List TypeNo) (k : ℕ) (x : Row) (n : TypeNo) → map (entry_of ps) rows ≡ es
      → slice_get rows k ≡ Some x → slice_get ns k ≡ Some n → slice_get (declarations_by t es ns) k ≡ Some (declaration_of t ps (record { row = x; ty = n }))
  got ps rows es ns k x n e at given = declared_at es ns k (entry_of ps x) n (ap (λ l. slice_get l k) (sym e) ∙ at_row ps rows k x at) given

  pub none_got : (ps : List (List ℕ)) (rows : List Row) (es : List Entry) (ns : List TypeNo) (k : ℕ) → map (entry_of ps) rows ≡ es
      → slice_get rows k ≡ None → slice_get (declarations_by t es ns) k ≡ None
  none_got ps rows es ns k e at = declared_past es ns k (ap (λ l. slice_get l k) (sym e) ∙ none_mapped rows k at)
    where
      none_mapped : (rows : List Row) (k : ℕ) → slice_get rows k ≡ None → slice_get (map (entry_of ps) rows) k ≡ None
      none_mapped [] k h = refl
      none_mapped (x ∷ xs) zero h = cc
      none_mapped (x ∷ xs) (suc k) h = none_mapped xs k h

  -- ---- the last one

  last_declared : (es : List Entry) (ns : List TypeNo) (k : ℕ) → length ns ≡ length es → suc k ≡ length ns
      → last_type (declarations_by t es ns) ≡ unwrap_or (option_map (type_at t) (slice_get ns k)) Void
  last_declared [] ns k h l = absurd (omega (arith, h, l))
  last_declared (e ∷ es) [] k h l = absurd (omega (arith, h))
  last_declared (e ∷ []) (n ∷ []) zero h l = refl
  last_declared (e ∷ []) (n ∷ []) (suc k) h l = absurd (omega (arith, l))
  last_declared (e ∷ []) (n ∷ m ∷ ns) k h l = absurd (omega (arith, h))
  last_declared (e ∷ f ∷ es) (n ∷ []) k h l = absurd (omega (arith, h))
  last_declared (e ∷ f ∷ es) (n ∷ m ∷ ns) zero h l = absurd (omega (arith, l))
  last_declared (e ∷ f ∷ es) (n ∷ m ∷ ns) (suc k) h l = last_declared (f ∷ es) (m ∷ ns) k (omega (arith, h)) (omega (arith, l))

  pub last_is : (es : List Entry) (ns : List TypeNo) → length ns ≡ length es
      → last_type (declarations_by t es ns) ≡ unwrap_or (option_map (type_at t) (slice_get ns (length ns - 1))) Void
  last_is [] [] h = refl
  last_is (e ∷ es) [] h = absurd (omega (arith, h))
  last_is es (n ∷ ns) h =
      let e : length ns ≡ length (n ∷ ns) - 1 = omega arith in
      last_declared es (n ∷ ns) (length ns) h refl ∙ ap (λ k. unwrap_or (option_map (type_at t) (slice_get (n ∷ ns) k)) Void) e

-- ---- the first of a tag

position_or_len_map : {A B : Type 0} (p : B → Bool) (f : A → B) (xs : List A) → position_or_len p (map f xs) ≡ position_or_len (λ x. p (f x)) xs
position_or_len_map p f [] = refl
position_or_len_map p f (x ∷ xs) = ap (λ n. cond (not (p (f x))) (1 + n) 0) (position_or_len_map p f xs)

pub position_map : {A B : Type 0} (p : B → Bool) (f : A → B) (xs : List A) → position p (map f xs) ≡ position (λ x. p (f x)) xs
position_map p f xs =
    ap (λ n. cond (nat_lt n (length (map f xs))) (Some n) None) (position_or_len_map p f xs)
    ∙ ap (λ l. cond (nat_lt (position_or_len (λ x. p (f x)) xs) l) (Some (position_or_len (λ x. p (f x)) xs)) None) (length-map xs f)

pub find_position : {A : Type 0} (p : A → Bool) (xs : List A) → find p xs ≡ option_and_then (slice_get xs) (position p xs)
find_position {A} p xs = find_at p xs ∙ by (nat_lt (position_or_len p xs) (length xs)) refl
  where
    n : ℕ
    n = position_or_len p xs

    by : (b : Bool) → nat_lt (position_or_len p xs) (length xs) ≡ b → slice_get xs (position_or_len p xs) ≡ option_and_then (slice_get xs) (cond b (Some (position_or_len p xs)) None)
    by true e = refl
    by false e = slice_get_past xs (position_or_len p xs) (le_of e)
      where
        le_of : nat_lt (position_or_len p xs) (length xs) ≡ false → length xs ≤ position_or_len p xs
        le_of e = ltb-false (position_or_len p xs) (length xs) e
