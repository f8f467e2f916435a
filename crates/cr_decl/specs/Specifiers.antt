-- Which words may stand together in the specifiers of a declaration.
use Rattle.std.specs.Prelude.{◌≡◌, ℕ, Bool, true, false, ◌&&◌, ◌||◌, ◌++◌, eqb, leb, if◌then◌else◌, List, [], ◌∷◌, count_by}
use Rattle.std.specs.List.{list_any, list_all}
use Rattle.cr_types.specs.declared.Ty.{Ty}
use Rattle.cr_types.specs.declared.Ty.TheVariants as ty
use Rattle.cr_types.specs.Types.{CType, Void, Arith}
use Rattle.cr_decl.specs.declared.SpecWord.{SpecWord}
use Rattle.cr_decl.specs.declared.SpecWord.TheVariants as w

abbrev pub number : SpecWord → ℕ
number w.Typedef = 0
number w.Extern = 1
number w.Static = 2
number w.Auto = 3
number w.Register = 4
number w.ThreadLocal = 5
number w.Const = 6
number w.Volatile = 7
number w.Restrict = 8
number w.Inline = 9
number w.Noreturn = 10
number w.Void = 11
number w.Char = 12
number w.Short = 13
number w.Int = 14
number w.Long = 15
number w.Float = 16
number w.Double = 17
number w.Signed = 18
number w.Unsigned = 19
number w.Bool = 20
number w.Complex = 21
number w.VaList = 22
number w.Alignas = 23
number w.Atomic = 24
number w.Struct = 25
number w.Union = 26
number w.Enum = 27

abbrev pub same_word : SpecWord → SpecWord → Bool
same_word a b = eqb (number a) (number b)

-- a storage-class specifier (C11 6.7.1)
abbrev pub is_store : SpecWord → Bool
is_store w.Typedef = true
is_store w.Extern = true
is_store w.Static = true
is_store w.Auto = true
is_store w.Register = true
is_store w.ThreadLocal = true
is_store _ = false

-- a type specifier that is one word (C11 6.7.2), or the compiler's `__builtin_va_list`
abbrev pub is_basic : SpecWord → Bool
is_basic w.Void = true
is_basic w.Char = true
is_basic w.Short = true
is_basic w.Int = true
is_basic w.Long = true
is_basic w.Float = true
is_basic w.Double = true
is_basic w.Signed = true
is_basic w.Unsigned = true
is_basic w.Bool = true
is_basic w.Complex = true
is_basic w.VaList = true
is_basic _ = false

abbrev pub signed_or_not : List SpecWord → List (List SpecWord)
signed_or_not ws = ws ∷ (w.Signed ∷ ws) ∷ (w.Unsigned ∷ ws) ∷ []

abbrev pub int_or_not : List SpecWord → List (List SpecWord)
int_or_not ws = signed_or_not ws ++ signed_or_not (w.Int ∷ ws)

abbrev pub complex_or_not : List SpecWord → List (List SpecWord)
complex_or_not ws = ws ∷ (w.Complex ∷ ws) ∷ []

-- the lists of type specifiers that are words, each in any order (C11 6.7.2p2)
unfoldable pub permitted : List (List SpecWord)
permitted =
    (w.Void ∷ []) ∷ (w.Bool ∷ []) ∷ (w.VaList ∷ []) ∷ (w.Signed ∷ []) ∷ (w.Unsigned ∷ [])
    ∷ (signed_or_not (w.Char ∷ [])
    ++ (signed_or_not (w.Int ∷ [])
    ++ (int_or_not (w.Short ∷ [])
    ++ (int_or_not (w.Long ∷ [])
    ++ (int_or_not (w.Long ∷ w.Long ∷ [])
    ++ (complex_or_not (w.Float ∷ [])
    ++ (complex_or_not (w.Double ∷ [])
    ++ complex_or_not (w.Long ∷ w.Double ∷ []))))))))

-- how often a word stands in a list
abbrev pub count : SpecWord → List SpecWord → ℕ
count x ws = count_by (same_word x) ws

-- each word of a list stands in the other as often or more often
abbrev pub is_part : List SpecWord → List SpecWord → Bool
is_part xs ys = list_all (λ x. leb (count x xs) (count x ys)) xs

-- some permitted list has these words, in any order, and maybe more
abbrev pub continues : List SpecWord → Bool
continues ws = list_any (is_part ws) permitted

-- each word stands in both as often
abbrev pub is_rearranged : List SpecWord → List SpecWord → Bool
is_rearranged xs ys = is_part xs ys && is_part ys xs

-- some permitted list has these words, in any order, and no more
abbrev pub is_permitted : List SpecWord → Bool
is_permitted ws = list_any (is_rearranged ws) permitted

abbrev pub is_static_or_extern : SpecWord → Bool
is_static_or_extern x = same_word x w.Static || same_word x w.Extern

abbrev pub is_thread_local : SpecWord → Bool
is_thread_local x = same_word x w.ThreadLocal

-- of storage words one may stand, or `_Thread_local` with `static` or `extern` (C11 6.7.1p2)
abbrev pub may_stand : List SpecWord → Bool
may_stand [] = true
may_stand (x ∷ []) = true
may_stand (x ∷ y ∷ []) = (is_thread_local x && is_static_or_extern y) || (is_thread_local y && is_static_or_extern x)
may_stand _ = false

-- the words of a list of specifiers so far that rules speak of, in their order
pub record Specifiers : Type 0 where
  pub basic : List SpecWord
  pub store : List SpecWord

abbrev pub no_words : Specifiers
no_words = record { basic = []; store = [] }

-- whether a word may come next
abbrev pub may_follow : Specifiers → SpecWord → Bool
may_follow s x =
    if is_basic x then continues (s.basic ++ x ∷ []) else (if is_store x then may_stand (s.store ++ x ∷ []) else true)

abbrev pub with_word : Specifiers → SpecWord → Specifiers
with_word s x =
    if is_basic x
    then record { basic = s.basic ++ x ∷ []; store = s.store }
    else (if is_store x then record { basic = s.basic; store = s.store ++ x ∷ [] } else s)

-- the type that the words name: void, or some arithmetic type
abbrev pub base_of : Specifiers → CType
base_of s = if list_any (same_word w.Void) s.basic then Void else Arith

-- the same as a type of the table that has no parts
abbrev pub IsBase : Specifiers → Ty → Type 0
IsBase s ty.Void = base_of s ≡ Void
IsBase s ty.Arith = base_of s ≡ Arith
IsBase s _ = ⊥
