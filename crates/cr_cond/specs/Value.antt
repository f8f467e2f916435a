-- The value of a conditional expression (C11 6.10.1p4, 6.5.3.3 to 6.5.15), in 64 bits. That a signed result out of
-- range is a fault, and a shift by less than 0 or more than 63 or of a negative number to the left, is an own rule
-- of this project.
use Rattle.std.specs.Prelude.{◌≡◌, ℕ, ◌+◌, ◌-◌, ◌*◌, ◌^◌, ◌/◌, ◌%◌, Bool, true, false, not, ◌&&◌, ◌||◌, ◌==◌, nat_lt, nat_le, if◌then◌else◌, List, bytes_eq, codes, Option, Some, None, is_some, Result, Ok, Err, ℤ, pos, negsuc, ◌+ℤ◌, ◌-ℤ◌, ◌*ℤ◌, neg_ℤ, int_lt, int_le, int_div, int_rem, bit_and, bit_or, bit_xor}
use Rattle.std.specs.List.{list_any}
use Rattle.std.specs.Ordering.{int_eq}
use Rattle.std.specs.Int.{w64, cast_unsigned, cast_signed, int_shr}
use Rattle.cr_base.specs.declared.token.PpKind.{PpKind}
use Rattle.cr_base.specs.declared.token.PpKind.TheVariants.{Ident}
use Rattle.cr_cond.specs.declared.CondFault.{CondFault}
use Rattle.cr_cond.specs.declared.CondFault.TheVariants.{Syntax, DivideByZero, Overflow, Constant, MadeDefined, OutOfMemory}
use Rattle.cr_cond.specs.declared.symbol.Value.{Value}
use Rattle.cr_cond.specs.declared.symbol.Value.TheVariants as v
use Rattle.cr_cond.specs.declared.arithmetic.Operands.{Operands}
use Rattle.cr_cond.specs.declared.arithmetic.Operands.TheVariants.{BothSigned, BothUnsigned}
use Rattle.cr_cond.specs.declared.symbol.Sign.{Sign}
use Rattle.cr_cond.specs.declared.symbol.Sign.TheVariants.{Plus, Minus, Flip, Not}
use Rattle.cr_cond.specs.declared.symbol.Op.{Op}
use Rattle.cr_cond.specs.declared.symbol.Op.TheVariants.{Or, And, BitOr, BitXor, BitAnd, Equal, Unequal, Less, Greater, AtMost, AtLeast, Left, Right, Add, Subtract, Times, Divide, Remainder}
use Rattle.cr_cond.specs.Symbols.{Lexeme, symbols}
use Rattle.cr_cond.specs.Reading.{Tree, Leaf, Signed, Binary, Choice, read}

abbrev pub Outcome : Type 0
Outcome = Result Value CondFault

abbrev pub and_then : Outcome → (Value → Outcome) → Outcome
and_then (Ok a) f = f a
and_then (Err e) f = Err e

abbrev pub is_zero_int : ℤ → Bool
is_zero_int (pos n) = n == 0
is_zero_int (negsuc n) = false

abbrev pub is_zero : Value → Bool
is_zero (v.Signed z) = is_zero_int z
is_zero (v.Unsigned n) = n == 0

-- a value as an unsigned one (C11 6.3.1.3)
abbrev pub bits : Value → ℕ
bits (v.Signed z) = cast_unsigned w64 z
bits (v.Unsigned n) = n

abbrev pub is_in_range : ℤ → Bool
is_in_range (pos n) = nat_lt n (2 ^ 63)
is_in_range (negsuc n) = nat_lt n (2 ^ 63)

-- an exact result, signed
abbrev pub fit : ℤ → Outcome
fit z = if is_in_range z then Ok (v.Signed z) else Err Overflow

abbrev pub in_range : Option ℤ → Outcome
in_range (Some z) = Ok (v.Signed z)
in_range None = Err Overflow

abbrev pub natural_in_range : Option ℕ → Outcome
natural_in_range (Some n) = fit (pos n)
natural_in_range None = Err Overflow

-- an exact result, unsigned (C11 6.2.5p9)
abbrev pub modulo : ℕ → Outcome
modulo n = Ok (v.Unsigned (n % 2 ^ 64))

abbrev pub truth : Bool → Outcome
truth b = Ok (v.Signed (pos (if b then 1 else 0)))

-- Operands of one type: where one operand is unsigned, both are (C11 6.3.1.8).
abbrev pub converted : Value → Value → Operands
converted (v.Signed x) (v.Signed y) = BothSigned x y
converted (v.Signed x) (v.Unsigned y) = BothUnsigned (cast_unsigned w64 x) y
converted (v.Unsigned x) (v.Signed y) = BothUnsigned x (cast_unsigned w64 y)
converted (v.Unsigned x) (v.Unsigned y) = BothUnsigned x y

abbrev pub signed_operands : ℤ → ℤ → Operands
signed_operands x y = BothSigned x y

abbrev pub unsigned_operands : ℕ → ℕ → Operands
unsigned_operands x y = BothUnsigned x y

abbrev pub sum : Operands → Outcome
sum (BothSigned x y) = fit (x +ℤ y)
sum (BothUnsigned x y) = modulo (x + y)

abbrev pub difference : Operands → Outcome
difference (BothSigned x y) = fit (x -ℤ y)
difference (BothUnsigned x y) = modulo (x + (2 ^ 64 - y))

abbrev pub product : Operands → Outcome
product (BothSigned x y) = fit (x *ℤ y)
product (BothUnsigned x y) = modulo (x * y)

-- cut towards zero (C11 6.5.5p6)
abbrev pub quotient : Operands → Outcome
quotient (BothSigned x y) = if is_zero_int y then Err DivideByZero else fit (int_div x y)
quotient (BothUnsigned x y) = if y == 0 then Err DivideByZero else Ok (v.Unsigned (x / y))

-- it has the sign of the left operand
abbrev pub remainder : Operands → Outcome
remainder (BothSigned x y) = if is_zero_int y then Err DivideByZero else Ok (v.Signed (int_rem x y))
remainder (BothUnsigned x y) = if y == 0 then Err DivideByZero else Ok (v.Unsigned (x % y))

abbrev pub by_bits : (ℕ → ℕ → ℕ) → Operands → Outcome
by_bits f (BothSigned x y) = Ok (v.Signed (cast_signed w64 (f (cast_unsigned w64 x) (cast_unsigned w64 y))))
by_bits f (BothUnsigned x y) = Ok (v.Unsigned (f x y))

abbrev pub is_equal : Operands → Bool
is_equal (BothSigned x y) = int_eq x y
is_equal (BothUnsigned x y) = x == y

abbrev pub is_less : Operands → Bool
is_less (BothSigned x y) = int_lt x y
is_less (BothUnsigned x y) = nat_lt x y

abbrev pub is_at_most : Operands → Bool
is_at_most (BothSigned x y) = int_le x y
is_at_most (BothUnsigned x y) = nat_le x y

abbrev pub negated : Value → Outcome
negated (v.Signed z) = fit (neg_ℤ z)
negated (v.Unsigned n) = modulo (0 + (2 ^ 64 - n))

-- each bit turned
abbrev pub flipped : Value → Value
flipped (v.Signed z) = v.Signed (negsuc 0 -ℤ z)
flipped (v.Unsigned n) = v.Unsigned (2 ^ 64 - 1 - n)

abbrev pub with_sign : Value → Sign → Outcome
with_sign a Plus = Ok a
with_sign a Minus = negated a
with_sign a Flip = Ok (flipped a)
with_sign a Not = truth (is_zero a)

abbrev pub below_64 : ℕ → Option ℕ
below_64 n = if nat_lt n 64 then Some n else None

-- by how much a value shifts
abbrev pub amount : Value → Option ℕ
amount (v.Signed (pos n)) = below_64 n
amount (v.Signed (negsuc n)) = None
amount (v.Unsigned n) = below_64 n

-- a shift keeps the type of its left operand (C11 6.5.7p3)
abbrev pub shifted_left : ℕ → Value → Outcome
shifted_left n (v.Signed (pos a)) = fit (pos (a * 2 ^ n))
shifted_left n (v.Signed (negsuc a)) = Err Overflow
shifted_left n (v.Unsigned a) = modulo (a * 2 ^ n)

-- and, to the right, the sign
abbrev pub shifted_right : ℕ → Value → Outcome
shifted_right n (v.Signed z) = Ok (v.Signed (int_shr z n))
shifted_right n (v.Unsigned a) = Ok (v.Unsigned (a / 2 ^ n))

abbrev pub shift_left : Value → Option ℕ → Outcome
shift_left a None = Err Overflow
shift_left a (Some n) = shifted_left n a

abbrev pub shift_right : Value → Option ℕ → Outcome
shift_right a None = Err Overflow
shift_right a (Some n) = shifted_right n a

-- what an operator gives for two values
abbrev pub computed : Value → Value → Op → Outcome
computed a b Or = truth (not (is_zero a) || not (is_zero b))
computed a b And = truth (not (is_zero a) && not (is_zero b))
computed a b BitOr = by_bits bit_or (converted a b)
computed a b BitXor = by_bits bit_xor (converted a b)
computed a b BitAnd = by_bits bit_and (converted a b)
computed a b Equal = truth (is_equal (converted a b))
computed a b Unequal = truth (not (is_equal (converted a b)))
computed a b Less = truth (is_less (converted a b))
computed a b Greater = truth (not (is_at_most (converted a b)))
computed a b AtMost = truth (is_at_most (converted a b))
computed a b AtLeast = truth (not (is_less (converted a b)))
computed a b Left = shift_left a (amount b)
computed a b Right = shift_right a (amount b)
computed a b Add = sum (converted a b)
computed a b Subtract = difference (converted a b)
computed a b Times = product (converted a b)
computed a b Divide = quotient (converted a b)
computed a b Remainder = remainder (converted a b)

-- the right operand is evaluated only where it is wanted (C11 6.5.13, 6.5.14)
abbrev pub by_left : Value → Outcome → Op → Outcome
by_left a r Or = if is_zero a then and_then r (λ b. computed a b Or) else truth true
by_left a r And = if is_zero a then truth false else and_then r (λ b. computed a b And)
by_left a r op = and_then r (λ b. computed a b op)

-- whether a result is unsigned, by its operands' types
abbrev pub is_unsigned_by : Bool → Bool → Op → Bool
is_unsigned_by a b Left = a
is_unsigned_by a b Right = a
is_unsigned_by a b BitOr = a || b
is_unsigned_by a b BitXor = a || b
is_unsigned_by a b BitAnd = a || b
is_unsigned_by a b Add = a || b
is_unsigned_by a b Subtract = a || b
is_unsigned_by a b Times = a || b
is_unsigned_by a b Divide = a || b
is_unsigned_by a b Remainder = a || b
is_unsigned_by a b _ = false

abbrev pub is_unsigned_sign : Bool → Sign → Bool
is_unsigned_sign a Not = false
is_unsigned_sign a _ = a

abbrev pub is_unsigned_leaf : Option Value → Bool
is_unsigned_leaf (Some (v.Unsigned n)) = true
is_unsigned_leaf _ = false

-- the type of a tree, evaluated or not
abbrev pub is_unsigned : Tree → Bool
is_unsigned (Leaf a) = is_unsigned_leaf a
is_unsigned (Signed s a) = is_unsigned_sign (is_unsigned a) s
is_unsigned (Binary op a b) = is_unsigned_by (is_unsigned a) (is_unsigned b) op
is_unsigned (Choice c a b) = is_unsigned a || is_unsigned b

abbrev pub leaf : Option Value → Outcome
leaf None = Err Constant
leaf (Some a) = Ok a

-- the chosen operand has the type of both (C11 6.5.15p5)
abbrev pub as_type : Bool → Value → Value
as_type true a = v.Unsigned (bits a)
as_type false a = a

abbrev pub typed : Bool → Value → Outcome
typed unsigned a = Ok (as_type unsigned a)

-- the first fault of an evaluation is the leftmost
abbrev pub eval : Tree → Outcome
eval (Leaf a) = leaf a
eval (Signed s a) = and_then (eval a) (λ x. with_sign x s)
eval (Binary op a b) = and_then (eval a) (λ x. by_left x (eval b) op)
eval (Choice c a b) = and_then (eval c) (λ x. and_then (if is_zero x then eval b else eval a) (typed (is_unsigned a || is_unsigned b)))

-- each operand is a constant that may stand there
abbrev pub has_constants : Tree → Bool
has_constants (Leaf a) = is_some a
has_constants (Signed s a) = has_constants a
has_constants (Binary op a b) = has_constants a && has_constants b
has_constants (Choice c a b) = has_constants c && has_constants a && has_constants b

abbrev pub is_ident : PpKind → Bool
is_ident Ident = true
is_ident _ = false

abbrev pub is_defined : Lexeme → Bool
is_defined t = is_ident t.kind && bytes_eq t.text (codes "defined")

abbrev pub by_tree : Option Tree → Outcome
by_tree None = Err Syntax
by_tree (Some t) = if has_constants t then eval t else Err Constant

-- the value of an `#if` list that was expanded, or its first fault
abbrev pub value_of : List Lexeme → Outcome
value_of ts = if list_any is_defined ts then Err MadeDefined else by_tree (read (symbols false ts))

-- as a number
abbrev pub number_of : Value → ℤ
number_of (v.Signed z) = z
number_of (v.Unsigned n) = pos n

abbrev pub numbered : Outcome → Result ℤ CondFault
numbered (Ok a) = Ok (number_of a)
numbered (Err e) = Err e

-- The answer is the expected one; only want of memory is free.
abbrev pub IsAnswer : Result ℤ CondFault → Result ℤ CondFault → Type 0
IsAnswer expected (Err OutOfMemory) = Unit {0}
IsAnswer expected result = result ≡ expected
